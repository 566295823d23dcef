-- The segments of a table, one program header after another.
use Rattle.std.proofs.Common.{◌≡◌, ℕ, suc, ◌+◌, ◌-◌, ◌*◌, ◌<◌, ◌≤◌, List, [], ◌∷◌, ◌++◌, take, drop, Result, Ok, Err}
use Rattle.std.proofs.Common.{Some, None, if◌then◌else◌, Bool, true, false, nat_lt, refl, sym, ◌∙◌, ap, arith, append_assoc}
use Rattle.std.proofs.Math.Seq.{drop-drop}
use Rattle.std.proofs.lemmas.Bool.Decides.{nat_tests}
use Rattle.dump_file.specs.DumpOf.{segment_of, segments_of, is_loaded, with_header, before}
use Rattle.dump_file.specs.declared.dump.Segment.{Segment}
use Rattle.dump_file.specs.declared.refusal.DumpRefusal.{DumpRefusal}
use Rattle.dump_file.specs.declared.refusal.DumpRefusal.TheVariants.{PastEnd}

-- segments in front of what is due
abbrev pub behind : (front : List Segment) (due : Result (List Segment) DumpRefusal) → Result (List Segment) DumpRefusal
behind front (Ok others) = Ok (front ++ others)
behind front (Err why) = Err why

-- what the program headers from one on come to
abbrev pub left : (size index count : ℕ) (table : List ℕ) → Result (List Segment) DumpRefusal
left size index count table = segments_of size index (count - index) (drop (56 * index) table)

pub behind_none : (due : Result (List Segment) DumpRefusal) → behind [] due ≡ due
behind_none (Ok others) = refl
behind_none (Err why) = refl

behind_before : (front : List Segment) (s : Segment) (due : Result (List Segment) DumpRefusal)
    → behind front (before s due) ≡ behind (front ++ s ∷ []) due
behind_before front s (Ok others) = ap Ok (sym (append_assoc front (s ∷ []) others))
behind_before front s (Err why) = refl

opened : (size index count : ℕ) (table : List ℕ) → index < count
    → left size index count table ≡ with_header size index (take 56 (drop (56 * index) table)) (left size (index + 1) count table)
opened size index count table h =
    let more : count - index ≡ suc (count - (index + 1)) = omega arith in
    let place : 56 + 56 * index ≡ 56 * (index + 1) = omega arith in
    ap (λ (n : ℕ). segments_of size index n (drop (56 * index) table)) more
    ∙ ap (λ (t : List ℕ). with_header size index (take 56 (drop (56 * index) table)) (segments_of size (index + 1) (count - (index + 1)) t))
    (drop-drop 56 (56 * index) table ∙ ap (λ (n : ℕ). drop n table) (omega arith))

-- what the reading of a program header says of it
pub is_read : (b : Bool) (s t : Segment) → Some s ≡ (if b then Some t else None) → (b ≡ true) × (s ≡ t)
is_read true s t e = (refl, cc)
is_read false s t e = cc

pub not_read : (b : Bool) (t : Segment) → None ≡ (if b then Some t else None) → b ≡ false
not_read true t e = cc
not_read false t e = refl

fits : (size n : ℕ) → n ≤ size → nat_lt size n ≡ false
fits size n h = grind (arith, nat_tests)

beyond : (size n : ℕ) → size < n → nat_lt size n ≡ true
beyond size n h = grind (arith, nat_tests)

module _ (size index count : ℕ) (table : List ℕ) (front : List Segment) where
  abbrev header : List ℕ
  header = take 56 (drop (56 * index) table)

  -- a program header that isn't loaded
  pub passed : index < count → None ≡ (if is_loaded header then Some (segment_of header) else None)
      → behind front (left size index count table) ≡ behind front (left size (index + 1) count table)
  passed h e = rw (opened size index count table h, not_read _ _ e) refl

  module _ (s : Segment) (h : index < count) (e : Some s ≡ (if is_loaded header then Some (segment_of header) else None)) where
    -- one that is, and ends within the file
    pub taken : s.offset + s.size ≤ size → behind front (left size index count table) ≡ behind (front ++ s ∷ []) (left size (index + 1) count table)
    taken w =
        let is = is_read _ _ _ e in
        let within : nat_lt size ((segment_of header).offset + (segment_of header).size) ≡ false =
        ap (λ (t : Segment). nat_lt size (t.offset + t.size)) (sym is.1) ∙ fits size _ w in
        rw (opened size index count table h, is.0, within)
        (ap (λ (t : Segment). behind front (before t (left size (index + 1) count table))) (sym is.1)
        ∙ behind_before front s (left size (index + 1) count table))

    -- one that is, and doesn't
    pub past : size < s.offset + s.size → behind front (left size index count table) ≡ Err (PastEnd index)
    past w =
        let is = is_read _ _ _ e in
        let out : nat_lt size ((segment_of header).offset + (segment_of header).size) ≡ true =
        ap (λ (t : Segment). nat_lt size (t.offset + t.size)) (sym is.1) ∙ beyond size _ w in
        rw (opened size index count table h, is.0, out) refl
