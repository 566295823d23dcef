-- A line of words is cut back into them, and is no line that is refused or skipped for its bytes.
use Rattle.std.proofs.Common.{◌≡◌, ℕ, ◌+◌, ◌*◌, ◌<◌, ◌≤◌, Bool, true, false, not, ◌&&◌, cond, List, [], ◌∷◌}
use Rattle.std.proofs.Common.{◌++◌, length, filter, Result, Ok, Err, refl, sym, ◌∙◌, ap, arith, append_assoc, length-append}
use Rattle.std.specs.Prelude.{nat_lt, nat_le, ◌==◌, All}
use Rattle.std.specs.List.{list_all, slice_split}
use Rattle.std.proofs.lemmas.Bool.{and_parts, and_from, cond-true, cond-false, or_left, not_from_false, ltb-true, leb-true, lt-ltb, le-leb, le-ltb}
use Rattle.std.proofs.lemmas.Bool.Decides.{nat_tests}
use Rattle.std.proofs.lemmas.List.Elements.{All-nil, All-cons}
use Rattle.std.proofs.lemmas.List.Folds.{list_all-append}
use Rattle.std.proofs.lemmas.List.Splits.{slice_split_at, slice_split_none}
use Rattle.trace_lang.specs.declared.refusals.LineRefusal.TheVariants.{NotText, LongLine}
use Rattle.trace_lang.specs.declared.refusals.TraceRefusal.{TraceRefusal}
use Rattle.trace_lang.specs.Words.{is_blank, is_text, is_end, words_of}
use Rattle.trace_lang.specs.Lines.{State, without_return, line_met, words_met, lines_met, most_line, refused_in}
use Rattle.trace_lang.specs.Canonical.{line_of}

-- a byte that is no blank
abbrev pub is_seen : (byte : ℕ) → Bool
is_seen b = nat_le 0x21 b && nat_le b 0x7e

-- a byte of a line of words
abbrev is_plain : (byte : ℕ) → Bool
is_plain b = nat_le 0x20 b && nat_le b 0x7e

-- a word of 1 to 20 bytes
abbrev pub is_word : (word : List ℕ) → Bool
is_word w = nat_lt 0 (length w) && nat_le (length w) 20 && list_all is_seen w

abbrev pub AreWords : (words : List (List ℕ)) → Type 0
AreWords [] = Unit {0}
AreWords (w ∷ ws) = (is_word w ≡ true) × AreWords ws

-- BYTES

in_range : (low : ℕ) (b : ℕ) → (nat_le low b && nat_le b 0x7e) ≡ true → (low ≤ b) × (b ≤ 0x7e)
in_range low b h = let (l, m) = and_parts (nat_le low b) (nat_le b 0x7e) h in (leb-true low b l, leb-true b 0x7e m)

seen_plain : (b : ℕ) → is_seen b ≡ true → is_plain b ≡ true
seen_plain b h = let (l, m) = in_range 0x21 b h in and_from (nat_le 0x20 b) (nat_le b 0x7e) (le-leb 0x20 b (omega (arith, l))) (le-leb b 0x7e m)

no_blank : (b : ℕ) → is_seen b ≡ true → is_blank b ≡ false
no_blank b h = let (l, m) = in_range 0x21 b h in grind (arith, nat_tests)

plain_text : (b : ℕ) → is_plain b ≡ true → is_text b ≡ true
plain_text b h = or_left (is_plain b) (b == 9) h

no_end : (b : ℕ) → is_plain b ≡ true → is_end b ≡ false
no_end b h = let (l, m) = in_range 0x20 b h in grind (arith, nat_tests)

no_return : (b : ℕ) → is_plain b ≡ true → (b == 0x0d) ≡ false
no_return b h = let (l, m) = in_range 0x20 b h in grind (arith, nat_tests)

all_by : (p : ℕ → Bool) (P : ℕ → Type 0) → ((x : ℕ) → p x ≡ true → P x) → (xs : List ℕ) → list_all p xs ≡ true → All P xs
all_by p P h [] e = All-nil P
all_by p P h (x ∷ xs) e = let (a, b) = and_parts (p x) (list_all p xs) e in All-cons P x xs (h x a) (all_by p P h xs b)

list_by : (p q : ℕ → Bool) → ((x : ℕ) → p x ≡ true → q x ≡ true) → (xs : List ℕ) → list_all p xs ≡ true → list_all q xs ≡ true
list_by p q h [] e = refl
list_by p q h (x ∷ xs) e = let (a, b) = and_parts (p x) (list_all p xs) e in and_from (q x) (list_all q xs) (h x a) (list_by p q h xs b)

-- WORDS

parts : (w : List ℕ) → is_word w ≡ true → (nat_lt 0 (length w) ≡ true) × (nat_le (length w) 20 ≡ true) × (list_all is_seen w ≡ true)
parts w h =
    let (a, b) = and_parts (nat_lt 0 (length w) && nat_le (length w) 20) (list_all is_seen w) h in
    let (c, d) = and_parts (nat_lt 0 (length w)) (nat_le (length w) 20) a in
    (c, d, b)

pub word_by : (w : List ℕ) → 0 < length w → length w ≤ 20 → list_all is_seen w ≡ true → is_word w ≡ true
word_by w p q h =
    and_from (nat_lt 0 (length w) && nat_le (length w) 20) (list_all is_seen w)
    (and_from (nat_lt 0 (length w)) (nat_le (length w) 20) (lt-ltb 0 (length w) p) (le-leb (length w) 20 q)) h

not_blank : (w : List ℕ) → is_word w ≡ true → All (λ b. is_blank b ≡ false) w
not_blank w h = all_by is_seen (λ b. is_blank b ≡ false) no_blank w (parts w h).2

abbrev is_there : (word : List ℕ) → Bool
is_there w = not (length w == 0)

kept : (w : List ℕ) (ws : List (List ℕ)) → is_word w ≡ true → filter is_there (w ∷ ws) ≡ w ∷ filter is_there ws
kept w ws h =
    let l = ltb-true 0 (length w) (parts w h).0 in
    cond-true (is_there w) (w ∷ filter is_there ws) (filter is_there ws) (not_from_false (length w == 0) (grind (arith, nat_tests)))

-- a line of words without its end
abbrev bare : (words : List (List ℕ)) → List ℕ
bare [] = []
bare (w ∷ []) = w
bare (w ∷ x ∷ ws) = w ++ 0x20 ∷ bare (x ∷ ws)

line_bare : (ws : List (List ℕ)) → line_of ws ≡ bare ws ++ 0x0a ∷ []
line_bare [] = refl
line_bare (w ∷ []) = refl
line_bare (w ∷ x ∷ ws) = ap (λ l. w ++ 0x20 ∷ l) (line_bare (x ∷ ws)) ∙ sym (append_assoc w (0x20 ∷ bare (x ∷ ws)) (0x0a ∷ []))

words_back : (ws : List (List ℕ)) → AreWords ws → words_of (bare ws) ≡ ws
words_back [] h = refl
words_back (w ∷ []) h = ap (filter is_there) (slice_split_none is_blank w (not_blank w h.0)) ∙ kept w [] h.0
words_back (w ∷ x ∷ ws) h =
    ap (filter is_there) (slice_split_at is_blank w 0x20 (bare (x ∷ ws)) (not_blank w h.0) refl)
    ∙ kept w (slice_split is_blank (bare (x ∷ ws))) h.0 ∙ ap (λ l. w ∷ l) (words_back (x ∷ ws) h.1)

all_plain : (ws : List (List ℕ)) → AreWords ws → list_all is_plain (bare ws) ≡ true
all_plain [] h = refl
all_plain (w ∷ []) h = list_by is_seen is_plain seen_plain w (parts w h.0).2
all_plain (w ∷ x ∷ ws) h =
    list_all-append is_plain w (0x20 ∷ bare (x ∷ ws))
    ∙ and_from (list_all is_plain w) (list_all is_plain (bare (x ∷ ws))) (list_by is_seen is_plain seen_plain w (parts w h.0).2) (all_plain (x ∷ ws) h.1)

word_room : (w : List ℕ) → is_word w ≡ true → length w ≤ 20
word_room w h = leb-true (length w) 20 (parts w h).1

room : (ws : List (List ℕ)) → AreWords ws → length (bare ws) ≤ 21 * length ws
room [] h = omega arith
room (w ∷ []) h = omega (arith, word_room w h.0)
room (w ∷ x ∷ ws) h =
    let l = length-append w (0x20 ∷ bare (x ∷ ws)) in let m = room (x ∷ ws) h.1 in let n = word_room w h.0 in omega (arith, l, m, n)

-- a line of at most six words has at most 127 bytes
pub line_room : (ws : List (List ℕ)) → AreWords ws → length ws ≤ 6 → length (line_of ws) ≤ 127
line_room ws h k =
    let e = ap length (line_bare ws) ∙ length-append (bare ws) (0x0a ∷ []) in let m = room ws h in omega (arith, e, m)

unreturned : (line : List ℕ) → list_all is_plain line ≡ true → without_return line ≡ line
unreturned [] h = refl
unreturned (b ∷ []) h = cond-false (b == 0x0d) [] (b ∷ []) (no_return b (and_parts (is_plain b) true h).0)
unreturned (b ∷ c ∷ line) h = ap (λ ys. b ∷ ys) (unreturned (c ∷ line) (and_parts (is_plain b) (list_all is_plain (c ∷ line)) h).1)

-- LINES

passes : {A : Type 0} (a b : Bool) (x y z : A) → a ≡ true → b ≡ false → cond (not a) x (cond b y z) ≡ z
passes a b x y z h k = rw (h, k) refl

line_read : (s : State) (ws : List (List ℕ)) → AreWords ws → length ws ≤ 6 → line_met s (without_return (bare ws)) ≡ words_met s ws
line_read s ws h k =
    let plain = all_plain ws h in
    let short : length (bare ws) ≤ most_line = let m = room ws h in omega (arith, m) in
    ap (line_met s) (unreturned (bare ws) plain)
    ∙ passes (list_all is_text (bare ws)) (nat_lt most_line (length (bare ws))) (Err NotText) (Err LongLine) (words_met s (words_of (bare ws)))
    (list_by is_plain is_text plain_text (bare ws) plain) (le-ltb most_line (length (bare ws)) short)
    ∙ ap (words_met s) (words_back ws h)

-- the lines behind one that leads to a state
pub next_line : (s t : State) (n : ℕ) (ws : List (List ℕ)) (rest : List ℕ) → AreWords ws → length ws ≤ 6 → words_met s ws ≡ Ok t →
    lines_met s n (slice_split is_end (line_of ws ++ rest)) ≡ lines_met t (n + 1) (slice_split is_end rest)
next_line s t n ws rest h k e =
    ap (λ l. lines_met s n (slice_split is_end l)) (ap (λ l. l ++ rest) (line_bare ws) ∙ append_assoc (bare ws) (0x0a ∷ []) rest)
    ∙ ap (lines_met s n) (slice_split_at is_end (bare ws) 0x0a rest (all_by is_plain (λ b. is_end b ≡ false) no_end (bare ws) (all_plain ws h)) refl)
    ∙ ap (λ r. elim r as (λ _. Result State TraceRefusal) [ Ok u ↦ lines_met u (n + 1) (slice_split is_end rest) | Err why ↦ Err (refused_in n why) ])
    (line_read s ws h k ∙ e)
