-- What a look-up and a put leave of kept pages, and parts of a page.
use Rattle.std.proofs.Common.{◌≡◌, ℕ, ◌+◌, ◌-◌, ◌*◌, ◌/◌, ◌%◌, ◌<◌, ◌≤◌, List, ◌++◌}
use Rattle.std.proofs.Common.{length, take, drop, min, Vec, Global, Result, Ok, Err, Some, Bool, true, false, nat_eq, Contains}
use Rattle.std.proofs.Common.{refl, sym, ◌∙◌, ap, inl, inr, subst, arith, take_all}
use Rattle.std.specs.Result.{OnOk, OnErr, IfOk}
use Rattle.std.specs.Map.{lookup}
use Rattle.std.proofs.Math.Seq.{drop-drop, take-add}
use Rattle.std.proofs.lemmas.Bool.Decides.{nat_tests}
use Rattle.std.proofs.lemmas.List.{length-append, drop-take, take-take, take-append-le, take_min, length-drop}
use Rattle.lru.specs.LruCache.{LruCache, lru_cache, put_entries, promoted}
use Rattle.lru.proofs.CallerLemmas.{Contains-put_entries, Contains-lookup, Contains-promoted}
use Rattle.dump_file.specs.Held.{Holding, Untold, Absent, Bytes}
use Rattle.dump_file.specs.Filled.{IsFilled}
use Rattle.dump_file.specs.Kept.{page_of}
use Rattle.dump_file.specs.Paging.{AreFull, AreAmong, IsAdded, IsPart, StayOf}

same_number : (m n : ℕ) → nat_eq m n ≡ true → n ≡ m
same_number m n h = grind (arith, nat_tests)

pub found : (pages : List (ℕ × Vec ℕ Global)) (number : ℕ) (page : Vec ℕ Global) → Some page ≡ lookup (nat_eq number) pages
    → Contains pages (number, page)
found pages number page e =
    let there = Contains-lookup (nat_eq number) pages page (sym e) in
    subst (λ (n : ℕ). Contains pages (n, page)) (same_number number there.0 there.2) there.1

pub among_promoted : (c d : LruCache ℕ (Vec ℕ Global)) (number : ℕ) → d ≡ lru_cache (promoted (nat_eq number) c.entries) c.cap
    → AreAmong c.entries d.entries
among_promoted c d number e page m = Contains-promoted (nat_eq number) c.entries page (subst
    (λ (x : LruCache ℕ (Vec ℕ Global)). Contains x.entries page) e m)

put_added : (c : LruCache ℕ (Vec ℕ Global)) (number : ℕ) (page : Vec ℕ Global) → IsAdded c.entries
    (put_entries nat_eq c number page) number page.items
put_added c number page p m = elim (Contains-put_entries nat_eq c number page p m) [
  | inl old ↦ inl old
  | inr new ↦ inr (elim new.1 [ inl same ↦ same | inr there ↦ same_number number p.0 there.2 ], ap (λ (x : Vec ℕ Global). x.items) new.0)
]

pub after_put : {T E : Type 0} (r : Result T E) (c d : LruCache ℕ (Vec ℕ Global)) (number : ℕ) (page : Vec ℕ Global)
    → OnOk r (d ≡ lru_cache (put_entries nat_eq c number page) c.cap) → OnErr r (d ≡ c) → IsAdded c.entries d.entries number page.items
after_put (Ok x) c d number page ok err =
    subst (λ (x : LruCache ℕ (Vec ℕ Global)). IsAdded c.entries x.entries number page.items) (sym ok) (put_added c number page)
after_put (Err x) c d number page ok err = λ p m. inl (subst (λ (x : LruCache ℕ (Vec ℕ Global)). Contains x.entries p) err m)

-- a part of a front
cut : (offset size front : ℕ) (xs : List ℕ) → offset + size ≤ front → take size (drop offset (take front xs)) ≡ take size (drop offset xs)
cut offset size front xs h =
    let more : front ≡ offset + (size + (front - (offset + size))) = omega arith in
    ap (λ (n : ℕ). take size (drop offset (take n xs))) more
    ∙ ap (take size) (drop-take offset (size + (front - (offset + size))) xs)
    ∙ take-take size (size + (front - (offset + size))) (drop offset xs) (omega arith)

-- bytes that are written over all of a list
pub written : (len : ℕ) (new items : List ℕ) → length new ≡ len → take len (new ++ drop (length new) items) ≡ new
written len new items h = take-append-le len new (drop (length new) items) (omega arith) ∙ take_all len new (omega arith)

-- a part of a page that is kept
pub part_of_page : (bytes : List ℕ) (at size : ℕ) (page new : List ℕ) → at % 4096 + size ≤ 4096 → page ≡ page_of bytes (at / 4096)
    → new ≡ take size (drop (at % 4096) page) → new ≡ take size (drop at bytes)
part_of_page bytes at size page new h p e =
    let place : 4096 * (at / 4096) + at % 4096 ≡ at = omega arith in
    e ∙ ap (λ (x : List ℕ). take size (drop (at % 4096) x)) p
    ∙ cut (at % 4096) size 4096 (drop (4096 * (at / 4096)) bytes) h
    ∙ ap (take size) (drop-drop (at % 4096) (4096 * (at / 4096)) bytes ∙ ap (λ (n : ℕ). drop n bytes) place)

-- what stays where each page was kept before
pub full_among : (size : ℕ) (before after : List (ℕ × Vec ℕ Global)) → AreAmong before after → AreFull size before → AreFull size after
full_among size before after a h page m = h page (a page m)

pub stay_among : (held : Holding) (size : ℕ) (before after : List (ℕ × Vec ℕ Global)) → AreAmong before after → StayOf held size before after
stay_among Untold size before after a = tt
stay_among Absent size before after a = tt
stay_among (Bytes bytes) size before after a = λ e h page m. h page (a page m)

module _ (size : ℕ) (pages : List (ℕ × Vec ℕ Global)) (before now : ℕ) where
  -- bytes that were read and not kept
  pub part_direct : (held : Holding) (at n : ℕ) (new : List ℕ) → at + length new ≤ size → n ≤ length new → IsFilled held before now at new n
      → IsPart held size pages before now at new (nat_eq n (length new))
  part_direct Untold at n new w b f = λ e. f (grind (arith, nat_tests))
  part_direct Absent at n new w b f = tt
  part_direct (Bytes bytes) at n new w b f = λ e h.
      let all : n ≡ length new = omega (arith, f.0) in
      let same : nat_eq n (length new) ≡ true = grind (arith, nat_tests) in
      (same, sym (take_all n new (omega arith)) ∙ f.1 ∙ ap (λ (m : ℕ). take m (drop at bytes)) all)

  module _ (start n : ℕ) (page : List ℕ) (l : length page ≡ min 4096 (size - start)) where
    -- a page whose bytes didn't come
    pub part_short : (held : Holding) (at : ℕ) (new : List ℕ) → IsFilled held before now start page n → n < length page
        → IsPart held size pages before now at new false
    part_short Untold at new f k = λ _. f k
    part_short Absent at new f k = tt
    part_short (Bytes bytes) at new f k = λ e h. absurd (omega (arith, f.0))

    -- a page whose bytes came
    pub part_whole : (held : Holding) (offset at : ℕ) (new : List ℕ) → IsFilled held before now start page n → start + offset ≡ at
        → offset + length new ≤ n
        → new ≡ take (length new) (drop offset page) → IsPart held size pages before now at new true
    part_whole Untold offset at new f s k c = λ e. cc
    part_whole Absent offset at new f s k c = tt
    part_whole (Bytes bytes) offset at new f s k c = λ e h. (
      refl,
      c ∙ sym (cut offset (length new) n page k)
          ∙ ap (λ (x : List ℕ). take (length new) (drop offset x)) f.1
          ∙ cut offset (length new) n (drop start bytes) k
          ∙ ap (take (length new)) (drop-drop offset start bytes ∙ ap (λ (m : ℕ). drop m bytes) s),
    )

    page_is : (bytes : List ℕ) (number : ℕ) → IsFilled (Bytes bytes) before now start page n → size ≡ length bytes → start ≡ 4096 * number
        → length page ≤ n
        → n ≤ length page → page ≡ page_of bytes number
    page_is bytes number f e s k b =
        let many : n ≡ min 4096 (length (drop start bytes)) = omega (arith, length-drop start bytes) in
        sym (take_all n page (omega arith)) ∙ f.1 ∙ ap (λ (m : ℕ). take m (drop start bytes)) many
        ∙ take_min 4096 (drop start bytes) ∙ ap (λ (m : ℕ). take 4096 (drop m bytes)) s

    module _ (after : List (ℕ × Vec ℕ Global)) (number : ℕ) (s : start ≡ 4096 * number) (a : IsAdded pages after number page) where
      pub full_added : AreFull size pages → AreFull size after
      full_added h p m = elim (a p m) [
        | inl old ↦ h p old
        | inr new ↦ ap length new.1 ∙ l ∙ ap (λ (k : ℕ). min 4096 (size - k)) (s ∙ ap (λ (k : ℕ). 4096 * k) (sym new.0))
      ]

      pub stay_added : (held : Holding) → IsFilled held before now start page n → length page ≤ n → n ≤ length page → StayOf held size pages after
      stay_added Untold f k b = tt
      stay_added Absent f k b = tt
      stay_added (Bytes bytes) f k b = λ e h p m. elim (a p m) [
        | inl old ↦ h p old
        | inr new ↦ new.1 ∙ page_is bytes number f e s k b ∙ ap (page_of bytes) (sym new.0)
      ]

-- the same by pages of which each was kept before
pub part_among : {E : Type 0} (r : Result Bool E) (held : Holding) (size : ℕ) (pages between : List (ℕ × Vec ℕ Global)) (before now at : ℕ)
    (new : List ℕ)
    → AreAmong pages between → IfOk r (IsPart held size between before now at new) → IfOk r (IsPart held size pages before now at new)
part_among (Err e) held size pages between before now at new a h = tt
part_among (Ok came) Untold size pages between before now at new a h = h
part_among (Ok came) Absent size pages between before now at new a h = tt
part_among (Ok came) (Bytes bytes) size pages between before now at new a h = λ e k. h e (λ page m. k page (a page m))

pub stay_then : (held : Holding) (size : ℕ) (before between after : List (ℕ × Vec ℕ Global)) → StayOf held size before between
    → StayOf held size between after → StayOf held size before after
stay_then Untold size before between after h k = tt
stay_then Absent size before between after h k = tt
stay_then (Bytes bytes) size before between after h k = λ e m. k e (h e m)

-- two parts, the second from where the first ends
pub part_joined : {E : Type 0} (r : Result Bool E) (held : Holding) (size : ℕ) (pages between : List (ℕ × Vec ℕ Global)) (before mid now at front : ℕ)
    (first second : List ℕ)
    → length first ≡ front → before ≤ mid → StayOf held size pages between → IsPart held size pages before mid at first true
    → IfOk r (IsPart held size between mid now (at + front) second) → IfOk r (IsPart held size pages before now at (first ++ second))
part_joined (Err e) held size pages between before mid now at front first second l b s p q = tt
part_joined (Ok came) Untold size pages between before mid now at front first second l b s p q = λ e. let rose = q e in omega arith
part_joined (Ok came) Absent size pages between before mid now at front first second l b s p q = tt
part_joined (Ok came) (Bytes bytes) size pages between before mid now at front first second l b s p q = λ e h.
    let one = (p e h).1 in
    let two = (q e (s e h)).1 in (
      (q e (s e h)).0,
      ap (λ (x : List ℕ). x ++ second) one
          ∙ ap (λ (x : List ℕ). take (length first) (drop at bytes) ++ x)
          (two ∙ ap (take (length second)) (sym (drop-drop (length first) at bytes ∙ ap (λ (n : ℕ). drop (at + n) bytes) l)))
          ∙ sym (take-add (length first) (length second) (drop at bytes))
          ∙ ap (λ (n : ℕ). take n (drop at bytes)) (sym (length-append first second)),
    )
