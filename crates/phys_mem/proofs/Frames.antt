-- Frames of pages: at first, one more, and a word that is set in its frame.
use Rattle.std.proofs.Common.{◌≡◌, ◌≤◌, ◌<◌, ◌+◌, ◌-◌, ◌*◌, ◌%◌, ◌/◌, ℕ, zero, suc, List, [], ◌∷◌, ◌++◌}
use Rattle.std.proofs.Common.{length, replicate, get_or, set, slice_index_or, refl, sym, ◌∙◌, ap, subst, arith, inl, inr}
use Rattle.std.specs.Prelude.{slice_index}
use Rattle.std.proofs.lemmas.Bool.{cases_eq}
use Rattle.std.proofs.lemmas.List.{length-append, length-replicate, length-set, get_or-set_same, get_or-set_other, get_or_append_left, get_or_default}
use Rattle.std.proofs.Math.Seq.{get_or-append_right}
use Rattle.phys_mem.specs.Pages.{AreFrames, listed, unframed, word_at}
use Rattle.phys_mem.proofs.Listed.{length_listed, listed_at, listed_set, listed_zeros}

zero_or_beyond : (n k : ℕ) → get_or {A = ℕ} (replicate n 0) k 0 ≡ 0
zero_or_beyond zero k = refl
zero_or_beyond (suc n) zero = refl
zero_or_beyond (suc n) (suc k) = zero_or_beyond n k

-- AT FIRST

all_unframed : (n : ℕ) → unframed (replicate n 0) ≡ n
all_unframed zero = refl
all_unframed (suc n) = ap (λ k. k + 1) (all_unframed n) ∙ (let e : n + 1 ≡ suc n = omega arith in e)

-- the frame of 0 stands for all pages
pub first_frames : (n capacity : ℕ) (frame_of frames : List ℕ) → frame_of ≡ replicate n 0 → frames ≡ replicate 512 0
    → 512 * (n + 1) ≤ capacity →
    AreFrames frame_of frames capacity
first_frames n capacity frame_of frames none zeros enough =
    let l : length frames ≡ 512 = ap length zeros ∙ length-replicate {A = ℕ} 512 0 in
    let u : unframed frame_of ≡ n = ap unframed none ∙ all_unframed n in
    let z : (page : ℕ) → get_or frame_of page 0 ≡ 0 = λ page. ap (λ xs. get_or xs page 0) none ∙ zero_or_beyond n page in record {
      whole = omega (arith, l);
      there = λ page. (let e = z page in omega (arith, e, l));
      zeros = λ place h. ap (λ xs. get_or xs place 0) zeros ∙ zero_or_beyond 512 place;
      own = λ page other some same. (let e = z page in absurd (omega (arith, e, some)));
      room = omega (arith, l, u, enough);
    }

-- in the frame of 0 every word is 0
pub first_words : (count : ℕ) (frame_of frames : List ℕ) → frames ≡ replicate 512 0 → listed count 0 (word_at frame_of frames) ≡ replicate count 0
first_words count frame_of frames zeros = listed_zeros count (word_at frame_of frames) (λ k.
    let place : ℕ = 512 * get_or frame_of (k / 512) 0 + k % 512 in ap (λ (xs : List ℕ). get_or xs place 0) zeros ∙ zero_or_beyond 512 place)

some_unframed : (frame_of : List ℕ) (page : ℕ) → page < length frame_of → get_or frame_of page 0 ≡ 0 → 0 < unframed frame_of
some_unframed [] page h e = absurd (omega arith)
some_unframed (zero ∷ frame_of) page h e = omega arith
some_unframed (suc n ∷ frame_of) zero h e = absurd (omega (arith, e))
some_unframed (suc n ∷ frame_of) (suc page) h e = some_unframed frame_of page (omega arith) e

one_fewer : (frame_of : List ℕ) (page q : ℕ) → page < length frame_of → get_or frame_of page 0 ≡ 0 →
    unframed (set frame_of page (suc q)) + 1 ≡ unframed frame_of
one_fewer [] page q h e = absurd (omega arith)
one_fewer (zero ∷ frame_of) zero q h e = refl
one_fewer (suc n ∷ frame_of) zero q h e = absurd (omega (arith, e))
one_fewer (zero ∷ frame_of) (suc page) q h e = ap (λ k. k + 1) (one_fewer frame_of page q (omega arith) e)
one_fewer (suc n ∷ frame_of) (suc page) q h e = one_fewer frame_of page q (omega arith) e

module _ (frame_of frames : List ℕ) (capacity : ℕ) (are : AreFrames frame_of frames capacity) where
  -- each word is read within the frames
  pub read_within : (k : ℕ) → 512 * get_or frame_of (k / 512) 0 + k % 512 < length frames
  read_within k = let t = are.there (k / 512) in omega (arith, t)

  -- A WORD THAT IS READ

  module _ (count k : ℕ) (words : List ℕ) (all : count ≤ 512 * length frame_of) (view : listed count 0 (word_at frame_of frames) ≡ words) where
    counted : length words ≡ count
    counted = ap length (sym view) ∙ length_listed count 0 (word_at frame_of frames)

    module _ (below : k < length words) where
      -- the page of a word is one of the pages
      pub page_within : k / 512 < length frame_of
      page_within = let n = counted in omega (arith, all, below, n)

      module _ (frame : ℕ) (of : frame ≡ slice_index_or frame_of (k / 512) frame) where
        pub frame_is : frame ≡ get_or frame_of (k / 512) 0
        frame_is = of ∙ get_or_default frame_of (k / 512) frame 0 page_within

        pub place_within : 512 * frame + k % 512 < length frames
        place_within = let r = read_within k in let f = frame_is in omega (arith, r, f)

        pub word_is : (x : ℕ) → x ≡ slice_index_or frames (512 * frame + k % 512) x → x ≡ slice_index words k
        word_is x read =
            let n = counted in
            read ∙ get_or_default frames (512 * frame + k % 512) x 0 place_within
            ∙ ap (λ f. get_or frames (512 * f + k % 512) 0) frame_is
            ∙ sym (listed_at count (word_at frame_of frames) k (omega (arith, below, n)))
            ∙ ap (λ (v : List ℕ). get_or v k 0) view

  -- ONE FRAME MORE

  -- a page is read to have no frame of its own, and gets the next one
  module _ (page frame : ℕ) (within : page < length frame_of) (read : frame ≡ slice_index_or frame_of page frame) (none : frame ≡ 0) where
    free : get_or frame_of page 0 ≡ 0
    free = sym (get_or_default frame_of page frame 0 within) ∙ sym read ∙ none

    pub has_room : length frames + 512 ≤ capacity
    has_room = let r = are.room in let s = some_unframed frame_of page within free in omega (arith, r, s)

    module _ (next : ℕ) (last : next ≡ length frames / 512) where
      abbrev more : List ℕ
      more = set frame_of page next

      abbrev longer : List ℕ
      longer = frames ++ replicate 512 0

      behind : 512 * next ≡ length frames
      behind = let w = are.whole in omega (arith, last, w)

      above : 0 < next
      above = let t = are.there page in omega (arith, behind, t)

      sized : length longer ≡ length frames + 512
      sized = length-append frames (replicate 512 0) ∙ ap (λ n. length frames + n) (length-replicate {A = ℕ} 512 0)

      fewer : unframed more + 1 ≡ unframed frame_of
      fewer = let e : suc (next - 1) ≡ next = (let a = above in omega (arith, a)) in
          subst (λ n. unframed (set frame_of page n) + 1 ≡ unframed frame_of) e (one_fewer frame_of page (next - 1) within free)

      here : (j : ℕ) → j ≡ page → get_or more j 0 ≡ next
      here j same = ap (λ x. get_or more x 0) same ∙ get_or-set_same frame_of page next 0 within

      elsewhere : (j : ℕ) → (j ≡ page → ⊥) → get_or more j 0 ≡ get_or frame_of j 0
      elsewhere j other = get_or-set_other frame_of page j next 0 other

      below : (j : ℕ) → get_or frame_of j 0 < next
      below j = let t = are.there j in omega (arith, t, behind)

      there_now : (j : ℕ) → 512 * get_or more j 0 + 512 ≤ length longer
      there_now j = elim (cases_eq j page) as (λ _. 512 * get_or more j 0 + 512 ≤ length longer) [
        | inl same ↦ let m = here j same in omega (arith, m, behind, sized)
        | inr other ↦ let m = elsewhere j other in let t = are.there j in omega (arith, m, t, sized)
      ]

      own_now : (j k : ℕ) → 0 < get_or more j 0 → get_or more j 0 ≡ get_or more k 0 → j ≡ k
      own_now j k some same = elim (cases_eq j page) as (λ _. j ≡ k) [
        | inl first ↦ elim (cases_eq k page) as (λ _. j ≡ k) [
          | inl second ↦ first ∙ sym second
          | inr other ↦ let a = here j first in let b = elsewhere k other in let t = below k in absurd (omega (arith, a, b, t, same))
        ]
        | inr other ↦ elim (cases_eq k page) as (λ _. j ≡ k) [
          | inl second ↦ let a = here k second in let b = elsewhere j other in let t = below j in absurd (omega (arith, a, b, t, same))
          | inr too ↦ let a = elsewhere j other in let b = elsewhere k too in are.own j k (omega (arith, a, some)) (sym a ∙ same ∙ b)
        ]
      ]

      zeros_now : (place : ℕ) → place < 512 → get_or longer place 0 ≡ 0
      zeros_now place h = let t = are.there page in get_or_append_left frames (replicate 512 0) 0 place (omega (arith, t, h)) ∙ are.zeros place h

      pub more_frames : AreFrames more longer capacity
      more_frames = record {
        whole = (let w = are.whole in let s = sized in omega (arith, w, s));
        there = there_now;
        zeros = zeros_now;
        own = own_now;
        room = (let r = are.room in omega (arith, r, sized, fewer));
      }

      new_word : (k : ℕ) → k / 512 ≡ page → word_at more longer k ≡ 0
      new_word k same =
          ap (λ n. get_or longer (512 * n + k % 512) 0) (here (k / 512) same)
          ∙ get_or-append_right frames (replicate 512 0) (512 * next + k % 512) 0 (omega (arith, behind))
          ∙ zero_or_beyond 512 (512 * next + k % 512 - length frames)

      old_word : (k : ℕ) → k / 512 ≡ page → word_at frame_of frames k ≡ 0
      old_word k same =
          let none : get_or frame_of (k / 512) 0 ≡ 0 = ap (λ x. get_or frame_of x 0) same ∙ free in
          ap (λ n. get_or frames (512 * n + k % 512) 0) none
          ∙ ap (λ i. get_or frames i 0) (let e : 512 * 0 + k % 512 ≡ k % 512 = omega arith in e)
          ∙ are.zeros (k % 512) (omega arith)

      -- no word changes
      pub same_words : (k : ℕ) → word_at more longer k ≡ word_at frame_of frames k
      same_words k = elim (cases_eq (k / 512) page) as (λ _. word_at more longer k ≡ word_at frame_of frames k) [
        | inl same ↦ new_word k same ∙ sym (old_word k same)
        | inr other ↦ ap (λ n. get_or longer (512 * n + k % 512) 0) (elsewhere (k / 512) other)
            ∙ get_or_append_left frames (replicate 512 0) 0 _ (read_within k)
      ]

  -- A WORD THAT IS SET

  -- the frame of its page is the page's own
  module _ (k value frame : ℕ) (of : frame ≡ get_or frame_of (k / 512) 0) (some : 0 < frame) where
    abbrev written : List ℕ
    written = set frames (512 * frame + k % 512) value

    set_word : word_at frame_of written k ≡ value
    set_word = ap (λ n. get_or written (512 * n + k % 512) 0) (sym of)
        ∙ get_or-set_same frames (512 * frame + k % 512) value 0 (let r = read_within k in omega (arith, of, r))

    other_word : (j : ℕ) → (j ≡ k → ⊥) → word_at frame_of written j ≡ word_at frame_of frames j
    other_word j other = get_or-set_other frames (512 * frame + k % 512) (512 * get_or frame_of (j / 512) 0 + j % 512) value 0 (λ e.
        let same : get_or frame_of (k / 512) 0 ≡ get_or frame_of (j / 512) 0 = omega (arith, of, e) in
        let page : k / 512 ≡ j / 512 = are.own (k / 512) (j / 512) (omega (arith, of, some)) same in
        other (omega (arith, of, e, same, page)))

    pub written_frames : AreFrames frame_of written capacity
    written_frames =
        let l = length-set frames (512 * frame + k % 512) value in record {
          whole = (let w = are.whole in omega (arith, l, w));
          there = λ page. (let t = are.there page in omega (arith, l, t));
          zeros = λ place h. get_or-set_other frames (512 * frame + k % 512) place value 0 (λ e. (let s = some in omega (arith, e, h, s)))
              ∙ are.zeros place h;
          own = are.own;
          room = (let r = are.room in omega (arith, l, r));
        }

    -- the words of before, whose frames were others, with one of them set
    pub written_words : (count : ℕ) (before : ℕ → ℕ) → k < length (listed count 0 before)
        → ((j : ℕ) → word_at frame_of frames j ≡ before j) →
        listed count 0 (word_at frame_of written) ≡ set (listed count 0 before) k value
    written_words count before below same =
        let l = length_listed count 0 before in
        listed_set count before (word_at frame_of written) k value (omega (arith, l, below)) set_word (λ j other. other_word j other ∙ same j)
