-- What is written behind a text that stands at the front of an array.
use Rattle.std.proofs.Common.{◌≡◌, ℕ, ◌+◌, ◌-◌, ◌≤◌, List, ◌++◌, length, take, drop, sym}
use Rattle.std.proofs.Common.{◌∙◌, ap, arith, append_assoc, length-append, length-drop}
use Rattle.std.proofs.lemmas.List.{length-take-le, take-take, take_at}
use Rattle.std.proofs.Math.Seq.{take-append-add, take-add}

-- arrays that are the same up to a place are so up to each place before it
pub front_part : (k r : ℕ) (a b : List ℕ) → k ≤ r → take r a ≡ take r b → take k a ≡ take k b
front_part k r a b h e = sym (take-take k r a h) ∙ ap (take k) e ∙ take-take k r b h

-- four writes, each before the last
pub fronts : (old a b c d : List ℕ) (i j k l : ℕ) → j + 2 ≡ i → k + 2 ≡ j → l + 2 ≡ k → take i a ≡ take i old → take j b ≡ take j a
    → take k c ≡ take k b
    → take l d ≡ take l c → take l d ≡ take l old
fronts old a b c d i j k l h m n p q r s =
    s ∙ front_part l k c b (omega arith) r ∙ front_part l j b a (omega arith) q ∙ front_part l i a old (omega arith) p

-- a first part of what stands behind the first places
pub part_behind : (end k size : ℕ) (old new text : List ℕ) → end ≤ length old → k ≤ size → take (end + size) new ≡ take end old ++ text
    → take (end + k) new ≡ take end old ++ take k text
part_behind end k size old new text within h is =
    let less : end + k ≤ end + size = omega arith in
    let many : end ≡ length (take end old) = sym (length-take-le end old within) in
    sym (take-take (end + k) (end + size) new less) ∙ ap (take (end + k)) is
    ∙ ap (λ (j : ℕ). take (j + k) (take end old ++ text)) many ∙ take-append-add (take end old) text k

-- a text in a room, up to a place
many_in : (start at : ℕ) (room old text : List ℕ) → length room ≡ length old → start ≤ at → at ≤ length old
    → drop start room ≡ text ++ drop at old → length text ≡ at - start
many_in start at room old text size before within is =
    let left : length room - start ≡ length text + (length old - at) =
    sym (length-drop start room) ∙ ap length is ∙ length-append text (drop at old) ∙ ap (λ (k : ℕ). length text + k) (length-drop at old) in
    omega arith

pub text_in : (start at : ℕ) (room old text : List ℕ) → length room ≡ length old → start ≤ at → at ≤ length old
    → drop start room ≡ text ++ drop at old → take (at - start) (drop start room) ≡ text
text_in start at room old text size before within is =
    ap (take (at - start)) is ∙ take_at text (drop at old) (at - start) (many_in start at room old text size before within is)

-- a text that was written in a room of its own, and copied from there with what stands behind it
pub copied : (end start count most last size : ℕ) (old new room behind text : List ℕ) → length room ≡ size → length behind + (start + count) ≡ size
    → count ≤ most → start + most ≤ size → drop start room ≡ text ++ behind → end ≤ length old
    → last ≡ end + length (take (start + most - start) (drop start room))
    → take last new ≡ take end old ++ take (start + most - start) (drop start room) → take (end + count) new ≡ take end old ++ text
copied end start count most last size old new room behind text whole rest less fits is within at put =
    let cut : start + most - start ≡ most = omega arith in
    let left : length (drop start room) ≡ length room - start = length-drop start room in
    let parts : length (drop start room) ≡ length text + length behind = ap length is ∙ length-append text behind in
    let many : length text ≡ count = omega (arith, left, parts) in
    let some : length (take (start + most - start) (drop start room)) ≡ most =
    ap (λ (k : ℕ). length (take k (drop start room))) cut ∙ length-take-le most (drop start room) (omega (arith, left)) in
    let here : end + most ≡ last = omega (arith, some) in
    let all : take (end + most) new ≡ take end old ++ take most (drop start room) =
    ap (λ (k : ℕ). take k new) here ∙ put ∙ ap (λ (k : ℕ). take end old ++ take k (drop start room)) cut in
    part_behind end count most old new (take most (drop start room)) within less all
    ∙ ap (λ (t : List ℕ). take end old ++ t) (take-take count most (drop start room) less ∙ ap (take count) is ∙ take_at text behind count many)

-- a number that was written first, and then its head
pub headed : (end after count size : ℕ) (old some new head text : List ℕ) → length some ≡ length old → after ≡ end + size + count
    → after ≤ length old → 7 ≤ size → drop (after - count) some ≡ text ++ drop after old
    → take (after - (count + 7)) some ≡ take (after - (count + 7)) old
    → take (end + size) new ≡ take end some ++ head → drop (end + size) new ≡ drop (end + size) some
    → take after new ≡ take end old ++ (head ++ text)
headed end after count size old some new head text same at within wide is front put behind =
    let here : after - count ≡ end + size = omega arith in
    let left : after - (end + size) ≡ count = omega arith in
    let number : drop (end + size) some ≡ text ++ drop after old = ap (λ (k : ℕ). drop k some) (sym here) ∙ is in
    let stands : take end some ≡ take end old = front_part end (after - (count + 7)) some old (omega arith) front in
    let digits : take count (drop (end + size) some) ≡ text =
    ap (λ (k : ℕ). take k (drop (end + size) some)) (sym left) ∙ text_in (end + size) after some old text same (omega arith) within number in
    ap (λ (k : ℕ). take k new) at ∙ take-add (end + size) count new ∙ ap (λ (t : List ℕ). t ++ take count (drop (end + size) new)) put
    ∙ ap (λ (t : List ℕ). (take end some ++ head) ++ take count t) behind ∙ ap (λ (t : List ℕ). (take end some ++ head) ++ t) digits
    ∙ ap (λ (t : List ℕ). (t ++ head) ++ text) stands ∙ append_assoc (take end old) head text
