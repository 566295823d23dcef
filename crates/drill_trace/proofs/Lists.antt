-- Events that come one by one.
use Rattle.std.proofs.Common.{◌≡◌, ℕ, zero, suc, ◌+◌, ◌-◌, ◌<◌, ◌≤◌, List, []}
use Rattle.std.proofs.Common.{◌∷◌, ◌++◌, length, map, get_or, refl, sym, ap, ◌∙◌}
use Rattle.std.proofs.Common.{append_assoc, append-nil, arith}
use Rattle.std.proofs.lemmas.List.{take_more}
use Rattle.std.proofs.lemmas.List.FromFn.{length-map-range_with_len, get_or-map-range_with_len, take-map-range_with_len}
use Rattle.trails.specs.declared.event.Event.{Event}
use Rattle.drill_trace.specs.Drill.{upto, event_after, behind_event, events_from}

-- a list that grows by what a function gives of each number
pub grown : (f : ℕ → Event) (n k : ℕ) (old now new : List Event) (e : Event) → k < n → now ≡ old ++ map f (upto k) → e ≡ f k
    → new ≡ now ++ e ∷ []
    → new ≡ old ++ map f (upto (k + 1))
grown f n k old now new e lt is one more =
    let whole = map f (upto n) in
    let within : k < length whole = (let l = length-map-range_with_len f 0 n in omega (arith, l, lt)) in
    let next : map f (upto (k + 1)) ≡ map f (upto k) ++ f k ∷ [] =
    sym (take-map-range_with_len f 0 n (k + 1) (omega (arith, lt))) ∙ take_more whole k e within
    ∙ ap (λ l. l ++ get_or whole k e ∷ []) (take-map-range_with_len f 0 n k (omega (arith, lt)))
    ∙ ap (λ x. map f (upto k) ++ x ∷ []) (get_or-map-range_with_len f 0 n k k e lt (omega arith)) in
    more ∙ ap (λ l. l ++ e ∷ []) is ∙ ap (λ x. (old ++ map f (upto k)) ++ x ∷ []) one ∙ append_assoc old (map f (upto k)) (f k ∷ [])
    ∙ ap (λ l. old ++ l) (sym next)

one_more : (m x : ℕ) → events_from (suc m) x ≡ event_after x ∷ events_from m (behind_event x)
unfolding events_from
one_more m x = refl

no_more : (x : ℕ) → events_from 0 x ≡ []
unfolding events_from
no_more x = refl

-- one more event is drawn, of so many
pub drawn_more : (n k x y : ℕ) (now new : List Event) (e : Event) → k < n → e ≡ event_after x → y ≡ behind_event x → new ≡ now ++ e ∷ []
    → new ++ events_from (n - (k + 1)) y ≡ now ++ events_from (n - k) x
drawn_more n k x y now new e lt is next more =
    let m : ℕ = n - (k + 1) in
    let count : suc m ≡ n - k = omega (arith, lt) in
    ap (λ l. l ++ events_from m y) more ∙ append_assoc now (e ∷ []) (events_from m y) ∙ ap (λ z. now ++ z ∷ events_from m y) is
    ∙ ap (λ z. now ++ event_after x ∷ events_from m z) next ∙ ap (λ l. now ++ l) (sym (one_more m x)) ∙ ap (λ z. now ++ events_from z x) count

pub all_drawn : (n k x : ℕ) (now : List Event) → n ≤ k → now ≡ now ++ events_from (n - k) x
all_drawn n k x now le =
    let none : n - k ≡ 0 = omega (arith, le) in
    sym (append-nil now) ∙ ap (λ l. now ++ l) (sym (no_more x)) ∙ ap (λ z. now ++ events_from z x) (sym none)

-- how many there are
pub count_drawn : (n x : ℕ) → length (events_from n x) ≡ n
unfolding events_from
count_drawn zero x = refl
count_drawn (suc n) x = (let e = count_drawn n (behind_event x) in omega (arith, e))

-- what was put one behind the other
pub joined : {X : Type 0} (first : List X) (x y : X) (a b c d now put2 put3 put4 put5 put6 : List X) → first ≡ [] → now ≡ first ++ x ∷ []
    → put2 ≡ now ++ y ∷ []
    → put3 ≡ put2 ++ a → put4 ≡ put3 ++ b → put5 ≡ put4 ++ c → put6 ≡ put5 ++ d → put6 ≡ ((x ∷ y ∷ []) ++ (a ++ (b ++ c))) ++ d
joined first x y a b c d now put2 put3 put4 put5 put6 e f g i j k l =
    let two : put2 ≡ x ∷ y ∷ [] = g ∙ ap (λ z. z ++ y ∷ []) (f ∙ ap (λ z. z ++ x ∷ []) e) in
    l ∙ ap (λ z. z ++ d) (k ∙ ap (λ z. z ++ c) (j ∙ ap (λ z. z ++ b) (i ∙ ap (λ z. z ++ a) two))
    ∙ ap (λ z. z ++ c) (append_assoc (x ∷ y ∷ []) a b) ∙ append_assoc (x ∷ y ∷ []) (a ++ b) c ∙ ap (λ z. x ∷ y ∷ z) (append_assoc a b c))
