-- A walk as the questions that it asks, whatever answers them. A question is of type N, an answer of type I.
use Rattle.std.specs.Prelude.{Bool, List, [], ◌∷◌, ◌++◌, ◌≡◌, Option, Some, None, cond, Result, Ok, Err, ◌⊎◌}

-- a walk is done, or it asks and goes on by the answer
pub data Ask (N I A : Type 0) : Type 0 where
  done : A → Ask N I A
  ask : N → (I → Ask N I A) → Ask N I A

-- one walk, and then the walk that its end names
abbrev pub after : {N I A B : Type 0} → (walk : Ask N I A) (next : A → Ask N I B) → Ask N I B
after (done a) f = f a
after (ask n k) f = ask n (λ i. after (k i) f)

-- goes on by what a finer walk found, or stops with it
abbrev pub go_on : {M I X A : Type 0} → (stop : X → A) (next : I → Ask M I A) (found : Result I X) → Ask M I A
go_on stop f (Ok i) = f i
go_on stop f (Err x) = done (stop x)

-- each question is answered by a finer walk, which finds the answer, or a stop that ends the whole
abbrev pub finer : {N M I X A : Type 0} → (stop : X → A) (how : N → Ask M I (Result I X)) (walk : Ask N I A) → Ask M I A
finer stop how (done a) = done a
finer stop how (ask n k) = after (how n) (go_on stop (λ i. finer stop how (k i)))

-- how a walk stands on a list of items: the list ends too early, an item does not fit, or it ends with items left over
pub data Stands (N I A : Type 0) : Type 0 where
  needs : N → Stands N I A
  bad : Stands N I A
  ends : A → List I → Stands N I A

-- an item is taken where it fits
abbrev pub on : {N I A : Type 0} → (fits : N → I → Bool) (walk : Ask N I A) (items : List I) → Stands N I A
on fits (done a) items = ends a items
on fits (ask n k) [] = needs n
on fits (ask n k) (i ∷ items) = cond (fits n i) (on fits (k i) items) bad

-- how a walk ended that was fed as long as there was an answer
pub data Fed (N A : Type 0) : Type 0 where
  ended : A → Fed N A
  lacks : N → Fed N A

-- goes on by an answer, where there is one
abbrev pub with_answer : {I B : Type 0} → (answer : Option I) (otherwise : B) (then : I → B) → B
with_answer None otherwise then = otherwise
with_answer (Some i) otherwise then = then i

-- the items that a walk is fed, and how it ends
abbrev pub fed_items : {N I A : Type 0} → (give : N → Option I) (walk : Ask N I A) → List I
fed_items give (done a) = []
fed_items give (ask n k) = with_answer (give n) [] (λ i. i ∷ fed_items give (k i))

-- how a fed walk ends
abbrev pub fed_end : {N I A : Type 0} → (give : N → Option I) (walk : Ask N I A) → Fed N A
fed_end give (done a) = ended a
fed_end give (ask n k) = with_answer (give n) (lacks n) (λ i. fed_end give (k i))

-- these items answered the questions in turn, each as a relation allows, up to this end
abbrev pub Took : {N I A : Type 0} → (answers : N → I → Type 0) (walk : Ask N I A) (items : List I) (end : Fed N A) → Type 0
Took answers (done a) items end = (items ≡ []) × (end ≡ ended a)
Took answers (ask n k) [] end = end ≡ lacks n
Took answers (ask n k) (i ∷ items) end = answers n i × Took answers (k i) items end

-- what a supply may do for a question: the supply before, the items, the answer or a stop, and the supply after
abbrev pub Gives : (S N I V X : Type 0) → Type 1
Gives S N I V X = S → N → List I → Result V X → S → Type 0

-- A supply gave some items for a question, of which the last is the answer, and then the rest followed.
abbrev pub RanWord : {N I V R X S : Type 0} → (value : I → V) (gives : Gives S N I V X) (question : N)
    (rest : I → S → List I → R → S → Type 0) (before : S) (items : List I) (result : R) (after : S) → Type 0
RanWord {I} {S} value gives n go s items r s' =
    (front : List I) × (i : I) × (rest : List I) × (mid : S)
    × gives s n (front ++ i ∷ []) (Ok (value i)) mid × (items ≡ (front ++ i ∷ []) ++ rest) × go i mid rest r s'

-- A supply stopped at a question.
abbrev pub RanStop : {N I V A X S : Type 0} → (gives : Gives S N I V X) (question : N) (before : S) (items : List I)
    (result : Result A X) (after : S) → Type 0
RanStop {X} gives n s items r s' = (x : X) × gives s n items (Err x) s' × (r ≡ Err x)

-- what a supply did in turn for the questions of a walk, from one state to another
abbrev pub Ran : {N I V A X S : Type 0} → (value : I → V) (gives : Gives S N I V X) (walk : Ask N I A)
    (before : S) (items : List I) (result : Result A X) (after : S) → Type 0
Ran value gives (done a) s items r s' = (items ≡ []) × (r ≡ Ok a) × (s' ≡ s)
Ran value gives (ask n k) s items r s' = RanWord value gives n (λ i. Ran value gives (k i)) s items r s' ⊎ RanStop gives n s items r s'
