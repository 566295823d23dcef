-- What may be refused, and what calls answer beside what is due. The form is this project's own rule.
use Rattle.std.specs.Prelude.{◌≡◌, Option, Some, None, Result, Ok, Err}

-- one step and then the next, up to the first refusal
infixl 10 ◌>>=◌
abbrev pub ◌>>=◌ : {A B E : Type 0} → (first : Result A E) (next : A → Result B E) → Result B E
(Ok x) >>= f = f x
(Err why) >>= f = Err why

-- the refusal of an error is the one that is due; want of memory has none
abbrev pub Fails : {A W : Type 0} → (refusal : Option W) (due : Result A W) → Type 0
Fails None due = Unit {0}
Fails (Some why) due = due ≡ Err why

-- an answer stands for what is due, unless memory was refused
abbrev pub Gives : {A B E W : Type 0} → (refusal : E → Option W) (view : A → B) (result : Result A E) (due : Result B W) → Type 0
Gives refusal view (Ok x) due = due ≡ Ok (view x)
Gives refusal view (Err e) due = Fails (refusal e) due
