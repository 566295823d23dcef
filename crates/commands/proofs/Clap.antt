-- What clap makes of plain words for the positional arguments of each command.
use Rattle.std.proofs.Common.{◌≡◌, ℕ, List, [], ◌∷◌, ◌++◌, Option, Some, None, Bool, true, false, refl, codes, eqb, not, sym}
use Rattle.std.proofs.Common.{◌∙◌, ap, ◌&&◌, nat_lt, length, suc, ◌≤◌, ◌<◌, arith, option_and_then}
use Rattle.std.proofs.lemmas.Bool.{false≢true}
use Rattle.std.specs.List.{list_all}
use Rattle.clap.specs.Walk.{Names, Row, Text, Walk, first_of, nothing_held, walk_from, walked}
use Rattle.clap.specs.Simple.{App, Shape, argument_words, built, is_simple, matches_of, names_of}
use Rattle.clap.specs.Kinds.{Kinds, or_else}
use Rattle.clap.specs.Faults.{fault_of, is_simple_and_free, turn_fault, walk_fault}
use Rattle.clap.specs.declared.error.kind.ErrorKind.{ErrorKind}
use Rattle.clap.specs.declared.error.kind.ErrorKind.TheVariants.{MissingRequiredArgument, UnknownArgument}
use Rattle.clap.proofs.OnLiterals.{clap_on_literals}
use Rattle.commands.specs.Asked.{RawWords, ExplainWords, RunWords, DrillWords}
use Rattle.commands.specs.Command.{is_plain, raw_asked, explain_asked, run_asked, drill_asked, access_with}
use Rattle.permissions.specs.AccessNames.{el_of, kind_of}
use Rattle.commands.specs.Clap.{raw_app, explain_app, run_app, run_by, drill_app, drill_by, number_by, raw_by, explain_by, pan_by}

pub raw_simple : is_simple raw_app ≡ true
unfolding clap_on_literals
raw_simple = refl

pub raw_free : is_simple_and_free raw_app ≡ true
unfolding clap_on_literals
raw_free = refl

pub explain_simple : is_simple explain_app ≡ true
unfolding clap_on_literals
explain_simple = refl

pub explain_free : is_simple_and_free explain_app ≡ true
unfolding clap_on_literals
explain_free = refl

pub run_simple : is_simple run_app ≡ true
unfolding clap_on_literals
run_simple = refl

pub run_free : is_simple_and_free run_app ≡ true
unfolding clap_on_literals
run_free = refl

pub drill_simple : is_simple drill_app ≡ true
unfolding clap_on_literals
drill_simple = refl

pub drill_free : is_simple_and_free drill_app ≡ true
unfolding clap_on_literals
drill_free = refl

-- plain words, taken apart
pub data Plain : List Text → Type 0 where
  none : Plain []
  one : (x : ℕ) (xs : List ℕ) (rest : List Text) → eqb x 45 ≡ false → Plain rest → Plain ((x ∷ xs) ∷ rest)

not_true : (b : Bool) → not b ≡ true → b ≡ false
not_true true e = sym e
not_true false e = refl

both : (a b : Bool) → (a && b) ≡ true → (a ≡ true) × (b ≡ true)
both true b h = (refl, h)
both false b h = absurd (false≢true h)

pub plain_words : (words : List Text) → list_all is_plain words ≡ true → Plain words
plain_words [] h = none
plain_words ([] ∷ rest) h = absurd (false≢true h)
plain_words ((x ∷ xs) ∷ rest) h =
    let p = both (is_plain (x ∷ xs)) (list_all is_plain rest) h in
    one x xs rest (not_true (eqb x 45) (both (nat_lt 0 (length (x ∷ xs))) (not (eqb x 45)) p.0).1) (plain_words rest p.1)

-- the texts that matches have for names
abbrev pub texts_of : (names : List Text) (rows : List Row) → List (Option Text)
texts_of [] rows = []
texts_of (name ∷ names) rows = first_of name rows ∷ texts_of names rows

abbrev pub raw_names : List Text
raw_names = codes "IMAGE" ∷ codes "TCR" ∷ codes "TTBR0" ∷ codes "VA" ∷ []

abbrev pub explain_names : List Text
explain_names = codes "REGS" ∷ codes "DUMP" ∷ codes "VA" ∷ codes "EL" ∷ codes "KIND" ∷ codes "pan" ∷ []

abbrev pub run_names : List Text
run_names = codes "TRACE" ∷ []

-- a command by these texts
abbrev pub raw_by_texts : List (Option Text) → Option RawWords
raw_by_texts (image ∷ tcr ∷ ttbr0 ∷ va ∷ []) = raw_by image (number_by tcr) (number_by ttbr0) (number_by va)
raw_by_texts _ = None

abbrev pub explain_by_texts : List (Option Text) → Option ExplainWords
explain_by_texts (registers ∷ dump ∷ va ∷ el ∷ kind ∷ pan ∷ []) =
    explain_by registers dump (access_with (number_by va) (option_and_then el_of el) (option_and_then kind_of kind) (pan_by pan))
explain_by_texts _ = None

abbrev pub drill_names : List Text
drill_names = codes "N" ∷ []

abbrev pub run_by_texts : List (Option Text) → Option RunWords
run_by_texts (trace ∷ []) = run_by trace
run_by_texts _ = None

-- a command by its matches
abbrev pub raw_in : List Row → Option RawWords
raw_in rows = raw_by_texts (texts_of raw_names rows)

abbrev pub explain_in : List Row → Option ExplainWords
explain_in rows = explain_by_texts (texts_of explain_names rows)

abbrev pub drill_by_texts : List (Option Text) → Option DrillWords
drill_by_texts (start ∷ []) = drill_by (number_by start)
drill_by_texts _ = None

abbrev pub drill_in : List Row → Option DrillWords
drill_in rows = drill_by_texts (texts_of drill_names rows)

abbrev pub run_in : List Row → Option RunWords
run_in rows = run_by_texts (texts_of run_names rows)

a_fault : {A : Type 0} (k : A) (ks : List A) {l : List A} → l ≡ k ∷ ks → l ≡ [] → ⊥
a_fault k ks e f = let bad : k ∷ ks ≡ [] = sym e ∙ f in cc

-- what the walk over the words finds wrong
abbrev first_fault : (app : App) (words : List Text) → Kinds
first_fault a words = walk_fault (built a).top (names_of (built a)) (walk_from nothing_held) words

-- it is wrong whatever words follow
still_wrong : (s : Shape) (names : Names) (w : Walk) (word : Text) (words rest : List Text) (k : ErrorKind) (here : Kinds)
    → here ≡ turn_fault s names w word → or_else here (walk_fault s names (walked s.rules names w word) words) ≡ k ∷ []
    → ((v : Walk) → walk_fault s names v words ≡ k ∷ [] → walk_fault s names v (words ++ rest) ≡ k ∷ [])
    → or_else here (walk_fault s names (walked s.rules names w word) (words ++ rest)) ≡ k ∷ []
still_wrong s names w word words rest k [] e h f = f (walked s.rules names w word) h
still_wrong s names w word words rest k (x ∷ xs) e h f = h

longer : (s : Shape) (names : Names) (words rest : List Text) (k : ErrorKind) (w : Walk)
    → walk_fault s names w words ≡ k ∷ [] → walk_fault s names w (words ++ rest) ≡ k ∷ []
unfolding walk_fault
longer s names [] rest k w h = absurd (a_fault k [] h refl)
longer s names (word ∷ words) rest k w h =
    still_wrong s names w word words rest k (turn_fault s names w word) refl h (λ v m. longer s names words rest k v m)

-- it comes before any other fault
fault_first : (app : App) (words rest : List Text) (k : ErrorKind) → argument_words app (words ++ rest) ≡ words ++ rest
    → first_fault app words ≡ k ∷ [] → fault_of app (words ++ rest) ≡ k ∷ []
fault_first a words rest k e h =
    rw (e, longer (built a).top (names_of (built a)) words rest k (walk_from nothing_held) h) refl

-- `raw`

raw_has_0 : fault_of raw_app ([]) ≡ MissingRequiredArgument ∷ []
unfolding clap_on_literals
raw_has_0 = refl

raw_has_1 : (x1 : ℕ) (t1 : List ℕ)
    → eqb x1 45 ≡ false →
    fault_of raw_app ((x1 ∷ t1) ∷ []) ≡ MissingRequiredArgument ∷ []
unfolding clap_on_literals
raw_has_1 x1 t1 h1 = rw h1 (rw h1 refl)

raw_has_2 : (x1 x2 : ℕ) (t1 t2 : List ℕ)
    → eqb x1 45 ≡ false → eqb x2 45 ≡ false →
    fault_of raw_app ((x1 ∷ t1) ∷ (x2 ∷ t2) ∷ []) ≡ MissingRequiredArgument ∷ []
unfolding clap_on_literals
raw_has_2 x1 x2 t1 t2 h1 h2 = simp h1 (rw h2 (rw h2 refl))

raw_has_3 : (x1 x2 x3 : ℕ) (t1 t2 t3 : List ℕ)
    → eqb x1 45 ≡ false → eqb x2 45 ≡ false → eqb x3 45 ≡ false →
    fault_of raw_app ((x1 ∷ t1) ∷ (x2 ∷ t2) ∷ (x3 ∷ t3) ∷ []) ≡ MissingRequiredArgument ∷ []
unfolding clap_on_literals
raw_has_3 x1 x2 x3 t1 t2 t3 h1 h2 h3 = simp h1 (simp h2 (rw h3 (rw h3 refl)))

raw_has_4 : (x1 x2 x3 x4 : ℕ) (t1 t2 t3 t4 : List ℕ)
    → eqb x1 45 ≡ false → eqb x2 45 ≡ false → eqb x3 45 ≡ false → eqb x4 45 ≡ false →
    fault_of raw_app ((x1 ∷ t1) ∷ (x2 ∷ t2) ∷ (x3 ∷ t3) ∷ (x4 ∷ t4) ∷ []) ≡ []
unfolding clap_on_literals
raw_has_4 x1 x2 x3 x4 t1 t2 t3 t4 h1 h2 h3 h4 = simp h1 (simp h2 (simp h3 (rw h4 (rw h4 refl))))

raw_reads_4 : (x1 x2 x3 x4 : ℕ) (t1 t2 t3 t4 : List ℕ)
    → eqb x1 45 ≡ false → eqb x2 45 ≡ false → eqb x3 45 ≡ false → eqb x4 45 ≡ false →
    texts_of raw_names (matches_of raw_app ((x1 ∷ t1) ∷ (x2 ∷ t2) ∷ (x3 ∷ t3) ∷ (x4 ∷ t4) ∷ []))
    ≡ Some (x1 ∷ t1) ∷ Some (x2 ∷ t2) ∷ Some (x3 ∷ t3) ∷ Some (x4 ∷ t4) ∷ []
unfolding clap_on_literals
raw_reads_4 x1 x2 x3 x4 t1 t2 t3 t4 h1 h2 h3 h4 = simp h1 (simp h2 (simp h3 (rw h4 (rw h4 refl))))

raw_meets_more : (x1 x2 x3 x4 x5 : ℕ) (t1 t2 t3 t4 t5 : List ℕ)
    → eqb x1 45 ≡ false → eqb x2 45 ≡ false → eqb x3 45 ≡ false → eqb x4 45 ≡ false → eqb x5 45 ≡ false →
    first_fault raw_app ((x1 ∷ t1) ∷ (x2 ∷ t2) ∷ (x3 ∷ t3) ∷ (x4 ∷ t4) ∷ (x5 ∷ t5) ∷ []) ≡ UnknownArgument ∷ []
unfolding clap_on_literals
raw_meets_more x1 x2 x3 x4 x5 t1 t2 t3 t4 t5 h1 h2 h3 h4 h5 = simp h1 (simp h2 (simp h3 (simp h4 (simp h5))))

-- where there is no fault, the matches are what the words say
pub raw_read : (words : List Text) → Plain words → fault_of raw_app words ≡ [] → raw_in (matches_of raw_app words) ≡ raw_asked words
raw_read _ none e = absurd (a_fault MissingRequiredArgument [] (raw_has_0) e)
raw_read _ (one x1 t1 _ h1 none) e = absurd (a_fault MissingRequiredArgument [] (raw_has_1 x1 t1 h1) e)
raw_read _ (one x1 t1 _ h1 (one x2 t2 _ h2 none)) e = absurd (a_fault MissingRequiredArgument [] (raw_has_2 x1 x2 t1 t2 h1 h2) e)
raw_read _ (one x1 t1 _ h1 (one x2 t2 _ h2 (one x3 t3 _ h3 none))) e = absurd (a_fault MissingRequiredArgument [] (raw_has_3 x1 x2 x3 t1 t2 t3 h1 h2 h3) e)
raw_read _ (one x1 t1 _ h1 (one x2 t2 _ h2 (one x3 t3 _ h3 (one x4 t4 _ h4 none)))) e = ap raw_by_texts (raw_reads_4 x1 x2 x3 x4 t1 t2 t3 t4 h1 h2 h3 h4)
raw_read _ (one x1 t1 _ h1 (one x2 t2 _ h2 (one x3 t3 _ h3 (one x4 t4 _ h4 (one x5 t5 _ h5 p))))) e =
    absurd (a_fault UnknownArgument []
    (fault_first raw_app ((x1 ∷ t1) ∷ (x2 ∷ t2) ∷ (x3 ∷ t3) ∷ (x4 ∷ t4) ∷ (x5 ∷ t5) ∷ []) _ UnknownArgument refl
    (raw_meets_more x1 x2 x3 x4 x5 t1 t2 t3 t4 t5 h1 h2 h3 h4 h5)) e)

-- where there is a fault, the words are not those of `raw`
pub raw_refused : (words : List Text) → Plain words → (fault_of raw_app words ≡ [] → ⊥) → raw_asked words ≡ None
raw_refused _ none f = refl
raw_refused _ (one x1 t1 _ h1 none) f = refl
raw_refused _ (one x1 t1 _ h1 (one x2 t2 _ h2 none)) f = refl
raw_refused _ (one x1 t1 _ h1 (one x2 t2 _ h2 (one x3 t3 _ h3 none))) f = refl
raw_refused _ (one x1 t1 _ h1 (one x2 t2 _ h2 (one x3 t3 _ h3 (one x4 t4 _ h4 none)))) f = absurd (f (raw_has_4 x1 x2 x3 x4 t1 t2 t3 t4 h1 h2 h3 h4))
raw_refused _ (one x1 t1 _ h1 (one x2 t2 _ h2 (one x3 t3 _ h3 (one x4 t4 _ h4 (one x5 t5 _ h5 p))))) f = refl

-- `explain`

explain_has_0 : fault_of explain_app ([]) ≡ MissingRequiredArgument ∷ []
unfolding clap_on_literals
explain_has_0 = refl

explain_has_1 : (x1 : ℕ) (t1 : List ℕ)
    → eqb x1 45 ≡ false →
    fault_of explain_app ((x1 ∷ t1) ∷ []) ≡ MissingRequiredArgument ∷ []
unfolding clap_on_literals
explain_has_1 x1 t1 h1 = rw h1 (rw h1 refl)

explain_has_2 : (x1 x2 : ℕ) (t1 t2 : List ℕ)
    → eqb x1 45 ≡ false → eqb x2 45 ≡ false →
    fault_of explain_app ((x1 ∷ t1) ∷ (x2 ∷ t2) ∷ []) ≡ MissingRequiredArgument ∷ []
unfolding clap_on_literals
explain_has_2 x1 x2 t1 t2 h1 h2 = simp h1 (rw h2 (rw h2 refl))

explain_has_3 : (x1 x2 x3 : ℕ) (t1 t2 t3 : List ℕ)
    → eqb x1 45 ≡ false → eqb x2 45 ≡ false → eqb x3 45 ≡ false →
    fault_of explain_app ((x1 ∷ t1) ∷ (x2 ∷ t2) ∷ (x3 ∷ t3) ∷ []) ≡ MissingRequiredArgument ∷ []
unfolding clap_on_literals
explain_has_3 x1 x2 x3 t1 t2 t3 h1 h2 h3 = simp h1 (simp h2 (rw h3 (rw h3 refl)))

explain_has_4 : (x1 x2 x3 x4 : ℕ) (t1 t2 t3 t4 : List ℕ)
    → eqb x1 45 ≡ false → eqb x2 45 ≡ false → eqb x3 45 ≡ false → eqb x4 45 ≡ false →
    fault_of explain_app ((x1 ∷ t1) ∷ (x2 ∷ t2) ∷ (x3 ∷ t3) ∷ (x4 ∷ t4) ∷ []) ≡ MissingRequiredArgument ∷ []
unfolding clap_on_literals
explain_has_4 x1 x2 x3 x4 t1 t2 t3 t4 h1 h2 h3 h4 = simp h1 (simp h2 (simp h3 (rw h4 (rw h4 refl))))

explain_has_5 : (x1 x2 x3 x4 x5 : ℕ) (t1 t2 t3 t4 t5 : List ℕ)
    → eqb x1 45 ≡ false → eqb x2 45 ≡ false → eqb x3 45 ≡ false → eqb x4 45 ≡ false → eqb x5 45 ≡ false →
    fault_of explain_app ((x1 ∷ t1) ∷ (x2 ∷ t2) ∷ (x3 ∷ t3) ∷ (x4 ∷ t4) ∷ (x5 ∷ t5) ∷ []) ≡ []
unfolding clap_on_literals
explain_has_5 x1 x2 x3 x4 x5 t1 t2 t3 t4 t5 h1 h2 h3 h4 h5 = simp h1 (simp h2 (simp h3 (simp h4 (rw h5 (rw h5 refl)))))

explain_reads_5 : (x1 x2 x3 x4 x5 : ℕ) (t1 t2 t3 t4 t5 : List ℕ)
    → eqb x1 45 ≡ false → eqb x2 45 ≡ false → eqb x3 45 ≡ false → eqb x4 45 ≡ false → eqb x5 45 ≡ false →
    texts_of explain_names (matches_of explain_app ((x1 ∷ t1) ∷ (x2 ∷ t2) ∷ (x3 ∷ t3) ∷ (x4 ∷ t4) ∷ (x5 ∷ t5) ∷ []))
    ≡ Some (x1 ∷ t1) ∷ Some (x2 ∷ t2) ∷ Some (x3 ∷ t3) ∷ Some (x4 ∷ t4) ∷ Some (x5 ∷ t5) ∷ None ∷ []
unfolding clap_on_literals
explain_reads_5 x1 x2 x3 x4 x5 t1 t2 t3 t4 t5 h1 h2 h3 h4 h5 = simp h1 (simp h2 (simp h3 (simp h4 (rw h5 (rw h5 refl)))))

explain_has_6 : (x1 x2 x3 x4 x5 x6 : ℕ) (t1 t2 t3 t4 t5 t6 : List ℕ)
    → eqb x1 45 ≡ false → eqb x2 45 ≡ false → eqb x3 45 ≡ false → eqb x4 45 ≡ false → eqb x5 45 ≡ false → eqb x6 45 ≡ false →
    fault_of explain_app ((x1 ∷ t1) ∷ (x2 ∷ t2) ∷ (x3 ∷ t3) ∷ (x4 ∷ t4) ∷ (x5 ∷ t5) ∷ (x6 ∷ t6) ∷ []) ≡ []
unfolding clap_on_literals
explain_has_6 x1 x2 x3 x4 x5 x6 t1 t2 t3 t4 t5 t6 h1 h2 h3 h4 h5 h6 = simp h1 (simp h2 (simp h3 (simp h4 (simp h5 (rw h6 (rw h6 refl))))))

explain_reads_6 : (x1 x2 x3 x4 x5 x6 : ℕ) (t1 t2 t3 t4 t5 t6 : List ℕ)
    → eqb x1 45 ≡ false → eqb x2 45 ≡ false → eqb x3 45 ≡ false → eqb x4 45 ≡ false → eqb x5 45 ≡ false → eqb x6 45 ≡ false →
    texts_of explain_names (matches_of explain_app ((x1 ∷ t1) ∷ (x2 ∷ t2) ∷ (x3 ∷ t3) ∷ (x4 ∷ t4) ∷ (x5 ∷ t5) ∷ (x6 ∷ t6) ∷ []))
    ≡ Some (x1 ∷ t1) ∷ Some (x2 ∷ t2) ∷ Some (x3 ∷ t3) ∷ Some (x4 ∷ t4) ∷ Some (x5 ∷ t5) ∷ Some (x6 ∷ t6) ∷ []
unfolding clap_on_literals
explain_reads_6 x1 x2 x3 x4 x5 x6 t1 t2 t3 t4 t5 t6 h1 h2 h3 h4 h5 h6 = simp h1 (simp h2 (simp h3 (simp h4 (simp h5 (rw h6 (rw h6 refl))))))

-- where there is no fault, the matches are what the words say
pub explain_read : (words : List Text) → Plain words → length words ≤ 6 → fault_of explain_app words ≡ []
    → explain_in (matches_of explain_app words) ≡ explain_asked words
explain_read _ none n e = absurd (a_fault MissingRequiredArgument [] (explain_has_0) e)
explain_read _ (one x1 t1 _ h1 none) n e = absurd (a_fault MissingRequiredArgument [] (explain_has_1 x1 t1 h1) e)
explain_read _ (one x1 t1 _ h1 (one x2 t2 _ h2 none)) n e = absurd (a_fault MissingRequiredArgument [] (explain_has_2 x1 x2 t1 t2 h1 h2) e)
explain_read _ (one x1 t1 _ h1 (one x2 t2 _ h2 (one x3 t3 _ h3 none))) n e =
    absurd (a_fault MissingRequiredArgument [] (explain_has_3 x1 x2 x3 t1 t2 t3 h1 h2 h3) e)
explain_read _ (one x1 t1 _ h1 (one x2 t2 _ h2 (one x3 t3 _ h3 (one x4 t4 _ h4 none)))) n e =
    absurd (a_fault MissingRequiredArgument [] (explain_has_4 x1 x2 x3 x4 t1 t2 t3 t4 h1 h2 h3 h4) e)
explain_read _ (one x1 t1 _ h1 (one x2 t2 _ h2 (one x3 t3 _ h3 (one x4 t4 _ h4 (one x5 t5 _ h5 none))))) n e =
    ap explain_by_texts (explain_reads_5 x1 x2 x3 x4 x5 t1 t2 t3 t4 t5 h1 h2 h3 h4 h5)
explain_read _ (one x1 t1 _ h1 (one x2 t2 _ h2 (one x3 t3 _ h3 (one x4 t4 _ h4 (one x5 t5 _ h5 (one x6 t6 _ h6 none)))))) n e =
    ap explain_by_texts (explain_reads_6 x1 x2 x3 x4 x5 x6 t1 t2 t3 t4 t5 t6 h1 h2 h3 h4 h5 h6)
explain_read _ (one x1 t1 _ h1 (one x2 t2 _ h2 (one x3 t3 _ h3 (one x4 t4 _ h4 (one x5 t5 _ h5 (one x6 t6 _ h6 (one x7 t7 rest h7 p))))))) n e =
    let short : suc (suc (suc (suc (suc (suc (suc (length rest))))))) ≤ 6 = n in absurd (omega arith)

-- where there is a fault, the words are not those of `explain`
pub explain_refused : (words : List Text) → Plain words → (fault_of explain_app words ≡ [] → ⊥) → explain_asked words ≡ None
explain_refused _ none f = refl
explain_refused _ (one x1 t1 _ h1 none) f = refl
explain_refused _ (one x1 t1 _ h1 (one x2 t2 _ h2 none)) f = refl
explain_refused _ (one x1 t1 _ h1 (one x2 t2 _ h2 (one x3 t3 _ h3 none))) f = refl
explain_refused _ (one x1 t1 _ h1 (one x2 t2 _ h2 (one x3 t3 _ h3 (one x4 t4 _ h4 none)))) f = refl
explain_refused _ (one x1 t1 _ h1 (one x2 t2 _ h2 (one x3 t3 _ h3 (one x4 t4 _ h4 (one x5 t5 _ h5 none))))) f =
    absurd (f (explain_has_5 x1 x2 x3 x4 x5 t1 t2 t3 t4 t5 h1 h2 h3 h4 h5))
explain_refused _ (one x1 t1 _ h1 (one x2 t2 _ h2 (one x3 t3 _ h3 (one x4 t4 _ h4 (one x5 t5 _ h5 (one x6 t6 _ h6 none)))))) f =
    absurd (f (explain_has_6 x1 x2 x3 x4 x5 x6 t1 t2 t3 t4 t5 t6 h1 h2 h3 h4 h5 h6))
explain_refused _ (one x1 t1 _ h1 (one x2 t2 _ h2 (one x3 t3 _ h3 (one x4 t4 _ h4 (one x5 t5 _ h5 (one x6 t6 _ h6 (one x7 t7 _ h7 p))))))) f = refl

-- more words than `explain` takes
pub explain_long : (words : List Text) → 6 < length words → explain_asked words ≡ None
explain_long [] h = absurd (omega arith)
explain_long (a ∷ []) h = absurd (omega arith)
explain_long (a ∷ b ∷ []) h = absurd (omega arith)
explain_long (a ∷ b ∷ c ∷ []) h = absurd (omega arith)
explain_long (a ∷ b ∷ c ∷ d ∷ []) h = absurd (omega arith)
explain_long (a ∷ b ∷ c ∷ d ∷ e ∷ []) h = absurd (omega arith)
explain_long (a ∷ b ∷ c ∷ d ∷ e ∷ f ∷ []) h = absurd (omega arith)
explain_long (a ∷ b ∷ c ∷ d ∷ e ∷ f ∷ g ∷ rest) h = refl

-- `run`

run_has_0 : fault_of run_app ([]) ≡ MissingRequiredArgument ∷ []
unfolding clap_on_literals
run_has_0 = refl

run_has_1 : (x1 : ℕ) (t1 : List ℕ)
    → eqb x1 45 ≡ false →
    fault_of run_app ((x1 ∷ t1) ∷ []) ≡ []
unfolding clap_on_literals
run_has_1 x1 t1 h1 = rw h1 (rw h1 refl)

run_reads_1 : (x1 : ℕ) (t1 : List ℕ)
    → eqb x1 45 ≡ false →
    texts_of run_names (matches_of run_app ((x1 ∷ t1) ∷ [])) ≡ Some (x1 ∷ t1) ∷ []
unfolding clap_on_literals
run_reads_1 x1 t1 h1 = rw h1 (rw h1 refl)

run_meets_more : (x1 x2 : ℕ) (t1 t2 : List ℕ)
    → eqb x1 45 ≡ false → eqb x2 45 ≡ false →
    first_fault run_app ((x1 ∷ t1) ∷ (x2 ∷ t2) ∷ []) ≡ UnknownArgument ∷ []
unfolding clap_on_literals
run_meets_more x1 x2 t1 t2 h1 h2 = simp h1 (simp h2)

-- where there is no fault, the matches are what the words say
pub run_read : (words : List Text) → Plain words → fault_of run_app words ≡ [] → run_in (matches_of run_app words) ≡ run_asked words
run_read _ none e = absurd (a_fault MissingRequiredArgument [] (run_has_0) e)
run_read _ (one x1 t1 _ h1 none) e = ap run_by_texts (run_reads_1 x1 t1 h1)
run_read _ (one x1 t1 _ h1 (one x2 t2 _ h2 p)) e =
    absurd (a_fault UnknownArgument [] (fault_first run_app ((x1 ∷ t1) ∷ (x2 ∷ t2) ∷ []) _ UnknownArgument refl (run_meets_more x1 x2 t1 t2 h1 h2)) e)

-- where there is a fault, the words are not those of `run`
pub run_refused : (words : List Text) → Plain words → (fault_of run_app words ≡ [] → ⊥) → run_asked words ≡ None
run_refused _ none f = refl
run_refused _ (one x1 t1 _ h1 none) f = absurd (f (run_has_1 x1 t1 h1))
run_refused _ (one x1 t1 _ h1 (one x2 t2 _ h2 p)) f = refl

-- `drill`

drill_has_0 : fault_of drill_app ([]) ≡ MissingRequiredArgument ∷ []
unfolding clap_on_literals
drill_has_0 = refl

drill_has_1 : (x1 : ℕ) (t1 : List ℕ)
    → eqb x1 45 ≡ false →
    fault_of drill_app ((x1 ∷ t1) ∷ []) ≡ []
unfolding clap_on_literals
drill_has_1 x1 t1 h1 = rw h1 (rw h1 refl)

drill_reads_1 : (x1 : ℕ) (t1 : List ℕ)
    → eqb x1 45 ≡ false →
    texts_of drill_names (matches_of drill_app ((x1 ∷ t1) ∷ [])) ≡ Some (x1 ∷ t1) ∷ []
unfolding clap_on_literals
drill_reads_1 x1 t1 h1 = rw h1 (rw h1 refl)

drill_meets_more : (x1 x2 : ℕ) (t1 t2 : List ℕ)
    → eqb x1 45 ≡ false → eqb x2 45 ≡ false →
    first_fault drill_app ((x1 ∷ t1) ∷ (x2 ∷ t2) ∷ []) ≡ UnknownArgument ∷ []
unfolding clap_on_literals
drill_meets_more x1 x2 t1 t2 h1 h2 = simp h1 (simp h2)

-- where there is no fault, the matches are what the words say
pub drill_read : (words : List Text) → Plain words → fault_of drill_app words ≡ [] → drill_in (matches_of drill_app words) ≡ drill_asked words
drill_read _ none e = absurd (a_fault MissingRequiredArgument [] (drill_has_0) e)
drill_read _ (one x1 t1 _ h1 none) e = ap drill_by_texts (drill_reads_1 x1 t1 h1)
drill_read _ (one x1 t1 _ h1 (one x2 t2 _ h2 p)) e =
    absurd (a_fault UnknownArgument [] (fault_first drill_app ((x1 ∷ t1) ∷ (x2 ∷ t2) ∷
    []) _ UnknownArgument refl (drill_meets_more x1 x2 t1 t2 h1 h2)) e)

-- where there is a fault, the words are not those of `drill`
pub drill_refused : (words : List Text) → Plain words → (fault_of drill_app words ≡ [] → ⊥) → drill_asked words ≡ None
drill_refused _ none f = refl
drill_refused _ (one x1 t1 _ h1 none) f = absurd (f (drill_has_1 x1 t1 h1))
drill_refused _ (one x1 t1 _ h1 (one x2 t2 _ h2 p)) f = refl
