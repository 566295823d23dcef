-- What is due comes, and what comes was due.
use Rattle.std.proofs.Common.{◌≡◌, ◌≢◌, ℕ, List, [], ◌∷◌, Option, Some, None, Ok, Err, inl, inr, refl, sym, ap, ◌∙◌, subst}
use Rattle.dump_file.specs.Held.{Holding, Untold, Absent, Bytes, Reading, IsMissingBy}
use Rattle.explain_text.specs.Written.{Writing, WriteFails, Got, GotNothing}
use Rattle.commands.specs.Asked.{Asked}
use Rattle.statuses.specs.Stops.{Form, Named, refusal_in, PassesBy, IsRefusedBy, Stops}
use Rattle.answers.specs.Answers.{words_refusal, files_of, IsTextOf, StopsIn}
use Rattle.top_call.specs.Clauses.{SurelyPassesBy, IsSurelyRefusedBy, SurelyStops, IsRead, SurelyStopsIn, AllPass}
use Rattle.answers.specs.Answers.{Due, MayEndBy, MayEnd, IsText, IsDue}
use Rattle.top_call.specs.Clauses.{SurelyEndsBy, SurelyEnds, IsAnswerable, Tells, Comes, UsageWhere, RefusedWhere, NoFileWhere}
use Rattle.top_call.specs.Clauses.{ReadFaultWhere, WriteFaultWhere, DoneWhere, Completes, IsComplete}
use Rattle.answers.proofs.Passing.{PassAll, text_passes}
use Rattle.statuses.specs.declared.status.Why.{Why}
use Rattle.statuses.specs.declared.status.Status.{Status}
use Rattle.statuses.specs.declared.status.Status.TheVariants.{Done, Usage, NoFile, Refused, ReadFault, WriteFault, NoMemory}

-- one thing is not both there and not
both_ways : {A : Type 0} (o : Option A) (x : A) → o ≡ None → o ≡ Some x → ⊥
both_ways None x h k = let bad : None ≡ Some x = k in cc
both_ways (Some y) x h k = let bad : Some y ≡ None = h in cc

same_some : {A : Type 0} (o : Option A) (x y : A) → o ≡ Some x → o ≡ Some y → x ≡ y
same_some None x y h k = absurd (let bad : None ≡ Some x = h in cc)
same_some (Some z) x y h k = let e : Some z ≡ Some x = h in let f : Some z ≡ Some y = k in cc

-- a status that surely stops a command is the one that stops it, but for want of memory
data Agree (r : Reading) (want status : Status) : Type 0 where
  the_same : status ≡ want → Agree r want status
  no_memory : status ≡ NoMemory → Agree r want status

module _ (r : Reading) where
  -- a file that surely passes stops nothing
  passes_missing : (h : Holding) (f : Form) (m n : ℕ) → SurelyPassesBy h f → IsMissingBy h m n → ⊥
  passes_missing Untold f m n p k = p
  passes_missing Absent f m n p k = p
  passes_missing (Bytes bytes) f m n p k = k

  passes_refused : (h : Holding) (f : Form) (why : Why) → SurelyPassesBy h f → IsRefusedBy h f why → ⊥
  passes_refused Untold f why p k = p
  passes_refused Absent f why p k = p
  passes_refused (Bytes bytes) f why p k = both_ways (refusal_in f bytes) why p k

  passes_stops : (f : Named) (status : Status) → IsRead r f → SurelyPassesBy (r.holds f.name) f.form → Stops r f status → status ≡ NoMemory
  passes_stops f (NoFile name) n p s = absurd (passes_missing (r.holds f.name) f.form (r.missing f.name) (r.missing_after f.name) p s.1)
  passes_stops f (Refused why) n p s = absurd (passes_refused (r.holds f.name) f.form why p s)
  passes_stops f ReadFault n p s = absurd (n s)
  passes_stops f NoMemory n p s = refl
  passes_stops f Done n p s = absurd s
  passes_stops f Usage n p s = absurd s
  passes_stops f WriteFault n p s = absurd s

  -- files that surely pass stop nothing
  pass_in : (fs : List Named) (status : Status) → AllPass r fs → StopsIn r fs status → status ≡ NoMemory
  pass_in [] status p t = t
  pass_in (f ∷ fs) status p (inl t) = passes_stops f status p.0 p.1 t
  pass_in (f ∷ fs) status p (inr t) = pass_in fs status p.2 t.1

  -- one that surely is missing, or refused, doesn't pass
  missing_passes : (h : Holding) (f : Form) → h ≡ Absent → PassesBy h f → ⊥
  missing_passes h f e p = let q : PassesBy Absent f = subst (λ x. PassesBy x f) e p in q

  refused_passes : (h : Holding) (f : Form) (why : Why) → IsSurelyRefusedBy h f why → PassesBy h f → ⊥
  refused_passes Untold f why k p = k
  refused_passes Absent f why k p = k
  refused_passes (Bytes bytes) f why k p = both_ways (refusal_in f bytes) why p k

  stop_passes : (f : Named) (want : Status) → SurelyStops r f want → PassesBy (r.holds f.name) f.form → ⊥
  stop_passes f (NoFile name) s p = missing_passes (r.holds f.name) f.form s.1 p
  stop_passes f (Refused why) s p = refused_passes (r.holds f.name) f.form why s p
  stop_passes f ReadFault s p = s
  stop_passes f NoMemory s p = s
  stop_passes f Done s p = s
  stop_passes f Usage s p = s
  stop_passes f WriteFault s p = s

  missing_refused : (h : Holding) (f : Form) (why : Why) → h ≡ Absent → IsRefusedBy h f why → ⊥
  missing_refused h f why e k = let q : IsRefusedBy Absent f why = subst (λ x. IsRefusedBy x f why) e k in q

  refused_missing : (h : Holding) (f : Form) (why : Why) (m n : ℕ) → IsSurelyRefusedBy h f why → IsMissingBy h m n → ⊥
  refused_missing Untold f why m n k p = k
  refused_missing Absent f why m n k p = k
  refused_missing (Bytes bytes) f why m n k p = p

  one_why : (h : Holding) (f : Form) (v w : Why) → IsSurelyRefusedBy h f v → IsRefusedBy h f w → w ≡ v
  one_why Untold f v w k l = absurd k
  one_why Absent f v w k l = absurd k
  one_why (Bytes bytes) f v w k l = same_some (refusal_in f bytes) w v l k

  -- what surely stops, stops
  stop_stops : (f : Named) (want status : Status) → IsRead r f → SurelyStops r f want → Stops r f status → Agree r want status
  stop_stops f want ReadFault n s t = absurd (n t)
  stop_stops f want NoMemory n s t = no_memory refl
  stop_stops f want Done n s t = absurd t
  stop_stops f want Usage n s t = absurd t
  stop_stops f want WriteFault n s t = absurd t
  stop_stops f (NoFile name) (NoFile m) n s t = the_same (ap NoFile (t.0 ∙ sym s.0))
  stop_stops f (NoFile name) (Refused why) n s t = absurd (missing_refused (r.holds f.name) f.form why s.1 t)
  stop_stops f (Refused why) (NoFile m) n s t = absurd (refused_missing (r.holds f.name) f.form why (r.missing f.name) (r.missing_after f.name) s t.1)
  stop_stops f (Refused why) (Refused w) n s t = the_same (ap Refused (one_why (r.holds f.name) f.form why w s t))
  stop_stops f ReadFault (NoFile m) n s t = absurd s
  stop_stops f ReadFault (Refused w) n s t = absurd s
  stop_stops f NoMemory (NoFile m) n s t = absurd s
  stop_stops f NoMemory (Refused w) n s t = absurd s
  stop_stops f Done (NoFile m) n s t = absurd s
  stop_stops f Done (Refused w) n s t = absurd s
  stop_stops f Usage (NoFile m) n s t = absurd s
  stop_stops f Usage (Refused w) n s t = absurd s
  stop_stops f WriteFault (NoFile m) n s t = absurd s
  stop_stops f WriteFault (Refused w) n s t = absurd s

  agree_in : (fs : List Named) (want status : Status) → SurelyStopsIn r fs want → StopsIn r fs status → Agree r want status
  agree_in [] want status s t = absurd s
  agree_in (f ∷ fs) want status (n, inl s) (inl t) = stop_stops f want status n s t
  agree_in (f ∷ fs) want status (n, inl s) (inr t) = absurd (stop_passes f want s t.0)
  agree_in (f ∷ fs) want status (n, inr s) (inl t) = no_memory (passes_stops f status n s.0 t)
  agree_in (f ∷ fs) want status (n, inr s) (inr t) = agree_in fs want status s.1 t.1

  surely_pass : (fs : List Named) (want : Status) → SurelyStopsIn r fs want → PassAll r.holds fs → ⊥
  surely_pass [] want s p = s
  surely_pass (f ∷ fs) want (n, inl s) p = stop_passes f want s p.0
  surely_pass (f ∷ fs) want (n, inr s) p = surely_pass fs want s.1 p.1

  -- a command that surely ends otherwise has no text
  text_ends : (a : Asked) (o : Option Why) (want : Status) (text : List ℕ) → o ≡ None → SurelyEndsBy r o (files_of a) want → IsTextOf r.holds a text
      → ⊥
  text_ends a (Some why) want text e s t = let bad : Some why ≡ None = e in cc
  text_ends a None want text e s t = surely_pass (files_of a) want s (text_passes r.holds a text t)

  -- neither Done nor WriteFault nor Usage ends a command
  ends_not : (x : Status) → x ≢ NoMemory → ((f : Named) → Stops r f x → ⊥) → (fs : List Named) → StopsIn r fs x → ⊥
  ends_not x m g [] t = m t
  ends_not x m g (f ∷ fs) (inl t) = g f t
  ends_not x m g (f ∷ fs) (inr t) = ends_not x m g fs t.1

  ends_by : (x : Status) (o : Option Why) (fs : List Named) → ((why : Why) → x ≢ Refused why) → x ≢ NoMemory → ((f : Named) → Stops r f x → ⊥)
      → MayEndBy r o fs x → ⊥
  ends_by x (Some why) fs n m g (inl e) = n why e
  ends_by x (Some why) fs n m g (inr e) = m e
  ends_by x None fs n m g t = ends_not x m g fs t

  never_done : (asked : Option Asked) → IsDue r asked (Err Done) → ⊥
  never_done None (inl e) = cc
  never_done None (inr e) = cc
  never_done (Some a) d = ends_by Done (words_refusal a) (files_of a) (λ why h. cc) (λ h. cc) (λ f t. t) d

  never_write : (asked : Option Asked) → IsDue r asked (Err WriteFault) → ⊥
  never_write None (inl e) = cc
  never_write None (inr e) = cc
  never_write (Some a) d = ends_by WriteFault (words_refusal a) (files_of a) (λ why h. cc) (λ h. cc) (λ f t. t) d

  module _ (out err : Writing) where
    -- a status that is neither Done nor WriteFault was due
    was_due : (due : Due) (status x : Status) → Tells out err due status → status ≡ x → x ≢ Done → x ≢ WriteFault → due ≡ Err x
    was_due (Ok text) status x (inl w) e n m = absurd (n (sym e ∙ w.0))
    was_due (Err st) status x (inl w) e n m = ap (λ z. Err z) (sym w.0 ∙ e)
    was_due due status x (inr f) e n m = absurd (m (sym e ∙ f.0))

    due_as : (asked : Option Asked) (due : Due) (status x : Status) → IsDue r asked due → Tells out err due status → status ≡ x → x ≢ Done
        → x ≢ WriteFault
        → IsDue r asked (Err x)
    due_as asked due status x d t e n m = subst (IsDue r asked) (was_due due status x t e n m) d

    -- what was due comes
    comes : (st status : Status) → Tells out err (Err st) status → Comes err st status
    comes st status (inl w) = inl w.0
    comes st status (inr f) = inr (inr (f.0, f.1.0))

    comes_as : (st want status : Status) → st ≡ want → Tells out err (Err st) status → Comes err want status
    comes_as st want status e t = subst (λ z. Comes err z status) e (comes st status t)

    comes_memory : (want status : Status) → Comes err NoMemory status → Comes err want status
    comes_memory want status (inl e) = inr (inl e)
    comes_memory want status (inr (inl e)) = inr (inl e)
    comes_memory want status (inr (inr e)) = inr (inr e)

    comes_by : (want st status : Status) → Agree r want st → Tells out err (Err st) status → Comes err want status
    comes_by want st status (the_same e) t = comes_as st want status e t
    comes_by want st status (no_memory e) t = comes_memory want status (comes_as st NoMemory status e t)

    usage_only : (asked : Option Asked) → IsDue r asked (Err Usage) → asked ≡ None
    usage_only None d = refl
    usage_only (Some a) d = absurd (ends_by Usage (words_refusal a) (files_of a) (λ why h. cc) (λ h. cc) (λ f t. t) d)

    usage_due : (due : Due) (status : Status) → IsDue r None due → Tells out err due status → Comes err Usage status
    usage_due (Ok text) status d t = absurd d
    usage_due (Err st) status (inl e) t = comes_as st Usage status e t
    usage_due (Err st) status (inr e) t = comes_memory Usage status (comes_as st NoMemory status e t)

    pub usage_where : (asked : Option Asked) (due : Due) (status : Status) → IsDue r asked due → Tells out err due status → UsageWhere err asked status
    usage_where asked due status d t = record {
      only = λ e. usage_only asked (due_as asked due status Usage d t e (λ h. cc) (λ h. cc));
      due = λ e. usage_due due status (subst (λ z. IsDue r z due) e d) t;
    }

    -- what surely ends a command comes
    ends_due : (a : Asked) (o : Option Why) (want st status : Status) → SurelyEndsBy r o (files_of a) want → MayEndBy r o (files_of a) st
        → Tells out err (Err st) status → Comes err want status
    ends_due a (Some why) want st status s (inl e) t = comes_as st want status (e ∙ sym s) t
    ends_due a (Some why) want st status s (inr e) t = comes_memory want status (comes_as st NoMemory status e t)
    ends_due a None want st status s d t = comes_by want st status (agree_in (files_of a) want st s d) t

    ends_comes : (a : Asked) (want : Status) (due : Due) (status : Status) → SurelyEnds r a want → IsDue r (Some a) due → Tells out err due status
        → Comes err want status
    ends_comes a want (Ok text) status s d t = absurd (text_ends a (words_refusal a) want text d.0 s d.1)
    ends_comes a want (Err st) status s d t = ends_due a (words_refusal a) want st status s d t

    ended : (asked : Option Asked) (x : Status) → x ≢ Usage → x ≢ NoMemory → IsDue r asked (Err x)
        → (a : Asked) × (asked ≡ Some a) × MayEnd r a x
    ended None x n m (inl e) = absurd (n e)
    ended None x n m (inr e) = absurd (m e)
    ended (Some a) x n m d = (a, refl, d)

    pub refused_where : (asked : Option Asked) (due : Due) (status : Status) → IsDue r asked due → Tells out err due status
        → RefusedWhere r err asked status
    refused_where asked due status d t = record {
      only = λ why e. ended asked (Refused why) (λ h. cc) (λ h. cc) (due_as asked due status (Refused why) d t e (λ h. cc) (λ h. cc));
      due = λ a e why s. ends_comes a (Refused why) due status s (subst (λ z. IsDue r z due) e d) t;
    }

    pub no_file_where : (asked : Option Asked) (due : Due) (status : Status) → IsDue r asked due → Tells out err due status
        → NoFileWhere r err asked status
    no_file_where asked due status d t = record {
      only = λ name e. ended asked (NoFile name) (λ h. cc) (λ h. cc) (due_as asked due status (NoFile name) d t e (λ h. cc) (λ h. cc));
      due = λ a e name s. ends_comes a (NoFile name) due status s (subst (λ z. IsDue r z due) e d) t;
    }

    pub read_fault_where : (asked : Option Asked) (due : Due) (status : Status) → IsDue r asked due → Tells out err due status
        → ReadFaultWhere r asked status
    read_fault_where asked due status d t e = ended asked ReadFault (λ h. cc) (λ h. cc) (due_as asked due status ReadFault d t e (λ h. cc) (λ h. cc))

    pub write_fault_where : (asked : Option Asked) (due : Due) (status : Status) → IsDue r asked due → Tells out err due status
        → WriteFaultWhere r out err asked status
    write_fault_where asked (Ok text) status d (inl w) e = let h : WriteFault ≡ Done = sym e ∙ w.0 in absurd cc
    write_fault_where asked (Err st) status d (inl w) e = absurd (never_write asked (subst (λ z. IsDue r asked (Err z)) (sym w.0 ∙ e) d))
    write_fault_where asked due status d (inr f) e = (due, d, f.1)

    done_by : (asked : Option Asked) (text : List ℕ) → IsDue r asked (Ok text) → Got out text → GotNothing err
        → (a : Asked) × (text : List ℕ) × (asked ≡ Some a) × IsText r a text × Got out text × GotNothing err
    done_by None text d t e = absurd d
    done_by (Some a) text d t e = (a, text, refl, d, t, e)

    pub done_where : (asked : Option Asked) (due : Due) (status : Status) → IsDue r asked due → Tells out err due status
        → DoneWhere r out err asked status
    done_where asked (Ok text) status d (inl w) e = done_by asked text d w.1 w.2
    done_where asked (Err st) status d (inl w) e = absurd (never_done asked (subst (λ z. IsDue r asked (Err z)) (sym w.0 ∙ e) d))
    done_where asked due status d (inr f) e = let h : Done ≡ WriteFault = sym e ∙ f.0 in absurd cc

    complete_by : (o : Option Why) (fs : List Named) (st : Status) → o ≡ None → AllPass r fs → MayEndBy r o fs st → st ≡ NoMemory
    complete_by (Some why) fs st e p d = absurd (let bad : Some why ≡ None = e in cc)
    complete_by None fs st e p d = pass_in fs st p d

    complete_due : (a : Asked) (due : Due) (status : Status) → IsAnswerable r a → (WriteFails out → ⊥) → IsDue r (Some a) due
        → Tells out err due status
        → Completes err status
    complete_due a (Ok text) status k g d (inl w) = inl w.0
    complete_due a (Ok text) status k g d (inr w) = absurd (g w.1.0)
    complete_due a (Err st) status k g d t = inr (comes_as st NoMemory status (complete_by (words_refusal a) (files_of a) st k.0 k.1 d) t)

    pub complete_where : (asked : Option Asked) (due : Due) (status : Status) → IsDue r asked due → Tells out err due status
        → IsComplete r out err asked status
    complete_where asked due status d t a e k g = complete_due a due status k g (subst (λ z. IsDue r z due) e d) t
