use Rattle.std.proofs.Common.{◌≡◌, List, sym, ◌∙◌, ap, subst}
use Rattle.dump_file.specs.Held.{Holding, Bytes}
use Rattle.dump_file.specs.DumpOf.{serving}
use Rattle.dump_file.specs.Kept.{Opened, StandsFor}
use Rattle.dump_file.specs.Paging.{StayOf}
use Rattle.dump_file.specs.declared.dump.Segment.{Segment}
use Rattle.dump_file.proofs.Served.{word_served, stands_after}
use Rattle.dump_file.proofs.dump.Dump.word.Goals as goal

pub returns-clause-word : goal.returns-clause-word
returns-clause-word g c =
    let served = sym (c.in-Some.ensures.first ∙ ap (λ (x : List Segment). serving x c.args.pa) c.as_slice.ensures.value) in
    rw (← c.self.view_is) (word_served c.word_at.result _ _ _ _ _ c.in-Some.segment served (rw c.as_str.ensures.value at c.word_at.ensures.word))

pub returns-clause-stands : goal.returns-clause-stands
returns-clause-stands g c = λ bytes h st.
    let told : g.F.Files.holds c.args.files.now c.as_str.result.now ≡ Bytes bytes =
    ap (g.F.Files.holds c.args.files.now) (c.as_str.ensures.value ∙ ap (λ (d : Opened). d.name) c.self.view_is) ∙ h in
    let stay = subst (λ (x : Holding). StayOf x c.self.inside.size c.self.inside.pages.entries c.word_at.new.pages.entries) told c.word_at.ensures.stay in
    stands_after bytes _ c.word_at.new.pages.entries stay (subst (StandsFor bytes) (sym c.self.view_is) st)
