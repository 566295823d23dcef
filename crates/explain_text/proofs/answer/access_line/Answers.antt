use Rattle.std.proofs.Common.{rules, [], refl, ◌∙◌}
use Rattle.explain_text.specs.Explained.{access_text}
use Rattle.explain_text.proofs.Sinks.{goes_on, same_text}
use Rattle.explain_text.proofs.answer.access_line.Goals as goal

pub returns-clause-text : goal.returns-clause-text
returns-clause-text g c =
    goes_on _ _ _ c.put.result c.put-2.result c.args.word.now (access_text [] c.args.access.now c.args.asid c.args.vmid) (search rules)
    (same_text _ _ c.put.result _ _ c.as_bytes.ensures.value c.put.ensures.text)
    (same_text _ _ c.put-2.result _ _ (c.bytes.ensures ∙ c.put_access.ensures.text ∙ rw c.new-line.ensures refl) c.put-2.ensures.text)
