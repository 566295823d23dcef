use Rattle.std.proofs.Common.{arith}
use Rattle.tlbi_ops.proofs.Shifts.{wide_region, in_region}
use Rattle.tlbi_ops.proofs.covering.ends_behind.Goals as goal

pub returns-then-tag-ge64 : goal.returns-then-tag-ge64
returns-then-tag-ge64 c = wide_region _ c.args.tag.now.start _ (omega arith) c.if-tag-ge64.true

pub returns-else-tag-ge64 : goal.returns-else-tag-ge64
returns-else-tag-ge64 c = rw c.saturating_sub.ensures (in_region c.args.start c.args.tag.now.start c.args.tag.now.class)
