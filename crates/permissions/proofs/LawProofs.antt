-- The laws, from the rights by their places.
use Rattle.std.proofs.Common.{refl, arith}
use Rattle.std.proofs.lemmas.Grind.{common_steps}
use Rattle.permissions.specs.Rights.{both_give, is_allowed1}
use Rattle.permissions.specs.Laws.{TablesOnlyTake, FetchBitsOnlyTake, FetchesComeOfWrites, NoFetchOfWritable, NoFetchOfUserWritable}
use Rattle.permissions.specs.Laws.{El1Reads, FetchNeedsRead, PanSparesEl0, PanSparesFetches, EpanNeedsPan, BothIsIntersection}
use Rattle.permissions.specs.declared.bits.El.TheVariants.{El0, El1}
use Rattle.permissions.specs.declared.bits.Kind.TheVariants.{Read, Write, Fetch}
use Rattle.permissions.proofs.Sets.{has_r0, has_w0, has_x0, has_r1, has_w1, has_x1, allowed_without_pan, reads1}

pub tables_take : TablesOnlyTake
tables_take leaf tables more dirty wxn El0 Read k = simp has_r0 (grind (arith, common_steps))
tables_take leaf tables more dirty wxn El0 Write k = simp has_w0 (grind (arith, common_steps))
tables_take leaf tables more dirty wxn El0 Fetch k = absurd (k refl)
tables_take leaf tables more dirty wxn El1 Read k = simp has_r1 (grind (arith, common_steps))
tables_take leaf tables more dirty wxn El1 Write k = simp has_w1 (grind (arith, common_steps))
tables_take leaf tables more dirty wxn El1 Fetch k = absurd (k refl)

pub fetch_bits_take : FetchBitsOnlyTake
fetch_bits_take leaf tables more dirty wxn a b El0 Read = simp has_r0 (grind (arith, common_steps))
fetch_bits_take leaf tables more dirty wxn a b El0 Write = simp has_w0 (grind (arith, common_steps))
fetch_bits_take leaf tables more dirty wxn a b El0 Fetch = simp has_x0 (grind (arith, common_steps))
fetch_bits_take leaf tables more dirty wxn a b El1 Read = simp has_r1 (grind (arith, common_steps))
fetch_bits_take leaf tables more dirty wxn a b El1 Write = simp has_w1 (grind (arith, common_steps))
fetch_bits_take leaf tables more dirty wxn a b El1 Fetch = simp has_x1 (grind (arith, common_steps))

pub fetches_come : FetchesComeOfWrites
fetches_come leaf tables more dirty wxn El0 = simp (has_x0, has_w0, has_w1) (grind (arith, common_steps))
fetches_come leaf tables more dirty wxn El1 = simp (has_x1, has_w0, has_w1) (grind (arith, common_steps))

pub writable : NoFetchOfWritable
writable leaf tables dirty El0 = simp (has_w0, has_x0) (grind (arith, common_steps))
writable leaf tables dirty El1 = simp (has_w1, has_x1) (grind (arith, common_steps))

pub user_writable : NoFetchOfUserWritable
user_writable leaf tables dirty wxn = simp (has_w0, has_x1) (grind (arith, common_steps))

pub reads : El1Reads
reads leaf tables dirty wxn uxn epan = reads1 leaf tables dirty wxn uxn epan

pub fetch_reads : FetchNeedsRead
fetch_reads read write dbm dirty xn El0 = simp (has_x0, has_r0) (grind (arith, common_steps))
fetch_reads read write dbm dirty xn El1 = simp (has_x1, has_r1) (grind (arith, common_steps))

pub spares_el0 : PanSparesEl0
unfolding is_allowed1
spares_el0 p uxn pan epan kind = grind (arith, common_steps)

pub spares_fetches : PanSparesFetches
unfolding is_allowed1
spares_fetches p uxn pan epan El0 = grind (arith, common_steps)
spares_fetches p uxn pan epan El1 = grind (arith, common_steps)

pub epan_needs : EpanNeedsPan
epan_needs p uxn epan el kind = allowed_without_pan p uxn el kind epan

pub intersection : BothIsIntersection
intersection p q El0 Read = has_r0 (both_give p q)
intersection p q El0 Write = has_w0 (both_give p q)
intersection p q El0 Fetch = has_x0 (both_give p q)
intersection p q El1 Read = has_r1 (both_give p q)
intersection p q El1 Write = has_w1 (both_give p q)
intersection p q El1 Fetch = has_x1 (both_give p q)
