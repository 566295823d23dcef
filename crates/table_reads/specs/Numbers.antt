-- The numbers of a stage, by the register fields (DDI 0487, TCR_EL1 and VTCR_EL2).
use Rattle.std.specs.Prelude.{ℕ, ◌<◌, ◌≤◌, Bool, false, ◌&&◌, Option, Some, None, unwrap_or}
use Rattle.geometry.specs.Tables.{IsGranule, most_left, class_of, is_txsz, input_size, start_left1, start_left2, is_suited2}
use Rattle.sysregs.specs.declared.regs.Config.{Config}
use Rattle.sysregs.specs.declared.regs.Side.{Side}
use Rattle.sysregs.specs.Registers.{granule_of, output_size}
use Rattle.sysregs.specs.Sides.{tg_of, txsz_of}
use Rattle.table_reads.specs.declared.sizes.Sizes.{Sizes}

-- the numbers of stage 1 for a side (TCR_EL1.TGn, TnSZ, IPS)
unfoldable pub sizes1 : (config : Config) (side : Side) → Sizes
sizes1 c s =
    let g = granule_of (tg_of c s) in
    let input = input_size (txsz_of c s) in
    record { granule = g; input = input; output = output_size g c.ips; start = start_left1 g input }

-- the numbers of stage 2 (VTCR_EL2.TG0, T0SZ, PS, SL0); an invalid SL0 is refused before any of them counts
unfoldable pub sizes2 : (config : Config) → Sizes
sizes2 c =
    let g = granule_of c.tg2 in
    record { granule = g; input = input_size c.t2sz; output = output_size g c.ps; start = unwrap_or (start_left2 g c.sl0) 0 }

-- stage 1: TxSZ of the side is in range
abbrev pub is_sized1 : (config : Config) (side : Side) → Bool
is_sized1 c s = is_txsz (granule_of (tg_of c s)) (txsz_of c s)

-- stage 2: SL0 is valid, and the input size suits the start level
abbrev pub is_suited_start : (granule : ℕ) (start : Option ℕ) (input : ℕ) → Bool
is_suited_start g None input = false
is_suited_start g (Some left) input = is_suited2 g left input

-- stage 2: T0SZ is in range, SL0 is valid, and the input size suits the start level
abbrev pub is_sized2 : (config : Config) → Bool
is_sized2 c = let g = granule_of c.tg2 in is_txsz g c.t2sz && is_suited_start g (start_left2 g c.sl0) (input_size c.t2sz)

-- numbers that a walk may be done under
pub record AreSound (n : Sizes) : Type 0 where
  pub granule : IsGranule n.granule
  pub start : n.start ≤ most_left
  pub wide : n.granule < n.input
  pub input : n.input ≤ 52
  pub output : n.output ≤ 52
  pub entries : class_of n.granule n.start < n.input
