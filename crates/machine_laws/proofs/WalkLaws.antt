-- What the walk promises to the machine holds.
use Rattle.walk_spec.specs.Stage1.{asked2}
use Rattle.machine_laws.proofs.Laws.{Laws}
use Rattle.machine_laws.proofs.PlanOf.{plan_for, plan_is_walk}
use Rattle.machine_laws.proofs.Sounds.{sound_plan, words_behind, chain_last, off_marks, last_mapped}
use Rattle.machine_laws.proofs.Judging.{judged_is}
use Rattle.machine_laws.proofs.Regions2.{chain_leaf_is, chain_table_is}
use Rattle.machine_laws.proofs.Regions1.{first_table_is}
use Rattle.machine_laws.proofs.Regions.{first_leaf_is}
use Rattle.machine_laws.proofs.Keys.{keys_are, first_had, keys2_are}

-- the laws of the walk hold
pub laws_hold : Laws
laws_hold = record {
  plan = plan_for;
  plan_is = plan_is_walk;
  sound = sound_plan;
  behind_words = λ r p x base. words_behind (asked2 r p x) base;
  chain_word = chain_last;
  no_stage1 = off_marks;
  chain_leaf = chain_leaf_is;
  chain_table = chain_table_is;
  first_table = first_table_is;
  first_leaf = first_leaf_is;
  mapped_last = last_mapped;
  judged = judged_is;
  keys = keys_are;
  has_first = first_had;
  keys2 = keys2_are;
}
