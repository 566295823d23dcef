-- Lists of items against walks as questions.
use Rattle.std.specs.Prelude.{◌≡◌, true, List, [], ◌∷◌}
use Rattle.trails.specs.declared.item.Item.{Item}
use Rattle.walk_spec.specs.Ask.{Ask, done, ask}
use Rattle.walk_spec.specs.Needs.{Regime, Need, fits}

-- the list stands on the tree, and this tree is left
abbrev pub IsOn : {A : Type 0} → Regime → Ask Need Item A → List Item → Ask Need Item A → Type 0
IsOn r t [] u = u ≡ t
IsOn r (done a) (i ∷ items) u = ⊥
IsOn r (ask n k) (i ∷ items) u = (fits r n i ≡ true) × IsOn r (k i) items u
