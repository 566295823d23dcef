-- What the calls of a step leave together is the cache after that step.
use Rattle.std.proofs.Common.{◌≡◌, ℕ, Bool, true, false, cond, List, [], ◌∷◌, refl, ap, sym, ◌∙◌}
use Rattle.std.specs.Prelude.{fold}
use Rattle.trace_lang.specs.declared.header.Policy.{Policy}
use Rattle.trace_lang.specs.declared.header.Policy.TheVariants.{Lru, Fifo, Random}
use Rattle.trace_lang.specs.Traces.{Header}
use Rattle.tagged_tlb.specs.declared.row.Row.{Row}
use Rattle.tagged_tlb.specs.Shapes.{keeps_rows}
use Rattle.tagged_tlb.specs.Sets.{Cache, added, touched, filled}
use Rattle.walk_cache.specs.ByKind.{added_to}

none_touched : (policy : Policy) (rows : List Row) → touched policy rows [] ≡ rows
none_touched Lru rows = refl
none_touched Fifo rows = refl
none_touched (Random start) rows = refl

none_comes : (l : Cache) (made : List Row) → fold (λ l r. l) l made ≡ l
none_comes l [] = refl
none_comes l (r ∷ made) = none_comes l made

module _ (h : Header) (core : ℕ) (l : Cache) (served made : List Row) where
  abbrev moved : Cache
  moved = record l { rows = touched h.policy l.rows served }

  filled_by : (b : Bool) → (b ≡ false → served ≡ []) → cond b (fold (added h core) moved made) l
      ≡ fold (λ l r. cond b (added h core l r) l) moved made
  filled_by true none = refl
  filled_by false none =
      sym (none_comes moved made
      ∙ ap (λ rows. record l { rows = rows }) (ap (touched h.policy l.rows) (none refl) ∙ none_touched h.policy l.rows))

  -- services come first, then the rows that were made, one by one
  pub filled_is : (keeps_rows h.size ≡ false → served ≡ []) → filled h core l served made ≡ fold (added_to h core) moved made
  filled_is none = filled_by (keeps_rows h.size) none
