-- What searches see, as an access asks for it.
use Rattle.std.proofs.Common.{◌≡◌, List, refl, Option, Some, None}
use Rattle.std.specs.Prelude.{IfSome}
use Rattle.trace_lang.specs.declared.header.Size.{Size}
use Rattle.tagged_tlb.specs.declared.row.Kind.{Kind}
use Rattle.tagged_tlb.specs.declared.row.Row.{Row}
use Rattle.tagged_tlb.specs.declared.found.Seen.{Seen}
use Rattle.tagged_tlb.specs.declared.found.Found.{Found}
use Rattle.tagged_tlb.specs.declared.found.Found.TheVariants.{Nothing, One, Two}
use Rattle.tagged_tlb.specs.Found.{found_rows, seen_row, slot_row, AllSeen}
use Rattle.served_walk.specs.Meets.{rows_found}
use Rattle.walk_cache.specs.Services.{service_of, IsService}

module _ (d : Row) (sets : List (List Row)) (size : Size) (kind : Kind) (live : List Row) where
  -- each was made as it says
  pub all_made : (found : Found) → AllSeen (λ s. IsService size live (service_of kind s) (seen_row d sets s)) found →
      AllSeen (λ s. (slot_row d sets s.slot).made ≡ s.made) found
  all_made Nothing h = tt
  all_made (One a) h = h.made_is
  all_made (Two a b) h = (h.0.made_is, h.1.made_is)

  pub one_made : (seen : Option Seen) → IfSome seen (λ s. IsService size live (service_of kind s) (seen_row d sets s)) →
      IfSome seen (λ s. (slot_row d sets s.slot).made ≡ s.made)
  one_made None h = h
  one_made (Some s) h = h.made_is

pub same_rows : (d : Row) (sets : List (List Row)) (found : Found) → rows_found (λ s. slot_row d sets s) found ≡ found_rows d sets found
same_rows d sets Nothing = refl
same_rows d sets (One a) = refl
same_rows d sets (Two a b) = refl
