-- What a dump stands for.
use Rattle.std.proofs.Common.{◌≡◌, ℕ, List, sym, ◌∙◌, ap}
use Rattle.dump_file.specs.Held.{Holding, Bytes}
use Rattle.dump_file.specs.Kept.{Opened, StandsFor, IsSame}
use Rattle.dump_file.specs.Dumps.{IsOpened}

-- a dump that stood for what its file tells still does
pub still_stands : (old new : List ℕ → Holding) (d e : Opened) → new ≡ old → IsSame d e
    → ((bytes : List ℕ) → old d.name ≡ Bytes bytes → StandsFor bytes d)
    → ((bytes : List ℕ) → old d.name ≡ Bytes bytes → StandsFor bytes d → StandsFor bytes e)
    → (bytes : List ℕ) → new e.name ≡ Bytes bytes → StandsFor bytes e
still_stands old new d e same unchanged stands keeps bytes h =
    let was : old d.name ≡ Bytes bytes = ap old (sym unchanged.name) ∙ sym (ap (λ f. f e.name) same) ∙ h in
    keeps bytes was (stands bytes was)

-- a dump that was opened over a file stands for what the file tells
pub stands : (h : Holding) (d : Opened) (bytes : List ℕ) → IsOpened h d → h ≡ Bytes bytes → StandsFor bytes d
stands h d bytes o e = rw e at o
