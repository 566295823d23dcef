-- One more read of a loop that fills a slice.
use Rattle.std.proofs.Common.{◌≡◌, ℕ, ◌+◌, ◌-◌, ◌<◌, ◌≤◌, List, ◌++◌, length, take}
use Rattle.std.proofs.Common.{drop, sym, ◌∙◌, ap, subst, refl, suc, min, arith, take_all}
use Rattle.std.proofs.Math.Seq.{take-add, drop-drop}
use Rattle.std.proofs.lemmas.List.{take-append-le, drop_at, length-take-le}
use Rattle.std.proofs.lemmas.Slice.{take-put_mid_below}
use borrow.Rule.Slice.PartMut.{put_mid, post_of}
use Rattle.dump_file.specs.Held.{Holding, Untold, Absent, Bytes, IsRead, InTurns}
use Rattle.dump_file.specs.Filled.{IsFront}

behind : (done k : ℕ) (into rest : List ℕ) → done ≤ length into → drop done (put_mid done k into rest) ≡ rest ++ post_of done k into
behind done k into rest h = drop_at (take done into) (rest ++ post_of done k into) done (length-take-le done into h)

front : (done k got : ℕ) (into rest : List ℕ) → done ≤ length into → got ≤ length rest
    → take (done + got) (put_mid done k into rest) ≡ take done into ++ take got rest
front done k got into rest h m =
    take-add done got (put_mid done k into rest)
    ∙ ap (λ (x : List ℕ). x ++ take got (drop done (put_mid done k into rest))) (take-put_mid_below done k into rest done (omega arith) h)
    ∙ ap (λ (x : List ℕ). take done into ++ take got x) (behind done k into rest h)
    ∙ ap (λ (x : List ℕ). take done into ++ x) (take-append-le got rest (post_of done k into) m)

-- before the first read
pub front_none : (held : Holding) (at : ℕ) (into : List ℕ) → IsFront held at into 0
front_none Untold at into = tt
front_none Absent at into = refl
front_none (Bytes bytes) at into = (omega arith, refl)

pub front_more : (held : Holding) (before now at done k got : ℕ) (into rest : List ℕ) → done ≤ length into → got ≤ length rest
    → IsFront held at into done
    → IsRead held before now (at + done) rest got → IsFront held at (put_mid done k into rest) (done + got)
front_more Untold before now at done k got into rest h m p r = tt
front_more Absent before now at done k got into rest h m p r = omega arith
front_more (Bytes bytes) before now at done k got into rest h m p r = (
  omega arith,
  front done k got into rest h m
      ∙ ap (λ (x : List ℕ). x ++ take got rest) p.1
      ∙ ap (λ (x : List ℕ). take done (drop at bytes) ++ x) (r.1 ∙ ap (take got) (sym (drop-drop done at bytes)))
      ∙ sym (take-add done got (drop at bytes)),
)

module _ {F : Type 0} (read : F → ℕ → List ℕ → F → Type 0) (at done k got : ℕ) (into rest : List ℕ) (before between after : F) where
  -- one more read from where the last one ended
  pub turns_more : done ≤ length into → got ≤ length rest → InTurns read at before (take done into) between
      → read between (at + done) (take got rest) after
      → InTurns read at before (take (done + got) (put_mid done k into rest)) after
  turns_more h m t r = record {
    turns = suc t.turns;
    came = (
      between,
      take done into,
      take got rest,
      t.came,
      subst (λ (n : ℕ). read between (at + n) (take got rest) after) (sym (length-take-le done into h)) r,
      front done k got into rest h m,
    );
  }

  -- the last read gave nothing
  pub turns_end : done ≤ length into → got ≡ 0 → InTurns read at before (take done into) between → read between (at + done) (take got rest) after
      → InTurns read at before (take done (put_mid done k into rest)) after
  turns_end h e t r =
      let same : done + got ≡ done = omega arith in
      subst (λ (n : ℕ). InTurns read at before (take n (put_mid done k into rest)) after) same (turns_more h (omega arith) t r)

-- all of it came
pub whole : (bytes new : List ℕ) (count : ℕ) → length bytes < length new → count ≡ min (length new) (length bytes - 0)
    → take count new ≡ take count bytes → take count new ≡ bytes
whole bytes new count l c t = t ∙ take_all count bytes (let e = c in omega arith)
