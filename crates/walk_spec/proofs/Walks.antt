-- How code that walks over a supply goes on, ends and lacks a word.
use Rattle.std.proofs.Common.{◌≡◌, List, [], ◌∷◌, ◌++◌, refl, sym, ap, ◌∙◌, append_assoc}
use Rattle.std.proofs.Common.{append-nil, ◌+◌, length, length-append, Err, Result}
use Rattle.geometry.specs.Tables.{level_of}
use Rattle.trails.specs.declared.item.Item.{Item}
use Rattle.trails.specs.declared.outcome.Stop.{Stop}
use Rattle.trails.specs.declared.outcome.Stop.TheVariants.{Absent}
use Rattle.walk_spec.specs.Ask.{Ask, done, ask, Fed, ended, lacks}
use Rattle.walk_spec.specs.Needs.{Need, stage1_base, stage2_base, word, WordNeed}
use Rattle.walk_spec.specs.Steps.{End}
use Rattle.table_reads.specs.Memory.{Told, Misses}
use Rattle.walk_spec.specs.Walked.{LacksFor, Walked, result_of}
use Rattle.table_reads.proofs.Weaker.{misses_weaker}
use Rattle.walk_spec.proofs.Feeding.{took_weaker}

-- a list with one more item
pub one_longer : (old new : List Item) (i : Item) → new ≡ old ++ i ∷ [] → length new ≡ length old + 1
one_longer old new i e = ap length e ∙ length-append old (i ∷ [])

pub lacks_weaker : {A : Type 0} (m : Told) (F G : Type 0) → (F → G) → (e : Fed Need A) → LacksFor m F e → LacksFor m G e
lacks_weaker m F G f (ended a) h = tt
lacks_weaker m F G f (lacks stage1_base) h = h
lacks_weaker m F G f (lacks (stage2_base _)) h = h
lacks_weaker m F G f (lacks (word w)) h = misses_weaker m w.place F G f h

module _ {L : Type 0} (reads : Need → Item → Type 0) (m : Told) where
  -- the word was lacking
  pub walked_lacks : (F : Type 0) (t : Ask Need Item (End L)) (w : WordNeed) (k : Item → Ask Need Item (End L)) (old new : List Item) (r : Result L Stop) →
      t ≡ ask (word w) k → new ≡ old → r ≡ Err (Absent w.stage (level_of w.left) w.place w.s1ptw) → Misses m w.place F
      → Walked reads m F t old new r
  walked_lacks F t w k old new r e n a h = record {
    more = [];
    end = lacks (word w);
    grown = n ∙ sym (append-nil old);
    took = rw e refl;
    cause = h;
    answer = a;
  }

  -- the walk asks nothing
  pub walked_done : (F : Type 0) (d : End L) (old new : List Item) (r : Result L Stop) → new ≡ old → r ≡ result_of (ended d) →
      Walked reads m F (done d) old new r
  walked_done F d old new r n a = record { more = []; end = ended d; grown = n ∙ sym (append-nil old); took = (refl, refl); cause = tt; answer = a }

  -- the walk ended with this item
  pub walked_ends : (F : Type 0) (t : Ask Need Item (End L)) (n : Need) (k : Item → Ask Need Item (End L)) (i : Item) (d : End L) (old new : List Item)
      (r : Result L Stop) → t ≡ ask n k → new ≡ old ++ i ∷ [] → reads n i → k i ≡ done d → r ≡ result_of (ended d)
      → Walked reads m F t old new r
  walked_ends F t n k i d old new r e a h w x = record { more = i ∷ []; end = ended d; grown = a; took = rw e (h, rw w (refl, refl)); cause = tt; answer = x }

  -- the walk went on after this item
  pub walked_goes : (F G : Type 0) (t : Ask Need Item (End L)) (n : Need) (k : Item → Ask Need Item (End L)) (i : Item) (t' : Ask Need Item (End L))
      (old mid new : List Item) (r : Result L Stop) → t ≡ ask n k → mid ≡ old ++ i ∷ [] → reads n i → k i ≡ t' → (F → G)
      → Walked reads m F t' mid new r →
      Walked reads m G t old new r
  walked_goes F G t n k i t' old mid new r e a h w f d =
      record {
        more = i ∷ d.more;
        end = d.end;
        grown = d.grown ∙ ap (λ l. l ++ d.more) a ∙ append_assoc old (i ∷ []) d.more;
        took = rw e (h, rw w d.took);
        cause = lacks_weaker m F G f d.end d.cause;
        answer = d.answer;
      }

-- what was read more strictly was read
pub walked_weaker : {L : Type 0} (reads reads' : Need → Item → Type 0) (m : Told) (F : Type 0) → ((n : Need) (i : Item) → reads n i → reads' n i) →
    (t : Ask Need Item (End L)) (old new : List Item) (r : Result L Stop) → Walked reads m F t old new r → Walked reads' m F t old new r
walked_weaker reads reads' m F f t old new r h =
    record { more = h.more; end = h.end; grown = h.grown; took = took_weaker reads reads' f t h.more h.end h.took; cause = h.cause; answer = h.answer }
