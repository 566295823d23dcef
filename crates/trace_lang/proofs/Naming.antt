-- The names of operations: a local form, or one with IS at its end.
use Rattle.std.proofs.Common.{◌≡◌, ℕ, ◌+◌, ◌<◌, Bool, true, false, cond, List, [], ◌∷◌, ◌++◌, length, drop}
use Rattle.std.proofs.Common.{get_or, find, map, option_map, Option, Some, None, refl, sym, ap, ◌∙◌, codes}
use Rattle.std.specs.Prelude.{bytes_eq}
use Rattle.std.specs.Option.{option_or}
use Rattle.std.proofs.lemmas.Bool.Decides.{same_from_decides}
use Rattle.std.proofs.lemmas.List.{append_cancel_right, at_drop_more}
use Rattle.std.proofs.lemmas.Bool.{cond-false}
use Rattle.std.proofs.lemmas.Slice.Eq.{bytes_eq-Decides}
use Rattle.sysregs.specs.declared.regs.Op.{Op}
use Rattle.trace_lang.specs.Words.{named}
use Rattle.sysregs.specs.Ops.{op_text}

abbrev pub locals : (ops : List Op) → List (List ℕ × Op)
locals ops = map (λ op. (op_text op, op)) ops

abbrev pub local_forms : (ops : List Op) → List (List ℕ × (Op × Bool))
local_forms ops = map (λ op. (op_text op, (op, false))) ops

abbrev pub shared_forms : (ops : List Op) → List (List ℕ × (Op × Bool))
shared_forms ops = map (λ op. (op_text op ++ codes "IS", (op, true))) ops

abbrev pub local : (op : Op) → Op × Bool
local op = (op, false)

abbrev pub shared : (op : Op) → Op × Bool
shared op = (op, true)

or_cond : {A : Type 0} (b : Bool) (x y z : Option A) → option_or x z ≡ x → option_or (cond b x y) z ≡ cond b x (option_or y z)
or_cond true x y z h = h
or_cond false x y z h = refl

-- the operations behind one that isn't meant
pub skipped : (w : List ℕ) (ops : List Op) (i : ℕ) (d : Op) (due : Option Op) → i < length ops → bytes_eq w (op_text (get_or ops i d)) ≡ false →
    find (λ op. bytes_eq w (op_text op)) (drop i ops) ≡ due → find (λ op. bytes_eq w (op_text op)) (drop (i + 1) ops) ≡ due
skipped w ops i d due l e h =
    let found : List Op → Option Op = find (λ op. bytes_eq w (op_text op)) in
    sym (cond-false (bytes_eq w (op_text (get_or ops i d))) (Some (get_or ops i d)) (found (drop (i + 1) ops)) e) ∙ sym (at_drop_more found ops i d l) ∙ h

-- the first of two tables, one behind the other
named_append : {A : Type 0} (s t : List (List ℕ × A)) (w : List ℕ) → named (s ++ t) w ≡ option_or (named s w) (named t w)
named_append [] t w = refl
named_append (x ∷ s) t w =
    ap (λ y. cond (bytes_eq w x.0) (Some x.1) y) (named_append s t w) ∙ sym (or_cond (bytes_eq w x.0) (Some x.1) (named s w) (named t w) refl)

map_cond : {A B : Type 0} (f : A → B) (b : Bool) (x y : Option A) → option_map f (cond b x y) ≡ cond b (option_map f x) (option_map f y)
map_cond f true x y = refl
map_cond f false x y = refl

local_named : (ops : List Op) (w : List ℕ) → named (local_forms ops) w ≡ option_map local (named (locals ops) w)
local_named [] w = refl
local_named (op ∷ ops) w =
    ap (λ y. cond (bytes_eq w (op_text op)) (Some (local op)) y) (local_named ops w)
    ∙ sym (map_cond local (bytes_eq w (op_text op)) (Some op) (named (locals ops) w))

-- a word that is a local form, or else one with IS
pub either_form : (ops : List Op) (w : List ℕ) →
    named (local_forms ops ++ shared_forms ops) w ≡ option_or (option_map local (named (locals ops) w)) (named (shared_forms ops) w)
either_form ops w = named_append (local_forms ops) (shared_forms ops) w ∙ ap (λ o. option_or o (named (shared_forms ops) w)) (local_named ops w)

same_front : (v t s : List ℕ) → bytes_eq (v ++ s) (t ++ s) ≡ bytes_eq v t
same_front v t s =
    let d = bytes_eq-Decides (v ++ s) (t ++ s) in let e = bytes_eq-Decides v t in
    same_from_decides (bytes_eq (v ++ s) (t ++ s)) (bytes_eq v t) (λ h. append_cancel_right v t s (d.0 h), λ h. d.1 (ap (λ u. u ++ s) h)) e

shared_at : (ops : List Op) (v : List ℕ) → named (shared_forms ops) (v ++ codes "IS") ≡ option_map shared (named (locals ops) v)
shared_at [] v = refl
shared_at (op ∷ ops) v =
    ap (λ b. cond b (Some (shared op)) (named (shared_forms ops) (v ++ codes "IS"))) (same_front v (op_text op) (codes "IS"))
    ∙ ap (λ y. cond (bytes_eq v (op_text op)) (Some (shared op)) y) (shared_at ops v)
    ∙ sym (map_cond shared (bytes_eq v (op_text op)) (Some op) (named (locals ops) v))

-- a word with IS at its end
pub with_is : (ops : List Op) (w s v : List ℕ) → s ≡ codes "IS" → v ++ s ≡ w → named (shared_forms ops) w
    ≡ option_map shared (named (locals ops) v)
with_is ops w s v h e = ap (named (shared_forms ops)) (sym e ∙ ap (λ u. v ++ u) h) ∙ shared_at ops v

passed : {A : Type 0} (b : Bool) (x y : Option A) → (b ≡ true → ⊥) → cond b x y ≡ y
passed true x y h = absurd (h refl)
passed false x y h = refl

none_shared : (ops : List Op) (w : List ℕ) → ((v : List ℕ) → v ++ codes "IS" ≡ w → ⊥) → named (shared_forms ops) w ≡ None
none_shared [] w k = refl
none_shared (op ∷ ops) w k =
    passed (bytes_eq w (op_text op ++ codes "IS")) (Some (shared op)) (named (shared_forms ops) w)
    (λ e. k (op_text op) (sym ((bytes_eq-Decides w (op_text op ++ codes "IS")).0 e))) ∙ none_shared ops w k

-- a word without one
pub without_is : (ops : List Op) (w s : List ℕ) → s ≡ codes "IS" → ((v : List ℕ) → v ++ s ≡ w → ⊥) → named (shared_forms ops) w ≡ None
without_is ops w s h k = none_shared ops w (λ v e. k v (ap (λ u. v ++ u) h ∙ e))
