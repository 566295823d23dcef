-- Which way a choice went.
use Rattle.std.proofs.Common.{◌≡◌, Bool, true, false, cond, refl, Ok, Err}

pub on_with : {A : Type 0} (b : Bool) → b ≡ true → (t u : A) → cond b t u ≡ t
on_with true h t u = refl
on_with false h t u = absurd cc

pub off_with : {A : Type 0} (b : Bool) → b ≡ false → (t u : A) → cond b t u ≡ u
off_with true h t u = absurd cc
off_with false h t u = refl

-- a value came, so no fault did
pub ok_by : {A E : Type 0} (b : Bool) (e : E) (a x : A) → Ok x ≡ cond b (Err e) (Ok a) → (b ≡ false) × (x ≡ a)
ok_by true e a x h = absurd cc
ok_by false e a x h = (refl, cc)

-- a fault came
pub err_by : {A E : Type 0} (b : Bool) (e y : E) (a : A) → Err y ≡ cond b (Err e) (Ok a) → (b ≡ true) × (y ≡ e)
err_by true e y a h = (refl, cc)
err_by false e y a h = absurd cc
