-- What an answer tells of what was read: of any reader whose answers can be read back, and of a number that was kept. Assumes nothing.
use mathlib.Core.Bool.{Bool, true, false, cond}
use Rattle.std.specs.Prelude.{Option, None, Some}
use Rattle.std.proofs.lemmas.Option.{none-some}
use mathlib.Core.Path.{◌≡◌, refl, sym, ap, ◌∙◌}

pub told : {A T : Type 0} (answer : Option A → T) (back : T → Option A) → ((o : Option A) → back (answer o) ≡ o) → (o : Option A) {r : T} (a : T) → r ≡ answer o → r ≡ a → o ≡ back a
told answer back k o a e f = sym (k o) ∙ ap back (sym e ∙ f)

pub none_some : {A X : Type 0} {a : A} → None ≡ Some a → X
none_some {a = a} e = absurd (none-some a e)

-- what was kept passed the test
pub cond_some : {A : Type 0} (b : Bool) (p : Option A) {v : A} → cond b p None ≡ Some v → (b ≡ true) × (p ≡ Some v)
cond_some true p e = (refl, e)
cond_some false p e = none_some e
