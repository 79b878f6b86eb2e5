-- Tests that compute: by cases, when two are the same, of every side or some, and a number between two others. Assumes nothing.
use Prim.Native.Nat.{ℕ, ◌<◌}
use mathlib.Core.Path.{◌≡◌, refl, sym}
use mathlib.Core.Bool.{Bool, true, false, ◌&&◌, ◌||◌, or-true}
use mathlib.Core.Logic.{◌⊎◌, inl, inr}
use lib.Dec.{ltb}
use borrow.Author.Tests.{lt-ltb, ltb-true}
use Rattle.axis.proofs.Flag.{and_left, and_right}
use Rattle.ray.specs.declared.axes.Side.{Side}
use Rattle.ray.specs.declared.axes.Side.TheVariants.{X, Y, Z}

pub tested : (b : Bool) → (b ≡ true) ⊎ (b ≡ false)
tested true = inl refl
tested false = inr refl

pub same_test : (a b : Bool) → (a ≡ true → b ≡ true) → (b ≡ true → a ≡ true) → a ≡ b
same_test true b f g = sym (f refl)
same_test false true f g = g refl
same_test false false f g = refl

-- a test that holds of every side, or of some
module _ (b : Side → Bool) where
  pub all_of : (b X && (b Y && b Z)) ≡ true → (s : Side) → b s ≡ true
  all_of h X = and_left (b X) _ h
  all_of h Y = and_left (b Y) _ (and_right (b X) _ h)
  all_of h Z = and_right (b Y) _ (and_right (b X) _ h)

  abbrev pub any : Bool
  any = b X || (b Y || b Z)

  pub any_by : (s : Side) → b s ≡ true → any ≡ true
  any_by X h = rw h refl
  any_by Y h = rw h (or-true (b X))
  any_by Z h = rw (h, or-true (b Y)) (or-true (b X))

  pub any_of : any ≡ true → (s : Side) × (b s ≡ true)
  any_of h = elim (tested (b X)) [ inl e ↦ (X, e) | inr e ↦ elim (tested (b Y)) [ inl f ↦ (Y, f) | inr f ↦ (Z, rw (e, f) at h) ] ]

module _ (x y z : ℕ) where
  pub between_means : (ltb x y && ltb y z) ≡ true → (x < y) × (y < z)
  between_means h = (ltb-true x y (and_left (ltb x y) (ltb y z) h), ltb-true y z (and_right (ltb x y) (ltb y z) h))

  pub means_between : (x < y) × (y < z) → (ltb x y && ltb y z) ≡ true
  means_between h = rw (lt-ltb x y h.0, lt-ltb y z h.1)
