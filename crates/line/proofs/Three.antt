-- Three, one for each side: all of them, their greatest and their least. Assumes nothing.
use Prim.Native.Nat.{ℕ, ◌≤◌, ◌<◌, min, max}
use mathlib.Core.Path.{◌≡◌, refl}
use native.Mathlib.Omega.{arith}
use native.Mathlib.Decide.{dec_le}
use Rattle.ray.specs.declared.axes.Side.{Side}
use Rattle.ray.specs.declared.axes.Side.TheVariants.{X, Y, Z}

-- what holds of each holds of all
abbrev pub each : (A : Side → Type 0) → A X → A Y → A Z → (s : Side) → A s
each A x y z X = x
each A x y z Y = y
each A x y z Z = z

abbrev pub most : (Side → ℕ) → ℕ
most f = max (f X) (max (f Y) (f Z))

abbrev pub least : (Side → ℕ) → ℕ
least f = min (f X) (min (f Y) (f Z))

pub most_le : (f : Side → ℕ) (t : ℕ) → ((s : Side) → f s ≤ t) → most f ≤ t
most_le f t h = omega (arith, h X, h Y, h Z)

pub le_most : (f : Side → ℕ) (s : Side) → f s ≤ most f
le_most f X = omega arith
le_most f Y = omega arith
le_most f Z = omega arith

pub most_mono : (f g : Side → ℕ) → ((s : Side) → f s ≤ g s) → most f ≤ most g
most_mono f g h = omega (arith, h X, h Y, h Z)

pub least_le : (f : Side → ℕ) (s : Side) → least f ≤ f s
least_le f X = omega arith
least_le f Y = omega arith
least_le f Z = omega arith

pub lt_least : (f : Side → ℕ) (t : ℕ) → ((s : Side) → t < f s) → t < least f
lt_least f t h = omega (arith, h X, h Y, h Z)

pub least_mono : (f g : Side → ℕ) → ((s : Side) → f s ≤ g s) → least f ≤ least g
least_mono f g h = omega (arith, h X, h Y, h Z)

pub most_same : (f g : Side → ℕ) → ((s : Side) → f s ≡ g s) → most f ≡ most g
most_same f g h = rw (h X, h Y, h Z) refl

pub least_same : (f g : Side → ℕ) → ((s : Side) → f s ≡ g s) → least f ≡ least g
least_same f g h = rw (h X, h Y, h Z) refl

pub least_one : (f : Side → ℕ) → (s : Side) × (f s ≡ least f)
least_one f = elim (dec_le (f X) (min (f Y) (f Z))) [
  | yes h ↦ (X, omega arith)
  | no h ↦ elim (dec_le (f Y) (f Z)) [ yes k ↦ (Y, omega arith) | no k ↦ (Z, omega arith) ]
]
