-- Numbers told from d down: x becomes d - x, so that start and stop of a stretch change places. Assumes nothing.
use Prim.Native.Nat.{ℕ, ◌-◌, ◌≤◌, ◌<◌, min}
use mathlib.Core.Path.{◌≡◌, sym, ◌∙◌}
use mathlib.Core.Bool.{◌&&◌}
use native.Mathlib.Nat.{sub-le, min-le_left}
use native.Mathlib.Omega.{arith}
use lib.Dec.{leb, ltb}
use Rattle.axis.proofs.Flag.{leb_same}
use Rattle.ray.proofs.Tests.{same_test, between_means, means_between}
use Rattle.ray.proofs.Through.{Falls}

pub down_falls : (d : ℕ) → Falls (λ x. d - x)
down_falls d x y l = omega arith

pub later : (d e b' e' s s' : ℕ) → b' < e' → e ≤ b' → e' ≤ d → s ≡ d - e → s' ≡ d - e' → s' < s
later d e b' e' s s' h₀ h₁ h₂ h₃ h₄ = omega arith

-- whether y lies between x and z
between_same : (x y z x' y' z' : ℕ) → ((x < y) × (y < z) → (x' < y') × (y' < z')) → ((x' < y') × (y' < z') → (x < y) × (y < z))
    → (ltb x y && ltb y z) ≡ (ltb x' y' && ltb y' z')
between_same x y z x' y' z' f g =
    same_test _ _ (λ h. means_between x' y' z' (f (between_means x y z h))) (λ h. means_between x y z (g (between_means x' y' z' h)))

between_cap : (d x y z : ℕ) → z ≤ d → (ltb x y && ltb y z) ≡ (ltb (min d x) (min d y) && ltb (min d y) z)
between_cap d x y z h = between_same x y z (min d x) (min d y) z (λ a. (omega arith, omega arith)) (λ a. (omega arith, omega arith))

between_down : (d x y z : ℕ) → x ≤ d → y ≤ d → z ≤ d → (ltb (d - z) (d - y) && ltb (d - y) (d - x)) ≡ (ltb x y && ltb y z)
between_down d x y z hx hy hz = between_same (d - z) (d - y) (d - x) x y z (λ a. (omega arith, omega arith)) (λ a. (omega arith, omega arith))

-- the stretch from b to e, and from b' to e' told from d down
pub record Flipped (d b e b' e' : ℕ) : Type 0 where
  pub cap : e ≤ d
  pub begins : min d b' ≡ d - e
  pub stops : e' ≡ d - min d b

module _ {d b e b' e' : ℕ} (f : Flipped d b e b' e') where
  pub gap_down : e' - b' ≡ e - b
  gap_down = omega arith

  pub leb_down : leb e' b' ≡ leb e b
  leb_down = leb_same e' b' e b (λ l. omega arith) (λ l. omega arith)

  pub crossing_down : (a a' : ℕ) → min d a' ≡ d - min d a → (ltb b' a' && ltb a' e') ≡ (ltb b a && ltb a e)
  crossing_down a a' h =
      between_cap d b' a' e' (rw f.stops (sub-le d (min d b)))
      ∙ rw (f.begins, h, f.stops) (between_down d (min d b) (min d a) e (min-le_left d b) (min-le_left d a) f.cap)
      ∙ sym (between_cap d b a e f.cap)
