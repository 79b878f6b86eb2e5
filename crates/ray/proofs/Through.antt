-- The least and the greatest of two numbers, and over the three sides, seen through a function that rises or falls. Assumes nothing.
use Prim.Native.Nat.{ℕ, ◌-◌, ◌*◌, ◌≤◌, ◌<◌, min, max}
use mathlib.Core.Path.{◌≡◌, refl, sym, ap, ap₂, ◌∙◌}
use mathlib.Core.Bool.{Bool, true, false, cond}
use native.Mathlib.Nat.{min_comm, max_comm, min-eq_left, min-eq_right, max-eq_left, max-eq_right, mul-le-mul_right, mul-sub, mul_comm}
use native.Mathlib.Omega.{arith}
use native.Mathlib.Decide.{dec_le}
use Rattle.ray.specs.declared.axes.Side.{Side}
use Rattle.ray.specs.declared.axes.Side.TheVariants.{X, Y, Z}

abbrev pub Rises : (ℕ → ℕ) → Type 0
Rises h = (x y : ℕ) → x ≤ y → h x ≤ h y

pub rises_back : {h : ℕ → ℕ} → Rises h → (x y : ℕ) → h x < h y → x < y
rises_back rises x y l = elim (dec_le y x) [ yes k ↦ absurd (omega (arith, rises y x k)) | no k ↦ omega arith ]

abbrev pub Falls : (ℕ → ℕ) → Type 0
Falls h = (x y : ℕ) → x ≤ y → h y ≤ h x

-- f of two values of h is h of g of the two
abbrev pub Through : (ℕ → ℕ) → (f g : ℕ → ℕ → ℕ) → Type 0
Through h f g = (x y : ℕ) → f (h x) (h y) ≡ h (g x y)

-- f of the numbers of the three sides
abbrev pub over : (ℕ → ℕ → ℕ) → (Side → ℕ) → ℕ
over f e = f (e X) (f (e Y) (e Z))

-- two ways to the same numbers: f of places through h, and f' of other places through g
module _ (g h : ℕ → ℕ) (k f f' : ℕ → ℕ → ℕ) (through-g : Through g k f') (through-h : Through h k f) where
  two_as : {a b a' b' : ℕ} → g a' ≡ h a → g b' ≡ h b → g (f' a' b') ≡ h (f a b)
  two_as {a} {b} {a'} {b'} u v = sym (through-g a' b') ∙ ap₂ k u v ∙ through-h a b

  pub sides_as : (e e' : Side → ℕ) → ((s : Side) → g (e' s) ≡ h (e s)) → g (over f' e') ≡ h (over f e)
  sides_as e e' u = two_as (u X) (two_as (u Y) (u Z))

  pub either_as : (m : Bool) {a b o a' b' o' : ℕ} → (m ≡ true → g a' ≡ h a) → (m ≡ true → g b' ≡ h b) → g o' ≡ h o → g (cond m (f' a' b') o') ≡ h (cond m (f a b) o)
  either_as true u v w = two_as (u refl) (v refl)
  either_as false u v w = w

-- where neither f nor g asks for an order, one order of the two is enough
in_order : (h : ℕ → ℕ) (f g : ℕ → ℕ → ℕ) → ((a b : ℕ) → f a b ≡ f b a) → ((a b : ℕ) → g a b ≡ g b a) → ((x y : ℕ) → x ≤ y → f (h x) (h y) ≡ h (g x y)) → Through h f g
in_order h f g u v e x y = elim (dec_le x y) [
  | yes l ↦ e x y l
  | no l ↦ u (h x) (h y) ∙ e y x (omega arith) ∙ ap h (v y x)
]

module _ (h : ℕ → ℕ) (rises : Rises h) where
  pub max_rises : Through h max max
  max_rises = in_order h max max max_comm max_comm (λ x y l. max-eq_right (rises x y l) ∙ sym (ap h (max-eq_right l)))

  pub min_rises : Through h min min
  min_rises = in_order h min min min_comm min_comm (λ x y l. min-eq_left (rises x y l) ∙ sym (ap h (min-eq_left l)))

module _ (h : ℕ → ℕ) (falls : Falls h) where
  pub max_falls : Through h max min
  max_falls = in_order h max min max_comm min_comm (λ x y l. max-eq_left (falls x y l) ∙ sym (ap h (min-eq_left l)))

  pub min_falls : Through h min max
  min_falls = in_order h min max min_comm max_comm (λ x y l. min-eq_right (falls x y l) ∙ sym (ap h (max-eq_right l)))

pub min_cap_rises : (d : ℕ) → Rises (min d)
min_cap_rises d x y l = omega arith

pub times_rises : (c : ℕ) → Rises (λ x. x * c)
times_rises c x y l = mul-le-mul_right c l

pub cap_rises : (d c : ℕ) → Rises (λ x. min d (x * c))
cap_rises d c x y l = min_cap_rises d (x * c) (y * c) (times_rises c x y l)

pub sub_times : (x y c : ℕ) → (x - y) * c ≡ x * c - y * c
sub_times x y c = mul_comm (x - y) c ∙ mul-sub c x y ∙ rw (mul_comm c x, mul_comm c y)
