-- Demand 3, a ray cut at a point of whole coordinates: in each voxel and in the sum, its share is its pieces' shares, each weighted
-- by the piece's length over the ray's. Fractions stand as whole numbers, multiplied across. Assumes nothing.
use Prim.Native.Nat.{ℕ, ◌+◌, ◌*◌, ◌<◌}
use mathlib.Core.Path.{◌≡◌, sym, ap, ap₂, ◌∙◌}
use mathlib.Core.Bool.{true}
use mathlib.Core.List.{List}
use native.Mathlib.Nat.{mul_right_comm, mul_assoc, mul_comm, mul_left_comm, mul-add, add-mul, eq_of_mul-eq-mul_left}
use native.Mathlib.Omega.{arith}
use lib.IntN.{nat_abs, ◌-ℤ◌}
use lib.ListN.{get_or}
use Rattle.axis.specs.Leg.{moving, factor, Slab}
use Rattle.ray.specs.Axes.{End}
use Rattle.ray.specs.declared.Ray.{Ray}
use Rattle.ray.specs.declared.axes.Side.{Side}
use Rattle.ray.specs.Length.{leg, d_of, rest, Volume, count, voxel, part_of, total, sum_of}
use Rattle.ray.proofs.Total.{total_same, total_add, total_times}
use Rattle.ray.proofs.Way.{factor_pos}
use Rattle.ray.proofs.Capped.{part, part_voxel, d_side, d_pos}
use Rattle.ray.proofs.CutBox.{Between, near, far, sides, near_piece, far_piece, size_side, parts}

-- the difference of a ray's end coordinates, its length on that axis
abbrev pub difference : Ray → Side → ℕ
difference r s = nat_abs ((leg r s).q -ℤ (leg r s).p)

-- the differences of a piece t over those of r are the same on every moving axis
abbrev pub Quotient : Ray → Ray → Type 0
Quotient r t = (s o : Side) → moving (leg r s) ≡ true → moving (leg r o) ≡ true → difference t s * difference r o ≡ difference t o * difference r s

-- The mean of two pieces, of lengths f₁ and f₂ on an axis on which the whole has f: x/d = f₁/f · x₁/d₁ + f₂/f · x₂/d₂. Every denominator
-- is above zero, so this is the equation multiplied across.
pub record MeanOf (f f₁ f₂ d d₁ d₂ x x₁ x₂ : ℕ) : Type 0 where
  pub f_pos : 0 < f
  pub d_pos : 0 < d
  pub d₁_pos : 0 < d₁
  pub d₂_pos : 0 < d₂
  pub is : x * f * (d₁ * d₂) ≡ (f₁ * x₁ * d₂ + f₂ * x₂ * d₁) * d

-- So P to Q of P to M and M to Q, on an axis s, where x is a number that each ray has, as its part in a voxel.
abbrev pub Mean : Ray → End → Side → (Ray → ℕ) → Type 0
Mean r m s x =
    MeanOf (difference r s) (difference (near r m) s) (difference (far r m) s) (d_of r) (d_of (near r m)) (d_of (far r m)) (x r) (x (near r m)) (x (far r m))

moving_factor : (r : Ray) (s : Side) → moving (leg r s) ≡ true → factor (leg r s) ≡ difference r s
moving_factor r s h = rw h

cross : (n d a f a' f' : ℕ) → d * a ≡ n * f → d * a' ≡ n * f' → d * (a * f') ≡ d * (a' * f)
cross n d a f a' f' h k =
    sym (mul_assoc d a f') ∙ ap (λ (x : ℕ). x * f') h ∙ mul_right_comm n f f' ∙ ap (λ (x : ℕ). x * f) (sym k) ∙ mul_assoc d a' f

weights : (f q dn df a b x y z : ℕ) → x * (dn * df) ≡ y * (a * q) * df + z * (b * q) * dn → f * (dn * df) * x ≡ a * df * (f * q) * y + b * dn * (f * q) * z
weights f q dn df a b x y z h =
    mul_assoc f (dn * df) x ∙ ap (λ (t : ℕ). f * t) (mul_comm (dn * df) x ∙ h) ∙ simp (mul-add, mul_assoc, mul_comm, mul_left_comm)

shown : (f dn df a b d x y z : ℕ) → f * (dn * df) * x ≡ a * df * d * y + b * dn * d * z → x * f * (dn * df) ≡ (a * y * df + b * z * dn) * d
shown f dn df a b d x y z h =
    mul_assoc x f (dn * df) ∙ mul_comm x (f * (dn * df)) ∙ h ∙ simp (mul-add, mul_assoc, mul_comm, mul_left_comm)

left : (a b f a' b' f' : ℕ) → a + b ≡ f → a' + b' ≡ f' → a * f' ≡ a' * f → b * f' ≡ b' * f
left a b f a' b' f' h k e =
    omega (arith, add-mul a b f', add-mul a' b' f, ap (λ (x : ℕ). x * f') h, ap (λ (x : ℕ). x * f) k, mul_comm f f')

-- what holds of each voxel's number holds of the sum, each times the voxel's weight w
linear : (k a b : ℕ) (f g h w : ℕ → ℕ) → ((m : ℕ) → k * f m ≡ a * g m + b * h m) → (n : ℕ)
    → k * total (λ m. f m * w m) n ≡ a * total (λ m. g m * w m) n + b * total (λ m. h m * w m) n
linear k a b f g h w e n =
    sym (total_times (λ m. f m * w m) k n)
    ∙ total_same (λ m. k * (f m * w m)) (λ m. a * (g m * w m) + b * (h m * w m)) n
    (λ m i. sym (mul_assoc k (f m) (w m)) ∙ ap (λ (t : ℕ). t * w m) (e m) ∙ add-mul (a * g m) (b * h m) (w m) ∙ ap₂ ◌+◌ (mul_assoc a (g m) (w m)) (mul_assoc b (h m) (w m)))
    ∙ total_add (λ m. a * (g m * w m)) (λ m. b * (h m * w m)) n
    ∙ ap₂ ◌+◌ (total_times (λ m. g m * w m) a n) (total_times (λ m. h m * w m) b n)

module _ {r : Ray} {m : End} (between : Between r m) where
  module _ (s : Side) (moves : moving (leg r s) ≡ true) where
    near_difference : factor (leg (near r m) s) ≡ difference (near r m) s
    near_difference = moving_factor (near r m) s ((sides between s).near.moves ∙ moves)

    far_difference : factor (leg (far r m) s) ≡ difference (far r m) s
    far_difference = moving_factor (far r m) s ((sides between s).far.moves ∙ moves)

    -- PM and MQ make up PQ
    pub differences : difference (near r m) s + difference (far r m) s ≡ difference r s
    differences = rw (← near_difference, ← far_difference, ← moving_factor r s moves) (omega (arith, (sides between s).near.length moves, (sides between s).far.length moves))

    -- α = n/d of the differences
    pub α_difference : between.d * difference (near r m) s ≡ between.n * difference r s
    α_difference = rw (← near_difference, ← moving_factor r s moves) ((sides between s).share moves)

    -- the mean, with what x is multiplied by put together
    abbrev Spread : (Ray → ℕ) → Type 0
    Spread x =
        difference r s * (d_of (near r m) * d_of (far r m)) * x r
        ≡ difference (near r m) s * d_of (far r m) * d_of r * x (near r m) + difference (far r m) s * d_of (near r m) * d_of r * x (far r m)

    mean : (x : Ray → ℕ) → Spread x → Mean r m s x
    mean x h = record {
      f_pos = rw (← moving_factor r s moves) (factor_pos (leg r s));
      d_pos = d_pos r;
      d₁_pos = d_pos (near r m);
      d₂_pos = d_pos (far r m);
      is = shown (difference r s) (d_of (near r m)) (d_of (far r m)) (difference (near r m) s) (difference (far r m) s) (d_of r) (x r) (x (near r m)) (x (far r m)) h;
    }

    part_spread : (b : Side → Slab) → Spread (λ t. part t b)
    part_spread b =
        rw (← near_difference, ← far_difference, ← moving_factor r s moves, d_side r s)
        (weights (factor (leg r s)) (rest r s) (d_of (near r m)) (d_of (far r m)) (factor (leg (near r m) s)) (factor (leg (far r m) s)) (part r b) (part (near r m) b) (part (far r m) b)
        (rw (size_side (near_piece between s moves) s moves, size_side (far_piece between s moves) s moves) at (parts between s moves b)))

    module _ (v : Volume) where
      voxel_spread : (w : ℕ) → Spread (λ t. part_of v t w)
      voxel_spread w = rw (part_voxel v r w, part_voxel v (near r m) w, part_voxel v (far r m) w) (part_spread (voxel v w))

      -- a voxel's part over D
      pub voxel_cut : (w : ℕ) → Mean r m s (λ t. part_of v t w)
      voxel_cut w = mean (λ t. part_of v t w) (voxel_spread w)

      -- the weighted sum over D
      pub sum_cut : (densities : List ℕ) → Mean r m s (λ t. sum_of v t densities)
      unfolding sum_of
      sum_cut densities = mean (λ t. sum_of v t densities) (linear _ _ _ (part_of v r) (part_of v (near r m)) (part_of v (far r m)) (λ w. get_or densities w 0) voxel_spread (count v))

  pub same_quotient : Quotient r (near r m)
  same_quotient s t hs ht =
      eq_of_mul-eq-mul_left between.d (omega (arith, between.less)) _ _
      (cross between.n between.d _ _ _ _ (α_difference s hs) (α_difference t ht))

  pub same_quotient_far : Quotient r (far r m)
  same_quotient_far s t hs ht =
      left (difference (near r m) s) _ _ (difference (near r m) t) _ _ (differences s hs) (differences t ht) (same_quotient s t hs ht)
