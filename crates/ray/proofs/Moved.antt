-- Volume and ray moved by a whole number k: what a trace hands back is the same. No bound on any number. Assumes nothing.
use Prim.Native.Nat.{ℕ, zero, suc, ◌+◌, ◌-◌, ◌*◌, ◌/◌, ◌%◌, min, max}
use mathlib.Core.Path.{◌≡◌, refl, ap, ap₂, ◌∙◌}
use mathlib.Core.Bool.{Bool, ◌&&◌, ◌||◌, not, cond}
use mathlib.Core.List.{List}
use lib.IntN.{ℤ, nat_abs, ◌+ℤ◌, ◌-ℤ◌}
use lib.Dec.{leb, ltb, eqb}
use lib.ListN.{get_or}
use Rattle.axis.specs.Leg.{Slab, slab, moving, factor, run, held, enters, leaves}
use Rattle.ray.specs.declared.Ray.{Ray}
use Rattle.ray.specs.declared.axes.Side.{Side}
use Rattle.ray.specs.declared.axes.Side.TheVariants.{X, Y, Z}
use Rattle.ray.specs.Length.{leg, d_of, rest, squared_of, Volume, count, array, index, voxel, holds, start, stop, part_of, misses, span_of, insert, list_to, list_of, total, sum_of, crosses, crossed_of}
use Rattle.ray.proofs.Different.{alpha_of, some, crossed_at, different_of}
use Rattle.ray.proofs.MovedAxis.{leg_on, slab_on, diff_on, moving_on, factor_on, run_on, held_on, enters_on, leaves_on}

pub record Moved (k : ℤ) (v v' : Volume) (r r' : Ray) : Type 0 where
  pub sizes : (s : Side) → (v' s).n ≡ (v s).n
  pub planes : (s : Side) (i : ℕ) → (v' s).at i ≡ (v s).at i +ℤ k
  pub starts : (s : Side) → (leg r' s).p ≡ (leg r s).p +ℤ k
  pub ends : (s : Side) → (leg r' s).q ≡ (leg r s).q +ℤ k

module _ {k : ℤ} {v v' : Volume} {r r' : Ray} (moved : Moved k v v' r r') where
  leg_is : (s : Side) → leg r' s ≡ leg_on k (leg r s)
  leg_is s = λ t. record { p = moved.starts s t; q = moved.ends s t }

  factor_moved : (s : Side) → factor (leg r' s) ≡ factor (leg r s)
  factor_moved s = ap factor (leg_is s) ∙ factor_on k (leg r s)

  pub d_moved : d_of r' ≡ d_of r
  d_moved = λ t. factor_moved X t * (factor_moved Y t * factor_moved Z t)

  pub rest_moved : (s : Side) → rest r' s ≡ rest r s
  rest_moved X = λ t. factor_moved Y t * factor_moved Z t
  rest_moved Y = λ t. factor_moved X t * factor_moved Z t
  rest_moved Z = λ t. factor_moved X t * factor_moved Y t

  pub squared_moved : squared_of r' ≡ squared_of r
  squared_moved =
      let diff : (s : Side) → (leg r' s).q -ℤ (leg r' s).p ≡ (leg r s).q -ℤ (leg r s).p = λ s. ap₂ ◌-ℤ◌ (moved.ends s) (moved.starts s) ∙ diff_on k (leg r s).q (leg r s).p in
      λ t. let d : Side → ℕ = λ s. nat_abs (diff s t) in d X * d X + d Y * d Y + d Z * d Z

  -- any box that is moved along
  module _ (b : Side → Slab) {b' : Side → Slab} (box : (s : Side) → b' s ≡ slab_on k (b s)) where
    held_moved : (s : Side) → held (leg r' s) (b' s) ≡ held (leg r s) (b s)
    held_moved s = (λ t. held (leg_is s t) (box s t)) ∙ held_on k (leg r s) (b s)

    enters_moved : (s : Side) → enters (rest r' s) (leg r' s) (b' s) ≡ enters (rest r s) (leg r s) (b s)
    enters_moved s = (λ t. enters (rest_moved s t) (leg_is s t) (box s t)) ∙ enters_on k (leg r s) (b s) (rest r s)

    leaves_moved : (s : Side) → leaves (rest r' s) (leg r' s) (b' s) ≡ leaves (rest r s) (leg r s) (b s)
    leaves_moved s = (λ t. leaves (rest_moved s t) (leg_is s t) (box s t)) ∙ leaves_on k (leg r s) (b s) (rest r s)

    pub holds_moved : holds r' b' ≡ holds r b
    holds_moved = λ t. held_moved X t && (held_moved Y t && held_moved Z t)

    pub start_moved : start r' b' ≡ start r b
    start_moved = λ t. max (enters_moved X t) (max (enters_moved Y t) (enters_moved Z t))

    pub stop_moved : stop r' b' ≡ stop r b
    stop_moved = λ t. min (d_moved t) (min (leaves_moved X t) (min (leaves_moved Y t) (leaves_moved Z t)))

  pub count_moved : count v' ≡ count v
  count_moved = λ t. moved.sizes X t * moved.sizes Y t * moved.sizes Z t

  pub index_moved : (m : ℕ) (s : Side) → index v' m s ≡ index v m s
  index_moved m X = λ t. m % moved.sizes X t
  index_moved m Y = λ t. m / moved.sizes X t % moved.sizes Y t
  index_moved m Z = λ t. m / moved.sizes X t / moved.sizes Y t

  slab_moved : (s : Side) (i j : ℕ) → slab (v' s) i j ≡ slab_on k (slab (v s) i j)
  slab_moved s i j = λ t. record { lo = moved.planes s i t; hi = moved.planes s j t; closed = eqb j (moved.sizes s t) }

  pub voxel_moved : (m : ℕ) (s : Side) → voxel v' m s ≡ slab_on k (voxel v m s)
  voxel_moved m s = (λ t. slab (v' s) (index_moved m s t) (index_moved m s t + 1)) ∙ slab_moved s (index v m s) (index v m s + 1)

  pub array_moved : (s : Side) → array v' s ≡ slab_on k (array v s)
  array_moved s = (λ t. slab (v' s) 0 (moved.sizes s t)) ∙ slab_moved s 0 (v s).n

  pub part_moved : (m : ℕ) → part_of v' r' m ≡ part_of v r m
  unfolding part_of
  part_moved m = let at = voxel_moved m in λ t. cond (holds_moved (voxel v m) at t) (stop_moved (voxel v m) at t - start_moved (voxel v m) at t) 0

  from : start r' (array v') ≡ start r (array v)
  from = start_moved (array v) array_moved

  to : stop r' (array v') ≡ stop r (array v)
  to = stop_moved (array v) array_moved

  pub misses_moved : misses v' r' ≡ misses v r
  unfolding misses
  misses_moved = λ t. leb (to t) (from t) || not (holds_moved (array v) array_moved t)

  pub span_moved : span_of v' r' ≡ span_of v r
  unfolding span_of
  span_moved = λ t. cond (misses_moved t) 0 (to t - from t)

  list_to_moved : (n : ℕ) → list_to v' r' n ≡ list_to v r n
  unfolding list_to
  list_to_moved zero = refl
  list_to_moved (suc n) = λ t. cond (ltb 0 (part_moved n t)) (insert (λ m. start_moved (voxel v m) (voxel_moved m) t) n (list_to_moved n t)) (list_to_moved n t)

  pub list_moved : list_of v' r' ≡ list_of v r
  unfolding list_of
  list_moved = ap (list_to v' r') count_moved ∙ list_to_moved (count v)

  pub sum_moved : (densities : List ℕ) → sum_of v' r' densities ≡ sum_of v r densities
  unfolding sum_of
  sum_moved densities = λ t. total (λ m. part_moved m t * get_or densities m 0) (count_moved t)

  alpha_moved : (s : Side) (i : ℕ) → alpha_of v' r' s i ≡ alpha_of v r s i
  alpha_moved s i =
      let runs : run (leg r' s) ((v' s).at i) ≡ run (leg r s) ((v s).at i) = (λ t. run (leg_is s t) (moved.planes s i t)) ∙ run_on k (leg r s) ((v s).at i) in
      λ t. runs t * rest_moved s t

  pub crosses_moved : (s : Side) (i : ℕ) → crosses v' r' s i ≡ crosses v r s i
  unfolding crosses
  crosses_moved s i =
      let move : moving (leg r' s) ≡ moving (leg r s) = ap moving (leg_is s) ∙ moving_on k (leg r s) in
      λ t. move t && (ltb (from t) (alpha_moved s i t) && ltb (alpha_moved s i t) (to t))

  pub crossed_moved : crossed_of v' r' ≡ crossed_of v r
  unfolding crossed_of
  crossed_moved = λ t. let on : Side → ℕ = λ s. total (λ i. cond (crosses_moved s i t) 1 0) (moved.sizes s t + 1) in cond (misses_moved t) 0 (on X + on Y + on Z)

  crossed_at_moved : (x : ℕ) → crossed_at v' r' x ≡ crossed_at v r x
  unfolding crossed_at
  crossed_at_moved x =
      λ t. let on : Side → Bool = λ s. some (λ i. crosses_moved s i t && eqb (alpha_moved s i t) x) (moved.sizes s t + 1) in on X || (on Y || on Z)

  pub different_moved : different_of v' r' ≡ different_of v r
  unfolding different_of
  different_moved = λ t. total (λ x. cond (crossed_at_moved x t) 1 0) (d_moved t)
