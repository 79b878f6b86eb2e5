-- Start and stop of a box, capped at D, told side by side; and what they become for a ray whose places go through a
-- function that rises or falls. Assumes nothing.
use Prim.Native.Nat.{ℕ, ◌-◌, ◌*◌, ◌≤◌, ◌<◌, min, max}
use mathlib.Core.Path.{◌≡◌, refl, sym, ap, ◌∙◌}
use mathlib.Core.Bool.{true, false, cond}
use mathlib.Core.Logic.{inl, inr}
use native.Mathlib.Nat.{mul_assoc, mul_comm, mul_left_comm, one-mul, mul-pos, min-zero, min-eq_left, min-le_left, le_of_eq}
use native.Mathlib.Omega.{arith}
use lib.IntN.{ℤ}
use Rattle.axis.specs.Leg.{moving, factor, run, Slab, enters, leaves}
use Rattle.ray.specs.declared.Ray.{Ray}
use Rattle.ray.specs.declared.axes.Side.{Side}
use Rattle.ray.specs.declared.axes.Side.TheVariants.{X, Y, Z}
use Rattle.ray.specs.Length.{leg, d_of, rest, Volume, voxel, holds, start, stop, part_of}
use Rattle.ray.proofs.Through.{Rises, over, max_rises, min_rises, sides_as, either_as, min_cap_rises, times_rises, cap_rises}
use Rattle.ray.proofs.Tests.{tested}
use Rattle.ray.proofs.Way.{passed, factor_pos}

-- α times D of the place c on a side, at most D
unfoldable pub on : Ray → Side → ℤ → ℕ
on r s c = min (d_of r) (run (leg r s) c * rest r s)

unfoldable pub enter : Ray → Side → Slab → ℕ
enter r s t = cond (moving (leg r s)) (min (on r s t.lo) (on r s t.hi)) 0

unfoldable pub leave : Ray → Side → Slab → ℕ
leave r s t = cond (moving (leg r s)) (max (on r s t.lo) (on r s t.hi)) (d_of r)

abbrev pub begin : Ray → (Side → Slab) → ℕ
begin r b = min (d_of r) (start r b)

-- a voxel's part, of any box
unfoldable pub part : Ray → (Side → Slab) → ℕ
part r b = cond (holds r b) (stop r b - start r b) 0

pub part_voxel : (v : Volume) (r : Ray) (m : ℕ) → part_of v r m ≡ part r (voxel v m)
unfolding part_of part
part_voxel v r m = refl

pub d_side : (r : Ray) (s : Side) → d_of r ≡ factor (leg r s) * rest r s
d_side r X = refl
d_side r Y = mul_left_comm (factor (leg r X)) (factor (leg r Y)) (factor (leg r Z))
d_side r Z = simp (mul_assoc, mul_comm)

pub rest_pos : (r : Ray) (s : Side) → 0 < rest r s
rest_pos r X = mul-pos (factor_pos (leg r Y)) (factor_pos (leg r Z))
rest_pos r Y = mul-pos (factor_pos (leg r X)) (factor_pos (leg r Z))
rest_pos r Z = mul-pos (factor_pos (leg r X)) (factor_pos (leg r Y))

pub d_pos : (r : Ray) → 0 < d_of r
d_pos r = mul-pos (factor_pos (leg r X)) (rest_pos r X)

less : (d x y : ℕ) → x ≤ d → x - y ≡ x - min d y
less d x y h = omega arith

ahead : (d x y : ℕ) → x ≤ d → 0 < x - y → (y < x) × (min d y ≡ y)
ahead d x y h l = (omega arith, omega arith)

module _ (r : Ray) where
  pub on_passed : (s : Side) (c : ℤ) → on r s c ≡ passed (leg r s) c * rest r s
  unfolding on
  on_passed s c = ap (λ (d : ℕ). min d (run (leg r s) c * rest r s)) (d_side r s) ∙ min_rises (λ x. x * rest r s) (times_rises (rest r s)) (factor (leg r s)) (run (leg r s) c)

  pub still_rest : (s : Side) → moving (leg r s) ≡ false → d_of r ≡ rest r s
  still_rest s h = d_side r s ∙ rw h (one-mul (rest r s))

  pub stop_cap : (b : Side → Slab) → stop r b ≤ d_of r
  stop_cap b = min-le_left (d_of r) _

  cap_enter : (s : Side) (t : Slab) → min (d_of r) (enters (rest r s) (leg r s) t) ≡ enter r s t
  unfolding enter on
  cap_enter s t = elim (tested (moving (leg r s))) [
    | inl h ↦ rw h (sym (min_rises (λ x. min (d_of r) (x * rest r s)) (cap_rises (d_of r) (rest r s)) (run (leg r s) t.lo) (run (leg r s) t.hi)))
    | inr h ↦ rw h (min-zero (d_of r))
  ]

  cap_leave : (s : Side) (t : Slab) → min (d_of r) (leaves (rest r s) (leg r s) t) ≡ leave r s t
  unfolding leave on
  cap_leave s t = elim (tested (moving (leg r s))) [
    | inl h ↦ rw h (sym (max_rises (λ x. min (d_of r) (x * rest r s)) (cap_rises (d_of r) (rest r s)) (run (leg r s) t.lo) (run (leg r s) t.hi)))
    | inr h ↦ rw h (min-eq_left (le_of_eq (still_rest s h)))
  ]

  pub begin_sides : (b : Side → Slab) → begin r b ≡ over max (λ s. enter r s (b s))
  begin_sides b = sides_as (min (d_of r)) (λ n. n) max max max (max_rises (min (d_of r)) (min_cap_rises (d_of r))) (λ x y. refl) _ _ (λ s. cap_enter s (b s))

  pub stop_sides : (b : Side → Slab) → stop r b ≡ over min (λ s. leave r s (b s))
  stop_sides b = sides_as (min (d_of r)) (λ n. n) min min min (min_rises (min (d_of r)) (min_cap_rises (d_of r))) (λ x y. refl) _ _ (λ s. cap_leave s (b s))

  pub part_held : (b : Side → Slab) → holds r b ≡ true → part r b ≡ stop r b - begin r b
  unfolding part
  part_held b h = rw h (less (d_of r) (stop r b) (start r b) (stop_cap b))

  pub part_not_held : (b : Side → Slab) → holds r b ≡ false → part r b ≡ 0
  unfolding part
  part_not_held b h = rw h

  -- a box that the ray meets
  pub record Met (b : Side → Slab) : Type 0 where
    pub held : holds r b ≡ true
    pub some : start r b < stop r b
    pub begins : begin r b ≡ start r b

  pub met : (b : Side → Slab) → 0 < part r b → Met b
  unfolding part
  met b h = elim (tested (holds r b)) [
    | inl e ↦ let f = ahead (d_of r) (stop r b) (start r b) (stop_cap b) (rw e at h) in record { held = e; some = f.0; begins = f.1 }
    | inr e ↦ let none : 0 < 0 = rw e at h in absurd (omega arith)
  ]

-- the places of a ray r', through g, are those of r through h
pub record Alike (g h : ℕ → ℕ) (r r' : Ray) : Type 0 where
  pub moves : (s : Side) → moving (leg r' s) ≡ moving (leg r s)
  pub g_rises : Rises g
  pub h_rises : Rises h
  pub none : g 0 ≡ h 0
  pub all : g (d_of r') ≡ h (d_of r)
  pub each : (s : Side) (c : ℤ) → moving (leg r s) ≡ true → g (on r' s c) ≡ h (on r s c)

module _ {g h : ℕ → ℕ} {r r' : Ray} (a : Alike g h r r') where
  enter_as : (s : Side) (t : Slab) → g (enter r' s t) ≡ h (enter r s t)
  unfolding enter
  enter_as s t = rw (a.moves s) (either_as g h min min min (min_rises g a.g_rises) (min_rises h a.h_rises) (moving (leg r s)) (a.each s t.lo) (a.each s t.hi) a.none)

  leave_as : (s : Side) (t : Slab) → g (leave r' s t) ≡ h (leave r s t)
  unfolding leave
  leave_as s t = rw (a.moves s) (either_as g h max max max (max_rises g a.g_rises) (max_rises h a.h_rises) (moving (leg r s)) (a.each s t.lo) (a.each s t.hi) a.all)

  pub begin_as : (b : Side → Slab) → g (begin r' b) ≡ h (begin r b)
  begin_as b = rw (begin_sides r' b, begin_sides r b) (sides_as g h max max max (max_rises g a.g_rises) (max_rises h a.h_rises) _ _ (λ s. enter_as s (b s)))

  pub stop_as : (b : Side → Slab) → g (stop r' b) ≡ h (stop r b)
  stop_as b = rw (stop_sides r' b, stop_sides r b) (sides_as g h min min min (min_rises g a.g_rises) (min_rises h a.h_rises) _ _ (λ s. leave_as s (b s)))
