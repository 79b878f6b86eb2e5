-- One axis in ticks: the stretch of the ray in a voxel, the next voxel, and that a tick lies in one voxel only. Ticks are units
-- times c, the rest of D. Of where planes lie only their order is asked. Assumes nothing.
use Prim.Native.Nat.{ℕ, zero, suc, ◌+◌, ◌-◌, ◌*◌, ◌≤◌, ◌<◌}
use mathlib.Core.Path.{◌≡◌, refl, sym, ap, ◌∙◌}
use mathlib.Core.Bool.{Bool, true, cond}
use mathlib.Core.Logic.{⊎_elim}
use native.Mathlib.Omega.{arith}
use native.Mathlib.Decide.{dec_lt}
use native.Mathlib.Nat.{le_of_eq, mul-le-mul_right, mul-lt-mul_of_pos_right, lt_of_mul-lt-mul_right, add-mul, one-mul, zero-mul, mul-zero}
use lib.Dec.{ltb}
use borrow.Author.Tests.{eq-eqb, ne_eqb, lt-ltb, le-ltb}
use Rattle.line.specs.declared.line.Line.{Line}
use Rattle.axis.specs.Leg.{slab, held}
use Rattle.line.specs.Scene.{leg_n, slab_n, plane, planes_of, Sized, enters_at, leaves_at, held_at, Within}
use Rattle.line.specs.Beyond.{by_way}
use Rattle.ray.proofs.Way.{Way, up, down, still, Goes, way as goes}
use Rattle.line.proofs.Units.{enter_by, leave_by, HeldBy, enters_is, leaves_is, held_by, by_held, enter_within, leave_within, held_within, apart}

-- ---- planes rise
pub plane_mono : (a : Line) {i j : ℕ} → i ≤ j → plane a i ≤ plane a j
plane_mono a h = omega (arith, mul-le-mul_right a.d h)

pub plane_less : (a : Line) → Sized a → (i : ℕ) → plane a i < plane a (i + 1)
plane_less a sized i = omega (arith, add-mul i 1 a.d, one-mul a.d, sized.wide)

-- ---- by the way that the ray goes on the axis
abbrev pub way_of : Line → Way
way_of a = (goes a.p a.q).0

pub going : (a : Line) → Goes (way_of a) a.p a.q
going a = (goes a.p a.q).1

abbrev pub pick : Way → (x y z : ℕ) → ℕ
pick up x y z = x
pick down x y z = y
pick still x y z = z

pub way_is : (a : Line) (w : Way) → Goes w a.p a.q → (x y z : ℕ) → by_way a x y z ≡ pick w x y z
way_is a up g x y z = rw (lt-ltb a.p a.q g) refl
way_is a down g x y z = rw (le-ltb a.p a.q (omega arith), lt-ltb a.q a.p g) refl
way_is a still g x y z = rw (le-ltb a.p a.q (omega arith), le-ltb a.q a.p (omega arith)) refl

-- t more going up and t less going down, with no branch on the way: `more` is added and `less` taken off
abbrev pub Shifted : Line → (x t more less : ℕ) → Type 0
Shifted a x t more less = (more ≤ t) × (less ≤ x + more) × (x + more - less ≡ by_way a (x + t) (x - t) x)

pub shift_is : (a : Line) (w : Way) → Goes w a.p a.q → (x t : ℕ) → (a.q < a.p → t ≤ x) → {more less : ℕ} → more ≡ cond (ltb a.p a.q) t 0 → less ≡ cond (ltb a.q a.p) t 0
    → Shifted a x t more less
shift_is a up g x t h e k = rw (e, k, lt-ltb a.p a.q g, le-ltb a.q a.p (omega arith)) (omega arith, omega arith, omega arith)
shift_is a down g x t h e k = rw (e, k, le-ltb a.p a.q (omega arith), lt-ltb a.q a.p g) (omega arith, omega (arith, h g), omega arith)
shift_is a still g x t h e k = rw (e, k, le-ltb a.p a.q (omega arith), le-ltb a.q a.p (omega arith)) (omega arith, omega arith, omega arith)

module _ (a : Line) (c : ℕ) (w : Way) (g : Goes w a.p a.q) where
  module _ (i j : ℕ) (h : i ≤ j) where
    pub enters_by : enters_at a c i j ≡ enter_by w a.p (plane a i) (plane a j) * c
    enters_by = enters_is w a.p a.q (plane a i) (plane a j) c g (plane_mono a h)

    pub leaves_by : leaves_at a c i j ≡ leave_by w a.p (plane a i) (plane a j) * c
    leaves_by = leaves_is w a.p a.q (plane a i) (plane a j) c g (plane_mono a h)

  pub enter_voxel : (i : ℕ) → enters_at a c i (i + 1) ≡ enter_by w a.p (plane a i) (plane a (i + 1)) * c
  enter_voxel i = enters_by i (i + 1) (omega arith)

  pub leave_voxel : (i : ℕ) → leaves_at a c i (i + 1) ≡ leave_by w a.p (plane a i) (plane a (i + 1)) * c
  leave_voxel i = leaves_by i (i + 1) (omega arith)

-- a voxel's stretch lies within the array's
module _ (a : Line) (c i : ℕ) (h : i < a.n) where
  abbrev w : Way
  w = way_of a

  first : plane a 0 ≤ plane a i
  first = plane_mono a (omega arith)

  last : plane a (i + 1) ≤ plane a a.n
  last = plane_mono a (omega arith)

  pub enter_whole : enters_at a c 0 a.n ≤ enters_at a c i (i + 1)
  enter_whole = rw (enters_by a c w (going a) 0 a.n (omega arith), enter_voxel a c w (going a) i) (mul-le-mul_right c (enter_within w a.p first last))

  pub leave_whole : leaves_at a c i (i + 1) ≤ leaves_at a c 0 a.n
  leave_whole = rw (leaves_by a c w (going a) 0 a.n (omega arith), leave_voxel a c w (going a) i) (mul-le-mul_right c (leave_within w a.p first last))

-- whether voxel i holds its upper plane
abbrev pub closed : Line → ℕ → Bool
closed a i = (slab (planes_of a) i (i + 1)).closed

held_voxel : (a : Line) (i : ℕ) → held_at a i (i + 1) ≡ true → HeldBy (way_of a) (closed a i) a.p (plane a i) (plane a (i + 1))
held_voxel a i = held_by (way_of a) (closed a i) a.p a.q (plane a i) (plane a (i + 1)) (going a)

-- the array holds its far plane
pub held_array : (a : Line) → held_at a 0 a.n ≡ held (leg_n a.p a.q) (slab_n (plane a 0) (plane a a.n) true)
held_array a = rw (eq-eqb a.n a.n refl) refl

pub held_whole : (a : Line) (i : ℕ) → i < a.n → held_at a i (i + 1) ≡ true → held_at a 0 a.n ≡ true
held_whole a i h k =
    held_array a
    ∙ by_held (way_of a) true a.p a.q (plane a 0) (plane a a.n) (going a)
    (held_within (way_of a) (closed a i) a.p (first a 0 i h) (last a 0 i h) (held_voxel a i k))

module _ (a : Line) (sized : Sized a) (c t : ℕ) where
  apart_at : {i j : ℕ} → i < j → Within a c t i → Within a c t j → ⊥
  apart_at {i} {j} h x y =
      let enter = enter_voxel a c (way_of a) (going a) in
      let leave = leave_voxel a c (way_of a) (going a) in
      ⊎_elim (λ k. omega (arith, mul-le-mul_right c k, leave i, enter j, x.until, y.since)) (λ k. omega (arith, mul-le-mul_right c k, leave j, enter i, y.until, x.since))
      (apart (way_of a) (closed a j) a.p (plane_less a sized i) (plane_less a sized j) (plane_mono a (omega arith))
      (rw (ne_eqb (i + 1) a.n (λ e. omega (arith, y.inside))) at (held_voxel a i x.holds)) (held_voxel a j y.holds))

  -- a tick lies in one voxel of the axis
  pub one_voxel : {i j : ℕ} → Within a c t i → Within a c t j → i ≡ j
  one_voxel {i} {j} x y = elim (dec_lt i j) [
    | yes h ↦ absurd (apart_at h x y)
    | no h ↦ elim (dec_lt j i) [ yes k ↦ absurd (apart_at k y x) | no k ↦ omega arith ]
  ]

-- one voxel on, in the way of the ray
abbrev pub onward : Way → ℕ → ℕ
onward up i = i + 1
onward down i = i - 1
onward still i = i

-- that there is one: the ray moves, and is not at the lower end
abbrev pub Left : Way → ℕ → Type 0
Left up i = Unit {0}
Left down i = 0 < i
Left still i = ⊥

held_left : (w : Way) (closed : Bool) (p lo hi i : ℕ) → Left w i → HeldBy w closed p lo hi
held_left up closed p lo hi i l = tt
held_left down closed p lo hi i l = tt
held_left still closed p lo hi i l = absurd l

-- the next voxel is the one that the tick is in at which this one is left
pub record Next (w : Way) (a : Line) (c i : ℕ) : Type 0 where
  pub left : Left w i
  pub within : Within a c (leaves_at a c i (i + 1)) (onward w i)
  pub enters : enters_at a c (onward w i) (onward w i + 1) ≡ leaves_at a c i (i + 1)

pub both_some : (l c : ℕ) → 0 < l * c → (0 < l) × (0 < c)
both_some zero c h = absurd (omega (arith, zero-mul c))
both_some (suc l) zero h = absurd (omega (arith, mul-zero (suc l)))
both_some (suc l) (suc c) h = (omega arith, omega arith)

module _ (a : Line) (sized : Sized a) (i : ℕ) (h : i < a.n) where
  abbrev here : Way → ℕ
  here w = leave_by w a.p (plane a i) (plane a (i + 1))

  -- the same in units
  next_unit : (w : Way) → 0 < here w → here w < leave_by w a.p (plane a 0) (plane a a.n)
      → Left w i × (onward w i < a.n) × (enter_by w a.p (plane a (onward w i)) (plane a (onward w i + 1)) ≡ here w) × (here w < leave_by w a.p (plane a (onward w i)) (plane a (onward w i + 1)))
  next_unit up s l = (
    tt,
    elim (dec_lt (i + 1) a.n) [ yes m ↦ m | no m ↦ absurd (omega (arith, plane_mono a {i = a.n} {j = i + 1} (omega arith))) ],
    refl,
    omega (arith, plane_less a sized (i + 1)),
  )
  next_unit down s l =
      let some : 0 < i = elim (dec_lt 0 i) [ yes m ↦ m | no m ↦ let e : i ≡ 0 = omega arith in absurd (omega (arith, ap (plane a) e)) ] in
      let back : i - 1 + 1 ≡ i = omega arith in (
        some,
        omega arith,
        ap (λ (x : ℕ). a.p - plane a x) back,
        omega (arith, plane_less a sized (i - 1), ap (plane a) back),
      )
  next_unit still s l = absurd (omega arith)

  -- where the axis is left before the array is, there is a next voxel
  pub next : (c : ℕ) → 0 < leaves_at a c i (i + 1) → leaves_at a c i (i + 1) < leaves_at a c 0 a.n → Next (way_of a) a c i
  next c s l =
      let w = way_of a in
      let g = going a in
      let left : leaves_at a c i (i + 1) ≡ here w * c = leave_voxel a c w g i in
      let some = both_some (here w) c (omega arith) in
      let u = next_unit w some.0 (lt_of_mul-lt-mul_right c (omega (arith, leaves_by a c w g 0 a.n (omega arith)))) in
      let enter : enters_at a c (onward w i) (onward w i + 1) ≡ leaves_at a c i (i + 1) = enter_voxel a c w g (onward w i) ∙ ap (λ (x : ℕ). x * c) u.2 ∙ sym left in
      record {
        left = u.0;
        within = record {
          inside = u.1;
          holds = by_held w (closed a (onward w i)) a.p a.q (plane a (onward w i)) (plane a (onward w i + 1)) g (held_left w _ _ _ _ i u.0);
          since = le_of_eq enter;
          until = omega (arith, mul-lt-mul_of_pos_right u.3 some.1, leave_voxel a c w g (onward w i));
        };
        enters = enter;
      }
