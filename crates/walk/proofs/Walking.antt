-- What is known of the walk at each turn: on every axis it is in a voxel of the array, since a tick not later than now and until a
-- tick later than now, and on one axis since now; and the planes from its first voxel are counted. Assumes nothing.
use Rattle.std.proofs.Common.{◌≡◌, ℕ, ◌+◌, ◌-◌, ◌/◌, ◌%◌, ◌^◌, ◌<◌, ◌≤◌, min, Bool, true, false, cond, eqb, sym, refl, ap, ◌∙◌, subst, le_trans, le_of_eq, lt_of_lt_of_le, lt_of_le_of_lt, le_antisymm, arith, eq-eqb, eqb-true}
use borrow.Author.Tests.{lt-leb, eqb-false}
use Rattle.ray.specs.declared.axes.Side.{Side}
use Rattle.ray.specs.declared.axes.Side.TheVariants.{X, Y, Z}
use Rattle.ray.specs.Length.{rest, d_of, count, index, voxel, start, stop, part_of, misses}
use Rattle.ray.proofs.Way.{Way, up, down, still}
use Rattle.ray.proofs.Indices.{number, index_number, number_below, index_below, index_same}
use Rattle.line.specs.Scene.{Scene}
use Rattle.line.specs.Scene.{line, Able, held_at, Within}
use Rattle.line.proofs.Three.{most, least, most_le, le_most, least_le, least_one, lt_least, least_mono, most_mono, most_same, least_same}
use Rattle.line.proofs.Stretch.{onward, Left, Next, next as next-voxel, enter_whole, leave_whole, held_whole, one_voxel}
use Rattle.line.proofs.Scenes.{vol, ray, way, leave, met, part_met, from_of, to_of, enter_in, leave_in, enter_all, leave_all}
use Rattle.walk.specs.declared.steps.Walk.{Walk}
use Rattle.walk.specs.declared.steps.Strides.{Strides}
use Rattle.walk.specs.Model.{leave_of, step_of, jump_of, soonest, next, stepped}
use Rattle.walk.specs.Plan.{unit}
use Rattle.walk.proofs.Hops.{Jump, counted, counted_number, counted_planes, number_small, all_over}
use Rattle.walk.proofs.Turns.{step_tick, step_leave}

-- the strides are those of the scene: from a voxel to the next the leave tick grows by the stride, and v by the jump
pub record Paced (s : Scene) (t : Strides) : Type 0 where
  pub ticks : (o : Side) (i : ℕ) → Left (way s o) i → 0 < leave s o i (i + 1) → leave s o (onward (way s o) i) (onward (way s o) i + 1) ≡ leave s o i (i + 1) + step_of t o
  pub jumps : (o : Side) → Jump (way s o) (unit (vol s) o) (jump_of t o)

-- on every axis the tick t is within the voxel
abbrev pub Inside : Scene → ℕ → (Side → ℕ) → Type 0
Inside s t at = (o : Side) → Within (line s o) (rest (ray s) o) t (at o)

-- from one voxel of an axis onward to another
abbrev Onward : Way → ℕ → ℕ → Type 0
Onward up i j = i ≤ j
Onward down i j = j ≤ i
Onward still i j = i ≡ j

pub onward_none : (w : Way) (i : ℕ) → Onward w i i
onward_none up i = omega arith
onward_none down i = omega arith
onward_none still i = refl

-- the planes between two voxels
abbrev pub gap : (Side → ℕ) → (Side → ℕ) → Side → ℕ
gap i j o = (i o - j o) + (j o - i o)

abbrev pub between : (Side → ℕ) → (Side → ℕ) → ℕ
between i j = gap i j X + gap i j Y + gap i j Z

-- the walk has come from the voxel `first`
pub record Walking (s : Scene) (w : Walk) (at : Side → ℕ) : Type 0 where
  pub within : Inside s w.t at
  pub leaves : (o : Side) → leave_of w o ≡ leave_in s at o
  pub newest : most (enter_in s at) ≡ w.t
  pub first : Side → ℕ
  pub began : Inside s (from_of s) first
  pub come : (o : Side) → Onward (way s o) (first o) (at o)
  pub numbers : w.v ≡ counted (number (vol s) at) (between first at)

-- one voxel further there is one plane more
onward_by : (b : Bool) (w : Way) (i j : ℕ) → (b ≡ true → Left w j) → Onward w i j
    → let k : ℕ = cond b (onward w j) j in Onward w i k × ((i - k) + (k - i) ≡ (i - j) + (j - i) + cond b 1 0)
onward_by false w i j l h = (h, omega arith)
onward_by true up i j l h = (omega arith, omega arith)
onward_by true down i j l h = let some = l refl in (omega arith, omega arith)
onward_by true still i j l h = absurd (l refl)

pub under_least : (d t l : ℕ) → t < min d l → t < l
under_least d t l h = omega arith

pub cut_le : (d l : ℕ) → min d l ≤ d
cut_le d l = omega arith

module _ (s : Scene) (m : ℕ) (h : m < count (vol s)) where
  -- every voxel's stretch lies within the array's
  pub start_late : from_of s ≤ start (ray s) (voxel (vol s) m)
  start_late = most_mono (enter_all s) (enter_in s (index (vol s) m)) (λ o. enter_whole (line s o) (rest (ray s) o) (index (vol s) m o) (index_below (vol s) m h o))

  pub stop_soon : stop (ray s) (voxel (vol s) m) ≤ to_of s
  stop_soon = both (d_of (ray s)) _ _
      (least_mono (leave_in s (index (vol s) m)) (leave_all s) (λ o. leave_whole (line s o) (rest (ray s) o) (index (vol s) m o) (index_below (vol s) m h o)))
    where
      both : (d x y : ℕ) → x ≤ y → min d x ≤ min d y
      both d x y h = omega arith

  -- a tick within a voxel that has a part is within its stretch on every axis
  pub through : (t : ℕ) → 0 < part_of (vol s) (ray s) m → start (ray s) (voxel (vol s) m) ≤ t → t < stop (ray s) (voxel (vol s) m) → Inside s t (index (vol s) m)
  through t p a b o = record {
    inside = index_below (vol s) m h o;
    holds = (met s m p).whole o;
    since = le_trans (le_most (enter_in s (index (vol s) m)) o) a;
    until = lt_of_lt_of_le (under_least (d_of (ray s)) t _ b) (least_le (leave_in s (index (vol s) m)) o);
  }

  -- and so a ray that has a part in it hits
  pub part_hits : 0 < part_of (vol s) (ray s) m → misses (vol s) (ray s) ≡ false
  unfolding misses
  part_hits p =
      let k = (met s m p).proper in
      let proper : from_of s < to_of s = omega (arith, start_late, stop_soon) in
      let held : (o : Side) → held_at (line s o) 0 (line s o).n ≡ true = λ o. held_whole (line s o) (index (vol s) m o) (index_below (vol s) m h o) ((met s m p).whole o) in
      rw (lt-leb (to_of s) (from_of s) proper, held X, held Y, held Z) refl

module _ {s : Scene} (able : Able s) {w : Walk} {at : Side → ℕ} (on : Walking s w at) where
  -- ---- the voxel that the walk is in
  abbrev here : ℕ
  here = number (vol s) at

  inside : (o : Side) → at o < (line s o).n
  inside o = (on.within o).inside

  there : (o : Side) → index (vol s) here o ≡ at o
  there = index_number (vol s) at inside

  pub here_below : here < count (vol s)
  here_below = number_below (vol s) at inside

  pub here_start : start (ray s) (voxel (vol s) here) ≡ w.t
  here_start = most_same (enter_in s (index (vol s) here)) (enter_in s at) (λ o. rw (there o) refl) ∙ on.newest

  here_stop : stop (ray s) (voxel (vol s) here) ≡ min (d_of (ray s)) (soonest w)
  here_stop = ap (min (d_of (ray s))) (least_same (leave_in s (index (vol s) here)) (leave_of w) (λ o. rw (there o) (sym (on.leaves o))))

  pub soon_later : w.t < soonest w
  soon_later = lt_least (leave_of w) w.t (λ o. rw (on.leaves o) (on.within o).until)

  pub to_d : to_of s ≤ d_of (ray s)
  to_d = cut_le (d_of (ray s)) (least (leave_all s))

  here_part : part_of (vol s) (ray s) here ≡ min (d_of (ray s)) (soonest w) - w.t
  here_part = rw (part_met s here (λ o. rw (there o) (on.within o).holds), here_stop, here_start) refl

  -- up to the next plane, or to where the ray leaves the array
  pub part_more : soonest w < to_of s → part_of (vol s) (ray s) here ≡ soonest w - w.t
  part_more h = here_part ∙ ap (λ (x : ℕ). x - w.t) (less (d_of (ray s)) (soonest w) (omega (arith, to_d)))
    where
      less : (d u : ℕ) → u ≤ d → min d u ≡ u
      less d u h = omega arith

  pub part_last : to_of s ≤ soonest w → part_of (vol s) (ray s) here ≡ to_of s - w.t
  part_last h =
      here_part ∙ ap (λ (x : ℕ). x - w.t) (le_antisymm (rw here_stop at (stop_soon s here here_below)) (both (d_of (ray s)) (soonest w) (to_of s) to_d h))
    where
      both : (d u x : ℕ) → x ≤ d → x ≤ u → x ≤ min d u
      both d u x h k = omega arith

  -- until the next plane the ray is in it, and in no other voxel with a part
  until_plane : (x : ℕ) → w.t ≤ x → x < soonest w → Inside s x at
  until_plane x a b o = record {
    inside = inside o;
    holds = (on.within o).holds;
    since = le_trans (on.within o).since a;
    until = lt_of_lt_of_le b (rw (on.leaves o) at (least_le (leave_of w) o));
  }

  pub here_only : (m : ℕ) → m < count (vol s) → 0 < part_of (vol s) (ray s) m → w.t ≤ start (ray s) (voxel (vol s) m)
      → start (ray s) (voxel (vol s) m) < soonest w → m ≡ here
  here_only m h p a b =
      index_same (vol s) m here (λ o. one_voxel (line s o) (able.sized o) (rest (ray s) o) (start (ray s) (voxel (vol s) m))
      (through s m h _ p (omega arith) (met s m p).proper o) (until_plane _ a b o) ∙ sym (there o))

  here_small : here < 2 ^ 32
  here_small = omega (arith, number_small (vol s) (λ o. (able.sized o).n_size) at inside)

  pub number_kept : w.v % 2 ^ 32 ≡ here
  number_kept = rw on.numbers (counted_number here _ here_small)

  pub planes_kept : w.v / 2 ^ 32 ≡ between on.first at
  planes_kept = rw on.numbers (counted_planes here _ here_small)

  gap_few : (o : Side) → gap on.first at o ≤ 2 ^ 9
  gap_few o = omega (arith, (on.began o).inside, inside o, (able.sized o).n_size)

  -- ---- a turn
  module _ {t : Strides} (paced : Paced s t) (more : soonest w < to_of s) where
    abbrev flag : Side → Bool
    flag o = eqb (leave_of w o) (soonest w)

    abbrev go : Side → Bool → ℕ
    go o b = cond b (onward (way s o) (at o)) (at o)

    abbrev pub on_at : Side → ℕ
    on_at o = go o (flag o)

    leave_less : (o : Side) → leave_of w o ≡ soonest w → leave_in s at o < leave_all s o
    leave_less o e =
        lt_of_le_of_lt (rw (on.leaves o) at (le_of_eq e))
        (lt_of_lt_of_le (under_least (d_of (ray s)) (soonest w) _ more) (least_le (leave_all s) o))

    leave_some : (o : Side) → 0 < leave_in s at o
    leave_some o = omega (arith, (on.within o).until)

    pub next_at : (o : Side) → leave_of w o ≡ soonest w → Next (way s o) (line s o) (rest (ray s) o) (at o)
    next_at o e = next-voxel (line s o) (able.sized o) (at o) (inside o) (rest (ray s) o) (leave_some o) (leave_less o e)

    -- what is kept on one axis
    record Kept (o : Side) (b : Bool) : Type 0 where
      pub within : Within (line s o) (rest (ray s) o) (soonest w) (go o b)
      pub leaves : cond b (next t w o) (leave_of w o) ≡ leave s o (go o b) (go o b + 1)

    kept_by : (o : Side) (b : Bool) → flag o ≡ b → Kept o b
    kept_by o true e =
        let u : leave_of w o ≡ soonest w = eqb-true (leave_of w o) (soonest w) e in
        let n : Next (way s o) (line s o) (rest (ray s) o) (at o) = next_at o u in
        record {
          within = subst (λ (x : ℕ). Within (line s o) (rest (ray s) o) x (onward (way s o) (at o))) (sym (on.leaves o) ∙ u) n.within;
          leaves = ap (λ (x : ℕ). x + step_of t o) (on.leaves o) ∙ sym (paced.ticks o (at o) n.left (leave_some o));
        }
    kept_by o false e =
        let b = soon_later in
        record {
          within = record {
            inside = inside o;
            holds = (on.within o).holds;
            since = omega (arith, (on.within o).since);
            until = lt_of_ne (soonest w) (leave_of w o) _ (least_le (leave_of w) o) (eqb-false (leave_of w o) (soonest w) e) (on.leaves o);
          };
          leaves = on.leaves o;
        }
      where
        lt_of_ne : (u l x : ℕ) → u ≤ l → (l ≡ u → ⊥) → l ≡ x → u < x
        lt_of_ne u l x a b c = omega arith

    kept : (o : Side) → Kept o (flag o)
    kept o = kept_by o (flag o) refl

    left_by : (o : Side) → flag o ≡ true → Left (way s o) (at o)
    left_by o e = (next_at o (eqb-true (leave_of w o) (soonest w) e)).left

    come_on : (o : Side) → Onward (way s o) (on.first o) (on_at o) × (gap on.first on_at o ≡ gap on.first at o + cond (flag o) 1 0)
    come_on o = onward_by (flag o) (way s o) (on.first o) (at o) (left_by o) (on.come o)

    stepped_number : (stepped t w).v ≡ counted (number (vol s) on_at) (between on.first on_at)
    unfolding stepped
    stepped_number =
        rw on.numbers
        (all_over (vol s) (λ o. (able.sized o).n_size) (way s) at flag (jump_of t) paced.jumps left_by inside (λ o. (kept o).within.inside) (between on.first at)
        (omega (arith, gap_few X, gap_few Y, gap_few Z))
        ∙ ap (counted (number (vol s) on_at)) (omega (arith, (come_on X).1, (come_on Y).1, (come_on Z).1)))

    fresh : (o : Side) → leave_of w o ≡ soonest w → enter_in s on_at o ≡ soonest w
    fresh o e = rw (eq-eqb (leave_of w o) (soonest w) e) ((next_at o e).enters ∙ sym (on.leaves o) ∙ e)

    newest_on : most (enter_in s on_at) ≡ soonest w
    newest_on =
        let o = least_one (leave_of w) in
        le_antisymm (most_le _ (soonest w) (λ x. (kept x).within.since)) (le_trans (le_of_eq (sym (fresh o.0 o.1))) (le_most (enter_in s on_at) o.0))

    pub walking_on : Walking s (stepped t w) on_at
    walking_on = record {
      within = λ o. rw (step_tick t w) (kept o).within;
      leaves = λ o. step_leave t w o ∙ (kept o).leaves;
      newest = newest_on ∙ sym (step_tick t w);
      first = on.first;
      began = on.began;
      come = λ o. (come_on o).0;
      numbers = stepped_number;
    }
