-- A plan of a scene that is hit: its walk is walking, and so its entries are the list. Assumes nothing.
use Rattle.std.proofs.Common.{◌≡◌, ℕ, ◌+◌, ◌*◌, ◌^◌, ◌<◌, ◌≤◌, min, true, false, not, ◌||◌, leb, map, sym, refl, ap, ◌∙◌, le_trans, le_of_eq, lt_of_lt_of_le, lt_of_le_of_lt, le_of_lt, le_antisymm, mul-pos, arith, leb-false}
use borrow.Author.Tests.{not-true, not-false}
use Rattle.axis.specs.Leg.{factor}
use Rattle.axis.proofs.Flag.{or_left, or_right}
use Rattle.ray.specs.declared.axes.Side.{Side}
use Rattle.ray.specs.declared.axes.Side.TheVariants.{X, Y, Z}
use Rattle.ray.specs.Length.{leg, rest, d_of, array, holds, misses, part_of, crosses, crossed_of}
use Rattle.ray.proofs.Capped.{rest_pos}
use Rattle.ray.proofs.Tests.{all_of}
use Rattle.ray.proofs.Way.{Way, up, down, still, Goes}
use Rattle.line.specs.declared.line.Line.{Line}
use Rattle.line.specs.Scene.{Scene}
use Rattle.line.specs.Scene.{line, volume_of, ray_of, Sized, Able, leaves_at, held_at, Window, Within}
use Rattle.line.specs.Reach.{left_at}
use Rattle.line.specs.Beyond.{Stretch}
use Rattle.line.proofs.Three.{each, most_le, le_most, least_le, most_mono}
use Rattle.line.proofs.Stretch.{going, enter_whole}
use Rattle.line.proofs.Steps.{stride}
use Rattle.line.proofs.Rounded.{voxel_of}
use Rattle.line.proofs.Beyond.{leave_beyond}
use Rattle.line.proofs.Sizes.{two_sizes, three_sizes, factor_size}
use Rattle.line.proofs.Scenes.{way, leg_is, leave, from_of, to_of, enter_in, enter_all, leave_all}
use Rattle.walk.specs.declared.steps.Walk.{Walk}
use Rattle.walk.specs.declared.steps.Strides.{Strides}
use Rattle.walk.specs.declared.plan.Frame.{Frame}
use Rattle.ray.specs.declared.axes.Axes.{Axes}
use Rattle.ray.specs.Side.{of_side}
use Rattle.walk.specs.Model.{jump_of, Forward}
use Rattle.walk.specs.Plan.{rest_of, Framed, unit, Strided, Facing, Begun, Planned}
use Rattle.walk.proofs.Hops.{Jump, unit_small}
use Rattle.walk.proofs.Walking.{Paced, Inside, onward_none, Walking, under_least, cut_le, soon_later}
use Rattle.walk.proofs.Found.{crossed_by, found_list, found_parts, found_planes}

jump_by : (w : Way) (p q u x : ℕ) → Goes w p q → (p < q → x ≡ 2 ^ 32 + u) → (q ≤ p → x + u ≡ 2 ^ 32) → Jump w u x
jump_by up p q u x g a b = a g
jump_by down p q u x g a b = b (le_of_lt g)
jump_by still p q u x g a b = tt

-- a tick's voxel, where the ticks to a unit and the tick go by other names
carried : {a : Line} {c d t u i : ℕ} → c ≡ d → u ≡ t → Within a c t i → Within a d u i
carried e k v = rw (k, ← e) v

-- the planes crossed, axis by axis
pub crossed_all : (s : Scene) → misses (volume_of s) (ray_of s) ≡ false → crossed_by s X + crossed_by s Y + crossed_by s Z ≡ crossed_of (volume_of s) (ray_of s)
unfolding crosses crossed_of
crossed_all s hit = rw hit refl

module _ {s : Scene} (able : Able s) where
  factor_few : (o : Side) → factor (leg (ray_of s) o) ≤ 2 ^ 20
  factor_few o = rw (leg_is s o) (factor_size (line s o) (able.sized o))

  pub rest_few : (o : Side) → rest (ray_of s) o ≤ 2 ^ 40
  rest_few = each _ (two_sizes (factor_few Y) (factor_few Z)) (two_sizes (factor_few X) (factor_few Z)) (two_sizes (factor_few X) (factor_few Y))

  pub d_few : d_of (ray_of s) ≤ 2 ^ 60
  d_few = three_sizes (factor_few X) (rest_few X)

  pub unit_few : (o : Side) → unit (volume_of s) o ≤ 2 ^ 18
  unit_few = unit_small (volume_of s) (λ o. (able.sized o).n_size)

  module _ {f : Frame} (framed : Framed s f) where
    pub few : (o : Side) → rest_of f o ≤ 2 ^ 40
    few o = rw (framed.rests o) (rest_few o)

    pub step_few : (o : Side) → (line s o).d * rest_of f o ≤ 2 ^ 60
    step_few o = three_sizes (able.sized o).d_size (few o)

    module _ (hit : f.hit ≡ true) where
      missed_not : (leb (to_of s) (from_of s) || not (holds (ray_of s) (array (volume_of s)))) ≡ false
      unfolding misses
      missed_not = not-true _ (sym framed.hit_is ∙ hit)

      pub proper : f.from < f.to
      proper = rw (framed.from_is, framed.to_is) (leb-false _ _ (or_left (leb (to_of s) (from_of s)) _ missed_not))

      held_all : holds (ray_of s) (array (volume_of s)) ≡ true
      held_all = not-false _ (or_right (leb (to_of s) (from_of s)) _ missed_not)

      -- a tick of the window is one on every axis
      pub windows : (o : Side) (t : ℕ) → f.from ≤ t → t < f.to → Window (line s o) (rest_of f o) t
      windows o t a b = rw (framed.rests o) (record {
        some = rest_pos (ray_of s) o;
        holds = all_of (λ x. held_at (line s x) 0 (line s x).n) held_all o;
        since = le_trans (le_most (enter_all s) o) (rw framed.from_is at a);
        until = lt_of_lt_of_le (under_least (d_of (ray_of s)) t _ (rw framed.to_is at b)) (least_le (leave_all s) o);
      })

      -- what `ahead` and `index` ask at the first tick
      pub at_first_lem : (o : Side) → Sized (line s o) × (rest_of f o ≤ 2 ^ 40) × Window (line s o) (rest_of f o) f.from
      at_first_lem o = (able.sized o, few o, windows o f.from (omega arith) proper)

      module _ {a : Axes ℕ} (facing : Facing s f a) where
        -- what `leave_tick` asks of the plane ahead
        pub at_plane : (o : Side) → Sized (line s o) × (rest_of f o ≤ 2 ^ 40) × (of_side a o ≤ (line s o).n)
        at_plane o = (able.sized o, few o, (facing.first o).few)

        -- the plane ahead is the one by which the first voxel is left
        module _ (left : Side → ℕ) (met : (o : Side) → left o ≡ left_at (line s o) (rest_of f o) (of_side a o)) where
          pub left_is : (o : Side) {i : ℕ} → Within (line s o) (rest_of f o) f.from i → left o ≡ leaves_at (line s o) (rest_of f o) i (i + 1)
          left_is o {i} v = met o ∙ ap (left_at (line s o) (rest_of f o)) ((facing.first o).ahead i v) ∙ leave_beyond (line s o) (rest_of f o) i

          later : (o : Side) → f.from < left o
          later o =
              let v = voxel_of (line s o) (rest_of f o) f.from (at_first_lem o).2 (able.sized o) in
              omega (arith, left_is o v.1, v.1.until)

          -- the first stretch, up to the soonest plane or to αmax, is never empty, and no plane cuts it
          pub first_stretch : (next : ℕ) → next ≡ min f.to (min (left X) (min (left Y) (left Z))) → (o : Side) → Stretch (line s o) (rest_of f o) f.from next
          first_stretch next e o =
              let soonest : (o : Side) → next ≤ left o = each _ (omega arith) (omega arith) (omega arith) in
              record {
                some = let h = proper in omega (arith, later X, later Y, later Z);
                clear = λ i v. omega (arith, soonest o, left_is o v);
              }

      module _ {w : Walk} (begun : Begun s f w) where
        abbrev at : Side → ℕ
        at = begun.at

        inside : Inside s w.t at
        inside o = carried (framed.rests o) begun.tick (begun.within o)

        pub walking : Walking s w at
        walking = record {
          within = inside;
          leaves = λ o. rw (← framed.rests o) (begun.leaves_at_lem o);
          newest = le_antisymm (most_le (enter_in s at) w.t (λ o. (inside o).since))
              (le_trans (le_of_eq (begun.tick ∙ framed.from_is)) (most_mono (enter_all s) _ (λ o. enter_whole (line s o) (rest (ray_of s) o) (at o) (begun.within o).inside)));
          first = at;
          began = λ o. carried (framed.rests o) (sym framed.from_is) (begun.within o);
          come = λ o. onward_none (way s o) (at o);
          numbers = begun.number ∙ omega arith;
        }

        module _ {t : Strides} (strided : Strided s f t) where
          pub paced : Paced s t
          paced = record {
            ticks = λ o i l k. stride (line s o) i (rest (ray_of s) o) l k ∙ ap (λ (x : ℕ). leave s o i (i + 1) + x) (rw (← framed.rests o) (sym (strided.ticks o)));
            jumps = λ o. jump_by (way s o) (line s o).p (line s o).q (unit (volume_of s) o) (jump_of t o) (going (line s o)) (strided.upward o) (strided.downward o);
          }

          pub forward : Forward t f.to w
          forward = record {
            steps_some = λ o. rw (strided.ticks o, framed.rests o) (mul-pos (able.sized o).wide (rest_pos (ray_of s) o));
            steps_size = λ o. rw (strided.ticks o) (step_few o);
            leaves_size = λ o. omega (arith, begun.leaves_size o);
            to_size = rw framed.to_is (le_trans (cut_le (d_of (ray_of s)) _) d_few);
            later = soon_later able walking;
            before = lt_of_le_of_lt (le_of_eq begun.tick) proper;
          }

          pub planned : Planned s f.to (record { walk = w; strides = t })
          planned =
              let f' : Forward t (to_of s) w = rw framed.to_is at forward in
              let vs = found_list able paced walking f' (begun.tick ∙ framed.from_is) in
              record {
                forward = forward;
                voxels_are = rw framed.to_is vs;
                parts_are = rw framed.to_is (found_parts able paced walking f' ∙ ap (map (part_of (volume_of s) (ray_of s))) vs);
                crossed_is = rw framed.to_is (found_planes able paced walking f') ∙ crossed_all s (not-true _ (sym framed.hit_is ∙ hit));
              }
