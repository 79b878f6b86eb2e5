-- The first stretch, and the voxel that it lies in. Assumes nothing.
use Rattle.std.proofs.Common.{◌≡◌, true, ℕ, ◌+◌, ◌*◌, ◌^◌, ◌≤◌, min, refl, ap, ◌∙◌, arith}
use Rattle.ray.specs.declared.axes.Side.{Side}
use Rattle.ray.specs.declared.axes.Side.TheVariants.{X, Y, Z}
use Rattle.line.specs.Scene.{Scene}
use Rattle.line.specs.Reach.{left_at}
use Rattle.line.specs.Scene.{line, volume_of, Sized, Able, leaves_at, Window, Within}
use Rattle.line.specs.Beyond.{Stretch}
use Rattle.line.proofs.Three.{each}
use Rattle.ray.proofs.Indices.{number}
use Rattle.walk.specs.declared.plan.Frame.{Frame}
use Rattle.ray.specs.declared.axes.Axes.{Axes}
use Rattle.ray.specs.Side.{of_side}
use Rattle.walk.specs.Plan.{rest_of, Framed, Facing}
use Rattle.walk.proofs.Hops.{row_small, number_small}
use Rattle.walk.proofs.Plans.{at_first_lem, at_plane, left_is, first_stretch}
use Rattle.walk.proofs.plan.walk_of.Goals as goal

-- what each axis gives of the three numbers that the code holds for x, y and z
abbrev Asked : Scene → Frame → Axes ℕ → Type 0
Asked s f first = Able s × Framed s f × (f.hit ≡ true) × Facing s f first

module _ {s : Scene} {f : Frame} {first : Axes ℕ} (p : Asked s f first) where
  at_index : (o : Side) → Sized (line s o) × (rest_of f o ≤ 2 ^ 40) × Window (line s o) (rest_of f o) f.from × (of_side first o ≤ (line s o).n)
  at_index o = let k = at_first_lem p.0 p.1 p.2 o in (k.0, k.1, k.2, (p.3.first o).few)

  -- where the first stretch is known
  module _ (left : Side → ℕ) (met : (o : Side) → left o ≡ left_at (line s o) (rest_of f o) (of_side first o)) where
    leaves : (o : Side) {i : ℕ} → Within (line s o) (rest_of f o) f.from i → left o ≡ leaves_at (line s o) (rest_of f o) i (i + 1)
    leaves = left_is p.0 p.1 p.2 p.3 left met

    stretch : {yz xyz next : ℕ} → yz ≡ min (left Y) (left Z) → xyz ≡ min (left X) yz → next ≡ min f.to xyz → (o : Side) → Stretch (line s o) (rest_of f o) f.from next
    stretch a b e = first_stretch p.0 p.1 p.2 p.3 left met _ (e ∙ ap (min f.to) (b ∙ ap (min (left X)) a))

  -- where the three indices are known
  module _ (at : Side → ℕ) (within : (o : Side) → Within (line s o) (rest_of f o) f.from (at o)) where
    sizes : (o : Side) → (volume_of s o).n ≤ 2 ^ 9
    sizes o = (p.0.sized o).n_size

    row : at Z * s.y.n + at Y ≤ 2 ^ 19
    row = row_small (volume_of s) sizes at (λ o. (within o).inside)

    voxel : number (volume_of s) at ≤ 2 ^ 29
    voxel = number_small (volume_of s) sizes at (λ o. (within o).inside)

pub leave_tick-requires : goal.leave_tick-requires
leave_tick-requires c = let p = c.requires in at_plane p.0 p.1 p.2 p.3 X

pub leave_tick-requires-2 : goal.leave_tick-requires-2
leave_tick-requires-2 c = let p = c.requires in at_plane p.0 p.1 p.2 p.3 Y

pub leave_tick-requires-3 : goal.leave_tick-requires-3
leave_tick-requires-3 c = let p = c.requires in at_plane p.0 p.1 p.2 p.3 Z

pub index-i-requires-clause-sized : goal.index-i-requires-clause-sized
index-i-requires-clause-sized c = at_index c.requires X

pub index-i-requires-clause-stretch : goal.index-i-requires-clause-stretch
index-i-requires-clause-stretch c =
    stretch c.requires (each _ c.leave_tick.result c.leave_tick-2.result c.leave_tick-3.result)
    (each _ c.leave_tick.ensures.value c.leave_tick-2.ensures.value c.leave_tick-3.ensures.value)
    c.min.ensures c.min-2.ensures c.min-next.ensures X

pub index-j-requires-clause-sized : goal.index-j-requires-clause-sized
index-j-requires-clause-sized c = at_index c.requires Y

pub index-j-requires-clause-stretch : goal.index-j-requires-clause-stretch
index-j-requires-clause-stretch c =
    stretch c.requires (each _ c.leave_tick.result c.leave_tick-2.result c.leave_tick-3.result)
    (each _ c.leave_tick.ensures.value c.leave_tick-2.ensures.value c.leave_tick-3.ensures.value)
    c.min.ensures c.min-2.ensures c.min-next.ensures Y

pub index-k-requires-clause-sized : goal.index-k-requires-clause-sized
index-k-requires-clause-sized c = at_index c.requires Z

pub index-k-requires-clause-stretch : goal.index-k-requires-clause-stretch
index-k-requires-clause-stretch c =
    stretch c.requires (each _ c.leave_tick.result c.leave_tick-2.result c.leave_tick-3.result)
    (each _ c.leave_tick.ensures.value c.leave_tick-2.ensures.value c.leave_tick-3.ensures.value)
    c.min.ensures c.min-2.ensures c.min-next.ensures Z

pub overflow_mul-result : goal.overflow_mul-result
overflow_mul-result c = record { fits = omega (arith, row c.requires (each _ c.index-i.result c.index-j.result c.index-k.result) (each _ c.index-i.ensures c.index-j.ensures c.index-k.ensures)) }

pub overflow_add-result : goal.overflow_add-result
overflow_add-result c = record { fits = omega (arith, row c.requires (each _ c.index-i.result c.index-j.result c.index-k.result) (each _ c.index-i.ensures c.index-j.ensures c.index-k.ensures)) }

pub overflow_mul-result-2 : goal.overflow_mul-result-2
overflow_mul-result-2 c = record { fits = omega (arith, voxel c.requires (each _ c.index-i.result c.index-j.result c.index-k.result) (each _ c.index-i.ensures c.index-j.ensures c.index-k.ensures)) }

pub overflow_add-result-2 : goal.overflow_add-result-2
overflow_add-result-2 c = record { fits = omega (arith, voxel c.requires (each _ c.index-i.result c.index-j.result c.index-k.result) (each _ c.index-i.ensures c.index-j.ensures c.index-k.ensures)) }

pub returns : goal.returns
returns c =
    let left : Side → ℕ = each _ c.leave_tick.result c.leave_tick-2.result c.leave_tick-3.result in
    let met : (o : Side) → left o ≡ left_at (line c.args.s o) (rest_of c.args.f o) (of_side c.args.first o) = each _ c.leave_tick.ensures.value c.leave_tick-2.ensures.value c.leave_tick-3.ensures.value in
    record {
      at = each _ c.index-i.result c.index-j.result c.index-k.result;
      within = each _ c.index-i.ensures c.index-j.ensures c.index-k.ensures;
      leaves_at_lem = each _ (leaves c.requires left met X c.index-i.ensures) (leaves c.requires left met Y c.index-j.ensures) (leaves c.requires left met Z c.index-k.ensures);
      leaves_size = each _ c.leave_tick.ensures.upper_bound c.leave_tick-2.ensures.upper_bound c.leave_tick-3.ensures.upper_bound;
      number = refl;
      tick = refl;
    }
