-- A turn puts an entry into both lists and its weight to the sum. Assumes nothing.
use Rattle.std.proofs.Common.{◌≡◌, ℕ, ◌<◌, ◌≤◌, min, refl, arith}
use Rattle.walk.specs.Model.{soonest, stepped}
use Rattle.walk.proofs.Turns.{step_fits, next_tick}
use Rattle.walk.proofs.Filling.{none_filled, index_v, index_p, counted_few, in_densities, sum_fits, last_filled, one_filled}
use Rattle.walk.proofs.entries.fill.Goals as goal

-- the turn ends with the ray, or with the voxel
with_ray : {to next soon : ℕ} → next ≡ soon → to ≤ next → to ≡ min to soon
with_ray e h = omega arith

with_voxel : {to next soon : ℕ} → next ≡ soon → next < to → next ≡ min to soon
with_voxel e h = omega arith

pub loop-s-init : goal.loop-s-init
loop-s-init c = none_filled (λ v. omega (arith, c.type_inv.densities v)) c.requires.forward.0 c.requires.forward.1 c.requires.dense c.requires.voxels_room c.requires.parts_room

pub step-next-requires : goal.step-next-requires
step-next-requires c = step_fits c.loop-s.invariant.forward

pub bounds-densities-voxel : goal.bounds-densities-voxel
bounds-densities-voxel c = in_densities c.loop-s.invariant _ refl

pub offset_bounds-voxels-r : goal.offset_bounds-voxels-r
offset_bounds-voxels-r c = record { fits = omega (arith, counted_few c.loop-s.invariant _ refl) }

pub bounds-voxels-r : goal.bounds-voxels-r
bounds-voxels-r c = index_v c.loop-s.invariant _ refl

pub offset_bounds-parts-r : goal.offset_bounds-parts-r
offset_bounds-parts-r c = record { fits = omega (arith, counted_few c.loop-s.invariant _ refl) }

pub bounds-parts-r : goal.bounds-parts-r
bounds-parts-r c = index_p c.loop-s.invariant _ refl

pub offset_bounds-parts-r-in-loop-s : goal.offset_bounds-parts-r-in-loop-s
offset_bounds-parts-r-in-loop-s c = record { fits = omega (arith, counted_few c.loop-s.invariant _ refl) }

pub bounds-parts-r-in-loop-s : goal.bounds-parts-r-in-loop-s
bounds-parts-r-in-loop-s c = index_p c.loop-s.invariant _ refl

pub overflow_sub-part : goal.overflow_sub-part
overflow_sub-part c = omega (arith, c.loop-s.invariant.forward.before)

pub overflow_add-result : goal.overflow_add-result
overflow_add-result c = record { fits = omega (arith, counted_few c.loop-s.invariant _ refl) }

pub overflow_mul-sum : goal.overflow_mul-sum
overflow_mul-sum c = record { fits = omega (arith, sum_fits c.loop-s.invariant _ (with_ray (next_tick c.loop-s.invariant.forward c.step-next.ensures) c.if-to-next.true)) }

pub overflow_add-sum : goal.overflow_add-sum
overflow_add-sum c = record { fits = sum_fits c.loop-s.invariant _ (with_ray (next_tick c.loop-s.invariant.forward c.step-next.ensures) c.if-to-next.true) }

pub returns-then-to-next-clause-value : goal.returns-then-to-next-clause-value
returns-then-to-next-clause-value c =
    let is = next_tick c.loop-s.invariant.forward c.step-next.ensures in
    (last_filled c.loop-s.invariant _ (with_ray is c.if-to-next.true) (omega arith)).0

pub returns-then-to-next-clause-filled : goal.returns-then-to-next-clause-filled
returns-then-to-next-clause-filled c =
    let is = next_tick c.loop-s.invariant.forward c.step-next.ensures in
    (last_filled c.loop-s.invariant _ (with_ray is c.if-to-next.true) (omega arith)).1

pub overflow_sub-part-in-loop-s : goal.overflow_sub-part-in-loop-s
overflow_sub-part-in-loop-s c = let f = c.loop-s.invariant.forward in omega (arith, next_tick f c.step-next.ensures, f.later)

pub overflow_add-sum-in-loop-s : goal.overflow_add-sum-in-loop-s
overflow_add-sum-in-loop-s c = record { fits = sum_fits c.loop-s.invariant _ (with_voxel (next_tick c.loop-s.invariant.forward c.step-next.ensures) c.if-to-next.false) }

pub overflow_add-r : goal.overflow_add-r
overflow_add-r c = record { fits = omega (arith, counted_few c.loop-s.invariant _ refl) }

pub loop-s-smaller : goal.loop-s-smaller
loop-s-smaller c = let f = c.loop-s.invariant.forward in omega (arith, next_tick f c.step-next.ensures, f.later, f.before)

pub loop-s-preserved : goal.loop-s-preserved
unfolding stepped
loop-s-preserved c =
    let more : soonest c.loop-s.w < c.args.to = omega (arith, next_tick c.loop-s.invariant.forward c.step-next.ensures) in
    rw c.step-next.ensures (one_filled c.loop-s.invariant (soonest c.loop-s.w) (omega arith) more)
