-- A ray that hits is set out and walked, one that misses is told so. Assumes nothing.
use Rattle.std.proofs.Common.{arith}
use Rattle.ray.specs.declared.axes.Side.TheVariants.{X, Y, Z}
use Rattle.walk.proofs.Called.{few, dense, until_few, from_to, hit_walked, miss_walked}
use Rattle.walk.proofs.Ordering.{ordered_plan}
use Rattle.walk.proofs.call.walk.Goals as goal

pub overflow_add-most : goal.overflow_add-most
overflow_add-most c = let sized = c.requires.able.0.sized in record { fits = omega (arith, (sized X).n_size, (sized Y).n_size) }

pub overflow_add-most-then-f : goal.overflow_add-most-then-f
overflow_add-most-then-f c = let sized = c.requires.able.0.sized in record { fits = omega (arith, (sized X).n_size, (sized Y).n_size, (sized Z).n_size) }

pub enter-t-requires-clause-forward : goal.enter-t-requires-clause-forward
enter-t-requires-clause-forward c =
    let planned = ordered_plan c.ordered-p.ensures c.plan_of.ensures.planned in
    (planned.forward, until_few c.requires.able.0 c.frame_of-f.ensures c.requires.able.1)

pub enter-t-requires-clause-dense : goal.enter-t-requires-clause-dense
enter-t-requires-clause-dense c =
    dense c.requires.able.0 c.frame_of-f.ensures c.if-f.true (ordered_plan c.ordered-p.ensures c.plan_of.ensures.planned) _ c.requires.densities_len

pub enter-t-requires-clause-enough : goal.enter-t-requires-clause-enough
enter-t-requires-clause-enough c =
    omega (arith, few c.requires.able.0 c.frame_of-f.ensures c.if-f.true (ordered_plan c.ordered-p.ensures c.plan_of.ensures.planned))

pub overflow_sub-result : goal.overflow_sub-result
overflow_sub-result c = from_to c.requires.able.0 c.frame_of-f.ensures c.if-f.true (ordered_plan c.ordered-p.ensures c.plan_of.ensures.planned)

pub returns-then-f : goal.returns-then-f
returns-then-f c =
    let w = hit_walked c.requires.able.0 c.frame_of-f.ensures c.if-f.true (ordered_plan c.ordered-p.ensures c.plan_of.ensures.planned) _ _ c.enter-t.ensures c.squared_of-squared.ensures in
    record { value = w.0; fitted = w.1 }

pub returns : goal.returns
returns c =
    let w = miss_walked c.requires.able.0 c.frame_of-f.ensures c.if-f.false _ _ _ c.squared_of-squared.ensures in
    record { value = w.0; fitted = w.1 }
