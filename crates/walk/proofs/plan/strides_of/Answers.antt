-- The steps and jumps fit. Assumes nothing.
use Rattle.std.proofs.Common.{arith}
use Rattle.ray.specs.declared.axes.Side.TheVariants.{X, Y, Z}
use Rattle.walk.proofs.Plans.{unit_few, step_few}
use Rattle.walk.proofs.plan.strides_of.Goals as goal

pub overflow_mul-result : goal.overflow_mul-result
overflow_mul-result c = record { fits = omega (arith, step_few c.requires.0 c.requires.1 X) }

pub overflow_mul-result-2 : goal.overflow_mul-result-2
overflow_mul-result-2 c = record { fits = omega (arith, step_few c.requires.0 c.requires.1 Y) }

pub overflow_mul-result-3 : goal.overflow_mul-result-3
overflow_mul-result-3 c = record { fits = omega (arith, step_few c.requires.0 c.requires.1 Z) }

pub jump-requires-2 : goal.jump-requires-2
jump-requires-2 c = omega (arith, unit_few c.requires.0 Y)

pub overflow_mul-s : goal.overflow_mul-s
overflow_mul-s c = record { fits = omega (arith, unit_few c.requires.0 Z) }

pub jump-requires-3 : goal.jump-requires-3
jump-requires-3 c = omega (arith, unit_few c.requires.0 Z)
