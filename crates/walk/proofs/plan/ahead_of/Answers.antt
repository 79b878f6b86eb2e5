-- αmin lies in the array on each axis, so a plane is ahead of it. Assumes nothing.
use Rattle.ray.specs.declared.axes.Side.TheVariants.{X, Y, Z}
use Rattle.walk.proofs.Plans.{at_first_lem}
use Rattle.walk.proofs.plan.ahead_of.Goals as goal

pub ahead-requires : goal.ahead-requires
ahead-requires c = at_first_lem c.requires.0 c.requires.1 c.requires.2 X

pub ahead-requires-2 : goal.ahead-requires-2
ahead-requires-2 c = at_first_lem c.requires.0 c.requires.1 c.requires.2 Y

pub ahead-requires-3 : goal.ahead-requires-3
ahead-requires-3 c = at_first_lem c.requires.0 c.requires.1 c.requires.2 Z
