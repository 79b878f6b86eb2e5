-- Each side is as large as a line may be. Assumes nothing.
use Rattle.ray.specs.declared.axes.Side.TheVariants.{X, Y, Z}
use Rattle.line.proofs.scene.squared_of.Goals as goal

pub square-requires : goal.square-requires
square-requires c = c.requires.sized X

pub square-requires-2 : goal.square-requires-2
square-requires-2 c = c.requires.sized Y

pub square-requires-3 : goal.square-requires-3
square-requires-3 c = c.requires.sized Z
