-- One of three, by the side that it stands for. Definitions only. Assumes nothing.
use Rattle.ray.specs.declared.axes.Axes.{Axes}
use Rattle.ray.specs.declared.axes.Side.{Side}
use Rattle.ray.specs.declared.axes.Side.TheVariants.{X, Y, Z}

abbrev pub of_side : {A : Type 0} → Axes A → Side → A
of_side a X = a.x
of_side a Y = a.y
of_side a Z = a.z

abbrev pub with_side : {A : Type 0} → Axes A → Side → A → Axes A
with_side a X b = record { x = b; y = a.y; z = a.z }
with_side a Y b = record { x = a.x; y = b; z = a.z }
with_side a Z b = record { x = a.x; y = a.y; z = b }
