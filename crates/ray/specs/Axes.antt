-- RULES 1: a grid is its three axes, an end its three coordinates. Definitions only. Assumes nothing.
use Rattle.std.specs.Prelude.{ℤ}
use Rattle.axis.specs.declared.Axis.{Axis}
use Rattle.ray.specs.declared.axes.Axes.{Axes}

abbrev pub Grid : Type 0
Grid = Axes Axis

abbrev pub End : Type 0
End = Axes ℤ
