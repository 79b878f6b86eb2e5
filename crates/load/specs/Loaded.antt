-- RULES 10.3: what is loaded between two lines. Definitions only. Assumes nothing.
use Rattle.std.specs.Prelude.{ℕ, cond, List, [], eqb, pos, take}
use Rattle.axis.specs.declared.Axis.{Axis}
use Rattle.axis.specs.declared.Limits.{Limits}
use Rattle.ray.specs.Axes as ray
use Rattle.text.specs.declared.word.Kind.{Kind}
use Rattle.text.specs.declared.word.Kind.TheVariants.{Grid, Dens, Own}
use Rattle.load.specs.declared.state.Load.{Load}

-- the limits of the device; the GRID and DENS lines taken in; the grid, and how many DENS lines are still to come; the densities read
pub record Loaded : Type 0 where
  pub limits : Limits
  pub lines : ℕ
  pub grid : ray.Grid
  pub left : ℕ
  pub densities : List ℕ

-- nothing is read, and the grid is not known yet
abbrev no_axis : Axis
no_axis = record { n = 0; d = 0; b = pos 0 }

abbrev no_grid : ray.Grid
no_grid = record { x = no_axis; y = no_axis; z = no_axis }

abbrev pub nothing : Limits → Loaded
nothing m = record { limits = m; lines = 0; grid = no_grid; left = 0; densities = [] }

-- the kinds of line: 0 GRID, 1 DENS, 2 one of the program's own kind
abbrev pub kind_number : Kind → ℕ
kind_number Grid = 0
kind_number Dens = 1
kind_number Own = 2

-- which line is due: 0 GRID, 1 DENS while some are left, 2 one of the program's own kind
abbrev pub due_at : (lines left : ℕ) → ℕ
due_at lines left = cond (eqb lines 0) 0 (cond (eqb left 0) 2 1)

-- what a state says, where the densities read are the first of a list
abbrev pub loaded_of : Load → List ℕ → Loaded
loaded_of st densities =
    record { limits = st.limits; lines = st.lines; grid = st.grid; left = st.left; densities = take st.filled densities }
