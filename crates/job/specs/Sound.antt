-- What the job keeps true of its state and asks of what it is lent. Definitions only. Assumes nothing.
use Rattle.std.specs.Prelude.{ℕ, ◌≤◌, List, ◌≡◌, length}
use Rattle.axis.specs.declared.Limits.{Limits}
use Rattle.axis.specs.Codes.{first}
use Rattle.ray.specs.Axes.{Grid}
use Rattle.ray.specs.Length.{volume, count}
use Rattle.ray.specs.Codes.{grid_rows}
use Rattle.tracing.specs.Inside.{Suited}
use Rattle.load.specs.declared.state.Load.{Load}
use Rattle.load.specs.Loaded.{due_at}
use Rattle.load.specs.Sound as load

-- a grid that the job takes at limits that suit a trace, with all its densities
pub record Taken (m : Limits) (g : Grid) (densities : ℕ) : Type 0 where
  pub suited : Suited m
  pub accepted : first (grid_rows m g) ≡ 0
  pub few : count (volume g) ≤ 4096
  pub whole : densities ≡ count (volume g)

-- the limits suit a trace, what is loaded is sound, and no ray is answered before all is
pub record Sound (loaded : Load) (rays : ℕ) : Type 0 where
  pub suited : Suited loaded.limits
  pub load : load.Sound loaded
  pub early : (due_at loaded.lines loaded.left ≡ 2 → ⊥) → rays ≡ 0

-- The most that one line prints: a RAY line with 7 numbers and 600 CELL lines with 4, a number taking 21 bytes with its space,
-- so 3 + 7·21 + 1 and 600 times 4 + 4·21 + 1.
abbrev pub room : ℕ
room = 53551

-- the lengths of the lists lent: a line, the densities, and the output
pub record Buffers (l d o : List ℕ) : Type 0 where
  pub line : 4096 ≤ length l
  pub densities : 4096 ≤ length d
  pub out : room ≤ length o
