-- What the loader keeps true of its state. Definitions only. Assumes nothing.
use Rattle.std.specs.Prelude.{◌+◌, ◌*◌, ◌≤◌, ◌≡◌, Option, None, Some, Result, Ok, Err}
use Rattle.axis.specs.Codes.{first}
use Rattle.ray.specs.Length.{volume, count}
use Rattle.ray.specs.Codes.{grid_rows}
use Rattle.load.specs.declared.refusal.Bad.{Bad}
use Rattle.load.specs.declared.state.Load.{Load}
use Rattle.load.specs.Loaded.{due_at}

-- a DENS line has at most 512 densities; the grid is one that is taken, as soon as it is read, and its densities are read or still to
-- come
pub record Sound (st : Load) : Type 0 where
  pub narrow : st.limits.n ≤ 512
  pub accepted : (st.lines ≡ 0 → ⊥) → first (grid_rows st.limits st.grid) ≡ 0
  pub few : count (volume st.grid) ≤ 4096
  pub loaded : st.filled + st.left * st.grid.x.n ≡ count (volume st.grid)
  pub early : st.lines ≤ st.filled + 1

-- a line is taken in only where one of the loader's is due
pub record Further (st next : Load) : Type 0 where
  pub sound : Sound next
  pub limits : next.limits ≡ st.limits
  pub lines : next.lines ≡ st.lines + 1
  pub loading : due_at st.lines st.left ≡ 2 → ⊥

abbrev pub Kept : Load → Result (Option Load) Bad → Type 0
Kept st (Ok (Some next)) = Further st next
Kept st (Ok None) = due_at st.lines st.left ≡ 2
Kept st (Err bad) = Unit {0}
