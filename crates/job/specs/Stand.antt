-- RULES 10.3: where the job stands between two lines. Definitions only. Assumes nothing.
use Rattle.std.specs.Prelude.{ℕ, List}
use Rattle.axis.specs.declared.Limits.{Limits}
use Rattle.load.specs.Loaded.{Loaded, nothing, loaded_of}
use Rattle.job.specs.declared.state.State.{State}

-- what is loaded, and the RAY lines answered
pub record Stand : Type 0 where
  pub load : Loaded
  pub rays : ℕ

abbrev pub at_first : Limits → Stand
at_first m = record { load = nothing m; rays = 0 }

-- what a state says, where the densities read are the first of a list
abbrev pub stand_of : State → List ℕ → Stand
stand_of st densities = record { load = loaded_of st.load densities; rays = st.rays }
