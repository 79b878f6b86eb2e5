-- What tracing's inner functions say to each other. A reader of the promises needs none of it. Definitions only. Assumes nothing.
use Rattle.std.specs.Prelude.{ℕ, ◌+◌, ◌^◌, ◌≤◌, ◌≡◌, Bool, cond, List, Result, Ok, Err}
use Rattle.axis.specs.declared.Limits.{Limits}
use Rattle.axis.specs.declared.refusal.Refusal.{Refusal}
use Rattle.axis.specs.Refusal.{number}
use Rattle.axis.specs.Codes.{first}
use Rattle.ray.specs.Axes.{Grid}
use Rattle.ray.specs.declared.Ray.{Ray}
use Rattle.ray.specs.declared.Lent.{Lent}
use Rattle.ray.specs.Length.{volume, count}
use Rattle.ray.specs.Codes.{grid_rows, end_rows}
use Rattle.line.specs.Raised.{Small, cube}
use Rattle.tracing.specs.declared.Trace.{Trace}
use Rattle.tracing.specs.Answer.{Lists, lent, code_of, refused, answer_of, voxels_after, parts_after}

-- limits at which a ray can be traced and summed up: the walk's, and that D is at most what RULES 3 says, which is enough for the sum
pub record Suited (m : Limits) : Type 0 where
  pub small : Small m
  pub d_size : cube (m.coord + m.coord) ≤ 2 ^ 45

-- what no code from 1 to 7 means
pub record Accepted (m : Limits) (g : Grid) (r : Ray) (l : Lent) : Type 0 where
  pub grid : first (grid_rows m g) ≡ 0
  pub ends : first (end_rows m r) ≡ 0
  pub densities_are : l.densities ≡ count (volume g)
  pub lists_are : l.voxels ≡ l.parts

-- a refusal told as a trace
abbrev pub trace_of : Result Trace Refusal → Trace
trace_of (Ok t) = t
trace_of (Err r) = refused (number r)

-- an answer where the call may write, and else the code alone and both lists as they were
pub record AnswersWhen (ready : Bool) (m : Limits) (g : Grid) (r : Ray) (l : Lists) (a : Trace) (voxels parts : List ℕ) : Type 0 where
  pub answer : a ≡ cond ready (answer_of m g r l) (refused (code_of m g r (lent l)))
  pub voxels_now : voxels ≡ cond ready (voxels_after m g r l) l.voxels
  pub parts_now : parts ≡ cond ready (parts_after m g r l) l.parts
