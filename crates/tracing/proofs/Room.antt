-- How many places a call needs: one more than the planes crossed, and nx + ny + nz - 2, are always enough. Assumes nothing.
use Prim.Native.Nat.{ℕ, ◌+◌, ◌≤◌}
use mathlib.Core.Path.{◌≡◌}
use mathlib.Core.List.{List}
use native.Mathlib.Omega.{arith}
use lib.ListN.{length}
use Rattle.axis.specs.declared.Limits.{Limits}
use Rattle.ray.specs.Axes.{Grid}
use Rattle.ray.specs.declared.Ray.{Ray}
use Rattle.line.specs.Raised.{Small}
use Rattle.tracing.specs.declared.Trace.{Trace}
use Rattle.tracing.specs.Answer.{Lists, lent, Answers}
use Rattle.tracing.specs.Inside.{Accepted}
use Rattle.tracing.proofs.Counted.{entries_crossed, entries_few}
use Rattle.tracing.proofs.OneCall.{free, accepts_free, entries_are, crossed_is}

module _ {m : Limits} {g : Grid} {r : Ray} {l : Lists} {a : Trace} {vs' ps' : List ℕ} (small : Small m) (t : Answers m g r l a vs' ps') where
  module _ (h : a.code ≡ 0) where
    pub within_crossed : a.entries ≤ a.crossed + 1
    within_crossed = let ok = (free t h).accepted in omega (arith, entries_crossed m small g r ok.grid ok.ends, entries_are t h, crossed_is t h)

    pub within_sizes : a.entries + 2 ≤ g.x.n + g.y.n + g.z.n
    within_sizes = let ok = (free t h).accepted in omega (arith, entries_few m small g r ok.grid ok.ends, entries_are t h)

  -- So with that much room left, whatever no code from 1 to 7 refuses is accepted.
  pub enough : Accepted m g r (lent l) → l.filled + (g.x.n + g.y.n + g.z.n) ≤ length l.voxels + 2 → a.code ≡ 0
  enough ok room = accepts_free t (record { accepted = ok; room = omega (arith, entries_few m small g r ok.grid ok.ends) })
