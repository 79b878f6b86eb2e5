-- Two answers allowed by the promise of a public call of this crate are equal, and so are the lists it leaves. Assumes nothing.
use Prim.Native.Nat.{ℕ}
use mathlib.Core.Path.{◌≡◌}
use mathlib.Core.Bool.{Bool}
use mathlib.Core.List.{List}
use Rattle.axis.specs.declared.Limits.{Limits}
use Rattle.axis.proofs.Once.{once}
use Rattle.ray.specs.Axes.{Grid}
use Rattle.ray.specs.declared.Ray.{Ray}
use Rattle.tracing.specs.declared.Trace.{Trace}
use Rattle.tracing.specs.Answer.{Lists, Answers}
use Rattle.tracing.specs.Inside.{AnswersWhen}

-- `append`, and with `filled` 0 `trace`: the promises of both are `Answers`
pub append_once : (m : Limits) (g : Grid) (r : Ray) (l : Lists) (a a' : Trace) (vs vs' ps ps' : List ℕ)
    → Answers m g r l a vs ps → Answers m g r l a' vs' ps' → (a ≡ a') × ((vs ≡ vs') × (ps ≡ ps'))
append_once m g r l a a' vs vs' ps ps' x y = (once x.answer y.answer, (once x.voxels_now y.voxels_now, once x.parts_now y.parts_now))

-- and `trace_when`
pub when_once : (ready : Bool) (m : Limits) (g : Grid) (r : Ray) (l : Lists) (a a' : Trace) (vs vs' ps ps' : List ℕ)
    → AnswersWhen ready m g r l a vs ps → AnswersWhen ready m g r l a' vs' ps' → (a ≡ a') × ((vs ≡ vs') × (ps ≡ ps'))
when_once ready m g r l a a' vs vs' ps ps' x y = (once x.answer y.answer, (once x.voxels_now y.voxels_now, once x.parts_now y.parts_now))
