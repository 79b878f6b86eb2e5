-- Two answers allowed by the promise of a door are equal, and so are the lists it leaves. Assumes nothing.
use Prim.Native.Nat.{ℕ}
use mathlib.Core.Path.{◌≡◌}
use mathlib.Core.List.{List}
use lib.Ieee.{Float}
use Rattle.axis.specs.declared.Limits.{Limits}
use Rattle.axis.proofs.Once.{once}
use Rattle.ray.specs.Axes.{Grid}
use Rattle.ray.specs.declared.Ray.{Ray}
use Rattle.tracing.specs.Answer.{Lists}
use Rattle.outside.specs.Doors.{Appended, Pointed}

module _ (m : Limits) (g : Grid) (r : Ray) where
  pub append_once : (l : Lists) (answer : List ℕ) (c e : ℕ) (vs vs' ps ps' ans ans' : List ℕ)
      → Appended m g r l answer c vs ps ans → Appended m g r l answer e vs' ps' ans' → (c ≡ e) × (vs ≡ vs') × (ps ≡ ps') × (ans ≡ ans')
  append_once l answer c e vs vs' ps ps' ans ans' x y =
      (once x.code_is y.code_is, once x.voxels_now y.voxels_now, once x.parts_now y.parts_now, once x.answer_now y.answer_now)

  pub points_once : (mark : List ℕ) (floats : List Float) (c e : ℕ) (ms ms' : List ℕ) (fs fs' : List Float)
      → Pointed m g r mark floats c ms fs → Pointed m g r mark floats e ms' fs' → (c ≡ e) × (ms ≡ ms') × (fs ≡ fs')
  points_once mark floats c e ms ms' fs fs' x y = (once x.code_is y.code_is, once x.mark_now y.mark_now, once x.floats_now y.floats_now)
