-- Two answers allowed by the promise of an entry point are equal, and so are the lists it leaves: the same numbers and lists
-- given, `Traced` or `Placed` of both. Assumes nothing.
use Prim.Native.Nat.{ℕ}
use mathlib.Core.Path.{◌≡◌, ap, ◌∙◌}
use mathlib.Core.List.{List}
use lib.Ieee.{Float}
use Rattle.axis.specs.declared.Limits.{Limits}
use Rattle.axis.proofs.Once.{once}
use Rattle.ray.specs.Axes.{Grid}
use Rattle.ray.specs.declared.Ray.{Ray}
use Rattle.tracing.specs.Answer.{Lists}
use Rattle.ilvoresta.specs.Entry.{after, Traced, Placed}

-- a list by one code is the list by the other
same_after : {A : Type 0} (new old : List A) {c e : ℕ} {xs ys : List A} → c ≡ e → xs ≡ after c new old → ys ≡ after e new old → xs ≡ ys
same_after new old same x y = once (x ∙ ap (λ k. after k new old) same) y

module _ (m : Limits) (g : Grid) (r : Ray) where
  pub trace_once : (l : Lists) (answer : List ℕ) (c e : ℕ) (vs vs' ps ps' ans ans' : List ℕ)
      → Traced m g r l answer c vs ps ans → Traced m g r l answer e vs' ps' ans' → (c ≡ e) × (vs ≡ vs') × (ps ≡ ps') × (ans ≡ ans')
  trace_once l answer c e vs vs' ps ps' ans ans' x y =
      let same : c ≡ e = once x.code_is y.code_is in
      (same, same_after _ _ same x.voxels_now y.voxels_now, same_after _ _ same x.parts_now y.parts_now, same_after _ _ same x.answer_now y.answer_now)

  pub place_once : (answer : List Float) (c e : ℕ) (ans ans' : List Float) → Placed m g r answer c ans → Placed m g r answer e ans' → (c ≡ e) × (ans ≡ ans')
  place_once answer c e ans ans' x y = let same : c ≡ e = once x.code_is y.code_is in (same, same_after _ _ same x.answer_now y.answer_now)
