-- What the walk tells of a grid and a ray, and leaves in the two lists: with room, and without. Assumes nothing.
use Prim.Native.Nat.{ℕ, ◌≤◌, ◌<◌}
use mathlib.Core.Path.{◌≡◌, refl, ◌∙◌}
use mathlib.Core.List.{List, [], ◌∷◌, map}
use native.Mathlib.Omega.{arith}
use native.Mathlib.Nat.{zero-add}
use lib.ListN.{length, length-map}
use borrow.Author.Tests.{le-leb, lt-leb}
use Rattle.ray.specs.declared.Ray.{Ray}
use Rattle.ray.specs.Length.{Volume, part_of, list_of}
use Rattle.walk.specs.declared.call.Walked.{Walked}
use Rattle.walk.specs.Walked.{walked_of, fitted, Fitted}
use Rattle.tracing.specs.declared.Trace.{Trace}
use Rattle.tracing.specs.Answer.{accepted, written}

-- ---- one list
put : (room : ℕ) (new old : List ℕ) → length new ≤ room → fitted room new old ≡ written 0 new old
put room new old h = rw (le-leb (length new) room h, zero-add) refl

kept : (room : ℕ) (new old : List ℕ) → room < length new → fitted room new old ≡ old
kept room new old h = rw (lt-leb (length new) room h) refl

-- no place
nowhere : (new old : List ℕ) → fitted 0 new old ≡ old
nowhere [] old = refl
nowhere (x ∷ new) old = kept 0 (x ∷ new) old (omega arith)

-- ---- both
module _ {v : Volume} {r : Ray} {room : ℕ} {vs ps vs₀ ps₀ : List ℕ} (f : Fitted v r room vs ps vs₀ ps₀) where
  abbrev parts : List ℕ
  parts = map (part_of v r) (list_of v r)

  as_many : length parts ≡ length (list_of v r)
  as_many = length-map (list_of v r) (part_of v r)

  pub both_put : length (list_of v r) ≤ room → (vs ≡ written 0 (list_of v r) vs₀) × (ps ≡ written 0 parts ps₀)
  both_put h = (f.voxels_now ∙ put room (list_of v r) vs₀ h, f.parts_now ∙ put room parts ps₀ (omega (arith, as_many)))

  pub both_kept : room < length (list_of v r) → (vs ≡ vs₀) × (ps ≡ ps₀)
  both_kept h = (f.voxels_now ∙ kept room (list_of v r) vs₀ h, f.parts_now ∙ kept room parts ps₀ (omega (arith, as_many)))

  pub both_nowhere : room ≡ 0 → (vs ≡ vs₀) × (ps ≡ ps₀)
  both_nowhere e = (f.voxels_now ∙ rw e (nowhere (list_of v r) vs₀), f.parts_now ∙ rw e (nowhere parts ps₀))

-- with room all is told
pub all_told : (v : Volume) (r : Ray) (densities : List ℕ) (room : ℕ) (w : Walked) → w ≡ walked_of v r densities room → length (list_of v r) ≤ room
    → ◌≡◌ {A = Trace} (record { entries = w.entries; crossed = w.crossed; span = w.span; denominator = w.denominator; squared = w.squared; sum = w.sum; code = 0 })
    (accepted v r densities)
all_told v r densities room w e h = rw (e, le-leb (length (list_of v r)) room h) refl
