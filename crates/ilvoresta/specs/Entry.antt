-- RULES 9, the C entry points. Definitions only. Assumes nothing.
use Rattle.std.specs.Prelude.{ℕ, ◌≡◌, not, cond, List, [], ◌∷◌, ◌++◌, map, ℤ, eqb, Float, length}
use Rattle.axis.specs.declared.Limits.{Limits}
use Rattle.axis.specs.Codes.{Row, row, first}
use Rattle.ray.specs.Axes.{Grid}
use Rattle.ray.specs.declared.Ray.{Ray}
use Rattle.ray.specs.declared.Lent.{Lent}
use Rattle.ray.specs.Length.{volume, part_of, list_of}
use Rattle.ray.specs.Codes.{grid_rows, end_rows, trace_rows}
use Rattle.tracing.specs.declared.Trace.{Trace}
use Rattle.tracing.specs.Answer.{Lists, lent, accepted, written}
use Rattle.place.specs.Answers.{place_of, told}

-- RULES 9: a grid and a ray from numbers passed by value
abbrev pub grid_of : (nx ny nz dx dy dz : ℕ) (bx by bz : ℤ) → Grid
grid_of nx ny nz dx dy dz bx by bz = record {
  x = record { n = nx; d = dx; b = bx };
  y = record { n = ny; d = dy; b = by };
  z = record { n = nz; d = dz; b = bz };
}

abbrev pub ray_of : (px py pz qx qy qz : ℤ) → Ray
ray_of px py pz qx qy qz = record { p = record { x = px; y = py; z = pz }; q = record { x = qx; y = qy; z = qz } }

-- RULES 6, code 17: the answer list has not the length that its call names
abbrev pub length_row : (stated answer : ℕ) → List Row
length_row stated answer = row 17 (not (eqb answer stated)) ∷ []

-- RULES 9: 17 comes behind all others
abbrev pub trace_code : Limits → Grid → Ray → Lent → (answer : ℕ) → ℕ
trace_code m g r l answer = first (trace_rows m g r l ++ length_row 6 answer)

abbrev pub place_code : Limits → Grid → Ray → (answer : ℕ) → ℕ
place_code m g r answer = first (grid_rows m g ++ end_rows m r ++ length_row 2 answer)

-- a lent list afterwards: the new one where the code is 0, else as it was
abbrev pub after : {A : Type 0} → (code : ℕ) → (new old : List A) → List A
after code new old = cond (eqb code 0) new old

-- RULES 9: the numbers of RULES 5 from entries on
abbrev pub six_of : Trace → List ℕ
six_of t = t.entries ∷ t.crossed ∷ t.span ∷ t.denominator ∷ t.squared ∷ t.sum ∷ []

-- RULES 9: what an entry point returns and leaves in the lists lent, from what they held. It fills the answer list where the code
-- is 0, and touches none where it is not.
pub record Traced (m : Limits) (g : Grid) (r : Ray) (l : Lists) (answer : List ℕ) (code : ℕ) (voxels parts answer' : List ℕ) : Type 0 where
  pub code_is : code ≡ trace_code m g r (lent l) (length answer)
  pub voxels_now : voxels ≡ after code (written l.filled (list_of (volume g) r) l.voxels) l.voxels
  pub parts_now : parts ≡ after code (written l.filled (map (part_of (volume g) r) (list_of (volume g) r)) l.parts) l.parts
  pub answer_now : answer' ≡ after code (six_of (accepted (volume g) r l.densities)) answer

-- RULES 9, the two floats as the place call tells them in numbers: zeros on a miss
pub record Placed (m : Limits) (g : Grid) (r : Ray) (answer : List Float) (code : ℕ) (answer' : List Float) : Type 0 where
  pub code_is : code ≡ place_code m g r (length answer)
  pub answer_now : answer' ≡ after code ((told (place_of m g r)).enter ∷ (told (place_of m g r)).leave ∷ []) answer
