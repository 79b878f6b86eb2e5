-- What the comparisons' doors hand over: the whole answers of `append` (RULES 7) and of `points` (RULES 8), as numbers in
-- lists. They are no entry points of RULES 9: a refusal hands its zeros over too. Definitions only. Assumes nothing.
use Rattle.std.specs.Prelude.{ℕ, ◌≡◌, cond, List, [], ◌∷◌, eqb, Float, length}
use Rattle.axis.specs.declared.Limits.{Limits}
use Rattle.ray.specs.Axes.{Grid}
use Rattle.ray.specs.declared.Ray.{Ray}
use Rattle.tracing.specs.Answer.{Lists, answer_of, voxels_after, parts_after}
use Rattle.place.specs.declared.Mark.{Mark}
use Rattle.place.specs.declared.Mark.TheVariants.{Refused, Miss, Hit}
use Rattle.place.specs.declared.Points.{Points}
use Rattle.place.specs.Answers.{mark_code, points_of}
use Rattle.ilvoresta.specs.Entry.{six_of}

-- a lent list afterwards: the answer, or, where its length is another, what it held
abbrev pub put : {A : Type 0} → (new old : List A) → List A
put new old = cond (eqb (length old) (length new)) new old

-- a mark by a number of its own, apart from its code (RULES 8: a refusal, a miss, a hit)
abbrev pub mark_of : Mark → ℕ
mark_of (Refused c) = 0
mark_of Miss = 1
mark_of Hit = 2

-- the entering point, then the leaving point
abbrev pub floats_of : Points → List Float
floats_of a = a.enter.x ∷ a.enter.y ∷ a.enter.z ∷ a.leave.x ∷ a.leave.y ∷ a.leave.z ∷ []

-- what a door returns and leaves in the lists lent, from what they held
pub record Appended (m : Limits) (g : Grid) (r : Ray) (l : Lists) (answer : List ℕ) (code : ℕ) (voxels parts answer' : List ℕ) : Type 0 where
  pub code_is : code ≡ (answer_of m g r l).code
  pub voxels_now : voxels ≡ voxels_after m g r l
  pub parts_now : parts ≡ parts_after m g r l
  pub answer_now : answer' ≡ put (six_of (answer_of m g r l)) answer

pub record Pointed (m : Limits) (g : Grid) (r : Ray) (mark : List ℕ) (floats : List Float) (code : ℕ) (mark' : List ℕ) (floats' : List Float) : Type 0 where
  pub code_is : code ≡ mark_code (points_of m g r).mark
  pub mark_now : mark' ≡ put (mark_of (points_of m g r).mark ∷ []) mark
  pub floats_now : floats' ≡ put (floats_of (points_of m g r)) floats
