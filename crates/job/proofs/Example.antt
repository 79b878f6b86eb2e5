-- RULES 10.6: the example follows from the definitions. Assumes nothing.
use mathlib.Core.List.{[], ◌∷◌, ◌++◌}
use mathlib.Core.Path.{◌≡◌, refl}
use Rattle.axis.specs.Codes.{tenths}
use Rattle.ray.specs.Length.{part_of, misses, span_of, insert, list_to, list_of, total, sum_of, crosses, crossed_of}
use Rattle.text.specs.Split.{split}
use Rattle.text.specs.Decimal.{digits_of, decimal}
use Rattle.text.specs.Number.{digits, natural_of, has_minus, integer_of}
use Rattle.text.specs.Numbers.{every}
use Rattle.text.specs.Line.{spaced, line_of}
use Rattle.job.specs.Rays.{traced, passed, cells, ray_text}
use Rattle.load.specs.Line.{numbers_read, line_read}
use Rattle.job.specs.Line.{line_step}
use Rattle.job.specs.Job.{lines_from, job_from, job_of}

-- a line of the input or of the output on each line here
pub example : job_of tenths (
    (71 ∷ 82 ∷ 73 ∷ 68 ∷ 9 ∷ 51 ∷ 9 ∷ 50 ∷ 9 ∷ 49 ∷ 9 ∷ 49 ∷ 48 ∷ 9 ∷ 49 ∷ 48 ∷ 9 ∷ 49 ∷ 48 ∷ 9 ∷ 48 ∷ 9 ∷ 48 ∷ 9 ∷ 48 ∷ 10 ∷ [])
    ++ (68 ∷ 69 ∷ 78 ∷ 83 ∷ 9 ∷ 49 ∷ 9 ∷ 50 ∷ 9 ∷ 51 ∷ 10 ∷ [])
    ++ (68 ∷ 69 ∷ 78 ∷ 83 ∷ 9 ∷ 52 ∷ 9 ∷ 53 ∷ 9 ∷ 54 ∷ 10 ∷ [])
    ++ (82 ∷ 65 ∷ 89 ∷ 9 ∷ 48 ∷ 9 ∷ 48 ∷ 9 ∷ 53 ∷ 9 ∷ 51 ∷ 48 ∷ 9 ∷ 50 ∷ 48 ∷ 9 ∷ 53 ∷ 10 ∷ []))
    ≡
    (82 ∷ 65 ∷ 89 ∷ 32 ∷ 48 ∷ 32 ∷ 52 ∷ 32 ∷ 51 ∷ 32 ∷ 54 ∷ 48 ∷ 48 ∷ 32 ∷ 54 ∷ 48 ∷ 48 ∷ 32 ∷ 49 ∷ 51 ∷ 48 ∷ 48 ∷ 32 ∷ 50 ∷ 49 ∷ 48 ∷ 48 ∷ 10 ∷ [])
    ++ (67 ∷ 69 ∷ 76 ∷ 76 ∷ 32 ∷ 48 ∷ 32 ∷ 48 ∷ 32 ∷ 48 ∷ 32 ∷ 50 ∷ 48 ∷ 48 ∷ 10 ∷ [])
    ++ (67 ∷ 69 ∷ 76 ∷ 76 ∷ 32 ∷ 49 ∷ 32 ∷ 48 ∷ 32 ∷ 48 ∷ 32 ∷ 49 ∷ 48 ∷ 48 ∷ 10 ∷ [])
    ++ (67 ∷ 69 ∷ 76 ∷ 76 ∷ 32 ∷ 49 ∷ 32 ∷ 49 ∷ 32 ∷ 48 ∷ 32 ∷ 49 ∷ 48 ∷ 48 ∷ 10 ∷ [])
    ++ (67 ∷ 69 ∷ 76 ∷ 76 ∷ 32 ∷ 50 ∷ 32 ∷ 49 ∷ 32 ∷ 48 ∷ 32 ∷ 50 ∷ 48 ∷ 48 ∷ 10 ∷ [])
    ++ (69 ∷ 78 ∷ 68 ∷ 32 ∷ 49 ∷ 10 ∷ [])
unfolding part_of misses span_of insert list_to list_of total sum_of crosses crossed_of split digits_of decimal digits natural_of has_minus integer_of every spaced line_of traced passed cells ray_text numbers_read line_read line_step lines_from job_from job_of
example = refl

-- an empty input ends before the last DENS: BAD 1 22
pub empty : job_of tenths [] ≡ 66 ∷ 65 ∷ 68 ∷ 32 ∷ 49 ∷ 32 ∷ 50 ∷ 50 ∷ 10 ∷ []
unfolding split digits_of decimal spaced line_of lines_from job_from job_of
empty = refl
