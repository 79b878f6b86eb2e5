-- RULES 10, the text job: bytes in, bytes out. Definitions only. Assumes nothing.
use Rattle.std.specs.Prelude.{ℕ, cond, List, [], ◌∷◌, ◌++◌, eqb}
use Rattle.axis.specs.declared.Limits.{Limits}
use Rattle.text.specs.Split.{split}
use Rattle.text.specs.Line.{line_of}
use Rattle.load.specs.Loaded.{due_at}
use Rattle.job.specs.Stand.{Stand, at_first}
use Rattle.job.specs.Line.{Step, goes, stops, refusal, line_step}

abbrev pub END : List ℕ
END = 69 ∷ 78 ∷ 68 ∷ []

-- RULES 10.4 and 10.5, at the input's end: 20 where bytes stand behind the last LF; 22 where DENS lines are still due, at the
-- line that would have been next; else END with the number of RAY lines
abbrev pub at_end : Stand → List ℕ → List ℕ
at_end s (b ∷ bs) = refusal s 20
at_end s [] = cond (eqb (due_at s.load.lines s.load.left) 2) (line_of END (s.rays ∷ [])) (refusal s 22)

-- what a line prints, and then what comes behind it, unless the job stops
abbrev pub and_then : Step → (Stand → List ℕ) → List ℕ
and_then (goes o s) rest = o ++ rest s
and_then (stops o) rest = o

-- the lines that LF ends, and what stands behind the last LF
unfoldable pub lines_from : Stand → List (List ℕ) → List ℕ
lines_from s [] = []
lines_from s (l ∷ []) = at_end s l
lines_from s (l ∷ m ∷ ms) = and_then (line_step s l) (λ s'. lines_from s' (m ∷ ms))

-- RULES 10.1: what the job prints from where it stands, its lines parted by LF; and the whole job, at the limits of a device
unfoldable pub job_from : Stand → List ℕ → List ℕ
job_from s bytes = lines_from s (split 10 bytes)

unfoldable pub job_of : Limits → List ℕ → List ℕ
job_of m bytes = job_from (at_first m) bytes
