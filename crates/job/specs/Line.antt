-- RULES 10.3 and 10.4: what a line is answered, and where the job then stands. Definitions only. Assumes nothing.
use Rattle.std.specs.Prelude.{ℕ, ◌+◌, List, [], ℤ, pos, drop, get_or, Option, None, Some, option_map}
use Rattle.ray.specs.Axes.{End}
use Rattle.ray.specs.declared.Ray.{Ray}
use Rattle.text.specs.Split.{split}
use Rattle.text.specs.Number.{integer_of}
use Rattle.text.specs.Numbers.{every}
use Rattle.load.specs.Line.{bad_line, Reading, takes, refuses, leaves, line_read}
use Rattle.job.specs.Stand.{Stand}
use Rattle.job.specs.Rays.{RAY, ray_text}

-- what is printed, and where the job then stands; or what is printed, and the job is over
pub data Step : Type 0 where
  goes : List ℕ → Stand → Step
  stops : List ℕ → Step

-- the line behind those loaded and the RAY lines answered is refused
abbrev pub refusal : Stand → ℕ → List ℕ
refusal s code = bad_line (s.load.lines + s.rays) code

abbrev end : ℤ → ℤ → ℤ → End
end x y z = record { x = x; y = y; z = z }

-- P, then Q
abbrev pub ray_of : List ℤ → Ray
ray_of ends = let c : ℕ → ℤ = λ i. get_or ends i (pos 0) in record { p = end (c 0) (c 1) (c 2); q = end (c 3) (c 4) (c 5) }

-- RULES 10.1 and 10.2: the six fields behind the word, where each is a number
abbrev pub ray_in : List (List ℕ) → Option Ray
ray_in fields = option_map ray_of (every integer_of 6 (drop 1 fields))

abbrev pub ray_step : Stand → Option Ray → Step
ray_step s None = stops (refusal s 24)
ray_step s (Some r) = goes (ray_text s.load.limits s.load.grid s.load.densities r) (record { load = s.load; rays = s.rays + 1 })

-- what a line comes to that the loader takes in, refuses, or leaves to the job
abbrev pub step_of : Stand → List ℕ → Reading → Step
step_of s l (takes load) = goes [] (record { load = load; rays = s.rays })
step_of s l (refuses code) = stops (refusal s code)
step_of s l (leaves load) = ray_step (record { load = load; rays = s.rays }) (ray_in (split 9 l))

-- RULES 10.4: a line that LF ends; a RAY line has its word and six coordinates
unfoldable pub line_step : Stand → List ℕ → Step
line_step s l = step_of s l (line_read RAY 7 s.load l)
