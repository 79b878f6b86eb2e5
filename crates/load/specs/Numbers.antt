-- RULES 10.1: the numbers of a GRID and of a DENS line. Definitions only. Assumes nothing.
use Rattle.std.specs.Prelude.{ℕ, List, ℤ, pos, drop, get_or, Option, None, Some, option_map}
use Rattle.axis.specs.declared.Axis.{Axis}
use Rattle.ray.specs.Axes.{Grid}
use Rattle.text.specs.Number.{natural_of, integer_of}
use Rattle.text.specs.Numbers.{natural_to, every}

abbrev axis : ℕ → ℕ → ℤ → Axis
axis n d b = record { n = n; d = d; b = b }

-- three n, three d, three b
abbrev pub grid_of : List ℕ → List ℤ → Grid
grid_of sizes firsts =
    let s : ℕ → ℕ = λ i. get_or sizes i 0 in
    let b : ℕ → ℤ = λ i. get_or firsts i (pos 0) in
    record { x = axis (s 0) (s 3) (b 0); y = axis (s 1) (s 4) (b 1); z = axis (s 2) (s 5) (b 2) }

abbrev pub both : {A B C : Type 0} → (A → B → C) → Option A → Option B → Option C
both f None b = None
both f (Some a) b = option_map (f a) b

-- RULES 10.2: the fields behind the word, where each is a number; n and d are read without a minus
abbrev pub grid_in : List (List ℕ) → Option Grid
grid_in fields = both grid_of (every natural_of 6 (drop 1 fields)) (every integer_of 3 (drop 7 fields))

-- a density fits 16 bits
abbrev pub dens_in : (nx : ℕ) → List (List ℕ) → Option (List ℕ)
dens_in nx fields = every (natural_to 65535) nx (drop 1 fields)
