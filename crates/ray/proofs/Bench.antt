-- RULES 11: rays A to J follow from the definitions: one table, one statement. Assumes nothing.
use Prim.Native.Nat.{ℕ}
use mathlib.Core.Path.{◌≡◌, refl}
use mathlib.Core.List.{List, [], ◌∷◌, map}
use lib.IntN.{ℤ, pos, negsuc}
use Rattle.axis.specs.Codes.{tenths, first}
use Rattle.ray.specs.Axes.{Grid}
use Rattle.ray.specs.declared.Ray.{Ray}
use Rattle.ray.specs.Length.{volume, d_of, squared_of, part_of, misses, span_of, insert, list_to, list_of, total, sum_of, crosses, crossed_of}
use Rattle.ray.specs.Codes.{trace_rows}

-- GRID 3 2 1 10 10 10 0 0 0, densities 1 to 6
abbrev pub grid : Grid
grid = record {
  x = record { n = 3; d = 10; b = pos 0 };
  y = record { n = 2; d = 10; b = pos 0 };
  z = record { n = 1; d = 10; b = pos 0 };
}

abbrev pub densities : List ℕ
densities = 1 ∷ 2 ∷ 3 ∷ 4 ∷ 5 ∷ 6 ∷ []

-- a line of the table; the lists lent have 4 places
pub record Line : Type 0 where
  pub code : ℕ
  pub voxels : List ℕ
  pub parts : List ℕ
  pub crossed : ℕ
  pub d : ℕ
  pub sum : ℕ

unfoldable pub says : Ray → Line
says r = record {
  code = first (trace_rows tenths grid r (record { densities = 6; voxels = 4; parts = 4; filled = 0 }));
  voxels = list_of (volume grid) r;
  parts = map (part_of (volume grid) r) (list_of (volume grid) r);
  crossed = crossed_of (volume grid) r;
  d = d_of r;
  sum = sum_of (volume grid) r densities;
}

abbrev line : List ℕ → List ℕ → ℕ → ℕ → ℕ → Line
line vs ps c d s = record { code = 0; voxels = vs; parts = ps; crossed = c; d = d; sum = s }

abbrev pub ray : ℤ → ℤ → ℤ → ℤ → ℤ → ℤ → Ray
ray a b c d e f = record { p = record { x = a; y = b; z = c }; q = record { x = d; y = e; z = f } }

-- A to J
abbrev rays : List Ray
rays =
    ray (negsuc 9) (pos 5) (pos 5) (pos 40) (pos 5) (pos 5)
    ∷ ray (pos 40) (pos 5) (pos 5) (negsuc 9) (pos 5) (pos 5)
    ∷ ray (pos 0) (pos 0) (pos 5) (pos 30) (pos 20) (pos 5)
    ∷ ray (pos 0) (pos 0) (pos 5) (pos 20) (pos 20) (pos 5)
    ∷ ray (pos 10) (negsuc 9) (pos 5) (pos 10) (pos 30) (pos 5)
    ∷ ray (pos 30) (negsuc 9) (pos 5) (pos 30) (pos 30) (pos 5)
    ∷ ray (negsuc 9) (pos 10) (pos 5) (pos 10) (negsuc 9) (pos 5)
    ∷ ray (pos 12) (pos 3) (pos 5) (pos 17) (pos 3) (pos 5)
    ∷ ray (pos 5) (pos 5) (pos 5) (pos 10) (pos 5) (pos 5)
    ∷ ray (pos 10) (pos 5) (pos 5) (pos 5) (pos 5) (pos 5)
    ∷ []

pub table : map says rays
    ≡ line (0 ∷ 1 ∷ 2 ∷ []) (10 ∷ 10 ∷ 10 ∷ []) 2 50 60
    ∷ line (2 ∷ 1 ∷ 0 ∷ []) (10 ∷ 10 ∷ 10 ∷ []) 2 50 60
    ∷ line (0 ∷ 1 ∷ 4 ∷ 5 ∷ []) (200 ∷ 100 ∷ 100 ∷ 200 ∷ []) 3 600 2100
    ∷ line (0 ∷ 4 ∷ []) (200 ∷ 200 ∷ []) 2 400 1200
    ∷ line (1 ∷ 4 ∷ []) (10 ∷ 10 ∷ []) 1 40 70
    ∷ line (2 ∷ 5 ∷ []) (10 ∷ 10 ∷ []) 1 40 90
    ∷ line [] [] 0 400 0
    ∷ line (1 ∷ []) (5 ∷ []) 0 5 10
    ∷ line (0 ∷ []) (5 ∷ []) 0 5 5
    ∷ line (0 ∷ []) (5 ∷ []) 0 5 5
    ∷ []
unfolding says part_of misses insert list_to list_of total sum_of crosses crossed_of
table = refl

-- the job's ray C besides: span and squared length
pub job : (span_of (volume grid) (ray (pos 0) (pos 0) (pos 5) (pos 30) (pos 20) (pos 5)) ≡ 600)
    × (squared_of (ray (pos 0) (pos 0) (pos 5) (pos 30) (pos 20) (pos 5)) ≡ 1300)
unfolding misses span_of
job = (refl, refl)
