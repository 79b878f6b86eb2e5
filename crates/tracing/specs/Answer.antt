-- RULES 5 and 7: what a trace hands back, and leaves in the lists. Definitions only. Assumes nothing.
use Rattle.std.specs.Prelude.{ℕ, ◌+◌, ◌≡◌, cond, List, ◌++◌, map, eqb, length, take, drop}
use Rattle.axis.specs.declared.Limits.{Limits}
use Rattle.axis.specs.Codes.{first}
use Rattle.ray.specs.Axes.{Grid}
use Rattle.ray.specs.declared.Ray.{Ray}
use Rattle.ray.specs.declared.Lent.{Lent}
use Rattle.ray.specs.Length.{Volume, volume, d_of, squared_of, span_of, part_of, list_of, sum_of, crossed_of}
use Rattle.ray.specs.Codes.{trace_rows}
use Rattle.tracing.specs.declared.Trace.{Trace}

-- the lists that a call is lent, the first `filled` places of the last two being taken
pub record Lists : Type 0 where
  pub densities : List ℕ
  pub voxels : List ℕ
  pub parts : List ℕ
  pub filled : ℕ

abbrev pub lists : (densities voxels parts : List ℕ) → (filled : ℕ) → Lists
lists densities voxels parts filled = record { densities = densities; voxels = voxels; parts = parts; filled = filled }

abbrev pub lent : Lists → Lent
lent l = record { densities = length l.densities; voxels = length l.voxels; parts = length l.parts; filled = l.filled }

-- RULES 6: the code, from the lengths alone
abbrev pub code_of : Limits → Grid → Ray → Lent → ℕ
code_of m g r l = first (trace_rows m g r l)

-- RULES 5: a refusal is its code and zeros
abbrev pub refused : ℕ → Trace
refused c = record { entries = 0; crossed = 0; span = 0; denominator = 0; squared = 0; sum = 0; code = c }

abbrev pub accepted : Volume → Ray → List ℕ → Trace
accepted v r densities = record {
  entries = length (list_of v r);
  crossed = crossed_of v r;
  span = span_of v r;
  denominator = d_of r;
  squared = squared_of r;
  sum = sum_of v r densities;
  code = 0;
}

unfoldable pub answer_of : Limits → Grid → Ray → Lists → Trace
answer_of m g r l = let c : ℕ = code_of m g r (lent l) in cond (eqb c 0) (accepted (volume g) r l.densities) (refused c)

-- RULES 7: a list with new values behind its first `filled` places, and behind those as it was
abbrev pub written : ℕ → List ℕ → List ℕ → List ℕ
written filled new old = take filled old ++ (new ++ drop (filled + length new) old)

-- RULES 5 and 7: the two lists afterwards: the answer behind the places filled, or, on a refusal, as they were
unfoldable pub voxels_after : Limits → Grid → Ray → Lists → List ℕ
voxels_after m g r l = cond (eqb (code_of m g r (lent l)) 0) (written l.filled (list_of (volume g) r) l.voxels) l.voxels

unfoldable pub parts_after : Limits → Grid → Ray → Lists → List ℕ
parts_after m g r l = cond (eqb (code_of m g r (lent l)) 0) (written l.filled (map (part_of (volume g) r) (list_of (volume g) r)) l.parts) l.parts

-- what a call answers, and leaves in the lists
pub record Answers (m : Limits) (g : Grid) (r : Ray) (l : Lists) (a : Trace) (voxels parts : List ℕ) : Type 0 where
  pub answer : a ≡ answer_of m g r l
  pub voxels_now : voxels ≡ voxels_after m g r l
  pub parts_now : parts ≡ parts_after m g r l
