-- What the one call of the walk answers, and leaves in the lists. Definitions only. Assumes nothing.
use Rattle.std.specs.Prelude.{◌≡◌, ℕ, cond, List, ◌++◌, map, length, drop, nat_le}
use Rattle.ray.specs.declared.Ray.{Ray}
use Rattle.ray.specs.Length.{Volume, d_of, squared_of, span_of, part_of, list_of, sum_of, crossed_of}
use Rattle.walk.specs.declared.call.Walked.{Walked}
use Rattle.walk.specs.declared.entries.Tally.{Tally}
use Rattle.walk.specs.Model.{Entry, voxels, parts, tally_of}

-- the first of two where a list goes into so many places, else the second
abbrev pub if_room : {A B : Type 0} → List A → ℕ → B → B → B
if_room new room there short = cond (nat_le (length new) room) there short

-- planes and sum are told only where there is room for the list
abbrev pub walked_of : Volume → Ray → List ℕ → ℕ → Walked
walked_of v r densities room = record {
  entries = length (list_of v r);
  crossed = if_room (list_of v r) room (crossed_of v r) 0;
  span = span_of v r;
  denominator = d_of r;
  squared = squared_of r;
  sum = if_room (list_of v r) room (sum_of v r densities) 0;
}

-- new values in front of a list, where so many places are enough for them, and else the list as it was
abbrev pub fitted : ℕ → List ℕ → List ℕ → List ℕ
fitted room new old = if_room new room (new ++ drop (length new) old) old

-- a ray's list and its parts, fitted into two lists
pub record Fitted (v : Volume) (r : Ray) (room : ℕ) (vs ps vs₀ ps₀ : List ℕ) : Type 0 where
  pub voxels_now : vs ≡ fitted room (list_of v r) vs₀
  pub parts_now : ps ≡ fitted room (map (part_of v r) (list_of v r)) ps₀

-- the same of the entries of a walk, and what is told of them
pub record Entered (densities : List ℕ) (es : List Entry) (room : ℕ) (t : Tally) (vs ps vs₀ ps₀ : List ℕ) : Type 0 where
  pub tally_is : t ≡ if_room es room (tally_of densities es) (record { entries = length es; crossed = 0; sum = 0 })
  pub voxels_now : vs ≡ fitted room (voxels es) vs₀
  pub parts_now : ps ≡ fitted room (parts es) ps₀
