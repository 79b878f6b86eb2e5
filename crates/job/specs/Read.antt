-- The answers of the whole job. Definitions only. Assumes nothing.
use Rattle.std.specs.Prelude.{ℕ, ◌≤◌, cond, List, ◌≡◌, leb, length, take, Option, None, Some}

-- how long a text is, where there is room for `room` bytes and it fits
abbrev pub written : List ℕ → ℕ → Option ℕ
written text room = cond (leb (length text) room) (Some (length text)) None

-- what is answered where a text is to be written into a list of so many bytes, and what stands in it then
pub record Wrote (text : List ℕ) (room : ℕ) (out : List ℕ) (r : Option ℕ) : Type 0 where
  pub told : r ≡ written text room
  pub stands : length text ≤ room → take (length text) out ≡ text
