-- RULES 11: the place call on (-10,5,5) to (30,5,5), from the definitions. Assumes nothing.
use mathlib.Core.Path.{◌≡◌, refl}
use mathlib.Core.Bool.{false}
use lib.IntN.{pos, negsuc}
use lib.Count.{count_trailing_zeros}
use lib.Ieee.{fin, odd, units, size, span, climb, round}
use Rattle.axis.specs.Codes.{tenths}
use Rattle.ray.specs.Length.{misses}
use Rattle.ray.proofs.Bench.{grid, ray}
use Rattle.place.specs.declared.Place.TheVariants.{Hit}
use Rattle.place.specs.Answers.{place_of}

-- 1 · 2 ^ -2 and 1 · 2 ^ 0
pub quarter_and_one : place_of tenths grid (ray (negsuc 9) (pos 5) (pos 5) (pos 30) (pos 5) (pos 5)) ≡ Hit (fin false 1 (negsuc 1)) (fin false 1 (pos 0))
unfolding place_of misses round units odd size span climb count_trailing_zeros
quarter_and_one = refl
