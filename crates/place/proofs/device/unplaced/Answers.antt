-- The bits of 0.0 are those of positive zero. Assumes nothing.
use Rattle.std.proofs.Common.{refl}
use lib.Ieee.{odd, of_fields, of_bits}
use Rattle.place.proofs.device.unplaced.Goals as goal

pub returns : goal.returns
unfolding of_bits of_fields odd
returns c = refl
