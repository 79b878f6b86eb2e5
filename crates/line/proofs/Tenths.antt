-- The limits of the device whose unit is a tenth of a millimetre are small enough. Assumes nothing.
use native.Mathlib.Omega.{arith}
use Rattle.axis.specs.Codes.{tenths}
use Rattle.line.specs.Raised.{Small}

pub tenths_small : Small tenths
tenths_small = record { coord_some = omega arith; coord_size = omega arith; d_size = omega arith; n_size = omega arith }
