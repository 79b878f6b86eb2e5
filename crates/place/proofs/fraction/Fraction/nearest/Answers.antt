-- One division of two numbers that a float holds gives the float nearest to the fraction. Assumes nothing.
use Rattle.std.proofs.Common.{pos, arith}
use Rattle.place.proofs.Quotient.{quotient_is}
use Rattle.place.proofs.fraction.Fraction.nearest.Goals as goal

pub returns : goal.returns
returns c =
    let f = c.self.inside in
    let short = c.self.invariant in
    rw (← c.self.view_is) (quotient_is (pos f.num) f.den (omega (arith, short.num_size)) (omega (arith, short.den_size)) short.some)
