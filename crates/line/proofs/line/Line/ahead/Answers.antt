-- The plane by equation (6), in both its forms at once. Assumes nothing.
use Rattle.std.proofs.Common.{◌^◌, ◌≤◌, sym, ap, ◌∙◌, arith}
use native.Mathlib.Nat.{le_of_eq, le_trans}
use Rattle.line.specs.declared.line.Line.{Line}
use Rattle.line.specs.Scene.{Sized, Window}
use Rattle.line.specs.Quotient.{quotient_of}
use Rattle.line.proofs.Sizes.{leave_ticks}
use Rattle.line.proofs.Ahead.{ahead_low, ahead_down, moving_ahead}
use Rattle.line.proofs.line.Line.ahead.Goals as goal

ticks : (a : Line) {c t : Prim.Native.Nat.ℕ} → Sized a → c ≤ 2 ^ 40 → Window a c t → t ≤ 2 ^ 60
ticks a sized few w = omega (arith, w.until, leave_ticks a sized {i = 0} {j = a.n} (omega arith) (omega arith) few)

pub overflow_add-t : goal.overflow_add-t
overflow_add-t c = record { fits = omega (arith, ticks c.args.self c.requires.0 c.requires.1 c.requires.2, c.back-back.ensures.upper_bound) }

pub spot-x-requires-clause-sized : goal.spot-x-requires-clause-sized
spot-x-requires-clause-sized c =
    (c.requires.0, omega (arith, c.requires.1), omega (arith, ticks c.args.self c.requires.0 c.requires.1 c.requires.2, c.back-back.ensures.upper_bound))

pub spot-x-requires-clause-t_bound : goal.spot-x-requires-clause-t_bound
spot-x-requires-clause-t_bound c = ahead_down c.args.self c.args.c c.args.t c.requires.2 c.requires.0 c.back-back.result c.back-back.ensures.value

pub quotient-requires : goal.quotient-requires
quotient-requires c =
    let low = ahead_low c.args.self c.args.c c.args.t c.requires.2 c.requires.0 c.back-back.result c.back-back.ensures.value in
    (c.requires.0, c.requires.2.some, omega (arith, c.requires.1), le_trans low (le_of_eq (sym c.spot-x.ensures.value)))

pub returns : goal.returns
returns c =
    moving_ahead c.args.self c.args.c c.args.t c.requires.2 c.requires.0 c.back-back.result c.back-back.ensures.value c.if-self.false
    c.quotient.result (c.quotient.ensures ∙ ap (quotient_of c.args.self c.args.c) c.spot-x.ensures.value)
