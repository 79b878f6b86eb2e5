-- The tick of the plane, which is below 2 ^ 60. Assumes nothing.
use Rattle.std.proofs.Common.{ℕ, ◌≡◌, ◌*◌, ◌^◌, ◌≤◌, ap, ◌∙◌, pos, arith}
use native.Mathlib.Nat.{le_of_eq, le_trans}
use Rattle.axis.specs.Leg.{run}
use Rattle.line.specs.declared.line.Line.{Line}
use Rattle.line.specs.Scene.{leg_n}
use Rattle.line.specs.Reach.{meets_at}
use Rattle.line.proofs.Sizes.{meet_ticks}
use Rattle.line.proofs.line.Line.leave_tick.Goals as goal

module _ (c : goal.After-run) where
  abbrev a : Line
  a = c.args.self

  met : c.run.result * c.args.c ≡ meets_at a c.args.c c.args.i
  met = ap (λ (x : ℕ). x * c.args.c) (c.run.ensures ∙ ap (λ (x : ℕ). run (leg_n a.p a.q) (pos x)) c.plane-at.ensures)

  few : c.run.result * c.args.c ≤ 2 ^ 60
  few = le_trans (le_of_eq met) (meet_ticks a c.requires.0 c.requires.2 c.requires.1)

pub overflow_mul-result : goal.overflow_mul-result
overflow_mul-result c = record { fits = omega (arith, few c) }

pub returns-clause-upper_bound : goal.returns-clause-upper_bound
returns-clause-upper_bound c = few c
