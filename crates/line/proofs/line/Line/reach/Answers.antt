-- The two planes asked for are those of the array. Assumes nothing.
use Rattle.std.proofs.Common.{◌≡◌, ◌*◌, ◌^◌, ◌≤◌, true, sym, ◌∙◌, arith}
use Rattle.axis.specs.Leg.{Slab, enters, leaves, held}
use Rattle.line.specs.declared.line.Line.{Line}
use Rattle.line.specs.Scene.{leg_n, slab_n, plane, enters_at, leaves_at}
use Rattle.line.proofs.Units.{slab_same}
use Rattle.line.proofs.Stretch.{held_array}
use Rattle.line.proofs.Sizes.{enter_ticks, leave_ticks}
use Rattle.line.proofs.line.Line.reach.Goals as goal

-- where the code has asked for all of it
module _ (c : goal.After-held-held) where
  abbrev a : Line
  a = c.args.self

  -- the two planes are those that the code asked for
  between : {A : Type 0} (f : Slab → A) → f (slab_n c.plane-near.result c.plane-far.result true) ≡ f (slab_n (plane a 0) (plane a a.n) true)
  between f = slab_same f c.plane-near.ensures c.plane-far.ensures

  enters_so : c.enter-enter.result * c.args.c ≡ enters_at a c.args.c 0 a.n
  enters_so = c.enter-enter.ensures c.args.c ∙ between (enters c.args.c (leg_n a.p a.q))

  leaves_so : c.leave-leave.result * c.args.c ≡ leaves_at a c.args.c 0 a.n
  leaves_so = c.leave-leave.ensures c.args.c ∙ between (leaves c.args.c (leg_n a.p a.q))

  enter_few : enters_at a c.args.c 0 a.n ≤ 2 ^ 60
  enter_few = enter_ticks a c.requires.0 (omega arith) (omega arith) c.requires.1

  leave_few : leaves_at a c.args.c 0 a.n ≤ 2 ^ 60
  leave_few = leave_ticks a c.requires.0 (omega arith) (omega arith) c.requires.1

pub overflow_mul-result : goal.overflow_mul-result
overflow_mul-result c = record { fits = omega (arith, enters_so c, enter_few c) }

pub overflow_mul-result-2 : goal.overflow_mul-result-2
overflow_mul-result-2 c = record { fits = omega (arith, leaves_so c, leave_few c) }

pub returns : goal.returns
returns c = record {
  from_is = enters_so c;
  to_is = leaves_so c;
  held_is = c.held-held.ensures ∙ between c (held (leg_n (a c).p (a c).q)) ∙ sym (held_array (a c));
  from_size = omega (arith, enters_so c, enter_few c);
  to_size = omega (arith, leaves_so c, leave_few c);
}
