-- A walk with its axes in another order. Definitions only. Assumes nothing.
use Rattle.std.specs.Prelude.{ℕ, cond, nat_lt}
use Rattle.ray.specs.declared.axes.Side.{Side}
use Rattle.ray.specs.declared.axes.Side.TheVariants.{X, Y, Z}
use Rattle.walk.specs.declared.plan.Plan.{Plan}
use Rattle.walk.specs.declared.order.Track.{Track}
use Rattle.walk.specs.Model.{leave_of, step_of, jump_of}

-- an axis of a walk, and a walk from its three axes
abbrev pub track : Plan → Side → Track
track p o = record { leave = leave_of p.walk o; step = step_of p.strides o; jump = jump_of p.strides o }

abbrev pub plan_by : (x y z : Track) (v t : ℕ) → Plan
plan_by x y z v t = record {
  walk = record { leave = record { x = x.leave; y = y.leave; z = z.leave }; v = v; t = t };
  strides = record { step = record { x = x.step; y = y.step; z = z.step }; jump = record { x = x.jump; y = y.jump; z = z.jump } };
}

-- two axes, the one with the shorter stride first
abbrev pub exchange_of : Track → Track → Track × Track
exchange_of a b = cond (nat_lt b.step a.step) (b, a) (a, b)

abbrev pub ordered_by : (x y z : Track) (v t : ℕ) → Plan
ordered_by x y z v t =
    let near : Track × Track = exchange_of x y in
    let far : Track × Track = exchange_of near.1 z in
    let front : Track × Track = exchange_of near.0 far.0 in
    plan_by front.0 front.1 far.1 v t

abbrev pub ordered_of : Plan → Plan
ordered_of p = ordered_by (track p X) (track p Y) (track p Z) p.walk.v p.walk.t
