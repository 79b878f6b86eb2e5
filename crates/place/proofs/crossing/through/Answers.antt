-- Where all three axes hold the ray and αmin is below αmax it goes through, and else it misses. Assumes nothing.
use Rattle.std.proofs.Common.{◌≡◌, sym, ◌∙◌, Bool, true, false, cond}
use Rattle.std.specs.Prelude.{Option, Some, None}
use Rattle.ray.specs.declared.axes.Side.TheVariants.{X, Y, Z}
use Rattle.line.specs.Scene.{Scene}
use Rattle.place.specs.Ratio.{Ratio, over, below, greater, lesser}
use Rattle.place.specs.declared.crossing.Stretch.{Stretch}
use Rattle.place.specs.Deciding.{stretch_of, joined_of, through_of}
use Rattle.place.proofs.crossing.through.Goals as goal

-- what was found of the three axes of a scene, one after another
module _ (s : Scene) {x : Option Stretch} (x_is : x ≡ stretch_of s.x) where
  none_x : x ≡ None → None ≡ through_of s
  unfolding joined_of
  none_x p = λ i. joined_of ((sym p ∙ x_is) i) (stretch_of s.y) (stretch_of s.z)

  module _ {u : Stretch} (x_some : x ≡ Some u) {y : Option Stretch} (y_is : y ≡ stretch_of s.y) where
    none_y : y ≡ None → None ≡ through_of s
    unfolding joined_of
    none_y p = λ i. joined_of ((sym x_some ∙ x_is) i) ((sym p ∙ y_is) i) (stretch_of s.z)

    module _ {v : Stretch} (y_some : y ≡ Some v) {z : Option Stretch} (z_is : z ≡ stretch_of s.z) where
      none_z : z ≡ None → None ≡ through_of s
      unfolding joined_of
      none_z p = λ i. joined_of ((sym x_some ∙ x_is) i) ((sym y_some ∙ y_is) i) ((sym p ∙ z_is) i)

      -- and of all three together
      found : {w : Stretch} → z ≡ Some w → {a e b d l : Ratio} → a ≡ greater v.enter w.enter → e ≡ greater u.enter a → b ≡ lesser v.leave w.leave
          → d ≡ lesser u.leave b → l ≡ lesser (over 1 1) d → (t : Bool) → below e l ≡ t → cond t (Some (record { enter = e; leave = l })) None ≡ through_of s
      unfolding joined_of
      found z_some a_is e_is b_is d_is l_is t t_is =
          rw (← t_is, l_is, d_is, b_is, e_is, a_is) (λ i. joined_of ((sym x_some ∙ x_is) i) ((sym y_some ∙ y_is) i) ((sym z_some ∙ z_is) i))

pub stretch_of-requires : goal.stretch_of-requires
stretch_of-requires c = c.requires.sized X

pub stretch_of-requires-2 : goal.stretch_of-requires-2
stretch_of-requires-2 c = c.requires.sized Y

pub stretch_of-requires-3 : goal.stretch_of-requires-3
stretch_of-requires-3 c = c.requires.sized Z

pub returns-in_err-x : goal.returns-in_err-x
returns-in_err-x c = rw c.from_residual.ensures (none_x c.args.s c.stretch_of.ensures c.in_err-x.was)

pub returns-in_err-y : goal.returns-in_err-y
returns-in_err-y c = rw c.from_residual-in_err-y.ensures (none_y c.args.s c.stretch_of.ensures c.in_ok-x.was c.stretch_of-2.ensures c.in_err-y.was)

pub returns-in_err-z : goal.returns-in_err-z
returns-in_err-z c = rw c.from_residual-in_err-z.ensures (none_z c.args.s c.stretch_of.ensures c.in_ok-x.was c.stretch_of-2.ensures c.in_ok-y.was c.stretch_of-3.ensures c.in_err-z.was)

pub returns-then-is_below : goal.returns-then-is_below
returns-then-is_below c =
    found c.args.s c.stretch_of.ensures c.in_ok-x.was c.stretch_of-2.ensures c.in_ok-y.was c.stretch_of-3.ensures c.in_ok-z.was c.max.ensures c.max-enter.ensures c.min.ensures c.min-2.ensures c.min-leave.ensures true
    (sym c.is_below.ensures ∙ c.if-is_below.true)

pub returns-else-is_below : goal.returns-else-is_below
returns-else-is_below c =
    found c.args.s c.stretch_of.ensures c.in_ok-x.was c.stretch_of-2.ensures c.in_ok-y.was c.stretch_of-3.ensures c.in_ok-z.was c.max.ensures c.max-enter.ensures c.min.ensures c.min-2.ensures c.min-leave.ensures false
    (sym c.is_below.ensures ∙ c.if-is_below.false)
