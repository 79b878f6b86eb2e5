-- Two answers allowed by a promise are equal, and so are the lists it leaves. A promise that is one equation is a case of `once`; here stand
-- the functions below the one call. Assumes nothing.
use Rattle.std.proofs.Common.{◌≡◌, ℕ, List, length}
use Rattle.axis.proofs.Once.{once}
use Rattle.ray.specs.declared.axes.Side.{Side}
use Rattle.ray.specs.declared.axes.Side.TheVariants.{X, Y, Z}
use Rattle.line.specs.Scene.{Scene}
use Rattle.line.specs.Scene.{line, volume_of, Able}
use Rattle.line.proofs.Once.{jump_once, index_once}
use Rattle.walk.specs.declared.steps.Walk.{Walk}
use Rattle.walk.specs.declared.steps.Strides.{Strides}
use Rattle.walk.specs.declared.plan.Frame.{Frame}
use Rattle.walk.specs.declared.plan.Plan.{Plan}
use Rattle.walk.specs.declared.entries.Tally.{Tally}
use Rattle.walk.specs.Model.{leave_of, jump_of, Entry, entries, tally_of, Filled}
use Rattle.walk.specs.Plan.{rest_of, Framed, unit, Strided, Begun}

pub count_once : (begin : Walk) (s : Strides) (to r r' : ℕ) → r ≡ length (entries s to begin) → r' ≡ length (entries s to begin) → r ≡ r'
count_once begin s to r r' = once

pub fill_once : (densities : List ℕ) (es : List Entry) (voxels parts : List ℕ) (t t' : Tally) (vs vs' ps ps' : List ℕ)
    → t ≡ tally_of densities es → Filled es vs ps voxels parts → t' ≡ tally_of densities es → Filled es vs' ps' voxels parts → (t ≡ t') × ((vs ≡ vs') × (ps ≡ ps'))
fill_once densities es voxels parts t t' vs vs' ps ps' x f y g = (once x y, (once f.voxels_now g.voxels_now, once f.parts_now g.parts_now))

pub frame_once : (s : Scene) (f f' : Frame) → Framed s f → Framed s f' → f ≡ f'
frame_once s f f' x y = λ i. record {
  rest = record { x = once (x.rests X) (y.rests X) i; y = once (x.rests Y) (y.rests Y) i; z = once (x.rests Z) (y.rests Z) i };
  denominator = once x.denominator_is y.denominator_is i;
  from = once x.from_is y.from_is i;
  to = once x.to_is y.to_is i;
  hit = once x.hit_is y.hit_is i;
}

strides_once : (s : Scene) (f : Frame) (t t' : Strides) → Strided s f t → Strided s f t' → t ≡ t'
strides_once s f t t' x y =
    let jump : (o : Side) → jump_of t o ≡ jump_of t' o = λ o. jump_once (line s o).p (line s o).q (unit (volume_of s) o) (jump_of t o) (jump_of t' o) (x.upward o, x.downward o) (y.upward o, y.downward o) in
    λ i. record {
      step = record { x = once (x.ticks X) (y.ticks X) i; y = once (x.ticks Y) (y.ticks Y) i; z = once (x.ticks Z) (y.ticks Z) i };
      jump = record { x = jump X i; y = jump Y i; z = jump Z i };
    }

module _ (s : Scene) (able : Able s) (f : Frame) where
  walk_once : (w w' : Walk) → Begun s f w → Begun s f w' → w ≡ w'
  walk_once w w' x y =
      let at : (o : Side) → x.at o ≡ y.at o = λ o. index_once (line s o) (rest_of f o) f.from (x.at o) (y.at o) (able.sized o) (x.within o) (y.within o) in
      let leave : (o : Side) → leave_of w o ≡ leave_of w' o = λ o. once (rw (at o) at (x.leaves_at_lem o)) (y.leaves_at_lem o) in
      λ i. record {
        leave = record { x = leave X i; y = leave Y i; z = leave Z i };
        v = once (rw (at X, at Y, at Z) at x.number) y.number i;
        t = once x.tick y.tick i;
      }

  pub plan_once : (p p' : Plan) → Begun s f p.walk × Strided s f p.strides → Begun s f p'.walk × Strided s f p'.strides → p ≡ p'
  plan_once p p' x y = λ i. record {
    walk = walk_once p.walk p'.walk x.0 y.0 i;
    strides = strides_once s f p.strides p'.strides x.1 y.1 i;
  }
