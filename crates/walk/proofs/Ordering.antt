-- The entries of a walk do not hang on the order of its axes. Assumes nothing.
use Rattle.std.proofs.Common.{◌≡◌, ℕ, zero, suc, ◌+◌, ◌-◌, ◌%◌, ◌^◌, Bool, true, false, cond, eqb, ltb, sym, refl, ap, ◌∙◌, arith}
use native.Mathlib.Nat.{mod-add-mod}
use Rattle.ray.specs.declared.axes.Side.{Side}
use Rattle.ray.specs.declared.axes.Side.TheVariants.{X, Y, Z}
use Rattle.ray.specs.declared.axes.Axes.{Axes}
use Rattle.ray.specs.Side.{of_side}
use Rattle.line.specs.Scene.{Scene}
use Rattle.line.proofs.Three.{each}
use Rattle.walk.specs.declared.steps.Walk.{Walk}
use Rattle.walk.specs.declared.steps.Strides.{Strides}
use Rattle.walk.specs.declared.plan.Plan.{Plan}
use Rattle.walk.specs.declared.order.Track.{Track}
use Rattle.walk.specs.Model.{soonest, further, hop, stepped, voxels, parts, go, entries, planes_by, Forward}
use Rattle.walk.specs.Plan.{Planned}
use Rattle.walk.specs.Order.{plan_by, exchange_of, ordered_by, ordered_of}

-- two neighbours exchanged
data Flip : Type 0 where
  first_two : Flip
  last_two : Flip

abbrev turn : Flip → Side → Side
turn first_two X = Y
turn first_two Y = X
turn first_two Z = Z
turn last_two X = X
turn last_two Y = Z
turn last_two Z = Y

abbrev turned : {A : Type 0} → Flip → Axes A → Axes A
turned c a = record { x = of_side a (turn c X); y = of_side a (turn c Y); z = of_side a (turn c Z) }

abbrev flipped : Flip → Walk → Walk
flipped c w = record { leave = turned c w.leave; v = w.v; t = w.t }

abbrev strided : Flip → Strides → Strides
strided c s = record { step = turned c s.step; jump = turned c s.jump }

flip_soonest : (c : Flip) (w : Walk) → soonest (flipped c w) ≡ soonest w
flip_soonest first_two w = omega arith
flip_soonest last_two w = omega arith

-- two planes met at once count the same in either order
hop_swap : (a b : Bool) (j k v m : ℕ) → cond a ((cond b ((v + k) % m) v + j) % m) (cond b ((v + k) % m) v) ≡ cond b ((cond a ((v + j) % m) v + k) % m) (cond a ((v + j) % m) v)
hop_swap true true j k v m =
    let e : v + k + j ≡ v + j + k = omega arith in
    mod-add-mod (v + k) m j ∙ ap (λ (x : ℕ). x % m) e ∙ sym (mod-add-mod (v + j) m k)
hop_swap true false j k v m = refl
hop_swap false true j k v m = refl
hop_swap false false j k v m = refl

module _ (s : Strides) where
  flip_step : (c : Flip) (w : Walk) → stepped (strided c s) (flipped c w) ≡ flipped c (stepped s w)
  unfolding stepped
  flip_step first_two w =
      let u : ℕ = soonest w in
      rw (flip_soonest first_two w) (λ i. record {
        leave = record { x = further s w u Y; y = further s w u X; z = further s w u Z };
        v = hop s w u Z (hop_swap (eqb w.leave.x u) (eqb w.leave.y u) s.jump.x s.jump.y w.v (2 ^ 64) i);
        t = u;
      })
  flip_step last_two w =
      let u : ℕ = soonest w in
      rw (flip_soonest last_two w) (λ i. record {
        leave = record { x = further s w u X; y = further s w u Z; z = further s w u Y };
        v = hop_swap (eqb w.leave.y u) (eqb w.leave.z u) s.jump.y s.jump.z (hop s w u X w.v) (2 ^ 64) i;
        t = u;
      })

  module _ (c : Flip) (to : ℕ) where
    flip_go : (m : ℕ) (w : Walk) → go m (strided c s) to (flipped c w) ≡ go m s to w
    unfolding go
    flip_go zero w = refl
    flip_go (suc m) w = rw (flip_soonest c w, flip_step c w, flip_go m (stepped s w)) refl

    flip_entries : (w : Walk) → entries (strided c s) to (flipped c w) ≡ entries s to w
    flip_entries w = flip_go (to - w.t) w

-- ---- a plan as good as another: it goes forward with it, and has the same entries
record Alike (p q : Plan) : Type 0 where
  pub forward : (to : ℕ) → Forward p.strides to p.walk → Forward q.strides to q.walk
  pub same : (to : ℕ) → entries q.strides to q.walk ≡ entries p.strides to p.walk

none : (p : Plan) → Alike p p
none p = record { forward = λ to f. f; same = λ to. refl }

both : {p q r : Plan} → Alike p q → Alike q r → Alike p r
both a b = record { forward = λ to f. b.forward to (a.forward to f); same = λ to. b.same to ∙ a.same to }

flip : (c : Flip) (p : Plan) → Alike p (record { walk = flipped c p.walk; strides = strided c p.strides })
flip c p = record {
  forward = λ to f. record {
    steps_some = each _ (f.steps_some (turn c X)) (f.steps_some (turn c Y)) (f.steps_some (turn c Z));
    steps_size = each _ (f.steps_size (turn c X)) (f.steps_size (turn c Y)) (f.steps_size (turn c Z));
    leaves_size = each _ (f.leaves_size (turn c X)) (f.leaves_size (turn c Y)) (f.leaves_size (turn c Z));
    to_size = f.to_size;
    later = rw (flip_soonest c p.walk) f.later;
    before = f.before;
  };
  same = λ to. flip_entries p.strides c to p.walk;
}

module _ (v t : ℕ) where
  in_front : (b : Bool) (x y z : Track) → let e : Track × Track = cond b (y, x) (x, y) in Alike (plan_by x y z v t) (plan_by e.0 e.1 z v t)
  in_front true x y z = flip first_two (plan_by x y z v t)
  in_front false x y z = none (plan_by x y z v t)

  behind : (b : Bool) (x y z : Track) → let e : Track × Track = cond b (z, y) (y, z) in Alike (plan_by x y z v t) (plan_by x e.0 e.1 v t)
  behind true x y z = flip last_two (plan_by x y z v t)
  behind false x y z = none (plan_by x y z v t)

  all_three : (x y z : Track) → Alike (plan_by x y z v t) (ordered_by x y z v t)
  all_three x y z =
      let near : Track × Track = exchange_of x y in
      let far : Track × Track = exchange_of near.1 z in
      both (both (in_front (ltb y.step x.step) x y z) (behind (ltb z.step near.1.step) near.0 near.1 z))
      (in_front (ltb far.0.step near.0.step) near.0 far.0 far.1)

pub ordered_plan : {s : Scene} {to : ℕ} {p q : Plan} → q ≡ ordered_of p → Planned s to p → Planned s to q
ordered_plan {to = to} {p = p} e planned =
    let a : Alike p (ordered_of p) = all_three p.walk.v p.walk.t _ _ _ in
    rw e (record {
      forward = a.forward to planned.forward;
      voxels_are = ap voxels (a.same to) ∙ planned.voxels_are;
      parts_are = ap parts (a.same to) ∙ planned.parts_are;
      crossed_is = ap (planes_by 0) (a.same to) ∙ planned.crossed_is;
    })

-- ---- what the code makes, field by field
chosen : (t : Bool) (a b : Track) → ◌≡◌ {A = Track × Track}
    (record { leave = cond t b.leave a.leave; step = cond t b.step a.step; jump = cond t b.jump a.jump }, record { leave = cond t a.leave b.leave; step = cond t a.step b.step; jump = cond t a.jump b.jump })
    (cond t (b, a) (a, b))
chosen true a b = refl
chosen false a b = refl

pub exchanged : (a b : Track) {l s j l' s' j' : ℕ} → let turned : Bool = ltb b.step a.step in
    l ≡ cond turned b.leave a.leave → s ≡ cond turned b.step a.step → j ≡ cond turned b.jump a.jump
    → l' ≡ cond turned a.leave b.leave → s' ≡ cond turned a.step b.step → j' ≡ cond turned a.jump b.jump
    → ◌≡◌ {A = Track × Track} (record { leave = l; step = s; jump = j }, record { leave = l'; step = s'; jump = j' }) (exchange_of a b)
exchanged a b el es ej el' es' ej' = rw (el, es, ej, el', es', ej') (chosen (ltb b.step a.step) a b)
