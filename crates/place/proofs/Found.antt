-- What is found of a ray: whether it is refused, misses or hits by RULES 4, and on a hit αmin and αmax as short fractions,
-- at any limits that are small enough. Assumes nothing.
use Prim.Native.Nat.{ℕ, ◌<◌}
use mathlib.Core.Path.{◌≡◌, refl, sym, ap, ◌∙◌, subst}
use mathlib.Core.Bool.{Bool, true, false, not, ◌||◌, ◌&&◌, cond}
use native.Mathlib.Decide.{ℕ_discrete}
use lib.IntN.{pos}
use Rattle.std.specs.Prelude.{Option, Some, None, Result, Ok, Err}
use lib.Dec.{eqb, leb}
use borrow.Author.Tests.{eq-eqb, ne_eqb, not-false}
use Rattle.axis.specs.declared.Limits.{Limits}
use Rattle.axis.specs.declared.refusal.Refusal.{Refusal}
use Rattle.axis.specs.Refusal.{number, number_of}
use Rattle.axis.specs.Codes.{first}
use Rattle.axis.proofs.Table.{then_on, then_stop, number_some}
use Rattle.axis.proofs.Flag.{lt_not_le, or_right}
use Rattle.ray.specs.Axes.{Grid}
use Rattle.ray.specs.declared.Ray.{Ray}
use Rattle.ray.specs.declared.axes.Side.{Side}
use Rattle.ray.specs.Length.{d_of, Volume, volume, array, start, stop, holds, misses}
use Rattle.ray.specs.Codes.{grid_rows, end_rows}
use Rattle.ray.proofs.MovedAxis.{slab_on}
use Rattle.ray.proofs.Moved.{Moved, d_moved, start_moved, stop_moved, holds_moved, array_moved, misses_moved}
use Rattle.ray.proofs.HitOrMiss.{ahead}
use Rattle.line.specs.Scene.{Scene}
use Rattle.line.specs.Scene.{volume_of, ray_of, Able}
use Rattle.line.specs.Raised.{Small, scene_of}
use Rattle.line.proofs.Raised as raised
use Rattle.place.specs.Ratio.{Ratio, below}
use Rattle.place.specs.declared.crossing.Stretch.{Stretch}
use Rattle.place.specs.Deciding.{stretch_at, αmin, αmax, joined_of, through_of, Crossing, numbered, crossing_of}
use Rattle.place.specs.Answers.{refusal_of}
use Rattle.place.proofs.Accepted.{refusal_is, Accepted, accepted}
use Rattle.place.proofs.Deciding.{Is, below_is, enter, leave, αmin_is, αmax_is}

turned : {A : Type 0} (a b : Bool) (x y : A) → cond b (cond (not a) x y) y ≡ cond (a || not b) y x
turned true true x y = refl
turned true false x y = refl
turned false true x y = refl
turned false false x y = refl

abbrev went : Scene → Option Stretch
went s = Some (record { enter = enter s; leave = leave s })

-- three axes, each where it holds the ray
joined_is : (a b c : Bool) (x y z : Stretch) → joined_of (cond a (Some x) None) (cond b (Some y) None) (cond c (Some z) None)
    ≡ cond (a && (b && c)) (cond (below (αmin x y z) (αmax x y z)) (Some (record { enter = αmin x y z; leave = αmax x y z })) None) None
unfolding joined_of
joined_is true true true x y z = refl
joined_is true true false x y z = refl
joined_is true false c x y z = refl
joined_is false b c x y z = refl

through_is : (s : Scene) → Able s → through_of s ≡ cond (misses (volume_of s) (ray_of s)) None (went s)
unfolding misses
through_is s able =
    let from = start (ray_of s) (array (volume_of s)) in
    let to = stop (ray_of s) (array (volume_of s)) in
    let held = holds (ray_of s) (array (volume_of s)) in
    joined_is _ _ _ (stretch_at s.x) (stretch_at s.y) (stretch_at s.z)
    ∙ ap (λ (t : Bool). cond held (cond t (went s) None) None) (below_is (αmin_is s able) (αmax_is s able) ∙ lt_not_le from to)
    ∙ turned (leb to from) held (went s) None

is_same : {f : Ratio} {n n' d d' : ℕ} → n ≡ n' → d ≡ d' → Is f n d → Is f n' d'
is_same e h F = rw (e, h) at F

module _ (m : Limits) (g : Grid) (r : Ray) where
  abbrev s : Scene
  s = scene_of m g r

  abbrev v : Volume
  v = volume g

  -- the scene is the grid and the ray moved by the limit
  module _ (ok : Accepted m g r) where
    moved : Moved (pos m.coord) v (volume_of s) r (ray_of s)
    moved = raised.moved m g r ok.grid ok.ends

    box : (o : Side) → array (volume_of s) o ≡ slab_on (pos m.coord) (array v o)
    box = array_moved moved

    pub d_same : d_of (ray_of s) ≡ d_of r
    d_same = d_moved moved

    pub start_same : start (ray_of s) (array (volume_of s)) ≡ start r (array v)
    start_same = start_moved moved (array v) box

    pub stop_same : stop (ray_of s) (array (volume_of s)) ≡ stop r (array v)
    stop_same = stop_moved moved (array v) box

    pub holds_same : holds (ray_of s) (array (volume_of s)) ≡ holds r (array v)
    holds_same = holds_moved moved (array v) box

    misses_same : misses (volume_of s) (ray_of s) ≡ misses v r
    misses_same = misses_moved moved

  pub crossed : refusal_of m g r ≡ 0 → crossing_of m g r ≡ Ok (through_of s)
  unfolding crossing_of
  crossed h = rw (eq-eqb (refusal_of m g r) 0 h) refl

  pub refused : (refusal_of m g r ≡ 0 → ⊥) → crossing_of m g r ≡ Err (refusal_of m g r)
  unfolding crossing_of
  refused h = rw (ne_eqb (refusal_of m g r) 0 h) refl

  -- each of the two checks that refuses, and both that accept
  told_refused : (k : Refusal) → number k ≡ refusal_of m g r → Err (number k) ≡ crossing_of m g r
  told_refused k h = ap Err h ∙ sym (refused (λ z. number_some k (h ∙ z)))

  pub grid_refused : {a : Result (Unit {0}) Refusal} {c : Result (Option Stretch) Refusal} (k : Refusal) → number_of a ≡ first (grid_rows m g)
      → a ≡ Err k → c ≡ Err k → numbered c ≡ crossing_of m g r
  grid_refused k grid is same =
      let h : number k ≡ first (grid_rows m g) = rw is at grid in
      rw same (told_refused k (h ∙ sym (refusal_is m g r ∙ then_stop _ _ (λ z. number_some k (h ∙ z)))))

  pub ends_refused : {a b : Result (Unit {0}) Refusal} {c : Result (Option Stretch) Refusal} {u : Unit {0}} (k : Refusal) → number_of a ≡ first (grid_rows m g)
      → a ≡ Ok u → number_of b ≡ first (end_rows m r) → b ≡ Err k → c ≡ Err k → numbered c ≡ crossing_of m g r
  ends_refused k grid a_is ends b_is same =
      let h : number k ≡ first (end_rows m r) = rw b_is at ends in
      rw same (told_refused k (h ∙ sym (refusal_is m g r ∙ then_on _ _ (sym grid ∙ ap number_of a_is))))

  pub none_refused : {a b : Result (Unit {0}) Refusal} {u v : Unit {0}} → number_of a ≡ first (grid_rows m g) → a ≡ Ok u
      → number_of b ≡ first (end_rows m r) → b ≡ Ok v → refusal_of m g r ≡ 0
  none_refused grid a_is ends b_is = refusal_is m g r ∙ then_on _ _ (sym grid ∙ ap number_of a_is) ∙ sym ends ∙ ap number_of b_is

  pub record Hit (e l : Ratio) : Type 0 where
    pub code : refusal_of m g r ≡ 0
    pub ok : Accepted m g r
    pub meets : misses v r ≡ false
    pub held : holds r (array v) ≡ true
    pub strict : start r (array v) < stop r (array v)
    pub enters : Is e (start r (array v)) (d_of r)
    pub leaves : Is l (stop r (array v)) (d_of r)

  -- what each of the three says of the grid and the ray
  abbrev Found : Crossing → Type 0
  Found (Err c) = (c ≡ refusal_of m g r) × (refusal_of m g r ≡ 0 → ⊥)
  Found (Ok None) = (refusal_of m g r ≡ 0) × (misses v r ≡ true)
  Found (Ok (Some t)) = Hit t.enter t.leave

  module _ (small : Small m) where
    pub able : Accepted m g r → Able s
    able ok = raised.able m g r ok.grid ok.ends small

    accepted_by : (u : Bool) → misses v r ≡ u → refusal_of m g r ≡ 0 → Found (Ok (cond u None (went s)))
    unfolding misses
    accepted_by true h code = (code, h)
    accepted_by false h code =
        let ok = accepted m g r code in
        record {
          code = code;
          ok = ok;
          meets = h;
          held = not-false _ (or_right (leb (stop r (array v)) (start r (array v))) _ h);
          strict = ahead v r h;
          enters = is_same (start_same ok) (d_same ok) (αmin_is s (able ok));
          leaves = is_same (stop_same ok) (d_same ok) (αmax_is s (able ok));
        }

    found : Found (crossing_of m g r)
    found = elim (ℕ_discrete (refusal_of m g r) 0) [
      | yes h ↦
          let ok = accepted m g r h in
          let same = ap (λ (t : Bool). Ok (cond t None (went s))) (misses_same ok) in
          subst Found (sym (crossed h ∙ ap Ok (through_is s (able ok)) ∙ same)) (accepted_by (misses v r) refl h)
      | no h ↦ subst Found (sym (refused h)) (refl, h)
    ]

    pub hit : (t : Stretch) → crossing_of m g r ≡ Ok (Some t) → Hit t.enter t.leave
    hit t h = subst Found h found

    -- an answer made of what was found, where y is that of a hit
    module _ {A : Type 0} (f : Crossing → A) (y : A) (each : (t : Stretch) → Hit t.enter t.leave → f (Ok (Some t)) ≡ y) where
      by : (k : Crossing) → Found k → f k ≡ cond (eqb (refusal_of m g r) 0) (cond (misses v r) (f (Ok None)) y) (f (Err (refusal_of m g r)))
      by (Err c) F = rw (ne_eqb (refusal_of m g r) 0 F.1) (ap (λ (x : ℕ). f (Err x)) F.0)
      by (Ok None) F = rw (eq-eqb (refusal_of m g r) 0 F.0, F.1) refl
      by (Ok (Some t)) F = rw (eq-eqb (refusal_of m g r) 0 F.code, F.meets) (each t F)

      pub answer_is : f (crossing_of m g r) ≡ cond (eqb (refusal_of m g r) 0) (cond (misses v r) (f (Ok None)) y) (f (Err (refusal_of m g r)))
      answer_is = by (crossing_of m g r) found
