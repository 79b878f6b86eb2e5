-- The answers of the place call and the point call in numbers, at any limits; a refusal's number is not 0. Assumes nothing.
use Prim.Native.Nat.{ℕ}
use mathlib.Core.Path.{◌≡◌, refl, sym, ap, ◌∙◌}
use mathlib.Core.Bool.{Bool, true, false, ◌&&◌, not, cond}
use native.Mathlib.Omega.{arith}
use lib.Dec.{eqb}
use lib.Ieee.{Float}
use borrow.Author.Tests.{eqb-true, eqb-false}
use Rattle.axis.specs.declared.Limits.{Limits}
use Rattle.ray.specs.Axes.{Grid}
use Rattle.ray.specs.declared.Ray.{Ray}
use Rattle.ray.specs.Length.{misses, volume}
use Rattle.place.specs.declared.Place.{Place}
use Rattle.place.specs.declared.Place.TheVariants.{Refused, Miss, Hit}
use Rattle.place.specs.declared.Points.{Points}
use Rattle.place.specs.declared.Mark.TheVariants as mark
use Rattle.place.specs.Answers.{refusal_of, enter_of, leave_of, place_of, zero, Told, told, told_of, nowhere, mark_code, points_of}

told_by : (k : ℕ) (b u : Bool) (enter leave : Float) → eqb k 0 ≡ b
    → told (cond b (cond u Miss (Hit enter leave)) (Refused k)) ≡ record { code = k; enter = cond (b && not u) enter zero; leave = cond (b && not u) leave zero }
told_by k true true enter leave e = rw (eqb-true k 0 e) refl
told_by k true false enter leave e = rw (eqb-true k 0 e) refl
told_by k false u enter leave e = refl

refused_by : (k c : ℕ) (b u : Bool) (enter leave : Float) → eqb k 0 ≡ b → Refused c ≡ cond b (cond u Miss (Hit enter leave)) (Refused k) → c ≡ 0 → ⊥
refused_by k c true true enter leave e h z = let no : ◌≡◌ {A = ℕ} 0 1 = cc in omega arith
refused_by k c true false enter leave e h z = let no : ◌≡◌ {A = ℕ} 0 1 = cc in omega arith
refused_by k c false u enter leave e h z = let same : c ≡ k = cc in eqb-false k 0 e (sym same ∙ z)

mark_by : (k : ℕ) (b u : Bool) (hit : Points) → eqb k 0 ≡ b → hit.mark ≡ mark.Hit
    → mark_code (cond b (cond u (nowhere mark.Miss) hit) (nowhere (mark.Refused k))).mark ≡ k
mark_by k true true hit e h = sym (eqb-true k 0 e)
mark_by k true false hit e h = rw h (sym (eqb-true k 0 e))
mark_by k false u hit e h = refl

module _ (m : Limits) (g : Grid) (r : Ray) where
  pub told_is : told (place_of m g r) ≡ told_of m g r
  unfolding place_of
  told_is = told_by (refusal_of m g r) _ (misses (volume g) r) (enter_of g r) (leave_of g r) refl

  pub code_told : (a : Place) → a ≡ place_of m g r → (told a).code ≡ refusal_of m g r
  code_told a e = ap (λ (x : Place). (told x).code) e ∙ ap (λ (t : Told). t.code) told_is

  pub refused_some : (c : ℕ) → Refused c ≡ place_of m g r → c ≡ 0 → ⊥
  unfolding place_of
  refused_some c = refused_by (refusal_of m g r) c _ (misses (volume g) r) (enter_of g r) (leave_of g r) refl

  pub mark_is : mark_code (points_of m g r).mark ≡ refusal_of m g r
  unfolding points_of
  mark_is = mark_by (refusal_of m g r) _ (misses (volume g) r) _ refl refl
