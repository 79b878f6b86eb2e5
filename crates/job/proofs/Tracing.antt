-- The trace of a ray through a grid that the job takes: the lists of 600 places never are too short. Assumes nothing.
use Prim.Native.Nat.{ℕ, ◌+◌, ◌≤◌}
use mathlib.Core.List.{List, map}
use mathlib.Core.Path.{◌≡◌, refl, sym, ap, ◌∙◌}
use lib.ListN.{length, take}
use native.Mathlib.Omega.{arith}
use native.Mathlib.Decide.{ℕ_discrete}
use borrow.Author.Tests.{eq-eqb, ne_eqb}
use Rattle.axis.specs.declared.Limits.{Limits}
use Rattle.ray.specs.Axes.{Grid}
use Rattle.ray.specs.declared.Ray.{Ray}
use Rattle.ray.specs.Length.{volume, part_of}
use Rattle.tracing.specs.declared.Trace.{Trace}
use Rattle.tracing.specs.Answer.{lists, lent, refused}
use Rattle.tracing.proofs.Accepting.{at_ends, stopped}
use Rattle.tracing.proofs.OneCall as one
use Rattle.tracing.proofs.Room.{within_sizes, enough}
use Rattle.load.proofs.Taking.{sides}
use Rattle.job.specs.Rays.{ray_code, traced, passed}
use Rattle.job.specs.Sound.{Taken}
use Rattle.job.proofs.FewPlanes.{few_planes}

pub record Traced (m : Limits) (g : Grid) (r : Ray) (densities : List ℕ) (a : Trace) (voxels parts : List ℕ) : Type 0 where
  pub answer : a ≡ traced m g densities r
  pub few : a.entries ≤ 600
  pub voxels_are : take a.entries voxels ≡ passed m g r
  pub parts_are : take a.entries parts ≡ map (part_of (volume g) r) (passed m g r)

module _ {m : Limits} {g : Grid} {r : Ray} {densities vs ps vs' ps' : List ℕ} {a : Trace}
    (t : one.Traced m g r densities vs ps a vs' ps') (ok : Taken m g (length densities)) (lv : length vs ≡ 600) (lp : length ps ≡ 600) where
  few_sizes : g.x.n + g.y.n + g.z.n ≤ 602
  few_sizes = few_planes (sides m g (omega (arith, ok.suited.small.n_size)) ok.accepted) ok.few

  -- no other code than 0, 5 and 6 is given
  code_is : a.code ≡ ray_code m r
  code_is = elim (ℕ_discrete (ray_code m r) 0) [
    | yes e ↦
        enough ok.suited.small t (record { grid = ok.accepted; ends = e; densities_are = ok.whole; lists_are = lv ∙ sym lp }) (omega (arith, few_sizes)) ∙ sym e
    | no e ↦
        let l = lent (lists densities vs ps 0) in
        one.code_is t ∙ sym (stopped m g r l (at_ends m g r l ok.accepted ok.whole (ray_code m r) refl e) e)
  ]

  pub traced_so : Traced m g r densities a vs' ps'
  unfolding traced passed
  traced_so = elim (ℕ_discrete (ray_code m r) 0) [
    | yes e ↦
        let h : a.code ≡ 0 = code_is ∙ e in
        record {
          answer = one.fields t h ∙ rw (eq-eqb (ray_code m r) 0 e) refl;
          few = omega (arith, within_sizes ok.suited.small t h, few_sizes);
          voxels_are = rw (eq-eqb (ray_code m r) 0 e) (one.voxels_front t h).here;
          parts_are = rw (eq-eqb (ray_code m r) 0 e) (one.parts_front t h).here;
        }
    | no e ↦
        let is : a ≡ refused (ray_code m r) = one.zeros t (λ z. e (sym code_is ∙ z)) ∙ ap refused code_is in
        let n : a.entries ≡ 0 = ap (λ (t : Trace). t.entries) is in
        record {
          answer = is ∙ rw (ne_eqb (ray_code m r) 0 e) refl;
          few = omega arith;
          voxels_are = rw (n, ne_eqb (ray_code m r) 0 e) refl;
          parts_are = rw (n, ne_eqb (ray_code m r) 0 e) refl;
        }
  ]
