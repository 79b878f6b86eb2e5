-- Demand 3 read off the promises, a ray cut at a point M of whole coordinates: three calls of `trace`, from P to Q, from P to M and from
-- M to Q, each lent lists of its own. Assumes nothing.
use Prim.Native.Nat.{ℕ, ◌+◌, ◌*◌, ◌≤◌}
use mathlib.Core.Path.{◌≡◌, sym, ap₂, ◌∙◌}
use mathlib.Core.Bool.{true}
use mathlib.Core.List.{List, map}
use native.Mathlib.Omega.{arith}
use native.Mathlib.Decide.{dec_lt}
use native.Mathlib.Nat.{zero-mul, mul-zero}
use lib.ListN.{length, take}
use Rattle.axis.specs.Leg.{moving}
use Rattle.axis.specs.declared.Limits.{Limits}
use Rattle.ray.specs.Axes.{Grid}
use Rattle.ray.specs.Axes.{End}
use Rattle.ray.specs.declared.Ray.{Ray}
use Rattle.ray.specs.declared.axes.Side.{Side}
use Rattle.ray.specs.Length.{leg, volume, count, part_of, list_of}
use Rattle.ray.proofs.CutBox.{Between, near, far}
use Rattle.ray.proofs.Cut.{difference, MeanOf}
use Rattle.ray.proofs.Ends.{ends_near, ends_far}
use Rattle.ray.proofs.Seam.{joined, joined_long}
use Rattle.ray.proofs.CutList.{Cuts, grid_cuts}
use Rattle.tracing.specs.declared.Trace.{Trace}
use Rattle.tracing.proofs.Share.{share, share_part, share_none}
use Rattle.tracing.proofs.OneCall.{Traced, free, denominator_is, sum_is, voxels_front, parts_front, accepted_too}

-- the part beside voxel w in an answer: its entries are the first so many places of the lists
abbrev pub share_in : ℕ → Trace → List ℕ → List ℕ → ℕ
share_in w a vs ps = share w (take a.entries vs) (take a.entries ps)

mean_as : {f f₁ f₂ d d₁ d₂ x x₁ x₂ e e₁ e₂ y y₁ y₂ : ℕ} → d ≡ e → d₁ ≡ e₁ → d₂ ≡ e₂ → x ≡ y → x₁ ≡ y₁ → x₂ ≡ y₂
    → MeanOf f f₁ f₂ e e₁ e₂ y y₁ y₂ → MeanOf f f₁ f₂ d d₁ d₂ x x₁ x₂
mean_as hd hd₁ hd₂ hx hx₁ hx₂ h = rw (hd, hd₁, hd₂, hx, hx₁, hx₂) h

mean_none : {f f₁ f₂ d d₁ d₂ x x₁ x₂ : ℕ} → MeanOf f f₁ f₂ d d₁ d₂ x x₁ x₂ → MeanOf f f₁ f₂ d d₁ d₂ 0 0 0
mean_none h = record { f_pos = h.f_pos; d_pos = h.d_pos; d₁_pos = h.d₁_pos; d₂_pos = h.d₂_pos; is = simp (mul-zero, zero-mul) }

module _ {lim : Limits} {g : Grid} {r : Ray} {densities vs ps vs' ps' : List ℕ} {a : Trace} (t : Traced lim g r densities vs ps a vs' ps') (h : a.code ≡ 0) where
  share_is : (w : ℕ) → share_in w a vs' ps' ≡ share w (list_of (volume g) r) (map (part_of (volume g) r) (list_of (volume g) r))
  share_is w = ap₂ (share w) (voxels_front t h).here (parts_front t h).here

module _ {lim : Limits} {g : Grid} {r : Ray} {m : End} {densities vs ps vs' ps' : List ℕ} {a : Trace}
    (between : Between r m) (whole : Traced lim g r densities vs ps a vs' ps') (h : a.code ≡ 0) where
  cut : Cuts (volume g) r m
  cut = grid_cuts lim g r m (free whole h).accepted.ends between

  -- PM and MQ make up PQ, and their quotients are the same on every moving axis
  pub cut_differences : (s : Side) → moving (leg r s) ≡ true → difference (near r m) s + difference (far r m) s ≡ difference r s
  cut_differences = cut.differences

  pub cut_quotient : (s t : Side) → moving (leg r s) ≡ true → moving (leg r t) ≡ true → difference (near r m) s * difference r t ≡ difference (near r m) t * difference r s
  cut_quotient = cut.quotient

  pub cut_quotient_far : (s t : Side) → moving (leg r s) ≡ true → moving (leg r t) ≡ true → difference (far r m) s * difference r t ≡ difference (far r m) t * difference r s
  cut_quotient_far = cut.quotient_far

  module _ {vs₁ ps₁ vs₁' ps₁' vs₂ ps₂ vs₂' ps₂' : List ℕ} {a₁ a₂ : Trace}
      (one : Traced lim g (near r m) densities vs₁ ps₁ a₁ vs₁' ps₁') (two : Traced lim g (far r m) densities vs₂ ps₂ a₂ vs₂' ps₂') where
    -- the pieces of an accepted ray are accepted, in lists that are as long
    pub cut_accepted : length vs₁ ≡ length ps₁ → length vs ≤ length vs₁ → length vs₂ ≡ length ps₂ → length vs ≤ length vs₂ → (a₁.code ≡ 0) × (a₂.code ≡ 0)
    cut_accepted lists₁ long₁ lists₂ long₂ =
        let few = joined_long (list_of (volume g) (near r m)) (list_of (volume g) (far r m)) in
        let ends = (free whole h).accepted.ends in (
          accepted_too whole h one (ends_near lim r ends m between) (rw cut.voxels few.0) lists₁ long₁,
          accepted_too whole h two (ends_far lim r ends m between) (rw cut.voxels few.1) lists₂ long₂,
        )

    module _ (h₁ : a₁.code ≡ 0) (h₂ : a₂.code ≡ 0) where
      -- the voxels of PM followed by those of MQ, the two at the seam becoming one where they are the same voxel
      pub cut_voxels : take a.entries vs' ≡ joined (take a₁.entries vs₁') (take a₂.entries vs₂')
      cut_voxels = (voxels_front whole h).here ∙ cut.voxels ∙ ap₂ joined (sym (voxels_front one h₁).here) (sym (voxels_front two h₂).here)

      -- in every voxel, by the weights of whichever moving axis
      pub cut_shares : (s : Side) → moving (leg r s) ≡ true → (w : ℕ)
          → MeanOf (difference r s) (difference (near r m) s) (difference (far r m) s) a.denominator a₁.denominator a₂.denominator
          (share_in w a vs' ps') (share_in w a₁ vs₁' ps₁') (share_in w a₂ vs₂' ps₂')
      cut_shares s moves w =
          elim (dec_lt w (count (volume g))) [
            | yes l ↦ mean_as (denominator_is whole h) (denominator_is one h₁) (denominator_is two h₂)
                (share_is whole h w ∙ share_part (volume g) r w l)
                (share_is one h₁ w ∙ share_part (volume g) (near r m) w l)
                (share_is two h₂ w ∙ share_part (volume g) (far r m) w l)
                (cut.part s moves w)
            | no l ↦ mean_as (denominator_is whole h) (denominator_is one h₁) (denominator_is two h₂)
                (share_is whole h w ∙ share_none (volume g) r w (omega arith))
                (share_is one h₁ w ∙ share_none (volume g) (near r m) w (omega arith))
                (share_is two h₂ w ∙ share_none (volume g) (far r m) w (omega arith))
                (mean_none (cut.part s moves w))
          ]

      pub cut_sums : (s : Side) → moving (leg r s) ≡ true
          → MeanOf (difference r s) (difference (near r m) s) (difference (far r m) s) a.denominator a₁.denominator a₂.denominator a.sum a₁.sum a₂.sum
      cut_sums s moves =
          mean_as (denominator_is whole h) (denominator_is one h₁) (denominator_is two h₂) (sum_is whole h) (sum_is one h₁) (sum_is two h₂)
          (cut.sum s moves densities)
