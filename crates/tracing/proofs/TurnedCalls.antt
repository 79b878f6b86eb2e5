-- Demand 3 read off the promises, a ray turned round: two calls of `trace`, from P to Q and from Q to P, each lent lists of its own.
-- Assumes nothing.
use Prim.Native.Nat.{ℕ, ◌≤◌}
use mathlib.Core.Path.{◌≡◌, sym, ap, ◌∙◌}
use mathlib.Core.List.{List, reverse}
use native.Mathlib.Omega.{arith}
use lib.ListN.{length, take, length-reverse}
use Rattle.axis.specs.declared.Limits.{Limits}
use Rattle.ray.specs.Axes.{Grid}
use Rattle.ray.specs.declared.Ray.{Ray}
use Rattle.ray.specs.Length.{volume, list_of}
use Rattle.ray.proofs.Turned.{turned}
use Rattle.ray.proofs.TurnedList.{grid_turns}
use Rattle.ray.proofs.Ends.{ends_turned}
use Rattle.tracing.specs.declared.Trace.{Trace}
use Rattle.tracing.specs.Answer.{accepted}
use Rattle.tracing.proofs.OneCall.{Traced, free, fields, voxels_front, parts_front, accepted_too}

module _ (g : Grid) (r : Ray) where
  as_many : length (list_of (volume g) (turned r)) ≡ length (list_of (volume g) r)
  as_many = ap length (grid_turns g r).voxels ∙ length-reverse (list_of (volume g) r)

  accepted_turned : (densities : List ℕ) → accepted (volume g) (turned r) densities ≡ accepted (volume g) r densities
  accepted_turned densities = λ i. record {
    entries = as_many i;
    crossed = (grid_turns g r).crossed i;
    span = (grid_turns g r).span i;
    denominator = (grid_turns g r).d i;
    squared = (grid_turns g r).squared i;
    sum = (grid_turns g r).sum densities i;
    code = 0;
  }

module _ {lim : Limits} {g : Grid} {r : Ray} {densities vs₁ ps₁ vs₁' ps₁' vs₂ ps₂ vs₂' ps₂' : List ℕ} {a₁ a₂ : Trace}
    (there : Traced lim g r densities vs₁ ps₁ a₁ vs₁' ps₁') (back : Traced lim g (turned r) densities vs₂ ps₂ a₂ vs₂' ps₂') where
  -- a ray that is accepted is accepted turned round, in lists that are as long
  pub turned_accepted : a₁.code ≡ 0 → length vs₂ ≡ length ps₂ → length vs₁ ≤ length vs₂ → a₂.code ≡ 0
  turned_accepted h = accepted_too there h back (ends_turned lim r ∙ (free there h).accepted.ends) (omega (arith, as_many g r))

  module _ (h₁ : a₁.code ≡ 0) (h₂ : a₂.code ≡ 0) where
    -- entries, planes crossed, span, D, squared length and sum
    pub turned_answer : a₂ ≡ a₁
    turned_answer = fields back h₂ ∙ accepted_turned g r densities ∙ sym (fields there h₁)

    pub turned_voxels : take a₂.entries vs₂' ≡ reverse (take a₁.entries vs₁')
    turned_voxels = (voxels_front back h₂).here ∙ (grid_turns g r).voxels ∙ ap reverse (sym (voxels_front there h₁).here)

    pub turned_parts : take a₂.entries ps₂' ≡ reverse (take a₁.entries ps₁')
    turned_parts = (parts_front back h₂).here ∙ (grid_turns g r).parts ∙ ap reverse (sym (parts_front there h₁).here)
