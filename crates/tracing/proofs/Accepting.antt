-- The table of a trace: codes 1 to 7 in their stages, then 8; and what it means that none applies. Assumes nothing.
use Prim.Native.Nat.{ℕ, ◌+◌, ◌≤◌, ◌<◌}
use mathlib.Core.Path.{◌≡◌, refl, sym, ap, ◌∙◌}
use mathlib.Core.Bool.{not, cond}
use mathlib.Core.List.{[], ◌∷◌, ◌++◌}
use native.Mathlib.Omega.{arith}
use lib.Dec.{eqb, ltb}
use lib.ListN.{length}
use borrow.Author.Tests.{not-false, eqb-true, eq-eqb, ne_eqb, ltb-false, lt-ltb, le-ltb}
use Rattle.axis.specs.declared.Limits.{Limits}
use Rattle.axis.specs.Codes.{tenths, Row, first, row}
use Rattle.axis.proofs.Table.{then, then_on, then_stop, then_none, joined, row_off}
use Rattle.ray.specs.Axes.{Grid}
use Rattle.ray.specs.declared.Ray.{Ray}
use Rattle.ray.specs.declared.Lent.{Lent}
use Rattle.ray.specs.Length.{volume, count, list_of}
use Rattle.ray.specs.Codes.{grid_rows, end_rows, front_rows}
use Rattle.line.proofs.Tenths.{tenths_small}
use Rattle.tracing.specs.Answer.{code_of}
use Rattle.tracing.specs.Inside.{Suited, Accepted}

pub tenths_suited : Suited tenths
tenths_suited = record { small = tenths_small; d_size = omega arith }

module _ (m : Limits) (g : Grid) (r : Ray) (l : Lent) where
  abbrev lists : Row
  lists = row 7 (not (eqb l.voxels l.parts))

  abbrev densities : Row
  densities = row 4 (not (eqb l.densities (count (volume g))))

  abbrev room : Row
  room = row 8 (ltb l.voxels (l.filled + length (list_of (volume g) r)))

  pub front_is : first (front_rows m g r l)
      ≡ then (first (grid_rows m g)) (cond densities.applies 4 (then (first (end_rows m r)) (cond lists.applies 7 0)))
  front_is =
      joined (grid_rows m g) (densities ∷ (end_rows m r ++ (lists ∷ []))) refl
      ∙ ap (λ (c : ℕ). then (first (grid_rows m g)) (cond densities.applies 4 c)) (joined (end_rows m r) (lists ∷ []) refl)

  front_then : code_of m g r l ≡ then (first (front_rows m g r l)) (cond room.applies 8 0)
  front_then = joined (front_rows m g r l) (room ∷ []) refl

  -- a code from 1 to 7 is that of the trace
  pub stopped : {c : ℕ} → c ≡ first (front_rows m g r l) → (c ≡ 0 → ⊥) → c ≡ code_of m g r l
  stopped e h = sym (front_then ∙ then_stop _ _ (λ z. h (e ∙ z)) ∙ sym e)

  -- what no code from 1 to 7 means, and the other way round
  pub accepted : first (front_rows m g r l) ≡ 0 → Accepted m g r l
  accepted h =
      let s₁ = then_none (first (grid_rows m g)) _ (sym front_is ∙ h) in
      let s₄ = row_off 4 densities.applies _ (omega arith) s₁.1 in
      let s₅ = then_none (first (end_rows m r)) _ s₄.1 in
      let s₇ = row_off 7 lists.applies 0 (omega arith) s₅.1 in
      record { grid = s₁.0; ends = s₅.0; densities_are = eqb-true _ _ (not-false _ s₄.0); lists_are = eqb-true _ _ (not-false _ s₇.0) }

  pub front_none : Accepted m g r l → first (front_rows m g r l) ≡ 0
  front_none ok = front_is ∙ rw (ok.grid, eq-eqb _ _ ok.densities_are, ok.ends, eq-eqb _ _ ok.lists_are) refl

  -- where each stage stops
  pub at_grid : (c : ℕ) → c ≡ first (grid_rows m g) → (c ≡ 0 → ⊥) → c ≡ first (front_rows m g r l)
  at_grid c e h = sym (front_is ∙ rw (← e, ne_eqb c 0 h) refl)

  module _ (grid : first (grid_rows m g) ≡ 0) where
    pub at_densities : (l.densities ≡ count (volume g) → ⊥) → 4 ≡ first (front_rows m g r l)
    at_densities h = sym (front_is ∙ rw (grid, ne_eqb _ _ h) refl)

    module _ (fit : l.densities ≡ count (volume g)) where
      pub at_ends : (c : ℕ) → c ≡ first (end_rows m r) → (c ≡ 0 → ⊥) → c ≡ first (front_rows m g r l)
      at_ends c e h = sym (front_is ∙ rw (grid, eq-eqb _ _ fit, ← e, ne_eqb c 0 h) refl)

      pub at_lists : first (end_rows m r) ≡ 0 → (l.voxels ≡ l.parts → ⊥) → 7 ≡ first (front_rows m g r l)
      at_lists e h = sym (front_is ∙ rw (grid, eq-eqb _ _ fit, e, ne_eqb _ _ h) refl)

  -- and 8 or 0, where none of them does
  pub by_room : first (front_rows m g r l) ≡ 0 → code_of m g r l ≡ cond room.applies 8 0
  by_room h = front_then ∙ then_on _ _ h

  pub no_room : first (front_rows m g r l) ≡ 0 → l.voxels < l.filled + length (list_of (volume g) r) → 8 ≡ code_of m g r l
  no_room h k = sym (by_room h ∙ rw (lt-ltb _ _ k) refl)

  -- no code from 1 to 7, and no code 8
  pub record Free : Type 0 where
    pub accepted : Accepted m g r l
    pub room : l.filled + length (list_of (volume g) r) ≤ l.voxels

  pub code_free : code_of m g r l ≡ 0 → Free
  code_free h =
      let s = then_none (first (front_rows m g r l)) _ (sym front_then ∙ h) in
      record { accepted = accepted s.0; room = ltb-false _ _ (row_off 8 room.applies 0 (omega arith) s.1).0 }

  pub free_code : Free → code_of m g r l ≡ 0
  free_code f = by_room (front_none f.accepted) ∙ rw (le-ltb l.voxels (l.filled + length (list_of (volume g) r)) f.room) refl
