-- From what the place answers to what its entry point promises. Assumes nothing.
use Prim.Native.Nat.{ℕ}
use mathlib.Core.Path.{◌≡◌, refl, sym, ap, ◌∙◌}
use mathlib.Core.List.{List, [], ◌∷◌, ◌++◌}
use lib.Ieee.{Float}
use lib.ListN.{length}
use borrow.Author.Tests.{ne_eqb}
use Rattle.axis.specs.declared.Limits.{Limits}
use Rattle.axis.specs.Codes.{first}
use Rattle.axis.proofs.Table.{then, then_stop, then_on, joined}
use Rattle.ray.specs.Axes.{Grid}
use Rattle.ray.specs.declared.Ray.{Ray}
use Rattle.ray.specs.Codes.{grid_rows, end_rows}
use Rattle.place.specs.declared.Place.{Place}
use Rattle.place.specs.declared.Place.TheVariants.{Refused}
use Rattle.place.specs.Answers.{refusal_of, place_of, told}
use Rattle.place.proofs.Told.{code_told, refused_some}
use Rattle.ilvoresta.specs.Entry.{length_row, place_code, after, Placed}

in_turn : (m : Limits) (g : Grid) (r : Ray) (n : ℕ) → place_code m g r n ≡ then (refusal_of m g r) (first (length_row 2 n))
in_turn m g r n = joined (grid_rows m g ++ end_rows m r) (length_row 2 n) refl

module _ {m : Limits} {g : Grid} {r : Ray} {ans : List Float} where
  pub unplaced : (c : ℕ) → Refused c ≡ place_of m g r → Placed m g r ans c ans
  unplaced c e =
      let some = refused_some m g r c e in
      record { code_is = sym (in_turn m g r (length ans) ∙ rw (← code_told m g r (Refused c) e) (then_stop c _ some)); answer_now = rw (ne_eqb c 0 some) refl }

  -- a place that is not refused: the length of the list is all that is left
  pub placed : (a : Place) {c : ℕ} {ans' : List Float} → (told a).code ≡ 0 → a ≡ place_of m g r → c ≡ first (length_row 2 (length ans))
      → ans' ≡ after c ((told a).enter ∷ (told a).leave ∷ []) ans → Placed m g r ans c ans'
  placed a {c} none e k l = record {
    code_is = k ∙ sym (in_turn m g r (length ans) ∙ then_on _ _ (sym (code_told m g r a e) ∙ none));
    answer_now = l ∙ ap (λ (x : Place). after c ((told x).enter ∷ (told x).leave ∷ []) ans) e;
  }
