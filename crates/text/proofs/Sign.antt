-- An integer is a natural number behind its sign: what the reader of integers makes of what it read. Assumes nothing.
use Prim.Native.Nat.{ℕ, zero, suc, ◌≤◌, ◌<◌}
use mathlib.Core.Bool.{Bool, true, false, ◌&&◌}
use mathlib.Core.List.{List, [], ◌∷◌}
use Rattle.std.specs.Prelude.{None, Some, option_map}
use mathlib.Core.Path.{◌≡◌, refl, ap, sym, ◌∙◌}
use native.Mathlib.Omega.{arith}
use lib.Dec.{eqb}
use lib.IntN.{pos, neg_ℤ, ◌-ℤ◌, +ℤ_idl}
use lib.ListN.{take, drop}
use lib.Pointwise.{pointwise}
use lib.Signed.{mag}
use mir.Syntax.{w32}
use mir.Val.{to_z, of_z, SFits}
use mir.ValLaws.{to_z-of_z, to_z_pos}
use Rattle.text.specs.Number.{natural_of, has_minus, negative, integer_of}
use Rattle.text.proofs.Numeral.{natural_small}

andb_true : (b : Bool) → b && true ≡ b
andb_true true = refl
andb_true false = refl

-- what the code tests
begins : (t : List ℕ) → pointwise eqb (take 1 t) (45 ∷ []) ≡ has_minus t
unfolding has_minus
begins [] = refl
begins (d ∷ ds) = andb_true (eqb d 45)

negative_some : (v : ℕ) → (v ≡ 0 → ⊥) → Some (neg_ℤ (pos v)) ≡ negative (Some v)
negative_some zero h = absurd (h refl)
negative_some (suc v) h = refl

mag_neg : (v : ℕ) → mag (neg_ℤ (pos v)) ≤ v
mag_neg zero = omega arith
mag_neg (suc v) = omega arith

-- six digits fit 32 bits with a sign
module _ (t : List ℕ) {v : ℕ} (read : Some v ≡ natural_of t) where
  small : v < 1000000
  small = natural_small t (sym read)

  pub fits : SFits w32 (pos v)
  fits = record { sfits = omega (arith, small) }

  as_pos : to_z w32 v ≡ pos v
  as_pos = to_z_pos w32 v (omega (arith, small))

  negated : pos 0 -ℤ to_z w32 v ≡ neg_ℤ (pos v)
  negated = rw as_pos (+ℤ_idl (neg_ℤ (pos v)))

  pub negated_fits : SFits w32 (pos 0 -ℤ to_z w32 v)
  negated_fits = rw negated (record { sfits = omega (arith, mag_neg v, small) })

  negated_read : (v ≡ 0 → ⊥) → Some (to_z w32 (of_z w32 (pos 0 -ℤ to_z w32 v))) ≡ negative (Some v)
  negated_read h = ap Some (to_z-of_z w32 (pos 0 -ℤ to_z w32 v) negated_fits ∙ negated) ∙ negative_some v h

-- what the reader of integers answers where there is no minus, by what was read
module _ (t : List ℕ) (m : pointwise eqb (take 1 t) (45 ∷ []) ≡ false) where
  plain : integer_of t ≡ option_map pos (natural_of t)
  unfolding integer_of
  plain = rw (sym (begins t) ∙ m) refl

  pub plain_none : None ≡ natural_of t → None ≡ integer_of t
  plain_none e = sym (plain ∙ ap (option_map pos) (sym e))

  pub plain_some : {v : ℕ} → Some v ≡ natural_of t → Some (to_z w32 v) ≡ integer_of t
  plain_some e = ap Some (as_pos t e) ∙ sym (plain ∙ ap (option_map pos) (sym e))

-- and behind a minus
module _ (t : List ℕ) (m : pointwise eqb (take 1 t) (45 ∷ []) ≡ true) where
  minus : integer_of t ≡ negative (natural_of (drop 1 t))
  unfolding integer_of
  minus = rw (sym (begins t) ∙ m) refl

  pub minus_none : None ≡ natural_of (drop 1 t) → None ≡ integer_of t
  minus_none e = sym (minus ∙ ap negative (sym e))

  pub minus_zero : Some 0 ≡ natural_of (drop 1 t) → None ≡ integer_of t
  minus_zero e = sym (minus ∙ ap negative (sym e))

  pub minus_some : {v : ℕ} → Some v ≡ natural_of (drop 1 t) → (v ≡ 0 → ⊥) → Some (to_z w32 (of_z w32 (pos 0 -ℤ to_z w32 v))) ≡ integer_of t
  minus_some e h = negated_read (drop 1 t) e h ∙ sym (minus ∙ ap negative (sym e))

-- what reads a numeral with a sign
pub ruleset reads = (fits, negated_fits, plain_none, plain_some, minus_none, minus_zero, minus_some)
