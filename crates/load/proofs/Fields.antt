-- The numbers of a line as they are read: all of them or none. Assumes nothing.
use Prim.Native.Nat.{ℕ, zero, suc, ◌≤◌, ◌<◌}
use mathlib.Core.List.{List, [], ◌∷◌}
use mathlib.Core.Path.{◌≡◌, refl, sym, ◌∙◌}
use Rattle.std.specs.Prelude.{⊤, Option, None, Some, Ok}
use Rattle.std.specs.Option.{ok_or}
use lib.IntN.{ℤ, pos}
use lib.ListN.{length, get_or, take, drop}
use lib.Seq.{length-take-le, get_or-take}
use native.Mathlib.Omega.{arith}
use mir.Syntax.{w32}
use mir.Val.{to_z, of_z}
use Rattle.text.specs.Number.{natural_of, integer_of}
use Rattle.text.specs.Numbers.{natural_to, every, told}
use Rattle.text.proofs.Numeral.{natural_small}
use Rattle.text.proofs.Every.{to_good, to_bad, to_within, every_holds}
use Rattle.load.specs.Numbers.{grid_in, dens_in}

-- a number of a list that is stored in 32 bits reads back as it is
abbrev pub Plain : List ℤ → ℕ → Type 0
Plain vs i = to_z w32 (of_z w32 (get_or vs i (pos 0))) ≡ get_or vs i (pos 0)

-- what is told where there is an answer
pub row_read : {A E : Type 0} (r : Option ⊤) {vs : List A} {o : Option (List A)} (e : E) {u : ⊤} → told r vs ≡ o → ok_or r e ≡ Ok u → o ≡ Some vs
row_read (Some v) e t f = sym t
row_read None e t f = cc

-- a row read into the first n places of a list: n fields, and n numbers
pub row_in : {A : Type 0} (read : List ℕ → Option A) (fs : List (List ℕ)) (n : ℕ) (old : List A) {vs : List A} → n ≤ length old → length vs ≡ length (take n old)
    → every read (length (take n old)) fs ≡ Some vs → (length vs ≡ n) × (every read n fs ≡ Some vs)
row_in read fs n old h e told_is = let all = length-take-le n old h in (e ∙ all, rw all at told_is)

-- six digits are at most 999999
one_number : (t : List ℕ) (o : Option ℕ) → natural_of t ≡ o → natural_to 999999 t ≡ o
one_number t None e = to_bad 999999 t e
one_number t (Some v) e = to_good 999999 t e (omega (arith, natural_small t e))

pub six_digits : (n : ℕ) (fields : List (List ℕ)) → every (natural_to 999999) n fields ≡ every natural_of n fields
unfolding every
six_digits zero fields = refl
six_digits (suc n) [] = refl
six_digits (suc n) (f ∷ fs) = rw (one_number f (natural_of f) refl, six_digits n fs) refl

-- a density fits 16 bits
pub few_bits : (n : ℕ) (fields : List (List ℕ)) (row : List ℕ) → dens_in n fields ≡ Some (take n row) → (i : ℕ) → i < n → get_or row i 0 ≤ 65535
few_bits n fields row e i h =
    rw (get_or-take n row i 0) at (every_holds (natural_to 65535) (λ v. v ≤ 65535) 0 (λ t v. to_within 65535 t) n (drop 1 fields) e i h)

-- the sizes are read, but not the first planes
pub grid_bad_plane : (fields : List (List ℕ)) {ns : List ℕ} → every natural_of 6 (drop 1 fields) ≡ Some ns → every integer_of 3 (drop 7 fields) ≡ None → None ≡ grid_in fields
grid_bad_plane fields e f = rw (e, f) refl
