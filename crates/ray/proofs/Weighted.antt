-- The weighted sum over all voxels is the sum over the list. Assumes nothing.
use Prim.Native.Nat.{ℕ, zero, suc, ◌+◌, ◌*◌, ◌<◌}
use mathlib.Core.Path.{◌≡◌, refl, ap}
use mathlib.Core.List.{List, [], ◌∷◌, map, sum, Memᴰ}
use native.Mathlib.Omega.{arith}
use native.Mathlib.Decide.{dec_lt}
use native.Mathlib.Nat.{zero-mul}
use lib.Dec.{ltb}
use lib.ListN.{get_or}
use borrow.Author.Tests.{lt-ltb, le-ltb}
use Rattle.ray.specs.declared.Ray.{Ray}
use Rattle.ray.specs.Length.{Volume, count, part_of, insert, list_to, list_of, total, sum_of}
use Rattle.ray.proofs.Total.{total_same, sum_list}
use Rattle.ray.proofs.Insert.{either}
use Rattle.ray.proofs.Listing.{starts, list_whole}

insert_sum : (key f : ℕ → ℕ) (m : ℕ) (ws : List ℕ) → sum_list (map f (insert key m ws)) ≡ f m + sum_list (map f ws)
unfolding sum insert
insert_sum key f m [] = refl
insert_sum key f m (w ∷ ws) =
    either (ltb (key m) (key w)) _ _ (λ (l : List ℕ). sum_list (map f l) ≡ f m + (f w + sum_list (map f ws))) refl (omega (arith, insert_sum key f m ws))

module _ (v : Volume) (r : Ray) where
  list_to_total : (f : ℕ → ℕ) (n : ℕ) → ((m : ℕ) → m < n → part_of v r m ≡ 0 → f m ≡ 0) → total f n ≡ sum_list (map f (list_to v r n))
  unfolding sum total list_to
  list_to_total f zero zeros = refl
  list_to_total f (suc n) zeros =
      let before : total f n ≡ sum_list (map f (list_to v r n)) = list_to_total f n (λ m i. zeros m (omega arith)) in
      elim (dec_lt 0 (part_of v r n)) [
        | yes p ↦ rw (lt-ltb 0 (part_of v r n) p) (omega (arith, before, insert_sum (starts v r) f n (list_to v r n)))
        | no p ↦ rw (le-ltb 0 (part_of v r n) (omega arith)) (omega (arith, before, zeros n (omega arith) (omega arith)))
      ]

  pub sum_list_lem : (densities : List ℕ) → sum_of v r densities ≡ sum_list (map (λ m. part_of v r m * get_or densities m 0) (list_of v r))
  unfolding sum_of list_of
  sum_list_lem densities = list_to_total (λ m. part_of v r m * get_or densities m 0) (count v) (λ m i e. rw (e, zero-mul) refl)

  -- RULES 5: a density outside the list has no say.
  pub sum_outside : (densities others : List ℕ) → ((m : ℕ) → Memᴰ m (list_of v r) → get_or densities m 0 ≡ get_or others m 0) → sum_of v r densities ≡ sum_of v r others
  unfolding sum_of
  sum_outside densities others agree = total_same _ _ (count v) (λ m i. elim (dec_lt 0 (part_of v r m)) [
    | yes p ↦ ap (λ (x : ℕ). part_of v r m * x) (agree m (list_whole v r m i p))
    | no p ↦ let e : part_of v r m ≡ 0 = omega arith in rw (e, zero-mul (get_or densities m 0), zero-mul (get_or others m 0)) refl
  ])
