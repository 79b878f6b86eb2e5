-- What stands beside a voxel in two lists; in a ray's list and its parts it is the voxel's part. Assumes nothing.
use Prim.Native.Nat.{ℕ, ◌≤◌, ◌<◌}
use mathlib.Core.Path.{◌≡◌, refl, sym, ap, ◌∙◌}
use mathlib.Core.Bool.{cond}
use mathlib.Core.List.Memᴰ
use mathlib.Core.List.{List, [], ◌∷◌, map, Memᴰ}
use mathlib.Core.Logic.{⊎_elim}
use native.Mathlib.Omega.{arith}
use native.Mathlib.Decide.{dec_lt, ℕ_discrete}
use lib.Dec.{eqb}
use borrow.Author.Tests.{eq-eqb, ne_eqb}
use Rattle.ray.specs.declared.Ray.{Ray}
use Rattle.ray.specs.Length.{Volume, count, part_of, list_of}
use Rattle.ray.proofs.Listing.{list_sound, list_whole}

-- the part that stands beside voxel w in two lists, 0 where it does not stand there
unfoldable pub share : ℕ → List ℕ → List ℕ → ℕ
share w [] ps = 0
share w (v ∷ vs) [] = 0
share w (v ∷ vs) (p ∷ ps) = cond (eqb w v) p (share w vs ps)

module _ (part : ℕ → ℕ) (w : ℕ) where
  share_in_lem : (vs : List ℕ) → Memᴰ w vs → share w vs (map part vs) ≡ part w
  unfolding share
  share_in_lem [] h = absurd (Memᴰ.not-nil h)
  share_in_lem (v ∷ vs) h = elim (ℕ_discrete w v) [
    | yes e ↦ rw (eq-eqb w v e) (ap part (sym e))
    | no e ↦ rw (ne_eqb w v e) (share_in_lem vs (⊎_elim (λ k. absurd (e k)) (λ k. k) (Memᴰ.cases_cons h)))
  ]

  share_out : (vs : List ℕ) → (Memᴰ w vs → ⊥) → share w vs (map part vs) ≡ 0
  unfolding share
  share_out [] h = refl
  share_out (v ∷ vs) h = rw (ne_eqb w v (λ e. h (Memᴰ.head e))) (share_out vs (λ k. h (Memᴰ.tail k)))

module _ (v : Volume) (r : Ray) (w : ℕ) where
  pub share_part : w < count v → share w (list_of v r) (map (part_of v r) (list_of v r)) ≡ part_of v r w
  share_part h = elim (dec_lt 0 (part_of v r w)) [
    | yes p ↦ share_in_lem (part_of v r) w (list_of v r) (list_whole v r w h p)
    | no p ↦ let none : part_of v r w ≡ 0 = omega arith in share_out (part_of v r) w (list_of v r) (λ k. p (list_sound v r w k).1) ∙ sym none
  ]

  pub share_none : count v ≤ w → share w (list_of v r) (map (part_of v r) (list_of v r)) ≡ 0
  share_none h = share_out (part_of v r) w (list_of v r) (λ k. let l = (list_sound v r w k).0 in omega arith)
