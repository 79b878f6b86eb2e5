-- The list of the voxels with a part above zero, in the order of their starts: it is determined by that, it is found tick by
-- tick, and `list_of` is it. Assumes nothing.
use Prim.Native.Nat.{ℕ, zero, suc, ◌≤◌, ◌<◌}
use mathlib.Core.Path.{◌≡◌, refl, sym, ap, subst}
use mathlib.Core.List.{List, [], ◌∷◌, ◌++◌, map, map-append, Memᴰ}
use mathlib.Core.Logic.{⊎_elim}
use native.Mathlib.Omega.{arith}
use native.Mathlib.Decide.{dec_lt}
use lib.Dec.{ltb}
use borrow.Author.Tests.{lt-ltb, le-ltb}
use Rattle.ray.specs.declared.Ray.{Ray}
use Rattle.ray.specs.Length.{Volume, count, voxel, start, part_of, insert, list_to, list_of}
use Rattle.ray.proofs.Rising.{Rising, same_rising, rising_snoc}
use Rattle.ray.proofs.Insert.{either, insert_new, insert_old, insert_cases, insert_rising}

pub record Listed (starts part : ℕ → ℕ) (count : ℕ) (vs : List ℕ) : Type 0 where
  pub sound : (m : ℕ) → Memᴰ m vs → (m < count) × (0 < part m)
  pub whole : (m : ℕ) → m < count → 0 < part m → Memᴰ m vs
  pub rising : Rising starts vs

-- the voxels that start before the tick t
pub record SoFar (starts part : ℕ → ℕ) (count t : ℕ) (vs : List ℕ) : Type 0 where
  pub sound : (m : ℕ) → Memᴰ m vs → (m < count) × (0 < part m) × (starts m < t)
  pub whole : (m : ℕ) → m < count → 0 < part m → starts m < t → Memᴰ m vs
  pub rising : Rising starts vs

-- no two voxels with a part start at once
abbrev pub Apart : (ℕ → ℕ) → (ℕ → ℕ) → ℕ → Type 0
Apart starts part count = (m w : ℕ) → m < count → w < count → 0 < part m → 0 < part w → starts m ≡ starts w → m ≡ w

module _ {starts part : ℕ → ℕ} {count : ℕ} where
  pub none_yet : {t : ℕ} → ((m : ℕ) → m < count → 0 < part m → t ≤ starts m) → SoFar starts part count t []
  none_yet h = record {
    sound = λ m k. absurd (mathlib.Core.List.Memᴰ.not-nil k);
    whole = λ m i p s. absurd (omega (arith, h m i p));
    rising = tt;
  }

  pub all_found : {t : ℕ} {vs : List ℕ} → ((m : ℕ) → m < count → 0 < part m → starts m < t) → SoFar starts part count t vs → Listed starts part count vs
  all_found h l = record {
    sound = λ m k. ((l.sound m k).0, (l.sound m k).1);
    whole = λ m i p. l.whole m i p (h m i p);
    rising = l.rising;
  }

  -- v alone starts at t or later and before u
  pub one_more : {t u v : ℕ} {vs : List ℕ} → SoFar starts part count t vs → v < count → 0 < part v → t ≤ starts v → starts v < u
      → ((m : ℕ) → m < count → 0 < part m → t ≤ starts m → starts m < u → m ≡ v)
      → SoFar starts part count u (vs ++ (v ∷ []))
  one_more {t} {u} {v} {vs} l i p s before only = record {
    sound = λ m h. ⊎_elim (λ k. ((l.sound m k).0, (l.sound m k).1, omega (arith, (l.sound m k).2)))
        (λ k. subst (λ (w : ℕ). (w < count) × (0 < part w) × (starts w < u)) (sym (mathlib.Core.List.Memᴰ.eq_of_singleton k)) (i, p, before))
        (mathlib.Core.List.Memᴰ.append_cases vs h);
    whole = λ m j q r. elim (dec_lt (starts m) t) [
      | yes h ↦ mathlib.Core.List.Memᴰ.append_left (v ∷ []) (l.whole m j q h)
      | no h ↦ mathlib.Core.List.Memᴰ.append_right vs (mathlib.Core.List.Memᴰ.head (only m j q (omega arith) r))
    ];
    rising = rising_snoc starts vs v l.rising (λ m h. omega (arith, (l.sound m h).2));
  }

pub map_snoc : (f : ℕ → ℕ) (vs : List ℕ) (v : ℕ) → map f (vs ++ (v ∷ [])) ≡ map f vs ++ (f v ∷ [])
map_snoc f vs v = rw map-append refl

module _ (v : Volume) (r : Ray) where
  abbrev pub starts : ℕ → ℕ
  starts m = start r (voxel v m)

  -- a voxel that the ray meets
  abbrev pub Has : ℕ → Type 0
  Has m = (m < count v) × (0 < part_of v r m)

  list_to_sound : (n m : ℕ) → Memᴰ m (list_to v r n) → (m < n) × (0 < part_of v r m)
  unfolding list_to
  list_to_sound zero m h = absurd (mathlib.Core.List.Memᴰ.not-nil h)
  list_to_sound (suc n) m h =
      let below : Memᴰ m (list_to v r n) → (m < suc n) × (0 < part_of v r m) = λ k. let s = list_to_sound n m k in (omega arith, s.1) in
      elim (dec_lt 0 (part_of v r n)) [
        | yes p ↦ ⊎_elim (λ e. (omega arith, omega (arith, ap (part_of v r) e))) below (insert_cases starts n (list_to v r n) m (rw (lt-ltb 0 (part_of v r n) p) at h))
        | no p ↦ below (rw (le-ltb 0 (part_of v r n) (omega arith)) at h)
      ]

  list_to_whole : (n m : ℕ) → m < n → 0 < part_of v r m → Memᴰ m (list_to v r n)
  unfolding list_to
  list_to_whole zero m i p = absurd (omega arith)
  list_to_whole (suc n) m i p = elim (dec_lt m n) [
    | yes h ↦ either (ltb 0 (part_of v r n)) _ _ (Memᴰ m) (insert_old starts n (list_to v r n) m (list_to_whole n m h p)) (list_to_whole n m h p)
    | no h ↦ let e : n ≡ m = omega arith in
        rw (lt-ltb 0 (part_of v r n) (omega (arith, ap (part_of v r) e))) (subst (λ (x : ℕ). Memᴰ x (insert starts n (list_to v r n))) e (insert_new starts n (list_to v r n)))
  ]

  list_to_rising : (n : ℕ) → Apart starts (part_of v r) n → Rising starts (list_to v r n)
  unfolding list_to
  list_to_rising zero apart = tt
  list_to_rising (suc n) apart =
      let l : Rising starts (list_to v r n) = list_to_rising n (λ m w i j. apart m w (omega arith) (omega arith)) in
      elim (dec_lt 0 (part_of v r n)) [
        | yes p ↦ rw (lt-ltb 0 (part_of v r n) p) (insert_rising starts n (list_to v r n)
            (λ w h e. let s = list_to_sound n w h in let same : n ≡ w = apart n w (omega arith) (omega arith) p s.1 e in omega arith) l)
        | no p ↦ rw (le-ltb 0 (part_of v r n) (omega arith)) l
      ]

  -- members have a part, and whatever has one is a member, also where two start at once
  pub list_sound : (m : ℕ) → Memᴰ m (list_of v r) → Has m
  unfolding list_of
  list_sound = list_to_sound (count v)

  pub list_whole : (m : ℕ) → m < count v → 0 < part_of v r m → Memᴰ m (list_of v r)
  unfolding list_of
  list_whole = list_to_whole (count v)

  module _ (apart : Apart starts (part_of v r) (count v)) where
    pub list_listed : Listed starts (part_of v r) (count v) (list_of v r)
    unfolding list_of
    list_listed = record { sound = list_sound; whole = list_whole; rising = list_to_rising (count v) apart }

    pub list_is : (vs : List ℕ) → Listed starts (part_of v r) (count v) vs → vs ≡ list_of v r
    list_is vs l =
        let k = list_listed in
        same_rising starts vs (list_of v r) l.rising k.rising (λ m h. k.whole m (l.sound m h).0 (l.sound m h).1) (λ m h. l.whole m (k.sound m h).0 (k.sound m h).1)
