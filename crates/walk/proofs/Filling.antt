-- What a loop keeps that lists the entries and sums them up. Assumes nothing.
use Rattle.std.proofs.Common.{◌≡◌, ℕ, zero, suc, ◌+◌, ◌-◌, ◌*◌, ◌/◌, ◌%◌, ◌^◌, ◌<◌, ◌≤◌, min, List, [], ◌∷◌, ◌++◌, length, get_or, take, drop, set, sym, refl, ap, ◌∙◌, append_assoc, append-nil, mul-le-mul_left, add-one, arith, length-set, take-append-drop, drop-drop, take-suc-set, drop-set-lt, le-leb}
use native.Mathlib.Decide.{dec_le}
use lib.ListN.{length-map}
use borrow.Author.Tests.{lt-leb}
use Rattle.walk.specs.declared.steps.Walk.{Walk}
use Rattle.walk.specs.declared.steps.Strides.{Strides}
use Rattle.walk.specs.declared.entries.Tally.{Tally}
use Rattle.walk.specs.Model.{soonest, stepped, Entry, entry, voxels, parts, go, entries, planes_by, weight, Dense, tally_of, Forward, Filled}
use Rattle.walk.proofs.Turns.{step_tick, forward_on, entries_last, entries_more, few_entries}

-- ---- one list into which values xs are written: the first r of them so far, and ys still to come
pub record Writing (xs ys : List ℕ) (r : ℕ) (l l₀ : List ℕ) : Type 0 where
  pub front : xs ≡ take r l ++ ys
  pub back : drop r l ≡ drop r l₀
  pub size : length l ≡ length l₀
  pub room : length xs ≤ length l₀

none_written : {xs l : List ℕ} → length xs ≤ length l → Writing xs xs 0 l l
none_written h = record { front = refl; back = refl; size = refl; room = h }

take_set : (l : List ℕ) (r x : ℕ) → r < length l → take (r + 1) (set l r x) ≡ take r l ++ (x ∷ [])
take_set l r x h = rw add-one (take-suc-set l r x h)

one_written : {xs ys : List ℕ} {x r : ℕ} {l l₀ : List ℕ} → Writing xs (x ∷ ys) r l l₀ → r < length l → Writing xs ys (r + 1) (set l r x) l₀
one_written {ys = ys} {x = x} {r = r} {l = l} {l₀ = l₀} w h = record {
  front = w.front ∙ sym (append_assoc (take r l) (x ∷ []) ys) ∙ ap (λ (z : List ℕ). z ++ ys) (sym (take_set l r x h));
  back = drop-set-lt (r + 1) l r x (omega arith) ∙ sym (drop-drop 1 r l) ∙ ap (drop 1) w.back ∙ drop-drop 1 r l₀;
  size = length-set l r x ∙ w.size;
  room = w.room;
}

all_written : {xs : List ℕ} {r n : ℕ} {l l₀ : List ℕ} → Writing xs [] r l l₀ → n ≡ r → l ≡ xs ++ drop n l₀
all_written {r = r} {l = l} w e = sym (take-append-drop r l) ∙ rw (sym (w.front ∙ append-nil (take r l)), w.back, e) refl

-- ---- entries es of which the first r are listed and weighed, ys are still to come, and n planes were crossed before the last one listed
pub record Put (densities : List ℕ) (es ys : List Entry) (r n sum : ℕ) (vs ps vs₀ ps₀ : List ℕ) : Type 0 where
  pub voxels_so : Writing (voxels es) (voxels ys) r vs vs₀
  pub parts_so : Writing (parts es) (parts ys) r ps ps₀
  pub number : length es ≡ r + length ys
  pub planes : planes_by 0 es ≡ planes_by n ys
  pub sum_so : weight densities es ≡ sum + weight densities ys
  pub dense : Dense densities ys

pub many_voxels : (es : List Entry) → length (voxels es) ≡ length es
many_voxels es = length-map es (λ (e : Entry). e.voxel)

pub many_parts : (es : List Entry) → length (parts es) ≡ length es
many_parts es = length-map es (λ (e : Entry). e.part)

module _ {densities : List ℕ} {es : List Entry} where
  none_put : {vs ps : List ℕ} → Dense densities es → length es ≤ length vs → length es ≤ length ps → Put densities es es 0 0 0 vs ps vs ps
  none_put dense h k = record {
    voxels_so = none_written (omega (arith, many_voxels es));
    parts_so = none_written (omega (arith, many_parts es));
    number = omega arith;
    planes = refl;
    sum_so = omega arith;
    dense = dense;
  }

  module _ {r n sum : ℕ} {vs ps vs₀ ps₀ : List ℕ} where
    module _ {e : Entry} {ys : List Entry} (p : Put densities es (e ∷ ys) r n sum vs ps vs₀ ps₀) where
      room_v : r < length vs
      room_v = omega (arith, p.number, many_voxels es, p.voxels_so.room, p.voxels_so.size)

      room_p : r < length ps
      room_p = omega (arith, p.number, many_parts es, p.parts_so.room, p.parts_so.size)

      one_put : Put densities es ys (r + 1) e.planes (sum + e.part * get_or densities e.voxel 0) (set vs r e.voxel) (set ps r e.part) vs₀ ps₀
      one_put = record {
        voxels_so = one_written p.voxels_so room_v;
        parts_so = one_written p.parts_so room_p;
        number = omega (arith, p.number);
        planes = p.planes;
        sum_so = omega (arith, p.sum_so);
        dense = p.dense.1;
      }

    all_put : Put densities es [] r n sum vs ps vs₀ ps₀ → (◌≡◌ {A = Tally} (record { entries = r; crossed = n; sum = sum }) (tally_of densities es)) × Filled es vs ps vs₀ ps₀
    all_put p =
        let number : length es ≡ r = omega (arith, p.number) in
        let summed : sum ≡ weight densities es = omega (arith, p.sum_so) in (
          λ i. record { entries = sym number i; crossed = sym p.planes i; sum = summed i },
          record { voxels_now = all_written p.voxels_so number; parts_now = all_written p.parts_so number },
        )

-- ---- the sum fits: no density is over 65535, and the parts are the ticks of the walk
module _ (densities : List ℕ) (small : (v : ℕ) → get_or densities v 0 ≤ 65535) (s : Strides) (to : ℕ) where
  weight_by : (m : ℕ) (w : Walk) → Forward s to w → weight densities (go m s to w) ≤ (to - w.t) * 65535
  unfolding go
  weight_by zero w f = omega arith
  weight_by (suc m) w f = elim (dec_le to (soonest w)) [
    | yes e ↦ rw (le-leb to (soonest w) e) (omega (arith, mul-le-mul_left (to - w.t) (small (w.v % 2 ^ 32))))
    | no e ↦ rw (lt-leb to (soonest w) (omega arith)) (omega (arith, mul-le-mul_left (soonest w - w.t) (small (w.v % 2 ^ 32)), weight_by m (stepped s w) (forward_on f (omega arith)), step_tick s w, f.later))
  ]

  pub weight_most : (w : Walk) → Forward s to w → to ≤ 2 ^ 48 → weight densities (entries s to w) < 2 ^ 64
  weight_most w f few = omega (arith, weight_by (to - w.t) w f)

-- ---- the loop
pub record Filling (s : Strides) (to : ℕ) (densities : List ℕ) (es : List Entry) (w : Walk) (r sum : ℕ) (vs ps vs₀ ps₀ : List ℕ) : Type 0 where
  pub forward : Forward s to w
  pub crossed : ℕ
  pub put : Put densities es (entries s to w) r crossed sum vs ps vs₀ ps₀
  pub few : length es ≤ 2 ^ 60
  pub light : weight densities es < 2 ^ 64

pub none_filled : {s : Strides} {to : ℕ} {densities : List ℕ} {w : Walk} {vs ps : List ℕ} → ((v : ℕ) → get_or densities v 0 ≤ 65535) → Forward s to w → to ≤ 2 ^ 48
    → Dense densities (entries s to w) → length (entries s to w) ≤ length vs → length (entries s to w) ≤ length ps → Filling s to densities (entries s to w) w 0 0 vs ps vs ps
none_filled {s} {to} {densities} {w} small f few dense h k = record {
  forward = f;
  crossed = 0;
  put = none_put dense h k;
  few = few_entries f;
  light = weight_most densities small s to w f few;
}

module _ {s : Strides} {to : ℕ} {densities : List ℕ} {es : List Entry} {w : Walk} {r sum : ℕ} {vs ps vs₀ ps₀ : List ℕ}
    (g : Filling s to densities es w r sum vs ps vs₀ ps₀) (end : ℕ) (is : end ≡ min to (soonest w)) where
  abbrev this : Entry
  this = entry w end

  -- the entry of this turn, and the rest
  next_put : (ys : List Entry) × Put densities es (this ∷ ys) r g.crossed sum vs ps vs₀ ps₀
  next_put = elim (dec_le to (soonest w)) [
    | yes h ↦ let e : end ≡ to = omega arith in ([], rw (e, ← entries_last g.forward h) g.put)
    | no h ↦ let e : end ≡ soonest w = omega arith in (entries s to (stepped s w), rw (e, ← entries_more g.forward (omega arith)) g.put)
  ]

  pub index_v : r < length vs
  index_v = room_v next_put.1

  pub index_p : r < length ps
  index_p = room_p next_put.1

  pub counted_few : r < 2 ^ 60
  counted_few = omega (arith, next_put.1.number, g.few)

  pub in_densities : w.v % 2 ^ 32 < length densities
  in_densities = next_put.1.dense.0

  pub sum_fits : sum + (end - w.t) * get_or densities (w.v % 2 ^ 32) 0 < 2 ^ 64
  sum_fits = omega (arith, next_put.1.sum_so, g.light)

  pub last_filled : to ≤ soonest w
      → (◌≡◌ {A = Tally} (record { entries = r + 1; crossed = w.v / 2 ^ 32; sum = sum + (end - w.t) * get_or densities (w.v % 2 ^ 32) 0 }) (tally_of densities es))
      × Filled es (set vs r (w.v % 2 ^ 32)) (set ps r (end - w.t)) vs₀ ps₀
  last_filled h =
      let e : end ≡ to = omega arith in
      let p : Put densities es (this ∷ []) r g.crossed sum vs ps vs₀ ps₀ = rw (e, ← entries_last g.forward h) g.put in
      all_put (one_put p)

  pub one_filled : soonest w < to
      → Filling s to densities es (stepped s w) (r + 1) (sum + (end - w.t) * get_or densities (w.v % 2 ^ 32) 0) (set vs r (w.v % 2 ^ 32)) (set ps r (end - w.t)) vs₀ ps₀
  one_filled h =
      let e : end ≡ soonest w = omega arith in
      let p : Put densities es (this ∷ entries s to (stepped s w)) r g.crossed sum vs ps vs₀ ps₀ = rw (e, ← entries_more g.forward h) g.put in
      record {
        forward = forward_on g.forward h;
        crossed = w.v / 2 ^ 32;
        put = one_put p;
        few = g.few;
        light = g.light;
      }
