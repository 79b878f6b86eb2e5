-- What RULES 4 says of the numbers that a trace hands back, proved of ray's definitions, for every scene within the sizes:
-- the walk is in the proofs only. Assumes nothing.
use Rattle.std.proofs.Common.{◌≡◌, ℕ, ◌+◌, ◌≤◌, Bool, true, false, List, [], ◌∷◌, map, length, sym, refl, ap, ◌∙◌, arith}
use mathlib.Core.List.{sum, Memᴰ}
use lib.ListN.{length-map}
use Rattle.axis.proofs.Flag.{off_or_on}
use Rattle.ray.specs.declared.axes.Side.TheVariants.{X, Y, Z}
use Rattle.ray.specs.Length.{Volume, d_of, array, stop, part_of, misses, span_of, list_of, sum_of, crossed_of}
use Rattle.ray.specs.declared.Ray.{Ray}
use Rattle.ray.proofs.Total.{sum_list}
use Rattle.ray.proofs.Listing.{list_sound}
use Rattle.ray.proofs.Weighted.{sum_list_lem}
use Rattle.ray.proofs.Different.{crossed_at, different_of, crossed_since}
use Rattle.ray.proofs.FewAlphas.{different_few}
use Rattle.ray.proofs.After.{all_after}
use Rattle.line.specs.Scene.{Scene}
use Rattle.line.specs.Scene.{volume_of, ray_of, Able}
use Rattle.walk.specs.Model.{Entry, entries}
use Rattle.walk.proofs.Found.{found_list, found_parts, found_total}
use Rattle.walk.proofs.SetOut.{SetOut, set_out, few_planes}
use Rattle.walk.proofs.Walking.{part_hits}
use Rattle.walk.proofs.Alphas.{found_alphas}

either_way : {P : Type 0} (b : Bool) → (b ≡ false → P) → (b ≡ true → P) → P
either_way false f t = f refl
either_way true f t = t refl

no_members : (xs : List ℕ) → ((m : ℕ) → Memᴰ m xs → ⊥) → xs ≡ []
no_members [] none = refl
no_members (x ∷ xs) none = absurd (none x (Memᴰ.head refl))

module _ (s : Scene) (able : Able s) where
  abbrev v : Volume
  v = volume_of s

  abbrev r : Ray
  r = ray_of s

  -- RULES 5: the numbers of a miss
  pub missed_list : misses v r ≡ true → list_of v r ≡ []
  missed_list missed = no_members (list_of v r) (λ m h. let k = list_sound v r m h in off_or_on (misses v r) missed (part_hits s m k.0 k.1))

  pub missed_sum : (densities : List ℕ) → misses v r ≡ true → sum_of v r densities ≡ 0
  unfolding sum
  missed_sum densities missed = sum_list_lem v r densities ∙ rw (missed_list missed) refl

  -- RULES 4: all parts together make the span
  pub parts_span : sum_list (map (part_of v r) (list_of v r)) ≡ span_of v r
  unfolding sum span_of
  parts_span = either_way (misses v r) on_hit (λ missed. rw (missed_list missed, missed) refl)
    where
      on_hit : misses v r ≡ false → sum_list (map (part_of v r) (list_of v r)) ≡ span_of v r
      on_hit hit =
          let o : SetOut s = set_out able hit in
          ap (λ (vs : List ℕ). sum_list (map (part_of v r) vs)) (sym (found_list able o.pace o.on o.ahead o.tick))
          ∙ ap sum_list (sym (found_parts able o.pace o.on o.ahead))
          ∙ found_total able o.pace o.on o.ahead
          ∙ rw (o.tick, hit) refl

  -- RULES 4: entries by the different α of the planes crossed
  pub entries_alphas : misses v r ≡ false → length (list_of v r) ≡ 1 + different_of v r
  unfolding different_of
  entries_alphas hit =
      let o : SetOut s = set_out able hit in
      ap length (sym (found_list able o.pace o.on o.ahead o.tick))
      ∙ length-map (entries o.strides (stop r (array v)) o.walk) (λ (e : Entry). e.voxel)
      ∙ found_alphas able o.pace o.on o.ahead
      ∙ ap (λ (n : ℕ). 1 + n) (all_after (crossed_at v r) (d_of r) o.walk.t (λ x h. crossed_since v r x (omega (arith, o.tick))))

  -- each of those α is that of a plane crossed, some of several
  pub entries_crossed : length (list_of v r) ≤ 1 + crossed_of v r
  entries_crossed = either_way (misses v r) (λ hit. omega (arith, entries_alphas hit, different_few v r hit)) (λ missed. rw (missed_list missed) (omega arith))

  -- from the first voxel of an axis to its last there are fewer planes than voxels
  pub crossed_few : crossed_of v r + 3 ≤ (v X).n + (v Y).n + (v Z).n
  unfolding crossed_of
  crossed_few =
      either_way (misses v r) (few_planes able) (λ missed. rw missed (omega (arith, (able.sized X).some, (able.sized Y).some, (able.sized Z).some)))

  -- RULES 4: the most entries there are
  pub entries_few : length (list_of v r) + 2 ≤ (v X).n + (v Y).n + (v Z).n
  entries_few = omega (arith, entries_crossed, crossed_few)
