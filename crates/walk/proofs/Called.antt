-- What the one call of the walk comes to, from what it finds on the way. Assumes nothing.
use Rattle.std.proofs.Common.{◌≡◌, ℕ, ◌+◌, ◌-◌, ◌*◌, ◌^◌, ◌<◌, ◌≤◌, Bool, true, false, cond, leb, List, [], ◌∷◌, map, length, get_or, drop, sym, refl, ap, ◌∙◌, subst, ap₂, le_trans, arith, le-leb}
use mathlib.Core.List.{sum, Memᴰ}
use borrow.Author.Tests.{not-true, not-false, lt-leb}
use Rattle.ray.specs.declared.Ray.{Ray}
use Rattle.ray.specs.Length.{Volume, count, d_of, squared_of, misses, span_of, part_of, list_of, sum_of, crossed_of}
use Rattle.ray.proofs.Total.{sum_list}
use Rattle.ray.proofs.Listing.{list_sound}
use Rattle.ray.proofs.Weighted.{sum_list_lem}
use Rattle.line.specs.Scene.{Scene}
use Rattle.line.specs.Scene.{volume_of, ray_of, Able}
use Rattle.walk.specs.declared.plan.Frame.{Frame}
use Rattle.walk.specs.declared.plan.Plan.{Plan}
use Rattle.walk.specs.declared.call.Walked.{Walked}
use Rattle.walk.specs.declared.entries.Tally.{Tally}
use Rattle.walk.specs.Model.{Entry, voxels, parts, entries, weight, Dense, tally_of, Filled}
use Rattle.walk.specs.Plan.{Framed, Planned}
use Rattle.walk.specs.Walked.{walked_of, Fitted, Entered}
use Rattle.walk.proofs.Filling.{many_voxels, many_parts}
use Rattle.walk.proofs.Walking.{cut_le}
use Rattle.walk.proofs.Plans.{proper}
use Rattle.walk.proofs.Counts.{entries_few, missed_list, missed_sum}

module _ (es : List Entry) (room : ℕ) where
  -- with room, and without
  pub roomy : {densities vs ps vs₀ ps₀ : List ℕ} {t : Tally} → length es ≤ room → t ≡ tally_of densities es → Filled es vs ps vs₀ ps₀ → Entered densities es room t vs ps vs₀ ps₀
  roomy h e f = record {
    tally_is = e ∙ rw (le-leb (length es) room h) refl;
    voxels_now = f.voxels_now ∙ rw (many_voxels es, le-leb (length es) room h) refl;
    parts_now = f.parts_now ∙ rw (many_parts es, le-leb (length es) room h) refl;
  }

  pub cramped : {densities vs₀ ps₀ : List ℕ} {n : ℕ} → n ≡ length es → room < n → Entered densities es room (record { entries = n; crossed = 0; sum = 0 }) vs₀ ps₀ vs₀ ps₀
  cramped number h =
      let short : leb (length es) room ≡ false = lt-leb (length es) room (omega arith) in
      record { tally_is = rw (number, short) refl; voxels_now = rw (many_voxels es, short) refl; parts_now = rw (many_parts es, short) refl }

-- the weighted sum by the parts of the voxels
weigh_list : (part : ℕ → ℕ) (densities : List ℕ) (es : List Entry) → parts es ≡ map part (voxels es) → weight densities es ≡ sum_list (map (λ m. part m * get_or densities m 0) (voxels es))
unfolding sum
weigh_list part densities [] e = refl
weigh_list part densities (x ∷ es) e =
    ap₂ (λ (p s : ℕ). p * get_or densities x.voxel 0 + s) (ap (λ (ps : List ℕ). get_or ps 0 0) e) (weigh_list part densities es (ap (drop 1) e))

-- what is told with room, and without
by_room : (b : Bool) {t : Tally} (n crossed sum : ℕ) {span d squared : ℕ} → t ≡ cond b (record { entries = n; crossed = crossed; sum = sum }) (record { entries = n; crossed = 0; sum = 0 })
    → ◌≡◌ {A = Walked} (record { entries = t.entries; crossed = t.crossed; span = span; denominator = d; squared = squared; sum = t.sum })
    (record { entries = n; crossed = cond b crossed 0; span = span; denominator = d; squared = squared; sum = cond b sum 0 })
by_room true n crossed sum e = rw e refl
by_room false n crossed sum e = rw e refl

module _ {s : Scene} (able : Able s) {f : Frame} (framed : Framed s f) where
  abbrev v : Volume
  v = volume_of s

  abbrev r : Ray
  r = ray_of s

  -- the walk ends with the ray
  pub until_few : d_of r ≤ 2 ^ 48 → f.to ≤ 2 ^ 48
  until_few h = rw framed.to_is (le_trans (cut_le (d_of r) _) h)

  module _ (hit : f.hit ≡ true) {p : Plan} (planned : Planned s f.to p) where
    abbrev es : List Entry
    es = entries p.strides f.to p.walk

    pub from_to : f.from ≤ f.to
    from_to = let k = proper able framed hit in omega arith

    span_is : f.to - f.from ≡ span_of v r
    unfolding span_of
    span_is = rw (framed.to_is, framed.from_is, not-true (misses v r) (sym framed.hit_is ∙ hit)) refl

    pub number : length es ≡ length (list_of v r)
    number = sym (many_voxels es) ∙ ap length planned.voxels_are

    pub few : length es + 2 ≤ s.x.n + s.y.n + s.z.n
    few = omega (arith, number, entries_few s able)

    -- every voxel listed has a density
    pub dense : (densities : List ℕ) → length densities ≡ count v → Dense densities es
    dense densities l = all_dense es (λ m h. omega (arith, l, (list_sound v r m (subst (Memᴰ m) planned.voxels_are h)).0))
      where
        all_dense : (es : List Entry) → ((m : ℕ) → Memᴰ m (voxels es) → m < length densities) → Dense densities es
        all_dense [] h = tt
        all_dense (e ∷ es) h = (h e.voxel (Memᴰ.head refl), all_dense es (λ m k. h m (Memᴰ.tail k)))

    weight_is : (densities : List ℕ) → weight densities es ≡ sum_of v r densities
    weight_is densities =
        weigh_list (part_of v r) densities es (planned.parts_are ∙ ap (map (part_of v r)) (sym planned.voxels_are))
        ∙ ap (λ (vs : List ℕ). sum_list (map (λ m. part_of v r m * get_or densities m 0) vs)) planned.voxels_are
        ∙ sym (sum_list_lem v r densities)

    pub hit_walked : {densities vs ps vs₀ ps₀ : List ℕ} {room : ℕ} (t : Tally) (squared : ℕ) → Entered densities es room t vs ps vs₀ ps₀ → squared ≡ squared_of r
        → (◌≡◌ {A = Walked} (record { entries = t.entries; crossed = t.crossed; span = f.to - f.from; denominator = f.denominator; squared = squared; sum = t.sum }) (walked_of v r densities room))
        × Fitted v r room vs ps vs₀ ps₀
    hit_walked {densities} {room = room} t squared e k = (
      by_room (leb (length es) room) _ _ _ e.tally_is ∙ rw (number, planned.crossed_is, weight_is densities, span_is, framed.denominator_is, k) refl,
      record { voxels_now = rw planned.voxels_are at e.voxels_now; parts_now = rw planned.parts_are at e.parts_now },
    )

  module _ (miss : f.hit ≡ false) where
    missed : misses v r ≡ true
    missed = not-false _ (sym framed.hit_is ∙ miss)

    pub miss_walked : (densities : List ℕ) (room : ℕ) {vs ps : List ℕ} (squared : ℕ) → squared ≡ squared_of r
        → (◌≡◌ {A = Walked} (record { entries = 0; crossed = 0; span = 0; denominator = f.denominator; squared = squared; sum = 0 }) (walked_of v r densities room)) × Fitted v r room vs ps vs ps
    unfolding span_of crossed_of
    miss_walked densities room squared k =
        let none : leb 0 room ≡ true = le-leb 0 room (omega arith) in (
          rw (framed.denominator_is, k, missed_list s able missed, missed_sum s able densities missed, missed, none) refl,
          record { voxels_now = rw (missed_list s able missed, none) refl; parts_now = rw (missed_list s able missed, none) refl },
        )
