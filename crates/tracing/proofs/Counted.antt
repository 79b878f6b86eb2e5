-- What RULES 3 and 4 say of the numbers that a trace hands back, for every grid and ends that are accepted, at any limits that are
-- small enough. Assumes nothing.
use Prim.Native.Nat.{ℕ, ◌+◌, ◌-◌, ◌*◌, ◌^◌, ◌≤◌, ◌<◌}
use mathlib.Core.Path.{◌≡◌, refl, sym, ap, ◌∙◌}
use mathlib.Core.Bool.{Bool, true, false, cond}
use mathlib.Core.List.{List, [], ◌∷◌, map, sum}
use native.Mathlib.Omega.{arith}
use native.Mathlib.Nat.{mul-le-mul_left, add-mul}
use lib.IntN.{pos}
use lib.ListN.{length, get_or}
use Rattle.axis.specs.declared.Limits.{Limits}
use Rattle.axis.specs.Codes.{first}
use Rattle.ray.specs.Axes.{Grid}
use Rattle.ray.specs.declared.Ray.{Ray}
use Rattle.ray.specs.Length.{Volume, volume, d_of, array, start, stop, part_of, misses, span_of, list_of, sum_of, crossed_of}
use Rattle.ray.specs.Codes.{grid_rows, end_rows}
use Rattle.ray.proofs.Total.{sum_list}
use Rattle.ray.proofs.Weighted.{sum_list_lem}
use Rattle.ray.proofs.Capped.{stop_cap}
use Rattle.ray.proofs.Different.{different_of}
use Rattle.ray.proofs.Moved.{Moved, d_moved, part_moved, misses_moved, span_moved, list_moved, sum_moved, crossed_moved, different_moved}
use Rattle.line.specs.Scene.{Scene}
use Rattle.line.specs.Scene.{volume_of, ray_of, Able}
use Rattle.line.specs.Raised.{Small, scene_of}
use Rattle.line.proofs.Raised.{able, moved, d_most}
use Rattle.walk.proofs.Counts as Walked
use Rattle.tracing.specs.Inside.{Suited}

-- what is handed back of a ray that misses
pub record Nothing (v : Volume) (r : Ray) : Type 0 where
  pub voxels : list_of v r ≡ []
  pub crossed : crossed_of v r ≡ 0
  pub span : span_of v r ≡ 0
  pub sum : (densities : List ℕ) → sum_of v r densities ≡ 0

module _ (m : Limits) (small : Small m) (g : Grid) (r : Ray) (grid : first (grid_rows m g) ≡ 0) (ends : first (end_rows m r) ≡ 0) where
  -- Where the walk's laws are read off; no statement below names it.
  abbrev scene : Scene
  scene = scene_of m g r

  can : Able scene
  can = able m g r grid ends small

  on : Moved (pos m.coord) (volume g) (volume_of scene) r (ray_of scene)
  on = moved m g r grid ends

  voxels_on : list_of (volume_of scene) (ray_of scene) ≡ list_of (volume g) r
  voxels_on = list_moved on

  parts_on : map (part_of (volume_of scene) (ray_of scene)) (list_of (volume_of scene) (ray_of scene)) ≡ map (part_of (volume g) r) (list_of (volume g) r)
  parts_on = λ t. map (λ w. part_moved on w t) (voxels_on t)

  misses_on : (b : Bool) → misses (volume g) r ≡ b → misses (volume_of scene) (ray_of scene) ≡ b
  misses_on b h = misses_moved on ∙ h

  crossed_on_lem : crossed_of (volume_of scene) (ray_of scene) ≡ crossed_of (volume g) r
  crossed_on_lem = crossed_moved on

  -- RULES 4: all parts together make the span
  pub parts_span : sum_list (map (part_of (volume g) r) (list_of (volume g) r)) ≡ span_of (volume g) r
  parts_span = ap sum_list (sym parts_on) ∙ Walked.parts_span scene can ∙ span_moved on

  -- RULES 4: entries by the different α of the planes crossed
  pub entries_alphas : misses (volume g) r ≡ false → length (list_of (volume g) r) ≡ 1 + different_of (volume g) r
  entries_alphas hit =
      ap length (sym voxels_on)
      ∙ Walked.entries_alphas scene can (misses_on false hit)
      ∙ ap (λ (n : ℕ). 1 + n) (different_moved on)

  -- each of those α is that of a plane crossed, some of several
  pub entries_crossed : length (list_of (volume g) r) ≤ crossed_of (volume g) r + 1
  entries_crossed = omega (arith, Walked.entries_crossed scene can, ap length voxels_on, crossed_on_lem)

  -- RULES 4: the most entries there are
  pub entries_few : length (list_of (volume g) r) + 2 ≤ g.x.n + g.y.n + g.z.n
  entries_few = omega (arith, Walked.entries_few scene can, ap length voxels_on)

  -- from the first voxel of an axis to its last there are fewer planes than voxels
  pub crossed_few : crossed_of (volume g) r + 3 ≤ g.x.n + g.y.n + g.z.n
  crossed_few = omega (arith, Walked.crossed_few scene can, crossed_on_lem)

  -- RULES 5: the numbers of a miss
  pub missed : misses (volume g) r ≡ true → Nothing (volume g) r
  unfolding crossed_of span_of
  missed h = record {
    voxels = sym voxels_on ∙ Walked.missed_list scene can (misses_on true h);
    crossed = rw h refl;
    span = rw h refl;
    sum = λ densities.
        sym (sum_moved on densities) ∙ Walked.missed_sum scene can densities (misses_on true h);
  }

-- a stretch of the ray is at most the ray
pub span_d : (v : Volume) (r : Ray) → span_of v r ≤ d_of r
unfolding span_of
span_d v r = go (misses v r)
  where
    less : (a b d : ℕ) → a ≤ d → a - b ≤ d
    less a b d h = omega arith

    go : (b : Bool) → cond b 0 (stop r (array v) - start r (array v)) ≤ d_of r
    go true = omega arith
    go false = less (stop r (array v)) (start r (array v)) (d_of r) (stop_cap r (array v))

-- a sum of products is at most the sum of one factor by the most of the other
sum_most : {most : ℕ} (part density : ℕ → ℕ) → ((m : ℕ) → density m ≤ most) → (ms : List ℕ) → sum_list (map (λ m. part m * density m) ms) ≤ sum_list (map part ms) * most
unfolding sum
sum_most part density h [] = omega arith
sum_most {most} part density h (m ∷ ms) = omega (arith, sum_most part density h ms, mul-le-mul_left (part m) (h m), add-mul (part m) (sum_list (map part ms)) most)

module _ (m : Limits) (suited : Suited m) (g : Grid) (r : Ray) (grid : first (grid_rows m g) ≡ 0) (ends : first (end_rows m r) ≡ 0) where
  -- RULES 3: the most that D is
  pub d_small : d_of r ≤ 2 ^ 45
  d_small = omega (
    arith,
    d_most m suited.small.coord_some g r ends,
    suited.d_size,
    d_moved (on m suited.small g r grid ends),
  )

  -- RULES 3: the sum stays below 2^61, densities being at most 65535
  pub sum_small : (densities : List ℕ) → ((w : ℕ) → get_or densities w 0 ≤ 65535) → sum_of (volume g) r densities < 2 ^ 61
  sum_small densities dense = omega (
    arith,
    sum_list_lem (volume g) r densities,
    sum_most (part_of (volume g) r) (λ m. get_or densities m 0) dense (list_of (volume g) r),
    parts_span m suited.small g r grid ends,
    span_d (volume g) r,
    d_small,
  )
