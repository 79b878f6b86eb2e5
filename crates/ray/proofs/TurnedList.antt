-- Demand 3, a ray turned round: its list is the ray's list backwards, with equal parts. Assumes nothing.
use Prim.Native.Nat.{ℕ, ◌<◌}
use mathlib.Core.Path.{◌≡◌, refl, sym, ap, ◌∙◌}
use mathlib.Core.List.{List, [], ◌∷◌, ◌++◌, map, reverse, reverse-cons, Memᴰ}
use Rattle.ray.specs.Axes.{Grid}
use Rattle.ray.specs.declared.Ray.{Ray}
use Rattle.ray.specs.Length.{d_of, squared_of, Volume, volume, count, voxel, part_of, span_of, list_of, sum_of, crossed_of}
use Rattle.ray.proofs.Rising.{mem_turned, turned_mem, rising_reverse}
use Rattle.ray.proofs.Listing.{Listed, starts, list_sound, list_whole, list_listed, list_is, map_snoc}
use Rattle.ray.proofs.Capped.{part_voxel}
use Rattle.ray.proofs.Planes.{Rise, grid_rise}
use Rattle.ray.proofs.Apart.{follows, starts_apart}
use Rattle.ray.proofs.Turned.{turned, d_turned, voxel_turned, order_turned, span_turned, crossed_turned, sum_turned, squared_turned}

pub map_same : (f g : ℕ → ℕ) → ((m : ℕ) → f m ≡ g m) → (ms : List ℕ) → map f ms ≡ map g ms
map_same f g e ms = λ t. map (λ m. e m t) ms

map_reverse : (f : ℕ → ℕ) (ms : List ℕ) → map f (reverse ms) ≡ reverse (map f ms)
map_reverse f [] = refl
map_reverse f (m ∷ ms) =
    ap (map f) (reverse-cons m ms) ∙ map_snoc f (reverse ms) m ∙ ap (λ (xs : List ℕ). xs ++ (f m ∷ [])) (map_reverse f ms) ∙ sym (reverse-cons (f m) (map f ms))

module _ (v : Volume) (rise : Rise v) (r : Ray) where
  falls : (a b : ℕ) → Memᴰ a (list_of v r) → Memᴰ b (list_of v r) → starts v r a < starts v r b → starts v (turned r) b < starts v (turned r) a
  falls a b ma mb h =
      let ha = list_sound v r a ma in
      let hb = list_sound v r b mb in
      order_turned r (voxel v a) (voxel v b) (rw (part_voxel v r a) at ha.1) (rw (part_voxel v r b) at hb.1) (follows v rise r a b ha hb h)

  backwards : Listed (starts v (turned r)) (part_of v (turned r)) (count v) (reverse (list_of v r))
  backwards = record {
    sound = λ m h. let s = list_sound v r m (turned_mem (list_of v r) m h) in (s.0, rw (voxel_turned v r m) s.1);
    whole = λ m h p. mem_turned (list_of v r) m (list_whole v r m h (rw (voxel_turned v r m) at p));
    rising = rising_reverse (starts v r) (starts v (turned r)) (list_of v r) falls (list_listed v r (starts_apart v rise r)).rising;
  }

  -- from Q to P the voxels come backwards
  pub list_turned : list_of v (turned r) ≡ reverse (list_of v r)
  list_turned = sym (list_is v (turned r) (starts_apart v rise (turned r)) (reverse (list_of v r)) backwards)

-- All of it: the list backwards with equal parts over the same D, equal span, planes crossed, sum and squared length.
pub record Turns (v : Volume) (r : Ray) : Type 0 where
  pub voxels : list_of v (turned r) ≡ reverse (list_of v r)
  pub parts : map (part_of v (turned r)) (list_of v (turned r)) ≡ reverse (map (part_of v r) (list_of v r))
  pub d : d_of (turned r) ≡ d_of r
  pub span : span_of v (turned r) ≡ span_of v r
  pub crossed : crossed_of v (turned r) ≡ crossed_of v r
  pub sum : (densities : List ℕ) → sum_of v (turned r) densities ≡ sum_of v r densities
  pub squared : squared_of (turned r) ≡ squared_of r

pub turns : (v : Volume) → Rise v → (r : Ray) → Turns v r
turns v rise r =
    let voxels = list_turned v rise r in
    record {
      voxels = voxels;
      parts =
          ap (map (part_of v (turned r))) voxels
          ∙ map_same (part_of v (turned r)) (part_of v r) (voxel_turned v r) (reverse (list_of v r))
          ∙ map_reverse (part_of v r) (list_of v r);
      d = d_turned r;
      span = span_turned v r;
      crossed = crossed_turned v r;
      sum = sum_turned v r;
      squared = squared_turned r;
    }

-- for every grid and every ray, accepted or not
pub grid_turns : (g : Grid) (r : Ray) → Turns (volume g) r
grid_turns g r = turns (volume g) (grid_rise g) r
