-- A grid and a ray that are accepted, told from the lower limit up: a scene that is `Able`, and the same volume and ray moved by
-- the limit. At any limits that are small enough. Assumes nothing.
use Prim.Native.Nat.{ℕ, ◌+◌, ◌*◌, ◌≤◌, ◌<◌}
use mathlib.Core.Path.{◌≡◌, refl, sym, ap, ◌∙◌}
use mathlib.Core.Bool.{true}
use native.Mathlib.Omega.{arith}
use native.Mathlib.Nat.{mul-le-mul}
use lib.IntN.{ℤ, pos, ◌+ℤ◌}
use Rattle.axis.specs.Leg.{factor, natural}
use Rattle.axis.specs.declared.Limits.{Limits}
use Rattle.axis.specs.Codes.{inside, first}
use Rattle.axis.proofs.Shift.{shift_is, shift_add, low_add}
use Rattle.axis.proofs.Bounds.{inside_low, inside_most}
use Rattle.ray.specs.Axes.{Grid}
use Rattle.ray.specs.declared.Ray.{Ray}
use Rattle.ray.specs.Side.{of_side}
use Rattle.ray.specs.declared.axes.Side.{Side}
use Rattle.ray.specs.declared.axes.Side.TheVariants.{X, Y, Z}
use Rattle.ray.specs.Length.{leg, d_of, volume}
use Rattle.ray.specs.Codes.{grid_rows, end_rows}
use Rattle.ray.proofs.Moved.{Moved}
use Rattle.line.specs.Scene.{leg_n, line, volume_of, ray_of, Sized, Able}
use Rattle.line.proofs.Three.{each}
use Rattle.line.proofs.Sizes.{factor_most}
use Rattle.line.specs.Raised.{Small, cube, line_of, scene_of}
use Rattle.ray.proofs.Accepted.{axes_ok, ends_inside}

module _ (m : Limits) (g : Grid) (r : Ray) (grid : first (grid_rows m g) ≡ 0) (ends : first (end_rows m r) ≡ 0) where
  line_is : (o : Side) → line (scene_of m g r) o ≡ line_of m (of_side g o) (leg r o).p (leg r o).q
  line_is = each _ refl refl refl

  module _ (small : Small m) where
    sized : (o : Side) → Sized (line_of m (of_side g o) (leg r o).p (leg r o).q)
    sized o =
        let a = axes_ok m g grid o in
        let e = ends_inside m r ends o in
        record {
          some = a.some;
          wide = a.wide;
          p_size = omega (arith, inside_most m (leg r o).p e.0, small.coord_size);
          q_size = omega (arith, inside_most m (leg r o).q e.1, small.coord_size);
          d_size = omega (arith, a.narrow, small.d_size);
          n_size = omega (arith, a.few, small.n_size);
          far_size = omega (arith, a.far, small.coord_size);
        }

    pub able : Able (scene_of m g r)
    able = record { sized = λ o. rw (line_is o) (sized o) }

  pub moved : Moved (pos m.coord) (volume g) (volume_of (scene_of m g r)) r (ray_of (scene_of m g r))
  moved = record {
    sizes = each _ refl refl refl;
    planes = each _ (at X) (at Y) (at Z);
    starts = each _ (start X) (start Y) (start Z);
    ends = each _ (end X) (end Y) (end Z);
  }
    where
      told : (z : ℤ) → inside m z ≡ true → pos (natural (z +ℤ pos m.coord)) ≡ z +ℤ pos m.coord
      told z h = sym (shift_is m.coord z (inside_low m z h))

      plane : (b : ℤ) (n : ℕ) → inside m b ≡ true → pos (natural (b +ℤ pos m.coord) + n) ≡ b +ℤ pos n +ℤ pos m.coord
      plane b n h =
          ap pos (sym (shift_add m.coord b n (inside_low m b h))) ∙ sym (shift_is m.coord (b +ℤ pos n) (low_add m.coord b n (inside_low m b h)))

      start : (o : Side) → pos (natural ((leg r o).p +ℤ pos m.coord)) ≡ (leg r o).p +ℤ pos m.coord
      start o = told (leg r o).p (ends_inside m r ends o).0

      end : (o : Side) → pos (natural ((leg r o).q +ℤ pos m.coord)) ≡ (leg r o).q +ℤ pos m.coord
      end o = told (leg r o).q (ends_inside m r ends o).1

      at : (o : Side) (i : ℕ) → pos (natural ((of_side g o).b +ℤ pos m.coord) + i * (of_side g o).d) ≡ (of_side g o).b +ℤ pos (i * (of_side g o).d) +ℤ pos m.coord
      at o i = plane (of_side g o).b (i * (of_side g o).d) (axes_ok m g grid o).near

-- RULES 3: the most that D is
pub d_most : (m : Limits) → 0 < m.coord → (g : Grid) (r : Ray) → first (end_rows m r) ≡ 0 → d_of (ray_of (scene_of m g r)) ≤ cube (m.coord + m.coord)
d_most m some g r ends = mul-le-mul (side X) (mul-le-mul (side Y) (side Z))
  where
    side : (o : Side) → factor (leg_n (natural ((leg r o).p +ℤ pos m.coord)) (natural ((leg r o).q +ℤ pos m.coord))) ≤ m.coord + m.coord
    side o = let e = ends_inside m r ends o in factor_most _ _ _ (inside_most m (leg r o).p e.0) (inside_most m (leg r o).q e.1) (omega arith)
