-- What a ray prints, one line behind the other. Assumes nothing.
use Prim.Native.Nat.{ℕ, ◌+◌, ◌*◌, ◌≤◌, ◌<◌}
use mathlib.Core.List.{List, ◌++◌, map, append_assoc, append-nil}
use mathlib.Core.Path.{◌≡◌, refl, sym, ◌∙◌}
use lib.ListN.{length, get_or, take, drop, drop_of_length-le}
use lib.Seq.{drop-cons}
use native.Mathlib.Numerals.{add-one}
use native.Mathlib.Omega.{arith}
use Rattle.axis.specs.declared.Limits.{Limits}
use Rattle.ray.specs.Axes.{Grid}
use Rattle.ray.specs.declared.Ray.{Ray}
use Rattle.ray.specs.Length.{Volume, volume, part_of}
use Rattle.tracing.specs.declared.Trace.{Trace}
use Rattle.text.specs.Line.{line_of}
use Rattle.job.specs.Rays.{RAY, traced, passed, figures, cell, cells, ray_text}

-- the entries from e on are still to be printed behind `to`
pub record Printing (v : Volume) (voxels parts out₀ : List ℕ) (at : ℕ) (out : List ℕ) (e to : ℕ) : Type 0 where
  pub within : e ≤ length voxels
  pub room : to ≤ at + 89 * e
  pub kept : length out ≡ length out₀
  pub same : take at out₀ ++ cells v voxels parts ≡ take to out ++ cells v (drop e voxels) (drop e parts)

module _ {v : Volume} {voxels parts out₀ : List ℕ} {at : ℕ} where
  pub cells_begin : Printing v voxels parts out₀ at out₀ 0 at
  cells_begin = record { within = omega arith; room = omega arith; kept = refl; same = refl }

  module _ {out : List ℕ} {e to : ℕ} (p : Printing v voxels parts out₀ at out e to) where
    pub cells_on : {out' : List ℕ} {to' : ℕ} → e < length voxels → e < length parts → to' ≤ to + 89 → length out' ≡ length out
        → take to' out' ≡ take to out ++ cell v (get_or voxels e 0) (get_or parts e 0) → Printing v voxels parts out₀ at out' (e + 1) to'
    unfolding cells
    cells_on h g r k w = record {
      within = omega arith;
      room = omega (arith, p.room);
      kept = k ∙ p.kept;
      same = p.same ∙ rw (w, add-one, drop-cons voxels e 0, drop-cons parts e 0) (sym (append_assoc (take to out) _ _));
    }

    pub cells_end : length voxels ≤ e → take to out ≡ take at out₀ ++ cells v voxels parts
    unfolding cells
    cells_end h = sym (p.same ∙ rw (drop_of_length-le voxels h) (append-nil (take to out)))

-- a RAY line and its CELL lines
pub ray_printed : {o₁ o₂ voxels parts : List ℕ} {t : Trace} (before : List ℕ) (m : Limits) (g : Grid) (densities : List ℕ) (r : Ray) → t ≡ traced m g densities r
    → voxels ≡ passed m g r → parts ≡ map (part_of (volume g) r) (passed m g r) → o₁ ≡ before ++ line_of RAY (figures t) → o₂ ≡ o₁ ++ cells (volume g) voxels parts
    → o₂ ≡ before ++ ray_text m g densities r
unfolding ray_text
ray_printed before m g densities r e f h e₁ e₂ = e₂ ∙ rw (e₁, e, f, h) (append_assoc before (line_of RAY (figures (traced m g densities r))) _)
