-- The state behind a GRID and behind a DENS line is sound again. Assumes nothing.
use Prim.Native.Nat.{ℕ, ◌+◌, ◌*◌, ◌-◌, ◌≤◌, ◌<◌}
use mathlib.Core.List.{List}
use mathlib.Core.Path.{◌≡◌, ap}
use native.Mathlib.Nat.{add-mul}
use native.Mathlib.Omega.{arith}
use lib.ListN.{length}
use borrow.Rule.Slice.PartMut.{put_mid}
use Rattle.std.specs.Prelude.{Some}
use Rattle.std.proofs.lemmas.Slice.{take-put_mid}
use Rattle.axis.specs.declared.Limits.{Limits}
use Rattle.axis.specs.Codes.{first}
use Rattle.ray.specs.Axes.{Grid}
use Rattle.ray.specs.Codes.{grid_rows}
use Rattle.load.specs.declared.state.Load.{Load}
use Rattle.load.specs.Loaded.{Loaded, loaded_of}
use Rattle.load.specs.Line.{takes, dens_read, grid_code}
use Rattle.load.specs.Sound.{Sound}
use Rattle.load.proofs.Taking.{Sides, sides, code_zero, all_lines}

abbrev pub after_grid : Limits → Grid → Load
after_grid m g = record { limits = m; grid = g; lines = 1; left = g.y.n * g.z.n; filled = 0 }

pub sound_grid : (m : Limits) (g : Grid) → m.n ≤ 512 → grid_code m g ≡ 0 → Sound (after_grid m g)
sound_grid m g h e =
    let ok = code_zero m g e in
    record { narrow = h; accepted = λ z. ok.0; few = ok.1; loaded = omega (arith, all_lines g.x.n g.y.n g.z.n); early = omega arith }

abbrev pub after_dens : Load → Load
after_dens st = record { limits = st.limits; grid = st.grid; lines = st.lines + 1; left = st.left - 1; filled = st.filled + st.grid.x.n }

-- a state with its densities
abbrev pub holding : Load → List ℕ → Loaded
holding st densities = record { limits = st.limits; lines = st.lines; grid = st.grid; left = st.left; densities = densities }

-- a row behind the densities that are filled
pub dens_put : (st : Load) (ds row : List ℕ) → st.filled ≤ length ds → length row ≡ st.grid.x.n
    → takes (loaded_of (after_dens st) (put_mid st.filled (st.filled + st.grid.x.n - st.filled) ds row)) ≡ dens_read (loaded_of st ds) (Some row)
dens_put st ds row h e =
    let n = st.filled + st.grid.x.n in
    ap (λ l. takes (holding (after_dens st) l)) (take-put_mid st.filled (n - st.filled) ds row n (omega (arith, e)) h)

module _ {st : Load} (s : Sound st) (started : 0 < st.lines) where
  accepted : first (grid_rows st.limits st.grid) ≡ 0
  accepted = s.accepted (λ z. omega arith)

  pub its_sides : Sides st.grid.x.n st.grid.y.n st.grid.z.n
  its_sides = sides st.limits st.grid s.narrow accepted

  module _ (more : 0 < st.left) where
    -- one line of the rest
    this_line : (st.left - 1) * st.grid.x.n + st.grid.x.n ≡ st.left * st.grid.x.n
    this_line =
        let one : st.left - 1 + 1 ≡ st.left = omega arith in
        omega (arith, add-mul (st.left - 1) 1 st.grid.x.n, ap (λ (l : ℕ). l * st.grid.x.n) one)

    pub line_fits : st.filled + st.grid.x.n ≤ 4096
    line_fits = omega (arith, s.few, s.loaded, this_line)

    pub sound_dens : Sound (after_dens st)
    sound_dens = record {
      narrow = s.narrow;
      accepted = λ z. accepted;
      few = s.few;
      loaded = omega (arith, s.loaded, this_line);
      early = omega (arith, s.early, its_sides.x.0);
    }
