-- Signed numbers handed on come back the same. Assumes nothing.
use Prim.Native.Nat.{ℕ}
use mathlib.Core.Path.{◌≡◌, refl}
use lib.IntN.{ℤ}
use mir.Syntax.{w32}
use mir.Val.{to_z, of_z, SFits}
use mir.ValLaws.{to_z-of_z}
use Rattle.ilvoresta.specs.Entry.{grid_of, ray_of}

abbrev again : ℤ → ℤ
again z = to_z w32 (of_z w32 z)

pub grid_again : {nx ny nz dx dy dz : ℕ} {bx by bz : ℤ} → SFits w32 bx → SFits w32 by → SFits w32 bz
    → grid_of nx ny nz dx dy dz (again bx) (again by) (again bz) ≡ grid_of nx ny nz dx dy dz bx by bz
grid_again fx fy fz = rw (to_z-of_z w32 _ fx, to_z-of_z w32 _ fy, to_z-of_z w32 _ fz) refl

pub ray_again : {px py pz qx qy qz : ℤ} → SFits w32 px → SFits w32 py → SFits w32 pz → SFits w32 qx → SFits w32 qy → SFits w32 qz
    → ray_of (again px) (again py) (again pz) (again qx) (again qy) (again qz) ≡ ray_of px py pz qx qy qz
ray_again fpx fpy fpz fqx fqy fqz = rw (to_z-of_z w32 _ fpx, to_z-of_z w32 _ fpy, to_z-of_z w32 _ fpz, to_z-of_z w32 _ fqx, to_z-of_z w32 _ fqy, to_z-of_z w32 _ fqz) refl
