-- The lists lent keep their lengths. Assumes nothing.
use Prim.Native.Nat.{◌≤◌}
use mathlib.Core.Path.{◌≡◌, refl, ◌∙◌}
use lib.ListN.{length}
use native.Mathlib.Omega.{arith}
use Rattle.job.specs.Sound.{Buffers}
use Rattle.job.specs.InAll.{Held}

pub record AsLong (k₀ k : Held) : Type 0 where
  pub line : length k.line ≡ length k₀.line
  pub densities : length k.densities ≡ length k₀.densities
  pub out : length k.out ≡ length k₀.out

pub as_long : {k : Held} → AsLong k k
as_long = record { line = refl; densities = refl; out = refl }

module _ {k₀ k : Held} (h : AsLong k₀ k) where
  pub still : {k' : Held} → AsLong k k' → AsLong k₀ k'
  still g = record { line = g.line ∙ h.line; densities = g.densities ∙ h.densities; out = g.out ∙ h.out }

  -- those that are read alone
  pub long : (4096 ≤ length k₀.line) × (4096 ≤ length k₀.densities) → (4096 ≤ length k.line) × (4096 ≤ length k.densities)
  long b = (omega (arith, h.line), omega (arith, h.densities))

  pub buffers : Buffers k₀.line k₀.densities k₀.out → Buffers k.line k.densities k.out
  buffers b = let read = long (b.line, b.densities) in record { line = read.0; densities = read.1; out = omega (arith, h.out, b.out) }
