-- What a line comes to, by the line that is due. Assumes nothing.
use Prim.Native.Nat.{ℕ, ◌≤◌, ◌<◌}
use mathlib.Core.List.{List}
use mathlib.Core.Path.{◌≡◌, refl}
use lib.ListN.{length}
use native.Mathlib.Omega.{arith}
use borrow.Author.Tests.{ne_eqb, le-ltb}
use Rattle.axis.specs.Codes.{first}
use Rattle.text.specs.Split.{split}
use Rattle.load.specs.Loaded.{Loaded, due_at}
use Rattle.load.specs.Numbers.{grid_in, dens_in}
use Rattle.load.specs.Line.{refuses, leaves, head_rows, grid_read, dens_read, numbers_read, line_read}

module _ (lines left : ℕ) where
  pub grid_due : due_at lines left ≡ 0 → lines ≡ 0
  grid_due = grind arith

  pub dens_due : due_at lines left ≡ 1 → (0 < lines) × (0 < left)
  dens_due = grind arith

  pub own_due : due_at lines left ≡ 2 → (0 < lines) × (left ≡ 0)
  own_due = grind arith

  pub else_own : (due_at lines left ≡ 0 → ⊥) → (due_at lines left ≡ 1 → ⊥) → due_at lines left ≡ 2
  else_own = grind arith

-- a line of at most 4096 bytes, and the code of 21 to 23 that applies to it, or 0
pub record Checked (word : List ℕ) (own : ℕ) (s : Loaded) (l : List ℕ) (code : ℕ) : Type 0 where
  pub short : length l ≤ 4096
  pub head : code ≡ first (head_rows word own (due_at s.lines s.left) s.grid.x.n (split 9 l))

module _ {word : List ℕ} {own : ℕ} {s : Loaded} {l : List ℕ} {code : ℕ} (h : Checked word own s l code) where
  pub line_refused : (code ≡ 0 → ⊥) → refuses code ≡ line_read word own s l
  unfolding line_read
  line_refused some = rw (le-ltb 4096 (length l) h.short, ← h.head, ne_eqb code 0 some) refl

  module _ (fine : code ≡ 0) where
    numbered : numbers_read s (split 9 l) ≡ line_read word own s l
    unfolding line_read
    numbered = rw (le-ltb 4096 (length l) h.short, ← h.head, fine) refl

    pub grid_line : due_at s.lines s.left ≡ 0 → grid_read s.limits (grid_in (split 9 l)) ≡ line_read word own s l
    unfolding numbers_read
    grid_line p = rw p at numbered

    pub dens_line : due_at s.lines s.left ≡ 1 → dens_read s (dens_in s.grid.x.n (split 9 l)) ≡ line_read word own s l
    unfolding numbers_read
    dens_line p = rw p at numbered

    pub own_line : due_at s.lines s.left ≡ 2 → leaves s ≡ line_read word own s l
    unfolding numbers_read
    own_line p = rw p at numbered
