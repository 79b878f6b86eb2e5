-- Fields of a line read one after the other into a list, told by where the last that was passed ended. Assumes nothing.
use Prim.Native.Nat.{ℕ, ◌+◌, ◌-◌, ◌≤◌}
use mathlib.Core.List.{List}
use mathlib.Core.Path.{◌≡◌, refl}
use lib.ListN.{length, take, drop}
use native.Mathlib.Omega.{arith}
use Rattle.std.specs.Prelude.{Option}
use Rattle.text.specs.Split.{split, after}
use Rattle.text.specs.Numbers.{every}
use Rattle.text.proofs.Every.{behind, behind_nil}

-- of the n fields behind field k the first j are read and stand in `out`, and the last that was passed ended at e
pub record Reading {A : Type 0} (read : List ℕ → Option A) (s : List ℕ) (k n : ℕ) (out₀ out : List A) (e j : ℕ) : Type 0 where
  pub within : e ≤ length s
  pub few : j ≤ n
  pub kept : length out ≡ length out₀
  pub so_far : every read n (drop (k + 1) (split 9 s)) ≡ behind (take j out) (every read (n - j) (after 9 (drop e s)))

module _ {A : Type 0} {read : List ℕ → Option A} {s : List ℕ} {k n : ℕ} {out₀ : List A} where
  pub reading_begins : {e : ℕ} → e ≤ length s → after 9 (drop e s) ≡ drop (k + 1) (split 9 s) → Reading read s k n out₀ out₀ e 0
  reading_begins h rest = record { within = h; few = omega arith; kept = refl; so_far = let all : n - 0 ≡ n = omega arith in rw (all, rest) (behind_nil (every read n (drop (k + 1) (split 9 s)))) }
