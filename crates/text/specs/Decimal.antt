-- A number in decimal digits, with no leading zero. Definitions only. Assumes nothing.
use Rattle.std.specs.Prelude.{ℕ, zero, suc, ◌+◌, ◌/◌, ◌%◌, cond, List, [], ◌∷◌, ◌++◌, ltb}

-- the digits of n, where k is at least n: those of n / 10, and the last. What the `let` names waits until it is asked for, so
-- that a number computes in as many steps as it has digits.
unfoldable pub digits_of : ℕ → ℕ → List ℕ
digits_of zero n = (48 + n) ∷ []
digits_of (suc k) n = let tens = digits_of k (n / 10) in cond (ltb n 10) ((48 + n) ∷ []) (tens ++ (48 + n % 10) ∷ [])

unfoldable pub decimal : ℕ → List ℕ
decimal n = digits_of n n
