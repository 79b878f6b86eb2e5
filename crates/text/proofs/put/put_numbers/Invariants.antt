-- At each turn the numbers so far are written. Assumes nothing.
use Rattle.std.proofs.Common.{take, ◌≡◌, ◌++◌, ◌+◌, ◌*◌, ◌≤◌}
use Rattle.text.specs.Line.{spaced}
use Rattle.text.proofs.put.put_numbers.Given as goal

abbrev pub invariant-loop-x : goal.invariant-loop-x
invariant-loop-x l = (l.to ≤ l.at + 21 * l.x-index) × (take l.to l.out ≡ take l.at l.fn.out ++ spaced (take l.x-index l.numbers))
