-- At each turn the fields counted, and those from here on, make one more than all. Assumes nothing.
use Rattle.std.proofs.Common.{length, ◌≡◌, ◌+◌, ◌≤◌, drop}
use Rattle.text.specs.Split.{split}
use Rattle.text.proofs.fields.count.Given as goal

abbrev pub invariant-loop-b : goal.invariant-loop-b
invariant-loop-b l = (l.n ≤ l.b-index + 1) × (1 + length (split 9 l.line) ≡ l.n + length (split 9 (drop l.b-index l.line)))
