-- The loop keeps `Reading`. Assumes nothing.
use Rattle.std.proofs.Common.{◌+◌, length, drop}
use Rattle.text.specs.Split.{split, left}
use Rattle.text.proofs.Every.{Reading}
use Rattle.text.proofs.numbers.numbers.Given as goal

abbrev pub invariant-loop-slot : goal.invariant-loop-slot
invariant-loop-slot g l = Reading (g.R.Reader.reads l.reader) (length l.fn.out) (drop (l.k + 1) (split 9 l.line)) (left l.fields.rest) l.slot-items l.slot-index
