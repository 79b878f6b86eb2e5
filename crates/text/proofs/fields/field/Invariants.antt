-- The loop keeps `Walk`. Assumes nothing.
use Rattle.text.proofs.Split.{Walk}
use Rattle.text.proofs.fields.field.Given as goal

abbrev pub invariant-loop : goal.invariant-loop
invariant-loop l = Walk 9 l.line l.k l.counter l.at
