-- The first field, and those behind it. Assumes nothing.
use Rattle.std.proofs.Common.{◌≡◌, ◌∷◌, ◌∙◌, ap, refl, length, rules}
use Rattle.text.specs.Split.{left, after}
use Rattle.text.proofs.Split.{left_first, left_behind}
use Rattle.text.proofs.fields.FieldsIterator.next.Goals as goal

-- what a call gives
abbrev Gives : goal.After-self-1 → Type 0
Gives c = left c.args.self.now.rest ≡ c.split_at.result.0.now ∷ left c.get-self.result

gives : (c : goal.After-self-1) → Gives c
gives c =
    let first = left_first c.args.self.now.rest c.in_ok-line.line c.len_until.result c.in_ok-line.was c.len_until.ensures.value in
    let others = left_behind c.split_at.result.1.now c.get-self.result c.get-self.ensures.lookup in
    let front = c.split_at.ensures.front in
    let back = ap (after 9) c.split_at.ensures.back in
    first ∙ rw (← front, ← back, ← others) refl

pub returns-clause-steps : goal.returns-clause-steps
returns-clause-steps c = gives c

pub returns-clause-goes : goal.returns-clause-goes
returns-clause-goes c = let n = ap length (gives c) in search rules
