-- The place of the first sep, or the length. Assumes nothing.
use Rattle.std.proofs.Common.{◌≡◌, rules, tests}
use Rattle.std.proofs.lemmas.Iterator.{IsFirst-from_position, YieldsList-from_slice, index_from_first}
use Rattle.text.specs.Split.{until}
use Rattle.text.proofs.Split.{until_none, until_first, until_more}
use Rattle.text.proofs.fields.len_until.Goals as goal

pub returns-clause-value : goal.returns-clause-value
returns-clause-value c =
    let sep = c.args.sep in
    let xs = c.args.bytes.now in
    let found = IsFirst-from_position _ _ c.position.result (λ x. x ≡ sep) (λ x. x ≡ sep → ⊥) c.position.ensures.ran (YieldsList-from_slice xs cc) (λ x q k. search (rules, tests)) (λ x q k. search (rules, tests)) in
    let first = index_from_first (until sep) (λ x. x ≡ sep) (λ x. x ≡ sep → ⊥) (until_none sep) (until_first sep) (until_more sep) xs c.position.result found in
    cc
