-- What stands behind the end of field k. Assumes nothing.
use Rattle.std.proofs.Common.{◌∙◌, ap}
use Rattle.text.specs.Split.{after}
use Rattle.text.proofs.Split.{left_behind}
use Rattle.text.proofs.fields.Fields.behind.Goals as goal

pub returns : goal.returns
returns c = left_behind c.split_at.result.1.now c.get.result c.get.ensures.lookup ∙ ap (after 9) c.split_at.ensures.back ∙ c.field.ensures.behind
