-- `placed::place_into`: the answer of the place, told in a list.
use Rattle.std.proofs.Common.{refl, sym, ◌∙◌}
use lib.Ieee.{of_bits}
use Rattle.place.specs.declared.Place.TheVariants.{Miss, Hit}
use Rattle.ilvoresta.proofs.Shown.{unplaced, placed}
use Rattle.ilvoresta.proofs.placed.place_into.Goals as goal

-- src/placed.rt
-- the place refuses: its code is handed on,
-- and the list is as it was
pub returns-in-Refused : goal.returns-in-Refused
returns-in-Refused c = unplaced _ (sym c.in-Refused.is ∙ c.place.ensures.value)

-- a miss: two positive zeros
pub returns-in-Miss : goal.returns-in-Miss
unfolding of_bits
returns-in-Miss c = placed Miss refl (sym c.in-Miss.is ∙ c.place.ensures.value) c.fill.ensures.value c.fill.ensures.answer_after

-- a hit, and the list filled where its length is right
pub returns-in-Hit : goal.returns-in-Hit
returns-in-Hit c = placed (Hit _ _) refl (sym c.in-Hit.is ∙ c.place.ensures.value) c.fill-in-Hit.ensures.value c.fill-in-Hit.ensures.answer_after
