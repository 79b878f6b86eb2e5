-- The bytes that are put behind those that stand. Assumes nothing.
use Rattle.std.proofs.Common.{arith}
use Rattle.load.proofs.Cutting.{cut_long, cut_more, cut_ends}
use Rattle.load.proofs.cut.cut_line.Goals as goal

pub returns-then-have-n : goal.returns-then-have-n
returns-then-have-n c = cut_long c.requires.0 c.args.piece.now c.args.from (omega arith) c.len_until-n.ensures.value (omega arith)

pub returns-then-n-rest : goal.returns-then-n-rest
returns-then-n-rest c = cut_ends c.requires.0 c.args.piece.now c.args.from (omega arith) c.len_until-n.ensures.value c.copy_from_slice.ensures.after (omega arith) (omega arith) (omega arith)

pub returns : goal.returns
returns c = cut_more c.requires.0 c.args.piece.now c.args.from (omega arith) c.len_until-n.ensures.value c.copy_from_slice.ensures.after (omega arith) (omega arith) (omega arith)
