-- A job begins with nothing read. Assumes nothing.
use Rattle.std.proofs.Common.{[], ◌+◌, ap}
use Rattle.axis.specs.Codes.{tenths}
use Rattle.job.specs.Stand.{Stand}
use Rattle.job.proofs.Running.{wrote_job}
use Rattle.job.proofs.whole.job.Goals as goal

pub run-requires-clause-unread : goal.run-requires-clause-unread
run-requires-clause-unread c =
    let new = c.new-st.ensures in
    (ap (λ (s : Stand). s.load.lines + s.rays) (new.stands []), new.unbegun)

pub returns : goal.returns
returns c =
    let w = wrote_job tenths c.new-st.result _ _ c.new-st.ensures.stands c.run.ensures in
    record { value = w.told; out_after = w.stands }
