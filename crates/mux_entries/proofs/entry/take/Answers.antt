-- A whole entry.
use Rattle.std.proofs.Common.{ap, append-nil, ◌∙◌}
use Rattle.event_model.specs.Event.{with_cause}
use Rattle.event_model.specs.Row.{outs}
use Rattle.group_rows.specs.Rows.{row_of}
use Rattle.mux_entries.proofs.entry.take.Goals as goal

pub returns-clause-takes : goal.returns-clause-takes
returns-clause-takes c = λ settings before limits servers default known settled fits kept owed st ds.
    let cause = c.args.cause.now in
    let d = c.in_ok-follow.ensures.does settings before limits servers default c.new-outs.ensures known settled fits kept owed st ds in
    (d.outs ∙ ap (outs (row_of settings before cause)) (append-nil (with_cause before cause)), d.stands)

pub returns-clause-carried : goal.returns-clause-carried
returns-clause-carried c = λ settings before limits servers default known settled fits kept st ds.
    c.in_ok-follow.ensures.carried settings before limits servers default c.new-outs.ensures known settled fits kept st ds

pub returns-clause-owed : goal.returns-clause-owed
returns-clause-owed c = λ settings before known settled fits owed st ds. c.in_ok-follow.ensures.owed settings before known settled fits owed st ds
