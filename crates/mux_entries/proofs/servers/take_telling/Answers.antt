-- A notification of a start that is ready.
use Rattle.std.proofs.Common.{ap, sym, ◌∙◌}
use Rattle.event_model.proofs.Turns.{alike}
use Rattle.group_rows.specs.AskRows.{notified_row}
use Rattle.mux_starts.specs.mux_tables.specs.Documents.{AllStand}
use Rattle.mux_entries.proofs.EditorRows.{done_alike}
use Rattle.mux_entries.proofs.Questions.{all_run, broadcasts, is_telling, told_kinds}
use Rattle.mux_entries.proofs.Said.{stage_here}
use Rattle.group_rows.specs.Created.{names_progress}
use Rattle.group_rows.specs.Lists.{names_list}
use Rattle.mux_entries.proofs.servers.take_telling.Goals as goal

pub returns-in_ok-take_recall-in-Cancel-clause-does : goal.returns-in_ok-take_recall-in-Cancel-clause-does
returns-in_ok-take_recall-in-Cancel-clause-does c = λ settings before body method params s x read says first known settled here ready at st ds.
    let kind = sym (c.told_class.ensures body method params read says) ∙ c.in-Cancel.is in
    done_alike (λ k events. AllStand settings k events) (alike (ap (notified_row settings s before body params) kind))
    (c.in_ok-take_recall-in-Cancel.ensures.does settings before body method params s x read says (ap names_progress kind) (ap names_list kind) (all_run settings before s (stage_here settings c.args.tables.now before c.args.g s x here at st ∙ ready) settled) first here ready at st ds)

pub returns-in_ok-take_progress-in-Progress-clause-does : goal.returns-in_ok-take_progress-in-Progress-clause-does
returns-in_ok-take_progress-in-Progress-clause-does c = λ settings before body method params s x read says first known settled here ready at st ds.
    let kind = sym (c.told_class.ensures body method params read says) ∙ c.in-Progress.is in
    done_alike (λ k events. AllStand settings k events) (alike (ap (notified_row settings s before body params) kind))
    (c.in_ok-take_progress-in-Progress.ensures.does settings before body method params s x read says (ap names_progress kind) first here ready at st ds)

pub returns-in_ok-take_list-in-Diagnostics-clause-does : goal.returns-in_ok-take_list-in-Diagnostics-clause-does
returns-in_ok-take_list-in-Diagnostics-clause-does c = λ settings before body method params s x read says first known settled here ready at st ds.
    let kind = sym (c.told_class.ensures body method params read says) ∙ c.in-Diagnostics.is in
    done_alike (λ k events. AllStand settings k events) (alike (ap (notified_row settings s before body params) kind))
    (c.in_ok-take_list-in-Diagnostics.ensures.does settings before body method params s x read says (ap names_list kind) first here ready at known.meant st ds)

pub returns-in_ok-take_broadcast-in_default-clause-does : goal.returns-in_ok-take_broadcast-in_default-clause-does
returns-in_ok-take_broadcast-in_default-clause-does c = λ settings before body method params s x read says first known settled here ready at st ds.
    let is = c.told_class.ensures body method params read says in
    let kind = sym is ∙ broadcasts c.told_class.result c.in_default.not-Cancel c.in_default.not-Progress c.in_default.not-Diagnostics (ap is_telling is ∙ told_kinds method) in
    done_alike (λ k events. AllStand settings k events) (alike (ap (notified_row settings s before body params) kind))
    (c.in_ok-take_broadcast-in_default.ensures.does settings before body method params s x read says (ap names_progress kind) (ap names_list kind) first here ready at st ds)
