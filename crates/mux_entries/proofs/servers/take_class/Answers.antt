-- A request of a start that is ready, by its class.
use Rattle.std.proofs.Common.{ap, sym, ◌∙◌}
use Rattle.event_model.proofs.Turns.{alike}
use Rattle.group_rows.specs.AskRows.{asking_row}
use Rattle.group_rows.specs.Asks.{goes_to_one, may_wait}
use Rattle.group_rows.specs.Live.{changes_live}
use Rattle.mux_starts.specs.mux_tables.specs.Documents.{AllStand}
use Rattle.mux_entries.proofs.EditorRows.{done_alike}
use Rattle.mux_entries.proofs.Questions.{asked_kinds, is_asking, lowest}
use Rattle.group_rows.specs.Created.{names_create}
use Rattle.mux_entries.proofs.servers.take_class.Goals as goal

pub returns-in_ok-take_refresh-in-Refresh-clause-does : goal.returns-in_ok-take_refresh-in-Refresh-clause-does
returns-in_ok-take_refresh-in-Refresh-clause-does c = λ settings before body method id params s x read says fresh first here ready at known settled st ds.
    let kind = sym (c.asked_class.ensures body method id params read says) ∙ c.in-Refresh.is in
    done_alike (λ k events. AllStand settings k events) (alike (ap (asking_row settings before x.life.group s body method) kind))
    (c.in_ok-take_refresh-in-Refresh.ensures.does settings before body method id params s x read says (ap goes_to_one kind) (ap may_wait kind) (ap changes_live kind) (ap names_create kind) fresh first here ready at st ds)

pub returns-in_ok-take_folders-in-Folders-clause-does : goal.returns-in_ok-take_folders-in-Folders-clause-does
returns-in_ok-take_folders-in-Folders-clause-does c = λ settings before body method id params s x read says fresh first here ready at known settled st ds.
    let kind = sym (c.asked_class.ensures body method id params read says) ∙ c.in-Folders.is in
    done_alike (λ k events. AllStand settings k events) (alike (ap (asking_row settings before x.life.group s body method) kind))
    (c.in_ok-take_folders-in-Folders.ensures.does settings before body method id params s x read says (ap may_wait kind) (ap changes_live kind) (ap names_create kind) fresh first here ready at known settled st ds)

pub returns-in_ok-take_focused-in-Focused-clause-does : goal.returns-in_ok-take_focused-in-Focused-clause-does
returns-in_ok-take_focused-in-Focused-clause-does c = λ settings before body method id params s x read says fresh first here ready at known settled st ds.
    let kind = sym (c.asked_class.ensures body method id params read says) ∙ c.in-Focused.is in
    done_alike (λ k events. AllStand settings k events) (alike (ap (asking_row settings before x.life.group s body method) kind))
    (c.in_ok-take_focused-in-Focused.ensures.does settings before body method id params s x read says (ap goes_to_one kind) (ap may_wait kind) fresh first here ready at known.meant st ds)

pub returns-in_ok-take_lowest-in_default-clause-does : goal.returns-in_ok-take_lowest-in_default-clause-does
returns-in_ok-take_lowest-in_default-clause-does c = λ settings before body method id params s x read says fresh first here ready at known settled st ds.
    let is = c.asked_class.ensures body method id params read says in
    let kind = sym is ∙ lowest c.asked_class.result c.in_default.not-Refresh c.in_default.not-Folders c.in_default.not-Focused c.in_default.not-Register c.in_default.not-Unregister c.in_default.not-Create (ap is_asking is ∙ asked_kinds method) in
    done_alike (λ k events. AllStand settings k events) (alike (ap (asking_row settings before x.life.group s body method) kind))
    (c.in_ok-take_lowest-in_default.ensures.does settings before body method id params s x read says (ap may_wait kind) fresh first here ready at st ds)

pub returns-in_ok-take_register-in-Register-clause-does : goal.returns-in_ok-take_register-in-Register-clause-does
returns-in_ok-take_register-in-Register-clause-does c = λ settings before body method id params s x read says fresh first here ready at known settled st ds.
    let kind = sym (c.asked_class.ensures body method id params read says) ∙ c.in-Register.is in
    done_alike (λ k events. AllStand settings k events) (alike (ap (asking_row settings before x.life.group s body method) kind))
    (c.in_ok-take_register-in-Register.ensures.does settings before body method id params s x read says kind fresh first here ready at st ds)

pub returns-in_ok-take_unregister-in-Unregister-clause-does : goal.returns-in_ok-take_unregister-in-Unregister-clause-does
returns-in_ok-take_unregister-in-Unregister-clause-does c = λ settings before body method id params s x read says fresh first here ready at known settled st ds.
    let kind = sym (c.asked_class.ensures body method id params read says) ∙ c.in-Unregister.is in
    done_alike (λ k events. AllStand settings k events) (alike (ap (asking_row settings before x.life.group s body method) kind))
    (c.in_ok-take_unregister-in-Unregister.ensures.does settings before body method id params s x read says kind fresh first here ready at st ds)

pub returns-in_ok-take_create-in-Create-clause-does : goal.returns-in_ok-take_create-in-Create-clause-does
returns-in_ok-take_create-in-Create-clause-does c = λ settings before body method id params s x read says fresh first here ready at known settled st ds.
    let kind = sym (c.asked_class.ensures body method id params read says) ∙ c.in-Create.is in
    done_alike (λ k events. AllStand settings k events) (alike (ap (asking_row settings before x.life.group s body method) kind))
    (c.in_ok-take_create-in-Create.ensures.does settings before body method id params s x read says kind fresh first here ready at settled st ds)
