-- A request of a start that is ready.
use Rattle.std.proofs.Common.{ap, refl, sym, subst, ◌∙◌}
use Rattle.std.specs.Prelude.{Some}
use Rattle.event_model.proofs.Turns.{alike_then}
use Rattle.rpc_message.specs.ValueTexts.{IsIdText}
use Rattle.rpc_message.proofs.Ids.{request_id_bytes}
use Rattle.group_rows.specs.Asks.{asking_of, is_taken}
use Rattle.mux_starts.specs.mux_tables.specs.Documents.{AllStand}
use Rattle.mux_starts.specs.mux_tables.proofs.Homes.{group_seen}
use Rattle.mux_starts.specs.mux_tables.proofs.Starts.{start_at_place}
use Rattle.mux_editors.proofs.Turns.{is_first, is_second}
use Rattle.mux_entries.proofs.EditorRows.{done_alike, done_quietly}
use Rattle.mux_entries.proofs.Questions.{question_there}
use Rattle.mux_entries.proofs.servers.take_question.Goals as goal

pub returns-then-is_asked-clause-does : goal.returns-then-is_asked-clause-does
returns-then-is_asked-clause-does c = λ settings before body method id params s x read says first here ready at known settled st ds.
    let t = c.args.tables.now in
    let own = start_at_place t.lasts.items c.args.g s x here at in
    let text = subst (λ w. IsIdText id w) (sym (c.id_bytes.ensures body read)) (request_id_bytes body id method params says) in
    let under = ap (λ n. is_taken (Some id) (asking_of settings n before)) (sym own) ∙ (sym (c.is_asked.ensures settings before x id here ready text st) ∙ c.if-is_asked.true) in
    done_alike (λ k events. AllStand settings k events) (is_first refl under)
    (done_quietly (λ k events. AllStand settings k events) first (c.take_repeated.ensures.does settings before body method id params s x says under here ready at st ds))

pub returns-in_ok-take_class-clause-does : goal.returns-in_ok-take_class-clause-does
returns-in_ok-take_class-clause-does c = λ settings before body method id params s x read says first here ready at known settled st ds.
    let t = c.args.tables.now in
    let own = start_at_place t.lasts.items c.args.g s x here at in
    let text = subst (λ w. IsIdText id w) (sym (c.id_bytes.ensures body read)) (request_id_bytes body id method params says) in
    let fresh = ap (λ n. is_taken (Some id) (asking_of settings n before)) (sym own) ∙ (sym (c.is_asked.ensures settings before x id here ready text st) ∙ c.if-is_asked.false) in
    done_alike (λ k events. AllStand settings k events) (alike_then (is_second refl fresh) (question_there settings before s x.life.group body method (group_seen settings t before c.args.g s x st here at).0))
    (c.in_ok-take_class.ensures.does settings before body method id params s x read says fresh first here ready at known settled st ds)
