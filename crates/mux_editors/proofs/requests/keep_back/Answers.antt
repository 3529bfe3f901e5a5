-- A request waits, and its editor may begin to run by it.
use Rattle.std.proofs.Common.{◌≡◌, ℕ, List, true, subst, sym, ap, ◌∙◌, ◌++◌, [], ◌∷◌}
use Rattle.event_model.specs.declared.phase.Phase.TheVariants.{Running}
use Rattle.event_model.specs.Event.{heard}
use Rattle.event_model.specs.Phases.{desk_of}
use Rattle.group_rows.specs.Waiting.{is_for_start}
use Rattle.mux_history.specs.declared.cause.Cause.TheVariants.{FromEditor}
use Rattle.rpc_message.specs.Message.{id_bytes, message_of}
use Rattle.mux_tables.specs.Documents.{DocumentsStand, nothing_owed}
use Rattle.mux_tables.specs.Stands.{Stands}
use Rattle.mux_editors.proofs.Runs.{runs_now}
use Rattle.mux_editors.proofs.Takings.{can_begin}
use Rattle.mux_editors.proofs.requests.keep_back.Goals as goal

pub returns-clause-begun : goal.returns-clause-begun
returns-clause-begun c = λ settings before body method id params read says asks home restarts served runs first meant settled st ds.
    let e = c.args.e in
    let t = c.hold.new.self in
    let kept : List ℕ = c.new-body.result in
    let own : kept ≡ body = c.new-body.ensures ∙ (c.in_ok-from_slice-2.ensures.items ∙ (c.bytes.ensures.bytes ∙ read.bytes_are)) in
    let name = c.new-id.ensures ∙ (c.in_ok-from_slice.ensures.items ∙ c.id_bytes.ensures body read) in
    let for_start = subst (λ b. is_for_start before e b (message_of b) ≡ true) (sym own) asks in
    let runs_then = subst (λ b. (desk_of e (before ++ heard (FromEditor e b) ∷ [])).phase ≡ Running) (sym own) (runs_now settings before e body served runs) in
    let stands = subst (λ b. Stands settings t (before ++ heard (FromEditor e b) ∷ [])) own (c.in_ok-hold.ensures.stands settings before st home served for_start restarts (name ∙ ap id_bytes (sym own)) runs_then) in
    let documents = subst (λ b. DocumentsStand settings nothing_owed t (before ++ heard (FromEditor e b) ∷ [])) own (c.in_ok-hold.ensures.documents settings nothing_owed before for_start ds) in
    c.in_ok-begin.ensures.begun settings nothing_owed before body served runs (c.may_begin-begins.ensures settings before st) first (can_begin settings before meant settled c.args.tables.now e body st ds) stands documents
