-- A notification of a start is heard.
use Rattle.std.proofs.Common.{◌≡◌, subst, sym, ◌∙◌}
use Rattle.std.specs.Prelude.{None}
use Rattle.event_model.specs.Stages.{is_first_result}
use Rattle.group_words.specs.Houses.{is_first_error}
use Rattle.group_rows.specs.Created.{created_of, named_token, token_called}
use Rattle.rpc_message.specs.Message.{message_of}
use Rattle.mux_tables.specs.Documents.{nothing_owed}
use Rattle.mux_tables.proofs.Starts.{start_at_place}
use Rattle.mux_starts.proofs.Early.{noticed_named}
use Rattle.mux_starts.proofs.Parking.{noticed, noticed_keeps}
use Rattle.mux_starts.proofs.Progressing.{undue}
use Rattle.mux_starts.proofs.Uncreated.{untold_creates}
use Rattle.mux_turns.proofs.Matched.{not_early, not_first, not_spawning}
use Rattle.mux_starts.proofs.Unlisted.{progress_unlisted}
use Rattle.mux_starts.proofs.progress.hear.Goals as goal

pub returns-else-due-clause-stands : goal.returns-else-due-clause-stands
returns-else-due-clause-stands c = λ settings before body method params s x read says tells is here ready at st ds.
    let m = message_of body in
    let t = c.args.tables.now in
    let own = start_at_place t.lasts.items c.args.g s x here at in
    let none = subst (λ n. token_called (named_token params) (created_of settings n before) ≡ None) own (undue settings before x.life.group x.life.start params (sym is ∙ c.if-due.false)) in (
      c.hear_answer.ensures.moves settings before s body x here at (not_early (is_first_result m) x.life.stage ready) (not_first (is_first_error m) x.life.stage ready) (noticed settings before s body method params says) (noticed_keeps settings before s body method params says) (progress_unlisted before s body method params says tells) (untold_creates settings before s body method params says none) (noticed_named m method params says) st,
      c.hear_answer.ensures.documents settings nothing_owed before s body x here at (not_first (is_first_result m) x.life.stage ready) (λ e. not_spawning x.life.stage ready e) st ds,
    )
