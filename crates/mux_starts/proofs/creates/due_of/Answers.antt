-- The live token that a notification tells of, and who is to hear of it.
use Rattle.std.proofs.Common.{Some, ap, codes, ◌∙◌}
use Rattle.std.specs.Option.{option_and_then}
use Rattle.event_model.specs.Members.{named_of}
use Rattle.group_rows.specs.Asks.{running_in}
use Rattle.group_rows.specs.Created.{created_of, token_called}
use Rattle.rpc_message.specs.Message.{id_of}
use Rattle.mux_turns.proofs.Named.{names_none, names_some}
use Rattle.mux_starts.proofs.Progressing.{due_is, not_called}
use Rattle.mux_starts.proofs.creates.due_of.Goals as goal

pub returns-in_default : goal.returns-in_default
returns-in_default c = λ settings before body method params x read says here st.
    ap (λ o. token_called o (created_of settings x.life.start before)) (names_none (option_and_then id_of (named_of (codes "token") params)) (c.in_default.ensures body method params read says))

pub returns-in_default-created_as : goal.returns-in_default-created_as
returns-in_default-created_as c = λ settings before body method params x read says here st.
    let i = names_some (option_and_then id_of (named_of (codes "token") params)) c.in-Some.token.now (c.in-Some.ensures body method params read says) in
    ap (λ o. token_called o (created_of settings x.life.start before)) i.1 ∙ not_called (token_called (Some i.0) (created_of settings x.life.start before)) (c.in_default-created_as.ensures settings before x i.0 here i.2 st)

pub returns : goal.returns
returns c = λ settings before body method params x read says here st.
    let i = names_some (option_and_then id_of (named_of (codes "token") params)) c.in-Some.token.now (c.in-Some.ensures body method params read says) in
    let those = c.deref.ensures.value ∙ (c.in_ok-numbers.ensures.those settings before st ∙ ap (λ h. running_in settings h before) (c.group_number.ensures x here)) in
    due_is settings before x.life.group x.life.start params i.0 (record { token = c.in-Some-created_as.k; editors = c.in_ok-editors.editors }) i.1 (c.in-Some-created_as.ensures settings before x i.0 here i.2 st) c.deref.result.now those (c.in_ok-editors.ensures settings before x here st)
