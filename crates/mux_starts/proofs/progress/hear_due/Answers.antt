-- A notification of a live token is heard.
use Rattle.std.proofs.Common.{ap, codes, subst, ◌∙◌}
use Rattle.std.specs.Option.{option_and_then}
use Rattle.event_model.specs.Event.{with_cause}
use Rattle.event_model.specs.Members.{named_of}
use Rattle.mux_history.specs.declared.cause.Cause.TheVariants.{FromServer}
use Rattle.rpc_message.specs.Message.{id_of, message_of}
use Rattle.mux_tables.specs.Documents.{AllStand, nothing_owed}
use Rattle.mux_turns.proofs.Named.{names_none, names_some}
use Rattle.mux_starts.proofs.Progressing.{unnamed_due}
use Rattle.mux_starts.proofs.progress.hear_due.Goals as goal

pub returns-in_default-clause-stands : goal.returns-in_default-clause-stands
returns-in_default-clause-stands c = λ settings before body method params s x read says tells lives here ready at st ds.
    absurd (unnamed_due settings before x.life.group x.life.start params (names_none (option_and_then id_of (named_of (codes "token") params)) (c.in_default.ensures body method params read says)) lives)

pub returns-clause-stands : goal.returns-clause-stands
returns-clause-stands c = λ settings before body method params s x read says tells lives here ready at st ds.
    let i = names_some (option_and_then id_of (named_of (codes "token") params)) c.in-Some.token.now (c.in-Some.ensures body method params read says) in
    let is = c.new-body.ensures ∙ c.in_ok-from_slice.ensures.items ∙ c.bytes.ensures.bytes ∙ read.bytes_are in
    let kind = c.in_ok-kind.ensures body method params read says in
    let same = ap message_of is ∙ says in
    subst (λ w. AllStand settings (c.hear_progress.new.self, nothing_owed) (with_cause before (FromServer s w))) is (c.in_ok-hear_progress.ensures.stands settings before method params s x i.0 here ready at same tells i.1 i.2 kind.0 kind.1 st, c.in_ok-hear_progress.ensures.documents settings nothing_owed before method params s x here ready at same st ds)
