-- A whole answer.
use Rattle.rpc_message.specs.Message.{message_of}
use Rattle.event_model.specs.Event.{with_cause}
use Rattle.event_model.specs.Stages.{is_first_result}
use Rattle.event_model.proofs.Turns.{does_alike}
use Rattle.group_rows.specs.Answers.{answer_row}
use Rattle.group_words.specs.Houses.{is_first_error}
use Rattle.mux_history.specs.declared.cause.Cause.TheVariants.{FromServer}
use Rattle.mux_tables.specs.Documents.{AllStand, nothing_owed}
use Rattle.mux_tables.proofs.DocumentOwed.{all_does}
use Rattle.mux_starts.proofs.Parking.{unasked, unasked_keeps}
use Rattle.mux_starts.proofs.Answering.{reply_goes}
use Rattle.mux_turns.proofs.Matched.{not_early, not_first, not_spawning, whole_entry}
use Rattle.mux_starts.proofs.answers.take_answer.Goals as goal

pub returns-clause-does : goal.returns-clause-does
returns-clause-does c = λ settings before body s x read reply created unlisted first here ready at known meant st ds.
    let m = message_of body in
    let base = with_cause before (FromServer s body) in
    let u = c.hear_answer.new.self in
    let v = c.hand_out.new.tables in
    let xs = c.args.outs.now in
    let ys = c.hand_out.new.outs in
    let r = c.in_ok-reply.reply in
    let named = c.answered_number-n.ensures body read in
    let given = c.in_ok-reply.ensures settings before body s x read named here ready at known st ds in
    let moved = c.hear_answer.ensures.moves settings before s body x here at (not_early (is_first_result m) x.life.stage ready) (not_first (is_first_error m) x.life.stage ready) (unasked settings before s body reply) (unasked_keeps settings before s body reply) unlisted created named st in
    let docs = c.hear_answer.ensures.documents settings nothing_owed before s body x here at (not_first (is_first_result m) x.life.stage ready) (λ e. not_spawning x.life.stage ready e) st ds in
    whole_entry (λ k events. AllStand settings k events) (answer_row settings s before body m) base (u, nothing_owed) (v, nothing_owed) xs ys first (moved, docs)
    (does_alike (λ _. given.0) (all_does settings u v nothing_owed nothing_owed base xs ys (c.in_ok-hand_out.ensures.does settings base (reply_goes settings before s body meant xs r first given.1)) (λ _ d. c.in_ok-hand_out.ensures.documents settings nothing_owed base d)))
