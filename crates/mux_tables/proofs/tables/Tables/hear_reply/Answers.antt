-- An editor answers.
use Rattle.std.proofs.Common.{refl}
use Rattle.event_model.specs.Requests.{answered_id}
use Rattle.rpc_message.specs.Message.{message_of}
use Rattle.mux_tables.proofs.Creating.{handed_seen, number_is, reply_moves}
use Rattle.mux_tables.proofs.DocumentHeard.{reply_documents}
use Rattle.mux_tables.proofs.Replying.{answer_seen, replied_by}
use Rattle.mux_tables.proofs.Starts.{read_here, read_same, stages_stay, starts_stay}
use Rattle.mux_tables.proofs.tables.Tables.hear_reply.Goals as goal
use Rattle.mux_tables.proofs.HeldMoves.{heard_stay}

pub returns-clause-starts : goal.returns-clause-starts
returns-clause-starts c = starts_stay c.args.self.now.lasts.items c.args.g c.index_mut-last.result.now (record c.index_mut-last.result.now { asks = c.answer-ask.new.asks }) c.requires.group c.index_mut-last.ensures.value refl

pub returns-clause-stages : goal.returns-clause-stages
returns-clause-stages c = stages_stay c.args.self.now.lasts.items c.args.g c.index_mut-last.result.now (record c.index_mut-last.result.now { asks = c.answer-ask.new.asks }) c.requires.group c.index_mut-last.ensures.value refl

pub returns-clause-ask : goal.returns-clause-ask
returns-clause-ask c = λ settings events body x at ready named st.
    answer_seen settings c.args.self.now events c.args.g c.args.e (answered_id (message_of body)) c.args.n x c.index_mut-last.result.now c.answer-ask.result at (read_same c.args.self.now.lasts.items c.args.g c.index_mut-last.result.now x c.requires.group c.index_mut-last.ensures.value at) ready named c.answer-ask.ensures.given st

pub returns-clause-handed : goal.returns-clause-handed
returns-clause-handed c = λ settings events body x at named st.
    handed_seen settings c.args.self.now events x.life.start c.start-s.result c.args.e c.args.n c.args.accepts body _ (number_is c.args.self.now.lasts.items c.args.g x c.index.result.now c.start-s.result at c.requires.group c.index.ensures c.start-s.ensures) c.in_ok-handed.ensures.handed named st

pub returns-clause-stands : goal.returns-clause-stands
returns-clause-stands c = λ settings events body x at named accepted runs one takes unheld stays goes off step st.
    replied_by settings c.args.self.now _ events c.args.g c.args.e body c.args.phase c.args.n x c.index_mut-last.result.now c.answer-ask.new.asks c.requires.editor at (read_same c.args.self.now.lasts.items c.args.g c.index_mut-last.result.now x c.requires.group c.index_mut-last.ensures.value at) c.set.ensures
    refl refl refl
    (reply_moves settings c.args.self.now (record c.args.self.now { origins = record c.args.self.now.origins { created = c.hand_out.new.created } }) events x.life.start c.start-s.result c.args.e c.args.n c.args.accepts body (number_is c.args.self.now.lasts.items c.args.g x c.index.result.now c.start-s.result at c.requires.group c.index.ensures c.start-s.ensures) refl refl refl (heard_stay settings c.args.self.now.editors events c.args.e body st.house.editors unheld) c.in_ok-handed.ensures.rows named accepted runs takes)
    refl named c.answer-ask.ensures.left one stays goes off step st

pub returns-clause-documents : goal.returns-clause-documents
returns-clause-documents c = λ settings owed events body q ds. reply_documents settings owed c.args.self.now _ events c.args.g c.args.e c.index_mut-last.result.now c.answer-ask.new.asks body (read_here c.args.self.now.lasts.items c.args.g c.index_mut-last.result.now c.requires.group c.index_mut-last.ensures.value) q refl refl refl ds
