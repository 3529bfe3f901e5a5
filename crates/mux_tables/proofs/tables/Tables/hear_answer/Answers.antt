-- A message that doesn't answer `initialize`.
use Rattle.std.proofs.Common.{refl}
use Rattle.mux_history.specs.declared.cause.Cause.TheVariants.{FromServer}
use Rattle.event_model.specs.Event.{heard}
use Rattle.mux_tables.proofs.TokenMoves.{heard_all, origins_stay}
use Rattle.mux_tables.proofs.Starts.{stages_stay, starts_stay}
use Rattle.mux_tables.proofs.Served.{answer_moves, answer_found, found_of}
use Rattle.mux_tables.proofs.DocumentHeard.{answer_documents_by}
use Rattle.rpc_message.specs.Message.{message_of}
use Rattle.mux_tables.proofs.tables.Tables.hear_answer.Goals as goal
use Rattle.mux_waits.proofs.Moves.{quiet_waits}

pub returns-clause-starts : goal.returns-clause-starts
returns-clause-starts c = starts_stay c.args.self.now.lasts.items c.args.g c.index_mut-last.result.now (record c.index_mut-last.result.now { ids = c.answer.new.ids }) c.requires c.index_mut-last.ensures.value refl

pub returns-clause-stages : goal.returns-clause-stages
returns-clause-stages c = stages_stay c.args.self.now.lasts.items c.args.g c.index_mut-last.result.now (record c.index_mut-last.result.now { ids = c.answer.new.ids }) c.requires c.index_mut-last.ensures.value refl

pub returns-clause-moves : goal.returns-clause-moves
returns-clause-moves c = λ settings events s body x is at result error still stays keeps rests named st.
    answer_moves settings c.args.self.now _ events c.args.g s x c.index_mut-last.result.now body c.args.n c.answer.new.ids is at c.requires c.index_mut-last.ensures.value result error still stays keeps named c.answer.ensures.requests c.answer.ensures.next c.answer.ensures.limit c.answer.ensures.order refl refl refl refl
    (origins_stay settings c.args.self.now.origins c.args.self.now.origins events (heard (FromServer s body)) refl (heard_all settings s events body (message_of body) rests) (λ rows. quiet_waits settings rows events (heard (FromServer s body)) refl)) refl st

pub returns-clause-found : goal.returns-clause-found
returns-clause-found c = λ settings events s k at is st. answer_found settings c.args.self.now events c.args.g s k c.index_mut-last.result.now c.answer.result at c.requires c.index_mut-last.ensures.value (found_of c.args.n k c.answer.result c.index_mut-last.result.now.ids.requests is c.answer.ensures.value) st

pub returns-clause-documents : goal.returns-clause-documents
returns-clause-documents c = λ settings owed events s body x is at later runs st ds.
    answer_documents_by settings owed c.args.self.now _ events c.args.g s x c.index_mut-last.result.now (record c.index_mut-last.result.now { ids = c.answer.new.ids }) body (message_of body) c.args.n is at c.requires c.index_mut-last.ensures.value later runs refl c.answer.ensures.requests refl refl refl st ds
