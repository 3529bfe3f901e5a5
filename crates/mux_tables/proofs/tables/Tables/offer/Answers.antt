-- An editor is asked to take a token.
use Rattle.std.proofs.Common.{ap, length, refl, ◌∙◌}
use Rattle.std.proofs.lemmas.List.{length-set}
use Rattle.event_model.specs.Event.{behind}
use Rattle.mux_tokens.specs.progress_route.specs.Tables.{put_to}
use Rattle.mux_tokens.specs.Rows.{changed}
use Rattle.mux_tables.proofs.Creating.{number_is, offer_does, unoffered_does}
use Rattle.mux_tables.proofs.DocumentSaid.{told_documents}
use Rattle.mux_tables.proofs.Putting.{unasked_documents}
use Rattle.mux_tables.proofs.tables.Tables.offer.Goals as goal

pub returns-in_default-clause-count : goal.returns-in_default-clause-count
returns-in_default-clause-count c = ap length c.ask_number.ensures.kept ∙ length-set c.args.self.now.editors c.args.e _

pub returns-in_default-clause-does : goal.returns-in_default-clause-does
returns-in_default-clause-does c = λ settings base x at runs left offer none. unoffered_does settings c.args.self.now _ base c.args.outs.now c.args.outs.now c.args.e c.requires.editor runs left c.in_default.ensures.number

pub returns-in_default-clause-documents : goal.returns-in_default-clause-documents
returns-in_default-clause-documents c = λ settings owed base ds. unasked_documents settings owed c.args.self.now _ (behind base c.args.outs.now) refl refl refl ds

pub returns-clause-count : goal.returns-clause-count
returns-clause-count c = ap length c.ask_number.ensures.kept ∙ length-set c.args.self.now.editors c.args.e _

pub returns-clause-does : goal.returns-clause-does
returns-clause-does c = λ settings base x at runs left offer none.
    offer_does settings c.args.self.now _ base c.args.outs.now c.push.new.self x.life.start c.args.e c.args.k c.in-Some.n c.start-s.result c.args.text c.requires.editor runs offer none c.in-Some.ensures.number
    (number_is c.args.self.now.lasts.items c.args.g x c.index.result.now c.start-s.result at c.requires.group c.index.ensures c.start-s.ensures)
    c.ask_number.ensures.kept refl refl refl refl refl (c.in_ok-ask.ensures ∙ ap (λ m. changed c.start-s.result (put_to c.args.k c.args.e m) c.args.self.now.origins.created) c.from.ensures) refl refl c.in_ok-push.ensures.ok

pub returns-clause-documents : goal.returns-clause-documents
returns-clause-documents c = λ settings owed base ds. told_documents settings owed c.args.self.now _ base c.args.outs.now c.push.new.self c.args.e c.args.text refl refl refl c.in_ok-push.ensures.ok ds
