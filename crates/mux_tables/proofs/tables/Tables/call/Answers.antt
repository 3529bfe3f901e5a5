-- An editor is told of registrations.
use Rattle.std.proofs.Common.{ap, length, refl, ◌∙◌}
use Rattle.std.proofs.lemmas.List.{length-set}
use Rattle.event_model.specs.Event.{behind}
use Rattle.mux_tables.proofs.DocumentSaid.{told_documents}
use Rattle.mux_tables.proofs.Putting.{unasked_documents}
use Rattle.mux_tables.proofs.Registered.{call_does, uncalled_does}
use Rattle.mux_tables.proofs.tables.Tables.call.Goals as goal

pub returns-in_default-clause-count : goal.returns-in_default-clause-count
returns-in_default-clause-count c = ap length c.ask_number.ensures.kept ∙ length-set c.args.self.now.editors c.args.e _

pub returns-in_default-clause-does : goal.returns-in_default-clause-does
returns-in_default-clause-does c = λ settings base method params runs next quiet creates none. uncalled_does settings c.args.self.now _ base c.args.outs.now c.args.e c.args.text method params c.requires runs next c.args.outs.now c.in_default.ensures.number

pub returns-in_default-clause-documents : goal.returns-in_default-clause-documents
returns-in_default-clause-documents c = λ settings owed base ds. unasked_documents settings owed c.args.self.now _ (behind base c.args.outs.now) refl refl refl ds

pub returns-clause-count : goal.returns-clause-count
returns-clause-count c = ap length c.ask_number.ensures.kept ∙ length-set c.args.self.now.editors c.args.e _

pub returns-clause-does : goal.returns-clause-does
returns-clause-does c = λ settings base method params runs next quiet creates none.
    call_does settings c.args.self.now _ base c.args.outs.now c.args.e c.args.text method params c.requires runs next c.push.new.self c.in-Some.field-0 quiet creates none c.in-Some.ensures.number c.ask_number.ensures.kept refl refl refl refl refl c.in_ok-push.ensures.ok

pub returns-clause-documents : goal.returns-clause-documents
returns-clause-documents c = λ settings owed base ds. told_documents settings owed c.args.self.now _ base c.args.outs.now c.push.new.self c.args.e c.args.text refl refl refl c.in_ok-push.ensures.ok ds
