-- An editor is asked, and nothing is kept of it.
use Rattle.std.proofs.Common.{None, ap, length, refl, ◌∙◌}
use Rattle.std.proofs.lemmas.List.{length-set}
use Rattle.event_model.specs.Event.{behind}
use Rattle.mux_tables.proofs.DocumentSaid.{told_documents}
use Rattle.mux_tables.proofs.Putting.{question_does, unasked_does, unasked_documents}
use Rattle.mux_tables.proofs.tables.Tables.question.Goals as goal

pub returns-in_default-clause-count : goal.returns-in_default-clause-count
returns-in_default-clause-count c = ap length c.ask_number.ensures.kept ∙ length-set c.args.self.now.editors c.args.e _

pub returns-in_default-clause-does : goal.returns-in_default-clause-does
returns-in_default-clause-does c = λ settings base body method id params read says creates impatient runs idle. unasked_does settings c.args.self.now _ base c.args.outs.now c.args.e body c.requires runs c.ask_number.ensures.kept refl refl refl refl None refl c.in_default.ensures.number refl

pub returns-in_default-clause-documents : goal.returns-in_default-clause-documents
returns-in_default-clause-documents c = λ settings owed base ds. unasked_documents settings owed c.args.self.now _ (behind base c.args.outs.now) refl refl refl ds

pub returns-clause-count : goal.returns-clause-count
returns-clause-count c = ap length c.ask_number.ensures.kept ∙ length-set c.args.self.now.editors c.args.e _

pub returns-clause-does : goal.returns-clause-does
returns-clause-does c = λ settings base body method id params read says creates impatient runs idle.
    question_does settings c.args.self.now _ base c.args.outs.now c.args.e body c.requires runs c.ask_number.ensures.kept refl refl refl refl c.push.new.self c.in-Some.n c.in_ok-text.text method id params idle says creates impatient c.in-Some.ensures.number (c.in_ok-text.ensures body read) refl c.in_ok-push.ensures.ok

pub returns-clause-documents : goal.returns-clause-documents
returns-clause-documents c = λ settings owed base ds. told_documents settings owed c.args.self.now _ base c.args.outs.now c.push.new.self c.args.e c.in_ok-text.text refl refl refl c.in_ok-push.ensures.ok ds
