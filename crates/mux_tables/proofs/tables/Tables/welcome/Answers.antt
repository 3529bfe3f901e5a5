-- The editor's `initialize` is answered.
use Rattle.std.proofs.Common.{refl, ap, ◌∙◌, length}
use Rattle.std.specs.Prelude.{slice_get}
use Rattle.std.proofs.lemmas.List.{length-set}
use Rattle.mux_tables.specs.Names.{id_in}
use Rattle.mux_tables.proofs.Phased.{phased_id}
use Rattle.mux_tables.proofs.Waits.{ids_kept}
use Rattle.event_model.specs.declared.phase.Phase.TheVariants.{Answered}
use Rattle.mux_tables.proofs.Said.{answer_waits, welcome_does}
use Rattle.mux_tables.proofs.DocumentSaid.{told_documents}
use Rattle.mux_tables.proofs.tables.Tables.welcome.Goals as goal
use Rattle.event_model.specs.Event.{behind}

pub returns-clause-does : goal.returns-clause-does
returns-clause-does c = λ settings base k a. welcome_does settings c.args.self.now _ c.args.outs.now c.push.new.self base c.args.e c.args.body Answered c.requires k.0 k.1 c.set.ensures refl refl refl refl refl refl
    (λ st. answer_waits settings c.args.self.now (record c.args.self.now { origins = record c.args.self.now.origins { waiting = c.answer.new.self } }) (behind base c.args.outs.now) c.args.e c.args.id.now c.args.body c.home-home.result a (c.home-home.ensures settings (behind base c.args.outs.now) st) c.answer.ensures) refl c.in_ok-push.ensures.ok

pub returns-clause-documents : goal.returns-clause-documents
returns-clause-documents c = λ settings owed base ds. told_documents settings owed c.args.self.now _ base c.args.outs.now c.push.new.self c.args.e c.args.body refl refl refl c.in_ok-push.ensures.ok ds

pub returns-clause-count : goal.returns-clause-count
returns-clause-count c = ap length c.set.ensures ∙ length-set c.args.self.now.editors c.args.e _

pub returns-clause-ids : goal.returns-clause-ids
returns-clause-ids c = λ n. ap (λ xs. id_in (slice_get xs n)) c.set.ensures ∙ ids_kept c.args.self.now.editors c.args.e _ c.requires (phased_id c.args.self.now.editors c.args.e Answered refl) n
