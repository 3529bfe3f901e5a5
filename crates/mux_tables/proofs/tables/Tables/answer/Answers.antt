-- An editor's request is answered.
use Rattle.std.proofs.Common.{refl, subst, sym}
use Rattle.event_model.specs.Event.{behind}
use Rattle.mux_waits.specs.Rows.{BecomesAt}
use Rattle.mux_waits.specs.held_requests.specs.Tables.{is_under}
use Rattle.mux_waits.specs.numbered_rows.specs.Rows.{less}
use Rattle.mux_tables.proofs.DocumentSaid.{told_documents}
use Rattle.mux_tables.proofs.Said.{answer_does}
use Rattle.mux_tables.proofs.tables.Tables.answer.Goals as goal

pub returns-clause-does : goal.returns-clause-does
returns-clause-does c = λ settings base k a.
    answer_does settings c.args.self.now _ c.args.outs.now c.push.new.self base c.args.e c.args.id.now c.args.body c.home-home.result k a (c.home-home.ensures settings (behind base c.args.outs.now)) c.answer.ensures refl refl refl refl refl refl refl refl c.in_ok-push.ensures.ok

pub returns-clause-documents : goal.returns-clause-documents
returns-clause-documents c = λ settings owed base ds. told_documents settings owed c.args.self.now _ base c.args.outs.now c.push.new.self c.args.e c.args.body refl refl refl c.in_ok-push.ensures.ok ds

pub returns-clause-waiting : goal.returns-clause-waiting
returns-clause-waiting c = λ settings events st. subst (λ home. BecomesAt home (less (is_under c.args.e c.args.id.now)) c.args.self.now.origins.waiting c.answer.new.self) (sym (c.home-home.ensures settings events st)) c.answer.ensures
