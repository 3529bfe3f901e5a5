-- An editor is sent a list.
use Rattle.std.proofs.Common.{refl, ap, ◌∙◌, length, List}
use Rattle.std.specs.Prelude.{slice_get}
use Rattle.std.proofs.lemmas.List.{length-set}
use Rattle.editor_session.specs.declared.session.Session.{Session}
use Rattle.mux_tables.specs.Names.{id_in}
use Rattle.mux_tables.proofs.DocumentSaid.{told_documents}
use Rattle.mux_tables.proofs.Showing.{show_does}
use Rattle.mux_tables.proofs.Waits.{ids_kept}
use Rattle.mux_tables.proofs.tables.Tables.show.Goals as goal

pub returns-clause-does : goal.returns-clause-does
returns-clause-does c = λ settings base list. show_does settings c.args.self.now _ c.args.outs.now c.push.new.self base c.args.e c.args.text c.args.uri.now c.args.empty list c.requires c.in_ok-show.ensures refl refl refl refl refl c.in_ok-push.ensures.ok

pub returns-clause-documents : goal.returns-clause-documents
returns-clause-documents c = λ settings owed base ds. told_documents settings owed c.args.self.now _ base c.args.outs.now c.push.new.self c.args.e c.args.text refl refl refl c.in_ok-push.ensures.ok ds

pub returns-clause-count : goal.returns-clause-count
returns-clause-count c = let is = c.in_ok-show.ensures in ap length is.set ∙ length-set c.args.self.now.editors c.args.e is.session

pub returns-clause-ids : goal.returns-clause-ids
returns-clause-ids c = let is = c.in_ok-show.ensures in λ n. ap (λ (xs : List Session). id_in (slice_get xs n)) is.set ∙ ids_kept c.args.self.now.editors c.args.e is.session c.requires (ap (λ (z : Session). z.id) is.rest) n
