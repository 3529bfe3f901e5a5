-- A body that no table of a start speaks of.
use Rattle.mux_tables.proofs.Sent.{notify_does}
use Rattle.std.proofs.Common.{refl, ap, [], ◌∷◌, ◌++◌, ◌∙◌}
use Rattle.mux_history.specs.declared.out.Out.TheVariants.{ToServer}
use Rattle.mux_tables.proofs.Starts.{read_here, start_at_place}
use Rattle.mux_tables.proofs.DocumentSaid.{idle_documents, notified_documents}
use Rattle.mux_tables.proofs.tables.Tables.notify.Goals as goal

pub returns-clause-does : goal.returns-clause-does
returns-clause-does c = λ settings base s at runs counts silent. notify_does settings c.args.self.now c.args.outs.now c.push.new.self base c.args.g s c.start.result c.index.result.now c.args.text at c.requires c.index.ensures runs counts (silent c.index.result.now (read_here c.args.self.now.lasts.items c.args.g c.index.result.now c.requires c.index.ensures)) c.start.ensures c.in_ok-push.ensures.ok

pub returns-clause-documents : goal.returns-clause-documents
returns-clause-documents c = λ settings owed base silent aside ds. notified_documents settings owed c.args.self.now c.args.self.now base c.args.outs.now c.push.new.self c.start.result c.args.text silent aside refl refl refl c.in_ok-push.ensures.ok ds

pub returns-clause-outs : goal.returns-clause-outs
returns-clause-outs c = λ s at. c.in_ok-push.ensures.ok ∙ ap (λ n. c.args.outs.now ++ ToServer n c.args.text ∷ []) (c.start.ensures ∙ start_at_place c.args.self.now.lasts.items c.args.g s c.index.result.now (read_here c.args.self.now.lasts.items c.args.g c.index.result.now c.requires c.index.ensures) at)

pub returns-clause-idle : goal.returns-clause-idle
returns-clause-idle c = λ settings owed base method ps says silent idle ds. idle_documents settings owed c.args.self.now c.args.self.now base c.args.outs.now c.push.new.self c.start.result c.args.text method ps says silent idle refl refl refl c.in_ok-push.ensures.ok ds
