-- An editor's notification goes on behind a sync.
use Rattle.std.proofs.Common.{[], ◌∷◌, ◌++◌, refl, ap, ◌∙◌}
use Rattle.mux_history.specs.declared.out.Out.TheVariants.{ToServer}
use Rattle.mux_tables.specs.declared.tables.Start.{Start}
use Rattle.mux_tables.proofs.DocumentAsked.{passed_does}
use Rattle.mux_tables.proofs.Starts.{read_here, read_same}
use Rattle.mux_tables.proofs.tables.Tables.pass_notice.Goals as goal

pub returns-clause-does : goal.returns-clause-does
returns-clause-does c = λ settings base s method ps at says synced works x here.
    let z = c.index.result.now in
    passed_does settings c.args.self.now _ c.args.outs.now c.push.new.self c.in_ok-told.told base c.args.g s c.start.result c.args.e z c.args.text method ps at c.requires.group c.index.ensures
    (c.requires.ready z (read_here c.args.self.now.lasts.items c.args.g z c.requires.group c.index.ensures)) says synced works refl refl refl refl refl refl refl c.in_ok-told.ensures c.start.ensures
    (c.in_ok-push.ensures.ok ∙ ap (λ ws. ws ++ ToServer c.start.result c.args.text ∷ []) c.in_ok-append.ensures.ok) x.life.group (ap (λ (w : Start). w.life.group) (read_same c.args.self.now.lasts.items c.args.g z x c.requires.group c.index.ensures here))
