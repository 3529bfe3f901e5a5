-- The first that waits goes on.
use Rattle.std.proofs.Common.{◌∙◌, ap, drop, refl, subst, sym}
use Rattle.mux_waits.specs.Rows.{Becomes}
use Rattle.mux_tables.specs.declared.tables.Start.{Start}
use Rattle.mux_tables.proofs.Starts.{read_same}
use Rattle.mux_tables.proofs.tables.Tables.send_first.Goals as goal

pub returns-clause-waiting : goal.returns-clause-waiting
returns-clause-waiting c = λ x here.
    let mine = c.group-group.ensures ∙ ap (λ (w : Start). w.life.group) (read_same c.args.self.now.lasts.items c.args.g c.index.result.now x c.requires.group c.index.ensures here) in
    subst (λ rows. Becomes x.life.group (drop 1) c.args.self.now.origins.waiting rows) (sym (ap (λ v. v.waiting) c.ask.ensures.origins)) (subst (λ n. Becomes n (drop 1) c.args.self.now.origins.waiting c.pop.new.self) mine c.pop.ensures)

pub returns-clause-does : goal.returns-clause-does
returns-clause-does c = λ settings base s name method ps r at says own idle first mine sends x here.
    let group = c.group-group.ensures ∙ ap (λ (w : Start). w.life.group) (read_same c.args.self.now.lasts.items c.args.g c.index.result.now x c.requires.group c.index.ensures here) in
    c.in_ok-ask.ensures.waited settings base c.args.self.now x s name method ps r
    (record { rest = refl; waits = subst (λ n. Becomes n (drop 1) c.args.self.now.origins.waiting c.pop.new.self) group c.pop.ensures }) here at says own idle first mine sends
