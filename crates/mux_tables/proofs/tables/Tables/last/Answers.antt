-- The group whose last start this is.
use Rattle.std.proofs.Common.{sym, ◌∙◌}
use Rattle.mux_tables.proofs.Seen.{other_off, other_over, start_read}
use Rattle.mux_tables.proofs.tables.Tables.last.Goals as goal

pub returns-then-start-s-clause-none : goal.returns-then-start-s-clause-none
returns-then-start-s-clause-none c = λ settings events st.
    other_over settings c.args.self.now events c.args.s st c.in_ok-g.g c.in_ok-place.place c.index.result.now (sym c.in_ok-g.ensures) c.in_ok-place.ensures.inside c.index.ensures c.in_ok-place.ensures.number (λ e. c.if-start-s.true (c.start.ensures ∙ e))

pub returns-then-start-s-clause-halted : goal.returns-then-start-s-clause-halted
returns-then-start-s-clause-halted c = λ settings events st.
    (other_off settings c.args.self.now events c.args.s st c.in_ok-g.g c.in_ok-place.place c.index.result.now (sym c.in_ok-g.ensures) c.in_ok-place.ensures.inside c.index.ensures c.in_ok-place.ensures.number (λ e. c.if-start-s.true (c.start.ensures ∙ e))).0

pub returns-then-start-s-clause-settled : goal.returns-then-start-s-clause-settled
returns-then-start-s-clause-settled c = λ settings events st.
    (other_off settings c.args.self.now events c.args.s st c.in_ok-g.g c.in_ok-place.place c.index.result.now (sym c.in_ok-g.ensures) c.in_ok-place.ensures.inside c.index.ensures c.in_ok-place.ensures.number (λ e. c.if-start-s.true (c.start.ensures ∙ e))).1

pub returns-clause-found : goal.returns-clause-found
returns-clause-found c = start_read c.args.self.now.lasts.items c.in_ok-place.place c.args.s c.start.result c.index.result.now c.in_ok-place.ensures.inside c.index.ensures c.start.ensures c.if-start-s.false
