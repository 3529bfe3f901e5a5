-- Which request has a work token.
use Rattle.mux_tables.proofs.Marks.{worked_ok}
use Rattle.mux_tables.proofs.tables.Tables.worked.Goals as goal

pub returns : goal.returns
returns c = λ settings events s id named at is_text names st.
    worked_ok c.args.e id c.args.token.now named is_text names settings c.args.self.now events c.args.g s c.index.result.now c.first_worked.result at c.requires c.index.ensures c.first_worked.ensures st
