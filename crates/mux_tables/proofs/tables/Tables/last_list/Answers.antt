-- The last list of a document.
use Rattle.std.proofs.Common.{find, sym, ap, ◌∙◌}
use Rattle.diagnostics_route.specs.Rows.{is_of}
use Rattle.mux_tables.proofs.Listed.{found_list, lists_seen, no_list}
use Rattle.mux_tables.proofs.tables.Tables.last_list.Goals as goal

pub returns-in-Some : goal.returns-in-Some
returns-in-Some c = λ settings events x at ready st.
    c.get.ensures ∙ (sym (found_list c.args.uri.now c.index.result.now.lists c.in-Some.number (sym c.in-Some.ensures))
    ∙ ap (find (is_of c.args.uri.now)) (lists_seen settings c.args.self.now events c.args.g x c.index.result.now at c.requires c.index.ensures ready st))

pub returns-in-None : goal.returns-in-None
returns-in-None c = λ settings events x at ready st.
    sym (no_list c.args.uri.now c.index.result.now.lists (sym c.in-None.ensures)) ∙ ap (find (is_of c.args.uri.now)) (lists_seen settings c.args.self.now events c.args.g x c.index.result.now at c.requires c.index.ensures ready st)
