-- The last list of the document of a number.
use Rattle.std.proofs.Common.{List, slice_get, ap, ◌∙◌}
use Rattle.diagnostics_route.specs.declared.last_list.LastList.{LastList}
use Rattle.mux_tables.proofs.Listed.{lists_seen}
use Rattle.mux_tables.proofs.tables.Tables.list_at.Goals as goal

pub returns : goal.returns
returns c = λ settings events x at ready st. c.get.ensures ∙ ap (λ (ls : List LastList). slice_get ls c.args.n) (lists_seen settings c.args.self.now events c.args.g x c.index.result.now at c.requires c.index.ensures ready st)
