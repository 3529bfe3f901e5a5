-- How many documents have a list.
use Rattle.std.proofs.Common.{List, length, ap, ◌∙◌}
use Rattle.diagnostics_route.specs.declared.last_list.LastList.{LastList}
use Rattle.mux_tables.proofs.Listed.{lists_seen}
use Rattle.mux_tables.proofs.tables.Tables.list_count.Goals as goal

pub returns : goal.returns
returns c = λ settings events x at ready st. c.count.ensures ∙ ap (λ (ls : List LastList). length ls) (lists_seen settings c.args.self.now events c.args.g x c.index.result.now at c.requires c.index.ensures ready st)
