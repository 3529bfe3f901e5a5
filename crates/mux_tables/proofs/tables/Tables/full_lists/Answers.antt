-- The documents whose last list isn't empty.
use Rattle.std.proofs.Common.{◌∙◌, ap}
use Rattle.std.proofs.lemmas.Result.{IfOk-weaker}
use Rattle.diagnostics_route.specs.Lists.{nonempty}
use Rattle.mux_tables.proofs.Listed.{lists_seen}
use Rattle.mux_tables.proofs.tables.Tables.full_lists.Goals as goal

pub returns : goal.returns
returns c = λ settings events x at ready st. IfOk-weaker c.nonempty.result _ _
    (λ numbers is. is ∙ ap nonempty (lists_seen settings c.args.self.now events c.args.g x c.index.result.now at c.requires c.index.ensures ready st)) c.nonempty.ensures
