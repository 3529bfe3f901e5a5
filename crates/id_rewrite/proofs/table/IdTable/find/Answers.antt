use Rattle.std.proofs.Common.{◌∙◌}
use Rattle.id_rewrite.proofs.Finding.{means, owned}
use Rattle.id_rewrite.proofs.table.IdTable.find.Goals as goal

pub returns-clause-number : goal.returns-clause-number
returns-clause-number c = λ meaning i h all. c.found.ensures.exact ∙ means meaning c.args.editor i c.args.id.now c.args.self.now.requests h all

pub returns-clause-own : goal.returns-clause-own
returns-clause-own c = owned 2 c.args.self.now.next c.args.editor c.args.id.now c.args.self.now.requests c.found.result c.found.ensures.order.rising c.found.ensures.exact
