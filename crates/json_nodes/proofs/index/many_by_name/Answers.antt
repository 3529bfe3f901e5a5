use Rattle.std.proofs.Common.{subst, sym}
use Rattle.std.specs.Option.{IfSome}
use Rattle.json_nodes.specs.Index.{KeepsLast}
use Rattle.json_nodes.specs.Values.{doc_of}
use Rattle.json_nodes.proofs.ByName.{kept_ok}
use Rattle.json_nodes.proofs.index.many_by_name.Goals as goal

pub returns : goal.returns
returns c = subst (λ o. IfSome o (λ last. KeepsLast last (doc_of c.args.values) c.args.node)) (sym c.ok.ensures.value) (kept_ok (λ last. KeepsLast last (doc_of c.args.values) c.args.node) c.last_members.result c.last_members.ensures)
