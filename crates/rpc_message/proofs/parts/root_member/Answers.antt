use Rattle.std.proofs.Common.{Some}
use Rattle.json_span.specs.json_nodes.specs.Values.{doc_of}
use Rattle.json_span.specs.json_nodes.proofs.Numbers.{root_at}
use Rattle.rpc_message.proofs.parts.root_member.Goals as goal

pub returns-clause-member : goal.returns-clause-member
returns-clause-member c = λ j h. c.maybe_member.ensures.member (Some j) (root_at (doc_of c.args.values) j h)
