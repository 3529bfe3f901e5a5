use Rattle.std.proofs.Common.{◌≡◌, ◌∙◌, ap, codes}
use Rattle.json_span.specs.json_nodes.specs.Values.{doc_of}
use Rattle.rpc_message.specs.Parsed.{Parsed}
use Rattle.rpc_message.proofs.Reading.{read_bytes}
use Rattle.rpc_message.proofs.Standing.{id_chars}
use Rattle.rpc_message.proofs.message.Message.id_bytes.Goals as goal

pub returns : goal.returns
returns c = λ bytes r.
    let same : doc_of c.values.result ≡ c.args.self.now.doc = c.values.ensures.same ∙ ap (λ (p : Parsed). p.doc) c.self.view_is in
    read_bytes c.args.self.now bytes c.member_bytes.result.now (codes "id") (doc_of c.values.result) same r c.member_bytes.ensures id_chars
