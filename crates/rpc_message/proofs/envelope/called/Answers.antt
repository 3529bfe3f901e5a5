use Rattle.std.proofs.Common.{sym, ◌∙◌, Some, subst}
use Rattle.json_span.specs.json_nodes.specs.Values.{doc_of}
use Rattle.json_span.specs.json_nodes.specs.At.{Found}
use Rattle.json_span.specs.json_nodes.specs.Doc.{Doc}
use Rattle.rpc_message.proofs.Enveloped.{method_no_text, no_params, is_request, is_notification}
use Rattle.rpc_message.proofs.envelope.called.Goals as goal
use Rattle.rpc_message.proofs.envelope.called.Goals.{then-not-is_string_value-via-then-not-is_string_value, then-not-is_string_value-via-else-not-is_string_value+then-not-are_params}

pub returns-then-not-is_string_value-clause-tells : goal.returns-then-not-is_string_value-clause-tells
returns-then-not-is_string_value-clause-tells c = λ m i p f v a b d.
    elim c.then-not-is_string_value.branch [
      | then-not-is_string_value-via-then-not-is_string_value w ↦ method_no_text i p f v m c.is_string_value.result (c.is_string_value.ensures (Some m) a) w.if-not-is_string_value.true
      | then-not-is_string_value-via-else-not-is_string_value+then-not-are_params w ↦ no_params i p f v m w.are_params.result (w.are_params.ensures p d) w.if-not-are_params.true
    ]

pub returns-in-Some-clause-tells : goal.returns-in-Some-clause-tells
returns-in-Some-clause-tells c = λ m i p f v a b d.
    let doc : Doc = doc_of c.args.values in
    is_request doc p f v c.args.method c.not_null-params.result (sym (c.are_params.ensures p d) ∙ c.if-not-are_params.false) (c.not_null-params.ensures.found p d) m i c.in-Some.id (sym (c.is_string_value.ensures (Some m) a) ∙ c.if-not-is_string_value.false) a (subst (λ o. Found doc i o) c.in-Some.is b)
    (λ t e. sym (c.is_id.ensures t e) ∙ c.if-is_id.true)

pub returns-in-None-clause-tells : goal.returns-in-None-clause-tells
returns-in-None-clause-tells c = λ m i p f v a b d.
    let doc : Doc = doc_of c.args.values in
    is_notification doc p f v c.args.method c.not_null-params.result (sym (c.are_params.ensures p d) ∙ c.if-not-are_params.false) (c.not_null-params.ensures.found p d) m i (sym (c.is_string_value.ensures (Some m) a) ∙ c.if-not-is_string_value.false) a (subst (λ o. Found doc i o) c.in-None.is b)
