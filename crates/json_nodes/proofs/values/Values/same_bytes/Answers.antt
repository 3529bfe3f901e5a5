use Rattle.std.proofs.Common.{sym, ◌∙◌, ap₂}
use Rattle.std.specs.Prelude.{bytes_eq}
use Rattle.json_text.specs.Json.{span_of}
use Rattle.json_nodes.proofs.Bounds.{at_shallow}
use Rattle.json_nodes.proofs.SameBytes.{bytes_meaning}
use Rattle.json_nodes.proofs.values.Values.same_bytes.Goals as goal

pub returns-clause-test : goal.returns-clause-test
returns-clause-test c = λ t u a b. c.eq.ensures ∙ ap₂ bytes_eq (c.bytes.ensures.place t a) (c.bytes-2.ensures.place u b)

pub returns-clause-says : goal.returns-clause-says
returns-clause-says c = λ t u a b h. bytes_meaning c.bytes.result.now c.bytes-2.result.now (span_of t).from (span_of u).from t u (c.bytes.ensures.spelled t a) (c.bytes-2.ensures.spelled u b) (at_shallow a) (at_shallow b) (sym c.eq.ensures ∙ h)
