use Rattle.std.proofs.Common.{◌∙◌, ap}
use Rattle.std.specs.Prelude.{bytes_eq}
use Rattle.json_text.specs.Json.{span_of}
use Rattle.mux_members.proofs.Results.{one_told}
use Rattle.mux_members.proofs.outcome.is_one.Goals as goal

pub returns : goal.returns
returns c = λ t id f e. one_told t id (span_of t).from c.bytes.result.now c.eq.result (c.bytes.ensures t f) e (c.eq.ensures ∙ ap (λ z. bytes_eq c.bytes.result.now z) c.as_bytes.ensures.value)
