use Rattle.std.proofs.Common.{[], ◌∷◌, ◌++◌, ap, ◌∙◌, Some}
use Rattle.mux_service.proofs.Own.{one_link}
use Rattle.mux_service.specs.Services.{stop_request}
use Rattle.base_frame.specs.Frames.{framed}
use Rattle.mux_service.proofs.threads.own_port.Goals as goal

pub returns : goal.returns
returns c = (
  c.new-3.ensures.sessions,
  c.new-3.ensures.links ∙ ap (λ l. Some l)
      (one_link c.push.new.self.items c.new-source.result c.new-sink.result (framed stop_request)
      (c.in_ok-push.ensures.items ∙ ap (λ q. q ++ (c.new-source.result, c.new-sink.result) ∷ []) c.new-links.ensures.items)
      c.new-source.ensures.taken
      (c.new-source.ensures.left ∙ ap (λ b. Some b) (c.in_ok-bytes.ensures.items ∙ (c.bytes.ensures ∙ c.in_ok-request.ensures)))
      c.new-sink.ensures.written c.new-source.ensures.faults c.new-sink.ensures.faults),
)
