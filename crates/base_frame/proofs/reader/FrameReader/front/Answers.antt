use Rattle.std.proofs.Common.{◌∙◌, ap, drop}
use Rattle.base_frame.specs.Machine.{front_from, front_of}
use Rattle.base_frame.specs.Reader.{Held}
use Rattle.base_frame.proofs.Places.{at_now}
use Rattle.base_frame.proofs.reader.FrameReader.front.Goals as goal

pub returns : goal.returns
returns c =
    c.front_at.ensures ∙ (ap (λ b. front_from c.self.inside.limit c.self.inside.place.at c.self.inside.place.state (drop c.self.inside.place.at b)) c.as_slice.ensures.value
    ∙ (at_now c.self.inside.limit c.self.inside.place.at c.self.inside.place.state c.self.inside.rest.items c.self.invariant ∙ ap (λ (h : Held). front_of h.limit h.rest) c.self.view_is))
