use Rattle.std.proofs.Common.{◌∙◌, ap, sym, subst}
use Rattle.base_frame.specs.Machine.{front_of, is_whole, Taken}
use Rattle.base_frame.proofs.Readers.{stands_bad, fed_none, fed_taken}
use Rattle.base_frame.proofs.reader.FrameReader.feed.Goals as goal

pub returns-then-is_bad-clause-fed : goal.returns-then-is_bad-clause-fed
returns-then-is_bad-clause-fed c = λ fed given h. stands_bad c.args.self.now fed given c.args.piece.now (sym c.is_bad.ensures.front ∙ c.if-is_bad.true) h

pub returns-then-not-has_frame-clause-fed : goal.returns-then-not-has_frame-clause-fed
returns-then-not-has_frame-clause-fed c = λ fed given h.
    fed_none c.args.self.now c.self.inside.limit c.self.inside.ready.items c.self.inside.rest.items c.extend_from_slice.new.self.items fed given c.args.piece.now c.self.view_is
    (sym c.is_bad.ensures.front ∙ c.if-is_bad.false) c.in_ok-extend_from_slice.ensures.items
    (ap (λ b. is_whole (front_of c.self.inside.limit b)) (sym c.as_slice.ensures.value) ∙ sym c.if-not-has_frame.ensures) h

pub returns-in-Ok-clause-fed : goal.returns-in-Ok-clause-fed
returns-in-Ok-clause-fed c = λ fed given h.
    fed_taken c.args.self.now c.self.inside.limit c.self.inside.ready.items c.take_frames.new.ready.items c.self.inside.rest.items c.extend_from_slice.new.self.items c.in-Ok.rest.items fed given c.args.piece.now c.self.view_is
    (sym c.is_bad.ensures.front ∙ c.if-is_bad.false) c.in_ok-extend_from_slice.ensures.items
    (subst (λ b. Taken c.self.inside.limit b c.self.inside.ready.items c.take_frames.new.ready.items c.in-Ok.rest.items) c.as_slice-2.ensures.value c.in-Ok.ensures.ok) h
