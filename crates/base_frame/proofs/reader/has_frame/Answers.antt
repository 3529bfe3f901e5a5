use Rattle.std.proofs.Common.{◌∙◌, ap, sym}
use Rattle.base_frame.specs.Machine.{is_whole}
use Rattle.base_frame.specs.Views.{found_view}
use Rattle.base_frame.proofs.Places.{at_now, not_whole}
use Rattle.base_frame.proofs.reader.has_frame.Goals as goal

pub returns-in-Whole : goal.returns-in-Whole
returns-in-Whole c =
    sym (ap (λ f. is_whole (found_view f)) c.in-Whole.is) ∙ ap is_whole (c.front_at.ensures ∙ at_now c.args.limit c.args.place.at c.args.place.state c.args.bytes.now c.requires)

pub returns-in_default : goal.returns-in_default
returns-in_default c =
    sym (not_whole c.front_at.result c.in_default.not-Whole) ∙ ap is_whole (c.front_at.ensures ∙ at_now c.args.limit c.args.place.at c.args.place.state c.args.bytes.now c.requires)
