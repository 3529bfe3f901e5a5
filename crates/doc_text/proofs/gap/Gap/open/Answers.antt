use Rattle.std.proofs.Common.{◌∙◌}
use Rattle.doc_text.specs.Changes.{offset_in}
use Rattle.doc_text.specs.Gaps.{behind_text, front_text, gap_text}
use Rattle.doc_text.proofs.Gaps.{part_behind}
use Rattle.doc_text.proofs.gap.Gap.open.Goals as goal

pub returns-in_ok-skip-in-Part-clause-behind : goal.returns-in_ok-skip-in-Part-clause-behind
returns-in_ok-skip-in-Part-clause-behind c = part_behind c.args.self.now.encoding c.forward.new.self.encoding c.args.extent c.in-Part.range (gap_text c.args.self.now) (front_text c.forward.new.self.front.items) (behind_text c.forward.new.self.behind.items) _ c.in-Part.is
    (c.in_ok-forward-in-Part.ensures.encoding ∙ c.in_ok-back-in-Part.ensures.encoding) (c.in_ok-forward-in-Part.ensures.text ∙ c.in_ok-back-in-Part.ensures.text)
    (c.in_ok-forward-in-Part.ensures.here ∙ (λ i. offset_in (c.in_ok-back-in-Part.ensures.encoding i) c.in-Part.range.start (c.in_ok-back-in-Part.ensures.text i))) c.in_ok-skip-in-Part.ensures.behind
