use Rattle.std.proofs.Common.{Some, ap, sym, ◌∙◌}
use Rattle.response_route.proofs.Making.{version_edits}
use Rattle.response_route.proofs.edits.put_version.Goals as goal

pub returns : goal.returns
returns c = λ t a. rw c.in-Some.is (ap Some (sym (c.in_ok-changes.ensures.edits t a ∙ version_edits c.in-Some.text.now t)))
