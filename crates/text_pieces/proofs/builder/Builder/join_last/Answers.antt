use Rattle.std.proofs.Common.{◌++◌, ap, ◌∙◌}
use Rattle.text_pieces.proofs.Joined.{joined_last}
use Rattle.text_pieces.proofs.builder.Builder.join_last.Goals as goal

pub returns : goal.returns
returns c = joined_last c.args.self.now.pieces.items c.pop.new.self.items c.in-Some.last c.args.self.now.uncut.bytes.items c.in_ok-joined.joined.bytes.items c.push_str.new.self.bytes.items c.in-Some.ensures.items
    (c.in_ok-joined.ensures.ok ∙ c.as_str.ensures.text) (c.in_ok-push_str.ensures.bytes ∙ ap (λ l. c.in_ok-joined.joined.bytes.items ++ l) c.as_str-2.ensures.value)
