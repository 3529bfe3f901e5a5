use Rattle.std.proofs.Common.{◌≡◌, ◌∙◌, ap, ◌++◌, [], ◌∷◌}
use Rattle.json.specs.Token.{string}
use Rattle.json_span.proofs.Quoted.{printed_string}
use Rattle.json_span.proofs.string.append_quoted.Goals as goal

pub returns : goal.returns
returns c =
    let tokens : c.string.new.self.tokens ≡ string c.args.text.now ∷ [] = rw c.in_ok-string.was at c.string.ensures.ok ∙ ap (λ ts. ts ++ string c.args.text.now ∷ []) c.new-writer.ensures.tokens in
    let before : c.string.new.self.before ≡ c.args.written.items = c.string.ensures.room.0 ∙ c.new-writer.ensures.before in
    printed_string c.args.written.items _ _ _ c.args.text.now c.into_inner.ensures.items before tokens
