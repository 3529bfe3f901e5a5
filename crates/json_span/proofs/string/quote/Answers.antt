use Rattle.std.proofs.Common.{◌∙◌, ap, ◌++◌, List, ℕ}
use Rattle.json.specs.Print.{quoted}
use Rattle.json_span.proofs.Quoted.{quoted_body}
use Rattle.json_span.proofs.string.quote.Goals as goal

pub returns-clause-text : goal.returns-clause-text
returns-clause-text c =
    let text = rw c.unwrap-text.ensures at c.from_utf8.ensures.cases in
    c.new.ensures ∙ (c.in_ok-append_quoted.ensures ∙ (ap (λ (front : List ℕ). front ++ quoted c.unwrap-text.result.now) c.in_ok-written.ensures.items ∙ ap quoted text.0))

pub returns-clause-string : goal.returns-clause-string
returns-clause-string c = quoted_body c.new.result c.args.text.now (returns-clause-text c) c.requires
