use Rattle.std.proofs.Common.{◌+◌, ◌∙◌}
use Rattle.json_text.specs.Json.{object}
use Rattle.json_text.specs.Named.{named}
use Rattle.json_nodes.specs.Values.{doc_of}
use Rattle.json_nodes.specs.Same.{drop_members}
use Rattle.json_nodes.proofs.Sames.{found_some}
use Rattle.json_nodes.proofs.values.Values.is_named_again.Goals as goal

pub returns : goal.returns
returns c = λ k n s u ms cs m g f.
    c.is_some.ensures ∙ found_some (doc_of c.args.self) (named cs (drop_members (n + 1) ms)) c.last_spelled.result (c.last_spelled.ensures.named k (n + 1) s ms cs (c.name.ensures.spelled k n (object s ms) u cs m g) f)
