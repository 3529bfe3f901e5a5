use Rattle.std.proofs.Common.{codes, option_map, sym, ◌∙◌, ap}
use Rattle.std.specs.Str.{chars}
use Rattle.json_text.specs.Named.{named_in}
use Rattle.json_nodes.specs.Nodes.{kind_of}
use Rattle.json_span.proofs.Walks.{found_nothing, found_gives}
use Rattle.json_rows.proofs.spans.kind_of_id.Goals as goal

pub returns-in_err-id : goal.returns-in_err-id
unfolding chars
returns-in_err-id c = λ j h. c.from_residual.ensures ∙ ap (option_map kind_of) (sym (found_nothing c.args.tape.now (named_in (codes "id") j) (c.in_err-id.ensures.member j (c.root.ensures.value j h))))

pub returns : goal.returns
unfolding chars
returns c = λ j h. found_gives c.args.tape.now c.in_ok-id.id (named_in (codes "id") j) kind_of c.kind.result (c.in_ok-id.ensures.member j (c.root.ensures.value j h)) c.kind.ensures
