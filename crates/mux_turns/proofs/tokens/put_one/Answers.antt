-- One text in the place of tokens.
use Rattle.std.proofs.Common.{ap, bytes_eq, if◌then◌else◌, ◌∙◌}
use Rattle.std.specs.Prelude.{Some, None}
use Rattle.std.specs.Str.{chars}
use Rattle.json_nodes.specs.Puts.{put_edits}
use Rattle.mux_turns.proofs.tokens.put_one.Goals as goal

pub returns : goal.returns
returns c = λ t at. c.in_ok-changes.ensures.edits t at ∙ ap (λ w. put_edits (λ cs. if bytes_eq (chars c.args.name.now) cs then Some w else None) t) (c.deref.ensures.value ∙ c.in_ok-text.ensures)
