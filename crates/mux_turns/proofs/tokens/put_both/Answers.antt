-- Two texts in the place of tokens.
use Rattle.std.proofs.Common.{◌≡◌, subst}
use Rattle.std.specs.Prelude.{IfOk}
use Rattle.json_text.specs.Changes.{edits_of}
use Rattle.mux_turns.proofs.Marks.{two_put}
use Rattle.mux_turns.proofs.tokens.put_both.Goals as goal

pub returns : goal.returns
returns c = λ t at. subst (λ es. IfOk c.puts.result (λ changes. edits_of changes.items ≡ es)) (two_put c.args.work.now c.args.partial.now t) (c.puts.ensures.edits t at)
