use Rattle.std.proofs.Common.{sym, ◌∙◌}
use Rattle.id_rewrite.proofs.Prints.{string_added, bytes_added}
use Rattle.id_rewrite.proofs.form.add_form.Goals as goal

pub returns-then-is_quoted : goal.returns-then-is_quoted
returns-then-is_quoted c = string_added c.args.hasher.now c.add.new.hasher c.add_characters.new.hasher c.args.id.now c.inner.result.now (sym c.is_quoted.ensures ∙ c.if-is_quoted.true) c.inner.ensures c.add.ensures c.add_characters.ensures

pub returns-else-is_quoted : goal.returns-else-is_quoted
returns-else-is_quoted c = bytes_added c.args.hasher.now c.add_bytes.new.hasher c.args.id.now (sym c.is_quoted.ensures ∙ c.if-is_quoted.false) c.add_bytes.ensures
