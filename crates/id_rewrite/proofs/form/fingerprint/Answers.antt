use Rattle.std.proofs.Common.{◌∙◌}
use Rattle.id_rewrite.proofs.Prints.{is_print}
use Rattle.id_rewrite.proofs.form.fingerprint.Goals as goal

pub returns : goal.returns
returns c = c.front.ensures ∙ is_print c.args.editor c.args.id.now c.to_be_bytes.result _ c.to_be_bytes.ensures (c.finalize.ensures _ (c.add_form.ensures _ (c.update.ensures _ c.new-hasher.ensures)))
