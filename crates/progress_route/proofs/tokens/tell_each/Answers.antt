use Rattle.progress_route.proofs.Telling.{told_more}
use Rattle.progress_route.proofs.tokens.tell_each.Goals as goal

pub loop-editor-preserved : goal.loop-editor-preserved
loop-editor-preserved c = told_more c.args.token c.args.body.now c.args.kind c.args.all.now c.loop-editor.editor-index c.loop-editor.editors.entries c.tell.new.editors.entries _ c.loop-editor-test.true c.in_ok-tell.ensures c.loop-editor.invariant
