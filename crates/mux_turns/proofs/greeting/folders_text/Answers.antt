-- The list of folders.
use Rattle.std.proofs.Common.{◌≡◌, ℕ, List, ◌++◌, ap, rules, sym, subst, ◌∙◌, get_or}
use Rattle.std.specs.Prelude.{IsUtf8}
use Rattle.group_words.specs.Rows.{folder_text}
use Rattle.mux_turns.proofs.Folders.{left_next, left_none, utf8_at}
use Rattle.mux_turns.proofs.greeting.folders_text.Goals as goal

pub loop-folder-preserved : goal.loop-folder-preserved
loop-folder-preserved c = λ utf8.
    let x = c.folder-item.result in
    let is : x ≡ get_or c.args.folders.now c.loop-folder.folder-index x = search rules in
    let both = subst (λ (f : List ℕ × List ℕ). IsUtf8 f.0 × IsUtf8 f.1) (sym is) (utf8_at x c.args.folders.now c.loop-folder.folder-index c.loop-folder-test.true utf8) in
    left_next c.loop-folder.text.items c.add_comma.new.text.items c.add_folder.new.text.items c.loop-folder.started c.loop-folder.folder-index x c.args.folders.now c.loop-folder-test.true c.in_ok-add_comma.ensures
    (c.in_ok-add_folder.ensures both.0 both.1 ∙ ap (λ f. c.add_comma.new.text.items ++ folder_text f) is) (c.loop-folder.invariant utf8)

pub returns : goal.returns
returns c = λ utf8. left_none c.loop-folder.text.items c.push-2.new.self.items c.loop-folder.started c.is_empty.result c.loop-folder.folder-index c.args.folders.now c.loop-folder-test.false c.is_empty.ensures c.if-is_empty.false c.in_ok-push-2.ensures.items (c.loop-folder.invariant utf8)
