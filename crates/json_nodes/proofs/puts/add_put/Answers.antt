use Rattle.std.proofs.Common.{◌≡◌, ◌∙◌, refl, subst, option_map}
use Rattle.json_nodes.specs.Values.{doc_of}
use Rattle.json_nodes.specs.Doc.{Doc}
use Rattle.json_nodes.specs.Puts.{text_for}
use Rattle.json_nodes.proofs.Numbers.{child_at}
use Rattle.json_nodes.proofs.Putting.{none_put, one_put}
use Rattle.json_nodes.proofs.puts.add_put.Goals as goal

pub returns-in_ok-push : goal.returns-in_ok-push
returns-in_ok-push c = λ k n s ms u h.
    let doc : Doc = doc_of c.args.values in
    one_put (text_for c.args.puts.now) doc k n c.args.member s ms u c.args.changes.now.items c.push.new.self.items c.in-Some.text.now (record { span = c.span.result; text = c.new-text.result }) h
    (λ e. subst (λ o. option_map (λ b. b.now) o ≡ text_for c.args.puts.now e.name) c.in-Some.is (c.text_for.ensures e.name (c.name.ensures.spelled k n _ u e.name h e.named)))
    (c.span.ensures.span u (child_at h)) (c.new-text.ensures ∙ c.in_ok-from_slice.ensures.items) c.in_ok-push.ensures.items

pub returns-in_default : goal.returns-in_default
returns-in_default c = λ k n s ms u h.
    let doc : Doc = doc_of c.args.values in
    none_put (text_for c.args.puts.now) doc k n c.args.member s ms u c.args.changes.now.items c.args.changes.now.items h
    (λ e. subst (λ o. option_map (λ b. b.now) o ≡ text_for c.args.puts.now e.name) c.in_default.is (c.text_for.ensures e.name (c.name.ensures.spelled k n _ u e.name h e.named))) refl
