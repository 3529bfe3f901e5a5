use Rattle.std.proofs.Common.{◌≡◌, ℕ, ◌∙◌, List, [], ◌∷◌, ◌++◌, ap, arith, length, subst, sym}
use Rattle.number_index.specs.Numbers.{Changes, with_number}
use Rattle.diagnostics_route.specs.declared.last_list.LastList.{LastList}
use Rattle.diagnostics_route.specs.Rows.{Indexes, number_in, with_list}
use Rattle.diagnostics_route.proofs.Numbering.{index_behind, put_behind}
use Rattle.diagnostics_route.proofs.lists.Lists.push.Goals as goal

pub invariant_of-self-2 : goal.invariant_of-self-2
invariant_of-self-2 c =
    let next : c.len-number.result ≡ length c.self.inside.lists.items = omega (arith, c.len-number.ensures, c.self.inside.lists.ok.0) in
    let key = subst (λ (uri : List ℕ). Changes uri (with_number c.len-number.result) c.self.inside.index c.add.new.self) c.bytes.ensures c.in_ok-add.ensures.ok in
    let added = subst (λ (n : ℕ). Changes c.args.list.uri (with_number n) c.self.inside.index c.add.new.self) next key in
    subst (λ (ls : List LastList). Indexes ls c.add.new.self) (sym (c.push_reserved.ensures.items ∙ ap (λ (ls : List LastList). ls ++ c.args.list ∷ []) c.in_ok-reserve.ensures.items))
    (index_behind c.args.list c.self.inside.lists.items c.self.inside.index c.add.new.self c.self.invariant added)

pub returns-clause-lists : goal.returns-clause-lists
returns-clause-lists c =
    c.push_reserved.ensures.items ∙ (ap (λ (ls : List LastList). ls ++ c.args.list ∷ []) c.in_ok-reserve.ensures.items
    ∙ (sym (put_behind c.args.list c.self.inside.lists.items (ap (number_in c.args.list.uri) c.self.view_is ∙ c.requires)) ∙ ap (with_list c.args.list) c.self.view_is))
