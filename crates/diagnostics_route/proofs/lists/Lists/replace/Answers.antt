use Rattle.std.proofs.Common.{◌∙◌, List, ap, arith, subst, sym}
use Rattle.diagnostics_route.specs.declared.last_list.LastList.{LastList}
use Rattle.diagnostics_route.specs.Rows.{Indexes, number_in, with_list}
use Rattle.diagnostics_route.proofs.Numbering.{index_at, put_at}
use Rattle.diagnostics_route.proofs.lists.Lists.replace.Goals as goal

pub index_mut-requires : goal.index_mut-requires
index_mut-requires c =
    let at = (put_at c.args.number c.args.list c.self.inside.lists.items (ap (number_in c.args.list.uri) c.self.view_is ∙ c.requires)) in
    omega (arith, at.0, c.self.inside.lists.ok.0)

pub invariant_of-self : goal.invariant_of-self
invariant_of-self c =
    let found = ap (number_in c.args.list.uri) c.self.view_is ∙ c.requires in
    subst (λ (ls : List LastList). Indexes ls c.self.inside.index) (sym (put_at c.args.number c.args.list c.self.inside.lists.items found).1)
    (index_at c.args.number c.args.list c.self.inside.lists.items c.self.inside.index found c.self.invariant)

pub returns : goal.returns
returns c = (put_at c.args.number c.args.list c.self.inside.lists.items (ap (number_in c.args.list.uri) c.self.view_is ∙ c.requires)).1 ∙ ap (with_list c.args.list) c.self.view_is
