-- An editor loses its requests.
use Rattle.std.proofs.Common.{◌++◌, ap, ◌∙◌}
use Rattle.mux_exits.specs.Losses.{refused}
use Rattle.mux_exits.proofs.Gathering.{refused_inside}
use Rattle.mux_exits.proofs.losses.lose_requests.Goals as goal

pub returns-clause-inside : goal.returns-clause-inside
returns-clause-inside c = λ n h. refused_inside n c.args.e c.deref.result.now c.args.losses.now.items c.refuse_each.new.losses.items c.in_ok-refuse_each.ensures h

pub returns-clause-lost : goal.returns-clause-lost
returns-clause-lost c = λ settings before s at st.
    c.in_ok-refuse_each.ensures ∙ ap (λ ids. c.args.losses.now.items ++ refused c.args.e ids) (c.deref.ensures.value ∙ c.in_ok-ids.ensures settings before s at st)
