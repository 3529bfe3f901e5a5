use Rattle.std.proofs.Common.{ℕ, List, ◌∙◌, ap}
use Rattle.std.proofs.lemmas.Result.{on_ok_weaker}
use Rattle.progress_route.specs.Tells.{told_each}
use Rattle.progress_route.proofs.Telling.{each_is_all}
use Rattle.progress_route.proofs.tokens.tell_all.Goals as goal

pub returns : goal.returns
returns c = on_ok_weaker c.tell_each.result
    (λ told. told ∙ (ap (λ (es : List ℕ). told_each c.args.token c.args.body.now c.args.kind es c.args.editors.now.entries) (c.deref.ensures.value ∙ c.in_ok-all.ensures.all)
    ∙ each_is_all c.args.token c.args.body.now c.args.kind c.args.editors.now.entries c.in_ok-all.ensures.rising))
    c.tell_each.ensures
