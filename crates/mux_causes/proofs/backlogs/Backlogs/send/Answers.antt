-- A body goes to an editor.
use Rattle.std.proofs.Common.{◌≡◌, ℕ, ◌+◌, List, ◌++◌, [], ◌∷◌, length, refl, subst, sym, ap, ◌∙◌}
use Rattle.std.specs.Prelude.{slice_set}
use Rattle.event_model.specs.Event.{said}
use Rattle.mux_history.specs.declared.out.Out.TheVariants.{ToEditor}
use Rattle.number_table.specs.Numbers.{IsAt}
use Rattle.number_table.proofs.Places as places
use Rattle.mux_causes.specs.Backlogs.{BacklogsStand}
use Rattle.mux_causes.proofs.Counting.{sent_count, summed}
use Rattle.mux_causes.proofs.backlogs.Backlogs.send.Goals as goal

pub invariant_of-self-2 : goal.invariant_of-self-2
invariant_of-self-2 c =
    let at = (subst (λ ys. IsAt ys c.args.e c.in-Some.at) c.deref.ensures.value c.in-Some.ensures.found) in
    places.kept_rise 0 c.self.inside.count c.self.inside.linked.items c.args.self.now c.self.view_is c.self.invariant c.args.e c.in-Some.at (places.kept_inside 0 c.self.inside.count c.self.inside.linked.items c.args.self.now c.self.view_is c.self.invariant c.args.e c.in-Some.at at c.index_mut-kept.result.now c.index_mut-kept.ensures.value) at c.index_mut-kept.result.now c.index_mut-kept.ensures.value _ refl

pub returns : goal.returns
returns c = λ events s.
    let at = (subst (λ ys. IsAt ys c.args.e c.in-Some.at) c.deref.ensures.value c.in-Some.ensures.found) in
    let sum : c.in_ok-bytes.bytes ≡ c.index_mut-kept.result.now.item + length c.args.body.now = summed c.checked_add.result _ _ _ c.checked_add.ensures c.in_ok-bytes.ensures.ok_part ∙ ap (λ (bs : List ℕ). c.index_mut-kept.result.now.item + length bs) c.bytes.ensures in
    subst (λ xs. BacklogsStand xs (events ++ said (ToEditor c.args.e c.args.body.now) ∷ []))
    (sym (places.kept_set 0 c.self.inside.count c.self.inside.linked.items c.args.self.now c.self.view_is c.self.invariant c.args.e c.in-Some.at (places.kept_inside 0 c.self.inside.count c.self.inside.linked.items c.args.self.now c.self.view_is c.self.invariant c.args.e c.in-Some.at at c.index_mut-kept.result.now c.index_mut-kept.ensures.value) at c.index_mut-kept.result.now c.index_mut-kept.ensures.value _ refl ∙ ap (λ n. slice_set c.args.self.now c.args.e n) sum))
    (sent_count c.args.self.now events c.args.e c.index_mut-kept.result.now.item c.args.body.now (places.kept_get 0 c.self.inside.count c.self.inside.linked.items c.args.self.now c.self.view_is c.self.invariant c.args.e c.in-Some.at (places.kept_inside 0 c.self.inside.count c.self.inside.linked.items c.args.self.now c.self.view_is c.self.invariant c.args.e c.in-Some.at at c.index_mut-kept.result.now c.index_mut-kept.ensures.value) at c.index_mut-kept.result.now c.index_mut-kept.ensures.value) s)
