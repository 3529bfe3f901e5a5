use Rattle.std.proofs.Common.{◌≡◌, ◌∙◌, true, false, refl, sym, Some, codes}
use Rattle.mux_model.specs.event_model.specs.Members.{named_of, has_versions}
use Rattle.json_text.specs.Named.{named_in}
use Rattle.mux_members.specs.Results.{any_edit_versioned}
use Rattle.mux_members.proofs.Results.{any_here, any_on}
use Rattle.mux_members.proofs.Walks.{walking_on, walking_here, walking_ends}
use Rattle.mux_members.proofs.outcome.any_edit_versioned.Goals as goal

pub returns-then-has_versions : goal.returns-then-has_versions
returns-then-has_versions c = λ o f. walking_here c.args.tape.now c.args.actions (λ js. any_edit_versioned js) (λ z. true ≡ z) c.loop-next.next c.in-Some.action c.loop-next.invariant c.in-Some.is
    (λ t more a. sym (any_here (λ j. has_versions (named_in (codes "edit") j)) t more (sym (c.has_versions.ensures (named_of (codes "edit") (Some t)) (c.member.ensures refl (Some t) a)) ∙ c.if-has_versions.true))) o f

pub loop-next-preserved : goal.loop-next-preserved
loop-next-preserved c = walking_on c.args.tape.now c.args.actions (λ js. any_edit_versioned js) c.loop-next.next c.next_value-next.result c.in-Some.action c.loop-next.invariant c.in-Some.is
    c.next_value-next.ensures.rest c.next_value-next.ensures.inside
    (λ t more a. any_on (λ j. has_versions (named_in (codes "edit") j)) t more (sym (c.has_versions.ensures (named_of (codes "edit") (Some t)) (c.member.ensures refl (Some t) a)) ∙ c.if-has_versions.false))

pub returns : goal.returns
returns c = λ o f. walking_ends c.args.tape.now c.args.actions (λ js. any_edit_versioned js) (λ z. false ≡ z) c.loop-next.next c.loop-next.invariant c.in_default.is refl o f
