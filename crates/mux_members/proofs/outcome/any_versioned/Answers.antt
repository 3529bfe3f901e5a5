use Rattle.std.proofs.Common.{◌≡◌, ◌∙◌, true, false, refl, sym, Some, codes}
use Rattle.mux_model.specs.event_model.specs.Members.{named_of, is_versioned_edit}
use Rattle.mux_members.specs.Results.{any_versioned}
use Rattle.mux_members.proofs.Results.{any_here, any_on}
use Rattle.mux_members.proofs.Walks.{walking_on, walking_here, walking_ends}
use Rattle.mux_members.proofs.outcome.any_versioned.Goals as goal

pub returns-then-has_version : goal.returns-then-has_version
returns-then-has_version c = λ o f. walking_here c.args.tape.now c.args.changes (λ js. any_versioned js) (λ z. true ≡ z) c.loop-next.next c.in-Some.change c.loop-next.invariant c.in-Some.is
    (λ t more a. sym (any_here (λ j. is_versioned_edit j) t more (sym (c.has_version.ensures (named_of (codes "textDocument") (Some t)) (c.member.ensures refl (Some t) a)) ∙ c.if-has_version.true))) o f

pub loop-next-preserved : goal.loop-next-preserved
loop-next-preserved c = walking_on c.args.tape.now c.args.changes (λ js. any_versioned js) c.loop-next.next c.next_value-next.result c.in-Some.change c.loop-next.invariant c.in-Some.is
    c.next_value-next.ensures.rest c.next_value-next.ensures.inside
    (λ t more a. any_on (λ j. is_versioned_edit j) t more (sym (c.has_version.ensures (named_of (codes "textDocument") (Some t)) (c.member.ensures refl (Some t) a)) ∙ c.if-has_version.false))

pub returns : goal.returns
returns c = λ o f. walking_ends c.args.tape.now c.args.changes (λ js. any_versioned js) (λ z. false ≡ z) c.loop-next.next c.loop-next.invariant c.in_default.is refl o f
