-- The last start of a group that lives no more ended.
use Rattle.std.proofs.Common.{[], ap, refl, sym, ◌∙◌}
use Rattle.event_model.specs.Event.{with_cause}
use Rattle.event_model.specs.Row.{nothing}
use Rattle.event_model.specs.Stages.{is_ended, life_of}
use Rattle.event_model.proofs.Frames.{never}
use Rattle.event_model.proofs.Turns.{does_nothing}
use Rattle.mux_history.specs.declared.cause.Cause.TheVariants.{ServerGone, StartFailed}
use Rattle.mux_tables.specs.Documents.{AllStand, nothing_owed}
use Rattle.mux_turns.proofs.Matched.{done_alike, whole_entry}
use Rattle.mux_turns.proofs.Ready.{start_from}
use Rattle.mux_starts.proofs.Stopped.{ended_never, ended_unbegun, last_life, left_dead, left_row}
use Rattle.mux_starts.proofs.ends.end_at.Goals as goal

pub returns-then-is_ended-clause-exit : goal.returns-then-is_ended-clause-exit
returns-then-is_ended-clause-exit c = λ settings before s at run left st ds.
    let t = c.args.tables.now in
    let x = start_from t.lasts.items c.args.g s at in
    ended_never (life_of s before) x.0.life.stage x.0.started (last_life settings t before c.args.g s x.0 x.1 at st) (ap is_ended (sym (c.stage_at.ensures x.0 x.1)) ∙ (sym c.is_ended.ensures ∙ c.if-is_ended.true)) run

pub returns-then-is_ended-clause-failure : goal.returns-then-is_ended-clause-failure
returns-then-is_ended-clause-failure c = λ settings before s at may left st ds.
    let t = c.args.tables.now in
    let x = start_from t.lasts.items c.args.g s at in
    ended_unbegun (life_of s before) x.0.life.stage x.0.started (last_life settings t before c.args.g s x.0 x.1 at st) (ap is_ended (sym (c.stage_at.ensures x.0 x.1)) ∙ (sym c.is_ended.ensures ∙ c.if-is_ended.true)) may

pub hear_left-requires-clause-runs : goal.hear_left-requires-clause-runs
hear_left-requires-clause-runs c = λ x here ended. never (sym (ap is_ended (c.stage_at.ensures x here ∙ ended)) ∙ (sym c.is_ended.ensures ∙ c.if-is_ended.false))

pub returns-clause-exit : goal.returns-clause-exit
returns-clause-exit c = λ settings before s at run left st ds.
    let dead = left_dead settings c.args.tables.now before c.args.g s st c.requires.group at left in
    done_alike (λ k events. AllStand settings k events) (left_row settings before s left) (whole_entry (λ k events. AllStand settings k events) nothing (with_cause before (ServerGone s)) (c.hear_left.new.self, nothing_owed) (c.hear_left.new.self, nothing_owed) [] [] refl
    (c.hear_left.ensures.exit settings before s at dead st, c.hear_left.ensures.exit_documents settings nothing_owed before s ds dead) does_nothing)

pub returns-clause-failure : goal.returns-clause-failure
returns-clause-failure c = λ settings before s at may left st ds.
    let dead = left_dead settings c.args.tables.now before c.args.g s st c.requires.group at left in
    done_alike (λ k events. AllStand settings k events) (left_row settings before s left) (whole_entry (λ k events. AllStand settings k events) nothing (with_cause before (StartFailed s)) (c.hear_left.new.self, nothing_owed) (c.hear_left.new.self, nothing_owed) [] [] refl
    (c.hear_left.ensures.failure settings before s at dead st, c.hear_left.ensures.failure_documents settings nothing_owed before s ds dead) does_nothing)
