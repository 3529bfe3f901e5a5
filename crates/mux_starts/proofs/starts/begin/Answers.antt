-- A start's program runs.
use Rattle.std.proofs.Common.{ap, ◌∙◌}
use Rattle.std.specs.Prelude.{slice_get}
use Rattle.event_model.specs.Event.{behind, with_cause}
use Rattle.group_words.specs.Houses.{groups_of}
use Rattle.mux_history.specs.declared.cause.Cause.TheVariants.{Started}
use Rattle.mux_starts.proofs.Beginning.{begun, begun_documents, begun_none}
use Rattle.mux_starts.proofs.starts.begin.Goals as goal

pub returns-in-None-clause-does : goal.returns-in-None-clause-does
returns-in-None-clause-does c = λ settings before s at first z here known.
    let now = behind (with_cause before (Started s)) c.args.outs.now in
    begun_none settings c.args.tables.now before s z.life.group c.args.outs.now first (λ st. c.in-None.ensures settings now st ∙ ap (slice_get (groups_of settings now)) (c.group_number.ensures z here))

pub returns-in_ok-notify-in-Some-clause-does : goal.returns-in_ok-notify-in-Some-clause-does
returns-in_ok-notify-in-Some-clause-does c = λ settings before s at first z here known.
    let base = with_cause before (Started s) in
    begun settings c.args.tables.now before s z.life.group c.args.outs.now first c.in-Some.kept.now c.in_ok-text-in-Some.text c.notify.new.outs (λ st. c.in-Some.ensures settings (behind base c.args.outs.now) st ∙ ap (slice_get (groups_of settings (behind base c.args.outs.now))) (c.group_number.ensures z here)) known c.in_ok-text-in-Some.ensures
    (λ still quiet silent. c.in_ok-notify-in-Some.ensures.does settings base s at still quiet (λ _ _ _. silent))

pub returns-in_ok-notify-in-Some-clause-documents : goal.returns-in_ok-notify-in-Some-clause-documents
returns-in_ok-notify-in-Some-clause-documents c = λ settings owed before s first z here known st ds.
    let base = with_cause before (Started s) in
    begun_documents settings c.args.tables.now before s z.life.group c.args.outs.now first c.in-Some.kept.now c.in_ok-text-in-Some.text (c.in-Some.ensures settings (behind base c.args.outs.now) st ∙ ap (slice_get (groups_of settings (behind base c.args.outs.now))) (c.group_number.ensures z here)) known c.in_ok-text-in-Some.ensures
    (λ says aside. c.in_ok-notify-in-Some.ensures.documents settings owed base says aside ds)
