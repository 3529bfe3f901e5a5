-- Whether a request may wait.
use Rattle.std.proofs.Common.{ap, length, sym, false, ◌≡◌, ◌∙◌}
use Rattle.std.specs.Prelude.{Some}
use Rattle.std.specs.Option.{option_and_then}
use Rattle.event_model.specs.Spawns.{start_of}
use Rattle.event_model.specs.Stages.{is_ready}
use Rattle.event_model.proofs.Places.{item_at, same_item}
use Rattle.group_rows.specs.Waiting.{waiting_of}
use Rattle.mux_tables.specs.mux_waits.specs.held_requests.specs.Tables.{takes}
use Rattle.mux_tables.specs.mux_waits.specs.Rows.{held_of}
use Rattle.mux_tables.proofs.Starts.{start_there}
use Rattle.mux_editors.proofs.KeptBack.{full_ready, full_room, restarting_by, unended}
use Rattle.mux_editors.proofs.requests.room_for.Goals as goal

pub returns-in_err-place-clause-full : goal.returns-in_err-place-clause-full
returns-in_err-place-clause-full c = rw c.from_residual.ensures (λ settings before body read settled served st g home. unended settings before c.args.e settled served (c.in_err-place.ensures.none settings before st))

pub returns-then-is_ready-clause-full : goal.returns-then-is_ready-clause-full
returns-then-is_ready-clause-full c = λ settings before body read settled served st g home.
    let s = start_there c.args.tables.now.lasts.items c.in_ok-place.place c.in_ok-place.ensures.inside in
    let start : start_of g before ≡ _ = sym (ap (option_and_then (λ g. start_of g before)) home) ∙ c.in_ok-place.ensures.start settings before s.0 s.1 st in
    full_ready settings before c.args.e body g s.0 start (ap is_ready (sym (c.stage.ensures settings before s.0 s.1 st)) ∙ (sym c.is_ready.ensures ∙ c.if-is_ready.true))

pub returns-then-may_hold-clause-held : goal.returns-then-may_hold-clause-held
returns-then-may_hold-clause-held c = λ settings before body read st.
    let x = item_at c.args.tables.now.lasts.items c.in_ok-place.place c.in_ok-place.ensures.inside in
    let s = start_there c.args.tables.now.lasts.items c.in_ok-place.place c.in_ok-place.ensures.inside in
    let home = c.in_ok-place.ensures.home settings before x.0 x.1 st ∙ ap (λ n. Some n) (sym (c.group_number-g.ensures x.0 x.1)) in
    let start = sym (ap (option_and_then (λ g. start_of g before)) home) ∙ c.in_ok-place.ensures.start settings before s.0 s.1 st in
    let bytes : length c.bytes.result.now ≡ length body = ap length (c.bytes.ensures.bytes ∙ read.bytes_are) in (
      home,
      restarting_by before c.group_number-g.result s.0 false start (ap is_ready (sym (c.stage.ensures settings before s.0 s.1 st)) ∙ (sym c.is_ready.ensures ∙ c.if-is_ready.false)),
      ap (λ n. takes c.args.e n (waiting_of settings c.group_number-g.result before)) (sym bytes) ∙ (sym (c.may_hold.ensures.stands settings before st) ∙ c.if-may_hold.true),
    )

pub returns-then-may_hold-clause-room : goal.returns-then-may_hold-clause-room
returns-then-may_hold-clause-room c = ap (λ bs. takes c.args.e (length bs) (held_of c.group_number-g.result c.args.tables.now.origins.waiting)) (sym c.bytes.ensures.bytes) ∙ (sym c.may_hold.ensures.kept ∙ c.if-may_hold.true)

pub returns-else-may_hold-clause-full : goal.returns-else-may_hold-clause-full
returns-else-may_hold-clause-full c = λ settings before body read settled served st g home.
    let x = item_at c.args.tables.now.lasts.items c.in_ok-place.place c.in_ok-place.ensures.inside in
    let same = same_item (sym home ∙ c.in_ok-place.ensures.home settings before x.0 x.1 st) ∙ sym (c.group_number-g.ensures x.0 x.1) in
    let bytes : length c.bytes.result.now ≡ length body = ap length (c.bytes.ensures.bytes ∙ read.bytes_are) in
    full_room settings before c.args.e body g (ap (λ n. takes c.args.e (length body) (waiting_of settings n before)) same
    ∙ (ap (λ n. takes c.args.e n (waiting_of settings c.group_number-g.result before)) (sym bytes) ∙ (sym (c.may_hold.ensures.stands settings before st) ∙ c.if-may_hold.false)))
