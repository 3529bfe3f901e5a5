-- What a cancel names.
use Rattle.std.proofs.Common.{map, refl, subst, sym, ◌∙◌}
use Rattle.std.specs.Prelude.{None, Some}
use Rattle.group_rows.specs.Waiting.{named_id}
use Rattle.mux_tables.specs.Stands.{number_in}
use Rattle.event_model.proofs.Places.{item_at}
use Rattle.mux_tables.proofs.Homes.{group_seen}
use Rattle.mux_tables.proofs.Starts.{read_here, start_there}
use Rattle.mux_editors.specs.Cancels.{Names}
use Rattle.mux_turns.proofs.Named.{names_none, names_some}
use Rattle.mux_editors.proofs.Cancelling.{called_at, nameless, none_open, one_open, startless, unready_cancel}
use Rattle.mux_editors.proofs.Passing.{stage_there}
use Rattle.mux_editors.proofs.cancelled.named.Goals as goal

pub returns-in_err-id-clause-names : goal.returns-in_err-id-clause-names
returns-in_err-id-clause-names c = λ settings before body method params read says asked st.
    subst (λ o. Names settings before c.args.e body params (map number_in c.args.tables.now.lasts.items) o) (sym c.from_residual.ensures)
    (nameless settings before c.args.e body params (names_none (named_id params) (c.in_err-id.ensures body method params read says)))

pub returns-in_err-group-clause-names : goal.returns-in_err-group-clause-names
returns-in_err-group-clause-names c = λ settings before body method params read says asked st.
    subst (λ o. Names settings before c.args.e body params (map number_in c.args.tables.now.lasts.items) o) (sym c.from_residual-in_err-group.ensures)
    (startless settings before c.args.e body params (c.in_err-group.ensures.none settings before st))

pub returns-else-is_ready-clause-names : goal.returns-else-is_ready-clause-names
returns-else-is_ready-clause-names c = λ settings before body method params read says asked st.
    let g = c.in_ok-group.group in
    let s = start_there c.args.tables.now.lasts.items g c.in_ok-group.ensures.inside in
    let x = item_at c.args.tables.now.lasts.items g c.in_ok-group.ensures.inside in
    unready_cancel settings before c.args.e body params x.0.life.group s.0 c.stage_at.result (c.in_ok-group.ensures.home settings before x.0 x.1 st) (group_seen settings c.args.tables.now before g s.0 x.0 st x.1 s.1).1
    (stage_there settings c.args.tables.now before g s.0 c.stage_at.result st s.1 c.stage_at.ensures) (sym c.is_ready.ensures ∙ c.if-is_ready.false)

pub returns-in_err-number-clause-names : goal.returns-in_err-number-clause-names
returns-in_err-number-clause-names c = λ settings before body method params read says asked st.
    let t = c.args.tables.now in
    let e = c.args.e in
    let g = c.in_ok-group.group in
    let s = start_there t.lasts.items g c.in_ok-group.ensures.inside in
    let x = item_at t.lasts.items g c.in_ok-group.ensures.inside in
    let id = names_some (named_id params) c.in_ok-id.id.now (c.in_ok-id.ensures body method params read says) in
    let here = read_here t.lasts.items g c.index.result.now c.in_ok-group.ensures.inside c.index.ensures in
    let is = called_at settings t before g s.0 c.index.result.now e id.0 None asked st here s.1 (λ ids. c.in_err-number.ensures id.0 id.2 ids) in
    subst (λ o. Names settings before e body params (map number_in t.lasts.items) o) (sym c.from_residual-in_err-number.ensures)
    (none_open settings before e body params x.0.life.group s.0 c.stage_at.result (c.in_ok-group.ensures.home settings before x.0 x.1 st) (group_seen settings t before g s.0 x.0 st x.1 s.1).1
    (stage_there settings t before g s.0 c.stage_at.result st s.1 c.stage_at.ensures) id.0 None (sym c.is_ready.ensures ∙ c.if-is_ready.true) id.1 is refl)

pub returns-in_ok-number-clause-names : goal.returns-in_ok-number-clause-names
returns-in_ok-number-clause-names c = λ settings before body method params read says asked st.
    let t = c.args.tables.now in
    let e = c.args.e in
    let g = c.in_ok-group.group in
    let n = c.in_ok-number.number in
    let x = item_at t.lasts.items g c.in_ok-group.ensures.inside in
    let id = names_some (named_id params) c.in_ok-id.id.now (c.in_ok-id.ensures body method params read says) in
    let here = read_here t.lasts.items g c.index.result.now c.in_ok-group.ensures.inside c.index.ensures in (
      (id.0, id.1),
      λ s at.
          one_open settings before e body params x.0.life.group s c.stage_at.result (c.in_ok-group.ensures.home settings before x.0 x.1 st) (group_seen settings t before g s x.0 st x.1 at).1
          (stage_there settings t before g s c.stage_at.result st at c.stage_at.ensures) id.0 (Some n) (sym c.is_ready.ensures ∙ c.if-is_ready.true) id.1
          (called_at settings t before g s c.index.result.now e id.0 (Some n) asked st here at (λ ids. c.in_ok-number.ensures id.0 id.2 ids)) n refl,
    )
