-- The open request whose work an editor cancels.
use Rattle.std.proofs.Common.{ap, codes, sym, ◌∙◌}
use Rattle.std.specs.Option.{option_and_then}
use Rattle.event_model.specs.declared.stage.Stage.TheVariants.{Ready}
use Rattle.event_model.specs.Members.{named_of}
use Rattle.event_model.specs.Stages.{is_ready}
use Rattle.event_model.proofs.Places.{item_at}
use Rattle.rpc_message.specs.Message.{id_of}
use Rattle.mux_tables.proofs.Homes.{group_seen}
use Rattle.mux_tables.proofs.Starts.{start_there}
use Rattle.mux_turns.proofs.Named.{names_none, names_some}
use Rattle.mux_editors.proofs.Passing.{stage_there}
use Rattle.mux_editors.proofs.Working.{none_works, one_works, tokenless, unready_work}
use Rattle.mux_editors.proofs.worked.worked.Goals as goal

pub returns-in_default-clause-works : goal.returns-in_default-clause-works
returns-in_default-clause-works c = λ settings before body method params read says st.
    tokenless settings before c.args.e body params (names_none (option_and_then id_of (named_of (codes "token") params)) (c.in_default.ensures body method params read says))

pub returns-in_default-ready_at-clause-works : goal.returns-in_default-ready_at-clause-works
returns-in_default-ready_at-clause-works c = λ settings before body method params read says st.
    unready_work settings before c.args.e body params (λ s at. c.in_default-ready_at.ensures.unready settings before s st at)

pub returns-in-None-clause-works : goal.returns-in-None-clause-works
returns-in-None-clause-works c = λ settings before body method params read says st.
    let t = c.args.tables.now in
    let g = c.in-Some-ready_at.group in
    let s = start_there t.lasts.items g c.in-Some-ready_at.ensures.inside in
    let x = item_at t.lasts.items g c.in-Some-ready_at.ensures.inside in
    let named = named_of (codes "token") params in
    let id = names_some (option_and_then id_of named) c.in-Some.token.now (c.in-Some.ensures body method params read says) in
    none_works settings before c.args.e body params x.0.life.group s.0 (c.in-Some-ready_at.ensures.home settings before x.0 x.1 st) (group_seen settings t before g s.0 x.0 st x.1 s.1).1
    (sym (ap is_ready (stage_there settings t before g s.0 Ready st s.1 (λ z here. sym (c.in-Some-ready_at.ensures.ready z here)))))
    (sym c.in-None.is ∙ c.in_ok-number.ensures settings before s.0 id.0 named s.1 id.2 id.1 st)

pub returns-in-Some-2-clause-works : goal.returns-in-Some-2-clause-works
returns-in-Some-2-clause-works c = λ settings before body method params read says st s at.
    let t = c.args.tables.now in
    let g = c.in-Some-ready_at.group in
    let x = item_at t.lasts.items g c.in-Some-ready_at.ensures.inside in
    let named = named_of (codes "token") params in
    let id = names_some (option_and_then id_of named) c.in-Some.token.now (c.in-Some.ensures body method params read says) in
    one_works settings before c.args.e body params x.0.life.group s (c.in-Some-ready_at.ensures.home settings before x.0 x.1 st) (group_seen settings t before g s x.0 st x.1 at).1
    (sym (ap is_ready (stage_there settings t before g s Ready st at (λ z here. sym (c.in-Some-ready_at.ensures.ready z here)))))
    c.in-Some-2.number (sym c.in-Some-2.is ∙ c.in_ok-number.ensures settings before s id.0 named at id.2 id.1 st)
