-- Whether a message answers `shutdown`.
use Rattle.std.proofs.Common.{refl, subst}
use Rattle.event_model.specs.Requests.{answered_id}
use Rattle.mux_tables.specs.Stands.{NamesAt}
use Rattle.mux_turns.proofs.Ready.{start_from}
use Rattle.mux_starts.proofs.Stopped.{answers_none, answers_some, limit_is}
use Rattle.mux_starts.proofs.ends.answers_shutdown.Goals as goal

pub returns-in-None : goal.returns-in-None
returns-in-None c = λ settings before s m at counted named st.
    let x = start_from c.args.tables.now.lasts.items c.args.g s at in
    answers_none settings c.args.tables.now before c.args.g s x.0 x.1 at counted st m (subst (NamesAt (answered_id m)) c.in-None.is named)

pub returns-in-Some : goal.returns-in-Some
returns-in-Some c = λ settings before s m at counted named st.
    let t = c.args.tables.now in
    let x = start_from t.lasts.items c.args.g s at in
    answers_some settings t before c.args.g s x.0 x.1 at counted st m c.in-Some.n c.next_at.result _ (c.next_at.ensures x.0 x.1 (limit_is settings t before c.args.g s x.0 x.1 at counted st)) refl (subst (NamesAt (answered_id m)) c.in-Some.is named)
