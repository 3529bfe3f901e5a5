-- The id of a request that waits and that a cancel names.
use Rattle.std.proofs.Common.{ap, sym, ◌∙◌}
use Rattle.std.specs.Prelude.{Some, option_copied, option_map}
use Rattle.mux_tables.specs.mux_waits.specs.held_requests.specs.declared.request.Request.{Request}
use Rattle.mux_editors.proofs.cancelled.waits_under.Goals as goal

pub returns-in_ok-own-in-Some : goal.returns-in_ok-own-in-Some
returns-in_ok-own-in-Some c = λ settings before body method params read says st.
    ap (λ w. Some w) c.in_ok-own-in-Some.ensures ∙ ap (option_map (λ (r : Request). r.id)) (sym (ap option_copied c.in-Some.is) ∙ c.waiting_named.ensures settings before body method params read says st)

pub returns-in-None : goal.returns-in-None
returns-in-None c = λ settings before body method params read says st.
    ap (option_map (λ (r : Request). r.id)) (sym (ap option_copied c.in-None.is) ∙ c.waiting_named.ensures settings before body method params read says st)
