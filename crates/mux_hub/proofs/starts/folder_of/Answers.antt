use Rattle.std.proofs.Common.{◌≡◌, refl, sym, ◌∙◌}
use Rattle.std.specs.Prelude.{Some}
use Rattle.event_model.specs.Spawns.{group_of}
use Rattle.mux_hub.proofs.starts.folder_of.Goals as goal

pub returns-in-Some : goal.returns-in-Some
returns-in-Some c = λ settings events st.
    let at : group_of c.args.start events ≡ Some c.in-Some.group = st.origins.group c.args.start ∙ (sym c.origin.ensures ∙ c.in-Some.is) in
    rw (at, sym (c.kept.ensures settings events st)) c.folder_in.ensures

pub returns-in-None : goal.returns-in-None
returns-in-None c = λ settings events st. rw (st.origins.group c.args.start ∙ (sym c.origin.ensures ∙ c.in-None.is)) refl
