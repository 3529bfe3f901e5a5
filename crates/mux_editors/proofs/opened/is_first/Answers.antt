-- Whether it is the first one of a new editor.
use Rattle.std.proofs.Common.{ap, not, sym, ◌∙◌}
use Rattle.mux_editors.proofs.Asides.{old_unopened}
use Rattle.mux_editors.proofs.Lspmux.{first_is, other_phase}
use Rattle.event_model.specs.Phases.{desk_of}
use Rattle.mux_editors.proofs.opened.is_first.Goals as goal

pub returns-in-New : goal.returns-in-New
returns-in-New c = λ settings before m asks at st.
    let new = sym at ∙ c.in-New.is in
    ap not (c.is_opened.ensures settings before st new) ∙ first_is settings.servers before c.args.e m asks new

pub returns-in_default : goal.returns-in_default
returns-in_default c = λ settings before m asks at st. sym (old_unopened settings.servers before c.args.e m (other_phase (desk_of c.args.e before).phase (λ new. c.in_default.not-New (at ∙ new))))
