-- The editors of the group for which it is started again.
use Rattle.std.proofs.Common.{ap, sym, ◌∙◌, length}
use Rattle.std.specs.Prelude.{nat_lt}
use Rattle.event_model.specs.Phases.{needs_server}
use Rattle.group_words.specs.Houses.{home_of}
use Rattle.mux_tables.proofs.Lists.{editors_for, needing_so}
use Rattle.mux_tables.proofs.tables.Tables.needs_server.Goals as goal

pub returns-clause-kept : goal.returns-clause-kept
returns-clause-kept c = c.is_any.ensures ∙ ap (λ ns. nat_lt 0 (length ns)) (c.deref.ensures.value ∙ (c.in_ok-needing.ensures ∙ sym (needing_so c.args.self.now.editors c.args.g)))

pub returns-clause-needed : goal.returns-clause-needed
returns-clause-needed c = λ settings events st.
    let t = c.args.self.now in
    let house = st.house.editors in
    c.is_any.ensures ∙ ap (λ ns. nat_lt 0 (length ns)) (c.deref.ensures.value
    ∙ (c.in_ok-needing.ensures ∙ (sym (needing_so t.editors c.args.g) ∙ sym (editors_for needs_server (λ e. home_of settings e events) t.editors events c.args.g house.count house.phase house.home))))
