use Rattle.std.proofs.Common.{sym, ◌∙◌}
use Rattle.mux_daemon.proofs.Own.{has_none}
use Rattle.mux_daemon.proofs.serve.has_session.Goals as goal

pub returns-clause-none : goal.returns-clause-none
returns-clause-none g e = has_none _ _ g.session.result g.session.ensures (sym g.is_some.ensures ∙ e)
