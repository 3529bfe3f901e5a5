-- The request that a cancel names, where it waits.
use Rattle.std.proofs.Common.{ap, ◌∙◌}
use Rattle.std.specs.Prelude.{option_copied}
use Rattle.group_rows.specs.Waiting.{named_id}
use Rattle.mux_turns.proofs.Named.{names_none, names_some}
use Rattle.mux_editors.proofs.Withdrawing.{found_there, homeless_there, unnamed_there}
use Rattle.mux_editors.proofs.cancelled.waiting_named.Goals as goal

pub returns-in_err-id : goal.returns-in_err-id
returns-in_err-id c = λ settings before body method params read says st. ap option_copied c.from_residual.ensures ∙ unnamed_there settings before c.args.e params (names_none (named_id params) (c.in_err-id.ensures body method params read says))

pub returns-in_err-g : goal.returns-in_err-g
returns-in_err-g c = λ settings before body method params read says st. ap option_copied c.from_residual-in_err-g.ensures ∙ homeless_there settings before c.args.e params (c.in_err-g.ensures settings before st)

pub returns : goal.returns
returns c = λ settings before body method params read says st.
    let id = names_some (named_id params) c.in_ok-id.id.now (c.in_ok-id.ensures body method params read says) in
    c.waiting_under.ensures settings before id.0 id.2 st ∙ found_there settings before c.args.e params id.0 c.in_ok-g.g id.1 (c.in_ok-g.ensures settings before st)
