-- Who was asked what a cancel names.
use Rattle.std.proofs.Common.{ap, sym, ◌∙◌}
use Rattle.std.specs.Prelude.{find, option_map}
use Rattle.group_rows.specs.Asks.{asks_of, is_under}
use Rattle.group_rows.specs.Waiting.{named_id}
use Rattle.mux_tables.specs.Refusals.{seat_from}
use Rattle.mux_turns.proofs.Named.{names_none, names_some}
use Rattle.mux_starts.proofs.Recalls.{none_named}
use Rattle.mux_starts.proofs.recalled.named.Goals as goal

pub returns-in_err-id : goal.returns-in_err-id
returns-in_err-id c = λ settings before body method params x read says here ready st.
    c.from_residual.ensures ∙ sym (ap (option_map seat_from) (none_named (named_id params) (asks_of settings x.life.start before) (names_none (named_id params) (c.in_err-id.ensures body method params read says))))

pub returns : goal.returns
returns c = λ settings before body method params x read says here ready st.
    let id = names_some (named_id params) c.in_ok-id.id.now (c.in_ok-id.ensures body method params read says) in
    c.asked_under.ensures settings before x id.0 here ready id.2 st ∙ ap (λ o. option_map seat_from (find (is_under o) (asks_of settings x.life.start before))) (sym id.1)
