-- Z1: behind each entry the links of editors that don't take what they are sent are to be ended.
use Rattle.std.specs.Prelude.{ℕ, Bool, ◌&&◌, nat_lt}
use Rattle.std.specs.Prelude.{List, ◌++◌}
use Rattle.std.specs.List.{range_with_len}
use Rattle.mux_history.specs.declared.cause.Cause.{Cause}
use Rattle.mux_history.specs.declared.out.Out.{Out}
use Rattle.mux_history.specs.declared.out.Out.TheVariants.{CloseEditor}
use Rattle.event_model.specs.Event.{Event, behind, with_cause}
use Rattle.event_model.specs.Phases.{backlog_of, desk_of, editors_of, is_there}
use Rattle.event_model.specs.Row.{Row, nothing, send, choose, look, each, outs, ◌⨾◌}
use Rattle.event_model.specs.Settings.{Settings}
use Rattle.group_rows.specs.Leaves.{leave_row}
use Rattle.group_rows.specs.Rows.{outs_of}

-- more bytes are on their way to the editor than it may have waiting
abbrev pub is_slow : Settings → ℕ → List Event → Bool
is_slow settings e events = is_there (desk_of e events).phase && nat_lt settings.limits.backlog (backlog_of e events)

-- it leaves, as it stood before its link was to be ended, and then the next one is looked at
abbrev pub close_slow : Settings → ℕ → Row
close_slow settings e = look (λ events. choose (is_slow settings e events) (send (CloseEditor e) ⨾ leave_row settings events e) nothing)

abbrev pub slow_row : Settings → Row
slow_row settings = look (λ events. each (close_slow settings) (range_with_len 0 (editors_of events)))

-- the outs of an entry: those of the cause's row, and behind them those of Z1
abbrev pub entry_outs : Settings → List Event → Cause → List Out
entry_outs settings before cause = let xs = outs_of settings before cause in xs ++ outs (slow_row settings) (behind (with_cause before cause) xs)
