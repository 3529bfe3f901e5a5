-- A stop that an entry's cause asks for is one behind the entry, and it stays so.
use Rattle.std.proofs.Common.{◌≡◌, List, [], ◌∷◌, ◌++◌, true, ap, sym, ◌∙◌}
use Rattle.mux_history.specs.declared.cause.Cause.{Cause}
use Rattle.mux_history.specs.declared.cause.Cause.TheVariants.{FromEditor}
use Rattle.mux_history.specs.declared.entry.Entry.{Entry}
use Rattle.mux_history.specs.declared.out.Out.{Out}
use Rattle.event_model.specs.Event.{events_of, heard, with_cause}
use Rattle.event_model.proofs.Frames.{never}
use Rattle.mux_facts.proofs.Keeps.{events_more}
use Rattle.group_sessions.specs.group_facts.proofs.Quits.{stopped_now, stopped_on}
use Rattle.group_sessions.specs.group_facts.proofs.StopEntry.{stopped_outs}
use Rattle.group_sessions.specs.group_rows.specs.StopRows.{stopped}
use Rattle.mux_hub.specs.Entries.{asks_stop, was_stopped}

by_cause : (history : List Entry) (cause : Cause) (outs : List Out) → was_stopped (history ++ record { cause = cause; outs = outs } ∷ []) ≡ stopped (with_cause (events_of history) cause)
by_cause history cause outs = ap stopped (events_more history (record { cause = cause; outs = outs })) ∙ stopped_outs (with_cause (events_of history) cause) outs

pub asked_stops : (history : List Entry) (cause : Cause) (outs : List Out) → asks_stop history cause ≡ true → was_stopped (history ++ record { cause = cause; outs = outs } ∷ []) ≡ true
asked_stops history (FromEditor e body) outs asks = by_cause history (FromEditor e body) outs ∙ stopped_now (events_of history) e body asks
asked_stops history other outs asks = never (sym asks)

pub stays_stopped : (history : List Entry) (cause : Cause) (outs : List Out) → was_stopped history ≡ true → was_stopped (history ++ record { cause = cause; outs = outs } ∷ []) ≡ true
stays_stopped history cause outs was = by_cause history cause outs ∙ stopped_on (events_of history) (heard cause) was
