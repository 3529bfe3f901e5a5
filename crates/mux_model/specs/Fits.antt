-- Which causes can come behind a history.
use Rattle.std.specs.Prelude.{Bool, true, ◌&&◌, List, nat_eq, nat_le}
use Rattle.mux_history.specs.declared.cause.Cause.{Cause}
use Rattle.mux_history.specs.declared.cause.Cause.TheVariants.{Joined, FromEditor, EditorGone, Started, StartFailed, FromServer, ServerGone, Drained, Tick}
use Rattle.mux_history.specs.declared.entry.Entry.{Entry}
use Rattle.event_model.specs.Event.{Event, events_of}
use Rattle.event_model.specs.Phases.{desk_of, editors_of, backlog_of, is_linked}
use Rattle.event_model.specs.Stages.{life_of, may_start, runs}

-- E1
abbrev pub fits_behind : List Event → Cause → Bool
fits_behind before (Joined e) = nat_eq e (editors_of before)
fits_behind before (FromEditor e body) = is_linked (desk_of e before).phase
fits_behind before (EditorGone e why) = is_linked (desk_of e before).phase
fits_behind before (Drained e k) = is_linked (desk_of e before).phase && nat_le k (backlog_of e before)
fits_behind before (Started s) = may_start (life_of s before)
fits_behind before (StartFailed s) = may_start (life_of s before)
fits_behind before (FromServer s body) = runs (life_of s before)
fits_behind before (ServerGone s) = runs (life_of s before)
fits_behind before (Tick t) = true

abbrev pub fits : List Entry → Cause → Bool
fits history cause = fits_behind (events_of history) cause
