-- Which editors got no result yet, and which starts move on in an entry.
use Rattle.std.proofs.Common.{ℕ, Bool, true, false, ◌&&◌, List, nat_eq}
use Rattle.mux_history.specs.declared.cause.Cause.{Cause}
use Rattle.mux_history.specs.declared.cause.Cause.TheVariants.{Started, FromServer}
use Rattle.rpc_message.specs.Message.{message_of}
use Rattle.event_model.specs.declared.phase.Phase.{Phase}
use Rattle.event_model.specs.declared.phase.Phase.TheVariants.{Absent, New, Waiting}
use Rattle.event_model.specs.Event.{Event}
use Rattle.event_model.specs.Stages.{is_first_result, is_initializing, is_spawning, life_of}

-- it got no result to its `initialize` yet
abbrev pub is_early : Phase → Bool
is_early Absent = true
is_early New = true
is_early Waiting = true
is_early _ = false

-- a start's program runs now, or answered the daemon's `initialize`
abbrev pub moves_on : List Event → Cause → Bool
moves_on events (Started s) = is_spawning (life_of s events).stage
moves_on events (FromServer s body) = is_initializing (life_of s events).stage && is_first_result (message_of body)
moves_on events other = false

-- the start that this cause is about moves on in this entry: what it is sent behind the cause is part of the move
abbrev pub moves : List Event → Cause → ℕ → Bool
moves before (Started n) s = nat_eq n s && moves_on before (Started n)
moves before (FromServer n body) s = nat_eq n s && moves_on before (FromServer n body)
moves before other s = false
