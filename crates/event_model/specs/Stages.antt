-- The stage of a start of a server (LSP 3.17, Lifecycle Messages).
use Rattle.std.specs.Prelude.{ℕ, Bool, true, false, not, ◌&&◌, List, fold, codes, nat_eq, bytes_eq, if◌then◌else◌}
use Rattle.std.specs.Prelude.{Some}
use Rattle.mux_history.specs.declared.cause.Cause.TheVariants.{Started, StartFailed, FromServer, ServerGone}
use Rattle.mux_history.specs.declared.out.Out.TheVariants.{ToServer, Spawn, EndServer}
use Rattle.rpc_message.specs.Message.{Message, result, integer}
use Rattle.event_model.specs.declared.stage.Stage.{Stage}
use Rattle.event_model.specs.declared.stage.Stage.TheVariants.{Unspawned, Spawning, Initializing, Ready, Stopping, Ending, Ended}
use Rattle.event_model.specs.Event.{Event, took, did, requests}

-- its stage, and whether its program ever ran
pub record Life : Type 0 where
  pub stage : Stage
  pub started : Bool

-- the result of the daemon's own initialize, which has the number 1
abbrev pub is_first_result : Message → Bool
is_first_result (result (Some (integer n)) r) = bytes_eq n (codes "1")
is_first_result _ = false

abbrev pub stage_started : Stage → Stage
stage_started Spawning = Initializing
stage_started other = other

abbrev pub stage_hears : Stage → Message → Stage
stage_hears Initializing m = if is_first_result m then Ready else Initializing
stage_hears other m = other

abbrev pub stage_told : Stage → Message → Stage
stage_told Ready m = if requests (codes "shutdown") m then Stopping else Ready
stage_told other m = other

abbrev pub stage_ending : Stage → Stage
stage_ending Ended = Ended
stage_ending _ = Ending

abbrev pub life_behind : ℕ → Life → Event → Life
life_behind s life (took (Started n) m) = if nat_eq n s then record { stage = stage_started life.stage; started = true } else life
life_behind s life (took (StartFailed n) m) = if nat_eq n s then record { stage = Ended; started = life.started } else life
life_behind s life (took (FromServer n body) m) = if nat_eq n s then record { stage = stage_hears life.stage m; started = life.started } else life
life_behind s life (took (ServerGone n) m) = if nat_eq n s then record { stage = Ended; started = life.started } else life
life_behind s life (did (Spawn n g) m) = if nat_eq n s then record { stage = Spawning; started = false } else life
life_behind s life (did (ToServer n body) m) = if nat_eq n s then record { stage = stage_told life.stage m; started = life.started } else life
life_behind s life (did (EndServer n) m) = if nat_eq n s then record { stage = stage_ending life.stage; started = life.started } else life
life_behind s life other = life

abbrev pub no_life : Life
no_life = record { stage = Unspawned; started = false }

abbrev pub life_of : ℕ → List Event → Life
life_of s events = fold (life_behind s) no_life events

-- it is to begin, or to end
abbrev pub may_begin : Stage → Bool
may_begin Spawning = true
may_begin Ending = true
may_begin _ = false

-- its program ended, or couldn't be run
abbrev pub is_ended : Stage → Bool
is_ended Ended = true
is_ended _ = false

-- its program may yet run, or fail to
abbrev pub may_start : Life → Bool
may_start life = may_begin life.stage && not life.started

-- its program runs
abbrev pub runs : Life → Bool
runs life = life.started && not (is_ended life.stage)

abbrev pub is_spawning : Stage → Bool
is_spawning Spawning = true
is_spawning _ = false

abbrev pub is_initializing : Stage → Bool
is_initializing Initializing = true
is_initializing _ = false

abbrev pub is_ready : Stage → Bool
is_ready Ready = true
is_ready _ = false
