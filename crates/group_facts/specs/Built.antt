-- Which methods are the standard's, a request under an id that is open, and a start whose group lives no more.
use Rattle.std.specs.Prelude.{ℕ, Bool, true, false, not, ◌&&◌, List}
use Rattle.std.specs.Option.{option_map_or}
use Rattle.lsp_method.specs.declared.variants.Class.{Class}
use Rattle.lsp_method.specs.declared.variants.Class.TheVariants.{Initialize, Other, Shutdown, Wrong}
use Rattle.rpc_message.specs.Message.{Id}
use Rattle.event_model.specs.declared.phase.Phase.{Phase}
use Rattle.event_model.specs.Event.{Event}
use Rattle.event_model.specs.Phases.{is_begun}
use Rattle.event_model.specs.Requests.{is_open}
use Rattle.event_model.specs.Settings.{Settings}
use Rattle.event_model.specs.Spawns.{group_of}
use Rattle.group_words.specs.Houses.{groups_of}
use Rattle.group_facts.specs.Lively.{lives_at}

-- a method of the standard, not of the multiplexer
abbrev pub is_standard : Class → Bool
is_standard Initialize = true
is_standard Shutdown = true
is_standard Wrong = true
is_standard Other = true
is_standard _ = false

-- E3: a request of the editor under this id is open
abbrev pub doubles : Phase → Id → List Id → Bool
doubles phase id ids = is_begun phase && is_open id ids

-- the start's group lives no more
abbrev pub is_left : Settings → List Event → ℕ → Bool
is_left settings before s = not (option_map_or (λ g. lives_at g (groups_of settings before)) (group_of s before) false)
