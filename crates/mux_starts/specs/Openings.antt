-- What a history says of the texts of a group, as its `initialize` needs it.
use Rattle.std.specs.Prelude.{◌≡◌, Bool, true, false, codes}
use Rattle.std.specs.Prelude.{Option}
use Rattle.json_text.specs.Json.{Json}
use Rattle.event_model.specs.declared.stage.Stage.{Stage}
use Rattle.event_model.specs.declared.stage.Stage.TheVariants.{Spawning}
use Rattle.rpc_message.specs.Message.{integer, message_of, request}
use Rattle.mux_turns.specs.group_facts.specs.Settled.{AreUtf8}
use Rattle.group_words.specs.declared.kept.Kept.{Kept}
use Rattle.group_words.specs.Rows.{initialize_of}

-- its program is awaited
abbrev pub is_spawning : Stage → Bool
is_spawning Spawning = true
is_spawning _ = false

-- its `initialize` can be written, and is one
pub record IsOpening (x : Kept) : Type 0 where
  pub folders : AreUtf8 x.key.folders
  pub params : Option Json
  pub says : message_of (initialize_of x) ≡ request (integer (codes "1")) (codes "initialize") params
