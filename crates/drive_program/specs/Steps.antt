-- What one line does to a hub and an output.
use Rattle.std.specs.Prelude.{◌≡◌, ℕ, List, take, true}
use Rattle.std.specs.Prelude.{Option, Ok}
use Rattle.std.specs.Io.KnownBytes.{append_known}
use Rattle.mux_history.specs.declared.cause.Cause.{Cause}
use Rattle.mux_history.specs.declared.entry.Entry.{Entry}
use Rattle.event_model.specs.Settings.{Settings}
use Rattle.mux_hub.specs.Entries.{emits, passes}
use Rattle.mux_hub.specs.Hubs.{HubView, HubStands}
use Rattle.drive_text.specs.Outs.{out_lines}
use Rattle.drive_program.specs.Runs.{reading_bytes, after}

-- its cause was taken and its outs were written
pub record LineTaken {J : Type 0} (told : J → Option (List Entry)) (content : ℕ) (history : List Entry) (line : List ℕ) (hub now : HubView J) (written written_now : Option (List ℕ)) : Type 0 where
  pub cause : Cause
  pub reads : reading_bytes content history line ≡ Ok cause
  pub stands : HubStands told now (after hub.settings history cause)
  pub wrote : written_now ≡ append_known written (out_lines (emits hub.settings history cause))

-- the line isn't refused behind this history
pub record IsTaken (content : ℕ) (history : List Entry) (line : List ℕ) : Type 0 where
  pub cause : Cause
  pub reads : reading_bytes content history line ≡ Ok cause

-- nor is it refused, but with its entry the causes and outs would be too many
pub record IsTooMany (content : ℕ) (settings : Settings) (history : List Entry) (line : List ℕ) : Type 0 where
  pub cause : Cause
  pub reads : reading_bytes content history line ≡ Ok cause
  pub passes : passes settings history cause ≡ true

-- nothing was done, or its cause was taken and a front of its outs was written
pub data LineLeft {J : Type 0} (told : J → Option (List Entry)) (content : ℕ) (history : List Entry) (line : List ℕ) (hub now : HubView J) (written written_now : Option (List ℕ)) : Type 0 where
  untouched : HubStands told now history → written_now ≡ written → LineLeft told content history line hub now written written_now
  stepped : (cause : Cause) (count : ℕ) → reading_bytes content history line ≡ Ok cause → HubStands told now (after hub.settings history cause)
      → written_now ≡ append_known written (take count (out_lines (emits hub.settings history cause))) → LineLeft told content history line hub now written written_now
