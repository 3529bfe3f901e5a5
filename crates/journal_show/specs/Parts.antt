-- The lines of what one editor, or one start of a server, saw of a history.
use Rattle.std.specs.Prelude.{ℕ, Bool, List, [], ◌∷◌, ◌++◌, filter, flat_map, if◌then◌else◌}
use Rattle.mux_history.specs.declared.entry.Entry.{Entry}
use Rattle.event_model.specs.Event.{Event, took, did, heard, said, events_of}
use Rattle.event_model.specs.Parts.{is_of_editor, is_of_server}
use Rattle.drive_text.specs.Outs.{out_line}
use Rattle.drive_text.specs.Spellings.{spelled}
use Rattle.journal_show.specs.declared.side.Side.{Side}
use Rattle.journal_show.specs.declared.side.Side.TheVariants.{Editor, Server}

-- the line of an event, with its line feed
abbrev pub event_line : Event → List ℕ
event_line (took cause message) = spelled cause ++ 10 ∷ []
event_line (did out message) = out_line out

abbrev pub is_seen : Side → Event → Bool
is_seen (Editor e) event = is_of_editor e event
is_seen (Server s) event = is_of_server s event

-- the lines of a side's part of a history
abbrev pub part_text : Side → List Entry → List ℕ
part_text side history = flat_map event_line (filter (is_seen side) (events_of history))

-- the line of an event, if the side sees it
abbrev pub seen_line : Side → Event → List ℕ
seen_line side event = if is_seen side event then event_line event else []

-- what the side sees of one entry
abbrev pub entry_text : Side → Entry → List ℕ
entry_text side entry = seen_line side (heard entry.cause) ++ flat_map (λ out. seen_line side (said out)) entry.outs
