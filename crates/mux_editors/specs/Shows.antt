-- Last lists of diagnostics that an editor is shown, as the rows read them.
use Rattle.std.specs.Prelude.{ℕ, List, find, if◌then◌else◌}
use Rattle.std.specs.Prelude.{Option, Some, None, slice_get}
use Rattle.std.specs.Option.{option_and_then}
use Rattle.mux_history.specs.declared.out.Out.TheVariants.{ToEditor}
use Rattle.event_model.specs.Event.{Event}
use Rattle.event_model.specs.Row.{Row, each, nothing, on, send}
use Rattle.event_model.specs.Settings.{Settings}
use Rattle.group_rows.specs.diagnostics_route.specs.declared.last_list.LastList.{LastList}
use Rattle.group_rows.specs.diagnostics_route.specs.Lists.{nonempty}
use Rattle.group_rows.specs.diagnostics_route.specs.Rows.{is_of}
use Rattle.group_rows.specs.diagnostics_route.specs.Shown.{fits, shown_text}
use Rattle.group_rows.specs.Lists.{agreement_at, lists_of, version_at}

-- E12: what an editor is shown of a last list, where it isn't empty and fits the editor
abbrev pub full_text : Settings → ℕ → ℕ → List Event → LastList → Option (List ℕ)
full_text settings s e events l = if l.empty then None else (if fits l (agreement_at settings s e events l.uri) then Some (shown_text (version_at settings s e events l.uri) l.body) else None)

-- E12: of the last list of a document
abbrev pub last_text : Settings → ℕ → ℕ → List Event → List ℕ → Option (List ℕ)
last_text settings s e events u = option_and_then (full_text settings s e events) (find (is_of u) (lists_of s events))

-- L2: an editor is shown a list of a document that isn't open there
abbrev pub show_plain : ℕ → LastList → Row
show_plain e l = send (ToEditor e (shown_text None l.body))

-- that of a number
abbrev pub show_at : ℕ → List LastList → ℕ → Row
show_at e lists n = on (slice_get lists n) nothing (show_plain e)

-- each that isn't empty
abbrev pub all_plain : ℕ → List LastList → Row
all_plain e lists = each (show_at e lists) (nonempty lists)
