-- Which histories of several editors and groups are the multiplexer's.
use Rattle.std.specs.Prelude.{◌≡◌, List, [], ◌∷◌, ◌++◌, IsTrue}
use Rattle.mux_history.specs.declared.entry.Entry.{Entry}
use Rattle.event_model.specs.Event.{events_of}
use Rattle.event_model.specs.Settings.{Settings}
use Rattle.mux_model.specs.Fits.{fits}
use Rattle.group_facts.specs.SlowRows.{entry_outs}

-- each cause fits the entries before it, and its outs are the routing table's
abbrev pub LegalFrom : Settings → List Entry → List Entry → Type 0
LegalFrom settings before [] = Unit {0}
LegalFrom settings before (entry ∷ rest) = IsTrue (fits before entry.cause) × (entry.outs ≡ entry_outs settings (events_of before) entry.cause) × LegalFrom settings (before ++ entry ∷ []) rest

abbrev pub Legal : Settings → List Entry → Type 0
Legal settings history = LegalFrom settings [] history
