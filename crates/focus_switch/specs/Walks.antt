-- What goes over documents by their URIs.
use Rattle.std.specs.Prelude.{ℕ, List, [], ◌∷◌, ◌++◌, find, Option, Some, None}
use Rattle.std.specs.Option.{option_map_or}
use Rattle.document_table.specs.document_model.specs.Bodies.{open_text}
use Rattle.document_table.specs.document_model.specs.Opens.{is_open_at, holder}
use Rattle.focus_switch.specs.Documents.{Documents, version_held}
use Rattle.focus_switch.specs.Rows.{Step, and_then, or_nothing, send, sync_sends}
use Rattle.focus_switch.specs.Versions.{version_of}
use Rattle.focus_switch.specs.declared.telling.Telling.{Telling}
use Rattle.focus_switch.specs.declared.telling.Telling.TheVariants.{Opens}
use Rattle.focus_switch.specs.declared.version.DocumentVersion.{DocumentVersion}

-- the start is told e's text of this document
abbrev pub sync_at : ℕ → List ℕ → Documents → Step
sync_at e u s = or_nothing (find (is_open_at e u) s.opens) s (λ o. send u (sync_sends o (version_held o.uri s.helds) s) s)

abbrev pub sync_next : ℕ → Step → List ℕ → Step
sync_next e step u = and_then step (λ s. sync_at e u s)

-- a start that doesn't have this document is told its holder's text
abbrev pub replay_at_sends : List ℕ → Option ℕ → Documents → Option Telling
replay_at_sends u (Some v) s = None
replay_at_sends u None s = option_map_or (λ h. Some (Opens (open_text u h.language h.text))) (holder u s.opens) None

abbrev pub replay_at : List ℕ → Documents → Step
replay_at u s = send u (replay_at_sends u (version_held u s.helds) s) s

abbrev pub replay_next : Step → List ℕ → Step
replay_next step u = and_then step (λ s. replay_at u s)

-- one version more, where e has the document
abbrev pub and_version : ℕ → Documents → List DocumentVersion → List ℕ → List DocumentVersion
and_version e s vs u = option_map_or (λ o. vs ++ version_of o s ∷ []) (find (is_open_at e u) s.opens) vs
