-- What was noted of an editor's documents as its requests were sent on, and what is read of them at an answer (V1; LSP 3.17, VersionedTextDocumentIdentifier).
use Rattle.std.specs.Prelude.{◌≡◌, ℕ, Bool, true, false, List, [], ◌∷◌, bytes_eq, if◌then◌else◌}
use Rattle.std.specs.Prelude.{Option, Some, None}
use Rattle.event_model.specs.declared.phase.Phase.{Phase}
use Rattle.event_model.specs.declared.phase.Phase.TheVariants.{Down, Closed, Gone}
use Rattle.event_model.specs.Event.{Event}
use Rattle.event_model.specs.Phases.{desk_of}
use Rattle.event_model.specs.Settings.{Settings}
use Rattle.document_model.specs.declared.agreement.Agreement.{Agreement}
use Rattle.document_model.specs.declared.agreement.Agreement.TheVariants.{Agrees}
use Rattle.focus_switch.specs.declared.version.DocumentVersion.{DocumentVersion}
use Rattle.focus_switch.specs.Documents.{Documents}
use Rattle.focus_switch.specs.Rows.{agreement}
use Rattle.id_rewrite.specs.response_route.specs.declared.versions.Stamp.{Stamp}
use Rattle.id_rewrite.specs.response_route.specs.Versions.{stamp_of}
use Rattle.group_laws.specs.group_rows.specs.Answers.{held_version, moment_of, stamp_at}
use Rattle.id_rewrite.specs.declared.pending.Numbered.{Numbered}
use Rattle.id_rewrite.specs.declared.pending.Pending.{Pending}
use Rattle.id_rewrite.specs.Tables.{pending_of}

-- the versions of a document, and of the first of these that has this URI
abbrev pub stamp_from : DocumentVersion → Stamp
stamp_from x = record { held = x.held; version = x.version }

abbrev pub stamp_in : List ℕ → List DocumentVersion → Option Stamp
stamp_in u [] = None
stamp_in u (x ∷ xs) = if bytes_eq u x.uri then Some (stamp_from x) else stamp_in u xs

-- the start's version of a document, where it has the document as the editor does
abbrev pub agreed_in : Agreement → Option ℕ
agreed_in (Agrees held changed) = Some held
agreed_in other = None

abbrev pub now_version : ℕ → Documents → DocumentVersion → DocumentVersion
now_version e d x = record { uri = x.uri; held = agreed_in (agreement e x.uri d); version = x.version }

-- these are the versions of a group's documents, where there is one
abbrev pub StampsAt : List (List ℕ × Stamp) → (Documents → List DocumentVersion) → Option Documents → Type 0
StampsAt stamps versions None = Unit {0}
StampsAt stamps versions (Some d) = (u : List ℕ) → stamp_of u stamps ≡ stamp_in u (versions d)

-- the editor shut down, or its link ended: it has no documents any more
abbrev pub has_left : Phase → Bool
has_left Down = true
has_left Closed = true
has_left Gone = true
has_left other = false

-- at a request of editor e that went on to start s as its request n: the versions of e's documents at the moment of its forwarding; nothing need be kept where e left
abbrev pub IsNoted : Settings → ℕ → ℕ → ℕ → List Event → Option (List (List ℕ × Stamp)) → Type 0
IsNoted settings s n e events (Some noted) = (moment : List Event) × (moment_of settings s n events ≡ Some moment) × ((u : List ℕ) → stamp_of u noted ≡ stamp_at held_version settings s e moment u)
IsNoted settings s n e events None = has_left (desk_of e events).phase ≡ true

abbrev pub NotesStand : Settings → ℕ → List Numbered → List Event → Type 0
NotesStand settings s requests events = (n : ℕ) (p : Pending) → pending_of n requests ≡ Some p → IsNoted settings s n p.editor events p.noted
