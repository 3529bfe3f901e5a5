-- When the documents of each group stand for events (LSP 3.17, Text Document Synchronization).
use Rattle.std.specs.Prelude.{◌≡◌, ℕ, ◌<◌, ◌≤◌, ◌^◌, Bool, true, ◌&&◌, ◌||◌, List, [], ◌∷◌, map, length, codes, nat_eq, if◌then◌else◌}
use Rattle.std.specs.Prelude.{Option, Some, None, slice_get, slice_set}
use Rattle.std.specs.List.{AllByRecursion}
use Rattle.mux_history.specs.declared.out.Out.{Out}
use Rattle.mux_history.specs.declared.out.Out.TheVariants.{CloseEditor, ToEditor, ToServer}
use Rattle.rpc_message.specs.Message.{Message, message_of}
use Rattle.position_codec.specs.declared.Encoding.{Encoding}
use Rattle.document_model.specs.Opens.{Open}
use Rattle.document_model.specs.Sayings.{Saying, saying_of, speaks}
use Rattle.document_model.specs.Texts.{no_texts}
use Rattle.event_model.specs.declared.stage.Stage.{Stage}
use Rattle.event_model.specs.declared.stage.Stage.TheVariants.{Spawning, Initializing, Ready}
use Rattle.event_model.specs.Event.{Event, behind, requests}
use Rattle.event_model.specs.Phases.{desk_of, is_running, is_served}
use Rattle.event_model.specs.Settings.{Settings}
use Rattle.event_model.specs.Spawns.{start_of, starts_of}
use Rattle.event_model.specs.Stages.{is_ready, life_of}
use Rattle.focus_switch.specs.Documents.{Documents}
use Rattle.focus_switch.specs.Rows.{Step, leave_row}
use Rattle.group_laws.specs.mux_model.specs.Documents.{held_at, sent_of}
use Rattle.group_words.specs.Houses.{home_of}
use Rattle.group_laws.specs.group_rows.specs.Leaves.{leave_bodies}
use Rattle.group_laws.specs.group_rows.specs.Lists.{sayings_of}
use Rattle.group_laws.specs.group_rows.specs.Rows.{document_bodies, replay_bodies, sync_bodies}
use Rattle.group_laws.specs.group_rows.specs.Texts.{encoding_of, texts_of}
use Rattle.group_laws.specs.Stands.{HeldStands, TextsStand}
use Rattle.mux_tables.specs.declared.tables.Start.{Start}
use Rattle.mux_tables.specs.declared.tables.Tables.{Tables}
use Rattle.mux_tables.specs.Notes.{NotesStand}
use Rattle.mux_tables.specs.Stands.{Stands}

-- What the start of each group is still to be told, by the group's number: an entry changes what is open first, and sends the
-- bodies of it behind others.
abbrev pub Owed : Type 0
Owed = ℕ → List (List ℕ)

abbrev pub nothing_owed : Owed
nothing_owed g = []

abbrev pub owes : ℕ → List (List ℕ) → Owed
owes g bodies n = if nat_eq g n then bodies else []

abbrev pub to : ℕ → List (List ℕ) → List Out
to s bodies = map (λ b. ToServer s b) bodies

abbrev pub AllTell : List (List ℕ) → Type 0
AllTell bodies = AllByRecursion (λ b. speaks (saying_of (message_of b)) ≡ true) bodies

-- no encoding was given by the start, it has no document, and it was told of none
pub record Untold (s : ℕ) (events : List Event) : Type 0 where
  pub none : (u : List ℕ) → sent_of s u events ≡ record { encoding = None; held = None }
  pub unsaid : sayings_of s events ≡ 0

-- behind what it is owed, the start has what is kept of it
pub record Told (s : ℕ) (owed : List (List ℕ)) (d : Documents) (events : List Event) : Type 0 where
  pub code : Encoding
  pub tell : AllTell owed
  pub holds : HeldStands s code d (behind events (to s owed))

-- by where the last start of the group stands
abbrev pub StartTold : Stage → ℕ → List (List ℕ) → Documents → List Event → Type 0
StartTold Spawning s owed d events = (d.start ≡ None) × Untold s events
StartTold Initializing s owed d events = (d.start ≡ None) × Untold s events
StartTold Ready s owed d events = Told s owed d events
StartTold other s owed d events = d.start ≡ None

-- a document is open at an editor of the group that runs
abbrev pub IsOwned : Settings → List Event → ℕ → Open → Type 0
IsOwned settings events g o = (home_of settings o.editor events ≡ Some g) × (is_running (desk_of o.editor events).phase ≡ true)

-- one group, whose last start is s
pub record SharedStands (settings : Settings) (events : List Event) (owed : List (List ℕ)) (g s : ℕ) (stage : Stage) (d : Documents) : Type 0 where
  pub texts : TextsStand settings g d events
  pub versions : d.versions ≡ settings.limits.versions
  pub owned : AllByRecursion (IsOwned settings events g) d.opens
  pub start : StartTold stage s owed d events

pub record DocumentsStand (settings : Settings) (owed : Owed) (t : Tables) (events : List Event) : Type 0 where
  pub count : length t.documents.items ≡ length t.lasts.items
  pub each : (g : ℕ) (x : Start) (d : Documents) → slice_get t.lasts.items g ≡ Some x → slice_get t.documents.items g ≡ Some d → SharedStands settings events (owed x.life.group) x.life.group x.life.start x.life.stage d
  pub none : (g : ℕ) → start_of g events ≡ None → (texts_of settings g events ≡ no_texts) × (encoding_of g events ≡ None)
  pub fresh : (s : ℕ) → starts_of events ≤ s → Untold s events
  pub notes : (g : ℕ) (x : Start) → slice_get t.lasts.items g ≡ Some x → NotesStand settings x.life.start x.ids.requests events
  pub versions : settings.limits.versions ≡ t.versions
  pub range : t.versions < 2 ^ 32

-- an accepted message of an editor changes what is open: a notification on a document, or `shutdown`, behind which it has none
abbrev pub changes_documents : List Event → ℕ → Message → Bool
changes_documents before e m = is_served (desk_of e before).phase && (requests (codes "shutdown") m || speaks (saying_of m))

-- all tables, with what is owed
abbrev pub AllStand : Settings → Tables × Owed → List Event → Type 0
AllStand settings k events = Stands settings k.0 events × DocumentsStand settings k.1 k.0 events

-- L1: what the last start of group g is owed where an editor of the group leaves
abbrev pub leaving : Settings → List Event → ℕ → ℕ → ℕ → List (List ℕ)
leaving settings before g s e = if is_ready (life_of s before).stage then leave_bodies settings.limits.versions (λ u. held_at s u before) e (texts_of settings g before).opens (texts_of settings g before).opens else []

-- behind it: the outs are those that the last start of its group is owed, where it has a group and that has a start
abbrev pub Leaves : Settings → List Event → ℕ → Option ℕ → Option ℕ → List Out → Tables → List Event → Type 0
Leaves settings before e (Some g) (Some s) outs u later = (outs ≡ to s (leaving settings before g s e)) × DocumentsStand settings (owes g (leaving settings before g s e)) u later
Leaves settings before e home start outs u later = (outs ≡ []) × DocumentsStand settings nothing_owed u later

-- the documents of the groups behind a step of the one in this place, where there is one, and what it gives
abbrev pub StepAt : (Documents → Step) → ℕ → Option Documents → List Documents → List Out → List Documents → Type 0
StepAt row g None old outs new = (outs ≡ []) × (new ≡ old)
StepAt row g (Some d) old outs new = (outs ≡ (row d).outs) × (new ≡ slice_set old g (row d).after)

abbrev pub StepFrom : (Documents → Step) → Option ℕ → List Documents → List Out → List Documents → Type 0
StepFrom row None old outs new = (outs ≡ []) × (new ≡ old)
StepFrom row (Some g) old outs new = StepAt row g (slice_get old g) old outs new

-- these editors leave, one after the other
abbrev pub left_all : List ℕ → Documents → Documents
left_all [] d = d
left_all (e ∷ es) d = left_all es (leave_row e d).after

-- what is said as these editors are parted with: some of their requests are answered, and the link of each is to be ended, in this order
abbrev pub Parts : List Out → List ℕ → Type 0
Parts [] [] = Unit {0}
Parts [] (e ∷ es) = ⊥
Parts (ToEditor n body ∷ xs) es = Parts xs es
Parts (CloseEditor n ∷ xs) [] = ⊥
Parts (CloseEditor n ∷ xs) (e ∷ es) = (n ≡ e) × Parts xs es
Parts (other ∷ xs) es = ⊥

-- the same, while the documents are ahead of the events by these outs
abbrev pub AheadStand : Settings → Tables × (Owed × List Out) → List Event → Type 0
AheadStand settings k events = Stands settings k.0 events × DocumentsStand settings k.1.0 k.0 (behind events k.1.1)

-- X4: what a start is owed of the documents of its group where it is ready
abbrev pub replaying : Settings → List Event → ℕ → List (List ℕ)
replaying settings before g = replay_bodies [] (texts_of settings g before).opens (texts_of settings g before).opens

-- E12 to E14: what the last start of group g is owed where an editor of the group opens, changes or closes a document
abbrev pub noticing : Settings → List Event → ℕ → ℕ → ℕ → List ℕ → Saying → List (List ℕ)
noticing settings before g s e body x = if is_ready (life_of s before).stage then document_bodies settings.limits.versions (encoding_of g before) (texts_of settings g before) (λ u. held_at s u before) e body x else []

-- E10: what the start of group g is sent before a message of an editor goes on
abbrev pub syncing : Settings → List Event → ℕ → ℕ → ℕ → List (List ℕ)
syncing settings now g s e = sync_bodies settings.limits.versions (λ u. held_at s u now) e (texts_of settings g now).opens
