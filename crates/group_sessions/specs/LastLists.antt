-- Which lists of diagnostics each editor is sent (LSP 3.17, Publish Diagnostics): those of its group's last start that fit it, and no others: as one comes, as the editor begins to run, and as it opens a document; and an empty one in the place of each as the start ends.
use Rattle.std.specs.Prelude.{◌≡◌, ℕ, Bool, false, ◌&&◌, List, [], ◌∷◌, ◌++◌, find, flat_map, nat_eq, if◌then◌else◌}
use Rattle.std.specs.Prelude.{Option, Some, None}
use Rattle.std.specs.Option.{option_and_then, option_map_or}
use Rattle.document_model.specs.Sayings.{Saying, opens, saying_of}
use Rattle.mux_history.specs.declared.cause.Cause.{Cause}
use Rattle.mux_history.specs.declared.cause.Cause.TheVariants.{FromEditor, FromServer, ServerGone, StartFailed}
use Rattle.mux_history.specs.declared.entry.Entry.{Entry}
use Rattle.mux_history.specs.declared.out.Out.{Out}
use Rattle.mux_history.specs.declared.out.Out.TheVariants.{ToEditor}
use Rattle.rpc_message.specs.Message.{Message, message_of, notification}
use Rattle.event_model.specs.Event.{Event, behind, events_of, with_cause}
use Rattle.event_model.specs.Phases.{desk_of, is_running}
use Rattle.event_model.specs.Settings.{Settings}
use Rattle.event_model.specs.Spawns.{start_of}
use Rattle.event_model.specs.Stages.{is_ready, life_of}
use Rattle.group_words.specs.Houses.{home_of}
use Rattle.group_rows.specs.diagnostics_route.specs.declared.last_list.LastList.{LastList}
use Rattle.group_rows.specs.diagnostics_route.specs.Published.{published}
use Rattle.group_rows.specs.diagnostics_route.specs.Rows.{is_of}
use Rattle.group_rows.specs.diagnostics_route.specs.Shown.{fits, shown_text}
use Rattle.group_rows.specs.Asks.{serves}
use Rattle.group_rows.specs.ExitRows.{empty_text, is_full}
use Rattle.group_rows.specs.Lists.{agreement_at, is_publishing, lists_of, sayings_of, version_at}
use Rattle.group_rows.specs.Rows.{outs_of}

-- a message gives a list
abbrev pub gives_list : Message → Bool
gives_list (notification method params) = is_publishing method
gives_list other = false

-- the lists that outs send editor e
abbrev pub list_to : ℕ → Out → List (List ℕ)
list_to e (ToEditor n body) = if nat_eq n e && gives_list (message_of body) then body ∷ [] else []
list_to e other = []

abbrev pub lists_to : ℕ → List Out → List (List ℕ)
lists_to e outs = flat_map (list_to e) outs

-- a list of start s as it is shown to e: where it fits e by what these events say, with e's own version
abbrev pub shown : Settings → ℕ → ℕ → List Event → LastList → List (List ℕ)
shown settings s e events l = if fits l (agreement_at settings s e events l.uri) then shown_text (version_at settings s e events l.uri) l.body ∷ [] else []

-- and one that has diagnostics
abbrev pub shown_full : Settings → ℕ → ℕ → List Event → LastList → List (List ℕ)
shown_full settings s e events l = if l.empty then [] else shown settings s e events l

-- S15: a list comes from s, which is ready, while e runs in the group whose last start s is
abbrev pub is_hearing : Settings → ℕ → ℕ → List Event → Bool
is_hearing settings s e before = is_ready (life_of s before).stage && (is_running (desk_of e before).phase && serves settings before s e)

abbrev pub due_coming : Settings → ℕ → ℕ → List Event → List ℕ → List (List ℕ)
due_coming settings s e before body = if is_hearing settings s e before then option_map_or (shown settings s e before) (published (sayings_of s before) body) [] else []

-- the last start of e's group, where it is ready
abbrev pub of_start : (ℕ → List (List ℕ)) → List Event → Option ℕ → List (List ℕ)
of_start due before None = []
of_start due before (Some s) = if is_ready (life_of s before).stage then due s else []

abbrev pub at_start : Settings → ℕ → List Event → (ℕ → List (List ℕ)) → List (List ℕ)
at_start settings e before due = of_start due before (option_and_then (λ g. start_of g before) (home_of settings e before))

-- L2: e didn't run before: each last list, by what stood before
abbrev pub due_beginning : Settings → ℕ → List Event → ℕ → List (List ℕ)
due_beginning settings e before s = if is_running (desk_of e before).phase then [] else flat_map (shown_full settings s e before) (lists_of s before)

-- E12: e opens a document: its last list, by what stands behind the entry
abbrev pub due_opening : Settings → ℕ → List Event → Saying → ℕ → List (List ℕ)
due_opening settings e after (opens u language version text) s = option_map_or (shown_full settings s e after) (find (is_of u) (lists_of s after)) []
due_opening settings e after other s = []

-- by a message of e, which runs behind the entry
abbrev pub due_own : Settings → ℕ → List Event → Message → List Event → List (List ℕ)
due_own settings e before m after = if is_running (desk_of e after).phase then at_start settings e before (λ s. due_beginning settings e before s ++ due_opening settings e after (saying_of m) s) else []

-- X2: s ends, which was ready: an empty list for each document of which it gave one, and the last that e was sent isn't empty
abbrev pub emptied : ℕ → List Event → LastList → List (List ℕ)
emptied e before l = if is_full e l.uri before then empty_text l.uri ∷ [] else []

abbrev pub due_ending : Settings → ℕ → ℕ → List Event → List (List ℕ)
due_ending settings s e before = if is_hearing settings s e before then flat_map (emptied e before) (lists_of s before) else []

-- what e is due in an entry of this cause, with these events before it and those behind it
abbrev pub lists_due : Settings → ℕ → List Event → Cause → List Event → List (List ℕ)
lists_due settings e before (FromServer s body) after = if gives_list (message_of body) then due_coming settings s e before body else []
lists_due settings e before (FromEditor n body) after = if nat_eq n e then due_own settings e before (message_of body) after else []
lists_due settings e before (StartFailed s) after = due_ending settings s e before
lists_due settings e before (ServerGone s) after = due_ending settings s e before
lists_due settings e before other after = []

-- in each entry each editor is sent just what it is due, by what stands before it and behind its cause's row
abbrev pub KeepsLists : Settings → List Entry → Type 0
KeepsLists settings history = (before later : List Entry) (entry : Entry) → history ≡ before ++ entry ∷ later → (e : ℕ) → lists_to e entry.outs ≡ lists_due settings e (events_of before) entry.cause (behind (with_cause (events_of before) entry.cause) (outs_of settings (events_of before) entry.cause))
