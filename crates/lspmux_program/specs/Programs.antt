-- What a run of the program did.
use Rattle.std.specs.Prelude.{◌≡◌, ◌≤◌, ℕ, Bool, true, false, List, [], ◌∷◌, ◌++◌, codes, IfSome, MatchBool}
use Rattle.std.specs.Prelude.{Option, Some, None, option_map, Result, Ok, Err, ◌⊎◌}
use Rattle.clap.specs.Words.{Text}
use Rattle.outside_io.specs.Doors.{Address, streams, Call, PortTold, address_of}
use Rattle.outside_io.specs.Faults.{Rose}
use Rattle.outside_io.specs.Files.{File}
use Rattle.outside_io.specs.Sessions.{Session, session_of}
use Rattle.mux_history.specs.declared.entry.Entry.{Entry}
use Rattle.mux_config.specs.declared.config.Config.{Config}
use Rattle.program_settings.specs.Lines.{Reported, Wrote, line_of, settings_status}
use Rattle.program_settings.specs.Readings.{IsReading}
use Rattle.program_settings.specs.declared.fault.SettingsFault.{SettingsFault}
use Rattle.settled_hub.specs.Settings.{hub_settings}
use Rattle.drive_program.specs.Program.{Drove, IsStatus, Undisturbed}
use Rattle.drive_text.specs.Made.{made}
use Rattle.make_program.specs.Program as make
use Rattle.make_program.specs.Program.{Made}
use Rattle.make_program.specs.Shown.{Shown, causes_text}
use Rattle.serve_program.specs.declared.fault.ServeFault.{ServeFault}
use Rattle.serve_program.specs.Daemons as daemon
use Rattle.serve_program.specs.Daemons.{CameOfSettings}
use Rattle.serve_program.specs.Faults.{ended_line, ended_status}
use Rattle.mux_client.specs.Dials.{Called, Dialled, door_state, port_state}
use Rattle.mux_client.specs.Questions.{Asked, output_state}
use Rattle.mux_client.specs.Runs.{Carried}
use Rattle.mux_client.specs.declared.fault.ClientFault.{ClientFault}
use Rattle.mux_client.specs.declared.question.Question.{Question}
use Rattle.mux_client.specs.declared.question.Question.TheVariants as question
use Rattle.lspmux_words.specs.Meaning as words
use Rattle.lspmux_program.specs.Clients.{client_line, client_status}
use Rattle.lspmux_program.specs.declared.outside.Outside.{Outside}
use Rattle.lspmux_program.specs.declared.outside.Left.{Left}

abbrev pub words_line : List ℕ
words_line = codes "!words" ++ 10 ∷ []

-- the links of a daemon are the standard input and output
abbrev pub is_streams : Address → Bool
is_streams streams = true
is_streams _ = false

-- the settings' file that is named
abbrev pub file_of : words.Asked → Option Text
file_of (words.drive file) = file
file_of (words.serve file log) = file
file_of (words.client file server) = file
file_of (words.status file) = file
file_of (words.stop file) = file
file_of (words.make count seed) = None
file_of (words.make_lines count seed) = None

module _ {D P B C J F I O N : Type 0}
    (calls : D → Option (List Call)) (ports_left : D → Option (List PortTold)) (refusals : D → ℕ)
    (links_back links : P → Option (List Session)) (held faults : P → ℕ)
    (runs left : B → Option (List Session)) (misses : B → ℕ) (given moments : C → Option (List ℕ))
    (told : J → Option (List Entry)) (journal_faults : J → ℕ) (files : F → Option (List File)) (folder_faults : F → ℕ)
    (taken unread : I → Option (List ℕ)) (input_faults : I → ℕ) (written : O → Option (List ℕ)) (output_faults : O → ℕ) where
  -- nothing was dialled or served, and the journal is as it was
  pub record Alone (old : Outside D B C J F I O N) (new : Left D P B C J F I O N) : Type 0 where
    pub door : new.door ≡ old.door
    pub lanes : new.lanes ≡ None
    pub port : new.port ≡ None

  -- and nothing was read
  pub record Idle (old : Outside D B C J F I O N) (new : Left D P B C J F I O N) : Type 0 where
    pub alone : Alone old new
    pub journal : new.journal ≡ old.journal
    pub input : new.input ≡ old.input

  -- the status and the line of what was done, which stand behind what was written by then
  abbrev pub Says : O → Left D P B C J F I O N → ℕ → List ℕ → Type 0
  Says before new status line = Reported new.status status (written before) (written new.output) line (Rose (output_faults before) (output_faults new.output))

  -- `drive`
  pub record DroveBy (config : Config) (old : Outside D B C J F I O N) (new : Left D P B C J F I O N) : Type 0 where
    pub alone : Alone old new
    pub drove : Drove told config.content (hub_settings config) new.journal (unread old.input) (unread new.input) (written old.output) (written new.output)
        (Rose (output_faults old.output) (output_faults new.output)) new.status
    pub answers : IsStatus new.status
    pub to_the_end : new.status ≡ 0 → IfSome (unread new.input) (λ bytes. bytes ≡ [])
    pub journal_only : new.status ≡ 6 → Rose (journal_faults old.journal) (journal_faults new.journal)
    pub input_only : new.status ≡ 7 → Rose (input_faults old.input) (input_faults new.input)
    pub output_only : new.status ≡ 8 → Rose (output_faults old.output) (output_faults new.output)
    pub complete : Undisturbed config.content (hub_settings config) (unread old.input) (Rose (journal_faults old.journal) (journal_faults new.journal))
        (Rose (input_faults old.input) (input_faults new.input)) (Rose (output_faults old.output) (output_faults new.output)) → (new.status ≡ 0) ⊎ (new.status ≡ 5)

  -- `serve`; where its links are the standard input and output, its fault line isn't written there
  pub record ServedBy (config : Config) (old : Outside D B C J F I O N) (new : Left D P B C J F I O N) : Type 0 where
    pub ended : Result (Unit {0}) ServeFault
    pub came : CameOfSettings calls ports_left refusals told journal_faults links_back links faults runs left misses given moments
        config old.door new.door old.journal new.journal old.berths.items old.clock new.lanes ended
    pub says : MatchBool (is_streams (address_of config.place)) ((new.status ≡ ended_status ended) × (new.output ≡ old.output))
        (Says old.output new (ended_status ended) (ended_line ended))
    pub port : new.port ≡ None
    pub input : new.input ≡ old.input
    pub complete : daemon.Undisturbed calls ports_left refusals told journal_faults links_back links faults runs left misses given moments
        config old.door new.door old.journal new.journal old.berths.items old.clock new.lanes ended came → (new.status ≡ 0) ⊎ (new.status ≡ 5)

  -- what a command left that dialled the settings' place: its output is `shown` before the fault line
  pub record DialledBy (config : Config) (old : Outside D B C J F I O N) (new : Left D P B C J F I O N) (shown : O) (result : Result (Unit {0}) ClientFault) : Type 0 where
    pub called : Called (address_of config.place) (calls old.door) (calls new.door) result
    pub says : Says shown new (client_status result) (client_line result)
    pub lanes : new.lanes ≡ None
    pub journal : new.journal ≡ old.journal

  -- `client`
  pub record JoinedBy (config : Config) (server : Option Text) (old : Outside D B C J F I O N) (new : Left D P B C J F I O N) : Type 0 where
    pub shown : O
    pub result : Result (Unit {0}) ClientFault
    pub dialled : DialledBy config old new shown result
    pub ran : Dialled (door_state ports_left refusals old.door) (door_state ports_left refusals new.door) (option_map (port_state links_back links held faults) new.port)
        (session_of taken unread input_faults written output_faults new.input shown ≡ session_of taken unread input_faults written output_faults old.input old.output)
        (Carried config.content server (session_of taken unread input_faults written output_faults old.input old.output) (session_of taken unread input_faults written output_faults new.input shown)) result

  -- `status` and `stop`
  pub record AskedBy (config : Config) (question : Question) (old : Outside D B C J F I O N) (new : Left D P B C J F I O N) : Type 0 where
    pub shown : O
    pub result : Result (Unit {0}) ClientFault
    pub dialled : DialledBy config old new shown result
    pub input : new.input ≡ old.input
    pub ran : Dialled (door_state ports_left refusals old.door) (door_state ports_left refusals new.door) (option_map (port_state links_back links held faults) new.port)
        (output_state written output_faults shown ≡ output_state written output_faults old.output)
        (Asked config.content question (output_state written output_faults old.output) (output_state written output_faults shown)) result

  -- `make`
  pub record MadeBy (config : Config) (count seed : ℕ) (old : Outside D B C J F I O N) (new : Left D P B C J F I O N) : Type 0 where
    pub alone : Alone old new
    pub input : new.input ≡ old.input
    pub ran : Made told (hub_settings config) new.journal (made count seed) (written old.output) (written new.output) (Rose (output_faults old.output) (output_faults new.output)) new.status
    pub journal_only : new.status ≡ 6 → Rose (journal_faults old.journal) (journal_faults new.journal)
    pub complete : make.Undisturbed (hub_settings config) (made count seed) (Rose (journal_faults old.journal) (journal_faults new.journal))
        (Rose (output_faults old.output) (output_faults new.output)) → (new.status ≡ 0) ⊎ (new.status ≡ 5)

  -- `make --lines`
  pub record WroteLines (count seed : ℕ) (old : Outside D B C J F I O N) (new : Left D P B C J F I O N) : Type 0 where
    pub idle : Idle old new
    pub shown : Shown (causes_text (made count seed)) (written old.output) (written new.output) (Rose (output_faults old.output) (output_faults new.output)) new.status

  -- what words asked for was done, by these settings
  abbrev pub Did : words.Asked → Config → Outside D B C J F I O N → Left D P B C J F I O N → Type 0
  Did (words.drive file) config old new = DroveBy config old new
  Did (words.serve file log) config old new = ServedBy config old new
  Did (words.client file server) config old new = JoinedBy config server old new
  Did (words.status file) config old new = AskedBy config question.Status old new
  Did (words.stop file) config old new = AskedBy config question.Stop old new
  Did (words.make count seed) config old new = MadeBy config count seed old new
  Did (words.make_lines count seed) config old new = WroteLines count seed old new

  -- what words came to: they are none that the program knows; memory was wanted to read them; their settings are refused; or the folder read them, and what the words ask for was done
  pub data Came (given_words : List Text) (old : Outside D B C J F I O N) (new : Left D P B C J F I O N) : Type 0 where
    no_words : words.meaning given_words ≡ None → Idle old new → Says old.output new 2 words_line → Came given_words old new
    no_memory : new.status ≡ 5 → Idle old new → new.output ≡ old.output → Came given_words old new
    no_settings : (asked : words.Asked) → words.meaning given_words ≡ Some asked → (why : SettingsFault)
        → IsReading (files old.folder) (file_of asked) (Rose (folder_faults old.folder) (folder_faults new.folder)) (Err why)
        → Idle old new → Says old.output new (settings_status why) (line_of why) → Came given_words old new
    did : (asked : words.Asked) → words.meaning given_words ≡ Some asked → (config : Config) (folder : F)
        → IsReading (files old.folder) (file_of asked) (Rose (folder_faults old.folder) (folder_faults folder)) (Ok config)
        → Did asked config (record old { folder = folder }) new → Came given_words old new
