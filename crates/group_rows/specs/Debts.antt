-- S9: what a start wants asked anew, and is owed to an editor whose texts the start hasn't (LSP 3.17, the refresh requests of Language Features).
use Rattle.std.specs.Prelude.{◌≡◌, ℕ, Bool, true, false, not, ◌&&◌, ◌||◌, List, [], codes, nat_eq, if◌then◌else◌}
use Rattle.std.specs.Prelude.{Option}
use Rattle.std.specs.List.{list_all}
use Rattle.std.specs.Option.{option_map_or}
use Rattle.mux_history.specs.declared.cause.Cause.TheVariants.{FromEditor, EditorGone, FromServer, StartFailed, ServerGone}
use Rattle.mux_history.specs.declared.out.Out.TheVariants.{CloseEditor}
use Rattle.lsp_method.specs.Class.{class_of}
use Rattle.lsp_method.specs.declared.variants.Class.{Class}
use Rattle.lsp_method.specs.declared.variants.Class.TheVariants.{Refresh}
use Rattle.lsp_method.specs.declared.variants.Origin.TheVariants.{Editor, Server}
use Rattle.json_text.specs.Json.{Json}
use Rattle.rpc_message.specs.Message.{Id, Message, message_of, request, notification}
use Rattle.response_route.specs.document_model.specs.declared.agreement.Agreement.{Agreement}
use Rattle.response_route.specs.document_model.specs.declared.agreement.Agreement.TheVariants.{Agrees}
use Rattle.response_route.specs.document_model.specs.Opens.{Open}
use Rattle.event_model.specs.Event.{Event, took, did, requests}
use Rattle.event_model.specs.Phases.{desk_of, is_running}
use Rattle.event_model.specs.Settings.{Settings}
use Rattle.event_model.specs.Spawns.{group_of}
use Rattle.event_model.specs.Stages.{life_of, is_ready}
use Rattle.registrations.specs.mux_model.specs.Methods.{goes_on}
use Rattle.refresh_debts.specs.declared.debts.Debt.{Debt}
use Rattle.refresh_debts.specs.Tables.{is_same, with_debt, without}
use Rattle.group_words.specs.Houses.{home_of, is_home}
use Rattle.group_words.specs.Past.{past}
use Rattle.group_rows.specs.Answers.{shared_texts}
use Rattle.group_rows.specs.Asks.{serves}
use Rattle.group_rows.specs.Forwarded.{has_room}
use Rattle.group_rows.specs.Lists.{agreement_at}
use Rattle.group_rows.specs.Live.{is_heard}
use Rattle.group_rows.specs.Waiting.{is_for_start}

abbrev pub names_refresh : Class → Bool
names_refresh Refresh = true
names_refresh _ = false

abbrev pub wants_refresh : List ℕ → Bool
wants_refresh method = names_refresh (class_of method Server false)

-- the start has the language and the text that an editor has of each document that the editor has open
abbrev pub is_agreed : Agreement → Bool
is_agreed (Agrees held changed) = true
is_agreed other = false

abbrev pub agrees_on : Settings → ℕ → List Event → ℕ → Open → Bool
agrees_on settings s events e o = not (nat_eq o.editor e) || is_agreed (agreement_at settings s e events o.uri)

abbrev pub agrees_on_all : Settings → ℕ → List Event → ℕ → Bool
agrees_on_all settings s events e = list_all (agrees_on settings s events e) (shared_texts settings s events).opens

-- the editor runs, in the group of the start
abbrev pub runs_at : Settings → ℕ → List Event → ℕ → Bool
runs_at settings s events e = is_running (desk_of e events).phase && option_map_or (λ g. is_home g (home_of settings e events)) (group_of s events) false

-- the start, which is ready, asks for it, under the id of no open ask
abbrev pub asks_anew : Settings → ℕ → List Event → Id → List ℕ → Bool
asks_anew settings s before id method = wants_refresh method && is_heard settings s before id

-- E10, E16 and E17: what an editor says goes on to the start of its group, which is ready: a request, while a number is left, or a notification. One that begins to run by it is owed nothing yet
abbrev pub goes_forth : Settings → ℕ → List Event → ℕ → List ℕ → Message → Bool
goes_forth settings s before e body (request id method params) = is_for_start before e body (request id method params) && has_room settings s before
goes_forth settings s before e body (notification method params) = goes_on (class_of method Editor true)
goes_forth settings s before e body other = false

abbrev pub goes_to : Settings → ℕ → List Event → ℕ → List ℕ → Message → Bool
goes_to settings s before e body m = (is_running (desk_of e before).phase && (serves settings before s e && is_ready (life_of s before).stage)) && goes_forth settings s before e body m

-- what the start wants asked anew is owed, or is owed no more, since the editor agrees on all that it has open
abbrev pub owed_by : Bool → Debt → List Debt → List Debt
owed_by agreed d ds = if agreed then without (is_same d.start d.editor d.method) ds else with_debt d ds

abbrev pub debt_of : ℕ → ℕ → List ℕ → List ℕ → Debt
debt_of s e method body = record { start = s; editor = e; method = method; body = body }

abbrev pub debts_asked : Settings → ℕ → ℕ → List Event → List ℕ → Message → List Debt → List Debt
debts_asked settings s e before body (request id method params) ds = if asks_anew settings s before id method && runs_at settings s before e then owed_by (agrees_on_all settings s before e) (debt_of s e method body) ds else ds
debts_asked settings s e before body other ds = ds

-- it is owed no more: its start's program ended, or couldn't be run, or its editor left
abbrev pub ends_debts : ℕ → ℕ → Event → Bool
ends_debts s e (took (FromEditor n body) m) = nat_eq n e && requests (codes "shutdown") m
ends_debts s e (took (EditorGone n why) m) = nat_eq n e
ends_debts s e (took (StartFailed n) m) = nat_eq n s
ends_debts s e (took (ServerGone n) m) = nat_eq n s
ends_debts s e (did (CloseEditor n) m) = nat_eq n e
ends_debts s e other = false

-- or its editor is asked, behind its own message
abbrev pub pays_debts : Settings → ℕ → ℕ → List Event → Event → Bool
pays_debts settings s e before (took (FromEditor n body) m) = nat_eq n e && goes_to settings s before e body m
pays_debts settings s e before other = false

abbrev pub debts_next : Settings → ℕ → ℕ → List Event → List Debt → Event → List Debt
debts_next settings s e before ds (took (FromServer n body) m) = if nat_eq n s then debts_asked settings s e before body m ds else ds
debts_next settings s e before ds event = if ends_debts s e event || pays_debts settings s e before event then [] else ds

-- what is owed: such a request, as it came
pub record IsDebt (d : Debt) : Type 0 where
  pub id : Id
  pub params : Option Json
  pub says : message_of d.body ≡ request id d.method params
  pub wants : wants_refresh d.method ≡ true

-- what start s owes to editor e: of each method the last request, in the order in which the methods came to be owed
abbrev pub debts_of : Settings → ℕ → ℕ → List Event → List Debt
debts_of settings s e events = past (debts_next settings s e) [] [] events

-- what it is asked behind its message
abbrev pub debts_due : Settings → ℕ → List Event → ℕ → List ℕ → Message → List Debt
debts_due settings s before e body m = if goes_to settings s before e body m then debts_of settings s e before else []
