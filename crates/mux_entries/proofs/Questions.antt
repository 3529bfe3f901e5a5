-- What a start that is ready asks and tells, by its row.
use Rattle.std.proofs.Common.{◌≡◌, ℕ, Bool, true, false, List, [], ◌∷◌, refl, ap, sym, ◌∙◌, arith}
use Rattle.std.specs.Prelude.{Some}
use Rattle.std.specs.List.{AllByRecursion}
use Rattle.lsp_method.specs.Class.{class_of, server_notification, server_request}
use Rattle.lsp_method.specs.declared.variants.Class.{Class}
use Rattle.lsp_method.specs.declared.variants.Class.TheVariants.{Broadcast, Cancel, Create, Diagnostics, Focused, Folders, Lowest, Progress, Refresh, Register, Unregister}
use Rattle.lsp_method.specs.declared.variants.Origin.TheVariants.{Server}
use Rattle.rpc_message.specs.declared.sort.Sort.TheVariants as sort
use Rattle.rpc_message.specs.Message.{Message, message_of, request}
use Rattle.rpc_message.specs.Sorts.{sort_of}
use Rattle.event_model.specs.declared.phase.Phase.TheVariants.{Running}
use Rattle.event_model.specs.declared.stage.Stage.TheVariants.{Ready}
use Rattle.event_model.specs.Does.{Alike}
use Rattle.event_model.specs.Event.{Event}
use Rattle.event_model.specs.Phases.{desk_of, is_malformed}
use Rattle.event_model.specs.Row.{nothing, on}
use Rattle.event_model.specs.Settings.{Settings}
use Rattle.event_model.specs.Spawns.{group_of}
use Rattle.event_model.specs.Stages.{life_of}
use Rattle.event_model.proofs.Frames.{never}
use Rattle.event_model.proofs.Turns.{alike}
use Rattle.mux_starts.specs.group_facts.specs.Settled.{HasSeat, Settled}
use Rattle.mux_starts.specs.group_facts.proofs.StopDown.{ready_unstopped}
use Rattle.group_rows.specs.AskRows.{asking_row}
use Rattle.group_rows.specs.Asks.{Ask, asks_of}
use Rattle.group_rows.specs.Rows.{from_server}
use Rattle.group_rows.specs.Rows as rows
use Rattle.mux_starts.specs.mux_tables.specs.Stands.{is_request}

-- the classes of a server's requests
abbrev pub is_asking : Class → Bool
is_asking Create = true
is_asking Refresh = true
is_asking Folders = true
is_asking Focused = true
is_asking Lowest = true
is_asking Register = true
is_asking Unregister = true
is_asking _ = false

pub asked_kinds : (m : List ℕ) → is_asking (class_of m Server false) ≡ true
unfolding server_request
asked_kinds m = grind arith

pub lowest : (c : Class) → (c ≡ Refresh → ⊥) → (c ≡ Folders → ⊥) → (c ≡ Focused → ⊥) → (c ≡ Register → ⊥) → (c ≡ Unregister → ⊥) → (c ≡ Create → ⊥) → is_asking c ≡ true → c ≡ Lowest
lowest Refresh r d f g u n h = absurd (r refl)
lowest Folders r d f g u n h = absurd (d refl)
lowest Focused r d f g u n h = absurd (f refl)
lowest Register r d f g u n h = absurd (g refl)
lowest Unregister r d f g u n h = absurd (u refl)
lowest Create r d f g u n h = absurd (n refl)
lowest Lowest r d f g u n h = refl
lowest _ r d f g u n h = never (sym h)

-- the classes of its notifications
abbrev pub is_telling : Class → Bool
is_telling Cancel = true
is_telling Progress = true
is_telling Diagnostics = true
is_telling Broadcast = true
is_telling _ = false

pub told_kinds : (m : List ℕ) → is_telling (class_of m Server true) ≡ true
unfolding server_notification
told_kinds m = grind arith

pub broadcasts : (c : Class) → (c ≡ Cancel → ⊥) → (c ≡ Progress → ⊥) → (c ≡ Diagnostics → ⊥) → is_telling c ≡ true → c ≡ Broadcast
broadcasts Cancel other more most h = absurd (other refl)
broadcasts Progress other more most h = absurd (more refl)
broadcasts Diagnostics other more most h = absurd (most refl)
broadcasts Broadcast other more most h = refl
broadcasts c other more most h = never (sym h)

pub question_there : (settings : Settings) (before : List Event) (s g : ℕ) (body method : List ℕ) → group_of s before ≡ Some g → Alike (on (group_of s before) nothing (λ h. asking_row settings before h s body method (class_of method Server false))) (asking_row settings before g s body method (class_of method Server false))
question_there settings before s g body method home = alike (ap (λ o. on o nothing (λ h. asking_row settings before h s body method (class_of method Server false))) home)

-- a message that is none
pub no_request : (m : Message) → (sort_of m ≡ Some sort.Request → ⊥) → is_request m ≡ false
no_request (request id method params) h = absurd (h refl)
no_request other h = refl

pub malformed_asks : (m : Message) → is_malformed m ≡ true → is_request m ≡ false
malformed_asks (request id method params) h = never (sym h)
malformed_asks other h = refl

-- who was asked runs
pub all_run : (settings : Settings) (before : List Event) (s : ℕ) → (life_of s before).stage ≡ Ready → Settled settings before → AllByRecursion (λ (a : Ask). (desk_of a.editor before).phase ≡ Running) (asks_of settings s before)
all_run settings before s ready settled = go (asks_of settings s before) (settled.asks (ready_unstopped settings before settled s ready) s)
  where
    go : (asked : List Ask) → AllByRecursion (HasSeat settings before s) asked → AllByRecursion (λ (a : Ask). (desk_of a.editor before).phase ≡ Running) asked
    go [] h = tt
    go (a ∷ asked) h = (h.0.running, go asked h.1)

-- a message of a start that is ready
module _ (settings : Settings) (before : List Event) (s : ℕ) (body : List ℕ) (m : Message) (stage : (life_of s before).stage ≡ Ready) (is : message_of body ≡ m) where
  pub asks_here : Alike (from_server settings s before body (message_of body) (life_of s before).stage) (rows.ready_row settings s before body m)
  asks_here = alike (ap (from_server settings s before body (message_of body)) stage ∙ ap (rows.ready_row settings s before body) is)
