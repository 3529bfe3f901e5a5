-- What a start owes an editor, one event further; and what is owed was asked by the start.
use Rattle.std.proofs.Common.{◌≡◌, ℕ, Bool, true, false, ◌&&◌, ◌||◌, cond, List, [], ◌∷◌, ◌++◌, append-nil, bytes_eq, codes, nat_eq, not, if◌then◌else◌, Option, None, Some, refl, sym, ◌∙◌, ap}
use Rattle.std.specs.List.{AllByRecursion}
use Rattle.std.proofs.lemmas.Bool.{and_parts}
use Rattle.lsp_method.specs.Class.{class_of}
use Rattle.lsp_method.specs.declared.variants.Class.{Class}
use Rattle.lsp_method.specs.declared.variants.Class.TheVariants.{Refresh}
use Rattle.lsp_method.specs.declared.variants.Origin.TheVariants.{Editor, Server}
use Rattle.mux_history.specs.declared.cause.Cause.TheVariants.{FromEditor, FromServer}
use Rattle.mux_history.specs.declared.out.Out.{Out}
use Rattle.rpc_message.specs.Message.{Message, message_of, request, notification, result, error, not_json, not_message}
use Rattle.response_route.specs.document_model.specs.Sayings.{saying_of, speaks}
use Rattle.event_model.specs.Event.{Event, behind, notifies, requests, took, with_cause}
use Rattle.event_model.specs.Members.{params_of}
use Rattle.event_model.specs.Phases.{desk_of, is_multiplexer_request, is_running}
use Rattle.event_model.specs.Row.{each, nothing, on, outs}
use Rattle.event_model.specs.Settings.{Settings}
use Rattle.event_model.specs.Spawns.{start_of}
use Rattle.event_model.specs.Stages.{is_ready, life_of}
use Rattle.event_model.proofs.Frames.{never}
use Rattle.refresh_debts.specs.declared.debts.Debt.{Debt}
use Rattle.refresh_debts.specs.Tables.{is_same, with_debt, without}
use Rattle.registrations.specs.mux_model.specs.Methods.{goes_on, is_wrong}
use Rattle.group_words.specs.Houses.{home_of, is_doubled}
use Rattle.group_words.specs.Past.{past}
use Rattle.group_words.proofs.Frames.{past_more}
use Rattle.group_rows.specs.AskRows.{ask, debts_at, debts_row}
use Rattle.group_rows.specs.Asks.{goes_to_one, is_patient, is_single, may_wait, serves}
use Rattle.group_rows.specs.Created.{accepts, is_creating, names_create}
use Rattle.group_rows.specs.Debts.{IsDebt, agrees_on_all, asks_anew, debt_of, debts_asked, debts_next, debts_of, ends_debts, goes_forth, goes_to, names_refresh, owed_by, pays_debts, runs_at, wants_refresh}
use Rattle.group_rows.specs.Forwarded.{has_room}
use Rattle.group_rows.specs.Live.{changes_live, is_heard, is_registering}
use Rattle.group_rows.specs.Reserved.{reserves}
use Rattle.group_rows.specs.Rows.{from_editor, outs_of}
use Rattle.group_rows.specs.Waiting.{is_misplaced}
use Rattle.group_rows.proofs.Going.{going_silent, no_exit}
use Rattle.group_rows.proofs.Versions.{AllMeant, IsMeant}

-- one event more
pub debts_more : (settings : Settings) (s e : ℕ) (events : List Event) (ev : Event) → debts_of settings s e (events ++ ev ∷ []) ≡ debts_next settings s e events (debts_of settings s e events) ev
debts_more settings s e events ev = past_more (debts_next settings s e) [] [] events ev

others_kept : (test : Debt → Bool) (ds : List Debt) → AllByRecursion IsDebt ds → AllByRecursion IsDebt (without test ds)
others_kept test [] h = tt
others_kept test (d ∷ ds) h = go (not (test d)) (others_kept test ds h.1)
  where
    go : (b : Bool) → AllByRecursion IsDebt (without test ds) → AllByRecursion IsDebt (cond b (d ∷ without test ds) (without test ds))
    go true rest = (h.0, rest)
    go false rest = rest

put_kept : (d : Debt) (ds : List Debt) → IsDebt d → AllByRecursion IsDebt ds → AllByRecursion IsDebt (with_debt d ds)
put_kept d [] h k = (h, tt)
put_kept d (x ∷ ds) h k = go (is_same d.start d.editor d.method x) (put_kept d ds h k.1)
  where
    go : (b : Bool) → AllByRecursion IsDebt (with_debt d ds) → AllByRecursion IsDebt (if b then d ∷ ds else x ∷ with_debt d ds)
    go true rest = (h, k.1)
    go false rest = (k.0, rest)

if_kept : (b : Bool) (x y : List Debt) → AllByRecursion IsDebt x → AllByRecursion IsDebt y → AllByRecursion IsDebt (if b then x else y)
if_kept true x y h k = h
if_kept false x y h k = k

asked_kept : (settings : Settings) (s e : ℕ) (before : List Event) (body : List ℕ) (ds : List Debt) → AllByRecursion IsDebt ds → (m : Message) → m ≡ message_of body → AllByRecursion IsDebt (debts_asked settings s e before body m ds)
asked_kept settings s e before body ds h (request id method params) says = go (asks_anew settings s before id method) refl (runs_at settings s before e) (agrees_on_all settings s before e)
  where
    d : Debt
    d = debt_of s e method body

    made : asks_anew settings s before id method ≡ true → IsDebt d
    made anew = record { id = id; params = params; says = sym says; wants = (and_parts (wants_refresh method) (is_heard settings s before id) anew).0 }

    go : (a : Bool) → asks_anew settings s before id method ≡ a → (b c : Bool) → AllByRecursion IsDebt (if a && b then owed_by c d ds else ds)
    go true anew true true = others_kept (is_same s e method) ds h
    go true anew true false = put_kept d ds (made anew) h
    go true anew false c = h
    go false anew b c = h
asked_kept settings s e before body ds h other says = h

step_kept : (settings : Settings) (s e : ℕ) (before : List Event) (ds : List Debt) (event : Event) → IsMeant event → AllByRecursion IsDebt ds → AllByRecursion IsDebt (debts_next settings s e before ds event)
step_kept settings s e before ds (took (FromServer n body) m) says h = if_kept (nat_eq n s) (debts_asked settings s e before body m ds) ds (asked_kept settings s e before body ds h m says) h
step_kept settings s e before ds event says h = if_kept (ends_debts s e event || pays_debts settings s e before event) [] ds tt h

all_kept : (settings : Settings) (s e : ℕ) (before : List Event) (ds : List Debt) (events : List Event) → AllMeant events → AllByRecursion IsDebt ds → AllByRecursion IsDebt (past (debts_next settings s e) before ds events)
all_kept settings s e before ds [] says h = h
all_kept settings s e before ds (event ∷ events) says h = all_kept settings s e (before ++ event ∷ []) (debts_next settings s e before ds event) events says.1 (step_kept settings s e before ds event says.0 h)

pub debts_kept : (settings : Settings) (s e : ℕ) (events : List Event) → AllMeant events → AllByRecursion IsDebt (debts_of settings s e events)
debts_kept settings s e events says = all_kept settings s e [] [] events says tt

-- A refresh is of that class, and so of no other

pub refresh_is : (c : Class) → names_refresh c ≡ true → c ≡ Refresh
refresh_is Refresh h = refl
refresh_is other h = never (sym h)

module _ (method : List ℕ) (wants : wants_refresh method ≡ true) where
  class : class_of method Server false ≡ Refresh
  class = refresh_is (class_of method Server false) wants

  pub refresh_uncreating : is_creating method ≡ false
  refresh_uncreating = ap names_create class

  pub refresh_unregistering : is_registering method ≡ false
  refresh_unregistering = ap changes_live class

  pub refresh_unhurried : is_patient method ≡ false
  refresh_unhurried = ap may_wait class

  pub refresh_unsingle : is_single method ≡ false
  refresh_unsingle = ap goes_to_one class

-- Where a message doesn't go on nothing is paid

and_off : (a : Bool) → (a && false) ≡ false
and_off true = refl
and_off false = refl

off_second : (a c : Bool) → (a && (false && c)) ≡ false
off_second true c = refl
off_second false c = refl

off_third : (a b d : Bool) → (a && (b && (false && d))) ≡ false
off_third true true d = refl
off_third true false d = refl
off_third false b d = refl

off_fourth : (a b c d : Bool) → (a && (b && (c && (false && d)))) ≡ false
off_fourth true true true d = refl
off_fourth true true false d = refl
off_fourth true false c d = refl
off_fourth false b c d = refl

module _ (settings : Settings) (before : List Event) (e : ℕ) (body : List ℕ) where
  pub debts_off : (m : Message) → ((s : ℕ) → goes_to settings s before e body m ≡ false) → (events : List Event) → outs (debts_row settings before e body m) events ≡ []
  debts_off m off events = at_home (home_of settings e before)
    where
      at_start : (o : Option ℕ) → outs (on o nothing (debts_at settings before e body m)) events ≡ []
      at_start None = refl
      at_start (Some s) = ap (λ b. outs (each (λ (d : Debt). ask d.body e) (if b then debts_of settings s e before else [])) events) (off s)

      at_home : (o : Option ℕ) → outs (on o nothing (λ g. on (start_of g before) nothing (debts_at settings before e body m))) events ≡ []
      at_home None = refl
      at_home (Some g) = at_start (start_of g before)

  -- and the outs of the entry are those of the message
  pub whole_off : ((s : ℕ) → goes_to settings s before e body (message_of body) ≡ false) → outs_of settings before (FromEditor e body) ≡ outs (from_editor settings before e body (message_of body) (desk_of e before).phase) (with_cause before (FromEditor e body))
  whole_off off = ap (λ ys. xs ++ ys) (debts_off (message_of body) off (behind (with_cause before (FromEditor e body)) xs)) ∙ append-nil xs
    where
      xs : List Out
      xs = outs (from_editor settings before e body (message_of body) (desk_of e before).phase) (with_cause before (FromEditor e body))

  -- an editor that doesn't run
  pub off_unrun : (m : Message) → is_running (desk_of e before).phase ≡ false → (s : ℕ) → goes_to settings s before e body m ≡ false
  off_unrun m idle s = ap (λ b. (b && (serves settings before s e && is_ready (life_of s before).stage)) && goes_forth settings s before e body m) idle

  pub off_forth : (m : Message) → ((s : ℕ) → goes_forth settings s before e body m ≡ false) → (s : ℕ) → goes_to settings s before e body m ≡ false
  off_forth m off s = ap (λ b. (is_running (desk_of e before).phase && (serves settings before s e && is_ready (life_of s before).stage)) && b) (off s) ∙ and_off (is_running (desk_of e before).phase && (serves settings before s e && is_ready (life_of s before).stage))

  -- E3
  pub forth_doubled : (m : Message) → is_doubled before e m ≡ true → (s : ℕ) → goes_forth settings s before e body m ≡ false
  forth_doubled (request id method params) h s = ap (λ b. (not b && (not (is_multiplexer_request (request id method params)) && (not (is_misplaced method) && (not (bytes_eq (codes "shutdown") method) && not (reserves (params_of body)))))) && has_room settings s before) h
  forth_doubled (notification method params) h s = never (sym h)
  forth_doubled (result id r) h s = never (sym h)
  forth_doubled (error id x) h s = never (sym h)
  forth_doubled not_json h s = never (sym h)
  forth_doubled not_message h s = never (sym h)

  -- E9
  pub forth_exit : (m : Message) → notifies (codes "exit") m ≡ true → (s : ℕ) → goes_forth settings s before e body m ≡ false
  forth_exit (notification method params) h s = go (goes_on (class_of method Editor true)) refl
    where
      go : (b : Bool) → goes_on (class_of method Editor true) ≡ b → b ≡ false
      go true going = never (sym h ∙ no_exit method going)
      go false off = refl
  forth_exit (request id method params) h s = never (sym h)
  forth_exit (result id r) h s = never (sym h)
  forth_exit (error id x) h s = never (sym h)
  forth_exit not_json h s = never (sym h)
  forth_exit not_message h s = never (sym h)

  pub forth_shutdown : (m : Message) → requests (codes "shutdown") m ≡ true → (s : ℕ) → goes_forth settings s before e body m ≡ false
  forth_shutdown (request id method params) h s =
      ap (λ b. (not (is_doubled before e (request id method params)) && (not (is_multiplexer_request (request id method params)) && (not (is_misplaced method) && (not b && not (reserves (params_of body)))))) && has_room settings s before) h
      ∙ ap (λ b. b && has_room settings s before) (off_fourth (not (is_doubled before e (request id method params))) (not (is_multiplexer_request (request id method params))) (not (is_misplaced method)) (not (reserves (params_of body))))
  forth_shutdown (notification method params) h s = never (sym h)
  forth_shutdown (result id r) h s = never (sym h)
  forth_shutdown (error id x) h s = never (sym h)
  forth_shutdown not_json h s = never (sym h)
  forth_shutdown not_message h s = never (sym h)

  -- E4 to E6
  pub forth_own : (m : Message) → is_multiplexer_request m ≡ true → (s : ℕ) → goes_forth settings s before e body m ≡ false
  forth_own (request id method params) h s =
      ap (λ b. (not (is_doubled before e (request id method params)) && (not b && (not (is_misplaced method) && (not (bytes_eq (codes "shutdown") method) && not (reserves (params_of body)))))) && has_room settings s before) h
      ∙ ap (λ b. b && has_room settings s before) (off_second (not (is_doubled before e (request id method params))) (not (is_misplaced method) && (not (bytes_eq (codes "shutdown") method) && not (reserves (params_of body)))))
  forth_own (notification method params) h s = never (sym h)
  forth_own (result id r) h s = never (sym h)
  forth_own (error id x) h s = never (sym h)
  forth_own not_json h s = never (sym h)
  forth_own not_message h s = never (sym h)

  -- E12 to E15: what speaks of a document
  pub forth_speaking : (m : Message) → speaks (saying_of m) ≡ true → (s : ℕ) → goes_forth settings s before e body m ≡ false
  forth_speaking (notification method params) h s = go (goes_on (class_of method Editor true)) refl
    where
      go : (b : Bool) → goes_on (class_of method Editor true) ≡ b → b ≡ false
      go true going = never (sym h ∙ ap speaks (going_silent method going params))
      go false off = refl
  forth_speaking (request id method params) h s = never (sym h)
  forth_speaking (result id r) h s = refl
  forth_speaking (error id x) h s = refl
  forth_speaking not_json h s = refl
  forth_speaking not_message h s = refl

  -- E8: a second `initialize`
  pub forth_again : (m : Message) → requests (codes "initialize") m ≡ true → (s : ℕ) → goes_forth settings s before e body m ≡ false
  forth_again (request id method params) h s =
      ap (λ b. (not (is_doubled before e (request id method params)) && (not (is_multiplexer_request (request id method params)) && (not (b || is_wrong (class_of method Editor false)) && (not (bytes_eq (codes "shutdown") method) && not (reserves (params_of body)))))) && has_room settings s before) h
      ∙ ap (λ b. b && has_room settings s before) (off_third (not (is_doubled before e (request id method params))) (not (is_multiplexer_request (request id method params))) (not (bytes_eq (codes "shutdown") method) && not (reserves (params_of body))))
  forth_again (notification method params) h s = never (sym h)
  forth_again (result id r) h s = never (sym h)
  forth_again (error id x) h s = never (sym h)
  forth_again not_json h s = never (sym h)
  forth_again not_message h s = never (sym h)

  -- E19: a result
  pub forth_accepting : (m : Message) → accepts m ≡ true → (s : ℕ) → goes_forth settings s before e body m ≡ false
  forth_accepting (result id r) h s = refl
  forth_accepting (error id x) h s = never (sym h)
  forth_accepting (request id method params) h s = never (sym h)
  forth_accepting (notification method params) h s = never (sym h)
  forth_accepting not_json h s = never (sym h)
  forth_accepting not_message h s = never (sym h)
