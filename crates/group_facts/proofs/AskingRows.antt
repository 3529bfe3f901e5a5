-- S6, S7, S9 to S12, S14 and what goes to each editor: why a ready start's requests and notifications are answered and go on; E19: why an editor's response does.
use Rattle.std.proofs.Common.{◌≡◌, ℕ, ◌^◌, ◌<◌, Bool, true, false, ◌&&◌, ◌||◌, not, cond, List, [], ◌∷◌, ◌++◌, append-nil, append_assoc, filter, find, codes, decimal, map, nat_eq, if◌then◌else◌, Option, Some, None, is_some, refl, sym, ◌∙◌, ap, subst, ltb-true, arith}
use Rattle.std.specs.List.{AllByRecursion, last_or, list_any, range_with_len}
use Rattle.std.specs.Option.{option_and_then, option_map, option_map_or}
use Rattle.std.proofs.lemmas.Bool.{and_parts}
use Rattle.std.proofs.lemmas.Slice.Eq.{bytes_eq-Decides}
use Rattle.json_text.specs.Bare.{nowhere}
use Rattle.json_text.specs.declared.kind.Word.TheVariants.{Null}
use Rattle.json_text.specs.Json.{Json, number, word}
use Rattle.mux_history.specs.declared.cause.Cause.TheVariants.{FromEditor, FromServer}
use Rattle.mux_history.specs.declared.out.Out.{Out}
use Rattle.mux_history.specs.declared.out.Out.TheVariants.{ToEditor, ToServer}
use Rattle.lsp_method.specs.Class.{class_of, goes_nowhere, is_focused, is_refresh, own_notification, own_request, server_request}
use Rattle.lsp_method.specs.declared.variants.Class.{Class}
use Rattle.lsp_method.specs.declared.variants.Class.TheVariants.{Broadcast, Cancel, Create, Diagnostics, Folders, Focused, Lowest, Refresh, Register, Unregister, Progress}
use Rattle.lsp_method.specs.declared.variants.Origin.TheVariants.{Server}
use Rattle.rpc_message.specs.Message.{Message, request, notification, result, error, not_json, not_message, Id, id_bytes, id_of, integer, integer_if, message_of}
use Rattle.rpc_message.specs.ValueTexts.{IsIdText}
use Rattle.rpc_message.specs.Texts.{error_text, invalid_params, ok_text, request_failed, with_id_text}
use Rattle.rpc_message.proofs.Decimals.{decimal_integer, decimal_law}
use Rattle.rpc_message.proofs.Fixed.{id_as_response, ok_law}
use Rattle.rpc_message.proofs.Ids.{error_with_id, request_id_bytes, request_with_id, result_with_id}
use Rattle.event_model.specs.declared.phase.Phase.{Phase}
use Rattle.event_model.specs.declared.phase.Phase.TheVariants.{Absent, New, Waiting, Answered, Running, Down, Closed, Gone}
use Rattle.event_model.specs.declared.stage.Stage.TheVariants.{Ready}
use Rattle.event_model.specs.Event.{Event, behind, did, heard, requests, said, with_cause}
use Rattle.event_model.specs.Members.{named_of}
use Rattle.event_model.specs.Phases.{Desk, desk_hears, desk_of, editors_of, is_running, phase_told}
use Rattle.event_model.specs.Requests.{answered_id, is_open, with_request}
use Rattle.event_model.specs.Row.{Row, choose, each, nothing, on, outs, send}
use Rattle.event_model.specs.Settings.{Settings}
use Rattle.event_model.specs.Spawns.{group_of, start_of}
use Rattle.event_model.specs.Stages.{Life, is_initializing, is_ready, life_of, is_first_result, stage_hears}
use Rattle.event_model.proofs.Frames.{never}
use Rattle.group_rows.specs.response_route.specs.Asked.{asked_text, not_applied, refusal_tree}
use Rattle.group_rows.specs.response_route.proofs.Asking.{refusal_result, request_asks}
use Rattle.mux_facts.specs.Allowed.{is_response}
use Rattle.mux_facts.proofs.Bodies.{refusal_says}
use Rattle.mux_facts.proofs.DocumentRow.{ready_is}
use Rattle.mux_facts.proofs.Folds.{desk_more, life_more}
use Rattle.mux_facts.proofs.Keeps.{behind_both}
use Rattle.mux_facts.proofs.Lists.{all_filtered, all_of, found_is}
use Rattle.mux_facts.proofs.Reasons.{Because, by_choose, by_look, by_nothing, by_on, by_send, by_then}
use Rattle.mux_facts.proofs.Words.{number_same, open_last, same_number}
use Rattle.group_words.specs.Houses.{groups_of, home_of, is_home}
use Rattle.group_words.specs.Rows.{folders_text}
use Rattle.group_rows.specs.AskRows.{ask, ask_edit, asking_row, broadcast, cancelled_row, current_version, edited, else_first, hand_back, in_focus, is_among, is_edit, notified_row, question_row, response_at, response_row}
use Rattle.group_rows.specs.Asks.{Ask, Asker, Asking, Parked, asked_next, asker_of, asking_next, asking_of, asks_of, first_in, goes_to_one, has_number, has_running, idle_asking, is_own_work, is_patient, is_seated, is_single, is_taken, is_under, may_wait, next_ask, parks, running_in, serves, unparked, waits_under}
use Rattle.group_rows.specs.Debts.{agrees_on_all}
use Rattle.group_rows.specs.Forwarded.{Forwarded, forwarding_of, names}
use Rattle.group_rows.specs.registrations.specs.declared.registration.Registration.{Registration}
use Rattle.group_rows.specs.registrations.specs.Items.{again}
use Rattle.group_rows.specs.Leaves.{cancel_text}
use Rattle.group_rows.specs.diagnostics_route.specs.declared.last_list.LastList.{LastList}
use Rattle.group_rows.specs.diagnostics_route.specs.Published.{published}
use Rattle.group_rows.specs.diagnostics_route.specs.Shown.{shown_text}
use Rattle.group_rows.specs.ListRows.{list_row, show}
use Rattle.group_rows.specs.Lists.{names_list, sayings_of, version_at}
use Rattle.group_rows.proofs.ExitTexts.{published_spelt}
use Rattle.group_rows.proofs.ListsKept.{IsList, published_body}
use Rattle.group_rows.specs.Tokens.{is_mark, is_told, listens, marked_text, own_token, partial_mark, work_mark}
use Rattle.group_rows.proofs.TokenTexts.{HasTokens, IsTokenText, marked_says, tokens_kept}
use Rattle.group_rows.specs.Created.{Taking, Token, accepts, created_of, created_text, has_accepted, is_answered, is_creating, is_progress, named_token, names_create, names_progress, token_called}
use Rattle.group_rows.specs.CreatedRows.{create_row, create_text, created_row, taking_row, progress_row, takers, tell, tell_takers}
use Rattle.group_rows.proofs.CreatedKept.{AreTellings, found_one}
use Rattle.group_rows.proofs.CreatedTexts.{create_says, create_tree, created_token_text}
use Rattle.group_rows.specs.Live.{live_of, register_text, unregister_text}
use Rattle.group_rows.specs.LiveRows.{accept, call, decline, has_some, register_row, registering, unregister_any, unregister_row}
use Rattle.group_rows.proofs.LiveTexts.{again_written, live_written, register_says, registered_written, unregister_says}
use Rattle.group_rows.proofs.Versions.{AllMeant, current_flat}
use Rattle.group_rows.proofs.Cancels.{cancel_says, params_tree}
use Rattle.group_facts.specs.Facts.{Asks, IsAsked, IsWritten, Written, asked_by}
use Rattle.group_facts.specs.Why.{IsChange, IsRecall, IsCall, Calling, Resolution, Why, asks, denied, displaces, enrolled, enrols, created, creates, uncreated, IsNotified, IsTaken, of_held, of_request, of_token, is_call, granted, handed_back, listed, moves, recalls, calls, released, releases, resolves, spreads, unapplied, unenrolled, unreleased, IsProgress, progresses, comes, shows}
use Rattle.group_facts.proofs.Asks.{asked_by_more, asked_of_more, asking_more}
use Rattle.group_facts.proofs.Forwards.{get_all, zip_all}
use Rattle.group_facts.proofs.Nulls.{null_said}
use Rattle.group_facts.proofs.Shown.{behind_show, shown_why}
use Rattle.group_facts.proofs.Tellings.{cancel_names}

-- Lists

-- the first and the last are among them
pub first_is : (P : ℕ → Type 0) (es : List ℕ) (e : ℕ) → AllByRecursion P es → first_in es ≡ Some e → P e
first_is P [] e h at = absurd (cc)
first_is P (n ∷ es) e h at = subst P (let same : n ≡ e = cc in same) h.0

named_is : (P : ℕ → Type 0) (es : List ℕ) (e : ℕ) → AllByRecursion P es → list_any (nat_eq e) es ≡ true → P e
named_is P [] e h at = never (sym at)
named_is P (n ∷ es) e h at = go (nat_eq e n) refl (λ k. named_is P es e h.1 k) at
  where
    go : (b : Bool) → nat_eq e n ≡ b → (list_any (nat_eq e) es ≡ true → P e) → (b || list_any (nat_eq e) es) ≡ true → P e
    go true same rest k = subst P (sym (number_same e n same)) h.0
    go false other rest k = rest k

last_is : (P : ℕ → Type 0) (best : Option Forwarded) (fs : List Forwarded) → ((f : Forwarded) → best ≡ Some f → P f.editor) → AllByRecursion (λ (f : Forwarded). P f.editor) fs → (f : Forwarded) → last_or best fs ≡ Some f → P f.editor
last_is P best [] h k f at = h f at
last_is P best (g ∷ fs) h k f at = last_is P (Some g) fs (λ x same. subst (λ (z : Forwarded). P z.editor) (let is : g ≡ x = cc in is) k.0) k.1 f at

all_among : (P : ℕ → Type 0) (es : List ℕ) → AllByRecursion P es → (fs : List Forwarded) → AllByRecursion (λ (f : Forwarded). is_among es f ≡ true → P f.editor) fs
all_among P es h [] = tt
all_among P es h (f ∷ fs) = (λ t. named_is P es f.editor h t, all_among P es h fs)

focus_is : (P : ℕ → Type 0) (es : List ℕ) (fs : List Forwarded) (e : ℕ) → AllByRecursion P es → in_focus es fs ≡ Some e → P e
focus_is P es fs e h at = go (last_or None (filter (is_among es) fs)) refl at
  where
    among : AllByRecursion (λ (f : Forwarded). P f.editor) (filter (is_among es) fs)
    among = all_filtered (λ (f : Forwarded). is_among es f ≡ true → P f.editor) (λ (f : Forwarded). P f.editor) (is_among es) (λ f t k. k t) fs (all_among P es h fs)

    go : (o : Option Forwarded) → last_or None (filter (is_among es) fs) ≡ o → else_first (option_map (λ (f : Forwarded). f.editor) o) es ≡ Some e → P e
    go None is k = first_is P es e h k
    go (Some f) is k = subst P (let same : f.editor ≡ e = cc in same) (last_is P None (filter (is_among es) fs) (λ x none. absurd (cc)) among f is)

find_seated : (test : Ask → Bool) (xs : List Ask) (a : Ask) → find test xs ≡ Some a → test a ≡ true
find_seated test [] a h = absurd (cc)
find_seated test (b ∷ xs) a h = go (test b) refl (λ k. find_seated test xs a k) h
  where
    go : (c : Bool) → test b ≡ c → (find test xs ≡ Some a → test a ≡ true) → cond c (Some b) (find test xs) ≡ Some a → test a ≡ true
    go true e rest k = subst (λ z. test z ≡ true) (let same : b ≡ a = cc in same) e
    go false e rest k = rest k

module _ (settings : Settings) (before : List Event) where
  abbrev AllRun : List Event → List ℕ → Type 0
  AllRun events es = AllByRecursion (λ e. (desk_of e events).phase ≡ Running) es

  pub running_is : (phase : Phase) → is_running phase ≡ true → phase ≡ Running
  running_is Running h = refl
  running_is Absent h = never (sym h)
  running_is New h = never (sym h)
  running_is Waiting h = never (sym h)
  running_is Answered h = never (sym h)
  running_is Down h = never (sym h)
  running_is Closed h = never (sym h)
  running_is Gone h = never (sym h)

  all_units : (es : List ℕ) → AllByRecursion (λ (e : ℕ). Unit {0}) es
  all_units [] = tt
  all_units (e ∷ es) = (tt, all_units es)

  all_run : (g : ℕ) → AllRun before (running_in settings g before)
  all_run g = all_filtered (λ e. Unit {0}) (λ e. (desk_of e before).phase ≡ Running) (λ e. is_running (desk_of e before).phase && is_home g (home_of settings e before))
      (λ e t k. running_is (desk_of e before).phase (and_parts (is_running (desk_of e before).phase) (is_home g (home_of settings e before)) t).0) (range_with_len 0 (editors_of before)) (all_units (range_with_len 0 (editors_of before)))

  -- they are in the group
  record IsIn (g e : ℕ) : Type 0 where
    ran : (desk_of e before).phase ≡ Running
    home : home_of settings e before ≡ Some g

  home_is : (g : ℕ) (o : Option ℕ) → is_home g o ≡ true → o ≡ Some g
  home_is g (Some n) h = ap (λ k. Some k) (number_same n g h)
  home_is g None h = never (sym h)

  all_in : (g : ℕ) → AllByRecursion (IsIn g) (running_in settings g before)
  all_in g = all_filtered (λ e. Unit {0}) (IsIn g) (λ e. is_running (desk_of e before).phase && is_home g (home_of settings e before))
      (λ e t k. let both = and_parts (is_running (desk_of e before).phase) (is_home g (home_of settings e before)) t in record { ran = running_is (desk_of e before).phase both.0; home = home_is g (home_of settings e before) both.1 })
      (range_with_len 0 (editors_of before)) (all_units (range_with_len 0 (editors_of before)))

-- A body that is no response leaves each editor where it stands, and the request at work

runs_told : (phase : Phase) (initialize : List ℕ) (m : Message) → phase ≡ Running → phase_told phase initialize m ≡ Running
runs_told phase initialize m at = ap (λ p. phase_told p initialize m) at

pub still_runs : (events : List Event) (n : ℕ) (body : List ℕ) (e : ℕ) → (desk_of e events).phase ≡ Running → (desk_of e (events ++ said (ToEditor n body) ∷ [])).phase ≡ Running
still_runs events n body e at = ap (λ (d : Desk). d.phase) (desk_more e events (said (ToEditor n body))) ∙ go (nat_eq n e)
  where
    go : (b : Bool) → (if b then record { phase = phase_told (desk_of e events).phase (desk_of e events).initialize (message_of body); initialize = (desk_of e events).initialize } else desk_of e events).phase ≡ Running
    go true = runs_told (desk_of e events).phase (desk_of e events).initialize (message_of body) at
    go false = at

all_still : (settings : Settings) (before : List Event) (events : List Event) (n : ℕ) (body : List ℕ) (es : List ℕ) → AllRun settings before events es → AllRun settings before (events ++ said (ToEditor n body) ∷ []) es
all_still settings before events n body es h = all_of (λ e. (desk_of e events).phase ≡ Running) (λ e. (desk_of e (events ++ said (ToEditor n body) ∷ [])).phase ≡ Running) (λ e at. still_runs events n body e at) es h

-- what is at work
abbrev SameWork : Asking → Asking → Type 0
SameWork y x = (y.asker ≡ x.asker) × (y.runs ≡ x.runs)

unparked_work : (e n : ℕ) (x : Asking) (ps : List Parked) → SameWork (unparked e n x ps) x
unparked_work e n x [] = (refl, refl)
unparked_work e n x (p ∷ ps) = (refl, refl)

asked_work : (resumes : Bool) (e n : ℕ) (x : Asking) (o : Option Asker) → SameWork (asked_next resumes e n x o) x
asked_work resumes e n x (Some a) = (refl, refl)
asked_work true e n x None = unparked_work e n x x.parked
asked_work false e n x None = (refl, refl)

pub work_told : (settings : Settings) (t : ℕ) (events : List Event) (x : Asking) (e : ℕ) (body : List ℕ) (m : Message) → SameWork (asking_next settings t events x (did (ToEditor e body) m)) x
work_told settings t events x e body (request id method ps) = asked_work (is_own_work e x.runs && (is_patient method && serves settings events t e)) e (next_ask e events) x x.asker
work_told settings t events x e body (notification method ps) = (refl, refl)
work_told settings t events x e body (result id r) = (refl, refl)
work_told settings t events x e body (error id r) = (refl, refl)
work_told settings t events x e body not_json = (refl, refl)
work_told settings t events x e body not_message = (refl, refl)

pub work_sent : (settings : Settings) (t : ℕ) (events : List Event) (x : Asking) (n : ℕ) (body : List ℕ) (m : Message) → SameWork (asking_next settings t events x (did (ToServer n body) m)) x
work_sent settings t events x n body m = go (nat_eq n t)
  where
    go : (b : Bool) → SameWork (if b then record { asker = x.asker; runs = x.runs; asks = filter (λ a. not (is_under (answered_id m) a)) x.asks; parked = filter (λ p. not (waits_under (answered_id m) p)) x.parked } else x) x
    go true = (refl, refl)
    go false = (refl, refl)

-- V3: an edit is of class Focused

abbrev is_focused_class : Class → Bool
is_focused_class Focused = true
is_focused_class _ = false

pub edit_class : (method : List ℕ) → is_edit method ≡ true → class_of method Server false ≡ Focused
unfolding is_focused is_refresh server_request own_request own_notification goes_nowhere
edit_class method h = ap (λ m. class_of m Server false) (sym ((bytes_eq-Decides (codes "workspace/applyEdit") method).0 h))

-- E19

named_response : (m : Message) (n : ℕ) → names (answered_id m) n ≡ true → is_response m ≡ true
named_response (result id r) n h = refl
named_response (error id r) n h = refl
named_response (request id method ps) n h = never (sym h)
named_response (notification method ps) n h = never (sym h)
named_response not_json n h = never (sym h)
named_response not_message n h = never (sym h)

-- what accepts is no request
accepting_on : (m : Message) → accepts m ≡ true → requests (codes "shutdown") m ≡ false
accepting_on (result id r) h = refl
accepting_on (error id r) h = never (sym h)
accepting_on (request id method ps) h = never (sym h)
accepting_on (notification method ps) h = never (sym h)
accepting_on not_json h = never (sym h)
accepting_on not_message h = never (sym h)

progress_is : (c : Class) → names_progress c ≡ true → c ≡ Progress
progress_is Progress h = refl
progress_is _ h = never (sym h)

progress_class : (method : List ℕ) → is_progress method ≡ true → class_of method Server true ≡ Progress
progress_class method h = progress_is (class_of method Server true) h

map_last : {A B : Type 0} (f : A → B) (xs : List A) (x : A) → map f (xs ++ x ∷ []) ≡ map f xs ++ f x ∷ []
map_last f [] x = refl
map_last f (y ∷ xs) x = ap (λ ys. f y ∷ ys) (map_last f xs x)

-- a response under another id
handed_says : (body : List ℕ) (id : Id) (bytes : List ℕ) → IsIdText id bytes → (m : Message) → message_of body ≡ m → is_response m ≡ true → (is_response (message_of (with_id_text body bytes)) ≡ true) × (answered_id (message_of (with_id_text body bytes)) ≡ Some id)
handed_says body id bytes text (result k r) says h = let is = result_with_id body bytes k (Some id) r says (id_as_response id bytes text) in (ap is_response is, ap answered_id is)
handed_says body id bytes text (error k r) says h = let is = error_with_id body bytes k (Some id) r says (id_as_response id bytes text) in (ap is_response is, ap answered_id is)
handed_says body id bytes text (request k method ps) says h = never (sym h)
handed_says body id bytes text (notification method ps) says h = never (sym h)
handed_says body id bytes text not_json says h = never (sym h)
handed_says body id bytes text not_message says h = never (sym h)

module _ (settings : Settings) (before : List Event) (all : Asks settings before) (told : (s : ℕ) → AllByRecursion (λ (c : Taking). AreTellings c.held) (created_of settings s before).takings) (e : ℕ) (body : List ℕ) where
  abbrev heard_now : List Event
  heard_now = with_cause before (FromEditor e body)

  abbrev Mine : Row → Type 0
  Mine row = Because (Why settings before (FromEditor e body)) heard_now row

  module _ (s : ℕ) where
    handed : (a : Ask) → is_ready (life_of s before).stage ≡ true → find (is_seated e (answered_id (message_of body))) (asks_of settings s before) ≡ Some a → Mine (hand_back s body a)
    handed a ready found = by_send (resolves (record {
      id = a.id;
      resolution = handed_back e body a refl found refl refl;
      ready = ap (λ (l : Life). l.stage) (life_more s before (heard (FromEditor e body))) ∙ ready_is (life_of s before).stage ready;
      stays = refl;
      response = says.0;
      answers = says.1;
      waits = ap (is_open a.id) (asked_by_more s before (heard (FromEditor e body))) ∙ k.waits;
    }))
      where
        k : IsAsked s before a
        k = found_is (IsAsked s before) (is_seated e (answered_id (message_of body))) a (asks_of settings s before) (all s).asked found

        named : names (answered_id (message_of body)) a.number ≡ true
        named = (and_parts (nat_eq a.editor e) (names (answered_id (message_of body)) a.number) (find_seated (is_seated e (answered_id (message_of body))) (asks_of settings s before) a found)).1

        says : (is_response (message_of (with_id_text body a.bytes)) ≡ true) × (answered_id (message_of (with_id_text body a.bytes)) ≡ Some a.id)
        says = handed_says body a.id a.bytes k.text (message_of body) refl (named_response (message_of body) a.number named)

    -- what was held for it, one behind the other
    module _ (c : Taking) (taken : IsTaken settings before (FromEditor e body) e s c) where
      outs_why : (earlier later : List (List ℕ)) → c.held ≡ earlier ++ later → AreTellings later → (events : List Event) → events ≡ behind heard_now (map (λ b. ToEditor e (marked_text (created_text s c.token) b)) earlier) → (desk_of e events).phase ≡ Running
          → Because (Why settings before (FromEditor e body)) events (each (tell s c.token e) later)
      outs_why earlier [] order tellings events place runs = by_nothing
      outs_why earlier (b ∷ later) order tellings events place runs =
          let made : (new : Option Json) × (message_of (marked_text (created_text s c.token) b) ≡ notification (tellings.0).method new) = marked_says (created_text s c.token) b (tellings.0).method (tellings.0).params (created_token_text s c.token) (tellings.0).says in
          by_then
          (by_send (progresses (record { told = of_held s c earlier b later taken order place refl; method = (tellings.0).method; params = made.0; class = progress_class (tellings.0).method (tellings.0).class; hears = ap listens runs; says = made.1 })))
          (outs_why (earlier ++ b ∷ []) later (order ∙ sym (append_assoc earlier (b ∷ []) later)) tellings.1 (events ++ said (ToEditor e (marked_text (created_text s c.token) b)) ∷ [])
          (ap (λ z. z ++ said (ToEditor e (marked_text (created_text s c.token) b)) ∷ []) place ∙ sym (places_last earlier b)) (still_runs events e (marked_text (created_text s c.token) b) e runs))
        where
          places_last : (earlier : List (List ℕ)) (b : List ℕ) → behind heard_now (map (λ b. ToEditor e (marked_text (created_text s c.token) b)) (earlier ++ b ∷ []))
              ≡ behind heard_now (map (λ b. ToEditor e (marked_text (created_text s c.token) b)) earlier) ++ said (ToEditor e (marked_text (created_text s c.token) b)) ∷ []
          places_last earlier b = ap (behind heard_now) (map_last (λ b. ToEditor e (marked_text (created_text s c.token) b)) earlier b) ∙ behind_both heard_now (map (λ b. ToEditor e (marked_text (created_text s c.token) b)) earlier) (ToEditor e (marked_text (created_text s c.token) b) ∷ [])

    taken_why : (c : Taking) → is_ready (life_of s before).stage ≡ true → is_running (desk_of e before).phase ≡ true → find (is_answered e (answered_id (message_of body))) (created_of settings s before).takings ≡ Some c → accepts (message_of body) ≡ true → Mine (each (tell s c.token e) c.held)
    taken_why c ready runs found agrees = outs_why c
        (record { answer = body; from = refl; ran = running_is settings before (desk_of e before).phase runs; ready = ready_is (life_of s before).stage ready; found = found; accepted = agrees })
        [] c.held refl (found_one (λ (d : Taking). AreTellings d.held) (is_answered e (answered_id (message_of body))) c (created_of settings s before).takings (told s) found) heard_now (sym (append-nil heard_now)) runs_now
      where
        runs_now : (desk_of e heard_now).phase ≡ Running
        runs_now = ap (λ (d : Desk). d.phase) (desk_more e before (heard (FromEditor e body)))
            ∙ ap (λ b. (if b then desk_hears (desk_of e before).phase (desk_of e before).initialize body (message_of body) else desk_of e before).phase) (same_number e)
            ∙ ap (λ p. (desk_hears p (desk_of e before).initialize body (message_of body)).phase) (running_is settings before (desk_of e before).phase runs)
            ∙ ap (λ b. if b then Down else Running) (accepting_on (message_of body) agrees)

    taking_why : is_ready (life_of s before).stage ≡ true → Mine (taking_row settings before e (message_of body) s)
    taking_why ready = by_choose (λ runs. by_on (λ none. by_nothing) (λ c found. by_choose (λ agrees. taken_why c ready runs found agrees) (λ no. by_nothing))) (λ idle. by_nothing)

    at_start : Mine (response_at settings before e body (message_of body) s)
    at_start = by_choose (λ ready. by_on (λ none. taking_why ready) (λ a found. handed a ready found)) (λ no. by_nothing)

  by_group : (g : ℕ) → Mine (on (start_of g before) nothing (response_at settings before e body (message_of body)))
  by_group g = by_on (λ none. by_nothing) (λ s start. at_start s)

  by_home : Mine (response_row settings before e body (message_of body))
  by_home = by_on (λ none. by_nothing) (λ g home. by_group g)

  pub response_why : (m : Message) → message_of body ≡ m → Mine (response_row settings before e body m)
  response_why m says = subst (λ z. Mine (response_row settings before e body z)) says by_home

-- S6 and S7: the methods of the daemon's own requests

pub registers_all : is_call (codes "client/registerCapability") ≡ true
unfolding server_request
registers_all = refl

pub unregisters_all : is_call (codes "client/unregisterCapability") ≡ true
unfolding server_request
unregisters_all = refl

pub creates_all : is_call (codes "window/workDoneProgress/create") ≡ true
unfolding server_request
creates_all = refl

-- S13: a token that an open request has

own_written : (token : Option Json) (f : Forwarded) → HasTokens f → (text : List ℕ) → own_token token f ≡ Some text → IsTokenText text
own_written token f tokens text h = go (is_mark token (work_mark f.number)) (is_mark token (partial_mark f.number)) h
  where
    go : (a b : Bool) → (if a then f.work else if b then f.partial else None) ≡ Some text → IsTokenText text
    go true b k = tokens.work text k
    go false true k = tokens.partial text k
    go false false k = absurd (cc)

found_test : (test : Forwarded → Bool) (f : Forwarded) (fs : List Forwarded) → find test fs ≡ Some f → test f ≡ true
found_test test f [] h = absurd (cc)
found_test test f (g ∷ fs) h = go (test g) refl h (λ k. found_test test f fs k)
  where
    go : (b : Bool) → test g ≡ b → cond b (Some g) (find test fs) ≡ Some f → (find test fs ≡ Some f → test f ≡ true) → test f ≡ true
    go true is k rest = subst (λ z. test z ≡ true) (let same : g ≡ f = cc in same) is
    go false is k rest = rest k

-- Messages of a start that is ready

module _ (settings : Settings) (before : List Event) (s : ℕ) (body : List ℕ) (stage : (life_of s before).stage ≡ Ready) where
  abbrev now : List Event
  now = with_cause before (FromServer s body)

  abbrev R : List Event → Out → Type 0
  R events out = Why settings before (FromServer s body) events out

  still_ready : (life_of s now).stage ≡ Ready
  still_ready = ap (λ (l : Life). l.stage) (life_more s before (heard (FromServer s body)))
      ∙ ap (λ b. (if b then record { stage = stage_hears (life_of s before).stage (message_of body); started = (life_of s before).started } else life_of s before).stage) (same_number s)
      ∙ ap (λ z. stage_hears z (message_of body)) stage

  rests : moves before (FromServer s body) s ≡ false
  rests = ap (λ b. b && (is_initializing (life_of s before).stage && is_first_result (message_of body))) (same_number s) ∙ ap (λ z. is_initializing z && is_first_result (message_of body)) stage

  run_now : (g : ℕ) → AllRun settings before now (running_in settings g before)
  run_now g = all_of (λ e. (desk_of e before).phase ≡ Running) (λ e. (desk_of e now).phase ≡ Running) (λ e at. ap (λ (d : Desk). d.phase) (desk_more e before (heard (FromServer s body))) ∙ at) (running_in settings g before) (all_run settings before g)

  -- the request that is at work, and that no editor's message is
  abbrev AtWork : List Event → Type 0
  AtWork events = (t : ℕ) → ((asking_of settings t events).asker ≡ (if nat_eq s t then asker_of body (message_of body) else None)) × ((asking_of settings t events).runs ≡ None)

  work_now : AtWork now
  work_now t = let same = asking_more settings t before (heard (FromServer s body)) in let here = go (nat_eq s t) in (ap (λ (x : Asking). x.asker) same ∙ here.0, ap (λ (x : Asking). x.runs) same ∙ here.1)
    where
      x : Asking
      x = asking_of settings t before

      heard_by : Bool → Asking
      heard_by b = if b then record { asker = asker_of body (message_of body); runs = None; asks = x.asks; parked = x.parked ++ parks settings t before x body (message_of body) } else idle_asking x

      go : (b : Bool) → ((heard_by b).asker ≡ (if b then asker_of body (message_of body) else None)) × ((heard_by b).runs ≡ None)
      go true = (refl, refl)
      go false = (refl, refl)

  work_behind : (events : List Event) (e : ℕ) (text : List ℕ) → AtWork events → AtWork (events ++ said (ToEditor e text) ∷ [])
  work_behind events e text h t = let same = asking_more settings t events (said (ToEditor e text)) in let kept = work_told settings t events (asking_of settings t events) e text (message_of text) in
      (ap (λ (x : Asking). x.asker) same ∙ kept.0 ∙ (h t).0, ap (λ (x : Asking). x.runs) same ∙ kept.1 ∙ (h t).1)

  work_answered : (events : List Event) (n : ℕ) (text : List ℕ) → AtWork events → AtWork (events ++ said (ToServer n text) ∷ [])
  work_answered events n text h t = let same = asking_more settings t events (said (ToServer n text)) in let kept = work_sent settings t events (asking_of settings t events) n text (message_of text) in
      (ap (λ (x : Asking). x.asker) same ∙ kept.0 ∙ (h t).0, ap (λ (x : Asking). x.runs) same ∙ kept.1 ∙ (h t).1)

  -- notifications

  broadcast_why : (method : List ℕ) (params : Option Json) → message_of body ≡ notification method params → class_of method Server true ≡ Broadcast → (es : List ℕ) (events : List Event) → AllRun settings before events es → Because R events (each (broadcast body) es)
  broadcast_why method params says class [] events run = by_nothing
  broadcast_why method params says class (e ∷ es) events run = by_then
      (by_send (spreads (record { start = s; method = method; params = params; source = record { from = refl; ready = stage; running = run.0 }; says = says; class = class })))
      (broadcast_why method params says class es (events ++ said (ToEditor e body) ∷ []) (all_still settings before events e body es run.1))

  -- S15
  module _ (meant : AllMeant before) (method : List ℕ) (params : Option Json) (says : message_of body ≡ notification method params) (class : class_of method Server true ≡ Diagnostics) (l : LastList) (kept : IsList l) (came : published (sayings_of s before) body ≡ Some l) where
    lists_why : (es : List ℕ) (events : List Event) → AllRun settings before events es → Because R events (each (λ e. show settings before s e l) es)
    lists_why [] events run = by_nothing
    lists_why (e ∷ es) events run = by_then
        (shown_why settings before meant e s l kept before (FromServer s body) R events (λ text k. shows k) stage run.0 (λ text fitting. comes body method params l refl says class came fitting))
        (lists_why es (behind events (outs (show settings before s e l) events)) (behind_show settings before e s l (λ z. AllRun settings before z es) events
        (all_still settings before events e (shown_text (version_at settings s e before l.uri) l.body) es run.1) run.1))

  list_why : AllMeant before → (method : List ℕ) (params : Option Json) → message_of body ≡ notification method params → class_of method Server true ≡ Diagnostics → Because R now (list_row settings s before body)
  list_why meant method params says class = by_on (λ none. by_nothing) (λ l came. by_on (λ none. by_nothing) (λ g home. lists_why meant method params says class l
      (record { method = method; params = params; says = ap message_of (published_body (sayings_of s before) body l came) ∙ says; class = ap names_list class; spelt = published_spelt (sayings_of s before) body l came }) came (running_in settings g before) now (run_now g)))

  -- S13
  module _ (method : List ℕ) (params : Option Json) (says : message_of body ≡ notification method params) (class : class_of method Server true ≡ Progress) where
    notified : IsNotified before (FromServer s body) s body params
    notified = record { method = method; from = refl; ready = stage; asks = says; class = class }

    requested : (f : Forwarded) → find (is_told before (named_of (codes "token") params)) (forwarding_of settings s before).open_requests ≡ Some f → (text : List ℕ) → own_token (named_of (codes "token") params) f ≡ Some text
        → IsProgress settings before (FromServer s body) now f.editor (marked_text text body)
    requested f found text own =
        let tokens : HasTokens f = found_is HasTokens (is_told before (named_of (codes "token") params)) f (forwarding_of settings s before).open_requests (tokens_kept settings s before) found in
        let test : is_told before (named_of (codes "token") params) f ≡ true = found_test (is_told before (named_of (codes "token") params)) f (forwarding_of settings s before).open_requests found in
        let made : (new : Option Json) × (message_of (marked_text text body) ≡ notification method new) = marked_says text body method params (own_written (named_of (codes "token") params) f tokens text own) says in
        record {
          told = of_request s body params f text notified found own refl refl;
          method = method;
          params = made.0;
          class = class;
          hears = ap (λ (d : Desk). listens d.phase) (desk_more f.editor before (heard (FromServer s body))) ∙ (and_parts (is_some (own_token (named_of (codes "token") params) f)) (listens (desk_of f.editor before).phase) test).1;
          says = made.1;
        }

    takers_why : (t : Token) → token_called (named_token params) (created_of settings s before) ≡ Some t → (es : List ℕ) (events : List Event) → AllByRecursion (λ e. has_accepted e t.number (created_of settings s before) ≡ true) es → AllRun settings before events es
        → Because R events (each (λ e. tell s t.number e body) es)
    takers_why t found [] events accepted run = by_nothing
    takers_why t found (e ∷ es) events accepted run =
        let text : List ℕ = marked_text (created_text s t.number) body in
        let made : (new : Option Json) × (message_of text ≡ notification method new) = marked_says (created_text s t.number) body method params (created_token_text s t.number) says in
        by_then
        (by_send (progresses (record { told = of_token s body params t notified found accepted.0 refl; method = method; params = made.0; class = class; hears = ap listens run.0; says = made.1 })))
        (takers_why t found es (events ++ said (ToEditor e text) ∷ []) accepted.1 (all_still settings before events e text es run.1))

    created_why : (t : Token) → token_called (named_token params) (created_of settings s before) ≡ Some t → Because R now (tell_takers settings before s body t)
    created_why t found = by_on (λ none. by_nothing) (λ g home. takers_why t found (takers settings before g s t) now
        (all_filtered (λ e. Unit {0}) (λ e. has_accepted e t.number (created_of settings s before) ≡ true) (λ e. has_accepted e t.number (created_of settings s before)) (λ e t k. t) (running_in settings g before) (all_units settings before (running_in settings g before)))
        (all_filtered (λ e. (desk_of e now).phase ≡ Running) (λ e. (desk_of e now).phase ≡ Running) (λ e. has_accepted e t.number (created_of settings s before)) (λ e t k. k) (running_in settings g before) (run_now g)))

    token_why : Because R now (created_row settings s before body params)
    token_why = by_on (λ none. by_nothing) (λ t found. created_why t found)

    progress_why : Because R now (progress_row settings s before body params)
    progress_why = by_on (λ none. token_why) (λ f found. by_on (λ none. by_nothing) (λ text own. by_send (progresses (requested f found text own))))

  module _ (all : Asks settings before) where
    recall_why : (method : List ℕ) (params : Option Json) → message_of body ≡ notification method params → class_of method Server true ≡ Cancel → Because R now (cancelled_row settings s before params)
    recall_why method params says class = by_on (λ none. by_nothing) (λ a found. by_choose (λ runs. by_send (recalls (recall a found runs))) (λ no. by_nothing))
      where
        recall : (a : Ask) → find (is_under (option_and_then id_of (named_of (codes "id") params))) (asks_of settings s before) ≡ Some a → is_running (desk_of a.editor before).phase ≡ true → IsRecall settings before (FromServer s body) now a.editor (cancel_text a.number)
        recall a found runs = let k : IsAsked s before a = found_is (IsAsked s before) (is_under (option_and_then id_of (named_of (codes "id") params))) a (asks_of settings s before) (all s).asked found in
            let small : a.number < 2 ^ 64 = k.small in record {
              start = s;
              asked = body;
              method = method;
              given = params;
              ask = a;
              params = params_tree a.number;
              value = number nowhere (decimal a.number);
              source = record { from = refl; ready = stage; running = ap (λ (d : Desk). d.phase) (desk_more a.editor before (heard (FromServer s body))) ∙ running_is settings before (desk_of a.editor before).phase runs };
              asks = says;
              class = class;
              found = found;
              editor = refl;
              open_there = ap (is_open (integer (decimal a.number))) (asked_of_more a.editor before (heard (FromServer s body))) ∙ k.unanswered;
              bytes = refl;
              named = cancel_names a.number;
              id = ap (λ b. integer_if b (decimal a.number)) (decimal_integer a.number (omega (arith, small)));
              says = cancel_says a.number k.small;
            }

    pub notified_why : AllMeant before → (method : List ℕ) (params : Option Json) → message_of body ≡ notification method params → Because R now (notified_row settings s before body params (class_of method Server true))
    notified_why meant method params says = go (class_of method Server true) refl
      where
        go : (c : Class) → class_of method Server true ≡ c → Because R now (notified_row settings s before body params c)
        go Cancel class = recall_why method params says class
        go Progress class = progress_why method params says class
        go Diagnostics class = list_why meant method params says class
        go Broadcast class = by_on (λ none. by_nothing) (λ g home. broadcast_why method params says class (running_in settings g before) now (run_now g))
        go _ class = by_nothing

  -- requests

  module _ (meant : AllMeant before) (written : Written settings before) (id : Id) (method : List ℕ) (params : Option Json) (says : message_of body ≡ request id method params) (fresh : is_taken (Some id) (asking_of settings s before) ≡ false) (g : ℕ) (at_home : group_of s before ≡ Some g) where
    ask_says : (e : ℕ) (events : List Event) → has_number e events ≡ true → message_of (with_id_text body (decimal (next_ask e events))) ≡ request (integer (decimal (next_ask e events))) method params
    ask_says e events room = request_with_id body (decimal (next_ask e events)) id (integer (decimal (next_ask e events))) method params says (decimal_law (next_ask e events) (ltb-true (next_ask e events) (2 ^ 64) room))

    asked_why : is_creating method ≡ false → is_edit method ≡ false → (is_patient method ≡ true → has_running settings before s ≡ true) → (e : ℕ) (events : List Event) → IsIn settings before g e → AtWork events → (is_single method ≡ true → events ≡ now) → (desk_of e events).phase ≡ Running → Because R events (ask body e)
    asked_why apart plain attended e events seat asker first running = by_look (by_choose
        (λ room. by_send (asks (record {
          start = s;
          asked = body;
          id = id;
          method = method;
          given = params;
          params = params;
          source = record { from = refl; ready = stage; running = running };
          asks = says;
          plain = apart;
          group = g;
          kept = at_home;
          home = seat.home;
          ran = seat.ran;
          fresh = fresh;
          first = first;
          attended = attended;
          quiet = λ t. (asker t).1;
          asker = λ t. (asker t).0;
          room = room;
          bytes = ap (λ b. if b then asked_text (current_version settings before s e) body (decimal (next_ask e events)) else Some (with_id_text body (decimal (next_ask e events)))) plain;
          says = ask_says e events room;
        })))
        (λ none. by_nothing))

    -- behind it
    behind_ask : (P : List Event → Type 0) (e : ℕ) (events : List Event) → ((text : List ℕ) → P events → P (events ++ said (ToEditor e text) ∷ [])) → P events → P (behind events (outs (ask body e) events))
    behind_ask P e events f h = go (has_number e events)
      where
        go : (b : Bool) → P (behind events (outs (choose b (send (ToEditor e (with_id_text body (decimal (next_ask e events))))) nothing) events))
        go true = f (with_id_text body (decimal (next_ask e events))) h
        go false = subst P (sym (append-nil events)) h

    all_asked : is_creating method ≡ false → is_edit method ≡ false → is_patient method ≡ false → (es : List ℕ) (events : List Event) → AllByRecursion (IsIn settings before g) es → is_single method ≡ false → AtWork events → AllRun settings before events es → Because R events (each (ask body) es)
    all_asked apart plain hurried [] events seats many asker run = by_nothing
    all_asked apart plain hurried (e ∷ es) events seats many asker run = by_then (asked_why apart plain (λ patient. never (sym patient ∙ hurried)) e events seats.0 asker (λ single. never (sym single ∙ many)) run.0)
        (all_asked apart plain hurried es (behind events (outs (ask body e) events)) seats.1 many
        (behind_ask AtWork e events (λ text h. work_behind events e text h) asker)
        (behind_ask (λ z. AllRun settings before z es) e events (λ text h. all_still settings before events e text es h) run.1))

    -- only an edit is of its class
    other_method : (c : Class) → class_of method Server false ≡ c → is_focused_class c ≡ false → is_edit method ≡ false
    other_method c class other = go (is_edit method) refl
      where
        go : (b : Bool) → is_edit method ≡ b → b ≡ false
        go false e = refl
        go true e = never (sym (ap is_focused_class (sym class ∙ edit_class method e)) ∙ other)

    -- and only of class Lowest one that may wait
    unhurried : (c : Class) → class_of method Server false ≡ c → may_wait c ≡ false → is_patient method ≡ false
    unhurried c class off = ap may_wait class ∙ off

    -- nor creates another one a token
    uncreating : (c : Class) → class_of method Server false ≡ c → names_create c ≡ false → is_creating method ≡ false
    uncreating c class off = ap names_create class ∙ off

    waits_now : is_open id (asked_by s now) ≡ true
    waits_now = ap (is_open id) (asked_by_more s before (heard (FromServer s body)) ∙ ap (λ b. if b then with_request (message_of body) (asked_by s before) else asked_by s before) (same_number s) ∙ ap (λ m. with_request m (asked_by s before)) says) ∙ open_last id (asked_by s before)

    refresh_why : class_of method Server false ≡ Refresh → Because R now (asking_row settings before g s body method Refresh)
    refresh_why class = by_then
        (by_send (resolves (record { id = id; resolution = granted body method params refl says class refl; ready = still_ready; stays = rests; response = ap is_response said_null; answers = ap answered_id said_null; waits = waits_now })))
        (all_asked (uncreating Refresh class refl) (other_method Refresh class refl) (unhurried Refresh class refl) those (now ++ said (ToServer s answer) ∷ []) (chosen (IsIn settings before g) (all_in settings before g)) (ap goes_to_one class) (work_answered now s answer work_now)
        (all_of (λ e. (desk_of e now).phase ≡ Running) (λ e. (desk_of e (now ++ said (ToServer s answer) ∷ [])).phase ≡ Running) (λ e at. ap (λ (d : Desk). d.phase) (desk_more e now (said (ToServer s answer))) ∙ at) those (chosen (λ e. (desk_of e now).phase ≡ Running) (run_now g))))
      where
        those : List ℕ
        those = filter (agrees_on_all settings s before) (running_in settings g before)

        chosen : (P : ℕ → Type 0) → AllByRecursion P (running_in settings g before) → AllByRecursion P those
        chosen P h = all_filtered P P (agrees_on_all settings s before) (λ e t k. k) (running_in settings g before) h

        answer : List ℕ
        answer = ok_text (id_bytes body) (codes "null")

        said_null : message_of (ok_text (id_bytes body) (codes "null")) ≡ result (Some id) (word (record { from = 0; to = 0 }) Null)
        said_null = null_said body id method params says

    -- S6 and S7

    answered_null : Resolution settings before (FromServer s body) s id (ok_text (id_bytes body) (codes "null")) → Because R now (accept s body)
    answered_null how = by_send (resolves (record { id = id; resolution = how; ready = still_ready; stays = rests; response = ap is_response is; answers = ap answered_id is; waits = waits_now }))
      where
        is : message_of (ok_text (id_bytes body) (codes "null")) ≡ result (Some id) (word (record { from = 0; to = 0 }) Null)
        is = null_said body id method params says

    refused : Resolution settings before (FromServer s body) s id (error_text (id_bytes body) invalid_params) → Because R now (decline s body)
    refused how = let is = refusal_says body id method params invalid_params says in
        by_send (resolves (record { id = id; resolution = how; ready = still_ready; stays = rests; response = ap is_response is; answers = ap answered_id is; waits = waits_now }))

    -- no editor answers the request, and each of these runs
    record Turning (es : List ℕ) (events : List Event) : Type 0 where
      work : AtWork events
      run : AllRun settings before events es

    turned : (es : List ℕ) (events : List Event) (n : ℕ) (text : List ℕ) → Turning es events → Turning es (events ++ said (ToEditor n text) ∷ [])
    turned es events n text h = record { work = work_behind events n text h.work; run = all_still settings before events n text es h.run }

    behind_call : (text : ℕ → List ℕ) (e : ℕ) (es : List ℕ) (events : List Event) → Turning es events → Turning es (behind events (outs (call text e) events))
    behind_call text e es events h = go (has_number e events)
      where
        go : (b : Bool) → Turning es (behind events (outs (choose b (send (ToEditor e (text (next_ask e events)))) nothing) events))
        go true = turned es events e (text (next_ask e events)) h
        go false = subst (Turning es) (sym (append-nil events)) h

    behind_any : (b : Bool) (text : ℕ → List ℕ) (e : ℕ) (es : List ℕ) (events : List Event) → Turning es events → Turning es (behind events (outs (choose b (call text e) nothing) events))
    behind_any true text e es events h = behind_call text e es events h
    behind_any false text e es events h = subst (Turning es) (sym (append-nil events)) h

    -- behind the answer
    turning_now : Turning (running_in settings g before) (behind now (outs (accept s body) now))
    turning_now = record {
      work = work_answered now s (ok_text (id_bytes body) (codes "null")) work_now;
      run = all_of (λ e. (desk_of e now).phase ≡ Running) (λ e. (desk_of e (behind now (outs (accept s body) now))).phase ≡ Running) (λ e at. ap (λ (d : Desk). d.phase) (desk_more e now (said (ToServer s (ok_text (id_bytes body) (codes "null"))))) ∙ at) (running_in settings g before) (run_now g);
    }

    module _ (c : Class) (class : class_of method Server false ≡ c) (many : goes_to_one c ≡ false) where
      unasked_by : (events : List Event) → AtWork events → (t : ℕ) → (asking_of settings t events).asker ≡ None
      unasked_by events work t = (work t).0 ∙ go (nat_eq s t)
        where
          go : (b : Bool) → (if b then asker_of body (message_of body) else None) ≡ None
          go true = ap (asker_of body) says ∙ ap (λ b. if b then Some (record { id = id; bytes = id_bytes body }) else None) (ap goes_to_one class ∙ many)
          go false = refl

      changed : (e : ℕ) → IsIn settings before g e → IsChange settings before (FromServer s body) e s body c
      changed e seat = record { from = refl; id = id; method = method; params = params; asks = says; kind = class; fresh = fresh; group = g; kept = at_home; home = seat.home; ran = seat.ran }

      -- one of the daemon's own requests
      record Calls (text : ℕ → List ℕ) : Type 0 where
        told : (e : ℕ) → IsIn settings before g e → (n : ℕ) → Calling settings before (FromServer s body) e s n (text n)
        name : List ℕ
        named : is_call name ≡ true
        writes : (n : ℕ) → n < 2 ^ 128 → (ps : Json) × (message_of (text n) ≡ request (integer (decimal n)) name (Some ps))

      call_why : (text : ℕ → List ℕ) → Calls text → (e : ℕ) (es : List ℕ) (events : List Event) → IsIn settings before g e → Turning (e ∷ es) events → Because R events (call text e)
      call_why text k e es events seat h = by_look (by_choose (λ room. by_send (calls (made room))) (λ none. by_nothing))
        where
          made : has_number e events ≡ true → IsCall settings before (FromServer s body) events e (text (next_ask e events))
          made room =
              let small : next_ask e events < 2 ^ 64 = ltb-true (next_ask e events) (2 ^ 64) room in
              let is = k.writes (next_ask e events) (omega (arith, small)) in
              record {
                start = s;
                told = k.told e seat (next_ask e events);
                ready = stage;
                running = h.run.0;
                idle = unasked_by events h.work;
                room = room;
                method = k.name;
                params = Some is.0;
                named = k.named;
                says = is.1;
              }

      any_why : (b : Bool) (text : ℕ → List ℕ) → Calls text → (e : ℕ) (es : List ℕ) (events : List Event) → IsIn settings before g e → Turning (e ∷ es) events → Because R events (choose b (call text e) nothing)
      any_why b text k e es events seat h = by_choose (λ some. call_why text k e es events seat h) (λ none. by_nothing)

      all_called : (text : ℕ → List ℕ) → Calls text → (es : List ℕ) (events : List Event) → AllByRecursion (IsIn settings before g) es → Turning es events → Because R events (each (call text) es)
      all_called text k [] events seats h = by_nothing
      all_called text k (e ∷ es) events seats h = by_then (call_why text k e es events seats.0 h) (all_called text k es (behind events (outs (call text e) events)) seats.1 (rest (behind_call text e (e ∷ es) events h)))
        where
          rest : {events : List Event} → Turning (e ∷ es) events → Turning es events
          rest k = record { work = k.work; run = k.run.1 }

      both_called : (gone items : List Registration) → Calls (unregister_text gone) → Calls (register_text items) → (es : List ℕ) (events : List Event) → AllByRecursion (IsIn settings before g) es → Turning es events → Because R events (each (registering gone items) es)
      both_called gone items j k [] events seats h = by_nothing
      both_called gone items j k (e ∷ es) events seats h = by_then
          (by_then (any_why (has_some gone) (unregister_text gone) j e es events seats.0 h) (call_why (register_text items) k e es mid seats.0 there))
          (both_called gone items j k es (behind events (outs (registering gone items e) events)) seats.1 (subst (Turning es) (sym (behind_both events (outs (unregister_any gone e) events) (outs (call (register_text items) e) mid))) (rest (behind_call (register_text items) e (e ∷ es) mid there))))
        where
          mid : List Event
          mid = behind events (outs (unregister_any gone e) events)

          there : Turning (e ∷ es) (behind events (outs (unregister_any gone e) events))
          there = behind_any (has_some gone) (unregister_text gone) e (e ∷ es) events h

          rest : {events : List Event} → Turning (e ∷ es) events → Turning es events
          rest k = record { work = k.work; run = k.run.1 }

    register_why : class_of method Server false ≡ Register → Because R now (register_row settings before g s body)
    register_why class = by_on (λ none. refused (unenrolled body method params refl says class none refl))
        (λ items found. by_then (answered_null (enrolled body method params items refl says class found refl))
        (both_called Register class refl (again items (live_of settings s before)) items
        (record { told = λ e seat n. displaces body items (changed Register class refl e seat) found refl; name = codes "client/unregisterCapability"; named = unregisters_all; writes = unregister_says (again items (live_of settings s before)) (again_written items (live_of settings s before) (live_written settings s before)) })
        (record { told = λ e seat n. enrols body items (changed Register class refl e seat) found refl; name = codes "client/registerCapability"; named = registers_all; writes = register_says items (registered_written body items found) })
        (running_in settings g before) (behind now (outs (accept s body) now)) (all_in settings before g) turning_now))

    unregister_why : class_of method Server false ≡ Unregister → Because R now (unregister_row settings before g s body)
    unregister_why class = by_on (λ none. refused (unreleased body method params refl says class none refl))
        (λ items found. by_then (answered_null (released body method params items refl says class found refl))
        (all_called Unregister class refl (unregister_text (again items (live_of settings s before)))
        (record { told = λ e seat n. releases body items (changed Unregister class refl e seat) found refl; name = codes "client/unregisterCapability"; named = unregisters_all; writes = unregister_says (again items (live_of settings s before)) (again_written items (live_of settings s before) (live_written settings s before)) })
        (running_in settings g before) (behind now (outs (accept s body) now)) (all_in settings before g) turning_now))

    -- S8
    create_why : class_of method Server false ≡ Create → Because R now (create_row settings before g s body)
    create_why class = by_on (λ none. refused (uncreated body method params refl says class none refl))
        (λ t found. by_then (answered_null (created body method params t refl says class found refl))
        (all_called Create class refl (create_text s t.number)
        (record { told = λ e seat n. creates body t (changed Create class refl e seat) found refl; name = codes "window/workDoneProgress/create"; named = creates_all; writes = λ n small. (create_tree s t.number, create_says s t.number n small) })
        (running_in settings g before) (behind now (outs (accept s body) now)) (all_in settings before g) turning_now))

    -- of those that run one has this
    abbrev Here : ℕ → Type 0
    Here e = ((desk_of e now).phase ≡ Running) × IsIn settings before g e

    all_here : AllByRecursion Here (running_in settings g before)
    all_here = zip_all (λ e. (desk_of e now).phase ≡ Running) (IsIn settings before g) Here (λ e a b. (a, b)) (running_in settings g before) (run_now g) (all_in settings before g)

    folders_why : class_of method Server false ≡ Folders → Because R now (asking_row settings before g s body method Folders)
    folders_why class = by_on (λ none. by_nothing) (λ x found.
        let k : IsWritten x = get_all IsWritten (groups_of settings before) g x written found in
        let is : message_of (ok_text (id_bytes body) (folders_text x.key.folders)) ≡ result (Some id) k.folders =
        ok_law (Some id) k.folders (id_bytes body) (folders_text x.key.folders) (id_as_response id (id_bytes body) (request_id_bytes body id method params says)) (k.listed).text (k.listed).shallow in
        by_send (resolves (record { id = id; resolution = listed body method params g x refl says class at_home found refl; ready = still_ready; stays = rests; response = ap is_response is; answers = ap answered_id is; waits = waits_now })))

    -- V3
    edit_why : class_of method Server false ≡ Focused → (e : ℕ) → is_edit method ≡ true → Here e → Because R now (ask_edit settings before s body e)
    edit_why class e edit k = by_look (by_choose (λ room. go room (asked_text (current_version settings before s e) body (decimal (next_ask e now))) refl) (λ none. by_nothing))
      where
        go : has_number e now ≡ true → (o : Option (List ℕ)) → asked_text (current_version settings before s e) body (decimal (next_ask e now)) ≡ o → Because R now (edited s body e o)
        go room None none =
            let is : message_of (ok_text (id_bytes body) not_applied) ≡ result (Some id) refusal_tree = refusal_result (Some id) (id_bytes body) (id_as_response id (id_bytes body) (request_id_bytes body id method params says)) in
            by_send (resolves (record { id = id; resolution = unapplied body method (decimal (next_ask e now)) params e refl says edit none refl; ready = still_ready; stays = rests; response = ap is_response is; answers = ap answered_id is; waits = waits_now }))
        go room (Some text) is =
            let made : (ps : Option Json) × (message_of text ≡ request (integer (decimal (next_ask e now))) method ps) =
            request_asks body (decimal (next_ask e now)) id (integer (decimal (next_ask e now))) method params says (decimal_law (next_ask e now) (ltb-true (next_ask e now) (2 ^ 64) room)) (current_version settings before s e) (current_flat settings before s e meant) text is in
            by_send (asks (record {
              start = s;
              asked = body;
              id = id;
              method = method;
              given = params;
              params = made.0;
              source = record { from = refl; ready = stage; running = k.0 };
              asks = says;
              plain = uncreating Focused class refl;
              group = g;
              kept = at_home;
              home = (k.1).home;
              ran = (k.1).ran;
              fresh = fresh;
              first = λ single. refl;
              attended = λ patient. never (sym patient ∙ unhurried Focused class refl);
              quiet = λ t. (work_now t).1;
              asker = λ t. (work_now t).0;
              room = room;
              bytes = ap (λ b. if b then asked_text (current_version settings before s e) body (decimal (next_ask e now)) else Some (with_id_text body (decimal (next_ask e now)))) edit ∙ is;
              says = made.1;
            }))

    asking_why : (c : Class) → class_of method Server false ≡ c → Because R now (asking_row settings before g s body method c)
    asking_why Refresh class = refresh_why class
    asking_why Focused class = by_on
        (λ none. let is = refusal_says body id method params request_failed says in
        by_send (resolves (record { id = id; resolution = denied body method params refl says class refl; ready = still_ready; stays = rests; response = ap is_response is; answers = ap answered_id is; waits = waits_now })))
        (λ e found. let k : Here e = focus_is Here (running_in settings g before) (forwarding_of settings s before).open_requests e all_here found in by_choose (λ edit. edit_why class e edit k) (λ plain. asked_why (uncreating Focused class refl) plain (λ patient. never (sym patient ∙ unhurried Focused class refl)) e now k.1 work_now (λ single. refl) k.0))
    asking_why Lowest class = by_on (λ none. by_nothing) (λ e found. let k : Here e = first_is Here (running_in settings g before) e all_here found in asked_why (uncreating Lowest class refl) (other_method Lowest class refl) (λ patient. ap (λ o. option_map_or (λ h. is_some (first_in (running_in settings h before))) o false) at_home ∙ ap is_some found) e now k.1 work_now (λ single. refl) k.0)
    asking_why Folders class = folders_why class
    asking_why Register class = register_why class
    asking_why Unregister class = unregister_why class
    asking_why Create class = create_why class
    asking_why _ class = by_nothing

  pub question_why : AllMeant before → Written settings before → (id : Id) (method : List ℕ) (params : Option Json) → message_of body ≡ request id method params → Because R now (question_row settings s before body id method)
  question_why meant written id method params says = by_choose (λ twice. by_nothing) (λ fresh. by_on (λ none. by_nothing) (λ g home. asking_why meant written id method params says fresh g home (class_of method Server false) refl))
