-- Where progress of tokens that a start created is told: to editors that run, at home in the group of the start; and each editor is told once of a message of the start.
use Rattle.std.proofs.Common.{◌≡◌, ℕ, zero, suc, ◌+◌, ◌<◌, Bool, true, false, ◌&&◌, cond, List, [], ◌∷◌, ◌++◌, append-nil, append_assoc, codes, filter, find, map, nat_eq, Option, Some, None, refl, sym, ◌∙◌, ap, subst, arith}
use Rattle.std.specs.List.{AllByRecursion, range_with_len}
use Rattle.std.proofs.lemmas.Bool.{and_parts}
use Rattle.json_text.specs.Json.{Json}
use Rattle.mux_history.specs.declared.cause.Cause.{Cause}
use Rattle.mux_history.specs.declared.cause.Cause.TheVariants.{Joined, FromEditor, EditorGone, Started, StartFailed, FromServer, ServerGone, Drained, Tick}
use Rattle.mux_history.specs.declared.out.Out.{Out}
use Rattle.mux_history.specs.declared.out.Out.TheVariants.{ToEditor, ToServer, Spawn, CloseEditor, EndServer}
use Rattle.lsp_method.specs.Class.{class_of}
use Rattle.lsp_method.specs.declared.variants.Class.{Class}
use Rattle.lsp_method.specs.declared.variants.Class.TheVariants.{Progress}
use Rattle.lsp_method.specs.declared.variants.Origin.TheVariants.{Server}
use Rattle.rpc_message.specs.Message.{Message, notification, result, Id, message_of}
use Rattle.event_model.specs.declared.phase.Phase.{Phase}
use Rattle.event_model.specs.declared.phase.Phase.TheVariants.{Running}
use Rattle.event_model.specs.declared.stage.Stage.{Stage}
use Rattle.event_model.specs.declared.stage.Stage.TheVariants.{Ready}
use Rattle.event_model.specs.Event.{Event, behind, said, with_cause}
use Rattle.event_model.specs.Members.{named_of}
use Rattle.event_model.specs.Phases.{desk_of, editors_of, is_running}
use Rattle.event_model.specs.Requests.{answered_id}
use Rattle.event_model.specs.Row.{each, outs}
use Rattle.event_model.specs.Settings.{Settings}
use Rattle.event_model.specs.Spawns.{group_of, start_of}
use Rattle.event_model.specs.Stages.{is_ended, life_of, is_ready}
use Rattle.event_model.proofs.Frames.{never}
use Rattle.mux_facts.specs.Ranges.{InRange}
use Rattle.mux_facts.proofs.DocumentRow.{ready_is}
use Rattle.mux_facts.proofs.Keeps.{behind_both}
use Rattle.mux_facts.proofs.Lists.{all_filtered}
use Rattle.mux_facts.proofs.Reasons.{Because, Reasons, by_choose, by_nothing, by_on, by_send, by_then}
use Rattle.mux_facts.proofs.Words.{number_same, other_number}
use Rattle.session_laws.specs.ClientRules.{accepted_behind}
use Rattle.group_words.specs.Houses.{home_of, is_home}
use Rattle.group_rows.specs.AskRows.{notified_row, response_row}
use Rattle.group_rows.specs.Asks.{running_in}
use Rattle.group_rows.specs.Created.{Taking, Token, accepts, created_of, created_text, has_accepted, is_answered, named_token, names_progress, token_called}
use Rattle.group_rows.specs.CreatedRows.{created_row, progress_row, takers, taking_row, tell}
use Rattle.group_rows.specs.Forwarded.{Forwarded, forwarding_of}
use Rattle.group_rows.specs.Rows.{from_editor, from_server, outs_of}
use Rattle.group_rows.specs.Tokens.{is_told, marked_text, own_token}
use Rattle.group_facts.specs.Why.{IsNotified, IsTaken, Telling, of_held, of_request, of_token}
use Rattle.group_facts.proofs.AskingRows.{running_is}
use Rattle.group_facts.proofs.LastStarts.{AllLast}
use Rattle.group_facts.proofs.Reached.{Reached, rests_at}
use Rattle.group_sessions.proofs.Accepted.{accepted}
use Rattle.group_sessions.proofs.TakingTies.{accepted_more}
use Rattle.group_rows.proofs.DebtsKept.{off_forth, whole_off}
use Rattle.group_rows.specs.Debts.{goes_forth}

-- An editor that runs, at home in the group whose last start is s
pub record RunsIn (settings : Settings) (events : List Event) (s e : ℕ) : Type 0 where
  pub running : (desk_of e events).phase ≡ Running
  pub group : ℕ
  pub home : home_of settings e events ≡ Some group
  pub last : start_of group events ≡ Some s

module _ (settings : Settings) (before : List Event) (cause : Cause) where
  -- what is known of an editor that is told of a token that a start created
  abbrev pub Knows : (events : List Event) (e : ℕ) (body : List ℕ) → Telling settings before cause events e body → Type 0
  Knows events e body (of_request s asked given request token notified found own editor bytes) = Unit {0}
  Knows events e body (of_token s asked given token notified called takes bytes) = RunsIn settings before s e × (accepted e events ≡ accepted e (with_cause before cause))
  Knows events e body (of_held s taking earlier held later taken order place bytes) = RunsIn settings before s e

  pub record Known (events : List Event) (e : ℕ) (body : List ℕ) : Type 0 where
    pub told : Telling settings before cause events e body
    pub knows : Knows events e body told

  abbrev pub KnownOut : List Event → Out → Type 0
  KnownOut events (ToEditor e body) = Telling settings before cause events e body → Known events e body
  KnownOut events other = Unit {0}

  -- where nothing is told
  none_told : ((s : ℕ) (asked : List ℕ) (given : Option Json) → IsNotified before cause s asked given → ⊥) → ((e s : ℕ) (taking : Taking) → IsTaken settings before cause e s taking → ⊥) → (events : List Event) (xs : List Out) → Reasons KnownOut events xs
  none_told neither nor events [] = tt
  none_told neither nor events (x ∷ xs) = (out x, none_told neither nor (events ++ said x ∷ []) xs)
    where
      never_told : (e : ℕ) (body : List ℕ) → Telling settings before cause events e body → Known events e body
      never_told e body (of_request s asked given request token notified found own editor bytes) = absurd (neither s asked given notified)
      never_told e body (of_token s asked given token notified called takes bytes) = absurd (neither s asked given notified)
      never_told e body (of_held s taking earlier held later taken order place bytes) = absurd (nor e s taking taken)

      out : (o : Out) → KnownOut events o
      out (ToEditor e body) = never_told e body
      out (ToServer s body) = tt
      out (Spawn s g) = tt
      out (CloseEditor e) = tt
      out (EndServer s) = tt

-- Causes

abbrev is_of_start : Cause → Bool
is_of_start (FromServer s body) = true
is_of_start other = false

abbrev is_of_desk : Cause → Bool
is_of_desk (FromEditor e body) = true
is_of_desk other = false

abbrev is_notification : Message → Bool
is_notification (notification method params) = true
is_notification other = false

silent : (settings : Settings) (before : List Event) (cause : Cause) → is_of_start cause ≡ false → is_of_desk cause ≡ false → Reasons (KnownOut settings before cause) (with_cause before cause) (outs_of settings before cause)
silent settings before cause off none = none_told settings before cause (λ s asked given k. never (sym (ap is_of_start k.from) ∙ off)) (λ e s taking k. never (sym (ap is_of_desk k.from) ∙ none)) (with_cause before cause) (outs_of settings before cause)

-- Lists of editors

abbrev Differ : List ℕ → Type 0
Differ [] = Unit {0}
Differ (e ∷ es) = AllByRecursion (λ k. nat_eq e k ≡ false) es × Differ es

above : (k j len : ℕ) → k < j → AllByRecursion (λ n. nat_eq k n ≡ false) (range_with_len j len)
above k j zero less = tt
above k j (suc len) less = (other_number k j less, above k (j + 1) len (omega (arith, less)))

range_differs : (k len : ℕ) → Differ (range_with_len k len)
range_differs k zero = tt
range_differs k (suc len) = (above k (k + 1) len (omega arith), range_differs (k + 1) len)

some_differ : (test : ℕ → Bool) (es : List ℕ) → Differ es → Differ (filter test es)
some_differ test [] h = tt
some_differ test (e ∷ es) h = go (test e) (all_filtered (λ k. nat_eq e k ≡ false) (λ k. nat_eq e k ≡ false) test (λ k on z. z) es h.0) (some_differ test es h.1)
  where
    go : (b : Bool) → AllByRecursion (λ k. nat_eq e k ≡ false) (filter test es) → Differ (filter test es) → Differ (cond b (e ∷ filter test es) (filter test es))
    go true a rest = (a, rest)
    go false a rest = rest

units : (es : List ℕ) → AllByRecursion (λ e. Unit {0}) es
units [] = tt
units (e ∷ es) = (tt, units es)

all_same : (P : ℕ → Type 0) → ((e : ℕ) → P e) → (es : List ℕ) → AllByRecursion P es
all_same P f [] = tt
all_same P f (e ∷ es) = (f e, all_same P f es)

in_group : (g : ℕ) (o : Option ℕ) → is_home g o ≡ true → o ≡ Some g
in_group g (Some n) h = ap (λ k. Some k) (number_same n g h)
in_group g None h = never (sym h)

map_last : {A B : Type 0} (f : A → B) (xs : List A) (x : A) → map f (xs ++ x ∷ []) ≡ map f xs ++ f x ∷ []
map_last f [] x = refl
map_last f (y ∷ xs) x = ap (λ z. f y ∷ z) (map_last f xs x)

-- S13

module _ (settings : Settings) (before : List Event) (lasts : AllLast before) (s : ℕ) (body : List ℕ) where
  abbrev heard_now : List Event
  heard_now = with_cause before (FromServer s body)

  abbrev Out_known : List Event → Out → Type 0
  Out_known = KnownOut settings before (FromServer s body)

  running_at : (life_of s before).stage ≡ Ready → (g : ℕ) → group_of s before ≡ Some g → AllByRecursion (RunsIn settings before s) (running_in settings g before)
  running_at ready g kept = all_filtered (λ e. Unit {0}) (RunsIn settings before s) (λ e. is_running (desk_of e before).phase && is_home g (home_of settings e before)) at (range_with_len 0 (editors_of before)) (units (range_with_len 0 (editors_of before)))
    where
      at : (e : ℕ) → (is_running (desk_of e before).phase && is_home g (home_of settings e before)) ≡ true → Unit {0} → RunsIn settings before s e
      at e on u = let both = and_parts (is_running (desk_of e before).phase) (is_home g (home_of settings e before)) on in
          record { running = running_is settings before (desk_of e before).phase both.0; group = g; home = in_group g (home_of settings e before) both.1; last = lasts s g kept (ap is_ended ready) }

  module _ (stage : (life_of s before).stage ≡ Ready) (method : List ℕ) (params : Option Json) (says : message_of body ≡ notification method params) (class : class_of method Server true ≡ Progress) where
    notified : IsNotified before (FromServer s body) s body params
    notified = record { method = method; from = refl; ready = stage; asks = says; class = class }

    module _ (t : Token) (called : token_called (named_token params) (created_of settings s before) ≡ Some t) where
      abbrev Takes : ℕ → Type 0
      Takes e = (has_accepted e t.number (created_of settings s before) ≡ true) × RunsIn settings before s e

      abbrev text : List ℕ
      text = marked_text (created_text s t.number) body

      -- those that aren't told yet
      abbrev Untold : List Event → ℕ → Type 0
      Untold events e = accepted e events ≡ accepted e heard_now

      later : (e : ℕ) (events : List Event) (es : List ℕ) → AllByRecursion (λ k. nat_eq e k ≡ false) es → AllByRecursion (Untold events) es → AllByRecursion (Untold (events ++ said (ToEditor e text) ∷ [])) es
      later e events [] apart h = tt
      later e events (k ∷ es) apart h = (
        accepted_more k events (said (ToEditor e text)) ∙ ap (λ b. cond b (accepted_behind (accepted k events) (said (ToEditor e text))) (accepted k events)) apart.0 ∙ h.0,
        later e events es apart.1 h.1,
      )

      takers_known : (es : List ℕ) (events : List Event) → AllByRecursion Takes es → Differ es → AllByRecursion (Untold events) es → Because Out_known events (each (λ e. tell s t.number e body) es)
      takers_known [] events takes differ untold = by_nothing
      takers_known (e ∷ es) events takes differ untold = by_then
          (by_send (λ told. record { told = of_token s body params t notified called takes.0.0 refl; knows = (takes.0.1, untold.0) }))
          (takers_known es (events ++ said (ToEditor e text) ∷ []) takes.1 differ.1 (later e events es differ.0 untold.1))

      all_take : (g : ℕ) → group_of s before ≡ Some g → AllByRecursion Takes (takers settings before g s t)
      all_take g kept = all_filtered (RunsIn settings before s) Takes (λ e. has_accepted e t.number (created_of settings s before)) (λ e on at. (on, at)) (running_in settings g before) (running_at stage g kept)

      takers_differ : (g : ℕ) → Differ (takers settings before g s t)
      takers_differ g = some_differ (λ e. has_accepted e t.number (created_of settings s before)) (running_in settings g before)
          (some_differ (λ e. is_running (desk_of e before).phase && is_home g (home_of settings e before)) (range_with_len 0 (editors_of before)) (range_differs 0 (editors_of before)))

    token_known : Because Out_known heard_now (created_row settings s before body params)
    token_known = by_on (λ none. by_nothing) (λ t called. by_on (λ none. by_nothing)
        (λ g kept. takers_known t called (takers settings before g s t) heard_now (all_take t called g kept) (takers_differ t called g) (all_same (Untold t called heard_now) (λ e. refl) (takers settings before g s t))))

    request_known : (f : Forwarded) → find (is_told before (named_of (codes "token") params)) (forwarding_of settings s before).open_requests ≡ Some f → (token : List ℕ) → own_token (named_of (codes "token") params) f ≡ Some token → Out_known heard_now (ToEditor f.editor (marked_text token body))
    request_known f found token own told = record { told = of_request s body params f token notified found own refl refl; knows = tt }

    progress_known : Because Out_known heard_now (progress_row settings s before body params)
    progress_known = by_on (λ none. token_known) (λ f found. by_on (λ none. by_nothing) (λ token own. by_send (request_known f found token own)))

  abbrev Any : Type 0
  Any = Reasons Out_known heard_now (outs_of settings before (FromServer s body))

  vacuous : ((given : Option Json) → IsNotified before (FromServer s body) s body given → ⊥) → Any
  vacuous none = none_told settings before (FromServer s body) here (λ e n taking k. never (sym (ap is_of_desk k.from))) heard_now (outs_of settings before (FromServer s body))
    where
      here : (n : ℕ) (asked : List ℕ) (given : Option Json) → IsNotified before (FromServer s body) n asked given → ⊥
      here n asked given k = let same : s ≡ n = cc_start k.from in let text : body ≡ asked = cc_text k.from in
          none given (subst (λ b. IsNotified before (FromServer s body) s b given) (sym text) (subst (λ z. IsNotified before (FromServer s body) z asked given) (sym same) k))
        where
          cc_start : FromServer s body ≡ FromServer n asked → s ≡ n
          cc_start e = cc

          cc_text : FromServer s body ≡ FromServer n asked → body ≡ asked
          cc_text e = cc

  by_class : (life_of s before).stage ≡ Ready → (method : List ℕ) (params : Option Json) → message_of body ≡ notification method params → (c : Class) → class_of method Server true ≡ c → Any
  by_class stage method params says Progress class = subst (λ z. Reasons Out_known heard_now (outs (from_server settings s before body (message_of body) z) heard_now)) (sym stage)
      (subst (λ m. Reasons Out_known heard_now (outs (from_server settings s before body m Ready) heard_now)) (sym says)
      (subst (λ c. Reasons Out_known heard_now (outs (notified_row settings s before body params c) heard_now)) (sym class) (progress_known stage method params says class).why))
  by_class stage method params says _ class = vacuous (λ given k. never (sym (ap names_progress k.class) ∙ (ap (λ w. names_progress (class_of w Server true)) (same given k.method (sym k.asks ∙ says)) ∙ ap names_progress class)))
    where
      same : (given : Option Json) (w : List ℕ) → notification w given ≡ notification method params → w ≡ method
      same given w e = cc

  by_message : (life_of s before).stage ≡ Ready → (m : Message) → message_of body ≡ m → Any
  by_message stage (notification method params) says = by_class stage method params says (class_of method Server true) refl
  by_message stage _ says = vacuous (λ given k. never (sym (ap is_notification k.asks) ∙ ap is_notification says))

  by_stage : (stage : Stage) → (life_of s before).stage ≡ stage → Any
  by_stage Ready at = by_message at (message_of body) refl
  by_stage _ at = vacuous (λ given k. never (sym (ap is_ready k.ready) ∙ ap is_ready at))

  pub heard_known : Any
  heard_known = by_stage (life_of s before).stage refl

-- E19

module _ (settings : Settings) (before : List Event) (e : ℕ) (body : List ℕ) where
  abbrev asked_now : List Event
  asked_now = with_cause before (FromEditor e body)

  abbrev Said_known : List Event → Out → Type 0
  Said_known = KnownOut settings before (FromEditor e body)

  module _ (g s : ℕ) (home : home_of settings e before ≡ Some g) (start : start_of g before ≡ Some s) (ready : is_ready (life_of s before).stage ≡ true) where
    module _ (c : Taking) (taken : IsTaken settings before (FromEditor e body) e s c) where
      abbrev handed : List ℕ → Out
      handed held = ToEditor e (marked_text (created_text s c.token) held)

      held_known : (earlier later : List (List ℕ)) → c.held ≡ earlier ++ later → (events : List Event) → events ≡ behind asked_now (map handed earlier) → Because Said_known events (each (tell s c.token e) later)
      held_known earlier [] order events place = by_nothing
      held_known earlier (held ∷ later) order events place = by_then
          (by_send (λ told. record { told = of_held s c earlier held later taken order place refl; knows = record { running = taken.ran; group = g; home = home; last = start } }))
          (held_known (earlier ++ held ∷ []) later (order ∙ sym (append_assoc earlier (held ∷ []) later)) (events ++ said (handed held) ∷ [])
          (ap (λ z. z ++ said (handed held) ∷ []) place ∙ sym (behind_both asked_now (map handed earlier) (handed held ∷ [])) ∙ sym (ap (behind asked_now) (map_last handed earlier held))))

    hand_known : (c : Taking) → is_running (desk_of e before).phase ≡ true → find (is_answered e (answered_id (message_of body))) (created_of settings s before).takings ≡ Some c → accepts (message_of body) ≡ true → Because Said_known asked_now (each (tell s c.token e) c.held)
    hand_known c runs found agrees = held_known c (record { answer = body; from = refl; ran = running_is settings before (desk_of e before).phase runs; ready = ready_is (life_of s before).stage ready; found = found; accepted = agrees })
        [] c.held refl asked_now (sym (append-nil asked_now))

    taking_known : Because Said_known asked_now (taking_row settings before e (message_of body) s)
    taking_known = by_choose (λ runs. by_on (λ none. by_nothing) (λ c found. by_choose (λ agrees. hand_known c runs found agrees) (λ no. by_nothing))) (λ idle. by_nothing)

  response_known : Because Said_known asked_now (response_row settings before e body (message_of body))
  response_known = by_on (λ none. by_nothing) (λ g home. by_on (λ none. by_nothing) (λ s start. by_choose (λ ready. by_on (λ none. taking_known g s home start ready) (λ a found. by_send tt)) (λ no. by_nothing)))

  abbrev Each : Type 0
  Each = Reasons Said_known asked_now (outs_of settings before (FromEditor e body))

  nothing_told : ((s : ℕ) (taking : Taking) → IsTaken settings before (FromEditor e body) e s taking → ⊥) → Each
  nothing_told none = none_told settings before (FromEditor e body) (λ s asked given k. never (sym (ap is_of_start k.from))) here asked_now (outs_of settings before (FromEditor e body))
    where
      same : (n : ℕ) (answer : List ℕ) → FromEditor e body ≡ FromEditor n answer → e ≡ n
      same n answer is = cc

      here : (n s : ℕ) (taking : Taking) → IsTaken settings before (FromEditor e body) n s taking → ⊥
      here n s taking k = none s taking (subst (λ z. IsTaken settings before (FromEditor e body) z s taking) (sym (same n k.answer k.from)) k)

  by_phase : (m : Message) → message_of body ≡ m → (id : Option Id) (r : Json) → m ≡ result id r → (phase : Phase) → (desk_of e before).phase ≡ phase → Each
  by_phase m says id r is Running at = subst (Reasons Said_known asked_now) (sym (whole_off settings before e body (off_forth settings before e body (message_of body) (λ s. ap (goes_forth settings s before e body) (says ∙ is))))) (subst (λ p. Reasons Said_known asked_now (outs (from_editor settings before e body (message_of body) p) asked_now)) (sym at)
      (subst (λ w. Reasons Said_known asked_now (outs (from_editor settings before e body w Running) asked_now)) (sym (says ∙ is))
      (subst (λ w. Reasons Said_known asked_now (outs (response_row settings before e body w) asked_now)) (says ∙ is) response_known.why)))
  by_phase m says id r is _ at = nothing_told (λ s taking k. never (sym (ap is_running k.ran) ∙ ap is_running at))

  by_answer : (m : Message) → message_of body ≡ m → Each
  by_answer (result id r) says = by_phase (result id r) says id r refl (desk_of e before).phase refl
  by_answer _ says = nothing_told (λ s taking k. never (sym k.accepted ∙ (ap accepts (sym (same k.answer k.from)) ∙ ap accepts says)))
    where
      same : (answer : List ℕ) → FromEditor e body ≡ FromEditor e answer → message_of body ≡ message_of answer
      same answer is = ap message_of (let text : body ≡ answer = cc in text)

  pub said_known : Each
  said_known = by_answer (message_of body) refl

-- Every cause

pub all_known : (settings : Settings) (before : List Event) → AllLast before → (cause : Cause) → Reasons (KnownOut settings before cause) (with_cause before cause) (outs_of settings before cause)
all_known settings before lasts (FromServer s body) = heard_known settings before lasts s body
all_known settings before lasts (FromEditor e body) = said_known settings before e body
all_known settings before lasts (Joined e) = silent settings before (Joined e) refl refl
all_known settings before lasts (EditorGone e why) = silent settings before (EditorGone e why) refl refl
all_known settings before lasts (Started s) = silent settings before (Started s) refl refl
all_known settings before lasts (StartFailed s) = silent settings before (StartFailed s) refl refl
all_known settings before lasts (ServerGone s) = silent settings before (ServerGone s) refl refl
all_known settings before lasts (Drained e k) = silent settings before (Drained e k) refl refl
all_known settings before lasts (Tick t) = silent settings before (Tick t) refl refl

-- A start that didn't end is the last one of its group, in every legal history
pub last_starts : (settings : Settings) → InRange settings → (before : List Event) → Reached settings before → AllLast before
last_starts settings range before at = (rests_at settings range before at).lasts
