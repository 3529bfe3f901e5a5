-- What a start says, by where it stands.
use Rattle.std.proofs.Common.{◌≡◌, ℕ, Bool, true, false, not, List, [], ◌∷◌, map, nat_eq, refl, ap, sym, subst, ◌∙◌, codes, if◌then◌else◌}
use Rattle.std.specs.Prelude.{Option, Some, None, bytes_eq, find, fold, slice_get}
use Rattle.std.proofs.lemmas.Bool.{and_parts}
use Rattle.json_text.specs.Json.{Json}
use Rattle.mux_history.specs.declared.cause.Cause.TheVariants.{Joined, FromEditor, EditorGone, Started, StartFailed, FromServer, ServerGone, Drained, Tick}
use Rattle.mux_history.specs.declared.out.Out.TheVariants.{ToEditor, ToServer, Spawn, CloseEditor, EndServer}
use Rattle.rpc_message.specs.Message.{Message, Id, message_of, request, notification, result, error, not_json, not_message}
use Rattle.event_model.specs.declared.stage.Stage.{Stage}
use Rattle.event_model.specs.declared.stage.Stage.TheVariants.{Unspawned, Spawning, Initializing, Ready, Stopping, Ending, Ended}
use Rattle.event_model.specs.Does.{Alike}
use Rattle.event_model.specs.Event.{Event, took, did}
use Rattle.event_model.specs.Phases.{is_malformed}
use Rattle.event_model.specs.Requests.{answered_id}
use Rattle.event_model.specs.Row.{nothing, on}
use Rattle.event_model.specs.Settings.{Settings}
use Rattle.event_model.specs.Stages.{Life, is_ended, is_first_result, life_behind, life_of, no_life, runs, stage_ending, stage_hears, stage_started, stage_told}
use Rattle.event_model.proofs.Frames.{never}
use Rattle.event_model.proofs.Turns.{alike, alike_then}
use Rattle.mux_starts.specs.group_facts.proofs.Ceased.{all_spawned, is_spawned}
use Rattle.mux_starts.specs.group_facts.proofs.ShownResult.{shown_value}
use Rattle.mux_starts.specs.group_facts.specs.Facts.{AllForwarded, IsForwarded, WaitingAsked, is_early}
use Rattle.group_rows.specs.Answers.{answer_row, hand_on}
use Rattle.group_rows.specs.Rows as rows
use Rattle.event_model.specs.Spawns.{start_of}
use Rattle.group_rows.specs.Forwarded.{Forwarded, answered_by, forwarding_of, names}
use Rattle.group_rows.specs.Rows.{first_result, from_server, refused_row, hasty_row, stopping_row}
use Rattle.group_rows.specs.Ends.{last_number}
use Rattle.group_words.specs.Houses.{is_first_error}
use Rattle.mux_starts.specs.mux_facts.proofs.Lists.{found_is}
use Rattle.mux_starts.specs.mux_tables.specs.declared.tables.Start.{Start}
use Rattle.mux_starts.specs.mux_tables.specs.declared.tables.Tables.{Tables}
use Rattle.mux_starts.specs.mux_tables.specs.Stands.{NamesAt, Stands, number_in, of_life}
use Rattle.mux_starts.specs.mux_tables.proofs.Starts.{start_at_place}
use Rattle.mux_starts.specs.Answers.{IsAsked}
use Rattle.mux_starts.specs.Welcomes.{AllAsking, IsShown}
use Rattle.mux_editors.proofs.Turns.{is_first, is_second}
use Rattle.rpc_message.specs.declared.sort.Sort.TheVariants as sort
use Rattle.rpc_message.specs.Sorts.{sort_of}
use Rattle.mux_editors.proofs.Asides.{malformed_aside}

-- where the last start of a group stands
module _ (settings : Settings) (t : Tables) (before : List Event) (g s : ℕ) (x : Start) (here : slice_get t.lasts.items g ≡ Some x) (at : slice_get (map number_in t.lasts.items) g ≡ Some s) (st : Stands settings t before) where
  life_here : life_of s before ≡ record { stage = x.life.stage; started = x.started }
  life_here = subst (λ n. life_of n before ≡ record { stage = x.life.stage; started = x.started }) (start_at_place t.lasts.items g s x here at) ((st.lasts.each g x here).parts of_life)

  pub stage_here : (life_of s before).stage ≡ x.life.stage
  stage_here = ap (λ (l : Life). l.stage) life_here

-- a start whose program is awaited has none that runs
abbrev IsFresh : Life → Type 0
IsFresh life = life.stage ≡ Spawning → life.started ≡ false

started_late : (g : Stage) → stage_started g ≡ Spawning → true ≡ false
started_late Spawning h = cc
started_late Unspawned h = cc
started_late Initializing h = cc
started_late Ready h = cc
started_late Stopping h = cc
started_late Ending h = cc
started_late Ended h = cc

hears_late : (g : Stage) (m : Message) → stage_hears g m ≡ Spawning → g ≡ Spawning
hears_late Initializing m h = go (is_first_result m) h
  where
    go : (b : Bool) → (if b then Ready else Initializing) ≡ Spawning → Initializing ≡ Spawning
    go true k = absurd (cc)
    go false k = k
hears_late Spawning m h = h
hears_late Unspawned m h = h
hears_late Ready m h = h
hears_late Stopping m h = h
hears_late Ending m h = h
hears_late Ended m h = h

told_late : (g : Stage) (m : Message) → stage_told g m ≡ Spawning → g ≡ Spawning
told_late Ready (request id method params) h = go (bytes_eq (codes "shutdown") method) h
  where
    go : (b : Bool) → (if b then Stopping else Ready) ≡ Spawning → Ready ≡ Spawning
    go true k = absurd (cc)
    go false k = k
told_late Ready (notification method params) h = h
told_late Ready (result id r) h = h
told_late Ready (error id r) h = h
told_late Ready not_json h = h
told_late Ready not_message h = h
told_late Spawning m h = h
told_late Unspawned m h = h
told_late Initializing m h = h
told_late Stopping m h = h
told_late Ending m h = h
told_late Ended m h = h

ending_late : (g : Stage) → stage_ending g ≡ Spawning → true ≡ false
ending_late Spawning h = cc
ending_late Unspawned h = cc
ending_late Initializing h = cc
ending_late Ready h = cc
ending_late Stopping h = cc
ending_late Ending h = cc
ending_late Ended h = cc

if_fresh : (b : Bool) (moved life : Life) → IsFresh moved → IsFresh life → IsFresh (if b then moved else life)
if_fresh true moved life h k = h
if_fresh false moved life h k = k

fresh_behind : (s : ℕ) (life : Life) (event : Event) → IsFresh life → IsFresh (life_behind s life event)
fresh_behind s life (took (Started n) m) h = if_fresh (nat_eq n s) (record { stage = stage_started life.stage; started = true }) life (started_late life.stage) h
fresh_behind s life (took (StartFailed n) m) h = if_fresh (nat_eq n s) (record { stage = Ended; started = life.started }) life (λ e. absurd (cc)) h
fresh_behind s life (took (FromServer n body) m) h = if_fresh (nat_eq n s) (record { stage = stage_hears life.stage m; started = life.started }) life (λ e. h (hears_late life.stage m e)) h
fresh_behind s life (took (ServerGone n) m) h = if_fresh (nat_eq n s) (record { stage = Ended; started = life.started }) life (λ e. absurd (cc)) h
fresh_behind s life (did (Spawn n g) m) h = if_fresh (nat_eq n s) (record { stage = Spawning; started = false }) life (λ e. refl) h
fresh_behind s life (did (ToServer n body) m) h = if_fresh (nat_eq n s) (record { stage = stage_told life.stage m; started = life.started }) life (λ e. h (told_late life.stage m e)) h
fresh_behind s life (did (EndServer n) m) h = if_fresh (nat_eq n s) (record { stage = stage_ending life.stage; started = life.started }) life (λ e. never (ending_late life.stage e)) h
fresh_behind s life (took (Joined e) m) h = h
fresh_behind s life (took (FromEditor e body) m) h = h
fresh_behind s life (took (EditorGone e why) m) h = h
fresh_behind s life (took (Drained e k) m) h = h
fresh_behind s life (took (Tick k) m) h = h
fresh_behind s life (did (ToEditor e body) m) h = h
fresh_behind s life (did (CloseEditor e) m) h = h

fresh_all : (s : ℕ) (life : Life) (events : List Event) → IsFresh life → IsFresh (fold (life_behind s) life events)
fresh_all s life [] h = h
fresh_all s life (event ∷ events) h = fresh_all s (life_behind s life event) events (fresh_behind s life event h)

pub runs_late : (s : ℕ) (before : List Event) (stage : Stage) → runs (life_of s before) ≡ true → (life_of s before).stage ≡ stage → stage ≡ Spawning → ⊥
runs_late s before stage run at is = never (sym (and_parts (life_of s before).started (not (is_ended (life_of s before).stage)) run).0 ∙ fresh_all s no_life before (λ e. refl) (at ∙ is))

-- S1: a body that is no message answers nothing
nobody : (fs : List Forwarded) → find (answered_by None) fs ≡ None
nobody [] = refl
nobody (f ∷ fs) = nobody fs

pub unanswered_first : (m : Message) → answered_id m ≡ None → is_first_result m ≡ false
unanswered_first (result None r) h = refl
unanswered_first (result (Some id) r) h = absurd (cc)
unanswered_first other h = refl

pub unanswered_error : (m : Message) → answered_id m ≡ None → is_first_error m ≡ false
unanswered_error (error None r) h = refl
unanswered_error (error (Some id) r) h = absurd (cc)
unanswered_error other h = refl

pub malformed_names : (m : Message) → is_malformed m ≡ true → answered_id m ≡ None
malformed_names not_json h = refl
malformed_names not_message h = refl
malformed_names (request id method params) h = absurd (cc)
malformed_names (notification method params) h = absurd (cc)
malformed_names (result id r) h = absurd (cc)
malformed_names (error id r) h = absurd (cc)

pub unanswered_named : (m : Message) → answered_id m ≡ None → NamesAt (answered_id m) None
unanswered_named m h = subst (λ id. NamesAt id None) (sym h) (λ n l. refl)

malformed_aside_notice : (m : Message) → is_malformed m ≡ true → sort_of m ≡ Some sort.Notification → ⊥
malformed_aside_notice not_json h k = cc
malformed_aside_notice not_message h k = cc
malformed_aside_notice (request id method params) h k = absurd (cc)
malformed_aside_notice (notification method params) h k = absurd (cc)
malformed_aside_notice (result id r) h k = absurd (cc)
malformed_aside_notice (error id r) h k = absurd (cc)

-- a message of a start that is ready, which is neither a request nor a notification
ready_answers : (settings : Settings) (before : List Event) (s : ℕ) (body : List ℕ) (m : Message) → (sort_of m ≡ Some sort.Request → ⊥) → (sort_of m ≡ Some sort.Notification → ⊥) → rows.ready_row settings s before body m ≡ answer_row settings s before body m
ready_answers settings before s body (request id method params) r n = absurd (r refl)
ready_answers settings before s body (notification method params) r n = absurd (n refl)
ready_answers settings before s body (result id r') r n = refl
ready_answers settings before s body (error id r') r n = refl
ready_answers settings before s body not_json r n = refl
ready_answers settings before s body not_message r n = refl

module _ (settings : Settings) (s : ℕ) (before : List Event) (body : List ℕ) where
  unasked_row : (m : Message) → (sort_of m ≡ Some sort.Request → ⊥) → hasty_row s body m ≡ nothing
  unasked_row (request id method params) h = absurd (h refl)
  unasked_row (notification method params) h = refl
  unasked_row (result id r) h = refl
  unasked_row (error id r) h = refl
  unasked_row not_json h = refl
  unasked_row not_message h = refl

  -- S1
  pub malformed_row : (m : Message) (stage : Stage) → is_malformed m ≡ true → Alike (from_server settings s before body m stage) nothing
  malformed_row m Initializing h = alike_then (is_second refl (unanswered_first m (malformed_names m h))) (alike_then (is_second refl (unanswered_error m (malformed_names m h))) (alike (unasked_row m (malformed_aside m h))))
  malformed_row m Ready h = alike_then (alike (ready_answers settings before s body m (malformed_aside m h) (malformed_aside_notice m h)))
      (alike (ap (λ o. on o nothing (hand_on settings before s body)) (ap (λ id. find (answered_by id) (forwarding_of settings s before).open_requests) (malformed_names m h) ∙ nobody (forwarding_of settings s before).open_requests)))
  malformed_row m Unspawned h = alike refl
  malformed_row m Spawning h = alike refl
  malformed_row m Stopping h = is_second refl (ap (λ id. names id (last_number s before)) (malformed_names m h))
  malformed_row m Ending h = alike refl
  malformed_row m Ended h = alike refl

  module _ (m : Message) (stage : Stage) (at : stage ≡ Initializing) (other : is_first_result m ≡ false) where
    -- S3
    pub refused_here : is_first_error m ≡ true → Alike (from_server settings s before body m stage) (refused_row settings before s body)
    refused_here refuses = alike_then (alike (ap (from_server settings s before body m) at)) (alike_then (is_second refl other) (is_first refl refuses))

    -- S4
    module _ (unrefused : is_first_error m ≡ false) where
      second_row : Alike (from_server settings s before body m stage) (hasty_row s body m)
      second_row = alike_then (alike (ap (from_server settings s before body m) at)) (alike_then (is_second refl other) (is_second refl unrefused))

      pub other_row : (sort_of m ≡ Some sort.Request → ⊥) → Alike (from_server settings s before body m stage) nothing
      other_row unasked = alike_then second_row (alike (unasked_row m unasked))

      pub hasty_here : (id : Id) (method : List ℕ) (params : Option Json) → m ≡ request id method params → Alike (from_server settings s before body m stage) (hasty_row s body (request id method params))
      hasty_here id method params is = alike_then second_row (alike (ap (hasty_row s body) is))

-- S2
first_is : (m : Message) → is_first_result m ≡ true → (id : Option Id) × (r : Json) × (m ≡ result id r)
first_is (result id r) h = (id, r, refl)
first_is (request id method params) h = absurd (cc)
first_is (notification method params) h = absurd (cc)
first_is (error id r) h = absurd (cc)
first_is not_json h = absurd (cc)
first_is not_message h = absurd (cc)

pub asking : (before : List Event) → WaitingAsked before → AllAsking before
asking before waiting e waits = let k = waiting e waits in record { name = k.0; method = codes "initialize"; params = k.1.params; says = k.1.asks }

-- the first result of a start, as its row needs it
pub record IsFirst (settings : Settings) (before : List Event) (s : ℕ) (body : List ℕ) : Type 0 where
  pub id : Option Id
  pub value : Json
  pub says : message_of body ≡ result id value
  pub first : is_first_result (message_of body) ≡ true
  pub shown : IsShown body
  pub row : Alike (from_server settings s before body (message_of body) (life_of s before).stage) (first_result settings before s body)

module _ (settings : Settings) (before : List Event) (s : ℕ) (body : List ℕ) (stage : (life_of s before).stage ≡ Initializing) where
  pub first_entry : is_first_result (message_of body) ≡ true → IsFirst settings before s body
  first_entry first =
      let k = first_is (message_of body) first in
      let shown = shown_value body first in
      record {
        id = k.0;
        value = k.1;
        says = k.2;
        first = first;
        shown = record { value = shown.0; text = shown.1 };
        row = is_first (ap (from_server settings s before body (message_of body)) stage) first;
      }

-- S5
asked_so : (before : List Event) (f : Forwarded) → IsForwarded before f → IsAsked before f
asked_so before f k = record { name = k.id; text = k.text; answered = λ waits. never (sym (ap is_early waits) ∙ k.late) }

pub asked : (settings : Settings) (before : List Event) (s : ℕ) (m : Message) → AllForwarded settings before → (f : Forwarded) → find (answered_by (answered_id m)) (forwarding_of settings s before).open_requests ≡ Some f → IsAsked before f
asked settings before s m all f found = asked_so before f (found_is (IsForwarded before) (answered_by (answered_id m)) f (forwarding_of settings s before).open_requests (all s) found)

pub answer_here : (settings : Settings) (before : List Event) (s : ℕ) (body : List ℕ) → (life_of s before).stage ≡ Ready → (sort_of (message_of body) ≡ Some sort.Request → ⊥) → (sort_of (message_of body) ≡ Some sort.Notification → ⊥)
    → Alike (from_server settings s before body (message_of body) (life_of s before).stage) (answer_row settings s before body (message_of body))
answer_here settings before s body stage r n = alike (ap (from_server settings s before body (message_of body)) stage ∙ ready_answers settings before s body (message_of body) r n)

-- S4
pub stopped_row : (settings : Settings) (before : List Event) (s : ℕ) (body : List ℕ) → (life_of s before).stage ≡ Stopping → Alike (from_server settings s before body (message_of body) (life_of s before).stage) (stopping_row s before (message_of body))
stopped_row settings before s body stage = alike (ap (from_server settings s before body (message_of body)) stage)

-- a start that is the last of its group, and whose program runs, is in one of these stages
pub runs_elsewhere : {A : Type 0} (before : List Event) (g s : ℕ) (stage : Stage) → start_of g before ≡ Some s → runs (life_of s before) ≡ true → (life_of s before).stage ≡ stage
    → (stage ≡ Initializing → ⊥) → (stage ≡ Ready → ⊥) → (stage ≡ Stopping → ⊥) → (stage ≡ Ending → ⊥) → A
runs_elsewhere before g s Initializing last run at i r p e = absurd (i refl)
runs_elsewhere before g s Ready last run at i r p e = absurd (r refl)
runs_elsewhere before g s Stopping last run at i r p e = absurd (p refl)
runs_elsewhere before g s Ending last run at i r p e = absurd (e refl)
runs_elsewhere before g s Unspawned last run at i r p e = never (sym (all_spawned g s before last) ∙ ap is_spawned at)
runs_elsewhere before g s Spawning last run at i r p e = absurd (runs_late s before Spawning run at refl)
runs_elsewhere before g s Ended last run at i r p e = never (sym (and_parts (life_of s before).started (not (is_ended (life_of s before).stage)) run).1 ∙ ap (λ q. not (is_ended q)) at)
