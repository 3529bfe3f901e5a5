-- The end of a session with a start: `shutdown`, its response, and `exit`.
use Rattle.std.proofs.Common.{◌≡◌, ℕ, ◌+◌, ◌-◌, Bool, true, false, ◌&&◌, List, [], ◌∷◌, ◌++◌, nat_eq, codes, decimal, bytes_eq, if◌then◌else◌, Some, None, IsTrue, refl, sym, ◌∙◌, ap, ap₂, subst, append_assoc, arith}
use Rattle.std.proofs.lemmas.Bool.{and_parts}
use Rattle.std.proofs.lemmas.Slice.Eq.{bytes_eq-Decides}
use Rattle.mux_history.specs.declared.cause.Cause.{Cause}
use Rattle.mux_history.specs.declared.cause.Cause.TheVariants.{FromServer}
use Rattle.mux_history.specs.declared.entry.Entry.{Entry}
use Rattle.mux_history.specs.declared.out.Out.TheVariants.{ToEditor, ToServer, CloseEditor, EndServer, Spawn}
use Rattle.rpc_message.specs.Message.{Message, request, notification, result, error, not_json, not_message, integer, text, message_of}
use Rattle.event_model.specs.declared.stage.Stage.{Stage}
use Rattle.event_model.specs.declared.stage.Stage.TheVariants.{Unspawned, Spawning, Initializing, Ready, Stopping, Ending, Ended}
use Rattle.event_model.specs.Event.{Event, behind, heard, requests, said, with_cause}
use Rattle.event_model.specs.Requests.{answered_id, is_own, next_number, number_told}
use Rattle.event_model.specs.Settings.{Settings}
use Rattle.event_model.specs.Spawns.{starts_of}
use Rattle.event_model.specs.Stages.{Life, life_of, stage_ending, stage_hears, stage_told}
use Rattle.mux_facts.specs.Ranges.{InRange}
use Rattle.mux_facts.proofs.Folds.{life_more}
use Rattle.mux_facts.proofs.Starts.{Starts}
use Rattle.mux_facts.proofs.Words.{number_same, same_number}
use Rattle.session_laws.specs.ServerRules.{KeepsServer8, ServerRule8, farewell_told, may_say, responds_to, serving, shut_down}
use Rattle.session_laws.proofs.Server2Law.{begun_stage}
use Rattle.session_laws.proofs.Server8Law.{IsCalm, Link, TiedAt, calm_says, calm_told, end_more, ended_more, farewell, free, is_stopping, last_id, may_exit_now, more, parts_now, response_calm, spawned_more, spoken_calm, told_more, took_it}
use Rattle.group_rows.specs.Ends.{answers_shutdown, exit_text}
use Rattle.group_rows.specs.Forwarded.{names}
use Rattle.group_rows.specs.Rows.{outs_of}
use Rattle.group_rows.proofs.Going.{no_exit}
use Rattle.group_facts.specs.Legal.{Legal}
use Rattle.group_facts.specs.Why.{IsExit, IsShutting, WhyToServer, begins, greets, conveys, forwarded, notes, tells, shuts, cancels, responds, exits, resolves, cancels_work}
use Rattle.group_facts.proofs.RestLaws.{RestLaw}
use Rattle.group_sessions.proofs.PartLaws.{ServerRule, server_history}

-- The start that responds to its `shutdown` in an entry: it stays behind it

-- it is to stop, or to end, or ended
abbrev is_past : Stage → Bool
is_past Stopping = true
is_past Ending = true
is_past Ended = true
is_past other = false

abbrev Ties : List Event → Type 0
Ties events = (s : ℕ) → TiedAt s events

record Within (before : List Event) (cause : Cause) (events : List Event) : Type 0 where
  ties : (s : ℕ) → parts_now before cause s ≡ false → TiedAt s events
  past : (s : ℕ) → parts_now before cause s ≡ true → is_past (life_of s events).stage ≡ true

stopping_is : (stage : Stage) → is_stopping stage ≡ true → stage ≡ Stopping
stopping_is Stopping h = refl
stopping_is Unspawned h = absurd (cc)
stopping_is Spawning h = absurd (cc)
stopping_is Initializing h = absurd (cc)
stopping_is Ready h = absurd (cc)
stopping_is Ending h = absurd (cc)
stopping_is Ended h = absurd (cc)

past_took : (before : List Event) (cause : Cause) (s : ℕ) → parts_now before cause s ≡ true → is_past (life_of s (with_cause before cause)).stage ≡ true
past_took before (FromServer n body) s h =
    let p = and_parts (nat_eq n s) (is_stopping (life_of n before).stage && responds_to (last_id (next_number n before)) (message_of body)) h in
    let q = and_parts (is_stopping (life_of n before).stage) (responds_to (last_id (next_number n before)) (message_of body)) p.1 in
    ap (λ (l : Life). is_past l.stage) (life_more s before (heard (FromServer n body)))
    ∙ ap (λ b. is_past (if b then record { stage = stage_hears (life_of s before).stage (message_of body); started = (life_of s before).started } else life_of s before).stage) p.0
    ∙ ap (λ z. is_past (stage_hears z (message_of body))) (stopping_is (life_of s before).stage (subst (λ k. is_stopping (life_of k before).stage ≡ true) (number_same n s p.0) q.0))
past_took before cause s h = absurd (cc)

past_told : (stage : Stage) (m : Message) → is_past stage ≡ true → is_past (stage_told stage m) ≡ true
past_told Ready m h = absurd (cc)
past_told other m h = h

past_ending : (stage : Stage) → is_past (stage_ending stage) ≡ true
past_ending Ended = refl
past_ending other = refl

either : (b : Bool) (x y : Life) → (b ≡ true → is_past x.stage ≡ true) → is_past y.stage ≡ true → is_past (if b then x else y).stage ≡ true
either true x y f h = f refl
either false x y f h = h

past_more : (events : List Event) (event : Event) (s : ℕ) (life : Life) → life_of s (events ++ event ∷ []) ≡ life → is_past life.stage ≡ true → is_past (life_of s (events ++ event ∷ [])).stage ≡ true
past_more events event s life is h = ap (λ (l : Life). is_past l.stage) is ∙ h

module _ (before : List Event) (cause : Cause) (events : List Event) (h : Within before cause events) where
  within_editor : (e : ℕ) (body : List ℕ) → Within before cause (events ++ said (ToEditor e body) ∷ [])
  within_editor e body = record { ties = λ s still. more s events (said (ToEditor e body)) (h.ties s still); past = λ s on. past_more events (said (ToEditor e body)) s (life_of s events) (life_more s events (said (ToEditor e body))) (h.past s on) }

  within_close : (e : ℕ) → Within before cause (events ++ said (CloseEditor e) ∷ [])
  within_close e = record { ties = λ s still. more s events (said (CloseEditor e)) (h.ties s still); past = λ s on. past_more events (said (CloseEditor e)) s (life_of s events) (life_more s events (said (CloseEditor e))) (h.past s on) }

  within_end : (n : ℕ) → Within before cause (events ++ said (EndServer n) ∷ [])
  within_end n = record {
    ties = λ s still. ended_more s events n (h.ties s still);
    past = λ s on. past_more events (said (EndServer n)) s _ (life_more s events (said (EndServer n)))
        (either (nat_eq n s) (record { stage = stage_ending (life_of s events).stage; started = (life_of s events).started }) (life_of s events) (λ same. past_ending (life_of s events).stage) (h.past s on));
  }

  within_spawn : (g : ℕ) → Starts events → Within before cause (events ++ said (Spawn (starts_of events) g) ∷ [])
  within_spawn g none = record {
    ties = λ s still. spawned_more s events g none (h.ties s still);
    past = λ s on. past_more events (said (Spawn (starts_of events) g)) s _ (life_more s events (said (Spawn (starts_of events) g)))
        (either (nat_eq (starts_of events) s) (record { stage = Spawning; started = false }) (life_of s events) (λ same. fresh s (number_same (starts_of events) s same) (h.past s on)) (h.past s on));
  }
    where
      fresh : (s : ℕ) → starts_of events ≡ s → is_past (life_of s events).stage ≡ true → is_past Spawning ≡ true
      fresh s same past = absurd (let none_yet : is_past Unspawned ≡ true = subst (λ (l : Life). is_past l.stage ≡ true) (none s (omega (arith, same))) past in cc)

-- A body to a start

-- it may come, and what is tied behind it where the start doesn't respond to its `shutdown`
record Step (before : List Event) (cause : Cause) (events : List Event) (s : ℕ) (body : List ℕ) : Type 0 where
  allowed : IsTrue (may_say (farewell s events) (message_of body))
  next : parts_now before cause s ≡ false → Link (stage_told (life_of s events).stage (message_of body)) (number_told (next_number s events) (message_of body)) (farewell_told (farewell s events) (message_of body))

-- what answers the last request of a start
names_last : (n : ℕ) (m : Message) → names (answered_id m) (n - 1) ≡ true → responds_to (last_id n) m ≡ true
names_last n (result (Some (integer digits)) r) h = (bytes_eq-Decides (decimal (n - 1)) digits).1 (sym ((bytes_eq-Decides digits (decimal (n - 1))).0 h))
names_last n (error (Some (integer digits)) x) h = (bytes_eq-Decides (decimal (n - 1)) digits).1 (sym ((bytes_eq-Decides digits (decimal (n - 1))).0 h))
names_last n (result (Some (text characters)) r) h = absurd (cc)
names_last n (error (Some (text characters)) x) h = absurd (cc)
names_last n (result None r) h = absurd (cc)
names_last n (error None x) h = absurd (cc)
names_last n (request id method params) h = absurd (cc)
names_last n (notification method params) h = absurd (cc)
names_last n not_json h = absurd (cc)
names_last n not_message h = absurd (cc)

last_names : (n : ℕ) (m : Message) → responds_to (last_id n) m ≡ true → names (answered_id m) (n - 1) ≡ true
last_names n (result (Some (integer digits)) r) h = (bytes_eq-Decides digits (decimal (n - 1))).1 (sym ((bytes_eq-Decides (decimal (n - 1)) digits).0 h))
last_names n (error (Some (integer digits)) x) h = (bytes_eq-Decides digits (decimal (n - 1))).1 (sym ((bytes_eq-Decides (decimal (n - 1)) digits).0 h))
last_names n (result (Some (text characters)) r) h = absurd (cc)
last_names n (error (Some (text characters)) x) h = absurd (cc)
last_names n (result None r) h = absurd (cc)
last_names n (error None x) h = absurd (cc)
last_names n (request id method params) h = absurd (cc)
last_names n (notification method params) h = absurd (cc)
last_names n not_json h = absurd (cc)
last_names n not_message h = absurd (cc)

-- a request of an editor is no `shutdown`
not_own : (method : List ℕ) → is_own method ≡ false → bytes_eq (codes "shutdown") method ≡ false
not_own method h = go (bytes_eq (codes "shutdown") method) refl
  where
    go : (b : Bool) → bytes_eq (codes "shutdown") method ≡ b → b ≡ false
    go true e = absurd (let own : is_own (codes "shutdown") ≡ false = subst (λ w. is_own w ≡ false) (sym ((bytes_eq-Decides (codes "shutdown") method).0 e)) h in cc)
    go false e = refl

module _ (settings : Settings) (before : List Event) (cause : Cause) (events : List Event) (s : ℕ) (body : List ℕ) where
  -- in these stages a start doesn't respond to its `shutdown` in the entry
  still_by : (stage : Stage) → (life_of s events).stage ≡ stage → is_past stage ≡ false → Within before cause events → parts_now before cause s ≡ false
  still_by stage at early m = go (parts_now before cause s) refl
    where
      go : (b : Bool) → parts_now before cause s ≡ b → b ≡ false
      go true on = absurd (let past : is_past stage ≡ true = ap is_past (sym at) ∙ m.past s on in let clash : true ≡ false = sym past ∙ early in cc)
      go false still = refl

  serving_by : (stage : Stage) → (life_of s events).stage ≡ stage → is_past stage ≡ false → Within before cause events → Link stage (next_number s events) (farewell s events)
  serving_by stage at early m = subst (λ x. Link x (next_number s events) (farewell s events)) at (m.ties s (still_by stage at early m))

  calm_link : (stage : Stage) (n : ℕ) (w : Message) → requests (codes "shutdown") w ≡ false → is_past stage ≡ false → Link (stage_told stage w) n serving
  calm_link Ready n w none early = ap_link none
    where
      ap_link : requests (codes "shutdown") w ≡ false → Link (if requests (codes "shutdown") w then Stopping else Ready) n serving
      ap_link h = subst (λ b. Link (if b then Stopping else Ready) n serving) (sym h) refl
  calm_link Unspawned n w none early = refl
  calm_link Spawning n w none early = refl
  calm_link Initializing n w none early = refl
  calm_link Stopping n w none early = absurd (cc)
  calm_link Ending n w none early = absurd (cc)
  calm_link Ended n w none early = absurd (cc)

  serves : (stage : Stage) → Link stage (next_number s events) (farewell s events) → is_past stage ≡ false → farewell s events ≡ serving
  serves Unspawned h early = h
  serves Spawning h early = h
  serves Initializing h early = h
  serves Ready h early = h
  serves Stopping h early = absurd (cc)
  serves Ending h early = absurd (cc)
  serves Ended h early = absurd (cc)

  -- a body that is neither `shutdown` nor `exit`
  calm_step : (stage : Stage) → (life_of s events).stage ≡ stage → is_past stage ≡ false → IsCalm (message_of body) → Within before cause events → Step before cause events s body
  calm_step stage at early calm m =
      let now : farewell s events ≡ serving = serves stage (serving_by stage at early m) early in
      record {
        allowed = ap (λ w. may_say w (message_of body)) now ∙ calm_says (message_of body) calm;
        next = λ still. subst (λ x. Link (stage_told x (message_of body)) (number_told (next_number s events) (message_of body)) (farewell_told (farewell s events) (message_of body))) (sym at)
            (subst (Link (stage_told stage (message_of body)) (number_told (next_number s events) (message_of body))) (sym (ap (λ w. farewell_told w (message_of body)) now ∙ calm_told (message_of body) calm))
            (calm_link stage (number_told (next_number s events) (message_of body)) (message_of body) calm.stays early));
      }

  calm_as : (m : Message) → message_of body ≡ m → IsCalm m → IsCalm (message_of body)
  calm_as m says calm = subst IsCalm (sym says) calm

  -- `shutdown` itself, under the number of the next request
  shuts_step : IsShutting settings before cause events s body → Within before cause events → Step before cause events s body
  shuts_step k m =
      let n = next_number s events in
      let now : farewell s events ≡ serving = serving_by Ready k.ready refl m in
      record {
        allowed = ap₂ may_say now k.says;
        next = λ still. subst (λ x. Link (stage_told x (message_of body)) (number_told n (message_of body)) (farewell_told (farewell s events) (message_of body))) (sym k.ready)
            (subst (λ w. Link (stage_told Ready w) (number_told n w) (farewell_told (farewell s events) w)) (sym k.says) (ap (λ w. farewell_told w (request (integer (decimal n)) (codes "shutdown") None)) now ∙ ap (λ i. shut_down (integer (decimal i))) (back n)));
      }
    where
      back : (n : ℕ) → n ≡ n + 1 - 1
      back n = omega arith

  -- and `exit`
  exits_step : IsExit before cause events s body → Ties before → Step before cause events s body
  exits_step k h =
      let responds : responds_to (last_id (next_number s before)) (message_of k.answer) ≡ true = names_last (next_number s before) (message_of k.answer) k.answers in
      let now = ap (farewell s) (k.place ∙ ap (with_cause before) k.from) ∙ may_exit_now before s k.answer k.stage responds (h s) in
      record {
        allowed = ap₂ may_say now k.says;
        next = λ still. absurd (let on : parts_now before cause s ≡ true = ap (λ c. parts_now before c s) k.from ∙ (ap₂ (λ a x. a && (is_stopping x && responds_to (last_id (next_number s before)) (message_of k.answer))) (same_number s) k.stage ∙ responds) in
            let clash : true ≡ false = sym on ∙ still in cc);
      }

  step : WhyToServer settings before cause events s body → Ties before → Within before cause events → Step before cause events s body
  step (begins k) h m = calm_step Initializing (ap (λ es. (life_of s es).stage) (k.place ∙ ap (with_cause before) k.from) ∙ begun_stage before s k.stage) refl (calm_as _ k.says (record { stays = refl; goes_on = refl })) m
  step (greets k) h m = calm_step Ready k.ready refl (calm_as _ k.says (record { stays = refl; goes_on = refl })) m
  step (conveys k) h m = calm_step Ready k.ready refl (calm_as _ k.says (record { stays = refl; goes_on = refl })) m
  step (forwarded k) h m = calm_step Ready k.ready refl (calm_as _ k.says (record { stays = not_own k.method k.other; goes_on = refl })) m
  step (notes k) h m = calm_step Ready k.ready refl (calm_as _ k.says (record { stays = refl; goes_on = no_exit k.method k.going })) m
  step (tells k) h m = calm_step Ready k.ready refl (spoken_calm (message_of body) k.spoken) m
  step (cancels k) h m = calm_step Ready k.ready refl (calm_as _ k.says (record { stays = refl; goes_on = refl })) m
  step (cancels_work k) h m = calm_step Ready k.ready refl (calm_as _ k.says (record { stays = refl; goes_on = refl })) m
  step (responds k) h m = calm_step Initializing k.waiting refl (response_calm (message_of body) k.response) m
  step (resolves k) h m = calm_step Ready k.ready refl (response_calm (message_of body) k.response) m
  step (shuts k) h m = shuts_step k m
  step (exits k) h m = exits_step k h

  sent : Step before cause events s body → Within before cause events → Within before cause (events ++ said (ToServer s body) ∷ [])
  sent k m = record {
    ties = λ i still. told_more i events s body (λ same. subst (λ z. Link (stage_told (life_of z events).stage (message_of body)) (number_told (next_number z events) (message_of body)) (farewell_told (farewell z events) (message_of body))) (number_same s i same)
        (k.next (subst (λ z. parts_now before cause z ≡ false) (sym (number_same s i same)) still))) (m.ties i still);
    past = λ i on. past_more events (said (ToServer s body)) i _ (life_more i events (said (ToServer s body)))
        (either (nat_eq s i) (record { stage = stage_told (life_of i events).stage (message_of body); started = (life_of i events).started }) (life_of i events) (λ same. past_told (life_of i events).stage (message_of body) (m.past i on)) (m.past i on));
  }

-- Behind the entry the start that responded is to end

module _ (settings : Settings) (before : List Event) where
  parted_outs : (n : ℕ) (body : List ℕ) → (life_of n before).stage ≡ Stopping → answers_shutdown n before (message_of body) ≡ true → outs_of settings before (FromServer n body) ≡ ToServer n exit_text ∷ EndServer n ∷ []
  parted_outs n body at answers = rw (at, answers) refl

  parted : (cause : Cause) (s : ℕ) → parts_now before cause s ≡ true → TiedAt s (behind (with_cause before cause) (outs_of settings before cause))
  parted (FromServer n body) s on =
      let p = and_parts (nat_eq n s) (is_stopping (life_of n before).stage && responds_to (last_id (next_number n before)) (message_of body)) on in
      let q = and_parts (is_stopping (life_of n before).stage) (responds_to (last_id (next_number n before)) (message_of body)) p.1 in
      let now = with_cause before (FromServer n body) in
      subst (λ k. TiedAt k (behind now (outs_of settings before (FromServer n body)))) (number_same n s p.0)
      (subst (λ xs. TiedAt n (behind now xs)) (sym (parted_outs n body (stopping_is (life_of n before).stage q.0) (last_names (next_number n before) (message_of body) q.1)))
      (subst (TiedAt n) (append_assoc now (said (ToServer n exit_text) ∷ []) (said (EndServer n) ∷ [])) (end_more n (now ++ said (ToServer n exit_text) ∷ []))))
  parted cause s on = absurd (cc)

  all_rest : (cause : Cause) → Within before cause (behind (with_cause before cause) (outs_of settings before cause)) → Ties (behind (with_cause before cause) (outs_of settings before cause))
  all_rest cause m s = go (parts_now before cause s) refl
    where
      go : (b : Bool) → parts_now before cause s ≡ b → TiedAt s (behind (with_cause before cause) (outs_of settings before cause))
      go true on = parted cause s on
      go false still = m.ties s still

law : (settings : Settings) → RestLaw settings Ties Within
law settings = record {
  took = λ before cause fits known h. record { ties = λ s still. took_it before cause s still (h s); past = λ s on. past_took before cause s on };
  to_editor = λ before cause events e body why known here h m. within_editor before cause events m e body;
  to_server = λ before cause events s body why known here h m. sent settings before cause events s body (step settings before cause events s body why h m) m;
  close = λ before cause events e turned there known here h m. within_close before cause events m e;
  end = λ before cause events s starting known here h m. within_end before cause events m s;
  spawn = λ before cause events g inside known here h m. within_spawn before cause events m g (here.steady).starts;
  rest = λ before cause fits known h m. all_rest settings before cause m;
  turn = λ place e slow known h. record { ties = λ s still. h s; past = λ s on. absurd (cc) };
  left = λ place e slow known h m. λ s. m.ties s refl;
}

rule : (settings : Settings) → ServerRule settings Ties Within ServerRule8
rule settings = record {
  law = law settings;
  free = free;
  sent = λ before cause events s body why known here h m. (step settings before cause events s body why h m).allowed;
}

pub server_8_law : (settings : Settings) → InRange settings → (history : List Entry) → Legal settings history → KeepsServer8 history
server_8_law settings range history legal = server_history settings Ties Within ServerRule8 (rule settings) range (λ s. refl) history legal
