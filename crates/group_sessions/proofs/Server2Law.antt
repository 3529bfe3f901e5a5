-- The handshake with a start.
use Rattle.std.proofs.Common.{◌≡◌, ℕ, ◌<◌, ◌≤◌, Bool, true, false, not, ◌&&◌, cond, Option, List, [], ◌∷◌, ◌++◌, filter, map, fold, bytes_eq, codes, nat_eq, IsTrue, if◌then◌else◌, None, Some, refl, sym, ◌∙◌, ap, ap₂, subst, append-nil, append_assoc, arith}
use Rattle.std.specs.Prelude.{slice_get}
use Rattle.std.proofs.lemmas.Bool.{and_parts}
use Rattle.std.proofs.lemmas.List.Elements.{filter-append}
use Rattle.std.proofs.lemmas.List.Sums.{fold-append}
use Rattle.json_text.specs.Json.{Json}
use Rattle.mux_history.specs.declared.cause.Cause.{Cause}
use Rattle.mux_history.specs.declared.cause.Cause.TheVariants.{Joined, FromEditor, EditorGone, Started, StartFailed, FromServer, ServerGone, Drained, Tick}
use Rattle.mux_history.specs.declared.entry.Entry.{Entry}
use Rattle.mux_history.specs.declared.out.Out.{Out}
use Rattle.mux_history.specs.declared.out.Out.TheVariants.{ToEditor, ToServer, CloseEditor, EndServer, Spawn}
use Rattle.rpc_message.specs.Message.{Message, request, notification, integer, message_of}
use Rattle.rpc_message.specs.Texts.{initialized_text}
use Rattle.event_model.specs.declared.stage.Stage.{Stage}
use Rattle.event_model.specs.declared.stage.Stage.TheVariants.{Unspawned, Spawning, Initializing, Ready, Stopping, Ending, Ended}
use Rattle.event_model.specs.Event.{Event, did, heard, said, behind, with_cause, notifies, requests}
use Rattle.event_model.specs.Parts.{server_part, is_of_server}
use Rattle.event_model.specs.Settings.{Settings}
use Rattle.event_model.specs.Row.{choose, nothing, outs, each}
use Rattle.event_model.specs.Spawns.{group_of, starts_of}
use Rattle.event_model.specs.Stages.{Life, life_of, is_first_result, is_initializing, is_spawning, stage_ending, stage_hears, stage_started, stage_told}
use Rattle.event_model.proofs.Places.{item_at}
use Rattle.mux_facts.specs.Ranges.{InRange}
use Rattle.mux_facts.proofs.Folds.{life_more}
use Rattle.mux_facts.proofs.Keeps.{behind_both}
use Rattle.mux_facts.proofs.Starts.{Starts}
use Rattle.mux_facts.specs.Allowed.{is_response}
use Rattle.mux_facts.proofs.Why as single
use Rattle.mux_facts.proofs.Words.{number_same, pick, same_number}
use Rattle.session_laws.specs.ServerRules.{Handshake, KeepsServer2, ServerRule2, allows, answered, asked, handshake_behind, handshake_of, open_to_all, silent}
use Rattle.session_laws.proofs.Server2Law.{HandAt, Link, begun_hand, begun_stage, free, greeted_hand, hand, hand_more, hand_spawned, hand_took, more, still_open, tells_on, told_more}
use Rattle.group_words.specs.declared.kept.Kept.{Kept}
use Rattle.group_words.specs.Houses.{groups_of}
use Rattle.group_words.specs.Rows.{initialize_of}
use Rattle.group_rows.specs.Earlier.{differs, given_of, part_row, shown_in}
use Rattle.group_rows.specs.Rows.{outs_of, result_in}
use Rattle.group_facts.specs.Facts.{Housed, IsHoused, IsWritten, Written, is_unready}
use Rattle.group_rows.proofs.Going.{no_initialized}
use Rattle.group_facts.specs.Legal.{Legal}
use Rattle.group_facts.specs.Why.{Turn, WhyToServer, begins, greets, conveys, forwarded, notes, tells, shuts, cancels, stays, greeted, moves, responds, exits, resolves, cancels_work, Going, at_once, had_waited}
use Rattle.group_facts.proofs.Forwards.{get_all}
use Rattle.group_facts.proofs.Facts.{Facts}
use Rattle.group_facts.proofs.RestLaws.{RestLaw}
use Rattle.group_sessions.proofs.PartLaws.{ServerRule, server_history}
use Rattle.group_rows.specs.Waiting.{part}
use Rattle.group_facts.proofs.HeldOuts.{parts_by}
use Rattle.mux_facts.proofs.Reasons.{reasons_keep}

-- The start that moves on in an entry: whose program begins, or that answers its `initialize`

-- it answered its `initialize`, and isn't Ending or Ended
abbrev is_greeted : Stage → Bool
is_greeted Ready = true
is_greeted Stopping = true
is_greeted other = false

-- what is known of its stage inside of the entry
abbrev Moved : Cause → Stage → Type 0
Moved (Started n) stage = is_greeted stage ≡ false
Moved (FromServer n body) stage = is_unready stage ≡ false
Moved other stage = Unit {0}

abbrev Hands : List Event → Type 0
Hands events = (s : ℕ) → HandAt s events

-- inside of an entry all starts but that one are tied
record Within (before : List Event) (cause : Cause) (events : List Event) : Type 0 where
  hands : (s : ℕ) → moves before cause s ≡ false → HandAt s events
  moved : (s : ℕ) → moves before cause s ≡ true → Moved cause (life_of s events).stage

-- A cause

same_moves : (before : List Event) (cause : Cause) (s : ℕ) → single.moves before cause s ≡ moves before cause s
same_moves before (Started n) s = refl
same_moves before (FromServer n body) s = refl
same_moves before (Joined e) s = refl
same_moves before (FromEditor e body) s = refl
same_moves before (EditorGone e why) s = refl
same_moves before (StartFailed n) s = refl
same_moves before (ServerGone n) s = refl
same_moves before (Drained e k) s = refl
same_moves before (Tick t) s = refl

spawning_is : (stage : Stage) → is_spawning stage ≡ true → stage ≡ Spawning
spawning_is Spawning h = refl
spawning_is Unspawned h = absurd (cc)
spawning_is Initializing h = absurd (cc)
spawning_is Ready h = absurd (cc)
spawning_is Stopping h = absurd (cc)
spawning_is Ending h = absurd (cc)
spawning_is Ended h = absurd (cc)

initializing_is : (stage : Stage) → is_initializing stage ≡ true → stage ≡ Initializing
initializing_is Initializing h = refl
initializing_is Unspawned h = absurd (cc)
initializing_is Spawning h = absurd (cc)
initializing_is Ready h = absurd (cc)
initializing_is Stopping h = absurd (cc)
initializing_is Ending h = absurd (cc)
initializing_is Ended h = absurd (cc)

moved_took : (before : List Event) (cause : Cause) (s : ℕ) → moves before cause s ≡ true → Moved cause (life_of s (with_cause before cause)).stage
moved_took before (Started n) s h =
    let p = and_parts (nat_eq n s) (is_spawning (life_of n before).stage) h in
    ap (λ (l : Life). is_greeted l.stage) (life_more s before (heard (Started n)))
    ∙ ap (λ b. is_greeted (if b then record { stage = stage_started (life_of s before).stage; started = true } else life_of s before).stage) p.0
    ∙ ap (λ z. is_greeted (stage_started z)) (spawning_is (life_of s before).stage (subst (λ k. is_spawning (life_of k before).stage ≡ true) (number_same n s p.0) p.1))
moved_took before (FromServer n body) s h =
    let p = and_parts (nat_eq n s) (is_initializing (life_of n before).stage && is_first_result (message_of body)) h in
    let q = and_parts (is_initializing (life_of n before).stage) (is_first_result (message_of body)) p.1 in
    ap (λ (l : Life). is_unready l.stage) (life_more s before (heard (FromServer n body)))
    ∙ ap (λ b. is_unready (if b then record { stage = stage_hears (life_of s before).stage (message_of body); started = (life_of s before).started } else life_of s before).stage) p.0
    ∙ ap (λ z. is_unready (stage_hears z (message_of body))) (initializing_is (life_of s before).stage (subst (λ k. is_initializing (life_of k before).stage ≡ true) (number_same n s p.0) q.0))
    ∙ ap (λ b. is_unready (if b then Ready else Initializing)) q.1
moved_took before cause s h = absurd (cc)

-- Outs

ungreeted_told : (stage : Stage) (m : Message) → is_greeted stage ≡ false → is_greeted (stage_told stage m) ≡ false
ungreeted_told Ready m h = absurd (cc)
ungreeted_told other m h = h

past_told : (stage : Stage) (m : Message) → is_unready stage ≡ false → is_unready (stage_told stage m) ≡ false
past_told Ready m h = go (requests (codes "shutdown") m)
  where
    go : (b : Bool) → is_unready (if b then Stopping else Ready) ≡ false
    go true = refl
    go false = refl
past_told other m h = h

moved_told : (cause : Cause) (stage : Stage) (m : Message) → Moved cause stage → Moved cause (stage_told stage m)
moved_told (Started n) stage m h = ungreeted_told stage m h
moved_told (FromServer n body) stage m h = past_told stage m h
moved_told cause stage m h = tt

ungreeted_ending : (stage : Stage) → is_greeted (stage_ending stage) ≡ false
ungreeted_ending Ended = refl
ungreeted_ending other = refl

past_ending : (stage : Stage) → is_unready (stage_ending stage) ≡ false
past_ending Ended = refl
past_ending other = refl

moved_ending : (cause : Cause) (stage : Stage) → Moved cause (stage_ending stage)
moved_ending (Started n) stage = ungreeted_ending stage
moved_ending (FromServer n body) stage = past_ending stage
moved_ending cause stage = tt

moved_spawned : (cause : Cause) (stage : Stage) → stage ≡ Unspawned → Moved cause stage → Moved cause Spawning
moved_spawned (Started n) stage at h = refl
moved_spawned (FromServer n body) stage at h = absurd (let past : is_unready Unspawned ≡ false = ap is_unready (sym at) ∙ h in cc)
moved_spawned cause stage at h = tt

either : (cause : Cause) (b : Bool) (x y : Life) → (b ≡ true → Moved cause x.stage) → Moved cause y.stage → Moved cause (if b then x else y).stage
either cause true x y f h = f refl
either cause false x y f h = h

moved_more : (cause : Cause) (events : List Event) (event : Event) (s : ℕ) (life : Life) → life_of s (events ++ event ∷ []) ≡ life → Moved cause life.stage → Moved cause (life_of s (events ++ event ∷ [])).stage
moved_more cause events event s life is h = subst (λ (l : Life). Moved cause l.stage) (sym is) h

ending_link : (stage : Stage) (w : Handshake) → Link (stage_ending stage) w
ending_link Ended w = tt
ending_link other w = tt

module _ (before : List Event) (cause : Cause) (events : List Event) (h : Within before cause events) where
  -- an out that leaves the starts alone
  within_editor : (e : ℕ) (body : List ℕ) → Within before cause (events ++ said (ToEditor e body) ∷ [])
  within_editor e body = record { hands = λ s still. more s events (said (ToEditor e body)) (h.hands s still); moved = λ s on. moved_more cause events (said (ToEditor e body)) s (life_of s events) (life_more s events (said (ToEditor e body))) (h.moved s on) }

  within_close : (e : ℕ) → Within before cause (events ++ said (CloseEditor e) ∷ [])
  within_close e = record { hands = λ s still. more s events (said (CloseEditor e)) (h.hands s still); moved = λ s on. moved_more cause events (said (CloseEditor e)) s (life_of s events) (life_more s events (said (CloseEditor e))) (h.moved s on) }

  within_end : (n : ℕ) → Within before cause (events ++ said (EndServer n) ∷ [])
  within_end n = record {
    hands = λ s still. more s events (said (EndServer n)) (pick Link (nat_eq n s) (record { stage = stage_ending (life_of s events).stage; started = (life_of s events).started }) (life_of s events) _ (hand s events) (λ same. ending_link (life_of s events).stage _) (h.hands s still));
    moved = λ s on. moved_more cause events (said (EndServer n)) s _ (life_more s events (said (EndServer n)))
        (either cause (nat_eq n s) (record { stage = stage_ending (life_of s events).stage; started = (life_of s events).started }) (life_of s events) (λ same. moved_ending cause (life_of s events).stage) (h.moved s on));
  }

  within_spawn : (g : ℕ) → Starts events → Within before cause (events ++ said (Spawn (starts_of events) g) ∷ [])
  within_spawn g none = record {
    hands = λ s still. hand_spawned events g s none (h.hands s still);
    moved = λ s on. moved_more cause events (said (Spawn (starts_of events) g)) s _ (life_more s events (said (Spawn (starts_of events) g)))
        (either cause (nat_eq (starts_of events) s) (record { stage = Spawning; started = false }) (life_of s events)
        (λ same. moved_spawned cause (life_of s events).stage (ap (λ (l : Life). l.stage) (none s (omega (arith, number_same (starts_of events) s same)))) (h.moved s on)) (h.moved s on));
  }

-- A body to a start

-- what stands there, and what comes of it where the entry doesn't move it
record Step (before : List Event) (cause : Cause) (events : List Event) (s : ℕ) (body : List ℕ) : Type 0 where
  allowed : IsTrue (allows (hand s events) (message_of body))
  next : moves before cause s ≡ false → Link (stage_told (life_of s events).stage (message_of body)) (handshake_behind (hand s events) (said (ToServer s body)))

open_absorbs : (events : List Event) → fold handshake_behind open_to_all events ≡ open_to_all
open_absorbs [] = refl
open_absorbs (event ∷ events) = open_absorbs events

-- a request to a start that is open to all
asked_on : (w : Handshake) (n : ℕ) (body : List ℕ) (m : Message) (number method : List ℕ) (params : Option Json) → m ≡ request (integer number) method params → w ≡ open_to_all → IsTrue (allows w m) × Link (stage_told Ready m) (handshake_behind w (did (ToServer n body) m))
asked_on w n body m number method params says h = (ap₂ allows h says, still_open (requests (codes "shutdown") m) (handshake_behind w (did (ToServer n body) m)) (ap (λ z. handshake_behind z (did (ToServer n body) m)) h))

-- a notification that isn't `initialized`, likewise
noted_on : (w : Handshake) (n : ℕ) (body : List ℕ) (m : Message) (method : List ℕ) (params : Option Json) → m ≡ notification method params → bytes_eq (codes "initialized") method ≡ false → w ≡ open_to_all → IsTrue (allows w m) × Link (stage_told Ready m) (handshake_behind w (did (ToServer n body) m))
noted_on w n body m method params says other h = (ap₂ allows h says ∙ ap not other, still_open (requests (codes "shutdown") m) (handshake_behind w (did (ToServer n body) m)) (ap (λ z. handshake_behind z (did (ToServer n body) m)) h))

-- nor is a response that notification
response_open : (m : Message) → is_response m ≡ true → not (notifies (codes "initialized") m) ≡ true
response_open (notification method params) h = absurd (cc)
response_open other h = refl

module _ (settings : Settings) (range : InRange settings) (before : List Event) (cause : Cause) (events : List Event) (s : ℕ) (body : List ℕ) where
  abbrev OpenStep : Type 0
  OpenStep = hand s events ≡ open_to_all → IsTrue (allows (hand s events) (message_of body)) × Link (stage_told Ready (message_of body)) (handshake_behind (hand s events) (said (ToServer s body)))

  open_step : (life_of s events).stage ≡ Ready → hand s events ≡ open_to_all → OpenStep → Step before cause events s body
  open_step ready open_now f = let k = f open_now in record { allowed = k.0; next = λ still. subst (λ z. Link (stage_told z (message_of body)) (handshake_behind (hand s events) (said (ToServer s body)))) (sym ready) k.1 }

  ready_step : (life_of s events).stage ≡ Ready → moves before cause s ≡ false → Within before cause events → OpenStep → Step before cause events s body
  ready_step ready still m f = open_step ready (subst (λ z. Link z (hand s events)) ready (m.hands s still)) f

  -- behind its greeting it is open
  greeted_open : (c : Cause) → cause ≡ c → (xs : List Event) → server_part s events ≡ server_part s before ++ heard cause ∷ said (ToServer s initialized_text) ∷ xs → (life_of s events).stage ≡ Ready → moves before c s ≡ true → Hands before → Moved c (life_of s events).stage
      → hand s events ≡ open_to_all
  greeted_open (FromServer n answer) from xs part ready on h moved =
      let p = and_parts (nat_eq n s) (is_initializing (life_of n before).stage && is_first_result (message_of answer)) on in
      let q = and_parts (is_initializing (life_of n before).stage) (is_first_result (message_of answer)) p.1 in
      let was : hand s before ≡ asked = subst (λ z. Link z (hand s before)) (initializing_is (life_of s before).stage (subst (λ k. is_initializing (life_of k before).stage ≡ true) (number_same n s p.0) q.0)) (h s) in
      ap handshake_of part ∙ ap (λ c. handshake_of (server_part s before ++ heard c ∷ said (ToServer s initialized_text) ∷ xs)) from
      ∙ fold-append handshake_behind silent (server_part s before) (heard (FromServer n answer) ∷ said (ToServer s initialized_text) ∷ xs)
      ∙ ap (λ w. fold handshake_behind (handshake_behind (handshake_behind w (heard (FromServer n answer))) (said (ToServer s initialized_text))) xs) was
      ∙ ap (λ b. fold handshake_behind (handshake_behind (if b then answered else asked) (said (ToServer s initialized_text))) xs) q.1
      ∙ open_absorbs xs
  greeted_open (Started n) from xs part ready on h moved = absurd (let ungreeted : is_greeted Ready ≡ false = ap is_greeted (sym ready) ∙ moved in cc)
  greeted_open c from xs part ready on h moved = absurd (cc)

  told_step : (life_of s events).stage ≡ Ready → Turn before cause events s → Hands before → Within before cause events → OpenStep → Step before cause events s body
  told_step ready turn h m f = go turn
    where
      go : Turn before cause events s → Step before cause events s body
      go (stays still) = ready_step ready still m f
      go (greeted xs part) = either_way (moves before cause s) refl
        where
          either_way : (b : Bool) → moves before cause s ≡ b → Step before cause events s body
          either_way false still = ready_step ready still m f
          either_way true on = open_step ready (greeted_open cause refl xs part ready on h (m.moved s on)) f

  step : WhyToServer settings before cause events s body → Hands before → Within before cause events → Step before cause events s body
  step (begins k) h m =
      let now : hand s events ≡ silent = ap (hand s) (k.place ∙ ap (with_cause before) k.from) ∙ begun_hand before s (subst (λ z. Link z (hand s before)) k.stage (h s)) in
      let moving : moves before cause s ≡ true = ap (λ c. moves before c s) k.from ∙ ap₂ (λ a z. a && is_spawning z) (same_number s) k.stage in
      record { allowed = ap₂ allows now k.says; next = λ still. absurd (cc) }
  step (greets k) h m =
      let heard_part : server_part s (with_cause before (FromServer s k.answer)) ≡ server_part s before ++ heard (FromServer s k.answer) ∷ [] = filter-append (is_of_server s) before (heard (FromServer s k.answer) ∷ [])
      ∙ ap (λ b. server_part s before ++ cond b (heard (FromServer s k.answer) ∷ []) []) (same_number s) in
      let now : hand s events ≡ answered = ap handshake_of (k.part ∙ (ap (λ c. server_part s before ++ heard c ∷ []) k.from ∙ sym heard_part)) ∙ greeted_hand before s k.answer k.first (subst (λ z. Link z (hand s before)) k.stage (h s)) in
      let moving : moves before cause s ≡ true = ap (λ c. moves before c s) k.from ∙ ap₂ (λ a z. a && (is_initializing z && is_first_result (message_of k.answer))) (same_number s) k.stage ∙ k.first in
      record { allowed = ap₂ allows now k.says; next = λ still. absurd (cc) }
  step (forwarded k) h m = told_step k.ready (turn_by k.going) h m (λ o. asked_on (hand s events) s body (message_of body) _ k.method k.params k.says o)
    where
      turn_by : Going settings before cause events s (k.sender).editor k.asked → Turn before cause events s
      turn_by (at_once from sync) = stays (ap (λ c. moves before c s) from)
      turn_by (had_waited w) = w.turn
  step (notes k) h m = ready_step k.ready (ap (λ c. moves before c s) k.from) m (λ o. noted_on (hand s events) s body (message_of body) k.method k.params k.says (no_initialized k.method k.going) o)
  step (conveys k) h m = told_step k.ready k.turn h m (λ o. noted_on (hand s events) s body (message_of body) (codes "workspace/didChangeConfiguration") k.params k.says refl o)
  step (tells k) h m = told_step k.ready k.turn h m (λ o. tells_on settings range (hand s events) s body (message_of body) k.spoken o)
  step (cancels k) h m = ready_step k.ready k.stays m (λ o. (ap₂ allows o k.says, still_open (requests (codes "shutdown") (message_of body)) (handshake_behind (hand s events) (said (ToServer s body))) (ap (λ z. handshake_behind z (said (ToServer s body))) o)))
  step (cancels_work k) h m = ready_step k.ready k.stays m (λ o. (ap₂ allows o k.says, still_open (requests (codes "shutdown") (message_of body)) (handshake_behind (hand s events) (said (ToServer s body))) (ap (λ z. handshake_behind z (said (ToServer s body))) o)))
  step (responds k) h m =
      let asking : hand s events ≡ asked = subst (λ z. Link z (hand s events)) k.waiting (m.hands s k.stays) in
      record {
        allowed = ap (λ w. allows w (message_of body)) asking ∙ k.response;
        next = λ still. subst (λ z. Link (stage_told z (message_of body)) (handshake_behind (hand s events) (said (ToServer s body)))) (sym k.waiting) (ap (λ w. handshake_behind w (said (ToServer s body))) asking);
      }
  step (resolves k) h m = ready_step k.ready k.stays m (λ o. (
    ap (λ w. allows w (message_of body)) o ∙ response_open (message_of body) k.response,
    still_open (requests (codes "shutdown") (message_of body)) (handshake_behind (hand s events) (said (ToServer s body))) (ap (λ z. handshake_behind z (said (ToServer s body))) o),
  ))
  step (shuts k) h m = ready_step k.ready k.stays m (λ o. asked_on (hand s events) s body (message_of body) _ (codes "shutdown") None k.says o)
  step (exits k) h m =
      let still : moves before cause s ≡ false = ap (λ c. moves before c s) k.from ∙ ap₂ (λ a z. a && (is_initializing z && is_first_result (message_of k.answer))) (same_number s) k.stage in
      let now : hand s events ≡ open_to_all = subst (λ z. Link z (hand s events)) k.stopping (m.hands s still) in
      record {
        allowed = ap₂ allows now k.says;
        next = λ still. subst (λ z. Link (stage_told z (message_of body)) (handshake_behind (hand s events) (said (ToServer s body)))) (sym k.stopping) (ap (λ z. handshake_behind z (said (ToServer s body))) now);
      }

  sent : Step before cause events s body → Within before cause events → Within before cause (events ++ said (ToServer s body) ∷ [])
  sent k m = record {
    hands = λ i still. more i events (said (ToServer s body)) (pick Link (nat_eq s i) (record { stage = stage_told (life_of i events).stage (message_of body); started = (life_of i events).started }) (life_of i events) _ (hand i events)
        (λ same. subst (λ z. Link (stage_told (life_of z events).stage (message_of body)) (handshake_behind (hand z events) (said (ToServer s body)))) (number_same s i same)
        (k.next (subst (λ z. moves before cause z ≡ false) (sym (number_same s i same)) still))) (m.hands i still));
    moved = λ i on. moved_more cause events (said (ToServer s body)) i _ (life_more i events (said (ToServer s body)))
        (either cause (nat_eq s i) (record { stage = stage_told (life_of i events).stage (message_of body); started = (life_of i events).started }) (life_of i events) (λ same. moved_told cause (life_of i events).stage (message_of body) (m.moved i on)) (m.moved i on));
  }

-- Behind the entry the start that moved on is tied as well

-- a start with a life was spawned
was_spawned : (events : List Event) (s : ℕ) → Starts events → ((life_of s events).stage ≡ Unspawned → ⊥) → s < starts_of events
was_spawned events s none some = within (λ le. some (ap (λ (l : Life). l.stage) (none s le)))
  where
    within : (starts_of events ≤ s → ⊥) → s < starts_of events
    within f = omega (arith, f)

module _ (settings : Settings) (before : List Event) (n : ℕ) (none : Starts before) (housed : Housed settings before) where
  -- the daemon's own `initialize` is sent
  begun_sends : (g : ℕ) (x : Kept) → (life_of n before).stage ≡ Spawning → group_of n before ≡ Some g → slice_get (groups_of settings before) g ≡ Some x → outs_of settings before (Started n) ≡ ToServer n (initialize_of x) ∷ []
  begun_sends g x at home item = rw (at, home, item) refl

  begun_rests : Written settings before → (life_of n before).stage ≡ Spawning → hand n before ≡ silent → HandAt n (behind (with_cause before (Started n)) (outs_of settings before (Started n)))
  begun_rests written at h =
      let home : IsHoused settings n before = housed n (was_spawned before n none (λ unspawned. let other : Spawning ≡ Unspawned = sym at ∙ unspawned in cc)) in
      let item : (x : Kept) × (slice_get (groups_of settings before) home.group ≡ Some x) = item_at (groups_of settings before) home.group home.kept in
      let k : IsWritten item.0 = get_all IsWritten (groups_of settings before) home.group item.0 written item.1 in
      subst (λ xs. HandAt n (behind (with_cause before (Started n)) xs)) (sym (begun_sends home.group item.0 at home.is item.1))
      (told_more n (with_cause before (Started n)) (initialize_of item.0) Initializing silent (request (integer (codes "1")) (codes "initialize") k.params) (begun_stage before n at) (begun_hand before n h) k.says (refl {a = asked}))

  past_link : (stage : Stage) (w : Handshake) → is_unready stage ≡ false → w ≡ open_to_all → Link stage w
  past_link Unspawned w past h = absurd (cc)
  past_link Spawning w past h = absurd (cc)
  past_link Initializing w past h = absurd (cc)
  past_link Ready w past h = h
  past_link Stopping w past h = h
  past_link Ending w past h = tt
  past_link Ended w past h = tt

  open_later : (events : List Event) (outs : List Out) → hand n events ≡ open_to_all → hand n (behind events outs) ≡ open_to_all
  open_later events outs h = ap handshake_of (filter-append (is_of_server n) events (map said outs)) ∙ fold-append handshake_behind silent (server_part n events) (filter (is_of_server n) (map said outs))
      ∙ ap (λ w. fold handshake_behind w (filter (is_of_server n) (map said outs))) h ∙ open_absorbs (filter (is_of_server n) (map said outs))

  -- `initialized` is sent first
  module _ (body : List ℕ) (at : (life_of n before).stage ≡ Initializing) (first : is_first_result (message_of body) ≡ true) where
    abbrev now : List Event
    now = with_cause before (FromServer n body)

    -- behind bodies to editors, and the links that are to be ended
    abbrev IsAside : Out → Type 0
    IsAside (ToEditor e text) = Unit {0}
    IsAside (CloseEditor e) = Unit {0}
    IsAside out = ⊥

    aside_hand : (events : List Event) (out : Out) → IsAside out → hand n events ≡ hand n now → hand n (events ++ said out ∷ []) ≡ hand n now
    aside_hand events (ToEditor e text) aside h = ap handshake_of (filter-append (is_of_server n) events (said (ToEditor e text) ∷ []) ∙ append-nil (server_part n events)) ∙ h
    aside_hand events (CloseEditor e) aside h = ap handshake_of (filter-append (is_of_server n) events (said (CloseEditor e) ∷ []) ∙ append-nil (server_part n events)) ∙ h
    aside_hand events (ToServer s text) aside h = absurd aside
    aside_hand events (Spawn s g) aside h = absurd aside
    aside_hand events (EndServer s) aside h = absurd aside

    abbrev partings : ℕ → List Out
    partings g = outs (part_row settings before body g) now

    parted_hand : (g : ℕ) → hand n (behind now (partings g)) ≡ hand n now
    parted_hand g = go (differs (given_of g before) body)
      where
        go : (b : Bool) → hand n (behind now (outs (choose b (each (part settings g) (shown_in settings g before)) nothing) now)) ≡ hand n now
        go true = reasons_keep (λ places out. IsAside out) (λ places. hand n places ≡ hand n now) aside_hand now (outs (each (part settings g) (shown_in settings g before)) now)
            (parts_by settings (λ places out. IsAside out) g (λ e places text. tt) (λ e places. tt) (shown_in settings g before) now).why refl
        go false = ap (hand n) (append-nil now)

    result_outs : (g : ℕ) → (rest : List Out) × (outs (result_in settings before n body g) now ≡ partings g ++ ToServer n initialized_text ∷ rest)
    result_outs g = (_, refl)

    result_sends : (g : ℕ) → group_of n before ≡ Some g → outs_of settings before (FromServer n body) ≡ outs (result_in settings before n body g) now
    result_sends g home = rw (at, first, home) refl

    greeting : (g : ℕ) × ((rest : List Out) × (outs_of settings before (FromServer n body) ≡ partings g ++ ToServer n initialized_text ∷ rest))
    greeting = let home : IsHoused settings n before = housed n (was_spawned before n none (λ unspawned. let other : Initializing ≡ Unspawned = sym at ∙ unspawned in cc)) in
        let r = result_outs home.group in (home.group, (r.0, result_sends home.group home.is ∙ r.1))

    greeted_rests : hand n before ≡ asked → is_unready (life_of n (behind now (outs_of settings before (FromServer n body)))).stage ≡ false → HandAt n (behind now (outs_of settings before (FromServer n body)))
    greeted_rests h past = past_link (life_of n (behind now (outs_of settings before (FromServer n body)))).stage _ past
        (ap (λ xs. hand n (behind now xs)) greeting.1.1
        ∙ (ap (hand n) (behind_both now (partings greeting.0) (ToServer n initialized_text ∷ greeting.1.0) ∙ sym (append_assoc mid (said (ToServer n initialized_text) ∷ []) (map said greeting.1.0)))
        ∙ open_later (mid ++ said (ToServer n initialized_text) ∷ []) greeting.1.0
        (hand_more n mid (said (ToServer n initialized_text)) ∙ (ap (λ b. cond b (handshake_behind (hand n mid) (said (ToServer n initialized_text))) (hand n mid)) (same_number n)
        ∙ ap (λ w. handshake_behind w (said (ToServer n initialized_text))) (parted_hand greeting.0 ∙ greeted_hand before n body first h)))))
      where
        mid : List Event
        mid = behind now (partings greeting.0)

module _ (settings : Settings) (before : List Event) where
  abbrev after : Cause → List Event
  after cause = behind (with_cause before cause) (outs_of settings before cause)

  moved_rests : (cause : Cause) → Facts settings before → Hands before → (s : ℕ) → moves before cause s ≡ true → Moved cause (life_of s (after cause)).stage → HandAt s (after cause)
  moved_rests (Started n) known h s on moved =
      let p = and_parts (nat_eq n s) (is_spawning (life_of n before).stage) on in
      let at : (life_of n before).stage ≡ Spawning = spawning_is (life_of n before).stage p.1 in
      subst (λ k. HandAt k (after (Started n))) (number_same n s p.0) (begun_rests settings before n (known.steady).starts (known.steady).housed (known.base).written at (subst (λ z. Link z (hand n before)) at (h n)))
  moved_rests (FromServer n body) known h s on moved =
      let p = and_parts (nat_eq n s) (is_initializing (life_of n before).stage && is_first_result (message_of body)) on in
      let q = and_parts (is_initializing (life_of n before).stage) (is_first_result (message_of body)) p.1 in
      let at : (life_of n before).stage ≡ Initializing = initializing_is (life_of n before).stage q.0 in
      let past : is_unready (life_of n (after (FromServer n body))).stage ≡ false = subst (λ k. is_unready (life_of k (after (FromServer n body))).stage ≡ false) (sym (number_same n s p.0)) moved in
      subst (λ k. HandAt k (after (FromServer n body))) (number_same n s p.0) (greeted_rests settings before n (known.steady).starts (known.steady).housed body at q.1 (subst (λ z. Link z (hand n before)) at (h n)) past)
  moved_rests cause known h s on moved = absurd (cc)

  all_rest : (cause : Cause) → Facts settings before → Hands before → Within before cause (after cause) → Hands (after cause)
  all_rest cause known h m s = go (moves before cause s) refl
    where
      go : (b : Bool) → moves before cause s ≡ b → HandAt s (after cause)
      go true on = moved_rests cause known h s on (m.moved s on)
      go false still = m.hands s still

law : (settings : Settings) → InRange settings → RestLaw settings Hands Within
law settings range = record {
  took = λ before cause fits known h. record { hands = λ s still. hand_took before cause s (same_moves before cause s ∙ still) (h s); moved = λ s on. moved_took before cause s on };
  to_editor = λ before cause events e body why known here h m. within_editor before cause events m e body;
  to_server = λ before cause events s body why known here h m. sent settings range before cause events s body (step settings range before cause events s body why h m) m;
  close = λ before cause events e turned there known here h m. within_close before cause events m e;
  end = λ before cause events s starting known here h m. within_end before cause events m s;
  spawn = λ before cause events g inside known here h m. within_spawn before cause events m g (here.steady).starts;
  rest = λ before cause fits known h m. all_rest settings before cause known h m;
  turn = λ place e slow known h. record { hands = λ s still. h s; moved = λ s on. absurd (cc) };
  left = λ place e slow known h m. λ s. m.hands s refl;
}

rule : (settings : Settings) → InRange settings → ServerRule settings Hands Within ServerRule2
rule settings range = record {
  law = law settings range;
  free = free;
  sent = λ before cause events s body why known here h m. (step settings range before cause events s body why h m).allowed;
}

pub server_2_law : (settings : Settings) → InRange settings → (history : List Entry) → Legal settings history → KeepsServer2 history
server_2_law settings range history legal = server_history settings Hands Within ServerRule2 (rule settings range) range (λ s. refl) history legal
