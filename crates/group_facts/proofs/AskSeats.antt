-- The editors that a start asked run, in the group whose last start it is: an entry in which one leaves refuses what it was asked (L1).
use Rattle.std.proofs.Common.{◌≡◌, ℕ, Bool, true, false, not, ◌||◌, List, [], ◌∷◌, ◌++◌, filter, map, nat_eq, if◌then◌else◌, Some, None, refl, sym, ◌∙◌, ap, ap₂, subst, append-nil, append_assoc}
use Rattle.std.specs.List.{AllByRecursion, list_any}
use Rattle.mux_history.specs.declared.cause.Cause.{Cause}
use Rattle.mux_history.specs.declared.cause.Cause.TheVariants.{Joined, FromEditor, EditorGone, Started, StartFailed, FromServer, ServerGone, Drained, Tick}
use Rattle.mux_history.specs.declared.out.Out.{Out}
use Rattle.mux_history.specs.declared.out.Out.TheVariants.{ToEditor, ToServer, Spawn, CloseEditor, EndServer}
use Rattle.rpc_message.specs.Message.{message_of, same_id}
use Rattle.rpc_message.specs.Texts.{request_failed}
use Rattle.rpc_message.specs.ValueTexts.{IsIdText}
use Rattle.rpc_message.proofs.Fixed.{error_law, id_as_response}
use Rattle.event_model.specs.declared.phase.Phase.TheVariants.{Running}
use Rattle.event_model.specs.declared.stage.Stage.TheVariants.{Ready}
use Rattle.event_model.specs.Event.{Event, behind, heard, said, with_cause}
use Rattle.event_model.specs.Phases.{desk_of, is_new}
use Rattle.event_model.specs.Requests.{answered_id}
use Rattle.event_model.specs.Settings.{Settings}
use Rattle.event_model.specs.Spawns.{start_of}
use Rattle.event_model.specs.Stages.{life_of}
use Rattle.event_model.proofs.Frames.{never}
use Rattle.mux_facts.proofs.Lists.{all_filtered, all_of}
use Rattle.mux_facts.proofs.Words.{same_number}
use Rattle.group_words.specs.Houses.{home_of}
use Rattle.group_rows.specs.Asks.{Ask, Asking, asker_of, asking_next, asking_of, asks_of, idle_asking, is_seated, is_under, no_asking, parked_of, parks, waits_under}
use Rattle.group_facts.specs.Facts.{leaves}
use Rattle.group_facts.proofs.Asks.{asking_more, is_question, id_apart, unasked, unless_not}
use Rattle.group_facts.proofs.LeaveRows.{refusal_of}

-- What holds of asks, behind events that ask nothing more

pub asks_more : (settings : Settings) (P : Ask → Type 0) (s : ℕ) (events : List Event) (event : Event) (xs : List Ask) → (asking_next settings s events (asking_of settings s events) event).asks ≡ xs → AllByRecursion P xs → AllByRecursion P (asks_of settings s (events ++ event ∷ []))
asks_more settings P s events event xs is h = subst (AllByRecursion P) (sym (ap (λ (x : Asking). x.asks) (asking_more settings s events event) ∙ is)) h

all_tested : (P : Ask → Type 0) (test : Ask → Bool) (xs : List Ask) → AllByRecursion P xs → AllByRecursion P (filter test xs)
all_tested P test xs h = all_filtered P P test (λ a t k. k) xs h

ended_all : (settings : Settings) (P : Ask → Type 0) (s : ℕ) (events : List Event) (event : Event) (b : Bool) → (asking_next settings s events (asking_of settings s events) event).asks ≡ (if b then no_asking else idle_asking (asking_of settings s events)).asks → AllByRecursion P (asks_of settings s events) → AllByRecursion P (asks_of settings s (events ++ event ∷ []))
ended_all settings P s events event true is h = asks_more settings P s events event [] is tt
ended_all settings P s events event false is h = asks_more settings P s events event (asks_of settings s events) is h

pub took_all : (settings : Settings) (P : Ask → Type 0) (s : ℕ) (events : List Event) (cause : Cause) → AllByRecursion P (asks_of settings s events) → AllByRecursion P (asks_of settings s (with_cause events cause))
took_all settings P s events (FromEditor e body) h = asks_more settings P s events (heard (FromEditor e body)) (filter (λ a. not (is_seated e (answered_id (message_of body)) a)) (asks_of settings s events)) refl (all_tested P (λ a. not (is_seated e (answered_id (message_of body)) a)) (asks_of settings s events) h)
took_all settings P s events (StartFailed n) h = ended_all settings P s events (heard (StartFailed n)) (nat_eq n s) refl h
took_all settings P s events (ServerGone n) h = ended_all settings P s events (heard (ServerGone n)) (nat_eq n s) refl h
took_all settings P s events (FromServer n body) h = asks_more settings P s events (heard (FromServer n body)) (asks_of settings s events) (go (nat_eq n s)) h
  where
    go : (b : Bool) → (if b then record { asker = asker_of body (message_of body); runs = None; asks = asks_of settings s events; parked = parked_of settings s events ++ parks settings s events (asking_of settings s events) body (message_of body) } else idle_asking (asking_of settings s events)).asks ≡ asks_of settings s events
    go true = refl
    go false = refl
took_all settings P s events (Joined e) h = asks_more settings P s events (heard (Joined e)) (asks_of settings s events) refl h
took_all settings P s events (EditorGone e why) h = asks_more settings P s events (heard (EditorGone e why)) (asks_of settings s events) refl h
took_all settings P s events (Started n) h = asks_more settings P s events (heard (Started n)) (asks_of settings s events) refl h
took_all settings P s events (Drained e n) h = asks_more settings P s events (heard (Drained e n)) (asks_of settings s events) refl h
took_all settings P s events (Tick t) h = asks_more settings P s events (heard (Tick t)) (asks_of settings s events) refl h

-- no body to an editor
abbrev pub Unsaid : Out → Type 0
Unsaid (ToEditor e body) = is_question (message_of body) ≡ false
Unsaid other = Unit {0}

pub did_all : (settings : Settings) (P : Ask → Type 0) (s : ℕ) (events : List Event) (out : Out) → Unsaid out → AllByRecursion P (asks_of settings s events) → AllByRecursion P (asks_of settings s (events ++ said out ∷ []))
did_all settings P s events (ToEditor e body) none h = asks_more settings P s events (said (ToEditor e body)) (asks_of settings s events) (ap (λ (x : Asking). x.asks) (unasked settings s e events (asking_of settings s events) body (message_of body) none)) h
did_all settings P s events (ToServer n body) none h = go (nat_eq n s) refl
  where
    go : (b : Bool) → nat_eq n s ≡ b → AllByRecursion P (asks_of settings s (events ++ said (ToServer n body) ∷ []))
    go true same = asks_more settings P s events (said (ToServer n body)) (filter (λ a. not (is_under (answered_id (message_of body)) a)) (asks_of settings s events)) (rw same refl) (all_tested P (λ a. not (is_under (answered_id (message_of body)) a)) (asks_of settings s events) h)
    go false other = asks_more settings P s events (said (ToServer n body)) (asks_of settings s events) (rw other refl) h
did_all settings P s events (Spawn n g) none h = asks_more settings P s events (said (Spawn n g)) (asks_of settings s events) refl h
did_all settings P s events (CloseEditor e) none h = asks_more settings P s events (said (CloseEditor e)) (asks_of settings s events) refl h
did_all settings P s events (EndServer n) none h = asks_more settings P s events (said (EndServer n)) (asks_of settings s events) refl h

pub bodies_all : (settings : Settings) (P : Ask → Type 0) (s n : ℕ) (events : List Event) (bodies : List (List ℕ)) → AllByRecursion P (asks_of settings s events) → AllByRecursion P (asks_of settings s (behind events (map (λ b. ToServer n b) bodies)))
bodies_all settings P s n events [] h = subst (λ z. AllByRecursion P (asks_of settings s z)) (sym (append-nil events)) h
bodies_all settings P s n events (b ∷ bodies) h = subst (λ z. AllByRecursion P (asks_of settings s z)) (append_assoc events (said (ToServer n b) ∷ []) (map said (map (λ b. ToServer n b) bodies)))
    (bodies_all settings P s n (events ++ said (ToServer n b) ∷ []) bodies (did_all settings P s events (ToServer n b) tt h))

-- L1: behind the refusals none is left

abbrev pub Away : ℕ → Ask → Type 0
Away e a = nat_eq a.editor e ≡ false

abbrev pub Pending : ℕ → List Ask → Ask → Type 0
Pending e xs a = nat_eq a.editor e ≡ true → list_any (is_under (Some a.id)) xs ≡ true

none_pending : (e : ℕ) (a : Ask) → Pending e [] a → Away e a
none_pending e a h = go (nat_eq a.editor e) refl
  where
    go : (b : Bool) → nat_eq a.editor e ≡ b → b ≡ false
    go true same = never (sym (h same))
    go false other = refl

one_refused : (e : ℕ) (p : Ask) (xs : List Ask) (a : Ask) → same_id p.id a.id ≡ false → Pending e (p ∷ xs) a → Pending e xs a
one_refused e p xs a other h same = ap (λ b. b || list_any (is_under (Some a.id)) xs) (sym (id_apart p.id a.id other)) ∙ h same

module _ (settings : Settings) (e t : ℕ) where
  pub refused_all : (xs : List Ask) → AllByRecursion (λ (a : Ask). IsIdText a.id a.bytes) xs → (events : List Event) → AllByRecursion (Pending e xs) (asks_of settings t events) → AllByRecursion (Away e) (asks_of settings t (behind events (map (λ b. ToServer t b) (map refusal_of xs))))
  refused_all [] texts events h = subst (λ z. AllByRecursion (Away e) (asks_of settings t z)) (sym (append-nil events)) (all_of (Pending e []) (Away e) (none_pending e) (asks_of settings t events) h)
  refused_all (p ∷ xs) texts events h = subst (λ z. AllByRecursion (Away e) (asks_of settings t z)) (append_assoc events (said (ToServer t (refusal_of p)) ∷ []) (map said (map (λ b. ToServer t b) (map refusal_of xs))))
      (refused_all xs texts.1 (events ++ said (ToServer t (refusal_of p)) ∷ [])
      (asks_more settings (Pending e xs) t events (said (ToServer t (refusal_of p))) (filter (λ a. not (same_id p.id a.id)) (asks_of settings t events)) fewer
      (all_filtered (Pending e (p ∷ xs)) (Pending e xs) (λ a. not (same_id p.id a.id)) (λ a left k. one_refused e p xs a (unless_not (same_id p.id a.id) left) k) (asks_of settings t events) h)))
    where
      fewer : (asking_next settings t events (asking_of settings t events) (said (ToServer t (refusal_of p)))).asks ≡ filter (λ a. not (same_id p.id a.id)) (asks_of settings t events)
      fewer = ap₂ (λ b m. (if b then record { asker = (asking_of settings t events).asker; runs = (asking_of settings t events).runs; asks = filter (λ a. not (is_under (answered_id m) a)) (asks_of settings t events); parked = filter (λ p. not (waits_under (answered_id m) p)) (parked_of settings t events) } else asking_of settings t events).asks) (same_number t)
          (error_law (Some p.id) p.bytes request_failed (id_as_response p.id p.bytes texts.0))

-- What is known in an entry of the editors that a start asked

-- it runs behind the cause, unless it leaves, and one that leaves ran before; it is in the group whose last start asked it
pub record MidSeat (settings : Settings) (before : List Event) (cause : Cause) (s : ℕ) (a : Ask) : Type 0 where
  pub running : leaves settings before cause a.editor ≡ false → (desk_of a.editor (with_cause before cause)).phase ≡ Running
  pub ran : leaves settings before cause a.editor ≡ true → (desk_of a.editor before).phase ≡ Running
  pub old : is_new (desk_of a.editor before).phase ≡ false
  pub group : ℕ
  pub home : home_of settings a.editor before ≡ Some group
  pub last : start_of group before ≡ Some s
  pub ready : (life_of s before).stage ≡ Ready
