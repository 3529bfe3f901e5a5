-- Which requests of an editor are open, by its phase: none of a new one, the `initialize` of one that waits, and of one that got its result those that were sent on.
use Rattle.std.proofs.Common.{◌≡◌, ℕ, Bool, true, false, not, ◌||◌, cond, List, [], ◌∷◌, ◌++◌, codes, if◌then◌else◌, Option, Some, None, ◌⊎◌, inl, inr, refl, sym, ◌∙◌, ap, subst}
use Rattle.json_text.specs.Json.{Json}
use Rattle.rpc_message.specs.Message.{Message, request, result, error, Id, message_of}
use Rattle.event_model.specs.declared.phase.Phase.{Phase}
use Rattle.event_model.specs.declared.phase.Phase.TheVariants.{Absent, New, Waiting, Answered, Running, Down, Closed, Gone}
use Rattle.event_model.specs.Event.{requests, same_id}
use Rattle.event_model.specs.Phases.{Desk, desk_hears, has_id, makes_running, phase_closed, phase_told}
use Rattle.event_model.specs.Requests.{answered_id, is_open, without}
use Rattle.event_model.proofs.Frames.{never}
use Rattle.mux_facts.proofs.Late.{error_told}
use Rattle.mux_facts.proofs.Why.{is_early}
use Rattle.group_facts.specs.Settled.{is_answered}
use Rattle.mux_facts.proofs.Words.{id_same, same_id_itself}

-- Lists of open ids

or_either : (a b : Bool) → (a || b) ≡ true → (a ≡ true) ⊎ (b ≡ true)
or_either true b h = inl refl
or_either false b h = inr h

or_left : (a b : Bool) → (a || b) ≡ false → a ≡ false
or_left true b h = never h
or_left false b h = refl

or_right : (a b : Bool) → (a || b) ≡ false → b ≡ false
or_right true b h = never h
or_right false b h = h

-- what is open behind an answer was open before it
pub fewer_open : (i : Id) (o : Option Id) (ids : List Id) → is_open i (without o ids) ≡ true → is_open i ids ≡ true
fewer_open i None ids h = h
fewer_open i (Some k) [] h = h
fewer_open i (Some k) (x ∷ ids) h = go (same_id k x) (same_id i x) (λ e. fewer_open i (Some k) ids e) h refl
  where
    second : (b : Bool) → is_open i ids ≡ true → (b || is_open i ids) ≡ true
    second true e = refl
    second false e = e

    kept : (b : Bool) → (is_open i (without (Some k) ids) ≡ true → is_open i ids ≡ true) → (b || is_open i (without (Some k) ids)) ≡ true → (b || is_open i ids) ≡ true
    kept true f e = refl
    kept false f e = f e

    go : (b c : Bool) → (is_open i (without (Some k) ids) ≡ true → is_open i ids ≡ true) → is_open i (cond (not b) (x ∷ without (Some k) ids) (without (Some k) ids)) ≡ true → same_id i x ≡ c → (same_id i x || is_open i ids) ≡ true
    go true c f e same = second (same_id i x) (f e)
    go false c f e same = kept (same_id i x) f e

-- what was answered isn't open
pub answered_closed : (i : Id) (ids : List Id) → is_open i (without (Some i) ids) ≡ false
answered_closed i [] = refl
answered_closed i (x ∷ ids) = go (same_id i x) refl (answered_closed i ids)
  where
    go : (b : Bool) → same_id i x ≡ b → is_open i (without (Some i) ids) ≡ false → is_open i (cond (not b) (x ∷ without (Some i) ids) (without (Some i) ids)) ≡ false
    go true e f = f
    go false e f = ap (λ b. b || is_open i (without (Some i) ids)) e ∙ f

-- an id that wasn't open, asked and answered
pub without_last : (i : Id) (ids : List Id) → is_open i ids ≡ false → without (Some i) (ids ++ i ∷ []) ≡ ids
without_last i [] h = ap (λ b. cond (not b) (i ∷ []) []) (same_id_itself i)
without_last i (x ∷ ids) h = ap (λ b. cond (not b) (x ∷ without (Some i) (ids ++ i ∷ [])) (without (Some i) (ids ++ i ∷ []))) (or_left (same_id i x) (is_open i ids) h)
    ∙ ap (λ z. x ∷ z) (without_last i ids (or_right (same_id i x) (is_open i ids) h))

-- one more is open
pub open_either : (i k : Id) (ids : List Id) → is_open i (ids ++ k ∷ []) ≡ true → (is_open i ids ≡ true) ⊎ (i ≡ k)
open_either i k [] h = go (or_either (same_id i k) false h)
  where
    go : (same_id i k ≡ true) ⊎ (false ≡ true) → (false ≡ true) ⊎ (i ≡ k)
    go (inl e) = inr (id_same i k e)
    go (inr e) = inl e
open_either i k (x ∷ ids) h = go (same_id i x) (λ e. open_either i k ids e) h
  where
    go : (b : Bool) → (is_open i (ids ++ k ∷ []) ≡ true → (is_open i ids ≡ true) ⊎ (i ≡ k)) → (b || is_open i (ids ++ k ∷ [])) ≡ true → ((b || is_open i ids) ≡ true) ⊎ (i ≡ k)
    go true f e = inl refl
    go false f e = f e

-- a result for another request than the `initialize` of an editor that waits moves no editor
pub reply_told : (phase : Phase) (initialize : List ℕ) (id : Id) (r : Json) → (phase ≡ Waiting → has_id id (message_of initialize) ≡ false) → phase_told phase initialize (result (Some id) r) ≡ phase
reply_told Waiting initialize id r others = ap (λ b. if b then Answered else Waiting) (others refl)
reply_told Absent initialize id r others = refl
reply_told New initialize id r others = refl
reply_told Answered initialize id r others = refl
reply_told Running initialize id r others = refl
reply_told Down initialize id r others = refl
reply_told Closed initialize id r others = refl
reply_told Gone initialize id r others = refl

-- By phase

-- the `initialize` alone
pub record IsOne (initialize : List ℕ) (ids : List Id) : Type 0 where
  pub id : Id
  pub asked : has_id id (message_of initialize) ≡ true
  pub alone : ids ≡ id ∷ []

-- S holds of the ids of requests that were sent on
abbrev pub OpenIf : (Id → Type 0) → Phase → List ℕ → List Id → Type 0
OpenIf S Absent initialize ids = ids ≡ []
OpenIf S New initialize ids = ids ≡ []
OpenIf S Waiting initialize ids = IsOne initialize ids
OpenIf S Answered initialize ids = (id : Id) → is_open id ids ≡ true → S id
OpenIf S Running initialize ids = (id : Id) → is_open id ids ≡ true → S id
OpenIf S Down initialize ids = (id : Id) → is_open id ids ≡ true → S id
OpenIf S other initialize ids = Unit {0}

-- by what is known of ids that are open at an editor that got its result
pub if_other : (S T : Id → Type 0) (phase : Phase) (initialize : List ℕ) (ids : List Id) → (is_answered phase ≡ true → (id : Id) → is_open id ids ≡ true → S id → T id) → OpenIf S phase initialize ids → OpenIf T phase initialize ids
if_other S T Absent initialize ids f h = h
if_other S T New initialize ids f h = h
if_other S T Waiting initialize ids f h = h
if_other S T Answered initialize ids f h = λ id k. f refl id k (h id k)
if_other S T Running initialize ids f h = λ id k. f refl id k (h id k)
if_other S T Down initialize ids f h = λ id k. f refl id k (h id k)
if_other S T Closed initialize ids f h = tt
if_other S T Gone initialize ids f h = tt

module _ (S : Id → Type 0) where
  -- of one that got its result each was sent on
  pub if_answered : (phase : Phase) (initialize : List ℕ) (ids : List Id) → is_answered phase ≡ true → OpenIf S phase initialize ids → (id : Id) → is_open id ids ≡ true → S id
  if_answered Answered initialize ids served h = h
  if_answered Running initialize ids served h = h
  if_answered Absent initialize ids served h = absurd (cc)
  if_answered New initialize ids served h = absurd (cc)
  if_answered Waiting initialize ids served h = absurd (cc)
  if_answered Down initialize ids served h = h
  if_answered Closed initialize ids served h = absurd (cc)
  if_answered Gone initialize ids served h = absurd (cc)

  all_asked : (ids : List Id) (id : Id) → S id → ((i : Id) → is_open i ids ≡ true → S i) → (i : Id) → is_open i (ids ++ id ∷ []) ≡ true → S i
  all_asked ids id s h i k = go (open_either i id ids k)
    where
      go : (is_open i ids ≡ true) ⊎ (i ≡ id) → S i
      go (inl e) = h i e
      go (inr e) = subst S (sym e) s

  abbrev pub OpenDesk : Desk → List Id → Type 0
  OpenDesk desk ids = OpenIf S desk.phase desk.initialize ids

  -- an editor's message, that isn't its first `initialize`
  pub if_hears : (phase : Phase) (initialize body : List ℕ) (m : Message) (ids : List Id) → (phase ≡ New → requests (codes "initialize") m ≡ false) → OpenIf S phase initialize ids
      → OpenIf S (desk_hears phase initialize body m).phase (desk_hears phase initialize body m).initialize ids
  if_hears New initialize body m ids other h = subst (λ b. OpenDesk (if b then record { phase = Waiting; initialize = body } else record { phase = New; initialize = initialize }) ids) (sym (other refl)) h
  if_hears Answered initialize body m ids other h = go (requests (codes "shutdown") m) (makes_running m)
    where
      go : (a b : Bool) → OpenIf S (if a then Down else if b then Running else Answered) initialize ids
      go true b = h
      go false true = h
      go false false = h
  if_hears Running initialize body m ids other h = go (requests (codes "shutdown") m)
    where
      go : (a : Bool) → OpenIf S (if a then Down else Running) initialize ids
      go true = h
      go false = h
  if_hears Absent initialize body m ids other h = h
  if_hears Waiting initialize body m ids other h = h
  if_hears Down initialize body m ids other h = h
  if_hears Closed initialize body m ids other h = tt
  if_hears Gone initialize body m ids other h = tt

  -- an error under a null id
  pub if_null : (phase : Phase) (initialize : List ℕ) (ids : List Id) (x : Json) → OpenIf S phase initialize ids → OpenIf S (phase_told phase initialize (error None x)) initialize ids
  if_null Absent initialize ids x h = h
  if_null New initialize ids x h = h
  if_null Waiting initialize ids x h = h
  if_null Answered initialize ids x h = h
  if_null Running initialize ids x h = h
  if_null Down initialize ids x h = h
  if_null Closed initialize ids x h = tt
  if_null Gone initialize ids x h = tt

  -- an error under an id, which isn't that of the `initialize` of an editor that waits
  pub if_refused : (phase : Phase) (initialize : List ℕ) (ids : List Id) (id : Id) (x : Json) → (phase ≡ Waiting → has_id id (message_of initialize) ≡ false) → OpenIf S phase initialize ids
      → OpenIf S (phase_told phase initialize (error (Some id) x)) initialize (without (Some id) ids)
  if_refused Absent initialize ids id x others h = ap (without (Some id)) h
  if_refused New initialize ids id x others h = ap (without (Some id)) h
  if_refused Waiting initialize ids id x others h = record { id = h.id; asked = h.asked; alone = ap (without (Some id)) h.alone ∙ ap (λ b. cond (not b) (h.id ∷ []) []) (apart (same_id id h.id) refl) }
    where
      apart : (b : Bool) → same_id id h.id ≡ b → b ≡ false
      apart true e = never (sym (ap (λ i. has_id i (message_of initialize)) (id_same id h.id e) ∙ h.asked) ∙ others refl)
      apart false e = refl
  if_refused Answered initialize ids id x others h = λ i k. h i (fewer_open i (Some id) ids k)
  if_refused Running initialize ids id x others h = λ i k. h i (fewer_open i (Some id) ids k)
  if_refused Down initialize ids id x others h = λ i k. h i (fewer_open i (Some id) ids k)
  if_refused Closed initialize ids id x others h = tt
  if_refused Gone initialize ids id x others h = tt

  -- a result under such an id
  pub if_replied : (phase : Phase) (initialize : List ℕ) (ids : List Id) (id : Id) (r : Json) → (phase ≡ Waiting → has_id id (message_of initialize) ≡ false) → OpenIf S phase initialize ids
      → OpenIf S (phase_told phase initialize (result (Some id) r)) initialize (without (Some id) ids)
  if_replied phase initialize ids id r others h = subst (λ p. OpenIf S p initialize (without (Some id) ids)) (error_told phase initialize (Some id) r ∙ sym (reply_told phase initialize id r others)) (if_refused phase initialize ids id r others h)

  -- any response, to an editor that got its result
  pub if_passed : (phase : Phase) (initialize : List ℕ) (ids : List Id) (m : Message) → is_early phase ≡ false → OpenIf S phase initialize ids → OpenIf S (phase_told phase initialize m) initialize (without (answered_id m) ids)
  if_passed Absent initialize ids m late h = absurd (cc)
  if_passed New initialize ids m late h = absurd (cc)
  if_passed Waiting initialize ids m late h = absurd (cc)
  if_passed Answered initialize ids m late h = λ i k. h i (fewer_open i (answered_id m) ids k)
  if_passed Running initialize ids m late h = λ i k. h i (fewer_open i (answered_id m) ids k)
  if_passed Down initialize ids m late h = λ i k. h i (fewer_open i (answered_id m) ids k)
  if_passed Closed initialize ids m late h = tt
  if_passed Gone initialize ids m late h = tt

  -- a further request of an editor that got its result
  pub if_asked : (phase : Phase) (initialize : List ℕ) (ids : List Id) (id : Id) → is_early phase ≡ false → S id → OpenIf S phase initialize ids → OpenIf S phase initialize (ids ++ id ∷ [])
  if_asked Absent initialize ids id late s h = absurd (cc)
  if_asked New initialize ids id late s h = absurd (cc)
  if_asked Waiting initialize ids id late s h = absurd (cc)
  if_asked Answered initialize ids id late s h = all_asked ids id s h
  if_asked Running initialize ids id late s h = all_asked ids id s h
  if_asked Down initialize ids id late s h = all_asked ids id s h
  if_asked Closed initialize ids id late s h = tt
  if_asked Gone initialize ids id late s h = tt

  -- the result of its `initialize`, to one that waits
  pub waiting_welcomed : (initialize : List ℕ) (ids : List Id) (id : Id) (params : Option Json) (r : Json) → message_of initialize ≡ request id (codes "initialize") params → IsOne initialize ids
      → OpenIf S (phase_told Waiting initialize (result (Some id) r)) initialize (without (Some id) ids)
  waiting_welcomed initialize ids id params r asks h = subst (λ b. OpenIf S (if b then Answered else Waiting) initialize (without (Some id) ids)) (sym own) (λ i k. never (sym k ∙ ap (is_open i) none))
    where
      own : has_id id (message_of initialize) ≡ true
      own = ap (has_id id) asks ∙ same_id_itself id

      same : h.id ≡ id
      same = id_same h.id id (sym (ap (has_id h.id) asks) ∙ h.asked)

      none : without (Some id) ids ≡ []
      none = ap (without (Some id)) (h.alone ∙ ap (λ i. i ∷ []) same) ∙ ap (λ b. cond (not b) (id ∷ []) []) (same_id_itself id)

  pub if_welcomed : (phase : Phase) (initialize : List ℕ) (ids : List Id) (id : Id) (params : Option Json) (r : Json) → phase ≡ Waiting → message_of initialize ≡ request id (codes "initialize") params → OpenIf S phase initialize ids
      → OpenIf S (phase_told phase initialize (result (Some id) r)) initialize (without (Some id) ids)
  if_welcomed Waiting initialize ids id params r at asks h = waiting_welcomed initialize ids id params r asks h
  if_welcomed Absent initialize ids id params r at asks h = absurd (cc)
  if_welcomed New initialize ids id params r at asks h = absurd (cc)
  if_welcomed Answered initialize ids id params r at asks h = absurd (cc)
  if_welcomed Running initialize ids id params r at asks h = absurd (cc)
  if_welcomed Down initialize ids id params r at asks h = absurd (cc)
  if_welcomed Closed initialize ids id params r at asks h = absurd (cc)
  if_welcomed Gone initialize ids id params r at asks h = absurd (cc)

  -- the end of its link
  pub if_closed : (phase : Phase) (initialize : List ℕ) (ids : List Id) → OpenIf S (phase_closed phase) initialize ids
  if_closed Gone initialize ids = tt
  if_closed Absent initialize ids = tt
  if_closed New initialize ids = tt
  if_closed Waiting initialize ids = tt
  if_closed Answered initialize ids = tt
  if_closed Running initialize ids = tt
  if_closed Down initialize ids = tt
  if_closed Closed initialize ids = tt
