-- E11: an editor's `$/cancelRequest` goes on under the number of the request that it names.
use Rattle.std.proofs.Common.{◌≡◌, ℕ, ◌<◌, ◌^◌, Bool, true, false, not, ◌&&◌, ◌||◌, cond, List, [], ◌∷◌, codes, decimal, find, nat_eq, if◌then◌else◌, Option, None, Some, refl, ◌∙◌, ap, ap₂, subst, arith}
use Rattle.std.specs.List.{AllByRecursion, list_any}
use Rattle.std.specs.Option.{option_and_then}
use Rattle.json_text.specs.Bare.{nowhere}
use Rattle.json_text.specs.Json.{Json, number}
use Rattle.mux_history.specs.declared.cause.Cause.TheVariants.{FromEditor}
use Rattle.rpc_message.specs.Message.{Id, integer_if, message_of, notification, error}
use Rattle.rpc_message.proofs.Decimals.{decimal_integer}
use Rattle.event_model.specs.Event.{Event, heard, with_cause}
use Rattle.event_model.specs.Phases.{desk_of, is_served}
use Rattle.event_model.specs.Row.{Row, nothing, on}
use Rattle.event_model.specs.Settings.{Settings}
use Rattle.event_model.specs.Spawns.{start_of}
use Rattle.event_model.specs.Stages.{is_ready, life_of}
use Rattle.mux_facts.specs.Ranges.{InRange}
use Rattle.mux_facts.proofs.DocumentRow.{ready_is}
use Rattle.mux_facts.proofs.Reasons.{Because, by_choose, by_nothing, by_on, by_send}
use Rattle.mux_facts.proofs.Words.{same_number}
use Rattle.group_rows.specs.Cancelling.{cancelling_at, cancelling_row, is_called, number_called, number_named, numbered_text, uncancelled_number}
use Rattle.group_rows.specs.held_requests.specs.declared.request.Request.{Request}
use Rattle.group_rows.specs.Rows.{cancel_row}
use Rattle.group_rows.specs.Waiting.{cancelled_text, named_id, waiting_named, waiting_of}
use Rattle.group_rows.specs.Forwarded.{Forwarded, Forwarding, forwarding_of}
use Rattle.group_rows.proofs.Cancelling.{Renumbered, renumbered}
use Rattle.group_facts.specs.Facts.{AllHeld, Bounded, IsHeld}
use Rattle.group_facts.specs.Why.{IsCancel, IsRefusal, Why, cancels, is_uncancelled, of_editor, refuses}
use Rattle.group_facts.proofs.Held.{refusing, cancelled_says, named_held}
use Rattle.group_facts.proofs.HeldOn.{held_asked}
use Rattle.group_facts.proofs.DocumentRow.{calm_now}
use Rattle.group_rows.proofs.Frames.{forwarding_more}
use Rattle.group_facts.proofs.LeaveRows.{IsSmall, numbers_small}
use Rattle.group_words.specs.Houses.{home_of}

-- A request that is found

or_first : (a b : Bool) → a ≡ true → (a || b) ≡ true
or_first true b h = refl
or_first false b h = absurd (cc)

or_second : (a b : Bool) → b ≡ true → (a || b) ≡ true
or_second true b h = refl
or_second false b h = h

-- one that wasn't cancelled
number_is : (f : Forwarded) (n : ℕ) → uncancelled_number f ≡ Some n → (f.number ≡ n) × (f.cancelled ≡ false)
number_is f n h = go f.cancelled refl h
  where
    go : (b : Bool) → f.cancelled ≡ b → (if b then None else Some f.number) ≡ Some n → (f.number ≡ n) × (f.cancelled ≡ false)
    go true is h = absurd (cc)
    go false is h = (cc, is)

module _ (test : Forwarded → Bool) (n : ℕ) where
  waits_by : (fs : List Forwarded) → option_and_then uncancelled_number (find test fs) ≡ Some n → list_any (is_uncancelled n) fs ≡ true
  waits_by [] h = absurd (cc)
  waits_by (f ∷ fs) h = go (test f) h (λ k. waits_by fs k)
    where
      go : (b : Bool) → option_and_then uncancelled_number (cond b (Some f) (find test fs)) ≡ Some n → (option_and_then uncancelled_number (find test fs) ≡ Some n → list_any (is_uncancelled n) fs ≡ true) → list_any (is_uncancelled n) (f ∷ fs) ≡ true
      go true h rest = let k = number_is f n h in or_first (is_uncancelled n f) (list_any (is_uncancelled n) fs) (ap₂ (λ m c. nat_eq m n && not c) k.0 k.1 ∙ ap (λ b. b && true) (same_number n))
      go false h rest = or_second (is_uncancelled n f) (list_any (is_uncancelled n) fs) (rest h)

  small_by : (fs : List Forwarded) → AllByRecursion (λ (f : Forwarded). IsSmall f.number) fs → option_and_then uncancelled_number (find test fs) ≡ Some n → IsSmall n
  small_by [] all h = absurd (cc)
  small_by (f ∷ fs) all h = go (test f) h (λ k. small_by fs all.1 k)
    where
      go : (b : Bool) → option_and_then uncancelled_number (cond b (Some f) (find test fs)) ≡ Some n → (option_and_then uncancelled_number (find test fs) ≡ Some n → IsSmall n) → IsSmall n
      go true h rest = subst IsSmall (number_is f n h).0 all.0
      go false h rest = rest h

-- the params name an id, under which it is found
record Meant (e : ℕ) (params : Option Json) (fs : List Forwarded) (n : ℕ) : Type 0 where
  id : Id
  named : named_id params ≡ Some id
  called : number_called e id fs ≡ Some n

meant : (e : ℕ) (params : Option Json) (fs : List Forwarded) (n : ℕ) → number_named e params fs ≡ Some n → Meant e params fs n
meant e params fs n h = go (named_id params) refl h
  where
    go : (o : Option Id) → named_id params ≡ o → option_and_then (λ id. number_called e id fs) o ≡ Some n → Meant e params fs n
    go (Some id) is h = record { id = id; named = is; called = h }
    go None is h = absurd (cc)

module _ (settings : Settings) (range : InRange settings) (before : List Event) (bounded : Bounded settings before) (e : ℕ) (body : List ℕ) (served : is_served (desk_of e before).phase ≡ true) where
  abbrev now : List Event
  now = with_cause before (FromEditor e body)

  abbrev Right : Row → Type 0
  Right row = Because (Why settings before (FromEditor e body)) now row

  module _ (params : Option Json) (says : message_of body ≡ notification (codes "$/cancelRequest") params) where
    reason : (s n : ℕ) → is_ready (life_of s before).stage ≡ true → number_named e params (forwarding_of settings s before).open_requests ≡ Some n → IsCancel settings before (FromEditor e body) now s (numbered_text n body)
    reason s n ready is =
        let fs : List Forwarded = (forwarding_of settings s before).open_requests in
        let m : Meant e params fs n = meant e params fs n is in
        let small : n < 2 ^ 64 = small_by (is_called e m.id) n fs (numbers_small settings range before bounded s (ready_is (life_of s before).stage ready)) m.called in
        let new : Renumbered n body (codes "$/cancelRequest") = renumbered n body (codes "$/cancelRequest") params (omega (arith, small)) says m.id m.named in
        record {
          number = n;
          params = new.params;
          value = number nowhere (decimal n);
          named = new.names;
          id = ap (λ b. integer_if b (decimal n)) (decimal_integer n (omega (arith, small)));
          waits = ap (λ (x : Forwarding). list_any (is_uncancelled n) x.open_requests) (forwarding_more settings s before (heard (FromEditor e body))) ∙ waits_by (is_called e m.id) n fs m.called;
          ready = (calm_now settings range before e body s ready).still.ready;
          stays = refl;
          text = of_editor (record { editor = e; asked = body; params = params; from = refl; served = served; notified = says; meant = is; bytes = refl });
          says = new.says;
        }

    at_start : (s : ℕ) → Right (cancelling_at settings before e body params s)
    at_start s = by_choose (λ ready. by_on (λ none. by_nothing) (λ n is. by_send (cancels (reason s n ready is)))) (λ off. by_nothing)

    at_group : (g : ℕ) → Right (on (start_of g before) nothing (cancelling_at settings before e body params))
    at_group g = by_on (λ none. by_nothing) (λ s start. at_start s)

    cancelling_why : Right (cancelling_row settings before e body params)
    cancelling_why = by_on (λ none. by_nothing) (λ g home. at_group g)

    -- one that waits is answered
    pub cancel_why : AllHeld settings before → Right (cancel_row settings before e body params)
    cancel_why held = by_on (λ none. cancelling_why) (λ r found. by_send (refuses (answering r found)))
      where
        answering : (r : Request) → option_and_then (λ g. waiting_named e params (waiting_of settings g before)) (home_of settings e before) ≡ Some r → IsRefusal settings now r.editor (cancelled_text r.id)
        answering r found =
            let is : (g : ℕ) × IsHeld settings g before r = named_held settings e params before r (home_of settings e before) held found in
            let k : IsHeld settings is.0 now r = held_asked settings is.0 before e body r is.1 in
            let says : (x : Json) × (message_of (cancelled_text r.id) ≡ error (Some (k.asker).id) x) = cancelled_says (k.asker).id r.id (k.asker).text in
            refusing settings before (FromEditor e body) is.0 now r k (cancelled_text r.id) says.0 says.1
