-- The requests that were sent on to a start, behind one more event; and what the bodies to a start that are notifications leave alone.
use Rattle.std.proofs.Common.{◌≡◌, ℕ, zero, suc, Bool, true, false, List, [], ◌∷◌, ◌++◌, map, codes, bytes_eq, if◌then◌else◌, Option, Some, refl, ◌∙◌, ap, ap₂, nat_eq, sym, subst, ◌+◌}
use Rattle.std.specs.Prelude.{slice_get, None}
use Rattle.std.specs.List.{AllByRecursion}
use Rattle.json_text.specs.Json.{Json}
use Rattle.mux_history.specs.declared.out.Out.TheVariants.{ToServer}
use Rattle.rpc_message.specs.Message.{Message, error, request, notification, Id, message_of}
use Rattle.rpc_message.specs.ValueTexts.{IsIdText}
use Rattle.event_model.specs.Settings.{Settings}
use Rattle.event_model.specs.declared.stage.Stage.TheVariants.{Ready}
use Rattle.event_model.specs.Event.{Event, said}
use Rattle.event_model.specs.Members.{named_of}
use Rattle.event_model.specs.Phases.{desk_of}
use Rattle.event_model.specs.Requests.{is_own, open_of}
use Rattle.event_model.specs.Spawns.{group_of}
use Rattle.event_model.specs.Stages.{Life, life_of, stage_told}
use Rattle.mux_facts.proofs.Folds.{desk_more, life_more, opens_more}
use Rattle.mux_facts.proofs.Words.{same_number}
use Rattle.group_words.specs.Houses.{is_home}
use Rattle.group_rows.specs.Waiting.{waiting_of, without_first, worker_of}
use Rattle.group_facts.specs.Facts.{IsAlone}
use Rattle.group_facts.specs.Why.{asks_something}
use Rattle.group_rows.specs.held_requests.specs.declared.request.Request.{Request}
use Rattle.group_rows.proofs.Frames.{forwarding_more, waiting_more}
use Rattle.group_rows.specs.Forwarded.{Forwarded, Forwarding, cancelled_by, first_sender, forwarding_of, forwards, is_written, numbered, Sender, sender_or}

-- with the request that is at work, or with the one that has waited longest
abbrev pub more_requests : Option Sender → Forwarding → Forwarding
more_requests first x = record { sender = x.sender; next = x.next + 1; open_requests = x.open_requests ++ numbered (sender_or x.sender first) x.next }

-- what follows from two things that hold of all
pub zip_all : {X : Type 0} (P Q R : X → Type 0) → ((x : X) → P x → Q x → R x) → (xs : List X) → AllByRecursion P xs → AllByRecursion Q xs → AllByRecursion R xs
zip_all P Q R f [] h k = tt
zip_all P Q R f (x ∷ xs) h k = (f x h.0 k.0, zip_all P Q R f xs h.1 k.1)

-- and what holds of one of them
pub get_all : {X : Type 0} (P : X → Type 0) (xs : List X) (i : ℕ) (x : X) → AllByRecursion P xs → slice_get xs i ≡ Some x → P x
get_all P [] i x h e = absurd (cc)
get_all P (y ∷ xs) zero x h e = subst P (let same : y ≡ x = cc in same) h.0
get_all P (y ∷ xs) (suc i) x h e = get_all P xs i x h.1 e

-- a notification leaves who asks and the next number, and the numbers, editors and ids of the open requests
module _ (first : Option Sender) (x : Forwarding) (method : List ℕ) (params : Option Json) where
  pub notified_sender : (forwards first x (notification method params)).sender ≡ x.sender
  notified_sender = go (bytes_eq method (codes "$/cancelRequest"))
    where
      go : (b : Bool) → (if b then record { sender = x.sender; next = x.next; open_requests = map (cancelled_by (named_of (codes "id") params)) x.open_requests } else x).sender ≡ x.sender
      go true = refl
      go false = refl

  pub notified_next : (forwards first x (notification method params)).next ≡ x.next
  notified_next = go (bytes_eq method (codes "$/cancelRequest"))
    where
      go : (b : Bool) → (if b then record { sender = x.sender; next = x.next; open_requests = map (cancelled_by (named_of (codes "id") params)) x.open_requests } else x).next ≡ x.next
      go true = refl
      go false = refl

  all_cancelled : (P : ℕ → ℕ → List ℕ → Type 0) (id : Option Json) (fs : List Forwarded) → AllByRecursion (λ (f : Forwarded). P f.number f.editor f.id) fs → AllByRecursion (λ (f : Forwarded). P f.number f.editor f.id) (map (cancelled_by id) fs)
  all_cancelled P id [] h = tt
  all_cancelled P id (f ∷ fs) h = (go (is_written id f.number) h.0, all_cancelled P id fs h.1)
    where
      go : (b : Bool) → P f.number f.editor f.id → P (if b then record f { cancelled = true } else f).number (if b then record f { cancelled = true } else f).editor (if b then record f { cancelled = true } else f).id
      go true k = k
      go false k = k

  pub notified_all : (P : ℕ → ℕ → List ℕ → Type 0) → AllByRecursion (λ (f : Forwarded). P f.number f.editor f.id) x.open_requests → AllByRecursion (λ (f : Forwarded). P f.number f.editor f.id) (forwards first x (notification method params)).open_requests
  notified_all P h = go (bytes_eq method (codes "$/cancelRequest"))
    where
      go : (b : Bool) → AllByRecursion (λ (f : Forwarded). P f.number f.editor f.id) (if b then record { sender = x.sender; next = x.next; open_requests = map (cancelled_by (named_of (codes "id") params)) x.open_requests } else x).open_requests
      go true = all_cancelled P (named_of (codes "id") params) x.open_requests h
      go false = h

-- what holds of all requests that are open at a start, by their numbers, editors and ids, holds of those that are later
abbrev pub Fewer : Settings → List Event → List Event → Type 1
Fewer settings events later = (t : ℕ) (Q : ℕ → ℕ → List ℕ → Type 0) → AllByRecursion (λ (f : Forwarded). Q f.number f.editor f.id) (forwarding_of settings t events).open_requests → AllByRecursion (λ (f : Forwarded). Q f.number f.editor f.id) (forwarding_of settings t later).open_requests

pub fewer_notified : (settings : Settings) (s : ℕ) (events : List Event) (body method : List ℕ) (params : Option Json) → message_of body ≡ notification method params → Fewer settings events (events ++ said (ToServer s body) ∷ [])
fewer_notified settings s events body method params says t Q h = subst (λ (x : Forwarding). AllByRecursion (λ (f : Forwarded). Q f.number f.editor f.id) x.open_requests)
    (sym (forwarding_more settings t events (said (ToServer s body)) ∙ ap (λ m. if nat_eq s t then forwards (first_sender settings t events) (forwarding_of settings t events) m else forwarding_of settings t events) says)) (go (nat_eq s t))
  where
    go : (b : Bool) → AllByRecursion (λ (f : Forwarded). Q f.number f.editor f.id) (if b then forwards (first_sender settings t events) (forwarding_of settings t events) (notification method params) else forwarding_of settings t events).open_requests
    go true = notified_all (first_sender settings t events) (forwarding_of settings t events) method params Q h
    go false = h

pub alone_fewer : (settings : Settings) (events later : List Event) → Fewer settings events later → (e : ℕ) (id : Id) → IsAlone settings events e id → IsAlone settings later e id
alone_fewer settings events later fewer e id h t = fewer t (λ n k i. k ≡ e → IsIdText id i → ⊥) (h t)

-- nor does any body change who asks
pub forwards_sender : (b : Bool) (first : Option Sender) (x : Forwarding) (m : Message) → (if b then forwards first x m else x).sender ≡ x.sender
forwards_sender true first x (request id method params) = go (is_own method)
  where
    go : (c : Bool) → (if c then x else more_requests first x).sender ≡ x.sender
    go true = refl
    go false = refl
forwards_sender true first x (notification method params) = notified_sender first x method params
forwards_sender true first x m = refl
forwards_sender false first x m = refl

-- what isn't a request leaves what waits
left_on : (b : Bool) (w : Option ℕ) (m : Message) (rs : List Request) → asks_something m ≡ false → (if b then without_first w m rs else rs) ≡ rs
left_on true None (request id method ps) rs none = absurd (cc)
left_on true w m rs none = refl
left_on false w m rs none = refl

pub waits_on : (settings : Settings) (g s : ℕ) (events : List Event) (body : List ℕ) (m : Message) → message_of body ≡ m → asks_something m ≡ false → waiting_of settings g (events ++ said (ToServer s body) ∷ []) ≡ waiting_of settings g events
waits_on settings g s events body m says none = waiting_more settings g events (said (ToServer s body)) ∙ left_on (is_home g (group_of s events)) (worker_of events) (message_of body) (waiting_of settings g events) (ap asks_something says ∙ none)

-- s is ready, and since `now` it was sent notifications and errors alone
pub record Still (settings : Settings) (now : List Event) (s : ℕ) (events : List Event) : Type 0 where
  pub ready : (life_of s events).stage ≡ Ready
  pub next : (forwarding_of settings s events).next ≡ (forwarding_of settings s now).next
  pub sender : (forwarding_of settings s events).sender ≡ (forwarding_of settings s now).sender
  pub desks : (e : ℕ) → desk_of e events ≡ desk_of e now
  pub opens : (e : ℕ) → open_of e events ≡ open_of e now
  pub alone : (e : ℕ) (id : Id) → IsAlone settings now e id → IsAlone settings events e id
  pub waiting : (g : ℕ) → waiting_of settings g events ≡ waiting_of settings g now

pub still_now : (settings : Settings) (now : List Event) (s : ℕ) → (life_of s now).stage ≡ Ready → Still settings now s now
still_now settings now s ready = record { ready = ready; next = refl; sender = refl; desks = λ e. refl; opens = λ e. refl; alone = λ e id h. h; waiting = λ g. refl }

pub still_notified : (settings : Settings) (now : List Event) (s : ℕ) (events : List Event) (body method : List ℕ) (params : Option Json) → message_of body ≡ notification method params → Still settings now s events → Still settings now s (events ++ said (ToServer s body) ∷ [])
still_notified settings now s events body method params says h = record {
  ready = ap (λ (l : Life). l.stage) (life_more s events (said (ToServer s body)))
      ∙ ap (λ b. (if b then record { stage = stage_told (life_of s events).stage (message_of body); started = (life_of s events).started } else life_of s events).stage) (same_number s)
      ∙ ap₂ (λ z m. stage_told z m) h.ready says;
  next = ap (λ (x : Forwarding). x.next) moved ∙ notified_next (first_sender settings s events) (forwarding_of settings s events) method params ∙ h.next;
  sender = ap (λ (x : Forwarding). x.sender) moved ∙ notified_sender (first_sender settings s events) (forwarding_of settings s events) method params ∙ h.sender;
  desks = λ e. desk_more e events (said (ToServer s body)) ∙ h.desks e;
  opens = λ e. opens_more e events (said (ToServer s body)) ∙ h.opens e;
  alone = λ e id k. alone_fewer settings events (events ++ said (ToServer s body) ∷ []) (fewer_notified settings s events body method params says) e id (h.alone e id k);
  waiting = λ g. waits_on settings g s events body (notification method params) says refl ∙ h.waiting g;
}
  where
    moved : forwarding_of settings s (events ++ said (ToServer s body) ∷ []) ≡ forwards (first_sender settings s events) (forwarding_of settings s events) (notification method params)
    moved = forwarding_more settings s events (said (ToServer s body)) ∙ ap₂ (λ b m. if b then forwards (first_sender settings s events) (forwarding_of settings s events) m else forwarding_of settings s events) (same_number s) says

-- an error, too, leaves all of it
pub still_answered : (settings : Settings) (now : List Event) (s : ℕ) (events : List Event) (body : List ℕ) (id : Option Id) (x : Json) → message_of body ≡ error id x → Still settings now s events → Still settings now s (events ++ said (ToServer s body) ∷ [])
still_answered settings now s events body id x says h = record {
  ready = ap (λ (l : Life). l.stage) (life_more s events (said (ToServer s body)))
      ∙ ap (λ b. (if b then record { stage = stage_told (life_of s events).stage (message_of body); started = (life_of s events).started } else life_of s events).stage) (same_number s)
      ∙ ap₂ (λ z m. stage_told z m) h.ready says;
  next = ap (λ (x : Forwarding). x.next) (moved s) ∙ h.next;
  sender = ap (λ (x : Forwarding). x.sender) (moved s) ∙ h.sender;
  desks = λ e. desk_more e events (said (ToServer s body)) ∙ h.desks e;
  opens = λ e. opens_more e events (said (ToServer s body)) ∙ h.opens e;
  alone = λ e i k t. subst (λ (x : Forwarding). AllByRecursion (λ (g : Forwarded). g.editor ≡ e → IsIdText i g.id → ⊥) x.open_requests) (sym (moved t)) (h.alone e i k t);
  waiting = λ g. waits_on settings g s events body (error id x) says refl ∙ h.waiting g;
}
  where
    moved : (t : ℕ) → forwarding_of settings t (events ++ said (ToServer s body) ∷ []) ≡ forwarding_of settings t events
    moved t = forwarding_more settings t events (said (ToServer s body)) ∙ ap (λ m. if nat_eq s t then forwards (first_sender settings t events) (forwarding_of settings t events) m else forwarding_of settings t events) says ∙ go (nat_eq s t)
      where
        go : (b : Bool) → (if b then forwards (first_sender settings t events) (forwarding_of settings t events) (error id x) else forwarding_of settings t events) ≡ forwarding_of settings t events
        go true = refl
        go false = refl
