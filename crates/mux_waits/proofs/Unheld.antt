-- Messages that wait nowhere, and what is looked up of those that do.
use Rattle.std.proofs.Common.{◌≡◌, ℕ, Bool, true, false, not, ◌&&◌, cond, List, [], ◌∷◌, find, length, codes, refl, sym, subst, ◌∙◌, ap, nat_eq}
use Rattle.std.specs.Prelude.{Option, Some, None}
use Rattle.std.specs.List.{AllByRecursion}
use Rattle.std.specs.Option.{option_map_or}
use Rattle.std.proofs.lemmas.Slice.Eq.{bytes_eq-Decides}
use Rattle.json_text.specs.Json.{Json}
use Rattle.rpc_message.specs.Message.{Id, Message, request, same_id}
use Rattle.rpc_message.specs.ValueTexts.{IsIdText}
use Rattle.event_model.specs.Event.{Event, requests}
use Rattle.event_model.specs.Phases.{desk_of, is_served}
use Rattle.event_model.specs.Requests.{is_open, open_of}
use Rattle.event_model.specs.Settings.{Settings}
use Rattle.event_model.proofs.Frames.{never}
use Rattle.mux_facts.proofs.Words.{number_same}
use Rattle.group_words.specs.Houses.{home_of, is_home}
use Rattle.group_rows.specs.Waiting.{is_for_start, is_meant, is_misplaced, is_restarting, waiting_of, waits}
use Rattle.group_rows.proofs.Cancelling.{text_meant}
use Rattle.held_requests.specs.declared.request.Request.{Request}
use Rattle.held_requests.specs.Tables.{is_under, takes}
use Rattle.id_rewrite.proofs.Finding.{texts_same}
use Rattle.mux_waits.specs.Rows.{Rows, held_of}
use Rattle.mux_waits.specs.Stands.{IsHeld, Unheld, WaitingStand}
use Rattle.mux_waits.proofs.Moves.{held_text}

pub and_off : (a : Bool) → (a && false) ≡ false
and_off true = refl
and_off false = refl

-- one that isn't for the start of its editor's group
pub unheld_by : (settings : Settings) (e : ℕ) (body : List ℕ) (m : Message) (events : List Event) → is_for_start events e body m ≡ false → Unheld settings e body m events
unheld_by settings e body m events h g =
    ap (λ b. (is_home g (home_of settings e events) && is_served (desk_of e events).phase) && (b && (is_restarting g events && takes e (length body) (waiting_of settings g events)))) h ∙ and_off (is_home g (home_of settings e events) && is_served (desk_of e events).phase)

-- one of an editor in whose group it may not wait
pub unheld_full : (settings : Settings) (e : ℕ) (body : List ℕ) (m : Message) (events : List Event) → ((g : ℕ) → home_of settings e events ≡ Some g → (is_restarting g events && takes e (length body) (waiting_of settings g events)) ≡ false) → Unheld settings e body m events
unheld_full settings e body m events h g = go (home_of settings e events) refl
  where
    both_off : (a b c : Bool) → c ≡ false → (a && (b && c)) ≡ false
    both_off a b c k = ap (λ d. a && (b && d)) k ∙ (ap (λ d. a && d) (and_off b) ∙ and_off a)

    inside : (k : ℕ) → home_of settings e events ≡ Some k → (b : Bool) → nat_eq k g ≡ b → ((b && is_served (desk_of e events).phase) && (is_for_start events e body m && (is_restarting g events && takes e (length body) (waiting_of settings g events)))) ≡ false
    inside k is false same = refl
    inside k is true same =
        let own : k ≡ g = number_same k g same in
        both_off (is_served (desk_of e events).phase) (is_for_start events e body m) (is_restarting g events && takes e (length body) (waiting_of settings g events)) (h g (is ∙ ap (λ n. Some n) own))

    go : (home : Option ℕ) → home_of settings e events ≡ home → waits settings g events e body m (waiting_of settings g events) ≡ false
    go None is = ap (λ o. (is_home g o && is_served (desk_of e events).phase) && (is_for_start events e body m && (is_restarting g events && takes e (length body) (waiting_of settings g events)))) is
    go (Some k) is = ap (λ o. (is_home g o && is_served (desk_of e events).phase) && (is_for_start events e body m && (is_restarting g events && takes e (length body) (waiting_of settings g events)))) is ∙ inside k is (nat_eq k g) refl

-- a request that the daemon answers itself, or doesn't take
named : (name : List ℕ) (events : List Event) (e : ℕ) (body : List ℕ) (m : Message) → requests name m ≡ true → ((id : Id) (ps : Option Json) → is_for_start events e body (request id name ps) ≡ false) → is_for_start events e body m ≡ false
named name events e body (request id method ps) h off = subst (λ w. is_for_start events e body (request id w ps) ≡ false) ((bytes_eq-Decides name method).0 h) (off id ps)
named name events e body other h off = never (sym h)

pub unheld_open : (settings : Settings) (e : ℕ) (body : List ℕ) (m : Message) (events : List Event) → requests (codes "lspmux/open") m ≡ true → Unheld settings e body m events
unheld_open settings e body m events h = unheld_by settings e body m events (named (codes "lspmux/open") events e body m h (λ id ps. and_off (not (is_open id (open_of e events)))))

pub unheld_stop : (settings : Settings) (e : ℕ) (body : List ℕ) (m : Message) (events : List Event) → requests (codes "lspmux/stop") m ≡ true → Unheld settings e body m events
unheld_stop settings e body m events h = unheld_by settings e body m events (named (codes "lspmux/stop") events e body m h (λ id ps. and_off (not (is_open id (open_of e events)))))

pub unheld_initialize : (settings : Settings) (e : ℕ) (body : List ℕ) (m : Message) (events : List Event) → requests (codes "initialize") m ≡ true → Unheld settings e body m events
unheld_initialize settings e body m events h = unheld_by settings e body m events (named (codes "initialize") events e body m h (λ id ps. and_off (not (is_open id (open_of e events)))))

pub unheld_shutdown : (settings : Settings) (e : ℕ) (body : List ℕ) (m : Message) (events : List Event) → requests (codes "shutdown") m ≡ true → Unheld settings e body m events
unheld_shutdown settings e body m events h = unheld_by settings e body m events (named (codes "shutdown") events e body m h (λ id ps. both (not (is_open id (open_of e events))) (not (is_misplaced (codes "shutdown")))))
  where
    both : (a b : Bool) → (a && (b && false)) ≡ false
    both a b = ap (λ d. a && d) (and_off b) ∙ and_off a

-- the one under an id, as it is looked up
pub meant_found : (settings : Settings) (rows : Rows) (g e : ℕ) (events : List Event) (i : Id) (id : List ℕ) → IsIdText i id → WaitingStand settings rows events → find (is_under e id) (held_of g rows) ≡ find (is_meant e i) (waiting_of settings g events)
meant_found settings rows g e events i id text st = among (held_of g rows) (st g).each ∙ ap (find (is_meant e i)) (st g).same
  where
    one : (r : Request) → IsHeld settings g events r → is_under e id r ≡ is_meant e i r
    one r h = ap (λ b. nat_eq r.editor e && b) (texts_same i h.name id r.id text (held_text settings g events r h) ∙ sym (ap (λ o. option_map_or (same_id i) o false) (text_meant h.name r.id (held_text settings g events r h))))

    among : (rs : List Request) → AllByRecursion (IsHeld settings g events) rs → find (is_under e id) rs ≡ find (is_meant e i) rs
    among [] h = refl
    among (r ∷ rs) h = ap (λ b. cond b (Some r) (find (is_under e id) rs)) (one r h.0) ∙ ap (λ o. cond (is_meant e i r) (Some r) o) (among rs h.1)
