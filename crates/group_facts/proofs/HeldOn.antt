-- Requests that wait, behind a cause and behind a body to a start.
use Rattle.std.proofs.Common.{◌≡◌, ℕ, Bool, true, false, not, ◌&&◌, List, [], ◌∷◌, ◌++◌, nat_eq, bytes_eq, codes, decimal, length, if◌then◌else◌, Option, None, Some, refl, sym, ◌∙◌, ap, subst}
use Rattle.std.proofs.lemmas.Bool.{and_parts}
use Rattle.std.specs.List.{AllByRecursion}
use Rattle.json_text.specs.Json.{Json}
use Rattle.document_model.proofs.Written.{Spoken, spoken}
use Rattle.mux_history.specs.declared.cause.Cause.{Cause}
use Rattle.mux_history.specs.declared.cause.Cause.TheVariants.{Joined, FromEditor, EditorGone, Started, StartFailed, FromServer, ServerGone, Drained, Tick}
use Rattle.mux_history.specs.declared.cause.Why as link
use Rattle.mux_history.specs.declared.out.Out.TheVariants.{ToServer}
use Rattle.lsp_method.specs.Class.{class_of}
use Rattle.lsp_method.specs.declared.variants.Origin.TheVariants.{Editor}
use Rattle.rpc_message.specs.Message.{Message, request, notification, result, error, not_json, not_message, Id, id_bytes, integer, message_of}
use Rattle.rpc_message.proofs.Ids.{request_id_bytes}
use Rattle.event_model.specs.declared.phase.Phase.{Phase}
use Rattle.event_model.specs.declared.phase.Phase.TheVariants.{Answered, Gone, New, Running}
use Rattle.event_model.specs.Event.{Event, heard, requests, said, with_cause}
use Rattle.event_model.specs.Members.{params_of}
use Rattle.event_model.specs.Phases.{Desk, desk_behind, desk_hears, desk_of, is_multiplexer_request, is_new, is_served, is_there}
use Rattle.event_model.specs.Requests.{is_open, next_number, open_of}
use Rattle.event_model.specs.Settings.{Settings}
use Rattle.mux_model.specs.Fits.{fits_behind}
use Rattle.mux_model.specs.Methods.{is_wrong}
use Rattle.mux_facts.proofs.Asked.{either_late}
use Rattle.mux_facts.proofs.Editors.{Editors}
use Rattle.mux_facts.proofs.Folds.{desk_more}
use Rattle.mux_facts.proofs.Late.{hears_late}
use Rattle.mux_facts.proofs.Lists.{all_filtered, all_join, all_of}
use Rattle.mux_facts.proofs.Table.{late_taken, open_taken, there_taken}
use Rattle.mux_facts.proofs.Why.{is_early}
use Rattle.mux_facts.proofs.Words.{number_same}
use Rattle.event_model.proofs.Frames.{never}
use Rattle.group_words.specs.Houses.{home_of, house_of, is_doubled, is_home, placed_for, places}
use Rattle.group_words.specs.Placing.{home_by}
use Rattle.group_words.proofs.Frames.{home_more, home_stays}
use Rattle.group_rows.specs.held_requests.specs.declared.request.Request.{Request}
use Rattle.group_rows.specs.held_requests.specs.Tables.{asked, is_of, takes}
use Rattle.group_rows.specs.StopRows.{stopped as is_stopped}
use Rattle.group_rows.specs.Reserved.{reserves}
use Rattle.group_rows.specs.Waiting.{is_for_start, is_misplaced, is_restarting, waiting_of, waits}
use Rattle.group_rows.proofs.Frames.{waiting_more, waiting_stays}
use Rattle.group_facts.specs.Facts.{AllForwarded, AllHeld, AreHeld, HasOtherId, HaveOtherIds, IsHeld, Quit, is_exit}
use Rattle.group_facts.specs.Why.{WhyToServer, begins, cancels, cancels_work, conveys, exits, forwarded, greets, notes, resolves, responds, shuts, tells}
use Rattle.group_facts.proofs.Apart.{alone_by, fewer_took, one_id, own_fewer, response_fewer}
use Rattle.group_facts.proofs.Askers.{late_heard, open_heard}
use Rattle.group_facts.proofs.Forwards.{alone_fewer, fewer_notified}
use Rattle.group_facts.proofs.Held.{are_asked, are_sent, held_more, others_filtered, others_joined, not_true, swapped_numbers}
use Rattle.group_facts.proofs.Quits.{not_stopped}
use Rattle.group_facts.proofs.RequestRow.{not_own}
use Rattle.group_facts.proofs.SharedRows.{off_first}

-- A body to a start

pub held_sent_all : (settings : Settings) (before : List Event) (cause : Cause) (events : List Event) (n : ℕ) (body : List ℕ) → WhyToServer settings before cause events n body → AllHeld settings events → AllHeld settings (events ++ said (ToServer n body) ∷ [])
held_sent_all settings before cause events n body (begins k) h g = are_sent settings g events (h g) n body (own_fewer settings before cause events n body (integer (codes "1")) (codes "initialize") k.params k.says refl)
held_sent_all settings before cause events n body (greets k) h g = are_sent settings g events (h g) n body (fewer_notified settings n events body (codes "initialized") k.params k.says)
held_sent_all settings before cause events n body (conveys k) h g = are_sent settings g events (h g) n body (fewer_notified settings n events body (codes "workspace/didChangeConfiguration") k.params k.says)
held_sent_all settings before cause events n body (forwarded k) h g = are_asked settings g events (h g) before cause n body k
held_sent_all settings before cause events n body (notes k) h g = are_sent settings g events (h g) n body (fewer_notified settings n events body k.method k.params k.says)
held_sent_all settings before cause events n body (tells k) h g = let m : Spoken (message_of body) = spoken (message_of body) k.spoken in are_sent settings g events (h g) n body (fewer_notified settings n events body m.method m.params m.is)
held_sent_all settings before cause events n body (cancels k) h g = are_sent settings g events (h g) n body (fewer_notified settings n events body (codes "$/cancelRequest") (Some k.params) k.says)
held_sent_all settings before cause events n body (cancels_work k) h g = are_sent settings g events (h g) n body (fewer_notified settings n events body (codes "window/workDoneProgress/cancel") k.params k.says)
held_sent_all settings before cause events n body (responds k) h g = are_sent settings g events (h g) n body (response_fewer settings before cause events n body k.response)
held_sent_all settings before cause events n body (resolves k) h g = are_sent settings g events (h g) n body (response_fewer settings before cause events n body k.response)
held_sent_all settings before cause events n body (exits k) h g = are_sent settings g events (h g) n body (fewer_notified settings n events body (codes "exit") None k.says)
held_sent_all settings before cause events n body (shuts k) h g = are_sent settings g events (h g) n body (own_fewer settings before cause events n body (integer (decimal (next_number n events))) (codes "shutdown") None k.says refl)

-- A cause

-- one that is served got its result
pub served_late : (phase : Phase) → is_served phase ≡ true → is_early phase ≡ false
served_late Answered s = refl
served_late Running s = refl
served_late other s = never (sym s)

-- an editor that isn't new stays where it is
late_new : (phase : Phase) → is_early phase ≡ false → is_new phase ≡ false
late_new New late = never late
late_new other late = refl

home_asked : (settings : Settings) (events : List Event) (n e : ℕ) (body : List ℕ) → is_early (desk_of e events).phase ≡ false → home_of settings e (with_cause events (FromEditor n body)) ≡ home_of settings e events
home_asked settings events n e body late = home_more settings e events (heard (FromEditor n body)) ∙ go (nat_eq n e) refl
  where
    go : (b : Bool) → nat_eq n e ≡ b → (if b && places (desk_of n events).phase (message_of body) then home_by (placed_for settings events n body ((house_of settings events).groups)) (home_of settings e events) else home_of settings e events) ≡ home_of settings e events
    go true same = ap (λ c. if c && requests (codes "initialize") (message_of body) then home_by (placed_for settings events n body ((house_of settings events).groups)) (home_of settings e events) else home_of settings e events)
        (late_new (desk_of n events).phase (ap (λ z. is_early (desk_of z events).phase) (number_same n e same) ∙ late))
    go false other = refl

module _ (settings : Settings) (g : ℕ) (events : List Event) where
  -- what waits stays, as its editor is there
  still : (cause : Cause) (r : Request) (k : IsHeld settings g events r) → is_early (desk_behind r.editor (desk_of r.editor events) (heard cause)).phase ≡ false → is_there (desk_behind r.editor (desk_of r.editor events) (heard cause)).phase ≡ true → home_of settings r.editor (with_cause events cause) ≡ home_of settings r.editor events
      → IsHeld settings g (with_cause events cause) r
  still cause r k late there home = held_more settings g events (heard cause) r k late there (open_heard events r.editor (k.asker).id (k.asker).waits cause)
      (home ∙ k.home) (alone_fewer settings events (with_cause events cause) (fewer_took settings events cause) r.editor (k.asker).id k.alone)

  there_asked : (n : ℕ) (body : List ℕ) (r : Request) → IsHeld settings g events r → is_there (desk_behind r.editor (desk_of r.editor events) (heard (FromEditor n body))).phase ≡ true
  there_asked n body r k = ap (λ (d : Desk). is_there d.phase) (sym (desk_more r.editor events (heard (FromEditor n body)))) ∙ go (nat_eq n r.editor) refl
    where
      go : (b : Bool) → nat_eq n r.editor ≡ b → is_there (desk_of r.editor (with_cause events (FromEditor n body))).phase ≡ true
      go true same = subst (λ z. is_there (desk_of z (with_cause events (FromEditor n body))).phase ≡ true) (number_same n r.editor same) (there_taken settings events n body (ap (λ z. is_there (desk_of z events).phase) (number_same n r.editor same) ∙ k.there))
      go false other = ap (λ (d : Desk). is_there d.phase) (desk_more r.editor events (heard (FromEditor n body))) ∙ (ap (λ b. is_there (if b then desk_hears (desk_of r.editor events).phase (desk_of r.editor events).initialize body (message_of body) else desk_of r.editor events).phase) other ∙ k.there)

  late_asked : (n : ℕ) (body : List ℕ) (r : Request) → IsHeld settings g events r → is_early (desk_behind r.editor (desk_of r.editor events) (heard (FromEditor n body))).phase ≡ false
  late_asked n body r k = either_late (nat_eq n r.editor) (desk_hears (desk_of r.editor events).phase (desk_of r.editor events).initialize body (message_of body)) (desk_of r.editor events)
      (hears_late (desk_of r.editor events).phase (desk_of r.editor events).initialize body (message_of body) (k.asker).late) (k.asker).late

  -- behind a message of an editor
  pub held_asked : (n : ℕ) (body : List ℕ) (r : Request) → IsHeld settings g events r → IsHeld settings g (with_cause events (FromEditor n body)) r
  held_asked n body r k = still (FromEditor n body) r k (late_asked n body r k) (there_asked n body r k) (home_asked settings events n r.editor body (k.asker).late)

  there_joined : (n : ℕ) (r : Request) → IsHeld settings g events r → (b : Bool) → is_there (if b then record { phase = New; initialize = [] } else desk_of r.editor events).phase ≡ true
  there_joined n r k true = refl
  there_joined n r k false = k.there

  there_gone : (n : ℕ) (r : Request) → IsHeld settings g events r → (b : Bool) → b ≡ false → is_there (if b then record { phase = Gone; initialize = (desk_of r.editor events).initialize } else desk_of r.editor events).phase ≡ true
  there_gone n r k true h = never h
  there_gone n r k false h = k.there

  late_gone : (n : ℕ) (r : Request) → IsHeld settings g events r → (b : Bool) → b ≡ false → is_early (if b then record { phase = Gone; initialize = (desk_of r.editor events).initialize } else desk_of r.editor events).phase ≡ false
  late_gone n r k true h = never h
  late_gone n r k false h = (k.asker).late

  -- a further one that waits
  module _ (quit : Quit events) (known : is_stopped events ≡ false → AllForwarded settings events) (h : AreHeld settings g events) (n : ℕ) (body : List ℕ) where
    abbrev now : List Event
    now = with_cause events (FromEditor n body)

    abbrev rs : List Request
    rs = waiting_of settings g events

    abbrev new_one : Request
    new_one = asked n (id_bytes body) body

    old_ones : AllByRecursion (IsHeld settings g now) rs
    old_ones = all_of (IsHeld settings g events) (IsHeld settings g now) (held_asked n body) rs h.each

    served_there : (phase : Phase) → is_served phase ≡ true → is_there phase ≡ true
    served_there Answered s = refl
    served_there Running s = refl
    served_there other s = never (sym s)

    home_is : (o : Option ℕ) → is_home g o ≡ true → o ≡ Some g
    home_is (Some i) at = ap (λ z. Some z) (number_same i g at)
    home_is None at = never (sym at)

    module _ (id : Id) (method : List ℕ) (params : Option Json) (says : message_of body ≡ request id method params) (home : is_home g (home_of settings n events) ≡ true) (served : is_served (desk_of n events).phase ≡ true)
        (fresh : is_open id (open_of n events) ≡ false) (placed : is_misplaced method ≡ false) (on : bytes_eq (codes "shutdown") method ≡ false) (free : reserves (params_of body) ≡ false) where
      there : is_there (desk_of n events).phase ≡ true
      there = served_there (desk_of n events).phase served

      late : is_early (desk_of n events).phase ≡ false
      late = served_late (desk_of n events).phase served

      new_held : IsHeld settings g now new_one
      new_held = record {
        asker = record { id = id; text = request_id_bytes body id method params says; late = late_taken events n body late; waits = open_taken events n body id method params says };
        there = there_taken settings events n body there;
        home = home_asked settings events n n body late ∙ home_is (home_of settings n events) home;
        alone = alone_fewer settings events now (fewer_took settings events (FromEditor n body)) n id (alone_by settings events (known (not_stopped events quit n there)) n id fresh);
        method = method;
        params = params;
        says = says;
        bytes = refl;
        other = not_own method (off_first (bytes_eq (codes "initialize") method) (is_wrong (class_of method Editor false)) placed) on;
        free = free;
      }

      -- those before it are open, and so have other ids
      new_other : (r : Request) → IsHeld settings g events r → HasOtherId r new_one
      new_other r k i mine text its = never (sym (subst (λ z. is_open z (open_of n events) ≡ true) (one_id (k.asker).id i r.id (k.asker).text text ∙ one_id i id (id_bytes body) its (request_id_bytes body id method params says))
          (ap (λ z. is_open (k.asker).id (open_of z events)) mine ∙ (k.asker).waits)) ∙ fresh)

      with_new : AllByRecursion (IsHeld settings g now) (rs ++ new_one ∷ []) × HaveOtherIds (rs ++ new_one ∷ [])
      with_new = (all_join (IsHeld settings g now) rs (new_one ∷ []) old_ones (new_held, tt), others_joined new_one rs h.apart (all_of (IsHeld settings g events) (λ (r : Request). HasOtherId r new_one) new_other rs h.each))

    off : (b : Bool) → (b && false) ≡ false
    off true = refl
    off false = refl

    new_by : (m : Message) → message_of body ≡ m → waits settings g events n body m rs ≡ true → AllByRecursion (IsHeld settings g now) (rs ++ new_one ∷ []) × HaveOtherIds (rs ++ new_one ∷ [])
    new_by (request id method params) says test =
        let p = and_parts (is_home g (home_of settings n events) && is_served (desk_of n events).phase) (is_for_start events n body (request id method params) && (is_restarting g events && takes n (length body) rs)) test in
        let q = and_parts (is_home g (home_of settings n events)) (is_served (desk_of n events).phase) p.0 in
        let f = and_parts (is_for_start events n body (request id method params)) (is_restarting g events && takes n (length body) rs) p.1 in
        let a = and_parts (not (is_doubled events n (request id method params))) (not (is_multiplexer_request (request id method params)) && (not (is_misplaced method) && (not (bytes_eq (codes "shutdown") method) && not (reserves (params_of body))))) f.0 in
        let b = and_parts (not (is_multiplexer_request (request id method params))) (not (is_misplaced method) && (not (bytes_eq (codes "shutdown") method) && not (reserves (params_of body)))) a.1 in
        let c = and_parts (not (is_misplaced method)) (not (bytes_eq (codes "shutdown") method) && not (reserves (params_of body))) b.1 in
        let d = and_parts (not (bytes_eq (codes "shutdown") method)) (not (reserves (params_of body))) c.1 in
        with_new id method params says q.0 q.1 (not_true (is_open id (open_of n events)) a.0) (not_true (is_misplaced method) c.0) (not_true (bytes_eq (codes "shutdown") method) d.0) (not_true (reserves (params_of body)) d.1)
    new_by (notification method params) says test = never (sym test ∙ off (is_home g (home_of settings n events) && is_served (desk_of n events).phase))
    new_by (result id r) says test = never (sym test ∙ off (is_home g (home_of settings n events) && is_served (desk_of n events).phase))
    new_by (error id x) says test = never (sym test ∙ off (is_home g (home_of settings n events) && is_served (desk_of n events).phase))
    new_by not_json says test = never (sym test ∙ off (is_home g (home_of settings n events) && is_served (desk_of n events).phase))
    new_by not_message says test = never (sym test ∙ off (is_home g (home_of settings n events) && is_served (desk_of n events).phase))

    are_heard : AreHeld settings g now
    are_heard = go (waits settings g events n body (message_of body) rs) refl
      where
        go : (b : Bool) → waits settings g events n body (message_of body) rs ≡ b → AreHeld settings g now
        go true test = let w = new_by (message_of body) refl test in record {
          each = subst (AllByRecursion (IsHeld settings g now)) (sym (waiting_more settings g events (heard (FromEditor n body)) ∙ ap (λ c. if c then rs ++ new_one ∷ [] else rs) test)) w.0;
          apart = subst HaveOtherIds (sym (waiting_more settings g events (heard (FromEditor n body)) ∙ ap (λ c. if c then rs ++ new_one ∷ [] else rs) test)) w.1;
        }
        go false test = record {
          each = subst (AllByRecursion (IsHeld settings g now)) (sym (waiting_more settings g events (heard (FromEditor n body)) ∙ ap (λ c. if c then rs ++ new_one ∷ [] else rs) test)) old_ones;
          apart = subst HaveOtherIds (sym (waiting_more settings g events (heard (FromEditor n body)) ∙ ap (λ c. if c then rs ++ new_one ∷ [] else rs) test)) h.apart;
        }

  -- a cause that leaves them
  are_still : (cause : Cause) → AreHeld settings g events → waiting_of settings g (with_cause events cause) ≡ waiting_of settings g events → ((r : Request) → IsHeld settings g events r → is_early (desk_behind r.editor (desk_of r.editor events) (heard cause)).phase ≡ false) → ((r : Request) → IsHeld settings g events r → is_there (desk_behind r.editor (desk_of r.editor events) (heard cause)).phase ≡ true)
      → ((r : Request) → home_of settings r.editor (with_cause events cause) ≡ home_of settings r.editor events) → AreHeld settings g (with_cause events cause)
  are_still cause h is late there home = record {
    each = subst (AllByRecursion (IsHeld settings g (with_cause events cause))) (sym is) (all_of (IsHeld settings g events) (IsHeld settings g (with_cause events cause)) (λ r k. still cause r k (late r k) (there r k) (home r)) (waiting_of settings g events) h.each);
    apart = subst HaveOtherIds (sym is) h.apart;
  }

  -- the link of an editor is gone
  are_left : (n : ℕ) (why : link.Why) → AreHeld settings g events → AreHeld settings g (with_cause events (EditorGone n why))
  are_left n why h = record {
    each = subst (AllByRecursion (IsHeld settings g now)) (sym (waiting_more settings g events (heard (EditorGone n why)))) (all_filtered (IsHeld settings g events) (IsHeld settings g now) (λ r. not (is_of n r)) left_one (waiting_of settings g events) h.each);
    apart = subst HaveOtherIds (sym (waiting_more settings g events (heard (EditorGone n why)))) (others_filtered (λ r. not (is_of n r)) (waiting_of settings g events) h.apart);
  }
    where
      now : List Event
      now = with_cause events (EditorGone n why)

      left_one : (r : Request) → not (is_of n r) ≡ true → IsHeld settings g events r → IsHeld settings g now r
      left_one r t k = let other : nat_eq n r.editor ≡ false = swapped_numbers r.editor n (not_true (is_of n r) t) in
          still (EditorGone n why) r k (late_gone n r k (nat_eq n r.editor) other) (there_gone n r k (nat_eq n r.editor) other) (home_stays settings r.editor events (heard (EditorGone n why)) other)

-- what a server says, and its exit, leave what waits
pub held_answered : (settings : Settings) (events : List Event) (n : ℕ) (body : List ℕ) → AllHeld settings events → AllHeld settings (with_cause events (FromServer n body))
held_answered settings events n body h g = are_still settings g events (FromServer n body) (h g) (waiting_stays settings g events (heard (FromServer n body)) refl) (λ r k. (k.asker).late) (λ r k. k.there) (λ r. home_stays settings r.editor events (heard (FromServer n body)) refl)

pub held_failed : (settings : Settings) (events : List Event) (n : ℕ) → AllHeld settings events → AllHeld settings (with_cause events (StartFailed n))
held_failed settings events n h g = are_still settings g events (StartFailed n) (h g) (waiting_stays settings g events (heard (StartFailed n)) refl) (λ r k. (k.asker).late) (λ r k. k.there) (λ r. home_stays settings r.editor events (heard (StartFailed n)) refl)

pub held_exited : (settings : Settings) (events : List Event) (n : ℕ) → AllHeld settings events → AllHeld settings (with_cause events (ServerGone n))
held_exited settings events n h g = are_still settings g events (ServerGone n) (h g) (waiting_stays settings g events (heard (ServerGone n)) refl) (λ r k. (k.asker).late) (λ r k. k.there) (λ r. home_stays settings r.editor events (heard (ServerGone n)) refl)

pub held_exit : (settings : Settings) (events : List Event) (cause : Cause) (s : ℕ) → is_exit cause s ≡ true → AllHeld settings events → AllHeld settings (with_cause events cause)
held_exit settings events (StartFailed n) s is h = held_failed settings events n h
held_exit settings events (ServerGone n) s is h = held_exited settings events n h
held_exit settings events (Joined n) s is h = never (sym is)
held_exit settings events (FromEditor n body) s is h = never (sym is)
held_exit settings events (EditorGone n why) s is h = never (sym is)
held_exit settings events (Started n) s is h = never (sym is)
held_exit settings events (FromServer n body) s is h = never (sym is)
held_exit settings events (Drained n k) s is h = never (sym is)
held_exit settings events (Tick t) s is h = never (sym is)

-- and a message of an editor that is there
pub held_heard : (settings : Settings) (events : List Event) (n : ℕ) (body : List ℕ) → Quit events → (is_stopped events ≡ false → AllForwarded settings events) → AllHeld settings events → AllHeld settings (with_cause events (FromEditor n body))
held_heard settings events n body quit known h g = are_heard settings g events quit known (h g) n body

pub held_took : (settings : Settings) (events : List Event) (cause : Cause) → fits_behind events cause ≡ true → Editors events → Quit events → (is_stopped events ≡ false → AllForwarded settings events) → AllHeld settings events → AllHeld settings (with_cause events cause)
held_took settings events (FromEditor n body) fits none quit known h g = held_heard settings events n body quit known h g
held_took settings events (EditorGone n why) fits none quit known h g = are_left settings g events n why (h g)
held_took settings events (Joined n) fits none quit known h g = are_still settings g events (Joined n) (h g) (waiting_stays settings g events (heard (Joined n)) refl) (λ r k. late_heard events r.editor (k.asker).late (Joined n) fits none) (λ r k. there_joined settings g events n r k (nat_eq n r.editor)) (λ r. home_stays settings r.editor events (heard (Joined n)) refl)
held_took settings events (Started n) fits none quit known h g = are_still settings g events (Started n) (h g) (waiting_stays settings g events (heard (Started n)) refl) (λ r k. (k.asker).late) (λ r k. k.there) (λ r. home_stays settings r.editor events (heard (Started n)) refl)
held_took settings events (StartFailed n) fits none quit known h g = held_failed settings events n h g
held_took settings events (FromServer n body) fits none quit known h g = held_answered settings events n body h g
held_took settings events (ServerGone n) fits none quit known h g = held_exited settings events n h g
held_took settings events (Drained n k) fits none quit known h g = are_still settings g events (Drained n k) (h g) (waiting_stays settings g events (heard (Drained n k)) refl) (λ r j. (j.asker).late) (λ r j. j.there) (λ r. home_stays settings r.editor events (heard (Drained n k)) refl)
held_took settings events (Tick t) fits none quit known h g = are_still settings g events (Tick t) (h g) (waiting_stays settings g events (heard (Tick t)) refl) (λ r k. (k.asker).late) (λ r k. k.there) (λ r. home_stays settings r.editor events (heard (Tick t)) refl)

-- a request that isn't for the start makes none wait
pub unheld_heard : (settings : Settings) (events : List Event) (n : ℕ) (body : List ℕ) → is_for_start events n body (message_of body) ≡ false → (g : ℕ) → waiting_of settings g (with_cause events (FromEditor n body)) ≡ waiting_of settings g events
unheld_heard settings events n body not_for g = waiting_more settings g events (heard (FromEditor n body))
    ∙ ap (λ b. if b then waiting_of settings g events ++ asked n (id_bytes body) body ∷ [] else waiting_of settings g events) (off (is_home g (home_of settings n events) && is_served (desk_of n events).phase) (is_for_start events n body (message_of body)) not_for)
  where
    off : (a b : Bool) → b ≡ false → (a && (b && (is_restarting g events && takes n (length body) (waiting_of settings g events)))) ≡ false
    off true b h = ap (λ z. z && (is_restarting g events && takes n (length body) (waiting_of settings g events))) h
    off false b h = refl

pub shutdown_not : (events : List Event) (n : ℕ) (body : List ℕ) (id : Id) (method : List ℕ) (params : Option Json) → message_of body ≡ request id method params → bytes_eq (codes "shutdown") method ≡ true → is_for_start events n body (message_of body) ≡ false
shutdown_not events n body id method params says down = ap (is_for_start events n body) says
    ∙ go (not (is_doubled events n (request id method params))) (not (is_multiplexer_request (request id method params))) (not (is_misplaced method)) (bytes_eq (codes "shutdown") method) down
  where
    go : (a b c d : Bool) → d ≡ true → (a && (b && (c && (not d && not (reserves (params_of body)))))) ≡ false
    go true true true d h = ap (λ z. not z && not (reserves (params_of body))) h
    go true true false d h = refl
    go true false c d h = refl
    go false b c d h = refl
