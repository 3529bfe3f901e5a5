-- E6: why each out of a stop is sent, put together.
use Rattle.std.proofs.Common.{◌≡◌, ℕ, Bool, true, false, cond, ◌&&◌, ◌||◌, List, [], ◌∷◌, ◌++◌, filter, nat_eq, bytes_eq, codes, if◌then◌else◌, Option, Some, refl, sym, ◌∙◌, ap, ap₂, subst, append-nil}
use Rattle.std.specs.List.{AllByRecursion}
use Rattle.std.proofs.lemmas.Bool.{and_parts}
use Rattle.std.proofs.lemmas.List.Elements.{filter-append}
use Rattle.std.proofs.lemmas.Slice.Eq.{bytes_eq-Decides}
use Rattle.json_text.specs.declared.kind.Word.TheVariants.{Null}
use Rattle.json_text.specs.Json.{Json, word}
use Rattle.mux_history.specs.declared.cause.Cause.TheVariants.{FromEditor}
use Rattle.mux_history.specs.declared.out.Out.{Out}
use Rattle.mux_history.specs.declared.out.Out.TheVariants.{ToEditor, ToServer, Spawn, CloseEditor, EndServer}
use Rattle.rpc_message.specs.Message.{Message, request, notification, result, error, not_json, not_message, Id, id_bytes, message_of, same_id}
use Rattle.rpc_message.specs.Texts.{ok_text}
use Rattle.rpc_message.specs.ValueTexts.{IsIdText}
use Rattle.event_model.specs.declared.phase.Phase.{Phase}
use Rattle.event_model.specs.declared.phase.Phase.TheVariants.{Absent, New, Waiting, Answered, Running, Down, Closed, Gone}
use Rattle.event_model.specs.Event.{Event, behind, heard, requests, said, with_cause}
use Rattle.event_model.specs.Parts.{is_of_server, server_part}
use Rattle.event_model.specs.Phases.{Desk, desk_hears, desk_of, is_new, is_there, is_waiting, phase_told}
use Rattle.event_model.specs.Requests.{answered_id, is_open, open_of, with_request, without}
use Rattle.event_model.specs.Row.{each, nothing, on, outs}
use Rattle.event_model.specs.Settings.{Settings}
use Rattle.event_model.specs.Spawns.{start_of}
use Rattle.event_model.specs.Stages.{Life}
use Rattle.mux_facts.specs.Ranges.{InRange}
use Rattle.mux_facts.proofs.Asked.{either_late, hears_open}
use Rattle.mux_facts.proofs.Folds.{desk_more, life_more, number_more, opens_more}
use Rattle.mux_facts.proofs.Late.{hears_late, told_late}
use Rattle.mux_facts.proofs.Lists.{all_filtered}
use Rattle.mux_facts.proofs.Reasons.{Because, by_choose, by_look, by_nothing, by_on, by_send, by_then, reasons_keep}
use Rattle.mux_facts.proofs.Table.{there_taken, waiting_is}
use Rattle.mux_facts.proofs.Waits.{AllWaiting, Waits, waits_at}
use Rattle.mux_facts.proofs.Words.{id_same, number_same, same_number, still_open}
use Rattle.group_words.specs.declared.kept.Kept.{Kept}
use Rattle.group_words.specs.Houses.{declared_for, groups_of, key_for, placed_for, places, stops}
use Rattle.group_words.specs.Placing.{all_from, end_where, is_live, with_editor}
use Rattle.group_words.proofs.Frames.{groups_more}
use Rattle.group_rows.specs.Forwarded.{Forwarded, forwarding_of, is_of}
use Rattle.group_rows.specs.StopRows.{close_each, lose_request, lose_requests, refuse_initialize, refuse_open, stop_row, there_in}
use Rattle.group_facts.specs.Facts.{AllForwarded, Apart, Bounded, IsAlone, IsForwarded, OneRequest, is_early, turned_away, AllHeld}
use Rattle.group_facts.specs.Lively.{lives_at}
use Rattle.group_facts.specs.Why.{IsBeside, Why}
use Rattle.group_facts.proofs.Held.{held_told_all, there_told}
use Rattle.group_facts.proofs.HeldOuts.{lose_waiting_by}
use Rattle.group_facts.proofs.Nulls.{null_said}
use Rattle.group_facts.proofs.Forwards.{zip_all}
use Rattle.group_facts.proofs.Quits.{stopped_now, stopped_on}
use Rattle.group_facts.proofs.RequestRow.{beside, null_why, waited}
use Rattle.group_facts.proofs.Sent.{rising_filtered, rising_of}
use Rattle.group_facts.proofs.StopEnds.{AllOver, IsOnLink, all_end, over_all, over_linked}
use Rattle.group_facts.proofs.Losses.{Differ, differ_of}
use Rattle.group_facts.proofs.StopRow.{IsClosing, IsRefusing, IsTurned, all_closed, all_refused}

-- Bodies to editors alone

abbrev pub IsBody : Out → Type 0
IsBody (ToEditor e text) = Unit {0}
IsBody other = ⊥

pub body_linked : (out : Out) → IsBody out → IsOnLink out
body_linked (ToEditor e text) is = tt
body_linked (ToServer n text) is = absurd is
body_linked (Spawn n g) is = absurd is
body_linked (CloseEditor e) is = absurd is
body_linked (EndServer n) is = absurd is

bodies_lost : (fs : List Forwarded) (events : List Event) → Because (λ places out. IsBody out) events (each lose_request fs)
bodies_lost [] events = by_nothing
bodies_lost (f ∷ fs) events = by_then (by_send tt) (bodies_lost fs _)

pub bodies_refused : (settings : Settings) (before : List Event) (es : List ℕ) (events : List Event) → Because (λ places out. IsBody out) events (each (refuse_open settings before) es)
bodies_refused settings before [] events = by_nothing
bodies_refused settings before (e ∷ es) events = by_then (by_then (by_look (by_choose (λ waits. by_send tt) (λ late. by_nothing))) (by_then (losing (behind events (outs (refuse_initialize e) events))) (lose_waiting_by settings before (λ places out. IsBody out) e (λ places text. tt) _)))
    (bodies_refused settings before es (behind events (outs (refuse_open settings before e) events)))
  where
    at_group : (places : List Event) (g : ℕ) → Because (λ places out. IsBody out) places (on (start_of g before) nothing (λ s. each lose_request (filter (is_of e) (forwarding_of settings s before).open_requests)))
    at_group places g = by_on (λ none. by_nothing) (λ s start. bodies_lost (filter (is_of e) (forwarding_of settings s before).open_requests) places)

    losing : (places : List Event) → Because (λ places out. IsBody out) places (lose_requests settings before e)
    losing places = by_on (λ none. by_nothing) (λ g home. at_group places g)

pub links_closed : (es : List ℕ) (events : List Event) → Because (λ places out. IsOnLink out) events (close_each es)
links_closed [] events = by_nothing
links_closed (e ∷ es) events = by_then (by_send tt) (links_closed es _)

pub stops_places : (phase : Phase) (m : Message) → requests (codes "lspmux/stop") m ≡ true → places phase m ≡ false
stops_places phase (request id method params) h = subst (λ w. (is_new phase && bytes_eq (codes "initialize") w) ≡ false) ((bytes_eq-Decides (codes "lspmux/stop") method).0 h) (and_off (is_new phase))
  where
    and_off : (b : Bool) → (b && false) ≡ false
    and_off true = refl
    and_off false = refl
stops_places phase (notification method params) h = absurd (cc)
stops_places phase (result id r) h = absurd (cc)
stops_places phase (error id x) h = absurd (cc)
stops_places phase not_json h = absurd (cc)
stops_places phase not_message h = absurd (cc)

module _ (settings : Settings) (range : InRange settings) (before : List Event) (bounded : Bounded settings before) (apart : Apart settings before) (waiting : AllWaiting before) (forwarded : AllForwarded settings before) (n : ℕ) (body : List ℕ) (held : AllHeld settings (with_cause before (FromEditor n body)))
    (id : Id) (method : List ℕ) (params : Option Json) (says : message_of body ≡ request id method params) (there : is_there (desk_of n before).phase ≡ true) (lonely : IsAlone settings before n id)
    (other : requests (codes "initialize") (message_of body) ≡ false) (fresh : (desk_of n before).phase ≡ Waiting → is_open id (open_of n before) ≡ false) (stop : stops before n (message_of body) ≡ true) where
  abbrev now : List Event
  now = with_cause before (FromEditor n body)

  abbrev text : List ℕ
  text = ok_text (id_bytes body) (codes "null")

  abbrev told : List Event
  told = now ++ said (ToEditor n text) ∷ []

  abbrev R : List Event → Out → Type 0
  R events out = Why settings before (FromEditor n body) events out

  abbrev Refusing : ℕ → List Event → Type 0
  Refusing = IsRefusing settings before n body stop

  abbrev Closing : ℕ → List Event → Type 0
  Closing = IsClosing settings before n body stop

  text_says : message_of text ≡ result (Some id) (word (record { from = 0; to = 0 }) Null)
  text_says = null_said body id method params says

  -- Behind the answer

  there_now : (e : ℕ) → is_there (desk_of e before).phase ≡ true → is_there (desk_of e now).phase ≡ true
  there_now e h = go (nat_eq n e) refl
    where
      go : (b : Bool) → nat_eq n e ≡ b → is_there (desk_of e now).phase ≡ true
      go true same = subst (λ k. is_there (desk_of k now).phase ≡ true) (number_same n e same) (there_taken settings before n body there)
      go false apart = ap (λ (d : Desk). is_there d.phase) (desk_more e before (heard (FromEditor n body)) ∙ ap (λ b. if b then desk_hears (desk_of e before).phase (desk_of e before).initialize body (message_of body) else desk_of e before) apart) ∙ h

  there_behind : (e : ℕ) → is_there (desk_of e before).phase ≡ true → is_there (desk_of e told).phase ≡ true
  there_behind e h = there_told e n now text (there_now e h)

  or_second : (a b : Bool) → b ≡ true → (a || b) ≡ true
  or_second true b h = refl
  or_second false b h = h

  turned_by : (e : ℕ) → (desk_of e before).phase ≡ Waiting → turned_away settings before (FromEditor n body) e ≡ true
  turned_by e was = or_second _ (stops before n (message_of body) && is_waiting (desk_of e before).phase) (ap₂ (λ a b. a && b) stop (ap is_waiting was))

  -- another editor stands as it stood
  module _ (e : ℕ) (apart_from : nat_eq n e ≡ false) where
    desk_same : desk_of e told ≡ desk_of e before
    desk_same = desk_more e now (said (ToEditor n text))
        ∙ ap (λ b. if b then record { phase = phase_told (desk_of e now).phase (desk_of e now).initialize (message_of text); initialize = (desk_of e now).initialize } else desk_of e now) apart_from
        ∙ desk_more e before (heard (FromEditor n body)) ∙ ap (λ b. if b then desk_hears (desk_of e before).phase (desk_of e before).initialize body (message_of body) else desk_of e before) apart_from

    opens_same : open_of e told ≡ open_of e before
    opens_same = opens_more e now (said (ToEditor n text)) ∙ ap (λ b. cond b (without (answered_id (message_of text)) (open_of e now)) (open_of e now)) apart_from
        ∙ opens_more e before (heard (FromEditor n body)) ∙ ap (λ b. if b then with_request (message_of body) (open_of e before) else open_of e before) apart_from

    turned_other : is_waiting (desk_of e told).phase ≡ true → IsTurned settings before n body stop e told
    turned_other waits =
        let was : (desk_of e before).phase ≡ Waiting = waiting_is (desk_of e before).phase (sym (ap (λ (d : Desk). is_waiting d.phase) desk_same) ∙ waits) in
        let w : Waits (desk_of e before).initialize (open_of e before) = waits_at before e was waiting in
        record {
          id = w.id;
          waiting = record { params = w.params; phase = ap (λ (d : Desk). d.phase) desk_same ∙ was; asks = ap (λ (d : Desk). message_of d.initialize) desk_same ∙ w.asks; waits = ap (is_open w.id) opens_same ∙ w.waits };
          turned = turned_by e was;
        }

  -- its own `initialize` is open under another id
  desk_own : desk_of n told ≡ record { phase = phase_told (desk_of n now).phase (desk_of n now).initialize (message_of text); initialize = (desk_of n now).initialize }
  desk_own = desk_more n now (said (ToEditor n text))
      ∙ ap (λ b. if b then record { phase = phase_told (desk_of n now).phase (desk_of n now).initialize (message_of text); initialize = (desk_of n now).initialize } else desk_of n now) (same_number n)

  waited_on : (phase : Phase) (initialize : List ℕ) (m : Message) → is_waiting (phase_told phase initialize m) ≡ true → phase ≡ Waiting
  waited_on Waiting initialize m h = refl
  waited_on Absent initialize m h = absurd (cc)
  waited_on New initialize m h = absurd (cc)
  waited_on Answered initialize m h = absurd (cc)
  waited_on Running initialize m h = absurd (cc)
  waited_on Down initialize m h = absurd (cc)
  waited_on Closed initialize m h = absurd (cc)
  waited_on Gone initialize m h = absurd (cc)

  turned_own : is_waiting (desk_of n told).phase ≡ true → IsTurned settings before n body stop n told
  turned_own waits =
      let at : (desk_of n now).phase ≡ Waiting = waited_on (desk_of n now).phase (desk_of n now).initialize (message_of text) (sym (ap (λ (d : Desk). is_waiting d.phase) desk_own) ∙ waits) in
      let k : IsBeside now n id = beside settings before n body id method params says there lonely other fresh waiting at in
      record {
        id = k.first;
        waiting = record {
          params = (k.waiting).params;
          phase = waiting_is (desk_of n told).phase waits;
          asks = ap (λ (d : Desk). message_of d.initialize) desk_own ∙ (k.waiting).asks;
          waits = ap (is_open k.first) (opens_more n now (said (ToEditor n text)) ∙ ap₂ (λ b m. cond b (without (answered_id m) (open_of n now)) (open_of n now)) (same_number n) text_says) ∙ still_open id k.first (open_of n now) (k.waiting).waits k.other;
        };
        turned = turned_by n (waited settings before n body id method params says there lonely other fresh waiting at);
      }

  turned_told : (e : ℕ) → is_waiting (desk_of e told).phase ≡ true → IsTurned settings before n body stop e told
  turned_told e waits = go (nat_eq n e) refl
    where
      go : (b : Bool) → nat_eq n e ≡ b → IsTurned settings before n body stop e told
      go true same = let is : n ≡ e = number_same n e same in subst (λ k. IsTurned settings before n body stop k told) is (turned_own (subst (λ k. is_waiting (desk_of k told).phase ≡ true) (sym is) waits))
      go false apart_from = turned_other e apart_from waits

  -- the requests that a start has to answer are open as before
  asker_told : (f : Forwarded) → IsForwarded before f → (f.editor ≡ n → IsIdText id f.id → ⊥) → IsForwarded told f
  asker_told f k alone = record {
    id = k.id;
    text = k.text;
    late = ap (λ (d : Desk). is_early d.phase) (desk_more f.editor now (said (ToEditor n text)))
        ∙ either_late (nat_eq n f.editor) (record { phase = phase_told (desk_of f.editor now).phase (desk_of f.editor now).initialize (message_of text); initialize = (desk_of f.editor now).initialize }) (desk_of f.editor now)
        (ap is_early (told_late (desk_of f.editor now).phase (desk_of f.editor now).initialize (message_of text) late_now) ∙ late_now) late_now;
    waits = ap (is_open k.id) (opens_more f.editor now (said (ToEditor n text))) ∙ go (nat_eq n f.editor) refl;
  }
    where
      late_now : is_early (desk_of f.editor now).phase ≡ false
      late_now = ap (λ (d : Desk). is_early d.phase) (desk_more f.editor before (heard (FromEditor n body)))
          ∙ either_late (nat_eq n f.editor) (desk_hears (desk_of f.editor before).phase (desk_of f.editor before).initialize body (message_of body)) (desk_of f.editor before)
          (hears_late (desk_of f.editor before).phase (desk_of f.editor before).initialize body (message_of body) k.late) k.late

      open_now : is_open k.id (open_of f.editor now) ≡ true
      open_now = ap (is_open k.id) (opens_more f.editor before (heard (FromEditor n body))) ∙ hears_open (nat_eq n f.editor) (message_of body) (open_of f.editor before) k.id k.waits

      apart_from : n ≡ f.editor → (b : Bool) → same_id id k.id ≡ b → b ≡ false
      apart_from same true is = absurd (alone (sym same) (subst (λ z. IsIdText z f.id) (sym (id_same id k.id is)) k.text))
      apart_from same false is = refl

      go : (b : Bool) → nat_eq n f.editor ≡ b → is_open k.id (cond b (without (answered_id (message_of text)) (open_of f.editor now)) (open_of f.editor now)) ≡ true
      go true same = ap (λ m. is_open k.id (without (answered_id m) (open_of f.editor now))) text_says ∙ still_open id k.id (open_of f.editor now) open_now (apart_from (number_same n f.editor same) (same_id id k.id) refl)
      go false away = open_now

  askers_told : (e s : ℕ) → AllByRecursion (IsForwarded told) (filter (is_of e) (forwarding_of settings s before).open_requests)
  askers_told e s = all_filtered (IsForwarded told) (IsForwarded told) (is_of e) (λ f t k. k) (forwarding_of settings s before).open_requests
      (zip_all (IsForwarded before) (λ (f : Forwarded). f.editor ≡ n → IsIdText id f.id → ⊥) (IsForwarded told) asker_told (forwarding_of settings s before).open_requests (forwarded s) (lonely s))

  own : (e s : ℕ) → AllByRecursion (λ (f : Forwarded). f.editor ≡ e) (filter (is_of e) (forwarding_of settings s before).open_requests)
  own e s = all_filtered (IsForwarded before) (λ (f : Forwarded). f.editor ≡ e) (is_of e) (λ f t k. number_same f.editor e t) (forwarding_of settings s before).open_requests (forwarded s)

  differ : (e s : ℕ) → Differ (filter (is_of e) (forwarding_of settings s before).open_requests)
  differ e s = differ_of s e 2 (forwarding_of settings s before).next (filter (is_of e) (forwarding_of settings s before).open_requests) (rising_filtered 2 (forwarding_of settings s before).next (is_of e) (forwarding_of settings s before).open_requests (rising_of settings s before)) (own e s)
      (all_filtered (λ (f : Forwarded). (t : ℕ) → AllByRecursion (OneRequest s f t) (forwarding_of settings t before).open_requests) (λ (f : Forwarded). AllByRecursion (OneRequest s f s) (filter (is_of e) (forwarding_of settings s before).open_requests)) (is_of e)
      (λ f t k. all_filtered (OneRequest s f s) (OneRequest s f s) (is_of e) (λ g u o. o) (forwarding_of settings s before).open_requests (k s)) (forwarding_of settings s before).open_requests (apart s))

  refusing : (e : ℕ) → is_there (desk_of e before).phase ≡ true → Refusing e told
  refusing e h = record { over = stopped_on now (said (ToEditor n text)) (stopped_now before n body stop); there = there_behind e h; held = held_told_all settings now n text held; turned = turned_told e; askers = askers_told e }

  -- Behind the refusals, and behind the links' ends

  abbrev refusals : List Out
  refusals = outs (each (refuse_open settings before) (there_in before)) told

  abbrev mid : List Event
  mid = behind told refusals

  bodies_there : (e : ℕ) (events : List Event) (out : Out) → IsBody out → is_there (desk_of e events).phase ≡ true → is_there (desk_of e (events ++ said out ∷ [])).phase ≡ true
  bodies_there e events (ToEditor k w) is h = there_told e k events w h
  bodies_there e events (ToServer k w) is h = absurd is
  bodies_there e events (Spawn k g) is h = absurd is
  bodies_there e events (CloseEditor k) is h = absurd is
  bodies_there e events (EndServer k) is h = absurd is

  closing : (e : ℕ) → is_there (desk_of e before).phase ≡ true → Closing e mid
  closing e h = record {
    out = ap₂ (λ a b. a && b) stop h;
    there = reasons_keep (λ places out. IsBody out) (λ events. is_there (desk_of e events).phase ≡ true) (bodies_there e) told refusals (bodies_refused settings before (there_in before) told).why (there_behind e h);
  }

  abbrev Over : List Event → Type 0
  Over = AllOver settings range.requests before (FromEditor n body) (λ s. refl) bounded

  over_now : Over now
  over_now = record {
    over = λ g. ap (lives_at g) (groups_more settings before (heard (FromEditor n body)) ∙ ap₂ (hearing_by) (stops_places (desk_of n before).phase (message_of body) (and_parts (requests (codes "lspmux/stop") (message_of body)) _ stop).0) stop) ∙ over_all g (groups_of settings before);
    untouched = λ s ready. record {
      stood = sym (ap (λ (l : Life). l.stage) (life_more s before (heard (FromEditor n body)))) ∙ ready;
      number = number_more s before (heard (FromEditor n body));
      part = filter-append (is_of_server s) before (heard (FromEditor n body) ∷ []) ∙ append-nil (server_part s before);
    };
  }
    where
      hearing_by : Bool → Bool → List Kept
      hearing_by a b = if a then with_editor (placed_for settings before n body (groups_of settings before)) (key_for settings before n body) (declared_for settings before n body) (groups_of settings before) else if b then end_where is_live (groups_of settings before) else groups_of settings before

  link_over : (events : List Event) (out : Out) → IsOnLink out → Over events → Over (events ++ said out ∷ [])
  link_over = over_linked settings range.requests before (FromEditor n body) (λ s. refl) bounded

  over_mid : Over mid
  over_mid = reasons_keep (λ places out. IsBody out) Over (λ events out is. link_over events out (body_linked out is)) told refusals (bodies_refused settings before (there_in before) told).why (link_over now (ToEditor n text) tt over_now)

  abbrev closes : List Out
  closes = outs (close_each (there_in before)) mid

  over_closed : Over (behind mid closes)
  over_closed = reasons_keep (λ places out. IsOnLink out) Over link_over mid closes (links_closed (there_in before) mid).why over_mid

  pub stop_why : Because R now (stop_row settings before n body)
  stop_why = by_then (null_why settings before n body id method params says there lonely other fresh waiting)
      (by_then (all_refused settings before n body stop differ own told refusing)
      (by_then (all_closed settings before n body stop mid closing)
      (all_end settings range.requests before (FromEditor n body) (λ s. refl) bounded (all_from 0 is_live (groups_of settings before)) (behind mid closes) over_closed)))
