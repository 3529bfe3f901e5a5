-- E6 and J1: why each out of a stop is sent.
use Rattle.std.proofs.Common.{◌≡◌, ℕ, Bool, true, false, cond, ◌&&◌, ◌||◌, List, [], ◌∷◌, ◌++◌, filter, nat_eq, codes, if◌then◌else◌, Some, refl, sym, ◌∙◌, ap, ap₂, subst, append-nil}
use Rattle.std.specs.List.{AllByRecursion}
use Rattle.mux_history.specs.declared.cause.Cause.TheVariants.{FromEditor, Joined}
use Rattle.mux_history.specs.declared.out.Out.{Out}
use Rattle.mux_history.specs.declared.out.Out.TheVariants.{ToEditor, ToServer, Spawn, CloseEditor, EndServer}
use Rattle.rpc_message.specs.Message.{Id, error, id_bytes, message_of}
use Rattle.rpc_message.specs.Texts.{error_text, error_tree, request_failed}
use Rattle.event_model.specs.declared.phase.Phase.TheVariants.{New, Waiting}
use Rattle.event_model.specs.Event.{Event, behind, heard, said, with_cause}
use Rattle.event_model.specs.Phases.{Desk, desk_of, editors_of, is_there, is_waiting, phase_closed}
use Rattle.event_model.specs.Requests.{answered_id, is_open, open_of, without}
use Rattle.event_model.specs.Row.{choose, each, nothing, on, outs, send, Row}
use Rattle.event_model.specs.Settings.{Settings}
use Rattle.event_model.specs.Spawns.{start_of}
use Rattle.mux_facts.proofs.Bodies.{refusal_says}
use Rattle.mux_facts.proofs.Folds.{desk_more, opens_more}
use Rattle.mux_facts.proofs.Reasons.{Because, by_choose, by_look, by_nothing, by_on, by_send, by_then, reasons_keep}
use Rattle.mux_facts.proofs.Rising.{by_rising}
use Rattle.mux_facts.proofs.Table.{desk_untold}
use Rattle.mux_facts.proofs.Waits.{late_not}
use Rattle.mux_facts.proofs.Words.{same_number}
use Rattle.group_words.specs.Houses.{stops}
use Rattle.group_rows.specs.Forwarded.{Forwarded, forwarding_of, is_of}
use Rattle.group_rows.specs.StopRows.{close_each, joined_row, lose_request, lose_requests, refuse_initialize, refuse_open, stopped, there_in}
use Rattle.group_rows.proofs.Stops.{range_below}
use Rattle.group_facts.specs.Facts.{IsForwarded, IsWaiting, is_early, is_put_out, turned_away, AllHeld}
use Rattle.group_facts.specs.Why.{Why, loses, turns_away}
use Rattle.group_facts.proofs.Forwards.{zip_all}
use Rattle.group_facts.proofs.Quits.{stopped_on}
use Rattle.group_facts.proofs.Held.{held_told_all, refuse_held_why}
use Rattle.group_facts.proofs.HeldOuts.{IsToEditor, keeps_told, lose_waiting_by}
use Rattle.group_facts.proofs.Losses.{Apart2, Differ, desk_refused, lost_says, lost_text, next_asker}

module _ (settings : Settings) (before : List Event) (n : ℕ) (body : List ℕ) (stop : stops before n (message_of body) ≡ true) where
  abbrev now : List Event
  now = with_cause before (FromEditor n body)

  abbrev R : List Event → Out → Type 0
  R events out = Why settings before (FromEditor n body) events out

  -- The requests that are open

  -- what is known of editor e where its requests are refused
  record Losing (e : ℕ) (fs : List Forwarded) (events : List Event) : Type 0 where
    over : stopped events ≡ true
    there : is_there (desk_of e events).phase ≡ true
    askers : AllByRecursion (IsForwarded events) fs

  lost_one : (e : ℕ) (events : List Event) (f : Forwarded) → stopped events ≡ true → is_there (desk_of e events).phase ≡ true → f.editor ≡ e → IsForwarded events f → Because R events (lose_request f)
  lost_one e events f over there mine k = by_send (loses (record {
    editor = n;
    asked = body;
    id = k.id;
    x = error_tree request_failed;
    from = refl;
    stop = stop;
    over = over;
    there = subst (λ z. is_there (desk_of z events).phase ≡ true) (sym mine) there;
    late = k.late;
    waits = k.waits;
    says = lost_says events f k;
  }))

  lose_all : (e : ℕ) (fs : List Forwarded) (events : List Event) → AllByRecursion (λ (f : Forwarded). f.editor ≡ e) fs → Differ fs → Losing e fs events → Because R events (each lose_request fs)
  lose_all e [] events editors differ h = by_nothing
  lose_all e (f ∷ fs) events editors differ h = by_then (lost_one e events f h.over h.there editors.0 h.askers.0) (lose_all e fs (events ++ said (ToEditor f.editor (lost_text f)) ∷ []) editors.1 differ.1 (record {
    over = stopped_on events (said (ToEditor f.editor (lost_text f))) h.over;
    there = ap (λ (d : Desk). is_there d.phase) (subst (λ z. desk_of z (events ++ said (ToEditor f.editor (lost_text f)) ∷ []) ≡ desk_of z events) editors.0
        (desk_refused f.editor events (lost_text f) (Some (h.askers.0).id) (error_tree request_failed) (lost_says events f h.askers.0))) ∙ h.there;
    askers = zip_all (λ (g : Forwarded). g.editor ≡ e) (λ (g : Forwarded). Apart2 f g × IsForwarded events g) (IsForwarded (events ++ said (ToEditor f.editor (lost_text f)) ∷ [])) (λ g its both. next_asker e events f h.askers.0 editors.0 g its both.0 both.1) fs editors.1
        (zip_all (Apart2 f) (IsForwarded events) (λ (g : Forwarded). Apart2 f g × IsForwarded events g) (λ g a b. (a, b)) fs differ.0 h.askers.1);
  }))

  -- Editor by editor

  pub record IsTurned (e : ℕ) (events : List Event) : Type 0 where
    pub id : Id
    pub waiting : IsWaiting events e id
    pub turned : turned_away settings before (FromEditor n body) e ≡ true

  pub record IsRefusing (e : ℕ) (events : List Event) : Type 0 where
    pub over : stopped events ≡ true
    pub there : is_there (desk_of e events).phase ≡ true
    pub held : AllHeld settings events
    pub turned : is_waiting (desk_of e events).phase ≡ true → IsTurned e events
    pub askers : (s : ℕ) → AllByRecursion (IsForwarded events) (filter (is_of e) (forwarding_of settings s before).open_requests)

  abbrev first_text : ℕ → List Event → List ℕ
  first_text e events = error_text (id_bytes (desk_of e events).initialize) request_failed

  first_says : (e : ℕ) (events : List Event) (w : IsTurned e events) → message_of (first_text e events) ≡ error (Some w.id) (error_tree request_failed)
  first_says e events w = refusal_says (desk_of e events).initialize w.id (codes "initialize") (w.waiting).params request_failed (w.waiting).asks

  module _ (differ : (e s : ℕ) → Differ (filter (is_of e) (forwarding_of settings s before).open_requests)) (own : (e s : ℕ) → AllByRecursion (λ (f : Forwarded). f.editor ≡ e) (filter (is_of e) (forwarding_of settings s before).open_requests)) where
    losing : (e : ℕ) (events : List Event) → stopped events ≡ true → is_there (desk_of e events).phase ≡ true → ((s : ℕ) → AllByRecursion (IsForwarded events) (filter (is_of e) (forwarding_of settings s before).open_requests)) → Because R events (lose_requests settings before e)
    losing e events over there askers = by_on (λ none. by_nothing) (λ g home. at_group g)
      where
        at_group : (g : ℕ) → Because R events (on (start_of g before) nothing (λ s. each lose_request (filter (is_of e) (forwarding_of settings s before).open_requests)))
        at_group g = by_on (λ none. by_nothing) (λ s start. lose_all e (filter (is_of e) (forwarding_of settings s before).open_requests) events (own e s) (differ e s) (record { over = over; there = there; askers = askers s }))

    -- one that waits has sent on nothing
    none_waiting : (e : ℕ) (events later : List Event) (fs : List Forwarded) → (desk_of e events).phase ≡ Waiting → AllByRecursion (λ (f : Forwarded). f.editor ≡ e) fs → AllByRecursion (IsForwarded events) fs → AllByRecursion (IsForwarded later) fs
    none_waiting e events later [] at editors h = tt
    none_waiting e events later (f ∷ fs) at editors h = absurd (late_not (desk_of f.editor events).phase h.0.late (ap (λ z. (desk_of z events).phase) editors.0 ∙ at))

    only_lost : (e : ℕ) (fs : List Forwarded) (events : List Event) → AllByRecursion (λ (f : Forwarded). f.editor ≡ e) fs → Because (λ places out. IsToEditor e out) events (each lose_request fs)
    only_lost e [] events editors = by_nothing
    only_lost e (f ∷ fs) events editors = by_then (by_send editors.0) (only_lost e fs (events ++ said (ToEditor f.editor (lost_text f)) ∷ []) editors.1)

    only_first : (e : ℕ) (events : List Event) → Because (λ places out. IsToEditor e out) events (refuse_initialize e)
    only_first e events = by_look (by_choose (λ waits. by_send refl) (λ late. by_nothing))

    only_losing : (e : ℕ) (places : List Event) → Because (λ places out. IsToEditor e out) places (lose_requests settings before e)
    only_losing e places = by_on (λ none. by_nothing) (λ g home. at_group g)
      where
        at_group : (g : ℕ) → Because (λ places out. IsToEditor e out) places (on (start_of g before) nothing (λ s. each lose_request (filter (is_of e) (forwarding_of settings s before).open_requests)))
        at_group g = by_on (λ none. by_nothing) (λ s start. only_lost e (filter (is_of e) (forwarding_of settings s before).open_requests) places (own e s))

    only_own : (e : ℕ) (events : List Event) → Because (λ places out. IsToEditor e out) events (refuse_open settings before e)
    only_own e events = by_then (only_first e events) (by_then (only_losing e _) (lose_waiting_by settings before (λ places out. IsToEditor e out) e (λ places text. refl) _))

    held_only : (e : ℕ) (row : Row) (events : List Event) → Because (λ places out. IsToEditor e out) events row → AllHeld settings events → AllHeld settings (behind events (outs row events))
    held_only e row events only h = reasons_keep (λ places out. IsToEditor e out) (AllHeld settings) (keeps_told settings e (AllHeld settings) (λ places text k. held_told_all settings places e text k)) events (outs row events) only.why h

    refused_one : (e : ℕ) (events : List Event) → IsRefusing e events → Because R events (refuse_open settings before e)
    refused_one e events h = by_then first (by_then (subst (λ xs. Because R (behind events xs) (lose_requests settings before e)) (sym (first_outs (is_waiting (desk_of e events).phase))) (rest (is_waiting (desk_of e events).phase) refl))
        (by_on (λ none. by_nothing) (λ g home. refuse_held_why settings before (FromEditor n body) g e (behind refused (outs (lose_requests settings before e) refused))
        (held_only e (lose_requests settings before e) refused (only_losing e refused) (held_only e (refuse_initialize e) events (only_first e events) h.held)))))
      where
        refused : List Event
        refused = behind events (outs (refuse_initialize e) events)

        first : Because R events (refuse_initialize e)
        first = by_look (by_choose (λ waits. let w : IsTurned e events = h.turned waits in by_send (turns_away (record { id = w.id; x = error_tree request_failed; waiting = w.waiting; turned = w.turned; says = first_says e events w }))) (λ late. by_nothing))

        either : Bool → List Out
        either b = outs (choose b (send (ToEditor e (first_text e events))) nothing) events

        first_outs : (b : Bool) → outs (refuse_initialize e) events ≡ either (is_waiting (desk_of e events).phase)
        first_outs b = refl

        told : List Event
        told = events ++ said (ToEditor e (first_text e events)) ∷ []

        rest : (b : Bool) → is_waiting (desk_of e events).phase ≡ b → Because R (behind events (either b)) (lose_requests settings before e)
        rest true waits = let w : IsTurned e events = h.turned waits in losing e told (stopped_on events (said (ToEditor e (first_text e events))) h.over)
            (ap (λ (d : Desk). is_there d.phase) (desk_refused e events (first_text e events) (Some w.id) (error_tree request_failed) (first_says e events w)) ∙ h.there)
            (λ s. none_waiting e events told (filter (is_of e) (forwarding_of settings s before).open_requests) (w.waiting).phase (own e s) (h.askers s))
        rest false late = subst (λ z. Because R z (lose_requests settings before e)) (sym (append-nil events)) (losing e events h.over h.there h.askers)

    -- An out to another editor leaves all of it

    desk_other : (e k : ℕ) (events : List Event) (text : List ℕ) → nat_eq k e ≡ false → desk_of e (events ++ said (ToEditor k text) ∷ []) ≡ desk_of e events
    desk_other e k events text other = desk_more e events (said (ToEditor k text)) ∙ desk_untold e k text (desk_of e events) other

    opens_other : (e k : ℕ) (events : List Event) (text : List ℕ) → nat_eq k e ≡ false → open_of e (events ++ said (ToEditor k text) ∷ []) ≡ open_of e events
    opens_other e k events text other = opens_more e events (said (ToEditor k text)) ∙ ap (λ b. cond b (without (answered_id (message_of text)) (open_of e events)) (open_of e events)) other

    refusing_told : (e k : ℕ) (events : List Event) (text : List ℕ) → nat_eq k e ≡ false → IsRefusing e events → IsRefusing e (events ++ said (ToEditor k text) ∷ [])
    refusing_told e k events text other h = record {
      over = stopped_on events (said (ToEditor k text)) h.over;
      there = ap (λ (d : Desk). is_there d.phase) (desk_other e k events text other) ∙ h.there;
      held = held_told_all settings events k text h.held;
      turned = λ waits. let w : IsTurned e events = h.turned (sym (ap (λ (d : Desk). is_waiting d.phase) (desk_other e k events text other)) ∙ waits) in record {
        id = w.id;
        waiting = record {
          params = (w.waiting).params;
          phase = ap (λ (d : Desk). d.phase) (desk_other e k events text other) ∙ (w.waiting).phase;
          asks = ap (λ (d : Desk). message_of d.initialize) (desk_other e k events text other) ∙ (w.waiting).asks;
          waits = ap (is_open w.id) (opens_other e k events text other) ∙ (w.waiting).waits;
        };
        turned = w.turned;
      };
      askers = λ s. zip_all (λ (f : Forwarded). f.editor ≡ e) (IsForwarded events) (IsForwarded (events ++ said (ToEditor k text) ∷ [])) (λ f its j. record {
        id = j.id;
        text = j.text;
        late = ap (λ (d : Desk). is_early d.phase) (desk_other f.editor k events text (ap (nat_eq k) its ∙ other)) ∙ j.late;
        waits = ap (is_open j.id) (opens_other f.editor k events text (ap (nat_eq k) its ∙ other)) ∙ j.waits;
      }) (filter (is_of e) (forwarding_of settings s before).open_requests) (own e s) (h.askers s);
    }

    refusing_still : (k e : ℕ) (events : List Event) → nat_eq k e ≡ false → IsRefusing e events → IsRefusing e (behind events (outs (refuse_open settings before k) events))
    refusing_still k e events other h = reasons_keep (λ places out. IsToEditor k out) (IsRefusing e) step events (outs (refuse_open settings before k) events) (only_own k events).why h
      where
        step : (places : List Event) (out : Out) → IsToEditor k out → IsRefusing e places → IsRefusing e (places ++ said out ∷ [])
        step places (ToEditor i text) is i_refuses = refusing_told e i places text (ap (λ z. nat_eq z e) is ∙ other) i_refuses
        step places (ToServer i text) is h = absurd is
        step places (Spawn i g) is h = absurd is
        step places (CloseEditor i) is h = absurd is
        step places (EndServer i) is h = absurd is

    pub all_refused : (events : List Event) → ((e : ℕ) → is_there (desk_of e before).phase ≡ true → IsRefusing e events) → Because R events (each (refuse_open settings before) (there_in before))
    all_refused events all = subst (λ ns. Because R events (each (refuse_open settings before) (filter (λ e. is_there (desk_of e before).phase) ns))) (sym (range_below (editors_of before)))
        (by_rising (refuse_open settings before) IsRefusing refused_one refusing_still events (λ e. is_there (desk_of e before).phase) all (editors_of before))

  -- The links

  pub record IsClosing (e : ℕ) (events : List Event) : Type 0 where
    pub out : is_put_out settings before (FromEditor n body) e ≡ true
    pub there : is_there (desk_of e events).phase ≡ true

  closing_still : (k e : ℕ) (events : List Event) → nat_eq k e ≡ false → IsClosing e events → IsClosing e (events ++ said (CloseEditor k) ∷ [])
  closing_still k e events other h = record {
    out = h.out;
    there = ap (λ (d : Desk). is_there d.phase) (desk_more e events (said (CloseEditor k)))
        ∙ ap (λ b. is_there (if b then record { phase = phase_closed (desk_of e events).phase; initialize = (desk_of e events).initialize } else desk_of e events).phase) other ∙ h.there;
  }

  last_of : (a b c : Bool) → c ≡ true → (a || (b || c)) ≡ true
  last_of true b c h = refl
  last_of false true c h = refl
  last_of false false c h = h

  pub all_closed : (events : List Event) → ((e : ℕ) → is_there (desk_of e before).phase ≡ true → IsClosing e events) → Because R events (close_each (there_in before))
  all_closed events all = subst (λ ns. Because R events (close_each (filter (λ e. is_there (desk_of e before).phase) ns))) (sym (range_below (editors_of before)))
      (by_rising (λ e. send (CloseEditor e)) IsClosing (λ e places h. by_send (last_of _ _ (is_put_out settings before (FromEditor n body) e) h.out, h.there)) closing_still events (λ e. is_there (desk_of e before).phase) all (editors_of before))

-- J1

pub joined_why : (settings : Settings) (before : List Event) (e : ℕ) → Because (Why settings before (Joined e)) (with_cause before (Joined e)) (joined_row before e)
joined_why settings before e = by_choose (λ over. by_send (ap₂ (λ a b. a && b) (same_number e) over, there)) (λ goes. by_nothing)
  where
    there : is_there (desk_of e (with_cause before (Joined e))).phase ≡ true
    there = ap (λ (d : Desk). is_there d.phase) (desk_more e before (heard (Joined e))) ∙ ap (λ b. is_there (if b then record { phase = New; initialize = [] } else desk_of e before).phase) (same_number e)
