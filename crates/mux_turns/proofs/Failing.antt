-- What is open at an editor fails: its `initialize`, and its requests.
use Rattle.std.proofs.Common.{◌≡◌, ℕ, zero, suc, ◌<◌, Bool, true, false, List, [], ◌∷◌, ◌++◌, filter, map, length, get_or, nat_eq, if◌then◌else◌, refl, ap, ap₂, sym, subst, ◌∙◌, append-nil, arith}
use Rattle.std.specs.List.{AllByRecursion}
use Rattle.std.specs.Prelude.{Option, None, Some, slice_get}
use Rattle.mux_history.specs.declared.out.Out.{Out}
use Rattle.mux_history.specs.declared.out.Out.TheVariants.{ToEditor, ToServer, Spawn, CloseEditor, EndServer}
use Rattle.rpc_message.specs.Message.{Message, id_bytes, message_of}
use Rattle.rpc_message.specs.ValueTexts.{IsIdText}
use Rattle.rpc_message.specs.Texts.{error_text, request_failed}
use Rattle.rpc_message.proofs.Ids.{request_id_bytes}
use Rattle.event_model.specs.declared.phase.Phase.{Phase}
use Rattle.event_model.specs.declared.phase.Phase.TheVariants.{Gone, Waiting}
use Rattle.event_model.specs.Does.{Alike, Does}
use Rattle.event_model.specs.Event.{Event, behind, said}
use Rattle.event_model.specs.Phases.{Desk, desk_behind, desk_of, is_waiting, phase_closed, phase_told}
use Rattle.event_model.specs.Row.{choose, each, nothing, outs, send}
use Rattle.event_model.specs.Settings.{Settings}
use Rattle.event_model.proofs.Frames.{never, one_more}
use Rattle.event_model.proofs.Turns.{alike, behind_more, does_false, does_knowing, does_look, does_nothing, does_true}
use Rattle.group_facts.specs.Facts.{IsForwarded}
use Rattle.group_facts.specs.group_rows.specs.Forwarded.{Forwarded, is_of}
use Rattle.group_facts.specs.group_rows.specs.StopRows.{lose_request, refuse_initialize}
use Rattle.group_facts.specs.mux_facts.proofs.Table.{waiting_is}
use Rattle.group_facts.specs.mux_facts.proofs.Words.{number_same}
use Rattle.mux_tables.specs.declared.tables.Tables.{Tables}
use Rattle.mux_tables.specs.Halts.{ids_at}
use Rattle.mux_tables.specs.Names.{id_in}
use Rattle.mux_tables.specs.Stands.{Stands}
use Rattle.mux_turns.specs.Initials.{AllHoused, IsNamed, refuse_id}
use Rattle.mux_turns.specs.Welcomes.{AllAsking}

none_some : {A : Type 0} {x : A} → ◌≡◌ {A = Option A} None (Some x) → ⊥
none_some e = cc

some_same : {A : Type 0} {x y : A} → ◌≡◌ {A = Option A} (Some x) (Some y) → x ≡ y
some_same e = cc

module _ (settings : Settings) (t : Tables) (base : List Event) (xs : List Out) (e : ℕ) where
  abbrev now : List Event
  now = behind base xs

  abbrev Refuses : List Out → Type 0
  Refuses ys = Does (λ t events. Stands settings t events) (refuse_initialize e) base t xs t ys

  pub unwaiting_none : (Stands settings t now → is_waiting (desk_of e now).phase ≡ false) → Refuses xs
  unwaiting_none off = does_look (λ st. ap (λ b. choose b (send (ToEditor e (error_text (id_bytes (desk_of e now).initialize) request_failed))) nothing) (off st)) (does_false does_nothing)

  -- its id is kept
  kept : AllHoused settings now → Stands settings t now → is_waiting (desk_of e now).phase ≡ true → id_in (slice_get t.editors e) ≡ Some (id_bytes (desk_of e now).initialize)
  kept housed st waits =
      let at : (desk_of e now).phase ≡ Waiting = waiting_is (desk_of e now).phase waits in
      let home = housed e at in
      (st.house.editors.names e).own home.0 at home.1

  pub refuses_none : AllHoused settings now → id_in (slice_get t.editors e) ≡ None → (Stands settings t now → is_waiting (desk_of e now).phase ≡ true) → Refuses xs
  refuses_none housed none waits = does_knowing (λ st. absurd (none_some (sym none ∙ kept housed st (waits st))))

module _ (settings : Settings) (t u : Tables) (base : List Event) (xs ys : List Out) (e : ℕ) (asking : AllAsking (behind base xs)) (housed : AllHoused settings (behind base xs)) (id : List ℕ) (is : id_in (slice_get t.editors e) ≡ Some id) where
  pub refuses_waiting : (Stands settings t (behind base xs) → is_waiting (desk_of e (behind base xs)).phase ≡ true) → (IsNamed id → Does (λ t events. Stands settings t events) (refuse_id e id) base t xs u ys)
      → Does (λ t events. Stands settings t events) (refuse_initialize e) base t xs u ys
  refuses_waiting waits d = does_knowing (λ st.
      let desk = desk_of e (behind base xs) in
      let at : desk.phase ≡ Waiting = waiting_is desk.phase (waits st) in
      let same : id ≡ id_bytes desk.initialize = some_same (sym is ∙ kept settings t base xs e housed st (waits st)) in
      let asks = asking e at in
      let named : IsNamed id = (asks.name, subst (λ w. IsIdText asks.name w) (sym same) (request_id_bytes desk.initialize asks.name asks.method asks.params asks.says)) in
      does_look (λ _. ap (λ b. choose b (send (ToEditor e (error_text (id_bytes desk.initialize) request_failed))) nothing) (waits st))
      (does_true (subst (λ w. Does (λ t events. Stands settings t events) (send (ToEditor e (error_text w request_failed))) base t xs u ys) same (d named))))

-- what a start has to answer
pub named_at : (ids : List (List ℕ)) (i : ℕ) (d : List ℕ) → i < length ids → AllByRecursion IsNamed ids → IsNamed (get_or ids i d)
named_at [] i d l h = absurd (omega arith)
named_at (x ∷ xs) zero d l h = h.0
named_at (x ∷ xs) (suc i) d l h = named_at xs i d (omega arith) h.1

-- each is an editor's own
pub own_rows : (e : ℕ) (fs : List Forwarded) → Alike (each lose_request (filter (is_of e) fs)) (each (refuse_id e) (ids_at e fs))
own_rows e [] = alike refl
own_rows e (f ∷ fs) = go (own_rows e fs) (nat_eq f.editor e) refl
  where
    go : Alike (each lose_request (filter (is_of e) fs)) (each (refuse_id e) (ids_at e fs)) → (b : Bool) → nat_eq f.editor e ≡ b → Alike (each lose_request (if b then f ∷ filter (is_of e) fs else filter (is_of e) fs)) (each (refuse_id e) (map (λ (f : Forwarded). f.id) (if b then f ∷ filter (is_of e) fs else filter (is_of e) fs)))
    go rest true mine = record {
      sends = λ events.
          let own : f.editor ≡ e = number_same f.editor e mine in
          ap₂ (λ x ws. x ∷ ws) (ap (λ n. ToEditor n (error_text f.id request_failed)) own)
          (ap (λ n. outs (each lose_request (filter (is_of e) fs)) (events ++ said (ToEditor n (error_text f.id request_failed)) ∷ [])) own ∙ rest.sends (events ++ said (ToEditor e (error_text f.id request_failed)) ∷ []));
    }
    go rest false off = rest

pub named_all : (events : List Event) (e : ℕ) (fs : List Forwarded) → AllByRecursion (IsForwarded events) fs → AllByRecursion IsNamed (ids_at e fs)
named_all events e [] h = tt
named_all events e (f ∷ fs) h = go (named_all events e fs h.1) (nat_eq f.editor e)
  where
    go : AllByRecursion IsNamed (ids_at e fs) → (b : Bool) → AllByRecursion IsNamed (map (λ (f : Forwarded). f.id) (if b then f ∷ filter (is_of e) fs else filter (is_of e) fs))
    go rest true = (((h.0).id, (h.0).text), rest)
    go rest false = rest

-- Nothing that is said makes an editor wait, or changes what it asked, or its group

pub told_waits : (p : Phase) (i : List ℕ) (m : Message) → phase_told p i m ≡ Waiting → p ≡ Waiting
told_waits Waiting i m h = refl
told_waits other i m h = h

closed_waits : (p : Phase) → phase_closed p ≡ Waiting → p ≡ Waiting
closed_waits p h = never (sym (ap is_waiting h) ∙ unwaiting p)
  where
    unwaiting : (p : Phase) → is_waiting (phase_closed p) ≡ false
    unwaiting Gone = refl
    unwaiting other = refl

waits_before : (e : ℕ) (events : List Event) (x : Out) → (desk_of e (events ++ said x ∷ [])).phase ≡ Waiting → (desk_of e events).phase ≡ Waiting
waits_before e events x h = go x (sym (ap (λ (d : Desk). d.phase) (one_more (desk_behind e) _ _ events (said x) refl)) ∙ h)
  where
    by_test : (b : Bool) (p : Phase) (i : List ℕ) → (p ≡ Waiting → (desk_of e events).phase ≡ Waiting) → (if b then record { phase = p; initialize = i } else desk_of e events).phase ≡ Waiting → (desk_of e events).phase ≡ Waiting
    by_test true p i from h = from h
    by_test false p i from h = h

    go : (x : Out) → (desk_behind e (desk_of e events) (said x)).phase ≡ Waiting → (desk_of e events).phase ≡ Waiting
    go (ToEditor n body) h = by_test (nat_eq n e) _ _ (told_waits (desk_of e events).phase (desk_of e events).initialize (message_of body)) h
    go (CloseEditor n) h = by_test (nat_eq n e) _ _ (closed_waits (desk_of e events).phase) h
    go (ToServer s body) h = h
    go (Spawn s g) h = h
    go (EndServer s) h = h

pub waits_back : (e : ℕ) (events : List Event) (xs : List Out) → (desk_of e (behind events xs)).phase ≡ Waiting → (desk_of e events).phase ≡ Waiting
waits_back e events [] h = subst (λ es. (desk_of e es).phase ≡ Waiting) (append-nil events) h
waits_back e events (x ∷ xs) h = waits_before e events x (waits_back e (events ++ said x ∷ []) xs (subst (λ es. (desk_of e es).phase ≡ Waiting) (behind_more events (x ∷ []) xs) h))
