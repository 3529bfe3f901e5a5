-- E6: what is open at an editor fails.
use Rattle.std.proofs.Common.{◌≡◌, ℕ, Bool, true, false, ◌&&◌, List, [], ◌∷◌, ◌++◌, filter, map, nat_eq, codes, if◌then◌else◌, refl, ap, sym, subst, append-nil, ◌∙◌}
use Rattle.std.specs.List.{AllByRecursion}
use Rattle.std.specs.Prelude.{Option, None, Some, slice_get}
use Rattle.std.proofs.lemmas.Bool.{and_parts}
use Rattle.mux_history.specs.declared.cause.Cause.TheVariants.{FromEditor}
use Rattle.mux_history.specs.declared.out.Out.{Out}
use Rattle.mux_history.specs.declared.out.Out.TheVariants.{CloseEditor, ToEditor}
use Rattle.rpc_message.specs.Message.{id_bytes, message_of}
use Rattle.rpc_message.specs.Texts.{error_text, ok_text, request_failed}
use Rattle.event_model.specs.declared.phase.Phase.TheVariants.{Waiting}
use Rattle.event_model.specs.Does.{Does, Done}
use Rattle.event_model.specs.Event.{Event, behind, heard, requests, said}
use Rattle.event_model.specs.Phases.{Desk, desk_behind, desk_of, is_waiting, needs_server, phase_told}
use Rattle.event_model.proofs.Frames.{one_more}
use Rattle.group_words.proofs.Frames.{home_more}
use Rattle.event_model.specs.Row.{Row, choose, each, nothing, on, outs, send}
use Rattle.event_model.specs.Settings.{Settings}
use Rattle.event_model.specs.Spawns.{start_behind, start_of}
use Rattle.event_model.specs.Stages.{is_ready}
use Rattle.group_words.specs.Houses.{groups_of, home_of, stops}
use Rattle.group_words.specs.Placing.{all_from, is_live}
use Rattle.group_words.specs.Rows.{end_group}
use Rattle.event_model.proofs.Turns.{alike, alike_then, behind_more, does_alike, does_entry, does_knowing, does_nothing, does_then}
use Rattle.group_rows.specs.Forwarded.{Forwarded, Forwarding, forwarding_of, is_of}
use Rattle.group_rows.specs.Rows.{asks_lspmux}
use Rattle.group_rows.specs.Waiting.{refuse_held, refuse_waiting, waiting_of}
use Rattle.mux_tables.specs.mux_waits.specs.held_requests.specs.declared.request.Request.{Request}
use Rattle.mux_tables.specs.mux_waits.specs.held_requests.specs.Tables.{of_editor}
use Rattle.group_rows.specs.StopRows.{lose_waiting, close_each, lose_request, lose_requests, refuse_initialize, refuse_open, stop_row, there_in}
use Rattle.group_rows.proofs.Frames.{forwarding_more}
use Rattle.mux_tables.specs.declared.tables.Tables.{Tables}
use Rattle.mux_tables.specs.declared.tables.Start.{Start}
use Rattle.mux_tables.specs.Documents.{AllStand, DocumentsStand, Owed, nothing_owed}
use Rattle.mux_tables.specs.Halts.{ids_at}
use Rattle.mux_tables.specs.Stands.{IsLost, Rise, Stands, forwarded_of, of_ids}
use Rattle.mux_tables.proofs.DocumentOwing.{unready_quiet}
use Rattle.mux_turns.proofs.Evictions.{numbered_closed, numbered_told}
use Rattle.mux_turns.specs.group_facts.specs.Facts.{AllForwarded, Numbered, WaitingAsked}
use Rattle.mux_turns.specs.group_facts.specs.Settled.{IsSeated}
use Rattle.mux_turns.specs.mux_facts.proofs.Words.{number_same}
use Rattle.mux_editors.proofs.Lspmux.{desk_stays, own_placed, own_stays, stop_asks}
use Rattle.mux_turns.specs.Initials.{IsNamed, refuse_id}
use Rattle.mux_turns.proofs.Failing.{named_all, own_rows, told_waits}
use Rattle.mux_editors.specs.Halting.{Halts, Refusing, Stays, lose_from}

-- the tables stand, whatever is owed
module _ (settings : Settings) (t u : Tables) (base : List Event) (xs ys : List Out) {row : Row} where
  pub halts_does : Does (λ t events. Stands settings t events) row base t xs u ys → ((owed : Owed) → DocumentsStand settings owed t (behind base xs) → DocumentsStand settings owed u (behind base ys))
      → Does (λ t events. Halts settings t events) row base t xs u ys
  halts_does d go = record { done = λ k. let one = d.done k.0 in record { outs = one.outs; stands = (one.stands, (k.1.0, go k.1.0 k.1.1)) } }

  pub halts_closed : Does (λ t events. Stands settings t events) row base t xs u ys → ((owed : Owed) → Stands settings t (behind base xs) → DocumentsStand settings owed t (behind base xs) → (later : Owed) × DocumentsStand settings later u (behind base ys))
      → Does (λ t events. Halts settings t events) row base t xs u ys
  halts_closed d go = record { done = λ k. let one = d.done k.0 in record { outs = one.outs; stands = (one.stands, go k.1.0 k.0 k.1.1) } }

  pub halts_each : ((owed : Owed) → Does (λ k events. AllStand settings k events) row base (t, owed) xs (u, owed) ys) → Does (λ t events. Halts settings t events) row base t xs u ys
  halts_each f = record { done = λ k. let d = f k.1.0 in let one = d.done (k.0, k.1.1) in record { outs = one.outs; stands = (one.stands.0, (k.1.0, one.stands.1)) } }

pub loses_all : (settings : Settings) (t u : Tables) (base : List Event) (xs ys : List Out) (e s : ℕ) (ids : List (List ℕ)) → AllByRecursion IsNamed (ids_at e (forwarding_of settings s (behind base xs)).open_requests)
    → (Stands settings t (behind base xs) → ids ≡ ids_at e (forwarding_of settings s (behind base xs)).open_requests) → (AllByRecursion IsNamed ids → Does (λ t events. Stands settings t events) (each (refuse_id e) ids) base t xs u ys)
    → Does (λ t events. Stands settings t events) (each (refuse_id e) (ids_at e (forwarding_of settings s (behind base xs)).open_requests)) base t xs u ys
loses_all settings t u base xs ys e s ids named is d = does_knowing (λ st.
    subst (λ ws. Does (λ t events. Stands settings t events) (each (refuse_id e) ws) base t xs u ys) (is st) (d (subst (AllByRecursion IsNamed) (sym (is st)) named)))

-- the start of its group
module _ (settings : Settings) (t : Tables) (before base : List Event) (xs : List Out) (home e : ℕ) (stays : Stays settings before (behind base xs)) where
  abbrev Loses : List Out → Type 0
  Loses ys = Does (λ t events. Stands settings t events) (lose_from settings before e (start_of home before)) base t xs t ys

  pub loses_lost : (Rise 0 t.lasts.items → IsLost home t.lasts.items) → Loses xs
  loses_lost lost = does_knowing (λ st. by_start (start_of home before) refl st)
    where
      by_start : (o : Option ℕ) → start_of home before ≡ o → Stands settings t (behind base xs) → Does (λ t events. Stands settings t events) (lose_from settings before e o) base t xs t xs
      by_start None is st = does_alike (λ _. alike refl) does_nothing
      by_start (Some s) is st =
          let gone = st.lasts.lost home s (lost st.lasts.rise) (stays.start home ∙ is) in
          let ids = (gone.stands).parts of_ids in
          let none : (forwarding_of settings s before).open_requests ≡ [] = sym (stays.open_requests s) ∙ (ap (λ n. (forwarding_of settings n (behind base xs)).open_requests) (sym gone.number) ∙ (ids.open_requests ∙ ap (map forwarded_of) gone.answered)) in
          does_alike (λ _. alike (ap (λ fs. each lose_request (filter (is_of e) fs)) none)) does_nothing

module _ (settings : Settings) (t u : Tables) (before base : List Event) (xs ys : List Out) (home e s : ℕ) (stays : Stays settings before (behind base xs)) (forwarded : AllForwarded settings before) where
  pub loses_some : (Stands settings t (behind base xs) → start_of home (behind base xs) ≡ Some s)
      → (AllByRecursion IsNamed (ids_at e (forwarding_of settings s (behind base xs)).open_requests) → Does (λ t events. Stands settings t events) (each (refuse_id e) (ids_at e (forwarding_of settings s (behind base xs)).open_requests)) base t xs u ys)
      → Does (λ t events. Stands settings t events) (lose_from settings before e (start_of home before)) base t xs u ys
  loses_some at d = does_alike (λ st. alike_then (alike (ap (lose_from settings before e) (sym (stays.start home) ∙ at st)))
      (alike_then (own_rows e (forwarding_of settings s before).open_requests) (alike (ap (λ fs. each (refuse_id e) (ids_at e fs)) (sym (stays.open_requests s))))))
      (d (subst (λ fs. AllByRecursion IsNamed (ids_at e fs)) (sym (stays.open_requests s)) (named_all before e (forwarding_of settings s before).open_requests (forwarded s))))

module _ (settings : Settings) (t : Tables) (before base : List Event) (xs : List Out) (e : ℕ) where
  pub loses_homeless : Stays settings before (behind base xs) → (Stands settings t (behind base xs) → home_of settings e (behind base xs) ≡ None) → Does (λ t events. Stands settings t events) (lose_requests settings before e) base t xs t xs
  loses_homeless stays none = does_alike (λ st. alike (ap (λ o. on o nothing (λ g. lose_from settings before e (start_of g before))) (sym (stays.home e) ∙ none st))) does_nothing

pub loses_home : (settings : Settings) (t u : Tables) (before base : List Event) (xs ys : List Out) (e home : ℕ) → Stays settings before (behind base xs) → (Stands settings t (behind base xs) → home_of settings e (behind base xs) ≡ Some home)
    → Does (λ t events. Stands settings t events) (lose_from settings before e (start_of home before)) base t xs u ys → Does (λ t events. Stands settings t events) (lose_requests settings before e) base t xs u ys
loses_home settings t u before base xs ys e home stays at d = does_alike (λ st. alike (ap (λ o. on o nothing (λ g. lose_from settings before e (start_of g before))) (sym (stays.home e) ∙ at st))) d

-- Bodies to editors

abbrev pub IsTold : Out → Type 0
IsTold (ToEditor e body) = Unit {0}
IsTold other = ⊥

all_join : (xs ys : List Out) → AllByRecursion IsTold xs → AllByRecursion IsTold ys → AllByRecursion IsTold (xs ++ ys)
all_join [] ys h k = k
all_join (x ∷ xs) ys h k = (h.0, all_join xs ys h.1 k)

lost_told : (fs : List Forwarded) (events : List Event) → AllByRecursion IsTold (outs (each lose_request fs) events)
lost_told [] events = tt
lost_told (f ∷ fs) events = (tt, lost_told fs (events ++ said (ToEditor f.editor (error_text f.id request_failed)) ∷ []))

from_told : (settings : Settings) (before : List Event) (e : ℕ) (start : Option ℕ) (events : List Event) → AllByRecursion IsTold (outs (lose_from settings before e start) events)
from_told settings before e None events = tt
from_told settings before e (Some s) events = lost_told (filter (is_of e) (forwarding_of settings s before).open_requests) events

lose_told : (settings : Settings) (before : List Event) (e : ℕ) (events : List Event) → AllByRecursion IsTold (outs (lose_requests settings before e) events)
lose_told settings before e events = go (home_of settings e before)
  where
    go : (o : Option ℕ) → AllByRecursion IsTold (outs (on o nothing (λ g. lose_from settings before e (start_of g before))) events)
    go None = tt
    go (Some g) = from_told settings before e (start_of g before) events

first_told : (e : ℕ) (events : List Event) → AllByRecursion IsTold (outs (refuse_initialize e) events)
first_told e events = go (is_waiting (desk_of e events).phase)
  where
    go : (b : Bool) → AllByRecursion IsTold (outs (choose b (send (ToEditor e (error_text (id_bytes (desk_of e events).initialize) request_failed))) nothing) events)
    go true = (tt, tt)
    go false = tt

waited_told : (rs : List Request) (events : List Event) → AllByRecursion IsTold (outs (each refuse_waiting rs) events)
waited_told [] events = tt
waited_told (r ∷ rs) events = (tt, waited_told rs (events ++ said (ToEditor r.editor (error_text r.id request_failed)) ∷ []))

held_told : (settings : Settings) (before : List Event) (e : ℕ) (events : List Event) → AllByRecursion IsTold (outs (lose_waiting settings before e) events)
held_told settings before e events = go (home_of settings e before)
  where
    go : (o : Option ℕ) → AllByRecursion IsTold (outs (on o nothing (λ g. refuse_held settings g e)) events)
    go None = tt
    go (Some g) = waited_told (of_editor e (waiting_of settings g events)) events

open_told : (settings : Settings) (before : List Event) (e : ℕ) (events : List Event) → AllByRecursion IsTold (outs (refuse_open settings before e) events)
open_told settings before e events =
    let first = behind events (outs (refuse_initialize e) events) in
    all_join (outs (refuse_initialize e) events) _ (first_told e events) (all_join (outs (lose_requests settings before e) first) _ (lose_told settings before e first) (held_told settings before e (behind first (outs (lose_requests settings before e) first))))

module _ (settings : Settings) (before now : List Event) (k : ℕ) (body : List ℕ) (r : Refusing settings before now) where
  abbrev ev : Event
  ev = said (ToEditor k body)

  told_desk : (e : ℕ) → (desk_of e (now ++ ev ∷ [])).phase ≡ Waiting → ((desk_of e now).phase ≡ Waiting) × ((desk_of e (now ++ ev ∷ [])).initialize ≡ (desk_of e now).initialize)
  told_desk e at = go (nat_eq k e) (sym (ap (λ (d : Desk). d.phase) (one_more (desk_behind e) _ _ now ev refl)) ∙ at) (one_more (desk_behind e) _ _ now ev refl)
    where
      go : (b : Bool) → (if b then record { phase = phase_told (desk_of e now).phase (desk_of e now).initialize (message_of body); initialize = (desk_of e now).initialize } else desk_of e now).phase ≡ Waiting
          → desk_of e (now ++ ev ∷ []) ≡ (if b then record { phase = phase_told (desk_of e now).phase (desk_of e now).initialize (message_of body); initialize = (desk_of e now).initialize } else desk_of e now)
          → ((desk_of e now).phase ≡ Waiting) × ((desk_of e (now ++ ev ∷ [])).initialize ≡ (desk_of e now).initialize)
      go true h is = (told_waits (desk_of e now).phase (desk_of e now).initialize (message_of body) h, ap (λ (d : Desk). d.initialize) is)
      go false h is = (h, ap (λ (d : Desk). d.initialize) is)

  told_refusing : Refusing settings before (now ++ ev ∷ [])
  told_refusing = record {
    stays = record {
      home = λ e. home_more settings e now ev ∙ r.stays.home e;
      start = λ g. one_more (start_behind g) _ _ now ev refl ∙ r.stays.start g;
      open_requests = λ s. ap (λ (f : Forwarding). f.open_requests) (forwarding_more settings s now ev) ∙ r.stays.open_requests s;
    };
    asking = λ e at. let d = told_desk e at in let asks = r.asking e d.0 in record { name = asks.name; method = asks.method; params = asks.params; says = ap message_of d.1 ∙ asks.says };
    housed = λ e at. let home = r.housed e (told_desk e at).0 in (home.0, home_more settings e now ev ∙ home.1);
  }

still_refusing : (settings : Settings) (before events : List Event) (xs : List Out) → AllByRecursion IsTold xs → Refusing settings before events → Refusing settings before (behind events xs)
still_refusing settings before events [] h r = subst (Refusing settings before) (sym (append-nil events)) r
still_refusing settings before events (ToEditor k body ∷ xs) h r = subst (Refusing settings before) (sym (behind_more events (ToEditor k body ∷ []) xs)) (still_refusing settings before (events ++ said (ToEditor k body) ∷ []) xs h.1 (told_refusing settings before events k body r))
still_refusing settings before events (other ∷ xs) h r = absurd h.0

pub refusing_on : (settings : Settings) (t u : Tables) (before base : List Event) (xs ys : List Out) {row : Row} → ((events : List Event) → AllByRecursion IsTold (outs row events)) → Does (λ t events. Stands settings t events) row base t xs u ys → Stands settings t (behind base xs)
    → Refusing settings before (behind base xs) → Refusing settings before (behind base ys)
refusing_on settings t u before base xs ys {row} told d st r = subst (Refusing settings before) (sym (ap (behind base) (d.done st).outs ∙ behind_more base xs (outs row (behind base xs)))) (still_refusing settings before (behind base xs) (outs row (behind base xs)) (told (behind base xs)) r)

pub opens_refused : (settings : Settings) (t m n u : Tables) (before base : List Event) (xs ys zs ws : List Out) (e : ℕ) → Refusing settings before (behind base xs) → Does (λ t events. Stands settings t events) (refuse_initialize e) base t xs m ys
    → (Refusing settings before (behind base ys) → Does (λ t events. Stands settings t events) (lose_requests settings before e) base m ys n zs)
    → (Refusing settings before (behind base zs) → Does (λ t events. Stands settings t events) (lose_waiting settings before e) base n zs u ws) → Does (λ t events. Stands settings t events) (refuse_open settings before e) base t xs u ws
opens_refused settings t m n u before base xs ys zs ws e r one two three = does_knowing (λ st.
    let next : Refusing settings before (behind base ys) = refusing_on settings t m before base xs ys (first_told e) one st r in
    let last : Refusing settings before (behind base zs) = refusing_on settings m n before base ys zs (lose_told settings before e) (two next) (one.done st).stands next in
    does_then one (does_then (two next) (three last)))

pub refusing_next : (settings : Settings) (t u : Tables) (before base : List Event) (xs ys : List Out) (e : ℕ) → Refusing settings before (behind base xs) → Stands settings t (behind base xs) → Does (λ t events. Stands settings t events) (refuse_open settings before e) base t xs u ys → Refusing settings before (behind base ys)
refusing_next settings t u before base xs ys e r st d = refusing_on settings t u before base xs ys (open_told settings before e) d st r

-- the whole entry, where no start is ready behind it
pub stops_done : (settings : Settings) (before base : List Event) (e : ℕ) (body : List ℕ) (t a r u v : Tables) (told refused closed ys : List Out) (lost shut live : List ℕ) → Stands settings t base → DocumentsStand settings nothing_owed t base
    → lost ≡ there_in before → shut ≡ there_in before → live ≡ all_from 0 is_live (groups_of settings before)
    → Does (λ t events. Halts settings t events) (send (ToEditor e (ok_text (id_bytes body) (codes "null")))) base t [] a told
    → Does (λ t events. Halts settings t events) (each (refuse_open settings before) lost) base a told r refused
    → Does (λ t events. Halts settings t events) (close_each shut) base r refused u closed
    → Does (λ t events. Halts settings t events) (each end_group live) base u closed v ys
    → (ys ≡ outs (stop_row settings before e body) base → Stands settings v (behind base ys) → (g : ℕ) (x : Start) → slice_get v.lasts.items g ≡ Some x → is_ready x.life.stage ≡ false)
    → Done (λ k events. AllStand settings k events) (stop_row settings before e body) base [] (v, nothing_owed) ys
stops_done settings before base e body t a r u v told refused closed ys lost shut live st ds those these alive one refuses closes ends none =
    let two = subst (λ es. Does (λ t events. Halts settings t events) (each (refuse_open settings before) es) base a told r refused) those refuses in
    let three = subst (λ es. Does (λ t events. Halts settings t events) (close_each es) base r refused u closed) these closes in
    let four = subst (λ gs. Does (λ t events. Halts settings t events) (each end_group gs) base u closed v ys) alive ends in
    let done = does_entry {Stands = λ t events. Halts settings t events} {row = stop_row settings before e body} (st, (nothing_owed, ds)) (does_then one (does_then two (does_then three four))) in
    let sent : ys ≡ outs (stop_row settings before e body) base = done.outs ∙ ap (outs (stop_row settings before e body)) (append-nil base) in
    record { outs = done.outs; stands = (done.stands.0, unready_quiet settings done.stands.1.0 v (behind base ys) (none sent done.stands.0) done.stands.1.1) }

-- Behind the message that stops all, before anything is said

and_off : (a : Bool) → (a && false) ≡ false
and_off true = refl
and_off false = refl

module _ (settings : Settings) (before : List Event) (k : ℕ) (body : List ℕ) (stop : stops before k (message_of body) ≡ true) where
  abbrev stopping : Event
  stopping = heard (FromEditor k body)

  own : asks_lspmux (message_of body) ≡ true
  own = stop_asks (message_of body) (and_parts (requests (codes "lspmux/stop") (message_of body)) _ stop).0

  heard_desk : (e : ℕ) → (desk_of e (before ++ stopping ∷ [])).phase ≡ Waiting → ((desk_of e before).phase ≡ Waiting) × ((desk_of e (before ++ stopping ∷ [])).initialize ≡ (desk_of e before).initialize)
  heard_desk e at = go (nat_eq k e) refl
    where
      go : (b : Bool) → nat_eq k e ≡ b → ((desk_of e before).phase ≡ Waiting) × ((desk_of e (before ++ stopping ∷ [])).initialize ≡ (desk_of e before).initialize)
      go true same =
          let is : k ≡ e = number_same k e same in
          let was : (desk_of k before).phase ≡ Waiting = sym (own_stays before k body own) ∙ subst (λ n. (desk_of n (before ++ stopping ∷ [])).phase ≡ Waiting) (sym is) at in
          subst (λ n. ((desk_of n before).phase ≡ Waiting) × ((desk_of n (before ++ stopping ∷ [])).initialize ≡ (desk_of n before).initialize)) is (was, desk_stays before k body own was)
      go false off =
          let apart : desk_of e (before ++ stopping ∷ []) ≡ desk_of e before = one_more (desk_behind e) _ _ before stopping refl ∙ rw off refl in
          (ap (λ (d : Desk). d.phase) (sym apart) ∙ at, ap (λ (d : Desk). d.initialize) apart)

  pub refusing_heard : WaitingAsked before → ((e : ℕ) → needs_server (desk_of e before).phase ≡ true → IsSeated settings before e) → Refusing settings before (before ++ stopping ∷ [])
  refusing_heard waiting seated = record {
    stays = record {
      home = still_home;
      start = λ g. one_more (start_behind g) _ _ before stopping refl;
      open_requests = λ s. ap (λ (f : Forwarding). f.open_requests) (forwarding_more settings s before stopping);
    };
    asking = λ e at.
        let was = heard_desk e at in
        let asks = waiting e was.0 in
        record { name = asks.0; method = codes "initialize"; params = (asks.1).params; says = ap message_of was.1 ∙ (asks.1).asks };
    housed = λ e at. let seat = seated e (ap needs_server (heard_desk e at).0) in (seat.group, still_home e ∙ seat.home);
  }
    where
      still_home : (e : ℕ) → home_of settings e (before ++ stopping ∷ []) ≡ home_of settings e before
      still_home e = home_more settings e before stopping ∙ rw (own_placed before k body own, and_off (nat_eq k e)) refl

-- Bodies to editors and ends of their links leave the numbers of starts alone

abbrev pub IsAside : Out → Type 0
IsAside (ToEditor e body) = Unit {0}
IsAside (CloseEditor e) = Unit {0}
IsAside other = ⊥

pub numbered_asides : (settings : Settings) (xs : List Out) (events : List Event) → AllByRecursion IsAside xs → Numbered settings events → Numbered settings (behind events xs)
numbered_asides settings [] events h k = subst (Numbered settings) (sym (append-nil events)) k
numbered_asides settings (ToEditor e body ∷ xs) events h k = subst (Numbered settings) (sym (behind_more events (ToEditor e body ∷ []) xs)) (numbered_asides settings xs (events ++ said (ToEditor e body) ∷ []) h.1 (numbered_told settings events e body k))
numbered_asides settings (CloseEditor e ∷ xs) events h k = subst (Numbered settings) (sym (behind_more events (CloseEditor e ∷ []) xs)) (numbered_asides settings xs (events ++ said (CloseEditor e) ∷ []) h.1 (numbered_closed settings events e k))
numbered_asides settings (other ∷ xs) events h k = absurd h.0

pub closes_aside : (es : List ℕ) (events : List Event) → AllByRecursion IsAside (outs (close_each es) events)
closes_aside [] events = tt
closes_aside (e ∷ es) events = (tt, closes_aside es (events ++ said (CloseEditor e) ∷ []))

told_aside : (xs : List Out) → AllByRecursion IsTold xs → AllByRecursion IsAside xs
told_aside [] h = tt
told_aside (ToEditor e body ∷ xs) h = (tt, told_aside xs h.1)
told_aside (other ∷ xs) h = absurd h.0

pub aside_join : (xs ys : List Out) → AllByRecursion IsAside xs → AllByRecursion IsAside ys → AllByRecursion IsAside (xs ++ ys)
aside_join [] ys h k = k
aside_join (x ∷ xs) ys h k = (h.0, aside_join xs ys h.1 k)

pub refuses_aside : (settings : Settings) (before : List Event) (es : List ℕ) (events : List Event) → AllByRecursion IsAside (outs (each (refuse_open settings before) es) events)
refuses_aside settings before [] events = tt
refuses_aside settings before (e ∷ es) events = aside_join (outs (refuse_open settings before e) events) _ (told_aside _ (open_told settings before e events)) (refuses_aside settings before es (behind events (outs (refuse_open settings before e) events)))
