-- S2, of a start that isn't its group's first: with whom it parts.
use Rattle.std.proofs.Common.{◌≡◌, ℕ, ◌+◌, ◌<◌, ◌≤◌, Bool, true, false, ◌&&◌, List, [], ◌∷◌, ◌++◌, filter, get_or, length, nat_eq, refl, ap, sym, subst, ◌∙◌, append-nil, append_assoc, arith, take, if◌then◌else◌}
use Rattle.std.specs.Prelude.{None, Some}
use Rattle.std.specs.List.{All, AllByRecursion, range_with_len}
use Rattle.std.proofs.lemmas.Bool.Decides.{nat_tests}
use Rattle.std.proofs.lemmas.List.{take_all, take_more}
use Rattle.std.proofs.lemmas.List.Elements.{All-append, All-cons, All-get_or, All-nil}
use Rattle.mux_history.specs.declared.out.Out.{Out}
use Rattle.mux_history.specs.declared.out.Out.TheVariants.{CloseEditor, EndServer, Spawn, ToEditor, ToServer}
use Rattle.rpc_message.specs.Message.{Message, error, message_of, not_json, not_message, notification, request, result}
use Rattle.event_model.specs.declared.phase.Phase.{Phase}
use Rattle.event_model.specs.declared.phase.Phase.TheVariants.{Absent, New, Waiting, Answered, Running, Down, Closed, Gone}
use Rattle.event_model.specs.Does.{Alike, Does}
use Rattle.event_model.specs.Event.{Event, behind, said}
use Rattle.event_model.specs.Phases.{Desk, desk_behind, desk_of, editors_of, has_id, is_begun, is_running, phase_closed, phase_told}
use Rattle.event_model.specs.Row.{Row, choose, each, nothing, send}
use Rattle.event_model.specs.Settings.{Settings}
use Rattle.event_model.proofs.Frames.{never, one_more}
use Rattle.event_model.proofs.Turns.{behind_more, does_next, does_nothing, does_then}
use Rattle.group_rows.specs.Asks.{members_in}
use Rattle.group_rows.specs.Earlier.{differs, given_of, part_row, shown_in, was_shown}
use Rattle.group_rows.specs.Waiting.{part, refuse_held}
use Rattle.group_words.specs.Houses.{home_of, is_home}
use Rattle.mux_tables.specs.declared.tables.Tables.{Tables}
use Rattle.mux_tables.specs.Documents.{AheadStand, AllStand, DocumentsStand, Owed, Parts}
use Rattle.mux_tables.proofs.DocumentSaid.{ahead_stays}
use Rattle.mux_tables.specs.Stands.{Stands}
use Rattle.mux_turns.proofs.Welcoming.{home_there}
use Rattle.mux_turns.specs.Welcomes.{Informs, IsToEditor}
use Rattle.mux_starts.specs.Parted.{PartedBy, parted}

-- Who was shown a result

-- one more of those that are inside
pub inside_more : (n i : ℕ) (members old new : List ℕ) → i < length members → All (λ e. e < n) members → new ≡ old ++ get_or members i 0 ∷ [] → All (λ e. e < n) old → All (λ e. e < n) new
inside_more n i members old new less all is h =
    let P : ℕ → Type 0 = λ e. e < n in
    subst (All P) (sym is) (All-append P old (get_or members i 0 ∷ []) h (All-cons P (get_or members i 0) [] (All-get_or P members i 0 less all) (All-nil P)))

shown_begun : (phase : Phase) (b : Bool) → (was_shown phase && b) ≡ (if is_begun phase && b then was_shown phase else false)
shown_begun Absent b = refl
shown_begun New b = refl
shown_begun Waiting true = refl
shown_begun Waiting false = refl
shown_begun Answered true = refl
shown_begun Answered false = refl
shown_begun Running true = refl
shown_begun Running false = refl
shown_begun Down true = refl
shown_begun Down false = refl
shown_begun Closed b = refl
shown_begun Gone b = refl

-- they are members
filter_twice : (p q r : ℕ → Bool) → ((n : ℕ) → r n ≡ (if q n then p n else false)) → (ns : List ℕ) → filter p (filter q ns) ≡ filter r ns
filter_twice p q r same [] = refl
filter_twice p q r same (n ∷ ns) = go (q n) (same n) (filter_twice p q r same ns)
  where
    go : (a : Bool) → r n ≡ (if a then p n else false) → filter p (filter q ns) ≡ filter r ns → filter p (if a then n ∷ filter q ns else filter q ns) ≡ (if r n then n ∷ filter r ns else filter r ns)
    go false e rest = rest ∙ sym (ap (λ d. if d then n ∷ filter r ns else filter r ns) e)
    go true e rest = ap (λ xs. if p n then n ∷ xs else xs) rest ∙ sym (ap (λ d. if d then n ∷ filter r ns else filter r ns) e)

pub shown_members : (settings : Settings) (g : ℕ) (events : List Event) → filter (λ e. was_shown (desk_of e events).phase) (members_in settings g events) ≡ shown_in settings g events
shown_members settings g events = filter_twice (λ e. was_shown (desk_of e events).phase) (λ e. is_begun (desk_of e events).phase && is_home g (home_of settings e events)) (λ e. was_shown (desk_of e events).phase && is_home g (home_of settings e events))
    (λ e. shown_begun (desk_of e events).phase (is_home g (home_of settings e events))) (range_with_len 0 (editors_of events))

at_home_all : (settings : Settings) (events : List Event) (g : ℕ) (test : ℕ → Bool) (ns : List ℕ) → AllByRecursion (λ e. home_of settings e events ≡ Some g) (filter (λ e. test e && is_home g (home_of settings e events)) ns)
at_home_all settings events g test [] = tt
at_home_all settings events g test (n ∷ ns) = go (test n) (is_home g (home_of settings n events)) refl (at_home_all settings events g test ns)
  where
    rest : List ℕ
    rest = filter (λ e. test e && is_home g (home_of settings e events)) ns

    go : (a b : Bool) → is_home g (home_of settings n events) ≡ b → AllByRecursion (λ e. home_of settings e events ≡ Some g) rest → AllByRecursion (λ e. home_of settings e events ≡ Some g) (if a && b then n ∷ rest else rest)
    go true true is h = (home_there g (home_of settings n events) is, h)
    go true false is h = h
    go false b is h = h

-- With whom it parts

pub parted_home : (settings : Settings) (before : List Event) (body : List ℕ) (g : ℕ) → AllByRecursion (λ e. home_of settings e before ≡ Some g) (parted settings before body g)
parted_home settings before body g = go (differs (given_of g before) body)
  where
    go : (b : Bool) → AllByRecursion (λ e. home_of settings e before ≡ Some g) (if b then shown_in settings g before else [])
    go true = at_home_all settings before g (λ e. was_shown (desk_of e before).phase) (range_with_len 0 (editors_of before))
    go false = tt

pub parted_alike : (settings : Settings) (before : List Event) (body : List ℕ) (g : ℕ) (es : List ℕ) → es ≡ parted settings before body g → Alike (part_row settings before body g) (each (part settings g) es)
parted_alike settings before body g es is = subst (λ ns. Alike (part_row settings before body g) (each (part settings g) ns)) (sym is) (go (differs (given_of g before) body))
  where
    go : (b : Bool) → Alike (choose b (each (part settings g) (shown_in settings g before)) nothing) (each (part settings g) (if b then shown_in settings g before else []))
    go true = record { sends = λ events. refl }
    go false = record { sends = λ events. refl }

-- Their links are to be ended

closed_off : (phase : Phase) → is_running (phase_closed phase) ≡ false
closed_off Absent = refl
closed_off New = refl
closed_off Waiting = refl
closed_off Answered = refl
closed_off Running = refl
closed_off Down = refl
closed_off Closed = refl
closed_off Gone = refl

told_off : (phase : Phase) (i : List ℕ) (m : Message) → is_running phase ≡ false → is_running (phase_told phase i m) ≡ false
told_off Absent i m h = refl
told_off New i m h = refl
told_off Waiting i (result (Some id) r) h = go (has_id id (message_of i))
  where
    go : (b : Bool) → is_running (if b then Answered else Waiting) ≡ false
    go true = refl
    go false = refl
told_off Waiting i (result None r) h = refl
told_off Waiting i (error id r) h = refl
told_off Waiting i (request id method ps) h = refl
told_off Waiting i (notification method ps) h = refl
told_off Waiting i not_json h = refl
told_off Waiting i not_message h = refl
told_off Answered i m h = refl
told_off Running i m h = never h
told_off Down i m h = refl
told_off Closed i m h = refl
told_off Gone i m h = refl

-- one that doesn't run stays so
off_by : (e : ℕ) (d : Desk) (x : Out) → is_running d.phase ≡ false → is_running (desk_behind e d (said x)).phase ≡ false
off_by e d (ToEditor n body) off = go (nat_eq n e)
  where
    go : (b : Bool) → is_running (if b then record { phase = phase_told d.phase d.initialize (message_of body); initialize = d.initialize } else d).phase ≡ false
    go true = told_off d.phase d.initialize (message_of body) off
    go false = off
off_by e d (CloseEditor n) off = go (nat_eq n e)
  where
    go : (b : Bool) → is_running (if b then record { phase = phase_closed d.phase; initialize = d.initialize } else d).phase ≡ false
    go true = closed_off d.phase
    go false = off
off_by e d (ToServer s body) off = off
off_by e d (Spawn s g) off = off
off_by e d (EndServer s) off = off

off_all : (e : ℕ) (xs : List Out) (events : List Event) → is_running (desk_of e events).phase ≡ false → is_running (desk_of e (behind events xs)).phase ≡ false
off_all e [] events off = ap (λ ws. is_running (desk_of e ws).phase) (append-nil events) ∙ off
off_all e (x ∷ xs) events off = ap (λ ws. is_running (desk_of e ws).phase) (behind_more events (x ∷ []) xs)
    ∙ off_all e xs (events ++ said x ∷ []) (ap (λ (d : Desk). is_running d.phase) (one_more (desk_behind e) _ _ events (said x) refl) ∙ off_by e (desk_of e events) x off)

shut_here : (e : ℕ) (events : List Event) → is_running (desk_of e (events ++ said (CloseEditor e) ∷ [])).phase ≡ false
shut_here e events =
    let own : nat_eq e e ≡ true = grind (arith, nat_tests) in
    ap (λ (d : Desk). is_running d.phase) (one_more (desk_behind e) _ _ events (said (CloseEditor e)) refl)
    ∙ (ap (λ (b : Bool). is_running (if b then record { phase = phase_closed (desk_of e events).phase; initialize = (desk_of e events).initialize } else desk_of e events).phase) own ∙ closed_off (desk_of e events).phase)

shut_first : (e : ℕ) (rest : List Out) (events : List Event) → is_running (desk_of e (behind events (CloseEditor e ∷ rest))).phase ≡ false
shut_first e rest events = ap (λ ws. is_running (desk_of e ws).phase) (behind_more events (CloseEditor e ∷ []) rest) ∙ off_all e rest (events ++ said (CloseEditor e) ∷ []) (shut_here e events)

-- What is said as editors are parted with

informs_parts : (xs ys : List Out) (es : List ℕ) → AllByRecursion IsToEditor xs → Parts ys es → Parts (xs ++ ys) es
informs_parts [] ys es h k = k
informs_parts (ToEditor n body ∷ xs) ys es h k = informs_parts xs ys es h.1 k
informs_parts (ToServer s body ∷ xs) ys es h k = absurd h.0
informs_parts (Spawn s g ∷ xs) ys es h k = absurd h.0
informs_parts (CloseEditor n ∷ xs) ys es h k = absurd h.0
informs_parts (EndServer s ∷ xs) ys es h k = absurd h.0

parts_join : (xs ys : List Out) (es fs : List ℕ) → Parts xs es → Parts ys fs → Parts (xs ++ ys) (es ++ fs)
parts_join [] ys [] fs h k = k
parts_join [] ys (e ∷ es) fs h k = absurd h
parts_join (ToEditor n body ∷ xs) ys es fs h k = parts_join xs ys es fs h k
parts_join (CloseEditor n ∷ xs) ys [] fs h k = absurd h
parts_join (CloseEditor n ∷ xs) ys (e ∷ es) fs h k = (h.0, parts_join xs ys es fs h.1 k)
parts_join (ToServer s body ∷ xs) ys es fs h k = absurd h
parts_join (Spawn s g ∷ xs) ys es fs h k = absurd h
parts_join (EndServer s ∷ xs) ys es fs h k = absurd h

pub parts_none : (t : Tables) (xs : List Out) (g : ℕ) → PartedBy (λ settings. each (part settings g) []) [] t t xs xs
parts_none t xs g = record { said = []; is = sym (append-nil xs); parts = tt; does = λ settings owed base rest. does_nothing }

-- The documents are ahead of the events by what is said of one editor less

module _ (t v u : Tables) (xs ys zs : List Out) (g e : ℕ) (lasts : v.lasts ≡ t.lasts) (documents : v.documents ≡ t.documents) (versions : v.versions ≡ t.versions) (told : Informs xs ys) (ends : zs ≡ ys ++ CloseEditor e ∷ [])
    (refuses : (settings : Settings) (base : List Event) → Does (λ t events. Stands settings t events) (refuse_held settings g e) base t xs v ys) (closes : (settings : Settings) (base : List Event) → Does (λ t events. Stands settings t events) (send (CloseEditor e)) base v ys u zs)
    (ahead : (settings : Settings) (owed : Owed) (base : List Event) (more : List Out) → is_running (desk_of e (behind (behind base ys) (CloseEditor e ∷ more))).phase ≡ false → DocumentsStand settings owed v (behind (behind base ys) (CloseEditor e ∷ more)) → DocumentsStand settings owed u (behind (behind base zs) more)) where
  refused_ahead : (settings : Settings) (owed : Owed) (base : List Event) (rest : List Out) → Does (λ k events. AheadStand settings k events) (refuse_held settings g e) base (t, (owed, told.more ++ CloseEditor e ∷ rest)) xs (v, (owed, CloseEditor e ∷ rest)) ys
  refused_ahead settings owed base rest = record {
    done = λ k.
        let one = (refuses settings base).done k.0 in
        record { outs = one.outs; stands = (one.stands, ahead_stays settings owed t v base xs ys told.more (CloseEditor e ∷ rest) lasts documents versions told.is k.1) };
  }

  closed_ahead : (settings : Settings) (owed : Owed) (base : List Event) (rest : List Out) → Does (λ k events. AheadStand settings k events) (send (CloseEditor e)) base (v, (owed, CloseEditor e ∷ rest)) ys (u, (owed, rest)) zs
  closed_ahead settings owed base rest = record {
    done = λ k.
        let one = (closes settings base).done k.0 in
        record { outs = one.outs; stands = (one.stands, ahead settings owed base rest (shut_first e rest (behind base ys)) k.1) };
  }

  pub parts_one : PartedBy (λ settings. part settings g e) (e ∷ []) t u xs zs
  parts_one = record {
    said = told.more ++ CloseEditor e ∷ [];
    is = ends ∙ (ap (λ ws. ws ++ CloseEditor e ∷ []) told.is ∙ append_assoc xs told.more (CloseEditor e ∷ []));
    parts = informs_parts told.more (CloseEditor e ∷ []) (e ∷ []) told.all (refl, tt);
    does = λ settings owed base rest.
        subst (λ os. Does (λ k events. AheadStand settings k events) (part settings g e) base (t, (owed, os)) xs (u, (owed, rest)) zs) (sym (append_assoc told.more (CloseEditor e ∷ []) rest))
        (does_then (refused_ahead settings owed base rest) (closed_ahead settings owed base rest));
  }

-- one more of a list, and all of it
pub parts_next : (t u v : Tables) (xs ys zs : List Out) (g : ℕ) (items : List ℕ) (i : ℕ) → i < length items → PartedBy (λ settings. each (part settings g) (take i items)) (take i items) t u xs ys
    → PartedBy (λ settings. part settings g (get_or items i 0)) (get_or items i 0 ∷ []) u v ys zs → PartedBy (λ settings. each (part settings g) (take (i + 1) items)) (take (i + 1) items) t v xs zs
parts_next t u v xs ys zs g items i less p q = record {
  said = p.said ++ q.said;
  is = q.is ∙ (ap (λ ws. ws ++ q.said) p.is ∙ append_assoc xs p.said q.said);
  parts = subst (Parts (p.said ++ q.said)) (sym (take_more items i 0 less)) (parts_join p.said q.said (take i items) (get_or items i 0 ∷ []) p.parts q.parts);
  does = λ settings owed base rest.
      subst (λ os. Does (λ k events. AheadStand settings k events) (each (part settings g) (take (i + 1) items)) base (t, (owed, os)) xs (v, (owed, rest)) zs) (sym (append_assoc p.said q.said rest))
      (does_next (part settings g) items i 0 less (p.does settings owed base (q.said ++ rest)) (q.does settings owed base rest));
}

pub parts_all : (t u : Tables) (xs ys : List Out) (g : ℕ) (items : List ℕ) (i : ℕ) → length items ≤ i → PartedBy (λ settings. each (part settings g) (take i items)) (take i items) t u xs ys → PartedBy (λ settings. each (part settings g) items) items t u xs ys
parts_all t u xs ys g items i over p = subst (λ ns. PartedBy (λ settings. each (part settings g) ns) ns t u xs ys) (take_all i items over) p

-- Documents that are ahead by nothing

ahead_none : (settings : Settings) (t : Tables) (owed : Owed) (events : List Event) → AllStand settings (t, owed) events → AheadStand settings (t, (owed, [])) events
ahead_none settings t owed events k = (k.0, subst (DocumentsStand settings owed t) (sym (append-nil events)) k.1)

pub none_ahead : (settings : Settings) (t : Tables) (owed : Owed) (events : List Event) → AheadStand settings (t, (owed, [])) events → AllStand settings (t, owed) events
none_ahead settings t owed events k = (k.0, subst (DocumentsStand settings owed t) (append-nil events) k.1)

pub ahead_does : {row : Row} (settings : Settings) (t u : Tables) (owed after : Owed) (base : List Event) (xs ys : List Out) → Does (λ k events. AllStand settings k events) row base (t, owed) xs (u, after) ys
    → Does (λ k events. AheadStand settings k events) row base (t, (owed, [])) xs (u, (after, [])) ys
ahead_does {row} settings t u owed after base xs ys d = record { done = λ k. let one = d.done (none_ahead settings t owed (behind base xs) k) in record { outs = one.outs; stands = ahead_none settings u after (behind base ys) one.stands } }
