-- What the tables do when an out about a start is said, as the code has it.
use Rattle.std.proofs.Common.{◌≡◌, ℕ, zero, suc, ◌+◌, ◌<◌, ◌^◌, Bool, true, false, List, [], ◌∷◌, ◌++◌, map, length, get_or, refl, ap, sym, subst, ◌∙◌, nat_eq, bytes_eq, codes, ◌&&◌, if◌then◌else◌}
use Rattle.std.specs.Prelude.{Option, Some, None, slice_get, slice_set}
use Rattle.std.specs.List.{AllByRecursion}
use Rattle.std.proofs.lemmas.Slice.Eq.{bytes_eq-Decides}
use Rattle.json_text.specs.Json.{Json}
use Rattle.mux_history.specs.declared.out.Out.{Out}
use Rattle.mux_history.specs.declared.out.Out.TheVariants.{ToServer, EndServer}
use Rattle.rpc_message.specs.Message.{Message, request, notification, not_message, Id, message_of}
use Rattle.event_model.specs.declared.stage.Stage.{Stage}
use Rattle.event_model.specs.declared.stage.Stage.TheVariants.{Ready, Ending, Ended}
use Rattle.event_model.specs.Does.{Does}
use Rattle.event_model.specs.Event.{Event, behind, did, said, requests}
use Rattle.event_model.specs.Requests.{is_own}
use Rattle.event_model.specs.Row.{send}
use Rattle.event_model.specs.Settings.{Settings}
use Rattle.event_model.specs.Spawns.{starts_of}
use Rattle.event_model.specs.Stages.{Life, is_ready, life_behind, life_of, stage_ending}
use Rattle.event_model.proofs.Frames.{never}
use Rattle.event_model.proofs.Places.{same_item}
use Rattle.id_rewrite.specs.declared.pending.Pending.{Pending}
use Rattle.id_rewrite.specs.Tables.{Table, IsInOrder, with_cancelled}
use Rattle.event_model.specs.Members.{named_of}
use Rattle.restart_replay.specs.Standings.{Standing, moved, stopped}
use Rattle.mux_tables.specs.declared.tables.Start.{Start}
use Rattle.mux_tables.specs.declared.tables.Tables.{Tables}
use Rattle.group_laws.specs.group_rows.specs.Forwarded.{forwarding_of, is_written, moves_ids}
use Rattle.group_laws.specs.group_rows.specs.Ticks.{is_stopping, stop_of}
use Rattle.group_words.specs.Houses.{time_of}
use Rattle.mux_tables.specs.Stands.{AsksStay, Part, of_life, of_ids, of_shown, of_stop, of_asks, of_parked, of_live, of_lists, PartStands, Sends, Stands, StopAt, forwarded_of, is_answer, number_in, unstopped}
use Rattle.event_model.specs.Requests.{answered_id}
use Rattle.group_laws.specs.group_rows.specs.Asks.{Ask, Parked, asks_of, is_under, parked_of, waits_under}
use Rattle.mux_tables.proofs.Asking.{none_handed, told_asks, told_parked}
use Rattle.mux_tables.proofs.Frames.{asks_stay, groups_stand, itself, part_quiet, stop_more}
use Rattle.mux_tables.proofs.IdMoves.{cancelled_ids, sent_as, sent_ids}
use Rattle.mux_tables.proofs.Lasts.{known}
use Rattle.mux_tables.proofs.Said.{does_send}
use Rattle.mux_tables.proofs.Starts.{groups_kept, is_late, late_asks, late_lists, late_live, late_parked, late_shown, no_stop, part_ids, part_life, read_here, start_at_place, start_moves, still_asks, still_ids, still_life, still_lists, still_live, still_parked, still_shown, still_stop}
use Rattle.mux_tables.proofs.TokenMoves.{WaitsMove, same_created, same_waits}
use Rattle.mux_tables.proofs.Awaited.{Added, StopsMove, stop_added, stopping_less, told_stops}
use Rattle.mux_waits.specs.Stands.{is_passed}
use Rattle.mux_waits.proofs.Moves.{quiet_waits, told_waits}

pub same_set : (xs : List Start) (g : ℕ) (z : Start) → slice_get xs g ≡ Some z → slice_set xs g z ≡ xs
same_set [] g z h = refl
same_set (x ∷ xs) zero z h = ap (λ w. w ∷ xs) (sym (same_item h))
same_set (x ∷ xs) (suc g) z h = ap (λ ws. x ∷ ws) (same_set xs g z h)

-- a body to the last start of a group, which goes from z to y
module _ (settings : Settings) (t u : Tables) (xs ys : List Out) (base : List Event) (g s start : ℕ) (z y : Start) (text : List ℕ) (at : slice_get (map number_in t.lasts.items) g ≡ Some s) (within : g < length t.lasts.items) (read : z ≡ get_or t.lasts.items g z)
    (set : u.lasts.items ≡ slice_set t.lasts.items g y) (own : y.life.start ≡ z.life.start) (group : y.life.group ≡ z.life.group) (es : u.editors ≡ t.editors) (gs : u.groups ≡ t.groups) (now : u.course ≡ t.course) (os : u.origins.groups ≡ t.origins.groups) (cr : u.origins.created ≡ t.origins.created) (r : u.requests ≡ t.requests)
    (is : start ≡ z.life.start) (said_so : ys ≡ xs ++ ToServer start text ∷ []) where
  pub sent_does : (Stands settings t (behind base xs) → StopsMove t u (behind base xs) (said (ToServer s text))) → WaitsMove settings t.origins u.origins (behind base xs) (said (ToServer s text)) → (Stands settings t (behind base xs) → (p : Part) → PartStands p settings t.requests z (behind base xs) → PartStands p settings t.requests y (behind base xs ++ said (ToServer z.life.start text) ∷ [])) → Does (λ t events. Stands settings t events) (send (ToServer s text)) base t xs u ys
  sent_does stops waits parts =
      let here : z.life.start ≡ s = start_at_place t.lasts.items g s z (read_here t.lasts.items g z within read) at in
      does_send settings (ToServer s text) base t u xs ys (said_so ∙ ap (λ n. xs ++ ToServer n text ∷ []) (is ∙ here))
      (λ st. start_moves settings t u (behind base xs) (λ n. did (ToServer n text) (message_of text)) g s z y at within read set own group es now os r (λ n. refl) (λ n. refl) (λ n. refl) (λ n m. refl)
      (λ n _ h. groups_kept settings t.groups u.groups (behind base xs) (did (ToServer n text) (message_of text)) gs (groups_stand settings t.groups (behind base xs) (did (ToServer n text) (message_of text)) refl) h)
      (λ n e. subst (λ k. StopsMove t u (behind base xs) (said (ToServer k text))) (sym e) (stops st)) (λ n e. record { created = same_created settings t u (behind base xs) (did (ToServer n text) (message_of text)) cr (λ m. refl); waiting = subst (λ k. WaitsMove settings t.origins u.origins (behind base xs) (said (ToServer k text))) (sym e) waits }) (parts st) st)

-- its program's end
module _ (settings : Settings) (t u : Tables) (xs ys : List Out) (base : List Event) (g s start : ℕ) (z y : Start) (at : slice_get (map number_in t.lasts.items) g ≡ Some s) (within : g < length t.lasts.items) (read : z ≡ get_or t.lasts.items g z)
    (set : u.lasts.items ≡ slice_set t.lasts.items g y) (own : y.life.start ≡ z.life.start) (group : y.life.group ≡ z.life.group) (es : u.editors ≡ t.editors) (gs : u.groups ≡ t.groups) (now : u.course ≡ t.course) (os : u.origins.groups ≡ t.origins.groups) (cr : u.origins.created ≡ t.origins.created) (wt : u.origins.waiting ≡ t.origins.waiting) (r : u.requests ≡ t.requests)
    (is : start ≡ z.life.start) (said_so : ys ≡ xs ++ EndServer start ∷ []) where
  ended_with : StopsMove t u (behind base xs) (said (EndServer s)) → ((p : Part) → PartStands p settings t.requests z (behind base xs) → PartStands p settings t.requests y (behind base xs ++ said (EndServer z.life.start) ∷ [])) → Does (λ t events. Stands settings t events) (send (EndServer s)) base t xs u ys
  ended_with stops parts =
      let here : z.life.start ≡ s = start_at_place t.lasts.items g s z (read_here t.lasts.items g z within read) at in
      does_send settings (EndServer s) base t u xs ys (said_so ∙ ap (λ n. xs ++ EndServer n ∷ []) (is ∙ here))
      (λ st. start_moves settings t u (behind base xs) (λ n. did (EndServer n) not_message) g s z y at within read set own group es now os r (λ n. refl) (λ n. refl) (λ n. refl) (λ n m. refl)
      (λ n _ h. groups_kept settings t.groups u.groups (behind base xs) (did (EndServer n) not_message) gs (groups_stand settings t.groups (behind base xs) (did (EndServer n) not_message) refl) h)
      (λ n e. subst (λ k. StopsMove t u (behind base xs) (said (EndServer k))) (sym e) stops) (λ n e. record { created = same_created settings t u (behind base xs) (did (EndServer n) not_message) cr (λ m. refl); waiting = same_waits settings t.origins u.origins (behind base xs) (did (EndServer n) not_message) wt (λ rows. quiet_waits settings rows (behind base xs) (did (EndServer n) not_message) refl) }) parts st)

-- one that is no editor's request
pub not_passed : (m : Message) → moves_ids m ≡ false → is_passed m ≡ false
not_passed (request id method ps) h = h
not_passed other h = refl

pub told_on : (settings : Settings) (t u : Tables) (events : List Event) (s : ℕ) (text : List ℕ) → u.origins.waiting ≡ t.origins.waiting → is_passed (message_of text) ≡ false → WaitsMove settings t.origins u.origins events (said (ToServer s text))
told_on settings t u events s text wt h = same_waits settings t.origins u.origins events (said (ToServer s text)) wt (λ rows. told_waits settings events s text (message_of text) rows h)

-- one that moves no table of a start
pub unmoved_does : (settings : Settings) (t u : Tables) (xs ys : List Out) (base : List Event) (g s start : ℕ) (z : Start) (text : List ℕ) → slice_get (map number_in t.lasts.items) g ≡ Some s → g < length t.lasts.items → z ≡ get_or t.lasts.items g z
    → requests (codes "shutdown") (message_of text) ≡ false → moves_ids (message_of text) ≡ false → (is_ready z.life.stage ≡ true → AsksStay settings z.life.start (behind base xs) (said (ToServer z.life.start text))) → u.lasts.items ≡ t.lasts.items → u.editors ≡ t.editors → u.groups ≡ t.groups → u.course ≡ t.course → u.origins ≡ t.origins → u.requests ≡ t.requests
    → start ≡ z.life.start → ys ≡ xs ++ ToServer start text ∷ [] → Does (λ t events. Stands settings t events) (send (ToServer s text)) base t xs u ys
unmoved_does settings t u xs ys base g s start z text at within read runs counts silent ls es gs now os r is said_so =
    sent_does settings t u xs ys base g s start z z text at within read (ls ∙ sym (same_set t.lasts.items g z (read_here t.lasts.items g z within read))) refl refl es gs now (ap (λ v. v.groups) os) (ap (λ v. v.created) os) r is said_so (λ st. told_stops t u (behind base xs) s text (ap (λ v. v.stopping) os) runs) (told_on settings t u (behind base xs) s text (ap (λ v. v.waiting) os) (not_passed (message_of text) counts)) (λ st p h. part p h)
  where
    part : (p : Part) → PartStands p settings t.requests z (behind base xs) → PartStands p settings t.requests z (behind base xs ++ said (ToServer z.life.start text) ∷ [])
    part of_life h = part_quiet of_life settings t.requests z (behind base xs) (said (ToServer z.life.start text)) runs h
    part of_ids h = part_quiet of_ids settings t.requests z (behind base xs) (said (ToServer z.life.start text)) counts h
    part of_shown h = part_quiet of_shown settings t.requests z (behind base xs) (said (ToServer z.life.start text)) refl h
    part of_stop h = part_quiet of_stop settings t.requests z (behind base xs) (said (ToServer z.life.start text)) runs h
    part of_asks h = told_asks settings z.life.stage z.life.start (behind base xs) text (message_of text) z.asks silent h
    part of_parked h = told_parked settings z.life.stage z.life.start (behind base xs) text (message_of text) z.parked silent h
    part of_live h = part_quiet of_live settings t.requests z (behind base xs) (said (ToServer z.life.start text)) refl h
    part of_lists h = part_quiet of_lists settings t.requests z (behind base xs) (said (ToServer z.life.start text)) refl h

-- nor any other
pub notify_does : (settings : Settings) (t : Tables) (xs ys : List Out) (base : List Event) (g s start : ℕ) (z : Start) (text : List ℕ) → slice_get (map number_in t.lasts.items) g ≡ Some s → g < length t.lasts.items → z ≡ get_or t.lasts.items g z
    → requests (codes "shutdown") (message_of text) ≡ false → moves_ids (message_of text) ≡ false → (is_ready z.life.stage ≡ true → is_answer (message_of text) ≡ false) → start ≡ z.life.start → ys ≡ xs ++ ToServer start text ∷ [] → Does (λ t events. Stands settings t events) (send (ToServer s text)) base t xs t ys
notify_does settings t xs ys base g s start z text at within read runs counts silent is said_so = unmoved_does settings t t xs ys base g s start z text at within read runs counts (λ ready. asks_stay settings z.life.start (behind base xs) (said (ToServer z.life.start text)) (silent ready)) refl refl refl refl refl refl is said_so

-- an answer under the id of no ask that is left
pub respond_does : (settings : Settings) (t : Tables) (xs ys : List Out) (base : List Event) (g s start : ℕ) (z : Start) (text : List ℕ) → slice_get (map number_in t.lasts.items) g ≡ Some s → g < length t.lasts.items → z ≡ get_or t.lasts.items g z
    → requests (codes "shutdown") (message_of text) ≡ false → moves_ids (message_of text) ≡ false → AllByRecursion (λ (a : Ask). is_under (answered_id (message_of text)) a ≡ false) (asks_of settings s (behind base xs)) → AllByRecursion (λ (p : Parked). waits_under (answered_id (message_of text)) p ≡ false) (parked_of settings s (behind base xs)) → start ≡ z.life.start → ys ≡ xs ++ ToServer start text ∷ []
    → Does (λ t events. Stands settings t events) (send (ToServer s text)) base t xs t ys
respond_does settings t xs ys base g s start z text at within read runs counts free none is said_so =
    let same : z.life.start ≡ s = start_at_place t.lasts.items g s z (read_here t.lasts.items g z within read) at in
    unmoved_does settings t t xs ys base g s start z text at within read runs counts
    (λ _. none_handed settings z.life.start (behind base xs) text (message_of text) (subst (λ n. AllByRecursion (λ (a : Ask). is_under (answered_id (message_of text)) a ≡ false) (asks_of settings n (behind base xs))) (sym same) free) (subst (λ n. AllByRecursion (λ (p : Parked). waits_under (answered_id (message_of text)) p ≡ false) (parked_of settings n (behind base xs))) (sym same) none)) refl refl refl refl refl refl is said_so

not_shutdown : (method : List ℕ) → is_own method ≡ false → bytes_eq (codes "shutdown") method ≡ false
not_shutdown method h = go (bytes_eq (codes "shutdown") method) refl
  where
    go : (b : Bool) → bytes_eq (codes "shutdown") method ≡ b → b ≡ false
    go false e = refl
    go true e = never (sym (ap is_own (sym ((bytes_eq-Decides (codes "shutdown") method).0 e))) ∙ h)

-- an editor's request
pub forward_does : (settings : Settings) (t u : Tables) (xs ys : List Out) (base : List Event) (g s start e : ℕ) (z : Start) (ids : Table) (pending : Pending) (text id : List ℕ) (work partial : Option (List ℕ)) (method : List ℕ) (name : Id) (ps : Option Json) → slice_get (map number_in t.lasts.items) g ≡ Some s → g < length t.lasts.items → z ≡ get_or t.lasts.items g z
    → message_of text ≡ request name method ps → is_own method ≡ false → Sends settings s e id work partial (behind base xs) → forwarded_of (record { number = z.ids.next; pending = pending }) ≡ sent_as (record { editor = e; id = id; work = work; partial = partial }) z.ids.next
    → ids.requests ≡ z.ids.requests ++ record { number = z.ids.next; pending = pending } ∷ [] → ids.next ≡ z.ids.next + 1 → ids.limit ≡ z.ids.limit → IsInOrder ids
    → u.lasts.items ≡ slice_set t.lasts.items g (record z { ids = ids }) → u.editors ≡ t.editors → u.groups ≡ t.groups → u.course ≡ t.course → u.origins.groups ≡ t.origins.groups → u.origins.stopping ≡ t.origins.stopping → u.origins.created ≡ t.origins.created → WaitsMove settings t.origins u.origins (behind base xs) (said (ToServer s text)) → u.requests ≡ t.requests → start ≡ z.life.start → ys ≡ xs ++ ToServer start text ∷ []
    → Does (λ t events. Stands settings t events) (send (ToServer s text)) base t xs u ys
forward_does settings t u xs ys base g s start e z ids pending text id work partial method name ps at within read says own sends kept put next limit order set es gs now og sk cr waits r is said_so =
    let y : Start = record z { ids = ids } in
    let here : z.life.start ≡ s = start_at_place t.lasts.items g s z (read_here t.lasts.items g z within read) at in
    sent_does settings t u xs ys base g s start z y text at within read set refl refl es gs now og cr r is said_so (λ st. told_stops t u (behind base xs) s text sk (ap (requests (codes "shutdown")) says ∙ not_shutdown method own)) waits (λ st p h. part (subst (λ n. Sends settings n e id work partial (behind base xs)) (sym here) sends) p h)
  where
    part : Sends settings z.life.start e id work partial (behind base xs) → (p : Part) → PartStands p settings t.requests z (behind base xs) → PartStands p settings t.requests (record z { ids = ids }) (behind base xs ++ said (ToServer z.life.start text) ∷ [])
    part sends of_life h = still_life settings t.requests (behind base xs) (said (ToServer z.life.start text)) z (record z { ids = ids }) refl refl (ap (requests (codes "shutdown")) says ∙ not_shutdown method own) h
    part sends of_ids h = part_ids settings t.requests (behind base xs) (said (ToServer z.life.start text)) z (record z { ids = ids }) refl
        (sent_ids settings (behind base xs) t.requests z.life.start z.ids ids (forwarding_of settings z.life.start (behind base xs)) text method (message_of text) name ps (record { number = z.ids.next; pending = pending }) (record { editor = e; id = id; work = work; partial = partial }) says own sends kept put next limit order) h
    part sends of_shown h = still_shown settings t.requests (behind base xs) (said (ToServer z.life.start text)) z (record z { ids = ids }) refl refl refl h
    part sends of_stop h = still_stop settings t.requests (behind base xs) (said (ToServer z.life.start text)) z (record z { ids = ids }) refl (ap (requests (codes "shutdown")) says ∙ not_shutdown method own) h
    part sends of_asks h = still_asks settings t.requests (behind base xs) (said (ToServer z.life.start text)) z (record z { ids = ids }) refl refl (ap is_answer says) h
    part sends of_parked h = still_parked settings t.requests (behind base xs) (said (ToServer z.life.start text)) z (record z { ids = ids }) refl refl (ap is_answer says) h
    part sends of_live h = still_live settings t.requests (behind base xs) (said (ToServer z.life.start text)) z (record z { ids = ids }) refl refl refl h
    part sends of_lists h = still_lists settings t.requests (behind base xs) (said (ToServer z.life.start text)) z (record z { ids = ids }) refl refl refl h

-- a cancel
pub cancel_does : (settings : Settings) (t u : Tables) (xs ys : List Out) (base : List Event) (g s start n : ℕ) (z : Start) (ids : Table) (text method : List ℕ) (ps : Option Json) → slice_get (map number_in t.lasts.items) g ≡ Some s → g < length t.lasts.items → z ≡ get_or t.lasts.items g z
    → message_of text ≡ notification method ps → bytes_eq method (codes "$/cancelRequest") ≡ true → ((k : ℕ) → k < 2 ^ 32 → is_written (named_of (codes "id") ps) k ≡ nat_eq k n)
    → ids.requests ≡ with_cancelled n z.ids.requests → ids.next ≡ z.ids.next → ids.limit ≡ z.ids.limit → IsInOrder ids
    → u.lasts.items ≡ slice_set t.lasts.items g (record z { ids = ids }) → u.editors ≡ t.editors → u.groups ≡ t.groups → u.course ≡ t.course → u.origins ≡ t.origins → u.requests ≡ t.requests → start ≡ z.life.start → ys ≡ xs ++ ToServer start text ∷ []
    → Does (λ t events. Stands settings t events) (send (ToServer s text)) base t xs u ys
cancel_does settings t u xs ys base g s start n z ids text method ps at within read says cancels written put next limit order set es gs now os r is said_so =
    sent_does settings t u xs ys base g s start z (record z { ids = ids }) text at within read set refl refl es gs now (ap (λ v. v.groups) os) (ap (λ v. v.created) os) r is said_so (λ st. told_stops t u (behind base xs) s text (ap (λ v. v.stopping) os) (ap (requests (codes "shutdown")) says)) (told_on settings t u (behind base xs) s text (ap (λ v. v.waiting) os) (ap is_passed says)) (λ st p h. part st p h)
  where
    part : Stands settings t (behind base xs) → (p : Part) → PartStands p settings t.requests z (behind base xs) → PartStands p settings t.requests (record z { ids = ids }) (behind base xs ++ said (ToServer z.life.start text) ∷ [])
    part st of_life h = still_life settings t.requests (behind base xs) (said (ToServer z.life.start text)) z (record z { ids = ids }) refl refl (ap (requests (codes "shutdown")) says) h
    part st of_ids h = part_ids settings t.requests (behind base xs) (said (ToServer z.life.start text)) z (record z { ids = ids }) refl
        (cancelled_ids settings (behind base xs) t.requests z.life.start z.ids ids (forwarding_of settings z.life.start (behind base xs)) text method (message_of text) ps n st.range says cancels written put next limit order) h
    part st of_shown h = still_shown settings t.requests (behind base xs) (said (ToServer z.life.start text)) z (record z { ids = ids }) refl refl refl h
    part st of_stop h = still_stop settings t.requests (behind base xs) (said (ToServer z.life.start text)) z (record z { ids = ids }) refl (ap (requests (codes "shutdown")) says) h
    part st of_asks h = still_asks settings t.requests (behind base xs) (said (ToServer z.life.start text)) z (record z { ids = ids }) refl refl (ap is_answer says) h
    part st of_parked h = still_parked settings t.requests (behind base xs) (said (ToServer z.life.start text)) z (record z { ids = ids }) refl refl (ap is_answer says) h
    part st of_live h = still_live settings t.requests (behind base xs) (said (ToServer z.life.start text)) z (record z { ids = ids }) refl refl refl h
    part st of_lists h = still_lists settings t.requests (behind base xs) (said (ToServer z.life.start text)) z (record z { ids = ids }) refl refl refl h

-- the numbers that are kept, where one more goes to its place among them
abbrev pub Adds : ℕ → Tables → Tables → Type 0
Adds s t u = (low high : List ℕ) → t.origins.stopping.items ≡ low ++ high → AllByRecursion (λ n. n < s) low → AllByRecursion (λ n. s < n) high → u.origins.stopping.items ≡ low ++ s ∷ high

-- the request `shutdown`
pub shut_does : (settings : Settings) (t u : Tables) (xs ys : List Out) (base : List Event) (g s start n : ℕ) (z : Start) (life : Standing) (text : List ℕ) (name : Id) (ps : Option Json) → slice_get (map number_in t.lasts.items) g ≡ Some s → g < length t.lasts.items → z ≡ get_or t.lasts.items g z → z.life.stage ≡ Ready
    → message_of text ≡ request name (codes "shutdown") ps → life ≡ stopped n t.course.time z.life → Adds start t u
    → u.lasts.items ≡ slice_set t.lasts.items g (record z { life = life; shown = None }) → u.editors ≡ t.editors → u.groups ≡ t.groups → u.course ≡ t.course → u.origins.groups ≡ t.origins.groups → u.origins.created ≡ t.origins.created → u.origins.waiting ≡ t.origins.waiting → u.requests ≡ t.requests → start ≡ life.start → ys ≡ xs ++ ToServer start text ∷ []
    → Does (λ t events. Stands settings t events) (send (ToServer s text)) base t xs u ys
shut_does settings t u xs ys base g s start n z life text name ps at within read ready says stops adds set es gs now os cr wt r is said_so =
    sent_does settings t u xs ys base g s start z y text at within read set own (ap (λ (l : Standing). l.group) stops) es gs now os cr r (is ∙ own) said_so awaited (told_on settings t u (behind base xs) s text wt (ap is_passed says)) (λ st p h. part st p h)
  where
    y : Start
    y = record z { life = life; shown = None }

    here : slice_get t.lasts.items g ≡ Some z
    here = read_here t.lasts.items g z within read

    own : life.start ≡ z.life.start
    own = ap (λ (l : Standing). l.start) stops

    same : z.life.start ≡ s
    same = start_at_place t.lasts.items g s z here at

    asks : requests (codes "shutdown") (message_of text) ≡ true
    asks = ap (requests (codes "shutdown")) says

    stage_here : Stands settings t (behind base xs) → (life_of z.life.start (behind base xs)).stage ≡ Ready
    stage_here st = ap (λ (l : Life). l.stage) ((st.lasts.each g z here).parts of_life) ∙ ready

    awaited : Stands settings t (behind base xs) → StopsMove t u (behind base xs) (said (ToServer s text))
    awaited st h =
        let there : s < starts_of (behind base xs) = subst (λ k. k < starts_of (behind base xs)) same (known settings t.requests t.origins.groups.items (behind base xs) z.life.group z st.origins (st.lasts.each g z here)) in
        let x : Added (behind base xs) s text = stop_added (behind base xs) s text there (subst (λ k. (life_of k (behind base xs)).stage ≡ Ready) same (stage_here st)) asks in
        x.now ∙ sym (subst (λ k. Adds k t u) (is ∙ own ∙ same) adds x.low x.high (sym h ∙ x.was) x.under x.over)

    moment : Stands settings t (behind base xs) → stop_of z.life.start (behind base xs ++ said (ToServer z.life.start text) ∷ []) ≡ Some t.course.time
    moment st = stop_more z.life.start (behind base xs) (said (ToServer z.life.start text))
        ∙ ap (λ b. if b && (is_ready (life_of z.life.start (behind base xs)).stage && requests (codes "shutdown") (message_of text)) then Some (time_of (behind base xs)) else stop_of z.life.start (behind base xs)) (itself z.life.start)
        ∙ ap (λ k. if is_ready k && requests (codes "shutdown") (message_of text) then Some (time_of (behind base xs)) else stop_of z.life.start (behind base xs)) (stage_here st)
        ∙ ap (λ b. if b then Some (time_of (behind base xs)) else stop_of z.life.start (behind base xs)) asks ∙ ap (λ k. Some k) st.house.now

    part : Stands settings t (behind base xs) → (p : Part) → PartStands p settings t.requests z (behind base xs) → PartStands p settings t.requests y (behind base xs ++ said (ToServer z.life.start text) ∷ [])
    part st of_life h = part_life settings t.requests (behind base xs) (said (ToServer z.life.start text)) z y own
        (rw (itself z.life.start) (ap (λ k. record { stage = k; started = z.started }) (rw (ready, says) refl ∙ ap (λ (l : Standing). l.stage) (sym stops)))) h
    part st of_ids h = still_ids settings t.requests (behind base xs) (said (ToServer z.life.start text)) z y own refl (ap moves_ids says) h
    part st of_shown h = late_shown settings t.requests (behind base xs ++ said (ToServer z.life.start text) ∷ []) y (ap (λ (l : Standing). is_late l.stage) stops)
    part st of_stop h = subst (λ (l : Standing). StopAt l.stage l.stopping (stop_of l.start (behind base xs ++ said (ToServer z.life.start text) ∷ []))) (sym stops) (sym (moment st))
    part st of_asks h = late_asks settings t.requests (behind base xs ++ said (ToServer z.life.start text) ∷ []) y (ap (λ (l : Standing). is_late l.stage) stops)
    part st of_parked h = late_parked settings t.requests (behind base xs ++ said (ToServer z.life.start text) ∷ []) y (ap (λ (l : Standing). is_late l.stage) stops)
    part st of_live h = late_live settings t.requests (behind base xs ++ said (ToServer z.life.start text) ∷ []) y (ap (λ (l : Standing). is_late l.stage) stops)
    part st of_lists h = late_lists settings t.requests (behind base xs ++ said (ToServer z.life.start text) ∷ []) y (ap (λ (l : Standing). is_late l.stage) stops)

ending : (g : Stage) → (g ≡ Ended → ⊥) → stage_ending g ≡ Ending
ending Ended h = absurd (h refl)
ending other h = refl

ending_same : (g : Stage) → is_stopping (stage_ending g) ≡ false
ending_same Ended = refl
ending_same other = refl

ending_over : (s : ℕ) (l : Life) → is_stopping (life_behind s l (said (EndServer s))).stage ≡ false
ending_over s l = ap (λ b. is_stopping (if b then record { stage = stage_ending l.stage; started = l.started } else l).stage) (itself s) ∙ ending_same l.stage

-- its program is to be ended
pub end_does : (settings : Settings) (t u : Tables) (xs ys : List Out) (base : List Event) (g s start : ℕ) (z : Start) (life : Standing) → slice_get (map number_in t.lasts.items) g ≡ Some s → g < length t.lasts.items → z ≡ get_or t.lasts.items g z → (z.life.stage ≡ Ended → ⊥) → life ≡ moved Ending z.life → u.origins.stopping.items ≡ unstopped start t.origins.stopping.items
    → u.lasts.items ≡ slice_set t.lasts.items g (record z { life = life; shown = None }) → u.editors ≡ t.editors → u.groups ≡ t.groups → u.course ≡ t.course → u.origins.groups ≡ t.origins.groups → u.origins.created ≡ t.origins.created → u.origins.waiting ≡ t.origins.waiting → u.requests ≡ t.requests → start ≡ life.start → ys ≡ xs ++ EndServer start ∷ []
    → Does (λ t events. Stands settings t events) (send (EndServer s)) base t xs u ys
end_does settings t u xs ys base g s start z life at within read runs ends ceases set es gs now os cr wt r is said_so =
    let own : life.start ≡ z.life.start = ap (λ (l : Standing). l.start) ends in
    ended_with settings t u xs ys base g s start z (record z { life = life; shown = None }) at within read set own (ap (λ (l : Standing). l.group) ends) es gs now os cr wt r (is ∙ own) said_so (over (is ∙ own ∙ start_at_place t.lasts.items g s z (read_here t.lasts.items g z within read) at)) (λ p h. part own p h)
  where
    over : start ≡ s → StopsMove t u (behind base xs) (said (EndServer s))
    over same h = stopping_less (behind base xs) (said (EndServer s)) s refl (λ m. refl) (ending_over s (life_of s (behind base xs)))
        ∙ ap (unstopped s) h ∙ ap (λ k. unstopped k t.origins.stopping.items) (sym same) ∙ sym ceases

    part : life.start ≡ z.life.start → (p : Part) → PartStands p settings t.requests z (behind base xs) → PartStands p settings t.requests (record z { life = life; shown = None }) (behind base xs ++ said (EndServer z.life.start) ∷ [])
    part own of_life h = part_life settings t.requests (behind base xs) (said (EndServer z.life.start)) z (record z { life = life; shown = None }) own
        (rw (itself z.life.start) (ap (λ k. record { stage = k; started = z.started }) (ending z.life.stage runs ∙ ap (λ (l : Standing). l.stage) (sym ends)))) h
    part own of_ids h = still_ids settings t.requests (behind base xs) (said (EndServer z.life.start)) z (record z { life = life; shown = None }) own refl refl h
    part own of_shown h = late_shown settings t.requests (behind base xs ++ said (EndServer z.life.start) ∷ []) (record z { life = life; shown = None }) (ap (λ (l : Standing). is_late l.stage) ends)
    part own of_stop h = no_stop settings t.requests (behind base xs ++ said (EndServer z.life.start) ∷ []) (record z { life = life; shown = None }) (ap (λ (l : Standing). is_stopping l.stage) ends)
    part own of_asks h = late_asks settings t.requests (behind base xs ++ said (EndServer z.life.start) ∷ []) (record z { life = life; shown = None }) (ap (λ (l : Standing). is_late l.stage) ends)
    part own of_parked h = late_parked settings t.requests (behind base xs ++ said (EndServer z.life.start) ∷ []) (record z { life = life; shown = None }) (ap (λ (l : Standing). is_late l.stage) ends)
    part own of_live h = late_live settings t.requests (behind base xs ++ said (EndServer z.life.start) ∷ []) (record z { life = life; shown = None }) (ap (λ (l : Standing). is_late l.stage) ends)
    part own of_lists h = late_lists settings t.requests (behind base xs ++ said (EndServer z.life.start) ∷ []) (record z { life = life; shown = None }) (ap (λ (l : Standing). is_late l.stage) ends)
