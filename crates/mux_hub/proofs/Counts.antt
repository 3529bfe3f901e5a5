-- How many editors joined and how many starts were spawned, by the entries of a history and by its events.
use Rattle.std.proofs.Common.{◌≡◌, ℕ, ◌+◌, ◌≤◌, ◌<◌, List, [], ◌∷◌, ◌++◌, fold, length, map, refl, ap, sym, ◌∙◌, subst, true, false, arith}
use Rattle.std.specs.Prelude.{Option, IsTrue}
use Rattle.std.proofs.lemmas.List.Sums.{fold-append}
use Rattle.mux_history.specs.Cores.{joins, joined, spawns}
use Rattle.mux_history.specs.declared.cause.Cause.{Cause}
use Rattle.mux_history.specs.declared.cause.Cause.TheVariants.{Joined, FromEditor, EditorGone, Started, StartFailed, FromServer, ServerGone, Drained, Tick}
use Rattle.mux_history.specs.declared.entry.Entry.{Entry}
use Rattle.mux_history.specs.declared.out.Out.{Out}
use Rattle.mux_history.specs.declared.out.Out.TheVariants.{ToEditor, ToServer, Spawn, CloseEditor, EndServer}
use Rattle.event_model.specs.Event.{Event, heard, said, with_cause, with_entry, events_of}
use Rattle.event_model.specs.Phases.{editors_of, editors_behind}
use Rattle.event_model.specs.Settings.{Settings}
use Rattle.mux_facts.specs.Ranges.{InRange}
use Rattle.mux_model.specs.Fits.{fits}
use Rattle.group_sessions.specs.session_laws.proofs.SpawnedLaw.{counts_above, counts_below}
use Rattle.group_sessions.specs.group_facts.specs.Legal.{Legal}
use Rattle.group_sessions.proofs.SpawnedLaw.{numbered, spawned_once_law}
use Rattle.event_model.specs.Spawns.{starts_of}
use Rattle.mux_hub.proofs.HubLaw.{legal_more}
use Rattle.mux_hub.proofs.Spawned.{servers_count}
use Rattle.mux_hub.specs.Entries.{emits, entry_of}
use Rattle.mux_hub.specs.Hubs.{HubView, HubStands}

heard_joins : (n : ℕ) (cause : Cause) → editors_behind n (heard cause) ≡ n + joins cause
heard_joins n (Joined e) = refl
heard_joins n (FromEditor e body) = omega arith
heard_joins n (EditorGone e why) = omega arith
heard_joins n (Started s) = omega arith
heard_joins n (StartFailed s) = omega arith
heard_joins n (FromServer s body) = omega arith
heard_joins n (ServerGone s) = omega arith
heard_joins n (Drained e k) = omega arith
heard_joins n (Tick t) = omega arith

outs_join : (n : ℕ) (outs : List Out) → fold editors_behind n (map said outs) ≡ n
outs_join n [] = refl
outs_join n (ToEditor e body ∷ outs) = outs_join n outs
outs_join n (ToServer s body ∷ outs) = outs_join n outs
outs_join n (Spawn s g ∷ outs) = outs_join n outs
outs_join n (CloseEditor e ∷ outs) = outs_join n outs
outs_join n (EndServer s ∷ outs) = outs_join n outs

entry_joins : (events : List Event) (entry : Entry) → editors_of (with_entry events entry) ≡ editors_of events + joins entry.cause
entry_joins events entry = fold-append editors_behind 0 (with_cause events entry.cause) (map said entry.outs)
    ∙ (outs_join (editors_of (with_cause events entry.cause)) entry.outs ∙ (fold-append editors_behind 0 events (heard entry.cause ∷ []) ∙ heard_joins (editors_of events) entry.cause))

history_joins : (history : List Entry) (events : List Event) → editors_of (fold with_entry events history) ≡ editors_of events + joined history
history_joins [] events = omega arith
history_joins (entry ∷ history) events = let r = history_joins history (with_entry events entry) in let e = entry_joins events entry in omega (arith, r, e)

-- the hub's next editor
pub next_joins : {J : Type 0} (told : J → Option (List Entry)) (hub : HubView J) (history : List Entry) → HubStands told hub history → hub.spent ≡ false → length hub.tables.editors ≡ joined history
next_joins told hub history h s =
    let e : length hub.tables.editors ≡ editors_of (events_of history) = sym (h.tables s).tables.house.editors.count in
    let r : editors_of (events_of history) ≡ 0 + joined history = history_joins history [] in
    omega (arith, e, r)

-- a start has a server just where it was spawned
pub server_given : {J : Type 0} (told : J → Option (List Entry)) (hub : HubView J) (history : List Entry) (s : ℕ) → InRange hub.settings → HubStands told hub history → hub.spent ≡ false → s < length hub.starts
    → (true ≡ false → spawns s history ≡ 0) × (spawns s history ≡ 0 → true ≡ false)
server_given told hub history s range h fresh l =
    let count : length hub.starts ≡ starts_of (events_of history) = ap length (h.tables fresh).servers ∙ servers_count hub.settings (events_of history) in
    let one : spawns s history ≡ 1 = counts_below history s (numbered hub.settings range history h.legal) (subst (λ m. s < m) count l) in
    (λ no. absurd cc, λ zeros. absurd (omega (arith, one, zeros)))

pub server_missing : {J : Type 0} (told : J → Option (List Entry)) (hub : HubView J) (history : List Entry) (s : ℕ) → InRange hub.settings → HubStands told hub history → hub.spent ≡ false → length hub.starts ≤ s
    → (false ≡ false → spawns s history ≡ 0) × (spawns s history ≡ 0 → false ≡ false)
server_missing told hub history s range h fresh l =
    let count : length hub.starts ≡ starts_of (events_of history) = ap length (h.tables fresh).servers ∙ servers_count hub.settings (events_of history) in
    (λ same. counts_above history s (numbered hub.settings range history h.legal) (subst (λ m. m ≤ s) count l), λ zeros. refl)

-- behind one more entry no start was spawned twice
pub once_more : (settings : Settings) → InRange settings → (history : List Entry) (cause : Cause) (xs : List Out) → Legal settings history → IsTrue (fits history cause) → xs ≡ emits settings history cause
    → (s : ℕ) → spawns s (history ++ record { cause = cause; outs = xs } ∷ []) ≤ 1
once_more settings range history cause xs legal f same s =
    subst (λ ys. spawns s (history ++ record { cause = cause; outs = ys } ∷ []) ≤ 1) (sym same) (spawned_once_law settings range (history ++ entry_of settings history cause ∷ []) (legal_more settings history cause legal f) s)
