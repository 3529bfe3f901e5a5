-- What served lanes say of the hub's history.
use Rattle.std.proofs.Common.{◌≡◌, ℕ, Bool, true, false, ◌&&◌, List, refl, sym, subst}
use Rattle.std.specs.Prelude.{Option}
use Rattle.outside_io.specs.Sessions.{Session}
use Rattle.mux_history.specs.declared.cause.Cause.{Cause}
use Rattle.mux_history.specs.declared.entry.Entry.{Entry}
use Rattle.event_model.specs.Settings.{Settings}
use Rattle.mux_model.specs.Fits.{fits}
use Rattle.lane_desk.specs.Desks.{TooMany}
use Rattle.lane_desk.specs.Stops.{is_idle}
use Rattle.lane_lists.specs.Deeds.{seats_of}
use Rattle.mux_hub.specs.group_facts.specs.Legal.{Legal}
use Rattle.mux_hub.specs.Entries.{passes, was_stopped}
use Rattle.mux_hub.specs.Hubs.{HubView, HubStands, Tells}
use Rattle.mux_hub.specs.Sessions.{Sessions}
use Rattle.mux_daemon.specs.declared.open.Lanes.{Lanes}
use Rattle.mux_daemon.specs.declared.serve.Answer.{Answer}
use Rattle.mux_daemon.specs.Causes.{EventsOf}
use Rattle.mux_daemon.specs.Events.{CameOf}
use Rattle.mux_daemon.specs.Served.{ServedAs, history}
use Rattle.mux_service.specs.Services.{HubHistory, LanesServed}
use Rattle.mux_service.proofs.Speaking.{speaker_joined}
use Rattle.mux_service.proofs.Stopping.{asked_to_stop}

and_left : (a b : Bool) → (a && b) ≡ true → a ≡ true
and_left true b h = refl
and_left false b h = cc

-- the history that a hub stands for, under the name of its settings
pub hub_history : {J : Type 0} (told : J → Option (List Entry)) (settings : Settings) (hub : HubView J) (journal : J) (entries : List Entry)
    → hub.settings ≡ settings → journal ≡ hub.journal → HubStands told hub entries → Sessions hub.settings entries → HubHistory told settings journal entries
hub_history told settings hub journal entries e j h s = record {
  legal = subst (λ (x : Settings). Legal x entries) e h.legal;
  sessions = subst (λ (x : Settings). Sessions x entries) e s;
  few = h.few;
  told_by = subst (λ k. Tells (told k) entries) (sym j) h.told_by;
}

module _ {J K P B C : Type 0} (told : J → Option (List Entry)) (links_back links : P → Option (List Session)) (faults : P → ℕ) (runs left : B → Option (List Session)) (misses : B → ℕ) (given moments : C → Option (List ℕ)) (limit : ℕ) (settings : Settings) (hub_of : K → HubView J) where
  pub lanes_served : (core : K) (hub : HubView J) (journal : J) (old new : Lanes P B C) (x : Answer)
      → ((k : K) → (hub_of k).settings ≡ settings) → hub ≡ hub_of core → hub.settings ≡ settings → journal ≡ hub.journal
      → (f : ServedAs (λ (k : K) (entries : List Entry). HubStands told (hub_of k) entries)
      (TooMany (λ (k : K) (entries : List Entry). HubStands told (hub_of k) entries) fits (λ (k : K) (entries : List Entry) (c : Cause). passes (hub_of k).settings entries c)) was_stopped links_back links faults runs left misses given moments limit core old new x)
      → ((entries : List Entry) → HubStands told hub entries → Sessions hub.settings entries)
      → CameOf links_back links runs left misses given moments limit f.story x old new
      → EventsOf links_back links runs left misses limit f.story x old new
      → LanesServed told links_back links runs left misses given moments limit settings journal old new x
  lanes_served core hub journal old new x named same e j f s came events =
      let stands : HubStands told hub (history f.story) = subst (λ (h : HubView J). HubStands told h (history f.story)) (sym same) f.stands_for in
      let had = hub_history told settings hub journal (history f.story) e j stands (s (history f.story) stands) in record {
        story = f.story;
        editors = f.editors;
        servers = f.servers;
        had = had;
        came = came;
        events = events;
        ports_len = f.ports_len;
        berths_len = f.berths_len;
        stopped = λ h. and_left (was_stopped (history f.story)) (is_idle (seats_of f.story.editors f.story.servers f.story.deeds)) ((f.over h).1);
        asked = λ h.
            let a = asked_to_stop settings (history f.story) had.legal h in
            record { editor = a.0; asked = a.1; came = events.editors a.0 (speaker_joined f.story.editors f.story.servers f.story.deeds f.fair a.0 a.1.before a.1.body _ a.1.behind a.1.is) };
        numbers = λ h.
            let t = f.numbers h in
            record { cause = t.cause; can_come = t.can_come; too_many = subst (λ (q : Settings). passes q (history f.story) t.cause ≡ true) (named t.core) t.too_many };
      }
