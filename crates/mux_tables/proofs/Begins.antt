-- The tables of a multiplexer that heard nothing.
use Rattle.std.proofs.Common.{◌≡◌, ℕ, ◌<◌, ◌≤◌, ◌^◌, [], false, refl, sym, arith}
use Rattle.std.specs.Prelude.{Option, Some, None}
use Rattle.event_model.specs.Settings.{Settings}
use Rattle.mux_tokens.proofs.Standing.{created_begins}
use Rattle.mux_tables.specs.declared.tables.Tables.{Tables}
use Rattle.mux_tables.specs.Stands.{Part, of_life, of_ids, of_shown, of_stop, of_asks, of_parked, of_live, of_lists, PartStands, blank, GroupsStand, LastsStand, Stands}
use Rattle.mux_waits.proofs.Moves.{waiting_begins}

none_some : {A : Type 0} {x : A} → ◌≡◌ {A = Option A} None (Some x) → ⊥
none_some e = cc

blank_stands : (settings : Settings) (limit s : ℕ) → 2 ≤ limit → (p : Part) → PartStands p settings limit (blank limit s) []
blank_stands settings limit s h of_life = refl
blank_stands settings limit s h of_ids = record { next = refl; open_requests = refl; ends = refl; order = record { rising = omega arith; within = h } }
blank_stands settings limit s h of_shown = (refl, refl)
blank_stands settings limit s h of_stop = tt
blank_stands settings limit s h of_asks = (refl, refl)
blank_stands settings limit s h of_parked = (refl, refl)
blank_stands settings limit s h of_live = (refl, refl)
blank_stands settings limit s h of_lists = (refl, refl)

no_lasts : (settings : Settings) (limit : ℕ) → 2 ≤ limit → LastsStand settings limit [] []
no_lasts settings limit h = record {
  rise = tt;
  each = λ i x e. absurd (none_some e);
  lost = λ g s none e. absurd (none_some e);
  fresh = λ s l p. blank_stands settings limit s h p;
  old = λ s g e. absurd (none_some e);
}

no_groups : (settings : Settings) (limit idle : ℕ) → settings.limits.groups ≡ limit → settings.limits.idle ≡ idle → GroupsStand settings (record { limit = limit; idle = idle; groups = [] }) []
no_groups settings limit idle g i = record { groups = refl; limit = g; idle = i }

pub begins : (settings : Settings) (t : Tables) (groups idle : ℕ) → 2 ≤ t.requests → t.requests < 2 ^ 32 → t.editors ≡ [] → t.groups ≡ record { limit = groups; idle = idle; groups = [] } → t.course ≡ record { time = 0; stopped = false } → t.lasts.items ≡ [] → t.origins.groups.items ≡ [] → t.origins.stopping.items ≡ [] → t.origins.created ≡ [] → t.origins.waiting ≡ []
    → settings.limits.groups ≡ groups → settings.limits.idle ≡ idle → settings.limits.requests ≡ t.requests → Stands settings t []
begins settings t groups idle h below es gs now ls os sk cr wt limit wait last = record {
  house = record {
    editors = rw es (record { count = refl; phase = λ e. refl; home = λ e. refl; names = λ e. record { own = λ g w h. absurd (none_some h); unplaced = λ n. refl }; meant = λ e w. refl; asked = λ e there. refl; full = λ e there u. refl });
    groups = rw gs (no_groups settings groups idle limit wait);
    now = rw now refl;
    halted = rw now refl;
  };
  origins = rw os (record { count = refl; group = λ s. refl });
  stopping = sym sk;
  created = rw cr (created_begins settings);
  waiting = rw wt (waiting_begins settings);
  lasts = rw ls (no_lasts settings t.requests h);
  requests = last;
  range = below;
}
