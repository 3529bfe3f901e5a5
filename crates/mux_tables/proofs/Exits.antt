-- A start of a group ends, or refuses; all groups end.
use Rattle.std.proofs.Common.{◌≡◌, ℕ, zero, suc, ◌+◌, Bool, true, false, ◌&&◌, List, [], ◌∷◌, ◌++◌, length, nat_lt, refl, ap, sym, ◌∙◌}
use Rattle.std.specs.Prelude.{Some, nat_le, slice_get, slice_set}
use Rattle.mux_history.specs.declared.cause.Cause.TheVariants.{FromEditor, FromServer}
use Rattle.rpc_message.specs.Message.{Message}
use Rattle.event_model.specs.Event.{Event, took}
use Rattle.event_model.specs.Settings.{Settings}
use Rattle.event_model.specs.Spawns.{group_of}
use Rattle.group_words.specs.declared.kept.Kept.{Kept}
use Rattle.group_words.specs.Placing.{all_from, changed, end_where, ended, exited, is_live}
use Rattle.group_words.specs.Houses.{House, at_group, exit_of, groups_lose, groups_next, groups_of, has_editor, house_of, is_first_error, places, stops}
use Rattle.group_words.proofs.Frames.{groups_more}
use Rattle.mux_tables.specs.declared.tables.Start.{Start}
use Rattle.mux_tables.specs.declared.tables.Tables.{Tables}
use Rattle.mux_tokens.specs.progress_route.specs.Tables.{less}
use Rattle.mux_tables.specs.Stands.{EditorsStand, Exits, GroupsStand, any_in, ends, unstopped}
use Rattle.event_model.specs.declared.stage.Stage.TheVariants.{Ended}
use Rattle.id_rewrite.specs.Tables.{IsInOrder}
use Rattle.restart_replay.specs.Standings.{moved}
use Rattle.editor_session.specs.declared.session.Session.{Session}
use Rattle.group_table.specs.Tables.{Table, with_groups}
use Rattle.event_model.specs.Phases.{desk_of, needs_server}
use Rattle.event_model.specs.Stages.{life_of, is_initializing}
use Rattle.mux_tables.proofs.Ends.{ends_all}
use Rattle.mux_tables.proofs.Lists.{editors_for}

pub lost_groups : (settings : Settings) (events : List Event) (ev : Event) (s g : ℕ) → ((x : House) → groups_next settings events x ev ≡ groups_lose settings events s x) → (t u : Table) (editors : List Session) → group_of s events ≡ Some g → EditorsStand settings editors events
    → u ≡ with_groups (changed g (exit_of settings.limits.restarts (any_in needs_server editors g)) t.groups) t → GroupsStand settings t events → GroupsStand settings u (events ++ ev ∷ [])
lost_groups settings events ev s g loses t u editors at stand is st = record {
  groups = groups_more settings events ev ∙ (loses (house_of settings events)
      ∙ (ap (λ o. at_group o (λ n. exit_of settings.limits.restarts (has_editor needs_server n (house_of settings events).home events)) (groups_of settings events)) at
      ∙ (ap (λ ns. changed g (exit_of settings.limits.restarts (nat_lt 0 (length ns))) (groups_of settings events)) (editors_for needs_server (house_of settings events).home editors events g stand.count stand.phase stand.home)
      ∙ (ap (changed g (exit_of settings.limits.restarts (any_in needs_server editors g))) st.groups ∙ ap (λ (w : Table). w.groups) (sym is)))));
  limit = st.limit ∙ ap (λ (w : Table). w.limit) (sym is);
  idle = st.idle ∙ ap (λ (w : Table). w.idle) (sym is);
}

-- E6: all that live end
pub stop_groups : (settings : Settings) (events : List Event) (e : ℕ) (body : List ℕ) (m : Message) (t u : Table) → places (desk_of e events).phase m ≡ false → stops events e m ≡ true → u.limit ≡ t.limit → u.idle ≡ t.idle
    → u.groups ≡ ends (all_from 0 is_live t.groups) t.groups → GroupsStand settings t events → GroupsStand settings u (events ++ took (FromEditor e body) m ∷ [])
stop_groups settings events e body m t u first stop l i gs s = record {
  groups = groups_more settings events (took (FromEditor e body) m) ∙ (rw (first, stop) refl ∙ (ap (end_where is_live) s.groups ∙ (sym (ends_all is_live t.groups) ∙ sym gs)));
  limit = s.limit ∙ sym l;
  idle = s.idle ∙ sym i;
}

-- S3: a start refuses its initialize
pub refused_groups : (settings : Settings) (events : List Event) (s g : ℕ) (body : List ℕ) (m : Message) (t u : Table) → is_first_error m ≡ true → is_initializing (life_of s events).stage ≡ true → group_of s events ≡ Some g → u.limit ≡ t.limit → u.idle ≡ t.idle
    → u.groups ≡ changed g ended t.groups → GroupsStand settings t events → GroupsStand settings u (events ++ took (FromServer s body) m ∷ [])
refused_groups settings events s g body m t u first stage at l i gs st = record {
  groups = groups_more settings events (took (FromServer s body) m) ∙ (rw (first, stage, at) refl ∙ (ap (changed g ended) st.groups ∙ sym gs));
  limit = st.limit ∙ sym l;
  idle = st.idle ∙ sym i;
}

-- a group that is changed
same_change : (f h : Kept → Kept) (xs : List Kept) (g : ℕ) → ((x : Kept) → slice_get xs g ≡ Some x → f x ≡ h x) → changed g f xs ≡ changed g h xs
same_change f h [] g e = refl
same_change f h (x ∷ xs) zero e = ap (λ y. y ∷ xs) (e x refl)
same_change f h (x ∷ xs) (suc g) e = ap (λ ys. x ∷ ys) (same_change f h xs g e)

no_change : (f : Kept → Kept) (xs : List Kept) (g : ℕ) → ((x : Kept) → slice_get xs g ≡ Some x → f x ≡ x) → changed g f xs ≡ xs
no_change f [] g e = refl
no_change f (x ∷ xs) zero e = ap (λ y. y ∷ xs) (e x refl)
no_change f (x ∷ xs) (suc g) e = ap (λ ys. x ∷ ys) (no_change f xs g e)

twice : (f h : Kept → Kept) (xs : List Kept) (g : ℕ) → changed g f (changed g h xs) ≡ changed g (λ x. f (h x)) xs
twice f h [] g = refl
twice f h (x ∷ xs) zero = refl
twice f h (x ∷ xs) (suc g) = ap (λ ys. x ∷ ys) (twice f h xs g)

pub lose_dead : (restarts : ℕ) (wanted : Bool) (t u : Table) (g : ℕ) → ((x : Kept) → slice_get t.groups g ≡ Some x → x.live ≡ false) → u ≡ t → u ≡ with_groups (changed g (exit_of restarts wanted) t.groups) t
lose_dead restarts wanted t u g dead same = same ∙ ap (λ gs. with_groups gs t) (sym (no_change (exit_of restarts wanted) t.groups g (λ x at. let e : x.live ≡ false = dead x at in rw e refl)))

module _ (restarts exits : ℕ) (wanted : Bool) (t : Table) (g : ℕ) (counts : (x : Kept) → slice_get t.groups g ≡ Some x → (x.live ≡ true) × (exits ≡ x.exits + 1)) where
  pub lose_stays : (u : Table) → (wanted && nat_le exits restarts) ≡ true → u ≡ with_groups (changed g exited t.groups) t → u ≡ with_groups (changed g (exit_of restarts wanted) t.groups) t
  lose_stays u stays e = e ∙ ap (λ gs. with_groups gs t) (same_change exited (exit_of restarts wanted) t.groups g
      (λ x at. let l : x.live ≡ true = (counts x at).0 in let n : x.exits + 1 ≡ exits = sym (counts x at).1 in rw (l, n, stays) refl))

  pub lose_ends : (u v : Table) → (wanted && nat_le exits restarts) ≡ false → u ≡ with_groups (changed g exited t.groups) t → v ≡ with_groups (changed g ended u.groups) u → v ≡ with_groups (changed g (exit_of restarts wanted) t.groups) t
  lose_ends u v ends e f = f ∙ (ap (λ (w : Table). with_groups (changed g ended w.groups) w) e ∙ ap (λ gs. with_groups gs t) (twice ended exited t.groups g ∙ same_change (λ x. ended (exited x)) (exit_of restarts wanted) t.groups g
      (λ x at. let l : x.live ≡ true = (counts x at).0 in let n : x.exits + 1 ≡ exits = sym (counts x at).1 in rw (l, n, ends) refl)))

-- what becomes of the tables where it ended, and its group lives no more
pub left_exits : (restarts : ℕ) (t u : Tables) (g : ℕ) (z start : Start) → ((x : Kept) → slice_get t.groups.groups z.life.group ≡ Some x → x.live ≡ false) → u.groups ≡ t.groups → u.lasts.items ≡ slice_set t.lasts.items g start → start.life ≡ moved Ended z.life → start.started ≡ z.started
    → start.ids.requests ≡ [] → start.ids.next ≡ 2 → start.ids.limit ≡ t.requests → IsInOrder start.ids → u.editors ≡ t.editors → u.course ≡ t.course → u.origins.groups ≡ t.origins.groups → u.origins.stopping.items ≡ unstopped z.life.start t.origins.stopping.items → u.origins.created ≡ less z.life.start t.origins.created → u.origins.waiting ≡ t.origins.waiting → u.requests ≡ t.requests → Exits restarts t g z u
left_exits restarts t u g z start dead groups lasts life started gone next limit order editors time origins stopping created waits requests = record {
  groups = lose_dead restarts (any_in needs_server t.editors z.life.group) t.groups u.groups z.life.group dead groups;
  start = start;
  lasts = lasts;
  life = life;
  started = started;
  requests_gone = gone;
  next = next;
  limit = limit;
  order = order;
  editors = editors;
  course = time;
  origins = origins;
  stopping = stopping;
  created = created;
  waiting = waits;
  requests = requests;
}
