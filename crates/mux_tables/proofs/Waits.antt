-- The editors of a group that wait, and the ids of their `initialize`, as the code has them.
use Rattle.std.proofs.Common.{◌≡◌, ℕ, Bool, ◌<◌, List, length, ap, sym, subst, ◌∙◌, arith}
use Rattle.std.specs.Prelude.{Some, slice_get, slice_set}
use Rattle.std.specs.List.{All, range_with_len}
use Rattle.std.proofs.lemmas.List.Elements.{All-filter, All-from_get_or}
use Rattle.std.proofs.lemmas.List.FromFn.{get_or-range_with_len, length-range_with_len}
use Rattle.std.proofs.lemmas.Option.{slice_get-get_or}
use Rattle.event_model.specs.Event.{Event}
use Rattle.event_model.specs.Phases.{is_there, is_waiting}
use Rattle.event_model.specs.Settings.{Settings}
use Rattle.event_model.proofs.Places.{Same, same, other, compare, get_set_same, get_set_other}
use Rattle.editor_session.specs.declared.session.Session.{Session}
use Rattle.editor_session.specs.Sessions.{absent, is_of, numbers_of, runs_in, session_of, waits_in, with_session}
use Rattle.group_words.specs.Houses.{editors_in, home_of}
use Rattle.mux_tables.specs.declared.tables.Tables.{Tables}
use Rattle.mux_tables.specs.Names.{id_in}
use Rattle.mux_tables.specs.Stands.{Stands, meant_in}
use Rattle.group_laws.specs.group_rows.specs.StopRows.{there_in}
use Rattle.mux_tables.proofs.Lists.{editors_for, there_by, waits_so}

pub waiting_so : (settings : Settings) (t : Tables) (events : List Event) (g : ℕ) (ns : List ℕ) → Stands settings t events → ns ≡ numbers_of (λ s. waits_in g s) t.editors → ns ≡ editors_in is_waiting g (λ e. home_of settings e events) events
waiting_so settings t events g ns s is = is ∙ (sym (waits_so t.editors g) ∙ sym (editors_for is_waiting (λ e. home_of settings e events) t.editors events g s.house.editors.count s.house.editors.phase s.house.editors.home))

numbers_inside : (test : Session → Bool) (xs : List Session) (ns : List ℕ) → ns ≡ numbers_of test xs → All (λ e. e < length xs) ns
numbers_inside test xs ns is = subst (λ ms. All (λ e. e < length xs) ms) (sym is) (All-filter (λ e. test (session_of xs e)) (λ e. e < length xs) (range_with_len 0 (length xs))
    (All-from_get_or (λ e. e < length xs) (range_with_len 0 (length xs)) 0 (λ i l.
    let k : i < length xs = subst (λ n. i < n) (length-range_with_len 0 (length xs)) l in
    subst (λ m. m < length xs) (sym (get_or-range_with_len 0 (length xs) i 0 k)) (omega (arith, k)))))

pub waiting_inside : (xs : List Session) (g : ℕ) (ns : List ℕ) → ns ≡ numbers_of (λ s. waits_in g s) xs → All (λ e. e < length xs) ns
waiting_inside xs g ns is = numbers_inside (λ s. waits_in g s) xs ns is

pub running_inside : (xs : List Session) (g : ℕ) (ns : List ℕ) → ns ≡ numbers_of (λ s. runs_in g s) xs → All (λ e. e < length xs) ns
running_inside xs g ns is = numbers_inside (λ s. runs_in g s) xs ns is

pub members_inside : (xs : List Session) (g : ℕ) (ns : List ℕ) → ns ≡ numbers_of (λ s. is_of g s) xs → All (λ e. e < length xs) ns
members_inside xs g ns is = numbers_inside (λ s. is_of g s) xs ns is

-- a session that is set and keeps its id leaves the ids
pub ids_kept : (xs : List Session) (e : ℕ) (y : Session) → e < length xs → y.id ≡ (session_of xs e).id → (n : ℕ) → id_in (slice_get (with_session xs e y) n) ≡ id_in (slice_get xs n)
ids_kept xs e y l same_id n = go n (compare e n)
  where
    go : (n : ℕ) → Same e n → id_in (slice_get (slice_set xs e y) n) ≡ id_in (slice_get xs n)
    go _ same = ap id_in (get_set_same xs e y l) ∙ (same_id ∙ ap id_in (sym (slice_get-get_or xs e absent l)))
    go n (other h) = ap id_in (get_set_other xs e n y h)

-- and what is kept of `lspmux/open`
pub meant_kept : (xs : List Session) (e : ℕ) (y : Session) → e < length xs → meant_in (Some y) ≡ meant_in (Some (session_of xs e)) → (n : ℕ) → meant_in (slice_get (with_session xs e y) n) ≡ meant_in (slice_get xs n)
meant_kept xs e y l same_meant n = go n (compare e n)
  where
    go : (n : ℕ) → Same e n → meant_in (slice_get (slice_set xs e y) n) ≡ meant_in (slice_get xs n)
    go _ same = ap meant_in (get_set_same xs e y l) ∙ (same_meant ∙ ap meant_in (sym (slice_get-get_or xs e absent l)))
    go n (other h) = ap meant_in (get_set_other xs e n y h)

-- those that are there
pub there_so : (settings : Settings) (t : Tables) (events : List Event) (ns : List ℕ) → Stands settings t events → ns ≡ numbers_of (λ s. is_there s.phase) t.editors → ns ≡ there_in events
there_so settings t events ns s is = is ∙ sym (there_by t.editors events s.house.editors.count s.house.editors.phase)

pub there_inside : (xs : List Session) (ns : List ℕ) → ns ≡ numbers_of (λ s. is_there s.phase) xs → All (λ e. e < length xs) ns
there_inside xs ns is = numbers_inside (λ s. is_there s.phase) xs ns is
