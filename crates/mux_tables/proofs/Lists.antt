-- The editors of a group, by the history and by the table.
use Rattle.std.proofs.Common.{◌≡◌, ℕ, zero, suc, Bool, ◌&&◌, List, [], ◌∷◌, length, refl, ap, ◌∙◌, if◌then◌else◌}
use Rattle.std.specs.Prelude.{Option, Some, None, slice_get}
use Rattle.std.specs.List.{filter, range_with_len}
use Rattle.event_model.specs.declared.phase.Phase.{Phase}
use Rattle.event_model.specs.Event.{Event}
use Rattle.event_model.specs.Phases.{desk_of, editors_of, is_begun, is_running, is_there, is_waiting, needs_server}
use Rattle.event_model.specs.Settings.{Settings}
use Rattle.editor_session.specs.declared.session.Session.{Session}
use Rattle.editor_session.specs.Sessions.{session_of, numbers_of, is_of, is_in, needs_in, runs_in, waits_in}
use Rattle.group_words.specs.Houses.{home_of, is_home, editors_in}
use Rattle.group_laws.specs.group_rows.specs.StopRows.{there_in}
use Rattle.mux_tables.specs.Stands.{EditorsStand, phase_in, group_in, those_in}

filter_same : (p q : ℕ → Bool) → ((n : ℕ) → p n ≡ q n) → (xs : List ℕ) → filter p xs ≡ filter q xs
filter_same p q h [] = refl
filter_same p q h (x ∷ xs) = ap (λ b. if b then x ∷ filter p xs else filter p xs) (h x) ∙ ap (λ ys. if q x then x ∷ ys else ys) (filter_same p q h xs)

home_same : (g : ℕ) (o : Option ℕ) → is_home g o ≡ is_in g o
home_same g None = refl
home_same g (Some h) = refl

-- past the end too
test_so : (g : ℕ) (xs : List Session) (e : ℕ) → (is_begun (phase_in (slice_get xs e)) && is_home g (group_in (slice_get xs e))) ≡ is_of g (session_of xs e)
test_so g [] e = refl
test_so g (x ∷ xs) zero = ap (λ b. is_begun x.phase && b) (home_same g x.group)
test_so g (x ∷ xs) (suc e) = test_so g xs e

-- where the home that is looked at is that of the table for each editor that is begun
pub editors_by : (home : ℕ → Option ℕ) (xs : List Session) (events : List Event) (g : ℕ) → editors_of events ≡ length xs → ((e : ℕ) → (desk_of e events).phase ≡ phase_in (slice_get xs e))
    → ((e : ℕ) → (is_begun (phase_in (slice_get xs e)) && is_home g (home e)) ≡ (is_begun (phase_in (slice_get xs e)) && is_home g (group_in (slice_get xs e))))
    → editors_in is_begun g home events ≡ numbers_of (λ s. is_of g s) xs
editors_by home xs events g count phase homes =
    filter_same _ _ (λ e. ap (λ p. is_begun p && is_home g (home e)) (phase e) ∙ (homes e ∙ test_so g xs e)) (range_with_len 0 (editors_of events))
    ∙ ap (λ n. filter (λ e. is_of g (session_of xs e)) (range_with_len 0 n)) count

pub editors_so : (settings : Settings) (xs : List Session) (events : List Event) (g : ℕ) → EditorsStand settings xs events → editors_in is_begun g (λ n. home_of settings n events) events ≡ numbers_of (λ s. is_of g s) xs
editors_so settings xs events g s = editors_by (λ n. home_of settings n events) xs events g s.count s.phase (λ e. ap (λ o. is_begun (phase_in (slice_get xs e)) && is_home g o) (s.home e))

-- the same in other phases
pub editors_for : (test : Phase → Bool) (home : ℕ → Option ℕ) (xs : List Session) (events : List Event) (g : ℕ) → editors_of events ≡ length xs → ((e : ℕ) → (desk_of e events).phase ≡ phase_in (slice_get xs e)) → ((e : ℕ) → home e ≡ group_in (slice_get xs e))
    → editors_in test g home events ≡ those_in test xs g
editors_for test home xs events g count phase homes =
    filter_same _ _ (λ e. ap (λ p. test p && is_home g (home e)) (phase e) ∙ ap (λ o. test (phase_in (slice_get xs e)) && is_home g o) (homes e)) (range_with_len 0 (editors_of events))
    ∙ ap (λ n. filter (λ e. test (phase_in (slice_get xs e)) && is_home g (group_in (slice_get xs e))) (range_with_len 0 n)) count

-- those that are there
there_test : (xs : List Session) (e : ℕ) → is_there (phase_in (slice_get xs e)) ≡ is_there (session_of xs e).phase
there_test [] e = refl
there_test (x ∷ xs) zero = refl
there_test (x ∷ xs) (suc e) = there_test xs e

pub there_by : (xs : List Session) (events : List Event) → editors_of events ≡ length xs → ((e : ℕ) → (desk_of e events).phase ≡ phase_in (slice_get xs e)) → there_in events ≡ numbers_of (λ s. is_there s.phase) xs
there_by xs events count phase =
    filter_same _ _ (λ e. ap is_there (phase e) ∙ there_test xs e) (range_with_len 0 (editors_of events))
    ∙ ap (λ n. filter (λ e. is_there (session_of xs e).phase) (range_with_len 0 n)) count

-- those for which a server is started again
needs_so : (g : ℕ) (xs : List Session) (e : ℕ) → (needs_server (phase_in (slice_get xs e)) && is_home g (group_in (slice_get xs e))) ≡ needs_in g (session_of xs e)
needs_so g [] e = refl
needs_so g (x ∷ xs) zero = ap (λ b. needs_server x.phase && b) (home_same g x.group)
needs_so g (x ∷ xs) (suc e) = needs_so g xs e

pub needing_so : (xs : List Session) (g : ℕ) → those_in needs_server xs g ≡ numbers_of (λ s. needs_in g s) xs
needing_so xs g = filter_same _ _ (needs_so g xs) (range_with_len 0 (length xs))

-- those that run
run_test : (g : ℕ) (xs : List Session) (e : ℕ) → (is_running (phase_in (slice_get xs e)) && is_home g (group_in (slice_get xs e))) ≡ runs_in g (session_of xs e)
run_test g [] e = refl
run_test g (x ∷ xs) zero = ap (λ b. is_running x.phase && b) (home_same g x.group)
run_test g (x ∷ xs) (suc e) = run_test g xs e

pub runs_so : (xs : List Session) (g : ℕ) → those_in is_running xs g ≡ numbers_of (λ s. runs_in g s) xs
runs_so xs g = filter_same _ _ (run_test g xs) (range_with_len 0 (length xs))

-- those that wait
wait_test : (g : ℕ) (xs : List Session) (e : ℕ) → (is_waiting (phase_in (slice_get xs e)) && is_home g (group_in (slice_get xs e))) ≡ waits_in g (session_of xs e)
wait_test g [] e = refl
wait_test g (x ∷ xs) zero = ap (λ b. is_waiting x.phase && b) (home_same g x.group)
wait_test g (x ∷ xs) (suc e) = wait_test g xs e

pub waits_so : (xs : List Session) (g : ℕ) → those_in is_waiting xs g ≡ numbers_of (λ s. waits_in g s) xs
waits_so xs g = filter_same _ _ (wait_test g xs) (range_with_len 0 (length xs))
