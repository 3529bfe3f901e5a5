-- Each start that was spawned has a group, which is kept.
use Rattle.std.proofs.Common.{◌≡◌, ℕ, max, ◌+◌, ◌<◌, ◌≤◌, Bool, true, false, not, ◌&&◌, List, [], ◌∷◌, ◌++◌, length, nat_eq, if◌then◌else◌, Option, Some, None, refl, sym, ◌∙◌, ap, subst, arith}
use Rattle.std.proofs.lemmas.List.{length-append}
use Rattle.std.proofs.lemmas.List.Sums.{fold-append}
use Rattle.mux_history.specs.declared.cause.Cause.{Cause}
use Rattle.mux_history.specs.declared.cause.Cause.TheVariants.{Joined, FromEditor, EditorGone, Started, StartFailed, FromServer, ServerGone, Drained, Tick}
use Rattle.mux_history.specs.declared.out.Out.{Out}
use Rattle.mux_history.specs.declared.out.Out.TheVariants.{Spawn, CloseEditor}
use Rattle.rpc_message.specs.Message.{message_of}
use Rattle.event_model.specs.Event.{Event, heard, said, with_cause}
use Rattle.event_model.specs.Phases.{desk_of}
use Rattle.event_model.specs.Settings.{Settings}
use Rattle.event_model.specs.Spawns.{group_behind, group_of, starts_behind, starts_of}
use Rattle.event_model.specs.Stages.{is_initializing, life_of}
use Rattle.event_model.proofs.Frames.{never}
use Rattle.mux_facts.proofs.Folds.{starts_more}
use Rattle.mux_facts.proofs.Words.{same_number}
use Rattle.group_words.specs.declared.kept.Kept.{Kept}
use Rattle.group_words.specs.declared.placed.Placed.{Placed}
use Rattle.group_words.specs.declared.placed.Placed.TheVariants.{Joins, New as Founds, Evicts, TooMany}
use Rattle.group_words.specs.Houses.{at_group, declared_for, emptied, groups_hear, groups_of, house_of, idle_if_live, is_first_error, key_for, placed_for, places, stops, time_of}
use Rattle.group_words.specs.Keys.{Common}
use Rattle.group_words.specs.Placing.{busy, changed, end_where, ended, founded, is_due, is_live, with_editor}
use Rattle.group_words.proofs.Frames.{changed_length, groups_more, groups_stay, touches_groups}
use Rattle.group_facts.specs.Facts.{Housed, IsHoused}
use Rattle.group_facts.proofs.Exits.{lose_length}

-- No group is forgotten

pub ended_length : (test : Kept → Bool) (xs : List Kept) → length (end_where test xs) ≡ length xs
ended_length test [] = refl
ended_length test (x ∷ xs) = omega (arith, ended_length test xs)

with_longer : (placed : Placed) (key : Common) (declared : List ℕ) (groups : List Kept) → length groups ≤ length (with_editor placed key declared groups)
with_longer (Joins g) key declared groups = omega (arith, changed_length g busy groups)
with_longer (Founds n) key declared groups = omega (arith, length-append groups (founded key declared ∷ []))
with_longer (Evicts a n) key declared groups = omega (arith, length-append (changed a ended groups) (founded key declared ∷ []), changed_length a ended groups)
with_longer TooMany key declared groups = omega arith

at_length : (home : Option ℕ) (b : Bool) (groups : List Kept) → length groups ≤ length (if b then at_group home (λ g. ended) groups else groups)
at_length None true groups = omega arith
at_length (Some g) true groups = omega (arith, changed_length g ended groups)
at_length home false groups = omega arith

emptied_length : (home : Option ℕ) (was : Bool) (stays : ℕ → Bool) (now : ℕ) (groups : List Kept) → length groups ≤ length (emptied home was stays now groups)
emptied_length None was stays now groups = omega arith
emptied_length (Some g) was stays now groups = go (was && not (stays g))
  where
    go : (b : Bool) → length groups ≤ length (if b then changed g (idle_if_live now) groups else groups)
    go true = omega (arith, changed_length g (idle_if_live now) groups)
    go false = omega arith

-- one event more
pub group_more : (s : ℕ) (events : List Event) (event : Event) → group_of s (events ++ event ∷ []) ≡ group_behind s (group_of s events) event
group_more s events event = fold-append (group_behind s) None events (event ∷ [])

module _ (settings : Settings) where
  abbrev Longer : List Event → List Event → Type 0
  Longer events later = length (groups_of settings events) ≤ length (groups_of settings later)

  hears_longer : (events : List Event) (e : ℕ) (body : List ℕ) → length (groups_of settings events) ≤ length (groups_hear settings events e body (message_of body) (groups_of settings events))
  hears_longer events e body = go (places (desk_of e events).phase (message_of body)) (stops events e (message_of body))
    where
      go : (b c : Bool) → length (groups_of settings events) ≤ length (if b then with_editor (placed_for settings events e body (groups_of settings events)) (key_for settings events e body) (declared_for settings events e body) (groups_of settings events)
          else if c then end_where is_live (groups_of settings events) else groups_of settings events)
      go true c = with_longer (placed_for settings events e body (groups_of settings events)) (key_for settings events e body) (declared_for settings events e body) (groups_of settings events)
      go false true = omega (arith, ended_length is_live (groups_of settings events))
      go false false = omega arith

  still_long : (events : List Event) (event : Event) → touches_groups event ≡ false → Longer events (events ++ event ∷ [])
  still_long events event quiet = subst (λ z. length (groups_of settings events) ≤ length z) (sym (groups_stay settings events event quiet)) (omega arith)

  pub longer_took : (events : List Event) (cause : Cause) → Longer events (with_cause events cause)
  longer_took events (FromEditor e body) = subst (λ z. length (groups_of settings events) ≤ length z) (sym (groups_more settings events (heard (FromEditor e body)))) (hears_longer events e body)
  longer_took events (FromServer s body) = subst (λ z. length (groups_of settings events) ≤ length z) (sym (groups_more settings events (heard (FromServer s body))))
      (at_length (group_of s events) (is_first_error (message_of body) && is_initializing (life_of s events).stage) (groups_of settings events))
  longer_took events (Joined e) = still_long events (heard (Joined e)) refl
  longer_took events (Started s) = still_long events (heard (Started s)) refl
  longer_took events (Drained e k) = still_long events (heard (Drained e k)) refl
  longer_took events (Tick t) = subst (λ z. length (groups_of settings events) ≤ length z) (sym (groups_more settings events (heard (Tick t)))) (omega (arith, ended_length (is_due settings.limits.idle (max (time_of events) t)) (groups_of settings events)))
  longer_took events (EditorGone e why) = subst (λ z. length (groups_of settings events) ≤ length z) (sym (groups_more settings events (heard (EditorGone e why)))) (emptied_length ((house_of settings events).home e) _ _ _ (groups_of settings events))
  longer_took events (StartFailed s) = subst (λ z. length (groups_of settings events) ≤ length z) (sym (groups_more settings events (heard (StartFailed s)))) (omega (arith, lose_length settings events s))
  longer_took events (ServerGone s) = subst (λ z. length (groups_of settings events) ≤ length z) (sym (groups_more settings events (heard (ServerGone s)))) (omega (arith, lose_length settings events s))

  pub longer_did : (events : List Event) (out : Out) → Longer events (events ++ said out ∷ [])
  longer_did events (CloseEditor e) = subst (λ z. length (groups_of settings events) ≤ length z) (sym (groups_more settings events (said (CloseEditor e)))) (emptied_length ((house_of settings events).home e) _ _ _ (groups_of settings events))
  longer_did events out = still_long events (said out) refl

  -- an event that spawns none
  housed_still : (events : List Event) (event : Event) → Longer events (events ++ event ∷ []) → starts_behind (starts_of events) event ≡ starts_of events → ((s : ℕ) → group_behind s (group_of s events) event ≡ group_of s events) → Housed settings events → Housed settings (events ++ event ∷ [])
  housed_still events event longer count same h s below =
      let old : s < starts_of events = omega (arith, starts_more events event, count) in
      let k : IsHoused settings s events = h s old in
      let kept : k.group < length (groups_of settings events) = k.kept in
      record { group = k.group; is = group_more s events event ∙ same s ∙ k.is; kept = omega (arith, longer) }

  pub housed_took : (events : List Event) (cause : Cause) → Housed settings events → Housed settings (with_cause events cause)
  housed_took events cause h = go cause (longer_took events cause)
    where
      go : (cause : Cause) → Longer events (with_cause events cause) → Housed settings (with_cause events cause)
      go (Joined e) longer = housed_still events (heard (Joined e)) longer refl (λ s. refl) h
      go other longer = housed_still events (heard other) longer refl (λ s. refl) h

  -- a spawn for a group that is kept
  pub housed_spawn : (events : List Event) (g : ℕ) → g < length (groups_of settings events) → Housed settings events → Housed settings (events ++ said (Spawn (starts_of events) g) ∷ [])
  housed_spawn events g inside h s below = go (nat_eq (starts_of events) s) refl
    where
      group : group_of s (events ++ said (Spawn (starts_of events) g) ∷ []) ≡ (if nat_eq (starts_of events) s then Some g else group_of s events)
      group = group_more s events (said (Spawn (starts_of events) g))

      longer : Longer events (events ++ said (Spawn (starts_of events) g) ∷ [])
      longer = longer_did events (Spawn (starts_of events) g)

      less : nat_eq (starts_of events) s ≡ false → s < starts_of events
      less other = let count : starts_of (events ++ said (Spawn (starts_of events) g) ∷ []) ≡ starts_of events + 1 = starts_more events (said (Spawn (starts_of events) g)) in apart (λ same. never (sym (ap (λ z. nat_eq (starts_of events) z) same ∙ same_number (starts_of events)) ∙ other)) (omega (arith, count, below))
        where
          apart : (s ≡ starts_of events → ⊥) → s ≤ starts_of events → s < starts_of events
          apart f le = omega (arith, f, le)

      go : (b : Bool) → nat_eq (starts_of events) s ≡ b → IsHoused settings s (events ++ said (Spawn (starts_of events) g) ∷ [])
      go true same = record { group = g; is = group ∙ ap (λ c. if c then Some g else group_of s events) same; kept = omega (arith, inside, longer) }
      go false other =
          let k : IsHoused settings s events = h s (less other) in
          let kept : k.group < length (groups_of settings events) = k.kept in
          record { group = k.group; is = group ∙ ap (λ c. if c then Some g else group_of s events) other ∙ k.is; kept = omega (arith, kept, longer) }

  pub housed_did : (events : List Event) (out : Out) → starts_behind (starts_of events) (said out) ≡ starts_of events → ((s : ℕ) → group_behind s (group_of s events) (said out) ≡ group_of s events) → Housed settings events → Housed settings (events ++ said out ∷ [])
  housed_did events out count same h = housed_still events (said out) (longer_did events out) count same h
