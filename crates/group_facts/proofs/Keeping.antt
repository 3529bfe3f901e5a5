-- What holds of each group when it is founded, and isn't changed by its end, its idleness or an exit, holds of all groups.
use Rattle.std.proofs.Common.{◌≡◌, ℕ, ◌+◌, max, zero, suc, Bool, true, false, not, ◌&&◌, List, [], ◌∷◌, ◌++◌, nat_le, if◌then◌else◌, Option, Some, None, refl, sym, subst}
use Rattle.std.specs.List.{AllByRecursion}
use Rattle.mux_history.specs.declared.cause.Cause.{Cause}
use Rattle.mux_history.specs.declared.cause.Cause.TheVariants.{Joined, FromEditor, EditorGone, Started, StartFailed, FromServer, ServerGone, Drained, Tick}
use Rattle.mux_history.specs.declared.out.Out.{Out}
use Rattle.mux_history.specs.declared.out.Out.TheVariants.{CloseEditor}
use Rattle.rpc_message.specs.Message.{message_of}
use Rattle.event_model.specs.Event.{Event, heard, said, with_cause}
use Rattle.event_model.specs.Phases.{desk_of, needs_server}
use Rattle.event_model.specs.Settings.{Settings}
use Rattle.event_model.specs.Spawns.{group_of}
use Rattle.event_model.specs.Stages.{is_initializing, life_of}
use Rattle.document_model.proofs.ScalarTrees.{either_way}
use Rattle.mux_facts.proofs.Lists.{all_join}
use Rattle.group_words.specs.declared.kept.Kept.{Kept}
use Rattle.group_words.specs.declared.placed.Placed.{Placed}
use Rattle.group_words.specs.declared.placed.Placed.TheVariants.{Joins, New as Founds, Evicts, TooMany}
use Rattle.group_words.specs.Houses.{at_group, declared_for, emptied, exit_of, groups_hear, groups_of, has_editor, house_of, idle_if_live, is_first_error, key_for, placed_for, places, stops, time_of}
use Rattle.group_words.specs.Keys.{Common}
use Rattle.group_words.specs.Placing.{busy, changed, end_where, ended, exited, founded, idle_from, is_due, is_live, with_editor}
use Rattle.group_words.proofs.Frames.{groups_more, groups_stay, touches_groups}

-- it is kept
pub record Keeps (P : Kept → Type 0) : Type 0 where
  pub ends : (x : Kept) → P x → P (ended x)
  pub busies : (x : Kept) → P x → P (busy x)
  pub idles : (now : ℕ) (x : Kept) → P x → P (idle_from now x)
  pub exits : (x : Kept) → P x → P (exited x)

module _ (P : Kept → Type 0) (keeps : Keeps P) where
  abbrev All : List Kept → Type 0
  All groups = AllByRecursion P groups

  all_changed : (f : Kept → Kept) → ((x : Kept) → P x → P (f x)) → (i : ℕ) (xs : List Kept) → All xs → All (changed i f xs)
  all_changed f keep i [] h = tt
  all_changed f keep zero (x ∷ xs) h = (keep x h.0, h.1)
  all_changed f keep (suc i) (x ∷ xs) h = (h.0, all_changed f keep i xs h.1)

  all_ended : (test : Kept → Bool) (xs : List Kept) → All xs → All (end_where test xs)
  all_ended test [] h = tt
  all_ended test (x ∷ xs) h = (either_way P (test x) (ended x) x (keeps.ends x h.0) h.0, all_ended test xs h.1)

  idle_live : (now : ℕ) (x : Kept) → P x → P (idle_if_live now x)
  idle_live now x h = either_way P x.live (idle_from now x) x (keeps.idles now x h) h

  all_placed : (placed : Placed) (key : Common) (declared : List ℕ) (groups : List Kept) → P (founded key declared) → All groups → All (with_editor placed key declared groups)
  all_placed (Joins g) key declared groups k h = all_changed busy keeps.busies g groups h
  all_placed (Founds n) key declared groups k h = all_join P groups (founded key declared ∷ []) h (k, tt)
  all_placed (Evicts a n) key declared groups k h = all_join P (changed a ended groups) (founded key declared ∷ []) (all_changed ended keeps.ends a groups h) (k, tt)
  all_placed TooMany key declared groups k h = h

  all_at : (home : Option ℕ) (groups : List Kept) → All groups → All (at_group home (λ g. ended) groups)
  all_at None groups h = h
  all_at (Some g) groups h = all_changed ended keeps.ends g groups h

  live_lost : (restarts : ℕ) (wanted : Bool) (x : Kept) → P x → P (exit_of restarts wanted x)
  live_lost restarts wanted x h = either_way P x.live (if wanted && nat_le (x.exits + 1) restarts then exited x else ended (exited x)) x
      (either_way P (wanted && nat_le (x.exits + 1) restarts) (exited x) (ended (exited x)) (keeps.exits x h) (keeps.ends (exited x) (keeps.exits x h))) h

  all_lost : (restarts : ℕ) (wanted : ℕ → Bool) (home : Option ℕ) (groups : List Kept) → All groups → All (at_group home (λ g. exit_of restarts (wanted g)) groups)
  all_lost restarts wanted None groups h = h
  all_lost restarts wanted (Some g) groups h = all_changed (exit_of restarts (wanted g)) (live_lost restarts (wanted g)) g groups h

  all_emptied : (home : Option ℕ) (was : Bool) (stays : ℕ → Bool) (now : ℕ) (groups : List Kept) → All groups → All (emptied home was stays now groups)
  all_emptied None was stays now groups h = h
  all_emptied (Some g) was stays now groups h = either_way All (was && not (stays g)) (changed g (idle_if_live now) groups) groups (all_changed (idle_if_live now) (idle_live now) g groups h) h

  module _ (settings : Settings) where
    -- what it must hold of, where an editor founds a group
    abbrev pub Founded : List Event → Type 0
    Founded events = (e : ℕ) (body : List ℕ) → P (founded (key_for settings events e body) (declared_for settings events e body))

    from_editor : (events : List Event) (e : ℕ) (body : List ℕ) → P (founded (key_for settings events e body) (declared_for settings events e body))
        → All (groups_of settings events) → All (groups_hear settings events e body (message_of body) (groups_of settings events))
    from_editor events e body k h = go (places (desk_of e events).phase (message_of body)) (stops events e (message_of body))
      where
        go : (b c : Bool) → All (if b then with_editor (placed_for settings events e body (groups_of settings events)) (key_for settings events e body) (declared_for settings events e body) (groups_of settings events)
            else if c then end_where is_live (groups_of settings events) else groups_of settings events)
        go true c = all_placed (placed_for settings events e body (groups_of settings events)) (key_for settings events e body) (declared_for settings events e body) (groups_of settings events) k h
        go false true = all_ended is_live (groups_of settings events) h
        go false false = h

    -- an event that the groups don't speak of
    stay : (events : List Event) (event : Event) → touches_groups event ≡ false → All (groups_of settings events) → All (groups_of settings (events ++ event ∷ []))
    stay events event quiet h = subst All (sym (groups_stay settings events event quiet)) h

    pub all_took : (events : List Event) (cause : Cause) → Founded events → All (groups_of settings events) → All (groups_of settings (with_cause events cause))
    all_took events (FromEditor e body) f h = subst All (sym (groups_more settings events (heard (FromEditor e body)))) (from_editor events e body (f e body) h)
    all_took events (FromServer s body) f h = subst All (sym (groups_more settings events (heard (FromServer s body))))
        (either_way All (is_first_error (message_of body) && is_initializing (life_of s events).stage) (at_group (group_of s events) (λ g. ended) (groups_of settings events)) (groups_of settings events) (all_at (group_of s events) (groups_of settings events) h) h)
    all_took events (Joined e) f h = stay events (heard (Joined e)) refl h
    all_took events (Started s) f h = stay events (heard (Started s)) refl h
    all_took events (Drained e k) f h = stay events (heard (Drained e k)) refl h
    all_took events (Tick t) f h = subst All (sym (groups_more settings events (heard (Tick t)))) (all_ended (is_due settings.limits.idle (max (time_of events) t)) (groups_of settings events) h)
    all_took events (EditorGone e why) f h = subst All (sym (groups_more settings events (heard (EditorGone e why)))) (all_emptied ((house_of settings events).home e) _ _ _ (groups_of settings events) h)
    all_took events (StartFailed s) f h = subst All (sym (groups_more settings events (heard (StartFailed s)))) (all_lost settings.limits.restarts (λ g. has_editor needs_server g (house_of settings events).home events) (group_of s events) (groups_of settings events) h)
    all_took events (ServerGone s) f h = subst All (sym (groups_more settings events (heard (ServerGone s)))) (all_lost settings.limits.restarts (λ g. has_editor needs_server g (house_of settings events).home events) (group_of s events) (groups_of settings events) h)

    pub all_did : (events : List Event) (out : Out) → All (groups_of settings events) → All (groups_of settings (events ++ said out ∷ []))
    all_did events (CloseEditor e) h = subst All (sym (groups_more settings events (said (CloseEditor e)))) (all_emptied ((house_of settings events).home e) _ _ _ (groups_of settings events) h)
    all_did events out h = stay events (said out) refl h
