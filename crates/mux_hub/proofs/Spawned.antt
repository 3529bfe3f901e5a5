-- The servers of the starts, one event further.
use Rattle.std.proofs.Common.{◌≡◌, ℕ, zero, suc, List, [], ◌∷◌, ◌++◌, fold, length, map, take, refl, ap, ap₂, sym, ◌∙◌, append_assoc, append-nil, if◌then◌else◌, Bool, true, false, not, ◌&&◌}
use Rattle.std.specs.Prelude.{Option, Some, None, slice_get}
use Rattle.std.proofs.lemmas.List.{length-append}
use Rattle.mux_history.specs.declared.cause.Cause.{Cause}
use Rattle.mux_history.specs.declared.cause.Cause.TheVariants.{Joined}
use Rattle.mux_history.specs.declared.out.Out.{Out}
use Rattle.mux_history.specs.declared.out.Out.TheVariants.{ToEditor, ToServer, Spawn, CloseEditor, EndServer}
use Rattle.event_model.specs.Event.{Event, behind, did, heard, said, with_cause}
use Rattle.event_model.specs.Settings.{Settings}
use Rattle.event_model.specs.Spawns.{starts_of, starts_behind}
use Rattle.group_words.specs.declared.kept.Kept.{Kept}
use Rattle.event_model.specs.Phases.{desk_of, is_begun}
use Rattle.group_words.specs.Houses.{emptied, groups_of, has_editor, house_of, idle_if_live, time_of}
use Rattle.group_words.specs.Past.{past}
use Rattle.group_words.specs.Placing.{changed, idle_from}
use Rattle.group_words.proofs.Frames.{groups_more, groups_stay, past_more}
use Rattle.mux_hub.specs.Starts.{SameServers, server_in, servers_next, servers_of}

pub servers_more : (settings : Settings) (events : List Event) (event : Event) → servers_of settings (events ++ event ∷ []) ≡ servers_next settings events (servers_of settings events) event
servers_more settings events event = past_more (servers_next settings) [] [] events event

heard_spawns_none : (settings : Settings) (events : List Event) (servers : List ℕ) (cause : Cause) → servers_next settings events servers (heard cause) ≡ servers
heard_spawns_none settings events servers (Joined e) = refl
heard_spawns_none settings events servers cause = refl

pub cause_spawns_none : (settings : Settings) (events : List Event) (cause : Cause) → servers_of settings events ≡ servers_of settings (with_cause events cause)
cause_spawns_none settings events cause = sym (servers_more settings events (heard cause) ∙ heard_spawns_none settings events (servers_of settings events) cause)

-- there is one for each start
counted_from : (settings : Settings) (before events : List Event) (servers : List ℕ) → length (past (servers_next settings) before servers events) ≡ fold starts_behind (length servers) events
counted_from settings before [] servers = refl
counted_from settings before (event ∷ events) servers = counted_from settings (before ++ event ∷ []) events (servers_next settings before servers event) ∙ ap (λ n. fold starts_behind n events) (by event)
  where
    by : (event : Event) → length (servers_next settings before servers event) ≡ starts_behind (length servers) event
    by (did (Spawn s g) m) = length-append servers _
    by other = refl

pub servers_count : (settings : Settings) (events : List Event) → length (servers_of settings events) ≡ starts_of events
servers_count settings events = counted_from settings [] events []

-- outs change no group's server
changed_keeps : (default i j : ℕ) (f : Kept → Kept) (xs : List Kept) → ((x : Kept) → (f x).key.server ≡ x.key.server) → server_in default (slice_get (changed i f xs) j) ≡ server_in default (slice_get xs j)
changed_keeps default i j f [] k = refl
changed_keeps default zero zero f (x ∷ xs) k = k x
changed_keeps default zero (suc j) f (x ∷ xs) k = refl
changed_keeps default (suc i) zero f (x ∷ xs) k = refl
changed_keeps default (suc i) (suc j) f (x ∷ xs) k = changed_keeps default i j f xs k

idle_keeps : (now : ℕ) (x : Kept) → (idle_if_live now x).key.server ≡ x.key.server
idle_keeps now x = by x.live
  where
    by : (b : Bool) → (if b then idle_from now x else x).key.server ≡ x.key.server
    by true = refl
    by false = refl

emptied_keeps : (default : ℕ) (home : Option ℕ) (was : Bool) (stays : ℕ → Bool) (now : ℕ) (xs : List Kept) (g : ℕ) → server_in default (slice_get (emptied home was stays now xs) g) ≡ server_in default (slice_get xs g)
emptied_keeps default None was stays now xs g = refl
emptied_keeps default (Some h) was stays now xs g = by (was && not (stays h))
  where
    by : (b : Bool) → server_in default (slice_get (if b then changed h (idle_if_live now) xs else xs) g) ≡ server_in default (slice_get xs g)
    by true = changed_keeps default h g (idle_if_live now) xs (idle_keeps now)
    by false = refl

out_keeps : (settings : Settings) (events : List Event) (out : Out) → SameServers settings events (events ++ said out ∷ [])
out_keeps settings events (CloseEditor e) = λ g. ap (λ xs. server_in settings.default (slice_get xs g)) (groups_more settings events (said (CloseEditor e)))
    ∙ emptied_keeps settings.default ((house_of settings events).home e) (is_begun (desk_of e events).phase) (λ x. has_editor is_begun x (house_of settings events).home (events ++ said (CloseEditor e) ∷ [])) (time_of events) (groups_of settings events) g
out_keeps settings events (ToEditor e body) = λ g. ap (λ xs. server_in settings.default (slice_get xs g)) (groups_stay settings events (said (ToEditor e body)) refl)
out_keeps settings events (ToServer s body) = λ g. ap (λ xs. server_in settings.default (slice_get xs g)) (groups_stay settings events (said (ToServer s body)) refl)
out_keeps settings events (Spawn s h) = λ g. ap (λ xs. server_in settings.default (slice_get xs g)) (groups_stay settings events (said (Spawn s h)) refl)
out_keeps settings events (EndServer s) = λ g. ap (λ xs. server_in settings.default (slice_get xs g)) (groups_stay settings events (said (EndServer s)) refl)

pub outs_keep : (settings : Settings) (base : List Event) (outs : List Out) → SameServers settings base (behind base outs)
outs_keep settings base [] = λ g. ap (λ evs. server_in settings.default (slice_get (groups_of settings evs) g)) (append-nil base)
outs_keep settings base (out ∷ outs) = λ g.
    ap (λ evs. server_in settings.default (slice_get (groups_of settings evs) g)) (sym (append_assoc base (said out ∷ []) (map said outs)))
    ∙ (outs_keep settings (base ++ said out ∷ []) outs g ∙ out_keeps settings base out g)

-- one out
pub spawn_noted : (settings : Settings) (base now : List Event) (s g : ℕ) (servers : List ℕ) (server : ℕ) → SameServers settings base now → servers ≡ servers_of settings base → server ≡ server_in settings.default (slice_get (groups_of settings now) g)
    → servers ++ server ∷ [] ≡ servers_of settings (base ++ said (Spawn s g) ∷ [])
spawn_noted settings base now s g servers server same is given = ap₂ (λ xs n. xs ++ n ∷ []) is (given ∙ same g) ∙ sym (servers_more settings base (said (Spawn s g)))

pub other_noted : (settings : Settings) (base : List Event) (out : Out) (servers : List ℕ) → ((s g : ℕ) → out ≡ Spawn s g → ⊥) → servers ≡ servers_of settings base → servers ≡ servers_of settings (base ++ said out ∷ [])
other_noted settings base (Spawn s g) servers apart is = absurd (apart s g refl)
other_noted settings base (ToEditor e body) servers apart is = is ∙ sym (servers_more settings base (said (ToEditor e body)))
other_noted settings base (ToServer s body) servers apart is = is ∙ sym (servers_more settings base (said (ToServer s body)))
other_noted settings base (CloseEditor e) servers apart is = is ∙ sym (servers_more settings base (said (CloseEditor e)))
other_noted settings base (EndServer s) servers apart is = is ∙ sym (servers_more settings base (said (EndServer s)))

-- those that come behind the first ones of an entry's outs
pub rest_keeps : (settings : Settings) (base : List Event) (outs : List Out) (i : ℕ) → SameServers settings (behind base (take i outs)) (behind base outs)
rest_keeps settings base outs zero = λ g. outs_keep settings base outs g ∙ ap (λ evs. server_in settings.default (slice_get (groups_of settings evs) g)) (sym (append-nil base))
rest_keeps settings base [] (suc i) = λ g. refl
rest_keeps settings base (out ∷ outs) (suc i) = λ g.
    ap (λ evs. server_in settings.default (slice_get (groups_of settings evs) g)) (sym (append_assoc base (said out ∷ []) (map said outs)))
    ∙ (rest_keeps settings (base ++ said out ∷ []) outs i g ∙ ap (λ evs. server_in settings.default (slice_get (groups_of settings evs) g)) (append_assoc base (said out ∷ []) (map said (take i outs))))
