-- What groups carry, one event further, and one entry.
use Rattle.std.proofs.Common.{◌≡◌, ℕ, zero, suc, ◌<◌, ◌≤◌, Bool, true, false, not, ◌&&◌, List, [], ◌∷◌, ◌++◌, ◌⊎◌, inl, inr, append-nil, filter, length, max, nat_eq, refl, ap, sym, subst, ◌∙◌, arith, if◌then◌else◌}
use Rattle.std.specs.Prelude.{Option, Some, None, option_map}
use Rattle.std.proofs.lemmas.Bool.Decides.{nat_tests}
use Rattle.mux_history.specs.declared.cause.Cause.{Cause}
use Rattle.mux_history.specs.declared.cause.Cause.TheVariants.{Joined, FromEditor, EditorGone, Started, StartFailed, FromServer, ServerGone, Drained, Tick}
use Rattle.mux_history.specs.declared.out.Out.{Out}
use Rattle.mux_history.specs.declared.out.Out.TheVariants.{ToEditor, ToServer, Spawn, CloseEditor, EndServer}
use Rattle.rpc_message.specs.Message.{message_of}
use Rattle.event_model.specs.Event.{Event, behind, heard, said, with_cause}
use Rattle.event_model.specs.Phases.{desk_of}
use Rattle.event_model.specs.Settings.{Settings}
use Rattle.event_model.specs.Spawns.{group_of}
use Rattle.event_model.specs.Stages.{is_initializing, life_of}
use Rattle.event_model.proofs.Turns.{behind_more}
use Rattle.group_words.specs.declared.kept.Kept.{Kept}
use Rattle.group_words.specs.Houses.{at_group, declared_for, groups_hear, groups_of, house_of, is_first_error, key_for, placed_for, places, stops, time_of}
use Rattle.group_words.specs.Placing.{end_where, ended, is_due, is_live, with_editor}
use Rattle.group_words.proofs.Frames.{groups_more, groups_stay, past_more, touches_groups}
use Rattle.group_facts.specs.Lively.{lives_at}
use Rattle.group_facts.specs.group_rows.specs.Earlier.{configuration_next, configuration_of, given_next, given_of}
use Rattle.group_facts.proofs.Exits.{lose_lived}
use Rattle.group_facts.proofs.Housed.{longer_did, longer_took}
use Rattle.group_facts.proofs.LiveGroups.{lives_changed, lives_emptied, lives_ended, lives_placed, placed_fair}
use Rattle.mux_turns.specs.declared.carried.Carried.{Carried}
use Rattle.mux_turns.specs.Carried.{CarriedStand, CarriesView, carried, shown_text, stays, with_carried}

-- A list that has another body of a group

module _ (gs : List Kept) (h : ℕ) (body : List ℕ) where
  abbrev left : List Carried → List Carried
  left cs = filter (stays gs h) cs ++ record { group = h; body = body } ∷ []

  module _ (g : ℕ) where
    -- of one that is none of its own
    skipped : (c : Carried) (cs : List Carried) → nat_eq c.group g ≡ false → carried g (left (c ∷ cs)) ≡ carried g (left cs)
    skipped c cs off = go (stays gs h c)
      where
        go : (b : Bool) → carried g ((if b then c ∷ filter (stays gs h) cs else filter (stays gs h) cs) ++ record { group = h; body = body } ∷ []) ≡ carried g (left cs)
        go true = ap (λ b. if b then Some c.body else carried g (left cs)) off
        go false = refl

    -- its own
    put_own : nat_eq h g ≡ true → (cs : List Carried) → carried g (left cs) ≡ Some body
    put_own same [] = ap (λ b. if b then Some body else None) same
    put_own same (c ∷ cs) = go (nat_eq c.group g) refl (put_own same cs)
      where
        go : (b : Bool) → nat_eq c.group g ≡ b → carried g (left cs) ≡ Some body → carried g (left (c ∷ cs)) ≡ Some body
        go false off rest = skipped c cs off ∙ rest
        go true own rest =
            let here : nat_eq c.group h ≡ true = grind (arith, nat_tests) in
            ap (λ b. carried g ((if not b && lives_at c.group gs then c ∷ filter (stays gs h) cs else filter (stays gs h) cs) ++ record { group = h; body = body } ∷ [])) here ∙ rest

    -- another one, of a group that lives
    put_other : nat_eq h g ≡ false → lives_at g gs ≡ true → (cs : List Carried) → carried g (left cs) ≡ carried g cs
    put_other off live [] = ap (λ b. if b then Some body else None) off
    put_other off live (c ∷ cs) = go (nat_eq c.group g) refl (put_other off live cs)
      where
        go : (b : Bool) → nat_eq c.group g ≡ b → carried g (left cs) ≡ carried g cs → carried g (left (c ∷ cs)) ≡ carried g (c ∷ cs)
        go false away rest = skipped c cs away ∙ (rest ∙ sym (ap (λ b. if b then Some c.body else carried g cs) away))
        go true own rest =
            let is : c.group ≡ g = grind (arith, nat_tests) in
            let there : nat_eq c.group h ≡ false = grind (arith, nat_tests) in
            let kept : stays gs h c ≡ true = ap (λ b. not b && lives_at c.group gs) there ∙ (ap (λ n. lives_at n gs) is ∙ live) in
            ap (λ b. carried g ((if b then c ∷ filter (stays gs h) cs else filter (stays gs h) cs) ++ record { group = h; body = body } ∷ [])) kept
            ∙ (ap (λ b. if b then Some c.body else carried g (left cs)) own ∙ sym (ap (λ b. if b then Some c.body else carried g cs) own))

    -- where there is none
    put_none : nat_eq h g ≡ false → (cs : List Carried) → carried g cs ≡ None → carried g (left cs) ≡ None
    put_none off [] none = ap (λ b. if b then Some body else None) off
    put_none off (c ∷ cs) none = go (nat_eq c.group g) refl none (put_none off cs)
      where
        go : (b : Bool) → nat_eq c.group g ≡ b → (if b then Some c.body else carried g cs) ≡ None → (carried g cs ≡ None → carried g (left cs) ≡ None) → carried g (left (c ∷ cs)) ≡ None
        go false away k rest = skipped c cs away ∙ rest k
        go true own k rest = absurd (cc)

    put_live : lives_at g gs ≡ true → (cs : List Carried) → carried g (with_carried gs h body cs) ≡ (if nat_eq h g then Some body else carried g cs)
    put_live live cs = go (nat_eq h g) refl
      where
        go : (b : Bool) → nat_eq h g ≡ b → carried g (left cs) ≡ (if b then Some body else carried g cs)
        go true same = put_own same cs
        go false off = put_other off live cs

-- Groups that live did before, or are new

module _ (settings : Settings) where
  abbrev Lived : List Event → List Event → Type 0
  Lived events later = (g : ℕ) → lives_at g (groups_of settings later) ≡ true → (lives_at g (groups_of settings events) ≡ true) ⊎ (length (groups_of settings events) ≤ g)

  lived_by : (events : List Event) (event : Event) (groups : List Kept) → groups_of settings (events ++ event ∷ []) ≡ groups
      → ((g : ℕ) → lives_at g groups ≡ true → (lives_at g (groups_of settings events) ≡ true) ⊎ (length (groups_of settings events) ≤ g)) → Lived events (events ++ event ∷ [])
  lived_by events event groups is h g live = h g (sym (ap (lives_at g) is) ∙ live)

  lived_still : (events : List Event) (event : Event) → touches_groups event ≡ false → Lived events (events ++ event ∷ [])
  lived_still events event quiet = lived_by events event (groups_of settings events) (groups_stay settings events event quiet) (λ g live. inl live)

  lived_hears : (events : List Event) (e : ℕ) (body : List ℕ) (g : ℕ) → lives_at g (groups_hear settings events e body (message_of body) (groups_of settings events)) ≡ true → (lives_at g (groups_of settings events) ≡ true) ⊎ (length (groups_of settings events) ≤ g)
  lived_hears events e body g = go (places (desk_of e events).phase (message_of body)) (stops events e (message_of body))
    where
      groups : List Kept
      groups = groups_of settings events

      next : (lives_at g groups ≡ true) ⊎ (g ≡ length groups) → (lives_at g groups ≡ true) ⊎ (length groups ≤ g)
      next (inl live) = inl live
      next (inr is) = inr (omega (arith, is))

      go : (b c : Bool) → lives_at g (if b then with_editor (placed_for settings events e body groups) (key_for settings events e body) (declared_for settings events e body) groups else if c then end_where is_live groups else groups) ≡ true
          → (lives_at g groups ≡ true) ⊎ (length groups ≤ g)
      go true c live = next (lives_placed (key_for settings events e body) (declared_for settings events e body) groups (placed_for settings events e body groups) (placed_fair settings.limits.groups (key_for settings events e body) (declared_for settings events e body) groups) g live)
      go false true live = inl (lives_ended is_live g groups live)
      go false false live = inl live

  lived_refused : (g : ℕ) (b : Bool) (home : Option ℕ) (groups : List Kept) → lives_at g (if b then at_group home (λ k. ended) groups else groups) ≡ true → lives_at g groups ≡ true
  lived_refused g true None groups live = live
  lived_refused g true (Some i) groups live = lives_changed ended (λ x k. absurd (cc)) i g groups live
  lived_refused g false home groups live = live

  pub lived_took : (events : List Event) (cause : Cause) → Lived events (with_cause events cause)
  lived_took events (FromEditor e body) = lived_by events (heard (FromEditor e body)) _ (groups_more settings events (heard (FromEditor e body))) (lived_hears events e body)
  lived_took events (FromServer s body) = lived_by events (heard (FromServer s body)) _ (groups_more settings events (heard (FromServer s body)))
      (λ g live. inl (lived_refused g (is_first_error (message_of body) && is_initializing (life_of s events).stage) (group_of s events) (groups_of settings events) live))
  lived_took events (EditorGone e why) = lived_by events (heard (EditorGone e why)) _ (groups_more settings events (heard (EditorGone e why))) (λ g live. inl (lives_emptied ((house_of settings events).home e) _ _ _ g (groups_of settings events) live))
  lived_took events (StartFailed s) = lived_by events (heard (StartFailed s)) _ (groups_more settings events (heard (StartFailed s))) (λ g live. inl (lose_lived settings events s g live))
  lived_took events (ServerGone s) = lived_by events (heard (ServerGone s)) _ (groups_more settings events (heard (ServerGone s))) (λ g live. inl (lose_lived settings events s g live))
  lived_took events (Tick t) = lived_by events (heard (Tick t)) _ (groups_more settings events (heard (Tick t))) (λ g live. inl (lives_ended (is_due settings.limits.idle (max (time_of events) t)) g (groups_of settings events) live))
  lived_took events (Joined e) = lived_still events (heard (Joined e)) refl
  lived_took events (Started s) = lived_still events (heard (Started s)) refl
  lived_took events (Drained e k) = lived_still events (heard (Drained e k)) refl

  lived_did : (events : List Event) (out : Out) → Lived events (events ++ said out ∷ [])
  lived_did events (CloseEditor e) = lived_by events (said (CloseEditor e)) _ (groups_more settings events (said (CloseEditor e))) (λ g live. inl (lives_emptied ((house_of settings events).home e) _ _ _ g (groups_of settings events) live))
  lived_did events (ToEditor e body) = lived_still events (said (ToEditor e body)) refl
  lived_did events (ToServer s body) = lived_still events (said (ToServer s body)) refl
  lived_did events (Spawn s g) = lived_still events (said (Spawn s g)) refl
  lived_did events (EndServer s) = lived_still events (said (EndServer s)) refl

  -- What the events say of it

  given_did : (g : ℕ) (events : List Event) (out : Out) → given_of g (events ++ said out ∷ []) ≡ given_of g events
  given_did g events out = past_more (given_next g) [] None events (said out) ∙ go out
    where
      go : (out : Out) → given_next g events (given_of g events) (said out) ≡ given_of g events
      go (ToEditor e body) = refl
      go (ToServer s body) = refl
      go (Spawn s h) = refl
      go (CloseEditor e) = refl
      go (EndServer s) = refl

  configured_did : (g : ℕ) (events : List Event) (out : Out) → configuration_of settings g (events ++ said out ∷ []) ≡ configuration_of settings g events
  configured_did g events out = past_more (configuration_next settings g) [] None events (said out) ∙ go out
    where
      go : (out : Out) → configuration_next settings g events (configuration_of settings g events) (said out) ≡ configuration_of settings g events
      go (ToEditor e body) = refl
      go (ToServer s body) = refl
      go (Spawn s h) = refl
      go (CloseEditor e) = refl
      go (EndServer s) = refl

  pub given_took : (g : ℕ) (events : List Event) (cause : Cause) → given_of g (with_cause events cause) ≡ given_next g events (given_of g events) (heard cause)
  given_took g events cause = past_more (given_next g) [] None events (heard cause)

  pub configured_took : (g : ℕ) (events : List Event) (cause : Cause) → configuration_of settings g (with_cause events cause) ≡ configuration_next settings g events (configuration_of settings g events) (heard cause)
  configured_took g events cause = past_more (configuration_next settings g) [] None events (heard cause)

  -- What is carried stays

  carried_on : (carries : CarriesView) (events later : List Event) → Lived events later → length (groups_of settings events) ≤ length (groups_of settings later) → ((g : ℕ) → given_of g later ≡ given_of g events) → ((g : ℕ) → configuration_of settings g later ≡ configuration_of settings g events)
      → CarriedStand settings carries events → CarriedStand settings carries later
  carried_on carries events later lived longer given conf h = record {
    shown = λ g live. shown g (lived g live);
    configuration = λ g live. configuration g (lived g live);
    bare = λ g past. let b = h.bare g (omega (arith, longer, past)) in record { shown = b.shown; configuration = b.configuration; given = given g ∙ b.given; configured = conf g ∙ b.configured };
  }
    where
      shown : (g : ℕ) → (lives_at g (groups_of settings events) ≡ true) ⊎ (length (groups_of settings events) ≤ g) → carried g carries.shown ≡ option_map shown_text (given_of g later)
      shown g (inl live) = h.shown g live ∙ ap (option_map shown_text) (sym (given g))
      shown g (inr past) = let b = h.bare g past in b.shown ∙ ap (option_map shown_text) (sym (given g ∙ b.given))

      configuration : (g : ℕ) → (lives_at g (groups_of settings events) ≡ true) ⊎ (length (groups_of settings events) ≤ g) → carried g carries.configurations ≡ configuration_of settings g later
      configuration g (inl live) = h.configuration g live ∙ sym (conf g)
      configuration g (inr past) = let b = h.bare g past in b.configuration ∙ sym (conf g ∙ b.configured)

  lived_then : (a b c : List Event) → Lived a b → length (groups_of settings a) ≤ length (groups_of settings b) → Lived b c → Lived a c
  lived_then a b c first longer next g live = go (next g live)
    where
      go : (lives_at g (groups_of settings b) ≡ true) ⊎ (length (groups_of settings b) ≤ g) → (lives_at g (groups_of settings a) ≡ true) ⊎ (length (groups_of settings a) ≤ g)
      go (inl k) = first g k
      go (inr past) = inr (omega (arith, longer, past))

  lived_behind : (events : List Event) (xs : List Out) → Lived events (behind events xs)
  lived_behind events [] = subst (Lived events) (sym (append-nil events)) (λ g live. inl live)
  lived_behind events (x ∷ xs) = subst (Lived events) (sym (behind_more events (x ∷ []) xs)) (lived_then events (events ++ said x ∷ []) (behind (events ++ said x ∷ []) xs) (lived_did events x) (longer_did settings events x) (lived_behind (events ++ said x ∷ []) xs))

  longer_behind : (events : List Event) (xs : List Out) → length (groups_of settings events) ≤ length (groups_of settings (behind events xs))
  longer_behind events [] = subst (λ es. length (groups_of settings events) ≤ length (groups_of settings es)) (sym (append-nil events)) (omega arith)
  longer_behind events (x ∷ xs) =
      let one = longer_did settings events x in
      let rest = longer_behind (events ++ said x ∷ []) xs in
      subst (λ es. length (groups_of settings events) ≤ length (groups_of settings es)) (sym (behind_more events (x ∷ []) xs)) (omega (arith, one, rest))

  given_behind : (g : ℕ) (events : List Event) (xs : List Out) → given_of g (behind events xs) ≡ given_of g events
  given_behind g events [] = ap (given_of g) (append-nil events)
  given_behind g events (x ∷ xs) = ap (given_of g) (behind_more events (x ∷ []) xs) ∙ (given_behind g (events ++ said x ∷ []) xs ∙ given_did g events x)

  configured_behind : (g : ℕ) (events : List Event) (xs : List Out) → configuration_of settings g (behind events xs) ≡ configuration_of settings g events
  configured_behind g events [] = ap (configuration_of settings g) (append-nil events)
  configured_behind g events (x ∷ xs) = ap (configuration_of settings g) (behind_more events (x ∷ []) xs) ∙ (configured_behind g (events ++ said x ∷ []) xs ∙ configured_did g events x)

  pub carried_behind : (carries : CarriesView) (events : List Event) (xs : List Out) → CarriedStand settings carries events → CarriedStand settings carries (behind events xs)
  carried_behind carries events xs h = carried_on carries events (behind events xs) (lived_behind events xs) (longer_behind events xs) (λ g. given_behind g events xs) (λ g. configured_behind g events xs) h

  -- by a cause that gives none
  pub carried_took : (carries : CarriesView) (events : List Event) (cause : Cause) → ((g : ℕ) → given_next g events (given_of g events) (heard cause) ≡ given_of g events)
      → ((g : ℕ) → configuration_next settings g events (configuration_of settings g events) (heard cause) ≡ configuration_of settings g events) → CarriedStand settings carries events → CarriedStand settings carries (with_cause events cause)
  carried_took carries events cause given conf h = carried_on carries events (with_cause events cause) (lived_took events cause) (longer_took settings events cause) (λ g. given_took g events cause ∙ given g) (λ g. configured_took g events cause ∙ conf g) h

  -- An entry that changes it

  live_inside : (xs : List Kept) (h : ℕ) → lives_at h xs ≡ true → h < length xs
  live_inside [] h live = absurd (cc)
  live_inside (x ∷ xs) zero live = omega arith
  live_inside (x ∷ xs) (suc h) live = let k = live_inside xs h live in omega (arith, k)

  apart : (h g n : ℕ) → h < n → n ≤ g → nat_eq h g ≡ false
  apart h g n below past = go (nat_eq h g) refl
    where
      go : (b : Bool) → nat_eq h g ≡ b → b ≡ false
      go false off = refl
      go true same = let is : h ≡ g = grind (arith, nat_tests) in absurd (omega (arith, below, past, is))

  module _ (carries : CarriesView) (before : List Event) (cause : Cause) (xs : List Out) (h : ℕ) (gs : List Kept) (live : lives_at h (groups_of settings before) ≡ true) (stand : CarriedStand settings carries before) where
    abbrev base : List Event
    base = with_cause before cause

    abbrev later : List Event
    later = behind base xs

    lived : Lived before later
    lived = lived_then before base later (lived_took before cause) (longer_took settings before cause) (lived_behind base xs)

    grows : length (groups_of settings before) ≤ length (groups_of settings later)
    grows = let one = longer_took settings before cause in let rest = longer_behind base xs in omega (arith, one, rest)

    away : (g : ℕ) → length (groups_of settings before) ≤ g → nat_eq h g ≡ false
    away g past = apart h g (length (groups_of settings before)) (live_inside (groups_of settings before) h live) past

    given_later : (g : ℕ) → given_of g later ≡ given_next g before (given_of g before) (heard cause)
    given_later g = given_behind g base xs ∙ given_took g before cause

    configured_later : (g : ℕ) → configuration_of settings g later ≡ configuration_next settings g before (configuration_of settings g before) (heard cause)
    configured_later g = configured_behind g base xs ∙ configured_took g before cause

    shown_was : (g : ℕ) → lives_at g (groups_of settings later) ≡ true → carried g carries.shown ≡ option_map shown_text (given_of g before)
    shown_was g on = go (lived g on)
      where
        go : (lives_at g (groups_of settings before) ≡ true) ⊎ (length (groups_of settings before) ≤ g) → carried g carries.shown ≡ option_map shown_text (given_of g before)
        go (inl old) = stand.shown g old
        go (inr past) = let b = stand.bare g past in b.shown ∙ ap (option_map shown_text) (sym b.given)

    configured_was : (g : ℕ) → lives_at g (groups_of settings later) ≡ true → carried g carries.configurations ≡ configuration_of settings g before
    configured_was g on = go (lived g on)
      where
        go : (lives_at g (groups_of settings before) ≡ true) ⊎ (length (groups_of settings before) ≤ g) → carried g carries.configurations ≡ configuration_of settings g before
        go (inl old) = stand.configuration g old
        go (inr past) = let b = stand.bare g past in b.configuration ∙ sym b.configured

    -- S2: it gives a result; what is kept is of the groups that live then
    pub gave : (told body : List ℕ) → groups_of settings later ≡ gs → told ≡ shown_text body → ((g : ℕ) → given_next g before (given_of g before) (heard cause) ≡ (if nat_eq h g then Some body else given_of g before))
        → ((g : ℕ) → configuration_next settings g before (configuration_of settings g before) (heard cause) ≡ configuration_of settings g before)
        → CarriedStand settings (record { shown = with_carried gs h told carries.shown; configurations = carries.configurations }) later
    gave told body groups is given conf = record {
      shown = λ g on. put_live gs h told g (sym (ap (lives_at g) groups) ∙ on) carries.shown ∙ (by_test g (nat_eq h g) (shown_was g on) ∙ ap (option_map shown_text) (sym (given_later g ∙ given g)));
      configuration = λ g on. configured_was g on ∙ sym (configured_later g ∙ conf g);
      bare = λ g past. let old : length (groups_of settings before) ≤ g = omega (arith, grows, past) in let b = stand.bare g old in record {
        shown = put_none gs h told g (away g old) carries.shown b.shown;
        configuration = b.configuration;
        given = given_later g ∙ (given g ∙ (ap (λ c. if c then Some body else given_of g before) (away g old) ∙ b.given));
        configured = configured_later g ∙ (conf g ∙ b.configured);
      };
    }
      where
        by_test : (g : ℕ) (b : Bool) → carried g carries.shown ≡ option_map shown_text (given_of g before) → (if b then Some told else carried g carries.shown) ≡ option_map shown_text (if b then Some body else given_of g before)
        by_test g true was = ap Some is
        by_test g false was = was

    -- E16: an editor gives a configuration; what is kept is of the groups that lived before
    pub keeps : (body : List ℕ) → groups_of settings before ≡ gs → ((g : ℕ) → given_next g before (given_of g before) (heard cause) ≡ given_of g before)
        → ((g : ℕ) → configuration_next settings g before (configuration_of settings g before) (heard cause) ≡ (if nat_eq h g then Some body else configuration_of settings g before))
        → CarriedStand settings (record { shown = carries.shown; configurations = with_carried gs h body carries.configurations }) later
    keeps body groups given conf = record {
      shown = λ g on. shown_was g on ∙ ap (option_map shown_text) (sym (given_later g ∙ given g));
      configuration = λ g on. by_lived g (lived g on) ∙ sym (configured_later g ∙ conf g);
      bare = λ g past. let old : length (groups_of settings before) ≤ g = omega (arith, grows, past) in let b = stand.bare g old in record {
        shown = b.shown;
        configuration = put_none gs h body g (away g old) carries.configurations b.configuration;
        given = given_later g ∙ (given g ∙ b.given);
        configured = configured_later g ∙ (conf g ∙ (ap (λ c. if c then Some body else configuration_of settings g before) (away g old) ∙ b.configured));
      };
    }
      where
        by_test : (g : ℕ) (b : Bool) → carried g carries.configurations ≡ configuration_of settings g before → (if b then Some body else carried g carries.configurations) ≡ (if b then Some body else configuration_of settings g before)
        by_test g true was = refl
        by_test g false was = was

        by_lived : (g : ℕ) → (lives_at g (groups_of settings before) ≡ true) ⊎ (length (groups_of settings before) ≤ g) → carried g (with_carried gs h body carries.configurations) ≡ (if nat_eq h g then Some body else configuration_of settings g before)
        by_lived g (inl old) = put_live gs h body g (sym (ap (lives_at g) groups) ∙ old) carries.configurations ∙ by_test g (nat_eq h g) (stand.configuration g old)
        by_lived g (inr past) = let b = stand.bare g past in
            put_none gs h body g (away g past) carries.configurations b.configuration ∙ sym (ap (λ c. if c then Some body else configuration_of settings g before) (away g past) ∙ b.configured)
