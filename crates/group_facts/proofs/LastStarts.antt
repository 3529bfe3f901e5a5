-- A start that didn't end is the last one of its group, and an entry changes the last start of a group only where that ends.
use Rattle.std.proofs.Common.{◌≡◌, ℕ, ◌<◌, ◌≤◌, Bool, true, false, not, List, [], ◌∷◌, ◌++◌, map, length, nat_eq, if◌then◌else◌, Option, None, Some, refl, sym, ◌∙◌, ap, subst, arith, append-nil, append_assoc}
use Rattle.std.specs.List.{AllByRecursion}
use Rattle.std.proofs.lemmas.Bool.{and_parts}
use Rattle.mux_history.specs.declared.cause.Cause.{Cause}
use Rattle.mux_history.specs.declared.cause.Cause.TheVariants.{Joined, FromEditor, EditorGone, Started, StartFailed, FromServer, ServerGone, Drained, Tick}
use Rattle.mux_history.specs.declared.out.Out.{Out}
use Rattle.mux_history.specs.declared.out.Out.TheVariants.{ToEditor, ToServer, Spawn, CloseEditor, EndServer}
use Rattle.event_model.specs.declared.stage.Stage.{Stage}
use Rattle.event_model.specs.declared.stage.Stage.TheVariants.{Unspawned, Spawning, Initializing, Ready, Stopping, Ending, Ended}
use Rattle.event_model.specs.Event.{Event, behind, heard, said, with_cause}
use Rattle.event_model.specs.Settings.{Settings}
use Rattle.event_model.specs.Spawns.{group_of, start_of, starts_of}
use Rattle.event_model.specs.Stages.{Life, is_ended, is_initializing, life_of, may_begin}
use Rattle.event_model.proofs.Frames.{never}
use Rattle.mux_model.specs.Fits.{fits_behind}
use Rattle.mux_facts.proofs.Folds.{life_more}
use Rattle.mux_facts.proofs.Keeps.{behind_both}
use Rattle.mux_facts.proofs.Words.{number_same, same_number}
use Rattle.group_words.specs.Houses.{groups_lose, groups_of, house_of}
use Rattle.group_words.proofs.Frames.{groups_more}
use Rattle.group_rows.specs.ExitRows.{begins_again}
use Rattle.group_rows.specs.Rows.{outs_of}
use Rattle.group_facts.specs.Facts.{is_exit}
use Rattle.group_facts.specs.Lively.{lives_at}
use Rattle.group_facts.proofs.Begun.{Begun, Founding, IsTold, NoSpawn, ended_outs, founding_of, founds, quiet, renewed_outs, renews, start_more, start_took, starts_stay, told_quiet}
use Rattle.group_facts.proofs.Ceased.{unended_outs, unended_spawn, unended_took}
use Rattle.group_facts.proofs.ExitEntry.{Exit, exit_by}
use Rattle.group_facts.proofs.Exits.{RenewsGroup, lost_is, lost_over, renews_parts}
use Rattle.group_facts.proofs.Housed.{group_more}

abbrev pub AllLast : List Event → Type 0
AllLast events = (s g : ℕ) → group_of s events ≡ Some g → is_ended (life_of s events).stage ≡ false → start_of g events ≡ Some s

group_took : (s : ℕ) (events : List Event) (cause : Cause) → group_of s (with_cause events cause) ≡ group_of s events
group_took s events (Joined e) = group_more s events (heard (Joined e))
group_took s events cause = group_more s events (heard cause)

group_did : (s : ℕ) (events : List Event) (out : Out) → NoSpawn out → group_of s (events ++ said out ∷ []) ≡ group_of s events
group_did s events (Spawn n g) h = absurd h
group_did s events (ToEditor e body) h = group_more s events (said (ToEditor e body))
group_did s events (ToServer n body) h = group_more s events (said (ToServer n body))
group_did s events (CloseEditor e) h = group_more s events (said (CloseEditor e))
group_did s events (EndServer n) h = group_more s events (said (EndServer n))

pub groups_rest : (s : ℕ) (events : List Event) (xs : List Out) → AllByRecursion NoSpawn xs → group_of s (behind events xs) ≡ group_of s events
groups_rest s events [] h = ap (group_of s) (append-nil events)
groups_rest s events (x ∷ xs) h = ap (group_of s) (sym (append_assoc events (said x ∷ []) (map said xs))) ∙ (groups_rest s (events ++ said x ∷ []) xs h.1 ∙ group_did s events x h.0)

-- A start that ends by a cause that fits hadn't ended

alive_starting : (stage : Stage) → may_begin stage ≡ true → is_ended stage ≡ false
alive_starting Spawning h = refl
alive_starting Ending h = refl
alive_starting Unspawned h = refl
alive_starting Initializing h = refl
alive_starting Ready h = refl
alive_starting Stopping h = refl
alive_starting Ended h = never (sym h)

pub alive_initializing : (stage : Stage) → is_initializing stage ≡ true → is_ended stage ≡ false
alive_initializing Initializing h = refl
alive_initializing Unspawned h = refl
alive_initializing Spawning h = refl
alive_initializing Ready h = refl
alive_initializing Stopping h = refl
alive_initializing Ending h = refl
alive_initializing Ended h = never (sym h)

turned_off : (b : Bool) → not b ≡ true → b ≡ false
turned_off true h = never (sym h)
turned_off false h = refl

-- and it ended behind the cause
exit_over : (before : List Event) (cause : Cause) (s : ℕ) → is_exit cause s ≡ true → is_ended (life_of s (with_cause before cause)).stage ≡ true
exit_over before (StartFailed n) s is = ap (λ (l : Life). is_ended l.stage) (life_more s before (heard (StartFailed n))) ∙ ap (λ b. is_ended (if b then record { stage = Ended; started = (life_of s before).started } else life_of s before).stage) is
exit_over before (ServerGone n) s is = ap (λ (l : Life). is_ended l.stage) (life_more s before (heard (ServerGone n))) ∙ ap (λ b. is_ended (if b then record { stage = Ended; started = (life_of s before).started } else life_of s before).stage) is
exit_over before (Joined n) s is = never (sym is)
exit_over before (FromEditor n body) s is = never (sym is)
exit_over before (EditorGone n why) s is = never (sym is)
exit_over before (Started n) s is = never (sym is)
exit_over before (FromServer n body) s is = never (sym is)
exit_over before (Drained n k) s is = never (sym is)
exit_over before (Tick t) s is = never (sym is)

pub alive_exit : (before : List Event) (cause : Cause) (s : ℕ) → is_exit cause s ≡ true → fits_behind before cause ≡ true → is_ended (life_of s before).stage ≡ false
alive_exit before (StartFailed n) s is fits = subst (λ k. is_ended (life_of k before).stage ≡ false) (number_same n s is) (alive_starting (life_of n before).stage (and_parts (may_begin (life_of n before).stage) (not (life_of n before).started) fits).0)
alive_exit before (ServerGone n) s is fits = subst (λ k. is_ended (life_of k before).stage ≡ false) (number_same n s is) (turned_off (is_ended (life_of n before).stage) (and_parts (life_of n before).started (not (is_ended (life_of n before).stage)) fits).1)
alive_exit before (Joined n) s is fits = never (sym is)
alive_exit before (FromEditor n body) s is fits = never (sym is)
alive_exit before (EditorGone n why) s is fits = never (sym is)
alive_exit before (Started n) s is fits = never (sym is)
alive_exit before (FromServer n body) s is fits = never (sym is)
alive_exit before (Drained n k) s is fits = never (sym is)
alive_exit before (Tick t) s is fits = never (sym is)

-- behind it its group may have ended
exit_groups : (settings : Settings) (before : List Event) (s : ℕ) (cause : Cause) → is_exit cause s ≡ true → groups_of settings (with_cause before cause) ≡ groups_lose settings before s (house_of settings before)
exit_groups settings before s (StartFailed n) is = groups_more settings before (heard (StartFailed n)) ∙ ap (λ k. groups_lose settings before k (house_of settings before)) (number_same n s is)
exit_groups settings before s (ServerGone n) is = groups_more settings before (heard (ServerGone n)) ∙ ap (λ k. groups_lose settings before k (house_of settings before)) (number_same n s is)
exit_groups settings before s (Joined n) is = never (sym is)
exit_groups settings before s (FromEditor n body) is = never (sym is)
exit_groups settings before s (EditorGone n why) is = never (sym is)
exit_groups settings before s (Started n) is = never (sym is)
exit_groups settings before s (FromServer n body) is = never (sym is)
exit_groups settings before s (Drained n k) is = never (sym is)
exit_groups settings before s (Tick t) is = never (sym is)

module _ (settings : Settings) (before : List Event) (cause : Cause) (begun : Begun settings before) where
  abbrev pub N : ℕ
  N = length (groups_of settings before)

  abbrev pub now : List Event
  now = with_cause before cause

  -- a group that has a start is kept
  pub kept_below : (g s : ℕ) → start_of g before ≡ Some s → g < N
  kept_below g s at = within (λ le. some ((begun g).1 le))
    where
      some : start_of g before ≡ None → ⊥
      some none = let clash : ◌≡◌ {A = Option ℕ} (Some s) None = sym at ∙ none in cc

      within : (N ≤ g → ⊥) → g < N
      within f = omega (arith, f)

  pub apart : (g : ℕ) → g < N → nat_eq N g ≡ false
  apart g below = go (nat_eq N g) refl
    where
      go : (b : Bool) → nat_eq N g ≡ b → b ≡ false
      go true same = absurd (let is : N ≡ g = number_same N g same in omega (arith, is, below))
      go false other = refl

  pub start_quiet : (g : ℕ) (xs : List Out) → AllByRecursion NoSpawn xs → start_of g (behind now xs) ≡ start_of g before
  start_quiet g xs all = starts_stay g now xs all ∙ start_took g before cause

  pub group_quiet : (s : ℕ) (xs : List Out) → AllByRecursion NoSpawn xs → group_of s (behind now xs) ≡ group_of s before
  group_quiet s xs all = groups_rest s now xs all ∙ group_took s before cause

  -- behind its start
  -- behind a start of group i
  pub start_last : (g n i : ℕ) (xs : List Out) → AllByRecursion NoSpawn xs → start_of g (behind now (xs ++ Spawn n i ∷ [])) ≡ (if nat_eq i g then Some n else start_of g before)
  start_last g n i xs all = ap (start_of g) (behind_both now xs (Spawn n i ∷ [])) ∙ start_more g (behind now xs) (said (Spawn n i)) ∙ ap (λ o. if nat_eq i g then Some n else o) (start_quiet g xs all)

  pub group_last : (s n i : ℕ) (xs : List Out) → AllByRecursion NoSpawn xs → group_of s (behind now (xs ++ Spawn n i ∷ [])) ≡ (if nat_eq n s then Some i else group_of s before)
  group_last s n i xs all = ap (group_of s) (behind_both now xs (Spawn n i ∷ [])) ∙ group_more s (behind now xs) (said (Spawn n i)) ∙ ap (λ o. if nat_eq n s then Some i else o) (group_quiet s xs all)

  pub by_founding : (P : List Out → Type 0) → ((xs : List Out) → AllByRecursion NoSpawn xs → P xs) → ((xs : List Out) (n : ℕ) → AllByRecursion NoSpawn xs → lives_at N (groups_of settings now) ≡ true → P (xs ++ Spawn n N ∷ []))
      → ((xs : List Out) (s i : ℕ) → AllByRecursion NoSpawn xs → is_exit cause s ≡ true → group_of s before ≡ Some i → lives_at i (groups_of settings now) ≡ true → P (xs ++ Spawn (starts_of before) i ∷ []))
      → Founding settings before cause → P (outs_of settings before cause)
  by_founding P f g h (quiet all same) = f (outs_of settings before cause) all
  by_founding P f g h (founds xs n all sent more live) = subst P (sym sent) (g xs n all live)
  by_founding P f g h (renews xs s i all sent same is home live) = subst P (sym sent) (h xs s i (told_quiet xs all) is home live)

  -- a group that goes on from a start that ends goes on with the next one
  pub start_renewed : (g s : ℕ) → group_of s before ≡ Some g → is_exit cause s ≡ true → begins_again settings before s ≡ true → start_of g (behind now (outs_of settings before cause)) ≡ Some (starts_of before)
  start_renewed g s home is again = ap (λ xs. start_of g (behind now xs)) r.1.1 ∙ (start_last g (starts_of before) k.group r.0 (told_quiet r.0 r.1.0) ∙ ap (λ b. if b then Some (starts_of before) else start_of g before) same)
    where
      k : RenewsGroup settings before s
      k = renews_parts settings before s again

      r : (xs : List Out) × (AllByRecursion IsTold xs × (outs_of settings before cause ≡ xs ++ Spawn (starts_of before) k.group ∷ []))
      r = renewed_outs settings before cause s is (exit_by settings before cause s is).row (exit_groups settings before s cause is) k

      same : nat_eq k.group g ≡ true
      same = let both : ◌≡◌ {A = Option ℕ} (Some k.group) (Some g) = sym k.home ∙ home in let it : k.group ≡ g = cc in subst (λ z. nat_eq k.group z ≡ true) it (same_number k.group)

  -- of a cause that fits
  module _ (fits : fits_behind before cause ≡ true) (lasts : AllLast before) where
    -- the start of a group stays, but where it ends
    pub start_kept : (g s : ℕ) → start_of g before ≡ Some s → is_exit cause s ≡ false → start_of g (behind now (outs_of settings before cause)) ≡ Some s
    start_kept g s at goes_on = by_founding (λ xs. start_of g (behind now xs) ≡ Some s) (λ xs all. start_quiet g xs all ∙ at)
        (λ xs n all live. start_last g n N xs all ∙ ap (λ b. if b then Some n else start_of g before) (apart g (kept_below g s at)) ∙ at) renewed (founding_of settings before cause)
      where
        renewed : (xs : List Out) (t i : ℕ) → AllByRecursion NoSpawn xs → is_exit cause t ≡ true → group_of t before ≡ Some i → lives_at i (groups_of settings now) ≡ true → start_of g (behind now (xs ++ Spawn (starts_of before) i ∷ [])) ≡ Some s
        renewed xs t i all is home live = start_last g (starts_of before) i xs all ∙ go (nat_eq i g) refl
          where
            go : (b : Bool) → nat_eq i g ≡ b → (if b then Some (starts_of before) else start_of g before) ≡ Some s
            go true same = absurd (let both : ◌≡◌ {A = Option ℕ} (Some t) (Some s) = sym (lasts t i home (alive_exit before cause t is fits)) ∙ (ap (λ k. start_of k before) (number_same i g same) ∙ at) in
                let it : t ≡ s = cc in let clash : true ≡ false = sym is ∙ (ap (is_exit cause) it ∙ goes_on) in cc)
            go false other = at

    pub last_rests : AllLast (behind now (outs_of settings before cause))
    last_rests s g = by_founding (λ xs. group_of s (behind now xs) ≡ Some g → is_ended (life_of s (behind now xs)).stage ≡ false → start_of g (behind now xs) ≡ Some s)
        (λ xs all at alive. start_quiet g xs all ∙ lasts s g (sym (group_quiet s xs all) ∙ at) (alive_before xs all alive)) last renewed (founding_of settings before cause)
      where
        alive_before : (xs : List Out) → AllByRecursion NoSpawn xs → is_ended (life_of s (behind now xs)).stage ≡ false → is_ended (life_of s before).stage ≡ false
        alive_before xs all alive = unended_took s before cause (unended_outs s now xs all alive)

        -- behind a start that isn't s
        alive_quiet : (xs : List Out) (n i : ℕ) → nat_eq n s ≡ false → is_ended (life_of s (behind now (xs ++ Spawn n i ∷ []))).stage ≡ false → is_ended (life_of s (behind now xs)).stage ≡ false
        alive_quiet xs n i other alive = unended_spawn s n i (behind now xs) other (subst (λ z. is_ended (life_of s z).stage ≡ false) (behind_both now xs (Spawn n i ∷ [])) alive)

        last : (xs : List Out) (n : ℕ) → AllByRecursion NoSpawn xs → lives_at N (groups_of settings now) ≡ true → group_of s (behind now (xs ++ Spawn n N ∷ [])) ≡ Some g → is_ended (life_of s (behind now (xs ++ Spawn n N ∷ []))).stage ≡ false
            → start_of g (behind now (xs ++ Spawn n N ∷ [])) ≡ Some s
        last xs n all live at alive = start_last g n N xs all ∙ go (nat_eq n s) refl (sym (group_last s n N xs all) ∙ at)
          where
            go : (b : Bool) → nat_eq n s ≡ b → (if b then Some N else group_of s before) ≡ Some g → (if nat_eq N g then Some n else start_of g before) ≡ Some s
            go true same k = let is : N ≡ g = cc in ap (λ b. if b then Some n else start_of g before) (subst (λ z. nat_eq N z ≡ true) is (same_number N)) ∙ ap (λ z. Some z) (number_same n s same)
            go false other k = let kept : start_of g before ≡ Some s = lasts s g k (alive_before xs all (alive_quiet xs n N other alive)) in ap (λ b. if b then Some n else start_of g before) (apart g (kept_below g s kept)) ∙ kept

        renewed : (xs : List Out) (t i : ℕ) → AllByRecursion NoSpawn xs → is_exit cause t ≡ true → group_of t before ≡ Some i → lives_at i (groups_of settings now) ≡ true → group_of s (behind now (xs ++ Spawn (starts_of before) i ∷ [])) ≡ Some g
            → is_ended (life_of s (behind now (xs ++ Spawn (starts_of before) i ∷ []))).stage ≡ false → start_of g (behind now (xs ++ Spawn (starts_of before) i ∷ [])) ≡ Some s
        renewed xs t i all is home live at alive = start_last g (starts_of before) i xs all ∙ go (nat_eq (starts_of before) s) refl (sym (group_last s (starts_of before) i xs all) ∙ at)
          where
            the : {v w : ℕ} → ◌≡◌ {A = Option ℕ} (Some v) (Some w) → v ≡ w
            the e = cc

            -- the one that ends is the only other one that could be the last of its group
            old : nat_eq (starts_of before) s ≡ false → group_of s before ≡ Some g → (c : Bool) → nat_eq i g ≡ c → (if c then Some (starts_of before) else start_of g before) ≡ Some s
            old other k false far = lasts s g k (alive_before xs all (alive_quiet xs (starts_of before) i other alive))
            old other k true same = absurd (let here : start_of g before ≡ Some s = lasts s g k (alive_before xs all (alive_quiet xs (starts_of before) i other alive)) in
                let it : t ≡ s = the (sym (lasts t i home (alive_exit before cause t is fits)) ∙ (ap (λ k. start_of k before) (number_same i g same) ∙ here)) in
                let over : is_ended (life_of s now).stage ≡ true = subst (λ k. is_ended (life_of k now).stage ≡ true) it (exit_over before cause t is) in
                let clash : true ≡ false = sym over ∙ unended_outs s now xs all (alive_quiet xs (starts_of before) i other alive) in cc)

            go : (b : Bool) → nat_eq (starts_of before) s ≡ b → (if b then Some i else group_of s before) ≡ Some g → (if nat_eq i g then Some (starts_of before) else start_of g before) ≡ Some s
            go true same k = ap (λ b. if b then Some (starts_of before) else start_of g before) (subst (λ z. nat_eq i z ≡ true) (the k) (same_number i)) ∙ ap (λ z. Some z) (number_same (starts_of before) s same)
            go false other k = old other k (nat_eq i g) refl

    -- a start that ends by the cause isn't the last one of a group that lives
    pub over_last : ((g s : ℕ) → start_of g before ≡ Some s → (group_of s before ≡ Some g) × (s < starts_of before)) → (g s : ℕ) → is_exit cause s ≡ true → start_of g (behind now (outs_of settings before cause)) ≡ Some s → lives_at g (groups_of settings now) ≡ true → ⊥
    over_last known g s is at live = go (begins_again settings before s) refl
      where
        exit : Exit settings before cause s
        exit = exit_by settings before cause s is

        groups : groups_of settings now ≡ groups_lose settings before s (house_of settings before)
        groups = exit_groups settings before s cause is

        again : RenewsGroup settings before s → ⊥
        again k = by_group (nat_eq k.group g) refl (sym (start_last g (starts_of before) k.group r.0 (told_quiet r.0 r.1.0)) ∙ (ap (λ xs. start_of g (behind now xs)) (sym r.1.1) ∙ at))
          where
            r : (xs : List Out) × (AllByRecursion IsTold xs × (outs_of settings before cause ≡ xs ++ Spawn (starts_of before) k.group ∷ []))
            r = renewed_outs settings before cause s is exit.row groups k

            by_group : (b : Bool) → nat_eq k.group g ≡ b → (if b then Some (starts_of before) else start_of g before) ≡ Some s → ⊥
            by_group true same h = let it : starts_of before ≡ s = cc in let below : s < starts_of before = (known k.group s (lasts s k.group k.home (alive_exit before cause s is fits))).1 in omega (arith, it, below)
            by_group false other h = let both : ◌≡◌ {A = Option ℕ} (Some k.group) (Some g) = sym k.home ∙ (known g s h).0 in let it : k.group ≡ g = cc in never (sym (ap (nat_eq k.group) (sym it) ∙ same_number k.group) ∙ other)

        last : not (begins_again settings before s) ≡ true → ⊥
        last ends = let was : start_of g before ≡ Some s = sym (start_quiet g (outs_of settings before cause) (ended_outs settings before cause s is exit.row groups ends)) ∙ at in
            never (sym live ∙ (ap (lives_at g) (groups ∙ lost_is settings before s ends) ∙ lost_over settings before s g (known g s was).0))

        go : (b : Bool) → begins_again settings before s ≡ b → ⊥
        go true is_so = again (renews_parts settings before s is_so)
        go false off = last (ap not off)

pub last_none : AllLast []
last_none s g at alive = absurd (cc)
