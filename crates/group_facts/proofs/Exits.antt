-- The end of a start that gives its group no new one: the group ends, where it lives, and all others stay as they are.
use Rattle.std.proofs.Common.{◌≡◌, ℕ, zero, suc, ◌+◌, Bool, true, false, not, ◌&&◌, List, [], ◌∷◌, length, nat_le, if◌then◌else◌, Option, Some, None, refl, sym, ◌∙◌, ap, ap₂, subst}
use Rattle.std.specs.Prelude.{slice_get}
use Rattle.std.specs.Option.{option_map_or}
use Rattle.std.proofs.lemmas.Bool.{and_parts}
use Rattle.mux_history.specs.declared.cause.Cause.TheVariants.{StartFailed, ServerGone}
use Rattle.event_model.specs.Event.{Event, heard, with_cause}
use Rattle.event_model.specs.Phases.{needs_server}
use Rattle.event_model.specs.Row.{choose, each, nothing, on, outs, ◌⨾◌}
use Rattle.event_model.specs.Settings.{Settings}
use Rattle.event_model.specs.Spawns.{group_of}
use Rattle.event_model.specs.Stages.{is_ready, life_of}
use Rattle.event_model.proofs.Frames.{never}
use Rattle.group_words.specs.declared.kept.Kept.{Kept}
use Rattle.group_words.specs.Houses.{at_group, exit_of, groups_lose, groups_of, has_editor, house_of}
use Rattle.group_words.specs.Placing.{changed, ended, exited}
use Rattle.group_words.specs.Rows.{spawn}
use Rattle.group_words.proofs.Frames.{changed_length, groups_more}
use Rattle.group_rows.specs.Asks.{members_in, running_in}
use Rattle.group_rows.specs.ExitRows.{begins_again, comes_again, comes_to_end, ends_group, exit_in, lose_sent, lose_start, lost_row, starts_again, turn_out}
use Rattle.group_facts.specs.Built.{is_left}
use Rattle.group_facts.specs.Lively.{is_busy_at, lives, lives_at}
use Rattle.group_facts.proofs.LiveGroups.{busy_changed, changed_lives, lives_changed}

changed_by : (f h : Kept → Kept) (g : ℕ) (xs : List Kept) → ((x : Kept) → slice_get xs g ≡ Some x → f x ≡ h x) → changed g f xs ≡ changed g h xs
changed_by f h g [] same = refl
changed_by f h zero (x ∷ xs) same = ap (λ y. y ∷ xs) (same x refl)
changed_by f h (suc g) (x ∷ xs) same = ap (λ ys. x ∷ ys) (changed_by f h g xs same)

pub exit_over : (restarts : ℕ) (wanted : Bool) (x : Kept) → x.live ≡ false → exit_of restarts wanted x ≡ x
exit_over restarts wanted x h = ap (λ b. if b then (if wanted && nat_le (x.exits + 1) restarts then exited x else ended (exited x)) else x) h

-- one that lives ends
abbrev pub end_live : Kept → Kept
end_live x = if x.live then ended x else x

exit_ended : (restarts : ℕ) (wanted : Bool) (x : Kept) → (x.live && (wanted && nat_le (x.exits + 1) restarts)) ≡ false → exit_of restarts wanted x ≡ end_live x
exit_ended restarts wanted x h = go x.live (wanted && nat_le (x.exits + 1) restarts) h
  where
    go : (a b : Bool) → (a && b) ≡ false → (if a then (if b then exited x else ended (exited x)) else x) ≡ (if a then ended x else x)
    go true true h = never h
    go true false h = refl
    go false b h = refl

live_before : (x : Kept) → (end_live x).live ≡ true → x.live ≡ true
live_before x h = go x.live refl h
  where
    go : (b : Bool) → x.live ≡ b → (if b then ended x else x).live ≡ true → x.live ≡ true
    go true is h = is
    go false is h = h

over_behind : (g : ℕ) (xs : List Kept) → lives_at g (changed g end_live xs) ≡ false
over_behind g [] = refl
over_behind zero (x ∷ xs) = go x.live refl
  where
    go : (b : Bool) → x.live ≡ b → (if b then ended x else x).live ≡ false
    go true is = refl
    go false is = is
over_behind (suc g) (x ∷ xs) = over_behind g xs

-- the group of a start ends, where it lives
abbrev pub groups_lost : Settings → List Event → ℕ → List Kept
groups_lost settings before s = at_group (group_of s before) (λ g. end_live) (groups_of settings before)

pub lost_length : (settings : Settings) (before : List Event) (s : ℕ) → length (groups_lost settings before s) ≡ length (groups_of settings before)
lost_length settings before s = go (group_of s before)
  where
    go : (o : Option ℕ) → length (at_group o (λ g. end_live) (groups_of settings before)) ≡ length (groups_of settings before)
    go None = refl
    go (Some g) = changed_length g end_live (groups_of settings before)

-- none lives that didn't, and its own lives no more
pub lost_lived : (settings : Settings) (before : List Event) (s g : ℕ) → lives_at g (groups_lost settings before s) ≡ true → lives_at g (groups_of settings before) ≡ true
lost_lived settings before s g h = go (group_of s before) h
  where
    go : (o : Option ℕ) → lives_at g (at_group o (λ i. end_live) (groups_of settings before)) ≡ true → lives_at g (groups_of settings before) ≡ true
    go None k = k
    go (Some i) k = lives_changed end_live live_before i g (groups_of settings before) k

pub lost_over : (settings : Settings) (before : List Event) (s g : ℕ) → group_of s before ≡ Some g → lives_at g (groups_lost settings before s) ≡ false
lost_over settings before s g home = ap (λ o. lives_at g (at_group o (λ i. end_live) (groups_of settings before))) home ∙ over_behind g (groups_of settings before)

over_of : (home : Option ℕ) (groups : List Kept) → not (option_map_or (λ g. lives_at g groups) home false) ≡ true → (g : ℕ) → home ≡ Some g → lives_at g groups ≡ false
over_of None groups h g at = absurd (cc)
over_of (Some i) groups h g at = let same : i ≡ g = cc in ap (λ n. lives_at n groups) (sym same) ∙ off (lives_at i groups) h
  where
    off : (b : Bool) → not b ≡ true → b ≡ false
    off true h = never (sym h)
    off false h = refl

-- a start that is left has no group that lives
pub left_over : (settings : Settings) (before : List Event) (s : ℕ) → is_left settings before s ≡ true → (g : ℕ) → group_of s before ≡ Some g → lives_at g (groups_of settings before) ≡ false
left_over settings before s left g at = over_of (group_of s before) (groups_of settings before) left g at

-- whatever becomes of its group, there are as many
pub lose_length : (settings : Settings) (before : List Event) (s : ℕ) → length (groups_lose settings before s (house_of settings before)) ≡ length (groups_of settings before)
lose_length settings before s = go (group_of s before)
  where
    go : (o : Option ℕ) → length (at_group o (λ g. exit_of settings.limits.restarts (has_editor needs_server g (house_of settings before).home before)) (groups_of settings before)) ≡ length (groups_of settings before)
    go None = refl
    go (Some g) = changed_length g (exit_of settings.limits.restarts (has_editor needs_server g (house_of settings before).home before)) (groups_of settings before)

-- the group of the start lives, and goes on with a new one
pub record RenewsGroup (settings : Settings) (before : List Event) (s : ℕ) : Type 0 where
  pub group : ℕ
  pub home : group_of s before ≡ Some group
  pub kept : Kept
  pub found : slice_get (groups_of settings before) group ≡ Some kept
  pub live : kept.live ≡ true
  pub again : starts_again settings before group kept ≡ true

pub renews_parts : (settings : Settings) (before : List Event) (s : ℕ) → begins_again settings before s ≡ true → RenewsGroup settings before s
renews_parts settings before s h = go (group_of s before) refl h
  where
    at_kept : (g : ℕ) → group_of s before ≡ Some g → (o : Option Kept) → slice_get (groups_of settings before) g ≡ o → option_map_or (comes_again settings before g) o false ≡ true → RenewsGroup settings before s
    at_kept g home None found h = never (sym h)
    at_kept g home (Some x) found h = let p = and_parts x.live (starts_again settings before g x) h in record { group = g; home = home; kept = x; found = found; live = p.0; again = p.1 }

    go : (o : Option ℕ) → group_of s before ≡ o → option_map_or (λ g. option_map_or (comes_again settings before g) (slice_get (groups_of settings before) g) false) o false ≡ true → RenewsGroup settings before s
    go None none h = never (sym h)
    go (Some g) home h = at_kept g home (slice_get (groups_of settings before) g) refl h

exit_goes : (restarts : ℕ) (wanted : Bool) (x : Kept) → x.live ≡ true → (wanted && nat_le (x.exits + 1) restarts) ≡ true → exit_of restarts wanted x ≡ exited x
exit_goes restarts wanted x live again = ap (λ b. if b then (if wanted && nat_le (x.exits + 1) restarts then exited x else ended (exited x)) else x) live ∙ ap (λ b. if b then exited x else ended (exited x)) again

-- then each lives that did, and is as busy
module _ (settings : Settings) (before : List Event) (s : ℕ) (k : RenewsGroup settings before s) where
  pub renewed_is : groups_lose settings before s (house_of settings before) ≡ changed k.group exited (groups_of settings before)
  renewed_is = ap (λ o. at_group o (λ g. exit_of settings.limits.restarts (has_editor needs_server g (house_of settings before).home before)) (groups_of settings before)) k.home
      ∙ changed_by (exit_of settings.limits.restarts (has_editor needs_server k.group (house_of settings before).home before)) exited k.group (groups_of settings before)
      (λ x found. let same : k.kept ≡ x = kept_same (sym k.found ∙ found) in subst (λ y. exit_of settings.limits.restarts (has_editor needs_server k.group (house_of settings before).home before) y ≡ exited y) same
      (exit_goes settings.limits.restarts (has_editor needs_server k.group (house_of settings before).home before) k.kept k.live k.again))
    where
      kept_same : {x y : Kept} → ◌≡◌ {A = Option Kept} (Some x) (Some y) → x ≡ y
      kept_same e = cc

  pub renewed_lives : (g : ℕ) → lives_at g (groups_lose settings before s (house_of settings before)) ≡ lives_at g (groups_of settings before)
  renewed_lives g = ap (lives_at g) renewed_is ∙ changed_lives exited (λ x. refl) k.group g (groups_of settings before)

  pub renewed_busy : (g : ℕ) → is_busy_at g (groups_of settings before) ≡ true → is_busy_at g (groups_lose settings before s (house_of settings before)) ≡ true
  renewed_busy g h = ap (is_busy_at g) renewed_is ∙ busy_changed exited (λ x busy. busy) k.group g (groups_of settings before) h

-- the group of the start lives, and ends with it
pub record EndsGroup (settings : Settings) (before : List Event) (s : ℕ) : Type 0 where
  pub group : ℕ
  pub home : group_of s before ≡ Some group
  pub kept : Kept
  pub found : slice_get (groups_of settings before) group ≡ Some kept
  pub live : kept.live ≡ true
  pub last : starts_again settings before group kept ≡ false

pub ends_parts : (settings : Settings) (before : List Event) (s : ℕ) → ends_group settings before s ≡ true → EndsGroup settings before s
ends_parts settings before s h = go (group_of s before) refl h
  where
    last_of : (b : Bool) → not b ≡ true → b ≡ false
    last_of true h = never (sym h)
    last_of false h = refl

    at_kept : (g : ℕ) → group_of s before ≡ Some g → (o : Option Kept) → slice_get (groups_of settings before) g ≡ o → option_map_or (comes_to_end settings before g) o false ≡ true → EndsGroup settings before s
    at_kept g home None found h = never (sym h)
    at_kept g home (Some x) found h = let p = and_parts x.live (not (starts_again settings before g x)) h in record { group = g; home = home; kept = x; found = found; live = p.0; last = last_of (starts_again settings before g x) p.1 }

    go : (o : Option ℕ) → group_of s before ≡ o → option_map_or (λ g. option_map_or (comes_to_end settings before g) (slice_get (groups_of settings before) g) false) o false ≡ true → EndsGroup settings before s
    go None none h = never (sym h)
    go (Some g) home h = at_kept g home (slice_get (groups_of settings before) g) refl h

module _ (settings : Settings) (before : List Event) (s : ℕ) (ends : not (begins_again settings before s) ≡ true) where
  again_off : begins_again settings before s ≡ false
  again_off = off (begins_again settings before s) ends
    where
      off : (b : Bool) → not b ≡ true → b ≡ false
      off true h = never (sym h)
      off false h = refl

  pub none_again : (g : ℕ) (x : Kept) → group_of s before ≡ Some g → slice_get (groups_of settings before) g ≡ Some x → comes_again settings before g x ≡ false
  none_again g x home found = sym (ap (λ o. option_map_or (λ i. option_map_or (comes_again settings before i) (slice_get (groups_of settings before) i) false) o false) home ∙ ap (λ o. option_map_or (comes_again settings before g) o false) found) ∙ again_off

  pub lost_is : groups_lose settings before s (house_of settings before) ≡ groups_lost settings before s
  lost_is = go (group_of s before) refl
    where
      go : (o : Option ℕ) → group_of s before ≡ o → at_group o (λ g. exit_of settings.limits.restarts (has_editor needs_server g (house_of settings before).home before)) (groups_of settings before) ≡ at_group o (λ g. end_live) (groups_of settings before)
      go None none = refl
      go (Some g) home = changed_by (exit_of settings.limits.restarts (has_editor needs_server g (house_of settings before).home before)) end_live g (groups_of settings before)
          (λ x found. exit_ended settings.limits.restarts (has_editor needs_server g (house_of settings before).home before) x (none_again g x home found))

  pub gone_groups : groups_of settings (with_cause before (ServerGone s)) ≡ groups_lost settings before s
  gone_groups = groups_more settings before (heard (ServerGone s)) ∙ lost_is

  pub failed_groups : groups_of settings (with_cause before (StartFailed s)) ≡ groups_lost settings before s
  failed_groups = groups_more settings before (heard (StartFailed s)) ∙ lost_is

  -- a group that lives ends with its start
  pub ends_live : (g : ℕ) → group_of s before ≡ Some g → lives_at g (groups_of settings before) ≡ true → ends_group settings before s ≡ true
  ends_live g home live = go (slice_get (groups_of settings before) g) refl live
    where
      last_off : (a b : Bool) → a ≡ true → (a && b) ≡ false → b ≡ false
      last_off true b is h = h
      last_off false b is h = never (sym is)

      go : (o : Option Kept) → slice_get (groups_of settings before) g ≡ o → lives o ≡ true → ends_group settings before s ≡ true
      go None none h = never (sym h)
      go (Some x) found h = ap (λ o. option_map_or (λ i. option_map_or (comes_to_end settings before i) (slice_get (groups_of settings before) i) false) o false) home ∙ ap (λ o. option_map_or (comes_to_end settings before g) o false) found
          ∙ ap₂ (λ a b. a && not b) h (last_off x.live (starts_again settings before g x) h (none_again g x home found))

-- What is sent

module _ (settings : Settings) (before : List Event) (s : ℕ) (now : List Event) where
  -- of a group that ends
  pub lost_outs : (k : EndsGroup settings before s) → outs (lost_row settings before s) now
      ≡ outs (each (lose_sent settings before s) (members_in settings k.group before)
      ⨾ (choose (is_ready (life_of s before).stage) (each (lose_start settings before s) (running_in settings k.group before)) nothing ⨾ each (turn_out settings k.group) (members_in settings k.group before))) now
  lost_outs k = ap (λ o. outs (on o nothing (λ g. on (slice_get (groups_of settings before) g) nothing (exit_in settings before s g))) now) k.home
      ∙ ap (λ o. outs (on o nothing (exit_in settings before s k.group)) now) k.found
      ∙ ap (λ b. outs (choose b (each (lose_sent settings before s) (members_in settings k.group before)
      ⨾ (choose (is_ready (life_of s before).stage) (each (lose_start settings before s) (running_in settings k.group before)) nothing
      ⨾ choose (starts_again settings before k.group k.kept) (spawn k.group) (each (turn_out settings k.group) (members_in settings k.group before)))) nothing) now) k.live
      ∙ ap (λ b. outs (each (lose_sent settings before s) (members_in settings k.group before)
      ⨾ (choose (is_ready (life_of s before).stage) (each (lose_start settings before s) (running_in settings k.group before)) nothing
      ⨾ choose b (spawn k.group) (each (turn_out settings k.group) (members_in settings k.group before)))) now) k.last

-- none lives that didn't
pub lose_lived : (settings : Settings) (before : List Event) (s g : ℕ) → lives_at g (groups_lose settings before s (house_of settings before)) ≡ true → lives_at g (groups_of settings before) ≡ true
lose_lived settings before s g h = go (begins_again settings before s) refl
  where
    go : (b : Bool) → begins_again settings before s ≡ b → lives_at g (groups_of settings before) ≡ true
    go true again = sym (renewed_lives settings before s (renews_parts settings before s again) g) ∙ h
    go false last = lost_lived settings before s g (sym (ap (lives_at g) (lost_is settings before s (ap not last))) ∙ h)
