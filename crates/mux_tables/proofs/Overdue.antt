-- The starts whose programs are to be ended at a tick, as the code has them.
use Rattle.std.proofs.Common.{◌≡◌, ℕ, max, map, Bool, true, false, ◌&&◌, List, filter, refl, ap, sym, subst, ◌∙◌}
use Rattle.std.specs.Prelude.{Option, Some, None, IsSome, ◌↔◌, slice_get}
use Rattle.std.specs.List.{range_with_len}
use Rattle.event_model.specs.declared.stage.Stage.{Stage}
use Rattle.event_model.specs.declared.stage.Stage.TheVariants.{Unspawned, Spawning, Initializing, Ready, Stopping, Ending, Ended}
use Rattle.event_model.specs.Event.{Event}
use Rattle.event_model.specs.Settings.{Settings}
use Rattle.event_model.specs.Spawns.{starts_of}
use Rattle.event_model.specs.Stages.{Life, life_of}
use Rattle.event_model.proofs.Frames.{never}
use Rattle.group_laws.specs.group_rows.specs.Ticks.{is_stopping, overdue_of, stop_of}
use Rattle.group_words.specs.Houses.{time_of}
use Rattle.group_words.specs.Placing.{is_since}
use Rattle.group_laws.specs.group_rows.proofs.Stops.{filter_both}
use Rattle.mux_tables.specs.declared.tables.Start.{Start}
use Rattle.mux_tables.specs.declared.tables.Tables.{Tables}
use Rattle.mux_tables.specs.Stands.{Stands, StopAt, is_over, moment_in, number_in, of_life, of_stop}
use Rattle.mux_tables.proofs.Starts.{start_at_place}
use Rattle.mux_tables.specs.Stops.{awaited_stop}
use Rattle.mux_tables.proofs.Awaited.{filter_agree}

-- two tests that agree where a third one holds
filter_within : (p q test : ℕ → Bool) → ((n : ℕ) → test n ≡ true → p n ≡ q n) → (xs : List ℕ) → filter p (filter test xs) ≡ filter q (filter test xs)
filter_within p q test same xs = filter_both p test xs ∙ filter_agree (λ n. test n && p n) (λ n. test n && q n) (λ n. go n (test n) refl) xs ∙ sym (filter_both q test xs)
  where
    go : (n : ℕ) (b : Bool) → test n ≡ b → (b && p n) ≡ (b && q n)
    go n true is = same n is
    go n false is = refl

-- what is awaited
awaited_none : (s : ℕ) (before : List Event) → is_stopping (life_of s before).stage ≡ false → awaited_stop s before ≡ None
awaited_none s before off = rw off refl

over_settled : (stage : Stage) → is_over stage ≡ true → is_stopping stage ≡ false
over_settled Unspawned h = refl
over_settled Ended h = refl
over_settled Spawning h = refl
over_settled Initializing h = refl
over_settled Ready h = refl
over_settled Ending h = refl
over_settled Stopping h = never (sym h)

-- the start isn't the last one of a group of which something is kept
pub unawaited : (settings : Settings) (t : Tables) (before : List Event) (s : ℕ) → is_over (life_of s before).stage ≡ true → None ≡ awaited_stop s before
unawaited settings t before s over = sym (awaited_none s before (over_settled (life_of s before).stage over))

module _ (settings : Settings) (t : Tables) (before : List Event) (p s : ℕ) (x : Start) (here : slice_get t.lasts.items p ≡ Some x) (at : slice_get (map number_in t.lasts.items) p ≡ Some s) (st : Stands settings t before) where
  stage_is : (life_of s before).stage ≡ x.life.stage
  stage_is = subst (λ n. (life_of n before).stage ≡ x.life.stage) (start_at_place t.lasts.items p s x here at) (ap (λ (l : Life). l.stage) ((st.lasts.each p x here).parts of_life))

  -- it is, and its answer is awaited, or isn't
  pub awaited_here : (o : Option (ℕ × ℕ)) → o ≡ x.life.stopping → IsSome o ↔ (x.life.stage ≡ Stopping) → moment_in o ≡ awaited_stop s before
  awaited_here None is when = sym (awaited_none s before (off x.life.stage refl))
    where
      off : (stage : Stage) → x.life.stage ≡ stage → is_stopping (life_of s before).stage ≡ false
      off Stopping e = never (sym (when.1 e))
      off Unspawned e = ap is_stopping (stage_is ∙ e)
      off Spawning e = ap is_stopping (stage_is ∙ e)
      off Initializing e = ap is_stopping (stage_is ∙ e)
      off Ready e = ap is_stopping (stage_is ∙ e)
      off Ending e = ap is_stopping (stage_is ∙ e)
      off Ended e = ap is_stopping (stage_is ∙ e)
  awaited_here (Some k) is when =
      let stops : x.life.stage ≡ Stopping = when.0 refl in
      let kept : moment_in x.life.stopping ≡ stop_of x.life.start before = subst (λ g. StopAt g x.life.stopping (stop_of x.life.start before)) stops ((st.lasts.each p x here).parts of_stop) in
      ap moment_in is ∙ (kept ∙ (ap (λ n. stop_of n before) (start_at_place t.lasts.items p s x here at) ∙ sym (rw (ap is_stopping (stage_is ∙ stops)) refl)))

module _ (settings : Settings) (t : Tables) (before : List Event) (st : Stands settings t before) where
  pub overdue_kept : (now later grace : ℕ) → settings.limits.grace ≡ grace → later ≡ max t.course.time now → filter (λ s. is_since grace later (awaited_stop s before)) t.origins.stopping.items ≡ overdue_of settings before now
  overdue_kept now later grace g l = ap (filter (λ s. is_since grace later (awaited_stop s before))) (sym st.stopping)
      ∙ filter_within (λ s. is_since grace later (awaited_stop s before)) (λ s. is_since settings.limits.grace (max (time_of before) now) (stop_of s before)) (λ s. is_stopping (life_of s before).stage)
      (λ s stops. ap (is_since grace later) (awaited s stops) ∙ ap (λ k. is_since k later (stop_of s before)) (sym g) ∙ ap (λ k. is_since settings.limits.grace k (stop_of s before)) (l ∙ ap (λ k. max k now) (sym st.house.now)))
      (range_with_len 0 (starts_of before))
    where
      awaited : (s : ℕ) → is_stopping (life_of s before).stage ≡ true → awaited_stop s before ≡ stop_of s before
      awaited s stops = rw stops refl
