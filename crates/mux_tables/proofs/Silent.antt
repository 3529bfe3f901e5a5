-- A message of an editor that answers no ask of a start that is ready: what is kept of the last starts stands on.
use Rattle.std.proofs.Common.{◌≡◌, ℕ, ◌≤◌, false, List, [], ◌∷◌, ◌++◌, filter, not, refl, ap, sym, subst, ◌∙◌}
use Rattle.std.specs.List.{AllByRecursion}
use Rattle.mux_history.specs.declared.cause.Cause.TheVariants.{FromEditor}
use Rattle.rpc_message.specs.Message.{message_of}
use Rattle.event_model.specs.declared.stage.Stage.{Stage}
use Rattle.event_model.specs.declared.stage.Stage.TheVariants.{Unspawned, Spawning, Initializing, Ready}
use Rattle.event_model.specs.Event.{Event, took}
use Rattle.event_model.specs.Requests.{answered_id}
use Rattle.event_model.specs.Settings.{Settings}
use Rattle.event_model.specs.Spawns.{start_behind, group_behind, starts_behind}
use Rattle.event_model.specs.Stages.{Life}
use Rattle.event_model.proofs.Frames.{one_more}
use Rattle.group_laws.specs.group_rows.specs.Asks.{Ask, asks_of, is_seated, parked_of}
use Rattle.ask_route.specs.declared.ask.Ask as route
use Rattle.mux_tables.specs.declared.tables.Start.{Start}
use Rattle.mux_tables.specs.Stands.{AnswersNone, AsksAt, AsksStay, blank, LastStands, LastsStand, ParkedAt, Part, PartStands, of_asks, of_ids, of_life, of_lists, of_live, of_parked, of_shown, of_stop}
use Rattle.mux_tables.proofs.Asking.{asks_later, asks_more, none_answered, parked_more, same_parked}
use Rattle.mux_tables.proofs.Frames.{group_apart, part_quiet, start_alone, starts_alone}
use Rattle.mux_tables.proofs.Lasts.{group_before, last_stays, start_before}

module _ (settings : Settings) (events : List Event) (e : ℕ) (body : List ℕ) where
  abbrev ev : Event
  ev = took (FromEditor e body) (message_of body)

  -- it answers nothing that the start asked
  abbrev Silent : ℕ → Type 0
  Silent s = AllByRecursion (λ (a : Ask). is_seated e (answered_id (message_of body)) a ≡ false) (asks_of settings s events)

  nothing_stays : (s : ℕ) → asks_of settings s events ≡ [] → AsksStay settings s events ev
  nothing_stays s none = record { asks = ap (filter (λ a. not (is_seated e (answered_id (message_of body)) a))) none ∙ sym none; parked = refl }

  asks_at : (stage : Stage) (s : ℕ) (kept : List route.Ask) → (stage ≡ Ready → Silent s) → AsksAt stage events (asks_of settings s events) kept → AsksAt stage (events ++ ev ∷ []) (asks_of settings s (events ++ ev ∷ [])) kept
  asks_at Ready s kept silent h = subst (λ qs. AsksAt Ready (events ++ ev ∷ []) qs kept) (sym (asks_more settings s events ev (none_answered settings e s body (message_of body) events (silent refl)).asks))
      (asks_later Ready events ev (asks_of settings s events) kept h)
  asks_at Unspawned s kept silent h = (asks_more settings s events ev (nothing_stays s h.0).asks ∙ h.0, h.1)
  asks_at Spawning s kept silent h = (asks_more settings s events ev (nothing_stays s h.0).asks ∙ h.0, h.1)
  asks_at Initializing s kept silent h = (asks_more settings s events ev (nothing_stays s h.0).asks ∙ h.0, h.1)
  asks_at other s kept silent h = tt

  parked_at : (stage : Stage) (s : ℕ) (kept : List route.Ask) → (stage ≡ Ready → Silent s) → ParkedAt stage (asks_of settings s events) (parked_of settings s events) kept
      → ParkedAt stage (asks_of settings s (events ++ ev ∷ [])) (parked_of settings s (events ++ ev ∷ [])) kept
  parked_at Ready s kept silent h = same_parked settings Ready s events ev kept (none_answered settings e s body (message_of body) events (silent refl)) h
  parked_at Unspawned s kept silent h = (parked_more settings s events ev refl ∙ h.0, h.1)
  parked_at Spawning s kept silent h = (parked_more settings s events ev refl ∙ h.0, h.1)
  parked_at Initializing s kept silent h = (parked_more settings s events ev refl ∙ h.0, h.1)
  parked_at other s kept silent h = tt

  part_silent : (p : Part) (limit : ℕ) (x : Start) → (x.life.stage ≡ Ready → Silent x.life.start) → PartStands p settings limit x events → PartStands p settings limit x (events ++ ev ∷ [])
  part_silent of_asks limit x silent h = asks_at x.life.stage x.life.start x.asks silent h
  part_silent of_parked limit x silent h = parked_at x.life.stage x.life.start x.parked silent h
  part_silent of_life limit x silent h = part_quiet of_life settings limit x events ev refl h
  part_silent of_ids limit x silent h = part_quiet of_ids settings limit x events ev refl h
  part_silent of_shown limit x silent h = part_quiet of_shown settings limit x events ev refl h
  part_silent of_stop limit x silent h = part_quiet of_stop settings limit x events ev refl h
  part_silent of_live limit x silent h = part_quiet of_live settings limit x events ev refl h
  part_silent of_lists limit x silent h = part_quiet of_lists settings limit x events ev refl h

  last_silent : AnswersNone settings e (message_of body) events → (limit g : ℕ) (x : Start) → LastStands settings limit events g x → LastStands settings limit (events ++ ev ∷ []) g x
  last_silent silent limit g x s = record {
    start = one_more (start_behind g) _ _ events ev s.start ∙ start_alone g _ ev refl;
    home = one_more (group_behind x.life.start) _ _ events ev s.home ∙ group_apart x.life.start _ ev refl;
    own = s.own;
    parts = λ p. part_silent p limit x (λ ready. silent x.life.start (ap (λ (l : Life). l.stage) (s.parts of_life) ∙ ready)) (s.parts p);
  }

  pub lasts_silent : AnswersNone settings e (message_of body) events → (limit : ℕ) (lasts : List Start) → LastsStand settings limit lasts events → LastsStand settings limit lasts (events ++ ev ∷ [])
  lasts_silent silent limit lasts s = record {
    rise = s.rise;
    each = λ j z at. last_silent silent limit z.life.group z (s.each j z at);
    lost = λ g n none at. let was = s.lost g n none (start_before events ev g n refl at) in record { last = was.last; stands = last_silent silent limit g was.last was.stands; number = was.number; ended = was.ended; answered = was.answered };
    fresh = λ n l p. part_silent p limit (blank limit n) (λ ready. absurd (unspawned ready)) (s.fresh n (subst (λ m. m ≤ n) (one_more starts_behind _ _ events ev refl ∙ starts_alone _ ev refl) l) p);
    old = λ n g at. last_stays events ev n g refl refl (s.old n g (group_before events ev n g refl at));
  }
    where
      unspawned : Unspawned ≡ Ready → ⊥
      unspawned q = cc
