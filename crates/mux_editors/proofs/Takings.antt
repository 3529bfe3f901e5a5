-- What starts asked an editor to take, by what holds of every legal history.
use Rattle.std.proofs.Common.{◌≡◌, ℕ, ◌^◌, ◌≤◌, Bool, true, false, not, ◌&&◌, List, [], ◌∷◌, ◌++◌, cond, codes, filter, flat_map, nat_eq, if◌then◌else◌, refl, ap, sym, subst, ◌∙◌, arith}
use Rattle.std.specs.Prelude.{Option, None, Some}
use Rattle.std.specs.List.{AllByRecursion}
use Rattle.std.proofs.lemmas.Bool.Decides.{nat_tests}
use Rattle.rpc_message.specs.Message.{Id, Message}
use Rattle.mux_history.specs.declared.cause.Cause.TheVariants.{FromEditor}
use Rattle.event_model.specs.declared.stage.Stage.TheVariants.{Ended}
use Rattle.event_model.specs.Event.{Event, requests}
use Rattle.event_model.specs.Phases.{desk_of, is_running, is_served}
use Rattle.event_model.specs.Requests.{answered_id}
use Rattle.event_model.specs.Settings.{Settings}
use Rattle.event_model.specs.Spawns.{start_of, starts_of}
use Rattle.event_model.specs.Stages.{is_ready, life_of}
use Rattle.event_model.proofs.Frames.{never}
use Rattle.mux_turns.specs.group_facts.specs.Facts.{Meant}
use Rattle.mux_turns.specs.group_facts.specs.Settled.{HasTaken, Settled}
use Rattle.group_rows.specs.Created.{Created, Taking, answered, created_of, is_answered, is_at, left, settled, spoken}
use Rattle.group_rows.specs.Forwarded.{names}
use Rattle.group_words.specs.Houses.{home_of}
use Rattle.mux_tables.specs.mux_tokens.specs.Stands.{AreFresh, TakesNone, TakesOne}
use Rattle.mux_tables.specs.declared.tables.Tables.{Tables}
use Rattle.mux_tables.specs.Documents.{DocumentsStand, nothing_owed}
use Rattle.mux_tables.specs.Stands.{Stands}
use Rattle.mux_turns.proofs.Offering.{few_starts, no_starts, small_heard}
use Rattle.mux_editors.specs.Running.{AreUnasked, CanBegin}
use Rattle.mux_editors.proofs.Taking.{begins_unrun}
use Rattle.mux_editors.proofs.Unopened.{unopened}
use Rattle.mux_tables.proofs.Lasts.{same_place}

-- An editor that wasn't asked to take anything

kept_all : (e : ℕ) (cs : List Taking) → AreUnasked e cs → filter (λ c. not (is_at e c)) cs ≡ cs
kept_all e [] h = refl
kept_all e (c ∷ cs) h = ap (λ b. cond (not b) (c ∷ filter (λ d. not (is_at e d)) cs) (filter (λ d. not (is_at e d)) cs)) h.0 ∙ ap (λ ds. c ∷ ds) (kept_all e cs h.1)

and_none : (b : Bool) → (b && false) ≡ false
and_none true = refl
and_none false = refl

unanswered_all : (e : ℕ) (id : Option Id) (m : Message) (x : Created) (cs : List Taking) → AreUnasked e cs → flat_map (λ c. if is_answered e id c then settled m x c else c ∷ []) cs ≡ cs
unanswered_all e id m x [] h = refl
unanswered_all e id m x (c ∷ cs) h =
    ap (λ b. (if not c.accepted && (b && names id c.number) then settled m x c else c ∷ []) ++ flat_map (λ d. if is_answered e id d then settled m x d else d ∷ []) cs) h.0
    ∙ ap (λ b. (if b then settled m x c else c ∷ []) ++ flat_map (λ d. if is_answered e id d then settled m x d else d ∷ []) cs) (and_none (not c.accepted))
    ∙ ap (λ ds. c ∷ ds) (unanswered_all e id m x cs h.1)

pub away_spoken : (e : ℕ) (m : Message) (x : Created) → AreUnasked e x.takings → spoken e m x ≡ x
away_spoken e m x h = go (requests (codes "shutdown") m)
  where
    go : (b : Bool) → (if b then left e x else answered e m x) ≡ x
    go true = ap (λ cs. record { next = x.next; tokens = x.tokens; takings = cs }) (kept_all e x.takings h)
    go false = ap (λ cs. record { next = x.next; tokens = x.tokens; takings = cs }) (unanswered_all e (answered_id m) m x x.takings h)

away_fresh : (e n k : ℕ) (cs : List Taking) → AreUnasked e cs → AreFresh e n k cs
away_fresh e n k [] h = tt
away_fresh e n k (c ∷ cs) h = ((ap (λ b. b && nat_eq c.number n) h.0, ap (λ b. b && nat_eq c.token k) h.0), away_fresh e n k cs h.1)

-- By what is settled

module _ (settings : Settings) (before : List Event) (settled : Settled settings before) (t : Tables) (st : Stands settings t before) where
  few : starts_of before ≤ 2 ^ 64
  few = few_starts settings t before st

  away_where : (e s : ℕ) → ((c : Taking) → HasTaken settings before s c → c.editor ≡ e → ⊥) → AreUnasked e (created_of settings s before).takings
  away_where e s other = go (created_of settings s before).takings (settled.takings few s)
    where
      one : (c : Taking) → HasTaken settings before s c → (b : Bool) → nat_eq c.editor e ≡ b → b ≡ false
      one c h true is = absurd (other c h (let same : c.editor ≡ e = grind (arith, nat_tests) in same))
      one c h false is = refl

      go : (cs : List Taking) → AllByRecursion (HasTaken settings before s) cs → AreUnasked e cs
      go [] h = tt
      go (c ∷ cs) h = (one c h.0 (nat_eq c.editor e) refl, go cs h.1)

  unrun_away : (e : ℕ) → is_running (desk_of e before).phase ≡ false → (s : ℕ) → AreUnasked e (created_of settings s before).takings
  unrun_away e unrun s = away_where e s (λ c h is. never (sym (ap is_running h.running) ∙ (ap (λ n. is_running (desk_of n before).phase) is ∙ unrun)))

  unserved_away : (e : ℕ) → is_served (desk_of e before).phase ≡ false → (s : ℕ) → AreUnasked e (created_of settings s before).takings
  unserved_away e unserved s = away_where e s (λ c h is. never (sym (ap is_served h.running) ∙ (ap (λ n. is_served (desk_of n before).phase) is ∙ unserved)))

  -- an editor that isn't served takes nothing
  pub takes_unserved : (e : ℕ) (m : Message) → is_served (desk_of e before).phase ≡ false → TakesNone settings e m before
  takes_unserved e m unserved s = away_spoken e m (created_of settings s before) (unserved_away e unserved s)

  -- nor does one that doesn't run; so nothing that it is asked then was asked before
  pub takes_unrun : (e : ℕ) (m : Message) → is_running (desk_of e before).phase ≡ false → TakesNone settings e m before
  takes_unrun e m unrun s = away_spoken e m (created_of settings s before) (unrun_away e unrun s)

  pub fresh_unrun : (e n k s : ℕ) → is_running (desk_of e before).phase ≡ false → AreFresh e n k (created_of settings s before).takings
  fresh_unrun e n k s unrun = away_fresh e n k (created_of settings s before).takings (unrun_away e unrun s)

  -- one of a group takes what the group's last start asks alone
  pub takes_by_one : (e g s : ℕ) (m : Message) → home_of settings e before ≡ Some g → start_of g before ≡ Some s → TakesOne settings s e m before
  takes_by_one e g s m home last n away = away_spoken e m (created_of settings n before) (away_where e n other)
    where
      other : (c : Taking) → HasTaken settings before n c → c.editor ≡ e → ⊥
      other c h is = never (sym same ∙ away)
        where
          group : Some h.group ≡ Some g
          group = sym h.kept ∙ sym h.home ∙ ap (λ k. home_of settings k before) is ∙ home

          lasts : start_of g before ≡ Some n
          lasts = ap (λ k. start_of k before) (sym (same_place group)) ∙ h.last

          place : s ≡ n
          place = same_place (sym last ∙ lasts)

          same : nat_eq n s ≡ true
          same = grind (arith, nat_tests)

  -- and nothing where the group has no start, or the editor no group
  pub takes_unstarted : (e g : ℕ) (m : Message) → home_of settings e before ≡ Some g → start_of g before ≡ None → TakesNone settings e m before
  takes_unstarted e g m home none n = away_spoken e m (created_of settings n before) (away_where e n other)
    where
      clash : {s : ℕ} → ◌≡◌ {A = Option ℕ} None (Some s) → ⊥
      clash q = cc

      other : (c : Taking) → HasTaken settings before n c → c.editor ≡ e → ⊥
      other c h is = clash (sym none ∙ ap (λ k. start_of k before) (sym (same_place group)) ∙ h.last)
        where
          group : Some h.group ≡ Some g
          group = sym h.kept ∙ sym h.home ∙ ap (λ k. home_of settings k before) is ∙ home

  pub takes_homeless : (e : ℕ) (m : Message) → home_of settings e before ≡ None → TakesNone settings e m before
  takes_homeless e m none n = away_spoken e m (created_of settings n before) (away_where e n (λ c h is. clash (sym none ∙ ap (λ k. home_of settings k before) (sym is) ∙ h.home ∙ h.kept)))
    where
      clash : {s : ℕ} → ◌≡◌ {A = Option ℕ} None (Some s) → ⊥
      clash q = cc

  -- a start that isn't ready asks nobody, nor does one whose program ended
  pub unready_untaken : (s : ℕ) → is_ready (life_of s before).stage ≡ false → (created_of settings s before).takings ≡ []
  unready_untaken s unready = go (created_of settings s before).takings (settled.takings few s)
    where
      go : (cs : List Taking) → AllByRecursion (HasTaken settings before s) cs → cs ≡ []
      go [] h = refl
      go (c ∷ cs) h = never (sym (ap is_ready h.0.ready) ∙ unready)

  pub ended_untaken : (s : ℕ) → (life_of s before).stage ≡ Ended → (created_of settings s before).takings ≡ []
  ended_untaken s over = unready_untaken s (ap is_ready over)

  -- so where that start ended nothing is taken
  pub takes_ended : (e g s : ℕ) (m : Message) → home_of settings e before ≡ Some g → start_of g before ≡ Some s → (life_of s before).stage ≡ Ended → TakesNone settings e m before
  takes_ended e g s m home last over n = go (nat_eq n s) refl
    where
      go : (b : Bool) → nat_eq n s ≡ b → spoken e m (created_of settings n before) ≡ created_of settings n before
      go true is = let same : n ≡ s = grind (arith, nat_tests) in away_spoken e m (created_of settings n before) (subst (AreUnasked e) (sym (ended_untaken n (ap (λ k. (life_of k before).stage) same ∙ over))) tt)
      go false away = takes_by_one e g s m home last n away

-- what an editor may be asked where it begins to run
pub can_begin : (settings : Settings) (before : List Event) → Meant before → Settled settings before → (t : Tables) (e : ℕ) (body : List ℕ) → Stands settings t before → DocumentsStand settings nothing_owed t before → CanBegin settings before e body
can_begin settings before meant settled t e body st ds = record {
  unasked = λ begins s. unrun_away settings before settled t st e (begins_unrun (desk_of e before).phase begins) s;
  unopened = λ begins s ready u. unopened settings t before e st ds (begins_unrun (desk_of e before).phase begins) s ready u;
  meant = meant;
  small = small_heard settings before (no_starts settings t before st) settled (few_starts settings t before st) (FromEditor e body);
}
