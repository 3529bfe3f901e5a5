-- What starts asked of an editor, by what holds of every legal history.
use Rattle.std.proofs.Common.{◌≡◌, ℕ, Bool, true, false, ◌&&◌, List, [], ◌∷◌, refl, ap, sym, ◌∙◌, nat_eq, arith}
use Rattle.std.specs.Prelude.{Some}
use Rattle.std.specs.List.{AllByRecursion}
use Rattle.std.proofs.lemmas.Bool.Decides.{nat_tests}
use Rattle.rpc_message.specs.Message.{Message}
use Rattle.event_model.specs.Event.{Event}
use Rattle.event_model.specs.Phases.{desk_of, is_served}
use Rattle.event_model.specs.Requests.{answered_id}
use Rattle.event_model.specs.Settings.{Settings}
use Rattle.event_model.specs.Spawns.{start_of}
use Rattle.event_model.proofs.Frames.{never}
use Rattle.mux_starts.specs.group_facts.specs.Settled.{HasSeat, Settled}
use Rattle.mux_starts.specs.group_facts.proofs.StopDown.{ready_unstopped}
use Rattle.group_rows.specs.Asks.{Ask, asks_of, is_seated}
use Rattle.group_rows.specs.Forwarded.{names}
use Rattle.group_rows.specs.StopRows.{stopped}
use Rattle.group_words.specs.Houses.{home_of}
use Rattle.mux_starts.specs.mux_tables.specs.Stands.{AnswersNone, AnswersOne}
use Rattle.mux_starts.specs.mux_tables.proofs.Lasts.{same_place}

module _ (settings : Settings) (before : List Event) (e : ℕ) (m : Message) (settled : Settled settings before) where
  same_editor : (a : Ask) → nat_eq a.editor e ≡ true → a.editor ≡ e
  same_editor a h = grind (arith, nat_tests)

  -- another editor, or one that isn't asked
  unseated : (a : Ask) → (a.editor ≡ e → ⊥) → is_seated e (answered_id m) a ≡ false
  unseated a away = go (nat_eq a.editor e) refl
    where
      go : (b : Bool) → nat_eq a.editor e ≡ b → (b && names (answered_id m) a.number) ≡ false
      go true is = absurd (away (same_editor a is))
      go false is = refl

  -- an editor that isn't served was asked nothing
  pub asked_none : is_served (desk_of e before).phase ≡ false → AnswersNone settings e m before
  asked_none unserved s ready = go (asks_of settings s before) (settled.asks (ready_unstopped settings before settled s ready) s)
    where
      go : (asked : List Ask) → AllByRecursion (HasSeat settings before s) asked → AllByRecursion (λ (a : Ask). is_seated e (answered_id m) a ≡ false) asked
      go [] h = tt
      go (a ∷ asked) h = (unseated a (λ is. never (sym (ap is_served h.0.running) ∙ (ap (λ n. is_served (desk_of n before).phase) is ∙ unserved))), go asked h.1)

-- one that is served was asked by the last start of its group alone
pub asked_by_one : (settings : Settings) (before : List Event) (e g s : ℕ) (m : Message) → stopped before ≡ false → Settled settings before → home_of settings e before ≡ Some g → start_of g before ≡ Some s → AnswersOne settings s e m before
asked_by_one settings before e g s m on settled home last n away = go (asks_of settings n before) (settled.asks on n)
  where
    -- the group of what was asked is this one, so that its last start is n
    other : (a : Ask) → HasSeat settings before n a → a.editor ≡ e → ⊥
    other a h is = never (sym same ∙ away)
      where
        group : Some h.group ≡ Some g
        group = sym h.kept ∙ sym h.home ∙ ap (λ k. home_of settings k before) is ∙ home

        lasts : start_of g before ≡ Some n
        lasts = ap (λ k. start_of k before) (sym (same_place group)) ∙ h.last

        place : s ≡ n
        place = same_place (sym last ∙ lasts)

        same : nat_eq s n ≡ true
        same = grind (arith, nat_tests)

    go : (asked : List Ask) → AllByRecursion (HasSeat settings before n) asked → AllByRecursion (λ (a : Ask). is_seated e (answered_id m) a ≡ false) asked
    go [] h = tt
    go (a ∷ asked) h = (unseated settings before e m settled a (other a h.0), go asked h.1)
