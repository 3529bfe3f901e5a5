-- Where an editor that is slow leaves, no other one becomes slow, and it isn't any more.
use Rattle.std.proofs.Common.{◌≡◌, ℕ, Bool, true, false, ◌&&◌, List, [], ◌∷◌, ◌++◌, map, nat_lt, refl, sym, ◌∙◌, ap, subst, append-nil, append_assoc}
use Rattle.std.specs.List.{AllByRecursion}
use Rattle.std.proofs.lemmas.Bool.{and_parts}
use Rattle.event_model.specs.declared.phase.Phase.{Phase}
use Rattle.event_model.specs.declared.phase.Phase.TheVariants.{Gone}
use Rattle.event_model.specs.Event.{Event, behind, said}
use Rattle.event_model.specs.Phases.{Desk, backlog_behind, backlog_of, desk_of, editors_behind, is_there, phase_closed}
use Rattle.event_model.specs.Row.{choose, each, nothing, outs, send, ◌⨾◌}
use Rattle.event_model.specs.Settings.{Settings}
use Rattle.event_model.proofs.Frames.{never, one_more}
use Rattle.mux_facts.proofs.Folds.{desk_more}
use Rattle.mux_facts.proofs.Keeps.{behind_both, behind_nothing}
use Rattle.mux_facts.proofs.Words.{same_number}
use Rattle.mux_history.specs.declared.out.Out.{Out}
use Rattle.mux_history.specs.declared.out.Out.TheVariants.{CloseEditor}
use Rattle.group_rows.specs.Leaves.{leave_row}
use Rattle.group_facts.specs.SlowRows.{close_slow, is_slow}
use Rattle.group_facts.proofs.SlowRow.{parting, parting_all, parting_behind}
use Rattle.group_facts.proofs.StopEntry.{there_outs}
use Rattle.mux_causes.specs.Backlogs.{BacklogsStand}
use Rattle.mux_causes.proofs.Counting.{count_kept}

-- an out that sends no editor anything
abbrev pub IsCalm : Out → Type 0
IsCalm out = ((k n : ℕ) → backlog_behind k n (said out) ≡ n) × ((n : ℕ) → editors_behind n (said out) ≡ n)

pub calm_bytes : (k : ℕ) (events : List Event) (xs : List Out) → AllByRecursion IsCalm xs → backlog_of k (behind events xs) ≡ backlog_of k events
calm_bytes k events [] h = ap (backlog_of k) (append-nil events)
calm_bytes k events (x ∷ xs) h = ap (backlog_of k) (sym (append_assoc events (said x ∷ []) (map said xs)))
    ∙ (calm_bytes k (events ++ said x ∷ []) xs h.1 ∙ (one_more (backlog_behind k) _ _ events (said x) refl ∙ h.0.0 k (backlog_of k events)))

closed_off : (phase : Phase) → is_there (phase_closed phase) ≡ false
closed_off Gone = refl
closed_off other = refl

both_on : (a b : Bool) → a ≡ true → b ≡ true → (a && b) ≡ true
both_on true b h k = k
both_on false b h k = never (sym h)

first_off : (a b : Bool) → a ≡ false → (a && b) ≡ false
first_off true b h = never h
first_off false b h = refl

module _ (settings : Settings) where
  -- the places behind one editor that may be slow
  abbrev pub next : List Event → ℕ → List Event
  next place e = behind place (outs (close_slow settings e) place)

  pub close_calm : (place : List Event) (e : ℕ) → AllByRecursion IsCalm (outs (close_slow settings e) place)
  close_calm place e = go (is_slow settings e place)
    where
      go : (b : Bool) → AllByRecursion IsCalm (outs (choose b (send (CloseEditor e) ⨾ leave_row settings place e) nothing) place)
      go true = parting_all settings IsCalm (λ n. ((λ k m. refl), (λ m. refl))) (λ s body. ((λ k m. refl), (λ m. refl))) place e
      go false = tt

  -- none becomes slow
  pub slow_falls : (place : List Event) (e k : ℕ) → is_slow settings k (next place e) ≡ true → is_slow settings k place ≡ true
  slow_falls place e k h =
      let p = and_parts (is_there (desk_of k (next place e)).phase) (nat_lt settings.limits.backlog (backlog_of k (next place e))) h in
      both_on (is_there (desk_of k place).phase) (nat_lt settings.limits.backlog (backlog_of k place)) (there_outs k place (outs (close_slow settings e) place) p.0)
      (ap (nat_lt settings.limits.backlog) (sym (calm_bytes k place (outs (close_slow settings e) place) (close_calm place e))) ∙ p.1)

  gone_there : (place : List Event) (e : ℕ) → is_there (desk_of e (behind place (parting settings place e))).phase ≡ false
  gone_there place e = parting_behind settings (λ z. is_there (desk_of e z).phase ≡ false) place e (go (is_there (desk_of e (behind closed rest)).phase) refl)
    where
      closed : List Event
      closed = place ++ said (CloseEditor e) ∷ []

      rest : List Out
      rest = outs (leave_row settings place e) closed

      off : is_there (desk_of e closed).phase ≡ false
      off = ap (λ (d : Desk). is_there d.phase) (desk_more e place (said (CloseEditor e))) ∙ rw (same_number e) (closed_off (desk_of e place).phase)

      go : (b : Bool) → is_there (desk_of e (behind closed rest)).phase ≡ b → b ≡ false
      go true on = never (sym (there_outs e closed rest on) ∙ off)
      go false h = refl

  -- and the one isn't any more
  pub quick_now : (place : List Event) (e : ℕ) → is_slow settings e (next place e) ≡ false
  quick_now place e = go (is_slow settings e place) refl
    where
      go : (b : Bool) → is_slow settings e place ≡ b → is_slow settings e (behind place (outs (choose b (send (CloseEditor e) ⨾ leave_row settings place e) nothing) place)) ≡ false
      go true slow = first_off (is_there (desk_of e (behind place (parting settings place e))).phase) (nat_lt settings.limits.backlog (backlog_of e (behind place (parting settings place e)))) (gone_there place e)
      go false quick = ap (is_slow settings e) (behind_nothing place) ∙ quick

  -- one that isn't slow stays
  pub quick_stays : (place : List Event) (e : ℕ) → is_slow settings e place ≡ false → outs (close_slow settings e) place ≡ []
  quick_stays place e quick = ap (λ b. outs (choose b (send (CloseEditor e) ⨾ leave_row settings place e) nothing) place) quick

  -- behind some of them the counts are those that were before
  pub calm_count : (counts : List ℕ) (events : List Event) (xs : List Out) → AllByRecursion IsCalm xs → BacklogsStand counts events → BacklogsStand counts (behind events xs)
  calm_count counts events [] h s = subst (BacklogsStand counts) (sym (append-nil events)) s
  calm_count counts events (x ∷ xs) h s = subst (BacklogsStand counts) (append_assoc events (said x ∷ []) (map said xs)) (calm_count counts (events ++ said x ∷ []) xs h.1 (count_kept counts events (said x) h.0.1 h.0.0 s))

  pub each_count : (counts : List ℕ) (es : List ℕ) (place : List Event) → BacklogsStand counts place → BacklogsStand counts (behind place (outs (each (close_slow settings) es) place))
  each_count counts [] place s = subst (BacklogsStand counts) (sym (append-nil place)) s
  each_count counts (e ∷ es) place s = subst (BacklogsStand counts) (sym (behind_both place (outs (close_slow settings e) place) (outs (each (close_slow settings) es) (next place e))))
      (each_count counts es (next place e) (calm_count counts place (outs (close_slow settings e) place) (close_calm place e) s))
