-- E10, E16 and E17: what an editor is due is asked of it behind its own message, which it still runs behind.
use Rattle.std.proofs.Common.{◌≡◌, ℕ, zero, suc, ◌<◌, Bool, true, false, ◌&&◌, List, [], ◌∷◌, ◌++◌, append-nil, codes, decimal, get_or, length, nat_eq, if◌then◌else◌, Option, None, Some, refl, sym, subst, ◌∙◌, ap, arith}
use Rattle.std.specs.List.{AllByRecursion}
use Rattle.std.specs.Option.{option_and_then}
use Rattle.std.proofs.lemmas.Bool.{and_parts}
use Rattle.std.proofs.lemmas.Bool.Decides.{nat_tests}
use Rattle.mux_history.specs.declared.cause.Cause.TheVariants.{FromEditor}
use Rattle.mux_history.specs.declared.out.Out.{Out}
use Rattle.mux_history.specs.declared.out.Out.TheVariants.{CloseEditor, EndServer, Spawn, ToEditor, ToServer}
use Rattle.rpc_message.specs.Message.{message_of}
use Rattle.rpc_message.specs.Texts.{with_id_text}
use Rattle.event_model.specs.declared.phase.Phase.TheVariants.{Down, Running}
use Rattle.event_model.specs.Does.{Does, Done}
use Rattle.event_model.specs.Event.{Event, behind, heard, requests, said, with_cause}
use Rattle.event_model.specs.Phases.{Desk, desk_hears, desk_of, is_running}
use Rattle.event_model.specs.Row.{choose, each, nothing, on, outs, send}
use Rattle.event_model.specs.Settings.{Settings}
use Rattle.event_model.specs.Spawns.{start_of}
use Rattle.event_model.specs.Stages.{is_ready, life_of}
use Rattle.event_model.proofs.Frames.{never}
use Rattle.event_model.proofs.Turns.{behind_more}
use Rattle.refresh_debts.specs.declared.debts.Debt.{Debt}
use Rattle.group_words.specs.Houses.{home_of}
use Rattle.group_rows.specs.AskRows.{debts_at, debts_row}
use Rattle.group_rows.specs.Asks.{Asking, asking_of, has_number, next_ask, serves}
use Rattle.group_rows.specs.Debts.{IsDebt, debts_of, goes_forth, goes_to}
use Rattle.group_rows.specs.Rows.{editor_row, row_of}
use Rattle.group_rows.proofs.DebtsKept.{debts_kept, forth_shutdown}
use Rattle.group_rows.proofs.Onward.{IsOnward, goes_onward}
use Rattle.group_rows.proofs.Versions.{AllMeant}
use Rattle.mux_turns.specs.group_facts.proofs.AskingRows.{running_is, still_runs, work_sent, work_told}
use Rattle.mux_turns.specs.group_facts.proofs.Asks.{asking_more}
use Rattle.mux_turns.specs.mux_facts.proofs.Folds.{desk_more}
use Rattle.mux_tables.specs.Stands.{start_for}
use Rattle.mux_debts.specs.Going.{CanPay, IsDue, IsDueOf, pays}

module _ (settings : Settings) (e : ℕ) where
  -- each ask leaves it so
  told_pays : (text : List ℕ) (events : List Event) → CanPay settings e events → CanPay settings e (events ++ said (ToEditor e text) ∷ [])
  told_pays text events k = record {
    runs = still_runs events e text e k.runs;
    idle = λ t. ap (λ (x : Asking). x.asker) (asking_more settings t events (said (ToEditor e text))) ∙ ((work_told settings t events (asking_of settings t events) e text (message_of text)).0 ∙ k.idle t);
  }

  one_pays : (d : Debt) (events : List Event) → CanPay settings e events → CanPay settings e (behind events (outs (pays e d) events))
  one_pays d events k = go (has_number e events)
    where
      text : List ℕ
      text = with_id_text d.body (decimal (next_ask e events))

      go : (b : Bool) → CanPay settings e (behind events (outs (choose b (send (ToEditor e text)) nothing) events))
      go true = told_pays text events k
      go false = subst (CanPay settings e) (sym (append-nil events)) k

  pub each_pays : (ds : List Debt) (events : List Event) → CanPay settings e events → CanPay settings e (behind events (outs (each (pays e) ds) events))
  each_pays [] events k = subst (CanPay settings e) (sym (append-nil events)) k
  each_pays (d ∷ ds) events k =
      let xs = outs (pays e d) events in
      subst (CanPay settings e) (sym (behind_more events xs (outs (each (pays e) ds) (behind events xs)))) (each_pays ds (behind events xs) (one_pays d events k))

  pub pays_behind : (base : List Event) (xs ys : List Out) (ds : List Debt) → ys ≡ xs ++ outs (each (pays e) ds) (behind base xs) → CanPay settings e (behind base xs) → CanPay settings e (behind base ys)
  pays_behind base xs ys ds is k = subst (CanPay settings e) (sym (ap (behind base) is ∙ behind_more base xs (outs (each (pays e) ds) (behind base xs)))) (each_pays ds (behind base xs) k)

  -- so does each body to a start
  sent_pays : (n : ℕ) (text : List ℕ) (events : List Event) → CanPay settings e events → CanPay settings e (events ++ said (ToServer n text) ∷ [])
  sent_pays n text events k = record {
    runs = ap (λ (d : Desk). d.phase) (desk_more e events (said (ToServer n text))) ∙ k.runs;
    idle = λ t. ap (λ (x : Asking). x.asker) (asking_more settings t events (said (ToServer n text))) ∙ ((work_sent settings t events (asking_of settings t events) n text (message_of text)).0 ∙ k.idle t);
  }

  pub onward_pays : (xs : List Out) (events : List Event) → AllByRecursion IsOnward xs → CanPay settings e events → CanPay settings e (behind events xs)
  onward_pays [] events all k = subst (CanPay settings e) (sym (append-nil events)) k
  onward_pays (ToServer n text ∷ xs) events all k = subst (CanPay settings e) (sym (behind_more events (ToServer n text ∷ []) xs)) (onward_pays xs (behind events (ToServer n text ∷ [])) all.1 (sent_pays n text events k))
  onward_pays (ToEditor n text ∷ xs) events all k = absurd all.0
  onward_pays (Spawn n g ∷ xs) events all k = absurd all.0
  onward_pays (CloseEditor n ∷ xs) events all k = absurd all.0
  onward_pays (EndServer n ∷ xs) events all k = absurd all.0

-- of a list one
pub one_debt : (ds : List Debt) (i : ℕ) (d : Debt) → AllByRecursion IsDebt ds → i < length ds → IsDebt (get_or ds i d)
one_debt [] i d all less = absurd (omega (arith, less))
one_debt (x ∷ ds) zero d all less = all.0
one_debt (x ∷ ds) (suc i) d all less = one_debt ds i d all.1 (omega (arith, less))

-- Behind the row of the editor's message

module _ (settings : Settings) (before : List Event) (e : ℕ) (body : List ℕ) where
  abbrev base : List Event
  base = with_cause before (FromEditor e body)

  starts_pays : (s : ℕ) → goes_to settings s before e body (message_of body) ≡ true → CanPay settings e base
  starts_pays s goes =
      let halves = and_parts (is_running (desk_of e before).phase && (serves settings before s e && is_ready (life_of s before).stage)) (goes_forth settings s before e body (message_of body)) goes in
      let runs = (and_parts (is_running (desk_of e before).phase) (serves settings before s e && is_ready (life_of s before).stage) halves.0).0 in
      record {
        runs = ap (λ (d : Desk). d.phase) (desk_more e before (heard (FromEditor e body)))
            ∙ (ap (λ b. (if b then desk_hears (desk_of e before).phase (desk_of e before).initialize body (message_of body) else desk_of e before).phase) itself
            ∙ (ap (λ p. (desk_hears p (desk_of e before).initialize body (message_of body)).phase) (running_is settings before (desk_of e before).phase runs)
            ∙ ap (λ b. if b then Down else Running) (stays (requests (codes "shutdown") (message_of body)) refl halves.1)));
        idle = λ t. ap (λ (x : Asking). x.asker) (asking_more settings t before (heard (FromEditor e body)));
      }
    where
      itself : nat_eq e e ≡ true
      itself = grind (arith, nat_tests)

      stays : (b : Bool) → requests (codes "shutdown") (message_of body) ≡ b → goes_forth settings s before e body (message_of body) ≡ true → requests (codes "shutdown") (message_of body) ≡ false
      stays true shut forth = never (sym forth ∙ forth_shutdown settings before e body (message_of body) shut s)
      stays false other forth = other

  can_pay : (s : ℕ) (xs : List Out) → goes_to settings s before e body (message_of body) ≡ true → xs ≡ outs (editor_row settings before e body) (behind base []) → CanPay settings e (behind base xs)
  can_pay s xs goes is = onward_pays settings e xs base (subst (AllByRecursion IsOnward) (sym is) (goes_onward settings s before e body (message_of body) goes (behind base []))) (starts_pays s goes)

  -- what is due comes of a message that goes on, and each was asked for by a start
  pub due_pays : (due : List Debt) (xs : List Out) → IsDue settings before e body due → xs ≡ outs (editor_row settings before e body) (behind base []) → 0 < length due → CanPay settings e (behind base xs)
  due_pays due xs is sent some = at (start_for settings e before) is
    where
      by : (s : ℕ) (b : Bool) → goes_to settings s before e body (message_of body) ≡ b → due ≡ (if b then debts_of settings s e before else []) → CanPay settings e (behind base xs)
      by s true goes same = can_pay s xs goes sent
      by s false off none = let empty : length due ≡ 0 = ap length none in absurd (omega (arith, empty, some))

      at : (o : Option ℕ) → IsDueOf settings before e body due o → CanPay settings e (behind base xs)
      at None none = let empty : length due ≡ 0 = ap length none in absurd (omega (arith, empty, some))
      at (Some s) same = by s (goes_to settings s before e body (message_of body)) refl same

  pub due_debts : AllMeant before → (due : List Debt) → IsDue settings before e body due → AllByRecursion IsDebt due
  due_debts meant due is = at (start_for settings e before) is
    where
      by : (s : ℕ) (b : Bool) → AllByRecursion IsDebt (if b then debts_of settings s e before else [])
      by s true = debts_kept settings s e before meant
      by s false = tt

      at : (o : Option ℕ) → IsDueOf settings before e body due o → AllByRecursion IsDebt due
      at None none = subst (AllByRecursion IsDebt) (sym none) tt
      at (Some s) same = subst (AllByRecursion IsDebt) (sym same) (by s (goes_to settings s before e body (message_of body)))

  -- the row asks it
  due_row : (due : List Debt) → IsDue settings before e body due → debts_row settings before e body (message_of body) ≡ each (pays e) due
  due_row due is = at_home (home_of settings e before) is
    where
      at_start : (o : Option ℕ) → IsDueOf settings before e body due o → on o nothing (debts_at settings before e body (message_of body)) ≡ each (pays e) due
      at_start None none = sym (ap (each (pays e)) none)
      at_start (Some s) same = sym (ap (each (pays e)) same)

      at_home : (o : Option ℕ) → IsDueOf settings before e body due (option_and_then (λ g. start_of g before) o) → on o nothing (λ g. on (start_of g before) nothing (debts_at settings before e body (message_of body))) ≡ each (pays e) due
      at_home None none = sym (ap (each (pays e)) none)
      at_home (Some g) is = at_start (start_of g before) is

  -- the whole row
  pub whole_row : {K : Type 0} (Stands : K → List Event → Type 0) (due : List Debt) (u v : K) (xs ys : List Out) → IsDue settings before e body due → Done Stands (editor_row settings before e body) base [] u xs → Does Stands (each (pays e) due) base u xs v ys
      → Done Stands (row_of settings before (FromEditor e body)) base [] v ys
  whole_row Stands due u v xs ys is first asks = record {
    outs = last.outs ∙ (ap (λ zs. zs ++ outs (each (pays e) due) (behind base zs)) first.outs
        ∙ (ap (λ es. here ++ outs (each (pays e) due) es) (behind_more base [] here)
        ∙ ap (λ r. here ++ outs r (behind (behind base []) here)) (sym (due_row due is))));
    stands = last.stands;
  }
    where
      here : List Out
      here = outs (editor_row settings before e body) (behind base [])

      last : Done Stands (each (pays e) due) base xs v ys
      last = asks.done first.stands

  -- of a message that isn't one nothing is due
  pub whole_alone : {K : Type 0} (Stands : K → List Event → Type 0) (u : K) (xs : List Out) → ((s : ℕ) → goes_to settings s before e body (message_of body) ≡ false) → Done Stands (editor_row settings before e body) base [] u xs → Done Stands (row_of settings before (FromEditor e body)) base [] u xs
  whole_alone Stands u xs off first = record {
    outs = first.outs ∙ (sym (append-nil here) ∙ ap (λ r. here ++ outs r (behind (behind base []) here)) (sym (due_row [] none)));
    stands = first.stands;
  }
    where
      here : List Out
      here = outs (editor_row settings before e body) (behind base [])

      at : (o : Option ℕ) → IsDueOf settings before e body [] o
      at None = refl
      at (Some s) = sym (ap (λ b. if b then debts_of settings s e before else []) (off s))

      none : IsDue settings before e body []
      none = at (start_for settings e before)
