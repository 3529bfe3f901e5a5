-- What goes to an editor as it begins to run, and behind its messages: to no start.
use Rattle.std.proofs.Common.{ℕ, List, [], ◌∷◌}
use Rattle.rpc_message.specs.Message.{Message}
use Rattle.event_model.specs.Event.{Event, behind}
use Rattle.event_model.specs.Row.{Row, each, nothing, on, outs}
use Rattle.event_model.specs.Settings.{Settings}
use Rattle.event_model.specs.Spawns.{start_of}
use Rattle.mux_facts.proofs.Reasons.{Because, by_nothing, by_then, by_choose, by_on}
use Rattle.group_rows.specs.AskRows.{ask, debts_at, debts_row, run_at, run_row}
use Rattle.group_rows.specs.Asks.{Parked, parked_of}
use Rattle.group_rows.specs.Created.{Token, created_of}
use Rattle.group_rows.specs.CreatedRows.{create_text, offer}
use Rattle.group_rows.specs.Debts.{debts_due}
use Rattle.group_rows.specs.refresh_debts.specs.declared.debts.Debt.{Debt}
use Rattle.group_rows.specs.diagnostics_route.specs.declared.last_list.LastList.{LastList}
use Rattle.group_rows.specs.ListRows.{show_full}
use Rattle.group_rows.specs.Lists.{lists_of}
use Rattle.group_rows.specs.Live.{live_of, register_text}
use Rattle.group_rows.specs.LiveRows.{has_some, restore}
use Rattle.rest_laws.specs.Silent.{IsSilent}
use Rattle.rest_laws.proofs.Quiets.{quiet_any, quiet_ask, quiet_call, quiet_full}

-- L2: an editor begins to run
module _ (t : ℕ) (settings : Settings) (before : List Event) where
  abbrev Quiet : List Event → Row → Type 0
  Quiet events row = Because (λ places out. IsSilent t out) events row

  quiet_parked : (e : ℕ) (ps : List Parked) (events : List Event) → Quiet events (each (λ (p : Parked). ask p.body e) ps)
  quiet_parked e [] events = by_nothing
  quiet_parked e (p ∷ ps) events = by_then (quiet_ask t settings before p.body e events) (quiet_parked e ps (behind events (outs (ask p.body e) events)))

  quiet_offers : (s e : ℕ) (ts : List Token) (events : List Event) → Quiet events (each (offer s e) ts)
  quiet_offers s e [] events = by_nothing
  quiet_offers s e (k ∷ ts) events = by_then (quiet_call t settings before (create_text s k.number) e events) (quiet_offers s e ts (behind events (outs (offer s e k) events)))

  quiet_shows : (s e : ℕ) (ls : List LastList) (events : List Event) → Quiet events (each (show_full settings before s e) ls)
  quiet_shows s e [] events = by_nothing
  quiet_shows s e (l ∷ ls) events = by_then (quiet_full t settings before before s e l events) (quiet_shows s e ls (behind events (outs (show_full settings before s e l) events)))

  quiet_run_at : (e s : ℕ) (events : List Event) → Quiet events (run_at settings before e s)
  quiet_run_at e s events = by_choose (λ ready. by_then (quiet_any t settings before (has_some (live_of settings s before)) (register_text (live_of settings s before)) e events)
      (by_then (quiet_offers s e (created_of settings s before).tokens (behind events (outs (restore settings before e s) events))) (by_then (quiet_shows s e (lists_of s before) _) (quiet_parked e (parked_of settings s before) _)))) (λ off. by_nothing)

  quiet_run_in : (e g : ℕ) (events : List Event) → Quiet events (on (start_of g before) nothing (run_at settings before e))
  quiet_run_in e g events = by_on (λ none. by_nothing) (λ s start. quiet_run_at e s events)

  pub quiet_run : (e : ℕ) (events : List Event) → Quiet events (run_row settings before e)
  quiet_run e events = by_on (λ none. by_nothing) (λ g home. quiet_run_in e g events)

  -- L3: it is asked what it is owed
  quiet_owed : (e : ℕ) (ds : List Debt) (events : List Event) → Quiet events (each (λ (d : Debt). ask d.body e) ds)
  quiet_owed e [] events = by_nothing
  quiet_owed e (d ∷ ds) events = by_then (quiet_ask t settings before d.body e events) (quiet_owed e ds (behind events (outs (ask d.body e) events)))

  quiet_debts_in : (e : ℕ) (body : List ℕ) (m : Message) (g : ℕ) (events : List Event) → Quiet events (on (start_of g before) nothing (debts_at settings before e body m))
  quiet_debts_in e body m g events = by_on (λ none. by_nothing) (λ s start. quiet_owed e (debts_due settings s before e body m) events)

  pub quiet_debts : (e : ℕ) (body : List ℕ) (m : Message) (events : List Event) → Quiet events (debts_row settings before e body m)
  quiet_debts e body m events = by_on (λ none. by_nothing) (λ g home. quiet_debts_in e body m g events)
