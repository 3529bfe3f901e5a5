-- S14: what a start asked, and awaits no more, by its row.
use Rattle.std.proofs.Common.{◌≡◌, ℕ, ◌<◌, ◌^◌, Bool, true, false, cond, List, [], ◌∷◌, find, refl, ap, sym, subst, ◌∙◌}
use Rattle.std.specs.Prelude.{Option, Some, None, option_map}
use Rattle.std.specs.List.{AllByRecursion}
use Rattle.json_text.specs.Json.{Json}
use Rattle.mux_tables.specs.ask_route.specs.declared.ask.Seat.{Seat}
use Rattle.mux_history.specs.declared.out.Out.TheVariants.{ToEditor}
use Rattle.event_model.specs.declared.phase.Phase.TheVariants.{Running}
use Rattle.event_model.specs.Does.{Alike}
use Rattle.event_model.specs.Event.{Event}
use Rattle.event_model.specs.Phases.{desk_of, is_running}
use Rattle.event_model.specs.Row.{nothing, on, send}
use Rattle.event_model.specs.Settings.{Settings}
use Rattle.event_model.proofs.Turns.{alike, alike_then}
use Rattle.rpc_message.specs.Message.{Id}
use Rattle.group_rows.specs.AskRows.{cancel_ask, cancelled_row}
use Rattle.group_rows.specs.Asks.{Ask, asks_of, is_under}
use Rattle.group_rows.specs.Waiting.{named_id}
use Rattle.group_rows.specs.Leaves.{cancel_text}
use Rattle.mux_tables.specs.Refusals.{seat_from}
use Rattle.mux_tables.specs.Stands.{WasAsked}
use Rattle.mux_turns.proofs.Rows.{is_first}

-- no id names an ask
nobody : (asks : List Ask) → find (is_under None) asks ≡ None
nobody [] = refl
nobody (a ∷ asks) = nobody asks

pub none_named : (o : Option Id) (asks : List Ask) → o ≡ None → find (is_under o) asks ≡ None
none_named o asks is = ap (λ q. find (is_under q) asks) is ∙ nobody asks

-- what is found passes what all do
found_has : (P : Ask → Type 0) (test : Ask → Bool) (asks : List Ask) (a : Ask) → AllByRecursion P asks → find test asks ≡ Some a → P a
found_has P test [] a all is = absurd (cc)
found_has P test (b ∷ asks) a all is = go (test b) is (λ k. found_has P test asks a all.1 k)
  where
    go : (c : Bool) → cond c (Some b) (find test asks) ≡ Some a → (find test asks ≡ Some a → P a) → P a
    go true k rest = let same : b ≡ a = cc in subst P same all.0
    go false k rest = rest k

-- its number is one of 64 bits
pub seat_small : (o : Option Id) (events : List Event) (asks : List Ask) (seat : Seat) → ◌≡◌ {A = Option Seat} (Some seat) (option_map seat_from (find (is_under o) asks)) → AllByRecursion (WasAsked events) asks → seat.number < 2 ^ 64
seat_small o events asks seat is all = go (find (is_under o) asks) refl is
  where
    go : (f : Option Ask) → find (is_under o) asks ≡ f → ◌≡◌ {A = Option Seat} (Some seat) (option_map seat_from f) → seat.number < 2 ^ 64
    go None e k = absurd (cc)
    go (Some a) e k = let same : seat ≡ seat_from a = cc in subst (λ (z : Seat). z.number < 2 ^ 64) (sym same) (found_has (WasAsked events) (is_under o) asks a all e).1

module _ (settings : Settings) (s t : ℕ) (before : List Event) (params : Option Json) where
  abbrev found : Option Ask
  found = find (is_under (named_id params)) (asks_of settings s before)

  pub recalls_none : t ≡ s → ◌≡◌ {A = Option Seat} None (option_map seat_from (find (is_under (named_id params)) (asks_of settings t before))) → Alike (cancelled_row settings s before params) nothing
  recalls_none own is = go found refl (is ∙ ap (λ n. option_map seat_from (find (is_under (named_id params)) (asks_of settings n before))) own)
    where
      go : (o : Option Ask) → found ≡ o → ◌≡◌ {A = Option Seat} None (option_map seat_from found) → Alike (cancelled_row settings s before params) nothing
      go None e k = alike (ap (λ o. on o nothing (cancel_ask before)) e)
      go (Some a) e k = let clash : ◌≡◌ {A = Option Seat} None (Some (seat_from a)) = k ∙ ap (option_map seat_from) e in absurd (cc)

  pub recalls_one : (seat : Seat) → t ≡ s → Some seat ≡ option_map seat_from (find (is_under (named_id params)) (asks_of settings t before)) → AllByRecursion (λ (a : Ask). (desk_of a.editor before).phase ≡ Running) (asks_of settings s before)
      → Alike (cancelled_row settings s before params) (send (ToEditor seat.editor (cancel_text seat.number)))
  recalls_one seat own is run = go found refl (is ∙ ap (λ n. option_map seat_from (find (is_under (named_id params)) (asks_of settings n before))) own)
    where
      go : (o : Option Ask) → found ≡ o → Some seat ≡ option_map seat_from found → Alike (cancelled_row settings s before params) (send (ToEditor seat.editor (cancel_text seat.number)))
      go None e k = let clash : ◌≡◌ {A = Option Seat} (Some seat) None = k ∙ ap (option_map seat_from) e in absurd (cc)
      go (Some a) e k =
          let same : seat ≡ seat_from a = let q : ◌≡◌ {A = Option Seat} (Some seat) (Some (seat_from a)) = k ∙ ap (option_map seat_from) e in cc in
          let runs = found_has (λ (b : Ask). (desk_of b.editor before).phase ≡ Running) (is_under (named_id params)) (asks_of settings s before) a run e in
          subst (λ (z : Seat). Alike (cancelled_row settings s before params) (send (ToEditor z.editor (cancel_text z.number)))) (sym same)
          (alike_then (alike (ap (λ o. on o nothing (cancel_ask before)) e)) (is_first refl (ap is_running runs)))
