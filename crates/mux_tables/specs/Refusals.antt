-- What is kept of a start's asks, where an editor answers one (E19), or leaves (L1), or the start cancels one (S14).
use Rattle.std.specs.Prelude.{◌≡◌, ℕ, List, find, map}
use Rattle.std.specs.Prelude.{Option, Some, None, MatchOption, option_map}
use Rattle.std.specs.List.{filter}
use Rattle.ask_route.specs.declared.ask.Ask.{Ask}
use Rattle.ask_route.specs.declared.ask.Seat.{Seat}
use Rattle.ask_route.specs.Tables.{is_seated, is_with, less}
use Rattle.mux_history.specs.declared.out.Out.{Out}
use Rattle.mux_history.specs.declared.out.Out.TheVariants.{ToServer}
use Rattle.rpc_message.specs.Texts.{error_text, request_failed}
use Rattle.event_model.specs.Row.{Row, send}
use Rattle.group_laws.specs.group_rows.specs.Asks.{Ask as Open}
use Rattle.mux_tables.specs.declared.tables.Start.{Start}

-- what is kept of a start's asks
abbrev pub asks_in : Start → List Ask
asks_in x = x.asks

-- those of an editor
abbrev pub of_editor : ℕ → List Ask → List Ask
of_editor e kept = filter (is_with (Some e)) kept

-- one is refused
abbrev pub refusal : ℕ → Ask → Row
refusal s ask = send (ToServer s (error_text ask.id request_failed))

abbrev pub refusals : ℕ → List Ask → List Out
refusals s kept = map (λ (ask : Ask). ToServer s (error_text ask.id request_failed)) kept

-- what is left without the one that an editor has under this number, and the id of that one
abbrev pub Left : ℕ → Option ℕ → List Ask → List Ask → Type 0
Left e n kept left = MatchOption n (left ≡ kept) (λ k. left ≡ less (is_seated e k) kept)

abbrev pub Given : ℕ → Option ℕ → List Ask → Option (List ℕ) → Type 0
Given e n kept given = MatchOption n (given ≡ None) (λ k. given ≡ option_map (λ (ask : Ask). ask.id) (find (is_seated e k) kept))

-- the editor that was asked, and the number there
abbrev pub seat_from : Open → Seat
seat_from a = record { editor = a.editor; number = a.number }
