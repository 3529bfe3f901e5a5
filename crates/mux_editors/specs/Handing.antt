-- What an editor's response answers: an ask whose answer goes to its start, as nothing else that the start asked is open under its id; and bodies that were held of a token.
use Rattle.std.specs.Prelude.{◌≡◌, ℕ, false, List}
use Rattle.std.specs.Prelude.{Option, Some}
use Rattle.std.specs.List.{AllByRecursion}
use Rattle.json_text.specs.Json.{Json}
use Rattle.rpc_message.specs.Message.{Id, message_of, notification}
use Rattle.group_rows.specs.Asks.{Ask, Asking, Parked, is_under, waits_under}
use Rattle.group_rows.specs.Created.{Taking}
use Rattle.group_rows.specs.Lists.{is_publishing}
use Rattle.mux_tables.specs.Stands.{HasText}

abbrev pub IsUnused : Option Id → Asking → Type 0
IsUnused id x = AllByRecursion (λ (a : Ask). is_under id a ≡ false) x.asks × AllByRecursion (λ (p : Parked). waits_under id p ≡ false) x.parked

abbrev pub Fits : Asking → Ask → Type 0
Fits x a = HasText a × IsUnused (Some a.id) x

-- bodies that were held of a token: notifications that publish no diagnostics
abbrev pub IsHeld : List ℕ → Type 0
IsHeld body = (method : List ℕ) × (params : Option Json) × (message_of body ≡ notification method params) × (is_publishing method ≡ false)

abbrev pub AreHeld : List (List ℕ) → Type 0
AreHeld bodies = AllByRecursion IsHeld bodies

abbrev pub AllHeld : List Taking → Type 0
AllHeld cs = AllByRecursion (λ (c : Taking). AreHeld c.held) cs
