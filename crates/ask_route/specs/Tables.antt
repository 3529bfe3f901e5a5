-- The asks of one start of a server: its requests that wait for an editor's answer, in the order in which they were put (LSP 3.17, Base Protocol, Request Message).
use Rattle.std.specs.Prelude.{ℕ, Bool, true, false, ◌&&◌, List, [], ◌∷◌, filter, find, flat_map, nat_eq, if◌then◌else◌}
use Rattle.std.specs.Prelude.{Option, Some, None}
use Rattle.std.specs.List.{AllByRecursion, list_any}
use Rattle.id_rewrite.specs.rpc_message.specs.Message.{Id, same_id}
use Rattle.id_rewrite.specs.rpc_message.specs.ValueTexts.{IsIdText}
use Rattle.id_rewrite.specs.Forms.{same_form}
use Rattle.ask_route.specs.declared.ask.Ask.{Ask}
use Rattle.ask_route.specs.declared.ask.Place.{Place}
use Rattle.ask_route.specs.declared.ask.Place.TheVariants.{Asked, Parked}
use Rattle.ask_route.specs.declared.ask.Seat.{Seat}

-- an ask of an editor under a number, and one that is parked with the server's body
abbrev pub asked : ℕ → ℕ → List ℕ → Ask
asked editor number id = record { id = id; place = Asked (record { editor = editor; number = number }) }

abbrev pub parked : List ℕ → List ℕ → Ask
parked id body = record { id = id; place = Parked body }

-- the editor that was asked, and the number
abbrev pub seat_at : Place → Option Seat
seat_at (Asked seat) = Some seat
seat_at (Parked body) = None

abbrev pub seat_of : Ask → Option Seat
seat_of ask = seat_at ask.place

-- the editor that was asked under a number
abbrev pub is_seat : ℕ → ℕ → Option Seat → Bool
is_seat editor number None = false
is_seat editor number (Some seat) = nat_eq seat.editor editor && nat_eq seat.number number

abbrev pub is_seated : ℕ → ℕ → Ask → Bool
is_seated editor number ask = is_seat editor number (seat_of ask)

-- an editor was asked; of None, none was
abbrev pub is_held : Option ℕ → Option Seat → Bool
is_held None None = true
is_held None (Some seat) = false
is_held (Some editor) None = false
is_held (Some editor) (Some seat) = nat_eq seat.editor editor

abbrev pub is_with : Option ℕ → Ask → Bool
is_with holder ask = is_held holder (seat_of ask)

-- an ask whose id stands for what these bytes do
abbrev pub is_under : List ℕ → Ask → Bool
is_under id ask = same_form id ask.id

-- without the first one that passes
abbrev pub less : (Ask → Bool) → List Ask → List Ask
less test [] = []
less test (ask ∷ asks) = if test ask then asks else ask ∷ less test asks

-- the editor and the number of one that may be there
abbrev pub seat_in : Option Ask → Option Seat
seat_in None = None
seat_in (Some ask) = seat_of ask

abbrev pub number_in : Option Seat → List ℕ
number_in None = []
number_in (Some seat) = seat.number ∷ []

-- the numbers of an editor's asks
abbrev pub numbers_of : ℕ → List Ask → List ℕ
numbers_of editor asks = flat_map (λ ask. number_in (seat_of ask)) (filter (is_with (Some editor)) asks)

-- each kept id is the text of an id, which `meaning` gives
abbrev pub AreIds : (List ℕ → Id) → List Ask → Type 0
AreIds meaning asks = AllByRecursion (λ ask. IsIdText (meaning ask.id) ask.id) asks

-- some ask has the same id
abbrev pub has_id : (List ℕ → Id) → Id → List Ask → Bool
has_id meaning id asks = list_any (λ ask. same_id id (meaning ask.id)) asks

-- the first ask that has it
abbrev pub ask_of : (List ℕ → Id) → Id → List Ask → Option Ask
ask_of meaning id asks = find (λ ask. same_id id (meaning ask.id)) asks
