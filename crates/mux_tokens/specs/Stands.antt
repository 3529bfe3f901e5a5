-- When what is kept of the tokens that starts created stands for events (LSP 3.17, Work Done Progress, Server Initiated Progress).
use Rattle.std.specs.Prelude.{◌≡◌, ℕ, ◌+◌, ◌<◌, ◌≤◌, ◌^◌, Bool, false, true, not, ◌&&◌, List, [], ◌∷◌, decimal, find, map, nat_eq}
use Rattle.std.specs.Prelude.{Option, Some, None}
use Rattle.std.specs.List.{AllByRecursion}
use Rattle.std.specs.Option.{option_and_then, option_map}
use Rattle.json_text.specs.Json.{Json}
use Rattle.rpc_message.specs.Message.{Message, integer, message_of, request}
use Rattle.event_model.specs.Event.{Event}
use Rattle.event_model.specs.Settings.{Settings}
use Rattle.group_rows.specs.Asks.{next_ask}
use Rattle.group_rows.specs.Created.{Created, Taking, Token, created_next, created_of, is_at, is_creating, is_numbered, spoken, token_marked}
use Rattle.progress_route.specs.Tables.{Held, Part, Table, at, no_part}
use Rattle.progress_route.specs.Names.{Text}
use Rattle.mux_tokens.specs.Rows.{Rows, table_of}

-- the keys of a table rise, from one number on
abbrev pub Up : {X : Type 0} → ℕ → List (ℕ × X) → Type 0
Up from [] = Unit {0}
Up from (r ∷ rs) = (from ≤ r.0) × Up (r.0 + 1) rs

-- a live token, as it is kept
abbrev pub row_of : Token → ℕ × Text
row_of t = (t.number, t.text)

-- the first `begin` of the live token of this number
abbrev pub begin_at : ℕ → List Token → Option (List ℕ)
begin_at k tokens = option_and_then (λ (t : Token). t.begin) (find (is_numbered k) tokens)

-- what an editor was asked to take and hasn't answered: by the number there, and by the token; and what it accepted
abbrev pub is_open_as : ℕ → ℕ → Taking → Bool
is_open_as e n c = not c.accepted && (is_at e c && nat_eq c.number n)

abbrev pub is_open_of : ℕ → ℕ → Taking → Bool
is_open_of e k c = not c.accepted && (is_at e c && nat_eq c.token k)

abbrev pub is_held_by : ℕ → ℕ → Taking → Bool
is_held_by e k c = c.accepted && (is_at e c && nat_eq c.token k)

abbrev pub held_of : Taking → Held
held_of c = record { bodies = c.held; begun = c.begun }

abbrev pub asked_at : ℕ → ℕ → List Taking → Option ℕ
asked_at e n cs = option_map (λ (c : Taking). c.token) (find (is_open_as e n) cs)

abbrev pub waits_at : ℕ → ℕ → List Taking → Option Held
waits_at e k cs = option_map held_of (find (is_open_of e k) cs)

abbrev pub accepted_at : ℕ → ℕ → List Taking → Option Bool
accepted_at e k cs = option_map (λ (c : Taking). c.begun) (find (is_held_by e k) cs)

abbrev pub part_in : Option Part → Part
part_in None = no_part
part_in (Some part) = part

-- what is kept of an editor
pub record PartStands (e : ℕ) (cs : List Taking) (part : Part) : Type 0 where
  pub creates : (n : ℕ) → at n part.creates ≡ asked_at e n cs
  pub waits : (k : ℕ) → at k part.waits ≡ waits_at e k cs
  pub accepted : (k : ℕ) → at k part.accepted ≡ accepted_at e k cs
  pub numbers_rise : Up 0 part.creates
  pub waits_rise : Up 0 part.waits
  pub accepted_rise : Up 0 part.accepted

-- an editor was asked to take no token twice, and nothing under one number twice
abbrev pub IsOther : Taking → Taking → Type 0
IsOther a b = ((is_at a.editor b && nat_eq b.number a.number) ≡ false) × ((is_at a.editor b && nat_eq b.token a.token) ≡ false)

-- each with those behind it
abbrev pub Pairs : (Taking → Taking → Type 0) → List Taking → Type 0
Pairs R [] = Unit {0}
Pairs R (c ∷ cs) = AllByRecursion (R c) cs × Pairs R cs

abbrev pub AreApart : List Taking → Type 0
AreApart cs = Pairs IsOther cs

-- the tokens of one start
pub record TokensStand (x : Created) (t : Table) : Type 0 where
  pub names : t.names ≡ map row_of x.tokens
  pub next : t.next ≡ x.next
  pub begins : (k : ℕ) → at k t.begins ≡ begin_at k x.tokens
  pub parts : (e : ℕ) → PartStands e x.takings (part_in (at e t.parts))
  pub below : AllByRecursion (λ (u : Token). u.number < x.next) x.tokens
  pub names_rise : Up 0 t.names
  pub begins_rise : Up 0 t.begins
  pub parts_rise : Up 0 t.parts
  pub apart : AreApart x.takings
  pub small : AllByRecursion (λ (c : Taking). c.number < 2 ^ 64) x.takings

-- of all starts
pub record CreatedStand (settings : Settings) (rows : Rows) (events : List Event) : Type 0 where
  pub each : (s : ℕ) → TokensStand (created_of settings s events) (table_of s rows)
  pub rise : Up 0 rows

-- an event leaves the tokens of a start
abbrev pub CreatedStay : Settings → ℕ → List Event → Event → Type 0
CreatedStay settings s events event = created_next settings s events (created_of settings s events) event ≡ created_of settings s events

-- and of all starts
abbrev pub TokensStay : Settings → List Event → Event → Type 0
TokensStay settings events event = (s : ℕ) → CreatedStay settings s events event

-- an editor wasn't asked to take this token, nor anything under this number
abbrev pub IsFresh : ℕ → ℕ → ℕ → Taking → Type 0
IsFresh e n k c = ((is_at e c && nat_eq c.number n) ≡ false) × ((is_at e c && nat_eq c.token k) ≡ false)

abbrev pub AreFresh : ℕ → ℕ → ℕ → List Taking → Type 0
AreFresh e n k cs = AllByRecursion (IsFresh e n k) cs

-- a message of an editor answers nothing that it was asked to take, and doesn't end what it took; or does at most at start s
abbrev pub TakesNone : Settings → ℕ → Message → List Event → Type 0
TakesNone settings e m events = (s : ℕ) → spoken e m (created_of settings s events) ≡ created_of settings s events

abbrev pub TakesOne : Settings → ℕ → ℕ → Message → List Event → Type 0
TakesOne settings s e m events = (n : ℕ) → nat_eq n s ≡ false → spoken e m (created_of settings n events) ≡ created_of settings n events

-- a request to an editor, under its next number, to take the live token of start s of this number, which it wasn't asked to take yet
pub record IsOffer (settings : Settings) (s e k : ℕ) (events : List Event) (text : List ℕ) : Type 0 where
  pub method : List ℕ
  pub params : Option Json
  pub token : Token
  pub says : message_of text ≡ request (integer (decimal (next_ask e events))) method params
  pub creates : is_creating method ≡ true
  pub number : token.number ≡ k
  pub marked : token_marked s params (created_of settings s events) ≡ Some token
  pub live : find (is_numbered k) (created_of settings s events).tokens ≡ Some token
  pub others : (n : ℕ) → nat_eq n s ≡ false → token_marked n params (created_of settings n events) ≡ None
  pub fresh : AreFresh e (next_ask e events) k (created_of settings s events).takings
