-- The daemon's own tokens for those that starts create, as they are read and offered.
use Rattle.std.specs.Prelude.{◌≡◌, ℕ, ◌<◌, ◌≤◌, ◌^◌, ◌++◌, Bool, false, ◌&&◌, List, [], bytes_eq, codes, decimal, find, nat_eq}
use Rattle.std.specs.Prelude.{Option, Some, None}
use Rattle.std.specs.List.{AllByRecursion}
use Rattle.std.specs.Option.{option_map_or}
use Rattle.json_text.specs.Json.{Json}
use Rattle.event_model.specs.Event.{Event}
use Rattle.event_model.specs.Members.{string_of}
use Rattle.event_model.specs.Settings.{Settings}
use Rattle.group_facts.specs.group_rows.specs.Created.{Taking, Token, created_mark, created_of, is_at, is_numbered}

-- what the daemon's tokens of a start begin with
abbrev pub created_front : ℕ → List ℕ
created_front s = codes "lspmux:" ++ decimal s ++ codes ":"

-- these are the characters of the daemon's token of start s with this number, or of none of that start
abbrev pub WritesCreated : ℕ → List ℕ → Option ℕ → Type 0
WritesCreated s cs None = (k : ℕ) → k < 2 ^ 64 → bytes_eq (created_mark s k) cs ≡ false
WritesCreated s cs (Some n) = (k : ℕ) → k < 2 ^ 64 → bytes_eq (created_mark s k) cs ≡ nat_eq k n

-- the same of a token that may be there
abbrev pub is_created_mark : ℕ → Option Json → ℕ → Bool
is_created_mark s token k = option_map_or (bytes_eq (created_mark s k)) (string_of token) false

abbrev pub CreatedAt : ℕ → Option Json → Option ℕ → Type 0
CreatedAt s token None = (k : ℕ) → k < 2 ^ 64 → is_created_mark s token k ≡ false
CreatedAt s token (Some n) = (k : ℕ) → k < 2 ^ 64 → is_created_mark s token k ≡ nat_eq k n

-- an editor wasn't asked to take this token
abbrev pub Unasked : ℕ → ℕ → List Taking → Type 0
Unasked e k cs = AllByRecursion (λ (c : Taking). (is_at e c && nat_eq c.token k) ≡ false) cs

-- starts that have live tokens have numbers that numerals of 64 bits tell apart
abbrev pub AreSmall : Settings → List Event → Type 0
AreSmall settings events = (n : ℕ) → 2 ^ 64 ≤ n → (created_of settings n events).tokens ≡ []

-- a live token of start s, which an editor may be asked to take
pub record CanOffer (settings : Settings) (s e k : ℕ) (token : Token) (events : List Event) : Type 0 where
  pub live : find (is_numbered k) (created_of settings s events).tokens ≡ Some token
  pub unasked : Unasked e k (created_of settings s events).takings
  pub small : AreSmall settings events
