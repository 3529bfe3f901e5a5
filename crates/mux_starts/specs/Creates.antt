-- What a request creates, and which editors are told of a token, as the rows read them.
use Rattle.std.specs.Prelude.{◌≡◌, ℕ, ◌<◌, ◌^◌, false, List, [], ◌∷◌, nat_eq}
use Rattle.std.specs.Prelude.{Option, Some, None}
use Rattle.std.specs.List.{AllByRecursion}
use Rattle.std.specs.Option.{option_map}
use Rattle.json_text.specs.Json.{Json}
use Rattle.event_model.specs.Event.{Event}
use Rattle.event_model.specs.Settings.{Settings}
use Rattle.group_rows.specs.Created.{Created, Token, created_of, created_token, named_token, token_called}
use Rattle.group_rows.specs.CreatedRows.{takers}
use Rattle.mux_starts.specs.declared.creates.Due.{Due}

-- a request creates no token, or one with this text, while a number below 2^64 is left
abbrev pub Creates : List ℕ → Created → Option (List ℕ) → Type 0
Creates body x None = created_token body x ≡ None
Creates body x (Some text) = x.next < 2 ^ 64 → option_map (λ (t : Token). t.text) (created_token body x) ≡ Some text

-- no two are the same
abbrev pub AreApart : List ℕ → Type 0
AreApart [] = Unit {0}
AreApart (e ∷ es) = AllByRecursion (λ d. nat_eq e d ≡ false) es × AreApart es

-- a notification of start s tells of this live token, and these editors are to hear it; or of none
pub record IsDue (settings : Settings) (before : List Event) (g s : ℕ) (params : Option Json) (d : Due) : Type 0 where
  pub token : Token
  pub called : token_called (named_token params) (created_of settings s before) ≡ Some token
  pub number : d.token ≡ token.number
  pub editors : d.editors.items ≡ takers settings before g s token

abbrev pub Dues : Settings → List Event → ℕ → ℕ → Option Json → Option Due → Type 0
Dues settings before g s params None = token_called (named_token params) (created_of settings s before) ≡ None
Dues settings before g s params (Some d) = IsDue settings before g s params d
