-- What is kept of registrations is the texts of values, of which requests can be written.
use Rattle.std.specs.Prelude.{◌≡◌, ℕ, List, codes, encode_utf8_all}
use Rattle.std.specs.Prelude.{Some}
use Rattle.std.specs.List.{AllByRecursion}
use Rattle.json_text.specs.Bare.{nowhere}
use Rattle.json_text.specs.Json.{Json, string}
use Rattle.response_route.specs.document_model.specs.Sayings.{string_at}
use Rattle.rpc_message.specs.ValueTexts.{IsShallowText, IsValueText}
use Rattle.registrations.specs.declared.registration.Registration.{Registration}

-- an item is the text of a value, three levels down in a body, which names it, and its id and its method are those of strings
pub record IsWrittenItem (r : Registration) : Type 0 where
  pub tree : Json
  pub item : IsShallowText 1021 tree r.item
  pub given : string_at (codes "id") (Some tree) ≡ Some r.name
  pub named : List ℕ
  pub spelt : r.name ≡ encode_utf8_all named
  pub id : IsValueText (string nowhere named) r.id
  pub called : List ℕ
  pub method : IsValueText (string nowhere called) r.method

abbrev pub AreWritten : List Registration → Type 0
AreWritten rs = AllByRecursion IsWrittenItem rs
