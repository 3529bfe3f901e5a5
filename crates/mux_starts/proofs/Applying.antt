-- V3: an edit that a start asks for, with an editor's own versions of documents.
use Rattle.std.proofs.Common.{◌≡◌, ℕ, ◌^◌, Bool, true, List, bytes_eq, encode_utf8_all, decimal, ltb-true, sym, subst, ◌∙◌, rules}
use Rattle.std.specs.Bool.{Decides}
use Rattle.std.specs.Prelude.{Option, Some}
use Rattle.std.proofs.lemmas.Slice.Eq.{bytes_eq-Decides}
use Rattle.json_text.specs.Json.{Json}
use Rattle.rpc_message.specs.Message.{Id, integer, message_of, request}
use Rattle.rpc_message.proofs.Decimals.{decimal_law}
use Rattle.event_model.specs.Event.{Event}
use Rattle.event_model.specs.Settings.{Settings}
use Rattle.mux_turns.specs.group_facts.specs.Facts.{Meant}
use Rattle.group_rows.specs.AskRows.{current_version}
use Rattle.group_rows.specs.Asks.{has_number, next_ask}
use Rattle.group_rows.proofs.Versions.{current_flat}
use Rattle.mux_members.specs.Finds.{is_ascii}
use Rattle.mux_members.proofs.Encoded.{ascii_encoded}
use Rattle.mux_tables.specs.Puts.{IsNextAsk}
use Rattle.response_route.specs.Asked.{asked_text}
use Rattle.response_route.proofs.Asking.{request_asks}

tested : (xs ys : List ℕ) (r : Bool) → Decides r (xs ≡ ys) → r ≡ bytes_eq xs ys
tested xs ys r h = search (rules, bytes_eq-Decides)

-- which of two comes first is one
flipped : (xs ys : List ℕ) → bytes_eq xs ys ≡ bytes_eq ys xs
flipped xs ys = let d = bytes_eq-Decides xs ys in tested ys xs (bytes_eq xs ys) (λ e. sym (d.0 e), λ q. d.1 (sym q))

-- a name is compared by its characters
pub named_so : (cs name : List ℕ) → is_ascii name ≡ true → bytes_eq name (encode_utf8_all cs) ≡ bytes_eq name cs
named_so cs name h = flipped name (encode_utf8_all cs) ∙ (ascii_encoded cs name h ∙ flipped cs name)

-- what an editor is asked is a request under its next number
pub asks_edited : (settings : Settings) (before now : List Event) (s e n : ℕ) (body method : List ℕ) (id : Id) (params : Option Json) → Meant before → message_of body ≡ request id method params → has_number e now ≡ true → n ≡ next_ask e now
    → (w : List ℕ) → asked_text (current_version settings before s e) body (decimal n) ≡ Some w → (given : Option Json) × IsNextAsk e now method given w
asks_edited settings before now s e n body method id params meant says left next w is =
    let number = subst (λ m. asked_text (current_version settings before s e) body (decimal m) ≡ Some w) next is in
    let asks = request_asks body (decimal (next_ask e now)) id (integer (decimal (next_ask e now))) method params says (decimal_law (next_ask e now) (ltb-true (next_ask e now) (2 ^ 64) left)) (current_version settings before s e) (current_flat settings before s e meant) w number in
    (asks.0, record { left = left; says = asks.1 })
