-- What a start has of a document behind a body to it.
use Rattle.std.proofs.Common.{◌≡◌, ℕ, true, List, [], ◌∷◌, ◌++◌, if◌then◌else◌, Option, None, refl, ◌∙◌, ap, ap₂}
use Rattle.std.specs.Option.{option_map}
use Rattle.std.proofs.lemmas.List.Sums.{fold-append}
use Rattle.std.proofs.lemmas.Slice.Eq.{bytes_eq-Decides}
use Rattle.mux_model.specs.document_model.specs.Helds.{HeldText, told}
use Rattle.mux_model.specs.document_model.specs.Sayings.{Saying, closes, saying_of, speaks}
use Rattle.mux_history.specs.declared.out.Out.TheVariants.{ToServer}
use Rattle.rpc_message.specs.Message.{message_of}
use Rattle.mux_model.specs.Documents.{Sent, sent_behind, sent_of, held_at}
use Rattle.event_model.specs.Event.{Event, said}
use Rattle.mux_facts.specs.Allowed.{AllowsSaying}
use Rattle.mux_facts.proofs.Words.{same_number}

-- what a start has behind one more event
pub sent_more : (s : ℕ) (u : List ℕ) (events : List Event) (event : Event) → sent_of s u (events ++ event ∷ []) ≡ sent_behind s u (sent_of s u events) event
sent_more s u events event = fold-append (sent_behind s u) (record { encoding = None; held = None }) events (event ∷ [])

-- the versions of what it has
abbrev pub versions_at : ℕ → List Event → List ℕ → Option ℕ
versions_at s events u = option_map (λ (h : HeldText). h.version) (held_at s u events)

pub version_at : (s : ℕ) (events : List Event) (u : List ℕ) (o : Option HeldText) → held_at s u events ≡ o → versions_at s events u ≡ option_map (λ (h : HeldText). h.version) o
version_at s events u o e = ap (option_map (λ (h : HeldText). h.version)) e

-- this body says what it may be told
pub record Says (s : ℕ) (events : List Event) (body : List ℕ) : Type 0 where
  pub what : Saying
  pub says : saying_of (message_of body) ≡ what
  pub speaks_so : speaks what ≡ true
  pub allowed : AllowsSaying (versions_at s events) what

-- what was closed isn't held
pub closed_not : (s : ℕ) (events : List Event) (body u : List ℕ) → saying_of (message_of body) ≡ closes u → held_at s u (events ++ said (ToServer s body) ∷ []) ≡ None
closed_not s events body u e = ap (λ (x : Sent). x.held) (sent_more s u events (said (ToServer s body)))
    ∙ ap₂ (λ b x. if b then told (sent_of s u events).encoding u (held_at s u events) x else held_at s u events) (same_number s) e
    ∙ ap (λ b. if b then None else held_at s u events) ((bytes_eq-Decides u u).1 refl)
