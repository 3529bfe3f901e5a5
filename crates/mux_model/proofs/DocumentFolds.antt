-- The words on documents over longer lists of events.
use Rattle.std.proofs.Common.{◌≡◌, ℕ, List, [], ◌∷◌, map, fold, None, refl, ap}
use Rattle.mux_history.specs.declared.out.Out.TheVariants.{ToServer}
use Rattle.mux_model.specs.Documents.{encoding_behind, encoding_of, Sent, sent_behind, sent_of}
use Rattle.event_model.specs.Event.{Event, behind}
use Rattle.event_model.specs.Row.{outs}
use Rattle.mux_model.specs.Rows.{to_start}

sent_given : (s : ℕ) (u : List ℕ) (x : Sent) (events : List Event) → (fold (sent_behind s u) x events).encoding ≡ fold (encoding_behind s) x.encoding events
sent_given s u x [] = refl
sent_given s u x (event ∷ events) = sent_given s u (sent_behind s u x event) events

-- what was sent of each document counts by the encoding of the start
pub sent_encoding : (s : ℕ) (u : List ℕ) (events : List Event) → (sent_of s u events).encoding ≡ encoding_of s events
sent_encoding s u events = sent_given s u (record { encoding = None; held = None }) events

-- bodies to a start, one behind the other
pub outs_to_start : (s : ℕ) (bodies : List (List ℕ)) (events : List Event) → outs (to_start s bodies) events ≡ map (λ b. ToServer s b) bodies
outs_to_start s [] events = refl
outs_to_start s (b ∷ bodies) events = ap (λ xs. ToServer s b ∷ xs) (outs_to_start s bodies (behind events (ToServer s b ∷ [])))
