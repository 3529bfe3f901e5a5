-- S8 and L2: what offers of tokens leave as it is.
use Rattle.std.proofs.Common.{◌≡◌, ℕ, ◌<◌, ◌^◌, Bool, true, false, ◌&&◌, List, [], ◌∷◌, append-nil, codes, decimal, nat_eq, refl, ap, sym, subst, ◌∙◌, arith, ltb-true}
use Rattle.std.specs.Prelude.{Some}
use Rattle.mux_history.specs.declared.out.Out.TheVariants.{ToEditor}
use Rattle.rpc_message.specs.Message.{integer, message_of}
use Rattle.event_model.specs.Event.{Event, behind, said}
use Rattle.event_model.specs.Row.{choose, each, nothing, outs, send}
use Rattle.event_model.specs.Settings.{Settings}
use Rattle.group_facts.proofs.Asks.{call_hurried}
use Rattle.group_facts.proofs.AskingRows.{creates_all}
use Rattle.group_facts.specs.group_rows.specs.Asks.{has_number, next_ask}
use Rattle.group_facts.specs.group_rows.specs.Created.{Token, created_of}
use Rattle.group_facts.specs.group_rows.specs.CreatedRows.{create_text, offer}
use Rattle.group_facts.specs.group_rows.specs.LiveRows.{call}
use Rattle.group_facts.specs.group_rows.proofs.CreatedTexts.{create_says, create_tree}
use Rattle.mux_tables.specs.mux_tokens.proofs.Fresh.{fresh_untaken, tokens_behind, untaken_offered}
use Rattle.mux_tables.specs.mux_tokens.proofs.Standing.{created_more}
use Rattle.mux_tables.specs.mux_tokens.proofs.Stays.{called_stays}
use Rattle.mux_turns.specs.Calls.{IsCall}
use Rattle.mux_turns.specs.Creates.{AreSmall, CanOffer, Unasked}
use Rattle.mux_turns.proofs.Called.{Quiet, after_quiet, quiet_none, quiet_told}
use Rattle.mux_turns.proofs.Offering.{offer_is, small_behind}

module _ (settings : Settings) (s : ℕ) (t : Token) where
  pub offer_quiet : (e : ℕ) (events : List Event) → Quiet settings events (behind events (outs (offer s e t) events))
  offer_quiet e events = go (has_number e events) refl
    where
      go : (b : Bool) → has_number e events ≡ b → Quiet settings events (behind events (outs (choose b (send (ToEditor e (create_text s t.number (next_ask e events)))) nothing) events))
      go true h =
          let low : next_ask e events < 2 ^ 64 = ltb-true (next_ask e events) (2 ^ 64) h in
          quiet_told settings e (create_text s t.number (next_ask e events)) events (integer (decimal (next_ask e events))) (codes "window/workDoneProgress/create") (Some (create_tree s t.number))
          (create_says s t.number (next_ask e events) (omega (arith, low))) (call_hurried (codes "window/workDoneProgress/create") creates_all)
      go false h = quiet_none settings events

  -- an editor that wasn't asked to take a token still wasn't, where another one is asked, or of another token
  pub offer_spares : (e d k : ℕ) (events : List Event) → CanOffer settings s e t.number t events → (nat_eq e d && nat_eq t.number k) ≡ false → Unasked d k (created_of settings s events).takings
      → Unasked d k (created_of settings s (behind events (outs (offer s e t) events))).takings
  offer_spares e d k events can other h = go (has_number e events) refl
    where
      go : (b : Bool) → has_number e events ≡ b → Unasked d k (created_of settings s (behind events (outs (choose b (send (ToEditor e (create_text s t.number (next_ask e events)))) nothing) events))).takings
      go true room = untaken_offered settings s d k events e t.number (create_text s t.number (next_ask e events))
          (offer_is settings s e t.number events t can.small can.live room (fresh_untaken settings s e t.number events can.unasked)) other h
      go false none = subst (λ es. Unasked d k (created_of settings s es).takings) (sym (append-nil events)) h

  -- it lives on, and the starts that have tokens stay few
  pub offer_lives : (e : ℕ) (events : List Event) → (created_of settings s (behind events (outs (offer s e t) events))).tokens ≡ (created_of settings s events).tokens
  offer_lives e events = tokens_behind settings s events (outs (offer s e t) events)

  pub offer_small : (e : ℕ) (events : List Event) → AreSmall settings events → AreSmall settings (behind events (outs (offer s e t) events))
  offer_small e events h = small_behind settings events (outs (offer s e t) events) h

-- offers of several
pub offers_quiet : (settings : Settings) (s e : ℕ) (us : List Token) (events : List Event) → Quiet settings events (behind events (outs (each (offer s e) us) events))
offers_quiet settings s e [] events = quiet_none settings events
offers_quiet settings s e (u ∷ us) events = after_quiet settings (offer s e u) (each (offer s e) us) events (offer_quiet settings s u e events) (λ now. offers_quiet settings s e us now)

-- a request that offers no token leaves tokens as they are
pub call_created : (settings : Settings) (s : ℕ) (text : ℕ → List ℕ) → IsCall text → (e : ℕ) (events : List Event) → created_of settings s (behind events (outs (call text e) events)) ≡ created_of settings s events
call_created settings s text k e events = go (has_number e events) refl
  where
    go : (b : Bool) → has_number e events ≡ b → created_of settings s (behind events (outs (choose b (send (ToEditor e (text (next_ask e events)))) nothing) events)) ≡ created_of settings s events
    go true h =
        let q = k.says (next_ask e events) (ltb-true (next_ask e events) (2 ^ 64) h) in
        created_more settings s events (said (ToEditor e (text (next_ask e events)))) ∙ called_stays settings s e events (created_of settings s events) (text (next_ask e events)) k.method (message_of (text (next_ask e events))) (integer (decimal (next_ask e events))) q.0 q.1 k.uncreating
    go false h = ap (created_of settings s) (append-nil events)

pub any_created : (settings : Settings) (s : ℕ) (text : ℕ → List ℕ) → IsCall text → (b : Bool) (e : ℕ) (events : List Event) → created_of settings s (behind events (outs (choose b (call text e) nothing) events)) ≡ created_of settings s events
any_created settings s text k true e events = call_created settings s text k e events
any_created settings s text k false e events = ap (created_of settings s) (append-nil events)
