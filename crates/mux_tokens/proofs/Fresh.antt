-- What an editor is asked to take next, which it wasn't asked before.
use Rattle.std.proofs.Common.{◌≡◌, ℕ, ◌+◌, ◌<◌, Bool, true, false, ◌&&◌, List, [], ◌∷◌, ◌++◌, append-nil, append_assoc, map, nat_eq, if◌then◌else◌, refl, sym, subst, ◌∙◌, ap}
use Rattle.std.specs.Prelude.{Option, Some, None}
use Rattle.std.specs.List.{AllByRecursion}
use Rattle.mux_history.specs.declared.out.Out.{Out}
use Rattle.mux_history.specs.declared.out.Out.TheVariants.{ToEditor, ToServer, Spawn, CloseEditor, EndServer}
use Rattle.rpc_message.specs.Message.{Message, request, message_of}
use Rattle.event_model.specs.Event.{Event, behind, did, said}
use Rattle.event_model.specs.Settings.{Settings}
use Rattle.group_rows.specs.Asks.{next_ask}
use Rattle.group_rows.specs.Created.{Created, Taking, Token, asked, created_next, created_of, created_token, is_at, is_creating, token_marked, with_asked, with_token}
use Rattle.mux_tokens.specs.Stands.{AreFresh, CreatedStay, IsFresh, IsOffer}
use Rattle.mux_tokens.proofs.Below.{IsAsked, numbers_below, tokens_below}
use Rattle.mux_tokens.proofs.Finding.{all_both, all_last, all_so}
use Rattle.mux_tokens.proofs.Rows.{num_below, num_same}
use Rattle.mux_tokens.proofs.Standing.{created_more, next_token}

-- editor e wasn't asked to take token k
abbrev pub IsUntaken : ℕ → ℕ → Taking → Type 0
IsUntaken e k c = (is_at e c && nat_eq c.token k) ≡ false

abbrev pub AreUntaken : ℕ → ℕ → List Taking → Type 0
AreUntaken e k cs = AllByRecursion (IsUntaken e k) cs

-- nor anything under its next number
number_free : (e : ℕ) (events : List Event) (c : Taking) → IsAsked events c → (is_at e c && nat_eq c.number (next_ask e events)) ≡ false
number_free e events c h = go (is_at e c) refl
  where
    go : (b : Bool) → is_at e c ≡ b → (b && nat_eq c.number (next_ask e events)) ≡ false
    go true same = num_below c.number (next_ask e events) (subst (λ n. c.number < next_ask n events) (num_same c.editor e same) h)
    go false other = refl

module _ (settings : Settings) (s e k : ℕ) (events : List Event) where
  pub fresh_untaken : AreUntaken e k (created_of settings s events).takings → AreFresh e (next_ask e events) k (created_of settings s events).takings
  fresh_untaken h = all_both (λ (c : Taking). (is_at e c && nat_eq c.number (next_ask e events)) ≡ false) (IsUntaken e k) (created_of settings s events).takings
      (all_so (IsAsked events) (λ (c : Taking). (is_at e c && nat_eq c.number (next_ask e events)) ≡ false) (λ c q. number_free e events c q) (created_of settings s events).takings (numbers_below settings s events)) h

  pub untaken_fresh : (n : ℕ) → AreFresh e n k (created_of settings s events).takings → AreUntaken e k (created_of settings s events).takings
  untaken_fresh n h = all_so (IsFresh e n k) (IsUntaken e k) (λ c q. q.1) (created_of settings s events).takings h

  -- behind an event that leaves the start's tokens
  pub untaken_stay : (ev : Event) → CreatedStay settings s events ev → AreUntaken e k (created_of settings s events).takings → AreUntaken e k (created_of settings s (events ++ ev ∷ [])).takings
  untaken_stay ev same h = subst (λ (x : Created). AreUntaken e k x.takings) (sym (created_more settings s events ev ∙ same)) h

  -- behind an offer of another token, or to another editor
  pub untaken_offered : (i j : ℕ) (text : List ℕ) → IsOffer settings s i j events text → (nat_eq i e && nat_eq j k) ≡ false → AreUntaken e k (created_of settings s events).takings → AreUntaken e k (created_of settings s (events ++ said (ToEditor i text) ∷ [])).takings
  untaken_offered i j text offer other h = subst (λ (x : Created). AreUntaken e k x.takings) (sym is) (all_last (IsUntaken e k) now.takings (asked i (next_ask i events) offer.token) h (ap (λ n. nat_eq i e && nat_eq n k) offer.number ∙ other))
    where
      now : Created
      now = created_of settings s events

      is : created_of settings s (events ++ said (ToEditor i text) ∷ []) ≡ with_asked i (next_ask i events) (Some offer.token) now
      is = created_more settings s events (said (ToEditor i text)) ∙ ap (λ m. created_next settings s events now (did (ToEditor i text) m)) offer.says
          ∙ ap (λ b. if b then with_asked i (next_ask i events) (token_marked s offer.params now) now else now) offer.creates ∙ ap (λ o. with_asked i (next_ask i events) o now) offer.marked

-- S8: a new token
module _ (settings : Settings) (s e : ℕ) (events : List Event) where
  below_untaken : (k : ℕ) (cs : List Taking) → AllByRecursion (λ (c : Taking). c.token < k) cs → AreUntaken e k cs
  below_untaken k cs h = all_so (λ (c : Taking). c.token < k) (IsUntaken e k) (λ c low. ap (λ b. is_at e c && b) (num_below c.token k low) ∙ and_none (is_at e c)) cs h
    where
      and_none : (b : Bool) → (b && false) ≡ false
      and_none true = refl
      and_none false = refl

  pub untaken_new : AreUntaken e (created_of settings s events).next (created_of settings s events).takings
  untaken_new = below_untaken (created_of settings s events).next (created_of settings s events).takings (tokens_below settings s events).takings

  pub fresh_new : AreFresh e (next_ask e events) (created_of settings s events).next (created_of settings s events).takings
  fresh_new = fresh_untaken settings s e (created_of settings s events).next events untaken_new

  -- behind the event that creates it
  pub untaken_created : (body : List ℕ) (t : Token) (ev : Event) → created_token body (created_of settings s events) ≡ Some t → created_next settings s events (created_of settings s events) ev ≡ with_token (Some t) (created_of settings s events)
      → AreUntaken e t.number (created_of settings s (events ++ ev ∷ [])).takings
  untaken_created body t ev is moves = subst (λ (x : Created). AreUntaken e t.number x.takings) (sym (created_more settings s events ev ∙ moves))
      (subst (λ n. AreUntaken e n (created_of settings s events).takings) (sym (next_token body (created_of settings s events) t is).0) untaken_new)

-- Outs leave the live tokens
module _ (settings : Settings) (s : ℕ) where
  tokens_did : (events : List Event) (out : Out) → (created_of settings s (events ++ said out ∷ [])).tokens ≡ (created_of settings s events).tokens
  tokens_did events out = ap (λ (x : Created). x.tokens) (created_more settings s events (said out)) ∙ same out
    where
      now : Created
      now = created_of settings s events

      asks : (b : Bool) (i n : ℕ) (o : Option Token) → (if b then with_asked i n o now else now).tokens ≡ now.tokens
      asks true i n (Some t) = refl
      asks true i n None = refl
      asks false i n o = refl

      told : (i : ℕ) (body : List ℕ) (m : Message) → (created_next settings s events now (did (ToEditor i body) m)).tokens ≡ now.tokens
      told i body (request id method params) = asks (is_creating method) i (next_ask i events) (token_marked s params now)
      told i body other = refl

      same : (out : Out) → (created_next settings s events now (said out)).tokens ≡ now.tokens
      same (ToEditor i body) = told i body (message_of body)
      same (ToServer n body) = refl
      same (Spawn n g) = refl
      same (CloseEditor i) = refl
      same (EndServer n) = refl

  pub tokens_behind : (events : List Event) (outs : List Out) → (created_of settings s (behind events outs)).tokens ≡ (created_of settings s events).tokens
  tokens_behind events [] = ap (λ z. (created_of settings s z).tokens) (append-nil events)
  tokens_behind events (out ∷ outs) = ap (λ z. (created_of settings s z).tokens) (sym (append_assoc events (said out ∷ []) (map said outs))) ∙ (tokens_behind (events ++ said out ∷ []) outs ∙ tokens_did events out)
