-- L2: an editor that begins to run is asked to take each token that lives, one after the other.
use Rattle.std.proofs.Common.{◌≡◌, ℕ, zero, suc, ◌+◌, ◌<◌, Bool, true, false, ◌&&◌, cond, List, [], ◌∷◌, ◌++◌, append-nil, find, get_or, length, map, nat_eq, take, refl, ap, sym, subst, ◌∙◌, arith}
use Rattle.std.specs.Prelude.{None, Some, is_some}
use Rattle.std.specs.List.{AllByRecursion}
use Rattle.std.proofs.lemmas.Bool.Decides.{nat_tests}
use Rattle.mux_history.specs.declared.out.Out.{Out}
use Rattle.rpc_message.specs.Message.{integer}
use Rattle.event_model.specs.Event.{Event, behind}
use Rattle.event_model.specs.Row.{Row, each, outs}
use Rattle.event_model.specs.Settings.{Settings}
use Rattle.event_model.proofs.Turns.{behind_more}
use Rattle.group_rows.specs.Created.{Taking, Token, created_of, is_numbered}
use Rattle.group_rows.specs.CreatedRows.{offer}
use Rattle.mux_tables.specs.declared.tables.Tables.{Tables}
use Rattle.mux_tables.specs.Stands.{Stands}
use Rattle.mux_tables.specs.mux_tokens.specs.Stands.{Up, row_of}
use Rattle.mux_tables.specs.mux_tokens.proofs.Rows.{num_itself}
use Rattle.mux_turns.specs.Creates.{AreSmall, CanOffer, Unasked}
use Rattle.mux_turns.proofs.Offers.{offer_lives, offer_small, offer_spares}
use Rattle.mux_editors.specs.Running.{AreUnasked}

-- Live tokens have numbers of their own

abbrev AreOther : Token → List Token → Type 0
AreOther t us = AllByRecursion (λ (u : Token). nat_eq t.number u.number ≡ false) us

abbrev AreApart : List Token → Type 0
AreApart [] = Unit {0}
AreApart (t ∷ ts) = AreOther t ts × AreApart ts

above_other : (t : Token) (from : ℕ) (us : List Token) → t.number < from → Up from (map row_of us) → AreOther t us
above_other t from [] low h = tt
above_other t from (u ∷ us) low h = ((grind (arith, nat_tests)), above_other t (u.number + 1) us (omega (arith, low, h.0)) h.1)

rise_apart : (from : ℕ) (ts : List Token) → Up from (map row_of ts) → AreApart ts
rise_apart from [] h = tt
rise_apart from (t ∷ ts) h = (above_other t (t.number + 1) ts (omega arith) h.1, rise_apart (t.number + 1) ts h.1)

pub live_apart : (settings : Settings) (t : Tables) (events : List Event) (s : ℕ) → Stands settings t events → AreApart (created_of settings s events).tokens
live_apart settings t events s st = let one = st.created.each s in rise_apart 0 (created_of settings s events).tokens (subst (Up 0) one.names one.names_rise)

abbrev IsFound : List Token → Token → Type 0
IsFound ts t = find (is_numbered t.number) ts ≡ Some t

found_behind : (t : Token) (ts us : List Token) → AreOther t us → AllByRecursion (IsFound ts) us → AllByRecursion (IsFound (t ∷ ts)) us
found_behind t ts [] other h = tt
found_behind t ts (u ∷ us) other h = (ap (λ b. cond b (Some t) (find (is_numbered u.number) ts)) other.0 ∙ h.0, found_behind t ts us other.1 h.1)

all_found : (ts : List Token) → AreApart ts → AllByRecursion (IsFound ts) ts
all_found [] h = tt
all_found (t ∷ ts) h = (ap (λ b. cond b (Some t) (find (is_numbered t.number) ts)) (num_itself t.number), found_behind t ts ts h.0 (all_found ts h.1))

-- who was asked to take none wasn't asked to take this one
unasked_of : (e k : ℕ) (cs : List Taking) → AreUnasked e cs → Unasked e k cs
unasked_of e k [] h = tt
unasked_of e k (c ∷ cs) h = (ap (λ b. b && nat_eq c.token k) h.0, unasked_of e k cs h.1)

abbrev pub no_token : Token
no_token = record { number = 0; id = integer []; text = []; begin = None }

module _ (settings : Settings) (s e : ℕ) where
  abbrev Can : List Event → Token → Type 0
  Can events t = CanOffer settings s e t.number t events

  abbrev offers : List Token → Row
  offers ts = each (offer s e) ts

  can_all : (events : List Event) (us : List Token) → AllByRecursion (IsFound (created_of settings s events).tokens) us → AreUnasked e (created_of settings s events).takings → AreSmall settings events → AllByRecursion (Can events) us
  can_all events [] found away small = tt
  can_all events (u ∷ us) found away small =
      (record { live = found.0; unasked = unasked_of e u.number (created_of settings s events).takings away; small = small }, can_all events us found.1 away small)

  -- an offer of one spares the others
  spared : (t : Token) (events : List Event) (us : List Token) → Can events t → AreOther t us → AllByRecursion (Can events) us → AllByRecursion (Can (behind events (outs (offer s e t) events))) us
  spared t events [] can other h = tt
  spared t events (u ∷ us) can other h =
      let one = h.0 in (
        record {
          live = ap (find (is_numbered u.number)) (offer_lives settings s t e events) ∙ one.live;
          unasked = offer_spares settings s t e e u.number events can (ap (λ b. nat_eq e e && b) other.0 ∙ and_none (nat_eq e e)) one.unasked;
          small = offer_small settings s t e events one.small;
        },
        spared t events us can other.1 h.1,
      )
    where
      and_none : (b : Bool) → (b && false) ≡ false
      and_none true = refl
      and_none false = refl

  -- so the next one may be offered
  can_own : (ts : List Token) (i : ℕ) (events : List Event) → i < length ts → AreApart ts → AllByRecursion (Can events) ts → Can (behind events (outs (offers (take i ts)) events)) (get_or ts i no_token)
  can_own [] i events less apart can = absurd (omega (arith, less))
  can_own (t ∷ ts) zero events less apart can = subst (λ es. Can es t) (sym (append-nil events)) can.0
  can_own (t ∷ ts) (suc i) events less apart can =
      let xs = outs (offer s e t) events in
      let mid = behind events xs in
      subst (λ es. Can es (get_or ts i no_token)) (sym (behind_more events xs (outs (offers (take i ts)) mid)))
      (can_own ts i mid (omega (arith, less)) apart.1 (spared t events ts can.0 apart.0 can.1))

  pub can_next : (base : List Event) (xs ys : List Out) (i : ℕ) → AreApart (created_of settings s (behind base xs)).tokens → i < length (created_of settings s (behind base xs)).tokens
      → AreUnasked e (created_of settings s (behind base xs)).takings → AreSmall settings (behind base xs)
      → ys ≡ xs ++ outs (offers (take i (created_of settings s (behind base xs)).tokens)) (behind base xs) → Can (behind base ys) (get_or (created_of settings s (behind base xs)).tokens i no_token)
  can_next base xs ys i apart less away small is =
      let now = behind base xs in
      let ts = (created_of settings s now).tokens in
      subst (λ es. Can es (get_or ts i no_token)) (sym (ap (behind base) is ∙ behind_more base xs (outs (offers (take i ts)) now)))
      (can_own ts i now less apart (can_all now ts (all_found ts apart) away small))

-- what is listed of one
abbrev pub listed : Token → ℕ × Bool
listed t = (t.number, is_some t.begin)

pub listed_at : (ts : List Token) (i : ℕ) (d : ℕ × Bool) → i < length ts → (get_or (map listed ts) i d).0 ≡ (get_or ts i no_token).number
listed_at [] i d less = absurd (omega (arith, less))
listed_at (t ∷ ts) zero d less = refl
listed_at (t ∷ ts) (suc i) d less = listed_at ts i d (omega (arith, less))

pub listed_length : (ts : List Token) → length (map listed ts) ≡ length ts
listed_length [] = refl
listed_length (t ∷ ts) = ap suc (listed_length ts)
