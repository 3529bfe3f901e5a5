-- S8: a new token is offered to each editor that runs.
use Rattle.std.proofs.Common.{◌≡◌, ℕ, zero, suc, ◌+◌, ◌<◌, ◌≤◌, Bool, true, false, not, ◌&&◌, cond, List, [], ◌∷◌, ◌++◌, append-nil, codes, filter, find, get_or, length, nat_eq, take, if◌then◌else◌, refl, ap, sym, subst, ◌∙◌, arith}
use Rattle.std.specs.Prelude.{Option, None, Some}
use Rattle.std.specs.List.{AllByRecursion}
use Rattle.std.specs.Option.{option_map}
use Rattle.std.proofs.lemmas.Bool.Decides.{nat_tests}
use Rattle.std.proofs.lemmas.List.{take_all}
use Rattle.std.proofs.lemmas.List.Elements.{filter_more}
use Rattle.json_text.specs.Json.{Json}
use Rattle.mux_history.specs.declared.cause.Cause.TheVariants.{FromServer}
use Rattle.mux_history.specs.declared.out.Out.{Out}
use Rattle.mux_history.specs.declared.out.Out.TheVariants.{ToServer}
use Rattle.rpc_message.specs.Message.{Id, id_bytes, message_of, request}
use Rattle.rpc_message.specs.Texts.{ok_text}
use Rattle.event_model.specs.declared.stage.Stage.TheVariants.{Ready}
use Rattle.event_model.specs.Does.{Alike, Does}
use Rattle.event_model.specs.Event.{Event, behind, heard, said, took, with_cause}
use Rattle.event_model.specs.Phases.{desk_of, is_running}
use Rattle.event_model.specs.Row.{Row, each, on, outs, ◌⨾◌}
use Rattle.event_model.specs.Settings.{Settings}
use Rattle.event_model.specs.Stages.{is_ready, life_of}
use Rattle.event_model.proofs.Turns.{alike, behind_more, does_alike, does_knowing}
use Rattle.group_rows.specs.Asks.{asking_of, is_single, is_taken, running_in}
use Rattle.group_rows.specs.Created.{Created, Token, created_next, created_of, created_token, is_creating, is_numbered, with_token}
use Rattle.group_rows.specs.CreatedRows.{create_row, offer}
use Rattle.group_rows.specs.Live.{is_heard}
use Rattle.group_rows.specs.LiveRows.{accept, decline}
use Rattle.mux_tables.specs.declared.tables.Tables.{Tables}
use Rattle.mux_tables.specs.Documents.{AllStand, nothing_owed}
use Rattle.mux_tables.specs.mux_tokens.proofs.Below.{tokens_below}
use Rattle.mux_tables.specs.mux_tokens.proofs.Fresh.{tokens_behind, untaken_created, untaken_stay}
use Rattle.mux_tables.specs.mux_tokens.proofs.Rows.{num_itself}
use Rattle.mux_tables.specs.mux_tokens.proofs.Standing.{created_more, next_token}
use Rattle.mux_turns.specs.Creates.{AreSmall, CanOffer, Unasked}
use Rattle.mux_turns.proofs.Offering.{number, small_behind}
use Rattle.mux_turns.proofs.Offers.{offer_lives, offer_small, offer_spares}
use Rattle.mux_starts.specs.Creates.{AreApart}
use Rattle.mux_starts.proofs.Creating.{others_before, running_apart}
use Rattle.mux_starts.proofs.Registering.{told_all}

-- Those before one of a list, and that one

module _ (P : ℕ → Type 0) where
  all_before : (es : List ℕ) (i : ℕ) → AllByRecursion P es → AllByRecursion P (take i es)
  all_before es zero h = tt
  all_before [] (suc i) h = tt
  all_before (e ∷ es) (suc i) h = (h.0, all_before es i h.1)

  one_of : (es : List ℕ) (i : ℕ) → AllByRecursion P es → i < length es → P (get_or es i 0)
  one_of [] i h less = absurd (omega (arith, less))
  one_of (e ∷ es) zero h less = h.0
  one_of (e ∷ es) (suc i) h less = one_of es i h.1 (omega (arith, less))

apart_before : (es : List ℕ) (i : ℕ) → AreApart es → AreApart (take i es)
apart_before es zero h = tt
apart_before [] (suc i) h = tt
apart_before (e ∷ es) (suc i) h = (all_before (λ d. nat_eq e d ≡ false) es i h.0, apart_before es i h.1)

-- these editors may be asked to take a live token of start s
pub record CanAsk (settings : Settings) (s k : ℕ) (t : Token) (es : List ℕ) (events : List Event) : Type 0 where
  pub live : find (is_numbered k) (created_of settings s events).tokens ≡ Some t
  pub unasked : AllByRecursion (λ e. Unasked e k (created_of settings s events).takings) es
  pub small : AreSmall settings events

module _ (settings : Settings) (s : ℕ) (t : Token) where
  abbrev row : ℕ → Row
  row = λ e. offer s e t

  other : (e d : ℕ) → nat_eq e d ≡ false → (nat_eq e d && nat_eq t.number t.number) ≡ false
  other e d h = ap (λ b. b && nat_eq t.number t.number) h

  -- an offer to one spares the others
  spared_all : (e : ℕ) (es : List ℕ) (events : List Event) → CanOffer settings s e t.number t events → AllByRecursion (λ d. nat_eq e d ≡ false) es → AllByRecursion (λ d. Unasked d t.number (created_of settings s events).takings) es
      → AllByRecursion (λ d. Unasked d t.number (created_of settings s (behind events (outs (offer s e t) events))).takings) es
  spared_all e [] events can apart h = tt
  spared_all e (d ∷ es) events can apart h = (offer_spares settings s t e d t.number events can (other e d apart.0) h.0, spared_all e es events can apart.1 h.1)

  -- and offers to others one
  each_spares : (es : List ℕ) (d : ℕ) (events : List Event) → AreApart es → AllByRecursion (λ e. nat_eq e d ≡ false) es → CanAsk settings s t.number t es events → Unasked d t.number (created_of settings s events).takings
      → Unasked d t.number (created_of settings s (behind events (outs (each row es) events))).takings
  each_spares [] d events apart others can h = subst (λ zs. Unasked d t.number (created_of settings s zs).takings) (sym (append-nil events)) h
  each_spares (e ∷ es) d events apart others can h =
      let xs = outs (offer s e t) events in
      let mid = behind events xs in
      let one : CanOffer settings s e t.number t events = record { live = can.live; unasked = can.unasked.0; small = can.small } in
      let next : CanAsk settings s t.number t es mid = record {
        live = ap (find (is_numbered t.number)) (offer_lives settings s t e events) ∙ can.live;
        unasked = spared_all e es events one apart.0 can.unasked.1;
        small = offer_small settings s t e events can.small;
      } in
      subst (λ zs. Unasked d t.number (created_of settings s zs).takings) (sym (behind_more events xs (outs (each row es) mid)))
      (each_spares es d mid apart.1 others.1 next (offer_spares settings s t e d t.number events one (other e d others.0) h))

  -- so the next one may be asked
  can_own : (es : List ℕ) (i : ℕ) (events : List Event) → i < length es → AreApart es → CanAsk settings s t.number t es events → CanOffer settings s (get_or es i 0) t.number t (behind events (outs (each row (take i es)) events))
  can_own es i events less apart can = record {
    live = ap (find (is_numbered t.number)) (tokens_behind settings s events (outs (each row (take i es)) events)) ∙ can.live;
    unasked = each_spares (take i es) (get_or es i 0) events (apart_before es i apart) (others_before es i apart less)
        (record { live = can.live; unasked = all_before (λ e. Unasked e t.number (created_of settings s events).takings) es i can.unasked; small = can.small })
        (one_of (λ e. Unasked e t.number (created_of settings s events).takings) es i can.unasked less);
    small = small_behind settings events (outs (each row (take i es)) events) can.small;
  }

  pub can_next : (k : ℕ) (es : List ℕ) (i : ℕ) (base : List Event) (xs ys : List Out) → i < length es → AreApart es → CanAsk settings s k t es (behind base xs) → ys ≡ xs ++ outs (each row (take i es)) (behind base xs) → CanOffer settings s (get_or es i 0) k t (behind base ys)
  can_next k es i base xs ys less apart can is =
      let now = behind base xs in
      subst (λ zs. CanOffer settings s (get_or es i 0) k t zs) (sym (ap (behind base) is ∙ behind_more base xs (outs (each row (take i es)) now)))
      (subst (λ n. CanAsk settings s n t es now → CanOffer settings s (get_or es i 0) n t (behind now (outs (each row (take i es)) now))) (number settings s 0 k now t can.small can.live) (can_own es i now less apart) can)

-- Those of a list that pass, one further, and in the end

module _ (keep : ℕ → Bool) (es : List ℕ) (i : ℕ) where
  pub one_kept : (b : Bool) (old new : List ℕ) → i < length es → old ≡ filter keep (take i es) → b ≡ keep (get_or es i 0) → b ≡ true → new ≡ old ++ get_or es i 0 ∷ [] → new ≡ filter keep (take (i + 1) es)
  one_kept b old new less so is on more = more ∙ (ap (λ xs. xs ++ get_or es i 0 ∷ []) so ∙ (ap (λ c. filter keep (take i es) ++ cond c (get_or es i 0 ∷ []) []) (sym on ∙ is) ∙ sym (filter_more keep es i 0 less)))

  pub one_left : (b : Bool) (old new : List ℕ) → i < length es → old ≡ filter keep (take i es) → b ≡ keep (get_or es i 0) → b ≡ false → new ≡ old → new ≡ filter keep (take (i + 1) es)
  one_left b old new less so is off same = same ∙ (so ∙ (sym (append-nil (filter keep (take i es))) ∙ (ap (λ c. filter keep (take i es) ++ cond c (get_or es i 0 ∷ []) []) (sym off ∙ is) ∙ sym (filter_more keep es i 0 less))))

  pub all_kept : (all : List ℕ) → length es ≤ i → all ≡ filter keep (take i es) → all ≡ filter keep es
  all_kept all over so = so ∙ ap (filter keep) (take_all i es over)

-- The row, by what is created

module _ (settings : Settings) (before : List Event) (g s : ℕ) (body : List ℕ) where
  pub refused_row : created_token body (created_of settings s before) ≡ None → Alike (create_row settings before g s body) (decline s body)
  refused_row none = alike (ap (λ o. on o (decline s body) (λ t. accept s body ⨾ each (λ e. offer s e t) (running_in settings g before))) none)

  pub granted_row : (t : Token) → created_token body (created_of settings s before) ≡ Some t → Alike (create_row settings before g s body) (accept s body ⨾ each (λ e. offer s e t) (running_in settings g before))
  granted_row t some = alike (ap (λ o. on o (decline s body) (λ t. accept s body ⨾ each (λ e. offer s e t) (running_in settings g before))) some)

-- what is created, by its text
pub made_by : (P : Type 0) (o : Option Token) (w : List ℕ) → option_map (λ (t : Token). t.text) o ≡ Some w → ((t : Token) → o ≡ Some t → w ≡ t.text → P) → P
made_by P None w h go = absurd (cc)
made_by P (Some t) w h go = go t refl (let same : t.text ≡ w = cc in sym same)

-- The new token behind the answer

last_found : (k : ℕ) (ts : List Token) (t : Token) → AllByRecursion (λ (u : Token). u.number < k) ts → t.number ≡ k → find (is_numbered k) (ts ++ t ∷ []) ≡ Some t
last_found k [] t h is = ap (λ b. cond b (Some t) None) (ap (λ n. nat_eq n k) is ∙ num_itself k)
last_found k (u ∷ ts) t h is = ap (λ b. cond b (Some u) (find (is_numbered k) (ts ++ t ∷ []))) (below u.number k h.0) ∙ last_found k ts t h.1 is
  where
    below : (n m : ℕ) → n < m → nat_eq n m ≡ false
    below n m less = grind (arith, nat_tests)

module _ (settings : Settings) (before : List Event) (s : ℕ) (body method : List ℕ) (id : Id) (params : Option Json) (says : message_of body ≡ request id method params) (creates : is_creating method ≡ true) (ready : (life_of s before).stage ≡ Ready)
    (fresh : is_taken (Some id) (asking_of settings s before) ≡ false) (t : Token) (makes : created_token body (created_of settings s before) ≡ Some t) where
  abbrev x : Created
  x = created_of settings s before

  abbrev base : List Event
  base = with_cause before (FromServer s body)

  is_here : is_heard settings s before id ≡ true
  is_here = ap (λ k. is_ready k && not (is_taken (Some id) (asking_of settings s before))) ready ∙ ap not fresh

  moves : created_next settings s before x (heard (FromServer s body)) ≡ with_token (Some t) x
  moves = ap (λ m. created_next settings s before x (took (FromServer s body) m)) says
      ∙ (ap (λ b. if b && (is_creating method && is_heard settings s before id) then with_token (created_token body x) x else x) (num_itself s)
      ∙ (ap (λ b. if b && is_heard settings s before id then with_token (created_token body x) x else x) creates
      ∙ (ap (λ b. if b then with_token (created_token body x) x else x) is_here ∙ ap (λ o. with_token o x) makes)))

  later : created_of settings s base ≡ with_token (Some t) x
  later = created_more settings s before (heard (FromServer s body)) ∙ moves

  numbered : t.number ≡ x.next
  numbered = (next_token body x t makes).0

  live : find (is_numbered t.number) (created_of settings s base).tokens ≡ Some t
  live = ap (λ (y : Created). find (is_numbered t.number) y.tokens) later
      ∙ last_found t.number x.tokens t (subst (λ n. AllByRecursion (λ (u : Token). u.number < n) x.tokens) (sym numbered) (tokens_below settings s before).tokens) refl

  -- no editor was asked to take it
  unasked_behind : (e : ℕ) (xs ys : List Out) (w : List ℕ) → xs ≡ [] → ys ≡ xs ++ ToServer s w ∷ [] → Unasked e t.number (created_of settings s (behind base ys)).takings
  unasked_behind e xs ys w first is = subst (λ zs. Unasked e t.number (created_of settings s (behind base zs)).takings) (sym (is ∙ ap (λ zs. zs ++ ToServer s w ∷ []) first))
      (untaken_stay settings s e t.number base (said (ToServer s w)) refl (untaken_created settings s e before body t (heard (FromServer s body)) makes moves))

  all_unasked : (es : List ℕ) (xs ys : List Out) (w : List ℕ) → xs ≡ [] → ys ≡ xs ++ ToServer s w ∷ [] → AllByRecursion (λ e. Unasked e t.number (created_of settings s (behind base ys)).takings) es
  all_unasked [] xs ys w first is = tt
  all_unasked (e ∷ es) xs ys w first is = (unasked_behind e xs ys w first is, all_unasked es xs ys w first is)

  can_ask : (n k : ℕ) (es : List ℕ) (xs ys : List Out) (w : List ℕ) → xs ≡ [] → ys ≡ xs ++ ToServer s w ∷ [] → AreSmall settings base → n ≡ s → k ≡ x.next → CanAsk settings n k t es (behind base ys)
  can_ask n k es xs ys w first is small own next = subst (λ m. CanAsk settings m k t es (behind base ys)) (sym own) (subst (λ j. CanAsk settings s j t es (behind base ys)) (numbered ∙ sym next) (record {
    live = ap (find (is_numbered t.number)) (tokens_behind settings s base ys) ∙ live;
    unasked = all_unasked es xs ys w first is;
    small = small_behind settings base ys small;
  }))

  -- the whole row: the start is answered, and each editor that runs is asked
  module _ (g : ℕ) (xs : List Out) (first : xs ≡ []) (many : is_single method ≡ false) (u v : Tables) (ys zs : List Out) (numbers : List ℕ) (those : numbers ≡ running_in settings g before) where
    pub asks_all : (n k : ℕ) → n ≡ s → k ≡ x.next → AreSmall settings base → Does (λ k events. AllStand settings k events) (accept s body) base (u, nothing_owed) xs (u, nothing_owed) ys
        → (AreApart numbers → AllByRecursion (λ e. is_running (desk_of e (behind base ys)).phase ≡ true) numbers → ((j : ℕ) → (asking_of settings j (behind base ys)).asker ≡ None) → CanAsk settings n k t numbers (behind base ys)
        → Does (λ k events. AllStand settings k events) (each (λ e. offer n e t) numbers) base (u, nothing_owed) ys (v, nothing_owed) zs)
        → Does (λ k events. AllStand settings k events) (create_row settings before g s body) base (u, nothing_owed) xs (v, nothing_owed) zs
    asks_all n k own next small granted go = does_alike (λ _. granted_row settings before g s body t makes) (does_knowing (λ known.
        let can : CanAsk settings n k t numbers (behind base ys) = can_ask n k numbers xs ys (ok_text (id_bytes body) (codes "null")) first (granted.done known).outs small own next in
        told_all settings before s g body method id params xs first says many u v ys zs numbers those (λ e. offer s e t) granted
        (λ runs idle. subst (λ m. Does (λ k events. AllStand settings k events) (each (λ e. offer m e t) numbers) base (u, nothing_owed) ys (v, nothing_owed) zs) own (go (subst AreApart (sym those) (running_apart settings g before)) runs idle can))))
