-- What a start owes an editor, through an entry: it stays, or the editor is asked it.
use Rattle.std.proofs.Common.{◌≡◌, ◌⊎◌, inl, inr, ℕ, ◌+◌, ◌≤◌, ◌^◌, Bool, true, false, not, ◌&&◌, ◌||◌, cond, List, [], ◌∷◌, ◌++◌, map, append_assoc, bytes_eq, decimal, nat_eq, nat_lt, ltb-false, le-ltb, if◌then◌else◌, refl, sym, ◌∙◌, ap, subst, arith}
use Rattle.std.specs.List.{list_any}
use Rattle.std.proofs.lemmas.List.Sums.{fold-append}
use Rattle.mux_history.specs.declared.cause.Cause.{Cause}
use Rattle.mux_history.specs.declared.cause.Cause.TheVariants.{Joined, FromEditor, EditorGone, Started, StartFailed, FromServer, ServerGone, Drained, Tick}
use Rattle.mux_history.specs.declared.out.Out.{Out}
use Rattle.mux_history.specs.declared.out.Out.TheVariants.{ToEditor, ToServer, Spawn, CloseEditor, EndServer}
use Rattle.rpc_message.specs.Message.{Message, message_of, request, notification, result, error, not_json, not_message}
use Rattle.rpc_message.specs.Texts.{with_id_text}
use Rattle.event_model.specs.Event.{Event, behind, did, heard, said, with_cause}
use Rattle.event_model.specs.Row.{choose, each, nothing, outs, send}
use Rattle.event_model.specs.Settings.{Settings}
use Rattle.event_model.proofs.Frames.{never}
use Rattle.mux_facts.proofs.Keeps.{behind_both, behind_nothing}
use Rattle.mux_facts.proofs.Words.{number_same}
use Rattle.group_rows.specs.refresh_debts.specs.declared.debts.Debt.{Debt}
use Rattle.group_rows.specs.refresh_debts.specs.Tables.{is_of, is_same, with_debt, without}
use Rattle.group_rows.specs.AskRows.{ask}
use Rattle.group_rows.specs.Asks.{asked_behind, has_number, next_ask}
use Rattle.group_rows.specs.Debts.{agrees_on_all, asks_anew, debt_of, debts_asked, debts_next, debts_of, ends_debts, owed_by, pays_debts, runs_at}
use Rattle.group_rows.proofs.DebtsKept.{debts_more}
use Rattle.group_facts.proofs.AskEntries.{off_both}
use Rattle.group_sessions.specs.Refreshes.{IsSent, asks_again, wants_again}

-- one of them
abbrev pub Has : Debt → List Debt → Type 0
Has d [] = ⊥
Has d (x ∷ ds) = (x ≡ d) ⊎ Has d ds

without_has : (d : Debt) (test : Debt → Bool) (ds : List Debt) → test d ≡ false → Has d ds → Has d (without test ds)
without_has d test [] off h = h
without_has d test (x ∷ ds) off h = go (test x) refl h (without_has d test ds off)
  where
    go : (b : Bool) → test x ≡ b → Has d (x ∷ ds) → (Has d ds → Has d (without test ds)) → Has d (cond (not b) (x ∷ without test ds) (without test ds))
    go true is (inl same) rest = never (sym is ∙ (ap test same ∙ off))
    go true is (inr k) rest = rest k
    go false is (inl same) rest = inl same
    go false is (inr k) rest = inr (rest k)

with_has : (new d : Debt) (ds : List Debt) → is_same new.start new.editor new.method d ≡ false → Has d ds → Has d (with_debt new ds)
with_has new d [] off h = absurd h
with_has new d (x ∷ ds) off h = go (is_same new.start new.editor new.method x) refl h (with_has new d ds off)
  where
    go : (b : Bool) → is_same new.start new.editor new.method x ≡ b → Has d (x ∷ ds) → (Has d ds → Has d (with_debt new ds)) → Has d (if b then new ∷ ds else x ∷ with_debt new ds)
    go true is (inl same) rest = never (sym is ∙ (ap (is_same new.start new.editor new.method) same ∙ off))
    go true is (inr k) rest = inr k
    go false is (inl same) rest = inl same
    go false is (inr k) rest = inr (rest k)

pub put_has : (new : Debt) (ds : List Debt) → Has new (with_debt new ds)
put_has new [] = inl refl
put_has new (x ∷ ds) = go (is_same new.start new.editor new.method x) (put_has new ds)
  where
    go : (b : Bool) → Has new (with_debt new ds) → Has new (if b then new ∷ ds else x ∷ with_debt new ds)
    go true rest = inl refl
    go false rest = inr rest

and_off : (a : Bool) → (a && false) ≡ false
and_off true = refl
and_off false = refl

off_true : (a : Bool) → (a && true) ≡ false → a ≡ false
off_true true h = h
off_true false h = refl

-- Numbers

lt_up : (n b : ℕ) → nat_lt n b ≡ false → nat_lt (n + 1) b ≡ false
lt_up n b full = let least : b ≤ n = ltb-false n b full in le-ltb (n + 1) b (omega (arith, least))

next_more : (e : ℕ) (events : List Event) (event : Event) → next_ask e (events ++ event ∷ []) ≡ asked_behind e (next_ask e events) event
next_more e events event = fold-append (asked_behind e) 1 events (event ∷ [])

full_did : (e : ℕ) (events : List Event) (out : Out) → has_number e events ≡ false → has_number e (events ++ said out ∷ []) ≡ false
full_did e events out full = ap (λ n. nat_lt n (2 ^ 64)) (next_more e events (said out)) ∙ by out
  where
    by_message : (k : ℕ) (body : List ℕ) (m : Message) → nat_lt (asked_behind e (next_ask e events) (did (ToEditor k body) m)) (2 ^ 64) ≡ false
    by_message k body (request id method params) = go (nat_eq k e)
      where
        go : (b : Bool) → nat_lt (if b then next_ask e events + 1 else next_ask e events) (2 ^ 64) ≡ false
        go true = lt_up (next_ask e events) (2 ^ 64) full
        go false = full
    by_message k body (notification method params) = full
    by_message k body (result id r) = full
    by_message k body (error id x) = full
    by_message k body not_json = full
    by_message k body not_message = full

    by : (out : Out) → nat_lt (asked_behind e (next_ask e events) (said out)) (2 ^ 64) ≡ false
    by (ToEditor k body) = by_message k body (message_of body)
    by (ToServer n body) = full
    by (Spawn n g) = full
    by (CloseEditor n) = full
    by (EndServer n) = full

pub full_stays : (e : ℕ) (events : List Event) (xs : List Out) → has_number e events ≡ false → has_number e (behind events xs) ≡ false
full_stays e events [] full = subst (λ z. has_number e z ≡ false) (sym (behind_nothing events)) full
full_stays e events (x ∷ xs) full = subst (λ z. has_number e z ≡ false) (append_assoc events (said x ∷ []) (map said xs)) (full_stays e (events ++ said x ∷ []) xs (full_did e events x full))

-- What is asked stands among more outs

module _ (e : ℕ) (body : List ℕ) where
  pub sent_behind : (xs ys : List Out) → IsSent e body ys → IsSent e body (xs ++ ys)
  sent_behind xs ys k = record {
    number = k.number;
    earlier = xs ++ k.earlier;
    later = k.later;
    sent = ap (λ z. xs ++ z) k.sent ∙ sym (append_assoc xs k.earlier (ToEditor e (with_id_text body (decimal k.number)) ∷ k.later));
  }

  pub sent_before : (ys zs : List Out) → IsSent e body ys → IsSent e body (ys ++ zs)
  sent_before ys zs k = record {
    number = k.number;
    earlier = k.earlier;
    later = k.later ++ zs;
    sent = ap (λ z. z ++ zs) k.sent ∙ append_assoc k.earlier (ToEditor e (with_id_text body (decimal k.number)) ∷ k.later) zs;
  }

  -- it is asked by these outs, or no number is left behind them
  abbrev pub Told : List Event → List Out → Type 0
  Told events xs = IsSent e body xs ⊎ (has_number e (behind events xs) ≡ false)

  pub told_behind : (events : List Event) (xs ys : List Out) → Told (behind events xs) ys → Told events (xs ++ ys)
  told_behind events xs ys (inl k) = inl (sent_behind xs ys k)
  told_behind events xs ys (inr full) = inr (subst (λ z. has_number e z ≡ false) (sym (behind_both events xs ys)) full)

  pub told_before : (events : List Event) (xs ys : List Out) → Told events xs → Told events (xs ++ ys)
  told_before events xs ys (inl k) = inl (sent_before xs ys k)
  told_before events xs ys (inr full) = inr (subst (λ z. has_number e z ≡ false) (sym (behind_both events xs ys)) (full_stays e (behind events xs) ys full))

  one_told : (text : List ℕ) → text ≡ body → (n : ℕ) → n ≡ e → (events : List Event) → Told events (outs (ask text n) events)
  one_told text same n it events = subst (λ k. Told events (outs (ask text k) events)) (sym it) (subst (λ z. Told events (outs (ask z e) events)) (sym same) (go (has_number e events) refl))
    where
      now : List Out
      now = outs (ask body e) events

      go : (b : Bool) → has_number e events ≡ b → Told events now
      go true room = inl (record { number = next_ask e events; earlier = []; later = []; sent = ap (λ b. outs (choose b (send (ToEditor e (with_id_text body (decimal (next_ask e events))))) nothing) events) room })
      go false full = inr (full_stays e events now full)

  -- each of these editors is asked, and this is one of them
  pub each_told : (es : List ℕ) → list_any (λ k. nat_eq k e) es ≡ true → (events : List Event) → Told events (outs (each (ask body) es) events)
  each_told [] h events = never (sym h)
  each_told (n ∷ es) h events = go (nat_eq n e) refl h (λ k. each_told es k (behind events (outs (ask body n) events)))
    where
      first : List Out
      first = outs (ask body n) events

      rest : List Out
      rest = outs (each (ask body) es) (behind events first)

      go : (b : Bool) → nat_eq n e ≡ b → (b || list_any (λ k. nat_eq k e) es) ≡ true → (list_any (λ k. nat_eq k e) es ≡ true → Told (behind events first) rest) → Told events (first ++ rest)
      go true same k later = told_before events first rest (one_told body refl n (number_same n e same) events)
      go false other k later = told_behind events first rest (later k)

-- What is owed

module _ (settings : Settings) (s e : ℕ) (body method : List ℕ) where
  abbrev pub debt : Debt
  debt = debt_of s e method body

  -- the editor is asked all that it is owed
  pub each_paid : (ds : List Debt) → Has debt ds → (events : List Event) → Told e body events (outs (each (λ (d : Debt). ask d.body e) ds) events)
  each_paid [] h events = absurd h
  each_paid (x ∷ ds) h events = go h (λ k. each_paid ds k (behind events (outs (ask x.body e) events)))
    where
      first : List Out
      first = outs (ask x.body e) events

      rest : List Out
      rest = outs (each (λ (d : Debt). ask d.body e) ds) (behind events first)

      go : (x ≡ debt) ⊎ Has debt ds → (Has debt ds → Told e body (behind events first) rest) → Told e body events (first ++ rest)
      go (inl same) later = told_before e body events first rest (one_told e body x.body (ap (λ (d : Debt). d.body) same) e refl events)
      go (inr k) later = told_behind e body events first rest (later k)

  other_is : (other : List ℕ) → bytes_eq method other ≡ false → is_same s e other debt ≡ false
  other_is other off = ap (λ b. is_of s e debt && b) off ∙ and_off (is_of s e debt)

  -- it stays, where the start doesn't want the same again
  asked_has : (before : List Event) (text : List ℕ) (ds : List Debt) → Has debt ds → (m : Message) → asks_again settings s before method m ≡ false → Has debt (debts_asked settings s e before text m ds)
  asked_has before text ds h (request id other params) off = go (asks_anew settings s before id other) off (runs_at settings s before e) (agrees_on_all settings s before e)
    where
      go : (a : Bool) → (bytes_eq method other && a) ≡ false → (r c : Bool) → Has debt (if a && r then owed_by c (debt_of s e other text) ds else ds)
      go true off true true = without_has debt (is_same s e other) ds (other_is other (off_true (bytes_eq method other) off)) h
      go true off true false = with_has (debt_of s e other text) debt ds (other_is other (off_true (bytes_eq method other) off)) h
      go true off false c = h
      go false off r c = h
  asked_has before text ds h (notification other params) off = h
  asked_has before text ds h (result id r) off = h
  asked_has before text ds h (error id x) off = h
  asked_has before text ds h not_json off = h
  asked_has before text ds h not_message off = h

  stays : (ds : List Debt) → Has debt ds → (a b : Bool) → a ≡ false → b ≡ false → Has debt (if a || b then [] else ds)
  stays ds h true b x y = never x
  stays ds h false true x y = never y
  stays ds h false false x y = h

  pub took_has : (before : List Event) (cause : Cause) → wants_again settings s before method cause ≡ false → ends_debts s e (heard cause) ≡ false → pays_debts settings s e before (heard cause) ≡ false
      → Has debt (debts_of settings s e before) → Has debt (debts_of settings s e (with_cause before cause))
  took_has before cause again ends pays h = subst (Has debt) (sym (debts_more settings s e before (heard cause))) (by cause again ends pays)
    where
      ds : List Debt
      ds = debts_of settings s e before

      by : (c : Cause) → wants_again settings s before method c ≡ false → ends_debts s e (heard c) ≡ false → pays_debts settings s e before (heard c) ≡ false → Has debt (debts_next settings s e before ds (heard c))
      by (FromServer n text) again ends pays = go (nat_eq n s) again
        where
          go : (b : Bool) → (b && asks_again settings s before method (message_of text)) ≡ false → Has debt (if b then debts_asked settings s e before text (message_of text) ds else ds)
          go true off = asked_has before text ds h (message_of text) off
          go false off = h
      by (FromEditor n text) again ends pays = stays ds h (ends_debts s e (heard (FromEditor n text))) (pays_debts settings s e before (heard (FromEditor n text))) ends pays
      by (EditorGone n why) again ends pays = stays ds h (nat_eq n e) false ends refl
      by (StartFailed n) again ends pays = stays ds h (nat_eq n s) false ends refl
      by (ServerGone n) again ends pays = stays ds h (nat_eq n s) false ends refl
      by (Joined n) again ends pays = h
      by (Started n) again ends pays = h
      by (Drained n k) again ends pays = h
      by (Tick t) again ends pays = h

  did_has : (events : List Event) (out : Out) → ends_debts s e (said out) ≡ false → Has debt (debts_of settings s e events) → Has debt (debts_of settings s e (events ++ said out ∷ []))
  did_has events out off h = subst (Has debt) (sym (debts_more settings s e events (said out))) (by out off)
    where
      by : (x : Out) → ends_debts s e (said x) ≡ false → Has debt (debts_next settings s e events (debts_of settings s e events) (said x))
      by (CloseEditor n) off = stays (debts_of settings s e events) h (nat_eq n e) false off refl
      by (ToEditor n text) off = h
      by (ToServer n text) off = h
      by (Spawn n g) off = h
      by (EndServer n) off = h

  pub outs_has : (events : List Event) (xs : List Out) → list_any (λ out. ends_debts s e (said out)) xs ≡ false → Has debt (debts_of settings s e events) → Has debt (debts_of settings s e (behind events xs))
  outs_has events [] off h = subst (λ z. Has debt (debts_of settings s e z)) (sym (behind_nothing events)) h
  outs_has events (x ∷ xs) off h =
      let both = off_both (ends_debts s e (said x)) (list_any (λ out. ends_debts s e (said out)) xs) off in
      subst (λ z. Has debt (debts_of settings s e z)) (append_assoc events (said x ∷ []) (map said xs)) (outs_has (events ++ said x ∷ []) xs both.1 (did_has events x both.0 h))
