-- A request that waited before the exit of a start waits after it, as long as its editor is there.
use Rattle.std.proofs.Common.{◌≡◌, ℕ, ◌^◌, ◌<◌, Bool, true, false, ◌&&◌, ◌||◌, List, [], ◌∷◌, ◌++◌, append-nil, append_assoc, filter, map, nat_eq, Option, None, Some, ◌⊎◌, inl, inr, refl, sym, ◌∙◌, ap, ap₂, subst, arith, ltb-true, if◌then◌else◌}
use Rattle.std.specs.List.{AllByRecursion, list_any, range_with_len}
use Rattle.std.proofs.lemmas.Bool.{and_parts}
use Rattle.std.proofs.lemmas.Slice.Eq.{bytes_eq-Decides}
use Rattle.mux_history.specs.declared.cause.Cause.{Cause}
use Rattle.mux_history.specs.declared.out.Out.{Out}
use Rattle.mux_history.specs.declared.out.Out.TheVariants.{ToEditor, ToServer, Spawn, CloseEditor, EndServer}
use Rattle.rpc_message.specs.Message.{Id, message_of}
use Rattle.rpc_message.specs.ValueTexts.{IsIdText}
use Rattle.event_model.specs.Event.{Event, behind, heard, said, with_cause}
use Rattle.event_model.specs.Phases.{Desk, desk_of, editors_of, is_begun, is_there, phase_closed}
use Rattle.event_model.specs.Requests.{answered_id}
use Rattle.event_model.specs.Row.{Row, each, outs}
use Rattle.event_model.specs.Settings.{Settings}
use Rattle.event_model.proofs.Frames.{never}
use Rattle.mux_facts.specs.Ranges.{InRange}
use Rattle.mux_facts.proofs.Folds.{desk_more}
use Rattle.mux_facts.proofs.Lists.{all_filtered, all_join, all_of}
use Rattle.mux_facts.proofs.Reasons.{Because, by_choose, by_look, by_nothing, by_send, by_then}
use Rattle.mux_facts.proofs.Words.{number_same, same_number}
use Rattle.group_words.specs.Houses.{home_of, is_home}
use Rattle.group_rows.specs.held_requests.specs.declared.request.Request.{Request}
use Rattle.group_rows.specs.diagnostics_route.specs.declared.last_list.LastList.{LastList}
use Rattle.group_rows.specs.Asks.{Ask, asks_of, has_number, is_with, members_in, next_ask, running_in}
use Rattle.group_rows.specs.Created.{Taking, Token, created_of, created_text}
use Rattle.group_rows.specs.ExitRows.{cancel_ask, cancel_take, empty_list, empty_text, end_text, end_token, lose_sent, lose_start, lost_row, starts_again, turn_out, unanswered_at}
use Rattle.group_rows.specs.Forwarded.{Forwarded, forwarding_of, is_of}
use Rattle.group_rows.specs.Leaves.{cancel_text}
use Rattle.group_rows.specs.Lists.{lists_of}
use Rattle.group_rows.specs.Live.{live_of}
use Rattle.group_rows.specs.LiveRows.{unregister_any}
use Rattle.group_rows.specs.StopRows.{lose_request}
use Rattle.group_rows.specs.Waiting.{waiting_of}
use Rattle.group_rows.proofs.Cancels.{cancel_says}
use Rattle.group_rows.proofs.ExitTexts.{empty_says, end_says}
use Rattle.group_rows.proofs.Frames.{waiting_stays}
use Rattle.group_rows.proofs.ListsKept.{IsList, lists_kept}
use Rattle.group_rows.proofs.LiveTexts.{live_written, unregister_says}
use Rattle.group_rows.proofs.Moments.{asks}
use Rattle.group_facts.specs.Facts.{HasOtherId, HaveOtherIds, IsAsked, IsForwarded, IsHeld, IsTake}
use Rattle.group_facts.proofs.Begun.{all_outs}
use Rattle.group_facts.proofs.ExitEntry.{Exit}
use Rattle.group_facts.proofs.ExitOuts.{for_all}
use Rattle.group_facts.proofs.Facts.{Facts}
use Rattle.group_facts.proofs.HeldOuts.{part_by}
use Rattle.group_facts.proofs.Losses.{lost_says}
use Rattle.group_facts.proofs.PutOut.{home_did, homes_stay}
use Rattle.group_facts.proofs.Quits.{asked_while}
use Rattle.group_facts.proofs.Sent.{OneOf}
use Rattle.group_facts.proofs.StopEntry.{there_closed, there_outs}
use Rattle.group_facts.proofs.Taken.{IsBy, WaitsAt, waits_closed, waits_quiet, waits_silent, waits_told, waits_took}
use Rattle.group_sessions.proofs.ExitOuts.{Lives, all_of_one, ending, errors, exit_parts, losing, losses, told}
use Rattle.group_sessions.proofs.HeldPlaces.{less_outs}
use Rattle.group_sessions.specs.ExitReplay.{closes, is_same}

-- Requests of other ids

same_itself : (r : Request) → is_same r r ≡ true
same_itself r = ap₂ (λ a b. a && b) (same_number r.editor) (ap₂ (λ a b. a && b) ((bytes_eq-Decides r.id r.id).1 refl) ((bytes_eq-Decides r.body r.body).1 refl))

-- of one editor and id there is one
module _ (r : Request) (id : Id) (text : IsIdText id r.id) where
  abbrev IsIt : Request → Type 0
  IsIt q = IsBy r.editor id q → is_same r q ≡ true

  only : (rs : List Request) → HaveOtherIds rs → OneOf (λ (q : Request). q ≡ r) rs → AllByRecursion IsIt rs
  only [] apart one = absurd one
  only (x ∷ rs) apart (inl same) = (
    λ by. ap (is_same r) same ∙ same_itself r,
    all_of (HasOtherId x) IsIt (λ q other by. absurd (other id (by.0 ∙ sym (ap (λ (z : Request). z.editor) same)) (subst (λ (z : Request). IsIdText id z.id) (sym same) text) by.1)) rs apart.0,
  )
  only (x ∷ rs) apart (inr one) = (λ by. absurd (all_of_one (HasOtherId x) r rs apart.0 one id (sym by.0) by.1 text), only rs apart.1 one)

  found : (rs : List Request) → AllByRecursion IsIt rs → OneOf (IsBy r.editor id) rs → list_any (is_same r) rs ≡ true
  found [] all one = absurd one
  found (x ∷ rs) all (inl by) = ap (λ b. b || list_any (is_same r) rs) (all.0 by)
  found (x ∷ rs) all (inr one) = go (is_same r x) (found rs all.1 one)
    where
      go : (b : Bool) → list_any (is_same r) rs ≡ true → (b || list_any (is_same r) rs) ≡ true
      go true h = refl
      go false h = h

one_by : (r : Request) (id : Id) → IsIdText id r.id → (rs : List Request) → OneOf (λ (q : Request). q ≡ r) rs → OneOf (IsBy r.editor id) rs
one_by r id text [] one = absurd one
one_by r id text (x ∷ rs) (inl same) = inl (ap (λ (z : Request). z.editor) same, subst (λ (z : Request). IsIdText id z.id) (sym same) text)
one_by r id text (x ∷ rs) (inr one) = inr (one_by r id text rs one)

-- An editor whose link was ordered to be ended isn't there
pub closed_gone : (e : ℕ) (events : List Event) (xs : List Out) → list_any (closes e) xs ≡ true → is_there (desk_of e (behind events xs)).phase ≡ true → ⊥
closed_gone e events [] h there = never (sym h)
closed_gone e events (x ∷ xs) h there = go (closes e x) refl h (λ k. closed_gone e (events ++ said x ∷ []) xs k later)
  where
    later : is_there (desk_of e (behind (events ++ said x ∷ []) xs)).phase ≡ true
    later = subst (λ z. is_there (desk_of e z).phase ≡ true) (sym (append_assoc events (said x ∷ []) (map said xs))) there

    shut : (out : Out) → closes e out ≡ true → is_there (desk_of e (events ++ said out ∷ [])).phase ≡ true → ⊥
    shut (CloseEditor n) same still = never (sym still ∙ (ap (λ (d : Desk). is_there d.phase) (desk_more e events (said (CloseEditor n)))
        ∙ (ap (λ b. is_there (if b then record { phase = phase_closed (desk_of e events).phase; initialize = (desk_of e events).initialize } else desk_of e events).phase) same ∙ there_closed (desk_of e events).phase)))
    shut (ToEditor n body) same still = never (sym same)
    shut (ToServer n body) same still = never (sym same)
    shut (Spawn n g) same still = never (sym same)
    shut (EndServer n) same still = never (sym same)

    go : (b : Bool) → closes e x ≡ b → (b || list_any (closes e) xs) ≡ true → (list_any (closes e) xs ≡ true → ⊥) → ⊥
    go true same k rest = shut x same (there_outs e (events ++ said x ∷ []) xs later)
    go false other k rest = rest k

-- Outs that answer it not

module _ (settings : Settings) (e : ℕ) (id : Id) where
  abbrev pub Spares : Out → Type 0
  Spares (ToEditor n text) = nat_eq n e ≡ true → answered_id (message_of text) ≡ Some id → ⊥
  Spares (ToServer n body) = asks (said (ToServer n body)) ≡ false
  Spares out = Unit {0}

  -- it waits, as long as its editor is there
  abbrev Stays : List Event → Type 0
  Stays events = is_there (desk_of e events).phase ≡ true → WaitsAt settings events e id

  stays_did : (events : List Event) (out : Out) → Spares out → Stays events → Stays (events ++ said out ∷ [])
  stays_did events (ToEditor n text) spares h there = waits_told settings e id events n text spares (h (there_outs e events (ToEditor n text ∷ []) there))
  stays_did events (ToServer n body) spares h there = waits_silent settings e id events n body spares (h (there_outs e events (ToServer n body ∷ []) there))
  stays_did events (Spawn n g) spares h there = waits_quiet settings e id events (said (Spawn n g)) refl (home_did settings e events (Spawn n g)) (h (there_outs e events (Spawn n g ∷ []) there))
  stays_did events (EndServer n) spares h there = waits_quiet settings e id events (said (EndServer n)) refl (home_did settings e events (EndServer n)) (h (there_outs e events (EndServer n ∷ []) there))
  stays_did events (CloseEditor n) spares h there = go (nat_eq n e) refl
    where
      go : (b : Bool) → nat_eq n e ≡ b → WaitsAt settings (events ++ said (CloseEditor n) ∷ []) e id
      go true same = absurd (closed_gone e events (CloseEditor n ∷ []) (ap (λ b. b || false) same) there)
      go false other = waits_closed settings e id events n other (h (there_outs e events (CloseEditor n ∷ []) there))

  pub stays_outs : (events : List Event) (xs : List Out) → AllByRecursion Spares xs → Stays events → Stays (behind events xs)
  stays_outs events [] spares h = subst Stays (sym (append-nil events)) h
  stays_outs events (x ∷ xs) spares h = subst Stays (append_assoc events (said x ∷ []) (map said xs)) (stays_outs (events ++ said x ∷ []) xs spares.1 (stays_did events x spares.0 h))

-- The row of the exit

module _ (settings : Settings) (range : InRange settings) (before : List Event) (facts : Facts settings before) (cause : Cause) (s : ℕ) (exit : Exit settings before cause s) (k : Lives settings before s) (g : ℕ) (r : Request) (w : IsHeld settings g before r) where
  abbrev now : List Event
  now = with_cause before cause

  abbrev id : Id
  id = (w.asker).id

  abbrev Sp : Out → Type 0
  Sp = Spares settings r.editor id

  abbrev Spare : List Event → Row → Type 0
  Spare events row = Because (λ places out. Sp out) events row

  abbrev fs : List Forwarded
  fs = (forwarding_of settings s before).open_requests

  -- a body that answers nothing, or another editor
  plain : (n : ℕ) (text : List ℕ) → answered_id (message_of text) ≡ None → Sp (ToEditor n text)
  plain n text none same its = absurd (let clash : ◌≡◌ {A = Option Id} None (Some id) = sym none ∙ its in cc)

  other : (n : ℕ) → nat_eq n r.editor ≡ false → (text : List ℕ) → Sp (ToEditor n text)
  other n off text same its = never (sym same ∙ off)

  -- X1
  abbrev Away : Forwarded → Type 0
  Away f = f.editor ≡ r.editor → IsIdText id f.id → ⊥

  some_same : (a b : Id) → ◌≡◌ {A = Option Id} (Some a) (Some b) → a ≡ b
  some_same a b h = cc

  requests_spare : (gs : List Forwarded) → AllByRecursion (IsForwarded before) gs → AllByRecursion Away gs → (events : List Event) → Spare events (each lose_request gs)
  requests_spare [] known away events = by_nothing
  requests_spare (f ∷ gs) known away events = by_then
      (by_send (λ same its. away.0 (number_same f.editor r.editor same) (subst (λ i. IsIdText i f.id) (some_same (known.0).id id (sym (ap answered_id (lost_says before f known.0)) ∙ its)) (known.0).text)))
      (requests_spare gs known.1 away.1 (behind events (outs (lose_request f) events)))

  sent_spare : (es : List ℕ) (events : List Event) → Spare events (each (lose_sent settings before s) es)
  sent_spare [] events = by_nothing
  sent_spare (n ∷ es) events = by_then (requests_spare (filter (is_of n) fs) (all_filtered (IsForwarded before) (IsForwarded before) (is_of n) (λ f t k. k) fs (asked_while settings before (facts.steady).asked facts.quit r.editor w.there s))
      (all_filtered Away Away (is_of n) (λ f t k. k) fs (w.alone s)) events)
      (sent_spare es (behind events (outs (lose_sent settings before s n) events)))

  -- X2
  module _ (n : ℕ) where
    tokens_spare : (ts : List Token) (events : List Event) → Spare events (each (end_token s n (created_of settings s before)) ts)
    tokens_spare [] events = by_nothing
    tokens_spare (t ∷ ts) events = by_then (by_choose (λ begun. by_send (plain n (end_text (created_text s t.number)) (ap answered_id (end_says s t.number)))) (λ not_yet. by_nothing)) (tokens_spare ts (behind events (outs (end_token s n (created_of settings s before) t) events)))

    takes_spare : (cs : List Taking) → AllByRecursion (IsTake before) cs → (events : List Event) → Spare events (each (cancel_take n) cs)
    takes_spare [] known events = by_nothing
    takes_spare (c ∷ cs) known events = by_then (by_send (plain n (cancel_text c.number) (ap answered_id (cancel_says c.number (known.0).small)))) (takes_spare cs known.1 (behind events (outs (cancel_take n c) events)))

    asks_spare : (cs : List Ask) → AllByRecursion (IsAsked s before) cs → (events : List Event) → Spare events (each (cancel_ask n) cs)
    asks_spare [] known events = by_nothing
    asks_spare (a ∷ cs) known events = by_then (by_send (plain n (cancel_text a.number) (ap answered_id (cancel_says a.number (known.0).small)))) (asks_spare cs known.1 (behind events (outs (cancel_ask n a) events)))

    forgets_spare : (events : List Event) → Spare events (unregister_any (live_of settings s before) n)
    forgets_spare events = by_choose (λ some. by_look (by_choose (λ room. by_send (plain n _ (ap answered_id (unregister_says (live_of settings s before) (live_written settings s before) (next_ask n events) (small room)).1))) (λ full. by_nothing))) (λ none. by_nothing)
      where
        small : has_number n events ≡ true → next_ask n events < 2 ^ 128
        small room = let low : next_ask n events < 2 ^ 64 = ltb-true (next_ask n events) (2 ^ 64) room in omega (arith, low)

    empties_spare : (ls : List LastList) → AllByRecursion IsList ls → (events : List Event) → Spare events (each (empty_list before n) ls)
    empties_spare [] kept events = by_nothing
    empties_spare (l ∷ ls) kept events = by_then (by_choose (λ full. by_send (plain n (empty_text l.uri) (ap answered_id (empty_says l.uri (kept.0).spelt)))) (λ none. by_nothing)) (empties_spare ls kept.1 (behind events (outs (empty_list before n l) events)))

    start_spare : (events : List Event) → Spare events (lose_start settings before s n)
    start_spare events = by_then (tokens_spare (created_of settings s before).tokens events)
        (by_then (takes_spare (filter (unanswered_at n) (created_of settings s before).takings) (all_filtered (IsTake before) (IsTake before) (unanswered_at n) (λ c t k. k) (created_of settings s before).takings ((facts.steady).takes s)) _)
        (by_then (asks_spare (filter (is_with n) (asks_of settings s before)) (all_filtered (IsAsked s before) (IsAsked s before) (is_with n) (λ a t k. k) (asks_of settings s before) ((facts.steady).asks s).asked) _)
        (by_then (forgets_spare _) (empties_spare (lists_of s before) (lists_kept s before (facts.base).meant) _))))

  starts_spare : (es : List ℕ) (events : List Event) → Spare events (each (lose_start settings before s) es)
  starts_spare [] events = by_nothing
  starts_spare (n ∷ es) events = by_then (start_spare n events) (starts_spare es (behind events (outs (lose_start settings before s n) events)))

  -- X3, of another group
  turned_spare : (es : List ℕ) → AllByRecursion (λ n. nat_eq n r.editor ≡ false) es → (events : List Event) → Spare events (each (turn_out settings k.group) es)
  turned_spare [] off events = by_nothing
  turned_spare (n ∷ es) off events = by_then (by_then (by_look (by_choose (λ waits. by_send (other n off.0 _)) (λ late. by_nothing))) (part_by settings (λ places out. Sp out) k.group n (λ places body. other n off.0 body) (λ places. tt) _))
      (turned_spare es off.1 (behind events (outs (turn_out settings k.group n) events)))

  others : nat_eq g k.group ≡ false → AllByRecursion (λ n. nat_eq n r.editor ≡ false) (members_in settings k.group before)
  others apart = all_filtered (λ n. Unit {0}) (λ n. nat_eq n r.editor ≡ false) (λ n. is_begun (desk_of n before).phase && is_home k.group (home_of settings n before))
      (λ n t u. go n (and_parts (is_begun (desk_of n before).phase) (is_home k.group (home_of settings n before)) t).1 (nat_eq n r.editor) refl) (range_with_len 0 (editors_of before)) (for_all (λ n. Unit {0}) (λ n. tt) (range_with_len 0 (editors_of before)))
    where
      go : (n : ℕ) → is_home k.group (home_of settings n before) ≡ true → (b : Bool) → nat_eq n r.editor ≡ b → b ≡ false
      go n home true same = never (sym (sym (ap (is_home k.group) (ap (λ z. home_of settings z before) (number_same n r.editor same) ∙ w.home)) ∙ home) ∙ apart)
      go n home false off = refl

  abbrev pub Keeps : Type 0
  Keeps = (starts_again settings before k.group k.kept ≡ true) ⊎ (nat_eq g k.group ≡ false)

  ending_spares : Keeps → (events : List Event) → Spare events (ending settings before s k now)
  ending_spares (inl again) events = by_choose (λ yes. by_look (by_send tt)) (λ no. never (sym again ∙ no))
  ending_spares (inr apart) events = by_choose (λ yes. by_look (by_send tt)) (λ no. turned_spare (members_in settings k.group before) (others apart) events)

  pub row_spares : Keeps → AllByRecursion Sp (outs (lost_row settings before s) now)
  row_spares keeps = subst (AllByRecursion Sp) (sym (exit_parts settings before s k now))
      (all_join Sp (errors settings before s k now) (losses settings before s k now ++ outs (ending settings before s k now) (behind (told settings before s k now) (losses settings before s k now)))
      (all_outs Sp now (errors settings before s k now) (sent_spare (members_in settings k.group before) now).why)
      (all_join Sp (losses settings before s k now) (outs (ending settings before s k now) (behind (told settings before s k now) (losses settings before s k now)))
      (all_outs Sp (told settings before s k now) (losses settings before s k now) losing_spares.why)
      (all_outs Sp (behind (told settings before s k now) (losses settings before s k now)) (outs (ending settings before s k now) (behind (told settings before s k now) (losses settings before s k now))) (ending_spares keeps _).why)))
    where
      losing_spares : Spare (told settings before s k now) (losing settings before s k now)
      losing_spares = by_choose (λ ready. starts_spare (running_in settings k.group before) (told settings before s k now)) (λ off. by_nothing)

  -- so it waits
  pub still_waits : OneOf (λ (q : Request). q ≡ r) (waiting_of settings g before) → (xs : List Out) → AllByRecursion Sp xs → is_there (desk_of r.editor (behind now xs)).phase ≡ true → list_any (is_same r) (waiting_of settings g (behind now xs)) ≡ true
  still_waits one xs spares there = found r id (w.asker).text (waiting_of settings g (behind now xs))
      (less_outs settings (IsIt r id (w.asker).text) g now xs (subst (AllByRecursion (IsIt r id (w.asker).text)) (sym (waiting_stays settings g before (heard cause) exit.unmet)) (only r id (w.asker).text (waiting_of settings g before) ((facts.steady).held g).apart one)))
      (subst (λ i. OneOf (IsBy r.editor id) (waiting_of settings i (behind now xs))) same after.among)
    where
      waits_now : WaitsAt settings now r.editor id
      waits_now = waits_took settings r.editor id before cause exit.unmet (exit.home r.editor) (record { group = g; home = w.home; among = one_by r id (w.asker).text (waiting_of settings g before) one })

      after : WaitsAt settings (behind now xs) r.editor id
      after = stays_outs settings r.editor id now xs spares (λ here. waits_now) there

      same : after.group ≡ g
      same = let both : ◌≡◌ {A = Option ℕ} (Some after.group) (Some g) = sym after.home ∙ (homes_stay settings r.editor now xs ∙ (exit.home r.editor ∙ w.home)) in cc
