-- The open request that a token for progress is of: what is found among those that are kept is what the events say.
use Rattle.std.proofs.Common.{◌≡◌, ℕ, ◌+◌, ◌*◌, ◌/◌, ◌%◌, ◌≤◌, ◌<◌, ◌^◌, Bool, true, false, ◌&&◌, ◌||◌, List, [], ◌∷◌, map, length, get_or, refl, ap, ap₂, sym, subst, ◌∙◌, cond, arith, nat_eq, if◌then◌else◌}
use Rattle.std.specs.Prelude.{IfOk, Option, Some, None, Result, Ok, Err, find, is_some, option_map, slice_get}
use Rattle.std.specs.List.{AllByRecursion}
use Rattle.std.specs.Option.{option_and_then, option_map_or}
use Rattle.std.proofs.lemmas.Bool.Decides.{nat_tests}
use Rattle.json_text.specs.Bare.{bare}
use Rattle.json_text.specs.Json.{Json, array, number, object, string, value, word}
use Rattle.rpc_message.specs.Message as message
use Rattle.rpc_message.specs.Message.{Id, id_of, integer, integer_if, is_integer, same_id}
use Rattle.rpc_message.specs.ValueTexts.{IsIdText}
use Rattle.event_model.specs.Event.{Event}
use Rattle.event_model.specs.Members.{is_token}
use Rattle.event_model.specs.Phases.{desk_of}
use Rattle.event_model.specs.Settings.{Settings}
use Rattle.event_model.proofs.Frames.{never}
use Rattle.group_laws.specs.group_rows.specs.Forwarded.{Forwarded, forwarding_of}
use Rattle.group_laws.specs.group_rows.specs.Tokens.{is_told, is_token_of, is_worked, listens, own_token}
use Rattle.group_laws.specs.group_rows.proofs.Cancelling.{text_meant}
use Rattle.group_laws.specs.group_rows.proofs.TokenTexts.{HasTokens, IsTokenText, tokens_kept}
use Rattle.id_rewrite.specs.declared.pending.Pending.{Pending}
use Rattle.id_rewrite.specs.declared.pending.Numbered.{Numbered}
use Rattle.id_rewrite.specs.Tables as tables
use Rattle.id_rewrite.specs.Tables.{RiseWithin}
use Rattle.id_rewrite.proofs.Finding.{texts_same}
use Rattle.mux_tables.specs.declared.tables.Start.{Start}
use Rattle.mux_tables.specs.declared.tables.Tables.{Tables}
use Rattle.mux_tables.specs.Stands.{Stands, forwarded_as, forwarded_of, number_in, of_ids}
use Rattle.mux_tables.specs.Tokens.{IsTold, MarksAt, is_work, own_of, works}
use Rattle.mux_tables.proofs.Frames.{itself}
use Rattle.mux_tables.proofs.IdMoves.{rise_from}
use Rattle.mux_tables.proofs.Noting.{below_next}
use Rattle.mux_tables.proofs.Starts.{read_here, start_at_place}

-- what only the request of one number passes
module _ (p : Forwarded → Bool) (n to : ℕ) (only : (r : Numbered) → r.number < to → p (forwarded_of r) ≡ true → r.number ≡ n) where
  none_above : (from : ℕ) (rs : List Numbered) → RiseWithin from to rs → n < from → find p (map forwarded_of rs) ≡ None
  none_above from [] h l = refl
  none_above from (r ∷ rs) h l =
      let k = rise_from (r.number + 1) to rs h.1 in
      let a = h.0 in
      go (p (forwarded_of r)) refl (omega arith) (omega arith) (none_above (r.number + 1) rs h.1 (omega arith))
    where
      go : (b : Bool) → p (forwarded_of r) ≡ b → r.number < to → n < r.number → find p (map forwarded_of rs) ≡ None → cond b (Some (forwarded_of r)) (find p (map forwarded_of rs)) ≡ None
      go true is below above rest = let same = only r below is in absurd (omega arith)
      go false is below above rest = rest

  abbrev passed : Option Pending → Option Forwarded
  passed None = None
  passed (Some q) = if p (forwarded_as n q) then Some (forwarded_as n q) else None

  found_only : (from : ℕ) (rs : List Numbered) → RiseWithin from to rs → find p (map forwarded_of rs) ≡ passed (tables.pending_of n rs)
  found_only from [] h = refl
  found_only from (r ∷ rs) h =
      let k = rise_from (r.number + 1) to rs h.1 in
      let a = h.0 in
      by_number (nat_eq r.number n) refl (omega arith) (found_only (r.number + 1) rs h.1)
    where
      here : r.number ≡ n → (b : Bool) → p (forwarded_of r) ≡ b → cond b (Some (forwarded_of r)) (find p (map forwarded_of rs)) ≡ cond b (Some (forwarded_of r)) None
      here same true is = refl
      here same false is = none_above (r.number + 1) rs h.1 (omega arith)

      elsewhere : (b : Bool) → p (forwarded_of r) ≡ b → nat_eq r.number n ≡ false → r.number < to → find p (map forwarded_of rs) ≡ passed (tables.pending_of n rs) → cond b (Some (forwarded_of r)) (find p (map forwarded_of rs)) ≡ passed (tables.pending_of n rs)
      elsewhere true is off below rest = let same = only r below is in absurd (grind (arith, nat_tests))
      elsewhere false is off below rest = rest

      by_number : (b : Bool) → nat_eq r.number n ≡ b → r.number < to → find p (map forwarded_of rs) ≡ passed (tables.pending_of n rs)
          → cond (p (forwarded_of r)) (Some (forwarded_of r)) (find p (map forwarded_of rs)) ≡ passed (option_map (λ (q : Numbered). q.pending) (cond b (Some r) (find (tables.has_number n) rs)))
      by_number true is below rest =
          let same : r.number ≡ n = grind (arith, nat_tests) in
          here same (p (forwarded_of r)) refl ∙ ap (λ m. if p (forwarded_as m r.pending) then Some (forwarded_as m r.pending) else None) same
      by_number false is below rest = elsewhere (p (forwarded_of r)) refl is below rest

-- the daemon's token of number k is one of this request's
abbrev own_in : ℕ → Numbered → Option (List ℕ)
own_in k r = if nat_eq (2 * r.number) k then r.pending.work else if nat_eq (2 * r.number + 1) k then r.pending.partial else None

own_so : (token : Option Json) (k : ℕ) (r : Numbered) → MarksAt token (Some k) → r.number < 2 ^ 32 → own_token token (forwarded_of r) ≡ own_in k r
own_so token k r marks l = ap₂ (λ a b. if a then r.pending.work else if b then r.pending.partial else None) (marks (2 * r.number) (omega arith)) (marks (2 * r.number + 1) (omega arith))

own_none : (token : Option Json) (r : Numbered) → MarksAt token None → r.number < 2 ^ 32 → own_token token (forwarded_of r) ≡ None
own_none token r marks l = ap₂ (λ a b. if a then r.pending.work else if b then r.pending.partial else None) (marks (2 * r.number) (omega arith)) (marks (2 * r.number + 1) (omega arith))

own_here : (k n : ℕ) (p : Pending) → n ≡ k / 2 → own_in k (record { number = n; pending = p }) ≡ own_of k p
own_here k n p is = go (nat_eq (2 * n) k) (nat_eq (2 * n + 1) k) (nat_eq (k % 2) 0) refl refl refl
  where
    go : (a b c : Bool) → nat_eq (2 * n) k ≡ a → nat_eq (2 * n + 1) k ≡ b → nat_eq (k % 2) 0 ≡ c → (if a then p.work else if b then p.partial else None) ≡ (if c then p.work else p.partial)
    go true b true x y z = refl
    go true b false x y z = absurd (grind (arith, nat_tests))
    go false true false x y z = refl
    go false true true x y z = absurd (grind (arith, nat_tests))
    go false false c x y z = absurd (grind (arith, nat_tests))

own_off : (k : ℕ) (r : Numbered) → (o : Option (List ℕ)) → own_in k r ≡ o → is_some o ≡ true → r.number ≡ k / 2
own_off k r o is some = go (nat_eq (2 * r.number) k) (nat_eq (2 * r.number + 1) k) refl refl is
  where
    go : (a b : Bool) → nat_eq (2 * r.number) k ≡ a → nat_eq (2 * r.number + 1) k ≡ b → (if a then r.pending.work else if b then r.pending.partial else None) ≡ o → r.number ≡ k / 2
    go true b x y e = let same : 2 * r.number ≡ k = grind (arith, nat_tests) in omega arith
    go false true x y e = let same : 2 * r.number + 1 ≡ k = grind (arith, nat_tests) in omega arith
    go false false x y e = never (sym (ap is_some e ∙ some))

-- both hold
first_of : (a b : Bool) → (a && b) ≡ true → a ≡ true
first_of true b h = refl
first_of false b h = never (sym h)

-- S13: the group's last start
module _ (settings : Settings) (t : Tables) (before : List Event) (g s : ℕ) (z : Start) (token : Option Json) (at : slice_get (map number_in t.lasts.items) g ≡ Some s) (here : slice_get t.lasts.items g ≡ Some z) (st : Stands settings t before) where
  opened : (forwarding_of settings s before).open_requests ≡ map forwarded_of z.ids.requests
  opened = ap (λ n. (forwarding_of settings n before).open_requests) (sym (start_at_place t.lasts.items g s z here at)) ∙ ((st.lasts.each g z here).parts of_ids).open_requests

  ends : z.ids.next < 2 ^ 32
  ends =
      let ids = (st.lasts.each g z here).parts of_ids in
      let last = ids.ends in
      let low = ids.order.within in
      let range = st.range in
      omega arith

  rising : RiseWithin 2 z.ids.next z.ids.requests
  rising = ((st.lasts.each g z here).parts of_ids).order.rising

  -- it is none of the daemon's tokens
  pub unmarked : MarksAt token None → find (is_told before token) (forwarding_of settings s before).open_requests ≡ None
  unmarked marks = ap (find (is_told before token)) opened ∙ none_above (is_told before token) 0 z.ids.next only 2 z.ids.requests rising (omega arith)
    where
      only : (r : Numbered) → r.number < z.ids.next → is_told before token (forwarded_of r) ≡ true → r.number ≡ 0
      only r l is = let e = ends in never (sym (first_of (is_some (own_token token (forwarded_of r))) (listens (desk_of r.pending.editor before).phase) is) ∙ ap is_some (own_none token r marks (omega arith)))

  -- it is the daemon's token of number k
  module _ (k : ℕ) (marks : MarksAt token (Some k)) where
    only_own : (r : Numbered) → r.number < z.ids.next → is_told before token (forwarded_of r) ≡ true → r.number ≡ k / 2
    only_own r l is =
        let e = ends in
        own_off k r (own_token token (forwarded_of r)) (sym (own_so token k r marks (omega arith))) (first_of (is_some (own_token token (forwarded_of r))) (listens (desk_of r.pending.editor before).phase) is)

    found_so : (o : Option Pending) → o ≡ tables.pending_of (k / 2) z.ids.requests → find (is_told before token) (forwarding_of settings s before).open_requests ≡ passed (is_told before token) (k / 2) z.ids.next only_own o
    found_so o is = ap (find (is_told before token)) opened ∙ (found_only (is_told before token) (k / 2) z.ids.next only_own 2 z.ids.requests rising ∙ ap (passed (is_told before token) (k / 2) z.ids.next only_own) (sym is))

    pub unopened : (n : ℕ) → n ≡ k / 2 → None ≡ tables.pending_of n z.ids.requests → find (is_told before token) (forwarding_of settings s before).open_requests ≡ None
    unopened n same is = found_so None (is ∙ ap (λ m. tables.pending_of m z.ids.requests) same)

    -- the number is past those that are given
    pub past : 2 ^ 32 ≤ k / 2 → find (is_told before token) (forwarding_of settings s before).open_requests ≡ None
    past l = found_so (tables.pending_of (k / 2) z.ids.requests) refl ∙ ap (passed (is_told before token) (k / 2) z.ids.next only_own) (go (tables.pending_of (k / 2) z.ids.requests) refl)
      where
        go : (o : Option Pending) → tables.pending_of (k / 2) z.ids.requests ≡ o → o ≡ None
        go None e = refl
        go (Some p) e = let limit = ends in let low = below_next (k / 2) 2 z.ids.next z.ids.requests p rising e in absurd (omega arith)

    -- the request of that number is open
    module _ (n : ℕ) (p : Pending) (same : n ≡ k / 2) (is : Some p ≡ tables.pending_of n z.ids.requests) where
      own_is : own_token token (forwarded_as (k / 2) p) ≡ own_of k p
      own_is =
          let e = ends in
          let low = below_next n 2 z.ids.next z.ids.requests p rising (sym is) in
          own_so token k (record { number = k / 2; pending = p }) marks (omega arith) ∙ own_here k (k / 2) p refl

      told_by : find (is_told before token) (forwarding_of settings s before).open_requests ≡ (if is_some (own_of k p) && listens (desk_of p.editor before).phase then Some (forwarded_as (k / 2) p) else None)
      told_by = found_so (Some p) (is ∙ ap (λ m. tables.pending_of m z.ids.requests) same) ∙ ap (λ o. if is_some o && listens (desk_of p.editor before).phase then Some (forwarded_as (k / 2) p) else None) own_is

      pub unowned : None ≡ own_of k p → find (is_told before token) (forwarding_of settings s before).open_requests ≡ None
      unowned none = told_by ∙ ap (λ o. if is_some o && listens (desk_of p.editor before).phase then Some (forwarded_as (k / 2) p) else None) (sym none)

      pub away : (text : List ℕ) → Some text ≡ own_of k p → listens (desk_of p.editor before).phase ≡ false → find (is_told before token) (forwarding_of settings s before).open_requests ≡ None
      away text own off = told_by ∙ ap₂ (λ o b. if is_some o && b then Some (forwarded_as (k / 2) p) else None) (sym own) off

      pub told : (text : List ℕ) → Some text ≡ own_of k p → listens (desk_of p.editor before).phase ≡ true → IsTold before token (forwarding_of settings s before).open_requests p.editor text
      told text own on = record {
        request = forwarded_as (k / 2) p;
        found = told_by ∙ ap₂ (λ o b. if is_some o && b then Some (forwarded_as (k / 2) p) else None) (sym own) on;
        asker = refl;
        own = own_is ∙ sym own;
        there = on;
      }

-- E11: what is kept under a number that rises is its own
abbrev Own : (Option Pending → Bool) → (ℕ → Bool) → List Numbered → Type 0
Own q test rs = AllByRecursion (λ r. test r.number ≡ q (Some r.pending)) rs

own_tests : (q : Option Pending → Bool) (test : ℕ → Bool) (from to : ℕ) (rs : List Numbered) → RiseWithin from to rs → ((n : ℕ) → from ≤ n → test n ≡ q (tables.pending_of n rs)) → Own q test rs
own_tests q test from to [] h f = tt
own_tests q test from to (r ∷ rs) h f = (f r.number h.0 ∙ first (nat_eq r.number r.number) (itself r.number), own_tests q test (r.number + 1) to rs h.1 (λ n l. let k = h.0 in f n (omega arith) ∙ later n (nat_eq r.number n) (grind (arith, nat_tests))))
  where
    first : (b : Bool) → b ≡ true → q (option_map (λ (x : Numbered). x.pending) (cond b (Some r) (find (tables.has_number r.number) rs))) ≡ q (Some r.pending)
    first true h = refl
    first false h = never (sym h)

    later : (n : ℕ) (b : Bool) → b ≡ false → q (option_map (λ (x : Numbered). x.pending) (cond b (Some r) (find (tables.has_number n) rs))) ≡ q (tables.pending_of n rs)
    later n true h = never h
    later n false h = refl

-- the first of an editor's requests that passes
abbrev is_first : ℕ → (Option Pending → Bool) → Numbered → Bool
is_first e q r = tables.is_of e r && q (Some r.pending)

found_filtered : (e : ℕ) (q : Option Pending → Bool) (test : ℕ → Bool) (rs : List Numbered) → Own q test rs → find test (tables.numbers_of e rs) ≡ option_map (λ (r : Numbered). r.number) (find (is_first e q) rs)
found_filtered e q test [] h = refl
found_filtered e q test (r ∷ rs) h = go (nat_eq r.pending.editor e) (q (Some r.pending)) refl h.0 refl (found_filtered e q test rs h.1)
  where
    go : (mine b : Bool) → nat_eq r.pending.editor e ≡ mine → test r.number ≡ b → q (Some r.pending) ≡ b → find test (tables.numbers_of e rs) ≡ option_map (λ (x : Numbered). x.number) (find (is_first e q) rs)
        → find test (tables.numbers_of e (r ∷ rs)) ≡ option_map (λ (x : Numbered). x.number) (find (is_first e q) (r ∷ rs))
    go true true m k o rest = rw (m, k, o) refl
    go true false m k o rest = rw (m, k, o) rest
    go false b m k o rest = rw m rest

-- the text of a token is an id's
id_text : (bytes : List ℕ) → IsTokenText bytes → (id : Id) × IsIdText id bytes
id_text bytes h = go h.text.tree h.text.stands (ap (λ j. is_token (Some j)) h.text.same ∙ h.token)
  where
    go : (t : Json) → value t 0 bytes → is_token (Some (bare t)) ≡ true → (id : Id) × IsIdText id bytes
    go (number s ds) v k = by_digits (is_integer ds) refl
      where
        by_digits : (b : Bool) → is_integer ds ≡ b → (id : Id) × IsIdText id bytes
        by_digits true whole = (integer ds, record { tree = number s ds; stands = v; is = ap (λ b. integer_if b ds) whole })
        by_digits false part = never (sym k ∙ ap (λ b. b || false) part)
    go (string s cs) v k = (message.text cs, record { tree = string s cs; stands = v; is = refl })
    go (word s w) v k = never (sym k)
    go (array s js) v k = never (sym k)
    go (object s ms) v k = never (sym k)

module _ (e : ℕ) (id : Id) (w : List ℕ) (named : Option Json) (is_text : IsIdText id w) (names : option_and_then id_of named ≡ Some id) where
  work_is : (o : Option (List ℕ)) → ((bytes : List ℕ) → o ≡ Some bytes → IsTokenText bytes) → is_token_of named o ≡ is_work w o
  work_is None f = refl
  work_is (Some bytes) f =
      let h = id_text bytes (f bytes refl) in
      ap₂ (λ a b. option_map_or (λ i. option_map_or (same_id i) a false) b false) (text_meant h.0 bytes h.1) names ∙ sym (texts_same id h.0 w bytes is_text h.1)

  worked_is : (rs : List Numbered) → AllByRecursion HasTokens (map forwarded_of rs) → option_map (λ (f : Forwarded). f.number) (find (is_worked e named) (map forwarded_of rs)) ≡ option_map (λ (r : Numbered). r.number) (find (is_first e (works w)) rs)
  worked_is [] h = refl
  worked_is (r ∷ rs) h = ap (λ b. option_map (λ (f : Forwarded). f.number) (cond (nat_eq r.pending.editor e && b) (Some (forwarded_of r)) (find (is_worked e named) (map forwarded_of rs)))) (work_is r.pending.work h.0.work) ∙ go (is_first e (works w) r) (worked_is rs h.1)
    where
      go : (b : Bool) → option_map (λ (f : Forwarded). f.number) (find (is_worked e named) (map forwarded_of rs)) ≡ option_map (λ (x : Numbered). x.number) (find (is_first e (works w)) rs)
          → option_map (λ (f : Forwarded). f.number) (cond b (Some (forwarded_of r)) (find (is_worked e named) (map forwarded_of rs))) ≡ option_map (λ (x : Numbered). x.number) (cond b (Some r) (find (is_first e (works w)) rs))
      go true rest = refl
      go false rest = rest

  pub worked_seen : (settings : Settings) (t : Tables) (events : List Event) (g s : ℕ) (z : Start) (n : Option ℕ) → slice_get (map number_in t.lasts.items) g ≡ Some s → g < length t.lasts.items → z ≡ get_or t.lasts.items g z
      → n ≡ find (λ k. works w (tables.pending_of k z.ids.requests)) (tables.numbers_of e z.ids.requests) → Stands settings t events
      → n ≡ option_map (λ (f : Forwarded). f.number) (find (is_worked e named) (forwarding_of settings s events).open_requests)
  worked_seen settings t events g s z n at within read is st =
      let o = opened settings t events g s z named at (read_here t.lasts.items g z within read) st in
      let tests : Own (works w) (λ k. works w (tables.pending_of k z.ids.requests)) z.ids.requests = own_tests (works w) (λ k. works w (tables.pending_of k z.ids.requests)) 2 z.ids.next z.ids.requests (rising settings t events g s z named at (read_here t.lasts.items g z within read) st) (λ k l. refl) in
      is ∙ (found_filtered e (works w) (λ k. works w (tables.pending_of k z.ids.requests)) z.ids.requests tests
      ∙ (sym (worked_is z.ids.requests (subst (AllByRecursion HasTokens) o (tokens_kept settings s events))) ∙ ap (λ fs. option_map (λ (f : Forwarded). f.number) (find (is_worked e named) fs)) (sym o)))

  pub worked_ok : {E : Type 0} (settings : Settings) (t : Tables) (events : List Event) (g s : ℕ) (z : Start) (result : Result (Option ℕ) E) → slice_get (map number_in t.lasts.items) g ≡ Some s → g < length t.lasts.items → z ≡ get_or t.lasts.items g z
      → IfOk result (λ n. n ≡ find (λ k. works w (tables.pending_of k z.ids.requests)) (tables.numbers_of e z.ids.requests)) → Stands settings t events
      → IfOk result (λ n. n ≡ option_map (λ (f : Forwarded). f.number) (find (is_worked e named) (forwarding_of settings s events).open_requests))
  worked_ok settings t events g s z (Ok n) at within read is st = worked_seen settings t events g s z n at within read is st
  worked_ok settings t events g s z (Err f) at within read is st = tt
