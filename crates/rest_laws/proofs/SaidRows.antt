-- What a ready start is told where an editor says something that is of no document, and by which no link is to be ended: nothing of a document, where nothing goes on to the start, or the start has all of the editor's texts.
use Rattle.std.proofs.Common.{◌≡◌, ◌⊎◌, inl, inr, ℕ, ◌≤◌, Bool, true, false, not, ◌&&◌, ◌||◌, List, [], ◌∷◌, ◌++◌, codes, bytes_eq, nat_eq, Option, None, Some, refl, sym, ◌∙◌, ap, ap₂, subst, append-nil, arith}
use Rattle.std.specs.List.{AllByRecursion, list_any}
use Rattle.std.proofs.lemmas.Bool.{and_parts}
use Rattle.std.proofs.lemmas.List.Folds.{list_any-append}
use Rattle.std.proofs.lemmas.Slice.Eq.{bytes_eq-Decides}
use Rattle.json_text.specs.Json.{Json}
use Rattle.lsp_method.specs.Class.{class_of}
use Rattle.lsp_method.specs.declared.variants.Origin.TheVariants.{Editor}
use Rattle.mux_history.specs.declared.cause.Cause.TheVariants.{FromEditor}
use Rattle.mux_history.specs.declared.out.Out.{Out}
use Rattle.mux_history.specs.declared.out.Out.TheVariants.{ToEditor, ToServer, CloseEditor}
use Rattle.document_model.specs.Sayings.{saying_by, saying_of, speaks}
use Rattle.document_model.specs.Sayings as saying
use Rattle.rpc_message.specs.Message.{Id, Message, request, notification, result, error, not_json, not_message, id_bytes, message_of}
use Rattle.rpc_message.specs.Texts.{ok_text, request_failed}
use Rattle.event_model.specs.declared.phase.Phase.{Phase}
use Rattle.event_model.specs.declared.phase.Phase.TheVariants.{Absent, New, Waiting, Answered, Running, Down}
use Rattle.event_model.specs.Event.{Event, behind, heard, requests, with_cause}
use Rattle.event_model.specs.Phases.{desk_of, editors_of, is_begun, is_running, is_there, makes_running}
use Rattle.event_model.specs.Requests.{is_own}
use Rattle.event_model.specs.Row.{Row, after, choose, each, nothing, on, outs, send, ◌⨾◌}
use Rattle.event_model.specs.Settings.{Settings}
use Rattle.event_model.specs.Spawns.{start_of}
use Rattle.event_model.specs.Stages.{is_ready, life_of}
use Rattle.event_model.proofs.Frames.{never}
use Rattle.mux_facts.specs.Ranges.{InRange}
use Rattle.mux_facts.proofs.Folds.{life_more, number_more}
use Rattle.mux_facts.proofs.Lists.{all_join}
use Rattle.mux_facts.proofs.Reasons.{Because, Reasons, by_choose, by_look, by_nothing, by_on, by_send, by_then}
use Rattle.mux_facts.proofs.Words.{number_same, same_number}
use Rattle.mux_model.specs.Documents.{held_at}
use Rattle.mux_model.specs.Methods.{goes_on}
use Rattle.mux_model.specs.Rows.{to_start}
use Rattle.group_words.specs.declared.placed.Placed.{Placed}
use Rattle.group_words.specs.declared.placed.Placed.TheVariants.{Joins, New as Founds, Evicts, TooMany}
use Rattle.group_words.specs.Houses.{groups_of, home_of, is_doubled, placed_for}
use Rattle.group_words.specs.Placing.{all_from, is_live}
use Rattle.group_words.specs.Rows.{end_group, initialize_row, placed_row}
use Rattle.group_rows.specs.AskRows.{debts_row, run_row}
use Rattle.group_rows.specs.Rows.{answer_error, can_ask, closing_row, down_row, early_row, editor_row, exit_row, forward, from_editor, lspmux_row, notice_at, notice_row, outs_of, request_at, request_row, served_notice, served_request, served_row, sync_bodies, sync_row, taken_row}
use Rattle.group_rows.specs.StopRows.{close_each, refuse_open, stop_row, there_in}
use Rattle.group_rows.specs.Texts.{is_synced, texts_of}
use Rattle.group_rows.specs.Tokens.{forwarded_text}
use Rattle.group_rows.proofs.Going.{going_silent, going_synced}
use Rattle.group_rows.proofs.Versions.{AllMeant, meant_heard, meant_more}
use Rattle.group_facts.specs.Why.{IsQuestion}
use Rattle.group_facts.proofs.Facts.{Facts}
use Rattle.group_facts.proofs.PutOut.{named_in}
use Rattle.group_facts.proofs.RequestRow.{not_own}
use Rattle.group_facts.proofs.Resuming.{run_questions, stays_there}
use Rattle.group_facts.proofs.Same.{same_questions, sym_same}
use Rattle.group_facts.proofs.Still.{still_served}
use Rattle.group_sessions.specs.Refreshes.{is_onward}
use Rattle.rest_laws.specs.Silent.{IsSilent, is_closing}
use Rattle.rest_laws.proofs.ToEditors.{quiet_debts, quiet_run}
use Rattle.rest_laws.proofs.Asides.{forward_said, quiet_cancel, quiet_document, quiet_open, quiet_response, quiet_work, sent_number}
use Rattle.rest_laws.proofs.Quiets.{quiet_documents}
use Rattle.rest_laws.proofs.SilentLaw.{all_silent, any_parts, both_false}
use Rattle.rest_laws.proofs.Ticking.{Small, group_ends, small_first}

module _ (t : ℕ) (test : Out → Bool) where
  -- the start is told of no document, where none of the outs passes the test
  pub record Mute (events : List Event) (row : Row) : Type 0 where
    pub hush : list_any test (outs row events) ≡ false → AllByRecursion (IsSilent t) (outs row events)

module _ {t : ℕ} {test : Out → Bool} where
  mute_quiet : {events : List Event} {row : Row} → Because (λ places out. IsSilent t out) events row → Mute t test events row
  mute_quiet {events} {row} k = record { hush = λ off. all_silent t events (outs row events) k.why }

  mute_loud : {events : List Event} {row : Row} → list_any test (outs row events) ≡ true → Mute t test events row
  mute_loud k = record { hush = λ off. never (sym k ∙ off) }

  mute_then : {events : List Event} {p q : Row} → Mute t test events p → Mute t test (behind events (outs p events)) q → Mute t test events (after p q)
  mute_then {events} {p} {q} f g = record {
    hush = λ off. let parts = any_parts test (outs p events) (outs q (behind events (outs p events))) off in
        all_join (IsSilent t) (outs p events) (outs q (behind events (outs p events))) (f.hush parts.0) (g.hush parts.1);
  }

  mute_choose : {events : List Event} {b : Bool} {p q : Row} → (b ≡ true → Mute t test events p) → (b ≡ false → Mute t test events q) → Mute t test events (choose b p q)
  mute_choose {events} {b = true} {p} {q} f g = record { hush = (f refl).hush }
  mute_choose {events} {b = false} {p} {q} f g = record { hush = (g refl).hush }

  mute_on : {A : Type 0} {events : List Event} {o : Option A} {p : Row} {row : A → Row} → (o ≡ None → Mute t test events p) → ((a : A) → o ≡ Some a → Mute t test events (row a)) → Mute t test events (on o p row)
  mute_on {o = None} f g = f refl
  mute_on {o = Some a} f g = g a refl

  -- where the row sends the same at two places
  mute_same : {x y : List Event} {row : Row} → outs row x ≡ outs row y → Mute t test x row → Mute t test y row
  mute_same {x} {y} {row} same k = record { hush = subst (λ xs. list_any test xs ≡ false → AllByRecursion (IsSilent t) xs) same k.hush }

pub on_first : (a b : Bool) → a ≡ true → (a || b) ≡ true
on_first true b h = refl
on_first false b h = never (sym h)

pub on_second : (a b : Bool) → b ≡ true → (a || b) ≡ true
on_second true b h = refl
on_second false b h = h

-- E6: each editor that is there is closed

closes_some : (n : ℕ) (es : List ℕ) (events : List Event) → list_any (λ k. nat_eq k n) es ≡ true → list_any is_closing (outs (close_each es) events) ≡ true
closes_some n [] events h = never (sym h)
closes_some n (e ∷ es) events h = refl

module _ (settings : Settings) (before : List Event) (facts : Facts settings before) (n : ℕ) (body : List ℕ) (there : is_there (desk_of n before).phase ≡ true) where
  abbrev asked_now : List Event
  asked_now = with_cause before (FromEditor n body)

  known_there : editors_of before ≤ n → ⊥
  known_there none = let gone : (desk_of n before).phase ≡ Absent = (facts.steady).editors n none in never (sym there ∙ ap is_there gone)

  listed : list_any (λ k. nat_eq k n) (there_in before) ≡ true
  listed = named_in (λ k. is_there (desk_of k before).phase) 0 (editors_of before) n (omega arith) (let k : editors_of before ≤ n → ⊥ = known_there in omega (arith, k)) there

  stop_closes : list_any is_closing (outs (stop_row settings before n body) asked_now) ≡ true
  stop_closes = list_any-append is_closing first (second ++ (third ++ fourth)) ∙ on_second (list_any is_closing first) _ (list_any-append is_closing second (third ++ fourth) ∙ on_second (list_any is_closing second) _
      (list_any-append is_closing third fourth ∙ on_first (list_any is_closing third) (list_any is_closing fourth) (closes_some n (there_in before) (behind (behind asked_now first) second) listed)))
    where
      first : List Out
      first = outs (send (ToEditor n (ok_text (id_bytes body) (codes "null")))) asked_now

      second : List Out
      second = outs (each (refuse_open settings before) (there_in before)) (behind asked_now first)

      third : List Out
      third = outs (close_each (there_in before)) (behind (behind asked_now first) second)

      fourth : List Out
      fourth = outs (each end_group (all_from 0 is_live (groups_of settings before))) (behind (behind (behind asked_now first) second) third)

module _ (t : ℕ) (settings : Settings) (range : InRange settings) (before : List Event) (facts : Facts settings before) (ready : is_ready (life_of t before).stage ≡ true) (n : ℕ) (body : List ℕ)
    (test : Out → Bool) (closes : (out : Out) → is_closing out ≡ true → test out ≡ true)
    (way : ((g : ℕ) → home_of settings n before ≡ Some g → start_of g before ≡ Some t → sync_bodies settings.limits.versions (λ u. held_at t u before) n (texts_of settings g before).opens ≡ []) ⊎ ((out : Out) → is_onward t out ≡ true → test out ≡ true)) where
  abbrev now : List Event
  now = with_cause before (FromEditor n body)

  abbrev Hushed : List Event → Row → Type 0
  Hushed events row = Mute t test events row

  abbrev Quiet : List Event → Row → Type 0
  Quiet events row = Because (λ places out. IsSilent t out) events row

  -- by which its link, or all, are to be ended
  closing : (events : List Event) → Hushed events (closing_row settings before n)
  closing events = mute_loud (on_first (test (CloseEditor n)) _ (closes (CloseEditor n) refl))

  closed_by : (xs : List Out) → list_any is_closing xs ≡ true → list_any test xs ≡ true
  closed_by [] h = never (sym h)
  closed_by (x ∷ xs) h = go (is_closing x) refl h (λ k. closed_by xs k)
    where
      go : (b : Bool) → is_closing x ≡ b → (b || list_any is_closing xs) ≡ true → (list_any is_closing xs ≡ true → list_any test xs ≡ true) → (test x || list_any test xs) ≡ true
      go true is h rest = on_first (test x) (list_any test xs) (closes x is)
      go false off h rest = on_second (test x) (list_any test xs) (rest h)

  stopping : is_there (desk_of n before).phase ≡ true → Hushed now (stop_row settings before n body)
  stopping there = mute_loud (closed_by (outs (stop_row settings before n body) now) (stop_closes settings before facts n body there))

  leaving : (events : List Event) (m : Message) → Hushed events (exit_row settings before n m)
  leaving events (notification method params) = mute_choose (λ exits. closing events) (λ other. mute_quiet by_nothing)
  leaving events other = mute_quiet by_nothing

  early : (events : List Event) (m : Message) → Hushed events (early_row settings before n body m)
  early events (request id method params) = mute_quiet (by_send tt)
  early events other = leaving events other

  down : (events : List Event) (m : Message) → Hushed events (down_row settings before n body m)
  down events (request id method params) = mute_quiet (by_send tt)
  down events other = leaving events other

  -- E7: another group ends
  small : Small settings range.requests t now
  small = small_first settings range.requests t before ((facts.steady).bounded) (FromEditor n body) (life_more t before (heard (FromEditor n body))) (number_more t before (heard (FromEditor n body))) ready

  placed : (p : Placed) → Quiet now (placed_row n body before p)
  placed (Joins g) = by_on (λ none. by_nothing) (λ s start. by_choose (λ greeted. by_on (λ none. by_nothing) (λ given found. by_send tt)) (λ off. by_nothing))
  placed (Founds g) = by_look (by_send tt)
  placed (Evicts a g) = by_then (group_ends settings range.requests t a now small).why (by_look (by_send tt))
  placed TooMany = by_then (by_send tt) (by_send tt)

  opening : Hushed now (initialize_row settings before n body)
  opening = mute_quiet (placed (placed_for settings before n body (groups_of settings before)))

  -- E4 to E6
  own_request : is_there (desk_of n before).phase ≡ true → (m : Message) → Hushed now (lspmux_row settings before n body m)
  own_request there m = mute_choose (λ opens. mute_quiet (quiet_open t settings range before facts n body m)) (λ others. mute_choose (λ stops. stopping there) (λ tells. mute_quiet (by_send tt)))

  -- E10, E16 and E17: what goes on to this start is loud, or switches nothing
  apart : (s : ℕ) → nat_eq s t ≡ false → s ≡ t → ⊥
  apart s other is = never (sym (subst (λ z. nat_eq s z ≡ true) is (same_number s)) ∙ other)

  loud_last : (xs : List Out) (text : List ℕ) → test (ToServer t text) ≡ true → list_any test (xs ++ ToServer t text ∷ []) ≡ true
  loud_last xs text loud = list_any-append test xs (ToServer t text ∷ []) ∙ on_second (list_any test xs) (test (ToServer t text) || false) (on_first (test (ToServer t text)) false loud)

  onward : (text : List ℕ) → is_synced (message_of text) ≡ true → is_onward t (ToServer t text) ≡ true
  onward text synced = ap₂ (λ a b. a && b) (same_number t) synced

  behind_sync : (g s : ℕ) → home_of settings n before ≡ Some g → start_of g before ≡ Some s → (last : Row) (text : List ℕ) → outs last (behind now (outs (sync_row settings before g s n) now)) ≡ ToServer s text ∷ []
      → is_synced (message_of text) ≡ true → saying_of (message_of text) ≡ saying.nothing → Hushed now (sync_row settings before g s n ⨾ last)
  behind_sync g s home start last text sends synced unsaid = go (nat_eq s t) refl
    where
      mid : List Event
      mid = behind now (outs (sync_row settings before g s n) now)

      last_quiet : Quiet mid last
      last_quiet = record { why = subst (Reasons (λ places out. IsSilent t out) mid) (sym sends) (λ same. unsaid, tt) }

      here : s ≡ t → Hushed now (sync_row settings before g s n ⨾ last)
      here is = by way
        where
          by : ((g : ℕ) → home_of settings n before ≡ Some g → start_of g before ≡ Some t → sync_bodies settings.limits.versions (λ u. held_at t u before) n (texts_of settings g before).opens ≡ []) ⊎ ((out : Out) → is_onward t out ≡ true → test out ≡ true)
              → Hushed now (sync_row settings before g s n ⨾ last)
          by (inl settled) = mute_then (mute_quiet (subst (λ k. Quiet now (sync_row settings before g k n)) (sym is)
              (subst (λ xs. Quiet now (to_start t xs)) (sym (settled g home (start ∙ ap (λ k. Some k) is))) by_nothing))) (mute_quiet last_quiet)
          by (inr loud) = mute_loud (ap (λ xs. list_any test (outs (sync_row settings before g s n) now ++ xs)) sends
              ∙ (ap (λ k. list_any test (outs (sync_row settings before g s n) now ++ ToServer k text ∷ [])) is
              ∙ loud_last (outs (sync_row settings before g s n) now) text (loud (ToServer t text) (onward text synced))))

      go : (b : Bool) → nat_eq s t ≡ b → Hushed now (sync_row settings before g s n ⨾ last)
      go true same = here (number_same s t same)
      go false away = mute_quiet (by_then (quiet_documents t settings before s (apart s away) _ now) last_quiet)

  module _ (id : Id) (method : List ℕ) (params : Option Json) (says : message_of body ≡ request id method params) (other : is_own method ≡ false) where
    asked_there : (g s : ℕ) → home_of settings n before ≡ Some g → start_of g before ≡ Some s → can_ask settings s before ≡ true → Hushed now (sync_row settings before g s n ⨾ forward settings s body)
    asked_there g s home start can =
        let new = forward_said t settings range before facts n body id method params says g s can in
        behind_sync g s home start (forward settings s body) (forwarded_text (sent_number t settings range before facts n body id method params says g s) body) refl (ap is_synced new.1 ∙ ap not other) (ap saying_of new.1)

    asked_at : (g s : ℕ) → home_of settings n before ≡ Some g → start_of g before ≡ Some s → Hushed now (request_at settings before n body g s)
    asked_at g s home start = mute_choose (λ can. asked_there g s home start can) (λ cannot. mute_choose (λ waits. mute_quiet by_nothing) (λ full. mute_quiet (by_send tt)))

    asked_in : (g : ℕ) → home_of settings n before ≡ Some g → Hushed now (on (start_of g before) (answer_error n body request_failed) (request_at settings before n body g))
    asked_in g home = mute_on (λ none. mute_quiet (by_send tt)) (λ s start. asked_at g s home start)

    asked : Hushed now (request_row settings before n body)
    asked = mute_choose (λ reserved. mute_quiet (by_send tt)) (λ free. mute_on (λ none. mute_quiet (by_send tt)) (λ g home. asked_in g home))

  module _ (method : List ℕ) (params : Option Json) (says : message_of body ≡ notification method params) (going : goes_on (class_of method Editor true) ≡ true) where
    noted_at : (g s : ℕ) → home_of settings n before ≡ Some g → start_of g before ≡ Some s → Hushed now (notice_at settings before n body g s)
    noted_at g s home start = mute_choose (λ up. behind_sync g s home start (send (ToServer s body)) body refl (ap is_synced says ∙ going_synced method going params) (ap saying_of says ∙ going_silent method going params)) (λ off. mute_quiet by_nothing)

    noted_in : (g : ℕ) → home_of settings n before ≡ Some g → Hushed now (on (start_of g before) nothing (notice_at settings before n body g))
    noted_in g home = mute_on (λ none. mute_quiet by_nothing) (λ s start. noted_at g s home start)

    noted : Hushed now (notice_row settings before n body)
    noted = mute_on (λ none. mute_quiet by_nothing) (λ g home. noted_in g home)

  module _ (method : List ℕ) (params : Option Json) (says : message_of body ≡ notification method params) (unsaid : speaks (saying_by method params) ≡ false) where
    method_is : (name : List ℕ) → bytes_eq name method ≡ true → message_of body ≡ notification name params
    method_is name same = says ∙ ap (λ m. notification m params) (sym ((bytes_eq-Decides name method).0 same))

    notified : Hushed now (served_notice settings before n body method params)
    notified = mute_choose (λ exits. closing now) (λ stays. mute_choose (λ going. noted method params says going)
        (λ off. mute_choose (λ cancels. mute_quiet (quiet_cancel t settings range before facts n body params (method_is (codes "$/cancelRequest") cancels) now))
        (λ off. mute_choose (λ works. mute_quiet (quiet_work t settings range before facts n body params (method_is (codes "window/workDoneProgress/cancel") works) now))
        (λ other. mute_quiet (quiet_document t settings range before facts n body (saying_by method params) unsaid now)))))

  requested : (id : Id) (method : List ℕ) (params : Option Json) → message_of body ≡ request id method params → bytes_eq (codes "shutdown") method ≡ false → Hushed now (served_request settings before n body method)
  requested id method params says unshut = mute_choose (λ misplaced. mute_quiet (by_send tt))
      (λ fit. mute_choose (λ shuts. never (sym shuts ∙ unshut)) (λ goes. asked id method params says (not_own method (both_false (bytes_eq (codes "initialize") method) _ fit).0 unshut)))

  module _ (unsaid : speaks (saying_of (message_of body)) ≡ false) (unshut : requests (codes "shutdown") (message_of body) ≡ false) where
    served : (m : Message) → message_of body ≡ m → Hushed now (served_row settings before n body m)
    served (request id method params) says = requested id method params says (ap (requests (codes "shutdown")) (sym says) ∙ unshut)
    served (notification method params) says = notified method params says (ap (λ m. speaks (saying_of m)) (sym says) ∙ unsaid)
    served (result id r) says = mute_quiet (quiet_response t settings range before facts n body (result id r) says now)
    served (error id x) says = mute_quiet (quiet_response t settings range before facts n body (error id x) says now)
    served not_json says = mute_quiet (quiet_response t settings range before facts n body not_json says now)
    served not_message says = mute_quiet (quiet_response t settings range before facts n body not_message says now)

    -- L2: it is asked and told before, which changes nothing of that
    begun : (m : Message) → message_of body ≡ m → (desk_of n before).phase ≡ Answered → is_doubled before n m ≡ false → (b : Bool) → makes_running m ≡ b → Hushed now (choose b (run_row settings before n) nothing ⨾ served_row settings before n body m)
    begun m says at single b runs = mute_then (mute_choose (λ yes. mute_quiet (quiet_run t settings before n now)) (λ no. mute_quiet by_nothing)) (mute_same (same b runs) (served m says))
      where
        first : List Out
        first = outs (run_row settings before n) now

        meant_now : AllMeant now
        meant_now = meant_more before (heard (FromEditor n body)) (facts.base).meant (meant_heard (FromEditor n body))

        questions : makes_running (message_of body) ≡ true → AllByRecursion (IsQuestion n) first
        questions running = run_questions settings before n body at running (stays_there settings before n body at running (ap (is_doubled before n) says ∙ single)) (facts.steady).asks (facts.base).meant

        same : (b : Bool) → makes_running m ≡ b → outs (served_row settings before n body m) now ≡ outs (served_row settings before n body m) (behind now (outs (choose b (run_row settings before n) nothing) now))
        same false stops = ap (outs (served_row settings before n body m)) (sym (append-nil now))
        same true runs = (still_served settings before n body (facts.steady).held (ap is_running at) m says runs).same now (behind now first) meant_now (sym_same settings (behind now first) now (same_questions settings n now first (questions (ap makes_running says ∙ runs))))

    taken : (m : Message) → message_of body ≡ m → (phase : Phase) → (desk_of n before).phase ≡ phase → (is_begun phase && is_doubled before n m) ≡ false → Hushed now (taken_row settings before n body m phase)
    taken m says New at single = mute_choose (λ first. opening) (λ other. early now m)
    taken m says Waiting at single = early now m
    taken m says Answered at single = begun m says at single (makes_running m) refl
    taken m says Running at single = served m says
    taken m says Down at single = down now m
    taken m says other at single = mute_quiet by_nothing

    said : (m : Message) → message_of body ≡ m → (phase : Phase) → (desk_of n before).phase ≡ phase → Hushed now (from_editor settings before n body m phase)
    said m says phase at = mute_choose (λ malformed. mute_quiet (by_choose (λ there. by_send tt) (λ gone. by_nothing)))
        (λ fine. mute_choose (λ twice. closing now) (λ single. mute_choose (λ own. own_request (ap is_there at ∙ (and_parts (is_there phase) _ own).0) m) (λ other. taken m says phase at single)))

    entry : Hushed now (editor_row settings before n body ⨾ debts_row settings before n body (message_of body))
    entry = mute_then (said (message_of body) refl (desk_of n before).phase refl) (mute_quiet (quiet_debts t settings before n body (message_of body) _))

    pub said_silent : list_any test (outs_of settings before (FromEditor n body)) ≡ false → AllByRecursion (IsSilent t) (outs_of settings before (FromEditor n body))
    said_silent off = entry.hush off
