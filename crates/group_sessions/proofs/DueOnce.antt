-- No editor is asked twice to take a token: as a start creates it each that runs is asked (S8), and one that begins to run is asked of each that lives (L2).
use Rattle.std.proofs.Common.{◌≡◌, ℕ, zero, suc, ◌+◌, ◌^◌, ◌<◌, ◌≤◌, Bool, true, false, not, ◌&&◌, ◌||◌, cond, List, [], ◌∷◌, ◌++◌, append-nil, bytes_eq, codes, decimal, filter, nat_eq, if◌then◌else◌, Option, Some, None, ◌⊎◌, inl, inr, ltb-true, refl, sym, ◌∙◌, ap, subst, arith}
use Rattle.std.specs.List.{AllByRecursion, list_any, range_with_len}
use Rattle.std.proofs.lemmas.Bool.{and_parts}
use Rattle.json_text.specs.Json.{Json}
use Rattle.mux_history.specs.declared.cause.Cause.{Cause}
use Rattle.mux_history.specs.declared.cause.Cause.TheVariants.{Joined, FromEditor, EditorGone, Started, StartFailed, FromServer, ServerGone, Drained, Tick}
use Rattle.mux_history.specs.declared.out.Out.{Out}
use Rattle.mux_history.specs.declared.out.Out.TheVariants.{ToEditor, ToServer, Spawn, CloseEditor, EndServer}
use Rattle.lsp_method.specs.Class.{class_of, server_request}
use Rattle.lsp_method.specs.declared.variants.Class.TheVariants.{Create}
use Rattle.lsp_method.specs.declared.variants.Origin.TheVariants.{Server}
use Rattle.rpc_message.specs.Message.{Id, Message, request, notification, result, error, not_json, not_message, id_bytes, integer, message_of}
use Rattle.rpc_message.specs.Texts.{ok_text, with_id_text}
use Rattle.rpc_message.proofs.Decimals.{decimal_law}
use Rattle.rpc_message.proofs.Ids.{request_with_id}
use Rattle.event_model.specs.declared.phase.Phase.TheVariants.{Answered, Down, Running}
use Rattle.event_model.specs.declared.stage.Stage.TheVariants.{Ended, Ready, Unspawned}
use Rattle.event_model.specs.Event.{Event, behind, did, heard, requests, said, took, with_cause}
use Rattle.event_model.specs.Members.{named_of}
use Rattle.event_model.specs.Phases.{Desk, desk_hears, desk_of, editors_of, is_malformed, is_running, makes_running}
use Rattle.event_model.specs.Requests.{answered_id}
use Rattle.event_model.specs.Row.{Row, choose, each, nothing, on, outs, send, ◌⨾◌}
use Rattle.event_model.specs.Settings.{Settings}
use Rattle.event_model.specs.Spawns.{group_of, start_of, starts_of}
use Rattle.event_model.specs.Stages.{Life, is_ready, life_of, no_life}
use Rattle.event_model.proofs.Frames.{never}
use Rattle.mux_model.specs.Fits.{fits_behind}
use Rattle.mux_model.specs.Rows.{malformed_row}
use Rattle.mux_facts.specs.Ranges.{InRange}
use Rattle.mux_facts.proofs.DocumentRow.{ready_is}
use Rattle.mux_facts.proofs.Folds.{desk_more}
use Rattle.mux_facts.proofs.Lists.{all_filtered}
use Rattle.mux_facts.proofs.Reasons.{Because, Reasons, by_choose, by_look, by_nothing, by_on, by_send, by_then, reasons_both, reasons_keep}
use Rattle.mux_facts.proofs.Words.{number_same, other_number, same_number}
use Rattle.group_words.specs.Houses.{home_of, is_doubled, is_home}
use Rattle.group_rows.specs.registrations.specs.Items.{again}
use Rattle.group_rows.specs.AskRows.{ask, asking_row, run_at, run_row}
use Rattle.group_rows.specs.Asks.{Parked, has_number, next_ask, parked_of, running_in}
use Rattle.group_rows.specs.Created.{Created, Token, accepts, created_mark, created_of, created_token, is_creating, is_marked, is_numbered, is_progress, named_token, token_called, token_marked}
use Rattle.group_rows.specs.CreatedRows.{create_text, offer, offer_all}
use Rattle.group_rows.specs.Leaves.{leave_row}
use Rattle.group_rows.specs.Live.{live_of, register_text}
use Rattle.group_rows.specs.LiveRows.{accept, call, decline, has_some, restore}
use Rattle.group_rows.specs.Rows.{asks_lspmux, closing_row, from_editor, from_server, lspmux_row, message_row, outs_of, served_row, taken_row, told_row}
use Rattle.group_rows.proofs.CreatedTexts.{create_says, create_tree}
use Rattle.group_rows.proofs.LiveTexts.{again_written, live_written, register_says, registered_written, unregister_says}
use Rattle.group_facts.specs.Facts.{IsParked}
use Rattle.group_facts.specs.Settled.{Settled}
use Rattle.group_facts.specs.Why.{Calling, IsCall, IsChange, IsRestoring, Why, WhyToEditor, answers, asks, asks_something, calls, creates, displaces, enrols, passes, progresses, recalls, refuses, rejects, releases, restores, resumes, revives, shows, spreads, turns_away, welcomes, loses, winds_up, forgets, pays}
use Rattle.group_facts.proofs.Asks.{is_question, response_asks_none}
use Rattle.group_facts.proofs.Begun.{all_outs, leave_by}
use Rattle.group_facts.proofs.Facts.{Facts}
use Rattle.group_facts.proofs.Marks.{mark_number, mark_start, marked_same}
use Rattle.group_facts.proofs.Shown.{meant_behind, text_says, text_shown}
use Rattle.group_facts.proofs.Still.{Goes, still_served}
use Rattle.group_rows.specs.diagnostics_route.specs.declared.last_list.LastList.{LastList}
use Rattle.group_rows.specs.ListRows.{show_full}
use Rattle.group_rows.specs.Lists.{lists_of}
use Rattle.group_rows.proofs.ListsKept.{IsList, lists_kept}
use Rattle.group_rows.proofs.Versions.{meant_heard, meant_more}
use Rattle.group_facts.proofs.Table.{reasons}
use Rattle.group_sessions.proofs.CreatedFold.{AllApart, IsApart, IsLive, IsNew, created_orderly, new_is}
use Rattle.group_sessions.proofs.HeldFold.{created_fair}
use Rattle.group_sessions.proofs.Taken.{HasRun}
use Rattle.group_sessions.proofs.TakingTies.{find_true}
use Rattle.group_sessions.proofs.Tied.{all_back, has_run, not_run, unrun}
use Rattle.group_sessions.specs.Due.{breaks, is_asks, asked_by, asks as due_asks, parts as due_parts, replies as due_replies, rests, tells as due_tells, told_by, word, words}
use Rattle.group_sessions.proofs.DueClear.{off_creating}
use Rattle.group_sessions.proofs.DueEvents.{Rest, Tie, dead, going, num_off, words_more}
use Rattle.group_sessions.proofs.DueLaw.{AskedOnce}
use Rattle.group_sessions.proofs.DueWords.{any_join, none_join}
use Rattle.group_rows.proofs.DebtsKept.{refresh_uncreating, off_unrun, whole_off}

abbrev makes : Message → Bool
makes (request id method params) = is_creating method
makes other = false

create_made : is_creating (codes "window/workDoneProgress/create") ≡ true
unfolding server_request
create_made = refl

register_plain : is_creating (codes "client/registerCapability") ≡ false
unfolding server_request
register_plain = refl

unregister_plain : is_creating (codes "client/unregisterCapability") ≡ false
unfolding server_request
unregister_plain = refl

unquestioned : (m : Message) → is_question m ≡ false → makes m ≡ false
unquestioned (request id method params) h = never h
unquestioned (notification method params) h = refl
unquestioned (result id r) h = refl
unquestioned (error id r) h = refl
unquestioned not_json h = refl
unquestioned not_message h = refl

asks_none : (m : Message) → asks_something m ≡ false → makes m ≡ false
asks_none (request id method params) h = never h
asks_none (notification method params) h = refl
asks_none (result id r) h = refl
asks_none (error id r) h = refl
asks_none not_json h = refl
asks_none not_message h = refl

pub well_formed : (m : Message) → makes_running m ≡ true → (is_malformed m ≡ false) × (asks_lspmux m ≡ false)
well_formed (request id method ps) h = (refl, own (asks_lspmux (request id method ps)) refl)
  where
    own : (b : Bool) → asks_lspmux (request id method ps) ≡ b → b ≡ false
    own false k = refl
    own true k = never (sym (named (bytes_eq (codes "lspmux/open") method) (bytes_eq (codes "lspmux/status") method) (bytes_eq (codes "lspmux/stop") method) (bytes_eq (codes "shutdown") method) h k))
      where
        named : (a b c d : Bool) → not (false || (false || (d || (a || (b || c))))) ≡ true → (a || (b || c)) ≡ true → false ≡ true
        named true b c true h k = h
        named true b c false h k = h
        named false true c true h k = h
        named false true c false h k = h
        named false false true true h k = h
        named false false true false h k = h
        named false false false d h k = k
well_formed (notification method ps) h = (refl, refl)
well_formed (result id r) h = (refl, refl)
well_formed (error id r) h = (refl, refl)
well_formed not_json h = never (sym h)
well_formed not_message h = never (sym h)

-- Lists of editors that rise

abbrev Differ : List ℕ → Type 0
Differ [] = Unit {0}
Differ (n ∷ ns) = AllByRecursion (λ m. nat_eq n m ≡ false) ns × Differ ns

above : (k j len : ℕ) → k < j → AllByRecursion (λ n. nat_eq k n ≡ false) (range_with_len j len)
above k j zero less = tt
above k j (suc len) less = (other_number k j less, above k (j + 1) len (omega (arith, less)))

range_differs : (k len : ℕ) → Differ (range_with_len k len)
range_differs k zero = tt
range_differs k (suc len) = (above k (k + 1) len (omega arith), range_differs (k + 1) len)

some_differ : (test : ℕ → Bool) (ns : List ℕ) → Differ ns → Differ (filter test ns)
some_differ test [] h = tt
some_differ test (n ∷ ns) h = go (test n) (all_filtered (λ k. nat_eq n k ≡ false) (λ k. nat_eq n k ≡ false) test (λ k on z. z) ns h.0) (some_differ test ns h.1)
  where
    go : (b : Bool) → AllByRecursion (λ k. nat_eq n k ≡ false) (filter test ns) → Differ (filter test ns) → Differ (cond b (n ∷ filter test ns) (filter test ns))
    go true a rest = (a, rest)
    go false a rest = rest

-- an out that goes to a start
abbrev ToStart : Out → Type 0
ToStart (ToServer s body) = Unit {0}
ToStart other = ⊥

module _ (settings : Settings) (range : InRange settings) (before : List Event) (facts : Facts settings before) (settled : Settled settings before) (cause : Cause) (fits : fits_behind before cause ≡ true)
    (few : starts_of before ≤ 2 ^ 64) (s k e : ℕ) (low : s < 2 ^ 64) (small : k < 2 ^ 64) (tie : Tie settings s k e before) (ran : list_any is_asks (words settings s k e before) ≡ true → HasRun before e) where
  abbrev x : Created
  x = created_of settings s before

  abbrev now : List Event
  now = with_cause before cause

  abbrev Once : List Event → Out → Type 0
  Once = AskedOnce settings s k e

  -- it wasn't asked yet
  abbrev Unasked : List Event → Type 0
  Unasked events = list_any is_asks (words settings s k e events) ≡ false

  unasked_more : (events : List Event) (event : Event) → is_asks (word settings s k e events event) ≡ false → Unasked events → Unasked (events ++ event ∷ [])
  unasked_more events event off h = ap (list_any is_asks) (words_more settings s k e events event) ∙ none_join is_asks (words settings s k e events) (word settings s k e events event ∷ []) h (ap (λ b. b || false) off)

  -- A body that asks it

  record IsAsking (events : List Event) (n : ℕ) (body : List ℕ) : Type 0 where
    editor : n ≡ e
    id : Id
    method : List ℕ
    params : Option Json
    says : message_of body ≡ request id method params
    creating : is_creating method ≡ true
    token : Token
    marked : token_marked s params (created_of settings s events) ≡ Some token
    number : token.number ≡ k

  asking_is : (events : List Event) (n : ℕ) (body : List ℕ) → is_asks (word settings s k e events (said (ToEditor n body))) ≡ true → IsAsking events n body
  asking_is events n body h = by (message_of body) refl h
    where
      by : (m : Message) → message_of body ≡ m → is_asks (word settings s k e events (did (ToEditor n body) m)) ≡ true → IsAsking events n body
      by (request id method params) says h = go (nat_eq n e && is_creating method) refl (token_marked s params (created_of settings s events)) refl h
        where
          go : (b : Bool) → (nat_eq n e && is_creating method) ≡ b → (o : Option Token) → token_marked s params (created_of settings s events) ≡ o → is_asks (if b then asked_by k (next_ask n events) o else rests) ≡ true → IsAsking events n body
          go true on (Some t) marked h = numbered (is_numbered k t) refl h
            where
              numbered : (d : Bool) → is_numbered k t ≡ d → is_asks (if d then due_asks (next_ask n events) else rests) ≡ true → IsAsking events n body
              numbered true at h = let p = and_parts (nat_eq n e) (is_creating method) on in record { editor = number_same n e p.0; id = id; method = method; params = params; says = says; creating = p.1; token = t; marked = marked; number = number_same t.number k at }
              numbered false at h = never (sym h)
          go true on None marked h = never (sym h)
          go false off o marked h = never (sym h)
      by (notification method params) says h = never (sym h)
      by (result id r) says h = never (sym h)
      by (error id r) says h = never (sym h)
      by not_json says h = never (sym h)
      by not_message says h = never (sym h)

  asking_makes : (events : List Event) (n : ℕ) (body : List ℕ) → IsAsking events n body → makes (message_of body) ≡ true
  asking_makes events n body a = ap makes a.says ∙ a.creating

  plain_word : (events : List Event) (n : ℕ) (body : List ℕ) → makes (message_of body) ≡ false → is_asks (word settings s k e events (said (ToEditor n body))) ≡ false
  plain_word events n body plain = go (is_asks (word settings s k e events (said (ToEditor n body)))) refl
    where
      go : (b : Bool) → is_asks (word settings s k e events (said (ToEditor n body))) ≡ b → b ≡ false
      go true h = never (sym (asking_makes events n body (asking_is events n body h)) ∙ plain)
      go false h = refl

  plain_once : (events : List Event) (n : ℕ) (body : List ℕ) → makes (message_of body) ≡ false → Once events (ToEditor n body)
  plain_once events n body plain h = never (sym h ∙ plain_word events n body plain)

  -- which token an offer is of
  offered : (events : List Event) (n t j : ℕ) → t < 2 ^ 64 → j < 2 ^ 64 → has_number n events ≡ true → IsAsking events n (create_text t j (next_ask n events)) → (s ≡ t) × (k ≡ j)
  offered events n t j low_t low_j room a = (mark_start s k t j low low_t mark, mark_number s k t j small low_j mark)
    where
      says : message_of (create_text t j (next_ask n events)) ≡ request (integer (decimal (next_ask n events))) (codes "window/workDoneProgress/create") (Some (create_tree t j))
      says = create_says t j (next_ask n events) (let less = ltb-true (next_ask n events) (2 ^ 64) room in omega (arith, less))

      params : a.params ≡ Some (create_tree t j)
      params = same (sym a.says ∙ says)
        where
          same : request a.id a.method a.params ≡ request (integer (decimal (next_ask n events))) (codes "window/workDoneProgress/create") (Some (create_tree t j)) → a.params ≡ Some (create_tree t j)
          same h = cc

      mark : created_mark s k ≡ created_mark t j
      mark = ap (created_mark s) (sym a.number) ∙ marked_same s t j a.token (find_true (is_marked s (named_of (codes "token") (Some (create_tree t j)))) (created_of settings s events).tokens a.token (subst (λ ps. token_marked s ps (created_of settings s events) ≡ Some a.token) params a.marked))

  -- Where it comes from

  data Origin : Type 0 where
    made : (asked : List ℕ) (t : Token) → IsChange settings before cause e s asked Create → created_token asked x ≡ Some t → t.number ≡ k → (life_of s before).stage ≡ Ready → Origin
    begun : (t : ℕ) → IsRestoring settings before cause e t → Origin

  spawned : (t : ℕ) → (life_of t before).stage ≡ Ready → t < 2 ^ 64
  spawned t ready = within (λ le. unready ((facts.steady).starts t le))
    where
      unready : life_of t before ≡ no_life → ⊥
      unready h = let clash : Unspawned ≡ Ready = sym (ap (λ (l : Life). l.stage) h) ∙ ready in cc

      within : (starts_of before ≤ t → ⊥) → t < 2 ^ 64
      within f = omega (arith, f, few)

  number_small : (n : ℕ) (events : List Event) → has_number n events ≡ true → next_ask n events < 2 ^ 128
  number_small n events room = let less : next_ask n events < 2 ^ 64 = ltb-true (next_ask n events) (2 ^ 64) room in omega (arith, less)

  called_origin : (events : List Event) (n : ℕ) (body : List ℕ) (w : IsCall settings before cause events n body) → IsAsking events n body → Calling settings before cause n w.start (next_ask n events) body → Origin
  called_origin events n body w a (creates asked t c found is) = go both.0
    where
      new : IsNew asked (created_of settings w.start before) t
      new = new_is asked (created_of settings w.start before) t found

      both : (s ≡ w.start) × (k ≡ t.number)
      both = offered events n w.start t.number (spawned w.start w.ready) (let number = new.number in let top = new.small in omega (arith, number, top)) w.room (subst (IsAsking events n) is a)

      go : s ≡ w.start → Origin
      go same = made asked t (subst (λ z. IsChange settings before cause e z asked Create) (sym same) (subst (λ z. IsChange settings before cause z w.start asked Create) a.editor c)) (subst (λ z. created_token asked (created_of settings z before) ≡ Some t) (sym same) found) (sym both.1) (ap (λ z. (life_of z before).stage) same ∙ w.ready)
  called_origin events n body w a (revives t earlier later r order is) = begun w.start (subst (λ z. IsRestoring settings before cause z w.start) a.editor r)
  called_origin events n body w a (displaces asked items c found is) = never (sym (asking_makes events n body a) ∙ (ap makes (ap message_of is ∙ (unregister_says (again items (live_of settings w.start before)) (again_written items (live_of settings w.start before) (live_written settings w.start before)) (next_ask n events) (number_small n events w.room)).1) ∙ unregister_plain))
  called_origin events n body w a (enrols asked items c found is) = never (sym (asking_makes events n body a) ∙ (ap makes (ap message_of is ∙ (register_says items (registered_written asked items found) (next_ask n events) (number_small n events w.room)).1) ∙ register_plain))
  called_origin events n body w a (releases asked items c found is) = never (sym (asking_makes events n body a) ∙ (ap makes (ap message_of is ∙ (unregister_says (again items (live_of settings w.start before)) (again_written items (live_of settings w.start before) (live_written settings w.start before)) (next_ask n events) (number_small n events w.room)).1) ∙ unregister_plain))
  called_origin events n body w a (forgets r first is) = never (sym (asking_makes events n body a) ∙ (ap makes (ap message_of is ∙ (unregister_says (live_of settings w.start before) (live_written settings w.start before) (next_ask n events) (number_small n events w.room)).1) ∙ unregister_plain))
  called_origin events n body w a (restores r is) = never (sym (asking_makes events n body a) ∙ (ap makes (ap message_of is ∙ (register_says (live_of settings w.start before) (live_written settings w.start before) (next_ask n events) (number_small n events w.room)).1) ∙ register_plain))

  origin : (events : List Event) (n : ℕ) (body : List ℕ) → WhyToEditor settings before cause events n body → IsAsking events n body → Origin
  origin events n body (calls w) a = called_origin events n body w a w.told
  origin events n body (asks w) a = never (sym (asking_makes events n body a) ∙ (ap makes w.says ∙ w.plain))
  origin events n body (resumes w) a = never (sym (asking_makes events n body a) ∙ (ap makes w.says ∙ off_creating w.method w.patient))
  origin events n body (pays w) a = never (sym (asking_makes events n body a) ∙ (ap makes w.says ∙ refresh_uncreating (w.debt).method w.wants))
  origin events n body (rejects w) a = never (sym (asking_makes events n body a) ∙ ap makes w.says)
  origin events n body (refuses w) a = never (sym (asking_makes events n body a) ∙ ap makes w.says)
  origin events n body (loses w) a = never (sym (asking_makes events n body a) ∙ ap makes w.says)
  origin events n body (answers w) a = never (sym (asking_makes events n body a) ∙ ap makes w.says)
  origin events n body (turns_away w) a = never (sym (asking_makes events n body a) ∙ ap makes w.says)
  origin events n body (welcomes w) a = never (sym (asking_makes events n body a) ∙ ap makes w.says)
  origin events n body (passes w) a = never (sym (asking_makes events n body a) ∙ unquestioned (message_of body) (response_asks_none (message_of body) w.response))
  origin events n body (spreads w) a = never (sym (asking_makes events n body a) ∙ ap makes w.says)
  origin events n body (recalls w) a = never (sym (asking_makes events n body a) ∙ ap makes w.says)
  origin events n body (progresses w) a = never (sym (asking_makes events n body a) ∙ ap makes w.says)
  origin events n body (shows w) a = never (sym (asking_makes events n body a) ∙ ap makes w.says)
  origin events n body (winds_up w) a = never (sym (asking_makes events n body a) ∙ ap makes w.says)

  -- such an editor runs at that place
  asked_runs : (events : List Event) (n : ℕ) (body : List ℕ) → WhyToEditor settings before cause events n body → IsAsking events n body → (desk_of n events).phase ≡ Running
  asked_runs events n body (calls w) a = w.running
  asked_runs events n body (asks w) a = never (sym (asking_makes events n body a) ∙ (ap makes w.says ∙ w.plain))
  asked_runs events n body (resumes w) a = never (sym (asking_makes events n body a) ∙ (ap makes w.says ∙ off_creating w.method w.patient))
  asked_runs events n body (pays w) a = w.running
  asked_runs events n body (rejects w) a = never (sym (asking_makes events n body a) ∙ ap makes w.says)
  asked_runs events n body (refuses w) a = never (sym (asking_makes events n body a) ∙ ap makes w.says)
  asked_runs events n body (loses w) a = never (sym (asking_makes events n body a) ∙ ap makes w.says)
  asked_runs events n body (answers w) a = never (sym (asking_makes events n body a) ∙ ap makes w.says)
  asked_runs events n body (turns_away w) a = never (sym (asking_makes events n body a) ∙ ap makes w.says)
  asked_runs events n body (welcomes w) a = never (sym (asking_makes events n body a) ∙ ap makes w.says)
  asked_runs events n body (passes w) a = never (sym (asking_makes events n body a) ∙ unquestioned (message_of body) (response_asks_none (message_of body) w.response))
  asked_runs events n body (spreads w) a = never (sym (asking_makes events n body a) ∙ ap makes w.says)
  asked_runs events n body (recalls w) a = never (sym (asking_makes events n body a) ∙ ap makes w.says)
  asked_runs events n body (progresses w) a = never (sym (asking_makes events n body a) ∙ ap makes w.says)
  asked_runs events n body (shows w) a = never (sym (asking_makes events n body a) ∙ ap makes w.says)
  asked_runs events n body (winds_up w) a = never (sym (asking_makes events n body a) ∙ ap makes w.says)

  pub closed_off : (events : List Event) (n : ℕ) → is_asks (word settings s k e events (said (CloseEditor n))) ≡ false
  closed_off events n = go (nat_eq n e)
    where
      go : (b : Bool) → is_asks (if b then due_parts else rests) ≡ false
      go true = refl
      go false = refl

  none_or : (events : List Event) (xs : List Out) → Reasons (Why settings before cause) events xs → (Reasons Once events xs) ⊎ Origin
  none_or events [] r = inl tt
  none_or events (out ∷ xs) r = go out r.0 (none_or (events ++ said out ∷ []) xs r.1)
    where
      silent : (o : Out) → Once events o → (Reasons Once (events ++ said o ∷ []) xs) ⊎ Origin → (Reasons Once events (o ∷ xs)) ⊎ Origin
      silent o h (inl rest) = inl (h, rest)
      silent o h (inr from) = inr from

      go : (o : Out) → Why settings before cause events o → (Reasons Once (events ++ said o ∷ []) xs) ⊎ Origin → (Reasons Once events (o ∷ xs)) ⊎ Origin
      go (ToEditor n body) why rest = by (is_asks (word settings s k e events (said (ToEditor n body)))) refl
        where
          by : (b : Bool) → is_asks (word settings s k e events (said (ToEditor n body))) ≡ b → (Reasons Once events (ToEditor n body ∷ xs)) ⊎ Origin
          by true h = inr (origin events n body why (asking_is events n body h))
          by false off = silent (ToEditor n body) (λ h. never (sym h ∙ off)) rest
      go (ToServer n body) why rest = silent (ToServer n body) (λ h. never (sym h)) rest
      go (Spawn n g) why rest = silent (Spawn n g) (λ h. never (sym h)) rest
      go (CloseEditor n) why rest = silent (CloseEditor n) (λ h. never (sym h ∙ closed_off events n)) rest
      go (EndServer n) why rest = silent (EndServer n) (λ h. never (sym h)) rest

  -- The cause asks nothing
  heard_off : (c : Cause) → is_asks (word settings s k e before (heard c)) ≡ false
  heard_off (FromServer n body) = by (message_of body)
    where
      by : (m : Message) → is_asks (word settings s k e before (took (FromServer n body) m)) ≡ false
      by (notification method params) = go (nat_eq n s && (is_progress method && is_ready (life_of s before).stage)) (token_called (named_token params) x)
        where
          numbered : (d : Bool) → is_asks (if d then due_tells body else rests) ≡ false
          numbered true = refl
          numbered false = refl

          go : (b : Bool) (o : Option Token) → is_asks (if b then told_by k body o else rests) ≡ false
          go true (Some t) = numbered (is_numbered k t)
          go true None = refl
          go false o = refl
      by (request id method params) = refl
      by (result id r) = refl
      by (error id r) = refl
      by not_json = refl
      by not_message = refl
  heard_off (FromEditor n body) = go (nat_eq n e) (requests (codes "shutdown") (message_of body))
    where
      go : (b c : Bool) → is_asks (if b then (if c then due_parts else due_replies (answered_id (message_of body)) (accepts (message_of body))) else rests) ≡ false
      go true true = refl
      go true false = refl
      go false c = refl
  heard_off (EditorGone n why) = parting (nat_eq n e)
    where
      parting : (b : Bool) → is_asks (if b then due_parts else rests) ≡ false
      parting true = refl
      parting false = refl
  heard_off (StartFailed n) = parting (nat_eq n s)
    where
      parting : (b : Bool) → is_asks (if b then breaks else rests) ≡ false
      parting true = refl
      parting false = refl
  heard_off (ServerGone n) = parting (nat_eq n s)
    where
      parting : (b : Bool) → is_asks (if b then breaks else rests) ≡ false
      parting true = refl
      parting false = refl
  heard_off (Joined n) = refl
  heard_off (Started n) = refl
  heard_off (Drained n j) = refl
  heard_off (Tick t) = refl

  unasked_now : (c : Cause) → Unasked before → Unasked (with_cause before c)
  unasked_now c h = unasked_more before (heard c) (heard_off c) h

  unasked_by : (list_any is_asks (words settings s k e before) ≡ true → ⊥) → Unasked before
  unasked_by f = go (list_any is_asks (words settings s k e before)) refl
    where
      go : (b : Bool) → list_any is_asks (words settings s k e before) ≡ b → b ≡ false
      go true h = absurd (f h)
      go false h = refl

  -- S8

  module _ (t : Token) where
    abbrev Apart : List ℕ → Type 0
    Apart ns = AllByRecursion (λ m. nat_eq m e ≡ false) ns

    offer_once : (events : List Event) (n : ℕ) → (Unasked events) ⊎ (nat_eq n e ≡ false) → Because Once events (offer s n t)
    offer_once events n u = by_look (by_choose (λ room. by_send (λ h. go (asking_is events n (create_text s t.number (next_ask n events)) h) u)) (λ none. by_nothing))
      where
        go : IsAsking events n (create_text s t.number (next_ask n events)) → (Unasked events) ⊎ (nat_eq n e ≡ false) → Unasked events
        go a (inl un) = un
        go a (inr off) = never (sym (same_number e) ∙ (ap (λ z. nat_eq z e) (sym a.editor) ∙ off))

    offer_next : (events : List Event) (n : ℕ) (ns : List ℕ) → AllByRecursion (λ m. nat_eq n m ≡ false) ns → (Unasked events) ⊎ (Apart (n ∷ ns)) → (Unasked (behind events (outs (offer s n t) events))) ⊎ (Apart ns)
    offer_next events n ns differ (inr apart) = inr apart.1
    offer_next events n ns differ (inl un) = go (has_number n events)
      where
        turned : (ms : List ℕ) → n ≡ e → AllByRecursion (λ m. nat_eq n m ≡ false) ms → Apart ms
        turned [] same h = tt
        turned (m ∷ ms) same h = (num_off m e (λ is. never (sym (same_number n) ∙ (ap (nat_eq n) (same ∙ sym is) ∙ h.0))), turned ms same h.1)

        by : (b : Bool) → is_asks (word settings s k e events (said (ToEditor n (create_text s t.number (next_ask n events))))) ≡ b → (Unasked (events ++ said (ToEditor n (create_text s t.number (next_ask n events))) ∷ [])) ⊎ (Apart ns)
        by true h = inr (turned ns (asking_is events n (create_text s t.number (next_ask n events)) h).editor differ)
        by false off = inl (unasked_more events (said (ToEditor n (create_text s t.number (next_ask n events)))) off un)

        go : (b : Bool) → (Unasked (behind events (outs (choose b (send (ToEditor n (create_text s t.number (next_ask n events)))) nothing) events))) ⊎ (Apart ns)
        go true = by (is_asks (word settings s k e events (said (ToEditor n (create_text s t.number (next_ask n events)))))) refl
        go false = inl (subst Unasked (sym (append-nil events)) un)

    first_of : (events : List Event) (n : ℕ) (ns : List ℕ) → (Unasked events) ⊎ (Apart (n ∷ ns)) → (Unasked events) ⊎ (nat_eq n e ≡ false)
    first_of events n ns (inl un) = inl un
    first_of events n ns (inr apart) = inr apart.0

    offers_once : (ns : List ℕ) (events : List Event) → Differ ns → (Unasked events) ⊎ (Apart ns) → Because Once events (each (λ n. offer s n t) ns)
    offers_once [] events differ u = by_nothing
    offers_once (n ∷ ns) events differ u = by_then (offer_once events n (first_of events n ns u)) (offers_once ns (behind events (outs (offer s n t) events)) differ.1 (offer_next events n ns differ.0 u))

  made_once : (asked : List ℕ) (t : Token) → cause ≡ FromServer s asked → IsChange settings before cause e s asked Create → created_token asked x ≡ Some t → t.number ≡ k → (life_of s before).stage ≡ Ready → Reasons Once (with_cause before (FromServer s asked)) (outs_of settings before (FromServer s asked))
  made_once asked t from c found number ready = subst (Reasons Once there) (sym row_is) whole.why
    where
      there : List Event
      there = with_cause before (FromServer s asked)

      new : IsNew asked x t
      new = new_is asked x t found

      low_not : list_any is_asks (words settings s k e before) ≡ true → ⊥
      low_not h = go tie.rest
        where
          go : Rest k x (words settings s k e before) (life_of s before).stage → ⊥
          go (going begins untold lower) = let less : k < x.next = lower h in let is : t.number ≡ x.next = new.number in omega (arith, less, is, number)
          go (dead is ended) = let clash : Ready ≡ Ended = sym ready ∙ ended in cc

      unasked_there : Unasked (behind there (outs (accept s asked) there))
      unasked_there = unasked_more there (said (ToServer s (ok_text (id_bytes asked) (codes "null")))) refl (unasked_now (FromServer s asked) (unasked_by low_not))

      differ : Differ (running_in settings c.group before)
      differ = some_differ (λ n. is_running (desk_of n before).phase && is_home c.group (home_of settings n before)) (range_with_len 0 (editors_of before)) (range_differs 0 (editors_of before))

      whole : Because Once there (accept s asked ⨾ each (λ n. offer s n t) (running_in settings c.group before))
      whole = by_then (by_send (λ h. never (sym h))) (offers_once t (running_in settings c.group before) (behind there (outs (accept s asked) there)) differ (inl unasked_there))

      row_is : outs_of settings before (FromServer s asked) ≡ outs (accept s asked ⨾ each (λ n. offer s n t) (running_in settings c.group before)) there
      row_is = ap (λ z. outs (from_server settings s before asked (message_of asked) z) there) ready
          ∙ (ap (λ m. outs (from_server settings s before asked m Ready) there) c.asks
          ∙ (ap (λ b. outs (choose b nothing (on (group_of s before) nothing (λ g. asking_row settings before g s asked c.method (class_of c.method Server false)))) there) c.fresh
          ∙ (ap (λ o. outs (on o nothing (λ g. asking_row settings before g s asked c.method (class_of c.method Server false))) there) c.kept
          ∙ (ap (λ z. outs (asking_row settings before c.group s asked c.method z) there) c.kind
          ∙ ap (λ o. outs (on o (decline s asked) (λ u. accept s asked ⨾ each (λ n. offer s n u) (running_in settings c.group before))) there) found))))

  -- L2

  to_start_once : (xs : List Out) (events : List Event) → AllByRecursion ToStart xs → Reasons Once events xs
  to_start_once [] events all = tt
  to_start_once (ToServer n body ∷ xs) events all = (λ h. never (sym h), to_start_once xs (events ++ said (ToServer n body) ∷ []) all.1)
  to_start_once (ToEditor n body ∷ xs) events all = absurd all.0
  to_start_once (Spawn n g ∷ xs) events all = absurd all.0
  to_start_once (CloseEditor n ∷ xs) events all = absurd all.0
  to_start_once (EndServer n ∷ xs) events all = absurd all.0

  going_once : (xs : List Out) (events : List Event) → AllByRecursion Goes xs → Reasons Once events xs
  going_once [] events all = tt
  going_once (ToServer n body ∷ xs) events all = (λ h. never (sym h), going_once xs (events ++ said (ToServer n body) ∷ []) all.1)
  going_once (ToEditor n body ∷ xs) events all = (plain_once events n body (asks_none (message_of body) all.0), going_once xs (events ++ said (ToEditor n body) ∷ []) all.1)
  going_once (Spawn n g ∷ xs) events all = absurd all.0
  going_once (CloseEditor n ∷ xs) events all = absurd all.0
  going_once (EndServer n ∷ xs) events all = absurd all.0

  -- tokens that it may still be asked of
  module _ (t : ℕ) (low_t : t < 2 ^ 64) where
    abbrev Others : List Token → Type 0
    Others ts = AllByRecursion (λ (u : Token). nat_eq u.number k ≡ false) ts

    abbrev Small : List Token → Type 0
    Small ts = AllByRecursion (λ (u : Token). u.number < 2 ^ 64) ts

    abbrev text : Token → List Event → List ℕ
    text u events = create_text t u.number (next_ask e events)

    live_once : (events : List Event) (u : Token) → u.number < 2 ^ 64 → (Unasked events) ⊎ (nat_eq u.number k ≡ false) → Because Once events (offer t e u)
    live_once events u low_u fine = by_look (by_choose (λ room. by_send (λ h. go (offered events e t u.number low_t low_u room (asking_is events e (text u events) h)) fine)) (λ none. by_nothing))
      where
        go : (s ≡ t) × (k ≡ u.number) → (Unasked events) ⊎ (nat_eq u.number k ≡ false) → Unasked events
        go both (inl un) = un
        go both (inr off) = never (sym (same_number k) ∙ (ap (λ z. nat_eq z k) both.1 ∙ off))

    live_next : (events : List Event) (u : Token) (us : List Token) → u.number < 2 ^ 64 → AllByRecursion (IsApart u) us → (Unasked events) ⊎ (Others (u ∷ us)) → (Unasked (behind events (outs (offer t e u) events))) ⊎ (Others us)
    live_next events u us low_u apart (inr others) = inr others.1
    live_next events u us low_u apart (inl un) = go (has_number e events) refl
      where
        turned : (vs : List Token) → k ≡ u.number → AllByRecursion (IsApart u) vs → Others vs
        turned [] same h = tt
        turned (v ∷ vs) same h = (ap (nat_eq v.number) same ∙ (h.0).0, turned vs same h.1)

        by : has_number e events ≡ true → (b : Bool) → is_asks (word settings s k e events (said (ToEditor e (text u events)))) ≡ b → (Unasked (events ++ said (ToEditor e (text u events)) ∷ [])) ⊎ (Others us)
        by room true h = inr (turned us (offered events e t u.number low_t low_u room (asking_is events e (text u events) h)).1 apart)
        by room false off = inl (unasked_more events (said (ToEditor e (text u events))) off un)

        go : (b : Bool) → has_number e events ≡ b → (Unasked (behind events (outs (choose b (send (ToEditor e (text u events))) nothing) events))) ⊎ (Others us)
        go true room = by room (is_asks (word settings s k e events (said (ToEditor e (text u events))))) refl
        go false none = inl (subst Unasked (sym (append-nil events)) un)

    first_live : (events : List Event) (u : Token) (us : List Token) → (Unasked events) ⊎ (Others (u ∷ us)) → (Unasked events) ⊎ (nat_eq u.number k ≡ false)
    first_live events u us (inl un) = inl un
    first_live events u us (inr others) = inr others.0

    lives_once : (us : List Token) (events : List Event) → AllApart us → Small us → (Unasked events) ⊎ (Others us) → Because Once events (each (offer t e) us)
    lives_once [] events apart low_us fine = by_nothing
    lives_once (u ∷ us) events apart low_us fine = by_then (live_once events u low_us.0 (first_live events u us fine)) (lives_once us (behind events (outs (offer t e u) events)) apart.1 low_us.1 (live_next events u us low_us.0 apart.0 fine))

  restored_once : (t : ℕ) (events : List Event) → Because Once events (restore settings before e t)
  restored_once t events = by_choose (λ some. by_look (by_choose (λ room. by_send (plain_once events e (register_text (live_of settings t before) (next_ask e events)) (plain events room))) (λ none. by_nothing))) (λ none. by_nothing)
    where
      plain : (places : List Event) → has_number e places ≡ true → makes (message_of (register_text (live_of settings t before) (next_ask e places))) ≡ false
      plain places room = ap makes (register_says (live_of settings t before) (live_written settings t before) (next_ask e places) (number_small e places room)).1 ∙ register_plain

  restored_rests : (t : ℕ) (events : List Event) → Unasked events → Unasked (behind events (outs (restore settings before e t) events))
  restored_rests t events un = some (has_some (live_of settings t before))
    where
      text : List ℕ
      text = register_text (live_of settings t before) (next_ask e events)

      told : (b : Bool) → has_number e events ≡ b → Unasked (behind events (outs (choose b (send (ToEditor e text)) nothing) events))
      told true room = unasked_more events (said (ToEditor e text)) (plain_word events e text (ap makes (register_says (live_of settings t before) (live_written settings t before) (next_ask e events) (number_small e events room)).1 ∙ register_plain)) un
      told false none = subst Unasked (sym (append-nil events)) un

      some : (b : Bool) → Unasked (behind events (outs (choose b (call (register_text (live_of settings t before)) e) nothing) events))
      some true = told (has_number e events) refl
      some false = subst Unasked (sym (append-nil events)) un

  parked_once : (t : ℕ) (ps : List Parked) (events : List Event) → AllByRecursion (IsParked t before) ps → Because Once events (each (λ (p : Parked). ask p.body e) ps)
  parked_once t [] events known = by_nothing
  parked_once t (p ∷ ps) events known = by_then (by_look (by_choose (λ room. by_send (plain_once events e (with_id_text p.body (decimal (next_ask e events))) (plain room))) (λ none. by_nothing))) (parked_once t ps (behind events (outs (ask p.body e) events)) known.1)
    where
      plain : has_number e events ≡ true → makes (message_of (with_id_text p.body (decimal (next_ask e events)))) ≡ false
      plain room = ap makes (request_with_id p.body (decimal (next_ask e events)) p.id (integer (decimal (next_ask e events))) (known.0).method (known.0).params (known.0).says (decimal_law (next_ask e events) (ltb-true (next_ask e events) (2 ^ 64) room))) ∙ off_creating (known.0).method (known.0).patient

  shown_once : (t : ℕ) (ls : List LastList) → AllByRecursion IsList ls → (events : List Event) → Because Once events (each (show_full settings before t e) ls)
  shown_once t [] kept events = by_nothing
  shown_once t (l ∷ ls) kept events = by_then
      (by_choose (λ empty. by_nothing) (λ full. by_choose (λ fit. by_send (plain_once events e (text_shown settings before (facts.base).meant e t l kept.0) (ap makes (text_says settings before (facts.base).meant e t l kept.0).1))) (λ no. by_nothing)))
      (shown_once t ls kept.1 (behind events (outs (show_full settings before t e l) events)))

  run_once : (t : ℕ) (events : List Event) → Unasked events → Because Once events (run_at settings before e t)
  run_once t events un = by_choose (λ ready. by_then (restored_once t events) (by_then
      (lives_once t (spawned t (ready_is (life_of t before).stage ready)) tokens mid (created_orderly settings t before).apart (lows tokens (created_orderly settings t before).live) (inl (restored_rests t events un)))
      (by_then (shown_once t (lists_of t before) (lists_kept t before (facts.base).meant) (behind mid (outs (offer_all settings before e t) mid)))
      (parked_once t (parked_of settings t before) _ ((facts.steady).asks t).parked)))) (λ off. by_nothing)
    where
      tokens : List Token
      tokens = (created_of settings t before).tokens

      mid : List Event
      mid = behind events (outs (restore settings before e t) events)

      lows : (us : List Token) → AllByRecursion (IsLive (created_of settings t before).next) us → AllByRecursion (λ (u : Token). u.number < 2 ^ 64) us
      lows [] h = tt
      lows (u ∷ us) h = (let below : u.number < (created_of settings t before).next = (h.0).below in let top : (created_of settings t before).next ≤ 2 ^ 64 = (created_fair settings t before (facts.base).meant).small in omega (arith, below, top), lows us h.1)

  module _ (body : List ℕ) (was : (desk_of e before).phase ≡ Answered) (runs : makes_running (message_of body) ≡ true) where
    abbrev there : List Event
    there = with_cause before (FromEditor e body)

    unasked_there : Unasked there
    unasked_there = unasked_now (FromEditor e body) (unasked_by (λ h. let clash : true ≡ false = sym (ran h) ∙ ap has_run was in cc))

    first_row : outs_of settings before (FromEditor e body) ≡ outs (message_row settings before e body (message_of body) Answered) there
    first_row = whole_off settings before e body (off_unrun settings before e body (message_of body) (ap is_running was)) ∙ (ap (λ p. outs (from_editor settings before e body (message_of body) p) there) was ∙ ap (λ b. outs (choose b (malformed_row e (message_of body) Answered) (message_row settings before e body (message_of body) Answered)) there) (well_formed (message_of body) runs).0)

    doubled : is_doubled before e (message_of body) ≡ true → Reasons Once there (outs_of settings before (FromEditor e body))
    doubled twice = subst (Reasons Once there) (sym (first_row ∙ ap (λ b. outs (choose b (closing_row settings before e) (told_row settings before e body (message_of body) Answered)) there) twice))
        ((λ h. never (sym h ∙ closed_off there e)), to_start_once parted (behind there (CloseEditor e ∷ [])) (all_outs ToStart (behind there (CloseEditor e ∷ [])) parted (leave_by (λ places out. ToStart out) (λ places n b. tt) settings before e (behind there (CloseEditor e ∷ []))).why))
      where
        parted : List Out
        parted = outs (leave_row settings before e) (behind there (CloseEditor e ∷ []))

    abbrev served : Row
    served = served_row settings before e body (message_of body)

    abbrev mid : List Event
    mid = behind there (outs (run_row settings before e) there)

    begun_part : Because Once there (run_row settings before e)
    begun_part = by_on {o = home_of settings e before} {p = nothing} {row = λ g. on (start_of g before) nothing (run_at settings before e)} (λ none. by_nothing)
        (λ g home. by_on {o = start_of g before} {p = nothing} {row = run_at settings before e} (λ none. by_nothing) (λ t start. run_once t there unasked_there))

    single : is_doubled before e (message_of body) ≡ false → Reasons Once there (outs_of settings before (FromEditor e body))
    single once = subst (Reasons Once there) (sym (first_row ∙ (ap (λ b. outs (choose b (closing_row settings before e) (told_row settings before e body (message_of body) Answered)) there) once
        ∙ (ap (λ b. outs (choose b (lspmux_row settings before e body (message_of body)) (taken_row settings before e body (message_of body) Answered)) there) (well_formed (message_of body) runs).1
        ∙ ap (λ b. outs (choose b (run_row settings before e) nothing ⨾ served) there) runs))))
        (reasons_both Once there (outs (run_row settings before e) there) (outs served mid) begun_part.why (going_once (outs served mid) mid ((still_served settings before e body (facts.steady).held (ap is_running was) (message_of body) refl runs).goes mid (meant_behind there (outs (run_row settings before e) there) (meant_more before (heard (FromEditor e body)) (facts.base).meant (meant_heard (FromEditor e body)))))))

    begun_once : Reasons Once there (outs_of settings before (FromEditor e body))
    begun_once = go (is_doubled before e (message_of body)) refl
      where
        go : (b : Bool) → is_doubled before e (message_of body) ≡ b → Reasons Once there (outs_of settings before (FromEditor e body))
        go true twice = doubled twice
        go false once = single once

  -- its message makes it run
  runs_by : (body : List ℕ) → (desk_of e before).phase ≡ Answered → (desk_of e (with_cause before (FromEditor e body))).phase ≡ Running → makes_running (message_of body) ≡ true
  runs_by body was began = go (requests (codes "shutdown") (message_of body)) (makes_running (message_of body)) (sym phase_is ∙ began)
    where
      phase_is : (desk_of e (with_cause before (FromEditor e body))).phase ≡ (if requests (codes "shutdown") (message_of body) then Down else if makes_running (message_of body) then Running else Answered)
      phase_is = ap (λ (d : Desk). d.phase) (desk_more e before (heard (FromEditor e body)))
          ∙ (ap (λ b. (if b then desk_hears (desk_of e before).phase (desk_of e before).initialize body (message_of body) else desk_of e before).phase) (same_number e)
          ∙ ap (λ p. (desk_hears p (desk_of e before).initialize body (message_of body)).phase) was)

      go : (a b : Bool) → (if a then Down else if b then Running else Answered) ≡ Running → b ≡ true
      go true b h = absurd (cc)
      go false true h = refl
      go false false h = absurd (cc)

  by_origin : Origin → Reasons Once now (outs_of settings before cause)
  by_origin (made asked t c found number ready) = subst (λ z. Reasons Once (with_cause before z) (outs_of settings before z)) (sym c.from) (made_once asked t c.from c found number ready)
  by_origin (begun t r) = subst (λ z. Reasons Once (with_cause before z) (outs_of settings before z)) (sym r.from) (begun_once r.text r.waited (runs_by r.text r.waited (subst (λ z. (desk_of e (with_cause before z)).phase ≡ Running) r.from r.began)))

  pub asked_once : Reasons Once now (outs_of settings before cause)
  asked_once = go (none_or now (outs_of settings before cause) (reasons settings range before facts cause).why)
    where
      go : (Reasons Once now (outs_of settings before cause)) ⊎ Origin → Reasons Once now (outs_of settings before cause)
      go (inl r) = r
      go (inr from) = by_origin from

  -- whom it is asked of has run
  abbrev Ran : List Event → Type 0
  Ran events = list_any is_asks (words settings s k e events) ≡ true → HasRun events e

  run_later : (a b : Bool) → (not b ≡ true → not a ≡ true) → a ≡ true → b ≡ true
  run_later a true f h = refl
  run_later a false f h = never (sym (sym (ap not h) ∙ f refl))

  or_parts : (a b : Bool) → (a || (b || false)) ≡ true → (a ≡ true) ⊎ (b ≡ true)
  or_parts true b h = inl refl
  or_parts false true h = inr refl
  or_parts false false h = never (sym h)

  ran_more : (events : List Event) (event : Event) → (HasRun events e → HasRun (events ++ event ∷ []) e) → (is_asks (word settings s k e events event) ≡ true → HasRun (events ++ event ∷ []) e) → Ran events → Ran (events ++ event ∷ [])
  ran_more events event later new h asked = go (or_parts (list_any is_asks (words settings s k e events)) (is_asks (word settings s k e events event)) (sym (any_join is_asks (words settings s k e events) (word settings s k e events event ∷ [])) ∙ (ap (list_any is_asks) (sym (words_more settings s k e events event)) ∙ asked)))
    where
      go : (list_any is_asks (words settings s k e events) ≡ true) ⊎ (is_asks (word settings s k e events event) ≡ true) → HasRun (events ++ event ∷ []) e
      go (inl a) = later (h a)
      go (inr b) = new b

  runs_later : (events : List Event) (out : Out) → HasRun events e → HasRun (events ++ said out ∷ []) e
  runs_later events out h = run_later (has_run (desk_of e events).phase) (has_run (desk_of e (events ++ said out ∷ [])).phase) (all_back (λ p. not (has_run p)) not_run e events (out ∷ [])) h

  pub ran_did : (events : List Event) (out : Out) → Why settings before cause events out → Ran events → Ran (events ++ said out ∷ [])
  ran_did events (ToEditor n body) why h = ran_more events (said (ToEditor n body)) (runs_later events (ToEditor n body))
      (λ asked. let a : IsAsking events n body = asking_is events n body asked in runs_later events (ToEditor n body) (subst (HasRun events) a.editor (ap has_run (asked_runs events n body why a)))) h
  ran_did events (ToServer n body) why h = ran_more events (said (ToServer n body)) (runs_later events (ToServer n body)) (λ asked. never (sym asked)) h
  ran_did events (Spawn n g) why h = ran_more events (said (Spawn n g)) (runs_later events (Spawn n g)) (λ asked. never (sym asked)) h
  ran_did events (CloseEditor n) why h = ran_more events (said (CloseEditor n)) (runs_later events (CloseEditor n)) (λ asked. never (sym asked ∙ closed_off events n)) h
  ran_did events (EndServer n) why h = ran_more events (said (EndServer n)) (runs_later events (EndServer n)) (λ asked. never (sym asked)) h

  pub ran_entry : Ran (behind now (outs_of settings before cause))
  ran_entry = reasons_keep (Why settings before cause) Ran ran_did now (outs_of settings before cause) (reasons settings range before facts cause).why
      (ran_more before (heard cause) (λ h. run_later (has_run (desk_of e before).phase) (has_run (desk_of e now).phase) (unrun settings range before facts settled cause fits e) h) (λ asked. never (sym asked ∙ heard_off cause)) ran)
