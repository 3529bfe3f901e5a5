-- Each answer that an editor gets has its own versions of documents, or is an error.
use Rattle.std.proofs.Common.{◌≡◌, ℕ, Bool, true, false, List, [], ◌∷◌, ◌++◌, decimal, find, Option, None, Some, refl, sym, ◌∙◌, ap, subst, append_assoc, append-nil}
use Rattle.std.specs.List.{AllByRecursion}
use Rattle.std.specs.Option.{option_and_then}
use Rattle.json_text.specs.Json.{Json}
use Rattle.lsp_method.specs.Class.{class_of}
use Rattle.lsp_method.specs.declared.variants.Origin.TheVariants.{Server}
use Rattle.mux_history.specs.declared.cause.Cause.{Cause}
use Rattle.mux_history.specs.declared.cause.Cause.TheVariants.{Joined, FromEditor, EditorGone, Started, StartFailed, FromServer, ServerGone, Drained, Tick}
use Rattle.mux_history.specs.declared.entry.Entry.{Entry}
use Rattle.mux_history.specs.declared.out.Out.{Out}
use Rattle.mux_history.specs.declared.out.Out.TheVariants.{ToEditor, ToServer, Spawn, CloseEditor, EndServer}
use Rattle.rpc_message.specs.Message.{Message, request, notification, result, error, not_json, not_message, Id, message_of}
use Rattle.event_model.proofs.Frames.{never}
use Rattle.mux_facts.specs.Allowed.{is_response}
use Rattle.event_model.specs.declared.stage.Stage.{Stage}
use Rattle.event_model.specs.declared.stage.Stage.TheVariants.{Unspawned, Spawning, Initializing, Ready, Stopping, Ending, Ended}
use Rattle.event_model.specs.Event.{Event, behind, events_of, said, with_cause}
use Rattle.event_model.specs.Requests.{answered_id}
use Rattle.event_model.specs.Row.{outs}
use Rattle.event_model.specs.Settings.{Settings}
use Rattle.event_model.specs.Stages.{life_of}
use Rattle.group_rows.specs.response_route.specs.Answers.{answer_text}
use Rattle.group_rows.specs.response_route.specs.Asked.{asked_text}
use Rattle.group_rows.specs.response_route.specs.Versions.{version_now}
use Rattle.mux_facts.specs.Ranges.{InRange}
use Rattle.mux_facts.proofs.Lists.{all_join, found_is}
use Rattle.mux_facts.proofs.Reasons.{Because, Reasons, by_choose, by_look, by_nothing, by_on, by_send}
use Rattle.group_rows.specs.Answers.{agreed_version, answer_row, held_version, moment_of, own_version, stamp_at}
use Rattle.group_rows.specs.AskRows.{ask_edit, asking_row, current_version, edited, focused_row, is_edit, question_row}
use Rattle.group_rows.specs.Asks.{next_ask}
use Rattle.group_rows.specs.Forwarded.{Forwarded, answered_by, forwarding_of}
use Rattle.group_rows.specs.Rows.{from_server, outs_of, ready_row}
use Rattle.group_facts.specs.SlowRows.{entry_outs, slow_row}
use Rattle.group_rows.proofs.Versions.{own_flat}
use Rattle.group_facts.specs.Facts.{IsAsker, IsForwarded}
use Rattle.group_facts.specs.Legal.{Legal, LegalFrom}
use Rattle.group_facts.specs.OwnVersions.{IsHandedOn, OnOwnVersions, OwnVersion, OwnVersions, OwnVersionsFrom, asks_edit}
use Rattle.group_facts.proofs.Answered.{answer_says}
use Rattle.group_facts.proofs.AnswerRows.{answers_only, response_is}
use Rattle.group_facts.proofs.AskingRows.{edit_class}
use Rattle.group_facts.proofs.SlowRow.{slow_all}
use Rattle.group_facts.proofs.Facts.{Facts}
use Rattle.group_facts.proofs.Known.{facts_hold}
use Rattle.group_facts.proofs.SentOn.{AllSentOn, WasSentOn, sent_holds}
use Rattle.group_facts.proofs.VersionsIn.{own_answer, own_edit, own_now}
use Rattle.group_facts.proofs.Quits.{asked_while}
use Rattle.event_model.specs.Phases.{desk_of, is_there}

-- of a start that isn't ready nothing is said
unready : (settings : Settings) (before : List Event) (s : ℕ) (heard : List ℕ) → ((life_of s before).stage ≡ Ready → ⊥) → (xs : List Out) → AllByRecursion (OnOwnVersions settings before (FromServer s heard)) xs
unready settings before s heard other [] = tt
unready settings before s heard other (ToEditor e body ∷ xs) = (λ ready. absurd (other ready), unready settings before s heard other xs)
unready settings before s heard other (ToServer n body ∷ xs) = (tt, unready settings before s heard other xs)
unready settings before s heard other (Spawn n g ∷ xs) = (tt, unready settings before s heard other xs)
unready settings before s heard other (CloseEditor e ∷ xs) = (tt, unready settings before s heard other xs)
unready settings before s heard other (EndServer n ∷ xs) = (tt, unready settings before s heard other xs)

-- nor of a message that is neither a response nor asks for an edit
aside : (settings : Settings) (before : List Event) (s : ℕ) (heard : List ℕ) → is_response (message_of heard) ≡ false → asks_edit (message_of heard) ≡ false → (xs : List Out) → AllByRecursion (OnOwnVersions settings before (FromServer s heard)) xs
aside settings before s heard answers edits [] = tt
aside settings before s heard answers edits (ToEditor e body ∷ xs) = (λ ready. (λ response. never (sym response ∙ answers), λ edit. never (sym edit ∙ edits)), aside settings before s heard answers edits xs)
aside settings before s heard answers edits (ToServer n body ∷ xs) = (tt, aside settings before s heard answers edits xs)
aside settings before s heard answers edits (Spawn n g ∷ xs) = (tt, aside settings before s heard answers edits xs)
aside settings before s heard answers edits (CloseEditor e ∷ xs) = (tt, aside settings before s heard answers edits xs)
aside settings before s heard answers edits (EndServer n ∷ xs) = (tt, aside settings before s heard answers edits xs)

-- nor is anything said of other causes
unsaid : (settings : Settings) (before : List Event) (cause : Cause) → ((out : Out) → OnOwnVersions settings before cause out) → (xs : List Out) → AllByRecursion (OnOwnVersions settings before cause) xs
unsaid settings before cause h [] = tt
unsaid settings before cause h (out ∷ xs) = (h out, unsaid settings before cause h xs)

module _ (settings : Settings) (before : List Event) (facts : Facts settings before) (asked : AllSentOn settings before) (s : ℕ) (answer : List ℕ) where
  abbrev R : List Event → Out → Type 0
  R events out = OnOwnVersions settings before (FromServer s answer) out

  abbrev now : List Event
  now = with_cause before (FromServer s answer)

  -- what V1 says of each version, by the moment of the request
  own_means : (f : Forwarded) (moment : List Event) → moment_of settings s f.number before ≡ Some moment → (u digits : List ℕ) → OwnVersion settings s f.editor moment before u digits (own_version settings before s f u digits)
  own_means f moment at u digits = subst (λ o. OwnVersion settings s f.editor moment before u digits (version_now digits (stamp_at agreed_version settings s f.editor before u) (option_and_then (λ m. stamp_at held_version settings s f.editor m u) o))) (sym at)
      (own_now settings s f.editor u digits moment before)

  abbrev text_for : Forwarded → List ℕ
  text_for f = answer_text (own_version settings before s f) answer f.id

  answer_on : asks_edit (message_of answer) ≡ false → Because R now (answer_row settings s before answer (message_of answer))
  answer_on plain = by_on (λ none. by_nothing) (λ f found. by_choose (λ there. by_send (λ ready. (λ response. on f found there, λ edit. never (sym edit ∙ plain)))) (λ gone. by_nothing))
    where
      on : (f : Forwarded) → find (answered_by (answered_id (message_of answer))) (forwarding_of settings s before).open_requests ≡ Some f → is_there (desk_of f.editor before).phase ≡ true → IsHandedOn settings before s answer f.editor (text_for f)
      on f found there =
          let k : IsAsker before f.editor f.id = found_is (IsForwarded before) (answered_by (answered_id (message_of answer))) f (forwarding_of settings s before).open_requests (asked_while settings before (facts.steady).asked facts.quit f.editor there s) found in
          let w : WasSentOn settings s before f.number f.editor f.id = found_is (λ (g : Forwarded). WasSentOn settings s before g.number g.editor g.id) (answered_by (answered_id (message_of answer))) f (forwarding_of settings s before).open_requests (asked s) found in
          record {
            request = f;
            listed = found;
            editor = refl;
            sent = w.sent;
            id = k.id;
            text = k.text;
            waits = k.waits;
            answered = (response_is k.id (message_of (text_for f)) (answer_says (own_version settings before s f) (own_flat settings before s f (facts.base).meant) answer f.id k.id (answers_only (message_of answer) f (forwarding_of settings s before).open_requests found) k.text)).1;
            own = own_answer settings s f.editor (w.sent).moment before (own_version settings before s f) (own_means f (w.sent).moment w.at) answer f.id;
          }

  flat : (events : List Event) (xs : List Out) → Reasons R events xs → AllByRecursion (OnOwnVersions settings before (FromServer s answer)) xs
  flat events [] h = tt
  flat events (out ∷ xs) h = (h.0, flat (events ++ said out ∷ []) xs h.1)

  -- V3
  module _ (id : Id) (method : List ℕ) (params : Option Json) (says : message_of answer ≡ request id method params) (edit : is_edit method ≡ true) where
    applied : (e : ℕ) (number : List ℕ) (o : Option (List ℕ)) → asked_text (current_version settings before s e) answer number ≡ o → (events : List Event) → Because R events (edited s answer e o)
    applied e number None none events = by_send tt
    applied e number (Some text) is events = by_send (λ ready. (λ response. never (sym response ∙ ap is_response says), λ asks. own_edit settings s e before answer number text is))

    edit_asked : (e : ℕ) → Because R now (ask_edit settings before s answer e)
    edit_asked e = by_look (by_choose (λ room. applied e (decimal (next_ask e now)) (asked_text (current_version settings before s e) answer (decimal (next_ask e now))) refl now) (λ none. by_nothing))

    focused : (g : ℕ) → Because R now (focused_row settings before g s answer method)
    focused g = by_on (λ none. by_send tt) (λ e found. by_choose (λ yes. edit_asked e) (λ plain. never (sym edit ∙ plain)))

    by_class : (g : ℕ) → Because R now (asking_row settings before g s answer method (class_of method Server false))
    by_class g = subst (λ c. Because R now (asking_row settings before g s answer method c)) (sym (edit_class method edit)) (focused g)

    question_on : Because R now (question_row settings s before answer id method)
    question_on = by_choose (λ taken. by_nothing) (λ fresh. by_on (λ none. by_nothing) (λ g home. by_class g))

  -- of a start that isn't ready nothing is said
  from_ready : (stage : Stage) → (life_of s before).stage ≡ stage → AllByRecursion (OnOwnVersions settings before (FromServer s answer)) (outs (from_server settings s before answer (message_of answer) stage) now)
  from_ready Ready at = go (message_of answer) refl
    where
      answers : (m : Message) → message_of answer ≡ m → asks_edit m ≡ false → AllByRecursion (OnOwnVersions settings before (FromServer s answer)) (outs (answer_row settings s before answer m) now)
      answers m says plain = subst (λ z. AllByRecursion (OnOwnVersions settings before (FromServer s answer)) (outs (answer_row settings s before answer z) now)) says
          (flat now (outs (answer_row settings s before answer (message_of answer)) now) (answer_on (ap asks_edit says ∙ plain)).why)

      questioned : (id : Id) (method : List ℕ) (params : Option Json) → message_of answer ≡ request id method params → (b : Bool) → is_edit method ≡ b
          → AllByRecursion (OnOwnVersions settings before (FromServer s answer)) (outs (question_row settings s before answer id method) now)
      questioned id method params says true edit = flat now (outs (question_row settings s before answer id method) now) (question_on id method params says edit).why
      questioned id method params says false other = aside settings before s answer (ap is_response says) (ap asks_edit says ∙ other) (outs (question_row settings s before answer id method) now)

      go : (m : Message) → message_of answer ≡ m → AllByRecursion (OnOwnVersions settings before (FromServer s answer)) (outs (ready_row settings s before answer m) now)
      go (result id r) says = answers (result id r) says refl
      go (error id x) says = answers (error id x) says refl
      go (request id method params) says = questioned id method params says (is_edit method) refl
      go (notification method params) says = aside settings before s answer (ap is_response says) (ap asks_edit says) (outs (ready_row settings s before answer (notification method params)) now)
      go not_json says = answers not_json says refl
      go not_message says = answers not_message says refl
  from_ready Unspawned at = tt
  from_ready Spawning at = tt
  from_ready Initializing at = unready settings before s answer (λ ready. let clash : Initializing ≡ Ready = sym at ∙ ready in cc) (outs (from_server settings s before answer (message_of answer) Initializing) now)
  from_ready Stopping at = unready settings before s answer (λ ready. let clash : Stopping ≡ Ready = sym at ∙ ready in cc) (outs (from_server settings s before answer (message_of answer) Stopping) now)
  from_ready Ending at = tt
  from_ready Ended at = tt

module _ (settings : Settings) (range : InRange settings) where
  on_entry : (before : List Event) → Facts settings before → AllSentOn settings before → (cause : Cause) → AllByRecursion (OnOwnVersions settings before cause) (outs_of settings before cause)
  on_entry before facts asked (FromServer s answer) = from_ready settings before facts asked s answer (life_of s before).stage refl
  on_entry before facts asked (Joined e) = unsaid settings before (Joined e) (λ out. tt) (outs_of settings before (Joined e))
  on_entry before facts asked (FromEditor e body) = unsaid settings before (FromEditor e body) (λ out. tt) (outs_of settings before (FromEditor e body))
  on_entry before facts asked (EditorGone e why) = unsaid settings before (EditorGone e why) (λ out. tt) (outs_of settings before (EditorGone e why))
  on_entry before facts asked (Started s) = unsaid settings before (Started s) (λ out. tt) (outs_of settings before (Started s))
  on_entry before facts asked (StartFailed s) = unsaid settings before (StartFailed s) (λ out. tt) (outs_of settings before (StartFailed s))
  on_entry before facts asked (ServerGone s) = unsaid settings before (ServerGone s) (λ out. tt) (outs_of settings before (ServerGone s))
  on_entry before facts asked (Drained e k) = unsaid settings before (Drained e k) (λ out. tt) (outs_of settings before (Drained e k))
  on_entry before facts asked (Tick t) = unsaid settings before (Tick t) (λ out. tt) (outs_of settings before (Tick t))

  -- no editor is told by what one leaves that is slow
  on_whole : (before : List Event) → Facts settings before → AllSentOn settings before → (cause : Cause) → AllByRecursion (OnOwnVersions settings before cause) (entry_outs settings before cause)
  on_whole before facts asked cause = all_join (OnOwnVersions settings before cause) (outs_of settings before cause) (outs (slow_row settings) (behind (with_cause before cause) (outs_of settings before cause))) (on_entry before facts asked cause)
      (slow_all settings (OnOwnVersions settings before cause) (closes cause) (sends cause) (behind (with_cause before cause) (outs_of settings before cause)))
    where
      closes : (cause : Cause) (n : ℕ) → OnOwnVersions settings before cause (CloseEditor n)
      closes (FromServer s heard) n = tt
      closes other n = tt

      sends : (cause : Cause) (s : ℕ) (body : List ℕ) → OnOwnVersions settings before cause (ToServer s body)
      sends (FromServer n heard) s body = tt
      sends other s body = tt

  -- one entry more
  legal_more : (before xs : List Entry) (entry : Entry) → LegalFrom settings before xs → LegalFrom settings (before ++ xs) (entry ∷ []) → LegalFrom settings before (xs ++ entry ∷ [])
  legal_more before [] entry legal one = subst (λ z. LegalFrom settings z (entry ∷ [])) (append-nil before) one
  legal_more before (x ∷ xs) entry legal one = (legal.0, legal.1, legal_more (before ++ x ∷ []) xs entry legal.2 (subst (λ z. LegalFrom settings z (entry ∷ [])) (sym (append_assoc before (x ∷ []) xs)) one))

  own_from : (before rest : List Entry) → Legal settings before → LegalFrom settings before rest → OwnVersionsFrom settings before rest
  own_from before [] so_far legal = tt
  own_from before (entry ∷ rest) so_far legal = (
    subst (AllByRecursion (OnOwnVersions settings (events_of before) entry.cause)) (sym legal.1) (on_whole (events_of before) (facts_hold settings range before so_far) (sent_holds settings range before so_far) entry.cause),
    own_from (before ++ entry ∷ []) rest (legal_more [] before entry so_far (legal.0, legal.1, tt)) legal.2,
  )

  pub own_versions_hold : (history : List Entry) → Legal settings history → OwnVersions settings history
  own_versions_hold history legal = own_from [] history tt legal
