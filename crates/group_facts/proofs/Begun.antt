-- A group is founded in the entry that spawns its first start, a later one is spawned as the one before it ends, and nothing else founds or spawns.
use Rattle.std.proofs.Common.{◌≡◌, ℕ, zero, suc, max, ◌+◌, ◌<◌, ◌≤◌, Bool, true, false, not, ◌&&◌, List, [], ◌∷◌, ◌++◌, filter, map, length, nat_eq, codes, decimal, if◌then◌else◌, Option, Some, None, refl, sym, ◌∙◌, ap, subst, arith, append-nil, append_assoc}
use Rattle.std.specs.Prelude.{◌↔◌}
use Rattle.std.specs.List.{AllByRecursion}
use Rattle.std.proofs.lemmas.Bool.{and_parts}
use Rattle.std.proofs.lemmas.List.{length-append}
use Rattle.std.proofs.lemmas.List.Sums.{fold-append}
use Rattle.json_text.specs.Json.{Json}
use Rattle.mux_history.specs.declared.cause.Cause.{Cause}
use Rattle.mux_history.specs.declared.cause.Cause.TheVariants.{Joined, FromEditor, EditorGone, Started, StartFailed, FromServer, ServerGone, Drained, Tick}
use Rattle.mux_history.specs.declared.out.Out.{Out}
use Rattle.mux_history.specs.declared.out.Out.TheVariants.{ToEditor, ToServer, Spawn, CloseEditor, EndServer}
use Rattle.document_model.specs.Sayings.{Saying, changes, closes, misshapen, opens, saying_by}
use Rattle.document_model.specs.Sayings as saying
use Rattle.rpc_message.specs.Message.{Message, request, notification, result, error, not_json, not_message, id_bytes, message_of}
use Rattle.rpc_message.specs.Texts.{error_text, ok_text, request_failed, with_id_text}
use Rattle.json_text.specs.Json.{Json}
use Rattle.lsp_method.specs.Class.{class_of}
use Rattle.lsp_method.specs.declared.variants.Class.{Class}
use Rattle.lsp_method.specs.declared.variants.Class.TheVariants.{Broadcast, Cancel, Create, Diagnostics, Focused, Folders, Lowest, Refresh, Register, Unregister, Progress}
use Rattle.lsp_method.specs.declared.variants.Origin.TheVariants.{Server}
use Rattle.event_model.specs.declared.phase.Phase.{Phase}
use Rattle.event_model.specs.declared.phase.Phase.TheVariants.{New, Waiting, Answered, Running, Down}
use Rattle.event_model.specs.declared.stage.Stage.{Stage}
use Rattle.event_model.specs.declared.stage.Stage.TheVariants.{Spawning, Initializing, Ready, Stopping}
use Rattle.event_model.specs.Event.{Event, behind, heard, requests, said, with_cause}
use Rattle.event_model.specs.Members.{named_of}
use Rattle.event_model.specs.Phases.{desk_of, is_new, makes_running, is_running}
use Rattle.event_model.specs.Row.{Row, choose, each, look, nothing, on, outs, send, ◌⨾◌}
use Rattle.event_model.specs.Settings.{Settings}
use Rattle.event_model.specs.Spawns.{group_of, start_behind, start_of, starts_of}
use Rattle.event_model.specs.Stages.{is_initializing, is_ready, life_of}
use Rattle.event_model.proofs.Frames.{never}
use Rattle.mux_model.specs.Documents.{held_at}
use Rattle.mux_model.specs.Rows.{malformed_row, to_start}
use Rattle.mux_facts.proofs.Folds.{starts_more}
use Rattle.mux_facts.proofs.Keeps.{behind_both}
use Rattle.mux_facts.proofs.Lists.{all_of}
use Rattle.mux_facts.proofs.Reasons.{Because, Reasons, by_nothing, by_send, by_then, by_choose, by_look, by_on}
use Rattle.mux_facts.proofs.Words.{number_same, same_number}
use Rattle.group_rows.specs.response_route.specs.Asked.{asked_text}
use Rattle.group_words.specs.declared.kept.Kept.{Kept}
use Rattle.group_words.specs.declared.placed.Placed.{Placed}
use Rattle.group_words.specs.declared.placed.Placed.TheVariants.{Joins, New as Founds, Evicts, TooMany}
use Rattle.group_words.specs.Houses.{at_group, declared_for, emptied, groups_hear, groups_lose, groups_of, house_of, idle_if_live, is_first_error, key_for, placed_for, places, server_asked, stops, time_of}
use Rattle.group_words.specs.Placing.{all_from, busy, changed, end_where, ended, founded, is_live, with_editor, is_due}
use Rattle.group_words.specs.Rows.{end_group, end_start, initialize_row, placed_row}
use Rattle.group_words.proofs.Frames.{changed_length, groups_more, groups_stay, touches_groups}
use Rattle.group_rows.specs.registrations.specs.declared.registration.Registration.{Registration}
use Rattle.group_rows.specs.registrations.specs.Items.{again}
use Rattle.group_rows.specs.Live.{live_of, register_text, unregister_text}
use Rattle.group_rows.specs.LiveRows.{accept, call, has_some, registering, restore, unregister_any}
use Rattle.group_rows.specs.Cancelling.{cancelling_at, cancelling_row}
use Rattle.group_rows.specs.Forwarded.{Forwarded, forwarding_of, is_of}
use Rattle.group_rows.specs.StopRows.{close_each, joined_row, lose_request, lose_requests, refuse_initialize, refuse_open, stop_row, there_in}
use Rattle.group_rows.specs.diagnostics_route.specs.declared.last_list.LastList.{LastList}
use Rattle.group_rows.specs.ListRows.{list_row, show, show_full, show_opened}
use Rattle.group_rows.specs.diagnostics_route.specs.Published.{published}
use Rattle.group_rows.specs.Lists.{lists_of, sayings_of}
use Rattle.group_rows.specs.Leaves.{cancel, cancel_text, cancels, closings, leave_bodies, leave_row, refusals, refuse, uncancelled_of}
use Rattle.group_rows.specs.AskRows.{ask, ask_edit, asking_row, broadcast, current_version, edited, notified_row, response_at, response_row, run_at, run_row, debts_at, debts_row}
use Rattle.group_rows.specs.Asks.{Ask, Parked, asks_of, is_with, members_in, next_ask, parked_of, running_in}
use Rattle.group_rows.specs.Answers.{answer_row, hand_on}
use Rattle.group_rows.specs.Created.{Token, created_of, created_text}
use Rattle.group_rows.specs.CreatedRows.{create_text, created_row, created_work, offer, takers, taking_row, tell, tell_takers, work_at, work_row}
use Rattle.group_rows.specs.Tokens.{marked_text, tell_progress}
use Rattle.group_rows.specs.Earlier.{shown_in}
use Rattle.group_rows.specs.ExitRows.{begins_again, lose_sent, lose_start, lost_row}
use Rattle.group_rows.specs.Waiting.{part}
use Rattle.group_facts.proofs.HeldOuts.{lose_waiting_by, parts_by, send_held_by}
use Rattle.group_rows.specs.Rows.{answer_error, begin_in, begun_row, cancel_row, closing_row, document_at, document_bodies, document_row, down_row, early_row, exit_row, first_result, from_server, gone_row, lspmux_row, message_row, named_row, notice_at, notice_row, open_row, outs_of, ready_row, request_at, request_row, result_in, row_of, served_request, served_row, started, sync_bodies, taken_row, waiting_in, welcome, hasty_row, refusal, refused_row, from_editor}
use Rattle.group_rows.specs.Texts.{encoding_of, texts_of}
use Rattle.group_rows.specs.Ticks.{due_of, overdue_of, tick_row}
use Rattle.group_facts.specs.Facts.{is_exit}
use Rattle.group_facts.specs.Lively.{lives, lives_at}
use Rattle.group_facts.proofs.ExitOuts.{lost_by, told_by}
use Rattle.group_facts.proofs.Exits.{RenewsGroup, lose_length, renewed_lives, renews_parts}
use Rattle.group_facts.proofs.Housed.{ended_length}
use Rattle.group_facts.proofs.LiveGroups.{lives_past}
use Rattle.group_facts.proofs.PlacingRow.{IsNext, placed_next}
use Rattle.group_facts.proofs.Waiting.{first_unasked, new_is, whole_is}
use Rattle.group_rows.proofs.DebtsKept.{off_unrun, whole_off}
use Rattle.group_rows.specs.Debts.{agrees_on_all, debts_due}
use Rattle.group_rows.specs.refresh_debts.specs.declared.debts.Debt.{Debt}

-- Outs that spawn none

abbrev pub NoSpawn : Out → Type 0
NoSpawn (Spawn s g) = ⊥
NoSpawn out = Unit {0}

-- and outs to editors
abbrev pub IsTold : Out → Type 0
IsTold (ToEditor e body) = Unit {0}
IsTold out = ⊥

pub told_quiet : (xs : List Out) → AllByRecursion IsTold xs → AllByRecursion NoSpawn xs
told_quiet xs all = all_of IsTold NoSpawn one xs all
  where
    one : (out : Out) → IsTold out → NoSpawn out
    one (ToEditor e body) h = tt
    one (ToServer s body) h = absurd h
    one (Spawn s g) h = absurd h
    one (CloseEditor e) h = absurd h
    one (EndServer s) h = absurd h

abbrev pub Quiet : List Event → Row → Type 0
Quiet events row = Because (λ events out. NoSpawn out) events row

-- what holds of each out of a row
pub all_outs : (P : Out → Type 0) (events : List Event) (xs : List Out) → Reasons (λ places out. P out) events xs → AllByRecursion P xs
all_outs P events [] h = tt
all_outs P events (x ∷ xs) h = (h.0, all_outs P (events ++ said x ∷ []) xs h.1)

-- The start of a group

pub start_more : (g : ℕ) (events : List Event) (event : Event) → start_of g (events ++ event ∷ []) ≡ start_behind g (start_of g events) event
start_more g events event = fold-append (start_behind g) None events (event ∷ [])

pub start_did : (g : ℕ) (events : List Event) (out : Out) → NoSpawn out → start_of g (events ++ said out ∷ []) ≡ start_of g events
start_did g events (Spawn s h) quiet = absurd quiet
start_did g events (ToEditor e body) quiet = start_more g events (said (ToEditor e body))
start_did g events (ToServer s body) quiet = start_more g events (said (ToServer s body))
start_did g events (CloseEditor e) quiet = start_more g events (said (CloseEditor e))
start_did g events (EndServer s) quiet = start_more g events (said (EndServer s))

pub start_took : (g : ℕ) (events : List Event) (cause : Cause) → start_of g (with_cause events cause) ≡ start_of g events
start_took g events (Joined e) = start_more g events (heard (Joined e))
start_took g events cause = start_more g events (heard cause)

pub starts_stay : (g : ℕ) (events : List Event) (xs : List Out) → AllByRecursion NoSpawn xs → start_of g (behind events xs) ≡ start_of g events
starts_stay g events [] h = ap (start_of g) (append-nil events)
starts_stay g events (x ∷ xs) h = ap (start_of g) (sym (append_assoc events (said x ∷ []) (map said xs))) ∙ starts_stay g (events ++ said x ∷ []) xs h.1 ∙ start_did g events x h.0

-- How many starts there are

starts_took : (events : List Event) (cause : Cause) → starts_of (with_cause events cause) ≡ starts_of events
starts_took events (Joined e) = starts_more events (heard (Joined e))
starts_took events cause = starts_more events (heard cause)

pub starts_quiet : (events : List Event) (xs : List Out) → AllByRecursion NoSpawn xs → starts_of (behind events xs) ≡ starts_of events
starts_quiet events [] all = ap starts_of (append-nil events)
starts_quiet events (x ∷ xs) all = ap starts_of (sym (append_assoc events (said x ∷ []) (map said xs))) ∙ (starts_quiet (events ++ said x ∷ []) xs all.1 ∙ one x all.0)
  where
    one : (out : Out) → NoSpawn out → starts_of (events ++ said out ∷ []) ≡ starts_of events
    one (Spawn n g) h = absurd h
    one (ToEditor e body) h = starts_more events (said (ToEditor e body))
    one (ToServer n body) h = starts_more events (said (ToServer n body))
    one (CloseEditor e) h = starts_more events (said (CloseEditor e))
    one (EndServer n) h = starts_more events (said (EndServer n))

-- Rows that spawn none

-- what holds of each body to a start holds of those of an editor that leaves (L1)
module _ (R : List Event → Out → Type 0) (sends : (events : List Event) (s : ℕ) (body : List ℕ) → R events (ToServer s body)) where
  pub bodies_by : (s : ℕ) (bodies : List (List ℕ)) (events : List Event) → Because R events (to_start s bodies)
  bodies_by s [] events = by_nothing
  bodies_by s (b ∷ bodies) events = by_then (by_send (sends events s b)) (bodies_by s bodies (behind events (ToServer s b ∷ [])))

  cancels_by : (s : ℕ) (ns : List ℕ) (events : List Event) → Because R events (each (cancel s) ns)
  cancels_by s [] events = by_nothing
  cancels_by s (n ∷ ns) events = by_then (by_send (sends events s (cancel_text n))) (cancels_by s ns (behind events (outs (cancel s n) events)))

  refused_by : (s : ℕ) (asks : List Ask) (events : List Event) → Because R events (each (refuse s) asks)
  refused_by s [] events = by_nothing
  refused_by s (a ∷ asks) events = by_then (by_send (sends events s (error_text a.bytes request_failed))) (refused_by s asks (behind events (outs (refuse s a) events)))

  -- and of the answer that an editor gives (E19)
  module _ (tells : (events : List Event) (e : ℕ) (body : List ℕ) → R events (ToEditor e body)) (settings : Settings) (before : List Event) (e : ℕ) (body : List ℕ) (m : Message) (events : List Event) where
    told_out : (s k : ℕ) (bodies : List (List ℕ)) (places : List Event) → Because R places (each (tell s k e) bodies)
    told_out s k [] places = by_nothing
    told_out s k (b ∷ bodies) places = by_then (by_send (tells places e (marked_text (created_text s k) b))) (told_out s k bodies (behind places (outs (tell s k e b) places)))

    taken_at : (s : ℕ) → Because R events (taking_row settings before e m s)
    taken_at s = by_choose (λ runs. by_on (λ none. by_nothing) (λ c found. by_choose (λ agrees. told_out s c.token c.held events) (λ no. by_nothing))) (λ idle. by_nothing)

    handed_at : (s : ℕ) → Because R events (response_at settings before e body m s)
    handed_at s = by_choose (λ ready. by_on (λ none. taken_at s) (λ (a : Ask) found. by_send (sends events s (with_id_text body a.bytes)))) (λ off. by_nothing)

    handed_in : (g : ℕ) → Because R events (on (start_of g before) nothing (response_at settings before e body m))
    handed_in g = by_on (λ none. by_nothing) (λ s start. handed_at s)

    pub handed_by : Because R events (response_row settings before e body m)
    handed_by = by_on (λ none. by_nothing) (λ g home. handed_in g)

  module _ (settings : Settings) (before : List Event) (e : ℕ) where
    cancelled_by : (s : ℕ) (events : List Event) → Because R events (cancels settings before s e)
    cancelled_by s events = by_choose (λ ready. cancels_by s (uncancelled_of e (forwarding_of settings s before).open_requests) events) (λ off. by_nothing)

    closings_by : (g s : ℕ) (events : List Event) → Because R events (closings settings before g s e)
    closings_by g s events = by_choose (λ ready. bodies_by s (leave_bodies settings.limits.versions (λ u. held_at s u before) e (texts_of settings g before).opens (texts_of settings g before).opens) events) (λ off. by_nothing)

    refusals_by : (s : ℕ) (events : List Event) → Because R events (refusals settings before s e)
    refusals_by s events = by_choose (λ ready. refused_by s (filter (is_with e) (asks_of settings s before)) events) (λ off. by_nothing)

    leaves_by : (g s : ℕ) (events : List Event) → Because R events (cancels settings before s e ⨾ (refusals settings before s e ⨾ closings settings before g s e))
    leaves_by g s events = by_then (cancelled_by s events) (by_then (refusals_by s (behind events (outs (cancels settings before s e) events)))
        (closings_by g s (behind (behind events (outs (cancels settings before s e) events)) (outs (refusals settings before s e) (behind events (outs (cancels settings before s e) events))))))

    group_by : (g : ℕ) (events : List Event) → Because R events (on (start_of g before) nothing (λ s. cancels settings before s e ⨾ (refusals settings before s e ⨾ closings settings before g s e)))
    group_by g events = by_on (λ none. by_nothing) (λ s start. leaves_by g s events)

    pub leave_by : (events : List Event) → Because R events (leave_row settings before e)
    leave_by events = by_on (λ none. by_nothing) (λ g home. group_by g events)

pub quiet_bodies : (s : ℕ) (bodies : List (List ℕ)) (events : List Event) → Quiet events (to_start s bodies)
quiet_bodies s bodies events = bodies_by (λ places out. NoSpawn out) (λ places s b. tt) s bodies events

quiet_welcomes : (body : List ℕ) (ns : List ℕ) (events : List Event) → Quiet events (each (welcome body) ns)
quiet_welcomes body [] events = by_nothing
quiet_welcomes body (n ∷ ns) events = by_then (by_look (by_send tt)) (quiet_welcomes body ns (behind events (outs (welcome body n) events)))

quiet_refusals : (body : List ℕ) (ns : List ℕ) (events : List Event) → Quiet events (each (refusal body) ns)
quiet_refusals body [] events = by_nothing
quiet_refusals body (n ∷ ns) events = by_then (by_then (by_look (by_send tt)) (by_send tt)) (quiet_refusals body ns (behind events (outs (refusal body n) events)))

quiet_parts : (settings : Settings) (g : ℕ) (ns : List ℕ) (events : List Event) → Quiet events (each (part settings g) ns)
quiet_parts settings g ns events = parts_by settings (λ places out. NoSpawn out) g (λ e places body. tt) (λ e places. tt) ns events

quiet_malformed : (e : ℕ) (m : Message) (phase : Phase) (events : List Event) → Quiet events (malformed_row e m phase)
quiet_malformed e m phase events = by_choose (λ there. by_send tt) (λ gone. by_nothing)

module _ (settings : Settings) (before : List Event) where
  quiet_at : (e : ℕ) (body : List ℕ) (events : List Event) (g s : ℕ) → Quiet events (request_at settings before e body g s)
  quiet_at e body events g s = by_choose (λ can. by_then (quiet_bodies s (sync_bodies settings.limits.versions (λ u. held_at s u before) e (texts_of settings g before).opens) events) (by_look (by_send tt))) (λ cannot. by_choose (λ waits. by_nothing) (λ full. by_send tt))

  quiet_group : (e : ℕ) (body : List ℕ) (events : List Event) (g : ℕ) → Quiet events (on (start_of g before) (answer_error e body request_failed) (request_at settings before e body g))
  quiet_group e body events g = by_on (λ none. by_send tt) (λ s start. quiet_at e body events g s)

  quiet_request : (e : ℕ) (body : List ℕ) (events : List Event) → Quiet events (request_row settings before e body)
  quiet_request e body events = by_choose (λ reserved. by_send tt) (λ free. by_on (λ none. by_send tt) (λ g home. quiet_group e body events g))

  quiet_noticed : (e : ℕ) (body : List ℕ) (events : List Event) (g s : ℕ) → Quiet events (notice_at settings before e body g s)
  quiet_noticed e body events g s = by_choose (λ ready. by_then (quiet_bodies s (sync_bodies settings.limits.versions (λ u. held_at s u before) e (texts_of settings g before).opens) events) (by_send tt)) (λ off. by_nothing)

  quiet_notices : (e : ℕ) (body : List ℕ) (events : List Event) (g : ℕ) → Quiet events (on (start_of g before) nothing (notice_at settings before e body g))
  quiet_notices e body events g = by_on (λ none. by_nothing) (λ s start. quiet_noticed e body events g s)

  quiet_notice : (e : ℕ) (body : List ℕ) (events : List Event) → Quiet events (notice_row settings before e body)
  quiet_notice e body events = by_on (λ none. by_nothing) (λ g home. quiet_notices e body events g)

  quiet_cancel : (e : ℕ) (body : List ℕ) (params : Option Json) (events : List Event) (s : ℕ) → Quiet events (cancelling_at settings before e body params s)
  quiet_cancel e body params events s = by_choose (λ ready. by_on (λ none. by_nothing) (λ n is. by_send tt)) (λ off. by_nothing)

  quiet_cancels : (e : ℕ) (body : List ℕ) (params : Option Json) (events : List Event) (g : ℕ) → Quiet events (on (start_of g before) nothing (cancelling_at settings before e body params))
  quiet_cancels e body params events g = by_on (λ none. by_nothing) (λ s start. quiet_cancel e body params events s)

  quiet_cancelling : (e : ℕ) (body : List ℕ) (params : Option Json) (events : List Event) → Quiet events (cancelling_row settings before e body params)
  quiet_cancelling e body params events = by_on (λ none. by_nothing) (λ g home. quiet_cancels e body params events g)

  quiet_cancelled : (e : ℕ) (body : List ℕ) (params : Option Json) (events : List Event) → Quiet events (cancel_row settings before e body params)
  quiet_cancelled e body params events = by_on (λ none. quiet_cancelling e body params events) (λ r found. by_send tt)

  quiet_token : (e : ℕ) (body : List ℕ) (params : Option Json) (events : List Event) (s : ℕ) → Quiet events (created_work settings before e body params s)
  quiet_token e body params events s = by_on (λ none. by_nothing) (λ t found. by_choose (λ accepted. by_send tt) (λ no. by_nothing))

  quiet_worked : (e : ℕ) (body : List ℕ) (params : Option Json) (events : List Event) (s : ℕ) → Quiet events (work_at settings before e body params s)
  quiet_worked e body params events s = by_choose (λ ready. by_on (λ none. quiet_token e body params events s) (λ f found. by_send tt)) (λ off. by_nothing)

  quiet_works : (e : ℕ) (body : List ℕ) (params : Option Json) (events : List Event) (g : ℕ) → Quiet events (on (start_of g before) nothing (work_at settings before e body params))
  quiet_works e body params events g = by_on (λ none. by_nothing) (λ s start. quiet_worked e body params events s)

  quiet_work : (e : ℕ) (body : List ℕ) (params : Option Json) (events : List Event) → Quiet events (work_row settings before e body params)
  quiet_work e body params events = by_on (λ none. by_nothing) (λ g home. quiet_works e body params events g)

  -- lists
  quiet_show : (seen : List Event) (s e : ℕ) (l : LastList) (events : List Event) → Quiet events (show settings seen s e l)
  quiet_show seen s e l events = by_choose (λ fit. by_send tt) (λ no. by_nothing)

  quiet_full : (seen : List Event) (s e : ℕ) (l : LastList) (events : List Event) → Quiet events (show_full settings seen s e l)
  quiet_full seen s e l events = by_choose (λ empty. by_nothing) (λ full. quiet_show seen s e l events)

  quiet_opened : (s e : ℕ) (x : Saying) (events : List Event) → Quiet events (show_opened settings s e x)
  quiet_opened s e (opens u l v t) events = by_look (by_on (λ none. by_nothing) (λ list found. quiet_full events s e list events))
  quiet_opened s e (changes u v cs) events = by_nothing
  quiet_opened s e (closes u) events = by_nothing
  quiet_opened s e misshapen events = by_nothing
  quiet_opened s e saying.nothing events = by_nothing

  quiet_shows : (s e : ℕ) (ls : List LastList) (events : List Event) → Quiet events (each (show_full settings before s e) ls)
  quiet_shows s e [] events = by_nothing
  quiet_shows s e (l ∷ ls) events = by_then (quiet_full before s e l events) (quiet_shows s e ls (behind events (outs (show_full settings before s e l) events)))

  quiet_listed : (s : ℕ) (l : LastList) (es : List ℕ) (events : List Event) → Quiet events (each (λ e. show settings before s e l) es)
  quiet_listed s l [] events = by_nothing
  quiet_listed s l (e ∷ es) events = by_then (quiet_show before s e l events) (quiet_listed s l es (behind events (outs (show settings before s e l) events)))

  quiet_group_list : (s : ℕ) (l : LastList) (events : List Event) → Quiet events (on (group_of s before) nothing (λ g. each (λ e. show settings before s e l) (running_in settings g before)))
  quiet_group_list s l events = by_on (λ none. by_nothing) (λ g home. quiet_listed s l (running_in settings g before) events)

  quiet_list : (s : ℕ) (body : List ℕ) (events : List Event) → Quiet events (list_row settings s before body)
  quiet_list s body events = by_on {o = published (sayings_of s before) body} {row = λ l. on (group_of s before) nothing (λ g. each (λ e. show settings before s e l) (running_in settings g before))} (λ none. by_nothing) (λ l came. quiet_group_list s l events)

  quiet_told : (e : ℕ) (body : List ℕ) (x : Saying) (events : List Event) (g s : ℕ) → Quiet events (document_at settings before e body x g s)
  quiet_told e body x events g s = by_choose (λ ready. by_then (quiet_bodies s (document_bodies settings.limits.versions (encoding_of g before) (texts_of settings g before) (λ u. held_at s u before) e body x) events) (quiet_opened s e x _)) (λ off. by_nothing)

  quiet_documents : (e : ℕ) (body : List ℕ) (x : Saying) (events : List Event) (g : ℕ) → Quiet events (on (start_of g before) nothing (document_at settings before e body x g))
  quiet_documents e body x events g = by_on (λ none. by_nothing) (λ s start. quiet_told e body x events g s)

  quiet_document : (e : ℕ) (body : List ℕ) (x : Saying) (events : List Event) → Quiet events (document_row settings before e body x)
  quiet_document e body x events = by_on (λ none. by_nothing) (λ g home. quiet_documents e body x events g)

  quiet_leave : (e : ℕ) (events : List Event) → Quiet events (leave_row settings before e)
  quiet_leave e events = leave_by (λ places out. NoSpawn out) (λ places s b. tt) settings before e events

  quiet_closing : (e : ℕ) (events : List Event) → Quiet events (closing_row settings before e)
  quiet_closing e events = by_then (by_send tt) (quiet_leave e _)

  quiet_exit : (e : ℕ) (m : Message) (events : List Event) → Quiet events (exit_row settings before e m)
  quiet_exit e (notification method params) events = by_choose (λ yes. quiet_closing e events) (λ no. by_nothing)
  quiet_exit e (request id method params) events = by_nothing
  quiet_exit e (result id r) events = by_nothing
  quiet_exit e (error id x) events = by_nothing
  quiet_exit e not_json events = by_nothing
  quiet_exit e not_message events = by_nothing

  quiet_early : (e : ℕ) (body : List ℕ) (m : Message) (events : List Event) → Quiet events (early_row settings before e body m)
  quiet_early e body (request id method params) events = by_send tt
  quiet_early e body (notification method params) events = quiet_exit e (notification method params) events
  quiet_early e body (result id r) events = by_nothing
  quiet_early e body (error id x) events = by_nothing
  quiet_early e body not_json events = by_nothing
  quiet_early e body not_message events = by_nothing

  quiet_down : (e : ℕ) (body : List ℕ) (m : Message) (events : List Event) → Quiet events (down_row settings before e body m)
  quiet_down e body (request id method params) events = by_send tt
  quiet_down e body (notification method params) events = quiet_exit e (notification method params) events
  quiet_down e body (result id r) events = by_nothing
  quiet_down e body (error id x) events = by_nothing
  quiet_down e body not_json events = by_nothing
  quiet_down e body not_message events = by_nothing

  quiet_asked : (e : ℕ) (body method : List ℕ) (events : List Event) → Quiet events (served_request settings before e body method)
  quiet_asked e body method events = by_choose (λ misplaced. by_send tt) (λ placed. by_choose (λ down. by_then (lose_waiting_by settings before (λ places out. NoSpawn out) e (λ places text. tt) events) (by_then (by_send tt) (quiet_leave e _))) (λ on. quiet_request e body events))

  quiet_handed : (e : ℕ) (body : List ℕ) (m : Message) (events : List Event) → Quiet events (response_row settings before e body m)
  quiet_handed e body m events = handed_by (λ places out. NoSpawn out) (λ places s b. tt) (λ places n b. tt) settings before e body m events

  quiet_served : (e : ℕ) (body : List ℕ) (m : Message) (events : List Event) → Quiet events (served_row settings before e body m)
  quiet_served e body (request id method params) events = quiet_asked e body method events
  quiet_served e body (notification method params) events = by_choose (λ yes. quiet_closing e events) (λ no. by_choose (λ going. quiet_notice e body events) (λ off. by_choose (λ cancels. quiet_cancelled e body params events) (λ off. by_choose (λ works. quiet_work e body params events) (λ other. quiet_document e body (saying_by method params) events))))
  quiet_served e body (result id r) events = quiet_handed e body (result id r) events
  quiet_served e body (error id x) events = quiet_handed e body (error id x) events
  quiet_served e body not_json events = quiet_handed e body not_json events
  quiet_served e body not_message events = quiet_handed e body not_message events

  quiet_parked : (e : ℕ) (ps : List Parked) (events : List Event) → Quiet events (each (λ (p : Parked). ask p.body e) ps)
  quiet_parked e [] events = by_nothing
  quiet_parked e (p ∷ ps) events = by_then (by_look (by_choose (λ room. by_send tt) (λ none. by_nothing))) (quiet_parked e ps (behind events (outs (ask p.body e) events)))

  -- the daemon's own requests about registrations
  quiet_call : (text : ℕ → List ℕ) (e : ℕ) (events : List Event) → Quiet events (call text e)
  quiet_call text e events = by_look (by_choose (λ room. by_send tt) (λ none. by_nothing))

  quiet_any : (b : Bool) (text : ℕ → List ℕ) (e : ℕ) (events : List Event) → Quiet events (choose b (call text e) nothing)
  quiet_any b text e events = by_choose (λ some. quiet_call text e events) (λ none. by_nothing)

  quiet_calls : (text : ℕ → List ℕ) (es : List ℕ) (events : List Event) → Quiet events (each (call text) es)
  quiet_calls text [] events = by_nothing
  quiet_calls text (e ∷ es) events = by_then (quiet_call text e events) (quiet_calls text es (behind events (outs (call text e) events)))

  quiet_registering : (gone items : List Registration) (es : List ℕ) (events : List Event) → Quiet events (each (registering gone items) es)
  quiet_registering gone items [] events = by_nothing
  quiet_registering gone items (e ∷ es) events =
      by_then (by_then (quiet_any (has_some gone) (unregister_text gone) e events) (quiet_call (register_text items) e (behind events (outs (unregister_any gone e) events)))) (quiet_registering gone items es (behind events (outs (registering gone items e) events)))

  quiet_offers : (s e : ℕ) (ts : List Token) (events : List Event) → Quiet events (each (offer s e) ts)
  quiet_offers s e [] events = by_nothing
  quiet_offers s e (t ∷ ts) events = by_then (quiet_call (create_text s t.number) e events) (quiet_offers s e ts (behind events (outs (offer s e t) events)))

  quiet_created : (s : ℕ) (t : Token) (es : List ℕ) (events : List Event) → Quiet events (each (λ e. offer s e t) es)
  quiet_created s t [] events = by_nothing
  quiet_created s t (e ∷ es) events = by_then (quiet_call (create_text s t.number) e events) (quiet_created s t es (behind events (outs (offer s e t) events)))

  quiet_takers : (s k : ℕ) (body : List ℕ) (es : List ℕ) (events : List Event) → Quiet events (each (λ e. tell s k e body) es)
  quiet_takers s k body [] events = by_nothing
  quiet_takers s k body (e ∷ es) events = by_then (by_send tt) (quiet_takers s k body es (behind events (outs (tell s k e body) events)))

  quiet_run_at : (e s : ℕ) (events : List Event) → Quiet events (run_at settings before e s)
  quiet_run_at e s events = by_choose (λ ready. by_then (quiet_any (has_some (live_of settings s before)) (register_text (live_of settings s before)) e events)
      (by_then (quiet_offers s e (created_of settings s before).tokens (behind events (outs (restore settings before e s) events))) (by_then (quiet_shows s e (lists_of s before) _) (quiet_parked e (parked_of settings s before) _)))) (λ off. by_nothing)

  quiet_run_in : (e g : ℕ) (events : List Event) → Quiet events (on (start_of g before) nothing (run_at settings before e))
  quiet_run_in e g events = by_on (λ none. by_nothing) (λ s start. quiet_run_at e s events)

  quiet_run : (e : ℕ) (events : List Event) → Quiet events (run_row settings before e)
  quiet_run e events = by_on (λ none. by_nothing) (λ g home. quiet_run_in e g events)

  quiet_begun : (e : ℕ) (body : List ℕ) (m : Message) (events : List Event) → Quiet events (begun_row settings before e body m)
  quiet_begun e body m events = by_then (by_choose (λ runs. quiet_run e events) (λ stops. by_nothing)) (quiet_served e body m (behind events (outs (choose (makes_running m) (run_row settings before e) nothing) events)))

  quiet_taken : (e : ℕ) (body : List ℕ) (m : Message) (phase : Phase) (events : List Event) → places phase m ≡ false → Quiet events (taken_row settings before e body m phase)
  quiet_taken e body m New events h = by_choose (λ yes. never (sym yes ∙ h)) (λ no. quiet_early e body m events)
  quiet_taken e body m Waiting events h = quiet_early e body m events
  quiet_taken e body m Answered events h = quiet_begun e body m events
  quiet_taken e body m Running events h = quiet_served e body m events
  quiet_taken e body m Down events h = quiet_down e body m events
  quiet_taken e body m other events h = by_nothing

  quiet_named : (e : ℕ) (body : List ℕ) (o : Option ℕ) (events : List Event) → Quiet events (named_row e body o)
  quiet_named e body None events = by_send tt
  quiet_named e body (Some server) events = by_send tt

  quiet_open : (e : ℕ) (body : List ℕ) (m : Message) (events : List Event) → Quiet events (open_row settings before e body m)
  quiet_open e body m events = by_choose (λ first. quiet_named e body (server_asked settings.servers body) events) (λ late. by_send tt)

  quiet_end : (s : ℕ) (stage : Stage) (events : List Event) → Quiet events (end_start s stage)
  quiet_end s Ready events = by_look (by_send tt)
  quiet_end s Spawning events = by_send tt
  quiet_end s Initializing events = by_send tt
  quiet_end s other events = by_nothing

  quiet_ended : (g : ℕ) (events : List Event) → Quiet events (end_group g)
  quiet_ended g events = by_look (by_on (λ none. by_nothing) (λ s start. quiet_end s (life_of s events).stage events))

  quiet_ends : (gs : List ℕ) (events : List Event) → Quiet events (each end_group gs)
  quiet_ends [] events = by_nothing
  quiet_ends (g ∷ gs) events = by_then (quiet_ended g events) (quiet_ends gs (behind events (outs (end_group g) events)))

  -- E6
  quiet_lost : (fs : List Forwarded) (events : List Event) → Quiet events (each lose_request fs)
  quiet_lost [] events = by_nothing
  quiet_lost (f ∷ fs) events = by_then (by_send tt) (quiet_lost fs (behind events (outs (lose_request f) events)))

  quiet_open_refused : (es : List ℕ) (events : List Event) → Quiet events (each (refuse_open settings before) es)
  quiet_open_refused [] events = by_nothing
  quiet_open_refused (e ∷ es) events = by_then (by_then (by_look (by_choose (λ waits. by_send tt) (λ late. by_nothing))) (by_then (losing (behind events (outs (refuse_initialize e) events))) (lose_waiting_by settings before (λ places out. NoSpawn out) e (λ places text. tt) _)))
      (quiet_open_refused es (behind events (outs (refuse_open settings before e) events)))
    where
      at_group : (places : List Event) (g : ℕ) → Quiet places (on (start_of g before) nothing (λ s. each lose_request (filter (is_of e) (forwarding_of settings s before).open_requests)))
      at_group places g = by_on (λ none. by_nothing) (λ s start. quiet_lost (filter (is_of e) (forwarding_of settings s before).open_requests) places)

      losing : (places : List Event) → Quiet places (lose_requests settings before e)
      losing places = by_on (λ none. by_nothing) (λ g home. at_group places g)

  quiet_links : (es : List ℕ) (events : List Event) → Quiet events (close_each es)
  quiet_links [] events = by_nothing
  quiet_links (e ∷ es) events = by_then (by_send tt) (quiet_links es (behind events (CloseEditor e ∷ [])))

  quiet_stop : (e : ℕ) (body : List ℕ) (events : List Event) → Quiet events (stop_row settings before e body)
  quiet_stop e body events = by_then (by_send tt) (by_then (quiet_open_refused (there_in before) _) (by_then (quiet_links (there_in before) _) (quiet_ends (all_from 0 is_live (groups_of settings before)) _)))

  quiet_joined : (e : ℕ) (events : List Event) → Quiet events (joined_row before e)
  quiet_joined e events = by_choose (λ over. by_send tt) (λ goes. by_nothing)

  quiet_lspmux : (e : ℕ) (body : List ℕ) (m : Message) (events : List Event) → Quiet events (lspmux_row settings before e body m)
  quiet_lspmux e body m events = by_choose (λ names. quiet_open e body m events) (λ others. by_choose (λ stops. quiet_stop e body events) (λ tells. by_send tt))

  quiet_message : (e : ℕ) (body : List ℕ) (m : Message) (phase : Phase) (events : List Event) → places phase m ≡ false → Quiet events (message_row settings before e body m phase)
  quiet_message e body m phase events h = by_choose (λ twice. quiet_closing e events) (λ single. by_choose (λ asks. quiet_lspmux e body m events) (λ other. quiet_taken e body m phase events h))

  quiet_gone : (e : ℕ) (phase : Phase) (events : List Event) → Quiet events (gone_row settings before e phase)
  quiet_gone e phase events = by_choose (λ served. quiet_leave e events) (λ off. by_nothing)

  quiet_owed : (e : ℕ) (ds : List Debt) (events : List Event) → Quiet events (each (λ (d : Debt). ask d.body e) ds)
  quiet_owed e [] events = by_nothing
  quiet_owed e (d ∷ ds) events = by_then (by_look (by_choose (λ room. by_send tt) (λ none. by_nothing))) (quiet_owed e ds _)

  quiet_debts_in : (e : ℕ) (body : List ℕ) (m : Message) (events : List Event) (g : ℕ) → Quiet events (on (start_of g before) nothing (debts_at settings before e body m))
  quiet_debts_in e body m events g = by_on (λ none. by_nothing) (λ s last. quiet_owed e (debts_due settings s before e body m) events)

  quiet_debts : (e : ℕ) (body : List ℕ) (m : Message) (events : List Event) → Quiet events (debts_row settings before e body m)
  quiet_debts e body m events = by_on (λ none. by_nothing) (λ g home. quiet_debts_in e body m events g)

  quiet_editor : (e : ℕ) (body : List ℕ) (events : List Event) → places (desk_of e before).phase (message_of body) ≡ false → Quiet events (row_of settings before (FromEditor e body))
  quiet_editor e body events h = by_then (by_choose (λ malformed. quiet_malformed e (message_of body) (desk_of e before).phase events) (λ fine. quiet_message e body (message_of body) (desk_of e before).phase events h)) (quiet_debts e body (message_of body) _)

  quiet_waiting : (body : List ℕ) (g : ℕ) (events : List Event) → Quiet events (look (λ places. each (welcome body) (waiting_in settings g places)))
  quiet_waiting body g events = by_look (quiet_welcomes body (waiting_in settings g events) events)

  quiet_result : (s : ℕ) (body : List ℕ) (g : ℕ) (events : List Event) → Quiet events (result_in settings before s body g)
  quiet_result s body g events = by_then (by_choose (λ other. quiet_parts settings g (shown_in settings g before) events) (λ same. by_nothing)) (by_then (by_send tt) (by_then (by_on (λ none. by_nothing) (λ kept found. by_send tt))
      (by_then (by_look (quiet_bodies s _ _)) (by_then (quiet_waiting body g _) (send_held_by settings (λ places out. NoSpawn out) s (λ places text. tt) (λ places e text. tt) g _)))))

  quiet_first : (s : ℕ) (body : List ℕ) (events : List Event) → Quiet events (first_result settings before s body)
  quiet_first s body events = by_on (λ none. by_nothing) (λ g home. quiet_result s body g events)

  quiet_refused : (s : ℕ) (body : List ℕ) (events : List Event) → Quiet events (refused_row settings before s body)
  quiet_refused s body events = by_on (λ none. by_nothing) (λ g home. by_then (by_look (quiet_refusals body (waiting_in settings g events) events)) (by_then (by_look (quiet_parts settings g _ _)) (by_send tt)))

  quiet_passed : (s : ℕ) (body : List ℕ) (f : Forwarded) (events : List Event) → Quiet events (hand_on settings before s body f)
  quiet_passed s body f events = by_choose (λ there. by_send tt) (λ gone. by_nothing)

  quiet_response : (s : ℕ) (body : List ℕ) (m : Message) (events : List Event) → Quiet events (answer_row settings s before body m)
  quiet_response s body m events = by_on (λ none. by_nothing) (λ f found. quiet_passed s body f events)

  quiet_hasty : (s : ℕ) (body : List ℕ) (m : Message) (events : List Event) → Quiet events (hasty_row s body m)
  quiet_hasty s body (request id method params) events = by_send tt
  quiet_hasty s body (notification method params) events = by_nothing
  quiet_hasty s body (result id r) events = by_nothing
  quiet_hasty s body (error id x) events = by_nothing
  quiet_hasty s body not_json events = by_nothing
  quiet_hasty s body not_message events = by_nothing

  quiet_ask : (body : List ℕ) (e : ℕ) (events : List Event) → Quiet events (ask body e)
  quiet_ask body e events = by_look (by_choose (λ room. by_send tt) (λ none. by_nothing))

  quiet_each : (body : List ℕ) (es : List ℕ) (events : List Event) → Quiet events (each (ask body) es)
  quiet_each body [] events = by_nothing
  quiet_each body (e ∷ es) events = by_then (quiet_ask body e events) (quiet_each body es (behind events (outs (ask body e) events)))

  quiet_spread : (body : List ℕ) (es : List ℕ) (events : List Event) → Quiet events (each (broadcast body) es)
  quiet_spread body [] events = by_nothing
  quiet_spread body (e ∷ es) events = by_then (by_send tt) (quiet_spread body es (behind events (ToEditor e body ∷ [])))

  quiet_edited : (s e : ℕ) (body : List ℕ) (o : Option (List ℕ)) (events : List Event) → Quiet events (edited s body e o)
  quiet_edited s e body None events = by_send tt
  quiet_edited s e body (Some text) events = by_send tt

  quiet_edit : (s e : ℕ) (body : List ℕ) (events : List Event) → Quiet events (ask_edit settings before s body e)
  quiet_edit s e body events = by_look (by_choose (λ room. quiet_edited s e body (asked_text (current_version settings before s e) body (decimal (next_ask e events))) events) (λ none. by_nothing))

  quiet_asking : (g s : ℕ) (body method : List ℕ) (c : Class) (events : List Event) → Quiet events (asking_row settings before g s body method c)
  quiet_asking g s body method Refresh events = by_then (by_send tt) (quiet_each body (filter (agrees_on_all settings s before) (running_in settings g before)) (behind events (ToServer s (ok_text (id_bytes body) (codes "null")) ∷ [])))
  quiet_asking g s body method Folders events = by_on (λ none. by_nothing) (λ x found. by_send tt)
  quiet_asking g s body method Focused events = by_on (λ none. by_send tt) (λ e found. by_choose (λ edit. quiet_edit s e body events) (λ plain. quiet_ask body e events))
  quiet_asking g s body method Lowest events = by_on (λ none. by_nothing) (λ e found. quiet_ask body e events)
  quiet_asking g s body method Register events = by_on (λ none. by_send tt)
      (λ items found. by_then (by_send tt) (quiet_registering (again items (live_of settings s before)) items (running_in settings g before) (behind events (outs (accept s body) events))))
  quiet_asking g s body method Unregister events = by_on (λ none. by_send tt)
      (λ items found. by_then (by_send tt) (quiet_calls (unregister_text (again items (live_of settings s before))) (running_in settings g before) (behind events (outs (accept s body) events))))
  quiet_asking g s body method Create events = by_on (λ none. by_send tt) (λ t found. by_then (by_send tt) (quiet_created s t (running_in settings g before) (behind events (outs (accept s body) events))))
  quiet_asking g s body method _ events = by_nothing

  quiet_tell : (body : List ℕ) (token : Option Json) (f : Forwarded) (events : List Event) → Quiet events (tell_progress body token f)
  quiet_tell body token f events = by_on (λ none. by_nothing) (λ text own. by_send tt)

  quiet_all : (s : ℕ) (body : List ℕ) (t : Token) (events : List Event) → Quiet events (tell_takers settings before s body t)
  quiet_all s body t events = by_on (λ none. by_nothing) (λ g home. quiet_takers s t.number body (takers settings before g s t) events)

  quiet_tokens : (s : ℕ) (body : List ℕ) (params : Option Json) (events : List Event) → Quiet events (created_row settings s before body params)
  quiet_tokens s body params events = by_on (λ none. by_nothing) (λ t found. quiet_all s body t events)

  quiet_notified : (s : ℕ) (body : List ℕ) (params : Option Json) (c : Class) (events : List Event) → Quiet events (notified_row settings s before body params c)
  quiet_notified s body params Cancel events = by_on (λ none. by_nothing) (λ a found. by_choose (λ runs. by_send tt) (λ no. by_nothing))
  quiet_notified s body params Broadcast events = by_on (λ none. by_nothing) (λ g home. quiet_spread body (running_in settings g before) events)
  quiet_notified s body params Diagnostics events = quiet_list s body events
  quiet_notified s body params Progress events = by_on (λ none. quiet_tokens s body params events) (λ f found. quiet_tell body (named_of (codes "token") params) f events)
  quiet_notified s body params _ events = by_nothing

  quiet_ready : (s : ℕ) (body : List ℕ) (m : Message) (events : List Event) → Quiet events (ready_row settings s before body m)
  quiet_ready s body (request id method params) events = by_choose (λ twice. by_nothing) (λ fresh. by_on (λ none. by_nothing) (λ g home. quiet_asking g s body method (class_of method Server false) events))
  quiet_ready s body (notification method params) events = quiet_notified s body params (class_of method Server true) events
  quiet_ready s body (result id r) events = quiet_response s body (result id r) events
  quiet_ready s body (error id x) events = quiet_response s body (error id x) events
  quiet_ready s body not_json events = quiet_response s body not_json events
  quiet_ready s body not_message events = quiet_response s body not_message events

  quiet_server : (s : ℕ) (body : List ℕ) (m : Message) (stage : Stage) (events : List Event) → Quiet events (from_server settings s before body m stage)
  quiet_server s body m Initializing events = by_choose (λ first. quiet_first s body events) (λ off. by_choose (λ refuses. quiet_refused s body events) (λ other. quiet_hasty s body m events))
  quiet_server s body m Ready events = quiet_ready s body m events
  quiet_server s body m Stopping events = by_choose (λ answers. by_then (by_send tt) (by_send tt)) (λ off. by_nothing)
  quiet_server s body m other events = by_nothing

  quiet_begin : (s g : ℕ) (events : List Event) → Quiet events (begin_in settings before s g)
  quiet_begin s g events = by_on (λ none. by_nothing) (λ x found. by_send tt)

  quiet_started : (s : ℕ) (stage : Stage) (events : List Event) → Quiet events (started settings s before stage)
  quiet_started s Spawning events = by_on (λ none. by_nothing) (λ g home. quiet_begin s g events)
  quiet_started s other events = by_nothing

  quiet_programs : (ss : List ℕ) (events : List Event) → Quiet events (each (λ s. send (EndServer s)) ss)
  quiet_programs [] events = by_nothing
  quiet_programs (s ∷ ss) events = by_then (by_send tt) (quiet_programs ss (behind events (EndServer s ∷ [])))

  quiet_tick : (t : ℕ) (events : List Event) → Quiet events (tick_row settings before t)
  quiet_tick t events = by_then (quiet_ends (due_of settings before t) events) (quiet_programs (overdue_of settings before t) (behind events (outs (each end_group (due_of settings before t)) events)))

-- X1 to X3, of a group that gets no new start
pub quiet_loss : (settings : Settings) (before : List Event) (s : ℕ) → not (begins_again settings before s) ≡ true → (events : List Event) → Quiet events (lost_row settings before s)
quiet_loss settings before s ends events = lost_by settings (λ places out. NoSpawn out) (λ e places body. tt) (λ places e. tt) before s ends events

-- X1 and X2
told_lost : (settings : Settings) (before : List Event) (s g : ℕ) (events : List Event) → Because (λ places out. IsTold out) events (each (lose_sent settings before s) (members_in settings g before)
    ⨾ choose (is_ready (life_of s before).stage) (each (lose_start settings before s) (running_in settings g before)) nothing)
told_lost settings before s g events = told_by settings (λ places out. IsTold out) (λ e places body. tt) before s g events

-- a group that lives is kept
lives_inside : (g : ℕ) (xs : List Kept) → lives_at g xs ≡ true → g < length xs
lives_inside g [] h = never (sym h)
lives_inside zero (x ∷ xs) h = omega arith
lives_inside (suc g) (x ∷ xs) h = let k : g < length xs = lives_inside g xs h in omega (arith, k)

-- How many groups there are

at_same : (home : Option ℕ) (b : Bool) (groups : List Kept) → length (if b then at_group home (λ g. ended) groups else groups) ≡ length groups
at_same None true groups = refl
at_same (Some g) true groups = changed_length g ended groups
at_same home false groups = refl

emptied_same : (home : Option ℕ) (was : Bool) (stays : ℕ → Bool) (now : ℕ) (groups : List Kept) → length (emptied home was stays now groups) ≡ length groups
emptied_same None was stays now groups = refl
emptied_same (Some g) was stays now groups = go (was && not (stays g))
  where
    go : (b : Bool) → length (if b then changed g (idle_if_live now) groups else groups) ≡ length groups
    go true = changed_length g (idle_if_live now) groups
    go false = refl

module _ (settings : Settings) where
  abbrev count : List Event → ℕ
  count events = length (groups_of settings events)

  hears_same : (events : List Event) (e : ℕ) (body : List ℕ) → places (desk_of e events).phase (message_of body) ≡ false → length (groups_hear settings events e body (message_of body) (groups_of settings events)) ≡ count events
  hears_same events e body off = go (places (desk_of e events).phase (message_of body)) off (stops events e (message_of body))
    where
      go : (b : Bool) → b ≡ false → (c : Bool) → length (if b then with_editor (placed_for settings events e body (groups_of settings events)) (key_for settings events e body) (declared_for settings events e body) (groups_of settings events)
          else if c then end_where is_live (groups_of settings events) else groups_of settings events) ≡ count events
      go true off c = never off
      go false off true = ended_length is_live (groups_of settings events)
      go false off false = refl

  counts_stay : (events : List Event) (event : Event) → touches_groups event ≡ false → count (events ++ event ∷ []) ≡ count events
  counts_stay events event quiet = ap length (groups_stay settings events event quiet)

  count_did : (events : List Event) (out : Out) → count (events ++ said out ∷ []) ≡ count events
  count_did events (CloseEditor e) = ap length (groups_more settings events (said (CloseEditor e))) ∙ emptied_same ((house_of settings events).home e) _ _ _ (groups_of settings events)
  count_did events out = counts_stay events (said out) refl

  pub count_behind : (events : List Event) (xs : List Out) → count (behind events xs) ≡ count events
  count_behind events [] = ap count (append-nil events)
  count_behind events (x ∷ xs) = ap count (sym (append_assoc events (said x ∷ []) (map said xs))) ∙ count_behind (events ++ said x ∷ []) xs ∙ count_did events x

  -- What an entry founds

  -- none, and nothing is spawned; or the next one, which lives, and its start is the last out; or none, and as a start ends its group, which lives, has a new one, which is the last out
  pub data Founding (before : List Event) (cause : Cause) : Type 0 where
    quiet : AllByRecursion NoSpawn (outs_of settings before cause) → count (with_cause before cause) ≡ count before → Founding before cause
    founds : (xs : List Out) (s : ℕ) → AllByRecursion NoSpawn xs → outs_of settings before cause ≡ xs ++ Spawn s (count before) ∷ [] → count (with_cause before cause) ≡ count before + 1
        → lives_at (count before) (groups_of settings (with_cause before cause)) ≡ true → Founding before cause
    renews : (xs : List Out) (s g : ℕ) → AllByRecursion IsTold xs → outs_of settings before cause ≡ xs ++ Spawn (starts_of before) g ∷ [] → count (with_cause before cause) ≡ count before
        → is_exit cause s ≡ true → group_of s before ≡ Some g → lives_at g (groups_of settings (with_cause before cause)) ≡ true → Founding before cause

  module _ (before : List Event) (e : ℕ) (body : List ℕ) (here : places (desk_of e before).phase (message_of body) ≡ true) where
    abbrev now : List Event
    now = with_cause before (FromEditor e body)

    pub placed_outs : outs_of settings before (FromEditor e body) ≡ outs (initialize_row settings before e body) now
    placed_outs = let place = and_parts (is_new (desk_of e before).phase) (requests (codes "initialize") (message_of body)) here in
        let rest : outs (from_editor settings before e body (message_of body) (desk_of e before).phase) now ≡ outs (initialize_row settings before e body) now = rw (whole_is (message_of body) place.1, new_is (desk_of e before).phase place.0, first_unasked (message_of body) place.1, place.1) refl in
        whole_off settings before e body (off_unrun settings before e body (message_of body) (ap is_running (new_is (desk_of e before).phase place.0))) ∙ rest

    groups_now : groups_of settings now ≡ with_editor (placed_for settings before e body (groups_of settings before)) (key_for settings before e body) (declared_for settings before e body) (groups_of settings before)
    groups_now = groups_more settings before (heard (FromEditor e body)) ∙ rw here refl

    by_placed : (p : Placed) → IsNext (count before) p → outs_of settings before (FromEditor e body) ≡ outs (placed_row e body before p) now
        → groups_of settings now ≡ with_editor p (key_for settings before e body) (declared_for settings before e body) (groups_of settings before) → Founding before (FromEditor e body)
    by_placed (Joins g) next sent groups = quiet (subst (AllByRecursion NoSpawn) (sym sent) (all_outs NoSpawn now _ joins.why)) (ap length groups ∙ changed_length g busy (groups_of settings before))
      where
        joins : Quiet now (placed_row e body before (Joins g))
        joins = by_on (λ none. by_nothing) (λ s start. by_choose (λ ready. by_on (λ none. by_nothing) (λ given found. by_send tt)) (λ no. by_nothing))
    by_placed (Founds g) next sent groups = founds [] (starts_of now) tt (sent ∙ ap (λ k. Spawn (starts_of now) k ∷ []) next)
        (ap length groups ∙ length-append (groups_of settings before) (founded (key_for settings before e body) (declared_for settings before e body) ∷ []))
        (ap (lives_at (count before)) groups ∙ lives_past (groups_of settings before) (founded (key_for settings before e body) (declared_for settings before e body)) [])
    by_placed (Evicts a g) next sent groups = founds (outs (end_group a) now) (starts_of (behind now (outs (end_group a) now))) (all_outs NoSpawn now _ (quiet_ended settings before a now).why) (sent ∙ ap (λ k. outs (end_group a) now ++ Spawn (starts_of (behind now (outs (end_group a) now))) k ∷ []) next)
        (ap length groups ∙ length-append (changed a ended (groups_of settings before)) (founded (key_for settings before e body) (declared_for settings before e body) ∷ []) ∙ ap (λ k. k + 1) (changed_length a ended (groups_of settings before)))
        (ap (lives_at (count before)) groups ∙ (ap (λ k. lives_at k (changed a ended (groups_of settings before) ++ founded (key_for settings before e body) (declared_for settings before e body) ∷ [])) (sym (changed_length a ended (groups_of settings before)))
        ∙ lives_past (changed a ended (groups_of settings before)) (founded (key_for settings before e body) (declared_for settings before e body)) []))
    by_placed TooMany next sent groups = quiet (subst (AllByRecursion NoSpawn) (sym sent) (tt, (tt, tt))) (ap length groups)

    placing : Founding before (FromEditor e body)
    placing = by_placed (placed_for settings before e body (groups_of settings before)) (placed_next settings.limits.groups (key_for settings before e body) (declared_for settings before e body) (groups_of settings before)) placed_outs groups_now

  from_an_editor : (before : List Event) (e : ℕ) (body : List ℕ) → Founding before (FromEditor e body)
  from_an_editor before e body = go (places (desk_of e before).phase (message_of body)) refl
    where
      go : (b : Bool) → places (desk_of e before).phase (message_of body) ≡ b → Founding before (FromEditor e body)
      go true here = placing before e body here
      go false off = quiet (all_outs NoSpawn (with_cause before (FromEditor e body)) _ (quiet_editor settings before e body (with_cause before (FromEditor e body)) off).why)
          (ap length (groups_more settings before (heard (FromEditor e body))) ∙ hears_same before e body off)

  -- X3
  module _ (before : List Event) (cause : Cause) (s : ℕ) (is : is_exit cause s ≡ true) (row : outs_of settings before cause ≡ outs (lost_row settings before s) (with_cause before cause))
      (groups : groups_of settings (with_cause before cause) ≡ groups_lose settings before s (house_of settings before)) where
    abbrev exit_now : List Event
    exit_now = with_cause before cause

    same_count : count exit_now ≡ count before
    same_count = ap length groups ∙ lose_length settings before s

    pub renewed_outs : (k : RenewsGroup settings before s) → (xs : List Out) × (AllByRecursion IsTold xs × (outs_of settings before cause ≡ xs ++ Spawn (starts_of before) k.group ∷ []))
    renewed_outs k = (first ++ second, (told_both, row ∙ (goes_on ∙ (ap (λ n. first ++ (second ++ Spawn n k.group ∷ [])) number ∙ sym (append_assoc first second (Spawn (starts_of before) k.group ∷ []))))))
      where
        first : List Out
        first = outs (each (lose_sent settings before s) (members_in settings k.group before)) exit_now

        second : List Out
        second = outs (choose (is_ready (life_of s before).stage) (each (lose_start settings before s) (running_in settings k.group before)) nothing) (behind exit_now first)

        told_both : AllByRecursion IsTold (first ++ second)
        told_both = all_outs IsTold exit_now (first ++ second) (told_lost settings before s k.group exit_now).why

        goes_on : outs (lost_row settings before s) exit_now ≡ first ++ (second ++ Spawn (starts_of (behind (behind exit_now first) second)) k.group ∷ [])
        goes_on = rw (k.home, k.found, k.live, k.again) refl

        number : starts_of (behind (behind exit_now first) second) ≡ starts_of before
        number = ap starts_of (sym (behind_both exit_now first second)) ∙ (starts_quiet exit_now (first ++ second) (told_quiet (first ++ second) told_both) ∙ starts_took before cause)

    renewing : RenewsGroup settings before s → Founding before cause
    renewing k = let r = renewed_outs k in renews r.0 s k.group r.1.0 r.1.1 same_count is k.home (ap (lives_at k.group) groups ∙ (renewed_lives settings before s k k.group ∙ (ap lives k.found ∙ k.live)))

    pub ended_outs : not (begins_again settings before s) ≡ true → AllByRecursion NoSpawn (outs_of settings before cause)
    ended_outs ends = subst (AllByRecursion NoSpawn) (sym row) (all_outs NoSpawn _ _ (quiet_loss settings before s ends exit_now).why)

    ending : not (begins_again settings before s) ≡ true → Founding before cause
    ending ends = quiet (ended_outs ends) same_count

    exit_founding : Founding before cause
    exit_founding = go (begins_again settings before s) refl
      where
        go : (b : Bool) → begins_again settings before s ≡ b → Founding before cause
        go true again = renewing (renews_parts settings before s again)
        go false last = ending (ap not last)

  pub founding_of : (before : List Event) (cause : Cause) → Founding before cause
  founding_of before (FromEditor e body) = from_an_editor before e body
  founding_of before (FromServer s body) = quiet (all_outs NoSpawn _ _ (quiet_server settings before s body (message_of body) (life_of s before).stage (with_cause before (FromServer s body))).why)
      (ap length (groups_more settings before (heard (FromServer s body))) ∙ at_same (group_of s before) (is_first_error (message_of body) && is_initializing (life_of s before).stage) (groups_of settings before))
  founding_of before (Started s) = quiet (all_outs NoSpawn _ _ (quiet_started settings before s (life_of s before).stage (with_cause before (Started s))).why) (counts_stay before (heard (Started s)) refl)
  founding_of before (Joined e) = quiet (all_outs NoSpawn _ _ (quiet_joined settings before e (with_cause before (Joined e))).why) (counts_stay before (heard (Joined e)) refl)
  founding_of before (Drained e k) = quiet tt (counts_stay before (heard (Drained e k)) refl)
  founding_of before (Tick t) = quiet (all_outs NoSpawn _ _ (quiet_tick settings before t (with_cause before (Tick t))).why)
      (ap length (groups_more settings before (heard (Tick t))) ∙ ended_length (is_due settings.limits.idle (max (time_of before) t)) (groups_of settings before))
  founding_of before (EditorGone e why) = quiet (all_outs NoSpawn _ _ (quiet_gone settings before e (desk_of e before).phase (with_cause before (EditorGone e why))).why)
      (ap length (groups_more settings before (heard (EditorGone e why))) ∙ emptied_same ((house_of settings before).home e) _ _ _ (groups_of settings before))
  founding_of before (StartFailed s) = exit_founding before (StartFailed s) s (same_number s) refl (groups_more settings before (heard (StartFailed s)))
  founding_of before (ServerGone s) = exit_founding before (ServerGone s) s (same_number s) refl (groups_more settings before (heard (ServerGone s)))

  -- Each group has a start

  abbrev pub Begun : List Event → Type 0
  Begun events = (g : ℕ) → (start_of g events ≡ None) ↔ (length (groups_of settings events) ≤ g)

  module _ (before : List Event) (cause : Cause) (h : Begun before) where
    abbrev later : List Out → List Event
    later xs = behind (with_cause before cause) xs

    still : (xs : List Out) (g : ℕ) → AllByRecursion NoSpawn xs → start_of g (later xs) ≡ start_of g before
    still xs g all = starts_stay g (with_cause before cause) xs all ∙ start_took g before cause

    begun_quiet : (xs : List Out) → AllByRecursion NoSpawn xs → count (with_cause before cause) ≡ count before → Begun (later xs)
    begun_quiet xs all same g = subst (λ k. (start_of g (later xs) ≡ None) ↔ (k ≤ g)) (sym (count_behind (with_cause before cause) xs ∙ same)) (subst (λ o. (o ≡ None) ↔ (count before ≤ g)) (sym (still xs g all)) (h g))

    begun_renewed : (xs : List Out) (n i : ℕ) → AllByRecursion NoSpawn xs → count (with_cause before cause) ≡ count before → i < count before → Begun (later (xs ++ Spawn n i ∷ []))
    begun_renewed xs n i all same inside g = subst (λ z. (start_of g z ≡ None) ↔ (count z ≤ g)) (sym (behind_both (with_cause before cause) xs (Spawn n i ∷ [])))
        (subst (λ k. (start_of g last ≡ None) ↔ (k ≤ g)) (sym (count_did (later xs) (Spawn n i) ∙ count_behind (with_cause before cause) xs ∙ same))
        (subst (λ o. (o ≡ None) ↔ (count before ≤ g)) (sym (start_more g (later xs) (said (Spawn n i)) ∙ ap (λ o. if nat_eq i g then Some n else o) (still xs g all))) (go (nat_eq i g) refl)))
      where
        last : List Event
        last = later xs ++ said (Spawn n i) ∷ []

        go : (b : Bool) → nat_eq i g ≡ b → ((if b then Some n else start_of g before) ≡ None) ↔ (count before ≤ g)
        go true is = (λ none. absurd (cc), λ le. absurd (let it : i ≡ g = number_same i g is in omega (arith, it, le, inside)))
        go false far = h g

    begun_spawned : (xs : List Out) (s : ℕ) → AllByRecursion NoSpawn xs → count (with_cause before cause) ≡ count before + 1 → Begun (later (xs ++ Spawn s (count before) ∷ []))
    begun_spawned xs s all more g = subst (λ z. (start_of g z ≡ None) ↔ (count z ≤ g)) (sym (behind_both (with_cause before cause) xs (Spawn s (count before) ∷ [])))
        (subst (λ k. (start_of g last ≡ None) ↔ (k ≤ g)) (sym (count_did (later xs) (Spawn s (count before)) ∙ count_behind (with_cause before cause) xs ∙ more))
        (subst (λ o. (o ≡ None) ↔ (count before + 1 ≤ g)) (sym (start_more g (later xs) (said (Spawn s (count before))) ∙ ap (λ o. if nat_eq (count before) g then Some s else o) (still xs g all))) (go (nat_eq (count before) g) refl)))
      where
        last : List Event
        last = later xs ++ said (Spawn s (count before)) ∷ []

        other : nat_eq (count before) g ≡ false → count before ≤ g → count before + 1 ≤ g
        other far le = past (λ same. never (sym (ap (λ z. nat_eq (count before) z) same ∙ same_number (count before)) ∙ far)) le
          where
            past : (g ≡ count before → ⊥) → count before ≤ g → count before + 1 ≤ g
            past f le = omega (arith, f, le)

        go : (b : Bool) → nat_eq (count before) g ≡ b → ((if b then Some s else start_of g before) ≡ None) ↔ (count before + 1 ≤ g)
        go true same = (λ none. absurd (cc), λ le. absurd (let is : count before ≡ g = number_same (count before) g same in omega (arith, is, le)))
        go false far = (λ none. other far ((h g).0 none), λ le. (h g).1 (omega (arith, le)))

  pub begun_rests : (before : List Event) (cause : Cause) → Begun before → Begun (behind (with_cause before cause) (outs_of settings before cause))
  begun_rests before cause h = go (founding_of before cause)
    where
      go : Founding before cause → Begun (behind (with_cause before cause) (outs_of settings before cause))
      go (quiet all same) = begun_quiet before cause h (outs_of settings before cause) all same
      go (founds xs s all sent more live) = subst (λ z. Begun (behind (with_cause before cause) z)) (sym sent) (begun_spawned before cause h xs s all more)
      go (renews xs s g all sent same is home live) = subst (λ z. Begun (behind (with_cause before cause) z)) (sym sent)
          (begun_renewed before cause h xs (starts_of before) g (told_quiet xs all) same (let below : g < count (with_cause before cause) = lives_inside g (groups_of settings (with_cause before cause)) live in omega (arith, below, same)))
