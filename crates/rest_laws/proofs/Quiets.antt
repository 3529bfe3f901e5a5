-- Rows that tell a start of no document: those of what another start says, of what a ready start asks and answers, and of exits.
use Rattle.std.proofs.Common.{◌≡◌, ℕ, zero, suc, Bool, true, false, List, [], ◌∷◌, filter, nat_eq, codes, decimal, Option, Some, None, refl, sym, ◌∙◌, ap, subst}
use Rattle.std.specs.List.{AllByRecursion}
use Rattle.json_text.specs.Json.{Json}
use Rattle.mux_history.specs.declared.cause.Cause.TheVariants.{FromServer}
use Rattle.mux_history.specs.declared.out.Out.TheVariants.{ToEditor, ToServer}
use Rattle.document_model.specs.Sayings.{Saying, changes, closes, misshapen, opens, saying_by}
use Rattle.document_model.specs.Sayings as saying
use Rattle.rpc_message.specs.Message.{Message, request, notification, result, error, not_json, not_message, id_bytes, message_of}
use Rattle.rpc_message.specs.Texts.{error_text, ok_text, request_failed}
use Rattle.json_text.specs.Json.{Json}
use Rattle.lsp_method.specs.Class.{class_of}
use Rattle.lsp_method.specs.declared.variants.Class.{Class}
use Rattle.lsp_method.specs.declared.variants.Class.TheVariants.{Broadcast, Cancel, Create, Diagnostics, Focused, Folders, Lowest, Refresh, Register, Unregister, Progress}
use Rattle.lsp_method.specs.declared.variants.Origin.TheVariants.{Server}
use Rattle.event_model.specs.declared.stage.Stage.{Stage}
use Rattle.event_model.specs.declared.stage.Stage.TheVariants.{Spawning, Initializing, Ready, Stopping}
use Rattle.event_model.specs.Event.{Event, behind}
use Rattle.event_model.specs.Members.{named_of}
use Rattle.event_model.specs.Row.{Row, choose, each, look, nothing, on, outs}
use Rattle.event_model.specs.Settings.{Settings}
use Rattle.event_model.specs.Spawns.{group_of}
use Rattle.event_model.specs.Stages.{is_ready, life_of}
use Rattle.event_model.proofs.Frames.{never}
use Rattle.mux_model.specs.Rows.{to_start}
use Rattle.mux_facts.proofs.Reasons.{Because, by_nothing, by_send, by_then, by_choose, by_look, by_on}
use Rattle.mux_facts.proofs.Words.{number_same, same_number}
use Rattle.group_rows.specs.response_route.specs.Asked.{asked_text}
use Rattle.group_words.specs.declared.kept.Kept.{Kept}
use Rattle.group_words.specs.Houses.{groups_of, places}
use Rattle.group_rows.specs.registrations.specs.declared.registration.Registration.{Registration}
use Rattle.group_rows.specs.registrations.specs.Items.{again}
use Rattle.group_rows.specs.Live.{live_of, register_text, unregister_text}
use Rattle.group_rows.specs.LiveRows.{accept, call, has_some, registering, unregister_any}
use Rattle.group_rows.specs.Forwarded.{Forwarded}
use Rattle.group_rows.specs.StopRows.{joined_row}
use Rattle.group_rows.specs.diagnostics_route.specs.declared.last_list.LastList.{LastList}
use Rattle.group_rows.specs.ListRows.{list_row, show, show_full}
use Rattle.group_rows.specs.diagnostics_route.specs.Published.{published}
use Rattle.group_rows.specs.Lists.{sayings_of}
use Rattle.group_rows.specs.AskRows.{ask, ask_edit, asking_row, broadcast, current_version, edited, notified_row}
use Rattle.group_rows.specs.Asks.{members_in, next_ask, running_in}
use Rattle.group_rows.specs.Answers.{answer_row, hand_on}
use Rattle.group_rows.specs.Created.{Token}
use Rattle.group_rows.specs.CreatedRows.{create_text, created_row, offer, takers, tell, tell_takers}
use Rattle.group_rows.specs.Tokens.{tell_progress}
use Rattle.group_rows.specs.Earlier.{shown_in}
use Rattle.group_rows.specs.ExitRows.{lost_row}
use Rattle.group_rows.specs.Waiting.{part}
use Rattle.group_facts.proofs.HeldOuts.{parts_by, send_held_by}
use Rattle.group_rows.specs.Rows.{begin_in, first_result, from_server, ready_row, result_in, row_of, started, waiting_in, welcome, hasty_row, refusal, refused_row}
use Rattle.group_rows.specs.Debts.{agrees_on_all}
use Rattle.std.specs.Prelude.{slice_get}
use Rattle.mux_facts.proofs.Bodies.{refusal_says}
use Rattle.rpc_message.specs.Message.{Id}
use Rattle.rpc_message.specs.Texts.{initialized_text, Code, invalid_params}
use Rattle.rpc_message.proofs.Fixed.{id_as_response, ok_law}
use Rattle.rpc_message.proofs.Ids.{request_id_bytes}
use Rattle.group_rows.specs.response_route.specs.Asked.{not_applied}
use Rattle.group_rows.specs.response_route.proofs.Asking.{refusal_result}
use Rattle.group_rows.specs.ExitRows.{exit_in, turn_out}
use Rattle.group_rows.specs.Rows.{hasty_answer}
use Rattle.group_words.specs.Rows.{folders_text}
use Rattle.group_facts.specs.Facts.{IsWritten, Written}
use Rattle.group_facts.proofs.ExitOuts.{all_tell, ready_by, sent_by, for_all}
use Rattle.group_facts.proofs.HeldOuts.{part_by}
use Rattle.group_facts.proofs.Nulls.{null_said}
use Rattle.document_model.specs.Sayings.{saying_of}
use Rattle.mux_facts.proofs.DocumentRow.{ready_is}
use Rattle.rest_laws.specs.Silent.{IsSilent}

written_at : (xs : List Kept) → AllByRecursion IsWritten xs → (g : ℕ) (x : Kept) → slice_get xs g ≡ Some x → IsWritten x
written_at [] all g x found = absurd (cc)
written_at (y ∷ xs) all zero x found = let same : y ≡ x = cc in subst IsWritten same all.0
written_at (y ∷ xs) all (suc g) x found = written_at xs all.1 g x found

module _ (t : ℕ) where
  abbrev Quiet : List Event → Row → Type 0
  Quiet events row = Because (λ places out. IsSilent t out) events row

  quiet_welcomes : (body : List ℕ) (ns : List ℕ) (events : List Event) → Quiet events (each (welcome body) ns)
  quiet_welcomes body [] events = by_nothing
  quiet_welcomes body (n ∷ ns) events = by_then (by_look (by_send tt)) (quiet_welcomes body ns (behind events (outs (welcome body n) events)))

  quiet_refusals : (body : List ℕ) (ns : List ℕ) (events : List Event) → Quiet events (each (refusal body) ns)
  quiet_refusals body [] events = by_nothing
  quiet_refusals body (n ∷ ns) events = by_then (by_then (by_look (by_send tt)) (by_send tt)) (quiet_refusals body ns (behind events (outs (refusal body n) events)))

  quiet_parts : (settings : Settings) (g : ℕ) (ns : List ℕ) (events : List Event) → Quiet events (each (part settings g) ns)
  quiet_parts settings g ns events = parts_by settings (λ places out. IsSilent t out) g (λ e places body. tt) (λ e places. tt) ns events

  module _ (settings : Settings) (before : List Event) where
    quiet_show : (seen : List Event) (s e : ℕ) (l : LastList) (events : List Event) → Quiet events (show settings seen s e l)
    quiet_show seen s e l events = by_choose (λ fit. by_send tt) (λ no. by_nothing)

    pub quiet_full : (seen : List Event) (s e : ℕ) (l : LastList) (events : List Event) → Quiet events (show_full settings seen s e l)
    quiet_full seen s e l events = by_choose (λ empty. by_nothing) (λ full. quiet_show seen s e l events)

    quiet_listed : (s : ℕ) (l : LastList) (es : List ℕ) (events : List Event) → Quiet events (each (λ e. show settings before s e l) es)
    quiet_listed s l [] events = by_nothing
    quiet_listed s l (e ∷ es) events = by_then (quiet_show before s e l events) (quiet_listed s l es (behind events (outs (show settings before s e l) events)))

    quiet_group_list : (s : ℕ) (l : LastList) (events : List Event) → Quiet events (on (group_of s before) nothing (λ g. each (λ e. show settings before s e l) (running_in settings g before)))
    quiet_group_list s l events = by_on (λ none. by_nothing) (λ g home. quiet_listed s l (running_in settings g before) events)

    quiet_list : (s : ℕ) (body : List ℕ) (events : List Event) → Quiet events (list_row settings s before body)
    quiet_list s body events = by_on {o = published (sayings_of s before) body} {row = λ l. on (group_of s before) nothing (λ g. each (λ e. show settings before s e l) (running_in settings g before))} (λ none. by_nothing) (λ l came. quiet_group_list s l events)

    pub quiet_ask : (body : List ℕ) (e : ℕ) (events : List Event) → Quiet events (ask body e)
    quiet_ask body e events = by_look (by_choose (λ room. by_send tt) (λ none. by_nothing))

    quiet_each : (body : List ℕ) (es : List ℕ) (events : List Event) → Quiet events (each (ask body) es)
    quiet_each body [] events = by_nothing
    quiet_each body (e ∷ es) events = by_then (quiet_ask body e events) (quiet_each body es (behind events (outs (ask body e) events)))

    quiet_spread : (body : List ℕ) (es : List ℕ) (events : List Event) → Quiet events (each (broadcast body) es)
    quiet_spread body [] events = by_nothing
    quiet_spread body (e ∷ es) events = by_then (by_send tt) (quiet_spread body es (behind events (ToEditor e body ∷ [])))

    pub quiet_call : (text : ℕ → List ℕ) (e : ℕ) (events : List Event) → Quiet events (call text e)
    quiet_call text e events = by_look (by_choose (λ room. by_send tt) (λ none. by_nothing))

    pub quiet_any : (b : Bool) (text : ℕ → List ℕ) (e : ℕ) (events : List Event) → Quiet events (choose b (call text e) nothing)
    quiet_any b text e events = by_choose (λ some. quiet_call text e events) (λ none. by_nothing)

    quiet_calls : (text : ℕ → List ℕ) (es : List ℕ) (events : List Event) → Quiet events (each (call text) es)
    quiet_calls text [] events = by_nothing
    quiet_calls text (e ∷ es) events = by_then (quiet_call text e events) (quiet_calls text es (behind events (outs (call text e) events)))

    quiet_registering : (gone items : List Registration) (es : List ℕ) (events : List Event) → Quiet events (each (registering gone items) es)
    quiet_registering gone items [] events = by_nothing
    quiet_registering gone items (e ∷ es) events =
        by_then (by_then (quiet_any (has_some gone) (unregister_text gone) e events) (quiet_call (register_text items) e (behind events (outs (unregister_any gone e) events)))) (quiet_registering gone items es (behind events (outs (registering gone items e) events)))

    quiet_created : (s : ℕ) (t : Token) (es : List ℕ) (events : List Event) → Quiet events (each (λ e. offer s e t) es)
    quiet_created s t [] events = by_nothing
    quiet_created s t (e ∷ es) events = by_then (quiet_call (create_text s t.number) e events) (quiet_created s t es (behind events (outs (offer s e t) events)))

    quiet_takers : (s k : ℕ) (body : List ℕ) (es : List ℕ) (events : List Event) → Quiet events (each (λ e. tell s k e body) es)
    quiet_takers s k body [] events = by_nothing
    quiet_takers s k body (e ∷ es) events = by_then (by_send tt) (quiet_takers s k body es (behind events (outs (tell s k e body) events)))

    quiet_passed : (s : ℕ) (body : List ℕ) (f : Forwarded) (events : List Event) → Quiet events (hand_on settings before s body f)
    quiet_passed s body f events = by_choose (λ there. by_send tt) (λ gone. by_nothing)

    quiet_response : (s : ℕ) (body : List ℕ) (m : Message) (events : List Event) → Quiet events (answer_row settings s before body m)
    quiet_response s body m events = by_on (λ none. by_nothing) (λ f found. quiet_passed s body f events)

    quiet_tell : (body : List ℕ) (token : Option Json) (f : Forwarded) (events : List Event) → Quiet events (tell_progress body token f)
    quiet_tell body token f events = by_on (λ none. by_nothing) (λ text own. by_send tt)

    quiet_all : (s : ℕ) (body : List ℕ) (t : Token) (events : List Event) → Quiet events (tell_takers settings before s body t)
    quiet_all s body t events = by_on (λ none. by_nothing) (λ g home. quiet_takers s t.number body (takers settings before g s t) events)

    quiet_tokens : (s : ℕ) (body : List ℕ) (params : Option Json) (events : List Event) → Quiet events (created_row settings s before body params)
    quiet_tokens s body params events = by_on (λ none. by_nothing) (λ t found. quiet_all s body t events)

    quiet_notified : (s : ℕ) (body : List ℕ) (params : Option Json) (c : Class) (events : List Event) → Quiet events (notified_row settings s before body params c)
    quiet_notified s body params Cancel events = by_on (λ none. by_nothing) (λ a found. by_choose (λ runs. by_send tt) (λ no. by_nothing))
    quiet_notified s body params Broadcast events = by_on (λ none. by_nothing) (λ g home. quiet_spread body (running_in settings g before) events)
    quiet_notified s body params Diagnostics events = quiet_list s body events
    quiet_notified s body params Progress events = by_on (λ none. quiet_tokens s body params events) (λ f found. quiet_tell body (named_of (codes "token") params) f events)
    quiet_notified s body params _ events = by_nothing

    quiet_waiting : (body : List ℕ) (g : ℕ) (events : List Event) → Quiet events (look (λ places. each (welcome body) (waiting_in settings g places)))
    quiet_waiting body g events = by_look (quiet_welcomes body (waiting_in settings g events) events)

    -- a request of the start at hand is answered
    module _ (id : Id) (method body : List ℕ) (params : Option Json) (says : message_of body ≡ request id method params) where
      null_silent : saying_of (message_of (ok_text (id_bytes body) (codes "null"))) ≡ saying.nothing
      null_silent = ap saying_of (null_said body id method params says)

      error_silent : (code : Code) → saying_of (message_of (error_text (id_bytes body) code)) ≡ saying.nothing
      error_silent code = ap saying_of (refusal_says body id method params code says)

      edit_silent : saying_of (message_of (ok_text (id_bytes body) not_applied)) ≡ saying.nothing
      edit_silent = ap saying_of (refusal_result (Some id) (id_bytes body) (id_as_response id (id_bytes body) (request_id_bytes body id method params says)))

      quiet_edited : (s e : ℕ) (o : Option (List ℕ)) (events : List Event) → Quiet events (edited s body e o)
      quiet_edited s e None events = by_send (λ same. edit_silent)
      quiet_edited s e (Some text) events = by_send tt

      quiet_edit : (s e : ℕ) (events : List Event) → Quiet events (ask_edit settings before s body e)
      quiet_edit s e events = by_look (by_choose (λ room. quiet_edited s e (asked_text (current_version settings before s e) body (decimal (next_ask e events))) events) (λ none. by_nothing))

      module _ (written : Written settings before) where
        folders_silent : (g : ℕ) (x : Kept) → slice_get (groups_of settings before) g ≡ Some x → saying_of (message_of (ok_text (id_bytes body) (folders_text x.key.folders))) ≡ saying.nothing
        folders_silent g x found = let k : IsWritten x = kept_written g x found in
            ap saying_of (ok_law (Some id) k.folders (id_bytes body) (folders_text x.key.folders) (id_as_response id (id_bytes body) (request_id_bytes body id method params says)) (k.listed).text (k.listed).shallow)
          where
            kept_written : (g : ℕ) (x : Kept) → slice_get (groups_of settings before) g ≡ Some x → IsWritten x
            kept_written g x found = written_at (groups_of settings before) written g x found

        quiet_asking : (g s : ℕ) (c : Class) (events : List Event) → Quiet events (asking_row settings before g s body method c)
        quiet_asking g s Refresh events = by_then (by_send (λ same. null_silent)) (quiet_each body (filter (agrees_on_all settings s before) (running_in settings g before)) (behind events (ToServer s (ok_text (id_bytes body) (codes "null")) ∷ [])))
        quiet_asking g s Folders events = by_on (λ none. by_nothing) (λ x found. by_send (λ same. folders_silent g x found))
        quiet_asking g s Focused events = by_on (λ none. by_send (λ same. error_silent request_failed)) (λ e found. by_choose (λ edit. quiet_edit s e events) (λ plain. quiet_ask body e events))
        quiet_asking g s Lowest events = by_on (λ none. by_nothing) (λ e found. quiet_ask body e events)
        quiet_asking g s Register events = by_on (λ none. by_send (λ same. error_silent invalid_params))
            (λ items found. by_then (by_send (λ same. null_silent)) (quiet_registering (again items (live_of settings s before)) items (running_in settings g before) (behind events (outs (accept s body) events))))
        quiet_asking g s Unregister events = by_on (λ none. by_send (λ same. error_silent invalid_params))
            (λ items found. by_then (by_send (λ same. null_silent)) (quiet_calls (unregister_text (again items (live_of settings s before))) (running_in settings g before) (behind events (outs (accept s body) events))))
        quiet_asking g s Create events = by_on (λ none. by_send (λ same. error_silent invalid_params)) (λ t found. by_then (by_send (λ same. null_silent)) (quiet_created s t (running_in settings g before) (behind events (outs (accept s body) events))))
        quiet_asking g s _ events = by_nothing

        quiet_question : (s : ℕ) (events : List Event) → Quiet events (ready_row settings s before body (request id method params))
        quiet_question s events = by_choose (λ twice. by_nothing) (λ fresh. by_on (λ none. by_nothing) (λ g home. quiet_asking g s (class_of method Server false) events))

    pub quiet_ready : Written settings before → (s : ℕ) (body : List ℕ) (m : Message) → message_of body ≡ m → (events : List Event) → Quiet events (ready_row settings s before body m)
    quiet_ready written s body (request id method params) says events = quiet_question id method body params says written s events
    quiet_ready written s body (notification method params) says events = quiet_notified s body params (class_of method Server true) events
    quiet_ready written s body (result id r) says events = quiet_response s body (result id r) events
    quiet_ready written s body (error id x) says events = quiet_response s body (error id x) events
    quiet_ready written s body not_json says events = quiet_response s body not_json events
    quiet_ready written s body not_message says events = quiet_response s body not_message events

    -- another start
    module _ (s : ℕ) (other : s ≡ t → ⊥) where
      sends : (places : List Event) (text : List ℕ) → IsSilent t (ToServer s text)
      sends places text same = absurd (other same)

      pub quiet_documents : (bodies : List (List ℕ)) (events : List Event) → Quiet events (to_start s bodies)
      quiet_documents [] events = by_nothing
      quiet_documents (b ∷ bodies) events = by_then (by_send (sends events b)) (quiet_documents bodies (behind events (ToServer s b ∷ [])))

      quiet_result : (body : List ℕ) (g : ℕ) (events : List Event) → Quiet events (result_in settings before s body g)
      quiet_result body g events = by_then (by_choose (λ other. quiet_parts settings g (shown_in settings g before) events) (λ same. by_nothing)) (by_then (by_send (sends events initialized_text)) (by_then (by_on (λ none. by_nothing) (λ kept found. by_send (sends events kept)))
          (by_then (by_look (quiet_documents _ _)) (by_then (quiet_waiting body g _) (send_held_by settings (λ places out. IsSilent t out) s sends (λ places e text. tt) g _)))))

      quiet_first : (body : List ℕ) (events : List Event) → Quiet events (first_result settings before s body)
      quiet_first body events = by_on (λ none. by_nothing) (λ g home. quiet_result body g events)

      quiet_refused : (body : List ℕ) (events : List Event) → Quiet events (refused_row settings before s body)
      quiet_refused body events = by_on (λ none. by_nothing) (λ g home. by_then (by_look (quiet_refusals body (waiting_in settings g events) events)) (by_then (by_look (quiet_parts settings g _ _)) (by_send tt)))

      quiet_hasty : (body : List ℕ) (m : Message) (events : List Event) → Quiet events (hasty_row s body m)
      quiet_hasty body (request id method params) events = by_send (sends events (hasty_answer method body))
      quiet_hasty body (notification method params) events = by_nothing
      quiet_hasty body (result id r) events = by_nothing
      quiet_hasty body (error id x) events = by_nothing
      quiet_hasty body not_json events = by_nothing
      quiet_hasty body not_message events = by_nothing

      quiet_server : Written settings before → (body : List ℕ) (stage : Stage) (events : List Event) → Quiet events (from_server settings s before body (message_of body) stage)
      quiet_server written body Initializing events = by_choose (λ first. quiet_first body events) (λ off. by_choose (λ refuses. quiet_refused body events) (λ other. quiet_hasty body (message_of body) events))
      quiet_server written body Ready events = quiet_ready written s body (message_of body) refl events
      quiet_server written body Stopping events = by_choose (λ answers. by_then (by_send (sends events _)) (by_send tt)) (λ off. by_nothing)
      quiet_server written body other events = by_nothing

      quiet_begin : (g : ℕ) (events : List Event) → Quiet events (begin_in settings before s g)
      quiet_begin g events = by_on (λ none. by_nothing) (λ x found. by_send (sends events _))

      pub quiet_started : (stage : Stage) (events : List Event) → Quiet events (started settings s before stage)
      quiet_started Spawning events = by_on (λ none. by_nothing) (λ g home. quiet_begin g events)
      quiet_started other events = by_nothing

    -- what any start says, where t is ready
    pub quiet_heard : Written settings before → is_ready (life_of t before).stage ≡ true → (s : ℕ) (body : List ℕ) (events : List Event) → Quiet events (row_of settings before (FromServer s body))
    quiet_heard written ready s body events = go (nat_eq s t) refl
      where
        go : (b : Bool) → nat_eq s t ≡ b → Quiet events (row_of settings before (FromServer s body))
        go true same = subst (λ st. Quiet events (from_server settings s before body (message_of body) st)) (sym (ready_is (life_of s before).stage (ap (λ n. is_ready (life_of n before).stage) (number_same s t same) ∙ ready))) (quiet_ready written s body (message_of body) refl events)
        go false other = quiet_server s (λ is. never (sym (subst (λ z. nat_eq s z ≡ true) is (same_number s)) ∙ other)) written body (life_of s before).stage events

    -- exits
    quiet_turned : (g : ℕ) (es : List ℕ) (events : List Event) → Quiet events (each (turn_out settings g) es)
    quiet_turned g [] events = by_nothing
    quiet_turned g (e ∷ es) events = by_then (by_then (by_look (by_choose (λ waits. by_send tt) (λ late. by_nothing))) (part_by settings (λ places out. IsSilent t out) g e (λ places text. tt) (λ places. tt) _)) (quiet_turned g es _)

    quiet_group_exit : (s g : ℕ) (x : Kept) (events : List Event) → Quiet events (exit_in settings before s g x)
    quiet_group_exit s g x events = by_choose (λ live. by_then (sent_by settings (λ places out. IsSilent t out) before s (members_in settings g before) (all_tell settings (λ places out. IsSilent t out) (λ e places text. tt) before s (members_in settings g before)) events)
        (by_then (ready_by settings (λ places out. IsSilent t out) before s (running_in settings g before) (for_all _ (λ e places text. tt) (running_in settings g before)) _)
        (by_choose (λ again. by_look (by_send tt)) (λ last. quiet_turned g (members_in settings g before) _)))) (λ over. by_nothing)

    quiet_exits : (s g : ℕ) (events : List Event) → Quiet events (on (slice_get (groups_of settings before) g) nothing (exit_in settings before s g))
    quiet_exits s g events = by_on (λ none. by_nothing) (λ x found. quiet_group_exit s g x events)

    pub quiet_lost : (s : ℕ) (events : List Event) → Quiet events (lost_row settings before s)
    quiet_lost s events = by_on (λ none. by_nothing) (λ g home. quiet_exits s g events)

    pub quiet_joined : (e : ℕ) (events : List Event) → Quiet events (joined_row before e)
    quiet_joined e events = by_choose (λ over. by_send tt) (λ goes. by_nothing)
