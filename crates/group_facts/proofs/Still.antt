-- Rows that send the same behind what editors were asked, and that send bodies which ask nothing.
use Rattle.std.proofs.Common.{◌≡◌, ℕ, Bool, true, false, not, ◌||◌, List, [], ◌∷◌, ◌++◌, find, map, codes, Option, Some, None, refl, sym, ◌∙◌, ap, ap₂, subst}
use Rattle.std.specs.List.{AllByRecursion}
use Rattle.json_text.specs.Json.{Json}
use Rattle.mux_history.specs.declared.out.Out.{Out}
use Rattle.mux_history.specs.declared.out.Out.TheVariants.{ToEditor, ToServer, Spawn, CloseEditor, EndServer}
use Rattle.document_model.specs.Sayings.{Saying, changes, closes, misshapen, opens, saying_by}
use Rattle.document_model.specs.Sayings as saying
use Rattle.rpc_message.specs.Message.{Message, request, notification, result, error, not_json, not_message, Id, message_of}
use Rattle.rpc_message.specs.Texts.{Code, invalid_params, invalid_request, request_failed}
use Rattle.event_model.specs.Event.{Event, behind, notifies, requests}
use Rattle.event_model.specs.Phases.{desk_of, is_malformed, is_multiplexer_request, is_running, makes_running}
use Rattle.event_model.specs.Row.{Row, nothing, send, after, choose, outs, on}
use Rattle.event_model.specs.Settings.{Settings}
use Rattle.event_model.specs.Spawns.{start_of}
use Rattle.event_model.proofs.Frames.{never}
use Rattle.mux_model.specs.Documents.{held_at}
use Rattle.mux_model.specs.Rows.{to_start}
use Rattle.mux_model.proofs.DocumentFolds.{outs_to_start}
use Rattle.mux_facts.proofs.Bodies.{refusal_says}
use Rattle.mux_facts.proofs.Lists.{all_join, all_of}
use Rattle.group_rows.specs.AskRows.{response_at, response_row}
use Rattle.group_rows.specs.Cancelling.{cancelling_at, cancelling_row}
use Rattle.group_rows.specs.Forwarded.{Forwarding}
use Rattle.group_rows.specs.CreatedRows.{created_work, work_at, work_row}
use Rattle.group_rows.specs.diagnostics_route.specs.declared.last_list.LastList.{LastList}
use Rattle.group_rows.specs.diagnostics_route.specs.Rows.{is_of}
use Rattle.group_rows.specs.diagnostics_route.specs.Shown.{fits, shown_text}
use Rattle.group_rows.specs.ListRows.{show_full, show_opened}
use Rattle.group_rows.specs.Lists.{agreement_at, lists_of, version_at}
use Rattle.group_rows.proofs.CreatedKept.{found_one}
use Rattle.group_rows.proofs.ListsKept.{IsList, lists_kept}
use Rattle.group_rows.proofs.Versions.{AllMeant}
use Rattle.group_rows.specs.Tokens.{forwarded_text}
use Rattle.group_rows.specs.Rows.{answer_error, document_at, document_bodies, document_row, forward, notice_at, notice_row, request_at, request_row, served_row, sync_bodies, wrong_code, cancel_row}
use Rattle.group_rows.specs.Texts.{encoding_of, texts_of}
use Rattle.group_facts.specs.Why.{asks_something}
use Rattle.group_facts.proofs.Same.{IsBody, Same, same_agreement, same_behind, same_version}
use Rattle.group_facts.specs.Facts.{IsHeld, AllHeld}
use Rattle.group_facts.proofs.Shown.{meant_behind, text_says}
use Rattle.group_words.specs.Houses.{home_of}
use Rattle.group_facts.proofs.Held.{cancelled_says, named_held}

-- a body, and no request to an editor
abbrev pub Goes : Out → Type 0
Goes (ToEditor e body) = asks_something (message_of body) ≡ false
Goes (ToServer s body) = Unit {0}
Goes other = ⊥

pub goes_body : (out : Out) → Goes out → IsBody out
goes_body (ToEditor e body) h = tt
goes_body (ToServer s body) h = tt
goes_body (Spawn s g) h = h
goes_body (CloseEditor e) h = h
goes_body (EndServer s) h = h

pub record Still (settings : Settings) (row : Row) : Type 0 where
  pub same : (x y : List Event) → AllMeant x → Same settings x y → outs row x ≡ outs row y
  pub goes : (x : List Event) → AllMeant x → AllByRecursion Goes (outs row x)

module _ {settings : Settings} where
  still_nothing : Still settings nothing
  still_nothing = record { same = λ x y k h. refl; goes = λ x k. tt }

  still_send : {out : Out} → Goes out → Still settings (send out)
  still_send f = record { same = λ x y k h. refl; goes = λ x k. (f, tt) }

  still_then : {p q : Row} → Still settings p → Still settings q → Still settings (after p q)
  still_then {p} {q} f g = record { same = both; goes = λ x k. all_join Goes (outs p x) (outs q (behind x (outs p x))) (f.goes x k) (g.goes (behind x (outs p x)) (meant_behind x (outs p x) k)) }
    where
      both : (x y : List Event) → AllMeant x → Same settings x y → outs p x ++ outs q (behind x (outs p x)) ≡ outs p y ++ outs q (behind y (outs p y))
      both x y k h = ap₂ (λ zs ws. zs ++ ws) (f.same x y k h)
          (g.same (behind x (outs p x)) (behind y (outs p x)) (meant_behind x (outs p x) k) (same_behind settings x y (outs p x) (all_of Goes IsBody goes_body (outs p x) (f.goes x k)) h) ∙ ap (λ zs. outs q (behind y zs)) (f.same x y k h))

  still_choose : {b : Bool} {p q : Row} → (b ≡ true → Still settings p) → (b ≡ false → Still settings q) → Still settings (choose b p q)
  still_choose {b = true} {p} {q} f g = record { same = λ x y k h. (f refl).same x y k h; goes = λ x k. (f refl).goes x k }
  still_choose {b = false} {p} {q} f g = record { same = λ x y k h. (g refl).same x y k h; goes = λ x k. (g refl).goes x k }

  still_on : {A : Type 0} {o : Option A} {p : Row} {row : A → Row} → (o ≡ None → Still settings p) → ((a : A) → o ≡ Some a → Still settings (row a)) → Still settings (on o p row)
  still_on {o = None} f g = f refl
  still_on {o = Some a} f g = g a refl

to_all : (s : ℕ) (bodies : List (List ℕ)) → AllByRecursion Goes (map (λ b. ToServer s b) bodies)
to_all s [] = tt
to_all s (b ∷ bodies) = (tt, to_all s bodies)

module _ (settings : Settings) (before : List Event) (e : ℕ) (body : List ℕ) where
  still_start : (s : ℕ) (bodies : List (List ℕ)) → Still settings (to_start s bodies)
  still_start s bodies = record { same = λ x y k h. outs_to_start s bodies x ∙ sym (outs_to_start s bodies y); goes = λ x k. subst (AllByRecursion Goes) (sym (outs_to_start s bodies x)) (to_all s bodies) }

  still_forward : (s : ℕ) → Still settings (forward settings s body)
  still_forward s = record { same = λ x y k h. ap (λ (f : Forwarding). ToServer s (forwarded_text f.next body) ∷ []) (h.forwarding s); goes = λ x k. (tt, tt) }

  -- a refusal of a request
  still_error : (id : Id) (method : List ℕ) (params : Option Json) → message_of body ≡ request id method params → (code : Code) → Still settings (answer_error e body code)
  still_error id method params says code = still_send (ap asks_something (refusal_says body id method params code says))

  module _ (id : Id) (method : List ℕ) (params : Option Json) (says : message_of body ≡ request id method params) where
    request_there : (g s : ℕ) → Still settings (request_at settings before e body g s)
    request_there g s = still_choose (λ takes. still_then (still_start s (sync_bodies settings.limits.versions (λ u. held_at s u before) e (texts_of settings g before).opens)) (still_forward s)) (λ cannot. still_choose (λ waits. still_nothing) (λ full. still_error id method params says request_failed))

    request_in : (g : ℕ) → Still settings (on (start_of g before) (answer_error e body request_failed) (request_at settings before e body g))
    request_in g = still_on (λ none. still_error id method params says request_failed) (λ s at. request_there g s)

    still_request : Still settings (request_row settings before e body)
    still_request = still_choose (λ reserved. still_error id method params says invalid_params) (λ free. still_on (λ none. still_error id method params says request_failed) (λ g at. request_in g))

  notice_there : (g s : ℕ) → Still settings (notice_at settings before e body g s)
  notice_there g s = still_choose (λ ready. still_then (still_start s (sync_bodies settings.limits.versions (λ u. held_at s u before) e (texts_of settings g before).opens)) (still_send tt)) (λ off. still_nothing)

  notice_in : (g : ℕ) → Still settings (on (start_of g before) nothing (notice_at settings before e body g))
  notice_in g = still_on (λ none. still_nothing) (λ s at. notice_there g s)

  still_notice : Still settings (notice_row settings before e body)
  still_notice = still_on (λ none. still_nothing) (λ g at. notice_in g)

  cancel_there : (params : Option Json) (s : ℕ) → Still settings (cancelling_at settings before e body params s)
  cancel_there params s = still_choose (λ ready. still_on (λ none. still_nothing) (λ n at. still_send tt)) (λ off. still_nothing)

  cancel_in : (params : Option Json) (g : ℕ) → Still settings (on (start_of g before) nothing (cancelling_at settings before e body params))
  cancel_in params g = still_on (λ none. still_nothing) (λ s at. cancel_there params s)

  still_cancel : (params : Option Json) → Still settings (cancelling_row settings before e body params)
  still_cancel params = still_on (λ none. still_nothing) (λ g at. cancel_in params g)

  still_cancelled : AllHeld settings before → (params : Option Json) → Still settings (cancel_row settings before e body params)
  still_cancelled held params = still_on (λ none. still_cancel params) (λ r found.
      let is : (g : ℕ) × IsHeld settings g before r = named_held settings e params before r (home_of settings e before) held found in
      still_send (ap asks_something (cancelled_says ((is.1).asker).id r.id ((is.1).asker).text).1))

  token_there : (params : Option Json) (s : ℕ) → Still settings (created_work settings before e body params s)
  token_there params s = still_on (λ none. still_nothing) (λ t at. still_choose (λ accepted. still_send tt) (λ no. still_nothing))

  work_there : (params : Option Json) (s : ℕ) → Still settings (work_at settings before e body params s)
  work_there params s = still_choose (λ ready. still_on (λ none. token_there params s) (λ f at. still_send tt)) (λ off. still_nothing)

  work_in : (params : Option Json) (g : ℕ) → Still settings (on (start_of g before) nothing (work_at settings before e body params))
  work_in params g = still_on (λ none. still_nothing) (λ s at. work_there params s)

  still_work : (params : Option Json) → Still settings (work_row settings before e body params)
  still_work params = still_on (λ none. still_nothing) (λ g at. work_in params g)

  -- a last list
  shown_there : (s : ℕ) (u : List ℕ) (x y : List Event) → Same settings x y → outs (on (find (is_of u) (lists_of s x)) nothing (show_full settings x s e)) x ≡ outs (on (find (is_of u) (lists_of s y)) nothing (show_full settings y s e)) y
  shown_there s u x y h = ap (λ z. outs (on (find (is_of u) z) nothing (show_full settings x s e)) x) (h.lists s) ∙ go (find (is_of u) (lists_of s y))
    where
      place : (a b : Bool) (out : Out) → outs (choose a nothing (choose b (send out) nothing)) x ≡ outs (choose a nothing (choose b (send out) nothing)) y
      place true b out = refl
      place false true out = refl
      place false false out = refl

      go : (o : Option LastList) → outs (on o nothing (show_full settings x s e)) x ≡ outs (on o nothing (show_full settings y s e)) y
      go None = refl
      go (Some l) = ap₂ (λ a v. outs (choose l.empty nothing (choose (fits l a) (send (ToEditor e (shown_text v l.body))) nothing)) x) (same_agreement settings h s e l.uri) (same_version settings h s e l.uri)
          ∙ place l.empty (fits l (agreement_at settings s e y l.uri)) (ToEditor e (shown_text (version_at settings s e y l.uri) l.body))

  shown_goes : (s : ℕ) (u : List ℕ) (x : List Event) → AllMeant x → AllByRecursion Goes (outs (on (find (is_of u) (lists_of s x)) nothing (show_full settings x s e)) x)
  shown_goes s u x k = go (find (is_of u) (lists_of s x)) refl
    where
      one : (l : LastList) → IsList l → (a b : Bool) → AllByRecursion Goes (outs (choose a nothing (choose b (send (ToEditor e (shown_text (version_at settings s e x l.uri) l.body))) nothing)) x)
      one l is true b = tt
      one l is false true = (ap asks_something (text_says settings x k e s l is).1, tt)
      one l is false false = tt

      go : (o : Option LastList) → find (is_of u) (lists_of s x) ≡ o → AllByRecursion Goes (outs (on o nothing (show_full settings x s e)) x)
      go None at = tt
      go (Some l) at = one l (found_one IsList (is_of u) l (lists_of s x) (lists_kept s x k) at) l.empty (fits l (agreement_at settings s e x l.uri))

  still_opened : (s : ℕ) (what : Saying) → Still settings (show_opened settings s e what)
  still_opened s (opens u l v t) = record { same = λ x y k h. shown_there s u x y h; goes = λ x k. shown_goes s u x k }
  still_opened s (changes u v cs) = still_nothing
  still_opened s (closes u) = still_nothing
  still_opened s misshapen = still_nothing
  still_opened s saying.nothing = still_nothing

  document_there : (what : Saying) (g s : ℕ) → Still settings (document_at settings before e body what g s)
  document_there what g s = still_choose (λ ready. still_then (still_start s (document_bodies settings.limits.versions (encoding_of g before) (texts_of settings g before) (λ u. held_at s u before) e body what)) (still_opened s what)) (λ off. still_nothing)

  document_in : (what : Saying) (g : ℕ) → Still settings (on (start_of g before) nothing (document_at settings before e body what g))
  document_in what g = still_on (λ none. still_nothing) (λ s at. document_there what g s)

  pub still_document : (what : Saying) → Still settings (document_row settings before e body what)
  still_document what = still_on (λ none. still_nothing) (λ g at. document_in what g)

  -- one that doesn't run yet was asked to take nothing
  module _ (idle : is_running (desk_of e before).phase ≡ false) where
    response_there : (m : Message) (s : ℕ) → Still settings (response_at settings before e body m s)
    response_there m s = still_choose (λ ready. still_on (λ none. still_choose (λ runs. never (sym runs ∙ idle)) (λ no. still_nothing)) (λ a at. still_send tt)) (λ off. still_nothing)

    response_in : (m : Message) (g : ℕ) → Still settings (on (start_of g before) nothing (response_at settings before e body m))
    response_in m g = still_on (λ none. still_nothing) (λ s at. response_there m s)

    still_response : (m : Message) → Still settings (response_row settings before e body m)
    still_response m = still_on (λ none. still_nothing) (λ g at. response_in m g)

  -- what makes an editor run is neither `shutdown` nor `exit`
  pub unshut : (m : Message) → makes_running m ≡ true → requests (codes "shutdown") m ≡ false
  unshut m h = go (is_malformed m) (notifies (codes "exit") m) (requests (codes "shutdown") m) h
    where
      go : (a b c : Bool) → not (a || (b || (c || is_multiplexer_request m))) ≡ true → c ≡ false
      go true b c k = never (sym k)
      go false true c k = never (sym k)
      go false false true k = never (sym k)
      go false false false k = refl

  pub unended : (m : Message) → makes_running m ≡ true → notifies (codes "exit") m ≡ false
  unended m h = go (is_malformed m) (notifies (codes "exit") m) h
    where
      go : (a b : Bool) → not (a || (b || (requests (codes "shutdown") m || is_multiplexer_request m))) ≡ true → b ≡ false
      go true b k = never (sym k)
      go false true k = never (sym k)
      go false false k = refl

  pub still_served : AllHeld settings before → is_running (desk_of e before).phase ≡ false → (m : Message) → message_of body ≡ m → makes_running m ≡ true → Still settings (served_row settings before e body m)
  still_served held idle (request id method params) says runs = still_choose (λ misplaced. still_error id method params says (wrong_code method invalid_request))
      (λ placed. still_choose (λ shuts. never (sym shuts ∙ unshut (request id method params) runs)) (λ on. still_request id method params says))
  still_served held idle (notification method params) says runs = still_choose (λ ends. never (sym ends ∙ unended (notification method params) runs))
      (λ on. still_choose (λ going. still_notice) (λ off. still_choose (λ cancels. still_cancelled held params) (λ off. still_choose (λ works. still_work params) (λ other. still_document (saying_by method params)))))
  still_served held idle (result id r) says runs = still_response idle (result id r)
  still_served held idle (error id x) says runs = still_response idle (error id x)
  still_served held idle not_json says runs = still_response idle not_json
  still_served held idle not_message says runs = still_response idle not_message
