-- Progress that an editor is told has the token of an open request of it, or one that it accepted; what is told of the latter is a premise here.
use Rattle.std.proofs.Common.{◌≡◌, ℕ, Bool, true, false, not, ◌||◌, List, [], ◌∷◌, ◌++◌, bytes_eq, codes, filter, if◌then◌else◌, Option, Some, None, ◌⊎◌, inl, inr, is_some, IsTrue, refl, sym, ◌∙◌, ap, ap₂, subst}
use Rattle.std.proofs.lemmas.Slice.Eq.{bytes_eq-Decides}
use Rattle.json_text.specs.Bare.{nowhere}
use Rattle.json_text.specs.Json.{Json, string}
use Rattle.mux_history.specs.declared.cause.Cause.{Cause}
use Rattle.mux_history.specs.declared.cause.Cause.TheVariants.{Joined, FromServer}
use Rattle.mux_history.specs.declared.entry.Entry.{Entry}
use Rattle.mux_history.specs.declared.out.Out.{Out}
use Rattle.mux_history.specs.declared.out.Out.TheVariants.{ToEditor, ToServer, Spawn, CloseEditor, EndServer}
use Rattle.lsp_method.specs.Class.{class_of, server_notification}
use Rattle.lsp_method.specs.declared.variants.Class.TheVariants.{Broadcast, Diagnostics, Progress}
use Rattle.lsp_method.specs.declared.variants.Origin.TheVariants.{Server}
use Rattle.rpc_message.specs.Message.{Id, Message, id_of, message_of, notification, text}
use Rattle.rpc_message.specs.ValueTexts.{IsIdText, IsValueText}
use Rattle.event_model.specs.Always.{Always}
use Rattle.event_model.specs.Event.{Event, behind, events_of, heard, said, with_cause}
use Rattle.event_model.specs.Members.{named_of}
use Rattle.event_model.specs.Parts.{editor_part, is_of_editor}
use Rattle.event_model.specs.Requests.{answered_id, is_open}
use Rattle.event_model.specs.Settings.{Settings}
use Rattle.mux_model.specs.Fits.{fits_behind}
use Rattle.mux_facts.specs.Ranges.{InRange}
use Rattle.mux_facts.proofs.Keeps.{behind_both, behind_nothing}
use Rattle.mux_facts.proofs.Lists.{found_is}
use Rattle.mux_facts.proofs.Reasons.{Reasons, reasons_keep}
use Rattle.mux_facts.proofs.Rules.{rule_more}
use Rattle.mux_facts.proofs.Words.{number_same, open_more, same_number}
use Rattle.session_laws.specs.ClientRules.{ClientRule6, KeepsClient6}
use Rattle.session_laws.specs.Progress.{is_one, names_one, token_at, tokens_in}
use Rattle.session_laws.proofs.Client4Law.{is_told as is_body}
use Rattle.session_laws.proofs.Client6Law.{free_6, tokened}
use Rattle.session_laws.proofs.Tokens.{holds_open, names_freely, open_behind, or_second}
use Rattle.group_rows.specs.Created.{created_mark, created_of, created_text}
use Rattle.group_rows.specs.Forwarded.{Forwarded, Forwarding, answered_by, forwarding_of}
use Rattle.group_rows.specs.Rows.{outs_of}
use Rattle.group_rows.specs.Tokens.{is_mark, is_told, marked_text, own_token, partial_mark, work_mark, listens}
use Rattle.group_rows.proofs.CreatedTexts.{created_is}
use Rattle.group_facts.specs.Legal.{Legal}
use Rattle.group_facts.specs.Why.{IsNotified, Telling, Why, WhyToEditor, answers, asks, calls, of_held, of_request, of_token, passes, progresses, recalls, refuses, rejects, resumes, shows, spreads, turns_away, welcomes, loses, quitting, winds_up, pays}
use Rattle.group_facts.proofs.Facts.{Facts}
use Rattle.group_rows.proofs.Frames.{forwarding_more}
use Rattle.group_facts.proofs.Known.{Here, here_did, here_took}
use Rattle.group_facts.proofs.Reached.{Reached, facts_at, reached}
use Rattle.group_facts.proofs.Table.{reasons}
use Rattle.group_sessions.proofs.Accepted.{AllHeard, Heard, Hears, IsHeard, accepted}
use Rattle.group_sessions.proofs.HeldFold.{called_some}
use Rattle.group_sessions.proofs.Marked.{Marked, id_bare, marked}
use Rattle.group_sessions.proofs.Telling.{AllTold, HasToken, IsTold, Ties, outs_back, ties_free, ties_told, ties_took, unfiltered}
use Rattle.group_sessions.proofs.TellingSent.{ties_sent}
use Rattle.group_sessions.proofs.Walk.{KeepsSlow, walk}
use Rattle.group_rows.specs.StopRows.{stopped}
use Rattle.group_facts.proofs.Quits.{not_stopped, stopped_back, stopped_more}
use Rattle.group_facts.proofs.StopEntry.{stopped_outs}
use Rattle.group_facts.proofs.Apart.{find_true}
use Rattle.group_facts.proofs.Listens.{listens_there}
use Rattle.event_model.specs.Phases.{desk_of, is_there}
use Rattle.std.proofs.lemmas.Bool.{and_parts}
use Rattle.group_facts.proofs.SlowRow.{parting_walk}
use Rattle.event_model.proofs.Frames.{never}
use Rattle.group_sessions.proofs.KeptTokens.{Kept, all_kept}

-- What is told

-- of all editors alike
pub not_progress : (method : List ℕ) → class_of method Server true ≡ Broadcast → bytes_eq method (codes "$/progress") ≡ false
unfolding server_notification
not_progress method class = go (bytes_eq method (codes "$/progress")) refl
  where
    go : (b : Bool) → bytes_eq method (codes "$/progress") ≡ b → b ≡ false
    go true same = absurd (let clash : Progress ≡ Broadcast = sym (ap (λ z. class_of z Server true) ((bytes_eq-Decides method (codes "$/progress")).0 same)) ∙ class in cc)
    go false other = refl

pub list_no_progress : (method : List ℕ) → class_of method Server true ≡ Diagnostics → bytes_eq method (codes "$/progress") ≡ false
unfolding server_notification
list_no_progress method class = go (bytes_eq method (codes "$/progress")) refl
  where
    go : (b : Bool) → bytes_eq method (codes "$/progress") ≡ b → b ≡ false
    go true same = absurd (let clash : Progress ≡ Diagnostics = sym (ap (λ z. class_of z Server true) ((bytes_eq-Decides method (codes "$/progress")).0 same)) ∙ class in cc)
    go false other = refl

-- an editor's own token is the one for its work, or for its partial results
pub own_is : (j : Option Json) (f : Forwarded) (bytes : List ℕ) → own_token j f ≡ Some bytes → (is_some j ≡ true) × ((f.work ≡ Some bytes) ⊎ (f.partial ≡ Some bytes))
own_is j f bytes h = go (is_mark j (work_mark f.number)) refl (is_mark j (partial_mark f.number)) refl h
  where
    there : (o : Option Json) (k : ℕ) → is_mark o k ≡ true → is_some o ≡ true
    there (Some x) k e = refl
    there None k e = absurd (cc)

    go : (a : Bool) → is_mark j (work_mark f.number) ≡ a → (b : Bool) → is_mark j (partial_mark f.number) ≡ b → (if a then f.work else if b then f.partial else None) ≡ Some bytes → (is_some j ≡ true) × ((f.work ≡ Some bytes) ⊎ (f.partial ≡ Some bytes))
    go true e b d k = (there j (work_mark f.number) e, inl k)
    go false e true d k = (there j (partial_mark f.number) d, inr k)
    go false e false d k = absurd (cc)

pub created_id : (s k : ℕ) → IsIdText (text (created_mark s k)) (created_text s k)
created_id s k = let w : IsValueText (string nowhere (created_mark s k)) (created_text s k) = created_is s k in record { tree = w.tree; stands = w.stands; is = sym (id_bare w.tree) ∙ ap id_of w.same }

module _ (settings : Settings) (range : InRange settings) (before : List Event) (facts : Facts settings before) (cause : Cause) where
  -- at a place inside of the entry
  record At (events : List Event) : Type 0 where
    here : Here settings before cause events
    outs : List Out
    place : events ≡ behind (with_cause before cause) outs
    ties : stopped events ≡ false → Ties settings events
    rules : (e : ℕ) → Always ClientRule6 (editor_part e events)

  module _ (events : List Event) (n : ℕ) (body : List ℕ) (at : At events) where
    abbrev tokens : List Id
    tokens = tokens_in (tokened n events) ++ (accepted n events).created

    abbrev May : Message → Type 0
    May m = IsTrue (names_one (codes "$/progress") tokens m)

    -- this token stands in it
    may_tell : (token : Id) (bytes asked method : List ℕ) → Marked token bytes asked method → body ≡ marked_text bytes asked → is_open token tokens ≡ true → May (message_of body)
    may_tell token bytes asked method m is there = subst (λ b. May (message_of b)) (sym is) (subst May (sym m.says)
        (or_second (not (bytes_eq method (codes "$/progress"))) (is_one (token_at (codes "token") m.params) tokens) (ap (λ o. is_one o tokens) m.names ∙ there)))

    -- a request that was open when its start told of it is kept with its tokens
    kept : (s : ℕ) (asked : List ℕ) (given : Option Json) → IsNotified before cause s asked given → stopped events ≡ false → AllTold events (forwarding_of settings s before).open_requests
    kept s asked given k on = unfiltered settings events (forwarding_of settings s before).open_requests (subst (AllTold events) moved (subst (λ c. AllTold events (forwarding_of settings s (with_cause before c)).open_requests) k.from first))
      where
        first : AllTold events (forwarding_of settings s (with_cause before cause)).open_requests
        first = outs_back settings events s (with_cause before cause) at.outs (subst (λ z. AllTold events (forwarding_of settings s z).open_requests) at.place (at.ties on s))

        moved : (forwarding_of settings s (with_cause before (FromServer s asked))).open_requests ≡ filter (λ f. not (answered_by None f)) (forwarding_of settings s before).open_requests
        moved = ap (λ (x : Forwarding). x.open_requests) (forwarding_more settings s before (heard (FromServer s asked)))
            ∙ ap₂ (λ b m. if b then filter (λ f. not (answered_by (answered_id m) f)) (forwarding_of settings s before).open_requests else (forwarding_of settings s before).open_requests) (same_number s) k.asks

    of_editor : (asked method : List ℕ) (given : Option Json) (request : Forwarded) (token : List ℕ) → message_of asked ≡ notification method given → IsTold events request → own_token (named_of (codes "token") given) request ≡ Some token → request.editor ≡ n
        → body ≡ marked_text token asked → May (message_of body)
    of_editor asked method given request token says told own editor bytes =
        let own_one : (is_some (named_of (codes "token") given) ≡ true) × ((request.work ≡ Some token) ⊎ (request.partial ≡ Some token)) = own_is (named_of (codes "token") given) request token own in
        let has : HasToken request.editor told.id events token = chosen own_one.1 in
        may_tell has.token token asked method (marked has.token token asked method given has.text says own_one.0) bytes
        (open_more has.token (tokens_in (tokened n events)) (accepted n events).created (subst (λ z. is_open has.token (tokens_in (tokened z events)) ≡ true) editor (holds_open told.id has.token (tokened request.editor events) has.there)))
      where
        chosen : (request.work ≡ Some token) ⊎ (request.partial ≡ Some token) → HasToken request.editor told.id events token
        chosen (inl h) = told.work token h
        chosen (inr h) = told.partial token h

    telling : (told : Telling settings before cause events n body) → Hears settings before cause events n body told → May (message_of body)
    telling (of_request s asked given request token k found own editor bytes) h =
        of_editor asked k.method given request token k.asks (found_is (IsTold events) (is_told before (named_of (codes "token") given)) request (forwarding_of settings s before).open_requests (kept s asked given k goes) found) own editor bytes
      where
        there : is_there (desk_of request.editor before).phase ≡ true
        there = listens_there (desk_of request.editor before).phase (and_parts (is_some (own_token (named_of (codes "token") given) request)) (listens (desk_of request.editor before).phase) (find_true (is_told before (named_of (codes "token") given)) (forwarding_of settings s before).open_requests request found)).1

        goes : stopped events ≡ false
        goes = ap stopped at.place ∙ (stopped_outs (with_cause before cause) at.outs ∙ (ap (λ c. stopped (with_cause before c)) k.from ∙ (stopped_more before (heard (FromServer s asked)) ∙ not_stopped before facts.quit request.editor there)))
    telling (of_token s asked given token k called takes bytes) h =
        may_tell (text (created_mark s token.number)) (created_text s token.number) asked k.method
        (marked (text (created_mark s token.number)) (created_text s token.number) asked k.method given (created_id s token.number) k.asks (called_some (named_of (codes "token") given) (created_of settings s before) token called)) bytes
        (open_behind (text (created_mark s token.number)) (tokens_in (tokened n events)) (accepted n events).created h)
    telling (of_held s taking earlier held later taken order place bytes) h =
        may_tell (text (created_mark s taking.token)) (created_text s taking.token) held h.0.method
        (marked (text (created_mark s taking.token)) (created_text s taking.token) held h.0.method h.0.params (created_id s taking.token) h.0.says h.0.names) bytes
        (open_behind (text (created_mark s taking.token)) (tokens_in (tokened n events)) (accepted n events).created h.1)

    may_go : WhyToEditor settings before cause events n body → Heard settings before cause events (ToEditor n body) → May (message_of body)
    may_go (rejects k) h = subst May (sym k.says) refl
    may_go (refuses k) h = subst May (sym k.says) refl
    may_go (loses k) h = subst May (sym k.says) refl
    may_go (answers k) h = subst May (sym k.says) refl
    may_go (turns_away k) h = subst May (sym k.says) refl
    may_go (welcomes k) h = subst May (sym k.says) refl
    may_go (passes k) h = names_freely (codes "$/progress") tokens (message_of body) k.response
    may_go (asks k) h = subst May (sym k.says) refl
    may_go (resumes k) h = subst May (sym k.says) refl
    may_go (pays k) h = subst May (sym k.says) refl
    may_go (calls k) h = subst May (sym k.says) refl
    may_go (spreads k) h = subst May (sym k.says) (ap (λ b. not b || is_one (token_at (codes "token") k.params) tokens) (not_progress k.method k.class))
    may_go (winds_up k) h = subst May (sym k.says) (go (bytes_eq k.method (codes "$/progress")) refl)
      where
        named : (o : Option Id) → is_one o (accepted n events).created ≡ true → is_one o tokens ≡ true
        named (Some token) there = open_behind token (tokens_in (tokened n events)) (accepted n events).created there
        named None there = never (sym there)

        go : (b : Bool) → bytes_eq k.method (codes "$/progress") ≡ b → (not b || is_one (token_at (codes "token") (Some k.params)) tokens) ≡ true
        go false other = refl
        go true same = named (token_at (codes "token") (Some k.params)) (h.1 k (Some k.params) (k.says ∙ ap (λ z. notification z (Some k.params)) ((bytes_eq-Decides k.method (codes "$/progress")).0 same)))
    may_go (recalls k) h = subst May (sym k.says) refl
    may_go (progresses k) h = let heard : IsHeard settings before cause events n body = h.0 k.told in telling heard.told heard.hears
    may_go (shows k) h = subst May (sym k.says) (ap (λ b. not b || is_one (token_at (codes "token") k.params) tokens) (list_no_progress k.method k.class))

  abbrev Both : List Event → Out → Type 0
  Both events out = Why settings before cause events out × Heard settings before cause events out

  free : (events : List Event) (event : Event) → is_body event ≡ false → ((e : ℕ) → Always ClientRule6 (editor_part e events)) → (e : ℕ) → Always ClientRule6 (editor_part e (events ++ event ∷ []))
  free events event off h e = rule_more ClientRule6 (is_of_editor e) events event (h e) (λ same. free_6 (editor_part e events) event off)

  more : (events : List Event) (out : Out) → Why settings before cause events out → At events → (stopped (events ++ said out ∷ []) ≡ false → Ties settings (events ++ said out ∷ [])) → ((e : ℕ) → Always ClientRule6 (editor_part e (events ++ said out ∷ []))) → At (events ++ said out ∷ [])
  more events out why i ties rules = record {
    here = here_did settings range before cause facts events out why i.here;
    outs = i.outs ++ out ∷ [];
    place = ap (λ z. z ++ said out ∷ []) i.place ∙ sym (behind_both (with_cause before cause) i.outs (out ∷ []));
    ties = ties;
    rules = rules;
  }

  step : Kept settings before → (events : List Event) (out : Out) → Both events out → At events → At (events ++ said out ∷ [])
  step kept events (ToEditor n body) why i = more events (ToEditor n body) why.0 i (λ on. let off : stopped events ≡ false = stopped_back events (said (ToEditor n body)) on in ties_told settings before cause events n body off ((((i.here).mid).steady).asked off) why.0 (i.ties off))
      (λ e. rule_more ClientRule6 (is_of_editor e) events (said (ToEditor n body)) (i.rules e) (λ same. subst (λ k. ClientRule6 (editor_part k events) (said (ToEditor n body))) (number_same n e same) (may_go events n body i why.0 why.1)))
  step kept events (ToServer n body) why i = more events (ToServer n body) why.0 i (λ on. ties_sent settings before kept cause events n body why.0 (i.ties (stopped_back events (said (ToServer n body)) on))) (free events (said (ToServer n body)) refl i.rules)
  step kept events (Spawn n g) why i = more events (Spawn n g) why.0 i (λ on. ties_free settings events (Spawn n g) refl (λ s. refl) (i.ties (stopped_back events (said (Spawn n g)) on))) (free events (said (Spawn n g)) refl i.rules)
  step kept events (CloseEditor e) why i = more events (CloseEditor e) why.0 i (λ on. ties_free settings events (CloseEditor e) refl (λ s. refl) (i.ties (stopped_back events (said (CloseEditor e)) on))) (free events (said (CloseEditor e)) refl i.rules)
  step kept events (EndServer n) why i = more events (EndServer n) why.0 i (λ on. ties_free settings events (EndServer n) refl (λ s. refl) (i.ties (stopped_back events (said (EndServer n)) on))) (free events (said (EndServer n)) refl i.rules)

  both : (events : List Event) (outs : List Out) → Reasons (Why settings before cause) events outs → Reasons (Heard settings before cause) events outs → Reasons Both events outs
  both events [] r h = tt
  both events (out ∷ outs) r h = ((r.0, h.0), both (events ++ said out ∷ []) outs r.1 h.1)

  rules_took : (c : Cause) → ((e : ℕ) → Always ClientRule6 (editor_part e before)) → (e : ℕ) → Always ClientRule6 (editor_part e (with_cause before c))
  rules_took (Joined e) h = free before (heard (Joined e)) refl h
  rules_took c h = free before (heard c) refl h

-- Between entries
record Rests (settings : Settings) (events : List Event) : Type 0 where
  ties : stopped events ≡ false → Ties settings events
  rules : (e : ℕ) → Always ClientRule6 (editor_part e events)

-- where what editors are told of created tokens is as it should be
module _ (settings : Settings) (range : InRange settings) (all_heard : AllHeard settings) where
  entry : (before : List Event) → Reached settings before → (cause : Cause) → fits_behind before cause ≡ true → Rests settings before → Rests settings (behind (with_cause before cause) (outs_of settings before cause))
  entry before so_far cause fits h =
      let facts : Facts settings before = facts_at settings range before so_far in
      let now : List Event = with_cause before cause in
      let last : At settings range before facts cause (behind now (outs_of settings before cause)) = reasons_keep (Both settings range before facts cause) (At settings range before facts cause) (step settings range before facts cause (all_kept settings before so_far))
      now (outs_of settings before cause)
      (both settings range before facts cause now (outs_of settings before cause) (reasons settings range before facts cause).why (all_heard before so_far cause fits))
      (record {
        here = here_took settings range before cause fits facts;
        outs = [];
        place = sym (behind_nothing now);
        ties = λ on. ties_took settings before cause (h.ties (stopped_back before (heard cause) on));
        rules = rules_took settings range before facts cause cause h.rules;
      }) in
      record { ties = last.ties; rules = last.rules }

  slow : KeepsSlow settings (Rests settings)
  slow place at e is h =
      let facts : Facts settings place = facts_at settings range place at in
      parting_walk settings range place facts e is (Rests settings)
      (λ i. record {
        ties = λ on. ties_free settings place (CloseEditor e) refl (λ s. refl) (i.ties (stopped_back place (said (CloseEditor e)) on));
        rules = free settings range place facts (quitting e) place (said (CloseEditor e)) refl i.rules;
      })
      (λ events n body why i. record {
        ties = λ on. ties_sent settings place (all_kept settings place at) (quitting e) events n body why (i.ties (stopped_back events (said (ToServer n body)) on));
        rules = free settings range place facts (quitting e) events (said (ToServer n body)) refl i.rules;
      }) h

  pub client_6_law : (history : List Entry) → Legal settings history → KeepsClient6 history
  client_6_law history legal = (walk settings (Rests settings) entry slow (record { ties = λ on s. tt; rules = λ e. tt }) (events_of history) (reached settings history legal)).rules
