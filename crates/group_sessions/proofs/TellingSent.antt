-- Behind a body to a start, too, the tokens that are kept are those of open requests: those of an editor's request that goes on are in the message that is at work.
use Rattle.std.proofs.Common.{◌≡◌, ℕ, ◌+◌, Bool, true, false, List, [], ◌∷◌, ◌++◌, append-nil, append_assoc, codes, decimal, map, nat_eq, if◌then◌else◌, Option, Some, None, refl, sym, ◌∙◌, ap, subst, subst₂}
use Rattle.std.specs.List.{AllByRecursion}
use Rattle.std.specs.Option.{option_and_then}
use Rattle.json_text.specs.Json.{Json}
use Rattle.document_model.proofs.Written.{Spoken, spoken}
use Rattle.mux_history.specs.declared.cause.Cause.{Cause}
use Rattle.mux_history.specs.declared.cause.Cause.TheVariants.{FromEditor}
use Rattle.mux_history.specs.declared.out.Out.{Out}
use Rattle.mux_history.specs.declared.out.Out.TheVariants.{ToEditor, ToServer, Spawn, CloseEditor, EndServer}
use Rattle.rpc_message.specs.Message.{Id, Message, request, notification, result, error, not_json, not_message, id_bytes, integer, message_of}
use Rattle.rpc_message.specs.ValueTexts.{IsIdText}
use Rattle.rpc_message.proofs.Ids.{request_id_bytes}
use Rattle.event_model.specs.Event.{Event, behind, said, with_cause}
use Rattle.event_model.specs.Requests.{answered_id, next_number}
use Rattle.event_model.specs.Settings.{Settings}
use Rattle.mux_model.specs.Documents.{held_at}
use Rattle.mux_facts.specs.Allowed.{is_response}
use Rattle.mux_facts.proofs.Lists.{all_join, all_of}
use Rattle.session_laws.proofs.Client6Law.{tokened, tokened_grows, tokened_left}
use Rattle.session_laws.proofs.Tokens.{holds}
use Rattle.group_rows.specs.Forwarded.{Sender, first_sender, forwarding_of, forwards, sender_of, token_in}
use Rattle.group_rows.specs.Rows.{sync_bodies}
use Rattle.group_rows.specs.Texts.{texts_of}
use Rattle.group_facts.specs.Why.{IsForward, IsQuestion, WhyToServer, begins, cancels, cancels_work, exits, forwarded, greets, conveys, has_method, notes, resolves, responds, shuts, tells, Going, IsAwaited, IsBehindSync, at_once, had_waited}
use Rattle.group_facts.proofs.Apart.{grow, new, one_id}
use Rattle.group_sessions.proofs.Brought.{Brought, brought, token_request}
use Rattle.group_sessions.proofs.Telling.{Adds, AllTold, HasToken, IsTold, Ties, all_grown, forwards_told, ties_by}
use Rattle.group_sessions.proofs.KeptTokens.{IsKept, Kept, kept_behind, kept_first, kept_took, partial_now, work_now}
use Rattle.std.specs.Prelude.{slice_get}
use Rattle.group_rows.specs.Waiting.{waiting_of}

-- Whose request is at work

-- what is kept of it
pub record AtWork (e : ℕ) (asked : List ℕ) (sender : Sender) : Type 0 where
  pub id : Id
  pub method : List ℕ
  pub params : Option Json
  pub says : message_of asked ≡ request id method params
  pub editor : sender.editor ≡ e
  pub bytes : sender.id ≡ id_bytes asked
  pub work : sender.work ≡ token_in (codes "workDoneToken") asked
  pub partial : sender.partial ≡ token_in (codes "partialResultToken") asked

pub at_work : (e : ℕ) (asked : List ℕ) (sender : Sender) → sender_of e asked (message_of asked) ≡ Some sender → AtWork e asked sender
at_work e asked sender is = go (message_of asked) refl is
  where
    made : Sender
    made = record { editor = e; id = id_bytes asked; work = token_in (codes "workDoneToken") asked; partial = token_in (codes "partialResultToken") asked }

    same : Some made ≡ Some sender → sender ≡ made
    same h = cc

    go : (m : Message) → message_of asked ≡ m → sender_of e asked m ≡ Some sender → AtWork e asked sender
    go (request id method params) says h = let k : sender ≡ made = same h in record {
      id = id;
      method = method;
      params = params;
      says = says;
      editor = ap (λ (z : Sender). z.editor) k;
      bytes = ap (λ (z : Sender). z.id) k;
      work = ap (λ (z : Sender). z.work) k;
      partial = ap (λ (z : Sender). z.partial) k;
    }
    go (notification method params) says h = absurd (cc)
    go (result id r) says h = absurd (cc)
    go (error id x) says h = absurd (cc)
    go not_json says h = absurd (cc)
    go not_message says h = absurd (cc)

-- Outs that answer no editor

abbrev Quiet : Out → Type 0
Quiet (ToEditor n body) = answered_id (message_of body) ≡ None
Quiet other = Unit {0}

asked_nothing : (m : Message) → has_method m ≡ true → answered_id m ≡ None
asked_nothing (request id method params) h = refl
asked_nothing (notification method params) h = refl
asked_nothing (result id r) h = absurd (cc)
asked_nothing (error id r) h = absurd (cc)
asked_nothing not_json h = refl
asked_nothing not_message h = refl

quiet_question : (e : ℕ) (out : Out) → IsQuestion e out → Quiet out
quiet_question e (ToEditor n body) h = asked_nothing (message_of body) h.1
quiet_question e (ToServer s body) h = tt
quiet_question e (Spawn s g) h = tt
quiet_question e (CloseEditor n) h = tt
quiet_question e (EndServer s) h = tt

quiet_sent : (s : ℕ) (bodies : List (List ℕ)) → AllByRecursion Quiet (map (λ z. ToServer s z) bodies)
quiet_sent s [] = tt
quiet_sent s (b ∷ bodies) = (tt, quiet_sent s bodies)

module _ (e : ℕ) (id token : Id) where
  one_quiet : (events : List Event) (out : Out) → Quiet out → holds id token (tokened e events) ≡ true → holds id token (tokened e (events ++ said out ∷ [])) ≡ true
  one_quiet events (ToEditor n body) quiet h = tokened_left e n events body (message_of body) id token (λ same i is. absurd (let clash : ◌≡◌ {A = Option Id} None (Some i) = sym quiet ∙ is in cc)) h
  one_quiet events (ToServer s body) quiet h = tokened_grows e events (said (ToServer s body)) refl id token h
  one_quiet events (Spawn s g) quiet h = tokened_grows e events (said (Spawn s g)) refl id token h
  one_quiet events (CloseEditor n) quiet h = tokened_grows e events (said (CloseEditor n)) refl id token h
  one_quiet events (EndServer s) quiet h = tokened_grows e events (said (EndServer s)) refl id token h

  all_quiet : (events : List Event) (outs : List Out) → AllByRecursion Quiet outs → holds id token (tokened e events) ≡ true → holds id token (tokened e (behind events outs)) ≡ true
  all_quiet events [] quiet h = subst (λ z. holds id token (tokened e z) ≡ true) (sym (append-nil events)) h
  all_quiet events (out ∷ outs) quiet h = subst (λ z. holds id token (tokened e z) ≡ true) (append_assoc events (said out ∷ []) (map said outs)) (all_quiet (events ++ said out ∷ []) outs quiet.1 (one_quiet events out quiet.0 h))

-- A body to a start

module _ (settings : Settings) (before : List Event) (kept : Kept settings before) (cause : Cause) (events : List Event) (n : ℕ) (body : List ℕ) where
  abbrev sent : List Event
  sent = events ++ said (ToServer n body) ∷ []

  -- that is no editor's request
  plain : (m : Message) → message_of body ≡ m → Adds m → Ties settings events → Ties settings sent
  plain m says own h = ties_by settings events sent (said (ToServer n body)) refl (λ s. go s (nat_eq n s) (all_grown events (said (ToServer n body)) refl (forwarding_of settings s events).open_requests (h s)))
    where
      go : (s : ℕ) (b : Bool) → AllTold sent (forwarding_of settings s events).open_requests → AllTold sent (if b then forwards (first_sender settings s events) (forwarding_of settings s events) (message_of body) else forwarding_of settings s events).open_requests
      go s true k = forwards_told settings sent (first_sender settings s events) (forwarding_of settings s events) (message_of body) (subst Adds (sym says) own) k
      go s false k = k

  answer_adds : (m : Message) → is_response m ≡ true → Adds m
  answer_adds (result id r) h = tt
  answer_adds (error id x) h = tt
  answer_adds (request id method params) h = absurd (cc)
  answer_adds (notification method params) h = absurd (cc)
  answer_adds not_json h = absurd (cc)
  answer_adds not_message h = absurd (cc)

  -- an editor's request
  module _ (k : IsForward settings before cause events n body) where
    abbrev e : ℕ
    e = (k.sender).editor

    its : AtWork e k.asked k.sender
    its = at_work e k.asked k.sender k.own

    later : (token : Id) → holds its.id token (tokened e events) ≡ true → holds its.id token (tokened e sent) ≡ true
    later token h = tokened_grows e events (said (ToServer n body)) refl its.id token h

    -- its tokens are those of its message, which came now, and stay there
    module _ (sync : IsBehindSync settings before events n e k.asked) where
      there : (token : Id) → holds its.id token (tokened e (with_cause before (FromEditor e k.asked))) ≡ true → holds its.id token (tokened e sent) ≡ true
      there token h = later token (subst (λ z. holds its.id token (tokened e z) ≡ true) (sym sync.place)
          (all_quiet e its.id token (with_cause before (FromEditor e k.asked)) (sync.questions ++ map (λ z. ToServer n z) (sync_bodies settings.limits.versions (λ u. held_at n u before) e (texts_of settings sync.group before).opens))
          (all_join Quiet sync.questions (map (λ z. ToServer n z) (sync_bodies settings.limits.versions (λ u. held_at n u before) e (texts_of settings sync.group before).opens))
          (all_of (IsQuestion e) Quiet (quiet_question e) sync.questions sync.asks) (quiet_sent n (sync_bodies settings.limits.versions (λ u. held_at n u before) e (texts_of settings sync.group before).opens))) h))

      work_there : (bytes : List ℕ) → (k.sender).work ≡ Some bytes → HasToken e its.id sent bytes
      work_there bytes is = let b : Brought (codes "workDoneToken") k.asked bytes = brought (codes "workDoneToken") k.asked bytes (sym its.work ∙ is) in record {
        token = b.id;
        text = b.text;
        there = there b.id (work_now before e k.asked its.id its.method its.params its.says b.id (token_request its.id its.method its.params (codes "workDoneToken") k.asked its.says ∙ b.names));
      }

      partial_there : (bytes : List ℕ) → (k.sender).partial ≡ Some bytes → HasToken e its.id sent bytes
      partial_there bytes is = let b : Brought (codes "partialResultToken") k.asked bytes = brought (codes "partialResultToken") k.asked bytes (sym its.partial ∙ is) in record {
        token = b.id;
        text = b.text;
        there = there b.id (partial_now before e k.asked its.id its.method its.params its.says b.id (token_request its.id its.method its.params (codes "partialResultToken") k.asked its.says ∙ b.names));
      }

    -- or of one that waited
    module _ (w : IsAwaited settings before cause events n e k.asked) where
      first_is : slice_get (waiting_of settings w.group events) 0 ≡ Some w.request
      first_is = sym (ap (λ o. option_and_then (λ g. slice_get (waiting_of settings g events) 0) o) w.member) ∙ w.first

      kept_here : Kept settings events
      kept_here = subst (Kept settings) (sym (w.place ∙ ap (λ z. behind z (map (λ z. ToServer n z) (sync_bodies settings.limits.versions (λ u. held_at n u w.earlier) e (texts_of settings w.group w.earlier).opens))) w.entry))
          (kept_behind settings (behind (with_cause before cause) w.outs) (map (λ z. ToServer n z) (sync_bodies settings.limits.versions (λ u. held_at n u w.earlier) e (texts_of settings w.group w.earlier).opens))
          (kept_behind settings (with_cause before cause) w.outs (kept_took settings before cause kept)))

      it : IsKept events w.request
      it = kept_first events (waiting_of settings w.group events) w.request (kept_here w.group) first_is

      same : it.id ≡ its.id
      same = one_id it.id its.id w.request.id it.is (subst (IsIdText its.id) (sym w.bytes) (request_id_bytes k.asked its.id its.method its.params its.says))

      moved : (bytes : List ℕ) → HasToken w.request.editor it.id events bytes → HasToken e its.id sent bytes
      moved bytes h = let t : HasToken e its.id events bytes = subst₂ (λ n i. HasToken n i events bytes) w.editor same h in record { token = t.token; text = t.text; there = later t.token t.there }

      work_kept : (bytes : List ℕ) → (k.sender).work ≡ Some bytes → HasToken e its.id sent bytes
      work_kept bytes is = moved bytes (it.work bytes (ap (token_in (codes "workDoneToken")) w.body ∙ (sym its.work ∙ is)))

      partial_kept : (bytes : List ℕ) → (k.sender).partial ≡ Some bytes → HasToken e its.id sent bytes
      partial_kept bytes is = moved bytes (it.partial bytes (ap (token_in (codes "partialResultToken")) w.body ∙ (sym its.partial ∙ is)))

    work : Going settings before cause events n e k.asked → (bytes : List ℕ) → (k.sender).work ≡ Some bytes → HasToken e its.id sent bytes
    work (at_once from sync) bytes is = work_there sync bytes is
    work (had_waited w) bytes is = work_kept w bytes is

    partial : Going settings before cause events n e k.asked → (bytes : List ℕ) → (k.sender).partial ≡ Some bytes → HasToken e its.id sent bytes
    partial (at_once from sync) bytes is = partial_there sync bytes is
    partial (had_waited w) bytes is = partial_kept w bytes is

    told_new : IsTold sent (new settings before cause events n body k)
    unfolding new
    told_new = record { id = its.id; is = subst (IsIdText its.id) (sym its.bytes) (request_id_bytes k.asked its.id its.method its.params its.says); work = work k.going; partial = partial k.going }

    asked_now : Ties settings events → Ties settings sent
    asked_now h s = grow settings before cause events n body k s (IsTold sent) (all_grown events (said (ToServer n body)) refl (forwarding_of settings s events).open_requests (h s)) (λ same. told_new)

  pub ties_sent : WhyToServer settings before cause events n body → Ties settings events → Ties settings sent
  ties_sent (begins k) h = plain (request (integer (codes "1")) (codes "initialize") k.params) k.says refl h
  ties_sent (greets k) h = plain (notification (codes "initialized") k.params) k.says tt h
  ties_sent (conveys k) h = plain (notification (codes "workspace/didChangeConfiguration") k.params) k.says tt h
  ties_sent (forwarded k) h = asked_now k h
  ties_sent (notes k) h = plain (notification k.method k.params) k.says tt h
  ties_sent (tells k) h = let m : Spoken (message_of body) = spoken (message_of body) k.spoken in plain (notification m.method m.params) m.is tt h
  ties_sent (shuts k) h = plain (request (integer (decimal (next_number n events))) (codes "shutdown") None) k.says refl h
  ties_sent (cancels k) h = plain (notification (codes "$/cancelRequest") (Some k.params)) k.says tt h
  ties_sent (cancels_work k) h = plain (notification (codes "window/workDoneProgress/cancel") k.params) k.says tt h
  ties_sent (responds k) h = plain (message_of body) refl (answer_adds (message_of body) k.response) h
  ties_sent (resolves k) h = plain (message_of body) refl (answer_adds (message_of body) k.response) h
  ties_sent (exits k) h = plain (notification (codes "exit") None) k.says tt h
