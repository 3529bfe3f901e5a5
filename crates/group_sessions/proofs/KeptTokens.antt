-- The tokens of an editor's request that waits: each is one of an open request of the editor's part.
use Rattle.std.proofs.Common.{◌≡◌, ℕ, ◌+◌, Bool, true, false, not, ◌&&◌, cond, List, [], ◌∷◌, ◌++◌, codes, filter, map, nat_eq, if◌then◌else◌, Option, Some, None, refl, sym, ◌∙◌, ap, ap₂, subst, append-nil, append_assoc}
use Rattle.std.specs.Prelude.{slice_get}
use Rattle.std.specs.List.{AllByRecursion}
use Rattle.std.specs.Option.{option_map_or}
use Rattle.std.proofs.lemmas.Bool.{and_parts}
use Rattle.json_text.specs.Json.{Json}
use Rattle.mux_history.specs.declared.cause.Cause.{Cause}
use Rattle.mux_history.specs.declared.cause.Cause.TheVariants.{Joined, FromEditor, EditorGone, Started, StartFailed, FromServer, ServerGone, Drained, Tick}
use Rattle.mux_history.specs.declared.out.Out.{Out}
use Rattle.mux_history.specs.declared.out.Out.TheVariants.{ToEditor, ToServer, Spawn, CloseEditor, EndServer}
use Rattle.rpc_message.specs.Message.{Id, Message, request, notification, result, error, not_json, not_message, id_bytes, message_of}
use Rattle.rpc_message.specs.ValueTexts.{IsIdText}
use Rattle.rpc_message.proofs.Ids.{request_id_bytes}
use Rattle.event_model.specs.Event.{Event, behind, heard, said, same_id, took, with_cause}
use Rattle.event_model.specs.Phases.{desk_of, is_served}
use Rattle.event_model.specs.Requests.{answered_id, is_open}
use Rattle.event_model.specs.Settings.{Settings}
use Rattle.event_model.specs.Spawns.{group_of}
use Rattle.event_model.proofs.Frames.{never}
use Rattle.mux_facts.proofs.Lists.{all_filtered, all_join, all_of}
use Rattle.mux_facts.proofs.Words.{number_same, open_more, same_id_itself, same_number}
use Rattle.session_laws.specs.ClientRules.{tokened_behind}
use Rattle.session_laws.specs.Progress.{token_at, tokens_at}
use Rattle.session_laws.proofs.Client4Law.{is_told}
use Rattle.session_laws.proofs.Client6Law.{tokened, tokened_grows, tokened_left, tokened_more}
use Rattle.session_laws.proofs.Tokens.{holds, holds_last, open_behind, or_first}
use Rattle.group_words.specs.Houses.{home_of, is_home}
use Rattle.group_rows.specs.held_requests.specs.declared.request.Request.{Request}
use Rattle.group_rows.specs.held_requests.specs.Tables.{asked, is_of}
use Rattle.group_rows.specs.Forwarded.{token_in}
use Rattle.group_rows.specs.Rows.{outs_of}
use Rattle.group_rows.specs.Waiting.{is_answered, is_for_start, waiting_next, waiting_of, waits, worker_of}
use Rattle.group_rows.proofs.Cancelling.{text_meant}
use Rattle.group_rows.proofs.Frames.{waiting_more}
use Rattle.group_facts.proofs.Held.{drop_all, left_by, not_true}
use Rattle.group_facts.proofs.Reached.{Reached, reached_keeps}
use Rattle.group_facts.proofs.SlowRow.{parting}
use Rattle.group_sessions.proofs.Brought.{Brought, brought, token_request}
use Rattle.group_sessions.proofs.Telling.{HasToken}

-- The message that is at work brings its tokens

and_both : (a b : Bool) → a ≡ true → b ≡ true → (a && b) ≡ true
and_both a b h k = ap₂ (λ x y. x && y) h k

-- a token of this name is among these
pub one_token : (name : List ℕ) (params : Option Json) (token : Id) → token_at name params ≡ Some token → is_open token (tokens_at name params) ≡ true
one_token name params token is = ap (λ o. is_open token (option_map_or (λ (t : Id). t ∷ []) o [])) is ∙ or_first (same_id token token) false (same_id_itself token)

module _ (before : List Event) (e : ℕ) (asked : List ℕ) (id : Id) (method : List ℕ) (params : Option Json) (says : message_of asked ≡ request id method params) where
  abbrev tokens : List Id
  tokens = tokens_at (codes "workDoneToken") params ++ tokens_at (codes "partialResultToken") params

  brought_now : (token : Id) → is_open token tokens ≡ true → holds id token (tokened e (with_cause before (FromEditor e asked))) ≡ true
  brought_now token there = subst (λ rs. holds id token rs ≡ true) (sym (tokened_more e before (heard (FromEditor e asked)) ∙ ap₂ (λ b m. cond b (tokened_behind (tokened e before) (took (FromEditor e asked) m)) (tokened e before)) (same_number e) says))
      (holds_last id token (tokened e before) (record { id = id; tokens = tokens }) (and_both (same_id id id) (is_open token tokens) (same_id_itself id) there))

  pub work_now : (token : Id) → token_at (codes "workDoneToken") params ≡ Some token → holds id token (tokened e (with_cause before (FromEditor e asked))) ≡ true
  work_now token is = brought_now token (open_more token (tokens_at (codes "workDoneToken") params) (tokens_at (codes "partialResultToken") params) (one_token (codes "workDoneToken") params token is))

  pub partial_now : (token : Id) → token_at (codes "partialResultToken") params ≡ Some token → holds id token (tokened e (with_cause before (FromEditor e asked))) ≡ true
  partial_now token is = brought_now token (open_behind token (tokens_at (codes "workDoneToken") params) (tokens_at (codes "partialResultToken") params) (one_token (codes "partialResultToken") params token is))

-- One that waits

pub record IsKept (events : List Event) (r : Request) : Type 0 where
  pub id : Id
  pub is : IsIdText id r.id
  pub work : (bytes : List ℕ) → token_in (codes "workDoneToken") r.body ≡ Some bytes → HasToken r.editor id events bytes
  pub partial : (bytes : List ℕ) → token_in (codes "partialResultToken") r.body ≡ Some bytes → HasToken r.editor id events bytes

abbrev pub AllKept : List Event → List Request → Type 0
AllKept events rs = AllByRecursion (IsKept events) rs

abbrev pub Kept : Settings → List Event → Type 0
Kept settings events = (g : ℕ) → AllKept events (waiting_of settings g events)

pub kept_first : (events : List Event) (rs : List Request) (r : Request) → AllKept events rs → slice_get rs 0 ≡ Some r → IsKept events r
kept_first events [] r h is = absurd (let clash : ◌≡◌ {A = Option Request} None (Some r) = is in cc)
kept_first events (q ∷ rs) r h is = let same : q ≡ r = (let both : ◌≡◌ {A = Option Request} (Some q) (Some r) = is in cc) in subst (IsKept events) same h.0

kept_later : (events later : List Event) (r : Request) (h : IsKept events r) → ((token : Id) → holds h.id token (tokened r.editor events) ≡ true → holds h.id token (tokened r.editor later) ≡ true) → IsKept later r
kept_later events later r h more = record {
  id = h.id;
  is = h.is;
  work = λ bytes e. let k : HasToken r.editor h.id events bytes = h.work bytes e in record { token = k.token; text = k.text; there = more k.token k.there };
  partial = λ bytes e. let k : HasToken r.editor h.id events bytes = h.partial bytes e in record { token = k.token; text = k.text; there = more k.token k.there };
}

one_grown : (events : List Event) (event : Event) → is_told event ≡ false → (r : Request) → IsKept events r → IsKept (events ++ event ∷ []) r
one_grown events event off r k = kept_later events (events ++ event ∷ []) r k (λ token there. tokened_grows r.editor events event off k.id token there)

-- a body to an editor leaves those that it doesn't answer
unanswered : (events : List Event) (n : ℕ) (body : List ℕ) (r : Request) → is_answered n (answered_id (message_of body)) r ≡ false → IsKept events r → IsKept (events ++ said (ToEditor n body) ∷ []) r
unanswered events n body r off h = kept_later events (events ++ said (ToEditor n body) ∷ []) r h (λ token there. tokened_left r.editor n events body (message_of body) h.id token other there)
  where
    other : nat_eq n r.editor ≡ true → (i : Id) → answered_id (message_of body) ≡ Some i → same_id i h.id ≡ false
    other same i is = go (same_id i h.id) refl
      where
        go : (b : Bool) → same_id i h.id ≡ b → b ≡ false
        go false e = refl
        go true e = never (sym (ap₂ (λ a c. a && c) (ap (λ z. nat_eq z n) (sym (number_same n r.editor same)) ∙ same_number n) (ap (λ o. option_map_or (same_id i) o false) (text_meant h.id r.id h.is) ∙ e)) ∙ (sym (ap (λ o. is_answered n o r) is) ∙ off))

-- a new one has those of its message
new_kept : (events : List Event) (e : ℕ) (body : List ℕ) (id : Id) (method : List ℕ) (params : Option Json) → message_of body ≡ request id method params → IsKept (with_cause events (FromEditor e body)) (asked e (id_bytes body) body)
new_kept events e body id method params says = record {
  id = id;
  is = request_id_bytes body id method params says;
  work = λ bytes is. let b : Brought (codes "workDoneToken") body bytes = brought (codes "workDoneToken") body bytes is in record {
    token = b.id;
    text = b.text;
    there = work_now events e body id method params says b.id (token_request id method params (codes "workDoneToken") body says ∙ b.names);
  };
  partial = λ bytes is. let b : Brought (codes "partialResultToken") body bytes = brought (codes "partialResultToken") body bytes is in record {
    token = b.id;
    text = b.text;
    there = partial_now events e body id method params says b.id (token_request id method params (codes "partialResultToken") body says ∙ b.names);
  };
}

-- Behind an event

module _ (settings : Settings) where
  by_event : (events : List Event) (event : Event) → ((g : ℕ) → AllKept (events ++ event ∷ []) (waiting_next settings g events (waiting_of settings g events) event)) → Kept settings (events ++ event ∷ [])
  by_event events event h g = subst (AllKept (events ++ event ∷ [])) (sym (waiting_more settings g events event)) (h g)

  grown : (events : List Event) (event : Event) → is_told event ≡ false → (rs : List Request) → AllKept events rs → AllKept (events ++ event ∷ []) rs
  grown events event off rs h = all_of (IsKept events) (IsKept (events ++ event ∷ [])) (one_grown events event off) rs h

  left : (events : List Event) (event : Event) → is_told event ≡ false → (test : Request → Bool) (rs : List Request) → AllKept events rs → AllKept (events ++ event ∷ []) (filter test rs)
  left events event off test rs h = all_filtered (IsKept events) (IsKept (events ++ event ∷ [])) test (λ r t k. one_grown events event off r k) rs h

  new_one : (events : List Event) (e : ℕ) (body : List ℕ) (m : Message) → message_of body ≡ m → is_for_start events e body m ≡ true → IsKept (with_cause events (FromEditor e body)) (asked e (id_bytes body) body)
  new_one events e body (request id method params) says h = new_kept events e body id method params says
  new_one events e body (notification method params) says h = never (sym h)
  new_one events e body (result id x) says h = never (sym h)
  new_one events e body (error id x) says h = never (sym h)
  new_one events e body not_json says h = never (sym h)
  new_one events e body not_message says h = never (sym h)

  pub kept_took : (events : List Event) (cause : Cause) → Kept settings events → Kept settings (with_cause events cause)
  kept_took events (FromEditor e body) h = by_event events (heard (FromEditor e body)) (λ g. go g (waits settings g events e body (message_of body) (waiting_of settings g events)) refl)
    where
      for_start : (g : ℕ) → waits settings g events e body (message_of body) (waiting_of settings g events) ≡ true → is_for_start events e body (message_of body) ≡ true
      for_start g on = (and_parts (is_for_start events e body (message_of body)) _ (and_parts (is_home g (home_of settings e events) && is_served (desk_of e events).phase) _ on).1).0

      go : (g : ℕ) (b : Bool) → waits settings g events e body (message_of body) (waiting_of settings g events) ≡ b → AllKept (with_cause events (FromEditor e body)) (if b then waiting_of settings g events ++ asked e (id_bytes body) body ∷ [] else waiting_of settings g events)
      go g true on = all_join (IsKept (with_cause events (FromEditor e body))) (waiting_of settings g events) (asked e (id_bytes body) body ∷ []) (grown events (heard (FromEditor e body)) refl (waiting_of settings g events) (h g))
          (new_one events e body (message_of body) refl (for_start g on), tt)
      go g false off = grown events (heard (FromEditor e body)) refl (waiting_of settings g events) (h g)
  kept_took events (EditorGone e why) h = by_event events (heard (EditorGone e why)) (λ g. left events (heard (EditorGone e why)) refl (λ r. not (is_of e r)) (waiting_of settings g events) (h g))
  kept_took events (Joined e) h = by_event events (heard (Joined e)) (λ g. grown events (heard (Joined e)) refl (waiting_of settings g events) (h g))
  kept_took events (Started s) h = by_event events (heard (Started s)) (λ g. grown events (heard (Started s)) refl (waiting_of settings g events) (h g))
  kept_took events (StartFailed s) h = by_event events (heard (StartFailed s)) (λ g. grown events (heard (StartFailed s)) refl (waiting_of settings g events) (h g))
  kept_took events (FromServer s body) h = by_event events (heard (FromServer s body)) (λ g. grown events (heard (FromServer s body)) refl (waiting_of settings g events) (h g))
  kept_took events (ServerGone s) h = by_event events (heard (ServerGone s)) (λ g. grown events (heard (ServerGone s)) refl (waiting_of settings g events) (h g))
  kept_took events (Drained e k) h = by_event events (heard (Drained e k)) (λ g. grown events (heard (Drained e k)) refl (waiting_of settings g events) (h g))
  kept_took events (Tick t) h = by_event events (heard (Tick t)) (λ g. grown events (heard (Tick t)) refl (waiting_of settings g events) (h g))

  pub kept_did : (events : List Event) (out : Out) → Kept settings events → Kept settings (events ++ said out ∷ [])
  kept_did events (ToEditor n body) h = by_event events (said (ToEditor n body)) (λ g. all_filtered (IsKept events) (IsKept (events ++ said (ToEditor n body) ∷ [])) (λ r. not (is_answered n (answered_id (message_of body)) r))
      (λ r off k. unanswered events n body r (not_true (is_answered n (answered_id (message_of body)) r) off) k) (waiting_of settings g events) (h g))
  kept_did events (ToServer s body) h = by_event events (said (ToServer s body)) (λ g. left_by (AllKept (events ++ said (ToServer s body) ∷ [])) (drop_all (IsKept (events ++ said (ToServer s body) ∷ []))) (is_home g (group_of s events)) (worker_of events) (message_of body) (waiting_of settings g events)
      (grown events (said (ToServer s body)) refl (waiting_of settings g events) (h g)))
  kept_did events (CloseEditor e) h = by_event events (said (CloseEditor e)) (λ g. left events (said (CloseEditor e)) refl (λ r. not (is_of e r)) (waiting_of settings g events) (h g))
  kept_did events (Spawn s i) h = by_event events (said (Spawn s i)) (λ g. grown events (said (Spawn s i)) refl (waiting_of settings g events) (h g))
  kept_did events (EndServer s) h = by_event events (said (EndServer s)) (λ g. grown events (said (EndServer s)) refl (waiting_of settings g events) (h g))

  pub kept_behind : (events : List Event) (xs : List Out) → Kept settings events → Kept settings (behind events xs)
  kept_behind events [] h = subst (Kept settings) (sym (append-nil events)) h
  kept_behind events (x ∷ xs) h = subst (Kept settings) (append_assoc events (said x ∷ []) (map said xs)) (kept_behind (events ++ said x ∷ []) xs (kept_did events x h))

  pub all_kept : (events : List Event) → Reached settings events → Kept settings events
  all_kept = reached_keeps settings (Kept settings) (λ g. tt) (λ before cause fits at h. kept_behind (with_cause before cause) (outs_of settings before cause) (kept_took before cause h)) (λ place e is at h. kept_behind place (parting settings place e) h)
