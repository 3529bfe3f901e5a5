-- Which row a message of an editor meets.
use Rattle.std.proofs.Common.{◌≡◌, ℕ, Bool, true, false, ◌&&◌, List, [], ◌++◌, refl, ap, sym, subst, ◌∙◌, append-nil, ◌⊎◌, inl, inr, codes}
use Rattle.std.specs.Prelude.{Option, Some}
use Rattle.json_text.specs.Json.{Json}
use Rattle.json_nodes.specs.Doc.{Doc}
use Rattle.mux_history.specs.declared.cause.Cause.TheVariants.{Drained}
use Rattle.mux_history.specs.declared.out.Out.{Out}
use Rattle.rpc_message.specs.declared.envelope.Envelope.{Envelope}
use Rattle.rpc_message.specs.declared.envelope.Envelope.TheVariants as envelope
use Rattle.rpc_message.specs.declared.sort.Malformed.{Malformed}
use Rattle.rpc_message.specs.declared.sort.Malformed.TheVariants as fault
use Rattle.rpc_message.specs.declared.sort.Sort.{Sort}
use Rattle.rpc_message.specs.declared.sort.Sort.TheVariants as sort
use Rattle.rpc_message.specs.Envelopes.{Tells}
use Rattle.rpc_message.specs.Message.{Message, Id, message_of, request, notification, result, error, not_json, not_message}
use Rattle.rpc_message.specs.Parsed.{Parsed, IsRead}
use Rattle.rpc_message.specs.Sorts.{Refuses, sort_of}
use Rattle.event_model.specs.declared.phase.Phase.{Phase}
use Rattle.event_model.specs.declared.phase.Phase.TheVariants.{Absent, New, Waiting, Answered, Running, Down, Closed, Gone}
use Rattle.event_model.specs.Does.{Alike, Done}
use Rattle.event_model.specs.Event.{Event, behind, notifies, requests, with_cause}
use Rattle.event_model.specs.Phases.{desk_of, is_begun, is_linked, is_malformed, is_served, is_there}
use Rattle.event_model.specs.Row.{Row, nothing, outs, ◌⨾◌}
use Rattle.event_model.specs.Settings.{Settings}
use Rattle.event_model.proofs.Turns.{alike, alike_then, does_nothing}
use Rattle.mux_model.specs.Rows.{malformed_row}
use Rattle.group_words.specs.Rows.{initialize_row}
use Rattle.group_words.specs.Houses.{is_doubled, stops}
use Rattle.group_rows.specs.StopRows.{stop_row}
use Rattle.group_rows.specs.AskRows.{response_row}
use Rattle.mux_starts.specs.mux_facts.specs.Allowed.{is_response}
use Rattle.group_rows.specs.Rows.{asks_lspmux, closing_row, down_row, early_row, exit_row, editor_row, from_editor, lspmux_row, open_row, row_of, served_row, status_row, taken_row}
use Rattle.mux_editors.specs.Running.{running_at, running_row}
use Rattle.mux_starts.specs.mux_tables.specs.declared.tables.Tables.{Tables}
use Rattle.mux_starts.specs.mux_tables.specs.Documents.{AllStand, DocumentsStand, nothing_owed}
use Rattle.mux_starts.specs.mux_tables.specs.Stands.{Stands}
use Rattle.mux_starts.specs.mux_tables.proofs.DocumentHeard.{drained_documents}
use Rattle.mux_starts.specs.mux_tables.proofs.Heard.{drained_moves}
use Rattle.mux_editors.proofs.Turns.{is_first, is_second, whole_entry}

-- a whole entry of a row that sends what another one does
pub done_alike : {K : Type 0} (Holds : K → List Event → Type 0) {r p : Row} {base : List Event} {xs ys : List Out} {u : K} → Alike r p → Done Holds p base xs u ys → Done Holds r base xs u ys
done_alike Holds {r} {p} {base} {xs} {ys} {u} a d = record { outs = d.outs ∙ ap (λ zs. xs ++ zs) (sym (a.sends (behind base xs))); stands = d.stands }

-- behind the same row, and behind one that sends nothing
pub alike_behind : {r p q : Row} → Alike p q → Alike (r ⨾ p) (r ⨾ q)
alike_behind {r} {p} {q} a = record { sends = λ events. let xs = outs r events in ap (λ zs. xs ++ zs) (a.sends (behind events xs)) }

pub alike_past : {r p q : Row} → Alike r nothing → Alike p q → Alike (r ⨾ p) q
alike_past {r} {p} {q} n a = record { sends = λ events. ap (λ xs. xs ++ outs p (behind events xs)) (n.sends events) ∙ (ap (outs p) (append-nil events) ∙ a.sends events) }

-- where nothing was sent
pub done_quietly : {K : Type 0} (Holds : K → List Event → Type 0) {r : Row} {base : List Event} {xs : List Out} {u : K} → xs ≡ [] → Done Holds r base [] u [] → Done Holds r base [] u xs
done_quietly Holds {r} {base} {xs} {u} first d = subst (λ zs. Done Holds r base [] u zs) (sym first) d

-- what was read is a message
told_well : (d : Doc) (v : Envelope) (m : Message) → Tells d v m → is_malformed m ≡ false
told_well d (envelope.Request i n ps) m t = ap is_malformed t.is
told_well d (envelope.Notification n ps) m t = ap is_malformed t.is
told_well d (envelope.Outcome i v) m t = ap is_malformed t.is
told_well d (envelope.Failure i v) m t = ap is_malformed t.is

pub read_well : (p : Parsed) (body : List ℕ) → IsRead p body → is_malformed (message_of body) ≡ false
read_well p body r = told_well p.doc p.envelope (message_of body) r.tells

-- a request, with its parts
pub record Asks (m : Message) : Type 0 where
  pub id : Id
  pub method : List ℕ
  pub params : Option Json
  pub is : m ≡ request id method params

pub asks_by_name : (name : List ℕ) (m : Message) → requests name m ≡ true → Asks m
asks_by_name name (request id method params) h = record { id = id; method = method; params = params; is = refl }
asks_by_name name (notification method params) h = absurd (cc)
asks_by_name name (result id r) h = absurd (cc)
asks_by_name name (error id r) h = absurd (cc)
asks_by_name name not_json h = absurd (cc)
asks_by_name name not_message h = absurd (cc)

pub asks_by_sort : (m : Message) → sort_of m ≡ Some sort.Request → Asks m
asks_by_sort (request id method params) h = record { id = id; method = method; params = params; is = refl }
asks_by_sort (notification method params) h = absurd (cc)
asks_by_sort (result id r) h = absurd (cc)
asks_by_sort (error id r) h = absurd (cc)
asks_by_sort not_json h = absurd (cc)
asks_by_sort not_message h = absurd (cc)

-- what is under an id that is open is a request
module _ (before : List Event) (e : ℕ) (b : Bool) where
  never : {A : Type 0} → (b && false) ≡ true → A
  never h = no b h
    where
      no : {A : Type 0} (c : Bool) → (c && false) ≡ true → A
      no true h = absurd (cc)
      no false h = absurd (cc)

  pub asks_doubled : (m : Message) → (b && is_doubled before e m) ≡ true → Asks m
  asks_doubled (request id method params) h = record { id = id; method = method; params = params; is = refl }
  asks_doubled (notification method params) h = never h
  asks_doubled (result id r) h = never h
  asks_doubled (error id r) h = never h
  asks_doubled not_json h = never h
  asks_doubled not_message h = never h

  nothing_doubled : false ≡ (b && false)
  nothing_doubled = no b
    where
      no : (c : Bool) → false ≡ (c && false)
      no true = refl
      no false = refl

  pub undoubled : (m : Message) → (sort_of m ≡ Some sort.Request → ⊥) → false ≡ (b && is_doubled before e m)
  undoubled (request id method params) h = absurd (h refl)
  undoubled (notification method params) h = nothing_doubled
  undoubled (result id r) h = nothing_doubled
  undoubled (error id r) h = nothing_doubled
  undoubled not_json h = nothing_doubled
  undoubled not_message h = nothing_doubled

-- a notification, with its parts
pub record Notes (m : Message) : Type 0 where
  pub method : List ℕ
  pub params : Option Json
  pub is : m ≡ notification method params

pub notes_by_sort : (m : Message) → sort_of m ≡ Some sort.Notification → Notes m
notes_by_sort (notification method params) h = record { method = method; params = params; is = refl }
notes_by_sort (request id method params) h = absurd (cc)
notes_by_sort (result id r) h = absurd (cc)
notes_by_sort (error id r) h = absurd (cc)
notes_by_sort not_json h = absurd (cc)
notes_by_sort not_message h = absurd (cc)

-- what was refused is none
pub refused_malformed : (f : Malformed) (m : Message) → (f ≡ fault.NotJson) ⊎ (f ≡ fault.NotMessage) → Refuses f m → is_malformed m ≡ true
refused_malformed f m (inl h) r = ap is_malformed (subst (λ z. Refuses z m) h r)
refused_malformed f m (inr h) r = ap is_malformed (subst (λ z. Refuses z m) h r)

-- an editor that never joined says nothing
pub unlinked : (p : Phase) → p ≡ Absent → is_linked p ≡ true → ⊥
unlinked p at h = let off = ap is_linked at in cc

-- of several variants one
pub served_one : (p : Phase) → (p ≡ Answered) ⊎ (p ≡ Running) → is_served p ≡ true
served_one p (inl h) = ap is_served h
served_one p (inr h) = ap is_served h

-- one whose link isn't gone, and that has nothing more to say
pub closed_one : (p : Phase) → (p ≡ Closed) ⊎ ((p ≡ Absent) ⊎ (p ≡ Gone)) → is_linked p ≡ true → p ≡ Closed
closed_one p (inl h) linked = h
closed_one p (inr (inl h)) linked = absurd (let off = ap is_linked h in cc)
closed_one p (inr (inr h)) linked = absurd (let off = ap is_linked h in cc)

-- a response is no call
pub unasking : (m : Message) (x : Sort) → sort_of m ≡ Some x → (x ≡ sort.Result) ⊎ (x ≡ sort.Error) → sort_of m ≡ Some sort.Request → ⊥
unasking m x at (inl h) k = cc
unasking m x at (inr h) k = cc

pub unnoting : (m : Message) (x : Sort) → sort_of m ≡ Some x → (x ≡ sort.Result) ⊎ (x ≡ sort.Error) → sort_of m ≡ Some sort.Notification → ⊥
unnoting m x at (inl h) k = cc
unnoting m x at (inr h) k = cc

module _ (settings : Settings) (before : List Event) (e : ℕ) (body : List ℕ) where
  abbrev row : Row
  row = editor_row settings before e body

  -- E2
  pub malformed : is_malformed (message_of body) ≡ true → Alike row (malformed_row e (message_of body) (desk_of e before).phase)
  malformed h = is_first refl h

  -- one that is under no open id, and isn't the multiplexer's own
  pub taken : (p : Phase) → (desk_of e before).phase ≡ p → is_malformed (message_of body) ≡ false → (is_begun p && is_doubled before e (message_of body)) ≡ false → (is_there p && asks_lspmux (message_of body)) ≡ false
      → Alike row (taken_row settings before e body (message_of body) p)
  taken p at well single other = alike_then (alike (ap (from_editor settings before e body (message_of body)) at)) (alike_then (is_second refl well) (alike_then (is_second refl single) (is_second refl other)))

  -- E4 to E6
  pub told : is_malformed (message_of body) ≡ false → (is_begun (desk_of e before).phase && is_doubled before e (message_of body)) ≡ false → (is_there (desk_of e before).phase && asks_lspmux (message_of body)) ≡ true
      → Alike row (lspmux_row settings before e body (message_of body))
  told well single asks = alike_then (is_second refl well) (alike_then (is_second refl single) (is_first refl asks))

  pub opens : requests (codes "lspmux/open") (message_of body) ≡ true → Alike (lspmux_row settings before e body (message_of body)) (open_row settings before e body (message_of body))
  opens h = is_first refl h

  pub tells : requests (codes "lspmux/open") (message_of body) ≡ false → requests (codes "lspmux/stop") (message_of body) ≡ false → Alike (lspmux_row settings before e body (message_of body)) (status_row settings before e body)
  tells h k = alike_then (is_second refl h) (is_second refl k)

  pub halts : requests (codes "lspmux/open") (message_of body) ≡ false → requests (codes "lspmux/stop") (message_of body) ≡ true → Alike (lspmux_row settings before e body (message_of body)) (stop_row settings before e body)
  halts h k = alike_then (is_second refl h) (is_first refl k)

  -- it stops all, where its editor is there and it is under no id that is open
  pub stops_all : requests (codes "lspmux/stop") (message_of body) ≡ true → is_there (desk_of e before).phase ≡ true → (is_begun (desk_of e before).phase && is_doubled before e (message_of body)) ≡ false → stops before e (message_of body) ≡ true
  stops_all asks there single = rw (asks, there, single) refl

  -- E3
  pub closes : is_malformed (message_of body) ≡ false → (is_begun (desk_of e before).phase && is_doubled before e (message_of body)) ≡ true → Alike row (closing_row settings before e)
  closes well twice = alike_then (is_second refl well) (is_first refl twice)

  -- E7
  pub begins : (desk_of e before).phase ≡ New → is_malformed (message_of body) ≡ false → requests (codes "initialize") (message_of body) ≡ true → (is_there (desk_of e before).phase && asks_lspmux (message_of body)) ≡ false → Alike row (initialize_row settings before e body)
  begins at well h other = alike_then (taken New at well refl (ap (λ p. is_there p && asks_lspmux (message_of body)) (sym at) ∙ other)) (is_first refl h)

  -- E8
  pub early_new : (desk_of e before).phase ≡ New → is_malformed (message_of body) ≡ false → requests (codes "initialize") (message_of body) ≡ false → (is_there (desk_of e before).phase && asks_lspmux (message_of body)) ≡ false → Alike row (early_row settings before e body (message_of body))
  early_new at well h other = alike_then (taken New at well refl (ap (λ p. is_there p && asks_lspmux (message_of body)) (sym at) ∙ other)) (is_second refl h)

  -- the row of one that is served, behind what it is asked where it begins to run
  served_as : (m : Message) (p : Phase) → is_served p ≡ true → Alike (taken_row settings before e body m p) (running_at settings before e m p ⨾ served_row settings before e body m)
  served_as m Answered h = alike refl
  served_as m Running h = record { sends = λ events. ap (outs (served_row settings before e body m)) (sym (append-nil events)) }
  served_as m Absent h = absurd (cc)
  served_as m New h = absurd (cc)
  served_as m Waiting h = absurd (cc)
  served_as m Down h = absurd (cc)
  served_as m Closed h = absurd (cc)
  served_as m Gone h = absurd (cc)

  pub served : (m : Message) → message_of body ≡ m → is_served (desk_of e before).phase ≡ true → is_malformed (message_of body) ≡ false → (is_begun (desk_of e before).phase && is_doubled before e (message_of body)) ≡ false → (is_there (desk_of e before).phase && asks_lspmux (message_of body)) ≡ false
      → Alike row (running_row settings before e (message_of body) ⨾ served_row settings before e body m)
  served m says h well single other = alike_then (taken (desk_of e before).phase refl well single other)
      (alike_then (served_as (message_of body) (desk_of e before).phase h) (alike (ap (λ w. running_row settings before e (message_of body) ⨾ served_row settings before e body w) says)))

  answers_as : (m : Message) → (sort_of m ≡ Some sort.Request → ⊥) → (sort_of m ≡ Some sort.Notification → ⊥) → served_row settings before e body m ≡ response_row settings before e body m
  answers_as (request id method params) h k = absurd (h refl)
  answers_as (notification method params) h k = absurd (k refl)
  answers_as (result id r) h k = refl
  answers_as (error id r) h k = refl
  answers_as not_json h k = refl
  answers_as not_message h k = refl

  pub answered : (sort_of (message_of body) ≡ Some sort.Request → ⊥) → (sort_of (message_of body) ≡ Some sort.Notification → ⊥) → is_served (desk_of e before).phase ≡ true → is_malformed (message_of body) ≡ false → (is_begun (desk_of e before).phase && is_doubled before e (message_of body)) ≡ false → (is_there (desk_of e before).phase && asks_lspmux (message_of body)) ≡ false
      → Alike row (running_row settings before e (message_of body) ⨾ response_row settings before e body (message_of body))
  answered h k p well single other = alike_then (served (message_of body) refl p well single other) (alike (ap (λ r. running_row settings before e (message_of body) ⨾ r) (answers_as (message_of body) h k)))

-- and it is a response
pub is_answer : (m : Message) → (sort_of m ≡ Some sort.Request → ⊥) → (sort_of m ≡ Some sort.Notification → ⊥) → is_malformed m ≡ false → is_response m ≡ true
is_answer (request id method params) h k w = absurd (h refl)
is_answer (notification method params) h k w = absurd (k refl)
is_answer (result id r) h k w = refl
is_answer (error id r) h k w = refl
is_answer not_json h k w = absurd (cc)
is_answer not_message h k w = absurd (cc)

-- what is no request, by its row
pub exit_named : (settings : Settings) (before : List Event) (e : ℕ) (m : Message) → notifies (codes "exit") m ≡ true → Alike (exit_row settings before e m) (closing_row settings before e)
exit_named settings before e (notification method params) h = is_first refl h
exit_named settings before e (request id method params) h = absurd (cc)
exit_named settings before e (result id r) h = absurd (cc)
exit_named settings before e (error id r) h = absurd (cc)
exit_named settings before e not_json h = absurd (cc)
exit_named settings before e not_message h = absurd (cc)

pub exit_silent : (settings : Settings) (before : List Event) (e : ℕ) (m : Message) → notifies (codes "exit") m ≡ false → Alike (exit_row settings before e m) nothing
exit_silent settings before e (notification method params) h = is_second refl h
exit_silent settings before e (request id method params) h = alike refl
exit_silent settings before e (result id r) h = alike refl
exit_silent settings before e (error id r) h = alike refl
exit_silent settings before e not_json h = alike refl
exit_silent settings before e not_message h = alike refl

pub aside_early : (settings : Settings) (before : List Event) (e : ℕ) (body : List ℕ) (m : Message) → (sort_of m ≡ Some sort.Request → ⊥) → early_row settings before e body m ≡ exit_row settings before e m
aside_early settings before e body (request id method params) h = absurd (h refl)
aside_early settings before e body (notification method params) h = refl
aside_early settings before e body (result id r) h = refl
aside_early settings before e body (error id r) h = refl
aside_early settings before e body not_json h = refl
aside_early settings before e body not_message h = refl

pub aside_down : (settings : Settings) (before : List Event) (e : ℕ) (body : List ℕ) (m : Message) → (sort_of m ≡ Some sort.Request → ⊥) → down_row settings before e body m ≡ exit_row settings before e m
aside_down settings before e body (request id method params) h = absurd (h refl)
aside_down settings before e body (notification method params) h = refl
aside_down settings before e body (result id r) h = refl
aside_down settings before e body (error id r) h = refl
aside_down settings before e body not_json h = refl
aside_down settings before e body not_message h = refl

-- of another sort it is no request
pub not_request : (m : Message) (x : Sort) → sort_of m ≡ Some x → (x ≡ sort.Request → ⊥) → sort_of m ≡ Some sort.Request → ⊥
not_request m x at other h = other (cc)

-- X6: bytes were written, and the tables stay
pub drained_entry : (settings : Settings) (before : List Event) (e k : ℕ) (t : Tables) → Stands settings t before → DocumentsStand settings nothing_owed t before
    → Done (λ k events. AllStand settings k events) (row_of settings before (Drained e k)) (with_cause before (Drained e k)) [] (t, nothing_owed) []
drained_entry settings before e k t st ds =
    whole_entry (λ k events. AllStand settings k events) nothing (with_cause before (Drained e k)) (t, nothing_owed) (t, nothing_owed) [] [] refl
    (drained_moves settings t before e k st, drained_documents settings nothing_owed t before e k ds) does_nothing
