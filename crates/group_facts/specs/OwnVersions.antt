-- The answer that an editor gets from a start has the editor's own versions of documents, or is an error (V1 and V2; LSP 3.17, WorkspaceEdit, OptionalVersionedTextDocumentIdentifier and ContentModified).
use Rattle.std.specs.Prelude.{◌≡◌, ◌⊎◌, ℕ, Bool, true, false, List, [], ◌∷◌, ◌++◌, codes, decimal, find, is_some}
use Rattle.std.specs.Prelude.{Option, Some, None}
use Rattle.std.specs.List.{AllByRecursion}
use Rattle.std.specs.Option.{option_and_then}
use Rattle.json_text.specs.Json.{Json}
use Rattle.json_text.specs.Named.{named_in}
use Rattle.json_text.specs.Replace.{Edit}
use Rattle.json_nodes.specs.Puts.{put_edits}
use Rattle.mux_history.specs.declared.cause.Cause.{Cause}
use Rattle.mux_history.specs.declared.cause.Cause.TheVariants.{FromEditor, FromServer}
use Rattle.mux_history.specs.declared.entry.Entry.{Entry}
use Rattle.mux_history.specs.declared.out.Out.{Out}
use Rattle.mux_history.specs.declared.out.Out.TheVariants.{ToEditor, ToServer}
use Rattle.rpc_message.specs.Changed.{changed_text}
use Rattle.rpc_message.specs.Message.{Message, Id, id_bytes, integer, message_of, request}
use Rattle.rpc_message.specs.Texts.{content_modified, error_text}
use Rattle.rpc_message.specs.ValueTexts.{IsIdText}
use Rattle.document_model.specs.doc_text.specs.Changes.{string_text}
use Rattle.document_model.specs.Helds.{HeldText}
use Rattle.document_model.specs.Notices.{integer_text, new_version}
use Rattle.document_model.specs.Opens.{Open}
use Rattle.document_model.specs.Rows.{Agrees}
use Rattle.document_model.specs.Texts.{found}
use Rattle.event_model.specs.declared.stage.Stage.TheVariants.{Ready}
use Rattle.event_model.specs.Event.{Event, behind, events_of, said, with_cause}
use Rattle.event_model.specs.Requests.{answered_id, is_open, is_own, open_of}
use Rattle.event_model.specs.Settings.{Settings}
use Rattle.event_model.specs.Stages.{life_of}
use Rattle.group_rows.specs.response_route.specs.Asked.{documents_asked}
use Rattle.group_rows.specs.response_route.specs.Results.{documents_in}
use Rattle.mux_facts.specs.Allowed.{is_response}
use Rattle.group_rows.specs.held_requests.specs.declared.request.Request.{Request}
use Rattle.mux_model.specs.Documents.{held_at}
use Rattle.group_rows.specs.Answers.{shared_texts}
use Rattle.group_rows.specs.AskRows.{is_edit}
use Rattle.group_rows.specs.Forwarded.{Forwarded, answered_by, forwarding_of}
use Rattle.group_rows.specs.Tokens.{forwarded_text}
use Rattle.group_rows.specs.Waiting.{first_waiting}
use Rattle.group_facts.specs.OwnTexts.{HasOwn}

-- The moment is in the entry of this message of e; or in one of start s, in whose group this message waited longest.
pub data SendingOn (settings : Settings) (s e : ℕ) (asked : List ℕ) (moment : List Event) : Type 0 where
  by_message : (before : List Event) (outs : List Out) → moment ≡ behind (with_cause before (FromEditor e asked)) outs → SendingOn settings s e asked moment
  by_result : (before : List Event) (answer : List ℕ) (outs : List Out) (r : Request) → moment ≡ behind (with_cause before (FromServer s answer)) outs → first_waiting settings s moment ≡ Some r → r.editor ≡ e → r.body ≡ asked → SendingOn settings s e asked moment

-- At this moment, in the entry of a message of e with these bytes as its id, or in S2, start s was sent that message as its request n, with the daemon's tokens, and all else in it as e gave it.
pub record IsSentOn (settings : Settings) (s : ℕ) (events : List Event) (n e : ℕ) (id : List ℕ) : Type 0 where
  pub asked : List ℕ
  pub own_id : id_bytes asked ≡ id
  pub moment : List Event
  pub sending : SendingOn settings s e asked moment
  pub body : List ℕ
  pub bytes : body ≡ forwarded_text n asked
  pub method : List ℕ
  pub params : Option Json
  pub says : message_of body ≡ request (integer (decimal n)) method params
  pub other : is_own method ≡ false
  pub later : List Event
  pub place : events ≡ moment ++ said (ToServer s body) ∷ later

-- Behind these events document u is open at e, and s has it under this version.
pub record IsUnder (settings : Settings) (s e : ℕ) (events : List Event) (u digits : List ℕ) : Type 0 where
  pub own : Open
  pub held : HeldText
  pub opened : found e u (shared_texts settings s events) ≡ Some own
  pub has : held_at s u events ≡ Some held
  pub version : digits ≡ decimal held.version

-- and s has it in e's language and with e's text
pub record IsAgreed (settings : Settings) (s e : ℕ) (events : List Event) (u digits : List ℕ) : Type 0 where
  pub under : IsUnder settings s e events u digits
  pub agrees : Agrees under.own under.held

-- V1: what e gets in place of a version of u that s gave, behind these events, in its answer to a request of that moment: null where u isn't open at e; e's version now; e's version then; or nothing
pub data OwnVersion (settings : Settings) (s e : ℕ) (moment events : List Event) (u digits : List ℕ) (text : Option (List ℕ)) : Type 0 where
  unopened : found e u (shared_texts settings s events) ≡ None → text ≡ Some (codes "null") → OwnVersion settings s e moment events u digits text
  current : (k : IsAgreed settings s e events u digits) → text ≡ Some ((k.under).own).version → OwnVersion settings s e moment events u digits text
  former : is_some (found e u (shared_texts settings s events)) ≡ true → (IsAgreed settings s e events u digits → ⊥) → (k : IsUnder settings s e moment u digits) → text ≡ Some (k.own).version → OwnVersion settings s e moment events u digits text
  neither : is_some (found e u (shared_texts settings s events)) ≡ true → (IsAgreed settings s e events u digits → ⊥) → (IsUnder settings s e moment u digits → ⊥) → text ≡ None → OwnVersion settings s e moment events u digits text

-- V3: what e gets in place of a version of u in an edit that s asks for: null where u isn't open at e; e's version; or nothing, where it stands for no text that e has
pub data CurrentVersion (settings : Settings) (s e : ℕ) (events : List Event) (u digits : List ℕ) (text : Option (List ℕ)) : Type 0 where
  unopened_now : found e u (shared_texts settings s events) ≡ None → text ≡ Some (codes "null") → CurrentVersion settings s e events u digits text
  current_now : (k : IsAgreed settings s e events u digits) → text ≡ Some ((k.under).own).version → CurrentVersion settings s e events u digits text
  outdated : is_some (found e u (shared_texts settings s events)) ≡ true → (IsAgreed settings s e events u digits → ⊥) → text ≡ None → CurrentVersion settings s e events u digits text

-- a document with a version in what s says, and what stands in its place, as V says by its uri and the version's digits
pub record IsOwn (V : List ℕ → List ℕ → Option (List ℕ) → Type 0) (document : Json) (text : Option (List ℕ)) : Type 0 where
  pub uri : List ℕ
  pub digits : List ℕ
  pub named : option_and_then string_text (named_in (codes "uri") document) ≡ Some uri
  pub given : option_and_then integer_text (named_in (codes "version") document) ≡ Some digits
  pub own : V uri digits text

-- in place of the version of each of these documents stand these bytes
abbrev pub AreOwn : (List ℕ → List ℕ → Option (List ℕ) → Type 0) → List Json → List (List ℕ) → Type 0
AreOwn V [] [] = Unit {0}
AreOwn V (j ∷ js) (text ∷ texts) = IsOwn V j (Some text) × AreOwn V js texts
AreOwn V [] (text ∷ texts) = ⊥
AreOwn V (j ∷ js) [] = ⊥

-- one of them stands for no text of the editor
abbrev pub HasOther : (List ℕ → List ℕ → Option (List ℕ) → Type 0) → List Json → Type 0
HasOther V [] = ⊥
HasOther V (j ∷ js) = IsOwn V j None ⊎ HasOther V js

-- these bytes in place of each `version` of these documents
abbrev pub version_edits : List Json → List (List ℕ) → List Edit
version_edits (j ∷ js) (text ∷ texts) = put_edits (new_version text) j ++ version_edits js texts
version_edits js texts = []

-- the body that e gets of s's answer: all as s gave it, but for the id and the versions, which are its own; or, V2, an error
pub data IsOwnAnswer (settings : Settings) (s e : ℕ) (moment events : List Event) (answer id body : List ℕ) : Type 0 where
  passed : (texts : List (List ℕ)) → AreOwn (OwnVersion settings s e moment events) (documents_in answer) texts → body ≡ changed_text answer id (version_edits (documents_in answer) texts) → IsOwnAnswer settings s e moment events answer id body
  modified : HasOther (OwnVersion settings s e moment events) (documents_in answer) → body ≡ error_text id content_modified → IsOwnAnswer settings s e moment events answer id body

-- A body that e gets in the entry of an answer of s: it answers an open request of e, by e's own id, which was sent on to s.
pub record IsHandedOn (settings : Settings) (before : List Event) (s : ℕ) (answer : List ℕ) (e : ℕ) (body : List ℕ) : Type 0 where
  pub request : Forwarded
  pub listed : find (answered_by (answered_id (message_of answer))) (forwarding_of settings s before).open_requests ≡ Some request
  pub editor : request.editor ≡ e
  pub sent : IsSentOn settings s before request.number e request.id
  pub id : Id
  pub text : IsIdText id request.id
  pub waits : is_open id (open_of e before) ≡ true
  pub answered : answered_id (message_of body) ≡ Some id
  pub own : IsOwnAnswer settings s e sent.moment before answer request.id body

-- V3: an edit that s asks for, as e gets it: all as s gave it, but for the id and the versions, which are its own
pub record IsOwnEdit (settings : Settings) (before : List Event) (s : ℕ) (asked : List ℕ) (e : ℕ) (body : List ℕ) : Type 0 where
  pub number : List ℕ
  pub texts : List (List ℕ)
  pub own : AreOwn (CurrentVersion settings s e before) (documents_asked asked) texts
  pub bytes : body ≡ changed_text asked number (version_edits (documents_asked asked) texts)

-- a request that an edit be applied (LSP 3.17, ApplyWorkspaceEdit Request)
abbrev pub asks_edit : Message → Bool
asks_edit (request id method params) = is_edit method
asks_edit other = false

-- at an out of the entry of a response, or of such a request, of a start that is ready
abbrev pub OnOwnVersions : Settings → List Event → Cause → Out → Type 0
OnOwnVersions settings before (FromServer s heard) (ToEditor e body) = (life_of s before).stage ≡ Ready
    → (is_response (message_of heard) ≡ true → IsHandedOn settings before s heard e body) × (asks_edit (message_of heard) ≡ true → IsOwnEdit settings before s heard e body)
OnOwnVersions settings before cause out = Unit {0}

-- at each out of these entries, behind those before them
abbrev pub OwnVersionsFrom : Settings → List Entry → List Entry → Type 0
OwnVersionsFrom settings before [] = Unit {0}
OwnVersionsFrom settings before (entry ∷ rest) = AllByRecursion (OnOwnVersions settings (events_of before) entry.cause) entry.outs × OwnVersionsFrom settings (before ++ entry ∷ []) rest

abbrev pub OwnVersions : Settings → List Entry → Type 0
OwnVersions settings history = OwnVersionsFrom settings [] history

-- Behind these events s has, of each document that is open at e, e's own text in its language.
abbrev pub HasOwnTexts : Settings → ℕ → ℕ → List Event → Type 0
HasOwnTexts settings s e events = (u : List ℕ) (o : Open) → found e u (shared_texts settings s events) ≡ Some o → HasOwn o (held_at s u events)
