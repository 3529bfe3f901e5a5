-- A start's first result, as a whole entry.
use Rattle.std.proofs.Common.{◌≡◌, ℕ, true, false, List, [], ◌∷◌, ◌++◌, refl, ap, sym, ◌∙◌, append-nil, codes, if◌then◌else◌}
use Rattle.std.specs.Prelude.{Option, Some, None}
use Rattle.json_text.specs.Bare.{nowhere}
use Rattle.json_text.specs.Json.{Json, object, no_members}
use Rattle.mux_history.specs.declared.cause.Cause.TheVariants.{FromServer}
use Rattle.mux_history.specs.declared.out.Out.{Out}
use Rattle.mux_history.specs.declared.out.Out.TheVariants.{ToServer}
use Rattle.rpc_message.specs.Message.{Message, Id, message_of, notification, result}
use Rattle.rpc_message.specs.Message as messages
use Rattle.rpc_message.specs.Texts.{initialized_text}
use Rattle.rpc_message.proofs.Fixed.{initialized_law}
use Rattle.position_codec.specs.declared.Encoding.{Encoding}
use Rattle.document_model.specs.Sayings.{nothing, saying_of}
use Rattle.event_model.specs.Event.{Event, behind, heard, requests, said, with_cause}
use Rattle.event_model.specs.Phases.{Desk, desk_behind, desk_of}
use Rattle.event_model.specs.Stages.{is_first_result}
use Rattle.event_model.proofs.Frames.{one_more}
use Rattle.group_rows.specs.Forwarded.{moves_ids}
use Rattle.group_rows.specs.Texts.{is_synced}
use Rattle.mux_model.specs.Documents.{encoding_by, encoding_in}
use Rattle.event_model.proofs.Turns.{behind_more}
use Rattle.mux_tables.specs.Documents.{to}
use Rattle.mux_tables.specs.Stands.{is_answer}
use Rattle.mux_turns.specs.Welcomes.{AllAsking}

-- how positions count, as the first result says
pub first_encoding : (m : Message) (id : Option Id) (r : Json) (code : Encoding) → m ≡ result id r → is_first_result m ≡ true → code ≡ encoding_in r → encoding_by m ≡ Some code
first_encoding m id r code says first is = ap encoding_by says ∙ (go id (ap is_first_result (sym says) ∙ first) ∙ ap (λ c. Some c) (sym is))
  where
    go : (id : Option Id) → is_first_result (result id r) ≡ true → encoding_by (result id r) ≡ Some (encoding_in r)
    go (Some (messages.integer n)) h = ap (λ b. if b then Some (encoding_in r) else None) h
    go (Some (messages.text cs)) h = absurd (cc)
    go None h = absurd (cc)

-- what the notification `initialized` is not
pub record Quiet (body : List ℕ) : Type 0 where
  pub runs : requests (codes "shutdown") (message_of body) ≡ false
  pub counts : moves_ids (message_of body) ≡ false
  pub says : saying_of (message_of body) ≡ nothing
  pub aside : is_synced (message_of body) ≡ false

pub initialized_quiet : (body : List ℕ) → body ≡ initialized_text → Quiet body
initialized_quiet body is =
    let says : message_of body ≡ notification (codes "initialized") (Some (object nowhere no_members)) = ap message_of is ∙ initialized_law in
    record { runs = ap (requests (codes "shutdown")) says; counts = ap moves_ids says; says = ap saying_of says; aside = ap is_synced says }

-- nor does it answer
pub initialized_silent : (body : List ℕ) → body ≡ initialized_text → is_answer (message_of body) ≡ false
initialized_silent body is = ap is_answer (ap message_of is ∙ initialized_law)

-- bodies to a start leave each editor where it is
desk_told : (e s : ℕ) (bodies : List (List ℕ)) (events : List Event) → desk_of e (behind events (to s bodies)) ≡ desk_of e events
desk_told e s [] events = ap (desk_of e) (append-nil events)
desk_told e s (b ∷ bodies) events = ap (desk_of e) (behind_more events (ToServer s b ∷ []) (to s bodies))
    ∙ (desk_told e s bodies (events ++ said (ToServer s b) ∷ []) ∙ one_more (desk_behind e) _ _ events (said (ToServer s b)) refl)

module _ (before : List Event) (s : ℕ) (body : List ℕ) (bodies : List (List ℕ)) (ys : List Out) (are : ys ≡ to s bodies) where
  abbrev base : List Event
  base = with_cause before (FromServer s body)

  same_desk : (e : ℕ) → desk_of e (behind base ys) ≡ desk_of e before
  same_desk e = ap (λ zs. desk_of e (behind base zs)) are ∙ (desk_told e s bodies base ∙ one_more (desk_behind e) _ _ before (heard (FromServer s body)) refl)

  pub still_asking : AllAsking before → AllAsking (behind base ys)
  still_asking asking e waits =
      let a = asking e (ap (λ (d : Desk). d.phase) (sym (same_desk e)) ∙ waits) in
      record { name = a.name; method = a.method; params = a.params; says = ap (λ (d : Desk). message_of d.initialize) (same_desk e) ∙ a.says }
