-- Bodies that leave an editor in its phase.
use Rattle.std.proofs.Common.{◌≡◌, ℕ, Bool, true, false, List, [], ◌∷◌, ◌++◌, refl, ap, sym, subst, ◌∙◌, codes}
use Rattle.std.specs.Prelude.{Option, Some, None}
use Rattle.json_text.specs.declared.kind.Word.TheVariants.{Null}
use Rattle.json_text.specs.Json.{Json, word}
use Rattle.mux_history.specs.declared.out.Out.{Out}
use Rattle.mux_history.specs.declared.out.Out.TheVariants.{ToEditor}
use Rattle.rpc_message.specs.Message.{Message, error, notification, request, Id, id_bytes, message_of, result}
use Rattle.rpc_message.specs.Texts.{Code, error_text, error_tree, ok_text}
use Rattle.rpc_message.proofs.Fixed.{error_law, id_as_response, null_as_response}
use Rattle.rpc_message.proofs.Ids.{request_id_bytes}
use Rattle.rpc_message.specs.ValueTexts.{IsIdText}
use Rattle.event_model.specs.declared.phase.Phase.{Phase}
use Rattle.event_model.specs.declared.phase.Phase.TheVariants.{Absent, New, Waiting, Answered, Running, Down, Closed, Gone}
use Rattle.event_model.specs.Does.{Does}
use Rattle.event_model.specs.Event.{Event, said}
use Rattle.event_model.specs.Phases.{Desk, desk_behind, desk_of, has_id, phase_told}
use Rattle.event_model.specs.Requests.{answered_id}
use Rattle.event_model.specs.Row.{Row, choose, send}
use Rattle.event_model.specs.Settings.{Settings}
use Rattle.event_model.proofs.Frames.{one_more}
use Rattle.event_model.proofs.Turns.{does_false, does_true}
use Rattle.group_facts.proofs.OpenByPhase.{reply_told}
use Rattle.group_facts.specs.group_rows.specs.Lists.{is_publishing}
use Rattle.group_facts.proofs.Nulls.{null_said}
use Rattle.mux_tables.specs.declared.tables.Tables.{Tables}
use Rattle.mux_tables.specs.Stands.{Keeps, Stands, is_traced}
use Rattle.mux_tables.proofs.Frames.{itself}
use Rattle.mux_tables.specs.mux_waits.specs.Stands.{AnswersId}

-- an error makes nobody answered
pub error_told : (p : Phase) (i : List ℕ) (id : Option Id) (x : Json) → phase_told p i (error id x) ≡ p
error_told Absent i id x = refl
error_told New i id x = refl
error_told Waiting i id x = refl
error_told Answered i id x = refl
error_told Running i id x = refl
error_told Down i id x = refl
error_told Closed i id x = refl
error_told Gone i id x = refl

-- nor does a result one that doesn't wait
result_told : (p : Phase) (i : List ℕ) (id : Option Id) (x : Json) → (p ≡ Waiting → ⊥) → phase_told p i (result id x) ≡ p
result_told Waiting i id x h = absurd (h refl)
result_told Absent i id x h = refl
result_told New i id x h = refl
result_told Answered i id x h = refl
result_told Running i id x h = refl
result_told Down i id x h = refl
result_told Closed i id x h = refl
result_told Gone i id x h = refl

pub notice_told : (p : Phase) (i method : List ℕ) (ps : Option Json) → phase_told p i (notification method ps) ≡ p
notice_told Waiting i method ps = refl
notice_told Absent i method ps = refl
notice_told New i method ps = refl
notice_told Answered i method ps = refl
notice_told Running i method ps = refl
notice_told Down i method ps = refl
notice_told Closed i method ps = refl
notice_told Gone i method ps = refl

module _ (e : ℕ) (text : List ℕ) (events : List Event) where
  told : (m : Message) → message_of text ≡ m → ((p : Phase) (i : List ℕ) → p ≡ (desk_of e events).phase → phase_told p i m ≡ p) → (desk_of e (events ++ said (ToEditor e text) ∷ [])).phase ≡ (desk_of e events).phase
  told m says keeps = ap (λ (d : Desk). d.phase) (one_more (desk_behind e) _ _ events (said (ToEditor e text)) refl) ∙ rw (itself e, says) (keeps (desk_of e events).phase (desk_of e events).initialize refl)

  pub keeps_error : (id : Option Id) (x : Json) → message_of text ≡ error id x → Keeps e text events
  keeps_error id x says = (told (error id x) says (λ p i h. error_told p i id x), ap is_traced says)

  -- nor a notification that publishes no diagnostics
  pub keeps_notice : (method : List ℕ) (ps : Option Json) → is_publishing method ≡ false → message_of text ≡ notification method ps → Keeps e text events
  keeps_notice method ps plain says = (told (notification method ps) says (λ p i h. notice_told p i method ps), ap is_traced says ∙ plain)

  pub keeps_result : (id : Option Id) (x : Json) → message_of text ≡ result id x → ((desk_of e events).phase ≡ Waiting → ⊥) → Keeps e text events
  keeps_result id x says stays = (told (result id x) says (λ p i h. result_told p i id x (λ q. stays (sym h ∙ q))), ap is_traced says)

  -- a result for another request than the `initialize` of an editor that waits
  pub keeps_reply : (id : Id) (x : Json) → message_of text ≡ result (Some id) x → ((desk_of e events).phase ≡ Waiting → has_id id (message_of (desk_of e events).initialize) ≡ false) → Keeps e text events
  keeps_reply id x says others = (ap (λ (d : Desk). d.phase) (one_more (desk_behind e) _ _ events (said (ToEditor e text)) refl) ∙ rw (itself e, says) (reply_told (desk_of e events).phase (desk_of e events).initialize id x others), ap is_traced says)

-- a text in place of one that it is
module _ (settings : Settings) (base : List Event) (t u : Tables) (xs ys : List Out) (e : ℕ) (text : List ℕ) where
  pub told_as : (other : List ℕ) → text ≡ other → Does (λ t events. Stands settings t events) (send (ToEditor e text)) base t xs u ys → Does (λ t events. Stands settings t events) (send (ToEditor e other)) base t xs u ys
  told_as other is d = subst (λ w. Does (λ t events. Stands settings t events) (send (ToEditor e w)) base t xs u ys) is d

-- an error under a request's id, and one under a null id
pub refused_says : (text body id method : List ℕ) (name : Id) (params : Option Json) (c : Code) → text ≡ error_text id c → id ≡ id_bytes body → message_of body ≡ request name method params → message_of text ≡ error (Some name) (error_tree c)
refused_says text body id method name params c is own says = ap message_of (is ∙ ap (λ w. error_text w c) own) ∙ error_law (Some name) (id_bytes body) c (id_as_response name (id_bytes body) (request_id_bytes body name method params says))

-- a body that answers a request answers under the id that it came with
pub answers_own : (text body own method : List ℕ) (name : Id) (params : Option Json) → own ≡ id_bytes body → message_of body ≡ request name method params → answered_id (message_of text) ≡ Some name → AnswersId own text
answers_own text body own method name params is says answers = record { name = name; is = subst (λ w. IsIdText name w) (sym is) (request_id_bytes body name method params says); says = answers }

-- the result null
abbrev pub null_tree : Json
null_tree = word (record { from = 0; to = 0 }) Null

pub null_says : (body : List ℕ) (id : Id) (method : List ℕ) (params : Option Json) → message_of body ≡ request id method params → message_of (ok_text (id_bytes body) (codes "null")) ≡ result (Some id) null_tree
null_says body id method params says = null_said body id method params says

pub malformed_says : (text : List ℕ) (c : Code) → text ≡ error_text (codes "null") c → message_of text ≡ error None (error_tree c)
malformed_says text c is = ap message_of is ∙ error_law None (codes "null") c null_as_response

-- a row that is chosen
module _ {K : Type 0} {Stands : K → List Event → Type 0} {base : List Event} {t u : K} {xs ys : List Out} where
  pub chosen : {p q : Row} {a b : Bool} → b ≡ a → b ≡ true → Does Stands p base t xs u ys → Does Stands (choose a p q) base t xs u ys
  chosen {p} {q} e h d = subst (λ c. Does Stands (choose c p q) base t xs u ys) (sym h ∙ e) (does_true d)

  pub unchosen : {p q : Row} {a b : Bool} → b ≡ a → b ≡ false → Does Stands q base t xs u ys → Does Stands (choose a p q) base t xs u ys
  unchosen {p} {q} e h d = subst (λ c. Does Stands (choose c p q) base t xs u ys) (sym h ∙ e) (does_false d)
