-- S3 and S4: what a start that gave no result yet says besides.
use Rattle.std.proofs.Common.{◌≡◌, ℕ, Bool, true, false, ◌&&◌, List, map, refl, sym, subst, ◌∙◌, ap, codes, decimal, bytes_eq, if◌then◌else◌}
use Rattle.std.specs.Fmt.{digits}
use Rattle.std.specs.Prelude.{Option, Some, None, slice_get}
use Rattle.json_text.specs.Json.{Json}
use Rattle.document_model.specs.Sayings.{saying_of}
use Rattle.rpc_message.specs.declared.sort.Sort.{Sort}
use Rattle.rpc_message.specs.declared.sort.Sort.TheVariants as sort
use Rattle.rpc_message.specs.Message.{Message, Id, integer, text, id_bytes, message_of, request, notification, result, error, not_json, not_message}
use Rattle.rpc_message.specs.Sorts.{sort_of}
use Rattle.rpc_message.specs.Texts.{error_text, error_tree, invalid_request, ok_text}
use Rattle.event_model.specs.Event.{requests}
use Rattle.event_model.specs.Requests.{answered_id}
use Rattle.group_rows.specs.Forwarded.{moves_ids, names}
use Rattle.group_rows.specs.Rows.{hasty_answer}
use Rattle.group_rows.specs.Texts.{is_synced}
use Rattle.group_words.specs.Houses.{is_first_error}
use Rattle.mux_turns.specs.mux_facts.proofs.Bodies.{refusal_says}
use Rattle.event_model.specs.declared.stage.Stage.TheVariants.{Initializing}
use Rattle.event_model.specs.Stages.{is_first_result, is_ready}
use Rattle.mux_tables.specs.declared.tables.Start.{Start}
use Rattle.mux_tables.specs.declared.tables.Tables.{Tables}
use Rattle.mux_tables.specs.Stands.{NamesAt, stage_in}
use Rattle.mux_turns.proofs.Departing.{mapped_is, mapped_on}
use Rattle.mux_turns.proofs.Keeping.{null_says, null_tree}
use Rattle.mux_starts.proofs.Replies.{Quiet}

one_digit : decimal 1 ≡ codes "1"
unfolding digits
one_digit = refl

-- the first error is under the number 1
first_named : (m : Message) → sort_of m ≡ Some sort.Error → names (answered_id m) 1 ≡ is_first_error m
first_named (error (Some (integer n)) e) h = ap (bytes_eq n) one_digit
first_named (error (Some (text t)) e) h = refl
first_named (error None e) h = refl
first_named (request id method params) h = absurd (cc)
first_named (notification method params) h = absurd (cc)
first_named (result id r) h = absurd (cc)
first_named not_json h = absurd (cc)
first_named not_message h = absurd (cc)

pub first_error : (m : Message) (b : Bool) → sort_of m ≡ Some sort.Error → b ≡ names (answered_id m) 1 → b ≡ is_first_error m
first_error m b h k = k ∙ first_named m h

pub no_error : (m : Message) (x : Sort) → sort_of m ≡ Some x → (x ≡ sort.Error → ⊥) → false ≡ is_first_error m
no_error (error id e) x h other = absurd (other (cc))
no_error (request id method params) x h other = refl
no_error (notification method params) x h other = refl
no_error (result id r) x h other = refl
no_error not_json x h other = refl
no_error not_message x h other = refl

-- a response moves nothing
responds_quietly : (body : List ℕ) (id : Option Id) (r : Json) → message_of body ≡ result id r → Quiet body
responds_quietly body id r says = record { runs = ap (requests (codes "shutdown")) says; counts = ap moves_ids says; says = ap saying_of says; aside = ap is_synced says }

refuses_quietly : (body : List ℕ) (id : Option Id) (e : Json) → message_of body ≡ error id e → Quiet body
refuses_quietly body id e says = record { runs = ap (requests (codes "shutdown")) says; counts = ap moves_ids says; says = ap saying_of says; aside = ap is_synced says }

pub hasty_quiet : (words body method : List ℕ) (id : Id) (params : Option Json) → message_of body ≡ request id method params → words ≡ hasty_answer method body → Quiet words
hasty_quiet words body method id params says is = go (bytes_eq (codes "window/showMessageRequest") method) is
  where
    go : (b : Bool) → words ≡ (if b then ok_text (id_bytes body) (codes "null") else error_text (id_bytes body) invalid_request) → Quiet words
    go true k = responds_quietly words (Some id) null_tree (ap message_of k ∙ null_says body id method params says)
    go false k = refuses_quietly words (Some id) (error_tree invalid_request) (ap message_of k ∙ refusal_says body id method params invalid_request says)

-- which answer it is
pub message_answer : (method body : List ℕ) (id : Id) (params : Option Json) (m : Message) → m ≡ request id method params → requests (codes "window/showMessageRequest") m ≡ true → ok_text (id_bytes body) (codes "null") ≡ hasty_answer method body
message_answer method body id params m is h = ap (λ b. if b then ok_text (id_bytes body) (codes "null") else error_text (id_bytes body) invalid_request) (sym (ap (requests (codes "window/showMessageRequest")) (sym is) ∙ h))

pub other_answer : (method body : List ℕ) (id : Id) (params : Option Json) (m : Message) → m ≡ request id method params → requests (codes "window/showMessageRequest") m ≡ false → error_text (id_bytes body) invalid_request ≡ hasty_answer method body
other_answer method body id params m is h = ap (λ b. if b then ok_text (id_bytes body) (codes "null") else error_text (id_bytes body) invalid_request) (sym (ap (requests (codes "window/showMessageRequest")) (sym is) ∙ h))

-- a request answers nothing
module _ (m : Message) (id : Id) (method : List ℕ) (params : Option Json) (says : m ≡ request id method params) where
  pub asked_first : (b : Bool) → (is_first_result m && b) ≡ false
  asked_first b = ap (λ n. is_first_result n && b) says

  pub asked_error : (b : Bool) → (is_first_error m && b) ≡ false
  asked_error b = ap (λ n. is_first_error n && b) says

  pub asked_named : NamesAt (answered_id m) None
  asked_named = subst (λ n. NamesAt (answered_id n) None) (sym says) (λ n small. refl)

-- a start that heard it isn't ready
pub hasty_unready : (t u : Tables) (g : ℕ) (z w : Start) → slice_get t.lasts.items g ≡ Some z → slice_get u.lasts.items g ≡ Some w → map stage_in u.lasts.items ≡ map stage_in t.lasts.items → z.life.stage ≡ Initializing → is_ready w.life.stage ≡ false
hasty_unready t u g z w was here stages stage =
    ap is_ready (sym (mapped_is stage_in t.lasts.items g z w.life.stage was (ap (λ ks. slice_get ks g) (sym stages) ∙ mapped_on stage_in u.lasts.items g w here)) ∙ stage)

-- a notification answers none
pub noticed_named : (m : Message) (method : List ℕ) (params : Option Json) → m ≡ notification method params → NamesAt (answered_id m) None
noticed_named m method params says = subst (λ n. NamesAt (answered_id n) None) (sym says) (λ n small. refl)
