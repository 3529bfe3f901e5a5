-- What the class and the sort of a message of an editor say of it.
use Rattle.std.proofs.Common.{◌≡◌, ℕ, Bool, true, false, not, ◌&&◌, ◌||◌, List, refl, ap, sym, ◌∙◌, ◌⊎◌, inl, inr, codes, bytes_eq, arith}
use Rattle.std.specs.Prelude.{Option, Some}
use Rattle.json_text.specs.Json.{Json}
use Rattle.lsp_method.specs.Class.{class_of, editor_request, own_request}
use Rattle.lsp_method.specs.declared.variants.Class.{Class}
use Rattle.lsp_method.specs.declared.variants.Class.TheVariants as class
use Rattle.lsp_method.specs.declared.variants.Origin.TheVariants.{Editor}
use Rattle.mux_model.specs.Built.{is_other}
use Rattle.mux_model.specs.Methods.{is_wrong}
use Rattle.rpc_message.specs.declared.sort.Sort.TheVariants as sort
use Rattle.rpc_message.specs.Message.{Message, Id, request, notification, result, error, not_json, not_message}
use Rattle.rpc_message.specs.Sorts.{sort_of}
use Rattle.document_model.specs.Sayings.{saying_of, speaks}
use Rattle.event_model.specs.declared.phase.Phase.{Phase}
use Rattle.event_model.specs.declared.phase.Phase.TheVariants.{Absent, New, Waiting, Answered, Running, Down, Closed, Gone}
use Rattle.event_model.specs.Event.{Event, requests}
use Rattle.event_model.specs.Phases.{desk_of, is_begun, is_served, is_there, needs_server}
use Rattle.mux_starts.specs.group_facts.specs.Built.{is_standard}
use Rattle.mux_starts.specs.group_facts.specs.Facts.{is_early}
use Rattle.group_rows.specs.Rows.{asks_lspmux, names_lspmux}
use Rattle.group_words.specs.Houses.{is_doubled, stops}
use Rattle.group_rows.specs.Waiting.{is_misplaced}
use Rattle.mux_starts.specs.mux_tables.specs.Documents.{changes_documents}
use Rattle.mux_editors.proofs.Classes.{first_named, is_initialize, swapped}

pub second_of : (a b : Bool) → (a && b) ≡ true → b ≡ true
second_of true b h = h
second_of false b h = absurd (cc)

pub first_of : (a b : Bool) → (a && b) ≡ true → a ≡ true
first_of true b h = refl
first_of false b h = absurd (cc)

and_off : (a : Bool) → (a && false) ≡ false
and_off true = refl
and_off false = refl

not_so : (a : Bool) → not a ≡ true → a ≡ false
not_so false h = refl
not_so true h = absurd (cc)

-- a message that isn't the multiplexer's own stops nothing
last_off : (a b c : Bool) → (a || (b || c)) ≡ false → c ≡ false
last_off a b false h = refl
last_off true b true h = absurd (cc)
last_off false true true h = absurd (cc)
last_off false false true h = absurd (cc)

pub unasked_goes : (before : List Event) (e : ℕ) (m : Message) → asks_lspmux m ≡ false → stops before e m ≡ false
unasked_goes before e (request id method params) none = ap (λ b. b && (is_there (desk_of e before).phase && not (is_begun (desk_of e before).phase && is_doubled before e (request id method params))))
    (last_off (bytes_eq (codes "lspmux/open") method) (bytes_eq (codes "lspmux/status") method) (bytes_eq (codes "lspmux/stop") method) none)
unasked_goes before e other none = refl

-- a request that isn't the multiplexer's own is one of the standard
standard_named : (m : List ℕ) → bytes_eq m (codes "lspmux/open") ≡ false → bytes_eq m (codes "lspmux/status") ≡ false → bytes_eq m (codes "lspmux/stop") ≡ false → is_standard (class_of m Editor false) ≡ true
unfolding editor_request own_request
standard_named m a b c = grind arith

none_of : (a b c : Bool) → (a || (b || c)) ≡ false → (a ≡ false) × ((b ≡ false) × (c ≡ false))
none_of false false false h = (refl, (refl, refl))
none_of true b c h = absurd (cc)
none_of false true c h = absurd (cc)
none_of false false true h = absurd (cc)

pub standard_asks : (method : List ℕ) → names_lspmux method ≡ false → is_standard (class_of method Editor false) ≡ true
standard_asks method none =
    let k = none_of (bytes_eq (codes "lspmux/open") method) (bytes_eq (codes "lspmux/status") method) (bytes_eq (codes "lspmux/stop") method) none in
    standard_named method (swapped (codes "lspmux/open") method k.0) (swapped (codes "lspmux/status") method k.1.0) (swapped (codes "lspmux/stop") method k.1.1)

-- a request of an editor that is there, which isn't the multiplexer's own
pub unasked_there : (p : Phase) (m : Message) → is_there p ≡ true → (is_there p && asks_lspmux m) ≡ false → asks_lspmux m ≡ false
unasked_there p m there none = ap (λ b. b && asks_lspmux m) (sym there) ∙ none

pub unasked_when : (p : Phase) (m : Message) (id : Id) (method : List ℕ) (params : Option Json) → m ≡ request id method params → is_there p ≡ true → (is_there p && asks_lspmux m) ≡ false → names_lspmux method ≡ false
unasked_when p m id method params says there none = ap (λ k. asks_lspmux k) (sym says) ∙ unasked_there p m there none

pub served_there : (p : Phase) → is_served p ≡ true → is_there p ≡ true
served_there Answered h = refl
served_there Running h = refl
served_there Absent h = absurd (cc)
served_there New h = absurd (cc)
served_there Waiting h = absurd (cc)
served_there Down h = absurd (cc)
served_there Closed h = absurd (cc)
served_there Gone h = absurd (cc)

-- one that is served has begun, so where its message is under no open id of one that has, it is under none
pub single_served : (p : Phase) (doubled : Bool) → is_served p ≡ true → (is_begun p && doubled) ≡ false → doubled ≡ false
single_served Answered doubled h single = single
single_served Running doubled h single = single
single_served Absent doubled h single = absurd (cc)
single_served New doubled h single = absurd (cc)
single_served Waiting doubled h single = absurd (cc)
single_served Down doubled h single = absurd (cc)
single_served Closed doubled h single = absurd (cc)
single_served Gone doubled h single = absurd (cc)

-- such a request is refused by its method, is `shutdown`, or goes on
pub other_class : (k : Class) → is_standard k ≡ true → (k ≡ class.Initialize → ⊥) → (k ≡ class.Wrong → ⊥) → (k ≡ class.Shutdown → ⊥) → is_other k ≡ true
other_class class.Other h i w s = refl
other_class class.Initialize h i w s = absurd (i refl)
other_class class.Wrong h i w s = absurd (w refl)
other_class class.Shutdown h i w s = absurd (s refl)
other_class k h i w s = absurd (cc)

or_later : (a b : Bool) → b ≡ true → (a || b) ≡ true
or_later true b h = refl
or_later false b h = h

pub misplaced_class : (method : List ℕ) (k : Class) → k ≡ class_of method Editor false → (k ≡ class.Wrong) ⊎ (k ≡ class.Initialize) → is_misplaced method ≡ true
misplaced_class method k is (inl wrong) = or_later (bytes_eq (codes "initialize") method) (is_wrong (class_of method Editor false)) (ap is_wrong (sym is ∙ wrong))
misplaced_class method k is (inr first) = ap (λ b. b || is_wrong (class_of method Editor false)) (first_named method (ap is_initialize (sym is ∙ first)))

pub other_right : (k : Class) → is_other k ≡ true → is_wrong k ≡ false
other_right class.Other h = refl
other_right k h = absurd (cc)

pub served_needs : (p : Phase) → is_served p ≡ true → needs_server p ≡ true
served_needs Answered h = refl
served_needs Running h = refl
served_needs Absent h = absurd (cc)
served_needs New h = absurd (cc)
served_needs Waiting h = absurd (cc)
served_needs Down h = absurd (cc)
served_needs Closed h = absurd (cc)
served_needs Gone h = absurd (cc)

-- what changes no document
pub unserved_keeps : (before : List Event) (e : ℕ) (m : Message) → is_served (desk_of e before).phase ≡ false → changes_documents before e m ≡ false
unserved_keeps before e m h = ap (λ b. b && (requests (codes "shutdown") m || speaks (saying_of m))) h

pub early_unserved : (p : Phase) → is_early p ≡ true → is_served p ≡ false
early_unserved Absent h = refl
early_unserved New h = refl
early_unserved Waiting h = refl
early_unserved Answered h = absurd (cc)
early_unserved Running h = absurd (cc)
early_unserved Down h = absurd (cc)
early_unserved Closed h = absurd (cc)
early_unserved Gone h = absurd (cc)

pub answer_keeps : (before : List Event) (e : ℕ) (m : Message) → (sort_of m ≡ Some sort.Request → ⊥) → (sort_of m ≡ Some sort.Notification → ⊥) → changes_documents before e m ≡ false
answer_keeps before e (request id method params) h k = absurd (h refl)
answer_keeps before e (notification method params) h k = absurd (k refl)
answer_keeps before e (result id r) h k = and_off (is_served (desk_of e before).phase)
answer_keeps before e (error id r) h k = and_off (is_served (desk_of e before).phase)
answer_keeps before e not_json h k = and_off (is_served (desk_of e before).phase)
answer_keeps before e not_message h k = and_off (is_served (desk_of e before).phase)
