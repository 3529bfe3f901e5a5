-- A body with other bytes in some places, and as its id.
use Rattle.std.proofs.Common.{◌≡◌, ℕ, Bool, true, false, List, [], ◌∷◌, ◌++◌, Option, codes, if◌then◌else◌, sym, ◌∙◌, ap, append-nil}
use Rattle.json_text.specs.declared.change.Change.{Change}
use Rattle.json_text.specs.declared.span.Span.{Span}
use Rattle.json_text.specs.Changes.{edits_of}
use Rattle.json_text.specs.Replace.{Edit}
use Rattle.json_span.specs.json_nodes.proofs.Putting.{edits_push}
use Rattle.json_text.specs.Tree.{tree_of}
use Rattle.rpc_message.specs.Changed.{is_in_front, beside, id_edits_at, id_edits}
use Rattle.rpc_message.specs.Message.{place_in}

-- one change more

pub goes_first : (cs new : List Change) (c : Change) (b : Bool) → b ≡ is_in_front c.span (edits_of cs) → b ≡ true → new ≡ c ∷ cs → edits_of new ≡ beside (record { span = c.span; text = c.text }) (edits_of cs)
goes_first cs new c b e t is = ap edits_of is ∙ sym (ap (λ z. if z then record { span = c.span; text = c.text } ∷ edits_of cs else edits_of cs ++ record { span = c.span; text = c.text } ∷ []) (sym e ∙ t))

pub goes_last : (cs new : List Change) (c : Change) (b : Bool) → b ≡ is_in_front c.span (edits_of cs) → b ≡ false → new ≡ cs ++ c ∷ [] → edits_of new ≡ beside (record { span = c.span; text = c.text }) (edits_of cs)
goes_last cs new c b e f is = ap edits_of is ∙ sym (append-nil (edits_of (cs ++ c ∷ []))) ∙ edits_push cs c []
    ∙ sym (ap (λ z. if z then record { span = c.span; text = c.text } ∷ edits_of cs else edits_of cs ++ record { span = c.span; text = c.text } ∷ []) (sym e ∙ f))

-- the edits of a body that was read
pub made_edits : (body id : List ℕ) (es all : List Edit) (place : Option Span) → place ≡ place_in (codes "id") (tree_of body) → all ≡ id_edits_at id es place → all ≡ id_edits body id es
unfolding id_edits
made_edits body id es all place e h = h ∙ ap (id_edits_at id es) e
