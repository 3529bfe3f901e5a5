-- A didChange that was read.
use Rattle.std.proofs.Common.{◌≡◌, ℕ, List, ap, sym, subst, ◌∙◌}
use Rattle.std.specs.Prelude.{IfOk, Result, Ok, Err}
use Rattle.json_text.specs.Json.{Json}
use Rattle.json_text.specs.Tree.{tree_of}
use Rattle.json_nodes.specs.At.{At}
use Rattle.json_nodes.proofs.Numbers.{root_at}
use Rattle.mux_history.specs.declared.out.Out.{Out}
use Rattle.rpc_message.specs.Message.{message_of}
use Rattle.rpc_message.specs.Parsed.{IsRead, Parsed}
use Rattle.rpc_message.proofs.Reading.{held_tree}
use Rattle.document_model.specs.Sayings.{Saying, opens, changes, closes, misshapen, nothing, saying_of}
use Rattle.focus_switch.specs.Documents.{Documents}
use Rattle.focus_switch.specs.Rows.{Step, change_row}
use Rattle.group_laws.specs.Steps.{changed_by, document_step}
use Rattle.group_laws.specs.mux_members.specs.declared.notice.Notice.{Notice}
use Rattle.group_laws.specs.mux_members.specs.declared.notice.Notice.TheVariants.{Changes}
use Rattle.group_laws.specs.mux_members.specs.Notices.{Says}

abbrev made : List Out → Documents → Step
made outs after = record { outs = outs; after = after }

changes_by : (e : ℕ) (d : Documents) (body : List ℕ) (doc : Parsed) (read : IsRead doc body) (outs : List Out) (after : Documents) → made outs after ≡ change_row e doc.doc.bytes read.tree d → (x : Saying) → Says Changes x → made outs after ≡ document_step e body x d
changes_by e d body doc read outs after is (changes u v cs) says =
    is ∙ (ap (λ bytes. change_row e bytes read.tree d) read.bytes_are ∙ sym (ap (λ o. changed_by e body o d) (ap tree_of (sym read.bytes_are) ∙ held_tree doc.doc read.tree read.holds)))
changes_by e d body doc read outs after is (opens u l v w) says = absurd says
changes_by e d body doc read outs after is (closes u) says = absurd says
changes_by e d body doc read outs after is misshapen says = absurd says
changes_by e d body doc read outs after is nothing says = absurd says

pub changes_given : {E : Type 0} (e : ℕ) (d : Documents) (notice : Notice) (body : List ℕ) (doc : Parsed) (result : Result (List Out) E) (after : Documents) → IsRead doc body → Says notice (saying_of (message_of body)) → notice ≡ Changes
    → ((j : Json) → At doc.doc 0 j → IfOk result (λ outs. made outs after ≡ change_row e doc.doc.bytes j d))
    → IfOk result (λ outs. made outs after ≡ document_step e body (saying_of (message_of body)) d)
changes_given e d notice body doc (Ok outs) after read says is f = changes_by e d body doc read outs after (f read.tree (root_at doc.doc read.tree read.holds)) (saying_of (message_of body)) (subst (λ n. Says n (saying_of (message_of body))) is says)
changes_given e d notice body doc (Err x) after read says is f = tt
