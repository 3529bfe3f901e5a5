-- A request as it goes to a start.
use Rattle.std.proofs.Common.{[], ap, decimal, refl, subst, sym, ◌∙◌, ◌≡◌}
use Rattle.std.specs.Prelude.{IfOk, Some}
use Rattle.json_text.specs.Changes.{edits_of}
use Rattle.json_nodes.specs.At.{At, Found}
use Rattle.rpc_message.specs.Changed.{changed_text}
use Rattle.rpc_message.specs.Message.{message_of}
use Rattle.rpc_message.specs.Parsed.{params_in}
use Rattle.rpc_message.proofs.Alone.{alone_text}
use Rattle.rpc_message.proofs.PutLaws.{params_rise}
use Rattle.group_facts.specs.group_rows.specs.Tokens.{token_edits}
use Rattle.mux_turns.specs.Tokens.{tokens_for}
use Rattle.mux_turns.proofs.Marks.{found_none, found_some, params_tokens, tokens_given}
use Rattle.mux_turns.proofs.tokens.forwarded_text.Goals as goal

pub returns-in-None : goal.returns-in-None
returns-in-None c = λ body method id params read says.
    let n = c.args.n in
    let o = params_in (message_of body) read.tree in
    let none = found_none c.args.message.now.doc o (subst (λ k. Found c.args.message.now.doc o k) c.in-None.is (c.params.ensures.member body read)) in
    let edits = sym (ap (token_edits n) none) ∙ params_tokens n c.args.message.now body method id params read says in
    let digits = c.as_bytes-id.ensures.value ∙ c.format.ensures.text in
    subst (λ z. IfOk c.with_id.result (λ text. text ≡ z)) (sym (alone_text body c.as_bytes-id.result.now) ∙ (ap (λ w. changed_text body w []) digits ∙ ap (λ es. changed_text body (decimal n) es) edits)) (c.with_id.ensures body read)

pub with_changes-requires : goal.with_changes-requires
with_changes-requires c =
    let doc = c.args.message.now.doc in
    let read = c.bytes-body.ensures.read in
    let body = c.bytes-body.result.now in
    let o = params_in (message_of body) read.tree in
    let found = subst (λ k. Found doc o k) c.in-Some.is (c.params.ensures.member body read) in
    params_rise doc (message_of body) read.tree c.in-Some.node c.as_bytes-id.result.now (tokens_for c.named_token-work.result c.named_token-partial.result c.args.n) (edits_of c.in_ok-changes-in-Some.changes.items) read.holds found
    (λ p at. c.in_ok-changes-in-Some.ensures p (subst (λ d. At d c.in-Some.node p) (sym c.tape-tape.ensures) at))

pub returns-in_ok-changes-in-Some : goal.returns-in_ok-changes-in-Some
returns-in_ok-changes-in-Some c = λ body method id params read says.
    let n = c.args.n in
    let doc = c.args.message.now.doc in
    let o = params_in (message_of body) read.tree in
    let q = found_some doc o c.in-Some.node (subst (λ k. Found doc o k) c.in-Some.is (c.params.ensures.member body read)) in
    let at = subst (λ d. At d c.in-Some.node q.0) (sym c.tape-tape.ensures) q.2 in
    let given = tokens_given n c.named_token-work.result c.named_token-partial.result q.0 (c.named_token-work.ensures refl (Some q.0) at) (c.named_token-partial.ensures refl (Some q.0) at) in
    let edits = c.in_ok-changes-in-Some.ensures q.0 at ∙ (given ∙ (ap (token_edits n) (sym q.1) ∙ params_tokens n c.args.message.now body method id params read says)) in
    let digits = c.as_bytes-id.ensures.value ∙ c.format.ensures.text in
    subst (λ z. IfOk c.with_changes.result (λ text. text ≡ z)) (ap (λ w. changed_text body w (edits_of c.in_ok-changes-in-Some.changes.items)) digits ∙ ap (λ es. changed_text body (decimal n) es) edits) (c.with_changes.ensures body read)
