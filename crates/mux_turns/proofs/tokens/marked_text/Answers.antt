-- A notification with another token.
use Rattle.std.proofs.Common.{ap, subst, sym, ◌∙◌, ◌≡◌}
use Rattle.std.specs.Prelude.{IfOk}
use Rattle.json_text.specs.Changes.{edits_of}
use Rattle.json_text.specs.Replace.{replace}
use Rattle.json_nodes.specs.At.{Found}
use Rattle.rpc_message.specs.Message.{message_of}
use Rattle.rpc_message.specs.Parsed.{params_in}
use Rattle.mux_turns.proofs.Marks.{params_marks}
use Rattle.mux_turns.proofs.tokens.marked_text.Goals as goal

pub returns : goal.returns
returns c = λ body method params read says.
    let o = params_in (message_of body) read.tree in
    let found = subst (λ d. Found d o c.params.result) (sym c.tape.ensures) (c.params.ensures.member body read) in
    let edits = ap edits_of c.deref.ensures.value ∙ c.in_ok-changes.ensures.edits o found ∙ params_marks c.args.message.now body method params read c.args.text.now says in
    subst (λ es. IfOk c.with_cuts.result (λ text. text ≡ replace body es)) edits (c.with_cuts.ensures body read)
