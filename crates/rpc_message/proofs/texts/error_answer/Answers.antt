use Rattle.std.proofs.Common.{◌≡◌, IfOk, sym, ap₂, ◌∙◌, subst, w32}
use Rattle.std.specs.Int.RustNames.{FitsSigned}
use Rattle.std.proofs.lemmas.Int.{to_z-of_z}
use Rattle.rpc_message.specs.Codes.{code_of}
use Rattle.rpc_message.specs.Texts.{error_reply_text, error_text}
use Rattle.rpc_message.proofs.Fixed.{number_fits, reply_same}
use Rattle.rpc_message.proofs.texts.error_answer.Goals as goal

pub returns : goal.returns
returns c =
    let same : error_reply_text c.args.id.now _ c.message.result.now ≡ error_text c.args.id.now (code_of c.args.code)
    = ap₂ (λ n m. error_reply_text c.args.id.now n m) (to_z-of_z w32 c.number.result (subst (FitsSigned w32) (sym c.number.ensures) (number_fits (code_of c.args.code))) ∙ c.number.ensures) c.message.ensures ∙ reply_same c.args.id.now (code_of c.args.code) in
    subst (λ t. IfOk c.error_reply.result (λ body. body ≡ t)) same c.error_reply.ensures
