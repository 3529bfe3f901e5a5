-- The code of an answer to a request that isn't taken.
use Rattle.std.proofs.Common.{ap, sym, ◌∙◌, if◌then◌else◌}
use Rattle.rpc_message.specs.Codes.{code_of}
use Rattle.rpc_message.specs.Texts.{method_not_found}
use Rattle.mux_turns.proofs.refusals.wrong_code.Goals as goal

pub returns-then-is_dollar : goal.returns-then-is_dollar
returns-then-is_dollar c = λ body method id params read says. ap (λ b. if b then method_not_found else code_of c.args.otherwise) (sym c.if-is_dollar.true ∙ c.is_dollar.ensures body method id params read says)

pub returns-else-is_dollar : goal.returns-else-is_dollar
returns-else-is_dollar c = λ body method id params read says. ap (λ b. if b then method_not_found else code_of c.args.otherwise) (sym c.if-is_dollar.false ∙ c.is_dollar.ensures body method id params read says)
