-- The code for a request that comes too early.
use Rattle.std.proofs.Common.{ap, codes, if◌then◌else◌, sym, ◌∙◌}
use Rattle.event_model.specs.Event.{requests}
use Rattle.group_facts.specs.group_rows.specs.Rows.{wrong_code}
use Rattle.rpc_message.specs.Texts.{invalid_request, server_not_initialized}
use Rattle.mux_turns.proofs.refusals.early_code.Goals as goal

pub returns-then-is_initialize : goal.returns-then-is_initialize
returns-then-is_initialize c = λ body method id params read says.
    ap (λ b. if b then invalid_request else wrong_code method server_not_initialized) (sym c.if-is_initialize.true ∙ (c.is_initialize.ensures body read ∙ ap (requests (codes "initialize")) says))

pub returns-else-is_initialize : goal.returns-else-is_initialize
returns-else-is_initialize c = λ body method id params read says.
    c.wrong_code.ensures body method id params read says ∙ ap (λ b. if b then invalid_request else wrong_code method server_not_initialized) (sym c.if-is_initialize.false ∙ (c.is_initialize.ensures body read ∙ ap (requests (codes "initialize")) says))
