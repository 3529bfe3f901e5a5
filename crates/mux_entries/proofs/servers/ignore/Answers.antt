-- A body that is no message.
use Rattle.std.proofs.Common.{◌≡◌, sym, ◌∙◌}
use Rattle.event_model.specs.Stages.{life_of}
use Rattle.event_model.proofs.Frames.{never}
use Rattle.rpc_message.specs.declared.sort.Malformed.TheVariants.{Memory}
use Rattle.rpc_message.specs.Message.{message_of}
use Rattle.mux_editors.proofs.Asides.{refused}
use Rattle.mux_entries.proofs.Said.{malformed_names, malformed_row, unanswered_error, unanswered_first, unanswered_named}
use Rattle.mux_entries.proofs.Questions.{malformed_asks}
use Rattle.mux_starts.proofs.Uncreated.{malformed_creates}
use Rattle.mux_starts.proofs.Unlisted.{malformed_unlisted}
use Rattle.mux_entries.proofs.servers.ignore.Goals as goal
use Rattle.mux_entries.proofs.servers.ignore.Goals.{in-Memory, in_default}

pub returns-clause-malformed : goal.returns-clause-malformed
returns-clause-malformed c = λ body refuses.
    let other : c.args.fault ≡ Memory → ⊥ = λ is. elim c.match-matches.branch [ in-Memory w ↦ never (sym w.matches-is ∙ c.if-matches.false) | in_default w ↦ w.in_default.not-Memory is ] in
    refused c.args.fault (message_of body) other refuses

pub returns-clause-does : goal.returns-clause-does
returns-clause-does c = λ settings before body s refuses at run st ds.
    let other : c.args.fault ≡ Memory → ⊥ = λ is. elim c.match-matches.branch [ in-Memory w ↦ never (sym w.matches-is ∙ c.if-matches.false) | in_default w ↦ w.in_default.not-Memory is ] in
    let m = message_of body in
    let malformed = refused c.args.fault m other refuses in
    let none = malformed_names m malformed in
    c.hear_quietly.ensures.does settings before body s (malformed_asks m malformed) (malformed_creates settings before s body malformed) (malformed_unlisted before s body malformed) (unanswered_first m none) (unanswered_error m none) (unanswered_named m none) (malformed_row settings s before body m (life_of s before).stage malformed) at run st ds
