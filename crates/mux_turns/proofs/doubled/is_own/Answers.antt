-- The id of an editor's `initialize`.
use Rattle.std.proofs.Common.{subst, sym, arith}
use Rattle.rpc_message.specs.ValueTexts.{IsIdText}
use Rattle.mux_turns.proofs.Asked.{own_here, own_nowhere, own_past}
use Rattle.mux_turns.proofs.doubled.is_own.Goals as goal

pub returns-then-e-count : goal.returns-then-e-count
returns-then-e-count c = λ settings before i known st text waits. own_past settings c.args.tables.now before c.args.e i known st waits (omega (arith, c.count.ensures, c.if-e-count.true))

pub returns-in-Some : goal.returns-in-Some
returns-in-Some c = λ settings before i known st text waits. own_here settings c.args.tables.now before c.args.e i known st waits c.in-Some.own.now c.same_id.result (sym c.in-Some.ensures) (λ j own. c.same_id.ensures.ids i j text (subst (λ w. IsIdText j w) (sym c.bytes.ensures) own))

pub returns-in-None : goal.returns-in-None
returns-in-None c = λ settings before i known st text waits. own_nowhere settings c.args.tables.now before c.args.e i known st waits (sym c.in-None.ensures)
