-- What a kind says.
use Rattle.std.proofs.Common.{ap, bytes_eq, sym, ◌∙◌}
use Rattle.mux_turns.proofs.KindTexts.{begin_kind, end_kind}
use Rattle.mux_turns.proofs.creates.kind_named.Goals as goal

pub returns-then-eq : goal.returns-then-eq
returns-then-eq c =
    let k = begin_kind c.args.cs.now (sym (c.eq.ensures ∙ ap (bytes_eq c.args.cs.now) c.as_bytes.ensures.value) ∙ c.if-eq.true) in
    record { begin = k.0; end = k.1 }

pub returns-then-eq-2 : goal.returns-then-eq-2
returns-then-eq-2 c =
    let k = end_kind c.args.cs.now (sym (c.eq-else-eq.ensures ∙ ap (bytes_eq c.args.cs.now) c.as_bytes-else-eq.ensures.value) ∙ c.if-eq-2.true) in
    record { begin = k.0; end = k.1 }
