use Rattle.std.proofs.Common.{◌∙◌, ap, sym, filter, length, not, arith}
use Rattle.std.specs.Map.{values_of}
use Rattle.numbered_rows.proofs.Numbering.{less_first, less_shorter, others_all, others_less}
use Rattle.held_requests.specs.Tables.{is_of}
use Rattle.held_requests.proofs.rows.Rows.take_all.Goals as goal

pub loop-number-smaller-in-Some : goal.loop-number-smaller-in-Some
loop-number-smaller-in-Some c =
    let left = ap values_of c.take-request.ensures.rows ∙ less_first (is_of c.args.editor) 0 c.loop-number.self.next c.loop-number.self.rows c.in-Some.number c.in-Some.ensures.rise (sym c.in-Some.ensures.first) in
    let shorter = less_shorter (is_of c.args.editor) c.loop-number.self.rows c.in-Some.number (sym c.in-Some.ensures.first) in
    let same = ap length left in
    omega (arith, same, shorter)

pub loop-number-preserved-in-Some : goal.loop-number-preserved-in-Some
loop-number-preserved-in-Some c =
    ap (filter (λ r. not (is_of c.args.editor r))) (ap values_of c.take-request.ensures.rows ∙ less_first (is_of c.args.editor) 0 c.loop-number.self.next c.loop-number.self.rows c.in-Some.number c.in-Some.ensures.rise (sym c.in-Some.ensures.first))
    ∙ (others_less (is_of c.args.editor) (values_of c.loop-number.self.rows) ∙ c.loop-number.invariant)

pub loop-number-smaller : goal.loop-number-smaller
loop-number-smaller c =
    let left = ap values_of c.take-request.ensures.rows ∙ less_first (is_of c.args.editor) 0 c.loop-number.self.next c.loop-number.self.rows c.in-Some.number c.in-Some.ensures.rise (sym c.in-Some.ensures.first) in
    let shorter = less_shorter (is_of c.args.editor) c.loop-number.self.rows c.in-Some.number (sym c.in-Some.ensures.first) in
    let same = ap length left in
    omega (arith, same, shorter)

pub loop-number-preserved : goal.loop-number-preserved
loop-number-preserved c =
    ap (filter (λ r. not (is_of c.args.editor r))) (ap values_of c.take-request.ensures.rows ∙ less_first (is_of c.args.editor) 0 c.loop-number.self.next c.loop-number.self.rows c.in-Some.number c.in-Some.ensures.rise (sym c.in-Some.ensures.first))
    ∙ (others_less (is_of c.args.editor) (values_of c.loop-number.self.rows) ∙ c.loop-number.invariant)

pub returns : goal.returns
returns c = sym (others_all (is_of c.args.editor) c.loop-number.self.rows (sym c.in_default.ensures.first)) ∙ c.loop-number.invariant
