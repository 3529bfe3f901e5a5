use Rattle.text_pieces.proofs.Summed.{sums_append}
use Rattle.text_pieces.proofs.sums.Sums.before.Goals as goal

pub returns : goal.returns
returns c = λ a b s r. sums_append a b c.args.self c.args.behind c.in_ok-length.length c.in_ok-total.total c.in_ok-weighted.weighted c.in_ok-shift.shift c.in_ok-moved.moved s r
    c.in_ok-length.ensures.1 c.in_ok-total.ensures.1 c.in_ok-shift.ensures.1 c.in_ok-moved.ensures.1 c.in_ok-weighted.ensures.1
