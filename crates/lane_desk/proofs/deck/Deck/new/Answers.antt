use Rattle.std.proofs.Common.{rules, ◌≡◌, ◌∙◌, ◌+◌, ◌<◌, ◌^◌, ap₂, arith, length}
use Rattle.lane_lists.specs.Deeds.{start}
use Rattle.lane_desk.specs.Desks.{TooMany}
use Rattle.lane_desk.proofs.Decks.{kept_new}
use Rattle.lane_desk.proofs.deck.Deck.new.Goals as goal

pub invariant_of-desk : goal.invariant_of-desk
invariant_of-desk g c =
    let few : g.N.Naming.editors + g.N.Naming.servers < 2 ^ 63 = search rules in
    let count : length c.args.ends.items ≡ g.N.Naming.editors + g.N.Naming.servers + 1 = c.requires.count ∙ ap₂ (λ n m. n + m + 1) c.requires.editors c.requires.servers in (
      kept_new g.K.Steps.stands (TooMany g.K.Steps.stands g.K.Steps.allows g.K.Steps.passes) g.N.Naming.editors g.N.Naming.servers c.args.core c.args.ends.items c.in-Ok.seats c.requires.core c.requires.unused (c.in-Ok.ensures ∙ ap₂ start c.requires.editors c.requires.servers),
      c.requires.queues,
      record { later = (let e = c.requires.before in omega arith); journal = λ e. absurd cc; over = λ f e. absurd cc },
      c.requires.editors,
      c.requires.servers,
      few,
      count,
      (λ e. c.requires.ready),
    )
