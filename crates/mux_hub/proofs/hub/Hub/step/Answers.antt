-- A step that answers Ok: the turn is the routing table's, and the hub stands for the longer history.
use Rattle.std.proofs.Common.{◌≡◌, ◌+◌, [], ◌∷◌, ◌++◌, nat_lt, if◌then◌else◌, Some, None, ap, sym, subst, ◌∙◌, true, false}
use Rattle.std.proofs.lemmas.Result.{err_from_is_err_and}
use Rattle.mux_facts.specs.Ranges.{InRange}
use Rattle.mux_hub.specs.Entries.{emits, entry_of, most_events, passes}
use Rattle.mux_hub.specs.Hubs.{HubView, HubStands}
use Rattle.mux_hub.proofs.Counts.{once_more}
use Rattle.mux_hub.proofs.HubLaw.{append_says, few_says, many_says, stepped}
use Rattle.mux_hub.proofs.hub.Hub.step.Goals as goal

pub returns-clause-outs : goal.returns-clause-outs
returns-clause-outs g c = λ history h.
    let s : c.args.self.now.spent ≡ false = ap (λ (v : HubView g.row.J.Denot). v.spent) (sym c.self.view_is) ∙ c.if-self.false in
    let f = c.requires.fits history h s in
    subst (λ (v : HubView g.row.J.Denot). HubStands g.J.Journal.told v history → c.in_ok-outs.outs ≡ emits v.settings history c.args.cause) c.self.view_is
    (λ k. (stepped g.J.Journal.told _ c.args.cause _ c.turn.new.tables c.turn.new.carries c.turn.new.debts c.turn.new.backlogs c.turn.new.starts.items _ _ history k c.if-self.false c.self.invariant.range f
    (λ settings before l e d. c.in_ok-outs.ensures.takes settings before l (e ∙ sym c.as_slice.ensures.value) d) c.in_ok-append.ensures.ok (sym c.in-Some.is ∙ (c.counted.ensures ∙ ap (λ n. if nat_lt most_events (c.self.inside.events + (1 + n)) then None else Some (c.self.inside.events + (1 + n))) c.len.ensures))).outs) h

pub returns-clause-stands : goal.returns-clause-stands
returns-clause-stands g c = λ history h.
    let s : c.args.self.now.spent ≡ false = ap (λ (v : HubView g.row.J.Denot). v.spent) (sym c.self.view_is) ∙ c.if-self.false in
    let f = c.requires.fits history h s in
    let after : HubView g.row.J.Denot = record {
      settings = record { limits = c.self.inside.limits; servers = c.self.inside.servers.items; default = c.self.inside.default };
      tables = c.turn.new.tables;
      carries = c.turn.new.carries;
      debts = c.turn.new.debts;
      backlogs = c.turn.new.backlogs;
      starts = c.turn.new.starts.items;
      events = c.in-Some.events;
      spent = false;
      journal = c.append.new.self;
    } in
    subst (λ (v : HubView g.row.J.Denot). HubStands g.J.Journal.told v history → HubStands g.J.Journal.told after (history ++ entry_of v.settings history c.args.cause ∷ [])) c.self.view_is
    (λ k. (stepped g.J.Journal.told _ c.args.cause _ c.turn.new.tables c.turn.new.carries c.turn.new.debts c.turn.new.backlogs c.turn.new.starts.items _ _ history k c.if-self.false c.self.invariant.range f
    (λ settings before l e d. c.in_ok-outs.ensures.takes settings before l (e ∙ sym c.as_slice.ensures.value) d) c.in_ok-append.ensures.ok (sym c.in-Some.is ∙ (c.counted.ensures ∙ ap (λ n. if nat_lt most_events (c.self.inside.events + (1 + n)) then None else Some (c.self.inside.events + (1 + n))) c.len.ensures))).stands) h

pub returns-clause-numbers : goal.returns-clause-numbers
returns-clause-numbers g c = λ history h fresh.
    let s : c.args.self.now.spent ≡ false = ap (λ (v : HubView g.row.J.Denot). v.spent) (sym c.self.view_is) ∙ c.if-self.false in
    let f = c.requires.fits history h s in
    subst (λ (v : HubView g.row.J.Denot). HubStands g.J.Journal.told v history → passes v.settings history c.args.cause ≡ false) c.self.view_is
    (λ k. few_says g.J.Journal.told _ c.args.cause c.in_ok-outs.outs c.turn.new.tables c.turn.new.carries c.turn.new.debts c.turn.new.backlogs c.turn.new.starts.items history k c.if-self.false c.self.invariant.range f
    (λ settings before l e d. c.in_ok-outs.ensures.takes settings before l (e ∙ sym c.as_slice.ensures.value) d) c.in-Some.events (sym c.in-Some.is ∙ (c.counted.ensures ∙ ap (λ n. if nat_lt most_events (c.self.inside.events + (1 + n)) then None else Some (c.self.inside.events + (1 + n))) c.len.ensures))) h

pub returns-in_default-clause-numbers : goal.returns-in_default-clause-numbers
returns-in_default-clause-numbers g c = λ history h fresh.
    let s : c.args.self.now.spent ≡ false = ap (λ (v : HubView g.row.J.Denot). v.spent) (sym c.self.view_is) ∙ c.if-self.false in
    let f = c.requires.fits history h s in
    subst (λ (v : HubView g.row.J.Denot). HubStands g.J.Journal.told v history → passes v.settings history c.args.cause ≡ true) c.self.view_is
    (λ k. many_says g.J.Journal.told _ c.args.cause c.in_ok-outs.outs c.turn.new.tables c.turn.new.carries c.turn.new.debts c.turn.new.backlogs c.turn.new.starts.items history k c.if-self.false c.self.invariant.range f
    (λ settings before l e d. c.in_ok-outs.ensures.takes settings before l (e ∙ sym c.as_slice.ensures.value) d) (sym c.in_default.is ∙ (c.counted.ensures ∙ ap (λ n. if nat_lt most_events (c.self.inside.events + (1 + n)) then None else Some (c.self.inside.events + (1 + n))) c.len.ensures))) h

pub returns-in_err-append-clause-numbers : goal.returns-in_err-append-clause-numbers
returns-in_err-append-clause-numbers g c = λ history h fresh.
    let s : c.args.self.now.spent ≡ false = ap (λ (v : HubView g.row.J.Denot). v.spent) (sym c.self.view_is) ∙ c.if-self.false in
    let f = c.requires.fits history h s in
    let few : passes c.args.self.now.settings history c.args.cause ≡ false =
    subst (λ (v : HubView g.row.J.Denot). HubStands g.J.Journal.told v history → passes v.settings history c.args.cause ≡ false) c.self.view_is
    (λ k. few_says g.J.Journal.told _ c.args.cause c.in_ok-outs.outs c.turn.new.tables c.turn.new.carries c.turn.new.debts c.turn.new.backlogs c.turn.new.starts.items history k c.if-self.false c.self.invariant.range f
    (λ settings before l e d. c.in_ok-outs.ensures.takes settings before l (e ∙ sym c.as_slice.ensures.value) d) c.in-Some.events (sym c.in-Some.is ∙ (c.counted.ensures ∙ ap (λ n. if nat_lt most_events (c.self.inside.events + (1 + n)) then None else Some (c.self.inside.events + (1 + n))) c.len.ensures))) h in
    let p = err_from_is_err_and c.from_residual-in_err-append.result c.from_residual-in_err-append.ensures.1 in
    rw p.1 (append_says (passes c.args.self.now.settings history c.args.cause) _ _ p.2 few)

pub returns-in_default-clause-complete : goal.returns-in_default-clause-complete
returns-in_default-clause-complete g c = λ history h fresh room quiet.
    let many : passes c.args.self.now.settings history c.args.cause ≡ true = returns-in_default-clause-numbers g c history h fresh in absurd cc

pub returns-clause-once : goal.returns-clause-once
returns-clause-once g c = λ history s h.
    let fresh : c.args.self.now.spent ≡ false = ap (λ (v : HubView g.row.J.Denot). v.spent) (sym c.self.view_is) ∙ c.if-self.false in
    let range : InRange c.args.self.now.settings = subst (λ (v : HubView g.row.J.Denot). InRange v.settings) c.self.view_is c.self.invariant.range in
    once_more c.args.self.now.settings range history c.args.cause c.in_ok-outs.outs h.legal (c.requires.fits history h fresh) (returns-clause-outs g c history h) s
