-- Each is told its list.
use Rattle.std.proofs.Common.{◌≡◌, [], ◌∷◌, ◌++◌, append-nil, append_assoc, length, ap, sym, subst, ◌∙◌, arith}
use Rattle.std.specs.List.{AllByRecursion}
use Rattle.std.specs.Vec.Iter.{into_iter_items}
use Rattle.event_model.specs.Does.{Does}
use Rattle.event_model.specs.Row.{each}
use Rattle.event_model.proofs.Turns.{does_more}
use Rattle.mux_starts.specs.Lists.{IsInside, IsListed, tell}
use Rattle.mux_starts.proofs.Listing.{none_left}
use Rattle.mux_tables.specs.Documents.{AllStand, nothing_owed}
use Rattle.mux_tables.proofs.DocumentOwed.{all_does}
use Rattle.mux_starts.proofs.lists.tell_each.Goals as goal

pub show-requires : goal.show-requires
show-requires c = (subst (AllByRecursion (IsInside (length c.loop-telling.tables.editors))) c.in-Some.ensures.steps.0 c.loop-telling.invariant.inside).0

pub loop-telling-preserved : goal.loop-telling-preserved
loop-telling-preserved c =
    let at = c.loop-telling in
    let x = c.in-Some.telling in
    let rest = into_iter_items c.next.new.self in
    let steps : into_iter_items at.telling-iterator ≡ x ∷ rest = c.in-Some.ensures.steps.0 in
    record {
      all = append_assoc at.yielded (x ∷ []) rest ∙ (ap (λ ws. at.yielded ++ ws) (sym steps) ∙ at.invariant.all);
      left =
          let was = at.invariant.left in
          let gone = c.in-Some.ensures.steps.1 in
          let short = ap length steps in
          omega arith;
      inside = subst (λ n. AllByRecursion (IsInside n) rest) (sym c.in_ok-show.ensures.count) (subst (AllByRecursion (IsInside (length at.tables.editors))) steps at.invariant.inside).1;
      requests = c.in_ok-show.ensures.requests ∙ at.invariant.requests;
      versions = c.in_ok-show.ensures.versions ∙ at.invariant.versions;
      does = λ settings base listed.
          let was = at.invariant.does settings base listed in
          let left = subst (AllByRecursion (IsListed c.args.uri.now c.args.empty)) steps was.1 in (
            does_more tell at.yielded x was.0 (all_does settings at.tables c.show.new.self nothing_owed nothing_owed base at.outs c.show.new.outs (c.in_ok-show.ensures.does settings base left.0) (λ _ d. c.in_ok-show.ensures.documents settings nothing_owed base d)),
            left.1,
          );
    }

pub returns-clause-does : goal.returns-clause-does
returns-clause-does c = λ settings base listed.
    let at = c.loop-telling in
    let none = c.in-None.ensures.steps in
    let empty : into_iter_items at.telling-iterator ≡ [] = none_left (into_iter_items at.telling-iterator) (sym at.invariant.left ∙ none.0) in
    let whole : at.yielded ≡ c.args.tellings.items = sym (append-nil at.yielded) ∙ (ap (λ ws. at.yielded ++ ws) (sym empty) ∙ at.invariant.all) in
    subst (λ ts. Does (λ k events. AllStand settings k events) (each tell ts) base (c.args.tables.now, nothing_owed) c.args.outs.now (at.tables, nothing_owed) at.outs) whole (at.invariant.does settings base listed).0
