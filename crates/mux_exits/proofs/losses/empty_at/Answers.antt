-- The list of a number is to be empty.
use Rattle.std.proofs.Common.{◌++◌, append-nil, ap, sym, ◌∙◌}
use Rattle.std.specs.Prelude.{slice_get}
use Rattle.group_rows.specs.ExitRows.{is_full}
use Rattle.group_rows.specs.Lists.{lists_of}
use Rattle.mux_exits.specs.declared.losses.Loss.TheVariants.{Emptied}
use Rattle.mux_exits.specs.Losses.{emptied_at}
use Rattle.mux_exits.proofs.Gathering.{emptied_off, emptied_on, one_inside}
use Rattle.mux_exits.proofs.losses.empty_at.Goals as goal

pub returns-in_default-clause-lost : goal.returns-in_default-clause-lost
returns-in_default-clause-lost c = λ settings before x here ready runs st.
    let xs = c.args.losses.now.items in
    let none = sym (c.in_default.ensures settings before x here ready st) in
    sym (append-nil xs) ∙ ap (λ ws. xs ++ ws) (sym (ap (emptied_at before c.args.e) none))

pub returns-then-not-is_full-clause-lost : goal.returns-then-not-is_full-clause-lost
returns-then-not-is_full-clause-lost c = λ settings before x here ready runs st.
    let e = c.args.e in
    let l = c.in-Some.list.now in
    let found = sym (c.in-Some.ensures settings before x here ready st) in
    emptied_off before e l (slice_get (lists_of x.life.start before) c.args.n) c.args.losses.now.items found (sym (c.is_full.ensures settings before runs st ∙ ap (λ u. is_full e u before) c.bytes.ensures) ∙ c.if-not-is_full.true)

pub returns-clause-inside : goal.returns-clause-inside
returns-clause-inside c = λ m less h. one_inside m (Emptied c.args.e c.in_ok-uri.uri) c.args.losses.now.items c.push.new.self.items c.in_ok-push.ensures.items less h

pub returns-clause-lost : goal.returns-clause-lost
returns-clause-lost c = λ settings before x here ready runs st.
    let e = c.args.e in
    let l = c.in-Some.list.now in
    let found = sym (c.in-Some.ensures settings before x here ready st) in
    emptied_on before e l c.in_ok-uri.uri (slice_get (lists_of x.life.start before) c.args.n) c.args.losses.now.items c.push.new.self.items found (sym (c.is_full.ensures settings before runs st ∙ ap (λ u. is_full e u before) c.bytes.ensures) ∙ c.if-not-is_full.false) c.in_ok-uri.ensures c.in_ok-push.ensures.items
