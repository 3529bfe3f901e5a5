-- It does.
use Rattle.std.proofs.Common.{◌≡◌, ◌<◌, [], drop, length, refl, subst}
use Rattle.std.specs.Prelude.{MatchOption}
use Rattle.event_model.specs.Event.{behind}
use Rattle.event_model.proofs.Places.{item_at}
use Rattle.group_rows.specs.Waiting.{waiting_of}
use Rattle.mux_tables.specs.mux_waits.specs.Rows.{Becomes, held_of}
use Rattle.mux_starts.specs.Held.{IsFirst}
use Rattle.mux_starts.proofs.Passing.{sends_one, shrinks}
use Rattle.mux_starts.proofs.held.send_next.Goals as goal

pub returns-in-None-clause-does : goal.returns-in-None-clause-does
returns-in-None-clause-does c = λ settings base s at idle room. λ st.
    let g = c.args.group in
    let now = behind base c.args.outs.now in
    let z = item_at c.args.tables.now.lasts.items c.args.g c.requires.group in
    (subst (λ o. MatchOption o (waiting_of settings g now ≡ []) (IsFirst settings g z.0.ids.next now)) c.in-None.is (c.in_ok-first.ensures.first settings now z.0 z.1 st), (refl, refl))

pub returns-in_ok-send_first-in-Some-clause-left : goal.returns-in_ok-send_first-in-Some-clause-left
returns-in_ok-send_first-in-Some-clause-left c =
    let g = c.args.group in
    let rows = c.args.tables.now.origins.waiting in
    let z = item_at c.args.tables.now.lasts.items c.args.g c.requires.group in
    let drops = subst (λ n. Becomes n (drop 1) rows c.send_first.new.self.origins.waiting) (c.requires.own z.0 z.1) (c.in_ok-send_first-in-Some.ensures.waiting z.0 z.1) in
    shrinks g rows c.send_first.new.self.origins.waiting drops (subst (λ o. MatchOption o (Unit {0}) (λ w. 0 < length (held_of g rows))) c.in-Some.is c.in_ok-first.ensures.kept)

pub returns-in_ok-send_first-in-Some-clause-does : goal.returns-in_ok-send_first-in-Some-clause-does
returns-in_ok-send_first-in-Some-clause-does c = λ settings base s at idle room. λ k.
    let g = c.args.group in
    let t = c.args.tables.now in
    let now = behind base c.args.outs.now in
    let z = item_at t.lasts.items c.args.g c.requires.group in
    let f = subst (λ o. MatchOption o (waiting_of settings g now ≡ []) (IsFirst settings g z.0.ids.next now)) c.in-Some.is (c.in_ok-first.ensures.first settings now z.0 z.1 k.0) in
    sends_one settings t base s c.args.g g z.0.ids.next z.0 f.request c.in-Some.sending c.args.outs.now z.1 at (c.requires.own z.0 z.1) (c.requires.ready z.0 z.1) refl (c.requires.left z.0 z.1) idle f.first f.sends k.0 k.1
    c.send_first.new.self c.send_first.new.outs (c.in_ok-send_first-in-Some.ensures.waiting z.0 z.1) room
    (λ name method ps says own none first mine sends. c.in_ok-send_first-in-Some.ensures.does settings base s name method ps f.request at says own none first mine sends z.0 z.1)
