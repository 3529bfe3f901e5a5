-- The token of the daemon that an editor names, at the last start of its group.
use Rattle.std.proofs.Common.{ap, refl, subst, sym, codes, ◌∙◌}
use Rattle.event_model.specs.Members.{named_of}
use Rattle.event_model.proofs.Places.{item_at}
use Rattle.event_model.proofs.Turns.{alike_then}
use Rattle.group_rows.specs.Tokens.{marked_text}
use Rattle.mux_tables.proofs.DocumentOwed.{number_there}
use Rattle.mux_tables.proofs.Lasts.{same_place}
use Rattle.mux_turns.specs.Creates.{CreatedAt}
use Rattle.mux_editors.proofs.CreatedWork.{dead_here, goes_here, unmarked_here, untaken_here}
use Rattle.mux_editors.proofs.Working.{unready_created}
use Rattle.mux_editors.proofs.worked.created_work.Goals as goal

pub returns-in_default-clause-goes : goal.returns-in_default-clause-goes
returns-in_default-clause-goes c = λ settings before body params read says st works.
    alike_then works (unready_created settings before c.args.e body params (λ s at. c.in_default.ensures.unready settings before s st at))

pub returns-in_default-2-clause-goes : goal.returns-in_default-2-clause-goes
returns-in_default-2-clause-goes c = λ settings before body params read says st works.
    let t = c.args.tables.now in
    let g = c.in-Some.group in
    let x = item_at t.lasts.items g c.in-Some.ensures.inside in
    let n = c.start_number.result in
    let own = same_place (sym c.start_number.ensures ∙ number_there t.lasts.items g x.0 x.1) in
    let ready = c.in-Some.ensures.ready x.0 x.1 in
    let home = c.in-Some.ensures.home settings before x.0 x.1 st in
    let cancel = codes "window/workDoneProgress/cancel" in
    let at = subst (CreatedAt n (named_of (codes "token") params)) c.in_default-2.is (c.in_ok-k.ensures body cancel params read says) in
    unmarked_here settings t before c.args.e body params g x.0 x.1 ready home st works n own at

pub returns-then-not-has_taken-clause-goes : goal.returns-then-not-has_taken-clause-goes
returns-then-not-has_taken-clause-goes c = λ settings before body params read says st works.
    let t = c.args.tables.now in
    let g = c.in-Some.group in
    let x = item_at t.lasts.items g c.in-Some.ensures.inside in
    let n = c.start_number.result in
    let own = same_place (sym c.start_number.ensures ∙ number_there t.lasts.items g x.0 x.1) in
    let ready = c.in-Some.ensures.ready x.0 x.1 in
    let home = c.in-Some.ensures.home settings before x.0 x.1 st in
    let cancel = codes "window/workDoneProgress/cancel" in
    let at = subst (CreatedAt n (named_of (codes "token") params)) c.in-Some-2.is (c.in_ok-k.ensures body cancel params read says) in
    untaken_here settings t before c.args.e body params g x.0 x.1 ready home st works n own c.in-Some-2.k at (sym (c.has_taken.ensures settings before x.0 x.1 st) ∙ c.if-not-has_taken.true)

pub returns-in-None-clause-goes : goal.returns-in-None-clause-goes
returns-in-None-clause-goes c = λ settings before body params read says st works.
    let t = c.args.tables.now in
    let g = c.in-Some.group in
    let x = item_at t.lasts.items g c.in-Some.ensures.inside in
    let n = c.start_number.result in
    let own = same_place (sym c.start_number.ensures ∙ number_there t.lasts.items g x.0 x.1) in
    let ready = c.in-Some.ensures.ready x.0 x.1 in
    let home = c.in-Some.ensures.home settings before x.0 x.1 st in
    let cancel = codes "window/workDoneProgress/cancel" in
    let at = subst (CreatedAt n (named_of (codes "token") params)) c.in-Some-2.is (c.in_ok-k.ensures body cancel params read says) in
    dead_here settings t before c.args.e body params g x.0 x.1 ready home st works n own c.in-Some-2.k at (c.in-None.ensures settings before x.0 x.1 st)

pub returns-in_ok-text-in-Some-created_text-clause-goes : goal.returns-in_ok-text-in-Some-created_text-clause-goes
returns-in_ok-text-in-Some-created_text-clause-goes c = λ settings before body params read says st works.
    let t = c.args.tables.now in
    let g = c.in-Some.group in
    let x = item_at t.lasts.items g c.in-Some.ensures.inside in
    let n = c.start_number.result in
    let own = same_place (sym c.start_number.ensures ∙ number_there t.lasts.items g x.0 x.1) in
    let ready = c.in-Some.ensures.ready x.0 x.1 in
    let home = c.in-Some.ensures.home settings before x.0 x.1 st in
    let cancel = codes "window/workDoneProgress/cancel" in
    let at = subst (CreatedAt n (named_of (codes "token") params)) c.in-Some-2.is (c.in_ok-k.ensures body cancel params read says) in
    let text = c.in-Some-created_text.token.now in
    goes_here settings t before c.args.e body params g x.0 x.1 ready home st works n own c.in-Some-2.k at says text (record { group = g; text = c.in_ok-text-in-Some-created_text.text })
    (sym (c.has_taken.ensures settings before x.0 x.1 st) ∙ c.if-not-has_taken.false) (c.in-Some-created_text.ensures settings before x.0 x.1 st) refl
    (c.in_ok-text-in-Some-created_text.ensures body cancel params read says ∙ ap (λ w. marked_text w body) c.bytes.ensures)
