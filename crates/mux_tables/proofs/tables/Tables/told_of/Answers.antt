-- What a start's token stands for.
use Rattle.std.proofs.Common.{◌≡◌, arith, ap, sym, subst, ◌∙◌}
use Rattle.std.specs.Prelude.{None, MatchOption, find}
use Rattle.event_model.proofs.Places.{item_at}
use Rattle.group_laws.specs.group_rows.specs.Forwarded.{forwarding_of}
use Rattle.group_laws.specs.group_rows.specs.Tokens.{is_told, listens}
use Rattle.mux_tables.specs.Tokens.{IsTold, MarksAt}
use Rattle.mux_tables.proofs.Marks.{away, past, told, unmarked, unopened, unowned}
use Rattle.mux_tables.proofs.Seen.{phase_inside, phase_past}
use Rattle.mux_tables.proofs.Starts.{read_here}
use Rattle.mux_tables.proofs.tables.Tables.told_of.Goals as goal

pub returns-in_err-k-clause-told : goal.returns-in_err-k-clause-told
returns-in_err-k-clause-told c = λ settings before s token at marks st.
    let x = item_at c.args.self.now.lasts.items c.args.g c.requires in
    subst (λ o. MatchOption o (find (is_told before token) (forwarding_of settings s before).open_requests ≡ None) (λ x. IsTold before token (forwarding_of settings s before).open_requests x.editor x.token.now)) (sym c.from_residual.ensures)
    (unmarked settings c.args.self.now before c.args.g s x.0 token at x.1 st (subst (λ o. MarksAt token o) c.in_err-k.was marks))

pub returns-in_err-n-clause-told : goal.returns-in_err-n-clause-told
returns-in_err-n-clause-told c = λ settings before s token at marks st.
    let x = item_at c.args.self.now.lasts.items c.args.g c.requires in
    subst (λ o. MatchOption o (find (is_told before token) (forwarding_of settings s before).open_requests ≡ None) (λ x. IsTold before token (forwarding_of settings s before).open_requests x.editor x.token.now)) (sym c.from_residual-in_err-n.ensures)
    (past settings c.args.self.now before c.args.g s x.0 token at x.1 st c.in_ok-k.k (subst (λ o. MarksAt token o) c.in_ok-k.was marks) c.in_err-n.ensures)

pub returns-in_err-pending-clause-told : goal.returns-in_err-pending-clause-told
returns-in_err-pending-clause-told c = λ settings before s token at marks st.
    let here = read_here c.args.self.now.lasts.items c.args.g c.index.result.now c.requires c.index.ensures in
    subst (λ o. MatchOption o (find (is_told before token) (forwarding_of settings s before).open_requests ≡ None) (λ x. IsTold before token (forwarding_of settings s before).open_requests x.editor x.token.now)) (sym c.from_residual-in_err-pending.ensures)
    (unopened settings c.args.self.now before c.args.g s c.index.result.now token at here st c.in_ok-k.k (subst (λ o. MarksAt token o) c.in_ok-k.was marks) c.in_ok-n.n c.in_ok-n.ensures c.in_err-pending.ensures.value)

pub returns-in_err-token-clause-told : goal.returns-in_err-token-clause-told
returns-in_err-token-clause-told c = λ settings before s token at marks st.
    let here = read_here c.args.self.now.lasts.items c.args.g c.index.result.now c.requires c.index.ensures in
    subst (λ o. MatchOption o (find (is_told before token) (forwarding_of settings s before).open_requests ≡ None) (λ x. IsTold before token (forwarding_of settings s before).open_requests x.editor x.token.now)) (sym c.from_residual-in_err-token.ensures)
    (unowned settings c.args.self.now before c.args.g s c.index.result.now token at here st c.in_ok-k.k (subst (λ o. MarksAt token o) c.in_ok-k.was marks) c.in_ok-n.n c.in_ok-pending.pending.now c.in_ok-n.ensures c.in_ok-pending.ensures.value c.in_err-token.ensures)

pub returns-then-editor-count-clause-told : goal.returns-then-editor-count-clause-told
returns-then-editor-count-clause-told c = λ settings before s token at marks st.
    let here = read_here c.args.self.now.lasts.items c.args.g c.index.result.now c.requires c.index.ensures in
    away settings c.args.self.now before c.args.g s c.index.result.now token at here st c.in_ok-k.k (subst (λ o. MarksAt token o) c.in_ok-k.was marks) c.in_ok-n.n c.in_ok-pending.pending.now c.in_ok-n.ensures c.in_ok-pending.ensures.value c.in_ok-token.token.now c.in_ok-token.ensures
    (ap listens (sym (phase_past settings c.args.self.now before c.in_ok-pending.pending.now.editor st (omega (arith, c.count.ensures)))))

pub returns-then-not-listens-clause-told : goal.returns-then-not-listens-clause-told
returns-then-not-listens-clause-told c = λ settings before s token at marks st.
    let here = read_here c.args.self.now.lasts.items c.args.g c.index.result.now c.requires c.index.ensures in
    away settings c.args.self.now before c.args.g s c.index.result.now token at here st c.in_ok-k.k (subst (λ o. MarksAt token o) c.in_ok-k.was marks) c.in_ok-n.n c.in_ok-pending.pending.now c.in_ok-n.ensures c.in_ok-pending.ensures.value c.in_ok-token.token.now c.in_ok-token.ensures
    (ap listens (sym (phase_inside settings c.args.self.now before c.in_ok-pending.pending.now.editor c.phase.result st (omega (arith, c.count.ensures)) c.phase.ensures.phase)) ∙ (sym c.listens.ensures ∙ grind (arith, c.if-not-listens.true)))

pub returns-clause-told : goal.returns-clause-told
returns-clause-told c = λ settings before s token at marks st.
    let here = read_here c.args.self.now.lasts.items c.args.g c.index.result.now c.requires c.index.ensures in
    told settings c.args.self.now before c.args.g s c.index.result.now token at here st c.in_ok-k.k (subst (λ o. MarksAt token o) c.in_ok-k.was marks) c.in_ok-n.n c.in_ok-pending.pending.now c.in_ok-n.ensures c.in_ok-pending.ensures.value c.in_ok-token.token.now c.in_ok-token.ensures
    (ap listens (sym (phase_inside settings c.args.self.now before c.in_ok-pending.pending.now.editor c.phase.result st (omega (arith, c.count.ensures)) c.phase.ensures.phase)) ∙ (sym c.listens.ensures ∙ grind (arith, c.if-not-listens.false)))
