-- The daemon's tokens in the place of those that a request has.
use Rattle.std.proofs.Common.{ap, ap₂, codes, subst, sym, ◌+◌, ◌*◌, ◌∙◌, ◌≡◌}
use Rattle.std.specs.Prelude.{IfOk}
use Rattle.std.specs.Str.{chars}
use Rattle.json_text.specs.Changes.{edits_of}
use Rattle.json_nodes.specs.Puts.{put_edits}
use Rattle.group_facts.specs.group_rows.specs.Tokens.{mark_text}
use Rattle.mux_turns.specs.Tokens.{one_token, tokens_for, two_tokens}
use Rattle.mux_turns.proofs.Marks.{both_put, none_put, partial_put, work_put}
use Rattle.mux_turns.proofs.tokens.put_marks.Goals as goal

pub returns-in_ok-second : goal.returns-in_ok-second
returns-in_ok-second c = λ t at.
    let n = c.args.n in
    let first = c.deref.ensures.value ∙ (c.in_ok-first.ensures ∙ ap (λ m. mark_text (2 * m)) c.from-k.ensures) in
    let second = c.deref-then-partial.ensures.value ∙ (c.in_ok-second.ensures ∙ ap (λ m. mark_text (2 * m + 1)) c.from-k.ensures) in
    subst (λ es. IfOk c.put_both.result (λ changes. edits_of changes.items ≡ es))
    (ap₂ (λ w p. put_edits (two_tokens w p) t) first second ∙ (both_put n t ∙ ap₂ (λ a b. put_edits (tokens_for a b n) t) (sym c.if-work.true) (sym c.if-partial.true))) (c.put_both.ensures t at)

pub returns-else-partial : goal.returns-else-partial
returns-else-partial c = λ t at.
    let n = c.args.n in
    subst (λ es. IfOk c.put_one.result (λ changes. edits_of changes.items ≡ es))
    (ap (λ m. put_edits (one_token (chars (codes "workDoneToken")) (2 * m)) t) c.from-k.ensures ∙ (work_put n t ∙ ap₂ (λ a b. put_edits (tokens_for a b n) t) (sym c.if-work.true) (sym c.if-partial.false))) (c.put_one.ensures t at)

pub returns-then-partial-2 : goal.returns-then-partial-2
returns-then-partial-2 c = λ t at.
    let n = c.args.n in
    subst (λ es. IfOk c.put_one-then-partial-2.result (λ changes. edits_of changes.items ≡ es))
    (ap (λ m. put_edits (one_token (chars (codes "partialResultToken")) (2 * m + 1)) t) c.from-k.ensures ∙ (partial_put n t ∙ ap₂ (λ a b. put_edits (tokens_for a b n) t) (sym c.if-work.false) (sym c.if-partial-2.true))) (c.put_one-then-partial-2.ensures t at)

pub returns-else-partial-2 : goal.returns-else-partial-2
returns-else-partial-2 c = λ t at. ap edits_of c.new.ensures.items ∙ (none_put c.args.n t ∙ ap₂ (λ a b. put_edits (tokens_for a b c.args.n) t) (sym c.if-work.false) (sym c.if-partial-2.false))
