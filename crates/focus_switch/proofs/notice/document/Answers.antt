use Rattle.std.proofs.Common.{sym, subst, codes}
use Rattle.std.specs.Option.{option_and_then}
use Rattle.json_text.specs.Named.{named_in}
use Rattle.json_nodes.specs.At.{At, Found}
use Rattle.focus_switch.proofs.Noticed.{params_chars, document_chars}
use Rattle.focus_switch.proofs.notice.document.Goals as goal

pub returns-clause-params : goal.returns-clause-params
returns-clause-params c = λ t a. subst (λ n. Found c.args.tape.now (named_in n t) c.member-params.result) params_chars (c.member-params.ensures.member t (subst (λ k. At c.args.tape.now k t) (sym c.root.ensures.first) a))

pub returns-clause-document : goal.returns-clause-document
returns-clause-document c = λ t a.
    let params : Found c.args.tape.now (named_in (codes "params") t) c.member-params.result = subst (λ n. Found c.args.tape.now (named_in n t) c.member-params.result) params_chars (c.member-params.ensures.member t (subst (λ k. At c.args.tape.now k t) (sym c.root.ensures.first) a)) in
    subst (λ n. Found c.args.tape.now (option_and_then (named_in n) (named_in (codes "params") t)) c.maybe_member.result) document_chars (c.maybe_member.ensures.member (named_in (codes "params") t) params)
