use Rattle.std.proofs.Common.{◌∙◌, sym, subst}
use Rattle.std.proofs.lemmas.Result.{IfOk-weaker}
use Rattle.json_text.specs.Json.{span_of}
use Rattle.json_nodes.specs.At.{At}
use Rattle.json_nodes.specs.Doc.{Doc}
use Rattle.diagnostics_route.proofs.Says.{null_version, number_version, other_version}
use Rattle.diagnostics_route.proofs.reading.version_at.Goals as goal

pub returns-in-Null : goal.returns-in-Null
returns-in-Null c = λ t a. null_version t (sym (c.kind.ensures t a) ∙ c.in-Null.is)

pub returns-in-Number : goal.returns-in-Number
returns-in-Number c = λ t a.
    IfOk-weaker c.digits_version.result _ _ (λ version h. h
    ∙ number_version t (span_of t).from c.bytes.result.now (sym (c.kind.ensures t a) ∙ c.in-Number.is) (c.bytes.ensures.spelled t (subst (λ (d : Doc). At d c.args.node t) (sym c.values.ensures.same) a)))
    c.digits_version.ensures

pub returns-in-False : goal.returns-in-False
returns-in-False c = λ t a. other_version t c.kind.result (c.kind.ensures t a) c.in-False.is
