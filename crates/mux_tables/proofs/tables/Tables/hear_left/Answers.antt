-- The program of a start whose group lives no more ended, or couldn't be run.
use Rattle.std.proofs.Common.{◌<◌, ◌∙◌, subst, sym}
use Rattle.event_model.proofs.Places.{item_at}
use Rattle.mux_tables.proofs.tables.Tables.hear_left.Goals as goal

pub returns-clause-exit : goal.returns-clause-exit
returns-clause-exit c = λ settings events s at dead st. let x = item_at c.end_last.new.self.lasts.items c.args.g (subst (λ n. c.args.g < n) (sym c.end_last.ensures.count) c.requires.group) in c.forget.ensures.stands settings _ x.0 x.1 (c.end_last.ensures.over x.0 x.1) (c.end_last.ensures.exit settings events s at dead st)

pub returns-clause-failure : goal.returns-clause-failure
returns-clause-failure c = λ settings events s at dead st. let x = item_at c.end_last.new.self.lasts.items c.args.g (subst (λ n. c.args.g < n) (sym c.end_last.ensures.count) c.requires.group) in c.forget.ensures.stands settings _ x.0 x.1 (c.end_last.ensures.over x.0 x.1) (c.end_last.ensures.failure settings events s at dead st)

pub returns-clause-exit_documents : goal.returns-clause-exit_documents
returns-clause-exit_documents c = λ settings owed events s ds dead. c.forget.ensures.documents settings owed _ (c.end_last.ensures.exit_documents settings owed events s ds dead)

pub returns-clause-failure_documents : goal.returns-clause-failure_documents
returns-clause-failure_documents c = λ settings owed events s ds dead. c.forget.ensures.documents settings owed _ (c.end_last.ensures.failure_documents settings owed events s ds dead)

pub returns-clause-fewer : goal.returns-clause-fewer
returns-clause-fewer c = c.forget.ensures.fewer ∙ c.end_last.ensures.count
