-- `initialize` is refused.
use Rattle.std.proofs.Common.{refl, ap, ◌∙◌}
use Rattle.group_table.specs.Tables.{with_groups}
use Rattle.group_words.specs.Placing.{changed, ended}
use Rattle.mux_tables.specs.declared.tables.Start.{Start}
use Rattle.mux_tables.proofs.Starts.{read_here, read_same, stages_stay, starts_stay}
use Rattle.mux_tables.proofs.Served.{refusal_moves}
use Rattle.mux_tables.proofs.DocumentHeard.{answer_documents, error_only, initializing_runs}
use Rattle.event_model.specs.Stages.{is_initializing}
use Rattle.rpc_message.specs.Message.{message_of}
use Rattle.mux_tables.proofs.tables.Tables.hear_refusal.Goals as goal

pub returns-clause-starts : goal.returns-clause-starts
returns-clause-starts c = starts_stay c.args.self.now.lasts.items c.args.g c.index_mut-last.result.now (record c.index_mut-last.result.now { ids = c.forget.new.ids }) c.requires.group c.index_mut-last.ensures.value refl

pub returns-clause-stages : goal.returns-clause-stages
returns-clause-stages c = stages_stay c.args.self.now.lasts.items c.args.g c.index_mut-last.result.now (record c.index_mut-last.result.now { ids = c.forget.new.ids }) c.requires.group c.index_mut-last.ensures.value refl

pub returns-clause-stands : goal.returns-clause-stands
returns-clause-stands c = λ settings events s body at first named st.
    refusal_moves settings c.args.self.now _ events c.args.g s c.index_mut-last.result.now body c.args.n c.forget.new.ids at c.requires.group c.index_mut-last.ensures.value (c.requires.stage c.index_mut-last.result.now (read_here c.args.self.now.lasts.items c.args.g c.index_mut-last.result.now c.requires.group c.index_mut-last.ensures.value)) first named
    c.forget.ensures.requests c.forget.ensures.next c.forget.ensures.limit c.forget.ensures.order refl refl (c.end.ensures ∙ ap (λ n. with_groups (changed n ended c.args.self.now.groups.groups) c.args.self.now.groups) (c.group-group.ensures ∙ ap (λ (w : Start). w.life.group) (read_same c.args.self.now.lasts.items c.args.g c.index.result.now c.index_mut-last.result.now c.requires.group c.index.ensures (read_here c.args.self.now.lasts.items c.args.g c.index_mut-last.result.now c.requires.group c.index_mut-last.ensures.value)))) refl refl refl st

pub returns-clause-documents : goal.returns-clause-documents
returns-clause-documents c = λ settings owed events s body at first st ds.
    let z = c.index_mut-last.result.now in
    let stage = c.requires.stage z (read_here c.args.self.now.lasts.items c.args.g z c.requires.group c.index_mut-last.ensures.value) in
    answer_documents settings owed c.args.self.now _ events c.args.g s z (record z { ids = c.forget.new.ids }) body (message_of body) c.args.n at c.requires.group c.index_mut-last.ensures.value (error_only (message_of body) first (is_initializing z.life.stage)) (initializing_runs z.life.stage stage) refl c.forget.ensures.requests refl refl refl st ds
