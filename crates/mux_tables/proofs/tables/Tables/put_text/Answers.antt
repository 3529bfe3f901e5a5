-- An editor is asked alone, which is kept.
use Rattle.std.proofs.Common.{ap, length, refl, subst, sym, ◌++◌, ◌∷◌, [], ◌∙◌}
use Rattle.std.proofs.lemmas.List.{length-set}
use Rattle.ask_route.specs.Tables.{asked}
use Rattle.event_model.specs.Event.{behind}
use Rattle.rpc_message.specs.Message.{id_bytes}
use Rattle.mux_tables.specs.declared.tables.Start.{Start}
use Rattle.mux_tables.specs.Puts.{IsAtWork}
use Rattle.mux_tables.proofs.Putting.{put_documents, put_does, unasked_documents, untaken_does}
use Rattle.mux_tables.proofs.Starts.{read_here, read_same, stages_stay, starts_stay}
use Rattle.mux_tables.proofs.tables.Tables.put_text.Goals as goal

pub returns-in_default-clause-count : goal.returns-in_default-clause-count
returns-in_default-clause-count c = ap length c.ask_number.ensures.kept ∙ length-set c.args.self.now.editors c.args.e _

pub returns-in_default-clause-does : goal.returns-in_default-clause-does
returns-in_default-clause-does c = λ settings base body method id params x at ready read creates runs next work. untaken_does settings c.args.self.now c.args.self.now base c.args.outs.now c.args.g c.args.e x c.args.text method (id_bytes body) id params c.requires.editor runs next _ c.args.outs.now c.in_default.ensures.number

pub returns-in_default-clause-documents : goal.returns-in_default-clause-documents
returns-in_default-clause-documents c = λ settings owed base ds. unasked_documents settings owed c.args.self.now _ (behind base c.args.outs.now) refl refl refl ds

pub returns-clause-count : goal.returns-clause-count
returns-clause-count c = ap length c.ask_number.ensures.kept ∙ length-set c.args.self.now.editors c.args.e _

pub returns-clause-starts : goal.returns-clause-starts
returns-clause-starts c = starts_stay c.args.self.now.lasts.items c.args.g c.index_mut-last.result.now (record c.index_mut-last.result.now { asks = c.ask.new.self }) c.requires.group c.index_mut-last.ensures.value refl

pub returns-clause-stages : goal.returns-clause-stages
returns-clause-stages c = stages_stay c.args.self.now.lasts.items c.args.g c.index_mut-last.result.now (record c.index_mut-last.result.now { asks = c.ask.new.self }) c.requires.group c.index_mut-last.ensures.value refl

pub returns-clause-does : goal.returns-clause-does
returns-clause-does c = λ settings base body method id params x at ready read creates runs next work.
    let t = c.args.self.now in
    let z = c.index_mut-last.result.now in
    let same = read_same t.lasts.items c.args.g z x c.requires.group c.index_mut-last.ensures.value at in
    let here = read_here t.lasts.items c.args.g z c.requires.group c.index_mut-last.ensures.value in
    put_does settings t _ base c.args.outs.now c.args.g c.args.e z c.args.text method (id_bytes body) id params c.requires.editor runs next c.in-Some.n c.ask.new.self c.ask_number.ensures.kept refl refl refl refl here
    (ap (λ (w : Start). w.life.stage) same ∙ ready) refl (c.in_ok-ask.ensures.ok ∙ ap (λ m. z.asks ++ asked c.args.e m c.in_ok-id.id ∷ []) c.from.ensures ∙ ap (λ w. z.asks ++ asked c.args.e c.in-Some.n w ∷ []) (c.in_ok-id.ensures body read))
    (subst (λ (w : Start). IsAtWork settings w.life.start id (id_bytes body) (behind base c.args.outs.now)) (sym same) work) creates c.push.new.self c.in-Some.ensures.number c.in_ok-push.ensures.ok

pub returns-clause-documents : goal.returns-clause-documents
returns-clause-documents c = λ settings owed base ds.
    let z = c.index_mut-last.result.now in
    put_documents settings owed c.args.self.now _ base c.args.outs.now c.push.new.self c.args.g c.args.e z c.ask.new.self c.args.text (read_here c.args.self.now.lasts.items c.args.g z c.requires.group c.index_mut-last.ensures.value) refl refl refl c.in_ok-push.ensures.ok ds
