-- What waits is asked.
use Rattle.std.proofs.Common.{length, refl, ap, ◌∙◌}
use Rattle.restart_replay.specs.Standings.{Standing}
use Rattle.mux_tables.specs.Resumes.{Resuming}
use Rattle.mux_tables.proofs.DocumentResumed.{as_long, life_kept, rest_kept, rests_stay, resumed_documents}
use Rattle.mux_tables.proofs.Resuming.{resumed_by}
use Rattle.mux_tables.proofs.Starts.{read_here, read_same, stages_stay, starts_stay}
use Rattle.mux_tables.proofs.tables.Tables.resume.Goals as goal

pub returns-clause-count : goal.returns-clause-count
returns-clause-count c = ap (λ (w : Resuming). length w.editors) c.in_ok-resume_all.ensures ∙ as_long c.args.e _ c.in_ok-waiting.waiting.items

pub returns-clause-starts : goal.returns-clause-starts
returns-clause-starts c = starts_stay c.args.self.now.lasts.items c.args.g c.index_mut-last.result.now c.resume_all.new.last c.requires.group c.index_mut-last.ensures.value
    (ap (λ (l : Standing). l.start) (life_kept c.args.e c.args.self.now.editors c.resume_all.new.editors c.index_mut-last.result.now c.resume_all.new.last c.take_parked.new.self c.in_ok-waiting.waiting.items c.args.outs.now c.resume_all.new.outs c.in_ok-resume_all.ensures))

pub returns-clause-stages : goal.returns-clause-stages
returns-clause-stages c = stages_stay c.args.self.now.lasts.items c.args.g c.index_mut-last.result.now c.resume_all.new.last c.requires.group c.index_mut-last.ensures.value
    (ap (λ (l : Standing). l.stage) (life_kept c.args.e c.args.self.now.editors c.resume_all.new.editors c.index_mut-last.result.now c.resume_all.new.last c.take_parked.new.self c.in_ok-waiting.waiting.items c.args.outs.now c.resume_all.new.outs c.in_ok-resume_all.ensures))

pub returns-clause-rest : goal.returns-clause-rest
returns-clause-rest c = rests_stay c.args.self.now.lasts.items c.args.g c.index_mut-last.result.now c.resume_all.new.last c.requires.group c.index_mut-last.ensures.value
    (rest_kept c.args.e c.args.self.now.editors c.resume_all.new.editors c.index_mut-last.result.now c.resume_all.new.last c.take_parked.new.self c.in_ok-waiting.waiting.items c.args.outs.now c.resume_all.new.outs c.in_ok-resume_all.ensures)

pub returns-clause-does : goal.returns-clause-does
returns-clause-does c = λ settings base x at ready running home works.
    let z = c.index_mut-last.result.now in
    resumed_by settings c.args.self.now _ base c.args.g c.args.e x z c.resume_all.new.last c.take_parked.new.self c.in_ok-waiting.waiting.items c.args.outs.now c.resume_all.new.outs (read_same c.args.self.now.lasts.items c.args.g z x c.requires.group c.index_mut-last.ensures.value at) at ready
    c.in_ok-waiting.ensures.left c.in_ok-waiting.ensures.asks c.in_ok-resume_all.ensures refl refl refl refl refl c.requires.editor running home works

pub returns-clause-documents : goal.returns-clause-documents
returns-clause-documents c = λ settings owed base ds.
    let z = c.index_mut-last.result.now in
    resumed_documents settings owed c.args.self.now _ base c.args.g c.args.e z c.resume_all.new.last c.take_parked.new.self c.in_ok-waiting.waiting.items c.args.outs.now c.resume_all.new.outs (read_here c.args.self.now.lasts.items c.args.g z c.requires.group c.index_mut-last.ensures.value)
    c.in_ok-resume_all.ensures refl refl refl ds
