-- A start for a new group.
use Rattle.std.proofs.Common.{refl, false, rules, arith}
use Rattle.std.specs.Prelude.{None}
use Rattle.mux_tables.proofs.Spawned.{found_gives}
use Rattle.mux_tables.proofs.DocumentSpawned.{found_gives_documents}
use Rattle.mux_tables.proofs.tables.Tables.found.Goals as goal

pub returns-clause-does : goal.returns-clause-does
returns-clause-does c = λ settings base unfounded.
    found_gives settings c.args.self.now _ c.args.outs.now c.push-4.new.self base c.len-s.result c.args.g (record { life = c.new-life.result; started = false; ids = c.new-ids.result; shown = None; asks = c.new-asks.result; parked = c.new-parked.result; live = c.new-live.result; lists = c.new-lists.result }) (search rules) unfounded refl refl refl c.in_ok-push.ensures.items refl refl refl c.in_ok-push-3.ensures.items refl
    c.new-life.ensures refl c.new-ids.ensures.requests c.new-ids.ensures.next c.new-ids.ensures.limit c.new-ids.ensures.order refl c.new-asks.ensures c.new-parked.ensures c.new-live.ensures c.new-lists.ensures c.in_ok-push-4.ensures.ok

pub returns-clause-documents : goal.returns-clause-documents
returns-clause-documents c = λ settings owed base unfounded st ds.
    found_gives_documents settings owed c.args.self.now _ base c.args.outs.now c.push-4.new.self c.len-s.result c.args.g (record { life = c.new-life.result; started = false; ids = c.new-ids.result; shown = None; asks = c.new-asks.result; parked = c.new-parked.result; live = c.new-live.result; lists = c.new-lists.result }) c.new-documents.result (search rules) c.new-life.ensures refl (unfounded c.args.g (omega arith)) c.new-documents.ensures
    c.in_ok-push-3.ensures.items c.new-ids.ensures.requests c.in_ok-push-2.ensures.items c.in_ok-push-4.ensures.ok st ds
