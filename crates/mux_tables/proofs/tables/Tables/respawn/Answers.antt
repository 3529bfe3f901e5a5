-- A start for a group that has one already.
use Rattle.std.proofs.Common.{refl, ap, sym, ◌∙◌, false, rules}
use Rattle.std.specs.Prelude.{None}
use Rattle.event_model.proofs.Places.{item_at}
use Rattle.mux_tables.specs.declared.tables.Start.{Start}
use Rattle.mux_tables.proofs.Spawned.{respawn_gives}
use Rattle.mux_tables.proofs.DocumentSpawned.{respawn_gives_documents}
use Rattle.mux_tables.proofs.Starts.{read_same}
use Rattle.mux_tables.proofs.tables.Tables.respawn.Goals as goal

pub returns-clause-does : goal.returns-clause-does
returns-clause-does c = λ settings base x here.
    let mine = ap (λ (w : Start). w.life.group) (sym (read_same c.args.self.now.lasts.items c.args.g c.index.result.now x c.requires.group c.index.ensures here)) ∙ sym c.group-group.ensures in
    respawn_gives settings c.args.self.now _ c.args.outs.now c.push-2.new.self base c.len-s.result c.group-group.result c.args.g x (record { life = c.new-life.result; started = false; ids = c.new-ids.result; shown = None; asks = c.new-asks.result; parked = c.new-parked.result; live = c.new-live.result; lists = c.new-lists.result }) (search rules) here mine (c.requires.ended x here) refl refl refl c.in_ok-push.ensures.items refl refl refl refl refl
    c.new-life.ensures refl c.new-ids.ensures.requests c.new-ids.ensures.next c.new-ids.ensures.limit c.new-ids.ensures.order refl c.new-asks.ensures c.new-parked.ensures c.new-live.ensures c.new-lists.ensures c.in_ok-push-2.ensures.ok

pub returns-clause-documents : goal.returns-clause-documents
returns-clause-documents c = λ settings owed base st ds.
    let x = item_at c.args.self.now.lasts.items c.args.g c.requires.group in
    let mine = ap (λ (w : Start). w.life.group) (sym (read_same c.args.self.now.lasts.items c.args.g c.index.result.now x.0 c.requires.group c.index.ensures x.1)) ∙ sym c.group-group.ensures in
    respawn_gives_documents settings owed c.args.self.now _ base c.args.outs.now c.push-2.new.self c.len-s.result c.group-group.result c.args.g x.0 (record { life = c.new-life.result; started = false; ids = c.new-ids.result; shown = None; asks = c.new-asks.result; parked = c.new-parked.result; live = c.new-live.result; lists = c.new-lists.result }) (search rules) c.new-life.ensures refl x.1 mine (c.requires.ended x.0 x.1) refl c.new-ids.ensures.requests refl c.in_ok-push-2.ensures.ok st ds
