-- A message under no id that is open.
use Rattle.std.proofs.Common.{◌≡◌, ◌&&◌, true, sym, ◌∙◌}
use Rattle.event_model.specs.Phases.{desk_of, is_there}
use Rattle.group_rows.specs.Rows.{asks_lspmux}
use Rattle.rpc_message.specs.Message.{message_of}
use Rattle.mux_starts.specs.mux_tables.specs.Documents.{AllStand}
use Rattle.mux_entries.proofs.EditorBuilt.{first_of, second_of}
use Rattle.mux_entries.proofs.EditorRows.{done_alike, read_well, told}
use Rattle.mux_entries.proofs.editors.from_single.Goals as goal

pub returns-in_ok-from_own-clause-does : goal.returns-in_ok-from_own-clause-does
returns-in_ok-from_own-clause-does c = λ settings before body read servers default first known settled fits single st ds.
    let e = c.args.e in
    let m = message_of body in
    let asks : (is_there (desk_of e before).phase && asks_lspmux m) ≡ true = sym (c.asks_own.ensures settings before body st read) ∙ c.if-asks_own.true in
    done_alike (λ k events. AllStand settings k events) (told settings before e body (read_well c.args.message.now body read) single asks)
    (c.in_ok-from_own.ensures.does settings before body read (second_of (is_there (desk_of e before).phase) (asks_lspmux m) asks) servers first known settled (first_of (is_there (desk_of e before).phase) (asks_lspmux m) asks) single st ds)

pub returns-in_ok-from_phase-clause-does : goal.returns-in_ok-from_phase-clause-does
returns-in_ok-from_phase-clause-does c = λ settings before body read servers default first known settled fits single st ds.
    c.in_ok-from_phase.ensures.does settings before body read servers default first known settled fits single (sym (c.asks_own.ensures settings before body st read) ∙ c.if-asks_own.false) st ds
