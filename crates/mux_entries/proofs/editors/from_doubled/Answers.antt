-- A request under an id that is open.
use Rattle.std.proofs.Common.{◌≡◌, ◌&&◌, false, ap, sym, ◌∙◌}
use Rattle.event_model.specs.Phases.{desk_of, is_begun}
use Rattle.group_rows.specs.Rows.{asks_lspmux, names_lspmux}
use Rattle.group_words.specs.Houses.{is_doubled}
use Rattle.rpc_message.specs.Message.{message_of}
use Rattle.mux_starts.specs.mux_tables.specs.Documents.{AllStand}
use Rattle.mux_entries.proofs.EditorBuilt.{standard_asks}
use Rattle.mux_entries.proofs.EditorRows.{asks_doubled, closes, done_alike, read_well}
use Rattle.mux_entries.proofs.editors.from_doubled.Goals as goal

pub returns-in_ok-take_doubled_own-clause-does : goal.returns-in_ok-take_doubled_own-clause-does
returns-in_ok-take_doubled_own-clause-does c = λ settings before body read first twice settled st ds.
    let e = c.args.e in
    done_alike (λ k events. AllStand settings k events) (closes settings before e body (read_well c.args.message.now body read) twice)
    (c.in_ok-take_doubled_own.ensures.does settings before body (sym (c.asks_lspmux.ensures body read) ∙ c.if-asks_lspmux.true) twice first st ds)

pub returns-in_ok-take_doubled-clause-does : goal.returns-in_ok-take_doubled-clause-does
returns-in_ok-take_doubled-clause-does c = λ settings before body read first twice settled st ds.
    let e = c.args.e in
    let m = message_of body in
    let p = (desk_of e before).phase in
    let asks = asks_doubled before e (is_begun p) m twice in
    let none : names_lspmux asks.method ≡ false = ap asks_lspmux (sym asks.is) ∙ (sym (c.asks_lspmux.ensures body read) ∙ c.if-asks_lspmux.false) in
    let doubled = ap (λ x. is_begun p && is_doubled before e x) (sym asks.is) ∙ twice in
    let standard = standard_asks asks.method none in
    done_alike (λ k events. AllStand settings k events) (closes settings before e body (read_well c.args.message.now body read) twice)
    (c.in_ok-take_doubled.ensures.does settings before body asks.method asks.id asks.params read asks.is standard doubled first settled st ds)
