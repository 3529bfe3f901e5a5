-- The first messages of an editor.
use Rattle.std.proofs.Common.{◌≡◌, true, false, ap, codes, sym, ◌∙◌}
use Rattle.event_model.specs.Event.{requests}
use Rattle.event_model.specs.Phases.{desk_of, is_served, is_there}
use Rattle.mux_starts.specs.group_facts.specs.Facts.{is_early}
use Rattle.group_words.specs.Houses.{places}
use Rattle.rpc_message.specs.Message.{message_of}
use Rattle.mux_starts.specs.mux_tables.specs.Documents.{AllStand}
use Rattle.mux_entries.proofs.EditorAsks.{asked_none}
use Rattle.mux_entries.proofs.EditorBuilt.{unasked_goes, unasked_there}
use Rattle.mux_entries.proofs.EditorRows.{asks_by_name, begins, done_alike, early_new, read_well}
use Rattle.mux_entries.proofs.editors.from_new.Goals as goal

pub returns-in_ok-take_initialize-clause-does : goal.returns-in_ok-take_initialize-clause-does
returns-in_ok-take_initialize-clause-does c = λ settings before body read at servers default first known settled none st ds.
    let e = c.args.e in
    let m = message_of body in
    let named : requests (codes "initialize") m ≡ true = sym (c.is_initialize.ensures body read) ∙ c.if-is_initialize.true in
    let asks = asks_by_name (codes "initialize") m named in
    let placed : places (desk_of e before).phase m ≡ true = ap (λ p. places p m) at ∙ named in
    done_alike (λ k events. AllStand settings k events) (begins settings before e body at (read_well c.args.message.now body read) named none)
    (c.in_ok-take_initialize.ensures.does settings before body asks.method asks.id asks.params read asks.is placed servers default first known settled st ds)

pub returns-in_ok-from_early-clause-does : goal.returns-in_ok-from_early-clause-does
returns-in_ok-from_early-clause-does c = λ settings before body read at servers default first known settled none st ds.
    let e = c.args.e in
    let m = message_of body in
    let other : requests (codes "initialize") m ≡ false = sym (c.is_initialize.ensures body read) ∙ c.if-is_initialize.false in
    let unplaced : places (desk_of e before).phase m ≡ false = ap (λ p. places p m) at ∙ other in
    done_alike (λ k events. AllStand settings k events) (early_new settings before e body at (read_well c.args.message.now body read) other none)
    (c.in_ok-from_early.ensures.does settings before body read (ap is_early at) unplaced (unasked_goes before e m (unasked_there (desk_of e before).phase m (ap is_there at) none)) (unasked_there (desk_of e before).phase m (ap is_there at) none) (asked_none settings before e m settled (ap is_served at)) first settled st ds)
