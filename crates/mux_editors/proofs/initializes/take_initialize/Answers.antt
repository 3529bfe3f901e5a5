-- An editor's `initialize`.
use Rattle.std.proofs.Common.{sym, ◌∙◌}
use Rattle.event_model.specs.Event.{with_cause}
use Rattle.mux_history.specs.declared.cause.Cause.TheVariants.{FromEditor}
use Rattle.rpc_message.specs.Message.{message_of}
use Rattle.group_words.specs.declared.placed.Placed.TheVariants.{Joins, New, Evicts, TooMany}
use Rattle.mux_tables.specs.Documents.{nothing_owed}
use Rattle.mux_tables.proofs.DocumentOwed.{all_does}
use Rattle.mux_editors.proofs.Initializing.{evicts_next, founds_next, new_here, numbered_now, placed_entry, unserved_now}
use Rattle.mux_editors.proofs.initializes.take_initialize.Goals as goal

pub returns-in_ok-join-in-Joins-clause-does : goal.returns-in_ok-join-in-Joins-clause-does
returns-in_ok-join-in-Joins-clause-does c = λ settings before body method id params read says new all default first known settled st ds.
    let e = c.args.e in
    let moves = c.in_ok-placed.ensures.moves settings before body method id params read says new all (sym (c.server-server.ensures settings before st (new_here before e (message_of body) new) default)) st ds in
    placed_entry settings c.seat.new.tables c.join.new.tables before e body (Joins c.in-Joins.g) c.args.outs.now c.join.new.outs first (sym c.in-Joins.is ∙ moves.0) moves.1
    (c.in_ok-join-in-Joins.ensures.does settings before body method id params read says new known.results first moves.1)

pub returns-in_ok-found-in-New-clause-does : goal.returns-in_ok-found-in-New-clause-does
returns-in_ok-found-in-New-clause-does c = λ settings before body method id params read says new all default first known settled st ds.
    let e = c.args.e in
    let base = with_cause before (FromEditor e body) in
    let n = c.in-New.n in
    let moves = c.in_ok-placed.ensures.moves settings before body method id params read says new all (sym (c.server-server.ensures settings before st (new_here before e (message_of body) new) default)) st ds in
    placed_entry settings c.seat.new.tables c.found.new.tables before e body (New n) c.args.outs.now c.found.new.outs first (sym c.in-New.is ∙ moves.0) moves.1
    (let next = founds_next settings before e body settled n c.args.outs.now first (sym c.in-New.is ∙ moves.0) in
    all_does settings c.seat.new.tables c.found.new.tables nothing_owed nothing_owed base c.args.outs.now c.found.new.outs
    (c.in_ok-found-in-New.ensures.does settings before base e body next)
    (λ k d. c.in_ok-found-in-New.ensures.documents settings nothing_owed base next k d))

pub returns-in_ok-replace-in-Evicts-clause-does : goal.returns-in_ok-replace-in-Evicts-clause-does
returns-in_ok-replace-in-Evicts-clause-does c = λ settings before body method id params read says new all default first known settled st ds.
    let e = c.args.e in
    let base = with_cause before (FromEditor e body) in
    let n = c.in-Evicts.n in
    let moves = c.in_ok-placed.ensures.moves settings before body method id params read says new all (sym (c.server-server.ensures settings before st (new_here before e (message_of body) new) default)) st ds in
    placed_entry settings c.seat.new.tables c.replace.new.tables before e body (Evicts c.in-Evicts.idle n) c.args.outs.now c.replace.new.outs first (sym c.in-Evicts.is ∙ moves.0) moves.1
    (c.in_ok-replace-in-Evicts.ensures.does settings before base e body (evicts_next settings before e body settled c.in-Evicts.idle n c.args.outs.now first (sym c.in-Evicts.is ∙ moves.0)) (numbered_now settings before e body c.args.outs.now first known.numbered))

pub returns-in_ok-turn_away-in-TooMany-clause-does : goal.returns-in_ok-turn_away-in-TooMany-clause-does
returns-in_ok-turn_away-in-TooMany-clause-does c = λ settings before body method id params read says new all default first known settled st ds.
    let e = c.args.e in
    let base = with_cause before (FromEditor e body) in
    let moves = c.in_ok-placed.ensures.moves settings before body method id params read says new all (sym (c.server-server.ensures settings before st (new_here before e (message_of body) new) default)) st ds in
    placed_entry settings c.seat.new.tables c.turn_away.new.tables before e body TooMany c.args.outs.now c.turn_away.new.outs first (sym c.in-TooMany.is ∙ moves.0) moves.1
    (c.in_ok-turn_away-in-TooMany.ensures.does settings before base body method id params read says (unserved_now settings before e body c.args.outs.now first new))
