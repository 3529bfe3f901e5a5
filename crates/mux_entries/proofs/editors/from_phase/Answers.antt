-- A message, by where its editor stands.
use Rattle.std.proofs.Common.{◌≡◌, false, ◌&&◌, ap, refl, sym, ◌∙◌}
use Rattle.event_model.specs.declared.phase.Phase.TheVariants.{Closed, Down, Waiting}
use Rattle.group_rows.specs.Rows.{asks_lspmux}
use Rattle.event_model.specs.Phases.{desk_of, is_begun, is_linked, is_served, is_there}
use Rattle.mux_starts.specs.group_facts.specs.Facts.{is_early}
use Rattle.group_words.specs.Houses.{is_doubled, places}
use Rattle.rpc_message.specs.Message.{message_of}
use Rattle.mux_starts.specs.mux_tables.specs.Documents.{AllStand}
use Rattle.mux_entries.proofs.EditorAsks.{asked_none}
use Rattle.mux_entries.proofs.EditorBuilt.{unasked_goes, unasked_there}
use Rattle.mux_entries.proofs.EditorRows.{closed_one, done_alike, done_quietly, read_well, served_one, taken}
use Rattle.mux_entries.proofs.editors.from_phase.Goals as goal

pub returns-in_ok-from_new-in-New-clause-does : goal.returns-in_ok-from_new-in-New-clause-does
returns-in_ok-from_new-in-New-clause-does c = λ settings before body read servers default first known settled fits single none st ds.
    let at = sym (c.phase.ensures settings before st) ∙ c.in-New.is in
    c.in_ok-from_new-in-New.ensures.does settings before body read at servers default first known settled none st ds

pub returns-in_ok-from_early-in-Waiting-clause-does : goal.returns-in_ok-from_early-in-Waiting-clause-does
returns-in_ok-from_early-in-Waiting-clause-does c = λ settings before body read servers default first known settled fits single none st ds.
    let e = c.args.e in
    let m = message_of body in
    let at = sym (c.phase.ensures settings before st) ∙ c.in-Waiting.is in
    let unplaced : places (desk_of e before).phase m ≡ false = ap (λ p. places p m) at in
    done_alike (λ k events. AllStand settings k events) (taken settings before e body Waiting at (read_well c.args.message.now body read) (ap (λ p. is_begun p && is_doubled before e m) (sym at) ∙ single) (ap (λ p. is_there p && asks_lspmux m) (sym at) ∙ none))
    (c.in_ok-from_early-in-Waiting.ensures.does settings before body read (ap is_early at) unplaced (unasked_goes before e m (unasked_there (desk_of e before).phase m (ap is_there at) none)) (unasked_there (desk_of e before).phase m (ap is_there at) none) (asked_none settings before e m settled (ap is_served at)) first settled st ds)

pub returns-in_ok-from_served-in-Answered-clause-does : goal.returns-in_ok-from_served-in-Answered-clause-does
returns-in_ok-from_served-in-Answered-clause-does c = λ settings before body read servers default first known settled fits single none st ds.
    let served = ap is_served (sym (c.phase.ensures settings before st)) ∙ served_one c.phase.result c.in-Answered.is in
    c.in_ok-from_served-in-Answered.ensures.does settings before body read served first known settled single none st ds

pub returns-in_ok-from_down-in-Down-clause-does : goal.returns-in_ok-from_down-in-Down-clause-does
returns-in_ok-from_down-in-Down-clause-does c = λ settings before body read servers default first known settled fits single none st ds.
    let e = c.args.e in
    let m = message_of body in
    let at = sym (c.phase.ensures settings before st) ∙ c.in-Down.is in
    done_alike (λ k events. AllStand settings k events) (taken settings before e body Down at (read_well c.args.message.now body read) (ap (λ p. is_begun p && is_doubled before e m) (sym at) ∙ single) (ap (λ p. is_there p && asks_lspmux m) (sym at) ∙ none))
    (c.in_ok-from_down-in-Down.ensures.does settings before body read at (unasked_goes before e m (unasked_there (desk_of e before).phase m (ap is_there at) none)) (asked_none settings before e m settled (ap is_served at)) first settled st ds)

pub returns-in-Closed-clause-does : goal.returns-in-Closed-clause-does
returns-in-Closed-clause-does c = λ settings before body read servers default first known settled fits single none st ds.
    let e = c.args.e in
    let is = sym (c.phase.ensures settings before st) in
    let at = is ∙ closed_one c.phase.result c.in-Closed.is (ap is_linked (sym is) ∙ fits) in
    done_alike (λ k events. AllStand settings k events) (taken settings before e body Closed at (read_well c.args.message.now body read) refl refl)
    (done_quietly (λ k events. AllStand settings k events) first (c.take_closed.ensures.does settings before body at (asked_none settings before e (message_of body) settled (ap is_served at)) settled st ds))
