-- A group goes on or ends with the program of its last start, which ended, or couldn't be run.
use Rattle.std.proofs.Common.{◌≡◌, ◌<◌, ◌^◌, length, ltb-true, ap, sym, subst, ◌∙◌}
use Rattle.std.specs.Prelude.{slice_get}
use Rattle.std.specs.List.{All, AllByRecursion}
use Rattle.std.proofs.lemmas.List.{length-set}
use Rattle.event_model.specs.Does.{Does}
use Rattle.event_model.specs.Event.{behind, with_cause}
use Rattle.event_model.specs.Stages.{Life, is_ended}
use Rattle.event_model.proofs.Frames.{never}
use Rattle.event_model.proofs.Places.{item_at}
use Rattle.mux_exits.specs.Losses.{IsInside}
use Rattle.mux_exits.proofs.Ending.{by_either, entry_done, entry_renewed, exit_group, exit_over, exit_unready, here}
use Rattle.mux_exits.specs.Partings.{CanPart, parting_row, renewing_row}
use Rattle.mux_starts.specs.group_facts.specs.Lively.{lives_at}
use Rattle.mux_starts.specs.group_facts.proofs.ExitEntry.{exit_by}
use Rattle.mux_starts.specs.group_facts.proofs.LastStarts.{alive_exit}
use Rattle.mux_starts.specs.Refusing.{IsUnready}
use Rattle.mux_starts.proofs.Stopped.{last_life}
use Rattle.mux_tables.specs.Documents.{AllStand, nothing_owed}
use Rattle.mux_tables.proofs.DocumentOwed.{number_there}
use Rattle.mux_tables.proofs.Homes.{group_seen}
use Rattle.mux_exits.proofs.exits.exit_group.Goals as goal

pub returns-then-is_ended-clause-exit : goal.returns-then-is_ended-clause-exit
returns-then-is_ended-clause-exit c = λ settings before cause x here live restarts first known settled is fit st ds.
    let t = c.args.tables.now in
    let life = last_life settings t before c.args.g x.life.start x here (number_there t.lasts.items c.args.g x here) st in
    never (sym (ap (λ (l : Life). is_ended l.stage) life ∙ (ap is_ended (sym (c.stage_at.ensures x here)) ∙ (sym c.is_ended.ensures ∙ c.if-is_ended.true))) ∙ alive_exit before cause x.life.start is fit)

pub hear_exit-requires-clause-runs : goal.hear_exit-requires-clause-runs
hear_exit-requires-clause-runs c = λ x here ended. never (sym (ap is_ended (c.stage_at.ensures x here ∙ ended)) ∙ (sym c.is_ended.ensures ∙ c.if-is_ended.false))

pub hear_exit-requires-clause-room : goal.hear_exit-requires-clause-room
hear_exit-requires-clause-room c = λ z x here at.
    ltb-true x.exits (2 ^ 63) (sym (c.is_counted.ensures x (ap (λ h. slice_get c.args.tables.now.groups.groups h) (c.group_number.ensures z here) ∙ at)) ∙ c.if-not-is_counted.false)

pub group_number-group-requires : goal.group_number-group-requires
group_number-group-requires c =
    let lasts = c.args.tables.now.lasts.items in
    let z = item_at lasts c.args.g c.requires.group in
    let e = c.in_ok-hear_exit.ensures.exits z.0 z.1 in
    subst (λ n. c.args.g < n) (sym (ap length e.lasts ∙ length-set lasts c.args.g e.start)) c.requires.group

pub renew-requires-clause-group : goal.renew-requires-clause-group
renew-requires-clause-group c =
    let lasts = c.args.tables.now.lasts.items in
    let z = item_at lasts c.args.g c.requires.group in
    let e = c.in_ok-hear_exit.ensures.exits z.0 z.1 in
    subst (λ n. c.args.g < n) (sym (ap length e.lasts ∙ length-set lasts c.args.g e.start)) c.requires.group

pub renew-requires-clause-over : goal.renew-requires-clause-over
renew-requires-clause-over c = λ x at.
    let z = item_at c.args.tables.now.lasts.items c.args.g c.requires.group in
    (exit_over c.args.restarts c.args.tables.now c.hear_exit.new.self c.args.g z.0 c.requires.group (c.in_ok-hear_exit.ensures.exits z.0 z.1) x at).0

pub renew-requires-clause-inside : goal.renew-requires-clause-inside
renew-requires-clause-inside c =
    let z = item_at c.args.tables.now.lasts.items c.args.g c.requires.group in
    let e = c.in_ok-hear_exit.ensures.exits z.0 z.1 in
    subst (λ n. AllByRecursion (IsInside n) c.in_ok-parting.parting.losses.items) (sym (ap length e.editors)) c.in_ok-parting.ensures.inside

pub part-requires-clause-group : goal.part-requires-clause-group
part-requires-clause-group c =
    let lasts = c.args.tables.now.lasts.items in
    let z = item_at lasts c.args.g c.requires.group in
    let e = c.in_ok-hear_exit.ensures.exits z.0 z.1 in
    subst (λ n. c.args.g < n) (sym (ap length e.lasts ∙ length-set lasts c.args.g e.start)) c.requires.group

pub part-requires-clause-members : goal.part-requires-clause-members
part-requires-clause-members c =
    let z = item_at c.args.tables.now.lasts.items c.args.g c.requires.group in
    let e = c.in_ok-hear_exit.ensures.exits z.0 z.1 in
    subst (λ n. All (λ k. k < n) c.in_ok-parting.parting.members.items) (sym (ap length e.editors)) c.in_ok-parting.ensures.members

pub part-requires-clause-inside : goal.part-requires-clause-inside
part-requires-clause-inside c =
    let z = item_at c.args.tables.now.lasts.items c.args.g c.requires.group in
    let e = c.in_ok-hear_exit.ensures.exits z.0 z.1 in
    subst (λ n. AllByRecursion (IsInside n) c.in_ok-parting.parting.losses.items) (sym (ap length e.editors)) c.in_ok-parting.ensures.inside

pub returns-in_ok-renew-clause-exit : goal.returns-in_ok-renew-clause-exit
returns-in_ok-renew-clause-exit c = λ settings before cause x at_g live restarts first known settled is fit st ds.
    let t = c.args.tables.now in
    let u = c.hear_exit.new.self in
    let g = c.args.g in
    let s = x.life.start in
    let h = x.life.group in
    let now = with_cause before cause in
    let at = number_there t.lasts.items g x at_g in
    let heard = c.in_ok-hear_exit.ensures in
    let e = heard.exits x at_g in
    let there = here c.args.restarts t u g x c.requires.group e in
    let same = exit_group c.args.restarts t u g x c.requires.group e in
    let both : AllStand settings (u, nothing_owed) now = by_either (λ k. AllStand settings (u, nothing_owed) (with_cause before k)) s
    (heard.exit settings before s restarts at st, heard.exit_documents settings nothing_owed before s ds) (heard.failure settings before s restarts at st, heard.failure_documents settings nothing_owed before s ds) cause is in
    let parting = c.in_ok-parting.parting in
    let can : CanPart settings (behind now c.args.outs.now) h parting → Does (λ k events. AllStand settings k events) (renewing_row h parting) now (u, nothing_owed) c.args.outs.now (c.renew.new.tables, nothing_owed) c.renew.new.outs =
    subst (λ n. CanPart settings (behind now c.args.outs.now) n parting → Does (λ k events. AllStand settings k events) (renewing_row n parting) now (u, nothing_owed) c.args.outs.now (c.renew.new.tables, nothing_owed) c.renew.new.outs) same
    (λ may. c.in_ok-renew.ensures.does settings now e.start there may) in
    entry_renewed settings before cause s (exit_by settings before cause s is) h (group_seen settings t before g s x st at_g at).0 (ap (lives_at h) st.house.groups.groups ∙ live) known settled
    parting (c.in_ok-parting.ensures.parts settings before x at_g st) u both.0 c.renew.new.tables c.args.outs.now c.renew.new.outs
    (ap (λ n. lives_at n u.groups.groups) (sym (c.group_number-group.ensures e.start there ∙ same)) ∙ (sym c.lives.ensures ∙ c.if-lives.true)) first both.1 can

pub returns-in_ok-part-clause-exit : goal.returns-in_ok-part-clause-exit
returns-in_ok-part-clause-exit c = λ settings before cause x at_g live restarts first known settled is fit st ds.
    let t = c.args.tables.now in
    let u = c.hear_exit.new.self in
    let g = c.args.g in
    let s = x.life.start in
    let h = x.life.group in
    let now = with_cause before cause in
    let at = number_there t.lasts.items g x at_g in
    let heard = c.in_ok-hear_exit.ensures in
    let e = heard.exits x at_g in
    let there = here c.args.restarts t u g x c.requires.group e in
    let same = exit_group c.args.restarts t u g x c.requires.group e in
    let both : AllStand settings (u, nothing_owed) now = by_either (λ k. AllStand settings (u, nothing_owed) (with_cause before k)) s
    (heard.exit settings before s restarts at st, heard.exit_documents settings nothing_owed before s ds) (heard.failure settings before s restarts at st, heard.failure_documents settings nothing_owed before s ds) cause is in
    let own : c.group_number-group.result ≡ h = c.group_number-group.ensures e.start there ∙ same in
    let parting = c.in_ok-parting.parting in
    entry_done settings before cause s (exit_by settings before cause s is) h (group_seen settings t before g s x st at_g at).0 (ap (lives_at h) st.house.groups.groups ∙ live) known settled
    parting (c.in_ok-parting.ensures.parts settings before x at_g st) u both.0 c.part.new.tables c.args.outs.now c.part.new.outs
    (ap (λ n. lives_at n u.groups.groups) (sym own) ∙ (sym c.lives.ensures ∙ c.if-lives.false)) first both.1
    (λ can. subst (λ n. Does (λ k events. AllStand settings k events) (parting_row settings n parting) now (u, nothing_owed) c.args.outs.now (c.part.new.tables, nothing_owed) c.part.new.outs) own
    (c.in_ok-part.ensures.does settings now (exit_over c.args.restarts t u g x c.requires.group e) (subst (λ n. IsUnready n u.lasts.items) (sym own) (exit_unready c.args.restarts t u g x c.requires.group e settings now both.0)) (subst (λ n. CanPart settings (behind now c.args.outs.now) n parting) (sym own) can)))
