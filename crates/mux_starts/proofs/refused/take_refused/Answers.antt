-- A start refuses its `initialize`.
use Rattle.std.proofs.Common.{◌≡◌, [], ap, map, refl, sym, subst, ◌∙◌}
use Rattle.std.specs.Prelude.{Some, slice_get}
use Rattle.event_model.specs.declared.stage.Stage.TheVariants.{Ended, Initializing}
use Rattle.event_model.specs.Event.{heard, with_cause}
use Rattle.event_model.specs.Spawns.{group_behind}
use Rattle.event_model.specs.Stages.{is_ready}
use Rattle.event_model.proofs.Frames.{one_more}
use Rattle.event_model.proofs.Places.{item_at, same_item}
use Rattle.mux_history.specs.declared.cause.Cause.TheVariants.{FromServer}
use Rattle.mux_tables.specs.Documents.{nothing_owed}
use Rattle.mux_tables.specs.Stands.{number_in}
use Rattle.mux_tables.proofs.DocumentOwed.{all_does}
use Rattle.mux_tables.proofs.Homes.{group_seen}
use Rattle.mux_starts.specs.Refusing.{IsUnready}
use Rattle.mux_starts.proofs.PutOut.{refused_entry, stage_kept, unready_at}
use Rattle.mux_turns.proofs.Ready.{start_from}
use Rattle.mux_starts.proofs.Replies.{still_asking}
use Rattle.mux_starts.proofs.refused.take_refused.Goals as goal

pub end-requires-clause-runs : goal.end-requires-clause-runs
end-requires-clause-runs c = λ x at ended.
    let z = item_at c.args.tables.now.lasts.items c.args.g c.requires.group in
    let kept = stage_kept c.args.g c.args.tables.now.lasts.items c.hear_refusal.new.self.lasts.items z.0 z.1 c.hear_refusal.ensures.stages (c.requires.stage z.0 z.1) in
    let clash : Initializing ≡ Ended = sym (kept x (sym (ap (λ ls. slice_get ls.items c.args.g) (c.in_ok-part_all.ensures.lasts ∙ c.in_ok-refuse_all.ensures.lasts)) ∙ at)) ∙ ended in cc

pub returns-clause-does : goal.returns-clause-does
returns-clause-does c = λ settings before body s read first at none asking st ds.
    let g = c.args.g in
    let h = c.group_number-group.result in
    let t = c.args.tables.now in
    let base = with_cause before (FromServer s body) in
    let z = item_at t.lasts.items g c.requires.group in
    let stands = c.hear_refusal.ensures.stands settings before s body at first (c.answered_number.ensures body read) st in
    let docs = c.hear_refusal.ensures.documents settings nothing_owed before s body at first st ds in
    let starts = ap (λ ns. slice_get ns g) c.hear_refusal.ensures.starts ∙ at in
    let home = (group_seen settings t before g s z.0 st z.1 at).0 ∙ ap Some (sym (c.group_number-group.ensures z.0 z.1)) in
    let w = start_from c.hear_refusal.new.self.lasts.items g s starts in
    let own : w.0.life.group ≡ h = same_item (sym (group_seen settings c.hear_refusal.new.self base g s w.0 stands w.1 starts).0 ∙ (one_more (group_behind s) _ _ before (heard (FromServer s body)) refl ∙ home)) in
    let unready : IsUnready h c.hear_refusal.new.self.lasts.items = subst (λ n. IsUnready n c.hear_refusal.new.self.lasts.items) own (unready_at g c.hear_refusal.new.self.lasts.items w.0 stands.lasts.rise w.1 (ap is_ready (stage_kept g t.lasts.items c.hear_refusal.new.self.lasts.items z.0 z.1 c.hear_refusal.ensures.stages (c.requires.stage z.0 z.1) w.0 w.1))) in
    let later = subst (λ ls. IsUnready h ls.items) (sym c.in_ok-refuse_all.ensures.lasts) unready in
    let there = ap (λ ls. slice_get (map number_in ls.items) g) (c.in_ok-part_all.ensures.lasts ∙ c.in_ok-refuse_all.ensures.lasts) ∙ (ap (λ ns. slice_get ns g) c.hear_refusal.ensures.starts ∙ at) in
    refused_entry settings before s h body c.hear_refusal.new.self c.refuse_all.new.tables c.part_all.new.tables c.end.new.self c.args.outs.now c.refuse_all.new.outs c.part_all.new.outs c.end.new.outs home none (stands, docs)
    (c.in_ok-refuse_all.ensures.does settings base body read first unready (still_asking before s body [] c.args.outs.now none asking))
    (c.in_ok-part_all.ensures.does settings base later)
    (all_does settings c.part_all.new.tables c.end.new.self nothing_owed nothing_owed base c.part_all.new.outs c.end.new.outs (c.in_ok-end.ensures.does settings base s there) (λ _ d. c.in_ok-end.ensures.documents settings nothing_owed base d))
