-- What the rows send of several documents is counted by what is kept: a leave, a sync and a replay.
use Rattle.std.proofs.Common.{◌≡◌, ℕ, ◌<◌, ◌^◌, Bool, true, false, cond, List, [], ◌∷◌, fold, nat_eq, refl, sym, ◌∙◌, subst}
use Rattle.std.specs.Prelude.{Some}
use Rattle.position_codec.specs.declared.Encoding.{Encoding}
use Rattle.document_model.specs.Opens.{Open}
use Rattle.document_model.specs.Orderly.{AllSpelt, IsSpelt}
use Rattle.focus_switch.specs.Documents.{Documents, version_held}
use Rattle.focus_switch.specs.document_table.specs.Rows.{uris_of}
use Rattle.focus_switch.specs.Rows.{Step, nothing, send, each, replayed, replay_sends, synced, sync_sends, close_next, close_row, leave_row, ready_row, sync_row}
use Rattle.document_laws.specs.Counts.{Counted, joins, still}
use Rattle.document_laws.proofs.Counting.{close_counted, counted_beside, replay_sends_on, send_counted, sync_sends_on}
use Rattle.document_laws.proofs.Following.{close_stays}
use Rattle.document_laws.proofs.Sends.{Kept, Stays, send_keeps}
use Rattle.event_model.specs.Event.{Event, behind}
use Rattle.group_rows.specs.Lists.{sayings_of}
use Rattle.group_laws.specs.Stands.{CountsStand}
use Rattle.group_laws.proofs.Counts.{counts_behind}
use Rattle.group_laws.proofs.Leaving.{next_spelt, stays_then}
use Rattle.group_laws.proofs.Syncing.{kept_then, same_kept}

-- a leave

closed_counted : (n e : ℕ) (s : Documents) (us : List (List ℕ)) (step : Step) → s.start ≡ Some n → s.versions < 2 ^ 32 → Stays s step.after → AllSpelt step.after.opens → Counted n s step.outs step.after
    → Counted n s (fold (close_next e) step us).outs (fold (close_next e) step us).after
closed_counted n e s [] step started small stays spelt k = k
closed_counted n e s (u ∷ us) step started small stays spelt k = closed_counted n e s us (close_next e step u) started small (stays_then s step.after (close_row e u step.after).after stays (close_stays e u step.after)) (next_spelt e u step.after spelt)
    (joins step.after step.outs (close_row e u step.after).outs k (close_counted n e u step.after (stays.start ∙ started) (subst (λ m. m < 2 ^ 32) (sym stays.versions) small) spelt) refl)

pub leave_counted : (n e : ℕ) (s : Documents) → s.start ≡ Some n → s.versions < 2 ^ 32 → AllSpelt s.opens → Counted n s (leave_row e s).outs (leave_row e s).after
leave_counted n e s started small spelt = closed_counted n e s (uris_of e s.opens) (nothing s) started small (record { start = refl; encoding = refl; versions = refl }) spelt (still refl refl refl)

-- a sync

module _ (n e : ℕ) (s : Documents) (started : s.start ≡ Some n) (small : s.versions < 2 ^ 32) where
  synced_counted : (t : Documents) (o : Open) → Kept s t → IsSpelt o → Counted n t (synced e t o).outs (synced e t o).after
  synced_counted t o kept spelt = go (nat_eq o.editor e)
    where
      go : (b : Bool) → Counted n t (cond b (send o.uri (sync_sends o (version_held o.uri t.helds) t) t) (nothing t)).outs (cond b (send o.uri (sync_sends o (version_held o.uri t.helds) t) t) (nothing t)).after
      go true = send_counted n o.uri (sync_sends o (version_held o.uri t.helds) t) t (kept.stays.start ∙ started) (sync_sends_on o (version_held o.uri t.helds) t (subst (λ m. m < 2 ^ 32) (sym kept.stays.versions) small) spelt)
      go false = still refl refl refl

  synced_kept : (t : Documents) (o : Open) → Kept s t → Kept s (synced e t o).after
  synced_kept t o kept = go (nat_eq o.editor e)
    where
      go : (b : Bool) → Kept s (cond b (send o.uri (sync_sends o (version_held o.uri t.helds) t) t) (nothing t)).after
      go true = kept_then s t (send o.uri (sync_sends o (version_held o.uri t.helds) t) t).after kept (send_keeps o.uri (sync_sends o (version_held o.uri t.helds) t) t)
      go false = kept

  all_synced : (step : Step) (os : List Open) → Kept s step.after → AllSpelt os → Counted n s step.outs step.after → Counted n s (fold (each (synced e)) step os).outs (fold (each (synced e)) step os).after
  all_synced step [] kept spelt k = k
  all_synced step (o ∷ os) kept spelt k = all_synced (each (synced e) step o) os (synced_kept step.after o kept) spelt.1
      (joins step.after step.outs (synced e step.after o).outs k (synced_counted step.after o kept spelt.0) refl)

  pub sync_counted : AllSpelt s.opens → Counted n s (sync_row e s).outs (sync_row e s).after
  sync_counted spelt =
      let step : Step = fold (each (synced e)) (nothing s) s.opens in
      counted_beside n s step.after (sync_row e s).after step.outs (all_synced (nothing s) s.opens (same_kept s) spelt (still refl refl refl)) refl refl

-- a replay

module _ (n : ℕ) (s : Documents) (started : s.start ≡ Some n) (spelt : AllSpelt s.opens) where
  all_replayed : (step : Step) (os : List Open) → Kept s step.after → Counted n s step.outs step.after → Counted n s (fold (each replayed) step os).outs (fold (each replayed) step os).after
  all_replayed step [] kept k = k
  all_replayed step (o ∷ os) kept k =
      let x = replay_sends o (version_held o.uri step.after.helds) step.after in
      all_replayed (each replayed step o) os (kept_then s step.after (replayed step.after o).after kept (send_keeps o.uri x step.after))
      (joins step.after step.outs (replayed step.after o).outs k
      (send_counted n o.uri x step.after (kept.stays.start ∙ started) (replay_sends_on o (version_held o.uri step.after.helds) step.after (subst AllSpelt (sym kept.opens) spelt))) refl)

ready_counted : (n : ℕ) (code : Encoding) (s : Documents) → AllSpelt s.opens → Counted n (record s { start = Some n; encoding = Some code; sent = 0; helds = [] }) (ready_row n code s).outs (ready_row n code s).after
ready_counted n code s spelt =
    let r : Documents = record s { start = Some n; encoding = Some code; sent = 0; helds = [] } in
    all_replayed n r refl spelt (nothing r) r.opens (same_kept r) (still refl refl refl)

-- a start that was told of no document, and is told of those that are open
pub ready_counts : (n : ℕ) (code : Encoding) (s : Documents) (events : List Event) → AllSpelt s.opens → sayings_of n events ≡ 0 → CountsStand n (ready_row n code s).after (behind events (ready_row n code s).outs)
ready_counts n code s events spelt none =
    let r : Documents = record s { start = Some n; encoding = Some code; sent = 0; helds = [] } in
    counts_behind n r (ready_row n code s).after (ready_row n code s).outs events (ready_counted n code s spelt) (record { sent = sym none; changed = λ u h is. absurd (cc) })
