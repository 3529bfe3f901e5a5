-- The sync before an editor's message goes on: a ready start is told of the editor's own texts.
use Rattle.std.proofs.Common.{◌≡◌, ℕ, true, false, List, [], ◌∷◌, codes, refl, ap, sym, subst}
use Rattle.std.specs.Prelude.{Some}
use Rattle.document_model.specs.Opens.{Open}
use Rattle.document_model.specs.Sayings.{saying_of, speaks}
use Rattle.rpc_message.specs.Message.{message_of}
use Rattle.mux_history.specs.declared.cause.Cause.TheVariants.{FromEditor}
use Rattle.event_model.specs.Event.{Event, behind, requests, with_cause}
use Rattle.event_model.specs.Row.{outs}
use Rattle.event_model.specs.Settings.{Settings}
use Rattle.event_model.specs.Spawns.{start_of}
use Rattle.event_model.specs.Stages.{is_ready, life_of}
use Rattle.mux_model.specs.Documents.{held_at}
use Rattle.mux_model.proofs.DocumentFolds.{outs_to_start}
use Rattle.mux_facts.specs.Ranges.{InRange}
use Rattle.mux_facts.proofs.Reasons.{Because}
use Rattle.group_rows.specs.Rows.{sync_bodies, sync_row}
use Rattle.group_rows.specs.Texts.{texts_of}
use Rattle.group_facts.specs.Facts.{Opened}
use Rattle.group_facts.specs.Why.{IsBehindSync, Why}
use Rattle.group_facts.proofs.DocumentRow.{calm_now, held_still}
use Rattle.group_facts.proofs.SharedRows.{AllTold, Held, sync_told}
use Rattle.group_facts.proofs.Tellings.{Calm, tells_row}

module _ (settings : Settings) (range : InRange settings) (before : List Event) (opened : Opened settings before) (e : ℕ) (body : List ℕ) (g s : ℕ) (ready : is_ready (life_of s before).stage ≡ true) where
  abbrev now : List Event
  now = with_cause before (FromEditor e body)

  abbrev bodies : List (List ℕ)
  bodies = sync_bodies settings.limits.versions (λ u. held_at s u before) e (texts_of settings g before).opens

  all_held : (os : List Open) → Held settings range before (FromEditor e body) now s (λ u. held_at s u before) e now os
  all_held [] = tt
  all_held (o ∷ os) = (λ k. held_still settings range before e body s o.uri (held_at s o.uri before) refl, all_held os)

  told : AllTold settings range before (FromEditor e body) now s now bodies
  told = sync_told settings range before (FromEditor e body) now s (λ u. held_at s u before) e (texts_of settings g before).opens (opened g).orderly.once (opened g).spelt now
      (calm_now settings range before e body s ready) (all_held (texts_of settings g before).opens)

  -- behind it
  abbrev pub synced : List Event
  synced = behind now (outs (sync_row settings before g s e) now)

  pub synced_calm : Calm settings range before (FromEditor e body) now s synced
  synced_calm = subst (λ z. Calm settings range before (FromEditor e body) now s (behind now z)) (sym (outs_to_start s bodies now)) told.calm

  pub sync_why : Because (Why settings before (FromEditor e body)) now (sync_row settings before g s e)
  sync_why = tells_row settings range before (FromEditor e body) now s now bodies told

  -- nothing else was sent
  pub behind_sync : start_of g before ≡ Some s → requests (codes "shutdown") (message_of body) ≡ false → speaks (saying_of (message_of body)) ≡ false → IsBehindSync settings before synced s e body
  behind_sync start stays silent = record { group = g; start = start; ready = ready; stays = stays; silent = silent; questions = []; asks = tt; place = ap (behind now) (outs_to_start s bodies now) }
