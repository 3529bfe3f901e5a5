-- Where a start's program runs.
use Rattle.std.proofs.Common.{◌≡◌, ℕ, Bool, true, false, List, [], refl, ap, sym, ◌∙◌, append-nil, codes}
use Rattle.std.specs.Prelude.{Option, Some, None, slice_get}
use Rattle.mux_history.specs.declared.cause.Cause.TheVariants.{Started}
use Rattle.mux_history.specs.declared.out.Out.{Out}
use Rattle.mux_history.specs.declared.out.Out.TheVariants.{ToServer}
use Rattle.rpc_message.specs.Message.{message_of}
use Rattle.event_model.specs.declared.stage.Stage.{Stage}
use Rattle.event_model.specs.declared.stage.Stage.TheVariants.{Unspawned, Spawning, Initializing, Ready, Stopping, Ending, Ended}
use Rattle.event_model.specs.Does.{Does}
use Rattle.event_model.specs.Event.{Event, behind, heard, requests, with_cause}
use Rattle.event_model.specs.Row.{Row, nothing, on, send}
use Rattle.event_model.specs.Settings.{Settings}
use Rattle.event_model.specs.Spawns.{group_of}
use Rattle.event_model.specs.Stages.{life_of}
use Rattle.event_model.proofs.Turns.{alike, does_alike, does_knowing, does_nothing}
use Rattle.group_rows.specs.Forwarded.{moves_ids}
use Rattle.group_rows.specs.Rows.{begin_in, started}
use Rattle.group_rows.specs.Texts.{is_synced}
use Rattle.group_words.specs.declared.kept.Kept.{Kept}
use Rattle.group_words.specs.Houses.{groups_of}
use Rattle.group_words.specs.Rows.{initialize_of}
use Rattle.group_words.proofs.Frames.{groups_stay}
use Rattle.mux_tables.specs.declared.tables.Tables.{Tables}
use Rattle.mux_tables.specs.Stands.{Stands, is_answer}
use Rattle.document_model.specs.Sayings.{saying_of}
use Rattle.document_model.specs.Sayings.{nothing as no_saying}
use Rattle.mux_turns.specs.group_facts.specs.Facts.{IsWritten, Known}
use Rattle.mux_turns.specs.group_facts.specs.Settled.{AreUtf8, Settled}
use Rattle.mux_turns.specs.group_facts.proofs.Forwards.{get_all}
use Rattle.mux_starts.specs.Openings.{IsOpening, is_spawning}

-- a start whose program isn't awaited gives nothing
unawaited : (settings : Settings) (s : ℕ) (before : List Event) (stage : Stage) → is_spawning stage ≡ false → started settings s before stage ≡ nothing
unawaited settings s before Spawning h = absurd (cc)
unawaited settings s before other h = refl

pub unawaited_idle : (settings : Settings) (s : ℕ) (before : List Event) (stage : Stage) (b : Bool) → stage ≡ (life_of s before).stage → b ≡ is_spawning stage → b ≡ false → started settings s before (life_of s before).stage ≡ nothing
unawaited_idle settings s before stage b at is f = ap (started settings s before) (sym at) ∙ unawaited settings s before stage (sym is ∙ f)

awaited : (stage : Stage) → is_spawning stage ≡ true → stage ≡ Spawning
awaited Spawning h = refl
awaited Unspawned h = absurd (cc)
awaited Initializing h = absurd (cc)
awaited Ready h = absurd (cc)
awaited Stopping h = absurd (cc)
awaited Ending h = absurd (cc)
awaited Ended h = absurd (cc)

pub awaited_begins : (settings : Settings) (s g : ℕ) (before : List Event) (stage : Stage) (b : Bool) → stage ≡ (life_of s before).stage → b ≡ is_spawning stage → b ≡ true → group_of s before ≡ Some g → started settings s before (life_of s before).stage ≡ begin_in settings before s g
awaited_begins settings s g before stage b at is t home = ap (started settings s before) (sym at ∙ awaited stage (sym is ∙ t)) ∙ ap (λ o. on o nothing (begin_in settings before s)) home

module _ (settings : Settings) (t : Tables) (before : List Event) (s g : ℕ) (xs : List Out) (first : xs ≡ []) where
  abbrev base : List Event
  base = with_cause before (Started s)

  groups_still : groups_of settings (behind base xs) ≡ groups_of settings before
  groups_still = ap (λ ys. groups_of settings (behind base ys)) first ∙ (ap (groups_of settings) (append-nil base) ∙ groups_stay settings before (heard (Started s)) refl)

  here : (o : Option Kept) → o ≡ slice_get (groups_of settings (behind base xs)) g → slice_get (groups_of settings before) g ≡ o
  here o seen = ap (λ gs. slice_get gs g) (sym groups_still) ∙ sym seen

  abbrev opened : Option Kept → Row
  opened o = on o nothing (λ x. send (ToServer s (initialize_of x)))

  pub begun_none : (Stands settings t (behind base xs) → None ≡ slice_get (groups_of settings (behind base xs)) g) → Does (λ t events. Stands settings t events) (begin_in settings before s g) base t xs t xs
  begun_none seen = does_alike (λ st. alike (ap opened (here None (seen st)))) does_nothing

  pub begun : (x : Kept) (text : List ℕ) (ys : List Out) → (Stands settings t (behind base xs) → Some x ≡ slice_get (groups_of settings (behind base xs)) g) → ((x : Kept) → slice_get (groups_of settings before) g ≡ Some x → IsOpening x)
      → (AreUtf8 x.key.folders → text ≡ initialize_of x) → (requests (codes "shutdown") (message_of text) ≡ false → moves_ids (message_of text) ≡ false → is_answer (message_of text) ≡ false → Does (λ t events. Stands settings t events) (send (ToServer s text)) base t xs t ys)
      → Does (λ t events. Stands settings t events) (begin_in settings before s g) base t xs t ys
  begun x text ys seen known writes d = does_knowing (λ st.
      let at = here (Some x) (seen st) in
      let k = known x at in
      let is = writes k.folders in
      let says = ap message_of is ∙ k.says in
      does_alike (λ _. alike (ap opened at ∙ ap (λ w. send (ToServer s w)) (sym is))) (d (ap (requests (codes "shutdown")) says) (ap moves_ids says) (ap is_answer says)))

  pub begun_documents : {P : Type 0} (x : Kept) (text : List ℕ) → Some x ≡ slice_get (groups_of settings (behind base xs)) g → ((x : Kept) → slice_get (groups_of settings before) g ≡ Some x → IsOpening x) → (AreUtf8 x.key.folders → text ≡ initialize_of x)
      → (saying_of (message_of text) ≡ no_saying → is_synced (message_of text) ≡ false → P) → P
  begun_documents {P} x text seen known writes d =
      let k = known x (here (Some x) seen) in
      let says = ap message_of (writes k.folders) ∙ k.says in
      d (ap saying_of says) (ap is_synced says)

-- a group's `initialize` can be written
pub opens : (settings : Settings) (before : List Event) (g : ℕ) → Known settings before → Settled settings before → (x : Kept) → slice_get (groups_of settings before) g ≡ Some x → IsOpening x
opens settings before g known settled x at =
    let k = get_all IsWritten (groups_of settings before) g x known.written at in
    record { folders = get_all (λ (y : Kept). AreUtf8 y.key.folders) (groups_of settings before) g x settled.spelt at; params = k.params; says = k.says }
