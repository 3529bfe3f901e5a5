-- What the documents of a group say of its start, where that is ready: how many notifications on documents it was sent, and whether it has an editor's text, and since when.
use Rattle.std.proofs.Common.{◌≡◌, ℕ, Bool, true, false, not, ◌&&◌, ◌||◌, List, [], ◌∷◌, ◌++◌, find, nat_eq, if◌then◌else◌, refl, ap, ap₂, sym, subst, ◌∙◌, append-nil}
use Rattle.std.specs.Prelude.{Some, option_map, slice_get}
use Rattle.std.specs.List.{list_all}
use Rattle.document_model.specs.declared.agreement.Agreement.{Agreement}
use Rattle.document_model.specs.declared.agreement.Agreement.TheVariants.{Agrees, Differs, NotOpen}
use Rattle.document_model.specs.Opens.{Open, is_open_at}
use Rattle.document_model.specs.Texts.{Texts}
use Rattle.event_model.specs.declared.stage.Stage.{Stage}
use Rattle.event_model.specs.declared.stage.Stage.TheVariants.{Ready}
use Rattle.event_model.specs.Event.{Event}
use Rattle.event_model.specs.Settings.{Settings}
use Rattle.focus_switch.specs.Documents.{Documents}
use Rattle.focus_switch.specs.document_table.specs.Rows.{uris_of}
use Rattle.focus_switch.specs.Rows.{agreement, agrees_on_all, is_agreed}
use Rattle.group_laws.specs.group_rows.specs.Debts.{agrees_on}
use Rattle.group_laws.specs.group_rows.specs.Debts as rows
use Rattle.group_laws.specs.group_rows.specs.Lists.{agreement_at, sayings_of, version_at}
use Rattle.group_laws.specs.Follows.{texts_in}
use Rattle.group_laws.specs.Stands.{HeldStands}
use Rattle.group_laws.proofs.Versions.{now_agreement, now_version, shared_is}
use Rattle.mux_tables.specs.declared.tables.Start.{Start}
use Rattle.mux_tables.specs.declared.tables.Tables.{Tables}
use Rattle.mux_tables.specs.Documents.{DocumentsStand, SharedStands, nothing_owed}
use Rattle.mux_tables.specs.Stands.{Stands}

alike : (a : Agreement) → rows.is_agreed a ≡ is_agreed a
alike (Agrees held changed) = refl
alike Differs = refl
alike NotOpen = refl

module _ (settings : Settings) (t : Tables) (events : List Event) (g : ℕ) (x : Start) (d : Documents) (at : slice_get t.lasts.items g ≡ Some x) (has : slice_get t.documents.items g ≡ Some d) (ready : x.life.stage ≡ Ready) (ds : DocumentsStand settings nothing_owed t events) where
  abbrev s : ℕ
  s = x.life.start

  shared : SharedStands settings events [] x.life.group s Ready d
  shared = subst (λ (q : Stage). SharedStands settings events [] x.life.group s q d) ready (ds.each g x d at has)

  holds : HeldStands s shared.start.code d events
  holds = subst (λ es. HeldStands s shared.start.code d es) (append-nil events) shared.start.holds

  pub sayings_here : sayings_of s events ≡ d.sent
  sayings_here = sym holds.counts.sent

  pub agreement_here : (e : ℕ) (u : List ℕ) → Stands settings t events → agreement_at settings s e events u ≡ agreement e u d
  agreement_here e u st = now_agreement settings x.life.group s e shared.start.code d events shared.texts holds (st.lasts.each g x at).home u

  pub version_here : (e : ℕ) (u : List ℕ) → Stands settings t events → version_at settings s e events u ≡ option_map (λ (o : Open). o.version) (find (is_open_at e u) d.opens)
  version_here e u st = now_version settings x.life.group s e shared.start.code d events shared.texts holds (st.lasts.each g x at).home u

  -- of all that an editor has open
  agrees_from : (e : ℕ) → Stands settings t events → (os : List Open) → list_all (agrees_on settings s events e) os ≡ list_all (λ u. is_agreed (agreement e u d)) (uris_of e os)
  agrees_from e st [] = refl
  agrees_from e st (o ∷ os) = go (nat_eq o.editor e) refl (agrees_from e st os)
    where
      go : (b : Bool) → nat_eq o.editor e ≡ b → list_all (agrees_on settings s events e) os ≡ list_all (λ u. is_agreed (agreement e u d)) (uris_of e os)
          → ((not b || rows.is_agreed (agreement_at settings s e events o.uri)) && list_all (agrees_on settings s events e) os) ≡ list_all (λ u. is_agreed (agreement e u d)) ((if b then o.uri ∷ [] else []) ++ uris_of e os)
      go true same rest = ap₂ (λ a b. a && b) (ap rows.is_agreed (agreement_here e o.uri st) ∙ alike (agreement e o.uri d)) rest
      go false other rest = rest

  pub agrees_here : (e : ℕ) → Stands settings t events → rows.agrees_on_all settings s events e ≡ agrees_on_all e d
  agrees_here e st = ap (λ (x : Texts). list_all (agrees_on settings s events e) x.opens) (shared_is settings x.life.group s events (texts_in d) (st.lasts.each g x at).home shared.texts.texts) ∙ agrees_from e st d.opens
