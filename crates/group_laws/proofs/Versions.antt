-- The versions of an editor's documents, by what is kept of its group: what V1 reads as a request is sent on, and where it is answered. And whether a start has an editor's text, and since when.
use Rattle.std.proofs.Common.{◌≡◌, ℕ, false, ◌&&◌, List, find, bytes_eq, if◌then◌else◌, refl, sym, ◌∙◌, ap, ap₂}
use Rattle.std.specs.Prelude.{Option, Some, None, option_map}
use Rattle.std.specs.Option.{option_map_or}
use Rattle.position_codec.specs.declared.Encoding.{Encoding}
use Rattle.document_model.specs.Helds.{HeldText}
use Rattle.document_model.specs.Opens.{Open, holder, holds_own, is_open_at}
use Rattle.document_model.specs.Texts.{Texts, found, no_texts}
use Rattle.document_model.proofs.Holders.{find_is}
use Rattle.document_model.specs.declared.agreement.Agreement.TheVariants.{Agrees, Differs, NotOpen}
use Rattle.document_model.specs.Rows.{agrees}
use Rattle.focus_switch.specs.declared.held.Held.{Held}
use Rattle.focus_switch.specs.Documents.{Documents, held_of, version_held}
use Rattle.focus_switch.specs.Rows.{agreement, agreement_of}
use Rattle.document_laws.specs.Follows as follows
use Rattle.document_laws.specs.Follows.{Matches, texts_in}
use Rattle.document_laws.proofs.Owning.{found_there, own_is}
use Rattle.document_laws.proofs.Tellings.{agrees_is, holds_is}
use Rattle.event_model.specs.Event.{Event}
use Rattle.event_model.specs.Settings.{Settings}
use Rattle.event_model.specs.Spawns.{group_of}
use Rattle.group_rows.specs.mux_model.specs.Documents.{held_at}
use Rattle.group_rows.specs.Lists.{agreement_at, agreement_by, changed_of, version_at}
use Rattle.group_rows.specs.Answers.{agreed_version, held_version, shared_texts, stamp_at, stamped}
use Rattle.group_rows.specs.Texts.{texts_of}
use Rattle.group_laws.specs.Stands.{HeldStands, TextsStand}

version_is : (v : Option ℕ) (k : Option Open) (h : Option HeldText) → Matches v k h → option_map (λ (x : HeldText). x.version) h ≡ v
version_is (Some v) (Some k) (Some h) m = ap Some m.0
version_is None None None m = refl
version_is (Some v) (Some k) None m = absurd m
version_is (Some v) None h m = absurd m
version_is None (Some k) h m = absurd m
version_is None None (Some h) m = absurd m

agreed_is : (o : Open) (v : Option ℕ) (k : Option Open) (h : Option HeldText) → Matches v k h
    → agreed_version o h ≡ (if option_map_or (λ (p : Open). bytes_eq p.language o.language && bytes_eq p.text o.text) k false then v else None)
agreed_is o (Some v) (Some k) (Some h) m = ap₂ (λ a b. if bytes_eq a o.language && bytes_eq b o.text then Some h.version else None) m.1.0 m.1.1
    ∙ ap (λ n. if bytes_eq k.language o.language && bytes_eq k.text o.text then Some n else None) m.0
agreed_is o None None None m = refl
agreed_is o (Some v) (Some k) None m = absurd m
agreed_is o (Some v) None h m = absurd m
agreed_is o None (Some k) h m = absurd m
agreed_is o None None (Some h) m = absurd m

pub shared_is : (settings : Settings) (g s : ℕ) (events : List Event) (x : Texts) → group_of s events ≡ Some g → texts_of settings g events ≡ x → shared_texts settings s events ≡ x
shared_is settings g s events x home texts = ap (λ o. option_map_or (λ k. texts_of settings k events) o no_texts) home ∙ texts

-- as a request is sent on, behind a sync: what is open, and the versions that the start has, whoever holds the documents by then
pub noted_from : (settings : Settings) (g s e : ℕ) (x : Texts) (d : Documents) (events : List Event) → group_of s events ≡ Some g → texts_of settings g events ≡ x → follows.Held d (λ u. held_at s u events)
    → (u : List ℕ) → stamp_at held_version settings s e events u ≡ option_map (λ o. stamped (version_held u d.helds) o) (find (is_open_at e u) x.opens)
noted_from settings g s e x d events home texts held u = ap (λ (z : Texts). option_map (λ o. stamped (held_version o (held_at s u events)) o) (found e u z)) (shared_is settings g s events x home texts)
    ∙ ap (λ v. option_map (λ o. stamped v o) (find (is_open_at e u) x.opens)) (version_is (version_held u d.helds) (holder u d.opens) (held_at s u events) (held u))

module _ (settings : Settings) (g s e : ℕ) (code : Encoding) (d : Documents) (events : List Event) (texts : TextsStand settings g d events) (holds : HeldStands s code d events) (home : group_of s events ≡ Some g) where
  agreed_here : (u : List ℕ) (o : Open) → find (is_open_at e u) d.opens ≡ Some o → agreed_version o (held_at s u events) ≡ (if holds_own o d.opens then version_held u d.helds else None)
  agreed_here u o there = agreed_is o (version_held u d.helds) (holder u d.opens) (held_at s u events) (holds.held u)
      ∙ ap (λ w. if option_map_or (λ (p : Open). bytes_eq p.language o.language && bytes_eq p.text o.text) (holder w d.opens) false then version_held u d.helds else None) (sym (find_is e u d.opens o there).1)
      ∙ ap (λ b. if b then version_held u d.helds else None) (sym (own_is o d.opens (texts.orderly).once (found_there e u d.opens o there)))

  -- where it is answered
  pub now_stamp : (u : List ℕ) → stamp_at agreed_version settings s e events u ≡ option_map (λ o. stamped (if holds_own o d.opens then version_held u d.helds else None) o) (find (is_open_at e u) d.opens)
  now_stamp u = ap (λ (x : Texts). option_map (λ o. stamped (agreed_version o (held_at s u events)) o) (found e u x)) (shared_is settings g s events (texts_in d) home texts.texts) ∙ go (find (is_open_at e u) d.opens) refl
    where
      go : (p : Option Open) → find (is_open_at e u) d.opens ≡ p → option_map (λ o. stamped (agreed_version o (held_at s u events)) o) p ≡ option_map (λ o. stamped (if holds_own o d.opens then version_held u d.helds else None) o) p
      go (Some o) there = ap (λ v. Some (stamped v o)) (agreed_here u o there)
      go None there = refl

  -- whether the start has e's text, and since when
  by_kept : (u : List ℕ) (o : Open) → find (is_open_at e u) d.opens ≡ Some o → (x : Option Held) → held_of u d.helds ≡ x → (k : Option Open) → holder u d.opens ≡ k → (h : Option HeldText) → Matches (option_map (λ (y : Held). y.version) x) k h
      → agreement_by h (changed_of s u events) o ≡ agreement_of o x d
  by_kept u o there (Some x) is (Some p) best (Some h) m =
      let tests : holds_own o d.opens ≡ agrees o h = own_is o d.opens (texts.orderly).once (found_there e u d.opens o there)
      ∙ (holds_is o p d.opens (ap (λ w. holder w d.opens) (find_is e u d.opens o there).1 ∙ best) ∙ agrees_is o p h m.1) in
      ap₂ (λ n c. if agrees o h then Agrees n c else Differs) m.0 (sym (holds.counts.changed u x is)) ∙ ap (λ b. if b then Agrees x.version x.sent else Differs) (sym tests)
  by_kept u o there None is None best None m = refl
  by_kept u o there (Some x) is (Some p) best None m = absurd m
  by_kept u o there (Some x) is None best h m = absurd m
  by_kept u o there None is (Some p) best h m = absurd m
  by_kept u o there None is None best (Some h) m = absurd m

  pub now_agreement : (u : List ℕ) → agreement_at settings s e events u ≡ agreement e u d
  now_agreement u = ap (λ (x : Texts). option_map_or (agreement_by (held_at s u events) (changed_of s u events)) (found e u x) NotOpen) (shared_is settings g s events (texts_in d) home texts.texts) ∙ go (find (is_open_at e u) d.opens) refl
    where
      go : (p : Option Open) → find (is_open_at e u) d.opens ≡ p → option_map_or (agreement_by (held_at s u events) (changed_of s u events)) p NotOpen ≡ option_map_or (λ o. agreement_of o (held_of o.uri d.helds) d) p NotOpen
      go (Some o) there = by_kept u o there (held_of u d.helds) refl (holder u d.opens) refl (held_at s u events) (holds.held u) ∙ ap (λ w. agreement_of o (held_of w d.helds) d) (sym (find_is e u d.opens o there).1)
      go None there = refl

  -- and e's own version
  pub now_version : (u : List ℕ) → version_at settings s e events u ≡ option_map (λ (o : Open). o.version) (find (is_open_at e u) d.opens)
  now_version u = ap (λ (x : Texts). option_map (λ (o : Open). o.version) (found e u x)) (shared_is settings g s events (texts_in d) home texts.texts)
