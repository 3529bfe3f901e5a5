-- What is read of an editor, and what becomes of all, where its number was looked for among those that are kept.
use Rattle.std.proofs.Common.{◌≡◌, ℕ, ◌+◌, ◌<◌, Bool, true, false, List, [], ◌∷◌, ◌++◌, length, get_or, if◌then◌else◌, refl, sym, ap, ◌∙◌}
use Rattle.std.specs.Prelude.{None, slice_set}
use Rattle.std.specs.List.{remove}
use Rattle.event_model.specs.declared.phase.Phase.{Phase}
use Rattle.event_model.specs.declared.phase.Phase.TheVariants.{Absent, New, Waiting, Answered, Running, Down, Closed, Gone}
use Rattle.event_model.specs.Phases.{is_linked}
use Rattle.number_table.specs.declared.numbered.Numbered.{Numbered}
use Rattle.number_table.specs.Numbers.{IsAt, Rise, held, spread}
use Rattle.number_table.proofs.Places as places
use Rattle.number_table.proofs.Spreading.{all_at, all_push, all_remove, all_set}
use Rattle.editor_session.specs.declared.session.Session.{Session}
use Rattle.editor_session.specs.Kept.{AreLinked}
use Rattle.editor_session.specs.Sessions.{absent, asked, gone, has_number, in_phase, is_gone, joined, session_of, unless_gone, with_session}

abbrev Linked : Numbered Session → Type 0
Linked x = is_linked x.item.phase ≡ true

abbrev pub none_such : Numbered Session
none_such = record { number = 0; item = joined }

pub linked_stays : (p : Phase) → is_linked p ≡ true → is_gone p ≡ false
linked_stays Absent h = refl
linked_stays New h = refl
linked_stays Waiting h = refl
linked_stays Answered h = refl
linked_stays Running h = refl
linked_stays Down h = refl
linked_stays Closed h = refl
linked_stays Gone h = absurd (cc)

module _ (n : ℕ) (kept : List (Numbered Session)) (sessions : List Session) (is : spread gone 0 n kept ≡ sessions) (rise : Rise 0 n kept) where
  pub length_is : length sessions ≡ n
  length_is = places.length_is gone n kept sessions is rise

  -- one that isn't kept is gone
  module _ (e : ℕ) (l : e < length sessions) (none : held e kept ≡ None) where
    pub lost : session_of sessions e ≡ gone
    lost = places.lost gone n kept sessions is rise e l none absent

    pub lost_stays : (change : Session → Session) → sessions ≡ with_session sessions e (unless_gone change (session_of sessions e))
    lost_stays change = places.lost_stays gone n kept sessions is rise e l none absent (unless_gone change) refl

    pub lost_left : sessions ≡ with_session sessions e gone
    lost_left = places.lost_left gone n kept sessions is rise e l none absent

  -- one that is kept
  module _ (linked : AreLinked kept) (e k : ℕ) (l : e < length sessions) (at : IsAt kept e k) (t : Numbered Session) (there : t ≡ get_or kept k t) where
    pub kept_session : t.item ≡ session_of sessions e
    kept_session = places.kept_item gone n kept sessions is rise e k l at t there absent

    pub kept_linked : is_linked t.item.phase ≡ true
    kept_linked = all_at Linked kept k t at.inside there linked

    pub kept_stays : is_gone (session_of sessions e).phase ≡ false
    kept_stays = ap (λ (s : Session). is_gone s.phase) (sym kept_session) ∙ linked_stays t.item.phase kept_linked

    pub kept_set : (y : Numbered Session) (change : Session → Session) → y.number ≡ t.number → y.item ≡ change t.item → spread gone 0 n (slice_set kept k y) ≡ with_session sessions e (unless_gone change (session_of sessions e))
    kept_set y change same new = places.kept_set gone n kept sessions is rise e k l at t there y same
        ∙ ap (with_session sessions e) (new ∙ (ap change kept_session ∙ sym (ap (λ b. if b then session_of sessions e else change (session_of sessions e)) kept_stays)))

    pub kept_put : (y : Numbered Session) → y.number ≡ t.number → spread gone 0 n (slice_set kept k y) ≡ with_session sessions e y.item
    kept_put y same = places.kept_set gone n kept sessions is rise e k l at t there y same

    pub kept_order : (y : Numbered Session) → y.number ≡ t.number → is_linked y.item.phase ≡ true → Rise 0 n (slice_set kept k y) × AreLinked (slice_set kept k y)
    kept_order y same there_still = (places.kept_rise gone n kept sessions is rise e k l at t there y same, all_set Linked kept k y there_still linked)

    pub gone_set : (p : Phase) → is_gone p ≡ true → with_session sessions e gone ≡ with_session sessions e (unless_gone (in_phase p) (session_of sessions e))
    gone_set p now = ap (with_session sessions e) (sym (ap (λ b. if b then session_of sessions e else in_phase p (session_of sessions e)) kept_stays ∙ ap (λ b. if b then gone else record (session_of sessions e) { phase = p }) now))

  pub kept_left : (e k : ℕ) → IsAt kept e k → spread gone 0 n (remove kept k) ≡ with_session sessions e gone
  kept_left e k at = places.kept_left gone n kept sessions is rise e k at

  pub left_order : AreLinked kept → (k : ℕ) → Rise 0 n (remove kept k) × AreLinked (remove kept k)
  left_order linked k = (places.left_rise gone n kept sessions is rise k, all_remove Linked kept k linked)

  -- the next one joins
  pub one_joins : (e : ℕ) → e ≡ length sessions → spread gone 0 (e + 1) (kept ++ record { number = e; item = joined } ∷ []) ≡ sessions ++ joined ∷ []
  one_joins e next = places.one_comes gone n kept sessions is rise e joined next

  pub joins_order : AreLinked kept → (e : ℕ) → e ≡ length sessions → Rise 0 (e + 1) (kept ++ record { number = e; item = joined } ∷ []) × AreLinked (kept ++ record { number = e; item = joined } ∷ [])
  joins_order linked e next = (places.comes_rise gone n kept sessions is rise e joined next, all_push Linked kept (record { number = e; item = joined }) refl linked)

-- a phase that isn't gone
pub is_there_still : (p : Phase) → is_gone p ≡ false → (p ≡ Absent → ⊥) → is_linked p ≡ true
is_there_still Absent h k = absurd (k refl)
is_there_still New h k = refl
is_there_still Waiting h k = refl
is_there_still Answered h k = refl
is_there_still Running h k = refl
is_there_still Down h k = refl
is_there_still Closed h k = refl
is_there_still Gone h k = absurd (cc)

pub set_there : (p : Phase) (x : Session) → is_gone p ≡ false → record x { phase = p } ≡ in_phase p x
set_there p x h = sym (ap (λ b. if b then gone else record x { phase = p }) h)

-- one that is asked stands where it stood
pub asked_linked : (x : Session) → is_linked x.phase ≡ true → is_linked (asked x).phase ≡ true
asked_linked x h = go (has_number x)
  where
    go : (b : Bool) → is_linked (if b then record x { asks = x.asks + 1 } else x).phase ≡ true
    go true = h
    go false = h
