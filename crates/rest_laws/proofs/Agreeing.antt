-- A start agrees with an editor on all that it has open just where it has the editor's own language and text of each.
use Rattle.std.proofs.Common.{◌≡◌, ◌↔◌, ℕ, Bool, true, false, not, ◌&&◌, ◌||◌, cond, List, [], ◌∷◌, ◌++◌, append_assoc, bytes_eq, nat_eq, Option, None, Some, refl, sym, ◌∙◌, ap, ap₂, subst}
use Rattle.std.specs.Prelude.{find}
use Rattle.std.specs.List.{list_all}
use Rattle.std.specs.Option.{option_map_or}
use Rattle.std.proofs.lemmas.Bool.{and_parts}
use Rattle.std.proofs.lemmas.Slice.Eq.{bytes_eq-Decides}
use Rattle.document_model.specs.declared.agreement.Agreement.TheVariants.{NotOpen}
use Rattle.document_model.specs.Helds.{HeldText}
use Rattle.document_model.specs.Opens.{Open, is_open_at}
use Rattle.document_model.specs.Rows.{Agrees, agrees}
use Rattle.document_model.specs.Texts.{found}
use Rattle.document_model.proofs.Holders.{both_true, bytes_same, find_is}
use Rattle.event_model.specs.Event.{Event}
use Rattle.event_model.specs.Settings.{Settings}
use Rattle.event_model.proofs.Frames.{never}
use Rattle.mux_model.specs.Documents.{held_at}
use Rattle.mux_facts.proofs.Words.{same_number}
use Rattle.group_rows.specs.Answers.{shared_texts}
use Rattle.group_rows.specs.Debts.{agrees_on, agrees_on_all, is_agreed}
use Rattle.group_rows.specs.Lists.{agreement_at, agreement_by, changed_of}
use Rattle.group_facts.specs.OwnTexts.{HasOwn}
use Rattle.group_facts.specs.OwnVersions.{HasOwnTexts}

-- what passes of all is so of the one that is found
found_passes : (test named : Open → Bool) (os : List Open) (o : Open) → list_all test os ≡ true → find named os ≡ Some o → test o ≡ true
found_passes test named [] o all is = absurd (cc)
found_passes test named (p ∷ os) o all is = go (named p) is (λ k. found_passes test named os o both.1 k)
  where
    both : (test p ≡ true) × (list_all test os ≡ true)
    both = and_parts (test p) (list_all test os) all

    go : (b : Bool) → cond b (Some p) (find named os) ≡ Some o → (find named os ≡ Some o → test o ≡ true) → test o ≡ true
    go true at rest = let same : p ≡ o = cc in subst (λ z. test z ≡ true) same both.0
    go false at rest = rest at

-- and one that is there is found
none_there : (named : Open → Bool) (earlier : List Open) (o : Open) (os : List Open) → find named (earlier ++ o ∷ os) ≡ None → named o ≡ true → ⊥
none_there named [] o os none is = go (named o) is none
  where
    go : (b : Bool) → b ≡ true → cond b (Some o) (find named os) ≡ None → ⊥
    go true h k = cc
    go false h k = never (sym h)
none_there named (p ∷ earlier) o os none is = go (named p) none (λ k. none_there named earlier o os k is)
  where
    go : (b : Bool) → cond b (Some p) (find named (earlier ++ o ∷ os)) ≡ None → (find named (earlier ++ o ∷ os) ≡ None → ⊥) → ⊥
    go true k rest = cc
    go false k rest = rest k

agrees_of : (o : Open) (h : HeldText) → agrees o h ≡ true → Agrees o h
agrees_of o h is = let both = both_true (bytes_eq h.language o.language) (bytes_eq h.text o.text) is in (bytes_same h.language o.language both.0, bytes_same h.text o.text both.1)

pub agrees_is : (o : Open) (h : HeldText) → Agrees o h → agrees o h ≡ true
agrees_is o h k = ap₂ (λ a b. a && b) ((bytes_eq-Decides h.language o.language).1 k.0) ((bytes_eq-Decides h.text o.text).1 k.1)

by_agreed : (o : Open) (held : Option HeldText) (changed : ℕ) → is_agreed (agreement_by held changed o) ≡ true → HasOwn o held
by_agreed o None changed is = never (sym is)
by_agreed o (Some h) changed is = go (agrees o h) refl is
  where
    go : (b : Bool) → agrees o h ≡ b → is_agreed (agreement_by (Some h) changed o) ≡ true → Agrees o h
    go true k is = agrees_of o h k
    go false k is = never (sym (sym (rw k refl) ∙ is))

agreed_by : (o : Open) (held : Option HeldText) (changed : ℕ) → HasOwn o held → is_agreed (agreement_by held changed o) ≡ true
agreed_by o None changed k = absurd k
agreed_by o (Some h) changed k = rw (agrees_is o h k) refl

module _ (settings : Settings) (s e : ℕ) (events : List Event) where
  abbrev opens : List Open
  opens = (shared_texts settings s events).opens

  own_of : agrees_on_all settings s events e ≡ true → HasOwnTexts settings s e events
  own_of all u o is = by_agreed o (held_at s u events) (changed_of s u events) (sym (ap (λ x. is_agreed (option_map_or (agreement_by (held_at s u events) (changed_of s u events)) x NotOpen)) is) ∙ here)
    where
      place : (o.editor ≡ e) × (o.uri ≡ u)
      place = find_is e u opens o is

      here : is_agreed (agreement_at settings s e events u) ≡ true
      here = sym (ap₂ (λ n w. not (nat_eq n e) || is_agreed (agreement_at settings s e events w)) place.0 place.1 ∙ ap (λ b. not b || is_agreed (agreement_at settings s e events u)) (same_number e))
          ∙ found_passes (agrees_on settings s events e) (is_open_at e u) opens o all is

  one_agrees : HasOwnTexts settings s e events → (o : Open) → (find (is_open_at e o.uri) opens ≡ None → nat_eq o.editor e ≡ true → ⊥) → agrees_on settings s events e o ≡ true
  one_agrees own o there = go (nat_eq o.editor e) refl
    where
      there_is : (x : Option Open) → found e o.uri (shared_texts settings s events) ≡ x → nat_eq o.editor e ≡ true → is_agreed (option_map_or (agreement_by (held_at s o.uri events) (changed_of s o.uri events)) x NotOpen) ≡ true
      there_is None is mine = absurd (there is mine)
      there_is (Some p) is mine = agreed_by p (held_at s o.uri events) (changed_of s o.uri events) (own o.uri p is)

      go : (b : Bool) → nat_eq o.editor e ≡ b → (not b || is_agreed (agreement_at settings s e events o.uri)) ≡ true
      go true mine = there_is (found e o.uri (shared_texts settings s events)) refl mine
      go false other = refl

  all_agree : HasOwnTexts settings s e events → (earlier later : List Open) → opens ≡ earlier ++ later → list_all (agrees_on settings s events e) later ≡ true
  all_agree own earlier [] parts = refl
  all_agree own earlier (o ∷ later) parts = ap₂ (λ a b. a && b)
      (one_agrees own o (λ none mine. none_there (is_open_at e o.uri) earlier o later (ap (find (is_open_at e o.uri)) (sym parts) ∙ none) (ap₂ (λ a b. a && b) mine ((bytes_eq-Decides o.uri o.uri).1 refl))))
      (all_agree own (earlier ++ o ∷ []) later (parts ∙ sym (append_assoc earlier (o ∷ []) later)))

  pub agreement : (agrees_on_all settings s events e ≡ true) ↔ HasOwnTexts settings s e events
  agreement = (own_of, λ own. all_agree own [] opens refl)
