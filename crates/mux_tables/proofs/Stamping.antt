-- The versions of an editor's documents, by their URIs.
use Rattle.std.proofs.Common.{◌≡◌, ℕ, Bool, true, false, ◌&&◌, List, [], ◌∷◌, ◌++◌, find, flat_map, map, nat_eq, bytes_eq, refl, sym, ap, ◌∙◌, cond, append_assoc, if◌then◌else◌}
use Rattle.std.specs.Prelude.{Option, Some, None, option_map}
use Rattle.std.specs.Option.{option_map_or}
use Rattle.std.proofs.lemmas.List.Concat.{flat_map-cons}
use Rattle.document_model.specs.Opens.{Open, holds_own, is_open_at}
use Rattle.document_model.proofs.Holders.{bytes_same, find_is}
use Rattle.document_model.specs.declared.agreement.Agreement.TheVariants.{Agrees, Differs, NotOpen}
use Rattle.focus_switch.specs.declared.held.Held.{Held}
use Rattle.focus_switch.specs.declared.version.DocumentVersion.{DocumentVersion}
use Rattle.focus_switch.specs.Documents.{Documents, held_of, version_held}
use Rattle.focus_switch.specs.Rows.{agreement, agreement_of}
use Rattle.focus_switch.specs.Versions.{version_of, versions_of}
use Rattle.json_text.proofs.Put.{same_name}
use Rattle.id_rewrite.specs.response_route.specs.declared.versions.Stamp.{Stamp}
use Rattle.id_rewrite.specs.response_route.specs.Versions.{stamp_of}
use Rattle.group_laws.specs.group_rows.specs.Answers.{stamped}
use Rattle.group_laws.specs.group_rows.specs.Texts.{touched_at}
use Rattle.mux_tables.specs.Notes.{agreed_in, now_version, stamp_from, stamp_in}

bytes_other : (a b : List ℕ) → bytes_eq a b ≡ bytes_eq b a
bytes_other a b = go (bytes_eq a b) refl (bytes_eq b a) refl
  where
    go : (x : Bool) → bytes_eq a b ≡ x → (y : Bool) → bytes_eq b a ≡ y → x ≡ y
    go true h true k = refl
    go false h false k = refl
    go true h false k = sym (same_name b) ∙ (ap (bytes_eq b) (sym (bytes_same a b h)) ∙ k)
    go false h true k = sym h ∙ (ap (bytes_eq a) (bytes_same b a k) ∙ same_name a)

module _ (e : ℕ) (u : List ℕ) (version : Open → DocumentVersion) (named : (o : Open) → (version o).uri ≡ o.uri) where
  abbrev rest_of : List Open → List DocumentVersion
  rest_of os = flat_map (λ o. if nat_eq o.editor e then version o ∷ [] else []) os

  stamp_found : (os : List Open) → stamp_in u (flat_map (λ o. if nat_eq o.editor e then version o ∷ [] else []) os) ≡ option_map (λ o. stamp_from (version o)) (find (is_open_at e u) os)
  stamp_found [] = refl
  stamp_found (o ∷ os) = ap (stamp_in u) (flat_map-cons (λ o. if nat_eq o.editor e then version o ∷ [] else []) o os) ∙ go (nat_eq o.editor e) (stamp_found os)
    where
      own : (b : Bool) → stamp_in u (rest_of os) ≡ option_map (λ o. stamp_from (version o)) (find (is_open_at e u) os)
          → (if b then Some (stamp_from (version o)) else stamp_in u (rest_of os)) ≡ option_map (λ o. stamp_from (version o)) (cond b (Some o) (find (is_open_at e u) os))
      own true h = refl
      own false h = h

      go : (b : Bool) → stamp_in u (rest_of os) ≡ option_map (λ o. stamp_from (version o)) (find (is_open_at e u) os)
          → stamp_in u ((if b then version o ∷ [] else []) ++ rest_of os) ≡ option_map (λ o. stamp_from (version o)) (cond (b && bytes_eq o.uri u) (Some o) (find (is_open_at e u) os))
      go true h = ap (λ c. if c then Some (stamp_from (version o)) else stamp_in u (rest_of os)) (ap (bytes_eq u) (named o) ∙ bytes_other u o.uri) ∙ own (bytes_eq o.uri u) h
      go false h = h

  found_alike : (v : Option ℕ) (f : Open → Option ℕ) (p : Option Open) → ((o : Open) → p ≡ Some o → stamp_from (version o) ≡ stamped (f o) o) → option_map (λ o. stamp_from (version o)) p ≡ option_map (λ o. stamped (f o) o) p
  found_alike v f None h = refl
  found_alike v f (Some o) h = ap (λ x. Some x) (h o refl)

-- as they are noted
pub noted_stamps : (e : ℕ) (u : List ℕ) (d : Documents) → stamp_in u (versions_of e d) ≡ option_map (λ o. stamped (version_held u d.helds) o) (find (is_open_at e u) d.opens)
noted_stamps e u d = stamp_found e u (λ o. version_of o d) (λ o. refl) d.opens
    ∙ found_alike e u (λ o. version_of o d) (λ o. refl) None (λ o. version_held u d.helds) (find (is_open_at e u) d.opens) (λ o there. ap (λ w. stamped (version_held w d.helds) o) (find_is e u d.opens o there).1)

-- and as they are read at an answer
map_each : (f : DocumentVersion → DocumentVersion) (version : Open → DocumentVersion) (e : ℕ) (os : List Open)
    → map f (flat_map (λ o. if nat_eq o.editor e then version o ∷ [] else []) os) ≡ flat_map (λ o. if nat_eq o.editor e then f (version o) ∷ [] else []) os
map_each f version e [] = refl
map_each f version e (o ∷ os) = ap (map f) (flat_map-cons (λ o. if nat_eq o.editor e then version o ∷ [] else []) o os)
    ∙ (go (nat_eq o.editor e) (map_each f version e os) ∙ sym (flat_map-cons (λ o. if nat_eq o.editor e then f (version o) ∷ [] else []) o os))
  where
    go : (b : Bool) → map f (flat_map (λ o. if nat_eq o.editor e then version o ∷ [] else []) os) ≡ flat_map (λ o. if nat_eq o.editor e then f (version o) ∷ [] else []) os
        → map f ((if b then version o ∷ [] else []) ++ flat_map (λ o. if nat_eq o.editor e then version o ∷ [] else []) os) ≡ (if b then f (version o) ∷ [] else []) ++ flat_map (λ o. if nat_eq o.editor e then f (version o) ∷ [] else []) os
    go true h = ap (λ xs. f (version o) ∷ xs) h
    go false h = h

agreed_is : (o : Open) (h : Option Held) (d : Documents) → agreed_in (agreement_of o h d) ≡ (if holds_own o d.opens then option_map (λ (x : Held). x.version) h else None)
agreed_is o (Some h) d = go (holds_own o d.opens)
  where
    go : (b : Bool) → agreed_in (if b then Agrees h.version h.sent else Differs) ≡ (if b then Some h.version else None)
    go true = refl
    go false = refl
agreed_is o None d = go (holds_own o d.opens)
  where
    go : (b : Bool) → ◌≡◌ {A = Option ℕ} None (if b then None else None)
    go true = refl
    go false = refl

pub now_stamps : (e : ℕ) (u : List ℕ) (d : Documents) → stamp_in u (map (now_version e d) (versions_of e d)) ≡ option_map (λ o. stamped (if holds_own o d.opens then version_held u d.helds else None) o) (find (is_open_at e u) d.opens)
now_stamps e u d = ap (stamp_in u) (map_each (now_version e d) (λ o. version_of o d) e d.opens) ∙ (stamp_found e u (λ o. now_version e d (version_of o d)) (λ o. refl) d.opens
    ∙ found_alike e u (λ o. now_version e d (version_of o d)) (λ o. refl) None (λ o. if holds_own o d.opens then version_held u d.helds else None) (find (is_open_at e u) d.opens) one)
  where
    one : (o : Open) → find (is_open_at e u) d.opens ≡ Some o → stamp_from (now_version e d (version_of o d)) ≡ stamped (if holds_own o d.opens then version_held u d.helds else None) o
    one o there =
        let same : o.uri ≡ u = (find_is e u d.opens o there).1 in
        ap (λ v. stamped v o) (ap (λ w. agreed_in (agreement e w d)) same ∙ (ap (λ p. agreed_in (option_map_or (λ (q : Open). agreement_of q (held_of q.uri d.helds) d) p NotOpen)) there
        ∙ (agreed_is o (held_of o.uri d.helds) d ∙ ap (λ w. if holds_own o d.opens then version_held w d.helds else None) same)))

-- a touch changes no versions
abbrev TouchedAlike : ℕ → ℕ → ℕ → List ℕ → Option ℕ → List Open → Type 0
TouchedAlike e k turn u v os = option_map (λ o. stamped v o) (find (is_open_at e u) (map (touched_at k turn) os)) ≡ option_map (λ o. stamped v o) (find (is_open_at e u) os)

pub touched_stamps : (e k turn : ℕ) (u : List ℕ) (v : Option ℕ) (os : List Open) → option_map (λ o. stamped v o) (find (is_open_at e u) (map (touched_at k turn) os)) ≡ option_map (λ o. stamped v o) (find (is_open_at e u) os)
touched_stamps e k turn u v [] = refl
touched_stamps e k turn u v (o ∷ os) = go (nat_eq o.editor k) (touched_stamps e k turn u v os)
  where
    either : (p : Open) → p.version ≡ o.version → (c : Bool) → TouchedAlike e k turn u v os
        → option_map (λ o. stamped v o) (cond c (Some p) (find (is_open_at e u) (map (touched_at k turn) os))) ≡ option_map (λ o. stamped v o) (cond c (Some o) (find (is_open_at e u) os))
    either p same true h = ap (λ w. Some (record { held = v; version = w })) same
    either p same false h = h

    go : (a : Bool) → TouchedAlike e k turn u v os → option_map (λ o. stamped v o) (find (is_open_at e u) ((if a then record o { touched = turn } else o) ∷ map (touched_at k turn) os)) ≡ option_map (λ o. stamped v o) (cond (is_open_at e u o) (Some o) (find (is_open_at e u) os))
    go true h = either (record o { touched = turn }) refl (is_open_at e u o) h
    go false h = either o refl (is_open_at e u o) h

-- one more is taken from the end of a list
pub popped : (all left less rest : List DocumentVersion) (x : DocumentVersion) → all ≡ left ++ rest → left ≡ less ++ x ∷ [] → all ≡ less ++ x ∷ rest
popped all left less rest x is taken = is ∙ (ap (λ xs. xs ++ rest) taken ∙ append_assoc less (x ∷ []) rest)

pub stamped_more : (x : DocumentVersion) (ys : List DocumentVersion) (old new : List (List ℕ × Stamp)) → ((u : List ℕ) → stamp_of u old ≡ stamp_in u ys)
    → ((u : List ℕ) → stamp_of u new ≡ (if bytes_eq u x.uri then Some (stamp_from x) else stamp_of u old)) → (u : List ℕ) → stamp_of u new ≡ stamp_in u (x ∷ ys)
stamped_more x ys old new had has u = has u ∙ ap (λ o. if bytes_eq u x.uri then Some (stamp_from x) else o) (had u)
