-- A document that is open: where its editor holds it, what the start has is its own.
use Rattle.std.proofs.Common.{◌≡◌, ℕ, Bool, true, false, ◌&&◌, not, List, refl, sym, ◌∙◌, ap, ap₂}
use Rattle.std.specs.Prelude.{Option, Some, None, ◌||◌, find, nat_eq, bytes_eq}
use Rattle.std.specs.Option.{option_map_or}
use Rattle.std.proofs.lemmas.Bool.{eqb-true}
use Rattle.json_text.proofs.Put.{same_name}
use Rattle.document_model.specs.Opens.{Open, is_open_at, holder, holder_beside, holds, holds_language, holds_own}
use Rattle.document_model.specs.Orderly.{Once}
use Rattle.document_model.proofs.Holders.{bytes_same, find_is}
use Rattle.document_model.proofs.Orders.{IsFound, all_found}
use Rattle.focus_switch.specs.Documents.{Documents}
use Rattle.focus_switch.specs.Rows.{differing, differing_own}
use Rattle.document_laws.proofs.Sends.{latest_of}
use Rattle.document_laws.proofs.Tellings.{told_if}

-- what is found at an editor, or is the next holder, is open
pub found_there : (e : ℕ) (u : List ℕ) (os : List Open) (o : Open) → find (is_open_at e u) os ≡ Some o → IsFound os o
found_there e u os o h = let q : (o.editor ≡ e) × (o.uri ≡ u) = find_is e u os o h in ap₂ (λ a b. find (is_open_at a b) os) q.0 q.1 ∙ h

pub beside_there : (e : ℕ) (u : List ℕ) (os : List Open) (o : Open) → Once os → holder_beside e u os ≡ Some o → IsFound os o
beside_there e u os o once h = (latest_of (IsFound os) (λ p. bytes_eq p.uri u && not (nat_eq p.editor e)) os o (all_found os once) h).0

-- the holder of an open document, which is the editor's, is the editor's document
own_holder : (o p : Open) (os : List Open) → IsFound os o → IsFound os p → o.uri ≡ p.uri → nat_eq p.editor o.editor ≡ true → p ≡ o
own_holder o p os f g same h =
    let both : Some p ≡ Some o = sym g ∙ (ap₂ (λ e u. find (is_open_at e u) os) (eqb-true p.editor o.editor h) (sym same) ∙ f) in cc

itself_alike : (o : Open) → (bytes_eq o.language o.language && bytes_eq o.text o.text) ≡ true
itself_alike o = ap₂ (λ a b. a && b) (same_name o.language) (same_name o.text)

pub own_is : (o : Open) (os : List Open) → Once os → IsFound os o → holds_own o os ≡ holds o os
own_is o os once there = go (holder o.uri os) refl
  where
    go : (q : Option Open) → holder o.uri os ≡ q → option_map_or (λ (k : Open). nat_eq k.editor o.editor || (bytes_eq k.language o.language && bytes_eq k.text o.text)) q false
        ≡ option_map_or (λ (k : Open). bytes_eq k.language o.language && bytes_eq k.text o.text) q false
    go None d = refl
    go (Some p) d = which (nat_eq p.editor o.editor) refl
      where
        found : IsFound os p × (bytes_eq p.uri o.uri ≡ true)
        found = latest_of (IsFound os) (λ k. bytes_eq k.uri o.uri) os p (all_found os once) d

        which : (b : Bool) → nat_eq p.editor o.editor ≡ b → (b || (bytes_eq p.language o.language && bytes_eq p.text o.text)) ≡ (bytes_eq p.language o.language && bytes_eq p.text o.text)
        which false e = refl
        which true e = let same : p ≡ o = own_holder o p os there found.0 (sym (bytes_same p.uri o.uri found.1)) e in
            sym (ap (λ (k : Open). bytes_eq k.language o.language && bytes_eq k.text o.text) same ∙ itself_alike o)

pub differ_own : (s : Documents) (o : Open) (v : ℕ) → Once s.opens → IsFound s.opens o → differing_own o v s ≡ differing o v s
differ_own s o v once there = ap (λ b. told_if b (holds_language o s.opens) s.versions o v) (own_is o s.opens once there)
