-- What is kept of one document, behind what is put of another or taken away.
use Rattle.std.proofs.Common.{◌≡◌, ℕ, Bool, true, false, cond, not, List, [], ◌∷◌, refl, sym, ◌∙◌, ap}
use Rattle.std.specs.Prelude.{Option, Some, None, bytes_eq, if◌then◌else◌}
use Rattle.std.specs.Option.{option_map}
use Rattle.std.specs.declared.cmp.Ordering.{Ordering}
use Rattle.std.specs.declared.cmp.Ordering.TheVariants.{Less, Equal, Greater}
use Rattle.std.specs.Ordering.{nat_cmp, is_eq, match_ordering}
use Rattle.std.specs.Cmp.Lexicographic.{slice_cmp}
use Rattle.std.proofs.lemmas.Map.Text.{is_eq-slice_cmp}
use Rattle.json_text.proofs.Put.{same_name}
use Rattle.focus_switch.specs.declared.held.Held.{Held}
use Rattle.focus_switch.specs.Documents.{held_of, version_held, put_held, drop_held, helds_behind}
use Rattle.document_model.proofs.Holders.{bytes_same}

-- a document that is put down is put down alone

held_put : (u : List ℕ) (h : Held) (hs : List (List ℕ × Held)) → held_of u (put_held u h hs) ≡ Some h
held_put u h [] = ap (λ z. if z then Some h else held_of u []) (same_name u)
held_put u h (k ∷ ks) = go (slice_cmp nat_cmp u k.0) (is_eq-slice_cmp u k.0) (held_put u h ks)
  where
    go : (r : Ordering) → is_eq r ≡ bytes_eq u k.0 → held_of u (put_held u h ks) ≡ Some h → held_of u (match_ordering r ((u, h) ∷ k ∷ ks) ((k.0, h) ∷ ks) (k ∷ put_held u h ks)) ≡ Some h
    go Less d r = ap (λ z. if z then Some h else held_of u (k ∷ ks)) (same_name u)
    go Equal d r = ap (λ z. if z then Some h else held_of u ks) (sym d)
    go Greater d r = ap (λ z. if z then Some k.1 else held_of u (put_held u h ks)) (sym d) ∙ r

held_put_other : (u w : List ℕ) (h : Held) (hs : List (List ℕ × Held)) → bytes_eq w u ≡ false → held_of w (put_held u h hs) ≡ held_of w hs
held_put_other u w h [] d = ap (λ z. if z then Some h else held_of w []) d
held_put_other u w h (k ∷ ks) d = go (slice_cmp nat_cmp u k.0) (is_eq-slice_cmp u k.0) (held_put_other u w h ks d)
  where
    go : (r : Ordering) → is_eq r ≡ bytes_eq u k.0 → held_of w (put_held u h ks) ≡ held_of w ks → held_of w (match_ordering r ((u, h) ∷ k ∷ ks) ((k.0, h) ∷ ks) (k ∷ put_held u h ks)) ≡ held_of w (k ∷ ks)
    go Less c r = ap (λ z. if z then Some h else held_of w (k ∷ ks)) d
    go Equal c r = let not_here : bytes_eq w k.0 ≡ false = ap (bytes_eq w) (sym (bytes_same u k.0 (sym c))) ∙ d in
        ap (λ z. if z then Some h else held_of w ks) not_here ∙ sym (ap (λ z. if z then Some k.1 else held_of w ks) not_here)
    go Greater c r = ap (λ z. if bytes_eq w k.0 then Some k.1 else z) r

-- and one that is dropped is dropped alone

held_drop : (u : List ℕ) (hs : List (List ℕ × Held)) → held_of u (drop_held u hs) ≡ None
held_drop u [] = refl
held_drop u (k ∷ ks) = go (bytes_eq u k.0) refl (held_drop u ks)
  where
    go : (b : Bool) → bytes_eq u k.0 ≡ b → held_of u (drop_held u ks) ≡ None → held_of u (cond (not b) (k ∷ drop_held u ks) (drop_held u ks)) ≡ None
    go true d r = r
    go false d r = ap (λ z. if z then Some k.1 else held_of u (drop_held u ks)) d ∙ r

held_drop_other : (u w : List ℕ) (hs : List (List ℕ × Held)) → bytes_eq w u ≡ false → held_of w (drop_held u hs) ≡ held_of w hs
held_drop_other u w [] d = refl
held_drop_other u w (k ∷ ks) d = go (bytes_eq u k.0) refl (held_drop_other u w ks d)
  where
    go : (b : Bool) → bytes_eq u k.0 ≡ b → held_of w (drop_held u ks) ≡ held_of w ks → held_of w (cond (not b) (k ∷ drop_held u ks) (drop_held u ks)) ≡ held_of w (k ∷ ks)
    go true c r = r ∙ sym (ap (λ z. if z then Some k.1 else held_of w ks) (ap (bytes_eq w) (sym (bytes_same u k.0 c)) ∙ d))
    go false c r = ap (λ z. if bytes_eq w k.0 then Some k.1 else z) r

-- so the version is kept for the document that was told of, and for no other

pub version_put : (u : List ℕ) (v : Option ℕ) (n : ℕ) (hs : List (List ℕ × Held)) → version_held u (helds_behind u v n hs) ≡ v
version_put u (Some v) n hs = ap (option_map (λ (h : Held). h.version)) (held_put u (record { version = v; sent = n }) hs)
version_put u None n hs = ap (option_map (λ (h : Held). h.version)) (held_drop u hs)

pub version_put_other : (u w : List ℕ) (v : Option ℕ) (n : ℕ) (hs : List (List ℕ × Held)) → bytes_eq w u ≡ false → version_held w (helds_behind u v n hs) ≡ version_held w hs
version_put_other u w (Some v) n hs d = ap (option_map (λ (h : Held). h.version)) (held_put_other u w (record { version = v; sent = n }) hs d)
version_put_other u w None n hs d = ap (option_map (λ (h : Held). h.version)) (held_drop_other u w hs d)

-- and the count, where the start has the document

pub sent_put : (u : List ℕ) (v : Option ℕ) (n : ℕ) (hs : List (List ℕ × Held)) (h : Held) → held_of u (helds_behind u v n hs) ≡ Some h → h.sent ≡ n
sent_put u (Some v) n hs h is = let same : ◌≡◌ {A = Option Held} (Some (record { version = v; sent = n })) (Some h) = sym (held_put u (record { version = v; sent = n }) hs) ∙ is in
    count (record { version = v; sent = n }) h same
  where
    count : (k h : Held) → Some k ≡ Some h → h.sent ≡ k.sent
    count k h e = let same : k ≡ h = cc in ap (λ (x : Held). x.sent) (sym same)
sent_put u None n hs h is = let none : ◌≡◌ {A = Option Held} None (Some h) = sym (held_drop u hs) ∙ is in absurd (cc)

pub held_put_beside : (u w : List ℕ) (v : Option ℕ) (n : ℕ) (hs : List (List ℕ × Held)) → bytes_eq w u ≡ false → held_of w (helds_behind u v n hs) ≡ held_of w hs
held_put_beside u w (Some v) n hs d = held_put_other u w (record { version = v; sent = n }) hs d
held_put_beside u w None n hs d = held_drop_other u w hs d
