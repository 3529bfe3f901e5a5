-- What the start has of a document behind what a row tells it.
use Rattle.std.proofs.Common.{◌≡◌, ℕ, ◌+◌, ◌^◌, ◌<◌, Bool, true, false, ◌&&◌, List, [], ◌∷◌, codes, decimal, refl, sym, ◌∙◌, ap, ap₂, subst, arith}
use Rattle.std.specs.Prelude.{Option, Some, None, nat_lt, bytes_eq, if◌then◌else◌, IsUtf8}
use Rattle.std.specs.Option.{unwrap_or, option_map_or}
use Rattle.std.proofs.lemmas.Bool.{ltb-true}
use Rattle.json_text.specs.Json.{Json}
use Rattle.json_text.proofs.Put.{same_name}
use Rattle.position_codec.specs.declared.Encoding.{Encoding}
use Rattle.document_model.specs.rpc_message.specs.Message.{message_of}
use Rattle.focus_switch.specs.declared.telling.Telling.{Telling}
use Rattle.focus_switch.specs.declared.telling.Telling.TheVariants.{Opens, Changes, Closes, OpensAnew}
use Rattle.document_model.specs.Opens.{Open, holder, holds, holds_language}
use Rattle.focus_switch.specs.Documents.{Documents}
use Rattle.focus_switch.specs.Rows.{switch, differing}
use Rattle.document_model.specs.Bodies.{open_text, full_text, close_text}
use Rattle.document_model.specs.Orderly.{IsSpelt}
use Rattle.document_model.proofs.Written.{number_law, open_says, FullSays, full_says, close_says}
use Rattle.document_model.specs.Sayings.{Saying, opens, changes, closes, saying_of}
use Rattle.document_model.specs.Texts.{text_after}
use Rattle.document_model.specs.Helds.{HeldText, number_of, changed_held, told}
use Rattle.document_model.specs.Rows as sent
use Rattle.document_model.specs.Rows.{Agrees}
use Rattle.document_laws.specs.Follows.{Matches}
use Rattle.document_model.proofs.Holders.{both_true, bytes_same}
use Rattle.document_laws.proofs.Sends.{bodies_of, version_behind, told_bodies}

-- Behind these bodies the start has u as this holder has it, under the version that is kept; and nothing was said of other documents.
pub record Follows (encoding : Option Encoding) (u : List ℕ) (o : Option Open) (v : Option ℕ) (h : Option HeldText) (x : Option Telling) : Type 0 where
  pub silent : (w : List ℕ) (k : Option HeldText) → bytes_eq w u ≡ false → told_bodies encoding w k (bodies_of x) ≡ k
  pub here : Matches (version_behind v x) o (told_bodies encoding u h (bodies_of x))

-- what a saying of u tells of u and of another document

opened_here : (encoding : Option Encoding) (u l t : List ℕ) (k : Option HeldText) (x : Saying) → x ≡ opens u l (codes "1") t → told encoding u k x ≡ Some (record { version = 1; language = l; text = t })
opened_here encoding u l t k x e = ap (told encoding u k) e ∙ ap (λ b. if b then Some (record { version = number_of (codes "1"); language = l; text = t }) else k) (same_name u)

opened_elsewhere : (encoding : Option Encoding) (w u l v t : List ℕ) (k : Option HeldText) (x : Saying) → x ≡ opens u l v t → bytes_eq w u ≡ false → told encoding w k x ≡ k
opened_elsewhere encoding w u l v t k x e d = ap (told encoding w k) e ∙ ap (λ b. if b then Some (record { version = number_of v; language = l; text = t }) else k) d

closed_here : (encoding : Option Encoding) (u : List ℕ) (k : Option HeldText) (x : Saying) → x ≡ closes u → told encoding u k x ≡ None
closed_here encoding u k x e = ap (told encoding u k) e ∙ ap (λ b. if b then None else k) (same_name u)

closed_elsewhere : (encoding : Option Encoding) (w u : List ℕ) (k : Option HeldText) (x : Saying) → x ≡ closes u → bytes_eq w u ≡ false → told encoding w k x ≡ k
closed_elsewhere encoding w u k x e d = ap (told encoding w k) e ∙ ap (λ b. if b then None else k) d

changed_elsewhere : (encoding : Option Encoding) (w u v : List ℕ) (cs : Json) (k : Option HeldText) (x : Saying) → x ≡ changes u v cs → bytes_eq w u ≡ false → told encoding w k x ≡ k
changed_elsewhere encoding w u v cs k x e d = ap (told encoding w k) e ∙ ap (λ b. if b then changed_held encoding v cs k else k) d

changed_here : (encoding : Option Encoding) (u v t : List ℕ) (n : ℕ) (cs : Json) (h : HeldText) (x : Saying) → x ≡ changes u v cs → number_of v ≡ n → text_after encoding cs h.text ≡ Some t
    → told encoding u (Some h) x ≡ Some (record { version = n; language = h.language; text = t })
changed_here encoding u v t n cs h x e d f = ap (told encoding u (Some h)) e ∙ ap (λ b. if b then changed_held encoding v cs (Some h) else Some h) (same_name u)
    ∙ ap₂ (λ m (y : Option (List ℕ)). Some (record { version = m; language = h.language; text = unwrap_or y h.text })) d f

-- a body under another version follows the holder of the changed text
pub version_follows : (encoding : Option Encoding) (u w : List ℕ) (cs : Json) (o : Open) (n : ℕ) (h : HeldText) (v : Option ℕ) (body : List ℕ) → saying_of (message_of body) ≡ changes u w cs → number_of w ≡ n
    → h.language ≡ o.language → text_after encoding cs h.text ≡ Some o.text → Follows encoding u (Some o) v (Some h) (Some (Changes n body))
version_follows encoding u w cs o n h v body e d spoken f = record {
  silent = λ z k away. changed_elsewhere encoding z u w cs k (saying_of (message_of body)) e away;
  here = subst (Matches (Some n) (Some o)) (sym (changed_here encoding u w o.text n cs h (saying_of (message_of body)) e d f)) (refl, (spoken, refl));
}

pub open_follows : (encoding : Option Encoding) (o : Open) (v : Option ℕ) (h : Option HeldText) → IsSpelt o → Follows encoding o.uri (Some o) v h (Some (Opens (open_text o.uri o.language o.text)))
open_follows encoding o v h utf8 = let e : saying_of (message_of (open_text o.uri o.language o.text)) ≡ opens o.uri o.language (codes "1") o.text = open_says o.uri o.language o.text utf8.0 utf8.1 utf8.2 in record {
  silent = λ w k away. opened_elsewhere encoding w o.uri o.language (codes "1") o.text k (saying_of (message_of (open_text o.uri o.language o.text))) e away;
  here = subst (Matches (Some 1) (Some o)) (sym (opened_here encoding o.uri o.language o.text h (saying_of (message_of (open_text o.uri o.language o.text))) e)) (refl, (refl, refl));
}

pub close_follows : (encoding : Option Encoding) (u : List ℕ) (v : Option ℕ) (h : Option HeldText) → IsUtf8 u → Follows encoding u None v h (Some (Closes (close_text u)))
close_follows encoding u v h utf8 = let e : saying_of (message_of (close_text u)) ≡ closes u = close_says u utf8 in record {
  silent = λ w k away. closed_elsewhere encoding w u k (saying_of (message_of (close_text u))) e away;
  here = subst (Matches None None) (sym (closed_here encoding u h (saying_of (message_of (close_text u))) e)) tt;
}

anew_follows : (encoding : Option Encoding) (o : Open) (v : Option ℕ) (h : Option HeldText) → IsSpelt o → Follows encoding o.uri (Some o) v h (Some (OpensAnew (close_text o.uri) (open_text o.uri o.language o.text)))
anew_follows encoding o v h utf8 =
    let first : Follows encoding o.uri None v h (Some (Closes (close_text o.uri))) = close_follows encoding o.uri v h utf8.0 in
    let second : Follows encoding o.uri (Some o) v (told_bodies encoding o.uri h (close_text o.uri ∷ [])) (Some (Opens (open_text o.uri o.language o.text)))
    = open_follows encoding o v (told_bodies encoding o.uri h (close_text o.uri ∷ [])) utf8 in
    record {
      silent = λ w k away. second.silent w (told_bodies encoding w k (close_text o.uri ∷ [])) away ∙ first.silent w k away;
      here = second.here;
    }

whole_follows : (code : Encoding) (o : Open) (n : ℕ) (v : Option ℕ) (h : HeldText) → IsSpelt o → n < 10 ^ 64 → h.language ≡ o.language → Follows (Some code) o.uri (Some o) v (Some h) (Some (Changes n (full_text o.uri n o.text)))
whole_follows code o n v h utf8 small spoken = let f : FullSays o.uri n o.text = full_says o.uri o.text n utf8.0 utf8.2 small in
    version_follows (Some code) o.uri (decimal n) f.list o n h v (full_text o.uri n o.text) f.says (number_law n small) spoken (f.whole code h.text)

-- a start that has another text is told the whole; one that has another language is told to open it anew
pub switch_follows : (code : Encoding) (same : Bool) (versions : ℕ) (o : Open) (v : ℕ) (h : HeldText) → versions < 2 ^ 32 → IsSpelt o → (same ≡ true → h.language ≡ o.language)
    → Follows (Some code) o.uri (Some o) (Some v) (Some h) (Some (switch same versions o v))
switch_follows code same versions o v h small utf8 spoken = go same spoken (nat_lt v versions) refl
  where
    go : (a : Bool) → (a ≡ true → h.language ≡ o.language) → (b : Bool) → nat_lt v versions ≡ b
        → Follows (Some code) o.uri (Some o) (Some v) (Some h) (Some (if a && b then Changes (v + 1) (full_text o.uri (v + 1) o.text) else OpensAnew (close_text o.uri) (open_text o.uri o.language o.text)))
    go true f true d = let l : v < versions = ltb-true v versions d in whole_follows code o (v + 1) (Some v) h utf8 (omega arith) (f refl)
    go true f false d = anew_follows (Some code) o (Some v) (Some h) utf8
    go false f b d = anew_follows (Some code) o (Some v) (Some h) utf8

-- what the server has is the holder's

pub holds_is : (o p : Open) (os : List Open) → holder o.uri os ≡ Some p → holds o os ≡ (bytes_eq p.language o.language && bytes_eq p.text o.text)
holds_is o p os d = ap (λ q. option_map_or (λ (k : Open). bytes_eq k.language o.language && bytes_eq k.text o.text) q false) d

pub language_is : (o p : Open) (os : List Open) → holder o.uri os ≡ Some p → holds_language o os ≡ bytes_eq p.language o.language
language_is o p os d = ap (λ q. option_map_or (λ (k : Open). bytes_eq k.language o.language) q false) d

-- two that have the same language and the same text
pub alike : (o p : Open) (h : HeldText) → Agrees p h → (bytes_eq p.language o.language && bytes_eq p.text o.text) ≡ true → Agrees o h
alike o p h f g = let b : (bytes_eq p.language o.language ≡ true) × (bytes_eq p.text o.text ≡ true) = both_true (bytes_eq p.language o.language) (bytes_eq p.text o.text) g in
    (f.0 ∙ bytes_same p.language o.language b.0, f.1 ∙ bytes_same p.text o.text b.1)

pub same_spoken : (o p : Open) (h : HeldText) → Agrees p h → bytes_eq p.language o.language ≡ true → h.language ≡ o.language
same_spoken o p h f g = f.0 ∙ bytes_same p.language o.language g

-- the test of what the start has, by what its holder has
pub agrees_is : (o p : Open) (h : HeldText) → Agrees p h → (bytes_eq p.language o.language && bytes_eq p.text o.text) ≡ sent.agrees o h
agrees_is o p h f = ap₂ (λ (l t : List ℕ). bytes_eq l o.language && bytes_eq t o.text) (sym f.0) (sym f.1)

abbrev pub told_if : Bool → Bool → ℕ → Open → ℕ → Option Telling
told_if b same versions o v = if b then None else Some (switch same versions o v)

differing_is : (s : Documents) (o p : Open) (v : ℕ) → holder o.uri s.opens ≡ Some p → differing o v s ≡ told_if (bytes_eq p.language o.language && bytes_eq p.text o.text) (bytes_eq p.language o.language) s.versions o v
differing_is s o p v d = ap₂ (λ b c. told_if b c s.versions o v) (holds_is o p s.opens d) (language_is o p s.opens d)

pub differ_follows : (code : Encoding) (s : Documents) (o p : Open) (v : ℕ) (h : HeldText) → s.versions < 2 ^ 32 → holder o.uri s.opens ≡ Some p → h.version ≡ v → Agrees p h → IsSpelt o
    → Follows (Some code) o.uri (Some o) (Some v) (Some h) (differing o v s)
differ_follows code s o p v h small d e f utf8 = subst (Follows (Some code) o.uri (Some o) (Some v) (Some h)) (sym (differing_is s o p v d)) (go (bytes_eq p.language o.language && bytes_eq p.text o.text) refl)
  where
    go : (b : Bool) → (bytes_eq p.language o.language && bytes_eq p.text o.text) ≡ b → Follows (Some code) o.uri (Some o) (Some v) (Some h) (told_if b (bytes_eq p.language o.language) s.versions o v)
    go true g = record { silent = λ w k away. refl; here = (e, alike o p h f g) }
    go false g = switch_follows code (bytes_eq p.language o.language) s.versions o v h small utf8 (same_spoken o p h f)

-- what is sent of a document that the start has

abbrev pub bodies_if : Bool → Bool → Open → ℕ → List (List ℕ)
bodies_if b c o v = if b then [] else if c then full_text o.uri (v + 1) o.text ∷ [] else close_text o.uri ∷ open_text o.uri o.language o.text ∷ []

pub told_bodies_if : (b same : Bool) (versions : ℕ) (o : Open) (v : ℕ) → bodies_of (told_if b same versions o v) ≡ bodies_if b (same && nat_lt v versions) o v
told_bodies_if b same versions o v = go b (same && nat_lt v versions)
  where
    go : (b c : Bool) → bodies_of (if b then None else Some (if c then Changes (v + 1) (full_text o.uri (v + 1) o.text) else OpensAnew (close_text o.uri) (open_text o.uri o.language o.text))) ≡ bodies_if b c o v
    go true c = refl
    go false true = refl
    go false false = refl

pub differ_sent : (s : Documents) (o p : Open) (v : ℕ) (h : HeldText) → holder o.uri s.opens ≡ Some p → h.version ≡ v → Agrees p h → bodies_of (differing o v s) ≡ sent.differing s.versions o h
differ_sent s o p v h d e f = ap bodies_of (differing_is s o p v d) ∙ told_bodies_if (bytes_eq p.language o.language && bytes_eq p.text o.text) (bytes_eq p.language o.language) s.versions o v
    ∙ ap₂ (λ b (l : List ℕ). bodies_if b (bytes_eq l o.language && nat_lt v s.versions) o v) (agrees_is o p h f) (sym f.0)
    ∙ ap (λ n. bodies_if (sent.agrees o h) (bytes_eq h.language o.language && nat_lt n s.versions) o n) (sym e)
