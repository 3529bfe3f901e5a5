-- What is open stays in order: each document once at an editor, and each touch before the next turn.
use Rattle.std.proofs.Common.{◌≡◌, ℕ, ◌+◌, ◌<◌, Bool, true, false, cond, ◌&&◌, List, [], ◌∷◌, refl, sym, ◌∙◌, ap, subst, arith}
use Rattle.std.specs.Prelude.{Option, Some, None, find, bytes_eq, if◌then◌else◌}
use Rattle.std.specs.List.{AllByRecursion}
use Rattle.std.specs.Option.{option_and_then, option_map, option_map_or}
use Rattle.std.proofs.lemmas.Bool.{eq-eqb}
use Rattle.json_text.specs.Json.{Json}
use Rattle.json_text.proofs.Put.{same_name}
use Rattle.doc_text.specs.position_codec.specs.declared.Encoding.{Encoding}
use Rattle.document_model.specs.Opens.{Open, is_open_at, put_open, drop_open}
use Rattle.document_model.proofs.Spelt.{all_put, all_drop}
use Rattle.document_model.specs.Sayings.{Saying, opens, changes, closes, misshapen, nothing}
use Rattle.document_model.specs.Texts.{Texts, no_texts, found, touched, opened, text_after, changed, texts_behind}
use Rattle.document_model.specs.Orderly.{Once, Orderly}
use Rattle.document_model.proofs.Holders.{is_at, rest_elsewhere}

-- what holds of all that is open, and of what is put among it or taken from it

here_itself : (o p : Open) → o.editor ≡ p.editor → o.uri ≡ p.uri → is_open_at o.editor o.uri p ≡ true
here_itself o p e f = ap (λ b. b && bytes_eq p.uri o.uri) (eq-eqb p.editor o.editor (sym e)) ∙ ap (bytes_eq p.uri) f ∙ same_name p.uri

-- one isn't the other's document where the other isn't its
not_each : (o p : Open) → is_open_at o.editor o.uri p ≡ false → is_open_at p.editor p.uri o ≡ false
not_each o p h = go (is_open_at p.editor p.uri o) refl
  where
    go : (b : Bool) → is_open_at p.editor p.uri o ≡ b → b ≡ false
    go true d = let q : (o.editor ≡ p.editor) × (o.uri ≡ p.uri) = is_at p.editor p.uri o d in sym (here_itself o p q.0 q.1) ∙ h
    go false d = refl

once_put : (o : Open) (os : List Open) → Once os → Once (put_open o os)
once_put o [] h = (tt, tt)
once_put o (p ∷ ps) h = go (is_open_at o.editor o.uri p) refl (once_put o ps h.1)
  where
    go : (b : Bool) → is_open_at o.editor o.uri p ≡ b → Once (put_open o ps) → Once (if b then o ∷ ps else p ∷ put_open o ps)
    go true d r = let q : (p.editor ≡ o.editor) × (p.uri ≡ o.uri) = is_at o.editor o.uri p d in (rest_elsewhere o.editor o.uri p.editor p.uri ps q.0 q.1 h.0, h.1)
    go false d r = (all_put (λ (q : Open). is_open_at p.editor p.uri q ≡ false) o ps (not_each o p d) h.0, r)

-- each document that is open is found
abbrev pub IsFound : List Open → Open → Type 0
IsFound os o = find (is_open_at o.editor o.uri) os ≡ Some o

behind_first : (o : Open) (os ps : List Open) → AllByRecursion (λ (p : Open). is_open_at o.editor o.uri p ≡ false) ps → AllByRecursion (IsFound os) ps → AllByRecursion (IsFound (o ∷ os)) ps
behind_first o os [] once found = tt
behind_first o os (p ∷ ps) once found = (ap (λ b. cond b (Some o) (find (is_open_at p.editor p.uri) os)) (not_each o p once.0) ∙ found.0, behind_first o os ps once.1 found.1)

pub all_found : (os : List Open) → Once os → AllByRecursion (IsFound os) os
all_found [] once = tt
all_found (o ∷ os) once = (ap (λ b. cond b (Some o) (find (is_open_at o.editor o.uri) os)) (here_itself o o refl refl), behind_first o os os once.0 (all_found os once.1))

once_drop : (e : ℕ) (u : List ℕ) (os : List Open) → Once os → Once (drop_open e u os)
once_drop e u [] h = tt
once_drop e u (p ∷ ps) h = go (is_open_at e u p) (once_drop e u ps h.1)
  where
    go : (b : Bool) → Once (drop_open e u ps) → Once (if b then ps else p ∷ drop_open e u ps)
    go true r = h.1
    go false r = (all_drop (λ (q : Open). is_open_at p.editor p.uri q ≡ false) e u ps h.0, r)

before_next : (n : ℕ) (os : List Open) → AllByRecursion (λ (o : Open). o.touched < n) os → AllByRecursion (λ (o : Open). o.touched < n + 1) os
before_next n [] h = tt
before_next n (o ∷ os) h = (let l : o.touched < n = h.0 in omega arith, before_next n os h.1)

pub orderly_none : Orderly no_texts
orderly_none = record { once = tt; turns = tt }

pub orderly_touched : (o : Open) (x : Texts) → o.touched ≡ x.turn → Orderly x → Orderly (touched o x)
orderly_touched o x e h = record {
  once = once_put o x.opens h.once;
  turns = all_put (λ (p : Open). p.touched < x.turn + 1) o x.opens (omega arith) (before_next x.turn x.opens h.turns);
}

-- what a change makes of a document
pub record ChangedTo (encoding : Option Encoding) (e : ℕ) (u : List ℕ) (cs : Json) (turn : ℕ) (old new : Open) : Type 0 where
  pub editor : new.editor ≡ e
  pub uri : new.uri ≡ u
  pub language : new.language ≡ old.language
  pub touch : new.touched ≡ turn
  pub text : text_after encoding cs old.text ≡ Some new.text

module _ (encoding : Option Encoding) (e : ℕ) (u v : List ℕ) (cs : Json) (x : Texts) where
  abbrev made : Open → List ℕ → Open
  made o t = record { editor = e; uri = u; language = o.language; version = v; text = t; touched = x.turn }

  made_of : (o new : Open) (t : Option (List ℕ)) → text_after encoding cs o.text ≡ t → option_map (made o) t ≡ Some new → ChangedTo encoding e u cs x.turn o new
  made_of o new None d h = absurd (cc)
  made_of o new (Some t) d h = let same : made o t ≡ new = cc in record {
    editor = ap (λ (z : Open). z.editor) (sym same);
    uri = ap (λ (z : Open). z.uri) (sym same);
    language = ap (λ (z : Open). z.language) (sym same);
    touch = ap (λ (z : Open). z.touched) (sym same);
    text = d ∙ ap (λ (z : Open). Some z.text) same;
  }

  changed_from : (f : Option Open) (new : Open) → option_and_then (λ (o : Open). option_map (made o) (text_after encoding cs o.text)) f ≡ Some new → (o : Open) × (f ≡ Some o) × ChangedTo encoding e u cs x.turn o new
  changed_from None new h = absurd (cc)
  changed_from (Some o) new h = (o, refl, made_of o new (text_after encoding cs o.text) refl h)

  -- the document before a change was open there
  pub changed_is : (new : Open) → changed encoding e u v cs x ≡ Some new → (old : Open) × (found e u x ≡ Some old) × ChangedTo encoding e u cs x.turn old new
  changed_is new h = changed_from (found e u x) new h

  -- this one
  pub changed_found : (old new : Open) → found e u x ≡ Some old → changed encoding e u v cs x ≡ Some new → ChangedTo encoding e u cs x.turn old new
  changed_found old new there h =
      let c : (o : Open) × (found e u x ≡ Some o) × ChangedTo encoding e u cs x.turn o new = changed_is new h in
      let both : Some c.0 ≡ Some old = sym c.1 ∙ there in
      let same : c.0 ≡ old = cc in subst (λ (o : Open). ChangedTo encoding e u cs x.turn o new) same c.2

pub orderly_behind : (encoding : Option Encoding) (e : ℕ) (y : Saying) (x : Texts) → Orderly x → Orderly (texts_behind encoding e y x)
orderly_behind encoding e (opens u l v t) x h = orderly_touched (opened e u l v t x) x refl h
orderly_behind encoding e (changes u v cs) x h = go (changed encoding e u v cs x) refl
  where
    go : (n : Option Open) → changed encoding e u v cs x ≡ n → Orderly (option_map_or (λ o. touched o x) n x)
    go None d = h
    go (Some new) d = let c : (old : Open) × (found e u x ≡ Some old) × ChangedTo encoding e u cs x.turn old new = changed_is encoding e u v cs x new d in orderly_touched new x c.2.touch h
orderly_behind encoding e (closes u) x h = record { once = once_drop e u x.opens h.once; turns = all_drop (λ (o : Open). o.touched < x.turn) e u x.opens h.turns }
orderly_behind encoding e misshapen x h = h
orderly_behind encoding e nothing x h = h
