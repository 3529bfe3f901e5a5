-- An editor touches its documents as a message of it goes on behind a sync, and the bodies of a sync tell of documents.
use Rattle.std.proofs.Common.{◌≡◌, ℕ, ◌+◌, ◌<◌, ◌^◌, Bool, true, false, cond, List, [], ◌∷◌, ◌++◌, map, filter, flat_map, nat_eq, refl, ◌∙◌, arith}
use Rattle.std.specs.Prelude.{Option, Some, None}
use Rattle.std.specs.List.{AllByRecursion}
use Rattle.mux_history.specs.declared.out.Out.{Out}
use Rattle.mux_history.specs.declared.out.Out.TheVariants.{ToServer}
use Rattle.document_model.specs.Helds.{HeldText}
use Rattle.document_model.specs.Opens.{Open, is_open_at}
use Rattle.document_model.specs.Orderly.{AllSpelt, IsSpelt, Once, Orderly}
use Rattle.document_model.specs.Texts.{Texts}
use Rattle.document_model.proofs.Spoken.{AllSpeak, Speaks, sent_open_speaks}
use Rattle.group_rows.specs.Texts.{touch_all, touched_at}
use Rattle.group_rows.specs.Rows as rows

-- what is open stays in order as an editor touches its own

module _ (e turn : ℕ) where
  abbrev f : Open → Open
  f = touched_at e turn

  same_place : (o p : Open) → is_open_at (f o).editor (f o).uri (f p) ≡ is_open_at o.editor o.uri p
  same_place o p = go (nat_eq o.editor e) (nat_eq p.editor e)
    where
      go : (b c : Bool) → is_open_at (cond b (record o { touched = turn }) o).editor (cond b (record o { touched = turn }) o).uri (cond c (record p { touched = turn }) p) ≡ is_open_at o.editor o.uri p
      go true true = refl
      go true false = refl
      go false true = refl
      go false false = refl

  once_beside : (o : Open) (os : List Open) → AllByRecursion (λ (p : Open). is_open_at o.editor o.uri p ≡ false) os → AllByRecursion (λ (p : Open). is_open_at (f o).editor (f o).uri p ≡ false) (map f os)
  once_beside o [] h = tt
  once_beside o (p ∷ ps) h = (same_place o p ∙ h.0, once_beside o ps h.1)

  once_touched : (os : List Open) → Once os → Once (map f os)
  once_touched [] h = tt
  once_touched (o ∷ os) h = (once_beside o os h.0, once_touched os h.1)

  turns_touched : (os : List Open) → AllByRecursion (λ (o : Open). o.touched < turn) os → AllByRecursion (λ (o : Open). o.touched < turn + 1) (map f os)
  turns_touched [] h = tt
  turns_touched (o ∷ os) h = (go (nat_eq o.editor e) h.0, turns_touched os h.1)
    where
      go : (b : Bool) → o.touched < turn → (cond b (record o { touched = turn }) o).touched < turn + 1
      go true k = omega arith
      go false k = omega arith

  pub spelt_touched : (os : List Open) → AllSpelt os → AllSpelt (map f os)
  spelt_touched [] h = tt
  spelt_touched (o ∷ os) h = (go (nat_eq o.editor e), spelt_touched os h.1)
    where
      go : (b : Bool) → IsSpelt (cond b (record o { touched = turn }) o)
      go true = h.0
      go false = h.0

pub touch_orderly : (e : ℕ) (x : Texts) → Orderly x → Orderly (touch_all (Some e) x)
touch_orderly e x h = record { once = once_touched e x.turn x.opens h.once; turns = turns_touched e x.turn x.opens h.turns }

-- the bodies of a sync tell of documents

all_append : (P : List ℕ → Type 0) (xs ys : List (List ℕ)) → AllByRecursion P xs → AllByRecursion P ys → AllByRecursion P (xs ++ ys)
all_append P [] ys h k = k
all_append P (x ∷ xs) ys h k = (h.0, all_append P xs ys h.1 k)

synced_speaks : (versions : ℕ) (o : Open) (h : Option HeldText) → versions < 2 ^ 32 → IsSpelt o → AllSpeak (rows.synced versions o h)
synced_speaks versions o None small spelt = tt
synced_speaks versions o (Some h) small spelt = sent_open_speaks versions o (Some h) small spelt

pub sync_speaks : (versions e : ℕ) (held : List ℕ → Option HeldText) (os : List Open) → versions < 2 ^ 32 → AllSpelt os → AllSpeak (rows.sync_bodies versions held e os)
sync_speaks versions e held [] small spelt = tt
sync_speaks versions e held (o ∷ os) small spelt = go (nat_eq o.editor e) (sync_speaks versions e held os small spelt.1)
  where
    go : (b : Bool) → AllSpeak (rows.sync_bodies versions held e os)
        → AllSpeak (flat_map (λ (p : Open). rows.synced versions p (held p.uri)) (cond b (o ∷ filter (λ (p : Open). nat_eq p.editor e) os) (filter (λ (p : Open). nat_eq p.editor e) os)))
    go true rest = all_append Speaks (rows.synced versions o (held o.uri)) (rows.sync_bodies versions held e os) (synced_speaks versions o (held o.uri) small spelt.0) rest
    go false rest = rest

abbrev pub to : ℕ → List (List ℕ) → List Out
to s bodies = map (λ b. ToServer s b) bodies
