-- What a row sends, what stays behind it, and what the start then has.
use Rattle.std.proofs.Common.{◌≡◌, ℕ, ◌+◌, Bool, true, false, cond, List, [], ◌∷◌, length, map, refl, sym, ◌∙◌, ap, subst}
use Rattle.std.specs.Prelude.{Option, Some, None, fold, find, nat_lt, bytes_eq, if◌then◌else◌}
use Rattle.std.specs.List.{AllByRecursion}
use Rattle.std.proofs.lemmas.Slice.Eq.{bytes_eq-Decides}
use Rattle.mux_history.specs.declared.out.Out.TheVariants.{ToServer}
use Rattle.position_codec.specs.declared.Encoding.{Encoding}
use Rattle.document_model.specs.rpc_message.specs.Message.{message_of}
use Rattle.focus_switch.specs.declared.telling.Telling.{Telling}
use Rattle.document_model.specs.Opens.{Open, later, latest, holder}
use Rattle.focus_switch.specs.Documents.{Documents, version_held}
use Rattle.focus_switch.specs.Rows.{version_told, bodies_told, tell, send}
use Rattle.document_model.specs.Sayings.{saying_of}
use Rattle.document_model.specs.Helds.{HeldText, told}
use Rattle.document_model.specs.Rows.{Agrees}
use Rattle.document_laws.specs.Follows.{Matches, Held, told_outs}
use Rattle.document_laws.proofs.Keeping.{version_put, version_put_other}
use Rattle.document_model.proofs.Holders.{pick, bytes_same}

abbrev pub bodies_of : Option Telling → List (List ℕ)
bodies_of None = []
bodies_of (Some x) = bodies_told x

abbrev pub version_behind : Option ℕ → Option Telling → Option ℕ
version_behind v None = v
version_behind v (Some x) = version_told x

pub send_outs : (n : ℕ) (u : List ℕ) (x : Option Telling) (s : Documents) → s.start ≡ Some n → (send u x s).outs ≡ map (λ b. ToServer n b) (bodies_of x)
send_outs n u None s h = refl
send_outs n u (Some x) s h = ap (λ z. (tell z u x s).outs) h

-- without a start nothing is sent
pub send_silent : (u : List ℕ) (x : Option Telling) (s : Documents) → s.start ≡ None → (send u x s).outs ≡ []
send_silent u None s h = refl
send_silent u (Some x) s h = ap (λ z. (tell z u x s).outs) h

pub record Stays (s t : Documents) : Type 0 where
  pub start : t.start ≡ s.start
  pub encoding : t.encoding ≡ s.encoding
  pub versions : t.versions ≡ s.versions

pub record Kept (s t : Documents) : Type 0 where
  pub stays : Stays s t
  pub turn : t.turn ≡ s.turn
  pub opens : t.opens ≡ s.opens

pub send_keeps : (u : List ℕ) (x : Option Telling) (s : Documents) → Kept s (send u x s).after
send_keeps u None s = record { stays = record { start = refl; encoding = refl; versions = refl }; turn = refl; opens = refl }
send_keeps u (Some x) s = go s.start
  where
    go : (start : Option ℕ) → Kept s (tell start u x s).after
    go None = record { stays = record { start = refl; encoding = refl; versions = refl }; turn = refl; opens = refl }
    go (Some n) = record { stays = record { start = refl; encoding = refl; versions = refl }; turn = refl; opens = refl }

pub send_version : (n : ℕ) (u : List ℕ) (x : Option Telling) (s : Documents) → s.start ≡ Some n → version_held u (send u x s).after.helds ≡ version_behind (version_held u s.helds) x
send_version n u None s h = refl
send_version n u (Some x) s h = ap (λ z. version_held u (tell z u x s).after.helds) h ∙ version_put u (version_told x) (s.sent + length (bodies_told x)) s.helds

pub send_version_other : (n : ℕ) (u w : List ℕ) (x : Option Telling) (s : Documents) → s.start ≡ Some n → bytes_eq w u ≡ false → version_held w (send u x s).after.helds ≡ version_held w s.helds
send_version_other n u w None s h d = refl
send_version_other n u w (Some x) s h d = ap (λ z. version_held w (tell z u x s).after.helds) h ∙ version_put_other u w (version_told x) (s.sent + length (bodies_told x)) s.helds d

-- what the start has of w behind bodies to it
abbrev pub told_bodies : Option Encoding → List ℕ → Option HeldText → List (List ℕ) → Option HeldText
told_bodies encoding w h bodies = fold (λ x b. told encoding w x (saying_of (message_of b))) h bodies

pub told_sent : (encoding : Option Encoding) (w : List ℕ) (n : ℕ) (bodies : List (List ℕ)) (h : Option HeldText) → told_outs encoding w h (map (λ b. ToServer n b) bodies) ≡ told_bodies encoding w h bodies
told_sent encoding w n [] h = refl
told_sent encoding w n (b ∷ bs) h = told_sent encoding w n bs (told encoding w h (saying_of (message_of b)))

match_at : (v w : Option ℕ) (o p : Option Open) (h k : Option HeldText) → v ≡ w → o ≡ p → h ≡ k → Matches v o h → Matches w p k
match_at v w o p h k d e f m = subst (λ z. Matches w p z) f (subst (λ z. Matches w z h) e (subst (λ z. Matches z o h) d m))

pub other_way : (u w : List ℕ) → bytes_eq w u ≡ false → bytes_eq u w ≡ false
other_way u w h = go (bytes_eq u w) refl
  where
    go : (b : Bool) → bytes_eq u w ≡ b → b ≡ false
    go true d = sym ((bytes_eq-Decides w u).1 (sym (bytes_same u w d))) ∙ h
    go false d = refl

-- What the start has is the holder's text behind a row on u, where it is u's, and the other documents have their holders and nothing was said of them.
pub row_held : (n : ℕ) (u : List ℕ) (x : Option Telling) (s : Documents) (held : List ℕ → Option HeldText) (os : List Open) (turn : ℕ) → s.start ≡ Some n → Held s held
    → ((w : List ℕ) → bytes_eq u w ≡ false → holder w os ≡ holder w s.opens)
    → ((w : List ℕ) (h : Option HeldText) → bytes_eq w u ≡ false → told_bodies s.encoding w h (bodies_of x) ≡ h)
    → Matches (version_behind (version_held u s.helds) x) (holder u os) (told_bodies s.encoding u (held u) (bodies_of x))
    → Held (record (send u x s).after { opens = os; turn = turn }) (λ w. told_outs s.encoding w (held w) (send u x s).outs)
row_held n u x s held os turn started follows others silent here w = go (bytes_eq w u) refl
  where
    said : (z : List ℕ) → told_outs s.encoding z (held z) (send u x s).outs ≡ told_bodies s.encoding z (held z) (bodies_of x)
    said z = ap (told_outs s.encoding z (held z)) (send_outs n u x s started) ∙ told_sent s.encoding z n (bodies_of x) (held z)

    go : (b : Bool) → bytes_eq w u ≡ b → Matches (version_held w (send u x s).after.helds) (holder w os) (told_outs s.encoding w (held w) (send u x s).outs)
    go true d = subst (λ z. Matches (version_held z (send u x s).after.helds) (holder z os) (told_outs s.encoding z (held z) (send u x s).outs)) (sym (bytes_same w u d))
        (match_at (version_behind (version_held u s.helds) x) (version_held u (send u x s).after.helds) (holder u os) (holder u os) (told_bodies s.encoding u (held u) (bodies_of x)) (told_outs s.encoding u (held u) (send u x s).outs)
        (sym (send_version n u x s started)) refl (sym (said u)) here)
    go false d = match_at (version_held w s.helds) (version_held w (send u x s).after.helds) (holder w s.opens) (holder w os) (held w) (told_outs s.encoding w (held w) (send u x s).outs)
        (sym (send_version_other n u w x s started d)) (sym (others w (other_way u w d))) (sym (said w ∙ silent w (held w) d)) (follows w)

-- the one that was touched last passes the test, and is one of them

abbrev Passes : (Open → Type 0) → (Open → Bool) → Option Open → Type 0
Passes P test None = Unit {0}
Passes P test (Some o) = P o × (test o ≡ true)

picked : (P : Open → Type 0) (test : Open → Bool) (o : Open) (best : Option Open) → P o → Passes P test best → Passes P test (pick test best o)
picked P test o best h k = go (test o) refl best k
  where
    go : (b : Bool) → test o ≡ b → (best : Option Open) → Passes P test best → Passes P test (if b then later o best else best)
    go false d best k = k
    go true d None k = (h, d)
    go true d (Some p) k = which (nat_lt o.touched p.touched)
      where
        which : (c : Bool) → Passes P test (if c then Some p else Some o)
        which true = k
        which false = (h, d)

best_of : (P : Open → Type 0) (test : Open → Bool) (os : List Open) (best : Option Open) → AllByRecursion P os → Passes P test best → Passes P test (fold (pick test) best os)
best_of P test [] best h k = k
best_of P test (o ∷ os) best h k = best_of P test os (pick test best o) h.1 (picked P test o best h.0 k)

pub latest_of : (P : Open → Type 0) (test : Open → Bool) (os : List Open) (o : Open) → AllByRecursion P os → latest test os ≡ Some o → P o × (test o ≡ true)
latest_of P test os o h e = subst (Passes P test) e (best_of P test os None h tt)

-- what is found is one of them
pub find_of : (P : Open → Type 0) (test : Open → Bool) (os : List Open) (o : Open) → AllByRecursion P os → find test os ≡ Some o → P o
find_of P test [] o h e = absurd (cc)
find_of P test (p ∷ ps) o h e = go (test p) e (λ k. find_of P test ps o h.1 k)
  where
    go : (b : Bool) → cond b (Some p) (find test ps) ≡ Some o → (find test ps ≡ Some o → P o) → P o
    go true k r = let same : p ≡ o = cc in subst P same h.0
    go false k r = r k

pub all_there : (os : List Open) → AllByRecursion (λ (o : Open). Unit {0}) os
all_there [] = tt
all_there (o ∷ os) = (tt, all_there os)

-- what the start has matches in two ways
pub by_match : (R : Option ℕ → Option Open → Option HeldText → Type 0) → R None None None → ((v : ℕ) (p : Open) (h : HeldText) → h.version ≡ v → Agrees p h → R (Some v) (Some p) (Some h))
    → (v : Option ℕ) (p : Option Open) (h : Option HeldText) → Matches v p h → R v p h
by_match R none some None None None m = none
by_match R none some (Some v) (Some p) (Some h) m = some v p h m.0 m.1
by_match R none some (Some v) (Some p) None m = absurd m
by_match R none some (Some v) None h m = absurd m
by_match R none some None (Some p) h m = absurd m
by_match R none some None None (Some h) m = absurd m
