-- Lists of waiting requests, of which one goes, or those of an editor, or to which one comes.
use Rattle.std.proofs.Common.{◌≡◌, ℕ, Bool, true, false, not, ◌&&◌, cond, List, [], ◌∷◌, ◌++◌, drop, refl, sym, ◌∙◌, ap, nat_eq, bytes_eq, if◌then◌else◌}
use Rattle.std.specs.Prelude.{filter}
use Rattle.std.specs.List.{AllByRecursion}
use Rattle.std.proofs.lemmas.Slice.Eq.{bytes_eq-Decides}
use Rattle.event_model.proofs.Frames.{never}
use Rattle.mux_facts.proofs.Words.{number_same}
use Rattle.id_rewrite.specs.Forms.{form, same_form}
use Rattle.held_requests.specs.declared.request.Request.{Request}
use Rattle.held_requests.specs.Tables.{is_under}
use Rattle.numbered_rows.specs.Rows.{less}
use Rattle.mux_waits.specs.Stands.{HasOwnId, HaveOwnIds}

-- what holds of all holds of those that are left
pub all_map : (P Q : Request → Type 0) (rs : List Request) → ((r : Request) → P r → Q r) → AllByRecursion P rs → AllByRecursion Q rs
all_map P Q [] f h = tt
all_map P Q (r ∷ rs) f h = (f r h.0, all_map P Q rs f h.1)

pub all_kept : (P Q : Request → Type 0) (test : Request → Bool) (rs : List Request) → ((r : Request) → test r ≡ true → P r → Q r) → AllByRecursion P rs → AllByRecursion Q (filter test rs)
all_kept P Q test [] f h = tt
all_kept P Q test (r ∷ rs) f h = go (test r) refl (all_kept P Q test rs f h.1)
  where
    go : (b : Bool) → test r ≡ b → AllByRecursion Q (filter test rs) → AllByRecursion Q (cond b (r ∷ filter test rs) (filter test rs))
    go true is rest = (f r is h.0, rest)
    go false is rest = rest

pub all_last : (P : Request → Type 0) (rs : List Request) (r : Request) → AllByRecursion P rs → P r → AllByRecursion P (rs ++ r ∷ [])
all_last P [] r h k = (k, tt)
all_last P (q ∷ rs) r h k = (h.0, all_last P rs r h.1 k)

pub all_rest : (P : Request → Type 0) (rs : List Request) → AllByRecursion P rs → AllByRecursion P (drop 1 rs)
all_rest P [] h = tt
all_rest P (r ∷ rs) h = h.1

-- tests that agree on all of these
pub kept_same : (P : Request → Type 0) (a b : Request → Bool) (rs : List Request) → ((r : Request) → P r → a r ≡ b r) → AllByRecursion P rs → filter a rs ≡ filter b rs
kept_same P a b [] f h = refl
kept_same P a b (r ∷ rs) f h = ap (λ c. cond c (r ∷ filter a rs) (filter a rs)) (f r h.0) ∙ ap (λ qs. cond (b r) (r ∷ qs) qs) (kept_same P a b rs f h.1)

pub all_stay : (P : Request → Type 0) (test : Request → Bool) (rs : List Request) → ((r : Request) → P r → test r ≡ true) → AllByRecursion P rs → filter test rs ≡ rs
all_stay P test [] f h = refl
all_stay P test (r ∷ rs) f h = ap (λ c. cond c (r ∷ filter test rs) (filter test rs)) (f r h.0) ∙ ap (λ qs. r ∷ qs) (all_stay P test rs f h.1)

-- they keep their own ids
pub own_kept : (test : Request → Bool) (rs : List Request) → HaveOwnIds rs → HaveOwnIds (filter test rs)
own_kept test [] h = tt
own_kept test (r ∷ rs) h = go (test r) (own_kept test rs h.1)
  where
    go : (b : Bool) → HaveOwnIds (filter test rs) → HaveOwnIds (cond b (r ∷ filter test rs) (filter test rs))
    go true rest = (all_kept (HasOwnId r) (HasOwnId r) test rs (λ q _ k. k) h.0, rest)
    go false rest = rest

pub own_rest : (rs : List Request) → HaveOwnIds rs → HaveOwnIds (drop 1 rs)
own_rest [] h = tt
own_rest (r ∷ rs) h = h.1

pub own_last : (rs : List Request) (r : Request) → HaveOwnIds rs → AllByRecursion (λ q. HasOwnId q r) rs → HaveOwnIds (rs ++ r ∷ [])
own_last [] r h k = (tt, tt)
own_last (q ∷ rs) r h k = (all_last (HasOwnId q) rs r h.0 k.0, own_last rs r h.1 k.1)

-- the one of an id is the only one
left : (a b : Bool) → (a && b) ≡ true → a ≡ true
left true b h = refl
left false b h = never (sym h)

right : (a b : Bool) → (a && b) ≡ true → b ≡ true
right true b h = h
right false b h = never (sym h)

under_same : (e : ℕ) (id : List ℕ) (r q : Request) → is_under e id r ≡ true → is_under e id q ≡ is_under r.editor r.id q
under_same e id r q h =
    let own : r.editor ≡ e = number_same r.editor e (left (nat_eq r.editor e) (same_form id r.id) h) in
    let form_is : form id ≡ form r.id = (bytes_eq-Decides (form id) (form r.id)).0 (right (nat_eq r.editor e) (same_form id r.id) h) in
    ap (λ n. nat_eq q.editor n && bytes_eq (form id) (form q.id)) (sym own) ∙ ap (λ w. nat_eq q.editor r.editor && bytes_eq w (form q.id)) form_is

pub less_own : (e : ℕ) (id : List ℕ) (rs : List Request) → HaveOwnIds rs → less (is_under e id) rs ≡ filter (λ r. not (is_under e id r)) rs
less_own e id [] h = refl
less_own e id (r ∷ rs) h = go (is_under e id r) refl (less_own e id rs h.1)
  where
    go : (b : Bool) → is_under e id r ≡ b → less (is_under e id) rs ≡ filter (λ q. not (is_under e id q)) rs
        → (if b then rs else r ∷ less (is_under e id) rs) ≡ cond (not b) (r ∷ filter (λ q. not (is_under e id q)) rs) (filter (λ q. not (is_under e id q)) rs)
    go true is rest = sym (all_stay (HasOwnId r) (λ q. not (is_under e id q)) rs (λ q own. ap not (under_same e id r q is ∙ own)) h.0)
    go false is rest = ap (λ qs. r ∷ qs) rest
