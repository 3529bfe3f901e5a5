-- Looking for the request of an editor under an id: by its fingerprint, and what the ids mean.
use Rattle.std.proofs.Common.{◌≡◌, ℕ, suc, ◌+◌, ◌-◌, ◌≤◌, Bool, true, false, cond, not, ◌&&◌, List, [], ◌∷◌, ◌++◌, length, find, take, nat_eq, refl, sym, ◌∙◌, ap, ap₂, subst, arith}
use Rattle.std.specs.Prelude.{Option, Some, None, encode_utf8_all, option_map, bytes_eq, IfSome}
use Rattle.std.specs.Map.{lookup}
use Rattle.std.proofs.lemmas.Bool.Decides.{nat_tests}
use Rattle.response_route.specs.rpc_message.specs.Ids.{is_quoted}
use Rattle.response_route.specs.rpc_message.specs.Message.{Id, integer, text, same_id}
use Rattle.response_route.specs.rpc_message.specs.ValueTexts.{IsIdText}
use Rattle.response_route.specs.rpc_message.proofs.SameIds.{Shape, id_shape, others_same, shape_quoted}
use Rattle.id_rewrite.specs.declared.pending.Pending.{Pending}
use Rattle.id_rewrite.specs.declared.pending.Numbered.{Numbered}
use Rattle.id_rewrite.specs.Fingerprints.{fingerprint, front}
use Rattle.id_rewrite.specs.Forms.{characters_of, form, inner, same_form}
use Rattle.std.specs.Int.{w64, to_be_bytes}
use Rattle.sha2.specs.Sha512.{sha512}
use Rattle.id_rewrite.specs.Slots.{AreKnown}
use Rattle.id_rewrite.specs.Tables.{AreIds, RiseWithin, cancelled, has_number, is_of, is_under, number_of, number_under, pending_of, with_cancelled, without}
use Rattle.id_rewrite.proofs.Forming.{spelled_is}
use Rattle.id_rewrite.proofs.Rising.{itself, less, same}

-- equal forms have one fingerprint

bytes_are : (xs ys : List ℕ) → bytes_eq xs ys ≡ true → xs ≡ ys
bytes_are [] [] e = refl
bytes_are [] (y ∷ ys) e = absurd (cc)
bytes_are (x ∷ xs) [] e = absurd (cc)
bytes_are (x ∷ xs) (y ∷ ys) e = let b = both (nat_eq x y) (bytes_eq xs ys) e in ap₂ (λ z zs. z ∷ zs) (same y x b.0) (bytes_are xs ys b.1)
  where
    both : (a b : Bool) → (a && b) ≡ true → (a ≡ true) × (b ≡ true)
    both true b e = (refl, e)
    both false b e = absurd (cc)

pub alike : (editor other : ℕ) (id key : List ℕ) → other ≡ editor → form id ≡ form key → fingerprint editor id ≡ fingerprint other key
unfolding fingerprint
alike editor other id key e f = ap₂ (λ n xs. front (sha512 (to_be_bytes w64 n ++ encode_utf8_all xs))) (sym e) f

pub one_key : (editor : ℕ) (id : List ℕ) (r : Numbered) → is_under editor id r ≡ true → fingerprint editor id ≡ fingerprint r.pending.editor r.pending.id
one_key editor id r e = let b = both (is_of editor r) (same_form id r.pending.id) e in alike editor r.pending.editor id r.pending.id (same editor r.pending.editor b.0) (bytes_are (form id) (form r.pending.id) b.1)
  where
    both : (a b : Bool) → (a && b) ≡ true → (a ≡ true) × (b ≡ true)
    both true b e = (refl, e)
    both false b e = absurd (cc)

-- what a look-up by a fingerprint tells

abbrev at : ℕ → List (ℕ × ℕ) → Option ℕ
at key entries = lookup (nat_eq key) entries

under_known : (entries : List (ℕ × ℕ)) (editor : ℕ) (id : List ℕ) (rs : List Numbered) (m : ℕ) → AreKnown entries rs → number_under editor id rs ≡ Some m → at (fingerprint editor id) entries ≡ Some m
under_known entries editor id [] m known e = absurd (cc)
under_known entries editor id (r ∷ rs) m known e = go (is_under editor id r) refl e (λ f. under_known entries editor id rs m known.1 f)
  where
    go : (b : Bool) → is_under editor id r ≡ b → option_map (λ (q : Numbered). q.number) (cond b (Some r) (find (is_under editor id) rs)) ≡ Some m → (number_under editor id rs ≡ Some m → at (fingerprint editor id) entries ≡ Some m) → at (fingerprint editor id) entries ≡ Some m
    go true u e rest = ap (λ k. at k entries) (one_key editor id r u) ∙ (known.0 ∙ e)
    go false u e rest = rest e

-- the request that is found is open under its number
pub under_open : (from to : ℕ) (editor : ℕ) (id : List ℕ) (rs : List Numbered) (m : ℕ) → RiseWithin from to rs → number_under editor id rs ≡ Some m → (from ≤ m) × ((p : Pending) × (pending_of m rs ≡ Some p) × (is_under editor id (record { number = m; pending = p }) ≡ true))
under_open from to editor id [] m rise e = absurd (cc)
under_open from to editor id (r ∷ rs) m rise e = go (is_under editor id r) refl e (λ f. under_open (r.number + 1) to editor id rs m rise.1 f)
  where
    go : (b : Bool) → is_under editor id r ≡ b → option_map (λ (q : Numbered). q.number) (cond b (Some r) (find (is_under editor id) rs)) ≡ Some m
        → (number_under editor id rs ≡ Some m → (r.number + 1 ≤ m) × ((p : Pending) × (pending_of m rs ≡ Some p) × (is_under editor id (record { number = m; pending = p }) ≡ true)))
        → (from ≤ m) × ((p : Pending) × (pending_of m (r ∷ rs) ≡ Some p) × (is_under editor id (record { number = m; pending = p }) ≡ true))
    go true u e rest =
        let is : r.number ≡ m = cc in
        (subst (λ n. from ≤ n) is rise.0, (r.pending, ap (λ b. option_map (λ (q : Numbered). q.pending) (cond b (Some r) (find (has_number m) rs))) (ap (λ n. nat_eq n m) is ∙ itself m), u))
    go false u e rest =
        let more = rest e in
        let first = rise.0 in
        let above = more.0 in
        (omega arith, (more.1.0, ap (λ b. option_map (λ (q : Numbered). q.pending) (cond b (Some r) (find (has_number m) rs))) (less r.number m (omega arith)) ∙ more.1.1, more.1.2))

under_some : (editor : ℕ) (id : List ℕ) (n : ℕ) (p : Pending) (rs : List Numbered) → pending_of n rs ≡ Some p → is_under editor id (record { number = n; pending = p }) ≡ true → number_under editor id rs ≡ None → ⊥
under_some editor id n p [] e u none = absurd (cc)
under_some editor id n p (r ∷ rs) e u none = go (has_number n r) refl (is_under editor id r) refl e none (λ f g. under_some editor id n p rs f u g)
  where
    clash : (b c : Bool) → b ≡ true → b ≡ c → c ≡ false → ⊥
    clash b true e f g = absurd (cc)
    clash b false e f g = absurd (cc)

    go : (a : Bool) → has_number n r ≡ a → (b : Bool) → is_under editor id r ≡ b → option_map (λ (q : Numbered). q.pending) (cond a (Some r) (find (has_number n) rs)) ≡ Some p → option_map (λ (q : Numbered). q.number) (cond b (Some r) (find (is_under editor id) rs)) ≡ None
        → (pending_of n rs ≡ Some p → number_under editor id rs ≡ None → ⊥) → ⊥
    go a h true v e none rest = absurd (cc)
    go true h false v e none rest = let is : r.pending ≡ p = cc in clash (is_under editor id (record { number = n; pending = p })) false u (ap (λ (q : Pending). is_under editor id (record { number = n; pending = q })) (sym is) ∙ v) refl
    go false h false v e none rest = rest e none

-- what the table answers

nowhere : (entries : List (ℕ × ℕ)) (editor : ℕ) (id : List ℕ) (rs : List Numbered) (o : Option ℕ) → number_under editor id rs ≡ o → ((m : ℕ) → o ≡ Some m → ⊥) → None ≡ number_under editor id rs
nowhere entries editor id rs None e not = sym e
nowhere entries editor id rs (Some m) e not = absurd (not m refl)

pub not_known : (entries : List (ℕ × ℕ)) (editor : ℕ) (id : List ℕ) (rs : List Numbered) → AreKnown entries rs → at (fingerprint editor id) entries ≡ None → None ≡ number_under editor id rs
not_known entries editor id rs known none = nowhere entries editor id rs (number_under editor id rs) refl (λ m e. clash m (sym none ∙ under_known entries editor id rs m known e))
  where
    clash : (m : ℕ) → None ≡ Some m → ⊥
    clash m e = absurd (cc)

only : (entries : List (ℕ × ℕ)) (editor : ℕ) (id : List ℕ) (rs : List Numbered) (n m : ℕ) → AreKnown entries rs → at (fingerprint editor id) entries ≡ Some n → number_under editor id rs ≡ Some m → m ≡ n
only entries editor id rs n m known e f = some_is (sym (under_known entries editor id rs m known f) ∙ e)
  where
    some_is : ◌≡◌ {A = Option ℕ} (Some m) (Some n) → m ≡ n
    some_is e = cc

pub not_open : (from to : ℕ) (entries : List (ℕ × ℕ)) (editor : ℕ) (id : List ℕ) (rs : List Numbered) (n : ℕ) → RiseWithin from to rs → AreKnown entries rs → at (fingerprint editor id) entries ≡ Some n → pending_of n rs ≡ None → None ≡ number_under editor id rs
not_open from to entries editor id rs n rise known e none = nowhere entries editor id rs (number_under editor id rs) refl (λ m f.
    let is = only entries editor id rs n m known e f in
    let there = under_open from to editor id rs m rise f in
    clash there.1.0 (sym none ∙ subst (λ k. pending_of k rs ≡ Some there.1.0) is there.1.1))
  where
    clash : (p : Pending) → ◌≡◌ {A = Option Pending} None (Some p) → ⊥
    clash p e = absurd (cc)

pub not_under : (from to : ℕ) (entries : List (ℕ × ℕ)) (editor : ℕ) (id : List ℕ) (rs : List Numbered) (n : ℕ) (p : Pending) → RiseWithin from to rs → AreKnown entries rs → at (fingerprint editor id) entries ≡ Some n → pending_of n rs ≡ Some p
    → is_under editor id (record { number = n; pending = p }) ≡ false → None ≡ number_under editor id rs
not_under from to entries editor id rs n p rise known e there_p u = nowhere entries editor id rs (number_under editor id rs) refl (λ m f.
    let is = only entries editor id rs n m known e f in
    let there = under_open from to editor id rs m rise f in
    clash there.1.0 (sym there_p ∙ subst (λ k. pending_of k rs ≡ Some there.1.0) is there.1.1) there.1.2)
  where
    no : (b : Bool) → b ≡ true → b ≡ false → ⊥
    no true e f = absurd (cc)
    no false e f = absurd (cc)

    clash : (q : Pending) → ◌≡◌ {A = Option Pending} (Some p) (Some q) → is_under editor id (record { number = n; pending = q }) ≡ true → ⊥
    clash q e v = let is : p ≡ q = cc in no (is_under editor id (record { number = n; pending = q })) v (ap (λ (r : Pending). is_under editor id (record { number = n; pending = r })) (sym is) ∙ u)

pub is_under_here : (entries : List (ℕ × ℕ)) (editor : ℕ) (id : List ℕ) (rs : List Numbered) (n : ℕ) (p : Pending) → AreKnown entries rs → at (fingerprint editor id) entries ≡ Some n → pending_of n rs ≡ Some p → is_under editor id (record { number = n; pending = p }) ≡ true → Some n ≡ number_under editor id rs
is_under_here entries editor id rs n p known e there_p u = go (number_under editor id rs) refl
  where
    go : (o : Option ℕ) → number_under editor id rs ≡ o → Some n ≡ number_under editor id rs
    go None f = absurd (under_some editor id n p rs there_p u f)
    go (Some m) f = ap (λ k. Some k) (sym (only entries editor id rs n m known e f)) ∙ sym f

pub is_own : (from to : ℕ) (editor : ℕ) (id : List ℕ) (rs : List Numbered) (m : ℕ) → RiseWithin from to rs → number_under editor id rs ≡ Some m → option_map (λ (p : Pending). p.editor) (pending_of m rs) ≡ Some editor
is_own from to editor id rs m rise e =
    let there = under_open from to editor id rs m rise e in
    ap (option_map (λ (p : Pending). p.editor)) there.1.1 ∙ ap (λ n. Some n) (same editor there.1.0.editor (first (nat_eq there.1.0.editor editor) (same_form id there.1.0.id) there.1.2))
  where
    first : (a b : Bool) → (a && b) ≡ true → a ≡ true
    first true b e = refl
    first false b e = absurd (cc)

pub owned : (from to : ℕ) (editor : ℕ) (id : List ℕ) (rs : List Numbered) (o : Option ℕ) → RiseWithin from to rs → o ≡ number_under editor id rs → IfSome o (λ n. option_map (λ (p : Pending). p.editor) (pending_of n rs) ≡ Some editor)
owned from to editor id rs None rise e = tt
owned from to editor id rs (Some m) rise e = is_own from to editor id rs m rise (sym e)

-- the fingerprints stay as requests come, are taken and are marked

pub put_known : (entries later : List (ℕ × ℕ)) (n : ℕ) (p : Pending) (rs : List Numbered) → AreKnown entries rs → at (fingerprint p.editor p.id) entries ≡ None → ((k : ℕ) → at k later ≡ cond (nat_eq (fingerprint p.editor p.id) k) (Some n) (at k entries)) → AreKnown later (rs ++ record { number = n; pending = p } ∷ [])
put_known entries later n p [] known none now = (now (fingerprint p.editor p.id) ∙ ap (λ b. cond b (Some n) (at (fingerprint p.editor p.id) entries)) (itself (fingerprint p.editor p.id)), tt)
put_known entries later n p (r ∷ rs) known none now = (go (nat_eq (fingerprint p.editor p.id) (fingerprint r.pending.editor r.pending.id)) refl (now (fingerprint r.pending.editor r.pending.id)), put_known entries later n p rs known.1 none now)
  where
    clash : ◌≡◌ {A = Option ℕ} None (Some r.number) → ⊥
    clash e = absurd (cc)

    go : (b : Bool) → nat_eq (fingerprint p.editor p.id) (fingerprint r.pending.editor r.pending.id) ≡ b → at (fingerprint r.pending.editor r.pending.id) later ≡ cond b (Some n) (at (fingerprint r.pending.editor r.pending.id) entries) → at (fingerprint r.pending.editor r.pending.id) later ≡ Some r.number
    go true e f = absurd (clash (sym none ∙ ap (λ k. at k entries) (same (fingerprint r.pending.editor r.pending.id) (fingerprint p.editor p.id) e) ∙ known.0))
    go false e f = f ∙ known.0

open_known : (entries : List (ℕ × ℕ)) (n : ℕ) (p : Pending) (rs : List Numbered) → AreKnown entries rs → pending_of n rs ≡ Some p → at (fingerprint p.editor p.id) entries ≡ Some n
open_known entries n p [] known e = absurd (cc)
open_known entries n p (r ∷ rs) known e = go (has_number n r) refl e (λ f. open_known entries n p rs known.1 f)
  where
    go : (b : Bool) → has_number n r ≡ b → option_map (λ (q : Numbered). q.pending) (cond b (Some r) (find (has_number n) rs)) ≡ Some p → (pending_of n rs ≡ Some p → at (fingerprint p.editor p.id) entries ≡ Some n) → at (fingerprint p.editor p.id) entries ≡ Some n
    go true h e rest = let is : r.pending ≡ p = cc in ap (λ (q : Pending). at (fingerprint q.editor q.id) entries) (sym is) ∙ known.0 ∙ ap (λ k. Some k) (same n r.number h)
    go false h e rest = rest e

pub take_known : (entries later : List (ℕ × ℕ)) (n key : ℕ) (rs : List Numbered) → AreKnown entries rs → at key entries ≡ Some n → ((k : ℕ) → at k later ≡ cond (nat_eq key k) None (at k entries)) → AreKnown later (without n rs)
take_known entries later n key [] known there now = tt
take_known entries later n key (r ∷ rs) known there now = go (has_number n r) refl (nat_eq key (fingerprint r.pending.editor r.pending.id)) refl (now (fingerprint r.pending.editor r.pending.id)) (take_known entries later n key rs known.1 there now)
  where
    number : ◌≡◌ {A = Option ℕ} (Some r.number) (Some n) → r.number ≡ n
    number e = cc

    no : (b : Bool) → b ≡ true → b ≡ false → ⊥
    no true e f = absurd (cc)
    no false e f = absurd (cc)

    go : (a : Bool) → has_number n r ≡ a → (b : Bool) → nat_eq key (fingerprint r.pending.editor r.pending.id) ≡ b → at (fingerprint r.pending.editor r.pending.id) later ≡ cond b None (at (fingerprint r.pending.editor r.pending.id) entries) → AreKnown later (without n rs) → AreKnown later (cond (not a) (r ∷ without n rs) (without n rs))
    go true h b e f rest = rest
    go false h true e f rest =
        let is = number (sym known.0 ∙ ap (λ k. at k entries) (sym (same (fingerprint r.pending.editor r.pending.id) key e)) ∙ there) in
        absurd (no (has_number n r) (ap (λ m. nat_eq m n) is ∙ itself n) h)
    go false h false e f rest = (f ∙ known.0, rest)

pub taken_known : (entries later : List (ℕ × ℕ)) (n : ℕ) (p : Pending) (rs : List Numbered) → AreKnown entries rs → pending_of n rs ≡ Some p → ((k : ℕ) → at k later ≡ cond (nat_eq (fingerprint p.editor p.id) k) None (at k entries)) → AreKnown later (without n rs)
taken_known entries later n p rs known there now = take_known entries later n (fingerprint p.editor p.id) rs known (open_known entries n p rs known there) now

pub marked_known : (entries : List (ℕ × ℕ)) (n : ℕ) (rs : List Numbered) → AreKnown entries rs → AreKnown entries (with_cancelled n rs)
marked_known entries n [] known = tt
marked_known entries n (r ∷ rs) known = go (has_number n r) (marked_known entries n rs known.1)
  where
    go : (b : Bool) → AreKnown entries (with_cancelled n rs) → AreKnown entries (cond b (cancelled r) r ∷ with_cancelled n rs)
    go true rest = (known.0, rest)
    go false rest = (known.0, rest)

-- what the texts of ids mean

apart_forms : (a b : List ℕ) → (is_quoted a && is_quoted b) ≡ false → bytes_eq (form a) (form b) ≡ bytes_eq a b
apart_forms [] [] e = refl
apart_forms [] (y ∷ ys) e = elim (nat_eq y 34) as (λ t. bytes_eq [] (cond t (34 ∷ characters_of (inner (y ∷ ys))) (y ∷ ys)) ≡ false) [ true ↦ refl | false ↦ refl ]
apart_forms (x ∷ xs) [] e = elim (nat_eq x 34) as (λ t. bytes_eq (cond t (34 ∷ characters_of (inner (x ∷ xs))) (x ∷ xs)) [] ≡ false) [ true ↦ refl | false ↦ refl ]
apart_forms (x ∷ xs) (y ∷ ys) e = go (nat_eq x 34) refl (nat_eq y 34) refl e
  where
    unlike : (x y : ℕ) (rest : Bool) → nat_eq x 34 ≡ true → nat_eq y 34 ≡ false → (nat_eq 34 y ≡ false) × (nat_eq x y ≡ false)
    unlike x y rest e f = (grind (arith, nat_tests), grind (arith, nat_tests))

    unlike_too : (x y : ℕ) → nat_eq x 34 ≡ false → nat_eq y 34 ≡ true → (nat_eq x 34 ≡ false) × (nat_eq x y ≡ false)
    unlike_too x y e f = (e, grind (arith, nat_tests))

    go : (s : Bool) → nat_eq x 34 ≡ s → (t : Bool) → nat_eq y 34 ≡ t → (s && t) ≡ false → bytes_eq (cond s (34 ∷ characters_of (inner (x ∷ xs))) (x ∷ xs)) (cond t (34 ∷ characters_of (inner (y ∷ ys))) (y ∷ ys)) ≡ bytes_eq (x ∷ xs) (y ∷ ys)
    go true s true t e = absurd (cc)
    go true s false t e = let u = unlike x y true s t in ap (λ b. b && bytes_eq (characters_of (inner (x ∷ xs))) ys) u.0 ∙ sym (ap (λ b. b && bytes_eq xs ys) u.1)
    go false s true t e = let u = unlike_too x y s t in ap (λ b. b && bytes_eq xs (characters_of (inner (y ∷ ys)))) u.0 ∙ sym (ap (λ b. b && bytes_eq xs ys) u.1)
    go false s false t e = refl

take_front : (xs ys : List ℕ) → take (length xs) (xs ++ ys) ≡ xs
take_front [] ys = refl
take_front (x ∷ xs) ys = ap (λ zs. x ∷ zs) (take_front xs ys)

length_end : (xs : List ℕ) (y : ℕ) → length (xs ++ y ∷ []) ≡ suc (length xs)
length_end [] y = refl
length_end (x ∷ xs) y = ap suc (length_end xs y)

inner_is : (w raw : List ℕ) → w ≡ 34 ∷ (raw ++ (34 ∷ [])) → inner w ≡ raw
inner_is w raw e = ap inner e ∙ (ap (λ n. take n (raw ++ 34 ∷ [])) shorter ∙ take_front raw (34 ∷ []))
  where
    shorter : length (34 ∷ (raw ++ 34 ∷ [])) - 1 - 1 ≡ length raw
    shorter = let l = length_end raw 34 in omega arith

string_form : (w cs : List ℕ) → Shape (text cs) w → form w ≡ 34 ∷ cs
string_form w cs h = ap (λ b. cond b (34 ∷ characters_of (inner w)) w) (shape_quoted cs w h) ∙ ap (λ xs. 34 ∷ xs) (ap characters_of (inner_is w h.0 h.1) ∙ spelled_is (length h.0) h.0 cs (omega arith) h.2)

both_false : (a b : Bool) → a ≡ false → (a && b) ≡ false
both_false true b e = absurd (cc)
both_false false b e = refl

both_false_too : (a b : Bool) → b ≡ false → (a && b) ≡ false
both_false_too true b e = e
both_false_too false b e = refl

shapes_same : (i j : Id) (a b : List ℕ) → Shape i a → Shape j b → same_form a b ≡ same_id i j
shapes_same (integer m) j a b h k = let q = both_false (is_quoted a) (is_quoted b) h.1 in apart_forms a b q ∙ others_same (integer m) j a b (bytes_eq a b) h k q refl
shapes_same (text cs) (integer n) a b h k = let q = both_false_too (is_quoted a) (is_quoted b) k.1 in apart_forms a b q ∙ others_same (text cs) (integer n) a b (bytes_eq a b) h k q refl
shapes_same (text cs) (text ds) a b h k = ap₂ (λ x y. bytes_eq x y) (string_form a cs h) (string_form b ds k)

pub texts_same : (i j : Id) (a b : List ℕ) → IsIdText i a → IsIdText j b → same_form a b ≡ same_id i j
texts_same i j a b h k = shapes_same i j a b (id_shape i a h) (id_shape j b k)

pub means : (meaning : List ℕ → Id) (editor : ℕ) (i : Id) (id : List ℕ) (rs : List Numbered) → IsIdText i id → AreIds meaning rs → number_under editor id rs ≡ number_of meaning editor i rs
means meaning editor i id [] h all = refl
means meaning editor i id (r ∷ rs) h all =
    ap (λ b. option_map (λ (q : Numbered). q.number) (cond (is_of editor r && b) (Some r) (find (is_under editor id) rs))) (texts_same i (meaning r.pending.id) id r.pending.id h all.0)
    ∙ go (is_of editor r && same_id i (meaning r.pending.id)) (means meaning editor i id rs h all.1)
  where
    go : (b : Bool) → number_under editor id rs ≡ number_of meaning editor i rs → option_map (λ (q : Numbered). q.number) (cond b (Some r) (find (is_under editor id) rs)) ≡ option_map (λ (q : Numbered). q.number) (cond b (Some r) (find (λ (q : Numbered). is_of editor q && same_id i (meaning q.pending.id)) rs))
    go true rest = refl
    go false rest = rest
