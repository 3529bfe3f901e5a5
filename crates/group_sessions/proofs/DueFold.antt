-- What the fold of created tokens keeps of one token and one editor, beside the words of the two: what is held is what is due once it accepts, and whoever accepted is due what comes.
use Rattle.std.proofs.Common.{◌≡◌, ℕ, Bool, true, false, not, ◌&&◌, ◌||◌, cond, List, [], ◌∷◌, ◌++◌, filter, flat_map, map, nat_eq, if◌then◌else◌, Option, Some, refl, sym, ◌∙◌, ap, ap₂, subst}
use Rattle.std.specs.List.{list_any}
use Rattle.std.proofs.lemmas.Bool.{and_parts}
use Rattle.json_text.specs.Json.{Json}
use Rattle.rpc_message.specs.Message.{Message}
use Rattle.event_model.specs.Requests.{answered_id}
use Rattle.event_model.proofs.Frames.{never}
use Rattle.mux_facts.proofs.Words.{number_same, same_number}
use Rattle.group_rows.specs.Created.{Created, Taking, Token, accepts, answered, asked, is_answered, is_at, is_begin, is_end, is_over, left, lives, may_hold, progressed, settled, told, with_asked}
use Rattle.group_rows.specs.Forwarded.{names}
use Rattle.group_sessions.proofs.DueWords.{filter_join}

-- Lists

module _ {A : Type 0} where
  pub head_passes : (P : A → Bool) (xs : List A) (y : A) (ys : List A) → filter P xs ≡ y ∷ ys → P y ≡ true
  head_passes P [] y ys h = absurd (cc)
  head_passes P (x ∷ xs) y ys h = go (P x) refl (λ g. head_passes P xs y ys g) h
    where
      go : (b : Bool) → P x ≡ b → (filter P xs ≡ y ∷ ys → P y ≡ true) → cond b (x ∷ filter P xs) (filter P xs) ≡ y ∷ ys → P y ≡ true
      go true p f g = subst (λ z. P z ≡ true) (let same : x ≡ y = cc in same) p
      go false p f g = f g

  pub moved_within : (P Q : A → Bool) (f : A → A) → ((a : A) → P (f a) ≡ P a) → (xs : List A) → filter P (map f (filter Q xs)) ≡ map f (filter Q (filter P xs))
  moved_within P Q f keeps [] = refl
  moved_within P Q f keeps (x ∷ xs) = go (P x) refl (Q x) refl (moved_within P Q f keeps xs)
    where
      in_q : (d : Bool) → Q x ≡ d → filter P (map f (cond (Q x) (x ∷ filter Q xs) (filter Q xs))) ≡ filter P (map f (cond d (x ∷ filter Q xs) (filter Q xs)))
      in_q d q = ap (λ z. filter P (map f (cond z (x ∷ filter Q xs) (filter Q xs)))) q

      in_p : (b : Bool) → P x ≡ b → map f (filter Q (cond b (x ∷ filter P xs) (filter P xs))) ≡ map f (filter Q (cond (P x) (x ∷ filter P xs) (filter P xs)))
      in_p b p = ap (λ z. map f (filter Q (cond z (x ∷ filter P xs) (filter P xs)))) (sym p)

      first : (b : Bool) → P x ≡ b → cond (P (f x)) (f x ∷ filter P (map f (filter Q xs))) (filter P (map f (filter Q xs))) ≡ cond b (f x ∷ filter P (map f (filter Q xs))) (filter P (map f (filter Q xs)))
      first b p = ap (λ z. cond z (f x ∷ filter P (map f (filter Q xs))) (filter P (map f (filter Q xs)))) (keeps x ∙ p)

      last : (d : Bool) → Q x ≡ d → map f (cond d (x ∷ filter Q (filter P xs)) (filter Q (filter P xs))) ≡ map f (cond (Q x) (x ∷ filter Q (filter P xs)) (filter Q (filter P xs)))
      last d q = ap (λ z. map f (cond z (x ∷ filter Q (filter P xs)) (filter Q (filter P xs)))) (sym q)

      go : (b : Bool) → P x ≡ b → (d : Bool) → Q x ≡ d → filter P (map f (filter Q xs)) ≡ map f (filter Q (filter P xs)) → filter P (map f (cond (Q x) (x ∷ filter Q xs) (filter Q xs))) ≡ map f (filter Q (cond (P x) (x ∷ filter P xs) (filter P xs)))
      go true p true q h = in_q true q ∙ (first true p ∙ (ap (λ z. f x ∷ z) h ∙ (last true q ∙ in_p true p)))
      go false p true q h = in_q true q ∙ (first false p ∙ (h ∙ in_p false p))
      go true p false q h = in_q false q ∙ (h ∙ (last false q ∙ in_p true p))
      go false p false q h = in_q false q ∙ (h ∙ in_p false p)

  pub flat_within : (P : A → Bool) (f : A → List A) → ((a : A) → filter P (f a) ≡ (if P a then f a else [])) → (xs : List A) → filter P (flat_map f xs) ≡ flat_map f (filter P xs)
  flat_within P f keeps [] = refl
  flat_within P f keeps (x ∷ xs) = filter_join P (f x) (flat_map f xs) ∙ (ap₂ (λ u v. u ++ v) (keeps x) (flat_within P f keeps xs) ∙ go (P x))
    where
      go : (b : Bool) → (if b then f x else []) ++ flat_map f (filter P xs) ≡ flat_map f (cond b (x ∷ filter P xs) (filter P xs))
      go true = refl
      go false = refl

  pub filter_within : (P Q : A → Bool) → ((a : A) → P a ≡ true → Q a ≡ true) → (xs : List A) → filter P (filter Q xs) ≡ filter P xs
  filter_within P Q f [] = refl
  filter_within P Q f (x ∷ xs) = go (Q x) refl (P x) refl (filter_within P Q f xs)
    where
      go : (d : Bool) → Q x ≡ d → (b : Bool) → P x ≡ b → filter P (filter Q xs) ≡ filter P xs → filter P (cond d (x ∷ filter Q xs) (filter Q xs)) ≡ cond (P x) (x ∷ filter P xs) (filter P xs)
      go true q b p h = ap (λ z. cond (P x) (x ∷ z) z) h
      go false q true p h = never (sym (f x p) ∙ q)
      go false q false p h = h ∙ ap (λ z. cond z (x ∷ filter P xs) (filter P xs)) (sym p)

  pub filter_away : (P Q : A → Bool) → ((a : A) → Q a ≡ true → P a ≡ false) → (xs : List A) → filter P (filter Q xs) ≡ []
  filter_away P Q f [] = refl
  filter_away P Q f (x ∷ xs) = go (Q x) refl (filter_away P Q f xs)
    where
      go : (d : Bool) → Q x ≡ d → filter P (filter Q xs) ≡ [] → filter P (cond d (x ∷ filter Q xs) (filter Q xs)) ≡ []
      go true q h = ap (λ z. cond z (x ∷ filter P (filter Q xs)) (filter P (filter Q xs))) (f x q) ∙ h
      go false q h = h

  -- of those that pass
  pub any_within : (P Q : A → Bool) (xs : List A) → list_any (λ a. Q a && P a) xs ≡ list_any Q (filter P xs)
  any_within P Q [] = refl
  any_within P Q (x ∷ xs) = go (P x) (any_within P Q xs)
    where
      and_true : (d : Bool) → (d && true) ≡ d
      and_true true = refl
      and_true false = refl

      and_false : (d : Bool) → (d && false) ≡ false
      and_false true = refl
      and_false false = refl

      go : (b : Bool) → list_any (λ a. Q a && P a) xs ≡ list_any Q (filter P xs) → ((Q x && b) || list_any (λ a. Q a && P a) xs) ≡ list_any Q (cond b (x ∷ filter P xs) (filter P xs))
      go true h = ap₂ (λ u v. u || v) (and_true (Q x)) h
      go false h = ap (λ u. u || list_any (λ a. Q a && P a) xs) (and_false (Q x)) ∙ h

-- What was asked of the editor for the token

abbrev pub is_own : ℕ → ℕ → Taking → Bool
is_own e k c = is_at e c && nat_eq c.token k

abbrev pub own : ℕ → ℕ → Created → List Taking
own e k x = filter (is_own e k) x.takings

told_own : (e k j : ℕ) (body : List ℕ) (params : Option Json) (c : Taking) → is_own e k (told j body params c) ≡ is_own e k c
told_own e k j body params c = go (nat_eq c.token j) c.accepted (may_hold params c.held)
  where
    go : (a b d : Bool) → is_own e k (if a then (if b then record c { begun = c.begun || is_begin params } else (if d then record c { held = c.held ++ body ∷ []; begun = c.begun || is_begin params } else c)) else c) ≡ is_own e k c
    go true true d = refl
    go true false true = refl
    go true false false = refl
    go false b d = refl

pub own_told : (e k : ℕ) (body : List ℕ) (params : Option Json) (t : Token) (x : Created) → own e k (progressed body params (Some t) x) ≡ map (told t.number body params) (filter (λ c. not (is_over t.number params c)) (own e k x))
own_told e k body params t x = moved_within (is_own e k) (λ c. not (is_over t.number params c)) (told t.number body params) (told_own e k t.number body params) x.takings

-- a message of another editor, or of a token
other_told : (e k j : ℕ) (body : List ℕ) (params : Option Json) → nat_eq j k ≡ false → (cs : List Taking) → map (told j body params) (filter (λ c. not (is_over j params c)) (filter (is_own e k) cs)) ≡ filter (is_own e k) cs
other_told e k j body params other [] = refl
other_told e k j body params other (c ∷ cs) = go (is_own e k c) refl (other_told e k j body params other cs)
  where
    go : (b : Bool) → is_own e k c ≡ b → map (told j body params) (filter (λ d. not (is_over j params d)) (filter (is_own e k) cs)) ≡ filter (is_own e k) cs
        → map (told j body params) (filter (λ d. not (is_over j params d)) (cond b (c ∷ filter (is_own e k) cs) (filter (is_own e k) cs))) ≡ cond b (c ∷ filter (is_own e k) cs) (filter (is_own e k) cs)
    go false at h = h
    go true at h = ap (λ z. map (told j body params) (cond (not z) (c ∷ filter (λ d. not (is_over j params d)) (filter (is_own e k) cs)) (filter (λ d. not (is_over j params d)) (filter (is_own e k) cs)))) (over_not (is_end params) c.accepted)
        ∙ ap₂ (λ u v. u ∷ v) (ap (λ z. if z then (if c.accepted then record c { begun = c.begun || is_begin params } else (if may_hold params c.held then record c { held = c.held ++ body ∷ []; begun = c.begun || is_begin params } else c)) else c) apart) h
      where
        token : c.token ≡ k
        token = number_same c.token k (and_parts (is_at e c) (nat_eq c.token k) at).1

        apart : nat_eq c.token j ≡ false
        apart = go_apart (nat_eq c.token j) refl
          where
            go_apart : (b : Bool) → nat_eq c.token j ≡ b → b ≡ false
            go_apart true same = never (sym (same_number j) ∙ (ap (nat_eq j) (sym (number_same c.token j same) ∙ token) ∙ other))
            go_apart false off = refl

        over_not : (a b : Bool) → (a && (b && nat_eq c.token j)) ≡ false
        over_not true true = apart
        over_not true false = refl
        over_not false b = refl

pub own_other : (e k : ℕ) (body : List ℕ) (params : Option Json) (t : Token) (x : Created) → nat_eq t.number k ≡ false → own e k (progressed body params (Some t) x) ≡ own e k x
own_other e k body params t x other = own_told e k body params t x ∙ other_told e k t.number body params other x.takings

abbrev settling : ℕ → Message → Created → Taking → List Taking
settling e m x c = if is_answered e (answered_id m) c then settled m x c else c ∷ []

pub own_answered : (e k n : ℕ) (m : Message) (x : Created) → own e k (answered n m x) ≡ flat_map (settling n m x) (own e k x)
own_answered e k n m x = flat_within (is_own e k) (settling n m x) one x.takings
  where
    alike : (b : Bool) (d : Taking) → cond b (d ∷ []) [] ≡ (if b then d ∷ [] else [])
    alike true d = refl
    alike false d = refl

    none : (b : Bool) → ◌≡◌ {A = List Taking} [] (if b then [] else [])
    none true = refl
    none false = refl

    one : (c : Taking) → filter (is_own e k) (settling n m x c) ≡ (if is_own e k c then settling n m x c else [])
    one c = go (is_answered n (answered_id m) c) (accepts m && lives c.token x)
      where
        go : (a b : Bool) → filter (is_own e k) (if a then (if b then record c { accepted = true; held = [] } ∷ [] else []) else c ∷ []) ≡ (if is_own e k c then (if a then (if b then record c { accepted = true; held = [] } ∷ [] else []) else c ∷ []) else [])
        go true true = alike (is_own e k c) (record c { accepted = true; held = [] })
        go true false = none (is_own e k c)
        go false b = alike (is_own e k c) c

-- another editor's answer
pub own_stays : (e k n : ℕ) (m : Message) (x : Created) → nat_eq n e ≡ false → own e k (answered n m x) ≡ own e k x
own_stays e k n m x other = own_answered e k n m x ∙ all (x.takings)
  where
    all : (cs : List Taking) → flat_map (settling n m x) (filter (is_own e k) cs) ≡ filter (is_own e k) cs
    all [] = refl
    all (c ∷ cs) = go (is_own e k c) refl (all cs)
      where
        go : (b : Bool) → is_own e k c ≡ b → flat_map (settling n m x) (filter (is_own e k) cs) ≡ filter (is_own e k) cs → flat_map (settling n m x) (cond b (c ∷ filter (is_own e k) cs) (filter (is_own e k) cs)) ≡ cond b (c ∷ filter (is_own e k) cs) (filter (is_own e k) cs)
        go false at h = h
        go true at h = ap (λ z. (if z then settled m x c else c ∷ []) ++ flat_map (settling n m x) (filter (is_own e k) cs)) (unasked c.accepted) ∙ ap (λ z. c ∷ z) h
          where
            editor : c.editor ≡ e
            editor = number_same c.editor e (and_parts (is_at e c) (nat_eq c.token k) at).0

            apart : nat_eq c.editor n ≡ false
            apart = go_apart (nat_eq c.editor n) refl
              where
                go_apart : (b : Bool) → nat_eq c.editor n ≡ b → b ≡ false
                go_apart true same = never (sym (same_number n) ∙ (ap (nat_eq n) (sym (number_same c.editor n same) ∙ editor) ∙ other))
                go_apart false off = refl

            unasked : (b : Bool) → (not b && (nat_eq c.editor n && names (answered_id m) c.number)) ≡ false
            unasked true = refl
            unasked false = ap (λ z. z && names (answered_id m) c.number) apart

pub own_left : (e k : ℕ) (x : Created) → own e k (left e x) ≡ []
own_left e k x = filter_away (is_own e k) (λ c. not (is_at e c)) (λ c h. go c (is_at e c) h) x.takings
  where
    go : (c : Taking) (b : Bool) → not b ≡ true → (b && nat_eq c.token k) ≡ false
    go c true h = never (sym h)
    go c false h = refl

pub own_still : (e k n : ℕ) (x : Created) → nat_eq n e ≡ false → own e k (left n x) ≡ own e k x
own_still e k n x other = filter_within (is_own e k) (λ c. not (is_at n c)) (λ c h. go c (and_parts (is_at e c) (nat_eq c.token k) h).0 (is_at n c) refl) x.takings
  where
    go : (c : Taking) → is_at e c ≡ true → (b : Bool) → is_at n c ≡ b → not b ≡ true
    go c at true same = never (sym (same_number n) ∙ (ap (nat_eq n) (sym (number_same c.editor n same) ∙ number_same c.editor e at) ∙ other))
    go c at false off = refl

pub own_asked : (e k n j : ℕ) (t : Token) (x : Created) → own e k (with_asked n j (Some t) x) ≡ own e k x ++ cond (nat_eq n e && nat_eq t.number k) (asked n j t ∷ []) []
own_asked e k n j t x = filter_join (is_own e k) x.takings (asked n j t ∷ [])

pub own_accepted : (e k : ℕ) (x : Created) → list_any (λ (c : Taking). c.accepted && (is_at e c && nat_eq c.token k)) x.takings ≡ list_any (λ (c : Taking). c.accepted) (own e k x)
own_accepted e k x = any_within (is_own e k) (λ (c : Taking). c.accepted) x.takings
