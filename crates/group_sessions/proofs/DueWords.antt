-- What is due by words, as they grow.
use Rattle.std.proofs.Common.{◌≡◌, ℕ, zero, suc, ◌<◌, Bool, true, false, ◌||◌, cond, List, [], ◌∷◌, ◌++◌, append-nil, append_assoc, drop, filter, flat_map, length, nat_lt, take, if◌then◌else◌, Option, Some, None, refl, sym, ◌∙◌, ap, ap₂, lt-ltb, ltb-true, arith}
use Rattle.std.specs.List.{list_any}
use Rattle.json_text.specs.Json.{Json}
use Rattle.rpc_message.specs.Message.{Id}
use Rattle.event_model.proofs.Frames.{never}
use Rattle.group_rows.specs.Created.{first_begin, held_first, held_most, is_begin}
use Rattle.group_rows.specs.Forwarded.{names}
use Rattle.group_sessions.specs.Due.{Word, asks, bodies, begins, body_in, due, due_asked, due_settled, ends, held_of, is_asks, is_parts, opening, parts, replies, rests, settles, since, tells, until, breaks, breaks_off, cut_asked, cut_settled, is_cut}

-- Lists

pub any_join : {A : Type 0} (test : A → Bool) (xs ys : List A) → list_any test (xs ++ ys) ≡ (list_any test xs || list_any test ys)
any_join test [] ys = refl
any_join test (x ∷ xs) ys = go (test x) (any_join test xs ys)
  where
    go : (b : Bool) → list_any test (xs ++ ys) ≡ (list_any test xs || list_any test ys) → (b || list_any test (xs ++ ys)) ≡ ((b || list_any test xs) || list_any test ys)
    go true h = refl
    go false h = h

pub none_join : {A : Type 0} (test : A → Bool) (xs ys : List A) → list_any test xs ≡ false → list_any test ys ≡ false → list_any test (xs ++ ys) ≡ false
none_join test xs ys h k = any_join test xs ys ∙ ap₂ (λ a b. a || b) h k

pub filter_join : {A : Type 0} (test : A → Bool) (xs ys : List A) → filter test (xs ++ ys) ≡ filter test xs ++ filter test ys
filter_join test [] ys = refl
filter_join test (x ∷ xs) ys = go (test x) (filter_join test xs ys)
  where
    go : (b : Bool) → filter test (xs ++ ys) ≡ filter test xs ++ filter test ys → cond b (x ∷ filter test (xs ++ ys)) (filter test (xs ++ ys)) ≡ cond b (x ∷ filter test xs) (filter test xs) ++ filter test ys
    go true h = ap (λ z. x ∷ z) h
    go false h = h

pub flat_join : {A B : Type 0} (f : A → List B) (xs ys : List A) → flat_map f (xs ++ ys) ≡ flat_map f xs ++ flat_map f ys
flat_join f [] ys = refl
flat_join f (x ∷ xs) ys = ap (λ z. f x ++ z) (flat_join f xs ys) ∙ sym (append_assoc (f x) (flat_map f xs) (flat_map f ys))

until_none : (test : Word → Bool) (us : List Word) → list_any test us ≡ false → until test us ≡ us
until_none test [] h = refl
until_none test (u ∷ us) h = go (test u) h (λ k. until_none test us k)
  where
    go : (b : Bool) → (b || list_any test us) ≡ false → (list_any test us ≡ false → until test us ≡ us) → (if b then [] else u ∷ until test us) ≡ u ∷ us
    go true k f = never k
    go false k f = ap (λ z. u ∷ z) (f k)

until_at : (test : Word → Bool) (us : List Word) (w : Word) (vs : List Word) → list_any test us ≡ false → test w ≡ true → until test (us ++ w ∷ vs) ≡ us
until_at test [] w vs h at = ap (λ (b : Bool). if b then [] else w ∷ until test vs) at
until_at test (u ∷ us) w vs h at = go (test u) h (λ k. until_at test us w vs k at)
  where
    go : (b : Bool) → (b || list_any test us) ≡ false → (list_any test us ≡ false → until test (us ++ w ∷ vs) ≡ us) → (if b then [] else u ∷ until test (us ++ w ∷ vs)) ≡ u ∷ us
    go true k f = never k
    go false k f = ap (λ z. u ∷ z) (f k)

since_none : (test : Word → Bool) (us : List Word) → list_any test us ≡ false → since test us ≡ []
since_none test [] h = refl
since_none test (u ∷ us) h = go (test u) h (λ k. since_none test us k)
  where
    go : (b : Bool) → (b || list_any test us) ≡ false → (list_any test us ≡ false → since test us ≡ []) → (if b then u ∷ us else since test us) ≡ []
    go true k f = never k
    go false k f = f k

since_at : (test : Word → Bool) (us : List Word) (w : Word) (vs : List Word) → list_any test us ≡ false → test w ≡ true → since test (us ++ w ∷ vs) ≡ w ∷ vs
since_at test [] w vs h at = ap (λ (b : Bool). if b then w ∷ vs else since test vs) at
since_at test (u ∷ us) w vs h at = go (test u) h (λ k. since_at test us w vs k at)
  where
    go : (b : Bool) → (b || list_any test us) ≡ false → (list_any test us ≡ false → since test (us ++ w ∷ vs) ≡ w ∷ vs) → (if b then u ∷ (us ++ w ∷ vs) else since test (us ++ w ∷ vs)) ≡ w ∷ vs
    go true k f = never k
    go false k f = f k

-- one word more, behind none that is so
pub since_last : (test : Word → Bool) (us : List Word) (w : Word) → list_any test us ≡ false → since test (us ++ w ∷ []) ≡ (if test w then w ∷ [] else [])
since_last test us w h = go (test w) refl
  where
    go : (b : Bool) → test w ≡ b → since test (us ++ w ∷ []) ≡ (if b then w ∷ [] else [])
    go true at = since_at test us w [] h at
    go false off = since_none test (us ++ w ∷ []) (none_join test us (w ∷ []) h (ap (λ b. b || false) off))

pub bodies_join : (us vs : List Word) → bodies (us ++ vs) ≡ bodies us ++ bodies vs
bodies_join us vs = flat_join body_in us vs

-- What is held

take_none : (n : ℕ) → ◌≡◌ {A = List (List ℕ)} (take n []) []
take_none zero = refl
take_none (suc n) = refl

drop_none : (n : ℕ) → ◌≡◌ {A = List (List ℕ)} (drop n []) []
drop_none zero = refl
drop_none (suc n) = refl

none_less : (n : ℕ) → nat_lt n 0 ≡ false
none_less n = go (nat_lt n 0) refl
  where
    go : (b : Bool) → nat_lt n 0 ≡ b → b ≡ false
    go true h = absurd (let k : n < 0 = ltb-true n 0 h in omega (arith, k))
    go false h = refl

less_both : (a b : ℕ) → nat_lt (suc a) (suc b) ≡ nat_lt a b
less_both a b = go (nat_lt a b) refl (nat_lt (suc a) (suc b)) refl
  where
    go : (p : Bool) → nat_lt a b ≡ p → (q : Bool) → nat_lt (suc a) (suc b) ≡ q → q ≡ p
    go true h true k = refl
    go false h false k = refl
    go true h false k = never (sym (lt-ltb (suc a) (suc b) (let l : a < b = ltb-true a b h in omega (arith, l))) ∙ k)
    go false h true k = never (sym (lt-ltb a b (let l : suc a < suc b = ltb-true (suc a) (suc b) k in omega (arith, l))) ∙ h)

if_first : (x : List ℕ) (b : Bool) (xs ys : List (List ℕ)) → (x ∷ (if b then xs else ys)) ≡ (if b then x ∷ xs else x ∷ ys)
if_first x true xs ys = refl
if_first x false xs ys = refl

-- one body more
pub held_step : (most : ℕ) (xs : List (List ℕ)) (body : List ℕ) → held_of most (xs ++ body ∷ []) ≡ (if nat_lt (length (held_of most xs)) most || ends body then held_of most xs ++ body ∷ [] else held_of most xs)
held_step zero xs body = filter_join ends xs (body ∷ []) ∙ (go (ends body) ∙ ap (λ b. if b || ends body then filter ends xs ++ body ∷ [] else filter ends xs) (sym (none_less (length (filter ends xs)))))
  where
    more : (b : Bool) → filter ends xs ++ cond b (body ∷ []) [] ≡ (if b then filter ends xs ++ body ∷ [] else filter ends xs)
    more true = refl
    more false = append-nil (filter ends xs)

    go : (b : Bool) → filter ends xs ++ cond b (body ∷ []) [] ≡ (if false || b then filter ends xs ++ body ∷ [] else filter ends xs)
    go b = more b
held_step (suc n) [] body = ap₂ (λ us vs. (body ∷ us) ++ filter ends vs) (take_none n) (drop_none n) ∙ ap (λ (b : Bool). if b || ends body then body ∷ [] else []) (sym (lt-ltb 0 (suc n) (omega arith)))
held_step (suc n) (x ∷ xs) body = ap (λ z. x ∷ z) (held_step n xs body)
    ∙ (if_first x (nat_lt (length (held_of n xs)) n || ends body) (held_of n xs ++ body ∷ []) (held_of n xs)
    ∙ ap (λ (b : Bool). if b || ends body then x ∷ (held_of n xs ++ body ∷ []) else x ∷ held_of n xs) (sym (less_both (length (held_of n xs)) n)))

-- The first that begins

taken_first : (f : List ℕ) (ys zs : List (List ℕ)) → f ∷ [] ≡ take 1 ys → f ∷ [] ≡ take 1 (ys ++ zs)
taken_first f [] zs h = absurd (cc)
taken_first f (y ∷ ys) zs h = h

taken_next : (ys zs : List (List ℕ)) → [] ≡ take 1 ys → take 1 zs ≡ take 1 (ys ++ zs)
taken_next [] zs h = refl
taken_next (y ∷ ys) zs h = absurd (cc)

pub opening_step : (params : Option Json) (xs : List (List ℕ)) (body : List ℕ) → begins body ≡ is_begin params → (o : Option (List ℕ)) → held_first o ≡ opening xs → held_first (first_begin body params o) ≡ opening (xs ++ body ∷ [])
opening_step params xs body is (Some first) h = taken_first first (filter begins xs) (filter begins (body ∷ [])) h ∙ sym (ap (take 1) (filter_join begins xs (body ∷ [])))
opening_step params xs body is None h = go (is_begin params) ∙ (ap (λ b. take 1 (cond b (body ∷ []) [])) (sym is) ∙ (taken_next (filter begins xs) (filter begins (body ∷ [])) h ∙ sym (ap (take 1) (filter_join begins xs (body ∷ [])))))
  where
    go : (b : Bool) → held_first (if b then Some body else None) ≡ take 1 (cond b (body ∷ []) [])
    go true = refl
    go false = refl

-- What is due

pub cut_fresh : (ws : List Word) → list_any is_asks ws ≡ false → is_cut ws ≡ false
cut_fresh ws h = ap cut_asked (since_none is_asks ws h)

pub due_fresh : (ws : List Word) → list_any is_asks ws ≡ false → due ws ≡ []
due_fresh ws h = ap (due_asked (opening (bodies (until is_asks ws)))) (since_none is_asks ws h)

module _ (us : List Word) (n : ℕ) (vs : List Word) (fresh : list_any is_asks us ≡ false) where
  abbrev pub waited : List (List ℕ)
  waited = opening (bodies us) ++ bodies vs

  due_from : (ws : List Word) → due (us ++ asks n ∷ ws) ≡ due_settled (opening (bodies us) ++ bodies (until (settles n) ws)) (since (settles n) ws)
  due_from ws = ap₂ (λ x y. due_asked (opening (bodies x)) y) (until_at is_asks us (asks n) ws fresh refl) (since_at is_asks us (asks n) ws fresh refl)

  cut_from : (ws : List Word) → is_cut (us ++ asks n ∷ ws) ≡ cut_settled (since (settles n) ws)
  cut_from ws = ap cut_asked (since_at is_asks us (asks n) ws fresh refl)

  module _ (unsettled : list_any (settles n) vs ≡ false) where
    pub cut_waits : is_cut (us ++ asks n ∷ vs) ≡ false
    cut_waits = cut_from vs ∙ ap cut_settled (since_none (settles n) vs unsettled)

    pub cut_settles : (w : Word) (zs : List Word) → settles n w ≡ true → is_cut (us ++ asks n ∷ (vs ++ w ∷ zs)) ≡ cut_settled (w ∷ zs)
    cut_settles w zs at = cut_from (vs ++ w ∷ zs) ∙ ap cut_settled (since_at (settles n) vs w zs unsettled at)

    pub cut_goes : (id : Option Id) (zs : List Word) → names id n ≡ true → list_any is_parts zs ≡ false → is_cut (us ++ asks n ∷ (vs ++ replies id true ∷ zs)) ≡ false
    cut_goes id zs named stays = cut_settles (replies id true) zs named ∙ ap breaks_off (since_none is_parts zs stays)

    pub cut_left : (id : Option Id) (zs : List Word) (w : Word) (ys : List Word) → names id n ≡ true → list_any is_parts zs ≡ false → is_parts w ≡ true → is_cut (us ++ asks n ∷ (vs ++ replies id true ∷ (zs ++ w ∷ ys))) ≡ breaks_off (w ∷ ys)
    cut_left id zs w ys named stays off = cut_settles (replies id true) (zs ++ w ∷ ys) named ∙ ap breaks_off (since_at is_parts zs w ys stays off)

    pub due_waits : due (us ++ asks n ∷ vs) ≡ []
    due_waits = due_from vs ∙ ap (λ z. due_settled (opening (bodies us) ++ bodies (until (settles n) vs)) z) (since_none (settles n) vs unsettled)

    due_settles : (w : Word) (zs : List Word) → settles n w ≡ true → due (us ++ asks n ∷ (vs ++ w ∷ zs)) ≡ due_settled waited (w ∷ zs)
    due_settles w zs at = due_from (vs ++ w ∷ zs) ∙ ap₂ (λ x y. due_settled (opening (bodies us) ++ bodies x) y) (until_at (settles n) vs w zs unsettled at) (since_at (settles n) vs w zs unsettled at)

    pub due_goes : (id : Option Id) (zs : List Word) → names id n ≡ true → list_any is_parts zs ≡ false → due (us ++ asks n ∷ (vs ++ replies id true ∷ zs)) ≡ held_of held_most waited ++ bodies zs
    due_goes id zs named stays = due_settles (replies id true) zs named ∙ ap (λ z. held_of held_most waited ++ bodies z) (until_none is_parts zs stays)

    due_left : (id : Option Id) (zs : List Word) (w : Word) (ys : List Word) → names id n ≡ true → list_any is_parts zs ≡ false → is_parts w ≡ true → due (us ++ asks n ∷ (vs ++ replies id true ∷ (zs ++ w ∷ ys))) ≡ held_of held_most waited ++ bodies zs
    due_left id zs w ys named stays off = due_settles (replies id true) (zs ++ w ∷ ys) named ∙ ap (λ z. held_of held_most waited ++ bodies z) (until_at is_parts zs w ys stays off)

abbrev pub agrees : Word → Bool
agrees (replies id agreed) = agreed
agrees other = false

none_due : (xs : List (List ℕ)) (w : Word) (zs : List Word) → agrees w ≡ false → due_settled xs (w ∷ zs) ≡ []
none_due xs (replies id true) zs h = never h
none_due xs (replies id false) zs h = refl
none_due xs (tells body) zs h = refl
none_due xs (asks n) zs h = refl
none_due xs parts zs h = refl
none_due xs breaks zs h = refl
none_due xs rests zs h = refl

none_cut : (w : Word) (zs : List Word) → agrees w ≡ false → cut_settled (w ∷ zs) ≡ false
none_cut (replies id true) zs h = never h
none_cut (replies id false) zs h = refl
none_cut (tells body) zs h = refl
none_cut (asks n) zs h = refl
none_cut parts zs h = refl
none_cut breaks zs h = refl
none_cut rests zs h = refl

off_same : (w : Word) (ys zs : List Word) → breaks_off (w ∷ ys) ≡ breaks_off (w ∷ zs)
off_same breaks ys zs = refl
off_same (replies id agreed) ys zs = refl
off_same (tells body) ys zs = refl
off_same (asks n) ys zs = refl
off_same parts ys zs = refl
off_same rests ys zs = refl

-- Nothing more is due, whatever comes
pub record Over (ws : List Word) : Type 0 where
  pub asked : list_any is_asks ws ≡ true
  pub same : (more : List Word) → due (ws ++ more) ≡ due ws
  pub cut : (more : List Word) → is_cut (ws ++ more) ≡ is_cut ws

pub over_more : (ws more : List Word) → Over ws → Over (ws ++ more)
over_more ws more h = record {
  asked = any_join is_asks ws more ∙ ap (λ b. b || list_any is_asks more) h.asked;
  same = λ later. ap due (append_assoc ws more later) ∙ (h.same (more ++ later) ∙ sym (h.same more));
  cut = λ later. ap is_cut (append_assoc ws more later) ∙ (h.cut (more ++ later) ∙ sym (h.cut more));
}

or_second : (a b : Bool) → b ≡ true → (a || b) ≡ true
or_second true b h = refl
or_second false b h = h

module _ (us : List Word) (n : ℕ) (vs : List Word) (fresh : list_any is_asks us ≡ false) (unsettled : list_any (settles n) vs ≡ false) where
  pub asked_there : (ws : List Word) → list_any is_asks (us ++ asks n ∷ ws) ≡ true
  asked_there ws = any_join is_asks us (asks n ∷ ws) ∙ or_second (list_any is_asks us) true refl

  along : (w : Word) (more : List Word) → ((us ++ asks n ∷ vs) ++ w ∷ []) ++ more ≡ us ++ asks n ∷ (vs ++ w ∷ more)
  along w more = append_assoc (us ++ asks n ∷ vs) (w ∷ []) more ∙ append_assoc us (asks n ∷ vs) (w ∷ more)

  -- it refuses, or leaves before it answers
  pub refused : (w : Word) → settles n w ≡ true → agrees w ≡ false → (Over ((us ++ asks n ∷ vs) ++ w ∷ [])) × (due ((us ++ asks n ∷ vs) ++ w ∷ []) ≡ [])
  refused w at against = (record { asked = any_join is_asks (us ++ asks n ∷ vs) (w ∷ []) ∙ ap (λ b. b || list_any is_asks (w ∷ [])) (asked_there vs); same = λ more. nothing more ∙ sym once; cut = λ more. uncut more ∙ sym uncut_once }, once)
    where
      uncut : (more : List Word) → is_cut (((us ++ asks n ∷ vs) ++ w ∷ []) ++ more) ≡ false
      uncut more = ap is_cut (along w more) ∙ (cut_settles us n vs fresh unsettled w more at ∙ none_cut w more against)

      uncut_once : is_cut ((us ++ asks n ∷ vs) ++ w ∷ []) ≡ false
      uncut_once = ap is_cut (append_assoc us (asks n ∷ vs) (w ∷ [])) ∙ (cut_settles us n vs fresh unsettled w [] at ∙ none_cut w [] against)

      nothing : (more : List Word) → due (((us ++ asks n ∷ vs) ++ w ∷ []) ++ more) ≡ []
      nothing more = ap due (along w more) ∙ (due_settles us n vs fresh unsettled w more at ∙ none_due (waited us n vs fresh) w more against)

      once : due ((us ++ asks n ∷ vs) ++ w ∷ []) ≡ []
      once = ap due (append_assoc us (asks n ∷ vs) (w ∷ [])) ∙ (due_settles us n vs fresh unsettled w [] at ∙ none_due (waited us n vs fresh) w [] against)

  -- it leaves, and accepted before
  module _ (id : Option Id) (zs : List Word) (named : names id n ≡ true) (stays : list_any is_parts zs ≡ false) where
    further : (w : Word) (more : List Word) → ((us ++ asks n ∷ (vs ++ replies id true ∷ zs)) ++ w ∷ []) ++ more ≡ us ++ asks n ∷ (vs ++ replies id true ∷ (zs ++ w ∷ more))
    further w more = append_assoc (us ++ asks n ∷ (vs ++ replies id true ∷ zs)) (w ∷ []) more ∙ (append_assoc us (asks n ∷ (vs ++ replies id true ∷ zs)) (w ∷ more) ∙ ap (λ z. us ++ asks n ∷ z) (append_assoc vs (replies id true ∷ zs) (w ∷ more)))

    once_further : (w : Word) → (us ++ asks n ∷ (vs ++ replies id true ∷ zs)) ++ w ∷ [] ≡ us ++ asks n ∷ (vs ++ replies id true ∷ (zs ++ w ∷ []))
    once_further w = append_assoc us (asks n ∷ (vs ++ replies id true ∷ zs)) (w ∷ []) ∙ ap (λ z. us ++ asks n ∷ z) (append_assoc vs (replies id true ∷ zs) (w ∷ []))

    pub cut_once : (w : Word) → is_parts w ≡ true → is_cut ((us ++ asks n ∷ (vs ++ replies id true ∷ zs)) ++ w ∷ []) ≡ breaks_off (w ∷ [])
    cut_once w off = ap is_cut (once_further w) ∙ cut_left us n vs fresh unsettled id zs w [] named stays off

    pub parted : (w : Word) → is_parts w ≡ true → (Over ((us ++ asks n ∷ (vs ++ replies id true ∷ zs)) ++ w ∷ [])) × (due ((us ++ asks n ∷ (vs ++ replies id true ∷ zs)) ++ w ∷ []) ≡ held_of held_most (waited us n vs fresh) ++ bodies zs)
    parted w off = (record { asked = any_join is_asks (us ++ asks n ∷ (vs ++ replies id true ∷ zs)) (w ∷ []) ∙ ap (λ b. b || list_any is_asks (w ∷ [])) (asked_there (vs ++ replies id true ∷ zs)); same = λ more. each more ∙ sym once; cut = λ more. cut_more more ∙ (off_same w more [] ∙ sym (cut_once w off)) }, once)
      where
        cut_more : (more : List Word) → is_cut (((us ++ asks n ∷ (vs ++ replies id true ∷ zs)) ++ w ∷ []) ++ more) ≡ breaks_off (w ∷ more)
        cut_more more = ap is_cut (further w more) ∙ cut_left us n vs fresh unsettled id zs w more named stays off

        each : (more : List Word) → due (((us ++ asks n ∷ (vs ++ replies id true ∷ zs)) ++ w ∷ []) ++ more) ≡ held_of held_most (waited us n vs fresh) ++ bodies zs
        each more = ap due (further w more) ∙ due_left us n vs fresh unsettled id zs w more named stays off

        once : due ((us ++ asks n ∷ (vs ++ replies id true ∷ zs)) ++ w ∷ []) ≡ held_of held_most (waited us n vs fresh) ++ bodies zs
        once = ap due (once_further w) ∙ due_left us n vs fresh unsettled id zs w [] named stays off
