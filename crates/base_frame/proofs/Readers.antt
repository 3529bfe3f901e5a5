-- What a reader keeps, over plain lists.
use Rattle.std.proofs.Common.{◌≡◌, refl, ap, ◌∙◌, sym, subst, ℕ, true, false, List, [], ◌∷◌, ◌++◌, ◌⊎◌, inl, inr, append_assoc, append-nil}
use Rattle.std.specs.Prelude.{IsTrue}
use Rattle.base_frame.specs.declared.block.BadWhy.{BadWhy}
use Rattle.base_frame.specs.Machine.{Front, whole, fault, short, front_from, front_of, NotWhole, Cuts, Taken, is_fault, is_whole}
use Rattle.base_frame.specs.Grammar.{IsFrame, IsFault}
use Rattle.base_frame.specs.Frames.{Splits, HasNoFrame, HasNoFault}
use Rattle.base_frame.specs.Reader.{Held, Stands, IsFaulty}
use Rattle.base_frame.specs.Answer.{Behind}
use Rattle.base_frame.proofs.Laws.{fault_grows}
use Rattle.base_frame.proofs.Ties.{taken, frame_taken, found, fault_found}

abbrev pub held : ℕ → List (List ℕ) → List ℕ → Held
held limit ready rest = record { limit = limit; ready = ready; rest = rest }

clash : false ≡ true → ⊥
clash h = cc

-- the grammar and the machine

pub no_frame : (limit : ℕ) (bs : List ℕ) → NotWhole (front_of limit bs) → HasNoFrame limit bs
no_frame limit bs h = λ c more f. subst NotWhole (frame_taken limit bs c more f) h

fault_is : (at p : ℕ) (why w : BadWhy) (c more : List ℕ) → fault at why ≡ whole c more → ⊥
fault_is at p why w c more h = cc

pub fault_no_frame : (limit : ℕ) (bs : List ℕ) (at : ℕ) (why : BadWhy) → IsFault limit bs at why → HasNoFrame limit bs
fault_no_frame limit bs at why h = λ c more f. fault_is at at why why c more (sym (fault_found limit bs at why h) ∙ frame_taken limit bs c more f)

pub fault_stays : (limit : ℕ) (bs extra : List ℕ) (at : ℕ) (why : BadWhy) → IsFault limit bs at why → IsFault limit (bs ++ extra) at why
fault_stays limit bs extra at why h = found limit (bs ++ extra) at why (fault_grows limit bs extra at why (fault_found limit bs at why h))

short_is : (at : ℕ) (why : BadWhy) → short ≡ fault at why → ⊥
short_is at why h = cc

pub faulty_of : (limit : ℕ) (bs : List ℕ) (f : Front) → front_of limit bs ≡ f → IsTrue (is_fault f) → IsFaulty limit bs
faulty_of limit bs (whole c more) e h = absurd (clash h)
faulty_of limit bs (fault at why) e h = (at, why, found limit bs at why e)
faulty_of limit bs short e h = absurd (clash h)

pub is_faulty : (limit : ℕ) (bs : List ℕ) → IsFaulty limit bs → is_fault (front_of limit bs) ≡ true
is_faulty limit bs h = ap is_fault (fault_found limit bs h.0 h.1 h.2)

-- frames behind frames

pub splits_of : (limit : ℕ) (stream : List ℕ) (cs : List (List ℕ)) (rest : List ℕ) → Cuts limit stream cs rest → Splits limit stream cs rest
splits_of limit stream [] rest h = h
splits_of limit stream (c ∷ cs) rest h = (h.0, taken limit stream c h.0 h.1, splits_of limit h.0 cs rest h.2)

pub cuts_of : (limit : ℕ) (stream : List ℕ) (cs : List (List ℕ)) (rest : List ℕ) → Splits limit stream cs rest → Cuts limit stream cs rest
cuts_of limit stream [] rest h = h
cuts_of limit stream (c ∷ cs) rest h = (h.0, frame_taken limit stream c h.0 h.1, cuts_of limit h.0 cs rest h.2)

pub frame_grows : (limit : ℕ) (stream c more extra : List ℕ) → IsFrame limit stream c more → IsFrame limit (stream ++ extra) c (more ++ extra)
frame_grows limit stream c more extra h = record { block = h.block; bytes = ap (λ x. x ++ extra) h.bytes ∙ simp append_assoc; header = h.header }

pub splits_grow : (limit : ℕ) (stream : List ℕ) (cs : List (List ℕ)) (rest extra : List ℕ) → Splits limit stream cs rest → Splits limit (stream ++ extra) cs (rest ++ extra)
splits_grow limit stream [] rest extra h = ap (λ b. b ++ extra) h
splits_grow limit stream (c ∷ cs) rest extra h = (h.0 ++ extra, frame_grows limit stream c h.0 extra h.1, splits_grow limit h.0 cs rest extra h.2)

pub splits_then : (limit : ℕ) (stream : List ℕ) (cs : List (List ℕ)) (rest : List ℕ) (ds : List (List ℕ)) (more : List ℕ) → Splits limit stream cs rest → Splits limit rest ds more → Splits limit stream (cs ++ ds) more
splits_then limit stream [] rest ds more h k = subst (λ b. Splits limit b ds more) (sym h) k
splits_then limit stream (c ∷ cs) rest ds more h k = (h.0, h.1, splits_then limit h.0 cs rest ds more h.2 k)

nothing_whole : (limit : ℕ) → NotWhole (front_of limit [])
unfolding front_from
nothing_whole limit = tt

pub new_stands : (limit : ℕ) (ready : List (List ℕ)) (rest : List ℕ) → ready ≡ [] → rest ≡ [] → Stands (held limit ready rest) [] []
new_stands limit ready rest p q = ([], subst (λ r. Splits limit [] r []) (sym p) refl, record { none_whole = subst (HasNoFrame limit) (sym q) (no_frame limit [] (nothing_whole limit)); all_kept = inl q })

-- the next content

pub stands_given : (limit : ℕ) (ready new : List (List ℕ)) (body kept fed : List ℕ) (given : List (List ℕ)) → ready ≡ body ∷ new
    → Stands (held limit ready kept) fed given → Stands (held limit new kept) fed (given ++ body ∷ [])
stands_given limit ready new body kept fed given p h =
    (h.0, subst (λ cs. Splits limit fed cs h.0) (ap (λ r. given ++ r) p ∙ sym (append_assoc given (body ∷ []) new)) h.1, h.2)

all_given : (limit : ℕ) (ready : List (List ℕ)) (rest fed : List ℕ) (given : List (List ℕ)) → ready ≡ [] → Splits limit fed (given ++ ready) rest → Splits limit fed given rest
all_given limit ready rest fed given p h = subst (λ cs. Splits limit fed cs rest) (ap (λ r. given ++ r) p ∙ append-nil given) h

rest_bad : (limit : ℕ) (kept rest : List ℕ) (at : ℕ) (why : BadWhy) → IsFault limit kept at why → (kept ≡ rest) ⊎ (IsFaulty limit kept × ((more : List ℕ) × (rest ≡ kept ++ more))) → IsFault limit rest at why
rest_bad limit kept rest at why h (inl e) = subst (λ x. IsFault limit x at why) e h
rest_bad limit kept rest at why h (inr k) = subst (λ x. IsFault limit x at why) (sym k.1.1) (fault_stays limit kept k.1.0 at why h)

pub gives_bad : (limit : ℕ) (ready : List (List ℕ)) (kept fed : List ℕ) (given : List (List ℕ)) (at : ℕ) (why : BadWhy) → ready ≡ [] → fault at why ≡ front_of limit kept
    → Stands (held limit ready kept) fed given → (rest : List ℕ) × Behind (held limit ready kept) fed given rest × IsFault limit rest at why
gives_bad limit ready kept fed given at why p q h =
    let bad : IsFault limit h.0 at why = rest_bad limit kept h.0 at why (found limit kept at why (sym q)) h.2.all_kept in
    (h.0, (all_given limit ready h.0 fed given p h.1, fault_no_frame limit h.0 at why bad), bad)

no_fault : (limit : ℕ) (kept : List ℕ) → short ≡ front_of limit kept → HasNoFault limit kept
no_fault limit kept q = λ at why f. short_is at why (q ∙ fault_found limit kept at why f)

rest_short : (limit : ℕ) (kept rest : List ℕ) → short ≡ front_of limit kept → HasNoFrame limit kept → (kept ≡ rest) ⊎ (IsFaulty limit kept × ((more : List ℕ) × (rest ≡ kept ++ more)))
    → HasNoFrame limit rest × HasNoFault limit rest
rest_short limit kept rest q n (inl e) = (subst (HasNoFrame limit) e n, subst (HasNoFault limit) e (no_fault limit kept q))
rest_short limit kept rest q n (inr k) = absurd (no_fault limit kept q k.0.0 k.0.1 k.0.2)

pub gives_short : (limit : ℕ) (ready : List (List ℕ)) (kept fed : List ℕ) (given : List (List ℕ)) → ready ≡ [] → short ≡ front_of limit kept
    → Stands (held limit ready kept) fed given → (rest : List ℕ) × Behind (held limit ready kept) fed given rest × HasNoFault limit rest
gives_short limit ready kept fed given p q h =
    let r = rest_short limit kept h.0 q h.2.none_whole h.2.all_kept in
    (h.0, (all_given limit ready h.0 fed given p h.1, r.0), r.1)

pub none_whole_clash : (limit : ℕ) (ready : List (List ℕ)) (kept fed : List ℕ) (given : List (List ℕ)) (c more : List ℕ) → whole c more ≡ front_of limit kept
    → Stands (held limit ready kept) fed given → ⊥
none_whole_clash limit ready kept fed given c more q h = h.2.none_whole c more (taken limit kept c more (sym q))

-- the next piece

kept_more : (limit : ℕ) (kept rest piece : List ℕ) → IsFaulty limit kept → (kept ≡ rest) ⊎ (IsFaulty limit kept × ((more : List ℕ) × (rest ≡ kept ++ more))) → (more : List ℕ) × ((rest ++ piece) ≡ kept ++ more)
kept_more limit kept rest piece b (inl e) = (piece, ap (λ x. x ++ piece) (sym e))
kept_more limit kept rest piece b (inr k) = (k.1.0 ++ piece, ap (λ x. x ++ piece) k.1.1 ∙ append_assoc kept k.1.0 piece)

pub stands_bad : (r : Held) (fed : List ℕ) (given : List (List ℕ)) (piece : List ℕ) → IsTrue (is_fault (front_of r.limit r.rest)) → Stands r fed given → Stands r (fed ++ piece) given
stands_bad r fed given piece b h =
    let bad : IsFaulty r.limit r.rest = faulty_of r.limit r.rest (front_of r.limit r.rest) refl b in
    (h.0 ++ piece, splits_grow r.limit fed (given ++ r.ready) h.0 piece h.1, record { none_whole = h.2.none_whole; all_kept = inr (bad, kept_more r.limit r.rest h.0 piece bad h.2.all_kept) })

kept_whole : (limit : ℕ) (kept rest : List ℕ) → is_fault (front_of limit kept) ≡ false → (kept ≡ rest) ⊎ (IsFaulty limit kept × ((more : List ℕ) × (rest ≡ kept ++ more))) → kept ≡ rest
kept_whole limit kept rest b (inl h) = h
kept_whole limit kept rest b (inr h) = absurd (clash (sym b ∙ is_faulty limit kept h.0))

pub stands_taken : (limit : ℕ) (ready new : List (List ℕ)) (kept left fed : List ℕ) (given : List (List ℕ)) (piece : List ℕ) → is_fault (front_of limit kept) ≡ false
    → Taken limit (kept ++ piece) ready new left → Stands (held limit ready kept) fed given → Stands (held limit new left) (fed ++ piece) given
stands_taken limit ready new kept left fed given piece b k h =
    let same : kept ≡ h.0 = kept_whole limit kept h.0 b h.2.all_kept in
    let front : Splits limit (fed ++ piece) (given ++ ready) (kept ++ piece) = subst (λ x. Splits limit (fed ++ piece) (given ++ ready) (x ++ piece)) (sym same) (splits_grow limit fed (given ++ ready) h.0 piece h.1) in
    let both : Splits limit (fed ++ piece) ((given ++ ready) ++ k.0) left = splits_then limit (fed ++ piece) (given ++ ready) (kept ++ piece) k.0 left front (splits_of limit (kept ++ piece) k.0 left k.2) in
    (left, subst (λ cs. Splits limit (fed ++ piece) cs left) (append_assoc given ready k.0 ∙ ap (λ r. given ++ r) (sym k.1)) both, record { none_whole = no_frame limit left k.3; all_kept = inl refl })

not_whole : (f : Front) → is_whole f ≡ false → NotWhole f
not_whole (whole c more) h = absurd (clash (sym h))
not_whole (fault at why) h = tt
not_whole short h = tt

pub none_taken : (limit : ℕ) (ready : List (List ℕ)) (rest : List ℕ) → is_whole (front_of limit rest) ≡ false → Taken limit rest ready ready rest
none_taken limit ready rest h = ([], sym (append-nil ready), refl, not_whole (front_of limit rest) h)

-- one call

none_there : (limit : ℕ) (ready new : List (List ℕ)) (kept fed : List ℕ) (given : List (List ℕ)) → ready ≡ new → Stands (held limit ready kept) fed given → Stands (held limit new kept) fed given
none_there limit ready new kept fed given e h = subst (λ x. Stands (held limit x kept) fed given) e h

pub next_bad : (limit : ℕ) (ready new : List (List ℕ)) (kept fed : List ℕ) (given : List (List ℕ)) (at : ℕ) (why : BadWhy) → ready ≡ new → new ≡ [] → fault at why ≡ front_of limit kept
    → Stands (held limit ready kept) fed given → Stands (held limit new kept) fed given × ((rest : List ℕ) × Behind (held limit new kept) fed given rest × IsFault limit rest at why)
next_bad limit ready new kept fed given at why e n q h =
    let k = none_there limit ready new kept fed given e h in (k, gives_bad limit new kept fed given at why n q k)

pub next_short : (limit : ℕ) (ready new : List (List ℕ)) (kept fed : List ℕ) (given : List (List ℕ)) → ready ≡ new → new ≡ [] → short ≡ front_of limit kept
    → Stands (held limit ready kept) fed given → Stands (held limit new kept) fed given × ((rest : List ℕ) × Behind (held limit new kept) fed given rest × HasNoFault limit rest)
next_short limit ready new kept fed given e n q h =
    let k = none_there limit ready new kept fed given e h in (k, gives_short limit new kept fed given n q k)

pub next_whole : (limit : ℕ) (ready : List (List ℕ)) (kept fed : List ℕ) (given : List (List ℕ)) (c more : List ℕ) → whole c more ≡ front_of limit kept → Stands (held limit ready kept) fed given → ⊥
next_whole limit ready kept fed given c more q h = none_whole_clash limit ready kept fed given c more q h

pub found_at : (limit : ℕ) (bs : List ℕ) (at : ℕ) (why : BadWhy) → fault at why ≡ front_of limit bs → IsFaulty limit bs
found_at limit bs at why q = (at, why, found limit bs at why (sym q))

pub fed_taken : (r : Held) (limit : ℕ) (ready new : List (List ℕ)) (kept longer left fed : List ℕ) (given : List (List ℕ)) (piece : List ℕ) → held limit ready kept ≡ r → is_fault (front_of r.limit r.rest) ≡ false
    → longer ≡ kept ++ piece → Taken limit longer ready new left → Stands r fed given → Stands (held limit new left) (fed ++ piece) given
fed_taken r limit ready new kept longer left fed given piece v b e k h =
    stands_taken limit ready new kept left fed given piece (subst (λ (q : Held). is_fault (front_of q.limit q.rest) ≡ false) (sym v) b) (subst (λ x. Taken limit x ready new left) e k)
    (subst (λ (q : Held). Stands q fed given) (sym v) h)

pub fed_none : (r : Held) (limit : ℕ) (ready : List (List ℕ)) (kept longer fed : List ℕ) (given : List (List ℕ)) (piece : List ℕ) → held limit ready kept ≡ r → is_fault (front_of r.limit r.rest) ≡ false
    → longer ≡ kept ++ piece → is_whole (front_of limit longer) ≡ false → Stands r fed given → Stands (held limit ready longer) (fed ++ piece) given
fed_none r limit ready kept longer fed given piece v b e k h = fed_taken r limit ready ready kept longer longer fed given piece v b e (none_taken limit ready longer k) h
