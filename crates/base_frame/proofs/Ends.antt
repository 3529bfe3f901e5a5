-- How a block ends, and that each one that is begun can be ended.
use Rattle.std.proofs.Common.{◌≡◌, refl, ap, ◌∙◌, sym, subst, ℕ, ◌+◌, ◌-◌, ◌*◌, ◌<◌, ◌≤◌, true, false, List, [], ◌∷◌, ◌++◌, ◌⊎◌, inl, inr, length, append_assoc, append-nil, arith}
use Rattle.std.specs.Prelude.{◌==◌, nat_le, Option, Some, None, codes}
use Rattle.std.proofs.lemmas.Bool.{le-leb}
use Rattle.std.proofs.lemmas.List.{length-append, length-map}
use Rattle.std.proofs.lemmas.Bool.Decides.{nat_tests}
use Rattle.base_frame.specs.declared.block.BadWhy.{BadWhy}
use Rattle.base_frame.specs.declared.block.BadWhy.TheVariants.{TwoLengths, NoLength, TooLong}
use Rattle.base_frame.specs.declared.block.Part.{Part}
use Rattle.base_frame.specs.declared.block.Part.TheVariants.{Start, LengthName, OtherName, Value, Before, Digits, After, LineEnd, BlockEnd}
use Rattle.base_frame.specs.declared.block.State.{State}
use Rattle.base_frame.specs.declared.block.Move.TheVariants.{Goes, Ends, Bad}
use Rattle.base_frame.specs.Block.{small, is_name_byte, is_digit, goes, part_step, start}
use Rattle.base_frame.specs.Grammar.{Each, NotEmpty, number, IsLengthName, IsOpenBlock, BeginsBlock, IsUnended, IsSecond, IsWithout, IsBeyond}
use Rattle.base_frame.proofs.Names.{SoFar}
use Rattle.base_frame.proofs.Steps.{Read, Says, step_says, no_fields}
use Rattle.base_frame.proofs.Walks.{st, Walks, walk_then, walk_name, walk_whole_name, whole_name, second_step, colon_other, walk_fields, walk_have, walk_before, walk_digits, walk_length_name, beyond_first, beyond_next, walk_block}

pub read_walk : (limit : ℕ) (pre bs : List ℕ) (s t : State) → Read limit pre s.length s.part → Walks limit s bs t → Read limit (pre ++ bs) t.length t.part
read_walk limit pre [] s t h k = subst (λ (x : State). Read limit (pre ++ []) x.length x.part) k (subst (λ x. Read limit x s.length s.part) (sym (append-nil pre)) h)
read_walk limit pre (b ∷ bs) s t h k =
    let next : Says limit pre b (Goes k.0) = subst (Says limit pre b) k.1 (step_says limit pre b s.length s.part h) in
    subst (λ x. Read limit x t.length t.part) (append_assoc pre (b ∷ []) bs) (read_walk limit (pre ++ b ∷ []) bs k.0 t next k.2)

pub read_front : (limit : ℕ) (front : List ℕ) (t : State) → Walks limit start front t → Read limit front t.length t.part
read_front limit front t h = read_walk limit [] front start t no_fields h

-- a state from which a block can be ended
abbrev pub Completes : ℕ → State → Type 0
Completes limit s = (more : List ℕ) × (n : ℕ) × Walks limit s more (st BlockEnd (Some n))

complete_then : (limit : ℕ) (s t : State) (xs : List ℕ) → Walks limit s xs t → Completes limit t → Completes limit s
complete_then limit s t xs h k = (xs ++ k.0, k.1, walk_then limit s t (st BlockEnd (Some k.1)) xs k.0 h k.2)

zero_step : (limit : ℕ) → part_step limit 48 None Before ≡ goes Digits (Some 0)
zero_step limit = rw (le-leb 0 limit (omega arith)) refl

complete_some : (limit n : ℕ) → Completes limit (st Start (Some n))
complete_some limit n = (13 ∷ [], n, (st BlockEnd (Some n), refl, refl))

complete_line : (limit n : ℕ) (p : Part) → part_step limit 13 (Some n) p ≡ goes LineEnd (Some n) → Completes limit (st p (Some n))
complete_line limit n p h = complete_then limit (st p (Some n)) (st Start (Some n)) (13 ∷ 10 ∷ []) (st LineEnd (Some n), h, (st Start (Some n), refl, refl)) (complete_some limit n)

complete_before : (limit : ℕ) → Completes limit (st Before None)
complete_before limit = complete_then limit (st Before None) (st Digits (Some 0)) (48 ∷ []) (st Digits (Some 0), zero_step limit, refl) (complete_line limit 0 Digits refl)

length_bytes : Each is_name_byte (codes "content-length")
length_bytes = (refl, (refl, (refl, (refl, (refl, (refl, (refl, (refl, (refl, (refl, (refl, (refl, (refl, (refl, tt))))))))))))))

complete_start : (limit : ℕ) (l : Option ℕ) → Completes limit (st Start l)
complete_start limit (Some n) = complete_some limit n
complete_start limit None = complete_then limit (st Start None) (st Before None) (codes "content-length" ++ 58 ∷ []) (walk_length_name limit (codes "content-length") refl length_bytes) (complete_before limit)

complete_value : (limit : ℕ) (l : Option ℕ) → Completes limit (st Value l)
complete_value limit l = complete_then limit (st Value l) (st Start l) (13 ∷ 10 ∷ []) (st LineEnd l, refl, (st Start l, refl, refl)) (complete_start limit l)

-- a name with so many letters more is no length's
long_name : (name : List ℕ) → IsLengthName (name ++ codes "fifteen-letters") → ⊥
long_name name h =
    let count : length (name ++ codes "fifteen-letters") ≡ 14 = sym (length-map (name ++ codes "fifteen-letters") small) ∙ ap length h in
    let split : length name + 15 ≡ length (name ++ codes "fifteen-letters") = sym (length-append name (codes "fifteen-letters")) in
    absurd (omega (arith, count, split))

long_bytes : Each is_name_byte (codes "fifteen-letters")
long_bytes = (refl, (refl, (refl, (refl, (refl, (refl, (refl, (refl, (refl, (refl, (refl, (refl, (refl, (refl, (refl, tt)))))))))))))))

complete_name : (limit : ℕ) (l : Option ℕ) (name : List ℕ) (p : Part) → SoFar name p → Completes limit (st p l)
complete_name limit l name p h =
    let r = walk_name limit l name p (codes "fifteen-letters") h long_bytes in
    complete_then limit (st p l) (st r.0 l) (codes "fifteen-letters") r.1 (complete_then limit (st r.0 l) (st Value l) (58 ∷ [])
    (st Value l, colon_other limit l (name ++ codes "fifteen-letters") r.0 r.2 (long_name name), refl) (complete_value limit l))

complete_length : (limit n : ℕ) (l : Option ℕ) (p : Part) → l ≡ Some n → part_step limit 13 (Some n) p ≡ goes LineEnd (Some n) → Completes limit (st p l)
complete_length limit n l p e h = subst (λ o. Completes limit (st p o)) (sym e) (complete_line limit n p h)

pub completes : (limit : ℕ) (pre : List ℕ) (l : Option ℕ) (p : Part) → Read limit pre l p → Completes limit (st p l)
completes limit pre l Start h = complete_start limit l
completes limit pre l (LengthName k) h = complete_name limit l h.name (LengthName k) h.so_far
completes limit pre l OtherName h = complete_name limit l h.name OtherName h.so_far
completes limit pre l Value h = complete_value limit l
completes limit pre l Before h = subst (λ o. Completes limit (st Before o)) (sym h.0) (complete_before limit)
completes limit pre l Digits h = complete_length limit h.n l Digits h.length_is refl
completes limit pre l After h = complete_length limit h.1.n l After h.1.length_is refl
completes limit pre l LineEnd h = complete_then limit (st LineEnd l) (st Start l) (10 ∷ []) (st Start l, refl, refl) (complete_start limit l)
completes limit pre l BlockEnd h = subst (λ o. Completes limit (st BlockEnd o)) (sym h.1) ([], h.0, refl)

unended : (limit n : ℕ) (pre more : List ℕ) → IsOpenBlock limit n ((pre ++ more) ++ 10 ∷ []) → IsUnended limit pre
unended limit n pre [] h = (10, ([], n, subst (IsOpenBlock limit n) (simp append-nil) h))
unended limit n pre (b ∷ more) h = (b, (more ++ 10 ∷ [], n, subst (IsOpenBlock limit n) (simp append_assoc) h))

some_number : (a b : ℕ) → Some a ≡ Some b → a ≡ b
some_number a b h = cc

-- what the machine is in the midst of is an unended block
pub is_unended : (limit : ℕ) (front : List ℕ) (t : State) → Walks limit start front t → IsUnended limit front
is_unended limit front t h =
    let read = read_front limit front t h in
    let c = completes limit front t.length t.part read in
    let end = read_walk limit front c.0 t (st BlockEnd (Some c.1)) read c.2 in
    unended limit end.0 front c.0 end.2

-- the machine passes over all of a block but its last byte, which ends it
abbrev pub Passes : ℕ → State → List ℕ → ℕ → Type 0
Passes limit s xs b = (t : State) × Walks limit s xs t × (((u : State) × (part_step limit b t.length t.part ≡ Goes u)) ⊎ ((n : ℕ) × (part_step limit b t.length t.part ≡ Ends n)))

head_same : (x y : ℕ) (xs ys : List ℕ) → (x ∷ xs) ≡ (y ∷ ys) → x ≡ y
head_same x y xs ys h = cc

tail_same : (x y : ℕ) (xs ys : List ℕ) → (x ∷ xs) ≡ (y ∷ ys) → xs ≡ ys
tail_same x y xs ys h = cc

not_one : (x b : ℕ) (xs more : List ℕ) → (x ∷ (xs ++ b ∷ more)) ≡ (10 ∷ []) → ⊥
not_one x b xs more h = omega (arith, ap length h, length-append xs (b ∷ more))

passes : (limit n : ℕ) (s : State) (xs : List ℕ) (b : ℕ) (more body : List ℕ) → (xs ++ b ∷ more) ≡ (body ++ 10 ∷ []) → Walks limit s body (st BlockEnd (Some n)) → Passes limit s xs b
passes limit n s [] b more [] e h =
    (s, refl, inr (n, subst (λ x. part_step limit x s.length s.part ≡ Ends n) (sym (head_same b 10 more [] e)) (subst (λ (x : State). part_step limit 10 x.length x.part ≡ Ends n) (sym h) refl)))
passes limit n s [] b more (y ∷ body) e h =
    (s, refl, inl (h.0, subst (λ x. part_step limit x s.length s.part ≡ Goes h.0) (sym (head_same b y more (body ++ 10 ∷ []) e)) h.1))
passes limit n s (x ∷ xs) b more [] e h = absurd (not_one x b xs more e)
passes limit n s (x ∷ xs) b more (y ∷ body) e h =
    let r = passes limit n h.0 xs b more body (tail_same x y (xs ++ b ∷ more) (body ++ 10 ∷ []) e) h.2 in
    (r.0, (h.0, subst (λ z. part_step limit z s.length s.part ≡ Goes h.0) (sym (head_same x y (xs ++ b ∷ more) (body ++ 10 ∷ []) e)) h.1, r.1), r.2)

pub begins_passes : (limit : ℕ) (front : List ℕ) (b : ℕ) → BeginsBlock limit (front ++ b ∷ []) → Passes limit start front b
begins_passes limit front b h =
    let w = walk_block limit h.1 ((front ++ b ∷ []) ++ h.0) h.2 in
    passes limit h.1 start front b h.0 w.0 (sym (append_assoc front (b ∷ []) h.0) ∙ w.1) w.2

pub unended_walks : (limit : ℕ) (front : List ℕ) → IsUnended limit front → (t : State) × Walks limit start front t
unended_walks limit front h = let r = begins_passes limit front h.0 h.1 in (r.0, r.1)

-- where the machine stops, for which cause

abbrev pub StopsBy : ℕ → List ℕ → ℕ → BadWhy → Type 0
StopsBy limit front b why = (t : State) × Walks limit start front t × (part_step limit b t.length t.part ≡ Bad why)

no_nil : IsLengthName [] → ⊥
no_nil h = cc

name_of_length : (name : List ℕ) → IsLengthName name → NotEmpty name
name_of_length [] h = absurd (no_nil h)
name_of_length (b ∷ bs) h = tt

at_second : (limit n : ℕ) (q : Part) → (k : ℕ) × (q ≡ LengthName k) × ((k == 14) ≡ true) → part_step limit 58 (Some n) q ≡ Bad TwoLengths
at_second limit n q w = subst (λ p. part_step limit 58 (Some n) p ≡ Bad TwoLengths) (sym w.1) (second_step limit w.0 n w.2)

pub second_stops : (limit : ℕ) (front : List ℕ) (b : ℕ) → IsSecond limit front b → StopsBy limit front b TwoLengths
second_stops limit front b h =
    let k = h.1 in
    let w = walk_whole_name limit (Some k.0) k.2 (name_of_length k.2 k.6) k.5 in
    let all : Walks limit start (k.1 ++ k.2) (st w.0 (Some k.0)) = walk_then limit start (st Start (Some k.0)) (st w.0 (Some k.0)) k.1 k.2 (walk_have limit k.0 k.1 k.4) w.1 in (
      st w.0 (Some k.0),
      subst (λ x. Walks limit start x (st w.0 (Some k.0))) (sym k.3) all,
      subst (λ x. part_step limit x (Some k.0) w.0 ≡ Bad TwoLengths) (sym h.0) (at_second limit k.0 w.0 (whole_name k.2 w.0 w.2 k.6)),
    )

pub without_stops : (limit : ℕ) (front : List ℕ) (b : ℕ) → IsWithout front b → StopsBy limit front b NoLength
without_stops limit front b h = (st Start None, walk_fields limit None front h.1, subst (λ x. part_step limit x None Start ≡ Bad NoLength) (sym h.0) refl)

over : (n limit : ℕ) → limit < n → nat_le n limit ≡ false
over n limit h = grind (arith, nat_tests)

in_digits : (limit b : ℕ) (ds : List ℕ) → Each is_digit ds → is_digit b ≡ true → number 0 ds ≤ limit → limit < number 0 ds * 10 + (b - 48)
    → (t : State) × Walks limit (st Before None) ds t × (part_step limit b t.length t.part ≡ Bad TooLong)
in_digits limit b [] h d f k = (st Before None, refl, beyond_first limit b d (over (0 * 10 + (b - 48)) limit k))
in_digits limit b (x ∷ ds) h d f k =
    (st Digits (Some (number 0 (x ∷ ds))), walk_digits limit (x ∷ ds) tt h f, beyond_next limit b (number 0 (x ∷ ds)) d (over (number 0 (x ∷ ds) * 10 + (b - 48)) limit k))

pub beyond_stops : (limit : ℕ) (front : List ℕ) (b : ℕ) → IsBeyond limit front b → StopsBy limit front b TooLong
beyond_stops limit front b h =
    let r = in_digits limit b h.digits h.digit_bytes h.digit h.fits h.beyond in
    let value = walk_then limit (st Before None) (st Before None) r.0 h.before h.digits (walk_before limit h.before h.spaces) r.1 in
    let field = walk_then limit (st Start None) (st Before None) r.0 (h.name ++ 58 ∷ []) (h.before ++ h.digits) (walk_length_name limit h.name h.named h.name_bytes) value in
    let all = walk_then limit start (st Start None) r.0 h.front ((h.name ++ 58 ∷ []) ++ (h.before ++ h.digits)) (walk_fields limit None h.front h.fields) field in
    let same : h.front ++ ((h.name ++ 58 ∷ []) ++ (h.before ++ h.digits)) ≡ front = sym (h.bytes ∙ simp append_assoc) in
    (r.0, subst (λ x. Walks limit start x r.0) same all, r.2)
