-- The machine and the grammar say the same of frames and faults.
use Rattle.std.proofs.Common.{suc, ◌≡◌, refl, ap, ◌∙◌, sym, subst, ℕ, ◌+◌, ◌<◌, ◌≤◌, Bool, true, false, List, [], ◌∷◌, ◌++◌, ◌⊎◌, inl, inr, length, take, drop, append_assoc, append-nil, arith}
use Rattle.std.specs.Prelude.{nat_le, if◌then◌else◌, Some}
use Rattle.std.proofs.lemmas.Bool.{leb-true, le-leb}
use Rattle.std.proofs.lemmas.List.{length-append, length-take-le, take-append-drop}
use Rattle.std.proofs.lemmas.Bool.Decides.{nat_tests}
use Rattle.base_frame.specs.declared.block.BadWhy.{BadWhy}
use Rattle.base_frame.specs.declared.block.BadWhy.TheVariants.{Byte, TwoLengths, NoLength, TooLong, LongHeader}
use Rattle.base_frame.specs.declared.block.Part.TheVariants.{BlockEnd}
use Rattle.base_frame.specs.declared.block.State.{State}
use Rattle.base_frame.specs.declared.block.Move.{Move}
use Rattle.base_frame.specs.declared.block.Move.TheVariants.{Goes, Ends, Bad}
use Rattle.base_frame.specs.Block.{part_step, step, start}
use Rattle.base_frame.specs.Machine.{Front, whole, fault, short, content, after, front_from, front_of}
use Rattle.base_frame.specs.Grammar.{IsOpenBlock, IsFrame, IsFault, BeginsBlock, IsUnended, IsCause, IsBadBehind}
use Rattle.base_frame.specs.Laws.{FramesAreGrammar, FaultsAreGrammar}
use Rattle.base_frame.proofs.Steps.{Says, step_says}
use Rattle.base_frame.proofs.Walks.{st, Walks, walk_same, walk_block, walk_then}
use Rattle.base_frame.proofs.Ends.{read_front, is_unended, begins_passes, unended_walks, StopsBy, second_stops, without_stops, beyond_stops}

not_below : (at : ℕ) → nat_le 4096 at ≡ true → at < 4096 → ⊥
not_below at e h = let k = leb-true 4096 at e in omega (arith, k, h)

below : (at : ℕ) → nat_le 4096 at ≡ false → at < 4096
below at e = grind (arith, nat_tests)

is_bound : (at : ℕ) → nat_le 4096 at ≡ true → at ≤ 4096 → at ≡ 4096
is_bound at e h = let k = leb-true 4096 at e in omega (arith, k, h)

plus_none : (at : ℕ) → at ≡ at + 0
plus_none at = omega arith

nothing_more : (at : ℕ) → at + 0 ≡ at
nothing_more at = omega arith

plus_one : (at n : ℕ) → (at + 1) + n ≡ at + suc n
plus_one at n = omega arith

length_of_take : (n : ℕ) (bs : List ℕ) → n ≤ length bs → length (take n bs) ≡ n
length_of_take n bs h = length-take-le n bs h

take_all : (c more : List ℕ) → take (length c) (c ++ more) ≡ c
take_all [] more = refl
take_all (x ∷ c) more = ap (λ y. x ∷ y) (take_all c more)

drop_all : (c more : List ℕ) → drop (length c) (c ++ more) ≡ more
drop_all [] more = refl
drop_all (x ∷ c) more = drop_all c more

begun : (limit : ℕ) (front : List ℕ) (b : ℕ) → IsUnended limit (front ++ b ∷ []) → BeginsBlock limit (front ++ b ∷ [])
begun limit front b h = (h.0 ∷ h.1.0, h.1.1, subst (IsOpenBlock limit h.1.1) (append_assoc (front ++ b ∷ []) (h.0 ∷ []) h.1.0) h.1.2)

-- the machine passes over what it walks

goes_on : (limit at : ℕ) (s u : State) (b : ℕ) (bs : List ℕ) (t : Bool) → nat_le 4096 at ≡ t → at < 4096 → part_step limit b s.length s.part ≡ Goes u
    → front_from limit at s (b ∷ bs) ≡ front_from limit (at + 1) u bs
unfolding front_from step
goes_on limit at s u b bs true e h p = absurd (not_below at e h)
goes_on limit at s u b bs false e h p = rw (e, p) refl

pub front_walk : (limit at : ℕ) (s t : State) (bs extra : List ℕ) → Walks limit s bs t → at + length bs ≤ 4096 → front_from limit at s (bs ++ extra) ≡ front_from limit (at + length bs) t extra
front_walk limit at s t [] extra h e = ap (λ (x : State). front_from limit at x extra) h ∙ ap (λ n. front_from limit n t extra) (plus_none at)
front_walk limit at s t (b ∷ bs) extra h e =
    goes_on limit at s h.0 b (bs ++ extra) (nat_le 4096 at) refl (omega (arith, e)) h.1
    ∙ (front_walk limit (at + 1) h.0 t bs extra h.2 (omega (arith, e)) ∙ ap (λ n. front_from limit n t extra) (plus_one at (length bs)))

none_plus : (n : ℕ) → 0 + n ≡ n
none_plus n = omega arith

from_start : (limit : ℕ) (t : State) (bs extra : List ℕ) → Walks limit start bs t → length bs ≤ 4096 → front_of limit (bs ++ extra) ≡ front_from limit (length bs) t extra
from_start limit t bs extra h e = front_walk limit 0 start t bs extra h (omega (arith, e)) ∙ ap (λ n. front_from limit n t extra) (none_plus (length bs))

-- what the machine answers, explained

pub record Ended (limit at : ℕ) (s : State) (bs c more : List ℕ) : Type 0 where
  pub front : List ℕ
  pub byte : ℕ
  pub last : State
  pub bytes : bs ≡ front ++ byte ∷ (c ++ more)
  pub walk : Walks limit s front last
  pub ends : part_step limit byte last.length last.part ≡ Ends (length c)
  pub bound : at + length front < 4096

pub record Stopped (limit at : ℕ) (s : State) (bs : List ℕ) (p : ℕ) (why : BadWhy) : Type 0 where
  pub front : List ℕ
  pub byte : ℕ
  pub rest : List ℕ
  pub last : State
  pub bytes : bs ≡ front ++ byte ∷ rest
  pub walk : Walks limit s front last
  pub place : at + length front ≡ p
  pub stops : ((p ≡ 4096) × (why ≡ LongHeader)) ⊎ ((p < 4096) × (part_step limit byte last.length last.part ≡ Bad why))

abbrev pub Explains : ℕ → ℕ → State → List ℕ → Front → Type 0
Explains limit at s bs (whole c more) = Ended limit at s bs c more
Explains limit at s bs (fault p why) = Stopped limit at s bs p why
Explains limit at s bs short = Unit {0}

longer : (limit at : ℕ) (s u : State) (b : ℕ) (bs : List ℕ) (f : Front) → part_step limit b s.length s.part ≡ Goes u → Explains limit (at + 1) u bs f → Explains limit at s (b ∷ bs) f
longer limit at s u b bs (whole c more) p h = record {
  front = b ∷ h.front;
  byte = h.byte;
  last = h.last;
  bytes = ap (λ x. b ∷ x) h.bytes;
  walk = (u, p, h.walk);
  ends = h.ends;
  bound = omega (arith, h.bound);
}
longer limit at s u b bs (fault q why) p h = record {
  front = b ∷ h.front;
  byte = h.byte;
  rest = h.rest;
  last = h.last;
  bytes = ap (λ x. b ∷ x) h.bytes;
  walk = (u, p, h.walk);
  place = omega (arith, h.place);
  stops = h.stops;
}
longer limit at s u b bs short p h = tt

explain_content : (limit at : ℕ) (s : State) (b n : ℕ) (bs : List ℕ) (t : Bool) → nat_le n (length bs) ≡ t → at < 4096 → part_step limit b s.length s.part ≡ Ends n
    → Explains limit at s (b ∷ bs) (if t then whole (take n bs) (drop n bs) else short)
explain_content limit at s b n bs false e h p = tt
explain_content limit at s b n bs true e h p = record {
  front = [];
  byte = b;
  last = s;
  bytes = ap (λ x. b ∷ x) (sym (take-append-drop n bs));
  walk = refl;
  ends = p ∙ ap Ends (sym (length_of_take n bs (leb-true n (length bs) e)));
  bound = omega (arith, h);
}

explain_move : (limit at : ℕ) (s : State) (b : ℕ) (bs : List ℕ) (m : Move) (k : State → Front) → at < 4096 → part_step limit b s.length s.part ≡ m
    → ((u : State) → Explains limit (at + 1) u bs (k u)) → Explains limit at s (b ∷ bs) (after at m bs k)
explain_move limit at s b bs (Goes u) k h p r = longer limit at s u b bs (k u) p (r u)
explain_move limit at s b bs (Ends n) k h p r = explain_content limit at s b n bs (nat_le n (length bs)) refl h p
explain_move limit at s b bs (Bad why) k h p r = record { front = []; byte = b; rest = bs; last = s; bytes = refl; walk = refl; place = nothing_more at; stops = inr (h, p) }

explain_byte : (limit at : ℕ) (s : State) (b : ℕ) (bs : List ℕ) (t : Bool) (k : State → Front) → nat_le 4096 at ≡ t → at ≤ 4096
    → (at < 4096 → (u : State) → Explains limit (at + 1) u bs (k u)) → Explains limit at s (b ∷ bs) (after at (if t then Bad LongHeader else part_step limit b s.length s.part) bs k)
explain_byte limit at s b bs true k e h r = record { front = []; byte = b; rest = bs; last = s; bytes = refl; walk = refl; place = nothing_more at; stops = inl (is_bound at e h, refl) }
explain_byte limit at s b bs false k e h r = explain_move limit at s b bs (part_step limit b s.length s.part) k (below at e) refl (r (below at e))

explain : (limit at : ℕ) (s : State) (bs : List ℕ) → at ≤ 4096 → Explains limit at s bs (front_from limit at s bs)
unfolding front_from step
explain limit at s [] h = tt
explain limit at s (b ∷ bs) h = explain_byte limit at s b bs (nat_le 4096 at) (λ u. front_from limit (at + 1) u bs) refl h (λ e u. explain limit (at + 1) u bs (omega (arith, e)))

explained : (limit : ℕ) (bs : List ℕ) (f : Front) → front_of limit bs ≡ f → Explains limit 0 start bs f
explained limit bs f h = subst (Explains limit 0 start bs) h (explain limit 0 start bs (omega arith))

says : (limit : ℕ) (front : List ℕ) (t : State) (b : ℕ) (m : Move) → Walks limit start front t → part_step limit b t.length t.part ≡ m → Says limit front b m
says limit front t b m w h = subst (Says limit front b) h (step_says limit front b t.length t.part (read_front limit front t w))

-- frames

pub taken : (limit : ℕ) (stream c more : List ℕ) → front_of limit stream ≡ whole c more → IsFrame limit stream c more
taken limit stream c more h =
    let e : Ended limit 0 start stream c more = explained limit stream (whole c more) h in
    record {
      block = e.front ++ e.byte ∷ [];
      bytes = e.bytes ∙ sym (append_assoc e.front (e.byte ∷ []) (c ++ more));
      header = (says limit e.front e.last e.byte (Ends (length c)) e.walk e.ends, subst (λ n. n ≤ 4096) (sym (length-append e.front (e.byte ∷ []))) (omega (arith, e.bound)));
    }

last_byte : (limit at n : ℕ) (bs : List ℕ) (t : Bool) → nat_le 4096 at ≡ t → at < 4096 → front_from limit at (st BlockEnd (Some n)) (10 ∷ bs) ≡ content n bs
unfolding front_from step
last_byte limit at n bs true e h = absurd (not_below at e h)
last_byte limit at n bs false e h = rw e refl

content_is : (c more : List ℕ) → content (length c) (c ++ more) ≡ whole c more
content_is c more =
    ap (λ t. if t then whole (take (length c) (c ++ more)) (drop (length c) (c ++ more)) else short) (le-leb (length c) (length (c ++ more)) (subst (λ n. length c ≤ n) (sym (length-append c more)) (omega arith)))
    ∙ (ap (λ x. whole x (drop (length c) (c ++ more))) (take_all c more) ∙ ap (whole c) (drop_all c more))

pub frame_taken : (limit : ℕ) (stream c more : List ℕ) → IsFrame limit stream c more → front_of limit stream ≡ whole c more
frame_taken limit stream c more h =
    let w = walk_block limit (length c) h.block h.header.0 in
    let split : stream ≡ w.0 ++ 10 ∷ (c ++ more) = h.bytes ∙ (ap (λ x. x ++ (c ++ more)) w.1 ∙ append_assoc w.0 (10 ∷ []) (c ++ more)) in
    let size : length w.0 + 1 ≤ 4096 = subst (λ n. n ≤ 4096) (ap length w.1 ∙ length-append w.0 (10 ∷ [])) h.header.1 in
    ap (front_of limit) split ∙ (from_start limit (st BlockEnd (Some (length c))) w.0 (10 ∷ (c ++ more)) w.2 (omega (arith, size))
    ∙ (last_byte limit (length w.0) (length c) (c ++ more) (nat_le 4096 (length w.0)) refl (omega (arith, size)) ∙ content_is c more))

pub frames_are : FramesAreGrammar
frames_are limit stream c more = (taken limit stream c more, frame_taken limit stream c more)

-- faults

goes_not_bad : (u : State) (why : BadWhy) (m : Move) → m ≡ Goes u → m ≡ Bad why → ⊥
goes_not_bad u why m h k = cc

ends_not_bad : (n : ℕ) (why : BadWhy) (m : Move) → m ≡ Ends n → m ≡ Bad why → ⊥
ends_not_bad n why m h k = cc

bad_same : (v w : BadWhy) (m : Move) → m ≡ Bad v → m ≡ Bad w → v ≡ w
bad_same v w m h k = cc

stops_same : (limit : ℕ) (front : List ℕ) (b : ℕ) (v w : BadWhy) → StopsBy limit front b v → StopsBy limit front b w → v ≡ w
stops_same limit front b v w h k =
    bad_same v w (part_step limit b k.0.length k.0.part) (subst (λ (t : State). part_step limit b t.length t.part ≡ Bad v) (walk_same limit start h.0 k.0 front h.1 k.1) h.2) k.2

not_begun_by : (limit : ℕ) (front : List ℕ) (b : ℕ) (why : BadWhy) (t v : State) → v ≡ t → part_step limit b t.length t.part ≡ Bad why
    → (((u : State) × (part_step limit b v.length v.part ≡ Goes u)) ⊎ ((n : ℕ) × (part_step limit b v.length v.part ≡ Ends n))) → ⊥
not_begun_by limit front b why t v e h (inl k) = goes_not_bad k.0 why (part_step limit b t.length t.part) (subst (λ (x : State). part_step limit b x.length x.part ≡ Goes k.0) e k.1) h
not_begun_by limit front b why t v e h (inr k) = ends_not_bad k.0 why (part_step limit b t.length t.part) (subst (λ (x : State). part_step limit b x.length x.part ≡ Ends k.0) e k.1) h

not_begun : (limit : ℕ) (front : List ℕ) (b : ℕ) (why : BadWhy) → StopsBy limit front b why → BeginsBlock limit (front ++ b ∷ []) → ⊥
not_begun limit front b why h k =
    let p = begins_passes limit front b k in
    not_begun_by limit front b why h.0 p.0 (walk_same limit start p.0 h.0 front p.1 h.1) h.2 p.2

two_is_byte : TwoLengths ≡ Byte → ⊥
two_is_byte h = cc

none_is_byte : NoLength ≡ Byte → ⊥
none_is_byte h = cc

long_is_byte : TooLong ≡ Byte → ⊥
long_is_byte h = cc

stopped_bad : (limit : ℕ) (front : List ℕ) (b : ℕ) (why : BadWhy) → length front < 4096 → StopsBy limit front b why → IsBadBehind limit front b why
stopped_bad limit front b TwoLengths e h = (e, is_unended limit front h.0 h.1, not_begun limit front b TwoLengths h, says limit front h.0 b (Bad TwoLengths) h.1 h.2)
stopped_bad limit front b NoLength e h = (e, is_unended limit front h.0 h.1, not_begun limit front b NoLength h, says limit front h.0 b (Bad NoLength) h.1 h.2)
stopped_bad limit front b TooLong e h = (e, is_unended limit front h.0 h.1, not_begun limit front b TooLong h, says limit front h.0 b (Bad TooLong) h.1 h.2)
stopped_bad limit front b Byte e h = (
  e,
  is_unended limit front h.0 h.1,
  not_begun limit front b Byte h,
  (
    (λ k. two_is_byte (stops_same limit front b TwoLengths Byte (second_stops limit front b k) h)),
    (λ k. none_is_byte (stops_same limit front b NoLength Byte (without_stops limit front b k) h)),
    (λ k. long_is_byte (stops_same limit front b TooLong Byte (beyond_stops limit front b k) h)),
  ),
)
stopped_bad limit front b LongHeader e h = absurd (says limit front h.0 b (Bad LongHeader) h.1 h.2)

bad_of : (limit : ℕ) (front : List ℕ) (b : ℕ) (t : State) (p : ℕ) (why : BadWhy) → length front ≡ p → Walks limit start front t
    → ((p ≡ 4096) × (why ≡ LongHeader)) ⊎ ((p < 4096) × (part_step limit b t.length t.part ≡ Bad why)) → IsBadBehind limit front b why
bad_of limit front b t p why e w (inl h) = subst (IsBadBehind limit front b) (sym h.1) (e ∙ h.0, is_unended limit front t w)
bad_of limit front b t p why e w (inr h) = stopped_bad limit front b why (subst (λ n. n < 4096) (sym e) h.0) (t, w, h.1)

pub found : (limit : ℕ) (bs : List ℕ) (at : ℕ) (why : BadWhy) → front_of limit bs ≡ fault at why → IsFault limit bs at why
found limit bs at why h =
    let e : Stopped limit 0 start bs at why = explained limit bs (fault at why) h in
    let place : length e.front ≡ at = sym (none_plus (length e.front)) ∙ e.place in
    record { front = e.front; byte = e.byte; rest = e.rest; bytes = e.bytes; place = place; bad = bad_of limit e.front e.byte e.last at why place e.walk e.stops }

bad_byte : (limit at : ℕ) (s : State) (b : ℕ) (rest : List ℕ) (why : BadWhy) (t : Bool) → nat_le 4096 at ≡ t → at < 4096 → part_step limit b s.length s.part ≡ Bad why → front_from limit at s (b ∷ rest) ≡ fault at why
unfolding front_from step
bad_byte limit at s b rest why true e h p = absurd (not_below at e h)
bad_byte limit at s b rest why false e h p = rw (e, p) refl

long_byte : (limit : ℕ) (s : State) (b : ℕ) (rest : List ℕ) → front_from limit 4096 s (b ∷ rest) ≡ fault 4096 LongHeader
unfolding front_from step
long_byte limit s b rest = refl

same_cause : (limit : ℕ) (front : List ℕ) (b : ℕ) (why w : BadWhy) → IsCause limit front b why → StopsBy limit front b w → w ≡ why
same_cause limit front b TwoLengths w c h = stops_same limit front b w TwoLengths h (second_stops limit front b c)
same_cause limit front b NoLength w c h = stops_same limit front b w NoLength h (without_stops limit front b c)
same_cause limit front b TooLong w c h = stops_same limit front b w TooLong h (beyond_stops limit front b c)
same_cause limit front b LongHeader w c h = absurd c
same_cause limit front b Byte Byte c h = refl
same_cause limit front b Byte TwoLengths c h = absurd (c.0 (says limit front h.0 b (Bad TwoLengths) h.1 h.2))
same_cause limit front b Byte NoLength c h = absurd (c.1 (says limit front h.0 b (Bad NoLength) h.1 h.2))
same_cause limit front b Byte TooLong c h = absurd (c.2 (says limit front h.0 b (Bad TooLong) h.1 h.2))
same_cause limit front b Byte LongHeader c h = absurd (says limit front h.0 b (Bad LongHeader) h.1 h.2)

must_stop : (limit : ℕ) (front : List ℕ) (b : ℕ) (why : BadWhy) (t : State) (m : Move) → Walks limit start front t → part_step limit b t.length t.part ≡ m
    → (BeginsBlock limit (front ++ b ∷ []) → ⊥) → IsCause limit front b why → part_step limit b t.length t.part ≡ Bad why
must_stop limit front b why t (Goes u) w p n c = absurd (n (begun limit front b (is_unended limit (front ++ b ∷ []) u (walk_then limit start t u front (b ∷ []) w (u, p, refl)))))
must_stop limit front b why t (Ends k) w p n c = absurd (n ([], k, subst (IsOpenBlock limit k) (sym (append-nil (front ++ b ∷ []))) (says limit front t b (Ends k) w p)))
must_stop limit front b why t (Bad v) w p n c = p ∙ ap Bad (same_cause limit front b why v c (t, w, p))

short_fault : (limit : ℕ) (front : List ℕ) (b : ℕ) (rest : List ℕ) (why : BadWhy) → length front < 4096 → IsUnended limit front → (BeginsBlock limit (front ++ b ∷ []) → ⊥) → IsCause limit front b why
    → front_of limit (front ++ b ∷ rest) ≡ fault (length front) why
short_fault limit front b rest why e u n c =
    let w = unended_walks limit front u in
    let bad = must_stop limit front b why w.0 (part_step limit b w.0.length w.0.part) w.1 refl n c in
    from_start limit w.0 front (b ∷ rest) w.1 (omega (arith, e)) ∙ bad_byte limit (length front) w.0 b rest why (nat_le 4096 (length front)) refl e bad

long_fault : (limit : ℕ) (front : List ℕ) (b : ℕ) (rest : List ℕ) → length front ≡ 4096 → IsUnended limit front → front_of limit (front ++ b ∷ rest) ≡ fault (length front) LongHeader
long_fault limit front b rest e u =
    let w = unended_walks limit front u in
    from_start limit w.0 front (b ∷ rest) w.1 (omega (arith, e)) ∙ subst (λ n. front_from limit n w.0 (b ∷ rest) ≡ fault n LongHeader) (sym e) (long_byte limit w.0 b rest)

bad_is : (limit : ℕ) (front : List ℕ) (b : ℕ) (rest : List ℕ) (why : BadWhy) → IsBadBehind limit front b why → front_of limit (front ++ b ∷ rest) ≡ fault (length front) why
bad_is limit front b rest LongHeader h = long_fault limit front b rest h.0 h.1
bad_is limit front b rest Byte h = short_fault limit front b rest Byte h.0 h.1 h.2 h.3
bad_is limit front b rest TwoLengths h = short_fault limit front b rest TwoLengths h.0 h.1 h.2 h.3
bad_is limit front b rest NoLength h = short_fault limit front b rest NoLength h.0 h.1 h.2 h.3
bad_is limit front b rest TooLong h = short_fault limit front b rest TooLong h.0 h.1 h.2 h.3

pub fault_found : (limit : ℕ) (bs : List ℕ) (at : ℕ) (why : BadWhy) → IsFault limit bs at why → front_of limit bs ≡ fault at why
fault_found limit bs at why h = ap (front_of limit) h.bytes ∙ (bad_is limit h.front h.byte h.rest why h.bad ∙ ap (λ p. fault p why) h.place)

pub faults_are : FaultsAreGrammar
faults_are limit bs at why = (found limit bs at why, fault_found limit bs at why)
