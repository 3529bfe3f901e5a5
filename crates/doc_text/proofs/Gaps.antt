-- A gap that moves in a text.
use Rattle.std.proofs.Common.{◌≡◌, ◌⊎◌, inl, inr, ⊎_elim, ℕ, suc, get_or, ◌+◌, ◌-◌, ◌<◌, ◌≤◌, true, false, List, [], ◌∷◌, ◌++◌, length, take, drop, refl, sym, ap, ◌∙◌, arith, subst, append_assoc, append-nil, length-append, max}
use Rattle.std.specs.Prelude.{Option, IsUtf8, Some, None}
use Rattle.std.specs.Str.{chars}
use Rattle.std.proofs.lemmas.List.{take-append-drop, take_at, drop_at, take_more}
use Rattle.std.proofs.lemmas.List.Sums.{fold-append}
use Rattle.std.proofs.lemmas.Str.{chars-append, chars-nil, IsUtf8-append, IsUtf8-nil, IsUtf8-take, IsUtf8-drop}
use Rattle.position_codec.specs.declared.Encoding.{Encoding}
use Rattle.position_codec.specs.declared.spot.Spot.{Spot}
use Rattle.position_codec.specs.declared.spot.Advance.{Advance}
use Rattle.position_codec.specs.Spots.{Advances, Stops, ahead, spot_behind, spot_first}
use Rattle.position_codec.proofs.After.{spot_more, stops_more}
use Rattle.position_codec.proofs.Spots.{Stopped, at_end, at_place, all_ahead, offset_here, offset_before}
use Rattle.doc_text.specs.declared.change.Position.{Position}
use Rattle.doc_text.specs.declared.gap.Passed.{Passed}
use Rattle.doc_text.specs.declared.gap.Piece.{Piece}
use Rattle.doc_text.specs.declared.gap.Taken.{Taken}
use Rattle.doc_text.specs.declared.gap.Gap.{Gap}
use Rattle.doc_text.specs.declared.change.Range.{Range}
use Rattle.doc_text.specs.declared.change.Extent.{Extent}
use Rattle.doc_text.specs.declared.change.Extent.TheVariants.{Part}
use Rattle.doc_text.specs.Changes.{offset_in, place_in}
use Rattle.doc_text.specs.Gaps.{Follows, Stands, Takes, TakesSome, behind_text, front_text, gap_text}

pub front_push : (ps : List Passed) (p : Passed) → front_text (ps ++ p ∷ []) ≡ front_text ps ++ p.text.now
front_push [] p = append-nil p.text.now
front_push (q ∷ ps) p = ap (λ l. q.text.now ++ l) (front_push ps p) ∙ sym (append_assoc q.text.now (front_text ps) p.text.now)

pub behind_push : (ps : List Piece) (p : Piece) → behind_text (ps ++ p ∷ []) ≡ p.text.now ++ behind_text ps
behind_push ps p = fold-append (λ after q. q.text.now ++ after) [] ps (p ∷ [])

pub follows_push : (e : Encoding) (from m next : Spot) (ps : List Passed) (p : Passed) → Follows e from ps m → p.spot ≡ m → IsUtf8 p.text.now → next ≡ spot_behind e m (chars p.text.now) → Follows e from (ps ++ p ∷ []) next
follows_push e from m next [] p f s u n = (s ∙ sym f, u, ap (λ x. spot_behind e x (chars p.text.now)) f ∙ sym n)
follows_push e from m next (q ∷ ps) p f s u n = (f.0, f.1, follows_push e (spot_behind e from (chars q.text.now)) m next ps p f.2 s u n)

pub follows_pop : (e : Encoding) (from m : Spot) (ps : List Passed) (p : Passed) → Follows e from (ps ++ p ∷ []) m → Follows e from ps p.spot
follows_pop e from m [] p f = sym f.0
follows_pop e from m (q ∷ ps) p f = (f.0, f.1, follows_pop e (spot_behind e from (chars q.text.now)) m ps p f.2)

follows_utf8 : (e : Encoding) (from m : Spot) (ps : List Passed) → Follows e from ps m → IsUtf8 (front_text ps)
follows_utf8 e from m [] f = IsUtf8-nil
follows_utf8 e from m (p ∷ ps) f = IsUtf8-append p.text.now (front_text ps) f.1 (follows_utf8 e (spot_behind e from (chars p.text.now)) m ps f.2)

follows_spot : (e : Encoding) (from m : Spot) (ps : List Passed) → Follows e from ps m → m ≡ spot_behind e from (chars (front_text ps))
follows_spot e from m [] f = sym f ∙ ap (λ l. spot_behind e from l) (sym chars-nil)
follows_spot e from m (p ∷ ps) f = follows_spot e (spot_behind e from (chars p.text.now)) m ps f.2 ∙ sym (spot_more e from p.text.now (front_text ps) f.1)

-- a gap with nothing before it stands in front of the text
pub follows_first : (e : Encoding) (m : Spot) (ps : List Passed) (k n : ℕ) → Follows e spot_first ps m → ps ≡ [] → ahead m k n ≡ true
follows_first e m ps k n f z = let s : spot_first ≡ m = subst (λ l. Follows e spot_first l m) z f in subst (λ x. ahead x k n ≡ true) s (all_ahead k n)

-- whether something of the first piece is left
abbrev pub Left : List ℕ → List Piece → List Piece → Type 0
Left left now after = ((left ≡ []) × (after ≡ now)) ⊎ ((0 < length left) × ((p : Piece) × (p.text.now ≡ left) × (after ≡ now ++ p ∷ [])))

left_text : (left : List ℕ) (now after : List Piece) → Left left now after → behind_text after ≡ left ++ behind_text now
left_text left now after (inl h) = ap behind_text h.1 ∙ ap (λ l. l ++ behind_text now) (sym h.0)
left_text left now after (inr h) = ap behind_text h.1.2 ∙ (behind_push now h.1.0 ∙ ap (λ l. l ++ behind_text now) h.1.1)

left_less : (left : List ℕ) (now after : List Piece) (offset size whole : ℕ) → Left left now after → offset + length left ≡ size → (offset ≡ size) ⊎ (0 < offset) → whole ≡ size + length (behind_text now) → length (behind_text after) + length after < whole + (length now + 1)
left_less left now after offset size whole (inl h) s g w = let a = ap length h.1 in let b = ap (λ l. length (behind_text l)) h.1 in omega (arith, a, b, w)
left_less left now after offset size whole (inr h) s g w =
    let a : length after ≡ length now + 1 = ap length h.1.2 ∙ length-append now (h.1.0 ∷ []) in
    let b : length (behind_text after) ≡ length left + length (behind_text now) = ap length (left_text left now after (inr h)) ∙ length-append left (behind_text now) in
    ⊎_elim (λ x. absurd (omega (arith, x, s, h.0))) (λ x. omega (arith, x, s, a, b, w)) g

pub takes_some : (e : Encoding) (from : Spot) (place : Position) (before now after : List Piece) (piece : Piece) (a : Advance) (t : Taken) (left : List ℕ) → before ≡ now ++ piece ∷ [] → Advances e from place.line place.character piece.text.now a
    → t.text.now ≡ take a.offset piece.text.now → t.spot ≡ a.spot → t.stopped ≡ a.stopped → left ≡ drop a.offset piece.text.now → length t.text.now ≡ a.offset → Left left now after → TakesSome e from place before after t
takes_some e from place before now after piece a t left old adv front spot stopped back size l =
    let after_is : behind_text after ≡ left ++ behind_text now = left_text left now after l in
    let before_is : behind_text before ≡ piece.text.now ++ behind_text now = ap behind_text old ∙ behind_push now piece in
    let parts : piece.text.now ≡ t.text.now ++ left = sym (take-append-drop a.offset piece.text.now) ∙ (λ i. sym front i ++ sym back i) in
    let sized : a.offset + length left ≡ length piece.text.now = sym (ap length parts ∙ (length-append t.text.now left ∙ ap (λ k. k + length left) size)) in
    let left_utf8 : IsUtf8 left = subst IsUtf8 (sym back) (IsUtf8-drop piece.text.now a.offset adv.utf8 adv.boundary) in
    record {
      text = before_is ∙ (ap (λ l. l ++ behind_text now) parts ∙ (append_assoc t.text.now left (behind_text now) ∙ ap (λ l. t.text.now ++ l) (sym after_is)));
      utf8 = subst IsUtf8 (sym front) (IsUtf8-take piece.text.now a.offset adv.utf8 adv.boundary);
      here = spot ∙ (adv.spot ∙ ap (λ l. spot_behind e from (chars l)) (sym front));
      ahead = ap (λ s. ahead s place.line place.character) spot ∙ adv.ahead;
      stops = λ h.
          let s : Stops e a.spot place.line place.character (chars (drop a.offset piece.text.now)) = adv.stops (sym stopped ∙ h) in
          let s2 : Stops e t.spot place.line place.character (chars left) = subst (λ x. Stops e x place.line place.character (chars left)) (sym spot) (subst (λ l. Stops e a.spot place.line place.character (chars l)) (sym back) s) in
          subst (λ l. Stops e t.spot place.line place.character l) (sym (ap chars after_is ∙ chars-append left (behind_text now) left_utf8)) (stops_more e t.spot place.line place.character (chars left) (chars (behind_text now)) s2);
      less = λ h.
          let g = adv.goes (sym stopped ∙ h) in
          let count : length before ≡ length now + 1 = ap length old ∙ length-append now (piece ∷ []) in
          let whole : length (behind_text before) ≡ length piece.text.now + length (behind_text now) = ap length before_is ∙ length-append piece.text.now (behind_text now) in
          let less = left_less left now after a.offset (length piece.text.now) (length (behind_text before)) l sized g whole in
          omega (arith, less, count);
    }

-- where a gap stops, the place is
pub gap_here : (g : Gap) (place : Position) → Stands g → ahead g.spot place.line place.character ≡ true → Stopped g.encoding g.spot place.line place.character (chars (behind_text g.behind.items)) → length (front_text g.front.items) ≡ offset_in g.encoding place (gap_text g)
gap_here g place f a st =
    let s : g.spot ≡ spot_behind g.encoding spot_first (chars (front_text g.front.items)) = follows_spot g.encoding spot_first g.spot g.front.items f in
    sym (offset_here g.encoding place.line place.character (front_text g.front.items) (behind_text g.behind.items) (follows_utf8 g.encoding spot_first g.spot g.front.items f) (subst (λ x. ahead x place.line place.character ≡ true) s a)
    (subst (λ x. Stopped g.encoding x place.line place.character (chars (behind_text g.behind.items))) s st))

-- a place that is before the gap
pub gap_past : (g : Gap) (place : Position) → Stands g → ahead g.spot place.line place.character ≡ false → offset_in g.encoding place (gap_text g) ≤ length (front_text g.front.items)
gap_past g place f a =
    let s : g.spot ≡ spot_behind g.encoding spot_first (chars (front_text g.front.items)) = follows_spot g.encoding spot_first g.spot g.front.items f in
    offset_before g.encoding place.line place.character (front_text g.front.items) (behind_text g.behind.items) (follows_utf8 g.encoding spot_first g.spot g.front.items f) (subst (λ x. ahead x place.line place.character ≡ false) s a)

-- a piece went from one side to the other
pub text_forward : (front : List Passed) (behind after : List Piece) (p : Passed) → behind_text behind ≡ p.text.now ++ behind_text after → front_text (front ++ p ∷ []) ++ behind_text after ≡ front_text front ++ behind_text behind
text_forward front behind after p h = ap (λ l. l ++ behind_text after) (front_push front p) ∙ (append_assoc (front_text front) p.text.now (behind_text after) ∙ ap (λ l. front_text front ++ l) (sym h))

pub text_back : (front : List Passed) (behind : List Piece) (p : Passed) (q : Piece) → q.text.now ≡ p.text.now → front_text front ++ behind_text (behind ++ q ∷ []) ≡ front_text (front ++ p ∷ []) ++ behind_text behind
text_back front behind p q h =
    ap (λ l. front_text front ++ l) (behind_push behind q ∙ ap (λ l. l ++ behind_text behind) h) ∙ (sym (append_assoc (front_text front) p.text.now (behind_text behind)) ∙ ap (λ l. l ++ behind_text behind) (sym (front_push front p)))

-- what was taken away so far
pub record Skipping (g : Gap) (place : Position) (left : List Piece) (spot : Spot) : Type 0 where
  pub gone : List ℕ
  pub text : behind_text g.behind.items ≡ gone ++ behind_text left
  pub utf8 : IsUtf8 gone
  pub here : spot ≡ spot_behind g.encoding g.spot (chars gone)
  pub ahead : ahead spot place.line place.character ≡ true

pub skipping_starts : (g : Gap) (place : Position) → ahead g.spot place.line place.character ≡ true → Skipping g place g.behind.items g.spot
skipping_starts g place a = record { gone = []; text = refl; utf8 = IsUtf8-nil; here = ap (λ l. spot_behind g.encoding g.spot l) (sym chars-nil); ahead = a }

pub skipping_on : (g : Gap) (place : Position) (left after : List Piece) (spot : Spot) (t : Taken) → Skipping g place left spot → TakesSome g.encoding spot place left after t → Skipping g place after t.spot
skipping_on g place left after spot t k h = record {
  gone = k.gone ++ t.text.now;
  text = k.text ∙ (ap (λ l. k.gone ++ l) h.text ∙ sym (append_assoc k.gone t.text.now (behind_text after)));
  utf8 = IsUtf8-append k.gone t.text.now k.utf8 h.utf8;
  here = h.here ∙ (ap (λ s. spot_behind g.encoding s (chars t.text.now)) k.here ∙ sym (spot_more g.encoding g.spot k.gone t.text.now k.utf8));
  ahead = h.ahead;
}

pub skipped : (g : Gap) (place : Position) (left : List Piece) (spot : Spot) → Stands g → Skipping g place left spot → Stopped g.encoding spot place.line place.character (chars (behind_text left))
    → behind_text left ≡ drop (offset_in g.encoding place (gap_text g) - length (front_text g.front.items)) (behind_text g.behind.items)
skipped g place left spot f k st =
    let front : List ℕ = front_text g.front.items in
    let u : IsUtf8 front = follows_utf8 g.encoding spot_first g.spot g.front.items f in
    let s : spot ≡ spot_behind g.encoding spot_first (chars (front ++ k.gone)) = k.here ∙ (ap (λ x. spot_behind g.encoding x (chars k.gone)) (follows_spot g.encoding spot_first g.spot g.front.items f) ∙ sym (spot_more g.encoding spot_first front k.gone u)) in
    let o = offset_here g.encoding place.line place.character (front ++ k.gone) (behind_text left) (IsUtf8-append front k.gone u k.utf8) (subst (λ x. ahead x place.line place.character ≡ true) s k.ahead)
    (subst (λ x. Stopped g.encoding x place.line place.character (chars (behind_text left))) s st) in
    let whole : gap_text g ≡ (front ++ k.gone) ++ behind_text left = ap (λ l. front ++ l) k.text ∙ sym (append_assoc front k.gone (behind_text left)) in
    let at : offset_in g.encoding place (gap_text g) ≡ length front + length k.gone = ap (λ l. offset_in g.encoding place l) whole ∙ (o ∙ length-append front k.gone) in
    let size : length k.gone ≡ offset_in g.encoding place (gap_text g) - length front = omega (arith, at) in
    sym (ap (λ l. drop (offset_in g.encoding place (gap_text g) - length front) l) k.text ∙ drop_at k.gone (behind_text left) (offset_in g.encoding place (gap_text g) - length front) size)

pub takes_is : (e : Encoding) (from : Spot) (place : Position) (before after : List Piece) (o : Option Taken) (t : Taken) → o ≡ Some t → Takes e from place before after o → TakesSome e from place before after t
takes_is e from place before after o t h k = subst (λ o. Takes e from place before after o) h k

pub takes_none : (e : Encoding) (from : Spot) (place : Position) (before after : List Piece) (o : Option Taken) → o ≡ None → Takes e from place before after o → behind_text before ≡ []
takes_none e from place before after o h k = let n : Takes e from place before after None = subst (λ o. Takes e from place before after o) h k in n.0

pub takes_none_after : (e : Encoding) (from : Spot) (place : Position) (before after : List Piece) (o : Option Taken) → o ≡ None → Takes e from place before after o → after ≡ []
takes_none_after e from place before after o h k = let n : Takes e from place before after None = subst (λ o. Takes e from place before after o) h k in n.1

pub stopped_at : (e : Encoding) (s : Spot) (k n : ℕ) (bs : List ℕ) → Stops e s k n (chars bs) → Stopped e s k n (chars bs)
stopped_at e s k n bs h = at_place (chars bs) h

pub stopped_end : (e : Encoding) (s : Spot) (k n : ℕ) (bs : List ℕ) → bs ≡ [] → Stopped e s k n (chars bs)
stopped_end e s k n bs h = subst (λ l. Stopped e s k n l) (sym (ap chars h ∙ chars-nil)) at_end

-- the gap moved on by one piece
pub record Moved (g h : Gap) (place : Position) : Type 0 where
  pub text : gap_text h ≡ gap_text g
  pub stands : Stands h
  pub ahead : ahead h.spot place.line place.character ≡ true

abbrev passed : Taken → Spot → Passed
passed t s = record { text = t.text; spot = s }

pub moved_on : (g h : Gap) (place : Position) (t : Taken) → Stands g → h.front.items ≡ g.front.items ++ passed t g.spot ∷ [] → h.encoding ≡ g.encoding → h.spot ≡ t.spot → TakesSome g.encoding g.spot place g.behind.items h.behind.items t → Moved g h place
moved_on g h place t f items e s k = record {
  text = ap (λ l. front_text l ++ behind_text h.behind.items) items ∙ text_forward g.front.items g.behind.items h.behind.items (passed t g.spot) k.text;
  stands = subst (λ l. Follows h.encoding spot_first l h.spot) (sym items) (subst (λ x. Follows x spot_first (g.front.items ++ passed t g.spot ∷ []) h.spot) (sym e) (subst (λ x. Follows g.encoding spot_first (g.front.items ++ passed t g.spot ∷ []) x) (sym s) (follows_push g.encoding spot_first g.spot t.spot g.front.items (passed t g.spot) f refl k.utf8 k.here)));
  ahead = ap (λ x. ahead x place.line place.character) s ∙ k.ahead;
}

-- and back
pub moved_back : (g h : Gap) (p : Passed) (q : Piece) → Stands g → g.front.items ≡ h.front.items ++ p ∷ [] → h.behind.items ≡ g.behind.items ++ q ∷ [] → q.text.now ≡ p.text.now → h.encoding ≡ g.encoding → h.spot ≡ p.spot → (gap_text h ≡ gap_text g) × Stands h
moved_back g h p q f front behind same e s = (
  ap (λ l. front_text h.front.items ++ behind_text l) behind ∙ (text_back h.front.items g.behind.items p q same ∙ ap (λ l. front_text l ++ behind_text g.behind.items) (sym front)),
  subst (λ x. Follows x spot_first h.front.items h.spot) (sym e) (subst (λ x. Follows g.encoding spot_first h.front.items x) (sym s) (follows_pop g.encoding spot_first g.spot h.front.items p (subst (λ l. Follows g.encoding spot_first l g.spot) front f))),
)

-- the texts of one piece more
pub front_more : (ps : List Passed) (i : ℕ) (d : Passed) → i < length ps → front_text (take (i + 1) ps) ≡ front_text (take i ps) ++ (get_or ps i d).text.now
front_more ps i d h = ap front_text (take_more ps i d h) ∙ front_push (take i ps) (get_or ps i d)

drop_over : (xs ys : List ℕ) (n d : ℕ) → n ≡ length xs + d → drop n (xs ++ ys) ≡ drop d ys
drop_over [] ys n d h = let e : n ≡ d = omega (arith, h) in ap (λ k. drop k ys) e
drop_over (x ∷ xs) ys n d h = let e : n ≡ suc (length xs + d) = omega (arith, h) in ap (λ k. drop k (x ∷ xs ++ ys)) e ∙ drop_over xs ys (length xs + d) d refl

-- what is left behind the gap, by the whole text
pub behind_is : (front behind : List ℕ) (from to : ℕ) → length front ≡ from → drop (to - length front) behind ≡ drop (max from to) (front ++ behind)
behind_is front behind from to h =
    let e : max from to ≡ length front + (to - length front) = omega (arith, h) in sym (drop_over front behind (max from to) (to - length front) e)

pub front_is : (front behind : List ℕ) (from : ℕ) → length front ≡ from → front ≡ take from (front ++ behind)
front_is front behind from h = sym (take_at front behind from h)

-- what is left behind the gap, where a part was opened
pub part_behind : (e f : Encoding) (x : Extent) (r : Range) (whole front behind left : List ℕ) → x ≡ Part r → f ≡ e → front ++ behind ≡ whole → length front ≡ offset_in e r.start whole → left ≡ drop (offset_in f r.end (front ++ behind) - length front) behind → left ≡ drop (place_in e x whole).1 whole
part_behind e f x r whole front behind left is same text here h =
    h ∙ ((λ i. drop (offset_in (same i) r.end (text i) - length front) behind) ∙ (behind_is front behind (offset_in e r.start whole) (offset_in e r.end whole) here ∙ (ap (λ l. drop (max (offset_in e r.start whole) (offset_in e r.end whole)) l) text ∙ ap (λ y. drop (place_in e y whole).1 whole) (sym is))))
