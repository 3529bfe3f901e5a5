-- Where a place is in a list of pieces.
use Rattle.std.proofs.Common.{◌≡◌, ℕ, ◌+◌, ◌<◌, ◌≤◌, get_or, Bool, true, false, List, [], ◌++◌, length, take, drop, refl, sym, ap, ◌∙◌, arith, subst, append-nil, length-append}
use Rattle.std.specs.Prelude.{IsUtf8}
use Rattle.std.specs.Str.{chars}
use Rattle.std.proofs.lemmas.List.{take_all, length-take-le}
use Rattle.std.proofs.lemmas.Str.{chars-append, chars-nil, IsUtf8-append, IsUtf8-nil, IsUtf8-take, IsUtf8-drop}
use Rattle.position_codec.specs.declared.Encoding.{Encoding}
use Rattle.position_codec.specs.declared.spot.Spot.{Spot}
use Rattle.position_codec.specs.declared.spot.Advance.{Advance}
use Rattle.position_codec.specs.Spots.{Advances, Stops, ahead, spot_behind, spot_first}
use Rattle.position_codec.proofs.After.{spot_more, stops_more}
use Rattle.position_codec.proofs.Spots.{Stopped, at_end, at_place, all_ahead, offset_here}
use Rattle.doc_text.specs.declared.change.Position.{Position}
use Rattle.doc_text.specs.Changes.{offset_in}
use Rattle.text_pieces.specs.Pieces.{text_of}
use Rattle.text_pieces.proofs.Joined.{text_more, text_parts}

-- the first pieces were passed, and the place is not before their end
pub record Passing (e : Encoding) (place : Position) (ps : List (List ℕ)) (i : ℕ) (spot : Spot) : Type 0 where
  pub here : spot ≡ spot_behind e spot_first (chars (text_of (take i ps)))
  pub utf8 : IsUtf8 (text_of (take i ps))
  pub ahead : ahead spot place.line place.character ≡ true

pub passing_starts : (e : Encoding) (place : Position) (ps : List (List ℕ)) → Passing e place ps 0 spot_first
passing_starts e place ps = record { here = ap (λ l. spot_behind e spot_first l) (sym chars-nil); utf8 = IsUtf8-nil; ahead = all_ahead place.line place.character }

pub passing_on : (e : Encoding) (place : Position) (ps : List (List ℕ)) (i : ℕ) (d : List ℕ) (spot next : Spot) → i < length ps → Passing e place ps i spot → IsUtf8 (get_or ps i d) → next ≡ spot_behind e spot (chars (get_or ps i d)) → ahead next place.line place.character ≡ true → Passing e place ps (i + 1) next
passing_on e place ps i d spot next h k u n a =
    let m : text_of (take (i + 1) ps) ≡ text_of (take i ps) ++ get_or ps i d = text_more ps i d h in
    record {
      here = n ∙ (ap (λ s. spot_behind e s (chars (get_or ps i d))) k.here ∙ (sym (spot_more e spot_first (text_of (take i ps)) (get_or ps i d) k.utf8) ∙ ap (λ l. spot_behind e spot_first (chars l)) (sym m)));
      utf8 = subst IsUtf8 (sym m) (IsUtf8-append (text_of (take i ps)) (get_or ps i d) k.utf8 u);
      ahead = a;
    }

-- all pieces were passed
pub found_end : (e : Encoding) (place : Position) (ps : List (List ℕ)) (i : ℕ) (spot : Spot) → length ps ≤ i → Passing e place ps i spot → length (text_of (take (length ps) ps)) + 0 ≡ offset_in e place (text_of ps)
found_end e place ps i spot h k =
    let t : text_of (take i ps) ≡ text_of ps = ap text_of (take_all i ps h) in
    let r : text_of (take (length ps) ps) ≡ text_of ps = ap text_of (take_all (length ps) ps (omega arith)) in
    let o = offset_here e place.line place.character (text_of (take i ps)) [] k.utf8 (subst (λ x. ahead x place.line place.character ≡ true) k.here k.ahead) (subst (λ l. Stopped e (spot_behind e spot_first (chars (text_of (take i ps)))) place.line place.character l) (sym chars-nil) at_end) in
    let w : text_of (take i ps) ++ [] ≡ text_of ps = append-nil (text_of (take i ps)) ∙ t in
    let z : offset_in e place (text_of ps) ≡ length (text_of (take i ps)) = ap (λ l. offset_in e place l) (sym w) ∙ o in
    let s = ap length (t ∙ sym r) in
    omega (arith, z, s)

-- an advance to a place before the end of the piece stops there
stops_inside : (e : Encoding) (place : Position) (spot next : Spot) (p : List ℕ) (a : Advance) → next ≡ spot_behind e spot (chars p) → ahead next place.line place.character ≡ false → Advances e spot place.line place.character p a → (a.stopped ≡ false → a.offset ≡ length p) → Stops e a.spot place.line place.character (chars (drop a.offset p))
stops_inside e place spot next p a n b adv all = go a.stopped refl
  where
    go : (x : Bool) → a.stopped ≡ x → Stops e a.spot place.line place.character (chars (drop a.offset p))
    go true h = adv.stops h
    go false h =
        let o = all h in
        let t : take a.offset p ≡ p = take_all a.offset p (omega (arith, o)) in
        let s : a.spot ≡ next = adv.spot ∙ (ap (λ l. spot_behind e spot (chars l)) t ∙ sym n) in
        let c : true ≡ false = sym adv.ahead ∙ (ap (λ x. ahead x place.line place.character) s ∙ b) in
        absurd (grind (arith, c))

-- the place is in this piece
pub found_inside : (e : Encoding) (place : Position) (ps : List (List ℕ)) (i : ℕ) (d : List ℕ) (spot next : Spot) (a : Advance) → i < length ps → Passing e place ps i spot → next ≡ spot_behind e spot (chars (get_or ps i d)) → ahead next place.line place.character ≡ false
    → Advances e spot place.line place.character (get_or ps i d) a → (a.stopped ≡ false → a.offset ≡ length (get_or ps i d)) → length (text_of (take i ps)) + a.offset ≡ offset_in e place (text_of ps)
found_inside e place ps i d spot next a h k n b adv all =
    let p : List ℕ = get_or ps i d in
    let t : List ℕ = text_of (take i ps) in
    let r : List ℕ = text_of (drop (i + 1) ps) in
    let front : List ℕ = t ++ take a.offset p in
    let back : List ℕ = drop a.offset p ++ r in
    let utf8 : IsUtf8 front = IsUtf8-append t (take a.offset p) k.utf8 (IsUtf8-take p a.offset adv.utf8 adv.boundary) in
    let s : a.spot ≡ spot_behind e spot_first (chars front) = adv.spot ∙ (ap (λ x. spot_behind e x (chars (take a.offset p))) k.here ∙ sym (spot_more e spot_first t (take a.offset p) k.utf8)) in
    let stops : Stops e a.spot place.line place.character (chars (drop a.offset p)) = stops_inside e place spot next p a n b adv all in
    let stops2 : Stops e a.spot place.line place.character (chars back) = subst (λ l. Stops e a.spot place.line place.character l) (sym (chars-append (drop a.offset p) r (IsUtf8-drop p a.offset adv.utf8 adv.boundary))) (stops_more e a.spot place.line place.character (chars (drop a.offset p)) (chars r) stops) in
    let o = offset_here e place.line place.character front back utf8 (subst (λ x. ahead x place.line place.character ≡ true) s adv.ahead) (subst (λ x. Stopped e x place.line place.character (chars back)) s (at_place (chars back) stops2)) in
    let size : length front ≡ length t + a.offset = length-append t (take a.offset p) ∙ ap (λ m. length t + m) (length-take-le a.offset p adv.boundary.0) in
    let whole : text_of ps ≡ front ++ back = text_parts ps (record { index = i; offset = a.offset }) d h in
    sym (ap (λ l. offset_in e place l) whole ∙ (o ∙ size))
