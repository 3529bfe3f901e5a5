-- An advance in a text, a character at a time.
use Rattle.std.proofs.Common.{◌≡◌, ◌⊎◌, inl, inr, ℕ, ◌+◌, ◌*◌, ◌<◌, ◌≤◌, Bool, true, false, List, [], ◌∷◌, ◌++◌, length, take, drop, refl, sym, ap, ◌∙◌, arith, subst, append-nil}
use Rattle.std.specs.Prelude.{IsUtf8}
use Rattle.std.specs.Char.{len_utf8}
use Rattle.std.specs.Str.{chars, IsCharBoundary}
use Rattle.std.proofs.Math.Utf8.{encodes, scalar, scalars}
use Rattle.std.proofs.lemmas.Bool.{and_parts}
use Rattle.std.proofs.lemmas.List.{at_drop_more, at_drop_all, take-append-drop, take_at, drop_at}
use Rattle.std.proofs.lemmas.List.Sums.{fold_more}
use Rattle.std.proofs.lemmas.Str.{chars-encodes, encodes-chars, encodes-append, scalars-chars, IsCharBoundary-at_seam}
use Rattle.position_codec.specs.declared.Encoding.{Encoding}
use Rattle.position_codec.specs.declared.spot.Spot.{Spot}
use Rattle.position_codec.specs.declared.spot.Advance.{Advance}
use Rattle.position_codec.specs.Position.{bytes}
use Rattle.position_codec.specs.Spots.{spot_past, spot_behind, ahead, Stops, Advances}
use Rattle.position_codec.proofs.Turns.{Next, bytes_encodes, bytes_chars, bytes_turn}

-- behind n characters
pub record Reading (e : Encoding) (from : Spot) (line character : ℕ) (cs : List ℕ) (n offset : ℕ) (spot : Spot) : Type 0 where
  pub whole : offset + bytes (drop n cs) ≡ bytes cs
  pub here : spot ≡ spot_behind e from (take n cs)
  pub ahead : ahead spot line character ≡ true
  pub few : spot.line + spot.column ≤ from.line + from.column + 4 * offset

pub reading_starts : (e : Encoding) (from : Spot) (line character : ℕ) (cs : List ℕ) → ahead from line character ≡ true → Reading e from line character cs 0 0 from
reading_starts e from line character cs h = record { whole = omega arith; here = refl; ahead = h; few = omega arith }

-- the spot behind one character more
pub behind_on : (e : Encoding) (from : Spot) (cs : List ℕ) (n m c : ℕ) (spot next : Spot) → spot ≡ spot_behind e from (take n cs) → Next cs n c → m ≡ n + 1 → next ≡ spot_past e spot c → next ≡ spot_behind e from (take m cs)
behind_on e from cs n m c spot next r h k p =
    let t : spot_behind e from (take m cs) ≡ spot_past e (spot_behind e from (take n cs)) c = ap (λ i. spot_behind e from (take i cs)) k ∙ (fold_more (spot_past e) from cs n c h.0 ∙ ap (λ d. spot_past e (spot_behind e from (take n cs)) d) (sym h.1)) in
    p ∙ (ap (λ s. spot_past e s c) r ∙ sym t)

-- the spot behind all of them
pub behind_all : (e : Encoding) (from : Spot) (cs : List ℕ) (n : ℕ) (spot : Spot) → spot ≡ spot_behind e from (take n cs) → length cs ≤ n → spot ≡ spot_behind e from cs
behind_all e from cs n spot r h =
    let d : drop n cs ≡ [] = at_drop_all (λ l. l) cs n h in
    let t : take n cs ≡ cs = sym (append-nil (take n cs)) ∙ (ap (λ l. take n cs ++ l) (sym d) ∙ take-append-drop n cs) in
    r ∙ ap (λ l. spot_behind e from l) t

pub reading_on : (e : Encoding) (from : Spot) (line character : ℕ) (cs : List ℕ) (n m offset more c : ℕ) (spot next : Spot) → Reading e from line character cs n offset spot → Next cs n c → m ≡ n + 1 → next ≡ spot_past e spot c → ahead next line character ≡ true
    → next.line + next.column ≤ spot.line + spot.column + 4 → more ≡ len_utf8 c → 1 ≤ more → Reading e from line character cs m (offset + more) next
reading_on e from line character cs n m offset more c spot next r h k p a f g one =
    let b = bytes_turn cs n m c h k in
    record {
      whole = omega (arith, b, r.whole, g);
      here = behind_on e from cs n m c spot next r.here h k p;
      ahead = a;
      few = omega (arith, f, r.few, one);
    }

-- a text, cut between two characters
record Cut (bs : List ℕ) (offset : ℕ) (xs ys : List ℕ) : Type 0 where
  utf8 : IsUtf8 bs
  split : chars bs ≡ xs ++ ys
  size : offset ≡ bytes xs

scalars_parts : (xs ys : List ℕ) → scalars (xs ++ ys) ≡ true → (scalars xs ≡ true) × (scalars ys ≡ true)
scalars_parts [] ys h = (refl, h)
scalars_parts (x ∷ xs) ys h =
    let p = and_parts (scalar x) (scalars (xs ++ ys)) h in
    let q = scalars_parts xs ys p.1 in
    (rw (p.0, q.0) refl, q.1)

module _ {bs : List ℕ} {offset : ℕ} {xs ys : List ℕ} (c : Cut bs offset xs ys) where
  good : (scalars xs ≡ true) × (scalars ys ≡ true)
  good = scalars_parts xs ys (sym (ap scalars c.split) ∙ scalars-chars bs c.utf8)

  seam : bs ≡ encodes xs ++ encodes ys
  seam = sym (encodes-chars bs c.utf8) ∙ (ap encodes c.split ∙ encodes-append xs ys)

  length_front : length (encodes xs) ≡ offset
  length_front = bytes_encodes xs ∙ sym c.size

  cut_boundary : IsCharBoundary bs offset
  cut_boundary = subst (λ (k : ℕ). IsCharBoundary bs k) length_front (IsCharBoundary-at_seam bs (encodes xs) (encodes ys) seam (ys, (good.1, refl)))

  cut_front : chars (take offset bs) ≡ xs
  cut_front = ap (λ l. chars (take offset l)) seam ∙ (ap chars (take_at (encodes xs) (encodes ys) offset length_front) ∙ chars-encodes xs good.0)

  cut_back : chars (drop offset bs) ≡ ys
  cut_back = ap (λ l. chars (drop offset l)) seam ∙ (ap chars (drop_at (encodes xs) (encodes ys) offset length_front) ∙ chars-encodes ys good.1)

bytes-append : (xs ys : List ℕ) → bytes (xs ++ ys) ≡ bytes xs + bytes ys
bytes-append [] ys = omega arith
bytes-append (x ∷ xs) ys = omega (arith, bytes-append xs ys)

reading_cut : (e : Encoding) (from : Spot) (line character : ℕ) (bs : List ℕ) (n offset : ℕ) (spot : Spot) → IsUtf8 bs → Reading e from line character (chars bs) n offset spot → Cut bs offset (take n (chars bs)) (drop n (chars bs))
reading_cut e from line character bs n offset spot u r =
    let s = take-append-drop n (chars bs) in
    let b = ap bytes s in
    let d = bytes-append (take n (chars bs)) (drop n (chars bs)) in
    record { utf8 = u; split = sym s; size = omega (arith, r.whole, b, d) }

abbrev made : ℕ → Spot → Bool → Advance
made o s b = record { offset = o; spot = s; stopped = b }

module _ {e : Encoding} {from : Spot} {line character : ℕ} {bs : List ℕ} {n offset : ℕ} {spot : Spot} (u : IsUtf8 bs) (r : Reading e from line character (chars bs) n offset spot) where
  cut : Cut bs offset (take n (chars bs)) (drop n (chars bs))
  cut = reading_cut e from line character bs n offset spot u r

  pub advances_by : (b : Bool) → (b ≡ true → Stops e spot line character (drop n (chars bs))) → (b ≡ false → (offset ≡ length bs) ⊎ (0 < offset)) → Advances e from line character bs (made offset spot b)
  advances_by b st go = record {
    utf8 = u;
    boundary = cut_boundary cut;
    spot = r.here ∙ sym (ap (λ l. spot_behind e from l) (cut_front cut));
    ahead = r.ahead;
    stops = λ h. subst (λ l. Stops e spot line character l) (sym (cut_back cut)) (st h);
    goes = go;
  }

  -- cut off, all passed, or at the place
  pub advances_some : 0 < offset → Advances e from line character bs (made offset spot false)
  advances_some h = advances_by false (λ x. absurd (cc)) (λ x. inr h)

  pub advances_all : length (chars bs) ≤ n → Advances e from line character bs (made offset spot false)
  advances_all h = advances_by false (λ x. absurd (cc)) (λ x. inl (let b : bytes (drop n (chars bs)) ≡ 0 = at_drop_all bytes (chars bs) n h in let w = bytes_chars bs u in omega (arith, w, b, r.whole)))

  pub advances_to : (c : ℕ) (next : Spot) → Next (chars bs) n c → next ≡ spot_past e spot c → ahead next line character ≡ false → Advances e from line character bs (made offset spot true)
  advances_to c next h p a = advances_by true (λ x. subst (λ l. Stops e spot line character l) (sym rest) (sym (ap (λ s. ahead s line character) p) ∙ a)) (λ x. absurd (cc))
    where
      rest : drop n (chars bs) ≡ c ∷ drop (n + 1) (chars bs)
      rest = at_drop_more (λ l. l) (chars bs) n c h.0 ∙ ap (λ d. d ∷ drop (n + 1) (chars bs)) (sym h.1)
