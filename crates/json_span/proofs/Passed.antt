-- Bytes that leave the machine as it is are passed over.
use Rattle.std.proofs.Common.{◌≡◌, refl, sym, ap, ◌∙◌, ℕ, suc, ◌+◌, ◌-◌, ◌≤◌, Bool, true, false, cond, List, [], ◌∷◌, ◌++◌, length, drop, subst, arith}
use Rattle.std.specs.Prelude.{Some, Ok, slice_range, IsUtf8}
use Rattle.std.specs.List.{prefix_len}
use Rattle.std.proofs.lemmas.List.{drop-drop, length-take-le}
use Rattle.std.proofs.lemmas.List.Folds.{drop_split}
use Rattle.std.proofs.lemmas.List.Sums.{prefix_len-le-length}
use Rattle.json_text.specs.String.{is_plain}
use Rattle.json_span.specs.Views.{Crosses}
use Rattle.std.specs.Char.{is_ascii_digit}
use Rattle.json_text.specs.Json.{is_space}
use Rattle.json_nodes.specs.declared.node.Node.{Node}
use Rattle.json_nodes.specs.declared.node.Place.{Place}
use Rattle.json_token.specs.Runs.{is_plain_ascii, takes_digits}
use Rattle.json_token.specs.declared.number.NumberPart.{NumberPart}
use Rattle.json_token.specs.declared.string.Part.TheVariants.{Plain}
use Rattle.json_token.specs.declared.string.Move.{Move}
use Rattle.json_token.specs.declared.string.Move.TheVariants as text
use Rattle.json_token.specs.StringMoves.{string_move}
use Rattle.json_token.proofs.NumberBytes.{digit_goes}
use Rattle.json_token.proofs.TextBytes.{passed_goes}
use Rattle.json_token.proofs.TextRuns.{plains_prefix, characters_pass}
use Rattle.json_token.proofs.Walks.{walk_move, walk}
use Rattle.json_token.specs.declared.string.Part.{Part}
use Rattle.json_span.specs.declared.word.Begun.{Begun}
use Rattle.json_span.specs.declared.state.Mode.{Mode}
use Rattle.json_span.specs.declared.state.Mode.TheVariants as mode
use Rattle.json_span.specs.declared.state.Open.{Open}
use Rattle.json_span.specs.Machine.{State, state, step, read, in_text, in_key, in_number}
use Rattle.json_span.proofs.Runs.{one, rests, space_class, space_step}

-- each byte that passes the test leaves the machine as it is
abbrev pub Keeps : ℕ → (ℕ → Bool) → State → Type 0
Keeps d q s = (p b : ℕ) → q b ≡ true → step d p b s ≡ Ok s

pub run_passes : (d at : ℕ) (q : ℕ → Bool) (s : State) → Keeps d q s → (bs : List ℕ) → read d (at + prefix_len q bs) (drop (prefix_len q bs) bs) s ≡ read d at bs s
run_passes d at q s keeps [] = ap (λ p. read d p [] s) (omega arith)
run_passes d at q s keeps (b ∷ bs) = go (q b) refl (run_passes d (at + 1) q s keeps bs)
  where
    go : (t : Bool) → q b ≡ t → read d (at + 1 + prefix_len q bs) (drop (prefix_len q bs) bs) s ≡ read d (at + 1) bs s → read d (at + prefix_len q (b ∷ bs)) (drop (prefix_len q (b ∷ bs)) (b ∷ bs)) s ≡ read d at (b ∷ bs) s
    go true e more =
        let one_more : 1 + prefix_len q bs ≡ suc (prefix_len q bs) = omega arith in
        let place : at + suc (prefix_len q bs) ≡ at + 1 + prefix_len q bs = omega arith in
        ap (λ t. read d (at + cond t (1 + prefix_len q bs) 0) (drop (cond t (1 + prefix_len q bs) 0) (b ∷ bs)) s) e
        ∙ (ap (λ k. read d (at + k) (drop k (b ∷ bs)) s) one_more
        ∙ (ap (λ p. read d p (drop (prefix_len q bs) bs) s) place ∙ (more ∙ sym (one d at b bs s s (keeps at b e)))))
    go false e more = ap (λ t. read d (at + cond t (1 + prefix_len q bs) 0) (drop (cond t (1 + prefix_len q bs) 0) (b ∷ bs)) s) e ∙ ap (λ p. read d p (b ∷ bs) s) (omega arith)

pub text_keeps : (d from : ℕ) (name : Place) (os : List Open) (ns : List Node) → Keeps d is_plain_ascii (state (mode.InText from Plain) name os ns)
unfolding step
text_keeps d from name os ns p b h = ap (λ m. in_text p from m (state (mode.InText from Plain) name os ns)) (passed_goes b h)

pub key_keeps : (d from : ℕ) (name : Place) (os : List Open) (ns : List Node) → Keeps d is_plain_ascii (state (mode.InKey from Plain) name os ns)
unfolding step
key_keeps d from name os ns p b h = ap (λ m. in_key p from m (state (mode.InKey from Plain) name os ns)) (passed_goes b h)

pub digits_keep : (d from : ℕ) (p : NumberPart) (name : Place) (os : List Open) (ns : List Node) → takes_digits p ≡ true → Keeps d is_ascii_digit (state (mode.InNumber from p) name os ns)
unfolding step
digits_keep d from part name os ns t p b h = ap (λ m. in_number p from b m (state (mode.InNumber from part) name os ns)) (digit_goes part b t h)

pub space_keeps : (d : ℕ) (m : Mode) (name : Place) (os : List Open) (ns : List Node) → rests m ≡ true → Keeps d is_space (state m name os ns)
space_keeps d m name os ns r p b h = space_step d p b m name os ns r (space_class b h)

-- where a run ends that leaves the machine as it is
pub passed_from : (d at to : ℕ) (q : ℕ → Bool) (s : State) → Keeps d q s → (bs : List ℕ) → to ≡ at + prefix_len q (drop at bs) → read d to (drop to bs) s ≡ read d at (drop at bs) s
passed_from d at to q s keeps bs e =
    ap (λ k. read d k (drop k bs) s) e ∙ (ap (λ l. read d (at + prefix_len q (drop at bs)) l s) (sym (drop-drop (prefix_len q (drop at bs)) at bs)) ∙ run_passes d at q s keeps (drop at bs))

pub keeps_in : (d : ℕ) (q : ℕ → Bool) (m k : Mode) (name : Place) (os : List Open) (ns : List Node) → m ≡ k → Keeps d q (state k name os ns) → Keeps d q (state m name os ns)
keeps_in d q m k name os ns e h = subst (λ m. Keeps d q (state m name os ns)) (sym e) h

-- where no token has begun
pub rests_else : (m : Mode) → ((x : ℕ) (w : Begun) → m ≡ mode.InWord x w → ⊥) → ((x : ℕ) (p : NumberPart) → m ≡ mode.InNumber x p → ⊥) → ((x : ℕ) (p : Part) → m ≡ mode.InText x p → ⊥) → ((x : ℕ) (p : Part) → m ≡ mode.InKey x p → ⊥) → rests m ≡ true
rests_else mode.Value w n t k = refl
rests_else mode.FirstItem w n t k = refl
rests_else mode.FirstKey w n t k = refl
rests_else mode.NextKey w n t k = refl
rests_else mode.Colon w n t k = refl
rests_else mode.After w n t k = refl
rests_else (mode.InWord x p) w n t k = absurd (w x p refl)
rests_else (mode.InNumber x p) w n t k = absurd (n x p refl)
rests_else (mode.InText x p) w n t k = absurd (t x p refl)
rests_else (mode.InKey x p) w n t k = absurd (k x p refl)

-- the part in which a quotation mark ends a string
ended : (p : Part) → walk p (34 ∷ []) ≡ Some [] → p ≡ Plain
ended Plain h = refl
ended _ h = absurd cc

no_more : (xs : List ℕ) → Some (xs ++ 34 ∷ []) ≡ Some [] → ⊥
no_more [] h = cc
no_more (x ∷ xs) h = cc

-- what passes before a quotation mark that ends the string leaves the machine between characters; `inside` is the mode of a text or of a name
module _ (d : ℕ) (inside : Part → Mode) (goes : (at b : ℕ) (p q : Part) (name : Place) (os : List Open) (ns : List Node) → string_move p b ≡ text.Goes q → step d at b (state (inside p) name os ns) ≡ Ok (state (inside q) name os ns)) where
  pub walked : (at : ℕ) (p : Part) (xs rest : List ℕ) (name : Place) (os : List Open) (ns : List Node) → walk p (xs ++ 34 ∷ []) ≡ Some []
      → read d at (xs ++ rest) (state (inside p) name os ns) ≡ read d (at + length xs) rest (state (inside Plain) name os ns)
  walked at p [] rest name os ns h = ap (λ q. read d at rest (state (inside q) name os ns)) (ended p h) ∙ ap (λ n. read d n rest (state (inside Plain) name os ns)) (omega arith)
  walked at p (b ∷ xs) rest name os ns h = go (string_move p b) refl h (λ q. walked (at + 1) q xs rest name os ns)
    where
      place : at + 1 + length xs ≡ at + length (b ∷ xs)
      place = omega arith

      go : (m : Move) → string_move p b ≡ m → walk_move m (xs ++ 34 ∷ []) (λ q. walk q (xs ++ 34 ∷ [])) ≡ Some []
          → ((q : Part) → walk q (xs ++ 34 ∷ []) ≡ Some [] → read d (at + 1) (xs ++ rest) (state (inside q) name os ns) ≡ read d (at + 1 + length xs) rest (state (inside Plain) name os ns))
          → read d at (b ∷ (xs ++ rest)) (state (inside p) name os ns) ≡ read d (at + length (b ∷ xs)) rest (state (inside Plain) name os ns)
      go (text.Goes q) e h more =
          one d at b (xs ++ rest) (state (inside p) name os ns) (state (inside q) name os ns) (goes at b p q name os ns e)
          ∙ (more q h ∙ ap (λ n. read d n rest (state (inside Plain) name os ns)) place)
      go text.Ends e h more = absurd (no_more xs h)
      go text.Stops e h more = absurd cc

crossed : (bytes : List ℕ) (at to : ℕ) → at ≤ to → to ≤ at + prefix_len is_plain (drop at bytes) → IsUtf8 (slice_range bytes at to) → (inside : Part → Mode)
    → ((at b : ℕ) (p q : Part) (name : Place) (os : List Open) (ns : List Node) → string_move p b ≡ text.Goes q → step 1024 at b (state (inside p) name os ns) ≡ Ok (state (inside q) name os ns))
    → Crosses bytes at to (inside Plain)
crossed bytes at to rises plain u inside goes name os ns =
    let run = slice_range bytes at to in
    let within : to - at ≤ prefix_len is_plain (drop at bytes) = omega arith in
    let room : to - at ≤ length (drop at bytes) = omega (arith, prefix_len-le-length is_plain (drop at bytes)) in
    let long : length run ≡ to - at = length-take-le (to - at) (drop at bytes) room in
    let there : at + length run ≡ to = omega (arith, long) in
    let passed = walked 1024 inside goes at Plain run (drop to bytes) name os ns (characters_pass run u (plains_prefix (to - at) (drop at bytes) within)) in
    sym (ap (λ l. read 1024 at l (state (inside Plain) name os ns)) (drop_split bytes at to rises) ∙ (passed ∙ ap (λ n. read 1024 n (drop to bytes) (state (inside Plain) name os ns)) there))

pub text_goes : (d from at b : ℕ) (p q : Part) (name : Place) (os : List Open) (ns : List Node) → string_move p b ≡ text.Goes q → step d at b (state (mode.InText from p) name os ns) ≡ Ok (state (mode.InText from q) name os ns)
unfolding step
text_goes d from at b p q name os ns e = ap (λ k. in_text at from k (state (mode.InText from p) name os ns)) e

pub key_goes : (d from at b : ℕ) (p q : Part) (name : Place) (os : List Open) (ns : List Node) → string_move p b ≡ text.Goes q → step d at b (state (mode.InKey from p) name os ns) ≡ Ok (state (mode.InKey from q) name os ns)
unfolding step
key_goes d from at b p q name os ns e = ap (λ k. in_key at from k (state (mode.InKey from p) name os ns)) e

-- characters that stand for themselves, from `at` to `to`
pub text_crossed : (bytes : List ℕ) (at to : ℕ) → at ≤ to → to ≤ at + prefix_len is_plain (drop at bytes) → IsUtf8 (slice_range bytes at to) → (from : ℕ) → Crosses bytes at to (mode.InText from Plain)
text_crossed bytes at to rises plain u from name os ns =
    crossed bytes at to rises plain u (mode.InText from) (text_goes 1024 from) name os ns

pub key_crossed : (bytes : List ℕ) (at to : ℕ) → at ≤ to → to ≤ at + prefix_len is_plain (drop at bytes) → IsUtf8 (slice_range bytes at to) → (from : ℕ) → Crosses bytes at to (mode.InKey from Plain)
key_crossed bytes at to rises plain u from name os ns =
    crossed bytes at to rises plain u (mode.InKey from) (key_goes 1024 from) name os ns

-- bytes of ASCII that stand for themselves
pub text_passed : (bytes : List ℕ) (at to : ℕ) → to ≡ at + prefix_len is_plain_ascii (drop at bytes) → (from : ℕ) → Crosses bytes at to (mode.InText from Plain)
text_passed bytes at to e from name os ns = passed_from 1024 at to is_plain_ascii (state (mode.InText from Plain) name os ns) (text_keeps 1024 from name os ns) bytes e

pub key_passed : (bytes : List ℕ) (at to : ℕ) → to ≡ at + prefix_len is_plain_ascii (drop at bytes) → (from : ℕ) → Crosses bytes at to (mode.InKey from Plain)
key_passed bytes at to e from name os ns = passed_from 1024 at to is_plain_ascii (state (mode.InKey from Plain) name os ns) (key_keeps 1024 from name os ns) bytes e

pub crosses_in : (bytes : List ℕ) (at to : ℕ) (m k : Mode) → m ≡ k → Crosses bytes at to k → Crosses bytes at to m
crosses_in bytes at to m k e h = subst (Crosses bytes at to) (sym e) h
