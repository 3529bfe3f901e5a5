-- The daemon's own tokens for those that starts create, as they are read and written.
use Rattle.std.proofs.Common.{◌≡◌, ℕ, ◌<◌, ◌^◌, Bool, true, false, List, [], ◌∷◌, ◌++◌, drop, length, take, take-append-drop, refl, ap, sym, ◌∙◌, arith, bytes_eq, codes, decimal}
use Rattle.std.specs.Prelude.{Option, Some, None, encode_utf8_all}
use Rattle.std.specs.Str.{IsAscii}
use Rattle.std.proofs.lemmas.Fmt.{IsAscii-decimal}
use Rattle.std.proofs.lemmas.List.{append_cancel_left, append_cancel_right}
use Rattle.std.proofs.lemmas.Slice.Eq.{bytes_eq-Decides}
use Rattle.std.proofs.lemmas.Str.{IsAscii-append, encodes-IsAscii, encodes_same}
use Rattle.std.proofs.lemmas.Str.Ascii.{IsAscii-from_all}
use Rattle.json_text.specs.Json.{Json, word, number, string, array, object}
use Rattle.event_model.proofs.Frames.{never}
use Rattle.group_facts.specs.group_rows.specs.Created.{created_mark}
use Rattle.group_facts.specs.mux_members.specs.Tokens.{text_of}
use Rattle.mux_turns.specs.Creates.{CreatedAt, WritesCreated, created_front}
use Rattle.mux_turns.proofs.Numbers.{decimals, tested, unread, unwritten}

mark_is : (s k : ℕ) → created_mark s k ≡ created_front s ++ decimal k
mark_is s k = refl

pub swapped : (xs ys : List ℕ) → bytes_eq xs ys ≡ bytes_eq ys xs
swapped xs ys = tested ys xs (bytes_eq xs ys) (λ e. sym ((bytes_eq-Decides xs ys).0 e), λ q. (bytes_eq-Decides xs ys).1 (sym q))

-- characters that don't begin as those of start s
pub no_created_front : (s : ℕ) (cs : List ℕ) → ((rest : List ℕ) → cs ≡ created_front s ++ rest → ⊥) → WritesCreated s cs None
no_created_front s cs other k h = go (bytes_eq (created_mark s k) cs) refl
  where
    go : (b : Bool) → bytes_eq (created_mark s k) cs ≡ b → b ≡ false
    go false e = refl
    go true e = absurd (other (decimal k) (sym ((bytes_eq-Decides (created_mark s k) cs).0 e) ∙ mark_is s k))

-- what begins with a list was seen to
take_own : (xs ys : List ℕ) → take (length xs) (xs ++ ys) ≡ xs
take_own xs ys = append_cancel_right (take (length xs) (xs ++ ys)) xs ys (ap (λ z. take (length xs) (xs ++ ys) ++ z) (sym (drop_own xs ys)) ∙ take-append-drop (length xs) (xs ++ ys))
  where
    drop_own : (xs ys : List ℕ) → drop (length xs) (xs ++ ys) ≡ ys
    drop_own [] ys = refl
    drop_own (x ∷ xs) ys = drop_own xs ys

pub front_there : (front cs rest : List ℕ) → cs ≡ front ++ rest → bytes_eq (take (length front) cs) front ≡ false → ⊥
front_there front cs rest is off = never (sym ((bytes_eq-Decides (take (length front) cs) front).1 (ap (take (length front)) is ∙ take_own front rest)) ∙ off)

module _ (s : ℕ) (cs digits : List ℕ) (is : cs ≡ created_front s ++ digits) where
  at : (k : ℕ) → bytes_eq (created_mark s k) cs ≡ bytes_eq digits (decimal k)
  at k = tested digits (decimal k) (bytes_eq (created_mark s k) cs) (there, back)
    where
      there : bytes_eq (created_mark s k) cs ≡ true → digits ≡ decimal k
      there e = append_cancel_left (created_front s) digits (decimal k) (sym is ∙ (sym ((bytes_eq-Decides (created_mark s k) cs).0 e) ∙ mark_is s k))

      back : digits ≡ decimal k → bytes_eq (created_mark s k) cs ≡ true
      back q = (bytes_eq-Decides (created_mark s k) cs).1 (mark_is s k ∙ (ap (λ z. created_front s ++ z) (sym q) ∙ sym is))

  no_number : ((n : ℕ) → n < 2 ^ 64 → bytes_eq digits (decimal n) ≡ false) → WritesCreated s cs None
  no_number f k h = at k ∙ f k h

  pub unread_created : ((n : ℕ) → n < 2 ^ 64 → digits ≡ decimal n → ◌≡◌ {A = Option ℕ} None (Some n)) → WritesCreated s cs None
  unread_created reads = no_number (unread digits reads)

  pub unwritten_created : (n : ℕ) (b : Bool) → ((m : ℕ) → m < 2 ^ 64 → digits ≡ decimal m → ◌≡◌ {A = Option ℕ} (Some n) (Some m)) → b ≡ bytes_eq digits (decimal n) → b ≡ false → WritesCreated s cs None
  unwritten_created n b reads e f = no_number (unwritten digits n b reads e f)

  pub written_created : (n : ℕ) (b : Bool) → n < 2 ^ 64 → b ≡ bytes_eq digits (decimal n) → b ≡ true → WritesCreated s cs (Some n)
  written_created n b low e t = λ k h.
      let same : digits ≡ decimal n = (bytes_eq-Decides digits (decimal n)).0 (sym e ∙ t) in
      at k ∙ (ap (λ bs. bytes_eq bs (decimal k)) same ∙ decimals n k low h)

-- Characters, by their UTF-8

-- a list without characters beyond ASCII is its own UTF-8
pub same_encoded : (cs own : List ℕ) → IsAscii own → bytes_eq own cs ≡ bytes_eq own (encode_utf8_all cs)
same_encoded cs own ascii = sym (tested own cs (bytes_eq own (encode_utf8_all cs)) (there, back))
  where
    itself : encode_utf8_all own ≡ own
    itself = encodes-IsAscii own ascii

    there : bytes_eq own (encode_utf8_all cs) ≡ true → own ≡ cs
    there e = sym (encodes_same cs own (sym ((bytes_eq-Decides own (encode_utf8_all cs)).0 e) ∙ sym itself))

    back : own ≡ cs → bytes_eq own (encode_utf8_all cs) ≡ true
    back e = (bytes_eq-Decides own (encode_utf8_all cs)).1 (sym itself ∙ ap encode_utf8_all e)

created_ascii : (s k : ℕ) → s < 2 ^ 64 → k < 2 ^ 64 → IsAscii (created_mark s k)
created_ascii s k l h = IsAscii-append (codes "lspmux:" ++ decimal s ++ codes ":") (decimal k)
    (IsAscii-append (codes "lspmux:" ++ decimal s) (codes ":") (IsAscii-append (codes "lspmux:") (decimal s) (IsAscii-from_all (codes "lspmux:") (λ i d l. grind arith)) (IsAscii-decimal s l)) (IsAscii-from_all (codes ":") (λ i d l. grind arith)))
    (IsAscii-decimal k h)

some_same : (x y : List ℕ) → ◌≡◌ {A = Option (List ℕ)} (Some x) (Some y) → x ≡ y
some_same x y e = cc

module _ (s : ℕ) (low : s < 2 ^ 64) where
  seen : (cs w : List ℕ) (k : ℕ) → k < 2 ^ 64 → ◌≡◌ {A = Option (List ℕ)} (Some w) (Some (encode_utf8_all cs)) → bytes_eq (created_mark s k) cs ≡ bytes_eq (created_mark s k) w
  seen cs w k l is = same_encoded cs (created_mark s k) (created_ascii s k low l) ∙ ap (bytes_eq (created_mark s k)) (sym (some_same w (encode_utf8_all cs) is))

  pub created_of_text : (o : Option Json) (w : List ℕ) (n : Option ℕ) → Some w ≡ text_of o → WritesCreated s w n → CreatedAt s o n
  created_of_text (Some (string t cs)) w None is h = λ k l. seen cs w k l is ∙ h k l
  created_of_text (Some (string t cs)) w (Some n) is h = λ k l. seen cs w k l is ∙ h k l
  created_of_text (Some (word t x)) w n is h = absurd (cc)
  created_of_text (Some (number t ds)) w n is h = absurd (cc)
  created_of_text (Some (array t js)) w n is h = absurd (cc)
  created_of_text (Some (object t ms)) w n is h = absurd (cc)
  created_of_text None w n is h = absurd (cc)

  pub no_created_text : (o : Option Json) → None ≡ text_of o → CreatedAt s o None
  no_created_text (Some (string t cs)) is = absurd (cc)
  no_created_text (Some (word t x)) is = λ k l. refl
  no_created_text (Some (number t ds)) is = λ k l. refl
  no_created_text (Some (array t js)) is = λ k l. refl
  no_created_text (Some (object t ms)) is = λ k l. refl
  no_created_text None is = λ k l. refl
