-- What a hasher has of an identifier, as its characters come one after the other.
use Rattle.std.proofs.Common.{◌≡◌, ℕ, suc, ◌+◌, ◌<◌, Bool, true, false, cond, List, [], ◌∷◌, ◌++◌, take, drop, append-nil, append_assoc, refl, sym, ◌∙◌, ap, subst, arith}
use Rattle.std.specs.Prelude.{Some, None, encode_utf8, encode_utf8_all, nat_eq, nat_lt, if◌then◌else◌}
use Rattle.std.specs.List.{prefix_len}
use Rattle.std.proofs.lemmas.Bool.Decides.{nat_tests}
use Rattle.std.proofs.lemmas.List.{take-append-drop}
use Rattle.std.proofs.lemmas.Str.{encode_ascii, encodes-append}
use Rattle.std.specs.Int.{w64, to_be_bytes}
use Rattle.sha2.specs.declared.Sha512.{Sha512}
use Rattle.sha2.specs.Hashers.{Holds512}
use Rattle.sha2.specs.Sha512.{sha512}
use Rattle.json_token.specs.Characters.{next_character, escape_front, plain_front, two_front, three_front, four_front}
use Rattle.json_token.specs.Runs.{is_plain_ascii}
use Rattle.response_route.specs.rpc_message.specs.Ids.{is_quoted}
use Rattle.id_rewrite.specs.Fingerprints.{Adds, fingerprint, front}
use Rattle.id_rewrite.specs.Forms.{characters_of, form, inner}
use Rattle.id_rewrite.proofs.Forming.{first_is, none_is}

pub adds_nothing : (h : Sha512) → Adds h h []
adds_nothing h = λ m held. subst (Holds512 h) (sym (append-nil m)) held

pub adds_both : (a b c : Sha512) (xs ys : List ℕ) → Adds a b xs → Adds b c ys → Adds a c (xs ++ ys)
adds_both a b c xs ys f g = λ m held. subst (Holds512 c) (append_assoc m xs ys) (g (m ++ xs) (f m held))

-- a run of ASCII stands for itself

plain_byte : (b : ℕ) → is_plain_ascii b ≡ true → (b ≡ 92 → ⊥) × (b < 128)
plain_byte b h = (grind (arith, nat_tests, h), grind (arith, nat_tests, h))

next_plain : (b : ℕ) (rest : List ℕ) → is_plain_ascii b ≡ true → next_character (b ∷ rest) ≡ Some (b, rest)
next_plain b rest h =
    let p : (b ≡ 92 → ⊥) × (b < 128) = plain_byte b h in
    let other : nat_eq b 92 ≡ false = grind (arith, nat_tests, p.0) in
    let low : nat_lt b 128 ≡ true = grind (arith, nat_tests, p.1) in
    ap (λ t. cond t (escape_front rest) (plain_front (b ∷ rest))) other
    ∙ ap (λ t. cond t (Some (b, rest)) (if nat_lt b 224 then two_front b rest else if nat_lt b 240 then three_front b rest else four_front b rest)) low

abbrev run : List ℕ → ℕ
run bytes = prefix_len is_plain_ascii bytes

run_more : (b : ℕ) (rest : List ℕ) (t : Bool) → is_plain_ascii b ≡ t → run (b ∷ rest) ≡ cond t (suc (run rest)) 0
run_more b rest t h = ap (λ u. cond u (1 + run rest) 0) h ∙ go t
  where
    go : (u : Bool) → cond u (1 + run rest) 0 ≡ cond u (suc (run rest)) 0
    go true = omega arith
    go false = refl

run_characters : (bytes : List ℕ) → take (run bytes) bytes ++ characters_of (drop (run bytes) bytes) ≡ characters_of bytes
run_characters [] = refl
run_characters (b ∷ rest) = go (is_plain_ascii b) refl (run_characters rest)
  where
    at : ℕ → List ℕ
    at n = take n (b ∷ rest) ++ characters_of (drop n (b ∷ rest))

    go : (t : Bool) → is_plain_ascii b ≡ t → take (run rest) rest ++ characters_of (drop (run rest) rest) ≡ characters_of rest → at (run (b ∷ rest)) ≡ characters_of (b ∷ rest)
    go true h more = ap at (run_more b rest true h) ∙ (ap (λ cs. b ∷ cs) more ∙ sym (first_is (b ∷ rest) rest b (next_plain b rest h)))
    go false h more = ap at (run_more b rest false h)

run_encoded : (bytes : List ℕ) → encode_utf8_all (take (run bytes) bytes) ≡ take (run bytes) bytes
run_encoded [] = refl
run_encoded (b ∷ rest) = go (is_plain_ascii b) refl (run_encoded rest)
  where
    Same : ℕ → Type 0
    Same n = encode_utf8_all (take n (b ∷ rest)) ≡ take n (b ∷ rest)

    go : (t : Bool) → is_plain_ascii b ≡ t → encode_utf8_all (take (run rest) rest) ≡ take (run rest) rest → Same (run (b ∷ rest))
    go true h more = subst Same (sym (run_more b rest true h)) (ap (λ front. front ++ encode_utf8_all (take (run rest) rest)) (encode_ascii b (plain_byte b h).1) ∙ ap (λ bs. b ∷ bs) more)
    go false h more = subst Same (sym (run_more b rest false h)) refl

-- what `raw` is read as was added up to `rest`
pub record Fed (read : List ℕ → List ℕ) (raw rest : List ℕ) (old now : Sha512) : Type 0 where
  pub fed : List ℕ
  pub adds : Adds old now (encode_utf8_all fed)
  pub left : fed ++ read rest ≡ read raw

pub fed_first : (read : List ℕ → List ℕ) (raw : List ℕ) (h : Sha512) → Fed read raw raw h h
fed_first read raw h = record { fed = []; adds = adds_nothing h; left = refl }

module _ (read : List ℕ → List ℕ) (raw rest : List ℕ) (a b c : Sha512) (f : Fed read raw rest a b) where
  fed_part : (part more : List ℕ) → part ++ read more ≡ read rest → Adds b c (encode_utf8_all part) → Fed read raw more a c
  fed_part part more is g = record {
    fed = f.fed ++ part;
    adds = subst (Adds a c) (sym (encodes-append f.fed part)) (adds_both a b c (encode_utf8_all f.fed) (encode_utf8_all part) f.adds g);
    left = append_assoc f.fed part (read more) ∙ (ap (λ cs. f.fed ++ cs) is ∙ f.left);
  }

  pub fed_run : (n : ℕ) → n ≡ run rest → take (run rest) rest ++ read (drop (run rest) rest) ≡ read rest → Adds b c (take n rest) → Fed read raw (drop n rest) a c
  fed_run n is stands g =
      let g' : Adds b c (take (run rest) rest) = subst (λ k. Adds b c (take k rest)) is g in
      subst (λ k. Fed read raw (drop k rest) a c) (sym is) (fed_part (take (run rest) rest) (drop (run rest) rest) stands (subst (Adds b c) (sym (run_encoded rest)) g'))

  pub fed_one : (code : ℕ) (more : List ℕ) → code ∷ read more ≡ read rest → Adds b c (encode_utf8 code) → Fed read raw more a c
  fed_one code more is g = fed_part (code ∷ []) more is (subst (Adds b c) (sym (append-nil (encode_utf8 code))) g)

-- the characters of a string's bytes

pub characters_run : (raw rest : List ℕ) (a b c : Sha512) (n : ℕ) → Fed characters_of raw rest a b → n ≡ 0 + run rest → Adds b c (take n rest) → Fed characters_of raw (drop n rest) a c
characters_run raw rest a b c n f is g = fed_run characters_of raw rest a b c f n (omega (arith, is)) (run_characters rest) g

pub characters_more : (raw rest more : List ℕ) (a b c : Sha512) (code : ℕ) → Fed characters_of raw rest a b → next_character rest ≡ Some (code, more) → Adds b c (encode_utf8 code) → Fed characters_of raw more a c
characters_more raw rest more a b c code f e g = fed_one characters_of raw rest a b c f code more (sym (first_is rest more code e)) g

pub characters_all : (raw rest : List ℕ) (a b : Sha512) → Fed characters_of raw rest a b → next_character rest ≡ None → Adds a b (encode_utf8_all (characters_of raw))
characters_all raw rest a b f e = subst (λ cs. Adds a b (encode_utf8_all cs)) (sym (append-nil f.fed) ∙ (ap (λ cs. f.fed ++ cs) (sym (none_is rest e)) ∙ f.left)) f.adds

-- other bytes

abbrev pub itself : List ℕ → List ℕ
itself bytes = bytes

pub bytes_run : (raw rest : List ℕ) (a b c : Sha512) (n : ℕ) → Fed itself raw rest a b → n ≡ 0 + run rest → Adds b c (take n rest) → Fed itself raw (drop n rest) a c
bytes_run raw rest a b c n f is g = fed_run itself raw rest a b c f n (omega (arith, is)) (take-append-drop (run rest) rest) g

pub bytes_more : (raw rest more : List ℕ) (a b c : Sha512) (code : ℕ) → Fed itself raw rest a b → rest ≡ code ∷ more → Adds b c (encode_utf8 code) → Fed itself raw more a c
bytes_more raw rest more a b c code f e g = fed_one itself raw rest a b c f code more (sym e) g

pub bytes_all : (raw rest : List ℕ) (a b : Sha512) → Fed itself raw rest a b → rest ≡ [] → Adds a b (encode_utf8_all raw)
bytes_all raw rest a b f e = subst (λ cs. Adds a b (encode_utf8_all cs)) (sym (append-nil f.fed) ∙ (ap (λ cs. f.fed ++ cs) (sym e) ∙ f.left)) f.adds

-- of a string, and of other bytes
pub string_added : (a b c : Sha512) (id raw : List ℕ) → is_quoted id ≡ true → raw ≡ inner id → Adds a b (encode_utf8 34) → Adds b c (encode_utf8_all (characters_of raw)) → Adds a c (encode_utf8_all (form id))
string_added a b c id raw q e f g =
    subst (λ t. Adds a c (encode_utf8_all (cond t (34 ∷ characters_of (inner id)) id))) (sym q) (subst (λ r. Adds a c (encode_utf8 34 ++ encode_utf8_all (characters_of r))) e (adds_both a b c (encode_utf8 34) (encode_utf8_all (characters_of raw)) f g))

pub bytes_added : (a b : Sha512) (id : List ℕ) → is_quoted id ≡ false → Adds a b (encode_utf8_all id) → Adds a b (encode_utf8_all (form id))
bytes_added a b id q f = subst (λ t. Adds a b (encode_utf8_all (cond t (34 ∷ characters_of (inner id)) id))) (sym q) f

pub is_print : (editor : ℕ) (id bytes digest : List ℕ) → bytes ≡ to_be_bytes w64 editor → digest ≡ sha512 (bytes ++ encode_utf8_all (form id)) → front digest ≡ fingerprint editor id
unfolding fingerprint
is_print editor id bytes digest is e = ap front e ∙ ap (λ xs. front (sha512 (xs ++ encode_utf8_all (form id)))) is
