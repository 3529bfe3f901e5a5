-- The daemon's own tokens of what a start creates are texts of strings, and editors are asked of them in requests; and what is kept of tokens, whatever the events are.
use Rattle.std.proofs.Common.{◌≡◌, ℕ, zero, suc, ◌+◌, ◌/◌, ◌%◌, ◌^◌, ◌<◌, ◌==◌, Bool, true, false, ◌&&◌, ◌||◌, List, [], ◌∷◌, ◌++◌, codes, decimal, nat_le, nat_lt, if◌then◌else◌, Some, refl, ap, lt-ltb, arith}
use Rattle.std.specs.Fmt.{digits, digits_onto, digit_glyph}
use Rattle.std.specs.Str.{chars}
use Rattle.std.proofs.lemmas.Bool.{and_parts, and_from, le-leb}
use Rattle.json_text.specs.Bare.{nowhere}
use Rattle.json_text.specs.Json.{Json, string, object, no_members, member}
use Rattle.json_text.specs.Number.{is_digit}
use Rattle.json_text.specs.String.{is_plain}
use Rattle.json_text.proofs.Compact.{all_simple, compact_object, closing_none, simple_string}
use Rattle.json_text.proofs.Forms.{says}
use Rattle.json_text.proofs.Moves.{placed}
use Rattle.rpc_message.specs.Message.{integer, message_of, request}
use Rattle.rpc_message.specs.ValueTexts.{IsValueText}
use Rattle.rpc_message.proofs.Replies.{request_law}
use Rattle.group_rows.specs.Created.{created_mark, created_text}
use Rattle.group_rows.specs.CreatedRows.{create_params, create_text}
use Rattle.group_rows.proofs.TokenTexts.{IsTokenText, plain_digit}

-- what is written of a number has digits alone, however great it is
glyph_digit : (d : ℕ) → d < 10 → is_digit (digit_glyph false d) ≡ true
glyph_digit d h = rw (lt-ltb d 10 h) (and_from (nat_le 48 (48 + d)) (nat_le (48 + d) 57) (le-leb 48 (48 + d) (omega arith)) (le-leb (48 + d) 57 (omega (arith, h))))

glyph_simple : (n : ℕ) (cs : List ℕ) → all_simple cs ≡ true → all_simple (digit_glyph false (n % 10) ∷ cs) ≡ true
glyph_simple n cs h =
    let c : ℕ = digit_glyph false (n % 10) in
    and_from (is_plain c && nat_lt c 128) (all_simple cs) (plain_digit c (ap (λ b. b || (c == 45)) (glyph_digit (n % 10) (omega arith)))) h

onto_simple : (k n : ℕ) (cs : List ℕ) → all_simple cs ≡ true → all_simple (digits_onto k 10 false n cs) ≡ true
onto_simple zero n cs h = h
onto_simple (suc k) n cs h = go (n / 10 == 0) (onto_simple k (n / 10) (digit_glyph false (n % 10) ∷ cs) (glyph_simple n cs h))
  where
    go : (b : Bool) → all_simple (digits_onto k 10 false (n / 10) (digit_glyph false (n % 10) ∷ cs)) ≡ true → all_simple (if b then digit_glyph false (n % 10) ∷ cs else digits_onto k 10 false (n / 10) (digit_glyph false (n % 10) ∷ cs)) ≡ true
    go true rest = glyph_simple n cs h
    go false rest = rest

digits_simple : (n : ℕ) → all_simple (decimal n) ≡ true
unfolding digits
digits_simple n = onto_simple 64 n [] refl

both_simple : (xs ys : List ℕ) → all_simple xs ≡ true → all_simple ys ≡ true → all_simple (xs ++ ys) ≡ true
both_simple [] ys h k = k
both_simple (x ∷ xs) ys h k = let parts = and_parts (is_plain x && nat_lt x 128) (all_simple xs) h in and_from (is_plain x && nat_lt x 128) (all_simple (xs ++ ys)) parts.0 (both_simple xs ys parts.1 k)

mark_simple : (s k : ℕ) → all_simple (created_mark s k) ≡ true
mark_simple s k = both_simple (codes "lspmux:" ++ decimal s ++ codes ":") (decimal k) (both_simple (codes "lspmux:" ++ decimal s) (codes ":") (digits_simple s) refl) (digits_simple k)

pub mark_says : (s k : ℕ) → says (string nowhere (created_mark s k)) (created_text s k)
mark_says s k = simple_string nowhere (created_mark s k) (mark_simple s k)

pub created_is : (s k : ℕ) → IsValueText (string nowhere (created_mark s k)) (created_text s k)
created_is s k = let p = placed (string nowhere (created_mark s k)) 0 (created_text s k) (mark_says s k) in record { tree = p.tree; stands = p.stands; same = p.same }

pub created_token_text : (s k : ℕ) → IsTokenText (created_text s k)
created_token_text s k = record { tree = string nowhere (created_mark s k); text = created_is s k; flat = refl; token = refl }

-- its create is a request under its number
abbrev pub create_tree : ℕ → ℕ → Json
create_tree s k = object nowhere (member nowhere (codes "token") (string nowhere (created_mark s k)) no_members)

params_written : (s k : ℕ) → IsValueText (create_tree s k) (create_params s k)
params_written s k =
    let p = placed (create_tree s k) 0 (create_params s k) (compact_object nowhere nowhere (codes "token") (string nowhere (created_mark s k)) no_members (created_text s k) (codes "}") refl (mark_says s k) closing_none) in
    record { tree = p.tree; stands = p.stands; same = p.same }

pub create_says : (s k n : ℕ) → n < 2 ^ 128 → message_of (create_text s k n) ≡ request (integer (decimal n)) (codes "window/workDoneProgress/create") (Some (create_tree s k))
unfolding chars lib.Utf8.encode
create_says s k n small = request_law n (codes "window/workDoneProgress/create") (Some (create_tree s k)) (Some (create_params s k)) small (codes "window/workDoneProgress/create", (refl, refl)) (params_written s k) refl (omega arith)
