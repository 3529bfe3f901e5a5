-- What is written is read back.
use Rattle.std.proofs.Common.{◌≡◌, refl, ap, ◌∙◌, sym, subst, ℕ, ◌+◌, ◌-◌, ◌*◌, ◌/◌, ◌%◌, ◌^◌, ◌<◌, ◌≤◌, true, List, [], ◌∷◌, ◌++◌, length, append_assoc, append-nil, arith}
use Rattle.std.specs.List.{AllByRecursion}
use Rattle.std.specs.Prelude.{codes, decimal, nat_le}
use Rattle.std.proofs.lemmas.Bool.{and_from, le-leb}
use Rattle.std.proofs.lemmas.List.{length-append}
use Rattle.std.proofs.lemmas.Fmt.{decimal_by_steps, length-decimal-le}
use Rattle.base_frame.specs.Block.{is_name_byte, is_digit}
use Rattle.base_frame.specs.Grammar.{Each, NotEmpty, number, IsLengthField, IsFrame}
use Rattle.base_frame.specs.Frames.{Splits, framed, all_framed}
use Rattle.base_frame.specs.Laws.{ContentsFit, ReadsBack, AllReadBack}
use Rattle.base_frame.proofs.Steps.{each_then, some_then, number_then, no_fields, length_then}

pub contents_fit : ContentsFit
contents_fit limit stream c more h = h.header.0.2.within

record Spells (n : ℕ) (ds : List ℕ) : Type 0 where
  digits : Each is_digit ds
  filled : NotEmpty ds
  value : number 0 ds ≡ n

digit : (d : ℕ) → d < 10 → is_digit (48 + d) ≡ true
digit d h = and_from (nat_le 48 (48 + d)) (nat_le (48 + d) 57) (le-leb 48 (48 + d) (omega arith)) (le-leb (48 + d) 57 (omega arith))

spells_one : (n : ℕ) → n < 10 → Spells n ((48 + n) ∷ [])
spells_one n h = record { digits = (digit n h, tt); filled = tt; value = omega arith }

spells_more : (n : ℕ) (ds : List ℕ) → 10 ≤ n → Spells (n / 10) ds → Spells n (ds ++ ((48 + n % 10) ∷ []))
spells_more n ds h s = record {
  digits = each_then is_digit ds ((48 + n % 10) ∷ []) s.digits (digit (n % 10) (omega arith), tt);
  filled = some_then ds (48 + n % 10);
  value = number_then 0 ds (48 + n % 10) ∙ (ap (λ x. x * 10 + ((48 + n % 10) - 48)) s.value ∙ omega arith);
}

spells : (n : ℕ) → n < 2 ^ 64 → Spells n (decimal n)
spells n h = decimal_by_steps Spells spells_one spells_more n h

name_bytes : Each is_name_byte (codes "Content-Length")
name_bytes = (refl, (refl, (refl, (refl, (refl, (refl, (refl, (refl, (refl, (refl, (refl, (refl, (refl, (refl, tt))))))))))))))

reads_back : (limit : ℕ) (b more : List ℕ) → length b ≤ limit → length b < 2 ^ 64 → IsFrame limit (framed b ++ more) b more
reads_back limit b more h small =
    let s : Spells (length b) (decimal (length b)) = spells (length b) small in
    let field : IsLengthField (length b) (codes "Content-Length: " ++ (decimal (length b) ++ 13 ∷ 10 ∷ [])) = record {
      name = codes "Content-Length";
      before = 32 ∷ [];
      digits = decimal (length b);
      behind = [];
      bytes = simp append-nil;
      named = refl;
      name_bytes = name_bytes;
      spaces = (refl, tt);
      some_digits = s.filled;
      digit_bytes = s.digits;
      more_spaces = tt;
      counts = s.value;
    } in
    let size = length-decimal-le 20 (length b) (omega arith) (omega (arith, small)) small in
    record {
      block = (codes "Content-Length: " ++ (decimal (length b) ++ 13 ∷ 10 ∷ [])) ++ 13 ∷ 10 ∷ [];
      bytes = simp append_assoc;
      header = ((codes "Content-Length: " ++ (decimal (length b) ++ 13 ∷ 10 ∷ []), refl, length_then limit (length b) [] (codes "Content-Length: " ++ (decimal (length b) ++ 13 ∷ 10 ∷ [])) no_fields field h), simp length-append (omega (arith, size)));
    }

all_read : (limit : ℕ) (bs : List (List ℕ)) (more : List ℕ) → AllByRecursion (λ b. (length b ≤ limit) × (length b < 2 ^ 64)) bs → Splits limit (all_framed bs ++ more) bs more
all_read limit [] more h = refl
all_read limit (b ∷ bs) more h =
    (all_framed bs ++ more, subst (λ x. IsFrame limit x b (all_framed bs ++ more)) (sym (append_assoc (framed b) (all_framed bs) more)) (reads_back limit b (all_framed bs ++ more) h.0.0 h.0.1), all_read limit bs more h.1)

pub written_back : ReadsBack
written_back = reads_back

pub all_back : AllReadBack
all_back = all_read
