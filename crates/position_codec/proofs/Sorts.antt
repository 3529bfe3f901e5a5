-- The sorts of characters by what they do to lines.
use Rattle.std.proofs.Common.{◌≡◌, ℕ, Bool, true, false, cond, nat_eq, [], ◌∷◌, refl, arith}
use Rattle.std.proofs.lemmas.Bool.Decides.{nat_tests}
use Rattle.position_codec.specs.Position.{Lines, last, line, feed, return, return_feed, with_first, with_return, with_character}

pub data Sort (c : ℕ) : Type 0 where
  is_feed : c ≡ 10 → Sort c
  is_return : c ≡ 13 → Sort c
  is_other : nat_eq c 10 ≡ false → nat_eq c 13 ≡ false → Sort c

pub sort : (c : ℕ) → Sort c
sort c = go (nat_eq c 10) (nat_eq c 13) refl refl
  where
    go : (a b : Bool) → nat_eq c 10 ≡ a → nat_eq c 13 ≡ b → Sort c
    go true b g h = is_feed (grind (arith, nat_tests))
    go false true g h = is_return (grind (arith, nat_tests))
    go false false g h = is_other g h

pub with_first-other : (c : ℕ) (ls : Lines) → nat_eq c 10 ≡ false → nat_eq c 13 ≡ false → with_first c ls ≡ with_character c ls
with_first-other c ls g h = rw (g, h) refl

-- a `\r` that no `\n` follows ends a line alone
return_returned : (ls : Lines) → with_return (with_return ls) ≡ line [] return (with_return ls)
return_returned (last cs) = refl
return_returned (line [] feed ls) = refl
return_returned (line [] return_feed ls) = refl
return_returned (line [] return ls) = refl
return_returned (line (c ∷ cs) end ls) = refl

return_character : (c : ℕ) (ls : Lines) → with_return (with_character c ls) ≡ line [] return (with_character c ls)
return_character c (last cs) = refl
return_character c (line cs end ls) = refl

pub returned_alone : (d : ℕ) (ls : Lines) → nat_eq d 10 ≡ false → with_return (with_first d ls) ≡ line [] return (with_first d ls)
returned_alone d ls g = rw g (choice (nat_eq d 13))
  where
    choice : (b : Bool) → with_return (cond b (with_return ls) (with_character d ls)) ≡ line [] return (cond b (with_return ls) (with_character d ls))
    choice true = return_returned ls
    choice false = return_character d ls
