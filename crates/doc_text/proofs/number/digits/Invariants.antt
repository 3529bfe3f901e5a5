use Rattle.std.proofs.Common.{◌≡◌, ℕ, min, drop}
use Rattle.doc_text.specs.Numbers.{greatest, unsigned_behind}
use Rattle.doc_text.proofs.number.digits.Given as goal

-- the number is that of the digits so far, and what is still to come decides as all does
abbrev pub invariant-loop-byte : goal.invariant-loop-byte
invariant-loop-byte l = (n : ℕ) × (l.number ≡ min n greatest) × (unsigned_behind n (drop l.byte-index l.text) ≡ unsigned_behind 0 l.text)
