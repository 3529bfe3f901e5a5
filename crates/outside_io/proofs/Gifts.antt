-- What an `open` gave, port by port.
use Rattle.std.proofs.Common.{◌≡◌, ℕ, ◌+◌, ◌≤◌, inl, inr, List, [], ◌∷◌, ◌++◌, length, map, refl, ap, ◌∙◌, sym, append_assoc, arith}
use Rattle.std.specs.Prelude.{Option, Some}
use Rattle.std.proofs.lemmas.List.{map-append, length-append, append-nil}
use Rattle.std.proofs.lemmas.List.Elements.{All-append, All-cons, All-nil}
use Rattle.outside_io.specs.Doors.{PortTold, Gave}

pub gave_none : {P : Type 0} (told : P → PortTold) (faults : P → ℕ) (before : List P) (left : List PortTold) → Gave told faults 0 before before (Some left) (Some left)
gave_none told faults before left = record {
  given = [];
  added = sym (append-nil before);
  fresh = All-nil (λ p. faults p ≡ 0);
  left = refl;
  most = omega arith;
  full = inr refl;
}

one_more : {P : Type 0} (given : List P) (port : P) (n : ℕ) → length given ≡ n → length (given ++ port ∷ []) ≡ n + 1
one_more given port n e = length-append given (port ∷ []) ∙ ap (λ m. m + 1) e

pub gave_more : {P : Type 0} (told : P → PortTold) (faults : P → ℕ) (n : ℕ) (before after : List P) (first : Option (List PortTold)) (rest rest' : List PortTold) (port : P)
    → Gave told faults n before after first (Some rest) → faults port ≡ 0 → rest ≡ told port ∷ rest'
    → Gave told faults (n + 1) before (after ++ port ∷ []) first (Some rest')
gave_more told faults n before after first rest rest' port gave fresh is = record {
  given = gave.given ++ port ∷ [];
  added = ap (λ ports. ports ++ port ∷ []) gave.added ∙ append_assoc before gave.given (port ∷ []);
  fresh = All-append (λ p. faults p ≡ 0) gave.given (port ∷ []) gave.fresh (All-cons (λ p. faults p ≡ 0) port [] fresh (All-nil (λ p. faults p ≡ 0)));
  left = gave.left ∙ ap (λ (l : List PortTold). Some l) (ap (λ l. map told gave.given ++ l) is ∙ (sym (append_assoc (map told gave.given) (told port ∷ []) rest') ∙ ap (λ l. l ++ rest') (sym (map-append told gave.given (port ∷ [])))));
  most = let counted = length-append gave.given (port ∷ []) in let most = gave.most in omega arith;
  full = elim gave.full [ inl none ↦ cc | inr all ↦ inr (one_more gave.given port n all) ];
}

pub gave_all : {P : Type 0} (told : P → PortTold) (faults : P → ℕ) (n m : ℕ) (before after : List P) (first : Option (List PortTold)) (rest : List PortTold)
    → Gave told faults n before after first (Some rest) → rest ≡ [] → n ≤ m → Gave told faults m before after first (Some rest)
gave_all told faults n m before after first rest gave none more = record {
  given = gave.given;
  added = gave.added;
  fresh = gave.fresh;
  left = gave.left;
  most = let most = gave.most in omega arith;
  full = inl none;
}
