-- The first frame of a source that is read a byte at a time.
use Rattle.std.proofs.Common.{◌≡◌, ℕ, ◌≤◌, List, [], ◌∷◌, ◌++◌, inl, inr, refl, sym, ap, ◌∙◌, subst, append_assoc, arith}
use Rattle.std.specs.Prelude.{Option, Ok, Err}
use Rattle.std.specs.Io.KnownBytes.{append_known, prepend_known}
use Rattle.outside_io.specs.Faults.{Rose}
use Rattle.base_frame.specs.declared.block.BadWhy.{BadWhy}
use Rattle.base_frame.specs.declared.reader.Next.TheVariants as next
use Rattle.base_frame.specs.Answer.{Gives}
use Rattle.base_frame.specs.Frames.{HasNoFrame}
use Rattle.base_frame.specs.Grammar.{IsFrame}
use Rattle.base_frame.specs.Reader.{Held, IsFaulty, Stands}
use Rattle.mux_client.specs.Answers.{TakenFirst}
use Rattle.mux_client.specs.Pieces.{Came}
use Rattle.mux_client.specs.Firsts.{FirstSoFar}
use Rattle.mux_client.specs.Sessions.{IsEnded}
use Rattle.mux_client.specs.declared.fault.ClientFault.TheVariants as fault
use Rattle.mux_client.proofs.Passing.{known_more, known_none, left_more, left_none, rose_from}

-- lists that end alike begin alike
no_cons : {A : Type 0} (x : A) (xs ys : List A) → xs ++ x ∷ ys ≡ [] → ⊥
no_cons x [] ys e = absurd (cc)
no_cons x (z ∷ xs) ys e = absurd (cc)

same_front : (xs ys : List ℕ) (a b : ℕ) → xs ++ a ∷ [] ≡ ys ++ b ∷ [] → xs ≡ ys
same_front [] [] a b e = refl
same_front [] (y ∷ ys) a b e = absurd (no_cons b ys [] (let same : [] ≡ ys ++ b ∷ [] = cc in sym same))
same_front (x ∷ xs) [] a b e = absurd (no_cons a xs [] (let same : xs ++ a ∷ [] ≡ [] = cc in same))
same_front (x ∷ xs) (y ∷ ys) a b e =
    let head : x ≡ y = cc in
    let tail : xs ++ a ∷ [] ≡ ys ++ b ∷ [] = cc in
    ap (λ z. z ∷ xs) head ∙ ap (λ l. y ∷ l) (same_front xs ys a b tail)

-- a list that isn't empty ends
record Ends (xs : List ℕ) : Type 0 where
  front : List ℕ
  last : ℕ
  is : xs ≡ front ++ last ∷ []

ends : (x : ℕ) (xs : List ℕ) → Ends (x ∷ xs)
ends x [] = record { front = []; last = x; is = refl }
ends x (y ∷ ys) = let e = ends y ys in record { front = x ∷ e.front; last = e.last; is = ap (λ l. x ∷ l) e.is }

-- the byte with which a first frame is whole is its last
pub none_behind : (limit : ℕ) (fed : List ℕ) (b : ℕ) (content more : List ℕ) → HasNoFrame limit fed → IsFrame limit (fed ++ b ∷ []) content more → more ≡ []
none_behind limit fed b content [] none f = refl
none_behind limit fed b content (x ∷ xs) none f =
    let e = ends x xs in
    let whole : fed ++ b ∷ [] ≡ (f.block ++ (content ++ e.front)) ++ e.last ∷ [] =
    f.bytes ∙ (ap (λ l. f.block ++ (content ++ l)) e.is ∙ (ap (λ l. f.block ++ l) (sym (append_assoc content e.front (e.last ∷ []))) ∙ sym (append_assoc f.block (content ++ e.front) (e.last ∷ [])))) in
    absurd (none content e.front (record { block = f.block; bytes = same_front fed (f.block ++ (content ++ e.front)) b e.last whole; header = f.header }))

not_empty : {A : Type 0} (xs : List A) (y : A) (ys zs : List A) → [] ≡ (xs ++ y ∷ ys) ++ zs → ⊥
not_empty [] y ys zs e = absurd (cc)
not_empty (x ∷ xs) y ys zs e = absurd (cc)

no_frame : (limit : ℕ) → HasNoFrame limit []
no_frame limit c more f = not_empty f.header.0.0 13 (10 ∷ []) (c ++ more) (f.bytes ∙ ap (λ l. l ++ (c ++ more)) f.header.0.1)

pub first_start : (limit : ℕ) (r : Held) (t l : Option (List ℕ)) → r.limit ≡ limit → Stands r [] [] → FirstSoFar limit r t t l l
first_start limit r t l e s = record { fed = []; reads = known_none t; leaves = left_none l; limit_is = e; stands = s; none = no_frame limit }

module _ (limit : ℕ) (r : Held) (t t1 l l1 : Option (List ℕ)) (before f1 : ℕ) (f : FirstSoFar limit r t t1 l l1) (later : before ≤ f1) where
  -- it went on no more
  pub first_over : TakenFirst limit t t1 l l1 before f1 (Err fault.Memory)
  first_over = record { heard = f.fed; reads = f.reads; leaves = f.leaves; later = later; first = tt }

  module _ (t2 l2 : Option (List ℕ)) (f2 : ℕ) (rises : f1 ≤ f2) where
    pub first_failed : Came t1 t2 l1 l2 [] × Rose f1 f2 → TakenFirst limit t t2 l l2 before f2 (Err fault.Link)
    first_failed x = record {
      heard = f.fed;
      reads = x.0.reads ∙ (sym (known_none t1) ∙ f.reads);
      leaves = f.leaves ∙ ap (prepend_known f.fed) (x.0.leaves ∙ sym (left_none l2));
      later = omega (arith, later, rises);
      first = rose_from before f1 f2 later x.1;
    }

    pub first_ended : Came t1 t2 l1 l2 [] × IsEnded l2 → TakenFirst limit t t2 l l2 before f2 (Err fault.Answer)
    first_ended x = record {
      heard = f.fed;
      reads = x.0.reads ∙ (sym (known_none t1) ∙ f.reads);
      leaves = f.leaves ∙ ap (prepend_known f.fed) (x.0.leaves ∙ sym (left_none l2));
      later = omega (arith, later, rises);
      first = inr (f.none, x.1);
    }

    -- a byte more
    module _ (byte : ℕ) (x : Came t1 t2 l1 l2 (byte ∷ [])) where
      reads_more : t2 ≡ append_known t (f.fed ++ byte ∷ [])
      reads_more = x.reads ∙ (ap (λ z. append_known z (byte ∷ [])) f.reads ∙ known_more t f.fed (byte ∷ []))

      leaves_more : l ≡ prepend_known (f.fed ++ byte ∷ []) l2
      leaves_more = f.leaves ∙ (ap (prepend_known f.fed) x.leaves ∙ left_more l2 f.fed (byte ∷ []))

      pub first_unfed : TakenFirst limit t t2 l l2 before f2 (Err fault.Memory)
      first_unfed = record { heard = f.fed ++ byte ∷ []; reads = reads_more; leaves = leaves_more; later = omega (arith, later, rises); first = tt }

      module _ (r2 r3 : Held) (feeds : (fed : List ℕ) (given : List (List ℕ)) → Stands r fed given → Stands r2 (fed ++ byte ∷ []) given) (same : r2.limit ≡ r.limit) (stays : r3.limit ≡ r2.limit) where
        is_limit : r3.limit ≡ limit
        is_limit = stays ∙ (same ∙ f.limit_is)

        pub first_taken : (answer : List ℕ) → ((fed : List ℕ) (given : List (List ℕ)) → Stands r2 fed given → Stands r3 fed (given ++ answer ∷ [])) → TakenFirst limit t t2 l l2 before f2 (Ok answer)
        first_taken answer gives =
            let stands = gives (f.fed ++ byte ∷ []) [] (feeds f.fed [] f.stands) in
            let more = stands.1.0 in
            let frame : IsFrame limit (f.fed ++ byte ∷ []) answer more = subst (λ n. IsFrame n (f.fed ++ byte ∷ []) answer more) is_limit stands.1.1 in
            let none : more ≡ [] = none_behind limit f.fed byte answer more f.none frame in record {
              heard = f.fed ++ byte ∷ [];
              reads = reads_more;
              leaves = leaves_more;
              later = omega (arith, later, rises);
              first = subst (λ l. IsFrame limit (f.fed ++ byte ∷ []) answer l) none frame;
            }

        pub first_more : ((fed : List ℕ) (given : List (List ℕ)) → Stands r2 fed given → Gives r3 fed given next.NotYet) → FirstSoFar limit r3 t t2 l l2
        first_more gives =
            let y = gives (f.fed ++ byte ∷ []) [] (feeds f.fed [] f.stands) in
            let none : HasNoFrame limit y.1.0 = subst (λ n. HasNoFrame n y.1.0) is_limit y.1.1.1 in record {
              fed = f.fed ++ byte ∷ [];
              reads = reads_more;
              leaves = leaves_more;
              limit_is = is_limit;
              stands = y.0;
              none = subst (HasNoFrame limit) (sym y.1.1.0) none;
            }

        pub first_bad : (at : ℕ) (why : BadWhy) → ((fed : List ℕ) (given : List (List ℕ)) → Stands r2 fed given → Gives r3 fed given (next.BadFrame at why)) → TakenFirst limit t t2 l l2 before f2 (Err fault.Answer)
        first_bad at why gives =
            let y = gives (f.fed ++ byte ∷ []) [] (feeds f.fed [] f.stands) in
            let bad : IsFaulty limit y.1.0 = subst (λ n. IsFaulty n y.1.0) is_limit (at, why, y.1.2) in record {
              heard = f.fed ++ byte ∷ [];
              reads = reads_more;
              leaves = leaves_more;
              later = omega (arith, later, rises);
              first = inl (subst (IsFaulty limit) (sym y.1.1.0) bad);
            }
