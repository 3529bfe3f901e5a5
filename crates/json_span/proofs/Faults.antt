-- Where the machine stops is where the grammar says that the fault is.
use Rattle.std.proofs.Common.{◌≡◌, ℕ, suc, ◌+◌, ◌-◌, ◌≤◌, ◌<◌, List, [], ◌∷◌, ◌++◌, length, take, max, refl, ap, ◌∙◌}
use Rattle.std.specs.Prelude.{Bool}
use Rattle.std.specs.Prelude.{Err}
use Rattle.std.proofs.lemmas.List.{append_assoc, append-nil, length-append}
use Rattle.std.proofs.Math.Seq.{take-length, take-append_seam, take-append-add}
use native.Mathlib.Omega.{arith}
use Rattle.json_text.specs.Json.{Json, IsText, depth}
use Rattle.json_nodes.specs.Nodes.{nodes_of, unnamed}
use Rattle.json_text.specs.Faults.{Begins, BeginsWithin, IsSyntaxFault, IsDepthFault}
use Rattle.json_span.specs.Machine.{syntax, deep, start, read}
use Rattle.json_span.proofs.Passes.{complete}
use Rattle.json_span.proofs.Shape.{Point, value, Next, goes, stops, too_deep, next, MayEnd, OnGoes, on_goes, Accepts, Passes}
use Rattle.json_span.proofs.ShapeOf.{read_accepts}
use Rattle.json_span.proofs.Completed.{passes_begins}
use Rattle.json_span.proofs.Limits.{Compares, next_compares, passes_higher}
use Rattle.json_span.proofs.Stuck.{Stuck, at_byte, at_bracket, at_end, stuck}

text_accepted : (d : ℕ) (bytes : List ℕ) (j : Json) → IsText bytes j → depth j ≤ d → Accepts d bytes value []
text_accepted d bytes j text fits = read_accepts d 0 bytes start (nodes_of 0 0 unnamed j) (complete d bytes j text fits)

on_both : (n : Next) (P Q : Point → List Bool → Type 0) (R : Type 0) → ((p : Point) (ks : List Bool) → P p ks → Q p ks → R) → OnGoes n P → OnGoes n Q → R
on_both (goes p ks) P Q R f h k = f p ks h k
on_both stops P Q R f h k = absurd h
on_both too_deep P Q R f h k = absurd h

-- where the front of accepted bytes leads, the rest is accepted
passed_rest : (d : ℕ) (xs more : List ℕ) (p : Point) (ks : List Bool) (q : Point) (os : List Bool) → Passes d xs p ks q os → Accepts d (xs ++ more) p ks → Accepts d more q os
passed_rest d [] more p ks q os h a = rw (← h.0, ← h.1) a
passed_rest d (b ∷ xs) more p ks q os h a = on_both (next d b p ks) (λ r ls. Passes d xs r ls q os) (λ r ls. Accepts d (xs ++ more) r ls) (Accepts d more q os) (λ r ls k g. passed_rest d xs more r ls q os k g) h a

passed_more : (d b : ℕ) (xs : List ℕ) (p : Point) (ks : List Bool) (q : Point) (os : List Bool) (r : Point) (ls : List Bool) → Passes d xs p ks q os → next d b q os ≡ goes r ls → Passes d (xs ++ b ∷ []) p ks r ls
passed_more d b [] p ks q os r ls h e = rw (h.0, h.1, e) (refl, refl)
passed_more d b (x ∷ xs) p ks q os r ls h e = on_goes (next d x p ks) (λ t us. Passes d xs t us q os) (λ t us. Passes d (xs ++ b ∷ []) t us r ls) (λ t us k. passed_more d b xs t us q os r ls k e) h

-- no text goes on where the machine stops
same_stop : (e n : ℕ) (x y : Next) → Compares e n x y → x ≡ stops → y ≡ stops
same_stop e n (goes p ks) y c h = cc
same_stop e n stops y c h = c
same_stop e n too_deep y c h = cc

stopped : (n : Next) (P : Point → List Bool → Type 0) → n ≡ stops → OnGoes n P → ⊥
stopped n P e h = rw e at h

no_text_on : (d b : ℕ) (front rest : List ℕ) (q : Point) (os : List Bool) → Passes d front value [] q os → next d b q os ≡ stops → (j : Json) → IsText (front ++ b ∷ rest) j → ⊥
no_text_on d b front rest q os ran why j text =
    let e = max d (depth j) in
    let lower : d ≤ e = omega arith in
    let a = passed_rest e front (b ∷ rest) value [] q os (passes_higher d e front value [] q os lower ran) (text_accepted e (front ++ b ∷ rest) j text (omega arith)) in
    stopped (next e b q os) (λ r ls. Accepts e rest r ls) (same_stop e (length os) (next d b q os) (next e b q os) (next_compares d e b q os lower) why) a

no_text_end : (d : ℕ) (bytes : List ℕ) (q : Point) (os : List Bool) → Passes d bytes value [] q os → (MayEnd q os → ⊥) → (j : Json) → IsText bytes j → ⊥
no_text_end d bytes q os ran why j text =
    let e = max d (depth j) in
    let lower : d ≤ e = omega arith in
    why (passed_rest e bytes [] value [] q os (passes_higher d e bytes value [] q os lower ran) (rw (append-nil bytes) (text_accepted e bytes j text (omega arith))))

front_begins : (d : ℕ) (front more : List ℕ) (q : Point) (os : List Bool) → Passes d front value [] q os → BeginsWithin d (take (length front) (front ++ more))
front_begins d front more q os ran = rw (take-append_seam front more) (passes_begins d front q os ran)

-- more bytes of the front than those that passed
taken : (front rest : List ℕ) (b n : ℕ) → length front < n → take n (front ++ b ∷ rest) ≡ front ++ b ∷ take (n - suc (length front)) rest
taken front rest b n h = ap (λ i. take i (front ++ b ∷ rest)) same ∙ take-append-add front (b ∷ rest) (suc (n - suc (length front)))
  where
    same : n ≡ length front + suc (n - suc (length front))
    same = omega arith

syntax_at : (d b : ℕ) (front rest : List ℕ) (q : Point) (os : List Bool) → Passes d front value [] q os → next d b q os ≡ stops → IsSyntaxFault d (front ++ b ∷ rest) (length front)
syntax_at d b front rest q os ran why = record {
  inside = omega (arith, length-append front (b ∷ rest));
  begins = front_begins d front (b ∷ rest) q os ran;
  longest = λ n later few begun. beyond n later begun;
  no_text = no_text_on d b front rest q os ran why;
}
  where
    beyond : (n : ℕ) → length front < n → Begins (take n (front ++ b ∷ rest)) → ⊥
    beyond n later begun =
        let whole = ap (λ xs. xs ++ begun.0) (taken front rest b n later) ∙ append_assoc front (b ∷ take (n - suc (length front)) rest) begun.0 in
        no_text_on d b front (take (n - suc (length front)) rest ++ begun.0) q os ran why begun.1 (rw whole at begun.2)

syntax_end : (d : ℕ) (bytes : List ℕ) (q : Point) (os : List Bool) → Passes d bytes value [] q os → (MayEnd q os → ⊥) → IsSyntaxFault d bytes (length bytes)
syntax_end d bytes q os ran why = record {
  inside = omega arith;
  begins = rw (take-length bytes) (passes_begins d bytes q os ran);
  longest = λ n later few begun. absurd (omega arith);
  no_text = no_text_end d bytes q os ran why;
}

-- a bracket that is too deep passes at a higher limit
opened_higher : (e n : ℕ) (x y : Next) → Compares e n x y → x ≡ too_deep → n < e → (p : Point) × (ks : List Bool) × (y ≡ goes p ks)
opened_higher e n (goes p ks) y c h l = cc
opened_higher e n stops y c h l = cc
opened_higher e n too_deep y c h l = c l

deep_begins : (d b : ℕ) (front : List ℕ) (q : Point) (os : List Bool) → Passes d front value [] q os → next d b q os ≡ too_deep → Begins (front ++ b ∷ [])
deep_begins d b front q os ran why =
    let e = max d (suc (length os)) in
    let lower : d ≤ e = omega arith in
    let o = opened_higher e (length os) (next d b q os) (next e b q os) (next_compares d e b q os lower) why (omega arith) in
    let begun = passes_begins e (front ++ b ∷ []) o.0 o.1 (passed_more e b front value [] q os o.0 o.1 (passes_higher d e front value [] q os lower ran) o.2) in
    (begun.0, begun.1, begun.2)

too_deep_stops : (n : Next) (P : Point → List Bool → Type 0) → n ≡ too_deep → OnGoes n P → ⊥
too_deep_stops n P e h = rw e at h

deep_refused : (d b : ℕ) (front more : List ℕ) (q : Point) (os : List Bool) → Passes d front value [] q os → next d b q os ≡ too_deep → (j : Json) → IsText (front ++ b ∷ more) j → depth j ≤ d → ⊥
deep_refused d b front more q os ran why j text fits =
    too_deep_stops (next d b q os) (λ r ls. Accepts d more r ls) why (passed_rest d front (b ∷ more) value [] q os ran (text_accepted d (front ++ b ∷ more) j text fits))

depth_at : (d b : ℕ) (front rest : List ℕ) (q : Point) (os : List Bool) → Passes d front value [] q os → next d b q os ≡ too_deep → IsDepthFault d (front ++ b ∷ rest) (length front)
depth_at d b front rest q os ran why = record {
  inside = omega (arith, length-append front (b ∷ rest));
  before = front_begins d front (b ∷ rest) q os ran;
  begins = rw one_more (deep_begins d b front q os ran why);
  deeper = λ begun. beyond (rw one_more at begun);
}
  where
    one_more : take (length front + 1) (front ++ b ∷ rest) ≡ front ++ b ∷ []
    one_more = take-append-add front (b ∷ rest) 1

    beyond : BeginsWithin d (front ++ b ∷ []) → ⊥
    beyond begun = deep_refused d b front begun.0 q os ran why begun.1 (rw (append_assoc front (b ∷ []) begun.0) at begun.2) begun.3

syntax_of : (d p : ℕ) (bytes : List ℕ) → Stuck d 0 bytes value [] (syntax p) → IsSyntaxFault d bytes p
syntax_of d p bytes (at_byte front rest b q os whole ran why place) =
    let same : p ≡ 0 + length front = cc in
    let there : p ≡ length front = omega arith in
    rw (whole, there) (syntax_at d b front rest q os ran why)
syntax_of d p bytes (at_bracket front rest b q os whole ran why place) = cc
syntax_of d p bytes (at_end q os ran why place) =
    let same : p ≡ 0 + length bytes = cc in
    let there : p ≡ length bytes = omega arith in
    rw there (syntax_end d bytes q os ran why)

deep_of : (d p : ℕ) (bytes : List ℕ) → Stuck d 0 bytes value [] (deep p) → IsDepthFault d bytes p
deep_of d p bytes (at_byte front rest b q os whole ran why place) = cc
deep_of d p bytes (at_bracket front rest b q os whole ran why place) =
    let same : p ≡ 0 + length front = cc in
    let there : p ≡ length front = omega arith in
    rw (whole, there) (depth_at d b front rest q os ran why)
deep_of d p bytes (at_end q os ran why place) = cc

pub syntax_fault : (d p : ℕ) (bytes : List ℕ) → read d 0 bytes start ≡ Err (syntax p) → IsSyntaxFault d bytes p
syntax_fault d p bytes h = syntax_of d p bytes (stuck d 0 bytes start (syntax p) h)

pub depth_fault : (d p : ℕ) (bytes : List ℕ) → read d 0 bytes start ≡ Err (deep p) → IsDepthFault d bytes p
depth_fault d p bytes h = deep_of d p bytes (stuck d 0 bytes start (deep p) h)
