-- What two values have in common, step by step.
use Rattle.std.proofs.Common.{◌≡◌, ℕ, Bool, true, false, not, ◌||◌, List, [], ◌∷◌, ◌++◌, refl, sym, ◌∙◌, ap, subst, append_assoc, append-nil}
use Rattle.std.specs.Prelude.{Option, Some, None, if◌then◌else◌}
use Rattle.std.specs.Option.{option_and_then, option_map}
use Rattle.json_text.specs.Json.{Json, Members}
use Rattle.json_text.specs.Named.{named}
use Rattle.json_text.specs.Tree.{tree_of}
use Rattle.json_nodes.specs.At.{At, Found}
use Rattle.json_nodes.specs.Doc.{Doc, Holds}
use Rattle.json_nodes.specs.Same.{has_name}
use Rattle.capability_meet.specs.Answers.{IsRead}
use Rattle.capability_meet.specs.declared.spot.Spot.{Spot}
use Rattle.capability_meet.specs.Meet.{if_meets, meets}
use Rattle.capability_meet.specs.OnePass.{is_left_out, met_at, put, twin_at, whole_at}
use Rattle.capability_meet.specs.Parts.{comma, listed}
use Rattle.capability_meet.proofs.Pieces.{piece_put}

-- the members of the other object, and what is to come behind those that are met
pub record Beside : Type 0 where
  pub others : Members
  pub more : List (List ℕ)

-- what a member is met with

or_true : (a b : Bool) → b ≡ true → (a || b) ≡ true
or_true true b e = refl
or_true false b e = e

none_if : (e : Doc) (x : Bool) (o : Option Json) → x ≡ true → Found e (if x then None else o) None
none_if e x o h = subst (λ z. Found e (if z then None else o) None) (sym h) tt

rest_if : (e : Doc) (x : Bool) (o : Option Json) (r : Option ℕ) → x ≡ false → Found e o r → Found e (if x then None else o) r
rest_if e x o r h f = subst (λ z. Found e (if z then None else o) r) (sym h) f

turned : (l b : Bool) → l ≡ not b → b ≡ not l
turned true true h = cc
turned true false h = refl
turned false true h = refl
turned false false h = cc

pub twin_later : (e : Doc) (s : Spot) (cs : List ℕ) (u : Json) (ms ns : Members) (l : Bool) → l ≡ not (has_name cs ms) → l ≡ false → Found e (twin_at s cs u ms ns) None
twin_later e s cs u ms ns l f h = none_if e (has_name cs ms || is_left_out s cs) (if_meets u (named cs ns)) (ap (λ v. v || is_left_out s cs) (turned l (has_name cs ms) f ∙ ap not h))

pub twin_left_out : (e : Doc) (s : Spot) (cs : List ℕ) (u : Json) (ms ns : Members) (b : Bool) → b ≡ is_left_out s cs → b ≡ true → Found e (twin_at s cs u ms ns) None
twin_left_out e s cs u ms ns b f h = none_if e (has_name cs ms || is_left_out s cs) (if_meets u (named cs ns)) (or_true (has_name cs ms) (is_left_out s cs) (sym f ∙ h))

no_twin : (e : Doc) (u : Json) (o : Option Json) (r : Option ℕ) → Found e o r → r ≡ None → Found e (if_meets u o) None
no_twin e u None r f h = tt
no_twin e u (Some v) r f h = absurd (subst (λ z. Found e (Some v) z) h f)

a_twin : (e : Doc) (u : Json) (o : Option Json) (r answer : Option ℕ) (n : ℕ) → Found e o r → r ≡ Some n → ((v : Json) → At e n v → Found e (if_meets u (Some v)) answer) → Found e (if_meets u o) answer
a_twin e u None r answer n f h g = absurd (subst (λ z. Found e None z) h f)
a_twin e u (Some v) r answer n f h g = g v (subst (λ z. Found e (Some v) z) h f)

stays : (s : Spot) (cs : List ℕ) (ms : Members) (l b : Bool) → l ≡ not (has_name cs ms) → l ≡ true → b ≡ is_left_out s cs → b ≡ false → (has_name cs ms || is_left_out s cs) ≡ false
stays s cs ms l b f h g k = ap (λ v. v || is_left_out s cs) (turned l (has_name cs ms) f ∙ ap not h) ∙ sym g ∙ k

pub twin_none : (e : Doc) (s : Spot) (cs : List ℕ) (u : Json) (ms ns : Members) (l : Bool) (r : Option ℕ) (b : Bool) → l ≡ not (has_name cs ms) → l ≡ true → b ≡ is_left_out s cs → b ≡ false → Found e (named cs ns) r → r ≡ None → Found e (twin_at s cs u ms ns) None
twin_none e s cs u ms ns l r b f h g k t is = rest_if e (has_name cs ms || is_left_out s cs) (if_meets u (named cs ns)) None (stays s cs ms l b f h g k) (no_twin e u (named cs ns) r t is)

pub twin_some : (e : Doc) (s : Spot) (cs : List ℕ) (u : Json) (ms ns : Members) (l : Bool) (r answer : Option ℕ) (n : ℕ) (b : Bool) → l ≡ not (has_name cs ms) → l ≡ true → b ≡ is_left_out s cs → b ≡ false → Found e (named cs ns) r → r ≡ Some n
    → ((v : Json) → At e n v → Found e (if_meets u (Some v)) answer) → Found e (twin_at s cs u ms ns) answer
twin_some e s cs u ms ns l r answer n b f h g k t is m = rest_if e (has_name cs ms || is_left_out s cs) (if_meets u (named cs ns)) answer (stays s cs ms l b f h g k) (a_twin e u (named cs ns) r answer n t is m)

pub met_so : (e : Doc) (t u : Json) (n : ℕ) (b : Bool) → At e n u → b ≡ meets t u → b ≡ true → Found e (if_meets t (Some u)) (Some n)
met_so e t u n b a f h = subst (λ z. Found e (if z then Some u else None) (Some n)) (sym h ∙ f) a

pub not_met : (e : Doc) (t u : Json) (b : Bool) → b ≡ meets t u → b ≡ false → Found e (if_meets t (Some u)) None
not_met e t u b f h = subst (λ z. Found e (if z then Some u else None) None) (sym h ∙ f) tt

-- found or not

pub found_none : (e : Doc) (o : Option Json) (r : Option ℕ) → Found e o r → r ≡ None → o ≡ None
found_none e None r f h = refl
found_none e (Some v) r f h = absurd (subst (λ z. Found e (Some v) z) h f)

pub found_value : (e : Doc) (o : Option Json) (r : Option ℕ) (n : ℕ) → Found e o r → r ≡ Some n → (k : Json) × (o ≡ Some k) × At e n k
found_value e None r n f h = absurd (subst (λ z. Found e None z) h f)
found_value e (Some v) r n f h = (v, refl, subst (λ z. Found e (Some v) z) h f)

met_of : (u k : Json) (o : Option Json) → if_meets u o ≡ Some k → meets u k ≡ true
met_of u k None h = absurd (cc)
met_of u k (Some v) h = go (meets u v) refl h
  where
    go : (b : Bool) → meets u v ≡ b → (if b then Some v else None) ≡ Some k → meets u k ≡ true
    go true e h = let same : v ≡ k = cc in subst (λ (z : Json). meets u z ≡ true) same e
    go false e h = absurd (cc)

pub twin_meets : (s : Spot) (cs : List ℕ) (u k : Json) (ms ns : Members) → twin_at s cs u ms ns ≡ Some k → meets u k ≡ true
twin_meets s cs u k ms ns h = go (has_name cs ms || is_left_out s cs) h
  where
    go : (b : Bool) → (if b then None else if_meets u (named cs ns)) ≡ Some k → meets u k ≡ true
    go true h = absurd (cc)
    go false h = met_of u k (named cs ns) h

-- pieces that are kept or not

pub pair_skipped : (out : List ℕ) (f : Json → List ℕ) (xs more : List (List ℕ)) (started : Bool) (o : Option Json) → o ≡ None → out ++ listed started (xs ++ more) ≡ out ++ listed started (put o f xs ++ more)
pair_skipped out f xs more started o e = ap (λ z. out ++ listed started (put z f xs ++ more)) (sym e)

pub pair_put : (before first second last name text : List ℕ) (f : Json → List ℕ) (xs more : List (List ℕ)) (started : Bool) (o : Option Json) (k : Json) → o ≡ Some k → first ≡ before ++ comma started → second ≡ (first ++ name) ++ (58 ∷ []) → last ≡ second ++ text
    → f k ≡ name ++ (58 ∷ text) → last ++ listed true (xs ++ more) ≡ before ++ listed started (put o f xs ++ more)
pair_put before first second last name text f xs more started o k e a b c g =
    piece_put before first last (f k) (name ++ (58 ∷ text)) (xs ++ more) started a (c ∙ ap (λ z. z ++ text) b ∙ append_assoc (first ++ name) (58 ∷ []) text ∙ append_assoc first name (58 ∷ text)) (sym g)
    ∙ ap (λ z. before ++ listed started (put z f xs ++ more)) (sym e)

pub item_kept : (before middle after x y : List ℕ) (xs : List (List ℕ)) (started b c : Bool) → b ≡ c → b ≡ true → middle ≡ before ++ comma started → after ≡ middle ++ y → y ≡ x → after ++ listed true xs ≡ before ++ listed started (if c then (x ∷ xs) else xs)
item_kept before middle after x y xs started b c e h m a g = piece_put before middle after x y xs started m a g ∙ ap (λ z. before ++ listed started (if z then (x ∷ xs) else xs)) (sym h ∙ e)

pub item_dropped : (out x : List ℕ) (xs : List (List ℕ)) (started b c : Bool) → b ≡ c → b ≡ false → out ++ listed started xs ≡ out ++ listed started (if c then (x ∷ xs) else xs)
item_dropped out x xs started b c e h = ap (λ z. out ++ listed started (if z then (x ∷ xs) else xs)) (sym h ∙ e)

-- between brackets or braces
pub wrapped : (before first second inside : List ℕ) (x y : ℕ) → first ≡ before ++ x ∷ [] → second ≡ first ++ inside → second ++ y ∷ [] ≡ before ++ x ∷ (inside ++ y ∷ [])
wrapped before first second inside x y e f = ap (λ z. z ++ y ∷ []) (f ∙ ap (λ z. z ++ inside) e) ∙ append_assoc (before ++ x ∷ []) inside (y ∷ []) ∙ append_assoc before (x ∷ []) (inside ++ y ∷ [])

-- what has to be there
pub required_none : (out : List ℕ) (xs : List (List ℕ)) (started b c : Bool) → b ≡ c → b ≡ true → out ≡ out ++ listed started (if c then [] else xs)
required_none out xs started b c e h = sym (append-nil out) ∙ ap (λ z. out ++ listed started (if z then [] else xs)) (sym h ∙ e)

pub required_put : (before middle x : List ℕ) (started b c : Bool) → b ≡ c → b ≡ false → middle ≡ before ++ comma started → middle ++ x ≡ before ++ listed started (if c then [] else (x ∷ []))
required_put before middle x started b c e h m = ap (λ z. z ++ x) m ∙ append_assoc before (comma started) x ∙ ap (λ z. before ++ (comma started ++ z)) (sym (append-nil x)) ∙ ap (λ z. before ++ listed started (if z then [] else (x ∷ []))) (sym h ∙ e)

-- of two texts
pub meet_read : (l r d e : Doc) (a b : List ℕ) (x y : ℕ) (out body : List ℕ) (s : Spot) → IsRead l a → IsRead r b → d ≡ l → e ≡ r → ((j : Json) → Holds l j → At l x j) → ((j : Json) → Holds r j → At r y j)
    → ((t u : Json) → At d x t → At e y u → out ≡ whole_at d.bytes s t u) → body ≡ out → met_at s a b ≡ Some body
meet_read l r d e a b x y out body s p q f g first second told is =
    let t : At d x p.tree = subst (λ (z : Doc). At z x p.tree) (sym f) (first p.tree p.holds) in
    let u : At e y q.tree = subst (λ (z : Doc). At z y q.tree) (sym g) (second q.tree q.holds) in
    let same : d.bytes ≡ a = ap (λ (z : Doc). z.bytes) f ∙ p.same in
    ap (λ o. option_and_then (λ j. option_map (λ k. whole_at a s j k) (tree_of b)) o) p.is ∙ ap (λ o. option_map (λ k. whole_at a s p.tree k) o) q.is
    ∙ ap (λ z. Some z) (sym (is ∙ told p.tree q.tree t u ∙ ap (λ z. whole_at z s p.tree q.tree) same))
