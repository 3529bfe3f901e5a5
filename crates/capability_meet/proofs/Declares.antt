-- What is declared is the greatest of what is below both and doesn't offer what isn't declared, and has what is required.
use Rattle.std.proofs.Common.{◌≡◌, ℕ, Bool, true, false, List, refl, sym, ◌∙◌, ap, subst, codes}
use Rattle.std.specs.Prelude.{Option, Some, None, bytes_eq, if◌then◌else◌}
use Rattle.std.specs.Option.{is_some, option_map}
use Rattle.std.proofs.lemmas.Slice.Eq.{bytes_eq-Decides}
use Rattle.json_text.specs.Bare.{bare, bare_members, nowhere}
use Rattle.json_text.specs.declared.kind.Word.TheVariants as word_of
use Rattle.json_text.specs.declared.span.Span.{Span}
use Rattle.json_text.specs.Json.{Json, word, number, string, array, object, Members, no_members, member}
use Rattle.json_text.specs.Named.{if_named, named, named_in, or_else}
use Rattle.json_text.proofs.Put.{named_bare}
use Rattle.json_nodes.specs.Same.{has_name}
use Rattle.json_nodes.proofs.Spelling.{named_member, named_none}
use Rattle.capability_meet.specs.Bounds.{HasRequired, IsGreatest, IsGreatestDeclared, offers_no}
use Rattle.capability_meet.specs.DeclaredTree.{declared_tree, left_out, members_and, members_changed, members_with, members_without, on_members, put_back, with_cancel, with_support}
use Rattle.capability_meet.specs.Meet.{meets}
use Rattle.capability_meet.specs.MeetTree.{meet_tree}
use Rattle.capability_meet.specs.Order.{below, below_given, is_least}
use Rattle.capability_meet.proofs.Bares.{Alike, alike_bares, alike_self, alike_through}
use Rattle.capability_meet.proofs.BelowLaws.{below_self, below_through, least_below, members_complete, members_sound, same_bytes}
use Rattle.capability_meet.proofs.MeetLaws.{meet_below, meet_greatest}

-- members by their names

or_none : (o : Option Json) → or_else o None ≡ o
or_none None = refl
or_none (Some j) = refl

-- without a name

without_cons : (name cs ds : List ℕ) (p : Span) (j : Json) (ms : Members) (b c d : Bool) → bytes_eq name cs ≡ b → bytes_eq cs ds ≡ c → bytes_eq name ds ≡ d → named cs (members_without name ms) ≡ (if b then None else named cs ms)
    → named cs (if d then members_without name ms else member p ds j (members_without name ms)) ≡ (if b then None else named cs (member p ds j ms))
without_cons name cs ds p j ms true c true e f g h = h
without_cons name cs ds p j ms true true false e f g h =
    let is : cs ≡ ds = (bytes_eq-Decides cs ds).0 f in
    let again : bytes_eq name ds ≡ true = ap (λ z. bytes_eq name z) (sym is) ∙ e in absurd (cc)
without_cons name cs ds p j ms true false false e f g h = named_member cs ds p j (members_without name ms) ∙ ap (λ b. or_else (named cs (members_without name ms)) (if_named b j)) f ∙ or_none (named cs (members_without name ms)) ∙ h
without_cons name cs ds p j ms false true true e f g h =
    let is : cs ≡ ds = (bytes_eq-Decides cs ds).0 f in
    let again : bytes_eq name ds ≡ false = ap (λ z. bytes_eq name z) (sym is) ∙ e in absurd (cc)
without_cons name cs ds p j ms false false true e f g h = h ∙ sym (named_member cs ds p j ms ∙ ap (λ b. or_else (named cs ms) (if_named b j)) f ∙ or_none (named cs ms))
without_cons name cs ds p j ms false c false e f g h = named_member cs ds p j (members_without name ms) ∙ ap (λ o. or_else o (if_named (bytes_eq cs ds) j)) h ∙ sym (named_member cs ds p j ms)

pub named_without : (name cs : List ℕ) (ms : Members) → named cs (members_without name ms) ≡ (if bytes_eq name cs then None else named cs ms)
named_without name cs no_members = go (bytes_eq name cs)
  where
    go : (b : Bool) → named cs no_members ≡ (if b then None else named cs no_members)
    go true = named_none cs
    go false = refl
named_without name cs (member p ds j ms) = without_cons name cs ds p j ms (bytes_eq name cs) (bytes_eq cs ds) (bytes_eq name ds) refl refl refl (named_without name cs ms)

-- with values changed

changed_cons : (name cs ds : List ℕ) (p : Span) (f : Json → Json) (j : Json) (ms : Members) (b c : Bool) → bytes_eq name cs ≡ b → bytes_eq cs ds ≡ c → named cs (members_changed name f ms) ≡ (if b then option_map f (named cs ms) else named cs ms)
    → named cs (member p ds (if bytes_eq name ds then f j else j) (members_changed name f ms)) ≡ (if b then option_map f (named cs (member p ds j ms)) else named cs (member p ds j ms))
changed_cons name cs ds p f j ms b false e g h =
    named_member cs ds p (if bytes_eq name ds then f j else j) (members_changed name f ms) ∙ ap (λ b. or_else (named cs (members_changed name f ms)) (if_named b (if bytes_eq name ds then f j else j))) g ∙ or_none (named cs (members_changed name f ms)) ∙ h
    ∙ sym (ap (λ o. if b then option_map f o else o) (named_member cs ds p j ms ∙ ap (λ b. or_else (named cs ms) (if_named b j)) g ∙ or_none (named cs ms)))
changed_cons name cs ds p f j ms b true e g h =
    let is : cs ≡ ds = (bytes_eq-Decides cs ds).0 g in
    let test : bytes_eq name ds ≡ b = ap (λ z. bytes_eq name z) (sym is) ∙ e in
    named_member cs ds p (if bytes_eq name ds then f j else j) (members_changed name f ms) ∙ ap (λ b. or_else (named cs (members_changed name f ms)) (if_named b (if bytes_eq name ds then f j else j))) g
    ∙ ap (λ b. or_else (named cs (members_changed name f ms)) (Some (if b then f j else j))) test ∙ ap (λ o. or_else o (Some (if b then f j else j))) h ∙ by_test b (named cs ms)
    ∙ sym (ap (λ o. if b then option_map f o else o) (named_member cs ds p j ms ∙ ap (λ b. or_else (named cs ms) (if_named b j)) g))
  where
    by_test : (b : Bool) (o : Option Json) → or_else (if b then option_map f o else o) (Some (if b then f j else j)) ≡ (if b then option_map f (or_else o (Some j)) else or_else o (Some j))
    by_test true None = refl
    by_test true (Some k) = refl
    by_test false o = refl

pub named_changed : (name cs : List ℕ) (f : Json → Json) (ms : Members) → named cs (members_changed name f ms) ≡ (if bytes_eq name cs then option_map f (named cs ms) else named cs ms)
named_changed name cs f no_members = go (bytes_eq name cs)
  where
    go : (b : Bool) → named cs no_members ≡ (if b then option_map f (named cs no_members) else named cs no_members)
    go true = named_none cs ∙ sym (ap (λ o. option_map f o) (named_none cs))
    go false = refl
named_changed name cs f (member p ds j ms) = changed_cons name cs ds p f j ms (bytes_eq name cs) (bytes_eq cs ds) refl refl (named_changed name cs f ms)

-- with a member behind

pub named_and : (name cs : List ℕ) (ms : Members) → named cs (members_and name ms) ≡ (if bytes_eq cs name then Some (word nowhere word_of.False) else named cs ms)
named_and name cs no_members = named_member cs name nowhere (word nowhere word_of.False) no_members ∙ ap (λ o. or_else o (if_named (bytes_eq cs name) (word nowhere word_of.False))) (named_none cs) ∙ go (bytes_eq cs name)
  where
    go : (b : Bool) → if_named b (word nowhere word_of.False) ≡ (if b then Some (word nowhere word_of.False) else named cs no_members)
    go true = refl
    go false = sym (named_none cs)
named_and name cs (member p ds j ms) = named_member cs ds p j (members_and name ms) ∙ ap (λ o. or_else o (if_named (bytes_eq cs ds) j)) (named_and name cs ms) ∙ go (bytes_eq cs name)
  where
    go : (b : Bool) → or_else (if b then Some (word nowhere word_of.False) else named cs ms) (if_named (bytes_eq cs ds) j) ≡ (if b then Some (word nowhere word_of.False) else named cs (member p ds j ms))
    go true = refl
    go false = sym (named_member cs ds p j ms)

-- alike in the order

some_self : (i : Json) (o : Option Json) → o ≡ Some i → below_given (Some i) o ≡ true
some_self i o e = ap (λ p. below_given (Some i) p) e ∙ below_self i

changed_down : (f : Json → Json) → ((j : Json) → Alike (f j) j) → (i : Json) (o : Option Json) (b : Bool) → (if b then option_map f o else o) ≡ Some i → below_given (Some i) o ≡ true
changed_down f a i o false e = some_self i o e
changed_down f a i None true e = absurd (cc)
changed_down f a i (Some j) true e = let is : f j ≡ i = cc in subst (λ (z : Json). below z j ≡ true) is (a j).down

changed_up : (f : Json → Json) → ((j : Json) → Alike (f j) j) → (i : Json) (o : Option Json) (b : Bool) → o ≡ Some i → below_given (Some i) (if b then option_map f o else o) ≡ true
changed_up f a i o false e = some_self i o e
changed_up f a i None true e = absurd (cc)
changed_up f a i (Some j) true e = let is : j ≡ i = cc in subst (λ (z : Json). below z (f j) ≡ true) is (a j).up

abbrev AlikeMembers : Members → Members → Type 0
AlikeMembers ms ns = (s : Span) → Alike (object s ms) (object s ns)

changed_alike : (name : List ℕ) (f : Json → Json) → ((j : Json) → Alike (f j) j) → (ms : Members) → AlikeMembers (members_changed name f ms) ms
changed_alike name f a ms s = record {
  down = members_complete (members_changed name f ms) ms (λ cs i e. changed_down f a i (named cs ms) (bytes_eq name cs) (sym (named_changed name cs f ms) ∙ e));
  up = members_complete ms (members_changed name f ms) (λ cs i e. ap (λ o. below_given (Some i) o) (named_changed name cs f ms) ∙ changed_up f a i (named cs ms) (bytes_eq name cs) e);
}

and_down : (i : Json) (o : Option Json) (b : Bool) → (if b then Some (word nowhere word_of.False) else o) ≡ Some i → below_given (Some i) o ≡ true
and_down i o true e = let is : word nowhere word_of.False ≡ i = cc in least_below i o (ap is_least (sym is))
and_down i o false e = some_self i o e

and_up : (name cs : List ℕ) (ms : Members) (i : Json) (b : Bool) → bytes_eq cs name ≡ b → has_name name ms ≡ false → named cs ms ≡ Some i → below_given (Some i) (if b then Some (word nowhere word_of.False) else named cs ms) ≡ true
and_up name cs ms i false t h e = some_self i (named cs ms) e
and_up name cs ms i true t h e =
    let is : cs ≡ name = (bytes_eq-Decides cs name).0 t in
    let has : has_name name ms ≡ true = ap is_some (ap (λ z. named z ms) (sym is) ∙ e) in absurd (cc)

and_alike : (name : List ℕ) (ms : Members) → has_name name ms ≡ false → AlikeMembers (members_and name ms) ms
and_alike name ms h s = record {
  down = members_complete (members_and name ms) ms (λ cs i e. and_down i (named cs ms) (bytes_eq cs name) (sym (named_and name cs ms) ∙ e));
  up = members_complete ms (members_and name ms) (λ cs i e. ap (λ o. below_given (Some i) o) (named_and name cs ms) ∙ and_up name cs ms i (bytes_eq cs name) refl h e);
}

with_alike : (name : List ℕ) (ms : Members) → AlikeMembers (members_with name ms) ms
with_alike name ms s = go (has_name name ms) refl
  where
    go : (b : Bool) → has_name name ms ≡ b → Alike (object s (if b then ms else members_and name ms)) (object s ms)
    go true e = alike_self (object s ms)
    go false e = and_alike name ms e s

on_alike : (f : Members → Members) → ((ms : Members) → AlikeMembers (f ms) ms) → (j : Json) → Alike (on_members f j) j
on_alike f a (object s ms) = a ms s
on_alike f a (word s w) = alike_self (word s w)
on_alike f a (number s ds) = alike_self (number s ds)
on_alike f a (string s cs) = alike_self (string s cs)
on_alike f a (array s js) = alike_self (array s js)

required_alike : (inner name : List ℕ) (j : Json) → Alike (on_members (λ ms. members_changed inner (λ k. on_members (λ ns. members_with name ns) k) ms) j) j
required_alike inner name j = on_alike (λ ms. members_changed inner (λ k. on_members (λ ns. members_with name ns) k) ms)
    (λ ms. changed_alike inner (λ k. on_members (λ ns. members_with name ns) k) (λ k. on_alike (λ ns. members_with name ns) (λ ns. with_alike name ns) k) ms) j

both_changed : (ms : Members) → AlikeMembers (members_changed (codes "general") (λ k. with_cancel k) (members_changed (codes "window") (λ k. with_support k) ms)) ms
both_changed ms s = alike_through (object s (members_changed (codes "general") (λ k. with_cancel k) (members_changed (codes "window") (λ k. with_support k) ms))) (object s (members_changed (codes "window") (λ k. with_support k) ms)) (object s ms)
    (changed_alike (codes "general") (λ k. with_cancel k) (λ k. required_alike (codes "staleRequestSupport") (codes "cancel") k) (members_changed (codes "window") (λ k. with_support k) ms) s)
    (changed_alike (codes "window") (λ k. with_support k) (λ k. required_alike (codes "showDocument") (codes "support") k) ms s)

back_alike : (j : Json) → Alike (put_back j) j
back_alike j = on_alike (λ ms. members_changed (codes "general") (λ k. with_cancel k) (members_changed (codes "window") (λ k. with_support k) ms)) both_changed j

-- what is left out

without_down : (i : Json) (o : Option Json) (b : Bool) → (if b then None else o) ≡ Some i → below_given (Some i) o ≡ true
without_down i o true e = absurd (cc)
without_down i o false e = some_self i o e

without_below : (name : List ℕ) (s : Span) (ms : Members) → below (object s (members_without name ms)) (object s ms) ≡ true
without_below name s ms = members_complete (members_without name ms) ms (λ cs i e. without_down i (named cs ms) (bytes_eq name cs) (sym (named_without name cs ms) ∙ e))

on_below : (f : Members → Members) → ((s : Span) (ms : Members) → below (object s (f ms)) (object s ms) ≡ true) → (j : Json) → below (on_members f j) j ≡ true
on_below f a (object s ms) = a s ms
on_below f a (word s w) = below_self (word s w)
on_below f a (number s ds) = below_self (number s ds)
on_below f a (string s cs) = below_self (string s cs)
on_below f a (array s js) = below_self (array s js)

left_below : (j : Json) → below (left_out j) j ≡ true
left_below j = on_below (λ ms. members_without (codes "offsetEncoding") (members_without (codes "notebookDocument") ms))
    (λ s ms. below_through (object s (members_without (codes "offsetEncoding") (members_without (codes "notebookDocument") ms))) (object s (members_without (codes "notebookDocument") ms)) (object s ms)
    (without_below (codes "offsetEncoding") s (members_without (codes "notebookDocument") ms)) (without_below (codes "notebookDocument") s ms)) j

-- all that doesn't offer it stays below

kept_given : (name cs : List ℕ) (i : Json) (ls ms : Members) (b : Bool) → bytes_eq name cs ≡ b → named cs ls ≡ Some i → below_given (named name ls) None ≡ true → below_given (Some i) (named cs ms) ≡ true → below_given (Some i) (if b then None else named cs ms) ≡ true
kept_given name cs i ls ms false t e n h = h
kept_given name cs i ls ms true t e n h = let is : name ≡ cs = (bytes_eq-Decides name cs).0 t in ap (λ o. below_given o None) (sym (ap (λ z. named z ls) is ∙ e)) ∙ n

without_greatest : (name : List ℕ) (ls ms : Members) (s r : Span) → below_given (named name ls) None ≡ true → below (object s ls) (object r ms) ≡ true → below (object s ls) (object r (members_without name ms)) ≡ true
without_greatest name ls ms s r n h = members_complete ls (members_without name ms) (λ cs i e. ap (λ o. below_given (Some i) o) (named_without name cs ms) ∙ kept_given name cs i ls ms (bytes_eq name cs) refl e n (members_sound ls ms h cs i e))

abbrev KeepsBelow : (Members → Members) → Json → Type 0
KeepsBelow f x = (r : Span) (ms : Members) → below x (object r ms) ≡ true → below x (object r (f ms)) ≡ true

on_greatest : (f : Members → Members) (x : Json) → KeepsBelow f x → (j : Json) → below x j ≡ true → below x (on_members f j) ≡ true
on_greatest f x g (object s ms) h = g s ms h
on_greatest f x g (word s w) h = h
on_greatest f x g (number s ds) h = h
on_greatest f x g (string s cs) h = h
on_greatest f x g (array s js) h = h

left_keeps : (x : Json) → offers_no (codes "notebookDocument") x ≡ true → offers_no (codes "offsetEncoding") x ≡ true → KeepsBelow (λ ms. members_without (codes "offsetEncoding") (members_without (codes "notebookDocument") ms)) x
left_keeps (object s ls) n o r ms h = without_greatest (codes "offsetEncoding") ls (members_without (codes "notebookDocument") ms) s r o (without_greatest (codes "notebookDocument") ls ms s r n h)
left_keeps (word s word_of.Null) n o r ms h = refl
left_keeps (word s word_of.False) n o r ms h = refl
left_keeps (word s word_of.True) n o r ms h = h
left_keeps (number s ds) n o r ms h = h
left_keeps (string s cs) n o r ms h = h
left_keeps (array s js) n o r ms h = h

left_greatest : (x j : Json) → offers_no (codes "notebookDocument") x ≡ true → offers_no (codes "offsetEncoding") x ≡ true → below x j ≡ true → below x (left_out j) ≡ true
left_greatest x j n o h = on_greatest (λ ms. members_without (codes "offsetEncoding") (members_without (codes "notebookDocument") ms)) x (left_keeps x n o) j h

-- what isn't there

changed_none : (name cs : List ℕ) (f : Json → Json) (ms : Members) → named cs ms ≡ None → named cs (members_changed name f ms) ≡ None
changed_none name cs f ms h = named_changed name cs f ms ∙ ap (λ o. if bytes_eq name cs then option_map f o else o) h ∙ go (bytes_eq name cs)
  where
    go : (b : Bool) → ◌≡◌ {A = Option Json} (if b then None else None) None
    go true = refl
    go false = refl

no_notebooks : (ms : Members) → named (codes "notebookDocument") (members_without (codes "offsetEncoding") (members_without (codes "notebookDocument") ms)) ≡ None
no_notebooks ms = named_without (codes "offsetEncoding") (codes "notebookDocument") (members_without (codes "notebookDocument") ms) ∙ named_without (codes "notebookDocument") (codes "notebookDocument") ms

no_encoding : (ms : Members) → named (codes "offsetEncoding") (members_without (codes "offsetEncoding") ms) ≡ None
no_encoding ms = named_without (codes "offsetEncoding") (codes "offsetEncoding") ms

declared_lacks : (name : List ℕ) → ((ms : Members) → named name (members_without (codes "offsetEncoding") (members_without (codes "notebookDocument") ms)) ≡ None) → (j : Json) → named_in name (put_back (left_out j)) ≡ None
declared_lacks name f (object s ms) = changed_none (codes "general") name (λ k. with_cancel k) _ (changed_none (codes "window") name (λ k. with_support k) _ (f ms))
declared_lacks name f (word s w) = refl
declared_lacks name f (number s ds) = refl
declared_lacks name f (string s cs) = refl
declared_lacks name f (array s js) = refl

-- by the places of the text's own tree

bare_none : (o p : Option Json) → option_map bare o ≡ option_map bare p → p ≡ None → o ≡ None
bare_none None p e h = refl
bare_none (Some j) None e h = absurd (cc)
bare_none (Some j) (Some k) e h = absurd (cc)

named_bares : (name : List ℕ) (j k : Json) → bare j ≡ bare k → option_map bare (named_in name j) ≡ option_map bare (named_in name k)
named_bares name j k e = sym (in_bare name j) ∙ ap (λ z. named_in name z) e ∙ in_bare name k
  where
    in_bare : (name : List ℕ) (j : Json) → named_in name (bare j) ≡ option_map bare (named_in name j)
    in_bare name (object s ms) = named_bare name ms
    in_bare name (word s w) = refl
    in_bare name (number s ds) = refl
    in_bare name (string s cs) = refl
    in_bare name (array s js) = refl

under_met : (x j k : Json) (b : Bool) → is_least x ≡ b → below x j ≡ true → below x k ≡ true → below x (meet_tree j k) ≡ true
under_met x j k true e f g = least_below x (Some (meet_tree j k)) e
under_met x j k false e f g = (meet_greatest x j k f g e).1

pub declared_greatest : (j k m : Json) → meets j k ≡ true → bare m ≡ bare (declared_tree j k) → IsGreatestDeclared j k m
declared_greatest j k m h e =
    let a : Alike m (left_out (meet_tree j k)) = alike_through m (declared_tree j k) (left_out (meet_tree j k)) (alike_bares m (declared_tree j k) e) (back_alike (left_out (meet_tree j k))) in
    let d : below m (meet_tree j k) ≡ true = below_through m (left_out (meet_tree j k)) (meet_tree j k) a.down (left_below (meet_tree j k)) in
    let b : (below (meet_tree j k) j ≡ true) × (below (meet_tree j k) k ≡ true) = meet_below j k h in
    record {
      first = below_through m (meet_tree j k) j d b.0;
      second = below_through m (meet_tree j k) k d b.1;
      no_notebooks = bare_none (named_in (codes "notebookDocument") m) (named_in (codes "notebookDocument") (declared_tree j k)) (named_bares (codes "notebookDocument") m (declared_tree j k) e) (declared_lacks (codes "notebookDocument") no_notebooks (meet_tree j k));
      no_encoding = bare_none (named_in (codes "offsetEncoding") m) (named_in (codes "offsetEncoding") (declared_tree j k)) (named_bares (codes "offsetEncoding") m (declared_tree j k) e) (declared_lacks (codes "offsetEncoding") (λ ms. no_encoding (members_without (codes "notebookDocument") ms)) (meet_tree j k));
      greatest = λ x f g n o. below_through x (left_out (meet_tree j k)) m (left_greatest x (meet_tree j k) n o (under_met x j k (is_least x) refl f g)) a.up;
    }

pub met_greatest : (j k m : Json) → meets j k ≡ true → bare m ≡ bare (meet_tree j k) → IsGreatest j k m
met_greatest j k m h e =
    let a : Alike m (meet_tree j k) = alike_bares m (meet_tree j k) e in
    let b : (below (meet_tree j k) j ≡ true) × (below (meet_tree j k) k ≡ true) = meet_below j k h in
    record {
      first = below_through m (meet_tree j k) j a.down b.0;
      second = below_through m (meet_tree j k) k a.down b.1;
      greatest = λ x f g. below_through x (meet_tree j k) m (under_met x j k (is_least x) refl f g) a.up;
    }

-- what is required is there

with_has : (name : List ℕ) (ms : Members) → has_name name (members_with name ms) ≡ true
with_has name ms = go (has_name name ms) refl
  where
    go : (b : Bool) → has_name name ms ≡ b → has_name name (if b then ms else members_and name ms) ≡ true
    go true e = e
    go false e = ap is_some (named_and name name ms ∙ ap (λ b. if b then Some (word nowhere word_of.False) else named name ms) (same_bytes name))

some_map : (o : Option Json) → is_some (option_map bare o) ≡ is_some o
some_map None = refl
some_map (Some j) = refl

has_bares : (name : List ℕ) (ms ns : Members) → bare_members ms ≡ bare_members ns → has_name name ms ≡ has_name name ns
has_bares name ms ns e = sym (some_map (named name ms)) ∙ ap is_some (sym (named_bare name ms)) ∙ ap (λ z. is_some (named name z)) e ∙ ap is_some (named_bare name ns) ∙ some_map (named name ns)

bared_members : (s r : Span) (ms ns : Members) → bare (object s ms) ≡ bare (object r ns) → bare_members ms ≡ bare_members ns
bared_members s r ms ns e = cc

abbrev filled : List ℕ → Json → Json
filled name k = on_members (λ ns. members_with name ns) k

abbrev Required : List ℕ → List ℕ → Json → Json
Required inner name j = on_members (λ ms. members_changed inner (λ k. filled name k) ms) j

filled_has : (name : List ℕ) (s : Span) (ms : Members) (u : Json) → bare (object s ms) ≡ bare (filled name u) → has_name name ms ≡ true
filled_has name s ms (object r us) e = has_bares name ms (members_with name us) (bared_members s r ms (members_with name us) e) ∙ with_has name us
filled_has name s ms (word r w) e = absurd (cc)
filled_has name s ms (number r ds) e = absurd (cc)
filled_has name s ms (string r cs) e = absurd (cc)
filled_has name s ms (array r js) e = absurd (cc)

found_has : (name : List ℕ) (s : Span) (ms : Members) (o : Option Json) → Some (bare (object s ms)) ≡ option_map bare (option_map (λ k. filled name k) o) → has_name name ms ≡ true
found_has name s ms None e = absurd (cc)
found_has name s ms (Some u) e = let is : bare (object s ms) ≡ bare (filled name u) = cc in filled_has name s ms u is

inner_named : (inner name : List ℕ) (vs : Members) → named inner (members_changed inner (λ k. filled name k) vs) ≡ option_map (λ k. filled name k) (named inner vs)
inner_named inner name vs = named_changed inner inner (λ k. filled name k) vs ∙ ap (λ b. if b then option_map (λ k. filled name k) (named inner vs) else named inner vs) (same_bytes inner)

none_found : (s : Span) (ms : Members) (name : List ℕ) → Some (bare (object s ms)) ≡ option_map bare None → has_name name ms ≡ true
none_found s ms name e = absurd (cc)

inner_has : (inner name : List ℕ) (w v : Json) (s : Span) (ms : Members) → bare w ≡ bare (Required inner name v) → named_in inner w ≡ Some (object s ms) → has_name name ms ≡ true
inner_has inner name w (object r vs) s ms e h = found_has name s ms (named inner vs) (sym (ap (λ o. option_map bare o) h) ∙ named_bares inner w (Required inner name (object r vs)) e ∙ ap (λ o. option_map bare o) (inner_named inner name vs))
inner_has inner name w (word r x) s ms e h = none_found s ms name (sym (ap (λ o. option_map bare o) h) ∙ named_bares inner w (word r x) e)
inner_has inner name w (number r ds) s ms e h = none_found s ms name (sym (ap (λ o. option_map bare o) h) ∙ named_bares inner w (number r ds) e)
inner_has inner name w (string r cs) s ms e h = none_found s ms name (sym (ap (λ o. option_map bare o) h) ∙ named_bares inner w (string r cs) e)
inner_has inner name w (array r js) s ms e h = none_found s ms name (sym (ap (λ o. option_map bare o) h) ∙ named_bares inner w (array r js) e)

outer_has : (inner name : List ℕ) (w : Json) (o : Option Json) (s : Span) (ms : Members) → Some (bare w) ≡ option_map bare (option_map (λ k. Required inner name k) o) → named_in inner w ≡ Some (object s ms) → has_name name ms ≡ true
outer_has inner name w None s ms e h = absurd (cc)
outer_has inner name w (Some v) s ms e h = let is : bare w ≡ bare (Required inner name v) = cc in inner_has inner name w v s ms is h

window_named : (ms : Members) → named (codes "window") (members_changed (codes "general") (λ k. with_cancel k) (members_changed (codes "window") (λ k. with_support k) ms)) ≡ option_map (λ k. with_support k) (named (codes "window") ms)
window_named ms = named_changed (codes "general") (codes "window") (λ k. with_cancel k) (members_changed (codes "window") (λ k. with_support k) ms) ∙ named_changed (codes "window") (codes "window") (λ k. with_support k) ms

general_named : (ms : Members) → named (codes "general") (members_changed (codes "general") (λ k. with_cancel k) (members_changed (codes "window") (λ k. with_support k) ms)) ≡ option_map (λ k. with_cancel k) (named (codes "general") ms)
general_named ms = named_changed (codes "general") (codes "general") (λ k. with_cancel k) (members_changed (codes "window") (λ k. with_support k) ms) ∙ ap (λ o. option_map (λ k. with_cancel k) o) (named_changed (codes "window") (codes "general") (λ k. with_support k) ms)

back_named : (outer : List ℕ) (f : Json → Json) → ((ms : Members) → named outer (members_changed (codes "general") (λ k. with_cancel k) (members_changed (codes "window") (λ k. with_support k) ms)) ≡ option_map f (named outer ms)) → (j : Json) → named_in outer (put_back j) ≡ option_map f (named_in outer j)
back_named outer f g (object s ms) = g ms
back_named outer f g (word s w) = refl
back_named outer f g (number s ds) = refl
back_named outer f g (string s cs) = refl
back_named outer f g (array s js) = refl

pub declared_required : (j k m : Json) → bare m ≡ bare (declared_tree j k) → HasRequired m
declared_required j k m e = record {
  support = λ w s ms h g. outer_has (codes "showDocument") (codes "support") w (named_in (codes "window") (left_out (meet_tree j k))) s ms
      (sym (ap (λ o. option_map bare o) h) ∙ named_bares (codes "window") m (declared_tree j k) e ∙ ap (λ o. option_map bare o) (back_named (codes "window") (λ l. with_support l) window_named (left_out (meet_tree j k)))) g;
  cancel = λ w s ms h g. outer_has (codes "staleRequestSupport") (codes "cancel") w (named_in (codes "general") (left_out (meet_tree j k))) s ms
      (sym (ap (λ o. option_map bare o) h) ∙ named_bares (codes "general") m (declared_tree j k) e ∙ ap (λ o. option_map bare o) (back_named (codes "general") (λ l. with_cancel l) general_named (left_out (meet_tree j k)))) g;
}
