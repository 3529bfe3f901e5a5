-- What two values have in common is the greatest of what is below both.
use Rattle.std.proofs.Common.{◌≡◌, ℕ, Bool, true, false, ◌||◌, List, refl, sym, ◌∙◌, ap, subst}
use Rattle.std.specs.Prelude.{Option, Some, None, bytes_eq, if◌then◌else◌}
use Rattle.std.specs.Option.{is_some, option_map}
use Rattle.std.proofs.lemmas.Slice.Eq.{bytes_eq-Decides}
use Rattle.json_text.specs.declared.kind.Word.{Word}
use Rattle.json_text.specs.declared.kind.Word.TheVariants as word_of
use Rattle.json_text.specs.declared.span.Span.{Span}
use Rattle.json_text.specs.Json.{Json, word, number, string, array, object, Items, no_items, item, Members, no_members, member}
use Rattle.json_text.specs.Named.{named, if_named, or_else}
use Rattle.json_nodes.specs.Same.{same, is_number, is_string}
use Rattle.json_nodes.proofs.Spelling.{named_member, named_none}
use Rattle.capability_meet.specs.Meet.{if_meets, meets, twin}
use Rattle.capability_meet.specs.MeetTree.{common_items, common_members, meet_tree, put_member}
use Rattle.capability_meet.specs.Order.{below, below_given, is_among, is_least, items_below}
use Rattle.capability_meet.proofs.BelowLaws.{Twin, among_at, items_complete, items_sound, least_below, members_complete, members_sound, or_right, or_true, same_bytes, twin_of}
use Rattle.json_nodes.proofs.Induction.{MembersHave, Steps, every}
use Rattle.json_nodes.proofs.SameLaws.{same_self, same_through}
use Rattle.json_nodes.proofs.SameTurned.{same_turned}

-- items

among_kept : (i j : Json) (rest : Items) (b : Bool) → is_among i rest ≡ true → is_among i (if b then item j rest else rest) ≡ true
among_kept i j rest true h = or_true (same i j) (is_among i rest) h
among_kept i j rest false h = h

among_here : (i j : Json) (rest : Items) (b : Bool) → b ≡ true → same i j ≡ true → is_among i (if b then item j rest else rest) ≡ true
among_here i j rest true e h = ap (λ v. v || is_among i rest) h
among_here i j rest false e h = absurd (cc)

-- what says the same as a value is where this is
among_turned : (i j : Json) (ks : Items) → same i j ≡ true → is_among i ks ≡ true → is_among j ks ≡ true
among_turned i j ks h g =
    let t : Twin i ks = twin_of i ks g in
    among_at ks t.place j t.twin t.there (same_through j i t.twin (same_turned i j h) t.says)

common_first : (i j : Json) (js ks rest : Items) (b : Bool) → same i j ≡ b → (is_among i js ≡ true → is_among i rest ≡ true) → is_among i (item j js) ≡ true → is_among i ks ≡ true → is_among i (if is_among j ks then item j rest else rest) ≡ true
common_first i j js ks rest true e f h g = among_here i j rest (is_among j ks) (among_turned i j ks e g) e
common_first i j js ks rest false e f h g = among_kept i j rest (is_among j ks) (f (or_right (same i j) (is_among i js) h e))

common_among : (i : Json) (js ks : Items) → is_among i js ≡ true → is_among i ks ≡ true → is_among i (common_items js ks) ≡ true
common_among i no_items ks h g = h
common_among i (item j js) ks h g = common_first i j js ks (common_items js ks) (same i j) refl (λ m. common_among i js ks m g) h g

either : (i j : Json) (js rest : Items) (b : Bool) → same i j ≡ b → (is_among i rest ≡ true → is_among i js ≡ true) → is_among i (item j rest) ≡ true → is_among i (item j js) ≡ true
either i j js rest true e f h = ap (λ v. v || is_among i js) e
either i j js rest false e f h = or_true (same i j) (is_among i js) (f (or_right (same i j) (is_among i rest) h e))

among_first : (i j : Json) (js rest : Items) (b : Bool) → (is_among i rest ≡ true → is_among i js ≡ true) → is_among i (if b then item j rest else rest) ≡ true → is_among i (item j js) ≡ true
among_first i j js rest false f h = or_true (same i j) (is_among i js) (f h)
among_first i j js rest true f h = either i j js rest (same i j) refl f h

common_left : (i : Json) (js ks : Items) → is_among i (common_items js ks) ≡ true → is_among i js ≡ true
common_left i no_items ks h = h
common_left i (item j js) ks h = among_first i j js (common_items js ks) (is_among j ks) (λ g. common_left i js ks g) h

items_kept : (j : Json) (ks rest : Items) (b : Bool) → is_among j ks ≡ b → items_below rest ks ≡ true → items_below (if b then item j rest else rest) ks ≡ true
items_kept j ks rest true e h = rw (e, h) refl
items_kept j ks rest false e h = h

common_right : (js ks : Items) → items_below (common_items js ks) ks ≡ true
common_right no_items ks = refl
common_right (item j js) ks = items_kept j ks (common_items js ks) (is_among j ks) refl (common_right js ks)

-- members by their names

-- what two objects have in common under a name
abbrev pub common : Option Json → Option Json → Option Json
common None q = None
common (Some j) q = option_map (λ k. meet_tree j k) (if_meets j q)

or_none : (o : Option Json) → or_else o None ≡ o
or_none None = refl
or_none (Some j) = refl

put_here : (p : Span) (cs ds : List ℕ) (o : Option Json) (rest : Members) → bytes_eq cs ds ≡ true → named cs (put_member p ds o rest) ≡ or_else (named cs rest) o
put_here p cs ds None rest e = sym (or_none (named cs rest))
put_here p cs ds (Some j) rest e = named_member cs ds p j rest ∙ ap (λ b. or_else (named cs rest) (if_named b j)) e

put_there : (p : Span) (cs ds : List ℕ) (o : Option Json) (rest : Members) → bytes_eq cs ds ≡ false → named cs (put_member p ds o rest) ≡ named cs rest
put_there p cs ds None rest e = refl
put_there p cs ds (Some j) rest e = named_member cs ds p j rest ∙ ap (λ b. or_else (named cs rest) (if_named b j)) e ∙ or_none (named cs rest)

same_name : (j : Json) (o q : Option Json) → or_else (common o q) (option_map (λ k. meet_tree j k) (if (is_some o) then None else if_meets j q)) ≡ common (or_else o (Some j)) q
same_name j None q = refl
same_name j (Some i) q = or_none (common (Some i) q)

step_here : (p : Span) (cs ds : List ℕ) (j : Json) (ms ns : Members) → bytes_eq cs ds ≡ true → cs ≡ ds → named cs (common_members ms ns) ≡ common (named cs ms) (named cs ns) → named cs (common_members (member p ds j ms) ns) ≡ common (named cs (member p ds j ms)) (named cs ns)
step_here p cs ds j ms ns e same h =
    let put : named cs (common_members (member p ds j ms) ns) ≡ or_else (named cs (common_members ms ns)) (option_map (λ k. meet_tree j k) (twin ds j ms ns)) = put_here p cs ds (option_map (λ k. meet_tree j k) (twin ds j ms ns)) (common_members ms ns) e in
    let mine : named cs (member p ds j ms) ≡ or_else (named cs ms) (Some j) = named_member cs ds p j ms ∙ ap (λ b. or_else (named cs ms) (if_named b j)) e in
    put ∙ ap (λ o. or_else o (option_map (λ k. meet_tree j k) (twin ds j ms ns))) h
    ∙ ap (λ (xs : List ℕ). or_else (common (named cs ms) (named cs ns)) (option_map (λ k. meet_tree j k) (twin xs j ms ns))) (sym same)
    ∙ same_name j (named cs ms) (named cs ns) ∙ ap (λ o. common o (named cs ns)) (sym mine)

step_there : (p : Span) (cs ds : List ℕ) (j : Json) (ms ns : Members) → bytes_eq cs ds ≡ false → named cs (common_members ms ns) ≡ common (named cs ms) (named cs ns) → named cs (common_members (member p ds j ms) ns) ≡ common (named cs (member p ds j ms)) (named cs ns)
step_there p cs ds j ms ns e h =
    let mine : named cs (member p ds j ms) ≡ named cs ms = named_member cs ds p j ms ∙ ap (λ b. or_else (named cs ms) (if_named b j)) e ∙ or_none (named cs ms) in
    put_there p cs ds (option_map (λ k. meet_tree j k) (twin ds j ms ns)) (common_members ms ns) e ∙ h ∙ ap (λ o. common o (named cs ns)) (sym mine)

step : (p : Span) (cs ds : List ℕ) (j : Json) (ms ns : Members) (b : Bool) → bytes_eq cs ds ≡ b → named cs (common_members ms ns) ≡ common (named cs ms) (named cs ns) → named cs (common_members (member p ds j ms) ns) ≡ common (named cs (member p ds j ms)) (named cs ns)
step p cs ds j ms ns true e h = step_here p cs ds j ms ns e ((bytes_eq-Decides cs ds).0 e) h
step p cs ds j ms ns false e h = step_there p cs ds j ms ns e h

pub common_named : (cs : List ℕ) (ms ns : Members) → named cs (common_members ms ns) ≡ common (named cs ms) (named cs ns)
common_named cs no_members ns = named_none cs ∙ ap (λ o. common o (named cs ns)) (sym (named_none cs))
common_named cs (member p ds j ms) ns = step p cs ds j ms ns (bytes_eq cs ds) refl (common_named cs ms ns)

-- below both

abbrev Both : Json → Type 0
Both j = (k : Json) → meets j k ≡ true → (below (meet_tree j k) j ≡ true) × (below (meet_tree j k) k ≡ true)

word_both : (s : Span) (w : Word) → Both (word s w)
word_both s word_of.Null k h = absurd (cc)
word_both s word_of.False k h = absurd (cc)
word_both s word_of.True k h = (refl, h)

array_both : (s : Span) (js : Items) → Both (array s js)
array_both s js (array r ks) h = (items_complete (common_items js ks) js (λ n i e. common_left i js ks (among_at (common_items js ks) n i i e (same_self i))), common_right js ks)
array_both s js (word r ks) h = absurd (cc)
array_both s js (number r ks) h = absurd (cc)
array_both s js (string r ks) h = absurd (cc)
array_both s js (object r ks) h = absurd (cc)

both_if : (i j k : Json) (b : Bool) → meets j k ≡ b → Both j → option_map (λ l. meet_tree j l) (if b then Some k else None) ≡ Some i → (below i j ≡ true) × (below i k ≡ true)
both_if i j k false e f h = absurd (cc)
both_if i j k true e f h = let is : meet_tree j k ≡ i = cc in subst (λ (l : Json). (below l j ≡ true) × (below l k ≡ true)) is (f k e)

both_given : (i : Json) (o q : Option Json) → ((j : Json) → o ≡ Some j → Both j) → common o q ≡ Some i → (below_given (Some i) o ≡ true) × (below_given (Some i) q ≡ true)
both_given i None q f h = absurd (cc)
both_given i (Some j) None f h = absurd (cc)
both_given i (Some j) (Some k) f h = both_if i j k (meets j k) refl (f j refl) h

both_named : (cs : List ℕ) (i : Json) (ms ns : Members) → MembersHave Both ms → named cs (common_members ms ns) ≡ Some i → (below_given (Some i) (named cs ms) ≡ true) × (below_given (Some i) (named cs ns) ≡ true)
both_named cs i ms ns f h = both_given i (named cs ms) (named cs ns) (λ j e. f cs j e) (sym (common_named cs ms ns) ∙ h)

object_both : (s : Span) (ms : Members) → MembersHave Both ms → Both (object s ms)
object_both s ms f (object r ns) h = (members_complete (common_members ms ns) ms (λ cs i e. (both_named cs i ms ns f e).0), members_complete (common_members ms ns) ns (λ cs i e. (both_named cs i ms ns f e).1))
object_both s ms f (word r ks) h = absurd (cc)
object_both s ms f (number r ks) h = absurd (cc)
object_both s ms f (string r ks) h = absurd (cc)
object_both s ms f (array r ks) h = absurd (cc)

both_steps : Steps Both
both_steps = record {
  words = word_both;
  numbers = λ s ds k h. (same_bytes ds, h);
  strings = λ s cs k h. (same_bytes cs, h);
  arrays = λ s js f. array_both s js;
  objects = λ s ms f. object_both s ms f;
}

pub meet_below : (j k : Json) → meets j k ≡ true → (below (meet_tree j k) j ≡ true) × (below (meet_tree j k) k ≡ true)
meet_below j k h = every Both both_steps j k h

-- above all that is below both

abbrev Under : Json → Type 0
Under x = (j k : Json) → below x j ≡ true → below x k ≡ true → is_least x ≡ false → (meets j k ≡ true) × (below x (meet_tree j k) ≡ true)

word_under : (s : Span) (w : Word) → Under (word s w)
word_under s word_of.Null j k h g e = absurd (cc)
word_under s word_of.False j k h g e = absurd (cc)
word_under s word_of.True (word r word_of.True) k h g e = (g, refl)
word_under s word_of.True (word r word_of.Null) k h g e = absurd (cc)
word_under s word_of.True (word r word_of.False) k h g e = absurd (cc)
word_under s word_of.True (number r ds) k h g e = absurd (cc)
word_under s word_of.True (string r ds) k h g e = absurd (cc)
word_under s word_of.True (array r ds) k h g e = absurd (cc)
word_under s word_of.True (object r ds) k h g e = absurd (cc)

number_under : (s : Span) (ds : List ℕ) → Under (number s ds)
number_under s ds (number r es) k h g e = (subst (λ (xs : List ℕ). is_number xs k ≡ true) ((bytes_eq-Decides ds es).0 h) g, h)
number_under s ds (word r es) k h g e = absurd (cc)
number_under s ds (string r es) k h g e = absurd (cc)
number_under s ds (array r es) k h g e = absurd (cc)
number_under s ds (object r es) k h g e = absurd (cc)

string_under : (s : Span) (ds : List ℕ) → Under (string s ds)
string_under s ds (string r es) k h g e = (subst (λ (xs : List ℕ). is_string xs k ≡ true) ((bytes_eq-Decides ds es).0 h) g, h)
string_under s ds (word r es) k h g e = absurd (cc)
string_under s ds (number r es) k h g e = absurd (cc)
string_under s ds (array r es) k h g e = absurd (cc)
string_under s ds (object r es) k h g e = absurd (cc)

array_under : (s : Span) (is : Items) → Under (array s is)
array_under s is (array r js) (array t ks) h g e = (refl, items_complete is (common_items js ks) (λ n i m. common_among i js ks (items_sound is js h n i m) (items_sound is ks g n i m)))
array_under s is (array r js) (word t ks) h g e = absurd (cc)
array_under s is (array r js) (number t ks) h g e = absurd (cc)
array_under s is (array r js) (string t ks) h g e = absurd (cc)
array_under s is (array r js) (object t ks) h g e = absurd (cc)
array_under s is (word r js) k h g e = absurd (cc)
array_under s is (number r js) k h g e = absurd (cc)
array_under s is (string r js) k h g e = absurd (cc)
array_under s is (object r js) k h g e = absurd (cc)

under_met : (i j k : Json) → (meets j k ≡ true) × (below i (meet_tree j k) ≡ true) → below_given (Some i) (common (Some j) (Some k)) ≡ true
under_met i j k h = subst (λ (b : Bool). below_given (Some i) (option_map (λ l. meet_tree j l) (if b then Some k else None)) ≡ true) (sym h.0) h.1

under_some : (i : Json) (o q : Option Json) → Under i → is_least i ≡ false → below_given (Some i) o ≡ true → below_given (Some i) q ≡ true → below_given (Some i) (common o q) ≡ true
under_some i None q f e h g = h
under_some i (Some j) None f e h g = g
under_some i (Some j) (Some k) f e h g = under_met i j k (f j k h g e)

under_given : (i : Json) (o q : Option Json) (b : Bool) → is_least i ≡ b → Under i → below_given (Some i) o ≡ true → below_given (Some i) q ≡ true → below_given (Some i) (common o q) ≡ true
under_given i o q true e f h g = least_below i (common o q) e
under_given i o q false e f h g = under_some i o q f e h g

object_under : (s : Span) (ls : Members) → MembersHave Under ls → Under (object s ls)
object_under s ls f (object r ms) (object t ns) h g e = (
  refl,
  members_complete ls (common_members ms ns) (λ cs i m.
      subst (λ o. below_given (Some i) o ≡ true) (sym (common_named cs ms ns)) (under_given i (named cs ms) (named cs ns) (is_least i) refl (f cs i m) (members_sound ls ms h cs i m) (members_sound ls ns g cs i m))),
)
object_under s ls f (object r ms) (word t ns) h g e = absurd (cc)
object_under s ls f (object r ms) (number t ns) h g e = absurd (cc)
object_under s ls f (object r ms) (string t ns) h g e = absurd (cc)
object_under s ls f (object r ms) (array t ns) h g e = absurd (cc)
object_under s ls f (word r ms) k h g e = absurd (cc)
object_under s ls f (number r ms) k h g e = absurd (cc)
object_under s ls f (string r ms) k h g e = absurd (cc)
object_under s ls f (array r ms) k h g e = absurd (cc)

under_steps : Steps Under
under_steps = record { words = word_under; numbers = number_under; strings = string_under; arrays = λ s js f. array_under s js; objects = λ s ms f. object_under s ms f }

pub meet_greatest : (x j k : Json) → below x j ≡ true → below x k ≡ true → is_least x ≡ false → (meets j k ≡ true) × (below x (meet_tree j k) ≡ true)
meet_greatest x j k h g e = every Under under_steps x j k h g e
