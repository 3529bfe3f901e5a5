-- What editors have open is UTF-8.
use Rattle.std.proofs.Common.{◌≡◌, ℕ, ◌<◌, ◌≤◌, max, Bool, List, [], ◌∷◌, ◌++◌, take, drop, ◌⊎◌, inl, inr, Option, Some, None, codes, bytes_eq, if◌then◌else◌, subst, arith, IsUtf8}
use Rattle.std.specs.Prelude.{fold, find, nat_lt}
use Rattle.std.specs.List.{AllByRecursion, replace_range}
use Rattle.std.specs.Option.{option_and_then, option_map, option_map_or}
use Rattle.std.specs.Str.{IsCharBoundary}
use Rattle.std.proofs.lemmas.Bool.{cases_lt}
use Rattle.std.proofs.lemmas.Str.{IsUtf8-append, IsUtf8-take, IsUtf8-drop, IsCharBoundary-start, IsCharBoundary-end}
use Rattle.json_text.specs.Json.{Json, word, number, string, array, object, Items, no_items, item}
use Rattle.json_text.specs.Named.{named_in, items_list}
use Rattle.doc_text.specs.position_codec.specs.declared.Encoding.{Encoding}
use Rattle.doc_text.specs.position_codec.proofs.Boundaries.{offset_boundary}
use Rattle.doc_text.specs.declared.change.Extent.{Extent}
use Rattle.doc_text.specs.declared.change.Extent.TheVariants.{Whole, Part}
use Rattle.doc_text.specs.declared.change.ContentChange.{ContentChange}
use Rattle.doc_text.specs.Changes.{changed as changed_by, both, text_of, extent_of, change_of, all_changes, changes_of, offset_in, place_in, changed_all, text_behind}
use Rattle.rpc_message.specs.Message.{Message, not_json, not_message, request, notification, result, error, message_of}
use Rattle.document_model.specs.Opens.{Open, is_open_at, put_open, drop_open, later, latest}
use Rattle.document_model.specs.Orderly.{IsSpelt, AllSpelt}
use Rattle.document_model.specs.Sayings.{Saying, opens, changes, closes, misshapen, nothing, member_of, string_at, integer_at, opening, changing, closing, opening_by, changing_by, closing_by, saying_by, saying_of}
use Rattle.document_model.specs.Texts.{Texts, texts_behind, text_after, found, changed, touched, opened}
use Rattle.document_model.proofs.ScalarTrees.{either_way, MayHold, may_hold, AllScalars, ItemsScalars, named_in_scalars, member_scalars, optional_spelt, string_at_spelt, ParamsScalars, body_scalars}

-- lists of what is open: what holds of all holds of all behind a step, and of the one that is found

pub all_put : (P : Open → Type 0) (o : Open) (os : List Open) → P o → AllByRecursion P os → AllByRecursion P (put_open o os)
all_put P o [] h k = (h, tt)
all_put P o (p ∷ ps) h k = either_way (AllByRecursion P) (is_open_at o.editor o.uri p) (o ∷ ps) (p ∷ put_open o ps) (h, k.1) (k.0, all_put P o ps h k.1)

pub all_drop : (P : Open → Type 0) (e : ℕ) (u : List ℕ) (os : List Open) → AllByRecursion P os → AllByRecursion P (drop_open e u os)
all_drop P e u [] k = tt
all_drop P e u (o ∷ os) k = either_way (AllByRecursion P) (is_open_at e u o) os (o ∷ drop_open e u os) k.1 (k.0, all_drop P e u os k.1)

later_holds : (P : Open → Type 0) (o : Open) (best : Option Open) → P o → MayHold P best → MayHold P (later o best)
later_holds P o None h k = h
later_holds P o (Some b) h k = either_way (MayHold P) (nat_lt o.touched b.touched) (Some b) (Some o) k h

latest_from : (P : Open → Type 0) (test : Open → Bool) (os : List Open) (best : Option Open) → AllByRecursion P os → MayHold P best → MayHold P (fold (λ best o. if test o then later o best else best) best os)
latest_from P test [] best k h = h
latest_from P test (o ∷ os) best k h = latest_from P test os (if test o then later o best else best) k.1 (either_way (MayHold P) (test o) (later o best) best (later_holds P o best k.0 h) h)

pub all_latest : (P : Open → Type 0) (test : Open → Bool) (os : List Open) (o : Open) → AllByRecursion P os → latest test os ≡ Some o → P o
all_latest P test os o k e = may_hold P (latest test os) o (latest_from P test os None k tt) e

find_holds : (P : Open → Type 0) (test : Open → Bool) (os : List Open) → AllByRecursion P os → MayHold P (find test os)
find_holds P test [] k = tt
find_holds P test (o ∷ os) k = either_way (MayHold P) (test o) (Some o) (find test os) k.0 (find_holds P test os k.1)

pub all_find : (P : Open → Type 0) (test : Open → Bool) (os : List Open) (o : Open) → AllByRecursion P os → find test os ≡ Some o → P o
all_find P test os o k e = may_hold P (find test os) o (find_holds P test os k) e

-- what editors have open

pub put_spelt : (o : Open) (os : List Open) → IsSpelt o → AllSpelt os → AllSpelt (put_open o os)
put_spelt o os h k = all_put IsSpelt o os h k

pub drop_spelt : (e : ℕ) (u : List ℕ) (os : List Open) → AllSpelt os → AllSpelt (drop_open e u os)
drop_spelt e u os k = all_drop IsSpelt e u os k

pub latest_spelt : (test : Open → Bool) (os : List Open) (o : Open) → AllSpelt os → latest test os ≡ Some o → IsSpelt o
latest_spelt test os o k e = all_latest IsSpelt test os o k e

pub find_spelt : (test : Open → Bool) (os : List Open) (o : Open) → AllSpelt os → find test os ≡ Some o → IsSpelt o
find_spelt test os o k e = all_find IsSpelt test os o k e

-- what a message says of a document: its strings are UTF-8, and the strings of its changes are scalars
abbrev pub IsSaidSpelt : Saying → Type 0
IsSaidSpelt (opens u l v t) = IsUtf8 u × IsUtf8 l × IsUtf8 t
IsSaidSpelt (changes u v cs) = IsUtf8 u × AllScalars cs
IsSaidSpelt (closes u) = IsUtf8 u
IsSaidSpelt misshapen = Unit {0}
IsSaidSpelt nothing = Unit {0}

opening_spelt : (u l v t : Option (List ℕ)) → MayHold IsUtf8 u → MayHold IsUtf8 l → MayHold IsUtf8 t → IsSaidSpelt (opening u l v t)
opening_spelt (Some u) (Some l) (Some v) (Some t) h k i = (h, k, i)
opening_spelt (Some u) (Some l) (Some v) None h k i = tt
opening_spelt (Some u) (Some l) None t h k i = tt
opening_spelt (Some u) None v t h k i = tt
opening_spelt None l v t h k i = tt

changing_spelt : (u v : Option (List ℕ)) (cs : Option Json) → MayHold IsUtf8 u → MayHold AllScalars cs → IsSaidSpelt (changing u v cs)
changing_spelt (Some u) (Some v) (Some cs) h k = (h, k)
changing_spelt (Some u) (Some v) None h k = tt
changing_spelt (Some u) None cs h k = tt
changing_spelt None v cs h k = tt

closing_spelt : (u : Option (List ℕ)) → MayHold IsUtf8 u → IsSaidSpelt (closing u)
closing_spelt (Some u) h = h
closing_spelt None h = tt

opening_by_spelt : (document : Option Json) → MayHold AllScalars document → IsSaidSpelt (opening_by document)
opening_by_spelt document h = opening_spelt _ _ (integer_at (codes "version") document) _ (string_at_spelt (codes "uri") document h) (string_at_spelt (codes "languageId") document h) (string_at_spelt (codes "text") document h)

changing_by_spelt : (document cs : Option Json) → MayHold AllScalars document → MayHold AllScalars cs → IsSaidSpelt (changing_by document cs)
changing_by_spelt document cs h k = changing_spelt (string_at (codes "uri") document) (integer_at (codes "version") document) cs (string_at_spelt (codes "uri") document h) k

closing_by_spelt : (document : Option Json) → MayHold AllScalars document → IsSaidSpelt (closing_by document)
closing_by_spelt document h = closing_spelt (string_at (codes "uri") document) (string_at_spelt (codes "uri") document h)

saying_spelt : (method : List ℕ) (params : Option Json) → MayHold AllScalars params → IsSaidSpelt (saying_by method params)
saying_spelt method params h =
    let document : Option Json = member_of (codes "textDocument") params in
    let k : MayHold AllScalars document = member_scalars (codes "textDocument") params h in
    let c : IsSaidSpelt (changing_by document (member_of (codes "contentChanges") params)) = changing_by_spelt document _ k (member_scalars (codes "contentChanges") params h) in
    either_way IsSaidSpelt (bytes_eq (codes "textDocument/didOpen") method) _ _ (opening_by_spelt document k)
    (either_way IsSaidSpelt (bytes_eq (codes "textDocument/didChange") method) _ _ c (either_way IsSaidSpelt (bytes_eq (codes "textDocument/didClose") method) _ _ (closing_by_spelt document k) tt))

message_spelt : (m : Message) → ParamsScalars m → IsSaidSpelt (saying_of m)
message_spelt (notification method params) h = saying_spelt method params h
message_spelt not_json h = tt
message_spelt not_message h = tt
message_spelt (request id method params) h = tt
message_spelt (result id j) h = tt
message_spelt (error id e) h = tt

-- what any body says
pub said_spelt : (body : List ℕ) → IsSaidSpelt (saying_of (message_of body))
said_spelt body = message_spelt (message_of body) (body_scalars body)

-- the strings of what a body says

pub opens_spelt : (body u l v t : List ℕ) → saying_of (message_of body) ≡ opens u l v t → IsUtf8 u × IsUtf8 l × IsUtf8 t
opens_spelt body u l v t e = subst IsSaidSpelt e (said_spelt body)

pub changes_spelt : (body u v : List ℕ) (cs : Json) → saying_of (message_of body) ≡ changes u v cs → IsUtf8 u
changes_spelt body u v cs e = let h : IsSaidSpelt (changes u v cs) = subst IsSaidSpelt e (said_spelt body) in h.0

pub closes_spelt : (body u : List ℕ) → saying_of (message_of body) ≡ closes u → IsUtf8 u
closes_spelt body u e = subst IsSaidSpelt e (said_spelt body)

-- a text behind changes

-- what a change puts in is UTF-8
abbrev AddsSpelt : ContentChange → Type 0
AddsSpelt c = IsUtf8 c.text

both_spelt : (p : Option Extent) (x : Option (List ℕ)) → MayHold IsUtf8 x → MayHold AddsSpelt (both (λ p x. record { extent = p; text = x }) p x)
both_spelt (Some p) (Some x) h = h
both_spelt (Some p) None h = tt
both_spelt None x h = tt

change_spelt : (j : Json) → AllScalars j → MayHold AddsSpelt (change_of j)
change_spelt j h = both_spelt (extent_of j) (text_of j) (optional_spelt (named_in (codes "text") j) (named_in_scalars (codes "text") j h))

cons_spelt : (c : Option ContentChange) (cs : Option (List ContentChange)) → MayHold AddsSpelt c → MayHold (AllByRecursion AddsSpelt) cs → MayHold (AllByRecursion AddsSpelt) (both (λ c cs. c ∷ cs) c cs)
cons_spelt (Some c) (Some cs) h k = (h, k)
cons_spelt (Some c) None h k = tt
cons_spelt None cs h k = tt

all_changes_spelt : (js : Items) → ItemsScalars js → MayHold (AllByRecursion AddsSpelt) (all_changes (items_list js))
all_changes_spelt no_items h = tt
all_changes_spelt (item j js) h = cons_spelt (change_of j) (all_changes (items_list js)) (change_spelt j h.0) (all_changes_spelt js h.1)

changes_of_spelt : (cs : Json) → AllScalars cs → MayHold (AllByRecursion AddsSpelt) (changes_of cs)
changes_of_spelt (array s js) h = all_changes_spelt js h
changes_of_spelt (word s w) h = tt
changes_of_spelt (number s ds) h = tt
changes_of_spelt (string s ds) h = tt
changes_of_spelt (object s ms) h = tt

-- a text may be cut at the greater of two places where it may be cut
max_boundary : (x : List ℕ) (a b : ℕ) → IsCharBoundary x a → IsCharBoundary x b → IsCharBoundary x (max a b)
max_boundary x a b h k = go (cases_lt a b)
  where
    go : (a < b) ⊎ (b ≤ a) → IsCharBoundary x (max a b)
    go (inl l) = subst (λ n. IsCharBoundary x n) (omega arith) k
    go (inr l) = subst (λ n. IsCharBoundary x n) (omega arith) h

place_boundaries : (code : Encoding) (p : Extent) (x : List ℕ) → IsUtf8 x → IsCharBoundary x (place_in code p x).0 × IsCharBoundary x (place_in code p x).1
place_boundaries code Whole x h = (IsCharBoundary-start x h, IsCharBoundary-end x)
place_boundaries code (Part r) x h =
    let from : IsCharBoundary x (offset_in code r.start x) = offset_boundary code x r.start.line r.start.character h in
    (from, max_boundary x (offset_in code r.start x) (offset_in code r.end x) from (offset_boundary code x r.end.line r.end.character h))

-- a range is replaced
replaced_spelt : (x w : List ℕ) (a b : ℕ) → IsUtf8 x → IsUtf8 w → IsCharBoundary x a → IsCharBoundary x b → IsUtf8 (replace_range x a b w)
replaced_spelt x w a b h k f g = IsUtf8-append (take a x ++ w) (drop b x) (IsUtf8-append (take a x) w (IsUtf8-take x a h f) k) (IsUtf8-drop x b h g)

changed_by_spelt : (code : Encoding) (c : ContentChange) (x : List ℕ) → AddsSpelt c → IsUtf8 x → IsUtf8 (changed_by code c x)
changed_by_spelt code c x k h =
    let p : IsCharBoundary x (place_in code c.extent x).0 × IsCharBoundary x (place_in code c.extent x).1 = place_boundaries code c.extent x h in
    replaced_spelt x c.text (place_in code c.extent x).0 (place_in code c.extent x).1 h k p.0 p.1

changed_all_spelt : (code : Encoding) (cs : List ContentChange) (x : List ℕ) → AllByRecursion AddsSpelt cs → IsUtf8 x → IsUtf8 (changed_all code cs x)
changed_all_spelt code [] x k h = h
changed_all_spelt code (c ∷ cs) x k h = changed_all_spelt code cs (changed_by code c x) k.1 (changed_by_spelt code c x k.0 h)

map_spelt : (code : Encoding) (cs : Option (List ContentChange)) (x : List ℕ) → MayHold (AllByRecursion AddsSpelt) cs → IsUtf8 x → MayHold IsUtf8 (option_map (λ cs. changed_all code cs x) cs)
map_spelt code (Some cs) x k h = changed_all_spelt code cs x k h
map_spelt code None x k h = tt

-- a text behind a list of changes
pub behind_spelt : (code : Encoding) (cs : Json) (x : List ℕ) → AllScalars cs → IsUtf8 x → MayHold IsUtf8 (text_behind code cs x)
behind_spelt code cs x k h = map_spelt code (changes_of cs) x (changes_of_spelt cs k) h

-- behind the changes of a body
pub changed_spelt : (body u v : List ℕ) (cs : Json) (code : Encoding) (x y : List ℕ) → saying_of (message_of body) ≡ changes u v cs → IsUtf8 x → text_behind code cs x ≡ Some y → IsUtf8 y
changed_spelt body u v cs code x y e h f =
    let k : IsSaidSpelt (changes u v cs) = subst IsSaidSpelt e (said_spelt body) in
    may_hold IsUtf8 (text_behind code cs x) y (behind_spelt code cs x k.1 h) f

-- behind a message

after_spelt : (encoding : Option Encoding) (cs : Json) (x : List ℕ) → AllScalars cs → IsUtf8 x → MayHold IsUtf8 (text_after encoding cs x)
after_spelt (Some code) cs x k h = behind_spelt code cs x k h
after_spelt None cs x k h = tt

-- a document behind a change
pub document_spelt : (encoding : Option Encoding) (e : ℕ) (u v : List ℕ) (cs : Json) (x : Texts) → IsUtf8 u → AllScalars cs → AllSpelt x.opens → MayHold IsSpelt (changed encoding e u v cs x)
document_spelt encoding e u v cs x h k s = go (found e u x) (find_holds IsSpelt (is_open_at e u) x.opens s)
  where
    made : (o : Open) (t : Option (List ℕ)) → IsSpelt o → MayHold IsUtf8 t → MayHold IsSpelt (option_map (λ t. record { editor = e; uri = u; language = o.language; version = v; text = t; touched = x.turn }) t)
    made o (Some t) i j = (h, i.1, j)
    made o None i j = tt

    go : (o : Option Open) → MayHold IsSpelt o → MayHold IsSpelt (option_and_then (λ (o : Open). option_map (λ t. record { editor = e; uri = u; language = o.language; version = v; text = t; touched = x.turn }) (text_after encoding cs o.text)) o)
    go (Some o) i = made o (text_after encoding cs o.text) i (after_spelt encoding cs o.text k i.2)
    go None i = tt

touched_spelt : (o : Option Open) (x : Texts) → MayHold IsSpelt o → AllSpelt x.opens → AllSpelt (option_map_or (λ o. touched o x) o x).opens
touched_spelt (Some o) x h s = put_spelt o x.opens h s
touched_spelt None x h s = s

-- behind what a message says
pub saying_behind_spelt : (encoding : Option Encoding) (e : ℕ) (s : Saying) (x : Texts) → IsSaidSpelt s → AllSpelt x.opens → AllSpelt (texts_behind encoding e s x).opens
saying_behind_spelt encoding e (opens u l v t) x h s = put_spelt (opened e u l v t x) x.opens h s
saying_behind_spelt encoding e (changes u v cs) x h s = touched_spelt (changed encoding e u v cs x) x (document_spelt encoding e u v cs x h.0 h.1 s) s
saying_behind_spelt encoding e (closes u) x h s = drop_spelt e u x.opens s
saying_behind_spelt encoding e misshapen x h s = s
saying_behind_spelt encoding e nothing x h s = s

-- and behind a message of an editor
pub texts_spelt : (encoding : Option Encoding) (e : ℕ) (body : List ℕ) (x : Texts) → AllSpelt x.opens → AllSpelt (texts_behind encoding e (saying_of (message_of body)) x).opens
texts_spelt encoding e body x s = saying_behind_spelt encoding e (saying_of (message_of body)) x (said_spelt body) s
