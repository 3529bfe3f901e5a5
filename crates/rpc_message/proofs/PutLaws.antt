-- A message in which values of an object gave way to others says the same but for these.
use Rattle.std.proofs.Common.{◌≡◌, ℕ, ◌+◌, ◌-◌, ◌≤◌, Bool, true, false, ◌&&◌, List, [], ◌∷◌, ◌++◌, length, length-append, take, drop, bytes_eq, Option, Some, None, option_map, is_some, not, codes, if◌then◌else◌, refl, sym, ◌∙◌, ap, ap₂, subst, arith}
use Rattle.std.specs.Option.{option_and_then}
use Rattle.json_text.specs.declared.span.Span.{Span}
use Rattle.json_text.specs.Bare.{bare, bare_members, nowhere}
use Rattle.json_text.specs.Json.{Json, word, number, string, array, object, Members, value, span_of, IsText, depth}
use Rattle.json_text.specs.Named.{named, named_in}
use Rattle.json_text.specs.Paths.{Step, key, index, step_to, value_at, put_named, put_step, put_at}
use Rattle.json_text.specs.Replace.{Edit, replace, RiseFrom, Rise}
use Rattle.json_text.specs.Tree.{tree_of}
use Rattle.json_text.proofs.Depths.{members_deep}
use Rattle.json_text.proofs.Forms.{says, says_of, says_bare}
use Rattle.json_text.proofs.Edits.{between}
use Rattle.json_text.proofs.Inside.{Inside, InSpan, path_inside, member_in_span}
use Rattle.json_text.proofs.Laws.{tree_sound}
use Rattle.json_text.proofs.Paths.{path_swaps, named_step}
use Rattle.json_text.proofs.Put.{named_put, named_put_other, bare_bare, depth_bare}
use Rattle.json_text.proofs.Swaps.{Swaps, span_is, in_object, Replaced, replaced}
use Rattle.json_span.specs.json_nodes.specs.At.{At, Found}
use Rattle.json_span.specs.json_nodes.specs.Doc.{Doc, Holds}
use Rattle.json_span.specs.json_nodes.specs.Puts.{member_edits, put_edits, put_members}
use Rattle.json_span.specs.json_nodes.proofs.PutBare.{path_put_bare, members_put_bare}
use Rattle.json_span.specs.json_nodes.proofs.Swapped.{Says, put_swaps, put_rise, rise_in}
use Rattle.rpc_message.specs.Changed.{id_edits, changed_text}
use Rattle.rpc_message.specs.Envelopes.{by_names, not_null}
use Rattle.rpc_message.specs.Message.{Id, Message, request, notification, result, error, not_json, not_message, no_name_twice, is_two, is_null, is_error, id_of, response_id, are_params, given, result_tree, request_if, notification_if, called, error_if, outcome, response_with, answered, by_method, message_in, message_of}
use Rattle.rpc_message.specs.Parsed.{params_in}
use Rattle.rpc_message.specs.ValueTexts.{IsIdText, IsResponseIdText, IsValueText, IsOptionText}
use Rattle.rpc_message.proofs.Beside.{id_rise, id_swaps}
use Rattle.rpc_message.proofs.Bodies.{has_id, Envelope, envelope, method_names, once_put, put_id}
use Rattle.rpc_message.proofs.Fixed.{response_flat}
use Rattle.rpc_message.proofs.Ids.{id_flat, answered_no_call, call_no_result, result_of, IsResultOf}
use Rattle.rpc_message.proofs.Meaning.{message_says}
use Rattle.rpc_message.proofs.Reading.{held_tree}

-- new values, and their bytes

value_says : (v : Json) (w : List ℕ) → IsValueText v w → says v w
value_says v w h = subst (λ j. says j w) h.same (says_bare h.tree w (says_of h.tree 0 w h.stands))

option_says : (v : Option Json) (w : Option (List ℕ)) → IsOptionText v w → Says v w
option_says (Some v) (Some w) h = value_says v w h
option_says None None h = tt
option_says (Some v) None h = absurd h
option_says None (Some w) h = absurd h

option_bare : (v : Option Json) (w : Option (List ℕ)) → IsOptionText v w → option_map bare v ≡ v
option_bare (Some v) (Some w) h = ap Some (ap bare (sym h.same) ∙ bare_bare h.tree ∙ h.same)
option_bare None None h = refl
option_bare (Some v) None h = absurd h
option_bare None (Some w) h = absurd h

-- an object in a value, and the value with another object there

-- a value that may be params, and isn't null
record Holder (q : Json) : Type 0 where
  params : are_params (Some q) ≡ true
  there : is_null q ≡ false

module _ (path : List Step) (p : Json) (s : Span) (ms ns : Members) where
  holder : value_at path p ≡ Some (object s ms) → Holder (put_at path (object s ns) p)
  unfolding value_at put_at
  holder e = by path e
    where
      step : (t : Step) (u : Json) → (k : Json) → step_to t p ≡ Some k → Holder (put_step t u p)
      step t u k h = go t p h
        where
          go : (t : Step) (j : Json) → step_to t j ≡ Some k → Holder (put_step t u j)
          go (key cs) (object r ls) h = record { params = refl; there = refl }
          go (index n) (array r js) h = record { params = refl; there = refl }
          go (key cs) (array r js) h = absurd (cc)
          go (key cs) (word r w) h = absurd (cc)
          go (key cs) (number r ds) h = absurd (cc)
          go (key cs) (string r ds) h = absurd (cc)
          go (index n) (object r ls) h = absurd (cc)
          go (index n) (word r w) h = absurd (cc)
          go (index n) (number r ds) h = absurd (cc)
          go (index n) (string r ds) h = absurd (cc)

      by : (l : List Step) → value_at l p ≡ Some (object s ms) → Holder (put_at l (object s ns) p)
      by [] h = record { params = refl; there = refl }
      by (t ∷ l) h = more (step_to t p) refl h
        where
          more : (o : Option Json) → step_to t p ≡ o → option_and_then (λ k. value_at l k) o ≡ Some (object s ms) → Holder (elim o [ None ↦ p | Some k ↦ put_step t (put_at l (object s ns) k) p ])
          more (Some k) d h = step t (put_at l (object s ns) k) k d
          more None d h = absurd (cc)

-- what a member holds, without places
new_bare : (path : List Step) (j : Json) (s : Span) (ms : Members) (text : List ℕ → Option (List ℕ)) (new : List ℕ → Option Json) → ((name : List ℕ) → IsOptionText (new name) (text name))
    → bare (put_at path (object s (put_members new ms)) j) ≡ put_at path (object nowhere (put_members new (bare_members ms))) (bare j)
new_bare path j s ms text new h = path_put_bare path (object s (put_members new ms)) j
    ∙ ap (λ z. put_at path (object nowhere z) (bare j)) (members_put_bare new ms (λ name. option_bare (new name) (text name) (h name)))

new_swaps : (path : List Step) (j : Json) (s : Span) (ms : Members) (text : List ℕ → Option (List ℕ)) (new : List ℕ → Option Json) → ((name : List ℕ) → IsOptionText (new name) (text name)) → value_at path j ≡ Some (object s ms)
    → Swaps j (member_edits text ms) (put_at path (object s (put_members new ms)) j)
new_swaps path j s ms text new h e = path_swaps path j (object s ms) (object s (put_members new ms)) (member_edits text ms) e
    (in_object s ms (put_members new ms) (member_edits text ms) (put_swaps text new ms (λ name. option_says (new name) (text name) (h name))))

-- the member that a path begins with
at_member : (cs : List ℕ) (path : List Step) (r : Span) (ls : Members) (o : Json) → value_at (key cs ∷ path) (object r ls) ≡ Some o → (j : Json) × (named cs ls ≡ Some j) × (value_at path j ≡ Some o)
unfolding value_at
at_member cs path r ls o e = go (named cs ls) refl e
  where
    go : (x : Option Json) → named cs ls ≡ x → option_and_then (λ k. value_at path k) x ≡ Some o → (j : Json) × (named cs ls ≡ Some j) × (value_at path j ≡ Some o)
    go (Some j) d h = (j, d, h)
    go None d h = absurd (cc)

-- the edits of an object in a member rise, with that of the id

path_rise : (path : List Step) (j o : Json) (text : List ℕ → Option (List ℕ)) (at : ℕ) (bs : List ℕ) → value_at path j ≡ Some o → value j at bs
    → RiseFrom (span_of j).from (span_of j).to (put_edits text o)
path_rise path j o text at bs e v =
    let i : Inside at bs o = path_inside path j o e at bs v in
    let whole : span_of j ≡ between at (length bs) = span_is j at bs v in
    let part : span_of o ≡ between (at + length i.before) (length i.bytes) = span_is o (at + length i.before) i.bytes i.stands in
    let begin : (span_of j).from ≡ at = ap (λ (z : Span). z.from) whole in
    let end : (span_of j).to ≡ at + length bs = ap (λ (z : Span). z.to) whole in
    let first : (span_of o).from ≡ at + length i.before = ap (λ (z : Span). z.from) part in
    let last : (span_of o).to ≡ at + length i.before + length i.bytes = ap (λ (z : Span). z.to) part in
    let long : length bs ≡ length i.before + (length i.bytes + length i.after) = ap length i.whole ∙ length-append i.before (i.bytes ++ i.after) ∙ ap (λ n. length i.before + n) (length-append i.bytes i.after) in
    rise_in (put_edits text o) (span_of j).from (span_of o).from (span_of o).to (span_of j).to (omega (arith, begin, first)) (omega (arith, end, last, long)) (put_rise text o (at + length i.before) i.bytes i.stands)

pub puts_rise : (body w cs : List ℕ) (t o : Json) (path : List Step) (text : List ℕ → Option (List ℕ)) → tree_of body ≡ Some t → value_at (key cs ∷ path) t ≡ Some o → bytes_eq cs (codes "id") ≡ false
    → Rise body (id_edits body w (put_edits text o))
unfolding value_at
puts_rise body w cs (object r ls) o path text e at other =
    let a : (j : Json) × (named cs ls ≡ Some j) × (value_at path j ≡ Some o) = at_member cs path r ls o at in
    let i : InSpan body a.0 = member_in_span body r cs ls a.0 (tree_sound body (object r ls) e).0 a.1 in
    id_rise body w cs r ls a.0 (put_edits text o) e a.1 other (path_rise path a.0 o text (span_of a.0).from (take ((span_of a.0).to - (span_of a.0).from) (drop (span_of a.0).from body)) a.2 i.stands)
puts_rise body w cs (word r x) o path text e at other = absurd (cc)
puts_rise body w cs (number r x) o path text e at other = absurd (cc)
puts_rise body w cs (string r x) o path text e at other = absurd (cc)
puts_rise body w cs (array r x) o path text e at other = absurd (cc)

-- and so those of the params that were found

not_null_is : (x : Option Json) (p : Json) → not_null x ≡ Some p → x ≡ Some p
not_null_is None p e = absurd (cc)
not_null_is (Some j) p e = go (is_null j) e
  where
    go : (b : Bool) → (if b then None else Some j) ≡ Some p → Some j ≡ Some p
    go true h = absurd (cc)
    go false h = h

params_named : (m : Message) (t p : Json) → params_in m t ≡ Some p → named_in (codes "params") t ≡ Some p
params_named (request i n ps) t p e = not_null_is (named_in (codes "params") t) p e
params_named (notification n ps) t p e = not_null_is (named_in (codes "params") t) p e
params_named (result i v) t p e = absurd (cc)
params_named (error i v) t p e = absurd (cc)
params_named not_json t p e = absurd (cc)
params_named not_message t p e = absurd (cc)

pub params_rise : (doc : Doc) (m : Message) (t : Json) (n : ℕ) (w : List ℕ) (text : List ℕ → Option (List ℕ)) (es : List Edit) → Holds doc t → Found doc (params_in m t) (Some n) → ((p : Json) → At doc n p → es ≡ put_edits text p)
    → Rise doc.bytes (id_edits doc.bytes w es)
unfolding value_at
params_rise doc m t n w text es h found is = go (params_in m t) refl found
  where
    go : (o : Option Json) → params_in m t ≡ o → Found doc o (Some n) → Rise doc.bytes (id_edits doc.bytes w es)
    go (Some p) e a = subst (λ z. Rise doc.bytes (id_edits doc.bytes w z)) (sym (is p a))
        (puts_rise doc.bytes w (codes "params") t p [] text (held_tree doc t h) (ap (λ o. option_and_then (λ k. Some k) o) (params_named m t p e)) refl)
    go None e a = absurd a

-- the message of a body with another id and another value of a member
module _ (body w cs : List ℕ) (v : Envelope body) (p q u : Json) (es : List Edit) (other : bytes_eq cs (codes "id") ≡ false) (no_version : bytes_eq cs (codes "jsonrpc") ≡ false)
    (there : named cs v.members ≡ Some p) (swaps : Swaps p es q) (stands : value u 0 w) (flat : depth u ≡ 0) (low : depth q ≤ 1023) where
  changed_is : message_of (changed_text body w es) ≡ by_names (named (codes "method") (put_named cs q v.members)) (Some u) (named (codes "params") (put_named cs q v.members)) (named (codes "error") (put_named cs q v.members)) (named (codes "result") (put_named cs q v.members))
  changed_is =
      let ms : Members = put_named cs q v.members in
      let made : Replaced body (id_edits body w es) (object v.span (put_named (codes "id") u ms)) = id_swaps body w cs v.span v.members p es v.tree there other v.id u q v.named_id (says_of u 0 w stands) swaps in
      let old : depth (object v.span v.members) ≤ 1024 = (tree_sound body (object v.span v.members) v.tree).1 in
      message_says (object v.span (put_named (codes "id") u ms)) (changed_text body w es) made.says (omega (arith, members_deep (codes "id") ms u, members_deep cs v.members q))
      ∙ put_id v.span ms v.id u
      (ap₂ (λ a o. a && is_two o) (once_put cs v.members q) (named_put_other cs (codes "jsonrpc") v.members q no_version) ∙ v.test)
      (named_put_other cs (codes "id") v.members q other ∙ v.named_id)

-- a request

module _ (i : Id) (m : List ℕ) (ps : Json) where
  called_parts : (b : Bool) (a : Option Id) (n : List ℕ) (g : Option Json) → request_if b a n g ≡ request i m (Some ps) → (n ≡ m) × (g ≡ Some ps)
  called_parts true (Some x) n g e = (cc, cc)
  called_parts true None n g e = absurd (cc)
  called_parts false a n g e = absurd (cc)

  given_is : (b : Bool) (p : Json) → (if b then None else Some (bare p)) ≡ Some ps → bare p ≡ ps
  given_is true p e = absurd (cc)
  given_is false p e = cc

  request_parts : (o f v : Option Json) (t p : Json) → by_names o (Some t) (Some p) f v ≡ request i m (Some ps) → (s : Span) × (o ≡ Some (string s m)) × (bare p ≡ ps)
  request_parts (Some (string s n)) f v t p e =
      let q : (n ≡ m) × (given (Some p) ≡ Some ps) = called_parts (are_params (Some p)) (id_of t) n (given (Some p)) e in
      (s, ap (λ z. Some (string s z)) q.0, given_is (is_null p) p q.1)
  request_parts (Some (word s w)) f v t p e = absurd (cc)
  request_parts (Some (number s ds)) f v t p e = absurd (cc)
  request_parts (Some (array s js)) f v t p e = absurd (cc)
  request_parts (Some (object s ms)) f v t p e = absurd (cc)
  request_parts None f v t p e = absurd (answered_no_call i m (Some ps) t f v e)

new_request : (s : Span) (m : List ℕ) (u q : Json) (k : Id) (f v : Option Json) → id_of u ≡ Some k → Holder q → by_names (Some (string s m)) (Some u) (Some q) f v ≡ request k m (Some (bare q))
new_request s m u q k f v e h = ap₂ (λ b i. request_if b i m (given (Some q))) h.params e ∙ ap (λ b. request k m (if b then None else Some (bare q))) h.there

-- a result

new_outcome : (i : Option Id) (r : Json) (x : Option Id) (f v : Option Json) (k : Option Id) (q : Json) → outcome x f v ≡ result i r → outcome k f (Some q) ≡ result k (bare q)
new_outcome i r x None v k q e = refl
new_outcome i r x (Some f) v k q e = go (is_null f) (is_error f && not (is_some (given v))) (is_error f && not (is_some (given (Some q)))) e
  where
    go : (a b c : Bool) → (if a then result x (result_tree v) else error_if b x f) ≡ result i r → (if a then result k (bare q) else error_if c k f) ≡ result k (bare q)
    go true b c h = refl
    go false true c h = absurd (cc)
    go false false c h = absurd (cc)

new_result : (i : Option Id) (r : Json) (o p f v : Option Json) (t u q : Json) (k : Option Id) → by_names o (Some t) p f v ≡ result i r → response_id u ≡ Some k → by_names o (Some u) p f (Some q) ≡ result k (bare q)
new_result i r (Some (string s n)) p f v t u q k e h = absurd (call_no_result i r (are_params p) (id_of t) n (given p) e)
new_result i r (Some (word s w)) p f v t u q k e h = absurd (cc)
new_result i r (Some (number s ds)) p f v t u q k e h = absurd (cc)
new_result i r (Some (array s js)) p f v t u q k e h = absurd (cc)
new_result i r (Some (object s ms)) p f v t u q k e h = absurd (cc)
new_result i r None p f v t u q k e h = ap (λ x. response_with x f (Some q)) h ∙ go (response_id t) e
  where
    go : (x : Option (Option Id)) → response_with x f v ≡ result i r → outcome k f (Some q) ≡ result k (bare q)
    go (Some x) d = new_outcome i r x f v k q d
    go None d = absurd (cc)

-- a notification

message_is : (body : List ℕ) (t : Json) → tree_of body ≡ Some t → message_of body ≡ message_in (Some t)
unfolding message_of
message_is body t e = ap message_in e

module _ (m : List ℕ) (ps : Json) where
  outcome_no_note : (x : Option Id) (f v : Option Json) → outcome x f v ≡ notification m (Some ps) → ⊥
  outcome_no_note x None v e = cc
  outcome_no_note x (Some f) v e = go (is_null f) (is_error f && not (is_some (given v))) e
    where
      go : (a b : Bool) → (if a then result x (result_tree v) else error_if b x f) ≡ notification m (Some ps) → ⊥
      go true b h = cc
      go false true h = cc
      go false false h = cc

  answered_no_note : (i f v : Option Json) → answered i f v ≡ notification m (Some ps) → ⊥
  answered_no_note None f v e = cc
  answered_no_note (Some t) f v e = go (response_id t) e
    where
      go : (x : Option (Option Id)) → response_with x f v ≡ notification m (Some ps) → ⊥
      go (Some x) h = outcome_no_note x f v h
      go None h = cc

  call_no_note : (b : Bool) (a : Option Id) (n : List ℕ) (g : Option Json) → request_if b a n g ≡ notification m (Some ps) → ⊥
  call_no_note true (Some x) n g e = cc
  call_no_note true None n g e = cc
  call_no_note false a n g e = cc

  given_note : (b : Bool) (p : Json) → (if b then None else Some (bare p)) ≡ Some ps → bare p ≡ ps
  given_note true p e = absurd (cc)
  given_note false p e = cc

  note_if : (b : Bool) (n : List ℕ) (g : Option Json) → notification_if b n g ≡ notification m (Some ps) → (n ≡ m) × (g ≡ Some ps)
  note_if true n g e = (cc, cc)
  note_if false n g e = absurd (cc)

  note_parts : (o i p f v : Option Json) → by_names o i p f v ≡ notification m (Some ps) → (s : Span) × (o ≡ Some (string s m)) × (i ≡ None) × (given p ≡ Some ps)
  note_parts (Some (string s n)) None p f v e = let q : (n ≡ m) × (given p ≡ Some ps) = note_if (are_params p) n (given p) e in (s, ap (λ z. Some (string s z)) q.0, refl, q.1)
  note_parts (Some (string s n)) (Some t) p f v e = absurd (call_no_note (are_params p) (id_of t) n (given p) e)
  note_parts (Some (word s w)) i p f v e = absurd (cc)
  note_parts (Some (number s ds)) i p f v e = absurd (cc)
  note_parts (Some (array s js)) i p f v e = absurd (cc)
  note_parts (Some (object s ms)) i p f v e = absurd (cc)
  note_parts None i p f v e = absurd (answered_no_note i f v e)

  record Noted (ls : Members) : Type 0 where
    place : Span
    test : (no_name_twice ls && is_two (named (codes "jsonrpc") ls)) ≡ true
    named_method : named (codes "method") ls ≡ Some (string place m)
    no_id : named (codes "id") ls ≡ None
    params : (j : Json) → named (codes "params") ls ≡ Some j → bare j ≡ ps

  noted : (r : Span) (ls : Members) → message_in (Some (object r ls)) ≡ notification m (Some ps) → Noted ls
  noted r ls e = go (no_name_twice ls && is_two (named (codes "jsonrpc") ls)) refl e
    where
      go : (b : Bool) → (no_name_twice ls && is_two (named (codes "jsonrpc") ls)) ≡ b → (if b then by_method (named (codes "method") ls) ls else not_message) ≡ notification m (Some ps) → Noted ls
      go true d h =
          let q : (s : Span) × (named (codes "method") ls ≡ Some (string s m)) × (named (codes "id") ls ≡ None) × (given (named (codes "params") ls) ≡ Some ps)
          = note_parts (named (codes "method") ls) (named (codes "id") ls) (named (codes "params") ls) (named (codes "error") ls) (named (codes "result") ls) (sym (method_names (named (codes "method") ls) ls) ∙ h) in
          record { place = q.0; test = d; named_method = q.1; no_id = q.2; params = λ j k. given_note (is_null j) j (sym (ap given k) ∙ q.3) }
      go false d h = absurd (cc)

-- the tree of a body is its envelope's
same_root : (body : List ℕ) (v : Envelope body) (t : Json) → tree_of body ≡ Some t → t ≡ object v.span v.members
same_root body v t e = let same : Some t ≡ Some (object v.span v.members) = sym e ∙ v.tree in cc

-- new values, and what they make of the value that a message holds
module _ (body w : List ℕ) (p t : Json) (path : List Step) (s : Span) (ms : Members) (text : List ℕ → Option (List ℕ)) (new : List ℕ → Option Json) (tree : tree_of body ≡ Some t)
    (texts : (name : List ℕ) → IsOptionText (new name) (text name)) (low : depth (put_at path (object nowhere (put_members new (bare_members ms))) p) ≤ 1023) where
  -- an old value that says the same as the one in the message
  record Old (cs : List ℕ) (ls : Members) : Type 0 where
    old : Json
    named_old : named cs ls ≡ Some old
    swaps : Swaps old (member_edits text ms) (put_at path (object s (put_members new ms)) old)
    holds : Holder (put_at path (object s (put_members new ms)) old)
    says_new : bare old ≡ p → bare (put_at path (object s (put_members new ms)) old) ≡ put_at path (object nowhere (put_members new (bare_members ms))) p
    shallow : bare old ≡ p → depth (put_at path (object s (put_members new ms)) old) ≤ 1023

  old_of : (cs : List ℕ) (r : Span) (ls : Members) → value_at (key cs ∷ path) (object r ls) ≡ Some (object s ms) → Old cs ls
  old_of cs r ls e =
      let a : (j : Json) × (named cs ls ≡ Some j) × (value_at path j ≡ Some (object s ms)) = at_member cs path r ls (object s ms) e in
      let q : Json = put_at path (object s (put_members new ms)) a.0 in
      let is : bare a.0 ≡ p → bare q ≡ put_at path (object nowhere (put_members new (bare_members ms))) p
      = λ h. new_bare path a.0 s ms text new texts ∙ ap (λ z. put_at path (object nowhere (put_members new (bare_members ms))) z) h in
      record {
        old = a.0;
        named_old = a.1;
        swaps = new_swaps path a.0 s ms text new texts a.2;
        holds = holder path a.0 s ms (put_members new ms) a.2;
        says_new = is;
        shallow = λ h. omega (arith, depth_bare q, ap depth (is h));
      }

  pub request_puts : (i k : Id) (m : List ℕ) → message_of body ≡ request i m (Some p) → value_at (key (codes "params") ∷ path) t ≡ Some (object s ms) → IsIdText k w
      → message_of (changed_text body w (member_edits text ms)) ≡ request k m (Some (put_at path (object nowhere (put_members new (bare_members ms))) p))
  request_puts i k m e at id =
      let v : Envelope body = envelope body (ap has_id e) in
      let ls : Members = v.members in
      let a : Old (codes "params") ls = old_of (codes "params") v.span ls (subst (λ z. value_at (key (codes "params") ∷ path) z ≡ Some (object s ms)) (same_root body v t tree) at) in
      let q : Json = put_at path (object s (put_members new ms)) a.old in
      let parts : (r : Span) × (named (codes "method") ls ≡ Some (string r m)) × (bare a.old ≡ p)
      = request_parts i m p (named (codes "method") ls) (named (codes "error") ls) (named (codes "result") ls) v.id a.old
      (sym (v.is ∙ ap (λ o. by_names (named (codes "method") ls) (Some v.id) o (named (codes "error") ls) (named (codes "result") ls)) a.named_old) ∙ e) in
      let ns : Members = put_named (codes "params") q ls in
      changed_is body w (codes "params") v a.old q id.tree (member_edits text ms) refl refl a.named_old a.swaps id.stands (id_flat id.tree k id.is) (a.shallow parts.2)
      ∙ ap₂ (λ x y. by_names x (Some id.tree) y (named (codes "error") ns) (named (codes "result") ns))
      (named_put_other (codes "params") (codes "method") ls q refl ∙ parts.1) (named_put (codes "params") ls a.old q a.named_old)
      ∙ new_request parts.0 m id.tree q k (named (codes "error") ns) (named (codes "result") ns) id.is a.holds
      ∙ ap (λ z. request k m (Some z)) (a.says_new parts.2)

  pub result_puts : (i k : Option Id) → message_of body ≡ result i p → value_at (key (codes "result") ∷ path) t ≡ Some (object s ms) → IsResponseIdText k w
      → message_of (changed_text body w (member_edits text ms)) ≡ result k (put_at path (object nowhere (put_members new (bare_members ms))) p)
  result_puts i k e at id =
      let v : Envelope body = envelope body (ap has_id e) in
      let ls : Members = v.members in
      let a : Old (codes "result") ls = old_of (codes "result") v.span ls (subst (λ z. value_at (key (codes "result") ∷ path) z ≡ Some (object s ms)) (same_root body v t tree) at) in
      let q : Json = put_at path (object s (put_members new ms)) a.old in
      let was : by_names (named (codes "method") ls) (Some v.id) (named (codes "params") ls) (named (codes "error") ls) (Some a.old) ≡ result i p
      = sym (v.is ∙ ap (λ o. by_names (named (codes "method") ls) (Some v.id) (named (codes "params") ls) (named (codes "error") ls) o) a.named_old) ∙ e in
      let parts : IsResultOf i p (named (codes "method") ls) (named (codes "params") ls) (named (codes "error") ls) (Some a.old) v.id
      = result_of i p (named (codes "method") ls) (named (codes "params") ls) (named (codes "error") ls) (Some a.old) v.id was in
      let ns : Members = put_named (codes "result") q ls in
      changed_is body w (codes "result") v a.old q id.tree (member_edits text ms) refl refl a.named_old a.swaps id.stands (response_flat id.tree k id.is) (a.shallow parts.is)
      ∙ ap₂ (λ x y. by_names x (Some id.tree) y (named (codes "error") ns) (named (codes "result") ns))
      (named_put_other (codes "result") (codes "method") ls q refl) (named_put_other (codes "result") (codes "params") ls q refl)
      ∙ ap₂ (λ x y. by_names (named (codes "method") ls) (Some id.tree) (named (codes "params") ls) x y)
      (named_put_other (codes "result") (codes "error") ls q refl) (named_put (codes "result") ls a.old q a.named_old)
      ∙ new_result i p (named (codes "method") ls) (named (codes "params") ls) (named (codes "error") ls) (Some a.old) v.id id.tree q k was id.is
      ∙ ap (λ z. result k z) (a.says_new parts.is)

  pub notification_puts : (m : List ℕ) → message_of body ≡ notification m (Some p) → value_at (key (codes "params") ∷ path) t ≡ Some (object s ms)
      → message_of (replace body (member_edits text ms)) ≡ notification m (Some (put_at path (object nowhere (put_members new (bare_members ms))) p))
  unfolding value_at
  notification_puts m e at = go t tree at
    where
      by_root : (r : Span) (ls : Members) → tree_of body ≡ Some (object r ls) → Noted m p ls → Old (codes "params") ls
          → message_of (replace body (member_edits text ms)) ≡ notification m (Some (put_at path (object nowhere (put_members new (bare_members ms))) p))
      by_root r ls here n a =
          let q : Json = put_at path (object s (put_members new ms)) a.old in
          let ns : Members = put_named (codes "params") q ls in
          let is : bare a.old ≡ p = n.params a.old a.named_old in
          let sound : IsText body (object r ls) × (depth (object r ls) ≤ 1024) = tree_sound body (object r ls) here in
          let old : depth (object r ls) ≤ 1024 = sound.1 in
          let made : Replaced body (member_edits text ms) (object r ns) = replaced body (member_edits text ms) (object r ls) (object r ns) sound.0
          (in_object r ls ns (member_edits text ms) (named_step (codes "params") ls a.old q (member_edits text ms) a.named_old a.swaps)) in
          message_says (object r ns) (replace body (member_edits text ms)) made.says (omega (arith, a.shallow is, members_deep (codes "params") ls q))
          ∙ ap (λ b. if b then by_method (named (codes "method") ns) ns else not_message)
          (ap₂ (λ b o. b && is_two o) (once_put (codes "params") ls q) (named_put_other (codes "params") (codes "jsonrpc") ls q refl) ∙ n.test)
          ∙ ap (λ o. by_method o ns) (named_put_other (codes "params") (codes "method") ls q refl ∙ n.named_method)
          ∙ ap₂ (λ i o. called m i o) (named_put_other (codes "params") (codes "id") ls q refl ∙ n.no_id) (named_put (codes "params") ls a.old q a.named_old)
          ∙ ap (λ b. notification_if b m (given (Some q))) a.holds.params
          ∙ ap (λ b. notification m (if b then None else Some (bare q))) a.holds.there
          ∙ ap (λ z. notification m (Some z)) (a.says_new is)

      go : (j : Json) → tree_of body ≡ Some j → value_at (key (codes "params") ∷ path) j ≡ Some (object s ms)
          → message_of (replace body (member_edits text ms)) ≡ notification m (Some (put_at path (object nowhere (put_members new (bare_members ms))) p))
      go (object r ls) h g = by_root r ls h (noted m p r ls (sym (message_is body (object r ls) h) ∙ e)) (old_of (codes "params") r ls g)
      go (word r x) h g = absurd (cc)
      go (number r x) h g = absurd (cc)
      go (string r x) h g = absurd (cc)
      go (array r x) h g = absurd (cc)
