-- A body that is no JSON text is no message; one that is has its tree's.
use Rattle.std.proofs.Common.{IfSome, Bool, true, false, ◌&&◌, not, is_some, if◌then◌else◌, MatchOption, ◌≡◌, ℕ, ◌<◌, codes, encode_utf8_all, ◌⊎◌, inl, inr, List, length, Option, Some, None, refl, sym, ◌∙◌, ap, ap₂, subst, ◌≤◌}
use Rattle.json_text.specs.Faults.{IsSyntaxFault, IsDepthFault}
use Rattle.std.specs.Str.{chars}
use Rattle.json_text.specs.declared.span.Span.{Span}
use Rattle.json_text.specs.Json.{Json, word, number, string, array, object, Members, IsText, depth}
use Rattle.json_text.specs.Tree.{tree_of}
use Rattle.json_text.proofs.Laws.{syntax_none, deep_none, tree_complete, tree_sound}
use Rattle.json_span.specs.json_nodes.specs.At.{At, Found}
use Rattle.json_span.specs.json_nodes.specs.Doc.{Doc, Holds}
use Rattle.json_span.specs.json_nodes.proofs.Bounds.{at_inside, root_inside}
use Rattle.json_span.specs.json_nodes.proofs.Numbers.{root_at}
use Rattle.rpc_message.specs.declared.envelope.Envelope.{Envelope}
use Rattle.rpc_message.specs.declared.envelope.Envelope.TheVariants.{Request, Notification, Outcome, Failure}
use Rattle.json_text.specs.Named.{named}
use Rattle.rpc_message.proofs.Bodies.{method_names}
use Rattle.rpc_message.specs.Envelopes.{AreMembers, by_names, Tells, TellsIf, IsRequest, IsNotification, IsOutcome, IsFailure}
use Rattle.rpc_message.specs.Message.{Id, Message, result, error_if, request_if, notification_if, response_with, response_id, id_of, is_null, is_error, is_two, are_params, given, result_tree, no_name_twice, by_method, member_bytes, message_in, message_of, not_json, not_message}
use Rattle.rpc_message.specs.Parsed.{Parsed, IsRead, FoundBare, method_of, error_of, params_in, result_in, error_in}

no_message : (bytes : List ℕ) → tree_of bytes ≡ None → message_of bytes ≡ not_json
unfolding message_of
no_message bytes e = ap message_in e

pub syntax_refused : (bytes : List ℕ) (p : ℕ) → IsSyntaxFault 1024 bytes p → message_of bytes ≡ not_json
syntax_refused bytes p h = no_message bytes (syntax_none bytes p h)

pub depth_refused : (bytes : List ℕ) (p : ℕ) → IsDepthFault 1024 bytes p → message_of bytes ≡ not_json
depth_refused bytes p h = no_message bytes (deep_none bytes p h)

request_taken : (b : Bool) (i : Option Id) (m : List ℕ) (ps : Option Json) → request_if b i m ps ≡ not_json → ⊥
request_taken true (Some i) m ps e = cc
request_taken true None m ps e = cc
request_taken false i m ps e = cc

notification_taken : (b : Bool) (m : List ℕ) (ps : Option Json) → notification_if b m ps ≡ not_json → ⊥
notification_taken true m ps e = cc
notification_taken false m ps e = cc

outcome_taken : (a b : Bool) (i : Option Id) (f r : Json) → (if a then result i r else error_if b i f) ≡ not_json → ⊥
outcome_taken true b i f r e = cc
outcome_taken false true i f r e = cc
outcome_taken false false i f r e = cc

answer_taken : (i : Option (Option Id)) (f v : Option Json) → response_with i f v ≡ not_json → ⊥
answer_taken None f v e = cc
answer_taken (Some i) None v e = cc
answer_taken (Some i) (Some f) v e = outcome_taken (is_null f) (is_error f && not (is_some (given v))) i f (result_tree v) e

called_taken : (o i p f v : Option Json) → by_names o i p f v ≡ not_json → ⊥
called_taken (Some (string s m)) (Some t) p f v e = request_taken (are_params p) (id_of t) m (given p) e
called_taken (Some (string s m)) None p f v e = notification_taken (are_params p) m (given p) e
called_taken (Some (word s w)) i p f v e = cc
called_taken (Some (number s ds)) i p f v e = cc
called_taken (Some (array s js)) i p f v e = cc
called_taken (Some (object s ms)) i p f v e = cc
called_taken None (Some t) p f v e = answer_taken (response_id t) f v e
called_taken None None p f v e = cc

-- a body is no JSON just where it is no text of that depth

not_taken : (bytes : List ℕ) (o : Option Json) → tree_of bytes ≡ o → ((j : Json) → IsText bytes j → depth j ≤ 1024 → ⊥) → message_in o ≡ not_json
not_taken bytes None e h = refl
not_taken bytes (Some j) e h = absurd (let s : IsText bytes j × (depth j ≤ 1024) = tree_sound bytes j e in h j s.0 s.1)

object_taken : (b : Bool) (o : Option Json) (ms : Members) → (if b then by_method o ms else not_message) ≡ not_json → ⊥
object_taken false o ms e = cc
object_taken true o ms e = called_taken o (named (codes "id") ms) (named (codes "params") ms) (named (codes "error") ms) (named (codes "result") ms) (sym (method_names o ms) ∙ e)

pub text_refused : (bytes : List ℕ) → ((j : Json) → IsText bytes j → depth j ≤ 1024 → ⊥) → message_of bytes ≡ not_json
unfolding message_of
text_refused bytes h = not_taken bytes (tree_of bytes) refl h

taken : (j : Json) → message_in (Some j) ≡ not_json → ⊥
taken (object s ms) e = object_taken (no_name_twice ms && is_two (named (codes "jsonrpc") ms)) (named (codes "method") ms) ms e
taken (word s w) e = cc
taken (number s ds) e = cc
taken (string s cs) e = cc
taken (array s js) e = cc

pub refused_text : (bytes : List ℕ) → message_of bytes ≡ not_json → (j : Json) → IsText bytes j → depth j ≤ 1024 → ⊥
unfolding message_of
refused_text bytes e j t d = taken j (sym (ap message_in (tree_complete bytes j t d)) ∙ e)

-- the tree of a text with its nodes is that of its bytes
pub held_tree : (doc : Doc) (j : Json) → Holds doc j → tree_of doc.bytes ≡ Some j
held_tree doc j h = tree_complete doc.bytes j h.text h.shallow

pub has_root : (doc : Doc) (j : Json) (n : ℕ) → Holds doc j → n ≡ length doc.nodes → 0 < n
has_root doc j n h e = subst (λ k. 0 < k) (sym e) (root_inside doc j h)

-- what is said of each tree that stands for a text's value is said of its message
pub told_read : (doc d : Doc) (e : Option Envelope) (bytes : List ℕ) (j : Json) → d ≡ doc → doc.bytes ≡ bytes → Holds doc j → ((j : Json) → At d 0 j → TellsIf d e (message_in (Some j))) → TellsIf doc e (message_of bytes)
unfolding message_of
told_read doc d e bytes j is same h tell =
    subst (λ o. TellsIf doc e (message_in o)) (sym (held_tree doc j h) ∙ ap tree_of same) (subst (λ z. TellsIf z e (message_in (Some j))) is (tell j (subst (λ z. At z 0 j) (sym is) (root_at doc j h))))

-- the numbers that an envelope has
abbrev pub params_at : Envelope → Option ℕ
params_at (Request id n ps) = ps
params_at (Notification n ps) = ps
params_at (Outcome id v) = None
params_at (Failure id n) = None

abbrev pub result_at : Envelope → Option ℕ
result_at (Outcome id v) = v
result_at (Request id n ps) = None
result_at (Notification n ps) = None
result_at (Failure id n) = None

abbrev pub error_at : Envelope → Option ℕ
error_at (Failure id n) = Some n
error_at (Request id n ps) = None
error_at (Notification n ps) = None
error_at (Outcome id v) = None

pub read_is : (doc : Doc) (e : Envelope) (name : Option (List ℕ)) (bytes : List ℕ) (j : Json) → doc.bytes ≡ bytes → Holds doc j → Tells doc e (message_of bytes) → AreMembers doc j e → name ≡ method_of (message_of bytes)
    → IsRead (record { doc = doc; envelope = e; method = name }) bytes
read_is doc e name bytes j same h t a n = record { bytes_are = same; tree = j; holds = h; tells = t; members = a; named = n }

-- what is said of the values of each tree that stands for a text's value is said of its own
pub members_read : (doc d : Doc) (o : Option Envelope) (e : Envelope) (j : Json) → d ≡ doc → Holds doc j → ((j : Json) → At d 0 j → IfSome o (λ x. AreMembers d j x)) → o ≡ Some e → AreMembers doc j e
members_read doc d o e j is h made some = subst (λ z. IfSome z (λ x. AreMembers doc j x)) some (subst (λ z. IfSome o (λ x. AreMembers z j x)) is (made j (subst (λ z. At z 0 j) (sym is) (root_at doc j h))))

-- the values that say what a message is are its members
pub params_stand : (doc : Doc) (e : Envelope) (m : Message) (j : Json) → Tells doc e m → AreMembers doc j e → Found doc (params_in m j) (params_at e)
params_stand doc (Request id n ps) m j t a = subst (λ z. Found doc (params_in z j) ps) (sym t.is) a.1.1
params_stand doc (Notification n ps) m j t a = subst (λ z. Found doc (params_in z j) ps) (sym t.is) a.1
params_stand doc (Outcome id v) m j t a = subst (λ z. Found doc (params_in z j) None) (sym t.is) tt
params_stand doc (Failure id n) m j t a = subst (λ z. Found doc (params_in z j) None) (sym t.is) tt

pub result_stands : (doc : Doc) (e : Envelope) (m : Message) (j : Json) → Tells doc e m → AreMembers doc j e → Found doc (result_in m j) (result_at e)
result_stands doc (Outcome id v) m j t a = subst (λ z. Found doc (result_in z j) v) (sym t.is) a.1
result_stands doc (Request id n ps) m j t a = subst (λ z. Found doc (result_in z j) None) (sym t.is) tt
result_stands doc (Notification n ps) m j t a = subst (λ z. Found doc (result_in z j) None) (sym t.is) tt
result_stands doc (Failure id n) m j t a = subst (λ z. Found doc (result_in z j) None) (sym t.is) tt

pub error_stands : (doc : Doc) (e : Envelope) (m : Message) (j : Json) → Tells doc e m → AreMembers doc j e → Found doc (error_in m j) (error_at e)
error_stands doc (Failure id n) m j t a = subst (λ z. Found doc (error_in z j) (Some n)) (sym t.is) a.1
error_stands doc (Request id n ps) m j t a = subst (λ z. Found doc (error_in z j) None) (sym t.is) tt
error_stands doc (Notification n ps) m j t a = subst (λ z. Found doc (error_in z j) None) (sym t.is) tt
error_stands doc (Outcome id v) m j t a = subst (λ z. Found doc (error_in z j) None) (sym t.is) tt

-- the same of a body that was read, where its envelope is this one
module _ (k : Parsed) (e : Envelope) (same : e ≡ k.envelope) (bytes : List ℕ) (r : IsRead k bytes) where
  pub params_member : (answer : Option ℕ) → params_at e ≡ answer → Found k.doc (params_in (message_of bytes) r.tree) answer
  params_member answer is = subst (λ o. Found k.doc (params_in (message_of bytes) r.tree) o) (ap params_at (sym same) ∙ is) (params_stand k.doc k.envelope (message_of bytes) r.tree r.tells r.members)

  pub result_member : (answer : Option ℕ) → result_at e ≡ answer → Found k.doc (result_in (message_of bytes) r.tree) answer
  result_member answer is = subst (λ o. Found k.doc (result_in (message_of bytes) r.tree) o) (ap result_at (sym same) ∙ is) (result_stands k.doc k.envelope (message_of bytes) r.tree r.tells r.members)

  pub error_member : (answer : Option ℕ) → error_at e ≡ answer → Found k.doc (error_in (message_of bytes) r.tree) answer
  error_member answer is = subst (λ o. Found k.doc (error_in (message_of bytes) r.tree) o) (ap error_at (sym same) ∙ is) (error_stands k.doc k.envelope (message_of bytes) r.tree r.tells r.members)

-- what is said of a text with its nodes holds of the body that was read
pub read_bytes : (m : Parsed) (bytes w cs : List ℕ) (d : Doc) → d ≡ m.doc → IsRead m bytes → ((j : Json) → Holds d j → w ≡ member_bytes (chars cs) d.bytes) → chars cs ≡ cs → w ≡ member_bytes cs bytes
read_bytes m bytes w cs d same r h plain =
    h r.tree (subst (λ e. Holds e r.tree) (sym same) r.holds) ∙ ap₂ (λ z b. member_bytes z b) plain (ap (λ (e : Doc). e.bytes) same ∙ r.bytes_are)

pub result_chars : chars (codes "result") ≡ codes "result"
unfolding chars
result_chars = refl

-- the values that an envelope names are values of the text

pub found_inside : (doc : Doc) (o : Option Json) (found : Option ℕ) → Found doc o found → MatchOption found (Unit {0}) (λ n. n < length doc.nodes)
found_inside doc (Some t) (Some n) h = at_inside h
found_inside doc None None h = tt
found_inside doc (Some t) None h = absurd h
found_inside doc None (Some n) h = absurd h

-- an envelope with a method
abbrev pub Calls : Envelope → ℕ → Type 0
Calls e n = ((id : ℕ) × (params : Option ℕ) × (e ≡ Request id n params)) ⊎ ((params : Option ℕ) × (e ≡ Notification n params))

pub method_inside : (doc : Doc) (e : Envelope) (n : ℕ) (m : Message) → Calls e n → Tells doc e m → n < length doc.nodes
method_inside doc e n m (inl k) t = let q : IsRequest doc k.0 n k.1 m = subst (λ z. Tells doc z m) k.2 t in at_inside q.method_stands
method_inside doc e n m (inr k) t = let q : IsNotification doc n k.0 m = subst (λ z. Tells doc z m) k.1 t in at_inside q.method_stands

pub method_named : (doc : Doc) (e : Envelope) (n : ℕ) (w : List ℕ) → Calls e n → ((s : Span) (cs : List ℕ) → At doc n (string s cs) → w ≡ encode_utf8_all cs) → (m : Message) → Tells doc e m → Some w ≡ method_of m
method_named doc e n w (inl k) h m t = let q : IsRequest doc k.0 n k.1 m = subst (λ z. Tells doc z m) k.2 t in ap Some (h q.span q.method q.method_stands) ∙ sym (ap method_of q.is)
method_named doc e n w (inr k) h m t = let q : IsNotification doc n k.0 m = subst (λ z. Tells doc z m) k.1 t in ap Some (h q.span q.method q.method_stands) ∙ sym (ap method_of q.is)

-- an envelope with params
abbrev pub Gives : Envelope → Option ℕ → Type 0
Gives e ps = ((id n : ℕ) × (e ≡ Request id n ps)) ⊎ ((n : ℕ) × (e ≡ Notification n ps))

pub params_inside : (m k : Parsed) (bytes : List ℕ) (ps : Option ℕ) → m ≡ k → IsRead m bytes → Gives m.envelope ps → MatchOption ps (Unit {0}) (λ n. n < length k.doc.nodes)
params_inside m k bytes ps same r (inl g) =
    let q : IsRequest m.doc g.0 g.1 ps (message_of bytes) = subst (λ z. Tells m.doc z (message_of bytes)) g.2 r.tells in
    subst (λ (z : Parsed). MatchOption ps (Unit {0}) (λ n. n < length z.doc.nodes)) same (found_inside m.doc q.params ps q.params_stand)
params_inside m k bytes ps same r (inr g) =
    let q : IsNotification m.doc g.0 ps (message_of bytes) = subst (λ z. Tells m.doc z (message_of bytes)) g.1 r.tells in
    subst (λ (z : Parsed). MatchOption ps (Unit {0}) (λ n. n < length z.doc.nodes)) same (found_inside m.doc q.params ps q.params_stand)

pub result_inside : (m k : Parsed) (bytes : List ℕ) (id : ℕ) (v : Option ℕ) → m ≡ k → IsRead m bytes → m.envelope ≡ Outcome id v → MatchOption v (Unit {0}) (λ n. n < length k.doc.nodes)
result_inside m k bytes id v same r e =
    let q : IsOutcome m.doc id v (message_of bytes) = subst (λ z. Tells m.doc z (message_of bytes)) e r.tells in
    subst (λ (z : Parsed). MatchOption v (Unit {0}) (λ n. n < length z.doc.nodes)) same (found_inside m.doc q.value v q.value_stands)

pub error_inside : (m k : Parsed) (bytes : List ℕ) (id n : ℕ) → m ≡ k → IsRead m bytes → m.envelope ≡ Failure id n → n < length k.doc.nodes
error_inside m k bytes id n same r e =
    let q : IsFailure m.doc id n (message_of bytes) = subst (λ z. Tells m.doc z (message_of bytes)) e r.tells in
    subst (λ (z : Parsed). n < length z.doc.nodes) same (at_inside q.failure_stands)

pub error_found : (m : Parsed) (e : Envelope) (id n : ℕ) → e ≡ m.envelope → e ≡ Failure id n → (bytes : List ℕ) → IsRead m bytes → FoundBare m.doc (error_of (message_of bytes)) (Some n)
error_found m e id n same is bytes r =
    let q : IsFailure m.doc id n (message_of bytes) = subst (λ z. Tells m.doc z (message_of bytes)) (sym same ∙ is) r.tells in
    record { value = Some q.failure; stands = q.failure_stands; is = ap error_of q.is }
