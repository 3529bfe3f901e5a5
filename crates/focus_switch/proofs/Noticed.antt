-- What a didChange says, and its versions.
use Rattle.std.proofs.Common.{◌≡◌, ℕ, List, codes, refl, sym, ◌∙◌, ap, ap₂, subst}
use Rattle.std.specs.Prelude.{Option, Some, None, Result, IfOk, bytes_eq, if◌then◌else◌}
use Rattle.std.specs.Option.{option_and_then}
use Rattle.std.specs.Str.{chars}
use Rattle.json_text.specs.declared.span.Span.{Span}
use Rattle.json_text.specs.declared.kind.Kind.{Kind}
use Rattle.json_text.specs.declared.kind.Kind.TheVariants as kind
use Rattle.json_text.specs.Json.{Json, number, value, span_of}
use Rattle.json_nodes.specs.At.{At, Found}
use Rattle.json_nodes.specs.Doc.{Doc}
use Rattle.json_nodes.specs.Nodes.{kind_of}
use Rattle.json_nodes.specs.Puts.{put_edits}
use Rattle.json_nodes.proofs.Sames.{number_of}
use Rattle.document_table.specs.rpc_message.specs.Message.{is_integer}
use Rattle.focus_switch.specs.declared.notice.Change.{Change}
use Rattle.document_table.specs.document_model.specs.Notices.{did_change, did_change_of, integer_text, uri_in, version_in, changes_in, new_version}
use Rattle.focus_switch.specs.Noted.{FoundChange, made}

-- the characters of the names

pub params_chars : chars (codes "params") ≡ codes "params"
unfolding chars
params_chars = refl

pub document_chars : chars (codes "textDocument") ≡ codes "textDocument"
unfolding chars
document_chars = refl

pub uri_chars : chars (codes "uri") ≡ codes "uri"
unfolding chars
uri_chars = refl

pub version_chars : chars (codes "version") ≡ codes "version"
unfolding chars
version_chars = refl

pub changes_chars : chars (codes "contentChanges") ≡ codes "contentChanges"
unfolding chars
changes_chars = refl

pub found_some : (doc : Doc) (o : Option Json) (k : ℕ) → Found doc o (Some k) → (t : Json) × (o ≡ Some t) × At doc k t
found_some doc None k h = absurd h
found_some doc (Some t) k h = (t, refl, h)

-- an integer

number_told : {E : Type 0} (t : Json) (x : Kind) (at : ℕ) (w : List ℕ) (r : Result (Option (List ℕ)) E) → x ≡ kind.Number → x ≡ kind_of t → value t at w → IfOk r (λ text. text ≡ (if is_integer w then Some w else None)) → IfOk r (λ text. text ≡ integer_text t)
number_told t x at w r e f v h = let k : (s : Span) × (ds : List ℕ) × (t ≡ number s ds) = number_of t (sym f ∙ e) in go k.0 k.1 k.2
  where
    go : (s : Span) (ds : List ℕ) → t ≡ number s ds → IfOk r (λ text. text ≡ integer_text t)
    go s ds g =
        let spelled : value (number s ds) at w = subst (λ z. value z at w) g v in
        let is : (if is_integer w then Some w else None) ≡ integer_text t = ap (λ (z : List ℕ). if is_integer z then Some z else None) spelled.0.0 ∙ sym (ap integer_text g) in
        subst (λ z. IfOk r (λ text. text ≡ z)) is h

pub integer_found : {E : Type 0} (doc d : Doc) (o : Option Json) (n : ℕ) (x : Kind) (w : List ℕ) (r : Result (Option (List ℕ)) E) → x ≡ kind.Number → d ≡ doc → ((t : Json) → At doc n t → x ≡ kind_of t)
    → ((t : Json) → At d n t → value t (span_of t).from w) → IfOk r (λ text. text ≡ (if is_integer w then Some w else None)) → Found doc o (Some n) → IfOk r (λ text. text ≡ option_and_then integer_text o)
integer_found doc d o n x w r e same told text h f = let q : (t : Json) × (o ≡ Some t) × At doc n t = found_some doc o n f in
    subst (λ z. IfOk r (λ text. text ≡ option_and_then integer_text z)) (sym q.1) (number_told q.0 x (span_of q.0).from w r e (told q.0 q.2) (text q.0 (subst (λ z. At z n q.0) (sym same) q.2)) h)

-- the parts of a didChange

found_parts : (doc : Doc) (u v : Option (List ℕ)) (o : Option Json) (k : Option ℕ) → Found doc o k → FoundChange doc (did_change_of u v o) (made u v k)
found_parts doc None v o k f = tt
found_parts doc (Some u) None o k f = tt
found_parts doc (Some u) (Some v) None None f = tt
found_parts doc (Some u) (Some v) None (Some k) f = absurd f
found_parts doc (Some u) (Some v) (Some t) None f = absurd f
found_parts doc (Some u) (Some v) (Some t) (Some k) f = (refl, refl, f)

pub change_found : (doc : Doc) (t : Json) (u v : Option (List ℕ)) (k : Option ℕ) (c : Option Change) → c ≡ made u v k → u ≡ uri_in t → v ≡ version_in t → Found doc (changes_in t) k → FoundChange doc (did_change t) c
change_found doc t u v k c is e f h = subst (λ z. FoundChange doc (did_change t) z) (sym is) (subst (λ z. FoundChange doc z (made u v k)) (ap₂ (λ a b. did_change_of a b (changes_in t)) e f) (found_parts doc u v (changes_in t) k h))

-- versions

pub version_edits : (text : List ℕ) (t : Json) → put_edits (λ cs. if bytes_eq (chars (codes "version")) cs then Some text else None) t ≡ put_edits (new_version text) t
version_edits text t = ap (λ z. put_edits (λ cs. if bytes_eq z cs then Some text else None) t) version_chars
