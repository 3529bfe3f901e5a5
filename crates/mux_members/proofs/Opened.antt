-- The document that a notification opens (LSP 3.17, DidOpenTextDocumentParams).
use Rattle.std.proofs.Common.{◌≡◌, ℕ, Bool, true, false, ◌&&◌, List, codes, Option, Some, None, refl, sym, ◌∙◌, ap, subst, Result, Ok, IfOk}
use Rattle.std.specs.Prelude.{bytes_eq, is_some, option_map, if◌then◌else◌}
use Rattle.std.specs.Option.{option_and_then}
use Rattle.std.proofs.lemmas.Bool.{and_parts}
use Rattle.json_text.specs.declared.span.Span.{Span}
use Rattle.json_text.specs.Bare.{bare}
use Rattle.json_text.specs.Json.{Json, word, number, string, array, object}
use Rattle.json_nodes.specs.At.{Found}
use Rattle.json_nodes.specs.Doc.{Doc}
use Rattle.rpc_message.specs.declared.envelope.Envelope.{Envelope}
use Rattle.rpc_message.specs.declared.envelope.Envelope.TheVariants.{Request, Notification, Outcome, Failure}
use Rattle.rpc_message.specs.Envelopes.{Tells}
use Rattle.rpc_message.specs.Message.{Message, is_integer_value, is_string_value}
use Rattle.mux_model.specs.Sayings.{Saying, opens, changes, closes, misshapen, nothing, changing, changing_by, closing, closing_by, integer_text, member_of, opening, opening_by, saying_by, saying_of, string_text}
use Rattle.mux_model.specs.event_model.specs.Members.{named_of}
use Rattle.mux_members.specs.declared.notice.Notice.{Notice}
use Rattle.mux_members.specs.declared.notice.Notice.TheVariants.{Opens, Changes, Closes, Nothing}
use Rattle.mux_members.specs.Envelopes.{notification_method, notification_params}
use Rattle.mux_members.specs.Notices.{Says, is_whole, uri_opened}
use Rattle.mux_members.proofs.Notices.{member_same}
use Rattle.mux_members.proofs.Spoken.{says_bare}

-- the parts of a value

string_there : (x : Option Json) → is_string_value x ≡ true → (t : List ℕ) × (option_and_then string_text x ≡ Some t)
string_there (Some (string s cs)) h = (_, refl)
string_there (Some (word s w)) h = absurd (cc)
string_there (Some (number s ds)) h = absurd (cc)
string_there (Some (array s js)) h = absurd (cc)
string_there (Some (object s ms)) h = absurd (cc)
string_there None h = absurd (cc)

string_off : (x : Option Json) → is_string_value x ≡ false → option_and_then string_text x ≡ None
string_off (Some (string s cs)) h = absurd (cc)
string_off (Some (word s w)) h = refl
string_off (Some (number s ds)) h = refl
string_off (Some (array s js)) h = refl
string_off (Some (object s ms)) h = refl
string_off None h = refl

integer_there : (x : Option Json) → is_integer_value x ≡ true → (t : List ℕ) × (option_and_then integer_text x ≡ Some t)
integer_there (Some (number s ds)) h = (ds, ap (λ b. if b then Some ds else None) h)
integer_there (Some (word s w)) h = absurd (cc)
integer_there (Some (string s cs)) h = absurd (cc)
integer_there (Some (array s js)) h = absurd (cc)
integer_there (Some (object s ms)) h = absurd (cc)
integer_there None h = absurd (cc)

integer_off : (x : Option Json) → is_integer_value x ≡ false → option_and_then integer_text x ≡ None
integer_off (Some (number s ds)) h = ap (λ b. if b then Some ds else None) h
integer_off (Some (word s w)) h = refl
integer_off (Some (string s cs)) h = refl
integer_off (Some (array s js)) h = refl
integer_off (Some (object s ms)) h = refl
integer_off None h = refl

-- what an opening opens, by its parts

abbrev opened : Option (List ℕ) → Option (List ℕ) → Option (List ℕ) → Option (List ℕ) → Option (List ℕ)
opened u l v t = uri_opened (opening u l v t)

all_there : (u : Option (List ℕ)) (l v t : List ℕ) → opened u (Some l) (Some v) (Some t) ≡ u
all_there (Some u) l v t = refl
all_there None l v t = refl

no_language : (u v t : Option (List ℕ)) → opened u None v t ≡ None
no_language (Some u) v t = refl
no_language None v t = refl

no_version : (u l t : Option (List ℕ)) → opened u l None t ≡ None
no_version (Some u) (Some l) t = refl
no_version (Some u) None t = refl
no_version None l t = refl

no_text : (u l v : Option (List ℕ)) → opened u l v None ≡ None
no_text (Some u) (Some l) (Some v) = refl
no_text (Some u) (Some l) None = refl
no_text (Some u) None v = refl
no_text None l v = refl

module _ (o : Option Json) where
  abbrev at : List ℕ → Option (List ℕ)
  at name = option_and_then string_text (named_of name o)

  abbrev number_at : Option (List ℕ)
  number_at = option_and_then integer_text (named_of (codes "version") o)

  -- by the members themselves
  by_names : uri_opened (opening_by o) ≡ opened (at (codes "uri")) (at (codes "languageId")) number_at (at (codes "text"))
  by_names = sym (
      ap (λ z. opened (option_and_then string_text z) (at (codes "languageId")) number_at (at (codes "text"))) (member_same (codes "uri") o)
      ∙ ap (λ z. opened (option_and_then string_text (member_of (codes "uri") o)) (option_and_then string_text z) number_at (at (codes "text"))) (member_same (codes "languageId") o)
      ∙ ap (λ z. opened (option_and_then string_text (member_of (codes "uri") o)) (option_and_then string_text (member_of (codes "languageId") o)) (option_and_then integer_text z) (at (codes "text"))) (member_same (codes "version") o)
      ∙ ap (λ z. opened (option_and_then string_text (member_of (codes "uri") o)) (option_and_then string_text (member_of (codes "languageId") o)) (option_and_then integer_text (member_of (codes "version") o)) (option_and_then string_text z)) (member_same (codes "text") o)
      )

  pub opened_whole : is_whole o ≡ true → uri_opened (opening_by o) ≡ option_and_then string_text (member_of (codes "uri") o)
  opened_whole h =
      let first = and_parts _ _ h in
      let rest = and_parts _ _ first.1 in
      let l = string_there (named_of (codes "languageId") o) first.0 in
      let v = integer_there (named_of (codes "version") o) rest.0 in
      let t = string_there (named_of (codes "text") o) rest.1 in
      by_names
      ∙ (ap (λ z. opened (at (codes "uri")) z number_at (at (codes "text"))) l.1
      ∙ (ap (λ z. opened (at (codes "uri")) (Some l.0) z (at (codes "text"))) v.1
      ∙ (ap (λ z. opened (at (codes "uri")) (Some l.0) (Some v.0) z) t.1
      ∙ (all_there (at (codes "uri")) l.0 v.0 t.0 ∙ ap (option_and_then string_text) (member_same (codes "uri") o)))))

  pub opened_partly : is_whole o ≡ false → uri_opened (opening_by o) ≡ None
  opened_partly h = by_names ∙ go (is_string_value (named_of (codes "languageId") o)) (is_integer_value (named_of (codes "version") o)) (is_string_value (named_of (codes "text") o)) refl refl refl h
    where
      go : (a b c : Bool) → is_string_value (named_of (codes "languageId") o) ≡ a → is_integer_value (named_of (codes "version") o) ≡ b → is_string_value (named_of (codes "text") o) ≡ c → (a && (b && c)) ≡ false
          → opened (at (codes "uri")) (at (codes "languageId")) number_at (at (codes "text")) ≡ None
      go false b c l v t k = ap (λ z. opened (at (codes "uri")) z number_at (at (codes "text"))) (string_off (named_of (codes "languageId") o) l) ∙ no_language (at (codes "uri")) number_at (at (codes "text"))
      go true false c l v t k = ap (λ z. opened (at (codes "uri")) (at (codes "languageId")) z (at (codes "text"))) (integer_off (named_of (codes "version") o) v) ∙ no_version (at (codes "uri")) (at (codes "languageId")) (at (codes "text"))
      go true true false l v t k = ap (λ z. opened (at (codes "uri")) (at (codes "languageId")) number_at z) (string_off (named_of (codes "text") o) t) ∙ no_text (at (codes "uri")) (at (codes "languageId")) number_at
      go true true true l v t k = absurd (cc)

-- what notifications of other methods open

none_changed : (u v : Option (List ℕ)) (cs : Option Json) → uri_opened (changing u v cs) ≡ None
none_changed (Some u) (Some v) (Some cs) = refl
none_changed (Some u) (Some v) None = refl
none_changed (Some u) None cs = refl
none_changed None v cs = refl

none_closed : (u : Option (List ℕ)) → uri_opened (closing u) ≡ None
none_closed (Some u) = refl
none_closed None = refl

others_open : (x y z : Bool) (a b c : Saying) → x ≡ false → uri_opened b ≡ None → uri_opened c ≡ None → uri_opened (if x then a else if y then b else if z then c else nothing) ≡ None
others_open false true z a b c off h k = h
others_open false false true a b c off h k = k
others_open false false false a b c off h k = refl
others_open true y z a b c off h k = absurd (cc)

pub opened_other : (cs : List ℕ) (o : Option Json) → bytes_eq (codes "textDocument/didOpen") cs ≡ false → uri_opened (saying_by cs o) ≡ None
opened_other cs o off = others_open (bytes_eq (codes "textDocument/didOpen") cs) (bytes_eq (codes "textDocument/didChange") cs) (bytes_eq (codes "textDocument/didClose") cs)
    (opening_by (member_of (codes "textDocument") o)) (changing_by (member_of (codes "textDocument") o) (member_of (codes "contentChanges") o)) (closing_by (member_of (codes "textDocument") o)) off
    (none_changed (option_and_then string_text (member_of (codes "uri") (member_of (codes "textDocument") o))) (option_and_then integer_text (member_of (codes "version") (member_of (codes "textDocument") o))) (member_of (codes "contentChanges") o))
    (none_closed (option_and_then string_text (member_of (codes "uri") (member_of (codes "textDocument") o))))

-- without places

same_opened : (x y : Saying) → ((n : Notice) → Says n x → Says n y) → uri_opened x ≡ uri_opened y
same_opened (opens u l v t) (opens a b c d) h = let k = h (Opens u l v t) (refl, refl, refl, refl) in ap (λ (z : List ℕ). Some z) k.0
same_opened (opens u l v t) (changes a b c) h = absurd (h (Opens u l v t) (refl, refl, refl, refl))
same_opened (opens u l v t) (closes a) h = absurd (h (Opens u l v t) (refl, refl, refl, refl))
same_opened (opens u l v t) misshapen h = absurd (h (Opens u l v t) (refl, refl, refl, refl))
same_opened (opens u l v t) nothing h = absurd (h (Opens u l v t) (refl, refl, refl, refl))
same_opened (changes u v cs) (opens a b c d) h = absurd (h Changes tt)
same_opened (changes u v cs) other h = refl
same_opened (closes u) (opens a b c d) h = absurd (h (Closes u) refl)
same_opened (closes u) other h = refl
same_opened misshapen (opens a b c d) h = absurd (h Nothing tt)
same_opened misshapen other h = refl
same_opened nothing (opens a b c d) h = absurd (h Nothing tt)
same_opened nothing other h = refl

pub opened_bare : (cs : List ℕ) (o : Option Json) → uri_opened (saying_by cs o) ≡ uri_opened (saying_by cs (option_map bare o))
opened_bare cs o = same_opened (saying_by cs o) (saying_by cs (option_map bare o)) (λ n. says_bare n cs o)

if_ok_is : {E : Type 0} (r : Result (Option (List ℕ)) E) (x y : Option (List ℕ)) → x ≡ y → IfOk r (λ u. u ≡ x) → IfOk r (λ u. u ≡ y)
if_ok_is r x y is h = subst (λ z. IfOk r (λ u. u ≡ z)) is h

pub told_uri : {E : Type 0} (doc : Doc) (e : Envelope) (m : Message) (r : Result (Option (List ℕ)) E) → Tells doc e m → is_some (notification_method e) ≡ true
    → ((s : Span) (cs : List ℕ) (o : Option Json) → Found doc (Some (string s cs)) (notification_method e) → Found doc o (notification_params e) → IfOk r (λ u. u ≡ uri_opened (saying_by cs o))) → IfOk r (λ u. u ≡ uri_opened (saying_of m))
told_uri doc (Notification method params) m r t h tell = if_ok_is r (uri_opened (saying_by t.method t.params)) (uri_opened (saying_of m)) (opened_bare t.method t.params ∙ ap (λ z. uri_opened (saying_of z)) (sym t.is)) (tell t.span t.method t.params t.method_stands t.params_stand)
told_uri doc (Request id method params) m r t h tell = absurd (cc)
told_uri doc (Outcome id value) m r t h tell = absurd (cc)
told_uri doc (Failure id failure) m r t h tell = absurd (cc)

pub told_none : (doc : Doc) (e : Envelope) (m : Message) → Tells doc e m → is_some (notification_method e) ≡ false → ◌≡◌ {A = Option (List ℕ)} None (uri_opened (saying_of m))
told_none doc (Notification method params) m t h = absurd (cc)
told_none doc (Request id method params) m t h = sym (ap (λ z. uri_opened (saying_of z)) t.is)
told_none doc (Outcome id value) m t h = sym (ap (λ z. uri_opened (saying_of z)) t.is)
told_none doc (Failure id failure) m t h = sym (ap (λ z. uri_opened (saying_of z)) t.is)
