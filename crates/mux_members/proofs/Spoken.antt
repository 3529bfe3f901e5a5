-- What a message says of a document.
use Rattle.std.proofs.Common.{◌≡◌, ℕ, Bool, true, false, ◌||◌, List, codes, Option, Some, None, Result, IfOk, Ok, Err, refl, sym, ◌∙◌, ap, ap₂, subst}
use Rattle.std.specs.Prelude.{bytes_eq, is_some, option_map, if◌then◌else◌}
use Rattle.std.specs.Option.{option_and_then}
use Rattle.json_text.specs.declared.span.Span.{Span}
use Rattle.json_text.specs.Bare.{bare}
use Rattle.json_text.specs.Json.{Json, word, number, string, array, object}
use Rattle.json_nodes.specs.At.{At, Found}
use Rattle.json_nodes.specs.Doc.{Doc}
use Rattle.rpc_message.specs.declared.envelope.Envelope.{Envelope}
use Rattle.rpc_message.specs.declared.envelope.Envelope.TheVariants.{Request, Notification, Outcome, Failure}
use Rattle.rpc_message.specs.Envelopes.{Tells}
use Rattle.rpc_message.specs.Message.{Message}
use Rattle.mux_model.specs.Sayings.{string_text}
use Rattle.mux_model.specs.Sayings.{integer_text}
use Rattle.mux_model.specs.Sayings.{Saying, nothing, member_of, string_at, integer_at, opening, changing, closing, opening_by, changing_by, closing_by, saying_by, saying_of, speaks}
use Rattle.mux_members.specs.declared.notice.Notice.{Notice}
use Rattle.mux_members.specs.declared.notice.Notice.TheVariants.{Opens, Changes, Closes, Nothing}
use Rattle.mux_members.specs.Envelopes.{notification_method, notification_params}
use Rattle.mux_members.specs.Notices.{Says, is_of_documents}
use Rattle.mux_members.proofs.Bared.{in_bare}

-- whether a message speaks of a document

speaks_opening : (u l v t : Option (List ℕ)) → speaks (opening u l v t) ≡ true
speaks_opening (Some u) (Some l) (Some v) (Some t) = refl
speaks_opening (Some u) (Some l) (Some v) None = refl
speaks_opening (Some u) (Some l) None t = refl
speaks_opening (Some u) None v t = refl
speaks_opening None l v t = refl

speaks_changing : (u v : Option (List ℕ)) (cs : Option Json) → speaks (changing u v cs) ≡ true
speaks_changing (Some u) (Some v) (Some cs) = refl
speaks_changing (Some u) (Some v) None = refl
speaks_changing (Some u) None cs = refl
speaks_changing None v cs = refl

speaks_closing : (u : Option (List ℕ)) → speaks (closing u) ≡ true
speaks_closing (Some u) = refl
speaks_closing None = refl

speaks_any : (x y z : Bool) (a b c : Saying) → speaks a ≡ true → speaks b ≡ true → speaks c ≡ true → (x || (y || z)) ≡ speaks (if x then a else if y then b else if z then c else nothing)
speaks_any true y z a b c e f g = sym e
speaks_any false true z a b c e f g = sym f
speaks_any false false true a b c e f g = sym g
speaks_any false false false a b c e f g = refl

speaks_by : (cs : List ℕ) (o : Option Json) → is_of_documents cs ≡ speaks (saying_by cs o)
speaks_by cs o =
    let d : Option Json = member_of (codes "textDocument") o in
    let edits : Option Json = member_of (codes "contentChanges") o in
    speaks_any (bytes_eq (codes "textDocument/didOpen") cs) (bytes_eq (codes "textDocument/didChange") cs) (bytes_eq (codes "textDocument/didClose") cs) (opening_by d) (changing_by d edits) (closing_by d)
    (speaks_opening (string_at (codes "uri") d) (string_at (codes "languageId") d) (integer_at (codes "version") d) (string_at (codes "text") d))
    (speaks_changing (string_at (codes "uri") d) (integer_at (codes "version") d) edits)
    (speaks_closing (string_at (codes "uri") d))

pub told_speaks : (doc : Doc) (e : Envelope) (m : Message) (b : Bool) (n : ℕ) → Tells doc e m → notification_method e ≡ Some n → ((s : Span) (cs : List ℕ) → At doc n (string s cs) → b ≡ is_of_documents cs) → b ≡ speaks (saying_of m)
told_speaks doc (Notification method params) m b n t h tell =
    let same : method ≡ n = cc in
    tell t.span t.method (subst (λ i. At doc i (string t.span t.method)) same t.method_stands) ∙ speaks_by t.method (option_map bare t.params) ∙ sym (ap (λ z. speaks (saying_of z)) t.is)
told_speaks doc (Request id method params) m b n t h tell = absurd (cc)
told_speaks doc (Outcome id value) m b n t h tell = absurd (cc)
told_speaks doc (Failure id failure) m b n t h tell = absurd (cc)

pub told_nothing : (doc : Doc) (e : Envelope) (m : Message) → Tells doc e m → is_some (notification_method e) ≡ false → Says Nothing (saying_of m)
told_nothing doc (Notification method params) m t h = absurd (cc)
told_nothing doc (Request id method params) m t h = subst (λ z. Says Nothing z) (sym (ap saying_of t.is)) tt
told_nothing doc (Outcome id value) m t h = subst (λ z. Says Nothing z) (sym (ap saying_of t.is)) tt
told_nothing doc (Failure id failure) m t h = subst (λ z. Says Nothing z) (sym (ap saying_of t.is)) tt

-- without places

member_bare : (name : List ℕ) (o : Option Json) → member_of name (option_map bare o) ≡ option_map bare (member_of name o)
member_bare name None = refl
member_bare name (Some j) = in_bare name j

text_bare : (o : Option Json) → option_and_then string_text (option_map bare o) ≡ option_and_then string_text o
text_bare None = refl
text_bare (Some (string s cs)) = refl
text_bare (Some (word s w)) = refl
text_bare (Some (number s ds)) = refl
text_bare (Some (array s js)) = refl
text_bare (Some (object s ms)) = refl

digits_bare : (o : Option Json) → option_and_then integer_text (option_map bare o) ≡ option_and_then integer_text o
digits_bare None = refl
digits_bare (Some (string s cs)) = refl
digits_bare (Some (word s w)) = refl
digits_bare (Some (number s ds)) = refl
digits_bare (Some (array s js)) = refl
digits_bare (Some (object s ms)) = refl

string_same : (name : List ℕ) (o : Option Json) → string_at name (option_map bare o) ≡ string_at name o
string_same name o = ap (λ z. option_and_then string_text z) (member_bare name o) ∙ text_bare (member_of name o)

integer_same : (name : List ℕ) (o : Option Json) → integer_at name (option_map bare o) ≡ integer_at name o
integer_same name o = ap (λ z. option_and_then integer_text z) (member_bare name o) ∙ digits_bare (member_of name o)

opening_bare : (d : Option Json) → opening_by d ≡ opening_by (option_map bare d)
opening_bare d = sym (
    ap (λ z. opening z (string_at (codes "languageId") (option_map bare d)) (integer_at (codes "version") (option_map bare d)) (string_at (codes "text") (option_map bare d))) (string_same (codes "uri") d)
    ∙ ap (λ z. opening (string_at (codes "uri") d) z (integer_at (codes "version") (option_map bare d)) (string_at (codes "text") (option_map bare d))) (string_same (codes "languageId") d)
    ∙ ap (λ z. opening (string_at (codes "uri") d) (string_at (codes "languageId") d) z (string_at (codes "text") (option_map bare d))) (integer_same (codes "version") d)
    ∙ ap (λ z. opening (string_at (codes "uri") d) (string_at (codes "languageId") d) (integer_at (codes "version") d) z) (string_same (codes "text") d)
    )

says_changing : (n : Notice) (u v : Option (List ℕ)) (cs : Option Json) → Says n (changing u v cs) → Says n (changing u v (option_map bare cs))
says_changing Changes (Some u) (Some v) (Some cs) h = tt
says_changing (Opens a l w t) (Some u) (Some v) (Some cs) h = h
says_changing (Closes a) (Some u) (Some v) (Some cs) h = h
says_changing Nothing (Some u) (Some v) (Some cs) h = h
says_changing n (Some u) (Some v) None h = h
says_changing n (Some u) None cs h = h
says_changing n None v cs h = h

changing_bare : (n : Notice) (d cs : Option Json) → Says n (changing_by d cs) → Says n (changing_by (option_map bare d) (option_map bare cs))
changing_bare n d cs h = subst (λ z. Says n z) (sym (ap₂ (λ u v. changing u v (option_map bare cs)) (string_same (codes "uri") d) (integer_same (codes "version") d))) (says_changing n (string_at (codes "uri") d) (integer_at (codes "version") d) cs h)

closing_bare : (d : Option Json) → closing_by d ≡ closing_by (option_map bare d)
closing_bare d = ap closing (sym (string_same (codes "uri") d))

moved : (n : Notice) (x y z : Bool) (a b c d e f : Saying) → a ≡ d → (Says n b → Says n e) → c ≡ f → Says n (if x then a else if y then b else if z then c else nothing) → Says n (if x then d else if y then e else if z then f else nothing)
moved n true y z a b c d e f p q r h = subst (λ z. Says n z) p h
moved n false true z a b c d e f p q r h = q h
moved n false false true a b c d e f p q r h = subst (λ z. Says n z) r h
moved n false false false a b c d e f p q r h = h

pub says_bare : (n : Notice) (cs : List ℕ) (o : Option Json) → Says n (saying_by cs o) → Says n (saying_by cs (option_map bare o))
says_bare n cs o h =
    let d : Option Json = member_of (codes "textDocument") o in
    let edits : Option Json = member_of (codes "contentChanges") o in
    let x : Bool = bytes_eq (codes "textDocument/didOpen") cs in
    let y : Bool = bytes_eq (codes "textDocument/didChange") cs in
    let z : Bool = bytes_eq (codes "textDocument/didClose") cs in
    subst (λ (w : Option Json × Option Json). Says n (if x then opening_by w.0 else if y then changing_by w.0 w.1 else if z then closing_by w.0 else nothing))
    (sym (ap₂ (λ a b. (a, b)) (member_bare (codes "textDocument") o) (member_bare (codes "contentChanges") o)))
    (moved n x y z (opening_by d) (changing_by d edits) (closing_by d) (opening_by (option_map bare d)) (changing_by (option_map bare d) (option_map bare edits)) (closing_by (option_map bare d)) (opening_bare d) (changing_bare n d edits) (closing_bare d) h)

if_ok_so : {A E : Type 0} (r : Result A E) (P Q : A → Type 0) → ((x : A) → P x → Q x) → IfOk r P → IfOk r Q
if_ok_so (Ok x) P Q f h = f x h
if_ok_so (Err e) P Q f h = h

pub told_notice : {E : Type 0} (doc : Doc) (e : Envelope) (m : Message) (r : Result Notice E) → Tells doc e m → is_some (notification_method e) ≡ true
    → ((s : Span) (cs : List ℕ) (o : Option Json) → Found doc (Some (string s cs)) (notification_method e) → Found doc o (notification_params e) → IfOk r (λ notice. Says notice (saying_by cs o))) → IfOk r (λ notice. Says notice (saying_of m))
told_notice doc (Notification method params) m r t h tell = subst (λ z. IfOk r (λ notice. Says notice (saying_of z))) (sym t.is)
    (if_ok_so r (λ notice. Says notice (saying_by t.method t.params)) (λ notice. Says notice (saying_by t.method (option_map bare t.params))) (λ n. says_bare n t.method t.params) (tell t.span t.method t.params t.method_stands t.params_stand))
told_notice doc (Request id method params) m r t h tell = absurd (cc)
told_notice doc (Outcome id value) m r t h tell = absurd (cc)
told_notice doc (Failure id failure) m r t h tell = absurd (cc)

-- a notification's params are there or not
pub told_params_found : (doc : Doc) (e : Envelope) (m : Message) → Tells doc e m → is_some (notification_method e) ≡ true → (o : Option Json) × Found doc o (notification_params e)
told_params_found doc (Notification method params) m t h = (t.params, t.params_stand)
told_params_found doc (Request id method params) m t h = absurd (cc)
told_params_found doc (Outcome id value) m t h = absurd (cc)
told_params_found doc (Failure id failure) m t h = absurd (cc)
