-- Tokens for progress, as they are read and written.
use Rattle.std.proofs.Common.{◌≡◌, ℕ, ◌<◌, ◌^◌, Bool, true, false, ◌&&◌, List, [], ◌++◌, length, length-take, min, take, refl, ap, sym, ◌∙◌, arith, codes, bytes_eq, decimal, if◌then◌else◌}
use Rattle.std.specs.Prelude.{Option, Some, None, encode_utf8_all}
use Rattle.std.specs.Str.{IsAscii, chars}
use Rattle.std.proofs.lemmas.Fmt.{IsAscii-decimal}
use Rattle.std.proofs.lemmas.Slice.Eq.{bytes_eq-Decides}
use Rattle.std.proofs.lemmas.Str.{IsAscii-append, encodes-IsAscii, encodes_same}
use Rattle.std.proofs.lemmas.Str.Ascii.{IsAscii-from_all}
use Rattle.json_text.specs.declared.kind.Word.TheVariants.{Null, False, True}
use Rattle.json_text.specs.Json.{Json, word, number, string, array, object, Members, no_members, member}
use Rattle.json_text.specs.Named.{named_in}
use Rattle.json_nodes.specs.At.{At, Found}
use Rattle.json_nodes.specs.Doc.{Doc}
use Rattle.json_nodes.specs.Puts.{member_edits, put_edits}
use Rattle.rpc_message.specs.Envelopes.{not_null}
use Rattle.rpc_message.specs.Message.{Id, message_of, notification, request}
use Rattle.rpc_message.specs.Parsed.{IsRead, Parsed, params_in}
use Rattle.event_model.specs.Members.{is_token, named_of, params_of}
use Rattle.group_facts.specs.group_rows.specs.Tokens.{mark, mark_edits, mark_text, new_mark, partial_mark, token_edits, work_mark}
use Rattle.group_facts.specs.group_rows.specs.Reserved.{begins_as_mark, is_reserved}
use Rattle.group_facts.specs.mux_members.specs.Tokens.{text_of}
use Rattle.group_facts.specs.mux_members.proofs.Encoded.{ascii_fronted}
use Rattle.group_facts.specs.mux_members.proofs.Roots.{read_params}
use Rattle.mux_tables.specs.Tokens.{MarksAt}
use Rattle.mux_turns.specs.Tokens.{WritesMark, one_token, tokens_for, two_tokens}
use Rattle.mux_turns.proofs.Numbers.{decimals, tested, unread, unwritten}

clash : true ≡ false → ⊥
clash e = cc

-- Characters that begin as a mark

-- too few
pub too_short : (cs : List ℕ) → length cs < 7 → begins_as_mark cs ≡ false
too_short cs h = go (begins_as_mark cs) refl
  where
    go : (x : Bool) → begins_as_mark cs ≡ x → x ≡ false
    go false e = refl
    go true e =
        let is : codes "lspmux:" ≡ take 7 cs = (bytes_eq-Decides (codes "lspmux:") (take 7 cs)).0 e in
        let long : 7 ≡ length (take 7 cs) = ap length is in
        let most : length (take 7 cs) ≡ min 7 (length cs) = length-take 7 cs in
        absurd (omega (arith, h, long, most))

-- Numbers of marks

marks_digits : (digits : List ℕ) (k : ℕ) → bytes_eq (codes "lspmux:" ++ digits) (mark k) ≡ bytes_eq digits (decimal k)
marks_digits digits k = refl

pub no_front : (cs : List ℕ) → begins_as_mark cs ≡ false → WritesMark cs None
no_front cs f k h = go (bytes_eq cs (mark k)) refl
  where
    go : (b : Bool) → bytes_eq cs (mark k) ≡ b → b ≡ false
    go false e = refl
    go true e = absurd (clash (sym (ap begins_as_mark ((bytes_eq-Decides cs (mark k)).0 e)) ∙ f))

module _ (cs digits : List ℕ) (is : cs ≡ codes "lspmux:" ++ digits) where
  at : (k : ℕ) → bytes_eq cs (mark k) ≡ bytes_eq digits (decimal k)
  at k = ap (λ z. bytes_eq z (mark k)) is ∙ marks_digits digits k

  pub no_number : ((n : ℕ) → n < 2 ^ 64 → bytes_eq digits (decimal n) ≡ false) → WritesMark cs None
  no_number f k h = at k ∙ f k h

  pub unread_mark : ((n : ℕ) → n < 2 ^ 64 → digits ≡ decimal n → ◌≡◌ {A = Option ℕ} None (Some n)) → WritesMark cs None
  unread_mark reads = no_number (unread digits reads)

  pub unwritten_mark : (n : ℕ) (b : Bool) → ((m : ℕ) → m < 2 ^ 64 → digits ≡ decimal m → ◌≡◌ {A = Option ℕ} (Some n) (Some m)) → b ≡ bytes_eq digits (decimal n) → b ≡ false → WritesMark cs None
  unwritten_mark n b reads e f = no_number (unwritten digits n b reads e f)

  pub written_mark : (n : ℕ) (b : Bool) → n < 2 ^ 64 → b ≡ bytes_eq digits (decimal n) → b ≡ true → WritesMark cs (Some n)
  written_mark n b low e t = λ k h.
      let same : digits ≡ decimal n = (bytes_eq-Decides digits (decimal n)).0 (sym e ∙ t) in
      at k ∙ (ap (λ bs. bytes_eq bs (decimal k)) same ∙ decimals n k low h)

-- Characters, by their UTF-8

mark_ascii : (k : ℕ) → k < 2 ^ 64 → IsAscii (mark k)
mark_ascii k h = IsAscii-append (codes "lspmux:") (decimal k) (IsAscii-from_all (codes "lspmux:") (λ i d l. grind arith)) (IsAscii-decimal k h)

mark_encoded : (cs : List ℕ) (k : ℕ) → k < 2 ^ 64 → bytes_eq cs (mark k) ≡ bytes_eq (encode_utf8_all cs) (mark k)
mark_encoded cs k h = sym (tested cs (mark k) (bytes_eq (encode_utf8_all cs) (mark k)) (there, back))
  where
    itself : encode_utf8_all (mark k) ≡ mark k
    itself = encodes-IsAscii (mark k) (mark_ascii k h)

    there : bytes_eq (encode_utf8_all cs) (mark k) ≡ true → cs ≡ mark k
    there e = encodes_same cs (mark k) ((bytes_eq-Decides (encode_utf8_all cs) (mark k)).0 e ∙ sym itself)

    back : cs ≡ mark k → bytes_eq (encode_utf8_all cs) (mark k) ≡ true
    back e = (bytes_eq-Decides (encode_utf8_all cs) (mark k)).1 (ap encode_utf8_all e ∙ itself)

some_same : (x y : List ℕ) → ◌≡◌ {A = Option (List ℕ)} (Some x) (Some y) → x ≡ y
some_same x y e = cc

pub mark_of : (o : Option Json) (w : List ℕ) (n : Option ℕ) → Some w ≡ text_of o → WritesMark w n → MarksAt o n
mark_of (Some (string s cs)) w None is h = λ k l. mark_encoded cs k l ∙ (ap (λ z. bytes_eq z (mark k)) (sym (some_same w (encode_utf8_all cs) is)) ∙ h k l)
mark_of (Some (string s cs)) w (Some n) is h = λ k l. mark_encoded cs k l ∙ (ap (λ z. bytes_eq z (mark k)) (sym (some_same w (encode_utf8_all cs) is)) ∙ h k l)
mark_of (Some (word s x)) w n is h = absurd (cc)
mark_of (Some (number s ds)) w n is h = absurd (cc)
mark_of (Some (array s js)) w n is h = absurd (cc)
mark_of (Some (object s ms)) w n is h = absurd (cc)
mark_of None w n is h = absurd (cc)

pub no_mark : (o : Option Json) → None ≡ text_of o → MarksAt o None
no_mark (Some (string s cs)) is = absurd (cc)
no_mark (Some (word s x)) is = λ k l. refl
no_mark (Some (number s ds)) is = λ k l. refl
no_mark (Some (array s js)) is = λ k l. refl
no_mark (Some (object s ms)) is = λ k l. refl
no_mark None is = λ k l. refl

pub reserved_text : (o : Option Json) (w : List ℕ) (b : Bool) → Some w ≡ text_of o → b ≡ begins_as_mark w → b ≡ is_reserved o
reserved_text (Some (string s cs)) w b is h = h ∙ (ap begins_as_mark (some_same w (encode_utf8_all cs) is) ∙ ascii_fronted (codes "lspmux:") cs refl)
reserved_text (Some (word s x)) w b is h = absurd (cc)
reserved_text (Some (number s ds)) w b is h = absurd (cc)
reserved_text (Some (array s js)) w b is h = absurd (cc)
reserved_text (Some (object s ms)) w b is h = absurd (cc)
reserved_text None w b is h = absurd (cc)

pub reserved_nothing : (o : Option Json) → None ≡ text_of o → false ≡ is_reserved o
reserved_nothing (Some (string s cs)) is = absurd (cc)
reserved_nothing (Some (word s x)) is = refl
reserved_nothing (Some (number s ds)) is = refl
reserved_nothing (Some (array s js)) is = refl
reserved_nothing (Some (object s ms)) is = refl
reserved_nothing None is = refl

-- The texts

work_chars : chars (codes "workDoneToken") ≡ codes "workDoneToken"
unfolding chars
work_chars = refl

partial_chars : chars (codes "partialResultToken") ≡ codes "partialResultToken"
unfolding chars
partial_chars = refl

token_chars : chars (codes "token") ≡ codes "token"
unfolding chars
token_chars = refl

-- nothing comes in the place of nothing
nothing_member : (ms : Members) → [] ≡ member_edits (λ name. None) ms
nothing_member no_members = refl
nothing_member (member s cs j ms) = nothing_member ms

nothing_put : (t : Json) → [] ≡ put_edits (λ name. None) t
nothing_put (object s ms) = nothing_member ms
nothing_put (word s w) = refl
nothing_put (number s ds) = refl
nothing_put (string s cs) = refl
nothing_put (array s js) = refl

pub two_put : (w p : List ℕ) (t : Json) → put_edits (λ name. if bytes_eq (chars (codes "workDoneToken")) name then Some w else if bytes_eq (chars (codes "partialResultToken")) name then Some p else None) t ≡ put_edits (two_tokens w p) t
two_put w p t = ap (λ z. put_edits (λ name. if bytes_eq z name then Some w else if bytes_eq (chars (codes "partialResultToken")) name then Some p else None) t) work_chars
    ∙ ap (λ z. put_edits (λ name. if bytes_eq (codes "workDoneToken") name then Some w else if bytes_eq z name then Some p else None) t) partial_chars

module _ (n : ℕ) where
  abbrev One : Bool → Option (List ℕ) → Option (List ℕ)
  One b o = if b then Some (mark_text (work_mark n)) else o

  abbrev Two : Bool → Option (List ℕ) → Option (List ℕ)
  Two b o = if b then Some (mark_text (partial_mark n)) else o

  and_on : (b : Bool) → b ≡ (b && true)
  and_on true = refl
  and_on false = refl

  and_off : (b : Bool) → false ≡ (b && false)
  and_off true = refl
  and_off false = refl

  pub both_put : (t : Json) → put_edits (two_tokens (mark_text (work_mark n)) (mark_text (partial_mark n))) t ≡ put_edits (tokens_for true true n) t
  both_put t = ap (λ f. put_edits f t) (λ i name. (ap (λ b. One b (Two (bytes_eq (codes "partialResultToken") name) None)) (and_on (bytes_eq (codes "workDoneToken") name))
      ∙ ap (λ b. One (bytes_eq (codes "workDoneToken") name && true) (Two b None)) (and_on (bytes_eq (codes "partialResultToken") name))) i)

  pub work_put : (t : Json) → put_edits (one_token (chars (codes "workDoneToken")) (work_mark n)) t ≡ put_edits (tokens_for true false n) t
  work_put t = ap (λ f. put_edits f t) (λ i name. (ap (λ z. One (bytes_eq z name) None) work_chars
      ∙ ap (λ b. One b None) (and_on (bytes_eq (codes "workDoneToken") name))
      ∙ ap (λ b. One (bytes_eq (codes "workDoneToken") name && true) (Two b None)) (and_off (bytes_eq (codes "partialResultToken") name))) i)

  pub partial_put : (t : Json) → put_edits (one_token (chars (codes "partialResultToken")) (partial_mark n)) t ≡ put_edits (tokens_for false true n) t
  partial_put t = ap (λ f. put_edits f t) (λ i name. (ap (λ z. Two (bytes_eq z name) None) partial_chars
      ∙ ap (λ b. One b (Two (bytes_eq (codes "partialResultToken") name) None)) (and_off (bytes_eq (codes "workDoneToken") name))
      ∙ ap (λ b. One (bytes_eq (codes "workDoneToken") name && false) (Two b None)) (and_on (bytes_eq (codes "partialResultToken") name))) i)

  pub none_put : (t : Json) → [] ≡ put_edits (tokens_for false false n) t
  none_put t = nothing_put t ∙ ap (λ f. put_edits f t) (λ i name. (ap (λ b. One b None) (and_off (bytes_eq (codes "workDoneToken") name))
      ∙ ap (λ b. One (bytes_eq (codes "workDoneToken") name && false) (Two b None)) (and_off (bytes_eq (codes "partialResultToken") name))) i)

  pub tokens_given : (work partial : Bool) (t : Json) → work ≡ is_token (named_of (codes "workDoneToken") (Some t)) → partial ≡ is_token (named_of (codes "partialResultToken") (Some t)) → put_edits (tokens_for work partial n) t ≡ token_edits n (Some t)
  tokens_given work partial t w p = ap (λ b. put_edits (tokens_for b partial n) t) w ∙ ap (λ b. put_edits (tokens_for (is_token (named_of (codes "workDoneToken") (Some t))) b n) t) p

  null_tokens : (o : Option Json) → token_edits n (not_null o) ≡ token_edits n o
  null_tokens None = refl
  null_tokens (Some (word s Null)) = refl
  null_tokens (Some (word s False)) = refl
  null_tokens (Some (word s True)) = refl
  null_tokens (Some (number s ds)) = refl
  null_tokens (Some (string s cs)) = refl
  null_tokens (Some (array s js)) = refl
  null_tokens (Some (object s ms)) = refl

  pub params_tokens : (m : Parsed) (body method : List ℕ) (id : Id) (params : Option Json) (read : IsRead m body) → message_of body ≡ request id method params → token_edits n (params_in (message_of body) read.tree) ≡ token_edits n (params_of body)
  params_tokens m body method id params read says = ap (λ z. token_edits n (params_in z read.tree)) says ∙ (null_tokens (named_in (codes "params") read.tree) ∙ sym (ap (token_edits n) (read_params m body read)))

pub token_put : (text : List ℕ) (t : Json) → put_edits (λ cs. if bytes_eq (chars (codes "token")) cs then Some text else None) t ≡ put_edits (new_mark text) t
token_put text t = ap (λ z. put_edits (λ cs. if bytes_eq z cs then Some text else None) t) token_chars

null_marks : (text : List ℕ) (o : Option Json) → mark_edits text (not_null o) ≡ mark_edits text o
null_marks text None = refl
null_marks text (Some (word s Null)) = refl
null_marks text (Some (word s False)) = refl
null_marks text (Some (word s True)) = refl
null_marks text (Some (number s ds)) = refl
null_marks text (Some (string s cs)) = refl
null_marks text (Some (array s js)) = refl
null_marks text (Some (object s ms)) = refl

pub params_marks : (m : Parsed) (body method : List ℕ) (params : Option Json) (read : IsRead m body) (text : List ℕ) → message_of body ≡ notification method params → mark_edits text (params_in (message_of body) read.tree) ≡ mark_edits text (params_of body)
params_marks m body method params read text says = ap (λ z. mark_edits text (params_in z read.tree)) says ∙ (null_marks text (named_in (codes "params") read.tree) ∙ sym (ap (mark_edits text) (read_params m body read)))

pub found_some : (doc : Doc) (o : Option Json) (k : ℕ) → Found doc o (Some k) → (t : Json) × (o ≡ Some t) × At doc k t
found_some doc None k h = absurd h
found_some doc (Some t) k h = (t, refl, h)

pub found_none : (doc : Doc) (o : Option Json) → Found doc o None → o ≡ None
found_none doc None h = refl
found_none doc (Some t) h = absurd h
