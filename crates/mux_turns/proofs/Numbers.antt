-- Numbers as ids write them.
use Rattle.std.proofs.Common.{◌≡◌, ℕ, ◌<◌, ◌^◌, ◌∷◌, List, Bool, true, false, codes, refl, ap, sym, subst, ◌∙◌, arith, nat_eq, bytes_eq, rules, if◌then◌else◌}
use Rattle.std.specs.Bool.{Decides}
use Rattle.std.specs.Prelude.{Option, Some, None, Result, Ok, Err, IsUtf8, decimal}
use Rattle.std.specs.Str.Parse.{ParsesUnsigned}
use Rattle.std.proofs.lemmas.Bool.Decides.{nat_tests}
use Rattle.std.proofs.lemmas.Fmt.{IsAscii-decimal, decimal_injective, parse-decimal}
use Rattle.std.proofs.lemmas.Slice.Eq.{bytes_eq-Decides}
use Rattle.std.proofs.lemmas.Str.{IsUtf8-from_ascii}
use Rattle.json_text.specs.declared.kind.Word.TheVariants.{Null, False, True}
use Rattle.json_text.specs.Json.{Json, word, number, string, array, object, value}
use Rattle.rpc_message.specs.Message.{Message, request, notification, result, error, not_json, not_message, Id, integer, text, is_integer, response_id, id_bytes, message_of}
use Rattle.rpc_message.specs.Sorts.{sort_of}
use Rattle.rpc_message.specs.declared.sort.Sort.{Sort}
use Rattle.rpc_message.specs.declared.sort.Sort.TheVariants as sort
use Rattle.rpc_message.specs.ValueTexts.{IsResponseIdText}
use Rattle.rpc_message.proofs.Decimals.{decimal_integer}
use Rattle.rpc_message.proofs.Ids.{error_id_bytes, result_id_bytes}
use Rattle.rpc_message.proofs.SameIds.{quoted_shape}
use Rattle.event_model.specs.Requests.{answered_id}
use Rattle.group_facts.specs.group_rows.specs.Forwarded.{names}
use Rattle.mux_tables.specs.Stands.{NamesAsk}
use Rattle.mux_turns.specs.Responses.{is_response}

pub tested : (xs ys : List ℕ) (r : Bool) → Decides r (xs ≡ ys) → r ≡ bytes_eq xs ys
tested xs ys r h = search (rules, bytes_eq-Decides)

-- two numbers are written alike where they are one
pub decimals : (n k : ℕ) → n < 2 ^ 64 → k < 2 ^ 64 → bytes_eq (decimal n) (decimal k) ≡ nat_eq k n
decimals n k h l = sym (tested (decimal n) (decimal k) (nat_eq k n) decides)
  where
    decides : Decides (nat_eq k n) (decimal n ≡ decimal k)
    decides = (λ e. let same : n ≡ k = grind (arith, nat_tests) in ap decimal same, λ q. let same : n ≡ k = decimal_injective n k (omega arith) (omega arith) q in grind (arith, nat_tests))

-- bytes that are no integer write none
no_integer : (w : List ℕ) (n : ℕ) → n < 2 ^ 64 → is_integer w ≡ false → bytes_eq w (decimal n) ≡ false
no_integer w n h none = sym (tested w (decimal n) false (λ e. absurd (clash e), λ q. sym none ∙ (ap is_integer q ∙ decimal_integer n (omega arith))))
  where
    clash : false ≡ true → ⊥
    clash e = cc

null_is_none : is_integer (codes "null") ≡ false
unfolding is_integer
null_is_none = refl

quoted_is_none : (bs : List ℕ) → is_integer (34 ∷ bs) ≡ false
unfolding is_integer
quoted_is_none bs = refl

-- the number that the id of a response names is the one that its bytes write
pub id_names : (i : Option Id) (w : List ℕ) (n : ℕ) → IsResponseIdText i w → n < 2 ^ 64 → names i n ≡ bytes_eq w (decimal n)
id_names i w n h l = go h.tree i h.stands h.is
  where
    whole : (ds : List ℕ) (b : Bool) (i : Option Id) → is_integer ds ≡ b → w ≡ ds → (if b then Some (Some (integer ds)) else None) ≡ Some i → names i n ≡ bytes_eq w (decimal n)
    whole ds true (Some (integer es)) k e s = ap (λ bs. bytes_eq bs (decimal n)) (let same : ds ≡ es = cc in sym (e ∙ same))
    whole ds true (Some (text cs)) k e s = absurd (cc)
    whole ds true None k e s = absurd (cc)
    whole ds false i k e s = absurd (cc)

    go : (t : Json) (i : Option Id) → value t 0 w → response_id t ≡ Some i → names i n ≡ bytes_eq w (decimal n)
    go (word s Null) None v e = sym (no_integer w n l (ap is_integer v.0 ∙ null_is_none))
    go (word s Null) (Some j) v e = absurd (cc)
    go (word s False) i v e = absurd (cc)
    go (word s True) i v e = absurd (cc)
    go (number s ds) i v e = whole ds (is_integer ds) i refl v.0.0 e
    go (string s cs) None v e = absurd (cc)
    go (string s cs) (Some (integer ds)) v e = absurd (cc)
    go (string s cs) (Some (text ds)) v e = let q = quoted_shape cs w 0 v.0 in sym (no_integer w n l (ap is_integer q.1 ∙ quoted_is_none _))
    go (array s js) i v e = absurd (cc)
    go (object s ms) i v e = absurd (cc)

-- what was read of the bytes
pub some_named : (i : Option Id) (w : List ℕ) (k : ℕ) (b : Bool) → IsResponseIdText i w → k < 2 ^ 64 → b ≡ bytes_eq w (decimal k) → b ≡ true → NamesAsk i (Some k)
some_named i w k b h l e t = λ n m. let is = (bytes_eq-Decides w (decimal k)).0 (sym e ∙ t) in id_names i w n h m ∙ (ap (λ bs. bytes_eq bs (decimal n)) is ∙ decimals k n l m)

pub none_named : (i : Option Id) (w : List ℕ) → IsResponseIdText i w → ((n : ℕ) → n < 2 ^ 64 → bytes_eq w (decimal n) ≡ false) → NamesAsk i None
none_named i w h f = λ n m. id_names i w n h m ∙ f n m

-- where they write one, it was read
pub unwritten : (w : List ℕ) (k : ℕ) (b : Bool) → ((n : ℕ) → n < 2 ^ 64 → w ≡ decimal n → ◌≡◌ {A = Option ℕ} (Some k) (Some n)) → b ≡ bytes_eq w (decimal k) → b ≡ false → (n : ℕ) → n < 2 ^ 64 → bytes_eq w (decimal n) ≡ false
unwritten w k b reads e f n h = go (bytes_eq w (decimal n)) refl
  where
    same : (m : ℕ) → ◌≡◌ {A = Option ℕ} (Some k) (Some m) → k ≡ m
    same m q = cc

    go : (c : Bool) → bytes_eq w (decimal n) ≡ c → bytes_eq w (decimal n) ≡ false
    go false g = g
    go true g = let is = (bytes_eq-Decides w (decimal n)).0 g in let own = same n (reads n h is) in ap (λ m. bytes_eq w (decimal m)) (sym own) ∙ (sym e ∙ f)

pub unread : (w : List ℕ) → ((n : ℕ) → n < 2 ^ 64 → w ≡ decimal n → ◌≡◌ {A = Option ℕ} None (Some n)) → (n : ℕ) → n < 2 ^ 64 → bytes_eq w (decimal n) ≡ false
unread w reads n h = go (bytes_eq w (decimal n)) refl
  where
    clash : (m : ℕ) → ◌≡◌ {A = Option ℕ} None (Some m) → ⊥
    clash m q = cc

    go : (c : Bool) → bytes_eq w (decimal n) ≡ c → bytes_eq w (decimal n) ≡ false
    go false g = g
    go true g = absurd (clash n (reads n h ((bytes_eq-Decides w (decimal n)).0 g)))

-- what is parsed of a number's text
pub parsed_ok : {E : Type 0} (n k : ℕ) (bs : List ℕ) (r : Result ℕ E) → n < 2 ^ 64 → bs ≡ decimal n → ParsesUnsigned 64 10 bs r → r ≡ Ok k → ◌≡◌ {A = Option ℕ} (Some k) (Some n)
parsed_ok {E} n k bs r h is p e = same (sym e ∙ parse-decimal 64 n bs r h (omega arith) is p)
  where
    same : ◌≡◌ {A = Result ℕ E} (Ok k) (Ok n) → ◌≡◌ {A = Option ℕ} (Some k) (Some n)
    same q = cc

pub parsed_err : {E : Type 0} (n : ℕ) (x : E) (bs : List ℕ) (r : Result ℕ E) → n < 2 ^ 64 → bs ≡ decimal n → ParsesUnsigned 64 10 bs r → r ≡ Err x → ◌≡◌ {A = Option ℕ} None (Some n)
parsed_err {E} n x bs r h is p e = absurd (clash (sym e ∙ parse-decimal 64 n bs r h (omega arith) is p))
  where
    clash : ◌≡◌ {A = Result ℕ E} (Err x) (Ok n) → ⊥
    clash q = cc

pub number_utf8 : (bs : List ℕ) (n : ℕ) → n < 2 ^ 64 → bs ≡ decimal n → IsUtf8 bs
number_utf8 bs n h is = subst IsUtf8 (sym is) (IsUtf8-from_ascii (decimal n) (IsAscii-decimal n (omega arith)))

-- the id of a response
pub answered_text : (body : List ℕ) (m : Message) (b : Bool) (x : Sort) → message_of body ≡ m → sort_of m ≡ Some x → b ≡ is_response x → b ≡ true → IsResponseIdText (answered_id m) (id_bytes body)
answered_text body (result id x) b y e h k t = result_id_bytes body id x e
answered_text body (error id x) b y e h k t = error_id_bytes body id x e
answered_text body (request id method params) b sort.Request e h k t = absurd (clash (sym k ∙ t))
  where
    clash : false ≡ true → ⊥
    clash q = cc
answered_text body (request id method params) b sort.Notification e h k t = absurd (cc)
answered_text body (request id method params) b sort.Result e h k t = absurd (cc)
answered_text body (request id method params) b sort.Error e h k t = absurd (cc)
answered_text body (notification method params) b sort.Notification e h k t = absurd (clash (sym k ∙ t))
  where
    clash : false ≡ true → ⊥
    clash q = cc
answered_text body (notification method params) b sort.Request e h k t = absurd (cc)
answered_text body (notification method params) b sort.Result e h k t = absurd (cc)
answered_text body (notification method params) b sort.Error e h k t = absurd (cc)
answered_text body not_json b y e h k t = absurd (cc)
answered_text body not_message b y e h k t = absurd (cc)

-- another message answers nothing
pub unanswered : (m : Message) (b : Bool) (x : Sort) → sort_of m ≡ Some x → b ≡ is_response x → b ≡ false → NamesAsk (answered_id m) None
unanswered (result id x) b sort.Result h k f = absurd (clash (sym k ∙ f))
  where
    clash : true ≡ false → ⊥
    clash q = cc
unanswered (result id x) b sort.Request h k f = absurd (cc)
unanswered (result id x) b sort.Notification h k f = absurd (cc)
unanswered (result id x) b sort.Error h k f = absurd (cc)
unanswered (error id x) b sort.Error h k f = absurd (clash (sym k ∙ f))
  where
    clash : true ≡ false → ⊥
    clash q = cc
unanswered (error id x) b sort.Request h k f = absurd (cc)
unanswered (error id x) b sort.Notification h k f = absurd (cc)
unanswered (error id x) b sort.Result h k f = absurd (cc)
unanswered (request id method params) b y h k f = λ n l. refl
unanswered (notification method params) b y h k f = λ n l. refl
unanswered not_json b y h k f = λ n l. refl
unanswered not_message b y h k f = λ n l. refl
