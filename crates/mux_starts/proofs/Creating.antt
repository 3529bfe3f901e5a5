-- S8: what a request creates, and who is asked to take it.
use Rattle.std.proofs.Common.{◌≡◌, ℕ, zero, suc, ◌+◌, ◌<◌, ◌^◌, Bool, true, false, not, ◌&&◌, ◌||◌, cond, List, [], ◌∷◌, codes, filter, get_or, length, nat_eq, nat_lt, take, if◌then◌else◌, refl, ap, sym, ◌∙◌, arith}
use Rattle.std.specs.Prelude.{Option, None, Some, is_some}
use Rattle.std.specs.List.{AllByRecursion, range_with_len}
use Rattle.std.specs.Option.{option_and_then, option_map}
use Rattle.std.proofs.lemmas.Bool.Decides.{nat_tests}
use Rattle.json_text.specs.Json.{Json, word, number, string, array, object}
use Rattle.rpc_message.specs.Message.{Id, id_of, integer, integer_if, is_integer, text}
use Rattle.event_model.specs.Event.{Event}
use Rattle.event_model.specs.Members.{bytes_if, is_token, named_of, params_of}
use Rattle.event_model.specs.Phases.{desk_of, editors_of, is_running}
use Rattle.event_model.specs.Settings.{Settings}
use Rattle.event_model.proofs.Frames.{never}
use Rattle.group_rows.specs.Asks.{running_in}
use Rattle.group_rows.specs.Created.{Created, Token, created_token, if_new, may_create, named_token, token_called, token_of}
use Rattle.group_rows.specs.Forwarded.{token_in}
use Rattle.group_rows.specs.Reserved.{is_reserved}
use Rattle.group_words.specs.Houses.{home_of, is_home}
use Rattle.mux_starts.specs.Creates.{AreApart, Creates}

-- What is created

-- a progress token is an integer or a string
token_id : (o : Option Json) → is_token o ≡ true → (i : Id) × (option_and_then id_of o ≡ Some i)
token_id None h = never (sym h)
token_id (Some (number s ds)) h = go (is_integer ds) h refl
  where
    go : (b : Bool) → (b || false) ≡ true → is_integer ds ≡ b → (i : Id) × (integer_if (is_integer ds) ds ≡ Some i)
    go true k is = (integer ds, ap (λ c. integer_if c ds) is)
    go false k is = never (sym k)
token_id (Some (string s cs)) h = (text cs, refl)
token_id (Some (word s w)) h = never (sym h)
token_id (Some (array s js)) h = never (sym h)
token_id (Some (object s ms)) h = never (sym h)

module _ (body : List ℕ) (x : Created) where
  abbrev named : Option Id
  named = named_token (params_of body)

  -- where nothing is made of what it names
  unmade : option_and_then (if_new body x) named ≡ None → created_token body x ≡ None
  unmade h = go (may_create body x)
    where
      go : (b : Bool) → (if b then option_and_then (if_new body x) named else None) ≡ None
      go true = h
      go false = refl

  -- no token is named
  pub creates_nothing : token_in (codes "token") body ≡ None → Creates body x None
  creates_nothing h = unmade (go named)
    where
      go : (o : Option Id) → option_and_then (if_new body x) o ≡ None
      go None = refl
      go (Some id) = ap (λ w. if is_some (token_called (Some id) x) then None else option_map (token_of x.next id) w) h ∙ off (is_some (token_called (Some id) x))
        where
          off : (b : Bool) → ◌≡◌ {A = Option Token} (if b then None else None) None
          off true = refl
          off false = refl

  -- one is, by its text
  module _ (w : List ℕ) (at : token_in (codes "token") body ≡ Some w) where
    is_named : is_token (named_of (codes "token") (params_of body)) ≡ true
    is_named = go (is_token (named_of (codes "token") (params_of body))) at
      where
        go : (b : Bool) → (if b then bytes_if (codes "token") (params_of body) body else None) ≡ Some w → b ≡ true
        go true k = refl
        go false k = absurd (cc)

    pub its_id : (i : Id) × (named ≡ Some i)
    its_id = token_id (named_of (codes "token") (params_of body)) is_named

    -- it lives
    pub creates_again : is_some (token_called (Some (its_id.0)) x) ≡ true → Creates body x None
    creates_again lives = unmade (ap (option_and_then (if_new body x)) its_id.1 ∙ ap (λ b. if b then None else option_map (token_of x.next its_id.0) (token_in (codes "token") body)) lives)

    -- it is the daemon's
    pub creates_reserved : is_reserved (named_of (codes "token") (params_of body)) ≡ true → Creates body x None
    creates_reserved own = ap (λ b. if nat_lt x.next (2 ^ 64) && not b then option_and_then (if_new body x) named else None) own ∙ off (nat_lt x.next (2 ^ 64))
      where
        off : (b : Bool) → (if b && false then option_and_then (if_new body x) named else None) ≡ None
        off true = refl
        off false = refl

    -- or a new one
    pub creates_new : is_some (token_called (Some (its_id.0)) x) ≡ false → is_reserved (named_of (codes "token") (params_of body)) ≡ false → Creates body x (Some w)
    creates_new fresh free = λ less.
        let low : nat_lt x.next (2 ^ 64) ≡ true = grind (arith, nat_tests) in
        ap (option_map (λ (t : Token). t.text)) (ap (λ b. if b && not (is_reserved (named_of (codes "token") (params_of body))) then option_and_then (if_new body x) named else None) low
        ∙ (ap (λ b. if not b then option_and_then (if_new body x) named else None) free
        ∙ (ap (option_and_then (if_new body x)) its_id.1
        ∙ (ap (λ b. if b then None else option_map (token_of x.next its_id.0) (token_in (codes "token") body)) fresh
        ∙ ap (option_map (token_of x.next its_id.0)) at))))

-- Numbers of editors that run

unlike : (e from : ℕ) → e < from → nat_eq e from ≡ false
unlike e from less = grind (arith, nat_tests)

kept_apart : (e from : ℕ) (b : Bool) (rest : List ℕ) → e < from → AllByRecursion (λ d. nat_eq e d ≡ false) rest → AllByRecursion (λ d. nat_eq e d ≡ false) (cond b (from ∷ rest) rest)
kept_apart e from true rest less h = (unlike e from less, h)
kept_apart e from false rest less h = h

apart_from : (e : ℕ) (keep : ℕ → Bool) (from len : ℕ) → e < from → AllByRecursion (λ d. nat_eq e d ≡ false) (filter keep (range_with_len from len))
apart_from e keep from zero less = tt
apart_from e keep from (suc len) less = kept_apart e from (keep from) (filter keep (range_with_len (from + 1) len)) less (apart_from e keep (from + 1) len (omega (arith, less)))

put_apart : (e : ℕ) (b : Bool) (rest : List ℕ) → AllByRecursion (λ d. nat_eq e d ≡ false) rest → AreApart rest → AreApart (cond b (e ∷ rest) rest)
put_apart e true rest h k = (h, k)
put_apart e false rest h k = k

range_apart : (keep : ℕ → Bool) (from len : ℕ) → AreApart (filter keep (range_with_len from len))
range_apart keep from zero = tt
range_apart keep from (suc len) = put_apart from (keep from) (filter keep (range_with_len (from + 1) len)) (apart_from from keep (from + 1) len (omega arith)) (range_apart keep (from + 1) len)

pub running_apart : (settings : Settings) (g : ℕ) (before : List Event) → AreApart (running_in settings g before)
running_apart settings g before = range_apart (λ e. is_running (desk_of e before).phase && is_home g (home_of settings e before)) 0 (editors_of before)

-- those before one of a list are others
pub others_before : (es : List ℕ) (i : ℕ) → AreApart es → i < length es → AllByRecursion (λ d. nat_eq d (get_or es i 0) ≡ false) (take i es)
others_before [] i h less = absurd (omega (arith, less))
others_before (e ∷ es) zero h less = tt
others_before (e ∷ es) (suc i) h less = (head es i h.0 (omega (arith, less)), others_before es i h.1 (omega (arith, less)))
  where
    head : (xs : List ℕ) (k : ℕ) → AllByRecursion (λ d. nat_eq e d ≡ false) xs → k < length xs → nat_eq e (get_or xs k 0) ≡ false
    head [] k hs l = absurd (omega (arith, l))
    head (x ∷ xs) zero hs l = hs.0
    head (x ∷ xs) (suc k) hs l = head xs k hs.1 (omega (arith, l))
