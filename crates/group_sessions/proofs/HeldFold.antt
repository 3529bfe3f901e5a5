-- What holds of what editors were asked to take, whatever the events are: the token of one that was accepted lives; what is held names a token, and what ends it stands last there, and not while the token lives.
use Rattle.std.proofs.Common.{◌≡◌, ℕ, ◌^◌, ◌≤◌, ◌<◌, Bool, true, false, not, ◌&&◌, ◌||◌, cond, List, [], ◌∷◌, ◌++◌, bytes_eq, codes, filter, find, map, nat_eq, if◌then◌else◌, Option, Some, None, is_some, refl, sym, ◌∙◌, ap, subst, arith}
use Rattle.std.specs.List.{AllByRecursion, list_any}
use Rattle.std.specs.Option.{option_and_then, option_map_or}
use Rattle.std.proofs.lemmas.Bool.{and_parts}
use Rattle.std.proofs.lemmas.Slice.Eq.{bytes_eq-Decides}
use Rattle.json_text.specs.Json.{Json}
use Rattle.mux_history.specs.declared.cause.Cause.TheVariants.{FromEditor, EditorGone, StartFailed, FromServer, ServerGone}
use Rattle.mux_history.specs.declared.out.Out.TheVariants.{CloseEditor, ToEditor}
use Rattle.rpc_message.specs.Message.{Id, Message, request, notification, id_of, message_of}
use Rattle.event_model.specs.Event.{Event, did, requests, took}
use Rattle.event_model.specs.Members.{named_of, string_of}
use Rattle.event_model.specs.Requests.{answered_id}
use Rattle.event_model.specs.Settings.{Settings}
use Rattle.event_model.specs.Stages.{life_of, is_ready}
use Rattle.event_model.proofs.Frames.{never}
use Rattle.mux_facts.proofs.Lists.{all_filtered, all_join, found_is}
use Rattle.mux_facts.proofs.Words.{number_same, same_number}
use Rattle.group_words.specs.Past.{past}
use Rattle.group_rows.specs.Asks.{next_ask}
use Rattle.group_rows.specs.Created.{Created, Taking, Token, accepts, answered, asked, begun_by, created_next, created_of, created_token, first_begin, held_first, is_answered, is_at, is_begin, is_called, is_creating, is_end, is_ended_by, is_numbered, is_over, is_progress, left, lives, may_hold, named_token, no_created, progressed, settled, told, token_called, token_marked, is_marked, with_asked, with_token}
use Rattle.group_rows.specs.Live.{is_heard}
use Rattle.group_rows.proofs.Versions.{AllMeant, IsMeant}
use Rattle.group_sessions.proofs.Accepted.{NamesToken}
use Rattle.group_sessions.proofs.CreatedFold.{IsNew, Orderly, all_flat, new_is, none_orderly, step_orderly}
use Rattle.group_sessions.proofs.Marked.{ends, is_ending}

-- Bodies that are held

abbrev pub NameTokens : List (List ℕ) → Type 0
NameTokens bodies = AllByRecursion NamesToken bodies

abbrev pub NoneEnds : List (List ℕ) → Type 0
NoneEnds bodies = AllByRecursion (λ body. ends body ≡ false) bodies

abbrev follows : List (List ℕ) → Bool
follows [] = false
follows (body ∷ bodies) = true

-- none but the last ends anything
abbrev pub LastEnds : List (List ℕ) → Type 0
LastEnds [] = Unit {0}
LastEnds (body ∷ bodies) = (follows bodies ≡ true → ends body ≡ false) × LastEnds bodies

none_last : (bodies : List (List ℕ)) → NoneEnds bodies → LastEnds bodies
none_last [] h = tt
none_last (body ∷ bodies) h = (λ f. h.0, none_last bodies h.1)

last_more : (bodies : List (List ℕ)) (body : List ℕ) → NoneEnds bodies → LastEnds (bodies ++ body ∷ [])
last_more [] body h = (λ f. never (sym f), tt)
last_more (b ∷ bodies) body h = (λ f. h.0, last_more bodies body h.1)

pub none_before : (earlier : List (List ℕ)) (body : List ℕ) (later : List (List ℕ)) → LastEnds (earlier ++ body ∷ later) → NoneEnds earlier
none_before [] body later h = tt
none_before (b ∷ earlier) body later h = (h.0 (one_follows earlier), none_before earlier body later h.1)
  where
    one_follows : (bs : List (List ℕ)) → follows (bs ++ body ∷ later) ≡ true
    one_follows [] = refl
    one_follows (b ∷ bs) = refl

-- What holds of each

-- of these tokens, those that live
abbrev pub IsAlive : List Token → ℕ → Type 0
IsAlive tokens k = list_any (is_numbered k) tokens ≡ true

pub record IsFair (tokens : List Token) (c : Taking) : Type 0 where
  pub alive : c.accepted ≡ true → IsAlive tokens c.token
  pub held : NameTokens c.held
  pub last : LastEnds c.held
  pub going : IsAlive tokens c.token → NoneEnds c.held

pub record IsBegun (t : Token) : Type 0 where
  pub held : NameTokens (held_first t.begin)
  pub going : NoneEnds (held_first t.begin)

pub record Fair (x : Created) : Type 0 where
  pub tokens : AllByRecursion IsBegun x.tokens
  pub takings : AllByRecursion (IsFair x.tokens) x.takings
  pub small : x.next ≤ 2 ^ 64

-- Lists of tokens

alive_more : (k : ℕ) (ts more : List Token) → IsAlive ts k → IsAlive (ts ++ more) k
alive_more k [] more h = never (sym h)
alive_more k (t ∷ ts) more h = go (is_numbered k t) (λ e. alive_more k ts more e) h
  where
    go : (b : Bool) → (IsAlive ts k → IsAlive (ts ++ more) k) → (b || list_any (is_numbered k) ts) ≡ true → (b || list_any (is_numbered k) (ts ++ more)) ≡ true
    go true f e = refl
    go false f e = f e

alive_less : (k : ℕ) (ts : List Token) (n : Token) → nat_eq n.number k ≡ false → IsAlive (ts ++ n ∷ []) k → IsAlive ts k
alive_less k [] n other h = never (sym h ∙ ap (λ b. b || false) other)
alive_less k (t ∷ ts) n other h = go (is_numbered k t) (λ e. alive_less k ts n other e) h
  where
    go : (b : Bool) → (IsAlive (ts ++ n ∷ []) k → IsAlive ts k) → (b || list_any (is_numbered k) (ts ++ n ∷ [])) ≡ true → (b || list_any (is_numbered k) ts) ≡ true
    go true f e = refl
    go false f e = f e

found_alive : (test : Token → Bool) (t : Token) (ts : List Token) → find test ts ≡ Some t → IsAlive ts t.number
found_alive test t [] h = absurd (cc)
found_alive test t (u ∷ ts) h = go (test u) (λ e. found_alive test t ts e) h
  where
    go : (b : Bool) → (find test ts ≡ Some t → IsAlive ts t.number) → cond b (Some u) (find test ts) ≡ Some t → (is_numbered t.number u || list_any (is_numbered t.number) ts) ≡ true
    go true f e = let same : u ≡ t = cc in ap (λ (z : Token). nat_eq z.number t.number || list_any (is_numbered t.number) ts) same ∙ ap (λ b. b || list_any (is_numbered t.number) ts) (same_number t.number)
    go false f e = second (is_numbered t.number u) (f e)
      where
        second : (b : Bool) → IsAlive ts t.number → (b || list_any (is_numbered t.number) ts) ≡ true
        second true k = refl
        second false k = k

-- behind progress of token k
module _ (k : ℕ) (body : List ℕ) (params : Option Json) where
  abbrev pub rest : List Token → List Token
  rest ts = filter (λ u. not (is_ended_by k params u)) (map (begun_by k body params) ts)

  begun_number : (t : Token) → (begun_by k body params t).number ≡ t.number
  begun_number t = go (is_numbered k t)
    where
      go : (b : Bool) → (if b then record t { begin = first_begin body params t.begin } else t).number ≡ t.number
      go true = refl
      go false = refl

  alive_before : (j : ℕ) (ts : List Token) → IsAlive (rest ts) j → IsAlive ts j
  alive_before j [] h = h
  alive_before j (t ∷ ts) h = go (λ e. alive_before j ts e) (not (is_ended_by k params (begun_by k body params t))) h
    where
      second : (b : Bool) → IsAlive ts j → (b || list_any (is_numbered j) ts) ≡ true
      second true e = refl
      second false e = e

      first : (IsAlive (rest ts) j → IsAlive ts j) → (b : Bool) → nat_eq (begun_by k body params t).number j ≡ b → (b || list_any (is_numbered j) (rest ts)) ≡ true → (is_numbered j t || list_any (is_numbered j) ts) ≡ true
      first f true same e = ap (λ b. b || list_any (is_numbered j) ts) (ap (λ n. nat_eq n j) (sym (begun_number t)) ∙ same)
      first f false other e = second (is_numbered j t) (f e)

      go : (IsAlive (rest ts) j → IsAlive ts j) → (b : Bool) → list_any (is_numbered j) (cond b (begun_by k body params t ∷ rest ts) (rest ts)) ≡ true → (is_numbered j t || list_any (is_numbered j) ts) ≡ true
      go f true e = first f (nat_eq (begun_by k body params t).number j) refl e
      go f false e = second (is_numbered j t) (f e)

  alive_behind : (j : ℕ) → (is_end params && nat_eq j k) ≡ false → (ts : List Token) → IsAlive ts j → IsAlive (rest ts) j
  alive_behind j apart [] h = h
  alive_behind j apart (t ∷ ts) h = by_number (λ e. alive_behind j apart ts e) (nat_eq t.number j) refl h
    where
      second : (b : Bool) → IsAlive (rest ts) j → list_any (is_numbered j) (cond b (begun_by k body params t ∷ rest ts) (rest ts)) ≡ true
      second true e = later (is_numbered j (begun_by k body params t)) e
        where
          later : (b : Bool) → IsAlive (rest ts) j → (b || list_any (is_numbered j) (rest ts)) ≡ true
          later true z = refl
          later false z = z
      second false e = e

      stays : nat_eq t.number j ≡ true → not (is_ended_by k params (begun_by k body params t)) ≡ true
      stays same = ap not (ap (λ n. is_end params && nat_eq n k) (begun_number t ∙ number_same t.number j same) ∙ apart)

      by_number : (IsAlive ts j → IsAlive (rest ts) j) → (b : Bool) → nat_eq t.number j ≡ b → (b || list_any (is_numbered j) ts) ≡ true → list_any (is_numbered j) (rest (t ∷ ts)) ≡ true
      by_number f true same e = ap (λ b. list_any (is_numbered j) (cond b (begun_by k body params t ∷ rest ts) (rest ts))) (stays same)
          ∙ ap (λ b. b || list_any (is_numbered j) (rest ts)) (ap (λ n. nat_eq n j) (begun_number t) ∙ same)
      by_number f false other e = second (not (is_ended_by k params (begun_by k body params t))) (f e)

  -- an end ends it
  pub gone_behind : is_end params ≡ true → (ts : List Token) → list_any (is_numbered k) (rest ts) ≡ false
  gone_behind end [] = refl
  gone_behind end (t ∷ ts) = by_number (gone_behind end ts) (nat_eq (begun_by k body params t).number k) refl
    where
      by_number : list_any (is_numbered k) (rest ts) ≡ false → (b : Bool) → nat_eq (begun_by k body params t).number k ≡ b → list_any (is_numbered k) (rest (t ∷ ts)) ≡ false
      by_number none true same = ap (λ b. list_any (is_numbered k) (cond (not b) (begun_by k body params t ∷ rest ts) (rest ts))) (ap (λ b. b && nat_eq (begun_by k body params t).number k) end ∙ same) ∙ none
      by_number none false other = ap (λ b. list_any (is_numbered k) (cond (not b) (begun_by k body params t ∷ rest ts) (rest ts))) (ap (λ b. b && nat_eq (begun_by k body params t).number k) end ∙ other)
          ∙ ap (λ b. b || list_any (is_numbered k) (rest ts)) other ∙ none

-- Steps

new_fair : (body : List ℕ) (x : Created) → Orderly x → Fair x → (o : Option Token) → created_token body x ≡ o → Fair (with_token o x)
new_fair body x orderly h None is = h
new_fair body x orderly h (Some t) is = record {
  tokens = all_join IsBegun x.tokens (t ∷ []) h.tokens (record { held = subst (λ o. NameTokens (held_first o)) (sym n.begin) tt; going = subst (λ o. NoneEnds (held_first o)) (sym n.begin) tt }, tt);
  takings = both x.takings h.takings orderly.takings;
  small = let low : x.next < 2 ^ 64 = n.small in omega (arith, low);
}
  where
    n : IsNew body x t
    n = new_is body x t is

    other : (c : Taking) → c.token < x.next → nat_eq t.number c.token ≡ false
    other c low = go (nat_eq t.number c.token) refl
      where
        go : (b : Bool) → nat_eq t.number c.token ≡ b → b ≡ false
        go true same = absurd (let is : t.number ≡ c.token = number_same t.number c.token same in let at : t.number ≡ x.next = n.number in omega (arith, is, at, low))
        go false off = refl

    both : (cs : List Taking) → AllByRecursion (IsFair x.tokens) cs → AllByRecursion (λ (c : Taking). c.token < x.next) cs → AllByRecursion (IsFair (x.tokens ++ t ∷ [])) cs
    both [] f l = tt
    both (c ∷ cs) f l = (
      record {
        alive = λ on. alive_more c.token x.tokens (t ∷ []) (f.0.alive on);
        held = f.0.held;
        last = f.0.last;
        going = λ a. f.0.going (alive_less c.token x.tokens t (other c l.0) a);
      },
      both cs f.1 l.1,
    )

-- what begins a token doesn't end it
begin_goes : (params : Option Json) → is_begin params ≡ true → is_end params ≡ false
begin_goes params h = go (string_of (named_of (codes "kind") (named_of (codes "value") params))) h
  where
    go : (o : Option (List ℕ)) → option_map_or (bytes_eq (codes "begin")) o false ≡ true → option_map_or (bytes_eq (codes "end")) o false ≡ false
    go (Some cs) e = ap (bytes_eq (codes "end")) (sym ((bytes_eq-Decides (codes "begin") cs).0 e))
    go None e = never (sym e)

pub called_some : (o : Option Json) (x : Created) (token : Token) → token_called (option_and_then id_of o) x ≡ Some token → is_some o ≡ true
called_some None x token h = absurd (cc)
called_some (Some j) x token h = refl

called_alive : (o : Option Id) (x : Created) (t : Token) → token_called o x ≡ Some t → IsAlive x.tokens t.number
called_alive (Some id) x t h = found_alive (is_called id) t x.tokens h
called_alive None x t h = absurd (cc)

module _ (body : List ℕ) (method : List ℕ) (params : Option Json) (says : message_of body ≡ notification method params) (x : Created) (h : Fair x) (t : Token) (called : token_called (named_token params) x ≡ Some t) where
  abbrev k : ℕ
  k = t.number

  ends_so : ends body ≡ is_end params
  ends_so = ap is_ending says

  names : NamesToken body
  names = record { method = method; params = params; says = says; names = called_some (named_of (codes "token") params) x t called }

  first_begun : (o : Option (List ℕ)) → NameTokens (held_first o) → NoneEnds (held_first o) → NameTokens (held_first (first_begin body params o)) × NoneEnds (held_first (first_begin body params o))
  first_begun (Some first) held going = (held, going)
  first_begun None held going = go (is_begin params) refl
    where
      go : (b : Bool) → is_begin params ≡ b → NameTokens (held_first (if b then Some body else None)) × NoneEnds (held_first (if b then Some body else None))
      go true begins = ((names, tt), (ends_so ∙ begin_goes params begins, tt))
      go false other = (tt, tt)

  begun : (u : Token) → IsBegun u → IsBegun (begun_by k body params u)
  begun u b = go (is_numbered k u)
    where
      go : (c : Bool) → IsBegun (if c then record u { begin = first_begin body params u.begin } else u)
      go true = let f = first_begun u.begin b.held b.going in record { held = f.0; going = f.1 }
      go false = b

  all_begun : (ts : List Token) → AllByRecursion IsBegun ts → AllByRecursion IsBegun (map (begun_by k body params) ts)
  all_begun [] b = tt
  all_begun (u ∷ ts) b = (begun u b.0, all_begun ts b.1)

  abbrev left_over : List Token
  left_over = rest k body params x.tokens

  -- it is as it was
  kept : (c : Taking) → not (is_over k params c) ≡ true → IsFair x.tokens c → IsFair left_over c
  kept c stays f = record {
    alive = λ on. alive_behind k body params c.token (apart on) x.tokens (f.alive on);
    held = f.held;
    last = f.last;
    going = λ a. f.going (alive_before k body params c.token x.tokens a);
  }
    where
      apart : c.accepted ≡ true → (is_end params && nat_eq c.token k) ≡ false
      apart on = unless (is_end params && nat_eq c.token k) (sym (ap (λ b. not (is_end params && (b && nat_eq c.token k))) on) ∙ stays)
        where
          unless : (b : Bool) → not b ≡ true → b ≡ false
          unless true e = never (sym e)
          unless false e = refl

  -- one body more is held
  held_fair : (c : Taking) → nat_eq c.token k ≡ true → c.accepted ≡ false → IsFair x.tokens c → IsFair left_over (record c { held = c.held ++ body ∷ []; begun = c.begun || is_begin params })
  held_fair c same off f = record {
    alive = λ on. never (sym on ∙ off);
    held = all_join NamesToken c.held (body ∷ []) f.held (names, tt);
    last = last_more c.held body goes;
    going = λ a. all_join (λ z. ends z ≡ false) c.held (body ∷ []) goes (ends_so ∙ unended (is_end params) refl a, tt);
  }
    where
      is : c.token ≡ k
      is = number_same c.token k same

      goes : NoneEnds c.held
      goes = f.going (subst (IsAlive x.tokens) (sym is) (called_alive (named_token params) x t called))

      unended : (b : Bool) → is_end params ≡ b → IsAlive left_over c.token → b ≡ false
      unended true end a = never (sym (subst (IsAlive left_over) is a) ∙ gone_behind k body params end x.tokens)
      unended false end a = refl

  told_fair : (c : Taking) → not (is_over k params c) ≡ true → IsFair x.tokens c → IsFair left_over (told k body params c)
  told_fair c stays f = go (nat_eq c.token k) refl c.accepted refl (may_hold params c.held)
    where
      same : IsFair left_over c
      same = kept c stays f

      go : (a : Bool) → nat_eq c.token k ≡ a → (b : Bool) → c.accepted ≡ b → (d : Bool)
          → IsFair left_over (if a then (if b then record c { begun = c.begun || is_begin params } else (if d then record c { held = c.held ++ body ∷ []; begun = c.begun || is_begin params } else c)) else c)
      go true at true on d = record { alive = same.alive; held = same.held; last = same.last; going = same.going }
      go true at false off true = held_fair c at off f
      go true at false off false = same
      go false at b on d = same

  told_all : (cs : List Taking) → AllByRecursion (IsFair x.tokens) cs → AllByRecursion (IsFair left_over) (map (told k body params) (filter (λ c. not (is_over k params c)) cs))
  told_all [] f = tt
  told_all (c ∷ cs) f = go (told_all cs f.1) (not (is_over k params c)) refl
    where
      go : AllByRecursion (IsFair left_over) (map (told k body params) (filter (λ d. not (is_over k params d)) cs)) → (b : Bool) → not (is_over k params c) ≡ b → AllByRecursion (IsFair left_over) (map (told k body params) (cond b (c ∷ filter (λ d. not (is_over k params d)) cs) (filter (λ d. not (is_over k params d)) cs)))
      go others true stays = (told_fair c stays f.0, others)
      go others false over = others

  some_fair : Fair (progressed body params (Some t) x)
  some_fair = record {
    tokens = all_filtered IsBegun IsBegun (λ u. not (is_ended_by k params u)) (λ u on b. b) (map (begun_by k body params) x.tokens) (all_begun x.tokens h.tokens);
    takings = told_all x.takings h.takings;
    small = h.small;
  }

progressed_fair : (body method : List ℕ) (params : Option Json) → message_of body ≡ notification method params → (x : Created) → Fair x → (o : Option Token) → token_called (named_token params) x ≡ o → Fair (progressed body params o x)
progressed_fair body method params says x h None called = h
progressed_fair body method params says x h (Some t) called = some_fair body method params says x h t called

answered_fair : (e : ℕ) (m : Message) (x : Created) → Fair x → Fair (answered e m x)
answered_fair e m x h = record { tokens = h.tokens; takings = all_flat (IsFair x.tokens) (IsFair x.tokens) (λ c. if is_answered e (answered_id m) c then settled m x c else c ∷ []) one x.takings h.takings; small = h.small }
  where
    one : (c : Taking) → IsFair x.tokens c → AllByRecursion (IsFair x.tokens) (if is_answered e (answered_id m) c then settled m x c else c ∷ [])
    one c f = go (is_answered e (answered_id m) c) (accepts m && lives c.token x) refl
      where
        go : (a b : Bool) → (accepts m && lives c.token x) ≡ b → AllByRecursion (IsFair x.tokens) (if a then (if b then record c { accepted = true; held = [] } ∷ [] else []) else c ∷ [])
        go true true both = (record { alive = λ on. (and_parts (accepts m) (lives c.token x) both).1; held = tt; last = tt; going = λ a. tt }, tt)
        go true false both = tt
        go false b both = (f, tt)

left_fair : (e : ℕ) (x : Created) → Fair x → Fair (left e x)
left_fair e x h = record { tokens = h.tokens; takings = all_filtered (IsFair x.tokens) (IsFair x.tokens) (λ c. not (is_at e c)) (λ c on f. f) x.takings h.takings; small = h.small }

asked_fair : (s : ℕ) (params : Option Json) (e n : ℕ) (x : Created) → Fair x → (o : Option Token) → token_marked s params x ≡ o → Fair (with_asked e n o x)
asked_fair s params e n x h None at = h
asked_fair s params e n x h (Some t) at = record { tokens = h.tokens; takings = all_join (IsFair x.tokens) x.takings (asked e n t ∷ []) h.takings (new, tt); small = h.small }
  where
    b : IsBegun t
    b = found_is IsBegun (is_marked s (named_of (codes "token") params)) t x.tokens h.tokens at

    new : IsFair x.tokens (asked e n t)
    new = record { alive = λ on. never (sym on); held = b.held; last = none_last (held_first t.begin) b.going; going = λ a. b.going }

if_fair : (b : Bool) (x y : Created) → Fair x → Fair y → Fair (if b then x else y)
if_fair true x y h k = h
if_fair false x y h k = k

none_fair : Fair no_created
none_fair = record { tokens = tt; takings = tt; small = omega arith }

step_fair : (settings : Settings) (s : ℕ) (before : List Event) (x : Created) (event : Event) → IsMeant event → Orderly x → Fair x → Fair (created_next settings s before x event)
step_fair settings s before x (took (FromServer n body) (request id method params)) says orderly h =
    if_fair (nat_eq n s && (is_creating method && is_heard settings s before id)) (with_token (created_token body x) x) x (new_fair body x orderly h (created_token body x) refl) h
step_fair settings s before x (took (FromServer n body) (notification method params)) says orderly h =
    if_fair (nat_eq n s && (is_progress method && is_ready (life_of s before).stage)) (progressed body params (token_called (named_token params) x) x) x (progressed_fair body method params (sym says) x h (token_called (named_token params) x) refl) h
step_fair settings s before x (took (FromEditor e body) m) says orderly h = if_fair (requests (codes "shutdown") m) (left e x) (answered e m x) (left_fair e x h) (answered_fair e m x h)
step_fair settings s before x (took (EditorGone e why) m) says orderly h = left_fair e x h
step_fair settings s before x (took (StartFailed n) m) says orderly h = if_fair (nat_eq n s) no_created x none_fair h
step_fair settings s before x (took (ServerGone n) m) says orderly h = if_fair (nat_eq n s) no_created x none_fair h
step_fair settings s before x (did (ToEditor e body) (request id method params)) says orderly h =
    if_fair (is_creating method) (with_asked e (next_ask e before) (token_marked s params x) x) x (asked_fair s params e (next_ask e before) x h (token_marked s params x) refl) h
step_fair settings s before x (did (CloseEditor e) m) says orderly h = left_fair e x h
step_fair settings s before x other says orderly h = h

all_fair : (settings : Settings) (s : ℕ) (before : List Event) (x : Created) (events : List Event) → AllMeant events → Orderly x → Fair x → Fair (past (created_next settings s) before x events)
all_fair settings s before x [] says orderly h = h
all_fair settings s before x (event ∷ events) says orderly h =
    all_fair settings s (before ++ event ∷ []) (created_next settings s before x event) events says.1 (step_orderly settings s before x event orderly) (step_fair settings s before x event says.0 orderly h)

pub created_fair : (settings : Settings) (s : ℕ) (events : List Event) → AllMeant events → Fair (created_of settings s events)
created_fair settings s events says = all_fair settings s [] no_created events says none_orderly none_fair
