-- The bytes of the tokens that live are texts of what they are, whatever the events are; so they are found by their bytes as by their ids.
use Rattle.std.proofs.Common.{◌≡◌, ℕ, Bool, true, false, not, ◌&&◌, cond, List, [], ◌∷◌, ◌++◌, codes, find, map, nat_eq, if◌then◌else◌, is_some, refl, sym, subst, ◌∙◌, ap, ap₂}
use Rattle.std.specs.Prelude.{Option, Some, None}
use Rattle.std.specs.List.{AllByRecursion}
use Rattle.std.specs.Option.{option_and_then, option_map}
use Rattle.json_text.specs.declared.span.Span.{Span}
use Rattle.json_text.specs.Bare.{bare}
use Rattle.json_text.specs.Json.{Json, word, number, string, array, object, Members, IsText, span_of}
use Rattle.json_text.specs.Named.{named, named_in}
use Rattle.json_text.specs.Paths.{Step, key, value_at}
use Rattle.json_text.specs.Tree.{tree_of}
use Rattle.json_text.proofs.Inside.{InSpan, value_in_span}
use Rattle.json_text.proofs.Laws.{tree_sound}
use Rattle.json_text.proofs.Moves.{Placed, moved}
use Rattle.mux_history.specs.declared.cause.Cause.TheVariants.{FromEditor, EditorGone, StartFailed, FromServer, ServerGone}
use Rattle.mux_history.specs.declared.out.Out.TheVariants.{CloseEditor, ToEditor}
use Rattle.rpc_message.specs.Message.{Id, request, notification, id_of, same_id, slice_of}
use Rattle.rpc_message.specs.ValueTexts.{IsIdText}
use Rattle.event_model.specs.Event.{Event, did, requests, took}
use Rattle.event_model.specs.Members.{bytes_if, is_token, named_of, params_of}
use Rattle.event_model.specs.Settings.{Settings}
use Rattle.event_model.specs.Stages.{life_of, is_ready}
use Rattle.group_words.specs.Past.{past}
use Rattle.group_rows.specs.Asks.{next_ask}
use Rattle.group_rows.specs.Created.{Created, Token, answered, begun_by, created_next, created_of, created_token, first_begin, if_new, is_called, is_creating, is_ended_by, is_numbered, is_progress, left, may_create, named_token, no_created, progressed, token_called, token_marked, token_of, with_asked, with_token}
use Rattle.group_rows.specs.Forwarded.{token_in}
use Rattle.group_rows.specs.Live.{is_heard}
use Rattle.id_rewrite.proofs.Finding.{texts_same}
use Rattle.progress_route.specs.Tables.{number_in}
use Rattle.mux_tokens.specs.Stands.{row_of}
use Rattle.mux_tokens.proofs.Finding.{all_kept, all_last, all_mapped}

-- One that is read in a body

bare_id : (t : Json) → id_of (bare t) ≡ id_of t
bare_id (number s ds) = refl
bare_id (string s cs) = refl
bare_id (word s w) = refl
bare_id (array s js) = refl
bare_id (object s ms) = refl

pub token_id_text : (name body bytes : List ℕ) (id : Id) → token_in name body ≡ Some bytes → option_and_then id_of (named_of name (params_of body)) ≡ Some id → IsIdText id bytes
unfolding value_at
token_id_text name body bytes id is own = by_tree (tree_of body) refl is own
  where
    standing : (root : Json) (path : List Step) (t : Json) → IsText body root → value_at path root ≡ Some t → id_of t ≡ Some id → IsIdText id (slice_of body (Some (span_of t)))
    standing root path t text at names =
        let i : InSpan body t = value_in_span body path root t text at in
        let m : Placed t 0 (slice_of body (Some (span_of t))) = moved t (span_of t).from (slice_of body (Some (span_of t))) i.stands 0 in
        record { tree = m.tree; stands = m.stands; is = sym (bare_id m.tree) ∙ (ap id_of m.same ∙ (bare_id t ∙ names)) }

    by_member : (root p : Json) → tree_of body ≡ Some root → named_in (codes "params") root ≡ Some p → (s : Span) (ms : Members) → p ≡ object s ms → (o : Option Json) → named name ms ≡ o
        → (if is_token o then bytes_if name (Some p) body else None) ≡ Some bytes → option_and_then id_of o ≡ Some id → IsIdText id bytes
    by_member root p e has s ms shape (Some t) at k names = go (is_token (Some t)) refl k
      where
        place : bytes_if name (Some p) body ≡ Some (slice_of body (Some (span_of t)))
        place = ap (λ q. bytes_if name (Some q) body) shape ∙ (rw at refl)

        way : value_at (key (codes "params") ∷ key name ∷ []) root ≡ Some t
        way = ap (λ o. option_and_then (λ k. value_at (key name ∷ []) k) o) has ∙ ap (λ q. option_and_then (λ k. Some k) (named_in name q)) shape ∙ ap (λ o. option_and_then (λ k. Some k) o) at

        go : (b : Bool) → is_token (Some t) ≡ b → (if b then bytes_if name (Some p) body else None) ≡ Some bytes → IsIdText id bytes
        go true token h = subst (IsIdText id) (let same : slice_of body (Some (span_of t)) ≡ bytes = cc in same) (standing root (key (codes "params") ∷ key name ∷ []) t (tree_sound body root e).0 way names)
        go false token h = absurd (cc)
    by_member root p e has s ms shape None at k names = absurd (cc)

    by_params : (root : Json) → tree_of body ≡ Some root → (p : Json) → named_in (codes "params") root ≡ Some p → (if is_token (named_in name p) then bytes_if name (Some p) body else None) ≡ Some bytes → option_and_then id_of (named_in name p) ≡ Some id → IsIdText id bytes
    by_params root e (object s ms) has k names = by_member root (object s ms) e has s ms refl (named name ms) refl k names
    by_params root e (word s w) has k names = absurd (cc)
    by_params root e (number s ds) has k names = absurd (cc)
    by_params root e (string s cs) has k names = absurd (cc)
    by_params root e (array s js) has k names = absurd (cc)

    by_root : (root : Json) → tree_of body ≡ Some root → (o : Option Json) → named_in (codes "params") root ≡ o → (if is_token (named_of name o) then bytes_if name o body else None) ≡ Some bytes → option_and_then id_of (named_of name o) ≡ Some id → IsIdText id bytes
    by_root root e (Some p) has k names = by_params root e p has k names
    by_root root e None has k names = absurd (cc)

    by_tree : (o : Option Json) → tree_of body ≡ o → (if is_token (named_of name (named_of (codes "params") o)) then bytes_if name (named_of (codes "params") o) body else None) ≡ Some bytes → option_and_then id_of (named_of name (named_of (codes "params") o)) ≡ Some id → IsIdText id bytes
    by_tree (Some root) e k names = by_root root e (named_in (codes "params") root) refl k names
    by_tree None e k names = absurd (cc)

-- Those that live

abbrev pub IsSpelled : Token → Type 0
IsSpelled t = IsIdText t.id t.text

abbrev pub AreSpelled : Created → Type 0
AreSpelled x = AllByRecursion IsSpelled x.tokens

new_spelled : (body : List ℕ) (x : Created) → AreSpelled x → AreSpelled (with_token (created_token body x) x)
new_spelled body x h = go (may_create body x) (named_token (params_of body)) refl
  where
    by : (id : Id) → named_token (params_of body) ≡ Some id → (c : Bool) (w : Option (List ℕ)) → token_in (codes "token") body ≡ w → AreSpelled (with_token (if c then None else option_map (token_of x.next id) w) x)
    by id named true w at = h
    by id named false None at = h
    by id named false (Some text) at = all_last IsSpelled x.tokens (token_of x.next id text) h (token_id_text (codes "token") body text id at named)

    go : (b : Bool) (o : Option Id) → named_token (params_of body) ≡ o → AreSpelled (with_token (if b then option_and_then (if_new body x) o else None) x)
    go true (Some id) named = by id named (is_some (token_called (Some id) x)) (token_in (codes "token") body) refl
    go true None named = h
    go false o named = h

begun_spelled : (k : ℕ) (body : List ℕ) (params : Option Json) (t : Token) → IsSpelled t → IsSpelled (begun_by k body params t)
begun_spelled k body params t h = go (is_numbered k t)
  where
    go : (b : Bool) → IsSpelled (if b then record t { begin = first_begin body params t.begin } else t)
    go true = h
    go false = h

progressed_spelled : (body : List ℕ) (params : Option Json) (o : Option Token) (x : Created) → AreSpelled x → AreSpelled (progressed body params o x)
progressed_spelled body params None x h = h
progressed_spelled body params (Some t) x h = all_kept IsSpelled (λ u. not (is_ended_by t.number params u)) (map (begun_by t.number body params) x.tokens) (all_mapped IsSpelled IsSpelled (begun_by t.number body params) (begun_spelled t.number body params) x.tokens h)

asked_spelled : (e n : ℕ) (o : Option Token) (x : Created) → AreSpelled x → AreSpelled (with_asked e n o x)
asked_spelled e n None x h = h
asked_spelled e n (Some t) x h = h

if_spelled : (b : Bool) (x y : Created) → AreSpelled x → AreSpelled y → AreSpelled (if b then x else y)
if_spelled true x y h k = h
if_spelled false x y h k = k

step_spelled : (settings : Settings) (s : ℕ) (before : List Event) (x : Created) (event : Event) → AreSpelled x → AreSpelled (created_next settings s before x event)
step_spelled settings s before x (took (FromServer n body) (request id method params)) h = if_spelled (nat_eq n s && (is_creating method && is_heard settings s before id)) (with_token (created_token body x) x) x (new_spelled body x h) h
step_spelled settings s before x (took (FromServer n body) (notification method params)) h =
    if_spelled (nat_eq n s && (is_progress method && is_ready (life_of s before).stage)) (progressed body params (token_called (named_token params) x) x) x (progressed_spelled body params (token_called (named_token params) x) x h) h
step_spelled settings s before x (took (FromEditor e body) m) h = if_spelled (requests (codes "shutdown") m) (left e x) (answered e m x) h h
step_spelled settings s before x (took (EditorGone e why) m) h = h
step_spelled settings s before x (took (StartFailed n) m) h = if_spelled (nat_eq n s) no_created x tt h
step_spelled settings s before x (took (ServerGone n) m) h = if_spelled (nat_eq n s) no_created x tt h
step_spelled settings s before x (did (ToEditor e body) (request id method params)) h = if_spelled (is_creating method) (with_asked e (next_ask e before) (token_marked s params x) x) x (asked_spelled e (next_ask e before) (token_marked s params x) x h) h
step_spelled settings s before x (did (CloseEditor e) m) h = h
step_spelled settings s before x other h = h

all_spelled : (settings : Settings) (s : ℕ) (before : List Event) (x : Created) (events : List Event) → AreSpelled x → AreSpelled (past (created_next settings s) before x events)
all_spelled settings s before x [] h = h
all_spelled settings s before x (event ∷ events) h = all_spelled settings s (before ++ event ∷ []) (created_next settings s before x event) events (step_spelled settings s before x event h)

pub tokens_spelled : (settings : Settings) (s : ℕ) (events : List Event) → AreSpelled (created_of settings s events)
tokens_spelled settings s events = all_spelled settings s [] no_created events tt

-- They are found by bytes
pub number_called : (i : Id) (token : List ℕ) (ts : List Token) → IsIdText i token → AllByRecursion IsSpelled ts → number_in token (map row_of ts) ≡ option_map (λ (t : Token). t.number) (find (is_called i) ts)
number_called i token [] h all = refl
number_called i token (u ∷ ts) h all = ap₂ (λ b (o : Option ℕ). cond b (Some u.number) o) (texts_same i u.id token u.text h all.0) (number_called i token ts h all.1) ∙ go (same_id i u.id)
  where
    go : (b : Bool) → cond b (Some u.number) (option_map (λ (t : Token). t.number) (find (is_called i) ts)) ≡ option_map (λ (t : Token). t.number) (cond b (Some u) (find (is_called i) ts))
    go true = refl
    go false = refl
