-- Requests by their tokens: a token of an open request stays one until that request is answered.
use Rattle.std.proofs.Common.{◌≡◌, ℕ, Bool, true, false, not, ◌&&◌, ◌||◌, cond, List, [], ◌∷◌, ◌++◌, Option, Some, None, refl, sym, ◌∙◌, ap, ap₂}
use Rattle.std.specs.List.{list_any}
use Rattle.rpc_message.specs.Message.{Id, Message, request, notification, result, error, not_json, not_message}
use Rattle.event_model.specs.Event.{same_id}
use Rattle.event_model.specs.Requests.{is_open}
use Rattle.mux_facts.specs.Allowed.{is_response}
use Rattle.mux_facts.proofs.Words.{id_same, open_more}
use Rattle.session_laws.specs.Progress.{Tokened, is_answered, names_one, tokens_in, unanswered}

-- a request under this id brings this token
abbrev pub brings : Id → Id → Tokened → Bool
brings id token r = same_id id r.id && is_open token r.tokens

abbrev pub holds : Id → Id → List Tokened → Bool
holds id token rs = list_any (brings id token) rs

pub or_first : (a b : Bool) → a ≡ true → (a || b) ≡ true
or_first a b h = ap (λ c. c || b) h

pub or_second : (a b : Bool) → b ≡ true → (a || b) ≡ true
or_second true b h = refl
or_second false b h = h

pub open_behind : (token : Id) (xs ys : List Id) → is_open token ys ≡ true → is_open token (xs ++ ys) ≡ true
open_behind token [] ys h = h
open_behind token (x ∷ xs) ys h = or_second (same_id token x) (is_open token (xs ++ ys)) (open_behind token xs ys h)

-- one more request
pub holds_more : (id token : Id) (rs more : List Tokened) → holds id token rs ≡ true → holds id token (rs ++ more) ≡ true
holds_more id token [] more h = absurd (cc)
holds_more id token (r ∷ rs) more h = go (brings id token r) (λ e. holds_more id token rs more e) h
  where
    go : (b : Bool) → (holds id token rs ≡ true → holds id token (rs ++ more) ≡ true) → (b || holds id token rs) ≡ true → (b || holds id token (rs ++ more)) ≡ true
    go true f e = refl
    go false f e = f e

pub holds_last : (id token : Id) (rs : List Tokened) (r : Tokened) → brings id token r ≡ true → holds id token (rs ++ r ∷ []) ≡ true
holds_last id token [] r h = or_first (brings id token r) false h
holds_last id token (x ∷ rs) r h = or_second (brings id token x) (holds id token (rs ++ r ∷ [])) (holds_last id token rs r h)

-- another request is answered
left_step : (id token : Id) (r : Tokened) (rs rest : List Tokened) → (holds id token rs ≡ true → holds id token rest ≡ true) → (b c : Bool) → (b ≡ true → c ≡ false) → same_id id r.id ≡ b
    → ((b && is_open token r.tokens) || holds id token rs) ≡ true → holds id token (cond (not c) (r ∷ rest) rest) ≡ true
left_step id token r rs rest f true true clash e h = absurd (let no : true ≡ false = clash refl in cc)
left_step id token r rs rest f true false clash e h = go (is_open token r.tokens) refl h
  where
    go : (d : Bool) → is_open token r.tokens ≡ d → ((true && d) || holds id token rs) ≡ true → holds id token (r ∷ rest) ≡ true
    go true o k = or_first (brings id token r) (holds id token rest) (ap₂ (λ x y. x && y) e o)
    go false o k = or_second (brings id token r) (holds id token rest) (f k)
left_step id token r rs rest f false true clash e h = f h
left_step id token r rs rest f false false clash e h = or_second (brings id token r) (holds id token rest) (f h)

answers_other : (answer : Option Id) (id : Id) (r : Tokened) → ((i : Id) → answer ≡ Some i → same_id i id ≡ false) → same_id id r.id ≡ true → is_answered answer r ≡ false
answers_other None id r other same = refl
answers_other (Some i) id r other same = ap (λ z. same_id i z) (sym (id_same id r.id same)) ∙ other i refl

pub holds_left : (answer : Option Id) (id token : Id) → ((i : Id) → answer ≡ Some i → same_id i id ≡ false) → (rs : List Tokened) → holds id token rs ≡ true → holds id token (unanswered answer rs) ≡ true
holds_left answer id token other [] h = absurd (cc)
holds_left answer id token other (r ∷ rs) h =
    left_step id token r rs (unanswered answer rs) (λ e. holds_left answer id token other rs e) (same_id id r.id) (is_answered answer r) (answers_other answer id r other) refl h

-- it is among the tokens of all of them
pub holds_open : (id token : Id) (rs : List Tokened) → holds id token rs ≡ true → is_open token (tokens_in rs) ≡ true
holds_open id token [] h = absurd (cc)
holds_open id token (r ∷ rs) h = go (same_id id r.id) (is_open token r.tokens) refl (λ e. holds_open id token rs e) h
  where
    go : (a b : Bool) → is_open token r.tokens ≡ b → (holds id token rs ≡ true → is_open token (tokens_in rs) ≡ true) → ((a && b) || holds id token rs) ≡ true → is_open token (r.tokens ++ tokens_in rs) ≡ true
    go true true o f e = open_more token r.tokens (tokens_in rs) o
    go true false o f e = open_behind token r.tokens (tokens_in rs) (f e)
    go false b o f e = open_behind token r.tokens (tokens_in rs) (f e)

-- What is no notification of this method may be sent

pub names_freely : (name : List ℕ) (tokens : List Id) (m : Message) → is_response m ≡ true → names_one name tokens m ≡ true
names_freely name tokens (result id r) h = refl
names_freely name tokens (error id e) h = refl
names_freely name tokens (request id method params) h = absurd (cc)
names_freely name tokens (notification method params) h = absurd (cc)
names_freely name tokens not_json h = absurd (cc)
names_freely name tokens not_message h = absurd (cc)
