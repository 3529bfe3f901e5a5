-- S9: what asks and answers leave as it is.
use Rattle.std.proofs.Common.{◌≡◌, ℕ, zero, suc, ◌<◌, ◌^◌, Bool, true, false, cond, filter, List, [], ◌∷◌, ◌++◌, decimal, length, get_or, nat_eq, if◌then◌else◌, refl, ap, sym, subst, ◌∙◌, append-nil, arith}
use Rattle.std.specs.Prelude.{Option}
use Rattle.std.specs.List.{AllByRecursion}
use Rattle.std.proofs.lemmas.Bool.Decides.{nat_tests}
use Rattle.json_text.specs.Json.{Json}
use Rattle.mux_history.specs.declared.out.Out.{Out}
use Rattle.mux_history.specs.declared.out.Out.TheVariants.{ToEditor, ToServer}
use Rattle.rpc_message.specs.Message.{Id, integer, message_of, request}
use Rattle.rpc_message.specs.Texts.{with_id_text}
use Rattle.rpc_message.proofs.Decimals.{decimal_law}
use Rattle.rpc_message.proofs.Ids.{request_with_id}
use Rattle.event_model.specs.declared.phase.Phase.{Phase}
use Rattle.event_model.specs.declared.phase.Phase.TheVariants.{Absent, New, Waiting, Answered, Running, Down, Closed, Gone}
use Rattle.event_model.specs.Event.{Event, behind, said}
use Rattle.event_model.specs.Phases.{Desk, desk_behind, desk_of, is_running, phase_told}
use Rattle.event_model.specs.Row.{choose, each, nothing, outs, send}
use Rattle.event_model.specs.Settings.{Settings}
use Rattle.event_model.proofs.Frames.{one_more}
use Rattle.event_model.proofs.Turns.{behind_more}
use Rattle.group_rows.specs.AskRows.{ask}
use Rattle.group_rows.specs.Asks.{has_number, next_ask}
use Rattle.mux_tables.specs.Stands.{IsAtRest}
use Rattle.mux_tables.proofs.Working.{rests_said}

-- each editor stands where it stood, and where nothing of a start is at work nothing is
pub record Kept (settings : Settings) (old new : List Event) : Type 0 where
  pub phases : (n : ℕ) → (desk_of n new).phase ≡ (desk_of n old).phase
  pub rests : (s : ℕ) → IsAtRest settings s old → IsAtRest settings s new

kept_none : (settings : Settings) (events : List Event) → Kept settings events (behind events [])
kept_none settings events = record { phases = λ n. ap (λ es. (desk_of n es).phase) (append-nil events); rests = λ s rest. subst (IsAtRest settings s) (sym (append-nil events)) rest }

kept_then : (settings : Settings) (old mid new : List Event) → Kept settings old mid → Kept settings mid new → Kept settings old new
kept_then settings old mid new a b = record { phases = λ n. b.phases n ∙ a.phases n; rests = λ s rest. b.rests s (a.rests s rest) }

-- a request to an editor
request_told : (p : Phase) (i : List ℕ) (id : Id) (method : List ℕ) (params : Option Json) → phase_told p i (request id method params) ≡ p
request_told Waiting i id method params = refl
request_told Absent i id method params = refl
request_told New i id method params = refl
request_told Answered i id method params = refl
request_told Running i id method params = refl
request_told Down i id method params = refl
request_told Closed i id method params = refl
request_told Gone i id method params = refl

told_asks : (settings : Settings) (e : ℕ) (text : List ℕ) (events : List Event) (id : Id) (method : List ℕ) (params : Option Json) → message_of text ≡ request id method params → Kept settings events (behind events (ToEditor e text ∷ []))
told_asks settings e text events id method params says = record {
  phases = λ n. ap (λ (d : Desk). d.phase) (one_more (desk_behind n) _ _ events (said (ToEditor e text)) refl) ∙ desk_at n (nat_eq e n);
  rests = λ s rest. rests_said settings s events (ToEditor e text) rest;
}
  where
    desk_at : (n : ℕ) (b : Bool) → (if b then record { phase = phase_told (desk_of n events).phase (desk_of n events).initialize (message_of text); initialize = (desk_of n events).initialize } else desk_of n events).phase ≡ (desk_of n events).phase
    desk_at n true = ap (phase_told (desk_of n events).phase (desk_of n events).initialize) says ∙ request_told (desk_of n events).phase (desk_of n events).initialize id method params
    desk_at n false = refl

-- the row of an ask, and of several
module _ (settings : Settings) (body method : List ℕ) (id : Id) (params : Option Json) (says : message_of body ≡ request id method params) where
  ask_keeps : (e : ℕ) (events : List Event) → Kept settings events (behind events (outs (ask body e) events))
  ask_keeps e events = go (has_number e events) refl
    where
      go : (b : Bool) → has_number e events ≡ b → Kept settings events (behind events (outs (choose b (send (ToEditor e (with_id_text body (decimal (next_ask e events))))) nothing) events))
      go true h = let low : next_ask e events < 2 ^ 64 = grind (arith, nat_tests) in told_asks settings e (with_id_text body (decimal (next_ask e events))) events (integer (decimal (next_ask e events))) method params (request_with_id body (decimal (next_ask e events)) id (integer (decimal (next_ask e events))) method params says (decimal_law (next_ask e events) low))
      go false h = kept_none settings events

  pub each_keeps : (es : List ℕ) (events : List Event) → Kept settings events (behind events (outs (each (ask body) es) events))
  each_keeps [] events = kept_none settings events
  each_keeps (e ∷ es) events =
      let xs = outs (ask body e) events in
      subst (Kept settings events) (sym (behind_more events xs (outs (each (ask body) es) (behind events xs))))
      (kept_then settings events (behind events xs) (behind (behind events xs) (outs (each (ask body) es) (behind events xs))) (ask_keeps e events) (each_keeps es (behind events xs)))

-- behind what was said before
pub kept_behind : (settings : Settings) (body : List ℕ) (es : List ℕ) (base : List Event) (xs ys : List Out) → ys ≡ xs ++ outs (each (ask body) es) (behind base xs) → Kept settings (behind base xs) (behind (behind base xs) (outs (each (ask body) es) (behind base xs))) → Kept settings (behind base xs) (behind base ys)
kept_behind settings body es base xs ys is k = subst (Kept settings (behind base xs)) (sym (ap (behind base) is ∙ behind_more base xs (outs (each (ask body) es) (behind base xs)))) k

-- a body to a start
server_keeps : (settings : Settings) (s : ℕ) (text : List ℕ) (events : List Event) → Kept settings events (behind events (ToServer s text ∷ []))
server_keeps settings s text events = record {
  phases = λ n. ap (λ (d : Desk). d.phase) (one_more (desk_behind n) _ _ events (said (ToServer s text)) refl);
  rests = λ n rest. rests_said settings n events (ToServer s text) rest;
}

pub answered_keeps : (settings : Settings) (s : ℕ) (text : List ℕ) (base : List Event) (xs ys : List Out) → ys ≡ xs ++ ToServer s text ∷ [] → Kept settings (behind base xs) (behind base ys)
answered_keeps settings s text base xs ys is = subst (Kept settings (behind base xs)) (sym (ap (behind base) is ∙ behind_more base xs (ToServer s text ∷ []))) (server_keeps settings s text (behind base xs))

-- of each of a list
pub kept_all : (es : List ℕ) (old new : List Event) → ((e : ℕ) → is_running (desk_of e old).phase ≡ true → is_running (desk_of e new).phase ≡ true) → AllByRecursion (λ e. is_running (desk_of e old).phase ≡ true) es → AllByRecursion (λ e. is_running (desk_of e new).phase ≡ true) es
kept_all [] old new keeps all = tt
kept_all (e ∷ es) old new keeps all = (keeps e all.0, kept_all es old new keeps all.1)

pub runs_at : (events : List Event) (es : List ℕ) (i : ℕ) → AllByRecursion (λ e. is_running (desk_of e events).phase ≡ true) es → i < length es → is_running (desk_of (get_or es i 0) events).phase ≡ true
runs_at events [] i all l = absurd (omega (arith, l))
runs_at events (e ∷ es) zero all l = all.0
runs_at events (e ∷ es) (suc i) all l = runs_at events es i all.1 (omega (arith, l))

-- of those of a list that pass a test
pub all_chosen : (P : ℕ → Type 0) (test : ℕ → Bool) (es : List ℕ) → AllByRecursion P es → AllByRecursion P (filter test es)
all_chosen P test [] all = tt
all_chosen P test (e ∷ es) all = go (test e) (all_chosen P test es all.1)
  where
    go : (b : Bool) → AllByRecursion P (filter test es) → AllByRecursion P (cond b (e ∷ filter test es) (filter test es))
    go true rest = (all.0, rest)
    go false rest = rest
