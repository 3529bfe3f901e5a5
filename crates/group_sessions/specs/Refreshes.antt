-- What comes of a request by which a ready start wants something asked anew: each editor that runs in the start's group is asked, at once or behind its next message that goes on to the start; and an editor on whose texts the start agrees is left at rest (LSP 3.17, the refresh requests of Language Features).
use Rattle.std.specs.Prelude.{◌≡◌, ◌⊎◌, ℕ, Bool, true, false, not, ◌&&◌, ◌||◌, List, [], ◌∷◌, ◌++◌, bytes_eq, codes, decimal, nat_eq}
use Rattle.std.specs.Prelude.{Option, Some, None}
use Rattle.std.specs.List.{list_any}
use Rattle.json_text.specs.Json.{Json}
use Rattle.mux_history.specs.declared.cause.Cause.{Cause}
use Rattle.mux_history.specs.declared.cause.Cause.TheVariants.{FromEditor, EditorGone, FromServer}
use Rattle.mux_history.specs.declared.entry.Entry.{Entry}
use Rattle.mux_history.specs.declared.out.Out.{Out}
use Rattle.mux_history.specs.declared.out.Out.TheVariants.{ToEditor, ToServer, CloseEditor}
use Rattle.rpc_message.specs.Message.{Id, Message, message_of, request}
use Rattle.rpc_message.specs.Texts.{with_id_text}
use Rattle.document_model.specs.Helds.{HeldText}
use Rattle.document_model.specs.Opens.{Open}
use Rattle.document_model.specs.Rows.{Agrees}
use Rattle.document_model.specs.Sayings.{saying_of, speaks}
use Rattle.document_model.specs.Texts.{found}
use Rattle.event_model.specs.Event.{Event, events_of, heard, requests, said, with_cause}
use Rattle.event_model.specs.Settings.{Settings}
use Rattle.event_model.specs.Stages.{is_ready, life_of}
use Rattle.mux_model.specs.Documents.{held_at}
use Rattle.group_rows.specs.Answers.{shared_texts}
use Rattle.group_rows.specs.Asks.{has_number}
use Rattle.group_rows.specs.Debts.{agrees_on_all, asks_anew, debts_of, ends_debts, runs_at}
use Rattle.group_rows.specs.Lists.{is_about}
use Rattle.group_rows.specs.Texts.{is_synced}

-- the second, but where the first is so; and one of two
abbrev pub Unless : Bool → Type 0 → Type 0
Unless true P = Unit {0}
Unless false P = P

abbrev pub Either : Bool → Type 0 → Type 0 → Type 0
Either true P Q = P
Either false P Q = Q

-- Each is asked

-- one of these outs asks the editor by this body, under a number of the editor's own
pub record IsSent (e : ℕ) (body : List ℕ) (outs : List Out) : Type 0 where
  pub number : ℕ
  pub earlier : List Out
  pub later : List Out
  pub sent : outs ≡ earlier ++ ToEditor e (with_id_text body (decimal number)) ∷ later

-- or no number is left for it
abbrev pub IsAsked : ℕ → List ℕ → List Entry → Entry → Type 0
IsAsked e body before entry = IsSent e body entry.outs ⊎ (has_number e (events_of (before ++ entry ∷ [])) ≡ false)

-- in this entry the program of s ends, or e leaves
abbrev pub is_over : ℕ → ℕ → Entry → Bool
is_over s e entry = ends_debts s e (heard entry.cause) || list_any (λ out. ends_debts s e (said out)) entry.outs

abbrev pub is_from : ℕ → Cause → Bool
is_from e (FromEditor n body) = nat_eq n e
is_from e other = false

-- s wants the same asked anew
abbrev pub asks_again : Settings → ℕ → List Event → List ℕ → Message → Bool
asks_again settings s before method (request id other params) = bytes_eq method other && asks_anew settings s before id other
asks_again settings s before method other = false

abbrev pub wants_again : Settings → ℕ → List Event → List ℕ → Cause → Bool
wants_again settings s before method (FromServer n body) = nat_eq n s && asks_again settings s before method (message_of body)
wants_again settings s before method other = false

-- a message of e goes on to s
abbrev pub is_onward : ℕ → Out → Bool
is_onward s (ToServer n body) = nat_eq n s && is_synced (message_of body)
is_onward s other = false

abbrev pub goes_on : ℕ → ℕ → Entry → Bool
goes_on s e entry = is_from e entry.cause && list_any (is_onward s) entry.outs

-- e is asked in the first of these entries in which a message of its own goes on to s, unless before that the program of s ends, e leaves, or s wants the same asked anew
abbrev pub Reaches : Settings → ℕ → ℕ → List ℕ → List ℕ → List Entry → List Entry → Type 0
Reaches settings s e method body before [] = Unit {0}
Reaches settings s e method body before (entry ∷ rest) =
    Unless (is_over s e entry || wants_again settings s (events_of before) method entry.cause)
    (Either (goes_on s e entry) (IsAsked e body before entry) (Reaches settings s e method body (before ++ entry ∷ []) rest))

-- s, which is ready, wants something asked anew: each editor that runs in its group is asked in the entry, or so, unless it leaves in it
abbrev pub OnRefresh : Settings → List Entry → Entry → List Entry → Type 0
OnRefresh settings before entry rest = (s : ℕ) (body method : List ℕ) (id : Id) (params : Option Json) → entry.cause ≡ FromServer s body → message_of body ≡ request id method params → asks_anew settings s (events_of before) id method ≡ true
    → (e : ℕ) → runs_at settings s (events_of before) e ≡ true → IsAsked e body before entry ⊎ Unless (is_over s e entry) (Reaches settings s e method body (before ++ entry ∷ []) rest)

abbrev pub RefreshesFrom : Settings → List Entry → List Entry → Type 0
RefreshesFrom settings before [] = Unit {0}
RefreshesFrom settings before (entry ∷ rest) = OnRefresh settings before entry rest × RefreshesFrom settings (before ++ entry ∷ []) rest

abbrev pub KeepsRefreshes : Settings → List Entry → Type 0
KeepsRefreshes settings history = RefreshesFrom settings [] history

-- They come to rest

-- s, which is ready, agrees with e, which runs in its group, on each document that e has open, and owes it nothing
pub record IsAtRest (settings : Settings) (s e : ℕ) (events : List Event) : Type 0 where
  pub ready : is_ready (life_of s events).stage ≡ true
  pub runs : runs_at settings s events e ≡ true
  pub agrees : agrees_on_all settings s events e ≡ true
  pub owed : debts_of settings s e events ≡ []

-- another editor says something that goes on, or of a document, or leaves
abbrev pub is_other : ℕ → ℕ → Bool
is_other e n = not (nat_eq n e)

abbrev pub speaks_up : ℕ → Cause → Bool
speaks_up e (FromEditor n body) = is_other e n && (speaks (saying_of (message_of body)) || requests (codes "shutdown") (message_of body))
speaks_up e (EditorGone n why) = is_other e n
speaks_up e other = false

abbrev pub parts : ℕ → Out → Bool
parts e (CloseEditor n) = is_other e n
parts e other = false

abbrev pub is_pushed : ℕ → Cause → Bool
is_pushed e (FromEditor n body) = is_other e n
is_pushed e other = false

abbrev pub disturbs : ℕ → ℕ → Entry → Bool
disturbs s e entry = speaks_up e entry.cause || ((is_pushed e entry.cause && list_any (is_onward s) entry.outs) || list_any (parts e) entry.outs)

-- behind a body to s on a document that is open at e, s has no other text of it than e's, in no other language
abbrev pub HasNoOther : Open → Option HeldText → Type 0
HasNoOther o None = Unit {0}
HasNoOther o (Some h) = Agrees o h

abbrev pub OnDocument : Settings → ℕ → ℕ → List Event → Out → Type 0
OnDocument settings s e events (ToServer n body) = n ≡ s → (u : List ℕ) (o : Open) → is_about u (saying_of (message_of body)) ≡ true → found e u (shared_texts settings s (events ++ said (ToServer n body) ∷ [])) ≡ Some o
    → HasNoOther o (held_at s u (events ++ said (ToServer n body) ∷ []))
OnDocument settings s e events other = Unit {0}

abbrev pub AllOnDocuments : Settings → ℕ → ℕ → List Event → List Out → Type 0
AllOnDocuments settings s e events [] = Unit {0}
AllOnDocuments settings s e events (out ∷ outs) = OnDocument settings s e events out × AllOnDocuments settings s e (events ++ said out ∷ []) outs

-- as long as no entry disturbs it, none tells s of another text, and e stays at rest, unless it leaves or the program of s ends
abbrev pub StaysAtRest : Settings → ℕ → ℕ → List Entry → List Entry → Type 0
StaysAtRest settings s e before [] = Unit {0}
StaysAtRest settings s e before (entry ∷ rest) =
    Unless (disturbs s e entry || is_over s e entry) (AllOnDocuments settings s e (with_cause (events_of before) entry.cause) entry.outs × ((is_ready (life_of s (events_of (before ++ entry ∷ []))).stage ≡ true → IsAtRest settings s e (events_of (before ++ entry ∷ []))) × StaysAtRest settings s e (before ++ entry ∷ []) rest))

abbrev pub KeepsRest : Settings → List Entry → Type 0
KeepsRest settings history = (before rest : List Entry) → history ≡ before ++ rest → (s e : ℕ) → IsAtRest settings s e (events_of before) → StaysAtRest settings s e before rest
