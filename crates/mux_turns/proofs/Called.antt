-- S6, S7 and L2: requests by which editors are told of registrations, and what they leave as it is.
use Rattle.std.proofs.Common.{◌≡◌, ℕ, suc, ◌^◌, Bool, true, false, ◌&&◌, List, [], ◌∷◌, ◌++◌, arith, codes, decimal, length, nat_eq, if◌then◌else◌, refl, ap, sym, subst, ◌∙◌, append-nil, ltb-true}
use Rattle.std.specs.Prelude.{Option, None, Some}
use Rattle.std.proofs.lemmas.Bool.Decides.{nat_tests}
use Rattle.json_text.specs.Json.{Json}
use Rattle.mux_history.specs.declared.out.Out.{Out}
use Rattle.mux_history.specs.declared.out.Out.TheVariants.{ToEditor}
use Rattle.rpc_message.specs.Message.{Id, integer, message_of, request}
use Rattle.event_model.specs.declared.phase.Phase.{Phase}
use Rattle.event_model.specs.declared.phase.Phase.TheVariants.{Absent, New, Waiting, Answered, Running, Down, Closed, Gone}
use Rattle.event_model.specs.Event.{Event, behind, did, said}
use Rattle.event_model.specs.Phases.{Desk, desk_behind, desk_of, is_running, phase_told}
use Rattle.event_model.specs.Row.{Row, after, choose, each, nothing, outs, send}
use Rattle.event_model.specs.Settings.{Settings}
use Rattle.event_model.proofs.Frames.{one_more}
use Rattle.event_model.proofs.Turns.{behind_more}
use Rattle.group_facts.proofs.Asks.{call_hurried}
use Rattle.lsp_method.specs.Class.{server_request}
use Rattle.group_facts.proofs.AskingRows.{registers_all, unregisters_all}
use Rattle.group_facts.specs.group_rows.specs.Asks.{Asking, asked_next, asking_next, asking_of, has_number, is_own_work, is_patient, next_ask, serves, unparked}
use Rattle.group_facts.specs.group_rows.specs.Created.{is_creating}
use Rattle.group_facts.specs.group_rows.specs.Live.{register_text, unregister_text}
use Rattle.group_facts.specs.group_rows.specs.LiveRows.{call, has_some}
use Rattle.group_facts.specs.group_rows.specs.LiveTexts.{AreWritten}
use Rattle.group_facts.specs.group_rows.proofs.LiveTexts.{register_says, unregister_says}
use Rattle.group_words.specs.Houses.{home_of}
use Rattle.group_words.proofs.Frames.{home_more}
use Rattle.group_facts.specs.registrations.specs.declared.registration.Registration.{Registration}
use Rattle.mux_tables.specs.Puts.{IsNextAsk}
use Rattle.mux_tables.proofs.Asking.{asking_more}
use Rattle.mux_turns.specs.Calls.{IsCall}

-- neither creates a token
registers_none : is_creating (codes "client/registerCapability") ≡ false
unfolding server_request
registers_none = refl

unregisters_none : is_creating (codes "client/unregisterCapability") ≡ false
unfolding server_request
unregisters_none = refl

-- what is told of registrations that are written
pub register_call : (rs : List Registration) → AreWritten rs → IsCall (register_text rs)
register_call rs h = record { method = codes "client/registerCapability"; impatient = call_hurried (codes "client/registerCapability") registers_all; uncreating = registers_none; says = λ n small. let q = register_says rs h n (omega (arith, small)) in (Some q.0, q.1) }

pub unregister_call : (rs : List Registration) → AreWritten rs → IsCall (unregister_text rs)
unregister_call rs h = record { method = codes "client/unregisterCapability"; impatient = call_hurried (codes "client/unregisterCapability") unregisters_all; uncreating = unregisters_none; says = λ n small. let q = unregister_says rs h n (omega (arith, small)) in (Some q.0, q.1) }

-- whether there are any
pub none_there : (rs : List Registration) (b : Bool) → b ≡ nat_eq (length rs) 0 → b ≡ true → has_some rs ≡ false
none_there [] b is on = refl
none_there (x ∷ rs) b is on = absurd (clash (length rs) (sym is ∙ on))
  where
    clash : (n : ℕ) → nat_eq (suc n) 0 ≡ true → ⊥
    clash n q = let none : suc n ≡ 0 = grind (arith, nat_tests) in omega (arith, none)

pub some_there : (rs : List Registration) (b : Bool) → b ≡ nat_eq (length rs) 0 → b ≡ false → has_some rs ≡ true
some_there [] b is off = absurd (clash (sym is ∙ off))
  where
    clash : true ≡ false → ⊥
    clash q = cc
some_there (x ∷ rs) b is off = refl

-- the text under an editor's next number
pub next_call : (text : ℕ → List ℕ) (k : IsCall text) (e n : ℕ) (now : List Event) (w : List ℕ) → w ≡ text n → has_number e now ≡ true → n ≡ next_ask e now → (params : Option Json) × IsNextAsk e now k.method params w
next_call text k e n now w is left next =
    let q = k.says (next_ask e now) (ltb-true (next_ask e now) (2 ^ 64) left) in
    (q.0, record { left = left; says = ap message_of (is ∙ ap text next) ∙ q.1 })

-- each editor stands where it stood, and at each start what it asks is as it was, while nothing is at work that one editor answers
pub record Quiet (settings : Settings) (old new : List Event) : Type 0 where
  pub phases : (n : ℕ) → (desk_of n new).phase ≡ (desk_of n old).phase
  pub homes : (n : ℕ) → home_of settings n new ≡ home_of settings n old
  pub asking : (s : ℕ) → (asking_of settings s old).asker ≡ None → asking_of settings s new ≡ asking_of settings s old

request_told : (p : Phase) (i : List ℕ) (id : Id) (method : List ℕ) (params : Option Json) → phase_told p i (request id method params) ≡ p
request_told Waiting i id method params = refl
request_told Absent i id method params = refl
request_told New i id method params = refl
request_told Answered i id method params = refl
request_told Running i id method params = refl
request_told Down i id method params = refl
request_told Closed i id method params = refl
request_told Gone i id method params = refl

module _ (settings : Settings) where
  pub quiet_none : (events : List Event) → Quiet settings events (behind events [])
  quiet_none events = subst (Quiet settings events) (sym (append-nil events)) (record { phases = λ n. refl; homes = λ n. refl; asking = λ s none. refl })

  pub quiet_then : (old mid new : List Event) → Quiet settings old mid → Quiet settings mid new → Quiet settings old new
  quiet_then old mid new a b = record {
    phases = λ n. b.phases n ∙ a.phases n;
    homes = λ n. b.homes n ∙ a.homes n;
    asking = λ s none. b.asking s (ap (λ (x : Asking). x.asker) (a.asking s none) ∙ none) ∙ a.asking s none;
  }

  -- a request to an editor, by which nothing that waits goes on
  pub quiet_told : (e : ℕ) (text : List ℕ) (events : List Event) (id : Id) (method : List ℕ) (params : Option Json) → message_of text ≡ request id method params → is_patient method ≡ false → Quiet settings events (behind events (ToEditor e text ∷ []))
  quiet_told e text events id method params says impatient = record {
    phases = λ n. ap (λ (d : Desk). d.phase) (one_more (desk_behind n) _ _ events (said (ToEditor e text)) refl) ∙ desk_at n (nat_eq e n);
    homes = λ n. home_more settings n events (said (ToEditor e text));
    asking = λ s none. asking_more settings s events (said (ToEditor e text)) ∙ (ap (λ m. asking_next settings s events (asking_of settings s events) (did (ToEditor e text) m)) says ∙ same s (asking_of settings s events) none);
  }
    where
      desk_at : (n : ℕ) (b : Bool) → (if b then record { phase = phase_told (desk_of n events).phase (desk_of n events).initialize (message_of text); initialize = (desk_of n events).initialize } else desk_of n events).phase ≡ (desk_of n events).phase
      desk_at n true = ap (phase_told (desk_of n events).phase (desk_of n events).initialize) says ∙ request_told (desk_of n events).phase (desk_of n events).initialize id method params
      desk_at n false = refl

      off : (a : Bool) (x y : Asking) → (if a && false then y else x) ≡ x
      off true x y = refl
      off false x y = refl

      same : (s : ℕ) (x : Asking) → x.asker ≡ None → asked_next (is_own_work e x.runs && (is_patient method && serves settings events s e)) e (next_ask e events) x x.asker ≡ x
      same s x none = ap (asked_next (is_own_work e x.runs && (is_patient method && serves settings events s e)) e (next_ask e events) x) none
          ∙ (ap (λ b. if is_own_work e x.runs && (b && serves settings events s e) then unparked e (next_ask e events) x x.parked else x) impatient ∙ off (is_own_work e x.runs) x (unparked e (next_ask e events) x x.parked))

  -- the row of one, and rows of several
  pub call_quiet : (text : ℕ → List ℕ) → IsCall text → (e : ℕ) (events : List Event) → Quiet settings events (behind events (outs (call text e) events))
  call_quiet text k e events = go (has_number e events) refl
    where
      go : (b : Bool) → has_number e events ≡ b → Quiet settings events (behind events (outs (choose b (send (ToEditor e (text (next_ask e events)))) nothing) events))
      go true h = let q = k.says (next_ask e events) (ltb-true (next_ask e events) (2 ^ 64) h) in quiet_told e (text (next_ask e events)) events (integer (decimal (next_ask e events))) k.method q.0 q.1 k.impatient
      go false h = quiet_none events

  pub any_quiet : (text : ℕ → List ℕ) → IsCall text → (b : Bool) (e : ℕ) (events : List Event) → Quiet settings events (behind events (outs (choose b (call text e) nothing) events))
  any_quiet text k true e events = call_quiet text k e events
  any_quiet text k false e events = quiet_none events

  pub after_quiet : (p q : Row) (events : List Event) → Quiet settings events (behind events (outs p events)) → ((now : List Event) → Quiet settings now (behind now (outs q now))) → Quiet settings events (behind events (outs (after p q) events))
  after_quiet p q events first second =
      let xs = outs p events in
      let mid = behind events xs in
      subst (Quiet settings events) (sym (behind_more events xs (outs q mid))) (quiet_then events mid (behind mid (outs q mid)) first (second mid))

  pub each_quiet : (row : ℕ → Row) → ((e : ℕ) (events : List Event) → Quiet settings events (behind events (outs (row e) events))) → (es : List ℕ) (events : List Event) → Quiet settings events (behind events (outs (each row es) events))
  each_quiet row one [] events = quiet_none events
  each_quiet row one (e ∷ es) events = after_quiet (row e) (each row es) events (one e events) (λ now. each_quiet row one es now)

  -- behind what was said before
  pub quiet_behind : (row : Row) (base : List Event) (xs ys : List Out) → ys ≡ xs ++ outs row (behind base xs) → Quiet settings (behind base xs) (behind (behind base xs) (outs row (behind base xs))) → Quiet settings (behind base xs) (behind base ys)
  quiet_behind row base xs ys is q = subst (Quiet settings (behind base xs)) (sym (ap (behind base) is ∙ behind_more base xs (outs row (behind base xs)))) q

  -- who runs goes on, and nothing comes to work
  module _ (old new : List Event) (q : Quiet settings old new) where
    pub runs_on : (e : ℕ) → is_running (desk_of e old).phase ≡ true → is_running (desk_of e new).phase ≡ true
    runs_on e runs = ap is_running (q.phases e) ∙ runs

    pub rests_on : ((s : ℕ) → (asking_of settings s old).asker ≡ None) → (s : ℕ) → (asking_of settings s new).asker ≡ None
    rests_on none s = ap (λ (x : Asking). x.asker) (q.asking s (none s)) ∙ none s
