-- Which outs of an entry are no list of diagnostics for an editor, by their reasons.
use Rattle.std.proofs.Common.{◌≡◌, ℕ, Bool, true, false, ◌&&◌, List, [], ◌∷◌, ◌++◌, codes, nat_eq, if◌then◌else◌, ◌⊎◌, inl, inr, refl, sym, ◌∙◌, ap, ap₂, subst}
use Rattle.std.specs.List.{AllByRecursion}
use Rattle.mux_history.specs.declared.cause.Cause.{Cause}
use Rattle.mux_history.specs.declared.out.Out.{Out}
use Rattle.mux_history.specs.declared.out.Out.TheVariants.{ToEditor, ToServer, Spawn, CloseEditor, EndServer}
use Rattle.lsp_method.specs.Class.{server_notification}
use Rattle.rpc_message.specs.Message.{Message, request, notification, result, error, not_json, not_message, message_of}
use Rattle.event_model.specs.Event.{Event, behind, said}
use Rattle.event_model.specs.Phases.{desk_of, is_running}
use Rattle.event_model.specs.Row.{Row, outs}
use Rattle.event_model.specs.Settings.{Settings}
use Rattle.event_model.proofs.Frames.{never}
use Rattle.mux_facts.specs.Allowed.{is_response}
use Rattle.mux_facts.proofs.Reasons.{Because, Reasons}
use Rattle.mux_facts.proofs.Words.{number_same}
use Rattle.group_rows.specs.Lists.{is_publishing, names_list}
use Rattle.group_facts.specs.Why.{IsShown, Why, WhyToEditor, answers, asks, calls, passes, progresses, recalls, refuses, rejects, resumes, shows, spreads, turns_away, welcomes, loses, IsLosing, winds_up, pays}
use Rattle.group_facts.proofs.Begun.{all_outs}
use Rattle.group_sessions.proofs.DueWords.{flat_join}
use Rattle.group_sessions.proofs.Tied.{all_back, runs_on}
use Rattle.group_sessions.specs.LastLists.{gives_list, list_to, lists_to}
use Rattle.group_facts.specs.Facts.{is_exit}

pub lists_join : (e : ℕ) (xs ys : List Out) → lists_to e (xs ++ ys) ≡ lists_to e xs ++ lists_to e ys
lists_join e xs ys = flat_join (list_to e) xs ys

-- an out that is no list for e
abbrev pub Listless : ℕ → Out → Type 0
Listless e out = list_to e out ≡ []

pub lists_none : (e : ℕ) (xs : List Out) → AllByRecursion (Listless e) xs → lists_to e xs ≡ []
lists_none e [] h = refl
lists_none e (x ∷ xs) h = ap₂ (λ u v. u ++ v) h.0 (lists_none e xs h.1)

pub plain_out : (e n : ℕ) (body : List ℕ) → gives_list (message_of body) ≡ false → Listless e (ToEditor n body)
plain_out e n body h = ap (λ b. if nat_eq n e && b then body ∷ [] else []) h ∙ off (nat_eq n e)
  where
    off : (a : Bool) → (if a && false then body ∷ [] else []) ≡ []
    off true = refl
    off false = refl

-- a row that sends e none
abbrev pub Off : ℕ → List Event → Row → Type 0
Off e events row = Because (λ places out. Listless e out) events row

pub off_lists : (e : ℕ) (events : List Event) (row : Row) → Off e events row → lists_to e (outs row events) ≡ []
off_lists e events row h = lists_none e (outs row events) (all_outs (Listless e) events (outs row events) h.why)

response_gives : (m : Message) → is_response m ≡ true → gives_list m ≡ false
response_gives (result id r) h = refl
response_gives (error id x) h = refl
response_gives (request id method params) h = refl
response_gives (notification method params) h = never (sym h)
response_gives not_json h = refl
response_gives not_message h = refl

cancel_gives : is_publishing (codes "$/cancelRequest") ≡ false
unfolding server_notification
cancel_gives = refl

module _ (settings : Settings) (before : List Event) (cause : Cause) where
  -- only what is shown is a list, and what empties one
  plain_or : (events : List Event) (n : ℕ) (body : List ℕ) → WhyToEditor settings before cause events n body → (gives_list (message_of body) ≡ false) ⊎ (IsShown settings before cause events n body ⊎ IsLosing settings before cause events n body)
  plain_or events n body (rejects k) = inl (ap gives_list k.says)
  plain_or events n body (refuses k) = inl (ap gives_list k.says)
  plain_or events n body (loses k) = inl (ap gives_list k.says)
  plain_or events n body (answers k) = inl (ap gives_list k.says)
  plain_or events n body (turns_away k) = inl (ap gives_list k.says)
  plain_or events n body (welcomes k) = inl (ap gives_list k.says)
  plain_or events n body (passes k) = inl (response_gives (message_of body) k.response)
  plain_or events n body (asks k) = inl (ap gives_list k.says)
  plain_or events n body (resumes k) = inl (ap gives_list k.says)
  plain_or events n body (pays k) = inl (ap gives_list k.says)
  plain_or events n body (calls k) = inl (ap gives_list k.says)
  plain_or events n body (spreads k) = inl (ap gives_list k.says ∙ ap names_list k.class)
  plain_or events n body (recalls k) = inl (ap gives_list k.says ∙ cancel_gives)
  plain_or events n body (progresses k) = inl (ap gives_list k.says ∙ ap names_list k.class)
  plain_or events n body (shows k) = inr (inl k)
  plain_or events n body (winds_up k) = inr (inr k)

  module _ (e : ℕ) where
    one_off : (events : List Event) (out : Out) → ((body : List ℕ) → IsShown settings before cause events e body → ⊥) → ((body : List ℕ) → IsLosing settings before cause events e body → ⊥) → Why settings before cause events out → Listless e out
    one_off events (ToEditor n body) none nor why = go (nat_eq n e) refl (plain_or events n body why)
      where
        go : (b : Bool) → nat_eq n e ≡ b → (gives_list (message_of body) ≡ false) ⊎ (IsShown settings before cause events n body ⊎ IsLosing settings before cause events n body) → (if b && gives_list (message_of body) then body ∷ [] else []) ≡ []
        go true at (inl plain) = ap (λ b. if b then body ∷ [] else []) plain
        go true at (inr (inl k)) = absurd (none body (subst (λ z. IsShown settings before cause events z body) (number_same n e at) k))
        go true at (inr (inr k)) = absurd (nor body (subst (λ z. IsLosing settings before cause events z body) (number_same n e at) k))
        go false off k = refl
    one_off events (ToServer s body) none nor why = refl
    one_off events (Spawn s g) none nor why = refl
    one_off events (CloseEditor n) none nor why = refl
    one_off events (EndServer s) none nor why = refl

    -- where nothing may be shown to e, and no start ends
    pub all_off : ((events : List Event) (body : List ℕ) → IsShown settings before cause events e body → ⊥) → ((s : ℕ) → is_exit cause s ≡ true → ⊥) → (events : List Event) (xs : List Out) → Reasons (Why settings before cause) events xs → lists_to e xs ≡ []
    all_off none on events [] r = refl
    all_off none on events (x ∷ xs) r = ap₂ (λ u v. u ++ v) (one_off events x (none events) (λ body k. on k.start (k.lost).from) r.0) (all_off none on (events ++ said x ∷ []) xs r.1)

    -- an editor that doesn't run there
    abbrev pub Unrun : List Event → Type 0
    Unrun events = is_running (desk_of e events).phase ≡ false

    pub unrun_more : (events : List Event) (xs : List Out) → Unrun events → Unrun (behind events xs)
    unrun_more events xs h = go (is_running (desk_of e (behind events xs)).phase) refl
      where
        go : (b : Bool) → is_running (desk_of e (behind events xs)).phase ≡ b → b ≡ false
        go true on = never (sym (all_back is_running runs_on e events xs on) ∙ h)
        go false off = refl

    pub unrun_off : (events : List Event) (xs : List Out) → Reasons (Why settings before cause) events xs → Unrun events → lists_to e xs ≡ []
    unrun_off events [] r h = refl
    unrun_off events (x ∷ xs) r h = ap₂ (λ u v. u ++ v) (one_off events x (λ body k. never (sym (ap is_running k.running) ∙ h)) (λ body k. never (sym (ap is_running k.running) ∙ h)) r.0) (unrun_off (events ++ said x ∷ []) xs r.1 (unrun_more events (x ∷ []) h))
