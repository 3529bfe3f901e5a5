-- X1 and X2: what editors are told in turn, and what that leaves as it is.
use Rattle.std.proofs.Common.{◌≡◌, ℕ, Bool, true, false, not, List, [], ◌∷◌, ◌++◌, IsUtf8, None, Some, codes, length, nat_eq, if◌then◌else◌, refl, ap, sym, subst, ◌∙◌, arith}
use Rattle.std.specs.List.{AllByRecursion}
use Rattle.lsp_method.specs.Class.{server_notification}
use Rattle.mux_history.specs.declared.out.Out.{Out}
use Rattle.mux_history.specs.declared.out.Out.TheVariants.{ToEditor}
use Rattle.rpc_message.specs.Message.{Message, error, message_of, notification}
use Rattle.rpc_message.specs.Texts.{error_text, request_failed}
use Rattle.rpc_message.proofs.Fixed.{error_law, id_as_response}
use Rattle.event_model.specs.declared.phase.Phase.{Phase}
use Rattle.event_model.specs.Does.{Does}
use Rattle.event_model.specs.Event.{Event, behind, did, said}
use Rattle.event_model.specs.Phases.{Desk, desk_behind, desk_of, is_running, phase_told}
use Rattle.event_model.specs.Requests.{answered_id}
use Rattle.event_model.specs.Row.{each, outs, send}
use Rattle.event_model.specs.Settings.{Settings}
use Rattle.event_model.proofs.Frames.{never, one_more}
use Rattle.group_rows.specs.Asks.{asking_next, asking_of}
use Rattle.group_rows.specs.ExitRows.{empty_text}
use Rattle.group_rows.specs.Lists.{is_publishing}
use Rattle.group_rows.specs.Live.{unregister_text}
use Rattle.group_rows.specs.LiveRows.{has_some, unregister_any}
use Rattle.group_rows.specs.registrations.specs.declared.registration.Registration.{Registration}
use Rattle.group_rows.proofs.ExitTexts.{empty_published, empty_says, empty_tree}
use Rattle.group_words.proofs.Frames.{home_more}
use Rattle.mux_exits.specs.declared.losses.Loss.{Loss}
use Rattle.mux_exits.specs.declared.losses.Loss.TheVariants.{Emptied, Refused, Told, Unregistered}
use Rattle.mux_exits.specs.Losses.{CanLose, is_mild, is_notice, loss_row}
use Rattle.mux_tables.specs.declared.tables.Tables.{Tables}
use Rattle.mux_tables.specs.Documents.{AllStand, DocumentsStand, nothing_owed}
use Rattle.mux_tables.specs.Stands.{IsListOf, Keeps, Stands}
use Rattle.mux_tables.proofs.Asking.{asking_more}
use Rattle.mux_tables.proofs.DocumentOwed.{all_does}
use Rattle.mux_turns.specs.Calls.{IsCall}
use Rattle.mux_turns.proofs.Called.{Quiet, after_quiet, any_quiet, quiet_none, runs_on}
use Rattle.mux_turns.specs.Initials.{IsNamed, refuse_id}
use Rattle.mux_turns.proofs.Keeping.{error_told, keeps_notice, notice_told}
use Rattle.mux_turns.proofs.Listed.{noted_quiet}

-- A body that is neither a request, nor a result, nor a list of diagnostics

mild_told : (p : Phase) (i : List ℕ) (m : Message) → is_mild m ≡ true → phase_told p i m ≡ p
mild_told p i (error id x) h = error_told p i id x
mild_told p i (notification method params) h = notice_told p i method params
mild_told p i other h = never (sym h)

-- a notice is, and so is an error

notice_mild : (m : Message) → is_notice m ≡ true → is_mild m ≡ true
notice_mild (notification method params) h = h
notice_mild other h = never (sym h)

refused_mild : (id : List ℕ) → IsNamed id → is_mild (message_of (error_text id request_failed)) ≡ true
refused_mild id h = ap is_mild (error_law (Some h.0) id request_failed (id_as_response h.0 id h.1))

-- a notice leaves its editor in its phase, and answers nothing
keeps_told : (e : ℕ) (text : List ℕ) (events : List Event) → is_notice (message_of text) ≡ true → Keeps e text events × (answered_id (message_of text) ≡ None)
keeps_told e text events notice = go (message_of text) refl notice
  where
    plain : (b : Bool) → not b ≡ true → b ≡ false
    plain true h = never (sym h)
    plain false h = refl

    go : (m : Message) → message_of text ≡ m → is_notice m ≡ true → Keeps e text events × (answered_id (message_of text) ≡ None)
    go (notification method params) says h = (keeps_notice e text events method params (plain (is_publishing method) h) says, ap answered_id says)
    go other says h = never (sym h)

module _ (settings : Settings) where
  quiet_mild : (e : ℕ) (text : List ℕ) (events : List Event) → is_mild (message_of text) ≡ true → Quiet settings events (behind events (ToEditor e text ∷ []))
  quiet_mild e text events mild = record {
    phases = λ n. ap (λ (d : Desk). d.phase) (one_more (desk_behind n) _ _ events (said (ToEditor e text)) refl) ∙ desk_at n (nat_eq e n);
    homes = λ n. home_more settings n events (said (ToEditor e text));
    asking = λ s none. asking_more settings s events (said (ToEditor e text)) ∙ same s (message_of text) mild;
  }
    where
      desk_at : (n : ℕ) (b : Bool) → (if b then record { phase = phase_told (desk_of n events).phase (desk_of n events).initialize (message_of text); initialize = (desk_of n events).initialize } else desk_of n events).phase ≡ (desk_of n events).phase
      desk_at n true = mild_told (desk_of n events).phase (desk_of n events).initialize (message_of text) mild
      desk_at n false = refl

      same : (s : ℕ) (m : Message) → is_mild m ≡ true → asking_next settings s events (asking_of settings s events) (did (ToEditor e text) m) ≡ asking_of settings s events
      same s (error id x) h = refl
      same s (notification method params) h = refl
      same s other h = never (sym h)

  -- nor does a list of diagnostics
  quiet_empty : (e : ℕ) (uri : List ℕ) (events : List Event) → IsUtf8 uri → Quiet settings events (behind events (ToEditor e (empty_text uri) ∷ []))
  quiet_empty e uri events spelt = noted_quiet settings e (empty_text uri) events (codes "textDocument/publishDiagnostics") (Some (empty_tree uri), empty_says uri spelt)

  -- Several, one after the other

  abbrev IsMild : Loss → Type 0
  IsMild (Refused e id) = is_mild (message_of (error_text id request_failed)) ≡ true
  IsMild (Told e text) = is_mild (message_of text) ≡ true
  IsMild (Unregistered e) = Unit {0}
  IsMild (Emptied e uri) = IsUtf8 uri

  pub milds : (now : List Event) (losses : List Loss) → AllByRecursion (CanLose now) losses → AllByRecursion IsMild losses
  milds now [] h = tt
  milds now (Refused e id ∷ losses) h = (refused_mild id h.0, milds now losses h.1)
  milds now (Told e text ∷ losses) h = (notice_mild (message_of text) h.0, milds now losses h.1)
  milds now (Unregistered e ∷ losses) h = (tt, milds now losses h.1)
  milds now (Emptied e uri ∷ losses) h = (h.0, milds now losses h.1)

  module _ (live : List Registration) (call : IsCall (unregister_text live)) where
    loss_quiet : (l : Loss) (events : List Event) → IsMild l → Quiet settings events (behind events (outs (loss_row live l) events))
    loss_quiet (Refused e id) events mild = quiet_mild e (error_text id request_failed) events mild
    loss_quiet (Told e text) events mild = quiet_mild e text events mild
    loss_quiet (Unregistered e) events mild = any_quiet settings (unregister_text live) call (has_some live) e events
    loss_quiet (Emptied e uri) events mild = quiet_empty e uri events mild

    pub losses_quiet : (losses : List Loss) (events : List Event) → AllByRecursion IsMild losses → Quiet settings events (behind events (outs (each (loss_row live) losses) events))
    losses_quiet [] events h = quiet_none settings events
    losses_quiet (l ∷ losses) events h = after_quiet settings (loss_row live l) (each (loss_row live) losses) events (loss_quiet l events h.0) (λ now. losses_quiet losses now h.1)

  -- who may be told, may be told later
  pub can_on : (old new : List Event) → Quiet settings old new → (l : Loss) → CanLose old l → CanLose new l
  can_on old new q (Refused e id) h = h
  can_on old new q (Told e text) h = h
  can_on old new q (Unregistered e) h = runs_on settings old new q e h
  can_on old new q (Emptied e uri) h = h

-- One is told

publishes : is_publishing (codes "textDocument/publishDiagnostics") ≡ true
unfolding server_notification
publishes = refl

empty_list : (uri : List ℕ) → IsUtf8 uri → IsListOf uri true (empty_text uri)
empty_list uri spelt =
    let given = empty_published uri spelt in
    record {
      method = codes "textDocument/publishDiagnostics";
      params = Some (empty_tree uri);
      list = given.list;
      says = empty_says uri spelt;
      publishes = publishes;
      given = given.is;
      document = given.document;
      none = given.none;
    }

module _ (settings : Settings) (t u : Tables) (base : List Event) (xs ys : List Out) (live : List Registration) (loss : Loss) (can : CanLose (behind base xs) loss) where
  pub tells_refused : (e : ℕ) (id own : List ℕ) → loss ≡ Refused e id → own ≡ id → (IsNamed own → Does (λ t events. Stands settings t events) (refuse_id e own) base t xs u ys)
      → (DocumentsStand settings nothing_owed t (behind base xs) → DocumentsStand settings nothing_owed u (behind base ys)) → Does (λ k events. AllStand settings k events) (loss_row live loss) base (t, nothing_owed) xs (u, nothing_owed) ys
  tells_refused e id own is same tells docs =
      let named : IsNamed id = subst (CanLose (behind base xs)) is can in
      subst (λ l. Does (λ k events. AllStand settings k events) (loss_row live l) base (t, nothing_owed) xs (u, nothing_owed) ys) (sym is)
      (all_does settings t u nothing_owed nothing_owed base xs ys (subst (λ w. Does (λ t events. Stands settings t events) (refuse_id e w) base t xs u ys) same (tells (subst IsNamed (sym same) named))) (λ _ d. docs d))

  pub tells_text : (e : ℕ) (text : List ℕ) → loss ≡ Told e text → (Keeps e text (behind base xs) → answered_id (message_of text) ≡ None → Does (λ t events. Stands settings t events) (send (ToEditor e text)) base t xs t ys)
      → (DocumentsStand settings nothing_owed t (behind base xs) → DocumentsStand settings nothing_owed t (behind base ys)) → Does (λ k events. AllStand settings k events) (loss_row live loss) base (t, nothing_owed) xs (t, nothing_owed) ys
  tells_text e text is tells docs =
      subst (λ l. Does (λ k events. AllStand settings k events) (loss_row live l) base (t, nothing_owed) xs (t, nothing_owed) ys) (sym is)
      (let k = keeps_told e text (behind base xs) (subst (CanLose (behind base xs)) is can) in all_does settings t t nothing_owed nothing_owed base xs ys (tells k.0 k.1) (λ _ d. docs d))

  pub tells_call : (e : ℕ) → loss ≡ Unregistered e → (is_running (desk_of e (behind base xs)).phase ≡ true → Does (λ k events. AllStand settings k events) (unregister_any live e) base (t, nothing_owed) xs (u, nothing_owed) ys)
      → Does (λ k events. AllStand settings k events) (loss_row live loss) base (t, nothing_owed) xs (u, nothing_owed) ys
  tells_call e is calls = subst (λ l. Does (λ k events. AllStand settings k events) (loss_row live l) base (t, nothing_owed) xs (u, nothing_owed) ys) (sym is) (calls (subst (CanLose (behind base xs)) is can))

  pub tells_empty : (e : ℕ) (uri w text : List ℕ) → loss ≡ Emptied e uri → w ≡ uri → (IsUtf8 uri → text ≡ empty_text uri)
      → (IsListOf w true text → Does (λ t events. Stands settings t events) (send (ToEditor e text)) base t xs u ys)
      → (DocumentsStand settings nothing_owed t (behind base xs) → DocumentsStand settings nothing_owed u (behind base ys)) → Does (λ k events. AllStand settings k events) (loss_row live loss) base (t, nothing_owed) xs (u, nothing_owed) ys
  tells_empty e uri w text is own writes tells docs =
      let spelt : IsUtf8 uri = subst (CanLose (behind base xs)) is can in
      let written = writes spelt in
      let list : IsListOf w true text = subst (λ b. IsListOf w true b) (sym written) (subst (λ v. IsListOf v true (empty_text uri)) (sym own) (empty_list uri spelt)) in
      let shown : Does (λ t events. Stands settings t events) (send (ToEditor e (empty_text uri))) base t xs u ys = subst (λ b. Does (λ t events. Stands settings t events) (send (ToEditor e b)) base t xs u ys) written (tells list) in
      subst (λ l. Does (λ k events. AllStand settings k events) (loss_row live l) base (t, nothing_owed) xs (u, nothing_owed) ys) (sym is)
      (all_does settings t u nothing_owed nothing_owed base xs ys shown (λ _ d. docs d))

-- Parts of a list

pub middle : {A : Type 0} (P : A → Type 0) (xs : List A) (x : A) (ys : List A) → AllByRecursion P (xs ++ x ∷ ys) → P x
middle P [] x ys h = h.0
middle P (w ∷ xs) x ys h = middle P xs x ys h.1

pub front : {A : Type 0} (P : A → Type 0) (xs ys : List A) → AllByRecursion P (xs ++ ys) → AllByRecursion P xs
front P [] ys h = tt
front P (w ∷ xs) ys h = (h.0, front P xs ys h.1)

pub nothing_left : {A : Type 0} (xs : List A) → length xs ≡ 0 → xs ≡ []
nothing_left [] h = refl
nothing_left (x ∷ xs) h = absurd (omega arith)
