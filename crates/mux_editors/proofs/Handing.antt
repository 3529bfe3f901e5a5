-- E19: what an editor answers, under the id of the start's request.
use Rattle.std.proofs.Common.{◌≡◌, ℕ, Bool, true, false, ◌&&◌, List, find, nat_eq, refl, ap, sym, subst, ◌∙◌, arith, codes}
use Rattle.std.proofs.lemmas.Bool.Decides.{nat_tests}
use Rattle.std.specs.Option.{option_and_then}
use Rattle.std.specs.Prelude.{Option, Some, None, IfSome, option_map}
use Rattle.std.specs.List.{AllByRecursion}
use Rattle.document_model.specs.Sayings.{nothing as no_saying, saying_of}
use Rattle.mux_history.specs.declared.out.Out.{Out}
use Rattle.mux_history.specs.declared.out.Out.TheVariants.{ToServer}
use Rattle.rpc_message.specs.Message.{Id, Message, error, message_of, not_json, not_message, notification, request, result}
use Rattle.rpc_message.specs.Texts.{with_id_text}
use Rattle.rpc_message.specs.ValueTexts.{IsIdText}
use Rattle.rpc_message.proofs.Fixed.{id_as_response}
use Rattle.rpc_message.proofs.Ids.{error_with_id, result_with_id}
use Rattle.event_model.specs.declared.phase.Phase.{Phase}
use Rattle.event_model.specs.declared.phase.Phase.TheVariants.{Absent, New, Waiting, Answered, Running, Down, Closed, Gone}
use Rattle.event_model.specs.declared.stage.Stage.TheVariants.{Ended, Ready}
use Rattle.event_model.specs.Does.{Alike, Does}
use Rattle.event_model.specs.Event.{Event, behind, requests}
use Rattle.event_model.specs.Phases.{desk_hears, desk_of, is_served, makes_running}
use Rattle.event_model.specs.Requests.{answered_id}
use Rattle.event_model.specs.Row.{nothing, on, send}
use Rattle.event_model.specs.Settings.{Settings}
use Rattle.event_model.specs.Spawns.{start_of}
use Rattle.event_model.specs.Stages.{is_ready, life_of}
use Rattle.event_model.proofs.Turns.{does_nothing}
use Rattle.group_rows.specs.AskRows.{hand_back, response_at, response_row}
use Rattle.group_rows.specs.Asks.{Ask, Asking, Parked, asking_of, asks_of, is_seated, is_under, parked_of, waits_under}
use Rattle.group_rows.specs.CreatedRows.{taking_row}
use Rattle.group_rows.specs.Forwarded.{moves_ids}
use Rattle.group_rows.specs.Texts.{is_synced}
use Rattle.mux_turns.specs.mux_facts.specs.Allowed.{is_response}
use Rattle.mux_tables.specs.declared.tables.Tables.{Tables}
use Rattle.group_words.specs.Houses.{home_of, stops}
use Rattle.mux_tables.specs.Documents.{changes_documents}
use Rattle.mux_tables.specs.Stands.{AnswersNone, AnswersOne, HasEnded, HasText, Stands, start_for}
use Rattle.mux_turns.proofs.Rows.{is_first, is_second}
use Rattle.mux_turns.specs.group_facts.specs.Why.{IsQuestion}
use Rattle.mux_editors.specs.Handing.{Fits, IsUnused}
use Rattle.mux_editors.proofs.Runs.{still_unused}

-- a body that answers under this id
pub record Answers (text : List ℕ) (id : Id) : Type 0 where
  pub runs : requests (codes "shutdown") (message_of text) ≡ false
  pub counts : moves_ids (message_of text) ≡ false
  pub says : saying_of (message_of text) ≡ no_saying
  pub aside : is_synced (message_of text) ≡ false
  pub answers : answered_id (message_of text) ≡ Some id

answers_as : (body w : List ℕ) (m : Message) (i : Id) → message_of body ≡ m → is_response m ≡ true → IsIdText i w → Answers (with_id_text body w) i
answers_as body w (result k r) i says h t =
    let e = result_with_id body w k (Some i) r says (id_as_response i w t) in
    record { runs = ap (requests (codes "shutdown")) e; counts = ap moves_ids e; says = ap saying_of e; aside = ap is_synced e; answers = ap answered_id e }
answers_as body w (error k x) i says h t =
    let e = error_with_id body w k (Some i) x says (id_as_response i w t) in
    record { runs = ap (requests (codes "shutdown")) e; counts = ap moves_ids e; says = ap saying_of e; aside = ap is_synced e; answers = ap answered_id e }
answers_as body w (request k method ps) i says h t = absurd (cc)
answers_as body w (notification method ps) i says h t = absurd (cc)
answers_as body w not_json i says h t = absurd (cc)
answers_as body w not_message i says h t = absurd (cc)

-- what is handed back
module _ (body text w : List ℕ) (x : Asking) (response : is_response (message_of body) ≡ true) (is : text ≡ with_id_text body w) where
  one : (a : Ask) → w ≡ a.bytes → Fits x a → Answers text a.id × IsUnused (answered_id (message_of text)) x
  one a own f =
      let same : text ≡ with_id_text body a.bytes = is ∙ ap (with_id_text body) own in
      let k : Answers text a.id = subst (λ z. Answers z a.id) (sym same) (answers_as body a.bytes (message_of body) a.id refl response f.0) in
      (k, subst (λ o. IsUnused o x) (sym k.answers) f.1)

  pub handed : (o : Option Ask) {P : Type 0} → Some w ≡ option_map (λ (a : Ask). a.bytes) o → IfSome o (Fits x) → ((id : Id) → Answers text id → IsUnused (answered_id (message_of text)) x → P) → P
  handed None is fits go = absurd (cc)
  handed (Some a) is fits go = let own : w ≡ a.bytes = cc in let k = one a own fits in go a.id k.0 k.1

-- what was found before the response fits behind what the editor was asked by it
pub fits_behind : (settings : Settings) (e s : ℕ) (base : List Event) (xs : List Out) (o : Option Ask) → IfSome o (λ a. HasText a × AllByRecursion (λ (b : Ask). is_under (Some a.id) b ≡ false) (asks_of settings s base))
    → IfSome o (λ a. AllByRecursion (λ (p : Parked). waits_under (Some a.id) p ≡ false) (parked_of settings s base)) → (asking_of settings s base).asker ≡ None → AllByRecursion (IsQuestion e) xs → IfSome o (Fits (asking_of settings s (behind base xs)))
fits_behind settings e s base xs None fits waits asker asked = tt
fits_behind settings e s base xs (Some a) fits waits asker asked = (fits.0, still_unused settings s (Some a.id) e base xs asked asker (fits.1, waits))

pub handed_does : (settings : Settings) (t : Tables) (base : List Event) (xs ys : List Out) (body text w : List ℕ) (s : ℕ) (o : Option Ask) → Some w ≡ option_map (λ (a : Ask). a.bytes) o → text ≡ with_id_text body w → Does (λ t events. Stands settings t events) (send (ToServer s text)) base t xs t ys
    → Does (λ t events. Stands settings t events) (on o nothing (hand_back s body)) base t xs t ys
handed_does settings t base xs ys body text w s None own is d = absurd (cc)
handed_does settings t base xs ys body text w s (Some a) own is d = let same : w ≡ a.bytes = cc in subst (λ z. Does (λ t events. Stands settings t events) (send (ToServer s z)) base t xs t ys) (is ∙ ap (with_id_text body) same) d

pub handed_none : (settings : Settings) (t : Tables) (base : List Event) (xs : List Out) (body : List ℕ) (s : ℕ) (o : Option Ask) → None ≡ option_map (λ (a : Ask). a.bytes) o → Does (λ t events. Stands settings t events) (on o nothing (hand_back s body)) base t xs t xs
handed_none settings t base xs body s None is = does_nothing
handed_none settings t base xs body s (Some a) is = absurd (cc)

-- What a response is as a message of an editor that is served

pub reply_runs : (body : List ℕ) (m : Message) → is_response m ≡ true → (q : Phase) (i : List ℕ) → is_served q ≡ true → (desk_hears q i body m).phase ≡ Running
reply_runs body (result id r) k Answered i h = refl
reply_runs body (result id r) k Running i h = refl
reply_runs body (result id r) k Absent i h = absurd (cc)
reply_runs body (result id r) k New i h = absurd (cc)
reply_runs body (result id r) k Waiting i h = absurd (cc)
reply_runs body (result id r) k Down i h = absurd (cc)
reply_runs body (result id r) k Closed i h = absurd (cc)
reply_runs body (result id r) k Gone i h = absurd (cc)
reply_runs body (error id x) k Answered i h = refl
reply_runs body (error id x) k Running i h = refl
reply_runs body (error id x) k Absent i h = absurd (cc)
reply_runs body (error id x) k New i h = absurd (cc)
reply_runs body (error id x) k Waiting i h = absurd (cc)
reply_runs body (error id x) k Down i h = absurd (cc)
reply_runs body (error id x) k Closed i h = absurd (cc)
reply_runs body (error id x) k Gone i h = absurd (cc)
reply_runs body (request id method ps) k q i h = absurd (cc)
reply_runs body (notification method ps) k q i h = absurd (cc)
reply_runs body not_json k q i h = absurd (cc)
reply_runs body not_message k q i h = absurd (cc)

pub reply_makes : (m : Message) → is_response m ≡ true → makes_running m ≡ true
reply_makes (result id r) k = refl
reply_makes (error id x) k = refl
reply_makes (request id method ps) k = absurd (cc)
reply_makes (notification method ps) k = absurd (cc)
reply_makes not_json k = absurd (cc)
reply_makes not_message k = absurd (cc)

pub reply_stops : (before : List Event) (e : ℕ) (m : Message) → is_response m ≡ true → stops before e m ≡ false
reply_stops before e (result id r) k = refl
reply_stops before e (error id x) k = refl
reply_stops before e (request id method ps) k = absurd (cc)
reply_stops before e (notification method ps) k = absurd (cc)
reply_stops before e not_json k = absurd (cc)
reply_stops before e not_message k = absurd (cc)

pub reply_unshut : (m : Message) → is_response m ≡ true → requests (codes "shutdown") m ≡ false
reply_unshut (result id r) k = refl
reply_unshut (error id x) k = refl
reply_unshut (request id method ps) k = absurd (cc)
reply_unshut (notification method ps) k = absurd (cc)
reply_unshut not_json k = absurd (cc)
reply_unshut not_message k = absurd (cc)

off : (b : Bool) → (b && false) ≡ false
off true = refl
off false = refl

pub reply_keeps : (before : List Event) (e : ℕ) (m : Message) → is_response m ≡ true → changes_documents before e m ≡ false
reply_keeps before e (result id r) k = off (is_served (desk_of e before).phase)
reply_keeps before e (error id x) k = off (is_served (desk_of e before).phase)
reply_keeps before e (request id method ps) k = absurd (cc)
reply_keeps before e (notification method ps) k = absurd (cc)
reply_keeps before e not_json k = absurd (cc)
reply_keeps before e not_message k = absurd (cc)

-- Its row

module _ (settings : Settings) (before : List Event) (e g s : ℕ) (body : List ℕ) (home : home_of settings e before ≡ Some g) (last : start_of g before ≡ Some s) where
  row_at : response_row settings before e body (message_of body) ≡ response_at settings before e body (message_of body) s
  row_at = ap (λ o. on o nothing (λ g. on (start_of g before) nothing (response_at settings before e body (message_of body)))) home ∙ ap (λ o. on o nothing (response_at settings before e body (message_of body))) last

  pub unready_reply : is_ready (life_of s before).stage ≡ false → Alike (response_row settings before e body (message_of body)) nothing
  unready_reply h = is_second row_at h

  pub ready_reply : is_ready (life_of s before).stage ≡ true → Alike (response_row settings before e body (message_of body)) (on (find (is_seated e (answered_id (message_of body))) (asks_of settings s before)) (taking_row settings before e (message_of body) s) (hand_back s body))
  ready_reply h = is_first row_at h

  -- where nothing is kept of the start, which ended
  pub ended_reply : HasEnded (start_for settings e before) before → (life_of s before).stage ≡ Ended
  ended_reply h = h s (ap (option_and_then (λ g. start_of g before)) home ∙ last)

  pub ended_silent : (life_of s before).stage ≡ Ended → AnswersOne settings s e (message_of body) before → AnswersNone settings e (message_of body) before
  ended_silent over one n ready = go (nat_eq s n) refl
    where
      clash : Ready ≡ Ended → ⊥
      clash q = cc

      go : (b : Bool) → nat_eq s n ≡ b → AllByRecursion (λ (a : Ask). is_seated e (answered_id (message_of body)) a ≡ false) (asks_of settings n before)
      go true is = let same : s ≡ n = grind (arith, nat_tests) in absurd (clash (sym ready ∙ (ap (λ k. (life_of k before).stage) (sym same) ∙ over)))
      go false is = one n is
