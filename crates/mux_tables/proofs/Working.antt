-- Whose message is at work: behind a cause, and behind what is said of it.
use Rattle.std.proofs.Common.{◌≡◌, ℕ, Bool, true, false, List, [], ◌∷◌, ◌++◌, refl, ap, ◌∙◌, nat_eq}
use Rattle.std.specs.Prelude.{Option, None}
use Rattle.mux_history.specs.declared.cause.Cause.TheVariants.{FromEditor, FromServer}
use Rattle.mux_history.specs.declared.out.Out.{Out}
use Rattle.mux_history.specs.declared.out.Out.TheVariants.{ToEditor, ToServer}
use Rattle.rpc_message.specs.Message.{Id, Message, message_of, request}
use Rattle.event_model.specs.Event.{Event, did, heard, said}
use Rattle.event_model.specs.Requests.{answered_id}
use Rattle.event_model.specs.Settings.{Settings}
use Rattle.group_laws.specs.group_rows.specs.Asks.{Asking, asker_of, asking_next, asking_of, next_ask}
use Rattle.mux_tables.specs.Stands.{IsAtRest, IsWorking}
use Rattle.mux_tables.proofs.Asking.{asking_more, told_asking}
use Rattle.mux_tables.proofs.Parking.{heard_asking}
use Rattle.mux_tables.proofs.Resuming.{asker_stays, runs_stay}

told_asker : (o : Option Id) (x : Asking) (b : Bool) → (told_asking o x b).asker ≡ x.asker
told_asker o x true = refl
told_asker o x false = refl

told_runs : (o : Option Id) (x : Asking) (b : Bool) → (told_asking o x b).runs ≡ x.runs
told_runs o x true = refl
told_runs o x false = refl

editor_asker : (settings : Settings) (s e : ℕ) (body : List ℕ) (events : List Event) (x : Asking) (m : Message) → (asking_next settings s events x (did (ToEditor e body) m)).asker ≡ x.asker
editor_asker settings s e body events x (request id method ps) = asker_stays _ e (next_ask e events) x x.asker
editor_asker settings s e body events x silent = refl

editor_runs : (settings : Settings) (s e : ℕ) (body : List ℕ) (events : List Event) (x : Asking) (m : Message) → (asking_next settings s events x (did (ToEditor e body) m)).runs ≡ x.runs
editor_runs settings s e body events x (request id method ps) = runs_stay _ e (next_ask e events) x x.asker
editor_runs settings s e body events x silent = refl

said_asker : (settings : Settings) (s : ℕ) (events : List Event) (x : Asking) (out : Out) → (asking_next settings s events x (said out)).asker ≡ x.asker
said_asker settings s events x (ToEditor e body) = editor_asker settings s e body events x (message_of body)
said_asker settings s events x (ToServer n body) = told_asker (answered_id (message_of body)) x (nat_eq n s)
said_asker settings s events x silent = refl

said_runs : (settings : Settings) (s : ℕ) (events : List Event) (x : Asking) (out : Out) → (asking_next settings s events x (said out)).runs ≡ x.runs
said_runs settings s events x (ToEditor e body) = editor_runs settings s e body events x (message_of body)
said_runs settings s events x (ToServer n body) = told_runs (answered_id (message_of body)) x (nat_eq n s)
said_runs settings s events x silent = refl

-- a message of an editor
pub editor_works : (settings : Settings) (e s : ℕ) (events : List Event) (body : List ℕ) → IsWorking settings e s (events ++ heard (FromEditor e body) ∷ [])
editor_works settings e s events body =
    let more = asking_more settings s events (heard (FromEditor e body)) in
    record { asker = ap (λ (x : Asking). x.asker) more; runs = ap (λ (x : Asking). x.runs) more }

-- a message of a start, which is no request that one editor answers, or another start's
pub server_rests : (settings : Settings) (s n : ℕ) (events : List Event) (body : List ℕ) → (nat_eq n s ≡ true → asker_of body (message_of body) ≡ None) → IsAtRest settings s (events ++ heard (FromServer n body) ∷ [])
server_rests settings s n events body none = go (nat_eq n s) none (asking_more settings s events (heard (FromServer n body)))
  where
    go : (b : Bool) → (b ≡ true → asker_of body (message_of body) ≡ None) → asking_of settings s (events ++ heard (FromServer n body) ∷ []) ≡ heard_asking settings s events body (message_of body) (asking_of settings s events) b
        → IsAtRest settings s (events ++ heard (FromServer n body) ∷ [])
    go true none more = record { asker = ap (λ (x : Asking). x.asker) more ∙ none refl; runs = ap (λ (x : Asking). x.runs) more }
    go false none more = record { asker = ap (λ (x : Asking). x.asker) more; runs = ap (λ (x : Asking). x.runs) more }

-- what is said leaves that
pub rests_said : (settings : Settings) (s : ℕ) (events : List Event) (out : Out) → IsAtRest settings s events → IsAtRest settings s (events ++ said out ∷ [])
rests_said settings s events out r =
    let more = asking_more settings s events (said out) in
    record { asker = ap (λ (x : Asking). x.asker) more ∙ (said_asker settings s events (asking_of settings s events) out ∙ r.asker); runs = ap (λ (x : Asking). x.runs) more ∙ (said_runs settings s events (asking_of settings s events) out ∙ r.runs) }

pub works_said : (settings : Settings) (e s : ℕ) (events : List Event) (out : Out) → IsWorking settings e s events → IsWorking settings e s (events ++ said out ∷ [])
works_said settings e s events out w =
    let more = asking_more settings s events (said out) in
    record { asker = ap (λ (x : Asking). x.asker) more ∙ (said_asker settings s events (asking_of settings s events) out ∙ w.asker); runs = ap (λ (x : Asking). x.runs) more ∙ (said_runs settings s events (asking_of settings s events) out ∙ w.runs) }
