-- The requests to an editor are numbered from 1, and `$/cancelRequest` names one that it didn't answer.
use Rattle.std.proofs.Common.{◌≡◌, ℕ, ◌+◌, Bool, true, false, List, [], ◌∷◌, fold, refl, ◌∙◌, ap}
use Rattle.mux_history.specs.declared.out.Out.TheVariants.{ToEditor, ToServer, Spawn, CloseEditor, EndServer}
use Rattle.event_model.specs.Event.{Event, took, did}
use Rattle.rpc_message.specs.Message.{request, notification, result, error, not_json, not_message}
use Rattle.session_laws.specs.ClientRules.{ClientRule4, ClientRule5, asks_behind}

abbrev pub is_told : Event → Bool
is_told (did (ToEditor e body) m) = true
is_told other = false

pub free_4 : (part : List Event) (event : Event) → is_told event ≡ false → ClientRule4 part event
free_4 part (took cause m) h = tt
free_4 part (did (ToEditor e body) m) h = absurd (cc)
free_4 part (did (ToServer s body) m) h = tt
free_4 part (did (Spawn s g) m) h = tt
free_4 part (did (CloseEditor e) m) h = tt
free_4 part (did (EndServer s) m) h = tt

pub free_5 : (part : List Event) (event : Event) → is_told event ≡ false → ClientRule5 part event
free_5 part (took cause m) h = tt
free_5 part (did (ToEditor e body) m) h = absurd (cc)
free_5 part (did (ToServer s body) m) h = tt
free_5 part (did (Spawn s g) m) h = tt
free_5 part (did (CloseEditor e) m) h = tt
free_5 part (did (EndServer s) m) h = tt

-- counted from 1, the next number comes

count_more : (n : ℕ) (event : Event) → asks_behind (n + 1) event ≡ asks_behind n event + 1
count_more n (took cause m) = refl
count_more n (did (ToEditor e body) (request id method params)) = refl
count_more n (did (ToEditor e body) (notification method params)) = refl
count_more n (did (ToEditor e body) (result id r)) = refl
count_more n (did (ToEditor e body) (error id x)) = refl
count_more n (did (ToEditor e body) not_json) = refl
count_more n (did (ToEditor e body) not_message) = refl
count_more n (did (ToServer s body) m) = refl
count_more n (did (Spawn s g) m) = refl
count_more n (did (CloseEditor e) m) = refl
count_more n (did (EndServer s) m) = refl

pub next_counted : (n : ℕ) (part : List Event) → fold asks_behind (n + 1) part ≡ fold asks_behind n part + 1
next_counted n [] = refl
next_counted n (event ∷ part) = ap (λ k. fold asks_behind k part) (count_more n event) ∙ next_counted (asks_behind n event) part
