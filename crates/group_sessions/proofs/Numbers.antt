-- Numbers of requests to an editor run out for good.
use Rattle.std.proofs.Common.{◌≡◌, ℕ, ◌+◌, ◌^◌, ◌<◌, Bool, true, false, List, [], ◌∷◌, ◌++◌, append-nil, append_assoc, map, nat_eq, nat_lt, ltb-true, if◌then◌else◌, refl, sym, ◌∙◌, ap, arith}
use Rattle.std.proofs.lemmas.Bool.{ltb-false}
use Rattle.std.proofs.lemmas.List.Sums.{fold-append}
use Rattle.mux_history.specs.declared.cause.Cause.{Cause}
use Rattle.mux_history.specs.declared.cause.Cause.TheVariants.{Joined}
use Rattle.mux_history.specs.declared.out.Out.{Out}
use Rattle.mux_history.specs.declared.out.Out.TheVariants.{ToEditor, ToServer, Spawn, CloseEditor, EndServer}
use Rattle.rpc_message.specs.Message.{request, notification, result, error, not_json, not_message}
use Rattle.event_model.specs.Event.{Event, behind, did, heard, said, took, with_cause}
use Rattle.group_rows.specs.Asks.{asked_behind, has_number, next_ask}

number_more : (e : ℕ) (n : ℕ) (b : Bool) → nat_lt n (2 ^ 64) ≡ false → nat_lt (if b then n + 1 else n) (2 ^ 64) ≡ false
number_more e n false h = h
number_more e n true h = go (nat_lt (n + 1) (2 ^ 64)) refl
  where
    go : (b : Bool) → nat_lt (n + 1) (2 ^ 64) ≡ b → b ≡ false
    go false k = refl
    go true k = absurd (let low : n + 1 < 2 ^ 64 = ltb-true (n + 1) (2 ^ 64) k in let high = ltb-false n (2 ^ 64) h in omega (arith, low, high))

number_step : (e n : ℕ) (event : Event) → nat_lt n (2 ^ 64) ≡ false → nat_lt (asked_behind e n event) (2 ^ 64) ≡ false
number_step e n (did (ToEditor k body) (request id method ps)) h = number_more e n (nat_eq k e) h
number_step e n (did (ToEditor k body) (notification method ps)) h = h
number_step e n (did (ToEditor k body) (result id r)) h = h
number_step e n (did (ToEditor k body) (error id r)) h = h
number_step e n (did (ToEditor k body) not_json) h = h
number_step e n (did (ToEditor k body) not_message) h = h
number_step e n (did (ToServer s body) m) h = h
number_step e n (did (Spawn s g) m) h = h
number_step e n (did (CloseEditor k) m) h = h
number_step e n (did (EndServer s) m) h = h
number_step e n (took cause m) h = h

pub out_of_numbers : (e : ℕ) (events : List Event) (event : Event) → has_number e events ≡ false → has_number e (events ++ event ∷ []) ≡ false
out_of_numbers e events event h = ap (λ n. nat_lt n (2 ^ 64)) (fold-append (asked_behind e) 1 events (event ∷ [])) ∙ number_step e (next_ask e events) event h

pub out_rests : (e : ℕ) (events : List Event) (xs : List Out) → has_number e events ≡ false → has_number e (behind events xs) ≡ false
out_rests e events [] h = ap (has_number e) (append-nil events) ∙ h
out_rests e events (x ∷ xs) h = ap (has_number e) (sym (append_assoc events (said x ∷ []) (map said xs))) ∙ out_rests e (events ++ said x ∷ []) xs (out_of_numbers e events (said x) h)

pub out_took : (e : ℕ) (before : List Event) (cause : Cause) → has_number e before ≡ false → has_number e (with_cause before cause) ≡ false
out_took e before (Joined n) h = out_of_numbers e before (heard (Joined n)) h
out_took e before cause h = out_of_numbers e before (heard cause) h
