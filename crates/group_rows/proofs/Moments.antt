-- The moment at which a request was sent on, one event further.
use Rattle.std.proofs.Common.{◌≡◌, ℕ, Bool, true, false, not, ◌&&◌, List, [], ◌∷◌, ◌++◌, nat_eq, if◌then◌else◌, refl, ◌∙◌, ap, ap₂}
use Rattle.std.specs.Prelude.{Option, Some, None}
use Rattle.json_text.specs.Json.{Json}
use Rattle.mux_history.specs.declared.out.Out.TheVariants.{ToServer}
use Rattle.rpc_message.specs.Message.{Id, request}
use Rattle.event_model.specs.Event.{Event, did}
use Rattle.event_model.specs.Requests.{is_own}
use Rattle.event_model.specs.Settings.{Settings}
use Rattle.group_words.proofs.Frames.{past_more}
use Rattle.group_rows.specs.Answers.{moment_next, moment_of, sends_on}
use Rattle.group_rows.specs.Forwarded.{forwarding_of}

and_left : (a b : Bool) → a ≡ false → (a && b) ≡ false
and_left a b h = ap (λ x. x && b) h

and_right : (a b : Bool) → b ≡ false → (a && b) ≡ false
and_right true b h = h
and_right false b h = refl

pub moment_more : (settings : Settings) (s n : ℕ) (events : List Event) (ev : Event) → moment_of settings s n (events ++ ev ∷ []) ≡ moment_next settings s n events (moment_of settings s n events) ev
moment_more settings s n events ev = past_more (moment_next settings s n) [] None events ev

pub moment_stays : (settings : Settings) (s n : ℕ) (events : List Event) (ev : Event) → sends_on settings s n events ev ≡ false → moment_of settings s n (events ++ ev ∷ []) ≡ moment_of settings s n events
moment_stays settings s n events ev h = moment_more settings s n events ev ∙ ap (λ b. if b then Some events else moment_of settings s n events) h

-- the events that it speaks of: an editor's request goes to a start
abbrev pub asks : Event → Bool
asks (did (ToServer k body) (request id method ps)) = not (is_own method)
asks other = false

silent : (settings : Settings) (s n : ℕ) (events : List Event) (ev : Event) → asks ev ≡ false → sends_on settings s n events ev ≡ false
silent settings s n events (did (ToServer k body) (request id method ps)) h = and_right (nat_eq k s) (not (is_own method) && nat_eq (forwarding_of settings s events).next n) (and_left (not (is_own method)) (nat_eq (forwarding_of settings s events).next n) h)
silent settings s n events other h = refl

pub moment_quiet : (settings : Settings) (s n : ℕ) (events : List Event) (ev : Event) → asks ev ≡ false → moment_of settings s n (events ++ ev ∷ []) ≡ moment_of settings s n events
moment_quiet settings s n events ev h = moment_stays settings s n events ev (silent settings s n events ev h)

-- of another start, and of another number
module _ (settings : Settings) (s n k : ℕ) (events : List Event) (body : List ℕ) (id : Id) (method : List ℕ) (ps : Option Json) where
  abbrev ev : Event
  ev = did (ToServer k body) (request id method ps)

  pub moment_apart : nat_eq k s ≡ false → moment_of settings s n (events ++ ev ∷ []) ≡ moment_of settings s n events
  moment_apart h = moment_stays settings s n events ev (and_left (nat_eq k s) (not (is_own method) && nat_eq (forwarding_of settings s events).next n) h)

  pub moment_other : nat_eq (forwarding_of settings s events).next n ≡ false → moment_of settings s n (events ++ ev ∷ []) ≡ moment_of settings s n events
  moment_other h = moment_stays settings s n events ev (and_right (nat_eq k s) (not (is_own method) && nat_eq (forwarding_of settings s events).next n) (and_right (not (is_own method)) (nat_eq (forwarding_of settings s events).next n) h))

  -- it is sent on
  pub moment_sent : nat_eq k s ≡ true → is_own method ≡ false → nat_eq (forwarding_of settings s events).next n ≡ true → moment_of settings s n (events ++ ev ∷ []) ≡ Some events
  moment_sent same own next = moment_more settings s n events ev ∙ ap (λ b. if b then Some events else moment_of settings s n events) (ap₂ (λ a b. a && b) same (ap₂ (λ a b. not a && b) own next))
