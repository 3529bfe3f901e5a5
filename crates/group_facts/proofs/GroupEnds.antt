-- end(g): what the last start of a group that lives no more is sent, in an entry in which nothing came from it and nothing went to it yet.
use Rattle.std.specs.Str.{chars}
use Rattle.std.proofs.Common.{decimal, ◌≡◌, ℕ, ◌+◌, ◌≤◌, ◌<◌, ◌^◌, false, List, codes, None, refl, ap, arith}
use Rattle.mux_history.specs.declared.cause.Cause.{Cause}
use Rattle.rpc_message.specs.Message.{request, integer, message_of}
use Rattle.rpc_message.specs.Texts.{request_text}
use Rattle.rpc_message.proofs.Replies.{request_law}
use Rattle.event_model.specs.declared.stage.Stage.{Stage}
use Rattle.event_model.specs.declared.stage.Stage.TheVariants.{Unspawned, Spawning, Initializing, Ready, Stopping, Ending, Ended}
use Rattle.event_model.specs.Event.{Event}
use Rattle.event_model.specs.Parts.{server_part}
use Rattle.event_model.specs.Requests.{next_number}
use Rattle.event_model.specs.Settings.{Settings}
use Rattle.event_model.specs.Stages.{life_of}
use Rattle.mux_facts.proofs.Reasons.{Because, by_nothing, by_send, by_look}
use Rattle.group_words.specs.Rows.{end_start}
use Rattle.group_rows.specs.Forwarded.{forwarding_of}
use Rattle.group_facts.specs.Facts.{Bounded, is_up}
use Rattle.group_facts.specs.Lively.{IsDying}
use Rattle.group_facts.specs.Why.{Why, is_starting, moves, shuts, starting}

-- the daemon's own `shutdown`
pub shutdown_says : (n : ℕ) → n < 2 ^ 128 → message_of (request_text n (codes "shutdown") None) ≡ request (integer (decimal n)) (codes "shutdown") None
unfolding chars lib.Utf8.encode
shutdown_says n h = request_law n (codes "shutdown") None None h (codes "shutdown", (refl, refl)) tt refl (omega arith)

module _ (settings : Settings) (range : settings.limits.requests < 2 ^ 32) (before : List Event) (cause : Cause) (stays : (s : ℕ) → moves before cause s ≡ false) (bounded : Bounded settings before) where
  -- s was ready before the entry, and nothing came from it or went to it since
  pub record Untouched (events : List Event) (s : ℕ) : Type 0 where
    pub stood : (life_of s before).stage ≡ Ready
    pub number : next_number s events ≡ next_number s before
    pub part : server_part s events ≡ server_part s before

  pub low : (events : List Event) (s : ℕ) → Untouched events s → next_number s events < 2 ^ 128
  low events s k = let b = bounded s (ap is_up k.stood) in
      let same : next_number s events ≡ next_number s before = k.number in
      let first : next_number s before ≤ (forwarding_of settings s before).next = b.0 in
      let second : (forwarding_of settings s before).next ≤ settings.limits.requests + 2 = b.1 in
      omega (arith, same, first, second, range)

  pub start_ends : (events : List Event) (s : ℕ) (stage : Stage) → IsDying settings events s → (life_of s events).stage ≡ stage → ((life_of s events).stage ≡ Ready → Untouched events s)
      → Because (λ places out. Why settings before cause places out) events (end_start s stage)
  start_ends events s Ready dying at untouched = let k : Untouched events s = untouched at in
      by_look (by_send (shuts (record { ready = at; stays = stays s; unsent = k.part; dying = dying; says = shutdown_says (next_number s events) (low events s k) })))
  start_ends events s Spawning dying at untouched = by_send (starting (ap is_starting at) dying)
  start_ends events s Initializing dying at untouched = by_send (starting (ap is_starting at) dying)
  start_ends events s Unspawned dying at untouched = by_nothing
  start_ends events s Stopping dying at untouched = by_nothing
  start_ends events s Ending dying at untouched = by_nothing
  start_ends events s Ended dying at untouched = by_nothing
