-- A start is told of documents as it may be.
use Rattle.std.proofs.Common.{ℕ, List, sym, subst, ap, ◌∙◌}
use Rattle.document_model.specs.Sayings.{saying_of}
use Rattle.mux_history.specs.declared.cause.Cause.{Cause}
use Rattle.mux_history.specs.declared.entry.Entry.{Entry}
use Rattle.rpc_message.specs.Message.{message_of}
use Rattle.event_model.specs.Event.{Event}
use Rattle.event_model.specs.Settings.{Settings}
use Rattle.mux_facts.specs.Allowed.{AllowsSaying}
use Rattle.mux_facts.specs.Ranges.{InRange}
use Rattle.session_laws.specs.ServerRules.{KeepsServer4, ServerRule4}
use Rattle.session_laws.proofs.PartLaws.{No}
use Rattle.session_laws.proofs.Server4Law.{by_part, free}
use Rattle.group_rows.proofs.Going.{going_silent}
use Rattle.group_facts.specs.Legal.{Legal}
use Rattle.group_facts.specs.Why.{WhyToServer, begins, greets, conveys, forwarded, notes, tells, shuts, cancels, versions_at, responds, exits, resolves, cancels_work}
use Rattle.group_facts.proofs.RestLaws.{Inside}
use Rattle.group_sessions.proofs.PartLaws.{ServerRule, no_law, server_history}
use Rattle.group_facts.proofs.Numbers.{response_silent}

module _ (settings : Settings) (before : List Event) (cause : Cause) (events : List Event) (s : ℕ) (body : List ℕ) where
  allowed : WhyToServer settings before cause events s body → AllowsSaying (versions_at s events) (saying_of (message_of body))
  allowed (begins k) = subst (λ m. AllowsSaying (versions_at s events) (saying_of m)) (sym k.says) tt
  allowed (greets k) = subst (λ m. AllowsSaying (versions_at s events) (saying_of m)) (sym k.says) tt
  allowed (conveys k) = subst (λ m. AllowsSaying (versions_at s events) (saying_of m)) (sym k.says) tt
  allowed (forwarded k) = subst (λ m. AllowsSaying (versions_at s events) (saying_of m)) (sym k.says) tt
  allowed (notes k) = subst (AllowsSaying (versions_at s events)) (sym (ap saying_of k.says ∙ going_silent k.method k.going k.params)) tt
  allowed (tells k) = k.allowed
  allowed (cancels k) = subst (λ m. AllowsSaying (versions_at s events) (saying_of m)) (sym k.says) tt
  allowed (cancels_work k) = subst (λ m. AllowsSaying (versions_at s events) (saying_of m)) (sym k.says) tt
  allowed (responds k) = subst (AllowsSaying (versions_at s events)) (sym (response_silent (message_of body) k.response)) tt
  allowed (resolves k) = subst (AllowsSaying (versions_at s events)) (sym (response_silent (message_of body) k.response)) tt
  allowed (exits k) = subst (λ m. AllowsSaying (versions_at s events) (saying_of m)) (sym k.says) tt
  allowed (shuts k) = subst (λ m. AllowsSaying (versions_at s events) (saying_of m)) (sym k.says) tt

rule : (settings : Settings) → ServerRule settings No (Inside No) ServerRule4
rule settings = record {
  law = no_law settings;
  free = free;
  sent = λ before cause events s body why h here own i. by_part s events (saying_of (message_of body)) (allowed settings before cause events s body why);
}

pub server_4_law : (settings : Settings) → InRange settings → (history : List Entry) → Legal settings history → KeepsServer4 history
server_4_law settings range history legal = server_history settings No (Inside No) ServerRule4 (rule settings) range tt history legal
