-- The notification that cancels a request, as a message.
use Rattle.std.proofs.Common.{◌≡◌, ℕ, ◌<◌, ◌^◌, List, codes, ap, subst, ◌∙◌, arith, nat_eq}
use Rattle.std.specs.Prelude.{Some}
use Rattle.json_text.specs.Named.{named}
use Rattle.rpc_message.specs.Message.{notification, message_of}
use Rattle.event_model.specs.Members.{named_of}
use Rattle.group_facts.specs.group_rows.specs.Forwarded.{is_written}
use Rattle.group_facts.specs.group_rows.specs.Leaves.{cancel, cancel_text}
use Rattle.group_facts.specs.group_rows.proofs.Cancels.{cancel_says, params_tree}
use Rattle.mux_history.specs.declared.out.Out.{Out}
use Rattle.mux_history.specs.declared.out.Out.TheVariants.{ToServer}
use Rattle.mux_tables.specs.declared.tables.Tables.{Tables}
use Rattle.mux_tables.specs.Stands.{Stands}
use Rattle.event_model.specs.Does.{Does}
use Rattle.event_model.specs.Event.{Event}
use Rattle.event_model.specs.Row.{send}
use Rattle.event_model.specs.Settings.{Settings}
use Rattle.mux_turns.proofs.Numbers.{decimals}

-- it names this number, and no other
pub cancel_names : (n : ℕ) → n < 2 ^ 32 → (k : ℕ) → k < 2 ^ 32 → is_written (named_of (codes "id") (Some (params_tree n))) k ≡ nat_eq k n
unfolding named
cancel_names n h k l = decimals n k (omega (arith, h)) (omega (arith, l))

-- what is sent where a start is sent this text
pub cancel_said : (settings : Settings) (base : List Event) (t u : Tables) (xs ys : List Out) (s n : ℕ) (text : List ℕ) → n < 2 ^ 32 → text ≡ cancel_text n
    → (message_of text ≡ notification (codes "$/cancelRequest") (Some (params_tree n)) → ((k : ℕ) → k < 2 ^ 32 → is_written (named_of (codes "id") (Some (params_tree n))) k ≡ nat_eq k n) → Does (λ t events. Stands settings t events) (send (ToServer s text)) base t xs u ys)
    → Does (λ t events. Stands settings t events) (cancel s n) base t xs u ys
cancel_said settings base t u xs ys s n text h is d = subst (λ w. Does (λ t events. Stands settings t events) (send (ToServer s w)) base t xs u ys) is (d (ap message_of is ∙ cancel_says n (omega (arith, h))) (cancel_names n h))
