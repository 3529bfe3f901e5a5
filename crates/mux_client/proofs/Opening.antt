-- A server's name that is told to the daemon, by what comes back.
use Rattle.std.proofs.Common.{◌≡◌, ℕ, List, subst}
use Rattle.std.specs.Prelude.{Result, Ok, Err}
use Rattle.outside_io.specs.Sessions.{Session}
use Rattle.rpc_message.specs.Message.{result_bytes}
use Rattle.mux_client.specs.Answers.{Exchanged, anything, nothing}
use Rattle.mux_client.specs.Replies.{Says}
use Rattle.mux_client.specs.Requests.{IsRefusal, IsResult, open_id, open_text}
use Rattle.mux_client.specs.declared.reply.Reply.{Reply}
use Rattle.mux_client.specs.declared.reply.Reply.TheVariants as reply
use Rattle.mux_client.specs.declared.fault.ClientFault.{ClientFault}
use Rattle.mux_client.specs.declared.fault.ClientFault.TheVariants as fault
use Rattle.mux_client.proofs.Exchanging.{no_answer, refused, unlooked, unsent, unwanted, wanted}

-- memory was wanted before anything was sent
pub opened_unsent : (limit : ℕ) (name : List ℕ) (link : Session) → Exchanged limit (open_text name) (IsResult open_id) (IsRefusal open_id) link link (Err fault.Memory)
opened_unsent limit name link = unsent limit (open_text name) (IsResult open_id) (IsRefusal open_id) link

module _ (limit : ℕ) (name text : List ℕ) (link link' : Session) where
  asked : (r : Result (List ℕ) ClientFault) → text ≡ open_text name → Exchanged limit text anything nothing link link' r → Exchanged limit (open_text name) anything nothing link link' r
  asked r is x = subst (λ t. Exchanged limit t anything nothing link link' r) is x

  pub opened_none : (e : ClientFault) → text ≡ open_text name → Exchanged limit text anything nothing link link' (Err e) → Exchanged limit (open_text name) (IsResult open_id) (IsRefusal open_id) link link' (Err e)
  opened_none e is x = no_answer limit (open_text name) (IsResult open_id) (IsRefusal open_id) link link' e (asked (Err e) is x)

  pub opened_unread : (answer : List ℕ) → text ≡ open_text name → Exchanged limit text anything nothing link link' (Ok answer) → Exchanged limit (open_text name) (IsResult open_id) (IsRefusal open_id) link link' (Err fault.Memory)
  opened_unread answer is x = unlooked limit (open_text name) (IsResult open_id) (IsRefusal open_id) link link' answer (asked (Ok answer) is x)

  pub opened_result : (answer value : List ℕ) → text ≡ open_text name → Exchanged limit text anything nothing link link' (Ok answer) → IsResult open_id answer × (value ≡ result_bytes answer)
      → Exchanged limit (open_text name) (IsResult open_id) (IsRefusal open_id) link link' (Ok answer)
  opened_result answer value is x h = wanted limit (open_text name) (IsResult open_id) (IsRefusal open_id) link link' answer (asked (Ok answer) is x) h.0

  pub opened_refusal : (answer : List ℕ) → text ≡ open_text name → Exchanged limit text anything nothing link link' (Ok answer) → IsRefusal open_id answer
      → Exchanged limit (open_text name) (IsResult open_id) (IsRefusal open_id) link link' (Err fault.Refused)
  opened_refusal answer is x h = refused limit (open_text name) (IsResult open_id) (IsRefusal open_id) link link' answer (asked (Ok answer) is x) h

  pub opened_other : (answer : List ℕ) → text ≡ open_text name → Exchanged limit text anything nothing link link' (Ok answer) → (IsResult open_id answer → ⊥) × (IsRefusal open_id answer → ⊥)
      → Exchanged limit (open_text name) (IsResult open_id) (IsRefusal open_id) link link' (Err fault.Answer)
  opened_other answer is x h = unwanted limit (open_text name) (IsResult open_id) (IsRefusal open_id) link link' answer (asked (Ok answer) is x) h

  -- the same by the reply that was read
  pub opened_other_by : (answer content : List ℕ) (what : Reply) → text ≡ open_text name → Exchanged limit text anything nothing link link' (Ok answer) → content ≡ answer → what ≡ reply.Other → Says open_id content what
      → Exchanged limit (open_text name) (IsResult open_id) (IsRefusal open_id) link link' (Err fault.Answer)
  opened_other_by answer content what is x same other says = opened_other answer is x (subst (λ body. Says open_id body reply.Other) same (subst (Says open_id content) other says))
