-- A question from its link to its end.
use Rattle.std.proofs.Common.{◌≡◌, ℕ, true, false, List, [], inl, inr, refl, sym, ap, ◌∙◌, subst}
use Rattle.std.specs.Prelude.{Option, Some, Result, Ok, Err}
use Rattle.std.specs.Io.KnownBytes.{append_known}
use Rattle.outside_io.specs.Sessions.{Session}
use Rattle.rpc_message.specs.Message.{result_bytes}
use Rattle.rpc_message.specs.declared.sort.Sort.TheVariants as sort
use Rattle.mux_client.specs.Answers.{Exchanged, WhyNoAnswer, anything, nothing}
use Rattle.mux_client.specs.Pieces.{Went}
use Rattle.mux_client.specs.Questions.{Asked, AskedBy, Output, Resulted}
use Rattle.mux_client.specs.Replies.{Says}
use Rattle.mux_client.specs.Requests.{IsRefusal, IsResult, question_id, question_text, shown_of, shown_text}
use Rattle.mux_client.specs.Sessions.{IsFront}
use Rattle.mux_client.specs.declared.question.Question.{Question}
use Rattle.mux_client.specs.declared.reply.Reply.{Reply}
use Rattle.mux_client.specs.declared.reply.Reply.TheVariants as reply
use Rattle.mux_client.specs.declared.fault.ClientFault.{ClientFault}
use Rattle.mux_client.specs.declared.fault.ClientFault.TheVariants as fault
use Rattle.mux_client.proofs.Exchanging.{no_answer, unsent}
use Rattle.mux_client.proofs.Passing.{front_all, known_none, no_later}
use Rattle.mux_client.proofs.Replying.{refusal_sort, result_sort}

no_both : (body : List ℕ) → IsRefusal question_id body → IsResult question_id body → ⊥
no_both body f r = let q : Some sort.Result ≡ Some sort.Error = sym (result_sort question_id body r) ∙ refusal_sort question_id body f in absurd (cc)

module _ (limit : ℕ) (question : Question) (text : List ℕ) (link link' : Session) where
  put : (r : Result (List ℕ) ClientFault) → text ≡ question_text question → Exchanged limit text anything nothing link link' r → Exchanged limit (question_text question) anything nothing link link' r
  put r is x = subst (λ t. Exchanged limit t anything nothing link link' r) is x

  pub resulted : (answer value : List ℕ) → text ≡ question_text question → Exchanged limit text anything nothing link link' (Ok answer) → IsResult question_id answer × (value ≡ result_bytes answer) → Resulted limit question link link' (Ok value)
  resulted answer value is z h = let x = put (Ok answer) is z in record { heard = x.heard; sent = x.sent; at_link = x.passes; order = x.front; value = (answer, (x.taken.0, h.0, x.taken.2), h.1) }

  pub resulted_other : (answer : List ℕ) → text ≡ question_text question → Exchanged limit text anything nothing link link' (Ok answer) → (IsResult question_id answer → ⊥) × (IsRefusal question_id answer → ⊥) → Resulted limit question link link' (Err fault.Answer)
  resulted_other answer is z h = let x = put (Ok answer) is z in record { heard = x.heard; sent = x.sent; at_link = x.passes; order = x.front; value = inr (answer, ([], x.taken.0), h.0, λ n. n) }

  pub resulted_refused : (answer : List ℕ) → text ≡ question_text question → Exchanged limit text anything nothing link link' (Ok answer) → IsRefusal question_id answer → Resulted limit question link link' (Err fault.Answer)
  resulted_refused answer is z h = let x = put (Ok answer) is z in record { heard = x.heard; sent = x.sent; at_link = x.passes; order = x.front; value = inr (answer, ([], x.taken.0), no_both answer h, λ n. n) }

  -- the same by the reply that was read
  pub resulted_refused_by : (answer content : List ℕ) (what : Reply) → text ≡ question_text question → Exchanged limit text anything nothing link link' (Ok answer) → content ≡ answer → what ≡ reply.Refusal → Says question_id content what
      → Resulted limit question link link' (Err fault.Answer)
  resulted_refused_by answer content what is x same refusal says = resulted_refused answer is x (subst (λ body. Says question_id body reply.Refusal) same (subst (Says question_id content) refusal says))

  pub resulted_unlooked : (answer : List ℕ) → text ≡ question_text question → Exchanged limit text anything nothing link link' (Ok answer) → Resulted limit question link link' (Err fault.Memory)
  resulted_unlooked answer is z = let x = put (Ok answer) is z in record { heard = x.heard; sent = x.sent; at_link = x.passes; order = x.front; value = tt }

  pub resulted_none : (e : ClientFault) → text ≡ question_text question → Exchanged limit text anything nothing link link' (Err e) → Resulted limit question link link' (Err e)
  resulted_none e is z = let y = no_answer limit (question_text question) (IsResult question_id) nothing link link' e (put (Err e) is z) in record { heard = y.heard; sent = y.sent; at_link = y.passes; order = y.front; value = y.taken }

-- memory was wanted before anything was sent
pub resulted_unsent : (limit : ℕ) (question : Question) (link : Session) → Resulted limit question link link (Err fault.Memory)
resulted_unsent limit question link = let y = unsent limit (question_text question) (IsResult question_id) nothing link in record { heard = y.heard; sent = y.sent; at_link = y.passes; order = y.front; value = y.taken }

module _ (limit : ℕ) (question : Question) (link link' : Session) where
  -- nothing is shown
  pub asked_none : (output : Output) (e : ClientFault) → Resulted limit question link link' (Err e) → Asked limit question output output link link' (Err e)
  asked_none output e x = record {
    heard = x.heard;
    sent = x.sent;
    shown = [];
    at_link = x.at_link;
    writes = known_none output.written;
    later = no_later output.faults;
    order = x.order;
    stage = inl refl;
    ended = go e x.value;
  }
    where
      go : (e : ClientFault) → WhyNoAnswer limit (IsResult question_id) nothing link link' x.heard e → AskedBy limit question link link' output output x.heard x.sent [] (Err e)
      go fault.Memory k = tt
      go fault.Link k = k
      go fault.Answer k = k
      go fault.Refused k = absurd k.2
      go fault.Door k = absurd k
      go fault.Input k = absurd k
      go fault.Output k = absurd k

  pub asked_unshown : (output : Output) (value : List ℕ) → Resulted limit question link link' (Ok value) → Asked limit question output output link link' (Err fault.Memory)
  asked_unshown output value x = record {
    heard = x.heard;
    sent = x.sent;
    shown = [];
    at_link = x.at_link;
    writes = known_none output.written;
    later = no_later output.faults;
    order = x.order;
    stage = inl refl;
    ended = tt;
  }

  module _ (w w' : Option (List ℕ)) (f f' : ℕ) (value line : List ℕ) (x : Resulted limit question link link' (Ok value)) (is : line ≡ shown_text question value) where
    shows : line ≡ shown_of question x.value.0
    shows = is ∙ ap (shown_text question) x.value.2

    pub asked_whole : Went w w' f f' line true → Asked limit question (record { written = w; faults = f }) (record { written = w'; faults = f' }) link link' (Ok tt)
    asked_whole g = record {
      heard = x.heard;
      sent = x.sent;
      shown = line;
      at_link = x.at_link;
      writes = g.writes ∙ ap (append_known w) (g.all refl);
      later = g.later;
      order = x.order;
      stage = inr (x.value.0, x.value.1, subst (IsFront line) shows (front_all line));
      ended = (x.value.0, x.value.1, shows);
    }

    pub asked_cut : Went w w' f f' line false → Asked limit question (record { written = w; faults = f }) (record { written = w'; faults = f' }) link link' (Err fault.Output)
    asked_cut g = record {
      heard = x.heard;
      sent = x.sent;
      shown = g.part;
      at_link = x.at_link;
      writes = g.writes;
      later = g.later;
      order = x.order;
      stage = inr (x.value.0, x.value.1, subst (IsFront g.part) shows g.front);
      ended = g.failed refl;
    }
