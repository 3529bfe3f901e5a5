-- A client and a question that end well.
use Rattle.std.proofs.Common.{◌≡◌, ℕ, ◌⊎◌, List, [], ◌∷◌, ◌++◌, inl, inr, refl, sym, ap, ◌∙◌, subst, append_assoc, append-nil, IfSome}
use Rattle.std.specs.Prelude.{Option, Some, None, Result, Ok, Err}
use Rattle.std.specs.Io.KnownBytes.{prepend_known}
use Rattle.base_frame.specs.Grammar.{IsFrame}
use Rattle.base_frame.specs.Machine.{whole}
use Rattle.base_frame.proofs.OneWay.{faults_stay, one_fault}
use Rattle.base_frame.proofs.Ties.{frames_are}
use Rattle.outside_io.specs.Faults.{Rose}
use Rattle.outside_io.specs.Sessions.{Session}
use Rattle.outside_io.specs.Told.{append_to, prepend_to}
use Rattle.mux_client.specs.Answers.{Begins, NoFrame, OtherFrame, nothing}
use Rattle.mux_client.specs.Complete.{IsDone, OffersLink, SaysFirst, SaysOpened, Stays}
use Rattle.mux_client.specs.Dials.{AtPort, Dialled, DoorState, Gave, GaveLink, GaveNone, PortState, TookBack, WhyNoPort, given, linked, no_link, no_port}
use Rattle.mux_client.specs.Questions.{Asked, AskedBy, Output}
use Rattle.mux_client.specs.Requests.{IsRefusal, IsResult, open_id, question_id}
use Rattle.mux_client.specs.Runs.{Carried, EndedBy}
use Rattle.mux_client.specs.Sessions.{ReadFailed, WriteFailed}
use Rattle.mux_client.specs.declared.question.Question.{Question}
use Rattle.mux_client.specs.declared.fault.ClientFault.{ClientFault}
use Rattle.mux_client.specs.declared.fault.ClientFault.TheVariants as fault
use Rattle.mux_client.proofs.Replying.{no_open_both}

-- what a list that is told begins with
first_told : {T : Type 0} (a b : T) (behind : List T) (left : Option (List T)) → Some (a ∷ behind) ≡ prepend_to (b ∷ []) left → a ≡ b
first_told a b behind None e = absurd (cc)
first_told a b behind (Some bs) e = cc

-- what was heard is a front of what a link had to say
record Rest (heard bytes : List ℕ) (left : Option (List ℕ)) : Type 0 where
  more : List ℕ
  is : left ≡ Some more
  bytes_are : bytes ≡ heard ++ more

rest_of : (heard bytes : List ℕ) (left : Option (List ℕ)) → Some bytes ≡ prepend_known heard left → Rest heard bytes left
rest_of heard bytes None e = absurd (cc)
rest_of heard bytes (Some more) e = record { more = more; is = refl; bytes_are = cc }

begins_longer : (limit : ℕ) (heard more answer : List ℕ) → Begins limit heard answer → Begins limit (heard ++ more) answer
begins_longer limit heard more answer b = (
  b.0 ++ more,
  record {
    block = b.1.block;
    bytes = ap (λ l. l ++ more) b.1.bytes ∙ (append_assoc b.1.block (answer ++ b.0) more ∙ ap (λ l. b.1.block ++ l) (append_assoc answer b.0 more));
    header = b.1.header;
  },
)

same_content : (a b m n : List ℕ) → whole a m ≡ whole b n → a ≡ b
same_content a b m n e = cc

-- bytes begin with one frame
one_first : (limit : ℕ) (bytes a b : List ℕ) → Begins limit bytes a → Begins limit bytes b → a ≡ b
one_first limit bytes a b x y = same_content a b x.0 y.0 (sym ((frames_are limit bytes a x.0).1 x.1) ∙ (frames_are limit bytes b y.0).1 y.1)

-- a link that says first what is wanted gives no cause of another end
module _ (limit : ℕ) (Wanted Refusal : List ℕ → Type 0) (apart : (answer : List ℕ) → Refusal answer → Wanted answer → ⊥) (bytes heard : List ℕ) (link' : Session) (rest : Rest heard bytes link'.left) (says : SaysFirst limit Wanted bytes) where
  on : (answer : List ℕ) → Begins limit heard answer → Begins limit bytes answer
  on answer b = subst (λ l. Begins limit l answer) (sym rest.bytes_are) (begins_longer limit heard rest.more answer b)

  is_answer : (answer : List ℕ) → Begins limit heard answer → Wanted answer
  is_answer answer b = subst Wanted (one_first limit bytes says.0 answer says.1 (on answer b)) says.2

  not_refused : (answer : List ℕ) × Begins limit heard answer × Refusal answer → ⊥
  not_refused k = apart k.0 k.2 (is_answer k.0 k.1)

  no_frame_left : IfSome link'.left (λ left. left ≡ []) → heard ≡ bytes
  no_frame_left e = go link'.left rest.is e
    where
      go : (left : Option (List ℕ)) → left ≡ Some rest.more → IfSome left (λ left. left ≡ []) → heard ≡ bytes
      go None s k = absurd (cc)
      go (Some z) s k = let same : z ≡ rest.more = cc in sym (rest.bytes_are ∙ (ap (λ l. heard ++ l) (sym same ∙ k) ∙ append-nil heard))

  not_other : NoFrame limit heard link' ⊎ OtherFrame limit heard Wanted Refusal → ⊥
  not_other (inl (inl bad)) =
      let stays = faults_stay limit heard rest.more bad.0 bad.1 bad.2 in
      let none = (one_fault limit (heard ++ rest.more) bad.0 bad.1 bad.0 bad.1 stays stays).0 in
      none says.0 says.1.0 (subst (λ l. IsFrame limit l says.0 says.1.0) rest.bytes_are says.1.1)
  not_other (inl (inr ended)) = ended.0 says.0 says.1.0 (subst (λ l. IsFrame limit l says.0 says.1.0) (sym (no_frame_left ended.1)) says.1.1)
  not_other (inr k) = k.2 (is_answer k.0 k.1)

-- a client
module _ (limit : ℕ) (editor editor' : Session) (reads : ReadFailed editor editor' → ⊥) (shows : WriteFailed editor editor' → ⊥) (link link' : Session) (bytes : List ℕ) (is : link.left ≡ Some bytes)
    (hears : ReadFailed link link' → ⊥) (sends : WriteFailed link link' → ⊥) where
  carried_done : (server : Option (List ℕ)) (result : Result (Unit {0}) ClientFault) → SaysOpened limit server bytes → Carried limit server editor editor' link link' result → IsDone result
  carried_done server result says x = go server result says x.ended
    where
      rest : Rest x.heard bytes link'.left
      rest = rest_of x.heard bytes link'.left (sym is ∙ x.at_link.leaves)

      go : (s : Option (List ℕ)) (r : Result (Unit {0}) ClientFault) → SaysOpened limit s bytes → EndedBy limit s link link' editor editor' x.heard x.sent x.typed x.shown r → IsDone r
      go s (Ok done) y k = tt
      go s (Err fault.Memory) y k = refl
      go s (Err fault.Input) y k = absurd (reads k)
      go s (Err fault.Output) y k = absurd (shows k)
      go s (Err fault.Link) y (inl k) = absurd (hears k)
      go s (Err fault.Link) y (inr k) = absurd (sends k)
      go None (Err fault.Refused) y k = absurd k
      go (Some name) (Err fault.Refused) y k = absurd (not_refused limit (IsResult open_id) (IsRefusal open_id) no_open_both bytes x.heard link' rest y k)
      go None (Err fault.Answer) y k = absurd k
      go (Some name) (Err fault.Answer) y k = absurd (not_other limit (IsResult open_id) (IsRefusal open_id) no_open_both bytes x.heard link' rest y k)
      go s (Err fault.Door) y k = absurd k

-- a question
module _ (limit : ℕ) (output output' : Output) (shows : Rose output.faults output'.faults → ⊥) (link link' : Session) (bytes : List ℕ) (is : link.left ≡ Some bytes)
    (hears : ReadFailed link link' → ⊥) (sends : WriteFailed link link' → ⊥) where
  asked_done : (question : Question) (result : Result (Unit {0}) ClientFault) → SaysFirst limit (IsResult question_id) bytes → Asked limit question output output' link link' result → IsDone result
  asked_done question result says x = go result x.ended
    where
      rest : Rest x.heard bytes link'.left
      rest = rest_of x.heard bytes link'.left (sym is ∙ x.at_link.leaves)

      go : (r : Result (Unit {0}) ClientFault) → AskedBy limit question link link' output output' x.heard x.sent x.shown r → IsDone r
      go (Ok done) k = tt
      go (Err fault.Memory) k = refl
      go (Err fault.Output) k = absurd (shows k)
      go (Err fault.Link) (inl k) = absurd (hears k)
      go (Err fault.Link) (inr k) = absurd (sends k)
      go (Err fault.Answer) k = absurd (not_other limit (IsResult question_id) nothing (λ answer n. absurd n) bytes x.heard link' rest says k)
      go (Err fault.Input) k = absurd k
      go (Err fault.Refused) k = absurd k
      go (Err fault.Door) k = absurd k

-- behind a dial
module _ (before after : DoorState) (port : Option PortState) (Nothing : Type 0) (Did : Session → Session → Result (Unit {0}) ClientFault → Type 0) (result : Result (Unit {0}) ClientFault)
    (opens : Rose before.faults after.faults → ⊥) (link : Session) (bytes : List ℕ) (offers : OffersLink before link bytes) (stays : Stays port link)
    (done : (link' : Session) → (ReadFailed link link' → ⊥) → (WriteFailed link link' → ⊥) → Did link link' result → IsDone result) where
  why_done : (why : ClientFault) → WhyNoPort before.faults after.faults why → IsDone (Err why)
  why_done fault.Memory k = refl
  why_done fault.Door k = absurd (opens k)
  why_done fault.Input k = absurd k
  why_done fault.Output k = absurd k
  why_done fault.Refused k = absurd k
  why_done fault.Answer k = absurd k
  why_done fault.Link k = absurd k

  module _ (first now : PortState) (gave : Gave before after first) (is : port ≡ Some now) where
    same_port : offers.port ≡ first.told
    same_port = first_told offers.port first.told offers.ports after.left (sym offers.is_next ∙ gave.left)

    has_link : first.told.links ≡ Some (link ∷ offers.links)
    has_link = ap (λ p. p.links) (sym same_port) ∙ offers.has_link

    tells : first.told.sessions ≡ Some offers.had
    tells = ap (λ p. p.sessions) (sym same_port) ∙ offers.tells

    none_given : GaveNone first now → ⊥
    none_given k = go k.cause
      where
        no_links : (l : Option (List Session)) → l ≡ Some (link ∷ offers.links) → IfSome l (λ links. links ≡ []) → ⊥
        no_links None e h = absurd (cc)
        no_links (Some ls) e h = let same : ls ≡ link ∷ offers.links = cc in absurd (let bad : [] ≡ link ∷ offers.links = sym h ∙ same in cc)

        go : IfSome first.told.links (λ links. links ≡ []) ⊎ Rose first.faults now.faults → ⊥
        go (inl h) = no_links first.told.links has_link h
        go (inr h) = stays.accepts now is (subst (λ n. Rose n now.faults) gave.fresh h)

    link_done : (out : PortState) (came back : Session) → GaveLink first out came → TookBack out now back → Did came back result → IsDone result
    link_done out came back g t did =
        let same : link ≡ came = first_told link came offers.links out.told.links (sym has_link ∙ g.links) in
        let told : now.told.sessions ≡ Some (offers.had ++ back ∷ []) = t.sessions ∙ ap (λ s. append_to s (back ∷ [])) (g.sessions ∙ tells) in
        let works = stays.works now offers.had back is told in
        done back works.0 works.1 (subst (λ l. Did l back result) (sym same) did)

    at_done : AtPort first now Nothing Did result → IsDone result
    at_done (no_link e k n) = absurd (none_given k)
    at_done (linked out came back g t did) = link_done out came back g t did

  pub dialled_done : Dialled before after port Nothing Did result → IsDone result
  dialled_done (no_port why e k l p n) = subst IsDone (sym e) (why_done why k)
  dialled_done (given first now gave is x) = at_done first now gave is x

pub client_done : (limit : ℕ) (server : Option (List ℕ)) (before after : DoorState) (port : Option PortState) (editor editor' : Session) (result : Result (Unit {0}) ClientFault)
    → Dialled before after port (editor' ≡ editor) (Carried limit server editor editor') result → (link : Session) (bytes : List ℕ) → OffersLink before link bytes → SaysOpened limit server bytes
    → (Rose before.faults after.faults → ⊥) → (ReadFailed editor editor' → ⊥) → (WriteFailed editor editor' → ⊥) → Stays port link → IsDone result
client_done limit server before after port editor editor' result x link bytes offers says opens reads shows stays =
    dialled_done before after port (editor' ≡ editor) (Carried limit server editor editor') result opens link bytes offers stays
    (λ link' h s did. carried_done limit editor editor' reads shows link link' bytes offers.says h s server result says did) x

pub question_done : (limit : ℕ) (question : Question) (before after : DoorState) (port : Option PortState) (output output' : Output) (result : Result (Unit {0}) ClientFault)
    → Dialled before after port (output' ≡ output) (Asked limit question output output') result → (link : Session) (bytes : List ℕ) → OffersLink before link bytes → SaysFirst limit (IsResult question_id) bytes
    → (Rose before.faults after.faults → ⊥) → (Rose output.faults output'.faults → ⊥) → Stays port link → IsDone result
question_done limit question before after port output output' result x link bytes offers says opens shows stays =
    dialled_done before after port (output' ≡ output) (Asked limit question output output') result opens link bytes offers stays
    (λ link' h s did. asked_done limit output output' shows link link' bytes offers.says h s question result says did) x
