-- What editors are told of tokens that a start created, in every legal history: of those that they accepted, and that haven't ended.
use Rattle.std.proofs.Common.{◌≡◌, ℕ, Bool, true, false, ◌&&◌, List, [], ◌∷◌, ◌++◌, append_assoc, bytes_eq, codes, map, if◌then◌else◌, refl, sym, ◌∙◌, ap, ap₂, subst}
use Rattle.mux_history.specs.declared.cause.Cause.{Cause}
use Rattle.mux_history.specs.declared.cause.Cause.TheVariants.{FromEditor, FromServer}
use Rattle.mux_history.specs.declared.out.Out.{Out}
use Rattle.mux_history.specs.declared.out.Out.TheVariants.{ToEditor, ToServer, Spawn, CloseEditor, EndServer}
use Rattle.rpc_message.specs.Message.{Id, message_of, notification, text}
use Rattle.event_model.specs.Event.{Event, behind, heard, said, with_cause}
use Rattle.event_model.specs.Requests.{answered_id, is_open, without}
use Rattle.event_model.specs.Settings.{Settings}
use Rattle.event_model.proofs.Frames.{never}
use Rattle.mux_facts.specs.Ranges.{InRange}
use Rattle.mux_facts.proofs.Keeps.{behind_nothing}
use Rattle.mux_facts.proofs.Lists.{found_is}
use Rattle.mux_facts.proofs.Reasons.{Reasons}
use Rattle.mux_facts.proofs.Words.{number_same, same_number}
use Rattle.session_laws.specs.Progress.{Creates, is_end, token_at}
use Rattle.group_rows.specs.Created.{created_mark, created_of, created_text, is_answered}
use Rattle.group_rows.specs.Rows.{outs_of}
use Rattle.group_rows.specs.Tokens.{marked_text}
use Rattle.group_facts.specs.Why.{Telling, of_held, of_request, of_token}
use Rattle.group_facts.proofs.Facts.{Facts}
use Rattle.group_facts.proofs.Reached.{facts_at}
use Rattle.group_sessions.proofs.Accepted.{AllHeard, Heard, Hears, NamesToken, accepted, Closes, IsHeard}
use Rattle.group_sessions.proofs.Client6Law.{created_id}
use Rattle.group_sessions.proofs.HeldFold.{IsFair, LastEnds, NameTokens, NoneEnds, created_fair, none_before}
use Rattle.group_sessions.proofs.Marked.{Marked, ends, marked}
use Rattle.group_sessions.proofs.Taken.{Rests, all_at, all_rests}
use Rattle.group_sessions.proofs.TakingTies.{Accepts, Answers, IsTied, TiedIf, accepted_aside, accepts_now, answers_it, find_true, mark_of, told_here}
use Rattle.group_sessions.proofs.TellingPlaces.{Known, KnownOut, Knows, RunsIn, all_known, last_starts}
use Rattle.group_sessions.proofs.ExitCloses.{accepted_there, all_close}

module _ (settings : Settings) (before : List Event) (facts : Facts settings before) (rests : Rests settings before) (cause : Cause) where
  abbrev now : List Event
  now = with_cause before cause

  -- what was held of a token, without its end
  module _ (e s k : ℕ) where
    abbrev mark : Id
    mark = text (created_mark s k)

    abbrev handed : List ℕ → Out
    handed held = ToEditor e (marked_text (created_text s k) held)

    one_handed : (held : List ℕ) → NamesToken held → ends held ≡ false → (events : List Event) → is_open mark (accepted e events).created ≡ true → is_open mark (accepted e (events ++ said (handed held) ∷ [])).created ≡ true
    one_handed held names goes events h = ap (λ (x : Creates). is_open mark x.created) (told_here (RunsIn settings before) settings events e (marked_text (created_text s k) held) e (notification names.method m.params) m.says (same_number e))
        ∙ go (bytes_eq names.method (codes "$/progress")) (is_end m.params) (m.ending ∙ goes)
      where
        m : Marked mark (created_text s k) held names.method
        m = marked mark (created_text s k) held names.method names.params (created_id s k) names.says names.names

        go : (a b : Bool) → b ≡ false → is_open mark (if a && b then record { asked = (accepted e events).asked; created = without (token_at (codes "token") m.params) (accepted e events).created } else accepted e events).created ≡ true
        go true true off = never off
        go true false off = h
        go false b off = h

    all_handed : (bodies : List (List ℕ)) → NameTokens bodies → NoneEnds bodies → (events : List Event) → is_open mark (accepted e events).created ≡ true → is_open mark (accepted e (behind events (map handed bodies))).created ≡ true
    all_handed [] names goes events h = subst (λ z. is_open mark (accepted e z).created ≡ true) (sym (behind_nothing events)) h
    all_handed (held ∷ bodies) names goes events h = subst (λ z. is_open mark (accepted e z).created ≡ true) (append_assoc events (said (handed held) ∷ []) (map said (map handed bodies)))
        (all_handed bodies names.1 goes.1 (events ++ said (handed held) ∷ []) (one_handed held names.0 goes.0 events h))

  module _ (events : List Event) (e : ℕ) (body : List ℕ) where
    hears : (told : Telling settings before cause events e body) → Knows settings before cause events e body told → Hears settings before cause events e body told
    hears (of_request s asked given f bytes_of notified found own editor bytes) known = tt
    hears (of_token s asked given t k called takes bytes) known =
        ap (λ (x : Creates). is_open (text (created_mark s t.number)) x.created) (known.1 ∙ ap (λ c. accepted e (with_cause before c)) k.from ∙ accepted_aside e before (heard (FromServer s asked)) refl)
        ∙ accepted_there settings before facts rests s e t.number known.0 (created_of settings s before).takings (rests.tied s) takes
    hears (of_held s c earlier held later taken order place bytes) known = (
      names.1,
      subst (λ z. is_open (mark_of s c) (accepted e z).created ≡ true) (sym place)
          (all_handed e s c.token earlier names.0 (none_before earlier held later (subst LastEnds order fair.last)) now open_now),
    )
      where
        it : Answers e (answered_id (message_of taken.answer)) c
        it = answers_it e (answered_id (message_of taken.answer)) c answered
          where
            answered : is_answered e (answered_id (message_of taken.answer)) c ≡ true
            answered = find_true (is_answered e (answered_id (message_of taken.answer))) (created_of settings s before).takings c taken.found

        fair : IsFair (created_of settings s before).tokens c
        fair = found_is (IsFair (created_of settings s before).tokens) (is_answered e (answered_id (message_of taken.answer))) c (created_of settings s before).takings (created_fair settings s before (facts.base).meant).takings taken.found

        names : NameTokens earlier × NamesToken held
        names = all_at NamesToken earlier held later (subst NameTokens order fair.held)

        editor : c.editor ≡ e
        editor = number_same c.editor e it.editor

        tie : IsTied s before c
        tie = found_is (TiedIf (RunsIn settings before) s before) (is_answered e (answered_id (message_of taken.answer))) c (created_of settings s before).takings (rests.tied s) taken.found (subst (RunsIn settings before s) (sym editor) known)

        accepts_here : Accepts s (with_cause before (FromEditor e taken.answer)) c
        accepts_here = accepts_now (RunsIn settings before) settings before e taken.answer s c tie (find_true (is_answered e (answered_id (message_of taken.answer))) (created_of settings s before).takings c taken.found) taken.accepted

        open_now : is_open (mark_of s c) (accepted e now).created ≡ true
        open_now = ap₂ (λ n d. is_open (mark_of s c) (accepted n (with_cause before d)).created) (sym editor) taken.from ∙ accepts_here

    heard_body : KnownOut settings before cause events (ToEditor e body) → Telling settings before cause events e body → IsHeard settings before cause events e body
    heard_body known told = let k : Known settings before cause events e body = known told in record { told = k.told; hears = hears k.told k.knows }

  heard_out : (events : List Event) (out : Out) → KnownOut settings before cause events out → Closes settings before cause events out → Heard settings before cause events out
  heard_out events (ToEditor e body) known closes = (heard_body events e body known, closes)
  heard_out events (ToServer s body) known closes = tt
  heard_out events (Spawn s g) known closes = tt
  heard_out events (CloseEditor e) known closes = tt
  heard_out events (EndServer s) known closes = tt

  heard_outs : (events : List Event) (outs : List Out) → Reasons (KnownOut settings before cause) events outs → Reasons (Closes settings before cause) events outs → Reasons (Heard settings before cause) events outs
  heard_outs events [] h k = tt
  heard_outs events (out ∷ outs) h k = (heard_out events out h.0 k.0, heard_outs (events ++ said out ∷ []) outs h.1 k.1)

pub all_heard : (settings : Settings) → InRange settings → AllHeard settings
all_heard settings range before so_far cause fits = heard_outs settings before (facts_at settings range before so_far) (all_rests settings range before so_far) cause (with_cause before cause) (outs_of settings before cause)
    (all_known settings before (last_starts settings range before so_far) cause) (all_close settings before (facts_at settings range before so_far) (all_rests settings range before so_far) range (last_starts settings range before so_far) cause)
