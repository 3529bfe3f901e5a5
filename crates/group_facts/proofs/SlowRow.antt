-- Z1: an editor that is slow leaves as one does that sends `exit` where its link is to be ended: each of the outs has its reason, and what each such editor's outs keep is kept behind the entry.
use Rattle.std.proofs.Common.{◌≡◌, ℕ, Bool, true, false, ◌&&◌, ◌||◌, List, [], ◌∷◌, ◌++◌, append_assoc, codes, decimal, map, nat_eq, refl, sym, ◌∙◌, ap, ap₂, subst, None, Option}
use Rattle.std.specs.List.{AllByRecursion, range_with_len}
use Rattle.std.proofs.lemmas.Bool.{and_parts}
use Rattle.std.proofs.lemmas.Slice.Eq.{bytes_eq-Decides}
use Rattle.std.specs.Fmt.{digits}
use Rattle.std.specs.Str.{chars}
use Rattle.json.specs.Print.{escape_byte}
use Rattle.json_text.specs.Computes.{computes}
use Rattle.json_text.specs.Json.{Json}
use Rattle.json_text.specs.Named.{named}
use Rattle.mux_history.specs.declared.cause.Cause.{Cause}
use Rattle.mux_history.specs.declared.cause.Cause.TheVariants.{FromEditor, FromServer}
use Rattle.mux_history.specs.declared.out.Out.{Out}
use Rattle.mux_history.specs.declared.out.Out.TheVariants.{CloseEditor, EndServer, Spawn, ToEditor, ToServer}
use Rattle.rpc_message.specs.Changed.{id_edits}
use Rattle.rpc_message.specs.Message.{Message, integer, is_integer, member_bytes, message_of, no_name_twice, notification, request}
use Rattle.event_model.specs.Event.{Event, behind, requests, said, with_cause}
use Rattle.event_model.specs.Phases.{desk_of, editors_of, is_there}
use Rattle.event_model.specs.Row.{choose, each, nothing, outs, send, ◌⨾◌}
use Rattle.event_model.specs.Settings.{Settings}
use Rattle.event_model.specs.Stages.{Life}
use Rattle.mux_model.specs.Documents.{Sent}
use Rattle.mux_facts.specs.Ranges.{InRange}
use Rattle.mux_facts.proofs.Folds.{life_more}
use Rattle.mux_facts.proofs.Keeps.{behind_both, behind_nothing}
use Rattle.mux_facts.proofs.Lists.{all_join}
use Rattle.mux_facts.proofs.Reasons.{Reasons, reasons_keep}
use Rattle.mux_facts.proofs.Tellings.{sent_more}
use Rattle.mux_facts.proofs.Words.{same_number}
use Rattle.group_words.specs.Houses.{stops}
use Rattle.group_rows.specs.Ends.{exit_text}
use Rattle.group_rows.specs.Forwarded.{Forwarding, forwarding_of}
use Rattle.group_rows.specs.Leaves.{leave_row}
use Rattle.group_rows.specs.Rows.{outs_of}
use Rattle.group_facts.specs.SlowRows.{close_slow, entry_outs, is_slow, slow_row}
use Rattle.group_rows.specs.Texts.{is_synced}
use Rattle.group_rows.specs.Tokens.{forwarded_text}
use Rattle.group_rows.proofs.Exits.{exit_says}
use Rattle.group_rows.proofs.Going.{no_exit}
use Rattle.event_model.proofs.Frames.{never}
use Rattle.group_facts.proofs.Asides.{answer_aside, spoken_aside, unsynced}
use Rattle.group_facts.specs.Facts.{ends_link, is_parting, is_put_out, turned_away}
use Rattle.group_facts.specs.Why.{IsWorkCancel, Why, WhyToServer, begins, cancels, cancels_work, exits, forwarded, greets, conveys, notes, quitting, resolves, responds, shuts, tells, at_once, had_waited, Going}
use Rattle.group_facts.proofs.Asks.{asked_by_more}
use Rattle.group_facts.proofs.Begun.{NoSpawn, all_outs, leave_by}
use Rattle.group_facts.proofs.Facts.{Facts}
use Rattle.group_rows.proofs.Frames.{forwarding_more}
use Rattle.group_facts.proofs.LeaveRows.{leave_why}
use Rattle.group_facts.proofs.PartingRows.{or_second}

-- what the message says, and what it doesn't
abbrev exit_message : Message
exit_message = notification (codes "exit") None

pub exit_parts : (before : List Event) (e : ℕ) → is_parting before e (message_of exit_text) ≡ true
exit_parts before e = ap (is_parting before e) exit_says ∙ ap (λ b. b || false) ((bytes_eq-Decides (codes "exit") (codes "exit")).1 refl)

pub exit_asks : (method : List ℕ) → requests method (message_of exit_text) ≡ false
exit_asks method = ap (requests method) exit_says

pub exit_stops_none : (before : List Event) (e : ℕ) → stops before e (message_of exit_text) ≡ false
exit_stops_none before e = ap (stops before e) exit_says

-- as a request it is itself
exit_forwarded : (n : ℕ) → forwarded_text n exit_text ≡ exit_text
unfolding computes named message_of no_name_twice is_integer member_bytes id_edits escape_byte digits chars lib.Utf8.encode
exit_forwarded n = refl

the_body : {e n : ℕ} {x y : List ℕ} → FromEditor e x ≡ FromEditor n y → y ≡ x
the_body h = cc

the_method : {x y : List ℕ} {p q : Option Json} → notification x p ≡ notification y q → x ≡ y
the_method h = cc

-- it cancels no work
pub quit_works : (settings : Settings) (before : List Event) (e : ℕ) (events : List Event) (s : ℕ) (body : List ℕ) → IsWorkCancel settings before (quitting e) events s body → ⊥
quit_works settings before e events s body k = never (sym ((bytes_eq-Decides (codes "exit") (codes "window/workDoneProgress/cancel")).1 (the_method (sym exit_says ∙ (ap message_of (sym (the_body k.from)) ∙ k.notified)))))

-- and nothing that goes behind a sync is sent for it
pub quit_unsynced : (settings : Settings) (before : List Event) (e : ℕ) (events : List Event) (s : ℕ) (body : List ℕ) → WhyToServer settings before (quitting e) events s body → is_synced (message_of body) ≡ true → ⊥
quit_unsynced settings before e events s body (begins k) goes = unsynced body _ k.says refl goes
quit_unsynced settings before e events s body (greets k) goes = unsynced body _ k.says refl goes
quit_unsynced settings before e events s body (conveys k) goes = absurd (let clash : quitting e ≡ FromServer s k.answer = k.from in cc)
quit_unsynced settings before e events s body (forwarded k) goes = went k.going
  where
    went : Going settings before (quitting e) events s (k.sender).editor k.asked → ⊥
    went (at_once from synced) =
        let same : message_of body ≡ exit_message = ap message_of (k.bytes ∙ (ap (forwarded_text (forwarding_of settings s events).next) (the_body from) ∙ exit_forwarded (forwarding_of settings s events).next)) ∙ exit_says in
        let clash : exit_message ≡ request (integer (decimal (forwarding_of settings s events).next)) k.method k.params = sym same ∙ k.says in cc
    went (had_waited w) = let clash : quitting e ≡ FromServer s w.answer = w.from in cc
quit_unsynced settings before e events s body (notes k) goes =
    never (sym ((bytes_eq-Decides (codes "exit") k.method).1 (the_method (sym exit_says ∙ (ap message_of (sym (the_body k.from)) ∙ k.says)))) ∙ no_exit k.method k.going)
quit_unsynced settings before e events s body (tells k) goes = never (sym goes ∙ spoken_aside (message_of body) k.spoken)
quit_unsynced settings before e events s body (shuts k) goes = unsynced body _ k.says refl goes
quit_unsynced settings before e events s body (cancels k) goes = unsynced body _ k.says refl goes
quit_unsynced settings before e events s body (cancels_work k) goes = unsynced body _ k.says refl goes
quit_unsynced settings before e events s body (responds k) goes = never (sym goes ∙ answer_aside (message_of body) k.response)
quit_unsynced settings before e events s body (resolves k) goes = never (sym goes ∙ answer_aside (message_of body) k.response)
quit_unsynced settings before e events s body (exits k) goes = unsynced body _ k.says refl goes

none_second : (a b : Bool) → b ≡ false → (a && b) ≡ false
none_second true b h = h
none_second false b h = refl

none_first : (a b : Bool) → a ≡ false → (a && b) ≡ false
none_first true b h = absurd (cc)
none_first false b h = refl

-- nor does an editor begin again by it
pub quit_again : (e n : ℕ) (b : Bool) → (nat_eq e n && (b && requests (codes "initialize") (message_of exit_text))) ≡ false
quit_again e n b = none_second (nat_eq e n) _ (none_second b (requests (codes "initialize") (message_of exit_text)) (exit_asks (codes "initialize")))

-- Outs where an editor leaves so

abbrev IsToStart : Out → Type 0
IsToStart (ToServer s body) = Unit {0}
IsToStart other = ⊥

module _ (settings : Settings) where
  -- by it no editor is turned away
  pub quit_turns_none : (before : List Event) (e n : ℕ) → turned_away settings before (quitting e) n ≡ false
  quit_turns_none before e n = ap₂ (λ a b. a || b)
      (none_second (nat_eq e n) _ (none_first _ _ (none_second _ (requests (codes "initialize") (message_of exit_text)) (exit_asks (codes "initialize")))))
      (none_first (stops before e (message_of exit_text)) _ (exit_stops_none before e))

  -- and only its own link is to be ended
  pub quit_ends : (before : List Event) (e : ℕ) → ends_link settings before (quitting e) e ≡ true
  quit_ends before e = or_second (turned_away settings before (quitting e) e) ((nat_eq e e && is_parting before e (message_of exit_text)) || is_put_out settings before (quitting e) e)
      (ap (λ b. b || is_put_out settings before (quitting e) e) (ap₂ (λ a b. a && b) (same_number e) (exit_parts before e)))

  pub slow_there : (e : ℕ) (events : List Event) → is_slow settings e events ≡ true → is_there (desk_of e events).phase ≡ true
  slow_there e events slow = (and_parts (is_there (desk_of e events).phase) _ slow).0

  -- the outs of an editor that is slow at this place
  abbrev pub parting : List Event → ℕ → List Out
  parting place e = CloseEditor e ∷ outs (leave_row settings place e) (place ++ said (CloseEditor e) ∷ [])

  pub parting_why : InRange settings → (place : List Event) → Facts settings place → (e : ℕ) → is_slow settings e place ≡ true → Reasons (Why settings place (quitting e)) place (parting place e)
  parting_why range place facts e slow = (
    (quit_ends place e, slow_there e place slow),
    (leave_why settings range place (quitting e) (facts.base).opened (facts.steady).bounded (place ++ said (CloseEditor e) ∷ []) (λ s. refl)
        (λ s. ap (λ (l : Life). l.stage) (life_more s place (said (CloseEditor e)))) (λ s u. ap (λ (x : Sent). x.held) (sent_more s u place (said (CloseEditor e))))
        (λ s. ap (λ (x : Forwarding). x.open_requests) (forwarding_more settings s place (said (CloseEditor e)))) (facts.steady).asks (λ s. asked_by_more s place (said (CloseEditor e))) e).why,
  )

  -- they are the end of its link and bodies to a start
  pub parting_all : (P : Out → Type 0) → ((n : ℕ) → P (CloseEditor n)) → ((s : ℕ) (body : List ℕ) → P (ToServer s body)) → (place : List Event) (e : ℕ) → AllByRecursion P (parting place e)
  parting_all P closes sends place e = (
    closes e,
    all_outs P (place ++ said (CloseEditor e) ∷ []) (outs (leave_row settings place e) (place ++ said (CloseEditor e) ∷ []))
        (leave_by (λ places out. P out) (λ places s body. sends s body) settings place e (place ++ said (CloseEditor e) ∷ [])).why,
  )

  pub parting_calm : (place : List Event) (e : ℕ) → AllByRecursion NoSpawn (parting place e)
  parting_calm place e = parting_all NoSpawn (λ n. tt) (λ s body. tt) place e

  -- so are those of all
  pub slow_all : (P : Out → Type 0) → ((n : ℕ) → P (CloseEditor n)) → ((s : ℕ) (body : List ℕ) → P (ToServer s body)) → (events : List Event) → AllByRecursion P (outs (slow_row settings) events)
  slow_all P closes sends events = walk (range_with_len 0 (editors_of events)) events
    where
      one : (place : List Event) (e : ℕ) (b : Bool) → AllByRecursion P (outs (choose b (send (CloseEditor e) ⨾ leave_row settings place e) nothing) place)
      one place e true = parting_all P closes sends place e
      one place e false = tt

      walk : (es : List ℕ) (place : List Event) → AllByRecursion P (outs (each (close_slow settings) es) place)
      walk [] place = tt
      walk (e ∷ es) place = all_join P (outs (close_slow settings e) place) (outs (each (close_slow settings) es) (behind place (outs (close_slow settings e) place))) (one place e (is_slow settings e place)) (walk es (behind place (outs (close_slow settings e) place)))

  -- what bodies to a start keep
  pub leave_keeps : (I : List Event → Type 0) → ((events : List Event) (s : ℕ) (body : List ℕ) → I events → I (events ++ said (ToServer s body) ∷ [])) → (before : List Event) (e : ℕ) (events : List Event) → I events → I (behind events (outs (leave_row settings before e) events))
  leave_keeps I sends before e events h = reasons_keep (λ places out. IsToStart out) I go events (outs (leave_row settings before e) events) (leave_by (λ places out. IsToStart out) (λ places s body. tt) settings before e events).why h
    where
      go : (places : List Event) (out : Out) → IsToStart out → I places → I (places ++ said out ∷ [])
      go places (ToServer s body) to k = sends places s body k
      go places (ToEditor n body) to k = absurd to
      go places (Spawn s g) to k = absurd to
      go places (CloseEditor n) to k = absurd to
      go places (EndServer s) to k = absurd to

  -- and behind it
  pub parting_behind : (I : List Event → Type 0) (place : List Event) (e : ℕ) → I (behind (place ++ said (CloseEditor e) ∷ []) (outs (leave_row settings place e) (place ++ said (CloseEditor e) ∷ []))) → I (behind place (parting place e))
  parting_behind I place e h = subst I (append_assoc place (said (CloseEditor e) ∷ []) (map said (outs (leave_row settings place e) (place ++ said (CloseEditor e) ∷ [])))) h

  -- and the end of its link
  pub parting_keeps : (I : List Event → Type 0) (e : ℕ) → ((events : List Event) → I events → I (events ++ said (CloseEditor e) ∷ [])) → ((events : List Event) (s : ℕ) (body : List ℕ) → I events → I (events ++ said (ToServer s body) ∷ []))
      → (place : List Event) → I place → I (behind place (parting place e))
  parting_keeps I e closes sends place h = parting_behind I place e (leave_keeps I sends place e (place ++ said (CloseEditor e) ∷ []) (closes place h))

  -- and with the reasons of the bodies
  zip_reasons : (R : List Event → Out → Type 0) (P : Out → Type 0) (events : List Event) (xs : List Out) → Reasons R events xs → AllByRecursion P xs → Reasons (λ places out. R places out × P out) events xs
  zip_reasons R P events [] r p = tt
  zip_reasons R P events (x ∷ xs) r p = ((r.0, p.0), zip_reasons R P (events ++ said x ∷ []) xs r.1 p.1)

  module _ (range : InRange settings) (place : List Event) (facts : Facts settings place) (e : ℕ) (slow : is_slow settings e place ≡ true) where
    abbrev closed : List Event
    closed = place ++ said (CloseEditor e) ∷ []

    abbrev rest : List Out
    rest = outs (leave_row settings place e) closed

    all_to_start : AllByRecursion IsToStart rest
    all_to_start = all_outs IsToStart closed rest (leave_by (λ places out. IsToStart out) (λ places s body. tt) settings place e closed).why

    pub parting_walk : (I : List Event → Type 0) → (I place → I closed)
        → ((events : List Event) (s : ℕ) (body : List ℕ) → WhyToServer settings place (quitting e) events s body → I events → I (events ++ said (ToServer s body) ∷ [])) → I place → I (behind place (parting place e))
    parting_walk I closes sends h = parting_behind I place e (reasons_keep (λ places out. Why settings place (quitting e) places out × IsToStart out) I go closed rest
        (zip_reasons (Why settings place (quitting e)) IsToStart closed rest (parting_why range place facts e slow).1 all_to_start) (closes h))
      where
        go : (places : List Event) (out : Out) → Why settings place (quitting e) places out × IsToStart out → I places → I (places ++ said out ∷ [])
        go places (ToServer s body) why k = sends places s body why.0 k
        go places (ToEditor n body) why k = absurd why.1
        go places (Spawn s g) why k = absurd why.1
        go places (CloseEditor n) why k = absurd why.1
        go places (EndServer s) why k = absurd why.1

  -- what each of them keeps
  module _ (I : List Event → Type 0) (keeps : (place : List Event) (e : ℕ) → is_slow settings e place ≡ true → I place → I (behind place (parting place e))) where
    one_slow : (place : List Event) (e : ℕ) → I place → I (behind place (outs (close_slow settings e) place))
    one_slow place e h = go (is_slow settings e place) refl
      where
        go : (b : Bool) → is_slow settings e place ≡ b → I (behind place (outs (choose b (send (CloseEditor e) ⨾ leave_row settings place e) nothing) place))
        go true slow = keeps place e slow h
        go false quick = subst I (sym (behind_nothing place)) h

    each_slow : (es : List ℕ) (place : List Event) → I place → I (behind place (outs (each (close_slow settings) es) place))
    each_slow [] place h = subst I (sym (behind_nothing place)) h
    each_slow (e ∷ es) place h = subst I (sym (behind_both place (outs (close_slow settings e) place) (outs (each (close_slow settings) es) (behind place (outs (close_slow settings e) place)))))
        (each_slow es (behind place (outs (close_slow settings e) place)) (one_slow place e h))

    -- they are kept behind the entry
    pub slow_keeps : (events : List Event) → I events → I (behind events (outs (slow_row settings) events))
    slow_keeps events h = each_slow (range_with_len 0 (editors_of events)) events h

    -- behind those of the cause's row
    pub whole_entry : (before : List Event) (cause : Cause) → I (behind (with_cause before cause) (outs_of settings before cause)) → I (behind (with_cause before cause) (entry_outs settings before cause))
    whole_entry before cause h = subst I (sym (behind_both (with_cause before cause) (outs_of settings before cause) (outs (slow_row settings) (behind (with_cause before cause) (outs_of settings before cause)))))
        (slow_keeps (behind (with_cause before cause) (outs_of settings before cause)) h)
