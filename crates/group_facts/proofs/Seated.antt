-- Each editor that needs a server is in a group that is kept, but for one that is turned away in the entry at hand.
use Rattle.std.proofs.Common.{◌≡◌, ℕ, ◌+◌, ◌<◌, ◌≤◌, Bool, true, false, ◌&&◌, List, [], ◌∷◌, ◌++◌, map, length, nat_eq, nat_lt, codes, if◌then◌else◌, Option, Some, None, refl, sym, ◌∙◌, ap, subst, arith, append-nil, append_assoc, ◌⊎◌, inl, inr}
use Rattle.std.proofs.lemmas.Bool.{and_parts}
use Rattle.std.proofs.lemmas.List.{length-append}
use Rattle.mux_history.specs.declared.cause.Cause.{Cause}
use Rattle.mux_history.specs.declared.cause.Cause.TheVariants.{Joined, FromEditor, EditorGone, Started, StartFailed, FromServer, ServerGone, Drained, Tick}
use Rattle.mux_history.specs.declared.cause.Why as link
use Rattle.mux_history.specs.declared.out.Out.{Out}
use Rattle.mux_history.specs.declared.out.Out.TheVariants.{ToEditor, ToServer, Spawn, CloseEditor, EndServer}
use Rattle.rpc_message.specs.Message.{Message, id_bytes, message_of}
use Rattle.rpc_message.specs.Texts.{error_text, request_failed}
use Rattle.event_model.specs.declared.phase.Phase.{Phase}
use Rattle.event_model.specs.declared.phase.Phase.TheVariants.{Absent, New, Waiting, Answered, Running, Down, Closed, Gone}
use Rattle.event_model.specs.Event.{Event, behind, heard, requests, said, with_cause}
use Rattle.event_model.specs.Phases.{Desk, desk_behind, desk_hears, desk_of, is_begun, needs_server, phase_closed, phase_told, is_waiting}
use Rattle.event_model.specs.Settings.{Settings}
use Rattle.event_model.specs.Spawns.{start_of}
use Rattle.event_model.proofs.Frames.{never}
use Rattle.mux_facts.proofs.Editors.{Editors}
use Rattle.mux_facts.proofs.Folds.{desk_more}
use Rattle.mux_facts.proofs.Words.{number_same, same_number}
use Rattle.group_words.specs.declared.idle.Idle.{Idle}
use Rattle.group_words.specs.declared.kept.Kept.{Kept}
use Rattle.group_words.specs.declared.placed.Placed.{Placed}
use Rattle.group_words.specs.declared.placed.Placed.TheVariants.{Joins, New as Founds, Evicts, TooMany}
use Rattle.group_words.specs.Houses.{declared_for, groups_of, home_of, key_for, placed_for, places, stops}
use Rattle.group_words.specs.Keys.{Common}
use Rattle.group_words.specs.Placing.{changed, ended, evicting, first_from, founded, founding, home_by, idlest_from, joining, live_count, placed_in, takes, with_editor}
use Rattle.group_words.proofs.Frames.{changed_length, groups_more, home_more, home_stays}
use Rattle.group_rows.specs.Rows.{outs_of}
use Rattle.group_facts.specs.Facts.{is_too_many, turned_away, is_crowded}
use Rattle.group_facts.specs.Settled.{IsSeated}
use Rattle.group_facts.proofs.Begun.{Begun}
use Rattle.group_facts.proofs.Housed.{longer_did, longer_took}
use Rattle.group_facts.proofs.PlacingRow.{IsNext, placed_next}
use Rattle.group_facts.proofs.ExitEntry.{exit_turns, failed_exit, gone_exit}
use Rattle.group_facts.proofs.PutOut.{home_did, turned_ends}
use Rattle.group_facts.proofs.RequestRow.{either_desk}
use Rattle.group_facts.proofs.Waiting.{turned_outs}
use Rattle.group_facts.proofs.SharedRows.{off_first}
use Rattle.group_facts.proofs.Quits.{one_of}
use Rattle.group_facts.proofs.StopEntry.{none_there, unthere_unbegun}

-- A group that an editor joins is there

first_below : (i : ℕ) (test : Kept → Bool) (xs : List Kept) (g : ℕ) → first_from i test xs ≡ Some g → g < i + length xs
first_below i test [] g e = absurd (cc)
first_below i test (x ∷ xs) g e = go (test x) (λ k. first_below (i + 1) test xs g k) e
  where
    go : (b : Bool) → (first_from (i + 1) test xs ≡ Some g → g < (i + 1) + length xs) → (if b then Some i else first_from (i + 1) test xs) ≡ Some g → g < i + length (x ∷ xs)
    go true f at = let same : i ≡ g = cc in omega (arith, same)
    go false f at = omega (arith, f at)

abbrev IsIn : ℕ → Placed → Type 0
IsIn n (Joins g) = g < n
IsIn n other = Unit {0}

placed_inside : (limit : ℕ) (key : Common) (declared : List ℕ) (groups : List Kept) → IsIn (length groups) (placed_in limit key declared groups)
placed_inside limit key declared groups = go (first_from 0 (takes key declared) groups) refl
  where
    founds_none : (b : Bool) (best : Option Idle) → IsIn (length groups) (if b then Founds (length groups) else evicting best (length groups))
    founds_none true best = tt
    founds_none false None = tt
    founds_none false (Some x) = tt

    go : (o : Option ℕ) → first_from 0 (takes key declared) groups ≡ o → IsIn (length groups) (joining o (founding limit groups))
    go (Some g) at = let k : g < 0 + length groups = first_below 0 (takes key declared) groups g at in omega (arith, k)
    go None at = founds_none (nat_lt (live_count groups) limit) (idlest_from 0 None groups)

-- Who needs a server behind an event needed it before

told_needs : (phase : Phase) (initialize : List ℕ) (m : Message) → needs_server (phase_told phase initialize m) ≡ true → needs_server phase ≡ true
told_needs Waiting initialize m h = refl
told_needs Absent initialize m h = h
told_needs New initialize m h = h
told_needs Answered initialize m h = h
told_needs Running initialize m h = h
told_needs Down initialize m h = h
told_needs Closed initialize m h = h
told_needs Gone initialize m h = h

closed_none : (phase : Phase) → needs_server (phase_closed phase) ≡ false
closed_none Gone = refl
closed_none Absent = refl
closed_none New = refl
closed_none Waiting = refl
closed_none Answered = refl
closed_none Running = refl
closed_none Down = refl
closed_none Closed = refl

heard_needs : (phase : Phase) (initialize body : List ℕ) (m : Message) → places phase m ≡ false → needs_server (desk_hears phase initialize body m).phase ≡ true → needs_server phase ≡ true
heard_needs New initialize body m off h = go (requests (codes "initialize") m) off h
  where
    go : (b : Bool) → b ≡ false → needs_server (either_desk b (record { phase = Waiting; initialize = body }) (record { phase = New; initialize = initialize })).phase ≡ true → false ≡ true
    go true off h = never off
    go false off h = h
heard_needs Absent initialize body m off h = h
heard_needs Waiting initialize body m off h = refl
heard_needs Answered initialize body m off h = refl
heard_needs Running initialize body m off h = refl
heard_needs Down initialize body m off h = h
heard_needs Closed initialize body m off h = h
heard_needs Gone initialize body m off h = h

-- one event more
module _ (e : ℕ) (events : List Event) where
  abbrev Needed : Event → Type 0
  Needed event = needs_server (desk_of e (events ++ event ∷ [])).phase ≡ true → needs_server (desk_of e events).phase ≡ true

  by_desk : (event : Event) → (needs_server (desk_behind e (desk_of e events) event).phase ≡ true → needs_server (desk_of e events).phase ≡ true) → Needed event
  by_desk event f h = f (subst (λ (d : Desk). needs_server d.phase ≡ true) (desk_more e events event) h)

  told_needed : (n : ℕ) (body : List ℕ) → needs_server (desk_behind e (desk_of e events) (said (ToEditor n body))).phase ≡ true → needs_server (desk_of e events).phase ≡ true
  told_needed n body = go (nat_eq n e)
    where
      go : (b : Bool) → needs_server (if b then record { phase = phase_told (desk_of e events).phase (desk_of e events).initialize (message_of body); initialize = (desk_of e events).initialize } else desk_of e events).phase ≡ true → needs_server (desk_of e events).phase ≡ true
      go true h = told_needs (desk_of e events).phase (desk_of e events).initialize (message_of body) h
      go false h = h

  closed_needed : (n : ℕ) → needs_server (desk_behind e (desk_of e events) (said (CloseEditor n))).phase ≡ true → needs_server (desk_of e events).phase ≡ true
  closed_needed n = go (nat_eq n e)
    where
      go : (b : Bool) → needs_server (if b then record { phase = phase_closed (desk_of e events).phase; initialize = (desk_of e events).initialize } else desk_of e events).phase ≡ true → needs_server (desk_of e events).phase ≡ true
      go true h = never (sym h ∙ closed_none (desk_of e events).phase)
      go false h = h

  joined_needed : (n : ℕ) → needs_server (desk_behind e (desk_of e events) (heard (Joined n))).phase ≡ true → needs_server (desk_of e events).phase ≡ true
  joined_needed n = go (nat_eq n e)
    where
      go : (b : Bool) → needs_server (if b then record { phase = New; initialize = [] } else desk_of e events).phase ≡ true → needs_server (desk_of e events).phase ≡ true
      go true h = absurd (cc)
      go false h = h

  heard_needed : (n : ℕ) (body : List ℕ) → (nat_eq n e && places (desk_of e events).phase (message_of body)) ≡ false
      → needs_server (desk_behind e (desk_of e events) (heard (FromEditor n body))).phase ≡ true → needs_server (desk_of e events).phase ≡ true
  heard_needed n body = go (nat_eq n e)
    where
      go : (b : Bool) → (b && places (desk_of e events).phase (message_of body)) ≡ false
          → needs_server (if b then desk_hears (desk_of e events).phase (desk_of e events).initialize body (message_of body) else desk_of e events).phase ≡ true → needs_server (desk_of e events).phase ≡ true
      go true off h = heard_needs (desk_of e events).phase (desk_of e events).initialize body (message_of body) off h
      go false off h = h

  out_needed : (out : Out) → Needed (said out)
  out_needed (ToEditor n body) = by_desk (said (ToEditor n body)) (told_needed n body)
  out_needed (CloseEditor n) = by_desk (said (CloseEditor n)) (closed_needed n)
  out_needed (ToServer s body) = by_desk (said (ToServer s body)) (λ h. h)
  out_needed (Spawn s g) = by_desk (said (Spawn s g)) (λ h. h)
  out_needed (EndServer s) = by_desk (said (EndServer s)) (λ h. h)

-- Who needs a server is in a group that is kept

pub record IsPlaced (settings : Settings) (events : List Event) (e : ℕ) : Type 0 where
  pub group : ℕ
  pub home : home_of settings e events ≡ Some group
  pub kept : group < length (groups_of settings events)

abbrev PlacedAt : Settings → ℕ → List Event → Type 0
PlacedAt settings e events = needs_server (desk_of e events).phase ≡ true → IsPlaced settings events e

abbrev pub AllPlaced : Settings → List Event → Type 0
AllPlaced settings events = (e : ℕ) → PlacedAt settings e events

module _ (settings : Settings) where
  abbrev count : List Event → ℕ
  count events = length (groups_of settings events)

  -- an event that keeps its home
  stays_placed : (e : ℕ) (events : List Event) (event : Event) → home_of settings e (events ++ event ∷ []) ≡ home_of settings e events → count events ≤ count (events ++ event ∷ []) → Needed e events event → PlacedAt settings e events → PlacedAt settings e (events ++ event ∷ [])
  stays_placed e events event home longer needed h needs =
      let k : IsPlaced settings events e = h (needed needs) in
      let kept : k.group < count events = k.kept in
      record { group = k.group; home = home ∙ k.home; kept = omega (arith, kept, longer) }

  placed_did : (e : ℕ) (events : List Event) (out : Out) → PlacedAt settings e events → PlacedAt settings e (events ++ said out ∷ [])
  placed_did e events out h = stays_placed e events (said out) (home_did settings e events out) (longer_did settings events out) (out_needed e events out) h

  pub placed_outs : (e : ℕ) (events : List Event) (xs : List Out) → PlacedAt settings e events → PlacedAt settings e (behind events xs)
  placed_outs e events [] h = subst (PlacedAt settings e) (sym (append-nil events)) h
  placed_outs e events (x ∷ xs) h = subst (PlacedAt settings e) (append_assoc events (said x ∷ []) (map said xs)) (placed_outs e (events ++ said x ∷ []) xs (placed_did e events x h))

  -- The entry that places an editor

  module _ (before : List Event) (e : ℕ) (body : List ℕ) (here : places (desk_of e before).phase (message_of body) ≡ true) where
    abbrev now : List Event
    now = with_cause before (FromEditor e body)

    abbrev key : Common
    key = key_for settings before e body

    abbrev declared : List ℕ
    declared = declared_for settings before e body

    home_now : home_of settings e now ≡ home_by (placed_for settings before e body (groups_of settings before)) (home_of settings e before)
    home_now = home_more settings e before (heard (FromEditor e body)) ∙ rw (same_number e, here) refl

    groups_now : groups_of settings now ≡ with_editor (placed_for settings before e body (groups_of settings before)) key declared (groups_of settings before)
    groups_now = groups_more settings before (heard (FromEditor e body)) ∙ rw here refl

    by_placed : (p : Placed) → is_too_many p ≡ false → IsIn (count before) p → IsNext (count before) p → home_of settings e now ≡ home_by p (home_of settings e before)
        → count before ≤ count now → groups_of settings now ≡ with_editor p key declared (groups_of settings before) → IsPlaced settings now e
    by_placed (Joins g) few inside next home longer groups = record { group = g; home = home; kept = omega (arith, inside, longer) }
    by_placed (Founds g) few inside next home longer groups = record { group = g; home = home; kept = omega (arith, next, ap length groups, length-append (groups_of settings before) (founded key declared ∷ [])) }
    by_placed (Evicts a g) few inside next home longer groups = record { group = g; home = home; kept = omega (arith, next, ap length groups, length-append (changed a ended (groups_of settings before)) (founded key declared ∷ []), changed_length a ended (groups_of settings before)) }
    by_placed TooMany few inside next home longer groups = never few

    placing : is_too_many (placed_for settings before e body (groups_of settings before)) ≡ false → count before ≤ count now → IsPlaced settings now e
    placing few longer = by_placed (placed_for settings before e body (groups_of settings before)) few (placed_inside settings.limits.groups key declared (groups_of settings before)) (placed_next settings.limits.groups key declared (groups_of settings before)) home_now longer groups_now

  needs_begun : (phase : Phase) → needs_server phase ≡ true → is_begun phase ≡ true
  needs_begun Waiting h = refl
  needs_begun Answered h = refl
  needs_begun Running h = refl
  needs_begun Absent h = absurd (cc)
  needs_begun New h = absurd (cc)
  needs_begun Down h = absurd (cc)
  needs_begun Closed h = absurd (cc)
  needs_begun Gone h = absurd (cc)

  module _ (before : List Event) (h : AllPlaced settings before) where
    -- a message of its own
    own_heard : (e : ℕ) (body : List ℕ) → count before ≤ count (with_cause before (FromEditor e body)) → turned_away settings before (FromEditor e body) e ≡ false → PlacedAt settings e (with_cause before (FromEditor e body))
    own_heard e body longer stays = go (places (desk_of e before).phase (message_of body)) refl
      where
        few : places (desk_of e before).phase (message_of body) ≡ true → is_too_many (placed_for settings before e body (groups_of settings before)) ≡ false
        few here = sym (ap (λ b. b && (places (desk_of e before).phase (message_of body) && is_too_many (placed_for settings before e body (groups_of settings before)))) (same_number e) ∙ ap (λ b. b && is_too_many (placed_for settings before e body (groups_of settings before))) here) ∙ off_first (is_crowded settings before e body e) (stops before e (message_of body) && is_waiting (desk_of e before).phase) stays

        go : (b : Bool) → places (desk_of e before).phase (message_of body) ≡ b → PlacedAt settings e (with_cause before (FromEditor e body))
        go true here = λ needs. placing before e body here (few here) longer
        go false off = stays_placed e before (heard (FromEditor e body)) (home_more settings e before (heard (FromEditor e body)) ∙ rw (same_number e, off) refl) longer
            (by_desk e before (heard (FromEditor e body)) (heard_needed e before e body (ap (λ b. b && places (desk_of e before).phase (message_of body)) (same_number e) ∙ off))) (h e)

    editor_heard : (n : ℕ) (body : List ℕ) (e : ℕ) → count before ≤ count (with_cause before (FromEditor n body)) → turned_away settings before (FromEditor n body) e ≡ false → PlacedAt settings e (with_cause before (FromEditor n body))
    editor_heard n body e longer stays = go (nat_eq n e) refl
      where
        go : (b : Bool) → nat_eq n e ≡ b → PlacedAt settings e (with_cause before (FromEditor n body))
        go true same = subst (λ k. PlacedAt settings k (with_cause before (FromEditor n body))) (number_same n e same) (own_heard n body longer (subst (λ k. turned_away settings before (FromEditor n body) k ≡ false) (sym (number_same n e same)) stays))
        go false other = stays_placed e before (heard (FromEditor n body)) (home_more settings e before (heard (FromEditor n body)) ∙ rw other refl) longer
            (by_desk e before (heard (FromEditor n body)) (heard_needed e before n body (ap (λ b. b && places (desk_of e before).phase (message_of body)) other))) (h e)

    gone_placed : (n : ℕ) (why : link.Why) (e : ℕ) → count before ≤ count (with_cause before (EditorGone n why)) → (b : Bool) → nat_eq n e ≡ b → PlacedAt settings e (with_cause before (EditorGone n why))
    gone_placed n why e longer true same = λ needs. never (sym needs ∙ ap (λ (d : Desk). needs_server d.phase) (desk_more e before (heard (EditorGone n why)))
        ∙ ap (λ b. needs_server (if b then record { phase = Gone; initialize = (desk_of e before).initialize } else desk_of e before).phase) same)
    gone_placed n why e longer false other = stays_placed e before (heard (EditorGone n why)) (home_more settings e before (heard (EditorGone n why)) ∙ rw other refl) longer
        (by_desk e before (heard (EditorGone n why)) (λ needs. subst (λ b. needs_server (if b then record { phase = Gone; initialize = (desk_of e before).initialize } else desk_of e before).phase ≡ true) other needs)) (h e)

    placed_took : (cause : Cause) → count before ≤ count (with_cause before cause) → (e : ℕ) → turned_away settings before cause e ≡ false → PlacedAt settings e (with_cause before cause)
    placed_took (FromEditor n body) longer e stays = editor_heard n body e longer stays
    placed_took (Joined n) longer e stays = stays_placed e before (heard (Joined n)) (home_stays settings e before (heard (Joined n)) refl) longer (by_desk e before (heard (Joined n)) (joined_needed e before n)) (h e)
    placed_took (Started s) longer e stays = stays_placed e before (heard (Started s)) (home_stays settings e before (heard (Started s)) refl) longer (by_desk e before (heard (Started s)) (λ needs. needs)) (h e)
    placed_took (FromServer s body) longer e stays = stays_placed e before (heard (FromServer s body)) (home_stays settings e before (heard (FromServer s body)) refl) longer (by_desk e before (heard (FromServer s body)) (λ needs. needs)) (h e)
    placed_took (Drained n k) longer e stays = stays_placed e before (heard (Drained n k)) (home_stays settings e before (heard (Drained n k)) refl) longer (by_desk e before (heard (Drained n k)) (λ needs. needs)) (h e)
    placed_took (Tick t) longer e stays = stays_placed e before (heard (Tick t)) (home_stays settings e before (heard (Tick t)) refl) longer (by_desk e before (heard (Tick t)) (λ needs. needs)) (h e)
    placed_took (EditorGone n why) longer e stays = gone_placed n why e longer (nat_eq n e) refl
    placed_took (StartFailed s) longer e stays = stays_placed e before (heard (StartFailed s)) (home_stays settings e before (heard (StartFailed s)) refl) longer (by_desk e before (heard (StartFailed s)) (λ needs. needs)) (h e)
    placed_took (ServerGone s) longer e stays = stays_placed e before (heard (ServerGone s)) (home_stays settings e before (heard (ServerGone s)) refl) longer (by_desk e before (heard (ServerGone s)) (λ needs. needs)) (h e)

    -- one that is turned away is closed
    turned_none : (n : ℕ) (body : List ℕ) (e : ℕ) → is_crowded settings before n body e ≡ true → needs_server (desk_of e (behind (with_cause before (FromEditor n body)) (outs_of settings before (FromEditor n body)))).phase ≡ false
    turned_none n body e turned = ap (λ xs. needs_server (desk_of e (behind (with_cause before (FromEditor n body)) xs)).phase) (turned_outs settings before n body e turned)
        ∙ ap (λ z. needs_server (desk_of e z).phase) (sym (append_assoc (with_cause before (FromEditor n body)) (said (ToEditor n answer) ∷ []) (said (CloseEditor n) ∷ [])))
        ∙ ap (λ (d : Desk). needs_server d.phase) (desk_more e mid (said (CloseEditor n)))
        ∙ closed (nat_eq n e) (and_parts (nat_eq n e) (places (desk_of n before).phase (message_of body) && is_too_many (placed_for settings before n body (groups_of settings before))) turned).0
      where
        answer : List ℕ
        answer = error_text (id_bytes body) request_failed

        mid : List Event
        mid = with_cause before (FromEditor n body) ++ said (ToEditor n answer) ∷ []

        closed : (b : Bool) → b ≡ true → needs_server (if b then record { phase = phase_closed (desk_of e mid).phase; initialize = (desk_of e mid).initialize } else desk_of e mid).phase ≡ false
        closed true same = closed_none (desk_of e mid).phase
        closed false same = never (sym same)

    turned_placed : (cause : Cause) → Editors before → (e : ℕ) → turned_away settings before cause e ≡ true → PlacedAt settings e (behind (with_cause before cause) (outs_of settings before cause))
    turned_placed (FromEditor n body) absent e turned = go (one_of (is_crowded settings before n body e) (stops before n (message_of body) && is_waiting (desk_of e before).phase) turned)
      where
        go : (is_crowded settings before n body e ≡ true) ⊎ ((stops before n (message_of body) && is_waiting (desk_of e before).phase) ≡ true) → PlacedAt settings e (behind (with_cause before (FromEditor n body)) (outs_of settings before (FromEditor n body)))
        go (inl many) = λ needs. never (sym needs ∙ turned_none n body e many)
        go (inr stop) = λ needs. never (sym (needs_begun _ needs) ∙ unthere_unbegun _ (none_there settings before n body (and_parts (stops before n (message_of body)) (is_waiting (desk_of e before).phase) stop).0 absent e))
    turned_placed (FromServer s body) absent e turned = λ needs. never (sym (needs_begun _ needs) ∙ turned_ends settings before s body absent e turned)
    turned_placed (StartFailed s) absent e turned = λ needs. never (sym (needs_begun _ needs) ∙ exit_turns settings before (StartFailed s) s (failed_exit settings before s) absent e turned)
    turned_placed (ServerGone s) absent e turned = λ needs. never (sym (needs_begun _ needs) ∙ exit_turns settings before (ServerGone s) s (gone_exit settings before s) absent e turned)
    turned_placed cause absent e turned = never (sym turned)

    pub placed_rests : (cause : Cause) → Editors before → AllPlaced settings (behind (with_cause before cause) (outs_of settings before cause))
    placed_rests cause absent e = go (turned_away settings before cause e) refl
      where
        go : (b : Bool) → turned_away settings before cause e ≡ b → PlacedAt settings e (behind (with_cause before cause) (outs_of settings before cause))
        go true turned = turned_placed cause absent e turned
        go false stays = placed_outs e (with_cause before cause) (outs_of settings before cause) (placed_took cause (longer_took settings before cause) e stays)

  -- a group that is kept has a start
  pub seat : (events : List Event) (e : ℕ) → Begun settings events → IsPlaced settings events e → IsSeated settings events e
  seat events e begun k = go (start_of k.group events) refl
    where
      go : (o : Option ℕ) → start_of k.group events ≡ o → IsSeated settings events e
      go None none = absurd (let far : count events ≤ k.group = (begun k.group).0 none in let kept : k.group < count events = k.kept in omega (arith, far, kept))
      go (Some s) at = record { group = k.group; start = s; home = k.home; last = at }
