-- S2 with X4 of every first result: what the start has behind the row is what is open at editors of its group.
use Rattle.std.proofs.Common.{◌≡◌, ℕ, Bool, true, false, List, [], ◌∷◌, ◌++◌, append-nil, append_assoc, flat_map, map, Option, Some, None, refl, sym, ◌∙◌, ap, subst, ap₂, if◌then◌else◌}
use Rattle.std.specs.List.{AllByRecursion, range_with_len}
use Rattle.std.proofs.lemmas.Bool.{and_parts}
use Rattle.document_model.specs.Opens.{Open}
use Rattle.document_model.specs.Orderly.{AllSpelt}
use Rattle.document_model.specs.Sayings.{saying_of}
use Rattle.document_model.specs.Texts.{Texts}
use Rattle.mux_history.specs.declared.cause.Cause.TheVariants.{FromServer}
use Rattle.mux_history.specs.declared.entry.Entry.{Entry}
use Rattle.mux_history.specs.declared.out.Out.{Out}
use Rattle.mux_history.specs.declared.out.Out.TheVariants.{ToEditor, ToServer, Spawn, CloseEditor, EndServer}
use Rattle.rpc_message.specs.Message as message
use Rattle.rpc_message.specs.Message.{message_of, Message, request, notification, result, error, not_json, not_message, integer}
use Rattle.rpc_message.specs.Texts.{initialized_text}
use Rattle.rpc_message.proofs.Fixed.{initialized_law}
use Rattle.event_model.specs.declared.stage.Stage.{Stage}
use Rattle.event_model.specs.declared.stage.Stage.TheVariants.{Unspawned, Spawning, Initializing, Ready, Stopping, Ending, Ended}
use Rattle.event_model.specs.Event.{Event, behind, events_of, heard, said, with_cause}
use Rattle.event_model.specs.Row.{choose, each, nothing, on, outs, send, ◌⨾◌}
use Rattle.event_model.specs.Settings.{Settings}
use Rattle.event_model.specs.Spawns.{group_of}
use Rattle.event_model.specs.Stages.{is_first_result, is_initializing, life_of}
use Rattle.event_model.proofs.Frames.{never}
use Rattle.mux_model.specs.Documents as starts
use Rattle.mux_model.specs.Documents.{Sent, held_at}
use Rattle.mux_model.proofs.DocumentFolds.{outs_to_start}
use Rattle.mux_facts.specs.Ranges.{InRange}
use Rattle.mux_facts.proofs.Keeps.{behind_both}
use Rattle.mux_facts.proofs.Tellings.{sent_more}
use Rattle.group_words.specs.Houses.{is_first_error}
use Rattle.group_rows.specs.Earlier.{configuration_of, configure, differs, given_of, part_row, shown_in}
use Rattle.group_rows.specs.Rows.{first_result, from_server, hasty_row, outs_of, refused_row, replay, replay_bodies, result_in, welcome_all, send_held, welcome, waiting_in}
use Rattle.group_rows.specs.Texts.{texts_of, is_synced, toucher}
use Rattle.group_rows.proofs.Frames.{texts_stay}
use Rattle.group_facts.specs.Facts.{Opened, is_unready, AllHeld, IsHeld}
use Rattle.group_facts.specs.Legal.{Legal, LegalFrom}
use Rattle.group_facts.proofs.Configured.{configured, configures_by}
use Rattle.group_facts.proofs.Facts.{Facts}
use Rattle.group_facts.proofs.Opened.{opened_did, opened_took}
use Rattle.group_facts.proofs.Reached.{facts_at, reached}
use Rattle.group_sessions.proofs.DueWords.{flat_join}
use Rattle.group_sessions.proofs.ListsLaw.{legal_parts}
use Rattle.group_sessions.proofs.Replayed.{IsSilent, all_spoken, replay_speaks, replayed_all, silent_outs, silent_spoken, texts_spoken, to}
use Rattle.group_sessions.specs.ExitReplay.{IsReplayed, Replays, gives_result, held_of, spoken_to, IsReplayedFirst}
use Rattle.group_rows.specs.Waiting.{part, waiting_of, worker_of, first_waiting}
use Rattle.group_facts.proofs.HeldOuts.{parts_by}
use Rattle.group_facts.proofs.Begun.{all_outs, NoSpawn}
use Rattle.std.proofs.lemmas.List.Sums.{fold-append}
use Rattle.position_codec.specs.declared.Encoding.{Encoding}
use Rattle.focus_switch.specs.Documents.{Documents}
use Rattle.focus_switch.specs.Rows.{ready_row}
use Rattle.document_laws.specs.Follows.{told_outs}
use Rattle.group_laws.proofs.Entries.{all_told, held_same, known_sent}
use Rattle.group_laws.proofs.Replaying.{ready_outs, ready_stays, ready_texts}
use Rattle.group_laws.proofs.ReplayHeld.{ready_held}
use Rattle.group_facts.specs.OwnTexts.{AllOnOwnTexts}
use Rattle.group_facts.specs.Why.{Why, quitting}
use Rattle.group_facts.proofs.HeldOn.{held_answered}
use Rattle.group_facts.proofs.Housed.{group_more}
use Rattle.group_facts.proofs.LastStarts.{groups_rest}
use Rattle.group_facts.proofs.OpenByOut.{reasons_left}
use Rattle.group_facts.proofs.SentOn.{worker_idle}
use Rattle.group_facts.proofs.Table.{reasons}
use Rattle.group_sessions.proofs.HeldPlaces.{held_outs}
use Rattle.group_sessions.proofs.FirstTexts.{At, IsAsked, IsFree, both_own, each_own, free_own, given_outs, speak_own}
use Rattle.mux_facts.proofs.Lists.{all_join, all_of}
use Rattle.mux_facts.proofs.Reasons.{Reasons}
use Rattle.mux_facts.proofs.Words.{same_number}
use Rattle.mux_model.specs.Fits.{fits_behind}
use Rattle.group_facts.specs.SlowRows.{entry_outs, close_slow, is_slow, slow_row}
use Rattle.group_facts.proofs.SlowRow.{parting, parting_why, quit_unsynced}
use Rattle.group_facts.proofs.Known.{entry_keeps, slow_keeps_facts}
use Rattle.group_rows.specs.Leaves.{leave_row}
use Rattle.event_model.specs.Phases.{editors_of}

initializing_is : (stage : Stage) → is_initializing stage ≡ true → stage ≡ Initializing
initializing_is Initializing h = refl
initializing_is Unspawned h = never (sym h)
initializing_is Spawning h = never (sym h)
initializing_is Ready h = never (sym h)
initializing_is Stopping h = never (sym h)
initializing_is Ending h = never (sym h)
initializing_is Ended h = never (sym h)

opened_outs : (settings : Settings) (events : List Event) (xs : List Out) → Opened settings events → Opened settings (behind events xs)
opened_outs settings events [] h = subst (Opened settings) (sym (append-nil events)) h
opened_outs settings events (x ∷ xs) h = subst (Opened settings) (append_assoc events (said x ∷ []) (map said xs)) (opened_outs settings (events ++ said x ∷ []) xs (opened_did settings events x h))

-- bodies to editors alone
abbrev IsTold : Out → Type 0
IsTold (ToEditor n body) = Unit {0}
IsTold other = ⊥

texts_told : (settings : Settings) (g : ℕ) (events : List Event) (xs : List Out) → AllByRecursion IsTold xs → texts_of settings g (behind events xs) ≡ texts_of settings g events
texts_told settings g events [] h = ap (texts_of settings g) (append-nil events)
texts_told settings g events (ToEditor n body ∷ xs) h = ap (texts_of settings g) (sym (append_assoc events (said (ToEditor n body) ∷ []) (map said xs)))
    ∙ (texts_told settings g (events ++ said (ToEditor n body) ∷ []) xs h.1 ∙ texts_stay settings g events (said (ToEditor n body)) refl)
texts_told settings g events (x ∷ xs) h = absurd h.0

told_silent : (xs : List Out) → AllByRecursion IsTold xs → AllByRecursion IsSilent xs
told_silent [] h = tt
told_silent (ToEditor n body ∷ xs) h = (tt, told_silent xs h.1)
told_silent (x ∷ xs) h = absurd h.0

module _ (settings : Settings) (before : List Event) (facts : Facts settings before) (s g : ℕ) (body : List ℕ) (gives : gives_result s before body ≡ true) (home : group_of s before ≡ Some g) where
  abbrev now : List Event
  now = with_cause before (FromServer s body)

  stage : (life_of s before).stage ≡ Initializing
  stage = initializing_is (life_of s before).stage (and_parts (is_initializing (life_of s before).stage) (is_first_result (message_of body)) gives).0

  first : is_first_result (message_of body) ≡ true
  first = (and_parts (is_initializing (life_of s before).stage) (is_first_result (message_of body)) gives).1

  abbrev partings : List Out
  partings = outs (part_row settings before body g) now

  abbrev at_1 : List Event
  at_1 = behind now partings

  abbrev greeting : List Out
  greeting = ToServer s initialized_text ∷ []

  abbrev at_2 : List Event
  at_2 = behind at_1 greeting

  abbrev conveyed : List Out
  conveyed = outs (configure settings before s g) at_2

  abbrev at_3 : List Event
  at_3 = behind at_2 conveyed

  abbrev opens : List Open
  opens = (texts_of settings g at_3).opens

  abbrev replayed : List Out
  replayed = outs (replay settings s g) at_3

  abbrev at_4 : List Event
  at_4 = behind at_3 replayed

  abbrev welcomed : List Out
  welcomed = outs (welcome_all settings body g) at_4

  -- what waited is sent behind it
  abbrev at_5 : List Event
  at_5 = behind at_4 welcomed

  abbrev released : List Out
  released = outs (send_held settings s g) at_5

  -- the outs to the last document that is opened, and those behind it
  abbrev first_outs : List Out
  first_outs = partings ++ (greeting ++ (conveyed ++ replayed))

  row_is : outs_of settings before (FromServer s body) ≡ partings ++ (greeting ++ (conveyed ++ (replayed ++ (welcomed ++ released))))
  row_is = ap (λ z. outs (from_server settings s before body (message_of body) z) now) stage
      ∙ (ap (λ b. outs (choose b (first_result settings before s body) (choose (is_first_error (message_of body)) (refused_row settings before s body) (hasty_row s body (message_of body)))) now) first
      ∙ ap (λ o. outs (on o nothing (result_in settings before s body)) now) home)

  split : outs_of settings before (FromServer s body) ≡ first_outs ++ (welcomed ++ released)
  split = row_is ∙ sym (append_assoc partings (greeting ++ (conveyed ++ replayed)) (welcomed ++ released)
      ∙ ap (λ z. partings ++ z) (append_assoc greeting (conveyed ++ replayed) (welcomed ++ released) ∙ ap (λ z. greeting ++ z) (append_assoc conveyed replayed (welcomed ++ released))))

  parts : behind now first_outs ≡ at_4
  parts = behind_both now partings (greeting ++ (conveyed ++ replayed)) ∙ (behind_both at_1 greeting (conveyed ++ replayed) ∙ behind_both at_2 conveyed replayed)

  -- all but the replay say nothing of documents

  partings_silent : AllByRecursion IsSilent partings
  partings_silent = go (differs (given_of g before) body)
    where
      go : (b : Bool) → AllByRecursion IsSilent (outs (choose b (each (part settings g) (shown_in settings g before)) nothing) now)
      go true = all_outs IsSilent now (outs (each (part settings g) (shown_in settings g before)) now)
          (parts_by settings (λ places out. IsSilent out) g (λ e places text. tt) (λ e places. tt) (shown_in settings g before) now).why
      go false = tt

  conveyed_silent : AllByRecursion IsSilent conveyed
  conveyed_silent = go (configuration_of settings g before) refl
    where
      go : (o : Option (List ℕ)) → configuration_of settings g before ≡ o → AllByRecursion IsSilent (outs (on o nothing (λ text. send (ToServer s text))) at_2)
      go None kept = tt
      go (Some text) kept = let k = configures_by (message_of text) (configured settings g before (facts.base).meant text kept) in (ap saying_of k.1, tt)

  replayed_is : replayed ≡ to s (replay_bodies [] opens opens)
  replayed_is = outs_to_start s (replay_bodies [] opens opens) at_3

  spelt : AllSpelt opens
  spelt = (opened_outs settings at_2 conveyed (opened_outs settings at_1 greeting (opened_outs settings now partings (opened_took settings before (FromServer s body) (facts.base).opened))) g).spelt

  none_held : (w : List ℕ) → held_at s w at_3 ≡ None
  none_held w = silent_outs s w at_2 conveyed conveyed_silent ∙ (silent_outs s w at_1 greeting (ap saying_of initialized_law, tt) ∙ (silent_outs s w now partings partings_silent
      ∙ (ap (λ (x : Sent). x.held) (sent_more s w before (heard (FromServer s body))) ∙ (facts.steady).untold s (ap is_unready stage) w)))

  texts_still : texts_of settings g at_4 ≡ texts_of settings g at_3
  texts_still = ap (λ z. texts_of settings g (behind at_3 z)) replayed_is ∙ texts_spoken s settings g at_3 (replay_bodies [] opens opens) (replay_speaks s opens spelt [] opens)

  spoken : flat_map (spoken_to s) first_outs ≡ replay_bodies [] opens opens
  spoken = flat_join (spoken_to s) partings (greeting ++ (conveyed ++ replayed)) ∙ (ap (λ z. z ++ flat_map (spoken_to s) (greeting ++ (conveyed ++ replayed))) (silent_spoken s partings partings_silent)
      ∙ (flat_join (spoken_to s) greeting (conveyed ++ replayed) ∙ (ap (λ z. z ++ flat_map (spoken_to s) (conveyed ++ replayed)) (silent_spoken s greeting (ap saying_of initialized_law, tt))
      ∙ (flat_join (spoken_to s) conveyed replayed ∙ (ap (λ z. z ++ flat_map (spoken_to s) replayed) (silent_spoken s conveyed conveyed_silent)
      ∙ (ap (flat_map (spoken_to s)) replayed_is ∙ all_spoken s (replay_bodies [] opens opens) (replay_speaks s opens spelt [] opens)))))))

  held_there : (w : List ℕ) → held_at s w at_4 ≡ held_of w opens
  held_there w = ap (λ z. held_at s w (behind at_3 z)) replayed_is ∙ replayed_all s opens spelt at_3 none_held w

  pub replayed_there : IsReplayedFirst settings g s now (outs_of settings before (FromServer s body))
  replayed_there = record {
    first = first_outs;
    rest = welcomed ++ released;
    parts = split;
    replayed = subst (λ z. IsReplayed s (texts_of settings g z).opens first_outs z) (sym parts) (subst (λ (x : Texts). IsReplayed s x.opens first_outs at_4) (sym texts_still) (record { bodies = spoken; held = held_there }));
  }

  -- What waited stands, where it goes to the start, on its editors' own texts

  module _ (range : InRange settings) where
    abbrev Why_now : List Event → Out → Type 0
    Why_now places out = Why settings before (FromServer s body) places out

    welcomed_told : AllByRecursion IsTold welcomed
    welcomed_told = go (waiting_in settings g at_4) at_4
      where
        go : (es : List ℕ) (events : List Event) → AllByRecursion IsTold (outs (each (welcome body) es) events)
        go [] events = tt
        go (e ∷ es) events = (tt, go es (behind events (outs (welcome body e) events)))

    -- the encoding that it gave
    code : (c : Encoding) × (starts.encoding_of s now ≡ Some c)
    code = by (starts.encoding_of s before) refl
      where
        first_given : (m : Message) → is_first_result m ≡ true → (c : Encoding) × (starts.encoding_by m ≡ Some c)
        first_given (result (Some (integer n)) r) h = (starts.encoding_in r, ap (λ b. if b then Some (starts.encoding_in r) else None) h)
        first_given (result (Some (message.text t)) r) h = never (sym h)
        first_given (result None r) h = never (sym h)
        first_given (error id x) h = never (sym h)
        first_given (request id method params) h = never (sym h)
        first_given (notification method params) h = never (sym h)
        first_given not_json h = never (sym h)
        first_given not_message h = never (sym h)

        heard_is : starts.encoding_of s now ≡ starts.encoding_behind s (starts.encoding_of s before) (heard (FromServer s body))
        heard_is = fold-append (starts.encoding_behind s) None before (heard (FromServer s body) ∷ [])

        by : (o : Option Encoding) → starts.encoding_of s before ≡ o → (c : Encoding) × (starts.encoding_of s now ≡ Some c)
        by (Some c) is = (c, heard_is ∙ ap (λ o. starts.encoding_behind s o (heard (FromServer s body))) is)
        by None is = let k = first_given (message_of body) first in
            (k.0, heard_is ∙ (ap (λ o. starts.encoding_behind s o (heard (FromServer s body))) is ∙ (ap (λ b. if b then starts.encoding_by (message_of body) else None) (same_number s) ∙ k.1)))

    abbrev all_before : List Out
    all_before = first_outs ++ welcomed

    at_5_is : at_5 ≡ behind now all_before
    at_5_is = sym (behind_both now first_outs welcomed ∙ ap (λ z. behind z welcomed) parts)

    why : Reasons Why_now now (all_before ++ released)
    why = subst (Reasons Why_now now) (split ∙ sym (append_assoc first_outs welcomed released)) (reasons settings range before facts (FromServer s body)).why

    held_at_5 : AllHeld settings at_5
    held_at_5 = subst (AllHeld settings) (sym at_5_is) (held_outs settings before (FromServer s body) now all_before (reasons_left Why_now now all_before released why) (held_answered settings before s body (facts.steady).held))

    asked : AllByRecursion IsAsked (waiting_of settings g at_5)
    asked = all_of (IsHeld settings g at_5) IsAsked (λ r k. record { id = (k.asker).id; method = k.method; params = k.params; says = k.says; other = k.other }) (waiting_of settings g at_5) (held_at_5 g).each

    -- none of these spawns a start
    calm : AllByRecursion NoSpawn all_before
    calm = all_join NoSpawn first_outs welcomed (all_join NoSpawn partings (greeting ++ (conveyed ++ replayed)) partings_calm
        (tt, all_join NoSpawn conveyed replayed (conveyed_calm (configuration_of settings g before)) (subst (AllByRecursion NoSpawn) (sym replayed_is) (bodies_calm (replay_bodies [] opens opens)))))
        (all_of IsTold NoSpawn told_calm welcomed welcomed_told)
      where
        told_calm : (out : Out) → IsTold out → NoSpawn out
        told_calm (ToEditor n text) h = tt
        told_calm (ToServer n text) h = tt
        told_calm (Spawn n i) h = h
        told_calm (CloseEditor n) h = tt
        told_calm (EndServer n) h = tt

        bodies_calm : (bodies : List (List ℕ)) → AllByRecursion NoSpawn (to s bodies)
        bodies_calm [] = tt
        bodies_calm (b ∷ bodies) = (tt, bodies_calm bodies)

        conveyed_calm : (o : Option (List ℕ)) → AllByRecursion NoSpawn (outs (on o nothing (λ text. send (ToServer s text))) at_2)
        conveyed_calm None = tt
        conveyed_calm (Some text) = (tt, tt)

        parted_calm : (b : Bool) → AllByRecursion NoSpawn (outs (choose b (each (part settings g) (shown_in settings g before)) nothing) now)
        parted_calm true = all_outs NoSpawn now (outs (each (part settings g) (shown_in settings g before)) now) (parts_by settings (λ places out. NoSpawn out) g (λ e places text. tt) (λ e places. tt) (shown_in settings g before) now).why
        parted_calm false = tt

        partings_calm : AllByRecursion NoSpawn partings
        partings_calm = parted_calm (differs (given_of g before) body)

    -- the documents as they are opened
    abbrev opened_now : Documents
    opened_now = record { start = None; encoding = None; versions = settings.limits.versions; turn = (texts_of settings g at_3).turn; opens = opens; sent = 0; helds = [] }

    opened_3 : Opened settings at_3
    opened_3 = opened_outs settings at_2 conveyed (opened_outs settings at_1 greeting (opened_outs settings now partings (opened_took settings before (FromServer s body) (facts.base).opened)))

    given_3 : starts.encoding_of s at_3 ≡ Some code.0
    given_3 = given_outs settings range s g code.0 at_2 conveyed ∙ (given_outs settings range s g code.0 at_1 greeting ∙ (given_outs settings range s g code.0 now partings ∙ code.1))

    held_5 : (u : List ℕ) → held_at s u at_5 ≡ told_outs (Some code.0) u None (ready_row s code.0 opened_now).outs
    held_5 u = silent_outs s u at_4 welcomed (told_silent welcomed welcomed_told) ∙ (ap (λ z. held_at s u (behind at_3 z)) replayed_is
        ∙ (ap (λ (x : Sent). x.held) (all_told s u code.0 None (replay_bodies [] opens opens) at_3 (known_sent s u code.0 at_3 given_3 ∙ ap (λ h. record { encoding = Some code.0; held = h }) (none_held u)))
        ∙ ap (told_outs (Some code.0) u None) (sym (ready_outs s code.0 opened_now (opened_3 g).orderly.once))))

    there : At settings range s g code.0 (waiting_of settings g at_5) at_5
    there = record {
      waiting = refl;
      nobody = ap worker_of at_5_is ∙ worker_idle before s body all_before;
      group = ap (group_of s) at_5_is ∙ (groups_rest s now all_before calm ∙ (group_more s before (heard (FromServer s body)) ∙ home));
      opened = opened_outs settings at_4 welcomed (opened_outs settings at_3 replayed opened_3);
      documents = (ready_row s code.0 opened_now).after;
      texts = texts_told settings g at_4 welcomed welcomed_told ∙ (texts_still ∙ sym (ready_texts s code.0 opened_now));
      start = (ready_stays s code.0 opened_now).start;
      known = (ready_stays s code.0 opened_now).encoding;
      given = ap (starts.encoding_of s) at_5_is ∙ (given_outs settings range s g code.0 now all_before ∙ code.1);
      versions = (ready_stays s code.0 opened_now).versions;
      held = held_same (ready_row s code.0 opened_now).after (λ w. told_outs (Some code.0) w None (ready_row s code.0 opened_now).outs) (λ u. held_at s u at_5) (λ u. sym (held_5 u)) (ready_held s code.0 opened_now (opened_3 g).orderly.once (opened_3 g).spelt);
    }

    abbrev own_both : (places : List Event) (xs ys : List Out) → AllOnOwnTexts settings places xs → AllOnOwnTexts settings (behind places xs) ys → AllOnOwnTexts settings places (xs ++ ys)
    own_both = both_own settings

    partings_free : AllByRecursion IsFree partings
    partings_free = go (differs (given_of g before) body)
      where
        go : (b : Bool) → AllByRecursion IsFree (outs (choose b (each (part settings g) (shown_in settings g before)) nothing) now)
        go true = all_outs IsFree now (outs (each (part settings g) (shown_in settings g before)) now) (parts_by settings (λ places out. IsFree out) g (λ e places text. tt) (λ e places. tt) (shown_in settings g before) now).why
        go false = tt

    conveyed_own : AllOnOwnTexts settings at_2 conveyed
    conveyed_own = go (configuration_of settings g before) refl
      where
        at_2_is : at_2 ≡ behind now (partings ++ greeting)
        at_2_is = sym (behind_both now partings greeting)

        go : (o : Option (List ℕ)) → configuration_of settings g before ≡ o → AllOnOwnTexts settings at_2 (outs (on o nothing (λ text. send (ToServer s text))) at_2)
        go None kept = tt
        go (Some text) kept = (λ goes e i touches. absurd (none e (sym (ap₂ (λ w m. toucher w m (first_waiting settings s at_2)) (ap worker_of at_2_is ∙ worker_idle before s body (partings ++ greeting)) (configures_by (message_of text) (configured settings g before (facts.base).meant text kept)).1) ∙ touches)), tt)
          where
            none : (e : ℕ) → ◌≡◌ {A = Option ℕ} None (Some e) → ⊥
            none e clash = absurd (cc)

    told_free : (out : Out) → IsTold out → IsFree out
    told_free (ToEditor n text) h = tt
    told_free (ToServer n text) h = absurd h
    told_free (Spawn n i) h = tt
    told_free (CloseEditor n) h = tt
    told_free (EndServer n) h = tt

    pub first_own : AllOnOwnTexts settings now (outs_of settings before (FromServer s body))
    first_own = subst (AllOnOwnTexts settings now) (sym row_is)
        (own_both now partings (greeting ++ (conveyed ++ (replayed ++ (welcomed ++ released)))) (free_own settings now partings partings_free)
        (own_both at_1 greeting (conveyed ++ (replayed ++ (welcomed ++ released))) (free_own settings at_1 greeting (ap is_synced initialized_law, tt))
        (own_both at_2 conveyed (replayed ++ (welcomed ++ released)) conveyed_own
        (own_both at_3 replayed (welcomed ++ released) (subst (AllOnOwnTexts settings at_3) (sym replayed_is) (speak_own settings range s g code.0 at_3 (replay_bodies [] opens opens) (replay_speaks s opens spelt [] opens)))
        (own_both at_4 welcomed released (free_own settings at_4 welcomed (all_of IsTold IsFree told_free welcomed welcomed_told))
        (each_own settings range s g code.0 (waiting_of settings g at_5) at_5 there asked))))))

-- a start of no group gives nothing
pub first_unhoused : (settings : Settings) (before : List Event) (s : ℕ) (body : List ℕ) → gives_result s before body ≡ true → group_of s before ≡ None → outs_of settings before (FromServer s body) ≡ []
first_unhoused settings before s body gives home = ap (λ z. outs (from_server settings s before body (message_of body) z) now) (initializing_is (life_of s before).stage p.0)
    ∙ (ap (λ b. outs (choose b (first_result settings before s body) (choose (is_first_error (message_of body)) (refused_row settings before s body) (hasty_row s body (message_of body)))) now) p.1
    ∙ ap (λ o. outs (on o nothing (result_in settings before s body)) now) home)
  where
    now : List Event
    now = with_cause before (FromServer s body)

    p : (is_initializing (life_of s before).stage ≡ true) × (is_first_result (message_of body) ≡ true)
    p = and_parts (is_initializing (life_of s before).stage) (is_first_result (message_of body)) gives

-- The whole entry, with the editors that are slow behind the row

module _ (settings : Settings) (range : InRange settings) where
  quit_free : (place : List Event) (e : ℕ) (events : List Event) (xs : List Out) → Reasons (Why settings place (quitting e)) events xs → AllByRecursion IsFree xs
  quit_free place e events [] h = tt
  quit_free place e events (ToServer n text ∷ xs) h = (by (is_synced (message_of text)) refl, quit_free place e (events ++ said (ToServer n text) ∷ []) xs h.1)
    where
      by : (b : Bool) → is_synced (message_of text) ≡ b → b ≡ false
      by true goes = absurd (quit_unsynced settings place e events n text h.0 goes)
      by false off = refl
  quit_free place e events (ToEditor n text ∷ xs) h = (tt, quit_free place e (events ++ said (ToEditor n text) ∷ []) xs h.1)
  quit_free place e events (Spawn n i ∷ xs) h = (tt, quit_free place e (events ++ said (Spawn n i) ∷ []) xs h.1)
  quit_free place e events (CloseEditor n ∷ xs) h = (tt, quit_free place e (events ++ said (CloseEditor n) ∷ []) xs h.1)
  quit_free place e events (EndServer n ∷ xs) h = (tt, quit_free place e (events ++ said (EndServer n) ∷ []) xs h.1)

  slow_free : (es : List ℕ) (place : List Event) → Facts settings place → AllByRecursion IsFree (outs (each (close_slow settings) es) place)
  slow_free [] place h = tt
  slow_free (e ∷ es) place h = go (is_slow settings e place) refl (λ z k. slow_free es z k)
    where
      go : (b : Bool) → is_slow settings e place ≡ b → ((z : List Event) → Facts settings z → AllByRecursion IsFree (outs (each (close_slow settings) es) z)) → AllByRecursion IsFree (outs (choose b (send (CloseEditor e) ⨾ leave_row settings place e) nothing) place
          ++ outs (each (close_slow settings) es) (behind place (outs (choose b (send (CloseEditor e) ⨾ leave_row settings place e) nothing) place)))
      go true slow others = all_join IsFree (parting settings place e) (outs (each (close_slow settings) es) (behind place (parting settings place e))) (quit_free place e place (parting settings place e) (parting_why settings range place h e slow))
          (others (behind place (parting settings place e)) (slow_keeps_facts settings range place e slow h))
      go false quick others = others (behind place []) (subst (Facts settings) (sym (append-nil place)) h)

  pub entry_first : (before : List Event) → Facts settings before → (s : ℕ) (body : List ℕ) → fits_behind before (FromServer s body) ≡ true → gives_result s before body ≡ true
      → AllOnOwnTexts settings (with_cause before (FromServer s body)) (entry_outs settings before (FromServer s body))
  entry_first before facts s body fits gives = both_own settings now xs (outs (slow_row settings) (behind now xs)) (by_home (group_of s before) refl)
      (free_own settings (behind now xs) (outs (slow_row settings) (behind now xs)) (slow_free (range_with_len 0 (editors_of (behind now xs))) (behind now xs) (entry_keeps settings range before (FromServer s body) fits facts)))
    where
      now : List Event
      now = with_cause before (FromServer s body)

      xs : List Out
      xs = outs_of settings before (FromServer s body)

      by_home : (o : Option ℕ) → group_of s before ≡ o → AllOnOwnTexts settings now xs
      by_home (Some g) home = first_own settings before facts s g body gives home range
      by_home None home = subst (AllOnOwnTexts settings now) (sym (first_unhoused settings before s body gives home)) tt

module _ (settings : Settings) (range : InRange settings) (history : List Entry) (legal : Legal settings history) where
  pub replayed_law : Replays settings history
  replayed_law before later entry is s g body from gives home =
      let parts : LegalFrom settings [] before × LegalFrom settings before (entry ∷ later) = legal_parts settings [] before (entry ∷ later) (subst (Legal settings) is legal) in
      subst (λ c. IsReplayedFirst settings g s (with_cause (events_of before) c) (outs_of settings (events_of before) c)) (sym from)
      (replayed_there settings (events_of before) (facts_at settings range (events_of before) (reached settings before parts.0)) s g body gives home)
