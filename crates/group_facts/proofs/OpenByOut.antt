-- What is open at an editor, behind each out of an entry that has its reason.
use Rattle.std.proofs.Common.{◌≡◌, ℕ, Bool, true, false, List, [], ◌∷◌, ◌++◌, map, length, nat_eq, if◌then◌else◌, Option, None, Some, ◌⊎◌, inl, inr, refl, sym, ◌∙◌, ap, subst, subst₂, arith, append-nil, append_assoc}
use Rattle.std.specs.List.{AllByRecursion}
use Rattle.mux_history.specs.declared.cause.Cause.{Cause}
use Rattle.mux_history.specs.declared.cause.Cause.TheVariants.{Joined, FromEditor, EditorGone, Started, StartFailed, FromServer, ServerGone, Drained, Tick}
use Rattle.mux_history.specs.declared.out.Out.{Out}
use Rattle.mux_history.specs.declared.out.Out.TheVariants.{ToEditor, ToServer, Spawn, CloseEditor, EndServer}
use Rattle.rpc_message.specs.Message.{Id, message_of}
use Rattle.event_model.specs.Event.{Event, behind, heard, said, with_cause}
use Rattle.event_model.specs.Phases.{Desk, desk_behind, desk_of, phase_closed, phase_told}
use Rattle.event_model.specs.Requests.{answered_id, is_open, open_behind, open_of, without}
use Rattle.event_model.specs.Settings.{Settings}
use Rattle.event_model.specs.Spawns.{group_of, start_of, starts_of}
use Rattle.event_model.proofs.Frames.{never}
use Rattle.mux_model.specs.Fits.{fits_behind}
use Rattle.mux_facts.specs.Ranges.{InRange}
use Rattle.mux_facts.proofs.Folds.{desk_more, opens_more}
use Rattle.mux_facts.proofs.Keeps.{behind_both}
use Rattle.mux_facts.proofs.Reasons.{Reasons}
use Rattle.mux_facts.proofs.Words.{number_same, same_number}
use Rattle.group_words.specs.Houses.{groups_of}
use Rattle.mux_facts.proofs.Why.{is_early}
use Rattle.group_rows.specs.Rows.{outs_of}
use Rattle.group_facts.specs.Facts.{is_exit, turned_away}
use Rattle.group_facts.proofs.Listens.{listens_late}
use Rattle.group_facts.specs.Why.{Why, WhyToEditor, calls, rejects, resumes, refuses, answers, turns_away, welcomes, passes, asks, recalls, spreads, progresses, shows, loses, winds_up, pays}
use Rattle.group_facts.proofs.Begun.{Begun, Founding, IsTold, NoSpawn, founding_of, founds, quiet, renews, start_more, starts_stay, start_took, told_quiet}
use Rattle.group_facts.proofs.Facts.{Facts}
use Rattle.group_rows.proofs.Frames.{forwarding_more}
use Rattle.group_facts.proofs.LastStarts.{AllLast, alive_exit}
use Rattle.group_facts.proofs.PutOut.{home_did}
use Rattle.group_facts.proofs.Same.{Same}
use Rattle.group_facts.proofs.Sent.{IsOf, OneOf, SentAt}
use Rattle.group_facts.proofs.Taken.{IsBy, TakenAt, taken_by, taken_closed, taken_ended, taken_sent, taken_spawned, taken_told, waits_quiet}
use Rattle.group_rows.specs.Waiting.{worker_of}
use Rattle.group_rows.specs.Forwarded.{Forwarding, forwarding_of, no_forwarding}
use Rattle.group_facts.proofs.RequestRow.{beside_other}
use Rattle.group_facts.proofs.Table.{reasons}
use Rattle.group_facts.proofs.OpenByPhase.{OpenDesk, OpenIf, answered_closed, if_closed, if_null, if_other, if_passed, if_refused, if_replied, if_welcomed}

pub reasons_left : (R : List Event → Out → Type 0) (events : List Event) (xs ys : List Out) → Reasons R events (xs ++ ys) → Reasons R events xs
reasons_left R events [] ys h = tt
reasons_left R events (x ∷ xs) ys h = (h.0, reasons_left R (events ++ said x ∷ []) xs ys h.1)

module _ (settings : Settings) (e : ℕ) (E : Id → Type 0) where
  -- it was sent on, or waits, or is excused
  abbrev pub S : List Event → Id → Type 0
  S events id = TakenAt settings events e id ⊎ E id

  abbrev pub OpenAt : List Event → Type 0
  OpenAt events = OpenIf (S events) (desk_of e events).phase (desk_of e events).initialize (open_of e events)

  -- where it stands behind a body to it, and behind the end of its link
  abbrev pub told : List Event → List ℕ → Desk
  told events body = record { phase = phase_told (desk_of e events).phase (desk_of e events).initialize (message_of body); initialize = (desk_of e events).initialize }

  abbrev shut : List Event → Desk
  shut events = record { phase = phase_closed (desk_of e events).phase; initialize = (desk_of e events).initialize }

  -- one event more
  pub open_at : (events : List Event) (event : Event) → OpenIf (S (events ++ event ∷ [])) (desk_behind e (desk_of e events) event).phase (desk_behind e (desk_of e events) event).initialize (open_behind e (open_of e events) event) → OpenAt (events ++ event ∷ [])
  open_at events event h = subst₂ (OpenDesk (S (events ++ event ∷ []))) (sym (desk_more e events event)) (sym (opens_more e events event)) h

  pub or_later : (events later : List Event) (id : Id) → (TakenAt settings events e id → TakenAt settings later e id) → S events id → S later id
  or_later events later id f (inl k) = inl (f k)
  or_later events later id f (inr k) = inr k

  pub open_still : (events later : List Event) → ((id : Id) → TakenAt settings events e id → TakenAt settings later e id) → OpenAt events → OpenIf (S later) (desk_of e events).phase (desk_of e events).initialize (open_of e events)
  open_still events later f h = if_other (S events) (S later) (desk_of e events).phase (desk_of e events).initialize (open_of e events) (λ served id is. or_later events later id (f id)) h

  -- what a body to it answers is open no more
  pub away : (events : List Event) (n : ℕ) (body : List ℕ) (id : Id) → is_open id (open_behind e (open_of e events) (said (ToEditor n body))) ≡ true → nat_eq n e ≡ true → answered_id (message_of body) ≡ Some id → ⊥
  away events n body id still same its = never (sym still ∙ (ap (λ b. is_open id (if b then without (answered_id (message_of body)) (open_of e events) else open_of e events)) same
      ∙ (ap (λ o. is_open id (without o (open_of e events))) its ∙ answered_closed id (open_of e events))))

  -- at a place that differs in what editors were asked
  pub open_moved : (x y : List Event) → Same settings y x → OpenAt x → OpenAt y
  open_moved x y same h = subst₂ (OpenDesk (S y)) (sym (same.desk e)) (sym (same.opens e)) (open_still x y moved h)
    where
      moved : (id : Id) → TakenAt settings x e id → TakenAt settings y e id
      moved id (inl k) = inl (record {
        group = k.group;
        start = k.start;
        home = same.home e ∙ k.home;
        last = same.start k.group ∙ k.last;
        among = subst (λ (f : Forwarding). OneOf (IsOf e id) f.open_requests) (sym (same.forwarding k.start)) k.among;
      })
      moved id (inr k) = inr (record { group = k.group; home = same.home e ∙ k.home; among = subst (OneOf (IsBy e id)) (sym (same.waiting k.group)) k.among })

  -- a body to a start, while an editor's message is at work
  pub open_sent : (events : List Event) (s : ℕ) (body : List ℕ) (n : ℕ) → worker_of events ≡ Some n → OpenAt events → OpenAt (events ++ said (ToServer s body) ∷ [])
  open_sent events s body n works h = open_at events (said (ToServer s body)) (open_still events (events ++ said (ToServer s body) ∷ []) (λ id. taken_sent settings e id events s body n works) h)

  -- the first start of a group
  open_spawned : (events : List Event) (n g : ℕ) → start_of g events ≡ None → OpenAt events → OpenAt (events ++ said (Spawn n g) ∷ [])
  open_spawned events n g none h = open_at events (said (Spawn n g)) (open_still events (events ++ said (Spawn n g) ∷ []) (λ id. taken_spawned settings e id events n g none) h)

  -- a later one, where none has to be answered by the one before it
  open_renewed : (events : List Event) (n g s : ℕ) → start_of g events ≡ Some s → (forwarding_of settings s events).open_requests ≡ [] → OpenAt events → OpenAt (events ++ said (Spawn n g) ∷ [])
  open_renewed events n g s last none h = open_at events (said (Spawn n g)) (open_still events (events ++ said (Spawn n g) ∷ []) moved h)
    where
      still : (id : Id) → SentAt settings events e id → SentAt settings (events ++ said (Spawn n g) ∷ []) e id
      still id k = go (nat_eq g k.group) refl
        where
          go : (b : Bool) → nat_eq g k.group ≡ b → SentAt settings (events ++ said (Spawn n g) ∷ []) e id
          go true same = absurd (let both : ◌≡◌ {A = Option ℕ} (Some s) (Some k.start) = sym last ∙ (ap (λ i. start_of i events) (number_same g k.group same) ∙ k.last) in let it : s ≡ k.start = cc in
              subst (OneOf (IsOf e id)) (ap (λ i. (forwarding_of settings i events).open_requests) (sym it) ∙ none) k.among)
          go false other = record {
            group = k.group;
            start = k.start;
            home = home_did settings e events (Spawn n g) ∙ k.home;
            last = start_more k.group events (said (Spawn n g)) ∙ (ap (λ b. if b then Some n else start_of k.group events) other ∙ k.last);
            among = subst (λ (f : Forwarding). OneOf (IsOf e id) f.open_requests) (sym (forwarding_more settings k.start events (said (Spawn n g)))) k.among;
          }

      moved : (id : Id) → TakenAt settings events e id → TakenAt settings (events ++ said (Spawn n g) ∷ []) e id
      moved id (inl k) = inl (still id k)
      moved id (inr k) = inr (waits_quiet settings e id events (said (Spawn n g)) refl (home_did settings e events (Spawn n g)) k)

  pub open_closed : (events : List Event) → OpenAt (events ++ said (CloseEditor e) ∷ [])
  open_closed events = open_at events (said (CloseEditor e)) (go (nat_eq e e) (same_number e))
    where
      go : (b : Bool) → b ≡ true → OpenDesk (S (events ++ said (CloseEditor e) ∷ [])) (if b then shut events else desk_of e events) (open_of e events)
      go true same = if_closed (S (events ++ said (CloseEditor e) ∷ [])) (desk_of e events).phase (desk_of e events).initialize (open_of e events)
      go false same = never (sym same)

  module _ (before : List Event) (cause : Cause) (stays : turned_away settings before cause e ≡ false) where
    -- a body to it, for its reason
    told_by : (T : Id → Type 0) (events : List Event) (body : List ℕ) → WhyToEditor settings before cause events e body → OpenIf T (desk_of e events).phase (desk_of e events).initialize (open_of e events)
        → OpenIf T (phase_told (desk_of e events).phase (desk_of e events).initialize (message_of body)) (desk_of e events).initialize (without (answered_id (message_of body)) (open_of e events))
    told_by T events body (rejects k) h = subst (λ m. OpenIf T (phase_told (desk_of e events).phase (desk_of e events).initialize m) (desk_of e events).initialize (without (answered_id m) (open_of e events))) (sym k.says)
        (if_null T (desk_of e events).phase (desk_of e events).initialize (open_of e events) k.x h)
    told_by T events body (refuses k) h = subst (λ m. OpenIf T (phase_told (desk_of e events).phase (desk_of e events).initialize m) (desk_of e events).initialize (without (answered_id m) (open_of e events))) (sym k.says)
        (if_refused T (desk_of e events).phase (desk_of e events).initialize (open_of e events) k.id k.x k.others h)
    told_by T events body (answers k) h = subst (λ m. OpenIf T (phase_told (desk_of e events).phase (desk_of e events).initialize m) (desk_of e events).initialize (without (answered_id m) (open_of e events))) (sym k.says)
        (if_replied T (desk_of e events).phase (desk_of e events).initialize (open_of e events) k.id k.r (λ at. beside_other events e k.id (k.others at)) h)
    told_by T events body (turns_away k) h = never (sym k.turned ∙ stays)
    told_by T events body (welcomes k) h = subst (λ m. OpenIf T (phase_told (desk_of e events).phase (desk_of e events).initialize m) (desk_of e events).initialize (without (answered_id m) (open_of e events))) (sym k.says)
        (if_welcomed T (desk_of e events).phase (desk_of e events).initialize (open_of e events) k.id (k.waiting).params k.r (k.waiting).phase (k.waiting).asks h)
    told_by T events body (passes k) h = if_passed T (desk_of e events).phase (desk_of e events).initialize (open_of e events) (message_of body) k.late h
    told_by T events body (asks k) h = if_passed T (desk_of e events).phase (desk_of e events).initialize (open_of e events) (message_of body) (ap is_early (k.source).running) h
    told_by T events body (resumes k) h = if_passed T (desk_of e events).phase (desk_of e events).initialize (open_of e events) (message_of body) (ap is_early k.running) h
    told_by T events body (pays k) h = if_passed T (desk_of e events).phase (desk_of e events).initialize (open_of e events) (message_of body) (ap is_early k.running) h
    told_by T events body (calls k) h = if_passed T (desk_of e events).phase (desk_of e events).initialize (open_of e events) (message_of body) (ap is_early k.running) h
    told_by T events body (spreads k) h = if_passed T (desk_of e events).phase (desk_of e events).initialize (open_of e events) (message_of body) (ap is_early (k.source).running) h
    told_by T events body (shows k) h = if_passed T (desk_of e events).phase (desk_of e events).initialize (open_of e events) (message_of body) (ap is_early k.running) h
    told_by T events body (recalls k) h = if_passed T (desk_of e events).phase (desk_of e events).initialize (open_of e events) (message_of body) (ap is_early (k.source).running) h
    told_by T events body (winds_up k) h = if_passed T (desk_of e events).phase (desk_of e events).initialize (open_of e events) (message_of body) (ap is_early k.running) h
    told_by T events body (loses k) h = if_passed T (desk_of e events).phase (desk_of e events).initialize (open_of e events) (message_of body) k.late h
    told_by T events body (progresses k) h = if_passed T (desk_of e events).phase (desk_of e events).initialize (open_of e events) (message_of body) (listens_late (desk_of e events).phase k.hears) h

    pick_told : (T : Id → Type 0) (events : List Event) (n : ℕ) (body : List ℕ) → WhyToEditor settings before cause events n body → OpenIf T (desk_of e events).phase (desk_of e events).initialize (open_of e events)
        → OpenIf T (desk_behind e (desk_of e events) (said (ToEditor n body))).phase (desk_behind e (desk_of e events) (said (ToEditor n body))).initialize (open_behind e (open_of e events) (said (ToEditor n body)))
    pick_told T events n body why h = go (nat_eq n e) (λ same. told_by T events body (subst (λ z. WhyToEditor settings before cause events z body) (number_same n e same) why) h)
      where
        go : (b : Bool) → (b ≡ true → OpenDesk T (told events body) (without (answered_id (message_of body)) (open_of e events)))
            → OpenDesk T (if b then told events body else desk_of e events) (if b then without (answered_id (message_of body)) (open_of e events) else open_of e events)
        go true f = f refl
        go false f = h

    pick_closed : (T : Id → Type 0) (events : List Event) (n : ℕ) → (nat_eq n e ≡ false → OpenIf T (desk_of e events).phase (desk_of e events).initialize (open_of e events))
        → OpenIf T (desk_behind e (desk_of e events) (said (CloseEditor n))).phase (desk_behind e (desk_of e events) (said (CloseEditor n))).initialize (open_of e events)
    pick_closed T events n h = go (nat_eq n e) h
      where
        go : (b : Bool) → (b ≡ false → OpenDesk T (desk_of e events) (open_of e events)) → OpenDesk T (if b then shut events else desk_of e events) (open_of e events)
        go true f = if_closed T (desk_of e events).phase (desk_of e events).initialize (open_of e events)
        go false f = f refl

    told_on : (events : List Event) (n : ℕ) (body : List ℕ) → WhyToEditor settings before cause events n body → OpenAt events → OpenAt (events ++ said (ToEditor n body) ∷ [])
    told_on events n body why h = open_at events (said (ToEditor n body)) (if_other (S events) (S (events ++ said (ToEditor n body) ∷ []))
        (desk_behind e (desk_of e events) (said (ToEditor n body))).phase (desk_behind e (desk_of e events) (said (ToEditor n body))).initialize (open_behind e (open_of e events) (said (ToEditor n body)))
        (λ served id is. or_later events (events ++ said (ToEditor n body) ∷ []) id (taken_told settings e id events n body (away events n body id is))) (pick_told (S events) events n body why h))

    open_did : AllLast before → (events : List Event) (out : Out) → Why settings before cause events out → NoSpawn out → OpenAt events → OpenAt (events ++ said out ∷ [])
    open_did lasts events (ToEditor n body) why calm h = told_on events n body why h
    open_did lasts events (ToServer s body) why calm h = open_at events (said (ToServer s body)) (open_still events (events ++ said (ToServer s body) ∷ []) (λ id. taken_by settings e id before cause lasts events s body why) h)
    open_did lasts events (CloseEditor n) why calm h = open_at events (said (CloseEditor n)) (pick_closed (S (events ++ said (CloseEditor n) ∷ [])) events n (λ other. open_still events (events ++ said (CloseEditor n) ∷ []) (λ id. taken_closed settings e id events n other) h))
    open_did lasts events (EndServer s) why calm h = open_at events (said (EndServer s)) (open_still events (events ++ said (EndServer s) ∷ []) (λ id. taken_ended settings e id events s) h)
    open_did lasts events (Spawn s g) why calm h = absurd calm

    abbrev R : List Event → Out → Type 0
    R places out = Why settings before cause places out

    abbrev now : List Event
    now = with_cause before cause

    abbrev N : ℕ
    N = length (groups_of settings before)

    pub open_outs : AllLast before → (events : List Event) (xs : List Out) → Reasons R events xs → AllByRecursion NoSpawn xs → OpenAt events → OpenAt (behind events xs)
    open_outs lasts events [] why calm h = subst OpenAt (sym (append-nil events)) h
    open_outs lasts events (x ∷ xs) why calm h = subst OpenAt (append_assoc events (said x ∷ []) (map said xs)) (open_outs lasts (events ++ said x ∷ []) xs why.1 calm.1 (open_did lasts events x why.0 calm.0 h))

    -- all outs of an entry
    pub open_entry : InRange settings → Facts settings before → Begun settings before → fits_behind before cause ≡ true → AllLast before → OpenAt (with_cause before cause) → OpenAt (behind (with_cause before cause) (outs_of settings before cause))
    open_entry range facts begun fits lasts h = go (founding_of settings before cause) (reasons settings range before facts cause).why
      where
        last : (xs : List Out) (s : ℕ) → AllByRecursion NoSpawn xs → Reasons R now (xs ++ Spawn s N ∷ []) → OpenAt (behind now (xs ++ Spawn s N ∷ []))
        last xs s calm why = subst OpenAt (sym (behind_both now xs (Spawn s N ∷ [])))
            (open_spawned (behind now xs) s N (starts_stay N now xs calm ∙ start_took N before cause ∙ (begun N).1 (omega arith)) (open_outs lasts now xs (reasons_left R now xs (Spawn s N ∷ []) why) calm h))

        -- bodies to editors leave alone what a start has to answer
        unsent : (events : List Event) (xs : List Out) (s : ℕ) → AllByRecursion IsTold xs → forwarding_of settings s (behind events xs) ≡ forwarding_of settings s events
        unsent events [] s all = ap (forwarding_of settings s) (append-nil events)
        unsent events (ToEditor n body ∷ xs) s all = ap (forwarding_of settings s) (sym (append_assoc events (said (ToEditor n body) ∷ []) (map said xs))) ∙ (unsent (events ++ said (ToEditor n body) ∷ []) xs s all.1 ∙ forwarding_more settings s events (said (ToEditor n body)))
        unsent events (ToServer n body ∷ xs) s all = absurd all.0
        unsent events (Spawn n g ∷ xs) s all = absurd all.0
        unsent events (CloseEditor n ∷ xs) s all = absurd all.0
        unsent events (EndServer n ∷ xs) s all = absurd all.0

        over_now : (c : Cause) (s : ℕ) → is_exit c s ≡ true → (forwarding_of settings s (with_cause before c)).open_requests ≡ []
        over_now (StartFailed n) s is = ap (λ (x : Forwarding). x.open_requests) (forwarding_more settings s before (heard (StartFailed n))) ∙ ap (λ b. (if b then no_forwarding else record { sender = None; next = (forwarding_of settings s before).next; open_requests = (forwarding_of settings s before).open_requests }).open_requests) is
        over_now (ServerGone n) s is = ap (λ (x : Forwarding). x.open_requests) (forwarding_more settings s before (heard (ServerGone n))) ∙ ap (λ b. (if b then no_forwarding else record { sender = None; next = (forwarding_of settings s before).next; open_requests = (forwarding_of settings s before).open_requests }).open_requests) is
        over_now (Joined n) s is = never (sym is)
        over_now (FromEditor n body) s is = never (sym is)
        over_now (EditorGone n why) s is = never (sym is)
        over_now (Started n) s is = never (sym is)
        over_now (FromServer n body) s is = never (sym is)
        over_now (Drained n k) s is = never (sym is)
        over_now (Tick t) s is = never (sym is)

        again : (xs : List Out) (s g : ℕ) → AllByRecursion IsTold xs → is_exit cause s ≡ true → group_of s before ≡ Some g → Reasons R now (xs ++ Spawn (starts_of before) g ∷ []) → OpenAt (behind now (xs ++ Spawn (starts_of before) g ∷ []))
        again xs s g told is home why = subst OpenAt (sym (behind_both now xs (Spawn (starts_of before) g ∷ [])))
            (open_renewed (behind now xs) (starts_of before) g s (starts_stay g now xs (told_quiet xs told) ∙ (start_took g before cause ∙ lasts s g home (alive_exit before cause s is fits)))
            (ap (λ (x : Forwarding). x.open_requests) (unsent now xs s told) ∙ over_now cause s is)
            (open_outs lasts now xs (reasons_left R now xs (Spawn (starts_of before) g ∷ []) why) (told_quiet xs told) h))

        go : Founding settings before cause → Reasons R now (outs_of settings before cause) → OpenAt (behind now (outs_of settings before cause))
        go (quiet calm same) why = open_outs lasts now (outs_of settings before cause) why calm h
        go (founds xs s calm sent more live) why = subst (λ z. OpenAt (behind now z)) (sym sent) (last xs s calm (subst (Reasons R now) sent why))
        go (renews xs s g told sent same is home live) why = subst (λ z. OpenAt (behind now z)) (sym sent) (again xs s g told is home (subst (Reasons R now) sent why))
