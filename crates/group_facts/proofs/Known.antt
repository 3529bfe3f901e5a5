-- The facts are kept by every cause and every out, and so hold of every legal history.
use Rattle.std.proofs.Common.{◌≡◌, ℕ, true, false, List, [], ◌∷◌, ◌++◌, IsTrue, nat_eq, refl, sym, ◌∙◌, ap, subst, append_assoc, append-nil, arith, length, ◌<◌}
use Rattle.mux_history.specs.declared.cause.Cause.{Cause}
use Rattle.mux_history.specs.declared.cause.Cause.TheVariants.{Joined}
use Rattle.mux_history.specs.declared.entry.Entry.{Entry}
use Rattle.mux_history.specs.declared.out.Out.{Out}
use Rattle.mux_history.specs.declared.out.Out.TheVariants.{ToEditor, ToServer, Spawn, CloseEditor, EndServer}
use Rattle.event_model.specs.declared.stage.Stage.TheVariants.{Unspawned, Spawning, Initializing, Stopping}
use Rattle.event_model.specs.Event.{Event, heard, said, behind, with_cause, events_of}
use Rattle.event_model.specs.Phases.{Desk, desk_of, is_there, phase_closed}
use Rattle.event_model.specs.Requests.{next_number}
use Rattle.event_model.specs.Settings.{Settings}
use Rattle.event_model.specs.Spawns.{starts_of}
use Rattle.event_model.specs.Stages.{Life, life_of, no_life, stage_ending}
use Rattle.event_model.proofs.Frames.{never}
use Rattle.mux_model.specs.Documents.{Sent, held_at}
use Rattle.mux_model.specs.Fits.{fits_behind}
use Rattle.mux_facts.specs.Ranges.{InRange}
use Rattle.mux_facts.proofs.Editors as editors
use Rattle.mux_facts.proofs.FactLaws.{editors_took, starts_spawn, starts_took, there_not}
use Rattle.mux_facts.proofs.Folds.{number_more}
use Rattle.mux_facts.proofs.Keeps.{events_more}
use Rattle.mux_facts.proofs.Known.{is_unbegun}
use Rattle.mux_facts.proofs.Reasons.{reasons_keep}
use Rattle.mux_facts.proofs.Rules.{unless}
use Rattle.mux_facts.proofs.Starts as starts
use Rattle.mux_facts.proofs.Tellings.{sent_more}
use Rattle.mux_facts.proofs.Words.{number_same}
use Rattle.group_words.specs.Houses.{groups_of}
use Rattle.group_rows.specs.Forwarded.{Forwarding, forwarding_of}
use Rattle.group_rows.specs.Rows.{outs_of}
use Rattle.group_facts.specs.SlowRows.{entry_outs, is_slow}
use Rattle.group_rows.specs.StopRows.{stopped as is_stopped}
use Rattle.group_rows.proofs.Versions.{meant_heard, meant_more, meant_said}
use Rattle.group_facts.specs.Legal.{Legal, LegalFrom}
use Rattle.group_facts.proofs.Apart.{apart_fewer, apart_said, apart_sent, fewer_took}
use Rattle.group_facts.proofs.Asks.{asks_closed, asks_ended, asks_sent, asks_spawned, asks_told, asks_took, no_asks}
use Rattle.group_facts.proofs.Askers.{asked_said, asked_sent, asked_told, asked_took}
use Rattle.group_facts.specs.Facts.{Quit, is_unready, is_up}
use Rattle.group_facts.proofs.Facts.{Base, Facts, Mid, OthersTied, Steady}
use Rattle.group_rows.proofs.Frames.{forwarding_more}
use Rattle.group_facts.proofs.Held.{held_closed_all, held_ended_all, held_spawned_all, held_told_all}
use Rattle.group_facts.proofs.HeldOn.{held_sent_all, held_took}
use Rattle.group_facts.proofs.Housed.{housed_did, housed_spawn, housed_took}
use Rattle.group_facts.proofs.Levels.{Fresh, unbegun_falls, unready_falls, up_falls}
use Rattle.group_facts.proofs.Numbers.{bounded_said, bounded_sent, bounded_took, spawn_fresh, unbegun_said, unbegun_sent, unbegun_took, untold_said, untold_sent, untold_took}
use Rattle.group_facts.proofs.Numbered.{ending_tied, tied_life, tied_rests, tied_said, tied_sent, tied_took}
use Rattle.group_facts.proofs.Opened.{opened_did, opened_none, opened_took}
use Rattle.group_facts.proofs.Quits.{not_stopped, stopped_back}
use Rattle.group_facts.proofs.Results.{results_did, results_none, results_took}
use Rattle.group_facts.proofs.SlowRow.{parting, parting_why, quit_turns_none, slow_there, whole_entry}
use Rattle.group_facts.proofs.StopEntry.{quit_rests, stopped_outs}
use Rattle.group_facts.proofs.Table.{reasons}
use Rattle.group_facts.proofs.Takes.{no_takes, takes_closed, takes_ended, takes_sent, takes_spawned, takes_told, takes_took}
use Rattle.group_facts.proofs.Waiting.{waiting_closed, waiting_rests, waiting_said, waiting_told, waiting_took}
use Rattle.group_facts.specs.Why.{Why, WhyEnd, WhyToEditor, is_starting, quitting, refused, starting, stopped}
use Rattle.group_facts.proofs.Written.{written_did, written_took}

module _ (settings : Settings) where
  -- What the events before tell

  base_took : (events : List Event) (cause : Cause) → Base settings events → Base settings (with_cause events cause)
  base_took events cause h = record { opened = opened_took settings events cause h.opened; results = results_took events cause h.results; written = written_took settings events cause h.written; meant = meant_more events (heard cause) h.meant (meant_heard cause) }

  -- a program that is to be ended was spawned
  begun_end : (events : List Event) (n : ℕ) → WhyEnd settings events n → (life_of n events).stage ≡ Unspawned → ⊥
  begun_end events n (starting early dying) at = never (sym early ∙ ap is_starting at)
  begun_end events n (refused early left) at = let clash : Initializing ≡ Unspawned = sym early ∙ at in cc
  begun_end events n (stopped stopping) at = let clash : Stopping ≡ Unspawned = sym stopping ∙ at in cc

  base_did : (events : List Event) (out : Out) → Base settings events → Base settings (events ++ said out ∷ [])
  base_did events out h = record { opened = opened_did settings events out h.opened; results = results_did events out h.results; written = written_did settings events out h.written; meant = meant_more events (said out) h.meant (meant_said out) }

  -- At a cause

  steady_took : (events : List Event) (cause : Cause) → fits_behind events cause ≡ true → Quit events → Steady settings events → Steady settings (with_cause events cause)
  steady_took events cause fits quit h = record {
    starts = starts_took events cause fits h.starts;
    unbegun = unbegun_took settings events cause (unbegun_fresh cause) h.unbegun;
    untold = untold_took settings events cause (untold_fresh cause) h.untold;
    bounded = bounded_took settings events cause (up_fresh cause) h.bounded;
    editors = editors_took events cause fits h.editors;
    asked = λ on. asked_took settings events cause fits h.editors (h.asked (stopped_back events (heard cause) on));
    apart = apart_fewer settings events (with_cause events cause) (fewer_took settings events cause) h.apart;
    held = held_took settings events cause fits h.editors quit h.asked h.held;
    asks = asks_took settings events cause h.asks;
    takes = takes_took settings events h.takes cause;
    housed = housed_took settings events cause h.housed;
  }
    where
      unbegun_fresh : (cause : Cause) (s : ℕ) → Fresh is_unbegun unbegun_falls s (life_of s events) (heard cause)
      unbegun_fresh (Joined e) s = tt
      unbegun_fresh other s = tt

      untold_fresh : (cause : Cause) (s : ℕ) → Fresh is_unready unready_falls s (life_of s events) (heard cause)
      untold_fresh (Joined e) s = tt
      untold_fresh other s = tt

      up_fresh : (cause : Cause) (s : ℕ) → Fresh is_up up_falls s (life_of s events) (heard cause)
      up_fresh (Joined e) s = tt
      up_fresh other s = tt

  -- At an out

  module _ (range : InRange settings) (before : List Event) (cause : Cause) (facts : Facts settings before) (events : List Event) where
    to_editor : (n : ℕ) (body : List ℕ) → WhyToEditor settings before cause events n body → Steady settings events → Steady settings (events ++ said (ToEditor n body) ∷ [])
    to_editor n body why h = record {
      starts = starts.more events (said (ToEditor n body)) h.starts refl (λ s none. refl);
      unbegun = unbegun_said settings events (ToEditor n body) a f d (λ s. tt) h.unbegun;
      untold = untold_said settings events (ToEditor n body) a f d (λ s. tt) h.untold;
      bounded = bounded_said settings events (ToEditor n body) a f d (λ s. tt) h.bounded;
      editors = editors.to_editor events n body h.editors;
      asked = λ on. let off : is_stopped events ≡ false = stopped_back events (said (ToEditor n body)) on in asked_told settings before cause events n body why off (h.asked off);
      apart = apart_said settings events (ToEditor n body) (λ s. refl) h.apart;
      held = held_told_all settings events n body h.held;
      asks = asks_told settings events n body before cause why h.asks;
      takes = takes_told settings events h.takes n body before cause why;
      housed = housed_did settings events (ToEditor n body) refl (λ s. refl) h.housed;
    }
      where
        a : (s : ℕ) → next_number s (events ++ said (ToEditor n body) ∷ []) ≡ next_number s events
        a s = (number_more s events (said (ToEditor n body)))

        f : (s : ℕ) → (forwarding_of settings s (events ++ said (ToEditor n body) ∷ [])).next ≡ (forwarding_of settings s events).next
        f s = ap (λ (x : Forwarding). x.next) (forwarding_more settings s events (said (ToEditor n body)))

        d : (s : ℕ) (u : List ℕ) → held_at s u (events ++ said (ToEditor n body) ∷ []) ≡ held_at s u events
        d s u = ap (λ (x : Sent). x.held) (sent_more s u events (said (ToEditor n body)))

    spawns : (g : ℕ) → g < length (groups_of settings events) → Steady settings events → Steady settings (events ++ said (Spawn (starts_of events) g) ∷ [])
    spawns g inside h = record {
      starts = starts_spawn events g h.starts;
      unbegun = unbegun_said settings events (Spawn (starts_of events) g) a f d (λ s. spawn_fresh is_unbegun refl events h.starts s) h.unbegun;
      untold = untold_said settings events (Spawn (starts_of events) g) a f d (λ s. spawn_fresh is_unready refl events h.starts s) h.untold;
      bounded = bounded_said settings events (Spawn (starts_of events) g) a f d (λ s. spawn_fresh is_up refl events h.starts s) h.bounded;
      editors = editors.more events (said (Spawn (starts_of events) g)) h.editors refl (λ e absent. absent);
      asked = λ on. asked_said settings events (Spawn (starts_of events) g) (λ s. refl) (λ e. refl) (h.asked (stopped_back events (said (Spawn (starts_of events) g)) on));
      apart = apart_said settings events (Spawn (starts_of events) g) (λ s. refl) h.apart;
      held = held_spawned_all settings events (starts_of events) g h.held;
      asks = asks_spawned settings events (starts_of events) g h.asks;
      takes = takes_spawned settings events h.takes (starts_of events) g;
      housed = housed_spawn settings events g inside h.housed;
    }
      where
        a : (s : ℕ) → next_number s (events ++ said (Spawn (starts_of events) g) ∷ []) ≡ next_number s events
        a s = (number_more s events (said (Spawn (starts_of events) g)))

        f : (s : ℕ) → (forwarding_of settings s (events ++ said (Spawn (starts_of events) g) ∷ [])).next ≡ (forwarding_of settings s events).next
        f s = ap (λ (x : Forwarding). x.next) (forwarding_more settings s events (said (Spawn (starts_of events) g)))

        d : (s : ℕ) (u : List ℕ) → held_at s u (events ++ said (Spawn (starts_of events) g) ∷ []) ≡ held_at s u events
        d s u = ap (λ (x : Sent). x.held) (sent_more s u events (said (Spawn (starts_of events) g)))

    closes : (n : ℕ) → is_there (desk_of n events).phase ≡ true → Steady settings events → Steady settings (events ++ said (CloseEditor n) ∷ [])
    closes n there h = record {
      starts = starts.more events (said (CloseEditor n)) h.starts refl (λ s none. refl);
      unbegun = unbegun_said settings events (CloseEditor n) a f d (λ s. tt) h.unbegun;
      untold = untold_said settings events (CloseEditor n) a f d (λ s. tt) h.untold;
      bounded = bounded_said settings events (CloseEditor n) a f d (λ s. tt) h.bounded;
      editors = editors.more events (said (CloseEditor n)) h.editors refl (λ e absent. ap (λ (x : Desk). x.phase) (unless (nat_eq n e) (record { phase = phase_closed (desk_of e events).phase; initialize = (desk_of e events).initialize }) (desk_of e events)
          (λ same. there_not events n e absent same there)) ∙ absent);
      asked = λ on. asked_said settings events (CloseEditor n) (λ s. refl) (λ e. refl) (h.asked (stopped_back events (said (CloseEditor n)) on));
      apart = apart_said settings events (CloseEditor n) (λ s. refl) h.apart;
      held = held_closed_all settings events n h.held;
      asks = asks_closed settings events n h.asks;
      takes = takes_closed settings events h.takes n;
      housed = housed_did settings events (CloseEditor n) refl (λ s. refl) h.housed;
    }
      where
        a : (s : ℕ) → next_number s (events ++ said (CloseEditor n) ∷ []) ≡ next_number s events
        a s = (number_more s events (said (CloseEditor n)))

        f : (s : ℕ) → (forwarding_of settings s (events ++ said (CloseEditor n) ∷ [])).next ≡ (forwarding_of settings s events).next
        f s = ap (λ (x : Forwarding). x.next) (forwarding_more settings s events (said (CloseEditor n)))

        d : (s : ℕ) (u : List ℕ) → held_at s u (events ++ said (CloseEditor n) ∷ []) ≡ held_at s u events
        d s u = ap (λ (x : Sent). x.held) (sent_more s u events (said (CloseEditor n)))

    ends : (n : ℕ) → WhyEnd settings events n → Steady settings events → Steady settings (events ++ said (EndServer n) ∷ [])
    ends n why h = record {
      starts = starts.more events (said (EndServer n)) h.starts refl (λ s none. unless (nat_eq n s) (record { stage = stage_ending Unspawned; started = false }) no_life
          (λ same. absurd (begun_end events n why (ap (λ (l : Life). l.stage) (ap (λ k. life_of k events) (number_same n s same) ∙ none)))));
      unbegun = unbegun_said settings events (EndServer n) a f d (λ s. tt) h.unbegun;
      untold = untold_said settings events (EndServer n) a f d (λ s. tt) h.untold;
      bounded = bounded_said settings events (EndServer n) a f d (λ s. tt) h.bounded;
      editors = editors.more events (said (EndServer n)) h.editors refl (λ e absent. absent);
      asked = λ on. asked_said settings events (EndServer n) (λ s. refl) (λ e. refl) (h.asked (stopped_back events (said (EndServer n)) on));
      apart = apart_said settings events (EndServer n) (λ s. refl) h.apart;
      held = held_ended_all settings events n h.held;
      asks = asks_ended settings events n h.asks;
      takes = takes_ended settings events h.takes n;
      housed = housed_did settings events (EndServer n) refl (λ s. refl) h.housed;
    }
      where
        a : (s : ℕ) → next_number s (events ++ said (EndServer n) ∷ []) ≡ next_number s events
        a s = (number_more s events (said (EndServer n)))

        f : (s : ℕ) → (forwarding_of settings s (events ++ said (EndServer n) ∷ [])).next ≡ (forwarding_of settings s events).next
        f s = ap (λ (x : Forwarding). x.next) (forwarding_more settings s events (said (EndServer n)))

        d : (s : ℕ) (u : List ℕ) → held_at s u (events ++ said (EndServer n) ∷ []) ≡ held_at s u events
        d s u = ap (λ (x : Sent). x.held) (sent_more s u events (said (EndServer n)))

    tied_told : (n : ℕ) (body : List ℕ) → OthersTied settings cause events → OthersTied settings cause (events ++ said (ToEditor n body) ∷ [])
    tied_told n body h = tied_said settings cause events (ToEditor n body) (λ s. (number_more s events (said (ToEditor n body)))) (λ s. ap (λ (x : Forwarding). x.next) (forwarding_more settings s events (said (ToEditor n body)))) (λ s a f k. k) h

    tied_closed : (n : ℕ) → OthersTied settings cause events → OthersTied settings cause (events ++ said (CloseEditor n) ∷ [])
    tied_closed n h = tied_said settings cause events (CloseEditor n) (λ s. (number_more s events (said (CloseEditor n)))) (λ s. ap (λ (x : Forwarding). x.next) (forwarding_more settings s events (said (CloseEditor n)))) (λ s a f k. k) h

    tied_spawned : (g : ℕ) → OthersTied settings cause events → OthersTied settings cause (events ++ said (Spawn (starts_of events) g) ∷ [])
    tied_spawned g h = tied_said settings cause events (Spawn (starts_of events) g) (λ s. (number_more s events (said (Spawn (starts_of events) g)))) (λ s. ap (λ (x : Forwarding). x.next) (forwarding_more settings s events (said (Spawn (starts_of events) g)))) (λ s a f k. tied_life (nat_eq (starts_of events) s) (record { stage = Spawning; started = false }) (life_of s events) a f (λ b c. tt) k) h

    tied_ended : (n : ℕ) → OthersTied settings cause events → OthersTied settings cause (events ++ said (EndServer n) ∷ [])
    tied_ended n h = tied_said settings cause events (EndServer n) (λ s. (number_more s events (said (EndServer n)))) (λ s. ap (λ (x : Forwarding). x.next) (forwarding_more settings s events (said (EndServer n)))) (λ s a f k. tied_life (nat_eq n s) (record { stage = stage_ending (life_of s events).stage; started = (life_of s events).started }) (life_of s events) a f (ending_tied (life_of s events).stage) k) h

    pub mid_did : (out : Out) → Why settings before cause events out → Mid settings before cause events → Mid settings before cause (events ++ said out ∷ [])
    mid_did (ToEditor n body) why h = record { steady = to_editor n body why h.steady; tied = tied_told n body h.tied; waiting = waiting_told settings before cause events n body why h.waiting }
    mid_did (ToServer n body) why h = record {
      steady = record {
        starts = starts.sent events n body (h.steady).starts;
        unbegun = unbegun_sent settings before cause facts events n body why (h.steady).unbegun;
        untold = untold_sent settings before cause facts events n body why (h.steady).untold;
        bounded = bounded_sent settings before cause facts events n body why (h.steady).bounded;
        editors = editors.to_server events n body (h.steady).editors;
        asked = λ on. asked_sent settings before cause events n body why ((h.steady).asked (stopped_back events (said (ToServer n body)) on));
        apart = apart_sent settings before cause events n body why (h.steady).apart;
        held = held_sent_all settings before cause events n body why (h.steady).held;
        asks = asks_sent settings events n body (h.steady).asks;
        takes = takes_sent settings events (h.steady).takes n body;
        housed = housed_did settings events (ToServer n body) refl (λ s. refl) (h.steady).housed;
      };
      tied = tied_sent settings cause events n body before why h.tied;
      waiting = waiting_said settings before cause events (ToServer n body) (λ e k. k) h.waiting;
    }
    mid_did (Spawn n g) why h = subst (λ z. Mid settings before cause (events ++ said (Spawn z g) ∷ [])) (sym why.0)
        (record { steady = spawns g why.1 h.steady; tied = tied_spawned g h.tied; waiting = waiting_said settings before cause events (Spawn (starts_of events) g) (λ e k. k) h.waiting })
    mid_did (CloseEditor n) why h = record { steady = closes n why.1 h.steady; tied = tied_closed n h.tied; waiting = waiting_said settings before cause events (CloseEditor n) (λ e k. waiting_closed events n e k) h.waiting }
    mid_did (EndServer n) why h = record { steady = ends n why h.steady; tied = tied_ended n h.tied; waiting = waiting_said settings before cause events (EndServer n) (λ e k. k) h.waiting }

  -- A whole entry, and so a history

  -- at each place of an entry, with what the events before tell
  pub record Here (before : List Event) (cause : Cause) (events : List Event) : Type 0 where
    pub base : Base settings events
    pub mid : Mid settings before cause events

  module _ (range : InRange settings) where
    pub here_took : (before : List Event) (cause : Cause) → fits_behind before cause ≡ true → Facts settings before → Here before cause (with_cause before cause)
    here_took before cause fits h = record {
      base = base_took before cause h.base;
      mid = record { steady = steady_took before cause fits h.quit h.steady; tied = tied_took settings before cause h.tied; waiting = waiting_took settings before cause h.waiting };
    }

    pub here_did : (before : List Event) (cause : Cause) → Facts settings before → (events : List Event) (out : Out) → Why settings before cause events out → Here before cause events → Here before cause (events ++ said out ∷ [])
    here_did before cause facts events out why h = record { base = base_did events out h.base; mid = mid_did range before cause facts events out why h.mid }

    pub entry_keeps : (before : List Event) (cause : Cause) → fits_behind before cause ≡ true → Facts settings before → Facts settings (behind (with_cause before cause) (outs_of settings before cause))
    entry_keeps before cause fits h =
        let last : Here before cause (behind (with_cause before cause) (outs_of settings before cause)) = reasons_keep (λ events out. Why settings before cause events out) (Here before cause) (here_did before cause h)
        (with_cause before cause) (outs_of settings before cause) (reasons settings range before h cause).why (here_took before cause fits h) in
        record { base = last.base; steady = (last.mid).steady; tied = tied_rests settings before cause fits (h.steady).starts (h.steady).unbegun (h.steady).housed (h.base).written (last.mid).tied; waiting = waiting_rests settings before cause (h.steady).editors (last.mid).waiting; quit = quit_rests settings before (h.steady).editors h.quit cause }

    -- an editor that is slow leaves: the facts are kept
    pub here_slow : (place : List Event) (e : ℕ) → Facts settings place → Here place (quitting e) place
    here_slow place e h = record { base = h.base; mid = record { steady = h.steady; tied = λ s other. h.tied s; waiting = λ n stays. h.waiting n } }

    pub slow_keeps_facts : (place : List Event) (e : ℕ) → is_slow settings e place ≡ true → Facts settings place → Facts settings (behind place (parting settings place e))
    slow_keeps_facts place e slow h =
        let last : Here place (quitting e) (behind place (parting settings place e)) = reasons_keep (Why settings place (quitting e)) (Here place (quitting e)) (here_did place (quitting e) h)
        place (parting settings place e) (parting_why settings range place h e slow) (here_slow place e h) in
        record { base = last.base; steady = (last.mid).steady; tied = λ s. (last.mid).tied s refl; waiting = λ n. (last.mid).waiting n (quit_turns_none settings place e n); quit = λ over. never (sym over ∙ (stopped_outs place (parting settings place e) ∙ not_stopped place h.quit e (slow_there settings e place slow))) }

    -- all outs of an entry
    pub whole_keeps : (before : List Event) (cause : Cause) → fits_behind before cause ≡ true → Facts settings before → Facts settings (behind (with_cause before cause) (entry_outs settings before cause))
    whole_keeps before cause fits h = whole_entry settings (Facts settings) slow_keeps_facts before cause (entry_keeps before cause fits h)

    pub no_facts : Facts settings []
    no_facts = record {
      base = record { opened = opened_none settings; results = results_none; written = tt; meant = tt };
      steady = record { starts = λ s le. refl; unbegun = λ s un. (refl, refl); untold = λ s un u. refl; bounded = λ s up. (omega arith, omega arith); editors = λ e le. refl; asked = λ on s. tt; apart = λ s. tt; held = λ g. record { each = tt; apart = tt }; asks = no_asks settings; takes = no_takes settings; housed = λ s below. absurd (omega (arith, below)) };
      tied = λ s. tt;
      waiting = λ e. tt;
      quit = λ over. absurd (cc);
    }

    pub one_entry : (before : List Entry) (entry : Entry) → IsTrue (fits_behind (events_of before) entry.cause) → entry.outs ≡ entry_outs settings (events_of before) entry.cause → Facts settings (events_of before) → Facts settings (events_of (before ++ entry ∷ []))
    one_entry before entry fits outs h = subst (Facts settings) (sym (events_more before entry)) (subst (λ z. Facts settings (behind (with_cause (events_of before) entry.cause) z)) (sym outs)
        (whole_keeps (events_of before) entry.cause fits h))

    from_here : (before rest : List Entry) → LegalFrom settings before rest → Facts settings (events_of before) → Facts settings (events_of (before ++ rest))
    from_here before [] legal h = subst (λ z. Facts settings (events_of z)) (sym (append-nil before)) h
    from_here before (entry ∷ rest) legal h = subst (λ z. Facts settings (events_of z)) (append_assoc before (entry ∷ []) rest)
        (from_here (before ++ entry ∷ []) rest legal.2 (one_entry before entry legal.0 legal.1 h))

    -- the facts hold of every legal history
    pub facts_hold : (history : List Entry) → Legal settings history → Facts settings (events_of history)
    facts_hold history legal = from_here [] history legal no_facts
