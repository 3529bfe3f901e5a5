-- What is settled behind every legal history.
use Rattle.std.proofs.Common.{◌≡◌, ℕ, true, List, [], ◌∷◌, ◌++◌, map, IsTrue, ◌⊎◌, inl, inr, refl, sym, ◌∙◌, subst, arith, append-nil, append_assoc, false}
use Rattle.std.specs.List.{AllByRecursion}
use Rattle.mux_history.specs.declared.cause.Cause.{Cause}
use Rattle.mux_history.specs.declared.entry.Entry.{Entry}
use Rattle.mux_history.specs.declared.out.Out.{Out}
use Rattle.rpc_message.specs.Message.{Id}
use Rattle.event_model.specs.declared.phase.Phase.TheVariants.{Waiting}
use Rattle.event_model.specs.Event.{Event, behind, events_of, said, with_cause}
use Rattle.event_model.specs.Phases.{desk_of}
use Rattle.event_model.specs.Requests.{is_open, open_of}
use Rattle.event_model.specs.Row.{outs}
use Rattle.event_model.specs.Settings.{Settings}
use Rattle.mux_model.specs.Fits.{fits_behind}
use Rattle.mux_facts.specs.Ranges.{InRange}
use Rattle.mux_facts.proofs.Keeps.{events_more}
use Rattle.group_words.specs.declared.kept.Kept.{Kept}
use Rattle.group_words.specs.Houses.{groups_of}
use Rattle.group_words.proofs.Openings.{folders_utf8}
use Rattle.group_rows.specs.Rows.{outs_of}
use Rattle.group_facts.specs.SlowRows.{entry_outs, is_slow}
use Rattle.group_facts.specs.Legal.{Legal, LegalFrom}
use Rattle.group_facts.specs.Lively.{Lively}
use Rattle.group_facts.specs.Settled.{AreUtf8, IsOnly, IsSent, Settled, is_answered, IsKeptBack}
use Rattle.group_facts.proofs.Entries.{OpenAll, open_rests}
use Rattle.group_facts.proofs.AskEntries.{AllSeats}
use Rattle.group_facts.proofs.AskLeft.{no_seats, seats_rest}
use Rattle.group_facts.proofs.LastStarts.{AllLast, last_none, last_rests}
use Rattle.group_facts.proofs.Begun.{Begun, begun_rests}
use Rattle.group_facts.proofs.Ceased.{Spawned, spawned_behind, spawned_none, spawned_took}
use Rattle.group_facts.proofs.Downs.{AllDown, Over, down_none, down_rests, over_none, over_rests, serving}
use Rattle.group_facts.proofs.Facts.{Facts}
use Rattle.group_facts.proofs.Keeping.{Keeps, all_did, all_took}
use Rattle.group_facts.proofs.Known.{entry_keeps, no_facts, slow_keeps_facts}
use Rattle.group_facts.proofs.Lively.{lively_rests, lively_slow, no_lively}
use Rattle.group_facts.proofs.OwnEntry.{Nobody}
use Rattle.group_facts.proofs.Seated.{AllPlaced, placed_rests, seat}
use Rattle.group_facts.proofs.Sent.{sent_is}
use Rattle.group_facts.proofs.Takings.{AllTaken, Uncreated, none_taken, none_uncreated, taken_rests, uncreated_did, uncreated_rests}
use Rattle.group_facts.proofs.OpenByPhase.{IsOne, OpenIf, if_answered}
use Rattle.group_facts.proofs.OpenByOut.{S}
use Rattle.group_rows.specs.StopRows.{stopped}
use Rattle.group_facts.proofs.StopDown.{bounded_low}
use Rattle.group_facts.proofs.SlowRest.{slow_begun, slow_down, slow_lasts, slow_opens, slow_over, slow_placed, slow_seats, slow_taken}
use Rattle.group_facts.proofs.SlowRow.{parting, whole_entry}
use Rattle.group_facts.proofs.StopEntry.{before_on, stopped_outs}
use Rattle.group_facts.proofs.Taken.{TakenAt, kept_back}

-- Folders

abbrev Spelt : Kept → Type 0
Spelt x = AreUtf8 x.key.folders

abbrev AllSpelt : Settings → List Event → Type 0
AllSpelt settings events = AllByRecursion Spelt (groups_of settings events)

spelt_keeps : Keeps Spelt
spelt_keeps = record { ends = λ x h. tt; busies = λ x h. h; idles = λ now x h. h; exits = λ x h. h }

-- A whole history

module _ (settings : Settings) (range : InRange settings) where
  pub record Rests (events : List Event) : Type 0 where
    facts : Facts settings events
    spelt : AllSpelt settings events
    begun : Begun settings events
    lively : Lively settings events
    opens : OpenAll settings events
    placed : AllPlaced settings events
    pub lasts : AllLast events
    seats : stopped events ≡ false → AllSeats settings events
    uncreated : Uncreated settings events
    taken : AllTaken settings events
    spawned : Spawned events
    down : AllDown settings events
    over : Over settings events

  -- what each event keeps, an entry keeps
  entry_all : (I : List Event → Type 0) → ((events : List Event) (out : Out) → I events → I (events ++ said out ∷ [])) → (events : List Event) (outs : List Out) → I events → I (behind events outs)
  entry_all I did events [] h = subst I (sym (append-nil events)) h
  entry_all I did events (out ∷ outs) h = subst I (append_assoc events (said out ∷ []) (map said outs)) (entry_all I did (events ++ said out ∷ []) outs (did events out h))

  pub entry_rests : (before : List Event) (cause : Cause) → fits_behind before cause ≡ true → Rests before → Rests (behind (with_cause before cause) (outs_of settings before cause))
  entry_rests before cause fits h = record {
    facts = entry_keeps settings range before cause fits h.facts;
    spelt = entry_all (AllSpelt settings) (all_did Spelt spelt_keeps settings) (with_cause before cause) (outs_of settings before cause) (all_took Spelt spelt_keeps settings before cause (λ e body. folders_utf8 body) h.spelt);
    begun = begun_rests settings before cause h.begun;
    lively = lively_rests settings range before h.facts h.begun h.lively h.lasts cause fits;
    opens = open_rests settings range before h.facts h.begun h.lively h.lasts h.opens cause fits;
    placed = placed_rests settings before h.placed cause ((h.facts).steady).editors;
    lasts = last_rests settings before cause h.begun fits h.lasts;
    seats = λ on. seats_rest settings range before h.facts h.lasts (h.seats (before_on before cause (outs_of settings before cause) on)) h.begun cause fits on (lively_rests settings range before h.facts h.begun h.lively h.lasts cause fits);
    uncreated = uncreated_rests settings range before h.facts h.lasts h.begun cause fits h.uncreated h.taken;
    taken = taken_rests settings range before h.facts h.lasts h.begun cause fits h.uncreated h.taken (lively_rests settings range before h.facts h.begun h.lively h.lasts cause fits);
    spawned = spawned_behind (with_cause before cause) (outs_of settings before cause) (spawned_took before cause h.spawned);
    down = down_rests settings before (bounded_low settings range before ((h.facts).steady).bounded) h.spawned h.lively h.lasts h.down cause fits h.begun (lively_rests settings range before h.facts h.begun h.lively h.lasts cause fits);
    over = over_rests settings before (h.facts).quit h.over cause;
  }

  -- an editor that is slow leaves
  pub slow_rests : (place : List Event) (e : ℕ) → is_slow settings e place ≡ true → Rests place → Rests (behind place (parting settings place e))
  slow_rests place e slow h =
      let lively : Lively settings (behind place (parting settings place e)) = lively_slow settings range place h.facts e slow h.lively in
      record {
        facts = slow_keeps_facts settings range place e slow h.facts;
        spelt = entry_all (AllSpelt settings) (all_did Spelt spelt_keeps settings) place (parting settings place e) h.spelt;
        begun = slow_begun settings range place h.facts e slow h.begun;
        lively = lively;
        opens = slow_opens settings range place h.facts e slow h.lasts h.opens;
        placed = slow_placed settings range place h.facts e slow h.placed;
        lasts = slow_lasts settings range place h.facts e slow h.lasts;
        seats = λ on. slow_seats settings range place h.facts e slow lively h.lasts (h.seats (sym (stopped_outs place (parting settings place e)) ∙ on));
        uncreated = entry_all (Uncreated settings) (uncreated_did settings) place (parting settings place e) h.uncreated;
        taken = slow_taken settings range place h.facts e slow lively h.taken;
        spawned = spawned_behind place (parting settings place e) h.spawned;
        down = slow_down settings range place h.facts e slow h.down;
        over = slow_over settings range place h.facts e slow;
      }

  whole_rests : (before : List Event) (cause : Cause) → fits_behind before cause ≡ true → Rests before → Rests (behind (with_cause before cause) (entry_outs settings before cause))
  whole_rests before cause fits h = whole_entry settings Rests slow_rests before cause (entry_rests before cause fits h)

  pub no_rests : Rests []
  no_rests = record {
    facts = no_facts settings range;
    spelt = tt;
    begun = λ g. (λ none. omega arith, λ le. refl);
    lively = no_lively settings;
    opens = λ e. refl;
    placed = λ e needs. absurd (cc);
    lasts = last_none;
    seats = λ on. no_seats settings;
    uncreated = none_uncreated settings;
    taken = none_taken settings;
    spawned = spawned_none;
    down = down_none settings;
    over = over_none settings;
  }

  rests_more : (before : List Entry) (entry : Entry) → IsTrue (fits_behind (events_of before) entry.cause) → entry.outs ≡ entry_outs settings (events_of before) entry.cause → Rests (events_of before) → Rests (events_of (before ++ entry ∷ []))
  rests_more before entry fits sent h = subst Rests (sym (events_more before entry)) (subst (λ z. Rests (behind (with_cause (events_of before) entry.cause) z)) (sym sent) (whole_rests (events_of before) entry.cause fits h))

  from_here : (before rest : List Entry) → LegalFrom settings before rest → Rests (events_of before) → Rests (events_of (before ++ rest))
  from_here before [] legal h = subst (λ z. Rests (events_of z)) (sym (append-nil before)) h
  from_here before (entry ∷ rest) legal h = subst (λ z. Rests (events_of z)) (append_assoc before (entry ∷ []) rest) (from_here (before ++ entry ∷ []) rest legal.2 (rests_more before entry legal.0 legal.1 h))

  -- by phase

  only : (events : List Event) (e : ℕ) → OpenAll settings events → (desk_of e events).phase ≡ Waiting → IsOnly events e
  only events e h at = let k : IsOne (desk_of e events).initialize (open_of e events) = subst (λ p. OpenIf (S settings e Nobody events) p (desk_of e events).initialize (open_of e events)) at (h e) in record { id = k.id; asked = k.asked; ids = k.alone }

  sent_on : (events : List Event) (e : ℕ) (id : Id) → OpenAll settings events → is_answered (desk_of e events).phase ≡ true → is_open id (open_of e events) ≡ true → IsSent settings events e id ⊎ IsKeptBack settings events e id
  sent_on events e id h served still = go (if_answered (S settings e Nobody events) (desk_of e events).phase (desk_of e events).initialize (open_of e events) served (h e) id still)
    where
      go : TakenAt settings events e id ⊎ ⊥ → IsSent settings events e id ⊎ IsKeptBack settings events e id
      go (inl (inl k)) = inl (sent_is settings events e id k)
      go (inl (inr k)) = inr (kept_back settings events e id k)
      go (inr k) = absurd k

  pub settled_of : (events : List Event) → Rests events → Settled settings events
  settled_of events h = record {
    spelt = h.spelt;
    begun = h.begun;
    lively = h.lively;
    serving = serving settings events ((h.facts).steady).starts ((h.facts).steady).housed h.lasts h.down;
    down = h.down;
    over = h.over;
    unasked = λ e at. subst (λ p. OpenIf (S settings e Nobody events) p (desk_of e events).initialize (open_of e events)) at (h.opens e);
    waiting = λ e at. only events e h.opens at;
    sent = λ e id served still. sent_on events e id h.opens served still;
    asks = h.seats;
    seated = λ e needs. seat settings events e h.begun (h.placed e needs);
    uncreated = h.uncreated;
    takings = h.taken;
  }

  pub settled_holds : (history : List Entry) → Legal settings history → Settled settings (events_of history)
  settled_holds history legal = settled_of (events_of history) (from_here [] history legal no_rests)
