-- The last editor that joined, one more deed on.
use Rattle.std.proofs.Common.{◌≡◌, ℕ, List, [], ◌∷◌, ◌++◌, Bool, true, false, if◌then◌else◌, refl, sym, ap, ◌∙◌, subst, ⊎_elim, arith, Option, append_assoc, append-nil}
use Rattle.std.specs.declared.option.Option.TheVariants.{Some, None}
use Rattle.mux_history.specs.declared.entry.Entry.{Entry}
use Rattle.mux_history.specs.declared.out.Out.{Out}
use Rattle.mux_history.specs.declared.cause.Cause.{Cause}
use Rattle.mux_history.specs.declared.cause.Cause.TheVariants as cause
use Rattle.mux_history.specs.Cores.{joined}
use Rattle.lane_lists.specs.declared.item.LaneName.TheVariants as lane
use Rattle.lane_lists.specs.declared.item.Item.{Item}
use Rattle.lane_lists.specs.Seats.{meaning}
use Rattle.lane_lists.specs.Deeds.{Deed, start, behind, same_lane, joined_in, session_in, entries_in, sessions_by, entries_by, Fair, Meant, entries, sessions, seats_of}
use Rattle.lane_lists.specs.Origins.{AllIn, JoinedLast}
use Rattle.lane_lists.proofs.Gathers.{gather_more}
use Rattle.lane_lists.proofs.Moves.{now_at, did}
use Rattle.lane_lists.proofs.BySession.{many_free}
use Rattle.lane_lists.proofs.Sitting.{Here, Links, all_here, joined_append, joined_from, said_at, seated}

joined_cause : (c : Cause) (e : ℕ) → joined_in c ≡ e ∷ [] → c ≡ cause.Joined e
joined_cause (cause.Joined n) e h = let same : n ≡ e = cc in ap cause.Joined same
joined_cause (cause.FromEditor n body) e h = absurd cc
joined_cause (cause.EditorGone n w) e h = absurd cc
joined_cause (cause.Started s) e h = absurd cc
joined_cause (cause.StartFailed s) e h = absurd cc
joined_cause (cause.FromServer s body) e h = absurd cc
joined_cause (cause.ServerGone s) e h = absurd cc
joined_cause (cause.Drained n k) e h = absurd cc
joined_cause (cause.Tick t) e h = absurd cc

-- the entry in which an editor joined
entry_is : (i : ℕ) (entry : Option Entry) (e : ℕ) → session_in (lane.Editor i) entry ≡ e ∷ [] → (outs : List Out) × (entries_in entry ≡ record { cause = cause.Joined e; outs = outs } ∷ [])
entry_is i None e h = absurd cc
entry_is i (Some en) e h = (en.outs, ap (λ (c : Cause). record { cause = c; outs = en.outs } ∷ []) (joined_cause en.cause e h))

none_said : (i : ℕ) (entry : Option Entry) → joined (entries_in entry) ≡ 0 → session_in (lane.Editor i) entry ≡ []
none_said i None h = refl
none_said i (Some en) h = none en.cause h where
  none : (c : Cause) → joined (record { cause = c; outs = en.outs } ∷ []) ≡ 0 → joined_in c ≡ []
  none (cause.Joined n) h = absurd (omega arith)
  none (cause.FromEditor n body) h = refl
  none (cause.EditorGone n w) h = refl
  none (cause.Started s) h = refl
  none (cause.StartFailed s) h = refl
  none (cause.FromServer s body) h = refl
  none (cause.ServerGone s) h = refl
  none (cause.Drained n k) h = refl
  none (cause.Tick t) h = refl

either_nil : (b : Bool) (l : List ℕ) → l ≡ [] → (if b then l else []) ≡ []
either_nil true l h = h
either_nil false l h = refl

-- no editor was there as this one joined
pub last_new : (n m i : ℕ) (deeds : List Deed) (x : Item) (entry : Option Entry) → Fair n m deeds → AllIn n m deeds → Meant (meaning (seats_of n m deeds) (lane.Editor i) x) entry → ((k : ℕ) → now_at k (seats_of n m deeds) ≡ None)
    → joined (entries_in entry) ≡ 1 → JoinedLast n m i (deeds ++ did (lane.Editor i) x entry ∷ [])
last_new n m i deeds x entry fair lanes means free one =
    let seats = seats_of n m deeds in
    let deed : Deed = did (lane.Editor i) x entry in
    let before = entries n m deeds in
    let count : seats.joined ≡ joined before = joined_from deeds (start n m) fair ∙ (omega arith) in
    ⊎_elim
    (λ t. let z = t.0 in absurd (omega arith))
    (λ (t : Links seats (behind seats deed) (lane.Editor i) entry).
    let own = t.own in
    let same : i ≡ t.seat = cc in
    let said : session_in (lane.Editor i) entry ≡ joined before ∷ [] = subst (λ (k : ℕ). session_in (lane.Editor k) entry ≡ joined before ∷ []) (sym same) (t.said ∙ ap (λ (k : ℕ). k ∷ []) count) in
    let en = entry_is i entry (joined before) said in
    record {
      before = before;
      outs = en.0;
      after = [];
      is = gather_more entries_by (start n m) deeds deed ∙ ap (λ l. before ++ l) en.1;
      last = refl;
      gone = λ e below. ⊎_elim
          (λ (h : Here seats e). let none : None ≡ Some e = sym (free h.seat) ∙ h.sits in absurd cc) (λ g. g)
          (all_here n m deeds (start n m) e fair lanes (many_free n) (omega arith) (omega arith));
      front = sessions n m (lane.Editor i) deeds;
      own = gather_more (sessions_by (lane.Editor i)) (start n m) deeds deed ∙ ap (λ l. sessions n m (lane.Editor i) deeds ++ l) (said_at i seats deed (joined before) refl said);
    })
    (seated seats (lane.Editor i) x entry means).counts

-- no editor joined since
pub last_more : (n m i : ℕ) (deeds : List Deed) (deed : Deed) → joined (entries_in deed.entry) ≡ 0 → JoinedLast n m i deeds → JoinedLast n m i (deeds ++ deed ∷ [])
last_more n m i deeds deed none j =
    let here : Entry = record { cause = cause.Joined (joined j.before); outs = j.outs } in
    record {
      before = j.before;
      outs = j.outs;
      after = j.after ++ entries_in deed.entry;
      is = gather_more entries_by (start n m) deeds deed ∙ ap (λ l. l ++ entries_in deed.entry) j.is ∙ append_assoc j.before (here ∷ j.after) (entries_in deed.entry);
      last = let a = joined_append j.after (entries_in deed.entry) in let l = j.last in omega arith;
      gone = j.gone;
      front = j.front;
      own = gather_more (sessions_by (lane.Editor i)) (start n m) deeds deed
          ∙ ap (λ l. sessions n m (lane.Editor i) deeds ++ l) (either_nil (same_lane (lane.Editor i) deed.lane) (session_in (lane.Editor i) deed.entry) (none_said i deed.entry none))
          ∙ append-nil (sessions n m (lane.Editor i) deeds) ∙ j.own;
    }
