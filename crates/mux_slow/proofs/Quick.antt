-- Behind each entry no editor is slow; so behind the outs of the next one's row only those are that were told something.
use Rattle.std.proofs.Common.{◌≡◌, ℕ, zero, suc, ◌+◌, ◌<◌, ◌≤◌, Bool, true, false, ◌&&◌, List, [], ◌∷◌, ◌++◌, map, nat_eq, nat_lt, if◌then◌else◌, ◌-◌, refl, sym, ◌∙◌, ap, subst, append-nil, append_assoc, arith}
use Rattle.std.specs.List.{list_any, range_with_len}
use Rattle.std.proofs.lemmas.Bool.{and_parts}
use Rattle.std.proofs.lemmas.Bool.Decides.{nat_tests}
use Rattle.mux_history.specs.declared.cause.Cause.{Cause}
use Rattle.mux_history.specs.declared.cause.Cause.TheVariants.{Joined, FromEditor, EditorGone, Started, StartFailed, FromServer, ServerGone, Drained, Tick}
use Rattle.mux_history.specs.declared.out.Out.{Out}
use Rattle.mux_history.specs.declared.out.Out.TheVariants.{ToEditor, ToServer, Spawn, CloseEditor, EndServer}
use Rattle.rpc_message.specs.Message.{message_of}
use Rattle.event_model.specs.Event.{Event, behind, heard, said, with_cause}
use Rattle.event_model.specs.declared.phase.Phase.TheVariants.{New, Gone}
use Rattle.event_model.specs.Phases.{Desk, backlog_behind, backlog_of, desk_behind, desk_hears, desk_of, editors_of, is_there}
use Rattle.event_model.specs.Row.{each, outs}
use Rattle.event_model.specs.Settings.{Settings}
use Rattle.event_model.proofs.Frames.{never, one_more}
use Rattle.mux_facts.proofs.Folds.{desk_more}
use Rattle.mux_facts.proofs.Keeps.{behind_both, behind_nothing}
use Rattle.mux_facts.proofs.Words.{number_same}
use Rattle.group_facts.specs.SlowRows.{close_slow, is_slow, slow_row}
use Rattle.group_facts.proofs.StopEntry.{there_heard, there_outs}
use Rattle.mux_slow.specs.Told.{AllTold, Quick, told_in}
use Rattle.mux_slow.proofs.Closing.{next, quick_now, slow_falls}
use Rattle.mux_slow.proofs.Among.{AllElse, IsElse, else_of}

module _ (settings : Settings) where
  each_quick : (n low : ℕ) (place : List Event) → ((e : ℕ) → is_slow settings e place ≡ true → (low ≤ e) × (e < low + n)) → Quick settings (behind place (outs (each (close_slow settings) (range_with_len low n)) place))
  each_quick zero low place within = λ e slow. let is = within e (ap (is_slow settings e) (sym (behind_nothing place)) ∙ slow) in let a : low ≤ e = is.0 in let b : e < low + zero = is.1 in omega (arith, a, b)
  each_quick (suc n) low place within = subst (Quick settings) (sym (behind_both place (outs (close_slow settings low) place) (outs (each (close_slow settings) (range_with_len (low + 1) n)) (next settings place low))))
      (each_quick n (low + 1) (next settings place low) later)
    where
      later : (e : ℕ) → is_slow settings e (next settings place low) ≡ true → (low + 1 ≤ e) × (e < low + 1 + n)
      later e slow = let is = within e (slow_falls settings place low e slow) in let a : low ≤ e = is.0 in let b : e < low + suc n = is.1 in (omega (arith, a, apart), omega (arith, b))
        where
          apart : low ≡ e → ⊥
          apart is = never (sym slow ∙ subst (λ k. is_slow settings k (next settings place low) ≡ false) is (quick_now settings place low))

  -- behind the row of Z1 none is slow, where each that is there joined
  pub quick_rests : (place : List Event) → ((e : ℕ) → is_there (desk_of e place).phase ≡ true → e < editors_of place) → Quick settings (behind place (outs (slow_row settings) place))
  quick_rests place bound = each_quick (editors_of place) 0 place (λ e slow. let is : e < editors_of place = bound e (and_parts (is_there (desk_of e place).phase) _ slow).0 in (omega arith, omega (arith, is)))

  -- Outs and a cause

  both_on : (a b : Bool) → a ≡ true → b ≡ true → (a && b) ≡ true
  both_on true b h k = k
  both_on false b h k = never (sym h)

  else_bytes : (k : ℕ) (events : List Event) (xs : List Out) → AllElse k xs → backlog_of k (behind events xs) ≡ backlog_of k events
  else_bytes k events [] h = ap (backlog_of k) (append-nil events)
  else_bytes k events (x ∷ xs) h = ap (backlog_of k) (sym (append_assoc events (said x ∷ []) (map said xs))) ∙ (else_bytes k (events ++ said x ∷ []) xs h.1 ∙ one x h.0)
    where
      one : (x : Out) → IsElse k x → backlog_of k (events ++ said x ∷ []) ≡ backlog_of k events
      one (ToEditor e body) h = one_more (backlog_behind k) _ _ events (said (ToEditor e body)) refl ∙ rw h refl
      one (ToServer s body) h = one_more (backlog_behind k) _ _ events (said (ToServer s body)) refl
      one (Spawn s g) h = one_more (backlog_behind k) _ _ events (said (Spawn s g)) refl
      one (CloseEditor e) h = one_more (backlog_behind k) _ _ events (said (CloseEditor e)) refl
      one (EndServer s) h = one_more (backlog_behind k) _ _ events (said (EndServer s)) refl

  slow_before : (k : ℕ) (events : List Event) (xs : List Out) → AllElse k xs → is_slow settings k (behind events xs) ≡ true → is_slow settings k events ≡ true
  slow_before k events xs h slow =
      let p = and_parts (is_there (desk_of k (behind events xs)).phase) (nat_lt settings.limits.backlog (backlog_of k (behind events xs))) slow in
      both_on (is_there (desk_of k events).phase) (nat_lt settings.limits.backlog (backlog_of k events)) (there_outs k events xs p.0) (ap (nat_lt settings.limits.backlog) (sym (else_bytes k events xs h)) ∙ p.1)

  module _ (before : List Event) (e : ℕ) where
    -- a cause makes no editor slow but one that joins
    slow_caused : (cause : Cause) → ((n : ℕ) → cause ≡ Joined n → backlog_of n before ≡ 0) → is_slow settings e (with_cause before cause) ≡ true → is_slow settings e before ≡ true
    slow_caused cause fresh slow = by cause fresh p.0 p.1
      where
        p : (is_there (desk_of e (with_cause before cause)).phase ≡ true) × (nat_lt settings.limits.backlog (backlog_of e (with_cause before cause)) ≡ true)
        p = and_parts (is_there (desk_of e (with_cause before cause)).phase) (nat_lt settings.limits.backlog (backlog_of e (with_cause before cause))) slow

        desk : (event : Event) → is_there (desk_of e (before ++ event ∷ [])).phase ≡ true → is_there (desk_behind e (desk_of e before) event).phase ≡ true
        desk event there = sym (ap (λ (d : Desk). is_there d.phase) (desk_more e before event)) ∙ there

        bytes : (event : Event) → nat_lt settings.limits.backlog (backlog_of e (before ++ event ∷ [])) ≡ true → nat_lt settings.limits.backlog (backlog_behind e (backlog_of e before) event) ≡ true
        bytes event over = sym (ap (nat_lt settings.limits.backlog) (one_more (backlog_behind e) _ _ before event refl)) ∙ over

        on : is_there (desk_of e before).phase ≡ true → nat_lt settings.limits.backlog (backlog_of e before) ≡ true → is_slow settings e before ≡ true
        on there over = both_on (is_there (desk_of e before).phase) (nat_lt settings.limits.backlog (backlog_of e before)) there over

        by : (cause : Cause) → ((n : ℕ) → cause ≡ Joined n → backlog_of n before ≡ 0) → is_there (desk_of e (with_cause before cause)).phase ≡ true → nat_lt settings.limits.backlog (backlog_of e (with_cause before cause)) ≡ true → is_slow settings e before ≡ true
        by (Joined n) fresh there over = go (nat_eq n e) refl (desk (heard (Joined n)) there)
          where
            go : (b : Bool) → nat_eq n e ≡ b → is_there (if b then record { phase = New; initialize = [] } else desk_of e before).phase ≡ true → is_slow settings e before ≡ true
            go true same h = absurd (let none : backlog_of e before ≡ 0 = ap (λ k. backlog_of k before) (sym (number_same n e same)) ∙ fresh n refl in let more : nat_lt settings.limits.backlog (backlog_of e before) ≡ true = bytes (heard (Joined n)) over in let low : settings.limits.backlog < backlog_of e before = grind (arith, nat_tests) in omega (arith, none, low))
            go false other h = on h (bytes (heard (Joined n)) over)
        by (FromEditor n body) fresh there over = go (nat_eq n e) (desk (heard (FromEditor n body)) there)
          where
            go : (b : Bool) → is_there (if b then desk_hears (desk_of e before).phase (desk_of e before).initialize body (message_of body) else desk_of e before).phase ≡ true → is_slow settings e before ≡ true
            go true h = on (there_heard (desk_of e before).phase (desk_of e before).initialize body (message_of body) h) (bytes (heard (FromEditor n body)) over)
            go false h = on h (bytes (heard (FromEditor n body)) over)
        by (EditorGone n why) fresh there over = go (nat_eq n e) (desk (heard (EditorGone n why)) there) (bytes (heard (EditorGone n why)) over)
          where
            go : (b : Bool) → is_there (if b then record { phase = Gone; initialize = (desk_of e before).initialize } else desk_of e before).phase ≡ true → nat_lt settings.limits.backlog (if b then 0 else backlog_of e before) ≡ true → is_slow settings e before ≡ true
            go true h more = never (sym h)
            go false h more = on h more
        by (Drained n k) fresh there over = go (nat_eq n e) (bytes (heard (Drained n k)) over)
          where
            go : (b : Bool) → nat_lt settings.limits.backlog (if b then backlog_of e before - k else backlog_of e before) ≡ true → is_slow settings e before ≡ true
            go true more = on (desk (heard (Drained n k)) there) (let low : settings.limits.backlog < backlog_of e before - k = grind (arith, nat_tests) in let high : settings.limits.backlog < backlog_of e before = omega (arith, low) in grind (arith, nat_tests))
            go false more = on (desk (heard (Drained n k)) there) more
        by (Started s) fresh there over = on (desk (heard (Started s)) there) (bytes (heard (Started s)) over)
        by (StartFailed s) fresh there over = on (desk (heard (StartFailed s)) there) (bytes (heard (StartFailed s)) over)
        by (FromServer s body) fresh there over = on (desk (heard (FromServer s body)) there) (bytes (heard (FromServer s body)) over)
        by (ServerGone s) fresh there over = on (desk (heard (ServerGone s)) there) (bytes (heard (ServerGone s)) over)
        by (Tick t) fresh there over = on (desk (heard (Tick t)) there) (bytes (heard (Tick t)) over)

  -- behind the outs of a row
  pub all_told : (before : List Event) (cause : Cause) (xs : List Out) → Quick settings before → ((n : ℕ) → cause ≡ Joined n → backlog_of n before ≡ 0) → AllTold settings (with_cause before cause) xs
  all_told before cause xs quick fresh e slow = go (list_any (nat_eq e) (told_in xs)) refl
    where
      go : (b : Bool) → list_any (nat_eq e) (told_in xs) ≡ b → b ≡ true
      go true told = refl
      go false off = absurd (quick e (slow_caused before e cause fresh (slow_before e (with_cause before cause) xs (else_of e xs off) slow)))
