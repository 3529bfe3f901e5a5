-- What is registered at an editor behind a request of a ready start about registrations (S6, S7).
use Rattle.std.proofs.Common.{◌≡◌, ℕ, ◌<◌, Bool, true, false, not, ◌&&◌, List, [], ◌∷◌, ◌++◌, append-nil, nat_eq, nat_le, if◌then◌else◌, Option, Some, None, ◌⊎◌, inl, inr, refl, sym, ◌∙◌, ap, subst, subst₂, arith}
use Rattle.std.proofs.lemmas.Bool.{and_parts, leb-false, leb-true}
use Rattle.json_text.specs.Json.{Json}
use Rattle.mux_history.specs.declared.cause.Cause.TheVariants.{FromServer}
use Rattle.mux_history.specs.declared.out.Out.{Out}
use Rattle.mux_history.specs.declared.out.Out.TheVariants.{ToServer}
use Rattle.lsp_method.specs.Class.{class_of}
use Rattle.lsp_method.specs.declared.variants.Class.{Class}
use Rattle.lsp_method.specs.declared.variants.Class.TheVariants.{Register, Unregister}
use Rattle.lsp_method.specs.declared.variants.Origin.TheVariants.{Server}
use Rattle.rpc_message.specs.Message.{request, Id, message_of}
use Rattle.event_model.specs.declared.phase.Phase.{Phase}
use Rattle.event_model.specs.declared.phase.Phase.TheVariants.{Running}
use Rattle.event_model.specs.declared.stage.Stage.TheVariants.{Ready}
use Rattle.event_model.specs.Event.{Event, behind, heard, said, took, with_cause}
use Rattle.event_model.specs.Phases.{Desk, desk_of, editors_of, is_new, is_running, needs_server}
use Rattle.event_model.specs.Row.{choose, each, nothing, on, outs, ◌⨾◌}
use Rattle.event_model.specs.Settings.{Settings}
use Rattle.event_model.specs.Spawns.{group_of, start_of}
use Rattle.event_model.specs.Stages.{is_ended, life_of, is_ready}
use Rattle.event_model.proofs.Frames.{never}
use Rattle.mux_model.specs.Fits.{fits_behind}
use Rattle.mux_facts.specs.Ranges.{InRange}
use Rattle.mux_facts.proofs.Folds.{desk_more}
use Rattle.mux_facts.proofs.Keeps.{behind_both}
use Rattle.mux_facts.proofs.Words.{number_same, same_number}
use Rattle.registrations.specs.declared.registration.Registration.{Registration}
use Rattle.registrations.specs.Items.{again, others, registered}
use Rattle.group_words.specs.Houses.{home_of, is_home}
use Rattle.group_rows.specs.AskRows.{asking_row, question_row}
use Rattle.group_rows.specs.Asks.{asking_of, has_number, is_taken, running_in}
use Rattle.group_facts.proofs.AskingRows.{running_is}
use Rattle.group_rows.specs.Live.{changes_live, unregister_text, is_heard, is_registering, live_by, live_next, live_of, taken_back, with_registered, without_these}
use Rattle.group_rows.specs.LiveRows.{accept, call, decline, registering}
use Rattle.group_rows.specs.Rows.{from_server, outs_of}
use Rattle.group_rows.proofs.LiveTexts.{live_written, registered_written}
use Rattle.group_facts.specs.Settled.{Settled}
use Rattle.group_facts.proofs.Facts.{Facts}
use Rattle.group_facts.proofs.LastStarts.{AllLast}
use Rattle.group_sessions.proofs.Changes.{Holds, Some_hold, registers_all, registers_none, takes_all, takes_none}
use Rattle.group_sessions.proofs.Enrolled.{Same}
use Rattle.group_sessions.proofs.Registered.{At, at_free, at_took, begins, ids}
use Rattle.group_sessions.proofs.Numbers.{out_rests, out_took}
use Rattle.group_sessions.proofs.Tied.{All, IsTied, Place, all_back, live_here, place, ran, runs_on, stays}

-- A request of a ready start about registrations

module _ (settings : Settings) (range : InRange settings) (before : List Event) (facts : Facts settings before) (settled : Settled settings before) (lasts : AllLast before) (all : All settings before)
    (s : ℕ) (body : List ℕ) (fits : fits_behind before (FromServer s body) ≡ true) (ready : (life_of s before).stage ≡ Ready)
    (id : Id) (method : List ℕ) (params : Option Json) (says : message_of body ≡ request id method params) where
  abbrev now : List Event
  now = with_cause before (FromServer s body)

  abbrev later : List Event
  later = behind now (outs_of settings before (FromServer s body))

  abbrev live : List Registration
  live = live_of settings s before

  row_is : outs_of settings before (FromServer s body) ≡ outs (question_row settings s before body id method) now
  row_is = ap (λ z. outs (from_server settings s before body (message_of body) z) now) ready ∙ ap (λ m. outs (from_server settings s before body m Ready) now) says

  -- what is live behind it
  live_is : (t : ℕ) → live_of settings t later ≡ (if nat_eq s t && is_heard settings t before id then live_by (class_of method Server false) body (live_of settings t before) else live_of settings t before)
  live_is t = live_here settings range before facts settled (FromServer s body) fits t ∙ ap (λ m. live_next settings t before (live_of settings t before) (took (FromServer s body) m)) says

  other_live : (t : ℕ) → nat_eq s t ≡ false → live_of settings t later ≡ live_of settings t before
  other_live t other = live_is t ∙ ap (λ b. if b && is_heard settings t before id then live_by (class_of method Server false) body (live_of settings t before) else live_of settings t before) other

  -- an editor that runs behind it ran before, and where it was
  was_running : (e : ℕ) → (desk_of e later).phase ≡ Running → (desk_of e before).phase ≡ Running
  was_running e at = go (ran settings range before facts settled (FromServer s body) fits e here)
    where
      here : is_running (desk_of e now).phase ≡ true
      here = all_back is_running runs_on e now (outs_of settings before (FromServer s body)) (ap is_running at)

      same : (desk_of e now).phase ≡ (desk_of e before).phase
      same = ap (λ (d : Desk). d.phase) (desk_more e before (heard (FromServer s body)))

      go : ((desk_of e before).phase ≡ Running) ⊎ (begins before (FromServer s body) e ≡ true) → (desk_of e before).phase ≡ Running
      go (inl was) = was
      go (inr begun) = clash (desk_of e before).phase refl (sym (ap is_running same) ∙ here)
        where
          clash : (p : Phase) → (desk_of e before).phase ≡ p → is_running p ≡ true → (desk_of e before).phase ≡ Running
          clash Running at h = at
          clash _ at h = never (sym h)

  where_it_was : (e g t : ℕ) → (desk_of e later).phase ≡ Running → home_of settings e later ≡ Some g → start_of g later ≡ Some t → Place settings range before facts settled (FromServer s body) fits e g t
  where_it_was e g t at home start = let was : (desk_of e before).phase ≡ Running = was_running e at in
      place settings range before facts settled (FromServer s body) fits lasts e g t (ap needs_server was) (ap is_new was)
      (stays settings range before facts settled (FromServer s body) fits e was (all_back is_running runs_on e now (outs_of settings before (FromServer s body)) (ap is_running at))) (λ k. refl) home start

  at_now : (e : ℕ) → At e (ids e before) now
  at_now e = at_took e (ids e before) before (FromServer s body) (record { always = all.always e; has = refl })

  at_sent : (e : ℕ) (text : List ℕ) → At e (ids e before) (behind now (ToServer s text ∷ []))
  at_sent e text = at_free e (ids e before) now (said (ToServer s text)) refl (at_now e)

  pub record Outcome (e : ℕ) : Type 0 where
    pub xs : List (List ℕ)
    pub at : At e xs later
    pub still : is_running (desk_of e before).phase ≡ false → At e (ids e before) later
    pub tied : (g t : ℕ) → (desk_of e later).phase ≡ Running → home_of settings e later ≡ Some g → start_of g later ≡ Some t → IsTied settings e t (ids e later) later

  tied_same : (e g t : ℕ) → At e (ids e before) later → live_of settings t later ≡ live_of settings t before → (desk_of e before).phase ≡ Running → home_of settings e before ≡ Some g → start_of g before ≡ Some t → IsTied settings e t (ids e later) later
  tied_same e g t at same was home start = go (all.tied e g t was home start)
    where
      go : IsTied settings e t (ids e before) before → IsTied settings e t (ids e later) later
      go (inl h) = inl (subst₂ Same (sym at.has) (sym same) h)
      go (inr h) = inr (out_rests e now (outs_of settings before (FromServer s body)) (out_took e before (FromServer s body) h))

  -- it isn't told, and what is live at the start of its group stays
  unchanged : (e : ℕ) → At e (ids e before) later → ((g t : ℕ) → Place settings range before facts settled (FromServer s body) fits e g t → (desk_of e before).phase ≡ Running → nat_eq s t ≡ true → live_of settings t later ≡ live_of settings t before) → Outcome e
  unchanged e at same = record { xs = ids e before; at = at; still = λ off. at; tied = λ g t runs home start. let k = where_it_was e g t runs home start in let was = was_running e runs in tied_same e g t at (by_number g t k was (nat_eq s t) refl) was k.home k.start }
    where
      by_number : (g t : ℕ) → Place settings range before facts settled (FromServer s body) fits e g t → (desk_of e before).phase ≡ Running → (b : Bool) → nat_eq s t ≡ b → live_of settings t later ≡ live_of settings t before
      by_number g t k was false other = other_live t other
      by_number g t k was true is = same g t k was is

  nobody : (e : ℕ) → At e (ids e before) later → (live_of settings s later ≡ live) → Outcome e
  nobody e at same = unchanged e at (λ g t k was is. subst (λ n. live_of settings n later ≡ live_of settings n before) (number_same s t is) same)

  -- each that runs in the group is told
  module _ (g : ℕ) (kept : group_of s before ≡ Some g) where
    abbrev p : ℕ → Bool
    p e = is_running (desk_of e before).phase && is_home g (home_of settings e before)

    untold : (e : ℕ) → p e ≡ false → At e (ids e before) later → Outcome e
    untold e off at = unchanged e at (λ h t k was is.
        let mine : group_of s before ≡ Some h = ap (λ n. group_of n before) (number_same s t is) ∙ (settled.lively.last h t k.start).0 in
        let groups : Some h ≡ Some g = sym mine ∙ kept in
        let same : h ≡ g = cc in
        never (sym (ap (λ q. is_running q && is_home g (home_of settings e before)) was ∙ ap (is_home g) k.home ∙ ap (λ n. nat_eq n g) same ∙ same_number g) ∙ off))

    told : (e : ℕ) → p e ≡ true → Some_hold e live (live_written settings s before) (live_of settings s later) later → Outcome e
    told e on done = record { xs = done.xs; at = (done.holds).at; still = λ off. never (sym both.0 ∙ off); tied = tie }
      where
        both : (is_running (desk_of e before).phase ≡ true) × (is_home g (home_of settings e before) ≡ true)
        both = and_parts (is_running (desk_of e before).phase) (is_home g (home_of settings e before)) on

        in_group : (o : Option ℕ) → is_home g o ≡ true → o ≡ Some g
        in_group (Some n) h = ap (λ k. Some k) (number_same n g h)
        in_group None h = never (sym h)

        tie : (h t : ℕ) → (desk_of e later).phase ≡ Running → home_of settings e later ≡ Some h → start_of h later ≡ Some t → IsTied settings e t (ids e later) later
        tie h t runs home start =
            let k = where_it_was e h t runs home start in
            let houses : Some h ≡ Some g = sym k.home ∙ in_group (home_of settings e before) both.1 in
            let same : h ≡ g = cc in
            let starts : Some t ≡ Some s = sym k.start ∙ ap (λ n. start_of n before) same ∙ lasts s g kept (ap is_ended ready) in
            let is : t ≡ s = cc in
            subst (λ n. IsTied settings e n (ids e later) later) (sym is) (go (done.holds).same)
          where
            go : Same done.xs (live_of settings s later) ⊎ (has_number e later ≡ false) → IsTied settings e s (ids e later) later
            go (inl same) = inl (subst (λ ys. Same ys (live_of settings s later)) (sym ((done.holds).at).has) same)
            go (inr none) = inr none

    -- what holds of it behind the answer
    holds_sent : (e : ℕ) → p e ≡ true → (text : List ℕ) → Holds e live (live_written settings s before) (ids e before) live (behind now (ToServer s text ∷ []))
    holds_sent e on text = record { at = at_sent e text; same = go (all.tied e g s (running_is settings before (desk_of e before).phase both.0) (in_group (home_of settings e before) both.1) (lasts s g kept (ap is_ended ready))) }
      where
        both : (is_running (desk_of e before).phase ≡ true) × (is_home g (home_of settings e before) ≡ true)
        both = and_parts (is_running (desk_of e before).phase) (is_home g (home_of settings e before)) on

        in_group : (o : Option ℕ) → is_home g o ≡ true → o ≡ Some g
        in_group (Some n) h = ap (λ k. Some k) (number_same n g h)
        in_group None h = never (sym h)

        go : IsTied settings e s (ids e before) before → Same (ids e before) live ⊎ (has_number e (behind now (ToServer s text ∷ [])) ≡ false)
        go (inl h) = inl h
        go (inr h) = inr (out_rests e now (ToServer s text ∷ []) (out_took e before (FromServer s body) h))

    joined : (e : ℕ) → p e ≡ true → e < editors_of before
    joined e on = go (nat_le (editors_of before) e) refl
      where
        go : (b : Bool) → nat_le (editors_of before) e ≡ b → e < editors_of before
        go false low = let k = leb-false (editors_of before) e low in omega (arith, k)
        go true high = never (sym (and_parts (is_running (desk_of e before).phase) (is_home g (home_of settings e before)) on).0 ∙ ap is_running ((facts.steady).editors e (leb-true (editors_of before) e high)))

    module _ (fresh : is_heard settings s before id ≡ true) (asked : outs_of settings before (FromServer s body) ≡ outs (asking_row settings before g s body method (class_of method Server false)) now) where
      live_by_class : (c : Class) → class_of method Server false ≡ c → live_of settings s later ≡ live_by c body live
      live_by_class c class = live_is s ∙ ap (λ b. if b && is_heard settings s before id then live_by (class_of method Server false) body live else live) (same_number s)
          ∙ ap (λ b. if b then live_by (class_of method Server false) body live else live) fresh ∙ ap (λ k. live_by k body live) class

      sends : (c : Class) → class_of method Server false ≡ c → outs_of settings before (FromServer s body) ≡ outs (asking_row settings before g s body method c) now
      sends c class = asked ∙ ap (λ k. outs (asking_row settings before g s body method k) now) class

      registering_outcome : class_of method Server false ≡ Register → (e : ℕ) → Outcome e
      registering_outcome class e = go (registered body) refl
        where
          go : (o : Option (List Registration)) → registered body ≡ o → Outcome e
          go None none = nobody e
              (subst (λ zs. At e (ids e before) (behind now zs)) (sym (sends Register class ∙ ap (λ o. outs (on o (decline s body) (λ items. accept s body ⨾ each (registering (again items live) items) (running_in settings g before))) now) none)) (at_sent e _))
              (live_by_class Register class ∙ ap (λ o. with_registered o live) none)
          go (Some items) found = by_place (p e) refl
            where
              there : List Event
              there = behind now (outs (accept s body) now)

              rest : List Out
              rest = outs (each (registering (again items live) items) (running_in settings g before)) there

              later_is : later ≡ behind there rest
              later_is = ap (behind now) (sends Register class ∙ ap (λ o. outs (on o (decline s body) (λ items. accept s body ⨾ each (registering (again items live) items) (running_in settings g before))) now) found) ∙ behind_both now (outs (accept s body) now) rest

              live_then : live_of settings s later ≡ others items live ++ items
              live_then = live_by_class Register class ∙ ap (λ o. with_registered o live) found

              by_place : (b : Bool) → p e ≡ b → Outcome e
              by_place true on = told e on (subst₂ (Some_hold e live (live_written settings s before)) (sym live_then) (sym later_is)
                  (registers_all e live (live_written settings s before) p (editors_of before) items (registered_written body items found) on (joined e on) (ids e before) there (holds_sent e on _)))
              by_place false off = untold e off (subst (At e (ids e before)) (sym later_is) (registers_none e live (live_written settings s before) p (editors_of before) items off (ids e before) there (at_sent e _)))

      unregistering_outcome : class_of method Server false ≡ Unregister → (e : ℕ) → Outcome e
      unregistering_outcome class e = go (taken_back body live) refl
        where
          go : (o : Option (List Registration)) → taken_back body live ≡ o → Outcome e
          go None none = nobody e
              (subst (λ zs. At e (ids e before) (behind now zs)) (sym (sends Unregister class ∙ ap (λ o. outs (on o (decline s body) (λ items. accept s body ⨾ each (call (unregister_text (again items live))) (running_in settings g before))) now) none)) (at_sent e _))
              (live_by_class Unregister class ∙ ap (λ o. without_these o live) none)
          go (Some items) found = by_place (p e) refl
            where
              there : List Event
              there = behind now (outs (accept s body) now)

              rest : List Out
              rest = outs (each (call (unregister_text (again items live))) (running_in settings g before)) there

              later_is : later ≡ behind there rest
              later_is = ap (behind now) (sends Unregister class ∙ ap (λ o. outs (on o (decline s body) (λ items. accept s body ⨾ each (call (unregister_text (again items live))) (running_in settings g before))) now) found) ∙ behind_both now (outs (accept s body) now) rest

              live_then : live_of settings s later ≡ others items live
              live_then = live_by_class Unregister class ∙ ap (λ o. without_these o live) found

              by_place : (b : Bool) → p e ≡ b → Outcome e
              by_place true on = told e on (subst₂ (Some_hold e live (live_written settings s before)) (sym live_then) (sym later_is)
                  (takes_all e live (live_written settings s before) p (editors_of before) items on (joined e on) (ids e before) there (holds_sent e on _)))
              by_place false off = untold e off (subst (At e (ids e before)) (sym later_is) (takes_none e live (live_written settings s before) p (editors_of before) items off (ids e before) there (at_sent e _)))

      class_outcome : is_registering method ≡ true → (e : ℕ) → Outcome e
      class_outcome about e = go (class_of method Server false) refl about
        where
          go : (c : Class) → class_of method Server false ≡ c → changes_live c ≡ true → Outcome e
          go Register class h = registering_outcome class e
          go Unregister class h = unregistering_outcome class e
          go _ class h = never (sym h)

  pub change_outcome : is_registering method ≡ true → (e : ℕ) → Outcome e
  change_outcome about e = by_taken (is_taken (Some id) (asking_of settings s before)) refl
    where
      silent : outs_of settings before (FromServer s body) ≡ [] → At e (ids e before) later
      silent none = subst (λ zs. At e (ids e before) (behind now zs)) (sym none) (subst (At e (ids e before)) (sym (append-nil now)) (at_now e))

      by_group : is_taken (Some id) (asking_of settings s before) ≡ false → (o : Option ℕ) → group_of s before ≡ o → Outcome e
      by_group free None none = unchanged e (silent (row_is ∙ ap (λ b. outs (choose b nothing (on (group_of s before) nothing (λ g. asking_row settings before g s body method (class_of method Server false)))) now) free ∙ ap (λ o. outs (on o nothing (λ g. asking_row settings before g s body method (class_of method Server false))) now) none))
          (λ h t k was is. let mine : Some h ≡ None = sym (ap (λ n. group_of n before) (number_same s t is) ∙ (settled.lively.last h t k.start).0) ∙ none in absurd (cc))
      by_group free (Some g) kept = class_outcome g kept (ap (λ z. is_ready z && not (is_taken (Some id) (asking_of settings s before))) ready ∙ ap not free)
          (row_is ∙ ap (λ b. outs (choose b nothing (on (group_of s before) nothing (λ g. asking_row settings before g s body method (class_of method Server false)))) now) free ∙ ap (λ o. outs (on o nothing (λ g. asking_row settings before g s body method (class_of method Server false))) now) kept) about e

      by_taken : (b : Bool) → is_taken (Some id) (asking_of settings s before) ≡ b → Outcome e
      by_taken true twice = nobody e (silent (row_is ∙ ap (λ b. outs (choose b nothing (on (group_of s before) nothing (λ g. asking_row settings before g s body method (class_of method Server false)))) now) twice))
          (live_is s ∙ ap (λ b. if b && is_heard settings s before id then live_by (class_of method Server false) body live else live) (same_number s)
          ∙ ap (λ b. if b then live_by (class_of method Server false) body live else live) (ap (λ z. is_ready z && not (is_taken (Some id) (asking_of settings s before))) ready ∙ ap not twice))
      by_taken false free = by_group free (group_of s before) refl
