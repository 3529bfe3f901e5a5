-- L2: what an editor is told and asked where it begins to run.
use Rattle.std.proofs.Common.{◌≡◌, ℕ, true, List, [], ◌∷◌, ◌++◌, map, zero, suc, length, refl, ap, sym, subst, ◌∙◌}
use Rattle.std.specs.Prelude.{None, Some, slice_get}
use Rattle.std.specs.List.{AllByRecursion}
use Rattle.mux_history.specs.declared.cause.Cause.TheVariants.{FromEditor}
use Rattle.mux_history.specs.declared.out.Out.{Out}
use Rattle.rpc_message.specs.Message.{message_of}
use Rattle.document_model.specs.Texts.{found}
use Rattle.event_model.specs.declared.stage.Stage.TheVariants.{Ready}
use Rattle.event_model.specs.Does.{Alike, Does}
use Rattle.event_model.specs.Event.{Event, behind, heard, with_cause}
use Rattle.event_model.specs.Phases.{desk_of, is_running, is_served, makes_running}
use Rattle.event_model.specs.Row.{Row, after, each, nothing, outs}
use Rattle.event_model.specs.Settings.{Settings}
use Rattle.event_model.specs.Stages.{Life, is_ready, life_of}
use Rattle.event_model.proofs.Places.{same_item}
use Rattle.event_model.proofs.Turns.{alike, alike_then, behind_more, does_alike, does_nothing, does_then}
use Rattle.mux_turns.specs.group_facts.specs.Why.{IsQuestion}
use Rattle.group_rows.specs.Answers.{shared_texts}
use Rattle.group_rows.specs.AskRows.{ask}
use Rattle.group_rows.specs.Asks.{Asking, Parked, asking_of, asks_of, parked_of}
use Rattle.group_rows.specs.Created.{Created, created_of}
use Rattle.group_rows.specs.CreatedRows.{offer, offer_all}
use Rattle.group_rows.specs.ListRows.{show_all}
use Rattle.group_rows.specs.Lists.{lists_of}
use Rattle.group_rows.specs.Live.{live_of, register_text}
use Rattle.group_rows.specs.LiveRows.{has_some, register_any}
use Rattle.group_rows.proofs.LiveTexts.{live_written}
use Rattle.group_words.specs.Houses.{home_of}
use Rattle.mux_turns.specs.mux_facts.proofs.Lists.{all_join}
use Rattle.group_rows.specs.registrations.specs.declared.registration.Registration.{Registration}
use Rattle.mux_tables.specs.declared.tables.Start.{Start}
use Rattle.mux_tables.specs.declared.tables.Tables.{Tables}
use Rattle.mux_tables.specs.Documents.{AllStand, DocumentsStand, Owed}
use Rattle.mux_tables.specs.Resumes.{unasked}
use Rattle.mux_tables.specs.Stands.{IsWorking, MayWait, Stands, number_in, of_life, of_parked}
use Rattle.mux_tables.proofs.DocumentOwed.{all_does}
use Rattle.mux_tables.proofs.Waiting.{ready_parked}
use Rattle.mux_turns.specs.Calls.{IsCall}
use Rattle.mux_tables.specs.mux_tokens.proofs.Standing.{created_more}
use Rattle.mux_turns.specs.Creates.{AreSmall}
use Rattle.mux_turns.proofs.Called.{Quiet, any_quiet, quiet_behind, quiet_then, register_call, rests_on, runs_on}
use Rattle.mux_turns.proofs.Offering.{small_behind}
use Rattle.mux_turns.proofs.Offers.{any_created, offers_quiet}
use Rattle.mux_turns.proofs.Departing.{behind_first}
use Rattle.mux_turns.proofs.Matched.{whole_entry}
use Rattle.mux_editors.specs.Running.{AreUnasked, Begun, CanBegin, may_begin, running_row}
use Rattle.mux_editors.specs.Shows.{all_plain}
use Rattle.mux_editors.proofs.Runs.{asks_all, begins_row, offers_all, ready_run, restores_all, runs_now, stage_now, works_now}
use Rattle.mux_editors.proofs.Showing.{AreKept, are_kept, lists_here, meant_here, plain_questions, plain_quiet, plain_row}
use Rattle.mux_editors.proofs.Takings.{away_spoken}

module _ (settings : Settings) (t u : Tables) (owed : Owed) (before : List Event) (e : ℕ) (body : List ℕ) (xs ys : List Out) (first : xs ≡ []) where
  abbrev base : List Event
  base = with_cause before (FromEditor e body)

  abbrev now : List Event
  now = behind base xs

  pub silent_begun : Stands settings t base → DocumentsStand settings owed t base → Alike (running_row settings before e (message_of body)) nothing → Begun settings before e body owed t xs
  silent_begun st ds none = record {
    done = whole_entry (λ k events. AllStand settings k events) (running_row settings before e (message_of body)) base (t, owed) (t, owed) xs xs first (st, ds) (does_alike (λ _. none) does_nothing);
    asks = subst (AllByRecursion (IsQuestion e)) (sym first) tt;
  }

  module _ (served : is_served (desk_of e before).phase ≡ true) (runs : makes_running (message_of body) ≡ true) (begins : may_begin (desk_of e before).phase ≡ true) (st : Stands settings t base) (ds : DocumentsStand settings owed t base)
      (g : ℕ) (x : Start) (at : slice_get t.lasts.items g ≡ Some x) (ready : x.life.stage ≡ Ready) (home : home_of settings e base ≡ Some x.life.group) where
    abbrev s : ℕ
    s = x.life.start

    here : base ≡ now
    here = sym (behind_first base xs first)

    pub runs_here : is_running (desk_of e now).phase ≡ true
    runs_here = subst (λ es. is_running (desk_of e es).phase ≡ true) here (ap is_running (runs_now settings before e body served runs))

    pub home_here : home_of settings e now ≡ Some x.life.group
    home_here = subst (λ es. home_of settings e es ≡ Some x.life.group) here home

    pub works_here : (s : ℕ) → IsWorking settings e s now
    works_here s = subst (IsWorking settings e s) here (works_now settings before e body served runs s)

    stage : is_ready (life_of s base).stage ≡ true
    stage = ap (λ (l : Life). is_ready l.stage) ((st.lasts.each g x at).parts of_life) ∙ ap is_ready ready

    abbrev live : List Registration
    live = live_of settings s base

    pub called : IsCall (register_text live)
    called = register_call live (live_written settings s base)

    pub live_here : live_of settings s now ≡ live
    live_here = ap (live_of settings s) (sym here)

    abbrev offering : Row
    offering = offer_all settings before e s

    abbrev asking : Row
    asking = each (λ (p : Parked). ask p.body e) (parked_of settings s base)

    abbrev showing : Row
    showing = show_all settings before e s

    row_is : Alike (running_row settings before e (message_of body)) (after (register_any live e) (after offering (after showing asking)))
    row_is = alike_then (begins_row settings before e body served runs begins) (ready_run settings before e body served runs x.life.group s home (st.lasts.each g x at).start stage)

    waiting : AllByRecursion MayWait (parked_of settings s base)
    waiting = (ready_parked x.life.stage (asks_of settings s base) (parked_of settings s base) x.parked ready ((st.lasts.each g x at).parts of_parked)).bodies

    module _ (can : CanBegin settings before e body) where
      away : AreUnasked e (created_of settings s before).takings
      away = can.unasked begins s

      -- the message itself answers nothing of what it was asked to take
      created_here : created_of settings s now ≡ created_of settings s before
      created_here = ap (created_of settings s) (sym here) ∙ (created_more settings s before (heard (FromEditor e body)) ∙ away_spoken e (message_of body) (created_of settings s before) away)

      -- behind what it is told of registrations
      module _ (zs : List Out) (told : zs ≡ xs ++ outs (register_any (live_of settings s now) e) now) where
        abbrev mid : List Event
        mid = behind base zs

        called_here : IsCall (register_text (live_of settings s now))
        called_here = subst (λ rs. IsCall (register_text rs)) (sym live_here) called

        quiet : Quiet settings now mid
        quiet = quiet_behind settings (register_any (live_of settings s now) e) base xs zs told
            (any_quiet settings (register_text (live_of settings s now)) called_here (has_some (live_of settings s now)) e now)

        pub runs_mid : is_running (desk_of e mid).phase ≡ true
        runs_mid = runs_on settings now mid quiet e runs_here

        pub rests_mid : (n : ℕ) → (asking_of settings n mid).asker ≡ None
        rests_mid = rests_on settings now mid quiet (λ n. (works_here n).asker)

        created_mid : created_of settings s mid ≡ created_of settings s before
        created_mid = ap (λ ys. created_of settings s (behind base ys)) told ∙ (ap (created_of settings s) (behind_more base xs (outs (register_any (live_of settings s now) e) now))
            ∙ (any_created settings s (register_text (live_of settings s now)) called_here (has_some (live_of settings s now)) e now ∙ created_here))

        pub unasked_mid : AreUnasked e (created_of settings s mid).takings
        unasked_mid = subst (λ (c : Created). AreUnasked e c.takings) (sym created_mid) away

        pub small_mid : AreSmall settings mid
        small_mid = small_behind settings base zs can.small

        -- and behind what it is asked to take
        module _ (vs : List Out) (offered : vs ≡ zs ++ outs (each (offer s e) (created_of settings s mid).tokens) mid) where
          abbrev late : List Event
          late = behind base vs

          quiet_offered : Quiet settings now late
          quiet_offered = quiet_then settings now mid late quiet (quiet_behind settings (each (offer s e) (created_of settings s mid).tokens) base zs vs offered (offers_quiet settings s e (created_of settings s mid).tokens mid))

          -- and behind what it is shown
          module _ (ws : List Out) (shown : ws ≡ vs ++ outs (all_plain e (lists_of s base)) late) where
            abbrev last : List Event
            last = behind base ws

            unopened : (u : List ℕ) → found e u (shared_texts settings s before) ≡ None
            unopened u = can.unopened begins s (sym (stage_now settings before e body served runs s) ∙ stage) u

            -- the lists as the row has them
            plain : Alike showing (all_plain e (lists_of s base))
            plain = alike_then (plain_row settings before s e unopened) (alike (ap (all_plain e) (sym (lists_here s before e body))))

            kept : AreKept (lists_of s base)
            kept = are_kept s base (meant_here before e body can.meant)

            quiet_late : Quiet settings now last
            quiet_late = quiet_then settings now late last quiet_offered (quiet_behind settings (all_plain e (lists_of s base)) base vs ws shown (plain_quiet settings e (lists_of s base) kept late))

            pub runs_late : is_running (desk_of e last).phase ≡ true
            runs_late = runs_on settings now last quiet_late e runs_here

            pub home_late : home_of settings e last ≡ Some x.life.group
            home_late = quiet_late.homes e ∙ home_here

            pub works_late : (n : ℕ) → IsWorking settings e n last
            works_late n =
                let same = quiet_late.asking n (works_here n).asker in
                record { asker = ap (λ (a : Asking). a.asker) same ∙ (works_here n).asker; runs = ap (λ (a : Asking). a.runs) same ∙ (works_here n).runs }

            parked_late : parked_of settings s last ≡ parked_of settings s base
            parked_late = ap (λ (a : Asking). a.parked) (quiet_late.asking s (works_here s).asker) ∙ ap (parked_of settings s) (sym here)

            pub all_begun : (w v q : Tables) → Does (λ k events. AllStand settings k events) (register_any (live_of settings s now) e) base (t, owed) xs (w, owed) zs
                → Does (λ k events. AllStand settings k events) (each (offer s e) (created_of settings s mid).tokens) base (w, owed) zs (v, owed) vs
                → Does (λ k events. AllStand settings k events) (all_plain e (lists_of s base)) base (v, owed) vs (q, owed) ws
                → Does (λ t events. Stands settings t events) (each (λ (p : Parked). ask p.body e) (parked_of settings s last)) base q ws u ys → (DocumentsStand settings owed q last → DocumentsStand settings owed u (behind base ys)) → Begun settings before e body owed u ys
            all_begun w v q d o shows one docs =
                let first_part = subst (λ rs. Does (λ k events. AllStand settings k events) (register_any rs e) base (t, owed) xs (w, owed) zs) live_here d in
                let second_part = subst (λ (c : Created). Does (λ k events. AllStand settings k events) (each (offer s e) c.tokens) base (w, owed) zs (v, owed) vs) created_mid o in
                let third_part = does_alike (λ _. plain) shows in
                let fourth_part = subst (λ ps. Does (λ t events. Stands settings t events) (each (λ (p : Parked). ask p.body e) ps) base q ws u ys) parked_late one in
                let done = whole_entry (λ k events. AllStand settings k events) (running_row settings before e (message_of body)) base (t, owed) (u, owed) xs ys first (st, ds)
                (does_alike (λ _. row_is) (does_then first_part (does_then second_part (does_then third_part (all_does settings q u owed owed base ws ys fourth_part (λ _ k. docs k)))))) in
                let told_first = outs (register_any live e) (behind base []) in
                let told_next = outs offering (behind (behind base []) told_first) in
                let told_last = outs showing (behind (behind (behind base []) told_first) told_next) in
                record {
                  done = done;
                  asks = subst (AllByRecursion (IsQuestion e)) (sym (done.outs ∙ row_is.sends (behind base [])))
                      (all_join (IsQuestion e) told_first (outs (after offering (after showing asking)) (behind (behind base []) told_first)) (restores_all e live called (behind base []))
                      (all_join (IsQuestion e) told_next (outs (after showing asking) (behind (behind (behind base []) told_first) told_next)) (offers_all s e (created_of settings s before).tokens (behind (behind base []) told_first))
                      (all_join (IsQuestion e) told_last (outs asking (behind (behind (behind (behind base []) told_first) told_next) told_last))
                      (subst (AllByRecursion (IsQuestion e)) (sym (plain.sends (behind (behind (behind base []) told_first) told_next))) (plain_questions settings e (lists_of s base) kept (behind (behind (behind base []) told_first) told_next)))
                      (asks_all e (parked_of settings s base) waiting (behind (behind (behind (behind base []) told_first) told_next) told_last)))));
                }

-- The last starts, but for what they asked

module _ {X Y : Type 0} (f : X → Y) where
  pub same_kept : (xs ys : List X) → map f ys ≡ map f xs → (g : ℕ) (y : X) → slice_get ys g ≡ Some y → (x : X) × ((slice_get xs g ≡ Some x) × (f y ≡ f x))
  same_kept [] [] is g y at = absurd (cc)
  same_kept [] (w ∷ ys) is g y at = absurd (cc)
  same_kept (x ∷ xs) [] is g y at = absurd (cc)
  same_kept (x ∷ xs) (w ∷ ys) is zero y at = (x, (refl, ap f (sym (same_item at)) ∙ first_of is))
    where
      first_of : f w ∷ map f ys ≡ f x ∷ map f xs → f w ≡ f x
      first_of k = cc
  same_kept (x ∷ xs) (w ∷ ys) is (suc g) y at = same_kept xs ys (rest_of is) g y at
    where
      rest_of : f w ∷ map f ys ≡ f x ∷ map f xs → map f ys ≡ map f xs
      rest_of k = cc

  pub same_length : (xs ys : List X) → map f ys ≡ map f xs → length ys ≡ length xs
  same_length [] [] is = refl
  same_length [] (w ∷ ys) is = absurd (cc)
  same_length (x ∷ xs) [] is = absurd (cc)
  same_length (x ∷ xs) (w ∷ ys) is = ap suc (same_length xs ys (rest_of is))
    where
      rest_of : f w ∷ map f ys ≡ f x ∷ map f xs → map f ys ≡ map f xs
      rest_of k = cc

-- what is said of a start's group and its number
pub by_kept : (P : ℕ → ℕ → Type 0) (x y : Start) → unasked x ≡ unasked y → P y.life.group y.life.start → P x.life.group x.life.start
by_kept P x y is p = subst (λ (w : Start). P w.life.group w.life.start) (sym is) p

numbers_in : (xs : List Start) → map number_in xs ≡ map number_in (map unasked xs)
numbers_in [] = refl
numbers_in (x ∷ xs) = ap (λ ns. x.life.start ∷ ns) (numbers_in xs)

pub numbers_kept : (xs ys : List Start) → map unasked ys ≡ map unasked xs → map number_in ys ≡ map number_in xs
numbers_kept xs ys rest = numbers_in ys ∙ (ap (map number_in) rest ∙ sym (numbers_in xs))
