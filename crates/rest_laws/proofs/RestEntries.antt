-- An editor that is at rest stays so where no editor speaks.
use Rattle.std.proofs.Common.{◌≡◌, ℕ, ◌≤◌, Bool, true, false, ◌&&◌, List, [], ◌∷◌, ◌++◌, map, nat_eq, refl, sym, ◌∙◌, ap, ap₂, subst, append_assoc, append-nil, arith}
use Rattle.std.specs.List.{AllByRecursion, list_any}
use Rattle.std.specs.Option.{option_map_or}
use Rattle.std.proofs.lemmas.Bool.{and_parts}
use Rattle.mux_history.specs.declared.cause.Cause.{Cause}
use Rattle.mux_history.specs.declared.cause.Cause.TheVariants.{Joined, FromEditor, EditorGone, Started, StartFailed, FromServer, ServerGone, Drained, Tick}
use Rattle.mux_history.specs.declared.entry.Entry.{Entry}
use Rattle.mux_history.specs.declared.out.Out.{Out}
use Rattle.mux_history.specs.declared.out.Out.TheVariants.{ToEditor, ToServer, Spawn, CloseEditor, EndServer}
use Rattle.rpc_message.specs.Message.{message_of}
use Rattle.document_model.specs.Sayings.{Saying, saying_of}
use Rattle.document_model.specs.Sayings as saying
use Rattle.event_model.specs.declared.phase.Phase.{Phase}
use Rattle.event_model.specs.declared.phase.Phase.TheVariants.{Running, Absent}
use Rattle.event_model.specs.Event.{Event, behind, events_of, heard, said, with_cause}
use Rattle.event_model.specs.Phases.{desk_of, editors_of, is_running}
use Rattle.event_model.specs.Settings.{Settings}
use Rattle.event_model.specs.Spawns.{group_of}
use Rattle.event_model.specs.Stages.{is_ready, life_of}
use Rattle.event_model.proofs.Frames.{never}
use Rattle.mux_model.specs.Fits.{fits_behind}
use Rattle.mux_facts.specs.Ranges.{InRange}
use Rattle.mux_facts.proofs.DocumentRow.{ready_is}
use Rattle.mux_facts.proofs.Keeps.{events_more}
use Rattle.mux_facts.proofs.Reasons.{Reasons}
use Rattle.mux_facts.proofs.Words.{number_same}
use Rattle.group_words.specs.Houses.{home_of, is_home}
use Rattle.group_rows.specs.Lists.{is_about}
use Rattle.group_rows.specs.Rows.{outs_of}
use Rattle.group_facts.specs.Facts.{Known, NoEditors}
use Rattle.group_facts.specs.Settled.{IsServing, Settled}
use Rattle.group_facts.specs.SlowRows.{entry_outs}
use Rattle.group_facts.specs.Why.{Why}
use Rattle.group_facts.proofs.Facts.{Facts, known_of}
use Rattle.group_facts.proofs.Reached.{Reached, facts_at, row_behind, settled_at, slow_behind}
use Rattle.group_facts.proofs.SlowRow.{whole_entry}
use Rattle.group_facts.proofs.Table.{reasons}
use Rattle.group_sessions.specs.Refreshes.{AllOnDocuments, IsAtRest, OnDocument}
use Rattle.rest_laws.specs.Silent.{IsSilent, is_closing, is_of_editor}
use Rattle.rest_laws.proofs.Agreeing.{agreement}
use Rattle.rest_laws.proofs.Rested.{Calm, Rested, rested_more}
use Rattle.rest_laws.proofs.SilentLaw.{both_false, entry_silent, no_slow}

runs_is : (phase : Phase) → is_running phase ≡ true → phase ≡ Running
runs_is Running h = refl
runs_is other h = never (sym h)

-- a start that is told of no document is told of no other text
none_about : (u : List ℕ) (x : Saying) → x ≡ saying.nothing → is_about u x ≡ true → ⊥
none_about u x is about = never (sym (ap (is_about u) (sym is) ∙ about))

module _ (settings : Settings) (s e : ℕ) where
  one_document : (events : List Event) (out : Out) → IsSilent s out → OnDocument settings s e events out
  one_document events (ToServer n body) silent = λ same u o about is. absurd (none_about u (saying_of (message_of body)) (silent same) about)
  one_document events (ToEditor n body) silent = tt
  one_document events (Spawn n g) silent = tt
  one_document events (CloseEditor n) silent = tt
  one_document events (EndServer n) silent = tt

  pub all_documents : (events : List Event) (outs : List Out) → AllByRecursion (IsSilent s) outs → AllOnDocuments settings s e events outs
  all_documents events [] silent = tt
  all_documents events (out ∷ outs) silent = (one_document events out silent.0, all_documents (events ++ said out ∷ []) outs silent.1)

  module _ (g : ℕ) (before : List Event) (cause : Cause) where
    calm_out : (events : List Event) (out : Out) → Why settings before cause events out → IsSilent s out → is_closing out ≡ false → Calm settings s e g events (said out)
    calm_out events (ToServer n body) why silent links = silent
    calm_out events (ToEditor n body) why silent links = tt
    calm_out events (Spawn n h) why silent links = why.0
    calm_out events (CloseEditor n) why silent links = never links
    calm_out events (EndServer n) why silent links = tt

    pub rested_behind : (events : List Event) (outs : List Out) → Reasons (λ places out. Why settings before cause places out) events outs → AllByRecursion (IsSilent s) outs → list_any is_closing outs ≡ false → Rested settings s e g events → Rested settings s e g (behind events outs)
    rested_behind events [] why silent links h = subst (Rested settings s e g) (sym (append-nil events)) h
    rested_behind events (out ∷ outs) why silent links h =
        let open_links = both_false (is_closing out) (list_any is_closing outs) links in
        subst (Rested settings s e g) (append_assoc events (said out ∷ []) (map said outs))
        (rested_behind (events ++ said out ∷ []) outs why.1 silent.1 open_links.1 (rested_more settings s e g events (said out) (calm_out events out why.0 silent.0 open_links.0) h))

    calm_cause : NoEditors before → (desk_of e before).phase ≡ Running → fits_behind before cause ≡ true → (c : Cause) → c ≡ cause → is_of_editor c ≡ false → Calm settings s e g before (heard c)
    calm_cause none runs fits (Joined n) is calm = joins (nat_eq n e) refl
      where
        joins : (b : Bool) → nat_eq n e ≡ b → nat_eq n e ≡ false
        joins false other = other
        joins true same = absurd (clash (none e below))
          where
            here : n ≡ editors_of before
            here = number_same n (editors_of before) (ap (fits_behind before) is ∙ fits)

            below : editors_of before ≤ e
            below = let mine : n ≡ e = number_same n e same in omega (arith, here, mine)

            clash : (desk_of e before).phase ≡ Absent → ⊥
            clash absent = never (sym (ap is_running runs) ∙ ap is_running absent)
    calm_cause none runs fits (FromEditor n body) is calm = never calm
    calm_cause none runs fits (EditorGone n why) is calm = never calm
    calm_cause none runs fits (Started n) is calm = tt
    calm_cause none runs fits (StartFailed n) is calm = tt
    calm_cause none runs fits (FromServer n body) is calm = tt
    calm_cause none runs fits (ServerGone n) is calm = tt
    calm_cause none runs fits (Drained n k) is calm = tt
    calm_cause none runs fits (Tick t) is calm = tt

  pub rested_first : (events : List Event) → Settled settings events → (at : IsAtRest settings s e events) → (serving : IsServing settings events s) → Rested settings s e serving.group events
  rested_first events settled at serving =
      let running = and_parts (is_running (desk_of e events).phase) (option_map_or (λ g. is_home g (home_of settings e events)) (group_of s events) false) at.runs in
      record {
        seat = record {
          runs = runs_is (desk_of e events).phase running.0;
          home = sym (ap (λ k. option_map_or (λ g. is_home g (home_of settings e events)) k false) serving.home) ∙ running.1;
          group = serving.home;
          low = ((settled.lively).last serving.group s serving.last).1;
        };
        own = (agreement settings s e events).0 at.agrees;
        owed = at.owed;
      }

  pub rest_of : (g : ℕ) (events : List Event) → Rested settings s e g events → is_ready (life_of s events).stage ≡ true → IsAtRest settings s e events
  rest_of g events h ready = record {
    ready = ready;
    runs = ap₂ (λ p k. is_running p && option_map_or (λ g. is_home g (home_of settings e events)) k false) (h.seat).runs (h.seat).group ∙ (h.seat).home;
    agrees = (agreement settings s e events).1 h.own;
    owed = h.owed;
  }

module _ (settings : Settings) (range : InRange settings) where
  pub entry_rests : (before : List Event) (cause : Cause) → Reached settings before → fits_behind before cause ≡ true → is_of_editor cause ≡ false → list_any is_closing (entry_outs settings before cause) ≡ false
      → (s e : ℕ) → IsAtRest settings s e before → AllOnDocuments settings s e (with_cause before cause) (entry_outs settings before cause)
      × (is_ready (life_of s (behind (with_cause before cause) (entry_outs settings before cause))).stage ≡ true → IsAtRest settings s e (behind (with_cause before cause) (entry_outs settings before cause)))
  entry_rests before cause reached fits calm links s e at = (all_documents settings s e (with_cause before cause) xs silent, λ ready. rest_of settings s e serving.group (behind (with_cause before cause) xs) last ready)
    where
      xs : List Out
      xs = entry_outs settings before cause

      facts : Facts settings before
      facts = facts_at settings range before reached

      known : Known settings before
      known = known_of settings before facts

      settled : Settled settings before
      settled = settled_at settings range before reached

      serving : IsServing settings before s
      serving = settled.serving s (ready_is (life_of s before).stage at.ready)

      silent : AllByRecursion (IsSilent s) xs
      silent = entry_silent s settings range before known at.ready cause calm links

      whole : xs ≡ outs_of settings before cause
      whole = no_slow settings before cause links

      why : Reasons (λ places out. Why settings before cause places out) (with_cause before cause) xs
      why = subst (Reasons (λ places out. Why settings before cause places out) (with_cause before cause)) (sym whole) (reasons settings range before facts cause).why

      first : Rested settings s e serving.group before
      first = rested_first settings s e before settled at serving

      last : Rested settings s e serving.group (behind (with_cause before cause) xs)
      last = rested_behind settings s e serving.group before cause (with_cause before cause) xs why silent links
          (rested_more settings s e serving.group before (heard cause) (calm_cause settings s e serving.group before cause known.editors (first.seat).runs fits cause refl calm) first)

  pub entry_reached : (before : List Entry) (entry : Entry) → fits_behind (events_of before) entry.cause ≡ true → entry.outs ≡ entry_outs settings (events_of before) entry.cause → Reached settings (events_of before) → Reached settings (events_of (before ++ entry ∷ []))
  entry_reached before entry fits outs h = subst (Reached settings) (sym (events_more before entry)) (subst (λ z. Reached settings (behind (with_cause (events_of before) entry.cause) z)) (sym outs)
      (whole_entry settings (Reached settings) (λ place e slow k. slow_behind place e slow k) (events_of before) entry.cause (row_behind (events_of before) entry.cause fits h)))
