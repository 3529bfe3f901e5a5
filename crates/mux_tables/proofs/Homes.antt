-- What rows ask of an editor's group, and of the last start there, as the code has it.
use Rattle.std.proofs.Common.{◌≡◌, ℕ, ◌+◌, ◌<◌, ◌≤◌, Bool, true, false, not, ◌&&◌, cond, List, [], ◌∷◌, map, length, get_or, refl, ap, ap₂, sym, subst, ◌∙◌, ◌⊎◌, inl, inr, arith, nat_eq, nat_lt}
use Rattle.std.specs.Prelude.{Option, Some, None, IfSome, option_map, filter, find, slice_get}
use Rattle.std.specs.Option.{option_and_then}
use Rattle.std.specs.List.{AllByRecursion}
use Rattle.std.proofs.lemmas.Bool.Decides.{nat_tests}
use Rattle.std.proofs.lemmas.Option.{slice_get-get_or, slice_get_past}
use Rattle.rpc_message.specs.Message.{result_bytes}
use Rattle.event_model.specs.declared.stage.Stage.{Stage}
use Rattle.event_model.specs.declared.stage.Stage.TheVariants.{Unspawned, Spawning, Initializing, Ready, Stopping, Ending, Ended}
use Rattle.event_model.specs.Event.{Event}
use Rattle.event_model.specs.Settings.{Settings}
use Rattle.event_model.proofs.Frames.{never}
use Rattle.event_model.proofs.Places.{item_at}
use Rattle.event_model.specs.Spawns.{group_of, start_of}
use Rattle.event_model.specs.Stages.{Life, is_ready, life_of}
use Rattle.editor_session.specs.Sessions.{absent, session_of}
use Rattle.group_laws.specs.group_rows.specs.Forwarded.{forwarding_of, numbers_of}
use Rattle.group_laws.specs.group_rows.specs.Leaves.{uncancelled_of}
use Rattle.group_laws.specs.group_rows.specs.Rows.{can_ask}
use Rattle.group_words.specs.Houses.{home_of}
use Rattle.group_words.specs.Rows.{result_of, shown_of}
use Rattle.id_rewrite.specs.declared.pending.Numbered.{Numbered}
use Rattle.id_rewrite.specs.Tables as tables
use Rattle.id_rewrite.specs.Tables.{IsInOrder, RiseWithin}
use Rattle.mux_tables.specs.Cancels.{is_uncancelled}
use Rattle.mux_tables.specs.declared.tables.Start.{Start}
use Rattle.mux_tables.specs.declared.tables.Tables.{Tables}
use Rattle.mux_tables.specs.Stands.{HasEnded, IsLost, Rise, ShownAt, Stands, forwarded_of, group_in, number_in, of_ids, of_life, of_shown, start_for}
use Rattle.mux_tables.proofs.Frames.{itself}
use Rattle.mux_tables.proofs.IdMoves.{filter_mapped, numbers_mapped}
use Rattle.mux_tables.proofs.Lasts.{lost_ended}
use Rattle.mux_tables.proofs.Placed.{KeptAt, kept_or_lost}
use Rattle.mux_tables.proofs.Starts.{read_here, start_at_place}

-- what holds of an answer, if there is one
pub if_some : {A : Type 0} {P Q R : A → Type 0} (o : Option A) → ((a : A) → P a → Q a → R a) → IfSome o P → IfSome o Q → IfSome o R
if_some None f p q = tt
if_some (Some a) f p q = f a p q

-- the group in which an editor is
module _ (settings : Settings) (t : Tables) (events : List Event) (e : ℕ) (st : Stands settings t events) where
  pub home_past : length t.editors ≤ e → start_for settings e events ≡ None
  home_past past = ap (option_and_then (λ g. start_of g events)) (st.house.editors.home e ∙ ap group_in (slice_get_past t.editors e past))

  pub home_here : (o : Option ℕ) → e < length t.editors → o ≡ (session_of t.editors e).group → home_of settings e events ≡ o
  home_here o l is = st.house.editors.home e ∙ (ap group_in (slice_get-get_or t.editors e absent l) ∙ sym is)

  starts_from : (o : Option ℕ) → e < length t.editors → o ≡ (session_of t.editors e).group → start_for settings e events ≡ option_and_then (λ g. start_of g events) o
  starts_from o l is = ap (option_and_then (λ g. start_of g events)) (home_here o l is)

  none_ended : start_for settings e events ≡ None → HasEnded (start_for settings e events) events
  none_ended none s starts = absurd (clash (sym none ∙ starts))
    where
      clash : ◌≡◌ {A = Option ℕ} None (Some s) → ⊥
      clash h = cc

  pub past_ended : length t.editors ≤ e → HasEnded (start_for settings e events) events
  past_ended past = none_ended (home_past past)

  pub nowhere_ended : e < length t.editors → ◌≡◌ {A = Option ℕ} None (session_of t.editors e).group → HasEnded (start_for settings e events) events
  nowhere_ended l is = none_ended (starts_from None l is)

  pub home_ended : (g : ℕ) → e < length t.editors → Some g ≡ (session_of t.editors e).group → HasEnded (start_of g events) events → HasEnded (start_for settings e events) events
  home_ended g l is ended s starts = ended s (sym (starts_from (Some g) l is) ∙ starts)

  pub home_started : (g s : ℕ) → e < length t.editors → Some g ≡ (session_of t.editors e).group → start_of g events ≡ Some s → start_for settings e events ≡ Some s
  home_started g s l is starts = starts_from (Some g) l is ∙ starts

-- a group of which something is kept
module _ (settings : Settings) (t : Tables) (events : List Event) (g : ℕ) (st : Stands settings t events) where
  pub ended_here : (Rise 0 t.lasts.items → IsLost g t.lasts.items) → HasEnded (start_of g events) events
  ended_here lost s starts = lost_ended settings t.requests g s events (st.lasts.lost g s (lost st.lasts.rise) starts)

  pub start_seen : (p s : ℕ) → p < length t.lasts.items → ((x : Start) → slice_get t.lasts.items p ≡ Some x → x.life.group ≡ g) → slice_get (map number_in t.lasts.items) p ≡ Some s → start_of g events ≡ Some s
  start_seen p s within own at =
      let z = item_at t.lasts.items p within in
      ap (λ n. start_of n events) (sym (own z.0 z.1)) ∙ ((st.lasts.each p z.0 z.1).start ∙ ap (λ n. Some n) (start_at_place t.lasts.items p s z.0 z.1 at))

  -- of a group whose last start didn't end something is kept
  pub kept_start : (s : ℕ) → start_of g events ≡ Some s → ((life_of s events).stage ≡ Ended → ⊥) → KeptAt g t.lasts.items
  kept_start s starts runs = go (kept_or_lost g t.lasts.items)
    where
      go : KeptAt g t.lasts.items ⊎ IsLost g t.lasts.items → KeptAt g t.lasts.items
      go (inl k) = k
      go (inr lost) = absurd (runs (lost_ended settings t.requests g s events (st.lasts.lost g s lost starts)))

-- the group of the last start in a place
pub group_seen : (settings : Settings) (t : Tables) (events : List Event) (p s : ℕ) (x : Start) → Stands settings t events → slice_get t.lasts.items p ≡ Some x → slice_get (map number_in t.lasts.items) p ≡ Some s → (group_of s events ≡ Some x.life.group) × (start_of x.life.group events ≡ Some s)
group_seen settings t events p s x st here at =
    let own = start_at_place t.lasts.items p s x here at in
    (subst (λ n. group_of n events ≡ Some x.life.group) own (st.lasts.each p x here).home, (st.lasts.each p x here).start ∙ ap (λ n. Some n) own)

-- one that is ready gave a result
ready_shown : (g : Stage) (shown given : Option (List ℕ)) → is_ready g ≡ true → ShownAt g shown given → (body : List ℕ) × (given ≡ Some body) × (shown ≡ Some (shown_of (result_bytes body)))
ready_shown Ready shown given h s = s
ready_shown Unspawned shown given h s = never (sym h)
ready_shown Spawning shown given h s = never (sym h)
ready_shown Initializing shown given h s = never (sym h)
ready_shown Stopping shown given h s = never (sym h)
ready_shown Ending shown given h s = never (sym h)
ready_shown Ended shown given h s = never (sym h)

-- the last start of a group
module _ (settings : Settings) (t : Tables) (events : List Event) (g s : ℕ) (z : Start) (at : slice_get (map number_in t.lasts.items) g ≡ Some s) (within : g < length t.lasts.items) (read : z ≡ get_or t.lasts.items g z) (st : Stands settings t events) where
  here : slice_get t.lasts.items g ≡ Some z
  here = read_here t.lasts.items g z within read

  own : z.life.start ≡ s
  own = start_at_place t.lasts.items g s z here at

  pub stage_at : (life_of s events).stage ≡ z.life.stage
  stage_at = subst (λ n. (life_of n events).stage ≡ z.life.stage) own (ap (λ (l : Life). l.stage) ((st.lasts.each g z here).parts of_life))

  pub asks_at : (z_asks : Bool) → z_asks ≡ (is_ready z.life.stage && nat_lt z.ids.next z.ids.limit) → z_asks ≡ can_ask settings s events
  asks_at b is =
      let ids = (st.lasts.each g z here).parts of_ids in
      is ∙ ap₂ (λ x y. x && y) (ap is_ready (sym stage_at)) (ap₂ nat_lt (sym ids.next ∙ ap (λ n. (forwarding_of settings n events).next) own) (ids.ends ∙ sym st.requests))

  pub open_at : (e : ℕ) (ns : List ℕ) → (IsInOrder z.ids → ns ≡ uncancelled_of e (map forwarded_of z.ids.requests)) → ns ≡ uncancelled_of e (forwarding_of settings s events).open_requests
  open_at e ns is = is ((st.lasts.each g z here).parts of_ids).order ∙ ap (uncancelled_of e) (sym ((st.lasts.each g z here).parts of_ids).open_requests ∙ ap (λ n. (forwarding_of settings n events).open_requests) own)

  pub shown_at : is_ready (life_of s events).stage ≡ true → (given : List ℕ) × (result_of s events ≡ Some given) × (z.shown ≡ Some (shown_of (result_bytes given)))
  shown_at ready =
      let kept = ready_shown z.life.stage z.shown (result_of z.life.start events) (ap is_ready (sym stage_at) ∙ ready) ((st.lasts.each g z here).parts of_shown) in
      (kept.0, ap (λ n. result_of n events) (sym own) ∙ kept.1, kept.2)

-- what is kept under a number that rises is its own
abbrev Own : (ℕ → Bool) → List Numbered → Type 0
Own test rs = AllByRecursion (λ r. test r.number ≡ not r.pending.cancelled) rs

own_tests : (test : ℕ → Bool) (from to : ℕ) (rs : List Numbered) → RiseWithin from to rs → ((n : ℕ) → from ≤ n → test n ≡ is_uncancelled (tables.pending_of n rs)) → Own test rs
own_tests test from to [] h f = tt
own_tests test from to (r ∷ rs) h f = (f r.number h.0 ∙ first (nat_eq r.number r.number) (itself r.number), own_tests test (r.number + 1) to rs h.1 (λ n l. let k = h.0 in f n (omega arith) ∙ later n (nat_eq r.number n) (grind (arith, nat_tests))))
  where
    first : (b : Bool) → b ≡ true → is_uncancelled (option_map (λ (q : Numbered). q.pending) (cond b (Some r) (find (tables.has_number r.number) rs))) ≡ not r.pending.cancelled
    first true h = refl
    first false h = cc

    later : (n : ℕ) (b : Bool) → b ≡ false → is_uncancelled (option_map (λ (q : Numbered). q.pending) (cond b (Some r) (find (tables.has_number n) rs))) ≡ is_uncancelled (tables.pending_of n rs)
    later n true h = cc
    later n false h = refl

open_filtered : (e : ℕ) (test : ℕ → Bool) (rs : List Numbered) → Own test rs → filter test (tables.numbers_of e rs) ≡ tables.numbers_of e (filter (λ r. not r.pending.cancelled) rs)
open_filtered e test [] h = refl
open_filtered e test (r ∷ rs) h = go (nat_eq r.pending.editor e) (not r.pending.cancelled) refl h.0 refl (open_filtered e test rs h.1)
  where
    go : (mine b : Bool) → nat_eq r.pending.editor e ≡ mine → test r.number ≡ b → not r.pending.cancelled ≡ b → filter test (tables.numbers_of e rs) ≡ tables.numbers_of e (filter (λ q. not q.pending.cancelled) rs)
        → filter test (tables.numbers_of e (r ∷ rs)) ≡ tables.numbers_of e (filter (λ q. not q.pending.cancelled) (r ∷ rs))
    go true true m k o rest = rw (o, m, k) (ap (λ ns. r.number ∷ ns) rest)
    go true false m k o rest = rw (o, m, k) rest
    go false true m k o rest = rw (o, m) rest
    go false false m k o rest = rw (o, m) rest

pub open_kept : (e : ℕ) (t : tables.Table) (ns : List ℕ) → IsInOrder t → ns ≡ filter (λ n. is_uncancelled (tables.pending_of n t.requests)) (tables.numbers_of e t.requests) → ns ≡ uncancelled_of e (map forwarded_of t.requests)
open_kept e t ns order is =
    is ∙ (open_filtered e (λ n. is_uncancelled (tables.pending_of n t.requests)) t.requests (own_tests (λ n. is_uncancelled (tables.pending_of n t.requests)) 2 t.next t.requests order.rising (λ n l. refl))
    ∙ (sym (numbers_mapped e (filter (λ r. not r.pending.cancelled) t.requests)) ∙ ap (numbers_of e) (sym (filter_mapped forwarded_of (λ f. not f.cancelled) t.requests))))
