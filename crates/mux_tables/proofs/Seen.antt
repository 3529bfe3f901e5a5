-- What the tables tell of the events, as the code has it.
use Rattle.std.proofs.Common.{◌≡◌, ℕ, zero, suc, ◌<◌, ◌≤◌, Bool, true, false, not, ◌&&◌, List, [], ◌∷◌, map, length, get_or, refl, ap, sym, subst, ◌∙◌, arith, inl, inr, ◌⊎◌}
use Rattle.std.specs.Prelude.{IfNone, IfSome, MatchOption, Option, Some, None, slice_get}
use Rattle.std.specs.Option.{option_and_then}
use Rattle.std.proofs.lemmas.Option.{slice_get-get_or, slice_get_past}
use Rattle.event_model.specs.declared.phase.Phase.{Phase}
use Rattle.event_model.specs.declared.phase.Phase.TheVariants.{Absent, New}
use Rattle.event_model.specs.declared.stage.Stage.TheVariants.{Ended, Unspawned}
use Rattle.event_model.specs.Event.{Event}
use Rattle.event_model.specs.Phases.{desk_of, is_running}
use Rattle.event_model.specs.Settings.{Settings}
use Rattle.event_model.specs.Spawns.{start_of}
use Rattle.event_model.specs.Stages.{Life, is_ended, life_of, may_begin, may_start, runs}
use Rattle.event_model.proofs.Places.{same_item}
use Rattle.editor_session.specs.Sessions.{absent, numbers_of, runs_in, session_of}
use Rattle.group_words.specs.Houses.{Meant, editors_in, given_or, home_of, meant_of, server_for}
use Rattle.id_rewrite.specs.Tables as tables
use Rattle.mux_tables.specs.declared.tables.Start.{Start}
use Rattle.mux_tables.specs.declared.tables.Tables.{Tables}
use Rattle.group_laws.specs.group_rows.specs.Forwarded as forwarded
use Rattle.group_laws.specs.group_rows.specs.Forwarded.{forwarding_of}
use Rattle.mux_tables.specs.Stands.{HasEnded, IsLost, Rise, Stands, group_in, is_over, meant_in, number_in, of_ids, of_life, phase_in, start_for}
use Rattle.mux_tables.proofs.IdMoves.{numbers_mapped}
use Rattle.mux_tables.proofs.Lasts.{lost_ended}
use Rattle.mux_tables.proofs.Lists.{editors_for, runs_so}
use Rattle.mux_tables.proofs.Starts.{read_here, start_at_place}

-- what a new editor means
module _ (settings : Settings) (t : Tables) (events : List Event) (e : ℕ) (st : Stands settings t events) (l : e < length t.editors) (new : (desk_of e events).phase ≡ New) where
  meant_here : record { opened = (session_of t.editors e).opened; server = (session_of t.editors e).server } ≡ meant_of settings.servers e events
  meant_here = ap meant_in (sym (slice_get-get_or t.editors e absent l)) ∙ st.house.editors.meant e new

  pub opened_so : (b : Bool) → b ≡ (session_of t.editors e).opened → b ≡ (meant_of settings.servers e events).opened
  opened_so b is = is ∙ ap (λ (x : Meant). x.opened) meant_here

  pub server_so : (o : Option ℕ) (default n : ℕ) → o ≡ (session_of t.editors e).server → settings.default ≡ default → n ≡ given_or o default → n ≡ server_for settings e events
  server_so o default n is same answer = answer ∙ (ap (λ d. given_or o d) (sym same) ∙ ap (λ p. given_or p settings.default) (is ∙ ap (λ (x : Meant). x.server) meant_here))

and_off : (b : Bool) → (b && false) ≡ false
and_off true = refl
and_off false = refl

-- its program doesn't run, and can't run or fail to any more
abbrev IsOff : Life → Type 0
IsOff life = (runs life ≡ false) × (may_start life ≡ false)

ended_over : (life : Life) → life.stage ≡ Ended → is_over life.stage ≡ true
ended_over life e = ap is_over e

ended_off : (life : Life) → life.stage ≡ Ended → IsOff life
ended_off life e = (ap (λ g. life.started && not (is_ended g)) e ∙ and_off life.started, ap (λ g. may_begin g && not life.started) e)

-- a start that isn't the last of its group is over, and its program doesn't run
module _ (settings : Settings) (t : Tables) (events : List Event) (s : ℕ) (st : Stands settings t events) where
  unspawned : slice_get t.origins.groups.items s ≡ None → life_of s events ≡ record { stage = Unspawned; started = false }
  unspawned h = st.lasts.fresh s (subst (λ n. n ≤ s) (sym st.origins.count) (past t.origins.groups.items s h)) of_life
    where
      past : (xs : List ℕ) (i : ℕ) → slice_get xs i ≡ None → length xs ≤ i
      past [] i h = omega arith
      past (x ∷ xs) zero h = absurd (some x h)
        where
          some : (x : ℕ) → ◌≡◌ {A = Option ℕ} (Some x) None → ⊥
          some x h = cc
      past (x ∷ xs) (suc i) h = let r = past xs i h in omega arith

  pub unspawned_over : slice_get t.origins.groups.items s ≡ None → is_over (life_of s events).stage ≡ true
  unspawned_over h = ap (λ (l : Life). is_over l.stage) (unspawned h)

  pub unspawned_halted : slice_get t.origins.groups.items s ≡ None → runs (life_of s events) ≡ false
  unspawned_halted h = ap runs (unspawned h)

  pub unspawned_settled : slice_get t.origins.groups.items s ≡ None → may_start (life_of s events) ≡ false
  unspawned_settled h = ap may_start (unspawned h)

  module _ (P : Life → Type 0) (ended : (life : Life) → life.stage ≡ Ended → P life) where
    old_start : (g : ℕ) → slice_get t.origins.groups.items s ≡ Some g → (start_of g events ≡ Some s → ⊥) → P (life_of s events)
    old_start g h not_it = go (st.lasts.old s g (st.origins.group s ∙ h))
      where
        go : (start_of g events ≡ Some s) ⊎ ((life_of s events).stage ≡ Ended) → P (life_of s events)
        go (inl e) = absurd (not_it e)
        go (inr e) = ended (life_of s events) e

    outside : (g : ℕ) → slice_get t.origins.groups.items s ≡ Some g → (Rise 0 t.lasts.items → IsLost g t.lasts.items) → P (life_of s events)
    outside g h lost = go (st.lasts.old s g (st.origins.group s ∙ h))
      where
        go : (start_of g events ≡ Some s) ⊎ ((life_of s events).stage ≡ Ended) → P (life_of s events)
        go (inl e) = ended (life_of s events) (lost_ended settings t.requests g s events (st.lasts.lost g s (lost st.lasts.rise) e))
        go (inr e) = ended (life_of s events) e

    other : (g p : ℕ) (z : Start) → slice_get t.origins.groups.items s ≡ Some g → p < length t.lasts.items → z ≡ get_or t.lasts.items p z → ((x : Start) → slice_get t.lasts.items p ≡ Some x → x.life.group ≡ g) → (z.life.start ≡ s → ⊥) → P (life_of s events)
    other g p z h within read own not_it =
        let here = read_here t.lasts.items p z within read in
        old_start g h (λ e. not_it (same_item (sym (ap (λ n. start_of n events) (sym (own z here)) ∙ (st.lasts.each p z here).start) ∙ e)))

  pub outside_over : (g : ℕ) → slice_get t.origins.groups.items s ≡ Some g → (Rise 0 t.lasts.items → IsLost g t.lasts.items) → is_over (life_of s events).stage ≡ true
  outside_over = outside (λ life. is_over life.stage ≡ true) ended_over

  pub outside_off : (g : ℕ) → slice_get t.origins.groups.items s ≡ Some g → (Rise 0 t.lasts.items → IsLost g t.lasts.items) → IsOff (life_of s events)
  outside_off = outside IsOff ended_off

  pub other_over : (g p : ℕ) (z : Start) → slice_get t.origins.groups.items s ≡ Some g → p < length t.lasts.items → z ≡ get_or t.lasts.items p z → ((x : Start) → slice_get t.lasts.items p ≡ Some x → x.life.group ≡ g) → (z.life.start ≡ s → ⊥) → is_over (life_of s events).stage ≡ true
  other_over = other (λ life. is_over life.stage ≡ true) ended_over

  pub other_off : (g p : ℕ) (z : Start) → slice_get t.origins.groups.items s ≡ Some g → p < length t.lasts.items → z ≡ get_or t.lasts.items p z → ((x : Start) → slice_get t.lasts.items p ≡ Some x → x.life.group ≡ g) → (z.life.start ≡ s → ⊥) → IsOff (life_of s events)
  other_off = other IsOff ended_off

pub start_read : (xs : List Start) (g s start : ℕ) (z : Start) → g < length xs → z ≡ get_or xs g z → start ≡ z.life.start → start ≡ s → slice_get (map number_in xs) g ≡ Some s
start_read [] g s start z h r e f = absurd (omega arith)
start_read (x ∷ xs) zero s start z h r e f = ap (λ (w : Start). Some w.life.start) (sym r) ∙ ap (λ n. Some n) (sym e ∙ f)
start_read (x ∷ xs) (suc g) s start z h r e f = start_read xs g s start z (omega arith) r e f

-- the group of an editor
home_seen : (settings : Settings) (t : Tables) (events : List Event) (e : ℕ) (o : Option ℕ) → Stands settings t events → e < length t.editors → o ≡ (session_of t.editors e).group → start_for settings e events ≡ option_and_then (λ g. start_of g events) o
home_seen settings t events e o s l is = ap (option_and_then (λ g. start_of g events)) (s.house.editors.home e ∙ (ap group_in (slice_get-get_or t.editors e absent l) ∙ sym is))

pub placed_nowhere : (settings : Settings) (t : Tables) (events : List Event) (e : ℕ) → Stands settings t events → e < length t.editors → ◌≡◌ {A = Option ℕ} None (session_of t.editors e).group → HasEnded (start_for settings e events) events
placed_nowhere settings t events e s l is n starts = absurd (none_some (sym (home_seen settings t events e None s l is) ∙ starts))
  where
    none_some : ◌≡◌ {A = Option ℕ} None (Some n) → ⊥
    none_some h = cc

pub placed_past : (settings : Settings) (t : Tables) (events : List Event) (e g : ℕ) → Stands settings t events → e < length t.editors → Some g ≡ (session_of t.editors e).group → (Rise 0 t.lasts.items → IsLost g t.lasts.items) → HasEnded (start_for settings e events) events
placed_past settings t events e g s l is lost n starts = lost_ended settings t.requests g n events (s.lasts.lost g n (lost s.lasts.rise) (sym (home_seen settings t events e (Some g) s l is) ∙ starts))

pub placed_here : (settings : Settings) (t : Tables) (events : List Event) (e g p : ℕ) (x : Start) → Stands settings t events → e < length t.editors → Some g ≡ (session_of t.editors e).group → slice_get t.lasts.items p ≡ Some x → x.life.group ≡ g → start_for settings e events ≡ Some x.life.start
placed_here settings t events e g p x s l is at own = home_seen settings t events e (Some g) s l is ∙ (ap (λ n. start_of n events) (sym own) ∙ (s.lasts.each p x at).start)

pub group_given : (settings : Settings) (t : Tables) (events : List Event) (e g : ℕ) → Stands settings t events → e < length t.editors → Some g ≡ (session_of t.editors e).group → (o : Option ℕ) → IfSome o (λ p. (x : Start) → slice_get t.lasts.items p ≡ Some x → x.life.group ≡ g)
    → IfNone o (Rise 0 t.lasts.items → IsLost g t.lasts.items) → MatchOption o (HasEnded (start_for settings e events) events) (λ p. (x : Start) → slice_get t.lasts.items p ≡ Some x → start_for settings e events ≡ Some x.life.start)
group_given settings t events e g st l is None number lost = placed_past settings t events e g st l is lost
group_given settings t events e g st l is (Some p) number lost = λ x at. placed_here settings t events e g p x st l is at (number x at)

-- where an editor stands
pub phase_inside : (settings : Settings) (t : Tables) (events : List Event) (e : ℕ) (p : Phase) → Stands settings t events → e < length t.editors → p ≡ (session_of t.editors e).phase → p ≡ (desk_of e events).phase
phase_inside settings t events e p s l is = is ∙ (ap phase_in (sym (slice_get-get_or t.editors e absent l)) ∙ sym (s.house.editors.phase e))

pub phase_past : (settings : Settings) (t : Tables) (events : List Event) (e : ℕ) → Stands settings t events → length t.editors ≤ e → Absent ≡ (desk_of e events).phase
phase_past settings t events e s past = ap phase_in (sym (slice_get_past t.editors e past)) ∙ sym (s.house.editors.phase e)

-- the editors of a group that run
pub running_so : (settings : Settings) (t : Tables) (events : List Event) (g : ℕ) (ns : List ℕ) → Stands settings t events → ns ≡ numbers_of (λ s. runs_in g s) t.editors → ns ≡ editors_in is_running g (λ e. home_of settings e events) events
running_so settings t events g ns s is = is ∙ (sym (runs_so t.editors g) ∙ sym (editors_for is_running (λ e. home_of settings e events) t.editors events g s.house.editors.count s.house.editors.phase s.house.editors.home))

-- an editor's open requests
pub requests_so : (settings : Settings) (t : Tables) (events : List Event) (g s e : ℕ) (z : Start) (ns : List ℕ) → slice_get (map number_in t.lasts.items) g ≡ Some s → g < length t.lasts.items → z ≡ get_or t.lasts.items g z → ns ≡ tables.numbers_of e z.ids.requests
    → Stands settings t events → ns ≡ forwarded.numbers_of e (forwarding_of settings s events).open_requests
requests_so settings t events g s e z ns at within read is st =
    let here = read_here t.lasts.items g z within read in
    subst (λ n. ns ≡ forwarded.numbers_of e (forwarding_of settings n events).open_requests) (start_at_place t.lasts.items g s z here at)
    (is ∙ (sym (numbers_mapped e z.ids.requests) ∙ ap (forwarded.numbers_of e) (sym ((st.lasts.each g z here).parts of_ids).open_requests)))
