-- What is told of the live groups, as the code has it.
use Rattle.std.proofs.Common.{◌≡◌, ℕ, zero, suc, ◌<◌, ◌≤◌, Bool, true, false, List, [], ◌∷◌, length, filter, map, get_or, if◌then◌else◌, refl, ap, sym, subst, ◌∙◌}
use Rattle.std.specs.Prelude.{Option, None, Some, option_map, slice_get}
use Rattle.std.proofs.lemmas.Option.{slice_get-get_or, slice_get_past}
use Rattle.event_model.specs.Event.{Event}
use Rattle.event_model.specs.Phases.{desk_of, is_begun, is_there}
use Rattle.event_model.specs.Settings.{Settings}
use Rattle.editor_session.specs.declared.session.Session.{Session}
use Rattle.editor_session.specs.Sessions.{absent, is_of, numbers_of, session_of}
use Rattle.group_laws.specs.group_rows.specs.Forwarded.{Forwarded}
use Rattle.group_laws.specs.group_rows.specs.Status.{asked_at}
use Rattle.group_words.specs.Houses.{editors_in, groups_of, home_of}
use Rattle.group_words.specs.Placing.{all_from, is_live}
use Rattle.id_rewrite.specs.declared.pending.Numbered.{Numbered}
use Rattle.id_rewrite.specs.Tables.{editors_of}
use Rattle.mux_tables.specs.declared.tables.Start.{Start}
use Rattle.mux_tables.specs.declared.tables.Tables.{Tables}
use Rattle.mux_tables.specs.Stands.{Stands, forwarded_of, number_in, of_ids, phase_in}
use Rattle.mux_tables.proofs.Lists.{editors_so}
use Rattle.mux_tables.proofs.Starts.{read_here, read_same, start_at_place}

pub there_inside : (xs : List Session) (e : ℕ) (b : Bool) → e < length xs → b ≡ is_there (session_of xs e).phase → b ≡ is_there (phase_in (slice_get xs e))
there_inside xs e b l is = is ∙ ap (λ o. is_there (phase_in o)) (sym (slice_get-get_or xs e absent l))

pub there_past : (xs : List Session) (e : ℕ) → length xs ≤ e → false ≡ is_there (phase_in (slice_get xs e))
there_past xs e past = ap (λ o. is_there (phase_in o)) (sym (slice_get_past xs e past))

pub live_so : (settings : Settings) (t : Tables) (events : List Event) (ns : List ℕ) → Stands settings t events → ns ≡ all_from 0 is_live t.groups.groups → ns ≡ all_from 0 is_live (groups_of settings events)
live_so settings t events ns s is = is ∙ ap (all_from 0 is_live) (sym s.house.groups.groups)

pub begun_so : (settings : Settings) (t : Tables) (events : List Event) (g : ℕ) (ns : List ℕ) → Stands settings t events → ns ≡ numbers_of (λ s. is_of g s) t.editors → ns ≡ editors_in is_begun g (λ e. home_of settings e events) events
begun_so settings t events g ns s is = is ∙ sym (editors_so settings t.editors events g s.house.editors)

number_at : (xs : List Start) (g : ℕ) (z : Start) → slice_get xs g ≡ Some z → slice_get (map number_in xs) g ≡ Some z.life.start
number_at [] g z h = absurd (none z h)
  where
    none : (z : Start) → ◌≡◌ {A = Option Start} None (Some z) → ⊥
    none z h = cc
number_at (x ∷ xs) zero z h = ap (option_map number_in) h
number_at (x ∷ xs) (suc g) z h = number_at xs g z h

pub number_here : (xs : List Start) (g n : ℕ) (z : Start) → g < length xs → z ≡ get_or xs g z → n ≡ z.life.start → slice_get (map number_in xs) g ≡ Some n
number_here xs g n z l read is = number_at xs g z (read_here xs g z l read) ∙ ap Some (sym is)

pub group_here : (xs : List Start) (g n : ℕ) (z : Start) → g < length xs → z ≡ get_or xs g z → n ≡ z.life.group → (x : Start) → slice_get xs g ≡ Some x → n ≡ x.life.group
group_here xs g n z l read is x here = is ∙ ap (λ (w : Start). w.life.group) (read_same xs g z x l read here)

-- the open requests by their editors
counted : (p q : ℕ → Bool) → ((e : ℕ) → p e ≡ q e) → (rs : List Numbered) → length (filter q (editors_of rs)) ≡ length (filter (λ (f : Forwarded). p f.editor) (map forwarded_of rs))
counted p q h [] = refl
counted p q h (r ∷ rs) = go (q r.pending.editor) (p r.pending.editor) (h r.pending.editor) (counted p q h rs)
  where
    go : (b c : Bool) → c ≡ b → length (filter q (editors_of rs)) ≡ length (filter (λ (f : Forwarded). p f.editor) (map forwarded_of rs))
        → length (if b then r.pending.editor ∷ filter q (editors_of rs) else filter q (editors_of rs)) ≡ length (if c then forwarded_of r ∷ filter (λ (f : Forwarded). p f.editor) (map forwarded_of rs) else filter (λ (f : Forwarded). p f.editor) (map forwarded_of rs))
    go true true e k = ap suc k
    go false false e k = k
    go true false e k = absurd (cc)
    go false true e k = absurd (cc)

pub asked_so : (settings : Settings) (t : Tables) (events : List Event) (g s n : ℕ) (z : Start) → slice_get (map number_in t.lasts.items) g ≡ Some s → g < length t.lasts.items → z ≡ get_or t.lasts.items g z
    → n ≡ length (filter (λ e. is_there (phase_in (slice_get t.editors e))) (editors_of z.ids.requests)) → Stands settings t events → n ≡ asked_at settings events s
asked_so settings t events g s n z at within read is st =
    let here = read_here t.lasts.items g z within read in
    subst (λ k. n ≡ asked_at settings events k) (start_at_place t.lasts.items g s z here at)
    (is ∙ counted (λ e. is_there (desk_of e events).phase) (λ e. is_there (phase_in (slice_get t.editors e))) (λ e. ap is_there (st.house.editors.phase e)) z.ids.requests
    ∙ ap (λ fs. length (filter (λ (f : Forwarded). is_there (desk_of f.editor events).phase) fs)) (sym ((st.lasts.each g z here).parts of_ids).open_requests))
