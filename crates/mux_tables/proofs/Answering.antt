-- What an answer is made of.
use Rattle.std.proofs.Common.{◌≡◌, ℕ, ◌<◌, Bool, true, false, ◌&&◌, List, [], ◌∷◌, length, get_or, map, find, nat_eq, bytes_eq, cond, arith, refl, sym, ap, subst, ◌∙◌, append-nil}
use Rattle.std.specs.Prelude.{Option, Some, None, IfOk, Result, Ok, Err, option_map, slice_get}
use Rattle.std.specs.List.{AllByRecursion}
use Rattle.std.specs.Option.{option_map_or}
use Rattle.std.proofs.lemmas.Bool.Decides.{nat_tests}
use Rattle.group_laws.specs.Follows.{texts_in}
use Rattle.document_model.specs.Opens.{Open, is_open_at}
use Rattle.document_model.specs.Texts.{Texts, found, no_texts}
use Rattle.event_model.specs.declared.phase.Phase.{Phase}
use Rattle.event_model.specs.declared.phase.Phase.TheVariants.{Absent, New, Waiting, Answered, Running, Down, Closed, Gone}
use Rattle.event_model.specs.declared.stage.Stage.{Stage}
use Rattle.event_model.specs.declared.stage.Stage.TheVariants.{Ready}
use Rattle.event_model.specs.Event.{Event}
use Rattle.event_model.specs.Phases.{desk_of, is_served}
use Rattle.event_model.specs.Settings.{Settings}
use Rattle.event_model.specs.Spawns.{group_of}
use Rattle.event_model.proofs.Frames.{never}
use Rattle.event_model.proofs.Places.{item_at}
use Rattle.focus_switch.specs.Versions.{versions_of}
use Rattle.group_laws.specs.Stands.{HeldStands}
use Rattle.group_laws.proofs.Versions.{now_stamp}
use Rattle.group_laws.specs.mux_model.specs.Documents.{held_at}
use Rattle.group_laws.specs.group_rows.specs.Answers.{agreed_version, shared_texts, stamp_at, stamped}
use Rattle.group_laws.specs.group_rows.specs.Texts.{texts_of}
use Rattle.id_rewrite.specs.declared.pending.Pending.{Pending}
use Rattle.id_rewrite.specs.Tables.{pending_of}
use Rattle.id_rewrite.specs.response_route.specs.declared.versions.Stamp.{Stamp}
use Rattle.id_rewrite.specs.response_route.specs.Versions.{stamp_of}
use Rattle.mux_tables.specs.declared.tables.Start.{Start}
use Rattle.mux_tables.specs.declared.tables.Tables.{Tables}
use Rattle.mux_tables.specs.Documents.{DocumentsStand, IsOwned, Owed, SharedStands, nothing_owed}
use Rattle.mux_tables.specs.Notes.{IsNoted, StampsAt, has_left, now_version}
use Rattle.mux_tables.specs.Stands.{Stands, number_in}
use Rattle.mux_tables.proofs.DocumentFrames.{owner_served}
use Rattle.mux_tables.proofs.DocumentMoves.{documents_at}
use Rattle.mux_tables.proofs.Stamping.{now_stamps}
use Rattle.mux_tables.proofs.Starts.{read_here, start_at_place}

pub request_noted : (settings : Settings) (owed : Owed) (t : Tables) (events : List Event) (g s n : ℕ) (z : Start) (o : Option Pending) (p : Pending) → slice_get (map number_in t.lasts.items) g ≡ Some s → g < length t.lasts.items → z ≡ get_or t.lasts.items g z
    → o ≡ pending_of n z.ids.requests → o ≡ Some p → DocumentsStand settings owed t events → IsNoted settings s n p.editor events p.noted
request_noted settings owed t events g s n z o p at within read is there ds =
    let here = read_here t.lasts.items g z within read in
    subst (λ k. IsNoted settings k n p.editor events p.noted) (start_at_place t.lasts.items g s z here at) (ds.notes g z here n p (sym is ∙ there))

versions_here : (settings : Settings) (t : Tables) (events : List Event) (g s e : ℕ) (x : Start) (stamps : List (List ℕ × Stamp)) → slice_get t.lasts.items g ≡ Some x → x.life.stage ≡ Ready → x.life.start ≡ s
    → StampsAt stamps (λ d. map (now_version e d) (versions_of e d)) (slice_get t.documents.items g) → Stands settings t events → DocumentsStand settings nothing_owed t events
    → (u : List ℕ) → stamp_of u stamps ≡ stamp_at agreed_version settings s e events u
versions_here settings t events g s e x stamps at ready number given st ds u =
    let d = documents_at settings nothing_owed t events g x at ds in
    let was : SharedStands settings events [] x.life.group x.life.start Ready d.0 = subst (λ (q : Stage). SharedStands settings events [] x.life.group x.life.start q d.0) ready (ds.each g x d.0 at d.1) in
    let holds : HeldStands x.life.start was.start.code d.0 events = subst (λ es. HeldStands x.life.start was.start.code d.0 es) (append-nil events) was.start.holds in
    let stamped_so : StampsAt stamps (λ d. map (now_version e d) (versions_of e d)) (Some d.0) = subst (λ o. StampsAt stamps (λ d. map (now_version e d) (versions_of e d)) o) d.1 given in
    stamped_so u ∙ (now_stamps e u d.0 ∙ (sym (now_stamp settings x.life.group x.life.start e was.start.code d.0 events was.texts holds (st.lasts.each g x at).home u) ∙ ap (λ n. stamp_at agreed_version settings n e events u) number))

pub versions_seen : {E : Type 0} (settings : Settings) (t : Tables) (events : List Event) (g s e : ℕ) (x : Start) (result : Result (List (List ℕ × Stamp)) E) → slice_get t.lasts.items g ≡ Some x → x.life.stage ≡ Ready → slice_get (map number_in t.lasts.items) g ≡ Some s
    → IfOk result (λ stamps. StampsAt stamps (λ d. map (now_version e d) (versions_of e d)) (slice_get t.documents.items g)) → Stands settings t events → DocumentsStand settings nothing_owed t events
    → IfOk result (λ stamps. (u : List ℕ) → stamp_of u stamps ≡ stamp_at agreed_version settings s e events u)
versions_seen settings t events g s e x (Ok stamps) at ready number given st ds = versions_here settings t events g s e x stamps at ready (start_at_place t.lasts.items g s x at number) given st ds
versions_seen settings t events g s e x (Err f) at ready number given st ds = tt

-- an editor that left has nothing open
not_served : (p : Phase) → has_left p ≡ true → is_served p ≡ false
not_served Down h = refl
not_served Closed h = refl
not_served Gone h = refl
not_served Absent h = refl
not_served New h = refl
not_served Waiting h = refl
not_served Answered h = never (sym h)
not_served Running h = never (sym h)

none_open : (settings : Settings) (events : List Event) (g e : ℕ) (u : List ℕ) (os : List Open) → is_served (desk_of e events).phase ≡ false → AllByRecursion (IsOwned settings events g) os → find (is_open_at e u) os ≡ None
none_open settings events g e u [] away owned = refl
none_open settings events g e u (o ∷ os) away owned = go (nat_eq o.editor e) refl (none_open settings events g e u os away owned.1)
  where
    go : (b : Bool) → nat_eq o.editor e ≡ b → find (is_open_at e u) os ≡ None → cond (b && bytes_eq o.uri u) (Some o) (find (is_open_at e u) os) ≡ None
    go false is rest = rest
    go true is rest = let same : o.editor ≡ e = grind (arith, nat_tests) in never (sym (sym away ∙ (ap (λ n. is_served (desk_of n events).phase) (sym same) ∙ owner_served settings events g o owned.0)))

pub left_nowhere : (settings : Settings) (t : Tables) (events : List Event) (g s e : ℕ) (u : List ℕ) → g < length t.lasts.items → slice_get (map number_in t.lasts.items) g ≡ Some s → Stands settings t events → DocumentsStand settings nothing_owed t events
    → has_left (desk_of e events).phase ≡ true → stamp_at agreed_version settings s e events u ≡ None
left_nowhere settings t events g s e u within at st ds left =
    let x = item_at t.lasts.items g within in
    let d = documents_at settings nothing_owed t events g x.0 x.1 ds in
    let was = ds.each g x.0 d.0 x.1 d.1 in
    let home : group_of s events ≡ Some x.0.life.group = ap (λ n. group_of n events) (sym (start_at_place t.lasts.items g s x.0 x.1 at)) ∙ (st.lasts.each g x.0 x.1).home in
    let shared : shared_texts settings s events ≡ texts_in d.0 = ap (λ o. option_map_or (λ k. texts_of settings k events) o no_texts) home ∙ was.texts.texts in
    ap (λ (z : Texts). option_map (λ o. stamped (agreed_version o (held_at s u events)) o) (found e u z)) shared
    ∙ ap (option_map (λ o. stamped (agreed_version o (held_at s u events)) o)) (none_open settings events x.0.life.group e u d.0.opens (not_served (desk_of e events).phase left) was.owned)
