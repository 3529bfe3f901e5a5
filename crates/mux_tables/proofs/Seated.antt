-- An editor is placed, as the code has it.
use Rattle.std.proofs.Common.{◌≡◌, ℕ, zero, suc, ◌<◌, true, false, if◌then◌else◌, List, [], ◌∷◌, ◌++◌, length, refl, ap, sym, subst, ◌∙◌, arith}
use Rattle.std.specs.Prelude.{Option, Some, None, slice_get, slice_set, slice_index_or, codes}
use Rattle.std.proofs.lemmas.List.{length-set}
use Rattle.mux_history.specs.declared.cause.Cause.TheVariants.{FromEditor}
use Rattle.rpc_message.specs.Message.{Message, id_bytes}
use Rattle.event_model.specs.declared.phase.Phase.TheVariants.{New, Waiting}
use Rattle.event_model.specs.Event.{Event, took, requests}
use Rattle.event_model.specs.Settings.{Settings}
use Rattle.editor_session.specs.declared.session.Session.{Session}
use Rattle.editor_session.specs.Sessions.{in_group, in_phase, is_gone, session_of, unless_gone, with_session}
use Rattle.group_words.specs.declared.placed.Placed.{Placed}
use Rattle.group_words.specs.declared.placed.Placed.TheVariants.{Joins, Evicts, TooMany}
use Rattle.group_words.proofs.Frames.{changed_length}
use Rattle.group_words.specs.declared.placed.Placed.TheVariants as placed_as
use Rattle.group_words.specs.Keys.{Common}
use Rattle.group_words.specs.Placing as placing
use Rattle.group_words.specs.Placing.{busy, home_by, placed_in, with_editor, with_placed}
use Rattle.group_words.specs.Houses.{groups_of, key_for, declared_for, placed_for}
use Rattle.group_table.specs.Tables.{Inside, Table, after_place, place_in, with_groups}
use Rattle.mux_tables.specs.declared.tables.Tables.{Tables}
use Rattle.mux_tables.specs.Stands.{HouseStands}
use Rattle.mux_tables.proofs.Phased.{phased}
use Rattle.mux_tables.proofs.Placing.{initialize_moves}

pub set_set : {X : Type 0} (xs : List X) (i : ℕ) (y z : X) → slice_set (slice_set xs i y) i z ≡ slice_set xs i z
set_set [] i y z = refl
set_set (x ∷ xs) zero y z = refl
set_set (x ∷ xs) (suc i) y z = ap (λ ws. x ∷ ws) (set_set xs i y z)

index_set : {X : Type 0} (xs : List X) (i : ℕ) (y d : X) → i < length xs → slice_index_or (slice_set xs i y) i d ≡ y
index_set [] i y d h = absurd (omega arith)
index_set (x ∷ xs) zero y d h = refl
index_set (x ∷ xs) (suc i) y d h = index_set xs i y d (omega arith)

pub index_get : {X : Type 0} (xs : List X) (i : ℕ) (x d : X) → slice_get xs i ≡ Some x → slice_index_or xs i d ≡ x
index_get [] i x d h = cc
index_get (w ∷ xs) zero x d h = the h
  where
    the : {X : Type 0} {v w : X} → ◌≡◌ {A = Option X} (Some v) (Some w) → v ≡ w
    the e = cc
index_get (w ∷ xs) (suc i) x d h = index_get xs i x d h

-- what is left of an editor that was placed
abbrev pub Seated : List Session → List Session → ℕ → Placed → Session → List ℕ → Type 0
Seated t u e p x id = (y : Session) × (u ≡ slice_set t e y) × (y.phase ≡ Waiting) × (y.group ≡ home_by p x.group) × ((g : ℕ) → home_by p None ≡ Some g → y.id ≡ Some id) × (y.asks ≡ x.asks) × (y.full ≡ x.full)

abbrev pub waiting : List Session → ℕ → Session
waiting t e = phased t e Waiting

waits : (x : Session) → is_gone x.phase ≡ false → unless_gone (in_phase Waiting) x ≡ record x { phase = Waiting }
waits x h = ap (λ b. if b then x else record x { phase = Waiting }) h

sits : (w x : Session) (g : ℕ) (id : List ℕ) → w ≡ record x { phase = Waiting } → unless_gone (in_group g id) w ≡ record x { phase = Waiting; group = Some g; id = Some id }
sits w x g id h = ap (unless_gone (in_group g id)) h

pub seated : (t u v : List Session) (e g : ℕ) (id : List ℕ) (p : Placed) (x : Session) → e < length t → slice_get t e ≡ Some x → is_gone x.phase ≡ false → u ≡ with_session t e (waiting t e) → v ≡ with_session u e (unless_gone (in_group g id) (session_of u e)) → ((o : Option ℕ) → home_by p o ≡ Some g)
    → Seated t v e p x id
seated t u v e g id p x h at there one two home = (
  record x { phase = Waiting; group = Some g; id = Some id },
  two ∙ (ap (λ w. with_session w e (unless_gone (in_group g id) (session_of w e))) one
      ∙ (ap (λ (z : Session). slice_set (slice_set t e (waiting t e)) e (unless_gone (in_group g id) z)) (index_set t e (waiting t e) _ h)
      ∙ (set_set t e (waiting t e) _ ∙ ap (slice_set t e) (sits (waiting t e) x g id (ap (λ (z : Session). unless_gone (in_phase Waiting) z) (index_get t e x _ at) ∙ waits x there))))),
  refl,
  sym (home x.group),
  λ n q. refl,
  refl,
  refl,
)

pub unseated : (t u : List Session) (e : ℕ) (x : Session) (id : List ℕ) (p : Placed) → slice_get t e ≡ Some x → is_gone x.phase ≡ false → u ≡ with_session t e (waiting t e) → ((o : Option ℕ) → home_by p o ≡ o) → Seated t u e p x id
unseated t u e x id p at there one home = (record x { phase = Waiting }, one ∙ ap (slice_set t e) (ap (λ (z : Session). unless_gone (in_phase Waiting) z) (index_get t e x _ at) ∙ waits x there), refl, sym (home x.group), λ g q. none g (sym (home None) ∙ q), refl, refl)
  where
    none : {A : Type 0} (g : ℕ) → ◌≡◌ {A = Option ℕ} None (Some g) → A
    none g q = absurd (cc)

pub twice_length : {X : Type 0} (t u v : List X) (e : ℕ) (y z : X) → u ≡ slice_set t e y → v ≡ slice_set u e z → length v ≡ length t
twice_length t u v e y z one two = ap length two ∙ (length-set u e z ∙ (ap length one ∙ length-set t e y))

pub initialize_heard : (settings : Settings) (before : List Event) (e : ℕ) (body : List ℕ) (m : Message) (t u : Tables) (mid : Table) (x : Session) (p : Placed) (key : Common) (given id : List ℕ) → requests (codes "initialize") m ≡ true → slice_get t.editors e ≡ Some x → x.phase ≡ New → id ≡ id_bytes body
    → key ≡ key_for settings before e body → given ≡ declared_for settings before e body → p ≡ place_in key given t.groups → mid ≡ after_place key given t.groups → u.groups ≡ with_groups (placing.joined p mid.groups) mid
    → Seated t.editors u.editors e p x id → u.course ≡ t.course → HouseStands settings t before
    → (p ≡ placed_for settings before e body (groups_of settings before)) × HouseStands settings u (before ++ took (FromEditor e body) m ∷ [])
initialize_heard settings before e body m t u mid x p key given id first at new own k d chosen placed busy sits now s =
    let K : Common = key_for settings before e body in
    let D : List ℕ = declared_for settings before e body in
    let T : Table = t.groups in
    let p_is : p ≡ placed_in T.limit K D T.groups = chosen ∙ (ap (λ z. place_in z given T) k ∙ ap (λ z. place_in K z T) d) in
    let groups : u.groups.groups ≡ with_editor (placed_in T.limit K D T.groups) K D T.groups =
    ap (λ (w : Table). w.groups) busy ∙ (ap (λ (w : Table). placing.joined p w.groups) placed ∙ (ap (λ q. placing.joined q (with_placed (place_in key given T) key given T.groups)) chosen
    ∙ (ap (λ z. with_editor (place_in z given T) z given T.groups) k ∙ ap (λ z. with_editor (place_in K z T) K z T.groups) d))) in
    let limit : u.groups.limit ≡ T.limit = ap (λ (w : Table). w.limit) busy ∙ ap (λ (w : Table). w.limit) placed in
    let idle : u.groups.idle ≡ T.idle = ap (λ (w : Table). w.idle) busy ∙ ap (λ (w : Table). w.idle) placed in (
      p_is ∙ (ap (λ n. placed_in n K D T.groups) (sym s.groups.limit) ∙ ap (λ gs. placed_in settings.limits.groups K D gs) (sym s.groups.groups)),
      initialize_moves settings before e body m first t u x sits.0 at new sits.1 sits.2 (λ g q. sits.4 g (ap (λ w. home_by w None) p_is ∙ q) ∙ ap (λ w. Some w) own) (sits.3 ∙ ap (λ q. home_by q x.group) p_is) groups limit idle now sits.5 sits.6 s,
    )

pub joined_inside : (p : Placed) (t u : Table) → u ≡ with_groups (placing.joined p t.groups) t → Inside p (length t.groups) → Inside p (length u.groups)
joined_inside p t u e h = subst (λ (w : Table). Inside p (length w.groups)) (sym e) (subst (λ n. Inside p n) (sym (same_length p)) h)
  where
    same_length : (p : Placed) → length (placing.joined p t.groups) ≡ length t.groups
    same_length (Joins g) = changed_length g busy t.groups
    same_length (placed_as.New g) = refl
    same_length (Evicts a g) = refl
    same_length TooMany = refl
