-- An editor is placed.
use Rattle.std.proofs.Common.{◌≡◌, ℕ, true, ◌&&◌, List, [], ◌∷◌, ◌++◌, length, refl, ap, sym, subst, ◌∙◌, nat_eq, if◌then◌else◌}
use Rattle.std.specs.Prelude.{Some, None, slice_get, slice_set, codes}
use Rattle.std.proofs.lemmas.Bool.{ne_eqb}
use Rattle.std.proofs.lemmas.Option.{slice_get_within}
use Rattle.std.proofs.lemmas.List.{length-set}
use Rattle.mux_history.specs.declared.cause.Cause.TheVariants.{FromEditor}
use Rattle.rpc_message.specs.Message.{Message, id_bytes}
use Rattle.event_model.specs.declared.phase.Phase.{Phase}
use Rattle.event_model.specs.declared.phase.Phase.TheVariants.{New, Waiting}
use Rattle.event_model.specs.Event.{Event, took, requests}
use Rattle.event_model.specs.Phases.{Desk, desk_of, desk_behind, desk_hears, editors_behind}
use Rattle.event_model.specs.Settings.{Settings}
use Rattle.editor_session.specs.declared.session.Session.{Session}
use Rattle.editor_session.specs.Sessions.{is_gone}
use Rattle.event_model.proofs.Places.{Same, same, other, compare, get_set_same, get_set_other}
use Rattle.group_words.specs.declared.kept.Kept.{Kept}
use Rattle.group_words.specs.declared.placed.Placed.{Placed}
use Rattle.group_words.specs.Placing.{home_by, placed_in, with_editor, end_where, is_live}
use Rattle.group_words.specs.Houses.{groups_of, home_of, key_for, declared_for, meant_of, placed_for, places, stops, time_behind}
use Rattle.group_words.proofs.Frames.{itself, groups_more, home_more}
use Rattle.group_table.specs.Tables.{Table}
use Rattle.mux_tables.specs.declared.tables.Course.{Course}
use Rattle.mux_tables.proofs.Halted.{initialize_goes, stopped_quiet}
use Rattle.mux_tables.specs.declared.tables.Tables.{Tables}
use Rattle.mux_tables.specs.Names.{NameStands, id_in}
use Rattle.group_laws.specs.group_rows.specs.Asks.{next_ask}
use Rattle.mux_tables.specs.Stands.{CountStands, EditorsStand, FullStands, GroupsStand, HouseStands, phase_in, group_in, meant_in}
use Rattle.group_laws.specs.group_rows.specs.ExitRows.{is_full}
use Rattle.mux_tables.proofs.Counted.{counted_set, next_more}
use Rattle.mux_tables.proofs.Fulls.{full_more, full_set}
use Rattle.mux_tables.proofs.Frames.{desk_apart, meant_apart}
use Rattle.mux_tables.proofs.Named.{goes_so, meant_by, named_by, named_first}
use Rattle.event_model.proofs.Frames.{one_more}

hears_desk : (p : Phase) (initialize body : List ℕ) (m : Message) → p ≡ New → requests (codes "initialize") m ≡ true → desk_hears p initialize body m ≡ record { phase = Waiting; initialize = body }
hears_desk p initialize body m n h = rw (n, h) refl

hears_first : (p : Phase) (initialize body : List ℕ) (m : Message) → p ≡ New → requests (codes "initialize") m ≡ true → (desk_hears p initialize body m).phase ≡ Waiting
hears_first p initialize body m n h = rw (n, h) refl

places_first : (p : Phase) (m : Message) → p ≡ New → requests (codes "initialize") m ≡ true → places p m ≡ true
places_first p m n h = rw (n, h) refl

module _ (settings : Settings) (events : List Event) (e : ℕ) (body : List ℕ) (m : Message) (first : requests (codes "initialize") m ≡ true) where
  -- where the groups are these
  abbrev pub placed : List Kept → Placed
  placed groups = placed_for settings events e body groups

  placed_editors : (t u : List Session) (groups : List Kept) (x y : Session) → groups_of settings events ≡ groups → slice_get t e ≡ Some x → x.phase ≡ New → u ≡ slice_set t e y → y.phase ≡ Waiting → y.group ≡ home_by (placed groups) x.group → ((g : ℕ) → home_by (placed groups) None ≡ Some g → y.id ≡ Some (id_bytes body)) → y.asks ≡ x.asks → y.full ≡ x.full
      → EditorsStand settings t events → EditorsStand settings u (events ++ took (FromEditor e body) m ∷ [])
  placed_editors t u groups x y now at new is waits home keeps asks shows s = record {
    count = one_more editors_behind _ _ events (took (FromEditor e body) m) s.count ∙ (sym (length-set t e y) ∙ ap length (sym is));
    phase = λ n. ap (λ (d : Desk). d.phase) (one_more (desk_behind n) _ _ events (took (FromEditor e body) m) refl) ∙ (phase_at n (compare e n) ∙ ap (λ z. phase_in (slice_get z n)) (sym is));
    home = λ n. home_more settings n events (took (FromEditor e body) m) ∙ (home_at n (compare e n) ∙ ap (λ z. group_in (slice_get z n)) (sym is));
    names = λ n. named_by (goes_so (one_more (desk_behind n) _ _ events (took (FromEditor e body) m) refl)) (home_more settings n events (took (FromEditor e body) m)) (ap (λ z. id_in (slice_get z n)) is) (named n (compare e n));
    meant = λ n. meant_at n (compare e n);
    asked = λ n. subst (λ (z : List Session). CountStands (slice_get z n) (next_ask n (events ++ took (FromEditor e body) m ∷ []))) (sym is)
        (counted_set t e x y at (λ there. (ap is_gone new, asks)) n (next_ask n events) (next_ask n (events ++ took (FromEditor e body) m ∷ [])) (next_more n events (took (FromEditor e body) m)) (s.asked n));
    full = λ n. subst (λ (z : List Session). FullStands (slice_get z n) (λ u. is_full n u (events ++ took (FromEditor e body) m ∷ []))) (sym is)
        (full_set t e x y at (λ there. (ap is_gone new, shows)) n (λ u. is_full n u events) (λ u. is_full n u (events ++ took (FromEditor e body) m ∷ [])) (λ u. full_more n u events (took (FromEditor e body) m)) (s.full n));
  }
    where
      was_new : (desk_of e events).phase ≡ New
      was_new = s.phase e ∙ (ap phase_in at ∙ new)

      here : slice_get (slice_set t e y) e ≡ Some y
      here = get_set_same t e y (slice_get_within t e x at)

      phase_at : (n : ℕ) → Same e n → (if nat_eq e n then desk_hears (desk_of n events).phase (desk_of n events).initialize body m else desk_of n events).phase ≡ phase_in (slice_get (slice_set t e y) n)
      phase_at _ same = rw (itself e, here) (hears_first (desk_of e events).phase (desk_of e events).initialize body m was_new first ∙ sym waits)
      phase_at n (other h) = rw (ne_eqb e n (λ q. h (sym q)), get_set_other t e n y h) (s.phase n)

      home_at : (n : ℕ) → Same e n → (if nat_eq e n && places (desk_of e events).phase m then home_by (placed (groups_of settings events)) (home_of settings n events) else home_of settings n events) ≡ group_in (slice_get (slice_set t e y) n)
      home_at _ same = rw (itself e, here, places_first (desk_of e events).phase m was_new first) (ap (λ gs. home_by (placed gs) (home_of settings e events)) now ∙ (ap (home_by (placed groups)) (s.home e ∙ ap group_in at) ∙ sym home))
      home_at n (other h) = rw (ne_eqb e n (λ q. h (sym q)), get_set_other t e n y h) (s.home n)

      now_waits : (desk_of e (events ++ took (FromEditor e body) m ∷ [])).phase ≡ Waiting
      now_waits = ap (λ (d : Desk). d.phase) (one_more (desk_behind e) _ _ events (took (FromEditor e body) m) refl)
          ∙ rw (itself e) (hears_first (desk_of e events).phase (desk_of e events).initialize body m was_new first)

      meant_at : (n : ℕ) → Same e n → (desk_of n (events ++ took (FromEditor e body) m ∷ [])).phase ≡ New → meant_in (slice_get u n) ≡ meant_of settings.servers n (events ++ took (FromEditor e body) m ∷ [])
      meant_at _ same w = absurd (let k : Waiting ≡ New = sym now_waits ∙ w in cc)
      meant_at n (other h) w = meant_by (goes_so (desk_apart e n body m events (ne_eqb e n (λ q. h (sym q))))) (ap (λ z. meant_in (slice_get z n)) is ∙ ap meant_in (get_set_other t e n y h))
          (meant_apart settings.servers e n body m events (ne_eqb e n (λ q. h (sym q)))) (s.meant n) w

      named : (n : ℕ) → Same e n → NameStands (if nat_eq e n then desk_hears (desk_of n events).phase (desk_of n events).initialize body m else desk_of n events)
          (if nat_eq e n && places (desk_of e events).phase m then home_by (placed (groups_of settings events)) (home_of settings n events) else home_of settings n events) (id_in (slice_get (slice_set t e y) n))
      named _ same = rw (itself e, here, places_first (desk_of e events).phase m was_new first, hears_desk (desk_of e events).phase (desk_of e events).initialize body m was_new first, now)
          (named_first (desk_of e events) _ (placed groups) body was_new (s.names e) keeps)
      named n (other h) = rw (ne_eqb e n (λ q. h (sym q)), get_set_other t e n y h) (s.names n)

  placed_groups : (t u : Table) → (desk_of e events).phase ≡ New → u.limit ≡ t.limit → u.idle ≡ t.idle
      → u.groups ≡ with_editor (placed_in t.limit (key_for settings events e body) (declared_for settings events e body) t.groups) (key_for settings events e body) (declared_for settings events e body) t.groups
      → GroupsStand settings t events → GroupsStand settings u (events ++ took (FromEditor e body) m ∷ [])
  placed_groups t u new l i is s =
      let k = key_for settings events e body in
      let d = declared_for settings events e body in
      record {
        groups = groups_more settings events (took (FromEditor e body) m)
            ∙ (ap (λ b. if b then with_editor (placed (groups_of settings events)) k d (groups_of settings events) else if stops events e m then end_where is_live (groups_of settings events) else groups_of settings events) (places_first (desk_of e events).phase m new first)
            ∙ (ap (λ gs. with_editor (placed_in settings.limits.groups k d gs) k d gs) s.groups
            ∙ (ap (λ n. with_editor (placed_in n k d t.groups) k d t.groups) s.limit ∙ sym is)));
        limit = s.limit ∙ sym l;
        idle = s.idle ∙ sym i;
      }

  pub initialize_moves : (t u : Tables) (x y : Session) → slice_get t.editors e ≡ Some x → x.phase ≡ New → u.editors ≡ slice_set t.editors e y → y.phase ≡ Waiting
      → ((g : ℕ) → home_by (placed_in t.groups.limit (key_for settings events e body) (declared_for settings events e body) t.groups.groups) None ≡ Some g → y.id ≡ Some (id_bytes body))
      → y.group ≡ home_by (placed_in t.groups.limit (key_for settings events e body) (declared_for settings events e body) t.groups.groups) x.group
      → u.groups.groups ≡ with_editor (placed_in t.groups.limit (key_for settings events e body) (declared_for settings events e body) t.groups.groups) (key_for settings events e body) (declared_for settings events e body) t.groups.groups
      → u.groups.limit ≡ t.groups.limit → u.groups.idle ≡ t.groups.idle → u.course ≡ t.course → y.asks ≡ x.asks → y.full ≡ x.full
      → HouseStands settings t events → HouseStands settings u (events ++ took (FromEditor e body) m ∷ [])
  initialize_moves t u x y at new es waits keeps home gs l i k asks shows s = record {
    editors = placed_editors t.editors u.editors t.groups.groups x y s.groups.groups at new es waits (home ∙ ap (λ n. home_by (placed_in n (key_for settings events e body) (declared_for settings events e body) t.groups.groups) x.group) (sym s.groups.limit))
        (λ g q. keeps g (ap (λ n. home_by (placed_in n (key_for settings events e body) (declared_for settings events e body) t.groups.groups) None) (sym s.groups.limit) ∙ q)) asks shows s.editors;
    groups = placed_groups t.groups u.groups (s.editors.phase e ∙ (ap phase_in at ∙ new)) l i gs s.groups;
    now = one_more time_behind _ _ events (took (FromEditor e body) m) s.now ∙ ap (λ (c : Course). c.time) (sym k);
    halted = stopped_quiet events e body m (initialize_goes events e m first) ∙ (s.halted ∙ ap (λ (c : Course). c.stopped) (sym k));
  }
