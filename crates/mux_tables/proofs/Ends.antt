-- Groups end in their order; a start of a group ends.
use Rattle.std.proofs.Common.{◌≡◌, ℕ, ◌+◌, ◌<◌, max, Bool, true, false, List, [], ◌∷◌, ◌++◌, length, take, get_or, refl, ap, sym, subst, ◌∙◌, append_assoc, if◌then◌else◌}
use Rattle.std.proofs.lemmas.List.{length-append, take_more}
use Rattle.mux_history.specs.declared.cause.Cause.TheVariants.{Tick}
use Rattle.rpc_message.specs.Message.{Message}
use Rattle.event_model.specs.Event.{Event, took}
use Rattle.event_model.specs.Settings.{Settings}
use Rattle.group_words.specs.declared.kept.Kept.{Kept}
use Rattle.group_words.specs.Placing.{all_from, changed, ended, end_where, is_due}
use Rattle.group_words.specs.Houses.{groups_of, time_of}
use Rattle.group_words.proofs.Frames.{groups_more}
use Rattle.group_laws.specs.group_rows.specs.Ticks.{due_of}
use Rattle.group_table.specs.Tables.{Table, with_groups}
use Rattle.mux_tables.specs.declared.tables.Course.{Course}
use Rattle.mux_tables.proofs.Halted.{stopped_past}
use Rattle.mux_tables.specs.declared.tables.Tables.{Tables}
use Rattle.mux_tables.specs.Stands.{EditorsStand, HouseStands, ends}
use Rattle.event_model.proofs.Frames.{one_more}
use Rattle.mux_tables.proofs.Frames.{editors_stand}

changed_past : (f : Kept → Kept) (ps : List Kept) (y : Kept) (ys : List Kept) → changed (length ps) f (ps ++ y ∷ ys) ≡ ps ++ f y ∷ ys
changed_past f [] y ys = refl
changed_past f (p ∷ ps) y ys = ap (λ zs. p ∷ zs) (changed_past f ps y ys)

module _ (test : Kept → Bool) where
  ends_past : (ps ys : List Kept) (i : ℕ) → i ≡ length ps → ends (all_from i test ys) (ps ++ ys) ≡ ps ++ end_where test ys
  ends_past ps [] i e = refl
  ends_past ps (y ∷ ys) i e = by_test (test y) (λ z. ap (ends (all_from (i + 1) test ys)) (sym (append_assoc ps (z ∷ []) ys)) ∙ (ends_past (ps ++ z ∷ []) ys (i + 1) (ap (λ n. n + 1) e ∙ sym (length-append ps (z ∷ []))) ∙ append_assoc ps (z ∷ []) (end_where test ys)))
    where
      by_test : (b : Bool) → ((z : Kept) → ends (all_from (i + 1) test ys) (ps ++ z ∷ ys) ≡ ps ++ z ∷ end_where test ys) → ends (if b then i ∷ all_from (i + 1) test ys else all_from (i + 1) test ys) (ps ++ y ∷ ys) ≡ ps ++ (if b then ended y else y) ∷ end_where test ys
      by_test true next = ap (λ n. ends (all_from (i + 1) test ys) (changed n ended (ps ++ y ∷ ys))) e ∙ (ap (ends (all_from (i + 1) test ys)) (changed_past ended ps y ys) ∙ next (ended y))
      by_test false next = next y

  -- the numbers that a test gives, ended in order, are the groups that meet it
  pub ends_all : (xs : List Kept) → ends (all_from 0 test xs) xs ≡ end_where test xs
  ends_all xs = ends_past [] xs 0 refl

pub tick_moves : (settings : Settings) (events : List Event) (now : ℕ) (m : Message) (t u : Tables) → u.editors ≡ t.editors → u.groups.limit ≡ t.groups.limit → u.groups.idle ≡ t.groups.idle → u.course ≡ record t.course { time = max t.course.time now }
    → u.groups.groups ≡ ends (all_from 0 (is_due t.groups.idle (max t.course.time now)) t.groups.groups) t.groups.groups
    → HouseStands settings t events → HouseStands settings u (events ++ took (Tick now) m ∷ [])
tick_moves settings events now m t u es l i k gs s = record {
  editors = subst (λ xs. EditorsStand settings xs (events ++ took (Tick now) m ∷ [])) (sym es) (editors_stand settings t.editors events (took (Tick now) m) refl s.editors);
  groups = record {
    groups = groups_more settings events (took (Tick now) m)
        ∙ (ap (λ n. end_where (is_due n (max (time_of events) now)) (groups_of settings events)) s.groups.idle
        ∙ (ap (λ n. end_where (is_due t.groups.idle (max n now)) (groups_of settings events)) s.now
        ∙ (ap (end_where (is_due t.groups.idle (max t.course.time now))) s.groups.groups ∙ (sym (ends_all (is_due t.groups.idle (max t.course.time now)) t.groups.groups) ∙ sym gs))));
    limit = s.groups.limit ∙ sym l;
    idle = s.groups.idle ∙ sym i;
  };
  now = one_more _ _ _ events (took (Tick now) m) s.now ∙ ap (λ (c : Course). c.time) (sym k);
  halted = stopped_past events (took (Tick now) m) refl ∙ (s.halted ∙ ap (λ (c : Course). c.stopped) (sym k));
}

pub ends_more : (gs : List ℕ) (g : ℕ) (xs : List Kept) → ends (gs ++ g ∷ []) xs ≡ changed g ended (ends gs xs)
ends_more [] g xs = refl
ends_more (w ∷ gs) g xs = ends_more gs g (changed w ended xs)

pub ends_next : (t u v : Table) (ns : List ℕ) (i d : ℕ) → i < length ns → u ≡ with_groups (ends (take i ns) t.groups) t → v ≡ with_groups (changed (get_or ns i d) ended u.groups) u → v ≡ with_groups (ends (take (i + 1) ns) t.groups) t
ends_next t u v ns i d h one two =
    two ∙ (ap (λ (w : Table). with_groups (changed (get_or ns i d) ended w.groups) w) one ∙ ap (λ gs. with_groups gs t) (sym (ends_more (take i ns) (get_or ns i d) t.groups) ∙ ap (λ ms. ends ms t.groups) (sym (take_more ns i d h))))

pub tick_heard : (settings : Settings) (events : List Event) (now later : ℕ) (m : Message) (t u : Tables) (ns : List ℕ) → later ≡ max t.course.time now → u.editors ≡ t.editors → u.course ≡ record t.course { time = later } → ns ≡ all_from 0 (is_due t.groups.idle later) t.groups.groups → u.groups ≡ with_groups (ends ns t.groups.groups) t.groups
    → HouseStands settings t events → HouseStands settings u (events ++ took (Tick now) m ∷ [])
tick_heard settings events now later m t u ns l es k n gs s =
    tick_moves settings events now m t u es (ap (λ (w : Table). w.limit) gs) (ap (λ (w : Table). w.idle) gs) (k ∙ ap (λ n. record t.course { time = n }) l)
    (ap (λ (w : Table). w.groups) gs ∙ (ap (λ ms. ends ms t.groups.groups) n ∙ ap (λ z. ends (all_from 0 (is_due t.groups.idle z) t.groups.groups) t.groups.groups) l)) s

-- the groups that end at a tick
pub due_seen : (settings : Settings) (events : List Event) (now later : ℕ) (t : Tables) (ns : List ℕ) → later ≡ max t.course.time now → ns ≡ all_from 0 (is_due t.groups.idle later) t.groups.groups → HouseStands settings t events → ns ≡ due_of settings events now
due_seen settings events now later t ns l n s = n ∙ ap (λ z. all_from 0 (is_due t.groups.idle z) t.groups.groups) l ∙ ap (λ z. all_from 0 (is_due t.groups.idle (max z now)) t.groups.groups) (sym s.now)
    ∙ ap (λ z. all_from 0 (is_due z (max (time_of events) now)) t.groups.groups) (sym s.groups.idle) ∙ ap (all_from 0 (is_due settings.limits.idle (max (time_of events) now))) (sym s.groups.groups)
