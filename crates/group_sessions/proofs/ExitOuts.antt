-- What the row of an exit sends: an out that a part of it sends is among its outs.
use Rattle.std.proofs.Common.{◌≡◌, ℕ, ◌+◌, ◌<◌, ◌≤◌, ap, ap₂, arith, ◌∙◌, Bool, true, false, cond, ◌&&◌, ◌||◌, List, [], ◌∷◌, ◌++◌, filter, nat_eq, Option, Some, None, ◌⊎◌, inl, inr, refl, sym, subst}
use Rattle.std.specs.Prelude.{slice_get}
use Rattle.std.specs.List.{AllByRecursion, list_any}
use Rattle.std.specs.Option.{option_map_or}
use Rattle.std.proofs.lemmas.Bool.{and_parts}
use Rattle.mux_history.specs.declared.out.Out.{Out}
use Rattle.event_model.specs.Event.{Event, behind}
use Rattle.event_model.specs.Phases.{desk_of, editors_of, is_begun}
use Rattle.event_model.specs.Row.{Row, choose, each, nothing, outs}
use Rattle.event_model.specs.Settings.{Settings}
use Rattle.event_model.specs.Spawns.{group_of}
use Rattle.event_model.specs.Stages.{is_ready, life_of}
use Rattle.event_model.proofs.Frames.{never}
use Rattle.mux_facts.proofs.Editors.{Editors}
use Rattle.mux_facts.proofs.Words.{number_same}
use Rattle.group_words.specs.declared.kept.Kept.{Kept}
use Rattle.group_words.specs.Houses.{groups_of, home_of, is_home}
use Rattle.group_words.specs.Rows.{spawn}
use Rattle.group_rows.specs.Asks.{members_in, running_in}
use Rattle.group_rows.specs.ExitRows.{lose_sent, lose_start, lost_row, starts_again, turn_out}
use Rattle.group_facts.specs.Facts.{is_in}
use Rattle.group_facts.proofs.PutOut.{named_in}
use Rattle.group_facts.proofs.Sent.{OneOf}
use Rattle.group_sessions.specs.ExitReplay.{is_housed, is_member}

-- One of a list

module _ {X : Type 0} where
  pub any_first : (test : X → Bool) (xs ys : List X) → list_any test xs ≡ true → list_any test (xs ++ ys) ≡ true
  any_first test [] ys h = never (sym h)
  any_first test (x ∷ xs) ys h = go (test x) h (λ k. any_first test xs ys k)
    where
      go : (b : Bool) → (b || list_any test xs) ≡ true → (list_any test xs ≡ true → list_any test (xs ++ ys) ≡ true) → (b || list_any test (xs ++ ys)) ≡ true
      go true k rest = refl
      go false k rest = rest k

  pub any_second : (test : X → Bool) (xs ys : List X) → list_any test ys ≡ true → list_any test (xs ++ ys) ≡ true
  any_second test [] ys h = h
  any_second test (x ∷ xs) ys h = go (test x) (any_second test xs ys h)
    where
      go : (b : Bool) → list_any test (xs ++ ys) ≡ true → (b || list_any test (xs ++ ys)) ≡ true
      go true rest = refl
      go false rest = rest

  -- what passes a test stays where those that pass it are kept
  pub one_kept : (test : X → Bool) (P : X → Type 0) → ((x : X) → P x → test x ≡ true) → (xs : List X) → OneOf P xs → OneOf P (filter test xs)
  one_kept test P keep [] h = h
  one_kept test P keep (x ∷ xs) (inl p) = subst (λ b. OneOf P (cond b (x ∷ filter test xs) (filter test xs))) (sym (keep x p)) (inl p)
  one_kept test P keep (x ∷ xs) (inr q) = go (test x) (one_kept test P keep xs q)
    where
      go : (b : Bool) → OneOf P (filter test xs) → OneOf P (cond b (x ∷ filter test xs) (filter test xs))
      go true k = inr k
      go false k = k

  -- what holds of each that is one of them holds of all
  pub all_ones : (P : X → Type 0) (xs : List X) → ((x : X) → OneOf (λ (y : X). y ≡ x) xs → P x) → AllByRecursion P xs
  all_ones P [] f = tt
  all_ones P (x ∷ xs) f = (f x (inl refl), all_ones P xs (λ y k. f y (inr k)))

  pub all_of_one : (P : X → Type 0) (x : X) (xs : List X) → AllByRecursion P xs → OneOf (λ (y : X). y ≡ x) xs → P x
  all_of_one P x [] all one = absurd one
  all_of_one P x (y ∷ xs) all (inl same) = subst P same all.0
  all_of_one P x (y ∷ xs) all (inr one) = all_of_one P x xs all.1 one

module _ {X : Type 0} where
  pub one_has : (P : X → Type 0) (x : X) → P x → (xs : List X) → OneOf (λ (y : X). y ≡ x) xs → OneOf P xs
  one_has P x p [] k = k
  one_has P x p (y ∷ xs) (inl same) = inl (subst P (sym same) p)
  one_has P x p (y ∷ xs) (inr k) = inr (one_has P x p xs k)

-- the row of one sends such an out, so those of all do
pub any_each : {X : Type 0} (test : Out → Bool) (row : X → Row) (P : X → Type 0) → ((x : X) (events : List Event) → P x → list_any test (outs (row x) events) ≡ true) → (xs : List X) → OneOf P xs → (events : List Event) → list_any test (outs (each row xs) events) ≡ true
any_each test row P sends [] one events = absurd one
any_each test row P sends (x ∷ xs) (inl p) events = any_first test (outs (row x) events) (outs (each row xs) (behind events (outs (row x) events))) (sends x events p)
any_each test row P sends (x ∷ xs) (inr q) events = any_second test (outs (row x) events) (outs (each row xs) (behind events (outs (row x) events))) (any_each test row P sends xs q (behind events (outs (row x) events)))

pub one_named : (e : ℕ) (es : List ℕ) → list_any (λ n. nat_eq n e) es ≡ true → OneOf (λ (n : ℕ). n ≡ e) es
one_named e [] h = never (sym h)
one_named e (n ∷ es) h = go (nat_eq n e) refl h (λ k. one_named e es k)
  where
    go : (b : Bool) → nat_eq n e ≡ b → (b || list_any (λ k. nat_eq k e) es) ≡ true → (list_any (λ k. nat_eq k e) es ≡ true → OneOf (λ (k : ℕ). k ≡ e) es) → (n ≡ e) ⊎ OneOf (λ (k : ℕ). k ≡ e) es
    go true same k rest = inl (number_same n e same)
    go false other k rest = inr (rest k)

-- The group of the start lives

pub record Lives (settings : Settings) (before : List Event) (s : ℕ) : Type 0 where
  pub group : ℕ
  pub home : group_of s before ≡ Some group
  pub kept : Kept
  pub found : slice_get (groups_of settings before) group ≡ Some kept
  pub live : kept.live ≡ true

pub lives_parts : (settings : Settings) (before : List Event) (s : ℕ) → is_housed settings before s ≡ true → Lives settings before s
lives_parts settings before s h = go (group_of s before) refl h
  where
    at_kept : (g : ℕ) → group_of s before ≡ Some g → (o : Option Kept) → slice_get (groups_of settings before) g ≡ o → option_map_or (λ (x : Kept). x.live) o false ≡ true → Lives settings before s
    at_kept g home None found h = never (sym h)
    at_kept g home (Some x) found h = record { group = g; home = home; kept = x; found = found; live = h }

    go : (o : Option ℕ) → group_of s before ≡ o → option_map_or (λ g. option_map_or (λ (x : Kept). x.live) (slice_get (groups_of settings before) g) false) o false ≡ true → Lives settings before s
    go None none h = never (sym h)
    go (Some g) home h = at_kept g home (slice_get (groups_of settings before) g) refl h

-- an editor of it is among its editors
pub member_named : (settings : Settings) (before : List Event) (s : ℕ) (k : Lives settings before s) → Editors before → (e : ℕ) → is_member settings before s e ≡ true → list_any (λ n. nat_eq n e) (members_in settings k.group before) ≡ true
member_named settings before s k editors e member = named_in (λ n. is_begun (desk_of n before).phase && is_home k.group (home_of settings n before)) 0 (editors_of before) e (omega arith) joined
    (ap₂ (λ a b. a && b) p.0 (sym (ap (λ o. option_map_or (λ g. is_home g (home_of settings e before)) o false) k.home) ∙ p.1))
  where
    p : (is_begun (desk_of e before).phase ≡ true) × (is_in settings before s e ≡ true)
    p = and_parts (is_begun (desk_of e before).phase) (is_in settings before s e) member

    joined : e < 0 + editors_of before
    joined = let known : editors_of before ≤ e → ⊥ = λ le. never (sym p.0 ∙ ap is_begun (editors e le)) in omega (arith, known)

-- X1, then X2 and X3
module _ (settings : Settings) (before : List Event) (s : ℕ) (k : Lives settings before s) (now : List Event) where
  abbrev pub errors : List Out
  errors = outs (each (lose_sent settings before s) (members_in settings k.group before)) now

  abbrev pub told : List Event
  told = behind now errors

  abbrev pub losing : Row
  losing = choose (is_ready (life_of s before).stage) (each (lose_start settings before s) (running_in settings k.group before)) nothing

  abbrev pub losses : List Out
  losses = outs losing told

  abbrev pub ending : Row
  ending = choose (starts_again settings before k.group k.kept) (spawn k.group) (each (turn_out settings k.group) (members_in settings k.group before))

  pub exit_parts : outs (lost_row settings before s) now ≡ errors ++ (losses ++ outs ending (behind told losses))
  exit_parts = rw (k.home, k.found, k.live) refl
