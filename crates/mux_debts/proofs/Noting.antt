-- S9: what a table of debts has behind a start's request for a refresh.
use Rattle.std.proofs.Common.{length, map, ◌≡◌, ℕ, zero, suc, ◌+◌, ◌<◌, ◌≤◌, Bool, true, false, not, ◌&&◌, cond, filter, List, [], ◌∷◌, nat_eq, if◌then◌else◌, refl, ap, sym, subst, ◌∙◌, arith}
use Rattle.std.specs.Prelude.{Option, Some, slice_get}
use Rattle.std.specs.List.{AllByRecursion, range_with_len}
use Rattle.std.specs.Option.{option_map_or}
use Rattle.std.proofs.lemmas.Bool.{and_parts}
use Rattle.std.proofs.lemmas.Bool.Decides.{nat_tests}
use Rattle.json_text.specs.Json.{Json}
use Rattle.lsp_method.specs.declared.variants.Class.{Class}
use Rattle.lsp_method.specs.declared.variants.Class.TheVariants.{Refresh}
use Rattle.mux_history.specs.declared.cause.Cause.TheVariants.{FromServer}
use Rattle.rpc_message.specs.Message.{Id, Message, message_of, request, notification, result, error, not_json, not_message}
use Rattle.rpc_message.specs.declared.sort.Sort.{Sort}
use Rattle.rpc_message.specs.declared.sort.Sort.TheVariants as sort
use Rattle.rpc_message.specs.Sorts.{sort_of}
use Rattle.event_model.specs.Event.{Event, heard, with_cause}
use Rattle.event_model.specs.declared.stage.Stage.{Stage}
use Rattle.event_model.specs.declared.stage.Stage.TheVariants.{Ready}
use Rattle.event_model.specs.Phases.{desk_of, editors_of, is_malformed, is_running}
use Rattle.event_model.specs.Settings.{Settings}
use Rattle.event_model.specs.Spawns.{group_of}
use Rattle.event_model.specs.Stages.{Life, is_ready, life_of}
use Rattle.event_model.proofs.Frames.{never}
use Rattle.refresh_debts.specs.declared.debts.Debt.{Debt}
use Rattle.refresh_debts.specs.Tables.{of}
use Rattle.refresh_debts.proofs.Parts.{owed_of, owed_other, settled_of, settled_other}
use Rattle.group_words.specs.Houses.{home_of, is_home}
use Rattle.group_rows.specs.Asks.{asking_of, is_taken, running_in}
use Rattle.group_rows.specs.Debts.{agrees_on_all, asks_anew, debt_of, debts_asked, names_refresh, owed_by, runs_at, wants_refresh}
use Rattle.mux_turns.specs.group_facts.specs.Facts.{NoEditors}
use Rattle.mux_tables.specs.declared.tables.Start.{Start}
use Rattle.mux_tables.specs.declared.tables.Tables.{Tables}
use Rattle.mux_tables.specs.Stands.{Stands, is_over, number_in, of_life}
use Rattle.mux_tables.proofs.Starts.{start_at_place, start_there}
use Rattle.mux_debts.specs.Noted.{all_noted, noted, wants}
use Rattle.mux_debts.specs.Stands.{DebtsStand}
use Rattle.mux_debts.proofs.Standing.{step_stands}

same_number : (n k : ℕ) → nat_eq n k ≡ true → n ≡ k
same_number n k h = grind (arith, nat_tests)

itself : (n : ℕ) → nat_eq n n ≡ true
itself n = grind (arith, nat_tests)

module _ (settings : Settings) (n : ℕ) (events : List Event) (body method : List ℕ) where
  abbrev agreed : ℕ → Bool
  agreed e = agrees_on_all settings n events e

  abbrev debt : ℕ → Debt
  debt e = debt_of n e method body

  -- of one editor
  one_other : (s e k : ℕ) (ds : List Debt) → (nat_eq n s && nat_eq k e) ≡ false → of s e (noted settings n events body method ds k) ≡ of s e ds
  one_other s e k ds off = go (agreed k)
    where
      go : (a : Bool) → of s e (owed_by a (debt k) ds) ≡ of s e ds
      go true = settled_other s e n k method ds off
      go false = owed_other s e (debt k) ds off

  one_own : (k : ℕ) (ds : List Debt) → of n k (noted settings n events body method ds k) ≡ owed_by (agreed k) (debt k) (of n k ds)
  one_own k ds = go (agreed k)
    where
      go : (a : Bool) → of n k (owed_by a (debt k) ds) ≡ owed_by a (debt k) (of n k ds)
      go true = settled_of n k method ds
      go false = owed_of (debt k) ds

  -- of several
  all_other : (s e : ℕ) (es : List ℕ) (ds : List Debt) → AllByRecursion (λ k. (nat_eq n s && nat_eq k e) ≡ false) es → of s e (all_noted settings n events body method es ds) ≡ of s e ds
  all_other s e [] ds off = refl
  all_other s e (k ∷ es) ds off = all_other s e es (noted settings n events body method ds k) off.1 ∙ one_other s e k ds off.0

  aside : (s e : ℕ) (es : List ℕ) → nat_eq n s ≡ false → AllByRecursion (λ k. (nat_eq n s && nat_eq k e) ≡ false) es
  aside s e [] off = tt
  aside s e (k ∷ es) off = (ap (λ b. b && nat_eq k e) off, aside s e es off)

  past : (s e : ℕ) (keep : ℕ → Bool) (from len : ℕ) → e < from → AllByRecursion (λ k. (nat_eq n s && nat_eq k e) ≡ false) (filter keep (range_with_len from len))
  past s e keep from zero low = tt
  past s e keep from (suc len) low = go (keep from) (past s e keep (from + 1) len (omega (arith, low)))
    where
      first : (nat_eq n s && nat_eq from e) ≡ false
      first = two (nat_eq n s) (grind (arith, nat_tests))
        where
          two : (b : Bool) → nat_eq from e ≡ false → (b && nat_eq from e) ≡ false
          two true off = off
          two false off = refl

      go : (b : Bool) → AllByRecursion (λ k. (nat_eq n s && nat_eq k e) ≡ false) (filter keep (range_with_len (from + 1) len)) → AllByRecursion (λ k. (nat_eq n s && nat_eq k e) ≡ false) (cond b (from ∷ filter keep (range_with_len (from + 1) len)) (filter keep (range_with_len (from + 1) len)))
      go true rest = (first, rest)
      go false rest = rest

  in_range : (keep : ℕ → Bool) (from len e : ℕ) (ds : List Debt) → from ≤ e → (keep e ≡ true → e < from + len)
      → of n e (all_noted settings n events body method (filter keep (range_with_len from len)) ds) ≡ (if keep e then owed_by (agreed e) (debt e) (of n e ds) else of n e ds)
  in_range keep from zero e ds low high = go (keep e) refl
    where
      go : (b : Bool) → keep e ≡ b → of n e ds ≡ (if b then owed_by (agreed e) (debt e) (of n e ds) else of n e ds)
      go true on = let below : e < from + 0 = high on in absurd (omega (arith, low, below))
      go false off = refl
  in_range keep from (suc len) e ds low high = go (nat_eq from e) refl (keep from) refl (λ above xs. in_range keep (from + 1) len e xs above (λ on. let below : e < from + suc len = high on in omega (arith, below)))
    where
      rest : List ℕ
      rest = filter keep (range_with_len (from + 1) len)

      Later : Type 0
      Later = from + 1 ≤ e → (xs : List Debt) → of n e (all_noted settings n events body method rest xs) ≡ (if keep e then owed_by (agreed e) (debt e) (of n e xs) else of n e xs)

      Goal : ℕ → List ℕ → Type 0
      Goal j es = of n j (all_noted settings n events body method es ds) ≡ (if keep j then owed_by (agreed j) (debt j) (of n j ds) else of n j ds)

      above : nat_eq from e ≡ false → from + 1 ≤ e
      above off = grind (arith, nat_tests)

      go : (a : Bool) → nat_eq from e ≡ a → (b : Bool) → keep from ≡ b → Later → Goal e (cond b (from ∷ rest) rest)
      go true same true on later = subst (λ j. Goal j (from ∷ rest)) (same_number from e same)
          (all_other n from rest (noted settings n events body method ds from) (past n from keep (from + 1) len (omega arith))
          ∙ (one_own from ds ∙ sym (ap (λ c. if c then owed_by (agreed from) (debt from) (of n from ds) else of n from ds) on)))
      go true same false off later = subst (λ j. Goal j rest) (same_number from e same)
          (all_other n from rest ds (past n from keep (from + 1) len (omega arith)) ∙ sym (ap (λ c. if c then owed_by (agreed from) (debt from) (of n from ds) else of n from ds) off))
      go false off true on later = later (above off) (noted settings n events body method ds from)
          ∙ ap (λ xs. if keep e then owed_by (agreed e) (debt e) xs else xs) (one_other n e from ds (ap (λ b. nat_eq n n && b) off ∙ and_off (nat_eq n n)))
        where
          and_off : (a : Bool) → (a && false) ≡ false
          and_off true = refl
          and_off false = refl
      go false off false left later = later (above off) ds

-- the start wants it, and it was noted of each editor that runs in its group
module _ (settings : Settings) (rows : List Debt) (events : List Event) (st : DebtsStand settings rows events) (n : ℕ) (body : List ℕ) where
  pub noted_stands : (method : List ℕ) (id : Id) (params : Option Json) (g : ℕ) → message_of body ≡ request id method params → asks_anew settings n events id method ≡ true → group_of n events ≡ Some g → NoEditors events
      → DebtsStand settings (all_noted settings n events body method (running_in settings g events) rows) (with_cause events (FromServer n body))
  noted_stands method id params g says anew home absent = step_stands settings rows events st new (heard (FromServer n body)) (λ s e. go s e (nat_eq n s) refl)
    where
      new : List Debt
      new = all_noted settings n events body method (running_in settings g events) rows

      keep : ℕ → Bool
      keep e = is_running (desk_of e events).phase && is_home g (home_of settings e events)

      joined : (e : ℕ) → keep e ≡ true → e < 0 + editors_of events
      joined e on =
          let runs = (and_parts (is_running (desk_of e events).phase) (is_home g (home_of settings e events)) on).0 in
          let known : editors_of events ≤ e → ⊥ = λ le. never (sym runs ∙ ap is_running (absent e le)) in
          omega (arith, known)

      own : (e : ℕ) → of n e new ≡ debts_asked settings n e events body (message_of body) (of n e rows)
      own e = in_range settings n events body method keep 0 (editors_of events) e rows (omega arith) (joined e)
          ∙ (ap (λ o. if is_running (desk_of e events).phase && option_map_or (λ g. is_home g (home_of settings e events)) o false then owed_by (agrees_on_all settings n events e) (debt_of n e method body) (of n e rows) else of n e rows) (sym home)
          ∙ (ap (λ b. if b && runs_at settings n events e then owed_by (agrees_on_all settings n events e) (debt_of n e method body) (of n e rows) else of n e rows) (sym anew)
          ∙ ap (λ m. debts_asked settings n e events body m (of n e rows)) (sym says)))

      go : (s e : ℕ) (b : Bool) → nat_eq n s ≡ b → of s e new ≡ (if b then debts_asked settings s e events body (message_of body) (of s e rows) else of s e rows)
      go s e true same = subst (λ j. of j e new ≡ debts_asked settings j e events body (message_of body) (of j e rows)) (same_number n s same) (own e)
      go s e false off = all_other settings n events body method s e (running_in settings g events) rows (aside settings n events body method s e (running_in settings g events) off)

  -- it doesn't
  pub unwanted_stands : wants settings n events (message_of body) ≡ false → DebtsStand settings rows (with_cause events (FromServer n body))
  unwanted_stands off = step_stands settings rows events st rows (heard (FromServer n body)) (λ s e. go s e (nat_eq n s) refl)
    where
      unasked : (e : ℕ) (m : Message) (ds : List Debt) → wants settings n events m ≡ false → ds ≡ debts_asked settings n e events body m ds
      unasked e (request id method params) ds h = sym (ap (λ b. if b && runs_at settings n events e then owed_by (agrees_on_all settings n events e) (debt_of n e method body) ds else ds) h)
      unasked e (notification method params) ds h = refl
      unasked e (result id r) ds h = refl
      unasked e (error id x) ds h = refl
      unasked e not_json ds h = refl
      unasked e not_message ds h = refl

      go : (s e : ℕ) (b : Bool) → nat_eq n s ≡ b → of s e rows ≡ (if b then debts_asked settings s e events body (message_of body) (of s e rows) else of s e rows)
      go s e true same = subst (λ j. of j e rows ≡ debts_asked settings j e events body (message_of body) (of j e rows)) (same_number n s same) (unasked e (message_of body) (of n e rows) off)
      go s e false other = refl

  -- nor one that isn't ready
  pub unready_stands : is_ready (life_of n events).stage ≡ false → DebtsStand settings rows (with_cause events (FromServer n body))
  unready_stands idle = unwanted_stands (by_message (message_of body))
    where
      last_off : (a : Bool) → (a && false) ≡ false
      last_off true = refl
      last_off false = refl

      by_message : (m : Message) → wants settings n events m ≡ false
      by_message (request id method params) = ap (λ b. wants_refresh method && (b && not (is_taken (Some id) (asking_of settings n events)))) idle ∙ last_off (wants_refresh method)
      by_message (notification method params) = refl
      by_message (result id r) = refl
      by_message (error id x) = refl
      by_message not_json = refl
      by_message not_message = refl

  -- nor one that says nothing
  pub malformed_noted : is_malformed (message_of body) ≡ true → DebtsStand settings rows (with_cause events (FromServer n body))
  malformed_noted bad = unwanted_stands (by_message (message_of body) bad)
    where
      by_message : (m : Message) → is_malformed m ≡ true → wants settings n events m ≡ false
      by_message not_json h = refl
      by_message not_message h = refl
      by_message (notification method params) h = refl
      by_message (result id r) h = refl
      by_message (error id x) h = refl
      by_message (request id method params) h = never (sym h)

-- one that is over isn't ready
pub over_idle : (stage : Stage) → is_over stage ≡ true → is_ready stage ≡ false
over_idle Ready h = never (sym h)
over_idle other h = refl

-- By their sorts

-- a request
pub record Asks (m : Message) : Type 0 where
  pub id : Id
  pub method : List ℕ
  pub params : Option Json
  pub is : m ≡ request id method params

pub asks_by_sort : (m : Message) → sort_of m ≡ Some sort.Request → Asks m
asks_by_sort (request id method params) h = record { id = id; method = method; params = params; is = refl }
asks_by_sort (notification method params) h = absurd (cc)
asks_by_sort (result id r) h = absurd (cc)
asks_by_sort (error id r) h = absurd (cc)
asks_by_sort not_json h = absurd (cc)
asks_by_sort not_message h = absurd (cc)

-- a message of another sort
pub sort_other : (m : Message) (x y : Sort) → sort_of m ≡ Some x → (x ≡ y → ⊥) → sort_of m ≡ Some y → ⊥
sort_other m x y at other h = other (cc)

pub unwanted_sort : (settings : Settings) (s : ℕ) (before : List Event) (m : Message) → (sort_of m ≡ Some sort.Request → ⊥) → wants settings s before m ≡ false
unwanted_sort settings s before (request id method params) h = absurd (h refl)
unwanted_sort settings s before (notification method params) h = refl
unwanted_sort settings s before (result id r) h = refl
unwanted_sort settings s before (error id r) h = refl
unwanted_sort settings s before not_json h = refl
unwanted_sort settings s before not_message h = refl

-- a request of another class
pub other_class : (c : Class) → (c ≡ Refresh → ⊥) → names_refresh c ≡ false
other_class Refresh h = absurd (h refl)
other_class _ h = refl

-- one that wants something asked anew
pub record Wanted (settings : Settings) (s : ℕ) (before : List Event) (m : Message) : Type 0 where
  pub id : Id
  pub method : List ℕ
  pub params : Option Json
  pub is : m ≡ request id method params
  pub anew : asks_anew settings s before id method ≡ true

pub wanted_by : (settings : Settings) (s : ℕ) (before : List Event) (m : Message) → wants settings s before m ≡ true → Wanted settings s before m
wanted_by settings s before (request id method params) h = record { id = id; method = method; params = params; is = refl; anew = h }
wanted_by settings s before (notification method params) h = never (sym h)
wanted_by settings s before (result id r) h = never (sym h)
wanted_by settings s before (error id r) h = never (sym h)
wanted_by settings s before not_json h = never (sym h)
wanted_by settings s before not_message h = never (sym h)

-- The last start of a group

pub number_there : (xs : List Start) (g : ℕ) (x : Start) → g < length xs → slice_get xs g ≡ Some x → slice_get (map number_in xs) g ≡ Some x.life.start
number_there xs g x within here =
    let s = start_there xs g within in
    s.1 ∙ ap (λ n. Some n) (sym (start_at_place xs g s.0 x here s.1))

pub stage_now : (settings : Settings) (t : Tables) (events : List Event) (g : ℕ) (x : Start) → slice_get t.lasts.items g ≡ Some x → Stands settings t events → (life_of x.life.start events).stage ≡ x.life.stage
stage_now settings t events g x here st = ap (λ (l : Life). l.stage) ((st.lasts.each g x here).parts of_life)
