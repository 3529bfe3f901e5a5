-- The last lists of a start, one event further (S15).
use Rattle.std.proofs.Common.{◌≡◌, ℕ, Bool, true, false, ◌&&◌, List, [], ◌∷◌, ◌++◌, refl, ap, sym, subst, ◌∙◌, nat_eq, if◌then◌else◌}
use Rattle.std.specs.Prelude.{Option, Some, None}
use Rattle.json_text.specs.Json.{Json}
use Rattle.lsp_method.specs.Class.{class_of}
use Rattle.lsp_method.specs.declared.variants.Class.{Class}
use Rattle.lsp_method.specs.declared.variants.Class.TheVariants.{Diagnostics, Progress}
use Rattle.lsp_method.specs.declared.variants.Origin.TheVariants.{Server}
use Rattle.mux_history.specs.declared.cause.Cause.TheVariants.{FromServer}
use Rattle.rpc_message.specs.Message.{Message, notification}
use Rattle.event_model.specs.declared.stage.Stage.{Stage}
use Rattle.event_model.specs.declared.stage.Stage.TheVariants.{Unspawned, Spawning, Initializing, Ready, Stopping, Ending, Ended}
use Rattle.event_model.specs.Event.{Event, took}
use Rattle.event_model.specs.Settings.{Settings}
use Rattle.event_model.specs.Stages.{is_first_result, is_ready, life_of}
use Rattle.event_model.proofs.Frames.{never}
use Rattle.diagnostics_route.specs.declared.last_list.LastList.{LastList}
use Rattle.diagnostics_route.specs.Published.{published}
use Rattle.diagnostics_route.specs.Rows.{with_list}
use Rattle.group_words.specs.Houses.{is_first_error}
use Rattle.group_words.proofs.Frames.{itself, past_more}
use Rattle.group_laws.specs.group_rows.specs.Created.{is_progress, names_progress}
use Rattle.group_laws.specs.group_rows.specs.Lists.{is_publishing, lists_next, lists_of, names_list, sayings_of, with_published}
use Rattle.restart_replay.specs.Standings.{Standing, moved}
use Rattle.mux_tokens.proofs.Stays.{is_notification}
use Rattle.mux_tables.specs.declared.tables.Start.{Start}
use Rattle.mux_tables.specs.Stands.{ListsAt, ListsStay, PartStands, begun_at, of_lists}

pub lists_more : (s : ℕ) (events : List Event) (ev : Event) → lists_of s (events ++ ev ∷ []) ≡ lists_next s events (lists_of s events) ev
lists_more s events ev = past_more (lists_next s) [] [] events ev

pub ready_lists : (stage : Stage) (lists kept : List LastList) → stage ≡ Ready → ListsAt stage lists kept → kept ≡ lists
ready_lists stage lists kept is s = subst (λ k. ListsAt k lists kept) is s

-- the event leaves them
pub lists_by_stay : (settings : Settings) (limit : ℕ) (x : Start) (events : List Event) (ev : Event) → ListsStay x.life.start events ev → PartStands of_lists settings limit x events → PartStands of_lists settings limit x (events ++ ev ∷ [])
lists_by_stay settings limit x events ev same h = subst (λ ls. ListsAt x.life.stage ls x.lists) (sym (lists_more x.life.start events ev ∙ same)) h

-- where a start goes on
pub begun_lists : (g : Stage) (l : Standing) (lists : ℕ → List LastList) (kept : List LastList) → l.stage ≡ g → ListsAt l.stage (lists l.start) kept → ListsAt (begun_at g l).stage (lists (begun_at g l).start) kept
begun_lists Spawning l lists kept h s = subst (λ k. ListsAt k (lists l.start) kept) h s
begun_lists Unspawned l lists kept h s = s
begun_lists Initializing l lists kept h s = s
begun_lists Ready l lists kept h s = s
begun_lists Stopping l lists kept h s = s
begun_lists Ending l lists kept h s = s
begun_lists Ended l lists kept h s = s

pub first_lists : (g : Stage) (life l : Standing) (lists kept : List LastList) → life ≡ moved Ready l → g ≡ Initializing → ListsAt g lists kept → ListsAt life.stage lists kept
first_lists g life l lists kept is stage s =
    let none : (lists ≡ []) × (kept ≡ []) = subst (λ k. ListsAt k lists kept) stage s in
    subst (λ (w : Standing). ListsAt w.stage lists kept) (sym is) (none.1 ∙ sym none.0)

-- a body that is no notification
pub silent_lists : (s n : ℕ) (events : List Event) (lists : List LastList) (body : List ℕ) (m : Message) → is_notification m ≡ false → lists_next s events lists (took (FromServer n body) m) ≡ lists
silent_lists s n events lists body (notification method ps) h = never h
silent_lists s n events lists body other h = refl

pub quiet_lists : (s n : ℕ) (events : List Event) (body : List ℕ) (m : Message) → is_notification m ≡ false → ListsStay s events (took (FromServer n body) m)
quiet_lists s n events body m h = silent_lists s n events (lists_of s events) body m h

pub result_tells : (m : Message) → is_first_result m ≡ true → is_notification m ≡ false
result_tells (notification method ps) h = never (sym h)
result_tells other h = refl

pub error_tells : (m : Message) → is_first_error m ≡ true → is_notification m ≡ false
error_tells (notification method ps) h = never (sym h)
error_tells other h = refl

-- what tells of progress gives no list, and what gives one doesn't tell of progress
progress_class : (c : Class) → names_progress c ≡ true → names_list c ≡ false
progress_class Progress h = refl
progress_class _ h = never (sym h)

pub progress_apart : (method : List ℕ) → is_progress method ≡ true → is_publishing method ≡ false
progress_apart method h = progress_class (class_of method Server true) h

list_class : (c : Class) → names_list c ≡ true → names_progress c ≡ false
list_class Diagnostics h = refl
list_class _ h = never (sym h)

pub list_apart : (method : List ℕ) → is_publishing method ≡ true → is_progress method ≡ false
list_apart method h = list_class (class_of method Server true) h

-- by what a notification gives no list
module _ (s n : ℕ) (events : List Event) (body method : List ℕ) (m : Message) (params : Option Json) (says : m ≡ notification method params) where
  abbrev lists : List LastList
  lists = lists_of s events

  abbrev given : Option LastList
  given = published (sayings_of s events) body

  abbrev lists_if : Bool → List LastList
  lists_if b = if b then with_published given lists else lists

  same_lists : (b : Bool) → with_published given lists ≡ lists → lists_if b ≡ lists
  same_lists true e = e
  same_lists false e = refl

  -- its class is another
  pub other_lists : is_publishing method ≡ false → ListsStay s events (took (FromServer n body) m)
  other_lists h = ap (λ k. lists_next s events lists (took (FromServer n body) k)) says ∙ (ap (λ b. lists_if (nat_eq n s && (b && is_ready (life_of s events).stage))) h ∙ off (nat_eq n s))
    where
      off : (b : Bool) → lists_if (b && false) ≡ lists
      off true = refl
      off false = refl

  -- its start isn't ready
  pub unready_lists : is_ready (life_of s events).stage ≡ false → ListsStay s events (took (FromServer n body) m)
  unready_lists h = ap (λ k. lists_next s events lists (took (FromServer n body) k)) says ∙ (ap (λ b. lists_if (nat_eq n s && (is_publishing method && b))) h ∙ off (nat_eq n s) (is_publishing method))
    where
      off : (a b : Bool) → lists_if (a && (b && false)) ≡ lists
      off true true = refl
      off true false = refl
      off false b = refl

  -- it is of another shape
  pub shapeless_lists : given ≡ None → ListsStay s events (took (FromServer n body) m)
  shapeless_lists none = ap (λ k. lists_next s events lists (took (FromServer n body) k)) says ∙ same_lists (nat_eq n s && (is_publishing method && is_ready (life_of s events).stage)) (ap (λ o. with_published o lists) none)

  -- it gives one
  pub listed : (l : LastList) → n ≡ s → (life_of s events).stage ≡ Ready → is_publishing method ≡ true → given ≡ Some l → lists_of s (events ++ took (FromServer n body) m ∷ []) ≡ with_list l lists
  listed l mine ready class is = lists_more s events (took (FromServer n body) m) ∙ (ap (λ k. lists_next s events lists (took (FromServer n body) k)) says
      ∙ (ap (λ k. lists_if (nat_eq k s && (is_publishing method && is_ready (life_of s events).stage))) mine
      ∙ (ap (λ b. lists_if (b && (is_publishing method && is_ready (life_of s events).stage))) (itself s)
      ∙ (ap (λ b. lists_if (b && is_ready (life_of s events).stage)) class
      ∙ (ap (λ k. lists_if (is_ready k)) ready
      ∙ ap (λ o. with_published o lists) is)))))
