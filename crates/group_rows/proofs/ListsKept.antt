-- What is kept of lists was published by the start: a notification of that class.
use Rattle.std.proofs.Common.{◌≡◌, ℕ, Bool, true, false, ◌&&◌, List, [], ◌∷◌, ◌++◌, codes, nat_eq, IsUtf8, if◌then◌else◌, Option, Some, None, refl, sym, ◌∙◌, ap}
use Rattle.std.specs.List.{AllByRecursion}
use Rattle.std.specs.Option.{option_map}
use Rattle.json_text.specs.Json.{Json}
use Rattle.mux_history.specs.declared.cause.Cause.TheVariants.{FromServer, StartFailed, ServerGone}
use Rattle.rpc_message.specs.Message.{message_of, notification}
use Rattle.event_model.specs.Event.{Event, took}
use Rattle.event_model.specs.Members.{named_of, params_of}
use Rattle.event_model.specs.Stages.{life_of, is_ready}
use Rattle.registrations.specs.mux_members.specs.Finds.{is_array_value}
use Rattle.registrations.specs.mux_members.specs.Members.{string_at}
use Rattle.diagnostics_route.specs.declared.last_list.LastList.{LastList}
use Rattle.diagnostics_route.specs.Published.{list_of, published}
use Rattle.diagnostics_route.specs.Rows.{is_of, with_list}
use Rattle.group_words.specs.Past.{past}
use Rattle.group_rows.specs.Lists.{is_publishing, lists_next, lists_of, sayings_of, with_published}
use Rattle.group_rows.proofs.ExitTexts.{published_spelt}
use Rattle.group_rows.proofs.Versions.{AllMeant, IsMeant}

pub record IsList (l : LastList) : Type 0 where
  pub method : List ℕ
  pub params : Option Json
  pub says : message_of l.body ≡ notification method params
  pub class : is_publishing method ≡ true
  pub spelt : IsUtf8 l.uri

-- it is the body that came
pub published_body : (place : ℕ) (body : List ℕ) (l : LastList) → published place body ≡ Some l → l.body ≡ body
published_body place body l is = go (is_array_value (named_of (codes "diagnostics") (params_of body))) (string_at (codes "uri") (params_of body)) is
  where
    go : (b : Bool) (u : Option (List ℕ)) → (if b then option_map (list_of place body (params_of body)) u else None) ≡ Some l → l.body ≡ body
    go true (Some u) e = let same : list_of place body (params_of body) u ≡ l = cc in sym (ap (λ (x : LastList). x.body) same)
    go true None e = absurd (cc)
    go false u e = absurd (cc)

-- what is said of each list that a notification of that class gives is said of all that are kept
module _ (Said : LastList → Type 0) (given : (place : ℕ) (body method : List ℕ) (params : Option Json) (l : LastList) → message_of body ≡ notification method params → is_publishing method ≡ true → published place body ≡ Some l → Said l) where
  put_kept : (l : LastList) (lists : List LastList) → Said l → AllByRecursion Said lists → AllByRecursion Said (with_list l lists)
  put_kept l [] h k = (h, tt)
  put_kept l (x ∷ lists) h k = go (is_of l.uri x) (put_kept l lists h k.1)
    where
      go : (b : Bool) → AllByRecursion Said (with_list l lists) → AllByRecursion Said (if b then l ∷ lists else x ∷ with_list l lists)
      go true rest = (h, k.1)
      go false rest = (k.0, rest)

  published_kept : (place : ℕ) (body method : List ℕ) (params : Option Json) → message_of body ≡ notification method params → is_publishing method ≡ true → (lists : List LastList) → AllByRecursion Said lists
      → (o : Option LastList) → published place body ≡ o → AllByRecursion Said (with_published o lists)
  published_kept place body method params says class lists k (Some l) at = put_kept l lists (given place body method params l says class at) k
  published_kept place body method params says class lists k None at = k

  if_kept : (b : Bool) (x y : List LastList) → AllByRecursion Said x → AllByRecursion Said y → AllByRecursion Said (if b then x else y)
  if_kept true x y h k = h
  if_kept false x y h k = k

  step_kept : (s : ℕ) (before : List Event) (lists : List LastList) (event : Event) → IsMeant event → AllByRecursion Said lists → AllByRecursion Said (lists_next s before lists event)
  step_kept s before lists (took (FromServer n body) (notification method params)) says h = go (nat_eq n s) (is_publishing method) refl (is_ready (life_of s before).stage)
    where
      after : List LastList
      after = with_published (published (sayings_of s before) body) lists

      go : (a b : Bool) → is_publishing method ≡ b → (c : Bool) → AllByRecursion Said (if a && (b && c) then after else lists)
      go true true class true = published_kept (sayings_of s before) body method params (sym says) class lists h (published (sayings_of s before) body) refl
      go true true class false = h
      go true false class c = h
      go false b class c = h
  step_kept s before lists (took (StartFailed n) m) says h = if_kept (nat_eq n s) [] lists tt h
  step_kept s before lists (took (ServerGone n) m) says h = if_kept (nat_eq n s) [] lists tt h
  step_kept s before lists other says h = h

  all_kept : (s : ℕ) (before : List Event) (lists : List LastList) (events : List Event) → AllMeant events → AllByRecursion Said lists → AllByRecursion Said (past (lists_next s) before lists events)
  all_kept s before lists [] says h = h
  all_kept s before lists (event ∷ events) says h = all_kept s (before ++ event ∷ []) (lists_next s before lists event) events says.1 (step_kept s before lists event says.0 h)

  pub lists_so : (s : ℕ) (events : List Event) → AllMeant events → AllByRecursion Said (lists_of s events)
  lists_so s events says = all_kept s [] [] events says tt

pub lists_kept : (s : ℕ) (events : List Event) → AllMeant events → AllByRecursion IsList (lists_of s events)
lists_kept = lists_so IsList (λ place body method params l says class at.
    record { method = method; params = params; says = ap message_of (published_body place body l at) ∙ says; class = class; spelt = published_spelt place body l at })
