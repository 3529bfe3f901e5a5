-- E16: the configuration of a group is kept.
use Rattle.std.proofs.Common.{◌≡◌, ℕ, Bool, true, false, ◌&&◌, List, codes, ◌⊎◌, inl, inr, encode_utf8_all, bytes_eq, if◌then◌else◌, refl, ap, sym, ◌∙◌}
use Rattle.std.specs.Prelude.{Some, None}
use Rattle.rpc_message.specs.declared.sort.Sort.{Sort}
use Rattle.rpc_message.specs.declared.sort.Sort.TheVariants as sort
use Rattle.rpc_message.specs.Message.{Message, error, message_of, not_json, not_message, notification, request, result}
use Rattle.rpc_message.specs.Parsed.{method_of}
use Rattle.rpc_message.specs.Sorts.{sort_of}
use Rattle.event_model.specs.declared.phase.Phase.{Phase}
use Rattle.event_model.specs.declared.phase.Phase.TheVariants.{Absent, Answered, Closed, Down, Gone, New, Running, Waiting}
use Rattle.event_model.specs.Event.{Event, behind, notifies, with_cause}
use Rattle.event_model.specs.Phases.{desk_of, is_served}
use Rattle.event_model.specs.Settings.{Settings}
use Rattle.event_model.proofs.Frames.{never}
use Rattle.group_rows.specs.Earlier.{configuration_of, configures}
use Rattle.group_words.specs.declared.kept.Kept.{Kept}
use Rattle.group_words.specs.Houses.{groups_of, home_of, is_home}
use Rattle.mux_history.specs.declared.cause.Cause.TheVariants.{FromEditor}
use Rattle.mux_history.specs.declared.out.Out.{Out}
use Rattle.mux_members.proofs.Encoded.{ascii_encoded}
use Rattle.mux_turns.specs.Carried.{CarriedStand, CarriesView, carried, with_carried}
use Rattle.mux_turns.specs.group_facts.specs.Settled.{Settled, is_answered}
use Rattle.mux_turns.specs.group_facts.proofs.Lively.{lives_of}
use Rattle.mux_turns.proofs.CarriedOn.{carried_behind, carried_took, keeps}
use Rattle.mux_turns.proofs.CreatedMarks.{swapped}

abbrev changes : Message → Bool
changes m = notifies (codes "workspace/didChangeConfiguration") m

-- What a message is, by its sort and its method

pub names_change : (m : Message) (name : List ℕ) (r : Bool) → sort_of m ≡ Some sort.Notification → Some name ≡ method_of m → r ≡ bytes_eq name (codes "workspace/didChangeConfiguration") → r ≡ changes m
names_change (notification method params) name r sort named is =
    let same : name ≡ encode_utf8_all method = cc in
    is ∙ (ap (λ n. bytes_eq n (codes "workspace/didChangeConfiguration")) same ∙ (ascii_encoded method (codes "workspace/didChangeConfiguration") refl ∙ swapped method (codes "workspace/didChangeConfiguration")))
names_change (request id method params) name r sort named is = absurd (cc)
names_change (result id value) name r sort named is = absurd (cc)
names_change (error id failure) name r sort named is = absurd (cc)
names_change not_json name r sort named is = absurd (cc)
names_change not_message name r sort named is = absurd (cc)

pub names_none : (m : Message) → sort_of m ≡ Some sort.Notification → None ≡ method_of m → false ≡ changes m
names_none (notification method params) sort named = absurd (cc)
names_none (request id method params) sort named = refl
names_none (result id value) sort named = refl
names_none (error id failure) sort named = refl
names_none not_json sort named = refl
names_none not_message sort named = refl

pub notes_none : (m : Message) (x : Sort) → sort_of m ≡ Some x → (x ≡ sort.Request) ⊎ ((x ≡ sort.Result) ⊎ (x ≡ sort.Error)) → false ≡ changes m
notes_none (notification method params) x at (inl h) = absurd (cc)
notes_none (notification method params) x at (inr (inl h)) = absurd (cc)
notes_none (notification method params) x at (inr (inr h)) = absurd (cc)
notes_none (request id method params) x at other = refl
notes_none (result id value) x at other = refl
notes_none (error id failure) x at other = refl
notes_none not_json x at other = refl
notes_none not_message x at other = refl

-- What is kept

served_answered : (p : Phase) → is_served p ≡ true → is_answered p ≡ true
served_answered Answered h = refl
served_answered Running h = refl
served_answered Absent h = never (sym h)
served_answered New h = never (sym h)
served_answered Waiting h = never (sym h)
served_answered Down h = never (sym h)
served_answered Closed h = never (sym h)
served_answered Gone h = never (sym h)

first_of : (a b : Bool) → (a && b) ≡ true → a ≡ true
first_of true b h = refl
first_of false b h = never (sym h)

none_of : (a b : Bool) → b ≡ false → (a && b) ≡ false
none_of true b h = h
none_of false b h = refl

all_of : (a b : Bool) → b ≡ true → (a && b) ≡ a
all_of true b h = h
all_of false b h = refl

-- the same bodies
carried_same : (settings : Settings) (a b : CarriesView) (events : List Event) → b.shown ≡ a.shown → b.configurations ≡ a.configurations → CarriedStand settings a events → CarriedStand settings b events
carried_same settings a b events shown configurations h = record {
  shown = λ g live. ap (carried g) shown ∙ h.shown g live;
  configuration = λ g live. ap (carried g) configurations ∙ h.configuration g live;
  bare = λ g past. let k = h.bare g past in record { shown = ap (carried g) shown ∙ k.shown; configuration = ap (carried g) configurations ∙ k.configuration; given = k.given; configured = k.configured };
}

module _ (settings : Settings) (carries : CarriesView) (before : List Event) (e : ℕ) (body : List ℕ) (xs : List Out) (stand : CarriedStand settings carries before) where
  abbrev configured : Bool
  configured = is_served (desk_of e before).phase && changes (message_of body)

  abbrev later : List Event
  later = behind (with_cause before (FromEditor e body)) xs

  stays : ((g : ℕ) → configures settings g before e (message_of body) ≡ false) → CarriedStand settings carries later
  stays off = carried_behind settings carries (with_cause before (FromEditor e body)) xs
      (carried_took settings carries before (FromEditor e body) (λ g. refl) (λ g. ap (λ b. if b then Some body else configuration_of settings g before) (off g)) stand)

  -- where it changes nothing, and where its editor is in no group
  pub stays_unchanged : configured ≡ false → CarriedStand settings carries later
  stays_unchanged off = stays (λ g. none_of (is_home g (home_of settings e before)) configured off)

  pub stays_homeless : home_of settings e before ≡ None → CarriedStand settings carries later
  stays_homeless none = stays (λ g. ap (λ o. is_home g o && configured) none)

  pub kept_change : Settled settings before → configured ≡ true → (h : ℕ) → home_of settings e before ≡ Some h → (gs : List Kept) → groups_of settings before ≡ gs → (text : List ℕ) → text ≡ body
      → (new : CarriesView) → new.shown ≡ carries.shown → new.configurations ≡ with_carried gs h text carries.configurations → CarriedStand settings new later
  kept_change settled on h home gs groups text is new shown configurations =
      let live = lives_of settings before settled.lively e h (served_answered (desk_of e before).phase (first_of (is_served (desk_of e before).phase) (changes (message_of body)) on)) home in
      carried_same settings (record { shown = carries.shown; configurations = with_carried gs h body carries.configurations }) new later shown (configurations ∙ ap (λ b. with_carried gs h b carries.configurations) is)
      (keeps settings carries before (FromEditor e body) xs h gs live stand body groups (λ g. refl)
      (λ g. ap (λ b. if b then Some body else configuration_of settings g before) (ap (λ o. is_home g o && configured) home ∙ all_of (is_home g (Some h)) configured on)))
