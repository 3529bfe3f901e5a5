-- E19: an editor answers what a start asked of it.
use Rattle.std.proofs.Common.{◌≡◌, ℕ, ◌<◌, ◌^◌, Bool, true, false, not, ◌&&◌, cond, List, [], ◌∷◌, ◌++◌, filter, find, map, length, refl, ap, sym, subst, ◌∙◌, nat_eq, append_assoc, arith}
use Rattle.std.specs.Prelude.{Option, Some, None, IfSome, option_map, slice_get, slice_set}
use Rattle.std.specs.List.{AllByRecursion}
use Rattle.std.proofs.lemmas.Bool.{and_parts}
use Rattle.std.proofs.lemmas.Bool.Decides.{nat_tests}
use Rattle.ask_route.specs.declared.ask.Ask as route
use Rattle.ask_route.specs.Tables as asks
use Rattle.mux_history.specs.declared.cause.Cause.TheVariants.{FromEditor}
use Rattle.rpc_message.specs.Message.{Id, message_of}
use Rattle.event_model.specs.declared.phase.Phase.{Phase}
use Rattle.event_model.specs.declared.stage.Stage.{Stage}
use Rattle.event_model.specs.declared.stage.Stage.TheVariants.{Unspawned, Spawning, Initializing, Ready}
use Rattle.event_model.specs.Event.{Event, heard}
use Rattle.event_model.specs.Phases.{desk_of}
use Rattle.event_model.specs.Requests.{answered_id}
use Rattle.event_model.specs.Settings.{Settings}
use Rattle.event_model.specs.Spawns.{group_behind, start_behind}
use Rattle.event_model.proofs.Frames.{never, one_more}
use Rattle.editor_session.specs.Sessions.{with_session}
use Rattle.group_words.specs.Houses.{is_first_open, places, stops}
use Rattle.group_laws.specs.group_rows.specs.Asks.{Ask, Asking, Parked, asks_of, is_seated, is_under, parked_of, waits_under}
use Rattle.group_laws.specs.group_rows.specs.Forwarded.{names}
use Rattle.mux_tables.specs.declared.tables.Course.{Course}
use Rattle.mux_tables.specs.declared.tables.Start.{Start}
use Rattle.mux_tables.specs.declared.tables.Tables.{Tables}
use Rattle.mux_tables.specs.Refusals.{Given, Left}
use Rattle.mux_tables.specs.Stands.{AnswersOne, AreApart, AsksAt, AsksStand, HasText, IsFree, IsOther, NamesAsk, Part, of_life, of_ids, of_shown, of_stop, of_asks, of_parked, of_live, of_lists, ParkedAt, PartStands, Stands, WasAsked, kept_ask}
use Rattle.mux_tables.proofs.Apart.{all_filter, id_flip, stand_filter}
use Rattle.mux_tables.proofs.Asking.{asking_more, asks_later, none_answered, parked_more}
use Rattle.mux_tables.proofs.Frames.{part_quiet}
use Rattle.mux_tables.proofs.Heard.{set_house}
use Rattle.mux_tables.proofs.Lasts.{asked_last}
use Rattle.mux_tables.proofs.TokenMoves.{OriginsMove}
use Rattle.mux_tables.proofs.Moves.{house_and_lasts}
use Rattle.mux_tables.proofs.Phased.{phased}
use Rattle.mux_tables.proofs.Refusing.{ready_asks}
use Rattle.mux_tables.proofs.Waiting.{parked_fewer, ready_parked, under_none}

module _ (e k : ℕ) (id : Option Id) (named : (n : ℕ) → n < 2 ^ 64 → names id n ≡ nat_eq n k) where
  same_seat : (events : List Event) (a : Ask) → WasAsked events a → is_seated e id a ≡ asks.is_seated e k (kept_ask a)
  same_seat events a h = ap (λ b. nat_eq a.editor e && b) (named a.number h.1)

  -- where one is there, no other is
  others : (events : List Event) (a : Ask) (qs : List Ask) → asks.is_seated e k (kept_ask a) ≡ true → AllByRecursion (WasAsked events) qs → AllByRecursion (IsOther a) qs → filter (λ b. not (is_seated e id b)) qs ≡ qs
  others events a [] is h o = refl
  others events a (b ∷ qs) is h o = kept (is_seated e id b) off (others events a qs is h.1 o.1)
    where
      parts : (nat_eq a.editor e ≡ true) × (nat_eq a.number k ≡ true)
      parts = and_parts (nat_eq a.editor e) (nat_eq a.number k) is

      editor : a.editor ≡ e
      editor = let p = parts.0 in grind (arith, nat_tests)

      number : a.number ≡ k
      number = let p = parts.1 in grind (arith, nat_tests)

      off : is_seated e id b ≡ false
      off = same_seat events b h.0 ∙ (ap (λ n. nat_eq b.editor n && nat_eq b.number k) (sym editor) ∙ (ap (λ n. nat_eq b.editor a.editor && nat_eq b.number n) (sym number) ∙ o.0.0))

      kept : (c : Bool) → c ≡ false → filter (λ b. not (is_seated e id b)) qs ≡ qs → cond (not c) (b ∷ filter (λ b. not (is_seated e id b)) qs) (filter (λ b. not (is_seated e id b)) qs) ≡ b ∷ qs
      kept false q r = ap (λ bs. b ∷ bs) r
      kept true q r = never q

  less_filter : (events : List Event) (qs : List Ask) → AllByRecursion (WasAsked events) qs → AreApart qs → asks.less (asks.is_seated e k) (map kept_ask qs) ≡ map kept_ask (filter (λ a. not (is_seated e id a)) qs)
  less_filter events [] h o = refl
  less_filter events (a ∷ qs) h o = go (asks.is_seated e k (kept_ask a)) (is_seated e id a) refl (same_seat events a h.0) (less_filter events qs h.1 o.1)
    where
      go : (c d : Bool) → asks.is_seated e k (kept_ask a) ≡ c → d ≡ c → asks.less (asks.is_seated e k) (map kept_ask qs) ≡ map kept_ask (filter (λ a. not (is_seated e id a)) qs)
          → cond c (map kept_ask qs) (kept_ask a ∷ asks.less (asks.is_seated e k) (map kept_ask qs)) ≡ map kept_ask (cond (not d) (a ∷ filter (λ a. not (is_seated e id a)) qs) (filter (λ a. not (is_seated e id a)) qs))
      go true true is q less = ap (map kept_ask) (sym (others events a qs is h.1 o.0))
      go false false is q less = ap (λ ks. kept_ask a ∷ ks) less
      go true false is q less = cc
      go false true is q less = cc

  find_kept : (events : List Event) (qs : List Ask) → AllByRecursion (WasAsked events) qs → option_map (λ (q : route.Ask). q.id) (find (asks.is_seated e k) (map kept_ask qs)) ≡ option_map (λ (a : Ask). a.bytes) (find (is_seated e id) qs)
  find_kept events [] h = refl
  find_kept events (a ∷ qs) h = go (asks.is_seated e k (kept_ask a)) (is_seated e id a) (same_seat events a h.0) (find_kept events qs h.1)
    where
      go : (c d : Bool) → d ≡ c → option_map (λ (q : route.Ask). q.id) (find (asks.is_seated e k) (map kept_ask qs)) ≡ option_map (λ (a : Ask). a.bytes) (find (is_seated e id) qs)
          → option_map (λ (q : route.Ask). q.id) (cond c (Some (kept_ask a)) (find (asks.is_seated e k) (map kept_ask qs))) ≡ option_map (λ (a : Ask). a.bytes) (cond d (Some a) (find (is_seated e id) qs))
      go true true q found = refl
      go false false q found = found
      go true false q found = cc
      go false true q found = cc

-- a message that names no number
none_named : (e : ℕ) (id : Option Id) (events : List Event) → ((n : ℕ) → n < 2 ^ 64 → names id n ≡ false) → (qs : List Ask) → AllByRecursion (WasAsked events) qs → AllByRecursion (λ (a : Ask). is_seated e id a ≡ false) qs
none_named e id events named [] h = tt
none_named e id events named (a ∷ qs) h = (ap (λ b. nat_eq a.editor e && b) (named a.number h.0.1) ∙ off (nat_eq a.editor e), none_named e id events named qs h.1)
  where
    off : (b : Bool) → (b && false) ≡ false
    off true = refl
    off false = refl

none_filter : (e : ℕ) (id : Option Id) (qs : List Ask) → AllByRecursion (λ (a : Ask). is_seated e id a ≡ false) qs → filter (λ a. not (is_seated e id a)) qs ≡ qs
none_filter e id [] h = refl
none_filter e id (a ∷ qs) h = go (is_seated e id a) h.0 (none_filter e id qs h.1)
  where
    go : (c : Bool) → c ≡ false → filter (λ a. not (is_seated e id a)) qs ≡ qs → cond (not c) (a ∷ filter (λ a. not (is_seated e id a)) qs) (filter (λ a. not (is_seated e id a)) qs) ≡ a ∷ qs
    go false q r = ap (λ bs. a ∷ bs) r
    go true q r = never q

none_found : (e : ℕ) (id : Option Id) (qs : List Ask) → AllByRecursion (λ (a : Ask). is_seated e id a ≡ false) qs → find (is_seated e id) qs ≡ None
none_found e id [] h = refl
none_found e id (a ∷ qs) h = go (is_seated e id a) h.0 (none_found e id qs h.1)
  where
    go : (c : Bool) → c ≡ false → find (is_seated e id) qs ≡ None → cond c (Some a) (find (is_seated e id) qs) ≡ None
    go false q r = r
    go true q r = never q

answered_stand : (e : ℕ) (id : Option Id) (n : Option ℕ) (events : List Event) (qs : List Ask) (kept left : List route.Ask) → NamesAsk id n → Left e n kept left → AsksStand events qs kept → AsksStand events (filter (λ a. not (is_seated e id a)) qs) left
answered_stand e id None events qs kept left named is s = subst (λ bs. AsksStand events bs left) (sym (none_filter e id qs (none_named e id events named qs s.asked)))
    (record { same = is ∙ s.same; texts = s.texts; asked = s.asked; apart = s.apart })
answered_stand e id (Some k) events qs kept left named is s =
    let same = is ∙ (ap (asks.less (asks.is_seated e k)) s.same ∙ less_filter e k id named events qs s.asked s.apart) in
    subst (λ ks. AsksStand events (filter (λ a. not (is_seated e id a)) qs) ks) (sym same) (stand_filter events (λ a. not (is_seated e id a)) qs s.texts s.asked s.apart)

pub answer_given : (e : ℕ) (id : Option Id) (n : Option ℕ) (events : List Event) (qs : List Ask) (kept : List route.Ask) (given : Option (List ℕ)) → NamesAsk id n → Given e n kept given → AsksStand events qs kept → given ≡ option_map (λ (a : Ask). a.bytes) (find (is_seated e id) qs)
answer_given e id None events qs kept given named is s = is ∙ sym (ap (option_map (λ (a : Ask). a.bytes)) (none_found e id qs (none_named e id events named qs s.asked)))
answer_given e id (Some k) events qs kept given named is s = is ∙ (ap (λ ks. option_map (λ (q : route.Ask). q.id) (find (asks.is_seated e k) ks)) s.same ∙ find_kept e k id named events qs s.asked)

-- by where the start stands
empty_left : (e : ℕ) (n : Option ℕ) (kept left : List route.Ask) → kept ≡ [] → Left e n kept left → left ≡ []
empty_left e None kept left none is = is ∙ none
empty_left e (Some k) kept left none is = is ∙ ap (asks.less (asks.is_seated e k)) none

answered_at : (stage : Stage) (e : ℕ) (id : Option Id) (n : Option ℕ) (events : List Event) (qs : List Ask) (kept left : List route.Ask) → NamesAsk id n → Left e n kept left → AsksAt stage events qs kept → AsksAt stage events (filter (λ a. not (is_seated e id a)) qs) left
answered_at Ready e id n events qs kept left named is s = answered_stand e id n events qs kept left named is s
answered_at Unspawned e id n events qs kept left named is s = (ap (filter (λ a. not (is_seated e id a))) s.0, empty_left e n kept left s.1 is)
answered_at Spawning e id n events qs kept left named is s = (ap (filter (λ a. not (is_seated e id a))) s.0, empty_left e n kept left s.1 is)
answered_at Initializing e id n events qs kept left named is s = (ap (filter (λ a. not (is_seated e id a))) s.0, empty_left e n kept left s.1 is)
answered_at other e id n events qs kept left named is s = tt

module _ (settings : Settings) (t u : Tables) (events : List Event) (g e : ℕ) (body : List ℕ) (p : Phase) (n : Option ℕ) (z : Start) (left : List route.Ask) (l : e < length t.editors) (at : slice_get t.lasts.items g ≡ Some z) (set : u.editors ≡ with_session t.editors e (phased t.editors e p))
    (ls : u.lasts.items ≡ slice_set t.lasts.items g (record z { asks = left })) (gs : u.groups ≡ t.groups) (now : u.course ≡ t.course) (os : OriginsMove settings t.origins u.origins events (heard (FromEditor e body))) (r : u.requests ≡ t.requests) (named : NamesAsk (answered_id (message_of body)) n) (is : Left e n z.asks left) (one : AnswersOne settings z.life.start e (message_of body) events) where
  abbrev ev : Event
  ev = heard (FromEditor e body)

  abbrev y : Start
  y = record z { asks = left }

  part : (q : Part) → PartStands q settings t.requests z events → PartStands q settings t.requests y (events ++ ev ∷ [])
  part of_life h = part_quiet of_life settings t.requests z events ev refl h
  part of_ids h = part_quiet of_ids settings t.requests z events ev refl h
  part of_shown h = part_quiet of_shown settings t.requests z events ev refl h
  part of_stop h = part_quiet of_stop settings t.requests z events ev refl h
  part of_asks h = subst (λ qs. AsksAt z.life.stage (events ++ ev ∷ []) qs left) (sym (ap (λ (x : Asking). x.asks) (asking_more settings z.life.start events ev)))
      (asks_later z.life.stage events ev (filter (λ a. not (is_seated e (answered_id (message_of body)) a)) (asks_of settings z.life.start events)) left
      (answered_at z.life.stage e (answered_id (message_of body)) n events (asks_of settings z.life.start events) z.asks left named is h))
  part of_parked h = subst (λ qs. ParkedAt z.life.stage qs (parked_of settings z.life.start (events ++ ev ∷ [])) z.parked) (sym (ap (λ (x : Asking). x.asks) (asking_more settings z.life.start events ev)))
      (subst (λ ps. ParkedAt z.life.stage (filter (λ a. not (is_seated e (answered_id (message_of body)) a)) (asks_of settings z.life.start events)) ps z.parked) (sym (parked_more settings z.life.start events ev refl))
      (parked_fewer z.life.stage (λ a. not (is_seated e (answered_id (message_of body)) a)) (asks_of settings z.life.start events) (parked_of settings z.life.start events) z.parked h))
  part of_live h = part_quiet of_live settings t.requests z events ev refl h
  part of_lists h = part_quiet of_lists settings t.requests z events ev refl h

  pub replied_moves : places (desk_of e events).phase (message_of body) ≡ false → stops events e (message_of body) ≡ false → is_first_open settings.servers events e (message_of body) ≡ false → (desk_of e (events ++ ev ∷ [])).phase ≡ p
      → Stands settings t events → Stands settings u (events ++ ev ∷ [])
  replied_moves stays goes off step st = house_and_lasts settings t u events ev (λ m. refl) refl os r
      (λ origins lasts. asked_last settings t.requests t.origins.groups.items t.lasts.items u.lasts.items events ev g z y (λ m. refl) (λ m away. none_answered settings e m body (message_of body) events (one m away)) refl at ls refl origins
      (λ s. record { start = one_more (start_behind z.life.group) _ _ events ev s.start; home = one_more (group_behind z.life.start) _ _ events ev s.home; own = s.own; parts = λ q. part q (s.parts q) }) lasts)
      (λ h.
      let k = set_house settings t (record u { lasts = t.lasts }) events e body p l set (ap (λ (c : Course). c.time) now) refl os r stays step gs (ap (λ (c : Course). c.stopped) now) goes off h in
      record { editors = k.editors; groups = k.groups; now = k.now; halted = k.halted }) st

-- the same, as the code has it
pub replied_by : (settings : Settings) (t u : Tables) (events : List Event) (g e : ℕ) (body : List ℕ) (p : Phase) (n : Option ℕ) (x z : Start) (left : List route.Ask) → e < length t.editors → slice_get t.lasts.items g ≡ Some x → z ≡ x → u.editors ≡ with_session t.editors e (phased t.editors e p)
    → u.lasts.items ≡ slice_set t.lasts.items g (record z { asks = left }) → u.groups ≡ t.groups → u.course ≡ t.course → OriginsMove settings t.origins u.origins events (heard (FromEditor e body)) → u.requests ≡ t.requests → NamesAsk (answered_id (message_of body)) n → Left e n z.asks left → AnswersOne settings x.life.start e (message_of body) events
    → places (desk_of e events).phase (message_of body) ≡ false → stops events e (message_of body) ≡ false → is_first_open settings.servers events e (message_of body) ≡ false → (desk_of e (events ++ heard (FromEditor e body) ∷ [])).phase ≡ p
    → Stands settings t events → Stands settings u (events ++ heard (FromEditor e body) ∷ [])
replied_by settings t u events g e body p n x z left l at same set ls gs now os r named is one =
    replied_moves settings t u events g e body p n x left l at set (ls ∙ ap (λ (w : Start). slice_set t.lasts.items g (record w { asks = left })) same) gs now os r named (subst (λ (w : Start). Left e n w.asks left) same is) one

pub answer_seen : (settings : Settings) (t : Tables) (events : List Event) (g e : ℕ) (id : Option Id) (n : Option ℕ) (x z : Start) (given : Option (List ℕ)) → slice_get t.lasts.items g ≡ Some x → z ≡ x → x.life.stage ≡ Ready → NamesAsk id n → Given e n z.asks given → Stands settings t events
    → given ≡ option_map (λ (a : Ask). a.bytes) (find (is_seated e id) (asks_of settings x.life.start events))
answer_seen settings t events g e id n x z given at same ready named is st =
    answer_given e id n events (asks_of settings x.life.start events) x.asks given named (subst (λ (w : Start). Given e n w.asks given) same is) (ready_asks x.life.stage events (asks_of settings x.life.start events) x.asks ready ((st.lasts.each g x at).parts of_asks))

-- What is left has other ids than the one that is answered

if_both : {A : Type 0} {P Q R : A → Type 0} (o : Option A) → IfSome o P → IfSome o Q → ((a : A) → P a → Q a → R a) → IfSome o R
if_both None h k f = tt
if_both (Some a) h k f = f a h k

find_all : (P : Ask → Type 0) (p : Ask → Bool) (qs : List Ask) → AllByRecursion P qs → IfSome (find p qs) P
find_all P p [] h = tt
find_all P p (a ∷ qs) h = go (p a) (find_all P p qs h.1)
  where
    go : (b : Bool) → IfSome (find p qs) P → IfSome (cond b (Some a) (find p qs)) P
    go true k = h.0
    go false k = k

abbrev pub Alone : Ask → List Ask → Type 0
Alone a qs = AllByRecursion (λ (b : Ask). is_under (Some a.id) b ≡ false) qs

others_under : (a : Ask) (qs : List Ask) → AllByRecursion (IsOther a) qs → Alone a qs
others_under a [] h = tt
others_under a (b ∷ qs) h = (h.0.1, others_under a qs h.1)

found_alone : (p : Ask → Bool) (qs : List Ask) → AreApart qs → IfSome (find p qs) (λ a. Alone a (filter (λ b. not (p b)) qs))
found_alone p [] h = tt
found_alone p (a ∷ qs) h = go (p a) (found_alone p qs h.1)
  where
    go : (b : Bool) → IfSome (find p qs) (λ c. Alone c (filter (λ b. not (p b)) qs)) → IfSome (cond b (Some a) (find p qs)) (λ c. Alone c (cond (not b) (a ∷ filter (λ b. not (p b)) qs) (filter (λ b. not (p b)) qs)))
    go true k = all_filter (λ (b : Ask). is_under (Some a.id) b ≡ false) (λ b. not (p b)) qs (others_under a qs h.0)
    go false k = if_both (find p qs) (find_all (IsOther a) p qs h.0) k (λ c o l. (id_flip c.id a.id o.1, l))

pub found_fits : (settings : Settings) (t : Tables) (before : List Event) (g e : ℕ) (body : List ℕ) (x : Start) → slice_get t.lasts.items g ≡ Some x → x.life.stage ≡ Ready → Stands settings t before
    → IfSome (find (is_seated e (answered_id (message_of body))) (asks_of settings x.life.start before)) (λ a. HasText a × Alone a (asks_of settings x.life.start (before ++ heard (FromEditor e body) ∷ [])))
found_fits settings t before g e body x at ready st =
    let qs = asks_of settings x.life.start before in
    let k = ready_asks x.life.stage before qs x.asks ready ((st.lasts.each g x at).parts of_asks) in
    let p : Ask → Bool = is_seated e (answered_id (message_of body)) in
    subst (λ bs. IfSome (find p qs) (λ a. HasText a × Alone a bs)) (sym (ap (λ (w : Asking). w.asks) (asking_more settings x.life.start before (heard (FromEditor e body)))))
    (if_both (find p qs) (find_all HasText p qs k.texts) (found_alone p qs k.apart) (λ a h l. (h, l)))

-- nor does anything wait under that
pub found_unwaited : (settings : Settings) (t : Tables) (before : List Event) (g e : ℕ) (body : List ℕ) (x : Start) → slice_get t.lasts.items g ≡ Some x → x.life.stage ≡ Ready → Stands settings t before
    → IfSome (find (is_seated e (answered_id (message_of body))) (asks_of settings x.life.start before)) (λ a. AllByRecursion (λ (p : Parked). waits_under (Some a.id) p ≡ false) (parked_of settings x.life.start (before ++ heard (FromEditor e body) ∷ [])))
found_unwaited settings t before g e body x at ready st =
    let qs = asks_of settings x.life.start before in
    let ps = parked_of settings x.life.start before in
    let k = ready_parked x.life.stage qs ps x.parked ready ((st.lasts.each g x at).parts of_parked) in
    let p : Ask → Bool = is_seated e (answered_id (message_of body)) in
    subst (λ ws. IfSome (find p qs) (λ a. AllByRecursion (λ (w : Parked). waits_under (Some a.id) w ≡ false) ws)) (sym (parked_more settings x.life.start before (heard (FromEditor e body)) refl))
    (find_all (λ a. AllByRecursion (λ (w : Parked). waits_under (Some a.id) w ≡ false) ps) p qs (each_unwaited [] qs ps k.free))
  where
    each_unwaited : (pre qs : List Ask) (ps : List Parked) → AllByRecursion (IsFree (pre ++ qs)) ps → AllByRecursion (λ (a : Ask). AllByRecursion (λ (w : Parked). waits_under (Some a.id) w ≡ false) ps) qs
    each_unwaited pre [] ps h = tt
    each_unwaited pre (a ∷ qs) ps h = (under_none a pre qs ps h, each_unwaited (pre ++ a ∷ []) qs ps (subst (λ cs. AllByRecursion (IsFree cs) ps) (sym (append_assoc pre (a ∷ []) qs)) h))
