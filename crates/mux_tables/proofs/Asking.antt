-- What editors were asked for a start, one event further.
use Rattle.std.proofs.Common.{◌≡◌, ℕ, ◌+◌, ◌<◌, Bool, true, false, not, ◌&&◌, List, [], ◌∷◌, ◌++◌, filter, refl, ap, sym, subst, ◌∙◌, nat_eq, arith, if◌then◌else◌}
use Rattle.std.specs.Prelude.{Option, Some, None, is_some}
use Rattle.std.specs.List.{AllByRecursion}
use Rattle.ask_route.specs.declared.ask.Ask as route
use Rattle.mux_history.specs.declared.cause.Cause.TheVariants.{FromEditor}
use Rattle.mux_history.specs.declared.out.Out.TheVariants.{ToEditor, ToServer}
use Rattle.rpc_message.specs.Message.{Message, Id, request}
use Rattle.event_model.specs.declared.stage.Stage.{Stage}
use Rattle.event_model.specs.declared.stage.Stage.TheVariants.{Unspawned, Spawning, Initializing, Ready, Stopping, Ending, Ended}
use Rattle.event_model.specs.Event.{Event, did, took}
use Rattle.event_model.specs.Requests.{answered_id}
use Rattle.event_model.specs.Stages.{is_ready}
use Rattle.event_model.specs.Settings.{Settings}
use Rattle.event_model.proofs.Frames.{never, one_more}
use Rattle.group_words.proofs.Frames.{past_more}
use Rattle.group_laws.specs.group_rows.specs.Asks.{Ask, Asking, Parked, asked_behind, asking_next, asking_of, asks_of, is_seated, is_under, next_ask, no_asking, parked_of, waits_under}
use Rattle.restart_replay.specs.Standings.{Standing, moved}
use Rattle.mux_tables.specs.declared.tables.Start.{Start}
use Rattle.mux_tables.specs.Stands.{AnswersNone, AsksAt, AsksStand, AsksStay, OpenStay, ParkedAt, ParkedStand, ParkedStay, PartStands, WasAsked, begun_at, is_answer, of_asks, of_parked}

pub asking_more : (settings : Settings) (s : ℕ) (events : List Event) (ev : Event) → asking_of settings s (events ++ ev ∷ []) ≡ asking_next settings s events (asking_of settings s events) ev
asking_more settings s events ev = past_more (asking_next settings s) [] no_asking events ev

pub asks_more : (settings : Settings) (s : ℕ) (events : List Event) (ev : Event) → OpenStay settings s events ev → asks_of settings s (events ++ ev ∷ []) ≡ asks_of settings s events
asks_more settings s events ev same = ap (λ (x : Asking). x.asks) (asking_more settings s events ev) ∙ same

pub parked_more : (settings : Settings) (s : ℕ) (events : List Event) (ev : Event) → ParkedStay settings s events ev → parked_of settings s (events ++ ev ∷ []) ≡ parked_of settings s events
parked_more settings s events ev same = ap (λ (x : Asking). x.parked) (asking_more settings s events ev) ∙ same

-- where nothing passes a test, nothing goes
pub none_gone : {A : Type 0} (p : A → Bool) (xs : List A) → AllByRecursion (λ x. p x ≡ false) xs → filter (λ x. not (p x)) xs ≡ xs
none_gone p [] h = refl
none_gone p (x ∷ xs) h = go (p x) h.0 (none_gone p xs h.1)
  where
    go : (b : Bool) → b ≡ false → filter (λ x. not (p x)) xs ≡ xs → (if not b then x ∷ filter (λ x. not (p x)) xs else filter (λ x. not (p x)) xs) ≡ x ∷ xs
    go false h k = ap (λ ys. x ∷ ys) k
    go true h k = never h

-- an answer to the start, by whether it goes there
abbrev pub told_asking : Option Id → Asking → Bool → Asking
told_asking o x b = if b then record { asker = x.asker; runs = x.runs; asks = filter (λ a. not (is_under o a)) x.asks; parked = filter (λ p. not (waits_under o p)) x.parked } else x

-- no ask is answered under no id
pub unanswered : (e : ℕ) (qs : List Ask) (o : Option Id) → is_some o ≡ false → filter (λ a. not (is_seated e o a)) qs ≡ qs
unanswered e qs (Some id) h = never h
unanswered e [] None h = refl
unanswered e (a ∷ qs) None h = go (nat_eq a.editor e) (unanswered e qs None h)
  where
    go : (b : Bool) → filter (λ a. not (is_seated e None a)) qs ≡ qs → (if not (b && false) then a ∷ filter (λ a. not (is_seated e None a)) qs else filter (λ a. not (is_seated e None a)) qs) ≡ a ∷ qs
    go true k = ap (λ bs. a ∷ bs) k
    go false k = ap (λ bs. a ∷ bs) k

pub unhanded : (qs : List Ask) (o : Option Id) → is_some o ≡ false → filter (λ a. not (is_under o a)) qs ≡ qs
unhanded qs (Some id) h = never h
unhanded [] None h = refl
unhanded (a ∷ qs) None h = ap (λ bs. a ∷ bs) (unhanded qs None h)

pub unwaited : (ps : List Parked) (o : Option Id) → is_some o ≡ false → filter (λ p. not (waits_under o p)) ps ≡ ps
unwaited ps (Some id) h = never h
unwaited [] None h = refl
unwaited (p ∷ ps) None h = ap (λ bs. p ∷ bs) (unwaited ps None h)

-- numbers that were given stay given
later_number : (e n : ℕ) (m : ℕ) (ev : Event) → n < m → n < asked_behind e m ev
later_number e n m (did (ToEditor k body) (request id method ps)) h = go (nat_eq k e)
  where
    go : (b : Bool) → n < (if b then m + 1 else m)
    go true = omega (arith, h)
    go false = h
later_number e n m other h = h

later_asked : (events : List Event) (ev : Event) (qs : List Ask) → AllByRecursion (WasAsked events) qs → AllByRecursion (WasAsked (events ++ ev ∷ [])) qs
later_asked events ev [] h = tt
later_asked events ev (a ∷ qs) h = ((subst (λ m. a.number < m) (sym (one_more (asked_behind a.editor) _ _ events ev refl)) (later_number a.editor a.number (next_ask a.editor events) ev h.0.0), h.0.1), later_asked events ev qs h.1)

pub asks_later : (stage : Stage) (events : List Event) (ev : Event) (qs : List Ask) (kept : List route.Ask) → AsksAt stage events qs kept → AsksAt stage (events ++ ev ∷ []) qs kept
asks_later Ready events ev qs kept s = record { same = s.same; texts = s.texts; asked = later_asked events ev qs s.asked; apart = s.apart }
asks_later Unspawned events ev qs kept s = s
asks_later Spawning events ev qs kept s = s
asks_later Initializing events ev qs kept s = s
asks_later other events ev qs kept s = tt

-- the event leaves them
pub asks_by : (settings : Settings) (limit : ℕ) (x : Start) (events : List Event) (ev : Event) → OpenStay settings x.life.start events ev → PartStands of_asks settings limit x events → PartStands of_asks settings limit x (events ++ ev ∷ [])
asks_by settings limit x events ev same s = subst (λ qs. AsksAt x.life.stage (events ++ ev ∷ []) qs x.asks) (sym (asks_more settings x.life.start events ev same)) (asks_later x.life.stage events ev (asks_of settings x.life.start events) x.asks s)

pub same_parked : (settings : Settings) (stage : Stage) (s : ℕ) (events : List Event) (ev : Event) (kept : List route.Ask) → AsksStay settings s events ev → ParkedAt stage (asks_of settings s events) (parked_of settings s events) kept
    → ParkedAt stage (asks_of settings s (events ++ ev ∷ [])) (parked_of settings s (events ++ ev ∷ [])) kept
same_parked settings stage s events ev kept same h = subst (λ qs. ParkedAt stage qs (parked_of settings s (events ++ ev ∷ [])) kept) (sym (asks_more settings s events ev same.asks))
    (subst (λ ps. ParkedAt stage (asks_of settings s events) ps kept) (sym (parked_more settings s events ev same.parked)) h)

pub parked_by : (settings : Settings) (limit : ℕ) (x : Start) (events : List Event) (ev : Event) → AsksStay settings x.life.start events ev → PartStands of_parked settings limit x events → PartStands of_parked settings limit x (events ++ ev ∷ [])
parked_by settings limit x events ev same h = same_parked settings x.life.stage x.life.start events ev x.parked same h

-- a body to the start that answers none of them, where it is ready
module _ (settings : Settings) (stage : Stage) (s : ℕ) (events : List Event) (body : List ℕ) (m : Message) (kept : List route.Ask) (silent : is_ready stage ≡ true → AsksStay settings s events (did (ToServer s body) m)) where
  abbrev ev : Event
  ev = did (ToServer s body) m

  open_empty : asks_of settings s events ≡ [] → asks_of settings s (events ++ ev ∷ []) ≡ []
  open_empty none = ap (λ (x : Asking). x.asks) (asking_more settings s events ev) ∙ told (nat_eq s s)
    where
      told : (b : Bool) → (told_asking (answered_id m) (asking_of settings s events) b).asks ≡ []
      told true = ap (filter (λ a. not (is_under (answered_id m) a))) none
      told false = none

  waiting_empty : parked_of settings s events ≡ [] → parked_of settings s (events ++ ev ∷ []) ≡ []
  waiting_empty none = ap (λ (x : Asking). x.parked) (asking_more settings s events ev) ∙ told (nat_eq s s)
    where
      told : (b : Bool) → (told_asking (answered_id m) (asking_of settings s events) b).parked ≡ []
      told true = ap (filter (λ p. not (waits_under (answered_id m) p))) none
      told false = none

  pub told_asks : AsksAt stage events (asks_of settings s events) kept → AsksAt stage (events ++ ev ∷ []) (asks_of settings s (events ++ ev ∷ [])) kept
  told_asks h = at stage (λ r. (silent r).asks) h
    where
      at : (stage : Stage) → (is_ready stage ≡ true → OpenStay settings s events ev) → AsksAt stage events (asks_of settings s events) kept → AsksAt stage (events ++ ev ∷ []) (asks_of settings s (events ++ ev ∷ [])) kept
      at Ready silent h = subst (λ qs. AsksStand (events ++ ev ∷ []) qs kept) (sym (asks_more settings s events ev (silent refl))) (asks_later Ready events ev (asks_of settings s events) kept h)
      at Unspawned silent h = (open_empty h.0, h.1)
      at Spawning silent h = (open_empty h.0, h.1)
      at Initializing silent h = (open_empty h.0, h.1)
      at other silent h = tt

  pub told_parked : ParkedAt stage (asks_of settings s events) (parked_of settings s events) kept → ParkedAt stage (asks_of settings s (events ++ ev ∷ [])) (parked_of settings s (events ++ ev ∷ [])) kept
  told_parked h = at stage silent h
    where
      at : (stage : Stage) → (is_ready stage ≡ true → AsksStay settings s events ev) → ParkedAt stage (asks_of settings s events) (parked_of settings s events) kept
          → ParkedAt stage (asks_of settings s (events ++ ev ∷ [])) (parked_of settings s (events ++ ev ∷ [])) kept
      at Ready silent h = same_parked settings Ready s events ev kept (silent refl) h
      at Unspawned silent h = (waiting_empty h.0, h.1)
      at Spawning silent h = (waiting_empty h.0, h.1)
      at Initializing silent h = (waiting_empty h.0, h.1)
      at other silent h = tt

-- it is under the id of none of them
pub none_handed : (settings : Settings) (s : ℕ) (events : List Event) (body : List ℕ) (m : Message) → AllByRecursion (λ (a : Ask). is_under (answered_id m) a ≡ false) (asks_of settings s events)
    → AllByRecursion (λ (p : Parked). waits_under (answered_id m) p ≡ false) (parked_of settings s events) → AsksStay settings s events (did (ToServer s body) m)
none_handed settings s events body m h k = record {
  asks = told_open (nat_eq s s) (none_gone (is_under (answered_id m)) (asks_of settings s events) h);
  parked = told_waiting (nat_eq s s) (none_gone (waits_under (answered_id m)) (parked_of settings s events) k);
}
  where
    told_open : (b : Bool) → filter (λ a. not (is_under (answered_id m) a)) (asks_of settings s events) ≡ asks_of settings s events → (told_asking (answered_id m) (asking_of settings s events) b).asks ≡ asks_of settings s events
    told_open true q = q
    told_open false q = refl

    told_waiting : (b : Bool) → filter (λ p. not (waits_under (answered_id m) p)) (parked_of settings s events) ≡ parked_of settings s events → (told_asking (answered_id m) (asking_of settings s events) b).parked ≡ parked_of settings s events
    told_waiting true q = q
    told_waiting false q = refl

-- where a start goes on
pub begun_asks : (g : Stage) (l : Standing) (events : List Event) (qs : ℕ → List Ask) (kept : List route.Ask) → l.stage ≡ g → AsksAt l.stage events (qs l.start) kept → AsksAt (begun_at g l).stage events (qs (begun_at g l).start) kept
begun_asks Spawning l events qs kept h s = subst (λ k. AsksAt k events (qs l.start) kept) h s
begun_asks Unspawned l events qs kept h s = s
begun_asks Initializing l events qs kept h s = s
begun_asks Ready l events qs kept h s = s
begun_asks Stopping l events qs kept h s = s
begun_asks Ending l events qs kept h s = s
begun_asks Ended l events qs kept h s = s

pub begun_parked : (g : Stage) (l : Standing) (qs : ℕ → List Ask) (ps : ℕ → List Parked) (kept : List route.Ask) → l.stage ≡ g → ParkedAt l.stage (qs l.start) (ps l.start) kept → ParkedAt (begun_at g l).stage (qs (begun_at g l).start) (ps (begun_at g l).start) kept
begun_parked Spawning l qs ps kept h s = subst (λ k. ParkedAt k (qs l.start) (ps l.start) kept) h s
begun_parked Unspawned l qs ps kept h s = s
begun_parked Initializing l qs ps kept h s = s
begun_parked Ready l qs ps kept h s = s
begun_parked Stopping l qs ps kept h s = s
begun_parked Ending l qs ps kept h s = s
begun_parked Ended l qs ps kept h s = s

nothing_asked : (events : List Event) (qs : List Ask) (kept : List route.Ask) → qs ≡ [] → kept ≡ [] → AsksStand events qs kept
nothing_asked events qs kept h k = rw (h, k) (record { same = refl; texts = tt; asked = tt; apart = tt })

pub first_asks : (g : Stage) (life l : Standing) (events : List Event) (qs : List Ask) (kept : List route.Ask) → life ≡ moved Ready l → g ≡ Initializing → AsksAt g events qs kept → AsksAt life.stage events qs kept
first_asks g life l events qs kept is stage s =
    let none : (qs ≡ []) × (kept ≡ []) = subst (λ k. AsksAt k events qs kept) stage s in
    subst (λ (w : Standing). AsksAt w.stage events qs kept) (sym is) (nothing_asked events qs kept none.0 none.1)

nothing_waits : (qs : List Ask) (ps : List Parked) (kept : List route.Ask) → ps ≡ [] → kept ≡ [] → ParkedStand qs ps kept
nothing_waits qs ps kept h k = rw (h, k) (record { same = refl; bodies = tt; own = tt; free = tt })

pub first_parked : (g : Stage) (life l : Standing) (qs : List Ask) (ps : List Parked) (kept : List route.Ask) → life ≡ moved Ready l → g ≡ Initializing → ParkedAt g qs ps kept → ParkedAt life.stage qs ps kept
first_parked g life l qs ps kept is stage s =
    let none : (ps ≡ []) × (kept ≡ []) = subst (λ k. ParkedAt k qs ps kept) stage s in
    subst (λ (w : Standing). ParkedAt w.stage qs ps kept) (sym is) (nothing_waits qs ps kept none.0 none.1)

-- a message of an editor that answers none of them
pub none_answered : (settings : Settings) (e s : ℕ) (body : List ℕ) (m : Message) (events : List Event) → AllByRecursion (λ (a : Ask). is_seated e (answered_id m) a ≡ false) (asks_of settings s events) → AsksStay settings s events (took (FromEditor e body) m)
none_answered settings e s body m events h = record { asks = none_gone (is_seated e (answered_id m)) (asks_of settings s events) h; parked = refl }

-- one that is no response answers none
pub answers_all : (settings : Settings) (e : ℕ) (m : Message) (events : List Event) → is_answer m ≡ false → (s : ℕ) → AllByRecursion (λ (a : Ask). is_seated e (answered_id m) a ≡ false) (asks_of settings s events)
answers_all settings e m events h s = go (answered_id m) h (asks_of settings s events)
  where
    off : (b : Bool) → (b && false) ≡ false
    off true = refl
    off false = refl

    go : (o : Option Id) → is_some o ≡ false → (qs : List Ask) → AllByRecursion (λ (a : Ask). is_seated e o a ≡ false) qs
    go (Some id) h qs = never h
    go None h [] = tt
    go None h (a ∷ qs) = (off (nat_eq a.editor e), go None h qs)

pub answers_none : (settings : Settings) (e : ℕ) (m : Message) (events : List Event) → is_answer m ≡ false → AnswersNone settings e m events
answers_none settings e m events h = λ s ready. answers_all settings e m events h s
