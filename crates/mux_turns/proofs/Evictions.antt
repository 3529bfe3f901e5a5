-- E7: a group ends, and another one is founded in its place.
use Rattle.std.proofs.Common.{◌≡◌, ℕ, ◌≤◌, Bool, true, false, ◌&&◌, List, [], ◌∷◌, ◌++◌, codes, decimal, refl, ap, sym, subst, ◌∙◌, append-nil, arith, nat_lt}
use Rattle.std.specs.Prelude.{Option, Some, None, slice_get, map}
use Rattle.std.proofs.lemmas.Bool.Decides.{nat_tests}
use Rattle.json_text.specs.Json.{Json}
use Rattle.mux_history.specs.declared.cause.Cause.TheVariants.{FromEditor, Tick}
use Rattle.mux_history.specs.declared.out.Out.{Out}
use Rattle.mux_history.specs.declared.out.Out.TheVariants.{ToEditor, ToServer, CloseEditor, EndServer}
use Rattle.rpc_message.specs.Message.{Id, integer, message_of, request}
use Rattle.rpc_message.specs.Texts.{request_text}
use Rattle.event_model.specs.declared.stage.Stage.{Stage}
use Rattle.event_model.specs.declared.stage.Stage.TheVariants.{Unspawned, Spawning, Initializing, Ready, Stopping, Ending, Ended}
use Rattle.event_model.specs.Does.{Does}
use Rattle.event_model.specs.Event.{Event, behind, heard, said, with_cause}
use Rattle.event_model.specs.Requests.{number_behind, next_number}
use Rattle.event_model.specs.Row.{nothing, look, on, outs, send}
use Rattle.event_model.specs.Settings.{Settings}
use Rattle.event_model.specs.Spawns.{start_behind, start_of}
use Rattle.event_model.specs.Stages.{Life, is_ready, life_behind, life_of}
use Rattle.event_model.proofs.Frames.{one_more}
use Rattle.event_model.proofs.Turns.{behind_more, does_knowing, does_look, does_nothing, does_then}
use Rattle.group_facts.specs.Facts.{Numbered}
use Rattle.group_facts.specs.Why.{is_starting}
use Rattle.group_facts.proofs.GroupEnds.{shutdown_says}
use Rattle.group_facts.specs.group_rows.specs.Forwarded.{Forwarding, forwarding_next, forwarding_of}
use Rattle.group_facts.specs.group_rows.proofs.Frames.{forwarding_more}
use Rattle.group_words.specs.declared.placed.Placed.TheVariants.{Evicts}
use Rattle.group_words.specs.Rows.{end_group, end_start, placed_row, spawn}
use Rattle.mux_tables.specs.id_rewrite.specs.Tables.{IsInOrder}
use Rattle.mux_tables.specs.declared.tables.Start.{Start}
use Rattle.mux_tables.specs.declared.tables.Tables.{Tables}
use Rattle.mux_tables.specs.Documents.{AllStand, DocumentsStand, Owed, nothing_owed}
use Rattle.mux_tables.specs.Stands.{HasEnded, Stands, number_in, of_ids, of_life}
use Rattle.mux_tables.proofs.DocumentOwed.{all_does}
use Rattle.mux_tables.proofs.Starts.{start_at_place}
use Rattle.mux_turns.specs.Founding.{IsNext}

-- the number that is left
pub last_number : (stage : Stage) (next limit requests : ℕ) (asks : Bool) → stage ≡ Ready → asks ≡ (is_ready stage && nat_lt next limit) → asks ≡ false → next ≤ limit → limit ≡ requests → requests ≡ next
last_number stage next limit requests asks ready is off low e =
    let test : nat_lt next limit ≡ false = sym (is ∙ ap (λ s. is_ready s && nat_lt next limit) ready) ∙ off in
    grind (arith, nat_tests)

pub starting_runs : (stage : Stage) → is_starting stage ≡ true → stage ≡ Ended → ⊥
starting_runs Ended h e = absurd (cc)
starting_runs Unspawned h e = absurd (cc)
starting_runs Spawning h e = cc
starting_runs Initializing h e = cc
starting_runs Ready h e = absurd (cc)
starting_runs Stopping h e = absurd (cc)
starting_runs Ending h e = absurd (cc)

ends_starting : (s : ℕ) (stage : Stage) → is_starting stage ≡ true → end_start s stage ≡ send (EndServer s)
ends_starting s Spawning h = refl
ends_starting s Initializing h = refl
ends_starting s Unspawned h = absurd (cc)
ends_starting s Ready h = absurd (cc)
ends_starting s Stopping h = absurd (cc)
ends_starting s Ending h = absurd (cc)
ends_starting s Ended h = absurd (cc)

ends_other : (s : ℕ) (stage : Stage) → is_ready stage ≡ false → is_starting stage ≡ false → end_start s stage ≡ nothing
ends_other s Ready h k = absurd (cc)
ends_other s Spawning h k = absurd (cc)
ends_other s Initializing h k = absurd (cc)
ends_other s Unspawned h k = refl
ends_other s Stopping h k = refl
ends_other s Ending h k = refl
ends_other s Ended h k = refl

module _ (settings : Settings) (t u : Tables) (base : List Event) (xs ys : List Out) (g s : ℕ) (x : Start) (at : slice_get t.lasts.items g ≡ Some x) (number : slice_get (map number_in t.lasts.items) g ≡ Some s) where
  own : x.life.start ≡ s
  own = start_at_place t.lasts.items g s x at number

  pub stage_here : Stands settings t (behind base xs) → (life_of s (behind base xs)).stage ≡ x.life.stage
  stage_here st = subst (λ n. (life_of n (behind base xs)).stage ≡ x.life.stage) own (ap (λ (l : Life). l.stage) ((st.lasts.each g x at).parts of_life))

  -- it is sent `shutdown`
  pub shuts : (owed : Owed) (n : ℕ) (text : List ℕ) → x.life.stage ≡ Ready → (IsInOrder x.ids → x.ids.limit ≡ t.requests → n ≡ x.ids.next) → text ≡ request_text n (codes "shutdown") None → next_number s (behind base xs) ≡ (forwarding_of settings s (behind base xs)).next
      → ((name : Id) (ps : Option Json) → message_of text ≡ request name (codes "shutdown") ps → Does (λ t events. Stands settings t events) (send (ToServer s text)) base t xs u ys)
      → ((name : Id) (ps : Option Json) → message_of text ≡ request name (codes "shutdown") ps → DocumentsStand settings owed t (behind base xs) → DocumentsStand settings owed u (behind base ys))
      → Does (λ k events. AllStand settings k events) (end_start s Ready) base (t, owed) xs (u, owed) ys
  shuts owed n text ready same is asked d docs = does_knowing (λ k.
      let ids = (k.0.lasts.each g x at).parts of_ids in
      let next : n ≡ x.ids.next = same ids.order ids.ends in
      let asks : next_number s (behind base xs) ≡ n = asked ∙ (ap (λ m. (forwarding_of settings m (behind base xs)).next) (sym own) ∙ (ids.next ∙ sym next)) in
      let within = ids.order.within in
      let ends = ids.ends in
      let range = k.0.range in
      let says = ap message_of is ∙ shutdown_says n (omega (arith, next, within, ends, range)) in
      does_look (λ _. ap (λ w. send (ToServer s w)) (ap (λ m. request_text m (codes "shutdown") None) asks ∙ sym is))
      (all_does settings t u owed owed base xs ys (d (integer (decimal n)) None says) (λ _ ds. docs (integer (decimal n)) None says ds)))

  abbrev Ends : Owed → Type 0
  Ends owed = Does (λ k events. AllStand settings k events) (look (λ events. end_start s (life_of s events).stage)) base (t, owed) xs (u, owed) ys

  pub ends_ready : (owed : Owed) → x.life.stage ≡ Ready → Does (λ k events. AllStand settings k events) (end_start s Ready) base (t, owed) xs (u, owed) ys → Ends owed
  ends_ready owed ready d = does_look (λ k. ap (end_start s) (stage_here k.0 ∙ ready)) d

  pub ends_now : (owed : Owed) → is_starting x.life.stage ≡ true → Does (λ t events. Stands settings t events) (send (EndServer s)) base t xs u ys → (DocumentsStand settings owed t (behind base xs) → DocumentsStand settings owed u (behind base ys)) → Ends owed
  ends_now owed starting d docs = does_look (λ k. ap (end_start s) (stage_here k.0) ∙ ends_starting s x.life.stage starting) (all_does settings t u owed owed base xs ys d (λ _ ds. docs ds))

pub ends_never : (settings : Settings) (owed : Owed) (t : Tables) (base : List Event) (xs : List Out) (g s : ℕ) (x : Start) → slice_get t.lasts.items g ≡ Some x → slice_get (map number_in t.lasts.items) g ≡ Some s → is_ready x.life.stage ≡ false → is_starting x.life.stage ≡ false
    → Does (λ k events. AllStand settings k events) (look (λ events. end_start s (life_of s events).stage)) base (t, owed) xs (t, owed) xs
ends_never settings owed t base xs g s x at number ready starting = does_look (λ k. ap (end_start s) (stage_here settings t t base xs xs g s x at number k.0) ∙ ends_other s x.life.stage ready starting) does_nothing

-- the group's last start, where it has one
module _ (settings : Settings) (owed : Owed) (t u : Tables) (base : List Event) (xs ys : List Out) (g : ℕ) where
  pub evicts_none : (Stands settings t (behind base xs) → HasEnded (start_of g (behind base xs)) (behind base xs)) → Does (λ k events. AllStand settings k events) (end_group g) base (t, owed) xs (t, owed) xs
  evicts_none none = does_knowing (λ k. by_start (start_of g (behind base xs)) refl (none k.0))
    where
      by_start : (o : Option ℕ) → start_of g (behind base xs) ≡ o → HasEnded (start_of g (behind base xs)) (behind base xs) → Does (λ k events. AllStand settings k events) (end_group g) base (t, owed) xs (t, owed) xs
      by_start None is ended = does_look (λ _. ap (λ o. on o nothing (λ s. end_start s (life_of s (behind base xs)).stage)) is) does_nothing
      by_start (Some s) is ended = does_look (λ _. ap (λ o. on o nothing (λ n. end_start n (life_of n (behind base xs)).stage)) is ∙ ap (end_start s) (ended s is)) does_nothing

  pub evicts_some : (s : ℕ) → (Stands settings t (behind base xs) → start_of g (behind base xs) ≡ Some s) → Does (λ k events. AllStand settings k events) (look (λ events. end_start s (life_of s events).stage)) base (t, owed) xs (u, owed) ys
      → Does (λ k events. AllStand settings k events) (end_group g) base (t, owed) xs (u, owed) ys
  evicts_some s some d = record {
    done = λ k.
        let one = d.done k in
        record { outs = one.outs ∙ ap (λ o. xs ++ outs (on o nothing (λ s. end_start s (life_of s (behind base xs)).stage)) (behind base xs)) (sym (some k.0)); stands = one.stands };
  }

-- what it is sent spawns none
end_spawns : (h s : ℕ) (stage : Stage) (events : List Event) → start_of h (behind events (outs (end_start s stage) events)) ≡ start_of h events
end_spawns h s Ready events = one_more (start_behind h) _ _ events (said (ToServer s (request_text (next_number s events) (codes "shutdown") None))) refl
end_spawns h s Spawning events = one_more (start_behind h) _ _ events (said (EndServer s)) refl
end_spawns h s Initializing events = one_more (start_behind h) _ _ events (said (EndServer s)) refl
end_spawns h s other events = ap (start_of h) (append-nil events)

evict_spawns : (h : ℕ) (o : Option ℕ) (events : List Event) → start_of h (behind events (outs (on o nothing (λ s. end_start s (life_of s events).stage)) events)) ≡ start_of h events
evict_spawns h None events = ap (start_of h) (append-nil events)
evict_spawns h (Some s) events = end_spawns h s (life_of s events).stage events

pub next_by : (n : ℕ) (events later : List Event) → ((h : ℕ) → start_of h later ≡ start_of h events) → IsNext n events → IsNext n later
next_by n events later same k = record { none = λ h l. same h ∙ k.none h l }

pub replaces : (settings : Settings) (t u v : Tables) (before base : List Event) (e g n : ℕ) (body : List ℕ) (xs ys zs : List Out) → IsNext n (behind base xs) → Does (λ k events. AllStand settings k events) (end_group g) base (t, nothing_owed) xs (u, nothing_owed) ys
    → (IsNext n (behind base ys) → Does (λ t events. Stands settings t events) (spawn n) base u ys v zs) → (IsNext n (behind base ys) → Stands settings u (behind base ys) → DocumentsStand settings nothing_owed u (behind base ys) → DocumentsStand settings nothing_owed v (behind base zs))
    → Does (λ k events. AllStand settings k events) (placed_row e body before (Evicts g n)) base (t, nothing_owed) xs (v, nothing_owed) zs
replaces settings t u v before base e g n body xs ys zs next d spawns docs = does_knowing (λ k.
    let later : behind base ys ≡ behind (behind base xs) (outs (end_group g) (behind base xs)) = ap (behind base) (d.done k).outs ∙ behind_more base xs (outs (end_group g) (behind base xs)) in
    let still = next_by n (behind base xs) (behind base ys) (λ h. ap (start_of h) later ∙ evict_spawns h (start_of g (behind base xs)) (behind base xs)) next in
    does_then d (all_does settings u v nothing_owed nothing_owed base ys zs (spawns still) (docs still)))

-- a cause that no start's numbers speak of leaves them alone
numbered_quiet : (settings : Settings) (before : List Event) (event : Event) → ((s : ℕ) (l : Life) → life_behind s l event ≡ l) → ((s n : ℕ) → number_behind s n event ≡ n) → ((s : ℕ) (f : Forwarding) → (forwarding_next settings s before f event).next ≡ f.next) → Numbered settings before → Numbered settings (before ++ event ∷ [])
numbered_quiet settings before event life number next k s ready =
    let stood : (life_of s before).stage ≡ Ready = sym (ap (λ (l : Life). l.stage) (one_more (life_behind s) _ _ before event refl ∙ life s (life_of s before))) ∙ ready in
    (one_more (number_behind s) _ _ before event refl ∙ number s (next_number s before)) ∙ (k s stood ∙ sym (ap (λ (f : Forwarding). f.next) (forwarding_more settings s before event) ∙ next s (forwarding_of settings s before)))

pub numbered_heard : (settings : Settings) (before : List Event) (e : ℕ) (body : List ℕ) → Numbered settings before → Numbered settings (with_cause before (FromEditor e body))
numbered_heard settings before e body = numbered_quiet settings before (heard (FromEditor e body)) (λ s l. refl) (λ s n. refl) (λ s f. refl)

pub numbered_ticked : (settings : Settings) (before : List Event) (t : ℕ) → Numbered settings before → Numbered settings (with_cause before (Tick t))
numbered_ticked settings before t = numbered_quiet settings before (heard (Tick t)) (λ s l. refl) (λ s n. refl) (λ s f. refl)

-- nor do bodies to editors, and ends of their links
pub numbered_told : (settings : Settings) (before : List Event) (e : ℕ) (body : List ℕ) → Numbered settings before → Numbered settings (before ++ said (ToEditor e body) ∷ [])
numbered_told settings before e body = numbered_quiet settings before (said (ToEditor e body)) (λ s l. refl) (λ s n. refl) (λ s f. refl)

pub numbered_closed : (settings : Settings) (before : List Event) (e : ℕ) → Numbered settings before → Numbered settings (before ++ said (CloseEditor e) ∷ [])
numbered_closed settings before e = numbered_quiet settings before (said (CloseEditor e)) (λ s l. refl) (λ s n. refl) (λ s f. refl)
