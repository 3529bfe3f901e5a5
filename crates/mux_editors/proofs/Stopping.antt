-- E6: the whole entry of a stop.
use Rattle.std.proofs.Common.{◌≡◌, ℕ, ◌<◌, ◌^◌, Bool, true, false, not, ◌&&◌, List, [], ◌∷◌, ◌++◌, codes, refl, ap, sym, subst, ◌∙◌, append-nil, arith}
use Rattle.std.specs.List.{AllByRecursion}
use Rattle.std.specs.Prelude.{Some, slice_get}
use Rattle.std.proofs.lemmas.Bool.{and_parts}
use Rattle.mux_history.specs.declared.cause.Cause.TheVariants.{FromEditor}
use Rattle.mux_history.specs.declared.out.Out.{Out}
use Rattle.mux_history.specs.declared.out.Out.TheVariants.{ToEditor}
use Rattle.rpc_message.specs.Message.{id_bytes, message_of}
use Rattle.rpc_message.specs.Texts.{ok_text}
use Rattle.event_model.specs.declared.stage.Stage.{Stage}
use Rattle.event_model.specs.declared.stage.Stage.TheVariants.{Ready}
use Rattle.event_model.specs.Does.{Does, Done}
use Rattle.event_model.specs.Event.{Event, behind, requests, said, with_cause}
use Rattle.event_model.specs.Phases.{desk_of, is_begun, is_there}
use Rattle.event_model.specs.Row.{Row, each, outs, send, ◌⨾◌}
use Rattle.event_model.specs.Settings.{Settings}
use Rattle.event_model.specs.Stages.{Life, is_ready, life_of}
use Rattle.event_model.proofs.Turns.{behind_more, does_then}
use Rattle.group_words.specs.Houses.{groups_of, is_doubled, stops}
use Rattle.group_words.specs.Placing.{all_from, is_live}
use Rattle.group_words.specs.Rows.{end_group}
use Rattle.group_rows.specs.Rows.{asks_lspmux}
use Rattle.group_rows.specs.StopRows.{close_each, refuse_open, stop_row, there_in}
use Rattle.mux_tables.specs.declared.tables.Start.{Start}
use Rattle.mux_tables.specs.declared.tables.Tables.{Tables}
use Rattle.mux_tables.specs.Documents.{AllStand, DocumentsStand, Owed, nothing_owed}
use Rattle.mux_tables.specs.Stands.{Keeps, Stands, of_life}
use Rattle.mux_turns.specs.group_facts.specs.Facts.{AllForwarded, Known, Numbered, is_up}
use Rattle.mux_turns.specs.group_facts.specs.Settled.{Settled}
use Rattle.mux_turns.specs.group_facts.proofs.Quits.{asked_while}
use Rattle.mux_turns.specs.group_facts.proofs.Ceased.{Low}
use Rattle.mux_turns.specs.group_facts.proofs.StopDown.{stop_unready}
use Rattle.mux_turns.proofs.Departing.{behind_first}
use Rattle.mux_turns.proofs.Evictions.{numbered_heard}
use Rattle.mux_tables.specs.mux_waits.specs.Stands.{AnswersId}
use Rattle.event_model.specs.Requests.{answered_id}
use Rattle.mux_turns.proofs.Keeping.{answers_own, keeps_reply, null_says, null_tree}
use Rattle.mux_editors.proofs.Halting.{IsAside, aside_join, closes_aside, halts_does, halts_each, numbered_asides, refuses_aside, refusing_heard, refusing_on, stops_done}
use Rattle.mux_editors.proofs.Lspmux.{lspmux_is, own_others, stop_asks}
use Rattle.mux_editors.specs.Halting.{Halts, Refusing}

is_off : (b : Bool) → not b ≡ true → b ≡ false
is_off true h = absurd (cc)
is_off false h = refl

unready_by : (stage : Stage) → (stage ≡ Ready → ⊥) → is_ready stage ≡ false
unready_by Ready h = absurd (h refl)
unready_by other h = refl

module _ (settings : Settings) (before : List Event) (e : ℕ) (body : List ℕ) (stop : stops before e (message_of body) ≡ true) where
  abbrev base : List Event
  base = with_cause before (FromEditor e body)

  abbrev answer : Row
  answer = send (ToEditor e (ok_text (id_bytes body) (codes "null")))

  pub stop_own : asks_lspmux (message_of body) ≡ true
  stop_own = stop_asks (message_of body) (and_parts (requests (codes "lspmux/stop") (message_of body)) _ stop).0

  -- its editor is there, and its id isn't open
  parts : (is_there (desk_of e before).phase ≡ true) × (not (is_begun (desk_of e before).phase && is_doubled before e (message_of body)) ≡ true)
  parts = and_parts (is_there (desk_of e before).phase) _ (and_parts (requests (codes "lspmux/stop") (message_of body)) _ stop).1

  -- the answer leaves its editor where it is
  pub answer_keeps : (text : List ℕ) (xs : List Out) → Settled settings before → xs ≡ [] → text ≡ ok_text (id_bytes body) (codes "null") → Keeps e text (behind base xs)
  answer_keeps text xs settled first is =
      let k = lspmux_is (message_of body) stop_own in
      let single = is_off (is_begun (desk_of e before).phase && is_doubled before e (message_of body)) parts.1 in
      subst (Keeps e text) (sym (behind_first base xs first))
      (keeps_reply e text base k.id null_tree (ap message_of is ∙ null_says body k.id k.method k.params k.is) (own_others before e body stop_own settings single settled))

  -- and answers its request
  pub answer_own : (text own : List ℕ) → own ≡ id_bytes body → text ≡ ok_text (id_bytes body) (codes "null") → AnswersId own text
  answer_own text own same is =
      let k = lspmux_is (message_of body) stop_own in
      answers_own text body own k.method k.id k.params same k.is (ap answered_id (ap message_of is ∙ null_says body k.id k.method k.params k.is))

  -- numbers are small
  low : (t : Tables) → Stands settings t before → Known settings before → Low before
  low t st known g s at ready =
      let next = known.bounded s (ap is_up ready) in
      let most = next.0 in
      let least = next.1 in
      let range : settings.limits.requests < 2 ^ 32 = subst (λ n. n < 2 ^ 32) (sym st.requests) st.range in
      omega (arith, most, least, range)

  -- no start is ready behind it, by the tables
  unready : (t v : Tables) (ys : List Out) → Stands settings t before → Known settings before → Settled settings before → ys ≡ outs (stop_row settings before e body) base → Stands settings v (behind base ys)
      → (g : ℕ) (x : Start) → slice_get v.lasts.items g ≡ Some x → is_ready x.life.stage ≡ false
  unready t v ys was known settled sent st g x at =
      let stage : (life_of x.life.start (behind base ys)).stage ≡ x.life.stage = ap (λ (l : Life). l.stage) ((st.lasts.each g x at).parts of_life) in
      let same : (life_of x.life.start (behind base (outs (stop_row settings before e body) base))).stage ≡ x.life.stage = ap (λ ws. (life_of x.life.start (behind base ws)).stage) (sym sent) ∙ stage in
      unready_by x.life.stage (λ ready. stop_unready settings before e body known settled (low t was known) stop x.life.start (same ∙ ready))

  -- what comes before the groups' ends leaves the numbers of starts alone
  abbrev first_parts : List ℕ → List ℕ → Row
  first_parts lost shut = answer ⨾ (each (refuse_open settings before) lost ⨾ close_each shut)

  parts_aside : (lost shut : List ℕ) (events : List Event) → AllByRecursion IsAside (outs (first_parts lost shut) events)
  parts_aside lost shut events =
      let told = events ++ said (ToEditor e (ok_text (id_bytes body) (codes "null"))) ∷ [] in
      (tt, aside_join (outs (each (refuse_open settings before) lost) told) _ (refuses_aside settings before lost told) (closes_aside shut (behind told (outs (each (refuse_open settings before) lost) told))))

  still_numbered : (t u : Tables) (ys : List Out) (lost shut : List ℕ) → Known settings before → Halts settings t (behind base []) → Does (λ t events. Halts settings t events) (first_parts lost shut) base t [] u ys → Numbered settings (behind base ys)
  still_numbered t u ys lost shut known here d =
      let sent : behind base ys ≡ behind (behind base []) (outs (first_parts lost shut) (behind base [])) = ap (behind base) (d.done here).outs ∙ behind_more base [] (outs (first_parts lost shut) (behind base [])) in
      subst (Numbered settings) (sym sent) (numbered_asides settings (outs (first_parts lost shut) (behind base [])) (behind base []) (parts_aside lost shut (behind base [])) (subst (Numbered settings) (sym (append-nil base)) (numbered_heard settings before e body known.numbered)))

  pub stops_all : Known settings before → Settled settings before → (t t0 a r u v : Tables) → Stands settings t before → Stands settings t0 base → DocumentsStand settings nothing_owed t0 base
      → (xs told refused closed ys : List Out) (lost shut live : List ℕ) → xs ≡ [] → lost ≡ there_in before → shut ≡ there_in before → live ≡ all_from 0 is_live (groups_of settings before)
      → Does (λ t events. Stands settings t events) answer base t0 xs a told → ((owed : Owed) → DocumentsStand settings owed t0 (behind base xs) → DocumentsStand settings owed a (behind base told))
      → (AllForwarded settings before → Refusing settings before (behind base told) → Does (λ t events. Stands settings t events) (each (refuse_open settings before) lost) base a told r refused)
      → ((owed : Owed) → DocumentsStand settings owed a (behind base told) → DocumentsStand settings owed r (behind base refused))
      → Does (λ t events. Halts settings t events) (close_each shut) base r refused u closed
      → ((owed : Owed) → Numbered settings (behind base closed) → Does (λ k events. AllStand settings k events) (each end_group live) base (u, owed) closed (v, owed) ys)
      → Done (λ k events. AllStand settings k events) (stop_row settings before e body) base [] (v, nothing_owed) ys
  stops_all known settled t t0 a r u v was st ds xs told refused closed ys lost shut live first those these alive tells told_docs refuses refused_docs closes ends =
      let says = subst (λ ws. Does (λ t events. Stands settings t events) answer base t0 ws a told) first tells in
      let says_docs = subst (λ ws. (owed : Owed) → DocumentsStand settings owed t0 (behind base ws) → DocumentsStand settings owed a (behind base told)) first told_docs in
      let none : behind base [] ≡ base = append-nil base in
      let here : Halts settings t0 (behind base []) = subst (λ es. Halts settings t0 es) (sym none) (st, (nothing_owed, ds)) in
      let begins : Refusing settings before (behind base []) = subst (Refusing settings before) (sym none) (refusing_heard settings before e body stop known.waiting settled.seated) in
      let goes_on : Refusing settings before (behind base told) = refusing_on settings t0 a before base [] told {row = answer} (λ events. (tt, tt)) says here.0 begins in
      let forwarded : AllForwarded settings before = asked_while settings before known.asked known.quit e parts.0 in
      let one = halts_does settings t0 a base [] told says says_docs in
      let two = halts_does settings a r base told refused (refuses forwarded goes_on) refused_docs in
      let numbered : Numbered settings (behind base closed) = still_numbered t0 u closed lost shut known here (does_then one (does_then two closes)) in
      stops_done settings before base e body t0 a r u v told refused closed ys lost shut live st ds those these alive one two closes
      (halts_each settings u v base closed ys (λ owed. ends owed numbered)) (unready t v ys was known settled)
