-- A cancel of work names the token of a request that the start has to answer, as it was sent, or one that the start created.
use Rattle.std.proofs.Common.{◌≡◌, ℕ, ◌<◌, ◌^◌, Bool, true, false, not, cond, List, [], ◌∷◌, ◌++◌, bytes_eq, codes, decimal, find, Option, Some, None, is_some, IsTrue, refl, sym, ◌∙◌, ap, subst, arith}
use Rattle.std.specs.List.{AllByRecursion}
use Rattle.std.proofs.lemmas.Bool.{and_parts}
use Rattle.std.proofs.lemmas.Slice.Eq.{bytes_eq-Decides}
use Rattle.json_text.specs.Bare.{nowhere}
use Rattle.json_text.specs.Json.{Json, string}
use Rattle.mux_history.specs.declared.cause.Cause.{Cause}
use Rattle.mux_history.specs.declared.cause.Cause.TheVariants.{Joined, FromEditor}
use Rattle.mux_history.specs.declared.entry.Entry.{Entry}
use Rattle.mux_history.specs.declared.out.Out.{Out}
use Rattle.mux_history.specs.declared.out.Out.TheVariants.{ToEditor, ToServer, Spawn, CloseEditor, EndServer}
use Rattle.lsp_method.specs.Class.{class_of, editor_notification, own_notification}
use Rattle.lsp_method.specs.declared.variants.Origin.TheVariants.{Editor}
use Rattle.rpc_message.specs.Message.{Id, Message, id_of, integer, message_of, text}
use Rattle.rpc_message.specs.ValueTexts.{IsIdText, IsValueText}
use Rattle.event_model.specs.declared.stage.Stage.TheVariants.{Ready}
use Rattle.event_model.specs.Always.{Always}
use Rattle.event_model.specs.Event.{Event, behind, events_of, heard, said, with_cause}
use Rattle.event_model.specs.Members.{named_of}
use Rattle.event_model.specs.Parts.{is_of_server, server_part}
use Rattle.event_model.specs.Requests.{is_open}
use Rattle.event_model.specs.Settings.{Settings}
use Rattle.event_model.specs.Stages.{is_ready, life_of}
use Rattle.event_model.proofs.Frames.{never}
use Rattle.mux_model.specs.Fits.{fits_behind}
use Rattle.mux_model.specs.Methods.{goes_on}
use Rattle.mux_facts.specs.Ranges.{InRange}
use Rattle.mux_facts.proofs.DocumentRow.{ready_is}
use Rattle.mux_facts.proofs.Keeps.{behind_both, behind_nothing}
use Rattle.mux_facts.proofs.Lists.{found_is}
use Rattle.mux_facts.proofs.Reasons.{reasons_keep}
use Rattle.mux_facts.proofs.Rules.{rule_more}
use Rattle.mux_facts.proofs.Words.{number_same, open_more}
use Rattle.session_laws.specs.Progress.{is_one, names_one, token_at, tokens_in}
use Rattle.session_laws.specs.ServerRules.{KeepsServer7, ServerRule7}
use Rattle.session_laws.proofs.PartLaws.{is_to_server}
use Rattle.session_laws.proofs.Server7Law.{creates, creates_grows, free_7, notice_free, spoken_free, working}
use Rattle.session_laws.proofs.Tokens.{holds_open, names_freely, open_behind, or_second}
use Rattle.group_rows.specs.Created.{Token, created_of, is_marked, token_marked}
use Rattle.group_rows.specs.Forwarded.{Forwarded, forwarding_of, is_of}
use Rattle.group_rows.specs.Rows.{outs_of}
use Rattle.group_rows.specs.Tokens.{is_token_of, is_worked, mark, mark_text, marked_text, work_mark}
use Rattle.group_rows.proofs.TokenTexts.{mark_is}
use Rattle.group_facts.specs.Legal.{Legal}
use Rattle.group_facts.specs.Why.{IsWorkCancel, Why, WhyToServer, WorkMeant, begins, cancels, cancels_work, exits, forwarded, greets, conveys, notes, of_request, of_token, resolves, responds, shuts, tells}
use Rattle.group_facts.proofs.Facts.{Facts}
use Rattle.group_facts.proofs.Known.{Here, here_did, here_took}
use Rattle.group_facts.proofs.Reached.{Reached, facts_at, reached}
use Rattle.group_facts.proofs.LeaveRows.{IsSmall, numbers_small}
use Rattle.group_facts.proofs.Table.{reasons}
use Rattle.group_sessions.proofs.Behind.{created_behind, ready_asked, ready_outs}
use Rattle.group_sessions.proofs.Creating.{IsCreated, all_created}
use Rattle.group_sessions.proofs.Marked.{Marked, id_bare, marked}
use Rattle.group_sessions.proofs.Walk.{KeepsSlow, walk}
use Rattle.group_sessions.proofs.Working.{IsWorking, Ties, Waits, ties_free, ties_sent, ties_took, waits_behind, waits_took}
use Rattle.group_facts.proofs.SlowRow.{parting_walk, quit_works}
use Rattle.group_facts.specs.Why.{quitting}

-- What goes on of an editor's own notifications cancels no work

apart : (name method : List ℕ) → goes_on (class_of name Editor true) ≡ false → goes_on (class_of method Editor true) ≡ true → bytes_eq method name ≡ false
apart name method off going = go (bytes_eq method name) refl
  where
    go : (b : Bool) → bytes_eq method name ≡ b → b ≡ false
    go true same = never (sym (subst (λ m. goes_on (class_of m Editor true) ≡ true) ((bytes_eq-Decides method name).0 same) going) ∙ off)
    go false other = refl

not_work : (method : List ℕ) → goes_on (class_of method Editor true) ≡ true → bytes_eq method (codes "window/workDoneProgress/cancel") ≡ false
unfolding editor_notification own_notification
not_work method going = apart (codes "window/workDoneProgress/cancel") method refl going

-- What a cancel of work names

pub mark_id : (k : ℕ) → k < 10 ^ 64 → IsIdText (text (mark k)) (mark_text k)
mark_id k low = let w : IsValueText (string nowhere (mark k)) (mark_text k) = mark_is k low in record { tree = w.tree; stands = w.stands; is = sym (id_bare w.tree) ∙ ap id_of w.same }

found_true : {A : Type 0} (test : A → Bool) (x : A) (xs : List A) → find test xs ≡ Some x → test x ≡ true
found_true test x [] h = absurd (cc)
found_true test x (y ∷ ys) h = go (test y) refl (λ k. found_true test x ys k) h
  where
    go : (b : Bool) → test y ≡ b → (find test ys ≡ Some x → test x ≡ true) → cond b (Some y) (find test ys) ≡ Some x → test x ≡ true
    go true e rest k = subst (λ z. test z ≡ true) (let same : y ≡ x = cc in same) e
    go false e rest k = rest k

-- the request has a token, and one is named
record Worked (token : Option Json) (work : Option (List ℕ)) : Type 0 where
  bytes : List ℕ
  is : work ≡ Some bytes
  named : is_some token ≡ true

worked : (token : Option Json) (work : Option (List ℕ)) → is_token_of token work ≡ true → Worked token work
worked token None h = absurd (cc)
worked (Some j) (Some bytes) h = record { bytes = bytes; is = refl; named = refl }
worked None (Some bytes) h = absurd (cc)

marked_some : (s : ℕ) (token : Option Json) (ts : List Token) (t : Token) → find (is_marked s token) ts ≡ Some t → is_some token ≡ true
marked_some s (Some j) ts t h = refl
marked_some s None ts t h = never (sym (found_true (is_marked s None) t ts h))

module _ (settings : Settings) (range : InRange settings) (before : List Event) (facts : Facts settings before) (cause : Cause)
    (created : (s : ℕ) → (life_of s before).stage ≡ Ready → AllByRecursion (IsCreated s before) (created_of settings s before).tokens) where
  -- at a place inside of the entry
  record At (events : List Event) : Type 0 where
    here : Here settings before cause events
    outs : List Out
    place : events ≡ behind (with_cause before cause) outs
    first : Ties settings before
    ties : Ties settings events
    rules : (s : ℕ) → Always ServerRule7 (server_part s events)

  -- where it cancels the work that it may
  module _ (events : List Event) (s : ℕ) (body : List ℕ) where
    abbrev tokens : List Id
    tokens = tokens_in (working s events) ++ (creates s events).created

    abbrev May : Message → Type 0
    May m = IsTrue (names_one (codes "window/workDoneProgress/cancel") tokens m)

    may_by : (IsWorkCancel settings before cause events s body → May (message_of body)) → WhyToServer settings before cause events s body → May (message_of body)
    may_by works (begins k) = subst May (sym k.says) refl
    may_by works (greets k) = subst May (sym k.says) refl
    may_by works (conveys k) = subst May (sym k.says) refl
    may_by works (forwarded k) = subst May (sym k.says) refl
    may_by works (notes k) = subst May (sym k.says) (notice_free tokens k.method k.params (not_work k.method k.going))
    may_by works (tells k) = spoken_free tokens (message_of body) k.spoken
    may_by works (shuts k) = subst May (sym k.says) refl
    may_by works (cancels k) = subst May (sym k.says) refl
    may_by works (cancels_work k) = works k
    may_by works (responds k) = names_freely (codes "window/workDoneProgress/cancel") tokens (message_of body) k.response
    may_by works (resolves k) = names_freely (codes "window/workDoneProgress/cancel") tokens (message_of body) k.response
    may_by works (exits k) = subst May (sym k.says) refl

  module _ (events : List Event) (s : ℕ) (body : List ℕ) (at : At events) where
    abbrev these : List Id
    these = tokens events s body

    abbrev MayGo : Message → Type 0
    MayGo m = May events s body m

    may_name : (token : Id) (bytes asked method : List ℕ) → Marked token bytes asked method → body ≡ marked_text bytes asked → is_open token these ≡ true → MayGo (message_of body)
    may_name token bytes asked method m is there = subst (λ b. MayGo (message_of b)) (sym is) (subst MayGo (sym m.says)
        (or_second (not (bytes_eq method (codes "window/workDoneProgress/cancel"))) (is_one (token_at (codes "token") m.params) these) (ap (λ o. is_one o these) m.names ∙ there)))

    module _ (k : IsWorkCancel settings before cause events s body) where
      place : events ≡ behind (with_cause before (FromEditor k.editor k.asked)) at.outs
      place = at.place ∙ ap (λ c. behind (with_cause before c) at.outs) k.from

      was_ready : (life_of s before).stage ≡ Ready
      was_ready = ready_is (life_of s before).stage (ready_asked s before k.editor k.asked (ready_outs s (with_cause before (FromEditor k.editor k.asked)) at.outs (sym (ap (λ z. is_ready (life_of s z).stage) place) ∙ ap is_ready k.ready)))

      waits_here : (n : ℕ) → Waits s before n → Waits s events n
      waits_here n h = subst (λ z. Waits s z n) (sym place) (waits_behind s (with_cause before (FromEditor k.editor k.asked)) at.outs n (waits_took s before k.editor k.asked n h))

      requested : (f : Forwarded) → find (is_worked k.editor (named_of (codes "token") k.given)) (forwarding_of settings s before).open_requests ≡ Some f → k.text ≡ mark_text (work_mark f.number) → MayGo (message_of body)
      requested f found same =
          let small : f.number < 2 ^ 64 = found_is (λ (g : Forwarded). IsSmall g.number) (is_worked k.editor (named_of (codes "token") k.given)) f (forwarding_of settings s before).open_requests (numbers_small settings range before (facts.steady).bounded s was_ready) found in
          let w : Worked (named_of (codes "token") k.given) f.work = worked (named_of (codes "token") k.given) f.work
          (and_parts (is_of k.editor f) (is_token_of (named_of (codes "token") k.given) f.work) (found_true (is_worked k.editor (named_of (codes "token") k.given)) f (forwarding_of settings s before).open_requests found)).1 in
          let tied : IsWorking s before f = found_is (IsWorking s before) (is_worked k.editor (named_of (codes "token") k.given)) f (forwarding_of settings s before).open_requests (at.first s) found in
          may_name (text (mark (work_mark f.number))) (mark_text (work_mark f.number)) k.asked (codes "window/workDoneProgress/cancel")
          (marked (text (mark (work_mark f.number))) (mark_text (work_mark f.number)) k.asked (codes "window/workDoneProgress/cancel") k.given (mark_id (work_mark f.number) (omega (arith, small))) k.notified w.named)
          (k.bytes ∙ ap (λ t. marked_text t k.asked) same)
          (open_more (text (mark (work_mark f.number))) (tokens_in (working s events)) (creates s events).created
          (holds_open (integer (decimal f.number)) (text (mark (work_mark f.number))) (working s events) (waits_here f.number (tied w.bytes w.is))))

      made : (t : Token) → token_marked s k.given (created_of settings s before) ≡ Some t → k.text ≡ t.text → MayGo (message_of body)
      made t found same =
          let c : IsCreated s before t = found_is (IsCreated s before) (is_marked s (named_of (codes "token") k.given)) t (created_of settings s before).tokens (created s was_ready) found in
          may_name t.id t.text k.asked (codes "window/workDoneProgress/cancel")
          (marked t.id t.text k.asked (codes "window/workDoneProgress/cancel") k.given c.text k.notified (marked_some s (named_of (codes "token") k.given) (created_of settings s before).tokens t found))
          (k.bytes ∙ ap (λ z. marked_text z k.asked) same)
          (open_behind t.id (tokens_in (working s events)) (creates s events).created (created_here t.id c.there))
        where
          created_here : (token : Id) → is_open token (creates s before).created ≡ true → is_open token (creates s events).created ≡ true
          created_here token h = subst (λ z. is_open token (creates s z).created ≡ true) (sym place)
              (created_behind s (with_cause before (FromEditor k.editor k.asked)) at.outs token (creates_grows s before (heard (FromEditor k.editor k.asked)) refl token h))

      meant : WorkMeant settings before s k.editor k.given k.text → MayGo (message_of body)
      meant (of_request f found same) = requested f found same
      meant (of_token t found accepted same) = made t found same

    may_go : WhyToServer settings before cause events s body → MayGo (message_of body)
    may_go why = may_by events s body (λ k. meant k k.meant) why

  free : (events : List Event) (event : Event) → is_to_server event ≡ false → ((s : ℕ) → Always ServerRule7 (server_part s events)) → (s : ℕ) → Always ServerRule7 (server_part s (events ++ event ∷ []))
  free events event off h s = rule_more ServerRule7 (is_of_server s) events event (h s) (λ same. free_7 (server_part s events) event off)

  more : (events : List Event) (out : Out) → Why settings before cause events out → At events → Ties settings (events ++ said out ∷ []) → ((s : ℕ) → Always ServerRule7 (server_part s (events ++ said out ∷ []))) → At (events ++ said out ∷ [])
  more events out why i ties rules = record {
    here = here_did settings range before cause facts events out why i.here;
    outs = i.outs ++ out ∷ [];
    place = ap (λ z. z ++ said out ∷ []) i.place ∙ sym (behind_both (with_cause before cause) i.outs (out ∷ []));
    first = i.first;
    ties = ties;
    rules = rules;
  }

  step : (events : List Event) (out : Out) → Why settings before cause events out → At events → At (events ++ said out ∷ [])
  step events (ToServer n body) why i = more events (ToServer n body) why i (ties_sent settings range before cause events n body why i.ties)
      (λ s. rule_more ServerRule7 (is_of_server s) events (said (ToServer n body)) (i.rules s) (λ same. subst (λ k. ServerRule7 (server_part k events) (said (ToServer n body))) (number_same n s same) (may_go events n body i why)))
  step events (ToEditor e body) why i = more events (ToEditor e body) why i (ties_free settings events (said (ToEditor e body)) refl (λ s. refl) i.ties) (free events (said (ToEditor e body)) refl i.rules)
  step events (Spawn n g) why i = more events (Spawn n g) why i (ties_free settings events (said (Spawn n g)) refl (λ s. refl) i.ties) (free events (said (Spawn n g)) refl i.rules)
  step events (CloseEditor e) why i = more events (CloseEditor e) why i (ties_free settings events (said (CloseEditor e)) refl (λ s. refl) i.ties) (free events (said (CloseEditor e)) refl i.rules)
  step events (EndServer n) why i = more events (EndServer n) why i (ties_free settings events (said (EndServer n)) refl (λ s. refl) i.ties) (free events (said (EndServer n)) refl i.rules)

  rules_took : (c : Cause) → ((s : ℕ) → Always ServerRule7 (server_part s before)) → (s : ℕ) → Always ServerRule7 (server_part s (with_cause before c))
  rules_took (Joined e) h = free before (heard (Joined e)) refl h
  rules_took c h = free before (heard c) refl h

-- Between entries
record Rests (settings : Settings) (events : List Event) : Type 0 where
  ties : Ties settings events
  rules : (s : ℕ) → Always ServerRule7 (server_part s events)

module _ (settings : Settings) (range : InRange settings) where
  entry : (before : List Event) → Reached settings before → (cause : Cause) → fits_behind before cause ≡ true → Rests settings before → Rests settings (behind (with_cause before cause) (outs_of settings before cause))
  entry before so_far cause fits h =
      let facts : Facts settings before = facts_at settings range before so_far in
      let now : List Event = with_cause before cause in
      let created : (s : ℕ) → (life_of s before).stage ≡ Ready → AllByRecursion (IsCreated s before) (created_of settings s before).tokens = all_created settings range before so_far in
      let last : At settings range before facts cause created (behind now (outs_of settings before cause)) = reasons_keep (λ events out. Why settings before cause events out) (At settings range before facts cause created)
      (step settings range before facts cause created) now (outs_of settings before cause) (reasons settings range before facts cause).why
      (record {
        here = here_took settings range before cause fits facts;
        outs = [];
        place = sym (behind_nothing now);
        first = h.ties;
        ties = ties_took settings before cause h.ties;
        rules = rules_took settings range before facts cause created cause h.rules;
      }) in
      record { ties = last.ties; rules = last.rules }

  slow : KeepsSlow settings (Rests settings)
  slow place at e is h =
      let facts : Facts settings place = facts_at settings range place at in
      let created : (s : ℕ) → (life_of s place).stage ≡ Ready → AllByRecursion (IsCreated s place) (created_of settings s place).tokens = all_created settings range place at in
      parting_walk settings range place facts e is (Rests settings)
      (λ i. record { ties = ties_free settings place (said (CloseEditor e)) refl (λ s. refl) i.ties; rules = free settings range place facts (quitting e) created place (said (CloseEditor e)) refl i.rules })
      (λ events n body why i. record {
        ties = ties_sent settings range place (quitting e) events n body why i.ties;
        rules = λ s. rule_more ServerRule7 (is_of_server s) events (said (ToServer n body)) (i.rules s) (λ same. subst (λ k. ServerRule7 (server_part k events) (said (ToServer n body))) (number_same n s same)
            (may_by settings range place facts (quitting e) created events n body (λ k. absurd (quit_works settings place e events n body k)) why));
      }) h

  pub server_7_law : (history : List Entry) → Legal settings history → KeepsServer7 history
  server_7_law history legal = (walk settings (Rests settings) entry slow (record { ties = λ s. tt; rules = λ s. tt }) (events_of history) (reached settings history legal)).rules
