-- A request of an editor waits until a start of its group is ready, and goes on then.
use Rattle.std.proofs.Common.{◌≡◌, ℕ, ◌<◌, Bool, true, false, not, ◌&&◌, ◌||◌, List, [], ◌∷◌, ◌++◌, codes, drop, length, refl, ap, ◌∙◌}
use Rattle.std.specs.Prelude.{Option, Some, None, option_map}
use Rattle.json_text.specs.Json.{Json}
use Rattle.mux_history.specs.declared.cause.Cause.TheVariants.{FromEditor}
use Rattle.mux_history.specs.declared.out.Out.TheVariants.{ToServer}
use Rattle.document_model.specs.Sayings.{saying_of, speaks}
use Rattle.rpc_message.specs.Message.{Id, id_bytes, message_of, request}
use Rattle.event_model.specs.declared.phase.Phase.{Phase}
use Rattle.event_model.specs.Event.{Event, behind, heard, requests, said}
use Rattle.event_model.specs.Phases.{desk_of, is_served}
use Rattle.event_model.specs.Requests.{is_own}
use Rattle.event_model.specs.Settings.{Settings}
use Rattle.event_model.specs.Spawns.{group_of}
use Rattle.event_model.proofs.Frames.{never}
use Rattle.editor_session.specs.Sessions.{with_session}
use Rattle.group_words.specs.Houses.{home_of, is_first_open, places, stops}
use Rattle.group_laws.specs.group_rows.specs.Texts.{toucher, toucher_of}
use Rattle.group_laws.specs.group_rows.specs.Waiting.{first_waiting, is_for_start, is_restarting, worker_of}
use Rattle.mux_tokens.proofs.Stays.{takes_none}
use Rattle.mux_waits.specs.held_requests.specs.declared.request.Request.{Request}
use Rattle.mux_waits.specs.held_requests.specs.Tables.{asked, takes}
use Rattle.mux_waits.specs.Rows.{Becomes, held_of}
use Rattle.mux_waits.specs.Stands.{is_passed}
use Rattle.mux_waits.proofs.Moves.{IsAsked, asked_is, held_waits, sent_waits}
use Rattle.mux_waits.proofs.Unheld.{and_off}
use Rattle.mux_tables.specs.declared.tables.Course.{Course}
use Rattle.mux_tables.specs.declared.tables.Tables.{Tables}
use Rattle.mux_tables.specs.Documents.{changes_documents, to}
use Rattle.mux_tables.specs.Stands.{Stands, is_answer}
use Rattle.mux_tables.proofs.DocumentAsked.{worker_stays}
use Rattle.mux_tables.proofs.DocumentFrames.{served_old}
use Rattle.mux_tables.proofs.Heard.{set_moves}
use Rattle.mux_tables.proofs.Phased.{phased}
use Rattle.mux_tables.proofs.Asking.{answers_none}
use Rattle.mux_tables.proofs.TokenMoves.{WaitsMove, same_created}

-- E10
or_right : (a b : Bool) → (a || b) ≡ false → b ≡ false
or_right true b h = never h
or_right false b h = h

pub hold_moves : (settings : Settings) (t u : Tables) (events : List Event) (e g : ℕ) (body : List ℕ) (p : Phase) → e < length t.editors → u.editors ≡ with_session t.editors e (phased t.editors e p) → u.groups ≡ t.groups → u.course ≡ t.course → u.lasts ≡ t.lasts
    → u.origins.groups ≡ t.origins.groups → u.origins.stopping ≡ t.origins.stopping → u.origins.created ≡ t.origins.created → u.requests ≡ t.requests → takes e (length body) (held_of g t.origins.waiting) ≡ true → Becomes g (λ rs. rs ++ asked e (id_bytes body) body ∷ []) t.origins.waiting u.origins.waiting
    → home_of settings e events ≡ Some g → is_served (desk_of e events).phase ≡ true → is_for_start events e body (message_of body) ≡ true → is_restarting g events ≡ true → (desk_of e (events ++ heard (FromEditor e body) ∷ [])).phase ≡ p
    → Stands settings t events → Stands settings u (events ++ heard (FromEditor e body) ∷ [])
hold_moves settings t u events e g body p l is gs now ls og sk cr r room puts home served asks restarts step st =
    let a : IsAsked e (message_of body) events = asked_is events e body (message_of body) asks in
    let silent : is_answer (message_of body) ≡ false = ap is_answer a.says in
    let stays : places (desk_of e events).phase (message_of body) ≡ false = rw (served_old (desk_of e events).phase served) refl in
    let halts : requests (codes "lspmux/stop") (message_of body) ≡ false = or_right (requests (codes "lspmux/status") (message_of body)) _ (or_right (requests (codes "lspmux/open") (message_of body)) _ a.ours) in
    let goes : stops events e (message_of body) ≡ false = rw halts refl in
    let off : is_first_open settings.servers events e (message_of body) ≡ false = rw (served_old (desk_of e events).phase served) refl in
    set_moves settings t u events e body p l is (ap (λ (c : Course). c.time) now) ls (record {
      groups = og;
      stopping = sk;
      created = same_created settings t u events (heard (FromEditor e body)) cr (takes_none settings e (message_of body) events a.down silent);
      waiting = held_waits settings events e g body home served asks restarts t.origins.waiting u.origins.waiting room puts;
    }) r stays step (answers_none settings e (message_of body) events silent) gs (ap (λ (c : Course). c.stopped) now) goes off st

pub hold_unchanged : (events : List Event) (e : ℕ) (body : List ℕ) → is_for_start events e body (message_of body) ≡ true → changes_documents events e (message_of body) ≡ false
hold_unchanged events e body asks =
    let a : IsAsked e (message_of body) events = asked_is events e body (message_of body) asks in
    ap (λ b. is_served (desk_of e events).phase && (b || speaks (saying_of (message_of body)))) a.down
    ∙ (ap (λ m. is_served (desk_of e events).phase && speaks (saying_of m)) a.says ∙ and_off (is_served (desk_of e events).phase))

-- S2
pub first_toucher : (settings : Settings) (s e : ℕ) (now : List Event) (text method : List ℕ) (name : Id) (ps : Option Json) (r : Request) → message_of text ≡ request name method ps → worker_of now ≡ None → first_waiting settings s now ≡ Some r → r.editor ≡ e → toucher_of settings s now (message_of text) ≡ Some e
first_toucher settings s e now text method name ps r says idle first mine = ap (λ w. toucher w (message_of text) (first_waiting settings s now)) idle
    ∙ (ap (λ m. toucher None m (first_waiting settings s now)) says ∙ (ap (option_map (λ (q : Request). q.editor)) first ∙ ap (λ n. Some n) mine))

pub released : (settings : Settings) (t u : Tables) (now : List Event) (s g : ℕ) (text method : List ℕ) (name : Id) (ps : Option Json) (bodies : List (List ℕ)) → message_of text ≡ request name method ps → is_own method ≡ false → worker_of now ≡ None → Becomes g (drop 1) t.origins.waiting u.origins.waiting
    → group_of s (behind now (to s bodies)) ≡ Some g → WaitsMove settings t.origins u.origins (behind now (to s bodies)) (said (ToServer s text))
released settings t u now s g text method name ps bodies says own idle is home = sent_waits settings (behind now (to s bodies)) s text (message_of text) t.origins.waiting u.origins.waiting g (worker_stays now (to s bodies) ∙ idle) (ap is_passed says ∙ ap not own) home is
