-- E9: an editor that is served asks to shut down.
use Rattle.std.proofs.Common.{◌≡◌, ℕ, ◌<◌, true, false, List, [], ◌∷◌, ◌++◌, length, codes, refl, sym, ap, subst, ◌∙◌}
use Rattle.std.specs.Prelude.{bytes_eq}
use Rattle.std.proofs.lemmas.Slice.Eq.{bytes_eq-Decides}
use Rattle.mux_history.specs.declared.cause.Cause.TheVariants.{FromEditor}
use Rattle.rpc_message.specs.Message.{Message, request, message_of}
use Rattle.event_model.specs.declared.phase.Phase.{Phase}
use Rattle.event_model.specs.declared.phase.Phase.TheVariants.{Absent, New, Waiting, Answered, Running, Down, Closed, Gone}
use Rattle.event_model.specs.Event.{Event, heard, requests}
use Rattle.event_model.specs.Phases.{Desk, desk_behind, desk_hears, desk_of, is_served}
use Rattle.event_model.specs.Settings.{Settings}
use Rattle.event_model.proofs.Frames.{never, one_more}
use Rattle.editor_session.specs.Sessions.{with_session}
use Rattle.group_words.specs.Houses.{is_first_open, places, stops}
use Rattle.mux_tables.specs.declared.tables.Course.{Course}
use Rattle.mux_tables.specs.declared.tables.Tables.{Tables}
use Rattle.mux_tables.specs.Stands.{Stands}
use Rattle.mux_tables.proofs.DocumentFrames.{served_old}
use Rattle.mux_tables.proofs.Frames.{itself}
use Rattle.mux_tables.proofs.Asking.{answers_none}
use Rattle.std.specs.Map.{keys_of}
use Rattle.std.specs.List.Sorted.{IsStrictlySortedBy}
use Rattle.std.specs.Ordering.{nat_cmp}
use Rattle.group_laws.specs.group_rows.specs.Created.{created_of}
use Rattle.mux_tokens.specs.Rows.{left_each}
use Rattle.mux_tables.proofs.TokenMoves.{origins_left, same_waits, shutdown_takes}
use Rattle.mux_tables.proofs.Heard.{asks_silent, set_moves}
use Rattle.mux_tables.proofs.Phased.{phased}
use Rattle.mux_waits.proofs.Unheld.{unheld_shutdown}
use Rattle.mux_tables.proofs.HeldMoves.{heard_stay}

hears_down : (p : Phase) (initialize body : List ℕ) (m : Message) → is_served p ≡ true → requests (codes "shutdown") m ≡ true → (desk_hears p initialize body m).phase ≡ Down
hears_down Answered i body m h k = rw k refl
hears_down Running i body m h k = rw k refl
hears_down Absent i body m h k = never (sym h)
hears_down New i body m h k = never (sym h)
hears_down Waiting i body m h k = never (sym h)
hears_down Down i body m h k = never (sym h)
hears_down Closed i body m h k = never (sym h)
hears_down Gone i body m h k = never (sym h)

no_stop : (m : Message) → requests (codes "shutdown") m ≡ true → requests (codes "lspmux/stop") m ≡ false
no_stop (request id method ps) h = subst (λ w. bytes_eq (codes "lspmux/stop") w ≡ false) ((bytes_eq-Decides (codes "shutdown") method).0 h) refl
no_stop other h = never (sym h)

pub shutdown_moves : (settings : Settings) (t u : Tables) (events : List Event) (e : ℕ) (body : List ℕ) → e < length t.editors → u.editors ≡ with_session t.editors e (phased t.editors e Down) → u.groups ≡ t.groups → u.course ≡ t.course → u.lasts ≡ t.lasts → u.origins.groups ≡ t.origins.groups → u.origins.stopping ≡ t.origins.stopping → u.origins.created ≡ left_each e (keys_of t.origins.created) t.origins.created → IsStrictlySortedBy nat_cmp (keys_of t.origins.created) → u.origins.waiting ≡ t.origins.waiting → u.requests ≡ t.requests
    → is_served (desk_of e events).phase ≡ true → requests (codes "shutdown") (message_of body) ≡ true → Stands settings t events → Stands settings u (events ++ heard (FromEditor e body) ∷ [])
shutdown_moves settings t u events e body l is gs now ls og sk cr sorted wt r served asks st =
    let stays : places (desk_of e events).phase (message_of body) ≡ false = rw (served_old (desk_of e events).phase served) refl in
    let goes : stops events e (message_of body) ≡ false = rw (no_stop (message_of body) asks) refl in
    let off : is_first_open settings.servers events e (message_of body) ≡ false = rw (served_old (desk_of e events).phase served) refl in
    let step : (desk_of e (events ++ heard (FromEditor e body) ∷ [])).phase ≡ Down = ap (λ (d : Desk). d.phase) (one_more (desk_behind e) _ _ events (heard (FromEditor e body)) refl) ∙ rw (itself e) (hears_down (desk_of e events).phase (desk_of e events).initialize body (message_of body) served asks) in
    set_moves settings t u events e body Down l is (ap (λ (c : Course). c.time) now) ls (origins_left settings t.origins u.origins events (heard (FromEditor e body)) e og sk cr sorted (λ s. shutdown_takes settings s e events (created_of settings s events) body (message_of body) asks)
    (same_waits settings t.origins u.origins events (heard (FromEditor e body)) wt (heard_stay settings t.editors events e body st.house.editors (unheld_shutdown settings e body (message_of body) events asks)))) r stays step (answers_none settings e (message_of body) events (asks_silent (codes "shutdown") (message_of body) asks)) gs (ap (λ (c : Course). c.stopped) now) goes off st
