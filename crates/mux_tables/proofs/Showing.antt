-- An editor is sent a list of diagnostics, and which of its documents have one that isn't empty, as the code has it.
use Rattle.std.proofs.Common.{◌≡◌, ℕ, ◌<◌, Bool, true, false, not, ◌&&◌, List, [], ◌∷◌, ◌++◌, length, refl, ap, sym, subst, ◌∙◌, if◌then◌else◌}
use Rattle.std.specs.Prelude.{Option, Some, bytes_eq, is_some, slice_get, slice_set}
use Rattle.std.proofs.lemmas.Bool.{ne_eqb}
use Rattle.std.proofs.lemmas.Option.{slice_get-get_or}
use Rattle.std.proofs.lemmas.Slice.Eq.{bytes_eq-Decides}
use Rattle.mux_history.specs.declared.out.Out.{Out}
use Rattle.mux_history.specs.declared.out.Out.TheVariants.{ToEditor}
use Rattle.rpc_message.specs.Message.{message_of, notification}
use Rattle.event_model.specs.declared.phase.Phase.{Phase}
use Rattle.event_model.specs.declared.phase.Phase.TheVariants.{Waiting}
use Rattle.event_model.specs.Does.{Does}
use Rattle.event_model.specs.Event.{Event, behind, did, said}
use Rattle.event_model.specs.Phases.{Desk, desk_behind, desk_of, is_running, phase_told}
use Rattle.event_model.specs.Row.{send}
use Rattle.event_model.specs.Settings.{Settings}
use Rattle.event_model.proofs.Frames.{one_more}
use Rattle.event_model.proofs.Places.{Same, same, other, compare, get_set_same, get_set_other}
use Rattle.diagnostics_route.specs.Published.{published}
use Rattle.editor_session.specs.declared.session.Session.{Session}
use Rattle.editor_session.specs.Sessions as sessions
use Rattle.editor_session.specs.Sessions.{IsShown, absent, is_gone, noted_by, session_of}
use Rattle.group_words.proofs.Frames.{itself}
use Rattle.group_laws.specs.group_rows.specs.Asks.{next_ask}
use Rattle.group_laws.specs.group_rows.specs.Created.{created_of}
use Rattle.group_laws.specs.group_rows.specs.ExitRows.{full_behind, full_by, is_full}
use Rattle.group_laws.specs.group_rows.specs.Lists.{is_publishing}
use Rattle.mux_tables.specs.declared.tables.Tables.{Tables}
use Rattle.mux_tables.specs.Stands.{EditorsStand, FullStands, IsListOf, Stands, is_request, meant_in, noted_for, phase_in}
use Rattle.mux_tables.proofs.Counted.{asked_quiet, counted_set, next_more}
use Rattle.mux_tables.proofs.Frames.{asks_stay}
use Rattle.mux_tables.proofs.Fulls.{apart_full, full_more, full_same}
use Rattle.mux_tables.proofs.Moves.{house_moves}
use Rattle.mux_tables.proofs.Putting.{running_there}
use Rattle.mux_tables.proofs.Said.{does_send, said_editors, told_house}
use Rattle.mux_tables.proofs.TokenMoves.{origins_stay, told_tokens}
use Rattle.mux_waits.proofs.Moves.{silent_waits}
use Rattle.event_model.specs.Requests.{answered_id}

bytes_back : (a b : List ℕ) → bytes_eq a b ≡ bytes_eq b a
bytes_back a b = go (bytes_eq a b) (bytes_eq b a) refl refl
  where
    go : (c d : Bool) → bytes_eq a b ≡ c → bytes_eq b a ≡ d → c ≡ d
    go true true h k = refl
    go false false h k = refl
    go true false h k = sym ((bytes_eq-Decides b a).1 (sym ((bytes_eq-Decides a b).0 h))) ∙ k
    go false true h k = sym h ∙ (bytes_eq-Decides a b).1 (sym ((bytes_eq-Decides b a).0 k))

-- what is noted of a document
noted_more : (hit full empty : Bool) → (if hit then noted_by empty (noted_for full) else noted_for full) ≡ noted_for (if hit then not empty else full)
noted_more true true true = refl
noted_more true true false = refl
noted_more true false true = refl
noted_more true false false = refl
noted_more false full empty = refl

module _ (settings : Settings) (events : List Event) (e : ℕ) (body uri : List ℕ) (empty : Bool) (list : IsListOf uri empty body) where
  abbrev ev : Event
  ev = did (ToEditor e body) (message_of body)

  quiet : is_request (message_of body) ≡ false
  quiet = ap is_request list.says

  shown_full : (u : List ℕ) (full : Bool) → full_behind e u full ev ≡ (if bytes_eq u uri then not empty else full)
  shown_full u full = ap (λ m. full_behind e u full (did (ToEditor e body) m)) list.says
      ∙ (ap (λ b. if b && is_publishing list.method then full_by (published 0 body) u full else full) (itself e)
      ∙ (ap (λ b. if b then full_by (published 0 body) u full else full) list.publishes
      ∙ (ap (λ o. full_by o u full) list.given
      ∙ (ap (λ w. if bytes_eq w u then not list.list.empty else full) list.document
      ∙ (ap (λ b. if bytes_eq uri u then not b else full) list.none ∙ ap (λ b. if b then not empty else full) (bytes_back uri u))))))

  stays : (desk_of e (events ++ ev ∷ [])).phase ≡ (desk_of e events).phase
  stays = ap (λ (d : Desk). d.phase) (one_more (desk_behind e) _ _ events ev refl
      ∙ ap (λ b. if b then record { phase = phase_told (desk_of e events).phase (desk_of e events).initialize (message_of body); initialize = (desk_of e events).initialize } else desk_of e events) (itself e))
      ∙ (ap (λ m. phase_told (desk_of e events).phase (desk_of e events).initialize m) list.says ∙ still (desk_of e events).phase)
    where
      still : (p : Phase) → phase_told p (desk_of e events).initialize (notification list.method list.params) ≡ p
      still Waiting = refl
      still p = refl

  module _ (t u : List Session) (l : e < length t) (is : IsShown uri empty e t u) where
    abbrev y : Session
    y = is.session

    there : slice_get t e ≡ Some (session_of t e)
    there = slice_get-get_or t e absent l

    pub shown_editors : EditorsStand settings t events → EditorsStand settings u (events ++ ev ∷ [])
    shown_editors s = subst (λ xs. EditorsStand settings xs (events ++ ev ∷ [])) (sym is.set)
        (said_editors settings events e body t y l (stays ∙ (s.phase e ∙ (ap phase_in there ∙ ap (λ (z : Session). z.phase) (sym is.rest)))) (ap (λ (z : Session). z.group) is.rest) (ap (λ (z : Session). z.id) is.rest) (ap (λ (z : Session). meant_in (Some z)) is.rest)
        (λ n. counted_set t e (session_of t e) y there (λ now. (ap (λ (z : Session). is_gone z.phase) (sym is.rest) ∙ now, ap (λ (z : Session). z.asks) is.rest)) n (next_ask n events) (next_ask n (events ++ ev ∷ []))
        (next_more n events ev ∙ asked_quiet n (next_ask n events) e body (message_of body) quiet) (s.asked n))
        (λ n. fulls n (compare e n)) s)
      where
        fulls : (n : ℕ) → Same e n → FullStands (slice_get (slice_set t e y) n) (λ w. is_full n w (events ++ ev ∷ []))
        fulls _ same = subst (λ (o : Option Session). FullStands o (λ w. is_full e w (events ++ ev ∷ []))) (sym (get_set_same t e y l))
            (λ now w.
            let before : is_gone (session_of t e).phase ≡ false = ap (λ (z : Session). is_gone z.phase) (sym is.rest) ∙ now in
            let was : FullStands (Some (session_of t e)) (λ v. is_full e v events) = subst (λ (o : Option Session). FullStands o (λ v. is_full e v events)) there (s.full e) in
            is.full before w ∙ (ap (λ ns. if bytes_eq w uri then noted_by empty ns else ns) (was before w)
            ∙ (noted_more (bytes_eq w uri) (is_full e w events) empty ∙ ap noted_for (sym (full_more e w events ev ∙ shown_full w (is_full e w events))))))
        fulls n (other d) = subst (λ (o : Option Session). FullStands o (λ w. is_full n w (events ++ ev ∷ []))) (sym (get_set_other t e n y d))
            (full_same (slice_get t n) (λ w. is_full n w events) (λ w. is_full n w (events ++ ev ∷ []))
            (λ w. full_more n w events ev ∙ apart_full n e w (is_full n w events) body (message_of body) (ne_eqb e n (λ q. d (sym q)))) (s.full n))

-- S15, E12, L2 and X2
pub show_does : (settings : Settings) (t u : Tables) (xs ys : List Out) (base : List Event) (e : ℕ) (body uri : List ℕ) (empty : Bool) → IsListOf uri empty body → e < length t.editors → IsShown uri empty e t.editors u.editors
    → u.groups ≡ t.groups → u.course ≡ t.course → u.lasts ≡ t.lasts → u.origins ≡ t.origins → u.requests ≡ t.requests → ys ≡ xs ++ ToEditor e body ∷ [] → Does (λ t events. Stands settings t events) (send (ToEditor e body)) base t xs u ys
show_does settings t u xs ys base e body uri empty list l is gs now ls os r said_so =
    let asks_none : is_request (message_of body) ≡ false = ap is_request list.says in
    does_send settings (ToEditor e body) base t u xs ys said_so
    (house_moves settings t u (behind base xs) (said (ToEditor e body)) (λ n. refl) (λ s. asks_stay settings s (behind base xs) (said (ToEditor e body)) asks_none) refl (ap (λ v. v.items) ls)
    (origins_stay settings t.origins u.origins (behind base xs) (said (ToEditor e body)) os (λ s. told_tokens settings s e (behind base xs) (created_of settings s (behind base xs)) body (message_of body) asks_none) (λ rows. silent_waits settings (behind base xs) e body (message_of body) rows (ap answered_id list.says))) r
    (λ h. told_house settings (behind base xs) e body t u (shown_editors settings (behind base xs) e body uri empty list t.editors u.editors l is h.editors) gs now h))

-- X2: what is noted of an editor that runs
pub full_seen : (settings : Settings) (t : Tables) (events : List Event) (e : ℕ) (uri : List ℕ) → e < length t.editors → is_running (desk_of e events).phase ≡ true → Stands settings t events → sessions.is_full uri (session_of t.editors e) ≡ is_full e uri events
full_seen settings t events e uri l runs st =
    let at : slice_get t.editors e ≡ Some (session_of t.editors e) = slice_get-get_or t.editors e absent l in
    let own : (desk_of e events).phase ≡ (session_of t.editors e).phase = st.house.editors.phase e ∙ ap phase_in at in
    let kept : FullStands (Some (session_of t.editors e)) (λ w. is_full e w events) = subst (λ (o : Option Session). FullStands o (λ w. is_full e w events)) at (st.house.editors.full e) in
    ap (λ ns. is_some (sessions.first_of ns)) (kept (running_there (session_of t.editors e).phase (ap is_running (sym own) ∙ runs)) uri) ∙ found (is_full e uri events)
  where
    found : (b : Bool) → is_some (sessions.first_of (noted_for b)) ≡ b
    found true = refl
    found false = refl
