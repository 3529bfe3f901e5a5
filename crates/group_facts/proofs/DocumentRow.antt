-- A notification on a document: each of its outs has its reason.
use Rattle.std.proofs.Common.{◌≡◌, ℕ, Bool, true, false, not, ◌&&◌, ◌||◌, List, [], ◌∷◌, ◌++◌, codes, map, append-nil, append_assoc, sym, bytes_eq, nat_eq, nat_lt, if◌then◌else◌, Option, Some, None, refl, ◌∙◌, ap, subst, ◌+◌, IsUtf8}
use Rattle.json_text.specs.Json.{Json}
use Rattle.position_codec.specs.declared.Encoding.{Encoding}
use Rattle.document_model.specs.Helds.{HeldText}
use Rattle.document_model.specs.Opens.{Open, holder_beside, is_open_at}
use Rattle.document_model.specs.Orderly.{IsSpelt}
use Rattle.document_model.specs.Rows.{agrees, switched, versioned, sent_open, sent_change, sent_close}
use Rattle.document_model.specs.Sayings.{changes, saying_of, Saying, opens, closes, misshapen, saying_by}
use Rattle.document_model.specs.Sayings as saying
use Rattle.document_model.specs.Texts.{Texts, found, changed, opened}
use Rattle.document_model.proofs.Spelt.{opens_spelt, closes_spelt, find_spelt, latest_spelt}
use Rattle.mux_history.specs.declared.cause.Cause.TheVariants.{FromEditor}
use Rattle.mux_history.specs.declared.out.Out.TheVariants.{ToServer}
use Rattle.rpc_message.specs.Message.{message_of, notification}
use Rattle.event_model.specs.declared.phase.Phase.{Phase}
use Rattle.event_model.specs.declared.phase.Phase.TheVariants.{Absent, New, Waiting, Answered, Running, Down, Closed, Gone}
use Rattle.event_model.specs.declared.stage.Stage.TheVariants.{Ready}
use Rattle.event_model.specs.Event.{Event, behind, heard, said, with_cause}
use Rattle.event_model.specs.Phases.{Desk, desk_hears, desk_of, is_served}
use Rattle.event_model.specs.Row.{Row, nothing, on, outs}
use Rattle.event_model.specs.Settings.{Settings}
use Rattle.event_model.specs.Spawns.{start_of}
use Rattle.event_model.specs.Stages.{is_ready, Life, life_of}
use Rattle.event_model.proofs.Frames.{never}
use Rattle.mux_model.specs.Documents.{Sent, held_at}
use Rattle.mux_model.specs.Rows.{to_start}
use Rattle.mux_facts.specs.Ranges.{InRange}
use Rattle.mux_facts.proofs.DocumentRow.{IsBehind, behind_change, beside_is, ready_is}
use Rattle.mux_facts.proofs.Folds.{desk_more, life_more}
use Rattle.mux_facts.proofs.Reasons.{Because, by_nothing, by_choose, by_look, by_on, by_then}
use Rattle.mux_facts.proofs.Tellings.{sent_more}
use Rattle.mux_facts.proofs.Words.{same_number}
use Rattle.group_rows.specs.diagnostics_route.specs.Rows.{is_of}
use Rattle.group_rows.specs.ListRows.{show_opened}
use Rattle.group_rows.specs.Lists.{lists_of}
use Rattle.group_rows.proofs.CreatedKept.{found_one}
use Rattle.group_rows.proofs.ListsKept.{IsList, lists_kept}
use Rattle.group_rows.proofs.Versions.{AllMeant, meant_heard, meant_more}
use Rattle.group_rows.specs.Rows.{changed_bodies, closed_bodies, document_at, document_bodies, document_row}
use Rattle.group_rows.specs.Texts.{encoding_of, texts_of}
use Rattle.group_facts.specs.Facts.{IsOpened, Opened}
use Rattle.group_facts.proofs.Forwards.{still_now}
use Rattle.group_facts.proofs.Tellings.{Calm, Tells, close_told, differing_told, open_told, switched_told, tells_none, tells_row, versioned_told}
use Rattle.group_facts.proofs.Shown.{shown_why}
use Rattle.group_facts.specs.Why.{Why, opened_by, shows, stays}

module _ (settings : Settings) (range : InRange settings) (before : List Event) (e : ℕ) (body : List ℕ) (s : ℕ) where
  abbrev pub now : List Event
  now = with_cause before (FromEditor e body)

  abbrev Mine : List Event → Type 0
  Mine events = Calm settings range before (FromEditor e body) now s events

  abbrev Told : List (List ℕ) → Type 0
  Told bodies = Tells settings range before (FromEditor e body) now s (λ w. ⊥) now bodies

  -- the message leaves alone what the start has
  pub held_still : (u : List ℕ) (h : Option HeldText) → held_at s u before ≡ h → held_at s u now ≡ h
  held_still u h at = ap (λ (x : Sent). x.held) (sent_more s u before (heard (FromEditor e body))) ∙ at

  -- a ready start may be told
  pub calm_now : is_ready (life_of s before).stage ≡ true → Mine now
  calm_now ready = record {
    still = still_now settings now s (ap (λ (l : Life). l.stage) (life_more s before (heard (FromEditor e body))) ∙ ready_is (life_of s before).stage ready);
    turn = stays refl;
  }

  module _ (x : Texts) (fine : IsOpened x) (code : Option Encoding) (calm : Mine now) where
    any : {u : List ℕ} {bodies : List (List ℕ)} → Tells settings range before (FromEditor e body) now s (λ w. bytes_eq w u ≡ false) now bodies → Told bodies
    any {u} {bodies} h = record { why = h.why; calm = h.calm; others = λ w k. absurd k }

    nothing_told : Told []
    nothing_told = tells_none settings range before (FromEditor e body) now s now calm

    opened_keeps : (o : Open) → IsSpelt o → (h : Option HeldText) → held_at s o.uri before ≡ h → Told (sent_open settings.limits.versions o h)
    opened_keeps o k None at = any (open_told settings range before (FromEditor e body) now s now o.uri o.language o.text k.0 k.1 k.2 calm (held_still o.uri None at))
    opened_keeps o k (Some h) at = any (differing_told settings range before (FromEditor e body) now s now o h k calm (held_still o.uri (Some h) at))

    changed_keeps : (u v : List ℕ) (cs : Json) → saying_of (message_of body) ≡ changes u v cs → (old new : Open) → IsBehind u new → (h : Option HeldText) → held_at s u before ≡ h → Told (sent_change settings.limits.versions body old new h)
    changed_keeps u v cs says old new k None at = nothing_told
    changed_keeps u v cs says old new k (Some h) at = go (agrees new h) (nat_lt h.version settings.limits.versions) (agrees old h) refl
      where
        held : held_at s u now ≡ Some h
        held = held_still u (Some h) at

        switch : Told (switched settings.limits.versions new h)
        switch = any (switched_told settings range before (FromEditor e body) now s now new h k.spelt calm (subst (λ z. held_at s z now ≡ Some h) k.same held))

        go : (a b c : Bool) → nat_lt h.version settings.limits.versions ≡ b → Told (if a then [] else if b && c then versioned (h.version + 1) body ∷ [] else switched settings.limits.versions new h)
        go true b c less = nothing_told
        go false true true less = any (versioned_told settings range before (FromEditor e body) now s now body u v cs h says less calm held)
        go false true false less = switch
        go false false c less = switch

    changes_keep : (u v : List ℕ) (cs : Json) → saying_of (message_of body) ≡ changes u v cs → (old new : Option Open) → found e u x ≡ old → changed code e u v cs x ≡ new → Told (changed_bodies settings.limits.versions body old new (held_at s u before))
    changes_keep u v cs says (Some old) (Some new) there at = changed_keeps u v cs says old new
        (behind_change e body u v cs x says code old new (find_spelt (is_open_at e u) x.opens old fine.spelt there) there at) (held_at s u before) refl
    changes_keep u v cs says (Some old) None there at = nothing_told
    changes_keep u v cs says None new there at = nothing_told

    closed_keeps : (u : List ℕ) → IsUtf8 u → (rest : Option Open) (h : Option HeldText) → holder_beside e u x.opens ≡ rest → held_at s u before ≡ h → Told (sent_close settings.limits.versions u rest h)
    closed_keeps u k rest None there at = nothing_told
    closed_keeps u k None (Some h) there at = any (close_told settings range before (FromEditor e body) now s now u h k calm (held_still u (Some h) at))
    closed_keeps u k (Some o) (Some h) there at = any (differing_told settings range before (FromEditor e body) now s now o h
        (latest_spelt (λ o. bytes_eq o.uri u && not (nat_eq o.editor e)) x.opens o fine.spelt there) calm
        (held_still o.uri (Some h) (subst (λ z. held_at s z before ≡ Some h) (beside_is e u x.opens o there) at)))

    closes_keep : (u : List ℕ) → IsUtf8 u → (o : Option Open) → Told (closed_bodies settings.limits.versions e u x.opens o (held_at s u before))
    closes_keep u k None = nothing_told
    closes_keep u k (Some o) = closed_keeps u k (holder_beside e u x.opens) (held_at s u before) refl refl

    pub bodies_keep : (y : Saying) → saying_of (message_of body) ≡ y → Told (document_bodies settings.limits.versions code x (λ u. held_at s u before) e body y)
    bodies_keep (opens u l v t) says = opened_keeps (opened e u l v t x) (opens_spelt body u l v t says) (held_at s u before) refl
    bodies_keep (changes u v cs) says = changes_keep u v cs says (found e u x) (changed code e u v cs x) refl refl
    bodies_keep (closes u) says = closes_keep u (closes_spelt body u says) (found e u x)
    bodies_keep misshapen says = nothing_told
    bodies_keep saying.nothing says = nothing_told

module _ (settings : Settings) (range : InRange settings) (before : List Event) (e : ℕ) (body : List ℕ) (opened_so : Opened settings before) where
  module _ (method : List ℕ) (params : Option Json) (says : message_of body ≡ notification method params) (all_meant : AllMeant before) (served : is_served (desk_of e before).phase ≡ true) (stays_open : bytes_eq (codes "exit") method ≡ false) where
    abbrev Right : Row → Type 0
    Right row = Because (Why settings before (FromEditor e body)) (with_cause before (FromEditor e body)) row

    -- what holds behind the message holds behind bodies to a start
    behind_bodies : (P : List Event → Type 0) → (s : ℕ) → ((events : List Event) (b : List ℕ) → P events → P (events ++ said (ToServer s b) ∷ [])) → (bodies : List (List ℕ)) (events : List Event) → P events → P (behind events (outs (to_start s bodies) events))
    behind_bodies P s f [] events h = subst P (sym (append-nil events)) h
    behind_bodies P s f (b ∷ bodies) events h = subst P (append_assoc events (said (ToServer s b) ∷ []) (map said (outs (to_start s bodies) (events ++ said (ToServer s b) ∷ [])))) (behind_bodies P s f bodies (events ++ said (ToServer s b) ∷ []) (f events b h))

    -- the editor runs, and the events are of causes and outs
    record Shows (events : List Event) : Type 0 where
      running : (desk_of e events).phase ≡ Running
      meant : AllMeant events

    shows_now : Shows (with_cause before (FromEditor e body))
    shows_now = record {
      running = ap (λ (d : Desk). d.phase) (desk_more e before (heard (FromEditor e body)))
          ∙ ap (λ b. (if b then desk_hears (desk_of e before).phase (desk_of e before).initialize body (message_of body) else desk_of e before).phase) (same_number e)
          ∙ ap (λ m. (desk_hears (desk_of e before).phase (desk_of e before).initialize body m).phase) says ∙ hears (desk_of e before).phase served;
      meant = meant_more before (heard (FromEditor e body)) all_meant (meant_heard (FromEditor e body));
    }
      where
        hears : (phase : Phase) → is_served phase ≡ true → (desk_hears phase (desk_of e before).initialize body (notification method params)).phase ≡ Running
        hears Running h = refl
        hears Answered h = ap (λ b. if not (b || false) then Running else Answered) stays_open
        hears Absent h = never (sym h)
        hears New h = never (sym h)
        hears Waiting h = never (sym h)
        hears Down h = never (sym h)
        hears Closed h = never (sym h)
        hears Gone h = never (sym h)

    -- E12: the last list of what it opened
    opened_why : (s : ℕ) → (life_of s before).stage ≡ Ready → (x : Saying) → saying_of (message_of body) ≡ x → (events : List Event) → Shows events → Because (Why settings before (FromEditor e body)) events (show_opened settings s e x)
    opened_why s ready (opens u l v t) said_so events h = by_look (by_on (λ none. by_nothing) (λ list found. by_choose (λ empty. by_nothing) (λ full.
        let kept : IsList list = found_one IsList (is_of u) list (lists_of s events) (lists_kept s events h.meant) found in
        shown_why settings events h.meant e s list kept before (FromEditor e body) (Why settings before (FromEditor e body)) events (λ text k. shows k) ready h.running (λ text fitting. opened_by body u l v t list refl said_so found full fitting))))
    opened_why s ready (changes u v cs) said_so events h = by_nothing
    opened_why s ready (closes u) said_so events h = by_nothing
    opened_why s ready misshapen said_so events h = by_nothing
    opened_why s ready saying.nothing said_so events h = by_nothing

    at_start : (g s : ℕ) → Right (document_at settings before e body (saying_by method params) g s)
    at_start g s = by_choose (λ ready. by_then (tells_row settings range before (FromEditor e body) (now settings range before e body s) s (now settings range before e body s)
        (document_bodies settings.limits.versions (encoding_of g before) (texts_of settings g before) (λ u. held_at s u before) e body (saying_by method params))
        (bodies_keep settings range before e body s (texts_of settings g before) (opened_so g) (encoding_of g before) (calm_now settings range before e body s ready) (saying_by method params) (ap saying_of says)))
        (opened_why s (ready_is (life_of s before).stage ready) (saying_by method params) (ap saying_of says) _ (behind_bodies Shows s
        (λ events b h. record { running = ap (λ (d : Desk). d.phase) (desk_more e events (said (ToServer s b))) ∙ h.running; meant = meant_more events (said (ToServer s b)) h.meant refl })
        (document_bodies settings.limits.versions (encoding_of g before) (texts_of settings g before) (λ u. held_at s u before) e body (saying_by method params)) (with_cause before (FromEditor e body)) shows_now)))
        (λ no. by_nothing)

    at_group : (g : ℕ) → Right (on (start_of g before) nothing (document_at settings before e body (saying_by method params) g))
    at_group g = by_on (λ none. by_nothing) (λ s start. at_start g s)

    -- what the start of the editor's group is told, if it is ready
    pub document_why : Right (document_row settings before e body (saying_by method params))
    document_why = by_on (λ none. by_nothing) (λ g home. at_group g)
