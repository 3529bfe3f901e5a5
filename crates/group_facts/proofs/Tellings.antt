-- What a start that is ready is told of documents, body by body, in an entry that begins at `now`.
use Rattle.std.proofs.Common.{◌≡◌, ℕ, true, false, List, [], ◌∷◌, ◌++◌, map, cond, if◌then◌else◌, Option, None, Some, refl, sym, subst, ◌∙◌, ap, ap₂, ◌+◌, ◌<◌, ◌^◌, Bool, ◌&&◌, nat_lt, bytes_eq, is_some, codes, decimal, arith, ltb-true, IsUtf8, append_assoc}
use Rattle.std.proofs.lemmas.List.{map-append}
use Rattle.std.proofs.lemmas.List.Elements.{filter-append}
use Rattle.std.specs.List.{list_any}
use Rattle.json_text.specs.Bare.{nowhere}
use Rattle.json_text.specs.Json.{Json, number}
use Rattle.json_text.specs.Named.{named}
use Rattle.position_codec.specs.declared.Encoding.{Encoding}
use Rattle.document_model.specs.Bodies.{open_text, full_text, close_text}
use Rattle.document_model.specs.Helds.{HeldText, told}
use Rattle.document_model.specs.Opens.{Open}
use Rattle.document_model.specs.Orderly.{IsSpelt}
use Rattle.document_model.specs.Rows.{agrees, switched, differing, versioned}
use Rattle.document_model.specs.Sayings.{closes, saying_of, speaks, opens, changes}
use Rattle.document_model.proofs.Versioned.{versioned_says}
use Rattle.document_model.proofs.Written.{Spoken, spoken, open_says, FullSays, full_says, close_says}
use Rattle.mux_history.specs.declared.cause.Cause.{Cause}
use Rattle.mux_history.specs.declared.out.Out.{Out}
use Rattle.mux_history.specs.declared.out.Out.TheVariants.{ToServer}
use Rattle.rpc_message.specs.Message.{error, integer_if, message_of}
use Rattle.rpc_message.proofs.Decimals.{decimal_integer}
use Rattle.rpc_message.specs.Texts.{error_text, error_tree, initialized_text, request_failed}
use Rattle.rpc_message.specs.ValueTexts.{IsIdText}
use Rattle.rpc_message.proofs.Fixed.{error_law, id_as_response}
use Rattle.event_model.specs.Requests.{answered_id, is_open}
use Rattle.event_model.specs.Event.{Event, heard, said, behind}
use Rattle.event_model.specs.Members.{named_of}
use Rattle.event_model.specs.Parts.{server_part, is_of_server}
use Rattle.event_model.specs.Settings.{Settings}
use Rattle.mux_model.specs.Documents.{Sent, held_at, sent_of}
use Rattle.mux_model.specs.Rows.{to_start}
use Rattle.mux_model.proofs.DocumentFolds.{outs_to_start}
use Rattle.mux_facts.specs.Allowed.{AllowsSaying, IsNext, is_response}
use Rattle.mux_facts.specs.Ranges.{InRange}
use Rattle.mux_facts.proofs.Keeps.{behind_both, behind_nothing}
use Rattle.mux_facts.proofs.Reasons.{Because, Reasons, reasons_both}
use Rattle.mux_facts.proofs.Tellings.{Says, closed_not, sent_more, version_at, versions_at}
use Rattle.mux_facts.proofs.Words.{same_number}
use Rattle.group_facts.specs.Facts.{asked_by}
use Rattle.group_facts.proofs.Forwards.{Still, still_answered, still_notified}
use Rattle.group_facts.specs.Why.{Turn, Why, stays, greeted, tells, cancels, of_daemon, is_uncancelled, moves, refused_for, resolves}
use Rattle.group_rows.specs.Asks.{Ask, asks_of, is_under}
use Rattle.group_rows.specs.Forwarded.{forwarding_of}
use Rattle.group_rows.specs.Leaves.{cancel_text}
use Rattle.group_rows.proofs.Cancels.{cancel_says, params_tree}

-- what a cancel names
pub cancel_names : (n : ℕ) → named_of (codes "id") (Some (params_tree n)) ≡ Some (number nowhere (decimal n))
unfolding named
cancel_names n = refl

-- a further event of s
pub turn_more : (before : List Event) (cause : Cause) (events : List Event) (s : ℕ) (body : List ℕ) → Turn before cause events s → Turn before cause (events ++ said (ToServer s body) ∷ []) s
turn_more before cause events s body (stays h) = stays h
turn_more before cause events s body (greeted xs h) = greeted (xs ++ said (ToServer s body) ∷ []) (filter-append (is_of_server s) events (said (ToServer s body) ∷ [])
    ∙ ap (λ b. server_part s events ++ cond b (said (ToServer s body) ∷ []) []) (same_number s)
    ∙ ap (λ z. z ++ said (ToServer s body) ∷ []) h
    ∙ append_assoc (server_part s before) (heard cause ∷ said (ToServer s initialized_text) ∷ xs) (said (ToServer s body) ∷ []))

module _ (settings : Settings) (range : InRange settings) (before : List Event) (cause : Cause) (now : List Event) (s : ℕ) where
  abbrev pub R : List Event → Out → Type 0
  R events out = Why settings before cause events out

  -- the start may be told
  pub record Calm (events : List Event) : Type 0 where
    pub still : Still settings now s events
    pub turn : Turn before cause events s

  abbrev pub to : List (List ℕ) → List Out
  to bodies = map (λ b. ToServer s b) bodies

  -- each of these bodies has its reason, and they leave alone what the start has of the documents that K holds of
  pub record Tells (K : List ℕ → Type 0) (events : List Event) (bodies : List (List ℕ)) : Type 0 where
    pub why : Reasons R events (to bodies)
    pub calm : Calm (behind events (to bodies))
    pub others : (w : List ℕ) → K w → held_at s w (behind events (to bodies)) ≡ held_at s w events

  pub tells_none : {K : List ℕ → Type 0} (events : List Event) → Calm events → Tells K events []
  tells_none events calm = record { why = tt; calm = subst Calm (sym (behind_nothing events)) calm; others = λ w k. ap (held_at s w) (behind_nothing events) }

  pub tells_both : {K : List ℕ → Type 0} (events : List Event) (xs ys : List (List ℕ)) → Tells K events xs → Tells K (behind events (to xs)) ys → Tells K events (xs ++ ys)
  tells_both events xs ys f g =
      let split : to (xs ++ ys) ≡ to xs ++ to ys = map-append (λ b. ToServer s b) xs ys in
      let place : behind events (to (xs ++ ys)) ≡ behind (behind events (to xs)) (to ys) = ap (behind events) split ∙ behind_both events (to xs) (to ys) in
      record {
        why = subst (Reasons R events) (sym split) (reasons_both R events (to xs) (to ys) f.why g.why);
        calm = subst Calm (sym place) g.calm;
        others = λ w k. ap (held_at s w) place ∙ g.others w k ∙ f.others w k;
      }

  pub tells_fewer : {K L : List ℕ → Type 0} (events : List Event) (bodies : List (List ℕ)) → ((w : List ℕ) → L w → K w) → Tells K events bodies → Tells L events bodies
  tells_fewer events bodies f h = record { why = h.why; calm = h.calm; others = λ w l. h.others w (f w l) }

  -- as a row
  pub tells_row : {K : List ℕ → Type 0} (events : List Event) (bodies : List (List ℕ)) → Tells K events bodies → Because R events (to_start s bodies)
  tells_row events bodies h = record { why = subst (Reasons R events) (sym (outs_to_start s bodies events)) h.why }

  tells_one : {K : List ℕ → Type 0} (events : List Event) (body : List ℕ) → Calm events → (x : Says s events body) → ((w : List ℕ) → K w → (c : Option Encoding) (h : Option HeldText) → told c w h x.what ≡ h) → Tells K events (body ∷ [])
  tells_one events body calm x silent =
      let speaking : speaks (saying_of (message_of body)) ≡ true = ap speaks x.says ∙ x.speaks_so in
      let m : Spoken (message_of body) = spoken (message_of body) speaking in
      record {
        why = (tells (record { ready = calm.still.ready; turn = calm.turn; spoken = speaking; allowed = subst (AllowsSaying (versions_at s events)) (sym x.says) x.allowed }), tt);
        calm = record { still = still_notified settings now s events body m.method m.params m.is calm.still; turn = turn_more before cause events s body calm.turn };
        others = λ w k. ap (λ (z : Sent). z.held) (sent_more s w events (said (ToServer s body)))
            ∙ ap₂ (λ b y. if b then told (sent_of s w events).encoding w (held_at s w events) y else held_at s w events) (same_number s) x.says
            ∙ silent w k (sent_of s w events).encoding (held_at s w events);
      }

  -- that a request is cancelled leaves every document alone
  pub cancel_told : {K : List ℕ → Type 0} (events : List Event) (n : ℕ) → n < 2 ^ 64 → moves before cause s ≡ false → list_any (is_uncancelled n) (forwarding_of settings s events).open_requests ≡ true → Calm events → Tells K events (cancel_text n ∷ [])
  cancel_told events n low rests waits calm = record {
    why = (cancels (record { number = n; params = params_tree n; value = number nowhere (decimal n); named = cancel_names n; id = ap (λ b. integer_if b (decimal n)) (decimal_integer n (omega arith)); waits = waits; ready = calm.still.ready; stays = rests; text = of_daemon refl; says = cancel_says n low }), tt);
    calm = record { still = still_notified settings now s events (cancel_text n) (codes "$/cancelRequest") (Some (params_tree n)) (cancel_says n low) calm.still; turn = turn_more before cause events s (cancel_text n) calm.turn };
    others = λ w k. ap (λ (z : Sent). z.held) (sent_more s w events (said (ToServer s (cancel_text n))))
        ∙ ap₂ (λ b m. if b then told (sent_of s w events).encoding w (held_at s w events) (saying_of m) else held_at s w events) (same_number s) (cancel_says n low);
  }

  -- nor does it speak of one that a request of the start is refused
  pub refuse_told : {K : List ℕ → Type 0} (events : List Event) (a : Ask) → IsIdText a.id a.bytes → list_any (is_under (Some a.id)) (asks_of settings s before) ≡ true → moves before cause s ≡ false → is_open a.id (asked_by s events) ≡ true → Calm events
      → Tells K events (error_text a.bytes request_failed ∷ [])
  refuse_told events a text listed rests waits calm =
      let is : message_of (error_text a.bytes request_failed) ≡ error (Some a.id) (error_tree request_failed) = error_law (Some a.id) a.bytes request_failed (id_as_response a.id a.bytes text) in
      record {
        why = (resolves (record { id = a.id; resolution = refused_for a listed refl refl; ready = calm.still.ready; stays = rests; response = ap is_response is; answers = ap answered_id is; waits = waits }), tt);
        calm = record { still = still_answered settings now s events (error_text a.bytes request_failed) (Some a.id) (error_tree request_failed) is calm.still; turn = turn_more before cause events s (error_text a.bytes request_failed) calm.turn };
        others = λ w k. ap (λ (z : Sent). z.held) (sent_more s w events (said (ToServer s (error_text a.bytes request_failed))))
            ∙ ap₂ (λ b m. if b then told (sent_of s w events).encoding w (held_at s w events) (saying_of m) else held_at s w events) (same_number s) is;
      }

  -- another document
  abbrev pub Beside : List ℕ → List ℕ → Type 0
  Beside u w = bytes_eq w u ≡ false

  -- that a document opens that it doesn't have
  pub open_told : (events : List Event) (u l t : List ℕ) → IsUtf8 u → IsUtf8 l → IsUtf8 t → Calm events → held_at s u events ≡ None → Tells (Beside u) events (open_text u l t ∷ [])
  open_told events u l t h g k calm none = tells_one events (open_text u l t) calm (record {
    what = opens u l (codes "1") t;
    says = open_says u l t h g k;
    speaks_so = refl;
    allowed = (version_at s events u None none, refl);
  }) (λ w away c held. rw away refl)

  -- that a document closes that it has
  pub close_told : (events : List Event) (u : List ℕ) (h : HeldText) → IsUtf8 u → Calm events → held_at s u events ≡ Some h → Tells (Beside u) events (close_text u ∷ [])
  close_told events u h k calm e = tells_one events (close_text u) calm (record {
    what = closes u;
    says = close_says u k;
    speaks_so = refl;
    allowed = ap is_some (version_at s events u (Some h) e);
  }) (λ w away c held. rw away refl)

  next_version : (v : ℕ) → nat_lt v settings.limits.versions ≡ true → v + 1 < 10 ^ 64
  next_version v less = let below : v < settings.limits.versions = ltb-true v settings.limits.versions less in let wide : settings.limits.versions < 2 ^ 32 = range.versions in omega (arith, below, wide)

  -- that one changes, under the next version
  change_told : (events : List Event) (u body : List ℕ) (cs : Json) (h : HeldText) → Calm events → held_at s u events ≡ Some h → saying_of (message_of body) ≡ changes u (decimal (h.version + 1)) cs → Tells (Beside u) events (body ∷ [])
  change_told events u body cs h calm e says = tells_one events body calm (record {
    what = changes u (decimal (h.version + 1)) cs;
    says = says;
    speaks_so = refl;
    allowed = subst (λ o. IsNext o (decimal (h.version + 1))) (sym (version_at s events u (Some h) e)) refl;
  }) (λ w away c held. rw away refl)

  full_told : (events : List Event) (u t : List ℕ) (h : HeldText) → IsUtf8 u → IsUtf8 t → nat_lt h.version settings.limits.versions ≡ true → Calm events → held_at s u events ≡ Some h → Tells (Beside u) events (full_text u (h.version + 1) t ∷ [])
  full_told events u t h k g less calm e = let x : FullSays u (h.version + 1) t = full_says u t (h.version + 1) k g (next_version h.version less) in change_told events u (full_text u (h.version + 1) t) x.list h calm e x.says

  pub versioned_told : (events : List Event) (body u w : List ℕ) (cs : Json) (h : HeldText) → saying_of (message_of body) ≡ changes u w cs → nat_lt h.version settings.limits.versions ≡ true
      → Calm events → held_at s u events ≡ Some h → Tells (Beside u) events (versioned (h.version + 1) body ∷ [])
  versioned_told events body u w cs h says less calm e = change_told events u (versioned (h.version + 1) body) cs h calm e (versioned_says body (h.version + 1) u w cs (next_version h.version less) says)

  -- the language and the text of an editor
  pub switched_told : (events : List Event) (o : Open) (h : HeldText) → IsSpelt o → Calm events → held_at s o.uri events ≡ Some h → Tells (Beside o.uri) events (switched settings.limits.versions o h)
  switched_told events o h k calm e = go (bytes_eq h.language o.language) (nat_lt h.version settings.limits.versions) refl
    where
      anew : Tells (Beside o.uri) events (close_text o.uri ∷ open_text o.uri o.language o.text ∷ [])
      anew =
          let one : Tells (Beside o.uri) events (close_text o.uri ∷ []) = close_told events o.uri h k.0 calm e in
          tells_both events (close_text o.uri ∷ []) (open_text o.uri o.language o.text ∷ []) one
          (open_told (events ++ said (ToServer s (close_text o.uri)) ∷ []) o.uri o.language o.text k.0 k.1 k.2 one.calm (closed_not s events (close_text o.uri) o.uri (close_says o.uri k.0)))

      go : (a b : Bool) → nat_lt h.version settings.limits.versions ≡ b
          → Tells (Beside o.uri) events (if a && b then full_text o.uri (h.version + 1) o.text ∷ [] else close_text o.uri ∷ open_text o.uri o.language o.text ∷ [])
      go true true less = full_told events o.uri o.text h k.0 k.2 less calm e
      go true false less = anew
      go false b less = anew

  pub differing_told : (events : List Event) (o : Open) (h : HeldText) → IsSpelt o → Calm events → held_at s o.uri events ≡ Some h → Tells (Beside o.uri) events (differing settings.limits.versions o h)
  differing_told events o h k calm e = go (agrees o h)
    where
      go : (b : Bool) → Tells (Beside o.uri) events (if b then [] else switched settings.limits.versions o h)
      go true = tells_none events calm
      go false = switched_told events o h k calm e
