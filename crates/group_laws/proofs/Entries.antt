-- A whole entry in which a start is told of documents: what is kept of the group stands for the events behind it.
use Rattle.std.proofs.Common.{◌≡◌, ℕ, true, false, not, ◌||◌, List, [], ◌∷◌, ◌++◌, map, nat_eq, refl, sym, ◌∙◌, ap, ap₂, subst, append-nil, arith}
use Rattle.std.specs.Prelude.{Option, Some}
use Rattle.std.proofs.lemmas.Bool.Decides.{nat_tests}
use Rattle.json_text.specs.Json.{Json}
use Rattle.mux_history.specs.declared.cause.Cause.TheVariants.{FromEditor}
use Rattle.mux_history.specs.declared.out.Out.{Out}
use Rattle.mux_history.specs.declared.out.Out.TheVariants.{ToServer}
use Rattle.document_model.specs.rpc_message.specs.Message.{message_of, notification}
use Rattle.position_codec.specs.declared.Encoding.{Encoding}
use Rattle.document_model.specs.Helds.{HeldText, told}
use Rattle.document_model.specs.Opens.{holder}
use Rattle.document_model.specs.Orderly.{AllSpelt, Orderly}
use Rattle.document_model.specs.Sayings.{saying_by, saying_of, speaks}
use Rattle.document_model.specs.Texts.{Texts, texts_behind}
use Rattle.document_model.proofs.Orders.{orderly_behind}
use Rattle.document_model.proofs.Spelt.{texts_spelt}
use Rattle.document_model.proofs.Spoken.{AllSpeak, Speaks}
use Rattle.document_model.proofs.Written.{Spoken, spoken}
use Rattle.document_laws.specs.Counts.{Counted}
use Rattle.document_laws.specs.Follows.{Held, Matches, texts_in, told_outs}
use Rattle.document_laws.proofs.Sends.{Stays}
use Rattle.event_model.specs.Event.{Event, behind, heard, said, with_cause}
use Rattle.event_model.specs.Phases.{desk_of, is_served}
use Rattle.event_model.specs.Settings.{Settings}
use Rattle.event_model.proofs.Turns.{behind_more}
use Rattle.focus_switch.specs.Documents.{Documents, version_held}
use Rattle.focus_switch.specs.Rows.{Step}
use Rattle.group_rows.specs.mux_model.specs.Documents as starts
use Rattle.group_rows.specs.mux_model.specs.Documents.{Sent, held_at, sent_behind, sent_of}
use Rattle.group_rows.specs.mux_model.proofs.DocumentFolds.{sent_encoding}
use Rattle.event_model.proofs.Frames.{one_more}
use Rattle.group_rows.specs.group_words.specs.Houses.{home_of, is_home}
use Rattle.group_rows.specs.Texts.{encoding_of, is_aside, is_synced, texts_of}
use Rattle.group_rows.proofs.Frames.{encoding_stays, texts_more, texts_stay}
use Rattle.group_laws.specs.Stands.{HeldStands, TextsStand}
use Rattle.group_laws.proofs.Counts.{counts_behind, counts_more, counts_stay}

abbrev to : ℕ → List (List ℕ) → List Out
to s bodies = map (λ b. ToServer s b) bodies

-- a body that tells of a document doesn't go on behind a sync
speaking_aside : (b : List ℕ) → Speaks b → is_synced (message_of b) ≡ false
speaking_aside b h = let k : Spoken (message_of b) = spoken (message_of b) h in
    ap is_synced k.is ∙ ap (λ t. not (t || is_aside k.method)) (ap (λ m. speaks (saying_of m)) (sym k.is) ∙ h)

-- the outs are behind the events one after the other
pub first_behind : (events : List Event) (x : Out) (xs : List Out) → behind events (x ∷ xs) ≡ behind (events ++ said x ∷ []) xs
first_behind events x xs = behind_more events (x ∷ []) xs

pub texts_told : (settings : Settings) (g s : ℕ) (events : List Event) (bodies : List (List ℕ)) → AllSpeak bodies → texts_of settings g (behind events (to s bodies)) ≡ texts_of settings g events
texts_told settings g s events [] h = ap (texts_of settings g) (append-nil events)
texts_told settings g s events (b ∷ bodies) h = ap (texts_of settings g) (first_behind events (ToServer s b) (to s bodies))
    ∙ (texts_told settings g s (events ++ said (ToServer s b) ∷ []) bodies h.1 ∙ texts_stay settings g events (said (ToServer s b)) (speaking_aside b h.0))

pub encoding_told : (g s : ℕ) (events : List Event) (bodies : List (List ℕ)) → encoding_of g (behind events (to s bodies)) ≡ encoding_of g events
encoding_told g s events [] = ap (encoding_of g) (append-nil events)
encoding_told g s events (b ∷ bodies) = ap (encoding_of g) (first_behind events (ToServer s b) (to s bodies))
    ∙ (encoding_told g s (events ++ said (ToServer s b) ∷ []) bodies ∙ encoding_stays g events (said (ToServer s b)) refl)

-- what a start was sent of a document, behind one event
given_stays : (s : ℕ) (code : Encoding) (ev : Event) → starts.encoding_behind s (Some code) ev ≡ Some code
given_stays s code ev = refl

pub itself : (n : ℕ) → nat_eq n n ≡ true
itself n = grind (arith, nat_tests)

sent_told : (s : ℕ) (u : List ℕ) (code : Encoding) (h : Option HeldText) (b : List ℕ) (events : List Event) → sent_of s u events ≡ record { encoding = Some code; held = h }
    → sent_of s u (events ++ said (ToServer s b) ∷ []) ≡ record { encoding = Some code; held = told (Some code) u h (saying_of (message_of b)) }
sent_told s u code h b events e = one_more (sent_behind s u) _ _ events (said (ToServer s b)) e ∙ rw (itself s) refl

pub all_told : (s : ℕ) (u : List ℕ) (code : Encoding) (h : Option HeldText) (bodies : List (List ℕ)) (events : List Event) → sent_of s u events ≡ record { encoding = Some code; held = h }
    → sent_of s u (behind events (to s bodies)) ≡ record { encoding = Some code; held = told_outs (Some code) u h (to s bodies) }
all_told s u code h [] events e = ap (sent_of s u) (append-nil events) ∙ e
all_told s u code h (b ∷ bodies) events e = ap (sent_of s u) (first_behind events (ToServer s b) (to s bodies))
    ∙ all_told s u code (told (Some code) u h (saying_of (message_of b))) bodies (events ++ said (ToServer s b) ∷ []) (sent_told s u code h b events e)

pub known_sent : (s : ℕ) (u : List ℕ) (code : Encoding) (events : List Event) → starts.encoding_of s events ≡ Some code → sent_of s u events ≡ record { encoding = Some code; held = held_at s u events }
known_sent s u code events h = ap (λ c. record { encoding = c; held = held_at s u events }) (sent_encoding s u events ∙ h)

-- an editor's message leaves alone what a start was sent
pub heard_sent : (s e : ℕ) (u body : List ℕ) (code : Encoding) (h : Option HeldText) (events : List Event) → sent_of s u events ≡ record { encoding = Some code; held = h } → sent_of s u (with_cause events (FromEditor e body)) ≡ record { encoding = Some code; held = h }
heard_sent s e u body code h events k = one_more (sent_behind s u) _ _ events (heard (FromEditor e body)) k

-- what a start has, said in another way
pub held_same : (d : Documents) (k h : List ℕ → Option HeldText) → ((u : List ℕ) → k u ≡ h u) → Held d k → Held d h
held_same d k h same f = λ u. subst (λ z. Matches (version_held u d.helds) (holder u d.opens) z) (same u) (f u)

-- E12 to E14: an editor of the group says something of a document
module _ (settings : Settings) (g s e : ℕ) (code : Encoding) (before : List Event) (body method : List ℕ) (params : Option Json) (d : Documents)
    (reads : message_of body ≡ notification method params) (home : is_home g (home_of settings e before) ≡ true) (served : is_served (desk_of e before).phase ≡ true)
    (texts : TextsStand settings g d before) (holds : HeldStands s code d before)
    (step : Step) (stays : Stays d step.after) (now : texts_in step.after ≡ texts_behind d.encoding e (saying_by method params) (texts_in d))
    (bodies : List (List ℕ)) (are : step.outs ≡ map (λ b. ToServer s b) bodies) (speak : AllSpeak bodies)
    (follows : Held step.after (λ u. told_outs d.encoding u (held_at s u before) step.outs)) (counted : Counted s d step.outs step.after) where
  abbrev after_cause : List Event
  after_cause = with_cause before (FromEditor e body)

  heard_texts : texts_of settings g after_cause ≡ texts_behind d.encoding e (saying_by method params) (texts_in d)
  heard_texts = texts_more settings g before (heard (FromEditor e body)) ∙ (rw (home, served, reads) refl ∙ ap₂ (λ c x. texts_behind c e (saying_by method params) x) texts.encoding texts.texts)

  pub entry_texts : TextsStand settings g step.after (behind after_cause step.outs)
  entry_texts = record {
    texts = ap (λ xs. texts_of settings g (behind after_cause xs)) are ∙ (texts_told settings g s after_cause bodies speak ∙ (heard_texts ∙ sym now));
    encoding = ap (λ xs. encoding_of g (behind after_cause xs)) are ∙ (encoding_told g s after_cause bodies ∙ (encoding_stays g before (heard (FromEditor e body)) refl ∙ (texts.encoding ∙ sym stays.encoding)));
    orderly = subst Orderly (sym now) (orderly_behind d.encoding e (saying_by method params) (texts_in d) texts.orderly);
    spelt = subst (λ (x : Texts). AllSpelt x.opens) (sym now) (subst (λ m. AllSpelt (texts_behind d.encoding e (saying_of m) (texts_in d)).opens) reads (texts_spelt d.encoding e body (texts_in d) texts.spelt));
  }

  held_now : (u : List ℕ) → held_at s u (behind after_cause step.outs) ≡ told_outs d.encoding u (held_at s u before) step.outs
  held_now u = ap (λ xs. held_at s u (behind after_cause xs)) are
      ∙ (ap (λ (x : Sent). x.held) (all_told s u code (held_at s u before) bodies after_cause (heard_sent s e u body code (held_at s u before) before (known_sent s u code before holds.given)))
      ∙ ap₂ (λ c xs. told_outs c u (held_at s u before) xs) (sym holds.known) (sym are))

  given_now : starts.encoding_of s (behind after_cause step.outs) ≡ Some code
  given_now = sym (sent_encoding s [] (behind after_cause step.outs)) ∙ (ap (λ xs. (sent_of s [] (behind after_cause xs)).encoding) are
      ∙ ap (λ (x : Sent). x.encoding) (all_told s [] code (held_at s [] before) bodies after_cause (heard_sent s e [] body code (held_at s [] before) before (known_sent s [] code before holds.given))))

  pub entry_held : HeldStands s code step.after (behind after_cause step.outs)
  entry_held = record {
    start = stays.start ∙ holds.start;
    known = stays.encoding ∙ holds.known;
    given = given_now;
    held = held_same step.after (λ u. told_outs d.encoding u (held_at s u before) step.outs) (λ u. held_at s u (behind after_cause step.outs)) (λ u. sym (held_now u)) follows;
    counts = counts_behind s d step.after step.outs after_cause counted (counts_stay s d before after_cause (counts_more s before (heard (FromEditor e body)) refl) holds.counts);
  }
