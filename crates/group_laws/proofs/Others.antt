-- What is kept of another group stays behind a whole entry.
use Rattle.std.proofs.Common.{◌≡◌, ℕ, false, List, [], ◌∷◌, ◌++◌, nat_eq, refl, sym, ◌∙◌, ap, subst, append-nil}
use Rattle.std.specs.Prelude.{Option, Some, None}
use Rattle.mux_history.specs.declared.cause.Cause.TheVariants.{FromEditor, FromServer}
use Rattle.mux_history.specs.declared.out.Out.{Out}
use Rattle.mux_history.specs.declared.out.Out.TheVariants.{ToEditor, ToServer}
use Rattle.document_model.specs.rpc_message.specs.Message.{message_of}
use Rattle.position_codec.specs.declared.Encoding.{Encoding}
use Rattle.document_model.specs.Helds.{HeldText}
use Rattle.event_model.specs.Event.{Event, behind, heard, said, with_cause}
use Rattle.event_model.specs.Settings.{Settings}
use Rattle.event_model.specs.Spawns.{group_behind, group_of}
use Rattle.event_model.proofs.Frames.{one_more}
use Rattle.focus_switch.specs.Documents.{Documents}
use Rattle.group_rows.specs.mux_model.specs.Documents.{Sent, held_at, sent_behind, sent_of}
use Rattle.group_rows.specs.mux_model.proofs.DocumentFolds.{sent_encoding}
use Rattle.group_rows.specs.group_words.specs.Houses.{home_of, is_home}
use Rattle.group_rows.specs.Texts.{encoding_of, texts_of}
use Rattle.group_rows.proofs.Frames.{encoding_more, encoding_stays, texts_apart, texts_more, texts_stay}
use Rattle.group_laws.specs.Stands.{HeldStands, TextsStand}
use Rattle.group_laws.proofs.Counts.{SameCounts, apart_uncounted, counts_at, counts_more, counts_stay, counts_then, is_counted}
use Rattle.group_laws.proofs.Entries.{first_behind, held_same, known_sent}

-- bodies to one start, and bodies to editors
abbrev pub GoesTo : ℕ → Out → Type 0
GoesTo s (ToServer n body) = n ≡ s
GoesTo s (ToEditor e body) = Unit {0}
GoesTo s other = ⊥

abbrev pub AllGo : ℕ → List Out → Type 0
AllGo s [] = Unit {0}
AllGo s (x ∷ xs) = GoesTo s x × AllGo s xs

group_stays : (n : ℕ) (s : ℕ) (x : Out) (events : List Event) → GoesTo s x → group_of n (events ++ said x ∷ []) ≡ group_of n events
group_stays n s (ToServer m body) events h = one_more (group_behind n) None (group_of n events) events (said (ToServer m body)) refl
group_stays n s (ToEditor e body) events h = one_more (group_behind n) None (group_of n events) events (said (ToEditor e body)) refl
group_stays n s other events h = absurd h

module _ (settings : Settings) (g s : ℕ) where
  texts_one : (x : Out) (events : List Event) → GoesTo s x → is_home g (group_of s events) ≡ false → texts_of settings g (events ++ said x ∷ []) ≡ texts_of settings g events
  texts_one (ToServer n body) events h away = texts_apart settings g n body (message_of body) events (subst (λ m. is_home g (group_of m events) ≡ false) (sym h) away)
  texts_one (ToEditor e body) events h away = texts_stay settings g events (said (ToEditor e body)) refl
  texts_one other events h away = absurd h

  encoding_one : (x : Out) (events : List Event) → GoesTo s x → encoding_of g (events ++ said x ∷ []) ≡ encoding_of g events
  encoding_one (ToServer n body) events h = encoding_stays g events (said (ToServer n body)) refl
  encoding_one (ToEditor e body) events h = encoding_stays g events (said (ToEditor e body)) refl
  encoding_one other events h = absurd h

  texts_all : (xs : List Out) (events : List Event) → AllGo s xs → is_home g (group_of s events) ≡ false → texts_of settings g (behind events xs) ≡ texts_of settings g events
  texts_all [] events h away = ap (texts_of settings g) (append-nil events)
  texts_all (x ∷ xs) events h away = ap (texts_of settings g) (first_behind events x xs)
      ∙ (texts_all xs (events ++ said x ∷ []) h.1 (ap (is_home g) (group_stays s s x events h.0) ∙ away) ∙ texts_one x events h.0 away)

  encoding_all : (xs : List Out) (events : List Event) → AllGo s xs → encoding_of g (behind events xs) ≡ encoding_of g events
  encoding_all [] events h = ap (encoding_of g) (append-nil events)
  encoding_all (x ∷ xs) events h = ap (encoding_of g) (first_behind events x xs) ∙ (encoding_all xs (events ++ said x ∷ []) h.1 ∙ encoding_one x events h.0)

-- what another start was sent
module _ (n s : ℕ) (code : Encoding) (apart : nat_eq s n ≡ false) where
  abbrev Known : List ℕ → Option HeldText → List Event → Type 0
  Known u k events = sent_of n u events ≡ record { encoding = Some code; held = k }

  sent_one : (x : Out) (u : List ℕ) (k : Option HeldText) (events : List Event) → GoesTo s x → Known u k events → Known u k (events ++ said x ∷ [])
  sent_one (ToServer m body) u k events h e = one_more (sent_behind n u) _ _ events (said (ToServer m body)) e ∙ rw (ap (λ z. nat_eq z n) h ∙ apart) refl
  sent_one (ToEditor m body) u k events h e = one_more (sent_behind n u) _ _ events (said (ToEditor m body)) e
  sent_one other u k events h e = absurd h

  sent_all : (xs : List Out) (u : List ℕ) (k : Option HeldText) (events : List Event) → AllGo s xs → Known u k events → Known u k (behind events xs)
  sent_all [] u k events h e = ap (sent_of n u) (append-nil events) ∙ e
  sent_all (x ∷ xs) u k events h e = ap (sent_of n u) (first_behind events x xs) ∙ sent_all xs u k (events ++ said x ∷ []) h.1 (sent_one x u k events h.0 e)

  counts_all : (xs : List Out) (before events : List Event) → AllGo s xs → SameCounts n before events → SameCounts n before (behind events xs)
  counts_all [] before events h same = counts_then n before events (behind events []) same (counts_at n events (behind events []) (append-nil events))
  counts_all (x ∷ xs) before events h same = subst (SameCounts n before) (sym (first_behind events x xs))
      (counts_all xs before (events ++ said x ∷ []) h.1 (counts_then n before events (events ++ said x ∷ []) same (counts_more n events (said x) (uncounted x h.0))))
    where
      uncounted : (x : Out) → GoesTo s x → is_counted n (said x) ≡ false
      uncounted (ToServer m body) k = apart_uncounted n m body (message_of body) (ap (λ z. nat_eq z n) k ∙ apart)
      uncounted (ToEditor m body) k = refl
      uncounted other k = absurd k

  others_held : (d : Documents) (before events : List Event) → ((u : List ℕ) → Known u (held_at n u before) events) → SameCounts n before events → HeldStands n code d before → HeldStands n code d events
  others_held d before events same counts holds = record {
    start = holds.start;
    known = holds.known;
    given = sym (sent_encoding n [] events) ∙ ap (λ (x : Sent). x.encoding) (same []);
    held = held_same d (λ u. held_at n u before) (λ u. held_at n u events) (λ u. sym (ap (λ (x : Sent). x.held) (same u))) holds.held;
    counts = counts_stay n d before events counts holds.counts;
  }

  -- behind an entry of an editor
  pub editor_others : (d : Documents) (before : List Event) (e : ℕ) (body : List ℕ) (xs : List Out) → AllGo s xs → HeldStands n code d before → HeldStands n code d (behind (with_cause before (FromEditor e body)) xs)
  editor_others d before e body xs go holds = others_held d before _ (λ u. sent_all xs u (held_at n u before) (with_cause before (FromEditor e body)) go
      (one_more (sent_behind n u) _ _ before (heard (FromEditor e body)) (known_sent n u code before holds.given)))
      (counts_all xs before (with_cause before (FromEditor e body)) go (counts_more n before (heard (FromEditor e body)) refl)) holds

  -- behind one of a start
  pub server_others : (d : Documents) (before : List Event) (m : ℕ) (body : List ℕ) (xs : List Out) → AllGo s xs → HeldStands n code d before → HeldStands n code d (behind (with_cause before (FromServer m body)) xs)
  server_others d before m body xs go holds = others_held d before _ (λ u. sent_all xs u (held_at n u before) (with_cause before (FromServer m body)) go
      (one_more (sent_behind n u) _ _ before (heard (FromServer m body)) (known_sent n u code before holds.given)))
      (counts_all xs before (with_cause before (FromServer m body)) go (counts_more n before (heard (FromServer m body)) refl)) holds

-- what the editors of another group have open
pub editor_texts : (settings : Settings) (g s e : ℕ) (d : Documents) (before : List Event) (body : List ℕ) (xs : List Out) → is_home g (home_of settings e before) ≡ false → is_home g (group_of s before) ≡ false → AllGo s xs
    → TextsStand settings g d before → TextsStand settings g d (behind (with_cause before (FromEditor e body)) xs)
editor_texts settings g s e d before body xs elsewhere away go texts = record {
  texts = texts_all settings g s xs (with_cause before (FromEditor e body)) go (ap (is_home g) (one_more (group_behind s) None (group_of s before) before (heard (FromEditor e body)) refl) ∙ away)
      ∙ (texts_more settings g before (heard (FromEditor e body)) ∙ (rw elsewhere refl ∙ texts.texts));
  encoding = encoding_all settings g s xs (with_cause before (FromEditor e body)) go ∙ (encoding_stays g before (heard (FromEditor e body)) refl ∙ texts.encoding);
  orderly = texts.orderly;
  spelt = texts.spelt;
}

pub server_texts : (settings : Settings) (g s m : ℕ) (d : Documents) (before : List Event) (body : List ℕ) (xs : List Out) → is_home g (group_of m before) ≡ false → is_home g (group_of s before) ≡ false → AllGo s xs
    → TextsStand settings g d before → TextsStand settings g d (behind (with_cause before (FromServer m body)) xs)
server_texts settings g s m d before body xs elsewhere away go texts = record {
  texts = texts_all settings g s xs (with_cause before (FromServer m body)) go (ap (is_home g) (one_more (group_behind s) None (group_of s before) before (heard (FromServer m body)) refl) ∙ away)
      ∙ (texts_stay settings g before (heard (FromServer m body)) refl ∙ texts.texts);
  encoding = encoding_all settings g s xs (with_cause before (FromServer m body)) go ∙ (encoding_more g before (heard (FromServer m body)) ∙ (rw elsewhere refl ∙ texts.encoding));
  orderly = texts.orderly;
  spelt = texts.spelt;
}
