-- How many notifications on documents a start was sent, behind an event and behind what a row sends.
use Rattle.std.proofs.Common.{◌≡◌, ℕ, suc, ◌+◌, Bool, true, false, ◌&&◌, List, [], ◌∷◌, ◌++◌, length, map, nat_eq, refl, sym, ◌∙◌, ap, ap₂, subst, append-nil, arith, if◌then◌else◌}
use Rattle.std.specs.Prelude.{Some, bytes_eq}
use Rattle.std.proofs.lemmas.Bool.Decides.{nat_tests}
use Rattle.json_text.proofs.Put.{same_name}
use Rattle.mux_history.specs.declared.out.Out.{Out}
use Rattle.mux_history.specs.declared.out.Out.TheVariants.{ToServer}
use Rattle.document_model.specs.rpc_message.specs.Message.{Message, message_of}
use Rattle.document_model.specs.Sayings.{Saying, opens, changes, closes, misshapen, nothing, saying_of, speaks}
use Rattle.document_model.proofs.Holders.{bytes_same}
use Rattle.document_laws.specs.Counts.{AllOn, Counted, CountsOn, IsOn, joins, still, tells}
use Rattle.event_model.specs.Event.{Event, behind, did, said}
use Rattle.event_model.proofs.Frames.{never, one_more}
use Rattle.event_model.proofs.Turns.{behind_more}
use Rattle.focus_switch.specs.declared.held.Held.{Held}
use Rattle.focus_switch.specs.Documents.{Documents, held_of}
use Rattle.group_rows.specs.group_words.proofs.Frames.{past_more}
use Rattle.group_rows.specs.Lists.{changed_next, changed_of, is_about, sayings_behind, sayings_of}
use Rattle.group_laws.specs.Stands.{CountsStand}

-- one event more

sayings_more : (s : ℕ) (events : List Event) (ev : Event) → sayings_of s (events ++ ev ∷ []) ≡ sayings_behind s (sayings_of s events) ev
sayings_more s events ev = one_more (sayings_behind s) 0 (sayings_of s events) events ev refl

changed_more : (s : ℕ) (u : List ℕ) (events : List Event) (ev : Event) → changed_of s u (events ++ ev ∷ []) ≡ changed_next s u events (changed_of s u events) ev
changed_more s u events ev = past_more (changed_next s u) [] 0 events ev

-- what is on a document, and what is on none

on_speaks : (u : List ℕ) (x : Saying) → IsOn u x → speaks x ≡ true
on_speaks u (opens w l v t) h = refl
on_speaks u (changes w v cs) h = refl
on_speaks u (closes w) h = refl
on_speaks u misshapen h = absurd h
on_speaks u nothing h = absurd h

on_about : (u : List ℕ) (x : Saying) → IsOn u x → is_about u x ≡ true
on_about u (opens w l v t) h = ap (bytes_eq u) h ∙ same_name u
on_about u (changes w v cs) h = ap (bytes_eq u) h ∙ same_name u
on_about u (closes w) h = ap (bytes_eq u) h ∙ same_name u
on_about u misshapen h = absurd h
on_about u nothing h = absurd h

on_apart : (u w : List ℕ) (x : Saying) → IsOn u x → bytes_eq w u ≡ false → is_about w x ≡ false
on_apart u w (opens z l v t) h away = ap (bytes_eq w) h ∙ away
on_apart u w (changes z v cs) h away = ap (bytes_eq w) h ∙ away
on_apart u w (closes z) h away = ap (bytes_eq w) h ∙ away
on_apart u w misshapen h away = refl
on_apart u w nothing h away = refl

silent_apart : (u : List ℕ) (x : Saying) → speaks x ≡ false → is_about u x ≡ false
silent_apart u (opens w l v t) h = never h
silent_apart u (changes w v cs) h = never h
silent_apart u (closes w) h = never h
silent_apart u misshapen h = never h
silent_apart u nothing h = refl

-- what isn't a notification on a document to a start leaves its counts

abbrev pub is_counted : ℕ → Event → Bool
is_counted s (did (ToServer n body) m) = nat_eq n s && speaks (saying_of m)
is_counted s other = false

pub record SameCounts (s : ℕ) (events later : List Event) : Type 0 where
  pub sayings : sayings_of s later ≡ sayings_of s events
  pub changed : (u : List ℕ) → changed_of s u later ≡ changed_of s u events

and_off : (a : Bool) → (a && false) ≡ false
and_off true = refl
and_off false = refl

pub silent_uncounted : (s n : ℕ) (body : List ℕ) (m : Message) → speaks (saying_of m) ≡ false → is_counted s (did (ToServer n body) m) ≡ false
silent_uncounted s n body m h = ap (λ b. nat_eq n s && b) h ∙ and_off (nat_eq n s)

pub apart_uncounted : (s n : ℕ) (body : List ℕ) (m : Message) → nat_eq n s ≡ false → is_counted s (did (ToServer n body) m) ≡ false
apart_uncounted s n body m h = ap (λ b. b && speaks (saying_of m)) h

kept_sayings : (s n : ℕ) (ev : Event) → is_counted s ev ≡ false → sayings_behind s n ev ≡ n
kept_sayings s n (did (ToServer k body) m) h = ap (λ b. if b then n + 1 else n) h
kept_sayings s n other h = refl

kept_changed : (s : ℕ) (u : List ℕ) (before : List Event) (n : ℕ) (ev : Event) → is_counted s ev ≡ false → changed_next s u before n ev ≡ n
kept_changed s u before n (did (ToServer k body) m) h = ap (λ b. if b then sayings_of s before + 1 else n) (unsaid (nat_eq k s) (saying_of m) h)
  where
    unsaid : (b : Bool) (x : Saying) → (b && speaks x) ≡ false → (b && is_about u x) ≡ false
    unsaid true x k = silent_apart u x k
    unsaid false x k = refl
kept_changed s u before n other h = refl

pub counts_more : (s : ℕ) (events : List Event) (ev : Event) → is_counted s ev ≡ false → SameCounts s events (events ++ ev ∷ [])
counts_more s events ev h = record {
  sayings = sayings_more s events ev ∙ kept_sayings s (sayings_of s events) ev h;
  changed = λ u. changed_more s u events ev ∙ kept_changed s u events (changed_of s u events) ev h;
}

pub counts_at : (s : ℕ) (events later : List Event) → later ≡ events → SameCounts s events later
counts_at s events later is = record { sayings = ap (sayings_of s) is; changed = λ u. ap (changed_of s u) is }

pub counts_then : (s : ℕ) (a b c : List Event) → SameCounts s a b → SameCounts s b c → SameCounts s a c
counts_then s a b c f g = record { sayings = g.sayings ∙ f.sayings; changed = λ u. g.changed u ∙ f.changed u }

pub counts_stay : (s : ℕ) (d : Documents) (events later : List Event) → SameCounts s events later → CountsStand s d events → CountsStand s d later
counts_stay s d events later same h = record { sent = h.sent ∙ sym same.sayings; changed = λ u x is. h.changed u x is ∙ sym (same.changed u) }

-- where two lists of events count alike, they do behind the same outs

counts_on : (s : ℕ) (ev : Event) (events later : List Event) → SameCounts s events later → SameCounts s (events ++ ev ∷ []) (later ++ ev ∷ [])
counts_on s ev events later same = record {
  sayings = sayings_more s later ev ∙ (ap (λ n. sayings_behind s n ev) same.sayings ∙ sym (sayings_more s events ev));
  changed = λ u. changed_more s u later ev ∙ (next u ev ∙ sym (changed_more s u events ev));
}
  where
    next : (u : List ℕ) (ev : Event) → changed_next s u later (changed_of s u later) ev ≡ changed_next s u events (changed_of s u events) ev
    next u (did (ToServer n body) m) = ap₂ (λ a b. if nat_eq n s && is_about u (saying_of m) then a + 1 else b) same.sayings (same.changed u)
    next u other = same.changed u

pub counts_behind_same : (s : ℕ) (xs : List Out) (events later : List Event) → SameCounts s events later → SameCounts s (behind events xs) (behind later xs)
counts_behind_same s [] events later same = counts_then s (behind events []) events (behind later []) (counts_at s (behind events []) events (sym (append-nil events)))
    (counts_then s events later (behind later []) same (counts_at s later (behind later []) (append-nil later)))
counts_behind_same s (x ∷ xs) events later same =
    let k : SameCounts s (behind (events ++ said x ∷ []) xs) (behind (later ++ said x ∷ []) xs) = counts_behind_same s xs (events ++ said x ∷ []) (later ++ said x ∷ []) (counts_on s (said x) events later same) in
    subst (λ es. SameCounts s es (behind later (x ∷ xs))) (sym (behind_more events (x ∷ []) xs)) (subst (SameCounts s (behind (events ++ said x ∷ []) xs)) (sym (behind_more later (x ∷ []) xs)) k)

-- bodies on one document

same_start : (n : ℕ) → nat_eq n n ≡ true
same_start n = grind (arith, nat_tests)

none_more : (n : ℕ) → n + 0 ≡ n
none_more n = omega arith

one_and_more : (n k : ℕ) → (n + 1) + k ≡ n + suc k
one_and_more n k = omega arith

module _ (s : ℕ) (u : List ℕ) where
  abbrev to : List (List ℕ) → List Out
  to bodies = map (λ b. ToServer s b) bodies

  abbrev On : List ℕ → Type 0
  On b = IsOn u (saying_of (message_of b))

  one_saying : (b : List ℕ) (events : List Event) → On b → sayings_of s (events ++ said (ToServer s b) ∷ []) ≡ sayings_of s events + 1
  one_saying b events on = sayings_more s events (said (ToServer s b))
      ∙ ap₂ (λ x y. if x && y then sayings_of s events + 1 else sayings_of s events) (same_start s) (on_speaks u (saying_of (message_of b)) on)

  one_changed : (b : List ℕ) (events : List Event) → On b → changed_of s u (events ++ said (ToServer s b) ∷ []) ≡ sayings_of s events + 1
  one_changed b events on = changed_more s u events (said (ToServer s b))
      ∙ ap₂ (λ x y. if x && y then sayings_of s events + 1 else changed_of s u events) (same_start s) (on_about u (saying_of (message_of b)) on)

  one_else : (w b : List ℕ) (events : List Event) → On b → bytes_eq w u ≡ false → changed_of s w (events ++ said (ToServer s b) ∷ []) ≡ changed_of s w events
  one_else w b events on away = changed_more s w events (said (ToServer s b))
      ∙ (ap (λ y. if nat_eq s s && y then sayings_of s events + 1 else changed_of s w events) (on_apart u w (saying_of (message_of b)) on away)
      ∙ ap (λ y. if y then sayings_of s events + 1 else changed_of s w events) (and_off (nat_eq s s)))

  sayings_told : (bodies : List (List ℕ)) (events : List Event) → AllOn u bodies → sayings_of s (behind events (to bodies)) ≡ sayings_of s events + length bodies
  sayings_told [] events on = ap (sayings_of s) (append-nil events) ∙ sym (none_more (sayings_of s events))
  sayings_told (b ∷ bodies) events on = ap (sayings_of s) (behind_more events (ToServer s b ∷ []) (to bodies))
      ∙ (sayings_told bodies (events ++ said (ToServer s b) ∷ []) on.1
      ∙ (ap (λ n. n + length bodies) (one_saying b events on.0) ∙ one_and_more (sayings_of s events) (length bodies)))

  changed_told : (b : List ℕ) (bodies : List (List ℕ)) (events : List Event) → AllOn u (b ∷ bodies) → changed_of s u (behind events (to (b ∷ bodies))) ≡ sayings_of s events + length (b ∷ bodies)
  changed_told b [] events on = one_changed b events on.0
  changed_told b (c ∷ bodies) events on = ap (changed_of s u) (behind_more events (ToServer s b ∷ []) (to (c ∷ bodies)))
      ∙ (changed_told c bodies (events ++ said (ToServer s b) ∷ []) on.1
      ∙ (ap (λ n. n + length (c ∷ bodies)) (one_saying b events on.0) ∙ one_and_more (sayings_of s events) (length (c ∷ bodies))))

  changed_else : (w : List ℕ) (bodies : List (List ℕ)) (events : List Event) → AllOn u bodies → bytes_eq w u ≡ false → changed_of s w (behind events (to bodies)) ≡ changed_of s w events
  changed_else w [] events on away = ap (changed_of s w) (append-nil events)
  changed_else w (b ∷ bodies) events on away = ap (changed_of s w) (behind_more events (ToServer s b ∷ []) (to bodies))
      ∙ (changed_else w bodies (events ++ said (ToServer s b) ∷ []) on.1 away ∙ one_else w b events on.0 away)

  on_stands : (d t : Documents) (b : List ℕ) (bodies : List (List ℕ)) (events : List Event) → CountsOn u (b ∷ bodies) d t → CountsStand s d events → CountsStand s t (behind events (to (b ∷ bodies)))
  on_stands d t b bodies events k h = record {
    sent = now;
    changed = λ w x is. at w x is (bytes_eq w u) refl;
  }
    where
      now : t.sent ≡ sayings_of s (behind events (to (b ∷ bodies)))
      now = k.sent ∙ (ap (λ n. n + length (b ∷ bodies)) h.sent ∙ sym (sayings_told (b ∷ bodies) events k.on))

      at : (w : List ℕ) (x : Held) → held_of w t.helds ≡ Some x → (c : Bool) → bytes_eq w u ≡ c → x.sent ≡ changed_of s w (behind events (to (b ∷ bodies)))
      at w x is true d =
          let same : w ≡ u = bytes_same w u d in
          k.here x (ap (λ z. held_of z t.helds) (sym same) ∙ is)
          ∙ (now ∙ (sayings_told (b ∷ bodies) events k.on ∙ (sym (changed_told b bodies events k.on) ∙ ap (λ z. changed_of s z (behind events (to (b ∷ bodies)))) (sym same))))
      at w x is false d = h.changed w x (sym (k.others w d) ∙ is) ∙ sym (changed_else w (b ∷ bodies) events k.on d)

-- behind what a row sends
pub counts_behind : (s : ℕ) (d t : Documents) (outs : List Out) (events : List Event) → Counted s d outs t → CountsStand s d events → CountsStand s t (behind events outs)
counts_behind s d t outs events (still sent helds none) h = subst (λ xs. CountsStand s t (behind events xs)) (sym none) (subst (CountsStand s t) (sym (append-nil events))
    (record { sent = sent ∙ h.sent; changed = λ u x is. h.changed u x (ap (held_of u) (sym helds) ∙ is) }))
counts_behind s d t outs events (tells u b bodies k are) h = subst (λ xs. CountsStand s t (behind events xs)) (sym are) (on_stands s u d t b bodies events k h)
counts_behind s d t outs events (joins m xs ys a b are) h = subst (λ zs. CountsStand s t (behind events zs)) (sym are)
    (subst (CountsStand s t) (sym (behind_more events xs ys)) (counts_behind s m t ys (behind events xs) b (counts_behind s d m xs events a h)))
