-- S2: what waits goes to a start behind a sync, or is refused, one after the other.
use Rattle.std.proofs.Common.{◌≡◌, ℕ, suc, ◌+◌, ◌<◌, ◌^◌, Bool, true, false, not, ◌&&◌, List, [], ◌∷◌, ◌++◌, length, drop, map, refl, ap, ap₂, sym, subst, ◌∙◌, append-nil, append_assoc, arith, codes, if◌then◌else◌, nat_eq}
use Rattle.std.specs.Prelude.{Option, Some, None, decimal, slice_get}
use Rattle.std.specs.Option.{option_and_then}
use Rattle.std.proofs.lemmas.Bool.{and_parts}
use Rattle.json_text.specs.Json.{Json}
use Rattle.mux_history.specs.declared.cause.Cause.TheVariants.{FromServer}
use Rattle.mux_history.specs.declared.out.Out.{Out}
use Rattle.mux_history.specs.declared.out.Out.TheVariants.{CloseEditor, EndServer, Spawn, ToEditor, ToServer}
use Rattle.rpc_message.specs.Message.{Id, error, integer, message_of, request}
use Rattle.rpc_message.specs.Texts.{error_text, error_tree, request_failed}
use Rattle.rpc_message.proofs.Fixed.{error_law, id_as_response}
use Rattle.document_model.specs.Sayings.{nothing, saying_of}
use Rattle.event_model.specs.declared.stage.Stage.TheVariants.{Ready}
use Rattle.event_model.specs.Does.{Alike, Does}
use Rattle.event_model.specs.Event.{Event, behind, heard, said, with_cause}
use Rattle.event_model.specs.Requests.{answered_id, is_own}
use Rattle.event_model.specs.Row.{Row, choose, each, look, outs, send, ◌⨾◌}
use Rattle.event_model.specs.Settings.{Settings}
use Rattle.event_model.specs.Spawns.{group_of}
use Rattle.event_model.proofs.Frames.{never, one_more}
use Rattle.event_model.specs.Stages.{Life, is_ready, life_of}
use Rattle.event_model.proofs.Places.{item_at, same_item}
use Rattle.event_model.proofs.Turns.{alike, alike_then, behind_more, does_alike, does_false, does_knowing, does_look, does_nothing, does_then, does_true}
use Rattle.group_rows.specs.Forwarded.{Forwarding, Sender, first_sender, forwarding_next, forwarding_of, sender_of, sender_or, sender_waiting, token_in}
use Rattle.group_rows.specs.Rows.{forward, has_room, send_held, send_waiting, sync_row}
use Rattle.group_rows.specs.Texts.{is_synced}
use Rattle.group_rows.specs.Tokens.{forwarded_text}
use Rattle.group_rows.specs.Waiting.{first_waiting, refuse_waiting, waiting_of, worker_behind, worker_of}
use Rattle.group_rows.proofs.Frames.{forwarding_more}
use Rattle.group_rows.proofs.TokenTexts.{forwarded_says}
use Rattle.mux_turns.specs.group_facts.proofs.Forwards.{forwards_sender}
use Rattle.mux_model.specs.Rows.{to_start}
use Rattle.mux_model.proofs.DocumentFolds.{outs_to_start}
use Rattle.mux_tables.specs.declared.tables.Start.{Start}
use Rattle.mux_tables.specs.declared.tables.Tables.{Tables}
use Rattle.mux_tables.specs.Documents.{AllStand, AllTell, DocumentsStand, nothing_owed, syncing, to}
use Rattle.mux_tables.specs.Stands.{Keeps, Sends, Stands, number_in, of_ids, of_life}
use Rattle.mux_tables.specs.mux_waits.specs.held_requests.specs.declared.request.Request.{Request}
use Rattle.mux_tables.specs.mux_waits.specs.Rows.{Becomes, Rows, held_of}
use Rattle.mux_tables.specs.mux_waits.specs.Stands.{AnswersId, IsHeld}
use Rattle.mux_tables.specs.mux_waits.proofs.Moves.{first_held, held_text}
use Rattle.mux_tables.proofs.DocumentAsked.{row_bodies, tell, worker_stays}
use Rattle.mux_tables.proofs.DocumentMoves.{documents_at}
use Rattle.mux_tables.proofs.DocumentOwed.{all_does, stands_told}
use Rattle.mux_tables.proofs.Frames.{itself}
use Rattle.mux_tables.proofs.Held.{first_toucher}
use Rattle.mux_tables.proofs.Starts.{start_at_place}
use Rattle.mux_turns.proofs.Departing.{mapped_on}
use Rattle.mux_turns.proofs.Keeping.{keeps_error}
use Rattle.mux_starts.specs.declared.held.Refusal.{Refusal}
use Rattle.mux_starts.specs.declared.held.Sending.{Sending}
use Rattle.mux_starts.specs.Held.{AreSent, IsIdle, IsRefused, IsSending, Passes, PassesOne, Shrinks}

-- No message of an editor is at work

sender_still : (settings : Settings) (s : ℕ) (events : List Event) (xs : List Out) → (forwarding_of settings s (behind events xs)).sender ≡ (forwarding_of settings s events).sender
sender_still settings s events [] = ap (λ es. (forwarding_of settings s es).sender) (append-nil events)
sender_still settings s events (x ∷ xs) = ap (λ es. (forwarding_of settings s es).sender) (behind_more events (x ∷ []) xs)
    ∙ (sender_still settings s (events ++ said x ∷ []) xs ∙ (ap (λ (f : Forwarding). f.sender) (forwarding_more settings s events (said x)) ∙ one x))
  where
    one : (x : Out) → (forwarding_next settings s events (forwarding_of settings s events) (said x)).sender ≡ (forwarding_of settings s events).sender
    one (ToServer n body) = forwards_sender (nat_eq n s) (first_sender settings s events) (forwarding_of settings s events) (message_of body)
    one (ToEditor n body) = refl
    one (Spawn n g) = refl
    one (CloseEditor n) = refl
    one (EndServer n) = refl

pub idle_start : (settings : Settings) (before : List Event) (s n : ℕ) (body : List ℕ) → IsIdle settings s (with_cause before (FromServer n body))
idle_start settings before s n body = record {
  worker = one_more worker_behind _ _ before (heard (FromServer n body)) refl;
  sender = ap (λ (f : Forwarding). f.sender) (forwarding_more settings s before (heard (FromServer n body)));
}

-- What waits once the first went

head_of : (r : Request) (rs : List Request) → slice_get rs 0 ≡ Some r → rs ≡ r ∷ drop 1 rs
head_of r [] h = absurd (cc)
head_of r (q ∷ rs) h = ap (λ w. w ∷ rs) (same_item h)

dropped : (g : ℕ) (old new : Rows) → Becomes g (drop 1) old new → held_of g new ≡ drop 1 (held_of g old)
dropped g old new is = is g ∙ ap (λ b. if b then drop 1 (held_of g old) else held_of g old) (itself g)

went : (settings : Settings) (g : ℕ) (t u : Tables) (before after : List Event) (r : Request) → Stands settings t before → Stands settings u after → Becomes g (drop 1) t.origins.waiting u.origins.waiting → slice_get (waiting_of settings g before) 0 ≡ Some r
    → waiting_of settings g before ≡ r ∷ waiting_of settings g after
went settings g t u before after r st later is first = head_of r (waiting_of settings g before) first
    ∙ ap (λ rs. r ∷ rs) (ap (drop 1) (sym (st.waiting g).same) ∙ (sym (dropped g t.origins.waiting u.origins.waiting is) ∙ (later.waiting g).same))

shorter : (rs : List Request) → 0 < length rs → length (drop 1 rs) < length rs
shorter [] h = absurd (omega (arith, h))
shorter (r ∷ rs) h = omega arith

pub shrinks : (g : ℕ) (old new : Rows) → Becomes g (drop 1) old new → 0 < length (held_of g old) → Shrinks g true old new
shrinks g old new is some = subst (λ rs. length rs < length (held_of g old)) (sym (dropped g old new is)) (shorter (held_of g old) some)

pub none_waits : (settings : Settings) (g : ℕ) (t : Tables) (events : List Event) (o : Option Request) → o ≡ None → o ≡ slice_get (waiting_of settings g events) 0 → waiting_of settings g events ≡ []
none_waits settings g t events o none is = go (waiting_of settings g events) (sym none ∙ is)
  where
    go : (rs : List Request) → ◌≡◌ {A = Option Request} None (slice_get rs 0) → rs ≡ []
    go [] h = refl
    go (r ∷ rs) h = absurd (cc)

pub some_held : (rs : List Request) (r : Request) → Some r ≡ slice_get rs 0 → 0 < length rs
some_held [] r h = absurd (cc)
some_held (q ∷ rs) r h = omega arith

-- It goes behind a sync, under the next number

module _ (settings : Settings) (t : Tables) (base : List Event) (s i g n : ℕ) (x : Start) (r : Request) (w : Sending) (xs : List Out) (here : slice_get t.lasts.items i ≡ Some x) (number : slice_get (map number_in t.lasts.items) i ≡ Some s) (own : x.life.group ≡ g) (ready : x.life.stage ≡ Ready)
    (next : n ≡ x.ids.next) (left : x.ids.next < x.ids.limit) (idle : IsIdle settings s base) (first : slice_get (waiting_of settings g (behind base xs)) 0 ≡ Some r) (is : IsSending n r w) (st : Stands settings t (behind base xs)) (ds : DocumentsStand settings nothing_owed t (behind base xs)) where
  abbrev now : List Event
  now = behind base xs

  held : IsHeld settings g now r
  held = first_held settings t.origins.waiting g now r st.waiting first

  start : x.life.start ≡ s
  start = start_at_place t.lasts.items i s x here number

  home : group_of s now ≡ Some g
  home = ap (λ m. group_of m now) (sym start) ∙ ((st.lasts.each i x here).home ∙ ap (λ h. Some h) own)

  first_is : first_waiting settings s now ≡ Some r
  first_is = ap (option_and_then (λ h. slice_get (waiting_of settings h now) 0)) home ∙ first

  worker : worker_of now ≡ None
  worker = worker_stays base xs ∙ idle.worker

  abbrev asked : ℕ → List ℕ → Option (List ℕ) → Option (List ℕ) → Option Sender
  asked e id work partial = Some (record { editor = e; id = id; work = work; partial = partial })

  sender : Sends settings s w.editor w.id w.work w.partial now
  sender = ap (λ o. sender_or o (first_sender settings s now)) (sender_still settings s base xs ∙ idle.sender)
      ∙ (ap (option_and_then sender_waiting) first_is ∙ (ap (sender_of r.editor r.body) held.says
      ∙ (ap₂ (λ e id. asked e id (token_in (codes "workDoneToken") r.body) (token_in (codes "partialResultToken") r.body)) (sym is.editor) (sym held.bytes ∙ sym is.id)
      ∙ ap₂ (λ a b. asked w.editor w.id a b) (sym is.work) (sym is.partial))))

  bound : n < 2 ^ 32
  bound =
      let ends = ((st.lasts.each i x here).parts of_ids).ends in
      let range = st.range in
      omega (arith, next, left, ends, range)

  text_says : (new : Option Json) × (message_of w.text ≡ request (integer (decimal n)) held.method new)
  text_says = let new = forwarded_says n r.body held.name held.method held.params (omega (arith, bound)) held.says in (new.0, ap message_of is.text ∙ new.1)

  abbrev bodies : List (List ℕ)
  bodies = syncing settings now g s r.editor

  -- the number is still the next one behind the sync
  next_told : (forwarding_of settings s (behind now (to s bodies))).next ≡ n
  next_told =
      let d = documents_at settings nothing_owed t now i x here ds in
      let goes = text_says.1 in
      let silent : saying_of (message_of w.text) ≡ nothing = ap saying_of goes in
      let goes_behind : is_synced (message_of w.text) ≡ true = ap is_synced goes ∙ ap not held.other in
      let touches = first_toucher settings x.life.start r.editor now w.text held.method (integer (decimal n)) text_says.0 r goes worker (subst (λ m. first_waiting settings m now ≡ Some r) (sym start) first_is) refl in
      let row = row_bodies settings t now i r.editor x d.0 w.text here d.1 ready silent goes_behind touches st ds in
      let speak : AllTell (syncing settings now x.life.group x.life.start r.editor) = subst AllTell (sym row) (tell settings t now i r.editor x d.0 w.text here d.1 ready silent goes_behind touches st ds) in
      let later = stands_told settings t i x here (syncing settings now x.life.group x.life.start r.editor) now speak st in
      let told : (forwarding_of settings s (behind now (to s (syncing settings now x.life.group s r.editor)))).next ≡ x.ids.next = subst (λ m. (forwarding_of settings m (behind now (to m (syncing settings now x.life.group m r.editor)))).next ≡ x.ids.next) start ((later.lasts.each i x here).parts of_ids).next in
      ap (λ h. (forwarding_of settings s (behind now (to s (syncing settings now h s r.editor)))).next) (sym own) ∙ (told ∙ sym next)

  same_outs : outs (look (λ es. to_start s (syncing settings es x.life.group s w.editor) ⨾ send (ToServer s w.text))) now ≡ outs (sync_row settings now g s r.editor ⨾ forward settings s r.body) now
  same_outs = ap₂ (λ h e. outs (to_start s (syncing settings now h s e) ⨾ send (ToServer s w.text)) now) own is.editor
      ∙ ap (λ text. outs (to_start s bodies) now ++ ToServer s text ∷ []) (is.text ∙ ap (λ m. forwarded_text m r.body) (sym (ap (λ zs. (forwarding_of settings s (behind now zs)).next) (outs_to_start s bodies now) ∙ next_told)))

  pub sends_one : (u : Tables) (ys : List Out) → Becomes x.life.group (drop 1) t.origins.waiting u.origins.waiting → (Stands settings t now → has_room settings s now ≡ true)
      → ((name : Id) (method : List ℕ) (ps : Option Json) → message_of w.text ≡ request name method ps → is_own method ≡ false → worker_of now ≡ None → first_waiting settings s now ≡ Some r → r.editor ≡ w.editor → Sends settings s w.editor w.id w.work w.partial now
      → Does (λ k events. AllStand settings k events) (look (λ es. to_start s (syncing settings es x.life.group s w.editor) ⨾ send (ToServer s w.text))) base (t, nothing_owed) xs (u, nothing_owed) ys)
      → PassesOne settings base g s t xs u ys
  sends_one u ys drops room goes =
      let d = goes (integer (decimal n)) held.method text_says.0 text_says.1 held.other worker first_is (sym is.editor) sender in
      let one = d.done (st, ds) in
      let row : Does (λ k events. AllStand settings k events) (sync_row settings now g s r.editor ⨾ forward settings s r.body) base (t, nothing_owed) xs (u, nothing_owed) ys = record {
        done = λ k. let one = d.done k in record { outs = one.outs ∙ ap (λ ws. xs ++ ws) same_outs; stands = one.stands };
      } in
      record {
        request = r;
        was = went settings g t u now (behind base ys) r st one.stands.0 (subst (λ h. Becomes h (drop 1) t.origins.waiting u.origins.waiting) own drops) first;
        does = does_look (λ k. ap (λ b. choose b (sync_row settings now g s r.editor ⨾ forward settings s r.body) (refuse_waiting r)) (room k.0)) (does_true row);
      }

-- Or it is refused

pub refuses_one : (settings : Settings) (t u : Tables) (base : List Event) (s g : ℕ) (w : Refusal) (xs ys : List Out) → IsRefused settings g (behind base xs) w → Becomes g (drop 1) t.origins.waiting u.origins.waiting → (Stands settings t (behind base xs) → has_room settings s (behind base xs) ≡ false)
    → ((r : Request) → slice_get (waiting_of settings g (behind base xs)) 0 ≡ Some r → r.editor ≡ w.editor → Keeps w.editor w.body (behind base xs) → AnswersId r.id w.body → Does (λ t events. Stands settings t events) (send (ToEditor w.editor w.body)) base t xs u ys)
    → (DocumentsStand settings nothing_owed t (behind base xs) → DocumentsStand settings nothing_owed u (behind base ys)) → AllStand settings (t, nothing_owed) (behind base xs) → PassesOne settings base g s t xs u ys
refuses_one settings t u base s g w xs ys is drops room goes docs k =
    let now = behind base xs in
    let r = is.request in
    let held = first_held settings t.origins.waiting g now r k.0.waiting is.first in
    let text = held_text settings g now r held in
    let says : message_of w.body ≡ error (Some held.name) (error_tree request_failed) = ap message_of is.body ∙ error_law (Some held.name) r.id request_failed (id_as_response held.name r.id text) in
    let d = goes r is.first (sym is.editor) (keeps_error w.editor w.body now (Some held.name) (error_tree request_failed) says) (record { name = held.name; is = text; says = ap answered_id says }) in
    let all = all_does settings t u nothing_owed nothing_owed base xs ys d (λ _ ds. docs ds) in
    let row = subst (λ e. Does (λ k events. AllStand settings k events) (send (ToEditor e (error_text r.id request_failed))) base (t, nothing_owed) xs (u, nothing_owed) ys) is.editor
    (subst (λ b. Does (λ k events. AllStand settings k events) (send (ToEditor w.editor b)) base (t, nothing_owed) xs (u, nothing_owed) ys) is.body all) in
    record {
      request = r;
      was = went settings g t u now (behind base ys) r k.0 (all.done k).stands.0 drops is.first;
      does = does_look (λ m. ap (λ b. choose b (sync_row settings now g s r.editor ⨾ forward settings s r.body) (refuse_waiting r)) (room m.0)) (does_false row);
    }

-- One after the other

after_alike : {p q r s : Row} → Alike p r → Alike q s → Alike (p ⨾ q) (r ⨾ s)
after_alike {p} {q} {r} {s} d e = record { sends = λ events. ap₂ (λ xs ys. xs ++ ys) (d.sends events) (e.sends (behind events (outs p events)) ∙ ap (λ xs. outs s (behind events xs)) (d.sends events)) }

joined : {p q r : Row} → Alike (p ⨾ (q ⨾ r)) ((p ⨾ q) ⨾ r)
joined {p} {q} {r} = record {
  sends = λ events.
      let xs = outs p events in
      let ys = outs q (behind events xs) in
      sym (append_assoc xs ys (outs r (behind events (xs ++ ys))) ∙ ap (λ es. xs ++ (ys ++ outs r es)) (behind_more events xs ys));
}

each_more : {A : Type 0} (row : A → Row) (items : List A) (a : A) → Alike (each row (items ++ a ∷ [])) (each row items ⨾ row a)
each_more row [] a = record { sends = λ events. append-nil (outs (row a) events) ∙ ap (outs (row a)) (sym (append-nil events)) }
each_more row (x ∷ items) a = alike_then (after_alike (alike {r = row x} refl) (each_more row items a)) joined

module _ (settings : Settings) (base : List Event) (g s : ℕ) where
  pub sent_none : (t : Tables) (xs : List Out) → AreSent settings base g s true t xs t xs
  sent_none t xs k = (record { sent = []; was = refl; does = does_nothing }, λ over. never over)

  pub sent_more : (more was : Bool) (t u v : Tables) (xs ys zs : List Out) → AreSent settings base g s was t xs u ys → Passes settings base g s more u ys v zs → AreSent settings base g s more t xs v zs
  sent_more true was t u v xs ys zs h p k =
      let some = (h k).0 in
      let one = p (some.does.done k).stands in (
        record {
          sent = some.sent ++ one.request ∷ [];
          was = some.was ∙ (ap (λ rs. some.sent ++ rs) one.was ∙ sym (append_assoc some.sent (one.request ∷ []) (waiting_of settings g (behind base zs))));
          does = does_alike (λ _. each_more (send_waiting settings g s) some.sent one.request) (does_then some.does one.does);
        },
        λ over. never over,
      )
  sent_more false was t u v xs ys zs h p k =
      let some = (h k).0 in
      let none = p (some.does.done k).stands.0 in
      let there = ap (λ os. waiting_of settings g (behind base os)) none.1.1 in (
        record {
          sent = some.sent;
          was = some.was ∙ ap (λ rs. some.sent ++ rs) (sym there);
          does = subst (λ os. Does (λ k events. AllStand settings k events) (each (send_waiting settings g s) some.sent) base (t, nothing_owed) xs (v, nothing_owed) os) (sym none.1.1)
              (subst (λ (q : Tables). Does (λ k events. AllStand settings k events) (each (send_waiting settings g s) some.sent) base (t, nothing_owed) xs (q, nothing_owed) ys) (sym none.1.0) some.does);
        },
        λ over. there ∙ none.0,
      )

  pub all_sent : (more : Bool) (t u : Tables) (xs ys : List Out) → more ≡ false → AreSent settings base g s more t xs u ys → Does (λ k events. AllStand settings k events) (send_held settings s g) base (t, nothing_owed) xs (u, nothing_owed) ys
  all_sent more t u xs ys over h = does_knowing (λ k.
      let some = (h k).0 in
      let all : waiting_of settings g (behind base xs) ≡ some.sent = some.was ∙ (ap (λ rs. some.sent ++ rs) ((h k).1 over) ∙ append-nil some.sent) in
      does_look (λ _. ap (each (send_waiting settings g s)) all) some.does)

-- what is left to do
abbrev pub to_do : Bool → ℕ → ℕ
to_do true n = n + 1
to_do false n = n

pub fewer : (more : Bool) (g : ℕ) (old new : Rows) → Shrinks g more old new → to_do more (length (held_of g new)) < to_do true (length (held_of g old))
fewer true g old new h = omega (arith, h)
fewer false g old new h = subst (λ rows. length (held_of g rows) < length (held_of g old) + 1) (sym h) (omega arith)

-- Whether a number is left

pub room_left : (a b r : Bool) → r ≡ (a && b) → r ≡ true → b ≡ true
room_left a b r is h = (and_parts a b (sym is ∙ h)).1

pub room_gone : (a b r : Bool) → r ≡ (a && b) → r ≡ false → a ≡ true → b ≡ false
room_gone true b r is off h = sym is ∙ off
room_gone false b r is off h = never (sym h)

-- Where starts stand

length_map : {A B : Type 0} (f : A → B) (xs : List A) → length (map f xs) ≡ length xs
length_map f [] = refl
length_map f (x ∷ xs) = ap (λ n. suc n) (length_map f xs)

pub inside_still : {A : Type 0} (f : Start → A) (i : ℕ) (ts us : List Start) → map f us ≡ map f ts → i < length ts → i < length us
inside_still f i ts us same h = subst (λ n. i < n) (sym (length_map f ts) ∙ (ap length (sym same) ∙ length_map f us)) h

pub kept_as : {A : Type 0} (f : Start → A) (v : A) (i : ℕ) (ts us : List Start) → map f us ≡ map f ts → i < length ts → ((x : Start) → slice_get ts i ≡ Some x → f x ≡ v) → (x : Start) → slice_get us i ≡ Some x → f x ≡ v
kept_as f v i ts us same l h x here =
    let z = item_at ts i l in
    same_item (sym (mapped_on f us i x here) ∙ (ap (λ ns. slice_get ns i) same ∙ mapped_on f ts i z.0 z.1)) ∙ h z.0 z.1

-- the start is ready
pub ready_here : (settings : Settings) (t : Tables) (i s : ℕ) (events : List Event) (x : Start) → slice_get t.lasts.items i ≡ Some x → slice_get (map number_in t.lasts.items) i ≡ Some s → x.life.stage ≡ Ready → Stands settings t events → is_ready (life_of s events).stage ≡ true
ready_here settings t i s events x here at ready st = ap (λ n. is_ready (life_of n events).stage) (sym (start_at_place t.lasts.items i s x here at))
    ∙ (ap (λ (l : Life). is_ready l.stage) ((st.lasts.each i x here).parts of_life) ∙ ap is_ready ready)
