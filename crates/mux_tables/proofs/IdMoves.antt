-- The open requests of a start, when it is sent a request or a cancel, when it answers, and when its program ends.
use Rattle.std.proofs.Common.{◌≡◌, ℕ, ◌+◌, ◌≤◌, ◌<◌, ◌^◌, List, [], ◌∷◌, ◌++◌, map, refl, ap, sym, subst, ◌∙◌, Bool, true, false, cond, not, arith, nat_eq, codes, bytes_eq}
use Rattle.std.specs.Prelude.{Option, Some, None, option_map, filter, find}
use Rattle.std.proofs.lemmas.Bool.Decides.{nat_tests}
use Rattle.std.proofs.lemmas.List.{map-append}
use Rattle.json_text.specs.Json.{Json}
use Rattle.mux_history.specs.declared.cause.Cause.TheVariants.{FromServer, StartFailed, ServerGone}
use Rattle.mux_history.specs.declared.out.Out.TheVariants.{ToServer}
use Rattle.rpc_message.specs.Message.{Message, request, notification, Id}
use Rattle.event_model.specs.Event.{Event, took, did}
use Rattle.event_model.specs.Requests.{answered_id, is_own}
use Rattle.event_model.specs.Members.{named_of}
use Rattle.event_model.specs.Settings.{Settings}
use Rattle.id_rewrite.specs.declared.pending.Pending.{Pending}
use Rattle.id_rewrite.specs.declared.pending.Numbered.{Numbered}
use Rattle.id_rewrite.specs.Tables as tables
use Rattle.id_rewrite.specs.Tables.{Table, IsInOrder, RiseWithin}
use Rattle.group_laws.specs.group_rows.specs.Forwarded.{Sender, Forwarded, Forwarding, first_sender, forwarding_next, forwarding_of, answered_by, cancelled_by, is_written, is_under, is_of, numbers_of, sender_or}
use Rattle.group_laws.specs.group_rows.proofs.Frames.{forwarding_more}
use Rattle.mux_tables.specs.Stands.{IdsAt, IdsStand, Names, NamesAt, forwarded_of, forwarded_as}
use Rattle.mux_tables.proofs.Frames.{itself}

-- the words of the history over kept requests are those of the table
module _ {A B : Type 0} (f : A → B) (p : B → Bool) where
  pub filter_mapped : (xs : List A) → filter p (map f xs) ≡ map f (filter (λ x. p (f x)) xs)
  filter_mapped [] = refl
  filter_mapped (x ∷ xs) = go (p (f x)) (filter_mapped xs)
    where
      go : (b : Bool) → filter p (map f xs) ≡ map f (filter (λ x. p (f x)) xs) → cond b (f x ∷ filter p (map f xs)) (filter p (map f xs)) ≡ map f (cond b (x ∷ filter (λ x. p (f x)) xs) (filter (λ x. p (f x)) xs))
      go true e = ap (λ ys. f x ∷ ys) e
      go false e = e

-- in a table the numbers are below the next one
pub rise_from : (from to : ℕ) (rs : List Numbered) → RiseWithin from to rs → from ≤ to
rise_from from to [] h = h
rise_from from to (r ∷ rs) h = let k = rise_from (r.number + 1) to rs h.1 in let l = h.0 in omega arith

module _ (p q : Numbered → Bool) (to : ℕ) (same : (r : Numbered) → r.number < to → p r ≡ q r) where
  filter_below : (from : ℕ) (rs : List Numbered) → RiseWithin from to rs → filter p rs ≡ filter q rs
  filter_below from [] h = refl
  filter_below from (r ∷ rs) h =
      let k = rise_from (r.number + 1) to rs h.1 in
      go (p r) (q r) (same r (omega arith)) (filter_below (r.number + 1) rs h.1)
    where
      go : (a b : Bool) → a ≡ b → filter p rs ≡ filter q rs → cond a (r ∷ filter p rs) (filter p rs) ≡ cond b (r ∷ filter q rs) (filter q rs)
      go true true e h = ap (λ ys. r ∷ ys) h
      go false false e h = h
      go true false e h = cc
      go false true e h = cc

module _ (f g : Numbered → Forwarded) (to : ℕ) (same : (r : Numbered) → r.number < to → f r ≡ g r) where
  map_below : (from : ℕ) (rs : List Numbered) → RiseWithin from to rs → map f rs ≡ map g rs
  map_below from [] h = refl
  map_below from (r ∷ rs) h =
      let k = rise_from (r.number + 1) to rs h.1 in
      ap (λ x. x ∷ map f rs) (same r (omega arith)) ∙ ap (λ ys. g r ∷ ys) (map_below (r.number + 1) rs h.1)

-- who asks now has this number
abbrev pub sent_as : Sender → ℕ → Forwarded
sent_as a k = record { number = k; editor = a.editor; id = a.id; work = a.work; partial = a.partial; cancelled = false }

-- one event more, by what it does to the word's value
pub ids_more : (settings : Settings) (limit s : ℕ) (t u : Table) (events : List Event) (ev : Event) → (IdsAt limit (forwarding_of settings s events) t → IdsAt limit (forwarding_next settings s events (forwarding_of settings s events) ev) u) → IdsStand settings limit s t events → IdsStand settings limit s u (events ++ ev ∷ [])
ids_more settings limit s t u events ev go i = subst (λ a. IdsAt limit a u) (sym (forwarding_more settings s events ev)) (go i)

pub sent_ids : (settings : Settings) (before : List Event) (limit s : ℕ) (t u : Table) (x : Forwarding) (body method : List ℕ) (m : Message) (id : Id) (ps : Option Json) (r : Numbered) (a : Sender) → m ≡ request id method ps → is_own method ≡ false → sender_or x.sender (first_sender settings s before) ≡ Some a → forwarded_of r ≡ sent_as a t.next
    → u.requests ≡ t.requests ++ r ∷ [] → u.next ≡ t.next + 1 → u.limit ≡ t.limit → IsInOrder u → IdsAt limit x t → IdsAt limit (forwarding_next settings s before x (did (ToServer s body) m)) u
sent_ids settings before limit s t u x body method m id ps r a says own asks is put next same order i = rw (itself s, says, own) (record {
  next = ap (λ n. n + 1) i.next ∙ sym next;
  open_requests = rw (asks, i.next, i.open_requests) (ap (λ x. map forwarded_of t.requests ++ x ∷ []) (sym is) ∙ (sym (map-append forwarded_of t.requests (r ∷ [])) ∙ ap (map forwarded_of) (sym put)));
  ends = same ∙ i.ends;
  order = order;
})

below_limit : (limit : ℕ) (t : Table) (n : ℕ) → limit < 2 ^ 32 → t.limit ≡ limit → IsInOrder t → n < t.next → n < 2 ^ 32
below_limit limit t n h e o l = let k = o.within in omega (arith, e)

pub answered_ids : (settings : Settings) (before : List Event) (limit s : ℕ) (t u : Table) (x : Forwarding) (body : List ℕ) (m : Message) (k : ℕ) → limit < 2 ^ 32 → Names (answered_id m) k → u.requests ≡ tables.without k t.requests → u.next ≡ t.next → u.limit ≡ t.limit → IsInOrder u → IsInOrder t
    → IdsAt limit x t → IdsAt limit (forwarding_next settings s before x (took (FromServer s body) m)) u
answered_ids settings before limit s t u x body m k h named taken next same order was i = rw (itself s) (record {
  next = i.next ∙ sym next;
  open_requests = ap (filter (λ f. not (answered_by (answered_id m) f))) i.open_requests ∙ (filter_mapped forwarded_of (λ f. not (answered_by (answered_id m) f)) t.requests
      ∙ (ap (map forwarded_of) (filter_below (λ r. not (answered_by (answered_id m) (forwarded_of r))) (λ r. not (tables.has_number k r)) t.next (λ r l. ap not (named r.number (below_limit limit t r.number h i.ends was l))) 2 t.requests was.rising)
      ∙ ap (map forwarded_of) (sym taken)));
  ends = same ∙ i.ends;
  order = order;
})

filter_all : (rs : List Numbered) → filter (λ r. true) rs ≡ rs
filter_all [] = refl
filter_all (r ∷ rs) = ap (λ ys. r ∷ ys) (filter_all rs)

pub unanswered_ids : (settings : Settings) (before : List Event) (limit s : ℕ) (t : Table) (x : Forwarding) (body : List ℕ) (m : Message) → limit < 2 ^ 32 → NamesAt (answered_id m) None → IdsAt limit x t → IdsAt limit (forwarding_next settings s before x (took (FromServer s body) m)) t
unanswered_ids settings before limit s t x body m h named i = rw (itself s) (record {
  next = i.next;
  open_requests = ap (filter (λ f. not (answered_by (answered_id m) f))) i.open_requests ∙ (filter_mapped forwarded_of (λ f. not (answered_by (answered_id m) f)) t.requests
      ∙ ap (map forwarded_of) (filter_below (λ r. not (answered_by (answered_id m) (forwarded_of r))) (λ r. true) t.next (λ r l. ap not (named r.number (below_limit limit t r.number h i.ends i.order l))) 2 t.requests i.order.rising ∙ filter_all t.requests));
  ends = i.ends;
  order = i.order;
})

-- the number that a cancel writes
abbrev pub Writes : Option Json → ℕ → Type 0
Writes id k = (n : ℕ) → n < 2 ^ 32 → is_written id n ≡ nat_eq n k

marked : (k : ℕ) (r : Numbered) (b : Bool) → nat_eq r.number k ≡ b → cond b (record { number = r.number; editor = r.pending.editor; id = r.pending.id; work = r.pending.work; partial = r.pending.partial; cancelled = true }) (forwarded_of r) ≡ forwarded_of (cond b (tables.cancelled r) r)
marked k r true e = refl
marked k r false e = refl

map_map : (f : Numbered → Numbered) (rs : List Numbered) → map (λ r. forwarded_of (f r)) rs ≡ map forwarded_of (map f rs)
map_map f [] = refl
map_map f (r ∷ rs) = ap (λ ys. forwarded_of (f r) ∷ ys) (map_map f rs)

map_both : (g : Forwarded → Forwarded) (rs : List Numbered) → map g (map forwarded_of rs) ≡ map (λ r. g (forwarded_of r)) rs
map_both g [] = refl
map_both g (r ∷ rs) = ap (λ ys. g (forwarded_of r) ∷ ys) (map_both g rs)

pub cancelled_ids : (settings : Settings) (before : List Event) (limit s : ℕ) (t u : Table) (x : Forwarding) (body method : List ℕ) (m : Message) (ps : Option Json) (k : ℕ) → limit < 2 ^ 32 → m ≡ notification method ps → bytes_eq method (codes "$/cancelRequest") ≡ true → Writes (named_of (codes "id") ps) k
    → u.requests ≡ tables.with_cancelled k t.requests → u.next ≡ t.next → u.limit ≡ t.limit → IsInOrder u → IdsAt limit x t → IdsAt limit (forwarding_next settings s before x (did (ToServer s body) m)) u
cancelled_ids settings before limit s t u x body method m ps k h says cancels written is next same order i = rw (itself s, says, cancels) (record {
  next = i.next ∙ sym next;
  open_requests = ap (map (cancelled_by (named_of (codes "id") ps))) i.open_requests ∙ (map_both (cancelled_by (named_of (codes "id") ps)) t.requests
      ∙ (map_below (λ r. cancelled_by (named_of (codes "id") ps) (forwarded_of r)) (λ r. forwarded_of (cond (tables.has_number k r) (tables.cancelled r) r)) t.next one 2 t.requests i.order.rising
      ∙ (map_map (λ r. cond (tables.has_number k r) (tables.cancelled r) r) t.requests ∙ ap (map forwarded_of) (sym is))));
  ends = same ∙ i.ends;
  order = order;
})
  where
    one : (r : Numbered) → r.number < t.next → cancelled_by (named_of (codes "id") ps) (forwarded_of r) ≡ forwarded_of (cond (tables.has_number k r) (tables.cancelled r) r)
    one r l = ap (λ b. cond b (record { number = r.number; editor = r.pending.editor; id = r.pending.id; work = r.pending.work; partial = r.pending.partial; cancelled = true }) (forwarded_of r)) (written r.number (below_limit limit t r.number h i.ends i.order l)) ∙ marked k r (nat_eq r.number k) refl

-- the program of the start ended
abbrev pub Emptied : ℕ → Table → Type 0
Emptied limit u = (u.requests ≡ []) × (u.next ≡ 2) × (u.limit ≡ limit) × IsInOrder u

pub ended_ids : (settings : Settings) (before : List Event) (limit s : ℕ) (u : Table) (x : Forwarding) (m : Message) → Emptied limit u → IdsAt limit (forwarding_next settings s before x (took (ServerGone s) m)) u
ended_ids settings before limit s u x m e = rw (itself s) (record { next = sym e.1; open_requests = ap (map forwarded_of) (sym e.0); ends = e.2; order = e.3 })

pub failed_ids : (settings : Settings) (before : List Event) (limit s : ℕ) (u : Table) (x : Forwarding) (m : Message) → Emptied limit u → IdsAt limit (forwarding_next settings s before x (took (StartFailed s) m)) u
failed_ids settings before limit s u x m e = rw (itself s) (record { next = sym e.1; open_requests = ap (map forwarded_of) (sym e.0); ends = e.2; order = e.3 })

-- what the table tells of an open request
pub unmarked : (k : ℕ) (rs : List Numbered) → tables.pending_of k rs ≡ None → tables.with_cancelled k rs ≡ rs
unmarked k [] h = refl
unmarked k (r ∷ rs) h = go (nat_eq r.number k) h (unmarked k rs)
  where
    go : (b : Bool) → option_map (λ (q : Numbered). q.pending) (cond b (Some r) (find (tables.has_number k) rs)) ≡ None → (tables.pending_of k rs ≡ None → tables.with_cancelled k rs ≡ rs) → cond b (tables.cancelled r) r ∷ tables.with_cancelled k rs ≡ r ∷ rs
    go true h rest = let z : ◌≡◌ {A = Option Pending} (Some r.pending) None = h in absurd (clash z)
      where
        clash : ◌≡◌ {A = Option Pending} (Some r.pending) None → ⊥
        clash z = cc
    go false h rest = ap (λ qs. r ∷ qs) (rest h)

found_under : (k : ℕ) (rs : List Numbered) → find (is_under k) (map forwarded_of rs) ≡ option_map (forwarded_as k) (tables.pending_of k rs)
found_under k [] = refl
found_under k (r ∷ rs) = go (nat_eq r.number k) refl (found_under k rs)
  where
    go : (b : Bool) → nat_eq r.number k ≡ b → find (is_under k) (map forwarded_of rs) ≡ option_map (forwarded_as k) (tables.pending_of k rs)
        → cond b (Some (forwarded_of r)) (find (is_under k) (map forwarded_of rs)) ≡ option_map (forwarded_as k) (option_map (λ (q : Numbered). q.pending) (cond b (Some r) (find (tables.has_number k) rs)))
    go true h rest = let e : r.number ≡ k = grind (arith, nat_tests) in ap (λ n. Some (forwarded_of (record { number = n; pending = r.pending }))) e
    go false h rest = rest

pub found_seen : (settings : Settings) (limit s : ℕ) (t : Table) (events : List Event) (k : ℕ) (o : Option Pending) → o ≡ tables.pending_of k t.requests → IdsStand settings limit s t events → find (is_under k) (forwarding_of settings s events).open_requests ≡ option_map (forwarded_as k) o
found_seen settings limit s t events k o is i = ap (find (is_under k)) i.open_requests ∙ (found_under k t.requests ∙ ap (option_map (forwarded_as k)) (sym is))

pub numbers_mapped : (e : ℕ) (rs : List Numbered) → numbers_of e (map forwarded_of rs) ≡ tables.numbers_of e rs
numbers_mapped e rs = ap (map (λ (f : Forwarded). f.number)) (filter_mapped forwarded_of (is_of e) rs) ∙ maps (filter (tables.is_of e) rs)
  where
    maps : (qs : List Numbered) → map (λ (f : Forwarded). f.number) (map forwarded_of qs) ≡ map (λ (r : Numbered). r.number) qs
    maps [] = refl
    maps (q ∷ qs) = ap (λ ns. q.number ∷ ns) (maps qs)
