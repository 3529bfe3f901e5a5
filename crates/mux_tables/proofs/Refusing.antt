-- L1: the asks of an editor that leaves are refused, one after the other.
use Rattle.std.proofs.Common.{◌≡◌, ℕ, zero, suc, ◌+◌, ◌<◌, ◌≤◌, take, get_or, Bool, true, false, not, cond, List, [], ◌∷◌, ◌++◌, filter, map, length, refl, ap, sym, subst, ◌∙◌, nat_eq, append-nil, append_assoc, arith, codes}
use Rattle.std.specs.Prelude.{Some, slice_get, slice_set}
use Rattle.std.specs.List.{AllByRecursion}
use Rattle.std.proofs.lemmas.List.{length-set, map-append, take_more}
use Rattle.std.proofs.lemmas.Option.{slice_get_within}
use Rattle.ask_route.specs.declared.ask.Ask as route
use Rattle.ask_route.specs.Tables as asks
use Rattle.mux_history.specs.declared.out.Out.{Out}
use Rattle.mux_history.specs.declared.out.Out.TheVariants.{ToServer}
use Rattle.rpc_message.specs.Message.{Id, error, message_of}
use Rattle.rpc_message.specs.Texts.{error_text, error_tree, request_failed}
use Rattle.rpc_message.proofs.Fixed.{error_law, id_as_response}
use Rattle.event_model.specs.declared.stage.Stage.{Stage}
use Rattle.event_model.specs.declared.stage.Stage.TheVariants.{Ready}
use Rattle.event_model.specs.Does.{Does}
use Rattle.event_model.specs.Event.{Event, behind, requests, said}
use Rattle.event_model.specs.Requests.{answered_id}
use Rattle.event_model.specs.Row.{each, nothing, send}
use Rattle.event_model.specs.Settings.{Settings}
use Rattle.event_model.proofs.Places.{get_set_same}
use Rattle.event_model.proofs.Turns.{behind_more, does_then}
use Rattle.group_laws.specs.group_rows.specs.Asks.{Ask, Asking, Parked, asking_of, asks_of, is_under, is_with, parked_of, waits_under}
use Rattle.group_laws.specs.group_rows.specs.Forwarded.{moves_ids}
use Rattle.document_model.specs.Sayings.{nothing as no_saying, saying_of}
use Rattle.group_laws.specs.group_rows.specs.Texts.{is_synced}
use Rattle.mux_tables.specs.declared.tables.Start.{Start}
use Rattle.mux_tables.specs.declared.tables.Tables.{Tables}
use Rattle.mux_tables.specs.Documents.{DocumentsStand, Owed}
use Rattle.mux_tables.specs.Refusals.{of_editor, refusal, refusals}
use Rattle.mux_tables.specs.Stands.{AreApart, AsksAt, AsksStand, HasText, IsFree, Part, of_life, of_ids, of_shown, of_stop, of_asks, of_parked, of_live, of_lists, ParkedAt, ParkedStand, PartStands, Stands, kept_ask}
use Rattle.mux_tables.proofs.Apart.{all_filter, less_apart, one_less, stand_filter}
use Rattle.mux_tables.proofs.Asking.{asking_more, asks_later, none_gone, told_asking}
use Rattle.mux_tables.proofs.Awaited.{told_stops}
use Rattle.mux_tables.proofs.DocumentEvents.{shared_notified}
use Rattle.mux_tables.proofs.DocumentFrames.{sent_at}
use Rattle.mux_tables.proofs.DocumentMoves.{Rest, documents_all, documents_last}
use Rattle.mux_tables.proofs.DocumentOwed.{number_there}
use Rattle.mux_tables.proofs.DocumentSaid.{rest_notified}
use Rattle.mux_tables.proofs.Frames.{itself, part_quiet}
use Rattle.mux_tables.proofs.IdMoves.{filter_mapped}
use Rattle.mux_tables.proofs.Seated.{set_set}
use Rattle.mux_tables.proofs.Sent.{not_passed, same_set, sent_does, told_on}
use Rattle.mux_tables.proofs.Starts.{read_back}
use Rattle.mux_tables.proofs.Waiting.{parked_fewer, ready_parked, under_none}

-- an answer under the id of an ask ends it
handed_asking : (settings : Settings) (s : ℕ) (events : List Event) (body : List ℕ) (id : Id) → answered_id (message_of body) ≡ Some id → asking_of settings s (events ++ said (ToServer s body) ∷ []) ≡ told_asking (Some id) (asking_of settings s events) true
handed_asking settings s events body id is = asking_more settings s events (said (ToServer s body))
    ∙ (ap (told_asking (answered_id (message_of body)) (asking_of settings s events)) (itself s)
    ∙ ap (λ o. told_asking o (asking_of settings s events) true) is)

handed : (settings : Settings) (s : ℕ) (events : List Event) (body : List ℕ) (id : Id) → answered_id (message_of body) ≡ Some id → asks_of settings s (events ++ said (ToServer s body) ∷ []) ≡ filter (λ a. not (is_under (Some id) a)) (asks_of settings s events)
handed settings s events body id is = ap (λ (x : Asking). x.asks) (handed_asking settings s events body id is)

handed_parked : (settings : Settings) (s : ℕ) (events : List Event) (body : List ℕ) (id : Id) → answered_id (message_of body) ≡ Some id → AllByRecursion (λ (p : Parked). waits_under (Some id) p ≡ false) (parked_of settings s events)
    → parked_of settings s (events ++ said (ToServer s body) ∷ []) ≡ parked_of settings s events
handed_parked settings s events body id is none = ap (λ (x : Asking). x.parked) (handed_asking settings s events body id is) ∙ none_gone (waits_under (Some id)) (parked_of settings s events) none

-- the asks of a start that is ready
pub ready_asks : (stage : Stage) (events : List Event) (qs : List Ask) (kept : List route.Ask) → stage ≡ Ready → AsksAt stage events qs kept → AsksStand events qs kept
ready_asks stage events qs kept is s = subst (λ k. AsksAt k events qs kept) is s

-- the answer is said
module _ (settings : Settings) (t u : Tables) (base : List Event) (xs ys : List Out) (g : ℕ) (z : Start) (kept : List route.Ask) (text : List ℕ) (id : Id) (at : slice_get t.lasts.items g ≡ Some z) (ready : z.life.stage ≡ Ready)
    (runs : requests (codes "shutdown") (message_of text) ≡ false) (counts : moves_ids (message_of text) ≡ false) (is : answered_id (message_of text) ≡ Some id)
    (set : u.lasts.items ≡ slice_set t.lasts.items g (record z { asks = kept })) (es : u.editors ≡ t.editors) (gs : u.groups ≡ t.groups) (now : u.course ≡ t.course) (os : u.origins ≡ t.origins) (r : u.requests ≡ t.requests) (said_so : ys ≡ xs ++ ToServer z.life.start text ∷ []) where
  abbrev y : Start
  y = record z { asks = kept }

  abbrev ev : Event
  ev = said (ToServer z.life.start text)

  abbrev here : List Event
  here = behind base xs

  pub handed_does : (Stands settings t here → (kept ≡ map kept_ask (filter (λ a. not (is_under (Some id) a)) (asks_of settings z.life.start here))) × AllByRecursion (λ (p : Parked). waits_under (Some id) p ≡ false) (parked_of settings z.life.start here)) → Does (λ t events. Stands settings t events) (send (ToServer z.life.start text)) base t xs u ys
  handed_does keeps = sent_does settings t u xs ys base g z.life.start z.life.start z y text (number_there t.lasts.items g z at) (slice_get_within t.lasts.items g z at) (read_back t.lasts.items g z at) set refl refl es gs now (ap (λ v. v.groups) os) (ap (λ v. v.created) os) r refl said_so
      (λ st. told_stops t u here z.life.start text (ap (λ v. v.stopping) os) runs) (told_on settings t u here z.life.start text (ap (λ v. v.waiting) os) (not_passed (message_of text) counts)) (λ st p h. part (keeps st).0 (keeps st).1 p h)
    where
      stands : kept ≡ map kept_ask (filter (λ a. not (is_under (Some id) a)) (asks_of settings z.life.start here)) → AsksStand here (asks_of settings z.life.start here) z.asks → AsksStand (here ++ ev ∷ []) (asks_of settings z.life.start (here ++ ev ∷ [])) kept
      stands e s = subst (λ qs. AsksStand (here ++ ev ∷ []) qs kept) (sym (handed settings z.life.start here text id is))
          (subst (λ ks. AsksStand (here ++ ev ∷ []) (filter (λ a. not (is_under (Some id) a)) (asks_of settings z.life.start here)) ks) (sym e)
          (asks_later Ready here ev (filter (λ a. not (is_under (Some id) a)) (asks_of settings z.life.start here)) (map kept_ask (filter (λ a. not (is_under (Some id) a)) (asks_of settings z.life.start here)))
          (stand_filter here (λ a. not (is_under (Some id) a)) (asks_of settings z.life.start here) s.texts s.asked s.apart)))

      waits : AllByRecursion (λ (p : Parked). waits_under (Some id) p ≡ false) (parked_of settings z.life.start here) → ParkedStand (asks_of settings z.life.start here) (parked_of settings z.life.start here) z.parked
          → ParkedStand (asks_of settings z.life.start (here ++ ev ∷ [])) (parked_of settings z.life.start (here ++ ev ∷ [])) z.parked
      waits none s = subst (λ qs. ParkedStand qs (parked_of settings z.life.start (here ++ ev ∷ [])) z.parked) (sym (handed settings z.life.start here text id is))
          (subst (λ ps. ParkedStand (filter (λ a. not (is_under (Some id) a)) (asks_of settings z.life.start here)) ps z.parked) (sym (handed_parked settings z.life.start here text id is none))
          (parked_fewer Ready (λ a. not (is_under (Some id) a)) (asks_of settings z.life.start here) (parked_of settings z.life.start here) z.parked s))

      part : kept ≡ map kept_ask (filter (λ a. not (is_under (Some id) a)) (asks_of settings z.life.start here)) → AllByRecursion (λ (p : Parked). waits_under (Some id) p ≡ false) (parked_of settings z.life.start here) → (p : Part) → PartStands p settings t.requests z here → PartStands p settings t.requests y (here ++ ev ∷ [])
      part e none of_life h = part_quiet of_life settings t.requests z here ev runs h
      part e none of_ids h = part_quiet of_ids settings t.requests z here ev counts h
      part e none of_shown h = part_quiet of_shown settings t.requests z here ev refl h
      part e none of_stop h = part_quiet of_stop settings t.requests z here ev runs h
      part e none of_asks h = subst (λ k. AsksAt k (here ++ ev ∷ []) (asks_of settings z.life.start (here ++ ev ∷ [])) kept) (sym ready) (stands e (ready_asks z.life.stage here (asks_of settings z.life.start here) z.asks ready h))
      part e none of_parked h = subst (λ k. ParkedAt k (asks_of settings z.life.start (here ++ ev ∷ [])) (parked_of settings z.life.start (here ++ ev ∷ [])) z.parked) (sym ready)
          (waits none (ready_parked z.life.stage (asks_of settings z.life.start here) (parked_of settings z.life.start here) z.parked ready h))
      part e none of_live h = part_quiet of_live settings t.requests z here ev refl h
      part e none of_lists h = part_quiet of_lists settings t.requests z here ev refl h

-- the tables in which these are kept of a group's last start
abbrev pub keeping : Tables → ℕ → Start → List route.Ask → Tables
keeping t g z kept = record t { lasts = record t.lasts { items = slice_set t.lasts.items g (record z { asks = kept }); ok = (t.lasts.ok.0 ∙ sym (length-set t.lasts.items g (record z { asks = kept })), t.lasts.ok.1) } }

-- tables that agree
pub same_stands : (settings : Settings) (t u : Tables) (events : List Event) → u.lasts.items ≡ t.lasts.items → u.editors ≡ t.editors → u.groups ≡ t.groups → u.course ≡ t.course → u.origins ≡ t.origins → u.requests ≡ t.requests → Stands settings t events → Stands settings u events
same_stands settings t u events ls es gs now os r s = record {
  house = record { editors = rw es s.house.editors; groups = rw gs s.house.groups; now = rw now s.house.now; halted = rw now s.house.halted };
  origins = rw os s.origins;
  stopping = rw os s.stopping;
  created = rw os s.created;
  waiting = rw os s.waiting;
  lasts = rw (ls, r) s.lasts;
  requests = s.requests ∙ sym r;
  range = rw r s.range;
}

pub same_does : (settings : Settings) (base : List Event) (t u : Tables) (xs : List Out) → ((events : List Event) → Stands settings t events → Stands settings u events) → Does (λ t events. Stands settings t events) nothing base t xs u xs
same_does settings base t u xs go = record { done = λ s. record { outs = sym (append-nil xs); stands = go (behind base xs) s } }

-- the error that one gets
refused_says : (a : Ask) → HasText a → message_of (error_text a.bytes request_failed) ≡ error (Some a.id) (error_tree request_failed)
refused_says a h = error_law (Some a.id) a.bytes request_failed (id_as_response a.id a.bytes h)

-- what is sent, as the code loops
take_past : (xs : List route.Ask) (i : ℕ) → length xs ≤ i → take i xs ≡ xs
take_past [] zero h = refl
take_past [] (suc i) h = refl
take_past (x ∷ xs) zero h = absurd (omega arith)
take_past (x ∷ xs) (suc i) h = ap (λ ys. x ∷ ys) (take_past xs i (omega arith))

pub refusals_more : (s i : ℕ) (ks : List route.Ask) (k : route.Ask) (xs ys zs : List Out) (text : List ℕ) → i < length ks → k ≡ get_or ks i k → text ≡ error_text k.id request_failed → ys ≡ xs ++ refusals s (take i ks) → zs ≡ ys ++ ToServer s text ∷ []
    → zs ≡ xs ++ refusals s (take (i + 1) ks)
refusals_more s i ks k xs ys zs text low at is before next =
    next ∙ ap (λ ws. ws ++ ToServer s text ∷ []) before ∙ append_assoc xs (refusals s (take i ks)) (ToServer s text ∷ [])
    ∙ ap (λ ws. xs ++ ws) (ap (λ w. refusals s (take i ks) ++ ToServer s w ∷ []) is ∙ sym (ap (refusals s) (take_more ks i k low ∙ ap (λ q. take i ks ++ q ∷ []) (sym at)) ∙ map-append (λ (q : route.Ask). ToServer s (error_text q.id request_failed)) (take i ks) (k ∷ [])))

pub refusals_whole : (s i : ℕ) (ks : List route.Ask) (xs ys : List Out) → length ks ≤ i → ys ≡ xs ++ refusals s (take i ks) → ys ≡ xs ++ refusals s ks
refusals_whole s i ks xs ys past is = is ∙ ap (λ qs. xs ++ refusals s qs) (take_past ks i past)

module _ (settings : Settings) (t : Tables) (base : List Event) (g e : ℕ) (z : Start) (at : slice_get t.lasts.items g ≡ Some z) (ready : z.life.stage ≡ Ready) where
  abbrev s : ℕ
  s = z.life.start

  abbrev Rows : List Ask → Tables → List Out → Tables → List Out → Type 0
  Rows qs v xs u ys = Does (λ t events. Stands settings t events) (each (refusal s) (of_editor e (map kept_ask qs))) base v xs u ys

  -- the first of them goes
  next : (pre post : List Ask) (a : Ask) (v u : Tables) (xs ys : List Out) → v ≡ keeping t g z (map kept_ask (pre ++ a ∷ post)) → asks_of settings s (behind base xs) ≡ pre ++ a ∷ post → AreApart (pre ++ a ∷ post) → HasText a
      → (let mid = xs ++ ToServer s (error_text a.bytes request_failed) ∷ [] in asks_of settings s (behind base mid) ≡ pre ++ post → Rows post (keeping t g z (map kept_ask (pre ++ post))) mid u ys)
      → Does (λ t events. Stands settings t events) (each (refusal s) (kept_ask a ∷ of_editor e (map kept_ask post))) base v xs u ys
  next pre post a v u xs ys is all apart text go =
      let says = refused_says a text in
      let less = one_less a pre post apart in
      let w = keeping t g z (map kept_ask (pre ++ post)) in
      let out = ToServer s (error_text a.bytes request_failed) in
      let within = slice_get_within t.lasts.items g z at in
      let later : asks_of settings s (behind base (xs ++ out ∷ [])) ≡ pre ++ post = ap (asks_of settings s) (behind_more base xs (out ∷ [])) ∙ (handed settings s (behind base xs) (error_text a.bytes request_failed) a.id (ap answered_id says) ∙ (ap (filter (λ b. not (is_under (Some a.id) b))) all ∙ less)) in
      does_then (subst (λ q. Does (λ t events. Stands settings t events) (refusal s (kept_ask a)) base q xs w (xs ++ out ∷ [])) (sym is)
      (handed_does settings (keeping t g z (map kept_ask (pre ++ a ∷ post))) w base xs (xs ++ out ∷ []) g (record z { asks = map kept_ask (pre ++ a ∷ post) }) (map kept_ask (pre ++ post)) (error_text a.bytes request_failed) a.id (get_set_same t.lasts.items g _ within) ready
      (ap (requests (codes "shutdown")) says) (ap moves_ids says) (ap answered_id says) (sym (set_set t.lasts.items g _ _)) refl refl refl refl refl refl
      (λ st. (
        ap (map kept_ask) (sym (ap (filter (λ b. not (is_under (Some a.id) b))) all ∙ less)),
        under_none a pre post (parked_of settings s (behind base xs)) (subst (λ qs. AllByRecursion (IsFree qs) (parked_of settings s (behind base xs))) all
            (ready_parked z.life.stage (asks_of settings s (behind base xs)) (parked_of settings s (behind base xs)) z.parked ready
            ((st.lasts.each g (record z { asks = map kept_ask (pre ++ a ∷ post) }) (get_set_same t.lasts.items g _ within)).parts of_parked)).free),
      ))))
      (go later)

  -- one by one
  rest : (pre post : List Ask) (v u : Tables) (xs ys : List Out) → v ≡ keeping t g z (map kept_ask (pre ++ post)) → asks_of settings s (behind base xs) ≡ pre ++ post → AreApart (pre ++ post) → AllByRecursion HasText post
      → ((events : List Event) → Stands settings (keeping t g z (map kept_ask (pre ++ filter (λ a. not (is_with e a)) post))) events → Stands settings u events) → ys ≡ xs ++ refusals s (of_editor e (map kept_ask post)) → Rows post v xs u ys
  rest pre [] v u xs ys is all apart texts ends outs =
      subst (λ zs. Rows [] v xs u zs) (sym (outs ∙ append-nil xs)) (subst (λ q. Rows [] q xs u xs) (sym is) (same_does settings base (keeping t g z (map kept_ask (pre ++ []))) u xs ends))
  rest pre (a ∷ post) v u xs ys is all apart texts ends outs = go (nat_eq a.editor e) ends outs
      (λ later goes sends. rest pre post (keeping t g z (map kept_ask (pre ++ post))) u (xs ++ ToServer s (error_text a.bytes request_failed) ∷ []) ys refl later (less_apart a pre post apart) texts.1 goes sends)
      (λ goes sends. rest (pre ++ a ∷ []) post v u xs ys (is ∙ ap (λ qs. keeping t g z (map kept_ask qs)) (sym moved)) (all ∙ sym moved) (subst AreApart (sym moved) apart) texts.1 goes sends)
    where
      moved : (pre ++ a ∷ []) ++ post ≡ pre ++ a ∷ post
      moved = append_assoc pre (a ∷ []) post

      go : (b : Bool) → ((events : List Event) → Stands settings (keeping t g z (map kept_ask (pre ++ cond (not b) (a ∷ filter (λ a. not (is_with e a)) post) (filter (λ a. not (is_with e a)) post)))) events → Stands settings u events)
          → ys ≡ xs ++ refusals s (cond b (kept_ask a ∷ of_editor e (map kept_ask post)) (of_editor e (map kept_ask post)))
          → (asks_of settings s (behind base (xs ++ ToServer s (error_text a.bytes request_failed) ∷ [])) ≡ pre ++ post → ((events : List Event) → Stands settings (keeping t g z (map kept_ask (pre ++ filter (λ a. not (is_with e a)) post))) events → Stands settings u events)
          → ys ≡ (xs ++ ToServer s (error_text a.bytes request_failed) ∷ []) ++ refusals s (of_editor e (map kept_ask post)) → Rows post (keeping t g z (map kept_ask (pre ++ post))) (xs ++ ToServer s (error_text a.bytes request_failed) ∷ []) u ys)
          → (((events : List Event) → Stands settings (keeping t g z (map kept_ask ((pre ++ a ∷ []) ++ filter (λ a. not (is_with e a)) post))) events → Stands settings u events) → ys ≡ xs ++ refusals s (of_editor e (map kept_ask post)) → Rows post v xs u ys)
          → Does (λ t events. Stands settings t events) (each (refusal s) (cond b (kept_ask a ∷ of_editor e (map kept_ask post)) (of_editor e (map kept_ask post)))) base v xs u ys
      go true ends outs first second = next pre post a v u xs ys is all apart texts.0
          (λ later. first later ends (outs ∙ sym (append_assoc xs (ToServer s (error_text a.bytes request_failed) ∷ []) (refusals s (of_editor e (map kept_ask post))))))
      go false ends outs first second = second
          (λ events st. ends events (subst (λ qs. Stands settings (keeping t g z (map kept_ask qs)) events) (append_assoc pre (a ∷ []) (filter (λ a. not (is_with e a)) post)) st)) outs

  -- all of them
  pub refused_does : (u : Tables) (xs ys : List Out) → u.lasts.items ≡ slice_set t.lasts.items g (record z { asks = filter (λ k. not (asks.is_with (Some e) k)) z.asks }) → u.editors ≡ t.editors → u.groups ≡ t.groups → u.course ≡ t.course → u.origins ≡ t.origins → u.requests ≡ t.requests
      → ys ≡ xs ++ refusals s (of_editor e z.asks) → Does (λ t events. Stands settings t events) (each (refusal s) (of_editor e z.asks)) base t xs u ys
  refused_does u xs ys set es gs now os r outs = record {
    done = λ st.
        let qs = asks_of settings s (behind base xs) in
        let k = ready_asks z.life.stage (behind base xs) qs z.asks ready ((st.lasts.each g z at).parts of_asks) in
        let first : slice_set t.lasts.items g (record z { asks = map kept_ask qs }) ≡ t.lasts.items = ap (λ ks. slice_set t.lasts.items g (record z { asks = ks })) (sym k.same) ∙ same_set t.lasts.items g z at in
        let last : filter (λ q. not (asks.is_with (Some e) q)) z.asks ≡ map kept_ask (filter (λ a. not (is_with e a)) qs) = ap (filter (λ q. not (asks.is_with (Some e) q))) k.same ∙ filter_mapped kept_ask (λ q. not (asks.is_with (Some e) q)) qs in
        (subst (λ ks. Does (λ t events. Stands settings t events) (each (refusal s) (of_editor e ks)) base (keeping t g z (map kept_ask qs)) xs u ys) (sym k.same)
        (rest [] qs (keeping t g z (map kept_ask qs)) u xs ys refl refl k.apart k.texts
        (λ events. same_stands settings (keeping t g z (map kept_ask (filter (λ a. not (is_with e a)) qs))) u events (set ∙ ap (λ ks. slice_set t.lasts.items g (record z { asks = ks })) last) es gs now os r)
        (outs ∙ ap (λ ks. xs ++ refusals s (of_editor e ks)) k.same))).done
        (same_stands settings t (keeping t g z (map kept_ask qs)) (behind base xs) first refl refl refl refl refl st);
  }

-- the same, as the code has it
pub refused_by : (settings : Settings) (t u : Tables) (base : List Event) (g e : ℕ) (x z : Start) (kept left : List route.Ask) (start : ℕ) (xs ys : List Out) → z ≡ x → slice_get t.lasts.items g ≡ Some x → x.life.stage ≡ Ready → left ≡ of_editor e z.asks → kept ≡ filter (λ k. not (asks.is_with (Some e) k)) z.asks → start ≡ z.life.start
    → u.lasts.items ≡ slice_set t.lasts.items g (record z { asks = kept }) → u.editors ≡ t.editors → u.groups ≡ t.groups → u.course ≡ t.course → u.origins ≡ t.origins → u.requests ≡ t.requests → ys ≡ xs ++ refusals start left
    → Does (λ t events. Stands settings t events) (each (refusal x.life.start) (of_editor e x.asks)) base t xs u ys
refused_by settings t u base g e x z kept left start xs ys same at ready leaves stays own set es gs now os r outs =
    refused_does settings t base g e x at ready u xs ys
    (set ∙ ap (λ ks. slice_set t.lasts.items g (record z { asks = ks })) stays ∙ ap (λ (w : Start). slice_set t.lasts.items g (record w { asks = filter (λ k. not (asks.is_with (Some e) k)) w.asks })) same) es gs now os r
    (outs ∙ ap (λ n. xs ++ refusals n left) (own ∙ ap (λ (w : Start). w.life.start) same) ∙ ap (λ ks. xs ++ refusals x.life.start ks) (leaves ∙ ap (λ (w : Start). of_editor e w.asks) same))

-- The documents of the groups

pub rest_same : (settings : Settings) (t : Tables) (events : List Event) → Rest settings t events events
rest_same settings t events = record {
  texts = λ g l h. h;
  encoding = λ g l. refl;
  founds = λ g h. h;
  starts = λ n h. h;
  sent = λ n l. sent_at n events events refl;
  moments = λ g x n p at there. refl;
  left = λ e h. h;
}

module _ (settings : Settings) (owed : Owed) (t : Tables) (s : ℕ) where
  -- bodies that tell of none
  still_told : (qs : List Ask) (events : List Event) → AllByRecursion HasText qs → DocumentsStand settings owed t events → DocumentsStand settings owed t (behind events (refusals s (map kept_ask qs)))
  still_told [] events h ds = subst (λ es. DocumentsStand settings owed t es) (sym (append-nil events)) ds
  still_told (a ∷ qs) events h ds =
      let text = error_text a.bytes request_failed in
      let says = refused_says a h.0 in
      let silent : saying_of (message_of text) ≡ no_saying = ap saying_of says in
      let aside : is_synced (message_of text) ≡ false = ap is_synced says in
      subst (λ es. DocumentsStand settings owed t es) (append_assoc events (said (ToServer s text) ∷ []) (map said (refusals s (map kept_ask qs))))
      (still_told qs (events ++ said (ToServer s text) ∷ []) h.1 (documents_all settings owed owed t t events (events ++ said (ToServer s text) ∷ []) (rest_notified settings t events s text (message_of text) silent aside) refl refl refl
      (λ g x d at k. shared_notified settings events (owed x.life.group) x.life.group x.life.start x.life.stage d s text (message_of text) silent aside k) ds))

pub refused_documents : (settings : Settings) (owed : Owed) (t u : Tables) (base : List Event) (g e : ℕ) (x z : Start) (kept left : List route.Ask) (start : ℕ) (xs ys : List Out) → z ≡ x → slice_get t.lasts.items g ≡ Some x → x.life.stage ≡ Ready → left ≡ of_editor e z.asks → start ≡ z.life.start
    → u.lasts.items ≡ slice_set t.lasts.items g (record z { asks = kept }) → u.documents ≡ t.documents → u.versions ≡ t.versions → ys ≡ xs ++ refusals start left
    → Stands settings t (behind base xs) → DocumentsStand settings owed t (behind base xs) → DocumentsStand settings owed u (behind base ys)
refused_documents settings owed t u base g e x z kept left start xs ys same at ready leaves own set ds vs outs st docs =
    let now = behind base xs in
    let qs = asks_of settings x.life.start now in
    let k = ready_asks x.life.stage now qs x.asks ready ((st.lasts.each g x at).parts of_asks) in
    let there : slice_get t.lasts.items g ≡ Some z = at ∙ ap Some (sym same) in
    let those : left ≡ map kept_ask (filter (is_with e) qs) = leaves ∙ ap (λ (w : Start). of_editor e w.asks) same ∙ ap (of_editor e) k.same ∙ filter_mapped kept_ask (asks.is_with (Some e)) qs in
    let told = still_told settings owed t start (filter (is_with e) qs) now (all_filter HasText (is_with e) qs k.texts) docs in
    let later : behind base ys ≡ behind now (refusals start (map kept_ask (filter (is_with e) qs))) = ap (behind base) (outs ∙ ap (λ ks. xs ++ refusals start ks) those) ∙ behind_more base xs (refusals start (map kept_ask (filter (is_with e) qs))) in
    subst (λ es. DocumentsStand settings owed u es) (sym later)
    (documents_last settings owed owed t u (behind now (refusals start (map kept_ask (filter (is_with e) qs)))) (behind now (refusals start (map kept_ask (filter (is_with e) qs))))
    (rest_same settings t (behind now (refusals start (map kept_ask (filter (is_with e) qs))))) vs g z (record z { asks = kept }) there set (ap (λ v. v.items) ds) (λ n. n) (λ d h. h) (λ j w c away has h. h) told)
