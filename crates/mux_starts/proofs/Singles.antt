-- S9, S11 and S12: a request of a start that editors are asked.
use Rattle.std.proofs.Common.{◌≡◌, ℕ, Bool, true, false, ◌&&◌, ◌||◌, cond, List, [], ◌∷◌, ◌++◌, filter, map, nat_eq, if◌then◌else◌, refl, ap, sym, subst, ◌∙◌, arith, codes}
use Rattle.std.specs.Prelude.{Option, Some, None, IfSome, option_map, slice_get}
use Rattle.std.specs.List.{All, AllByRecursion, Contains, last_or, list_any}
use Rattle.std.proofs.lemmas.Bool.{and_parts}
use Rattle.std.proofs.lemmas.Bool.Decides.{nat_tests}
use Rattle.json_text.specs.Json.{Json}
use Rattle.mux_history.specs.declared.cause.Cause.TheVariants.{FromServer}
use Rattle.mux_history.specs.declared.out.Out.{Out}
use Rattle.rpc_message.specs.Message.{Id, id_bytes, message_of, request, result}
use Rattle.rpc_message.specs.Texts.{Code, error_text, ok_text, request_failed}
use Rattle.rpc_message.specs.ValueTexts.{IsResponseIdText}
use Rattle.rpc_message.proofs.Fixed.{id_as_response, ok_law}
use Rattle.rpc_message.proofs.Ids.{request_id_bytes}
use Rattle.document_model.specs.Sayings.{nothing as no_saying, saying_of}
use Rattle.event_model.specs.declared.stage.Stage.TheVariants.{Ready}
use Rattle.event_model.specs.Event.{Event, behind, heard, requests, with_cause}
use Rattle.event_model.specs.Requests.{answered_id}
use Rattle.event_model.specs.Phases.{desk_of, is_running}
use Rattle.event_model.specs.Settings.{Settings}
use Rattle.event_model.proofs.Frames.{never}
use Rattle.mux_turns.specs.group_facts.specs.Facts.{IsWritten}
use Rattle.group_rows.specs.AskRows.{else_first, in_focus, is_among, last_among}
use Rattle.group_rows.specs.Asks.{Ask, Asker, Asking, Parked, asker_of, asking_of, asks_of, first_in, idle_asking, is_single, is_taken, is_under, parked_of, parks, running_in, waits_under}
use Rattle.group_rows.specs.Forwarded.{Forwarded, moves_ids}
use Rattle.group_rows.specs.Texts.{is_synced}
use Rattle.group_words.specs.declared.kept.Kept.{Kept}
use Rattle.group_words.specs.Rows.{folders_text}
use Rattle.mux_tables.specs.declared.tables.Start.{Start}
use Rattle.mux_tables.specs.declared.tables.Tables.{Tables}
use Rattle.mux_tables.specs.Puts.{IsAtWork}
use Rattle.mux_tables.specs.Stands.{IsAtRest, ParkedStay, number_in, stage_in}
use Rattle.mux_tables.proofs.Asking.{asking_more, parked_more}
use Rattle.mux_tables.proofs.Frames.{itself}
use Rattle.mux_tables.proofs.Starts.{start_at_place}
use Rattle.mux_tables.proofs.Waiting.{none_any, none_either}
use Rattle.response_route.specs.Asked.{not_applied, refusal_tree}
use Rattle.response_route.proofs.Asking.{refusal_result}
use Rattle.mux_starts.proofs.Answering.{desk_still}
use Rattle.mux_turns.proofs.Departing.{behind_first, mapped_is, mapped_on}
use Rattle.mux_turns.proofs.Keeping.{null_says, null_tree, refused_says}
use Rattle.mux_turns.proofs.Ready.{start_from}

-- the first of a list
pub first_there : (xs : List ℕ) → slice_get xs 0 ≡ first_in xs
first_there [] = refl
first_there (x ∷ xs) = refl

module _ (P : ℕ → Type 0) where
  pub first_has : (xs : List ℕ) (e : ℕ) → AllByRecursion P xs → first_in xs ≡ Some e → P e
  first_has [] e all is = absurd (cc)
  first_has (x ∷ xs) e all is = let same : x ≡ e = cc in subst P same all.0

  pub first_within : (xs : List ℕ) (e : ℕ) → All P xs → first_in xs ≡ Some e → P e
  first_within [] e all is = absurd (cc)
  first_within (x ∷ xs) e all is = let same : x ≡ e = cc in subst P same (all 0 0 (omega arith))

  -- one of them
  pub any_has : (n : ℕ) (xs : List ℕ) → AllByRecursion P xs → list_any (nat_eq n) xs ≡ true → P n
  any_has n [] all h = never (sym h)
  any_has n (x ∷ xs) all h = go (nat_eq n x) refl h (λ k. any_has n xs all.1 k)
    where
      go : (b : Bool) → nat_eq n x ≡ b → (b || list_any (nat_eq n) xs) ≡ true → (list_any (nat_eq n) xs ≡ true → P n) → P n
      go true is k rest = let same : x ≡ n = grind (arith, nat_tests) in subst P same all.0
      go false is k rest = rest k

  last_has : (es : List ℕ) (o : Option Forwarded) (fs : List Forwarded) (e : ℕ) → AllByRecursion P es → ((f : Forwarded) → o ≡ Some f → P f.editor) → option_map (λ (f : Forwarded). f.editor) (last_or o (filter (is_among es) fs)) ≡ Some e → P e
  last_has es None [] e all before is = absurd (cc)
  last_has es (Some f) [] e all before is = let same : f.editor ≡ e = cc in subst P same (before f refl)
  last_has es o (f ∷ fs) e all before is = go (is_among es f) refl is (λ k. last_has es o fs e all before k) (λ there k. last_has es (Some f) fs e all (λ g same. let own : f ≡ g = cc in subst (λ (h : Forwarded). P h.editor) own (any_has f.editor es all there)) k)
    where
      go : (b : Bool) → is_among es f ≡ b → option_map (λ (f : Forwarded). f.editor) (last_or o (cond b (f ∷ filter (is_among es) fs) (filter (is_among es) fs))) ≡ Some e
          → (option_map (λ (f : Forwarded). f.editor) (last_or o (filter (is_among es) fs)) ≡ Some e → P e)
          → (is_among es f ≡ true → option_map (λ (f : Forwarded). f.editor) (last_or (Some f) (filter (is_among es) fs)) ≡ Some e → P e) → P e
      go true is k without with_it = with_it is k
      go false is k without with_it = without k

  pub focus_has : (es : List ℕ) (fs : List Forwarded) (e : ℕ) → AllByRecursion P es → in_focus es fs ≡ Some e → P e
  focus_has es fs e all is = go (last_among es fs) refl is
    where
      go : (o : Option ℕ) → last_among es fs ≡ o → else_first o es ≡ Some e → P e
      go None h k = first_has es e all k
      go (Some n) h k = let same : n ≡ e = cc in last_has es None fs e all (λ f none. absurd (cc)) (h ∙ ap (λ m. Some m) same)

pub first_some : (P : ℕ → Type 0) (xs : List ℕ) (o : Option ℕ) → All P xs → o ≡ first_in xs → IfSome o P
first_some P xs None all is = tt
first_some P xs (Some e) all is = first_within P xs e all (sym is)

pub contains_within : (P : ℕ → Type 0) (xs : List ℕ) (e : ℕ) → All P xs → (ys : List ℕ) → ys ≡ xs → Contains ys e → P e
contains_within P xs e all ys same has = let k = subst (λ zs. Contains zs e) same has in subst P k.2 (all k.0 e k.1)

-- what is in focus, by what was found
pub focus_is : (es : List ℕ) (fs : List Forwarded) (o : Option ℕ) (e : ℕ) → o ≡ Some e → o ≡ last_among es fs → ◌≡◌ {A = Option ℕ} (Some e) (in_focus es fs)
focus_is es fs o e is found = ap (λ q. else_first q es) (sym is ∙ found)

pub focus_none : (es : List ℕ) (fs : List Forwarded) (o : Option ℕ) → o ≡ None → o ≡ last_among es fs → first_in es ≡ in_focus es fs
focus_none es fs o is found = ap (λ q. else_first q es) (sym is ∙ found)

-- the editors that run do
filter_has : (test : ℕ → Bool) (other : ℕ → Bool) (xs : List ℕ) → AllByRecursion (λ e. test e ≡ true) (filter (λ e. test e && other e) xs)
filter_has test other [] = tt
filter_has test other (x ∷ xs) = go (test x && other x) refl (filter_has test other xs)
  where
    go : (b : Bool) → (test x && other x) ≡ b → AllByRecursion (λ e. test e ≡ true) (filter (λ e. test e && other e) xs) → AllByRecursion (λ e. test e ≡ true) (cond b (x ∷ filter (λ e. test e && other e) xs) (filter (λ e. test e && other e) xs))
    go true is rest = ((and_parts (test x) (other x) is).0, rest)
    go false is rest = rest

pub all_running : (settings : Settings) (g : ℕ) (events : List Event) → AllByRecursion (λ e. is_running (desk_of e events).phase ≡ true) (running_in settings g events)
all_running settings g events = filter_has (λ e. is_running (desk_of e events).phase) _ _

-- The last start of a group, where its number and its stage stay

pub record Still (u : Tables) (g s : ℕ) : Type 0 where
  pub start : Start
  pub at : slice_get u.lasts.items g ≡ Some start
  pub own : start.life.start ≡ s
  pub ready : start.life.stage ≡ Ready

pub still : (t u : Tables) (g s : ℕ) (x : Start) → slice_get t.lasts.items g ≡ Some x → slice_get (map number_in t.lasts.items) g ≡ Some s → x.life.stage ≡ Ready → map number_in u.lasts.items ≡ map number_in t.lasts.items → map stage_in u.lasts.items ≡ map stage_in t.lasts.items → Still u g s
still t u g s x here at ready numbers stages =
    let there = ap (λ ns. slice_get ns g) numbers ∙ at in
    let y = start_from u.lasts.items g s there in
    record {
      start = y.0;
      at = y.1;
      own = start_at_place u.lasts.items g s y.0 y.1 there;
      ready = mapped_is stage_in u.lasts.items g y.0 Ready y.1 (ap (λ ns. slice_get ns g) stages ∙ mapped_on stage_in t.lasts.items g x here ∙ ap Some ready);
    }

-- Behind the request nothing is sent yet

module _ (settings : Settings) (before : List Event) (s : ℕ) (body : List ℕ) (xs : List Out) (first : xs ≡ []) where
  abbrev now : List Event
  now = behind (with_cause before (FromServer s body)) xs

  -- who ran runs
  pub runs_here : (e : ℕ) → is_running (desk_of e before).phase ≡ true → is_running (desk_of e now).phase ≡ true
  runs_here e runs = ap is_running (desk_still before s body xs e first) ∙ runs

  -- what a start asks behind it, by whether it is this one
  abbrev heard_asking : ℕ → Asking → Bool → Asking
  heard_asking n x b = if b then record { asker = asker_of body (message_of body); runs = None; asks = x.asks; parked = x.parked ++ parks settings n before x body (message_of body) } else idle_asking x

  heard_here : (n : ℕ) → asking_of settings n now ≡ heard_asking n (asking_of settings n before) (nat_eq s n)
  heard_here n = ap (asking_of settings n) (behind_first (with_cause before (FromServer s body)) xs first) ∙ asking_more settings n before (heard (FromServer s body))

  asks_if : (n : ℕ) (x : Asking) (b : Bool) → (heard_asking n x b).asks ≡ x.asks
  asks_if n x true = refl
  asks_if n x false = refl

  runs_if : (n : ℕ) (x : Asking) (b : Bool) → (heard_asking n x b).runs ≡ None
  runs_if n x true = refl
  runs_if n x false = refl

  asker_if : (n : ℕ) (x : Asking) (b : Bool) → (heard_asking n x b).asker ≡ (if b then asker_of body (message_of body) else None)
  asker_if n x true = refl
  asker_if n x false = refl

  asks_here : asks_of settings s now ≡ asks_of settings s before
  asks_here = ap (λ (x : Asking). x.asks) (heard_here s) ∙ asks_if s (asking_of settings s before) (nat_eq s s)

  -- where nothing comes to wait by it, an id is open no more than before
  pub fresh_here : (id : Id) → ParkedStay settings s before (heard (FromServer s body)) → is_taken (Some id) (asking_of settings s before) ≡ false → is_taken (Some id) (asking_of settings s now) ≡ false
  fresh_here id stay fresh =
      let parked : parked_of settings s now ≡ parked_of settings s before = ap (parked_of settings s) (behind_first (with_cause before (FromServer s body)) xs first) ∙ parked_more settings s before (heard (FromServer s body)) stay in
      ap (λ qs. list_any (is_under (Some id)) qs || list_any (waits_under (Some id)) (parked_of settings s now)) asks_here
      ∙ (ap (λ ps. list_any (is_under (Some id)) (asks_of settings s before) || list_any (waits_under (Some id)) ps) parked ∙ fresh)

  runs_none : (n : ℕ) → (asking_of settings n now).runs ≡ None
  runs_none n = ap (λ (x : Asking). x.runs) (heard_here n) ∙ runs_if n (asking_of settings n before) (nat_eq s n)

  module _ (method : List ℕ) (id : Id) (params : Option Json) (says : message_of body ≡ request id method params) where
    abbrev own : Asker
    own = record { id = id; bytes = id_bytes body }

    asker_is : (n : ℕ) → (asking_of settings n now).asker ≡ (if nat_eq s n then (if is_single method then Some own else None) else None)
    asker_is n = ap (λ (x : Asking). x.asker) (heard_here n) ∙ (asker_if n (asking_of settings n before) (nat_eq s n) ∙ ap (λ m. if nat_eq s n then asker_of body m else None) says)

    -- its answers end here
    pub rests_all : is_single method ≡ false → (n : ℕ) → IsAtRest settings n now
    rests_all many n = record { asker = asker_is n ∙ (ap (λ b. if nat_eq s n then (if b then Some own else None) else None) many ∙ off (nat_eq s n)); runs = runs_none n }
      where
        off : (b : Bool) → ◌≡◌ {A = Option Asker} (if b then None else None) None
        off true = refl
        off false = refl

-- one editor is to answer it, and no other that is open has its id
pub puts_one : (settings : Settings) (before : List Event) (s : ℕ) (body method : List ℕ) (id : Id) (params : Option Json) (xs : List Out) → xs ≡ [] → message_of body ≡ request id method params → is_single method ≡ true → ParkedStay settings s before (heard (FromServer s body)) → is_taken (Some id) (asking_of settings s before) ≡ false → (t : ℕ) → t ≡ s
    → IsAtWork settings t id (id_bytes body) (behind (with_cause before (FromServer s body)) xs)
puts_one settings before s body method id params xs first says one stay fresh t same = subst (λ n. IsAtWork settings n id (id_bytes body) (behind (with_cause before (FromServer s body)) xs)) (sym same) (record {
  text = request_id_bytes body id method params says;
  asker = asker_is settings before s body xs first method id params says s ∙ (ap (λ b. if b then (if is_single method then Some (record { id = id; bytes = id_bytes body }) else None) else None) (itself s) ∙ ap (λ b. if b then Some (record { id = id; bytes = id_bytes body }) else None) one);
  others = λ n away. record {
    asker = asker_is settings before s body xs first method id params says n ∙ ap (λ b. if b then (if is_single method then Some (record { id = id; bytes = id_bytes body }) else None) else None) away;
    runs = runs_none settings before s body xs first n;
  };
  fresh = fresh_here settings before s body xs first id stay fresh;
})

-- An answer to the start, under the id of none of its asks

pub record AnswersOne (text : List ℕ) (id : Id) : Type 0 where
  pub runs : requests (codes "shutdown") (message_of text) ≡ false
  pub counts : moves_ids (message_of text) ≡ false
  pub says : saying_of (message_of text) ≡ no_saying
  pub aside : is_synced (message_of text) ≡ false
  pub answers : answered_id (message_of text) ≡ Some id

pub results_one : (text : List ℕ) (id : Id) (v : Json) → message_of text ≡ result (Some id) v → AnswersOne text id
results_one text id v e = record { runs = ap (requests (codes "shutdown")) e; counts = ap moves_ids e; says = ap saying_of e; aside = ap is_synced e; answers = ap answered_id e }

module _ (text body method : List ℕ) (id : Id) (params : Option Json) (says : message_of body ≡ request id method params) where
  pub refuses_as : (code : Code) → text ≡ error_text (id_bytes body) code → AnswersOne text id
  refuses_as code is =
      let e = refused_says text body (id_bytes body) method id params code is refl says in
      record { runs = ap (requests (codes "shutdown")) e; counts = ap moves_ids e; says = ap saying_of e; aside = ap is_synced e; answers = ap answered_id e }

  pub refuses_one : text ≡ error_text (id_bytes body) request_failed → AnswersOne text id
  refuses_one is = refuses_as request_failed is

  pub grants_one : text ≡ ok_text (id_bytes body) (codes "null") → AnswersOne text id
  grants_one is = results_one text id null_tree (ap message_of is ∙ null_says body id method params says)

  -- S10
  pub lists_one : (x : Kept) → IsWritten x → text ≡ ok_text (id_bytes body) (folders_text x.key.folders) → AnswersOne text id
  lists_one x k is = results_one text id k.folders (ap message_of is ∙ ok_law (Some id) k.folders (id_bytes body) (folders_text x.key.folders) own (k.listed).text (k.listed).shallow)
    where
      own : IsResponseIdText (Some id) (id_bytes body)
      own = id_as_response id (id_bytes body) (request_id_bytes body id method params says)

  -- V3
  pub declines_one : text ≡ ok_text (id_bytes body) not_applied → AnswersOne text id
  declines_one is = results_one text id refusal_tree (ap message_of is ∙ refusal_result (Some id) (id_bytes body) (id_as_response id (id_bytes body) (request_id_bytes body id method params says)))

-- nothing that is open has its id
pub record NoneUnder (text : List ℕ) (x : Asking) : Type 0 where
  pub asks : AllByRecursion (λ (a : Ask). is_under (answered_id (message_of text)) a ≡ false) x.asks
  pub parked : AllByRecursion (λ (p : Parked). waits_under (answered_id (message_of text)) p ≡ false) x.parked

pub none_under : (text : List ℕ) (id : Id) (x : Asking) → answered_id (message_of text) ≡ Some id → is_taken (Some id) x ≡ false → NoneUnder text x
none_under text id x is fresh =
    let k = none_either (list_any (is_under (Some id)) x.asks) (list_any (waits_under (Some id)) x.parked) fresh in
    record {
      asks = subst (λ o. AllByRecursion (λ (a : Ask). is_under o a ≡ false) x.asks) (sym is) (none_any (is_under (Some id)) x.asks k.0);
      parked = subst (λ o. AllByRecursion (λ (p : Parked). waits_under o p ≡ false) x.parked) (sym is) (none_any (waits_under (Some id)) x.parked k.1);
    }
