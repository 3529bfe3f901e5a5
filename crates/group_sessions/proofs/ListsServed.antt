-- Which lists an editor's own message brings it: as it begins to run, and as it opens a document.
use Rattle.std.proofs.Common.{◌≡◌, ℕ, ◌^◌, ◌<◌, Bool, true, false, List, [], ◌∷◌, ◌++◌, append-nil, bytes_eq, codes, decimal, find, flat_map, if◌then◌else◌, ltb-true, Option, Some, None, ◌⊎◌, inl, inr, refl, sym, ◌∙◌, ap, ap₂, subst, arith}
use Rattle.std.specs.List.{AllByRecursion}
use Rattle.std.specs.Option.{option_and_then, option_map_or}
use Rattle.std.proofs.lemmas.Slice.Eq.{bytes_eq-Decides}
use Rattle.json_text.specs.Json.{Json}
use Rattle.document_model.specs.Sayings.{Saying, changes, closes, misshapen, opens, saying_by, saying_of}
use Rattle.document_model.specs.Sayings as saying
use Rattle.mux_history.specs.declared.out.Out.{Out}
use Rattle.mux_history.specs.declared.out.Out.TheVariants.{ToEditor}
use Rattle.lsp_method.specs.Class.{class_of}
use Rattle.lsp_method.specs.declared.variants.Origin.TheVariants.{Editor}
use Rattle.rpc_message.specs.Message.{Id, Message, request, notification, result, error, not_json, not_message, id_bytes, integer, message_of}
use Rattle.rpc_message.specs.Texts.{Code, error_text, invalid_params, invalid_request, request_failed, with_id_text}
use Rattle.rpc_message.proofs.Decimals.{decimal_law}
use Rattle.rpc_message.proofs.Ids.{request_with_id}
use Rattle.event_model.specs.Event.{Event, behind}
use Rattle.event_model.specs.Phases.{desk_of, is_running, makes_running}
use Rattle.event_model.specs.Row.{choose, each, nothing, on, outs, send, ◌⨾◌}
use Rattle.event_model.specs.Settings.{Settings}
use Rattle.event_model.specs.Spawns.{start_of}
use Rattle.event_model.specs.Stages.{is_ready, life_of}
use Rattle.event_model.proofs.Frames.{never}
use Rattle.mux_model.specs.Documents.{held_at}
use Rattle.mux_model.specs.Methods.{goes_on}
use Rattle.mux_model.specs.Rows.{to_start}
use Rattle.mux_facts.proofs.Bodies.{refusal_says}
use Rattle.mux_facts.proofs.Keeps.{behind_both}
use Rattle.mux_facts.proofs.Reasons.{by_choose, by_look, by_nothing, by_on, by_send, by_then}
use Rattle.group_words.specs.Houses.{home_of}
use Rattle.group_rows.specs.diagnostics_route.specs.declared.last_list.LastList.{LastList}
use Rattle.group_rows.specs.diagnostics_route.specs.Rows.{is_of}
use Rattle.group_rows.specs.diagnostics_route.specs.Shown.{fits, shown_text}
use Rattle.group_rows.specs.AskRows.{ask, response_at, response_row, run_at, run_row}
use Rattle.group_rows.specs.Asks.{Ask, Parked, has_number, next_ask, parked_of}
use Rattle.group_rows.specs.Cancelling.{cancelling_at, cancelling_row}
use Rattle.group_rows.specs.Created.{Token, created_of}
use Rattle.group_rows.specs.CreatedRows.{create_text, created_work, offer, offer_all, work_at, work_row}
use Rattle.group_rows.specs.ListRows.{show_all, show_full, show_opened}
use Rattle.group_rows.specs.Lists.{agreement_at, lists_of, version_at}
use Rattle.group_rows.specs.Live.{live_of, register_text}
use Rattle.group_rows.specs.LiveRows.{restore}
use Rattle.group_rows.specs.Rows.{answer_error, closing_row, document_at, document_bodies, document_row, notice_at, notice_row, request_at, request_row, served_row, sync_bodies, wrong_code, cancel_row}
use Rattle.group_rows.specs.Texts.{encoding_of, texts_of}
use Rattle.group_rows.proofs.CreatedKept.{found_one}
use Rattle.group_rows.proofs.CreatedTexts.{create_says}
use Rattle.group_rows.proofs.Going.{going_silent}
use Rattle.group_rows.proofs.ListsKept.{IsList, lists_kept}
use Rattle.group_rows.proofs.LiveTexts.{live_written, register_says}
use Rattle.group_rows.proofs.Versions.{AllMeant}
use Rattle.group_facts.specs.Facts.{Asks, IsParked, AllHeld, IsHeld}
use Rattle.group_facts.specs.Why.{IsQuestion, has_method}
use Rattle.group_facts.proofs.Begun.{bodies_by}
use Rattle.group_facts.proofs.Same.{same_questions}
use Rattle.group_facts.proofs.Shown.{meant_behind, text_says}
use Rattle.group_facts.proofs.Still.{unended, unshut}
use Rattle.group_sessions.proofs.ListsNone.{Listless, Off, lists_join, off_lists, plain_out}
use Rattle.group_sessions.proofs.ListsShown.{all_full, own_full, same_due}
use Rattle.group_sessions.specs.LastLists.{at_start, due_opening, gives_list, lists_to, of_start, shown_full}
use Rattle.group_facts.proofs.Held.{named_held, cancelled_says}
use Rattle.group_rows.specs.Waiting.{cancelled_text}

-- What a ready start of e's group gives

module _ (settings : Settings) (e : ℕ) (before : List Event) where
  pub at_same : (f g : ℕ → List (List ℕ)) → ((s : ℕ) → f s ≡ g s) → at_start settings e before f ≡ at_start settings e before g
  at_same f g same = go (option_and_then (λ h. start_of h before) (home_of settings e before))
    where
      go : (o : Option ℕ) → of_start f before o ≡ of_start g before o
      go (Some s) = ap (λ xs. if is_ready (life_of s before).stage then xs else []) (same s)
      go None = refl

  pub at_join : (f g : ℕ → List (List ℕ)) → at_start settings e before f ++ at_start settings e before g ≡ at_start settings e before (λ s. f s ++ g s)
  at_join f g = go (option_and_then (λ h. start_of h before) (home_of settings e before))
    where
      ready : (b : Bool) (xs ys : List (List ℕ)) → (if b then xs else []) ++ (if b then ys else []) ≡ (if b then xs ++ ys else [])
      ready true xs ys = refl
      ready false xs ys = refl

      go : (o : Option ℕ) → of_start f before o ++ of_start g before o ≡ of_start (λ s. f s ++ g s) before o
      go (Some s) = ready (is_ready (life_of s before).stage) (f s) (g s)
      go None = refl

  pub at_none : at_start settings e before (λ s. []) ≡ []
  at_none = go (option_and_then (λ h. start_of h before) (home_of settings e before))
    where
      ready : (b : Bool) → ◌≡◌ {A = List (List ℕ)} (if b then [] else []) []
      ready true = refl
      ready false = refl

      go : (o : Option ℕ) → of_start (λ s. []) before o ≡ []
      go (Some s) = ready (is_ready (life_of s before).stage)
      go None = refl

-- L2

module _ (settings : Settings) (before : List Event) (meant : AllMeant before) (asks : Asks settings before) (e : ℕ) where
  small : (events : List Event) → has_number e events ≡ true → next_ask e events < 2 ^ 128
  small events room = let less : next_ask e events < 2 ^ 64 = ltb-true (next_ask e events) (2 ^ 64) room in omega (arith, less)

  restore_off : (s : ℕ) (events : List Event) → Off e events (restore settings before e s)
  restore_off s events = by_choose (λ some. by_look (by_choose (λ room. by_send (plain_out e e (register_text (live_of settings s before) (next_ask e events)) (ap gives_list (register_says (live_of settings s before) (live_written settings s before) (next_ask e events) (small events room)).1))) (λ none. by_nothing))) (λ none. by_nothing)

  offers_off : (s : ℕ) (ts : List Token) (events : List Event) → Off e events (each (offer s e) ts)
  offers_off s [] events = by_nothing
  offers_off s (t ∷ ts) events = by_then (by_look (by_choose (λ room. by_send (plain_out e e (create_text s t.number (next_ask e events)) (ap gives_list (create_says s t.number (next_ask e events) (small events room))))) (λ none. by_nothing)))
      (offers_off s ts (behind events (outs (offer s e t) events)))

  parked_off : (s : ℕ) (ps : List Parked) (events : List Event) → AllByRecursion (IsParked s before) ps → Off e events (each (λ (p : Parked). ask p.body e) ps)
  parked_off s [] events known = by_nothing
  parked_off s (p ∷ ps) events known = by_then (by_look (by_choose (λ room. by_send (plain_out e e (with_id_text p.body (decimal (next_ask e events))) (ap gives_list (says room)))) (λ none. by_nothing)))
      (parked_off s ps (behind events (outs (ask p.body e) events)) known.1)
    where
      says : has_number e events ≡ true → message_of (with_id_text p.body (decimal (next_ask e events))) ≡ request (integer (decimal (next_ask e events))) (known.0).method (known.0).params
      says room = request_with_id p.body (decimal (next_ask e events)) p.id (integer (decimal (next_ask e events))) (known.0).method (known.0).params (known.0).says (decimal_law (next_ask e events) (ltb-true (next_ask e events) (2 ^ 64) room))

  abbrev pub full : ℕ → List (List ℕ)
  full s = flat_map (shown_full settings s e before) (lists_of s before)

  run_lists_at : (s : ℕ) (events : List Event) → lists_to e (outs (run_at settings before e s) events) ≡ (if is_ready (life_of s before).stage then full s else [])
  run_lists_at s events = go (is_ready (life_of s before).stage)
    where
      restored : List Out
      restored = outs (restore settings before e s) events

      mid : List Event
      mid = behind events restored

      offered : List Out
      offered = outs (offer_all settings before e s) mid

      later : List Event
      later = behind mid offered

      shown_there : List Out
      shown_there = outs (show_all settings before e s) later

      asked : List Out
      asked = outs (each (λ (p : Parked). ask p.body e) (parked_of settings s before)) (behind later shown_there)

      go : (b : Bool) → lists_to e (outs (choose b (restore settings before e s ⨾ (offer_all settings before e s ⨾ (show_all settings before e s ⨾ each (λ (p : Parked). ask p.body e) (parked_of settings s before)))) nothing) events) ≡ (if b then full s else [])
      go true = lists_join e restored (offered ++ (shown_there ++ asked))
          ∙ (ap (λ z. z ++ lists_to e (offered ++ (shown_there ++ asked))) (off_lists e events (restore settings before e s) (restore_off s events))
          ∙ (lists_join e offered (shown_there ++ asked)
          ∙ (ap (λ z. z ++ lists_to e (shown_there ++ asked)) (off_lists e mid (offer_all settings before e s) (offers_off s (created_of settings s before).tokens mid))
          ∙ (lists_join e shown_there asked
          ∙ (ap₂ (λ u v. u ++ v) (all_full settings before meant e s (lists_of s before) (lists_kept s before meant) later)
          (off_lists e (behind later shown_there) (each (λ (p : Parked). ask p.body e) (parked_of settings s before)) (parked_off s (parked_of settings s before) (behind later shown_there) (asks s).parked))
          ∙ append-nil (full s))))))
      go false = refl

  pub run_lists : (events : List Event) → lists_to e (outs (run_row settings before e) events) ≡ at_start settings e before full
  run_lists events = by_home (home_of settings e before)
    where
      by_start : (o : Option ℕ) → lists_to e (outs (on o nothing (run_at settings before e)) events) ≡ of_start full before o
      by_start (Some s) = run_lists_at s events
      by_start None = refl

      by_home : (o : Option ℕ) → lists_to e (outs (on o nothing (λ g. on (start_of g before) nothing (run_at settings before e))) events) ≡ of_start full before (option_and_then (λ g. start_of g before) o)
      by_home (Some g) = by_start (start_of g before)
      by_home None = refl

-- E12

module _ (settings : Settings) (before : List Event) (e : ℕ) (body : List ℕ) (u l v t : List ℕ) where
  abbrev it : Saying
  it = opens u l v t

  abbrev bodies : ℕ → ℕ → List (List ℕ)
  bodies g s = document_bodies settings.limits.versions (encoding_of g before) (texts_of settings g before) (λ w. held_at s w before) e body it

  bodies_off : (s : ℕ) (bs : List (List ℕ)) (events : List Event) → Off e events (to_start s bs)
  bodies_off s bs events = bodies_by (λ places out. Listless e out) (λ places n b. refl) s bs events

  module _ (events : List Event) (meant : AllMeant events) (s : ℕ) (bs : List (List ℕ)) where
    abbrev told : List Out
    told = outs (to_start s bs) events

    abbrev place : List Event
    place = behind events told

    place_meant : AllMeant place
    place_meant = meant_behind events told meant

    kept : (k : LastList) → find (is_of u) (lists_of s place) ≡ Some k → IsList k
    kept k found = found_one IsList (is_of u) k (lists_of s place) (lists_kept s place place_meant) found

    -- what is shown is a notification to e
    asked : AllByRecursion (IsQuestion e) (outs (show_opened settings s e it) place)
    asked = go (find (is_of u) (lists_of s place)) refl
      where
        one : (k : LastList) → IsList k → (a b : Bool) → AllByRecursion (IsQuestion e) (outs (choose a nothing (choose b (send (ToEditor e (shown_text (version_at settings s e place k.uri) k.body))) nothing)) place)
        one k is true b = tt
        one k is false true = ((refl, ap has_method (text_says settings place place_meant e s k is).1), tt)
        one k is false false = tt

        go : (o : Option LastList) → find (is_of u) (lists_of s place) ≡ o → AllByRecursion (IsQuestion e) (outs (on o nothing (show_full settings place s e)) place)
        go (Some k) found = one k (kept k found) k.empty (fits k (agreement_at settings s e place k.uri))
        go None found = tt

    opened_lists : lists_to e (outs (show_opened settings s e it) place) ≡ due_opening settings e place it s
    opened_lists = go (find (is_of u) (lists_of s place)) refl
      where
        go : (o : Option LastList) → find (is_of u) (lists_of s place) ≡ o → lists_to e (outs (on o nothing (show_full settings place s e)) place) ≡ option_map_or (shown_full settings s e place) o []
        go (Some k) found = own_full settings place place_meant e s k (kept k found) place
        go None found = refl

    abbrev all_outs_of : List Out
    all_outs_of = told ++ outs (show_opened settings s e it) place

    told_lists : lists_to e all_outs_of ≡ due_opening settings e (behind events all_outs_of) it s
    told_lists = lists_join e told (outs (show_opened settings s e it) place)
        ∙ (ap (λ z. z ++ lists_to e (outs (show_opened settings s e it) place)) (off_lists e events (to_start s bs) (bodies_off s bs events))
        ∙ (opened_lists ∙ (sym (same_due settings (behind place (outs (show_opened settings s e it) place)) place (same_questions settings e place (outs (show_opened settings s e it) place) asked) e it s)
        ∙ ap (λ z. due_opening settings e z it s) (sym (behind_both events told (outs (show_opened settings s e it) place))))))

  pub document_lists : (events : List Event) → AllMeant events → lists_to e (outs (document_row settings before e body it) events) ≡ at_start settings e before (due_opening settings e (behind events (outs (document_row settings before e body it) events)) it)
  document_lists events meant = by_home (home_of settings e before)
    where
      by_ready : (g s : ℕ) (b : Bool) → lists_to e (outs (choose b (to_start s (bodies g s) ⨾ show_opened settings s e it) nothing) events) ≡ (if b then due_opening settings e (behind events (outs (choose b (to_start s (bodies g s) ⨾ show_opened settings s e it) nothing) events)) it s else [])
      by_ready g s true = told_lists events meant s (bodies g s)
      by_ready g s false = refl

      by_start : (g : ℕ) (o : Option ℕ) → lists_to e (outs (on o nothing (document_at settings before e body it g)) events) ≡ of_start (due_opening settings e (behind events (outs (on o nothing (document_at settings before e body it g)) events)) it) before o
      by_start g (Some s) = by_ready g s (is_ready (life_of s before).stage)
      by_start g None = refl

      by_home : (o : Option ℕ) → lists_to e (outs (on o nothing (λ g. on (start_of g before) nothing (document_at settings before e body it g))) events)
          ≡ of_start (due_opening settings e (behind events (outs (on o nothing (λ g. on (start_of g before) nothing (document_at settings before e body it g))) events)) it) before (option_and_then (λ g. start_of g before) o)
      by_home (Some g) = by_start g (start_of g before)
      by_home None = refl

  -- the row of its message is that of the document
  pub opened_row : (method : List ℕ) (params : Option Json) → saying_by method params ≡ it → (events : List Event) → outs (served_row settings before e body (notification method params)) events ≡ outs (document_row settings before e body it) events
  opened_row method params says events = go (bytes_eq (codes "exit") method) refl (goes_on (class_of method Editor true)) refl (bytes_eq (codes "$/cancelRequest") method) refl (bytes_eq (codes "window/workDoneProgress/cancel") method) refl
    where
      silent : saying_by method params ≡ saying.nothing → ⊥
      silent h = let clash : saying.nothing ≡ opens u l v t = sym h ∙ says in cc

      named : (name : List ℕ) → saying_by name params ≡ saying.nothing → bytes_eq name method ≡ true → ⊥
      named name none at = silent (ap (λ z. saying_by z params) (sym ((bytes_eq-Decides name method).0 at)) ∙ none)

      go : (a : Bool) → bytes_eq (codes "exit") method ≡ a → (b : Bool) → goes_on (class_of method Editor true) ≡ b → (c : Bool) → bytes_eq (codes "$/cancelRequest") method ≡ c → (d : Bool) → bytes_eq (codes "window/workDoneProgress/cancel") method ≡ d
          → outs (choose a (closing_row settings before e) (choose b (notice_row settings before e body) (choose c (cancel_row settings before e body params) (choose d (work_row settings before e body params) (document_row settings before e body (saying_by method params)))))) events
          ≡ outs (document_row settings before e body it) events
      go true at b p c q d r = absurd (named (codes "exit") refl at)
      go false off true going c q d r = absurd (silent (going_silent method going params))
      go false off false p true at d r = absurd (named (codes "$/cancelRequest") refl at)
      go false off false p false q true at = absurd (named (codes "window/workDoneProgress/cancel") refl at)
      go false off false p false q false r = ap (λ x. outs (document_row settings before e body x) events) says

  pub opens_lists : (method : List ℕ) (params : Option Json) → saying_by method params ≡ it → (events : List Event) → AllMeant events
      → lists_to e (outs (served_row settings before e body (notification method params)) events) ≡ at_start settings e before (due_opening settings e (behind events (outs (served_row settings before e body (notification method params)) events)) it)
  opens_lists method params says events meant = subst (λ xs. lists_to e xs ≡ at_start settings e before (due_opening settings e (behind events xs) it)) (sym (opened_row method params says events)) (document_lists events meant)

-- A message that opens no document, by which e begins to run

abbrev pub OpensNone : Saying → Type 0
OpensNone w = (u l v t : List ℕ) → w ≡ opens u l v t → ⊥

pub record Opens (w : Saying) : Type 0 where
  pub uri : List ℕ
  pub language : List ℕ
  pub version : List ℕ
  pub text : List ℕ
  pub is : w ≡ opens uri language version text

pub opens_or : (w : Saying) → (Opens w) ⊎ (OpensNone w)
opens_or (opens u l v t) = inl (record { uri = u; language = l; version = v; text = t; is = refl })
opens_or (changes u v cs) = inr (λ w l x t h. absurd (cc))
opens_or (closes u) = inr (λ w l v t h. absurd (cc))
opens_or misshapen = inr (λ w l v t h. absurd (cc))
opens_or saying.nothing = inr (λ w l v t h. absurd (cc))

pub none_due : (settings : Settings) (e : ℕ) (before after : List Event) (w : Saying) → OpensNone w → (s : ℕ) → due_opening settings e after w s ≡ []
none_due settings e before after (opens u l v t) none s = absurd (none u l v t refl)
none_due settings e before after (changes u v cs) none s = refl
none_due settings e before after (closes u) none s = refl
none_due settings e before after misshapen none s = refl
none_due settings e before after saying.nothing none s = refl

module _ (settings : Settings) (before : List Event) (e : ℕ) (body : List ℕ) (idle : is_running (desk_of e before).phase ≡ false) (events : List Event) where
  starts_off : (s : ℕ) (bs : List (List ℕ)) (places : List Event) → Off e places (to_start s bs)
  starts_off s bs places = bodies_by (λ places out. Listless e out) (λ places n b. refl) s bs places

  module _ (id : Id) (method : List ℕ) (params : Option Json) (says : message_of body ≡ request id method params) where
    refused_off : (code : Code) → Off e events (answer_error e body code)
    refused_off code = by_send (plain_out e e (error_text (id_bytes body) code) (ap gives_list (refusal_says body id method params code says)))

    request_there : (g s : ℕ) → Off e events (request_at settings before e body g s)
    request_there g s = by_choose (λ can. by_then (starts_off s (sync_bodies settings.limits.versions (λ u. held_at s u before) e (texts_of settings g before).opens) events) (by_look (by_send refl))) (λ cannot. by_choose (λ waits. by_nothing) (λ full. refused_off request_failed))

    request_in : (g : ℕ) → Off e events (on (start_of g before) (answer_error e body request_failed) (request_at settings before e body g))
    request_in g = by_on (λ none. refused_off request_failed) (λ s start. request_there g s)

    request_off : Off e events (request_row settings before e body)
    request_off = by_choose (λ reserved. refused_off invalid_params) (λ free. by_on (λ none. refused_off request_failed) (λ g home. request_in g))

  notice_there : (g s : ℕ) → Off e events (notice_at settings before e body g s)
  notice_there g s = by_choose (λ ready. by_then (starts_off s (sync_bodies settings.limits.versions (λ u. held_at s u before) e (texts_of settings g before).opens) events) (by_send refl)) (λ off. by_nothing)

  notice_in : (g : ℕ) → Off e events (on (start_of g before) nothing (notice_at settings before e body g))
  notice_in g = by_on (λ none. by_nothing) (λ s start. notice_there g s)

  notice_off : Off e events (notice_row settings before e body)
  notice_off = by_on (λ none. by_nothing) (λ g home. notice_in g)

  cancel_there : (params : Option Json) (s : ℕ) → Off e events (cancelling_at settings before e body params s)
  cancel_there params s = by_choose (λ ready. by_on (λ none. by_nothing) (λ n is. by_send refl)) (λ off. by_nothing)

  cancel_in : (params : Option Json) (g : ℕ) → Off e events (on (start_of g before) nothing (cancelling_at settings before e body params))
  cancel_in params g = by_on (λ none. by_nothing) (λ s start. cancel_there params s)

  cancel_off : (params : Option Json) → Off e events (cancelling_row settings before e body params)
  cancel_off params = by_on (λ none. by_nothing) (λ g home. cancel_in params g)

  cancelled_off : AllHeld settings before → (params : Option Json) → Off e events (cancel_row settings before e body params)
  cancelled_off held params = by_on (λ none. cancel_off params) (λ r found.
      let is : (g : ℕ) × IsHeld settings g before r = named_held settings e params before r (home_of settings e before) held found in
      by_send (plain_out e r.editor (cancelled_text r.id) (ap gives_list (cancelled_says ((is.1).asker).id r.id ((is.1).asker).text).1)))

  token_there : (params : Option Json) (s : ℕ) → Off e events (created_work settings before e body params s)
  token_there params s = by_on (λ none. by_nothing) (λ t found. by_choose (λ accepted. by_send refl) (λ no. by_nothing))

  work_there : (params : Option Json) (s : ℕ) → Off e events (work_at settings before e body params s)
  work_there params s = by_choose (λ ready. by_on (λ none. token_there params s) (λ f found. by_send refl)) (λ off. by_nothing)

  work_in : (params : Option Json) (g : ℕ) → Off e events (on (start_of g before) nothing (work_at settings before e body params))
  work_in params g = by_on (λ none. by_nothing) (λ s start. work_there params s)

  work_off : (params : Option Json) → Off e events (work_row settings before e body params)
  work_off params = by_on (λ none. by_nothing) (λ g home. work_in params g)

  show_off : (s : ℕ) (w : Saying) → OpensNone w → (places : List Event) → Off e places (show_opened settings s e w)
  show_off s (opens u l v t) none places = absurd (none u l v t refl)
  show_off s (changes u v cs) none places = by_nothing
  show_off s (closes u) none places = by_nothing
  show_off s misshapen none places = by_nothing
  show_off s saying.nothing none places = by_nothing

  document_there : (w : Saying) → OpensNone w → (g s : ℕ) → Off e events (document_at settings before e body w g s)
  document_there w none g s = by_choose (λ ready. by_then (starts_off s (document_bodies settings.limits.versions (encoding_of g before) (texts_of settings g before) (λ u. held_at s u before) e body w) events) (show_off s w none _)) (λ off. by_nothing)

  document_in : (w : Saying) → OpensNone w → (g : ℕ) → Off e events (on (start_of g before) nothing (document_at settings before e body w g))
  document_in w none g = by_on (λ no. by_nothing) (λ s start. document_there w none g s)

  document_off : (w : Saying) → OpensNone w → Off e events (document_row settings before e body w)
  document_off w none = by_on (λ no. by_nothing) (λ g home. document_in w none g)

  response_there : (m : Message) (s : ℕ) → Off e events (response_at settings before e body m s)
  response_there m s = by_choose (λ ready. by_on (λ none. by_choose (λ runs. never (sym runs ∙ idle)) (λ no. by_nothing)) (λ (a : Ask) found. by_send refl)) (λ off. by_nothing)

  response_in : (m : Message) (g : ℕ) → Off e events (on (start_of g before) nothing (response_at settings before e body m))
  response_in m g = by_on (λ none. by_nothing) (λ s start. response_there m s)

  response_off : (m : Message) → Off e events (response_row settings before e body m)
  response_off m = by_on (λ none. by_nothing) (λ g home. response_in m g)

  pub served_off : AllHeld settings before → (m : Message) → message_of body ≡ m → makes_running m ≡ true → OpensNone (saying_of m) → Off e events (served_row settings before e body m)
  served_off held (request id method params) says runs none = by_choose (λ misplaced. refused_off id method params says (wrong_code method invalid_request))
      (λ placed. by_choose (λ shuts. never (sym shuts ∙ unshut settings before e body (request id method params) runs)) (λ stays. request_off id method params says))
  served_off held (notification method params) says runs none = by_choose (λ ends. never (sym ends ∙ unended settings before e body (notification method params) runs))
      (λ stays. by_choose (λ going. notice_off) (λ off. by_choose (λ cancels. cancelled_off held params) (λ off. by_choose (λ works. work_off params) (λ other. document_off (saying_by method params) none))))
  served_off held (result id r) says runs none = response_off (result id r)
  served_off held (error id x) says runs none = response_off (error id x)
  served_off held not_json says runs none = response_off not_json
  served_off held not_message says runs none = response_off not_message
