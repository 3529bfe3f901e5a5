-- What the rows that show lists of diagnostics send an editor, exactly.
use Rattle.std.proofs.Common.{◌≡◌, ℕ, ◌<◌, Bool, true, false, ◌&&◌, List, [], ◌∷◌, ◌++◌, find, flat_map, nat_eq, nat_le, if◌then◌else◌, Option, Some, None, refl, sym, ◌∙◌, ap, ap₂, subst, arith}
use Rattle.std.specs.List.{AllByRecursion, range_with_len}
use Rattle.std.specs.Option.{option_and_then, option_map_or}
use Rattle.std.proofs.lemmas.Bool.{leb-false, leb-true}
use Rattle.json_text.specs.Json.{Json}
use Rattle.document_model.specs.Sayings.{Saying, opens}
use Rattle.mux_history.specs.declared.cause.Cause.TheVariants.{FromServer}
use Rattle.mux_history.specs.declared.out.Out.TheVariants.{ToEditor}
use Rattle.lsp_method.specs.Class.{class_of}
use Rattle.lsp_method.specs.declared.variants.Origin.TheVariants.{Server}
use Rattle.rpc_message.specs.Message.{message_of, notification}
use Rattle.event_model.specs.declared.stage.Stage.TheVariants.{Ready}
use Rattle.event_model.specs.Event.{Event, behind, with_cause}
use Rattle.event_model.specs.Phases.{desk_of, editors_of, is_running}
use Rattle.event_model.specs.Row.{Row, choose, each, nothing, on, outs, send}
use Rattle.event_model.specs.Settings.{Settings}
use Rattle.event_model.specs.Spawns.{group_of, start_of}
use Rattle.event_model.specs.Stages.{is_ended, is_ready, life_of}
use Rattle.event_model.proofs.Frames.{never}
use Rattle.mux_facts.proofs.Words.{number_same, same_number}
use Rattle.group_words.specs.Houses.{home_of, is_home}
use Rattle.group_rows.specs.diagnostics_route.specs.declared.last_list.LastList.{LastList}
use Rattle.group_rows.specs.diagnostics_route.specs.Published.{published}
use Rattle.group_rows.specs.diagnostics_route.specs.Rows.{is_of}
use Rattle.group_rows.specs.diagnostics_route.specs.Shown.{fits, shown_text}
use Rattle.group_rows.specs.AskRows.{notified_row}
use Rattle.group_rows.specs.Asks.{running_in, serves}
use Rattle.group_rows.specs.ListRows.{list_row, show, show_full}
use Rattle.group_rows.specs.Lists.{agreement_at, is_publishing, lists_of, sayings_of}
use Rattle.group_rows.specs.Rows.{from_server, outs_of}
use Rattle.group_rows.proofs.ListsKept.{IsList, published_body}
use Rattle.group_rows.proofs.Versions.{AllMeant}
use Rattle.group_facts.specs.Settled.{Settled}
use Rattle.group_facts.proofs.Facts.{Facts}
use Rattle.group_facts.proofs.LastStarts.{AllLast}
use Rattle.group_facts.proofs.Same.{Same, same_agreement, same_version}
use Rattle.group_facts.proofs.Shown.{list_is, text_says, text_shown}
use Rattle.group_sessions.proofs.DueSent.{flat_kept, only_one}
use Rattle.group_sessions.proofs.ListsNone.{lists_join}
use Rattle.group_sessions.specs.LastLists.{due_coming, due_opening, gives_list, is_hearing, lists_to, shown, shown_full}
use Rattle.group_rows.proofs.ExitTexts.{published_spelt}

-- A list, to an editor that it fits

module _ (settings : Settings) (seen : List Event) (meant : AllMeant seen) (e n s : ℕ) (l : LastList) (kept : IsList l) where
  abbrev text : List ℕ
  text = text_shown settings seen meant n s l kept

  gives : gives_list (message_of text) ≡ true
  gives = ap gives_list (text_says settings seen meant n s l kept).1 ∙ kept.class

  pub show_lists : (events : List Event) → lists_to e (outs (show settings seen s n l) events) ≡ (if nat_eq n e then shown settings s n seen l else [])
  show_lists events = go (fits l (agreement_at settings s n seen l.uri))
    where
      one : (a : Bool) → (if a && true then text ∷ [] else []) ++ [] ≡ (if a then text ∷ [] else [])
      one true = refl
      one false = refl

      none : (a : Bool) → ◌≡◌ {A = List (List ℕ)} [] (if a then [] else [])
      none true = refl
      none false = refl

      go : (b : Bool) → lists_to e (outs (choose b (send (ToEditor n text)) nothing) events) ≡ (if nat_eq n e then (if b then text ∷ [] else []) else [])
      go true = ap (λ b. (if nat_eq n e && b then text ∷ [] else []) ++ []) gives ∙ one (nat_eq n e)
      go false = none (nat_eq n e)

  pub full_lists : (events : List Event) → lists_to e (outs (show_full settings seen s n l) events) ≡ (if nat_eq n e then shown_full settings s n seen l else [])
  full_lists events = go l.empty
    where
      none : (a : Bool) → ◌≡◌ {A = List (List ℕ)} [] (if a then [] else [])
      none true = refl
      none false = refl

      go : (b : Bool) → lists_to e (outs (choose b nothing (show settings seen s n l)) events) ≡ (if nat_eq n e then (if b then [] else shown settings s n seen l) else [])
      go true = none (nat_eq n e)
      go false = show_lists events

module _ (settings : Settings) (seen : List Event) (meant : AllMeant seen) (e s : ℕ) where
  pub own_full : (l : LastList) → IsList l → (events : List Event) → lists_to e (outs (show_full settings seen s e l) events) ≡ shown_full settings s e seen l
  own_full l kept events = full_lists settings seen meant e e s l kept events ∙ ap (λ b. if b then shown_full settings s e seen l else []) (same_number e)

  -- L2
  pub all_full : (ls : List LastList) → AllByRecursion IsList ls → (events : List Event) → lists_to e (outs (each (show_full settings seen s e) ls) events) ≡ flat_map (shown_full settings s e seen) ls
  all_full [] kept events = refl
  all_full (l ∷ ls) kept events = lists_join e (outs (show_full settings seen s e l) events) (outs (each (show_full settings seen s e) ls) (behind events (outs (show_full settings seen s e l) events)))
      ∙ ap₂ (λ u v. u ++ v) (own_full l kept.0 events) (all_full ls kept.1 (behind events (outs (show_full settings seen s e l) events)))

  -- S15
  pub to_each : (l : LastList) → IsList l → (ns : List ℕ) (events : List Event) → lists_to e (outs (each (λ n. show settings seen s n l) ns) events) ≡ flat_map (λ n. if nat_eq n e then shown settings s n seen l else []) ns
  to_each l kept [] events = refl
  to_each l kept (n ∷ ns) events = lists_join e (outs (show settings seen s n l) events) (outs (each (λ n. show settings seen s n l) ns) (behind events (outs (show settings seen s n l) events)))
      ∙ ap₂ (λ u v. u ++ v) (show_lists settings seen meant e n s l kept events) (to_each l kept ns (behind events (outs (show settings seen s n l) events)))

-- what is due of a document that is opened is the same where nothing else is told
pub same_due : (settings : Settings) (x y : List Event) → Same settings x y → (e : ℕ) (w : Saying) (s : ℕ) → due_opening settings e x w s ≡ due_opening settings e y w s
same_due settings x y same e (opens u l v t) s = ap (λ ls. option_map_or (shown_full settings s e x) (find (is_of u) ls) []) (same.lists s) ∙ go (find (is_of u) (lists_of s y))
  where
    go : (o : Option LastList) → option_map_or (shown_full settings s e x) o [] ≡ option_map_or (shown_full settings s e y) o []
    go (Some k) = ap₂ (λ a v. if k.empty then [] else if fits k a then shown_text v k.body ∷ [] else []) (same_agreement settings same s e k.uri) (same_version settings same s e k.uri)
    go None = refl
same_due settings x y same e w s = refl

-- A list that comes

module _ (settings : Settings) (before : List Event) (facts : Facts settings before) (settled : Settled settings before) (lasts : AllLast before) (e s : ℕ) where
  -- s is the last start of e's group just where e is in the group that s was spawned for
  pub serves_is : is_ended (life_of s before).stage ≡ false → serves settings before s e ≡ option_map_or (λ g. is_home g (home_of settings e before)) (group_of s before) false
  serves_is alive = by_home (home_of settings e before) (group_of s before) refl
    where
      by_start : (h : ℕ) (o : Option ℕ) → group_of s before ≡ o → (t : Option ℕ) → start_of h before ≡ t → option_map_or (nat_eq s) t false ≡ option_map_or (λ g. is_home g (Some h)) o false
      by_start h (Some g) at None none = go (nat_eq h g) refl
        where
          go : (b : Bool) → nat_eq h g ≡ b → false ≡ b
          go false off = refl
          go true same = absurd (let clash : ◌≡◌ {A = Option ℕ} None (Some s) = sym none ∙ (ap (λ z. start_of z before) (number_same h g same) ∙ lasts s g at alive) in cc)
      by_start h None at None none = refl
      by_start h o at (Some t) last = go (nat_eq s t) refl
        where
          its_group : t ≡ s → group_of s before ≡ Some h
          its_group same = subst (λ z. group_of z before ≡ Some h) same ((settled.lively).last h t last).0

          apart : (p : Option ℕ) → group_of s before ≡ p → nat_eq s t ≡ false → false ≡ option_map_or (λ g. is_home g (Some h)) p false
          apart None none off = refl
          apart (Some g) is off = by (nat_eq h g) refl
            where
              by : (b : Bool) → nat_eq h g ≡ b → false ≡ b
              by false other = refl
              by true same = absurd (let both : ◌≡◌ {A = Option ℕ} (Some t) (Some s) = sym last ∙ (ap (λ z. start_of z before) (number_same h g same) ∙ lasts s g is alive) in let is_it : t ≡ s = cc in let clash : false ≡ true = sym off ∙ (ap (nat_eq s) is_it ∙ same_number s) in cc)

          go : (b : Bool) → nat_eq s t ≡ b → b ≡ option_map_or (λ g. is_home g (Some h)) o false
          go true same = sym (ap (λ p. option_map_or (λ g. is_home g (Some h)) p false) (sym at ∙ its_group (sym (number_same s t same))) ∙ same_number h)
          go false off = apart o at off

      by_home : (h o : Option ℕ) → group_of s before ≡ o → option_map_or (nat_eq s) (option_and_then (λ g. start_of g before) h) false ≡ option_map_or (λ g. is_home g h) o false
      by_home (Some h) o at = by_start h o at (start_of h before) refl
      by_home None (Some g) at = refl
      by_home None None at = refl

  module _ (body method : List ℕ) (params : Option Json) (says : message_of body ≡ notification method params) (class : is_publishing method ≡ true) where
    abbrev now : List Event
    now = with_cause before (FromServer s body)

    row_is : (life_of s before).stage ≡ Ready → outs_of settings before (FromServer s body) ≡ outs (list_row settings s before body) now
    row_is ready = ap (λ z. outs (from_server settings s before body (message_of body) z) now) ready
        ∙ (ap (λ m. outs (from_server settings s before body m Ready) now) says
        ∙ ap (λ c. outs (notified_row settings s before body params c) now) (list_is (class_of method Server true) class))

    -- e runs in this group
    abbrev P : ℕ → ℕ → Bool
    P g n = is_running (desk_of n before).phase && is_home g (home_of settings n before)

    joined : (g : ℕ) → P g e ≡ true → e < editors_of before
    joined g runs = go (nat_le (editors_of before) e) refl
      where
        running : (a b : Bool) → (a && b) ≡ true → a ≡ true
        running true b h = refl
        running false b h = never (sym h)

        go : (b : Bool) → nat_le (editors_of before) e ≡ b → e < editors_of before
        go false low = let h = leb-false (editors_of before) e low in omega (arith, h)
        go true high = never (sym (running (is_running (desk_of e before).phase) (is_home g (home_of settings e before)) runs) ∙ ap is_running ((facts.steady).editors e (leb-true (editors_of before) e high)))

    module _ (l : LastList) (came : published (sayings_of s before) body ≡ Some l) (g : ℕ) where
      kept : IsList l
      kept = record { method = method; params = params; says = ap message_of (published_body (sayings_of s before) body l came) ∙ says; class = class; spelt = published_spelt (sayings_of s before) body l came }

      abbrev of_one : ℕ → List (List ℕ)
      of_one n = if nat_eq n e then shown settings s n before l else []

      abbrev in_all : ℕ → List (List ℕ)
      in_all n = if P g n then of_one n else []

      others : (n : ℕ) → nat_eq n e ≡ false → in_all n ≡ []
      others n off = go (P g n)
        where
          go : (a : Bool) → (if a then of_one n else []) ≡ []
          go true = ap (λ b. if b then shown settings s n before l else []) off
          go false = refl

      here : in_all e ≡ (if P g e then shown settings s e before l else [])
      here = ap (λ b. if P g e then (if b then shown settings s e before l else []) else []) (same_number e)

      -- no editor but e, and e once
      all_here : flat_map in_all (range_with_len 0 (editors_of before)) ≡ (if P g e then shown settings s e before l else [])
      all_here = go (P g e) refl
        where
          none : P g e ≡ false → (n : ℕ) → in_all n ≡ []
          none off n = by (nat_eq n e) refl
            where
              by : (b : Bool) → nat_eq n e ≡ b → in_all n ≡ []
              by false other = others n other
              by true same = ap in_all (number_same n e same) ∙ ap (λ b. if b then of_one e else []) off

          flat_none : (h : (n : ℕ) → in_all n ≡ []) (ns : List ℕ) → flat_map in_all ns ≡ []
          flat_none h [] = refl
          flat_none h (n ∷ ns) = ap₂ (λ u v. u ++ v) (h n) (flat_none h ns)

          go : (b : Bool) → P g e ≡ b → flat_map in_all (range_with_len 0 (editors_of before)) ≡ (if b then shown settings s e before l else [])
          go true runs = only_one in_all e others 0 (editors_of before) (omega arith) (let high = joined g runs in omega (arith, high)) ∙ (here ∙ ap (λ b. if b then shown settings s e before l else []) runs)
          go false off = flat_none (none off) (range_with_len 0 (editors_of before))

      to_group : lists_to e (outs (each (λ n. show settings before s n l) (running_in settings g before)) now) ≡ (if P g e then shown settings s e before l else [])
      to_group = to_each settings before (facts.base).meant e s l kept (running_in settings g before) now ∙ (flat_kept of_one (P g) (range_with_len 0 (editors_of before)) ∙ all_here)

    abbrev R : Option LastList → Row
    R o = on o nothing (λ l. on (group_of s before) nothing (λ g. each (λ n. show settings before s n l) (running_in settings g before)))

    by_group : (life_of s before).stage ≡ Ready → (l : LastList) → published (sayings_of s before) body ≡ Some l → (o : Option ℕ) → group_of s before ≡ o
        → lists_to e (outs (on o nothing (λ g. each (λ n. show settings before s n l) (running_in settings g before))) now) ≡ (if is_hearing settings s e before then shown settings s e before l else [])
    by_group ready l came o at = go o (ap₂ (λ a b. a && (is_running (desk_of e before).phase && b)) (ap is_ready ready) (serves_is (ap is_ended ready) ∙ ap (λ p. option_map_or (λ g. is_home g (home_of settings e before)) p false) at))
      where
        off : (a : Bool) → (a && false) ≡ false
        off true = refl
        off false = refl

        go : (p : Option ℕ) → is_hearing settings s e before ≡ (is_running (desk_of e before).phase && option_map_or (λ g. is_home g (home_of settings e before)) p false)
            → lists_to e (outs (on p nothing (λ g. each (λ n. show settings before s n l) (running_in settings g before))) now) ≡ (if is_hearing settings s e before then shown settings s e before l else [])
        go (Some g) hears = to_group l came g ∙ ap (λ b. if b then shown settings s e before l else []) (sym hears)
        go None hears = ap (λ b. if b then shown settings s e before l else []) (sym (hears ∙ off (is_running (desk_of e before).phase)))

    pub comes_exactly : (life_of s before).stage ≡ Ready → lists_to e (outs_of settings before (FromServer s body)) ≡ due_coming settings s e before body
    comes_exactly ready = ap (lists_to e) (row_is ready) ∙ go (published (sayings_of s before) body) refl
      where
        nowhere : (a : Bool) → ◌≡◌ {A = List (List ℕ)} [] (if a then [] else [])
        nowhere true = refl
        nowhere false = refl

        go : (o : Option LastList) → published (sayings_of s before) body ≡ o → lists_to e (outs (R o) now) ≡ (if is_hearing settings s e before then option_map_or (shown settings s e before) o [] else [])
        go (Some l) came = by_group ready l came (group_of s before) refl
        go None none = nowhere (is_hearing settings s e before)
