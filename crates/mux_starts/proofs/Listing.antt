-- S15: what editors are shown of a list, and that it is that list.
use Rattle.std.proofs.Common.{◌≡◌, ℕ, zero, suc, ◌+◌, ◌<◌, ◌≤◌, Bool, true, false, List, [], ◌∷◌, ◌++◌, append-nil, append_assoc, get_or, length, map, take, if◌then◌else◌, refl, ap, sym, subst, ◌∙◌, arith}
use Rattle.std.proofs.lemmas.List.{take_more}
use Rattle.std.proofs.lemmas.List.Elements.{All-get_or}
use Rattle.std.specs.Prelude.{Option, None, Some}
use Rattle.std.specs.List.{All, AllByRecursion}
use Rattle.json_text.specs.Json.{Json}
use Rattle.mux_history.specs.declared.out.Out.TheVariants.{ToEditor}
use Rattle.rpc_message.specs.Message.{message_of, notification}
use Rattle.event_model.specs.Does.{Alike}
use Rattle.event_model.specs.Event.{Event, behind}
use Rattle.event_model.specs.Row.{Row, choose, each, nothing, on, outs, send}
use Rattle.event_model.specs.Settings.{Settings}
use Rattle.event_model.specs.Spawns.{group_of}
use Rattle.event_model.proofs.Turns.{alike, alike_then}
use Rattle.group_rows.specs.Asks.{running_in}
use Rattle.group_rows.specs.diagnostics_route.specs.declared.last_list.LastList.{LastList}
use Rattle.group_rows.specs.diagnostics_route.specs.Published.{published}
use Rattle.group_rows.specs.diagnostics_route.specs.Shown.{fits, shown_text}
use Rattle.group_rows.specs.ListRows.{list_row, show}
use Rattle.group_rows.specs.Lists.{agreement_at, is_publishing, sayings_of, version_at}
use Rattle.mux_starts.specs.declared.progress.Telling.{Telling}
use Rattle.mux_starts.specs.group_facts.specs.Facts.{Meant}
use Rattle.mux_starts.specs.Lists.{IsInside, IsListed, all_shown, shown_to, tell, told}
use Rattle.mux_turns.specs.mux_facts.proofs.Lists.{all_join}
use Rattle.mux_turns.proofs.Listed.{own_listed}

-- What they are shown, one by one

module _ (settings : Settings) (before : List Event) (s : ℕ) (l : LastList) where
  abbrev shown : List ℕ → List Telling
  shown es = all_shown settings before s l es

  shown_more : (es : List ℕ) (e : ℕ) → shown (es ++ e ∷ []) ≡ shown es ++ shown_to settings before s l e
  shown_more [] e = append-nil (shown_to settings before s l e)
  shown_more (d ∷ es) e = ap (λ ts. shown_to settings before s l d ++ ts) (shown_more es e) ∙ sym (append_assoc (shown_to settings before s l d) (shown es) (shown_to settings before s l e))

  shown_next : (es : List ℕ) (i : ℕ) → i < length es → shown (take (i + 1) es) ≡ shown (take i es) ++ shown_to settings before s l (get_or es i 0)
  shown_next es i less = ap shown (take_more es i 0 less) ∙ shown_more (take i es) (get_or es i 0)

  -- the next one is shown it, or isn't
  pub one_shown : (es : List ℕ) (i : ℕ) (b : Bool) (ts us : List Telling) (text : List ℕ) → i < length es → ts ≡ shown (take i es) → b ≡ fits l (agreement_at settings s (get_or es i 0) before l.uri) → b ≡ true
      → text ≡ shown_text (version_at settings s (get_or es i 0) before l.uri) l.body → us ≡ ts ++ record { editor = get_or es i 0; text = text } ∷ [] → us ≡ shown (take (i + 1) es)
  one_shown es i b ts us text less so is on texts now =
      now ∙ (ap (λ ks. ks ++ record { editor = get_or es i 0; text = text } ∷ []) so
      ∙ (ap (λ w. shown (take i es) ++ record { editor = get_or es i 0; text = w } ∷ []) texts
      ∙ (ap (λ c. shown (take i es) ++ (if c then record { editor = get_or es i 0; text = shown_text (version_at settings s (get_or es i 0) before l.uri) l.body } ∷ [] else [])) (sym on ∙ is)
      ∙ sym (shown_next es i less))))

  pub one_unshown : (es : List ℕ) (i : ℕ) (b : Bool) (ts us : List Telling) → i < length es → ts ≡ shown (take i es) → b ≡ fits l (agreement_at settings s (get_or es i 0) before l.uri) → b ≡ false → us ≡ ts → us ≡ shown (take (i + 1) es)
  one_unshown es i b ts us less so is off now =
      now ∙ (so ∙ (sym (append-nil (shown (take i es)))
      ∙ (ap (λ c. shown (take i es) ++ (if c then record { editor = get_or es i 0; text = shown_text (version_at settings s (get_or es i 0) before l.uri) l.body } ∷ [] else [])) (sym off ∙ is)
      ∙ sym (shown_next es i less))))

  take_past : (es : List ℕ) (i : ℕ) → length es ≤ i → take i es ≡ es
  take_past [] zero h = refl
  take_past [] (suc i) h = refl
  take_past (e ∷ es) zero h = absurd (omega arith)
  take_past (e ∷ es) (suc i) h = ap (λ ds. e ∷ ds) (take_past es i (omega arith))

  pub whole_shown : (es : List ℕ) (i : ℕ) (ts : List Telling) → length es ≤ i → ts ≡ shown (take i es) → ts ≡ shown es
  whole_shown es i ts past so = so ∙ ap shown (take_past es i past)

  -- They are the list
  module _ (meant : Meant before) (method : List ℕ) (params : Option Json) (place : ℕ) (says : message_of l.body ≡ notification method params) (publishes : is_publishing method ≡ true) (one : published place l.body ≡ Some l) where
    pub all_listed : (es : List ℕ) → AllByRecursion (IsListed l.uri l.empty) (shown es)
    all_listed [] = tt
    all_listed (e ∷ es) = go (fits l (agreement_at settings s e before l.uri)) (all_listed es)
      where
        go : (b : Bool) → AllByRecursion (IsListed l.uri l.empty) (shown es) → AllByRecursion (IsListed l.uri l.empty) ((if b then record { editor = e; text = shown_text (version_at settings s e before l.uri) l.body } ∷ [] else []) ++ shown es)
        go true rest = (own_listed settings s e before l.uri l.body method params place l meant says publishes one, rest)
        go false rest = rest

  -- The row sends just them
  row_sends : (es : List ℕ) (events : List Event) → outs (each (λ e. show settings before s e l) es) events ≡ map told (shown es)
  row_sends [] events = refl
  row_sends (e ∷ es) events = go (fits l (agreement_at settings s e before l.uri)) (row_sends es)
    where
      go : (b : Bool) → ((later : List Event) → outs (each (λ e. show settings before s e l) es) later ≡ map told (shown es))
          → outs (choose b (send (ToEditor e (shown_text (version_at settings s e before l.uri) l.body))) nothing) events ++ outs (each (λ e. show settings before s e l) es) (behind events (outs (choose b (send (ToEditor e (shown_text (version_at settings s e before l.uri) l.body))) nothing) events))
          ≡ map told ((if b then record { editor = e; text = shown_text (version_at settings s e before l.uri) l.body } ∷ [] else []) ++ shown es)
      go true rest = ap (λ xs. ToEditor e (shown_text (version_at settings s e before l.uri) l.body) ∷ xs) (rest (behind events (ToEditor e (shown_text (version_at settings s e before l.uri) l.body) ∷ [])))
      go false rest = rest (behind events [])

each_sends : (ts : List Telling) (events : List Event) → outs (each tell ts) events ≡ map told ts
each_sends [] events = refl
each_sends (t ∷ ts) events = ap (λ xs. told t ∷ xs) (each_sends ts (behind events (told t ∷ [])))

-- Those that are shown it are among these editors

pub one_inside : (n : ℕ) (es : List ℕ) (i : ℕ) (ts us : List Telling) (text : List ℕ) → i < length es → All (λ e. e < n) es → AllByRecursion (IsInside n) ts → us ≡ ts ++ record { editor = get_or es i 0; text = text } ∷ [] → AllByRecursion (IsInside n) us
one_inside n es i ts us text less all so now = subst (AllByRecursion (IsInside n)) (sym now) (all_join (IsInside n) ts (record { editor = get_or es i 0; text = text } ∷ []) so (All-get_or (λ e. e < n) es i 0 less all, tt))

-- Nothing is left of what has no length
pub none_left : (ts : List Telling) → length ts ≡ 0 → ts ≡ []
none_left [] h = refl
none_left (t ∷ ts) h = absurd (omega (arith, h))

-- The row, by what the body gives

abbrev row_by : Settings → ℕ → List Event → Option LastList → Row
row_by settings s before o = on o nothing (λ l. on (group_of s before) nothing (λ g. each (λ e. show settings before s e l) (running_in settings g before)))

module _ (settings : Settings) (s : ℕ) (before : List Event) (body : List ℕ) (place : ℕ) (is : place ≡ sayings_of s before) where
  pub no_list : published place body ≡ None → Alike (list_row settings s before body) nothing
  no_list none = alike (ap (row_by settings s before) (sym (ap (λ n. published n body) is) ∙ none))

  pub given_none : published place body ≡ None → published (sayings_of s before) body ≡ None
  given_none none = sym (ap (λ n. published n body) is) ∙ none

  module _ (l : LastList) (one : published place body ≡ Some l) where
    pub given_one : published (sayings_of s before) body ≡ Some l
    given_one = sym (ap (λ n. published n body) is) ∙ one

    pub shows_those : (g : ℕ) (es : List ℕ) (ts : List Telling) → group_of s before ≡ Some g → es ≡ running_in settings g before → ts ≡ all_shown settings before s l es → Alike (list_row settings s before body) (each tell ts)
    shows_those g es ts home those so =
        alike_then (alike (ap (row_by settings s before) given_one ∙ ap (λ o. on o nothing (λ g. each (λ e. show settings before s e l) (running_in settings g before))) home))
        (record { sends = λ events. ap (λ ds. outs (each (λ e. show settings before s e l) ds) events) (sym those) ∙ (row_sends settings before s l es events ∙ (ap (map told) (sym so) ∙ sym (each_sends ts events))) })
