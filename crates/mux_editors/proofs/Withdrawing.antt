-- E11: the request that a cancel names, where it waits.
use Rattle.std.proofs.Common.{◌≡◌, ◌<◌, ℕ, Bool, true, false, ◌&&◌, cond, List, [], ◌∷◌, find, nat_eq, refl, ap, sym, subst, ◌∙◌}
use Rattle.std.specs.Prelude.{Option, Some, None, IfSome, option_map}
use Rattle.std.specs.List.{AllByRecursion}
use Rattle.std.specs.Option.{option_and_then, option_map_or}
use Rattle.json_text.specs.Json.{Json}
use Rattle.mux_history.specs.declared.out.Out.TheVariants.{ToEditor}
use Rattle.rpc_message.specs.Message.{Id, same_id}
use Rattle.rpc_message.specs.ValueTexts.{IsIdText}
use Rattle.rpc_message.proofs.Ids.{request_id_bytes}
use Rattle.event_model.specs.Does.{Alike}
use Rattle.event_model.specs.Event.{Event}
use Rattle.event_model.specs.Row.{on, send}
use Rattle.event_model.specs.Settings.{Settings}
use Rattle.event_model.proofs.Frames.{never}
use Rattle.event_model.proofs.Turns.{alike}
use Rattle.group_rows.specs.Cancelling.{cancelling_row}
use Rattle.group_rows.specs.Rows.{cancel_row}
use Rattle.group_rows.specs.Waiting.{cancel_waiting, cancelled_text, id_meant, is_meant, named_id, waiting_named, waiting_of}
use Rattle.group_words.specs.Houses.{home_of}
use Rattle.mux_turns.specs.mux_facts.proofs.Words.{number_same}
use Rattle.mux_tables.specs.declared.tables.Tables.{Tables}
use Rattle.mux_tables.specs.mux_waits.specs.held_requests.specs.declared.request.Request.{Request}
use Rattle.mux_tables.specs.mux_waits.specs.Stands.{IsHeld}
use Rattle.mux_tables.specs.Stands.{Stands}
use Rattle.mux_turns.specs.Initials.{IsNamed}
use Rattle.mux_editors.specs.Cancels.{waiting_there}
use Rattle.mux_editors.specs.declared.cancelled.Target.{Target}

module _ (settings : Settings) (before : List Event) (e : ℕ) (params : Option Json) where
  pub unnamed_there : named_id params ≡ None → None ≡ waiting_there settings before e params
  unnamed_there none = go (home_of settings e before)
    where
      go : (o : Option ℕ) → None ≡ option_and_then (λ g. waiting_named e params (waiting_of settings g before)) o
      go None = refl
      go (Some g) = sym (ap (λ o. option_and_then (λ id. find (is_meant e id) (waiting_of settings g before)) o) none)

  pub homeless_there : home_of settings e before ≡ None → None ≡ waiting_there settings before e params
  homeless_there none = sym (ap (option_and_then (λ g. waiting_named e params (waiting_of settings g before))) none)

  pub found_there : (i : Id) (g : ℕ) → named_id params ≡ Some i → home_of settings e before ≡ Some g → find (is_meant e i) (waiting_of settings g before) ≡ waiting_there settings before e params
  found_there i g named home = sym (ap (option_and_then (λ g. waiting_named e params (waiting_of settings g before))) home ∙ ap (option_and_then (λ id. find (is_meant e id) (waiting_of settings g before))) named)

  -- the one that waits is the editor's own, under the text of an id
  both_first : (a b : Bool) → (a && b) ≡ true → a ≡ true
  both_first true b h = refl
  both_first false b h = never (sym h)

  some_is : {A : Type 0} {x y : A} → ◌≡◌ {A = Option A} (Some x) (Some y) → x ≡ y
  some_is h = cc

  nothing_is : {A X : Type 0} {x : A} → ◌≡◌ {A = Option A} None (Some x) → X
  nothing_is {A} {X} {x} h = absurd (clash x h)
    where
      clash : (x : A) → ◌≡◌ {A = Option A} None (Some x) → ⊥
      clash x h = cc

  found_own : (g : ℕ) (i : Id) (rs : List Request) (r : Request) → AllByRecursion (IsHeld settings g before) rs → find (is_meant e i) rs ≡ Some r → (r.editor ≡ e) × IsNamed r.id
  found_own g i [] r h found = nothing_is found
  found_own g i (q ∷ rs) r h found = go (is_meant e i q) refl found (λ is. found_own g i rs r h.1 is)
    where
      go : (b : Bool) → is_meant e i q ≡ b → cond b (Some q) (find (is_meant e i) rs) ≡ Some r → (find (is_meant e i) rs ≡ Some r → (r.editor ≡ e) × IsNamed r.id) → (r.editor ≡ e) × IsNamed r.id
      go true meant is rest =
          let k = h.0 in
          let own : q.editor ≡ e = number_same q.editor e (both_first (nat_eq q.editor e) (option_map_or (same_id i) (id_meant q.id) false) meant) in
          subst (λ (x : Request). (x.editor ≡ e) × IsNamed x.id) (some_is is) (own, (k.name, subst (λ w. IsIdText k.name w) (sym k.bytes) (request_id_bytes q.body k.name k.method k.params k.says)))
      go false other is rest = rest is

  pub there_own : (t : Tables) → Stands settings t before → (r : Request) → waiting_there settings before e params ≡ Some r → (r.editor ≡ e) × IsNamed r.id
  there_own t st r is = by_home (home_of settings e before) is
    where
      by_name : (g : ℕ) (o : Option Id) → option_and_then (λ id. find (is_meant e id) (waiting_of settings g before)) o ≡ Some r → (r.editor ≡ e) × IsNamed r.id
      by_name g None h = nothing_is h
      by_name g (Some i) h = found_own g i (waiting_of settings g before) r (subst (AllByRecursion (IsHeld settings g before)) (st.waiting g).same (st.waiting g).each) h

      by_home : (o : Option ℕ) → option_and_then (λ g. waiting_named e params (waiting_of settings g before)) o ≡ Some r → (r.editor ≡ e) × IsNamed r.id
      by_home None h = nothing_is h
      by_home (Some g) h = by_name g (named_id params) h

  module _ (body : List ℕ) where
    -- the row
    pub withdraws : (r : Request) → waiting_there settings before e params ≡ Some r → r.editor ≡ e → Alike (cancel_row settings before e body params) (send (ToEditor e (cancelled_text r.id)))
    withdraws r is own = alike (ap (λ o. on o (cancelling_row settings before e body params) cancel_waiting) is ∙ ap (λ n. send (ToEditor n (cancelled_text r.id))) own)

    pub goes_there : waiting_there settings before e params ≡ None → Alike (cancel_row settings before e body params) (cancelling_row settings before e body params)
    goes_there is = alike (ap (λ o. on o (cancelling_row settings before e body params) cancel_waiting) is)

-- whose id is known
pub withdrawn : (o : Option Request) (w : List ℕ) → Some w ≡ option_map (λ (r : Request). r.id) o → (r : Request) × (o ≡ Some r) × (w ≡ r.id)
withdrawn None w h = absurd (cc)
withdrawn (Some r) w h = (r, refl, same h)
  where
    same : ◌≡◌ {A = Option (List ℕ)} (Some w) (Some r.id) → w ≡ r.id
    same h = cc

pub unwithdrawn : (o : Option Request) → ◌≡◌ {A = Option (List ℕ)} None (option_map (λ (r : Request). r.id) o) → o ≡ None
unwithdrawn None h = refl
unwithdrawn (Some r) h = absurd (cc)

-- a place that is there still is
pub inside_still : (o : Option Target) {n m : ℕ} → ((g : ℕ) → g < n → g < m) → IfSome o (λ (x : Target). x.group < n) → IfSome o (λ (x : Target). x.group < m)
inside_still None f h = tt
inside_still (Some x) f h = f x.group h
