-- E11: the open request that an editor's cancel names, and the row.
use Rattle.std.proofs.Common.{◌≡◌, ℕ, ◌+◌, ◌<◌, ◌≤◌, ◌^◌, Bool, true, false, ◌&&◌, cond, List, [], ◌∷◌, map, find, nat_eq, if◌then◌else◌, refl, ap, sym, subst, ◌∙◌, arith, codes, bytes_eq}
use Rattle.std.specs.Prelude.{Option, Some, None, option_map, slice_get}
use Rattle.std.specs.Option.{option_and_then, option_map_or}
use Rattle.std.specs.Str.{chars}
use Rattle.std.proofs.lemmas.Bool.Decides.{nat_tests}
use Rattle.json_text.specs.declared.kind.Word.TheVariants.{Null, False, True}
use Rattle.json_text.specs.Json.{Json, word, number, string, array, object}
use Rattle.json_text.specs.Named.{named_in}
use Rattle.json_nodes.specs.At.{At, Found}
use Rattle.json_nodes.specs.Doc.{Doc}
use Rattle.json_nodes.specs.Puts.{put_edits}
use Rattle.mux_history.specs.declared.out.Out.{Out}
use Rattle.mux_history.specs.declared.out.Out.TheVariants.{ToServer}
use Rattle.rpc_message.specs.Message.{Id, message_of, notification, same_id}
use Rattle.rpc_message.specs.Envelopes.{not_null}
use Rattle.rpc_message.specs.Parsed.{IsRead, Parsed, params_in}
use Rattle.rpc_message.specs.ValueTexts.{IsIdText}
use Rattle.event_model.specs.declared.phase.Phase.{Phase}
use Rattle.event_model.specs.declared.phase.Phase.TheVariants.{Absent, New, Waiting, Answered, Running, Down, Closed, Gone}
use Rattle.event_model.specs.declared.stage.Stage.{Stage}
use Rattle.event_model.specs.Does.{Alike, Does}
use Rattle.event_model.specs.Event.{Event, behind}
use Rattle.event_model.specs.Members.{named_of, params_of}
use Rattle.event_model.specs.Phases.{desk_of, is_served, is_there}
use Rattle.event_model.specs.Row.{Row, choose, nothing, on, send}
use Rattle.event_model.specs.Settings.{Settings}
use Rattle.event_model.specs.Spawns.{start_of}
use Rattle.event_model.specs.Stages.{is_ready, life_of}
use Rattle.event_model.proofs.Turns.{alike, alike_false, alike_then, alike_true}
use Rattle.mux_turns.specs.mux_facts.proofs.Lists.{all_of}
use Rattle.mux_turns.specs.mux_facts.proofs.Words.{same_number}
use Rattle.mux_members.proofs.Roots.{read_params}
use Rattle.mux_turns.specs.group_facts.specs.Facts.{AllForwarded, IsForwarded}
use Rattle.group_rows.specs.Cancelling.{cancelling_at, cancelling_row, id_puts, is_called, new_id, number_called, number_named, numbered_text, uncancelled_number}
use Rattle.group_rows.specs.Waiting.{named_id}
use Rattle.group_rows.specs.Forwarded.{Forwarded, forwarding_of, is_written}
use Rattle.group_rows.proofs.Cancelling.{Renumbered, renumbered, text_meant}
use Rattle.group_words.specs.Houses.{home_of}
use Rattle.mux_tables.specs.id_rewrite.specs.declared.pending.Numbered.{Numbered}
use Rattle.mux_tables.specs.id_rewrite.specs.declared.pending.Pending.{Pending}
use Rattle.mux_tables.specs.id_rewrite.specs.Tables.{RiseWithin, has_number, is_under, number_under, pending_of}
use Rattle.mux_tables.specs.id_rewrite.proofs.Finding.{texts_same}
use Rattle.mux_tables.specs.declared.tables.Start.{Start}
use Rattle.mux_tables.specs.declared.tables.Tables.{Tables}
use Rattle.mux_tables.specs.Documents.{AllStand, DocumentsStand, changes_documents, nothing_owed}
use Rattle.mux_tables.specs.Stands.{HasEnded, Stands, forwarded_of, number_in, of_ids, start_for}
use Rattle.mux_tables.proofs.DocumentOwed.{all_does}
use Rattle.mux_tables.proofs.Starts.{start_at_place}
use Rattle.mux_editors.specs.Cancels.{HaveIds}
use Rattle.mux_editors.proofs.Asides.{and_off}
use Rattle.mux_turns.proofs.Numbers.{decimals}
use Rattle.mux_turns.proofs.Rows.{ended_start, is_first, is_second, some_start}

-- one that is served is there
pub served_there : (p : Phase) → is_served p ≡ true → is_there p ≡ true
served_there Answered h = refl
served_there Running h = refl
served_there Absent h = absurd (cc)
served_there New h = absurd (cc)
served_there Waiting h = absurd (cc)
served_there Down h = absurd (cc)
served_there Closed h = absurd (cc)
served_there Gone h = absurd (cc)

-- A request that is found is the one of its number

module _ (test : Numbered → Bool) (r : Numbered) where
  from_first : (from to : ℕ) (rs : List Numbered) → RiseWithin from to rs → find test rs ≡ Some r → from ≤ r.number
  from_first from to [] h e = absurd (cc)
  from_first from to (q ∷ qs) h e = go (test q) e (λ k. from_first (q.number + 1) to qs h.1 k)
    where
      go : (b : Bool) → cond b (Some q) (find test qs) ≡ Some r → (find test qs ≡ Some r → q.number + 1 ≤ r.number) → from ≤ r.number
      go true e rest = let same : q ≡ r = cc in subst (λ (z : Numbered). from ≤ z.number) same h.0
      go false e rest = let k : q.number + 1 ≤ r.number = rest e in let l : from ≤ q.number = h.0 in omega (arith, k, l)

  its_own : (from to : ℕ) (rs : List Numbered) → RiseWithin from to rs → find test rs ≡ Some r → pending_of r.number rs ≡ Some r.pending
  its_own from to [] h e = absurd (cc)
  its_own from to (q ∷ qs) h e = go (test q) e (λ k. from_first (q.number + 1) to qs h.1 k) (λ k. its_own (q.number + 1) to qs h.1 k)
    where
      others : q.number + 1 ≤ r.number → nat_eq q.number r.number ≡ false
      others l = grind (arith, nat_tests)

      go : (b : Bool) → cond b (Some q) (find test qs) ≡ Some r → (find test qs ≡ Some r → q.number + 1 ≤ r.number) → (find test qs ≡ Some r → pending_of r.number qs ≡ Some r.pending) → pending_of r.number (q ∷ qs) ≡ Some r.pending
      go true e above rest =
          let same : q ≡ r = cc in
          subst (λ (z : Numbered). pending_of z.number (q ∷ qs) ≡ Some z.pending) same (ap (λ b. option_map (λ (x : Numbered). x.pending) (cond b (Some q) (find (has_number q.number) qs))) (same_number q.number))
      go false e above rest = ap (λ b. option_map (λ (x : Numbered). x.pending) (cond b (Some q) (find (has_number r.number) qs))) (others (above e)) ∙ rest e

-- by its id

abbrev pub uncancelled_as : ℕ → Pending → Option ℕ
uncancelled_as n p = if p.cancelled then None else Some n

module _ (e : ℕ) (i : Id) (w : List ℕ) (text : IsIdText i w) where
  called_is : (r : Numbered) (k : Id) → IsIdText k r.pending.id → is_called e i (forwarded_of r) ≡ is_under e w r
  called_is r k is = ap (λ b. nat_eq r.pending.editor e && b) (ap (λ o. option_map_or (same_id i) o false) (text_meant k r.pending.id is) ∙ sym (texts_same i k w r.pending.id text is))

  found_is : (rs : List Numbered) → HaveIds (map forwarded_of rs) → find (is_called e i) (map forwarded_of rs) ≡ option_map forwarded_of (find (is_under e w) rs)
  found_is [] h = refl
  found_is (r ∷ rs) h = ap (λ b. cond b (Some (forwarded_of r)) (find (is_called e i) (map forwarded_of rs))) (called_is r h.0.0 h.0.1) ∙ go (is_under e w r) (found_is rs h.1)
    where
      go : (b : Bool) → find (is_called e i) (map forwarded_of rs) ≡ option_map forwarded_of (find (is_under e w) rs)
          → cond b (Some (forwarded_of r)) (find (is_called e i) (map forwarded_of rs)) ≡ option_map forwarded_of (cond b (Some r) (find (is_under e w) rs))
      go true k = refl
      go false k = k

  module _ (rs : List Numbered) (ids : HaveIds (map forwarded_of rs)) where
    number_is : (o : Option Numbered) → find (is_under e w) rs ≡ o → number_called e i (map forwarded_of rs) ≡ option_and_then uncancelled_number (option_map forwarded_of o)
    number_is o is = ap (λ z. option_and_then uncancelled_number z) (found_is rs ids ∙ ap (option_map forwarded_of) is)

    pub none_called : None ≡ number_under e w rs → None ≡ number_called e i (map forwarded_of rs)
    none_called h = go (find (is_under e w) rs) refl h
      where
        go : (o : Option Numbered) → find (is_under e w) rs ≡ o → None ≡ option_map (λ (r : Numbered). r.number) o → None ≡ number_called e i (map forwarded_of rs)
        go None is k = sym (number_is None is)
        go (Some r) is k = absurd (cc)

    pub one_called : (to n : ℕ) (o : Option Pending) → RiseWithin 2 to rs → Some n ≡ number_under e w rs → o ≡ pending_of n rs → option_and_then (uncancelled_as n) o ≡ number_called e i (map forwarded_of rs)
    one_called to n o rise h is = go (find (is_under e w) rs) refl h
      where
        at : (r : Numbered) → find (is_under e w) rs ≡ Some r → n ≡ r.number → option_and_then (uncancelled_as n) o ≡ number_called e i (map forwarded_of rs)
        at r found same =
            let kept : o ≡ Some r.pending = is ∙ (ap (λ m. pending_of m rs) same ∙ its_own (is_under e w) r 2 to rs rise found) in
            ap (λ z. option_and_then (uncancelled_as n) z) kept ∙ (ap (λ m. uncancelled_as m r.pending) same ∙ sym (number_is (Some r) found))

        go : (f : Option Numbered) → find (is_under e w) rs ≡ f → Some n ≡ option_map (λ (r : Numbered). r.number) f → option_and_then (uncancelled_as n) o ≡ number_called e i (map forwarded_of rs)
        go (Some r) found k = at r found cc
        go None found k = absurd (cc)

-- what is kept of each open request has an id
pub have_ids : (settings : Settings) (t : Tables) (before : List Event) (g : ℕ) (z : Start) → AllForwarded settings before → Stands settings t before → slice_get t.lasts.items g ≡ Some z → HaveIds (map forwarded_of z.ids.requests)
have_ids settings t before g z asked st here =
    let opened = ((st.lasts.each g z here).parts of_ids).open_requests in
    subst HaveIds opened (all_of (IsForwarded before) (λ (f : Forwarded). (id : Id) × IsIdText id f.id) (λ f k. (k.id, k.text)) (forwarding_of settings z.life.start before).open_requests (asked z.life.start))

-- what is found among them is what the events say
pub called_at : (settings : Settings) (t : Tables) (before : List Event) (g s : ℕ) (z : Start) (e : ℕ) (i : Id) (o : Option ℕ) → AllForwarded settings before → Stands settings t before → slice_get t.lasts.items g ≡ Some z → slice_get (map number_in t.lasts.items) g ≡ Some s
    → (HaveIds (map forwarded_of z.ids.requests) → o ≡ number_called e i (map forwarded_of z.ids.requests)) → o ≡ number_called e i (forwarding_of settings s before).open_requests
called_at settings t before g s z e i o asked st here at f =
    let opened = ((st.lasts.each g z here).parts of_ids).open_requests in
    f (have_ids settings t before g z asked st here) ∙ (ap (number_called e i) (sym opened) ∙ ap (λ n. number_called e i (forwarding_of settings n before).open_requests) (start_at_place t.lasts.items g s z here at))

-- The row

either_nothing : (b : Bool) → Alike (choose b nothing nothing) nothing
either_nothing true = alike_true
either_nothing false = alike_false

module _ (settings : Settings) (before : List Event) (e : ℕ) (body : List ℕ) (params : Option Json) where
  abbrev Silent : Row → Type 0
  Silent row = Alike row nothing

  abbrev named_row : ℕ → Option ℕ → Row
  named_row s o = on o nothing (λ n. send (ToServer s (numbered_text n body)))

  -- no id
  pub nameless : named_id params ≡ None → Silent (cancelling_row settings before e body params)
  nameless h = by_home (home_of settings e before)
    where
      by_start : (start : Option ℕ) → Silent (on start nothing (cancelling_at settings before e body params))
      by_start None = alike refl
      by_start (Some s) = alike_then (alike (ap (λ o. choose (is_ready (life_of s before).stage) (named_row s (option_and_then (λ id. number_called e id (forwarding_of settings s before).open_requests) o)) nothing) h)) (either_nothing (is_ready (life_of s before).stage))

      by_home : (home : Option ℕ) → Silent (on home nothing (λ g. on (start_of g before) nothing (λ s. cancelling_at settings before e body params s)))
      by_home None = alike refl
      by_home (Some g) = by_start (start_of g before)

  -- no start, or one that ended
  pub startless : HasEnded (start_for settings e before) before → Silent (cancelling_row settings before e body params)
  startless h = ended_start (home_of settings e before) (λ g. start_of g before) nothing (λ g s. cancelling_at settings before e body params s) (λ g s at. is_second refl (ap is_ready (h s at)))

  module _ (g s : ℕ) (stage : Stage) (home : home_of settings e before ≡ Some g) (start : start_of g before ≡ Some s) (at : stage ≡ (life_of s before).stage) where
    there : cancelling_row settings before e body params ≡ cancelling_at settings before e body params s
    there = some_start (home_of settings e before) (λ g. start_of g before) nothing (λ g s. cancelling_at settings before e body params s) g s home start

    -- a start that isn't ready
    pub unready_cancel : is_ready stage ≡ false → Silent (cancelling_row settings before e body params)
    unready_cancel r = is_second there (ap is_ready (sym at) ∙ r)

    module _ (id : Id) (o : Option ℕ) (r : is_ready stage ≡ true) (named : named_id params ≡ Some id) (is : o ≡ number_called e id (forwarding_of settings s before).open_requests) where
      number_here : number_named e params (forwarding_of settings s before).open_requests ≡ o
      number_here = ap (λ z. option_and_then (λ i. number_called e i (forwarding_of settings s before).open_requests) z) named ∙ sym is

      row_is : Alike (cancelling_row settings before e body params) (named_row s o)
      row_is = alike_then (is_first there (ap is_ready (sym at) ∙ r)) (alike (ap (named_row s) number_here))

      pub none_open : o ≡ None → Silent (cancelling_row settings before e body params)
      none_open none = alike_then row_is (alike (ap (named_row s) none))

      pub one_open : (n : ℕ) → o ≡ Some n → Alike (cancelling_row settings before e body params) (send (ToServer s (numbered_text n body)))
      one_open n some = alike_then row_is (alike (ap (named_row s) some))

-- The text

id_chars : chars (codes "id") ≡ codes "id"
unfolding chars
id_chars = refl

pub id_edits : (text : List ℕ) (t : Json) → put_edits (λ cs. if bytes_eq (chars (codes "id")) cs then Some text else None) t ≡ put_edits (new_id text) t
id_edits text t = ap (λ z. put_edits (λ cs. if bytes_eq z cs then Some text else None) t) id_chars

pub found_some : (doc : Doc) (o : Option Json) (k : ℕ) → Found doc o (Some k) → (t : Json) × (o ≡ Some t) × At doc k t
found_some doc None k h = absurd h
found_some doc (Some t) k h = (t, refl, h)

-- params that are null have no members
null_puts : (text : List ℕ) (o : Option Json) → id_puts text (not_null o) ≡ id_puts text o
null_puts text None = refl
null_puts text (Some (word s Null)) = refl
null_puts text (Some (word s False)) = refl
null_puts text (Some (word s True)) = refl
null_puts text (Some (number s ds)) = refl
null_puts text (Some (string s cs)) = refl
null_puts text (Some (array s js)) = refl
null_puts text (Some (object s ms)) = refl

pub params_puts : (m : Parsed) (body method : List ℕ) (params : Option Json) (read : IsRead m body) (text : List ℕ) → message_of body ≡ notification method params → id_puts text (params_in (message_of body) read.tree) ≡ id_puts text (params_of body)
params_puts m body method params read text says = ap (λ z. id_puts text (params_in z read.tree)) says ∙ (null_puts text (named_in (codes "params") read.tree) ∙ sym (ap (id_puts text) (read_params m body read)))

-- The cancel goes on

module _ (settings : Settings) (base : List Event) (t u : Tables) (xs ys : List Out) (s n : ℕ) (body text : List ℕ) (params : Option Json) (id : Id) (low : n < 2 ^ 32) where
  -- it names that number, and no other
  abbrev Writes : Option Json → Type 0
  Writes ps = (k : ℕ) → k < 2 ^ 32 → is_written (named_of (codes "id") ps) k ≡ nat_eq k n

  pub cancel_goes : message_of body ≡ notification (codes "$/cancelRequest") params → named_id params ≡ Some id → text ≡ numbered_text n body
      → ((ps : Option Json) → message_of text ≡ notification (codes "$/cancelRequest") ps → Writes ps → Does (λ k events. Stands settings k events) (send (ToServer s text)) base t xs u ys)
      → ((ps : Option Json) → message_of text ≡ notification (codes "$/cancelRequest") ps → DocumentsStand settings nothing_owed t (behind base xs) → DocumentsStand settings nothing_owed u (behind base ys))
      → Does (λ k events. AllStand settings k events) (send (ToServer s (numbered_text n body))) base (t, nothing_owed) xs (u, nothing_owed) ys
  cancel_goes says named is does documents =
      let new : Renumbered n body (codes "$/cancelRequest") = renumbered n body (codes "$/cancelRequest") params (omega (arith, low)) says id named in
      let said : message_of text ≡ notification (codes "$/cancelRequest") (Some new.params) = ap message_of is ∙ new.says in
      subst (λ w. Does (λ k events. AllStand settings k events) (send (ToServer s w)) base (t, nothing_owed) xs (u, nothing_owed) ys) is
      (all_does settings t u nothing_owed nothing_owed base xs ys (does (Some new.params) said (λ k l. ap (λ o. is_written o k) new.names ∙ decimals n k (omega (arith, low)) (omega (arith, l)))) (λ _ d. documents (Some new.params) said d))

-- it changes no document
pub cancel_keeps : (before : List Event) (e : ℕ) (body : List ℕ) (params : Option Json) → message_of body ≡ notification (codes "$/cancelRequest") params → changes_documents before e (message_of body) ≡ false
cancel_keeps before e body params says = ap (λ m. changes_documents before e m) says ∙ and_off (is_served (desk_of e before).phase)
