-- S13: what a start tells of an open request, by its row.
use Rattle.std.proofs.Common.{◌≡◌, ℕ, Bool, true, false, cond, List, [], ◌∷◌, filter, find, refl, ap, sym, subst, ◌∙◌, codes, if◌then◌else◌}
use Rattle.std.specs.Prelude.{Option, Some, None, is_some}
use Rattle.std.specs.List.{AllByRecursion}
use Rattle.std.specs.Option.{option_map}
use Rattle.json_text.specs.Json.{Json}
use Rattle.mux_history.specs.declared.out.Out.TheVariants.{ToEditor}
use Rattle.rpc_message.specs.Message.{Id, message_of, notification}
use Rattle.event_model.specs.Does.{Alike}
use Rattle.event_model.specs.Event.{Event}
use Rattle.event_model.specs.Members.{named_of}
use Rattle.event_model.specs.Row.{each, nothing, on, send}
use Rattle.event_model.specs.Settings.{Settings}
use Rattle.event_model.specs.Spawns.{group_of}
use Rattle.event_model.proofs.Frames.{never}
use Rattle.event_model.proofs.Turns.{alike, alike_then}
use Rattle.group_rows.specs.AskRows.{broadcast}
use Rattle.group_rows.specs.Asks.{running_in}
use Rattle.group_rows.specs.Created.{Created, Token, created_of, created_text, has_accepted, named_token, token_called}
use Rattle.group_rows.specs.CreatedRows.{created_row, takers, tell, tell_takers}
use Rattle.group_rows.specs.Forwarded.{Forwarded, forwarding_of}
use Rattle.group_rows.specs.Tokens.{is_mark, is_told, marked_text, own_token, partial_mark, tell_progress, work_mark}
use Rattle.group_rows.proofs.TokenTexts.{HasTokens, IsTokenText, marked_says, tokens_kept}
use Rattle.mux_starts.specs.declared.creates.Due.{Due}
use Rattle.mux_starts.specs.declared.progress.Telling.{Telling}
use Rattle.mux_starts.specs.Creates.{Dues}
use Rattle.mux_starts.specs.Progress.{Passes}
use Rattle.mux_tables.specs.Tokens.{IsTold}

-- what is found passes what all do
found_has : (P : Forwarded → Type 0) (test : Forwarded → Bool) (fs : List Forwarded) (f : Forwarded) → AllByRecursion P fs → find test fs ≡ Some f → P f
found_has P test [] f all is = absurd (cc)
found_has P test (b ∷ fs) f all is = go (test b) is (λ k. found_has P test fs f all.1 k)
  where
    go : (c : Bool) → cond c (Some b) (find test fs) ≡ Some f → (find test fs ≡ Some f → P f) → P f
    go true k rest = let same : b ≡ f = cc in subst P same all.0
    go false k rest = rest k

-- an editor's own token is the text of an integer or a string
own_text : (token : Option Json) (f : Forwarded) (text : List ℕ) → HasTokens f → own_token token f ≡ Some text → IsTokenText text
own_text token f text has is = go (is_mark token (work_mark f.number)) (is_mark token (partial_mark f.number)) is
  where
    go : (a b : Bool) → (if a then f.work else if b then f.partial else None) ≡ Some text → IsTokenText text
    go true b e = has.work text e
    go false true e = has.partial text e
    go false false e = absurd (cc)

module _ (settings : Settings) (s : ℕ) (before : List Event) (body method : List ℕ) (params : Option Json) where
  abbrev token : Option Json
  token = named_of (codes "token") params

  pub passes_nothing : find (is_told before token) (forwarding_of settings s before).open_requests ≡ None → Passes settings s before body method params None
  passes_nothing none = alike (ap (λ o. on o (created_row settings s before body params) (tell_progress body token)) none)

  pub passes_one : (x : Telling) (own : List ℕ) → IsTold before token (forwarding_of settings s before).open_requests x.editor own → message_of body ≡ notification method params → x.text ≡ marked_text own body → Passes settings s before body method params (Some x)
  passes_one x own told says is =
      let f = told.request in
      let text = own_text token f own (found_has HasTokens (is_told before token) (forwarding_of settings s before).open_requests f (tokens_kept settings s before) told.found) told.own in
      let new = marked_says own body method params text says in
      let row = ap (λ o. on o (created_row settings s before body params) (tell_progress body token)) told.found ∙ ap (λ o. on o nothing (λ w. send (ToEditor f.editor (marked_text w body)))) told.own in
      ((new.0, ap message_of is ∙ new.1), alike_then (alike row) (alike (ap (λ n. send (ToEditor n (marked_text own body))) told.asker ∙ ap (λ w. send (ToEditor x.editor w)) (sym is))))

-- S13: of a token that the start created

-- no live token has its number
pub not_called : (o : Option Token) → None ≡ option_map (λ (t : Token). t.number) o → o ≡ None
not_called None h = refl
not_called (Some t) h = absurd (cc)

called_so : (o : Option Token) (k : ℕ) → Some k ≡ option_map (λ (t : Token). t.number) o → (t : Token) × (o ≡ Some t) × (k ≡ t.number)
called_so None k h = absurd (cc)
called_so (Some t) k h = (t, refl, (let same : k ≡ t.number = cc in same))

module _ (settings : Settings) (before : List Event) (g s : ℕ) (params : Option Json) where
  abbrev x : Created
  x = created_of settings s before

  pub due_is : (i : Id) (d : Due) → named_token params ≡ Some i → Some d.token ≡ option_map (λ (t : Token). t.number) (token_called (Some i) x) → (numbers : List ℕ) → numbers ≡ running_in settings g before → d.editors.items ≡ filter (λ e. has_accepted e d.token x) numbers
      → Dues settings before g s params (Some d)
  due_is i d named some numbers those is =
      let t = called_so (token_called (Some i) x) d.token some in
      record {
        token = t.0;
        called = ap (λ o. token_called o x) named ∙ t.1;
        number = t.2;
        editors = is ∙ (ap (λ n. filter (λ e. has_accepted e n x) numbers) t.2 ∙ ap (filter (λ e. has_accepted e t.0.number x)) those);
      }

  -- whether there is one
  pub due_seen : (o : Option Due) → Dues settings before g s params o → is_some o ≡ is_some (token_called (named_token params) x)
  due_seen None h = ap is_some (sym h)
  due_seen (Some d) h = ap is_some (sym h.called)

  pub undue : is_some (token_called (named_token params) x) ≡ false → token_called (named_token params) x ≡ None
  undue h = go (token_called (named_token params) x) h
    where
      go : (o : Option Token) → is_some o ≡ false → o ≡ None
      go None h = refl
      go (Some t) h = never h

  pub unnamed_due : named_token params ≡ None → is_some (token_called (named_token params) x) ≡ true → ⊥
  unnamed_due none lives = clash (sym (ap (λ o. is_some (token_called o x)) none) ∙ lives)
    where
      clash : false ≡ true → ⊥
      clash h = cc

  -- the row, by what is told
  module _ (body : List ℕ) where
    pub tells_nothing : Dues settings before g s params None → Alike (created_row settings s before body params) nothing
    tells_nothing none = alike (ap (λ o. on o nothing (tell_takers settings before s body)) none)

    pub tells_those : (d : Due) → group_of s before ≡ Some g → Dues settings before g s params (Some d) → Alike (created_row settings s before body params) (each (broadcast (marked_text (created_text s d.token) body)) d.editors.items)
    tells_those d kept h = alike (ap (λ o. on o nothing (tell_takers settings before s body)) h.called
        ∙ (ap (λ o. on o nothing (λ p. each (λ e. tell s h.token.number e body) (takers settings before p s h.token))) kept
        ∙ (ap (λ n. each (broadcast (marked_text (created_text s n) body)) (takers settings before g s h.token)) (sym h.number)
        ∙ ap (each (broadcast (marked_text (created_text s d.token) body))) (sym h.editors))))
