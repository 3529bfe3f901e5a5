-- E11: the work of a token that a start created, and the row.
use Rattle.std.proofs.Common.{◌≡◌, ℕ, Bool, true, false, cond, List, [], ◌∷◌, codes, find, map, refl, ap, ap₂, arith, sym, subst, ◌∙◌}
use Rattle.std.specs.Prelude.{Option, Some, None, option_map, slice_get}
use Rattle.std.specs.List.{AllByRecursion}
use Rattle.std.proofs.lemmas.Bool.Decides.{nat_tests}
use Rattle.json_text.specs.Json.{Json}
use Rattle.mux_history.specs.declared.out.Out.TheVariants.{ToServer}
use Rattle.rpc_message.specs.Message.{message_of, notification}
use Rattle.event_model.specs.declared.stage.Stage.TheVariants.{Ready}
use Rattle.event_model.specs.Does.{Alike}
use Rattle.event_model.specs.Event.{Event}
use Rattle.event_model.specs.Members.{named_of}
use Rattle.event_model.specs.Row.{Row, choose, nothing, on, send}
use Rattle.event_model.specs.Settings.{Settings}
use Rattle.event_model.specs.Stages.{is_ready}
use Rattle.event_model.proofs.Turns.{alike, alike_false, alike_then, alike_true}
use Rattle.group_rows.specs.Created.{Created, Token, created_of, has_accepted, is_marked, is_numbered}
use Rattle.group_rows.specs.CreatedRows.{cancel_created, created_work, work_row}
use Rattle.group_rows.specs.Tokens.{marked_text}
use Rattle.group_rows.proofs.CreatedKept.{IsWritten, found_one, tokens_written}
use Rattle.group_rows.proofs.TokenTexts.{IsTokenText, marked_says}
use Rattle.group_words.specs.Houses.{home_of}
use Rattle.mux_tables.specs.declared.tables.Start.{Start}
use Rattle.mux_tables.specs.declared.tables.Tables.{Tables}
use Rattle.mux_tables.specs.Stands.{Stands, number_in}
use Rattle.mux_tables.proofs.DocumentOwed.{number_there}
use Rattle.mux_tables.proofs.Homes.{group_seen}
use Rattle.mux_tables.proofs.Lasts.{same_place}
use Rattle.mux_turns.specs.Creates.{CreatedAt}
use Rattle.mux_turns.proofs.Stays.{kept_stage}
use Rattle.mux_editors.specs.declared.worked.Work.{Work}
use Rattle.mux_editors.specs.Works.{Goes, created_work_row}
use Rattle.mux_editors.proofs.Working.{created_is}

module _ (s : ℕ) (named : Option Json) where
  unmarked_in : (ts : List Token) → AllByRecursion IsWritten ts → CreatedAt s named None → find (is_marked s named) ts ≡ None
  unmarked_in [] h at = refl
  unmarked_in (t ∷ ts) h at = ap (λ b. cond b (Some t) (find (is_marked s named) ts)) (at t.number h.0.small) ∙ unmarked_in ts h.1 at

  marked_in : (k : ℕ) (ts : List Token) → AllByRecursion IsWritten ts → CreatedAt s named (Some k) → find (is_marked s named) ts ≡ find (is_numbered k) ts
  marked_in k [] h at = refl
  marked_in k (t ∷ ts) h at = ap (λ b. cond b (Some t) (find (is_marked s named) ts)) (at t.number h.0.small) ∙ ap (λ o. cond (is_numbered k t) (Some t) o) (marked_in k ts h.1 at)

found_numbered : (k : ℕ) (ts : List Token) (t : Token) → find (is_numbered k) ts ≡ Some t → t.number ≡ k
found_numbered k [] t is = absurd (cc)
found_numbered k (u ∷ ts) t is = go (is_numbered k u) refl is (found_numbered k ts t)
  where
    go : (b : Bool) → is_numbered k u ≡ b → cond b (Some u) (find (is_numbered k) ts) ≡ Some t → (find (is_numbered k) ts ≡ Some t → t.number ≡ k) → t.number ≡ k
    go true same e rest = let here : u ≡ t = cc in subst (λ (v : Token). v.number ≡ k) here (let is : u.number ≡ k = grind (arith, nat_tests) in is)
    go false other e rest = rest e

module _ (settings : Settings) (before : List Event) (e : ℕ) (body : List ℕ) (params : Option Json) (s : ℕ) where
  abbrev created : Created
  created = created_of settings s before

  abbrev named : Option Json
  named = named_of (codes "token") params

  abbrev cancels : Option Token → Row
  cancels o = on o nothing (cancel_created settings before e body s)

  -- it names no token of this start's
  pub unmarked_work : CreatedAt s named None → Alike (created_work settings before e body params s) nothing
  unmarked_work at = alike (ap cancels (unmarked_in s named created.tokens (tokens_written settings s before) at))

  module _ (k : ℕ) (at : CreatedAt s named (Some k)) where
    row_is : created_work settings before e body params s ≡ cancels (find (is_numbered k) created.tokens)
    row_is = ap cancels (marked_in s named k created.tokens (tokens_written settings s before) at)

    -- one that the editor didn't accept
    pub untaken_work : has_accepted e k created ≡ false → Alike (created_work settings before e body params s) nothing
    untaken_work off = alike_then (alike row_is) (go (find (is_numbered k) created.tokens) refl)
      where
        go : (o : Option Token) → find (is_numbered k) created.tokens ≡ o → Alike (cancels o) nothing
        go None is = alike refl
        go (Some t) is = alike_then (alike (ap (λ b. choose b (send (ToServer s (marked_text t.text body))) nothing) (ap (λ n. has_accepted e n created) (found_numbered k created.tokens t is) ∙ off))) alike_false

    -- one that doesn't live
    pub dead_work : None ≡ option_map (λ (t : Token). t.text) (find (is_numbered k) created.tokens) → Alike (created_work settings before e body params s) nothing
    dead_work none = alike_then (alike row_is) (go (find (is_numbered k) created.tokens) none)
      where
        go : (o : Option Token) → None ≡ option_map (λ (t : Token). t.text) o → Alike (cancels o) nothing
        go None is = alike refl
        go (Some t) is = absurd (cc)

    -- one that it accepted
    pub taken_work : (text : List ℕ) → has_accepted e k created ≡ true → Some text ≡ option_map (λ (t : Token). t.text) (find (is_numbered k) created.tokens) → Alike (created_work settings before e body params s) (send (ToServer s (marked_text text body)))
    taken_work text on some = alike_then (alike row_is) (go (find (is_numbered k) created.tokens) refl some)
      where
        go : (o : Option Token) → find (is_numbered k) created.tokens ≡ o → Some text ≡ option_map (λ (t : Token). t.text) o → Alike (cancels o) (send (ToServer s (marked_text text body)))
        go None is some = absurd (cc)
        go (Some t) is some =
            let own : text ≡ t.text = cc in
            alike_then (alike (ap (λ b. choose b (send (ToServer s (marked_text t.text body))) nothing) (ap (λ n. has_accepted e n created) (found_numbered k created.tokens t is) ∙ on)))
            (alike_then alike_true (alike (ap (λ w. send (ToServer s (marked_text w body))) (sym own))))

-- its bytes are a token's
written_text : (k : ℕ) (ts : List Token) (text : List ℕ) → AllByRecursion IsWritten ts → Some text ≡ option_map (λ (t : Token). t.text) (find (is_numbered k) ts) → IsTokenText text
written_text k ts text h some = go (find (is_numbered k) ts) refl some
  where
    go : (o : Option Token) → find (is_numbered k) ts ≡ o → Some text ≡ option_map (λ (t : Token). t.text) o → IsTokenText text
    go None is some = absurd (cc)
    go (Some t) is some = subst IsTokenText (let own : t.text ≡ text = cc in own) (found_one IsWritten (is_numbered k) t ts h is).text

-- The row at the last start of the editor's group, which is ready, where no open request is meant
module _ (settings : Settings) (t : Tables) (before : List Event) (e : ℕ) (body : List ℕ) (params : Option Json) (g : ℕ) (x : Start) (here : slice_get t.lasts.items g ≡ Some x) (ready : x.life.stage ≡ Ready) (home : home_of settings e before ≡ Some x.life.group)
    (st : Stands settings t before) (works : Alike (work_row settings before e body params) (created_work_row settings before e body params)) where
  abbrev s : ℕ
  s = x.life.start

  row_here : Alike (work_row settings before e body params) (created_work settings before e body params s)
  row_here = alike_then works (created_is settings before e body params x.life.group s home (group_seen settings t before g s x st here (number_there t.lasts.items g x here)).1 (ap is_ready (kept_stage settings t before g x st here) ∙ ap is_ready ready))

  module _ (n : ℕ) (own : n ≡ s) where
    pub unmarked_here : CreatedAt n (named_of (codes "token") params) None → Alike (work_row settings before e body params) nothing
    unmarked_here at = alike_then row_here (unmarked_work settings before e body params s (subst (λ m. CreatedAt m (named_of (codes "token") params) None) own at))

    module _ (k : ℕ) (at : CreatedAt n (named_of (codes "token") params) (Some k)) where
      at_here : CreatedAt s (named_of (codes "token") params) (Some k)
      at_here = subst (λ m. CreatedAt m (named_of (codes "token") params) (Some k)) own at

      pub untaken_here : has_accepted e k (created_of settings s before) ≡ false → Alike (work_row settings before e body params) nothing
      untaken_here off = alike_then row_here (untaken_work settings before e body params s k at_here off)

      pub dead_here : None ≡ option_map (λ (t : Token). t.text) (find (is_numbered k) (created_of settings s before).tokens) → Alike (work_row settings before e body params) nothing
      dead_here none = alike_then row_here (dead_work settings before e body params s k at_here none)

      -- it goes on
      pub goes_here : message_of body ≡ notification (codes "window/workDoneProgress/cancel") params → (text : List ℕ) (work : Work) → has_accepted e k (created_of settings s before) ≡ true
          → Some text ≡ option_map (λ (t : Token). t.text) (find (is_numbered k) (created_of settings s before).tokens) → work.group ≡ g → work.text ≡ marked_text text body → Goes settings before e body params (map number_in t.lasts.items) (Some work)
      goes_here says text work on some place is =
          let new = marked_says text body (codes "window/workDoneProgress/cancel") params (written_text k (created_of settings s before).tokens text (tokens_written settings s before) some) says in (
            (new.0, ap message_of is ∙ new.1),
            λ m there.
                let same = same_place (sym (number_there t.lasts.items g x here) ∙ (ap (slice_get (map number_in t.lasts.items)) (sym place) ∙ there)) in
                alike_then row_here (alike_then (taken_work settings before e body params s k at_here text on some) (alike (ap₂ (λ i w. send (ToServer i w)) same (sym is)))),
          )
