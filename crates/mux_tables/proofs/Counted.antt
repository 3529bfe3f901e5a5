-- How often editors were asked, one event further.
use Rattle.std.proofs.Common.{◌≡◌, ℕ, ◌+◌, true, false, List, [], ◌∷◌, ◌++◌, refl, ap, sym, subst, ◌∙◌, nat_eq, if◌then◌else◌}
use Rattle.std.specs.Prelude.{Option, Some, slice_get, slice_set}
use Rattle.std.proofs.lemmas.Option.{slice_get_within}
use Rattle.mux_history.specs.declared.out.Out.TheVariants.{ToEditor}
use Rattle.rpc_message.specs.Message.{Message, request}
use Rattle.event_model.specs.Event.{Event, did}
use Rattle.event_model.proofs.Frames.{never, one_more}
use Rattle.event_model.proofs.Places.{Same, same, other, compare, get_set_same, get_set_other}
use Rattle.editor_session.specs.declared.session.Session.{Session}
use Rattle.editor_session.specs.Sessions.{is_gone}
use Rattle.group_words.proofs.Frames.{itself}
use Rattle.group_laws.specs.group_rows.specs.Asks.{asked_behind, next_ask}
use Rattle.mux_tables.specs.Stands.{CountStands, is_request}

pub next_more : (e : ℕ) (events : List Event) (ev : Event) → next_ask e (events ++ ev ∷ []) ≡ asked_behind e (next_ask e events) ev
next_more e events ev = one_more (asked_behind e) _ _ events ev refl

-- a body that is no request
pub asked_quiet : (e n k : ℕ) (body : List ℕ) (m : Message) → is_request m ≡ false → asked_behind e n (did (ToEditor k body) m) ≡ n
asked_quiet e n k body (request id method ps) h = never h
asked_quiet e n k body rest h = refl

-- one that is
pub asked_more : (e n : ℕ) (body : List ℕ) (m : Message) → is_request m ≡ true → asked_behind e n (did (ToEditor e body) m) ≡ n + 1
asked_more e n body (request id method ps) h = ap (λ b. if b then n + 1 else n) (itself e)
asked_more e n body rest h = never (sym h)

pub asked_apart : (e n k : ℕ) (body : List ℕ) (m : Message) → nat_eq k e ≡ false → asked_behind e n (did (ToEditor k body) m) ≡ n
asked_apart e n k body (request id method ps) h = ap (λ b. if b then n + 1 else n) h
asked_apart e n k body rest h = refl

pub counted_same : (kept : Option Session) (n m : ℕ) → m ≡ n → CountStands kept n → CountStands kept m
counted_same kept n m e s there = e ∙ s there

-- a session that is set: where it isn't gone it wasn't before, and was asked as often
pub counted_set : (t : List Session) (e : ℕ) (x y : Session) → slice_get t e ≡ Some x → (is_gone y.phase ≡ false → (is_gone x.phase ≡ false) × (y.asks ≡ x.asks)) → (j n m : ℕ) → m ≡ n → CountStands (slice_get t j) n → CountStands (slice_get (slice_set t e y) j) m
counted_set t e x y at h j n m q s = go j (compare e j) s
  where
    go : (j : ℕ) → Same e j → CountStands (slice_get t j) n → CountStands (slice_get (slice_set t e y) j) m
    go _ same s = subst (λ (o : Option Session). CountStands o m) (sym (get_set_same t e y (slice_get_within t e x at)))
        (λ there. let was : CountStands (Some x) n = subst (λ (o : Option Session). CountStands o n) at s in q ∙ (was (h there).0 ∙ ap (λ k. k + 1) (sym (h there).1)))
    go j (other d) s = subst (λ (o : Option Session). CountStands o m) (sym (get_set_other t e j y d)) (λ there. q ∙ s there)
