-- Which documents' last lists at editors aren't empty, one event further.
use Rattle.std.proofs.Common.{◌≡◌, ℕ, Bool, true, false, ◌&&◌, List, [], ◌∷◌, ◌++◌, refl, ap, sym, subst, ◌∙◌, nat_eq, if◌then◌else◌}
use Rattle.std.specs.Prelude.{Option, Some, slice_get, slice_set}
use Rattle.std.proofs.lemmas.Option.{slice_get_within}
use Rattle.mux_history.specs.declared.out.Out.TheVariants.{ToEditor}
use Rattle.rpc_message.specs.Message.{Message, notification, request}
use Rattle.event_model.specs.Event.{Event, did}
use Rattle.event_model.proofs.Frames.{never, one_more}
use Rattle.event_model.proofs.Places.{Same, same, other, compare, get_set_same, get_set_other}
use Rattle.diagnostics_route.specs.Published.{published}
use Rattle.editor_session.specs.declared.session.Session.{Session}
use Rattle.editor_session.specs.number_index.specs.Numbers.{numbers_under}
use Rattle.editor_session.specs.Sessions.{is_gone}
use Rattle.group_laws.specs.group_rows.specs.ExitRows.{full_behind, full_by, is_full}
use Rattle.group_laws.specs.group_rows.specs.Lists.{is_publishing}
use Rattle.mux_tables.specs.Stands.{FullStands, is_request, is_traced, noted_for}

pub full_more : (e : ℕ) (u : List ℕ) (events : List Event) (ev : Event) → is_full e u (events ++ ev ∷ []) ≡ full_behind e u (is_full e u events) ev
full_more e u events ev = one_more (full_behind e u) _ _ events ev refl

-- a body that is no list, by which no request is sent either
pub untraced_asks : (m : Message) → is_traced m ≡ false → is_request m ≡ false
untraced_asks (request id method params) h = never h
untraced_asks rest h = refl

pub untraced_full : (e k : ℕ) (u : List ℕ) (full : Bool) (body : List ℕ) (m : Message) → is_traced m ≡ false → full_behind e u full (did (ToEditor k body) m) ≡ full
untraced_full e k u full body (notification method params) h = ap (λ b. if nat_eq k e && b then full_by (published 0 body) u full else full) h ∙ off (nat_eq k e)
  where
    off : (b : Bool) → (if b && false then full_by (published 0 body) u full else full) ≡ full
    off true = refl
    off false = refl
untraced_full e k u full body rest h = refl

-- a request
pub asked_full : (e k : ℕ) (u : List ℕ) (full : Bool) (body : List ℕ) (m : Message) → is_request m ≡ true → full_behind e u full (did (ToEditor k body) m) ≡ full
asked_full e k u full body (request id method params) h = refl
asked_full e k u full body rest h = never (sym h)

-- what another editor is sent
pub apart_full : (e k : ℕ) (u : List ℕ) (full : Bool) (body : List ℕ) (m : Message) → nat_eq k e ≡ false → full_behind e u full (did (ToEditor k body) m) ≡ full
apart_full e k u full body (notification method params) h = ap (λ b. if b && is_publishing method then full_by (published 0 body) u full else full) h
apart_full e k u full body rest h = refl

pub full_same : (kept : Option Session) (f g : List ℕ → Bool) → ((u : List ℕ) → g u ≡ f u) → FullStands kept f → FullStands kept g
full_same kept f g alike s there u = s there u ∙ ap noted_for (sym (alike u))

-- a session that is set: where it isn't gone it wasn't before, and the same was noted of it
pub full_set : (t : List Session) (e : ℕ) (x y : Session) → slice_get t e ≡ Some x → (is_gone y.phase ≡ false → (is_gone x.phase ≡ false) × (y.full ≡ x.full)) → (j : ℕ) (f g : List ℕ → Bool) → ((u : List ℕ) → g u ≡ f u) → FullStands (slice_get t j) f → FullStands (slice_get (slice_set t e y) j) g
full_set t e x y at h j f g alike s = go j (compare e j) s
  where
    go : (j : ℕ) → Same e j → FullStands (slice_get t j) f → FullStands (slice_get (slice_set t e y) j) g
    go _ same s = subst (λ (o : Option Session). FullStands o g) (sym (get_set_same t e y (slice_get_within t e x at)))
        (λ there u. let was : FullStands (Some x) f = subst (λ (o : Option Session). FullStands o f) at s in ap (numbers_under u) (h there).1 ∙ (was (h there).0 u ∙ ap noted_for (sym (alike u))))
    go j (other d) s = subst (λ (o : Option Session). FullStands o g) (sym (get_set_other t e j y d)) (λ there u. s there u ∙ ap noted_for (sym (alike u)))
