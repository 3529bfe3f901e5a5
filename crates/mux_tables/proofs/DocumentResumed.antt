-- The documents of the groups, where what waits at a start is asked of an editor.
use Rattle.std.proofs.Common.{◌≡◌, ℕ, zero, suc, ◌<◌, List, [], ◌∷◌, ◌++◌, map, length, get_or, refl, ap, sym, subst, ◌∙◌, arith, decimal}
use Rattle.std.specs.Prelude.{Option, Some, None, slice_get, slice_set}
use Rattle.std.proofs.lemmas.List.{length-set}
use Rattle.ask_route.specs.declared.ask.Ask as route
use Rattle.ask_route.specs.declared.ask.Place.{Place}
use Rattle.ask_route.specs.declared.ask.Place.TheVariants.{Asked, Parked}
use Rattle.mux_history.specs.declared.out.Out.{Out}
use Rattle.mux_history.specs.declared.out.Out.TheVariants.{ToEditor}
use Rattle.rpc_message.specs.Texts.{with_id_text}
use Rattle.event_model.specs.Event.{Event, behind}
use Rattle.event_model.specs.Settings.{Settings}
use Rattle.editor_session.specs.declared.session.Session.{Session}
use Rattle.editor_session.specs.Sessions.{next_ask, session_of}
use Rattle.mux_tables.specs.declared.tables.Start.{Start}
use Rattle.mux_tables.specs.declared.tables.Tables.{Tables}
use Rattle.mux_tables.specs.Documents.{DocumentsStand, Owed}
use Rattle.mux_tables.specs.Resumes.{Resuming, all_resumed, renumbered, resumed, resumed_at, unasked}
use Rattle.mux_tables.proofs.DocumentMoves.{documents_last}
use Rattle.mux_tables.proofs.DocumentSaid.{told_documents}
use Rattle.mux_tables.proofs.Refusing.{rest_same}

-- the start keeps all but what it asked, and what waits there
start_at : (e : ℕ) (x : Resuming) (id : List ℕ) (place : Place) (asks parked : List route.Ask) → record (resumed_at e id x place).start { asks = asks; parked = parked } ≡ record x.start { asks = asks; parked = parked }
start_at e x id (Asked seat) asks parked = refl
start_at e x id (Parked body) asks parked = go (next_ask (session_of x.editors e))
  where
    go : (o : Option ℕ) → record (renumbered e id body x o).start { asks = asks; parked = parked } ≡ record x.start { asks = asks; parked = parked }
    go None = refl
    go (Some n) = refl

pub start_form : (e : ℕ) (x : Resuming) (ks : List route.Ask) → (all_resumed e x ks).start ≡ record x.start { asks = (all_resumed e x ks).start.asks; parked = (all_resumed e x ks).start.parked }
start_form e x [] = refl
start_form e x (k ∷ ks) = start_form e (resumed e x k) ks ∙ start_at e x k.id k.place (all_resumed e x (k ∷ ks)).start.asks (all_resumed e x (k ∷ ks)).start.parked

pub life_kept : (e : ℕ) (es now : List Session) (z y : Start) (left ks : List route.Ask) (xs ys : List Out) → ◌≡◌ {A = Resuming} (record { editors = now; start = y; outs = ys }) (all_resumed e (record { editors = es; start = record z { parked = left }; outs = xs }) ks) → y.life ≡ z.life
life_kept e es now z y left ks xs ys is = ap (λ (w : Resuming). w.start.life) is ∙ ap (λ (w : Start). w.life) (start_form e (record { editors = es; start = record z { parked = left }; outs = xs }) ks)

pub rest_kept : (e : ℕ) (es now : List Session) (z y : Start) (left ks : List route.Ask) (xs ys : List Out) → ◌≡◌ {A = Resuming} (record { editors = now; start = y; outs = ys }) (all_resumed e (record { editors = es; start = record z { parked = left }; outs = xs }) ks) → unasked y ≡ unasked z
rest_kept e es now z y left ks xs ys is = ap (λ (w : Resuming). unasked w.start) is ∙ ap unasked (start_form e (record { editors = es; start = record z { parked = left }; outs = xs }) ks)

pub rests_stay : (xs : List Start) (g : ℕ) (z y : Start) → g < length xs → z ≡ get_or xs g z → unasked y ≡ unasked z → map unasked (slice_set xs g y) ≡ map unasked xs
rests_stay [] g z y h e k = absurd (omega arith)
rests_stay (x ∷ xs) zero z y h e k = ap (λ n. n ∷ map unasked xs) (k ∙ ap unasked e)
rests_stay (x ∷ xs) (suc g) z y h e k = ap (λ ns. unasked x ∷ ns) (rests_stay xs g z y (omega arith) e k)

-- there are as many editors
long_at : (e : ℕ) (x : Resuming) (id : List ℕ) (place : Place) → length (resumed_at e id x place).editors ≡ length x.editors
long_at e x id (Asked seat) = refl
long_at e x id (Parked body) = go (next_ask (session_of x.editors e))
  where
    go : (o : Option ℕ) → length (renumbered e id body x o).editors ≡ length x.editors
    go None = length-set x.editors e _
    go (Some n) = length-set x.editors e _

pub as_long : (e : ℕ) (x : Resuming) (ks : List route.Ask) → length (all_resumed e x ks).editors ≡ length x.editors
as_long e x [] = refl
as_long e x (k ∷ ks) = as_long e (resumed e x k) ks ∙ long_at e x k.id k.place

-- no body to an editor tells of a document
module _ (settings : Settings) (owed : Owed) (t : Tables) (base : List Event) (e : ℕ) where
  told_at : (x : Resuming) (id : List ℕ) (place : Place) → DocumentsStand settings owed t (behind base x.outs) → DocumentsStand settings owed t (behind base (resumed_at e id x place).outs)
  told_at x id (Asked seat) h = h
  told_at x id (Parked body) h = go (next_ask (session_of x.editors e))
    where
      go : (o : Option ℕ) → DocumentsStand settings owed t (behind base (renumbered e id body x o).outs)
      go None = h
      go (Some n) = told_documents settings owed t t base x.outs (x.outs ++ ToEditor e (with_id_text body (decimal n)) ∷ []) e (with_id_text body (decimal n)) refl refl refl refl h

  all_told : (x : Resuming) (ks : List route.Ask) → DocumentsStand settings owed t (behind base x.outs) → DocumentsStand settings owed t (behind base (all_resumed e x ks).outs)
  all_told x [] h = h
  all_told x (k ∷ ks) h = all_told (resumed e x k) ks (told_at x k.id k.place h)

pub resumed_documents : (settings : Settings) (owed : Owed) (t u : Tables) (base : List Event) (g e : ℕ) (z y : Start) (left ks : List route.Ask) (xs ys : List Out) → slice_get t.lasts.items g ≡ Some z → ◌≡◌ {A = Resuming} (record { editors = u.editors; start = y; outs = ys }) (all_resumed e (record { editors = t.editors; start = record z { parked = left }; outs = xs }) ks)
    → u.lasts.items ≡ slice_set t.lasts.items g y → u.documents ≡ t.documents → u.versions ≡ t.versions → DocumentsStand settings owed t (behind base xs) → DocumentsStand settings owed u (behind base ys)
resumed_documents settings owed t u base g e z y left ks xs ys at is set ds vs h =
    let x : Resuming = record { editors = t.editors; start = record z { parked = left }; outs = xs } in
    let there : behind base (all_resumed e x ks).outs ≡ behind base ys = ap (λ (w : Resuming). behind base w.outs) (sym is) in
    let form : y ≡ record z { asks = (all_resumed e x ks).start.asks; parked = (all_resumed e x ks).start.parked } = ap (λ (w : Resuming). w.start) is ∙ start_form e x ks in
    documents_last settings owed owed t u (behind base ys) (behind base ys) (rest_same settings t (behind base ys)) vs g z (record z { asks = (all_resumed e x ks).start.asks; parked = (all_resumed e x ks).start.parked }) at
    (set ∙ ap (slice_set t.lasts.items g) form) (ap (λ v. v.items) ds) (λ n. n) (λ d k. k) (λ j w c away has k. k)
    (subst (λ es. DocumentsStand settings owed t es) there (all_told settings owed t base e x ks h))
