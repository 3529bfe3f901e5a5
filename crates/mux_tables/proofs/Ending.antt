-- What ends with the program of a group's last start, as it is kept.
use Rattle.std.proofs.Common.{◌≡◌, ℕ, ◌<◌, Bool, true, false, cond, List, [], ◌∷◌, filter, flat_map, map, length, get_or, refl, ap, ◌∙◌, nat_eq}
use Rattle.std.specs.Prelude.{Some, slice_get}
use Rattle.ask_route.specs.declared.ask.Ask as route
use Rattle.ask_route.specs.Tables as asks
use Rattle.event_model.specs.declared.stage.Stage.TheVariants.{Ready}
use Rattle.event_model.specs.Event.{Event}
use Rattle.event_model.specs.Settings.{Settings}
use Rattle.group_laws.specs.group_rows.specs.Asks.{Ask, asks_of, is_with}
use Rattle.mux_tables.specs.declared.tables.Start.{Start}
use Rattle.mux_tables.specs.declared.tables.Tables.{Tables}
use Rattle.mux_tables.specs.Losses.{open_asks}
use Rattle.mux_tables.specs.Stands.{AsksStand, Stands, kept_ask, of_asks}
use Rattle.mux_tables.proofs.Refusing.{ready_asks}
use Rattle.mux_tables.proofs.Starts.{read_same}

numbers_so : (e : ℕ) (qs : List Ask) → asks.numbers_of e (map kept_ask qs) ≡ open_asks e qs
numbers_so e [] = refl
numbers_so e (a ∷ qs) = go (nat_eq a.editor e) (numbers_so e qs)
  where
    go : (b : Bool) → asks.numbers_of e (map kept_ask qs) ≡ open_asks e qs
        → flat_map (λ (ask : route.Ask). asks.number_in (asks.seat_of ask)) (cond b (kept_ask a ∷ filter (asks.is_with (Some e)) (map kept_ask qs)) (filter (asks.is_with (Some e)) (map kept_ask qs)))
        ≡ map (λ (q : Ask). q.number) (cond b (a ∷ filter (is_with e) qs) (filter (is_with e) qs))
    go true h = ap (λ ns. a.number ∷ ns) h
    go false h = h

pub asks_seen : (settings : Settings) (t : Tables) (events : List Event) (g e : ℕ) (x z : Start) → slice_get t.lasts.items g ≡ Some x → g < length t.lasts.items → z ≡ get_or t.lasts.items g z → x.life.stage ≡ Ready → Stands settings t events
    → asks.numbers_of e z.asks ≡ open_asks e (asks_of settings x.life.start events)
asks_seen settings t events g e x z at within read ready st =
    let kept : AsksStand events (asks_of settings x.life.start events) x.asks = ready_asks x.life.stage events (asks_of settings x.life.start events) x.asks ready ((st.lasts.each g x at).parts of_asks) in
    ap (λ (w : Start). asks.numbers_of e w.asks) (read_same t.lasts.items g z x within read at) ∙ (ap (λ (ks : List route.Ask). asks.numbers_of e ks) kept.same ∙ numbers_so e (asks_of settings x.life.start events))
