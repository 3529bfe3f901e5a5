-- Which causes can come by the causes before them alone, in histories in which no editor goes.
use Rattle.std.specs.Prelude.{◌≡◌, ℕ, ◌+◌, Bool, true, false, List, [], ◌∷◌, ◌++◌, nat_eq, nat_lt, Option, Some, None, IsTrue}
use Rattle.mux_history.specs.declared.cause.Cause.{Cause}
use Rattle.mux_history.specs.declared.cause.Cause.TheVariants.{Joined, FromEditor, Started, FromServer, ServerGone}
use Rattle.mux_history.specs.declared.entry.Entry.{Entry}
use Rattle.event_model.specs.Event.{events_of}
use Rattle.event_model.specs.Settings.{Settings}
use Rattle.mux_model.specs.Fits.{fits}
use Rattle.group_facts.specs.SlowRows.{entry_outs}

-- how many editors joined, and the start whose program runs
pub record Comers : Type 0 where
  pub joined : ℕ
  pub running : Option ℕ

abbrev pub no_comers : Comers
no_comers = record { joined = 0; running = None }

abbrev pub is_running_one : ℕ → Option ℕ → Bool
is_running_one s None = false
is_running_one s (Some n) = nat_eq n s

-- editors join in turn, those that joined send, and the program that runs sends and ends; a program that begins is the core's matter
abbrev pub may_come : Comers → Cause → Bool
may_come x (Joined e) = nat_eq e x.joined
may_come x (FromEditor e body) = nat_lt e x.joined
may_come x (FromServer s body) = is_running_one s x.running
may_come x (ServerGone s) = is_running_one s x.running
may_come x (Started s) = true
may_come x other = false

abbrev pub comers_behind : Comers → Cause → Comers
comers_behind x (Joined e) = record { joined = x.joined + 1; running = x.running }
comers_behind x (Started s) = record { joined = x.joined; running = Some s }
comers_behind x (ServerGone s) = record { joined = x.joined; running = None }
comers_behind x other = x

abbrev pub AllCome : Comers → List Cause → Type 0
AllCome x [] = Unit {0}
AllCome x (cause ∷ causes) = (may_come x cause ≡ true) × AllCome (comers_behind x cause) causes

-- a history with the entry of this cause behind it
abbrev pub entry_for : Settings → List Entry → Cause → Entry
entry_for settings history cause = record { cause = cause; outs = entry_outs settings (events_of history) cause }

-- each of these causes can come behind those before it
abbrev pub AllFit : Settings → List Entry → List Cause → Type 0
AllFit settings history [] = Unit {0}
AllFit settings history (cause ∷ causes) = IsTrue (fits history cause) × AllFit settings (history ++ entry_for settings history cause ∷ []) causes

-- a program that begins is one that the core asked for
abbrev pub IsAwaited : List Entry → Cause → Type 0
IsAwaited history (Started s) = IsTrue (fits history (Started s))
IsAwaited history other = Unit {0}

-- each program that begins in these causes
abbrev pub AllAwaited : Settings → List Entry → List Cause → Type 0
AllAwaited settings history [] = Unit {0}
AllAwaited settings history (cause ∷ causes) = IsAwaited history cause × AllAwaited settings (history ++ entry_for settings history cause ∷ []) causes
