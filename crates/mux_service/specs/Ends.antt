-- Why a daemon over a hub ended: which editor asked for its stop, and which cause couldn't be numbered.
use Rattle.std.specs.Prelude.{◌≡◌, ℕ, true, false, List, ◌∷◌, ◌++◌, codes}
use Rattle.mux_history.specs.declared.cause.Cause.{Cause}
use Rattle.mux_history.specs.declared.cause.Cause.TheVariants.{FromEditor}
use Rattle.mux_history.specs.declared.entry.Entry.{Entry}
use Rattle.mux_history.specs.declared.out.Out.{Out}
use Rattle.mux_history.specs.declared.out.Out.TheVariants.{ToEditor}
use Rattle.event_model.specs.Settings.{Settings}
use Rattle.event_model.specs.rpc_message.specs.Message.{id_bytes}
use Rattle.event_model.specs.rpc_message.specs.Texts.{ok_text}
use Rattle.mux_model.specs.Fits.{fits}
use Rattle.mux_hub.specs.Entries.{asks_stop, passes}

-- the editor asked for a stop, and its request was answered
pub record AskedToStop (history : List Entry) (e : ℕ) : Type 0 where
  pub before : List Entry
  pub body : List ℕ
  pub outs : List Out
  pub behind : List Entry
  pub asks : asks_stop before (FromEditor e body) ≡ true
  pub is : history ≡ before ++ record { cause = FromEditor e body; outs = ToEditor e (ok_text (id_bytes body) (codes "null")) ∷ outs } ∷ behind

-- a cause that can come behind the history; but with it and its outs there would be more than 2^63 - 1 causes and outs
pub record PassesMost (settings : Settings) (history : List Entry) : Type 0 where
  pub cause : Cause
  pub can_come : fits history cause ≡ true
  pub too_many : passes settings history cause ≡ true

-- there is no such cause
abbrev pub HasNumbers : Settings → List Entry → Type 0
HasNumbers settings history = (cause : Cause) → fits history cause ≡ true → passes settings history cause ≡ false
