-- Behind a stop: the editor that asked for it.
use Rattle.std.proofs.Common.{◌≡◌, ℕ, Bool, true, false, if◌then◌else◌, ◌⊎◌, inl, inr, ⊎_elim, List, [], ◌∷◌, ◌++◌, codes, refl, ap, sym, subst, ◌∙◌, append_assoc, append-nil}
use Rattle.std.proofs.lemmas.List.Sums.{fold-append}
use Rattle.mux_history.specs.declared.cause.Cause.{Cause}
use Rattle.mux_history.specs.declared.cause.Cause.TheVariants.{Joined, FromEditor, EditorGone, Started, StartFailed, FromServer, ServerGone, Drained, Tick}
use Rattle.mux_history.specs.declared.entry.Entry.{Entry}
use Rattle.mux_history.specs.declared.out.Out.{Out}
use Rattle.mux_history.specs.declared.out.Out.TheVariants.{ToEditor}
use Rattle.event_model.specs.Event.{Event, events_of, heard, with_cause, with_entry}
use Rattle.event_model.specs.Row.{outs}
use Rattle.event_model.specs.Settings.{Settings}
use Rattle.event_model.specs.rpc_message.specs.Message.{id_bytes}
use Rattle.event_model.specs.rpc_message.specs.Texts.{ok_text}
use Rattle.mux_hub.specs.group_facts.proofs.Quits.{stopped_more}
use Rattle.mux_hub.specs.group_facts.proofs.StopEntry.{stop_outs, stopped_outs}
use Rattle.mux_hub.specs.group_facts.specs.Legal.{Legal, LegalFrom}
use Rattle.mux_hub.specs.group_facts.specs.SlowRows.{entry_outs}
use Rattle.mux_hub.specs.group_facts.specs.group_rows.specs.Rows.{outs_of}
use Rattle.mux_hub.specs.group_facts.specs.group_rows.specs.StopRows.{stop_row, stopped, stopped_next}
use Rattle.mux_hub.specs.Entries.{asks_stop, was_stopped}
use Rattle.mux_service.specs.Ends.{AskedToStop}

-- One entry

-- the cause is of an editor that asks for a stop
pub record Asks (history : List Entry) (c : Cause) : Type 0 where
  pub editor : ℕ
  pub body : List ℕ
  pub is : c ≡ FromEditor editor body
  pub asks : asks_stop history (FromEditor editor body) ≡ true

by_cause : (history : List Entry) (entry : Entry) → was_stopped (history ++ entry ∷ []) ≡ stopped_next (events_of history) (was_stopped history) (heard entry.cause)
by_cause history entry =
    let one : events_of (history ++ entry ∷ []) ≡ with_entry (events_of history) entry = fold-append with_entry [] history (entry ∷ []) in
    ap stopped one ∙ stopped_outs (with_cause (events_of history) entry.cause) entry.outs ∙ stopped_more (events_of history) (heard entry.cause)

module _ (history : List Entry) where
  asked : (e : ℕ) (body : List ℕ) (b : Bool) → asks_stop history (FromEditor e body) ≡ b → (if b then true else was_stopped history) ≡ true → (was_stopped history ≡ true) ⊎ Asks history (FromEditor e body)
  asked e body true t h = inr (record { editor = e; body = body; is = refl; asks = t })
  asked e body false t h = inl h

  by_kind : (c : Cause) → stopped_next (events_of history) (was_stopped history) (heard c) ≡ true → (was_stopped history ≡ true) ⊎ Asks history c
  by_kind (FromEditor e body) h = asked e body (asks_stop history (FromEditor e body)) refl h
  by_kind (Joined e) h = inl h
  by_kind (EditorGone e w) h = inl h
  by_kind (Started s) h = inl h
  by_kind (StartFailed s) h = inl h
  by_kind (FromServer s body) h = inl h
  by_kind (ServerGone s) h = inl h
  by_kind (Drained e k) h = inl h
  by_kind (Tick t) h = inl h

-- Entry by entry

pub record AskedFrom (before rest : List Entry) : Type 0 where
  pub editor : ℕ
  pub front : List Entry
  pub body : List ℕ
  pub given : List Out
  pub later : List Entry
  pub is : rest ≡ front ++ record { cause = FromEditor editor body; outs = given } ∷ later
  pub asks : asks_stop (before ++ front) (FromEditor editor body) ≡ true

first_asks : (before : List Entry) (entry : Entry) (rest : List Entry) → Asks before entry.cause → AskedFrom before (entry ∷ rest)
first_asks before entry rest a = record {
  editor = a.editor;
  front = [];
  body = a.body;
  given = entry.outs;
  later = rest;
  is = ap (λ (c : Cause). record { cause = c; outs = entry.outs } ∷ rest) a.is;
  asks = subst (λ (h : List Entry). asks_stop h (FromEditor a.editor a.body) ≡ true) (sym (append-nil before)) a.asks;
}

later_asks : (before : List Entry) (entry : Entry) (rest : List Entry) → AskedFrom (before ++ entry ∷ []) rest → AskedFrom before (entry ∷ rest)
later_asks before entry rest a = record {
  editor = a.editor;
  front = entry ∷ a.front;
  body = a.body;
  given = a.given;
  later = a.later;
  is = ap (λ (l : List Entry). entry ∷ l) a.is;
  asks = subst (λ (h : List Entry). asks_stop h (FromEditor a.editor a.body) ≡ true) (append_assoc before (entry ∷ []) a.front) a.asks;
}

asked_from : (before rest : List Entry) → was_stopped (before ++ rest) ≡ true → (was_stopped before ≡ true) ⊎ AskedFrom before rest
asked_from before [] h = inl (subst (λ (l : List Entry). was_stopped l ≡ true) (append-nil before) h)
asked_from before (entry ∷ rest) h =
    ⊎_elim
    (λ (was : was_stopped (before ++ entry ∷ []) ≡ true). ⊎_elim (λ (w : was_stopped before ≡ true). inl w) (λ (a : Asks before entry.cause). inr (first_asks before entry rest a)) (by_kind before entry.cause (sym (by_cause before entry) ∙ was)))
    (λ (a : AskedFrom (before ++ entry ∷ []) rest). inr (later_asks before entry rest a))
    (asked_from (before ++ entry ∷ []) rest (subst (λ (l : List Entry). was_stopped l ≡ true) (sym (append_assoc before (entry ∷ []) rest)) h))

asked_in : (history : List Entry) → was_stopped history ≡ true → AskedFrom [] history
asked_in history h = ⊎_elim (λ (w : was_stopped [] ≡ true). absurd cc) (λ (a : AskedFrom [] history). a) (asked_from [] history h)

-- Its outs

outs_there : (settings : Settings) (before front : List Entry) (entry : Entry) (later : List Entry) → LegalFrom settings before (front ++ entry ∷ later) → entry.outs ≡ entry_outs settings (events_of (before ++ front)) entry.cause
outs_there settings before [] entry later l = subst (λ (h : List Entry). entry.outs ≡ entry_outs settings (events_of h) entry.cause) (sym (append-nil before)) l.1
outs_there settings before (x ∷ front) entry later l =
    subst (λ (h : List Entry). entry.outs ≡ entry_outs settings (events_of h) entry.cause) (append_assoc before (x ∷ []) front) (outs_there settings (before ++ x ∷ []) front entry later l.2)

-- the stop is answered first
answered : (settings : Settings) (before now : List Event) (e : ℕ) (body : List ℕ) (given xs ys : List Out) → given ≡ xs ++ ys → xs ≡ outs (stop_row settings before e body) now → (more : List Out) × (given ≡ ToEditor e (ok_text (id_bytes body) (codes "null")) ∷ more)
answered settings before now e body given xs ys g x = (_, g ∙ ap (λ (l : List Out). l ++ ys) x)

pub asked_to_stop : (settings : Settings) (history : List Entry) → Legal settings history → was_stopped history ≡ true → (e : ℕ) × AskedToStop history e
asked_to_stop settings history legal h =
    let a = asked_in history h in
    let entry : Entry = record { cause = FromEditor a.editor a.body; outs = a.given } in
    let given : a.given ≡ entry_outs settings (events_of a.front) (FromEditor a.editor a.body) = outs_there settings [] a.front entry a.later (subst (λ (l : List Entry). LegalFrom settings [] l) a.is legal) in
    let answer = answered settings (events_of a.front) (with_cause (events_of a.front) (FromEditor a.editor a.body)) a.editor a.body a.given (outs_of settings (events_of a.front) (FromEditor a.editor a.body)) _ given (stop_outs settings (events_of a.front) a.editor a.body a.asks) in
    (a.editor, record { before = a.front; body = a.body; outs = answer.0; behind = a.later; asks = a.asks; is = a.is ∙ ap (λ (ys : List Out). a.front ++ record { cause = FromEditor a.editor a.body; outs = ys } ∷ a.later) answer.1 })
