-- What the editors of each group have open is UTF-8, and each document once at an editor, in every history.
use Rattle.std.proofs.Common.{◌≡◌, ℕ, ◌+◌, ◌<◌, Bool, true, false, not, cond, List, [], ◌∷◌, ◌++◌, map, filter, nat_eq, Option, Some, None, refl, sym, ◌∙◌, subst, arith}
use Rattle.std.specs.List.{AllByRecursion}
use Rattle.document_model.specs.Opens.{Open, is_open_at}
use Rattle.document_model.specs.Orderly.{AllSpelt, IsSpelt, Once}
use Rattle.document_model.specs.Sayings.{saying_of}
use Rattle.document_model.specs.Texts.{Texts, texts_behind}
use Rattle.document_model.proofs.Orders.{orderly_behind, orderly_none}
use Rattle.document_model.proofs.ScalarTrees.{either_way}
use Rattle.document_model.proofs.Spelt.{texts_spelt}
use Rattle.mux_history.specs.declared.cause.Cause.{Cause}
use Rattle.mux_history.specs.declared.cause.Cause.TheVariants.{FromEditor, EditorGone}
use Rattle.mux_history.specs.declared.out.Out.{Out}
use Rattle.mux_history.specs.declared.out.Out.TheVariants.{CloseEditor, ToServer}
use Rattle.position_codec.specs.declared.Encoding.{Encoding}
use Rattle.rpc_message.specs.Message.{message_of}
use Rattle.event_model.specs.Event.{Event, heard, said, with_cause, requests}
use Rattle.event_model.specs.Phases.{desk_of, is_served}
use Rattle.event_model.specs.Settings.{Settings}
use Rattle.event_model.specs.Spawns.{group_of}
use Rattle.std.specs.Prelude.{◌&&◌, codes}
use Rattle.mux_model.specs.Documents.{without_editor}
use Rattle.mux_facts.proofs.Lists.{all_filtered}
use Rattle.group_words.specs.Houses.{home_of, is_home}
use Rattle.group_rows.specs.Texts.{encoding_of, is_synced, texts_heard, texts_next, texts_of, touch_all, touched_at, toucher_of}
use Rattle.group_rows.proofs.Frames.{texts_more}
use Rattle.group_facts.specs.Facts.{IsOpened, Opened}

-- an editor's documents end

once_filtered : (test : Open → Bool) (os : List Open) → Once os → Once (filter test os)
once_filtered test [] h = tt
once_filtered test (o ∷ os) h = go (test o) (once_filtered test os h.1)
  where
    go : (b : Bool) → Once (filter test os) → Once (cond b (o ∷ filter test os) (filter test os))
    go true k = (all_filtered (λ (p : Open). is_open_at o.editor o.uri p ≡ false) (λ (p : Open). is_open_at o.editor o.uri p ≡ false) test (λ p t j. j) os h.0, k)
    go false k = k

without_fine : (e : ℕ) (x : Texts) → IsOpened x → IsOpened (without_editor e x)
without_fine e x h = record {
  spelt = all_filtered IsSpelt IsSpelt (λ (o : Open). not (nat_eq o.editor e)) (λ o t k. k) x.opens h.spelt;
  orderly = record {
    once = once_filtered (λ (o : Open). not (nat_eq o.editor e)) x.opens (h.orderly).once;
    turns = all_filtered (λ (o : Open). o.touched < x.turn) (λ (o : Open). o.touched < x.turn) (λ (o : Open). not (nat_eq o.editor e)) (λ o t k. k) x.opens (h.orderly).turns;
  };
}

-- an editor says something of a document
behind_fine : (code : Option Encoding) (e : ℕ) (body : List ℕ) (x : Texts) → IsOpened x → IsOpened (texts_behind code e (saying_of (message_of body)) x)
behind_fine code e body x h = record { spelt = texts_spelt code e body x h.spelt; orderly = orderly_behind code e (saying_of (message_of body)) x h.orderly }

-- an editor touches each of its documents

module _ (e turn : ℕ) where
  abbrev f : Open → Open
  f = touched_at e turn

  same_place : (o p : Open) → is_open_at (f o).editor (f o).uri (f p) ≡ is_open_at o.editor o.uri p
  same_place o p = go (nat_eq o.editor e) (nat_eq p.editor e)
    where
      go : (b c : Bool) → is_open_at (cond b (record o { touched = turn }) o).editor (cond b (record o { touched = turn }) o).uri (cond c (record p { touched = turn }) p) ≡ is_open_at o.editor o.uri p
      go true true = refl
      go true false = refl
      go false true = refl
      go false false = refl

  once_beside : (o : Open) (os : List Open) → AllByRecursion (λ (p : Open). is_open_at o.editor o.uri p ≡ false) os → AllByRecursion (λ (p : Open). is_open_at (f o).editor (f o).uri p ≡ false) (map f os)
  once_beside o [] h = tt
  once_beside o (p ∷ ps) h = (same_place o p ∙ h.0, once_beside o ps h.1)

  once_touched : (os : List Open) → Once os → Once (map f os)
  once_touched [] h = tt
  once_touched (o ∷ os) h = (once_beside o os h.0, once_touched os h.1)

  turns_touched : (os : List Open) → AllByRecursion (λ (o : Open). o.touched < turn) os → AllByRecursion (λ (o : Open). o.touched < turn + 1) (map f os)
  turns_touched [] h = tt
  turns_touched (o ∷ os) h = (go (nat_eq o.editor e) h.0, turns_touched os h.1)
    where
      go : (b : Bool) → o.touched < turn → (cond b (record o { touched = turn }) o).touched < turn + 1
      go true k = omega arith
      go false k = omega arith

  spelt_touched : (os : List Open) → AllSpelt os → AllSpelt (map f os)
  spelt_touched [] h = tt
  spelt_touched (o ∷ os) h = (go (nat_eq o.editor e), spelt_touched os h.1)
    where
      go : (b : Bool) → IsSpelt (cond b (record o { touched = turn }) o)
      go true = h.0
      go false = h.0

touched_fine : (worker : Option ℕ) (x : Texts) → IsOpened x → IsOpened (touch_all worker x)
touched_fine None x h = h
touched_fine (Some e) x h = record { spelt = spelt_touched e x.turn x.opens h.spelt; orderly = record { once = once_touched e x.turn x.opens (h.orderly).once; turns = turns_touched e x.turn x.opens (h.orderly).turns } }

-- one event more

module _ (settings : Settings) where
  next_heard : (g : ℕ) (before : List Event) (x : Texts) (cause : Cause) → IsOpened x → IsOpened (texts_next settings g before x (heard cause))
  next_heard g before x (FromEditor e body) h = either_way IsOpened (is_home g (home_of settings e before) && is_served (desk_of e before).phase) (texts_heard g before e (message_of body) x) x
      (either_way IsOpened (requests (codes "shutdown") (message_of body)) (without_editor e x) (texts_behind (encoding_of g before) e (saying_of (message_of body)) x) (without_fine e x h) (behind_fine (encoding_of g before) e body x h)) h
  next_heard g before x (EditorGone e why) h = without_fine e x h
  next_heard g before x cause h = h

  next_said : (g : ℕ) (before : List Event) (x : Texts) (out : Out) → IsOpened x → IsOpened (texts_next settings g before x (said out))
  next_said g before x (CloseEditor e) h = without_fine e x h
  next_said g before x (ToServer s body) h = either_way IsOpened (is_home g (group_of s before) && is_synced (message_of body)) (touch_all (toucher_of settings s before (message_of body)) x) x (touched_fine (toucher_of settings s before (message_of body)) x h) h
  next_said g before x out h = h

  pub opened_took : (events : List Event) (cause : Cause) → Opened settings events → Opened settings (with_cause events cause)
  opened_took events cause h g = subst IsOpened (sym (texts_more settings g events (heard cause))) (next_heard g events (texts_of settings g events) cause (h g))

  pub opened_did : (events : List Event) (out : Out) → Opened settings events → Opened settings (events ++ said out ∷ [])
  opened_did events out h g = subst IsOpened (sym (texts_more settings g events (said out))) (next_said g events (texts_of settings g events) out (h g))

  pub opened_none : Opened settings []
  opened_none g = record { spelt = tt; orderly = orderly_none }
