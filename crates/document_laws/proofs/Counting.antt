-- What a row sends of a document is on that document, and what is kept counts it.
use Rattle.std.proofs.Common.{◌≡◌, ℕ, ◌+◌, ◌^◌, ◌<◌, Bool, true, false, ◌&&◌, not, List, [], ◌∷◌, refl, sym, ◌∙◌, ap, subst, append-nil, arith}
use Rattle.std.specs.Prelude.{Option, Some, None, nat_eq, nat_lt, bytes_eq, length, if◌then◌else◌, IsUtf8}
use Rattle.std.specs.Option.{option_map_or}
use Rattle.std.proofs.lemmas.Bool.{ltb-true}
use Rattle.json_text.specs.Json.{Json}
use Rattle.json_text.specs.Tree.{tree_of}
use Rattle.mux_history.specs.declared.out.Out.{Out}
use Rattle.document_model.specs.rpc_message.specs.Message.{message_of}
use Rattle.focus_switch.specs.declared.telling.Telling.{Telling}
use Rattle.focus_switch.specs.declared.telling.Telling.TheVariants.{Opens, Changes, Closes, OpensAnew}
use Rattle.focus_switch.specs.Documents.{Documents, version_held}
use Rattle.focus_switch.specs.Rows.{Step, bodies_told, change_row, change_sends, change_tells, close_row, close_sends, differing_own, had, open_row, open_sends, replay_sends, send, switch, sync_sends, tell, touch, version_told}
use Rattle.document_model.specs.Bodies.{open_text, full_text, close_text}
use Rattle.document_model.specs.Notices.{with_version}
use Rattle.document_model.specs.Opens.{Open, holder, holder_beside, holds, holds_language, holds_own}
use Rattle.document_model.specs.Orderly.{AllSpelt, IsSpelt}
use Rattle.document_model.specs.Rows.{versioned_in}
use Rattle.document_model.specs.Sayings.{changes, saying_of}
use Rattle.document_model.specs.Texts.{changed, found, opened}
use Rattle.document_model.proofs.Orders.{ChangedTo, changed_is}
use Rattle.document_model.proofs.Holders.{bytes_same, find_is}
use Rattle.document_model.proofs.ScalarTrees.{AllScalars, MayHold}
use Rattle.document_model.proofs.Spelt.{IsSaidSpelt, document_spelt, find_spelt, latest_spelt, said_spelt}
use Rattle.document_model.proofs.Versioned.{versioned_says}
use Rattle.document_model.proofs.Written.{FullSays, close_says, full_says, open_says}
use Rattle.document_laws.specs.Counts.{AllOn, Counted, CountsOn, IsOn, joins, still, tells}
use Rattle.document_laws.specs.Follows.{texts_in}
use Rattle.document_laws.proofs.Changing.{change_none, changed_so}
use Rattle.document_laws.proofs.Following.{beside_uri, close_is, close_none, closing}
use Rattle.document_laws.proofs.Keeping.{held_put_beside, sent_put}
use Rattle.document_laws.proofs.Sends.{bodies_of, latest_of, all_there}

-- the bodies

open_on : (u l t : List ℕ) → IsUtf8 u → IsUtf8 l → IsUtf8 t → IsOn u (saying_of (message_of (open_text u l t)))
open_on u l t a b c = subst (IsOn u) (sym (open_says u l t a b c)) refl

full_on : (u t : List ℕ) (v : ℕ) → IsUtf8 u → IsUtf8 t → v < 10 ^ 64 → IsOn u (saying_of (message_of (full_text u v t)))
full_on u t v a b few = let f : FullSays u v t = full_says u t v a b few in subst (IsOn u) (sym f.says) refl

close_on : (u : List ℕ) → IsUtf8 u → IsOn u (saying_of (message_of (close_text u)))
close_on u a = subst (IsOn u) (sym (close_says u a)) refl

switch_on : (same : Bool) (versions : ℕ) (o : Open) (v : ℕ) → versions < 2 ^ 32 → IsSpelt o → AllOn o.uri (bodies_told (switch same versions o v))
switch_on same versions o v small spelt = go same (nat_lt v versions) refl
  where
    go : (a b : Bool) → nat_lt v versions ≡ b → AllOn o.uri (bodies_told (if a && b then Changes (v + 1) (full_text o.uri (v + 1) o.text) else OpensAnew (close_text o.uri) (open_text o.uri o.language o.text)))
    go true true d = let l : v < versions = ltb-true v versions d in (full_on o.uri o.text (v + 1) spelt.0 spelt.2 (omega arith), tt)
    go true false d = (close_on o.uri spelt.0, (open_on o.uri o.language o.text spelt.0 spelt.1 spelt.2, tt))
    go false b d = (close_on o.uri spelt.0, (open_on o.uri o.language o.text spelt.0 spelt.1 spelt.2, tt))

maybe_on : (u : List ℕ) (b : Bool) (x : Telling) → AllOn u (bodies_told x) → AllOn u (bodies_of (if b then None else Some x))
maybe_on u true x h = tt
maybe_on u false x h = h

-- what is told of a document

open_sends_on : (o : Open) (v : Option ℕ) (s : Documents) → s.versions < 2 ^ 32 → IsSpelt o → AllOn o.uri (bodies_of (open_sends o v s))
open_sends_on o None s small spelt = (open_on o.uri o.language o.text spelt.0 spelt.1 spelt.2, tt)
open_sends_on o (Some v) s small spelt = maybe_on o.uri (holds o s.opens) (switch (holds_language o s.opens) s.versions o v) (switch_on (holds_language o s.opens) s.versions o v small spelt)

own_on : (o : Open) (v : ℕ) (s : Documents) → s.versions < 2 ^ 32 → IsSpelt o → AllOn o.uri (bodies_of (differing_own o v s))
own_on o v s small spelt = maybe_on o.uri (holds_own o s.opens) (switch (holds_language o s.opens) s.versions o v) (switch_on (holds_language o s.opens) s.versions o v small spelt)

pub sync_sends_on : (o : Open) (v : Option ℕ) (s : Documents) → s.versions < 2 ^ 32 → IsSpelt o → AllOn o.uri (bodies_of (sync_sends o v s))
sync_sends_on o None s small spelt = tt
sync_sends_on o (Some v) s small spelt = own_on o v s small spelt

pub replay_sends_on : (o : Open) (v : Option ℕ) (s : Documents) → AllSpelt s.opens → AllOn o.uri (bodies_of (replay_sends o v s))
replay_sends_on o (Some v) s spelt = tt
replay_sends_on o None s spelt = go (holder o.uri s.opens) refl
  where
    go : (q : Option Open) → holder o.uri s.opens ≡ q → AllOn o.uri (bodies_of (option_map_or (λ (h : Open). Some (Opens (open_text o.uri h.language h.text))) q None))
    go None e = tt
    go (Some h) e =
        let good : IsSpelt h = latest_spelt (λ p. bytes_eq p.uri o.uri) s.opens h spelt e in
        let same : h.uri ≡ o.uri = bytes_same h.uri o.uri (latest_of (λ (p : Open). Unit {0}) (λ p. bytes_eq p.uri o.uri) s.opens h (all_there s.opens) e).1 in
        (open_on o.uri h.language h.text (subst IsUtf8 same good.0) good.1 good.2, tt)

close_sends_on : (e : ℕ) (u : List ℕ) (v : Option ℕ) (s : Documents) → s.versions < 2 ^ 32 → AllSpelt s.opens → IsUtf8 u → AllOn u (bodies_of (close_sends e u v s))
close_sends_on e u None s small spelt utf8 = tt
close_sends_on e u (Some v) s small spelt utf8 = go (holder_beside e u s.opens) refl
  where
    go : (q : Option Open) → holder_beside e u s.opens ≡ q → AllOn u (bodies_of (option_map_or (λ h. differing_own h v s) q (Some (Closes (close_text u)))))
    go None k = (close_on u utf8, tt)
    go (Some q) k = subst (λ z. AllOn z (bodies_of (differing_own q v s))) (beside_uri e u s q k) (own_on q v s small (latest_spelt (λ p. bytes_eq p.uri u && not (nat_eq p.editor e)) s.opens q spelt k))

change_sends_on : (new : Open) (body : List ℕ) (tree : Json) (w : List ℕ) (cs : Json) (v : Option ℕ) (s : Documents) → s.versions < 2 ^ 32 → IsSpelt new → tree_of body ≡ Some tree → saying_of (message_of body) ≡ changes new.uri w cs
    → AllOn new.uri (bodies_of (change_sends new body tree v s))
change_sends_on new body tree w cs None s small spelt read said = tt
change_sends_on new body tree w cs (Some v) s small spelt read said = maybe_on new.uri (holds new s.opens) (change_tells new body tree v s) (go (nat_lt v s.versions) refl (had new.editor new.uri s))
  where
    versioned_on : nat_lt v s.versions ≡ true → IsOn new.uri (saying_of (message_of (with_version (v + 1) body tree)))
    versioned_on d = let l : v < s.versions = ltb-true v s.versions d in
        subst (IsOn new.uri) (sym (ap (λ z. saying_of (message_of z)) (sym (ap (versioned_in (v + 1) body) read)) ∙ versioned_says body (v + 1) new.uri w cs (omega arith) said)) refl

    go : (a : Bool) → nat_lt v s.versions ≡ a → (b : Bool) → AllOn new.uri (bodies_told (if a && b then Changes (v + 1) (with_version (v + 1) body tree) else switch (holds_language new s.opens) s.versions new v))
    go true d true = (versioned_on d, tt)
    go true d false = switch_on (holds_language new s.opens) s.versions new v small spelt
    go false d b = switch_on (holds_language new s.opens) s.versions new v small spelt

-- a telling is counted

tell_counts : (n : ℕ) (u : List ℕ) (x : Telling) (s : Documents) → AllOn u (bodies_told x) → CountsOn u (bodies_told x) s (tell (Some n) u x s).after
tell_counts n u x s on = record {
  on = on;
  sent = refl;
  here = λ h is. sent_put u (version_told x) (s.sent + length (bodies_told x)) s.helds h is;
  others = λ w away. held_put_beside u w (version_told x) (s.sent + length (bodies_told x)) s.helds away;
}

tell_counted : (n : ℕ) (u : List ℕ) (x : Telling) (s : Documents) → CountsOn u (bodies_told x) s (tell (Some n) u x s).after → Counted n s (tell (Some n) u x s).outs (tell (Some n) u x s).after
tell_counted n u (Opens b) s k = tells u b [] k refl
tell_counted n u (Changes v b) s k = tells u b [] k refl
tell_counted n u (Closes b) s k = tells u b [] k refl
tell_counted n u (OpensAnew c o) s k = tells u c (o ∷ []) k refl

pub send_counted : (n : ℕ) (u : List ℕ) (x : Option Telling) (s : Documents) → s.start ≡ Some n → AllOn u (bodies_of x) → Counted n s (send u x s).outs (send u x s).after
send_counted n u None s started on = still refl refl refl
send_counted n u (Some x) s started on = subst (λ z. Counted n s (tell z u x s).outs (tell z u x s).after) (sym started) (tell_counted n u x s (tell_counts n u x s on))

-- what isn't counted may change behind it
pub counted_beside : (n : ℕ) (s t r : Documents) (outs : List Out) → Counted n s outs t → r.sent ≡ t.sent → r.helds ≡ t.helds → Counted n s outs r
counted_beside n s t r outs k sent helds = joins t outs [] k (still sent helds refl) (sym (append-nil outs))

touch_counted : (n : ℕ) (o : Open) (x : Option Telling) (s : Documents) → s.start ≡ Some n → AllOn o.uri (bodies_of x) → Counted n s (touch o (send o.uri x s)).outs (touch o (send o.uri x s)).after
touch_counted n o x s started on = counted_beside n s (send o.uri x s).after (touch o (send o.uri x s)).after (send o.uri x s).outs (send_counted n o.uri x s started on) refl refl

-- the rows

pub open_counted : (n e : ℕ) (u l v t : List ℕ) (s : Documents) → s.start ≡ Some n → s.versions < 2 ^ 32 → IsUtf8 u → IsUtf8 l → IsUtf8 t → Counted n s (open_row e u l v t s).outs (open_row e u l v t s).after
open_counted n e u l v t s started small utf8_u utf8_l utf8_t =
    let o : Open = opened e u l v t (texts_in s) in
    touch_counted n o (open_sends o (version_held u s.helds) s) s started (open_sends_on o (version_held u s.helds) s small (utf8_u, utf8_l, utf8_t))

pub close_counted : (n e : ℕ) (u : List ℕ) (s : Documents) → s.start ≡ Some n → s.versions < 2 ^ 32 → AllSpelt s.opens → Counted n s (close_row e u s).outs (close_row e u s).after
close_counted n e u s started small spelt = go (found e u (texts_in s)) refl
  where
    go : (o : Option Open) → found e u (texts_in s) ≡ o → Counted n s (close_row e u s).outs (close_row e u s).after
    go None h = subst (λ (z : Step). Counted n s z.outs z.after) (sym (close_none e u s h)) (still refl refl refl)
    go (Some o) h =
        let x : Option Telling = close_sends e u (version_held u s.helds) s in
        let utf8 : IsUtf8 u = subst IsUtf8 (find_is e u s.opens o h).1 (find_spelt _ s.opens o spelt h).0 in
        subst (λ (z : Step). Counted n s z.outs z.after) (sym (close_is e u s o h))
        (counted_beside n s (send u x s).after (closing e u s).after (send u x s).outs (send_counted n u x s started (close_sends_on e u (version_held u s.helds) s small spelt utf8)) refl refl)

pub change_counted : (n e : ℕ) (body : List ℕ) (tree : Json) (u w : List ℕ) (cs : Json) (s : Documents) → tree_of body ≡ Some tree → saying_of (message_of body) ≡ changes u w cs → s.start ≡ Some n → s.versions < 2 ^ 32 → AllSpelt s.opens
    → Counted n s (change_row e body tree s).outs (change_row e body tree s).after
change_counted n e body tree u w cs s read said started small spelt = go (changed s.encoding e u w cs (texts_in s)) refl
  where
    go : (o : Option Open) → changed s.encoding e u w cs (texts_in s) ≡ o → Counted n s (change_row e body tree s).outs (change_row e body tree s).after
    go None h = subst (λ (z : Step). Counted n s z.outs z.after) (sym (change_none e body tree u w cs s read said h)) (still refl refl refl)
    go (Some new) h =
        let c : (old : Open) × (found e u (texts_in s) ≡ Some old) × ChangedTo s.encoding e u cs s.turn old new = changed_is s.encoding e u w cs (texts_in s) new h in
        let good : IsUtf8 u × AllScalars cs = subst IsSaidSpelt said (said_spelt body) in
        let fine : IsSpelt new = subst (MayHold IsSpelt) h (document_spelt s.encoding e u w cs (texts_in s) good.0 good.1 spelt) in
        subst (λ (z : Step). Counted n s z.outs z.after) (sym (changed_so e body tree u w cs s read said new h))
        (touch_counted n new (change_sends new body tree (version_held new.uri s.helds) s) s started
        (change_sends_on new body tree w cs (version_held new.uri s.helds) s small fine read (said ∙ ap (λ z. changes z w cs) (sym (c.2).uri))))
