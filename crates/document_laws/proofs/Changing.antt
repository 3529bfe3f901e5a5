-- The row of a change sends what is said of it, and what the start has goes on following what is open.
use Rattle.std.proofs.Common.{◌≡◌, ℕ, ◌+◌, ◌^◌, ◌<◌, Bool, true, false, ◌&&◌, List, [], ◌∷◌, map, decimal, refl, sym, ◌∙◌, ap, ap₂, subst, arith}
use Rattle.std.specs.Prelude.{Option, Some, None, nat_lt, bytes_eq, if◌then◌else◌, IsUtf8}
use Rattle.std.specs.List.{AllByRecursion}
use Rattle.std.specs.Option.{option_and_then, option_map, option_map_or}
use Rattle.std.proofs.lemmas.Bool.{ltb-true}
use Rattle.json_text.specs.Bare.{bare}
use Rattle.json_text.specs.Json.{Json}
use Rattle.json_text.specs.Tree.{tree_of}
use Rattle.mux_history.specs.declared.out.Out.TheVariants.{ToServer}
use Rattle.position_codec.specs.declared.Encoding.{Encoding}
use Rattle.document_model.specs.rpc_message.specs.Message.{message_of}
use Rattle.document_model.specs.doc_text.specs.Changes.{text_behind}
use Rattle.focus_switch.specs.declared.telling.Telling.{Telling}
use Rattle.focus_switch.specs.declared.telling.Telling.TheVariants.{Changes, OpensAnew}
use Rattle.document_model.specs.Opens.{Open, holder, holds_language, holds_own}
use Rattle.focus_switch.specs.Documents.{Documents, version_held}
use Rattle.document_model.specs.Notices.{DidChange, did_change, with_version}
use Rattle.focus_switch.specs.Rows.{Step, nothing, or_nothing, send, touch, switch, had, change_sends, changed_open, change_row}
use Rattle.document_model.specs.Bodies.{open_text, full_text, close_text}
use Rattle.document_laws.specs.Follows.{texts_in}
use Rattle.document_model.specs.Orderly.{IsSpelt}
use Rattle.document_model.specs.Sayings.{changes, saying_of}
use Rattle.document_model.specs.Texts.{found, touched, text_after, changed, texts_behind}
use Rattle.document_model.specs.Helds.{HeldText}
use Rattle.document_model.specs.Rows.{Agrees, agrees, versioned_in, versioned, sent_change}
use Rattle.document_model.specs.Orderly.{Once, Orderly}
use Rattle.document_laws.specs.Follows.{Matches, Held, told_outs}
use Rattle.document_model.proofs.Holders.{both_true, find_is, found_holder}
use Rattle.document_model.proofs.Orders.{ChangedTo, changed_is, changed_found}
use Rattle.document_laws.proofs.Sends.{bodies_of, Stays, send_outs, send_silent, by_match}
use Rattle.document_laws.proofs.Owning.{found_there, own_is}
use Rattle.document_laws.proofs.Tellings.{Follows, agrees_is, alike, holds_is, language_is, same_spoken, version_follows, switch_follows}
use Rattle.document_model.proofs.ScalarTrees.{AllScalars, MayHold}
use Rattle.document_model.proofs.Spelt.{IsSaidSpelt, said_spelt, document_spelt}
use Rattle.document_model.proofs.Bares.{change_said, text_behind_bare}
use Rattle.document_model.proofs.Versioned.{versioned_says}
use Rattle.document_model.proofs.Written.{number_law}
use Rattle.document_laws.proofs.Following.{touch_texts, touch_stays, touch_held}

module _ (e : ℕ) (body : List ℕ) (tree : Json) (u w : List ℕ) (cs : Json) (s : Documents) (read : tree_of body ≡ Some tree) (said : saying_of (message_of body) ≡ changes u w cs) where
  abbrev pub behind : Open → Step
  behind new = touch new (send new.uri (change_sends new body tree (version_held new.uri s.helds) s) s)

  same_after : (list : Json) (x : List ℕ) (encoding : Option Encoding) → bare list ≡ cs → text_after encoding list x ≡ text_after encoding cs x
  same_after list x None h = refl
  same_after list x (Some code) h = sym (text_behind_bare code list x) ∙ ap (λ z. text_behind code z x) h

  abbrev at_version : ℕ → List ℕ → Open → List ℕ → Open
  at_version a b o t = record { editor = a; uri = b; language = o.language; version = w; text = t; touched = s.turn }

  abbrev changed_by : Json → (Open → ℕ) → (Open → List ℕ) → Open → Option Open
  changed_by list editor uri o = option_map (at_version (editor o) (uri o) o) (text_after s.encoding list o.text)

  same_change : (list : Json) → bare list ≡ cs → changed_open e (record { uri = u; version = w; changes = list }) s ≡ changed s.encoding e u w cs (texts_in s)
  same_change list h = go (found e u (texts_in s)) refl
    where
      go : (f : Option Open) → found e u (texts_in s) ≡ f → option_and_then (changed_by list (λ o. o.editor) (λ o. o.uri)) f ≡ option_and_then (changed_by cs (λ o. e) (λ o. u)) f
      go None d = refl
      go (Some o) d = let q : (o.editor ≡ e) × (o.uri ≡ u) = find_is e u s.opens o d in
          ap₂ (λ (a : ℕ) (b : List ℕ). option_map (at_version a b o) (text_after s.encoding list o.text)) q.0 q.1 ∙ ap (option_map (at_version e u o)) (same_after list o.text s.encoding h)

  change_is : change_row e body tree s ≡ or_nothing (changed s.encoding e u w cs (texts_in s)) s behind
  change_is = let c : (list : Json) × (did_change tree ≡ Some (record { uri = u; version = w; changes = list })) × (bare list ≡ cs) = change_said body tree u w cs read said in
      ap (λ z. or_nothing z s (λ (q : DidChange). or_nothing (changed_open e q s) s behind)) c.1 ∙ ap (λ z. or_nothing z s behind) (same_change c.0 c.2)

  -- what isn't open there, or isn't a list of changes, is no row
  pub change_none : changed s.encoding e u w cs (texts_in s) ≡ None → change_row e body tree s ≡ nothing s
  change_none h = change_is ∙ ap (λ z. or_nothing z s behind) h

  pub change_not_open : found e u (texts_in s) ≡ None → change_row e body tree s ≡ nothing s
  change_not_open h = change_none (ap (option_and_then (changed_by cs (λ o. e) (λ o. u))) h)

  pub changed_so : (new : Open) → changed s.encoding e u w cs (texts_in s) ≡ Some new → change_row e body tree s ≡ behind new
  changed_so new h = change_is ∙ ap (λ z. or_nothing z s behind) h

  pub change_texts : texts_in (change_row e body tree s).after ≡ texts_behind s.encoding e (changes u w cs) (texts_in s)
  change_texts = ap (λ (z : Step). texts_in z.after) change_is ∙ go (changed s.encoding e u w cs (texts_in s))
    where
      go : (o : Option Open) → texts_in (or_nothing o s behind).after ≡ option_map_or (λ o. touched o (texts_in s)) o (texts_in s)
      go None = refl
      go (Some new) = touch_texts new new.uri (change_sends new body tree (version_held new.uri s.helds) s) s

  pub change_stays : Stays s (change_row e body tree s).after
  change_stays = subst (λ (z : Step). Stays s z.after) (sym change_is) (go (changed s.encoding e u w cs (texts_in s)))
    where
      go : (o : Option Open) → Stays s (or_nothing o s behind).after
      go None = record { start = refl; encoding = refl; versions = refl }
      go (Some new) = touch_stays new new.uri (change_sends new body tree (version_held new.uri s.helds) s) s

  pub change_silent : s.start ≡ None → (change_row e body tree s).outs ≡ []
  change_silent started = ap (λ (z : Step). z.outs) change_is ∙ go (changed s.encoding e u w cs (texts_in s))
    where
      go : (o : Option Open) → (or_nothing o s behind).outs ≡ []
      go None = refl
      go (Some new) = send_silent new.uri (change_sends new body tree (version_held new.uri s.helds) s) s started

  module _ (old new : Open) (there : found e u (texts_in s) ≡ Some old) (is : ChangedTo s.encoding e u cs s.turn old new) where
    -- what is told of a document that the start has: nothing, the body under the next version, or the whole text
    abbrev choice : Bool → Bool → Bool → ℕ → Option Telling
    choice a b same v = if a then None else Some (if b then Changes (v + 1) (with_version (v + 1) body tree) else switch same s.versions new v)

    -- whether the holder's document is like this one
    abbrev like : Open → Open → Bool
    like p o = bytes_eq p.language o.language && bytes_eq p.text o.text

    had_is : (p : Open) → Once s.opens → holder u s.opens ≡ Some p → had new.editor new.uri s ≡ like p old
    had_is p once d = ap₂ (λ a b. had a b s) is.editor is.uri ∙ ap (λ q. option_map_or (λ (o : Open). holds_own o s.opens) q false) there
        ∙ own_is old s.opens once (found_there e u s.opens old there) ∙ holds_is old p s.opens (ap (λ z. holder z s.opens) (find_is e u s.opens old there).1 ∙ d)

    told_so : (v : ℕ) (p : Open) → Once s.opens → holder u s.opens ≡ Some p
        → change_sends new body tree (Some v) s ≡ choice (like p new) (nat_lt v s.versions && like p old) (bytes_eq p.language new.language) v
    told_so v p once d =
        let here : holder new.uri s.opens ≡ Some p = ap (λ z. holder z s.opens) is.uri ∙ d in
        ap₂ (λ a b. choice a (nat_lt v s.versions && b) (holds_language new s.opens) v) (holds_is new p s.opens here) (had_is p once d)
        ∙ ap (λ c. choice (like p new) (nat_lt v s.versions && like p old) c v) (language_is new p s.opens here)

    -- the bodies, by the tests and the version
    abbrev chosen : Bool → Bool → Bool → ℕ → List (List ℕ)
    chosen a b c n = if a then [] else if nat_lt n s.versions && b then versioned (n + 1) body ∷ []
        else if c && nat_lt n s.versions then full_text new.uri (n + 1) new.text ∷ [] else close_text new.uri ∷ open_text new.uri new.language new.text ∷ []

    choice_bodies : (a b c : Bool) (v : ℕ) → bodies_of (choice a (nat_lt v s.versions && b) c v) ≡ chosen a b c v
    choice_bodies a b c v = go a (nat_lt v s.versions && b) (c && nat_lt v s.versions)
        ∙ ap (λ z. if a then [] else if nat_lt v s.versions && b then z ∷ [] else if c && nat_lt v s.versions then full_text new.uri (v + 1) new.text ∷ [] else close_text new.uri ∷ open_text new.uri new.language new.text ∷ [])
        (sym (ap (versioned_in (v + 1) body) read))
      where
        go : (x y z : Bool) → bodies_of (if x then None else Some (if y then Changes (v + 1) (with_version (v + 1) body tree)
            else if z then Changes (v + 1) (full_text new.uri (v + 1) new.text) else OpensAnew (close_text new.uri) (open_text new.uri new.language new.text)))
            ≡ (if x then [] else if y then with_version (v + 1) body tree ∷ [] else if z then full_text new.uri (v + 1) new.text ∷ [] else close_text new.uri ∷ open_text new.uri new.language new.text ∷ [])
        go true y z = refl
        go false true z = refl
        go false false true = refl
        go false false false = refl

    sent_so : (v : ℕ) (p : Open) (h : HeldText) → Once s.opens → h.version ≡ v → Agrees p h → holder u s.opens ≡ Some p → bodies_of (change_sends new body tree (Some v) s) ≡ sent_change s.versions body old new (Some h)
    sent_so v p h once a b d = ap bodies_of (told_so v p once d) ∙ choice_bodies (like p new) (like p old) (bytes_eq p.language new.language) v
        ∙ ap₂ (λ x y. chosen x y (bytes_eq p.language new.language) v) (agrees_is new p h b) (agrees_is old p h b)
        ∙ ap₂ (λ (l : List ℕ) (n : ℕ). chosen (agrees new h) (agrees old h) (bytes_eq l new.language) n) (sym b.0) (sym a)

    outs_so : (n : ℕ) (held : List ℕ → Option HeldText) → s.start ≡ Some n → Once s.opens → Held s held → changed s.encoding e u w cs (texts_in s) ≡ Some new
        → (change_row e body tree s).outs ≡ map (λ b. ToServer n b) (sent_change s.versions body old new (held u))
    outs_so n held started once follows h = ap (λ (z : Step). z.outs) (changed_so new h) ∙ send_outs n new.uri (change_sends new body tree (version_held new.uri s.helds) s) s started
        ∙ ap (map (λ b. ToServer n b)) (ap (λ z. bodies_of (change_sends new body tree (version_held z s.helds) s)) is.uri
        ∙ by_match (λ v p k. holder u s.opens ≡ p → bodies_of (change_sends new body tree v s) ≡ sent_change s.versions body old new k) (λ d. refl) (λ v p k a b d. sent_so v p k once a b d)
        (version_held u s.helds) (holder u s.opens) (held u) (follows u) refl)

    chosen_follows : (code : Encoding) (v : ℕ) (p : Open) (h : HeldText) → s.encoding ≡ Some code → s.versions < 2 ^ 32 → IsSpelt new → h.version ≡ v → Agrees p h
        → Follows s.encoding u (Some new) (Some v) (Some h) (choice (like p new) (nat_lt v s.versions && like p old) (bytes_eq p.language new.language) v)
    chosen_follows code v p h coded small utf8 a b = go (like p new) refl (nat_lt v s.versions && like p old) refl
      where
        go : (x : Bool) → like p new ≡ x → (y : Bool) → (nat_lt v s.versions && like p old) ≡ y → Follows s.encoding u (Some new) (Some v) (Some h) (choice x y (bytes_eq p.language new.language) v)
        go true f y g = record { silent = λ z k away. refl; here = (a, alike new p h b f) }
        go false f true g =
            let t : (nat_lt v s.versions ≡ true) × (like p old ≡ true) = both_true (nat_lt v s.versions) (like p old) g in
            let l : v < s.versions = ltb-true v s.versions t.0 in
            let few : v + 1 < 10 ^ 64 = omega arith in
            let before : Agrees old h = alike old p h b t.1 in
            version_follows s.encoding u (decimal (v + 1)) cs new (v + 1) h (Some v) (with_version (v + 1) body tree)
            (ap (λ z. saying_of (message_of z)) (sym (ap (versioned_in (v + 1) body) read)) ∙ versioned_says body (v + 1) u w cs few said) (number_law (v + 1) few)
            (before.0 ∙ sym is.language) (ap (text_after s.encoding cs) before.1 ∙ is.text)
        go false f false g = subst (λ (z : List ℕ). Follows s.encoding z (Some new) (Some v) (Some h) (Some (switch (bytes_eq p.language new.language) s.versions new v))) is.uri
            (subst (λ z. Follows z new.uri (Some new) (Some v) (Some h) (Some (switch (bytes_eq p.language new.language) s.versions new v))) (sym coded)
            (switch_follows code (bytes_eq p.language new.language) s.versions new v h small utf8 (same_spoken new p h b)))

    changed_follows : (code : Encoding) (v : Option ℕ) (h : Option HeldText) → s.encoding ≡ Some code → s.versions < 2 ^ 32 → Once s.opens → IsSpelt new → Matches v (holder u s.opens) h → Follows s.encoding u (Some new) v h (change_sends new body tree v s)
    changed_follows code v h coded small once utf8 m = by_match (λ v p h. holder u s.opens ≡ p → Follows s.encoding u (Some new) v h (change_sends new body tree v s)) (λ d. absurd (found_holder e u s.opens old there d))
        (λ v p h a b d. subst (Follows s.encoding u (Some new) (Some v) (Some h)) (sym (told_so v p once d)) (chosen_follows code v p h coded small utf8 a b)) v (holder u s.opens) h m refl

    behind_held : (n : ℕ) (code : Encoding) (held : List ℕ → Option HeldText) → s.start ≡ Some n → s.encoding ≡ Some code → Orderly (texts_in s) → Held s held → s.versions < 2 ^ 32 → IsSpelt new
        → Held (behind new).after (λ w. told_outs s.encoding w (held w) (behind new).outs)
    behind_held n code held started coded orderly follows small utf8 = touch_held n new (change_sends new body tree (version_held new.uri s.helds) s) s held started follows is.touch orderly.turns
        (subst (λ (z : List ℕ). Follows s.encoding z (Some new) (version_held z s.helds) (held z) (change_sends new body tree (version_held z s.helds) s)) (sym is.uri)
        (changed_follows code (version_held u s.helds) (held u) coded small orderly.once utf8 (follows u)))

  pub change_outs : (n : ℕ) (old new : Open) (held : List ℕ → Option HeldText) → s.start ≡ Some n → Once s.opens → Held s held → found e u (texts_in s) ≡ Some old → changed s.encoding e u w cs (texts_in s) ≡ Some new
      → (change_row e body tree s).outs ≡ map (λ b. ToServer n b) (sent_change s.versions body old new (held u))
  change_outs n old new held started once follows there h = outs_so old new there (changed_found s.encoding e u w cs (texts_in s) old new there h) n held started once follows h

  pub change_held : (n : ℕ) (code : Encoding) (held : List ℕ → Option HeldText) → s.start ≡ Some n → s.encoding ≡ Some code → Orderly (texts_in s) → Held s held → s.versions < 2 ^ 32 → AllByRecursion IsSpelt s.opens
      → Held (change_row e body tree s).after (λ w. told_outs s.encoding w (held w) (change_row e body tree s).outs)
  change_held n code held started coded orderly follows small utf8 = go (changed s.encoding e u w cs (texts_in s)) refl
    where
      go : (o : Option Open) → changed s.encoding e u w cs (texts_in s) ≡ o → Held (change_row e body tree s).after (λ w. told_outs s.encoding w (held w) (change_row e body tree s).outs)
      go None h = subst (λ (z : Step). Held z.after (λ w. told_outs s.encoding w (held w) z.outs)) (sym (change_none h)) follows
      go (Some new) h =
          let c : (old : Open) × (found e u (texts_in s) ≡ Some old) × ChangedTo s.encoding e u cs s.turn old new = changed_is s.encoding e u w cs (texts_in s) new h in
          let good : IsUtf8 u × AllScalars cs = subst IsSaidSpelt said (said_spelt body) in
          subst (λ (z : Step). Held z.after (λ w. told_outs s.encoding w (held w) z.outs)) (sym (changed_so new h))
          (behind_held c.0 new c.1 c.2 n code held started coded orderly follows small (subst (MayHold IsSpelt) h (document_spelt s.encoding e u w cs (texts_in s) good.0 good.1 utf8)))
