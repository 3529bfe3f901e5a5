-- Behind the replay a start has each holder's language and text, with version 1, and no other document.
use Rattle.std.proofs.Common.{◌≡◌, ℕ, Bool, true, false, cond, List, [], ◌∷◌, ◌++◌, fold, refl, sym, ◌∙◌, ap, subst}
use Rattle.std.specs.Prelude.{Option, Some, None, bytes_eq, ◌||◌}
use Rattle.std.specs.List.{AllByRecursion, list_any}
use Rattle.std.specs.Option.{option_map_or}
use Rattle.std.proofs.lemmas.List.Sums.{fold-append}
use Rattle.position_codec.specs.declared.Encoding.{Encoding}
use Rattle.document_model.specs.Bodies.{open_text}
use Rattle.document_model.specs.Helds.{HeldText}
use Rattle.document_model.specs.Opens.{Open, holder}
use Rattle.document_model.specs.Orderly.{AllSpelt, Once}
use Rattle.document_model.specs.Texts.{Texts}
use Rattle.document_model.proofs.Holders.{bytes_same, pick}
use Rattle.document_model.proofs.Orders.{all_found}
use Rattle.document_model.proofs.Spelt.{latest_spelt}
use Rattle.focus_switch.specs.Documents.{Documents, version_held}
use Rattle.focus_switch.specs.Rows.{Step, nothing, send, each, replayed, replay_sends, ready_row}
use Rattle.document_laws.specs.Follows.{Held, Matches, told_outs}
use Rattle.document_laws.proofs.Sends.{Kept, other_way, send_keeps, told_bodies, told_sent}
use Rattle.document_laws.proofs.Tellings.{Follows, open_follows}
use Rattle.group_rows.specs.Rows as rows
use Rattle.group_laws.proofs.Replaying.{HasHolder, Versions, first_sends, has_holders, holder_is, more_versions, opening, ready_outs, ready_texts}
use Rattle.group_laws.proofs.Syncing.{kept_then, same_kept}

or_right : (a b : Bool) → b ≡ true → (a || b) ≡ true
or_right true b h = refl
or_right false b h = h

module _ (n : ℕ) (code : Encoding) (s : Documents) (started : s.start ≡ Some n) (spelt : AllSpelt s.opens) where
  abbrev told_of : List ℕ → Option HeldText → List (List ℕ) → Option HeldText
  told_of w h bodies = told_bodies (Some code) w h bodies

  told_more : (w : List ℕ) (h : Option HeldText) (xs ys : List (List ℕ)) → told_of w h (xs ++ ys) ≡ told_of w (told_of w h xs) ys
  told_more w h xs ys = fold-append _ h xs ys

  abbrev opens_it : Option Open → List (List ℕ)
  opens_it q = option_map_or (λ (p : Open). open_text p.uri p.language p.text ∷ []) q []

  -- the body of a document's opening
  opens_here : (u : List ℕ) (p : Open) (h : Option HeldText) → holder u s.opens ≡ Some p → Matches (Some 1) (Some p) (told_of u h (opens_it (Some p)))
  opens_here u p h e =
      let f : Follows (Some code) p.uri (Some p) None h _ = open_follows (Some code) p None h (latest_spelt (λ o. bytes_eq o.uri u) s.opens p spelt e) in
      subst (λ w. Matches (Some 1) (Some p) (told_of w h (opens_it (Some p)))) (sym (holder_is u s.opens p e)) f.here

  opens_else : (u w : List ℕ) (p : Open) (h : Option HeldText) → holder u s.opens ≡ Some p → bytes_eq w u ≡ false → told_of w h (opens_it (Some p)) ≡ h
  opens_else u w p h e away =
      let f : Follows (Some code) p.uri (Some p) None h _ = open_follows (Some code) p None h (latest_spelt (λ o. bytes_eq o.uri u) s.opens p spelt e) in
      f.silent w h (subst (λ z. bytes_eq w z ≡ false) (holder_is u s.opens p e) away)

  abbrev is_open : List ℕ → List Open → Bool
  is_open w os = list_any (λ (o : Open). bytes_eq w o.uri) os

  -- of a document that was told of nothing more is said
  told_once : (w : List ℕ) (told : List (List ℕ)) (os : List Open) (h : Option HeldText) → AllByRecursion (HasHolder n s started) os → list_any (bytes_eq w) told ≡ true → told_of w h (rows.replay_bodies told s.opens os) ≡ h
  told_once w told [] h held k = refl
  told_once w told (o ∷ os) h held k = go (list_any (bytes_eq o.uri) told) refl (told_once w told os h held.1 k) (λ z j. told_once w (o.uri ∷ told) os z held.1 j)
    where
      away : list_any (bytes_eq o.uri) told ≡ false → bytes_eq w o.uri ≡ false
      away e = which (bytes_eq w o.uri) refl
        where
          which : (b : Bool) → bytes_eq w o.uri ≡ b → b ≡ false
          which false d = refl
          which true d = absurd (let z : true ≡ false = sym k ∙ (ap (λ u. list_any (bytes_eq u) told) (bytes_same w o.uri d) ∙ e) in cc)

      go : (b : Bool) → list_any (bytes_eq o.uri) told ≡ b → told_of w h (rows.replay_bodies told s.opens os) ≡ h
          → ((z : Option HeldText) → list_any (bytes_eq w) (o.uri ∷ told) ≡ true → told_of w z (rows.replay_bodies (o.uri ∷ told) s.opens os) ≡ z)
          → told_of w h (cond b (rows.replay_bodies told s.opens os) (opens_it (holder o.uri s.opens) ++ rows.replay_bodies (o.uri ∷ told) s.opens os)) ≡ h
      go true e same more = same
      go false e same more =
          told_more w h (opens_it (holder o.uri s.opens)) (rows.replay_bodies (o.uri ∷ told) s.opens os)
          ∙ (more (told_of w h (opens_it (holder o.uri s.opens))) (or_right (bytes_eq w o.uri) (list_any (bytes_eq w) told) k)
          ∙ (ap (λ q. told_of w h (opens_it q)) held.0.1 ∙ opens_else o.uri w held.0.0 h held.0.1 (away e)))

  -- of one that isn't open nothing is said
  never_told : (w : List ℕ) (told : List (List ℕ)) (os : List Open) (h : Option HeldText) → AllByRecursion (HasHolder n s started) os → is_open w os ≡ false → told_of w h (rows.replay_bodies told s.opens os) ≡ h
  never_told w told [] h held k = refl
  never_told w told (o ∷ os) h held k = go (list_any (bytes_eq o.uri) told) (never_told w told os h held.1 (rest (bytes_eq w o.uri) k)) (λ z. never_told w (o.uri ∷ told) os z held.1 (rest (bytes_eq w o.uri) k)) (first (bytes_eq w o.uri) k)
    where
      first : (a : Bool) → (a || is_open w os) ≡ false → a ≡ false
      first true j = absurd (cc)
      first false j = refl

      rest : (a : Bool) → (a || is_open w os) ≡ false → is_open w os ≡ false
      rest true j = absurd (cc)
      rest false j = j

      go : (b : Bool) → told_of w h (rows.replay_bodies told s.opens os) ≡ h → ((z : Option HeldText) → told_of w z (rows.replay_bodies (o.uri ∷ told) s.opens os) ≡ z) → bytes_eq w o.uri ≡ false
          → told_of w h (cond b (rows.replay_bodies told s.opens os) (opens_it (holder o.uri s.opens) ++ rows.replay_bodies (o.uri ∷ told) s.opens os)) ≡ h
      go true same more away = same
      go false same more away =
          told_more w h (opens_it (holder o.uri s.opens)) (rows.replay_bodies (o.uri ∷ told) s.opens os)
          ∙ (more (told_of w h (opens_it (holder o.uri s.opens))) ∙ (ap (λ q. told_of w h (opens_it q)) held.0.1 ∙ opens_else o.uri w held.0.0 h held.0.1 away))

  -- one that is open is opened, with its holder's text
  first_told : (w : List ℕ) (told : List (List ℕ)) (os : List Open) (h : Option HeldText) → AllByRecursion (HasHolder n s started) os → list_any (bytes_eq w) told ≡ false → is_open w os ≡ true → Matches (Some 1) (holder w s.opens) (told_of w h (rows.replay_bodies told s.opens os))
  first_told w told [] h held new k = absurd (cc)
  first_told w told (o ∷ os) h held new k = which (bytes_eq w o.uri) refl k (λ j. first_told w told os h held.1 new j) (λ z f j. first_told w (o.uri ∷ told) os z held.1 f j)
    where
      no_more : (z : Option HeldText) → list_any (bytes_eq w) (o.uri ∷ told) ≡ true → told_of w z (rows.replay_bodies (o.uri ∷ told) s.opens os) ≡ z
      no_more z j = told_once w (o.uri ∷ told) os z held.1 j

      which : (a : Bool) → bytes_eq w o.uri ≡ a → (a || is_open w os) ≡ true → (is_open w os ≡ true → Matches (Some 1) (holder w s.opens) (told_of w h (rows.replay_bodies told s.opens os)))
          → ((z : Option HeldText) → list_any (bytes_eq w) (o.uri ∷ told) ≡ false → is_open w os ≡ true → Matches (Some 1) (holder w s.opens) (told_of w z (rows.replay_bodies (o.uri ∷ told) s.opens os)))
          → Matches (Some 1) (holder w s.opens) (told_of w h (cond (list_any (bytes_eq o.uri) told) (rows.replay_bodies told s.opens os) (opens_it (holder o.uri s.opens) ++ rows.replay_bodies (o.uri ∷ told) s.opens os)))
      which true d j same_told more =
          let same : w ≡ o.uri = bytes_same w o.uri d in
          let fresh : list_any (bytes_eq o.uri) told ≡ false = ap (λ u. list_any (bytes_eq u) told) (sym same) ∙ new in
          let now : told_of w h (opens_it (holder o.uri s.opens) ++ rows.replay_bodies (o.uri ∷ told) s.opens os) ≡ told_of w h (opens_it (Some held.0.0)) =
          told_more w h (opens_it (holder o.uri s.opens)) (rows.replay_bodies (o.uri ∷ told) s.opens os) ∙ (no_more (told_of w h (opens_it (holder o.uri s.opens))) (ap (λ b. b || list_any (bytes_eq w) told) d) ∙ ap (λ q. told_of w h (opens_it q)) held.0.1) in
          let there : holder w s.opens ≡ Some held.0.0 = ap (λ u. holder u s.opens) same ∙ held.0.1 in
          subst (λ b. Matches (Some 1) (holder w s.opens) (told_of w h (cond b (rows.replay_bodies told s.opens os) (opens_it (holder o.uri s.opens) ++ rows.replay_bodies (o.uri ∷ told) s.opens os)))) (sym fresh)
          (subst (λ z. Matches (Some 1) (holder w s.opens) z) (sym now) (subst (λ z. Matches (Some 1) z (told_of w h (opens_it (Some held.0.0)))) (sym there) (opens_here w held.0.0 h there)))
      which false d j same_told more = go (list_any (bytes_eq o.uri) told)
        where
          go : (b : Bool) → Matches (Some 1) (holder w s.opens) (told_of w h (cond b (rows.replay_bodies told s.opens os) (opens_it (holder o.uri s.opens) ++ rows.replay_bodies (o.uri ∷ told) s.opens os)))
          go true = same_told j
          go false = subst (λ z. Matches (Some 1) (holder w s.opens) z) (sym (told_more w h (opens_it (holder o.uri s.opens)) (rows.replay_bodies (o.uri ∷ told) s.opens os)))
              (more (told_of w h (opens_it (holder o.uri s.opens))) (ap (λ b. b || list_any (bytes_eq w) told) d ∙ new) j)

  -- the versions that are kept
  version_told : (w : List ℕ) (told : List (List ℕ)) (step : Step) (os : List Open) → Kept s step.after → Versions told step.after → AllByRecursion (HasHolder n s started) os
      → version_held w (fold (each replayed) step os).after.helds ≡ cond (list_any (bytes_eq w) told || is_open w os) (Some 1) None
  version_told w told step [] k v held = v w ∙ ap (λ b. cond b (Some 1) None) (sym (or_false (list_any (bytes_eq w) told)))
    where
      or_false : (b : Bool) → (b || false) ≡ b
      or_false true = refl
      or_false false = refl
  version_told w told step (o ∷ os) k v held = go (list_any (bytes_eq o.uri) told) refl (v o.uri) (λ st kept versions. version_told w told st os kept versions held.1) (λ st kept versions. version_told w (o.uri ∷ told) st os kept versions held.1)
    where
      known : list_any (bytes_eq o.uri) told ≡ true → (list_any (bytes_eq w) told || is_open w os) ≡ (list_any (bytes_eq w) told || (bytes_eq w o.uri || is_open w os))
      known e = which (bytes_eq w o.uri) refl
        where
          which : (b : Bool) → bytes_eq w o.uri ≡ b → (list_any (bytes_eq w) told || is_open w os) ≡ (list_any (bytes_eq w) told || (b || is_open w os))
          which false d = refl
          which true d = let z : list_any (bytes_eq w) told ≡ true = ap (λ u. list_any (bytes_eq u) told) (bytes_same w o.uri d) ∙ e in ap (λ b. b || is_open w os) z ∙ sym (ap (λ b. b || true) z)

      moved : (a b c : Bool) → ((a || b) || c) ≡ (b || (a || c))
      moved true true c = refl
      moved true false c = refl
      moved false true c = refl
      moved false false c = refl

      go : (b : Bool) → list_any (bytes_eq o.uri) told ≡ b → version_held o.uri step.after.helds ≡ cond (list_any (bytes_eq o.uri) told) (Some 1) None
          → ((st : Step) → Kept s st.after → Versions told st.after → version_held w (fold (each replayed) st os).after.helds ≡ cond (list_any (bytes_eq w) told || is_open w os) (Some 1) None)
          → ((st : Step) → Kept s st.after → Versions (o.uri ∷ told) st.after → version_held w (fold (each replayed) st os).after.helds ≡ cond (list_any (bytes_eq w) (o.uri ∷ told) || is_open w os) (Some 1) None)
          → version_held w (fold (each replayed) (record { outs = step.outs ++ (send o.uri (replay_sends o (version_held o.uri step.after.helds) step.after) step.after).outs; after = (send o.uri (replay_sends o (version_held o.uri step.after.helds) step.after) step.after).after }) os).after.helds
          ≡ cond (list_any (bytes_eq w) told || (bytes_eq w o.uri || is_open w os)) (Some 1) None
      go true e f same more =
          ap (λ q. version_held w (fold (each replayed) (record { outs = step.outs ++ (send o.uri (replay_sends o q step.after) step.after).outs; after = (send o.uri (replay_sends o q step.after) step.after).after }) os).after.helds) (f ∙ ap (λ b. cond b (Some 1) None) e)
          ∙ (same (record { outs = step.outs ++ []; after = step.after }) k v ∙ ap (λ b. cond b (Some 1) None) (known e))
      go false e f same more =
          let h : Open = held.0.0 in
          let sends : replay_sends o (version_held o.uri step.after.helds) step.after ≡ Some (opening n s started o.uri h) = ap (λ q. replay_sends o q step.after) (f ∙ ap (λ b. cond b (Some 1) None) e) ∙ first_sends n s started step.after o h k held.0.1 in
          let st : Step = send o.uri (Some (opening n s started o.uri h)) step.after in
          ap (λ q. version_held w (fold (each replayed) (record { outs = step.outs ++ (send o.uri q step.after).outs; after = (send o.uri q step.after).after }) os).after.helds) sends
          ∙ (more (record { outs = step.outs ++ st.outs; after = st.after }) (kept_then s step.after st.after k (send_keeps o.uri (Some (opening n s started o.uri h)) step.after)) (more_versions n s started told step.after o h k v)
          ∙ ap (λ b. cond b (Some 1) None) (moved (bytes_eq w o.uri) (list_any (bytes_eq w) told) (is_open w os)))

-- a document that isn't open has no holder
no_holder : (w : List ℕ) (os : List Open) → list_any (λ (o : Open). bytes_eq w o.uri) os ≡ false → holder w os ≡ None
no_holder w [] h = refl
no_holder w (o ∷ os) h = go (bytes_eq w o.uri) refl h (λ k. no_holder w os k)
  where
    go : (b : Bool) → bytes_eq w o.uri ≡ b → (b || list_any (λ (p : Open). bytes_eq w p.uri) os) ≡ false → (list_any (λ (p : Open). bytes_eq w p.uri) os ≡ false → holder w os ≡ None) → fold (pick (λ (p : Open). bytes_eq p.uri w)) (cond (bytes_eq o.uri w) (Some o) None) os ≡ None
    go true d h rest = absurd (cc)
    go false d h rest = ap (λ b. fold (pick (λ (p : Open). bytes_eq p.uri w)) (cond b (Some o) None) os) (other_way o.uri w d) ∙ rest h

match_at : (v w : Option ℕ) (o p : Option Open) (h k : Option HeldText) → v ≡ w → o ≡ p → h ≡ k → Matches v o h → Matches w p k
match_at v w o p h k a b c m = subst (λ z. Matches w p z) c (subst (λ z. Matches w z h) b (subst (λ z. Matches z o h) a m))

-- what a start that is ready has is each holder's text
pub ready_held : (n : ℕ) (code : Encoding) (s : Documents) → Once s.opens → AllSpelt s.opens → Held (ready_row n code s).after (λ w. told_outs (Some code) w None (ready_row n code s).outs)
ready_held n code s once spelt w = go (list_any (λ (o : Open). bytes_eq w o.uri) s.opens) refl
  where
    held : AllByRecursion (HasHolder n (record s { start = Some n; encoding = Some code; sent = 0; helds = [] }) refl) s.opens
    held = has_holders n (record s { start = Some n; encoding = Some code; sent = 0; helds = [] }) refl s.opens (all_found s.opens once)

    version : version_held w (ready_row n code s).after.helds ≡ cond (list_any (λ (o : Open). bytes_eq w o.uri) s.opens) (Some 1) None
    version = version_told n code (record s { start = Some n; encoding = Some code; sent = 0; helds = [] }) refl spelt w [] (nothing (record s { start = Some n; encoding = Some code; sent = 0; helds = [] })) s.opens (same_kept (record s { start = Some n; encoding = Some code; sent = 0; helds = [] })) (λ u. refl) held

    holders : holder w (ready_row n code s).after.opens ≡ holder w s.opens
    holders = ap (λ (x : Texts). holder w x.opens) (ready_texts n code s)

    said : told_outs (Some code) w None (ready_row n code s).outs ≡ told_bodies (Some code) w None (rows.replay_bodies [] s.opens s.opens)
    said = ap (told_outs (Some code) w None) (ready_outs n code s once) ∙ told_sent (Some code) w n (rows.replay_bodies [] s.opens s.opens) None

    go : (b : Bool) → list_any (λ (o : Open). bytes_eq w o.uri) s.opens ≡ b → Matches (version_held w (ready_row n code s).after.helds) (holder w (ready_row n code s).after.opens) (told_outs (Some code) w None (ready_row n code s).outs)
    go true e = match_at (Some 1) (version_held w (ready_row n code s).after.helds) (holder w s.opens) (holder w (ready_row n code s).after.opens) (told_bodies (Some code) w None (rows.replay_bodies [] s.opens s.opens)) (told_outs (Some code) w None (ready_row n code s).outs)
        (sym (version ∙ ap (λ b. cond b (Some 1) None) e)) (sym holders) (sym said) (first_told n code (record s { start = Some n; encoding = Some code; sent = 0; helds = [] }) refl spelt w [] s.opens None held refl e)
    go false e = match_at None (version_held w (ready_row n code s).after.helds) None (holder w (ready_row n code s).after.opens) None (told_outs (Some code) w None (ready_row n code s).outs)
        (sym (version ∙ ap (λ b. cond b (Some 1) None) e)) (sym (holders ∙ no_holder w s.opens e)) (sym (said ∙ never_told n code (record s { start = Some n; encoding = Some code; sent = 0; helds = [] }) refl spelt w [] s.opens None held e)) tt
