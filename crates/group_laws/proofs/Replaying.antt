-- X4: a start that is ready is told of each document that is open, and then has each holder's text.
use Rattle.std.proofs.Common.{◌≡◌, ℕ, Bool, true, false, cond, List, [], ◌∷◌, ◌++◌, map, fold, refl, sym, ◌∙◌, ap, ap₂, append_assoc, append-nil}
use Rattle.std.specs.Prelude.{Option, Some, None, bytes_eq, ◌||◌}
use Rattle.std.specs.List.{AllByRecursion, list_any}
use Rattle.std.specs.Option.{option_map_or}
use Rattle.mux_history.specs.declared.out.Out.{Out}
use Rattle.mux_history.specs.declared.out.Out.TheVariants.{ToServer}
use Rattle.position_codec.specs.declared.Encoding.{Encoding}
use Rattle.document_model.specs.Bodies.{open_text}
use Rattle.document_model.specs.Opens.{Open, holder}
use Rattle.document_model.specs.Orderly.{Once}
use Rattle.document_model.proofs.Holders.{bytes_same, found_holder}
use Rattle.document_model.proofs.Orders.{IsFound, all_found}
use Rattle.focus_switch.specs.declared.telling.Telling.{Telling}
use Rattle.focus_switch.specs.declared.telling.Telling.TheVariants.{Opens}
use Rattle.focus_switch.specs.Documents.{Documents, version_held}
use Rattle.focus_switch.specs.Rows.{Step, nothing, send, each, replayed, replay_sends, replay_all, ready_row}
use Rattle.document_laws.specs.Follows.{texts_in}
use Rattle.document_laws.proofs.Sends.{Kept, Stays, latest_of, all_there, send_keeps, send_outs, send_version, send_version_other}
use Rattle.group_rows.specs.Rows as rows
use Rattle.group_laws.proofs.Syncing.{kept_then, map_append, same_kept}

replayed_keeps : (s : Documents) (o : Open) → Kept s (replayed s o).after
replayed_keeps s o = send_keeps o.uri (replay_sends o (version_held o.uri s.helds) s) s

all_keep : (s : Documents) (step : Step) (os : List Open) → Kept s step.after → Kept s (fold (each replayed) step os).after
all_keep s step [] k = k
all_keep s step (o ∷ os) k = all_keep s (each replayed step o) os (kept_then s step.after (replayed step.after o).after k (replayed_keeps step.after o))

-- what is open stays
pub replay_texts : (s : Documents) → texts_in (replay_all s).after ≡ texts_in s
replay_texts s =
    let k = all_keep s (nothing s) s.opens (same_kept s) in
    ap₂ (λ (n : ℕ) (os : List Open). record { turn = n; opens = os }) k.turn k.opens

-- which documents were told of: each has the version 1, and no other a version
abbrev pub Versions : List (List ℕ) → Documents → Type 0
Versions told t = (w : List ℕ) → version_held w t.helds ≡ cond (list_any (bytes_eq w) told) (Some 1) None

pub holder_is : (u : List ℕ) (os : List Open) (h : Open) → holder u os ≡ Some h → u ≡ h.uri
holder_is u os h e = sym (bytes_same h.uri u (latest_of (λ o. Unit {0}) (λ o. bytes_eq o.uri u) os h (all_there os) e).1)

module _ (n : ℕ) (s : Documents) (started : s.start ≡ Some n) where
  abbrev to : List (List ℕ) → List Out
  to bodies = map (λ b. ToServer n b) bodies

  abbrev pub opening : List ℕ → Open → Telling
  opening u h = Opens (open_text u h.language h.text)

  -- a document of which nothing was told
  pub first_sends : (t : Documents) (o h : Open) → Kept s t → holder o.uri s.opens ≡ Some h → replay_sends o None t ≡ Some (opening o.uri h)
  first_sends t o h k e = ap (λ q. option_map_or (λ (p : Open). Some (opening o.uri p)) q None) (ap (holder o.uri) k.opens ∙ e)

  pub more_versions : (told : List (List ℕ)) (t : Documents) (o h : Open) → Kept s t → Versions told t → Versions (o.uri ∷ told) (send o.uri (Some (opening o.uri h)) t).after
  more_versions told t o h k v w = go (bytes_eq w o.uri) refl
    where
      go : (b : Bool) → bytes_eq w o.uri ≡ b → version_held w (send o.uri (Some (opening o.uri h)) t).after.helds ≡ cond (b || list_any (bytes_eq w) told) (Some 1) None
      go true e = ap (λ u. version_held u (send o.uri (Some (opening o.uri h)) t).after.helds) (bytes_same w o.uri e) ∙ send_version n o.uri (Some (opening o.uri h)) t (k.stays.start ∙ started)
      go false e = send_version_other n o.uri w (Some (opening o.uri h)) t (k.stays.start ∙ started) e ∙ v w

  abbrev pub HasHolder : Open → Type 0
  HasHolder o = (h : Open) × (holder o.uri s.opens ≡ Some h)

  all_sent : (told : List (List ℕ)) (step : Step) (os : List Open) → Kept s step.after → Versions told step.after → AllByRecursion HasHolder os
      → (fold (each replayed) step os).outs ≡ step.outs ++ to (rows.replay_bodies told s.opens os)
  all_sent told step [] k v held = sym (append-nil step.outs)
  all_sent told step (o ∷ os) k v held = go (list_any (bytes_eq o.uri) told) (v o.uri)
      (λ st kept versions. all_sent told st os kept versions held.1) (λ st kept versions. all_sent (o.uri ∷ told) st os kept versions held.1)
    where
      go : (b : Bool) → version_held o.uri step.after.helds ≡ cond b (Some 1) None
          → ((st : Step) → Kept s st.after → Versions told st.after → (fold (each replayed) st os).outs ≡ st.outs ++ to (rows.replay_bodies told s.opens os))
          → ((st : Step) → Kept s st.after → Versions (o.uri ∷ told) st.after → (fold (each replayed) st os).outs ≡ st.outs ++ to (rows.replay_bodies (o.uri ∷ told) s.opens os))
          → (fold (each replayed) (record { outs = step.outs ++ (send o.uri (replay_sends o (version_held o.uri step.after.helds) step.after) step.after).outs; after = (send o.uri (replay_sends o (version_held o.uri step.after.helds) step.after) step.after).after }) os).outs
          ≡ step.outs ++ to (cond b (rows.replay_bodies told s.opens os) (option_map_or (λ (h : Open). open_text h.uri h.language h.text ∷ []) (holder o.uri s.opens) [] ++ rows.replay_bodies (o.uri ∷ told) s.opens os))
      go true e same more =
          ap (λ q. (fold (each replayed) (record { outs = step.outs ++ (send o.uri (replay_sends o q step.after) step.after).outs; after = (send o.uri (replay_sends o q step.after) step.after).after }) os).outs) e
          ∙ (same (record { outs = step.outs ++ []; after = step.after }) k v ∙ ap (λ zs. zs ++ to (rows.replay_bodies told s.opens os)) (append-nil step.outs))
      go false e same more =
          let h : Open = held.0.0 in
          let sends : replay_sends o (version_held o.uri step.after.helds) step.after ≡ Some (opening o.uri h) = ap (λ q. replay_sends o q step.after) e ∙ first_sends step.after o h k held.0.1 in
          let st : Step = send o.uri (Some (opening o.uri h)) step.after in
          let here : List (List ℕ) = open_text h.uri h.language h.text ∷ [] in
          let one : st.outs ≡ to here = send_outs n o.uri (Some (opening o.uri h)) step.after (k.stays.start ∙ started) ∙ ap (λ u. to (open_text u h.language h.text ∷ [])) (holder_is o.uri s.opens h held.0.1) in
          ap (λ q. (fold (each replayed) (record { outs = step.outs ++ (send o.uri q step.after).outs; after = (send o.uri q step.after).after }) os).outs) sends
          ∙ (more (record { outs = step.outs ++ st.outs; after = st.after }) (kept_then s step.after st.after k (send_keeps o.uri (Some (opening o.uri h)) step.after)) (more_versions told step.after o h k v)
          ∙ (append_assoc step.outs st.outs (to (rows.replay_bodies (o.uri ∷ told) s.opens os))
          ∙ ap (λ zs. step.outs ++ zs) (ap (λ zs. zs ++ to (rows.replay_bodies (o.uri ∷ told) s.opens os)) one
          ∙ (sym (map_append (λ b. ToServer n b) here (rows.replay_bodies (o.uri ∷ told) s.opens os))
          ∙ ap (λ q. to (option_map_or (λ (p : Open). open_text p.uri p.language p.text ∷ []) q [] ++ rows.replay_bodies (o.uri ∷ told) s.opens os)) (sym held.0.1)))))

  pub has_holders : (os : List Open) → AllByRecursion (IsFound s.opens) os → AllByRecursion HasHolder os
  has_holders [] h = tt
  has_holders (o ∷ os) h = (go (holder o.uri s.opens) refl, has_holders os h.1)
    where
      go : (q : Option Open) → holder o.uri s.opens ≡ q → HasHolder o
      go (Some p) e = (p, e)
      go None e = absurd (found_holder o.editor o.uri s.opens o h.0 e)

  pub replay_outs : s.helds ≡ [] → Once s.opens → (replay_all s).outs ≡ map (λ b. ToServer n b) (rows.replay_bodies [] s.opens s.opens)
  replay_outs none once = all_sent [] (nothing s) s.opens (same_kept s) (λ w. ap (version_held w) none) (has_holders s.opens (all_found s.opens once))

-- the whole row
pub ready_outs : (n : ℕ) (code : Encoding) (s : Documents) → Once s.opens → (ready_row n code s).outs ≡ map (λ b. ToServer n b) (rows.replay_bodies [] s.opens s.opens)
ready_outs n code s once = replay_outs n (record s { start = Some n; encoding = Some code; sent = 0; helds = [] }) refl refl once

pub ready_texts : (n : ℕ) (code : Encoding) (s : Documents) → texts_in (ready_row n code s).after ≡ texts_in s
ready_texts n code s = replay_texts (record s { start = Some n; encoding = Some code; sent = 0; helds = [] })

pub ready_stays : (n : ℕ) (code : Encoding) (s : Documents) → Stays (record s { start = Some n; encoding = Some code; sent = 0; helds = [] }) (ready_row n code s).after
ready_stays n code s =
    let r : Documents = record s { start = Some n; encoding = Some code; sent = 0; helds = [] } in
    (all_keep r (nothing r) r.opens (same_kept r)).stays
