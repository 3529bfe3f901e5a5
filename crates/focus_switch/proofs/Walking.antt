-- What goes over documents one by one, and the same by their URIs.
use Rattle.std.proofs.Common.{◌≡◌, ℕ, Bool, true, false, List, [], ◌∷◌, ◌++◌, map, refl, sym, ◌∙◌, ap, append-nil, append_assoc}
use Rattle.std.specs.Prelude.{Option, Some, None, find, flat_map, fold, nat_eq, if◌then◌else◌}
use Rattle.std.specs.List.{AllByRecursion}
use Rattle.std.specs.Option.{option_map_or}
use Rattle.std.proofs.lemmas.Bool.{eqb-true}
use Rattle.focus_switch.specs.declared.telling.Telling.{Telling}
use Rattle.focus_switch.specs.declared.version.DocumentVersion.{DocumentVersion}
use Rattle.document_table.specs.document_model.specs.Opens.{Open, is_open_at}
use Rattle.document_table.specs.document_model.specs.Orderly.{Once}
use Rattle.document_table.specs.document_model.proofs.Orders.{IsFound, all_found}
use Rattle.document_table.specs.Rows.{uris_of}
use Rattle.focus_switch.specs.Documents.{Documents, version_held}
use Rattle.focus_switch.specs.Rows.{Step, nothing, tell, send, or_nothing, each, replayed, replay_sends, replay_all, synced, sync_sends}
use Rattle.focus_switch.specs.Versions.{version_of, versions_of}
use Rattle.focus_switch.specs.Walks.{sync_next, replay_at_sends, replay_next, and_version}

-- a start that is told of each document

told_same : (o : Open) (v : Option ℕ) (s : Documents) → replay_at_sends o.uri v s ≡ replay_sends o v s
told_same o None s = refl
told_same o (Some v) s = refl

abbrev behind : Step → Step → Step
behind step next = record { outs = step.outs ++ next.outs; after = next.after }

replayed_each : (os : List Open) (step : Step) → fold replay_next step (map (λ o. o.uri) os) ≡ fold (each replayed) step os
replayed_each [] step = refl
replayed_each (o ∷ os) step =
    ap (λ x. fold replay_next (behind step (send o.uri x step.after)) (map (λ o. o.uri) os)) (told_same o (version_held o.uri step.after.helds) step.after)
    ∙ replayed_each os (each replayed step o)

pub replayed_all : (us : List (List ℕ)) (s : Documents) → us ≡ map (λ o. o.uri) s.opens → fold replay_next (nothing s) us ≡ replay_all s
replayed_all us s e = ap (fold replay_next (nothing s)) e ∙ replayed_each s.opens (nothing s)

-- what is open stays where the start is told of a document

kept : (u : List ℕ) (x : Option Telling) (s : Documents) → (send u x s).after.opens ≡ s.opens
kept u None s = refl
kept u (Some x) s = go s.start
  where
    go : (start : Option ℕ) → (tell start u x s).after.opens ≡ s.opens
    go None = refl
    go (Some start) = refl

-- an editor's documents are found by their URIs
found_at : (e : ℕ) (all : List Open) (o : Open) → nat_eq o.editor e ≡ true → IsFound all o → find (is_open_at e o.uri) all ≡ Some o
found_at e all o is found = ap (λ n. find (is_open_at n o.uri) all) (sym (eqb-true o.editor e is)) ∙ found

abbrev versions_among : ℕ → Documents → List Open → List DocumentVersion
versions_among e s os = flat_map (λ o. if nat_eq o.editor e then version_of o s ∷ [] else []) os

module _ (e : ℕ) (all : List Open) where
  synced_each : (os : List Open) (step : Step) → AllByRecursion (IsFound all) os → step.after.opens ≡ all → fold (sync_next e) step (uris_of e os) ≡ fold (each (synced e)) step os
  synced_each [] step found same = refl
  synced_each (o ∷ os) step found same = go (nat_eq o.editor e) refl (λ step same. synced_each os step found.1 same)
    where
      sent : Documents → Step
      sent s = send o.uri (sync_sends o (version_held o.uri s.helds) s) s

      go : (b : Bool) → nat_eq o.editor e ≡ b → ((step : Step) → step.after.opens ≡ all → fold (sync_next e) step (uris_of e os) ≡ fold (each (synced e)) step os)
          → fold (sync_next e) step ((if b then o.uri ∷ [] else []) ++ uris_of e os) ≡ fold (each (synced e)) (behind step (if b then sent step.after else nothing step.after)) os
      go true is rest =
          ap (λ q. fold (sync_next e) (behind step (or_nothing q step.after (λ p. send o.uri (sync_sends p (version_held p.uri step.after.helds) step.after) step.after))) (uris_of e os))
          (ap (find (is_open_at e o.uri)) same ∙ found_at e all o is found.0)
          ∙ rest (behind step (sent step.after)) (kept o.uri (sync_sends o (version_held o.uri step.after.helds) step.after) step.after ∙ same)
      go false is rest = rest step same ∙ ap (λ outs. fold (each (synced e)) (record { outs = outs; after = step.after }) os) (sym (append-nil step.outs))

  versions_each : (s : Documents) (os : List Open) (vs : List DocumentVersion) → s.opens ≡ all → AllByRecursion (IsFound all) os → fold (and_version e s) vs (uris_of e os) ≡ vs ++ versions_among e s os
  versions_each s [] vs same found = sym (append-nil vs)
  versions_each s (o ∷ os) vs same found = go (nat_eq o.editor e) refl (λ vs. versions_each s os vs same found.1)
    where
      go : (b : Bool) → nat_eq o.editor e ≡ b → ((vs : List DocumentVersion) → fold (and_version e s) vs (uris_of e os) ≡ vs ++ versions_among e s os)
          → fold (and_version e s) vs ((if b then o.uri ∷ [] else []) ++ uris_of e os) ≡ vs ++ ((if b then version_of o s ∷ [] else []) ++ versions_among e s os)
      go true is rest =
          ap (λ q. fold (and_version e s) (option_map_or (λ p. vs ++ version_of p s ∷ []) q vs) (uris_of e os)) (ap (find (is_open_at e o.uri)) same ∙ found_at e all o is found.0)
          ∙ rest (vs ++ version_of o s ∷ []) ∙ append_assoc vs (version_of o s ∷ []) (versions_among e s os)
      go false is rest = rest vs

pub synced_all : (e : ℕ) (us : List (List ℕ)) (s : Documents) → Once s.opens → us ≡ uris_of e s.opens → fold (sync_next e) (nothing s) us ≡ fold (each (synced e)) (nothing s) s.opens
synced_all e us s once is = ap (fold (sync_next e) (nothing s)) is ∙ synced_each e s.opens s.opens (nothing s) (all_found s.opens once) refl

pub versions_all : (e : ℕ) (us : List (List ℕ)) (s : Documents) → Once s.opens → us ≡ uris_of e s.opens → fold (and_version e s) [] us ≡ versions_of e s
versions_all e us s once is = ap (fold (and_version e s) []) is ∙ versions_each e s.opens s s.opens [] refl (all_found s.opens once)
