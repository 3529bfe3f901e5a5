-- What waits at a start, as other things there go.
use Rattle.std.proofs.Common.{◌≡◌, Bool, true, false, ◌||◌, List, [], ◌∷◌, ◌++◌, filter, refl, subst}
use Rattle.std.specs.Prelude.{Some}
use Rattle.std.specs.List.{AllByRecursion, list_any}
use Rattle.ask_route.specs.declared.ask.Ask as route
use Rattle.rpc_message.specs.Message.{id_bytes, same_id}
use Rattle.rpc_message.specs.ValueTexts.{IsIdText}
use Rattle.rpc_message.proofs.Ids.{request_id_bytes}
use Rattle.event_model.specs.declared.stage.Stage.{Stage}
use Rattle.event_model.specs.declared.stage.Stage.TheVariants.{Unspawned, Spawning, Initializing, Ready}
use Rattle.event_model.proofs.Frames.{never}
use Rattle.group_laws.specs.group_rows.specs.Asks.{Ask, Parked, is_under, waits_under}
use Rattle.mux_tables.specs.Stands.{IsFree, MayWait, ParkedAt, ParkedStand}
use Rattle.mux_tables.proofs.Apart.{all_filter, id_flip}

pub ready_parked : (stage : Stage) (qs : List Ask) (ps : List Parked) (kept : List route.Ask) → stage ≡ Ready → ParkedAt stage qs ps kept → ParkedStand qs ps kept
ready_parked stage qs ps kept is s = subst (λ k. ParkedAt k qs ps kept) is s

-- its id is read of its body
pub parked_text : (p : Parked) → MayWait p → IsIdText p.id (id_bytes p.body)
parked_text p h = request_id_bytes p.body p.id h.0 h.1 h.2

-- what holds of each holds in another form
pub all_so : {A : Type 0} (P Q : A → Type 0) (xs : List A) → ((x : A) → P x → Q x) → AllByRecursion P xs → AllByRecursion Q xs
all_so P Q [] go h = tt
all_so P Q (x ∷ xs) go h = (go x h.0, all_so P Q xs go h.1)

-- where fewer are asked
pub parked_fewer : (stage : Stage) (p : Ask → Bool) (qs : List Ask) (ps : List Parked) (kept : List route.Ask) → ParkedAt stage qs ps kept → ParkedAt stage (filter p qs) ps kept
parked_fewer Ready p qs ps kept s = record { same = s.same; bodies = s.bodies; own = s.own; free = all_so (IsFree qs) (IsFree (filter p qs)) ps (λ w h. all_filter (λ (a : Ask). is_under (Some w.id) a ≡ false) p qs h) s.free }
parked_fewer Unspawned p qs ps kept s = s
parked_fewer Spawning p qs ps kept s = s
parked_fewer Initializing p qs ps kept s = s
parked_fewer other p qs ps kept s = tt

-- nothing waits under the id of an open ask
pub under_none : (a : Ask) (pre post : List Ask) (ps : List Parked) → AllByRecursion (IsFree (pre ++ a ∷ post)) ps → AllByRecursion (λ (p : Parked). waits_under (Some a.id) p ≡ false) ps
under_none a pre post ps h = all_so (IsFree (pre ++ a ∷ post)) (λ (p : Parked). waits_under (Some a.id) p ≡ false) ps (λ p k. id_flip a.id p.id (among p pre k)) h
  where
    among : (p : Parked) (cs : List Ask) → IsFree (cs ++ a ∷ post) p → same_id p.id a.id ≡ false
    among p [] k = k.0
    among p (c ∷ cs) k = among p cs k.1

pub none_either : (a b : Bool) → (a || b) ≡ false → (a ≡ false) × (b ≡ false)
none_either false b h = (refl, h)
none_either true b h = never h

pub none_any : {A : Type 0} (test : A → Bool) (xs : List A) → list_any test xs ≡ false → AllByRecursion (λ x. test x ≡ false) xs
none_any test [] h = tt
none_any test (x ∷ xs) h = let k = none_either (test x) (list_any test xs) h in (k.0, none_any test xs k.1)

pub all_then : {A : Type 0} (P : A → Type 0) (qs : List A) (a : A) → AllByRecursion P qs → P a → AllByRecursion P (qs ++ a ∷ [])
all_then P [] a h k = (k, tt)
all_then P (q ∷ qs) a h k = (h.0, all_then P qs a h.1 k)

-- where one more is asked, under an id that nothing waits under
pub parked_beside : (qs : List Ask) (a : Ask) (ps : List Parked) (kept : List route.Ask) → AllByRecursion (λ (p : Parked). waits_under (Some a.id) p ≡ false) ps → ParkedStand qs ps kept → ParkedStand (qs ++ a ∷ []) ps kept
parked_beside qs a ps kept none s = record { same = s.same; bodies = s.bodies; own = s.own; free = go ps none s.free }
  where
    go : (ps : List Parked) → AllByRecursion (λ (p : Parked). waits_under (Some a.id) p ≡ false) ps → AllByRecursion (IsFree qs) ps → AllByRecursion (IsFree (qs ++ a ∷ [])) ps
    go [] h k = tt
    go (p ∷ ps) h k = (all_then (λ (b : Ask). is_under (Some p.id) b ≡ false) qs a k.0 (id_flip p.id a.id h.0), go ps h.1 k.1)
