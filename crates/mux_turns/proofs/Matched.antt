-- The request that an answer names.
use Rattle.std.proofs.Common.{◌≡◌, ℕ, ◌+◌, ◌<◌, ◌≤◌, ◌^◌, Bool, true, false, ◌&&◌, cond, List, [], ◌∷◌, ◌++◌, map, length, refl, ap, sym, subst, ◌∙◌, arith}
use Rattle.std.specs.Prelude.{Option, Some, None, MatchOption, find, option_map, slice_get}
use Rattle.mux_history.specs.declared.out.Out.{Out}
use Rattle.rpc_message.specs.Message.{Id}
use Rattle.event_model.specs.declared.stage.Stage.{Stage}
use Rattle.event_model.specs.declared.stage.Stage.TheVariants.{Ready, Spawning}
use Rattle.event_model.specs.Does.{Alike, Does, Done}
use Rattle.event_model.specs.Event.{Event, behind}
use Rattle.event_model.specs.Row.{Row}
use Rattle.event_model.specs.Settings.{Settings}
use Rattle.event_model.specs.Stages.{is_initializing}
use Rattle.event_model.proofs.Places.{item_at}
use Rattle.event_model.proofs.Turns.{does_entry}
use Rattle.group_facts.specs.group_rows.specs.Forwarded.{Forwarded, answered_by, forwarding_of, is_under}
use Rattle.mux_tables.specs.id_rewrite.specs.declared.pending.Numbered.{Numbered}
use Rattle.mux_tables.specs.id_rewrite.specs.declared.pending.Pending.{Pending}
use Rattle.mux_tables.specs.id_rewrite.specs.Tables.{RiseWithin}
use Rattle.mux_tables.specs.declared.tables.Tables.{Tables}
use Rattle.mux_tables.specs.Stands.{NamesAt, Stands, forwarded_as, forwarded_of, number_in, of_ids, is_early}
use Rattle.mux_tables.proofs.Starts.{start_at_place}

rises : (from to : ℕ) (rs : List Numbered) → RiseWithin from to rs → from ≤ to
rises from to [] h = h
rises from to (r ∷ rs) h = let k = rises (r.number + 1) to rs h.1 in let l = h.0 in omega arith

-- two tests that agree on the numbers that were given find the same
find_below : (p q : Forwarded → Bool) (to : ℕ) → ((f : Forwarded) → f.number < to → p f ≡ q f) → (from : ℕ) (rs : List Numbered) → RiseWithin from to rs → find p (map forwarded_of rs) ≡ find q (map forwarded_of rs)
find_below p q to same from [] h = refl
find_below p q to same from (r ∷ rs) h =
    let k = rises (r.number + 1) to rs h.1 in
    go (p (forwarded_of r)) (q (forwarded_of r)) (same (forwarded_of r) (omega arith)) (find_below p q to same (r.number + 1) rs h.1)
  where
    go : (a b : Bool) → a ≡ b → find p (map forwarded_of rs) ≡ find q (map forwarded_of rs) → cond a (Some (forwarded_of r)) (find p (map forwarded_of rs)) ≡ cond b (Some (forwarded_of r)) (find q (map forwarded_of rs))
    go true true e h = refl
    go false false e h = h
    go true false e h = cc
    go false true e h = cc

find_never : (fs : List Forwarded) → find (λ f. false) fs ≡ None
find_never [] = refl
find_never (f ∷ fs) = find_never fs

module _ (settings : Settings) (t : Tables) (before : List Event) (g s : ℕ) (id : Option Id) (st : Stands settings t before) (within : g < length t.lasts.items) (at : slice_get (map number_in t.lasts.items) g ≡ Some s) where
  same_found : (q : Forwarded → Bool) → ((n : ℕ) → n < 2 ^ 32 → (f : Forwarded) → f.number ≡ n → answered_by id f ≡ q f) → find (answered_by id) (forwarding_of settings s before).open_requests ≡ find q (forwarding_of settings s before).open_requests
  same_found q same =
      let x = item_at t.lasts.items g within in
      let ids = (st.lasts.each g x.0 x.1).parts of_ids in
      let own = start_at_place t.lasts.items g s x.0 x.1 at in
      let opened = ap (λ n. (forwarding_of settings n before).open_requests) (sym own) ∙ ids.open_requests in
      let last = ids.order.within in
      let ends = ids.ends in
      let range = st.range in
      ap (find (answered_by id)) opened ∙ (find_below (answered_by id) q x.0.ids.next (λ f l. same f.number (omega (arith, ends)) f refl) 2 x.0.ids.requests ids.order.rising ∙ ap (find q) (sym opened))

  pub found_some : (k : ℕ) → NamesAt id (Some k) → find (answered_by id) (forwarding_of settings s before).open_requests ≡ find (is_under k) (forwarding_of settings s before).open_requests
  found_some k named = same_found (is_under k) (λ n l f e. named f.number (subst (λ m. m < 2 ^ 32) (sym e) l))

  pub found_none : NamesAt id None → find (answered_by id) (forwarding_of settings s before).open_requests ≡ None
  found_none named = same_found (λ f. false) (λ n l f e. named f.number (subst (λ m. m < 2 ^ 32) (sym e) l)) ∙ find_never (forwarding_of settings s before).open_requests

  pub found_as : (o : Option ℕ) (asked kept : Option Pending) → NamesAt id o → MatchOption o (kept ≡ None) (λ n. kept ≡ asked) → ((k : ℕ) → o ≡ Some k → find (is_under k) (forwarding_of settings s before).open_requests ≡ option_map (forwarded_as k) asked)
      → (k : ℕ) × (find (answered_by id) (forwarding_of settings s before).open_requests ≡ option_map (forwarded_as k) kept)
  found_as None asked kept named is seen = (0, found_none named ∙ ap (option_map (forwarded_as 0)) (sym is))
  found_as (Some k) asked kept named is seen = (k, found_some k named ∙ (seen k refl ∙ ap (option_map (forwarded_as k)) (sym is)))

-- a start that is ready isn't awaited
pub not_first : (b : Bool) (stage : Stage) → stage ≡ Ready → (b && is_initializing stage) ≡ false
not_first b stage e = ap (λ k. b && is_initializing k) e ∙ go b
  where
    go : (b : Bool) → (b && false) ≡ false
    go true = refl
    go false = refl

pub not_early : (b : Bool) (stage : Stage) → stage ≡ Ready → (b && is_early stage) ≡ false
not_early b stage e = ap (λ k. b && is_early k) e ∙ go b
  where
    go : (b : Bool) → (b && false) ≡ false
    go true = refl
    go false = refl

pub not_spawning : (stage : Stage) → stage ≡ Ready → stage ≡ Spawning → ⊥
not_spawning stage r e = clash (sym r ∙ e)
  where
    clash : Ready ≡ Spawning → ⊥
    clash q = cc

pub whole_entry : {K : Type 0} (Holds : K → List Event → Type 0) (row : Row) (base : List Event) (t u : K) (xs ys : List Out) → xs ≡ [] → Holds t base → Does Holds row base t xs u ys → Done Holds row base [] u ys
whole_entry Holds row base t u xs ys first st d = does_entry st (subst (λ zs. Does Holds row base t zs u ys) first d)

-- a whole entry of a row that sends what another one does
pub done_alike : {K : Type 0} (Holds : K → List Event → Type 0) {r p : Row} {base : List Event} {xs ys : List Out} {u : K} → Alike r p → Done Holds p base xs u ys → Done Holds r base xs u ys
done_alike Holds {r} {p} {base} {xs} {ys} {u} a d = record { outs = d.outs ∙ ap (λ zs. xs ++ zs) (sym (a.sends (behind base xs))); stands = d.stands }
