-- Behind outs the last list of a document that an editor was sent is the last one among them, if there is one.
use Rattle.std.proofs.Common.{◌≡◌, ℕ, Bool, true, false, not, ◌&&◌, List, [], ◌∷◌, ◌++◌, append-nil, append_assoc, bytes_eq, flat_map, fold, map, nat_eq, if◌then◌else◌, inl, inr, refl, sym, ◌∙◌, ap, ap₂}
use Rattle.std.specs.List.{AllByRecursion}
use Rattle.std.proofs.lemmas.List.Sums.{fold-append}
use Rattle.std.proofs.lemmas.Slice.Eq.{bytes_eq-Decides}
use Rattle.mux_history.specs.declared.cause.Cause.{Cause}
use Rattle.mux_history.specs.declared.cause.Cause.TheVariants.{Joined, FromEditor, EditorGone, Started, StartFailed, FromServer, ServerGone, Drained, Tick}
use Rattle.mux_history.specs.declared.out.Out.{Out}
use Rattle.mux_history.specs.declared.out.Out.TheVariants.{ToEditor, ToServer, Spawn, CloseEditor, EndServer}
use Rattle.rpc_message.specs.Message.{Message, error, message_of, not_json, not_message, notification, request, result}
use Rattle.event_model.specs.Event.{Event, behind, did, heard, said, with_cause}
use Rattle.event_model.proofs.Frames.{never}
use Rattle.group_rows.specs.diagnostics_route.specs.declared.last_list.LastList.{LastList}
use Rattle.group_rows.specs.diagnostics_route.specs.Published.{published}
use Rattle.group_rows.specs.ExitRows.{empty_text, full_behind, full_by, is_full}
use Rattle.group_rows.specs.Lists.{is_publishing}
use Rattle.group_rows.proofs.ExitTexts.{empty_published}
use Rattle.group_rows.proofs.ListTexts.{Listed}
use Rattle.group_rows.proofs.ListsKept.{IsList}
use Rattle.group_facts.specs.Facts.{is_exit}
use Rattle.group_facts.proofs.Sent.{OneOf}
use Rattle.group_sessions.specs.LastLists.{emptied, gives_list, list_to, lists_to}

module _ (e : ℕ) (u : List ℕ) where
  abbrev pub by_list : Bool → List ℕ → Bool
  by_list full body = full_by (published 0 body) u full

  full_message : (full : Bool) (n : ℕ) (body : List ℕ) (m : Message) → full_behind e u full (did (ToEditor n body) m) ≡ fold by_list full (if nat_eq n e && gives_list m then body ∷ [] else [])
  full_message full n body m = go m
    where
      none : (b : Bool) → full ≡ fold by_list full (if b && false then body ∷ [] else [])
      none true = refl
      none false = refl

      one : (b : Bool) → (if b then full_by (published 0 body) u full else full) ≡ fold by_list full (if b then body ∷ [] else [])
      one true = refl
      one false = refl

      go : (z : Message) → full_behind e u full (did (ToEditor n body) z) ≡ fold by_list full (if nat_eq n e && gives_list z then body ∷ [] else [])
      go (notification method params) = one (nat_eq n e && is_publishing method)
      go (request id method params) = none (nat_eq n e)
      go (result id r) = none (nat_eq n e)
      go (error id x) = none (nat_eq n e)
      go not_json = none (nat_eq n e)
      go not_message = none (nat_eq n e)

  full_told : (events : List Event) (out : Out) → is_full e u (events ++ said out ∷ []) ≡ fold by_list (is_full e u events) (list_to e out)
  full_told events (ToEditor n body) = fold-append (full_behind e u) false events (said (ToEditor n body) ∷ []) ∙ full_message (is_full e u events) n body (message_of body)
  full_told events (ToServer n body) = fold-append (full_behind e u) false events (said (ToServer n body) ∷ [])
  full_told events (Spawn n g) = fold-append (full_behind e u) false events (said (Spawn n g) ∷ [])
  full_told events (CloseEditor n) = fold-append (full_behind e u) false events (said (CloseEditor n) ∷ [])
  full_told events (EndServer n) = fold-append (full_behind e u) false events (said (EndServer n) ∷ [])

  pub full_outs : (events : List Event) (xs : List Out) → is_full e u (behind events xs) ≡ fold by_list (is_full e u events) (lists_to e xs)
  full_outs events [] = ap (is_full e u) (append-nil events)
  full_outs events (x ∷ xs) = ap (is_full e u) (sym (append_assoc events (said x ∷ []) (map said xs))) ∙ (full_outs (events ++ said x ∷ []) xs
      ∙ (ap (λ z. fold by_list z (lists_to e xs)) (full_told events x) ∙ sym (fold-append by_list (is_full e u events) (list_to e x) (lists_to e xs))))

  -- an exit sends nothing by itself
  pub full_exit : (before : List Event) (cause : Cause) (s : ℕ) → is_exit cause s ≡ true → is_full e u (with_cause before cause) ≡ is_full e u before
  full_exit before (StartFailed n) s is = fold-append (full_behind e u) false before (heard (StartFailed n) ∷ [])
  full_exit before (ServerGone n) s is = fold-append (full_behind e u) false before (heard (ServerGone n) ∷ [])
  full_exit before (Joined n) s is = never (sym is)
  full_exit before (FromEditor n body) s is = never (sym is)
  full_exit before (EditorGone n why) s is = never (sym is)
  full_exit before (Started n) s is = never (sym is)
  full_exit before (FromServer n body) s is = never (sym is)
  full_exit before (Drained n k) s is = never (sym is)
  full_exit before (Tick t) s is = never (sym is)

  -- X2
  module _ (before : List Event) where
    one_empty : (l : LastList) → IsList l → (full : Bool) → fold by_list full (emptied e before l) ≡ (if is_full e l.uri before && bytes_eq l.uri u then false else full)
    one_empty l kept full = go (is_full e l.uri before)
      where
        k : Listed l.uri true (empty_text l.uri)
        k = empty_published l.uri kept.spelt

        go : (b : Bool) → fold by_list full (if b then empty_text l.uri ∷ [] else []) ≡ (if b && bytes_eq l.uri u then false else full)
        go true = ap (λ o. full_by o u full) k.is ∙ ap₂ (λ w b. if bytes_eq w u then not b else full) k.document k.none
        go false = refl

    both_off : (b : Bool) → (if b then false else false) ≡ false
    both_off true = refl
    both_off false = refl

    pub stays_empty : (ls : List LastList) → AllByRecursion IsList ls → fold by_list false (flat_map (emptied e before) ls) ≡ false
    stays_empty [] kept = refl
    stays_empty (l ∷ ls) kept = fold-append by_list false (emptied e before l) (flat_map (emptied e before) ls)
        ∙ (ap (λ b. fold by_list b (flat_map (emptied e before) ls)) (one_empty l kept.0 false ∙ both_off (is_full e l.uri before && bytes_eq l.uri u)) ∙ stays_empty ls kept.1)

    pub gets_empty : is_full e u before ≡ true → (ls : List LastList) → AllByRecursion IsList ls → OneOf (λ (l : LastList). l.uri ≡ u) ls → (full : Bool) → fold by_list full (flat_map (emptied e before) ls) ≡ false
    gets_empty held [] kept one full = absurd one
    gets_empty held (l ∷ ls) kept (inl same) full = fold-append by_list full (emptied e before l) (flat_map (emptied e before) ls)
        ∙ (ap (λ b. fold by_list b (flat_map (emptied e before) ls)) (one_empty l kept.0 full ∙ ap₂ (λ a b. if a && b then false else full) (ap (λ w. is_full e w before) same ∙ held) (ap (λ w. bytes_eq w u) same ∙ (bytes_eq-Decides u u).1 refl))
        ∙ stays_empty ls kept.1)
    gets_empty held (l ∷ ls) kept (inr one) full = fold-append by_list full (emptied e before l) (flat_map (emptied e before) ls) ∙ gets_empty held ls kept.1 one (fold by_list full (emptied e before l))
