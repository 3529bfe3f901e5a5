-- X1: behind the exit of a start that its group goes on from, no request is open that the start had to answer.
use Rattle.std.proofs.Common.{◌≡◌, ℕ, Bool, true, false, cond, ◌||◌, List, [], ◌∷◌, ◌++◌, filter, map, nat_eq, if◌then◌else◌, Some, inl, inr, refl, sym, ◌∙◌, ap, ap₂, subst, append-nil, append_assoc}
use Rattle.std.specs.List.{AllByRecursion, list_any}
use Rattle.mux_history.specs.declared.out.Out.{Out}
use Rattle.mux_history.specs.declared.out.Out.TheVariants.{ToEditor, ToServer, Spawn, CloseEditor, EndServer}
use Rattle.rpc_message.specs.Message.{Id, message_of}
use Rattle.event_model.specs.Event.{Event, behind, said}
use Rattle.event_model.specs.Requests.{answered_id, is_open, open_of, without}
use Rattle.event_model.specs.Row.{each, outs}
use Rattle.event_model.proofs.Frames.{never}
use Rattle.event_model.specs.Settings.{Settings}
use Rattle.mux_facts.proofs.Folds.{opens_more}
use Rattle.mux_facts.proofs.Keeps.{behind_both}
use Rattle.mux_facts.proofs.Lists.{all_filtered}
use Rattle.mux_facts.proofs.Words.{number_same, same_number}
use Rattle.group_rows.specs.ExitRows.{lose_sent}
use Rattle.group_rows.specs.Forwarded.{Forwarded, forwarding_of, is_of}
use Rattle.group_rows.specs.StopRows.{lose_request}
use Rattle.group_facts.specs.Facts.{AllForwarded, IsForwarded}
use Rattle.group_facts.proofs.Apart.{one_id}
use Rattle.group_facts.proofs.Losses.{lost_says, lost_text}
use Rattle.group_facts.proofs.OpenByPhase.{answered_closed, fewer_open}
use Rattle.group_facts.proofs.Sent.{IsOf, OneOf}

module _ (settings : Settings) (e : ℕ) (id : Id) where
  abbrev pub NotOpen : List Event → Type 0
  NotOpen events = is_open id (open_of e events) ≡ true → ⊥

  -- no out opens a request
  closed_did : (events : List Event) (out : Out) → NotOpen events → NotOpen (events ++ said out ∷ [])
  closed_did events (ToEditor n body) h still = go (nat_eq n e) (sym (ap (is_open id) (opens_more e events (said (ToEditor n body)))) ∙ still)
    where
      go : (b : Bool) → is_open id (if b then without (answered_id (message_of body)) (open_of e events) else open_of e events) ≡ true → ⊥
      go true k = h (fewer_open id (answered_id (message_of body)) (open_of e events) k)
      go false k = h k
  closed_did events (ToServer s body) h still = h (sym (ap (is_open id) (opens_more e events (said (ToServer s body)))) ∙ still)
  closed_did events (Spawn s g) h still = h (sym (ap (is_open id) (opens_more e events (said (Spawn s g)))) ∙ still)
  closed_did events (CloseEditor n) h still = h (sym (ap (is_open id) (opens_more e events (said (CloseEditor n)))) ∙ still)
  closed_did events (EndServer s) h still = h (sym (ap (is_open id) (opens_more e events (said (EndServer s)))) ∙ still)

  pub closed_outs : (events : List Event) (xs : List Out) → NotOpen events → NotOpen (behind events xs)
  closed_outs events [] h = subst NotOpen (sym (append-nil events)) h
  closed_outs events (x ∷ xs) h = subst NotOpen (append_assoc events (said x ∷ []) (map said xs)) (closed_outs (events ++ said x ∷ []) xs (closed_did events x h))

  module _ (before : List Event) (known : AllForwarded settings before) where
    -- its refusal closes it
    refused : (f : Forwarded) → IsOf e id f → IsForwarded before f → (events : List Event) → NotOpen (events ++ said (ToEditor f.editor (lost_text f)) ∷ [])
    refused f mine k events still = never (sym still ∙ (ap (is_open id) opens ∙ (ap (λ i. is_open id (without (Some i) (open_of e events))) (sym same) ∙ answered_closed id (open_of e events))))
      where
        same : id ≡ k.id
        same = one_id id k.id f.id mine.1 k.text

        opens : open_of e (events ++ said (ToEditor f.editor (lost_text f)) ∷ []) ≡ without (Some k.id) (open_of e events)
        opens = opens_more e events (said (ToEditor f.editor (lost_text f)))
            ∙ ap₂ (λ b m. cond b (without (answered_id m) (open_of e events)) (open_of e events)) (ap (λ z. nat_eq z e) mine.0 ∙ same_number e) (lost_says before f k)

    requests_closed : (gs : List Forwarded) → AllByRecursion (IsForwarded before) gs → OneOf (IsOf e id) gs → (events : List Event) → NotOpen (behind events (outs (each lose_request gs) events))
    requests_closed [] all one events = absurd one
    requests_closed (f ∷ gs) all (inl mine) events = subst NotOpen (append_assoc events (said (ToEditor f.editor (lost_text f)) ∷ []) (map said (outs (each lose_request gs) (events ++ said (ToEditor f.editor (lost_text f)) ∷ []))))
        (closed_outs (events ++ said (ToEditor f.editor (lost_text f)) ∷ []) (outs (each lose_request gs) (events ++ said (ToEditor f.editor (lost_text f)) ∷ [])) (refused f mine all.0 events))
    requests_closed (f ∷ gs) all (inr one) events = subst NotOpen (append_assoc events (said (ToEditor f.editor (lost_text f)) ∷ []) (map said (outs (each lose_request gs) (events ++ said (ToEditor f.editor (lost_text f)) ∷ []))))
        (requests_closed gs all.1 one (events ++ said (ToEditor f.editor (lost_text f)) ∷ []))

    -- among those of its editor
    own_one : (gs : List Forwarded) → OneOf (IsOf e id) gs → OneOf (IsOf e id) (filter (is_of e) gs)
    own_one [] one = one
    own_one (f ∷ gs) (inl mine) = subst (λ b. OneOf (IsOf e id) (cond b (f ∷ filter (is_of e) gs) (filter (is_of e) gs))) (sym (ap (λ z. nat_eq z e) mine.0 ∙ same_number e)) (inl mine)
    own_one (f ∷ gs) (inr one) = go (nat_eq f.editor e) (own_one gs one)
      where
        go : (b : Bool) → OneOf (IsOf e id) (filter (is_of e) gs) → OneOf (IsOf e id) (cond b (f ∷ filter (is_of e) gs) (filter (is_of e) gs))
        go true k = inr k
        go false k = k

    -- X1
    pub sent_closed : (s : ℕ) (es : List ℕ) → list_any (λ n. nat_eq n e) es ≡ true → OneOf (IsOf e id) (forwarding_of settings s before).open_requests → (events : List Event) → NotOpen (behind events (outs (each (lose_sent settings before s) es) events))
    sent_closed s [] named one events = never (sym named)
    sent_closed s (n ∷ es) named one events = subst NotOpen (sym (behind_both events here later)) (go (nat_eq n e) refl named (λ k. sent_closed s es k one (behind events (outs (lose_sent settings before s n) events))))
      where
        here : List Out
        here = outs (lose_sent settings before s n) events

        later : List Out
        later = outs (each (lose_sent settings before s) es) (behind events here)

        go : (b : Bool) → nat_eq n e ≡ b → (b || list_any (λ k. nat_eq k e) es) ≡ true → (list_any (λ k. nat_eq k e) es ≡ true → NotOpen (behind (behind events here) later)) → NotOpen (behind (behind events here) later)
        go true same k rest = closed_outs (behind events here) later (subst (λ i. NotOpen (behind events (outs (lose_sent settings before s i) events))) (sym (number_same n e same))
            (requests_closed (filter (is_of e) (forwarding_of settings s before).open_requests) (all_filtered (IsForwarded before) (IsForwarded before) (is_of e) (λ f t k. k) (forwarding_of settings s before).open_requests (known s))
            (own_one (forwarding_of settings s before).open_requests one) events))
        go false other k rest = rest k
