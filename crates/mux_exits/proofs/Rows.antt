-- X1 to X3: the rows send what was gathered.
use Rattle.std.proofs.Common.{◌≡◌, ℕ, Bool, true, false, List, [], ◌∷◌, ◌++◌, append-nil, append_assoc, filter, flat_map, map, if◌then◌else◌, refl, ap, ap₂, sym, ◌∙◌}
use Rattle.mux_history.specs.declared.out.Out.{Out}
use Rattle.mux_history.specs.declared.out.Out.TheVariants.{ToEditor}
use Rattle.rpc_message.specs.Texts.{error_text, request_failed}
use Rattle.event_model.specs.Does.{Alike}
use Rattle.event_model.specs.Event.{Event, behind}
use Rattle.event_model.specs.Row.{Row, after, choose, each, nothing, outs, send, ◌⨾◌}
use Rattle.event_model.specs.Settings.{Settings}
use Rattle.event_model.specs.Stages.{is_ready, life_of}
use Rattle.event_model.proofs.Turns.{alike, alike_false, alike_then, alike_true, behind_more}
use Rattle.group_rows.specs.Asks.{Ask, asks_of, is_with, members_in, running_in}
use Rattle.group_rows.specs.Created.{Created, Taking, Token, created_of, created_text}
use Rattle.group_rows.specs.diagnostics_route.specs.declared.last_list.LastList.{LastList}
use Rattle.group_rows.specs.ExitRows.{empty_list, empty_text, end_text, end_token, has_begun, is_full, lose_sent, lose_start, turn_out, unanswered_at}
use Rattle.group_rows.specs.Forwarded.{forwarding_of}
use Rattle.group_rows.specs.Leaves.{cancel_text}
use Rattle.group_rows.specs.Lists.{lists_of}
use Rattle.group_rows.specs.Live.{live_of}
use Rattle.group_rows.specs.LiveRows.{unregister_any}
use Rattle.group_rows.specs.registrations.specs.declared.registration.Registration.{Registration}
use Rattle.mux_exits.specs.declared.losses.Loss.{Loss}
use Rattle.mux_exits.specs.declared.losses.Loss.TheVariants.{Emptied, Refused, Told, Unregistered}
use Rattle.mux_exits.specs.declared.partings.Parting.{Parting}
use Rattle.mux_exits.specs.Losses.{cancelled, emptied, ended, live_at, loss_row, lost_at, lost_sent, lost_start}
use Rattle.mux_exits.specs.Partings.{IsParting, parting_row}
use Rattle.mux_tables.specs.Halts.{ids_at}
use Rattle.mux_tables.specs.Losses.{open_asks}
use Rattle.mux_tables.specs.mux_tokens.specs.Ends.{begun_tokens, unanswered_takes}
use Rattle.mux_turns.proofs.Failing.{own_rows}

-- Rows that are alike

alike_back : {r p : Row} → Alike r p → Alike p r
alike_back d = record { sends = λ events. sym (d.sends events) }

after_alike : {p q r s : Row} → Alike p r → Alike q s → Alike (p ⨾ q) (r ⨾ s)
after_alike {p} {q} {r} {s} d e = record { sends = λ events. ap₂ (λ xs ys. xs ++ ys) (d.sends events) (e.sends (behind events (outs p events)) ∙ ap (λ xs. outs s (behind events xs)) (d.sends events)) }

after_joined : {p q r : Row} → Alike ((p ⨾ q) ⨾ r) (p ⨾ (q ⨾ r))
after_joined {p} {q} {r} = record {
  sends = λ events.
      let xs = outs p events in
      let ys = outs q (behind events xs) in
      append_assoc xs ys (outs r (behind events (xs ++ ys))) ∙ ap (λ es. xs ++ (ys ++ outs r es)) (behind_more events xs ys);
}

each_map : {A B : Type 0} (row : B → Row) (f : A → B) (xs : List A) → each row (map f xs) ≡ each (λ a. row (f a)) xs
each_map row f [] = refl
each_map row f (x ∷ xs) = ap (after (row (f x))) (each_map row f xs)

each_join : {A : Type 0} (row : A → Row) (xs ys : List A) → Alike (each row (xs ++ ys)) (each row xs ⨾ each row ys)
each_join row [] ys = record { sends = λ events. ap (outs (each row ys)) (sym (append-nil events)) }
each_join row (x ∷ xs) ys = alike_then (after_alike (alike {r = row x} refl) (each_join row xs ys)) (alike_back after_joined)

each_flat : {A B : Type 0} (row : A → Row) (losing : B → Row) (f : A → List B) → ((a : A) → Alike (row a) (each losing (f a))) → (xs : List A) → Alike (each row xs) (each losing (flat_map f xs))
each_flat row losing f one [] = alike refl
each_flat row losing f one (x ∷ xs) = alike_then (after_alike (one x) (each_flat row losing f one xs)) (alike_back (each_join losing (f x) (flat_map f xs)))

-- X1

sent_alike : (settings : Settings) (before : List Event) (live : List Registration) (s e : ℕ) → Alike (lose_sent settings before s e) (each (loss_row live) (lost_sent settings before s e))
sent_alike settings before live s e =
    let ids = ids_at e (forwarding_of settings s before).open_requests in
    alike_then (own_rows e (forwarding_of settings s before).open_requests) (alike (sym (each_map (loss_row live) (λ id. Refused e id) ids)))

-- X2

tokens_alike : (live : List Registration) (s e : ℕ) (x : Created) (ts : List Token) → Alike (each (end_token s e x) ts) (each (loss_row live) (ended s e (map (λ (t : Token). t.number) (filter (λ (t : Token). has_begun e t.number x) ts))))
tokens_alike live s e x [] = alike refl
tokens_alike live s e x (t ∷ ts) = go (has_begun e t.number x) (tokens_alike live s e x ts)
  where
    told : Out
    told = ToEditor e (end_text (created_text s t.number))

    rest : List Token
    rest = filter (λ (t : Token). has_begun e t.number x) ts

    go : (b : Bool) → Alike (each (end_token s e x) ts) (each (loss_row live) (ended s e (map (λ (t : Token). t.number) rest)))
        → Alike (choose b (send (ToEditor e (end_text (created_text s t.number)))) nothing ⨾ each (end_token s e x) ts)
        (each (loss_row live) (ended s e (map (λ (t : Token). t.number) (if b then t ∷ rest else rest))))
    go true d = record { sends = λ events. ap (λ xs. told ∷ xs) (d.sends (behind events (told ∷ []))) }
    go false d = record { sends = λ events. ap (outs (each (end_token s e x) ts)) (append-nil events) ∙ d.sends events }

numbers_alike : {A : Type 0} (live : List Registration) (e : ℕ) (number : A → ℕ) (cs : List A) → Alike (each (λ (c : A). send (ToEditor e (cancel_text (number c)))) cs) (each (loss_row live) (cancelled e (map number cs)))
numbers_alike live e number cs = alike (sym (each_map (loss_row live) (λ n. Told e (cancel_text n)) (map number cs) ∙ each_map (λ n. send (ToEditor e (cancel_text n))) number cs))

empties_alike : (before : List Event) (live : List Registration) (e : ℕ) (ls : List LastList) → Alike (each (empty_list before e) ls) (each (loss_row live) (emptied before e ls))
empties_alike before live e [] = alike refl
empties_alike before live e (l ∷ ls) = go (is_full e l.uri before) (empties_alike before live e ls)
  where
    told : Out
    told = ToEditor e (empty_text l.uri)

    rest : List LastList
    rest = filter (λ (k : LastList). is_full e k.uri before) ls

    go : (b : Bool) → Alike (each (empty_list before e) ls) (each (loss_row live) (map (λ (k : LastList). Emptied e k.uri) rest))
        → Alike (choose b (send (ToEditor e (empty_text l.uri))) nothing ⨾ each (empty_list before e) ls)
        (each (loss_row live) (map (λ (k : LastList). Emptied e k.uri) (if b then l ∷ rest else rest)))
    go true d = record { sends = λ events. ap (λ xs. told ∷ xs) (d.sends (behind events (told ∷ []))) }
    go false d = record { sends = λ events. ap (outs (each (empty_list before e) ls)) (append-nil events) ∙ d.sends events }

module _ (settings : Settings) (before : List Event) (s : ℕ) where
  abbrev live : List Registration
  live = live_of settings s before

  abbrev tokens : ℕ → List Loss
  tokens e = ended s e (begun_tokens e (created_of settings s before))

  abbrev takes : ℕ → List Loss
  takes e = cancelled e (unanswered_takes e (created_of settings s before))

  abbrev questions : ℕ → List Loss
  questions e = cancelled e (open_asks e (asks_of settings s before))

  start_alike : (e : ℕ) → Alike (lose_start settings before s e) (each (loss_row live) (lost_start settings before s e))
  start_alike e =
      let row = loss_row live in
      let last = Unregistered e ∷ emptied before e (lists_of s before) in
      alike_then (after_alike (tokens_alike live s e (created_of settings s before) (created_of settings s before).tokens)
      (after_alike (numbers_alike live e (λ (c : Taking). c.number) (filter (unanswered_at e) (created_of settings s before).takings))
      (after_alike (numbers_alike live e (λ (a : Ask). a.number) (filter (is_with e) (asks_of settings s before)))
      (after_alike (alike {r = unregister_any live e} refl) (empties_alike before live e (lists_of s before))))))
      (alike_back (alike_then (each_join row (tokens e) (takes e ++ (questions e ++ last)))
      (after_alike (alike {r = each row (tokens e)} refl) (alike_then (each_join row (takes e) (questions e ++ last))
      (after_alike (alike {r = each row (takes e)} refl) (each_join row (questions e) last))))))

  module _ (g : ℕ) where
    abbrev sent : List Loss
    sent = flat_map (lost_sent settings before s) (members_in settings g before)

    abbrev started : List Loss
    started = flat_map (lost_start settings before s) (running_in settings g before)

    -- before what becomes of the group
    module _ (last : Row) where
      by_stage : (b : Bool) → Alike (each (lose_sent settings before s) (members_in settings g before) ⨾ (choose b (each (lose_start settings before s) (running_in settings g before)) nothing ⨾ last))
          (each (loss_row (if b then live else [])) (sent ++ (if b then started else [])) ⨾ last)
      by_stage true = alike_then (after_alike (each_flat (lose_sent settings before s) (loss_row live) (lost_sent settings before s) (sent_alike settings before live s) (members_in settings g before))
          (after_alike (alike_then alike_true (each_flat (lose_start settings before s) (loss_row live) (lost_start settings before s) start_alike (running_in settings g before))) (alike {r = last} refl)))
          (alike_then (alike_back after_joined) (after_alike (alike_back (each_join (loss_row live) sent started)) (alike {r = last} refl)))
      by_stage false = alike_then (after_alike (each_flat (lose_sent settings before s) (loss_row []) (lost_sent settings before s) (sent_alike settings before [] s) (members_in settings g before))
          (after_alike (alike_then alike_false (alike {r = nothing} refl)) (alike {r = last} refl)))
          (alike_then (alike_back after_joined) (after_alike (alike_back (each_join (loss_row []) sent [])) (alike {r = last} refl)))

      pub losing_alike : (p : Parting) → IsParting settings before g s p
          → Alike (each (lose_sent settings before s) (members_in settings g before) ⨾ (choose (is_ready (life_of s before).stage) (each (lose_start settings before s) (running_in settings g before)) nothing ⨾ last)) (each (loss_row p.live.items) p.losses.items ⨾ last)
      losing_alike p is = alike_then (by_stage (is_ready (life_of s before).stage)) (alike (ap₂ (λ l ls. each (loss_row l) ls ⨾ last) (sym is.live) (sym is.losses)))

    pub parting_alike : (p : Parting) → IsParting settings before g s p
        → Alike (each (lose_sent settings before s) (members_in settings g before) ⨾ (choose (is_ready (life_of s before).stage) (each (lose_start settings before s) (running_in settings g before)) nothing ⨾ each (turn_out settings g) (members_in settings g before))) (parting_row settings g p)
    parting_alike p is = alike_then (losing_alike (each (turn_out settings g) (members_in settings g before)) p is) (alike (ap (λ ms. each (loss_row p.live.items) p.losses.items ⨾ each (turn_out settings g) ms) (sym is.members)))

-- What is gathered, by where the start stands

module _ (settings : Settings) (before : List Event) (s g : ℕ) (members : List ℕ) (first xs : List Loss) (those : members ≡ members_in settings g before) (none : first ≡ []) (is : xs ≡ first ++ flat_map (lost_sent settings before s) members) where
  gathered : xs ≡ sent settings before s g
  gathered = is ∙ ap₂ (λ ws es. ws ++ flat_map (lost_sent settings before s) es) none those

  pub parts_unready : is_ready (life_of s before).stage ≡ false → xs ≡ lost_at settings before s g
  parts_unready off = gathered ∙ (sym (append-nil (sent settings before s g)) ∙ ap (λ b. sent settings before s g ++ (if b then started settings before s g else [])) (sym off))

  pub parts_ready : (running : List ℕ) (ys : List Loss) → is_ready (life_of s before).stage ≡ true → running ≡ running_in settings g before → ys ≡ xs ++ flat_map (lost_start settings before s) running → ys ≡ lost_at settings before s g
  parts_ready running ys on these more = more ∙ (ap₂ (λ ws es. ws ++ flat_map (lost_start settings before s) es) gathered these ∙ ap (λ b. sent settings before s g ++ (if b then started settings before s g else [])) (sym on))

pub live_ready : (settings : Settings) (before : List Event) (s : ℕ) (xs : List Registration) → is_ready (life_of s before).stage ≡ true → xs ≡ live_of settings s before → xs ≡ live_at settings before s
live_ready settings before s xs on is = is ∙ ap (λ b. if b then live_of settings s before else []) (sym on)

pub live_unready : (settings : Settings) (before : List Event) (s : ℕ) (xs : List Registration) → is_ready (life_of s before).stage ≡ false → xs ≡ [] → xs ≡ live_at settings before s
live_unready settings before s xs off is = is ∙ ap (λ b. if b then live_of settings s before else []) (sym off)
