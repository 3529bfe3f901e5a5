-- What is read of the tables.
use Rattle.std.proofs.Common.{◌≡◌, ℕ, ◌+◌, ◌<◌, ◌≤◌, ◌^◌, Bool, true, false, not, ◌&&◌, ◌||◌, cond, List, [], ◌∷◌, find, map, is_some, refl, sym, subst, ◌∙◌, ap, ap₂, arith, nat_eq, if◌then◌else◌}
use Rattle.std.specs.Prelude.{Option, Some, None, option_map}
use Rattle.std.specs.List.{AllByRecursion, list_any}
use Rattle.std.specs.Option.{option_and_then}
use Rattle.rpc_message.specs.Message.{Id, Message}
use Rattle.rpc_message.specs.ValueTexts.{IsIdText}
use Rattle.event_model.specs.Event.{Event}
use Rattle.event_model.specs.Requests.{answered_id}
use Rattle.event_model.specs.Settings.{Settings}
use Rattle.group_rows.specs.Created.{Created, Taking, Token, created_of, has_accepted, is_answered, is_at as is_with, is_numbered, token_called}
use Rattle.group_rows.specs.Forwarded.{names}
use Rattle.progress_route.specs.Names.{Text}
use Rattle.progress_route.specs.Tables.{Part, accepted_in, all_in, all_of, at, bodies_of, given, given_to, held_in, number_in, token_at, token_in}
use Rattle.mux_tokens.specs.Rows.{Rows, table_of}
use Rattle.mux_tokens.specs.Stands.{CreatedStand, PartStands, Up, accepted_at, begin_at, held_of, is_held_by, is_open_as, part_in, row_of}
use Rattle.mux_tokens.proofs.Finding.{all_both, all_so}
use Rattle.mux_tokens.proofs.Rows.{hit, num_back, num_below, num_itself}
use Rattle.mux_tokens.proofs.Settled.{seat}
use Rattle.mux_tokens.proofs.TokenIds.{number_called, tokens_spelled}

module _ (settings : Settings) (rows : Rows) (events : List Event) (st : CreatedStand settings rows events) (s : ℕ) where
  abbrev x : Created
  x = created_of settings s events

  pub number_seen : (i : Id) (token : List ℕ) → IsIdText i token → number_in token (table_of s rows).names ≡ option_map (λ (t : Token). t.number) (token_called (Some i) x)
  number_seen i token h = ap (number_in token) (st.each s).names ∙ number_called i token x.tokens h (tokens_spelled settings s events)

  pub next_seen : (table_of s rows).next ≡ x.next
  next_seen = (st.each s).next

  texts : (k : ℕ) (ts : List Token) → at k (map row_of ts) ≡ option_map (λ (t : Token). t.text) (find (is_numbered k) ts)
  texts k [] = refl
  texts k (u ∷ ts) = ap₂ (λ b (o : Option Text). cond b (Some u.text) o) (hit k u.number ∙ num_back k u.number) (texts k ts) ∙ go (nat_eq u.number k)
    where
      go : (b : Bool) → cond b (Some u.text) (option_map (λ (t : Token). t.text) (find (is_numbered k) ts)) ≡ option_map (λ (t : Token). t.text) (cond b (Some u) (find (is_numbered k) ts))
      go true = refl
      go false = refl

  pub text_seen : (k : ℕ) → at k (table_of s rows).names ≡ option_map (λ (t : Token). t.text) (find (is_numbered k) x.tokens)
  text_seen k = ap (λ (rs : List (ℕ × Text)). at k rs) (st.each s).names ∙ texts k x.tokens

  any_held : (e k : ℕ) (cs : List Taking) → list_any (λ c. c.accepted && (is_with e c && nat_eq c.token k)) cs ≡ is_some (accepted_at e k cs)
  any_held e k [] = refl
  any_held e k (c ∷ cs) = go (is_held_by e k c) (any_held e k cs)
    where
      go : (b : Bool) → list_any (λ c. c.accepted && (is_with e c && nat_eq c.token k)) cs ≡ is_some (accepted_at e k cs) → (b || list_any (λ c. c.accepted && (is_with e c && nat_eq c.token k)) cs) ≡ is_some (option_map (λ (c : Taking). c.begun) (cond b (Some c) (find (is_held_by e k) cs)))
      go true h = refl
      go false h = h

  in_part : (k : ℕ) (o : Option Part) → accepted_in k o ≡ is_some (at k (part_in o).accepted)
  in_part k None = refl
  in_part k (Some p) = refl

  pub accepted_seen : (e k : ℕ) → accepted_in k (at e (table_of s rows).parts) ≡ has_accepted e k x
  accepted_seen e k = in_part k (at e (table_of s rows).parts) ∙ (ap is_some (((st.each s).parts e).accepted k) ∙ sym (any_held e k x.takings))

  -- all, in the order of creation
  above : (n : ℕ) (ts : List Token) → Up n (map row_of ts) → AllByRecursion (λ (u : Token). n ≤ u.number) ts
  above n [] h = tt
  above n (u ∷ ts) h = (h.0, all_so (λ (v : Token). u.number + 1 ≤ v.number) (λ (v : Token). n ≤ v.number) (λ v k. let l : n ≤ u.number = h.0 in omega (arith, k, l)) ts (above (u.number + 1) ts h.1))

  own_begins : (n : ℕ) (ts : List Token) → Up n (map row_of ts) → AllByRecursion (λ (u : Token). begin_at u.number ts ≡ u.begin) ts
  own_begins n [] h = tt
  own_begins n (u ∷ ts) h = (
    ap (λ b. option_and_then (λ (t : Token). t.begin) (cond b (Some u) (find (is_numbered u.number) ts))) (num_itself u.number),
    all_so (λ (v : Token). (u.number + 1 ≤ v.number) × (begin_at v.number ts ≡ v.begin)) (λ (v : Token). begin_at v.number (u ∷ ts) ≡ v.begin)
        (λ v k. ap (λ b. option_and_then (λ (t : Token). t.begin) (cond b (Some u) (find (is_numbered v.number) ts))) (num_below u.number v.number (let l : u.number + 1 ≤ v.number = k.0 in omega (arith, l))) ∙ k.1) ts
        (all_both (λ (v : Token). u.number + 1 ≤ v.number) (λ (v : Token). begin_at v.number ts ≡ v.begin) ts (above (u.number + 1) ts h.1) (own_begins (u.number + 1) ts h.1)),
  )

  listed : (begins : List (ℕ × List ℕ)) (ts : List Token) → AllByRecursion (λ (u : Token). at u.number begins ≡ u.begin) ts → all_in (map row_of ts) begins ≡ map (λ (t : Token). (t.number, is_some t.begin)) ts
  listed begins [] h = refl
  listed begins (u ∷ ts) h = ap₂ (λ (b : Bool) (rs : List (ℕ × Bool)). (u.number, b) ∷ rs) (ap is_some h.0) (listed begins ts h.1)

  pub all_seen : all_of (table_of s rows) ≡ map (λ (t : Token). (t.number, is_some t.begin)) x.tokens
  all_seen =
      let k = st.each s in
      ap (λ (rs : List (ℕ × Text)). all_in rs (table_of s rows).begins) k.names
      ∙ listed (table_of s rows).begins x.tokens (all_so (λ (u : Token). begin_at u.number x.tokens ≡ u.begin) (λ (u : Token). at u.number (table_of s rows).begins ≡ u.begin) (λ u h. k.begins u.number ∙ h) x.tokens
      (own_begins 0 x.tokens (subst (λ (rs : List (ℕ × Text)). Up 0 rs) k.names k.names_rise)))

  -- what an editor's answer gives
  module _ (e n : ℕ) (m : Message) (takes : Bool) (named : (j : ℕ) → j < 2 ^ 64 → names (answered_id m) j ≡ nat_eq j n) where
    find_as : (cs : List Taking) → AllByRecursion (λ (c : Taking). c.number < 2 ^ 64) cs → find (is_answered e (answered_id m)) cs ≡ find (is_open_as e n) cs
    find_as [] h = refl
    find_as (c ∷ cs) h = ap₂ (λ b (o : Option Taking). cond b (Some c) o) (ap (λ b. not c.accepted && (is_with e c && b)) (named c.number h.0)) (find_as cs h.1)

    abbrev handing : Taking → ℕ × List (List ℕ)
    handing c = (c.token, if takes then c.held else [])

    token_part : (o : Option Part) → token_in n o ≡ at n (part_in o).creates
    token_part None = refl
    token_part (Some p) = refl

    held_part : (k : ℕ) (o : Option Part) → held_in k o ≡ bodies_of (at k (part_in o).waits)
    held_part k None = refl
    held_part k (Some p) = refl

    pub given_seen : given e n takes (table_of s rows) ≡ option_map handing (find (is_answered e (answered_id m)) x.takings)
    given_seen = go (find (is_open_as e n) x.takings) refl ∙ sym (ap (option_map handing) (find_as x.takings (st.each s).small))
      where
        parts : PartStands e x.takings (part_in (at e (table_of s rows).parts))
        parts = (st.each s).parts e

        seen : token_at e n (table_of s rows).parts ≡ option_map (λ (c : Taking). c.token) (find (is_open_as e n) x.takings)
        seen = token_part (at e (table_of s rows).parts) ∙ parts.creates n

        go : (o : Option Taking) → find (is_open_as e n) x.takings ≡ o → given_to e takes (token_at e n (table_of s rows).parts) (table_of s rows) ≡ option_map handing (find (is_open_as e n) x.takings)
        go None found = ap (λ o. given_to e takes o (table_of s rows)) (seen ∙ ap (option_map (λ (c : Taking). c.token)) found) ∙ sym (ap (option_map handing) found)
        go (Some one) found = ap (λ o. given_to e takes o (table_of s rows)) (seen ∙ ap (option_map (λ (c : Taking). c.token)) found)
            ∙ (ap (λ bs. Some (one.token, if takes then bs else [])) (held_part one.token (at e (table_of s rows).parts) ∙ ap bodies_of (parts.waits one.token ∙ ap (option_map held_of) (seat e n takes one x.takings (st.each s).apart found)))
            ∙ sym (ap (option_map handing) found))

-- a response that names no number
pub none_named : (e : ℕ) (m : Message) → ((j : ℕ) → j < 2 ^ 64 → names (answered_id m) j ≡ false) → (cs : List Taking) → AllByRecursion (λ (c : Taking). c.number < 2 ^ 64) cs → find (is_answered e (answered_id m)) cs ≡ None
none_named e m named [] h = refl
none_named e m named (c ∷ cs) h = ap₂ (λ b (o : Option Taking). cond b (Some c) o) (ap (λ b. not c.accepted && (is_with e c && b)) (named c.number h.0) ∙ off c.accepted (is_with e c)) (none_named e m named cs h.1)
  where
    off : (a b : Bool) → (not a && (b && false)) ≡ false
    off true b = refl
    off false true = refl
    off false false = refl
