-- The tokens of one start, one step further.
use Rattle.std.proofs.Common.{◌≡◌, ℕ, ◌+◌, ◌<◌, ◌^◌, Bool, true, false, not, ◌&&◌, ◌||◌, cond, List, [], ◌∷◌, ◌++◌, filter, find, map, refl, sym, subst, ◌∙◌, ap, ap₂, arith, nat_eq, is_some, if◌then◌else◌}
use Rattle.std.specs.Prelude.{Option, Some, None, option_map}
use Rattle.std.specs.List.{AllByRecursion, list_any}
use Rattle.std.specs.Option.{option_and_then}
use Rattle.json_text.specs.Json.{Json}
use Rattle.rpc_message.specs.Message.{Message}
use Rattle.event_model.specs.Requests.{answered_id}
use Rattle.group_rows.specs.Created.{Created, Taking, Token, accepts, is_answered, is_at as is_with, is_begin, is_end, is_numbered, is_over, lives, no_created, progressed, with_asked, with_token}
use Rattle.group_rows.specs.Created as fold
use Rattle.group_rows.specs.Forwarded.{names}
use Rattle.progress_route.specs.declared.kind.Kind.{Kind}
use Rattle.progress_route.specs.Names.{Text}
use Rattle.progress_route.specs.Tables.{Part, Table, answered_to, at, changed, changed_to, created, edited, edited_to, no_part, nothing, put_to, settled, taken_to, token_at, token_in, told, told_all}
use Rattle.progress_route.specs.Tables as table
use Rattle.mux_tokens.specs.Stands.{AreFresh, PartStands, TokensStand, Up, is_open_as, part_in, row_of}
use Rattle.mux_tokens.proofs.Finding.{all_both, all_kept, all_last, all_mapped, all_so, all_spread, none_found, spread_as, spread_still}
use Rattle.mux_tokens.proofs.Names.{begins_more, begins_so, by_number, names_so, rows_below, rows_more, same_number, up_begins, up_names}
use Rattle.mux_tokens.proofs.Parts.{asked_apart, asked_stands, left_apart, left_stands, none_stands}
use Rattle.mux_tokens.proofs.Rows.{at_each, at_less, at_put, at_set, hit, num_back, num_same, up_each, up_last, up_less, up_put, up_set}
use Rattle.mux_tokens.proofs.Seats.{IsFew, apart_kept, apart_last, apart_mapped, apart_spread}
use Rattle.mux_tokens.proofs.Settled.{answered_list, same_token, settled_apart, settled_stands, settles, taken_from}
use Rattle.mux_tokens.proofs.Told.{same_taking, told_nothing, told_stands}

-- Nothing

pub none_stand : TokensStand no_created nothing
none_stand = record {
  names = refl;
  next = refl;
  begins = λ k. refl;
  parts = λ e. none_stands e [] tt;
  below = tt;
  names_rise = tt;
  begins_rise = tt;
  parts_rise = tt;
  apart = tt;
  small = tt;
}

-- S8: a token is created

pub created_stand : (x : Created) (t : Table) (new : Token) → new.number ≡ x.next → new.begin ≡ None → TokensStand x t → TokensStand (with_token (Some new) x) (created new.text t)
created_stand x t new number unbegun s = record {
  names = ap₂ (λ (rs : List (ℕ × Text)) (r : ℕ × Text). rs ++ r ∷ []) s.names (ap (λ n. (n, new.text)) (s.next ∙ sym number)) ∙ sym (rows_more x.tokens new);
  next = ap (λ n. n + 1) s.next;
  begins = λ k. s.begins k ∙ sym (begins_more x.tokens new k unbegun);
  parts = s.parts;
  below = all_last (λ (u : Token). u.number < x.next + 1) x.tokens new (all_so (λ (u : Token). u.number < x.next) (λ (u : Token). u.number < x.next + 1) (λ u h. omega (arith, h)) x.tokens s.below) (omega (arith, number));
  names_rise = up_last t.next 0 new.text t.names (omega arith) below_names s.names_rise;
  begins_rise = s.begins_rise;
  parts_rise = s.parts_rise;
  apart = s.apart;
  small = s.small;
}
  where
    below_names : AllByRecursion (λ (r : ℕ × Text). r.0 < t.next) t.names
    below_names = subst (λ (rs : List (ℕ × Text)). AllByRecursion (λ (r : ℕ × Text). r.0 < t.next) rs) (sym s.names) (subst (λ n. AllByRecursion (λ (r : ℕ × Text). r.0 < n) (map row_of x.tokens)) (sym s.next) (rows_below x.next x.tokens s.below))

-- The part of an editor

part_pushed : (b : Bool) (p : Part) (o : Option Part) → part_in (cond b (Some p) o) ≡ cond b p (part_in o)
part_pushed true p o = refl
part_pushed false p o = refl

part_gone : (b : Bool) (o : Option Part) → part_in (cond b None o) ≡ cond b no_part (part_in o)
part_gone true o = refl
part_gone false o = refl

module _ (e : ℕ) (f : Part → Part) (parts : List (ℕ × Part)) where
  part_changed : (m : ℕ) → part_in (at m (changed e f parts)) ≡ cond (nat_eq m e) (f (part_in (at e parts))) (part_in (at m parts))
  part_changed m = go (at e parts) refl
    where
      go : (o : Option Part) → at e parts ≡ o → part_in (at m (changed_to e f o parts)) ≡ cond (nat_eq m e) (f (part_in o)) (part_in (at m parts))
      go None h = ap part_in (at_put m e (f no_part) parts) ∙ part_pushed (nat_eq m e) (f no_part) (at m parts)
      go (Some p) h = ap part_in (at_set m e p (f p) parts h) ∙ part_pushed (nat_eq m e) (f p) (at m parts)

  -- one that is there
  part_edited : (p : Part) → at e parts ≡ Some p → (m : ℕ) → part_in (at m (edited e f parts)) ≡ cond (nat_eq m e) (f p) (part_in (at m parts))
  part_edited p h m = ap (λ o. part_in (at m (edited_to e f o parts))) h ∙ (ap part_in (at_set m e p (f p) parts h) ∙ part_pushed (nat_eq m e) (f p) (at m parts))

  up_part : Up 0 parts → Up 0 (changed e f parts)
  up_part h = go (at e parts)
    where
      go : (o : Option Part) → Up 0 (changed_to e f o parts)
      go None = up_put e 0 (f no_part) parts (omega arith) h
      go (Some p) = up_set e 0 (f p) parts h

  up_edit : Up 0 parts → Up 0 (edited e f parts)
  up_edit h = go (at e parts)
    where
      go : (o : Option Part) → Up 0 (edited_to e f o parts)
      go None = h
      go (Some p) = up_set e 0 (f p) parts h

-- S8 and L2: an editor is asked to take a token

pub asked_stand : (x : Created) (t : Table) (e n : ℕ) (token : Token) → find (is_numbered token.number) x.tokens ≡ Some token → n < 2 ^ 64 → AreFresh e n token.number x.takings → TokensStand x t → TokensStand (with_asked e n (Some token) x) (put_to token.number e n t)
asked_stand x t e n token live small fresh s = record {
  names = s.names;
  next = s.next;
  begins = s.begins;
  parts = λ m. subst (λ (p : Part). PartStands m (x.takings ++ fold.asked e n token ∷ []) p) (sym (part_changed e (table.asked token.number n (at token.number t.begins)) t.parts m)) (go m (nat_eq m e) refl);
  below = s.below;
  names_rise = s.names_rise;
  begins_rise = s.begins_rise;
  parts_rise = up_part e (table.asked token.number n (at token.number t.begins)) t.parts s.parts_rise;
  apart = apart_last x.takings (fold.asked e n token) s.apart fresh;
  small = all_last (λ (c : Taking). c.number < 2 ^ 64) x.takings (fold.asked e n token) s.small small;
}
  where
    begun : at token.number t.begins ≡ token.begin
    begun = s.begins token.number ∙ ap (option_and_then (λ (u : Token). u.begin)) live

    go : (m : ℕ) (b : Bool) → nat_eq m e ≡ b → PartStands m (x.takings ++ fold.asked e n token ∷ []) (cond b (table.asked token.number n (at token.number t.begins) (part_in (at e t.parts))) (part_in (at m t.parts)))
    go m true is = subst (λ k. PartStands k (x.takings ++ fold.asked e n token ∷ []) (table.asked token.number n (at token.number t.begins) (part_in (at e t.parts)))) (sym (num_same m e is))
        (subst (λ o. PartStands e (x.takings ++ fold.asked e n token ∷ []) (table.asked token.number n o (part_in (at e t.parts)))) (sym begun)
        (asked_stands e n token.number token.begin x.takings fresh (part_in (at e t.parts)) (s.parts e)))
    go m false is = asked_apart e n token.number token.begin x.takings m (part_in (at m t.parts)) (num_back e m ∙ is) (s.parts m)

-- An editor leaves

pub left_stand : (x : Created) (t : Table) (e : ℕ) → TokensStand x t → TokensStand (fold.left e x) (table.left e t)
left_stand x t e s = record {
  names = s.names;
  next = s.next;
  begins = s.begins;
  parts = λ m. subst (λ (p : Part). PartStands m (filter (λ c. not (is_with e c)) x.takings) p) (sym (ap part_in (at_less m e 0 t.parts s.parts_rise) ∙ part_gone (nat_eq m e) (at m t.parts))) (go m (nat_eq m e) refl);
  below = s.below;
  names_rise = s.names_rise;
  begins_rise = s.begins_rise;
  parts_rise = up_less e 0 t.parts s.parts_rise;
  apart = apart_kept (λ c. not (is_with e c)) x.takings s.apart;
  small = all_kept (λ (c : Taking). c.number < 2 ^ 64) (λ c. not (is_with e c)) x.takings s.small;
}
  where
    go : (m : ℕ) (b : Bool) → nat_eq m e ≡ b → PartStands m (filter (λ c. not (is_with e c)) x.takings) (cond b no_part (part_in (at m t.parts)))
    go m true is = subst (λ k. PartStands k (filter (λ c. not (is_with e c)) x.takings) no_part) (sym (num_same m e is)) (left_stands e x.takings)
    go m false is = left_apart e x.takings m (part_in (at m t.parts)) is (s.parts m)

-- S13: progress of a live token

pub told_stand : (x : Created) (t : Table) (body : List ℕ) (params : Option Json) (kind : Kind) (p : Token → Bool) (token : Token) → find p x.tokens ≡ Some token → table.is_begin kind ≡ is_begin params → table.is_end kind ≡ is_end params
    → TokensStand x t → TokensStand (progressed body params (Some token) x) (taken_to body kind (Some token.number) t)
told_stand x t body params kind p token found begun ends s = record {
  names = ap (table.names_after k kind) s.names ∙ names_so k body params kind ends x.tokens rises;
  next = s.next;
  begins = begins_so k body params x.tokens token refl (by_number p 0 x.tokens token rises found) t.begins s.begins s.begins_rise kind begun ends;
  parts = λ m. subst (λ (q : Part). PartStands m (map (fold.told k body params) (filter (λ c. not (is_over k params c)) x.takings)) q) (sym (part_told m)) (told_stands k body params m x.takings kind begun ends (part_in (at m t.parts)) (s.parts m));
  below = all_kept (λ (u : Token). u.number < x.next) (λ u. not (fold.is_ended_by k params u)) (map (fold.begun_by k body params) x.tokens)
      (all_mapped (λ (u : Token). u.number < x.next) (λ (u : Token). u.number < x.next) (fold.begun_by k body params) (λ u h. subst (λ n. n < x.next) (sym (same_number k body params u)) h) x.tokens s.below);
  names_rise = up_names k kind t.names s.names_rise;
  begins_rise = up_begins k body params kind t.begins s.begins_rise;
  parts_rise = up_each (told k body kind) 0 t.parts s.parts_rise;
  apart = apart_mapped (fold.told k body params) (λ c. (same_taking k body params c).seat) (filter (λ c. not (is_over k params c)) x.takings) (apart_kept (λ c. not (is_over k params c)) x.takings s.apart);
  small = all_mapped (λ (c : Taking). c.number < 2 ^ 64) (λ (c : Taking). c.number < 2 ^ 64) (fold.told k body params) (λ c h. subst (λ n. n < 2 ^ 64) (sym (same_taking k body params c).seat.number) h) (filter (λ c. not (is_over k params c)) x.takings)
      (all_kept (λ (c : Taking). c.number < 2 ^ 64) (λ c. not (is_over k params c)) x.takings s.small);
}
  where
    k : ℕ
    k = token.number

    rises : Up 0 (map row_of x.tokens)
    rises = subst (λ (rs : List (ℕ × Text)). Up 0 rs) s.names s.names_rise

    part_told : (m : ℕ) → part_in (at m (told_all token.number body kind t.parts)) ≡ told token.number body kind (part_in (at m t.parts))
    part_told m = ap part_in (at_each (told token.number body kind) m t.parts) ∙ go (at m t.parts)
      where
        go : (o : Option Part) → part_in (option_map (told token.number body kind) o) ≡ told token.number body kind (part_in o)
        go None = sym (told_nothing token.number body kind)
        go (Some q) = refl

-- E19: an editor answers

-- what the table has of one that lives
pub lives_so : (k : ℕ) (x : Created) (t : Table) → TokensStand x t → is_some (at k t.names) ≡ lives k x
lives_so k x t s = ap (λ (rs : List (ℕ × Text)). is_some (at k rs)) s.names ∙ go x.tokens
  where
    go : (ts : List Token) → is_some (at k (map row_of ts)) ≡ list_any (is_numbered k) ts
    go [] = refl
    go (u ∷ ts) = ap (λ b. is_some (cond b (Some u.text) (at k (map row_of ts)))) (hit k u.number ∙ num_back k u.number) ∙ by (nat_eq u.number k) (go ts)
      where
        by : (b : Bool) → is_some (at k (map row_of ts)) ≡ list_any (is_numbered k) ts → is_some (cond b (Some u.text) (at k (map row_of ts))) ≡ (b || list_any (is_numbered k) ts)
        by true h = refl
        by false h = h

part_token : (n : ℕ) (o : Option Part) → token_in n o ≡ at n (part_in o).creates
part_token n None = refl
part_token n (Some p) = refl

part_there : (n k : ℕ) (o : Option Part) → token_in n o ≡ Some k → (p : Part) × (o ≡ Some p)
part_there n k None h = absurd (cc)
part_there n k (Some p) h = (p, refl)

module _ (x : Created) (t : Table) (e n : ℕ) (m : Message) (takes : Bool) (named : (j : ℕ) → j < 2 ^ 64 → names (answered_id m) j ≡ nat_eq j n) (accepted : takes ≡ accepts m) (s : TokensStand x t) where
  tests_so : AllByRecursion (λ c. is_answered e (answered_id m) c ≡ is_open_as e n c) x.takings
  tests_so = all_so (λ (c : Taking). c.number < 2 ^ 64) (λ c. is_answered e (answered_id m) c ≡ is_open_as e n c) (λ c h. ap (λ b. not c.accepted && (is_with e c && b)) (named c.number h)) x.takings s.small

  -- there is none
  none_answered : find (is_open_as e n) x.takings ≡ None → fold.answered e m x ≡ x
  none_answered none = ap (λ cs. record { next = x.next; tokens = x.tokens; takings = cs })
      (spread_as (is_open_as e n) (is_answered e (answered_id m)) (fold.settled m x) (fold.settled m x) x.takings (all_so (λ c. is_answered e (answered_id m) c ≡ is_open_as e n c) (λ c. (is_answered e (answered_id m) c ≡ is_open_as e n c) × (is_open_as e n c ≡ true → fold.settled m x c ≡ fold.settled m x c)) (λ c h. (h, (λ q. refl))) x.takings tests_so)
      ∙ spread_still (is_open_as e n) (fold.settled m x) x.takings (none_found (is_open_as e n) x.takings none))

  module _ (one : Taking) (found : find (is_open_as e n) x.takings ≡ Some one) where
    abbrev holds : Bool
    holds = takes && is_some (at one.token t.names)

    one_settled : (c : Taking) → c.token ≡ one.token → fold.settled m x c ≡ settles holds c
    one_settled c same = ap (λ k. if accepts m && lives k x then taken_from c ∷ [] else []) same
        ∙ (ap (λ b. if b && lives one.token x then taken_from c ∷ [] else []) (sym accepted) ∙ ap (λ b. if takes && b then taken_from c ∷ [] else []) (sym (lives_so one.token x t s)))

    one_answered : fold.answered e m x ≡ record { next = x.next; tokens = x.tokens; takings = answered_list e n holds x.takings }
    one_answered = ap (λ cs. record { next = x.next; tokens = x.tokens; takings = cs })
        (spread_as (is_open_as e n) (is_answered e (answered_id m)) (settles holds) (fold.settled m x) x.takings
        (all_so (λ c. (is_answered e (answered_id m) c ≡ is_open_as e n c) × (is_open_as e n c ≡ true → c.token ≡ one.token)) (λ c. (is_answered e (answered_id m) c ≡ is_open_as e n c) × (is_open_as e n c ≡ true → fold.settled m x c ≡ settles holds c))
        (λ c h. (h.0, (λ q. one_settled c (h.1 q)))) x.takings (all_both (λ c. is_answered e (answered_id m) c ≡ is_open_as e n c) (λ c. is_open_as e n c ≡ true → c.token ≡ one.token) x.takings tests_so (same_token e n holds one x.takings s.apart found))))

    few : (c : Taking) → IsFew c (if is_open_as e n c then settles holds c else c ∷ [])
    few c = go (is_open_as e n c) holds
      where
        go : (a b : Bool) → IsFew c (if a then (if b then taken_from c ∷ [] else []) else c ∷ [])
        go true true = record { editor = refl; number = refl; token = refl }
        go true false = tt
        go false b = record { editor = refl; number = refl; token = refl }

    small_list : (c : Taking) → c.number < 2 ^ 64 → AllByRecursion (λ (d : Taking). d.number < 2 ^ 64) (if is_open_as e n c then settles holds c else c ∷ [])
    small_list c h = go (is_open_as e n c) holds
      where
        go : (a b : Bool) → AllByRecursion (λ (d : Taking). d.number < 2 ^ 64) (if a then (if b then taken_from c ∷ [] else []) else c ∷ [])
        go true true = (h, tt)
        go true false = tt
        go false b = (h, tt)

    there : (p : Part) → at e t.parts ≡ Some p → TokensStand (record { next = x.next; tokens = x.tokens; takings = answered_list e n holds x.takings }) (record { names = t.names; next = t.next; begins = t.begins; parts = edited e (settled n one.token holds) t.parts })
    there p here = record {
      names = s.names;
      next = s.next;
      begins = s.begins;
      parts = λ j. subst (λ (q : Part). PartStands j (answered_list e n holds x.takings) q) (sym (part_edited e (settled n one.token holds) t.parts p here j)) (go j (nat_eq j e) refl);
      below = s.below;
      names_rise = s.names_rise;
      begins_rise = s.begins_rise;
      parts_rise = up_edit e (settled n one.token holds) t.parts s.parts_rise;
      apart = apart_spread (λ c. if is_open_as e n c then settles holds c else c ∷ []) few x.takings s.apart;
      small = all_spread (λ (c : Taking). c.number < 2 ^ 64) (λ c. if is_open_as e n c then settles holds c else c ∷ []) small_list x.takings s.small;
    }
      where
        go : (j : ℕ) (b : Bool) → nat_eq j e ≡ b → PartStands j (answered_list e n holds x.takings) (cond b (settled n one.token holds p) (part_in (at j t.parts)))
        go j true is = subst (λ i. PartStands i (answered_list e n holds x.takings) (settled n one.token holds p)) (sym (num_same j e is))
            (settled_stands e n holds one x.takings s.apart found p (subst (λ o. PartStands e x.takings (part_in o)) here (s.parts e)))
        go j false is = settled_apart e n holds j x.takings is (part_in (at j t.parts)) (s.parts j)

  pub answered_stand : TokensStand (fold.answered e m x) (table.answered e n takes t)
  answered_stand = go (find (is_open_as e n) x.takings) refl
    where
      seen : token_at e n t.parts ≡ option_map (λ (c : Taking). c.token) (find (is_open_as e n) x.takings)
      seen = part_token n (at e t.parts) ∙ (s.parts e).creates n

      go : (o : Option Taking) → find (is_open_as e n) x.takings ≡ o → TokensStand (fold.answered e m x) (table.answered e n takes t)
      go None none = subst (λ (y : Created). TokensStand y (table.answered e n takes t)) (sym (none_answered none))
          (subst (λ o. TokensStand x (answered_to e n takes o t)) (sym (seen ∙ ap (option_map (λ (c : Taking). c.token)) none)) s)
      go (Some one) found =
          let is : token_at e n t.parts ≡ Some one.token = seen ∙ ap (option_map (λ (c : Taking). c.token)) found in
          let p = part_there n one.token (at e t.parts) is in
          subst (λ (y : Created). TokensStand y (table.answered e n takes t)) (sym (one_answered one found))
          (subst (λ o. TokensStand (record { next = x.next; tokens = x.tokens; takings = answered_list e n (takes && is_some (at one.token t.names)) x.takings }) (answered_to e n takes o t)) (sym is) (there one found p.0 p.1))
