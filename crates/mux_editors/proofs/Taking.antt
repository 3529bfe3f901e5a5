-- E19: what an editor's response answers, by its row: what a start asked, or whether the editor takes a token.
use Rattle.std.proofs.Common.{◌≡◌, ℕ, zero, suc, ◌<◌, Bool, true, false, List, [], ◌∷◌, find, get_or, length, if◌then◌else◌, refl, ap, sym, subst, ◌∙◌, arith}
use Rattle.std.specs.Prelude.{Option, Some, None, IfSome, option_map}
use Rattle.std.specs.List.{AllByRecursion}
use Rattle.mux_history.specs.declared.out.Out.{Out}
use Rattle.rpc_message.specs.Message.{Message}
use Rattle.event_model.specs.declared.phase.Phase.{Phase}
use Rattle.event_model.specs.declared.phase.Phase.TheVariants.{Absent, New, Waiting, Answered, Running, Down, Closed, Gone}
use Rattle.event_model.specs.Does.{Alike, Does}
use Rattle.event_model.specs.Event.{Event}
use Rattle.event_model.specs.Phases.{desk_of, is_running, is_served}
use Rattle.event_model.specs.Requests.{answered_id}
use Rattle.event_model.specs.Row.{Row, choose, each, nothing, on}
use Rattle.event_model.specs.Settings.{Settings}
use Rattle.event_model.proofs.Turns.{alike, alike_false, alike_then, alike_true, does_alike, does_nothing}
use Rattle.group_rows.specs.AskRows.{hand_back}
use Rattle.group_rows.specs.Asks.{Ask}
use Rattle.group_rows.specs.Created.{Taking, accepts, created_of, is_answered}
use Rattle.group_rows.specs.CreatedRows.{hand_out, taking_row, tell}
use Rattle.group_rows.proofs.CreatedKept.{AreTellings, found_one, held_told}
use Rattle.mux_turns.specs.group_facts.specs.Facts.{Meant}
use Rattle.mux_turns.proofs.Listed.{meant_same}
use Rattle.mux_tables.specs.mux_tokens.specs.progress_route.specs.declared.tokens.Handed.{Handed}
use Rattle.mux_tables.proofs.Publishing.{progress_apart}
use Rattle.mux_editors.specs.Handing.{AllHeld, AreHeld, IsHeld}
use Rattle.mux_editors.specs.Running.{may_begin}

-- an editor that is served, and doesn't begin to run, runs
pub served_runs : (p : Phase) → is_served p ≡ true → may_begin p ≡ false → is_running p ≡ true
served_runs Running h k = refl
served_runs Answered h k = absurd (cc)
served_runs Absent h k = absurd (cc)
served_runs New h k = absurd (cc)
served_runs Waiting h k = absurd (cc)
served_runs Down h k = absurd (cc)
served_runs Closed h k = absurd (cc)
served_runs Gone h k = absurd (cc)

pub begins_unrun : (p : Phase) → may_begin p ≡ true → is_running p ≡ false
begins_unrun Answered h = refl
begins_unrun Running h = absurd (cc)
begins_unrun Absent h = absurd (cc)
begins_unrun New h = absurd (cc)
begins_unrun Waiting h = absurd (cc)
begins_unrun Down h = absurd (cc)
begins_unrun Closed h = absurd (cc)
begins_unrun Gone h = absurd (cc)

-- what was held are notifications of progress
held_tellings : (bodies : List (List ℕ)) → AreTellings bodies → AreHeld bodies
held_tellings [] h = tt
held_tellings (body ∷ bodies) h = ((h.0.method, h.0.params, h.0.says, progress_apart h.0.method h.0.class), held_tellings bodies h.1)

pub all_held : (cs : List Taking) → AllByRecursion (λ (c : Taking). AreTellings c.held) cs → AllHeld cs
all_held [] h = tt
all_held (c ∷ cs) h = (held_tellings c.held h.0, all_held cs h.1)

-- one of them
pub held_at : (bodies : List (List ℕ)) (i : ℕ) (d : List ℕ) → AreHeld bodies → i < length bodies → IsHeld (get_or bodies i d)
held_at [] i d h less = absurd (omega (arith, less))
held_at (body ∷ bodies) zero d h less = h.0
held_at (body ∷ bodies) (suc i) d h less = held_at bodies i d h.1 (omega (arith, less))

-- what is handed out
abbrev pub given_of : Message → Taking → ℕ × List (List ℕ)
given_of m c = (c.token, if accepts m then c.held else [])

abbrev pub pair_of : Handed → ℕ × List (List ℕ)
pair_of h = (h.token, h.bodies.items)

same_pair : (x y : ℕ × List (List ℕ)) → ◌≡◌ {A = Option (ℕ × List (List ℕ))} (Some x) (Some y) → x ≡ y
same_pair x y e = cc

-- by what is known of the response
pub given_as : (o : Option Taking) (handed : Option Handed) (m : Message) (b : Bool) → b ≡ accepts m → option_map pair_of handed ≡ option_map {U = ℕ × List (List ℕ)} (λ (c : Taking). (c.token, if b then c.held else [])) o → option_map pair_of handed ≡ option_map (given_of m) o
given_as o handed m b is h = h ∙ ap (λ a. option_map {U = ℕ × List (List ℕ)} (λ (c : Taking). (c.token, if a then c.held else [])) o) is

-- in a history of causes and outs notifications are held
pub takings_held : (settings : Settings) (s : ℕ) (before : List Event) → Meant before → AllHeld (created_of settings s before).takings
takings_held settings s before meant = all_held (created_of settings s before).takings (held_told settings s before (meant_same before meant))

module _ (settings : Settings) (before : List Event) (e s : ℕ) (body : List ℕ) (m : Message) where
  abbrev found : Option Taking
  found = find (is_answered e (answered_id m)) (created_of settings s before).takings

  abbrev response : Option Ask → Row
  response o = on o (taking_row settings before e m s) (hand_back s body)

  module _ {K : Type 0} {Holds : K → List Event → Type 0} {base : List Event} {t : K} {xs : List Out} where
    pub hands_back : {ys : List Out} (o : Option Ask) (w : List ℕ) → Some w ≡ option_map (λ (a : Ask). a.bytes) o → Does Holds (on o nothing (hand_back s body)) base t xs t ys → Does Holds (response o) base t xs t ys
    hands_back {ys} None w is d = absurd (cc)
    hands_back {ys} (Some a) w is d = d

    pub begins_none : (o : Option Ask) → None ≡ option_map (λ (a : Ask). a.bytes) o → is_running (desk_of e before).phase ≡ false → Does Holds (response o) base t xs t xs
    begins_none (Some a) is off = absurd (cc)
    begins_none None is off = does_alike (λ _. alike_then (alike (ap (λ b. choose b (on found nothing (hand_out s e m)) nothing) off)) alike_false) does_nothing

    pub hands_out : {ys : List Out} (o : Option Ask) (handed : Option Handed) → None ≡ option_map (λ (a : Ask). a.bytes) o → is_running (desk_of e before).phase ≡ true → option_map pair_of handed ≡ option_map (given_of m) found
        → Does Holds (on handed nothing (λ h. each (tell s h.token e) h.bodies.items)) base t xs t ys → Does Holds (response o) base t xs t ys
    hands_out {ys} (Some a) handed is run same d = absurd (cc)
    hands_out {ys} None handed is run same d = does_alike (λ _. alike_then (alike_then (alike (ap (λ b. choose b (on found nothing (hand_out s e m)) nothing) run)) alike_true) (by handed found same)) d
      where
        by : (h : Option Handed) (o : Option Taking) → option_map pair_of h ≡ option_map (given_of m) o → Alike (on o nothing (hand_out s e m)) (on h nothing (λ h. each (tell s h.token e) h.bodies.items))
        by None None k = alike refl
        by (Some h) None k = absurd (cc)
        by None (Some c) k = absurd (cc)
        by (Some h) (Some c) k = go (accepts m) both.0 both.1
          where
            both : (h.token ≡ c.token) × (h.bodies.items ≡ (if accepts m then c.held else []))
            both = let is = same_pair (pair_of h) (given_of m c) k in (ap (λ p. p.0) is, ap (λ p. p.1) is)

            go : (b : Bool) → h.token ≡ c.token → h.bodies.items ≡ (if b then c.held else []) → Alike (choose b (each (tell s c.token e) c.held) nothing) (each (tell s h.token e) h.bodies.items)
            go true same are = alike_then alike_true (alike (ap (λ k. each (tell s k e) c.held) (sym same) ∙ ap (each (tell s h.token e)) (sym are)))
            go false same are = alike_then alike_false (alike (ap (each (tell s h.token e)) (sym are)))

  -- what is handed out was held
  pub handed_held : (handed : Option Handed) → option_map pair_of handed ≡ option_map (given_of m) found → AllHeld (created_of settings s before).takings → IfSome handed (λ h. AreHeld h.bodies.items)
  handed_held handed same all = by handed found refl same
    where
      by : (h : Option Handed) (o : Option Taking) → found ≡ o → option_map pair_of h ≡ option_map (given_of m) o → IfSome h (λ h. AreHeld h.bodies.items)
      by None o is k = tt
      by (Some h) None is k = absurd (cc)
      by (Some h) (Some c) is k = subst AreHeld (sym bodies) (go (accepts m))
        where
          bodies : h.bodies.items ≡ (if accepts m then c.held else [])
          bodies = ap (λ p. p.1) (same_pair (pair_of h) (given_of m c) k)

          held : AreHeld c.held
          held = found_one (λ (c : Taking). AreHeld c.held) (is_answered e (answered_id m)) c (created_of settings s before).takings all is

          go : (b : Bool) → AreHeld (if b then c.held else [])
          go true = held
          go false = tt
