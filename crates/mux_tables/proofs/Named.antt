-- The ids of editors' `initialize`, one event further.
use Rattle.std.proofs.Common.{◌≡◌, ℕ, Bool, true, false, List, [], refl, ap, sym, ◌∙◌, codes, if◌then◌else◌}
use Rattle.std.specs.Prelude.{Option, Some, None}
use Rattle.rpc_message.specs.Message.{Message, request, notification, result, error, not_json, not_message, id_bytes, message_of}
use Rattle.event_model.specs.declared.phase.Phase.{Phase}
use Rattle.event_model.specs.declared.phase.Phase.TheVariants.{New, Waiting, Answered, Running, Down, Gone}
use Rattle.event_model.specs.Event.{requests}
use Rattle.event_model.specs.Phases.{Desk, desk_hears, has_id, makes_running, phase_closed, phase_told}
use Rattle.group_words.specs.declared.placed.Placed.{Placed}
use Rattle.group_words.specs.Houses.{Meant, places}
use Rattle.group_words.specs.Placing.{home_by}
use Rattle.mux_tables.specs.Names.{NameStands}

-- who waits behind it waited before, with the same `initialize`, and who is new was new
pub record Goes (before now : Desk) : Type 0 where
  pub waits : now.phase ≡ Waiting → (before.phase ≡ Waiting) × (now.initialize ≡ before.initialize)
  pub new : now.phase ≡ New → before.phase ≡ New

pub goes_so : {before now : Desk} → now ≡ before → Goes before now
goes_so p = record { waits = λ w. (sym (ap (λ (d : Desk). d.phase) p) ∙ w, ap (λ (d : Desk). d.initialize) p); new = λ w. sym (ap (λ (d : Desk). d.phase) p) ∙ w }

pub goes_then : {before mid now : Desk} → Goes before mid → now ≡ mid → Goes before now
goes_then g p = record {
  waits = λ w. let q = g.waits (sym (ap (λ (d : Desk). d.phase) p) ∙ w) in (q.0, ap (λ (d : Desk). d.initialize) p ∙ q.1);
  new = λ w. g.new (sym (ap (λ (d : Desk). d.phase) p) ∙ w);
}

-- of one editor
pub named_by : {before now : Desk} {home later : Option ℕ} {id kept : Option (List ℕ)} → Goes before now → later ≡ home → kept ≡ id → NameStands before home id → NameStands now later kept
named_by g q r s = record {
  own = λ n w k. r ∙ (s.own n (g.waits w).0 (sym q ∙ k) ∙ ap (λ x. Some (id_bytes x)) (sym (g.waits w).1));
  unplaced = λ w. q ∙ s.unplaced (g.new w);
}

-- what is kept of its `lspmux/open`
pub meant_by : {before now : Desk} {kept later meant next : Meant} → Goes before now → later ≡ kept → next ≡ meant → (before.phase ≡ New → kept ≡ meant) → now.phase ≡ New → later ≡ next
meant_by g q r h w = q ∙ (h (g.new w) ∙ sym r)

-- a body to an editor
told_waits : (p : Phase) (i : List ℕ) (m : Message) → phase_told p i m ≡ Waiting → p ≡ Waiting
told_waits Waiting i m h = refl
told_waits other i m h = h

answered_new : {A : Type 0} (b : Bool) → (if b then Answered else Waiting) ≡ New → A
answered_new true h = absurd (cc)
answered_new false h = absurd (cc)

told_new : (p : Phase) (i : List ℕ) (m : Message) → phase_told p i m ≡ New → p ≡ New
told_new Waiting i (result (Some id) r) h = answered_new (has_id id (message_of i)) h
told_new Waiting i (result None r) h = h
told_new Waiting i (error id r) h = h
told_new Waiting i (request id method ps) h = h
told_new Waiting i (notification method ps) h = h
told_new Waiting i not_json h = h
told_new Waiting i not_message h = h
told_new other i m h = h

pub goes_told : (d : Desk) (m : Message) → Goes d (record { phase = phase_told d.phase d.initialize m; initialize = d.initialize })
goes_told d m = record { waits = λ w. (told_waits d.phase d.initialize m w, refl); new = told_new d.phase d.initialize m }

-- a link that ends
pub goes_gone : (d : Desk) → Goes d (record { phase = Gone; initialize = d.initialize })
goes_gone d = record { waits = λ w. absurd (cc); new = λ w. absurd (cc) }

closed_never : {A : Type 0} (p q : Phase) → phase_closed p ≡ q → q ≡ Waiting → A
closed_never Gone q h w = absurd (cc)
closed_never other q h w = absurd (cc)

pub closed_old : {A : Type 0} (p q : Phase) → phase_closed p ≡ q → q ≡ New → A
closed_old Gone q h w = absurd (cc)
closed_old other q h w = absurd (cc)

pub goes_closed : (d : Desk) → Goes d (record { phase = phase_closed d.phase; initialize = d.initialize })
goes_closed d = record { waits = λ w. closed_never d.phase _ refl w; new = λ w. closed_old d.phase _ refl w }

-- a body of an editor that doesn't place it
served_waits : {A : Type 0} (a b : Bool) (p : Phase) → (if a then Down else if b then Running else p) ≡ Waiting → (p ≡ Waiting → A) → A
served_waits true b p h k = absurd (cc)
served_waits false true p h k = absurd (cc)
served_waits false false p h k = k h

served_new : {A : Type 0} (a b : Bool) (p : Phase) → (if a then Down else if b then Running else p) ≡ New → (p ≡ New → A) → A
served_new true b p h k = absurd (cc)
served_new false true p h k = absurd (cc)
served_new false false p h k = k h

pub goes_heard : (p : Phase) (i body : List ℕ) (m : Message) → places p m ≡ false → Goes (record { phase = p; initialize = i }) (desk_hears p i body m)
goes_heard New i body m off = rw off (goes_so refl)
goes_heard Answered i body m off = record {
  waits = λ w. served_waits (requests (codes "shutdown") m) (makes_running m) Answered w (λ h. absurd (cc));
  new = λ w. served_new (requests (codes "shutdown") m) (makes_running m) Answered w (λ h. absurd (cc));
}
goes_heard Running i body m off = record {
  waits = λ w. served_waits (requests (codes "shutdown") m) false Running w (λ h. absurd (cc));
  new = λ w. served_new (requests (codes "shutdown") m) false Running w (λ h. absurd (cc));
}
goes_heard other i body m off = goes_so refl

-- it joined
pub named_new : {home : Option ℕ} {kept : Option (List ℕ)} → home ≡ None → NameStands (record { phase = New; initialize = [] }) home kept
named_new h = record { own = λ g w k. absurd (cc); unplaced = λ w. h }

-- its `initialize` places it
pub named_first : {home : Option ℕ} {kept : Option (List ℕ)} (d : Desk) (id : Option (List ℕ)) (p : Placed) (body : List ℕ) → d.phase ≡ New → NameStands d home id → ((g : ℕ) → home_by p None ≡ Some g → kept ≡ Some (id_bytes body))
    → NameStands (record { phase = Waiting; initialize = body }) (home_by p home) kept
named_first d id p body new s keeps = record {
  own = λ g w k. keeps g (ap (home_by p) (sym (s.unplaced new)) ∙ k);
  unplaced = λ w. absurd (cc);
}
