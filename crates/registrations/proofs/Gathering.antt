-- The registrations of a list are gathered, one item after the other.
use Rattle.std.proofs.Common.{◌≡◌, ℕ, ◌<◌, List, [], ◌∷◌, ◌++◌, length, refl, sym, ◌∙◌, ap, subst, append-nil, append_assoc}
use Rattle.std.specs.Prelude.{Option, Some, None, MatchOption, option_map}
use Rattle.json_text.specs.Json.{Json}
use Rattle.mux_members.specs.json_nodes.specs.At.{At, Found}
use Rattle.mux_members.specs.json_nodes.specs.Doc.{Doc}
use Rattle.mux_members.specs.json_nodes.proofs.Members.{Inside, inside_more}
use Rattle.mux_members.specs.Members.{listed}
use Rattle.mux_members.specs.Finds.{Rest}
use Rattle.mux_members.proofs.Walks.{rest_ends, rest_first}
use Rattle.registrations.specs.declared.registration.Registration.{Registration}
use Rattle.registrations.specs.Items.{registration_of, registrations_in, with_more}

-- those so far, in front of the others
abbrev pub joined : List Registration → Option (List Registration) → Option (List Registration)
joined done rest = option_map (λ rs. done ++ rs) rest

joined_more : (done : List Registration) (r : Registration) (rest : Option (List Registration)) → joined done (with_more (Some r) rest) ≡ joined (done ++ r ∷ []) rest
joined_more done r None = refl
joined_more done r (Some rs) = ap Some (sym (append_assoc done (r ∷ []) rs))

joined_none : (rest : Option (List Registration)) → with_more None rest ≡ None
joined_none rest = refl

joined_first : (rest : Option (List Registration)) → joined [] rest ≡ rest
joined_first None = refl
joined_first (Some rs) = refl

-- in the middle of a walk over the items of a list: `done` are the registrations so far
pub record Gathering (doc : Doc) (list : Option ℕ) (done : List Registration) (next : Option ℕ) : Type 0 where
  pub inside : Inside (length doc.nodes) next
  pub rest : (o : Option Json) → Found doc o list → (left : List Json) × Rest doc next left × (registrations_in doc.bytes (listed o) ≡ joined done (registrations_in doc.bytes left))

module _ (doc : Doc) (list : Option ℕ) where
  pub gathering_starts : (next : Option ℕ) → Inside (length doc.nodes) next → ((o : Option Json) → Found doc o list → Rest doc next (listed o)) → Gathering doc list [] next
  gathering_starts next inside first = record { inside = inside; rest = λ o h. (listed o, first o h, sym (joined_first (registrations_in doc.bytes (listed o)))) }

  -- the item at hand, and those behind it
  abbrev Here : Option Json → List Registration → ℕ → Type 0
  Here o done m = (t : Json) × (left : List Json) × At doc m t × Rest doc (Some m) (t ∷ left) × (registrations_in doc.bytes (listed o) ≡ joined done (with_more (registration_of doc.bytes t) (registrations_in doc.bytes left)))

  here_at : (done : List Registration) (here : Option ℕ) (m : ℕ) → Gathering doc list done here → here ≡ Some m → (o : Option Json) → Found doc o list → Here o done m
  here_at done here m g e o h =
      let k : (left : List Json) × Rest doc here left × (registrations_in doc.bytes (listed o) ≡ joined done (registrations_in doc.bytes left)) = g.rest o h in
      let r : Rest doc (Some m) k.0 = subst (λ z. Rest doc z k.0) e k.1 in
      let q : (t : Json) × (left : List Json) × (k.0 ≡ t ∷ left) × At doc m t = rest_first doc m k.0 r in
      (q.0, q.1, q.3, subst (λ z. Rest doc (Some m) z) q.2 r, k.2 ∙ ap (λ js. joined done (registrations_in doc.bytes js)) q.2)

  -- behind the next item
  pub gathering_on : (done : List Registration) (here next : Option ℕ) (m : ℕ) (x : Registration) → Gathering doc list done here → here ≡ Some m
      → ((t : Json) (left : List Json) → Rest doc (Some m) (t ∷ left) → Rest doc next left)
      → MatchOption next (Unit {0}) (λ i. (m < i) × (i < length doc.nodes)) → ((t : Json) → At doc m t → registration_of doc.bytes t ≡ Some x)
      → Gathering doc list (done ++ x ∷ []) next
  gathering_on done here next m x g e follows later one = record {
    inside = inside_more (length doc.nodes) m next later;
    rest = λ o h.
        let q : Here o done m = here_at done here m g e o h in
        (q.1, follows q.0 q.1 q.3, q.4 ∙ (ap (λ r. joined done (with_more r (registrations_in doc.bytes q.1))) (one q.0 q.2) ∙ joined_more done x (registrations_in doc.bytes q.1)));
  }

  -- the next item says none
  pub gathering_stops : (done : List Registration) (here : Option ℕ) (m : ℕ) → Gathering doc list done here → here ≡ Some m → ((t : Json) → At doc m t → registration_of doc.bytes t ≡ None)
      → (o : Option Json) → Found doc o list → registrations_in doc.bytes (listed o) ≡ None
  gathering_stops done here m g e one o h =
      let q : Here o done m = here_at done here m g e o h in
      q.4 ∙ ap (λ r. joined done (with_more r (registrations_in doc.bytes q.1))) (one q.0 q.2)

  pub gathering_ends : (done : List Registration) (here : Option ℕ) → Gathering doc list done here → here ≡ None → (o : Option Json) → Found doc o list → registrations_in doc.bytes (listed o) ≡ Some done
  gathering_ends done here g e o h =
      let k : (left : List Json) × Rest doc here left × (registrations_in doc.bytes (listed o) ≡ joined done (registrations_in doc.bytes left)) = g.rest o h in
      k.2 ∙ (ap (λ js. joined done (registrations_in doc.bytes js)) (rest_ends doc k.0 (subst (λ z. Rest doc z k.0) e k.1)) ∙ ap Some (append-nil done))
