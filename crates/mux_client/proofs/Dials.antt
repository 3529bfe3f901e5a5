-- A dial and its link, put together.
use Rattle.std.proofs.Common.{◌≡◌, ℕ, ◌+◌, ◌⊎◌, List, [], ◌∷◌, inl, inr, refl, ap, ◌∙◌, subst}
use Rattle.std.specs.Prelude.{Option, Some, None, IfSome, Result, Err}
use Rattle.std.specs.Option.{option_map}
use Rattle.outside_io.specs.Doors.{Address, Call, PortTold, dialled}
use Rattle.outside_io.specs.Faults.{Rose}
use Rattle.outside_io.specs.Sessions.{Session}
use Rattle.outside_io.specs.Told.{append_to, prepend_to}
use Rattle.mux_client.specs.Dials.{AtPort, Called, Dialled, PortState, WhyNoPort, given, linked, no_link, no_port}
use Rattle.mux_client.specs.declared.fault.ClientFault.{ClientFault}
use Rattle.mux_client.specs.declared.fault.ClientFault.TheVariants as fault

-- the door's one call
pub called_so : {T : Type 0} (place : Address) (before after : Option (List Call)) (result : Result T ClientFault) → after ≡ append_to before (dialled place ∷ []) → Called place before after result
called_so place before after result e = inl e

pub called_not : {T : Type 0} (place : Address) (before after : Option (List Call)) → after ≡ before → Called {T = T} place before after (Err fault.Memory)
called_not place before after e = inr (refl, e)

abbrev pub state : Option (List Session) → Option (List Session) → ℕ → ℕ → PortState
state sessions links held faults = record { told = record { sessions = sessions; links = links }; held = held; faults = faults }

module _ (Nothing : Type 0) (Did : Session → Session → Result (Unit {0}) ClientFault → Type 0) where
  -- a port that gave no link
  pub at_none : (s s' l l' : Option (List Session)) (h h' f f' : ℕ) → s' ≡ s → (l' ≡ l) × (h' ≡ h) → IfSome l (λ left. left ≡ []) ⊎ Rose f f' → Nothing
      → AtPort (record { told = record { sessions = s; links = l }; held = h; faults = f }) (record { told = record { sessions = s'; links = l' }; held = h'; faults = f' }) Nothing Did (Err fault.Answer)
  at_none s s' l l' h h' f f' e k cause n = no_link refl (record { told = ap (λ x. record { sessions = x; links = l' }) e ∙ ap (λ x. record { sessions = s; links = x }) k.0; held = k.1; cause = cause }) n

  -- a port whose link was handed back
  pub at_link : (s s1 s2 l l1 l2 : Option (List Session)) (h h1 h2 f f1 f2 : ℕ) (link link' : Session) (result : Result (Unit {0}) ClientFault)
      → l ≡ prepend_to (link ∷ []) l1 → h1 ≡ h + 1 → s1 ≡ s → s2 ≡ append_to s1 (link' ∷ []) → l2 ≡ l1 → h1 ≡ h2 + 1 → Did link link' result
      → AtPort (record { told = record { sessions = s; links = l }; held = h; faults = f }) (record { told = record { sessions = s2; links = l2 }; held = h2; faults = f2 }) Nothing Did result
  at_link s s1 s2 l l1 l2 h h1 h2 f f1 f2 link link' result a b c d e g did =
      linked (state s1 l1 h1 f1) link link' (record { links = a; sessions = c; held = b }) (record { sessions = d; links = e; held = g }) did

-- a dial that gave no port, and one that gave this one
module _ {P : Type 0} (view : P → PortState) (Nothing : Type 0) (Did : Session → Session → Result (Unit {0}) ClientFault → Type 0) where
  pub dialled_none : (left left' : Option (List PortTold)) (f f' : ℕ) (port port' : Option P) (why : ClientFault) → port ≡ None → (port' ≡ port) × (left' ≡ left) → WhyNoPort f f' why → Nothing
      → Dialled (record { left = left; faults = f }) (record { left = left'; faults = f' }) (option_map view port') Nothing Did (Err why)
  dialled_none left left' f f' port port' why e k cause n = no_port why refl cause k.1 (ap (option_map view) (k.0 ∙ e)) n

  pub dialled_given : (left left' : Option (List PortTold)) (f f' : ℕ) (before now : P) (result : Result (Unit {0}) ClientFault) → (view before).faults ≡ 0 → left ≡ prepend_to ((view before).told ∷ []) left'
      → AtPort (view before) (view now) Nothing Did result → Dialled (record { left = left; faults = f }) (record { left = left'; faults = f' }) (option_map view (Some now)) Nothing Did result
  dialled_given left left' f f' before now result z l x = given (view before) (view now) (record { left = l; fresh = z }) refl x

  -- the same by what is known of the port that is there
  pub dialled_some : (left left' : Option (List PortTold)) (f f' : ℕ) (port : Option P) (before now : P) (result : Result (Unit {0}) ClientFault) → port ≡ Some before → IfSome port (λ p. (view p).faults ≡ 0)
      → IfSome port (λ p. left ≡ prepend_to ((view p).told ∷ []) left') → AtPort (view before) (view now) Nothing Did result
      → Dialled (record { left = left; faults = f }) (record { left = left'; faults = f' }) (option_map view (Some now)) Nothing Did result
  dialled_some left left' f f' port before now result is fresh told x =
      dialled_given left left' f f' before now result (subst (λ o. IfSome o (λ p. (view p).faults ≡ 0)) is fresh) (subst (λ o. IfSome o (λ p. left ≡ prepend_to ((view p).told ∷ []) left')) is told) x
