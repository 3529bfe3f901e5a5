-- The id that a cancel names.
use Rattle.std.proofs.Common.{◌≡◌, ℕ, Bool, true, false, ◌||◌, List, Option, Some, None, option_map, refl, sym, ◌∙◌, ap, subst}
use Rattle.std.specs.Option.{option_and_then}
use Rattle.json_text.specs.Bare.{bare}
use Rattle.json_text.specs.Json.{Json, word, number, string, array, object, span_of, value}
use Rattle.json_text.proofs.Moves.{Placed, moved}
use Rattle.json_nodes.specs.At.{Found}
use Rattle.json_nodes.specs.Doc.{Doc}
use Rattle.rpc_message.specs.declared.envelope.Envelope.{Envelope}
use Rattle.rpc_message.specs.declared.envelope.Envelope.TheVariants.{Request, Notification, Outcome, Failure}
use Rattle.rpc_message.specs.Envelopes.{Tells}
use Rattle.rpc_message.specs.Message.{Id, Message, error, id_of, integer, integer_if, is_integer, notification, request, result, result_tree, text}
use Rattle.rpc_message.specs.Parsed.{FoundBare}
use Rattle.rpc_message.specs.ValueTexts.{IsIdText}
use Rattle.rpc_message.proofs.Meaning.{id_bare}
use Rattle.mux_model.specs.event_model.specs.Members.{named_of}
use Rattle.mux_members.specs.Cancels.{IsTextOf, may_be_id}
use Rattle.mux_members.specs.Envelopes.{notification_params}
use Rattle.mux_members.proofs.Bared.{of_bare}

-- a notification's params
pub told_notified : (doc : Doc) (e : Envelope) (m : Message) (method : List ℕ) (params : Option Json) → Tells doc e m → m ≡ notification method params → FoundBare doc params (notification_params e)
told_notified doc (Notification n p) m method params t h = record { value = t.params; stands = t.params_stand; is = let same : m ≡ notification t.method (option_map bare t.params) = t.is in cc }
told_notified doc (Request i n p) m method params t h = absurd (let same : m ≡ request t.id t.method (option_map bare t.params) = t.is in cc)
told_notified doc (Outcome i v) m method params t h = absurd (let same : m ≡ result t.id (result_tree t.value) = t.is in cc)
told_notified doc (Failure i f) m method params t h = absurd (let same : m ≡ error t.id (bare t.failure) = t.is in cc)

-- the bytes of an id's value are the text of the id
id_text : (t : Json) (at : ℕ) (w : List ℕ) (i : Id) → value t at w → id_of t ≡ Some i → IsIdText i w
id_text t at w i v h = let p : Placed t 0 w = moved t at w v 0 in record { tree = p.tree; stands = p.stands; is = sym (id_bare p.tree) ∙ ap id_of p.same ∙ id_bare t ∙ h }

some_id : (o : Option Json) (w : List ℕ) → may_be_id o ≡ true → ((t : Json) → o ≡ Some t → (at : ℕ) × value t at w) → IsTextOf (option_and_then id_of o) (Some w)
some_id (Some (number s ds)) w h f = go (is_integer ds) refl h
  where
    go : (b : Bool) → is_integer ds ≡ b → (b || false) ≡ true → IsTextOf (integer_if b ds) (Some w)
    go true e h = let v = f (number s ds) refl in id_text (number s ds) v.0 w (integer ds) v.1 (ap (λ b. integer_if b ds) e)
    go false e h = absurd (cc)
some_id (Some (string s cs)) w h f = let v = f (string s cs) refl in id_text (string s cs) v.0 w (text cs) v.1 refl
some_id (Some (word s x)) w h f = absurd (cc)
some_id (Some (array s js)) w h f = absurd (cc)
some_id (Some (object s ms)) w h f = absurd (cc)
some_id None w h f = absurd (cc)

no_id : (o : Option Json) → may_be_id o ≡ false → IsTextOf (option_and_then id_of o) None
no_id (Some (number s ds)) h = go (is_integer ds) h
  where
    go : (b : Bool) → (b || false) ≡ false → IsTextOf (integer_if b ds) None
    go true h = absurd (cc)
    go false h = tt
no_id (Some (string s cs)) h = absurd (cc)
no_id (Some (word s x)) h = tt
no_id (Some (array s js)) h = tt
no_id (Some (object s ms)) h = tt
no_id None h = tt

id_given : (o : Option Json) → option_and_then id_of (option_map bare o) ≡ option_and_then id_of o
id_given (Some t) = id_bare t
id_given None = refl

-- the params say what their value says
module _ (name : List ℕ) where
  named_given : (o : Option Json) → option_and_then id_of (named_of name (option_map bare o)) ≡ option_and_then id_of (named_of name o)
  named_given o = ap (λ z. option_and_then id_of z) (of_bare name o) ∙ id_given (named_of name o)

  module _ (doc : Doc) (params : Option Json) (answer : Option ℕ) (told : FoundBare doc params answer) where
    abbrev id : Option Json
    id = named_of name told.value

    same : option_and_then id_of (named_of name params) ≡ option_and_then id_of id
    same = ap (λ o. option_and_then id_of (named_of name o)) told.is ∙ named_given told.value

    pub names_id : (place : Option ℕ) (w : List ℕ) → Found doc id place → may_be_id id ≡ true → ((t : Json) → Found doc (Some t) place → value t (span_of t).from w) → IsTextOf (option_and_then id_of (named_of name params)) (Some w)
    names_id place w found may f = subst (λ o. IsTextOf o (Some w)) (sym same) (some_id id w may (λ t is. ((span_of t).from, f t (subst (λ o. Found doc o place) is found))))

    pub names_nothing : may_be_id id ≡ false → IsTextOf (option_and_then id_of (named_of name params)) None
    names_nothing may = subst (λ o. IsTextOf o None) (sym same) (no_id id may)
