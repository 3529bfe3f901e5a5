-- The body that an editor gets.
use Rattle.std.proofs.Common.{◌≡◌, ℕ, List, [], Option, Some, None, Vec, Global, refl, sym, ◌∙◌, ap, subst, subst₂}
use Rattle.std.specs.Prelude.{Result, IfOk}
use Rattle.std.specs.Option.{option_and_then}
use Rattle.json_text.specs.Changes.{edits_of}
use Rattle.json_text.specs.declared.change.Change.{Change}
use Rattle.json_text.specs.Json.{Json}
use Rattle.json_text.specs.Replace.{Edit, Rise}
use Rattle.json_text.specs.Tree.{tree_of}
use Rattle.json_nodes.specs.At.{At, Found}
use Rattle.json_nodes.specs.Doc.{Doc}
use Rattle.rpc_message.specs.Changed.{id_edits}
use Rattle.rpc_message.specs.Message.{Message, message_of}
use Rattle.rpc_message.specs.Parsed.{IsRead, Parsed}
use Rattle.rpc_message.proofs.Reading.{held_tree}
use Rattle.response_route.specs.Answers.{answer_text, answer_with}
use Rattle.response_route.specs.Edits.{Renaming, all_edits}
use Rattle.response_route.specs.Reading.{Gives, Stand}
use Rattle.response_route.specs.Results.{documents_in}
use Rattle.response_route.specs.Versions.{Means, stamp_of, version_now}
use Rattle.response_route.specs.declared.fault.EditFault.{EditFault}
use Rattle.response_route.specs.declared.mapping.Mapping.{Mapping}
use Rattle.response_route.proofs.Rising.{maybe}

-- what the look-ups say
own : Mapping → Renaming
own m u digits = version_now digits (stamp_of u m.now.now) (option_and_then (λ x. stamp_of u x.now) m.noted)

own_means : (m : Mapping) → Means m (own m)
unfolding own
own_means m u digits = refl

-- the documents of a member of a message that was read
module _ (f : Json → List Json) (part : Message → Json → Option Json) (m : Parsed) (body : List ℕ) (read : IsRead m body) where
  abbrev documents : List Json
  documents = maybe f (option_and_then (part (message_of body)) (tree_of body))

  abbrev found : Option Json
  found = part (message_of body) read.tree

  in_tree : documents ≡ maybe f found
  in_tree = ap (λ o. maybe f (option_and_then (part (message_of body)) o)) (ap tree_of (sym read.bytes_are) ∙ held_tree m.doc read.tree read.holds)

  some_found : (d e : Doc) (o : Option Json) (n : ℕ) (ns ms : List ℕ) (x : Result (Vec Change Global) EditFault) (r : Renaming) → d ≡ m.doc → e ≡ m.doc → ms ≡ ns → Found m.doc o (Some n)
      → ((t : Json) → At d n t → Stand d ns (f t)) → ((js : List Json) → Stand e ms js → Gives x (all_edits r js)) → Gives x (all_edits r (maybe f o))
  some_found d e (Some t) n ns ms x r p q s a stand g = g (f t) (subst₂ (λ z w. Stand z w (f t)) (p ∙ sym q) (sym s) (stand t (subst (λ z. At z n t) (sym p) a)))
  some_found d e None n ns ms x r p q s a stand g = absurd a

  pub changes_found : (d e : Doc) (n : ℕ) (ns ms : List ℕ) (x : Result (Vec Change Global) EditFault) (r : Renaming) → d ≡ m.doc → e ≡ m.doc → ms ≡ ns → Found m.doc found (Some n)
      → ((t : Json) → At d n t → Stand d ns (f t)) → ((js : List Json) → Stand e ms js → Gives x (all_edits r js)) → Gives x (all_edits r documents)
  changes_found d e n ns ms x r p q s a stand g = subst (λ js. Gives x (all_edits r js)) (sym in_tree) (some_found d e found n ns ms x r p q s a stand g)

  none_found : (o : Option Json) (r : Renaming) → Found m.doc o None → all_edits r (maybe f o) ≡ Some []
  none_found None r a = refl
  none_found (Some t) r a = absurd a

  pub nothing_found : (r : Renaming) (cs : List Change) → Found m.doc found None → cs ≡ [] → all_edits r documents ≡ Some (edits_of cs)
  nothing_found r cs a e = ap (all_edits r) in_tree ∙ none_found found r a ∙ ap (λ z. Some (edits_of z)) (sym e)

pub changes_rise : (m : Parsed) (mapping : Mapping) (body w : List ℕ) (cs : List Change) (js : List Json) → IsRead m body → ((r : Renaming) (es : List Edit) → all_edits r js ≡ Some es → Rise body (id_edits body w es))
    → ((r : Renaming) → Means mapping r → all_edits r js ≡ Some (edits_of cs)) → Rise m.doc.bytes (id_edits m.doc.bytes w (edits_of cs))
changes_rise m mapping body w cs js read rise f = subst (λ z. Rise z (id_edits z w (edits_of cs))) (sym read.bytes_are) (rise (own mapping) (edits_of cs) (f (own mapping) (own_means mapping)))

pub answered : {F : Type 0} (x : Result (List ℕ) F) (r : Renaming) (body w text : List ℕ) (o : Option (List Edit)) → all_edits r (documents_in body) ≡ o → answer_with o body w ≡ text → IfOk x (λ t. t ≡ text) → IfOk x (λ t. t ≡ answer_text r body w)
answered x r body w text o e f h = subst (λ z. IfOk x (λ t. t ≡ z)) (sym (ap (λ z. answer_with z body w) e ∙ f)) h
