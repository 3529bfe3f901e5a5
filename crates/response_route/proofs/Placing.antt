-- A body under another id, with other versions in the value of one of its members.
use Rattle.std.proofs.Common.{◌≡◌, ℕ, ◌-◌, ◌≤◌, false, ◌&&◌, List, [], ◌∷◌, take, drop, Option, Some, None, bytes_eq, codes, refl, ◌∙◌, ap₂, arith}
use Rattle.json_text.specs.Json.{Json, object, Members, value, span_of, depth}
use Rattle.json_text.specs.Named.{named}
use Rattle.json_text.specs.Paths.{put_named}
use Rattle.json_text.specs.Replace.{Edit}
use Rattle.json_text.proofs.Depths.{members_deep, named_below}
use Rattle.json_text.proofs.Forms.{says_of}
use Rattle.json_text.proofs.Inside.{InSpan, member_in_span}
use Rattle.json_text.proofs.Laws.{tree_sound}
use Rattle.json_text.proofs.Put.{named_put_other}
use Rattle.json_text.proofs.Swaps.{Replaced}
use Rattle.rpc_message.specs.Changed.{changed_text, id_edits}
use Rattle.rpc_message.specs.Envelopes.{by_names}
use Rattle.rpc_message.specs.Message.{is_two, message_of}
use Rattle.rpc_message.proofs.Beside.{id_swaps}
use Rattle.rpc_message.proofs.Bodies.{Envelope, once_put, put_id}
use Rattle.rpc_message.proofs.Meaning.{message_says}
use Rattle.response_route.specs.Edits.{Renaming, all_edits, are_some}
use Rattle.response_route.proofs.Rising.{maybe}
use Rattle.response_route.proofs.Swapping.{Made}

pub none_there : (js : List Json) → are_some js ≡ false → js ≡ []
none_there [] e = refl
none_there (j ∷ js) e = absurd (cc)

nothing_is : (es : List Edit) → ◌≡◌ {A = Option (List Edit)} (Some []) (Some es) → es ≡ []
nothing_is es e = cc

-- there are no edits, or they make another value of the member of this name
pub data Edited (cs : List ℕ) (ms : Members) (es : List Edit) : Type 0 where
  unchanged : es ≡ [] → Edited cs ms es
  changed : (p : Json) → named cs ms ≡ Some p → Made p es → Edited cs ms es

module _ (body cs : List ℕ) (v : Envelope body) where
  pub edited : (r : Renaming) (f : Json → List Json) → ((p : Json) (at : ℕ) (bs : List ℕ) → value p at bs → (es : List Edit) → all_edits r (f p) ≡ Some es → Made p es)
      → (o : Option Json) → ((p : Json) → o ≡ Some p → named cs v.members ≡ Some p) → (es : List Edit) → all_edits r (maybe f o) ≡ Some es → Edited cs v.members es
  edited r f each (Some p) there es e =
      let i : InSpan body p = member_in_span body v.span cs v.members p (tree_sound body (object v.span v.members) v.tree).0 (there p refl) in
      changed p (there p refl) (each p (span_of p).from (take ((span_of p).to - (span_of p).from) (drop (span_of p).from body)) i.stands es e)
  edited r f each None there es e = unchanged (nothing_is es e)

  -- the message with another value there
  pub changed_is : (w : List ℕ) (u p : Json) (es : List Edit) → bytes_eq cs (codes "id") ≡ false → bytes_eq cs (codes "jsonrpc") ≡ false → value u 0 w → depth u ≡ 0 → named cs v.members ≡ Some p → (m : Made p es)
      → message_of (changed_text body w es) ≡ by_names (named (codes "method") (put_named cs m.value v.members)) (Some u) (named (codes "params") (put_named cs m.value v.members))
      (named (codes "error") (put_named cs m.value v.members)) (named (codes "result") (put_named cs m.value v.members))
  changed_is w u p es other no_version stands flat there m =
      let ls : Members = v.members in
      let ns : Members = put_named cs m.value ls in
      let made : Replaced body (id_edits body w es) (object v.span (put_named (codes "id") u ns)) = id_swaps body w cs v.span ls p es v.tree there other v.id u m.value v.named_id (says_of u 0 w stands) m.swaps in
      let old : depth (object v.span ls) ≤ 1024 = (tree_sound body (object v.span ls) v.tree).1 in
      message_says (object v.span (put_named (codes "id") u ns)) (changed_text body w es) made.says
      (omega (arith, flat, old, members_deep (codes "id") ns u, members_deep cs ls m.value, m.flat, named_below cs ls p there))
      ∙ put_id v.span ns v.id u
      (ap₂ (λ a o. a && is_two o) (once_put cs ls m.value) (named_put_other cs (codes "jsonrpc") ls m.value no_version) ∙ v.test)
      (named_put_other cs (codes "id") ls m.value other ∙ v.named_id)
