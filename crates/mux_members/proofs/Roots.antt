-- The params of a body.
use Rattle.std.proofs.Common.{◌≡◌, ℕ, List, codes, sym, ◌∙◌, ap, Some}
use Rattle.json_text.specs.Tree.{tree_of}
use Rattle.rpc_message.specs.Parsed.{Parsed, IsRead}
use Rattle.rpc_message.proofs.Reading.{held_tree}
use Rattle.mux_model.specs.event_model.specs.Members.{named_of, params_of}

-- a body's params, where it was read
pub read_params : (m : Parsed) (bytes : List ℕ) → (read : IsRead m bytes) → params_of bytes ≡ named_of (codes "params") (Some read.tree)
read_params m bytes read = ap (named_of (codes "params")) (sym (ap tree_of read.bytes_are) ∙ held_tree m.doc read.tree read.holds)
