-- The notification that cancels a request, as a message.
use Rattle.std.proofs.Common.{◌≡◌, ℕ, ◌<◌, ◌^◌, ◌++◌, codes, refl, sym, subst, arith, append_assoc}
use Rattle.std.specs.Prelude.{Some, decimal}
use Rattle.std.specs.Str.{chars}
use Rattle.json_text.specs.Bare.{nowhere}
use Rattle.json_text.specs.Json.{Json, number, object, no_members, member}
use Rattle.json_text.proofs.Compact.{compact_object, closing_none}
use Rattle.json_text.proofs.Moves.{placed}
use Rattle.rpc_message.specs.Message.{notification, message_of}
use Rattle.rpc_message.specs.ValueTexts.{IsValueText}
use Rattle.rpc_message.proofs.Decimals.{decimal_number}
use Rattle.rpc_message.proofs.Replies.{notification_law}
use Rattle.group_rows.specs.Leaves.{cancel_params, cancel_text}

-- its params, as a value
abbrev pub params_tree : ℕ → Json
params_tree n = object nowhere (member nowhere (codes "id") (number nowhere (decimal n)) no_members)

params_whole : (n : ℕ) → cancel_params n ≡ codes "{\"id\":" ++ (decimal n ++ codes "}")
params_whole n = append_assoc (codes "{\"id\":") (decimal n) (codes "}")

params_written : (n : ℕ) → n < 2 ^ 64 → IsValueText (params_tree n) (cancel_params n)
params_written n h =
    let low : n < 10 ^ 64 = omega arith in
    let p = placed (params_tree n) 0 (codes "{\"id\":" ++ (decimal n ++ codes "}")) (compact_object nowhere nowhere (codes "id") (number nowhere (decimal n)) no_members (decimal n) (codes "}") refl (refl, decimal_number n low) closing_none) in
    subst (λ w. IsValueText (params_tree n) w) (sym (params_whole n)) (record { tree = p.tree; stands = p.stands; same = p.same })

pub cancel_says : (n : ℕ) → n < 2 ^ 64 → message_of (cancel_text n) ≡ notification (codes "$/cancelRequest") (Some (params_tree n))
unfolding chars lib.Utf8.encode
cancel_says n h = notification_law (codes "$/cancelRequest") (Some (params_tree n)) (Some (cancel_params n)) (codes "$/cancelRequest", (refl, refl)) (params_written n h) refl (omega arith)
