-- The notification that ends a program, as a message.
use Rattle.std.proofs.Common.{◌≡◌, codes, refl, arith}
use Rattle.std.specs.Prelude.{None}
use Rattle.std.specs.Str.{chars}
use Rattle.rpc_message.specs.Message.{notification, message_of}
use Rattle.rpc_message.proofs.Replies.{notification_law}
use Rattle.group_rows.specs.Ends.{exit_text}

pub exit_says : message_of exit_text ≡ notification (codes "exit") None
unfolding chars lib.Utf8.encode
exit_says = notification_law (codes "exit") None None (codes "exit", (refl, refl)) tt refl (omega arith)
