-- E4 to E6: the requests of the multiplexer's own.
use Rattle.std.proofs.Common.{◌≡◌, Bool, true, false, ◌||◌, codes, bytes_eq, refl, ap, ◌∙◌}
use Rattle.rpc_message.specs.Message.{Message, request, notification, result, error, not_json, not_message}
use Rattle.event_model.specs.Event.{requests}
use Rattle.group_facts.specs.group_rows.specs.Rows.{asks_lspmux}

-- as the code tells them apart
pub or_first : (a b : Bool) → a ≡ true → a ≡ (a || b)
or_first true b h = refl
or_first false b h = absurd (cc)

pub or_second : (a b : Bool) → a ≡ false → b ≡ (a || b)
or_second false b h = refl
or_second true b h = absurd (cc)

by_either : (a b c : Bool) (m : Message) → requests (codes "lspmux/open") m ≡ a → requests (codes "lspmux/status") m ≡ b → requests (codes "lspmux/stop") m ≡ c → asks_lspmux m ≡ (a || (b || c))
by_either a b c (request id method params) h k l =
    ap (λ x. x || (bytes_eq (codes "lspmux/status") method || bytes_eq (codes "lspmux/stop") method)) h ∙ (ap (λ x. a || (x || bytes_eq (codes "lspmux/stop") method)) k ∙ ap (λ x. a || (b || x)) l)
by_either a b c (notification method params) h k l = l ∙ (ap (λ x. x || c) k ∙ ap (λ x. x || (b || c)) h)
by_either a b c (result id r) h k l = l ∙ (ap (λ x. x || c) k ∙ ap (λ x. x || (b || c)) h)
by_either a b c (error id x) h k l = l ∙ (ap (λ x. x || c) k ∙ ap (λ x. x || (b || c)) h)
by_either a b c not_json h k l = l ∙ (ap (λ x. x || c) k ∙ ap (λ x. x || (b || c)) h)
by_either a b c not_message h k l = l ∙ (ap (λ x. x || c) k ∙ ap (λ x. x || (b || c)) h)

pub either_asks : (m : Message) → asks_lspmux m ≡ (requests (codes "lspmux/open") m || (requests (codes "lspmux/status") m || requests (codes "lspmux/stop") m))
either_asks m = by_either (requests (codes "lspmux/open") m) (requests (codes "lspmux/status") m) (requests (codes "lspmux/stop") m) m refl refl refl
