-- One as it goes on.
use Rattle.std.proofs.Common.{refl, subst}
use Rattle.rpc_message.specs.Parsed.{IsRead}
use Rattle.mux_starts.proofs.held.sending_of.Goals as goal

pub returns-in_ok-partial-in-Ok : goal.returns-in_ok-partial-in-Ok
returns-in_ok-partial-in-Ok c = λ method id params says.
    let body = c.args.held.now.body in
    let read : IsRead c.in-Ok.message body = subst (IsRead c.in-Ok.message) c.bytes-bytes.ensures c.in-Ok.ensures.ok in
    record {
      editor = refl;
      id = c.in_ok-id-in-Ok.ensures;
      work = c.in_ok-work-in-Ok.ensures refl body method id params read says;
      partial = c.in_ok-partial-in-Ok.ensures refl body method id params read says;
      text = c.in_ok-text-in-Ok.ensures body method id params read says;
    }
