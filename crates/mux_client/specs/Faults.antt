-- The statuses of a client.
use Rattle.std.specs.Prelude.{ℕ}
use Rattle.mux_client.specs.declared.fault.ClientFault.{ClientFault}
use Rattle.mux_client.specs.declared.fault.ClientFault.TheVariants as fault

abbrev pub status_of : ClientFault → ℕ
status_of fault.Door = 4
status_of fault.Memory = 5
status_of fault.Input = 7
status_of fault.Output = 8
status_of fault.Refused = 10
status_of fault.Answer = 11
status_of fault.Link = 12
