use Rattle.std.proofs.Common.{◌+◌, ◌-◌, ◌≤◌, min, map, Some, vec_len, vec_capacity}
use Rattle.std.specs.VecDeque.{deque_len}
use Rattle.outside_io.specs.Doors.{Gave}
use Rattle.outside_io.specs.MemoryDoors.{port_of}
use Rattle.outside_io.specs.contracts.memory.port.MemPortPort.TheImpl as port
use Rattle.outside_io.proofs.memory.door.give.Given as goal

abbrev pub invariant-loop : goal.invariant-loop
invariant-loop l = record {
  gave : Gave port_of port.ghosts.faults l.counter l.initial.to.items l.to.items (Some (map port_of l.initial.from.items)) (Some (map port_of l.from.items));
  room : min (deque_len l.from) (l.n - l.counter) + vec_len l.to ≤ vec_capacity l.to;
}
