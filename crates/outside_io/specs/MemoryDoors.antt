-- The calls that a door in memory keeps, and what its ports tell.
use Rattle.outside_io.specs.Doors.{address_of, Call, opened, dialled, PortTold, told_of}
use Rattle.outside_io.specs.declared.memory.door.Made.{Made}
use Rattle.outside_io.specs.declared.memory.door.Made.TheVariants.{Open, Dial}
use Rattle.outside_io.specs.declared.memory.port.MemPort.{MemPort}
use Rattle.outside_io.specs.contracts.memory.port.MemPortPort.TheImpl as port

abbrev pub call_of : Made → Call
call_of (Open place n) = opened (address_of place) n
call_of (Dial place) = dialled (address_of place)

abbrev pub port_of : MemPort → PortTold
port_of it = told_of port.ghosts.sessions port.ghosts.links it
