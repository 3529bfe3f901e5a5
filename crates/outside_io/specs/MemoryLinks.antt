-- What a link in memory tells: the session of its source and its sink.
use Rattle.outside_io.specs.Sessions.{Session, session_of}
use Rattle.outside_io.specs.declared.memory.sink.MemSink.{MemSink}
use Rattle.outside_io.specs.declared.memory.source.MemSource.{MemSource}
use Rattle.outside_io.specs.contracts.memory.sink.MemSinkSink.TheImpl as sink
use Rattle.outside_io.specs.contracts.memory.source.MemSourceSource.TheImpl as source

abbrev pub link_of : MemSource × MemSink → Session
link_of link = session_of source.ghosts.taken source.ghosts.left source.ghosts.faults sink.ghosts.written sink.ghosts.faults link.0 link.1
