use Rattle.journal_show.proofs.Readings.{journal_is_read, journal_holds}
use Rattle.journal_show.proofs.law.journal_law.Goals as goal

pub returns : goal.returns
returns c = record { whole = journal_is_read; fronts = journal_holds }
