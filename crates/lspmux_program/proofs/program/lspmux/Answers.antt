use Rattle.std.proofs.Common.{refl, subst}
use Rattle.std.specs.Prelude.{Ok, Err}
use Rattle.outside_io.specs.Faults.{Rose}
use Rattle.program_settings.specs.Readings.{IsReading}
use Rattle.lspmux_words.specs.Meaning.{asked}
use Rattle.lspmux_program.specs.Programs.{did, no_settings}
use Rattle.lspmux_program.proofs.program.lspmux.Goals as goal

pub returns-in-Err : goal.returns-in-Err
returns-in-Err g c = rw c.idle-in-Err.ensures
    (no_settings (asked c.in-Ok.command) c.in-Ok.ensures.taken c.in-Err.fault
    (subst (λ file. IsReading (g.F.Folder.files c.args.outside.folder) file (Rose (g.F.Folder.faults c.args.outside.folder) (g.F.Folder.faults c.settings.new.folder)) (Err c.in-Err.fault)) c.file_of-file.ensures c.in-Err.ensures.read)
    (record { alone = record { door = refl; lanes = refl; port = refl }; journal = refl; input = refl }) c.refuse-status.ensures.reported)

pub returns : goal.returns
returns g c = did (asked c.in-Ok.command) c.in-Ok.ensures.taken c.in-Ok-settings.config c.settings.new.folder
    (subst (λ file. IsReading (g.F.Folder.files c.args.outside.folder) file (Rose (g.F.Folder.faults c.args.outside.folder) (g.F.Folder.faults c.settings.new.folder)) (Ok c.in-Ok-settings.config)) c.file_of-file.ensures c.in-Ok-settings.ensures.read)
    c.obey.ensures
