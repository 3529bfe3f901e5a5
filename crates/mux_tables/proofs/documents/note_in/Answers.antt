-- A didChange goes to the documents as it was read.
use Rattle.mux_tables.proofs.DocumentNotes.{changes_given}
use Rattle.mux_tables.proofs.documents.note_in.Goals as goal

pub returns-in-Changes : goal.returns-in-Changes
returns-in-Changes c = λ body read. changes_given c.args.e c.args.documents.now c.in_ok-uri.field-0 body c.args.message.now c.change.result c.change.new.self read (c.in_ok-uri.ensures.said body read) c.in-Changes.is c.change.ensures
