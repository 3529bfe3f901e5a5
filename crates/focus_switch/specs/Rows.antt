-- What the server is told when an editor opens, changes or closes a document, and when a start of the server is ready.
use Rattle.std.specs.Prelude.{ℕ, ◌+◌, Bool, true, false, ◌&&◌, List, [], ◌∷◌, ◌++◌, map, length, fold, find, nat_eq, nat_lt, if◌then◌else◌}
use Rattle.std.specs.Prelude.{Option, Some, None}
use Rattle.std.specs.List.{list_all}
use Rattle.std.specs.Option.{option_and_then, option_map, option_map_or}
use Rattle.json_text.specs.Json.{Json}
use Rattle.mux_history.specs.declared.out.Out.{Out}
use Rattle.mux_history.specs.declared.out.Out.TheVariants.{ToServer}
use Rattle.position_codec.specs.declared.Encoding.{Encoding}
use Rattle.document_table.specs.doc_text.specs.Changes.{text_behind}
use Rattle.focus_switch.specs.declared.held.Held.{Held}
use Rattle.document_table.specs.document_model.specs.declared.agreement.Agreement.{Agreement}
use Rattle.document_table.specs.document_model.specs.declared.agreement.Agreement.TheVariants.{NotOpen, Differs, Agrees}
use Rattle.focus_switch.specs.declared.telling.Telling.{Telling}
use Rattle.focus_switch.specs.declared.telling.Telling.TheVariants.{Opens, Changes, Closes, OpensAnew}
use Rattle.document_table.specs.Rows.{touched_at, uris_of}
use Rattle.document_table.specs.document_model.specs.Opens.{Open, is_open_at, put_open, drop_open, holder, holder_beside, holds, holds_language, holds_own}
use Rattle.focus_switch.specs.Documents.{Documents, held_of, version_held, helds_behind}
use Rattle.document_table.specs.document_model.specs.Notices.{DidChange, did_change, with_version}
use Rattle.document_table.specs.document_model.specs.Bodies.{open_text, full_text, close_text}

-- the outs of a call, and the documents behind it
pub record Step : Type 0 where
  pub outs : List Out
  pub after : Documents

abbrev pub nothing : Documents → Step
nothing s = record { outs = []; after = s }

-- the version that the start has of the document then, where it has the document
abbrev pub version_told : Telling → Option ℕ
version_told (Opens body) = Some 1
version_told (Changes v body) = Some v
version_told (Closes body) = None
version_told (OpensAnew closing opening) = Some 1

abbrev pub bodies_told : Telling → List (List ℕ)
bodies_told (Opens body) = body ∷ []
bodies_told (Changes v body) = body ∷ []
bodies_told (Closes body) = body ∷ []
bodies_told (OpensAnew closing opening) = closing ∷ opening ∷ []

abbrev pub tell : Option ℕ → List ℕ → Telling → Documents → Step
tell None u x s = nothing s
tell (Some start) u x s =
    let n = s.sent + length (bodies_told x) in
    record { outs = map (λ b. ToServer start b) (bodies_told x); after = record s { sent = n; helds = helds_behind u (version_told x) n s.helds } }

abbrev pub send : List ℕ → Option Telling → Documents → Step
send u None s = nothing s
send u (Some x) s = tell s.start u x s

-- the server, which has the same language or another, is told the whole text; from another language, or at the limit of versions, it is told to close the document and to open it anew
abbrev pub switch : Bool → ℕ → Open → ℕ → Telling
switch same versions o v = if same && nat_lt v versions then Changes (v + 1) (full_text o.uri (v + 1) o.text) else OpensAnew (close_text o.uri) (open_text o.uri o.language o.text)

-- the server is told an editor's text, where it has another, or another language
abbrev pub differing : Open → ℕ → Documents → Option Telling
differing o v s = if holds o s.opens then None else Some (switch (holds_language o s.opens) s.versions o v)

-- the same of a document that is open
abbrev pub differing_own : Open → ℕ → Documents → Option Telling
differing_own o v s = if holds_own o s.opens then None else Some (switch (holds_language o s.opens) s.versions o v)

-- behind a step, an editor touches a document
abbrev pub touch : Open → Step → Step
touch o step = record { outs = step.outs; after = record step.after { opens = put_open o step.after.opens; turn = step.after.turn + 1 } }

-- an editor opens a document, or opens it again
abbrev pub open_sends : Open → Option ℕ → Documents → Option Telling
open_sends o None s = Some (Opens (open_text o.uri o.language o.text))
open_sends o (Some v) s = differing o v s

abbrev pub open_row : ℕ → List ℕ → List ℕ → List ℕ → List ℕ → Documents → Step
open_row e u l v t s =
    let o : Open = record { editor = e; uri = u; language = l; version = v; text = t; touched = s.turn } in
    touch o (send u (open_sends o (version_held u s.helds) s) s)

-- whether the server has the language and the text that an editor has of a document
abbrev pub had : ℕ → List ℕ → Documents → Bool
had e u s = option_map_or (λ o. holds_own o s.opens) (find (is_open_at e u) s.opens) false

-- an editor changes a document: its body goes on, where the server has the language and the text before, under the server's next version
abbrev pub change_tells : Open → List ℕ → Json → ℕ → Documents → Telling
change_tells new body t v s = if nat_lt v s.versions && had new.editor new.uri s then Changes (v + 1) (with_version (v + 1) body t) else switch (holds_language new s.opens) s.versions new v

abbrev pub change_sends : Open → List ℕ → Json → Option ℕ → Documents → Option Telling
change_sends new body t None s = None
change_sends new body t (Some v) s = if holds new s.opens then None else Some (change_tells new body t v s)

abbrev pub changed : Open → DidChange → List ℕ → ℕ → Open
changed o q t turn = record { editor = o.editor; uri = o.uri; language = o.language; version = q.version; text = t; touched = turn }

abbrev pub or_nothing : {A : Type 0} → Option A → Documents → (A → Step) → Step
or_nothing None s f = nothing s
or_nothing (Some a) s f = f a

abbrev pub text_after : Option Encoding → Json → List ℕ → Option (List ℕ)
text_after e cs t = option_and_then (λ encoding. text_behind encoding cs t) e

-- the document at e behind a change, where it is open there and the change has the right shape
abbrev pub changed_open : ℕ → DidChange → Documents → Option Open
changed_open e q s = option_and_then (λ o. option_map (λ text. changed o q text s.turn) (text_after s.encoding q.changes o.text)) (find (is_open_at e q.uri) s.opens)

-- a body that isn't a didChange of a document that is open at e changes nothing
abbrev pub change_row : ℕ → List ℕ → Json → Documents → Step
change_row e body t s =
    or_nothing (did_change t) s (λ q. or_nothing (changed_open e q s) s (λ new. touch new (send new.uri (change_sends new body t (version_held new.uri s.helds) s) s)))

-- an editor closes a document: the last one closes it at the server, and else the next holder counts
abbrev pub close_sends : ℕ → List ℕ → Option ℕ → Documents → Option Telling
close_sends e u None s = None
close_sends e u (Some v) s = option_map_or (λ h. differing_own h v s) (holder_beside e u s.opens) (Some (Closes (close_text u)))

abbrev pub forget : ℕ → List ℕ → Step → Step
forget e u step = record { outs = step.outs; after = record step.after { opens = drop_open e u step.after.opens } }

abbrev pub close_row : ℕ → List ℕ → Documents → Step
close_row e u s = or_nothing (find (is_open_at e u) s.opens) s (λ o. forget e o.uri (send o.uri (close_sends e o.uri (version_held o.uri s.helds) s) s))

-- a start is ready: it is told of each document that is open, in the order of its earliest opening, with the holder's language and text
abbrev pub replay_sends : Open → Option ℕ → Documents → Option Telling
replay_sends o (Some v) s = None
replay_sends o None s = option_map_or (λ h. Some (Opens (open_text o.uri h.language h.text))) (holder o.uri s.opens) None

abbrev pub and_then : Step → (Documents → Step) → Step
and_then step f = record { outs = step.outs ++ (f step.after).outs; after = (f step.after).after }

abbrev pub replayed : Documents → Open → Step
replayed s o = send o.uri (replay_sends o (version_held o.uri s.helds) s) s

-- a step of each document, one behind the other
abbrev pub each : (Documents → Open → Step) → Step → Open → Step
each f step o = and_then step (λ s. f s o)

abbrev pub replay_all : Documents → Step
replay_all s = fold (each replayed) (nothing s) s.opens

abbrev pub ready_row : ℕ → Encoding → Documents → Step
ready_row start encoding s = replay_all (record s { start = Some start; encoding = Some encoding; sent = 0; helds = [] })

-- no start is ready
abbrev pub unready_row : Documents → Documents
unready_row s = record s { start = None; sent = 0; helds = [] }

-- Before a message of e goes on: of each document that is open at e, in the order of its opening, the server is told e's text, where it has another, or another language.
-- The message is a touch of all of them.
abbrev pub sync_sends : Open → Option ℕ → Documents → Option Telling
sync_sends o None s = None
sync_sends o (Some v) s = differing_own o v s

abbrev pub synced : ℕ → Documents → Open → Step
synced e s o = if nat_eq o.editor e then send o.uri (sync_sends o (version_held o.uri s.helds) s) s else nothing s

abbrev pub touch_all : ℕ → Step → Step
touch_all e step = record { outs = step.outs; after = record step.after { opens = map (touched_at e step.after.turn) step.after.opens; turn = step.after.turn + 1 } }

abbrev pub sync_row : ℕ → Documents → Step
sync_row e s = touch_all e (fold (each (synced e)) (nothing s) s.opens)

-- whether the server has a document, and in the language and with the text that an editor has
abbrev pub agreement_of : Open → Option Held → Documents → Agreement
agreement_of o None s = Differs
agreement_of o (Some h) s = if holds_own o s.opens then Agrees h.version h.sent else Differs

abbrev pub agreement : ℕ → List ℕ → Documents → Agreement
agreement e u s = option_map_or (λ o. agreement_of o (held_of o.uri s.helds) s) (find (is_open_at e u) s.opens) NotOpen

-- and of each document that the editor has open
abbrev pub is_agreed : Agreement → Bool
is_agreed (Agrees held changed) = true
is_agreed other = false

abbrev pub agrees_on_all : ℕ → Documents → Bool
agrees_on_all e s = list_all (λ u. is_agreed (agreement e u s)) (uris_of e s.opens)

-- e leaves: it closes each of its documents
abbrev pub close_next : ℕ → Step → List ℕ → Step
close_next e step u = and_then step (λ s. close_row e u s)

abbrev pub leave_row : ℕ → Documents → Step
leave_row e s = fold (close_next e) (nothing s) (uris_of e s.opens)
