-- Which editors a last list fits, and how it is shown to them: by the document's text at the editor and at the start, and by the editor's own version (LSP 3.17, PublishDiagnosticsParams).
use Rattle.std.specs.Prelude.{ℕ, Bool, true, false, ◌&&◌, List, [], ◌∷◌, codes, bytes_eq, decimal, nat_le}
use Rattle.std.specs.Prelude.{Option, Some, None}
use Rattle.json_text.specs.Json.{Json, span_of}
use Rattle.json_text.specs.Replace.{Edit, replace}
use Rattle.capability_meet.specs.Shown.{without}
use Rattle.document_model.specs.Notices.{edits_in}
use Rattle.document_model.specs.declared.agreement.Agreement.{Agreement}
use Rattle.document_model.specs.declared.agreement.Agreement.TheVariants.{NotOpen, Differs, Agrees}
use Rattle.mux_members.specs.Members.{params_of}
use Rattle.diagnostics_route.specs.declared.last_list.LastList.{LastList}
use Rattle.diagnostics_route.specs.declared.last_list.Version.{Version}
use Rattle.diagnostics_route.specs.declared.last_list.Version.TheVariants.{Absent, Null, Integer, Other}
use Rattle.diagnostics_route.specs.Published.{version_in}

-- a version is absent, null or the held one
abbrev pub allows : ℕ → Version → Bool
allows held Absent = true
allows held Null = true
allows held (Integer digits) = bytes_eq digits (decimal held)
allows held Other = false

-- S15: the document isn't open at the editor; or the start holds the editor's text, no notification on this document was sent since the list came, and the list is of no version or of the held one
abbrev pub fits : LastList → Agreement → Bool
fits l NotOpen = true
fits l Differs = false
fits l (Agrees held changed) = nat_le changed l.place && allows held l.version

-- params without each `version`, and all else as it came
abbrev pub plain_edits : List ℕ → Option Json → List Edit
plain_edits body None = []
plain_edits body (Some params) = record { span = span_of params; text = without body (codes "version") None params } ∷ []

-- S15: an integer gives way to the editor's own version, each `version` of params, where the document is open there; where it isn't, there is none
abbrev pub edits_by : Option (List ℕ) → Version → List ℕ → Option Json → List Edit
edits_by (Some own) (Integer digits) body params = edits_in own params
edits_by (Some own) Absent body params = []
edits_by (Some own) Null body params = []
edits_by (Some own) Other body params = []
edits_by None Absent body params = []
edits_by None Null body params = plain_edits body params
edits_by None (Integer digits) body params = plain_edits body params
edits_by None Other body params = plain_edits body params

abbrev pub shown_edits : Option (List ℕ) → List ℕ → Option Json → List Edit
shown_edits own body params = edits_by own (version_in params) body params

-- a list as it is shown to an editor, by its own version of the document, where it is open there
abbrev pub shown_text : Option (List ℕ) → List ℕ → List ℕ
shown_text own body = replace body (shown_edits own body (params_of body))
