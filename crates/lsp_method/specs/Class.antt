-- The classes of methods, by sender and sort (LSP 3.17, the messages of these names; the requests `lspmux/..` are this project's own).
use Rattle.std.specs.Prelude.{ℕ, Bool, true, false, ◌||◌, List, codes, bytes_eq, Option, Some, None, is_some, unwrap_or, if◌then◌else◌}
use Rattle.lsp_method.specs.declared.variants.Class.{Class}
use Rattle.lsp_method.specs.declared.variants.Class.TheVariants.{Initialize, Shutdown, LspmuxOpen, LspmuxStatus, LspmuxStop, Wrong, Other, Initialized, Exit, DidOpen, DidChange, DidClose, Cancel, ProgressCancel, Configuration, Dropped, Register, Unregister, Create, Folders, Refresh, Focused, Lowest, Progress, Diagnostics, Broadcast}
use Rattle.lsp_method.specs.declared.variants.Origin.{Origin}
use Rattle.lsp_method.specs.declared.variants.Origin.TheVariants.{Editor, Server}

-- the requests of an editor that have a class of their own
unfoldable pub own_request : List ℕ → Option Class
own_request m =
    if bytes_eq m (codes "initialize") then Some Initialize else
    if bytes_eq m (codes "shutdown") then Some Shutdown else
    if bytes_eq m (codes "lspmux/open") then Some LspmuxOpen else
    if bytes_eq m (codes "lspmux/status") then Some LspmuxStatus else
    if bytes_eq m (codes "lspmux/stop") then Some LspmuxStop else
    None

-- the notifications of an editor that have a class of their own
unfoldable pub own_notification : List ℕ → Option Class
own_notification m =
    if bytes_eq m (codes "initialized") then Some Initialized else
    if bytes_eq m (codes "exit") then Some Exit else
    if bytes_eq m (codes "textDocument/didOpen") then Some DidOpen else
    if bytes_eq m (codes "textDocument/didChange") then Some DidChange else
    if bytes_eq m (codes "textDocument/didClose") then Some DidClose else
    if bytes_eq m (codes "$/cancelRequest") then Some Cancel else
    if bytes_eq m (codes "window/workDoneProgress/cancel") then Some ProgressCancel else
    if bytes_eq m (codes "workspace/didChangeConfiguration") then Some Configuration else
    None

-- the notifications that go nowhere when an editor sends them
unfoldable pub goes_nowhere : List ℕ → Bool
goes_nowhere m =
    bytes_eq m (codes "$/setTrace")
    || bytes_eq m (codes "$/progress")
    || bytes_eq m (codes "notebookDocument/didOpen")
    || bytes_eq m (codes "notebookDocument/didChange")
    || bytes_eq m (codes "notebookDocument/didSave")
    || bytes_eq m (codes "notebookDocument/didClose")
    || bytes_eq m (codes "workspace/didChangeWorkspaceFolders")

-- an editor's request: one under a notification's name is wrong
unfoldable pub editor_request : List ℕ → Class
editor_request m = unwrap_or (own_request m) (if is_some (own_notification m) || goes_nowhere m then Wrong else Other)

-- an editor's notification: one under the name of a request is dropped too
unfoldable pub editor_notification : List ℕ → Class
editor_notification m = unwrap_or (own_notification m) (if goes_nowhere m || is_some (own_request m) then Dropped else Other)

-- the server's requests for all editors to ask anew for what they show
unfoldable pub is_refresh : List ℕ → Bool
is_refresh m =
    bytes_eq m (codes "workspace/codeLens/refresh")
    || bytes_eq m (codes "workspace/semanticTokens/refresh")
    || bytes_eq m (codes "workspace/inlayHint/refresh")
    || bytes_eq m (codes "workspace/inlineValue/refresh")
    || bytes_eq m (codes "workspace/diagnostic/refresh")

-- the server's requests that one editor answers, the one in focus
unfoldable pub is_focused : List ℕ → Bool
is_focused m =
    bytes_eq m (codes "workspace/applyEdit")
    || bytes_eq m (codes "window/showMessageRequest")
    || bytes_eq m (codes "window/showDocument")

-- a server's request
unfoldable pub server_request : List ℕ → Class
server_request m =
    if bytes_eq m (codes "client/registerCapability") then Register else
    if bytes_eq m (codes "client/unregisterCapability") then Unregister else
    if bytes_eq m (codes "window/workDoneProgress/create") then Create else
    if bytes_eq m (codes "workspace/workspaceFolders") then Folders else
    if is_refresh m then Refresh else
    if is_focused m then Focused else
    Lowest

-- a server's notification
unfoldable pub server_notification : List ℕ → Class
server_notification m =
    if bytes_eq m (codes "$/progress") then Progress else
    if bytes_eq m (codes "$/cancelRequest") then Cancel else
    if bytes_eq m (codes "textDocument/publishDiagnostics") then Diagnostics else
    Broadcast

abbrev pub class_of : List ℕ → Origin → Bool → Class
class_of m Editor false = editor_request m
class_of m Editor true = editor_notification m
class_of m Server false = server_request m
class_of m Server true = server_notification m
