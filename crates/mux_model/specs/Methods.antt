-- The classes and names of methods that the rows of errors, and of notifications that go on, tell apart.
use Rattle.std.specs.Prelude.{ℕ, Bool, true, false, ◌||◌, List, codes, bytes_eq}
use Rattle.lsp_method.specs.declared.variants.Class.{Class}
use Rattle.lsp_method.specs.declared.variants.Class.TheVariants.{Wrong, Shutdown, Configuration, Other, Cancel, ProgressCancel}

abbrev pub is_wrong : Class → Bool
is_wrong Wrong = true
is_wrong _ = false

-- E16 and E17: a change of the configuration, and each notification without a row of its own (LSP 3.17, DidChangeConfiguration Notification)
abbrev pub goes_on : Class → Bool
goes_on Configuration = true
goes_on Other = true
goes_on _ = false

-- E11: a request, or the work of a token, is to be cancelled (LSP 3.17, Cancellation Support and Work Done Progress)
abbrev pub is_cancelling : Class → Bool
is_cancelling Cancel = true
is_cancelling ProgressCancel = true
is_cancelling _ = false

abbrev pub is_shutdown : Class → Bool
is_shutdown Shutdown = true
is_shutdown _ = false

-- the names of notifications that begin with `$/`: as requests they are answered with an error of their own (LSP 3.17, $ Notifications and Requests)
abbrev pub is_dollar : List ℕ → Bool
is_dollar method = bytes_eq method (codes "$/cancelRequest") || (bytes_eq method (codes "$/setTrace") || bytes_eq method (codes "$/progress"))
