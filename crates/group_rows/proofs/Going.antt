-- A notification that goes on: what it isn't, by its class.
use Rattle.std.proofs.Common.{◌≡◌, ℕ, Bool, true, false, List, codes, bytes_eq, refl, sym, ◌∙◌, subst}
use Rattle.std.specs.Prelude.{Option}
use Rattle.std.proofs.lemmas.Slice.Eq.{bytes_eq-Decides}
use Rattle.json_text.specs.Json.{Json}
use Rattle.lsp_method.specs.Class.{class_of, editor_notification, own_notification}
use Rattle.lsp_method.specs.declared.variants.Origin.TheVariants.{Editor}
use Rattle.rpc_message.specs.Message.{notification}
use Rattle.response_route.specs.document_model.specs.Sayings.{saying_by}
use Rattle.response_route.specs.document_model.specs.Sayings as saying
use Rattle.event_model.proofs.Frames.{never}
use Rattle.registrations.specs.mux_model.specs.Methods.{goes_on}
use Rattle.group_rows.specs.Texts.{is_synced}

abbrev pub Going : List ℕ → Type 0
Going method = goes_on (class_of method Editor true) ≡ true

-- it has no name that doesn't go on
apart : (name method : List ℕ) → goes_on (class_of name Editor true) ≡ false → Going method → bytes_eq method name ≡ false
apart name method off going = go (bytes_eq method name) refl
  where
    go : (b : Bool) → bytes_eq method name ≡ b → b ≡ false
    go true same = never (sym (subst Going ((bytes_eq-Decides method name).0 same) going) ∙ off)
    go false other = refl

named : (name method : List ℕ) → goes_on (class_of name Editor true) ≡ false → Going method → bytes_eq name method ≡ false
named name method off going = go (bytes_eq name method) refl
  where
    go : (b : Bool) → bytes_eq name method ≡ b → b ≡ false
    go true same = never (sym (subst Going (sym ((bytes_eq-Decides name method).0 same)) going) ∙ off)
    go false other = refl

module _ (method : List ℕ) (going : Going method) where
  pub not_cancel : bytes_eq method (codes "$/cancelRequest") ≡ false
  unfolding editor_notification own_notification
  not_cancel = apart (codes "$/cancelRequest") method refl going

  not_work : bytes_eq method (codes "window/workDoneProgress/cancel") ≡ false
  unfolding editor_notification own_notification
  not_work = apart (codes "window/workDoneProgress/cancel") method refl going

  pub not_initialized : bytes_eq method (codes "initialized") ≡ false
  unfolding editor_notification own_notification
  not_initialized = apart (codes "initialized") method refl going

  not_exit : bytes_eq method (codes "exit") ≡ false
  unfolding editor_notification own_notification
  not_exit = apart (codes "exit") method refl going

  pub no_exit : bytes_eq (codes "exit") method ≡ false
  unfolding editor_notification own_notification
  no_exit = named (codes "exit") method refl going

  pub no_initialized : bytes_eq (codes "initialized") method ≡ false
  unfolding editor_notification own_notification
  no_initialized = named (codes "initialized") method refl going

  pub no_cancel : bytes_eq (codes "$/cancelRequest") method ≡ false
  unfolding editor_notification own_notification
  no_cancel = named (codes "$/cancelRequest") method refl going

  no_open : bytes_eq (codes "textDocument/didOpen") method ≡ false
  unfolding editor_notification own_notification
  no_open = named (codes "textDocument/didOpen") method refl going

  no_change : bytes_eq (codes "textDocument/didChange") method ≡ false
  unfolding editor_notification own_notification
  no_change = named (codes "textDocument/didChange") method refl going

  no_close : bytes_eq (codes "textDocument/didClose") method ≡ false
  unfolding editor_notification own_notification
  no_close = named (codes "textDocument/didClose") method refl going

  -- it speaks of no document, and its sync touches what its editor has open
  module _ (params : Option Json) where
    pub going_silent : saying_by method params ≡ saying.nothing
    going_silent = rw (no_open, no_change, no_close) refl

    pub going_synced : is_synced (notification method params) ≡ true
    going_synced = rw (going_silent, not_cancel, not_work, not_initialized, not_exit) refl
