-- No documents, where nothing was heard.
use Rattle.std.proofs.Common.{◌≡◌, ◌<◌, ◌^◌, [], refl, sym, ap, ◌∙◌}
use Rattle.std.specs.Prelude.{Option, Some, None, slice_get}
use Rattle.event_model.specs.Settings.{Settings}
use Rattle.mux_tables.specs.declared.tables.Start.{Start}
use Rattle.mux_tables.specs.declared.tables.Tables.{Tables}
use Rattle.mux_tables.specs.Documents.{DocumentsStand, nothing_owed}

none_some : {A : Type 0} {x : A} → ◌≡◌ {A = Option A} None (Some x) → ⊥
none_some e = cc

pub documents_begin : (settings : Settings) (t : Tables) → t.lasts.items ≡ [] → t.documents.items ≡ [] → settings.limits.versions ≡ t.versions → t.versions < 2 ^ 32 → DocumentsStand settings nothing_owed t []
documents_begin settings t ls ds vs range = record {
  count = rw (ls, ds) refl;
  each = λ g x d at has. let none : ◌≡◌ {A = Option Start} None (Some x) = sym (ap (λ xs. slice_get xs g) ls) ∙ at in absurd (none_some none);
  none = λ g l. (refl, refl);
  fresh = λ s l. record { none = λ u. refl; unsaid = refl };
  notes = λ g x at. let none : ◌≡◌ {A = Option Start} None (Some x) = sym (ap (λ xs. slice_get xs g) ls) ∙ at in absurd (none_some none);
  versions = vs;
  range = range;
}
