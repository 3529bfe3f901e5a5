-- One line, as the parts of a step have it.
use Rattle.std.proofs.Common.{◌≡◌, ℕ, List, [], ◌∷◌, ◌++◌, take, refl, ap, sym, ◌∙◌, OnErr}
use Rattle.std.specs.Prelude.{Option, Some, None, Result, Ok, Err}
use Rattle.std.specs.Io.KnownBytes.{append_known}
use Rattle.std.proofs.lemmas.List.{append-nil}
use Rattle.mux_history.specs.declared.cause.Cause.{Cause}
use Rattle.mux_history.specs.declared.entry.Entry.{Entry}
use Rattle.mux_history.specs.declared.out.Out.{Out}
use Rattle.event_model.specs.Settings.{Settings}
use Rattle.mux_hub.specs.Entries.{emits, entry_of}
use Rattle.mux_hub.specs.Hubs.{HubView, HubStands}
use Rattle.drive_text.specs.Outs.{out_lines}
use Rattle.drive_program.specs.Runs.{reading_bytes, after}
use Rattle.drive_program.specs.Steps.{LineTaken, LineLeft, stepped}

-- what holds in any case holds at an error
pub on_err : {T E P : Type 0} (r : Result T E) → P → OnErr r P
on_err (Ok x) p = tt
on_err (Err e) p = p

behind : {J : Type 0} (told : J → Option (List Entry)) (history : List Entry) (settings : Settings) (now : HubView J) (cause : Cause)
    → HubStands told now (history ++ entry_of settings history cause ∷ []) → HubStands told now (after settings history cause)
unfolding after
behind told history settings now cause s = s

pub taken_of : {J : Type 0} (told : J → Option (List Entry)) (content : ℕ) (history : List Entry) (line : List ℕ) (hub now : HubView J) (w v : Option (List ℕ)) (cause : Cause) (outs : List Out) (text : List ℕ)
    → reading_bytes content history line ≡ Ok cause → HubStands told now (history ++ entry_of hub.settings history cause ∷ []) → outs ≡ emits hub.settings history cause → text ≡ out_lines outs → v ≡ append_known w text
    → LineTaken told content history line hub now w v
taken_of told content history line hub now w v cause outs text r s o t e = record {
  cause = cause;
  reads = r;
  stands = behind told history hub.settings now cause s;
  wrote = e ∙ ap (append_known w) (t ∙ ap out_lines o);
}

pub cut_of : {J : Type 0} (told : J → Option (List Entry)) (content : ℕ) (history : List Entry) (line : List ℕ) (hub now : HubView J) (w v : Option (List ℕ)) (cause : Cause) (outs : List Out) (text : List ℕ) (count : ℕ)
    → reading_bytes content history line ≡ Ok cause → HubStands told now (history ++ entry_of hub.settings history cause ∷ []) → outs ≡ emits hub.settings history cause → text ≡ out_lines outs → v ≡ append_known w (take count text)
    → LineLeft told content history line hub now w v
cut_of told content history line hub now w v cause outs text count r s o t e =
    stepped cause count r (behind told history hub.settings now cause s) (e ∙ ap (λ l. append_known w (take count l)) (t ∙ ap out_lines o))

nothing_more : (w : Option (List ℕ)) (text : List ℕ) → w ≡ append_known w (take 0 text)
nothing_more None text = refl
nothing_more (Some bytes) text = ap (λ l. Some l) (sym (append-nil bytes))

pub unwritten_of : {J : Type 0} (told : J → Option (List Entry)) (content : ℕ) (history : List Entry) (line : List ℕ) (hub now : HubView J) (w : Option (List ℕ)) (cause : Cause)
    → reading_bytes content history line ≡ Ok cause → HubStands told now (history ++ entry_of hub.settings history cause ∷ []) → LineLeft told content history line hub now w w
unwritten_of told content history line hub now w cause r s =
    stepped cause 0 r (behind told history hub.settings now cause s) (nothing_more w (out_lines (emits hub.settings history cause)))
