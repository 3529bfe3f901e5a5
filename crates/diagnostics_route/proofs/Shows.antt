-- How lists are shown, by what is written.
use Rattle.std.proofs.Common.{◌≡◌, ℕ, ◌-◌, List, [], ◌++◌, length, drop, codes, refl, ◌∙◌, ap, append_assoc, length-drop, take_all, le_of_eq}
use Rattle.std.specs.Prelude.{Option, Some, None, bytes_eq, if◌then◌else◌}
use Rattle.std.specs.Str.{chars}
use Rattle.json_text.specs.declared.span.Span.{Span}
use Rattle.json_text.specs.Json.{Json, span_of}
use Rattle.json_text.specs.Replace.{replace}
use Rattle.json_nodes.specs.At.{Found}
use Rattle.json_nodes.specs.Doc.{Doc}
use Rattle.json_nodes.specs.Puts.{put_edits}
use Rattle.json_nodes.specs.Texts.{between}
use Rattle.capability_meet.specs.Shown.{without}
use Rattle.document_model.specs.Notices.{new_version}
use Rattle.diagnostics_route.specs.Shown.{plain_edits}

version_chars : chars (codes "version") ≡ codes "version"
unfolding chars
version_chars = refl

-- a text in the place of each version
pub version_edits : (text : List ℕ) (t : Json) → put_edits (λ cs. if bytes_eq (chars (codes "version")) cs then Some text else None) t ≡ put_edits (new_version text) t
version_edits text t = ap (λ z. put_edits (λ cs. if bytes_eq z cs then Some text else None) t) version_chars

-- all from one place on
to_end : (bytes : List ℕ) (from : ℕ) → between from (length bytes) bytes ≡ drop from bytes
to_end bytes from = take_all (length bytes - from) (drop from bytes) (le_of_eq (length-drop from bytes))

-- what stands before params, these without a version, and what stands behind them
pub cut : (bytes start one two three : List ℕ) (t : Json) (s : Span) → s ≡ span_of t → start ≡ [] → one ≡ start ++ between 0 s.from bytes → two ≡ one ++ without bytes (chars (codes "version")) None t
    → three ≡ two ++ between s.to (length bytes) bytes → three ≡ replace bytes (plain_edits bytes (Some t))
cut bytes start one two three t s place begun a b d =
    d ∙ (ap (λ z. z ++ between s.to (length bytes) bytes) (b ∙ ap (λ z. z ++ without bytes (chars (codes "version")) None t) (a ∙ ap (λ z. z ++ between 0 s.from bytes) begun))
    ∙ (append_assoc (between 0 s.from bytes) (without bytes (chars (codes "version")) None t) (between s.to (length bytes) bytes)
    ∙ (ap (λ name. between 0 s.from bytes ++ (without bytes name None t ++ between s.to (length bytes) bytes)) version_chars
    ∙ (ap (λ z. between 0 s.from bytes ++ (without bytes (codes "version") None t ++ z)) (to_end bytes s.to)
    ∙ ap (λ (z : Span). between 0 z.from bytes ++ (without bytes (codes "version") None t ++ drop z.to bytes)) place))))

-- where there are no params nothing is cut
pub none_cut : (doc : Doc) (o : Option Json) → Found doc o None → o ≡ None
none_cut doc None h = refl
none_cut doc (Some t) h = absurd h
