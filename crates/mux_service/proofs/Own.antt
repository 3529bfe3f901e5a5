-- The daemon's own link.
use Rattle.std.proofs.Common.{◌≡◌, ℕ, List, [], ◌∷◌, map, refl, ap, ◌∙◌}
use Rattle.std.specs.Prelude.{Option, Some}
use Rattle.outside_io.specs.MemoryLinks.{link_of}
use Rattle.outside_io.specs.Sessions.{Session}
use Rattle.outside_io.specs.declared.memory.sink.MemSink.{MemSink}
use Rattle.outside_io.specs.declared.memory.source.MemSource.{MemSource}

session_is : (read left written : Option (List ℕ)) (a b : ℕ) (bytes : List ℕ) → read ≡ Some [] → left ≡ Some bytes → written ≡ Some [] → a ≡ 0 → b ≡ 0
    → ◌≡◌ {A = Session} (record { read = read; left = left; written = written; source_faults = a; sink_faults = b }) (record { read = Some []; left = Some bytes; written = Some []; source_faults = 0; sink_faults = 0 })
session_is read left written a b bytes r l w x y = rw (r, l, w, x, y) refl

-- one link, by what its source and its sink tell
pub one_link : (links : List (MemSource × MemSink)) (source : MemSource) (sink : MemSink) (bytes : List ℕ) → links ≡ (source, sink) ∷ []
    → (link_of (source, sink)).read ≡ Some [] → (link_of (source, sink)).left ≡ Some bytes → (link_of (source, sink)).written ≡ Some []
    → (link_of (source, sink)).source_faults ≡ 0 → (link_of (source, sink)).sink_faults ≡ 0
    → map link_of links ≡ record { read = Some []; left = Some bytes; written = Some []; source_faults = 0; sink_faults = 0 } ∷ []
one_link links source sink bytes e r l w x y =
    ap (map link_of) e ∙ ap (λ (s : Session). s ∷ [])
    (session_is (link_of (source, sink)).read (link_of (source, sink)).left (link_of (source, sink)).written (link_of (source, sink)).source_faults (link_of (source, sink)).sink_faults bytes r l w x y)
