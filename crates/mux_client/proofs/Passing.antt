-- Sessions that go on, a call at a time.
use Rattle.std.proofs.Common.{◌≡◌, ℕ, ◌≤◌, true, false, List, [], ◌++◌, take, drop, refl, sym, ap, ◌∙◌, arith, append_assoc, append-nil}
use Rattle.std.specs.Prelude.{Option, Some, None}
use Rattle.std.specs.Io.KnownBytes.{append_known, prepend_known}
use Rattle.std.proofs.lemmas.List.{take-append-drop}
use Rattle.outside_io.specs.Faults.{Rose}
use Rattle.outside_io.specs.Sessions.{Session}
use Rattle.mux_client.specs.Pieces.{Came, Went}
use Rattle.mux_client.specs.Sessions.{IsFront, Passes, ReadFailed, WriteFailed}

pub known_none : (t : Option (List ℕ)) → t ≡ append_known t []
known_none None = refl
known_none (Some xs) = ap Some (sym (append-nil xs))

pub known_more : (t : Option (List ℕ)) (a b : List ℕ) → append_known (append_known t a) b ≡ append_known t (a ++ b)
known_more None a b = refl
known_more (Some xs) a b = ap Some (append_assoc xs a b)

pub left_none : (t : Option (List ℕ)) → t ≡ prepend_known [] t
left_none None = refl
left_none (Some xs) = refl

pub left_more : (t : Option (List ℕ)) (a b : List ℕ) → prepend_known a (prepend_known b t) ≡ prepend_known (a ++ b) t
left_more None a b = refl
left_more (Some xs) a b = ap Some (sym (append_assoc a b xs))

pub rose_from : (before now last : ℕ) → before ≤ now → Rose now last → Rose before last
rose_from before now last h r = omega arith

pub rose_on : (before now last : ℕ) → Rose before now → now ≤ last → Rose before last
rose_on before now last r h = omega arith

pub no_later : (n : ℕ) → n ≤ n
no_later n = omega arith

-- nothing was read or written
pub passes_none : (s : Session) → Passes s s [] []
passes_none s = record { reads = known_none s.read; leaves = left_none s.left; writes = known_none s.written; source_later = no_later s.source_faults; sink_later = no_later s.sink_faults }

pub passes_then : (a b c : Session) (r w r' w' : List ℕ) → Passes a b r w → Passes b c r' w' → Passes a c (r ++ r') (w ++ w')
passes_then a b c r w r' w' p q = record {
  reads = q.reads ∙ (ap (λ t. append_known t r') p.reads ∙ known_more a.read r r');
  leaves = p.leaves ∙ (ap (λ t. prepend_known r t) q.leaves ∙ left_more c.left r r');
  writes = q.writes ∙ (ap (λ t. append_known t w') p.writes ∙ known_more a.written w w');
  source_later = (let x = p.source_later in let y = q.source_later in omega arith);
  sink_later = (let x = p.sink_later in let y = q.sink_later in omega arith);
}

-- a read
pub passes_read : (taken taken' left left' written : Option (List ℕ)) (f f' g : ℕ) (bytes : List ℕ) → left ≡ prepend_known bytes left' → taken' ≡ append_known taken bytes → f ≤ f'
    → Passes (record { read = taken; left = left; written = written; source_faults = f; sink_faults = g }) (record { read = taken'; left = left'; written = written; source_faults = f'; sink_faults = g }) bytes []
passes_read taken taken' left left' written f f' g bytes l t h = record { reads = t; leaves = l; writes = known_none written; source_later = h; sink_later = no_later g }

-- a write
pub passes_write : (taken left written written' : Option (List ℕ)) (f g g' : ℕ) (bytes : List ℕ) → written' ≡ append_known written bytes → g ≤ g'
    → Passes (record { read = taken; left = left; written = written; source_faults = f; sink_faults = g }) (record { read = taken; left = left; written = written'; source_faults = f; sink_faults = g' }) [] bytes
passes_write taken left written written' f g g' bytes w h = record { reads = known_none taken; leaves = left_none left; writes = w; source_later = no_later f; sink_later = h }

-- fronts
pub front_all : (xs : List ℕ) → IsFront xs xs
front_all xs = ([], sym (append-nil xs))

pub front_none : (xs : List ℕ) → IsFront [] xs
front_none xs = (xs, refl)

pub front_take : (n : ℕ) (xs : List ℕ) → IsFront (take n xs) xs
front_take n xs = (drop n xs, sym (take-append-drop n xs))

pub front_behind : (front part whole : List ℕ) → IsFront part whole → IsFront (front ++ part) (front ++ whole)
front_behind front part whole h = (h.0, ap (λ l. front ++ l) h.1 ∙ sym (append_assoc front part h.0))

pub front_longer : (part whole more : List ℕ) → IsFront part whole → IsFront part (whole ++ more)
front_longer part whole more h = (h.0 ++ more, ap (λ l. l ++ more) h.1 ∙ append_assoc part h.0 more)

-- failures, behind what went well
pub read_failed_late : (a b c : Session) (r w : List ℕ) → Passes a b r w → ReadFailed b c → ReadFailed a c
read_failed_late a b c r w p h = rose_from a.source_faults b.source_faults c.source_faults p.source_later h

pub write_failed_late : (a b c : Session) (r w : List ℕ) → Passes a b r w → WriteFailed b c → WriteFailed a c
write_failed_late a b c r w p h = rose_from a.sink_faults b.sink_faults c.sink_faults p.sink_later h

-- a read that gave nothing
pub came_none : (taken taken' left left' : Option (List ℕ)) → taken' ≡ taken → left' ≡ left → Came taken taken' left left' []
came_none taken taken' left left' t l = record { reads = t ∙ known_none taken; leaves = sym l ∙ left_none left' }

-- a write
pub went_whole : (w w' : Option (List ℕ)) (b n : ℕ) (bytes : List ℕ) → w' ≡ append_known w bytes → b ≤ n → Went w w' b n bytes true
went_whole w w' b n bytes e h = record { part = bytes; writes = e; front = front_all bytes; all = λ _. refl; failed = λ k. absurd cc; later = h }

pub went_part : (w w' : Option (List ℕ)) (b n k : ℕ) (bytes : List ℕ) → w' ≡ append_known w (take k bytes) → Rose b n → b ≤ n → Went w w' b n bytes false
went_part w w' b n k bytes e r h = record { part = take k bytes; writes = e; front = front_take k bytes; all = λ q. absurd cc; failed = λ _. r; later = h }
