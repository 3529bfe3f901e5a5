-- A stream splits in one way alone.
use Rattle.std.proofs.Common.{◌≡◌, refl, ap, ◌∙◌, sym, subst, ℕ, List, [], ◌∷◌}
use Rattle.base_frame.specs.Machine.{Front, whole, fault, short}
use Rattle.base_frame.specs.Grammar.{IsFrame}
use Rattle.base_frame.specs.Frames.{Splits, HasNoFrame}
use Rattle.base_frame.specs.declared.block.BadWhy.{BadWhy}
use Rattle.base_frame.specs.Laws.{OneSplit, FramesStay, FaultsStay, OneFault}
use Rattle.base_frame.proofs.Ties.{frame_taken, fault_found}
use Rattle.base_frame.proofs.Readers.{splits_grow, fault_stays, fault_no_frame}

content_in : Front → List ℕ
content_in (whole c more) = c
content_in (fault at why) = []
content_in short = []

bytes_behind : Front → List ℕ
bytes_behind (whole c more) = more
bytes_behind (fault at why) = []
bytes_behind short = []

same_content : (c d more left : List ℕ) → whole c more ≡ whole d left → c ≡ d
unfolding content_in
same_content c d more left e = ap content_in e

same_behind : (c d more left : List ℕ) → whole c more ≡ whole d left → more ≡ left
unfolding bytes_behind
same_behind c d more left e = ap bytes_behind e

not_both : (limit : ℕ) (stream rest c more : List ℕ) → stream ≡ rest → HasNoFrame limit rest → IsFrame limit stream c more → ⊥
not_both limit stream rest c more e n h = n c more (subst (λ x. IsFrame limit x c more) e h)

cons_same : (c d : List ℕ) (cs ds : List (List ℕ)) → c ≡ d → cs ≡ ds → (c ∷ cs) ≡ (d ∷ ds)
cons_same c d cs ds e h = cc

splits_same : (limit : ℕ) (stream : List ℕ) (cs ds : List (List ℕ)) (rest more : List ℕ) → Splits limit stream cs rest → HasNoFrame limit rest
    → Splits limit stream ds more → HasNoFrame limit more → (cs ≡ ds) × (rest ≡ more)
splits_same limit stream [] [] rest more h n k m = (refl, sym h ∙ k)
splits_same limit stream [] (d ∷ ds) rest more h n k m = absurd (not_both limit stream rest d k.0 h n k.1)
splits_same limit stream (c ∷ cs) [] rest more h n k m = absurd (not_both limit stream more c h.0 k m h.1)
splits_same limit stream (c ∷ cs) (d ∷ ds) rest more h n k m =
    let both : whole c h.0 ≡ whole d k.0 = sym (frame_taken limit stream c h.0 h.1) ∙ frame_taken limit stream d k.0 k.1 in
    let front : Splits limit h.0 ds more = subst (λ b. Splits limit b ds more) (sym (same_behind c d h.0 k.0 both)) k.2 in
    let r : (cs ≡ ds) × (rest ≡ more) = splits_same limit h.0 cs ds rest more h.2 n front m in
    (cons_same c d cs ds (same_content c d h.0 k.0 both) r.0, r.1)

pub one_split : OneSplit
one_split = splits_same

pub frames_stay : FramesStay
frames_stay limit stream extra cs rest h = splits_grow limit stream cs rest extra h

pub faults_stay : FaultsStay
faults_stay limit bytes extra at why h = fault_stays limit bytes extra at why h

same_place : (at p : ℕ) (why w : BadWhy) → fault at why ≡ fault p w → (at ≡ p) × (why ≡ w)
same_place at p why w h = (cc, cc)

pub one_fault : OneFault
one_fault limit bytes at why place cause h k =
    let same = same_place at place why cause (sym (fault_found limit bytes at why h) ∙ fault_found limit bytes place cause k) in
    (fault_no_frame limit bytes at why h, same.0, same.1)
