-- More bytes change no frame and no fault.
use Rattle.std.proofs.Common.{◌≡◌, refl, ap, ◌∙◌, sym, subst, ℕ, ◌+◌, ◌<◌, ◌≤◌, Bool, true, false, List, [], ◌∷◌, ◌++◌, length, take, drop, arith}
use Rattle.std.proofs.lemmas.List.{take-append-le, drop-append-le, length-append, length-drop}
use Rattle.std.specs.Prelude.{nat_le, if◌then◌else◌}
use Rattle.std.proofs.lemmas.Bool.{leb-true, le-leb}
use Rattle.base_frame.specs.declared.block.BadWhy.{BadWhy}
use Rattle.base_frame.specs.declared.block.State.{State}
use Rattle.base_frame.specs.declared.block.Move.{Move}
use Rattle.base_frame.specs.declared.block.Move.TheVariants.{Goes, Ends, Bad}
use Rattle.base_frame.specs.Block.{step, start}
use Rattle.base_frame.specs.Machine.{Front, whole, fault, short, content, after, front_from, front_of, NotWhole, Cuts}

-- the front of more bytes, where these stood at the front
abbrev pub Grows : List ℕ → Front → Front → Type 0
Grows extra (whole c more) g = g ≡ whole c (more ++ extra)
Grows extra (fault at why) g = g ≡ fault at why
Grows extra short g = Unit {0}

content_tested : (n : ℕ) (bs extra : List ℕ) (t : Bool) → nat_le n (length bs) ≡ t
    → Grows extra (if t then whole (take n bs) (drop n bs) else short) (content n (bs ++ extra))
content_tested n bs extra false e = tt
content_tested n bs extra true e =
    let fits : n ≤ length bs = leb-true n (length bs) e in
    let longer : n ≤ length (bs ++ extra) = subst (λ m. n ≤ m) (sym (length-append bs extra)) (omega arith) in
    ap (λ t. if t then whole (take n (bs ++ extra)) (drop n (bs ++ extra)) else short) (le-leb n (length (bs ++ extra)) longer)
    ∙ (ap (λ c. whole c (drop n (bs ++ extra))) (take-append-le n bs extra fits) ∙ ap (λ m. whole (take n bs) m) (drop-append-le n bs extra fits))

content_grows : (n : ℕ) (bs extra : List ℕ) → Grows extra (content n bs) (content n (bs ++ extra))
content_grows n bs extra = content_tested n bs extra (nat_le n (length bs)) refl

after_grows : (at : ℕ) (m : Move) (bs extra : List ℕ) (k l : State → Front) → ((s : State) → Grows extra (k s) (l s)) → Grows extra (after at m bs k) (after at m (bs ++ extra) l)
after_grows at (Goes s) bs extra k l h = h s
after_grows at (Ends n) bs extra k l h = content_grows n bs extra
after_grows at (Bad why) bs extra k l h = refl

pub front_grows : (limit at : ℕ) (s : State) (bs extra : List ℕ) → Grows extra (front_from limit at s bs) (front_from limit at s (bs ++ extra))
unfolding front_from
front_grows limit at s [] extra = tt
front_grows limit at s (b ∷ bs) extra = after_grows at (step limit at b s) bs extra (λ t. front_from limit (at + 1) t bs) (λ t. front_from limit (at + 1) t (bs ++ extra)) (λ t. front_grows limit (at + 1) t bs extra)

pub whole_grows : (limit : ℕ) (bs extra c more : List ℕ) → front_of limit bs ≡ whole c more → front_of limit (bs ++ extra) ≡ whole c (more ++ extra)
whole_grows limit bs extra c more h = subst (λ f. Grows extra f (front_of limit (bs ++ extra))) h (front_grows limit 0 start bs extra)

pub fault_grows : (limit : ℕ) (bs extra : List ℕ) (at : ℕ) (why : BadWhy) → front_of limit bs ≡ fault at why → front_of limit (bs ++ extra) ≡ fault at why
fault_grows limit bs extra at why h = subst (λ f. Grows extra f (front_of limit (bs ++ extra))) h (front_grows limit 0 start bs extra)

-- a frame has bytes of its own

abbrev pub Leaves : ℕ → Front → Type 0
Leaves n (whole c more) = length more ≤ n
Leaves n (fault at why) = Unit {0}
Leaves n short = Unit {0}

content_leaves : (n : ℕ) (bs : List ℕ) (t : Bool) → Leaves (length bs) (if t then whole (take n bs) (drop n bs) else short)
content_leaves n bs false = tt
content_leaves n bs true = subst (λ m. m ≤ length bs) (sym (length-drop n bs)) (omega arith)

after_leaves : (at : ℕ) (m : Move) (bs : List ℕ) (k : State → Front) → ((s : State) → Leaves (length bs) (k s)) → Leaves (length bs) (after at m bs k)
after_leaves at (Goes s) bs k h = h s
after_leaves at (Ends n) bs k h = content_leaves n bs (nat_le n (length bs))
after_leaves at (Bad why) bs k h = tt

weaker : (m n : ℕ) (f : Front) → m ≤ n → Leaves m f → Leaves n f
weaker m n (whole c more) e h = omega arith
weaker m n (fault at why) e h = tt
weaker m n short e h = tt

front_leaves : (limit at : ℕ) (s : State) (bs : List ℕ) → Leaves (length bs) (front_from limit at s bs)
unfolding front_from
front_leaves limit at s [] = tt
front_leaves limit at s (b ∷ bs) = weaker (length bs) (length (b ∷ bs)) (after at (step limit at b s) bs (λ t. front_from limit (at + 1) t bs)) (omega arith)
    (after_leaves at (step limit at b s) bs (λ t. front_from limit (at + 1) t bs) (λ t. front_leaves limit (at + 1) t bs))

abbrev Fewer : List ℕ → Front → Type 0
Fewer [] f = NotWhole f
Fewer (b ∷ bs) f = Leaves (length bs) f

front_fewer : (limit at : ℕ) (s : State) (bs : List ℕ) → Fewer bs (front_from limit at s bs)
unfolding front_from
front_fewer limit at s [] = tt
front_fewer limit at s (b ∷ bs) = after_leaves at (step limit at b s) bs (λ t. front_from limit (at + 1) t bs) (λ t. front_leaves limit (at + 1) t bs)

fewer_left : (bs c more : List ℕ) → Fewer bs (whole c more) → length more < length bs
fewer_left [] c more h = absurd h
fewer_left (b ∷ bs) c more h = omega arith

pub whole_fewer : (limit : ℕ) (bs c more : List ℕ) → front_of limit bs ≡ whole c more → length more < length bs
whole_fewer limit bs c more h = fewer_left bs c more (subst (λ f. Fewer bs f) h (front_fewer limit 0 start bs))

-- frames behind frames

pub cuts_grow : (limit : ℕ) (stream : List ℕ) (cs : List (List ℕ)) (rest extra : List ℕ) → Cuts limit stream cs rest → Cuts limit (stream ++ extra) cs (rest ++ extra)
cuts_grow limit stream [] rest extra h = ap (λ b. b ++ extra) h
cuts_grow limit stream (c ∷ cs) rest extra h = (h.0 ++ extra, whole_grows limit stream extra c h.0 h.1, cuts_grow limit h.0 cs rest extra h.2)

pub cuts_then : (limit : ℕ) (stream : List ℕ) (cs : List (List ℕ)) (rest : List ℕ) (ds : List (List ℕ)) (more : List ℕ) → Cuts limit stream cs rest → Cuts limit rest ds more → Cuts limit stream (cs ++ ds) more
cuts_then limit stream [] rest ds more h k = subst (λ b. Cuts limit b ds more) (sym h) k
cuts_then limit stream (c ∷ cs) rest ds more h k = (h.0, h.1, cuts_then limit h.0 cs rest ds more h.2 k)

pub cuts_one : (limit : ℕ) (stream : List ℕ) (cs : List (List ℕ)) (rest c more : List ℕ) → Cuts limit stream cs rest → front_of limit rest ≡ whole c more → Cuts limit stream (cs ++ c ∷ []) more
cuts_one limit stream cs rest c more h k = cuts_then limit stream cs rest (c ∷ []) more h (more, k, refl)

pub cuts_pushed : (limit : ℕ) (stream : List ℕ) (cs new : List (List ℕ)) (rest c more value : List ℕ) → Cuts limit stream cs rest → whole c more ≡ front_of limit rest
    → new ≡ cs ++ value ∷ [] → value ≡ c → Cuts limit stream new more
cuts_pushed limit stream cs new rest c more value h k p q =
    subst (λ xs. Cuts limit stream xs more) (sym (p ∙ ap (λ b. cs ++ b ∷ []) q)) (cuts_one limit stream cs rest c more h (sym k))
