-- What is read as a list of entries is one: stated once, for items and for members.
use Rattle.std.proofs.Common.{◌≡◌, ℕ, zero, suc, ◌+◌, true, false, List, [], ◌∷◌, length, ◌⊎◌, inl, inr, ◌==◌, if◌then◌else◌, refl, sym, ap, eqb-true}
use Rattle.json_text.specs.Json.{Rule, ◌then◌, byte, space, is_space}
use Rattle.json_text.specs.Read.{reads, Reader, ◌>>=◌, gives, skip, expect, read_more, read_first, read_list}
use Rattle.json_text.proofs.Front.{Front, Sound, bound, picked, gave, one_taken, none_taken, more_taken, joined, weaken, grouped, on_first, on_second, ends_at, expect_sound}

pub skip_sound : Sound skip (λ done. space)
unfolding skip
skip_sound at [] x to rest h = none_taken (λ done. space) at [] tt x to rest h tt
skip_sound at (b ∷ bs) x to rest h = pick (picked (is_space b) (skip (at + 1) bs) (reads tt at (b ∷ bs)) (reads x to rest) h) (λ k. skip_sound (at + 1) bs x to rest k)
  where
    pick : ((is_space b ≡ true) × (skip (at + 1) bs ≡ reads x to rest)) ⊎ ((is_space b ≡ false) × (reads tt at (b ∷ bs) ≡ reads x to rest))
        → (skip (at + 1) bs ≡ reads x to rest → Front space (at + 1) bs to rest) → Front space at (b ∷ bs) to rest
    pick (inl k) rec = more_taken at b bs to rest (rec k.1) (λ xs e. (k.0, e))
    pick (inr k) rec = none_taken (λ done. space) at (b ∷ bs) tt x to rest k.1 tt

-- what stands last is set apart
group_3 : (P Q R Z : Rule) (at : ℕ) (bs : List ℕ) → (P then (Q then (R then Z))) at bs → ((P then (Q then R)) then Z) at bs
group_3 P Q R Z at bs h = grouped P (Q then R) Z at bs (on_second P (Q then (R then Z)) ((Q then R) then Z) (grouped Q R Z) at bs h)

group_4 : (P Q R S Z : Rule) (at : ℕ) (bs : List ℕ) → (P then (Q then (R then (S then Z)))) at bs → ((P then (Q then (R then S))) then Z) at bs
group_4 P Q R S Z at bs h = grouped P (Q then (R then S)) Z at bs (on_second P (Q then (R then (S then Z))) ((Q then (R then S)) then Z) (group_3 Q R S Z) at bs h)

group_5 : (P Q R S T Z : Rule) (at : ℕ) (bs : List ℕ) → (P then (Q then (R then (S then (T then Z))))) at bs → ((P then (Q then (R then (S then T)))) then Z) at bs
group_5 P Q R S T Z at bs h = grouped P (Q then (R then (S then T))) Z at bs (on_second P (Q then (R then (S then (T then Z)))) ((Q then (R then (S then T))) then Z) (group_4 Q R S T Z) at bs h)

-- what a list's rules say: of an entry, of what follows it, and of the whole between the two brackets
pub record ListRules {A L : Type 0} (nil : L) (cons : A → L → L) (E : A → Rule) (M F : L → Rule) : Type 0 where
  pub nil_more : (i : ℕ) → M nil i []
  pub cons_more : (x : A) (l : L) (i : ℕ) (xs : List ℕ) → (byte 44 then (space then (E x then (space then M l)))) i xs → M (cons x l) i xs
  pub nil_first : (i : ℕ) (xs : List ℕ) → space i xs → F nil i xs
  pub cons_first : (x : A) (l : L) (i : ℕ) (xs : List ℕ) → (space then (E x then (space then M l))) i xs → F (cons x l) i xs

module _ {A L : Type 0} (close : ℕ) (entry : Reader A) (nil : L) (cons : A → L → L) (E : A → Rule) (M F : L → Rule) (rules : ListRules nil cons E M F) (entry_sound : Sound entry E) where
  abbrev Closed : L → Rule
  Closed l = M l then byte close

  cons_closed : (x : A) (l : L) (i : ℕ) (xs : List ℕ) → (byte 44 then (space then (E x then (space then Closed l)))) i xs → Closed (cons x l) i xs
  cons_closed x l i xs h = on_first (byte 44 then (space then (E x then (space then M l)))) (M (cons x l)) (byte close) (rules.cons_more x l) i xs (group_5 (byte 44) space (E x) space (M l) (byte close) i xs h)

  abbrev more_reading : ℕ → Reader L
  more_reading n at bs = expect 44 at bs >>= λ comma at bs. skip at bs >>= λ done at bs. entry at bs >>= λ x at bs. skip at bs >>= λ done at bs. read_more close entry nil cons n at bs >>= λ xs. gives (cons x xs)

  more_step : (n at : ℕ) (bs : List ℕ) (l : L) (to : ℕ) (rest : List ℕ) → Sound (read_more close entry nil cons n) Closed → more_reading n at bs ≡ reads l to rest → Front (Closed l) at bs to rest
  more_step n at bs l to rest rec h =
      let f = bound (expect 44 at bs) (λ comma at bs. skip at bs >>= λ done at bs. entry at bs >>= λ x at bs. skip at bs >>= λ done at bs. read_more close entry nil cons n at bs >>= λ xs. gives (cons x xs)) l to rest h in
      let g = bound (skip f.to f.rest) (λ done at bs. entry at bs >>= λ x at bs. skip at bs >>= λ done at bs. read_more close entry nil cons n at bs >>= λ xs. gives (cons x xs)) l to rest f.goes in
      let k = bound (entry g.to g.rest) (λ x at bs. skip at bs >>= λ done at bs. read_more close entry nil cons n at bs >>= λ xs. gives (cons x xs)) l to rest g.goes in
      let m = bound (skip k.to k.rest) (λ done at bs. read_more close entry nil cons n at bs >>= λ xs. gives (cons k.read xs)) l to rest k.goes in
      let r = bound (read_more close entry nil cons n m.to m.rest) (λ xs. gives (cons k.read xs)) l to rest m.goes in
      gave Closed at bs (cons k.read r.read) l r.to to r.rest rest r.goes
      (weaken (cons_closed k.read r.read)
      (joined at bs f.to f.rest r.to r.rest (expect_sound 44 at bs f.read f.to f.rest f.is)
      (joined f.to f.rest g.to g.rest r.to r.rest (skip_sound f.to f.rest g.read g.to g.rest g.is)
      (joined g.to g.rest k.to k.rest r.to r.rest (entry_sound g.to g.rest k.read k.to k.rest k.is)
      (joined k.to k.rest m.to m.rest r.to r.rest (skip_sound k.to k.rest m.read m.to m.rest m.is) (rec m.to m.rest r.read r.to r.rest r.is))))))

  more_sound : (n : ℕ) → Sound (read_more close entry nil cons n) Closed
  unfolding read_more
  more_sound zero at bs l to rest h = cc
  more_sound (suc n) at [] l to rest h = cc
  more_sound (suc n) at (b ∷ bs) l to rest h = pick (picked (b == close) (reads nil (at + 1) bs) (more_reading n at (b ∷ bs)) (reads l to rest) h) (more_sound n)
    where
      pick : ((b == close ≡ true) × (reads nil (at + 1) bs ≡ reads l to rest)) ⊎ ((b == close ≡ false) × (more_reading n at (b ∷ bs) ≡ reads l to rest)) → Sound (read_more close entry nil cons n) Closed → Front (Closed l) at (b ∷ bs) to rest
      pick (inl k) rec = one_taken Closed at b bs nil l to rest k.1 ([], b ∷ [], refl, rules.nil_more at, ap (λ i. i ∷ []) (eqb-true b close k.0))
      pick (inr k) rec = more_step n at (b ∷ bs) l to rest rec k.1

  -- the whole list between its brackets, from the whitespace behind the first
  abbrev Whole : L → Rule
  Whole l = F l then byte close

  cons_whole : (x : A) (l : L) (i : ℕ) (xs : List ℕ) → (space then (E x then (space then Closed l))) i xs → Whole (cons x l) i xs
  cons_whole x l i xs h = on_first (space then (E x then (space then M l))) (F (cons x l)) (byte close) (rules.cons_first x l) i xs (group_4 space (E x) space (M l) (byte close) i xs h)

  -- behind the first entry
  tail_step : (x : A) (at : ℕ) (bs : List ℕ) (l : L) (to : ℕ) (rest : List ℕ) → (skip at bs >>= λ done at bs. read_more close entry nil cons (length bs) at bs >>= λ xs. gives (cons x xs)) ≡ reads l to rest
      → (t : L) × (l ≡ cons x t) × Front (space then Closed t) at bs to rest
  tail_step x at bs l to rest h =
      let f = bound (skip at bs) (λ done at bs. read_more close entry nil cons (length bs) at bs >>= λ xs. gives (cons x xs)) l to rest h in
      let g = bound (read_more close entry nil cons (length f.rest) f.to f.rest) (λ xs. gives (cons x xs)) l to rest f.goes in
      let e = g.goes in
      let a : cons x g.read ≡ l = cc in
      let b : g.to ≡ to = cc in
      let c : g.rest ≡ rest = cc in
      (g.read, sym a, ends_at (space then Closed g.read) at bs g.to to g.rest rest b c (joined at bs f.to f.rest g.to g.rest (skip_sound at bs f.read f.to f.rest f.is) (more_sound (length f.rest) f.to f.rest g.read g.to g.rest g.is)))

  first_step : (start : ℕ) (cs : List ℕ) (at : ℕ) (bs : List ℕ) (l : L) (to : ℕ) (rest : List ℕ) → Front space start cs at bs
      → (entry at bs >>= λ x at bs. skip at bs >>= λ done at bs. read_more close entry nil cons (length bs) at bs >>= λ xs. gives (cons x xs)) ≡ reads l to rest → Front (Whole l) start cs to rest
  first_step start cs at bs l to rest gap h =
      let k = bound (entry at bs) (λ x at bs. skip at bs >>= λ done at bs. read_more close entry nil cons (length bs) at bs >>= λ xs. gives (cons x xs)) l to rest h in
      let t = tail_step k.read k.to k.rest l to rest k.goes in
      rw t.1 (weaken (cons_whole k.read t.0) (joined start cs at bs to rest gap (joined at bs k.to k.rest to rest (entry_sound at bs k.read k.to k.rest k.is) t.2)))

  first_sound : (start : ℕ) (cs : List ℕ) (at : ℕ) (bs : List ℕ) (l : L) (to : ℕ) (rest : List ℕ) → Front space start cs at bs → read_first close entry nil cons at bs ≡ reads l to rest → Front (Whole l) start cs to rest
  first_sound start cs at [] l to rest gap h = cc
  first_sound start cs at (b ∷ bs) l to rest gap h = elim (picked (b == close) (reads nil (at + 1) bs) (entry at (b ∷ bs) >>= λ x at bs. skip at bs >>= λ done at bs. read_more close entry nil cons (length bs) at bs >>= λ xs. gives (cons x xs)) (reads l to rest) h) [
    | inl k ↦ gave Whole start cs nil l (at + 1) to bs rest k.1 (weaken (on_first space (F nil) (byte close) rules.nil_first) (joined {Q = byte close} start cs at (b ∷ bs) (at + 1) bs gap (record { front = b ∷ []; whole = refl; is_to = refl; rule = ap (λ i. i ∷ []) (eqb-true b close k.0) })))
    | inr k ↦ first_step start cs at (b ∷ bs) l to rest gap k.1
  ]

  pub list_sound : (open_byte : ℕ) → Sound (read_list open_byte close entry nil cons) (λ l. byte open_byte then (F l then byte close))
  list_sound open_byte at bs l to rest h =
      let f = bound (expect open_byte at bs) (λ done at bs. skip at bs >>= λ done. read_first close entry nil cons) l to rest h in
      let g = bound (skip f.to f.rest) (λ done. read_first close entry nil cons) l to rest f.goes in
      joined at bs f.to f.rest to rest (expect_sound open_byte at bs f.read f.to f.rest f.is) (first_sound f.to f.rest g.to g.rest l to rest (skip_sound f.to f.rest g.read g.to g.rest g.is) g.goes)
