-- The lines in a form are the lines of causes, and each cause has one.
use Rattle.std.proofs.Common.{◌≡◌, ⊎_elim, ℕ, suc, ◌+◌, ◌^◌, ◌<◌, true, false, nat_eq, nat_lt, List, [], ◌∷◌, ◌++◌, length, take, drop, get_or, codes, refl, sym, ap, subst, ◌∙◌, arith, option_map, position, add-one, drop-cons, length-append}
use Rattle.std.specs.Prelude.{Option, Some, None, bytes_eq, decimal}
use Rattle.std.specs.List.{position_or_len}
use Rattle.std.proofs.lemmas.Bool.{eqb-true, lt-ltb}
use Rattle.std.proofs.lemmas.List.{take-append-drop}
use Rattle.std.proofs.lemmas.List.Quantifiers.{position-Some}
use Rattle.std.proofs.lemmas.Slice.Eq.{bytes_eq-Decides}
use Rattle.mux_history.specs.declared.cause.Cause.{Cause}
use Rattle.mux_history.specs.declared.cause.Cause.TheVariants.{Joined, FromEditor, EditorGone, Started, StartFailed, FromServer, ServerGone, Drained, Tick}
use Rattle.mux_history.specs.declared.cause.Why.{Why}
use Rattle.mux_history.specs.declared.cause.Why.TheVariants.{End, ReadFault, WriteFault, BadFrame}
use Rattle.drive_text.specs.declared.word.Word.{Word}
use Rattle.drive_text.specs.declared.word.Word.TheVariants as word
use Rattle.drive_text.specs.Causes.{Cut, cut_at, cut_of, word_of, why_of, Numbered, numbered, with_number, cause_by, cause_of}
use Rattle.drive_text.specs.Marks.{body_of_text, text_of_body}
use Rattle.drive_text.specs.Numbers.{number_of}
use Rattle.drive_text.specs.Options.{then_option}
use Rattle.drive_text.specs.Spellings.{spelled_why, spelled, HasSmallNumbers}
use Rattle.drive_text.proofs.Decimals.{number_read, number_spelled, decimal_digits}
use Rattle.drive_text.proofs.Options.{then_some, map_some, test_some, none_some}
use Rattle.drive_text.proofs.Texts.{Lacks, digits_lack, body_read, body_spelled}

-- a cut at the first space

first_space : (front back : List ℕ) → Lacks 32 front → position_or_len (λ b. nat_eq b 32) (front ++ 32 ∷ back) ≡ length front
first_space [] back h = refl
first_space (b ∷ front) back h = let e = first_space front back h.1 in rw h.0 (omega (arith, e))

take_front : (front back : List ℕ) → take (length front) (front ++ back) ≡ front
take_front [] back = refl
take_front (b ∷ front) back = ap (λ l. b ∷ l) (take_front front back)

drop_front : (front back : List ℕ) (b : ℕ) → drop (suc (length front)) (front ++ b ∷ back) ≡ back
drop_front [] back b = refl
drop_front (c ∷ front) back b = drop_front front back b

abbrev parted : List ℕ → List ℕ → Cut
parted front back = record { front = front; back = back }

pub cut_read : (front back : List ℕ) → Lacks 32 front → cut_of (front ++ 32 ∷ back) ≡ Some (parted front back)
cut_read front back h =
    let at = first_space front back h in
    let long : length (front ++ 32 ∷ back) ≡ length front + suc (length back) = length-append front (32 ∷ back) in
    let inside : nat_lt (position_or_len (λ b. nat_eq b 32) (front ++ 32 ∷ back)) (length (front ++ 32 ∷ back)) ≡ true = lt-ltb _ _ (omega (arith, at, long)) in
    let place : position (λ b. nat_eq b 32) (front ++ 32 ∷ back) ≡ Some (length front) = rw inside (ap (λ i. Some i) at) in
    let behind : drop (length front + 1) (front ++ 32 ∷ back) ≡ back = rw add-one (drop_front front back 32) in
    ap (cut_at (front ++ 32 ∷ back)) place ∙ (ap (λ l. Some (parted l (drop (length front + 1) (front ++ 32 ∷ back)))) (take_front front (32 ∷ back)) ∙ ap (λ l. Some (parted front l)) behind)

next : (text : List ℕ) (i : ℕ) → i < length text → drop i text ≡ get_or text i 0 ∷ drop (i + 1) text
next text i h = rw add-one (drop-cons text i 0 h)

pub cut_spelled : (text : List ℕ) (cut : Cut) → cut_of text ≡ Some cut → text ≡ cut.front ++ 32 ∷ cut.back
cut_spelled text cut h = go (position (λ b. nat_eq b 32) text) refl h
  where
    go : (o : Option ℕ) → position (λ b. nat_eq b 32) text ≡ o → cut_at text o ≡ Some cut → text ≡ cut.front ++ 32 ∷ cut.back
    go None p h = absurd (none_some cut h)
    go (Some i) p h =
        let at = position-Some (λ b. nat_eq b 32) text i 0 p in
        let is : parted (take i text) (drop (i + 1) text) ≡ cut = cc in
        sym (take-append-drop i text) ∙ (ap (λ l. take i text ++ l) (next text i at.0) ∙ (ap (λ b. take i text ++ b ∷ drop (i + 1) text) (eqb-true (get_or text i 0) 32 at.1)
        ∙ ap (λ (c : Cut). c.front ++ 32 ∷ c.back) is))

-- a number and a space

abbrev counted : ℕ → List ℕ → Numbered
counted n back = record { number = n; back = back }

numbered_read : (n : ℕ) (back : List ℕ) → n < 2 ^ 64 → numbered (decimal n ++ 32 ∷ back) ≡ Some (counted n back)
numbered_read n back s =
    ap (λ o. then_option o (λ cut. option_map (λ n. counted n cut.back) (number_of cut.front))) (cut_read (decimal n) back (digits_lack 32 (decimal n) (omega arith) (decimal_digits n s)))
    ∙ ap (option_map (λ n. counted n back)) (number_read n s)

pub with_number_read : {A B : Type 0} (read : List ℕ → Option A) (make : ℕ → A → B) (n : ℕ) (back : List ℕ) (a : A) → n < 2 ^ 64 → read back ≡ Some a
    → with_number read make (decimal n ++ 32 ∷ back) ≡ Some (make n a)
with_number_read read make n back a s h = ap (λ o. then_option o (λ (cut : Numbered). option_map (make cut.number) (read cut.back))) (numbered_read n back s) ∙ ap (option_map (make n)) h

pub record IsNumbered {A B : Type 0} (read : List ℕ → Option A) (make : ℕ → A → B) (text : List ℕ) (b : B) : Type 0 where
  pub number : ℕ
  pub back : List ℕ
  pub behind : A
  pub bytes : text ≡ decimal number ++ 32 ∷ back
  pub small : number < 2 ^ 64
  pub reads : read back ≡ Some behind
  pub makes : make number behind ≡ b

pub with_number_spelled : {A B : Type 0} (read : List ℕ → Option A) (make : ℕ → A → B) (text : List ℕ) (b : B) → with_number read make text ≡ Some b → IsNumbered read make text b
with_number_spelled read make text b h =
    let t = then_some (λ (cut : Numbered). option_map (make cut.number) (read cut.back)) (numbered text) b h in
    let u = then_some (λ (cut : Cut). option_map (λ n. counted n cut.back) (number_of cut.front)) (cut_of text) t.0 t.1 in
    let n = map_some (λ n. counted n u.0.back) (number_of u.0.front) t.0 u.2 in
    let m = map_some (make t.0.number) (read t.0.back) b t.2 in
    let digits = number_spelled u.0.front n.0 n.1 in
    let number : n.0 ≡ t.0.number = ap (λ (x : Numbered). x.number) n.2 in
    let back : u.0.back ≡ t.0.back = ap (λ (x : Numbered). x.back) n.2 in
    record {
      number = t.0.number;
      back = t.0.back;
      behind = m.0;
      bytes = cut_spelled text u.0 u.1 ∙ (ap (λ l. l ++ 32 ∷ u.0.back) (digits.0 ∙ ap decimal number) ∙ ap (λ l. decimal t.0.number ++ 32 ∷ l) back);
      small = subst (λ k. k < 2 ^ 64) number digits.1;
      reads = m.1;
      makes = m.2;
    }

-- words

abbrev pub word_text : Word → List ℕ
word_text word.Join = codes "join"
word_text word.Ed = codes "ed"
word_text word.Gone = codes "gone"
word_text word.Up = codes "up"
word_text word.NoStart = codes "nostart"
word_text word.Sv = codes "sv"
word_text word.Exit = codes "exit"
word_text word.Drained = codes "drained"
word_text word.Tick = codes "tick"

word_lacks : (w : Word) → Lacks 32 (word_text w)
word_lacks word.Join = (refl, (refl, (refl, (refl, tt))))
word_lacks word.Ed = (refl, (refl, tt))
word_lacks word.Gone = (refl, (refl, (refl, (refl, tt))))
word_lacks word.Up = (refl, (refl, tt))
word_lacks word.NoStart = (refl, (refl, (refl, (refl, (refl, (refl, (refl, tt)))))))
word_lacks word.Sv = (refl, (refl, tt))
word_lacks word.Exit = (refl, (refl, (refl, (refl, tt))))
word_lacks word.Drained = (refl, (refl, (refl, (refl, (refl, (refl, (refl, tt)))))))
word_lacks word.Tick = (refl, (refl, (refl, (refl, tt))))

word_read : (w : Word) → word_of (word_text w) ≡ Some w
word_read word.Join = refl
word_read word.Ed = refl
word_read word.Gone = refl
word_read word.Up = refl
word_read word.NoStart = refl
word_read word.Sv = refl
word_read word.Exit = refl
word_read word.Drained = refl
word_read word.Tick = refl

-- what a test of a word's bytes found
pub found : {A : Type 0} (spell : A → List ℕ) (text : List ℕ) (x a : A) → (bytes_eq text (spell x) ≡ true) × (x ≡ a) → text ≡ spell a
found spell text x a t = (bytes_eq-Decides text (spell x)).0 t.0 ∙ ap spell t.1

word_spelled : (text : List ℕ) (w : Word) → word_of text ≡ Some w → text ≡ word_text w
word_spelled text w h =
    ⊎_elim (found word_text text word.Join w)
    (λ h. ⊎_elim (found word_text text word.Ed w)
    (λ h. ⊎_elim (found word_text text word.Gone w)
    (λ h. ⊎_elim (found word_text text word.Up w)
    (λ h. ⊎_elim (found word_text text word.NoStart w)
    (λ h. ⊎_elim (found word_text text word.Sv w)
    (λ h. ⊎_elim (found word_text text word.Exit w)
    (λ h. ⊎_elim (found word_text text word.Drained w)
    (λ h. ⊎_elim (found word_text text word.Tick w) (λ h. absurd (none_some w h))
    (test_some (bytes_eq text (codes "tick")) word.Tick None w h))
    (test_some (bytes_eq text (codes "drained")) word.Drained _ w h)) (test_some (bytes_eq text (codes "exit")) word.Exit _ w h)) (test_some (bytes_eq text (codes "sv")) word.Sv _ w h))
    (test_some (bytes_eq text (codes "nostart")) word.NoStart _ w h)) (test_some (bytes_eq text (codes "up")) word.Up _ w h)) (test_some (bytes_eq text (codes "gone")) word.Gone _ w h))
    (test_some (bytes_eq text (codes "ed")) word.Ed _ w h)) (test_some (bytes_eq text (codes "join")) word.Join _ w h)

why_read : (why : Why) → why_of (spelled_why why) ≡ Some why
why_read End = refl
why_read ReadFault = refl
why_read WriteFault = refl
why_read BadFrame = refl

why_spelled : (text : List ℕ) (why : Why) → why_of text ≡ Some why → text ≡ spelled_why why
why_spelled text why h =
    ⊎_elim (found spelled_why text End why)
    (λ h. ⊎_elim (found spelled_why text ReadFault why)
    (λ h. ⊎_elim (found spelled_why text WriteFault why)
    (λ h. ⊎_elim (found spelled_why text BadFrame why) (λ h. absurd (none_some why h)) (test_some (bytes_eq text (codes "frame")) BadFrame None why h))
    (test_some (bytes_eq text (codes "write")) WriteFault _ why h)) (test_some (bytes_eq text (codes "read")) ReadFault _ why h)) (test_some (bytes_eq text (codes "end")) End _ why h)

-- from a cause to its line and back

line_read : (w : Word) (back : List ℕ) (c : Cause) → cause_by w back ≡ Some c → cause_of (word_text w ++ 32 ∷ back) ≡ Some c
line_read w back c h =
    ap (λ o. then_option o (λ (cut : Cut). then_option (word_of cut.front) (λ w. cause_by w cut.back))) (cut_read (word_text w) back (word_lacks w))
    ∙ (ap (λ o. then_option o (λ w. cause_by w back)) (word_read w) ∙ h)

pub cause_read : (c : Cause) → HasSmallNumbers c → cause_of (spelled c) ≡ Some c
cause_read (Joined e) s = line_read word.Join (decimal e) (Joined e) (ap (option_map Joined) (number_read e s))
cause_read (FromEditor e body) s = line_read word.Ed (decimal e ++ 32 ∷ text_of_body body) (FromEditor e body) (with_number_read body_of_text FromEditor e (text_of_body body) body s (body_read body))
cause_read (EditorGone e why) s = line_read word.Gone (decimal e ++ 32 ∷ spelled_why why) (EditorGone e why) (with_number_read why_of EditorGone e (spelled_why why) why s (why_read why))
cause_read (Started n) s = line_read word.Up (decimal n) (Started n) (ap (option_map Started) (number_read n s))
cause_read (StartFailed n) s = line_read word.NoStart (decimal n) (StartFailed n) (ap (option_map StartFailed) (number_read n s))
cause_read (FromServer n body) s = line_read word.Sv (decimal n ++ 32 ∷ text_of_body body) (FromServer n body) (with_number_read body_of_text FromServer n (text_of_body body) body s (body_read body))
cause_read (ServerGone n) s = line_read word.Exit (decimal n) (ServerGone n) (ap (option_map ServerGone) (number_read n s))
cause_read (Drained e k) s = line_read word.Drained (decimal e ++ 32 ∷ decimal k) (Drained e k) (with_number_read number_of Drained e (decimal k) k s.0 (number_read k s.1))
cause_read (Tick t) s = line_read word.Tick (decimal t) (Tick t) (ap (option_map Tick) (number_read t s))

-- from a line to its cause and back

pub record IsSpelled (line : List ℕ) (c : Cause) : Type 0 where
  pub bytes : line ≡ spelled c
  pub small : HasSmallNumbers c

lone_spelled : (w : Word) (make : ℕ → Cause) (back : List ℕ) (c : Cause) → ((n : ℕ) → spelled (make n) ≡ word_text w ++ 32 ∷ decimal n) → ((n : ℕ) → n < 2 ^ 64 → HasSmallNumbers (make n))
    → option_map make (number_of back) ≡ Some c → IsSpelled (word_text w ++ 32 ∷ back) c
lone_spelled w make back c l k h =
    let m = map_some make (number_of back) c h in
    let n = number_spelled back m.0 m.1 in
    record { bytes = ap (λ t. word_text w ++ 32 ∷ t) n.0 ∙ (sym (l m.0) ∙ ap spelled m.2); small = subst HasSmallNumbers m.2 (k m.0 n.1) }

pair_spelled : {A : Type 0} (w : Word) (read : List ℕ → Option A) (make : ℕ → A → Cause) (spell : A → List ℕ) (back : List ℕ) (c : Cause)
    → ((n : ℕ) (a : A) → spelled (make n a) ≡ word_text w ++ 32 ∷ (decimal n ++ 32 ∷ spell a)) → ((text : List ℕ) (n : ℕ) (a : A) → n < 2 ^ 64 → read text ≡ Some a → (text ≡ spell a) × HasSmallNumbers (make n a))
    → with_number read make back ≡ Some c → IsSpelled (word_text w ++ 32 ∷ back) c
pair_spelled w read make spell back c l k h =
    let m = with_number_spelled read make back c h in
    let b = k m.back m.number m.behind m.small m.reads in
    record {
      bytes = ap (λ t. word_text w ++ 32 ∷ t) (m.bytes ∙ ap (λ t. decimal m.number ++ 32 ∷ t) b.0) ∙ (sym (l m.number m.behind) ∙ ap spelled m.makes);
      small = subst HasSmallNumbers m.makes b.1;
    }

back_spelled : (w : Word) (back : List ℕ) (c : Cause) → cause_by w back ≡ Some c → IsSpelled (word_text w ++ 32 ∷ back) c
back_spelled word.Join back c h = lone_spelled word.Join Joined back c (λ n. refl) (λ n s. s) h
back_spelled word.Ed back c h = pair_spelled word.Ed body_of_text FromEditor text_of_body back c (λ n b. refl) (λ text n b s r. (body_spelled text false b r, s)) h
back_spelled word.Gone back c h = pair_spelled word.Gone why_of EditorGone spelled_why back c (λ n b. refl) (λ text n b s r. (why_spelled text b r, s)) h
back_spelled word.Up back c h = lone_spelled word.Up Started back c (λ n. refl) (λ n s. s) h
back_spelled word.NoStart back c h = lone_spelled word.NoStart StartFailed back c (λ n. refl) (λ n s. s) h
back_spelled word.Sv back c h = pair_spelled word.Sv body_of_text FromServer text_of_body back c (λ n b. refl) (λ text n b s r. (body_spelled text false b r, s)) h
back_spelled word.Exit back c h = lone_spelled word.Exit ServerGone back c (λ n. refl) (λ n s. s) h
back_spelled word.Drained back c h =
    pair_spelled word.Drained number_of Drained decimal back c (λ n k. refl) (λ text n k s r. let d = number_spelled text k r in (d.0, (s, d.1))) h
back_spelled word.Tick back c h = lone_spelled word.Tick Tick back c (λ n. refl) (λ n s. s) h

pub cause_spelled : (line : List ℕ) (c : Cause) → cause_of line ≡ Some c → IsSpelled line c
cause_spelled line c h =
    let t = then_some (λ (cut : Cut). then_option (word_of cut.front) (λ w. cause_by w cut.back)) (cut_of line) c h in
    let w = then_some (λ w. cause_by w t.0.back) (word_of t.0.front) c t.2 in
    let b = back_spelled w.0 t.0.back c w.2 in
    record { bytes = cut_spelled line t.0 t.1 ∙ (ap (λ l. l ++ 32 ∷ t.0.back) (word_spelled t.0.front w.0 w.1) ∙ b.bytes); small = b.small }
