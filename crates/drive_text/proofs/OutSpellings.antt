-- The lines that are read as outs are the lines of outs, and each out has one.
use Rattle.std.proofs.Common.{◌≡◌, ⊎_elim, ℕ, ◌^◌, ◌<◌, false, List, [], ◌∷◌, ◌++◌, codes, refl, sym, ap, subst, ◌∙◌, append_assoc, append-nil, option_map}
use Rattle.std.specs.Prelude.{Option, Some, None, bytes_eq, decimal}
use Rattle.mux_history.specs.declared.out.Out.{Out}
use Rattle.mux_history.specs.declared.out.Out.TheVariants.{ToEditor, ToServer, Spawn, CloseEditor, EndServer}
use Rattle.drive_text.specs.declared.word.OutWord.{OutWord}
use Rattle.drive_text.specs.declared.word.OutWord.TheVariants as out_word
use Rattle.drive_text.specs.Causes.{Cut, cut_of, with_number}
use Rattle.drive_text.specs.Marks.{body_of_text, text_of_body}
use Rattle.drive_text.specs.Numbers.{number_of}
use Rattle.drive_text.specs.Options.{then_option}
use Rattle.drive_text.specs.OutForms.{out_word_of, out_by, out_of}
use Rattle.drive_text.specs.Outs.{head_of, spelled_out, HasSmallOutNumbers}
use Rattle.drive_text.proofs.Decimals.{number_read, number_spelled}
use Rattle.drive_text.proofs.Options.{then_some, map_some, test_some, none_some}
use Rattle.drive_text.proofs.Spellings.{cut_read, cut_spelled, found, with_number_read, with_number_spelled}
use Rattle.drive_text.proofs.Texts.{Lacks, body_read, body_spelled}

-- words

abbrev word_text : OutWord → List ℕ
word_text out_word.Ed = codes ">ed"
word_text out_word.Sv = codes ">sv"
word_text out_word.Spawn = codes ">spawn"
word_text out_word.Close = codes ">close"
word_text out_word.End = codes ">end"

word_lacks : (w : OutWord) → Lacks 32 (word_text w)
word_lacks out_word.Ed = (refl, (refl, (refl, tt)))
word_lacks out_word.Sv = (refl, (refl, (refl, tt)))
word_lacks out_word.Spawn = (refl, (refl, (refl, (refl, (refl, (refl, tt))))))
word_lacks out_word.Close = (refl, (refl, (refl, (refl, (refl, (refl, tt))))))
word_lacks out_word.End = (refl, (refl, (refl, (refl, tt))))

word_read : (w : OutWord) → out_word_of (word_text w) ≡ Some w
word_read out_word.Ed = refl
word_read out_word.Sv = refl
word_read out_word.Spawn = refl
word_read out_word.Close = refl
word_read out_word.End = refl

word_spelled : (text : List ℕ) (w : OutWord) → out_word_of text ≡ Some w → text ≡ word_text w
word_spelled text w h =
    ⊎_elim (found word_text text out_word.Ed w)
    (λ h. ⊎_elim (found word_text text out_word.Sv w)
    (λ h. ⊎_elim (found word_text text out_word.Spawn w)
    (λ h. ⊎_elim (found word_text text out_word.Close w)
    (λ h. ⊎_elim (found word_text text out_word.End w) (λ h. absurd (none_some w h))
    (test_some (bytes_eq text (codes ">end")) out_word.End None w h))
    (test_some (bytes_eq text (codes ">close")) out_word.Close _ w h)) (test_some (bytes_eq text (codes ">spawn")) out_word.Spawn _ w h))
    (test_some (bytes_eq text (codes ">sv")) out_word.Sv _ w h)) (test_some (bytes_eq text (codes ">ed")) out_word.Ed _ w h)

-- from an out to its line and back

line_read : (w : OutWord) (back : List ℕ) (o : Out) → out_by w back ≡ Some o → out_of (word_text w ++ 32 ∷ back) ≡ Some o
line_read w back o h =
    ap (λ c. then_option c (λ (cut : Cut). then_option (out_word_of cut.front) (λ w. out_by w cut.back))) (cut_read (word_text w) back (word_lacks w))
    ∙ (ap (λ c. then_option c (λ w. out_by w back)) (word_read w) ∙ h)

regroup : (word number text : List ℕ) → ((word ++ number) ++ 32 ∷ []) ++ text ≡ word ++ (number ++ 32 ∷ text)
regroup word number text = simp append_assoc

-- a line's parts, put together
abbrev Parts : Out → List ℕ → Type 0
Parts o line = spelled_out o ≡ line

to_editor_parts : (e : ℕ) (body : List ℕ) → Parts (ToEditor e body) (codes ">ed" ++ 32 ∷ (decimal e ++ 32 ∷ text_of_body body))
to_editor_parts e body = regroup (codes ">ed ") (decimal e) (text_of_body body)

to_server_parts : (n : ℕ) (body : List ℕ) → Parts (ToServer n body) (codes ">sv" ++ 32 ∷ (decimal n ++ 32 ∷ text_of_body body))
to_server_parts n body = regroup (codes ">sv ") (decimal n) (text_of_body body)

spawn_parts : (n g : ℕ) → Parts (Spawn n g) (codes ">spawn" ++ 32 ∷ (decimal n ++ 32 ∷ decimal g))
spawn_parts n g = append-nil (head_of (Spawn n g))

close_parts : (e : ℕ) → Parts (CloseEditor e) (codes ">close" ++ 32 ∷ decimal e)
close_parts e = append-nil (head_of (CloseEditor e))

end_parts : (n : ℕ) → Parts (EndServer n) (codes ">end" ++ 32 ∷ decimal n)
end_parts n = append-nil (head_of (EndServer n))

pub out_read : (o : Out) → HasSmallOutNumbers o → out_of (spelled_out o) ≡ Some o
out_read (ToEditor e body) s = ap out_of (to_editor_parts e body)
    ∙ line_read out_word.Ed (decimal e ++ 32 ∷ text_of_body body) (ToEditor e body) (with_number_read body_of_text ToEditor e (text_of_body body) body s (body_read body))
out_read (ToServer n body) s = ap out_of (to_server_parts n body)
    ∙ line_read out_word.Sv (decimal n ++ 32 ∷ text_of_body body) (ToServer n body) (with_number_read body_of_text ToServer n (text_of_body body) body s (body_read body))
out_read (Spawn n g) s = ap out_of (spawn_parts n g)
    ∙ line_read out_word.Spawn (decimal n ++ 32 ∷ decimal g) (Spawn n g) (with_number_read number_of Spawn n (decimal g) g s.0 (number_read g s.1))
out_read (CloseEditor e) s = ap out_of (close_parts e) ∙ line_read out_word.Close (decimal e) (CloseEditor e) (ap (option_map CloseEditor) (number_read e s))
out_read (EndServer n) s = ap out_of (end_parts n) ∙ line_read out_word.End (decimal n) (EndServer n) (ap (option_map EndServer) (number_read n s))

-- from a line to its out and back

pub record IsOutSpelled (line : List ℕ) (o : Out) : Type 0 where
  pub bytes : line ≡ spelled_out o
  pub small : HasSmallOutNumbers o

lone_spelled : (w : OutWord) (make : ℕ → Out) (back : List ℕ) (o : Out) → ((n : ℕ) → spelled_out (make n) ≡ word_text w ++ 32 ∷ decimal n) → ((n : ℕ) → n < 2 ^ 64 → HasSmallOutNumbers (make n))
    → option_map make (number_of back) ≡ Some o → IsOutSpelled (word_text w ++ 32 ∷ back) o
lone_spelled w make back o l k h =
    let m = map_some make (number_of back) o h in
    let n = number_spelled back m.0 m.1 in
    record { bytes = ap (λ t. word_text w ++ 32 ∷ t) n.0 ∙ (sym (l m.0) ∙ ap spelled_out m.2); small = subst HasSmallOutNumbers m.2 (k m.0 n.1) }

pair_spelled : {A : Type 0} (w : OutWord) (read : List ℕ → Option A) (make : ℕ → A → Out) (spell : A → List ℕ) (back : List ℕ) (o : Out)
    → ((n : ℕ) (a : A) → spelled_out (make n a) ≡ word_text w ++ 32 ∷ (decimal n ++ 32 ∷ spell a)) → ((text : List ℕ) (n : ℕ) (a : A) → n < 2 ^ 64 → read text ≡ Some a → (text ≡ spell a) × HasSmallOutNumbers (make n a))
    → with_number read make back ≡ Some o → IsOutSpelled (word_text w ++ 32 ∷ back) o
pair_spelled w read make spell back o l k h =
    let m = with_number_spelled read make back o h in
    let b = k m.back m.number m.behind m.small m.reads in
    record {
      bytes = ap (λ t. word_text w ++ 32 ∷ t) (m.bytes ∙ ap (λ t. decimal m.number ++ 32 ∷ t) b.0) ∙ (sym (l m.number m.behind) ∙ ap spelled_out m.makes);
      small = subst HasSmallOutNumbers m.makes b.1;
    }

back_spelled : (w : OutWord) (back : List ℕ) (o : Out) → out_by w back ≡ Some o → IsOutSpelled (word_text w ++ 32 ∷ back) o
back_spelled out_word.Ed back o h = pair_spelled out_word.Ed body_of_text ToEditor text_of_body back o to_editor_parts (λ text n b s r. (body_spelled text false b r, s)) h
back_spelled out_word.Sv back o h = pair_spelled out_word.Sv body_of_text ToServer text_of_body back o to_server_parts (λ text n b s r. (body_spelled text false b r, s)) h
back_spelled out_word.Spawn back o h =
    pair_spelled out_word.Spawn number_of Spawn decimal back o spawn_parts (λ text n g s r. let d = number_spelled text g r in (d.0, (s, d.1))) h
back_spelled out_word.Close back o h = lone_spelled out_word.Close CloseEditor back o close_parts (λ n s. s) h
back_spelled out_word.End back o h = lone_spelled out_word.End EndServer back o end_parts (λ n s. s) h

pub out_spelled : (line : List ℕ) (o : Out) → out_of line ≡ Some o → IsOutSpelled line o
out_spelled line o h =
    let t = then_some (λ (cut : Cut). then_option (out_word_of cut.front) (λ w. out_by w cut.back)) (cut_of line) o h in
    let w = then_some (λ w. out_by w t.0.back) (out_word_of t.0.front) o t.2 in
    let b = back_spelled w.0 t.0.back o w.2 in
    record { bytes = cut_spelled line t.0 t.1 ∙ (ap (λ l. l ++ 32 ∷ t.0.back) (word_spelled t.0.front w.0 w.1) ∙ b.bytes); small = b.small }
