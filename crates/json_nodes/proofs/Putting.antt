-- Values of an object that give way to others, member by member.
use Rattle.std.proofs.Common.{◌≡◌, ℕ, suc, ◌+◌, ◌<◌, true, false, List, [], ◌∷◌, ◌++◌, length, drop, get_or, refl, sym, ◌∙◌, ap, ap₂, subst, add-one, append-nil}
use Rattle.std.proofs.lemmas.List.{at_drop_more}
use Rattle.std.specs.Prelude.{Option, Some, None, bytes_eq, MatchOption, if◌then◌else◌}
use Rattle.std.specs.Str.{chars}
use Rattle.json_text.specs.declared.change.Change.{Change}
use Rattle.json_text.specs.declared.span.Span.{Span}
use Rattle.json_text.specs.Changes.{edits_of}
use Rattle.json_text.specs.Json.{Json, object, Members, no_members, span_of}
use Rattle.json_text.specs.Replace.{Edit}
use Rattle.json_nodes.specs.declared.puts.Put.{Put}
use Rattle.json_nodes.specs.At.{At, ChildAt, FoundChild}
use Rattle.json_nodes.specs.Doc.{Doc}
use Rattle.json_nodes.specs.Puts.{text_for, edit_if, member_edits}
use Rattle.json_nodes.specs.Same.{drop_members}
use Rattle.json_nodes.proofs.Members.{Inside, Follows, found_child_is, no_child, inside_more}
use Rattle.json_nodes.proofs.Spelling.{IsMember, is_member, members_end}

-- one put after the other

text_after : (p : Put) (ps : List Put) (cs : List ℕ) → bytes_eq (chars p.name.now) cs ≡ false → text_for (p ∷ ps) cs ≡ text_for ps cs
text_after p ps cs e = ap (λ b. if b then Some p.text.now else text_for ps cs) e

text_here : (p : Put) (ps : List Put) (cs : List ℕ) → bytes_eq (chars p.name.now) cs ≡ true → text_for (p ∷ ps) cs ≡ Some p.text.now
text_here p ps cs e = ap (λ b. if b then Some p.text.now else text_for ps cs) e

pub no_put : (ps : List Put) (i : ℕ) (p : Put) (cs : List ℕ) → i < length ps → bytes_eq (chars (get_or ps i p).name.now) cs ≡ false → text_for (drop (i + 1) ps) cs ≡ text_for (drop i ps) cs
no_put ps i p cs h n = sym (at_drop_more (λ qs. text_for qs cs) ps i p h ∙ text_after (get_or ps i p) (drop (i + 1) ps) cs n)

pub the_put : (ps : List Put) (i : ℕ) (p : Put) (cs : List ℕ) → i < length ps → bytes_eq (chars (get_or ps i p).name.now) cs ≡ true → Some (get_or ps i p).text.now ≡ text_for (drop i ps) cs
the_put ps i p cs h n = sym (at_drop_more (λ qs. text_for qs cs) ps i p h ∙ text_here (get_or ps i p) (drop (i + 1) ps) cs n)

-- one change after the other

pub edits_push : (cs : List Change) (c : Change) (es : List Edit) → edits_of (cs ++ c ∷ []) ++ es ≡ edits_of cs ++ (record { span = c.span; text = c.text } ∷ es)
edits_push [] c es = refl
edits_push (d ∷ cs) c es = ap (λ z. record { span = d.span; text = d.text } ∷ z) (edits_push cs c es)

module _ (text : List ℕ → Option (List ℕ)) where
  edits_at : (ms : Members) (n : ℕ) (u : Json) (e : IsMember ms n u) → member_edits text (drop_members n ms) ≡ edit_if (span_of u) (text e.name) (member_edits text (drop_members (suc n) ms))
  edits_at ms n u e = ap (member_edits text) e.whole

  -- a member of another name
  pub none_put : (doc : Doc) (k n m : ℕ) (s : Span) (ms : Members) (u : Json) (old new : List Change) → ChildAt doc k (object s ms) n m u → ((e : IsMember ms n u) → None ≡ text e.name) → new ≡ old
      → edits_of new ++ member_edits text (drop_members (suc n) ms) ≡ edits_of old ++ member_edits text (drop_members n ms)
  none_put doc k n m s ms u old new c told same =
      let e : IsMember ms n u = is_member ms n u c.child in
      ap₂ (λ cs es. edits_of cs ++ es) same (sym (edits_at ms n u e ∙ ap (λ z. edit_if (span_of u) z (member_edits text (drop_members (suc n) ms))) (sym (told e))))

  -- a member whose value gives way
  pub one_put : (doc : Doc) (k n m : ℕ) (s : Span) (ms : Members) (u : Json) (old new : List Change) (w : List ℕ) (c : Change) → ChildAt doc k (object s ms) n m u
      → ((e : IsMember ms n u) → Some w ≡ text e.name) → c.span ≡ span_of u → c.text ≡ w → new ≡ old ++ c ∷ []
      → edits_of new ++ member_edits text (drop_members (suc n) ms) ≡ edits_of old ++ member_edits text (drop_members n ms)
  one_put doc k n m s ms u old new w c child told place bytes same =
      let e : IsMember ms n u = is_member ms n u child.child in
      let rest : List Edit = member_edits text (drop_members (suc n) ms) in
      ap (λ cs. edits_of cs ++ rest) same ∙ edits_push old c rest
      ∙ ap₂ (λ i b. edits_of old ++ (record { span = i; text = b } ∷ rest)) place bytes
      ∙ ap (λ es. edits_of old ++ es) (sym (edits_at ms n u e ∙ ap (λ z. edit_if (span_of u) z rest) (sym (told e))))

  -- in the middle of the members of value k
  pub record Putting (doc : Doc) (k : ℕ) (next : Option ℕ) (changes : List Change) : Type 0 where
    pub inside : Inside (length doc.nodes) next
    pub left : (s : Span) (ms : Members) → At doc k (object s ms) → (n : ℕ) × FoundChild doc k (object s ms) n next × (edits_of changes ++ member_edits text (drop_members n ms) ≡ member_edits text ms)

  pub putting_starts : (doc : Doc) (k : ℕ) (next : Option ℕ) → ((t : Json) → At doc k t → FoundChild doc k t 0 next) → MatchOption next (Unit {0}) (λ i. (k < i) × (i < length doc.nodes)) → Putting doc k next []
  putting_starts doc k next first later = record { inside = inside_more (length doc.nodes) k next later; left = λ s ms a. (0, first (object s ms) a, refl) }

  pub putting_on : (doc : Doc) (k m : ℕ) (here next : Option ℕ) (old new : List Change) → Putting doc k here old → here ≡ Some m
      → ((k n : ℕ) (s : Span) (ms : Members) (u : Json) → ChildAt doc k (object s ms) n m u → edits_of new ++ member_edits text (drop_members (suc n) ms) ≡ edits_of old ++ member_edits text (drop_members n ms))
      → Follows doc m next → MatchOption next (Unit {0}) (λ i. (m < i) × (i < length doc.nodes)) → Putting doc k next new
  putting_on doc k m here next old new w e step follows later = record {
    inside = inside_more (length doc.nodes) m next later;
    left = λ s ms a.
        let l : (n : ℕ) × FoundChild doc k (object s ms) n here × (edits_of old ++ member_edits text (drop_members n ms) ≡ member_edits text ms) = w.left s ms a in
        let c : (u : Json) × ChildAt doc k (object s ms) l.0 m u = found_child_is doc k l.0 m (object s ms) (subst (λ z. FoundChild doc k (object s ms) l.0 z) e l.1) in
        (suc l.0, subst (λ i. FoundChild doc k (object s ms) i next) (add-one l.0) (follows k l.0 (object s ms) c.0 c.1), step k l.0 s ms c.0 c.1 ∙ l.2);
  }

  pub putting_ends : (doc : Doc) (k : ℕ) (s : Span) (ms : Members) (next : Option ℕ) (changes : List Change) → Putting doc k next changes → next ≡ None → At doc k (object s ms) → edits_of changes ≡ member_edits text ms
  putting_ends doc k s ms next changes w e a =
      let l : (n : ℕ) × FoundChild doc k (object s ms) n next × (edits_of changes ++ member_edits text (drop_members n ms) ≡ member_edits text ms) = w.left s ms a in
      let none : drop_members l.0 ms ≡ no_members = members_end ms l.0 (no_child doc k l.0 (object s ms) (subst (λ z. FoundChild doc k (object s ms) l.0 z) e l.1)) in
      sym (append-nil (edits_of changes)) ∙ ap (λ ns. edits_of changes ++ member_edits text ns) (sym none) ∙ l.2
