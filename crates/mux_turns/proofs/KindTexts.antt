-- S13: what a notification says of the progress of its token.
use Rattle.std.proofs.Common.{◌≡◌, ℕ, true, false, List, refl, ap, sym, ◌∙◌, arith, bytes_eq, codes}
use Rattle.std.specs.Prelude.{Option, Some, None, encode_utf8_all, option_map}
use Rattle.std.specs.Option.{option_map_or}
use Rattle.std.specs.Str.{IsAscii}
use Rattle.std.proofs.lemmas.Slice.Eq.{bytes_eq-Decides}
use Rattle.std.proofs.lemmas.Str.Ascii.{IsAscii-from_all}
use Rattle.group_facts.specs.mux_members.specs.Members.{string_at}
use Rattle.json_text.specs.Bare.{bare}
use Rattle.json_text.specs.Json.{Json, word, number, string, array, object}
use Rattle.event_model.specs.Members.{named_of, string_of}
use Rattle.group_facts.specs.group_rows.specs.Created.{is_kind}
use Rattle.group_facts.specs.mux_members.specs.Tokens.{text_of}
use Rattle.group_facts.specs.mux_members.proofs.Bared.{of_bare}
use Rattle.mux_turns.proofs.CreatedMarks.{same_encoded, swapped}

text_bare : (o : Option Json) → text_of (option_map bare o) ≡ text_of o
text_bare None = refl
text_bare (Some (word s w)) = refl
text_bare (Some (number s ds)) = refl
text_bare (Some (string s cs)) = refl
text_bare (Some (array s js)) = refl
text_bare (Some (object s ms)) = refl

at_named : (name : List ℕ) (o : Option Json) → string_at name o ≡ text_of (named_of name o)
at_named name None = refl
at_named name (Some t) = refl

-- the kind, where it is a string
abbrev pub kind_at : Option Json → Option Json
kind_at params = named_of (codes "kind") (named_of (codes "value") params)

pub kind_text : (params value : Option Json) → params ≡ option_map bare value → string_at (codes "kind") (named_of (codes "value") value) ≡ text_of (kind_at params)
kind_text params value is = at_named (codes "kind") (named_of (codes "value") value)
    ∙ sym (ap (λ o. text_of (kind_at o)) is ∙ (ap (λ o. text_of (named_of (codes "kind") o)) (of_bare (codes "value") value) ∙ (ap text_of (of_bare (codes "kind") (named_of (codes "value") value)) ∙ text_bare (kind_at value))))

some_same : (x y : List ℕ) → ◌≡◌ {A = Option (List ℕ)} (Some x) (Some y) → x ≡ y
some_same x y e = cc

begin_ascii : IsAscii (codes "begin")
begin_ascii = IsAscii-from_all (codes "begin") (λ i d l. grind arith)

end_ascii : IsAscii (codes "end")
end_ascii = IsAscii-from_all (codes "end") (λ i d l. grind arith)

module _ (own : List ℕ) (ascii : IsAscii own) where
  kind_said : (o : Option Json) (w : List ℕ) → Some w ≡ text_of o → bytes_eq own w ≡ option_map_or (bytes_eq own) (string_of o) false
  kind_said (Some (string s cs)) w is = ap (bytes_eq own) (some_same w (encode_utf8_all cs) is) ∙ sym (same_encoded cs own ascii)
  kind_said (Some (word s x)) w is = absurd (cc)
  kind_said (Some (number s ds)) w is = absurd (cc)
  kind_said (Some (array s js)) w is = absurd (cc)
  kind_said (Some (object s ms)) w is = absurd (cc)
  kind_said None w is = absurd (cc)

  kind_unsaid : (o : Option Json) → None ≡ text_of o → false ≡ option_map_or (bytes_eq own) (string_of o) false
  kind_unsaid (Some (string s cs)) is = absurd (cc)
  kind_unsaid (Some (word s x)) is = refl
  kind_unsaid (Some (number s ds)) is = refl
  kind_unsaid (Some (array s js)) is = refl
  kind_unsaid (Some (object s ms)) is = refl
  kind_unsaid None is = refl

module _ (params : Option Json) where
  pub begin_said : (w : List ℕ) → Some w ≡ text_of (kind_at params) → bytes_eq (codes "begin") w ≡ is_kind (codes "begin") params
  begin_said w is = kind_said (codes "begin") begin_ascii (kind_at params) w is

  pub end_said : (w : List ℕ) → Some w ≡ text_of (kind_at params) → bytes_eq (codes "end") w ≡ is_kind (codes "end") params
  end_said w is = kind_said (codes "end") end_ascii (kind_at params) w is

  pub begin_unsaid : None ≡ text_of (kind_at params) → false ≡ is_kind (codes "begin") params
  begin_unsaid is = kind_unsaid (codes "begin") begin_ascii (kind_at params) is

  pub end_unsaid : None ≡ text_of (kind_at params) → false ≡ is_kind (codes "end") params
  end_unsaid is = kind_unsaid (codes "end") end_ascii (kind_at params) is

-- which kind a name is
pub begin_kind : (cs : List ℕ) → bytes_eq cs (codes "begin") ≡ true → (true ≡ bytes_eq (codes "begin") cs) × (false ≡ bytes_eq (codes "end") cs)
begin_kind cs is = let same : cs ≡ codes "begin" = (bytes_eq-Decides cs (codes "begin")).0 is in (sym (ap (bytes_eq (codes "begin")) same), sym (ap (bytes_eq (codes "end")) same))

pub end_kind : (cs : List ℕ) → bytes_eq cs (codes "end") ≡ true → (false ≡ bytes_eq (codes "begin") cs) × (true ≡ bytes_eq (codes "end") cs)
end_kind cs is = let same : cs ≡ codes "end" = (bytes_eq-Decides cs (codes "end")).0 is in (sym (ap (bytes_eq (codes "begin")) same), sym (ap (bytes_eq (codes "end")) same))

pub other_kind : (cs : List ℕ) → bytes_eq cs (codes "begin") ≡ false → bytes_eq cs (codes "end") ≡ false → (false ≡ bytes_eq (codes "begin") cs) × (false ≡ bytes_eq (codes "end") cs)
other_kind cs a b = (sym (swapped (codes "begin") cs ∙ a), sym (swapped (codes "end") cs ∙ b))
