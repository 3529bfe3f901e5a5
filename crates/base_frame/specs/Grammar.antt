-- Frames by their grammar (LSP 3.17, Base Protocol): which bytes are a frame, and where and why bytes begin none.
use Rattle.std.specs.Prelude.{◌≡◌, ℕ, ◌+◌, ◌-◌, ◌*◌, ◌≤◌, ◌<◌, Bool, true, List, [], ◌∷◌, ◌++◌, length, map, codes}
use Rattle.std.specs.Prelude.{Option, Some, None}
use Rattle.base_frame.specs.declared.block.BadWhy.{BadWhy}
use Rattle.base_frame.specs.declared.block.BadWhy.TheVariants.{Byte, TwoLengths, NoLength, TooLong, LongHeader}
use Rattle.base_frame.specs.Block.{is_name_byte, is_value_byte, is_space, is_digit, small}

abbrev pub Each : (ℕ → Bool) → List ℕ → Type 0
Each f [] = Unit {0}
Each f (b ∷ bs) = (f b ≡ true) × Each f bs

abbrev pub NotEmpty : List ℕ → Type 0
NotEmpty [] = ⊥
NotEmpty (b ∷ bs) = Unit {0}

-- the number that decimal digits write behind the digits of v
abbrev pub number : ℕ → List ℕ → ℕ
number v [] = v
number v (d ∷ ds) = number (v * 10 + (d - 48)) ds

-- the name of the field that counts the content, without regard to ASCII case
abbrev pub IsLengthName : List ℕ → Type 0
IsLengthName name = map small name ≡ codes "content-length"

abbrev pub line : List ℕ → List ℕ → List ℕ
line name value = name ++ 58 ∷ (value ++ 13 ∷ 10 ∷ [])

-- a field of another name
pub record IsField (bs : List ℕ) : Type 0 where
  pub name : List ℕ
  pub value : List ℕ
  pub bytes : bs ≡ line name value
  pub named : NotEmpty name
  pub name_bytes : Each is_name_byte name
  pub value_bytes : Each is_value_byte value
  pub other : IsLengthName name → ⊥

-- the field that says that the content has n bytes
pub record IsLengthField (n : ℕ) (bs : List ℕ) : Type 0 where
  pub name : List ℕ
  pub before : List ℕ
  pub digits : List ℕ
  pub behind : List ℕ
  pub bytes : bs ≡ line name (before ++ (digits ++ behind))
  pub named : IsLengthName name
  pub name_bytes : Each is_name_byte name
  pub spaces : Each is_space before
  pub some_digits : NotEmpty digits
  pub digit_bytes : Each is_digit digits
  pub more_spaces : Each is_space behind
  pub counts : number 0 digits ≡ n

-- fields of other names, one behind the other
abbrev pub Lines : List (List ℕ) → List ℕ → Type 0
Lines [] bs = bs ≡ []
Lines (l ∷ ls) bs = IsField l × ((more : List ℕ) × (bs ≡ l ++ more) × Lines ls more)

abbrev pub AreFields : List ℕ → Type 0
AreFields bs = (lines : List (List ℕ)) × Lines lines bs

-- fields, one of which is the length n, which is at most the limit
pub record HaveLength (limit n : ℕ) (bs : List ℕ) : Type 0 where
  pub front : List ℕ
  pub field : List ℕ
  pub back : List ℕ
  pub bytes : bs ≡ front ++ (field ++ back)
  pub before : AreFields front
  pub length_field : IsLengthField n field
  pub behind : AreFields back
  pub within : n ≤ limit

-- whole fields, with this length or none among them
abbrev pub Fields : ℕ → Option ℕ → List ℕ → Type 0
Fields limit None bs = AreFields bs
Fields limit (Some n) bs = HaveLength limit n bs

-- a header block of any size
abbrev pub IsOpenBlock : ℕ → ℕ → List ℕ → Type 0
IsOpenBlock limit n bs = (fields : List ℕ) × (bs ≡ fields ++ 13 ∷ 10 ∷ []) × HaveLength limit n fields

-- a header block, which has at most 4,096 bytes
abbrev pub IsBlock : ℕ → ℕ → List ℕ → Type 0
IsBlock limit n bs = IsOpenBlock limit n bs × (length bs ≤ 4096)

-- a frame with this content, and these bytes behind it
pub record IsFrame (limit : ℕ) (stream content more : List ℕ) : Type 0 where
  pub block : List ℕ
  pub bytes : stream ≡ block ++ (content ++ more)
  pub header : IsBlock limit (length content) block

-- some bytes more make a header block of it, or it is one
abbrev pub BeginsBlock : ℕ → List ℕ → Type 0
BeginsBlock limit bs = (more : List ℕ) × (n : ℕ) × IsOpenBlock limit n (bs ++ more)

-- a header block that isn't ended: it takes a byte more at least
abbrev pub IsUnended : ℕ → List ℕ → Type 0
IsUnended limit bs = (b : ℕ) × BeginsBlock limit (bs ++ b ∷ [])

-- the colon of a second length
abbrev pub IsSecond : ℕ → List ℕ → ℕ → Type 0
IsSecond limit bs b = (b ≡ 58) × ((n : ℕ) × (front : List ℕ) × (name : List ℕ) × (bs ≡ front ++ name) × HaveLength limit n front × Each is_name_byte name × IsLengthName name)

-- the empty line of a block with no length
abbrev pub IsWithout : List ℕ → ℕ → Type 0
IsWithout bs b = (b ≡ 13) × AreFields bs

-- the digit with which a length passes the limit
pub record IsBeyond (limit : ℕ) (bs : List ℕ) (b : ℕ) : Type 0 where
  pub front : List ℕ
  pub name : List ℕ
  pub before : List ℕ
  pub digits : List ℕ
  pub bytes : bs ≡ front ++ (name ++ 58 ∷ (before ++ digits))
  pub fields : AreFields front
  pub named : IsLengthName name
  pub name_bytes : Each is_name_byte name
  pub spaces : Each is_space before
  pub digit_bytes : Each is_digit digits
  pub digit : is_digit b ≡ true
  pub fits : number 0 digits ≤ limit
  pub beyond : limit < number 0 digits * 10 + (b - 48)

-- why no block goes on with this byte behind these
abbrev pub IsCause : ℕ → List ℕ → ℕ → BadWhy → Type 0
IsCause limit bs b TwoLengths = IsSecond limit bs b
IsCause limit bs b NoLength = IsWithout bs b
IsCause limit bs b TooLong = IsBeyond limit bs b
IsCause limit bs b Byte = (IsSecond limit bs b → ⊥) × (IsWithout bs b → ⊥) × (IsBeyond limit bs b → ⊥)
IsCause limit bs b LongHeader = ⊥

-- the byte behind these is a fault: they are 4,096 bytes of a block that isn't ended, or fewer and no block goes on with it
abbrev pub IsBadBehind : ℕ → List ℕ → ℕ → BadWhy → Type 0
IsBadBehind limit bs b LongHeader = (length bs ≡ 4096) × IsUnended limit bs
IsBadBehind limit bs b why = (length bs < 4096) × IsUnended limit bs × (BeginsBlock limit (bs ++ b ∷ []) → ⊥) × IsCause limit bs b why

-- the least fault of these bytes, with its place. Any byte may stand in a content, so it stands in a header block.
pub record IsFault (limit : ℕ) (bs : List ℕ) (at : ℕ) (why : BadWhy) : Type 0 where
  pub front : List ℕ
  pub byte : ℕ
  pub rest : List ℕ
  pub bytes : bs ≡ front ++ byte ∷ rest
  pub place : length front ≡ at
  pub bad : IsBadBehind limit front byte why
