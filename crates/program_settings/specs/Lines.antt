-- Fault lines.
use Rattle.std.specs.Prelude.{◌≡◌, ◌⊎◌, ℕ, List, [], ◌∷◌, ◌++◌, Option, codes, string_bytes, take}
use Rattle.std.specs.Io.KnownBytes.{append_known}
use Rattle.program_settings.specs.declared.fault.SettingsFault.{SettingsFault}
use Rattle.program_settings.specs.declared.fault.SettingsFault.TheVariants as fault

-- the line of settings that are refused
abbrev pub line_of : SettingsFault → List ℕ
line_of fault.Unread = codes "!settings unread" ++ 10 ∷ []
line_of fault.NotToml = codes "!settings not toml" ++ 10 ∷ []
line_of (fault.Unknown path) = (codes "!settings unknown " ++ string_bytes path) ++ 10 ∷ []
line_of (fault.Missing path) = (codes "!settings missing " ++ string_bytes path) ++ 10 ∷ []
line_of (fault.Range path) = (codes "!settings range " ++ string_bytes path) ++ 10 ∷ []
line_of fault.Memory = []

-- the status of settings that are refused
abbrev pub settings_status : SettingsFault → ℕ
settings_status fault.Unread = 3
settings_status fault.NotToml = 3
settings_status (fault.Unknown path) = 3
settings_status (fault.Missing path) = 3
settings_status (fault.Range path) = 3
settings_status fault.Memory = 5

-- a front of the text was written
pub record WroteFront (before now : Option (List ℕ)) (text : List ℕ) : Type 0 where
  pub count : ℕ
  pub wrote : now ≡ append_known before (take count text)

-- a front of the text was written, and all of it unless the sink failed
pub record Wrote (before now : Option (List ℕ)) (text : List ℕ) (failed : Type 0) : Type 0 where
  pub front : WroteFront before now text
  pub whole : (now ≡ append_known before text) ⊎ failed

-- the fault line of this status was written, or memory was wanted for it and nothing was
pub data Reported (status told : ℕ) (before now : Option (List ℕ)) (line : List ℕ) (failed : Type 0) : Type 0 where
  said : status ≡ told → Wrote before now line failed → Reported status told before now line failed
  unsaid : status ≡ 5 → now ≡ before → Reported status told before now line failed
