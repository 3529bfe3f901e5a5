-- What a settings' file comes to.
use Rattle.std.specs.Prelude.{◌≡◌, ◌≤◌, ℕ, List, length, IfSome, ⊤}
use Rattle.std.specs.Prelude.{Option, Some, None, Result, Ok, Err}
use Rattle.outside_io.specs.Files.{File, bytes_at}
use Rattle.mux_config.specs.Answers.{Answers, chosen}
use Rattle.mux_config.specs.Chosen.{built_in, chosen_of}
use Rattle.mux_config.specs.declared.config.Config.{Config}
use Rattle.mux_config.specs.declared.fault.ConfigFault.TheVariants as refused
use Rattle.program_settings.specs.declared.fault.SettingsFault.{SettingsFault}
use Rattle.program_settings.specs.declared.fault.SettingsFault.TheVariants as fault

-- bytes read as settings
abbrev pub ReadsAs : List ℕ → Result Config SettingsFault → Type 0
ReadsAs bytes (Ok config) = Answers bytes (Ok config)
ReadsAs bytes (Err fault.NotToml) = Answers bytes (Err refused.NotToml)
ReadsAs bytes (Err (fault.Unknown path)) = Answers bytes (Err (refused.Unknown path))
ReadsAs bytes (Err (fault.Missing path)) = Answers bytes (Err (refused.Missing path))
ReadsAs bytes (Err (fault.Range path)) = Answers bytes (Err (refused.Range path))
ReadsAs bytes (Err fault.Memory) = ⊤
ReadsAs bytes (Err fault.Unread) = ⊥

-- the bytes of the first file of this path, where the files are told, read as settings
pub record FileRead (files : Option (List File)) (path : List ℕ) (result : Result Config SettingsFault) : Type 0 where
  pub bytes : List ℕ
  pub there : IfSome files (λ files. bytes_at path files ≡ Some bytes)
  pub few : length bytes ≤ 1048576
  pub read : ReadsAs bytes result

-- a file's read, which may have failed
abbrev pub IsFile : Option (List File) → List ℕ → Type 0 → Result Config SettingsFault → Type 0
IsFile files path failed (Ok config) = FileRead files path (Ok config)
IsFile files path failed (Err fault.Unread) = failed
IsFile files path failed (Err fault.NotToml) = FileRead files path (Err fault.NotToml)
IsFile files path failed (Err (fault.Unknown key)) = FileRead files path (Err (fault.Unknown key))
IsFile files path failed (Err (fault.Missing key)) = FileRead files path (Err (fault.Missing key))
IsFile files path failed (Err (fault.Range key)) = FileRead files path (Err (fault.Range key))
IsFile files path failed (Err fault.Memory) = ⊤

-- the built-in settings, unless memory was wanted
abbrev pub AreBuiltIn : Result Config SettingsFault → Type 0
AreBuiltIn (Ok config) = chosen config ≡ chosen_of built_in
AreBuiltIn (Err why) = why ≡ fault.Memory

-- the settings in the file of a path, or the built-in ones where there is none
abbrev pub IsReading : Option (List File) → Option (List ℕ) → Type 0 → Result Config SettingsFault → Type 0
IsReading files None failed result = AreBuiltIn result
IsReading files (Some path) failed result = IsFile files path failed result
