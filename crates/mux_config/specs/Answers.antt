-- What the answer of a reading says of the bytes.
use Rattle.std.specs.Prelude.{◌≡◌, ℕ, List, string_bytes, IsUtf8, ⊤}
use Rattle.std.specs.Prelude.{Some, None, Result, Ok, Err}
use Rattle.toml.specs.Data.{Members}
use Rattle.toml.specs.Parse.{parse_document}
use Rattle.mux_config.specs.Chosen.{Chosen, chosen_by, chosen_of}
use Rattle.mux_config.specs.Settings.{fault_of}
use Rattle.mux_config.specs.declared.config.Config.{Config}
use Rattle.mux_config.specs.declared.fault.ConfigFault.{ConfigFault}
use Rattle.mux_config.specs.declared.fault.ConfigFault.TheVariants as refused
use Rattle.mux_config.specs.declared.first.Sort.{Sort}
use Rattle.mux_config.specs.declared.first.Sort.TheVariants.{Unknown, Missing, Range}

abbrev pub chosen : Config → Chosen
chosen c = chosen_by c.place c.links c.content c.limits c.default c.servers.items c.commands.items

-- the bytes are the TOML document of a table
abbrev pub IsDocument : List ℕ → Members → Type 0
IsDocument bytes ms = IsUtf8 bytes × (parse_document bytes ≡ Some ms)

-- the table has a fault, and this one is told
abbrev pub Tells : List ℕ → Sort → List ℕ → Type 0
Tells bytes sort path = (ms : Members) × IsDocument bytes ms × (fault_of ms ≡ Some (record { sort = sort; path = path }))

abbrev pub Answers : List ℕ → Result Config ConfigFault → Type 0
Answers bytes (Ok config) = (ms : Members) × IsDocument bytes ms × (fault_of ms ≡ None) × (chosen config ≡ chosen_of ms)
Answers bytes (Err refused.NotToml) = IsUtf8 bytes → parse_document bytes ≡ None
Answers bytes (Err (refused.Unknown path)) = Tells bytes Unknown (string_bytes path)
Answers bytes (Err (refused.Missing path)) = Tells bytes Missing (string_bytes path)
Answers bytes (Err (refused.Range path)) = Tells bytes Range (string_bytes path)
Answers bytes (Err refused.Memory) = ⊤
