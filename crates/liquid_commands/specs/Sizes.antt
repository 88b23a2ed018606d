-- Sizes, in bytes or in larger units.
--     unit_at_end word      the unit that a size ends with
--     unit_bytes unit      how many bytes it is
--     digits_before unit word      what stands before it
--     IsSize bytes digits size      the number of the digits, of so many bytes each
use Rattle.std.specs.Prelude.{◌≡◌, ◌*◌, ◌-◌, ◌<◌, ◌^◌, ℕ, cond, codes, length, take, Option, Some}
use Rattle.std.specs.Prelude.{None}
use Rattle.std.specs.Str.Parse.{IsNumeral, digits_value}
use Rattle.liquid_commands.specs.Words.{CommandWord, has_ending}
use Rattle.liquid_commands.specs.declared.sizes.Unit.{Unit}
use Rattle.liquid_commands.specs.declared.sizes.Unit.TheVariants.{Byte, Kilobyte, Megabyte}
use Rattle.liquid_commands.specs.declared.sizes.Unit.TheVariants.{Gigabyte, Kibibyte, Mebibyte}
use Rattle.liquid_commands.specs.declared.sizes.Unit.TheVariants.{Gibibyte}

-- how it is written after a number
abbrev pub unit_letters : Unit → CommandWord
unit_letters Byte = codes ""
unit_letters Kilobyte = codes "kB"
unit_letters Megabyte = codes "MB"
unit_letters Gigabyte = codes "GB"
unit_letters Kibibyte = codes "KiB"
unit_letters Mebibyte = codes "MiB"
unit_letters Gibibyte = codes "GiB"

abbrev pub unit_bytes : Unit → ℕ
unit_bytes Byte = 1
unit_bytes Kilobyte = 1000
unit_bytes Megabyte = 1000000
unit_bytes Gigabyte = 1000000000
unit_bytes Kibibyte = 1024
unit_bytes Mebibyte = 1048576
unit_bytes Gibibyte = 1073741824

abbrev pub unit_at_end : CommandWord → Unit
unit_at_end word = cond (has_ending (codes "kB") word) Kilobyte
    (cond (has_ending (codes "MB") word) Megabyte (cond (has_ending (codes "GB") word) Gigabyte
    (cond (has_ending (codes "KiB") word) Kibibyte (cond (has_ending (codes "MiB") word) Mebibyte
    (cond (has_ending (codes "GiB") word) Gibibyte Byte)))))

abbrev pub digits_before : Unit → CommandWord → CommandWord
digits_before unit word = cond (has_ending (unit_letters unit) word)
    (take (length word - length (unit_letters unit)) word) word

-- it is there exactly where the digits are some, and their number and the size are of 64 bits
abbrev pub IsSize : ℕ → CommandWord → Option ℕ → Type 0
IsSize bytes digits (Some size) = IsNumeral 10 digits × (digits_value 10 digits < 2 ^ 64)
    × (size ≡ digits_value 10 digits * bytes)
IsSize bytes digits None = IsNumeral 10 digits → digits_value 10 digits < 2 ^ 64
    → digits_value 10 digits * bytes < 2 ^ 64 → ⊥
