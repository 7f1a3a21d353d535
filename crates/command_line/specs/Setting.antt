-- The options of the command line.
use Rattle.std.specs.Prelude.{ℕ, Bool, true, false, List, codes, if◌then◌else◌}
use Rattle.command_line.specs.declared.setting.Setting.{Setting}
use Rattle.command_line.specs.declared.setting.Setting.TheVariants.{Input, Max, Trace, Count, Standard, Foreign, Thrown}

-- the name of an option, without the dashes
abbrev pub name_of : Setting → List ℕ
name_of Input = codes "in"
name_of Max = codes "max"
name_of Trace = codes "trace"
name_of Count = codes "count"
name_of Standard = codes "std"
name_of Foreign = codes "foreign"
name_of Thrown = codes "type"

-- it has a value; one without is a switch
abbrev pub has_value : Setting → Bool
has_value Input = true
has_value Max = true
has_value Trace = false
has_value Count = false
has_value Standard = true
has_value Foreign = true
has_value Thrown = true

-- how many values a use of it has
abbrev pub value_count : Setting → ℕ
value_count s = if has_value s then 1 else 0
