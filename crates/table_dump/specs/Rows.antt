-- The line of an FDE, and those of its rows.
use Rattle.std.specs.Prelude.{ℕ, zero, suc, ◌+◌, List, [], ◌∷◌, ◌++◌, codes, Option, Some, None}
use Rattle.table_forms.specs.declared.found.Rule.{Rule}
use Rattle.table_forms.specs.declared.found.Rule.TheVariants as rules
use Rattle.table_forms.specs.declared.found.Row.{Row}
use Rattle.table_forms.specs.Fde.{Fde, row_at, next_location}
use Rattle.table_dump.specs.Texts.{hex, register, signed}

abbrev pub frame_line : ℕ → ℕ → List ℕ
frame_line start len = codes "frame " ++ hex start ++ codes " " ++ hex (start + len) ++ codes "\n"

-- c: stored at the CFA and an offset. v: the CFA and an offset. u: undefined. s: the same
abbrev pub rule_text : ℕ → Rule → List ℕ
rule_text n rules.Unspecified = []
rule_text n rules.Undefined = codes " " ++ register n ++ codes "=u"
rule_text n rules.Same = codes " " ++ register n ++ codes "=s"
rule_text n (rules.Offset k) = codes " " ++ register n ++ codes "=c" ++ signed k
rule_text n (rules.ValOffset k) = codes " " ++ register n ++ codes "=v" ++ signed k
rule_text n (rules.Register m) = codes " " ++ register n ++ codes "=" ++ register m

-- of the registers from n on
abbrev pub rules_text : ℕ → List Rule → List ℕ
rules_text n [] = []
rules_text n (rule ∷ more) = rule_text n rule ++ rules_text (n + 1) more

-- the place and the CFA
abbrev pub cfa_text : ℕ → Row → List ℕ
cfa_text pc row = codes "  row " ++ hex pc ++ codes " cfa " ++ register row.cfa_register ++ signed row.cfa_offset

abbrev pub row_line : ℕ → Row → List ℕ
row_line pc row = cfa_text pc row ++ rules_text 0 row.rules ++ codes "\n"

-- the line of the row of a location
abbrev pub row_text : Fde → ℕ → List ℕ
row_text f pc = row_line pc (row_at f pc)

-- at most so many rows: that of a location, and those of the next locations
unfoldable pub rows_within : ℕ → Fde → Option ℕ → List ℕ
rows_within zero f pc = []
rows_within (suc n) f None = []
rows_within (suc n) f (Some pc) = row_line pc (row_at f pc) ++ rows_within n f (next_location f pc)

-- one for each location of the region, its start first; an empty region has none
abbrev pub rows_text : Fde → List ℕ
rows_text f = rows_within f.region.length f (Some f.region.start)
