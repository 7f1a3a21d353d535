-- The lists of a table by the numbers that it names.
use Rattle.std.specs.Prelude.{◌≡◌, ℕ, zero, suc, ◌+◌, ◌-◌, ◌==◌, List, [], ◌∷◌, Option, Some, None, if◌then◌else◌}
use Rattle.std.specs.List.{position_from, position_or_len}
use Rattle.eh_bytes.specs.declared.table.ListSite.{ListSite}
use Rattle.table_forms.specs.declared.found.Site.{Site}
use Rattle.table_forms.specs.Lsda.{Table}
use Rattle.lsda_pack.specs.KeptTypes.{is_among}
use Rattle.lsda_read.specs.WholeTable.{value_of}

-- an action by its place among those that are named, action 0 by none
abbrev pub number_among : List ℕ → ℕ → Option ℕ
number_among actions a = if a == 0 then None else Some (position_or_len (λ k. k == a) actions)

abbrev pub listed_with : ℕ → List ℕ → Site → ListSite
listed_with start actions s = record {
  start = s.start - start;
  length = s.end - s.start;
  pad = (if s.pad == 0 then 0 else s.pad - start);
  chain = number_among actions s.action;
}

-- the value of a type that is named, or else 0
abbrev pub named_value : List ℕ → Table → ℕ → ℕ
named_value types t i = if is_among types i then value_of t i else 0

-- so many values from an index on
abbrev pub named_values : ℕ → ℕ → List ℕ → Table → List ℕ
named_values zero i types t = []
named_values (suc n) i types t = named_value types t i ∷ named_values n (i + 1) types t

-- the place of each action that is named, counted from an offset
abbrev pub ArePositions : (ℕ → Option ℕ) → ℕ → List ℕ → Type 0
ArePositions positions n actions = (a : ℕ) → positions a ≡ position_from (λ k. k == a) n actions

-- the value of each type that is named
abbrev pub AreValues : Table → List ℕ → (ℕ → Option ℕ) → Type 0
AreValues t types values = (i : ℕ) → values i ≡ (if is_among types i then Some (value_of t i) else None)
