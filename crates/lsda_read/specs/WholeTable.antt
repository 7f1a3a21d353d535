-- A table whose actions, types and lists are those that it names, each under its number.
use Rattle.std.specs.Prelude.{◌≡◌, ℕ, ℤ, [], List, map}
use Rattle.table_forms.specs.Keys.{keys, value_at}
use Rattle.table_forms.specs.Lsda.{Table}
use Rattle.lsda_read.specs.Names.{actions_named, types_named, lists_named}

abbrev pub filters_at : Table → ℕ → List ℤ
filters_at t a = value_at [] t.actions a

abbrev pub value_of : Table → ℕ → ℕ
value_of t i = value_at 0 t.types i

abbrev pub indices_at : Table → ℕ → List ℕ
indices_at t j = value_at [] t.lists j

pub record IsWhole (t : Table) : Type 0 where
  pub actions : t.actions ≡ map (λ a. (a, filters_at t a)) (keys (actions_named t))
  pub types : t.types ≡ map (λ i. (i, value_of t i)) (keys (types_named t))
  pub lists : t.lists ≡ map (λ j. (j, indices_at t j)) (keys (lists_named t))
