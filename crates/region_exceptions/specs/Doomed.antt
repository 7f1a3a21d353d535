-- That regions stop an exception where the source does.
use Rattle.std.specs.Prelude.{◌≡◌, ℕ, ◌<◌, List, map, length, Option, option_map}
use Rattle.cxx_ast.specs.Plain.{Checked}
use Rattle.cxx_ast.specs.Checked.{IsChecked}
use Rattle.meaning_forms.specs.Class.{ObjectType, parts_of}
use Rattle.meaning_forms.specs.Context.{Clause as SourceClause, Guard as SourceGuard}
use Rattle.meaning_forms.specs.Guard.{matches as source_matches, allows as source_allows, is_doomed as source_is_doomed}
use Rattle.class_layout.specs.Fit.{AreBefore}
use Rattle.region_forms.specs.Guard.{matches, allows, is_doomed}
use Rattle.region_forms.specs.Numbering.{type_number, type_rows}
use Rattle.region_simulation.specs.Stands.{clause_of, guard_of}

-- there is a class, and the parts of each class, its base and its members, are of classes before it
pub record AreOrdered (p : Checked) : Type 0 where
  pub some : 0 < length p.classes
  pub before : (k : ℕ) → AreBefore k (parts_of p k)

-- the classes of a checked program are in order
abbrev pub CheckedClassesAreOrdered : Type 0
CheckedClassesAreOrdered = (p : Checked) → IsChecked p → AreOrdered p

-- the type of an exception by its number, if it has one
abbrev pub numbered : Option ObjectType → Option ℕ
numbered t = option_map type_number t

-- Of classes in order, for an exception of any type, or a foreign one: a clause matches it, a specification allows it, and the guards doom it, in
-- regions where they do in the source.
pub record GuardsAgree (p : Checked) (t : Option ObjectType) : Type 0 where
  pub matched : (clause : SourceClause) → matches (type_rows p) (numbered t) (clause_of clause) ≡ source_matches p t clause
  pub allowed : (types : List ObjectType) → allows (type_rows p) (map type_number types) (numbered t) ≡ source_allows p types t
  pub doomed : (guards : List SourceGuard) → is_doomed (type_rows p) (map guard_of guards) (numbered t) ≡ source_is_doomed p guards t

-- so it is for each exception
abbrev pub DoomedAlike : Type 0
DoomedAlike = (p : Checked) → AreOrdered p → (t : Option ObjectType) → GuardsAgree p t
