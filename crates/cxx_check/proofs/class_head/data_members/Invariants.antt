use Rattle.std.proofs.Common.{◌≡◌, ◌++◌, drop, map}
use Rattle.cxx_check.specs.ClassParts.{field_in, field_of_in}
use Rattle.cxx_rules.specs.Folds.{each_behind}
use Rattle.cxx_check.proofs.class_head.data_members.Given as goal

abbrev pub invariant-loop-member : goal.invariant-loop-member
invariant-loop-member l = record {
  found :
      each_behind l.env (field_in l.env l.class) l.found (drop l.member-index l.members)
      ≡ each_behind l.env (field_in l.env l.class) l.initial.found l.members;
  fields : l.fields.items ++ map (field_of_in l.env l.class) (drop l.member-index l.members) ≡ map (field_of_in l.env l.class) l.members;
}
