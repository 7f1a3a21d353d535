use Rattle.std.proofs.Common.{rules, ◌≡◌, ◌++◌, ◌∷◌, ℕ, List, subst}
use Rattle.std.specs.Prelude.{flat_map, Contains}
use Rattle.std.specs.List.{AllByRecursion}
use Rattle.eh_bytes.specs.Memory.{memory_of}
use Rattle.lsda_read.specs.Names.{types_named}
use Rattle.lsda_read.specs.WholeTable.{value_of}
use Rattle.image_doubts.specs.Doubts.{nowhere_line}
use Rattle.image_doubts.proofs.Lines.{type_on}
use Rattle.image_doubts.proofs.types.put_each.Goals as goal

pub types-preserved : goal.types-preserved
types-preserved c =
    let m = memory_of c.args.memory.now in let region = c.args.region in let t = c.args.table.now in
    let line : ℕ → List ℕ = λ i. nowhere_line m region (i, value_of t i) in
    let all = c.args.out.now.items ++ flat_map line c.args.types.now in
    let i = c.in-Some.index.now in let is = c.in-Some.others.now in
    let split : c.types.rest.now ≡ i ∷ is = search rules in
    let kept = subst (λ (r : List ℕ). (all ≡ c.types.out.items ++ flat_map line r) × AllByRecursion (Contains (types_named t)) r) split c.types.invariant in
    (type_on m region t all c.types.out.items c.put_nowhere.new.out.items i c.type_entry.result is kept.0 (c.type_entry.ensures kept.1.0) c.in_ok-put_nowhere.ensures, kept.1.1)
