use Rattle.std.proofs.Common.{◌≡◌, ◌++◌, ◌+◌, ◌-◌, suc, arith}
use Rattle.cxx_ast.specs.View.{checked_of}
use Rattle.symbol_names.specs.Names.{own_names, classes_names}
use Rattle.symbol_names.proofs.Gathered.{class_done}
use Rattle.symbol_names.proofs.program.functions_names.Goals as goal

pub loop-class-preserved : goal.loop-class-preserved
loop-class-preserved c =
    let p = checked_of c.args.program.now in
    let k = c.loop-class.class in
    let n = c.in_ok-count.count in
    let left : n - k ≡ suc (n - (k + 1)) = omega (arith, c.loop-class-test.true) in
    class_done p k (n - k) (n - (k + 1)) c.loop-class.names.items c.put_class_names.new.names.items (own_names p.main 0 p.functions ++ classes_names p 0 n) left
    c.in_ok-put_class_names.ensures c.loop-class.invariant
