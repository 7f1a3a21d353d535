use mir.Syntax.{w32}
use mir.Val.{SFits}
use Rattle.std.proofs.lemmas.Int.{to_z-of_z}
use Rattle.std.proofs.Common.{◌≡◌, rules}
use Rattle.cxx_ast.specs.View.{checked_of}
use Rattle.meaning_forms.specs.World.{written}
use Rattle.scope_world.specs.Inward.{context_of}
use Rattle.scope_world.specs.Objects.{reference_of}
use Rattle.scope_world.specs.Seen.{world_of}
use Rattle.scope_flow.specs.Always.{always}
use Rattle.scope_meaning.proofs.Parted.{int_copied}
use Rattle.scope_meaning.proofs.parts.copy_part.Goals as goal

pub returns-in_ok-value-in-Int : goal.returns-in_ok-value-in-Int
returns-in_ok-value-in-Int g c = λ this from i e f.
    let d = c.args.c.now.depth in
    let r = always (checked_of c.args.c.now.program.now) in
    let w = world_of g.G.Outside.told d c.args.w.now in
    let v = world_of g.G.Outside.told d c.write.new.self in
    let x = reference_of c.args.target.now in
    let n = c.in_ok-value-in-Int.value in
    let fits : SFits w32 n = search rules in
    let set : v ≡ written w x n = rw (to_z-of_z w32 n fits) at (c.write.ensures d) in
    rw c.in-Int.is (int_copied r this from x (reference_of c.args.source.now) (context_of c.args.c.now) i w v n e f (c.in_ok-value-in-Int.ensures d) set)
