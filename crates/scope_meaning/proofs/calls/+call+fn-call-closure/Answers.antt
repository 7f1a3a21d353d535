use Rattle.std.proofs.Common.{◌≡◌, ◌+◌, ◌-◌, ◌*◌, ◌<◌, false, arith, rules, sym, ap, map, max}
use Rattle.std.specs.Prelude.{nat_le}
use Rattle.std.proofs.lemmas.Bool.Decides.{nat_tests}
use Rattle.cxx_ast.specs.View.{checked_of}
use Rattle.meaning_forms.specs.Call.{opened, closed}
use Rattle.scope_world.specs.Inward.{argument_of, context_of}
use Rattle.scope_world.specs.Objects.{reference_of}
use Rattle.scope_world.specs.Seen.{world_of}
use Rattle.scope_flow.specs.Asked.{callee_of}
use Rattle.scope_meaning.proofs.Opened.{call_done}
use Rattle.scope_meaning.proofs.calls.+call+fn-call-closure.Goals as goal

pub run_callee-requires : goal.run_callee-requires
run_callee-requires g t c =
    let is : (128 - c.args.c.now.depth) * 2 + 1 ≡ t = c.decreases in
    let falls : (128 - (c.args.c.now.depth + 1)) * 2 + 2 < t = omega arith in
    (λ x w k y given e. (falls, λ a m. m), λ x w k y given r v e h. h.1)

pub returns : goal.returns
returns g t c =
    let told = g.G.Outside.told in
    let d = c.args.c.now.depth in
    let w = world_of told d c.args.w.now in
    let spent = c.spend_turn.new.self in
    let left = c.run_callee.new.w in
    let low : nat_le 128 d ≡ false = search (rules, arith, nat_tests) in
    let greatest : c.max-w.result ≡ max spent.deepest (d + 1) = search (rules, arith) in
    let within : opened (world_of told d spent) ≡ world_of told (d + 1) (record spent { deepest = c.max-w.result }) = ap (λ m. world_of told (d + 1) (record spent { deepest = m })) (sym greatest) in
    let outer : d + 1 - 1 ≡ d = omega arith in
    let out : closed (world_of told (d + 1) left) ≡ world_of told d left = ap (λ n. world_of told n left) outer in
    call_done (checked_of c.args.c.now.program.now) (callee_of c.args.callee) (reference_of c.args.this.now) (map argument_of c.args.given.now) (context_of c.args.c.now) w (world_of told d spent)
    (world_of told (d + 1) (record spent { deepest = c.max-w.result })) (world_of told (d + 1) left) (world_of told d left) c.run_callee.result low (c.in_ok-spend_turn.ensures d) within out c.run_callee.ensures
