use Rattle.std.proofs.Common.{◌∙◌, ◌<◌, ◌+◌, ◌∷◌, ◌++◌, drop, length, ap, refl, sym, arith}
use Rattle.std.proofs.lemmas.List.{drop_all, drop_more}
use Rattle.machine_forms.specs.Emitted.{target_byte}
use Rattle.machine_forms.specs.Routine.{routines_code}
use Rattle.rv64_emit.proofs.Bodies.{next_left, none_left}
use Rattle.rv64_emit.proofs.unit.put_bodies.Goals as goal

pub loop-body-init : goal.loop-body-init
loop-body-init c u rs h s = record { rest = rs; stand = s; code = refl }

pub loop-body-preserved : goal.loop-body-preserved
loop-body-preserved c u rs h s =
    let bs = c.args.bodies.now in
    let i = c.loop-body.body-index in
    let b = c.body-item.result in
    let within : i < length bs = omega (arith, c.loop-body-test.true) in
    let here = drop_more bs i b within ∙ ap (λ y. y ∷ drop (i + 1) bs) (sym c.body-item.is) in
    next_left b (drop (i + 1) bs) (drop i bs) (target_byte u) c.loop-body.words.items c.put_body.new.words.items c.loop-body.here c.in_ok-here.here
    (c.args.words.now.items ++ routines_code (target_byte u) c.args.first rs) here (c.loop-body.invariant u rs h s)
    (λ r stands. c.in_ok-put_body.ensures u r h stands) c.in_ok-here.ensures

pub returns : goal.returns
returns c u rs h s =
    let bs = c.args.bodies.now in
    let i = c.loop-body.body-index in
    none_left (drop i bs) (target_byte u) c.loop-body.words.items c.loop-body.here (c.args.words.now.items ++ routines_code (target_byte u) c.args.first rs)
    (drop_all i bs c.loop-body-test.false) (c.loop-body.invariant u rs h s)
