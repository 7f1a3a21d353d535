use Rattle.std.proofs.Common.{rules, ◌≡◌, ◌∷◌, [], List, subst, sym}
use Rattle.eh_bytes.specs.Memory.{memory_of}
use Rattle.frame_read.specs.declared.listed.Fde.{Fde}
use Rattle.lsda_pack.specs.Placings.{AreFunctions}
use Rattle.lsda_pack.proofs.PlacingTurns.{SoFar, empty, first_function, none_yet, one_more, all_placed}
use Rattle.lsda_pack.proofs.placing.place_all.Goals as goal

pub place_of-requires-clause-ends : goal.place_of-requires-clause-ends
place_of-requires-clause-ends c =
    let m = memory_of c.args.memory.now in
    let kept = c.fdes.invariant c.requires.0 c.requires.1 in
    let split : c.fdes.rest.now ≡ c.in-Some.fde.now ∷ c.in-Some.others.now = search rules in
    let first = first_function m c.in-Some.fde.now c.in-Some.others.now kept.more (subst (λ (fs : List Fde). AreFunctions m fs kept.more) split kept.are) in first.1.ends

pub place_of-requires-clause-read : goal.place_of-requires-clause-read
place_of-requires-clause-read c =
    let m = memory_of c.args.memory.now in
    let kept = c.fdes.invariant c.requires.0 c.requires.1 in
    let split : c.fdes.rest.now ≡ c.in-Some.fde.now ∷ c.in-Some.others.now = search rules in
    let first = first_function m c.in-Some.fde.now c.in-Some.others.now kept.more (subst (λ (fs : List Fde). AreFunctions m fs kept.more) split kept.are) in
    (first.0.table, first.1.table)

pub fdes-preserved : goal.fdes-preserved
fdes-preserved c = λ gs are.
    let m = memory_of c.args.memory.now in
    let kept = c.fdes.invariant gs are in
    let split : c.fdes.rest.now ≡ c.in-Some.fde.now ∷ c.in-Some.others.now = search rules in
    one_more m c.args.loads.now c.fdes.placings.items c.push_placed.new.placings.items c.in-Some.fde.now c.in-Some.others.now c.in_ok-placed.placed gs
    c.in_ok-placed.ensures c.in_ok-push_placed.ensures (subst (λ (fs : List Fde). SoFar m c.args.loads.now c.fdes.placings.items fs gs) split kept)

pub returns : goal.returns
returns c = λ gs are.
    let m = memory_of c.args.memory.now in
    let none : c.fdes.rest.now ≡ [] = empty c.fdes.rest.now (c.in_default.ensures {u = tt}).cases in
    all_placed m c.args.loads.now c.fdes.placings.items gs (subst (λ (fs : List Fde). SoFar m c.args.loads.now c.fdes.placings.items fs gs) none (c.fdes.invariant gs are))

pub fdes-init : goal.fdes-init
fdes-init c = λ gs are.
    let m = memory_of c.args.memory.now in
    let none : c.new-placings.result.items ≡ [] = search rules in
    subst (λ ps. SoFar m c.args.loads.now ps c.args.fdes.now gs) (sym none) (none_yet m c.args.loads.now c.args.fdes.now gs are)
