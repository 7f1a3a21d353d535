use Rattle.std.proofs.Common.{rules, ◌≡◌, ◌∷◌, ◌++◌, arith}
use Rattle.std.proofs.lemmas.List.{take-append-drop}
use Rattle.frame_read.proofs.FdeHalves.{half_back, half_front}
use Rattle.frame_read.proofs.fde_search.half.Goals as goal

pub returns-in-Some-clause-rising : goal.returns-in-Some-clause-rising
returns-in-Some-clause-rising c =
    let cut : c.split_at.result.1.now ≡ c.in-Some.fde.now ∷ c.in-Some.field-0-1.now = search rules in
    let whole : c.split_at.result.0.now ++ c.split_at.result.1.now ≡ c.args.order.now = rw (c.split_at.ensures.front, c.split_at.ensures.back) (take-append-drop _ c.args.order.now) in
    (half_back c.args.pc c.requires.rising.0 c.args.order.now c.split_at.result.0.now c.split_at.result.1.now c.in-Some.fde.now c.in-Some.field-0-1.now
    whole cut c.if-fde-pc.true c.requires.rising.1).0

pub returns-in-Some-clause-found : goal.returns-in-Some-clause-found
returns-in-Some-clause-found c =
    let cut : c.split_at.result.1.now ≡ c.in-Some.fde.now ∷ c.in-Some.field-0-1.now = search rules in
    let whole : c.split_at.result.0.now ++ c.split_at.result.1.now ≡ c.args.order.now = rw (c.split_at.ensures.front, c.split_at.ensures.back) (take-append-drop _ c.args.order.now) in
    (half_back c.args.pc c.requires.rising.0 c.args.order.now c.split_at.result.0.now c.split_at.result.1.now c.in-Some.fde.now c.in-Some.field-0-1.now
    whole cut c.if-fde-pc.true c.requires.rising.1).1

pub returns-in_default-clause-rising : goal.returns-in_default-clause-rising
returns-in_default-clause-rising c =
    let cut : c.split_at.result.1.now ≡ c.in-Some.fde.now ∷ c.in-Some.field-0-1.now = search rules in
    let whole : c.split_at.result.0.now ++ c.split_at.result.1.now ≡ c.args.order.now = rw (c.split_at.ensures.front, c.split_at.ensures.back) (take-append-drop _ c.args.order.now) in
    (half_front c.args.pc c.requires.rising.0 c.args.order.now c.split_at.result.0.now c.split_at.result.1.now c.in-Some.fde.now c.in-Some.field-0-1.now
    whole cut (omega (arith, c.if-fde-pc.false)) c.requires.rising.1).0

pub returns-in_default-clause-found : goal.returns-in_default-clause-found
returns-in_default-clause-found c =
    let cut : c.split_at.result.1.now ≡ c.in-Some.fde.now ∷ c.in-Some.field-0-1.now = search rules in
    let whole : c.split_at.result.0.now ++ c.split_at.result.1.now ≡ c.args.order.now = rw (c.split_at.ensures.front, c.split_at.ensures.back) (take-append-drop _ c.args.order.now) in
    (half_front c.args.pc c.requires.rising.0 c.args.order.now c.split_at.result.0.now c.split_at.result.1.now c.in-Some.fde.now c.in-Some.field-0-1.now
    whole cut (omega (arith, c.if-fde-pc.false)) c.requires.rising.1).1
