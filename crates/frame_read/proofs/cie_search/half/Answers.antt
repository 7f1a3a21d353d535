use Rattle.std.proofs.Common.{rules, ◌≡◌, ◌∷◌, ◌++◌, arith}
use Rattle.std.proofs.lemmas.List.{take-append-drop}
use Rattle.frame_read.specs.declared.entry.CieEntry.{CieEntry}
use Rattle.frame_read.proofs.Halves.{half_back, half_front}
use Rattle.frame_read.proofs.cie_search.half.Goals as goal

pub returns-in-Some-clause-rises : goal.returns-in-Some-clause-rises
returns-in-Some-clause-rises c =
    let cut : c.split_at.result.1.now ≡ c.in-Some.entry.now ∷ c.in-Some.field-0-1.now = search rules in
    let whole : c.split_at.result.0.now ++ c.split_at.result.1.now ≡ c.args.entries.now = rw (c.split_at.ensures.front, c.split_at.ensures.back) (take-append-drop _ c.args.entries.now) in
    (half_back (λ (e : CieEntry). e.at) c.args.at c.requires.rises.0 c.args.entries.now c.split_at.result.0.now c.split_at.result.1.now c.in-Some.entry.now c.in-Some.field-0-1.now
    whole cut c.if-entry-at.true c.requires.rises.1).0

pub returns-in-Some-clause-found : goal.returns-in-Some-clause-found
returns-in-Some-clause-found c =
    let cut : c.split_at.result.1.now ≡ c.in-Some.entry.now ∷ c.in-Some.field-0-1.now = search rules in
    let whole : c.split_at.result.0.now ++ c.split_at.result.1.now ≡ c.args.entries.now = rw (c.split_at.ensures.front, c.split_at.ensures.back) (take-append-drop _ c.args.entries.now) in
    (half_back (λ (e : CieEntry). e.at) c.args.at c.requires.rises.0 c.args.entries.now c.split_at.result.0.now c.split_at.result.1.now c.in-Some.entry.now c.in-Some.field-0-1.now
    whole cut c.if-entry-at.true c.requires.rises.1).1

pub returns-in_default-clause-rises : goal.returns-in_default-clause-rises
returns-in_default-clause-rises c =
    let cut : c.split_at.result.1.now ≡ c.in-Some.entry.now ∷ c.in-Some.field-0-1.now = search rules in
    let whole : c.split_at.result.0.now ++ c.split_at.result.1.now ≡ c.args.entries.now = rw (c.split_at.ensures.front, c.split_at.ensures.back) (take-append-drop _ c.args.entries.now) in
    (half_front (λ (e : CieEntry). e.at) c.args.at c.requires.rises.0 c.args.entries.now c.split_at.result.0.now c.split_at.result.1.now c.in-Some.entry.now c.in-Some.field-0-1.now
    whole cut (let less = c.if-entry-at.false in omega (arith, less)) c.requires.rises.1).0

pub returns-in_default-clause-found : goal.returns-in_default-clause-found
returns-in_default-clause-found c =
    let cut : c.split_at.result.1.now ≡ c.in-Some.entry.now ∷ c.in-Some.field-0-1.now = search rules in
    let whole : c.split_at.result.0.now ++ c.split_at.result.1.now ≡ c.args.entries.now = rw (c.split_at.ensures.front, c.split_at.ensures.back) (take-append-drop _ c.args.entries.now) in
    (half_front (λ (e : CieEntry). e.at) c.args.at c.requires.rises.0 c.args.entries.now c.split_at.result.0.now c.split_at.result.1.now c.in-Some.entry.now c.in-Some.field-0-1.now
    whole cut (let less = c.if-entry-at.false in omega (arith, less)) c.requires.rises.1).1
