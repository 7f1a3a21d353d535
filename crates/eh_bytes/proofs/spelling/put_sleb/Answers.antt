use Rattle.std.proofs.Common.{rules, ◌≡◌, ◌≤◌, ◌+◌, ◌-◌, true, false, take, slice_set, refl, sym, ◌∙◌, ap, arith, to_z, to_z-of_z}
use Rattle.std.proofs.Math.ListN.{length-set}
use mir.Val.{SFits}
use mir.Syntax.{w64}
use Rattle.eh_bytes.specs.Spelling.{sleb_spelling, low_seven, fits_seven}
use Rattle.eh_bytes.proofs.Shortest.{sleb_shortest}
use Rattle.eh_bytes.proofs.ReadAgain.{sleb-sleb_spelling}
use Rattle.eh_bytes.proofs.Spelled.{magnitude_in_range, magnitude_large, magnitude_less, not_last_signed, sleb_more, sleb_last, appended}
use Rattle.eh_bytes.proofs.spelling.put_sleb.Goals as goal

pub loop-spelling-init : goal.loop-spelling-init
unfolding sleb_spelling
loop-spelling-init c =
    let in_range : SFits w64 c.args.value = search rules in
    rw (to_z-of_z in_range)
    (record { few = omega arith; size = refl; small = omega (arith, magnitude_in_range c.args.value in_range); spelled = refl })

pub loop-spelling-preserved : goal.loop-spelling-preserved
loop-spelling-preserved c =
    let in_range : SFits w64 c.args.value = search rules in
    let buffer = c.loop-spelling.spelling in
    let done = c.loop-spelling.length in
    let rest = to_z w64 c.loop-spelling.rest-bits in
    let goes : fits_seven rest ≡ false = sym c.fits_seven.ensures ∙ c.loop-spelling-test.true in
    let few : done + 1 ≤ 9 = not_last_signed rest done c.loop-spelling.invariant.few (magnitude_large rest goes) c.loop-spelling.invariant.small in
    let left : 10 - (done + 1) ≡ 9 - done = omega arith in
    let fits : SFits w64 c.without_seven-rest.result = search rules in
    rw (to_z-of_z in_range, to_z-of_z fits, c.without_seven-rest.ensures, c.low_seven.ensures.low)
    (record {
      few = few;
      size = length-set buffer done (low_seven rest + 128) ∙ c.loop-spelling.invariant.size;
      small = magnitude_less rest done few c.loop-spelling.invariant.small;
      spelled = rw left (sleb_more (sleb_spelling c.args.value) buffer done rest c.loop-spelling.invariant.few goes (omega arith) (rw (to_z-of_z in_range) at c.loop-spelling.invariant.spelled));
    })

pub returns-clause-put : goal.returns-clause-put
returns-clause-put c =
    let in_range : SFits w64 c.args.value = search rules in
    let buffer = c.loop-spelling.spelling in
    let done = c.loop-spelling.length in
    let rest = to_z w64 c.loop-spelling.rest-bits in
    let stops : fits_seven rest ≡ true = sym c.fits_seven.ensures ∙ c.loop-spelling-test.false in
    let before = rw (to_z-of_z in_range) at c.loop-spelling.invariant.spelled in
    let spelled : sleb_spelling c.args.value ≡ take (done + 1) (slice_set buffer done (low_seven rest)) =
    sleb_last (sleb_spelling c.args.value) buffer done rest c.loop-spelling.invariant.few stops (omega arith) before in
    let written : take (done + 1) (slice_set buffer done (low_seven rest)) ≡ take (done + 1) (slice_set buffer done c.low_seven-2.result) =
    ap (λ b. take (done + 1) (slice_set buffer done b)) (sym c.low_seven-2.ensures.low) in
    appended c.extend_from_slice.result c.extend_from_slice.new.self.items c.args.out.now.items (take (done + 1) (slice_set buffer done c.low_seven-2.result)) (sleb_spelling c.args.value) c.extend_from_slice.ensures.items (spelled ∙ written)

pub returns-clause-read_again : goal.returns-clause-read_again
returns-clause-read_again c =
    let in_range : SFits w64 c.args.value = search rules in
    λ rest. sleb-sleb_spelling c.args.value rest (magnitude_in_range c.args.value in_range)

pub returns-clause-shortest : goal.returns-clause-shortest
returns-clause-shortest c = λ bytes taken. sleb_shortest bytes c.args.value taken
