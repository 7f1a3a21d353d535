use Rattle.std.proofs.Common.{◌≡◌, ◌+◌, ◌-◌, ◌%◌, take, slice_set, refl, ◌∙◌, arith}
use Rattle.std.proofs.Math.ListN.{length-set}
use Rattle.eh_bytes.specs.Spelling.{uleb_spelling}
use Rattle.eh_bytes.proofs.Shortest.{uleb_shortest}
use Rattle.eh_bytes.proofs.ReadAgain.{uleb-uleb_spelling}
use Rattle.eh_bytes.proofs.Spelled.{uleb_more, uleb_last, less_seven, not_last, appended}
use Rattle.eh_bytes.proofs.spelling.put_uleb.Goals as goal

pub loop-rest-init : goal.loop-rest-init
unfolding uleb_spelling
loop-rest-init c = record { few = omega arith; size = refl; small = omega (arith, c.ranges.value.fits); spelled = refl }

pub loop-rest-preserved : goal.loop-rest-preserved
loop-rest-preserved c =
    let buffer = c.loop-rest.spelling in
    let done = c.loop-rest.length in
    let rest = c.loop-rest.rest in
    let left : 10 - (done + 1) ≡ 9 - done = omega arith in
    record {
      few = not_last rest done c.loop-rest.invariant.few c.loop-rest-test.true c.loop-rest.invariant.small;
      small = rw left (less_seven rest done c.loop-rest.invariant.few c.loop-rest.invariant.small);
      size = length-set buffer done (rest % 128 + 128) ∙ c.loop-rest.invariant.size;
      spelled = rw left (uleb_more (uleb_spelling c.args.value) buffer done rest c.loop-rest.invariant.few c.loop-rest-test.true (omega arith) c.loop-rest.invariant.spelled);
    }

pub returns-clause-put : goal.returns-clause-put
returns-clause-put c =
    let buffer = c.loop-rest.spelling in
    let done = c.loop-rest.length in
    let rest = c.loop-rest.rest in
    let spelled : uleb_spelling c.args.value ≡ take (done + 1) (slice_set buffer done rest) =
    uleb_last (uleb_spelling c.args.value) buffer done rest c.loop-rest.invariant.few c.loop-rest-test.false (omega arith) c.loop-rest.invariant.spelled in
    appended c.extend_from_slice.result c.extend_from_slice.new.self.items c.args.out.now.items (take (done + 1) (slice_set buffer done rest)) (uleb_spelling c.args.value) c.extend_from_slice.ensures.items spelled

pub returns-clause-read_again : goal.returns-clause-read_again
returns-clause-read_again c = λ rest. uleb-uleb_spelling c.args.value rest (omega (arith, c.ranges.value.fits))

pub returns-clause-shortest : goal.returns-clause-shortest
returns-clause-shortest c = λ bytes taken. uleb_shortest bytes c.args.value taken
