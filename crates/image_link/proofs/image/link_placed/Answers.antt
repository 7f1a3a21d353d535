use Rattle.std.proofs.Common.{true}
use Rattle.eh_bytes.specs.Listed.{listed_unit}
use Rattle.elf_image.specs.Stands.{WritesImage}
use Rattle.elf_image.specs.Behind.{StandBehind}
use Rattle.image_forms.specs.Linked.{contents_for, linked}
use Rattle.image_link.proofs.Stands.{writes_of, behind_of}
use Rattle.image_link.proofs.Runs.{runs_unit}
use Rattle.image_link.proofs.image.link_placed.Goals as goal

pub returns : goal.returns
unfolding linked
returns c =
    let u = listed_unit c.args.emitted.now in
    let writes = writes_of u (WritesImage (contents_for u) true (linked u)) (rw c.in_ok-placed.ensures.contents at c.in_ok-file.ensures.runs) in
    record {
      bytes = rw c.in_ok-placed.ensures.contents at c.in_ok-file.ensures.bytes;
      stands = writes;
      lists = c.in_ok-placed.ensures.lists;
      runs = λ can. runs_unit u (linked u) can (c.in_ok-placed.ensures.lists can) (writes can);
      behind = behind_of u (StandBehind (linked u)) (rw c.in_ok-placed.ensures.contents at c.in_ok-file.ensures.behind);
      places = c.in_ok-placed.ensures.places;
      laid = c.in_ok-placed.ensures.laid;
      low = c.in_ok-placed.ensures.low;
      own = c.in_ok-placed.ensures.own;
    }
