use Rattle.std.proofs.Common.{◌≡◌, ◌++◌, length}
use Rattle.std.specs.Prelude.{flat_map}
use Rattle.elf_image.specs.Clean.{CleanImage}
use Rattle.place_verdicts.specs.Image.{IsRead}
use Rattle.image_doubts.specs.Doubts.{site_doubts}
use Rattle.image_doubts.proofs.site.put_sites.Given as goal

abbrev pub invariant-sites : goal.invariant-sites
invariant-sites l =
    (c : CleanImage) → IsRead l.image c →
    l.initial.out.items ++ flat_map (site_doubts c.functions l.region l.marks) l.table.sites ≡ l.out.items ++ flat_map (site_doubts c.functions l.region l.marks) l.sites

abbrev pub decreases-sites : goal.decreases-sites
decreases-sites l = length l.sites
