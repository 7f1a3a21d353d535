-- The bytes of a written table stand for its lists.
use Rattle.std.proofs.Common.{◌≡◌, ◌+◌, ◌-◌, ◌%◌, ◌<◌, ◌^◌, ℕ, true, List, ◌++◌, length, drop, refl, sym, subst, arith}
use Rattle.std.specs.Prelude.{Option, Some, None, IsSomeAnd, IsOkAnd, reverse}
use Rattle.std.specs.List.{AllByRecursion}
use Rattle.std.proofs.lemmas.Bool.Decides.{nat_tests}
use Rattle.eh_bytes.specs.declared.frames.Region64.{Region64}
use Rattle.eh_bytes.specs.Memory.{Part, Memory, part_with}
use Rattle.eh_bytes.specs.Listed.{ListedTable}
use Rattle.table_forms.specs.LsdaHead.{head_at}
use Rattle.table_forms.specs.Lsda.{lsda_from, lsda}
use Rattle.table_forms.specs.WrittenTable.{HasBytes, SiteFits, TableStands, HeadStands, WritesTable}
use Rattle.eh_write.specs.Written.{table_bytes, is_aligned, least_offset}
use Rattle.eh_write.specs.CanWrite.{CanWrite}
use Rattle.eh_write.specs.Fits.{IsWord, NumbersFit}
use Rattle.eh_write.proofs.Alls.{all_at}
use Rattle.eh_write.proofs.Found.{found_covers}
use Rattle.eh_write.proofs.Aligned.{base_aligned}
use Rattle.eh_write.proofs.Shape.{entries_address, offset_of, offset_bytes, laid}
use Rattle.eh_write.proofs.HeadRead.{head_of, head_read}
use Rattle.eh_write.proofs.EntriesRead.{turned}
use Rattle.eh_write.proofs.Lengths.{offset_within, sites_within, actions_within}
use Rattle.eh_write.proofs.TableRead.{Written, table_stands, table_read}

written : (list : ListedTable) (address : ℕ) (memory : Memory) (part : Part) (rest : List ℕ) → CanWrite list address → NumbersFit list → length (table_bytes list address) < 2 ^ 64 →
    part_with memory address ≡ Some part → drop (address - part.address) part.bytes ≡ table_bytes list address ++ rest →
    Written list address part (address - part.address) rest
written list address memory part rest can numbers short found here =
    let p = address - part.address in
    let below = found_covers memory address part found in
    record {
      good = record {
        types = record {
          laid = laid list address part.bytes p rest here;
          here = omega (arith, below);
          words = λ i t at. all_at IsWord (reverse list.types) (length list.types - 1 - i) t numbers.types (turned list.types i t at);
          near = can.types;
        };
        sites = can.sites;
        chains = can.chains;
        filters = numbers.chains;
        lists = can.lists;
        indices = numbers.lists;
      };
      words = numbers.sites;
      order = can.order;
      offset = omega (arith, short, offset_within list address);
      sites = omega (arith, short, sites_within list address);
      actions = omega (arith, short, actions_within list address);
    }

reads : (list : ListedTable) (address : ℕ) (memory : Memory) (region : Region64) → CanWrite list address → NumbersFit list → length (table_bytes list address) < 2 ^ 64 →
    HasBytes memory address (table_bytes list address) → AllByRecursion (SiteFits memory region) list.sites → IsOkAnd (lsda memory address region) (TableStands list region)
unfolding lsda
reads list address memory region can numbers short has fits = by_part (part_with memory address) refl has
  where
    by_part : (found : Option Part) → part_with memory address ≡ found →
        IsSomeAnd found (λ part. (rest : List ℕ) × (drop (address - part.address) part.bytes ≡ table_bytes list address ++ rest)) →
        IsOkAnd (lsda_from memory address region found) (TableStands list region)
    by_part None is has = absurd has
    by_part (Some part) is (rest, here) =
        let p = address - part.address in
        let w = written list address memory part rest can numbers short is here in
        subst (λ r. IsOkAnd r (TableStands list region)) (sym (table_read list address memory part region p rest w fits)) (table_stands list address memory part region p rest w)

head_stands : (list : ListedTable) (address : ℕ) (memory : Memory) (region : Region64) → CanWrite list address → NumbersFit list → length (table_bytes list address) < 2 ^ 64 →
    HasBytes memory address (table_bytes list address) →
    IsSomeAnd (part_with memory address) (λ part. IsOkAnd (head_at part region (address - part.address)) (HeadStands part region))
head_stands list address memory region can numbers short has = by_part (part_with memory address) refl has
  where
    by_part : (found : Option Part) → part_with memory address ≡ found →
        IsSomeAnd found (λ part. (rest : List ℕ) × (drop (address - part.address) part.bytes ≡ table_bytes list address ++ rest)) →
        IsSomeAnd found (λ part. IsOkAnd (head_at part region (address - part.address)) (HeadStands part region))
    by_part None is has = absurd has
    by_part (Some part) is (rest, here) =
        let p = address - part.address in
        let w = written list address memory part rest can numbers short is here in
        let fit : is_aligned (offset_of list) ≡ true = base_aligned (least_offset list) in
        let even : (2 + length (offset_bytes list) + offset_of list) % 4 ≡ 0 = grind (arith, nat_tests, fit) in
        let below = found_covers memory address part is in
        let aligned = can.aligned in
        let stands : HeadStands part region (head_of list region p) = record {
          pads = refl;
          types = (refl, omega (arith, even, below, aligned));
          sites = refl;
        } in
        subst (λ r. IsOkAnd r (HeadStands part region)) (sym (head_read list (entries_address list address) part region p rest w.good.types.laid w.offset w.sites)) stands

pub writes : (list : ListedTable) (address : ℕ) → NumbersFit list → length (table_bytes list address) < 2 ^ 64 → CanWrite list address → WritesTable list address (table_bytes list address)
writes list address numbers short can = record {
  table = λ memory region has fits. reads list address memory region can numbers short has fits;
  head = λ memory region has. head_stands list address memory region can numbers short has;
}
