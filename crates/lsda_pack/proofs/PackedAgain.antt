-- A table of a packed image is packed no more.
use Rattle.std.proofs.Common.{◌≡◌, ◌+◌, ◌-◌, ◌≤◌, ◌<◌, ◌^◌, ℕ, ℤ, pos, negsuc, Bool, true, false, nat_lt, nat_le, List, [], ◌∷◌, length, map, Result, Ok, refl, ap, sym, subst, ◌∙◌, arith, ◌⊎◌, inl, inr}
use Rattle.std.specs.Prelude.{◌&&◌, ◌++◌, Option, Some, None, IsSomeAnd, drop, flat_map, fold, find}
use Rattle.std.specs.List.{AllByRecursion}
use Rattle.std.proofs.lemmas.Bool.Decides.{nat_tests}
use Rattle.eh_bytes.specs.declared.frames.Region64.{Region64}
use Rattle.eh_bytes.specs.Field.{byte}
use Rattle.eh_bytes.specs.Memory.{Part, Memory, part_with}
use Rattle.table_forms.specs.Fault.{Fault, ◌>>=◌}
use Rattle.table_forms.specs.Keys.{keys, value_at}
use Rattle.table_forms.specs.Lsda.{Table, lsda}
use Rattle.table_forms.specs.Lsda as forms
use Rattle.table_forms.specs.LsdaHead.{Head, Types, head_at, in_table}
use Rattle.table_forms.specs.WrittenTable.{HasBytes, TableStands}
use Rattle.table_forms.proofs.Alls.{all_more}
use Rattle.eh_write.specs.Fits.{NumbersFit}
use Rattle.eh_write.proofs.Alls.{all_keys, all_map}
use Rattle.elf_image.specs.declared.program.ProgramHeader.{ProgramHeader}
use Rattle.elf_image.specs.Loads as loads
use Rattle.elf_image.specs.Loads.{part_of}
use Rattle.elf_image.specs.Runtime.{has_address}
use Rattle.lsda_read.specs.declared.shape.Shape.{Shape}
use Rattle.lsda_read.specs.Names.{lists_named}
use Rattle.lsda_read.specs.Shapes.{base_of, shape_at, shape_of}
use Rattle.lsda_read.specs.WholeTable.{IsWhole, indices_at}
use Rattle.lsda_read.proofs.Whole.{read_whole}
use Rattle.lsda_pack.specs.Laws.{CanPack}
use Rattle.lsda_pack.specs.PackedBytes.{base_for, packed_bytes}
use Rattle.lsda_pack.specs.PackedImage.{rewritten}
use Rattle.lsda_pack.specs.PackedLists.{packed_lists}
use Rattle.lsda_pack.specs.Placed.{Placed, placed_of}
use Rattle.lsda_pack.specs.ReadLists.{lists_read}
use Rattle.lsda_pack.specs.Rule.{are_near, bytes_for, is_packed, is_plain, lists_for, lists_stand, may_pack, pads_count}
use Rattle.lsda_pack.specs.SharedTables.{extent_at, extent_in, with_extent, words_of}
use Rattle.lsda_pack.specs.TableEnd.{table_end}
use Rattle.lsda_pack.proofs.Apart.{NoneMeet, Lies, range_stays}
use Rattle.lsda_pack.proofs.CanPacks.{PlacedIn, allowed, fewer, read_in}
use Rattle.lsda_pack.proofs.EndsFrame.{ends_same}
use Rattle.lsda_pack.proofs.FieldFrame.{front_byte}
use Rattle.lsda_pack.proofs.Fronts.{Same, same_inside}
use Rattle.lsda_pack.proofs.FunctionsKept.{Free, bytes_are, long, words_kept}
use Rattle.lsda_pack.proofs.HeadFrame.{bind_ok, byte_ends, field_reads, head_reads, with_bytes}
use Rattle.lsda_pack.proofs.ListsRead.{is_read}
use Rattle.lsda_pack.proofs.NamesStay.{table_keeps}
use Rattle.lsda_pack.proofs.PackedEnd.{packed_end}
use Rattle.lsda_pack.proofs.ReadAgain.{read_again}
use Rattle.lsda_pack.proofs.Segments.{FileStays, code_stays, found_part, in_both, no_part, part_long, part_same, placed_too}
use Rattle.lsda_pack.proofs.Sizes.{in_row}
use Rattle.lsda_pack.proofs.TableVerdict.{IsPositive}
use Rattle.lsda_pack.proofs.WordsFrame.{fields_same, no_words, words_same}
use Rattle.lsda_pack.proofs.TablesPlaced.{IsPlaced, is_placed, placed_for}

-- a table that stands where another stood, ends no later, and names the same words or none
pub record Shrinks (memory other : Memory) (t u : Placed) : Type 0 where
  pub first : u.first ≡ t.first
  pub place : u.place ≡ t.place
  pub file_end : u.file_end ≡ t.file_end
  pub end : u.end ≤ t.end
  pub words : (words_of other u.part u.head.types u.table.types ≡ words_of memory t.part t.head.types t.table.types) ⊎ (words_of other u.part u.head.types u.table.types ≡ [])

-- and is packed no more
pub record IsShort (memory other : Memory) (t : Placed) (us : List Placed) : Type 0 where
  pub placed : Placed
  pub is : us ≡ placed ∷ []
  pub short : is_packed placed ≡ false
  pub shrinks : Shrinks memory other t placed

-- ---- packed bytes that are not fewer
not_shorter : (t : Placed) → t.end - t.first ≤ length (bytes_for t) → is_packed t ≡ false
unfolding is_packed
not_shorter t enough =
    let none : nat_lt (length (bytes_for t)) (t.end - t.first) ≡ false = grind (arith, nat_tests, enough) in
    ap (λ b. may_pack t && b) none ∙ neither (may_pack t)
  where
    neither : (b : Bool) → (b && false) ≡ false
    neither true = refl
    neither false = refl

-- ---- a table that was packed
above_zero : (fs : List ℤ) → AllByRecursion (λ j. 0 < j) (flat_map forms.lists_named fs)
above_zero [] = tt
above_zero (pos i ∷ fs) = above_zero fs
above_zero (negsuc n ∷ fs) = (omega arith, above_zero fs)

numbers_above : (u : Table) → IsWhole u → AllByRecursion (λ l. 0 < l.0) u.lists
numbers_above u w =
    subst (AllByRecursion (λ (l : ℕ × List ℕ). 0 < l.0)) (sym w.lists)
    (all_map (λ (l : ℕ × List ℕ). 0 < l.0) (λ j. (j, indices_at u j)) (keys (lists_named u))
    (all_keys (λ j. 0 < j) (lists_named u) (above_zero (flat_map (λ (e : ℕ × List ℤ). e.1) u.actions))))

abbrev load_found : ProgramHeader → Option ProgramHeader
load_found l = Some l

load_same : (x y : ProgramHeader) → load_found x ≡ load_found y → x ≡ y
load_same x y e = cc

pub again_unpacked : (memory : Memory) (t : Placed) (load : ProgramHeader) → PlacedIn memory t → is_packed t ≡ true → NumbersFit (lists_for t) → CanPack (lists_for t) t.first →
    length (packed_bytes (lists_for t) t.first) < 2 ^ 63 → (other : List ℕ) (hs : List ProgramHeader) → AllByRecursion (loads.Placed (length other)) hs → find (has_address t.first) hs ≡ Some load →
    t.place ≡ load.offset + (t.first - load.address) → t.file_end ≡ load.offset + load.file_size →
    HasBytes (map (part_of other) hs) t.first (packed_bytes (lists_for t) t.first) → (u : Table) → lsda (map (part_of other) hs) t.first t.region ≡ Ok u →
    TableStands (lists_for t) t.region u → IsShort memory (map (part_of other) hs) t (placed_of (map (part_of other) hs) hs t.first t.region (Some u))
again_unpacked memory t load in' packed numbers can short other hs placed found place file_end has u read stands =
    let N = map (part_of other) hs in
    let q = is_placed other hs t.first t.region u placed read in
    let part = part_of other q.load in
    let bytes = packed_bytes (lists_for t) t.first in
    let here = subst (λ o. IsSomeAnd o (λ part. (rest : List ℕ) × (drop (t.first - part.address) part.bytes ≡ bytes ++ rest))) q.here has in
    let less = fewer t packed in
    let rule = allowed t less.0 in
    let again = read_again memory N t.first t.first t.region t.table u in'.read rule.pads (in_row t.part t.head.types t.table.lists rule.lists) read stands in
    let ends = packed_end (lists_for t) t.first part t.region (t.first - q.load.address) here.0 q.head u numbers can short here.1 q.reads
    (numbers_above u (read_whole N t.first t.region u read)) stands.lists in
    let end = ends.0 in
    let x = placed_for other q.load t.first t.region u q.shape q.head in
    let own : bytes_for x ≡ bytes = bytes_are x ∙ ap (λ l. packed_bytes l t.first) again in
    let size = ap length own in
    let before = ap length (bytes_are t) in
    let fewer_bytes = less.1 in
    let low = q.low in
    let one = load_same q.load load (sym q.found ∙ found) in
    record {
      placed = x;
      is = q.is;
      short = not_shorter x (omega (arith, end, size, low));
      shrinks = record {
        first = refl;
        place = ap (λ l. l.offset + (t.first - l.address)) one ∙ sym place;
        file_end = ap (λ l. l.offset + l.file_size) one ∙ sym file_end;
        end = omega (arith, end, low, before, fewer_bytes);
        words = inr (no_words N part q.head.types u.types ends.1);
      };
    }

-- ---- a table that stays
base_same : (part : Part) (ys : List ℕ) (o : Option Types) → base_of (with_bytes part ys) o ≡ base_of part o
base_same part ys None = refl
base_same part ys (Some types) = refl

shape_kept : (part : Part) (ys : List ℕ) (region : Region64) (p : ℕ) (h : Head) (s : Shape) → head_at part region p ≡ Ok h → shape_at part region p ≡ Ok s → Same p h.actions_at part.bytes ys →
    shape_at (with_bytes part ys) region p ≡ Ok s
unfolding shape_at
shape_kept part ys region p h s head read same =
    let new = with_bytes part ys in
    let start = bind_ok (in_table byte part p) (λ lp. head_at part region p >>= (λ x. Ok (shape_of part x lp.0))) s read in
    let field = field_reads byte front_byte part p start.0 start.1 in
    let ends = byte_ends part p start.0 start.1 in
    let r = head_reads part region p h head in
    let some = r.some in
    let order = r.order in
    let one = field.same ys (same_inside p h.actions_at p start.0.1 part.bytes ys (omega arith) (omega (arith, ends, some, order)) same) in
    let two = r.same ys (same_inside p h.actions_at p h.sites_at part.bytes ys (omega arith) order same) in
    ap (λ x. x >>= λ lp. head_at new region p >>= (λ y. Ok (shape_of new y lp.0))) one ∙ ap (λ x. x >>= (λ y. Ok (shape_of new y start.0.0))) two ∙
    ap (λ b. Ok (record { lp_start = start.0.0; ttype = (shape_of part h start.0.0).ttype; actions = part.address + h.actions_at; base = b })) (base_same part ys h.types) ∙
    sym (ap (λ x. x >>= (λ y. Ok (shape_of part y start.0.0))) head) ∙ start.2

same_packed : (file other : List ℕ) (load : ProgramHeader) (a : ℕ) (region : Region64) (table : Table) (shape : Shape) (head : Head) →
    table_end (part_of other load) head table ≡ table_end (part_of file load) head table → lists_stand (part_of other load) head.types table.lists ≡ lists_stand (part_of file load) head.types table.lists →
    is_packed (placed_for other load a region table shape head) ≡ is_packed (placed_for file load a region table shape head)
unfolding is_packed may_pack bytes_for
same_packed file other load a region table shape head end lists =
    let list = packed_lists (lists_read region.start table) in
    let F : ℕ → Bool → Bool = λ n b.
    nat_le (load.offset + (a - load.address) + (load.address + n - a)) (load.offset + load.file_size) && is_plain shape && pads_count region.start table.sites &&
    are_near a (load.address + n) (base_for list a) list.types && b && nat_lt (length (packed_bytes list a)) (load.address + n - a) in
    ap (λ n. F n (lists_stand (part_of other load) head.types table.lists)) end ∙ ap (F (table_end (part_of file load) head table)) lists

abbrev head_ok : Head → Result Head Fault
head_ok h = Ok h

head_same : (x y : Head) → head_ok x ≡ head_ok y → x ≡ y
head_same x y e = cc

abbrev shape_ok : Shape → Result Shape Fault
shape_ok s = Ok s

shape_same : (x y : Shape) → shape_ok x ≡ shape_ok y → x ≡ y
shape_same x y e = cc

module _ (file : List ℕ) (hs : List ProgramHeader) (placed : AllByRecursion (loads.Placed (length file)) hs) (apart : NoneMeet hs) (chosen : List Placed)
    (lies : AllByRecursion (Lies (length file) hs) chosen) (a : ℕ) (region : Region64) (table : Table) (p : IsPlaced file hs a region table) where
  abbrev other : List ℕ
  other = fold rewritten file chosen

  abbrev M : Memory
  M = map (part_of file) hs

  abbrev N : Memory
  N = map (part_of other) hs

  abbrev t : Placed
  t = placed_for file p.load a region table p.shape p.head

  -- where words lie
  places : (v end : ℕ) → extent_at N v end ≡ extent_at M v end
  places v end = by (part_with M v) refl
    where
      by : (o : Option Part) → part_with M v ≡ o → extent_at N v end ≡ extent_in v end o
      by None is = ap (extent_in v end) (no_part file other hs v (long file hs placed apart chosen lies) placed is)
      by (Some part) is =
          let q = found_part file hs v part placed is in
          let both = in_both file other hs v q.0 (long file hs placed apart chosen lies) placed q.1 in
          ap (extent_in v end) both.there ∙ ap (λ (x : Part). extent_in v end (Some x)) q.2

  pub stays_unpacked : PlacedIn M t → AllByRecursion (Free t.first t.end) chosen →
      AllByRecursion (λ u. AllByRecursion (λ e. with_extent u e ≡ []) (words_of M t.part t.head.types t.table.types)) chosen → is_packed t ≡ false → lsda N a region ≡ Ok table →
      IsShort M N t (placed_of N hs a region (Some table))
  stays_unpacked in' free words unpacked read =
      let load = p.load in
      let head = p.head in
      let part = part_of file load in
      let size = long file hs placed apart chosen lies in
      let both = in_both file other hs a load size placed p.found in
      let low = both.low in
      let from = a - load.address in
      let stop = table_end part head table in
      let to : t.end - load.address ≡ stop = omega arith in
      let ys = (part_of other load).bytes in
      let stays = subst (λ n. FileStays load from n file other) to (range_stays file hs chosen load a a t.end apart lies p.found free) in
      let same = part_same file other load from stop size stays in
      let own = read_in M t in' in
      let kept = table_keeps M N part ys region from head table p.reads own (part_long file other load size both.placed) (code_stays file other hs size placed) same
      (words_kept file hs placed apart chosen lies part head.types table words) in
      let ends = ends_same M N part ys region from head table p.reads own kept same in
      let q = is_placed other hs a region table (placed_too file other hs size placed) read in
      let one = load_same q.load load (sym q.found ∙ p.found) in
      let r = head_reads part region from head p.reads in
      let order = r.order in
      let new_head = r.same ys (same_inside from head.actions_at from head.sites_at part.bytes ys (omega arith) order kept.front) in
      let two = head_same q.head head (sym (subst (λ l. head_at (part_of other l) region (a - l.address) ≡ Ok q.head) one q.reads) ∙ new_head) in
      let new_shape = shape_kept part ys region from head p.shape p.reads p.shaped kept.front in
      let three = shape_same q.shape p.shape (sym (subst (λ l. shape_at (part_of other l) region (a - l.address) ≡ Ok q.shape) one q.shaped) ∙ new_shape) in
      let moved : placed_for other q.load a region table q.shape q.head ≡ placed_for other load a region table p.shape head =
      ap (λ l. placed_for other l a region table q.shape q.head) one ∙ ap (λ s. placed_for other load a region table s q.head) three ∙ ap (placed_for other load a region table p.shape) two in
      let kept_words = words_kept file hs placed apart chosen lies part head.types table words in
      let numbered = is_read M a region table in'.read in
      let some = all_map IsPositive (λ (e : ℕ × ℕ). e.0) table.types
      (all_more (λ (e : ℕ × ℕ). IsPositive e.0 × (value_at 0 table.types e.0 ≡ e.1)) (λ (e : ℕ × ℕ). IsPositive e.0) (λ e is. is.0) table.types numbered.types) in
      let fields = fields_same M N part ys region from head table p.reads own same kept_words some in
      let end = ends.end in
      record {
        placed = placed_for other load a region table p.shape head;
        is = q.is ∙ ap (λ x. x ∷ []) moved;
        short = same_packed file other load a region table p.shape head ends.end ends.lists ∙ unpacked;
        shrinks = record {
          first = refl;
          place = refl;
          file_end = refl;
          end = omega (arith, end);
          words = inl (words_same M N part ys head.types table.types places fields);
        };
      }
