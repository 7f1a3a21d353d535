-- A packed image is as long as before, keeps each byte outside of its packed tables, is clean with the same verdicts, and its tables are packed no more.
use Rattle.std.proofs.Common.{◌≡◌, ◌+◌, ◌<◌, ◌^◌, ℕ, Bool, true, false, Option, Some, None, List, [], ◌∷◌, ◌++◌, length, map, Result, Ok, Err, refl, ap, sym, subst, ◌∙◌, arith}
use Rattle.std.specs.Prelude.{IsOkAnd, slice_get, filter, fold, flat_map}
use Rattle.std.specs.List.{AllByRecursion, AllZip}
use Rattle.eh_bytes.specs.Memory.{part_with}
use Rattle.table_forms.specs.Fault.{Fault, ◌>>=◌, least, answer}
use Rattle.table_forms.specs.Frames.{Frames, sorted, frames}
use Rattle.table_forms.proofs.Alls.{all_more}
use Rattle.eh_write.proofs.Alls.{all_append}
use Rattle.elf_image.specs.declared.program.ProgramHeader.{ProgramHeader}
use Rattle.elf_image.specs.Programs.{headers_of, loaded, runtime_header}
use Rattle.elf_image.specs.Loads.{load_faults, part_of}
use Rattle.elf_image.specs.Runnable.{frames_start}
use Rattle.elf_image.specs.Elf.{Image, image_of, elf}
use Rattle.elf_image.specs.Clean.{Function, CleanImage, functions_of, judged, clean}
use Rattle.frame_read.proofs.Sound.{frames_sound}
use Rattle.personality.proofs.Members.{all_front, all_back}
use Rattle.lsda_pack.specs.Laws.{KeepsOthers, FunctionStays, ImageStays, PackingKeeps}
use Rattle.lsda_pack.specs.PackedImage.{rewritten, Packing, packing_of, packing}
use Rattle.lsda_pack.specs.Placed.{Placed, placed_of, tables_placed}
use Rattle.lsda_pack.specs.Rule.{is_packed}
use Rattle.lsda_pack.specs.SharedFile.{file_faults}
use Rattle.lsda_pack.specs.SharedTables.{Extent, with_extent, with_file, among_tables, frames_extent, header_in, headers_in, record_in, words_of, others_in, file_parts, shared_faults}
use Rattle.lsda_pack.proofs.Apart.{none_meet}
use Rattle.lsda_pack.proofs.ElfFrame.{with_memory, headers_kept, elf_same, elf_facts}
use Rattle.lsda_pack.proofs.FramesPlaces.{PlacesSame}
use Rattle.lsda_pack.proofs.HeadFrame.{bind_ok}
use Rattle.lsda_pack.proofs.PackedAgain.{Shrinks}
use Rattle.lsda_pack.proofs.StaysApart.{none_shared_now, words_within}
use Rattle.lsda_pack.proofs.ImageKept.{StaysShort, sorted_all, NoneShared, each_none, filtered, stays_long, parts_stay, functions_kept, frames_kept}
use Rattle.elf_image.proofs.Sound.{sound, all_placed}
use Rattle.lsda_pack.proofs.LsdaFrame.{none_refused, both_none}
use Rattle.lsda_pack.proofs.Rewrites.{IsOutside, all_outside}
use Rattle.lsda_pack.proofs.Sizes.{FitsIn}
use Rattle.lsda_pack.proofs.TablesPlaced.{placed_by, all_good, all_fit}

-- reading step by step
abbrev pub with_functions : Image → Frames → List Function → Result CleanImage Fault
with_functions i read functions = Ok (record { image = i; cies = read.cies; functions = functions })

abbrev pub with_frames : Image → Frames → Result CleanImage Fault
with_frames i read = functions_of i.memory (sorted read.fdes) >>= with_functions i read

abbrev pub with_image : Image → Result CleanImage Fault
with_image i = frames i.memory i.frame_header >>= with_frames i

pub judged_steps : (file : List ℕ) → clean file ≡ (elf file false >>= with_image)
unfolding judged
judged_steps file = refl

abbrev clean_ok : CleanImage → Result CleanImage Fault
clean_ok i = Ok i

pub clean_same : (x y : CleanImage) → clean_ok x ≡ clean_ok y → x ≡ y
clean_same x y e = cc

-- packing step by step
abbrev pub when_alone : List ℕ → CleanImage → Bool → Result Packing Fault
when_alone file i alone = Ok (packing_of file (tables_placed file i))

abbrev pub when_apart : List ℕ → CleanImage → Bool → Result Packing Fault
when_apart file i apart = answer (least (shared_faults file i (tables_placed file i))) true >>= when_alone file i

abbrev pub when_clean : List ℕ → CleanImage → Result Packing Fault
when_clean file i = answer (least (file_faults [] (loaded (headers_of file)))) true >>= when_apart file i

pub packing_steps : (file : List ℕ) → packing file ≡ (clean file >>= when_clean file)
unfolding packing
packing_steps file = refl

abbrev packing_ok : Packing → Result Packing Fault
packing_ok p = Ok p

packing_same : (x y : Packing) → packing_ok x ≡ packing_ok y → x ≡ y
packing_same x y e = cc

answered : (o : Option Fault) (b : Bool) → answer o true ≡ Ok b → o ≡ None
answered None b e = refl
answered (Some f) b e = absurd cc

record Packs (file : List ℕ) (i : CleanImage) (p : Packing) : Type 0 where
  apart : file_faults [] (loaded (headers_of file)) ≡ []
  alone : shared_faults file i (tables_placed file i) ≡ []
  is : packing_of file (tables_placed file i) ≡ p

packs : (file : List ℕ) (i : CleanImage) (p : Packing) → clean file ≡ Ok i → packing file ≡ Ok p → Packs file i p
packs file i p read packed =
    let start : when_clean file i ≡ Ok p = sym (ap (λ r. r >>= when_clean file) read) ∙ sym (packing_steps file) ∙ packed in
    let files = file_faults [] (loaded (headers_of file)) in
    let tables = shared_faults file i (tables_placed file i) in
    let one = bind_ok (answer (least files) true) (when_apart file i) p start in
    let two = bind_ok (answer (least tables) true) (when_alone file i) p one.2 in
    record {
      apart = none_refused files (answered (least files) one.0 one.1);
      alone = none_refused tables (answered (least tables) two.0 two.1);
      is = packing_same (packing_of file (tables_placed file i)) p two.2;
    }

shared_are : (file : List ℕ) (i : CleanImage) (tables : List Placed) →
    shared_faults file i tables ≡ among_tables tables ++ flat_map (λ t. flat_map (with_extent t) (others_in i tables) ++ flat_map (with_file t) (file_parts file)) tables
unfolding shared_faults
shared_are file i tables = refl

bytes_are : (file : List ℕ) (tables : List Placed) → (packing_of file tables).bytes ≡ fold rewritten file (filter is_packed tables)
unfolding packing_of
bytes_are file tables = refl

tables_counted : (file : List ℕ) (tables : List Placed) → (packing_of file tables).tables ≡ length tables
unfolding packing_of
tables_counted file tables = refl

-- ---- a packed image, whose tables are packed no more
pub record StaysOnce (i : CleanImage) (other : List ℕ) (tables : ℕ) (j : CleanImage) : Type 0 where
  pub stays : ImageStays i j
  pub short : AllByRecursion (λ t. is_packed t ≡ false) (tables_placed other j)
  pub count : length (tables_placed other j) ≡ tables
  pub apart : file_faults [] (loaded (headers_of other)) ≡ []
  pub alone : shared_faults other j (tables_placed other j) ≡ []

all_stay : (file other : List ℕ) (hs : List ProgramHeader) (fs gs : List Function) → AllZip (StaysShort file other hs) fs gs → AllZip FunctionStays fs gs
all_stay file other hs [] [] all = tt
all_stay file other hs [] (g ∷ gs) all = absurd all
all_stay file other hs (f ∷ fs) [] all = absurd all
all_stay file other hs (f ∷ fs) (g ∷ gs) all = (all.0.stays, all_stay file other hs fs gs all.1)

zip_append : {X Y : Type 0} (R : X → Y → Type 0) (xs xs' : List X) (ys ys' : List Y) → AllZip R xs ys → AllZip R xs' ys' → AllZip R (xs ++ xs') (ys ++ ys')
zip_append R [] xs' [] ys' one two = two
zip_append R [] xs' (y ∷ ys) ys' one two = absurd one
zip_append R (x ∷ xs) xs' [] ys' one two = absurd one
zip_append R (x ∷ xs) xs' (y ∷ ys) ys' one two = (one.0, zip_append R xs xs' ys ys' one.1 two)

zip_length : {X Y : Type 0} (R : X → Y → Type 0) (xs : List X) (ys : List Y) → AllZip R xs ys → length ys ≡ length xs
zip_length R [] [] all = refl
zip_length R [] (y ∷ ys) all = absurd all
zip_length R (x ∷ xs) [] all = absurd all
zip_length R (x ∷ xs) (y ∷ ys) all = let more = zip_length R xs ys all.1 in omega (arith, more)

all_short : (file other : List ℕ) (hs : List ProgramHeader) (fs gs : List Function) → AllZip (StaysShort file other hs) fs gs →
    AllByRecursion (λ t. is_packed t ≡ false) (flat_map (placed_by other hs) gs) ×
    AllZip (Shrinks (map (part_of file) hs) (map (part_of other) hs)) (flat_map (placed_by file hs) fs) (flat_map (placed_by other hs) gs)
all_short file other hs [] [] all = (tt, tt)
all_short file other hs [] (g ∷ gs) all = absurd all
all_short file other hs (f ∷ fs) [] all = absurd all
all_short file other hs (f ∷ fs) (g ∷ gs) all =
    let more = all_short file other hs fs gs all.1 in
    let Z = Shrinks (map (part_of file) hs) (map (part_of other) hs) in (
      all_append (λ t. is_packed t ≡ false) (placed_by other hs g) (flat_map (placed_by other hs) gs) all.0.short more.0,
      zip_append Z (placed_by file hs f) (flat_map (placed_by file hs) fs) (placed_by other hs g) (flat_map (placed_by other hs) gs) all.0.shrinks more.1,
    )

placed_again : (other : List ℕ) (image : Image) (headers : List ProgramHeader) (read : Frames) (gs : List Function) → headers_of other ≡ headers →
    tables_placed other (record { image = with_memory image other headers; cies = read.cies; functions = gs }) ≡ flat_map (placed_by other (loaded headers)) gs
unfolding tables_placed
placed_again other image headers read gs same =
    ap (λ hs. flat_map (λ (g : Function). placed_of (with_memory image other headers).memory (loaded hs) g.fde.lsda g.fde.region g.table) gs) same

-- by the parts of which the image is made
module _ (file : List ℕ) (read : Frames) (fs : List Function) where
  abbrev headers : List ProgramHeader
  headers = headers_of file

  abbrev hs : List ProgramHeader
  hs = loaded headers

  abbrev I : Image
  I = image_of file headers

  abbrev whole : CleanImage
  whole = record { image = I; cies = read.cies; functions = fs }

  abbrev tables : List Placed
  tables = flat_map (placed_by file hs) fs

  abbrev other : List ℕ
  other = fold rewritten file (filter is_packed tables)

  tables_are : tables_placed file whole ≡ tables
  unfolding tables_placed
  tables_are = refl

  kept : elf file false ≡ Ok I → frames I.memory I.frame_header ≡ Ok read → functions_of I.memory (sorted read.fdes) ≡ Ok fs → load_faults (length file) 0 [] hs ≡ [] →
      file_faults [] hs ≡ [] → shared_faults file whole tables ≡ [] →
      (length other ≡ length file) × AllByRecursion (FitsIn (length file)) (filter is_packed tables) × IsOkAnd (clean other) (StaysOnce whole other (length tables))
  unfolding least
  kept elf_read frames_read functions_read loads files shared =
      let placed = all_placed (length file) 0 [] hs (sound (length file) 0 [] hs (ap least loads)) in
      let apart = none_meet hs files in
      let good = all_good file hs (sorted read.fdes) fs placed functions_read in
      let chosen = filter is_packed tables in
      let others = others_in whole tables in
      let parts = file_parts file in
      let F = frames_extent I.memory (frames_start I.memory I.frame_header) in
      let H = header_in I.frame_header (part_with I.memory I.frame_header) in
      let W = flat_map (λ t. words_of I.memory t.part t.head.types t.table.types) tables in
      let two = both_none (among_tables tables) (flat_map (λ t. flat_map (with_extent t) others ++ flat_map (with_file t) parts) tables) (sym (shared_are file whole tables) ∙ shared) in
      let own = filtered (NoneShared others parts) tables (each_none others parts tables two.1) in
      let none = λ (t : Placed) (e : Extent). with_extent t e ≡ [] in
      let frames_none = all_more (NoneShared others parts) (λ t. AllByRecursion (none t) F) (λ t s. all_front (none t) F H (all_front (none t) (F ++ H) W s.0)) chosen own in
      let header_none = all_more (NoneShared others parts) (λ t. AllByRecursion (none t) H) (λ t s. all_back (none t) F H (all_front (none t) (F ++ H) W s.0)) chosen own in
      let words_none = all_more (NoneShared others parts) (λ t. AllByRecursion (none t) W) (λ t s. all_back (none t) (F ++ H) W s.0) chosen own in
      let files_none = all_more (NoneShared others parts) (λ t. AllByRecursion (λ x. with_file t x ≡ []) parts) (λ t s. s.1) chosen own in
      let long = stays_long file hs placed apart tables good two.0 in
      let stay = parts_stay file hs placed apart tables good two.0 parts files_none in
      let elf' = elf_same file other I long stay elf_read in
      let heads = headers_kept file other long stay in
      let frames' = frames_kept file hs placed apart tables good two.0 I.frame_header read frames_read frames_none header_none in
      let ends = sorted_all (λ f. f.region.start + f.region.length < 2 ^ 64) read.fdes (frames_sound I.memory I.frame_header read frames_read).ends in
      let functions' = functions_kept file hs placed apart tables good two.0 (sorted read.fdes) fs [] functions_read refl ends words_none in
      let new = with_memory I other headers in
      let reads : clean other ≡ (functions_of new.memory (sorted read.fdes) >>= with_functions new read) =
      judged_steps other ∙ ap (λ r. r >>= with_image) elf' ∙ ap (λ r. r >>= with_frames new) frames'.0 in (
        long,
        all_fit file hs tables good,
        subst (λ r. IsOkAnd r (StaysOnce whole other (length tables))) (sym reads)
            (by heads files two.0 (each_none others parts tables two.1) frames'.1 (functions_of new.memory (sorted read.fdes)) functions'),
      )
    where
      by : headers_of other ≡ headers → file_faults [] hs ≡ [] → among_tables tables ≡ [] → AllByRecursion (NoneShared (others_in whole tables) (file_parts file)) tables →
          PlacesSame (map (part_of file) hs) (map (part_of other) hs) I.frame_header → (r : Result (List Function) Fault) → IsOkAnd r (AllZip (StaysShort file other hs) fs) →
          IsOkAnd (r >>= with_functions (with_memory I other headers) read) (StaysOnce whole other (length tables))
      by heads files alone none places (Err f) all = all
      by heads files alone none places (Ok gs) all =
          let j : CleanImage = record { image = with_memory I other headers; cies = read.cies; functions = gs } in
          let M = map (part_of file) hs in
          let N = map (part_of other) hs in
          let Z = Shrinks M N in
          let placed = placed_again other I headers read gs heads in
          let both = all_short file other hs fs gs all in
          let us = flat_map (placed_by other hs) gs in
          let header = I.frame_header in
          let F = frames_extent M (frames_start M header) in
          let H = header_in header (part_with M header) in
          let old = flat_map (λ t. words_of M t.part t.head.types t.table.types) tables in
          let new = flat_map (λ t. words_of N t.part t.head.types t.table.types) us in
          let front : frames_extent N (frames_start N header) ++ header_in header (part_with N header) ≡ F ++ H =
          ap (λ a. frames_extent N a ++ header_in header (part_with N header)) places.start ∙ ap (λ xs. xs ++ header_in header (part_with N header)) places.frames ∙
          ap (λ xs. F ++ xs) places.own in
          let within : (P : Extent → Type 0) → AllByRecursion P (others_in whole tables) → AllByRecursion P (others_in j us) = λ P own.
          subst (λ xs. AllByRecursion P (xs ++ new)) (sym front)
          (all_append P (F ++ H) new (all_front P (F ++ H) old own) (words_within M N P tables us both.1 (all_back P (F ++ H) old own))) in
          let apart' = none_shared_now M N (others_in whole tables) (others_in j us) (file_parts file) tables us both.1 within alone none in
          let parts : file_parts other ≡ file_parts file = ap (λ hs. (0, 64) ∷ headers_in hs ++ record_in (runtime_header hs)) heads in
          let alone' : shared_faults other j us ≡ [] =
          shared_are other j us ∙
          ap (λ ps. among_tables us ++ flat_map (λ t. flat_map (with_extent t) (others_in j us) ++ flat_map (with_file t) ps) us) parts ∙ apart' in
          record {
            stays = record { entry = refl; cies = refl; functions = all_stay file other hs fs gs all };
            short = subst (AllByRecursion (λ t. is_packed t ≡ false)) (sym placed) both.0;
            count = ap length placed ∙ zip_length Z tables us both.1;
            apart = ap (λ ks. file_faults [] (loaded ks)) heads ∙ files;
            alone = subst (λ ts. shared_faults other j ts ≡ []) (sym placed) alone';
          }

pub image_kept : (file : List ℕ) (i : CleanImage) (p : Packing) → clean file ≡ Ok i → packing file ≡ Ok p → KeepsOthers file i p × IsOkAnd (clean p.bytes) (StaysOnce i p.bytes p.tables)
image_kept file i p clean_read packed =
    let headers = headers_of file in
    let image = bind_ok (elf file false) with_image i (sym (judged_steps file) ∙ clean_read) in
    let facts = elf_facts file image.0 image.1 in
    let I = image_of file headers in
    let elf_read : elf file false ≡ Ok I = image.1 ∙ ap (λ (x : Image). Ok x) (sym facts.is) in
    let steps = subst (λ x. with_image x ≡ Ok i) (sym facts.is) image.2 in
    let read = bind_ok (frames I.memory I.frame_header) (with_frames I) i steps in
    let functions = bind_ok (functions_of I.memory (sorted read.0.fdes)) (with_functions I read.0) i read.2 in
    let same = clean_same (record { image = I; cies = read.0.cies; functions = functions.0 }) i functions.2 in
    subst (λ x. KeepsOthers file x p × IsOkAnd (clean p.bytes) (StaysOnce x p.bytes p.tables)) same
    (by read.0 functions.0 elf_read read.1 functions.1 facts.loads
    (subst (λ x. Packs file x p) (sym same) (packs file i p clean_read packed)))
  where
    by : (read : Frames) (fs : List Function) → elf file false ≡ Ok (image_of file (headers_of file)) →
        frames (image_of file (headers_of file)).memory (image_of file (headers_of file)).frame_header ≡ Ok read →
        functions_of (image_of file (headers_of file)).memory (sorted read.fdes) ≡ Ok fs → load_faults (length file) 0 [] (loaded (headers_of file)) ≡ [] →
        Packs file (record { image = image_of file (headers_of file); cies = read.cies; functions = fs }) p →
        KeepsOthers file (record { image = image_of file (headers_of file); cies = read.cies; functions = fs }) p ×
        IsOkAnd (clean p.bytes) (StaysOnce (record { image = image_of file (headers_of file); cies = read.cies; functions = fs }) p.bytes p.tables)
    by read fs elf_read frames_read functions_read loads packs' =
        let hs = loaded (headers_of file) in
        let tables = flat_map (placed_by file hs) fs in
        let i0 : CleanImage = record { image = image_of file (headers_of file); cies = read.cies; functions = fs } in
        let are : tables_placed file i0 ≡ tables = tables_are file read fs in
        let shared = subst (λ ts. shared_faults file i0 ts ≡ []) are packs'.alone in
        let keeps = kept file read fs elf_read frames_read functions_read loads packs'.apart shared in
        let chosen = filter is_packed tables in
        let bytes : p.bytes ≡ fold rewritten file chosen =
        sym (ap (λ x. x.bytes) packs'.is) ∙ ap (λ ts. (packing_of file ts).bytes) are ∙ bytes_are file tables in
        let count : length tables ≡ p.tables = sym (tables_counted file tables) ∙ ap (λ ts. (packing_of file ts).tables) (sym are) ∙ ap (λ x. x.tables) packs'.is in (
          record {
            size = ap length bytes ∙ keeps.0;
            others = λ n outside. ap (λ xs. slice_get xs n) bytes ∙ all_outside chosen file n keeps.1 (subst (λ ts. AllByRecursion (IsOutside n) (filter is_packed ts)) are outside);
          },
          subst (λ n. IsOkAnd (clean p.bytes) (StaysOnce i0 p.bytes n)) count (subst (λ xs. IsOkAnd (clean xs) (StaysOnce i0 xs (length tables))) (sym bytes) keeps.2),
        )

-- ---- what holds of it
ok_more : (P Q : CleanImage → Type 0) → ((j : CleanImage) → P j → Q j) → (r : Result CleanImage Fault) → IsOkAnd r P → IsOkAnd r Q
ok_more P Q f (Err x) holds = absurd holds
ok_more P Q f (Ok j) holds = f j holds

pub packing_keeps : PackingKeeps
packing_keeps file i p read packed =
    let both = image_kept file i p read packed in
    (both.0, ok_more (StaysOnce i p.bytes p.tables) (ImageStays i) (λ j once. once.stays) (clean p.bytes) both.1)
