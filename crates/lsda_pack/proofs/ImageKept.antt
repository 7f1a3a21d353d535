-- A packed image is clean, and its functions decide as they did.
use Rattle.std.proofs.Common.{◌≡◌, ◌+◌, ◌-◌, ◌<◌, ◌≤◌, ◌^◌, ℕ, Bool, true, false, List, [], ◌∷◌, ◌++◌, length, map, Result, Ok, Err, refl, ap, sym, subst, ◌∙◌, arith, ◌⊎◌, inl, inr, append_assoc}
use Rattle.std.specs.Prelude.{Option, Some, None, IsOkAnd, filter, fold, flat_map, if◌then◌else◌}
use Rattle.std.specs.List.{AllByRecursion, AllZip}
use Rattle.std.proofs.lemmas.Bool.{cond_both}
use Rattle.std.proofs.lemmas.List.Elements.{filter-append}
use Rattle.eh_bytes.specs.Memory.{Part, Memory, part_with}
use Rattle.table_forms.specs.Fault.{Fault, ◌>>=◌}
use Rattle.table_forms.specs.Fde.{Fde}
use Rattle.table_forms.specs.Frames.{Frames, is_earlier, put_in, sorted, frames_from, frames}
use Rattle.table_forms.specs.Header.{header_at}
use Rattle.table_forms.specs.Lsda.{Table, lsda}
use Rattle.table_forms.specs.Verdict.{Thrown, verdict}
use Rattle.table_forms.proofs.Alls.{all_more}
use Rattle.eh_write.proofs.Alls.{all_append, all_filter}
use Rattle.elf_image.specs.declared.program.ProgramHeader.{ProgramHeader}
use Rattle.elf_image.specs.Loads as forms
use Rattle.elf_image.specs.Loads.{part_of}
use Rattle.elf_image.specs.Runnable.{start_in, frames_start}
use Rattle.elf_image.specs.Clean.{Function, table_read, table_named, function_of, functions_of}
use Rattle.personality.proofs.Members.{all_front, all_back}
use Rattle.lsda_pack.specs.Laws.{FunctionStays}
use Rattle.lsda_pack.specs.PackedImage.{rewritten}
use Rattle.lsda_pack.specs.Placed.{Placed, placed_of}
use Rattle.lsda_pack.specs.Rule.{is_packed}
use Rattle.lsda_pack.specs.SharedTables.{Extent, InFile, with_table, with_extent, with_file, among_tables, extent_in, frames_end, frames_in, frames_extent, header_size, header_in, words_of}
use Rattle.lsda_pack.proofs.Apart.{NoneMeet, Lies, extent_apart, table_behind, table_before, file_apart, range_stays, flat_none, split_apart}
use Rattle.lsda_pack.proofs.ElfFrame.{AllStay}
use Rattle.lsda_pack.proofs.FramesFrame.{PartKept, FramesAt, FramesKept, frames_same}
use Rattle.lsda_pack.proofs.FramesPlaces.{PlacesSame, places_same}
use Rattle.lsda_pack.proofs.FunctionsKept.{Free, Decides, untouched, touched}
use Rattle.elf_image.proofs.Sound.{size_seen}
use Rattle.lsda_pack.proofs.LsdaFrame.{both_none}
use Rattle.lsda_pack.proofs.PackedAgain.{IsShort, Shrinks, again_unpacked, stays_unpacked}
use Rattle.lsda_pack.proofs.Rewrites.{IsOutside, all_outside}
use Rattle.lsda_pack.proofs.Segments.{part_same, part_long, placed_too, in_both, found_part}
use Rattle.lsda_pack.proofs.Sizes.{FitsIn, all_size}
use Rattle.lsda_pack.proofs.TablesPlaced.{placed_for, IsGood, placed_by, NamesNone, NamesTable, names, functions_ok, with_first}

-- regions in order end in the address space as they did
put_all : (P : Fde → Type 0) (f : Fde) (fs : List Fde) → P f → AllByRecursion P fs → AllByRecursion P (put_in f fs)
put_all P f [] own all = (own, tt)
put_all P f (g ∷ gs) own all = cond_both (is_earlier f g) (f ∷ g ∷ gs) (g ∷ put_in f gs) (AllByRecursion P) (λ _. (own, all)) (λ _. (all.0, put_all P f gs own all.1))

pub sorted_all : (P : Fde → Type 0) (fs : List Fde) → AllByRecursion P fs → AllByRecursion P (sorted fs)
sorted_all P [] all = tt
sorted_all P (f ∷ fs) all = put_all P f (sorted fs) all.0 (sorted_all P fs all.1)

-- what is not shared with anything else
abbrev pub NoneShared : List Extent → List InFile → Placed → Type 0
NoneShared others parts t = AllByRecursion (λ e. with_extent t e ≡ []) others × AllByRecursion (λ x. with_file t x ≡ []) parts

pub each_none : (others : List Extent) (parts : List InFile) (ts : List Placed) → flat_map (λ t. flat_map (with_extent t) others ++ flat_map (with_file t) parts) ts ≡ [] →
    AllByRecursion (NoneShared others parts) ts
each_none others parts ts none =
    all_more (λ t. flat_map (with_extent t) others ++ flat_map (with_file t) parts ≡ []) (NoneShared others parts)
    (λ t e. let two = both_none (flat_map (with_extent t) others) (flat_map (with_file t) parts) e in (flat_none (with_extent t) others two.0, flat_none (with_file t) parts two.1))
    ts (flat_none (λ t. flat_map (with_extent t) others ++ flat_map (with_file t) parts) ts none)

middle_words : {X : Type 0} (P : X → Type 0) (f : Placed → List X) (before after : List Placed) (t : Placed) → AllByRecursion P (flat_map f (before ++ t ∷ after)) → AllByRecursion P (f t)
middle_words P f [] after t all = all_front P (f t) (flat_map f after) all
middle_words P f (u ∷ before) after t all = middle_words P f before after t (all_back P (f u) (flat_map f (before ++ t ∷ after)) all)

filter_yes : (before after : List Placed) (t : Placed) → is_packed t ≡ true → filter is_packed (before ++ t ∷ after) ≡ filter is_packed before ++ t ∷ filter is_packed after
filter_yes before after t e = filter-append is_packed before (t ∷ after) ∙ ap (λ b. filter is_packed before ++ (if b then t ∷ filter is_packed after else filter is_packed after)) e

filter_no : (before after : List Placed) (t : Placed) → is_packed t ≡ false → filter is_packed (before ++ t ∷ after) ≡ filter is_packed before ++ filter is_packed after
filter_no before after t e = filter-append is_packed before (t ∷ after) ∙ ap (λ b. filter is_packed before ++ (if b then t ∷ filter is_packed after else filter is_packed after)) e

pub filtered : (P : Placed → Type 0) (ts : List Placed) → AllByRecursion P ts → AllByRecursion P (filter is_packed ts)
filtered P ts all = all_filter P is_packed ts (all_more P (λ t. is_packed t ≡ true → P t) (λ t own e. own) ts all)

both_ok : (R : Function → Function → Type 0) (g : Function) (gs : List Function) (r : Result Function Fault) (s : Result (List Function) Fault) → IsOkAnd r (R g) → IsOkAnd s (AllZip R gs) →
    IsOkAnd (r >>= λ x. s >>= with_first x) (AllZip R (g ∷ gs))
both_ok R g gs (Err f) s one more = absurd one
both_ok R g gs (Ok x) (Err f) one more = absurd more
both_ok R g gs (Ok x) (Ok xs) one more = (one, more)

-- a function stays, and its table is packed no more
pub record StaysShort (file other : List ℕ) (hs : List ProgramHeader) (g x : Function) : Type 0 where
  pub stays : FunctionStays g x
  pub short : AllByRecursion (λ t. is_packed t ≡ false) (placed_by other hs x)
  pub shrinks : AllZip (Shrinks (map (part_of file) hs) (map (part_of other) hs)) (placed_by file hs g) (placed_by other hs x)

from_short : (file other : List ℕ) (hs : List ProgramHeader) (g x : Function) (t : Placed) → FunctionStays g x → placed_by file hs g ≡ t ∷ [] →
    IsShort (map (part_of file) hs) (map (part_of other) hs) t (placed_by other hs x) → StaysShort file other hs g x
from_short file other hs g x t stays only is =
    let Z = Shrinks (map (part_of file) hs) (map (part_of other) hs) in
    record {
      stays = stays;
      short = subst (AllByRecursion (λ u. is_packed u ≡ false)) (sym is.is) (is.short, tt);
      shrinks = subst (λ ts. AllZip Z ts (placed_by other hs x)) (sym only) (subst (AllZip Z (t ∷ [])) (sym is.is) (is.shrinks, tt));
    }

module _ (file : List ℕ) (hs : List ProgramHeader) (placed : AllByRecursion (forms.Placed (length file)) hs) (apart : NoneMeet hs) (tables : List Placed)
    (good : AllByRecursion (IsGood file hs) tables) (alone : among_tables tables ≡ []) where
  abbrev chosen : List Placed
  chosen = filter is_packed tables

  abbrev other : List ℕ
  other = fold rewritten file chosen

  abbrev M : Memory
  M = map (part_of file) hs

  abbrev N : Memory
  N = map (part_of other) hs

  lies_in : (ts : List Placed) → AllByRecursion (IsGood file hs) ts → AllByRecursion (Lies (length file) hs) (filter is_packed ts)
  lies_in ts all = all_filter (Lies (length file) hs) is_packed ts (all_more (IsGood file hs) (λ t. is_packed t ≡ true → Lies (length file) hs t) (λ t g e. (g.in_file e).0) ts all)

  lies : AllByRecursion (Lies (length file) hs) chosen
  lies = lies_in tables good

  fits : AllByRecursion (FitsIn (length file)) chosen
  fits = all_more (Lies (length file) hs) (FitsIn (length file)) (λ t l. l.fits) chosen lies

  pub stays_long : length other ≡ length file
  stays_long = all_size chosen file fits

  -- parts of the file that no table has
  pub parts_stay : (parts : List InFile) → AllByRecursion (λ t. AllByRecursion (λ x. with_file t x ≡ []) parts) chosen → AllStay file other parts
  parts_stay [] none = tt
  parts_stay (x ∷ xs) none = (
    (λ n low high. all_outside chosen file n fits (each n low high chosen whole none)),
    parts_stay xs (all_more (λ t. AllByRecursion (λ x. with_file t x ≡ []) (x ∷ xs)) (λ t. AllByRecursion (λ x. with_file t x ≡ []) xs) (λ t all. all.1) chosen none),
  )
    where
      whole : AllByRecursion (λ t. t.place + (t.end - t.first) ≤ t.file_end) chosen
      whole = all_filter (λ t. t.place + (t.end - t.first) ≤ t.file_end) is_packed tables
          (all_more (IsGood file hs) (λ t. is_packed t ≡ true → t.place + (t.end - t.first) ≤ t.file_end) (λ t g e. (g.in_file e).1) tables good)

      each : (n : ℕ) → x.0 ≤ n → n < x.1 → (ts : List Placed) → AllByRecursion (λ t. t.place + (t.end - t.first) ≤ t.file_end) ts →
          AllByRecursion (λ t. AllByRecursion (λ x. with_file t x ≡ []) (x ∷ xs)) ts → AllByRecursion (IsOutside n) ts
      each n low high [] ws ns = tt
      each n low high (t ∷ ts) ws ns = (file_apart t x.0 x.1 n ws.0 ns.0.0 low high, each n low high ts ws.1 ns.1)

  -- an extent that no table has
  extent_kept : (first end : ℕ) (part : Part) → part_with M first ≡ Some part → AllByRecursion (λ t. AllByRecursion (λ e. with_extent t e ≡ []) (extent_in first end (Some part))) chosen →
      PartKept N first part (first - part.address) (end - part.address)
  extent_kept first end part found none =
      let q = found_part file hs first part placed found in
      let both = in_both file other hs first q.0 stays_long placed q.1 in
      let free = all_more (λ t. AllByRecursion (λ e. with_extent t e ≡ []) (extent_in first end (Some part))) (Free first end)
      (λ t all a low high. extent_apart t (record { first = first; end = end; place = part.file_at + (first - part.address) }) a all.0 low high) chosen none in
      let kept : PartKept N first (part_of file q.0) (first - q.0.address) (end - q.0.address) = record {
        bytes = (part_of other q.0).bytes;
        there = both.there;
        long = part_long file other q.0 stays_long both.placed;
        same = part_same file other q.0 (first - q.0.address) (end - q.0.address) stays_long (range_stays file hs chosen q.0 first first end apart lies q.1 free);
      } in
      subst (λ x. PartKept N first x (first - x.address) (end - x.address)) q.2 kept

  placed_there : AllByRecursion (forms.Placed (length other)) hs
  placed_there = placed_too file other hs stays_long placed

  -- one function
  function_kept : (f : Fde) (g : Function) (before rest : List Placed) → function_of M f ≡ Ok g → tables ≡ before ++ (placed_by file hs g ++ rest) →
      f.region.start + f.region.length < 2 ^ 64 →
      AllByRecursion (λ u. AllByRecursion (λ e. with_extent u e ≡ []) (flat_map (λ t. words_of M t.part t.head.types t.table.types) tables)) chosen → IsOkAnd (function_of N f) (StaysShort file other hs g)
  function_kept f g before rest read split short none = by (names file hs f g placed read)
    where
      fde_is : Function → Fde
      fde_is x = x.fde

      without : (g.fde ≡ f) → NamesNone file hs f g → IsOkAnd (function_of N f) (StaysShort file other hs g)
      without same bare =
          let read' : table_named N f.lsda f.region ≡ Ok None = ap (λ b. if b then Ok None else table_read (lsda N f.lsda f.region)) bare.none in
          subst (λ r. IsOkAnd (r >>= λ t. Ok (record { fde = f; table = t })) (StaysShort file other hs g)) (sym read') (record {
            stays = record { fde = sym same; verdict = λ ip signal thrown inside. ap (λ o. verdict o ip signal thrown) (sym bare.is) };
            short = tt;
            shrinks = subst (λ ts. AllZip (Shrinks M N) ts []) (sym bare.nothing) tt;
          })

      with : (g.fde ≡ f) → (some : NamesTable file hs f g) → IsOkAnd (function_of N f) (StaysShort file other hs g)
      with same some = by_packed (is_packed t) refl
        where
          t : Placed
          t = placed_for file some.placed.load f.lsda f.region some.table some.placed.shape some.placed.head

          whole : tables ≡ before ++ t ∷ rest
          whole = split ∙ ap (λ ts. before ++ (ts ++ rest)) some.only

          pairs : AllByRecursion (λ u. with_table u t ≡ []) before × AllByRecursion (λ u. with_table t u ≡ []) rest
          pairs = split_apart before rest t (subst (λ ts. among_tables ts ≡ []) whole alone)

          free_before : AllByRecursion (Free t.first t.end) before
          free_before = all_more (λ u. with_table u t ≡ []) (Free t.first t.end) (λ u e a low high. table_before t u a e low high) before pairs.0

          free_after : AllByRecursion (Free t.first t.end) rest
          free_after = all_more (λ u. with_table t u ≡ []) (Free t.first t.end) (λ u e a low high. table_behind t u a e low high) rest pairs.1

          goods : AllByRecursion (IsGood file hs) (before ++ t ∷ rest)
          goods = subst (AllByRecursion (IsGood file hs)) whole good

          own_words : AllByRecursion (λ u. AllByRecursion (λ e. with_extent u e ≡ []) (words_of M t.part t.head.types t.table.types)) chosen
          own_words = all_more (λ u. AllByRecursion (λ e. with_extent u e ≡ []) (flat_map (λ v. words_of M v.part v.head.types v.table.types) tables))
              (λ u. AllByRecursion (λ e. with_extent u e ≡ []) (words_of M t.part t.head.types t.table.types))
              (λ u all. middle_words (λ e. with_extent u e ≡ []) (λ v. words_of M v.part v.head.types v.table.types) before rest t
              (subst (λ ts. AllByRecursion (λ e. with_extent u e ≡ []) (flat_map (λ v. words_of M v.part v.head.types v.table.types) ts)) whole all)) chosen none

          told : (u : Table) → lsda N f.lsda f.region ≡ Ok u → ((ip : ℕ) (signal : Bool) (thrown : Thrown) → verdict (Some u) ip signal thrown ≡ verdict (Some some.table) ip signal thrown) →
              IsShort M N t (placed_of N hs f.lsda f.region (Some u)) → IsOkAnd (function_of N f) (StaysShort file other hs g)
          told u reads alike short' =
              let read' : table_named N f.lsda f.region ≡ Ok (Some u) =
              ap (λ b. if b then Ok None else table_read (lsda N f.lsda f.region)) some.some ∙ ap table_read reads in
              subst (λ r. IsOkAnd (r >>= λ x. Ok (record { fde = f; table = x })) (StaysShort file other hs g)) (sym read')
              (from_short file other hs g (record { fde = f; table = Some u }) t
              (record { fde = sym same; verdict = λ ip signal thrown inside. alike ip signal thrown ∙ ap (λ o. verdict o ip signal thrown) (sym some.is) }) some.only short')

          by_read : is_packed t ≡ true → (r : Result Table Fault) → lsda N f.lsda f.region ≡ r → IsOkAnd r (Decides file hs placed apart chosen lies t) → IsOkAnd (function_of N f) (StaysShort file other hs g)
          by_read e (Err x) reads all = absurd all
          by_read e (Ok u) reads all =
              told u reads all.verdicts (again_unpacked M t some.placed.load some.good.in_memory e all.numbers all.can all.few other hs placed_there some.placed.found refl refl all.has u reads all.stands)

          by_packed : (b : Bool) → is_packed t ≡ b → IsOkAnd (function_of N f) (StaysShort file other hs g)
          by_packed false e =
              let without_it : chosen ≡ filter is_packed before ++ filter is_packed rest = ap (filter is_packed) whole ∙ filter_no before rest t e in
              let free = subst (AllByRecursion (Free t.first t.end)) (sym without_it)
              (all_append (Free t.first t.end) (filter is_packed before) (filter is_packed rest) (filtered (Free t.first t.end) before free_before) (filtered (Free t.first t.end) rest free_after)) in
              let reads = untouched file hs placed apart chosen lies t some.placed.load some.good.in_memory some.placed.found refl refl free own_words in
              told some.table reads (λ ip signal thrown. refl)
              (stays_unpacked file hs placed apart chosen lies f.lsda f.region some.table some.placed some.good.in_memory free own_words e reads)
          by_packed true e =
              let own = some.good.in_file e in
              let reads = touched file hs placed apart chosen lies t some.placed.load (filter is_packed before) (filter is_packed rest) some.good.in_memory e own.0 some.placed.found refl own.1
              (ap (filter is_packed) whole ∙ filter_yes before rest t e)
              (lies_in before (all_front (IsGood file hs) before (t ∷ rest) goods)) (lies_in rest (all_back (IsGood file hs) before (t ∷ rest) goods).1)
              (filtered (Free t.first t.end) rest free_after) short in
              by_read e (lsda N f.lsda f.region) refl reads

      by : (g.fde ≡ f) × (NamesNone file hs f g ⊎ NamesTable file hs f g) → IsOkAnd (function_of N f) (StaysShort file other hs g)
      by (same, inl bare) = without same bare
      by (same, inr some) = with same some

  pub functions_kept : (fs : List Fde) (gs : List Function) (before : List Placed) → functions_of M fs ≡ Ok gs → tables ≡ before ++ flat_map (placed_by file hs) gs →
      AllByRecursion (λ f. f.region.start + f.region.length < 2 ^ 64) fs →
      AllByRecursion (λ u. AllByRecursion (λ e. with_extent u e ≡ []) (flat_map (λ t. words_of M t.part t.head.types t.table.types) tables)) chosen →
      IsOkAnd (functions_of N fs) (AllZip (StaysShort file other hs) gs)
  functions_kept [] gs before read split short none = let nothing : [] ≡ gs = cc in subst (λ x. IsOkAnd (functions_of N []) (AllZip (StaysShort file other hs) x)) nothing tt
  functions_kept (f ∷ fs) gs before read split short none =
      let both = functions_ok file hs f fs gs read in
      let g = both.first in
      let rest = both.rest in
      let split' : tables ≡ before ++ (placed_by file hs g ++ flat_map (placed_by file hs) rest) = split ∙ ap (λ x. before ++ flat_map (placed_by file hs) x) (sym both.is) in
      let one = function_kept f g before (flat_map (placed_by file hs) rest) both.first_read split' short.0 none in
      let more = functions_kept fs rest (before ++ placed_by file hs g) both.rest_read
      (split' ∙ sym (append_assoc before (placed_by file hs g) (flat_map (placed_by file hs) rest))) short.1 none in
      subst (λ x. IsOkAnd (functions_of N (f ∷ fs)) (AllZip (StaysShort file other hs) x)) both.is (both_ok (StaysShort file other hs) g rest (function_of N f) (functions_of N fs) one more)

  -- header and frames
  frames_known : (header : ℕ) (read : Frames) → frames M header ≡ Ok read →
      AllByRecursion (λ t. AllByRecursion (λ e. with_extent t e ≡ []) (frames_extent M (frames_start M header))) chosen →
      AllByRecursion (λ t. AllByRecursion (λ e. with_extent t e ≡ []) (header_in header (part_with M header))) chosen → (part : Part) × FramesKept M N header part
  unfolding frames
  frames_known header read e frames_none header_none = by (part_with M header) refl e header_none
    where
      by : (o : Option Part) → part_with M header ≡ o → frames_from M header o ≡ Ok read → AllByRecursion (λ t. AllByRecursion (λ x. with_extent t x ≡ []) (header_in header o)) chosen →
          (part : Part) × FramesKept M N header part
      by None is e' none = absurd cc
      by (Some part) is e' none =
          let p = header - part.address in
          let H = header_at part p in
          let size = header_size H.rows in
          let q = found_part file hs header part placed is in
          let both = in_both file file hs header q.0 refl placed q.1 in
          let low : part.address ≤ header = subst (λ x. x.address ≤ header) q.2 both.low in
          let high = both.high in
          let whole = size_seen file q.0 both.placed in
          let room : header - part.address ≤ length part.bytes = subst (λ x. header - x.address ≤ length x.bytes) q.2 (omega (arith, high, whole)) in
          let end : header + size - part.address ≡ p + size = omega (arith, low) in
          let kept : FramesKept M N header part = record {
            here = is;
            inside = room;
            own = subst (PartKept N header part p) end (extent_kept header (header + size) part is none);
            frames = λ a at. frames_at a part is at;
          } in
          (part, kept)
        where
          frames_at : (a : ℕ) (part : Part) → part_with M header ≡ Some part → (header_at part (header - part.address)).frames_at ≡ Some a → FramesAt M N a
          frames_at a part is at second is' =
              let start : frames_start M header ≡ Some a = ap (start_in header) is ∙ at in
              let none' = subst (λ o. AllByRecursion (λ t. AllByRecursion (λ x. with_extent t x ≡ []) (frames_extent M o)) chosen) start frames_none in
              let none'' = subst (λ o. AllByRecursion (λ t. AllByRecursion (λ x. with_extent t x ≡ []) (frames_in a o)) chosen) is' none' in
              let stop = frames_end second (a - second.address) in
              let end : second.address + stop - second.address ≡ stop = omega arith in
              subst (PartKept N a second (a - second.address)) end (extent_kept a (second.address + stop) second is' none'')

  pub frames_kept : (header : ℕ) (read : Frames) → frames M header ≡ Ok read →
      AllByRecursion (λ t. AllByRecursion (λ e. with_extent t e ≡ []) (frames_extent M (frames_start M header))) chosen →
      AllByRecursion (λ t. AllByRecursion (λ e. with_extent t e ≡ []) (header_in header (part_with M header))) chosen → (frames N header ≡ Ok read) × PlacesSame M N header
  frames_kept header read e frames_none header_none =
      let known = frames_known header read e frames_none header_none in
      (frames_same M N header known.0 read known.1 e, places_same M N header known.0 read known.1 e)
