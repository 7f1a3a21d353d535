-- Each function of a packed image decides as it did.
use Rattle.std.proofs.Common.{◌≡◌, ◌+◌, ◌-◌, ◌<◌, ◌≤◌, ◌^◌, ℕ, zero, suc, Bool, true, nat_lt, List, [], ◌∷◌, ◌++◌, length, take, drop, map, replicate, reverse, Result, Ok, Err, refl, ap, sym, subst, ◌∙◌, arith, ◌⊎◌, inl, inr, append_assoc}
use Rattle.std.specs.Prelude.{Option, Some, None, IsSomeAnd, IsOkAnd, find, fold, option_and_then, if◌then◌else◌}
use Rattle.std.specs.Int.{w64, from_le_bytes}
use Rattle.std.specs.List.{AllByRecursion}
use Rattle.std.proofs.lemmas.Bool.{cond_both}
use Rattle.std.proofs.lemmas.List.{drop-drop, drop-take, drop-append-le, length-take, length-drop, length-append}
use Rattle.eh_bytes.specs.declared.encoded.Pointer.{Pointer}
use Rattle.eh_bytes.specs.declared.frames.Region64.{Region64}
use Rattle.eh_bytes.specs.Listed.{ListedTable}
use Rattle.eh_bytes.specs.Memory.{Part, Memory, part_with, is_code, word_in, word_at}
use Rattle.table_forms.specs.Fault.{Fault}
use Rattle.table_forms.specs.LsdaHead.{Types}
use Rattle.table_forms.specs.Lsda.{Table, lsda_from, lsda}
use Rattle.table_forms.specs.Verdict.{Thrown, verdict}
use Rattle.table_forms.specs.WrittenTable.{HasBytes, SiteFits, TableStands}
use Rattle.table_forms.proofs.Alls.{all_more}
use Rattle.table_forms.proofs.Kept.{IsIn}
use Rattle.eh_write.specs.Fits.{NumbersFit}
use Rattle.eh_write.specs.Written.{entries_from, lists_bytes}
use Rattle.personality.proofs.Members.{all_front, all_back}
use Rattle.elf_image.specs.declared.program.ProgramHeader.{ProgramHeader}
use Rattle.elf_image.specs.Loads as forms
use Rattle.elf_image.specs.Loads.{part_of}
use Rattle.elf_image.specs.Runtime.{has_address}
use Rattle.lsda_pack.specs.Laws.{CanPack}
use Rattle.lsda_pack.specs.PackedBytes.{body_bytes, front_bytes, no_names, with_names, packed_bytes}
use Rattle.lsda_pack.specs.PackedImage.{spare, rewritten}
use Rattle.lsda_pack.specs.Placed.{Placed}
use Rattle.lsda_pack.specs.Rule.{lists_for, bytes_for, is_packed}
use Rattle.lsda_pack.specs.SharedTables.{Extent, with_extent, extent_in, extent_at, word_of, words_of}
use Rattle.lsda_pack.specs.TableEnd.{table_end}
use Rattle.lsda_pack.proofs.Apart.{NoneMeet, Lies, outside, extent_apart, range_stays}
use Rattle.lsda_pack.proofs.BytesRead.{bytes_stand}
use Rattle.lsda_pack.proofs.CanPacks.{PlacedIn, read_in, allowed, fewer, can_pack, packed_fit}
use Rattle.lsda_pack.proofs.Decides.{packed_table_decides}
use Rattle.lsda_pack.proofs.FilesFrame.{Stays, taken_stays}
use Rattle.lsda_pack.proofs.Fronts.{Same}
use Rattle.lsda_pack.proofs.FitsPacked.{numbers_fit}
use Rattle.lsda_pack.proofs.HeadFrame.{with_bytes}
use Rattle.lsda_pack.proofs.NamesFrame.{SameWord, entry_field}
use Rattle.lsda_pack.proofs.NamesStay.{numbers, WordsKept, table_stays}
use Rattle.lsda_pack.proofs.Rewrites.{IsOutside, written}
use Rattle.lsda_pack.proofs.TypesWords.{types_words, shape_plain}
use Rattle.lsda_pack.proofs.Segments.{part_stays, part_same, part_long, code_stays, code_below, FileStays, in_both, found_part, no_part}
use Rattle.lsda_pack.proofs.Sizes.{FitsIn, all_size, in_row}

-- no table has an address from a place up to another
abbrev pub Free : ℕ → ℕ → Placed → Type 0
Free from end t = (a : ℕ) → from ≤ a → a < end → (a < t.first) ⊎ (t.end ≤ a)

-- each word of a part that stays is the same
word_same : (part : Part) (ys : List ℕ) (at : ℕ) → length ys ≡ length part.bytes → Stays at (at + 8) part.bytes ys → word_in (with_bytes part ys) at ≡ word_in part at
word_same part ys at long stays =
    let size : length (drop at ys) ≡ length (drop at part.bytes) = omega (arith, long, length-drop at ys, length-drop at part.bytes) in
    ap (λ n. if nat_lt n 8 then None else Some (from_le_bytes w64 (take 8 (drop at ys)))) size ∙
    ap (λ xs. if nat_lt (length (drop at part.bytes)) 8 then None else Some (from_le_bytes w64 xs)) (sym (taken_stays at 8 part.bytes ys stays))

-- bytes that stand in a file stand in its segment
in_segment : (place size offset k : ℕ) (file bytes rest zeros : List ℕ) → 0 < length bytes → offset + k ≡ place → k + length bytes ≤ size → drop place file ≡ bytes ++ rest →
    (more : List ℕ) × (drop k (take size (drop offset file) ++ zeros) ≡ bytes ++ more)
in_segment place size offset k file bytes rest zeros some at room here =
    let left = size - k in
    let whole : size ≡ k + left = omega (arith, room) in
    let behind : drop k (drop offset file) ≡ bytes ++ rest = drop-drop k offset file ∙ ap (λ n. drop n file) at ∙ here in
    let long : length (drop k (drop offset file)) ≡ length (bytes ++ rest) = ap length behind in
    let inside : k ≤ length (take size (drop offset file)) =
    omega (arith, some, room, long, length-append bytes rest, length-drop k (drop offset file), length-take size (drop offset file)) in
    let cut : drop k (take size (drop offset file)) ≡ take left (bytes ++ rest) = ap (λ n. drop k (take n (drop offset file))) whole ∙ drop-take k left (drop offset file) ∙ ap (take left) behind in
    let split : take left (bytes ++ rest) ≡ bytes ++ take (left - length bytes) rest = taken left bytes rest (omega (arith, room)) in (
      take (left - length bytes) rest ++ zeros,
      drop-append-le k (take size (drop offset file)) zeros inside ∙ ap (λ xs. xs ++ zeros) (cut ∙ split) ∙ append_assoc bytes (take (left - length bytes) rest) zeros,
    )
  where
    taken : (n : ℕ) (xs ys : List ℕ) → length xs ≤ n → take n (xs ++ ys) ≡ xs ++ take (n - length xs) ys
    taken n [] ys less = let none : n ≡ n - 0 = omega arith in ap (λ m. take m ys) none
    taken zero (x ∷ xs) ys less = absurd (omega (arith, less))
    taken (suc n) (x ∷ xs) ys less =
        let same : n - length xs ≡ suc n - length (x ∷ xs) = omega arith in ap (λ zs. x ∷ zs) (taken n xs ys (omega (arith, less)) ∙ ap (λ m. xs ++ take m ys) same)

-- packed bytes are some
bytes_some : (list : ListedTable) (address : ℕ) → 0 < length (packed_bytes list address)
unfolding packed_bytes
bytes_some list address =
    cond_both (no_names list) (255 ∷ 255 ∷ body_bytes list) (with_names list address (front_bytes list address)) (λ xs. 0 < length xs) (λ _. omega arith)
    (λ _. omega (
      arith,
      length-append (front_bytes list address ++ entries_from (address + length (front_bytes list address)) (reverse list.types)) (lists_bytes list.lists),
      length-append (front_bytes list address) (entries_from (address + length (front_bytes list address)) (reverse list.types)),
      front_some list address,
    ))
  where
    front_some : (l : ListedTable) (a : ℕ) → 0 < length (front_bytes l a)
    front_some l a = omega arith

pub bytes_are : (u : Placed) → bytes_for u ≡ packed_bytes (lists_for u) u.first
unfolding bytes_for
bytes_are u = refl

module _ (file : List ℕ) (hs : List ProgramHeader) (placed : AllByRecursion (forms.Placed (length file)) hs) (apart : NoneMeet hs) (chosen : List Placed)
    (lies : AllByRecursion (Lies (length file) hs) chosen) where
  abbrev other : List ℕ
  other = fold rewritten file chosen

  pub long : length other ≡ length file
  long = all_size chosen file (all_more (Lies (length file) hs) (FitsIn (length file)) (λ t l. l.fits) chosen lies)

  -- a table that no packed one touches is read as before
  word_kept : (v : ℕ) → AllByRecursion (λ u. AllByRecursion (λ e. with_extent u e ≡ []) (extent_at (map (part_of file) hs) v (v + 8))) chosen →
      word_at (map (part_of other) hs) v ≡ word_at (map (part_of file) hs) v
  word_kept v none = by (part_with (map (part_of file) hs) v) refl none
    where
      by : (o : Option Part) → part_with (map (part_of file) hs) v ≡ o → AllByRecursion (λ u. AllByRecursion (λ e. with_extent u e ≡ []) (extent_in v (v + 8) o)) chosen →
          word_at (map (part_of other) hs) v ≡ word_at (map (part_of file) hs) v
      by None is all =
          ap (option_and_then (λ part. word_in part (v - part.address))) (no_part file other hs v long placed is) ∙
          sym (ap (option_and_then (λ part. word_in part (v - part.address))) is)
      by (Some part) is all =
          let q = found_part file hs v part placed is in
          let both = in_both file other hs v q.0 long placed q.1 in
          let low = both.low in
          let from = v - q.0.address in
          let free = all_more (λ u. AllByRecursion (λ e. with_extent u e ≡ []) (extent_in v (v + 8) (Some part))) (Free v (v + 8))
          (λ u e a above below. extent_apart u (record { first = v; end = v + 8; place = part.file_at + (v - part.address) }) a e.0 above below) chosen all in
          let end : v + 8 - q.0.address ≡ from + 8 = omega (arith, low) in
          let stays = part_stays file other q.0 from (from + 8) long (subst (λ n. FileStays q.0 from n file other) end (range_stays file hs chosen q.0 v v (v + 8) apart lies q.1 free)) in
          ap (option_and_then (λ part. word_in part (v - part.address))) both.there ∙
          word_same (part_of file q.0) (part_of other q.0).bytes from (part_long file other q.0 long both.placed) stays ∙
          sym (ap (option_and_then (λ part. word_in part (v - part.address))) both.here)

  pub words_kept : (part : Part) (types : Option Types) (t : Table) → AllByRecursion (λ u. AllByRecursion (λ e. with_extent u e ≡ []) (words_of (map (part_of file) hs) part types t.types)) chosen →
      WordsKept (map (part_of file) hs) (map (part_of other) hs) part types t
  words_kept part None t none = tt
  words_kept part (Some types) t none = each t.types none
    where
      by_field : (r : Result (Pointer × ℕ) Fault) → AllByRecursion (λ u. AllByRecursion (λ e. with_extent u e ≡ []) (word_of (map (part_of file) hs) r)) chosen →
          SameWord (map (part_of file) hs) (map (part_of other) hs) r
      by_field (Err f) all = tt
      by_field (Ok (pointer, next)) all = λ indirect.
          word_kept pointer.value (subst (λ b. AllByRecursion (λ u. AllByRecursion (λ e. with_extent u e ≡ [])
          (if b then extent_at (map (part_of file) hs) pointer.value (pointer.value + 8) else [])) chosen) indirect all)

      first : (xs ys : List Extent) → AllByRecursion (λ u. AllByRecursion (λ e. with_extent u e ≡ []) (xs ++ ys)) chosen → AllByRecursion (λ u. AllByRecursion (λ e. with_extent u e ≡ []) xs) chosen
      first xs ys all = all_more (λ u. AllByRecursion (λ e. with_extent u e ≡ []) (xs ++ ys)) (λ u. AllByRecursion (λ e. with_extent u e ≡ []) xs) (λ u a. all_front (λ e. with_extent u e ≡ []) xs ys a) chosen all

      second : (xs ys : List Extent) → AllByRecursion (λ u. AllByRecursion (λ e. with_extent u e ≡ []) (xs ++ ys)) chosen → AllByRecursion (λ u. AllByRecursion (λ e. with_extent u e ≡ []) ys) chosen
      second xs ys all = all_more (λ u. AllByRecursion (λ e. with_extent u e ≡ []) (xs ++ ys)) (λ u. AllByRecursion (λ e. with_extent u e ≡ []) ys) (λ u a. all_back (λ e. with_extent u e ≡ []) xs ys a) chosen all

      each : (es : List (ℕ × ℕ)) → AllByRecursion (λ u. AllByRecursion (λ e. with_extent u e ≡ []) (words_of (map (part_of file) hs) part (Some types) es)) chosen →
          (i : ℕ) → IsIn i (numbers es) → SameWord (map (part_of file) hs) (map (part_of other) hs) (entry_field part types i)
      each [] all i is = absurd is
      each (e ∷ es) all i (inl same) =
          subst (λ k. SameWord (map (part_of file) hs) (map (part_of other) hs) (entry_field part types k)) same
          (by_field (entry_field part types e.0) (first (word_of (map (part_of file) hs) (entry_field part types e.0)) (words_of (map (part_of file) hs) part (Some types) es) all))
      each (e ∷ es) all i (inr is) = each es (second (word_of (map (part_of file) hs) (entry_field part types e.0)) (words_of (map (part_of file) hs) part (Some types) es) all) i is

  pub untouched : (t : Placed) (load : ProgramHeader) → PlacedIn (map (part_of file) hs) t → find (has_address t.first) hs ≡ Some load → t.part ≡ part_of file load →
      t.end ≡ load.address + table_end t.part t.head t.table → AllByRecursion (Free t.first t.end) chosen →
      AllByRecursion (λ u. AllByRecursion (λ e. with_extent u e ≡ []) (words_of (map (part_of file) hs) t.part t.head.types t.table.types)) chosen →
      lsda (map (part_of other) hs) t.first t.region ≡ Ok t.table
  unfolding lsda
  untouched t load in' found is end free words =
      let both = in_both file other hs t.first load long placed found in
      let low = both.low in
      let from = t.first - load.address in
      let to : t.end - load.address ≡ table_end t.part t.head t.table = omega (arith, end) in
      let address : t.first - t.part.address ≡ from = ap (λ p. t.first - p.address) is in
      let stays = subst (λ n. FileStays load from n file other) to (range_stays file hs chosen load t.first t.first t.end apart lies found free) in
      let ys = (part_of other load).bytes in
      let same = part_same file other load from (table_end t.part t.head t.table) long stays in
      let same' = subst (λ p. Same p (table_end t.part t.head t.table) t.part.bytes ys) (sym address) (subst (λ p. Same from (table_end t.part t.head t.table) p.bytes ys) (sym is) same) in
      let size : length ys ≡ length t.part.bytes = part_long file other load long both.placed ∙ ap (λ p. length p.bytes) (sym is) in
      let there : part_with (map (part_of other) hs) t.first ≡ Some (with_bytes t.part ys) = both.there ∙ ap (λ p. Some (with_bytes p ys)) (sym is) in
      ap (lsda_from (map (part_of other) hs) t.first t.region) there ∙
      table_stays (map (part_of file) hs) (map (part_of other) hs) t.part ys t.region (t.first - t.part.address) t.head t.table in'.head (read_in (map (part_of file) hs) t in') size
      (code_stays file other hs long placed) same' (words_kept t.part t.head.types t.table words)

  -- a packed table is read as its packed lists, and decides as before
  pub record Decides (t : Placed) (u : Table) : Type 0 where
    pub verdicts : (ip : ℕ) (signal : Bool) (thrown : Thrown) → verdict (Some u) ip signal thrown ≡ verdict (Some t.table) ip signal thrown
    pub numbers : NumbersFit (lists_for t)
    pub can : CanPack (lists_for t) t.first
    pub few : length (packed_bytes (lists_for t) t.first) < 2 ^ 63
    pub has : HasBytes (map (part_of other) hs) t.first (packed_bytes (lists_for t) t.first)
    pub stands : TableStands (lists_for t) t.region u

  fits_too : (region : Region64) (memory new : Memory) → ((a : ℕ) → is_code new a ≡ is_code memory a) → (t : Placed) → AllByRecursion (SiteFits memory region) (lists_for t).sites →
      AllByRecursion (SiteFits new region) (lists_for t).sites
  fits_too region memory new code t all =
      all_more (SiteFits memory region) (SiteFits new region) (λ s fits. record { inside = fits.inside; code = λ some. code (region.start + s.pad) ∙ fits.code some }) (lists_for t).sites all

  pub touched : (t : Placed) (load : ProgramHeader) (before after : List Placed) → PlacedIn (map (part_of file) hs) t → is_packed t ≡ true → Lies (length file) hs t →
      find (has_address t.first) hs ≡ Some load → t.place ≡ load.offset + (t.first - load.address) → t.place + (t.end - t.first) ≤ load.offset + load.file_size →
      chosen ≡ before ++ t ∷ after → AllByRecursion (Lies (length file) hs) before → AllByRecursion (Lies (length file) hs) after → AllByRecursion (Free t.first t.end) after →
      t.region.start + t.region.length < 2 ^ 64 →
      IsOkAnd (lsda (map (part_of other) hs) t.first t.region) (Decides t)
  touched t load before after in' packed own found place inside is lies_before lies_after free short =
      let M = map (part_of file) hs in
      let N = map (part_of other) hs in
      let both = in_both file other hs t.first load long placed found in
      let low = both.low in
      let rule = allowed t (fewer t packed).0 in
      let less = (fewer t packed).1 in
      let from = t.first - load.address in
      let fits = λ (ts : List Placed) (ls : AllByRecursion (Lies (length file) hs) ts). all_more (Lies (length file) hs) (FitsIn (length file)) (λ u l. l.fits) ts ls in
      let out : (n : ℕ) → t.place ≤ n → n < t.place + (t.end - t.first) → AllByRecursion (IsOutside n) after = λ n above below. each n above below after lies_after free in
      let stands' = written before after t file (fits before lies_before) own.fits (fits after lies_after) out in
      let rest = replicate (spare t) 0 ++ drop (t.end - t.first) (drop t.place (fold rewritten file (before ++ t ∷ after))) in
      let stands : drop t.place other ≡ bytes_for t ++ rest = ap (λ ts. drop t.place (fold rewritten file ts)) is ∙ stands' in
      let zeros : List ℕ = replicate (load.memory_size - load.file_size) 0 in
      let segment = in_segment t.place load.file_size load.offset from other (bytes_for t) rest zeros (some_bytes t) (sym place) (omega (arith, inside, place, less)) stands in
      let words = types_words M t.part t.region (t.first - t.part.address) t.head t.table in'.head (read_in M t in') (shape_plain t.shape t.head.types in'.formed rule.plain) in
      let numbers = numbers_fit M t in' packed short (code_below file hs placed) words in
      let can = can_pack M t in' packed in
      let small = both.placed.small in
      let room = both.placed.room in
      let few : length (packed_bytes (lists_for t) t.first) < 2 ^ 63 = few_bytes t (omega (arith, less, inside, place, small, room)) in
      let has : HasBytes N t.first (packed_bytes (lists_for t) t.first) =
      subst (λ o. IsSomeAnd o (λ part. (more : List ℕ) × (drop (t.first - part.address) part.bytes ≡ packed_bytes (lists_for t) t.first ++ more))) (sym both.there)
      (segment.0, segment.1 ∙ ap (λ xs. xs ++ segment.0) (bytes_are t)) in
      let table = bytes_stand (lists_for t) t.first numbers can few N t.region has (fits_too t.region M N (code_stays file other hs long placed) t (packed_fit M t in' packed)) in
      by numbers can few has (lsda N t.first t.region) refl table
    where
      some_bytes : (u : Placed) → 0 < length (bytes_for u)
      some_bytes u = subst (λ xs. 0 < length xs) (sym (bytes_are u)) (bytes_some (lists_for u) u.first)

      few_bytes : (u : Placed) → length (bytes_for u) < 2 ^ 63 → length (packed_bytes (lists_for u) u.first) < 2 ^ 63
      few_bytes u e = subst (λ xs. length xs < 2 ^ 63) (bytes_are u) e

      each : (n : ℕ) → t.place ≤ n → n < t.place + (t.end - t.first) → (us : List Placed) → AllByRecursion (Lies (length file) hs) us → AllByRecursion (Free t.first t.end) us → AllByRecursion (IsOutside n) us
      each n above below [] ls fs = tt
      each n above below (u ∷ us) ls fs =
          let k = n - load.offset in
          let at : load.offset + k ≡ n = omega (arith, above, place) in
          let low = (in_both file other hs t.first load long placed found).low in (
            subst (λ m. IsOutside m u) at (outside (length file) hs u load t.first k apart ls.0 found (omega (arith, above, below, place, inside))
                (fs.0 (load.address + k) (omega (arith, above, place, low)) (omega (arith, above, below, place, low)))),
            each n above below us ls.1 fs.1,
          )

      by : NumbersFit (lists_for t) → CanPack (lists_for t) t.first → length (packed_bytes (lists_for t) t.first) < 2 ^ 63 →
          HasBytes (map (part_of other) hs) t.first (packed_bytes (lists_for t) t.first) → (r : Result Table Fault) → lsda (map (part_of other) hs) t.first t.region ≡ r →
          IsOkAnd r (TableStands (lists_for t) t.region) → IsOkAnd r (Decides t)
      by numbers can few has (Err f) at none = absurd none
      by numbers can few has (Ok u) at stands = record {
        numbers = numbers;
        can = can;
        few = few;
        has = has;
        stands = stands;
        verdicts = λ ip signal thrown. packed_table_decides (map (part_of file) hs) (map (part_of other) hs) t.first t.first t.region t.table u in'.read
            (allowed t (fewer t packed).0).pads (in_row t.part t.head.types t.table.lists (allowed t (fewer t packed).0).lists) at stands ip signal thrown;
      }
