-- The FDE that names a table is the only one that does, in whatever order they are.
use Rattle.std.proofs.Common.{◌≡◌, ◌∙◌, refl, sym, ap, subst, arith, ℕ, ◌+◌, ◌-◌, ◌%◌, ◌<◌, ◌==◌, Bool, true, false, List, [], ◌∷◌, length, length-append, map, Option, Some, None, Result, Ok, Err, if◌then◌else◌}
use Rattle.std.specs.Prelude.{find, replicate}
use Rattle.std.specs.List.{AllByRecursion, AllZip}
use Rattle.std.proofs.lemmas.Bool.Decides.{nat_tests}
use Rattle.eh_bytes.specs.Memory.{Memory}
use Rattle.eh_bytes.specs.Listed.{ListedTable}
use Rattle.eh_write.specs.Written.{table_bytes}
use Rattle.table_forms.specs.Fault.{Fault, answer, least, ◌>>=◌}
use Rattle.table_forms.specs.Fde.{Fde}
use Rattle.table_forms.specs.Frames.{is_earlier, put_in, sorted}
use Rattle.table_forms.specs.Lsda.{Table}
use Rattle.table_forms.specs.WrittenFrames.{FdeStands}
use Rattle.elf_image.specs.Clean.{Function, CleanImage, table_named, function_of, functions_of, judged}
use Rattle.elf_image.specs.Runnable.{written_faults, runnable}
use Rattle.elf_image.proofs.Cleaned.{read_from}
use Rattle.image_forms.specs.Placed.{PlacedFunction, all_functions}
use Rattle.image_forms.specs.Tables.{placed_table, linked_frames, linked_table}
use Rattle.image_forms.specs.Placed as placed
use Rattle.image_forms.specs.Linked.{tables_at}
use Rattle.linear_forms.specs.Linear.{UnitCode}
use Rattle.machine_forms.specs.Emitted.{emitted_of}
use Rattle.raise_core.specs.Asked.{table_of}
use Rattle.cxa_runtime.specs.Unexpected.{first_reading, has_list, or_else, readings, with_list}
use Rattle.cxa_runtime.proofs.FirstReading.{first_is}
use Rattle.frame_read.specs.Listed.{fde_listed}
use Rattle.eh_run.specs.Program.{fdes_in, fdes_of, program_of}
use Rattle.image_tables.specs.Read.{IsImageOf}
use Rattle.image_tables.proofs.Sorted.{AtMostOne}

differ : (b : Bool) → b ≡ true → b ≡ false → ⊥
differ true e f = cc
differ false e f = cc

some_same : {A : Type 0} (a b : A) → Some a ≡ Some b → a ≡ b
some_same a b e = cc

-- ---- what holds of a sorted list holds of the list

put_out : (Q : Fde → Type 0) (f : Fde) (gs : List Fde) → AllByRecursion Q (put_in f gs) → Q f × AllByRecursion Q gs
put_out Q f [] all = (all.0, tt)
put_out Q f (g ∷ gs) all = by (put_out Q f gs) (is_earlier f g) all
  where
    by : (AllByRecursion Q (put_in f gs) → Q f × AllByRecursion Q gs) → (b : Bool) → AllByRecursion Q (if b then f ∷ g ∷ gs else g ∷ put_in f gs) → Q f × AllByRecursion Q (g ∷ gs)
    by more true all = (all.0, all.1)
    by more false all = let later = more all.1 in (later.0, (all.0, later.1))

all_out : (Q : Fde → Type 0) (fs : List Fde) → AllByRecursion Q (sorted fs) → AllByRecursion Q fs
all_out Q [] all = tt
all_out Q (f ∷ fs) all = let both = put_out Q f (sorted fs) all in (both.0, all_out Q fs both.1)

put_one : (P : Fde → Bool) (f : Fde) (gs : List Fde) → AtMostOne P (put_in f gs) → (P f ≡ true → AllByRecursion (λ g. P g ≡ false) gs) × AtMostOne P gs
put_one P f [] one = (λ e. tt, tt)
put_one P f (g ∷ gs) one = by (put_one P f gs) (is_earlier f g) one
  where
    other : (b : Bool) → P g ≡ b → (P g ≡ true → ⊥) → P g ≡ false
    other true e not_so = absurd (not_so e)
    other false e not_so = e

    by : (AtMostOne P (put_in f gs) → (P f ≡ true → AllByRecursion (λ g. P g ≡ false) gs) × AtMostOne P gs) → (b : Bool) → AtMostOne P (if b then f ∷ g ∷ gs else g ∷ put_in f gs) →
        (P f ≡ true → AllByRecursion (λ g. P g ≡ false) (g ∷ gs)) × AtMostOne P (g ∷ gs)
    by more true one = one
    by more false one =
        let later = more one.1 in
        let none : P g ≡ true → (P f ≡ false) × AllByRecursion (λ h. P h ≡ false) gs = λ e. put_out (λ h. P h ≡ false) f gs (one.0 e) in (
          λ e. (other (P g) refl (λ h. differ (P f) e (none h).0), later.0 e),
          (λ e. (none e).1, later.1),
        )

one_out : (P : Fde → Bool) (fs : List Fde) → AtMostOne P (sorted fs) → AtMostOne P fs
one_out P [] one = tt
one_out P (f ∷ fs) one = let both = put_one P f (sorted fs) one in (λ e. all_out (λ g. P g ≡ false) fs (both.0 e), one_out P fs both.1)

-- ---- one of them

none_found : (Q : Fde → Bool) (fs : List Fde) (g : Fde) → AllByRecursion (λ h. Q h ≡ false) fs → find Q fs ≡ Some g → ⊥
none_found Q [] g all e = cc
none_found Q (f ∷ fs) g all e = none_found Q fs g all.1 (sym (ap (λ b. if b then Some f else find Q fs) all.0) ∙ e)

-- what passes one test and is found by it is found by another that it passes and at most one does
pub found_by_other : (P Q : Fde → Bool) (fs : List Fde) (g : Fde) → find P fs ≡ Some g → Q g ≡ true → AtMostOne Q fs → find Q fs ≡ Some g
found_by_other P Q [] g e ok one = absurd (cc e)
found_by_other P Q (f ∷ fs) g e ok one = by (P f) (Q f) refl refl (λ d. found_by_other P Q fs g d ok one.1) e
  where
    by : (b c : Bool) → P f ≡ b → Q f ≡ c → (find P fs ≡ Some g → find Q fs ≡ Some g) → (if b then Some f else find P fs) ≡ Some g → (if Q f then Some f else find Q fs) ≡ Some g
    by true c is other later e =
        let same : f ≡ g = some_same f g e in
        ap (λ t. if t then Some f else find Q fs) (ap Q same ∙ ok) ∙ ap Some same
    by false true is other later e = absurd (none_found Q fs g (one.0 other) (later e))
    by false false is other later e = ap (λ t. if t then Some f else find Q fs) other ∙ later e

-- ---- the reading that has a list

abbrev pub named_by : ℕ → Fde → Bool
named_by a f = f.lsda == a

first_found : (memory : Memory) (a j : ℕ) (fdes : List Fde) (g : Fde) (t : Table) → find (named_by a) fdes ≡ Some g → table_of memory g ≡ Some t → has_list j t ≡ true → first_reading memory a j (map fde_listed fdes) ≡ Some t
first_found memory a j [] g t e read has = absurd (cc e)
first_found memory a j (f ∷ fdes) g t e read has = by (f.lsda == a) refl (λ d. first_found memory a j fdes g t d read has) e
  where
    rest : Option Table
    rest = first_reading memory a j (map fde_listed fdes)

    with_test : Bool → Option Table
    with_test b = or_else (if b then with_list j (table_of memory f) else None) rest

    by : (b : Bool) → (f.lsda == a) ≡ b → (find (named_by a) fdes ≡ Some g → rest ≡ Some t) → (if b then Some f else find (named_by a) fdes) ≡ Some g → with_test (f.lsda == a) ≡ Some t
    by true is later e =
        let same : f ≡ g = some_same f g e in
        ap with_test is ∙ ap (λ o. or_else (with_list j o) rest) (ap (table_of memory) same ∙ read) ∙ ap (λ b. or_else (if b then Some t else None) rest) has
    by false is later e = ap with_test is ∙ later e

pub reading_found : (memory : Memory) (a j : ℕ) (fdes : List Fde) (g : Fde) (t : Table) → find (named_by a) fdes ≡ Some g → table_of memory g ≡ Some t → has_list j t ≡ true → find (has_list j) (readings memory fdes a) ≡ Some t
reading_found memory a j fdes g t e read has = sym (first_is memory a j fdes) ∙ first_found memory a j fdes g t e read has

-- ---- tables of an image stand one behind the other

pub table_some : (list : ListedTable) (address : ℕ) → 0 < length (table_bytes list address)
unfolding table_bytes
table_some list address = omega arith

placed_some : (end address : ℕ) (f : PlacedFunction) → 0 < length (placed_table end address f)
placed_some end address f =
    let t = table_bytes (linked_table end f.function.table) address in
    omega (arith, length-append t (replicate ((4 - length t % 4) % 4) 0), table_some (linked_table end f.function.table) address)

named_later : (end a from : ℕ) (fs : List PlacedFunction) (gs : List Fde) → AllZip FdeStands (linked_frames end from fs) gs → a < from → AllByRecursion (λ g. named_by a g ≡ false) gs
named_later end a from [] [] stand low = tt
named_later end a from [] (g ∷ gs) stand low = absurd stand
named_later end a from (f ∷ fs) [] stand low = absurd stand
named_later end a from (f ∷ fs) (g ∷ gs) (first, stand) low =
    (not_it g first.lsda, named_later end a (from + length (placed_table end from f)) fs gs stand (omega (arith, low)))
  where
    not_it : (h : Fde) → h.lsda ≡ from → named_by a h ≡ false
    not_it h is = grind (arith, nat_tests, is, low)

named_once : (end a from : ℕ) (fs : List PlacedFunction) (gs : List Fde) → AllZip FdeStands (linked_frames end from fs) gs → AtMostOne (named_by a) gs
named_once end a from [] [] stand = tt
named_once end a from [] (g ∷ gs) stand = absurd stand
named_once end a from (f ∷ fs) [] stand = absurd stand
named_once end a from (f ∷ fs) (g ∷ gs) (first, stand) =
    let next = from + length (placed_table end from f) in (
      λ is. named_later end a next fs gs stand (omega (arith, at g first.lsda is, placed_some end from f)),
      named_once end a next fs gs stand,
    )
  where
    at : (h : Fde) → h.lsda ≡ from → named_by a h ≡ true → a ≡ from
    at h is test = grind (arith, nat_tests, is, test)

-- ---- in an image

function_kept : (f : Fde) (r : Result (Option Table) Fault) (h : Function) → (r >>= λ t. Ok (record { fde = f; table = t })) ≡ Ok h → h.fde ≡ f
function_kept f (Err e) h is = absurd cc
function_kept f (Ok t) h is = ap (λ (x : Function). x.fde) (sym (same h is))
  where
    made : Function
    made = record { fde = f; table = t }

    ok_same : (x y : Function) (r : Result Function Fault) → Ok x ≡ r → r ≡ Ok y → x ≡ y
    ok_same x y r e g = cc

    same : (h : Function) → (let r : Result Function Fault = Ok made in r) ≡ Ok h → made ≡ h
    same h e = ok_same made h (Ok made) refl e

fdes_kept : (memory : Memory) (gs : List Fde) (hs : List Function) → functions_of memory gs ≡ Ok hs → map (λ (h : Function). h.fde) hs ≡ gs
fdes_kept memory [] hs is = sym (ap (map (λ (h : Function). h.fde)) (ok_same [] hs (Ok []) refl is))
  where
    ok_same : (x y : List Function) (r : Result (List Function) Fault) → Ok x ≡ r → r ≡ Ok y → x ≡ y
    ok_same x y r e g = cc
fdes_kept memory (g ∷ gs) hs is = by_first (function_of memory g) refl (fdes_kept memory gs) is
  where
    fde : Function → Fde
    fde h = h.fde

    ok_same : (x y : List Function) (r : Result (List Function) Fault) → Ok x ≡ r → r ≡ Ok y → x ≡ y
    ok_same x y r e f = cc

    by_rest : (h : Function) → function_of memory g ≡ Ok h → (r : Result (List Function) Fault) → functions_of memory gs ≡ r → ((more : List Function) → functions_of memory gs ≡ Ok more → map fde more ≡ gs) →
        (r >>= λ more. Ok (h ∷ more)) ≡ Ok hs → map fde hs ≡ g ∷ gs
    by_rest h one (Err e) rest later is = absurd cc
    by_rest h one (Ok more) rest later is =
        sym (ap (map fde) (ok_same (h ∷ more) hs (Ok (h ∷ more)) refl is)) ∙ ap (λ f. f ∷ map fde more) (function_kept g (table_named memory g.lsda g.region) h one) ∙ ap (λ fs. g ∷ fs) (later more rest)

    by_first : (r : Result Function Fault) → function_of memory g ≡ r → ((more : List Function) → functions_of memory gs ≡ Ok more → map fde more ≡ gs) →
        (r >>= λ h. functions_of memory gs >>= λ more. Ok (h ∷ more)) ≡ Ok hs → map fde hs ≡ g ∷ gs
    by_first (Err e) one later is = absurd cc
    by_first (Ok h) one later is = by_rest h one (functions_of memory gs) refl later is

judged_of : (file : List ℕ) (i : CleanImage) → runnable file ≡ Ok i → judged file true ≡ Ok i
unfolding runnable
judged_of file i is = by (judged file true) is
  where
    by_fault : (c : CleanImage) (o : Option Fault) → answer o c ≡ Ok i → (let r : Result CleanImage Fault = Ok c in r) ≡ Ok i
    by_fault c None e = e
    by_fault c (Some f) e = absurd cc

    by : (r : Result CleanImage Fault) → (r >>= λ c. answer (least (written_faults c)) c) ≡ Ok i → r ≡ Ok i
    by (Err f) e = absurd cc
    by (Ok c) e = by_fault c (least (written_faults c)) e

-- at most one FDE of an image names a table
pub names_once : (u : UnitCode) (i : CleanImage) (a : ℕ) → IsImageOf u i → AtMostOne (named_by a) (program_of i).image.fdes
unfolding fdes_of
names_once u i a image =
    let e = emitted_of u in
    let from = read_from image.file true i (judged_of image.file i image.read) in
    let kept = fdes_kept i.image.memory (sorted from.read.fdes) i.functions from.functions_read in
    let once = named_once (placed.code_at e) a (tables_at e) (all_functions e) (map (λ (h : Function). h.fde) i.functions) image.stands.frames in
    subst (λ r. AtMostOne (named_by a) (fdes_in r)) (sym from.frames_read) (one_out (named_by a) from.read.fdes (subst (AtMostOne (named_by a)) kept once))
