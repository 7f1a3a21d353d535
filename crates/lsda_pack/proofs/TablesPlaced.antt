-- The tables of an image as they are placed in it.
use Rattle.std.proofs.Common.{◌≡◌, ◌+◌, ◌-◌, ◌≤◌, ◌==◌, ℕ, Bool, true, false, nat_le, List, [], ◌∷◌, length, map, Result, Ok, Err, refl, ap, sym, subst, ◌∙◌, arith, ◌⊎◌, inl, inr}
use Rattle.std.specs.Prelude.{Option, Some, None, filter, find, flat_map, if◌then◌else◌}
use Rattle.std.specs.List.{AllByRecursion}
use Rattle.std.proofs.lemmas.Bool.Decides.{nat_tests}
use Rattle.eh_bytes.specs.declared.frames.Region64.{Region64}
use Rattle.eh_bytes.specs.Memory.{Part, part_with}
use Rattle.eh_bytes.specs.Field.{byte}
use Rattle.table_forms.specs.Fault.{Fault, ◌>>=◌}
use Rattle.table_forms.specs.Fde.{Fde}
use Rattle.table_forms.specs.LsdaHead.{Head, head_at, in_table}
use Rattle.table_forms.specs.Lsda.{Table, lsda_from, lsda_in, lsda}
use Rattle.elf_image.specs.declared.program.ProgramHeader.{ProgramHeader}
use Rattle.elf_image.specs.Loads as forms
use Rattle.elf_image.specs.Loads.{part_of}
use Rattle.elf_image.specs.Runtime.{has_address}
use Rattle.elf_image.specs.Clean.{Function, table_read, table_named, function_of, functions_of}
use Rattle.table_forms.proofs.Alls.{all_more}
use Rattle.eh_write.proofs.Alls.{all_append, all_filter}
use Rattle.lsda_read.specs.declared.shape.Shape.{Shape}
use Rattle.lsda_read.specs.Shapes.{encoding_of, shape_of, shape_at}
use Rattle.lsda_pack.specs.Placed.{Placed, placed_with, placed_in, placed_of}
use Rattle.lsda_pack.specs.Rule.{is_packed}
use Rattle.lsda_pack.specs.TableEnd.{table_end}
use Rattle.lsda_pack.proofs.Apart.{Lies}
use Rattle.lsda_pack.proofs.CanPacks.{PlacedIn, allowed, fewer}
use Rattle.lsda_pack.proofs.HeadFrame.{bind_ok, after_start, in_steps}
use Rattle.lsda_pack.proofs.LsdaFrame as tables
use Rattle.lsda_pack.proofs.Segments.{in_both, found_part}
use Rattle.lsda_pack.proofs.Sizes.{FitsIn}

-- a table in a segment of the file
abbrev pub placed_for : List ℕ → ProgramHeader → ℕ → Region64 → Table → Shape → Head → Placed
placed_for file load a region table shape h = record {
  first = a;
  end = load.address + table_end (part_of file load) h table;
  place = load.offset + (a - load.address);
  file_end = load.offset + load.file_size;
  region = region;
  part = part_of file load;
  head = h;
  shape = shape;
  table = table;
}

pub record IsPlaced (file : List ℕ) (hs : List ProgramHeader) (a : ℕ) (region : Region64) (table : Table) : Type 0 where
  pub load : ProgramHeader
  pub shape : Shape
  pub head : Head
  pub found : find (has_address a) hs ≡ Some load
  pub low : load.address ≤ a
  pub placed : forms.Placed (length file) load
  pub reads : head_at (part_of file load) region (a - load.address) ≡ Ok head
  pub here : part_with (map (part_of file) hs) a ≡ Some (part_of file load)
  pub formed : shape.ttype ≡ encoding_of head.types
  pub shaped : shape_at (part_of file load) region (a - load.address) ≡ Ok shape
  pub is : placed_of (map (part_of file) hs) hs a region (Some table) ≡ placed_for file load a region table shape head ∷ []

shape_read : (part : Part) (region : Region64) (p : ℕ) (h : Head) → head_at part region p ≡ Ok h → (s : Shape) × (shape_at part region p ≡ Ok s) × (s.ttype ≡ encoding_of h.types)
unfolding shape_at
shape_read part region p h read =
    let start = bind_ok (in_table byte part p) (after_start part region p) h (sym (in_steps part region p) ∙ read) in (
      shape_of part h start.0.0,
      ap (λ r. r >>= λ s. head_at part region p >>= λ x. Ok (shape_of part x s.0)) start.1 ∙ ap (λ r. r >>= λ x. Ok (shape_of part x start.0.0)) read,
      refl,
    )

pub is_placed : (file : List ℕ) (hs : List ProgramHeader) (a : ℕ) (region : Region64) (table : Table) → AllByRecursion (forms.Placed (length file)) hs →
    lsda (map (part_of file) hs) a region ≡ Ok table → IsPlaced file hs a region table
unfolding lsda
is_placed file hs a region table placed read = by (part_with (map (part_of file) hs) a) refl read
  where
    by : (o : Option Part) → part_with (map (part_of file) hs) a ≡ o → lsda_from (map (part_of file) hs) a region o ≡ Ok table → IsPlaced file hs a region table
    by None is e = absurd cc
    by (Some part) is e =
        let load = found_part file hs a part placed is in
        let both = in_both file file hs a load.0 refl placed load.1 in
        let low = both.low in
        let e' : lsda_in (map (part_of file) hs) region (a - load.0.address) (part_of file load.0) ≡ Ok table =
        ap (λ x. lsda_from (map (part_of file) hs) a region (Some x)) load.2 ∙ e in
        let head = bind_ok (head_at (part_of file load.0) region (a - load.0.address)) (tables.answered (map (part_of file) hs) region (part_of file load.0)) table
        (sym (tables.in_steps (map (part_of file) hs) region (a - load.0.address) (part_of file load.0)) ∙ e') in
        let shape = shape_read (part_of file load.0) region (a - load.0.address) head.0 head.1 in
        record {
          load = load.0;
          shape = shape.0;
          head = head.0;
          found = load.1;
          low = low;
          placed = both.placed;
          reads = head.1;
          here = both.here;
          formed = shape.2;
          shaped = shape.1;
          is = ap (λ o. placed_in a region table o (find (has_address a) hs)) both.here ∙ ap (placed_in a region table (Some (part_of file load.0))) load.1 ∙
              ap (λ s. placed_with a region table (part_of file load.0) load.0 s (head_at (part_of file load.0) region (a - load.0.address))) shape.1 ∙
              ap (placed_with a region table (part_of file load.0) load.0 (Ok shape.0)) head.1;
        }

-- where it stands in memory, and in the file if it is packed
pub record IsGood (file : List ℕ) (hs : List ProgramHeader) (t : Placed) : Type 0 where
  pub in_memory : PlacedIn (map (part_of file) hs) t
  pub in_file : is_packed t ≡ true → Lies (length file) hs t × (t.place + (t.end - t.first) ≤ t.file_end)

in_file_true : (a b : ℕ) → nat_le a b ≡ true → a ≤ b
in_file_true a b e = grind (arith, nat_tests, e)

pub is_good : (file : List ℕ) (hs : List ProgramHeader) (a : ℕ) (region : Region64) (table : Table) (p : IsPlaced file hs a region table) → lsda (map (part_of file) hs) a region ≡ Ok table →
    IsGood file hs (placed_for file p.load a region table p.shape p.head)
is_good file hs a region table p read =
    let t = placed_for file p.load a region table p.shape p.head in
    record {
      in_memory = record { here = p.here; head = p.reads; read = read; formed = p.formed };
      in_file = λ packed.
          let short = fewer t packed in
          let inside = in_file_true (t.place + (t.end - t.first)) t.file_end (allowed t short.0).file in
          let room = p.placed.inside in
          let less = short.1 in (
            record {
              load = p.load;
              found = p.found;
              low = p.low;
              place = refl;
              inside = inside;
              fits = record { inside = omega (arith, inside, room); fewer = omega (arith, less) };
            },
            inside,
          );
    }

-- the table of a function, if it names one
abbrev pub placed_by : List ℕ → List ProgramHeader → Function → List Placed
placed_by file hs f = placed_of (map (part_of file) hs) hs f.fde.lsda f.fde.region f.table

-- a function that was read: it names no table, or has one that is placed
pub record NamesTable (file : List ℕ) (hs : List ProgramHeader) (f : Fde) (g : Function) : Type 0 where
  pub table : Table
  pub is : g.table ≡ Some table
  pub some : (f.lsda == 0) ≡ false
  pub read : lsda (map (part_of file) hs) f.lsda f.region ≡ Ok table
  pub placed : IsPlaced file hs f.lsda f.region table
  pub good : IsGood file hs (placed_for file placed.load f.lsda f.region table placed.shape placed.head)
  pub only : placed_by file hs g ≡ placed_for file placed.load f.lsda f.region table placed.shape placed.head ∷ []

pub record NamesNone (file : List ℕ) (hs : List ProgramHeader) (f : Fde) (g : Function) : Type 0 where
  pub is : g.table ≡ None
  pub none : (f.lsda == 0) ≡ true
  pub nothing : placed_by file hs g ≡ []

abbrev pub Named : List ℕ → List ProgramHeader → Fde → Function → Type 0
Named file hs f g = (g.fde ≡ f) × (NamesNone file hs f g ⊎ NamesTable file hs f g)

abbrev made : Fde → Option Table → Function
made f table = record { fde = f; table = table }

abbrev named : Fde → Option Table → Result Function Fault
named f table = Ok (made f table)

abbrev function_ok : Function → Result Function Fault
function_ok g = Ok g

abbrev table_ok : Option Table → Result (Option Table) Fault
table_ok o = Ok o

abbrev list_ok : List Function → Result (List Function) Fault
list_ok gs = Ok gs

-- functions one after the other
pub record FunctionsOk (file : List ℕ) (hs : List ProgramHeader) (f : Fde) (fs : List Fde) (gs : List Function) : Type 0 where
  pub first : Function
  pub rest : List Function
  pub first_read : function_of (map (part_of file) hs) f ≡ Ok first
  pub rest_read : functions_of (map (part_of file) hs) fs ≡ Ok rest
  pub is : first ∷ rest ≡ gs

abbrev pub with_first : Function → List Function → Result (List Function) Fault
with_first first rest = Ok (first ∷ rest)

pub functions_ok : (file : List ℕ) (hs : List ProgramHeader) (f : Fde) (fs : List Fde) (gs : List Function) → functions_of (map (part_of file) hs) (f ∷ fs) ≡ Ok gs → FunctionsOk file hs f fs gs
functions_ok file hs f fs gs read =
    let M = map (part_of file) hs in
    let first = bind_ok (function_of M f) (λ x. functions_of M fs >>= with_first x) gs read in
    let rest = bind_ok (functions_of M fs) (with_first first.0) gs first.2 in
    record { first = first.0; rest = rest.0; first_read = first.1; rest_read = rest.1; is = list_same (first.0 ∷ rest.0) gs rest.2 }
  where
    list_same : (x y : List Function) → list_ok x ≡ list_ok y → x ≡ y
    list_same x y e = cc

pub names : (file : List ℕ) (hs : List ProgramHeader) (f : Fde) (g : Function) → AllByRecursion (forms.Placed (length file)) hs → function_of (map (part_of file) hs) f ≡ Ok g → Named file hs f g
names file hs f g placed read =
    let table = bind_ok (table_named (map (part_of file) hs) f.lsda f.region) (named f) g read in
    subst (Named file hs f) (same (made f table.0) g table.2) (refl, by table.0 (f.lsda == 0) refl table.1)
  where
    same : (x y : Function) → function_ok x ≡ function_ok y → x ≡ y
    same x y e = cc

    some_same : (x y : Option Table) → table_ok x ≡ table_ok y → x ≡ y
    some_same x y e = cc

    by : (o : Option Table) (b : Bool) → (f.lsda == 0) ≡ b → (if b then Ok None else table_read (lsda (map (part_of file) hs) f.lsda f.region)) ≡ Ok o →
        NamesNone file hs f (made f o) ⊎ NamesTable file hs f (made f o)
    by o true is e =
        let none : None ≡ o = some_same None o e in
        inl (subst (λ x. NamesNone file hs f (made f x)) none (record { is = refl; none = is; nothing = refl }))
    by o false is e = by_read (lsda (map (part_of file) hs) f.lsda f.region) refl e
      where
        by_read : (r : Result Table Fault) → lsda (map (part_of file) hs) f.lsda f.region ≡ r → table_read r ≡ Ok o → NamesNone file hs f (made f o) ⊎ NamesTable file hs f (made f o)
        by_read (Err x) at e' = absurd cc
        by_read (Ok table) at e' =
            let p = is_placed file hs f.lsda f.region table placed at in
            inr (subst (λ x. NamesTable file hs f (made f x)) (some_same (Some table) o e') (record {
              table = table;
              is = refl;
              some = is;
              read = at;
              placed = p;
              good = is_good file hs f.lsda f.region table p at;
              only = p.is;
            }))

-- all tables
pub all_good : (file : List ℕ) (hs : List ProgramHeader) (fs : List Fde) (gs : List Function) → AllByRecursion (forms.Placed (length file)) hs → functions_of (map (part_of file) hs) fs ≡ Ok gs →
    AllByRecursion (IsGood file hs) (flat_map (placed_by file hs) gs)
all_good file hs [] gs placed read = let none : [] ≡ gs = cc in subst (λ x. AllByRecursion (IsGood file hs) (flat_map (placed_by file hs) x)) none tt
all_good file hs (f ∷ fs) gs placed read =
    let both = functions_ok file hs f fs gs read in
    let more = all_good file hs fs both.rest placed both.rest_read in
    subst (λ x. AllByRecursion (IsGood file hs) (flat_map (placed_by file hs) x)) both.is
    (all_append (IsGood file hs) (placed_by file hs both.first) (flat_map (placed_by file hs) both.rest) (of_one (names file hs f both.first placed both.first_read).1) more)
  where
    of_one : {g : Function} → NamesNone file hs f g ⊎ NamesTable file hs f g → AllByRecursion (IsGood file hs) (placed_by file hs g)
    of_one (inl none) = subst (AllByRecursion (IsGood file hs)) (sym none.nothing) tt
    of_one (inr some) = subst (AllByRecursion (IsGood file hs)) (sym some.only) (some.good, tt)

-- those that are packed fit in the file
pub all_fit : (file : List ℕ) (hs : List ProgramHeader) (ts : List Placed) → AllByRecursion (IsGood file hs) ts → AllByRecursion (FitsIn (length file)) (filter is_packed ts)
all_fit file hs ts good =
    all_filter (FitsIn (length file)) is_packed ts (all_more (IsGood file hs) (λ t. is_packed t ≡ true → FitsIn (length file) t) (λ t g e. fits_of t (g.in_file e).0) ts good)
  where
    fits_of : (t : Placed) → Lies (length file) hs t → FitsIn (length file) t
    fits_of t l = l.fits
