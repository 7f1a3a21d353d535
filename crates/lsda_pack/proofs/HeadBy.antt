-- The form of a table that was read says where its parts are.
use Rattle.std.proofs.Common.{◌≡◌, ◌+◌, ◌-◌, ◌==◌, ℕ, Bool, true, false, [], ◌∷◌, map, Option, Some, None, Result, Ok, Err, refl, ap, sym, subst, ◌∙◌, arith, if◌then◌else◌}
use Rattle.std.proofs.lemmas.Bool.Decides.{nat_tests}
use Rattle.std.specs.Prelude.{option_map, IsErrAnd}
use Rattle.eh_bytes.specs.declared.frames.Region64.{Region64}
use Rattle.eh_bytes.specs.Encoded.{encoding_format, format_size}
use Rattle.eh_bytes.specs.Field.{byte}
use Rattle.eh_bytes.specs.Memory.{Part, Memory, part_with}
use Rattle.table_forms.specs.Fault.{Fault, ◌>>=◌, least}
use Rattle.table_forms.specs.Lsda.{Table, table_of, table_faults, lsda_from, lsda_in, lsda}
use Rattle.table_forms.specs.LsdaHead.{Head, Types, head_at, in_table}
use Rattle.table_forms.specs.LsdaSites.{site_of, site_records}
use Rattle.elf_image.specs.declared.program.ProgramHeader.{ProgramHeader}
use Rattle.lsda_read.specs.declared.shape.Shape.{Shape}
use Rattle.lsda_read.specs.Shapes.{encoding_of, base_of, shape_of, shape_at, shape_in, shape}
use Rattle.lsda_pack.specs.MayPack.{IsHead, base_by, placed_as}
use Rattle.lsda_pack.specs.Placed.{placed_with, placed_in}
use Rattle.lsda_pack.specs.Placings.{AreSized, HasTypes}
use Rattle.lsda_pack.proofs.HeadFrame.{bind_ok, TypesFound, head_types}
use Rattle.lsda_pack.proofs.LsdaFrame.{answer_ok, answered}
use Rattle.lsda_pack.proofs.LsdaFrame as tables

abbrev base_in : Option Types → Option ℕ
base_in o = option_map (λ (x : Types). x.base) o

-- types have an encoding that is not 255
sized_not : (e size : ℕ) → format_size (encoding_format e) ≡ Some size → (e == 255) ≡ true → ⊥
sized_not e size sized is =
    let same : e ≡ 255 = grind (arith, nat_tests, is) in
    let none : format_size (encoding_format 255) ≡ Some size = subst (λ x. format_size (encoding_format x) ≡ Some size) same sized in
    absurd cc

base_is : (part : Part) (p : ℕ) (o : Option Types) → TypesFound p o → base_in o ≡ (if encoding_of o == 255 then None else Some (base_of part o - part.address))
base_is part p None found = refl
base_is part p (Some types) found = by (types.encoding == 255) refl
  where
    by : (b : Bool) → (types.encoding == 255) ≡ b → Some types.base ≡ (if b then None else Some (part.address + types.base - part.address))
    by true is = absurd (sized_not types.encoding types.size found.0 is)
    by false is = let back : types.base ≡ part.address + types.base - part.address = omega arith in ap Some back

-- the form of a table with its head
pub record Shaped (part : Part) (region : Region64) (t : Table) (p : ℕ) (s : Shape) : Type 0 where
  pub head : Head
  pub formed : shape_at part region p ≡ Ok s
  pub reads : head_at part region p ≡ Ok head
  pub is : IsHead part region t (s.actions - part.address) (base_by s part.address) head
  pub types : HasTypes s head.types

are_sized : (p : ℕ) (o : Option Types) → TypesFound p o → AreSized o
are_sized p None found = tt
are_sized p (Some types) found = found.0

abbrev as_shape : Shape → Result Shape Fault
as_shape s = Ok s

shape_same : (x y : Shape) → as_shape x ≡ as_shape y → x ≡ y
shape_same x y e = cc

made_sites : (memory : Memory) (part : Part) (region : Region64) (h : Head) → (table_of memory part region h).sites ≡ map (site_of h region) (site_records part h).records
unfolding table_of
made_sites memory part region h = refl

sites_of : (memory : Memory) (part : Part) (region : Region64) (p : ℕ) (h : Head) (t : Table) → head_at part region p ≡ Ok h → lsda_in memory region p part ≡ Ok t →
    t.sites ≡ map (site_of h region) (site_records part h).records
sites_of memory part region p h t head read =
    let given = answer_ok (least (table_faults memory part region h)) (table_of memory part region h) t
    (sym (ap (λ x. x >>= answered memory region part) head) ∙ sym (tables.in_steps memory region p part) ∙ read) in
    subst (λ x. x.sites ≡ map (site_of h region) (site_records part h).records) given.1 (made_sites memory part region h)

is_by : (memory : Memory) (part : Part) (region : Region64) (p lp : ℕ) (h : Head) (t : Table) → head_at part region p ≡ Ok h → lsda_in memory region p part ≡ Ok t →
    IsHead part region t ((shape_of part h lp).actions - part.address) (base_by (shape_of part h lp) part.address) h
is_by memory part region p lp h t head read =
    record {
      listed = sites_of memory part region p h t head read;
      begins = (let back : h.actions_at ≡ part.address + h.actions_at - part.address = omega arith in back);
      stands = base_is part p h.types (head_types part region p h head);
    }

shaped_in : (memory : Memory) (part : Part) (region : Region64) (p : ℕ) (t : Table) (s : Shape) → lsda_in memory region p part ≡ Ok t → shape_at part region p ≡ Ok s → Shaped part region t p s
unfolding shape_at
shaped_in memory part region p t s read formed =
    let start = bind_ok (in_table byte part p) (λ lp. head_at part region p >>= (λ h. Ok (shape_of part h lp.0))) s formed in
    let head = bind_ok (head_at part region p) (λ h. Ok (shape_of part h start.0.0)) s start.2 in
    let made = shape_same (shape_of part head.0 start.0.0) s head.2 in
    record {
      head = head.0;
      formed = formed;
      reads = head.1;
      is = subst (λ x. IsHead part region t (x.actions - part.address) (base_by x part.address) head.0) made (is_by memory part region p start.0.0 head.0 t head.1 read);
      types = subst (λ x. HasTypes x head.0.types) made (record { formed = refl; sized = are_sized p head.0.types (head_types part region p head.0 head.1) });
    }

pub shaped : (memory : Memory) (part : Part) (a : ℕ) (region : Region64) (t : Table) (s : Shape) → part_with memory a ≡ Some part → lsda memory a region ≡ Ok t → shape memory a region ≡ Ok s →
    Shaped part region t (a - part.address) s
unfolding lsda shape
shaped memory part a region t s found read formed =
    shaped_in memory part region (a - part.address) t s (sym (ap (lsda_from memory a region) found) ∙ read) (sym (ap (shape_in region a) found) ∙ formed)

-- the table is placed as its form says
pub placed_by : (part : Part) (load : ProgramHeader) (a : ℕ) (region : Region64) (t : Table) (s : Shape) (file_end : ℕ) → load.offset + load.file_size ≡ file_end →
    (found : Shaped part region t (a - part.address) s) →
    placed_in a region t (Some part) (Some load) ≡ placed_as a region (part.file_at + (a - part.address)) file_end part s found.head t ∷ []
placed_by part load a region t s file_end stop found =
    ap (λ r. placed_with a region t part load (shape_at part region (a - part.address)) r) found.reads ∙
    ap (λ r. placed_with a region t part load r (Ok found.head)) found.formed ∙
    ap (λ e. placed_as a region (part.file_at + (a - part.address)) e part s found.head t ∷ []) stop

-- without a form it is not
pub not_placed : (memory : Memory) (part : Part) (load : ProgramHeader) (a : ℕ) (region : Region64) (t : Table) (P : Fault → Type 0) → part_with memory a ≡ Some part →
    IsErrAnd (shape memory a region) P → placed_in a region t (Some part) (Some load) ≡ []
unfolding shape
not_placed memory part load a region t P found refused =
    by (shape_at part region (a - part.address)) refl (subst (λ o. IsErrAnd (shape_in region a o) P) found refused)
  where
    by : (r : Result Shape Fault) → shape_at part region (a - part.address) ≡ r → IsErrAnd (shape_at part region (a - part.address)) P →
        placed_in a region t (Some part) (Some load) ≡ []
    by (Ok s) e none = absurd (subst (λ r. IsErrAnd r P) e none)
    by (Err f) e none = ap (λ r. placed_with a region t part load r (head_at part region (a - part.address))) e
