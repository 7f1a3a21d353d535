-- Tables that no program writes.
use Rattle.std.proofs.Common.{◌≡◌, ◌∙◌, refl, sym, ap, Bool, true, false, not, cond, List, [], ◌∷◌, length, map, drop, replicate}
use Rattle.std.specs.List.{list_all}
use Rattle.std.proofs.lemmas.List.{drop-map}
use Rattle.caught_stack.proofs.Bools.{and_true}
use Rattle.eh_bytes.specs.Memory.{Memory}
use Rattle.table_forms.specs.Frames as forms
use Rattle.rv64_isa.specs.State.{State, Part}
use Rattle.frame_read.specs.ReadsFrames.{Listing}
use Rattle.frame_walk.specs.Outward.{part_read, tables_of}
use Rattle.raise_core.specs.Reads.{AreTables, is_readable}
use Rattle.cxa_runtime.specs.Constant.{is_constant}
use Rattle.cxa_runtime.specs.Frozen.{frozen, without_bytes}
use Rattle.cxa_runtime.specs.Lasting.{AreLasting}

abbrev zeroed : Part → Part
zeroed part = record part { bytes = replicate (length part.bytes) 0 }

unwritten : (part : Part) → part.write ≡ false → without_bytes part ≡ part
unwritten part h = ap (λ (b : Bool). cond b (zeroed part) part) h

keeps_write : (part : Part) (b : Bool) → (cond b (zeroed part) part).write ≡ part.write
keeps_write part true = refl
keeps_write part false = refl

same_part : (x y : Part) → y.write ≡ false → without_bytes x ≡ without_bytes y → x ≡ y
same_part x y h e =
    let fixed : x.write ≡ false = sym (keeps_write x x.write) ∙ ap (λ (p : Part). p.write) e ∙ keeps_write y y.write ∙ h in
    sym (unwritten x fixed) ∙ e ∙ unwritten y h

not_true : (b : Bool) → not b ≡ true → b ≡ false
not_true true h = sym h
not_true false h = refl

heads : (x y : Part) (xs ys : List Part) → x ∷ xs ≡ y ∷ ys → x ≡ y
heads x y xs ys e = cc

tails : (x y : Part) (xs ys : List Part) → x ∷ xs ≡ y ∷ ys → xs ≡ ys
tails x y xs ys e = cc

same_parts : (xs ys : List Part) → map without_bytes xs ≡ map without_bytes ys → list_all (λ part. not part.write) ys ≡ true → xs ≡ ys
same_parts [] [] e h = refl
same_parts [] (y ∷ ys) e h = absurd cc
same_parts (x ∷ xs) [] e h = absurd cc
same_parts (x ∷ xs) (y ∷ ys) e h =
    let both = and_true (not y.write) (list_all (λ part. not part.write) ys) h in
    let first = same_part x y (not_true y.write both.0) (heads (without_bytes x) (without_bytes y) (map without_bytes xs) (map without_bytes ys) e) in
    let more = same_parts xs ys (tails (without_bytes x) (without_bytes y) (map without_bytes xs) (map without_bytes ys) e) both.1 in
    ap (λ (p : Part). p ∷ xs) first ∙ ap (λ (ps : List Part). y ∷ ps) more

same_tables : (s t : State) → is_constant s ≡ true → frozen t.memory ≡ frozen s.memory → tables_of t ≡ tables_of s
unfolding frozen
same_tables s t h e =
    ap (map part_read) (same_parts (drop 2 t.memory) (drop 2 s.memory) (sym (drop-map without_bytes 2 t.memory) ∙ ap (drop 2) e ∙ drop-map without_bytes 2 s.memory) h)

over : (s t : State) (frames : Listing) → tables_of t ≡ tables_of s → AreTables s frames → AreTables t frames
over s t frames e tables = record {
  header = tables.header;
  read = tables.read;
  reads = ap (λ (m : Memory). forms.frames m tables.header) e ∙ tables.reads;
  lists = tables.lists;
  tables = ap (λ (m : Memory). list_all (is_readable m) frames.fdes) e ∙ tables.tables;
}

-- what is read of tables in segments that can't be written stays so
pub constant_lasts : (s : State) → is_constant s ≡ true → (frames : Listing) → AreTables s frames → AreLasting s frames
constant_lasts s h frames tables = λ t e. over s t frames (same_tables s t h e) tables
