-- Program headers that are written are read.
use Rattle.std.proofs.Common.{◌≡◌, ◌+◌, ◌<◌, ◌^◌, ◌*◌, ◌≢◌, ◌==◌, ℕ, true, false, List, [], ◌∷◌, ◌++◌, length, drop, refl, ap, sym, ◌∙◌, arith, append_assoc, length-append, if◌then◌else◌}
use Rattle.std.specs.Prelude.{⊤, Some, flat_map, find}
use Rattle.std.specs.Int.{w32, to_le_bytes}
use Rattle.std.specs.List.{AllByRecursion}
use Rattle.std.proofs.lemmas.Bool.Decides.{nat_tests}
use Rattle.std.proofs.Math.Seq.{drop-append_seam}
use Rattle.elf_image.specs.declared.program.ProgramHeader.{ProgramHeader}
use Rattle.elf_image.specs.Programs.{header_at, headers_from, is_load, loaded}
use Rattle.elf_image.specs.Written.{words, alignment, program_bytes}
use Rattle.elf_image.proofs.FieldsRead.{later, four_read, word_read}

-- numbers of its fields' types
pub record HasWords (h : ProgramHeader) : Type 0 where
  pub kind : h.kind < 2 ^ 32
  pub flags : h.flags < 2 ^ 32
  pub offset : h.offset < 2 ^ 64
  pub address : h.address < 2 ^ 64
  pub file_size : h.file_size < 2 ^ 64
  pub memory_size : h.memory_size < 2 ^ 64

-- one behind the other from a place on
abbrev pub AreAt : ℕ → List ProgramHeader → Type 0
AreAt p [] = ⊤
AreAt p (h ∷ hs) = (h.place ≡ p) × HasWords h × AreAt (p + 56) hs

header_read : (file : List ℕ) (p : ℕ) (h : ProgramHeader) (rest : List ℕ) → h.place ≡ p → HasWords h → drop p file ≡ program_bytes h ++ rest → header_at file p ≡ h
unfolding header_at program_bytes
header_read file p h rest at w here =
    let sizes = words (h.file_size ∷ h.memory_size ∷ alignment h ∷ []) ++ rest in
    rw (four_read file p h.kind (to_le_bytes w32 h.flags ++ words (h.offset ∷ h.address ∷ h.address ∷ []) ++ sizes) w.kind here)
    (rw (four_read file (p + 4) h.flags (words (h.offset ∷ h.address ∷ h.address ∷ []) ++ sizes) w.flags (later file p 4 (program_bytes h ++ rest) here))
    (rw (word_read file (p + 8) h.offset (words (h.address ∷ h.address ∷ []) ++ sizes) w.offset (later file p 8 (program_bytes h ++ rest) here))
    (rw (word_read file (p + 16) h.address (words (h.address ∷ []) ++ sizes) w.address (later file p 16 (program_bytes h ++ rest) here))
    (rw (word_read file (p + 32) h.file_size (words (h.memory_size ∷ alignment h ∷ []) ++ rest) w.file_size (later file p 32 (program_bytes h ++ rest) here))
    (rw (word_read file (p + 40) h.memory_size (words (alignment h ∷ []) ++ rest) w.memory_size (later file p 40 (program_bytes h ++ rest) here))
    (rw at refl))))))

size_is : (h : ProgramHeader) → length (program_bytes h) ≡ 56
unfolding program_bytes
size_is h = refl

pub headers_read : (file : List ℕ) (p : ℕ) (hs : List ProgramHeader) (rest : List ℕ) → AreAt p hs → drop p file ≡ flat_map program_bytes hs ++ rest → headers_from (length hs) file p ≡ hs
headers_read file p [] rest at here = refl
headers_read file p (h ∷ hs) rest at here =
    let others = flat_map program_bytes hs ++ rest in
    let first : drop p file ≡ program_bytes h ++ others = here ∙ append_assoc (program_bytes h) (flat_map program_bytes hs) rest in
    let next : drop (p + 56) file ≡ others =
    later file p 56 (program_bytes h ++ others) first ∙ ap (λ n. drop n (program_bytes h ++ others)) (sym (size_is h)) ∙ drop-append_seam (program_bytes h) others in
    ap (λ x. x ∷ headers_from (length hs) file (p + 56)) (header_read file p h others at.0 at.1 first) ∙ ap (λ x. h ∷ x) (headers_read file (p + 56) hs rest at.2 next)

pub headers_size : (hs : List ProgramHeader) → length (flat_map program_bytes hs) ≡ 56 * length hs
headers_size [] = refl
headers_size (h ∷ hs) = omega (arith, size_is h, headers_size hs, length-append (program_bytes h) (flat_map program_bytes hs))

-- all of a list are loaded
abbrev pub AreLoads : List ProgramHeader → Type 0
AreLoads hs = AllByRecursion (λ h. is_load h ≡ true) hs

pub loads_are : (hs others : List ProgramHeader) → AreLoads hs → loaded (hs ++ others) ≡ hs ++ loaded others
loads_are [] others all = refl
loads_are (h ∷ hs) others all =
    ap (λ b. if b then h ∷ loaded (hs ++ others) else loaded (hs ++ others)) all.0 ∙ ap (λ x. h ∷ x) (loads_are hs others all.1)

-- a header of another kind stands behind them
pub found_behind : (kind : ℕ) (hs others : List ProgramHeader) → kind ≢ 1 → AreLoads hs → find (λ h. h.kind == kind) (hs ++ others) ≡ find (λ h. h.kind == kind) others
found_behind kind [] others other all = refl
found_behind kind (h ∷ hs) others other all =
    let load = all.0 in
    let no : (h.kind == kind) ≡ false = grind (arith, nat_tests, load, other) in
    ap (λ b. if b then Some h else find (λ k. k.kind == kind) (hs ++ others)) no ∙ found_behind kind hs others other all.1
