-- The CIE that is written is read as it is.
use Rattle.std.proofs.Common.{◌≡◌, ◌+◌, ◌-◌, ◌<◌, ◌≤◌, ℕ, pos, negsuc, Bool, true, false, nat_le, List, [], ◌∷◌, ◌++◌, length, take, drop, Ok, Some, refl, ap, sym, ◌∙◌, arith}
use Rattle.std.specs.Prelude.{Option, None, replicate}
use Rattle.std.proofs.lemmas.Bool.Decides.{nat_tests}
use Rattle.eh_bytes.specs.Memory.{Part}
use Rattle.eh_bytes.specs.Spelling.{uleb_spelling, sleb_spelling, sleb_spelling_within}
use Rattle.table_forms.specs.declared.reason.Reason.TheVariants.{Encoding}
use Rattle.table_forms.specs.Fault.{◌>>=◌, demand}
use Rattle.eh_bytes.specs.Field.{byte}
use Rattle.eh_bytes.specs.Leb128.{sleb}
use Rattle.eh_bytes.specs.Encoded.{is_direct}
use Rattle.table_forms.specs.Instruction.{Coding, in_frames, nop, set_cfa, register_at, extended, operands, instruction_at}
use Rattle.table_forms.specs.Instructions.{instructions_within}
use Rattle.table_forms.specs.Cie.{Cie, Letters, text, wrong_letter, no_wrong, no_letters, letter_at, letters_at, direct_at, sized_at, augmented, return_register_at, cie_at}
use Rattle.eh_write.proofs.FrameFields.{From, read_from, in_byte, small_spelled, in_small, in_sleb, behind_by, cut_from}
use Rattle.eh_write.proofs.MovesRead.{the_coding, plain_offset, nops_read, begins}

abbrev pub augmentation : Bool → List ℕ
augmentation true = 0x7a ∷ 0x4c ∷ 0x52 ∷ []
augmentation false = 0x7a ∷ 0x52 ∷ []

abbrev pub lsda_encoding : Bool → Option ℕ
lsda_encoding true = Some 27
lsda_encoding false = None

abbrev pub nops_of : Bool → ℕ
nops_of true = 2
nops_of false = 0

abbrev pub cie_of : Bool → Part → ℕ → Cie
cie_of tables part at = record {
  place = part.file_at + at;
  version = 1;
  augmentation = augmentation tables;
  coding = the_coding;
  return_register = 1;
  lsda_encoding = lsda_encoding tables;
  signal = false;
  instructions = set_cfa 2 (pos 0) ∷ replicate (nops_of tables) nop;
  states = 0;
}

eight_spelled : sleb_spelling (negsuc 7) ≡ 0x78 ∷ []
unfolding sleb_spelling sleb_spelling_within
eight_spelled = refl

factor_read : (part : Part) (stop p : ℕ) (rest : List ℕ) → From part stop p (0x78 ∷ rest) → in_frames sleb part stop p ≡ Ok (negsuc 7, p + 1)
factor_read part stop p rest here =
    in_sleb part stop p (negsuc 7) rest (omega arith) (here ∙ ap (λ x. x ++ rest) (sym eight_spelled)) ∙ ap (λ x. Ok (negsuc 7, p + length x)) eight_spelled

register_read : (part : Part) (stop p : ℕ) (rest : List ℕ) → From part stop p (1 ∷ rest) → return_register_at 1 part stop p ≡ Ok (1, p + 1)
unfolding return_register_at
register_read part stop p rest here = rw (in_byte part stop p 1 rest here) refl

-- def_cfa x2 + 0
cfa_read : (c : Coding) (part : Part) (stop p : ℕ) (rest : List ℕ) → From part stop p (0x0c ∷ 2 ∷ 0 ∷ rest) → instruction_at c part stop p ≡ Ok (set_cfa 2 (pos 0), p + 1 + 1 + 1)
unfolding instruction_at operands extended register_at
cfa_read c part stop p rest here =
    let zero_is : uleb_spelling 0 ≡ 0 ∷ [] = small_spelled 0 (omega arith) in
    let second = behind_by part stop p 1 (0x0c ∷ 2 ∷ 0 ∷ rest) here in
    let third = behind_by part stop (p + 1) 1 (2 ∷ 0 ∷ rest) second in
    rw (in_byte part stop p 0x0c (2 ∷ 0 ∷ rest) here)
    (rw (in_small part stop (p + 1) 2 (0 ∷ rest) (omega arith) second)
    (ap (λ r. r >>= (λ n. Ok (set_cfa 2 n.0, n.1)))
    (plain_offset part stop (p + 1 + 1) 0 rest (omega arith) (third ∙ ap (λ x. x ++ rest) (sym zero_is)) ∙
    ap (λ x. Ok (pos 0, p + 1 + 1 + length x)) zero_is)))

common_read : (part : Part) (stop p k : ℕ) → From part stop p (0x0c ∷ 2 ∷ 0 ∷ replicate k 0) → stop ≡ p + 3 + k →
    instructions_within stop the_coding part stop p 0 ≡ Ok (record { list = set_cfa 2 (pos 0) ∷ replicate k nop; states = 0 })
common_read part stop p k here ends =
    let second = behind_by part stop p 1 (0x0c ∷ 2 ∷ 0 ∷ replicate k 0) here in
    let third = behind_by part stop (p + 1) 1 (2 ∷ 0 ∷ replicate k 0) second in
    let fourth = behind_by part stop (p + 1 + 1) 1 (0 ∷ replicate k 0) third in
    begins the_coding part stop p stop (p + 1 + 1 + 1) (set_cfa 2 (pos 0)) (replicate k nop) (omega (arith, ends)) (omega arith) (omega arith)
    (cfa_read the_coding part stop p (replicate k 0) here) refl
    (λ n enough. nops_read the_coding part stop (p + 1 + 1 + 1) n k fourth (omega (arith, ends)) enough)

direct_read : (part : Part) (stop p : ℕ) (rest : List ℕ) → From part stop p (0x1b ∷ rest) → direct_at part stop p ≡ Ok (27, p + 1)
direct_read part stop p rest here = ap (λ r. r >>= (λ e. demand (is_direct e.0) Encoding (part.file_at + p) >>= (λ _. Ok e))) (in_byte part stop p 27 rest here)

-- the encodings of tables and locations, in so many bytes of data
abbrev data_read : Bool → Letters
data_read true = record { lsda_encoding = Some 27; encoding = 27; signal = false }
data_read false = record { lsda_encoding = None; encoding = 27; signal = false }

tables_letter : (part : Part) (stop p : ℕ) (l : Letters) (rest : List ℕ) → From part stop p (0x1b ∷ rest) → letter_at part stop 0x4c l p ≡ Ok (record l { lsda_encoding = Some 27 }, p + 1)
unfolding letter_at
tables_letter part stop p l rest here = ap (λ r. r >>= (λ e. Ok (record l { lsda_encoding = Some e.0 }, e.1))) (direct_read part stop p rest here)

locations_letter : (part : Part) (stop p : ℕ) (l : Letters) (rest : List ℕ) → From part stop p (0x1b ∷ rest) → letter_at part stop 0x52 l p ≡ Ok (record l { encoding = 27 }, p + 1)
unfolding letter_at
locations_letter part stop p l rest here = ap (λ r. r >>= (λ e. Ok (record l { encoding = e.0 }, e.1))) (direct_read part stop p rest here)

pub size_read : (part : Part) (stop p n : ℕ) (rest : List ℕ) → n < 128 → From part stop p (n ∷ rest) → p + 1 + n ≤ stop → sized_at part stop p ≡ Ok (p + 1, p + 1 + n)
unfolding sized_at
size_read part stop p n rest small here room =
    let inside : nat_le (p + 1 + n) stop ≡ true = grind (arith, nat_tests, room) in
    rw (in_small part stop p n rest small here) (rw inside refl)

both_read : (part : Part) (stop p : ℕ) (rest : List ℕ) → From part stop p (2 ∷ 0x1b ∷ 0x1b ∷ rest) → p + 1 + 2 ≤ stop →
    augmented part stop (augmentation true) p ≡ Ok (data_read true, p + 1 + 2)
both_read part stop p rest here room =
    let end = p + 1 + 2 in
    let data' = cut_from part stop (p + 1) end (0x1b ∷ 0x1b ∷ []) rest (behind_by part stop p 1 (2 ∷ 0x1b ∷ 0x1b ∷ rest) here) (omega arith) room in
    let left = take (end - (p + 1 + 2)) rest in
    ap (λ r. r >>= (λ d. letters_at part d.1 (0x4c ∷ 0x52 ∷ []) no_letters d.0 >>= (λ l. Ok (l, d.1)))) (size_read part stop p 2 (0x1b ∷ 0x1b ∷ rest) (omega arith) here room) ∙
    ap (λ r. (r >>= (λ x. letters_at part end (0x52 ∷ []) x.0 x.1)) >>= (λ l. Ok (l, end))) (tables_letter part end (p + 1) no_letters (0x1b ∷ left) data') ∙
    ap (λ r. (r >>= (λ x. Ok x.0)) >>= (λ l. Ok (l, end)))
    (locations_letter part end (p + 1 + 1) (record no_letters { lsda_encoding = Some 27 }) left (behind_by part end (p + 1) 1 (0x1b ∷ 0x1b ∷ left) data'))

one_read : (part : Part) (stop p : ℕ) (rest : List ℕ) → From part stop p (1 ∷ 0x1b ∷ rest) → p + 1 + 1 ≤ stop →
    augmented part stop (augmentation false) p ≡ Ok (data_read false, p + 1 + 1)
one_read part stop p rest here room =
    let end = p + 1 + 1 in
    let data' = cut_from part stop (p + 1) end (0x1b ∷ []) rest (behind_by part stop p 1 (1 ∷ 0x1b ∷ rest) here) (omega arith) room in
    let left = take (end - (p + 1 + 1)) rest in
    ap (λ r. r >>= (λ d. letters_at part d.1 (0x52 ∷ []) no_letters d.0 >>= (λ l. Ok (l, d.1)))) (size_read part stop p 1 (0x1b ∷ rest) (omega arith) here room) ∙
    ap (λ r. (r >>= (λ x. Ok x.0)) >>= (λ l. Ok (l, end))) (locations_letter part end (p + 1) no_letters left data')

-- behind the name, the same for both
tail_read : (tables : Bool) (part : Part) (at stop p : ℕ) (data' : List ℕ) → From part stop p (4 ∷ 0x78 ∷ 1 ∷ data') →
    (end : ℕ) → augmented part stop (augmentation tables) (p + 1 + 1 + 1) ≡ Ok (data_read tables, end) →
    instructions_within stop the_coding part stop end 0 ≡ Ok (record { list = set_cfa 2 (pos 0) ∷ replicate (nops_of tables) nop; states = 0 }) →
    (start : ℕ) → in_frames byte part stop start ≡ Ok (1, start + 1) → in_frames text part stop (start + 1) ≡ Ok (augmentation tables, p) →
    no_wrong part (wrong_letter (start + 1) (augmentation tables)) ≡ Ok true → (data_read tables).encoding ≡ 27 → (data_read tables).lsda_encoding ≡ lsda_encoding tables →
    (data_read tables).signal ≡ false → cie_at part at stop start ≡ Ok (cie_of tables part at)
unfolding cie_at
tail_read tables part at stop p data' here end letters instructions start version name letters_known encoding lsda signal =
    let second = behind_by part stop p 1 (4 ∷ 0x78 ∷ 1 ∷ data') here in
    let third = behind_by part stop (p + 1) 1 (0x78 ∷ 1 ∷ data') second in
    rw version
    (rw name
    (rw letters_known
    (rw (in_small part stop p 4 (0x78 ∷ 1 ∷ data') (omega arith) here)
    (rw (factor_read part stop (p + 1) (1 ∷ data') second)
    (rw (register_read part stop (p + 1 + 1) data' third)
    (rw letters (rw encoding (rw instructions (rw (lsda, signal) refl)))))))))

pub with_tables : (part : Part) (at stop p : ℕ) → From part stop p (1 ∷ 0x7a ∷ 0x4c ∷ 0x52 ∷ 0 ∷ 4 ∷ 0x78 ∷ 1 ∷ 2 ∷ 0x1b ∷ 0x1b ∷ 0x0c ∷ 2 ∷ 0 ∷ 0 ∷ 0 ∷ []) → stop ≡ p + 16 →
    cie_at part at stop p ≡ Ok (cie_of true part at)
with_tables part at stop p here ends =
    let all : List ℕ = 1 ∷ 0x7a ∷ 0x4c ∷ 0x52 ∷ 0 ∷ 4 ∷ 0x78 ∷ 1 ∷ 2 ∷ 0x1b ∷ 0x1b ∷ 0x0c ∷ 2 ∷ 0 ∷ 0 ∷ 0 ∷ [] in
    let named = behind_by part stop p 1 all here in
    let q = p + 1 + 4 in
    let code = behind_by part stop (p + 1) 4 (drop 1 all) named in
    let data' = behind_by part stop q 3 (drop 5 all) code in
    let e = q + 1 + 1 + 1 in
    let at_data : From part stop e (drop 8 all) = ap (λ x. drop x (take stop part.bytes)) (let same : e ≡ q + 3 = omega arith in same) ∙ data' in
    let common = behind_by part stop e 3 (drop 8 all) at_data in
    let end = e + 1 + 2 in
    let at_end : From part stop end (drop 11 all) = ap (λ x. drop x (take stop part.bytes)) (let same : end ≡ e + 3 = omega arith in same) ∙ common in
    tail_read true part at stop q (drop 8 all) code end (both_read part stop e (drop 11 all) at_data (omega (arith, ends)))
    (common_read part stop end 2 at_end (omega (arith, ends))) p (in_byte part stop p 1 (drop 1 all) here)
    (read_from text part stop (p + 1) (drop 1 all) named) refl refl refl refl

pub without_tables : (part : Part) (at stop p : ℕ) → From part stop p (1 ∷ 0x7a ∷ 0x52 ∷ 0 ∷ 4 ∷ 0x78 ∷ 1 ∷ 1 ∷ 0x1b ∷ 0x0c ∷ 2 ∷ 0 ∷ []) → stop ≡ p + 12 →
    cie_at part at stop p ≡ Ok (cie_of false part at)
without_tables part at stop p here ends =
    let all : List ℕ = 1 ∷ 0x7a ∷ 0x52 ∷ 0 ∷ 4 ∷ 0x78 ∷ 1 ∷ 1 ∷ 0x1b ∷ 0x0c ∷ 2 ∷ 0 ∷ [] in
    let named = behind_by part stop p 1 all here in
    let q = p + 1 + 3 in
    let code = behind_by part stop (p + 1) 3 (drop 1 all) named in
    let data' = behind_by part stop q 3 (drop 4 all) code in
    let e = q + 1 + 1 + 1 in
    let at_data : From part stop e (drop 7 all) = ap (λ x. drop x (take stop part.bytes)) (let same : e ≡ q + 3 = omega arith in same) ∙ data' in
    let common = behind_by part stop e 2 (drop 7 all) at_data in
    let end = e + 1 + 1 in
    let at_end : From part stop end (drop 9 all) = ap (λ x. drop x (take stop part.bytes)) (let same : end ≡ e + 2 = omega arith in same) ∙ common in
    tail_read false part at stop q (drop 7 all) code end (one_read part stop e (drop 9 all) at_data (omega (arith, ends)))
    (common_read part stop end 0 at_end (omega (arith, ends))) p (in_byte part stop p 1 (drop 1 all) here)
    (read_from text part stop (p + 1) (drop 1 all) named) refl refl refl refl
