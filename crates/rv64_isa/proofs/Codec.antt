-- Decoding and encoding undo each other.
use Rattle.std.proofs.Common.{ℕ, ◌≡◌, ◌<◌, ◌+◌, ◌*◌, ◌/◌, ◌%◌, ◌^◌, ◌==◌, Bool, true, false, cond, List, [], ◌∷◌, Option, Some, None, option_map, refl, arith, sym, subst, ap, ◌∙◌, lit<}
use Rattle.std.specs.Prelude.{find, Result, IfOk, IfErr}
use Rattle.std.specs.Option.{ok_or}
use Rattle.std.proofs.lemmas.Bool.{eqb-true}
use Rattle.rv64_isa.specs.declared.instr.Instr.{Instr}
use Rattle.rv64_isa.specs.declared.instr.Instr.TheVariants.{Lui, Auipc, Jal, Jalr, Beq, Bne, Blt, Bge, Bltu, Bgeu, Lb, Lh, Lw, Ld, Lbu, Lhu, Lwu, Sb, Sh, Sw, Sd, Addi, Slti, Sltiu, Xori, Ori, Andi, Slli, Srli, Srai, Add, Sub, Sll, Slt, Sltu, Xor, Srl, Sra, Or, And, Addiw, Slliw, Srliw, Sraiw, Addw, Subw, Sllw, Srlw, Sraw, Fence, Ecall, Ebreak, Mul, Mulh, Mulhsu, Mulhu, Div, Divu, Rem, Remu, Mulw, Divw, Divuw, Remw, Remuw}
use Rattle.rv64_isa.specs.Format.{Format, R, Shift, I, S, B, U, J, IsInRange, HasWord, fields_of}
use Rattle.rv64_isa.specs.Listing.{form_of, word_of, IsListed}
use Rattle.rv64_isa.specs.Decoding.{Entry, made, jumps_by_register, branches, loads, stores, immediates, shifts, registers, immediates_w, shifts_w, registers_w, fences, named, decoded}
use Rattle.rv64_isa.proofs.Formats.{named_with, decoded_r, decoded_shift, decoded_i, decoded_s, decoded_b, decoded_u, decoded_j, has_r, has_shift, has_i, has_s, has_b, has_u, has_j}

-- ---- the word of an instruction gives the instruction

pub decoded_word : (i : Instr) → IsInRange (form_of i) → decoded (word_of i) ≡ Some i
unfolding named named_with
decoded_word (Lui rd imm) h = decoded_u 0x37 rd imm (lit< tt) h
decoded_word (Auipc rd imm) h = decoded_u 0x17 rd imm (lit< tt) h
decoded_word (Jal rd offset) h = decoded_j 0x6f rd offset (lit< tt) h
decoded_word (Jalr rd rs1 imm) h = decoded_i 0x67 0 rd rs1 imm (lit< tt) (lit< tt) h
decoded_word (Beq rs1 rs2 offset) h = decoded_b 0x63 0 rs1 rs2 offset (lit< tt) (lit< tt) h
decoded_word (Bne rs1 rs2 offset) h = decoded_b 0x63 1 rs1 rs2 offset (lit< tt) (lit< tt) h
decoded_word (Blt rs1 rs2 offset) h = decoded_b 0x63 4 rs1 rs2 offset (lit< tt) (lit< tt) h
decoded_word (Bge rs1 rs2 offset) h = decoded_b 0x63 5 rs1 rs2 offset (lit< tt) (lit< tt) h
decoded_word (Bltu rs1 rs2 offset) h = decoded_b 0x63 6 rs1 rs2 offset (lit< tt) (lit< tt) h
decoded_word (Bgeu rs1 rs2 offset) h = decoded_b 0x63 7 rs1 rs2 offset (lit< tt) (lit< tt) h
decoded_word (Lb rd rs1 imm) h = decoded_i 0x03 0 rd rs1 imm (lit< tt) (lit< tt) h
decoded_word (Lh rd rs1 imm) h = decoded_i 0x03 1 rd rs1 imm (lit< tt) (lit< tt) h
decoded_word (Lw rd rs1 imm) h = decoded_i 0x03 2 rd rs1 imm (lit< tt) (lit< tt) h
decoded_word (Ld rd rs1 imm) h = decoded_i 0x03 3 rd rs1 imm (lit< tt) (lit< tt) h
decoded_word (Lbu rd rs1 imm) h = decoded_i 0x03 4 rd rs1 imm (lit< tt) (lit< tt) h
decoded_word (Lhu rd rs1 imm) h = decoded_i 0x03 5 rd rs1 imm (lit< tt) (lit< tt) h
decoded_word (Lwu rd rs1 imm) h = decoded_i 0x03 6 rd rs1 imm (lit< tt) (lit< tt) h
decoded_word (Sb rs1 rs2 imm) h = decoded_s 0x23 0 rs1 rs2 imm (lit< tt) (lit< tt) h
decoded_word (Sh rs1 rs2 imm) h = decoded_s 0x23 1 rs1 rs2 imm (lit< tt) (lit< tt) h
decoded_word (Sw rs1 rs2 imm) h = decoded_s 0x23 2 rs1 rs2 imm (lit< tt) (lit< tt) h
decoded_word (Sd rs1 rs2 imm) h = decoded_s 0x23 3 rs1 rs2 imm (lit< tt) (lit< tt) h
decoded_word (Addi rd rs1 imm) h = decoded_i 0x13 0 rd rs1 imm (lit< tt) (lit< tt) h
decoded_word (Slti rd rs1 imm) h = decoded_i 0x13 2 rd rs1 imm (lit< tt) (lit< tt) h
decoded_word (Sltiu rd rs1 imm) h = decoded_i 0x13 3 rd rs1 imm (lit< tt) (lit< tt) h
decoded_word (Xori rd rs1 imm) h = decoded_i 0x13 4 rd rs1 imm (lit< tt) (lit< tt) h
decoded_word (Ori rd rs1 imm) h = decoded_i 0x13 6 rd rs1 imm (lit< tt) (lit< tt) h
decoded_word (Andi rd rs1 imm) h = decoded_i 0x13 7 rd rs1 imm (lit< tt) (lit< tt) h
decoded_word (Slli rd rs1 shamt) h = decoded_shift 0x13 1 0x00 rd rs1 shamt (lit< tt) (lit< tt) (lit< tt) h
decoded_word (Srli rd rs1 shamt) h = decoded_shift 0x13 5 0x00 rd rs1 shamt (lit< tt) (lit< tt) (lit< tt) h
decoded_word (Srai rd rs1 shamt) h = decoded_shift 0x13 5 0x10 rd rs1 shamt (lit< tt) (lit< tt) (lit< tt) h
decoded_word (Add rd rs1 rs2) h = decoded_r 0x33 0 0x00 rd rs1 rs2 (lit< tt) (lit< tt) (lit< tt) h
decoded_word (Sub rd rs1 rs2) h = decoded_r 0x33 0 0x20 rd rs1 rs2 (lit< tt) (lit< tt) (lit< tt) h
decoded_word (Sll rd rs1 rs2) h = decoded_r 0x33 1 0x00 rd rs1 rs2 (lit< tt) (lit< tt) (lit< tt) h
decoded_word (Slt rd rs1 rs2) h = decoded_r 0x33 2 0x00 rd rs1 rs2 (lit< tt) (lit< tt) (lit< tt) h
decoded_word (Sltu rd rs1 rs2) h = decoded_r 0x33 3 0x00 rd rs1 rs2 (lit< tt) (lit< tt) (lit< tt) h
decoded_word (Xor rd rs1 rs2) h = decoded_r 0x33 4 0x00 rd rs1 rs2 (lit< tt) (lit< tt) (lit< tt) h
decoded_word (Srl rd rs1 rs2) h = decoded_r 0x33 5 0x00 rd rs1 rs2 (lit< tt) (lit< tt) (lit< tt) h
decoded_word (Sra rd rs1 rs2) h = decoded_r 0x33 5 0x20 rd rs1 rs2 (lit< tt) (lit< tt) (lit< tt) h
decoded_word (Or rd rs1 rs2) h = decoded_r 0x33 6 0x00 rd rs1 rs2 (lit< tt) (lit< tt) (lit< tt) h
decoded_word (And rd rs1 rs2) h = decoded_r 0x33 7 0x00 rd rs1 rs2 (lit< tt) (lit< tt) (lit< tt) h
decoded_word (Addiw rd rs1 imm) h = decoded_i 0x1b 0 rd rs1 imm (lit< tt) (lit< tt) h
decoded_word (Slliw rd rs1 shamt) h = decoded_r 0x1b 1 0x00 rd rs1 shamt (lit< tt) (lit< tt) (lit< tt) h
decoded_word (Srliw rd rs1 shamt) h = decoded_r 0x1b 5 0x00 rd rs1 shamt (lit< tt) (lit< tt) (lit< tt) h
decoded_word (Sraiw rd rs1 shamt) h = decoded_r 0x1b 5 0x20 rd rs1 shamt (lit< tt) (lit< tt) (lit< tt) h
decoded_word (Addw rd rs1 rs2) h = decoded_r 0x3b 0 0x00 rd rs1 rs2 (lit< tt) (lit< tt) (lit< tt) h
decoded_word (Subw rd rs1 rs2) h = decoded_r 0x3b 0 0x20 rd rs1 rs2 (lit< tt) (lit< tt) (lit< tt) h
decoded_word (Sllw rd rs1 rs2) h = decoded_r 0x3b 1 0x00 rd rs1 rs2 (lit< tt) (lit< tt) (lit< tt) h
decoded_word (Srlw rd rs1 rs2) h = decoded_r 0x3b 5 0x00 rd rs1 rs2 (lit< tt) (lit< tt) (lit< tt) h
decoded_word (Sraw rd rs1 rs2) h = decoded_r 0x3b 5 0x20 rd rs1 rs2 (lit< tt) (lit< tt) (lit< tt) h
decoded_word (Fence rd rs1 imm) h = decoded_i 0x0f 0 rd rs1 imm (lit< tt) (lit< tt) h
decoded_word Ecall h = refl
decoded_word Ebreak h = refl
decoded_word (Mul rd rs1 rs2) h = decoded_r 0x33 0 0x01 rd rs1 rs2 (lit< tt) (lit< tt) (lit< tt) h
decoded_word (Mulh rd rs1 rs2) h = decoded_r 0x33 1 0x01 rd rs1 rs2 (lit< tt) (lit< tt) (lit< tt) h
decoded_word (Mulhsu rd rs1 rs2) h = decoded_r 0x33 2 0x01 rd rs1 rs2 (lit< tt) (lit< tt) (lit< tt) h
decoded_word (Mulhu rd rs1 rs2) h = decoded_r 0x33 3 0x01 rd rs1 rs2 (lit< tt) (lit< tt) (lit< tt) h
decoded_word (Div rd rs1 rs2) h = decoded_r 0x33 4 0x01 rd rs1 rs2 (lit< tt) (lit< tt) (lit< tt) h
decoded_word (Divu rd rs1 rs2) h = decoded_r 0x33 5 0x01 rd rs1 rs2 (lit< tt) (lit< tt) (lit< tt) h
decoded_word (Rem rd rs1 rs2) h = decoded_r 0x33 6 0x01 rd rs1 rs2 (lit< tt) (lit< tt) (lit< tt) h
decoded_word (Remu rd rs1 rs2) h = decoded_r 0x33 7 0x01 rd rs1 rs2 (lit< tt) (lit< tt) (lit< tt) h
decoded_word (Mulw rd rs1 rs2) h = decoded_r 0x3b 0 0x01 rd rs1 rs2 (lit< tt) (lit< tt) (lit< tt) h
decoded_word (Divw rd rs1 rs2) h = decoded_r 0x3b 4 0x01 rd rs1 rs2 (lit< tt) (lit< tt) (lit< tt) h
decoded_word (Divuw rd rs1 rs2) h = decoded_r 0x3b 5 0x01 rd rs1 rs2 (lit< tt) (lit< tt) (lit< tt) h
decoded_word (Remw rd rs1 rs2) h = decoded_r 0x3b 6 0x01 rd rs1 rs2 (lit< tt) (lit< tt) (lit< tt) h
decoded_word (Remuw rd rs1 rs2) h = decoded_r 0x3b 7 0x01 rd rs1 rs2 (lit< tt) (lit< tt) (lit< tt) h

pub decoded_listed : (i : Instr) (w : ℕ) → IsListed i w → decoded w ≡ Some i
decoded_listed i w (e, h) = ap decoded (sym e) ∙ decoded_word i h

-- ---- the instruction of a word has the word

some_same : {A : Type 0} {x y : A} → Some x ≡ Some y → x ≡ y
some_same e = cc

either : {A W : Type 0} (b : Bool) (x y : Option A) (i : A) → cond b x y ≡ Some i → (b ≡ true → x ≡ Some i → W) → (b ≡ false → y ≡ Some i → W) → W
either true x y i e f g = f refl e
either false x y i e f g = g refl e

of_none : {A : Type 0} (W : Type 0) (i : A) → None ≡ Some i → W
of_none W i e = absurd (cc)

-- the entries make instructions of one format, under their keys
abbrev IsShaped : (ℕ → ℕ → ℕ → ℕ → Format) → List Entry → Type 0
IsShaped form [] = Unit {0}
IsShaped form (e ∷ entries) = ((x y z : ℕ) → form_of (e.1 x y z) ≡ form e.0 x y z) × IsShaped form entries

listed_same : (i j : Instr) (f : Format) (w : ℕ) → Some i ≡ Some j → form_of i ≡ f → HasWord f w → IsListed j w
listed_same i j f w s e h = subst (λ k. IsListed k w) (some_same s) (subst (λ g. HasWord g w) (sym e) h)

listed_made : (form : ℕ → ℕ → ℕ → ℕ → Format) (entries : List Entry) → IsShaped form entries →
    (key x y z w : ℕ) (i : Instr) → made entries key x y z ≡ Some i → HasWord (form key x y z) w → IsListed i w
listed_made form [] shaped key x y z w i e h = absurd (cc)
listed_made form (entry ∷ entries) (shape, shaped) key x y z w i e h = step (key == entry.0) refl e (λ e. listed_made form entries shaped key x y z w i e h)
  where
    step : (b : Bool) → (key == entry.0) ≡ b → option_map (λ e. e.1 x y z) (cond b (Some entry) (find (λ e. key == e.0) entries)) ≡ Some i →
        (made entries key x y z ≡ Some i → IsListed i w) → IsListed i w
    step true t e more = listed_same (entry.1 x y z) i (form entry.0 x y z) w e (shape x y z) (subst (λ n. HasWord (form n x y z) w) (eqb-true key entry.0 t) h)
    step false t e more = more e

jumps_by_register_shaped : IsShaped (λ key rd rs1 imm. I 0x67 key rd rs1 imm) jumps_by_register
jumps_by_register_shaped = (λ _ _ _. refl, tt)

branches_shaped : IsShaped (λ key rs1 rs2 offset. B 0x63 key rs1 rs2 offset) branches
branches_shaped = (λ _ _ _. refl, (λ _ _ _. refl, (λ _ _ _. refl, (λ _ _ _. refl, (λ _ _ _. refl, (λ _ _ _. refl, tt))))))

loads_shaped : IsShaped (λ key rd rs1 imm. I 0x03 key rd rs1 imm) loads
loads_shaped = (λ _ _ _. refl, (λ _ _ _. refl, (λ _ _ _. refl, (λ _ _ _. refl, (λ _ _ _. refl, (λ _ _ _. refl, (λ _ _ _. refl, tt)))))))

stores_shaped : IsShaped (λ key rs1 rs2 imm. S 0x23 key rs1 rs2 imm) stores
stores_shaped = (λ _ _ _. refl, (λ _ _ _. refl, (λ _ _ _. refl, (λ _ _ _. refl, tt))))

immediates_shaped : IsShaped (λ key rd rs1 imm. I 0x13 key rd rs1 imm) immediates
immediates_shaped = (λ _ _ _. refl, (λ _ _ _. refl, (λ _ _ _. refl, (λ _ _ _. refl, (λ _ _ _. refl, (λ _ _ _. refl, tt))))))

shifts_shaped : IsShaped (λ key rd rs1 shamt. Shift 0x13 (key % 8) (key / 8) rd rs1 shamt) shifts
shifts_shaped = (λ _ _ _. refl, (λ _ _ _. refl, (λ _ _ _. refl, tt)))

registers_shaped : IsShaped (λ key rd rs1 rs2. R 0x33 (key % 8) (key / 8) rd rs1 rs2) registers
registers_shaped = (λ _ _ _. refl, (λ _ _ _. refl, (λ _ _ _. refl, (λ _ _ _. refl, (λ _ _ _. refl, (λ _ _ _. refl, (λ _ _ _. refl, (λ _ _ _. refl, (λ _ _ _. refl, (λ _ _ _. refl, (λ _ _ _. refl, (λ _ _ _. refl, (λ _ _ _. refl, (λ _ _ _. refl, (λ _ _ _. refl, (λ _ _ _. refl, (λ _ _ _. refl, (λ _ _ _. refl, tt))))))))))))))))))

immediates_w_shaped : IsShaped (λ key rd rs1 imm. I 0x1b key rd rs1 imm) immediates_w
immediates_w_shaped = (λ _ _ _. refl, tt)

shifts_w_shaped : IsShaped (λ key rd rs1 rs2. R 0x1b (key % 8) (key / 8) rd rs1 rs2) shifts_w
shifts_w_shaped = (λ _ _ _. refl, (λ _ _ _. refl, (λ _ _ _. refl, tt)))

registers_w_shaped : IsShaped (λ key rd rs1 rs2. R 0x3b (key % 8) (key / 8) rd rs1 rs2) registers_w
registers_w_shaped = (λ _ _ _. refl, (λ _ _ _. refl, (λ _ _ _. refl, (λ _ _ _. refl, (λ _ _ _. refl, (λ _ _ _. refl, (λ _ _ _. refl, (λ _ _ _. refl, (λ _ _ _. refl, (λ _ _ _. refl, tt))))))))))

fences_shaped : IsShaped (λ key rd rs1 imm. I 0x0f key rd rs1 imm) fences
fences_shaped = (λ _ _ _. refl, tt)

r_key : (op f3 f7 rd rs1 rs2 w : ℕ) → f3 < 8 → HasWord (R op f3 f7 rd rs1 rs2) w → HasWord (R op ((f3 + 8 * f7) % 8) ((f3 + 8 * f7) / 8) rd rs1 rs2) w
r_key op f3 f7 rd rs1 rs2 w h g =
    let low : f3 ≡ (f3 + 8 * f7) % 8 = omega arith in
    let high : f7 ≡ (f3 + 8 * f7) / 8 = omega arith in
    subst (λ a. HasWord (R op a ((f3 + 8 * f7) / 8) rd rs1 rs2) w) low (subst (λ b. HasWord (R op f3 b rd rs1 rs2) w) high g)

shift_key : (op f3 f6 rd rs1 shamt w : ℕ) → f3 < 8 → HasWord (Shift op f3 f6 rd rs1 shamt) w → HasWord (Shift op ((f3 + 8 * f6) % 8) ((f3 + 8 * f6) / 8) rd rs1 shamt) w
shift_key op f3 f6 rd rs1 shamt w h g =
    let low : f3 ≡ (f3 + 8 * f6) % 8 = omega arith in
    let high : f6 ≡ (f3 + 8 * f6) / 8 = omega arith in
    subst (λ a. HasWord (Shift op a ((f3 + 8 * f6) / 8) rd rs1 shamt) w) low (subst (λ b. HasWord (Shift op f3 b rd rs1 shamt) w) high g)

pub listed : (w : ℕ) → w < 2 ^ 32 → (i : Instr) → decoded w ≡ Some i → IsListed i w
unfolding named
listed w h i e =
    let f = fields_of w in
    let small : f.funct3 < 8 = omega arith in
    let at_u = λ (n : ℕ) (t : (f.opcode == n) ≡ true). subst (λ o. HasWord (U o f.rd f.imm_u) w) (eqb-true f.opcode n t) (has_u w h) in
    let at_j = λ (n : ℕ) (t : (f.opcode == n) ≡ true). subst (λ o. HasWord (J o f.rd f.offset_j) w) (eqb-true f.opcode n t) (has_j w h) in
    let at_i = λ (n : ℕ) (t : (f.opcode == n) ≡ true). subst (λ o. HasWord (I o f.funct3 f.rd f.rs1 f.imm_i) w) (eqb-true f.opcode n t) (has_i w h) in
    let at_b = λ (n : ℕ) (t : (f.opcode == n) ≡ true). subst (λ o. HasWord (B o f.funct3 f.rs1 f.rs2 f.offset_b) w) (eqb-true f.opcode n t) (has_b w h) in
    let at_s = λ (n : ℕ) (t : (f.opcode == n) ≡ true). subst (λ o. HasWord (S o f.funct3 f.rs1 f.rs2 f.imm_s) w) (eqb-true f.opcode n t) (has_s w h) in
    let at_shift = λ (n : ℕ) (t : (f.opcode == n) ≡ true). shift_key n f.funct3 f.funct6 f.rd f.rs1 f.shamt w small (subst (λ o. HasWord (Shift o f.funct3 f.funct6 f.rd f.rs1 f.shamt) w) (eqb-true f.opcode n t) (has_shift w h)) in
    let at_r = λ (n : ℕ) (t : (f.opcode == n) ≡ true). r_key n f.funct3 f.funct7 f.rd f.rs1 f.rs2 w small (subst (λ o. HasWord (R o f.funct3 f.funct7 f.rd f.rs1 f.rs2) w) (eqb-true f.opcode n t) (has_r w h)) in
    either (f.opcode == 0x37) _ _ i e (λ t s. listed_same _ i (U 0x37 f.rd f.imm_u) w s refl (at_u 0x37 t)) (λ _ e.
    either (f.opcode == 0x17) _ _ i e (λ t s. listed_same _ i (U 0x17 f.rd f.imm_u) w s refl (at_u 0x17 t)) (λ _ e.
    either (f.opcode == 0x6f) _ _ i e (λ t s. listed_same _ i (J 0x6f f.rd f.offset_j) w s refl (at_j 0x6f t)) (λ _ e.
    either (f.opcode == 0x67) _ _ i e (λ t s. listed_made (λ key rd rs1 imm. I 0x67 key rd rs1 imm) jumps_by_register jumps_by_register_shaped f.funct3 f.rd f.rs1 f.imm_i w i s (at_i 0x67 t)) (λ _ e.
    either (f.opcode == 0x63) _ _ i e (λ t s. listed_made (λ key rs1 rs2 offset. B 0x63 key rs1 rs2 offset) branches branches_shaped f.funct3 f.rs1 f.rs2 f.offset_b w i s (at_b 0x63 t)) (λ _ e.
    either (f.opcode == 0x03) _ _ i e (λ t s. listed_made (λ key rd rs1 imm. I 0x03 key rd rs1 imm) loads loads_shaped f.funct3 f.rd f.rs1 f.imm_i w i s (at_i 0x03 t)) (λ _ e.
    either (f.opcode == 0x23) _ _ i e (λ t s. listed_made (λ key rs1 rs2 imm. S 0x23 key rs1 rs2 imm) stores stores_shaped f.funct3 f.rs1 f.rs2 f.imm_s w i s (at_s 0x23 t)) (λ _ e.
    either (f.opcode == 0x13) _ _ i e (λ t s. either (f.funct3 % 4 == 1) _ _ i s (λ _ s. listed_made (λ key rd rs1 shamt. Shift 0x13 (key % 8) (key / 8) rd rs1 shamt) shifts shifts_shaped (f.funct3 + 8 * f.funct6) f.rd f.rs1 f.shamt w i s (at_shift 0x13 t)) (λ _ s. listed_made (λ key rd rs1 imm. I 0x13 key rd rs1 imm) immediates immediates_shaped f.funct3 f.rd f.rs1 f.imm_i w i s (at_i 0x13 t))) (λ _ e.
    either (f.opcode == 0x33) _ _ i e (λ t s. listed_made (λ key rd rs1 rs2. R 0x33 (key % 8) (key / 8) rd rs1 rs2) registers registers_shaped (f.funct3 + 8 * f.funct7) f.rd f.rs1 f.rs2 w i s (at_r 0x33 t)) (λ _ e.
    either (f.opcode == 0x1b) _ _ i e (λ t s. either (f.funct3 == 0) _ _ i s (λ _ s. listed_made (λ key rd rs1 imm. I 0x1b key rd rs1 imm) immediates_w immediates_w_shaped f.funct3 f.rd f.rs1 f.imm_i w i s (at_i 0x1b t)) (λ _ s. listed_made (λ key rd rs1 rs2. R 0x1b (key % 8) (key / 8) rd rs1 rs2) shifts_w shifts_w_shaped (f.funct3 + 8 * f.funct7) f.rd f.rs1 f.rs2 w i s (at_r 0x1b t))) (λ _ e.
    either (f.opcode == 0x3b) _ _ i e (λ t s. listed_made (λ key rd rs1 rs2. R 0x3b (key % 8) (key / 8) rd rs1 rs2) registers_w registers_w_shaped (f.funct3 + 8 * f.funct7) f.rd f.rs1 f.rs2 w i s (at_r 0x3b t)) (λ _ e.
    either (f.opcode == 0x0f) _ _ i e (λ t s. listed_made (λ key rd rs1 imm. I 0x0f key rd rs1 imm) fences fences_shaped f.funct3 f.rd f.rs1 f.imm_i w i s (at_i 0x0f t)) (λ _ e.
    either (w == 0x73) _ _ i e (λ t s. listed_same Ecall i (form_of Ecall) w s refl (sym (eqb-true w 0x73 t), (lit< tt, lit< tt, lit< tt))) (λ _ e.
    either (w == 0x10_0073) _ _ i e (λ t s. listed_same Ebreak i (form_of Ebreak) w s refl (sym (eqb-true w 0x10_0073 t), (lit< tt, lit< tt, lit< tt))) (λ _ e.
    of_none _ i e))))))))))))))

pub unlisted : (w : ℕ) → decoded w ≡ None → (i : Instr) → IsListed i w → ⊥
unlisted w e i h = of_none ⊥ i (sym e ∙ decoded_listed i w h)

-- ---- what decoding answers

pub ok_listed : {E : Type 0} (w : ℕ) → w < 2 ^ 32 → (o : Option Instr) (e : E) (r : Result Instr E) → o ≡ decoded w → r ≡ ok_or o e → IfOk r (λ i. IsListed i w)
ok_listed w h None e r t s = subst (λ r. IfOk r (λ i. IsListed i w)) (sym s) tt
ok_listed w h (Some i) e r t s = subst (λ r. IfOk r (λ i. IsListed i w)) (sym s) (listed w h i (sym t))

pub err_unlisted : {E : Type 0} (w : ℕ) (o : Option Instr) (e : E) (r : Result Instr E) → o ≡ decoded w → r ≡ ok_or o e → IfErr r (λ _. (i : Instr) → ¬ IsListed i w)
err_unlisted w None e r t s = subst (λ r. IfErr r (λ _. (i : Instr) → ¬ IsListed i w)) (sym s) (unlisted w (sym t))
err_unlisted w (Some i) e r t s = subst (λ r. IfErr r (λ _. (i : Instr) → ¬ IsListed i w)) (sym s) tt
