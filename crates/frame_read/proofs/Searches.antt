-- What a search finds over a list of instructions.
use Rattle.std.proofs.Common.{◌≡◌, ◌+◌, ◌≤◌, ◌<◌, ◌^◌, ℕ, Bool, true, false, nat_le, List, [], ◌∷◌, Some, None, refl, ap, ◌∙◌, arith, if◌then◌else◌, fold}
use Rattle.std.specs.Prelude.{min, filter}
use Rattle.std.proofs.lemmas.Bool.Decides.{nat_tests}
use Rattle.eh_bytes.specs.declared.frames.Region64.{Region64}
use Rattle.table_forms.specs.Instruction.{Instruction, nop, go_to, advance, set_cfa, set_cfa_register, set_cfa_offset, set_rule, restore, remember_state, restore_state}
use Rattle.table_forms.specs.Row.{locations_from, least_of, next_location_of}
use Rattle.frame_read.specs.Search.{is_next, lesser, reached, searched}
use Rattle.frame_read.specs.declared.search.Search.{Search}

-- a search whose location is the one to which instructions have moved
pub record IsAt (s : Search) (location : ℕ) : Type 0 where
  pub at : s.location ≡ min location (2 ^ 64)
  pub ends : s.region.start + s.region.length ≤ 2 ^ 64

-- beyond 64 bits a location is in no region
beyond : (s : Search) (a b : ℕ) → 2 ^ 64 ≤ a → 2 ^ 64 ≤ b → s.region.start + s.region.length ≤ 2 ^ 64 → reached s a ≡ reached s b
beyond s a b above above' ends =
    let out : is_next s a ≡ false = grind (arith, nat_tests, above, ends) in
    let out' : is_next s b ≡ false = grind (arith, nat_tests, above', ends) in
    let same : min a (2 ^ 64) ≡ min b (2 ^ 64) = omega (arith, above, above') in
    rw (out, out', same) refl

moves_on : (s : Search) (location n : ℕ) → IsAt s location → reached s (s.location + n) ≡ reached s (location + n)
moves_on s location n at = by (nat_le location (2 ^ 64)) refl
  where
    by : (b : Bool) → nat_le location (2 ^ 64) ≡ b → reached s (s.location + n) ≡ reached s (location + n)
    by true e = let below : location ≤ 2 ^ 64 = grind (arith, nat_tests, e) in let same : s.location ≡ location = let a = at.at in omega (arith, a, below) in ap (λ l. reached s (l + n)) same
    by false e =
        let above : 2 ^ 64 ≤ location = grind (arith, nat_tests, e) in
        let a = at.at in
        beyond s (s.location + n) (location + n) (omega (arith, a, above)) (omega (arith, above)) at.ends

abbrev Finds : List Instruction → ℕ → Search → Type 0
Finds is location s = (fold searched s is).least ≡ fold lesser s.least (filter (is_next s) (locations_from location is))

moved : (s : Search) (l : ℕ) (is : List Instruction) → ((t : Search) → IsAt t l → Finds is l t) → s.region.start + s.region.length ≤ 2 ^ 64 →
    (fold searched (reached s l) is).least ≡ fold lesser s.least (filter (is_next s) (l ∷ locations_from l is))
moved s l is later ends = later (reached s l) (record { at = refl; ends = ends }) ∙ by (is_next s l)
  where
    rest : List ℕ
    rest = filter (is_next s) (locations_from l is)

    by : (b : Bool) → fold lesser (if b then lesser s.least l else s.least) rest ≡ fold lesser s.least (if b then l ∷ rest else rest)
    by true = refl
    by false = refl

-- what it finds of the rest, with what it has found
searches : (is : List Instruction) (location : ℕ) (s : Search) → IsAt s location → Finds is location s
searches [] location s at = refl
searches (go_to l ∷ is) location s at = moved s l is (searches is l) at.ends
searches (advance n ∷ is) location s at =
    ap (λ (t : Search). (fold searched t is).least) (moves_on s location n at) ∙ moved s (location + n) is (searches is (location + n)) at.ends
searches (nop ∷ is) location s at = searches is location s at
searches (set_cfa r n ∷ is) location s at = searches is location s at
searches (set_cfa_register r ∷ is) location s at = searches is location s at
searches (set_cfa_offset n ∷ is) location s at = searches is location s at
searches (set_rule r rule ∷ is) location s at = searches is location s at
searches (restore r ∷ is) location s at = searches is location s at
searches (remember_state ∷ is) location s at = searches is location s at
searches (restore_state ∷ is) location s at = searches is location s at

lesser_some : (m : ℕ) (ns : List ℕ) → fold lesser (Some m) ns ≡ Some (fold min m ns)
lesser_some m [] = refl
lesser_some m (n ∷ ns) = lesser_some (min m n) ns

lesser_none : (ns : List ℕ) → fold lesser None ns ≡ least_of ns
lesser_none [] = refl
lesser_none (n ∷ ns) = lesser_some n ns

-- a search that begins with a region
abbrev pub begins : Region64 → ℕ → Search
begins region pc = record { region = region; pc = pc; location = region.start; least = None }

pub finds : (region : Region64) (pc : ℕ) (is : List Instruction) → region.start + region.length < 2 ^ 64 →
    (fold searched (begins region pc) is).least ≡ next_location_of region.start region.length is pc
unfolding next_location_of
finds region pc is ends =
    searches is region.start (begins region pc) (record { at = omega (arith, ends); ends = omega (arith, ends) }) ∙
    lesser_none (filter (is_next (begins region pc)) (locations_from region.start is))
