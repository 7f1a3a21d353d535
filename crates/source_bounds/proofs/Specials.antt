-- A class has at most 17 constructors with fewer than 16 parameters, and at most one destructor: no two have the same number of
-- parameters, unless one of them is the copy constructor.
use Rattle.std.proofs.Common.{◌≡◌, ◌∙◌, ℕ, ◌+◌, ◌≤◌, ◌<◌, ◌==◌, ◌&&◌, ◌||◌, Bool, true, false, List, [], ◌∷◌, length, bytes_eq, if◌then◌else◌, refl, sym, ap, subst, arith}
use Rattle.std.specs.Prelude.{nat_lt}
use Rattle.std.specs.List.{AllByRecursion}
use Rattle.std.proofs.lemmas.Bool.{and_parts}
use Rattle.std.proofs.lemmas.Bool.Decides.{nat_tests}
use Rattle.cxx_ast.specs.declared.declaration.FuncKind.{FuncKind}
use Rattle.cxx_ast.specs.declared.declaration.FuncKind.TheVariants.{Plain, Method, Constructor, Destructor}
use Rattle.cxx_ast.specs.Environment.{Passing, Signature}
use Rattle.cxx_ast.specs.Finding.{is_sound, breaks_if}
use Rattle.cxx_ast.specs.Rule.{redeclared, unknown_name}
use Rattle.cxx_ast.specs.Construct.{are_copy_parameters, is_constructor_kind}
use Rattle.cxx_ast.specs.ClassRules.{same_test, clash, clashes, has_class_name, specials_found}
use Rattle.class_layout.proofs.Sound.{front_sound, back_sound, not_broken}
use Rattle.source_bounds.proofs.Sums.{sum_from, sum_plus, sum_of_few, found_once, flag}

-- how many pass a test
abbrev pub count : (Signature → Bool) → List Signature → ℕ
count test [] = 0
count test (s ∷ ss) = flag (test s) + count test ss

left_false : (a b : Bool) → (a || b) ≡ false → a ≡ false
left_false true b h = absurd (cc h)
left_false false b h = refl

right_false : (a b : Bool) → (a || b) ≡ false → b ≡ false
right_false true b h = absurd (cc h)
right_false false b h = h

both_false : (a b : Bool) → a ≡ true → b ≡ true → (a && b) ≡ false → ⊥
both_false a b h k e = absurd (cc (sym (ap (λ x. x && b) h ∙ k) ∙ e))

-- Functions of a kind, of which any two clash, and each of which is a constructor or a destructor: there is at most one.
module _ (k : ℕ) (text : List ℕ) (test : Signature → Bool) (special : (s : Signature) → test s ≡ true → has_class_name s.form ≡ true)
    (clashing : (s t : Signature) → test s ≡ true → test t ≡ true → clash k t.form s.form t s ≡ true) where
  abbrev Named : List Signature → Type 0
  Named ss = AllByRecursion (λ t. has_class_name t.form ≡ true → bytes_eq t.name.text text ≡ true) ss

  none_before : (s : Signature) (before : List Signature) → test s ≡ true → Named before → clashes k text before s ≡ false → count test before ≡ 0
  none_before s [] h named e = refl
  none_before s (t ∷ before) h named e =
      let first = left_false (bytes_eq t.name.text text && clash k t.form s.form t s) (clashes k text before s) e in
      let others = right_false (bytes_eq t.name.text text && clash k t.form s.form t s) (clashes k text before s) e in
      go (test t) refl (none_before s before h named.1 others) first
    where
      go : (b : Bool) → test t ≡ b → count test before ≡ 0 → (bytes_eq t.name.text text && clash k t.form s.form t s) ≡ false → flag b + count test before ≡ 0
      go true q rest e = absurd (both_false (bytes_eq t.name.text text) (clash k t.form s.form t s) (named.0 (special t q)) (clashing s t h q) e)
      go false q rest e = omega (arith, rest)

  few_behind : (before more : List Signature) → Named before → count test before ≤ 1 → is_sound (specials_found k text before more) ≡ true →
      count test before + count test more ≤ 1
  few_behind before [] named few sound = omega (arith, few)
  few_behind before (s ∷ more) named few sound =
      let own = if bytes_eq s.name.text text then breaks_if (clashes k text before s) redeclared s.name.place else breaks_if (has_class_name s.form) unknown_name s.name.place in
      let first = front_sound own (specials_found k text (s ∷ before) more) sound in
      let rest = back_sound own (specials_found k text (s ∷ before) more) sound in
      let right = is_named (bytes_eq s.name.text text) refl first in
      let one = at_most (test s) refl (bytes_eq s.name.text text) refl first in
      omega (arith, few_behind (s ∷ before) more (right, named) one rest)
    where
      is_named : (b : Bool) → bytes_eq s.name.text text ≡ b →
          is_sound (if b then breaks_if (clashes k text before s) redeclared s.name.place else breaks_if (has_class_name s.form) unknown_name s.name.place) ≡ true →
          has_class_name s.form ≡ true → bytes_eq s.name.text text ≡ true
      is_named true e h q = e
      is_named false e h q = absurd (cc (sym q ∙ not_broken (has_class_name s.form) unknown_name s.name.place h))

      at_most : (c : Bool) → test s ≡ c → (b : Bool) → bytes_eq s.name.text text ≡ b →
          is_sound (if b then breaks_if (clashes k text before s) redeclared s.name.place else breaks_if (has_class_name s.form) unknown_name s.name.place) ≡ true →
          flag c + count test before ≤ 1
      at_most false q b e h = omega (arith, few)
      at_most true q true e h = omega (arith, none_before s before q named (not_broken (clashes k text before s) redeclared s.name.place h))
      at_most true q false e h = absurd (cc (sym (special s q) ∙ not_broken (has_class_name s.form) unknown_name s.name.place h))

  pub at_most_one : (ss : List Signature) → is_sound (specials_found k text [] ss) ≡ true → count test ss ≤ 1
  at_most_one ss sound = omega (arith, few_behind [] ss tt (omega arith) sound)

-- destructors

abbrev pub is_destructor_kind : FuncKind → Bool
is_destructor_kind Destructor = true
is_destructor_kind _ = false

destructor_special : (f : FuncKind) → is_destructor_kind f ≡ true → has_class_name f ≡ true
destructor_special Plain h = absurd (cc h)
destructor_special Method h = absurd (cc h)
destructor_special Constructor h = absurd (cc h)
destructor_special Destructor h = refl

destructor_clash : (k : ℕ) (f g : FuncKind) (s t : Signature) → is_destructor_kind f ≡ true → is_destructor_kind g ≡ true → clash k g f t s ≡ true
destructor_clash k Destructor Destructor s t h q = refl
destructor_clash k Plain g s t h q = absurd (cc h)
destructor_clash k Method g s t h q = absurd (cc h)
destructor_clash k Constructor g s t h q = absurd (cc h)
destructor_clash k Destructor Plain s t h q = absurd (cc q)
destructor_clash k Destructor Method s t h q = absurd (cc q)
destructor_clash k Destructor Constructor s t h q = absurd (cc q)

pub one_destructor : (k : ℕ) (text : List ℕ) (ss : List Signature) → is_sound (specials_found k text [] ss) ≡ true → count (λ s. is_destructor_kind s.form) ss ≤ 1
one_destructor k text ss sound =
    at_most_one k text (λ s. is_destructor_kind s.form) (λ s h. destructor_special s.form h) (λ s t h q. destructor_clash k s.form t.form s t h q) ss sound

-- constructors

-- the number of parameters; 16 for a copy constructor
abbrev key : ℕ → Signature → ℕ
key k s = if are_copy_parameters k s.parameters then 16 else length s.parameters

abbrev pub is_small : Signature → Bool
is_small s = is_constructor_kind s.form && nat_lt (length s.parameters) 16

abbrev has_key : ℕ → ℕ → Signature → Bool
has_key k a s = is_small s && key k s == a

is_constructor : (f : FuncKind) → is_constructor_kind f ≡ true → f ≡ Constructor
is_constructor Plain h = absurd (cc h)
is_constructor Method h = absurd (cc h)
is_constructor Constructor h = refl
is_constructor Destructor h = absurd (cc h)

one_parameter : (k : ℕ) (ps : List Passing) → are_copy_parameters k ps ≡ true → length ps ≡ 1
one_parameter k [] h = absurd (cc h)
one_parameter k (p ∷ []) h = refl
one_parameter k (p ∷ q ∷ ps) h = absurd (cc h)

is_below : (n : ℕ) → nat_lt n 16 ≡ true → n < 16
is_below n e = grind (arith, nat_tests, e)

is_equal : (a b : ℕ) → (a == b) ≡ true → a ≡ b
is_equal a b e = grind (arith, nat_tests, e)

are_equal : (a b : ℕ) → a ≡ b → (a == b) ≡ true
are_equal a b e = grind (arith, nat_tests, e)

same_key : (c d : Bool) (m n a : ℕ) → (c ≡ true → m ≡ 1) → (d ≡ true → n ≡ 1) → m < 16 → n < 16 → (if c then 16 else m) ≡ a → (if d then 16 else n) ≡ a →
    (same_test d c && n == m) ≡ true
same_key true true m n a h g below under p q = are_equal n m (omega (arith, h refl, g refl))
same_key true false m n a h g below under p q = absurd (omega (arith, under, p, q))
same_key false true m n a h g below under p q = absurd (omega (arith, below, p, q))
same_key false false m n a h g below under p q = are_equal n m (omega (arith, p, q))

constructor_clash : (k a : ℕ) (s t : Signature) → has_key k a s ≡ true → has_key k a t ≡ true → clash k t.form s.form t s ≡ true
constructor_clash k a s t h g =
    let hs = and_parts (is_small s) (key k s == a) h in
    let ht = and_parts (is_small t) (key k t == a) g in
    let fs = and_parts (is_constructor_kind s.form) (nat_lt (length s.parameters) 16) hs.0 in
    let ft = and_parts (is_constructor_kind t.form) (nat_lt (length t.parameters) 16) ht.0 in
    let core = same_key (are_copy_parameters k s.parameters) (are_copy_parameters k t.parameters) (length s.parameters) (length t.parameters) a
    (one_parameter k s.parameters) (one_parameter k t.parameters) (is_below (length s.parameters) fs.1) (is_below (length t.parameters) ft.1)
    (is_equal (key k s) a hs.1) (is_equal (key k t) a ht.1) in
    subst (λ f. clash k f s.form t s ≡ true) (sym (is_constructor t.form ft.0))
    (subst (λ f. clash k Constructor f t s ≡ true) (sym (is_constructor s.form fs.0)) core)

constructor_special : (f : FuncKind) → is_constructor_kind f ≡ true → has_class_name f ≡ true
constructor_special f h = subst (λ g. has_class_name g ≡ true) (sym (is_constructor f h)) refl

one_of_key : (k a : ℕ) (text : List ℕ) (ss : List Signature) → is_sound (specials_found k text [] ss) ≡ true → count (has_key k a) ss ≤ 1
one_of_key k a text ss sound =
    at_most_one k text (has_key k a)
    (λ s h. constructor_special s.form (and_parts (is_constructor_kind s.form) (nat_lt (length s.parameters) 16) (and_parts (is_small s) (key k s == a) h).0).0)
    (constructor_clash k a) ss sound

-- each has a key below 17
key_below : (c : Bool) (n : ℕ) → n < 16 → (if c then 16 else n) < 17
key_below true n h = omega arith
key_below false n h = omega (arith, h)

flag_of_key : (k : ℕ) (s : Signature) → flag (is_small s) ≤ sum_from (λ a. flag (has_key k a s)) 0 17
flag_of_key k s = go (is_small s) refl
  where
    go : (b : Bool) → is_small s ≡ b → flag b ≤ sum_from (λ a. flag (b && key k s == a)) 0 17
    go true e =
        let parts = and_parts (is_constructor_kind s.form) (nat_lt (length s.parameters) 16) e in
        found_once (key k s) 0 17 (omega arith) (key_below (are_copy_parameters k s.parameters) (length s.parameters) (is_below (length s.parameters) parts.1))
    go false e = omega arith

all_keyed : (k : ℕ) (ss : List Signature) → count is_small ss ≤ sum_from (λ a. count (has_key k a) ss) 0 17
all_keyed k [] = omega arith
all_keyed k (s ∷ ss) =
    omega (arith, flag_of_key k s, all_keyed k ss, sum_plus (λ a. flag (has_key k a s)) (λ a. count (has_key k a) ss) 0 17)

pub few_constructors : (k : ℕ) (text : List ℕ) (ss : List Signature) → is_sound (specials_found k text [] ss) ≡ true → count is_small ss ≤ 17
few_constructors k text ss sound =
    omega (arith, all_keyed k ss, sum_of_few (λ a. count (has_key k a) ss) 0 17 (λ a. one_of_key k a text ss sound))
