-- Positions in lists of texts.
use Rattle.std.proofs.Common.{◌≡◌, ◌<◌, ◌≤◌, ℕ, zero, suc, Bool, true, false, ◌||◌, List, [], ◌∷◌, ◌++◌, Option, Some, None, Vec, refl, ap, ◌∙◌, sym, cond, bytes_eq, length, map, min, take, position, option_map, is_some, Bor, arith, subst}
use Rattle.std.proofs.lemmas.List.{length-append, take-append-le, take-map, take_all, take_min}
use Rattle.std.proofs.lemmas.Slice.Eq.{bytes_eq-Decides}
use Rattle.std.specs.Option.{option_copied}
use Rattle.std.specs.Map.{lookup}
use Rattle.std.specs.declared.alloc.Global.{Global}
use Rattle.cxx_ast.specs.FunctionRules.{has_text}
use Rattle.cxx_ast.proofs.Positions.{position-cons}
use Rattle.cxx_rules.specs.Positions.{texts_of, ArePositions}
use Rattle.cxx_rules.proofs.NameLaws.{bytes_same}

-- a position is that of a list's images
pub position_map : {X Y : Type 0} (f : X → Y) (p : Y → Bool) (xs : List X) → position p (map f xs) ≡ position (λ x. p (f x)) xs
position_map f p [] = refl
position_map f p (x ∷ xs) =
    position-cons p (f x) (map f xs) ∙ ap (λ o. cond (p (f x)) (Some 0) (option_map suc o)) (position_map f p xs) ∙ sym (position-cons (λ x. p (f x)) x xs)

-- the position behind others, where they have none
abbrev pub behind : Option ℕ → Bool → ℕ → Option ℕ
behind (Some i) b n = Some i
behind None b n = cond b (Some n) None

behind_suc : (o : Option ℕ) (b : Bool) (n : ℕ) → option_map suc (behind o b n) ≡ behind (option_map suc o) b (suc n)
behind_suc (Some i) b n = refl
behind_suc None true n = refl
behind_suc None false n = refl

pub position-push : {X : Type 0} (p : X → Bool) (xs : List X) (y : X) → position p (xs ++ y ∷ []) ≡ behind (position p xs) (p y) (length xs)
position-push p [] y = position-cons p y []
position-push p (x ∷ xs) y =
    position-cons p x (xs ++ y ∷ []) ∙ ap (λ o. cond (p x) (Some 0) (option_map suc o)) (position-push p xs y)
    ∙ by (p x) ∙ ap (λ o. behind o (p y) (suc (length xs))) (sym (position-cons p x xs))
  where
    by : (b : Bool) → cond b (Some 0) (option_map suc (behind (position p xs) (p y) (length xs))) ≡ behind (cond b (Some 0) (option_map suc (position p xs))) (p y) (suc (length xs))
    by true = refl
    by false = behind_suc (position p xs) (p y) (length xs)

pub some_suc : (o : Option ℕ) → is_some (option_map suc o) ≡ is_some o
some_suc None = refl
some_suc (Some i) = refl

has_by : (q : List ℕ) (ts : List (List ℕ)) (b : Bool) → is_some (position (λ d. bytes_eq d q) ts) ≡ has_text q ts →
    is_some (cond b (Some 0) (option_map suc (position (λ d. bytes_eq d q) ts))) ≡ (b || has_text q ts)
has_by q ts true h = refl
has_by q ts false h = some_suc (position (λ d. bytes_eq d q) ts) ∙ h

pub has_position : (q : List ℕ) (ts : List (List ℕ)) → is_some (position (λ d. bytes_eq d q) ts) ≡ has_text q ts
has_position q [] = refl
has_position q (t ∷ ts) = ap is_some (position-cons (λ d. bytes_eq d q) t ts) ∙ has_by q ts (bytes_eq t q) (has_position q ts)

-- the entries of a map behind a new one
lookup_push : (q : List ℕ) (k : Vec ℕ Global) (n : ℕ) (es : List (Vec ℕ Global × ℕ)) →
    lookup (λ k. bytes_eq q k.items) (es ++ (k, n) ∷ []) ≡ behind (lookup (λ k. bytes_eq q k.items) es) (bytes_eq q k.items) n
lookup_push q k n [] = refl
lookup_push q k n ((j, m) ∷ es) = lookup_by (bytes_eq q j.items) (lookup_push q k n es)
  where
    lookup_by : (b : Bool) → lookup (λ k. bytes_eq q k.items) (es ++ (k, n) ∷ []) ≡ behind (lookup (λ k. bytes_eq q k.items) es) (bytes_eq q k.items) n →
        cond b (Some m) (lookup (λ k. bytes_eq q k.items) (es ++ (k, n) ∷ [])) ≡ behind (cond b (Some m) (lookup (λ k. bytes_eq q k.items) es)) (bytes_eq q k.items) n
    lookup_by true h = refl
    lookup_by false h = h

-- a text that is found among the first of some stands there
pub position_take : {X : Type 0} (p : X → Bool) (n : ℕ) (xs : List X) → is_some (position p (take n xs)) ≡ true → position p (take n xs) ≡ position p xs
position_take p zero xs h = absurd (cc h)
position_take p (suc n) [] h = refl
position_take p (suc n) (x ∷ xs) h = position-cons p x (take n xs) ∙ by (p x) refl (position_take p n xs) ∙ sym (position-cons p x xs)
  where
    by : (b : Bool) → p x ≡ b → (is_some (position p (take n xs)) ≡ true → position p (take n xs) ≡ position p xs) →
        cond b (Some 0) (option_map suc (position p (take n xs))) ≡ cond b (Some 0) (option_map suc (position p xs))
    by true e rest = refl
    by false e rest =
        let whole = ap (λ b. is_some (cond b (Some 0) (option_map suc (position p (take n xs))))) (sym e) ∙ ap is_some (sym (position-cons p x (take n xs))) ∙ h in
        ap (option_map suc) (rest (sym (some_suc (position p (take n xs))) ∙ whole))

-- a text that is not among the first of more texts is not among the first
not_before : (q text : List ℕ) (ts : List (List ℕ)) → 8 ≤ length ts →
    position (λ d. bytes_eq d q) (take 8 (ts ++ text ∷ [])) ≡ None → position (λ d. bytes_eq d q) (take 8 ts) ≡ None
not_before q text ts long absent = ap (position (λ d. bytes_eq d q)) (sym (take-append-le 8 ts (text ∷ []) long)) ∙ absent

-- what is found among the first few in memory
pub found_few : (q : List ℕ) (vs : List (Vec ℕ Global)) →
    position (λ v. bytes_eq v.items q) (take (min 8 (length vs)) vs) ≡ position (λ d. bytes_eq d q) (take 8 (texts_of vs))
found_few q vs =
    ap (position (λ (v : Vec ℕ Global). bytes_eq v.items q)) (take_min 8 vs)
    ∙ sym (position_map (λ (v : Vec ℕ Global). v.items) (λ d. bytes_eq d q) (take 8 vs))
    ∙ ap (position (λ d. bytes_eq d q)) (sym (take-map (λ (v : Vec ℕ Global). v.items) 8 vs))

-- a new text at the end, where the map has its number
pub positions_new : (text : List ℕ) (k : Vec ℕ Global) (es new : List (Vec ℕ Global × ℕ)) (ts : List (List ℕ)) →
    8 ≤ length ts → ArePositions es ts → k.items ≡ text → new ≡ es ++ (k, length ts) ∷ [] → ArePositions new (ts ++ text ∷ [])
positions_new text k es new ts long h i e q absent =
    ap (lookup (λ k. bytes_eq q k.items)) e ∙ lookup_push q k (length ts) es
    ∙ ap (λ o. behind o (bytes_eq q k.items) (length ts)) (h q (not_before q text ts long absent))
    ∙ ap (λ b. behind (position (λ d. bytes_eq d q) ts) b (length ts)) (ap (bytes_eq q) i ∙ bytes_same q text)
    ∙ sym (position-push (λ d. bytes_eq d q) ts text)

kept : (o : Option ℕ) (b : Bool) (n : ℕ) → (b ≡ true → is_some o ≡ true) → behind o b n ≡ o
kept (Some i) b n h = refl
kept None true n h = cc (h refl)
kept None false n h = refl

-- a text at the end that stands before
pub positions_kept : (text : List ℕ) (es : List (Vec ℕ Global × ℕ)) (ts : List (List ℕ)) →
    8 ≤ length ts → ArePositions es ts → is_some (lookup (λ k. bytes_eq text k.items) es) ≡ true → ArePositions es (ts ++ text ∷ [])
positions_kept text es ts long h there q absent =
    found ∙ sym (kept (position (λ d. bytes_eq d q) ts) (bytes_eq text q) (length ts) known) ∙ sym (position-push (λ d. bytes_eq d q) ts text)
  where
    found : lookup (λ k. bytes_eq q k.items) es ≡ position (λ d. bytes_eq d q) ts
    found = h q (not_before q text ts long absent)

    known : bytes_eq text q ≡ true → is_some (position (λ d. bytes_eq d q) ts) ≡ true
    known e = ap is_some (sym found) ∙ subst (λ x. is_some (lookup (λ k. bytes_eq x k.items) es) ≡ true) ((bytes_eq-Decides text q).0 e) there

behind_none : (o : Option ℕ) (b : Bool) (n : ℕ) → behind o b n ≡ None → o ≡ None
behind_none (Some i) b n h = absurd (cc h)
behind_none None b n h = refl

-- where there are few texts the map has none that is not among them
pub positions_few : (text : List ℕ) (es : List (Vec ℕ Global × ℕ)) (ts : List (List ℕ)) → length ts < 8 → ArePositions es ts → ArePositions es (ts ++ text ∷ [])
positions_few text es ts few h q absent =
    let all = take_all 8 (ts ++ text ∷ []) (omega (arith, few, length-append ts (text ∷ []))) in
    let none = ap (position (λ d. bytes_eq d q)) (sym all) ∙ absent in
    let before = behind_none (position (λ d. bytes_eq d q) ts) (bytes_eq text q) (length ts) (sym (position-push (λ d. bytes_eq d q) ts text) ∙ none) in
    h q (ap (position (λ d. bytes_eq d q)) (take_all 8 ts (omega (arith, few))) ∙ before) ∙ before ∙ sym none

-- a look-up's answer, by whether it is there
pub there_by : (r : Option (Bor ℕ)) (o : Option ℕ) (b : Bool) → option_copied r ≡ o → is_some r ≡ b → is_some o ≡ b
there_by None o b e h = ap is_some (sym e) ∙ h
there_by (Some x) o b e h = ap is_some (sym e) ∙ h

pub none_by : (o : Option ℕ) → is_some o ≡ false → o ≡ None
none_by None e = refl
none_by (Some i) e = cc
