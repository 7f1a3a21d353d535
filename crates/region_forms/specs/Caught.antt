-- The caught list with signed counts (Itanium C++ ABI: Exception Handling, 2.2.2). A run of one exception among the handled ones is one entry: `more` counts the handlers of it
-- after the first, and `again` says that it travels again, which a machine writes as a negative count.
use Rattle.std.specs.Prelude.{ℕ, zero, suc, Bool, true, false, not, ◌||◌, ◌==◌, List, [], ◌∷◌, if◌then◌else◌}
use Rattle.meaning_forms.specs.Class.{contains}

-- one entry: its exception's number, how many handlers of it there are behind the first, and whether it travels again
pub record Entry : Type 0 where
  pub number : ℕ
  pub more : ℕ
  pub again : Bool

-- an exception is handled once more, on a list that begins with an entry
abbrev pub counted : Bool → ℕ → Bool → Entry → List Entry → List Entry
counted true e b x xs = record { number = e; more = suc x.more; again = b } ∷ xs
counted false e b x xs = record { number = e; more = 0; again = b } ∷ x ∷ xs

-- an exception is handled once more, and travels again or not
abbrev pub handled_on : ℕ → Bool → List Entry → List Entry
handled_on e b [] = record { number = e; more = 0; again = b } ∷ []
handled_on e b (x ∷ xs) = counted (x.number == e) e b x xs

-- an exception is entered
abbrev pub entered_on : ℕ → List Entry → List Entry
entered_on e xs = handled_on e false xs

-- the newest exception travels again, if it is this one
abbrev pub flown : ℕ → List Entry → List Entry
flown e [] = []
flown e (x ∷ xs) = (if x.number == e then record x { again = true } else x) ∷ xs

-- one handler of an exception is left
abbrev pub left_count : Bool → ℕ → ℕ → List Entry → List Entry
left_count b zero e xs = xs
left_count b (suc n) e xs = record { number = e; more = n; again = b } ∷ xs

-- the newest handler is left
abbrev pub left_of : List Entry → List Entry
left_of [] = []
left_of (x ∷ xs) = left_count x.again x.more x.number xs

-- the exception does not travel again, and this is its last handler
abbrev pub last_count : Bool → ℕ → Bool
last_count true n = false
last_count false zero = true
last_count false (suc n) = false

-- no handler of the exception is left and it does not travel again, so it is given back
abbrev pub is_last : Entry → Bool
is_last x = last_count x.again x.more

-- the newest handled exception is given back when its handler is left
abbrev pub gives_back : List Entry → Bool
gives_back [] = false
gives_back (x ∷ xs) = is_last x

-- some entry is of another exception
abbrev pub holds_other : ℕ → List Entry → Bool
holds_other e [] = false
holds_other e (x ∷ xs) = not (x.number == e) || holds_other e xs

-- the list as a function of the handled exceptions, newest first and once for each handler, and of those that travel
abbrev pub caught_of : List ℕ → List ℕ → List Entry
caught_of travelling [] = []
caught_of travelling (e ∷ handled) = handled_on e (contains travelling e) (caught_of travelling handled)

-- all handlers of an exception stand in front, as they do of one that travels
abbrev pub only_front : ℕ → List ℕ → Bool
only_front e [] = true
only_front e (x ∷ xs) = if x == e then only_front e xs else not (contains xs e)
