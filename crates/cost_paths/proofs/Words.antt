-- The words of a function have ranks: those of their operations, and their places in these.
use Rattle.std.proofs.Common.{◌≡◌, ◌⊎◌, ℕ, zero, suc, ◌+◌, ◌<◌, ◌≤◌, true, List, [], ◌∷◌, ◌++◌, map, take, length, length-append, Some, None, inl, inr, refl, sym, ap, ◌∙◌, subst, ⊎_elim, arith}
use Rattle.std.proofs.lemmas.Bool.{cases_lt}
use Rattle.std.specs.List.{AllByRecursion}
use Rattle.std.specs.Prelude.{slice_get}
use Rattle.region_forms.specs.Form.{RegionFunction}
use Rattle.linear_forms.specs.Linear.{LinearOp, plain, label, jump, jump_zero, pad, jump_filter, free, resume, unexpected, return, FunctionCode}
use Rattle.linear_forms.specs.Unit.{function_code}
use Rattle.machine_forms.specs.KeptCode.{restores}
use Rattle.machine_forms.specs.Registers.{saved_registers}
use Rattle.machine_forms.specs.Shape.{Shape, epilogue}
use Rattle.machine_forms.specs.LinearCode.{linear_code, result_set}
use Rattle.machine_forms.specs.Routine.{block_words}
use Rattle.machine_forms.specs.Emitted.{shape_of, function_front}
use Rattle.cost_paths.specs.Control.{goes_on, label_of, place_of, CanGo, TurnsBack}
use Rattle.cost_paths.specs.Ahead.{LeadsTo, GoesAhead}
use Rattle.cost_paths.specs.Order.{weight, AreRanks}
use Rattle.cost_paths.specs.Words.{word_of, InFront, InOperation, OperationLeads, LoopTurns, AreWordRanks, HasWordRanks, WordsAreInOrder}
use Rattle.cost_paths.proofs.Ahead.{all_code_goes_ahead}
use Rattle.cost_paths.proofs.Functions.{operations_are_in_order}
use Rattle.cost_paths.proofs.Rows.{item, item_behind, row, row_length, row_item, AllBelow, both_below, row_below, item_below, found_below}
use Rattle.cost_paths.proofs.Leading.{leads_ahead, piece_ahead}

same_op : (a b : LinearOp) → Some a ≡ Some b → a ≡ b
same_op a b e = cc e

-- operations without words

abbrev words_of : Shape → LinearOp → ℕ
words_of f o = length (linear_code f o)

empty_goes_on : (f : Shape) (o : LinearOp) → words_of f o ≡ 0 → goes_on o ≡ true
empty_goes_on f (plain o) e = refl
empty_goes_on f (label l) e = refl
empty_goes_on f (jump l) e = absurd (omega (arith, e))
empty_goes_on f (jump_zero v l) e = refl
empty_goes_on f (pad o s) e = refl
empty_goes_on f (jump_filter s n l) e = refl
empty_goes_on f (free s) e = refl
empty_goes_on f (resume s) e = absurd (omega (arith, e))
empty_goes_on f (unexpected o s) e = absurd (omega (arith, e))
empty_goes_on f (return result) e = absurd (omega (arith, e, length-append (result_set f result ++ restores f saved_registers f.kept) (epilogue f)))

-- what goes on is no jump
stays : (o : LinearOp) (l : ℕ) → goes_on o ≡ true → o ≡ jump l → ⊥
stays o l e same = let no : goes_on (jump l) ≡ true = subst (λ x. goes_on x ≡ true) same e in absurd (cc no)

module _ (g : FunctionCode) (rank : ℕ → ℕ) (h : AreRanks g (words_of (shape_of g)) rank) where
  abbrev f : Shape
  f = shape_of g

  abbrev most : ℕ
  most = weight (words_of f) g.ops

  abbrev front : ℕ
  front = length (function_front f g.parameters)

  -- the ranks of the words of operations from place k on
  abbrev ranks_from : ℕ → List LinearOp → List ℕ
  ranks_from k [] = []
  ranks_from k (o ∷ ops) = row (front + rank k) (words_of f o) ++ ranks_from (k + 1) ops

  abbrev all_ranks : List ℕ
  all_ranks = row 0 front ++ ranks_from 0 g.ops

  abbrev word_rank : ℕ → ℕ
  word_rank n = item all_ranks (front + most) n

  abbrev before : ℕ → List LinearOp → ℕ
  before p ops = block_words (take p (map (linear_code f) ops))

  -- operations stand in the function's code from place k on
  abbrev From : ℕ → List LinearOp → Type 0
  From k ops = (p : ℕ) → slice_get ops p ≡ slice_get g.ops (k + p)

  later : (k : ℕ) (o : LinearOp) (ops : List LinearOp) → From k (o ∷ ops) → From (k + 1) ops
  later k o ops s p = s (suc p) ∙ ap (slice_get g.ops) (omega arith)

  here : (k : ℕ) (o : LinearOp) (ops : List LinearOp) → From k (o ∷ ops) → slice_get g.ops k ≡ Some o
  here k o ops s = let same : k ≡ k + 0 = omega arith in ap (slice_get g.ops) same ∙ sym (s 0)

  counted : (k : ℕ) (ops : List LinearOp) → length (ranks_from k ops) ≡ weight (words_of f) ops
  counted k [] = refl
  counted k (o ∷ ops) = omega (arith, length-append (row (front + rank k) (words_of f o)) (ranks_from (k + 1) ops), row_length (front + rank k) (words_of f o), counted (k + 1) ops)

  -- a word of an operation
  word_item : (ops : List LinearOp) (k p i n : ℕ) (o : LinearOp) → slice_get ops p ≡ Some o → i < words_of f o → n ≡ before p ops + i → item (ranks_from k ops) (front + most) n ≡ front + rank (k + p) + i
  word_item [] k p i n o e lt is = absurd (cc e)
  word_item (x ∷ ops) k zero i n o e lt is =
      let same : x ≡ o = same_op x o e in
      let place : n ≡ i = omega (arith, is) in
      let count = ap (words_of f) same in
      let found = row_item (front + rank k) (words_of f x) (front + most) i (ranks_from (k + 1) ops) (omega (arith, lt, count)) in
      let stays : rank k ≡ rank (k + 0) = ap rank (omega arith) in
      let moved = ap (item (ranks_from k (x ∷ ops)) (front + most)) place in
      omega (arith, moved, found, stays)
  word_item (x ∷ ops) k (suc p) i n o e lt is =
      let m = before p ops + i in
      let skipped = item_behind (row (front + rank k) (words_of f x)) (ranks_from (k + 1) ops) (front + most) m n (omega (arith, is, row_length (front + rank k) (words_of f x))) in
      let next = word_item ops (k + 1) p i m o e lt refl in
      let same : rank (k + 1 + p) ≡ rank (k + suc p) = ap rank (omega arith) in
      omega (arith, skipped, next, same)

  -- an operation without words rises to the next one
  empty_rises : (k : ℕ) (o : LinearOp) → slice_get g.ops k ≡ Some o → words_of f o ≡ 0 → rank k ≤ rank (k + 1)
  empty_rises k o there e =
      let goes = empty_goes_on f o e in
      ⊎_elim (λ le. omega (arith, le, e)) (λ turn. absurd (stays o turn.first goes (same_op o (jump turn.first) (sym there ∙ turn.back)))) (h.rises k (k + 1) o there (inl (goes, refl)))

  -- the first word at a place ranks no lower than the place
  first_item : (ops : List LinearOp) (k p : ℕ) → From k ops → front + rank (k + p) ≤ item (ranks_from k ops) (front + most) (before p ops)
  first_item [] k p s =
      let same = h.behind (k + p) (sym (s p)) in
      omega (arith, same)
  first_item (o ∷ ops) k zero s = go (words_of f o) refl (first_item ops (k + 1) 0 (later k o ops s))
    where
      same : rank (k + 0) ≡ rank k
      same = ap rank (omega arith)

      go : (n : ℕ) → words_of f o ≡ n → front + rank (k + 1 + 0) ≤ item (ranks_from (k + 1) ops) (front + most) 0 →
          front + rank (k + 0) ≤ item (row (front + rank k) n ++ ranks_from (k + 1) ops) (front + most) 0
      go zero e next =
          let rises = empty_rises k o (here k o ops s) e in
          let moved : rank (k + 1 + 0) ≡ rank (k + 1) = ap rank (omega arith) in
          omega (arith, next, rises, moved, same)
      go (suc n) e next = omega (arith, same)
  first_item (o ∷ ops) k (suc p) s =
      let skipped = item_behind (row (front + rank k) (words_of f o)) (ranks_from (k + 1) ops) (front + most) (before p ops) (before (suc p) (o ∷ ops)) (omega (arith, row_length (front + rank k) (words_of f o))) in
      let next = first_item ops (k + 1) p (later k o ops s) in
      let same : rank (k + 1 + p) ≡ rank (k + suc p) = ap rank (omega arith) in
      omega (arith, skipped, next, same)

  whole : From 0 g.ops
  whole p = ap (slice_get g.ops) (omega arith)

  -- so of the function's words
  word_ranked : (p i n : ℕ) (o : LinearOp) → slice_get g.ops p ≡ Some o → i < words_of f o → n ≡ word_of g p + i → word_rank n ≡ front + rank p + i
  word_ranked p i n o e lt is =
      let m = before p g.ops + i in
      let skipped = item_behind (row 0 front) (ranks_from 0 g.ops) (front + most) m n (omega (arith, is, row_length 0 front)) in
      let found = word_item g.ops 0 p i m o e lt refl in
      let same : rank (0 + p) ≡ rank p = ap rank (omega arith) in
      omega (arith, skipped, found, same)

  first_ranked : (q m : ℕ) → m ≡ word_of g q → front + rank q ≤ word_rank m
  first_ranked q m is =
      let skipped = item_behind (row 0 front) (ranks_from 0 g.ops) (front + most) (before q g.ops) m (omega (arith, is, row_length 0 front)) in
      let found = first_item g.ops 0 q whole in
      let same : rank (0 + q) ≡ rank q = ap rank (omega arith) in
      omega (arith, skipped, found, same)

  front_ranked : (n : ℕ) → n < front → word_rank n ≡ n
  front_ranked n lt = let found = row_item 0 front (front + most) n (ranks_from 0 g.ops) lt in omega (arith, found)

  -- the place behind an operation's words
  next_word : (ops : List LinearOp) (p : ℕ) (o : LinearOp) → slice_get ops p ≡ Some o → before (p + 1) ops ≡ before p ops + words_of f o
  next_word [] p o e = absurd (cc e)
  next_word (x ∷ ops) zero o e =
      let count = ap (words_of f) (same_op x o e) in
      let suc_is : zero + 1 ≡ suc zero = omega arith in
      let one = ap (λ n. before n (x ∷ ops)) suc_is in
      omega (arith, count, one)
  next_word (x ∷ ops) (suc p) o e =
      let suc_is : suc p + 1 ≡ suc (p + 1) = omega arith in
      let one = ap (λ n. before n (x ∷ ops)) suc_is in
      omega (arith, one, next_word ops p o e)

  -- an operation that turns back is one word
  turning_word : (p q i n m : ℕ) (o : LinearOp) → slice_get g.ops p ≡ Some o → i < words_of f o → n ≡ word_of g p + i → m ≡ word_of g q → TurnsBack g p q → LoopTurns g n m
  turning_word p q i n m o there lt from to turn =
      let count = ap (words_of f) (same_op o (jump turn.first) (sym there ∙ turn.back)) in
      record { end = p; begin = q; turns = turn; from = omega (arith, from, lt, count); to = to }

  -- control comes from a word of an operation to the first word at a place
  goes : (p q i n m : ℕ) (o : LinearOp) → slice_get g.ops p ≡ Some o → i < words_of f o → n ≡ word_of g p + i → m ≡ word_of g q → CanGo g p o q →
      (word_rank n < word_rank m) ⊎ LoopTurns g n m
  goes p q i n m o there lt from to go =
      ⊎_elim (λ le. inl (omega (arith, le, word_ranked p i n o there lt from, first_ranked q m to, lt)))
      (λ turn. inr (turning_word p q i n m o there lt from to turn)) (h.rises p q o there go)

  operation_leads : (n m : ℕ) (w : InOperation g n) → OperationLeads g n w m → (word_rank n < word_rank m) ⊎ LoopTurns g n m
  operation_leads n m w (inl (j, leads, stays, to)) =
      let o = w.operation in
      let lt = found_below (linear_code f o) w.index w.piece w.word in
      let ahead = piece_ahead (label_of o) (linear_code f o) w.index w.piece ((all_code_goes_ahead f).operations o) w.word in
      let within = leads_ahead (label_of o) ahead.0 w.index j w.piece ahead.1 ahead.3 leads in
      ⊎_elim
      (λ inside. inl (omega (arith, word_ranked w.place w.index n o w.there lt w.is, word_ranked w.place j m o w.there inside to, within.0)))
      (λ past.
      let goes_further = ⊎_elim (λ inside. absurd (omega (arith, inside, past))) (λ e. e) stays in
      let at_next : m ≡ word_of g (w.place + 1) = omega (arith, to, past, within.1, ahead.2, next_word g.ops w.place o w.there) in
      goes w.place (w.place + 1) w.index n m o w.there lt w.is at_next (inl (goes_further, refl)))
      (cases_lt j (words_of f o))
  operation_leads n m w (inr (inl (l, is_jump, to))) =
      let o = w.operation in
      let lt = found_below (linear_code f o) w.index w.piece w.word in
      let ahead = piece_ahead (label_of o) (linear_code f o) w.index w.piece ((all_code_goes_ahead f).operations o) w.word in
      let own : label_of o ≡ Some l = subst (GoesAhead (label_of o) ahead.0) is_jump ahead.1 in
      goes w.place (place_of g l) w.index n m o w.there lt w.is to (inr (inl (l, own, refl)))
  operation_leads n m w (inr (inr (q, chain, covered, to))) =
      let o = w.operation in
      goes w.place q w.index n m o w.there (found_below (linear_code f o) w.index w.piece w.word) w.is to (inr (inr (chain, covered)))

  front_leads : (n m : ℕ) (w : InFront g n) → LeadsTo w.piece n m → word_rank n < word_rank m
  front_leads n m w leads =
      let lt = found_below (function_front f g.parameters) n w.piece w.there in
      let ahead = piece_ahead None (function_front f g.parameters) n w.piece ((all_code_goes_ahead f).front g.parameters) w.there in
      let within = leads_ahead None ahead.0 n m w.piece ahead.1 ahead.3 leads in
      ⊎_elim
      (λ inside. omega (arith, front_ranked n lt, front_ranked m inside, within.0))
      (λ past. omega (arith, front_ranked n lt, lt, first_ranked 0 m (omega (arith, past, within.1, ahead.2))))
      (cases_lt m front)

  ranks_below : (k : ℕ) (ops : List LinearOp) → From k ops → AllBelow (front + most) (ranks_from k ops)
  ranks_below k [] s = tt
  ranks_below k (o ∷ ops) s =
      let inside = h.inside k o (here k o ops s) in
      both_below (front + most) (row (front + rank k) (words_of f o)) (ranks_from (k + 1) ops) (row_below (front + most) (front + rank k) (words_of f o) (omega (arith, inside)))
      (ranks_below (k + 1) ops (later k o ops s))

  all_words : (ops : List LinearOp) → block_words (map (linear_code f) ops) ≡ weight (words_of f) ops
  all_words [] = refl
  all_words (o ∷ ops) = omega (arith, all_words ops)

  are_word_ranks : AreWordRanks g word_rank
  are_word_ranks = record {
    rises = λ n m leads. ⊎_elim (λ w. inl (front_leads n m w.0 w.1)) (λ w. operation_leads n m w.0 w.1) leads;
    inside = λ n lt.
        let count = counted 0 g.ops in
        let words = all_words g.ops in
        let below = item_below (front + most) all_ranks (front + most) n (both_below (front + most) (row 0 front) (ranks_from 0 g.ops) (row_below (front + most) 0 front (omega arith)) (ranks_below 0 g.ops whole))
        (omega (arith, lt, words, count, row_length 0 front, length-append (row 0 front) (ranks_from 0 g.ops))) in
        omega (arith, below, words);
  }

function_words : (x : RegionFunction) → HasWordRanks (function_code x)
function_words x =
    let ranks = operations_are_in_order x (words_of (shape_of (function_code x))) (λ l. refl) in
    (word_rank (function_code x) ranks.0 ranks.1, are_word_ranks (function_code x) ranks.0 ranks.1)

each_function : (fs : List RegionFunction) → AllByRecursion HasWordRanks (map function_code fs)
each_function [] = tt
each_function (x ∷ fs) = (function_words x, each_function fs)

pub words_are_in_order : WordsAreInOrder
words_are_in_order r = each_function r.functions
